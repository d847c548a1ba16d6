use Rattle.std.proofs.Common.{◌≡◌, sym, subst, rules}
use Rattle.rows.specs.Shapes.{opposite_of}
use Rattle.rows.specs.WrittenMade.{TurnsRound}
use Rattle.rows.proofs.Opposites.{opposite_turns}
use Rattle.rows.proofs.written.WrittenRow.opposite.Goals as goal

pub returns-clause-turned : goal.returns-clause-turned
returns-clause-turned c =
    let e : c.within_limit.result.numbers ≡ opposite_of c.args.self.now.numbers = search rules in
    subst (TurnsRound c.args.self.now.numbers) (sym e) (opposite_turns c.args.self.now.numbers)
