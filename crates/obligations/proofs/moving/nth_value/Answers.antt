use Rattle.std.proofs.Common.{◌≡◌, List, map, ℤ, pos, Some, None, Option, unwrap_or, refl, ap, ◌∙◌, arith, w64, SFits, rules}
use Rattle.std.proofs.lemmas.Grind.{common_steps}
use Rattle.std.proofs.lemmas.Int.{to_z-of_z}
use Rattle.std.specs.Option.{option_map, option_copied}
use Rattle.rows.specs.declared.expression.Expression.{Expression}
use Rattle.records.specs.Lists.{at}
use Rattle.records.specs.Records.{expression_of}
use Rattle.semantics.specs.Runs.{value_at}
use Rattle.obligations.proofs.ShortLists.{at_plain, get_d_at}
use Rattle.obligations.proofs.moving.nth_value.Goals as goal

in_steps : (p : List ℤ) (o : Option Expression) → option_map (λ (e : Expression). value_at p (expression_of e)) o ≡ option_map (value_at p) (option_map expression_of o)
in_steps p None = refl
in_steps p (Some e) = refl

pub returns : goal.returns
returns c =
    let p = c.args.point.now.values in
    let es = c.args.expressions.now in
    let f : SFits w64 c.map_or.result = search rules in
    let m : c.map_or.result ≡ unwrap_or (option_map (λ (e : Expression). value_at p (expression_of e)) (option_copied c.get.result)) (pos 0) = search rules in
    let q : option_copied c.get.result ≡ at c.args.index es = grind (arith, common_steps) in
    to_z-of_z w64 _ f
    ∙ m
    ∙ ap (λ (o : Option ℤ). unwrap_or o (pos 0)) (in_steps p _ ∙ at_plain (value_at p) c.args.index (map expression_of es) _ (at_plain expression_of c.args.index es _ q))
    ∙ get_d_at (map (value_at p) (map expression_of es)) c.args.index (pos 0)
