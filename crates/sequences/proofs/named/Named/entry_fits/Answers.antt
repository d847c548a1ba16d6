use Rattle.std.proofs.Common.{◌≡◌, ℕ, Bool, false, ◌&&◌, eqb, Some, None, Option, ap, ◌∙◌, rules, tests, MatchOption}
use Rattle.std.specs.Option.{option_map}
use Rattle.records.specs.declared.records.Transition.{Transition}
use Rattle.records.specs.Lists.{first_with, among}
use Rattle.records.specs.Records.{TransitionData, transition_of}
use Rattle.formats.specs.Witnesses.{Named, entry_fits, starts_at}
use Rattle.sequences.specs.TableGiven.{named_of}
use Rattle.sequences.proofs.named.Named.entry_fits.Goals as goal

-- whether an entry fits, by the transition that was found
fits : (named : Named) (place n : ℕ) (o : Option Transition) (r : Bool) → option_map transition_of o ≡ first_with (λ (t : TransitionData). t.number) n named.transitions → MatchOption o (r ≡ false) (λ t. r ≡ (eqb t.start place && among n named.inners)) → r ≡ entry_fits named place n
unfolding entry_fits
fits named place n None r e h = h ∙ ap (λ (o : Option TransitionData). starts_at place o && among n named.inners) e
fits named place n (Some t) r e h = h ∙ ap (λ (o : Option TransitionData). starts_at place o && among n named.inners) e

pub returns : goal.returns
returns c = fits (named_of c.args.self) c.args.place c.args.number c.transition.result c.is_some_and.result c.transition.ensures (search (rules, tests))
