use Rattle.std.proofs.Common.{◌≡◌, ℕ, Bool, false, ◌&&◌, Some, None, Option, ap, ◌∙◌, rules, tests, MatchOption}
use Rattle.std.specs.Option.{option_map}
use Rattle.records.specs.declared.records.Transition.{Transition}
use Rattle.records.specs.Lists.{first_with, among}
use Rattle.records.specs.Records.{TransitionData, transition_of}
use Rattle.formats.specs.Witnesses.{Named, inner_fits, joins_listed}
use Rattle.sequences.specs.TableGiven.{named_of}
use Rattle.sequences.proofs.named.Named.inner_fits.Goals as goal

-- whether an inner transition fits, by the transition that was found
fits : (named : Named) (n : ℕ) (o : Option Transition) (r : Bool) → option_map transition_of o ≡ first_with (λ (t : TransitionData). t.number) n named.transitions → MatchOption o (r ≡ false) (λ t. r ≡ (among t.start named.places && among t.target named.places)) → r ≡ inner_fits named n
unfolding inner_fits
fits named n None r e h = h ∙ ap (joins_listed named.places) e
fits named n (Some t) r e h = h ∙ ap (joins_listed named.places) e

pub returns : goal.returns
returns c = fits (named_of c.args.self) c.args.number c.transition.result c.is_some_and.result c.transition.ensures (search (rules, tests))
