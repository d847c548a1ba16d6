-- What the tests of a heading tell of its counts.
use Rattle.std.proofs.Common.{◌≡◌, ℕ, ◌+◌, ◌≤◌, Bool, true, ◌&&◌, leb, List, Ok}
use Rattle.std.proofs.lemmas.Bool.{and_parts, leb-true}
use Rattle.rows.specs.declared.fault.Fault.{Fault}
use Rattle.rows.specs.declared.fault.FaultKind.TheVariants.{TableLength, TableCount}
use Rattle.rows.specs.Faults.{Said, ◌and_then◌, check}
use Rattle.rows.proofs.Chains.{both, check_true}
use Rattle.records.specs.Limits.{most_values, most_choices}
use Rattle.formats.specs.Pieces.{byte_at, fault_at, rest_from, reach_says}
use Rattle.formats.specs.Tables.{values_from, choices_from, heading_says}

-- a yes of a chain is one of its second test, and of the rest behind that
pub second : (a : Said) (t : Bool) (f : Fault) (d : Said) → (a and_then check t f and_then d) ≡ Ok tt → (t ≡ true) × (d ≡ Ok tt)
second a t f d e =
    let r = both (check t f) d (both a (check t f and_then d) e).1 in
    (check_true t f r.0, r.1)

module _ (offset : ℕ) (rest : List ℕ) (e : heading_says offset rest ≡ Ok tt) where
  pub heading_values : (1 ≤ byte_at rest values_from) × (byte_at rest values_from ≤ most_values)
  unfolding heading_says
  heading_values =
      let b = second (reach_says TableLength offset rest (values_from + 1)) (leb 1 (byte_at rest values_from) && leb (byte_at rest values_from) most_values) (fault_at TableCount (rest_from offset + values_from)) _ e in
      let p = and_parts (leb 1 (byte_at rest values_from)) (leb (byte_at rest values_from) most_values) b.0 in
      (leb-true 1 (byte_at rest values_from) p.0, leb-true (byte_at rest values_from) most_values p.1)

  pub heading_choices : byte_at rest choices_from ≤ most_choices
  unfolding heading_says
  heading_choices =
      let b = second (reach_says TableLength offset rest (values_from + 1)) (leb 1 (byte_at rest values_from) && leb (byte_at rest values_from) most_values) (fault_at TableCount (rest_from offset + values_from)) _ e in
      let k = second (reach_says TableLength offset rest (choices_from + 1)) (leb 0 (byte_at rest choices_from) && leb (byte_at rest choices_from) most_choices) (fault_at TableCount (rest_from offset + choices_from)) _ b.1 in
      leb-true (byte_at rest choices_from) most_choices (and_parts (leb 0 (byte_at rest choices_from)) (leb (byte_at rest choices_from) most_choices) k.0).1
