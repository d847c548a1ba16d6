-- Tables of names.
use Rattle.std.specs.Prelude.{ℕ, cond, List, [], ◌∷◌, Some, None, Option}
use Rattle.std.specs.Str.{bytes_eq}

-- what the word names in a table, the first entry first
abbrev pub named : {X : Type 0} → List (List ℕ × X) → List ℕ → Option X
named [] w = None
named (entry ∷ table) w = cond (bytes_eq w entry.0) (Some entry.1) (named table w)
