-- An offset that stops at the largest its type holds: past the end of any slice either way.
use Rattle.std.proofs.Common.{◌≡◌, ℕ, ◌+◌, ◌-◌, ◌^◌, ◌<◌, min, List, length, get_or, sym, ap, ◌∙◌, inl, inr, arith}
use Rattle.std.proofs.lemmas.List.{get_or_past}
use Rattle.std.proofs.lemmas.Bool.{cases_lt}
use Rattle.rows.specs.Bytes.{word_at}

module _ (bytes : List ℕ) (at n : ℕ) (short : length bytes < 2 ^ 64) where
  pub byte_capped : get_or bytes (min (at + n) (2 ^ 64 - 1)) 0 ≡ get_or bytes (at + n) 0
  byte_capped =
      elim (cases_lt (at + n) (2 ^ 64)) [
        | inl l ↦ ap (λ (k : ℕ). get_or bytes k 0) (omega arith)
        | inr l ↦ get_or_past bytes (min (at + n) (2 ^ 64 - 1)) 0 (omega arith) ∙ sym (get_or_past bytes (at + n) 0 (omega arith))
      ]

  pub word_capped : word_at bytes (min (at + n) (2 ^ 64 - 1)) ≡ word_at bytes (at + n)
  word_capped =
      elim (cases_lt (at + n) (2 ^ 64)) [
        | inl l ↦ ap (word_at bytes) (omega arith)
        | inr l ↦
            let a = get_or_past bytes (min (at + n) (2 ^ 64 - 1)) 0 (omega arith) in
            let b = get_or_past bytes (min (at + n) (2 ^ 64 - 1) + 1) 0 (omega arith) in
            let c = get_or_past bytes (at + n) 0 (omega arith) in
            let d = get_or_past bytes (at + n + 1) 0 (omega arith) in
            rw (a, b, c, d)
      ]
