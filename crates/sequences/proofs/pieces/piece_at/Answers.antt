use Rattle.std.proofs.Common.{rules, ◌≡◌, ℕ, ◌+◌, ◌-◌, ◌<◌, ◌≤◌, min, List, length, take, drop, Some, None, Option, Ok, Err, Result, Bor, refl, sym, ap, ◌∙◌, subst, ◌⊎◌, inl, inr, arith}
use Rattle.std.proofs.lemmas.List.{take_all, length-drop}
use Rattle.std.proofs.lemmas.Result.{err_from_is_err_and}
use Rattle.std.specs.List.{PartBy, slice_range}
use Rattle.std.specs.Option.{ok_or}
use Rattle.rows.specs.declared.fault.Fault.{Fault}
use Rattle.rows.specs.Bytes.{word_at}
use Rattle.formats.specs.Pieces.{rest_from, piece_end}
use Rattle.formats.proofs.PieceTests.{no_length, no_rest, found}
use Rattle.sequences.proofs.pieces.piece_at.Goals as goal

module _ (xs : List ℕ) (from to : ℕ) (r : Result (Bor (List ℕ)) Fault) (e : Fault) where
  abbrev fault_of : Result (Bor (List ℕ)) Fault → Fault
  fault_of (Ok x) = e
  fault_of (Err f) = f

  -- a part that is not there, and one that is
  lost : (o : Option (Bor (List ℕ))) (f : Fault) → PartBy (λ (x : Bor (List ℕ)). x.now) xs from to o → r ≡ ok_or o e → r ≡ Err f → (f ≡ e) × ((to < from) ⊎ (length xs < to))
  lost None f l v w = (ap fault_of (sym w ∙ v), l.0)
  lost (Some x) f l v w = cc

  abbrev part : Result (Bor (List ℕ)) Fault → Type 0
  part (Ok x) = (from ≤ to) × (to ≤ length xs) × (x.now ≡ slice_range xs from to) × (length x.now + from ≡ to)
  part (Err f) = Unit {0}

  gained : (o : Option (Bor (List ℕ))) (x : Bor (List ℕ)) → PartBy (λ (x : Bor (List ℕ)). x.now) xs from to o → r ≡ ok_or o e → r ≡ Ok x → part (Ok x)
  gained None x l v w = cc
  gained (Some y) x l v w = subst part (sym v ∙ w) l.0

-- a length field that does not end within the bytes, and one that does
short : (n a m k : ℕ) → m ≡ min a k → (n < m) ⊎ (n < n) → n < a
short n a m k e (inl h) = omega (arith, e)
short n a m k e (inr h) = absurd (omega arith)

reached : (n a m k : ℕ) → m ≡ min a k → m ≤ n → n < k → m ≡ a
reached n a m k e h l = omega (arith, e)

pub returns-in_err-left : goal.returns-in_err-left
returns-in_err-left c =
    let p = err_from_is_err_and c.from_residual.result c.from_residual.ensures.1 in
    let l = lost _ _ _ _ _ c.get.result _ c.get.ensures.lookup c.ok_or.ensures.value c.in_err-left.was in
    rw (p.1, p.2, l.0, c.at-fault.ensures) (no_length c.args.kind c.args.input.now c.args.at (short _ _ _ _ c.saturating_add-from.ensures l.1))

pub returns-in_err-rest : goal.returns-in_err-rest
returns-in_err-rest c =
    let p = err_from_is_err_and c.from_residual-in_err-rest.result c.from_residual-in_err-rest.ensures.1 in
    let w = c.from-length.ensures ∙ c.word_at.ensures in
    let g = gained _ _ _ _ _ c.get.result _ c.get.ensures.lookup c.ok_or.ensures.value c.in_ok-left.was in
    let l = lost _ _ _ _ _ c.get-2.result _ c.get-2.ensures.lookup c.ok_or-2.ensures.value c.in_err-rest.was in
    let m = reached _ _ _ _ c.saturating_add-from.ensures g.0 (search rules) in
    rw (p.1, p.2, l.0, c.at-fault.ensures) (no_rest c.args.kind c.args.input.now c.args.at (omega (arith, m, g.0)) (elim l.1 [
      | inl h ↦ absurd (omega arith)
      | inr h ↦ omega (arith, m, g.0, g.3, w)
    ]))

pub returns : goal.returns
returns c =
    let g = gained _ _ _ _ _ c.get.result _ c.get.ensures.lookup c.ok_or.ensures.value c.in_ok-left.was in
    let r = gained _ _ _ _ _ c.get-2.result _ c.get-2.ensures.lookup c.ok_or-2.ensures.value c.in_ok-rest.was in
    let w = c.from-length.ensures ∙ c.word_at.ensures in
    let m = reached _ _ _ _ c.saturating_add-from.ensures g.0 (search rules) in
    let h : piece_end c.args.input.now c.args.at ≤ length c.args.input.now = omega (arith, m, w, g.0, g.3, r.1) in
    let n : length c.in_ok-left.left.now ≡ length c.args.input.now - rest_from c.args.at = omega (arith, m, g.0, g.3) in
    let d : c.in_ok-left.left.now ≡ drop (rest_from c.args.at) c.args.input.now = g.2 ∙ take_all _ (drop c.saturating_add-from.result c.args.input.now) (omega (arith, length-drop c.saturating_add-from.result c.args.input.now)) ∙ ap (λ (k : ℕ). drop k c.args.input.now) m in
    let z : c.from-length.result - 0 ≡ c.from-length.result = omega arith in
    let e : c.in_ok-rest.rest.now ≡ take (word_at c.args.input.now c.args.at) (drop (rest_from c.args.at) c.args.input.now) =
    r.2 ∙ ap (λ (k : ℕ). take k c.in_ok-left.left.now) z ∙ ap (λ (xs : List ℕ). take c.from-length.result xs) d ∙ ap (λ (k : ℕ). take k (drop (rest_from c.args.at) c.args.input.now)) w in (
      found c.args.kind c.args.input.now c.args.at h,
      record { offset = refl; rest = e; long = omega (arith, r.3, w); ends = h },
    )
