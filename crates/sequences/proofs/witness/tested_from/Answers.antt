use Rattle.std.proofs.Common.{◌≡◌, ℕ, ◌+◌, ◌*◌, ◌<◌, ◌≤◌, List, [], ◌∷◌, ◌++◌, map, length, sym, refl, ap, ◌∙◌, arith}
use Rattle.std.proofs.lemmas.List.FromFn.{length-map-range_with_len, map-range_with_len_more}
use Rattle.std.proofs.lemmas.List.{length-map, map_push}
use Rattle.std.proofs.lemmas.Result.{err_from_is_err_and}
use Rattle.rows.specs.declared.fault.FaultKind.TheVariants.{WitnessWritten}
use Rattle.rows.specs.Bytes.{word_at}
use Rattle.records.specs.declared.shape.Shape.{Shape}
use Rattle.records.specs.Bounded.{listed}
use Rattle.records.specs.Records.{EntryData, entry_of}
use Rattle.formats.specs.StoredRows.{row_at, row_says}
use Rattle.records.specs.Slots.{over_values, stride}
use Rattle.formats.specs.Witnesses.{entry_from, entry_stride, test_from, entry_at, tested_at, tested_say}
use Rattle.records.proofs.Fronts.{took_held}
use Rattle.formats.proofs.PieceTests.{each_stops, each_more, given, given_fault, given_ok, given_err}
use Rattle.sequences.proofs.RecordsSame.{same_entry}
use Rattle.formats.proofs.RowItems.{stride_within}
use Rattle.sequences.proofs.witness.tested_from.Goals as goal
use Rattle.sequences.proofs.witness.tested_from.Goals.{In-loop-i}

-- the stride of the code is that of the definition, and the entry lies before the plan's end
module _ (c : In-loop-i) where
  strided : 2 + c.stride-stride.result ≡ entry_stride c.args.shape
  strided = ap (λ (k : ℕ). 2 + k) (c.stride-stride.ensures ∙ ap stride c.over_values-plain.ensures)

  placed : c.args.from + (2 + c.stride-stride.result) * c.loop-i.i ≡ entry_from c.args.shape c.args.from c.loop-i.i
  placed = ap (λ (k : ℕ). c.args.from + k * c.loop-i.i) strided

  before : c.args.from + (2 + c.stride-stride.result) * c.loop-i.i + entry_stride c.args.shape ≤ length c.args.piece.rest.now
  before =
      let w = stride_within (entry_stride c.args.shape) c.loop-i.i c.args.count c.loop-i-test.true in
      let p = c.requires.within in
      omega (arith, w, p, placed)

pub overflow_add-at : goal.overflow_add-at
overflow_add-at c = omega (arith, before c)

pub overflow_mul-at : goal.overflow_mul-at
overflow_mul-at c = omega (arith, before c)

pub overflow_add-at-in-loop-i : goal.overflow_add-at-in-loop-i
overflow_add-at-in-loop-i c = omega (arith, before (goal.at.overflow_add-at-in-loop-i c).In-loop-i)

pub row_at-requires : goal.row_at-requires
row_at-requires c = omega (arith, before (goal.at.row_at-requires c).In-loop-i, ap stride c.over_values-plain.ensures)

pub loop-i-init : goal.loop-i-init
loop-i-init c = (refl, ap (map entry_of) c.new-entries.ensures.listed)

pub returns-in_err-test : goal.returns-in_err-test
returns-in_err-test c =
    let p = err_from_is_err_and c.from_residual.result c.from_residual.ensures.1 in
    let d = (goal.at.returns-in_err-test c).In-loop-i in
    let s = given_err _ _ _ c.in_err-test.ensures
    ∙ ap (λ (z : Shape). row_says WitnessWritten z c.args.piece.offset c.args.piece.rest.now (c.args.from + (2 + c.stride-stride.result) * c.loop-i.i + 2)) c.over_values-plain.ensures
    ∙ ap (λ (k : ℕ). row_says WitnessWritten (over_values c.args.shape) c.args.piece.offset c.args.piece.rest.now (k + 2)) (placed d) in
    rw (p.1, p.2) (given_fault _ _ _ (each_stops (λ e. row_says WitnessWritten (over_values c.args.shape) c.args.piece.offset c.args.piece.rest.now (test_from c.args.shape c.args.from e)) c.args.count c.loop-i.i _ c.loop-i-test.true c.loop-i.invariant.0 s))

pub loop-i-preserved : goal.loop-i-preserved
loop-i-preserved c =
    let d = (goal.at.loop-i-preserved c).In-loop-i in
    let o = given_ok _ _ _ c.in_ok-test.ensures in
    let s = o.0
    ∙ ap (λ (z : Shape). row_says WitnessWritten z c.args.piece.offset c.args.piece.rest.now (c.args.from + (2 + c.stride-stride.result) * c.loop-i.i + 2)) c.over_values-plain.ensures
    ∙ ap (λ (k : ℕ). row_says WitnessWritten (over_values c.args.shape) c.args.piece.offset c.args.piece.rest.now (k + 2)) (placed d) in
    let v = o.1
    ∙ ap (λ (z : Shape). row_at z c.args.piece.rest.now (c.args.from + (2 + c.stride-stride.result) * c.loop-i.i + 2)) c.over_values-plain.ensures
    ∙ ap (λ (k : ℕ). row_at (over_values c.args.shape) c.args.piece.rest.now (k + 2)) (placed d) in
    let w = c.word_at-transition.ensures ∙ ap (word_at c.args.piece.rest.now) (placed d) in
    let row = entry_at c.args.shape c.args.piece.rest.now c.args.from in
    let n : length (listed c.loop-i.entries) ≡ c.loop-i.i = sym (length-map (listed c.loop-i.entries) entry_of) ∙ ap length c.loop-i.invariant.1 ∙ length-map-range_with_len row 0 c.loop-i.i in
    let y : EntryData = record { transition = c.word_at-transition.result; test = c.in_ok-test.test.numbers } in
    let l = took_held _ _ _ _ _ _ c.push.ensures.took (below n c.loop-i-test.true c.requires.room) c.push.ensures.listed in (
      each_more (λ e. row_says WitnessWritten (over_values c.args.shape) c.args.piece.offset c.args.piece.rest.now (test_from c.args.shape c.args.from e)) c.loop-i.i c.loop-i.invariant.0 s,
      ap (map entry_of) l
          ∙ map_push entry_of (listed c.loop-i.entries) _
          ∙ ap (λ (ys : List EntryData). ys ++ (y ∷ [])) c.loop-i.invariant.1
          ∙ ap (λ (y : EntryData). tested_at c.args.shape c.args.piece.rest.now c.args.from c.loop-i.i ++ (y ∷ [])) (same_entry w v)
          ∙ sym (map-range_with_len_more row 0 c.loop-i.i c.loop-i.i (zero_plus c.loop-i.i)),
    )
  where
    below : {k i n m : ℕ} → k ≡ i → i < n → n ≤ m → k < m
    below e h l = omega arith

    zero_plus : (i : ℕ) → 0 + i ≡ i
    zero_plus i = omega arith

pub returns : goal.returns
returns c =
    let e : c.loop-i.i ≡ c.args.count = omega arith in
    given _ _ _ (c.loop-i.invariant.0 ∙ ap (tested_say c.args.shape c.args.piece.offset c.args.piece.rest.now c.args.from) e)
    (c.loop-i.invariant.1 ∙ ap (tested_at c.args.shape c.args.piece.rest.now c.args.from) e)
