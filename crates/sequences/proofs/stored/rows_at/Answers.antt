use Rattle.std.proofs.Common.{◌≡◌, ℕ, ◌+◌, ◌*◌, ◌<◌, ◌≤◌, Bool, true, cond, List, [], ◌∷◌, ◌++◌, map, length, Ok, Err, sym, refl, ap, ◌∙◌, arith}
use Rattle.std.proofs.lemmas.List.FromFn.{length-map-range_with_len, map-range_with_len_more}
use Rattle.std.proofs.lemmas.List.{length-map, map_push}
use Rattle.std.proofs.lemmas.Result.{err_from_is_err_and}
use Rattle.std.proofs.lemmas.Bool.{lt-ltb}
use Rattle.rows.specs.declared.numbers.Numbers.{Numbers}
use Rattle.records.specs.Bounded.{listed}
use Rattle.formats.specs.StoredRows.{row_at, row_says, rows_at, rows_say}
use Rattle.records.specs.Slots.{stride}
use Rattle.formats.proofs.PieceTests.{each_stops, each_more, given, given_fault, given_ok, given_err}
use Rattle.formats.proofs.RowItems.{stride_within}
use Rattle.sequences.proofs.stored.rows_at.Goals as goal

pub overflow_mul-stride : goal.overflow_mul-stride
overflow_mul-stride g c =
    let s = c.stride-stride.ensures in
    let w = stride_within c.stride-stride.result c.loop-i.i c.args.count c.loop-i-test.true in
    let e = ap (λ (k : ℕ). k * c.args.count) s in
    let p = c.requires.within in
    omega (arith, w, e, p)

pub overflow_add-from : goal.overflow_add-from
overflow_add-from g c =
    let s = c.stride-stride.ensures in
    let w = stride_within c.stride-stride.result c.loop-i.i c.args.count c.loop-i-test.true in
    let e = ap (λ (k : ℕ). k * c.args.count) s in
    let p = c.requires.within in
    omega (arith, w, e, p)

pub row_at-requires : goal.row_at-requires
row_at-requires g c =
    let s = c.stride-stride.ensures in
    let w = stride_within c.stride-stride.result c.loop-i.i c.args.count c.loop-i-test.true in
    let e = ap (λ (k : ℕ). k * c.args.count) s in
    let p = c.requires.within in
    omega (arith, w, e, p, s)

pub loop-i-init : goal.loop-i-init
loop-i-init g c = (refl, ap (map g.T.Written.plain) c.new-rows.ensures.listed)

pub returns-in_err-row : goal.returns-in_err-row
returns-in_err-row g c =
    let p = err_from_is_err_and c.from_residual.result c.from_residual.ensures.1 in
    let s : Err c.in_err-row.field-0.0 ≡ row_says c.args.kind c.args.shape c.args.piece.offset c.args.piece.rest.now (c.args.from + stride c.args.shape * c.loop-i.i) =
    given_err _ _ _ c.in_err-row.ensures ∙ ap (λ (k : ℕ). row_says c.args.kind c.args.shape c.args.piece.offset c.args.piece.rest.now (c.args.from + k * c.loop-i.i)) c.stride-stride.ensures in
    rw (p.1, p.2) (given_fault _ _ _ (each_stops (λ i. row_says c.args.kind c.args.shape c.args.piece.offset c.args.piece.rest.now (c.args.from + stride c.args.shape * i)) c.args.count c.loop-i.i _ c.loop-i-test.true c.loop-i.invariant.0 s))

pub loop-i-preserved : goal.loop-i-preserved
loop-i-preserved g c =
    let test = λ (i : ℕ). row_says c.args.kind c.args.shape c.args.piece.offset c.args.piece.rest.now (c.args.from + stride c.args.shape * i) in
    let row = λ (i : ℕ). row_at c.args.shape c.args.piece.rest.now (c.args.from + stride c.args.shape * i) in
    let o = given_ok _ _ _ c.in_ok-row.ensures in
    let s : Ok tt ≡ test c.loop-i.i = o.0 ∙ ap (λ (k : ℕ). row_says c.args.kind c.args.shape c.args.piece.offset c.args.piece.rest.now (c.args.from + k * c.loop-i.i)) c.stride-stride.ensures in
    let v : g.T.Written.plain c.in_ok-row.row ≡ row c.loop-i.i = o.1 ∙ ap (λ (k : ℕ). row_at c.args.shape c.args.piece.rest.now (c.args.from + k * c.loop-i.i)) c.stride-stride.ensures in
    let n : length (listed c.loop-i.rows) ≡ c.loop-i.i = sym (length-map (listed c.loop-i.rows) g.T.Written.plain) ∙ ap length c.loop-i.invariant.1 ∙ length-map-range_with_len row 0 c.loop-i.i in
    let t : c.push.result ≡ true = c.push.ensures.took ∙ lt-ltb _ _ (below n c.loop-i-test.true c.requires.room) in
    let l : listed c.push.new.self ≡ listed c.loop-i.rows ++ (c.in_ok-row.row ∷ []) = c.push.ensures.listed ∙ ap (λ (b : Bool). cond b (listed c.loop-i.rows ++ (c.in_ok-row.row ∷ [])) (listed c.loop-i.rows)) t in (
      each_more test c.loop-i.i c.loop-i.invariant.0 s,
      ap (map g.T.Written.plain) l
          ∙ map_push g.T.Written.plain (listed c.loop-i.rows) c.in_ok-row.row
          ∙ ap (λ (ys : List Numbers). ys ++ (g.T.Written.plain c.in_ok-row.row ∷ [])) c.loop-i.invariant.1
          ∙ ap (λ (y : Numbers). rows_at c.args.shape c.args.piece.rest.now c.args.from c.loop-i.i ++ (y ∷ [])) v
          ∙ sym (map-range_with_len_more row 0 c.loop-i.i c.loop-i.i (zero_plus c.loop-i.i)),
    )
  where
    below : {k i n m : ℕ} → k ≡ i → i < n → n ≤ m → k < m
    below e h l = omega arith

    zero_plus : (i : ℕ) → 0 + i ≡ i
    zero_plus i = omega arith

pub returns : goal.returns
returns g c =
    let e : c.loop-i.i ≡ c.args.count = omega arith in
    let s = c.loop-i.invariant.0 ∙ ap (rows_say c.args.kind c.args.shape c.args.piece.offset c.args.piece.rest.now c.args.from) e in
    given _ _ _ s (c.loop-i.invariant.1 ∙ ap (rows_at c.args.shape c.args.piece.rest.now c.args.from) e)
