use Rattle.std.proofs.Common.{◌≡◌, ℕ, ◌+◌, ◌-◌, ◌*◌, ◌<◌, ◌≤◌, Bool, length, ap, ◌∙◌, arith}
use Rattle.std.proofs.lemmas.Nat.{mul-le}
use Rattle.std.proofs.lemmas.Result.{err_from_is_err_and}
use Rattle.rows.specs.Bytes.{word_at}
use Rattle.rows.specs.Faults.{Said, check}
use Rattle.formats.specs.Pieces.{byte_at, each_says}
use Rattle.records.specs.Slots.{over_values, stride}
use Rattle.formats.specs.Witnesses.{number_from, rows_from, plan_count_from, plan_from, entries, entry_stride, entry_fits, entry_test, plan_says}
use Rattle.formats.proofs.PieceTests.{each_stops, each_more}
use Rattle.sequences.specs.TableGiven.{shape_in, named_of}
use Rattle.sequences.proofs.named.Named.plan_test.Goals as goal
use Rattle.sequences.proofs.named.Named.plan_test.Goals.{After-word_at-place, After-fault}

-- what the code computes before the loop is what the definition says
module _ (c : After-word_at-place) where
  sized : 2 + c.stride-stride.result ≡ entry_stride (shape_in c.args.self.table)
  sized = ap (λ (k : ℕ). 2 + k) (c.stride-stride.ensures ∙ ap stride (c.over_values.ensures ∙ ap over_values c.shape.ensures))

  counts : rows_from + c.stride-stride.result * c.from-rows.result ≡ plan_count_from (shape_in c.args.self.table) c.args.piece.rest.now
  counts =
      ap (λ (k : ℕ). rows_from + k * c.from-rows.result) (c.stride-stride.ensures ∙ ap stride (c.over_values.ensures ∙ ap over_values c.shape.ensures))
      ∙ ap (λ (k : ℕ). rows_from + stride (over_values (shape_in c.args.self.table)) * k) (c.from-rows.ensures ∙ c.byte_at.ensures)

  many : c.from-count.result ≡ entries (shape_in c.args.self.table) c.args.piece.rest.now
  many = c.from-count.ensures ∙ c.byte_at-2.ensures ∙ ap (byte_at c.args.piece.rest.now) counts

-- an entry lies before the plan's end
entry_within : (from size n e m : ℕ) → e < n → from + size * (n - 1) + 2 ≤ m → from + size * e ≤ m
entry_within from size n e m l h = let k = mul-le size e size (n - 1) (omega arith) (omega arith) in omega (arith, k)

pub fault-requires : goal.fault-requires
fault-requires c =
    let d = (goal.at.fault-requires c).After-word_at-place in
    let f = ap (λ (k : ℕ). k + 1) (counts d) in
    let p = c.requires in
    let q : rows_from + c.stride-stride.result * c.from-rows.result + 1 + (2 + c.stride-stride.result) * (c.from-count.result - 1) + 2 ≤ length c.args.piece.rest.now =
    rw (sized d, f, many d) p in
    entry_within (rows_from + c.stride-stride.result * c.from-rows.result + 1) (2 + c.stride-stride.result) c.from-count.result c.loop-e.e _ c.loop-e-test.true q

-- the tests of the loop, and those of the definition
tests : (c : After-word_at-place) → ℕ → Said
tests c = entry_test (named_of c.args.self) c.word_at-place.result c.args.piece.offset c.args.piece.rest.now (rows_from + c.stride-stride.result * c.from-rows.result + 1) (2 + c.stride-stride.result)

plan : (c : After-word_at-place) → each_says (tests c) c.from-count.result ≡ plan_says (shape_in c.args.self.table) (named_of c.args.self) c.args.piece.offset c.args.piece.rest.now
unfolding plan_says tests
plan c =
    let n = named_of c.args.self in
    let o = c.args.piece.offset in
    let r = c.args.piece.rest.now in
    ap (λ (p : ℕ). each_says (entry_test n p o r (rows_from + c.stride-stride.result * c.from-rows.result + 1) (2 + c.stride-stride.result)) c.from-count.result) c.word_at-place.ensures
    ∙ ap (λ (k : ℕ). each_says (entry_test n (word_at r number_from) o r (k + 1) (2 + c.stride-stride.result)) c.from-count.result) (counts c)
    ∙ ap (λ (k : ℕ). each_says (entry_test n (word_at r number_from) o r (plan_from (shape_in c.args.self.table) r) k) c.from-count.result) (sized c)
    ∙ ap (each_says (entry_test n (word_at r number_from) o r (plan_from (shape_in c.args.self.table) r) (entry_stride (shape_in c.args.self.table)))) (many c)

tested : (c : After-fault) → check c.entry_fits-fits.result c.fault.result ≡ entry_test (named_of c.args.self) c.word_at-place.result c.args.piece.offset c.args.piece.rest.now (rows_from + c.stride-stride.result * c.from-rows.result + 1) (2 + c.stride-stride.result) c.loop-e.e
tested c =
    let n = named_of c.args.self in
    ap (λ (b : Bool). check b c.fault.result) (c.entry_fits-fits.ensures ∙ ap (entry_fits n c.word_at-place.result) c.word_at-number.ensures)
    ∙ ap (check (entry_fits n c.word_at-place.result (word_at c.args.piece.rest.now (rows_from + c.stride-stride.result * c.from-rows.result + 1 + (2 + c.stride-stride.result) * c.loop-e.e)))) c.fault.ensures

pub returns-in_err-check : goal.returns-in_err-check
unfolding tests
returns-in_err-check c =
    let p = err_from_is_err_and c.from_residual.result c.from_residual.ensures.1 in
    let d = (goal.at.returns-in_err-check c).After-word_at-place in
    let t = tested (goal.at.returns-in_err-check c).After-fault in
    rw (p.1, p.2) (each_stops (tests d) c.from-count.result c.loop-e.e _ c.loop-e-test.true c.loop-e.invariant (c.in_err-check.ensures ∙ t) ∙ plan d)

pub loop-e-preserved : goal.loop-e-preserved
unfolding tests
loop-e-preserved c =
    let d = (goal.at.loop-e-preserved c).After-word_at-place in
    let t = tested (goal.at.loop-e-preserved c).After-fault in
    each_more (tests d) c.loop-e.e c.loop-e.invariant (c.in_ok-check.ensures ∙ t)

pub returns : goal.returns
unfolding tests
returns c =
    let d = (goal.at.returns c).After-word_at-place in
    let e : c.loop-e.e ≡ c.from-count.result = omega arith in
    c.loop-e.invariant ∙ ap (each_says (tests d)) e ∙ plan d
