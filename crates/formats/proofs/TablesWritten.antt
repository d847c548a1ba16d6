-- Tables and their bytes, both ways: the heading, one transition piece, the list of transitions, the table.
use Rattle.std.proofs.Common.{◌≡◌, ℕ, zero, suc, ◌+◌, ◌-◌, ◌*◌, ◌<◌, ◌≤◌, ◌&&◌, eqb, ltb, leb, List, [], ◌∷◌, ◌++◌, map, length, drop, Ok, sym, refl, ap, ◌∙◌, subst, inl, inr, arith}
use Rattle.std.proofs.lemmas.List.FromFn.{length-map-range_with_len}
use Rattle.std.proofs.lemmas.List.{append-nil, length-append, length-drop, drop_more, drop_all}
use Rattle.std.proofs.lemmas.Bool.{cases_lt, lt-ltb, le-leb, eq-eqb, ltb-true, leb-true, eqb-true, and_from, and_parts, cond-true}
use Rattle.std.specs.List.{AllByRecursion}
use Rattle.rows.specs.declared.fault.FaultKind.TheVariants.{TableVersion, TableLength, TableCount, TableNumber, TableWritten}
use Rattle.rows.specs.declared.numbers.Numbers.{Numbers}
use Rattle.rows.specs.Bytes.{word_at}
use Rattle.rows.specs.Faults.{◌and_then◌, check}
use Rattle.rows.proofs.Chains.{both, check_true}
use Rattle.records.specs.declared.shape.Shape.{Shape}
use Rattle.records.specs.Limits.{most_values, most_choices, most_initial, most_guards, most_transitions}
use Rattle.records.specs.Records.{HeadingData, TransitionData, TableData, shape_of}
use Rattle.records.specs.Slots.{over_values, stride}
use Rattle.formats.specs.Exact.{TableExactly}
use Rattle.formats.specs.Pieces.{byte_at, fault_at, version, pieces_from, piece_at, piece_end, piece_says, reach_says, long_says, count_says, above_says, version_says}
use Rattle.formats.specs.StoredRows.{row_at, rows_at, rows_say}
use Rattle.formats.specs.Tables.{values_from, choices_from, start_from, initial_count_from, initial_from, heading_shape, heading_at, heading_length, heading_says, number_from, left_from, reached_from, guard_count_from, guard_from, updates_from, transition_at, transition_length, transition_says, next_says, transitions_at, transitions_say, heading_rest, table_at, content_says, table_says, read_table}
use Rattle.formats.specs.Valid.{Rising, ShapeWithin, ValidHeading, ValidTransition, ValidTable}
use Rattle.formats.specs.Writing.{AreBytes, word_bytes, joined, rows_bytes, piece_bytes, heading_bytes, transition_bytes, table_bytes}
use Rattle.formats.proofs.FieldTests.{passes_then, check_passes, reach_passes, long_passes, long_passed, count_passes, count_passed, above_passes, above_passed, Found, piece_back, piece-are_bytes, piece_only}
use Rattle.formats.proofs.PieceTests.{given, given_ok}
use Rattle.formats.proofs.RowsWritten.{rows_length, rows_standing, rows_standing_pass, rows_only, rows_valid}
use Rattle.formats.proofs.TableParts.{Parts, content_parts}
use Rattle.formats.proofs.TransitionSteps.{next_room, say_more, say_all, at_more, at_all}
use Rattle.formats.proofs.Segments.{cut, cut_both, cut_all, cut_byte, Stands, stands_drop, stands_right, word_value, word_only, word_small}

-- the rows over the values alone
values_within : (shape : Shape) → ShapeWithin shape → ShapeWithin (over_values shape)
values_within shape w = record { values = w.values; choices = omega arith }

rows_count : (shape : Shape) (bytes : List ℕ) (at count : ℕ) → length (rows_at shape bytes at count) ≡ count
rows_count shape bytes at count = length-map-range_with_len (λ (i : ℕ). row_at shape bytes (at + stride shape * i)) 0 count

-- what the tests of a heading tell
record HeadingTested (offset : ℕ) (rest : List ℕ) : Type 0 where
  least_values : 1 ≤ byte_at rest values_from
  most_values_lem : byte_at rest values_from ≤ most_values
  most_choices_lem : byte_at rest choices_from ≤ most_choices
  most_initial_lem : byte_at rest initial_count_from ≤ most_initial
  long : length rest ≡ heading_length rest
  start : 0 < word_at rest start_from
  initial : rows_say TableWritten (over_values (heading_shape rest)) offset rest initial_from (byte_at rest initial_count_from) ≡ Ok tt

heading_passes : (offset : ℕ) (rest : List ℕ) → HeadingTested offset rest → heading_says offset rest ≡ Ok tt
unfolding heading_says
heading_passes offset rest t =
    let l = t.long in
    passes_then _ _ (reach_passes TableLength offset rest (values_from + 1) (omega arith))
    (passes_then _ _ (count_passes TableCount offset rest values_from 1 most_values t.least_values t.most_values_lem)
    (passes_then _ _ (reach_passes TableLength offset rest (choices_from + 1) (omega arith))
    (passes_then _ _ (count_passes TableCount offset rest choices_from 0 most_choices (omega arith) t.most_choices_lem)
    (passes_then _ _ (reach_passes TableLength offset rest (initial_count_from + 1) (omega arith))
    (passes_then _ _ (count_passes TableCount offset rest initial_count_from 0 most_initial (omega arith) t.most_initial_lem)
    (passes_then _ _ (long_passes TableLength offset rest (heading_length rest) l)
    (passes_then _ _ (above_passes TableNumber offset rest start_from 0 t.start) t.initial)))))))

heading_tested : (offset : ℕ) (rest : List ℕ) → heading_says offset rest ≡ Ok tt → HeadingTested offset rest
unfolding heading_says
heading_tested offset rest e =
    let a = both (reach_says TableLength offset rest (values_from + 1)) _ e in
    let b = both (count_says TableCount offset rest values_from 1 most_values) _ a.1 in
    let c = both (reach_says TableLength offset rest (choices_from + 1)) _ b.1 in
    let d = both (count_says TableCount offset rest choices_from 0 most_choices) _ c.1 in
    let f = both (reach_says TableLength offset rest (initial_count_from + 1)) _ d.1 in
    let g = both (count_says TableCount offset rest initial_count_from 0 most_initial) _ f.1 in
    let h = both (long_says TableLength offset rest (heading_length rest)) _ g.1 in
    let i = both (above_says TableNumber offset rest start_from 0) (rows_say TableWritten (over_values (heading_shape rest)) offset rest initial_from (byte_at rest initial_count_from)) h.1 in
    let v = count_passed TableCount offset rest values_from 1 most_values b.0 in
    record {
      least_values = v.0;
      most_values_lem = v.1;
      most_choices_lem = (count_passed TableCount offset rest choices_from 0 most_choices d.0).1;
      most_initial_lem = (count_passed TableCount offset rest initial_count_from 0 most_initial g.0).1;
      long = long_passed TableLength offset rest (heading_length rest) h.0;
      start = above_passed TableNumber offset rest start_from 0 i.0;
      initial = i.1;
    }

-- headings with equal parts are equal
same_heading : (v c s r : ℕ) (i j : List Numbers) → s ≡ r → i ≡ j → ◌≡◌ {A = HeadingData} (record { values = v; choices = c; start = s; initial = i }) (record { values = v; choices = c; start = r; initial = j })
same_heading v c s r i j e f = rw (e, f)

-- a heading read back from its bytes
module _ (h : HeadingData) (valid : ValidHeading h) where
  heading_back : heading_at (heading_bytes h) ≡ h
  heading_back =
      let rows = rows_bytes (over_values (shape_of h)) h.initial in
      same_heading h.values h.choices (word_at (heading_bytes h) start_from) h.start
      (rows_at (over_values (shape_of h)) (heading_bytes h) initial_from (length h.initial)) h.initial (word_value h.start)
      (rows_standing (over_values (shape_of h)) h.initial valid.initial.each (heading_bytes h) initial_from (stands_drop (heading_bytes h) initial_from rows [] (sym (append-nil rows))))

  heading_back_tested : (offset : ℕ) → HeadingTested offset (heading_bytes h)
  heading_back_tested offset =
      let rows = rows_bytes (over_values (shape_of h)) h.initial in
      let l = rows_length (over_values (shape_of h)) h.initial in
      let s = word_value h.start in
      let p = valid.start.0 in
      record {
        least_values = valid.some_value;
        most_values_lem = valid.within.values;
        most_choices_lem = valid.within.choices;
        most_initial_lem = valid.initial.count;
        long = omega arith;
        start = omega arith;
        initial = rows_standing_pass (over_values (shape_of h)) h.initial valid.initial.each (heading_bytes h) initial_from (stands_drop (heading_bytes h) initial_from rows [] (sym (append-nil rows))) TableWritten offset;
      }

-- a heading that passes is valid, and stands in the bytes it is written in
heading_within : (offset : ℕ) (rest : List ℕ) → HeadingTested offset rest → ShapeWithin (heading_shape rest)
heading_within offset rest t = record { values = t.most_values_lem; choices = t.most_choices_lem }

module _ (offset : ℕ) (rest : List ℕ) (bs : AreBytes rest) (t : HeadingTested offset rest) where
  heading_valid : ValidHeading (heading_at rest)
  heading_valid =
      let l = t.long in
      let n = rows_count (over_values (heading_shape rest)) rest initial_from (byte_at rest initial_count_from) in
      let m = t.most_initial_lem in
      record {
        some_value = t.least_values;
        within = heading_within offset rest t;
        start = (t.start, word_small rest bs start_from (omega arith));
        initial = record {
          count = omega arith;
          each = rows_valid TableWritten (over_values (heading_shape rest)) (values_within (heading_shape rest) (heading_within offset rest t)) offset rest initial_from (byte_at rest initial_count_from) t.initial;
        };
      }

  heading_only : heading_bytes (heading_at rest) ≡ rest
  heading_only =
      let shape = over_values (heading_shape rest) in
      let count = byte_at rest initial_count_from in
      let size = stride shape * count in
      let l = t.long in
      let n = rows_count shape rest initial_from count in
      let r = rows_only shape (values_within (heading_shape rest) (heading_within offset rest t)) rest bs initial_from count (omega arith) in
      let w = word_only rest bs start_from (omega arith) in
      let z : suc (suc (2 + suc size)) ≡ length rest = omega arith in
      let initial : length (rows_at shape rest initial_from count) ∷ rows_bytes shape (rows_at shape rest initial_from count) ≡ cut 4 (suc size) rest =
      ap (λ (k : ℕ). k ∷ rows_bytes shape (rows_at shape rest initial_from count)) n ∙ ap (λ (ys : List ℕ). count ∷ ys) r ∙ sym (cut_byte 4 size rest (omega arith)) in
      let start : word_bytes (word_at rest start_from) ++ length (rows_at shape rest initial_from count) ∷ rows_bytes shape (rows_at shape rest initial_from count) ≡ cut 2 (2 + suc size) rest =
      ap (λ (ys : List ℕ). word_bytes (word_at rest start_from) ++ ys) initial ∙ ap (λ (ys : List ℕ). ys ++ cut 4 (suc size) rest) w ∙ sym (cut_both 2 2 (suc size) rest) in
      ap (λ (ys : List ℕ). byte_at rest 0 ∷ byte_at rest 1 ∷ ys) start
      ∙ ap (λ (ys : List ℕ). byte_at rest 0 ∷ ys) (sym (cut_byte 1 (2 + suc size) rest (omega arith)))
      ∙ sym (cut_byte 0 (suc (2 + suc size)) rest (omega arith)) ∙ ap (λ (k : ℕ). cut 0 k rest) z ∙ cut_all rest

-- what the tests of a transition piece tell
record TransitionTested (shape : Shape) (room last offset : ℕ) (rest : List ℕ) : Type 0 where
  room_left : 0 < room
  most_guard : byte_at rest guard_count_from ≤ most_guards
  long : length rest ≡ transition_length shape rest
  number : last < word_at rest number_from
  start : 0 < word_at rest left_from
  target : 0 < word_at rest reached_from
  guard : rows_say TableWritten (over_values shape) offset rest guard_from (byte_at rest guard_count_from) ≡ Ok tt
  updates : rows_say TableWritten shape offset rest (updates_from shape rest) shape.values ≡ Ok tt

transition_passes : (shape : Shape) (room last offset : ℕ) (rest : List ℕ) → TransitionTested shape room last offset rest → transition_says shape room last offset rest ≡ Ok tt
unfolding transition_says
transition_passes shape room last offset rest t =
    let l = t.long in
    passes_then _ _ (reach_passes TableLength offset rest (guard_count_from + 1) (omega arith))
    (passes_then _ _ (check_passes (ltb 0 room) (fault_at TableCount offset) (lt-ltb 0 room t.room_left))
    (passes_then _ _ (count_passes TableCount offset rest guard_count_from 0 most_guards (omega arith) t.most_guard)
    (passes_then _ _ (long_passes TableLength offset rest (transition_length shape rest) l)
    (passes_then _ _ (above_passes TableNumber offset rest number_from last t.number)
    (passes_then _ _ (above_passes TableNumber offset rest left_from 0 t.start)
    (passes_then _ _ (above_passes TableNumber offset rest reached_from 0 t.target)
    (passes_then _ _ t.guard t.updates)))))))

transition_tested : (shape : Shape) (room last offset : ℕ) (rest : List ℕ) → transition_says shape room last offset rest ≡ Ok tt → TransitionTested shape room last offset rest
unfolding transition_says
transition_tested shape room last offset rest e =
    let a = both (reach_says TableLength offset rest (guard_count_from + 1)) _ e in
    let b = both (check (ltb 0 room) (fault_at TableCount offset)) _ a.1 in
    let c = both (count_says TableCount offset rest guard_count_from 0 most_guards) _ b.1 in
    let d = both (long_says TableLength offset rest (transition_length shape rest)) _ c.1 in
    let f = both (above_says TableNumber offset rest number_from last) _ d.1 in
    let g = both (above_says TableNumber offset rest left_from 0) _ f.1 in
    let h = both (above_says TableNumber offset rest reached_from 0) _ g.1 in
    let i = both (rows_say TableWritten (over_values shape) offset rest guard_from (byte_at rest guard_count_from)) (rows_say TableWritten shape offset rest (updates_from shape rest) shape.values) h.1 in
    record {
      room_left = ltb-true 0 room (check_true (ltb 0 room) (fault_at TableCount offset) b.0);
      most_guard = (count_passed TableCount offset rest guard_count_from 0 most_guards c.0).1;
      long = long_passed TableLength offset rest (transition_length shape rest) d.0;
      number = above_passed TableNumber offset rest number_from last f.0;
      start = above_passed TableNumber offset rest left_from 0 g.0;
      target = above_passed TableNumber offset rest reached_from 0 h.0;
      guard = i.0;
      updates = i.1;
    }

-- transitions with equal parts are equal
same_transition :
    (n m s r t u : ℕ) (g h i j : List Numbers)
    → n ≡ m → s ≡ r → t ≡ u → g ≡ h → i ≡ j
    → ◌≡◌ {A = TransitionData} (record { number = n; start = s; target = t; guard = g; updates = i }) (record { number = m; start = r; target = u; guard = h; updates = j })
same_transition n m s r t u g h i j a b c d e = rw (a, b, c, d, e)

-- a transition read back from its bytes
module _ (shape : Shape) (t : TransitionData) (valid : ValidTransition shape t) where
  guard_stands : Stands (transition_bytes shape t) guard_from (rows_bytes (over_values shape) t.guard)
  guard_stands = stands_drop (transition_bytes shape t) guard_from (rows_bytes (over_values shape) t.guard) (rows_bytes shape t.updates) refl

  updates_stand : Stands (transition_bytes shape t) (updates_from shape (transition_bytes shape t)) (rows_bytes shape t.updates)
  updates_stand =
      let g = rows_bytes (over_values shape) t.guard in
      let u = rows_bytes shape t.updates in
      stands_right (transition_bytes shape t) guard_from (stride (over_values shape) * length t.guard) g u (rows_length (over_values shape) t.guard)
      (stands_drop (transition_bytes shape t) guard_from (g ++ u) [] (sym (append-nil (g ++ u))))

  transition_back : transition_at shape (transition_bytes shape t) ≡ t
  transition_back =
      let rest = transition_bytes shape t in
      same_transition (word_at rest number_from) t.number (word_at rest left_from) t.start (word_at rest reached_from) t.target
      (rows_at (over_values shape) rest guard_from (length t.guard)) t.guard (rows_at shape rest (updates_from shape rest) shape.values) t.updates
      (word_value t.number) (word_value t.start) (word_value t.target)
      (rows_standing (over_values shape) t.guard valid.guard.each rest guard_from guard_stands)
      (ap (rows_at shape rest (updates_from shape rest)) (sym valid.update_each) ∙ rows_standing shape t.updates valid.updates rest (updates_from shape rest) updates_stand)

  transition_back_tested : (room last offset : ℕ) → 0 < room → last < t.number → TransitionTested shape room last offset (transition_bytes shape t)
  transition_back_tested room last offset r l =
      let rest = transition_bytes shape t in
      let g = rows_length (over_values shape) t.guard in
      let u = rows_length shape t.updates ∙ ap (λ (k : ℕ). stride shape * k) valid.update_each in
      let b = length-append (rows_bytes (over_values shape) t.guard) (rows_bytes shape t.updates) in
      let n = word_value t.number in
      let s = word_value t.start in
      let o = valid.start.0 in
      let m = word_value t.target in
      let p = valid.target.0 in
      record {
        room_left = r;
        most_guard = valid.guard.count;
        long = omega arith;
        number = omega arith;
        start = omega arith;
        target = omega arith;
        guard = rows_standing_pass (over_values shape) t.guard valid.guard.each rest guard_from guard_stands TableWritten offset;
        updates =
            ap (rows_say TableWritten shape offset rest (updates_from shape rest)) (sym valid.update_each)
            ∙ rows_standing_pass shape t.updates valid.updates rest (updates_from shape rest) updates_stand TableWritten offset;
      }

-- a transition that passes is valid, and stands in the bytes it is written in
module _ (shape : Shape) (w : ShapeWithin shape) (room last offset : ℕ) (rest : List ℕ) (bs : AreBytes rest) (t : TransitionTested shape room last offset rest) where
  transition_valid : ValidTransition shape (transition_at shape rest)
  transition_valid =
      let l = t.long in
      let m = t.most_guard in
      let n = rows_count (over_values shape) rest guard_from (byte_at rest guard_count_from) in
      record {
        number = word_small rest bs number_from (omega arith);
        start = (t.start, word_small rest bs left_from (omega arith));
        target = (t.target, word_small rest bs reached_from (omega arith));
        guard = record {
          count = omega arith;
          each = rows_valid TableWritten (over_values shape) (values_within shape w) offset rest guard_from (byte_at rest guard_count_from) t.guard;
        };
        update_each = rows_count shape rest (updates_from shape rest) shape.values;
        updates = rows_valid TableWritten shape w offset rest (updates_from shape rest) shape.values t.updates;
      }

  -- its rows
  transition_rows :
      length (transition_at shape rest).guard ∷ (rows_bytes (over_values shape) (transition_at shape rest).guard ++ rows_bytes shape (transition_at shape rest).updates)
      ≡ cut 6 (suc (stride (over_values shape) * byte_at rest guard_count_from + stride shape * shape.values)) rest
  transition_rows =
      let count = byte_at rest guard_count_from in
      let guards = stride (over_values shape) * count in
      let changes = stride shape * shape.values in
      let x = transition_at shape rest in
      let l = t.long in
      let n = rows_count (over_values shape) rest guard_from count in
      let g = rows_only (over_values shape) (values_within shape w) rest bs guard_from count (omega arith) in
      let u = rows_only shape w rest bs (updates_from shape rest) shape.values (omega arith) in
      ap (λ (k : ℕ). k ∷ (rows_bytes (over_values shape) x.guard ++ rows_bytes shape x.updates)) n
      ∙ ap (λ (ys : List ℕ). count ∷ (ys ++ rows_bytes shape x.updates)) g
      ∙ ap (λ (ys : List ℕ). count ∷ (cut guard_from guards rest ++ ys)) u
      ∙ ap (λ (ys : List ℕ). count ∷ ys) (sym (cut_both guard_from guards changes rest))
      ∙ sym (cut_byte 6 (guards + changes) rest (omega arith))

  transition_only : transition_bytes shape (transition_at shape rest) ≡ rest
  transition_only =
      let size = suc (stride (over_values shape) * byte_at rest guard_count_from + stride shape * shape.values) in
      let x = transition_at shape rest in
      let l = t.long in
      let z : 2 + (2 + (2 + size)) ≡ length rest = omega arith in
      let a = word_only rest bs number_from (omega arith) in
      let b = word_only rest bs left_from (omega arith) in
      let c = word_only rest bs reached_from (omega arith) in
      ap (λ (ys : List ℕ). word_bytes x.number ++ (word_bytes x.start ++ (word_bytes x.target ++ ys))) transition_rows
      ∙ ap (λ (ys : List ℕ). word_bytes x.number ++ (word_bytes x.start ++ (ys ++ cut 6 size rest))) c
      ∙ ap (λ (ys : List ℕ). word_bytes x.number ++ (word_bytes x.start ++ ys)) (sym (cut_both 4 2 size rest))
      ∙ ap (λ (ys : List ℕ). word_bytes x.number ++ (ys ++ cut 4 (2 + size) rest)) b
      ∙ ap (λ (ys : List ℕ). word_bytes x.number ++ ys) (sym (cut_both 2 2 (2 + size) rest))
      ∙ ap (λ (ys : List ℕ). ys ++ cut 2 (2 + (2 + size)) rest) a
      ∙ sym (cut_both 0 2 (2 + (2 + size)) rest) ∙ ap (λ (k : ℕ). cut 0 k rest) z ∙ cut_all rest

-- the bytes of transitions, one piece behind another
abbrev transitions_bytes : Shape → List TransitionData → List ℕ
transitions_bytes shape ts = joined (λ x. piece_bytes (transition_bytes shape x)) ts

-- one piece of a transition, and those behind it
module _ (shape : Shape) (bytes : List ℕ) (room at : ℕ) (l : at < length bytes) where
  say_one : (last : ℕ) → next_says shape bytes (suc room) last at ≡ Ok tt → transitions_say shape bytes (suc room) last at ≡ transitions_say shape bytes room (word_at (piece_at bytes at) number_from) (piece_end bytes at)
  say_one last e =
      let z : suc room - 1 ≡ room = omega arith in
      sym (say_more shape bytes (suc room) last at l (sym e)) ∙ ap (λ (n : ℕ). transitions_say shape bytes n (word_at (piece_at bytes at) number_from) (piece_end bytes at)) z

  at_one : transitions_at shape bytes (suc room) at ≡ transition_at shape (piece_at bytes at) ∷ transitions_at shape bytes room (piece_end bytes at)
  at_one =
      let z : suc room - 1 ≡ room = omega arith in
      at_more shape bytes (suc room) at l (omega arith) ∙ ap (λ (n : ℕ). transition_at shape (piece_at bytes at) ∷ transitions_at shape bytes n (piece_end bytes at)) z

-- transitions read back from their bytes
transitions_back :
    (shape : Shape) (bytes : List ℕ) (ts : List TransitionData) (room last at : ℕ)
    → AllByRecursion (ValidTransition shape) ts → Rising last (map (λ x. x.number) ts) → length ts ≤ room → drop at bytes ≡ transitions_bytes shape ts
    → (transitions_say shape bytes room last at ≡ Ok tt) × (transitions_at shape bytes room at ≡ ts)
transitions_back shape bytes [] room last at valid rising l e =
    let n = length-drop at bytes in
    let z = ap length e in
    let behind : length bytes ≤ at = omega arith in
    (sym (say_all shape bytes room last at behind), at_all shape bytes room at behind)
transitions_back shape bytes (t ∷ ts) zero last at valid rising l e = absurd (omega arith)
transitions_back shape bytes (t ∷ ts) (suc room) last at valid rising l e =
    let f = piece_back TableLength bytes at (transition_bytes shape t) (transitions_bytes shape ts) e in
    let passes : transition_says shape (suc room) last at (piece_at bytes at) ≡ Ok tt =
    ap (transition_says shape (suc room) last at) f.rest_is
    ∙ transition_passes shape (suc room) last at (transition_bytes shape t) (transition_back_tested shape t valid.0 (suc room) last at (omega arith) rising.0) in
    let next = passes_then (piece_says TableLength bytes at) (transition_says shape (suc room) last at (piece_at bytes at)) f.passes passes in
    let number : word_at (piece_at bytes at) number_from ≡ t.number = ap (λ (ys : List ℕ). word_at ys number_from) f.rest_is ∙ word_value t.number in
    let r = transitions_back shape bytes ts room t.number (piece_end bytes at) valid.1 rising.1 (omega arith) f.behind in (
      say_one shape bytes room at f.before last next
          ∙ ap (λ (n : ℕ). transitions_say shape bytes room n (piece_end bytes at)) number ∙ r.0,
      at_one shape bytes room at f.before
          ∙ ap (λ (ys : List TransitionData). transition_at shape (piece_at bytes at) ∷ ys) r.1
          ∙ ap (λ (x : TransitionData). x ∷ ts) (ap (transition_at shape) f.rest_is ∙ transition_back shape t valid.0),
    )

-- where the transitions pass, the next piece does
says_next : (shape : Shape) (bytes : List ℕ) (room last at : ℕ) → at < length bytes → transitions_say shape bytes room last at ≡ Ok tt → next_says shape bytes room last at ≡ Ok tt
unfolding transitions_say
says_next shape bytes zero last at l e = sym (cond-true (ltb at (length bytes)) (next_says shape bytes zero last at) (Ok tt) (lt-ltb at (length bytes) l)) ∙ e
says_next shape bytes (suc room) last at l e =
    let rest = transitions_say shape bytes room (word_at (piece_at bytes at) number_from) (piece_end bytes at) in
    (both (next_says shape bytes (suc room) last at) rest (sym (cond-true (ltb at (length bytes)) (next_says shape bytes (suc room) last at and_then rest) (Ok tt) (lt-ltb at (length bytes) l)) ∙ e)).0

-- transitions that pass are valid, and stand in the bytes they are written in
record TransitionsOnly (shape : Shape) (bytes : List ℕ) (room last at : ℕ) (ts : List TransitionData) : Type 0 where
  count : length ts ≤ room
  each : AllByRecursion (ValidTransition shape) ts
  rising : Rising last (map (λ x. x.number) ts)
  written : transitions_bytes shape ts ≡ drop at bytes

module _ (shape : Shape) (w : ShapeWithin shape) (bytes : List ℕ) (bs : AreBytes bytes) where
  none_only : (room last at : ℕ) → length bytes ≤ at → TransitionsOnly shape bytes room last at []
  none_only room last at l = record { count = omega arith; each = tt; rising = tt; written = sym (drop_all at bytes l) }

  next_only :
      (room last at : ℕ) (ts : List TransitionData)
      → next_says shape bytes (suc room) last at ≡ Ok tt
      → TransitionsOnly shape bytes room (word_at (piece_at bytes at) number_from) (piece_end bytes at) ts
      → TransitionsOnly shape bytes (suc room) last at (transition_at shape (piece_at bytes at) ∷ ts)
  next_only room last at ts e r =
      let p = both (piece_says TableLength bytes at) (transition_says shape (suc room) last at (piece_at bytes at)) e in
      let b = piece-are_bytes TableLength bytes bs at p.0 in
      let t = transition_tested shape (suc room) last at (piece_at bytes at) p.1 in
      let n = r.count in
      record {
        count = omega arith;
        each = (transition_valid shape w (suc room) last at (piece_at bytes at) b t, r.each);
        rising = (t.number, r.rising);
        written =
            ap (λ (ys : List ℕ). piece_bytes ys ++ transitions_bytes shape ts) (transition_only shape w (suc room) last at (piece_at bytes at) b t)
            ∙ ap (λ (ys : List ℕ). piece_bytes (piece_at bytes at) ++ ys) r.written
            ∙ piece_only TableLength bytes bs at p.0;
      }

  transitions_only : (room last at : ℕ) → transitions_say shape bytes room last at ≡ Ok tt → TransitionsOnly shape bytes room last at (transitions_at shape bytes room at)
  transitions_only zero last at e =
      elim (cases_lt at (length bytes)) [
        | inl l ↦ absurd (let h = next_room shape bytes zero last at (sym (says_next shape bytes zero last at l e)) in omega arith)
        | inr l ↦ subst (TransitionsOnly shape bytes zero last at) (sym (at_all shape bytes zero at l)) (none_only zero last at l)
      ]
  transitions_only (suc room) last at e =
      elim (cases_lt at (length bytes)) [
        | inl l ↦
            let h = says_next shape bytes (suc room) last at l e in
            let r = transitions_only room (word_at (piece_at bytes at) number_from) (piece_end bytes at) (sym (say_one shape bytes room at l last h) ∙ e) in
            subst (TransitionsOnly shape bytes (suc room) last at) (sym (at_one shape bytes room at l)) (next_only room last at (transitions_at shape bytes room (piece_end bytes at)) h r)
        | inr l ↦ subst (TransitionsOnly shape bytes (suc room) last at) (sym (at_all shape bytes (suc room) at l)) (none_only (suc room) last at l)
      ]

same_table : (h k : HeadingData) (ts us : List TransitionData) → h ≡ k → ts ≡ us → ◌≡◌ {A = TableData} (record { heading = h; transitions = ts }) (record { heading = k; transitions = us })
same_table h k ts us e f = rw (e, f)

-- a table read back from its bytes
module _ (t : TableData) (valid : ValidTable t) (bytes : List ℕ) (e : bytes ≡ table_bytes t) where
  heading_found : Found TableLength bytes pieces_from (heading_bytes t.heading) (transitions_bytes (shape_of t.heading) t.transitions)
  unfolding table_bytes
  heading_found = piece_back TableLength bytes pieces_from (heading_bytes t.heading) (transitions_bytes (shape_of t.heading) t.transitions) (ap (drop 1) e)

  version_found : version_says TableVersion bytes ≡ Ok tt
  unfolding table_bytes
  version_found =
      let n = ap length e in
      let v = ap (λ (ys : List ℕ). byte_at ys 0) e in
      check_passes (leb 1 (length bytes) && eqb (byte_at bytes 0) version) (fault_at TableVersion 0)
      (and_from (leb 1 (length bytes)) (eqb (byte_at bytes 0) version) (le-leb 1 (length bytes) (omega arith)) (eq-eqb (byte_at bytes 0) version v))

  shape_found : heading_shape (heading_rest bytes) ≡ shape_of t.heading
  shape_found = ap heading_shape heading_found.rest_is

  transitions_found :
      (transitions_say (heading_shape (heading_rest bytes)) bytes most_transitions 0 (piece_end bytes pieces_from) ≡ Ok tt)
      × (transitions_at (heading_shape (heading_rest bytes)) bytes most_transitions (piece_end bytes pieces_from) ≡ t.transitions)
  transitions_found =
      let r = transitions_back (shape_of t.heading) bytes t.transitions most_transitions 0 (piece_end bytes pieces_from) valid.each valid.rising valid.count heading_found.behind in (
        ap (λ (s : Shape). transitions_say s bytes most_transitions 0 (piece_end bytes pieces_from)) shape_found ∙ r.0,
        ap (λ (s : Shape). transitions_at s bytes most_transitions (piece_end bytes pieces_from)) shape_found ∙ r.1,
      )

  content_passes : content_says bytes ≡ Ok tt
  unfolding content_says
  content_passes =
      passes_then (piece_says TableLength bytes pieces_from) _ heading_found.passes
      (passes_then (heading_says pieces_from (heading_rest bytes)) (transitions_say (heading_shape (heading_rest bytes)) bytes most_transitions 0 (piece_end bytes pieces_from))
      (ap (heading_says pieces_from) heading_found.rest_is ∙ heading_passes pieces_from (heading_bytes t.heading) (heading_back_tested t.heading valid.heading pieces_from))
      transitions_found.0)

  table_found : table_at bytes ≡ t
  unfolding table_at
  table_found = same_table (heading_at (heading_rest bytes)) t.heading (transitions_at (heading_shape (heading_rest bytes)) bytes most_transitions (piece_end bytes pieces_from)) t.transitions
      (ap heading_at heading_found.rest_is ∙ heading_back t.heading valid.heading) transitions_found.1

  table_back : read_table bytes ≡ Ok t
  table_back = sym (given (table_at bytes) (table_says bytes) t (sym (passes_then (version_says TableVersion bytes) (content_says bytes) version_found content_passes)) (sym table_found))

-- a table that is read is valid, and stands in the bytes it is written in
module _ (bytes : List ℕ) (bs : AreBytes bytes) (says : table_says bytes ≡ Ok tt) where
  version_read : (1 ≤ length bytes) × (byte_at bytes 0 ≡ version)
  version_read =
      let v = (both (version_says TableVersion bytes) (content_says bytes) says).0 in
      let p = and_parts (leb 1 (length bytes)) (eqb (byte_at bytes 0) version) (check_true (leb 1 (length bytes) && eqb (byte_at bytes 0) version) (fault_at TableVersion 0) v) in
      (leb-true 1 (length bytes) p.0, eqb-true (byte_at bytes 0) version p.1)

  -- the tests of the parts
  piece_read : piece_says TableLength bytes pieces_from ≡ Ok tt
  unfolding content_says
  piece_read = (both (piece_says TableLength bytes pieces_from) _ (both (version_says TableVersion bytes) (content_says bytes) says).1).0

  parts_read : Parts bytes
  parts_read = content_parts bytes (both (version_says TableVersion bytes) (content_says bytes) says).1

  rest_bytes : AreBytes (heading_rest bytes)
  rest_bytes = piece-are_bytes TableLength bytes bs pieces_from piece_read

  heading_read : HeadingTested pieces_from (heading_rest bytes)
  heading_read = heading_tested pieces_from (heading_rest bytes) parts_read.heading

  transitions_read :
      TransitionsOnly (heading_shape (heading_rest bytes)) bytes most_transitions 0 (piece_end bytes pieces_from)
      (transitions_at (heading_shape (heading_rest bytes)) bytes most_transitions (piece_end bytes pieces_from))
  transitions_read =
      transitions_only (heading_shape (heading_rest bytes)) (heading_within pieces_from (heading_rest bytes) heading_read) bytes bs most_transitions 0 (piece_end bytes pieces_from) parts_read.transitions

  table_valid : ValidTable (table_at bytes)
  unfolding table_at
  table_valid = record {
    heading = heading_valid pieces_from (heading_rest bytes) rest_bytes heading_read;
    count = transitions_read.count;
    each = transitions_read.each;
    rising = transitions_read.rising;
  }

  table_only : bytes ≡ table_bytes (table_at bytes)
  unfolding table_at table_bytes
  table_only =
      let shape = heading_shape (heading_rest bytes) in
      let ts = transitions_at shape bytes most_transitions (piece_end bytes pieces_from) in
      let l = version_read.0 in
      drop_more bytes 0 0 (omega arith)
      ∙ ap (λ (b : ℕ). b ∷ drop 1 bytes) version_read.1
      ∙ sym (ap (λ (ys : List ℕ). version ∷ (piece_bytes ys ++ transitions_bytes shape ts)) (heading_only pieces_from (heading_rest bytes) rest_bytes heading_read)
      ∙ ap (λ (ys : List ℕ). version ∷ (piece_bytes (heading_rest bytes) ++ ys)) transitions_read.written
      ∙ ap (λ (ys : List ℕ). version ∷ ys) (piece_only TableLength bytes bs pieces_from piece_read))

-- the reader takes exactly the bytes of valid tables
pub table_exactly : (bytes : List ℕ) → AreBytes bytes → TableExactly bytes
table_exactly bytes bs = record {
  read_back = λ t valid e. table_back t valid bytes e;
  only_written = λ t e.
      let g = given_ok (table_at bytes) (table_says bytes) t (sym e) in
      let says = sym g.0 in
      (subst ValidTable (sym g.1) (table_valid bytes bs says), table_only bytes bs says ∙ ap table_bytes (sym g.1));
}
