-- What a register holds, what its memory holds behind that, and how many records the memory has room for.
use Rattle.std.specs.Prelude.{◌≡◌, ℕ, List, ◌++◌, map, length, take, drop, Ok, Err, Result}
use Rattle.rows.specs.declared.fault.Fault.{Fault}
use Rattle.records.specs.declared.register.Register.{Register}

abbrev pub held : {T : Type 0} → Register T → List T
held r = take r.len r.records.now

abbrev pub behind : {T : Type 0} → Register T → List T
behind r = drop r.len r.records.now

abbrev pub room : {T : Type 0} → Register T → ℕ
room r = length r.records.now

-- what a reading leaves in a register: after a success it holds what was read, and the memory behind that is as it was;
-- after a refusal it is as it was
abbrev pub ReadInto : {T X R : Type 0} → (T → X) → List X → Register T → Register T → Result R Fault → Type 0
ReadInto plain items before after (Ok r) =
    (map plain (held after) ≡ items) × (behind after ≡ drop (length (held after)) (held before ++ behind before))
ReadInto plain items before after (Err f) = after ≡ before
