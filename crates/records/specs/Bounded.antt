-- What a short list holds, and what its memory holds behind that.
use Rattle.std.specs.Prelude.{ℕ, List, map, take, drop}
use Rattle.records.specs.declared.bounded.BoundedList.{BoundedList}

abbrev pub listed : {T : Type 0} {N : ℕ} → BoundedList T N → List T
listed l = take l.count l.items

abbrev pub spare : {T : Type 0} {N : ℕ} → BoundedList T N → List T
spare l = drop l.count l.items

-- what its elements say in plain numbers
abbrev pub plain_list : {T X : Type 0} {N : ℕ} → (T → X) → BoundedList T N → List X
plain_list plain l = map plain (listed l)
