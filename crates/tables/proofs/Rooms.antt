-- Memory of the call's own has room for every table and witness.
use Rattle.std.proofs.Common.{◌≡◌, ℕ, ◌≤◌, leb, List, [], length, replicate, sym, ap, arith}
use Rattle.std.proofs.lemmas.List.{take-append-drop, length-append, length-replicate}
use Rattle.std.proofs.lemmas.Bool.{and_from, le-leb}
use Rattle.rows.specs.Faults.{Said, ◌and_then◌}
use Rattle.rows.proofs.Chains.{checked}
use Rattle.records.specs.declared.register.Register.{Register}
use Rattle.records.specs.declared.shape.Shape.{Shape}
use Rattle.records.specs.Held.{held, behind, room}
use Rattle.records.specs.Limits.{most_places, most_inners}
use Rattle.records.specs.Records.{TransitionData}
use Rattle.formats.specs.Witnesses.{witness_says, admit_says}

-- an empty register over so many records has room for as many
pub enough : {T : Type 0} (r : Register T) (n : ℕ) (x : T) → held r ≡ [] → behind r ≡ replicate n x → n ≤ room r
enough r n x none all =
    let whole = simp length-append at (ap length (take-append-drop r.len r.records.now)) in
    omega (arith, whole, ap length none, ap length all, length-replicate n x)

-- with room enough a witness is judged by its bytes alone
pub admit_roomy : (p i : ℕ) (transitions : List TransitionData) (shape : Shape) (bytes : List ℕ) → most_places ≤ p → most_inners ≤ i → admit_says p i transitions shape bytes ≡ witness_says transitions shape bytes
admit_roomy p i transitions shape bytes h k =
    ap (λ (m : Said). m and_then witness_says transitions shape bytes)
    (sym (checked _ _ (and_from (leb most_places p) (leb most_inners i) (le-leb most_places p h) (le-leb most_inners i k))))
