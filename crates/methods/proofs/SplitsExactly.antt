-- The split says yes exactly when all its conditions hold.
use Rattle.std.proofs.Common.{◌≡◌, ℕ, not, List, Ok, sym, ap, inl, inr}
use Rattle.std.proofs.lemmas.Bool.{le-leb}
use Rattle.rows.specs.declared.limits.Limit.TheVariants.{WrittenNumber}
use Rattle.rows.specs.declared.numbers.Numbers.{Numbers}
use Rattle.rows.specs.Faults.{Said, moved}
use Rattle.rows.specs.Limits.{items, magnitude_of}
use Rattle.rows.specs.Shapes.{beyond, first_beyond}
use Rattle.rows.proofs.Chains.{goes, checked}
use Rattle.rows.proofs.First.{none_first}
use Rattle.methods.specs.LayerLaws.{room_yes}
use Rattle.methods.specs.Questions.{Question, Meaning, asked, YesExactly}
use Rattle.methods.specs.SplitLaws.{split_passed, split_own_yes}
use Rattle.methods.specs.Splits.{first_from, second_from, split_row, unless_written, split_tests, split_own, split_says, SplitOwnYes, SplitYes}
use Rattle.methods.proofs.Asked.{exactly}
use Rattle.methods.proofs.LayerAnswers.{layer_only, handed_if, own_if, yes_room}

pub split_only : (below : Meaning) (q : Question) → split_says below q ≡ Ok tt → SplitYes below q
split_only below q e =
    let y = layer_only split_own below q e in
    record {
      begun = y.0;
      by = elim y.1 [
        | inl h ↦ inl h
        | inr o ↦
            let p = split_own_yes below q o.2 in
            let c = split_passed q.certificate p.1 in
            inr (record { first_byte = (o.0, o.1); room = room_yes q p.0; long = c.long; written = c.written; first_yes = p.2; second_yes = p.3 })
      ];
    }

own_yes : (below : Meaning) (q : Question) → SplitOwnYes below q → split_own below q ≡ Ok tt
unfolding split_own split_tests first_beyond
own_yes below q y =
    sym (goes _ _ _ (yes_room q y.room.0 y.room.1)
    (goes _ _ _
    (goes _ _ _ (checked _ _ (le-leb _ _ y.long))
    (sym (ap unless_written (none_first (beyond (magnitude_of WrittenNumber) (split_row q.certificate)) items (λ k l. ap not (y.written k l))))))
    (goes _ _ _ (sym (ap (moved first_from) y.first_yes)) (sym (ap (moved (second_from q.certificate)) y.second_yes)))))

pub split_if : (below : Meaning) (q : Question) → SplitYes below q → split_says below q ≡ Ok tt
split_if below q y =
    elim y.by [
      | inl h ↦ handed_if split_own below q y.begun h
      | inr o ↦ own_if split_own below q y.begun o.first_byte.0 o.first_byte.1 (own_yes below q o)
    ]

pub split_exactly : (below : Meaning) (count : ℕ) (sheet : List Numbers) (goal : Numbers) (certificate : List ℕ) (said : Said) → said ≡ asked (split_says below) count sheet goal certificate → YesExactly said (SplitYes below) count sheet goal certificate
split_exactly below count sheet goal certificate said e = exactly count sheet goal certificate (split_says below) (SplitYes below) said e (split_only below) (split_if below)
