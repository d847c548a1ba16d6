-- Worked examples of the calls and of a dossier, with the sample table and its witness.
use Rattle.std.specs.Prelude.{◌≡◌, ℕ, List, [], ◌∷◌, ◌++◌, map, ℤ, pos, Ok, Err}
use Rattle.rows.specs.declared.fault.FaultKind.TheVariants.{ColumnDiffers, ConditionRowUnmet, DossierLeftOver}
use Rattle.rows.specs.Faults.{fault_of}
use Rattle.methods.specs.Sums.{multipliers_say}
use Rattle.methods.specs.SumsLaws.{multipliers_lawful}
use Rattle.formats.specs.Pieces.{version, fault_at}
use Rattle.formats.specs.Samples.{sample_table_bytes, sample_witness_bytes}
use Rattle.formats.specs.Writing.{word_bytes, signed_bytes, joined, piece_bytes}
use Rattle.semantics.specs.declared.obligation.Obligation.{Obligation}
use Rattle.semantics.specs.declared.obligation.Obligation.TheVariants.{Consecution, Guard, Exit}
use Rattle.cases.specs.Calls.{Call, Open, Admit, Begin, Prove, Unroll, ran}
use Rattle.cases.specs.Dossiers.{dossier_making, dossier_says}
use Rattle.cases.specs.Limits.{least_rows}
use Rattle.cases.specs.Model.{Model}
use Rattle.cases.specs.Told.{verdict_told}
use Rattle.cases.specs.Worked.{answer, worked}

-- a state of the sample: its two values
abbrev pub pair : ℤ → ℤ → List ℤ
pair a b = a ∷ b ∷ []

-- an obligation of the sample, and the multipliers of its facts that show it
pub record Weighed : Type 0 where
  pub obligation : Obligation
  pub weights : List ℕ

abbrev pub weighed : Obligation → List ℕ → Weighed
weighed o weights = record { obligation = o; weights = weights }

-- all of them, with the multipliers of the first
abbrev pub sample_weighed : List ℕ → List Weighed
sample_weighed first =
    weighed (Consecution 1 0) first
    ∷ weighed (Consecution 1 1) (0 ∷ 1 ∷ 0 ∷ [])
    ∷ weighed (Guard 1 0 0) (1 ∷ 0 ∷ [])
    ∷ weighed (Exit 2) (1 ∷ 0 ∷ 1 ∷ [])
    ∷ []

abbrev pub first_weights : List ℕ
first_weights = 1 ∷ 1 ∷ 0 ∷ []

-- a certificate of multipliers: that of the goal is 1
abbrev pub multipliers : Weighed → List ℕ
multipliers w = joined word_bytes (1 ∷ w.weights)

-- the calls: the table, the witness, a first state, and a prove for each obligation
abbrev pub prove_call : Weighed → Call
prove_call w = Prove multipliers_say multipliers_lawful w.obligation (multipliers w) least_rows

abbrev pub sample_calls : List ℤ → List Call
sample_calls values = Open sample_table_bytes ∷ Admit sample_witness_bytes ∷ Begin values ∷ map prove_call (sample_weighed first_weights)

abbrev pub sample_case : List ℤ → Model
sample_case values = worked dossier_making (sample_calls values)

-- the dossier: its certificates go through both layers
abbrev pub certificate : Weighed → List ℕ
certificate w = 0 ∷ 0 ∷ multipliers w

abbrev pub dossier_of : List ℤ → List ℕ → List ℕ
dossier_of values first =
    version
    ∷ joined piece_bytes (sample_table_bytes ∷ sample_witness_bytes ∷ joined signed_bytes values ∷ map certificate (sample_weighed first))

unfoldable pub sample_dossier : List ℕ
sample_dossier = 1 ∷ 0 ∷ 98 ∷ 1 ∷ 0 ∷ 5 ∷ 2 ∷ 0 ∷ 0 ∷ 1 ∷ 0 ∷ 0 ∷ 43 ∷ 0 ∷ 1 ∷ 0 ∷ 1 ∷ 0 ∷ 1 ∷ 1 ∷ 255 ∷ 255 ∷ 255 ∷ 255 ∷ 0 ∷ 0 ∷ 0 ∷ 0 ∷ 255 ∷ 255 ∷ 255 ∷ 255 ∷ 0 ∷ 0 ∷ 0 ∷ 1 ∷ 0 ∷ 0 ∷ 0 ∷ 1 ∷ 0 ∷ 0 ∷ 0 ∷ 0 ∷ 0 ∷ 0 ∷ 0 ∷ 0 ∷ 0 ∷ 0 ∷ 0 ∷ 1 ∷ 0 ∷ 0 ∷ 0 ∷ 0 ∷ 0 ∷ 43 ∷ 0 ∷ 2 ∷ 0 ∷ 1 ∷ 0 ∷ 2 ∷ 1 ∷ 0 ∷ 0 ∷ 0 ∷ 1 ∷ 0 ∷ 0 ∷ 0 ∷ 0 ∷ 0 ∷ 0 ∷ 0 ∷ 0 ∷ 0 ∷ 0 ∷ 0 ∷ 1 ∷ 0 ∷ 0 ∷ 0 ∷ 0 ∷ 0 ∷ 0 ∷ 0 ∷ 0 ∷ 0 ∷ 0 ∷ 0 ∷ 0 ∷ 0 ∷ 0 ∷ 0 ∷ 1 ∷ 0 ∷ 0 ∷ 0 ∷ 0 ∷ 0 ∷ 40 ∷ 1 ∷ 0 ∷ 31 ∷ 1 ∷ 0 ∷ 1 ∷ 2 ∷ 255 ∷ 255 ∷ 255 ∷ 255 ∷ 0 ∷ 0 ∷ 0 ∷ 0 ∷ 255 ∷ 255 ∷ 255 ∷ 255 ∷ 0 ∷ 0 ∷ 0 ∷ 0 ∷ 255 ∷ 255 ∷ 255 ∷ 255 ∷ 0 ∷ 0 ∷ 0 ∷ 0 ∷ 1 ∷ 0 ∷ 1 ∷ 0 ∷ 4 ∷ 2 ∷ 0 ∷ 1 ∷ 0 ∷ 0 ∷ 8 ∷ 0 ∷ 0 ∷ 0 ∷ 3 ∷ 0 ∷ 0 ∷ 0 ∷ 2 ∷ 0 ∷ 10 ∷ 0 ∷ 0 ∷ 0 ∷ 1 ∷ 0 ∷ 1 ∷ 0 ∷ 1 ∷ 0 ∷ 0 ∷ 0 ∷ 10 ∷ 0 ∷ 0 ∷ 0 ∷ 1 ∷ 0 ∷ 0 ∷ 0 ∷ 1 ∷ 0 ∷ 0 ∷ 0 ∷ 8 ∷ 0 ∷ 0 ∷ 0 ∷ 1 ∷ 0 ∷ 1 ∷ 0 ∷ 0 ∷ 0 ∷ 10 ∷ 0 ∷ 0 ∷ 0 ∷ 1 ∷ 0 ∷ 1 ∷ 0 ∷ 0 ∷ 0 ∷ 1 ∷ []

-- a dossier with a choice, an initial row, a step, a test in a plan and restrictions
unfoldable pub second_dossier : List ℕ
second_dossier = 1 ∷ 0 ∷ 103 ∷ 1 ∷ 0 ∷ 13 ∷ 1 ∷ 1 ∷ 0 ∷ 1 ∷ 1 ∷ 0 ∷ 0 ∷ 0 ∷ 1 ∷ 0 ∷ 0 ∷ 0 ∷ 5 ∷ 0 ∷ 27 ∷ 0 ∷ 1 ∷ 0 ∷ 1 ∷ 0 ∷ 1 ∷ 1 ∷ 0 ∷ 0 ∷ 0 ∷ 1 ∷ 0 ∷ 0 ∷ 0 ∷ 8 ∷ 0 ∷ 0 ∷ 0 ∷ 1 ∷ 0 ∷ 0 ∷ 0 ∷ 1 ∷ 0 ∷ 0 ∷ 0 ∷ 0 ∷ 0 ∷ 27 ∷ 0 ∷ 2 ∷ 0 ∷ 1 ∷ 0 ∷ 1 ∷ 1 ∷ 255 ∷ 255 ∷ 255 ∷ 255 ∷ 255 ∷ 255 ∷ 255 ∷ 247 ∷ 0 ∷ 0 ∷ 0 ∷ 0 ∷ 0 ∷ 0 ∷ 0 ∷ 0 ∷ 0 ∷ 0 ∷ 0 ∷ 0 ∷ 0 ∷ 27 ∷ 0 ∷ 3 ∷ 0 ∷ 1 ∷ 0 ∷ 2 ∷ 1 ∷ 0 ∷ 0 ∷ 0 ∷ 1 ∷ 255 ∷ 255 ∷ 255 ∷ 255 ∷ 0 ∷ 0 ∷ 0 ∷ 1 ∷ 0 ∷ 0 ∷ 0 ∷ 0 ∷ 0 ∷ 0 ∷ 0 ∷ 0 ∷ 0 ∷ 88 ∷ 1 ∷ 0 ∷ 33 ∷ 1 ∷ 0 ∷ 1 ∷ 2 ∷ 255 ∷ 255 ∷ 255 ∷ 255 ∷ 0 ∷ 0 ∷ 0 ∷ 0 ∷ 0 ∷ 0 ∷ 0 ∷ 1 ∷ 0 ∷ 0 ∷ 0 ∷ 9 ∷ 2 ∷ 0 ∷ 1 ∷ 0 ∷ 0 ∷ 0 ∷ 1 ∷ 0 ∷ 0 ∷ 0 ∷ 8 ∷ 0 ∷ 2 ∷ 0 ∷ 36 ∷ 2 ∷ 0 ∷ 1 ∷ 2 ∷ 0 ∷ 0 ∷ 0 ∷ 0 ∷ 255 ∷ 255 ∷ 255 ∷ 255 ∷ 0 ∷ 0 ∷ 0 ∷ 0 ∷ 0 ∷ 0 ∷ 0 ∷ 0 ∷ 0 ∷ 0 ∷ 0 ∷ 1 ∷ 0 ∷ 0 ∷ 0 ∷ 1 ∷ 0 ∷ 0 ∷ 0 ∷ 0 ∷ 0 ∷ 0 ∷ 0 ∷ 1 ∷ 0 ∷ 12 ∷ 2 ∷ 0 ∷ 2 ∷ 0 ∷ 0 ∷ 0 ∷ 0 ∷ 0 ∷ 0 ∷ 0 ∷ 0 ∷ 0 ∷ 0 ∷ 10 ∷ 0 ∷ 0 ∷ 0 ∷ 3 ∷ 0 ∷ 1 ∷ 0 ∷ 0 ∷ 0 ∷ 1 ∷ 0 ∷ 14 ∷ 0 ∷ 0 ∷ 0 ∷ 1 ∷ 0 ∷ 1 ∷ 0 ∷ 0 ∷ 0 ∷ 0 ∷ 0 ∷ 1 ∷ 0 ∷ 0 ∷ 0 ∷ 14 ∷ 0 ∷ 0 ∷ 0 ∷ 1 ∷ 0 ∷ 0 ∷ 0 ∷ 0 ∷ 0 ∷ 1 ∷ 0 ∷ 0 ∷ 0 ∷ 1 ∷ 0 ∷ 10 ∷ 0 ∷ 0 ∷ 0 ∷ 1 ∷ 0 ∷ 0 ∷ 0 ∷ 0 ∷ 0 ∷ 0 ∷ 0 ∷ 10 ∷ 0 ∷ 0 ∷ 0 ∷ 1 ∷ 0 ∷ 0 ∷ 0 ∷ 0 ∷ 0 ∷ 0 ∷ 0 ∷ 10 ∷ 0 ∷ 0 ∷ 0 ∷ 1 ∷ 0 ∷ 0 ∷ 0 ∷ 0 ∷ 0 ∷ 0 ∷ 0 ∷ 10 ∷ 0 ∷ 0 ∷ 0 ∷ 1 ∷ 0 ∷ 0 ∷ 0 ∷ 0 ∷ 0 ∷ 0 ∷ 0 ∷ 10 ∷ 0 ∷ 0 ∷ 0 ∷ 1 ∷ 0 ∷ 0 ∷ 0 ∷ 0 ∷ 0 ∷ 1 ∷ 0 ∷ 10 ∷ 0 ∷ 0 ∷ 0 ∷ 1 ∷ 0 ∷ 0 ∷ 0 ∷ 0 ∷ 0 ∷ 1 ∷ 0 ∷ 10 ∷ 0 ∷ 0 ∷ 0 ∷ 1 ∷ 0 ∷ 1 ∷ 0 ∷ 0 ∷ 0 ∷ 1 ∷ []

-- what they answer
pub record WorkedCalls : Type 0 where
  pub accepted : verdict_told (sample_case (pair (pos 3) (pos 2))) ≡ Ok tt
  pub unrolled : answer (Unroll 2 6) (sample_case (pair (pos 3) (pos 2))) ≡ ran (Ok (record { count = 2; states = pair (pos 3) (pos 2) ∷ pair (pos 5) (pos 2) ∷ pair (pos 7) (pos 2) ∷ [] }))
  pub unmet : verdict_told (sample_case (pair (pos 0) (pos 2))) ≡ Err (fault_of ConditionRowUnmet 1 0 0)
  pub unrolled_none : answer (Unroll 5 12) (sample_case (pair (pos 999999999) (pos 2))) ≡ ran (Ok (record { count = 0; states = pair (pos 999999999) (pos 2) ∷ [] }))

pub record WorkedDossiers : Type 0 where
  pub bytes_are : dossier_of (pair (pos 3) (pos 2)) first_weights ≡ sample_dossier
  pub accepted : dossier_says sample_dossier ≡ Ok (record { place = 1; steps = 0 })
  -- with other multipliers of the first certificate, with another first state, with one byte more
  pub column_differs : dossier_says (dossier_of (pair (pos 3) (pos 2)) (1 ∷ 0 ∷ 0 ∷ [])) ≡ Err (fault_of ColumnDiffers 157 2 1)
  pub condition_unmet_lem : dossier_says (dossier_of (pair (pos 0) (pos 2)) first_weights) ≡ Err (fault_of ConditionRowUnmet 1 0 0)
  pub left_over : dossier_says (sample_dossier ++ 0 ∷ []) ≡ Err (fault_at DossierLeftOver 199)
  pub second_accepted : dossier_says second_dossier ≡ Ok (record { place = 1; steps = 1 })
