-- The definitions of the calls and of a dossier compute on real bytes: the worked examples.
use Rattle.std.proofs.Common.{refl}
use Rattle.rows.specs.Shapes.{first_beyond, dot}
use Rattle.methods.specs.Layers.{layered}
use Rattle.methods.specs.Openings.{opening, opened}
use Rattle.methods.specs.Sums.{sums_say}
use Rattle.formats.specs.Pieces.{piece_says}
use Rattle.formats.specs.Samples.{sample_table_bytes, sample_witness_bytes}
use Rattle.formats.specs.StoredRows.{item_at, row_says}
use Rattle.formats.specs.Tables.{heading_says, transition_says, transitions_at, transitions_say, table_at, content_says}
use Rattle.formats.specs.Walks.{pieces_at, walk_says}
use Rattle.formats.specs.Witnesses.{place_says, inner_says, kind_says, pieces_of, pieces_say, entry_fits, inner_fits, plan_says}
use Rattle.formats.specs.Witnesses as witnesses
use Rattle.semantics.specs.Enumerated.{question_of, obligations_of}
use Rattle.semantics.specs.Goals.{combined}
use Rattle.semantics.specs.Plans.{plan_step}
use Rattle.cases.specs.Dossiers.{dossier_says}
use Rattle.cases.specs.Samples.{sample_dossier, second_dossier, WorkedCalls, WorkedDossiers}
use Rattle.cases.specs.Told.{open_told, admit_told, begin_told, advance_told, prove_told, verdict_told, walked, unroll_tests}
use Rattle.cases.specs.Worked.{after, answer}

-- all definitions that the readers, the method and the calls compute by
unfoldable pub computing : Unit {0}
unfolding sample_table_bytes sample_witness_bytes first_beyond dot piece_says item_at row_says heading_says transition_says transitions_at transitions_say table_at content_says pieces_at walk_says place_says inner_says kind_says pieces_of pieces_say entry_fits inner_fits plan_says witnesses.content_says open_told admit_told begin_told advance_told prove_told verdict_told unroll_tests walked plan_step question_of obligations_of combined layered opening opened sums_say after answer
computing = tt

pub calls_worked_lem : WorkedCalls
unfolding computing
calls_worked_lem = record { accepted = refl; unrolled = refl; unmet = refl; unrolled_none = refl }

pub dossiers_worked_lem : WorkedDossiers
unfolding computing sample_dossier second_dossier dossier_says
dossiers_worked_lem = record { bytes_are = refl; accepted = refl; column_differs = refl; condition_unmet_lem = refl; left_over = refl; second_accepted = refl }
