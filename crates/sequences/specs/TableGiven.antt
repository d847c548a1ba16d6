-- The table that a witness is read against, and what its references are looked up in, in the words of the definitions.
use Rattle.std.specs.Prelude.{◌≤◌, List, map, length}
use Rattle.records.specs.declared.shape.Shape.{Shape}
use Rattle.records.specs.Records.{TransitionData, heading_of, shape_of, transition_of}
use Rattle.formats.specs.Witnesses.{PartData, PlacePart, InnerPart, number_from, place_length, named_in}
use Rattle.formats.specs.Witnesses.{Named as NamedData}
use Rattle.sequences.specs.declared.view.TableView.{TableView}
use Rattle.sequences.specs.declared.named.Named.{Named}
use Rattle.sequences.specs.Handed.{progress_of}

abbrev pub shape_in : TableView → Shape
shape_in table = shape_of (heading_of table.heading.now)

abbrev pub transitions_in : TableView → List TransitionData
transitions_in table = map transition_of table.transitions.now

abbrev pub named_of : Named → NamedData
named_of n = named_in (transitions_in n.table) (progress_of n.noted.now)

-- the bytes of a piece that its references stand in are there
abbrev pub Reached : Shape → PartData → Type 0
Reached shape (PlacePart p) = place_length shape p.rest ≤ length p.rest
Reached shape (InnerPart p) = number_from ≤ length p.rest
