-- Records that hold nothing.
use Rattle.std.specs.Prelude.{[]}
use Rattle.records.specs.Records.{TransitionData, PlaceData, InnerData}

abbrev pub blank_transition : TransitionData
blank_transition = record { number = 0; start = 0; target = 0; guard = []; updates = [] }

abbrev pub blank_place : PlaceData
blank_place = record { number = 0; condition = []; tested = []; last = 0 }

abbrev pub blank_inner : InnerData
blank_inner = record { number = 0; restrictions = []; choices = [] }
