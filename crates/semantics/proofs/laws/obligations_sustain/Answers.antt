use Rattle.semantics.proofs.Sustaining.{obligations_sustain_lem}
use Rattle.semantics.proofs.laws.obligations_sustain.Goals as goal

pub returns : goal.returns
returns c = obligations_sustain_lem
