use Rattle.semantics.proofs.Listing.{obligations_agree_lem}
use Rattle.semantics.proofs.laws.obligations_agree.Goals as goal

pub returns : goal.returns
returns c = obligations_agree_lem
