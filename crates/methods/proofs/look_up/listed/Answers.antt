use Rattle.std.proofs.Common.{rules, tests}
use Rattle.std.proofs.lemmas.Iterator.{YieldsList-from_slice}
use Rattle.std.proofs.lemmas.Iterator.Search.{any_from_yields_List}
use Rattle.methods.specs.LooksUp.{covers}
use Rattle.methods.proofs.look_up.listed.Goals as goal

pub returns : goal.returns
returns c = any_from_yields_List (λ fact. covers fact c.args.goal.now) _ _ _ c.any.ensures.ran (YieldsList-from_slice c.args.facts.now cc) (λ x b q k. search (rules, tests))
