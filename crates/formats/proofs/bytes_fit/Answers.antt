-- Each byte that the loop comes to fits its type.
use Rattle.std.proofs.Common.{◌<◌, length, get_or, subst, rules}
use Rattle.std.proofs.ByRecursion.{All-more}
use Rattle.std.proofs.lemmas.List.{take_all}
use Rattle.formats.specs.Writing.{AreBytes}
use Rattle.formats.proofs.bytes_fit.Goals as goal

pub loop-byte-preserved : goal.loop-byte-preserved
loop-byte-preserved c =
    let bytes = c.args.bytes.now in
    let i = c.loop-byte.byte-index in
    let within : i < length bytes = search rules in
    let fits : get_or bytes i 0 < 256 = search rules in
    All-more (λ x. x < 256) bytes i 0 within c.loop-byte.invariant fits

pub returns : goal.returns
returns c =
    subst AreBytes (take_all c.loop-byte.byte-index c.args.bytes.now c.loop-byte-test.false) c.loop-byte.invariant
