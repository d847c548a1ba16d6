-- One pair more.
use Rattle.std.proofs.Common.{◌≡◌, ◌∷◌, [], sym, ap, ◌∙◌, append_assoc, ◌++◌}
use Rattle.words.specs.Hex.{all_hex, pairs_of}
use Rattle.words.proofs.Bytes.{pairs_step, hex_behind}
use Rattle.words.proofs.hex.methods.decode.Goals as goal

pub loop-pair-preserved : goal.loop-pair-preserved
loop-pair-preserved c =
    let step = c.in-Some.ensures.steps in
    let kept = c.loop-pair.invariant in
    let cut = step.1.0 in
    let done = c.loop-pair.bytes.items in
    let behind = c.next.new.self.rest.now in
    let first = pairs_step c.in-Some.pair.now behind (step.1.1 ∙ kept.0) in
    let one : c.pair_value.result ∷ pairs_of behind ≡ pairs_of c.loop-pair.pair-iterator.rest.now =
    ap (λ v. v ∷ pairs_of behind) c.pair_value.ensures ∙ sym first ∙ ap pairs_of (sym cut) in
    let whole =
    ap (λ l. l ++ pairs_of behind) c.in_ok-push.ensures.items ∙ append_assoc done (c.pair_value.result ∷ []) (pairs_of behind)
    ∙ ap (λ l. done ++ l) one ∙ kept.2 in
    (step.0 ∙ kept.0, hex_behind c.in-Some.pair.now behind (ap all_hex (sym cut) ∙ kept.1), whole)
