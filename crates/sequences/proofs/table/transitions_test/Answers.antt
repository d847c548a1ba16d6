use Rattle.std.proofs.Common.{Ok, Option, ◌∙◌, subst}
use Rattle.std.proofs.lemmas.Result.{err_from_is_err_and}
use Rattle.records.specs.declared.records.Transition.{Transition}
use Rattle.sequences.specs.TransitionsHanded.{reading_of, HandedOut}
use Rattle.sequences.proofs.TransitionsRead.{advanced, none_left, lost}
use Rattle.sequences.proofs.table.transitions_test.Goals as goal

pub returns-in_err-next : goal.returns-in_err-next
returns-in_err-next c =
    let p = err_from_is_err_and c.from_residual.result c.from_residual.ensures.1 in
    rw (p.1, p.2) (lost (reading_of c.loop.reader) _ _ c.in_err-next.ensures ∙ c.loop.invariant)

pub loop-preserved : goal.loop-preserved
loop-preserved c =
    let h = subst (λ (o : Option Transition). HandedOut (reading_of c.loop.reader) (Ok o) (reading_of c.next.new.self)) c.in-Some.is c.in_ok-next.ensures in
    (advanced (reading_of c.loop.reader) _ c.in-Some.field-0 h).say ∙ c.loop.invariant

pub loop-smaller : goal.loop-smaller
loop-smaller c =
    let h = subst (λ (o : Option Transition). HandedOut (reading_of c.loop.reader) (Ok o) (reading_of c.next.new.self)) c.in-Some.is c.in_ok-next.ensures in
    (advanced (reading_of c.loop.reader) _ c.in-Some.field-0 h).smaller

pub returns : goal.returns
returns c =
    let h = subst (λ (o : Option Transition). HandedOut (reading_of c.loop.reader) (Ok o) (reading_of c.next.new.self)) c.in_default.is c.in_ok-next.ensures in
    (none_left (reading_of c.loop.reader) _ h).0 ∙ c.loop.invariant
