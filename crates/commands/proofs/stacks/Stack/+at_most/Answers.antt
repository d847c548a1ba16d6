-- A word without a slash is a base, and one with a slash is a layer over what stands behind it.
use Rattle.std.proofs.Common.{sym, ap, ◌∙◌, arith}
use Rattle.std.proofs.lemmas.Str.Pattern.{split_parts}
use Rattle.std.proofs.lemmas.Option.{MatchOption-at_none}
use Rattle.words.specs.Words.{pieces}
use Rattle.commands.specs.Stacks.{layer_of, of_base, over, slash, stacked}
use Rattle.commands.proofs.Stacking.{no_slash, split_some, stacked_over, stacked_none, stacked_base, over_none}
use Rattle.commands.proofs.stacks.Stack.+at_most.Goals as goal

pub returns-in_err-read : goal.returns-in_err-read
returns-in_err-read t c =
    let none = MatchOption-at_none _ _ c.in_default.is (split_parts 47 c.args.word.now _ c.split_once.ensures.cases (omega arith)) in
    c.from_residual.ensures ∙ sym (stacked_base c.args.layers c.args.word.now (no_slash _ none) ∙ ap of_base (sym c.read.ensures ∙ c.in_err-read.was))

pub returns-in_err-checked_sub : goal.returns-in_err-checked_sub
returns-in_err-checked_sub t c =
    let p = split_some c.args.word.now _ _ c.split_once.ensures.cases c.in-Some.is in
    c.from_residual-in_err-checked_sub.ensures ∙ sym (stacked_none _ _ _ p.0 p.1 c.args.layers (omega (arith, c.in_err-checked_sub.ensures)))

pub returns-in_err-below : goal.returns-in_err-below
returns-in_err-below t c =
    let p = split_some c.args.word.now _ _ c.split_once.ensures.cases c.in-Some.is in
    let less = c.in_ok-checked_sub.ensures in
    c.from_residual-in_err-below.ensures
    ∙ sym (stacked_over _ _ _ p.0 p.1 c.args.layers c.in_ok-checked_sub.field-0 (omega (arith, less.0, less.1))
    ∙ ap (over (layer_of c.in-Some.top.now)) (sym c.at_most.ensures ∙ c.in_err-below.was) ∙ over_none _)

pub returns-in_err-read-2 : goal.returns-in_err-read-2
returns-in_err-read-2 t c =
    let p = split_some c.args.word.now _ _ c.split_once.ensures.cases c.in-Some.is in
    let less = c.in_ok-checked_sub.ensures in
    c.from_residual-in_err-read-2.ensures
    ∙ sym (stacked_over _ _ _ p.0 p.1 c.args.layers c.in_ok-checked_sub.field-0 (omega (arith, less.0, less.1))
    ∙ ap (λ o. over o (stacked c.in_ok-checked_sub.field-0 (pieces slash c.in-Some.below.now))) (sym c.read-2.ensures ∙ c.in_err-read-2.was))

pub returns : goal.returns
returns t c =
    let p = split_some c.args.word.now _ _ c.split_once.ensures.cases c.in-Some.is in
    let less = c.in_ok-checked_sub.ensures in
    let top = sym c.read-2.ensures ∙ c.in_ok-read-2.was in
    let below = sym c.at_most.ensures ∙ c.in_ok-below.was in
    c.under.ensures ∙ sym (stacked_over _ _ _ p.0 p.1 c.args.layers c.in_ok-checked_sub.field-0 (omega (arith, less.0, less.1)) ∙ (λ i. over (top i) (below i)))
