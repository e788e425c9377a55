use Rattle.std.proofs.Common.{Ok, Err, subst, sym, ◌∙◌, add-one, arith}
use Rattle.std.proofs.lemmas.Result.{err_from_is_err_and}
use Rattle.numbering.specs.Views.{tokens_in}
use Rattle.typing.specs.Functions.{FunctionAt}
use Rattle.typing.proofs.Bodies.{LeftAt, left_more, left_fault, left_none}
use Rattle.typing.proofs.typed.Goals as goal

pub returns-in_err-function : goal.returns-in_err-function
returns-in_err-function c =
    let p = err_from_is_err_and c.from_residual.result c.from_residual.ensures.1 in
    let f = c.in_err-function.field-0.0 in
    let i = c.loop-number.invariant in
    let fault = subst (λ ws. FunctionAt ws c.loop-number.number (Err f)) i.0 c.in_err-function.ensures.is in
    rw (p.1, p.2) (left_fault (tokens_in c.args.card.now) c.loop-number.number f (omega (arith, c.functions-number-end.ensures)) i.1 fault)

pub loop-number-preserved : goal.loop-number-preserved
loop-number-preserved c =
    let i = c.loop-number.invariant in
    let typed = subst (λ ws. FunctionAt ws c.loop-number.number (Ok tt)) i.0 c.in_ok-function.ensures.is in
    (c.in_ok-function.ensures.on ∙ i.0, subst (LeftAt (tokens_in c.args.card.now)) (sym (add-one c.loop-number.number)) (left_more (tokens_in c.args.card.now) c.loop-number.number (omega (arith, c.functions-number-end.ensures)) i.1 typed))

pub returns : goal.returns
returns c = left_none (tokens_in c.args.card.now) c.loop-number.number (omega (arith, c.functions-number-end.ensures)) c.loop-number.invariant.1
