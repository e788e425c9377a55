use Rattle.std.proofs.lemmas.Result.{err_from_is_err_and}
use Rattle.numbering.specs.Views.{tokens_in}
use Rattle.rules.proofs.Declares.{call_lost, call_there}
use Rattle.rules.proofs.declared.many_rule.Goals as goal

pub returns-in_err-signature-in-Call : goal.returns-in_err-signature-in-Call
returns-in_err-signature-in-Call c =
    let p = err_from_is_err_and c.from_residual.result c.from_residual.ensures.1 in
    rw (p.1, p.2, c.in-Call.is) (call_lost (tokens_in c.args.card.now) c.in-Call.function c.args.at c.function_types.result c.in_err-signature-in-Call.field-0.0 c.at-missing.result c.args.parts.now c.function_types.ensures
    c.in_err-signature-in-Call.ensures.ok_part c.in_err-signature-in-Call.ensures.value c.at-missing.ensures)

pub returns-in_ok-signature-in-Call : goal.returns-in_ok-signature-in-Call
returns-in_ok-signature-in-Call c =
    rw c.in-Call.is (call_there (tokens_in c.args.card.now) c.in-Call.function c.args.at c.function_types.result c.in_ok-signature-in-Call.signature c.args.parts.now c.as_slice.result.now _ c.function_types.ensures
    c.in_ok-signature-in-Call.ensures.ok_part c.as_slice.ensures c.declared_rule.ensures)
