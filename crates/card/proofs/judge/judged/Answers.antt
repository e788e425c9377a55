-- A record out of order tells the verdict, and else the types do.
use Rattle.std.proofs.Common.{Ok, Err, ap, ◌∙◌}
use Rattle.std.proofs.lemmas.Result.{err_from_is_err_and}
use Rattle.numbering.specs.Views.{tokens_in}
use Rattle.card.specs.Told.{told}
use Rattle.card.specs.declared.fault.Fault.TheVariants.{Types}
use Rattle.card.proofs.Joined.{told_misnumbered, told_types}
use Rattle.card.proofs.judge.judged.Goals as goal

pub returns-in_err-in_order : goal.returns-in_err-in_order
returns-in_err-in_order c t C read =
    let p = err_from_is_err_and c.from_residual.result c.from_residual.ensures.1 in
    ap told (p.1 ∙ ap Err p.2) ∙ told_misnumbered C c.args.texts (tokens_in c.args.layout.now) c.in_err-in_order.field-0.0 (c.in_err-in_order.ensures t C read)

pub returns-in_err-well_typed : goal.returns-in_err-well_typed
returns-in_err-well_typed c t C read =
    let p = err_from_is_err_and c.from_residual-in_err-well_typed.result c.from_residual-in_err-well_typed.ensures.1 in
    let f = c.in_err-well_typed.field-0.0 in
    ap told (p.1 ∙ ap Err p.2) ∙ told_types C c.args.texts (tokens_in c.args.layout.now) (Err (Types f)) (c.in_ok-in_order.ensures t C read) (c.in_err-well_typed.ensures t C read)

pub returns : goal.returns
returns c t C read =
    told_types C c.args.texts (tokens_in c.args.layout.now) (Ok c.in_ok-well_typed.field-0) (c.in_ok-in_order.ensures t C read) (c.in_ok-well_typed.ensures t C read)
