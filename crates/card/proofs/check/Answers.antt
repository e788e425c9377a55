-- The header's fault, or what is read behind it, tells the verdict; and an answer that tells it keeps what is promised.
use Rattle.std.proofs.Common.{◌≡◌, Err, sym, ap, ◌∙◌}
use Rattle.std.proofs.lemmas.Result.{err_from_is_err_and}
use Rattle.verdict.specs.Verdict.{verdict, by_header}
use Rattle.card.specs.Told.{told}
use Rattle.card.proofs.Promised.{accepts, one, refuses, first, layered}
use Rattle.card.proofs.Settled.{settled}
use Rattle.card.proofs.check.Goals as goal

pub returns-in_err-header : goal.returns-in_err-header
returns-in_err-header c =
    let image = c.args.image.now in
    let r = c.from_residual.result in
    let p = err_from_is_err_and r c.from_residual.ensures.1 in
    let tells : told r ≡ verdict image = ap told (p.1 ∙ ap Err p.2) ∙ sym (ap (by_header image) c.in_err-header.ensures.verdict) in
    record { verdict = tells; accepts = accepts image r tells; one = one image; refuses = refuses image r tells; first = first image r tells; layer = layered r; settled = settled image }

pub returns : goal.returns
returns c =
    let image = c.args.image.now in
    let r = c.read.result in
    let tells : told r ≡ verdict image = c.read.ensures ∙ sym (ap (by_header image) c.in_ok-header.ensures.verdict) in
    record { verdict = tells; accepts = accepts image r tells; one = one image; refuses = refuses image r tells; first = first image r tells; layer = layered r; settled = settled image }
