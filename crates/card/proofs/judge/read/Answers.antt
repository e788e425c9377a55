-- The tokens are those of the image's records: the table tells the verdict, or the grammar, or what is found on the card.
use Rattle.std.proofs.Common.{Err, ap, ◌∙◌, arith}
use Rattle.std.proofs.lemmas.Result.{err_from_is_err_and}
use Rattle.image.specs.Bytes.{records_of}
use Rattle.numbering.specs.Views.{tokens_in}
use Rattle.numbering.proofs.Limits.{all_limited}
use Rattle.card.specs.Told.{told}
use Rattle.card.proofs.Joined.{told_unknown, told_misplaced, told_on_card, all_known, no_more}
use Rattle.card.proofs.judge.read.Goals as goal

pub returns-in_err-known : goal.returns-in_err-known
returns-in_err-known c =
    let p = err_from_is_err_and c.from_residual.result c.from_residual.ensures.1 in
    ap told (p.1 ∙ ap Err p.2) ∙ told_unknown c.args.image.now c.requires.header _ c.in_err-known.field-0.0 c.requires.room c.in_err-known.ensures.answer

pub returns-in_err-in_place : goal.returns-in_err-in_place
returns-in_err-in_place c =
    let p = err_from_is_err_and c.from_residual-in_err-in_place.result c.from_residual-in_err-in_place.ensures.1 in
    let image = c.args.image.now in
    let ws = c.known.new.room in
    let all = all_known image c.requires.header _ ws c.requires.room c.in_ok-known.ensures.tokens in
    ap told (p.1 ∙ ap Err p.2) ∙ told_misplaced image c.requires.header ws (c.known.auto.room ∙ c.requires.room) all c.in_err-in_place.field-0.0 c.in_err-in_place.ensures

pub invariant_of-of : goal.invariant_of-of
invariant_of-of c =
    let image = c.args.image.now in
    let all = all_known image c.requires.header _ c.known.new.room c.requires.room c.in_ok-known.ensures.tokens in
    record {
      few = omega (arith, c.known.auto.room, no_more image c.requires.header, c.requires.room);
      limited = ∣ all_limited (records_of image) c.known.new.room all ∣₁;
    }

pub returns : goal.returns
returns c =
    let image = c.args.image.now in
    let ws = c.known.new.room in
    let all = all_known image c.requires.header _ ws c.requires.room c.in_ok-known.ensures.tokens in
    told_on_card image c.requires.header ws (c.known.auto.room ∙ c.requires.room) all (told c.judged.result) c.args.header.texts (tokens_in c.of.result) c.requires.texts c.of.ensures c.in_ok-in_place.ensures c.judged.ensures
