use Rattle.std.proofs.Common.{Some, ap}
use Rattle.std.specs.Cmp.{unsigned_Decides}
use Rattle.cells.specs.Meaning.{text_of}
use Rattle.battery.specs.Rules.{answer}
use Rattle.constructs.proofs.Celled.{same_texts}
use Rattle.constructs.proofs.comparison.cells_compared.Goals as goal

pub returns-in-Text-Text-clause-says : goal.returns-in-Text-Text-clause-says
returns-in-Text-Text-clause-says c =
    let e = same_texts c.eq.result (text_of c.in-Text-Text.a) (text_of c.in-Text-Text.b) (c.eq.ensures.means unsigned_Decides) in
    rw (c.in-Text-Text.is-0, c.in-Text-Text.is-1) (ap (λ r. Some (answer r)) e)
