-- What was counted, as what went before.
use Rattle.numbering.specs.Numbering.{Seen}
use Rattle.numbering.specs.declared.order.Counts.{Counts}

abbrev pub counted : Counts → Seen
counted c = record { enums = c.enums; defs = c.defs; cases = c.cases }
