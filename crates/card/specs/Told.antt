-- What an answer of the check tells: the number, the record and the open group of a refusal, and the layer that it comes from.
use Rattle.std.specs.Prelude.{ℕ, cond, Some, None, Ok, Err, Option, Result, nat_le}
use Rattle.verdict.specs.Verdict.{Verdict, accepted, refused, image_number}
use Rattle.rules.specs.Typed.{type_number}
use Rattle.card.specs.declared.fault.Counts.{Counts}
use Rattle.card.specs.declared.fault.TableFault.TheVariants.{Unknown, Misplaced, Misnumbered}
use Rattle.card.specs.declared.fault.Fault.{Fault}
use Rattle.card.specs.declared.fault.Fault.TheVariants.{Image, Table, Types}
use Rattle.card.specs.declared.fault.Layer.{Layer}
use Rattle.card.specs.declared.fault.Layer.TheVariants.{Image as image_layer, Table as table_layer, Types as types_layer}

-- every fault has a number of its own: 2 to 6 of the image, 7 to 9 of the table, 10 to 13 of the types
abbrev pub number_of : Fault → ℕ
number_of (Image f) = image_number f
number_of (Table (Unknown p)) = 7
number_of (Table (Misplaced p g)) = 8
number_of (Table (Misnumbered p)) = 9
number_of (Types f) = type_number f.broken

-- what is wrong with the image as a whole has no record
abbrev pub record_of : Fault → Option ℕ
record_of (Image f) = None
record_of (Table (Unknown p)) = Some p
record_of (Table (Misplaced p g)) = Some p
record_of (Table (Misnumbered p)) = Some p
record_of (Types f) = Some f.«record»

-- only a misplaced record has a group, if one is open there
abbrev pub group_of : Fault → Option ℕ
group_of (Image f) = None
group_of (Table (Unknown p)) = None
group_of (Table (Misplaced p g)) = g
group_of (Table (Misnumbered p)) = None
group_of (Types f) = None

abbrev pub layer_of : Fault → Layer
layer_of (Image f) = image_layer
layer_of (Table f) = table_layer
layer_of (Types f) = types_layer

-- the layer that a number belongs to
abbrev pub layer_by : ℕ → Layer
layer_by n = cond (nat_le n 6) image_layer (cond (nat_le n 9) table_layer types_layer)

abbrev pub told : Result Counts Fault → Verdict
told (Ok c) = accepted c.enums c.functions
told (Err f) = refused (number_of f) (record_of f) (group_of f)
