-- The records and the text of an image, read off its bytes.
use Rattle.std.specs.Prelude.{ℕ, zero, suc, ◌+◌, ◌*◌, cond, List, [], ◌∷◌, length, take, drop, Some, None, Option, ◌==◌, nat_le, slice_index}
use Rattle.std.specs.Int.{w32}
use Rattle.std.proofs.Common.{to_z}
use Rattle.image.specs.declared.record.Record.{Record}

-- a field of 16 bits, the low byte first
abbrev pub field16 : List ℕ → ℕ → ℕ
field16 bytes p = slice_index bytes p + slice_index bytes (p + 1) * 256

-- n, the count of records, and t, the count of text bytes
abbrev pub count_of : List ℕ → ℕ
count_of image = field16 image 5

abbrev pub text_of : List ℕ → ℕ
text_of image = field16 image 7

-- kind and A are bytes, B has 16 bits, and C has 32 in two's complement
abbrev pub fields_of : List ℕ → Record
fields_of bytes = record {
  kind = slice_index bytes 0;
  a = slice_index bytes 1;
  b = field16 bytes 2;
  c = to_z w32 (slice_index bytes 4 + slice_index bytes 5 * 256 + slice_index bytes 6 * 65536 + slice_index bytes 7 * 16777216);
}

abbrev pub record_of : List ℕ → Option Record
record_of bytes = cond (length bytes == 8) (Some (fields_of bytes)) None

-- the part of n bytes from a place
abbrev pub part : List ℕ → ℕ → ℕ → List ℕ
part image p n = take n (drop p image)

-- the record whose eight bytes begin at a place, if there are so many
abbrev pub record_in : List ℕ → ℕ → Option Record
record_in image p = cond (nat_le (p + 8) (length image)) (Some (fields_of (part image p 8))) None

-- n records from a place on
abbrev pub records_from : List ℕ → ℕ → ℕ → List Record
records_from image p zero = []
records_from image p (suc n) = fields_of (part image p 8) ∷ records_from image (p + 8) n

abbrev pub records_of : List ℕ → List Record
records_of image = records_from image 9 (count_of image)

-- the text bytes, behind the records
abbrev pub text_bytes : List ℕ → List ℕ
text_bytes image = drop (9 + 8 * count_of image) image
