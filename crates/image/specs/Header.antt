-- The tests of an image's first nine bytes and of its length, from the top: the first that fails.
use Rattle.std.specs.Prelude.{ℕ, ◌+◌, ◌*◌, Bool, cond, not, ◌&&◌, ◌||◌, List, length, Some, None, Option, ◌==◌, nat_lt, slice_index}
use Rattle.image.specs.declared.header.ImageFault.{ImageFault}
use Rattle.image.specs.declared.header.ImageFault.TheVariants.{Short, Letters, Version, Range, Length}
use Rattle.image.specs.Bytes.{field16, count_of, text_of}

-- the three letters RUL
abbrev pub lettered : List ℕ → Bool
lettered image = slice_index image 0 == 0x52 && slice_index image 1 == 0x55 && slice_index image 2 == 0x4C

abbrev pub header_fault : List ℕ → Option ImageFault
header_fault image =
    cond (nat_lt (length image) 9) (Some Short)
    (cond (not (lettered image)) (Some Letters)
    (cond (not (field16 image 3 == 1)) (Some Version)
    (cond (count_of image == 0 || nat_lt 512 (count_of image) || nat_lt 2048 (text_of image)) (Some Range)
    (cond (not (length image == 9 + 8 * count_of image + text_of image)) (Some Length)
    None))))
