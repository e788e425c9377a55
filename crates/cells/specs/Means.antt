-- Why `==` tells the same meaning, and so keeps the laws of `==`. `PartialEq` asks for these as a member, so they stand here.
use Rattle.std.specs.Prelude.{◌≡◌, ℕ, Decides}
use Rattle.std.proofs.Common.{ap, rules}
use Rattle.std.specs.Cmp.{IsPartialEquivalence, unsigned_Decides}
use Rattle.std.specs.Cmp.Lexicographic.{pointwise_decides, bytes_decides}
use Rattle.battery.specs.declared.value.Value.{Value}
use Rattle.battery.specs.Same.{same_value_means, laws_of}
use Rattle.battery.specs.Cell as rules
use Rattle.few.specs.declared.items.short.Short.{Short}
use Rattle.cells.specs.Meaning.{text_of, values_of, meaning}
use Rattle.cells.specs.Same.{same_text, same_values, same_meaning, same_cell}
use Rattle.cells.specs.declared.cell.Cell.{Cell}

pub same_text_means : (a b : Short ℕ 24) → Decides (same_text a b) (text_of a ≡ text_of b)
same_text_means a b = bytes_decides (text_of a) (text_of b)

pub same_values_means : (a b : Short Value 4) → Decides (same_values a b) (values_of a ≡ values_of b)
same_values_means a b = pointwise_decides same_value_means (values_of a) (values_of b)

same_meaning_means : (a b : rules.Cell) → Decides (same_meaning a b) (a ≡ b)
same_meaning_means (rules.text_cell s) (rules.text_cell t) = let d = bytes_decides s t in ((λ h. ap rules.text_cell (d.0 h)), λ e. d.1 (cc))
same_meaning_means (rules.text_cell s) (rules.enum_cell l d ws) = ((λ h. cc), λ e. cc)
same_meaning_means (rules.enum_cell k c vs) (rules.text_cell t) = ((λ h. cc), λ e. cc)
same_meaning_means (rules.enum_cell k c vs) (rules.enum_cell l d ws) =
    let m = pointwise_decides same_value_means vs ws in
    let g = unsigned_Decides k l in
    let h = unsigned_Decides c d in
    grind rules

pub same_cell_means : (a b : Cell) → Decides (same_cell a b) (meaning a ≡ meaning b)
same_cell_means a b = same_meaning_means (meaning a) (meaning b)

pub same_text_laws : IsPartialEquivalence same_text
same_text_laws = laws_of text_of same_text_means

pub same_values_laws : IsPartialEquivalence same_values
same_values_laws = laws_of values_of same_values_means

pub same_cell_laws : IsPartialEquivalence same_cell
same_cell_laws = laws_of meaning same_cell_means
