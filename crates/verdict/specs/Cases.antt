-- A card to try.
use Rattle.std.specs.Prelude.{◌≡◌, ℕ, List, [], ◌∷◌, Some}
use Rattle.verdict.specs.Verdict.{accepted, refused, verdict}

-- the bytes of a record whose B is below 256 and C below 65,536
abbrev pub rec : ℕ → ℕ → ℕ → ℕ → ℕ → List ℕ → List ℕ
rec k a b c₀ c₁ bs = k ∷ a ∷ b ∷ 0 ∷ c₀ ∷ c₁ ∷ 0 ∷ 0 ∷ bs

abbrev pub header : ℕ → List ℕ → List ℕ
header n bs = 0x52 ∷ 0x55 ∷ 0x4C ∷ 1 ∷ 0 ∷ n ∷ 0 ∷ 0 ∷ 0 ∷ bs

abbrev pub enum_0 : List ℕ → List ℕ
enum_0 bs = rec 1 0 0 0 0 (rec 2 0 0 0 0 (rec 2 1 1 0 0 (rec 8 3 0 0 0 bs)))

-- DEF 0, its types and its body; NUM 50000 is 80 + 195 × 256
abbrev pub def_0 : List ℕ → List ℕ
def_0 bs =
    rec 3 2 0 0 0 (rec 8 1 0 0 0 (rec 8 3 0 0 0 (rec 8 4 0 0 0
    (rec 29 0 0 0 0 (rec 27 0 0 0 0 (rec 20 0 0 0 0 (rec 17 0 0 80 195
    (rec 32 1 0 1 0 (rec 20 0 1 0 0 (rec 32 0 0 0 0 bs))))))))))

abbrev pub close : List ℕ → List ℕ
close bs = rec 0 0 0 0 0 bs

abbrev pub image_K : List ℕ
image_K = header 17 (enum_0 (close (def_0 (close []))))

abbrev pub KAccepted : Type 0
KAccepted = verdict image_K ≡ accepted 1 1

abbrev pub KWithout4 : Type 0
KWithout4 = verdict (header 16 (enum_0 (def_0 (close [])))) ≡ refused 8 (Some 4) (Some 0)

abbrev pub KWithout16 : Type 0
KWithout16 = verdict (header 16 (enum_0 (close (def_0 [])))) ≡ refused 8 (Some 16) (Some 5)
