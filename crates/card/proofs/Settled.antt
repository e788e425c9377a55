-- Bytes that are more than an image has are refused by the first nine of them.
use Rattle.std.proofs.Common.{◌≡◌, ℕ, ◌+◌, ◌*◌, ◌<◌, ◌≤◌, Bool, true, false, cond, not, eqb, ltb, List, length, get_or, take, Some, None, sym, refl, ap, ◌∙◌, arith, lit<, ltb-false, ltb-true, le-ltb, ne_eqb}
use Rattle.std.proofs.lemmas.List.{take_all, get_or-take, length-take-le}
use Rattle.image.specs.declared.header.ImageFault.{ImageFault}
use Rattle.image.specs.declared.header.ImageFault.TheVariants.{Short, Letters, Version, Range, Length}
use Rattle.image.specs.Bytes.{field16, count_of, text_of}
use Rattle.image.specs.Header.{lettered, header_fault}
use Rattle.verdict.specs.Verdict.{refused, image_number, by_header, verdict, Ranges}
use Rattle.verdict.proofs.Accept.{outside, in_ranges}
use Rattle.card.specs.Promises.{SettledBy6154}

abbrev fault_by : Bool → Bool → Bool → ImageFault
fault_by l v r = cond l Letters (cond v Version (cond r Range Length))

abbrev fault_of : List ℕ → ImageFault
fault_of image = fault_by (not (lettered image)) (not (eqb (field16 image 3) 1)) (outside image)

by_tests : (l v r w : Bool) → (r ≡ false → w ≡ true) → cond l (Some Letters) (cond v (Some Version) (cond r (Some Range) (cond w (Some Length) None))) ≡ Some (fault_by l v r)
by_tests true v r w h = refl
by_tests false true r w h = refl
by_tests false false true w h = refl
by_tests false false false w h = ap (λ b. cond b (Some Length) None) (h refl)

not_as_long : (image : List ℕ) → 6154 ≤ length image → Ranges image → not (eqb (length image) (9 + 8 * count_of image + text_of image)) ≡ true
not_as_long image long r = ap not (ne_eqb (length image) (9 + 8 * count_of image + text_of image) (λ e. absurd (omega (arith, e, r.records_to, r.texts_to))))

too_long : (image : List ℕ) → 6154 ≤ length image → header_fault image ≡ Some (fault_of image)
too_long image long =
    ap (λ b. cond b (Some Short) (cond (not (lettered image)) (Some Letters) (cond (not (eqb (field16 image 3) 1)) (Some Version) (cond (outside image) (Some Range) (cond (not (eqb (length image) (9 + 8 * count_of image + text_of image))) (Some Length) None))))) (le-ltb (length image) 9 (omega arith))
    ∙ by_tests (not (lettered image)) (not (eqb (field16 image 3) 1)) (outside image) (not (eqb (length image) (9 + 8 * count_of image + text_of image))) (λ e. not_as_long image long (in_ranges image e))

refused_by : (image : List ℕ) → 6154 ≤ length image → verdict image ≡ refused (image_number (fault_of image)) None None
refused_by image long = ap (by_header image) (too_long image long)

same_fault : (xs ys : List ℕ) → ((i : ℕ) → i < 9 → get_or xs i 0 ≡ get_or ys i 0) → fault_of xs ≡ fault_of ys
same_fault xs ys h =
    let e0 = h 0 (lit< tt) in
    let e1 = h 1 (lit< tt) in
    let e2 = h 2 (lit< tt) in
    let e3 = h 3 (lit< tt) in
    let e4 = h 4 (lit< tt) in
    let e5 = h 5 (lit< tt) in
    let e6 = h 6 (lit< tt) in
    let e7 = h 7 (lit< tt) in
    let e8 = h 8 (lit< tt) in
    simp (e0, e1, e2, e3, e4, e5, e6, e7, e8)

cut : (image : List ℕ) (n : ℕ) → 6154 ≤ n → (b : Bool) → ltb n (length image) ≡ b → verdict (take n image) ≡ verdict image
cut image n h false q = let within : length image ≤ n = ltb-false n (length image) q in ap verdict (take_all n image within)
cut image n h true q =
    let beyond : n < length image = ltb-true n (length image) q in
    let long : length (take n image) ≡ n = length-take-le n image (omega arith) in
    refused_by (take n image) (omega arith)
    ∙ ap (λ f. refused (image_number f) None None) (same_fault (take n image) image (λ i l. get_or-take n image i 0 (omega arith)))
    ∙ sym (refused_by image (omega arith))

pub settled : (image : List ℕ) → SettledBy6154 image
settled image n h = cut image n h (ltb n (length image)) refl
