-- An answer that tells the verdict keeps what is promised.
use Rattle.std.proofs.Common.{◌≡◌, ℕ, List, Some, Ok, Err, Option, Result, sym, refl, ap, ◌∙◌, subst, ap₂, arith}
use Rattle.image.specs.declared.header.ImageFault.TheVariants.{Short, Letters, Version, Range, Length}
use Rattle.image.specs.Bytes.{records_of, text_bytes}
use Rattle.table.specs.declared.token.Token.{Token}
use Rattle.table.specs.Naming.{tokens_of}
use Rattle.grammar.specs.Grammar.{Misplaced}
use Rattle.numbering.proofs.Options.{Some≡}
use Rattle.verdict.specs.Verdict.{accepted, refused, verdict, Refusal, too_short, wrong_letters, wrong_version, out_of_range, wrong_length, not_in_table, cannot_follow, wrong_number, wrong_typing}
use Rattle.verdict.proofs.Accept.{accepts_exactly_the_typed, one_card}
use Rattle.verdict.proofs.Breaks.{first_broken}
use Rattle.verdict.proofs.Refuse.{refuses_exactly, typing_faults}
use Rattle.card.specs.declared.fault.Counts.{Counts}
use Rattle.card.specs.declared.fault.Fault.{Fault}
use Rattle.card.specs.declared.fault.Fault.TheVariants.{Image, Table, Types}
use Rattle.card.specs.declared.fault.TableFault.TheVariants.{Unknown, Misplaced as misplaced, Misnumbered}
use Rattle.card.specs.declared.fault.Layer.TheVariants.{Types as types_layer}
use Rattle.rules.specs.declared.fault.Broken.{Broken}
use Rattle.rules.specs.declared.fault.Broken.TheVariants.{Unbound, Mistyped, Count, Arms}
use Rattle.rules.specs.Typed.{type_number}
use Rattle.card.specs.Told.{number_of, layer_of, layer_by, told}
use Rattle.card.specs.Promises.{AcceptsTheTyped, OneCardAtMost, Refuses, RefusesForTheReason, NamesTheFirstMisplaced, LayerByNumber}

told_counts : (r : Result Counts Fault) (m n : ℕ) → told r ≡ accepted m n → r ≡ Ok (record { enums = m; functions = n })
told_counts (Ok c) m n e =
    let a : c.enums ≡ m = cc in
    let b : c.functions ≡ n = cc in
    ap₂ (λ (j k : ℕ). Ok (record { enums = j; functions = k })) a b
told_counts (Err f) m n e = let z : ◌≡◌ {A = ℕ} 0 1 = cc in absurd (omega arith)

told_reason : (r : Result Counts Fault) (n : ℕ) (p g : Option ℕ) → told r ≡ refused n p g → Refuses r n p g
told_reason (Ok c) n p g e = let z : ◌≡◌ {A = ℕ} 0 1 = cc in absurd (omega arith)
told_reason (Err f) n p g e = (f, refl, cc, cc, cc)

reason_told : (r : Result Counts Fault) (n : ℕ) (p g : Option ℕ) → Refuses r n p g → told r ≡ refused n p g
reason_told r n p g x = ap told x.1 ∙ (let a = x.2 in let b = x.3 in let d = x.4 in cc)

-- number 8 is a misplaced record's alone
abbrev Named : List ℕ → ℕ → Option ℕ → Type 0
Named image p g = (ws : List Token) × (tokens_of (records_of image) ≡ Some ws) × Misplaced (text_bytes image) ws p g

by_place_lem : {image : List ℕ} {n : ℕ} {r g : Option ℕ} → Refusal image n r g → n ≡ 8 → (p : ℕ) → r ≡ Some p → Named image p g
by_place_lem (too_short l) e p q = absurd (omega arith)
by_place_lem (wrong_letters l w) e p q = absurd (omega arith)
by_place_lem (wrong_version l w v) e p q = absurd (omega arith)
by_place_lem (out_of_range l w v r) e p q = absurd (omega arith)
by_place_lem (wrong_length l w v r f) e p q = absurd (omega arith)
by_place_lem (not_in_table h m) e p q = absurd (omega arith)
by_place_lem {image} {g = g} (cannot_follow {ws = ws} h k m) e p q = (ws, k, subst (λ i. Misplaced (text_bytes image) ws i g) (Some≡ q) m)
by_place_lem (wrong_number h k s m) e p q = absurd (omega arith)
by_place_lem {image} (wrong_typing {C = C} {n = n} {p = i} f x) e p q = let t = typing_faults image C f n i ((first_broken image C f n i).1 x) in absurd (omega arith)

type_layer : (b : Broken) → types_layer ≡ layer_by (type_number b)
type_layer Unbound = refl
type_layer Mistyped = refl
type_layer Count = refl
type_layer Arms = refl

layers : (f : Fault) → layer_of f ≡ layer_by (number_of f)
layers (Image Short) = refl
layers (Image Letters) = refl
layers (Image Version) = refl
layers (Image Range) = refl
layers (Image Length) = refl
layers (Table (Unknown p)) = refl
layers (Table (misplaced p g)) = refl
layers (Table (Misnumbered p)) = refl
layers (Types f) = type_layer f.broken

pub layered : (r : Result Counts Fault) → LayerByNumber r
layered r f e = layers f

pub one : (image : List ℕ) → OneCardAtMost image
one = one_card

module _ (image : List ℕ) (r : Result Counts Fault) (tells : told r ≡ verdict image) where
  pub accepts : AcceptsTheTyped image r
  accepts m n =
      let exactly = accepts_exactly_the_typed image m n in (λ e. exactly.0 (sym tells ∙ ap told e), λ a. told_counts r m n (tells ∙ exactly.1 a))

  pub refuses : RefusesForTheReason image r
  refuses n p g =
      let exactly = refuses_exactly image n p g in (λ x. exactly.0 (sym tells ∙ reason_told r n p g x), λ a. told_reason r n p g (tells ∙ exactly.1 a))

  pub first : NamesTheFirstMisplaced image r
  first p g e = by_place_lem ((refuses_exactly image 8 (Some p) g).0 (sym tells ∙ ap told e)) refl p refl
