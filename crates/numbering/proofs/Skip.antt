-- The table of ends leads behind an expression, and behind a MATCH's arms.
use Rattle.std.proofs.Common.{◌≡◌, ℕ, suc, ◌<◌, ◌≤◌, cond, List, [], ◌∷◌, length, get_or, drop, Some, None, Option, sym, refl, ap, ◌∙◌, subst, arith, lt-ltb}
use Rattle.battery.specs.Tree.{Exprs, ∅, ◌&◌, at}
use Rattle.table.specs.declared.token.Token.{Token}
use Rattle.table.specs.declared.token.Token.TheVariants.{Close as CLOSE, Enum as ENUM, Case as CASE, Def as DEF, Ty as TYPE, Arm as ARM, Expr as EXPR}
use Rattle.grammar.specs.Grammar.{Piece, close, type, expr, cases, arms, an_enum, a_fn, exprs, count, Spells, s_end, s_close, s_type, s_leaf, s_pair, s_if, s_many, s_match, s_last_arm, s_arm, s_exit, s_last_case, s_case, s_enum, s_def, pieces_of}
use Rattle.numbering.specs.Ends.{look, times, past, Ends}
use Rattle.table.specs.Sorts.{is_close}
use Rattle.numbering.proofs.Standing.{Skips}
use Rattle.numbering.proofs.Indexed.{at_below}
use Rattle.numbering.proofs.Lists.{at_drop, drop_next}
use Rattle.numbering.proofs.Read.{read_sound, read_complete}

pub looked : (ws : List Token) (es : List ℕ) (p q : ℕ) → p < q → q < length ws → look ws es p q ≡ get_or es q 0
looked ws es p q h k = rw (lt-ltb p q h, lt-ltb q (length ws) k)

module _ (t : List ℕ) (ws : List Token) (es : List ℕ) where
  -- the place r behind q, the pieces from there on, and more about them
  record Reached (More : ℕ → Type 0) (q r : ℕ) (ps : List Piece) : Type 0 where
    past_it : q < r
    within : r ≤ length ws
    spelt : Spells t r (drop r ws) ps
    more : More r

  -- from end to end over pieces, up to cases or an item
  abbrev Walks : List Piece → ℕ → Type 0
  Walks [] q = Unit {0}
  Walks (close ∷ ps) q = Reached (Walks ps) q (get_or es q 0) ps
  Walks (type τ ∷ ps) q = Reached (Walks ps) q (get_or es q 0) ps
  Walks (expr e ∷ ps) q = Reached (Walks ps) q (get_or es q 0) ps
  Walks (cases cs ∷ ps) q = Unit {0}
  Walks (arms ms ∷ ps) q = Reached (Walks ps) q (get_or es q 0) ps
  Walks (an_enum E ∷ ps) q = Unit {0}
  Walks (a_fn fn ∷ ps) q = Unit {0}

  abbrev Goes : ℕ → ℕ → List Piece → Type 0
  Goes q r ps = Reached (Walks ps) q r ps

  begin : {q : ℕ} {w : Token} {vs : List Token} (ps : List Piece) → drop q ws ≡ w ∷ vs → Spells t (suc q) vs ps → Walks ps (suc q) → Goes q (suc q) ps
  begin {q} ps e h n =
      record { past_it = omega arith; within = at_below ws q _ (at_drop q ws e); spelt = subst (λ (us : List Token). Spells t (suc q) us ps) (sym (drop_next q ws e)) h; more = n }

  -- over one part more, by the table as it is looked up from q
  step : {q r : ℕ} {ps qs : List Piece} → Goes q r qs → Goes r (get_or es r 0) ps → Goes q (look ws es q r) ps
  step {q} {r} {ps} a b =
      subst (λ (m : ℕ). Goes q m ps) (sym (looked ws es q r a.past_it (omega arith)))
      (record { past_it = omega arith; within = b.within; spelt = b.spelt; more = b.more })

  steps : (as' : Exprs) {q r : ℕ} (ps : List Piece) → Goes q r (exprs as' ps) → Goes q (times (count as') (look ws es q) r) ps
  steps ∅ ps a = a
  steps (e & as') ps a = steps as' ps (step a a.more)

  module _ (ends : Ends ws es) where
    -- a CLOSE is stepped over as the table has it
    or_step : (q r : ℕ) → q < r → cond (is_close (at ws r)) (suc r) (look ws es q r) ≡ look ws es q r
    or_step q r h = go (at ws r) refl
      where
        go : (o : Option Token) → at ws r ≡ o → cond (is_close o) (suc r) (look ws es q r) ≡ look ws es q r
        go None e = refl
        go (Some CLOSE) e = sym (looked ws es q r h (at_below ws r _ e) ∙ ends r CLOSE e)
        go (Some (ENUM k)) e = refl
        go (Some (CASE n k)) e = refl
        go (Some (DEF n k)) e = refl
        go (Some (TYPE τ)) e = refl
        go (Some (ARM n x c)) e = refl
        go (Some (EXPR a)) e = refl

    end : {q m : ℕ} {w : Token} {vs : List Token} {ps : List Piece} → drop q ws ≡ w ∷ vs → past ws (look ws es q) q w ≡ m → Goes q m ps → Goes q (get_or es q 0) ps
    end {q} {w = w} {ps = ps} e i a = subst (λ (m : ℕ). Goes q m ps) (sym (ends q w (at_drop q ws e) ∙ i)) a

    walk : {q : ℕ} {vs : List Token} {ps : List Piece} → Spells t q vs ps → drop q ws ≡ vs → Walks ps q
    walk s_end e = tt
    walk (s_close {p = q} {ps = ps} h) e = end e refl (begin ps e h (walk h (drop_next q ws e)))
    walk (s_type {p = q} {ps = ps} h) e = end e refl (begin ps e h (walk h (drop_next q ws e)))
    walk (s_leaf {p = q} {ps = ps} h) e = end e refl (begin ps e h (walk h (drop_next q ws e)))
    walk (s_pair {p = q} {ps = ps} {a = a} {b = b} h) e =
        let x = begin (expr a ∷ expr b ∷ ps) e h (walk h (drop_next q ws e)) in
        let y = step x x.more in
        end e refl (step y y.more)
    walk (s_if {p = q} {ps = ps} {c = c} {a = a} {b = b} h) e =
        let x = begin (expr c ∷ expr a ∷ expr b ∷ ps) e h (walk h (drop_next q ws e)) in
        let y = step x x.more in
        let z = step y y.more in
        end e refl (step z z.more)
    walk (s_many {p = q} {ps = ps} as' n h) e = end e (ap (λ (k : ℕ). times k (look ws es q) (suc q)) n) (steps as' ps (begin (exprs as' ps) e h (walk h (drop_next q ws e))))
    walk (s_match {p = q} {ps = ps} {a = a} {ms = ms} h) e =
        let x = begin (expr a ∷ arms ms ∷ ps) e h (walk h (drop_next q ws e)) in
        let y = step x x.more in
        end e refl (step y y.more)
    walk (s_last_arm {p = q} {ps = ps} {e = a} h) e =
        let x = begin (expr a ∷ close ∷ ps) e h (walk h (drop_next q ws e)) in
        let y = step x x.more in
        end e (or_step q _ y.past_it) (step y y.more)
    walk (s_arm {p = q} {ps = ps} {e = a} {ms = ms} h) e =
        let x = begin (expr a ∷ arms ms ∷ ps) e h (walk h (drop_next q ws e)) in
        let y = step x x.more in
        end e (or_step q _ y.past_it) (step y y.more)
    walk (s_exit {p = q} {ps = ps} {τ = τ} {a = a} h) e =
        let x = begin (type τ ∷ expr a ∷ ps) e h (walk h (drop_next q ws e)) in
        let y = step x x.more in
        end e refl (step y y.more)
    walk (s_last_case n h) e = tt
    walk (s_case n h) e = tt
    walk (s_enum h) e = tt
    walk (s_def n h) e = tt

module _ (t : List ℕ) (ws : List Token) (es : List ℕ) (ends : Ends ws es) where
  reads : {q m : ℕ} {ps : List Piece} → Goes t ws es q m ps → (q < m) × (m ≤ length ws) × (pieces_of t m (drop m ws) ≡ Some ps)
  reads a = (a.past_it, a.within, read_complete t a.spelt)

  pub skips : (q : ℕ) → q < length ws → Skips t ws q (get_or es q 0)
  skips q l = record { expression = λ e ps h. reads (walk t ws es ends (read_sound t q (drop q ws) (expr e ∷ ps) h) refl) }
