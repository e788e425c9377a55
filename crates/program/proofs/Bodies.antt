-- A card's function has its body behind its DEF.
use Rattle.std.proofs.Common.{◌≡◌, ℕ, suc, ◌+◌, ◌<◌, List, ◌∷◌, length, drop, Some, None, Option, sym, refl, ap, ◌∙◌, subst, arith}
use Rattle.battery.specs.Tree.{Expr, Fn, Card, at}
use Rattle.table.specs.declared.token.Token.{Token}
use Rattle.grammar.specs.Grammar.{Piece, expr, pieces_of, card_of}
use Rattle.numbering.specs.Places.{functions_in}
use Rattle.numbering.proofs.Standing.{Matched, neither, each, FnAt}
use Rattle.numbering.proofs.Options.{never, Some≡}
use Rattle.numbering.proofs.Indexed.{at_below}
use Rattle.numbering.proofs.Declared.{function_at}
use Rattle.table.specs.Sorts.{parameter_count}
use Rattle.program.specs.Stands.{tree_at, Begins}
use Rattle.program.specs.declared.function.Function.{Function}
use Rattle.program.specs.Called.{OfFunction}

module _ (t : List ℕ) (ws : List Token) where
  pub tree_there : (i : ℕ) (e : Expr) (ps : List Piece) → pieces_of t i (drop i ws) ≡ Some (expr e ∷ ps) → tree_at t ws i ≡ e
  unfolding tree_at
  tree_there i e ps h = rw h

  pub begins_there : (i : ℕ) (e : Expr) (ps : List Piece) → pieces_of t i (drop i ws) ≡ Some (expr e ∷ ps) → Begins t ws i
  begins_there i e ps h = (ps, h ∙ ap (λ a. Some (expr a ∷ ps)) (sym (tree_there i e ps h)))

  no_function : {o : Option ℕ} {q : Option Fn} → Matched (FnAt t ws) o q → None ≡ o → OfFunction t ws q None
  no_function neither e = tt
  no_function (each r) e = never e

  its_body : {o : Option ℕ} {q : Option Fn} (p n : ℕ) (b : Function) → Matched (FnAt t ws) o q → Some p ≡ o → Some n ≡ parameter_count (at ws p) → b.parameters ≡ n → b.body ≡ p + 2 + n → OfFunction t ws q (Some b)
  its_body p n b neither e d s h = never (sym e)
  its_body p n b (each {a = a} {b = fn} r) e d s h =
      let same : a ≡ p = sym (Some≡ e) in
      let counted : r.n ≡ n = Some≡ (sym (ap parameter_count r.is) ∙ ap (λ i. parameter_count (at ws i)) same ∙ sym d) in
      let place : suc (suc a) + r.n ≡ b.body = omega arith in
      let stands = subst (λ i. pieces_of t i (drop i ws) ≡ Some (expr fn.body ∷ r.rest)) place r.body in
      (s ∙ sym counted ∙ r.counted, begins_there b.body fn.body r.rest stands, sym (tree_there b.body fn.body r.rest stands))

  has_def : {o : Option ℕ} {q : Option Fn} (p : ℕ) → Matched (FnAt t ws) o q → Some p ≡ o → None ≡ parameter_count (at ws p) → OfFunction t ws q None
  has_def p neither e d = tt
  has_def p (each {a = a} {b = fn} r) e d = never (d ∙ ap (λ i. parameter_count (at ws i)) (Some≡ e) ∙ ap parameter_count r.is)

  module _ (C : Card) (read : card_of t ws ≡ Some C) (f : ℕ) where
    pub none_called : None ≡ at (functions_in 0 ws) f → OfFunction t ws (at C.fns f) None
    none_called e = no_function (function_at t ws C read f) e

    pub one_called : (p n : ℕ) (b : Function) → Some p ≡ at (functions_in 0 ws) f → Some n ≡ parameter_count (at ws p) → b.parameters ≡ n → b.body ≡ p + 2 + n → OfFunction t ws (at C.fns f) (Some b)
    one_called p n b e d s h = its_body p n b (function_at t ws C read f) e d s h

    pub no_def : (p : ℕ) → Some p ≡ at (functions_in 0 ws) f → None ≡ parameter_count (at ws p) → OfFunction t ws (at C.fns f) None
    no_def p e d = has_def p (function_at t ws C read f) e d

pub def_below : (ws : List Token) (p n : ℕ) → Some n ≡ parameter_count (at ws p) → p < length ws
def_below ws p n d = go (at ws p) refl d
  where
    go : (o : Option Token) → at ws p ≡ o → Some n ≡ parameter_count o → p < length ws
    go None e d = never (sym d)
    go (Some w) e d = at_below ws p w e
