-- A function's body in the scope of its parameters, and all functions in order.
use Rattle.std.proofs.Common.{◌≡◌, ℕ, zero, suc, ◌+◌, ◌<◌, ◌≤◌, Bool, true, false, List, [], ◌∷◌, length, take, drop, Some, None, Ok, Err, Result, sym, refl, ap, ◌∙◌, subst, arith}
use Rattle.std.proofs.lemmas.List.{drop_all}
use Rattle.battery.specs.declared.Ty.{Ty}
use Rattle.battery.specs.Tree.{Expr, Fn, Card, Scope, bind, at}
use Rattle.table.specs.declared.token.Token.{Token}
use Rattle.table.specs.declared.token.Token.TheVariants.{Close as CLOSE, Enum as ENUM, Case as CASE, Def as DEF, Ty as TYPE, Arm as ARM, Expr as EXPR}
use Rattle.scope.specs.declared.Entry.{Entry}
use Rattle.scope.specs.Bound.{scope_of}
use Rattle.grammar.specs.Grammar.{Piece, expr, pieces_of, card_of}
use Rattle.numbering.specs.Places.{functions_in}
use Rattle.numbering.specs.Views.{OnCard}
use Rattle.numbering.proofs.Options.{never, Some≡}
use Rattle.numbering.proofs.Standing.{FnAt}
use Rattle.numbering.proofs.Declared.{function_at, functions_counted}
use Rattle.verdict.specs.Order.{Checked, has, fault, ◌▹◌, rule, same_ty, check, check_fn, check_fns, check_card}
use Rattle.rules.specs.declared.declared.Signature.{Signature}
use Rattle.rules.specs.declared.fault.TypeFault.{TypeFault}
use Rattle.rules.specs.declared.fault.Broken.TheVariants.{Mistyped}
use Rattle.few.specs.Listed.{listed}
use Rattle.rules.specs.Signatures.{SameSignature}
use Rattle.rules.specs.Typed.{type_number, TypedAt}
use Rattle.rules.proofs.Walks.{matched_none, matched_some}
use Rattle.typing.specs.Functions.{FunctionAt}

module _ (ws : List Token) where
  pub no_place : (f : ℕ) (r : Result (Unit {0}) TypeFault) → None ≡ at (functions_in 0 ws) f → FunctionAt ws f r
  no_place f r e t C read fn h = never (sym (matched_none (function_at t ws C read f) (sym e)) ∙ h)

  -- the answer at a body, without the place behind it
  abbrev type_by : Result (Ty × ℕ) TypeFault → Checked Ty
  type_by (Ok x) = has x.0
  type_by (Err f) = fault (type_number f.broken) f.record

  given : (Γ : Scope Ty) (q : ℕ) (r : Result (Ty × ℕ) TypeFault) → TypedAt ws Γ q r → (t : List ℕ) (C : Card) → card_of t ws ≡ Some C → (e : Expr) (ps : List Piece) → pieces_of t q (drop q ws) ≡ Some (expr e ∷ ps) → check C Γ e ≡ type_by r
  given Γ q (Ok x) h t C read e ps d = (h t C read e ps d).0
  given Γ q (Err f) h t C read e ps d = h t C read e ps d

  -- what a function's place and its declared types say of the function that the card has there
  record Standing (t : List ℕ) (p f : ℕ) (s : Signature) (fn : Fn) : Type 0 where
    opened : fn.opened ≡ p
    params : listed s.parameters ≡ fn.params
    result : s.result ≡ fn.result
    rest : List Piece
    body : pieces_of t (p + 2 + length (listed s.parameters)) (drop (p + 2 + length (listed s.parameters)) ws) ≡ Some (expr fn.body ∷ rest)

  standing : (f p : ℕ) (s : Signature) → Some p ≡ at (functions_in 0 ws) f → OnCard ws (λ C. SameSignature (Some s) (at C.fns f)) → (t : List ℕ) (C : Card) → card_of t ws ≡ Some C → (fn : Fn) → at C.fns f ≡ Some fn → Standing t p f s fn
  standing f p s e m t C read fn h =
      let x = matched_some (function_at t ws C read f) p (sym e) in
      let y = subst (FnAt t ws p) (Some≡ (sym x.1 ∙ h)) x.2 in
      let z = subst (SameSignature (Some s)) h (m t C read) in
      let n : length (listed s.parameters) ≡ y.n = ap length z.0 ∙ sym y.counted in
      let q : p + 2 + length (listed s.parameters) ≡ suc (suc p) + y.n = omega arith in
      record { opened = y.opened; params = z.0; result = z.1; rest = y.rest; body = rw q y.body }

  -- the body's type, by the scope of the parameters alone
  body_type : (f p n : ℕ) (s : Signature) (υs : List Ty) (entries : List (Entry Ty)) (r : Result (Ty × ℕ) TypeFault) → Some p ≡ at (functions_in 0 ws) f → OnCard ws (λ C. SameSignature (Some s) (at C.fns f)) → υs ≡ listed s.parameters → n ≡ length (listed s.parameters)
      → scope_of (take (0 + length υs) entries) ≡ bind 0 υs [] → TypedAt ws (scope_of (take n entries)) (p + 2 + n) r
      → (t : List ℕ) (C : Card) → card_of t ws ≡ Some C → (fn : Fn) → at C.fns f ≡ Some fn → (check C (bind 0 fn.params []) fn.body ≡ type_by r) × Standing t p f s fn
  body_type f p n s υs entries r e m q l g d t C read fn h =
      let y = standing f p s e m t C read fn h in
      let i : 0 + length υs ≡ n = omega (arith, ap length q, l) in
      let Γ : bind 0 fn.params [] ≡ scope_of (take n entries) = sym (ap (λ (j : ℕ). scope_of (take j entries)) (sym i) ∙ g ∙ ap (λ (τs : List Ty). bind 0 τs []) (q ∙ y.params)) in
      let b : pieces_of t (p + 2 + n) (drop (p + 2 + n) ws) ≡ Some (expr fn.body ∷ y.rest) = rw l y.body in
      (ap (λ (Δ : Scope Ty). check C Δ fn.body) Γ ∙ given _ (p + 2 + n) r d t C read fn.body y.rest b, y)

  module _ (f p n : ℕ) (s : Signature) (υs : List Ty) (entries : List (Entry Ty)) (e : Some p ≡ at (functions_in 0 ws) f) (m : OnCard ws (λ C. SameSignature (Some s) (at C.fns f))) (q : υs ≡ listed s.parameters) (l : n ≡ length (listed s.parameters))
      (g : scope_of (take (0 + length υs) entries) ≡ bind 0 υs []) where
    pub body_fault : (k : TypeFault) → TypedAt ws (scope_of (take n entries)) (p + 2 + n) (Err k) → FunctionAt ws f (Err k)
    body_fault k d t C read fn h =
        let x = body_type f p n s υs entries (Err k) e m q l g d t C read fn h in
        sym (ap (λ (c : Checked Ty). c ▹ λ τ. rule 11 fn.opened (same_ty τ fn.result)) x.0)

    compared : (τ : Ty) (b : Bool) (z : ℕ) → TypedAt ws (scope_of (take n entries)) (p + 2 + n) (Ok (τ, z)) → b ≡ same_ty τ s.result → (t : List ℕ) (C : Card) → card_of t ws ≡ Some C → (fn : Fn) → at C.fns f ≡ Some fn → check_fn C fn ≡ rule 11 p b
    compared τ b z d i t C read fn h =
        let x = body_type f p n s υs entries (Ok (τ, z)) e m q l g d t C read fn h in
        ap (λ (c : Checked Ty). c ▹ λ τ. rule 11 fn.opened (same_ty τ fn.result)) x.0
        ∙ ap (λ (j : ℕ). rule 11 j (same_ty τ fn.result)) x.1.opened
        ∙ ap (λ (υ : Ty). rule 11 p (same_ty τ υ)) (sym x.1.result) ∙ ap (rule 11 p) (sym i)

    pub body_typed : (τ : Ty) (z : ℕ) → TypedAt ws (scope_of (take n entries)) (p + 2 + n) (Ok (τ, z)) → true ≡ same_ty τ s.result → FunctionAt ws f (Ok tt)
    body_typed τ z d i t C read fn h = sym (compared τ true z d i t C read fn h)

    pub body_other : (τ : Ty) (z : ℕ) → TypedAt ws (scope_of (take n entries)) (p + 2 + n) (Ok (τ, z)) → false ≡ same_ty τ s.result → FunctionAt ws f (Err (record { broken = Mistyped; «record» = p }))
    body_other τ z d i t C read fn h = sym (compared τ false z d i t C read fn h)

  -- all functions, from one on
  abbrev pub LeftAt : ℕ → Type 0
  LeftAt i = OnCard ws (λ C. check_card C ≡ check_fns C (drop i C.fns))

  pub left_first : LeftAt 0
  left_first t C read = refl

  next_of : (C : Card) (i : ℕ) (fns : List Fn) → i < length fns → (fn : Fn) × (at fns i ≡ Some fn) × (drop i fns ≡ fn ∷ drop (suc i) fns)
  next_of C i [] h = absurd (omega arith)
  next_of C zero (fn ∷ fns) h = (fn, refl, refl)
  next_of C (suc i) (fn ∷ fns) h = next_of C i fns (omega arith)

  pub left_more : (i : ℕ) → i < length (functions_in 0 ws) → LeftAt i → FunctionAt ws i (Ok tt) → LeftAt (suc i)
  left_more i l h d t C read =
      let x = next_of C i C.fns (omega (arith, functions_counted t ws C read)) in
      h t C read ∙ ap (check_fns C) x.2 ∙ ap (λ (c : Checked (Unit {0})). c ▹ λ u. check_fns C (drop (suc i) C.fns)) (sym (d t C read x.0 x.1))

  pub left_fault : (i : ℕ) (k : TypeFault) → i < length (functions_in 0 ws) → LeftAt i → FunctionAt ws i (Err k) → OnCard ws (λ C. fault (type_number k.broken) k.record ≡ check_card C)
  left_fault i k l h d t C read =
      let x = next_of C i C.fns (omega (arith, functions_counted t ws C read)) in
      sym (h t C read ∙ ap (check_fns C) x.2 ∙ ap (λ (c : Checked (Unit {0})). c ▹ λ u. check_fns C (drop (suc i) C.fns)) (sym (d t C read x.0 x.1)))

  pub left_none : (i : ℕ) → length (functions_in 0 ws) ≤ i → LeftAt i → OnCard ws (λ C. has tt ≡ check_card C)
  left_none i l h t C read = sym (h t C read ∙ ap (check_fns C) (drop_all i C.fns (omega (arith, functions_counted t ws C read))))

-- a function's place is one of the tokens'
pub function_below : (ws : List Token) (p f q : ℕ) → at (functions_in p ws) f ≡ Some q → q < p + length ws
function_below [] p f q e = never e
function_below (CLOSE ∷ ws) p f q e = let h = function_below ws (suc p) f q e in omega arith
function_below (ENUM k ∷ ws) p f q e = let h = function_below ws (suc p) f q e in omega arith
function_below (CASE n k ∷ ws) p f q e = let h = function_below ws (suc p) f q e in omega arith
function_below (DEF n k ∷ ws) p zero q e = let h : p ≡ q = Some≡ e in omega arith
function_below (DEF n k ∷ ws) p (suc f) q e = let h = function_below ws (suc p) f q e in omega arith
function_below (TYPE τ ∷ ws) p f q e = let h = function_below ws (suc p) f q e in omega arith
function_below (ARM n x c ∷ ws) p f q e = let h = function_below ws (suc p) f q e in omega arith
function_below (EXPR h' ∷ ws) p f q e = let h = function_below ws (suc p) f q e in omega arith
