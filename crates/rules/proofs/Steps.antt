-- One step of typing: what a head's answer is, from the answers at its parts.
use Rattle.std.proofs.Common.{◌≡◌, ℕ, zero, suc, Bool, true, false, ◌&&◌, List, [], ◌∷◌, length, drop, Some, None, Ok, Err, Option, Result, sym, refl, ap, ◌∙◌, subst, arith}
use Rattle.battery.specs.declared.Ty.{Ty}
use Rattle.battery.specs.declared.Ty.TheVariants.{Text as text, Enum as enum}
use Rattle.battery.specs.Tree.{Expr, Match, Exit, ∅, ◌&◌, Arms, no_arm, arm, Scope, bind, Card, at, ◌▸◌}
use Rattle.table.specs.declared.token.Token.{Token}
use Rattle.table.specs.declared.token.Token.TheVariants.{Close as CLOSE, Ty as TYPE, Arm as ARM, Expr as EXPR}
use Rattle.table.specs.declared.token.Head.{Head}
use Rattle.table.specs.declared.token.Head.TheVariants.{Leaf as LEAF, Pair as PAIR, Match as MATCH, Exit as EXIT}
use Rattle.table.specs.declared.token.Leaf.{Leaf}
use Rattle.table.specs.declared.token.Leaf.TheVariants.{Unit as UNIT, Number as NUM, Boolean as BOOL, Text as STR, Local as LOCAL}
use Rattle.table.specs.declared.token.Pair.TheVariants.{Val as VAL}
use Rattle.grammar.specs.Grammar.{Piece, type, expr, exprs, arms, leaf_at, take_arms, or_close, card_of, pieces_of}
use Rattle.numbering.proofs.Lists.{drop_at}
use Rattle.numbering.proofs.Options.{never, Some≡}
use Rattle.numbering.proofs.Parts.{no_expr, only_type, of_leaf, of_pair, of_match, of_exit, of_arm, of_no_arm, arms_first, ArmsToken, is_close_lem, is_arm, arms_token, some_arm, Armed}
use Rattle.verdict.specs.Order.{Checked, has, fault, ◌▹◌, rule, there, same_ty, enum_of, check, check_all, check_arms, all_as, all_once, arms_named, fields_of, common}
use Rattle.rules.specs.declared.fault.Broken.TheVariants.{Mistyped, Arms as OfArms}
use Rattle.rules.specs.declared.fault.TypeFault.{TypeFault}
use Rattle.rules.specs.Rules.{ruled, parts_of, leaf_rule}
use Rattle.rules.specs.Typed.{type_number, TypedAt, PartsAt, arms_from, ArmAt, GaveArms, ArmsAt}
use Rattle.rules.proofs.Nodes.{plain, node}

pub behind_at : (ws : List Token) (p : ℕ) (w : Token) → at ws p ≡ Some w → drop p ws ≡ w ∷ drop (suc p) ws
behind_at ws p w e = drop_at p ws e

pub none_at : (ws : List Token) (p : ℕ) → at ws p ≡ None → drop p ws ≡ []
none_at [] zero e = refl
none_at [] (suc p) e = refl
none_at (v ∷ ws) zero e = never (sym e)
none_at (v ∷ ws) (suc p) e = none_at ws p e

-- the pieces at a place, by the token that stands there
at_token : (t : List ℕ) (ws : List Token) (p : ℕ) (w : Token) (qs : List Piece) → at ws p ≡ Some w → pieces_of t p (drop p ws) ≡ Some qs → pieces_of t p (w ∷ drop (suc p) ws) ≡ Some qs
at_token t ws p w qs h e = subst (λ vs. pieces_of t p vs ≡ Some qs) (behind_at ws p w h) e

empty : {P : Type 0} (t : List ℕ) (ws : List Token) (p : ℕ) (q : Piece) (qs : List Piece) → at ws p ≡ None → pieces_of t p (drop p ws) ≡ Some (q ∷ qs) → P
empty t ws p q qs h e =
    let s : Some [] ≡ Some (q ∷ qs) = subst (λ vs. pieces_of t p vs ≡ Some (q ∷ qs)) (none_at ws p h) e in
    let z : ◌≡◌ {A = List Piece} [] (q ∷ qs) = Some≡ s in
    let y : ◌≡◌ {A = ℕ} 0 1 = cc in absurd (omega arith)

abbrev Arming : List ℕ → ℕ → Arms → List Piece → List Token → Type 0
Arming t m ms ps vs = (pieces_of t m vs ▸ λ qs. or_close no_arm qs (take_arms qs)) ≡ Some (ms, ps)

module _ (ws : List Token) where
  -- no expression begins here
  pub ends : (Γ : Scope Ty) (p : ℕ) (r : Result (Ty × ℕ) TypeFault) → at ws p ≡ None → TypedAt ws Γ p r
  ends Γ p r h t C read e ps q = empty t ws p _ ps h q

  pub other : (Γ : Scope Ty) (p : ℕ) (w : Token) (r : Result (Ty × ℕ) TypeFault) → at ws p ≡ Some w → ((h : Head) → w ≡ EXPR h → ⊥) → TypedAt ws Γ p r
  other Γ p w r h n t C read e ps q = no_expr t p w (drop (suc p) ws) e ps n (at_token t ws p w _ h q)

  leaf_check : (C : Card) (Γ : Scope Ty) (t : List ℕ) (p : ℕ) (l : Leaf) → check C Γ (leaf_at t p l) ≡ leaf_rule Γ p l
  leaf_check C Γ t p UNIT = refl
  leaf_check C Γ t p (NUM k) = refl
  leaf_check C Γ t p (BOOL b) = refl
  leaf_check C Γ t p (STR b n) = refl
  leaf_check C Γ t p (LOCAL x) = refl

  pub leaf_typed : (Γ : Scope Ty) (p : ℕ) (l : Leaf) (τ : Ty) → at ws p ≡ Some (EXPR (LEAF l)) → leaf_rule Γ p l ≡ has τ → TypedAt ws Γ p (Ok (τ, suc p))
  leaf_typed Γ p l τ h g t C read e ps q =
      let x = of_leaf t p l (drop (suc p) ws) e ps (at_token t ws p _ _ h q) in
      (ap (check C Γ) x.0 ∙ leaf_check C Γ t p l ∙ g, x.1)

  pub leaf_fault : (Γ : Scope Ty) (p : ℕ) (l : Leaf) (f : TypeFault) → at ws p ≡ Some (EXPR (LEAF l)) → leaf_rule Γ p l ≡ fault (type_number f.broken) f.record → TypedAt ws Γ p (Err f)
  leaf_fault Γ p l f h g t C read e ps q =
      let x = of_leaf t p l (drop (suc p) ws) e ps (at_token t ws p _ _ h q) in
      ap (check C Γ) x.0 ∙ leaf_check C Γ t p l ∙ g

  -- parts in one scope, and then the head's rule
  pub node_fault : (Γ : Scope Ty) (p : ℕ) (h : Head) (f : TypeFault) → at ws p ≡ Some (EXPR h) → plain h ≡ true → PartsAt ws Γ (suc p) (parts_of h) (Err f) → TypedAt ws Γ p (Err f)
  node_fault Γ p h f k s r t C read e ps q =
      let x = node C Γ t p h (drop (suc p) ws) e ps s (at_token t ws p _ _ k q) in
      x.checks ∙ ap (λ (c : Checked (List Ty)). c ▹ ruled C p h) (r t C read x.es ps x.counted x.parts)

  pub node_typed : (Γ : Scope Ty) (p m : ℕ) (h : Head) (τs : List Ty) (τ : Ty) → at ws p ≡ Some (EXPR h) → plain h ≡ true → PartsAt ws Γ (suc p) (parts_of h) (Ok (τs, m))
      → ((t : List ℕ) (C : Card) → card_of t ws ≡ Some C → ruled C p h τs ≡ has τ) → TypedAt ws Γ p (Ok (τ, m))
  node_typed Γ p m h τs τ k s r g t C read e ps q =
      let x = node C Γ t p h (drop (suc p) ws) e ps s (at_token t ws p _ _ k q) in
      let y = r t C read x.es ps x.counted x.parts in
      (x.checks ∙ ap (λ (c : Checked (List Ty)). c ▹ ruled C p h) y.0 ∙ g t C read, y.1)

  pub node_broken : (Γ : Scope Ty) (p m : ℕ) (h : Head) (τs : List Ty) (f : TypeFault) → at ws p ≡ Some (EXPR h) → plain h ≡ true → PartsAt ws Γ (suc p) (parts_of h) (Ok (τs, m))
      → ((t : List ℕ) (C : Card) → card_of t ws ≡ Some C → ruled C p h τs ≡ fault (type_number f.broken) f.record) → TypedAt ws Γ p (Err f)
  node_broken Γ p m h τs f k s r g t C read e ps q =
      let x = node C Γ t p h (drop (suc p) ws) e ps s (at_token t ws p _ _ k q) in
      let y = r t C read x.es ps x.counted x.parts in
      x.checks ∙ ap (λ (c : Checked (List Ty)). c ▹ ruled C p h) y.0 ∙ g t C read

  -- a list of parts
  pub no_parts : (Γ : Scope Ty) (p : ℕ) → PartsAt ws Γ p 0 (Ok ([], p))
  no_parts Γ p t C read ∅ ps n q = (refl, q)
  no_parts Γ p t C read (e & es) ps n q = absurd (omega arith)

  pub first_part_fault : (Γ : Scope Ty) (p n : ℕ) (f : TypeFault) → TypedAt ws Γ p (Err f) → PartsAt ws Γ p (suc n) (Err f)
  first_part_fault Γ p n f r t C read ∅ ps c q = absurd (omega arith)
  first_part_fault Γ p n f r t C read (e & es) ps c q =
      ap (λ (x : Checked Ty). x ▹ λ τ. check_all C Γ es ▹ λ τs. has (τ ∷ τs)) (r t C read e (exprs es ps) q)

  pub more_parts_fault : (Γ : Scope Ty) (p m n : ℕ) (τ : Ty) (f : TypeFault) → TypedAt ws Γ p (Ok (τ, m)) → PartsAt ws Γ m n (Err f) → PartsAt ws Γ p (suc n) (Err f)
  more_parts_fault Γ p m n τ f r s t C read ∅ ps c q = absurd (omega arith)
  more_parts_fault Γ p m n τ f r s t C read (e & es) ps c q =
      let x = r t C read e (exprs es ps) q in
      ap (λ (x : Checked Ty). x ▹ λ τ. check_all C Γ es ▹ λ τs. has (τ ∷ τs)) x.0
      ∙ ap (λ (x : Checked (List Ty)). x ▹ λ τs. has (τ ∷ τs)) (s t C read es ps (omega arith) x.1)

  pub more_parts : (Γ : Scope Ty) (p m n z : ℕ) (τ : Ty) (τs : List Ty) → TypedAt ws Γ p (Ok (τ, m)) → PartsAt ws Γ m n (Ok (τs, z)) → PartsAt ws Γ p (suc n) (Ok (τ ∷ τs, z))
  more_parts Γ p m n z τ τs r s t C read ∅ ps c q = absurd (omega arith)
  more_parts Γ p m n z τ τs r s t C read (e & es) ps c q =
      let x = r t C read e (exprs es ps) q in
      let y = s t C read es ps (omega arith) x.1 in
      (ap (λ (x : Checked Ty). x ▹ λ τ. check_all C Γ es ▹ λ τs. has (τ ∷ τs)) x.0 ∙ ap (λ (x : Checked (List Ty)). x ▹ λ τs. has (τ ∷ τs)) y.0, y.1)

  -- VAL
  pub val_fault : (Γ : Scope Ty) (p x : ℕ) (f : TypeFault) → at ws p ≡ Some (EXPR (PAIR (VAL x))) → TypedAt ws Γ (suc p) (Err f) → TypedAt ws Γ p (Err f)
  val_fault Γ p x f k r t C read e ps q =
      let y = of_pair t p (VAL x) (drop (suc p) ws) e ps (at_token t ws p _ _ k q) in
      ap (check C Γ) y.is ∙ ap (λ (c : Checked Ty). c ▹ λ σ. check C ((x, σ) ∷ Γ) y.b) (r t C read y.a (expr y.b ∷ ps) y.parts)

  pub val_typed : (Γ : Scope Ty) (p x m : ℕ) (σ : Ty) (r : Result (Ty × ℕ) TypeFault) → at ws p ≡ Some (EXPR (PAIR (VAL x))) → TypedAt ws Γ (suc p) (Ok (σ, m)) → TypedAt ws ((x, σ) ∷ Γ) m r → TypedAt ws Γ p r
  val_typed Γ p x m σ (Ok z) k r s t C read e ps q =
      let y = of_pair t p (VAL x) (drop (suc p) ws) e ps (at_token t ws p _ _ k q) in
      let u = r t C read y.a (expr y.b ∷ ps) y.parts in
      let v = s t C read y.b ps u.1 in
      (ap (check C Γ) y.is ∙ ap (λ (c : Checked Ty). c ▹ λ σ. check C ((x, σ) ∷ Γ) y.b) u.0 ∙ v.0, v.1)
  val_typed Γ p x m σ (Err f) k r s t C read e ps q =
      let y = of_pair t p (VAL x) (drop (suc p) ws) e ps (at_token t ws p _ _ k q) in
      let u = r t C read y.a (expr y.b ∷ ps) y.parts in
      ap (check C Γ) y.is ∙ ap (λ (c : Checked Ty). c ▹ λ σ. check C ((x, σ) ∷ Γ) y.b) u.0 ∙ s t C read y.b ps u.1

  -- EXIT: its TYPE stands right behind it
  pub record Exited (t : List ℕ) (p : ℕ) (e : Expr) (ps : List Piece) : Type 0 where
    pub τ : Ty
    pub a : Expr
    pub is : e ≡ Exit p τ a
    pub typed : at ws (suc p) ≡ Some (TYPE τ)
    pub part : pieces_of t (suc (suc p)) (drop (suc (suc p)) ws) ≡ Some (expr a ∷ ps)

  pub type_here : (t : List ℕ) (p : ℕ) (τ : Ty) (ps : List Piece) → pieces_of t p (drop p ws) ≡ Some (type τ ∷ ps) → (at ws p ≡ Some (TYPE τ)) × (pieces_of t (suc p) (drop (suc p) ws) ≡ Some ps)
  type_here t p τ ps q = go (at ws p) refl
    where
      go : (o : Option Token) → at ws p ≡ o → (at ws p ≡ Some (TYPE τ)) × (pieces_of t (suc p) (drop (suc p) ws) ≡ Some ps)
      go None h = empty t ws p _ ps h q
      go (Some w) h =
          let x = only_type t p w (drop (suc p) ws) τ ps (at_token t ws p w _ h q) in
          (h ∙ ap Some x.0, x.1)

  exited : (t : List ℕ) (p : ℕ) (e : Expr) (ps : List Piece) → at ws p ≡ Some (EXPR EXIT) → pieces_of t p (drop p ws) ≡ Some (expr e ∷ ps) → Exited t p e ps
  exited t p e ps k q =
      let y = of_exit t p (drop (suc p) ws) e ps (at_token t ws p _ _ k q) in
      let z = type_here t (suc p) y.τ (expr y.a ∷ ps) y.parts in
      record { τ = y.τ; a = y.a; is = y.is; typed = z.0; part = z.1 }

  pub no_type_here : (Γ : Scope Ty) (p : ℕ) (r : Result (Ty × ℕ) TypeFault) → at ws p ≡ Some (EXPR EXIT) → ((τ : Ty) → at ws (suc p) ≡ Some (TYPE τ) → ⊥) → TypedAt ws Γ p r
  no_type_here Γ p r k n t C read e ps q = let y = exited t p e ps k q in absurd (n y.τ y.typed)

  same_type_here : (p : ℕ) {σ τ : Ty} → at ws p ≡ Some (TYPE σ) → at ws p ≡ Some (TYPE τ) → σ ≡ τ
  same_type_here p a b = cc

  exit_check : (C : Card) (Γ : Scope Ty) (p : ℕ) (τ : Ty) (a : Expr) (c : Checked Ty) → check C Γ a ≡ c → check C Γ (Exit p τ a) ≡ (c ▹ λ σ. rule 11 p (same_ty σ text) ▹ λ u. has τ)
  exit_check C Γ p τ a c h = ap (λ (c : Checked Ty). c ▹ λ σ. rule 11 p (same_ty σ text) ▹ λ u. has τ) h

  pub exit_fault : (Γ : Scope Ty) (p : ℕ) (f : TypeFault) → at ws p ≡ Some (EXPR EXIT) → TypedAt ws Γ (suc (suc p)) (Err f) → TypedAt ws Γ p (Err f)
  exit_fault Γ p f k r t C read e ps q =
      let y = exited t p e ps k q in
      ap (check C Γ) y.is ∙ exit_check C Γ p y.τ y.a _ (r t C read y.a ps y.part)

  pub exit_broken : (Γ : Scope Ty) (p m : ℕ) (σ : Ty) → at ws p ≡ Some (EXPR EXIT) → TypedAt ws Γ (suc (suc p)) (Ok (σ, m)) → same_ty σ text ≡ false → TypedAt ws Γ p (Err (record { broken = Mistyped; «record» = p }))
  exit_broken Γ p m σ k r b t C read e ps q =
      let y = exited t p e ps k q in
      let z = r t C read y.a ps y.part in
      ap (check C Γ) y.is ∙ exit_check C Γ p y.τ y.a _ z.0 ∙ ap (λ (x : Bool). rule 11 p x ▹ λ u. has y.τ) b

  pub exit_typed : (Γ : Scope Ty) (p m : ℕ) (σ τ : Ty) → at ws p ≡ Some (EXPR EXIT) → at ws (suc p) ≡ Some (TYPE τ) → TypedAt ws Γ (suc (suc p)) (Ok (σ, m)) → same_ty σ text ≡ true → TypedAt ws Γ p (Ok (τ, m))
  exit_typed Γ p m σ τ k h r b t C read e ps q =
      let y = exited t p e ps k q in
      let z = r t C read y.a ps y.part in
      (ap (check C Γ) y.is ∙ exit_check C Γ p y.τ y.a _ z.0 ∙ ap (λ (x : Bool). rule 11 p x ▹ λ u. has y.τ) b ∙ ap has (same_type_here (suc p) y.typed h), z.1)

  -- MATCH
  abbrev behind_enum : Card → Scope Ty → ℕ → Arms → ℕ → Checked Ty
  behind_enum C Γ p ms k = there 13 p (at C.enums k) ▹ λ E. rule 13 p (all_once (length E) ms && arms_named E ms) ▹ λ u. check_arms C Γ E ms ▹ λ τs. common p τs

  match_check : (C : Card) (Γ : Scope Ty) (p : ℕ) (a : Expr) (ms : Arms) (c : Checked Ty) → check C Γ a ≡ c → check C Γ (Match p a ms) ≡ (c ▹ λ σ. there 11 p (enum_of σ) ▹ behind_enum C Γ p ms)
  match_check C Γ p a ms c h = ap (λ (c : Checked Ty). c ▹ λ σ. there 11 p (enum_of σ) ▹ behind_enum C Γ p ms) h

  pub match_fault : (Γ : Scope Ty) (p : ℕ) (f : TypeFault) → at ws p ≡ Some (EXPR MATCH) → TypedAt ws Γ (suc p) (Err f) → TypedAt ws Γ p (Err f)
  match_fault Γ p f k r t C read e ps q =
      let y = of_match t p (drop (suc p) ws) e ps (at_token t ws p _ _ k q) in
      ap (check C Γ) y.is ∙ match_check C Γ p y.a y.ms _ (r t C read y.a (arms y.ms ∷ ps) y.parts)

  pub no_enum : (Γ : Scope Ty) (p m : ℕ) (σ : Ty) → at ws p ≡ Some (EXPR MATCH) → TypedAt ws Γ (suc p) (Ok (σ, m)) → enum_of σ ≡ None → TypedAt ws Γ p (Err (record { broken = Mistyped; «record» = p }))
  no_enum Γ p m σ k r b t C read e ps q =
      let y = of_match t p (drop (suc p) ws) e ps (at_token t ws p _ _ k q) in
      let z = r t C read y.a (arms y.ms ∷ ps) y.parts in
      ap (check C Γ) y.is ∙ match_check C Γ p y.a y.ms _ z.0 ∙ ap (λ (o : Option ℕ). there 11 p o ▹ behind_enum C Γ p y.ms) b

  -- the enum is there, and its arms stand behind the first part
  pub record Matching (t : List ℕ) (C : Card) (Γ : Scope Ty) (p m k : ℕ) (e : Expr) (ps : List Piece) : Type 0 where
    pub ms : Arms
    pub checks : check C Γ e ≡ behind_enum C Γ p ms k
    pub standing : arms_from t ws m ≡ Some (ms, ps)
    pub some : (ms ≡ no_arm → ⊥)

  pub matching : (t : List ℕ) (C : Card) → card_of t ws ≡ Some C → (Γ : Scope Ty) (p m k : ℕ) → at ws p ≡ Some (EXPR MATCH) → TypedAt ws Γ (suc p) (Ok (enum k, m)) → (e : Expr) (ps : List Piece) → pieces_of t p (drop p ws) ≡ Some (expr e ∷ ps) → Matching t C Γ p m k e ps
  matching t C read Γ p m k h r e ps q =
      let y = of_match t p (drop (suc p) ws) e ps (at_token t ws p _ _ h q) in
      let z = r t C read y.a (arms y.ms ∷ ps) y.parts in
      record {
        ms = y.ms;
        checks = ap (check C Γ) y.is ∙ match_check C Γ p y.a y.ms _ z.0;
        standing = arms_first t m (drop m ws) y.ms ps z.1;
        some = some_arm t m (drop m ws) y.ms ps z.1;
      }

  pub no_cases : (Γ : Scope Ty) (p m k : ℕ) → at ws p ≡ Some (EXPR MATCH) → TypedAt ws Γ (suc p) (Ok (enum k, m)) → ((t : List ℕ) (C : Card) → card_of t ws ≡ Some C → at C.enums k ≡ None) → TypedAt ws Γ p (Err (record { broken = OfArms; «record» = p }))
  no_cases Γ p m k h r n t C read e ps q =
      let y = matching t C read Γ p m k h r e ps q in
      y.checks ∙ ap (λ (o : Option (List (List Ty))). there 13 p o ▹ λ E. rule 13 p (all_once (length E) y.ms && arms_named E y.ms) ▹ λ u. check_arms C Γ E y.ms ▹ λ τs. common p τs) (n t C read)

  abbrev tested : Card → Scope Ty → ℕ → Arms → List (List Ty) → Bool → Checked Ty
  tested C Γ p ms E b = rule 13 p b ▹ λ u. check_arms C Γ E ms ▹ λ τs. common p τs

  has_enum : (C : Card) (Γ : Scope Ty) (p k : ℕ) (ms : Arms) (E : List (List Ty)) (b : Bool) → at C.enums k ≡ Some E → b ≡ (all_once (length E) ms && arms_named E ms) → behind_enum C Γ p ms k ≡ tested C Γ p ms E b
  has_enum C Γ p k ms E b h g =
      ap (λ (o : Option (List (List Ty))). there 13 p o ▹ λ E. rule 13 p (all_once (length E) ms && arms_named E ms) ▹ λ u. check_arms C Γ E ms ▹ λ τs. common p τs) h ∙ ap (tested C Γ p ms E) (sym g)

  abbrev pub HasEnum : ℕ → Type 0
  HasEnum k = (t : List ℕ) (C : Card) → card_of t ws ≡ Some C → (E : List (List Ty)) × (at C.enums k ≡ Some E)

  -- whether the arms from a place fit the enum k
  abbrev pub Fitting : ℕ → ℕ → Bool → Type 0
  Fitting k p b = (t : List ℕ) (C : Card) → card_of t ws ≡ Some C → (E : List (List Ty)) → at C.enums k ≡ Some E → (ms : Arms) (ps : List Piece) → arms_from t ws p ≡ Some (ms, ps) → b ≡ (all_once (length E) ms && arms_named E ms)

  pub misarmed : (Γ : Scope Ty) (p m k : ℕ) → at ws p ≡ Some (EXPR MATCH) → TypedAt ws Γ (suc p) (Ok (enum k, m)) → HasEnum k → Fitting k m false → TypedAt ws Γ p (Err (record { broken = OfArms; «record» = p }))
  misarmed Γ p m k h r n b t C read e ps q =
      let y = matching t C read Γ p m k h r e ps q in
      let E = n t C read in
      y.checks ∙ has_enum C Γ p k y.ms E.0 false E.1 (b t C read E.0 E.1 y.ms ps y.standing)

  -- the first arm, and the others
  arms_check : (C : Card) (Γ : Scope Ty) (p q c n x : ℕ) (E : List (List Ty)) (e : Expr) (more : Arms) (o : Checked Ty) → check C (bind x (fields_of (at E c)) Γ) e ≡ o
      → tested C Γ p (arm q c n x e more) E true ≡ (o ▹ λ τ. check_arms C Γ E more ▹ λ τs. rule 11 p (all_as τ τs) ▹ λ u. has τ)
  arms_check C Γ p q c n x E e more (has τ) h = ap (λ (d : Checked Ty). (d ▹ λ τ. check_arms C Γ E more ▹ λ τs. has (τ ∷ τs)) ▹ λ τs. common p τs) h ∙ go (check_arms C Γ E more)
    where
      go : (d : Checked (List Ty)) → ((d ▹ λ τs. has (τ ∷ τs)) ▹ λ τs. common p τs) ≡ (d ▹ λ τs. rule 11 p (all_as τ τs) ▹ λ u. has τ)
      go (has τs) = refl
      go (fault i j) = refl
  arms_check C Γ p q c n x E e more (fault i j) h = ap (λ (d : Checked Ty). (d ▹ λ τ. check_arms C Γ E more ▹ λ τs. has (τ ∷ τs)) ▹ λ τs. common p τs) h

  -- arms that stand somewhere begin with an ARM
  pub record FirstArm (t : List ℕ) (m : ℕ) (ms : Arms) (ps : List Piece) : Type 0 where
    pub c : ℕ
    pub n : ℕ
    pub x : ℕ
    pub e : Expr
    pub more : Arms
    pub is : ms ≡ arm m c n x e more
    pub token : at ws m ≡ Some (ARM n x c)
    pub next : List Piece
    pub part : pieces_of t (suc m) (drop (suc m) ws) ≡ Some (expr e ∷ next)
    pub rest : or_close no_arm next (take_arms next) ≡ Some (more, ps)

  pub first_arm : (t : List ℕ) (m : ℕ) (ms : Arms) (ps : List Piece) → arms_from t ws m ≡ Some (ms, ps) → (ms ≡ no_arm → ⊥) → FirstArm t m ms ps
  first_arm t m ms ps q n = go (at ws m) refl
    where
      by : {w : Token} → ArmsToken t w → at ws m ≡ Some w → Arming t m ms ps (w ∷ drop (suc m) ws) → FirstArm t m ms ps
      by is_close_lem h z = absurd (n (of_no_arm t m (drop (suc m) ws) ms ps z).0)
      by (is_arm i x c) h z =
          let y = of_arm t m i x c (drop (suc m) ws) ms ps z in
          record { c = c; n = i; x = x; e = y.e; more = y.more; is = y.is; token = h; next = y.next; part = y.part; rest = y.rest }

      go : (o : Option Token) → at ws m ≡ o → FirstArm t m ms ps
      go None h = never (subst (Arming t m ms ps) (none_at ws m h) q)
      go (Some w) h =
          let z = subst (Arming t m ms ps) (behind_at ws m w h) q in
          by (arms_token t m w (drop (suc m) ws) ms ps z) h z

  pub arm_here : (t : List ℕ) (m i x c : ℕ) (ms : Arms) (ps : List Piece) → at ws m ≡ Some (ARM i x c) → arms_from t ws m ≡ Some (ms, ps) → Armed t m i x c (drop (suc m) ws) ms ps
  arm_here t m i x c ms ps h q = of_arm t m i x c (drop (suc m) ws) ms ps (subst (Arming t m ms ps) (behind_at ws m _ h) q)

  armed : (t : List ℕ) (C : Card) (Γ : Scope Ty) (p m k : ℕ) (e : Expr) (ps : List Piece) (y : Matching t C Γ p m k e ps) → FirstArm t m y.ms ps
  armed t C Γ p m k e ps y = first_arm t m y.ms ps y.standing y.some

  -- once the arms fit, what is left is their types
  behind_fit : (t : List ℕ) (C : Card) → card_of t ws ≡ Some C → (Γ : Scope Ty) (p m k : ℕ) (e : Expr) (ps : List Piece) (y : Matching t C Γ p m k e ps) (E : List (List Ty)) → at C.enums k ≡ Some E → Fitting k m true
      → (z : FirstArm t m y.ms ps) (o : Checked Ty) → check C (bind z.x (fields_of (at E z.c)) Γ) z.e ≡ o → check C Γ e ≡ (o ▹ λ τ. check_arms C Γ E z.more ▹ λ τs. rule 11 p (all_as τ τs) ▹ λ u. has τ)
  behind_fit t C read Γ p m k e ps y E h b z o g =
      y.checks ∙ has_enum C Γ p k y.ms E true h (b t C read E h y.ms ps y.standing) ∙ ap (λ (ms : Arms). tested C Γ p ms E true) z.is ∙ arms_check C Γ p m z.c z.n z.x E z.e z.more o g

  pub first_arm_fault : (Γ : Scope Ty) (p m k : ℕ) (f : TypeFault) → at ws p ≡ Some (EXPR MATCH) → TypedAt ws Γ (suc p) (Ok (enum k, m)) → HasEnum k → Fitting k m true → ArmAt ws Γ k m (Err f) → TypedAt ws Γ p (Err f)
  first_arm_fault Γ p m k f h r n b a t C read e ps q =
      let y = matching t C read Γ p m k h r e ps q in
      let E = n t C read in
      let z = armed t C Γ p m k e ps y in
      behind_fit t C read Γ p m k e ps y E.0 E.1 b z _ (a t C read E.0 E.1 z.c z.n z.x z.e z.more ps (y.standing ∙ ap (λ (u : Arms). Some (u, ps)) z.is))

  pub other_arm_fault : (Γ : Scope Ty) (p m k l : ℕ) (τ : Ty) (f : TypeFault) → at ws p ≡ Some (EXPR MATCH) → TypedAt ws Γ (suc p) (Ok (enum k, m)) → HasEnum k → Fitting k m true → ArmAt ws Γ k m (Ok (τ, l)) → ArmsAt ws Γ k τ l (Err f) → TypedAt ws Γ p (Err f)
  other_arm_fault Γ p m k l τ f h r n b a s t C read e ps q =
      let y = matching t C read Γ p m k h r e ps q in
      let E = n t C read in
      let z = armed t C Γ p m k e ps y in
      let u = a t C read E.0 E.1 z.c z.n z.x z.e z.more ps (y.standing ∙ ap (λ (u : Arms). Some (u, ps)) z.is) in
      behind_fit t C read Γ p m k e ps y E.0 E.1 b z _ u.0
      ∙ ap (λ (d : Checked (List Ty)). d ▹ λ τs. rule 11 p (all_as τ τs) ▹ λ u. has τ) (s t C read E.0 E.1 z.more ps u.1)

  -- the arms' types, compared
  arms_typed : (Γ : Scope Ty) (p m k l j : ℕ) (τ : Ty) (g : Bool) → at ws p ≡ Some (EXPR MATCH) → TypedAt ws Γ (suc p) (Ok (enum k, m)) → HasEnum k → Fitting k m true → ArmAt ws Γ k m (Ok (τ, l)) → ArmsAt ws Γ k τ l (Ok (g, j))
      → (t : List ℕ) (C : Card) → card_of t ws ≡ Some C → (e : Expr) (ps : List Piece) → pieces_of t p (drop p ws) ≡ Some (expr e ∷ ps) → (check C Γ e ≡ (rule 11 p g ▹ λ u. has τ)) × (pieces_of t j (drop j ws) ≡ Some ps)
  arms_typed Γ p m k l j τ g h r n b a s t C read e ps q =
      let y = matching t C read Γ p m k h r e ps q in
      let E = n t C read in
      let z = armed t C Γ p m k e ps y in
      let u = a t C read E.0 E.1 z.c z.n z.x z.e z.more ps (y.standing ∙ ap (λ (u : Arms). Some (u, ps)) z.is) in
      let v = s t C read E.0 E.1 z.more ps u.1 in (
        behind_fit t C read Γ p m k e ps y E.0 E.1 b z _ u.0
            ∙ ap (λ (d : Checked (List Ty)). d ▹ λ τs. rule 11 p (all_as τ τs) ▹ λ u. has τ) v.1
            ∙ ap (λ (x : Bool). rule 11 p x ▹ λ u. has τ) (sym v.2),
        v.3,
      )

  pub match_typed : (Γ : Scope Ty) (p m k l j : ℕ) (τ : Ty) → at ws p ≡ Some (EXPR MATCH) → TypedAt ws Γ (suc p) (Ok (enum k, m)) → HasEnum k → Fitting k m true → ArmAt ws Γ k m (Ok (τ, l)) → ArmsAt ws Γ k τ l (Ok (true, j)) → TypedAt ws Γ p (Ok (τ, j))
  match_typed Γ p m k l j τ h r n b a s t C read e ps q = arms_typed Γ p m k l j τ true h r n b a s t C read e ps q

  pub arms_differ : (Γ : Scope Ty) (p m k l j : ℕ) (τ : Ty) → at ws p ≡ Some (EXPR MATCH) → TypedAt ws Γ (suc p) (Ok (enum k, m)) → HasEnum k → Fitting k m true → ArmAt ws Γ k m (Ok (τ, l)) → ArmsAt ws Γ k τ l (Ok (false, j)) → TypedAt ws Γ p (Err (record { broken = Mistyped; «record» = p }))
  arms_differ Γ p m k l j τ h r n b a s t C read e ps q = (arms_typed Γ p m k l j τ false h r n b a s t C read e ps q).0

  -- one arm: its names are bound to the fields of its case
  same_arm : {m c n x c' n' x' : ℕ} {e e' : Expr} {ms ms' : Arms} → arm m c n x e ms ≡ arm m c' n' x' e' ms' → (c ≡ c') × (x ≡ x') × (e ≡ e') × (ms ≡ ms')
  same_arm h = (cc, cc, cc, cc)

  pub arm_typed : (Γ : Scope Ty) (k m i x c : ℕ) (τs : List Ty) (r : Result (Ty × ℕ) TypeFault) → at ws m ≡ Some (ARM i x c)
      → ((t : List ℕ) (C : Card) → card_of t ws ≡ Some C → (E : List (List Ty)) → at C.enums k ≡ Some E → fields_of (at E c) ≡ τs) → TypedAt ws (bind x τs Γ) (suc m) r → ArmAt ws Γ k m r
  arm_typed Γ k m i x c τs (Ok z) h f r t C read E d c' n' x' e ms ps q =
      let y = of_arm t m i x c (drop (suc m) ws) _ ps (subst (Arming t m (arm m c' n' x' e ms) ps) (behind_at ws m _ h) q) in
      let s = same_arm y.is in
      let g = r t C read y.e y.next y.part in (
        ap (λ (b : ℕ). check C (bind x' (fields_of (at E b)) Γ) e) s.0 ∙ ap (λ (b : ℕ). check C (bind b (fields_of (at E c)) Γ) e) s.1 ∙ ap (check C (bind x (fields_of (at E c)) Γ)) s.2
            ∙ ap (λ (υs : List Ty). check C (bind x υs Γ) y.e) (f t C read E d) ∙ g.0,
        ap (λ (o : Option (List Piece)). o ▸ λ qs. or_close no_arm qs (take_arms qs)) g.1 ∙ y.rest ∙ ap (λ (u : Arms). Some (u, ps)) (sym s.3),
      )
  arm_typed Γ k m i x c τs (Err z) h f r t C read E d c' n' x' e ms ps q =
      let y = of_arm t m i x c (drop (suc m) ws) _ ps (subst (Arming t m (arm m c' n' x' e ms) ps) (behind_at ws m _ h) q) in
      let s = same_arm y.is in
      ap (λ (b : ℕ). check C (bind x' (fields_of (at E b)) Γ) e) s.0 ∙ ap (λ (b : ℕ). check C (bind b (fields_of (at E c)) Γ) e) s.1 ∙ ap (check C (bind x (fields_of (at E c)) Γ)) s.2
      ∙ ap (λ (υs : List Ty). check C (bind x υs Γ) y.e) (f t C read E d) ∙ r t C read y.e y.next y.part

  pub no_arm_at : (Γ : Scope Ty) (k m : ℕ) (r : Result (Ty × ℕ) TypeFault) → ((i x c : ℕ) → at ws m ≡ Some (ARM i x c) → ⊥) → ArmAt ws Γ k m r
  no_arm_at Γ k m r n t C read E d c i x e ms ps q = let z = first_arm t m _ ps q (λ g. let y : ◌≡◌ {A = ℕ} 0 1 = cc in omega arith) in absurd (n z.n z.x z.c z.token)

  -- the other arms
  pub arms_closed : (Γ : Scope Ty) (k m : ℕ) (τ : Ty) → at ws m ≡ Some CLOSE → ArmsAt ws Γ k τ m (Ok (true, suc m))
  arms_closed Γ k m τ h t C read E d ms ps q =
      let y = of_no_arm t m (drop (suc m) ws) ms ps (subst (Arming t m ms ps) (behind_at ws m _ h) q) in
      ([], ap (check_arms C Γ E) y.0, refl, y.1)

  pub arms_first_fault : (Γ : Scope Ty) (k m i x c : ℕ) (τ : Ty) (f : TypeFault) → at ws m ≡ Some (ARM i x c) → ArmAt ws Γ k m (Err f) → ArmsAt ws Γ k τ m (Err f)
  arms_first_fault Γ k m i x c τ f h a t C read E d ms ps q =
      let z = arm_here t m i x c ms ps h q in
      ap (check_arms C Γ E) z.is ∙ ap (λ (o : Checked Ty). o ▹ λ τ. check_arms C Γ E z.more ▹ λ τs. has (τ ∷ τs)) (a t C read E d c i x z.e z.more ps (q ∙ ap (λ (u : Arms). Some (u, ps)) z.is))

  pub arms_other_fault : (Γ : Scope Ty) (k m l i x c : ℕ) (τ υ : Ty) (f : TypeFault) → at ws m ≡ Some (ARM i x c) → ArmAt ws Γ k m (Ok (υ, l)) → ArmsAt ws Γ k τ l (Err f) → ArmsAt ws Γ k τ m (Err f)
  arms_other_fault Γ k m l i x c τ υ f h a s t C read E d ms ps q =
      let z = arm_here t m i x c ms ps h q in
      let u = a t C read E d c i x z.e z.more ps (q ∙ ap (λ (u : Arms). Some (u, ps)) z.is) in
      ap (check_arms C Γ E) z.is ∙ ap (λ (o : Checked Ty). o ▹ λ τ. check_arms C Γ E z.more ▹ λ τs. has (τ ∷ τs)) u.0
      ∙ ap (λ (o : Checked (List Ty)). o ▹ λ τs. has (υ ∷ τs)) (s t C read E d z.more ps u.1)

  pub arms_more : (Γ : Scope Ty) (k m l j i x c : ℕ) (τ υ : Ty) (b : Bool) → at ws m ≡ Some (ARM i x c) → ArmAt ws Γ k m (Ok (υ, l)) → ArmsAt ws Γ k τ l (Ok (b, j)) → ArmsAt ws Γ k τ m (Ok (same_ty υ τ && b, j))
  arms_more Γ k m l j i x c τ υ b h a s t C read E d ms ps q =
      let z = arm_here t m i x c ms ps h q in
      let u = a t C read E d c i x z.e z.more ps (q ∙ ap (λ (u : Arms). Some (u, ps)) z.is) in
      let v = s t C read E d z.more ps u.1 in (
        υ ∷ v.0,
        ap (check_arms C Γ E) z.is ∙ ap (λ (o : Checked Ty). o ▹ λ τ. check_arms C Γ E z.more ▹ λ τs. has (τ ∷ τs)) u.0 ∙ ap (λ (o : Checked (List Ty)). o ▹ λ τs. has (υ ∷ τs)) v.1,
        ap (λ (x : Bool). same_ty υ τ && x) v.2,
        v.3,
      )

  pub no_arms_at : (Γ : Scope Ty) (k m : ℕ) (τ : Ty) (r : Result (Bool × ℕ) TypeFault) → (at ws m ≡ Some CLOSE → ⊥) → ((i x c : ℕ) → at ws m ≡ Some (ARM i x c) → ⊥) → ArmsAt ws Γ k τ m r
  no_arms_at Γ k m τ r s n t C read E d ms ps q = go (at ws m) refl
    where
      by : {w : Token} → ArmsToken t w → at ws m ≡ Some w → GaveArms t ws ps τ (check_arms C Γ E ms) r
      by is_close_lem h = absurd (s h)
      by (is_arm i x c) h = absurd (n i x c h)

      go : (o : Option Token) → at ws m ≡ o → GaveArms t ws ps τ (check_arms C Γ E ms) r
      go None h = never (subst (Arming t m ms ps) (none_at ws m h) q)
      go (Some w) h = by (arms_token t m w (drop (suc m) ws) ms ps (subst (Arming t m ms ps) (behind_at ws m w h) q)) h
