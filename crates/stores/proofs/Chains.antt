-- Laws of two lists of which one is filled after the other.
use Rattle.std.proofs.Common.{◌≡◌, ℕ, suc, ◌+◌, ◌<◌, ◌≤◌, min, Bool, true, false, cond, ltb, ◌⊎◌, List, [], ◌∷◌, ◌++◌, length, take, None, sym, refl, ap, ◌∙◌, inl, inr, append_assoc, append-nil, arith, length-append, length-take, take_all, le-ltb, lt-ltb}
use Rattle.std.proofs.lemmas.Bool.Decides.{leb_tells}
use Rattle.battery.specs.Cell.{Cell, added}
use Rattle.battery.specs.Tree.{at}
use Rattle.stores.specs.Within.{Within}
use Rattle.stores.specs.Pair.{chain, sum}
use Rattle.stores.proofs.Runs.{at_past, at_left, at_right, at_cut}

-- which of two numbers is the lower
lower : (a b : ℕ) → (a < b) ⊎ (b ≤ a)
lower a b = elim (leb_tells (suc a) b) [ inl t ↦ inl t.1 | inr f ↦ inr (let h = f.1 in omega arith) ]

module _ {C : Type 0} where
  chain_low : (xs ys : List C) (m : ℕ) → length xs < m → chain xs m ys ≡ xs
  chain_low xs ys m h = let e = lt-ltb (length xs) m h in rw e

  chain_high : (xs ys : List C) (m : ℕ) → m ≤ length xs → chain xs m ys ≡ take 65535 (xs ++ ys)
  chain_high xs ys m h = let e = le-ltb (length xs) m h in rw e

  chain_all : (xs ys : List C) (m : ℕ) → m ≤ length xs → length xs + length ys ≤ 65535 → chain xs m ys ≡ xs ++ ys
  chain_all xs ys m h l = chain_high xs ys m h ∙ take_all 65535 (xs ++ ys) (simp length-append (omega arith))

  pub length_low : (xs ys : List C) (m : ℕ) → length xs < m → length (chain xs m ys) ≡ length xs
  length_low xs ys m h = ap length (chain_low xs ys m h)

  pub length_high : (xs ys : List C) (m : ℕ) → m ≤ length xs → length (chain xs m ys) ≡ min (length xs + length ys) 65535
  length_high xs ys m h = ap length (chain_high xs ys m h) ∙ length-take 65535 (xs ++ ys) ∙ simp length-append (omega arith)

  first_cases : (b : Bool) (xs ys : List C) (k : ℕ) → k < length xs → k < 65535 → at xs k ≡ at (cond b xs (take 65535 (xs ++ ys))) k
  first_cases true xs ys k h l = refl
  first_cases false xs ys k h l = sym (at_cut 65535 (xs ++ ys) k l ∙ at_left xs ys k h)

  pub in_first : (xs ys : List C) (m k : ℕ) → Within xs m → k < length xs → at xs k ≡ at (chain xs m ys) k
  in_first xs ys m k w h = first_cases (ltb (length xs) m) xs ys k h (omega arith)

  second_cases : (xs ys : List C) (m k j : ℕ) → k ≡ length xs + j → k < length (chain xs m ys) → (length xs < m) ⊎ (m ≤ length xs) → at ys j ≡ at (chain xs m ys) k
  second_cases xs ys m k j e l (inl h) = let s = length_low xs ys m h in absurd (omega arith)
  second_cases xs ys m k j e l (inr h) =
      let s = length_high xs ys m h in
      sym (ap (λ (r : List C). at r k) (chain_high xs ys m h) ∙ at_cut 65535 (xs ++ ys) k (omega arith) ∙ at_right xs ys k j e)

  pub in_second : (xs ys : List C) (m k j : ℕ) → k ≡ length xs + j → k < length (chain xs m ys) → at ys j ≡ at (chain xs m ys) k
  in_second xs ys m k j e l = second_cases xs ys m k j e l (lower (length xs) m)

  pub in_neither : (xs ys : List C) (m k : ℕ) → length (chain xs m ys) ≤ k → None ≡ at (chain xs m ys) k
  in_neither xs ys m k h = sym (at_past (chain xs m ys) k h)

-- a put where there is room
room_added : (n : ℕ) (cs : List Cell) (c : Cell) → length cs < n → added n cs c ≡ cs ++ c ∷ []
room_added n cs c h = let t = lt-ltb (length cs) n h in rw t

module _ (xs ys zs : List Cell) (m n : ℕ) (c : Cell) (w : Within xs m) (room : length (chain xs m ys) < sum m n) where
  -- a cell more, by which the first is full
  pub add_last : length xs + 1 ≡ m → zs ≡ added m xs c → chain zs m [] ≡ added (sum m n) (chain xs m ys) c
  add_last h e =
      let is = e ∙ room_added m xs c (omega arith) in
      let long : length zs ≡ length xs + 1 = ap length is ∙ length-append xs (c ∷ []) in
      chain_all zs [] m (omega arith) (omega arith) ∙ append-nil zs ∙ is ∙ ap (λ (l : List Cell). l ++ c ∷ []) (sym (chain_low xs ys m (omega arith))) ∙ sym (room_added (sum m n) (chain xs m ys) c room)

  -- a cell more in the second
  pub add_high : m ≤ length xs → zs ≡ added n ys c → chain xs m zs ≡ added (sum m n) (chain xs m ys) c
  add_high h e =
      let long = length_high xs ys m h in
      let is = e ∙ room_added n ys c (omega arith) in
      let longer : length zs ≡ length ys + 1 = ap length is ∙ length-append ys (c ∷ []) in
      chain_all xs zs m h (omega arith) ∙ ap (λ (l : List Cell). xs ++ l) is ∙ sym (append_assoc xs ys (c ∷ []))
      ∙ ap (λ (l : List Cell). l ++ c ∷ []) (sym (chain_all xs ys m h (omega arith))) ∙ sym (room_added (sum m n) (chain xs m ys) c room)
