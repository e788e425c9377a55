-- What a part of the descent says of the records that it went over.
use Rattle.std.specs.Prelude.{◌≡◌, ℕ, ◌+◌, ◌≤◌, List, [], ◌∷◌, Some, None, Ok, Err, Option, Result, ◌⊎◌}
use Rattle.table.specs.declared.token.Token.{Token}
use Rattle.grammar.specs.Grammar.{Want, group, misplaced}
use Rattle.grammar.specs.declared.descent.Misplaced.{Misplaced}
use Rattle.grammar.specs.declared.descent.Cursor.{Cursor}

-- the first record is behind the cursor now, and x is what is picked of it
pub record Taken {X : Type 0} (c : Cursor) (Pick : Token → Option X → Type 0) (x : X) (d : Cursor) : Type 0 where
  pub token : Token
  pub first : c.rest.now ≡ token ∷ d.rest.now
  pub onward : d.at ≡ c.at + 1
  pub picked : Pick token (Some x)

-- there is no record, or nothing is picked of the first, and the cursor stays
pub record Refused {X : Type 0} (c : Cursor) (g : Option ℕ) (Pick : Token → Option X → Type 0) (e : Misplaced) (d : Cursor) : Type 0 where
  pub stays : d ≡ c
  pub here : e ≡ record { «record» = c.at; group = g }
  pub none : (c.rest.now ≡ []) ⊎ ((token : Token) × (rest : List Token) × (c.rest.now ≡ token ∷ rest) × Pick token None)

-- the one or the other, by what was returned
abbrev pub Takes : {X : Type 0} → Cursor → Option ℕ → (Token → Option X → Type 0) → Result X Misplaced → Cursor → Type 0
Takes c g Pick (Ok x) d = Taken c Pick x d
Takes c g Pick (Err e) d = Refused c g Pick e d

-- what is misplaced from a cursor on, where these are wanted
abbrev pub found_from : Cursor → List Want → Option (ℕ × Option ℕ)
found_from c K = misplaced c.at K c.rest.now

-- the same, where a part was read up to the cursor, or a record of it is misplaced
abbrev pub found_after : Result (Unit {0}) Misplaced → Cursor → List Want → Option (ℕ × Option ℕ)
found_after (Ok u) d K = found_from d K
found_after (Err e) d K = Some (e.«record», e.group)

-- from one cursor to another what was wanted first was read, whatever is wanted behind it, or a record of it is misplaced; g is the innermost group open before
pub record Reads (c : Cursor) (F : List Want → List Want) (g : Option ℕ) (r : Result (Unit {0}) Misplaced) (d : Cursor) : Type 0 where
  pub onward : c.at ≤ d.at
  pub wanted : (K : List Want) → group (F K) ≡ g → found_from c (F K) ≡ found_after r d K
