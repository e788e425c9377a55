-- What is picked of a token, by what is wanted in its place then.
use Rattle.std.specs.Prelude.{◌≡◌, ℕ, Bool, true, false, List, ◌∷◌, Some, None, Option}
use Rattle.std.specs.Option.{option_map}
use Rattle.table.specs.declared.token.Token.{Token}
use Rattle.grammar.specs.Grammar.{Want, want_type, want_expr, want_cases, want_arms, expecting}

-- what is picked of a token says what the token puts in the place of what is wanted, and nothing is picked of one that cannot follow
abbrev pub Picks : {X : Type 0} → (List Want → Token → Option (List Want)) → (List Want → X → List Want) → Token → Option X → Type 0
Picks follows then token picked = (K : List Want) → follows K token ≡ option_map (then K) picked

-- the types of a CASE and more cases, or what is wanted behind their CLOSE
abbrev pub after_case : ℕ → List Want → Option ℕ → List Want
after_case o K None = K
after_case o K (Some n) = expecting n want_type (want_cases o true ∷ K)

-- the expression of an ARM and more arms, or what is wanted behind their CLOSE
abbrev pub after_arm : ℕ → List Want → Bool → List Want
after_arm o K false = K
after_arm o K true = want_expr ∷ want_arms o true ∷ K
