-- A program spells the card that it is said to have, in 512 tokens at most.
use Rattle.std.proofs.Common.{◌≡◌, ◌≤◌, length, Some, None, Option, refl, arith}
use Rattle.std.proofs.lemmas.List.{length-take-le}
use mathlib.Core.Logic.{∥∥₁_elim}
use Rattle.battery.specs.Tree.{Card}
use Rattle.grammar.specs.Grammar.{card_of}
use Rattle.program.specs.Views.{tokens_in, text_in, or_no_card, card_in}
use Rattle.program.specs.declared.program.Program.{Program}

pub spelt_card : (k : Program) → card_of (text_in k) (tokens_in k) ≡ Some (card_in k)
spelt_card k = go (card_of (text_in k) (tokens_in k)) refl
  where
    go : (o : Option Card) → card_of (text_in k) (tokens_in k) ≡ o → o ≡ Some (or_no_card o)
    go None e = absurd (∥∥₁_elim k.spelt (λ x y. absurd x) (λ x. let w = x.1 in cc))
    go (Some C) e = refl

pub few_tokens : (k : Program) → length (tokens_in k) ≤ 512
few_tokens k = let l = length-take-le k.tokens.len k.tokens.items (omega arith) in omega arith
