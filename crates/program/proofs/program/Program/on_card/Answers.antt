-- Tokens in their places spell a card, and the tables are those of its tokens.
use Rattle.std.proofs.Common.{◌≡◌, sym, ap, ◌∙◌, subst, arith}
use Rattle.few.specs.Listed.{listed}
use Rattle.numbering.specs.Limits.{AllLimited}
use Rattle.numbering.specs.Places.{functions_in}
use Rattle.numbering.specs.Ends.{Ends}
use Rattle.program.specs.Views.{spelled}
use Rattle.program.proofs.Cards.{Spells, kept, as_spelt, none_spelt, one_spelt}
use Rattle.program.proofs.program.Program.on_card.Goals as goal
use Rattle.program.proofs.program.Program.on_card.Goals.{In_ok-of-2}

pub returns-in_err-ok : goal.returns-in_err-ok
returns-in_err-ok c = ap spelled c.from_residual.ensures ∙ none_spelt c.args.bytes.now c.args.tokens.list.now c.requires.some c.placed.result c.placed.ensures c.in_err-ok.ensures.value

-- what is kept of the tokens and of the bytes is all of them
tokens : (c : goal.In_ok-of-2) → listed c.in_ok-of.field-0 ≡ c.args.tokens.list.now
tokens c = kept c.in_ok-of.ensures (omega arith)

text : (c : goal.In_ok-of-2) → listed c.in_ok-of-2.field-0 ≡ c.args.bytes.now
text c = kept c.in_ok-of-2.ensures (omega arith)

spells : (c : goal.In_ok-of-2) → Spells c.args.bytes.now c.args.tokens.list.now
spells c = one_spelt c.args.bytes.now c.args.tokens.list.now c.requires.some c.placed.result c.placed.ensures c.in_ok-ok.ensures.value

pub invariant_of-result : goal.invariant_of-result
invariant_of-result c =
    let same = c.of.ensures ∙ sym (tokens c) in
    let spelt = subst (λ t. Spells t (listed c.in_ok-of.field-0)) (sym (text c)) (subst (Spells c.args.bytes.now) (sym (tokens c)) (spells c)) in
    record {
      whole = c.into_tables.ensures.whole;
      ended = subst (λ ws. Ends ws c.into_tables.result.1) same c.into_tables.ensures.ends;
      limited = subst (λ ws. ∥ AllLimited ws ∥₁) (sym (tokens c)) c.args.tokens.limited;
      defined = c.into_tables.ensures.functions ∙ ap (functions_in 0) same;
      spelt = ∣ spelt ∣₁;
    }

pub returns : goal.returns
returns c = let d = (goal.at.returns c).In_ok-of-2 in as_spelt (text d) (tokens d) (spells d)
