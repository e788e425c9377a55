-- The place of a function is that of its DEF, which is among the tokens.
use Rattle.std.proofs.Common.{◌≡◌, ◌<◌, Some, sym, refl, ap, ◌∙◌, subst, arith}
use Rattle.battery.specs.Tree.{at}
use Rattle.table.specs.Sorts.{parameter_count}
use Rattle.program.specs.Views.{text_in, tokens_in}
use Rattle.program.specs.Called.{OfFunction}
use Rattle.program.proofs.Bodies.{none_called, one_called, no_def, def_below}
use Rattle.program.proofs.Spelt.{few_tokens}
use Rattle.program.proofs.program.Program.function.Goals as goal

-- the token there is a DEF
counted : (c : goal.In_ok-parameters) → Some c.in_ok-parameters.parameters ≡ parameter_count (at (tokens_in c.args.self.now) c.in_ok-place.place)
counted c = c.in_ok-parameters.ensures ∙ ap parameter_count c.in_ok-token.ensures

-- the DEF stands below the end of the tokens
below : (c : goal.In_ok-parameters) → c.in_ok-place.place < 512
below c =
    let few = few_tokens c.args.self.now in
    let b = def_below (tokens_in c.args.self.now) c.in_ok-place.place _ (counted c) in
    omega arith

pub returns-in_err-place : goal.returns-in_err-place
returns-in_err-place c C read =
    let p = c.args.self.now in
    let none = c.in_err-place.ensures ∙ ap (λ ps. at ps c.args.f) p.defined in
    subst (OfFunction (text_in p) (tokens_in p) (at C.fns c.args.f)) (sym c.from_residual.ensures) (none_called (text_in p) (tokens_in p) C read c.args.f none)

pub returns-in_err-token : goal.returns-in_err-token
returns-in_err-token c C read =
    let p = c.args.self.now in
    let place = c.in_ok-place.ensures ∙ ap (λ ps. at ps c.args.f) p.defined in
    subst (OfFunction (text_in p) (tokens_in p) (at C.fns c.args.f)) (sym c.from_residual-in_err-token.ensures) (no_def (text_in p) (tokens_in p) C read c.args.f _ place (ap parameter_count c.in_err-token.ensures))

pub returns-in_err-parameters : goal.returns-in_err-parameters
returns-in_err-parameters c C read =
    let p = c.args.self.now in
    let place = c.in_ok-place.ensures ∙ ap (λ ps. at ps c.args.f) p.defined in
    let none = c.in_err-parameters.ensures ∙ ap parameter_count c.in_ok-token.ensures in
    subst (OfFunction (text_in p) (tokens_in p) (at C.fns c.args.f)) (sym c.from_residual-in_err-parameters.ensures) (no_def (text_in p) (tokens_in p) C read c.args.f _ place none)

pub overflow_add-result : goal.overflow_add-result
overflow_add-result c = let b = below c in omega arith

pub overflow_add-result-2 : goal.overflow_add-result-2
overflow_add-result-2 c = let b = below c in omega arith

pub overflow_cast-result-2 : goal.overflow_cast-result-2
overflow_cast-result-2 c = let b = below c in omega arith

pub returns : goal.returns
returns c C read =
    let p = c.args.self.now in
    let place = c.in_ok-place.ensures ∙ ap (λ ps. at ps c.args.f) p.defined in
    one_called (text_in p) (tokens_in p) C read c.args.f _ _ _ place (counted c) refl refl
