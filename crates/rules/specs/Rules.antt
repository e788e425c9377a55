-- The rule of a head that types its parts in one scope, over the types of its parts.
use Rattle.std.specs.Prelude.{ℕ, Bool, true, false, ◌&&◌, List, [], ◌∷◌, length, Some, None, Option, ◌==◌}
use Rattle.battery.specs.declared.Ty.{Ty}
use Rattle.battery.specs.declared.Ty.TheVariants.{Unit as unit, Number as number, Boolean as boolean, Text as text, Enum as enum}
use Rattle.battery.specs.Tree.{at, Card, Scope, find}
use Rattle.table.specs.declared.token.Head.{Head}
use Rattle.table.specs.declared.token.Head.TheVariants.{Leaf as LEAF, Pair as PAIR, If as IF, Match as MATCH, Exit as EXIT, Many as MANY}
use Rattle.table.specs.declared.token.Leaf.{Leaf}
use Rattle.table.specs.declared.token.Leaf.TheVariants.{Unit as UNIT, Number as NUM, Boolean as BOOL, Text as STR, Local as LOCAL}
use Rattle.table.specs.declared.token.Pair.{Pair}
use Rattle.table.specs.declared.token.Pair.TheVariants.{Calc as CALC, Concat as CONCAT, Eq as EQ, Lt as LT, Seq as SEQ, Val as VAL}
use Rattle.table.specs.declared.token.Many.{Many}
use Rattle.table.specs.declared.token.Many.TheVariants.{Call as CALL, Make as MAKE}
use Rattle.numbering.specs.Numbering.{case_of}
use Rattle.verdict.specs.Order.{Checked, has, fault, ◌▹◌, rule, there, same_ty, same_tys}

abbrev pub given : Bool → Ty → Option Ty
given true τ = Some τ
given false τ = None

abbrev pub pair_type : Pair → Ty → Ty → Option Ty
pair_type (CALC o) σ τ = given (same_ty σ number && same_ty τ number) number
pair_type CONCAT σ τ = given (same_ty σ text && same_ty τ text) text
pair_type EQ σ τ = given (same_ty τ σ) boolean
pair_type LT σ τ = given (same_ty σ number && same_ty τ number) boolean
pair_type SEQ σ τ = Some τ
pair_type (VAL x) σ τ = Some τ

abbrev pub if_type : Ty → Ty → Ty → Option Ty
if_type κ σ τ = given (same_ty κ boolean && same_ty τ σ) σ

abbrev pub pair_rule : ℕ → Pair → List Ty → Checked Ty
pair_rule p o [] = fault 11 p
pair_rule p o (σ ∷ []) = fault 11 p
pair_rule p o (σ ∷ τ ∷ []) = there 11 p (pair_type o σ τ)
pair_rule p o (σ ∷ τ ∷ υ ∷ τs) = fault 11 p

abbrev pub if_rule : ℕ → List Ty → Checked Ty
if_rule p [] = fault 11 p
if_rule p (κ ∷ []) = fault 11 p
if_rule p (κ ∷ σ ∷ []) = fault 11 p
if_rule p (κ ∷ σ ∷ τ ∷ []) = there 11 p (if_type κ σ τ)
if_rule p (κ ∷ σ ∷ τ ∷ υ ∷ τs) = fault 11 p

-- as many parts as declared, and then of the types declared
abbrev pub declared_rule : ℕ → List Ty → List Ty → Ty → Checked Ty
declared_rule p τs υs υ = rule 12 p (length τs == length υs) ▹ λ u. rule 11 p (same_tys τs υs) ▹ λ v. has υ

abbrev pub many_rule : Card → ℕ → Many → List Ty → Checked Ty
many_rule C p (CALL f) τs = there 12 p (at C.fns f) ▹ λ fn. declared_rule p τs fn.params fn.result
many_rule C p (MAKE k c) τs = there 12 p (case_of C k c) ▹ λ υs. declared_rule p τs υs (enum k)

abbrev pub ruled : Card → ℕ → Head → List Ty → Checked Ty
ruled C p (LEAF l) τs = fault 11 p
ruled C p (PAIR o) τs = pair_rule p o τs
ruled C p IF τs = if_rule p τs
ruled C p MATCH τs = fault 11 p
ruled C p EXIT τs = fault 11 p
ruled C p (MANY n m) τs = many_rule C p m τs

-- how many parts are typed so
abbrev pub parts_of : Head → ℕ
parts_of (LEAF l) = 0
parts_of (PAIR o) = 2
parts_of IF = 3
parts_of MATCH = 0
parts_of EXIT = 0
parts_of (MANY n m) = n

-- the rule of a leaf
abbrev pub leaf_rule : Scope Ty → ℕ → Leaf → Checked Ty
leaf_rule Γ p UNIT = has unit
leaf_rule Γ p (NUM k) = has number
leaf_rule Γ p (BOOL b) = has boolean
leaf_rule Γ p (STR b n) = has text
leaf_rule Γ p (LOCAL x) = there 10 p (find Γ x)
