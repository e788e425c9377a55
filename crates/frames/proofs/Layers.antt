-- What stands at a place where an expression begins.
use Rattle.std.proofs.Common.{◌≡◌, ℕ, suc, ◌+◌, ◌<◌, ◌≤◌, Some, refl, ap, add-one, arith}
use Rattle.program.proofs.Spelt.{few_tokens}
use Rattle.battery.specs.Tree.{Exprs, ∅, place, at}
use Rattle.battery.specs.Rules.{first}
use Rattle.table.specs.declared.token.Token.TheVariants.{Expr as EXPR}
use Rattle.table.specs.declared.token.Head.{Head}
use Rattle.table.specs.declared.token.Head.TheVariants.{Leaf as LEAF, Pair as PAIR, If as IF, Match as MATCH, Exit as EXIT, Many as MANY}
use Rattle.table.specs.declared.token.Leaf.{Leaf}
use Rattle.table.specs.declared.token.Leaf.TheVariants.{Unit as UNIT, Number as NUM, Boolean as BOOL, Text as STR, Local as LOCAL}
use Rattle.table.specs.declared.token.Pair.TheVariants.{Calc as CALC, Concat as CONCAT, Eq as EQ, Lt as LT, Seq as SEQ, Val as VAL}
use Rattle.table.specs.declared.token.Many.{Many}
use Rattle.table.specs.declared.token.Many.TheVariants.{Call as CALL, Make as MAKE}
use Rattle.grammar.specs.Grammar.{leaf_at, many_at}
use Rattle.numbering.proofs.Bounds.{limited_at}
use Rattle.program.specs.Stands.{row_at, Node, Headed}
use Rattle.program.specs.Views.{tokens_in, text_in, ends_in}
use Rattle.program.specs.declared.program.Program.{Program}
use Rattle.program.proofs.Stands.{headed}
use Rattle.table.specs.Sorts.{head_of}
use Rattle.frames.specs.Trees.{head_at, first_at, firsts, expr, exprs, Start, Starts}

module _ (k : Program) where
  -- the head there, and its parts
  pub standing : (i : ℕ) → Start k i → Headed (text_in k) (tokens_in k) (ends_in k) i
  standing i s = headed (text_in k) (tokens_in k) (ends_in k) k.ended i s

  pub within : (i : ℕ) → Start k i → i < 512
  within i s = let h = (standing i s).within in let l = few_tokens k in omega arith

  pub head_is : (i : ℕ) (s : Start k i) → head_at k i ≡ Some (standing i s).head
  head_is i s = ap head_of (standing i s).stands

  pub record Firsts (i : ℕ) : Type 0 where
    pub parts : first (expr k i) ≡ exprs k (firsts (head_at k i)) (first_at i (head_at k i))
    pub starts : Starts k (firsts (head_at k i)) (first_at i (head_at k i))
    pub few : firsts (head_at k i) ≤ 4
    pub here : place (expr k i) ≡ i

  leaf_first : (i : ℕ) (l : Leaf) → (first (leaf_at (text_in k) i l) ≡ ∅) × (place (leaf_at (text_in k) i l) ≡ i)
  leaf_first i UNIT = (refl, refl)
  leaf_first i (NUM n) = (refl, refl)
  leaf_first i (BOOL b) = (refl, refl)
  leaf_first i (STR b n) = (refl, refl)
  leaf_first i (LOCAL x) = (refl, refl)

  many_first : (i : ℕ) (m : Many) (es : Exprs) → (first (many_at i m es) ≡ es) × (place (many_at i m es) ≡ i)
  many_first i (CALL f) es = (refl, refl)
  many_first i (MAKE e c) es = (refl, refl)

  firsts_by : (i : ℕ) (h : Head) → head_at k i ≡ Some h → at (tokens_in k) i ≡ Some (EXPR h) → Node (text_in k) (tokens_in k) (ends_in k) i h → Firsts i
  firsts_by i (LEAF l) e a n = let q = leaf_first i l in record { parts = rw (e, n) q.0; starts = rw e tt; few = rw e (omega arith); here = rw n q.1 }
  firsts_by i (PAIR (CALC o)) e a n = let q = n.1 in record { parts = rw (e, q, add-one); starts = rw (e, add-one) n.0; few = rw e (omega arith); here = rw q }
  firsts_by i (PAIR CONCAT) e a n = let q = n.1 in record { parts = rw (e, q, add-one); starts = rw (e, add-one) n.0; few = rw e (omega arith); here = rw q }
  firsts_by i (PAIR EQ) e a n = let q = n.1 in record { parts = rw (e, q, add-one); starts = rw (e, add-one) n.0; few = rw e (omega arith); here = rw q }
  firsts_by i (PAIR LT) e a n = let q = n.1 in record { parts = rw (e, q, add-one); starts = rw (e, add-one) n.0; few = rw e (omega arith); here = rw q }
  firsts_by i (PAIR SEQ) e a n = let q = n.1 in record { parts = rw (e, q, add-one); starts = rw (e, add-one) (n.0.0, tt); few = rw e (omega arith); here = rw q }
  firsts_by i (PAIR (VAL x)) e a n = let q = n.1 in record { parts = rw (e, q, add-one); starts = rw (e, add-one) (n.0.0, tt); few = rw e (omega arith); here = rw q }
  firsts_by i IF e a n = let q = n.1 in record { parts = rw (e, q, add-one); starts = rw (e, add-one) (n.0.0, tt); few = rw e (omega arith); here = rw q }
  firsts_by i MATCH e a n = let q = n.2 in record { parts = rw (e, q, add-one); starts = rw (e, add-one) (n.0, tt); few = rw e (omega arith); here = rw q }
  firsts_by i EXIT e a n =
      let q = n.1.1 in
      let two : i + 2 ≡ suc (suc i) = omega arith in
      record { parts = rw (e, q, two); starts = rw (e, two) (n.0, tt); few = rw e (omega arith); here = rw q }
  firsts_by i (MANY c m) e a n =
      let q = n.1 in
      let f = many_first i m (row_at (text_in k) (tokens_in k) (ends_in k) c (suc i)) in
      let small : c ≤ 4 = limited_at (tokens_in k) i (EXPR (MANY c m)) k.limited a in
      record { parts = rw (e, q, add-one) f.0; starts = rw (e, add-one) n.0; few = rw e small; here = rw q f.1 }

  pub firsts_of_lem : (i : ℕ) → Start k i → Firsts i
  firsts_of_lem i s = let h = standing i s in firsts_by i h.head (head_is i s) h.stands h.node
