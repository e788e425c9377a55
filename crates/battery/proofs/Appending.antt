-- A store that appends is lawful, and every typed run ends.
use Rattle.std.proofs.Common.{◌≡◌, ℕ, zero, suc, Bool, true, false, cond, ltb, List, [], ◌∷◌, ◌++◌, length, Some, None, Option, refl, ap}
use Rattle.battery.specs.Tree.{at, bind, ◌▸◌}
use Rattle.battery.specs.Cell.{Cell, append}
use Rattle.battery.specs.Rules.{◌⊢◌}
use Rattle.battery.specs.Claims.{EveryRunEnds, AppendingIsLawful}
use Rattle.battery.proofs.Total.{never, Some≡, total, Ran, bind_fits, f_nil}

at_last : (cs : List Cell) (c : Cell) → at (cs ++ c ∷ []) (length cs) ≡ Some c
at_last [] c = refl
at_last (d ∷ cs) c = at_last cs c

at_front : (cs : List Cell) (c : Cell) (i : ℕ) (d : Cell) → at cs i ≡ Some d → at (cs ++ c ∷ []) i ≡ Some d
at_front [] c i d e = never d e
at_front (x ∷ cs) c zero d e = e
at_front (x ∷ cs) c (suc i) d e = at_front cs c i d e

-- what an append that is not refused answers
appended : (most : ℕ) (cs : List Cell) (c : Cell) (i : ℕ) (cs' : List Cell) → append most cs c ≡ Some (i, cs') → (length cs ≡ i) × (cs ++ c ∷ [] ≡ cs')
appended most cs c i cs' = go (ltb (length cs) most)
  where
    go : (b : Bool) → ◌▸◌ {B = ℕ × List Cell} (cond {A = Option ℕ} b (Some (length cs)) None) (λ j. Some (j, cond b (cs ++ c ∷ []) cs)) ≡ Some (i, cs') → (length cs ≡ i) × (cs ++ c ∷ [] ≡ cs')
    go true e = let q = Some≡ (length cs, cs ++ c ∷ []) (i, cs') e in (ap (λ (r : ℕ × List Cell). r.0) q, ap (λ (r : ℕ × List Cell). r.1) q)
    go false e = never (i, cs') e

pub appending_is_lawful : AppendingIsLawful
appending_is_lawful most =
    record {
      holds = λ cs c i cs' e. let q = appended most cs c i cs' e in rw (← q.0, ← q.1) (at_last cs c);
      keeps = λ cs c i cs' e. let q = appended most cs c i cs' e in record { kept = λ j d h. rw (← q.1) (at_front cs c j d h) };
    }

pub every_run_ends : EveryRunEnds
every_run_ends S fn vs cs t =
    let r : Ran S t.store t.card 0 (bind 0 vs [] ⊢ fn.body) 0 cs fn.result =
    total S t.store t.card 0 0 (t.card.bodies t.number fn t.there) (bind_fits 0 t.args f_nil) in
    record { outcome = r.out; units = r.units'; cells = r.cells'; derived = r.eval; fits = r.fits; kept = r.keep }
