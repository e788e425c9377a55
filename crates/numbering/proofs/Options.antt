-- An answer that went through, and what an Option's constructors tell.
use Rattle.std.proofs.Common.{◌≡◌, Bool, true, false, ◌&&◌, Some, None, Option, refl}
use Rattle.battery.specs.Tree.{◌▸◌}

pub never : {A P : Type 0} {a : A} → ◌≡◌ {A = Option A} None (Some a) → P
never {a = a} e = cc

pub Some≡ : {A : Type 0} {a b : A} → Some a ≡ Some b → a ≡ b
Some≡ {a = a} {b = b} e = cc

pub record Through {A B : Type 0} (o : Option A) (f : A → Option B) (b : B) : Type 0 where
  pub mid : A
  pub got : o ≡ Some mid
  pub gave : f mid ≡ Some b

pub through : {A B : Type 0} (o : Option A) (f : A → Option B) (b : B) → (o ▸ f) ≡ Some b → Through o f b
through None f b e = never e
through (Some a) f b e = record { mid = a; got = refl; gave = e }

pub false≢true : {P : Type 0} → false ≡ true → P
false≢true e = cc

pub both : (b c : Bool) → (b && c) ≡ true → (b ≡ true) × (c ≡ true)
both true c e = (refl, e)
both false c e = false≢true e
