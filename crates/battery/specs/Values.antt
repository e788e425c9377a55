-- When a value has a type, and what tree it shows, over the cells of a store.
use Rattle.std.specs.Prelude.{◌≡◌, ℕ, ◌≤◌, Bool, true, List, [], ◌∷◌, length, ℤ, Some}
use Rattle.battery.specs.declared.Ty.{Ty}
use Rattle.battery.specs.declared.Ty.TheVariants.{Unit as unit, Number as number, Boolean as boolean, Text as text, Enum as enum}
use Rattle.battery.specs.declared.value.Value.{Value}
use Rattle.battery.specs.declared.value.Value.TheVariants.{Unit as unit_v, Number as number_v, Boolean as boolean_v, Place as place_v}
use Rattle.battery.specs.declared.outcome.Stop.{Stop}
use Rattle.battery.specs.declared.outcome.Stop.TheVariants.{Exit as exits, ZeroDivisor as zero_divisor, OutOfRange as out_of_range, TooLong as too_long, FullStore as full_store, TooDeep as too_deep, Overrun as overrun}
use Rattle.battery.specs.Outcome.{Outcome}
use Rattle.std.specs.Prelude.{Ok as value, Err as stop}
use Rattle.battery.specs.Tree.{at, Card, in_range}
use Rattle.battery.specs.Cell.{Cell, text_cell, enum_cell}

-- a value has the type of its kind; an enum value has its enum's if its case and fields are as declared there
mutual
  pub data Has (C : Card) (cs : List Cell) : Value → Ty → Type 0 where
    h_unit : Has C cs unit_v unit
    h_num : {k : _} → in_range k ≡ true → Has C cs (number_v k) number
    h_bool : {b : _} → Has C cs (boolean_v b) boolean
    h_text : {i s : _} → at cs i ≡ Some (text_cell s) → length s ≤ 24 → Has C cs (place_v i) text
    h_enum : {i k c vs E τs : _}
        → at cs i ≡ Some (enum_cell k c vs) → at C.enums k ≡ Some E → at E c ≡ Some τs → HasAll C cs vs τs → Has C cs (place_v i) (enum k)

  pub data HasAll (C : Card) (cs : List Cell) : List Value → List Ty → Type 0 where
    h_nil : HasAll C cs [] []
    h_cons : {v τ vs τs : _} → Has C cs v τ → HasAll C cs vs τs → HasAll C cs (v ∷ vs) (τ ∷ τs)

-- an outcome fits a type: a value has it, and an exit has a text
abbrev pub StopFits : Card → List Cell → Stop → Type 0
StopFits C cs (exits p v) = Has C cs v text
StopFits C cs (zero_divisor p) = Unit {0}
StopFits C cs (out_of_range p) = Unit {0}
StopFits C cs (too_long p) = Unit {0}
StopFits C cs (full_store p) = Unit {0}
StopFits C cs (too_deep p) = Unit {0}
StopFits C cs (overrun p) = Unit {0}

abbrev pub OutcomeFits : Card → List Cell → Outcome → Ty → Type 0
OutcomeFits C cs (value v) τ = Has C cs v τ
OutcomeFits C cs (stop x) τ = StopFits C cs x

-- a value as a tree, with cells put for their places
mutual
  pub data Shown : Type 0 where
    unit_shown : Shown
    number_shown : ℤ → Shown
    boolean_shown : Bool → Shown
    text_shown : List ℕ → Shown
    enum_shown : ℕ → ℕ → AllShown → Shown

  pub data AllShown : Type 0 where
    none_shown : AllShown
    ◌and◌ : Shown → AllShown → AllShown

mutual
  pub data Shows (cs : List Cell) : Value → Shown → Type 0 where
    s_unit : Shows cs unit_v unit_shown
    s_num : {k : _} → Shows cs (number_v k) (number_shown k)
    s_bool : {b : _} → Shows cs (boolean_v b) (boolean_shown b)
    s_text : {i s : _} → at cs i ≡ Some (text_cell s) → Shows cs (place_v i) (text_shown s)
    s_enum : {i k c vs ts : _} → at cs i ≡ Some (enum_cell k c vs) → ShowAll cs vs ts → Shows cs (place_v i) (enum_shown k c ts)

  pub data ShowAll (cs : List Cell) : List Value → AllShown → Type 0 where
    s_nil : ShowAll cs [] none_shown
    s_cons : {v t vs ts : _} → Shows cs v t → ShowAll cs vs ts → ShowAll cs (v ∷ vs) (◌and◌ t ts)
