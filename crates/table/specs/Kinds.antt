-- The kinds of record: their numbers, and what A, B and C may be.
use Rattle.std.specs.Prelude.{ℕ, ◌+◌, Bool, true, cond, ◌&&◌, ◌||◌, pos, negsuc, Some, None, Option, ◌==◌, int_le, nat_le}
use Rattle.image.specs.declared.record.Record.{Record}
use Rattle.table.specs.declared.kind.Kind.{Kind}
use Rattle.table.specs.declared.kind.Kind.TheVariants.{Close, Enum, Case, Def, Ty, Unit, Number, Boolean, Text, Local, Add, Mul, Div, Mod, Concat, Eq, Lt, Seq, If, Val, Call, Make, Match, Arm, Exit}
use Rattle.table.specs.declared.limits.Limits.{Limits}

-- the kind that has a number, if one has
unfoldable pub kind_at : ℕ → Option Kind
kind_at n =
    cond (n == 0) (Some Close)
    (cond (n == 1) (Some Enum)
    (cond (n == 2) (Some Case)
    (cond (n == 3) (Some Def)
    (cond (n == 8) (Some Ty)
    (cond (n == 16) (Some Unit)
    (cond (n == 17) (Some Number)
    (cond (n == 18) (Some Boolean)
    (cond (n == 19) (Some Text)
    (cond (n == 20) (Some Local)
    (cond (n == 21) (Some Add)
    (cond (n == 22) (Some Mul)
    (cond (n == 23) (Some Div)
    (cond (n == 24) (Some Mod)
    (cond (n == 25) (Some Concat)
    (cond (n == 26) (Some Eq)
    (cond (n == 27) (Some Lt)
    (cond (n == 28) (Some Seq)
    (cond (n == 29) (Some If)
    (cond (n == 30) (Some Val)
    (cond (n == 31) (Some Call)
    (cond (n == 32) (Some Make)
    (cond (n == 33) (Some Match)
    (cond (n == 34) (Some Arm)
    (cond (n == 35) (Some Exit)
    None))))))))))))))))))))))))

-- A and B are at most these, and C is from 0 up to a number
abbrev pub up_to : ℕ → ℕ → ℕ → Limits
up_to a b c = record { a = a; b = b; least = pos 0; most = pos c }

-- C is any number of 32 bits
abbrev pub any_number : Limits
any_number = record { a = 0; b = 0; least = negsuc 2147483647; most = pos 2147483647 }

abbrev pub limits_of : Kind → Limits
limits_of Close = up_to 0 0 0
limits_of Enum = up_to 0 31 0
limits_of Case = up_to 4 15 0
limits_of Def = up_to 4 63 0
limits_of Ty = up_to 4 31 0
limits_of Unit = up_to 0 0 0
limits_of Number = any_number
limits_of Boolean = up_to 1 0 0
limits_of Text = up_to 0 65535 24
limits_of Local = up_to 0 65535 0
limits_of Add = up_to 0 0 0
limits_of Mul = up_to 0 0 0
limits_of Div = up_to 0 0 0
limits_of Mod = up_to 0 0 0
limits_of Concat = up_to 0 0 0
limits_of Eq = up_to 0 0 0
limits_of Lt = up_to 0 0 0
limits_of Seq = up_to 0 0 0
limits_of If = up_to 0 0 0
limits_of Val = up_to 0 65535 0
limits_of Call = up_to 4 63 0
limits_of Make = up_to 4 31 15
limits_of Match = up_to 0 0 0
limits_of Arm = up_to 4 65535 15
limits_of Exit = up_to 0 0 0

-- only an enum's TYPE has a B other than 0, and an ARM's names end at 65,536
abbrev pub beside : Kind → Record → Bool
beside Ty r = r.a == 4 || r.b == 0
beside Arm r = nat_le (r.a + r.b) 65536
beside k r = true

abbrev pub within : Limits → Record → Bool
within w r = nat_le r.a w.a && nat_le r.b w.b && int_le w.least r.c && int_le r.c w.most

abbrev pub fits : Kind → Record → Bool
fits k r = within (limits_of k) r && beside k r
