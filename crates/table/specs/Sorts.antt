-- What a token is, where there is one: a head, an arm, a type, the count of a case's fields or a function's parameters, a CLOSE.
use Rattle.std.specs.Prelude.{ℕ, Bool, true, false, Some, None, Option}
use Rattle.battery.specs.declared.Ty.{Ty}
use Rattle.table.specs.declared.token.Token.{Token}
use Rattle.table.specs.declared.token.Token.TheVariants.{Close as CLOSE, Enum as ENUM, Case as CASE, Def as DEF, Ty as TYPE, Arm as ARM, Expr as EXPR}
use Rattle.table.specs.declared.token.Head.{Head}
use Rattle.table.specs.declared.token.Arm.{Arm}

abbrev pub head_of : Option Token → Option Head
head_of None = None
head_of (Some CLOSE) = None
head_of (Some (ENUM k)) = None
head_of (Some (CASE n k)) = None
head_of (Some (DEF n k)) = None
head_of (Some (TYPE τ)) = None
head_of (Some (ARM n x c)) = None
head_of (Some (EXPR h)) = Some h

abbrev pub arm_in : Option Token → Option Arm
arm_in None = None
arm_in (Some CLOSE) = None
arm_in (Some (ENUM k)) = None
arm_in (Some (CASE n k)) = None
arm_in (Some (DEF n k)) = None
arm_in (Some (TYPE τ)) = None
arm_in (Some (ARM n x c)) = Some (record { names = n; first = x; case = c })
arm_in (Some (EXPR h)) = None

abbrev pub type_of : Option Token → Option Ty
type_of None = None
type_of (Some CLOSE) = None
type_of (Some (ENUM k)) = None
type_of (Some (CASE n k)) = None
type_of (Some (DEF n k)) = None
type_of (Some (TYPE τ)) = Some τ
type_of (Some (ARM n x c)) = None
type_of (Some (EXPR h)) = None

abbrev pub field_count : Option Token → Option ℕ
field_count None = None
field_count (Some CLOSE) = None
field_count (Some (ENUM k)) = None
field_count (Some (CASE n k)) = Some n
field_count (Some (DEF n k)) = None
field_count (Some (TYPE τ)) = None
field_count (Some (ARM n x c)) = None
field_count (Some (EXPR h)) = None

abbrev pub parameter_count : Option Token → Option ℕ
parameter_count None = None
parameter_count (Some CLOSE) = None
parameter_count (Some (ENUM k)) = None
parameter_count (Some (CASE n k)) = None
parameter_count (Some (DEF n k)) = Some n
parameter_count (Some (TYPE τ)) = None
parameter_count (Some (ARM n x c)) = None
parameter_count (Some (EXPR h)) = None

abbrev pub is_close : Option Token → Bool
is_close None = false
is_close (Some CLOSE) = true
is_close (Some (ENUM k)) = false
is_close (Some (CASE n k)) = false
is_close (Some (DEF n k)) = false
is_close (Some (TYPE τ)) = false
is_close (Some (ARM n x c)) = false
is_close (Some (EXPR h)) = false
