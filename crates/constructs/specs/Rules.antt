-- A frame whose rule is to be applied, and the head of its expression.
use Rattle.std.specs.Prelude.{◌≡◌, Some}
use Rattle.table.specs.declared.token.Head.{Head}
use Rattle.program.specs.declared.program.Program.{Program}
use Rattle.frames.specs.declared.data.Wait.{Wait}
use Rattle.frames.specs.Trees.{head_at}
use Rattle.frames.specs.Views.{Ready}

pub record RuleOf (k : Program) (w : Wait) (h : Head) : Type 0 where
  pub ready : Ready k w
  pub head : head_at k w.job.at ≡ Some h
