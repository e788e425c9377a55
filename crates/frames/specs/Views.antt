-- What a run means: a state of the rules' machine.
use Rattle.std.specs.Prelude.{◌≡◌, ℕ, zero, suc, ◌+◌, ◌-◌, ◌*◌, ◌<◌, ◌≤◌, Bool, true, false, cond, List, [], ◌∷◌, length, take, drop, Some, None, Option, ◌≢◌, nat_le}
use Rattle.battery.specs.declared.value.Value.{Value}
use Rattle.battery.specs.declared.outcome.Stop.TheVariants.{Overrun as overrun}
use Rattle.std.specs.Prelude.{Ok as value, Err as stop}
use Rattle.battery.specs.Tree.{Scope}
use Rattle.battery.specs.Cell.{Cell}
use Rattle.battery.specs.Rules.{Setup, ◌⊢◌, gives, stops, goes, same, answer, fields, pairs}
use Rattle.battery.specs.Rules.{Comparison as RuleVerdict}
use Rattle.battery.specs.Rules.{Judgement as RuleJudgement}
use Rattle.battery.specs.Rules.{Move as RuleMove}
use Rattle.machine.specs.Machine.{after, Frame as TreeFrame, waits, compares, passes, State, going, ended, stuck, parting, pairing, resume}
use Rattle.scope.specs.declared.Entry.{Entry}
use Rattle.scope.specs.Bound.{scope_of}
use Rattle.cells.specs.Meaning.{values_of}
use Rattle.program.specs.declared.program.Program.{Program}
use Rattle.frames.specs.declared.data.Job.{Job}
use Rattle.frames.specs.declared.data.Judgement.{Judgement}
use Rattle.frames.specs.declared.data.Judgement.TheVariants.{Of, Same}
use Rattle.frames.specs.declared.data.Wait.{Wait}
use Rattle.frames.specs.declared.data.Frame.{Frame}
use Rattle.frames.specs.declared.data.Frame.TheVariants.{Passes, Waits, Compares}
use Rattle.frames.specs.declared.data.Pair.{Pair}
use Rattle.frames.specs.declared.data.Pairs.{Pairs}
use Rattle.frames.specs.declared.data.Verdict.{Verdict}
use Rattle.frames.specs.declared.data.Verdict.TheVariants.{Is, Fields}
use Rattle.frames.specs.declared.data.Given.{Given}
use Rattle.frames.specs.declared.data.Given.TheVariants.{Goes as Carried, Done, Halts}
use Rattle.frames.specs.declared.data.Move.{Move}
use Rattle.frames.specs.declared.data.Move.TheVariants.{Gives, Stops, Goes}
use Rattle.frames.specs.declared.data.Stage.{Stage}
use Rattle.frames.specs.declared.data.Stage.TheVariants.{Going, Ended, Stuck}
use Rattle.frames.specs.declared.data.Part.{Part}
use Rattle.frames.specs.declared.data.Part.TheVariants.{Next, Whole, Equal}
use Rattle.frames.specs.declared.data.Run.{Run}
use Rattle.frames.specs.Trees.{head_at, first_at, firsts, after_it, expr, exprs, Start, Starts, setup}
use Rattle.frames.specs.Stacks.{held, vals}

-- n entries from b on, as a scope
abbrev pub window : List (Entry Value) → ℕ → ℕ → Scope Value
window es b n = scope_of (take n (drop b es))

abbrev pub scope : List (Entry Value) → Job → Scope Value
scope es j = window es j.base (j.height - j.base)

-- a judgement, as the rules say it, and the record that it is opened for
abbrev pub judgement : Program → List (Entry Value) → Judgement → RuleJudgement
judgement k es (Of j) = scope es j ⊢ expr k j.at
judgement k es (Same p) = same p.at p.one p.other

abbrev pub judged_for : Judgement → ℕ
judged_for (Of j) = j.at
judged_for (Same p) = p.at

-- the pairs from the next on
abbrev pub pairs_of : Pairs → List (Value × Value)
pairs_of q = pairs (drop q.next (values_of q.ones)) (drop q.next (values_of q.others))

-- the next pair is within the four values, or behind the last
abbrev pub Within : Pairs → Type 0
Within q = q.next ≤ 4

abbrev pub frame : Program → List (Entry Value) → Frame → TreeFrame
frame k es Passes = passes
frame k es (Waits w) = waits (scope es w.job) (expr k w.job.at) (vals w) (exprs k w.left w.next)
frame k es (Compares q) = compares q.at (pairs_of q)

abbrev pub frames : Program → List (Entry Value) → List Frame → List TreeFrame
frames k es [] = []
frames k es (f ∷ l) = frame k es f ∷ frames k es l

abbrev pub stage : Program → List (Entry Value) → List Frame → ℕ → List Cell → Stage → State
stage k es l u cs (Going j) = going (judgement k es j) (frames k es l) u cs
stage k es l u cs (Ended o) = ended o u cs
stage k es l u cs (Stuck p) = stuck p u cs

abbrev pub view : {S : Type 0} → (S → List Cell) → Program → Run S → State
view cells k r = stage k r.entries (held r.stack) r.units (cells r.store) r.stage

-- the newest frame, which has its values so far, goes on
abbrev pub carry : Program → Setup → List (Entry Value) → List Frame → ℕ → List Cell → State
carry k S es [] u cs = stuck 0 u cs
carry k S es (Passes ∷ l) u cs = stuck 0 u cs
carry k S es (Waits w ∷ l) u cs =
    parting S (resume S (frames k es l)) (scope es w.job) (expr k w.job.at) (vals w) (exprs k w.left w.next) (frames k es l) u cs
carry k S es (Compares q ∷ l) u cs = pairing S (resume S (frames k es l)) q.at (pairs_of q) (frames k es l) u cs

-- a waiting frame's next part, and the frame past it
abbrev pub part_job : Wait → Job
part_job w = record { at = w.next; base = w.job.base; height = w.job.height }

abbrev pub next_of : {A : Type 0} → ℕ → A → Option A
next_of zero x = None
next_of (suc n) x = Some x

abbrev pub next_job : Wait → Option Job
next_job w = next_of w.left (part_job w)

abbrev pub stepped : Program → Wait → Wait
stepped k w = record { job = w.job; next = after_it k w.next; left = w.left - 1; values = w.values }

abbrev pub past : {A B : Type 0} → Option A → B → B → B
past None stays moved = stays
past (Some x) stays moved = moved

abbrev pub past_job : Program → Wait → Wait
past_job k w = past (next_job w) w (stepped k w)

-- a comparing frame's next pair, and the frame past it
abbrev pub pair_of : ℕ → List (Value × Value) → Option Pair
pair_of p [] = None
pair_of p (x ∷ l) = Some (record { at = p; one = x.0; other = x.1 })

abbrev pub next_pair : Pairs → Option Pair
next_pair q = pair_of q.at (pairs_of q)

abbrev pub paired : Pairs → Pairs
paired q = record { at = q.at; next = q.next + 1; ones = q.ones; others = q.others }

abbrev pub past_pair : Pairs → Pairs
past_pair q = past (next_pair q) q (paired q)

-- the newest frame's next part, and the frames past it
abbrev pub job_or : Wait → Option Job → Part
job_or w None = Whole w.job.at
job_or w (Some j) = Next (Of j)

abbrev pub pair_or : Option Pair → Part
pair_or None = Equal
pair_or (Some p) = Next (Same p)

abbrev pub next_part : Frame → Option Part
next_part Passes = None
next_part (Waits w) = Some (job_or w (next_job w))
next_part (Compares q) = Some (pair_or (next_pair q))

abbrev pub past_part : Program → Frame → Frame
past_part k Passes = Passes
past_part k (Waits w) = Waits (past_job k w)
past_part k (Compares q) = Compares (past_pair q)

abbrev pub part_of : List Frame → Option Part
part_of [] = None
part_of (f ∷ l) = next_part f

abbrev pub parted : Program → List Frame → List Frame
parted k [] = []
parted k (f ∷ l) = past_part k f ∷ l

-- a scope and a place that a run may be at, with n judgements open
pub record JobOk (k : Program) (n : ℕ) (j : Job) : Type 0 where
  pub start : Start k j.at
  pub based : j.base ≤ j.height
  pub low : j.height ≤ 4 * (n + 1)

-- a frame above n others, that has its values so far
pub record WaitOk (k : Program) (n : ℕ) (w : Wait) : Type 0 where
  pub job : JobOk k n w.job
  pub parts : Starts k w.left w.next
  pub few : length (vals w) + w.left ≤ 4

-- open frames under a scope of height h; each waits for a value
abbrev pub Ok : Program → List Frame → ℕ → Type 0
Ok k [] h = Unit {0}
Ok k (Passes ∷ l) h = Ok k l h
Ok k (Waits w ∷ l) h = WaitOk k (length l) w × (length (vals w) < 4 - w.left) × (w.job.height ≤ h) × Ok k l w.job.height
Ok k (Compares q ∷ l) h = Within q × Ok k l h

-- the newest has its values so far
abbrev pub Carries : Program → List Frame → Type 0
Carries k [] = Unit {0}
Carries k (Passes ∷ l) = Unit {0}
Carries k (Waits w ∷ l) = WaitOk k (length l) w × Ok k l w.job.height
Carries k (Compares q ∷ l) = Within q × ((h : ℕ) × Ok k l h)

-- a judgement that may be opened above the frames
abbrev pub JudgementOk : Program → List Frame → Judgement → Type 0
JudgementOk k l (Of j) = JobOk k (length l) j × Ok k l j.height
JudgementOk k l (Same p) = (h : ℕ) × Ok k l h

abbrev pub StageOk : Program → List Frame → ℕ → Stage → Type 0
StageOk k l u (Going j) = JudgementOk k l j × (u < 1000000)
StageOk k l u (Ended o) = Unit {0}
StageOk k l u (Stuck p) = Unit {0}

abbrev pub Sound : {S : Type 0} → Program → Run S → Type 0
Sound k r = StageOk k (held r.stack) r.units r.stage

-- two runs of entries agree below a height
abbrev pub Agree : List (Entry Value) → List (Entry Value) → ℕ → Type 0
Agree es es' h = take h es' ≡ take h es

-- what a rule did, as the rules say it; none where no rule fits
abbrev pub move : Program → List (Entry Value) → List Cell → Option Move → Option RuleMove
move k es cs None = None
move k es cs (Some (Gives v)) = Some (gives v cs)
move k es cs (Some (Stops x)) = Some (stops x)
move k es cs (Some (Goes j)) = Some (goes (judgement k es j))

abbrev pub Kept : List Cell → List Cell → Option Move → Type 0
Kept cs cs' None = cs' ≡ cs
Kept cs cs' (Some (Gives v)) = Unit {0}
Kept cs cs' (Some (Stops x)) = cs' ≡ cs
Kept cs cs' (Some (Goes j)) = cs' ≡ cs

abbrev pub LeadsTo : Program → Wait → Judgement → Type 0
LeadsTo k w (Of j) = Start k j.at × (j.base ≤ j.height) × (w.job.height ≤ j.height) × (j.height ≤ w.job.height + 4)
LeadsTo k w (Same p) = Unit {0}

abbrev pub Leads : Program → Wait → Option Move → Type 0
Leads k w None = Unit {0}
Leads k w (Some (Gives v)) = Unit {0}
Leads k w (Some (Stops x)) = Unit {0}
Leads k w (Some (Goes j)) = LeadsTo k w j

pub record Did (k : Program) (most : ℕ) (w : Wait) (es es' : List (Entry Value)) (cs cs' : List Cell) (r : Option Move) : Type 0 where
  pub does : move k es' cs' r ≡ after (setup k most) (scope es w.job) cs (expr k w.job.at) (vals w)
  pub kept : Kept cs cs' r
  pub agree : Agree es es' w.job.height
  pub leads : Leads k w r

-- what a rule did that leaves the entries and the cells
abbrev pub Still : Program → Wait → Option Move → Type 0
Still k w r = (most : ℕ) (es : List (Entry Value)) (cs : List Cell) → Did k most w es es cs cs r

-- a frame whose rule is to be applied
pub record Ready (k : Program) (w : Wait) : Type 0 where
  pub start : Start k w.job.at
  pub small : w.job.at < 512
  pub based : w.job.base ≤ w.job.height
  pub low : w.job.height ≤ 1024

-- a judgement is to be opened, with u opened so far
abbrev pub arrival : ℕ → Judgement → Stage
arrival u j = cond (nat_le 1000000 u) (Ended (stop (overrun (judged_for j)))) (Going j)

-- what a comparison found, as the rules say it; none where the two are unlike
abbrev pub verdict : Option Verdict → Option RuleVerdict
verdict None = None
verdict (Some (Is b)) = Some (answer b)
verdict (Some (Fields q)) = Some (fields (pairs_of q))

abbrev pub VerdictOk : ℕ → Option Verdict → Type 0
VerdictOk p None = Unit {0}
VerdictOk p (Some (Is b)) = Unit {0}
VerdictOk p (Some (Fields q)) = (q.at ≡ p) × Within q

-- the frame w of a judgement that is opened
pub record Opening (k : Program) (j : Job) (w : Wait) : Type 0 where
  pub job : w.job ≡ j
  pub next : w.next ≡ first_at j.at (head_at k j.at)
  pub left : w.left ≡ firsts (head_at k j.at)
  pub vals : vals w ≡ []

-- after one round: the newest frame goes on, with fewer open; or the run is as the rules' machine has it
abbrev pub Rounded : {S : Type 0} → (S → List Cell) → (S → ℕ) → Program → Run S → Run S → Bool → Type 0
Rounded cells limit k r r' true =
    (carry k (setup k (limit r.store)) r'.entries (held r'.stack) r'.units (cells r'.store) ≡ carry k (setup k (limit r.store)) r.entries (held r.stack) r.units (cells r.store))
    × Carries k (held r'.stack) × (r'.stack.count < r.stack.count)
Rounded cells limit k r r' false =
    (view cells k r' ≡ carry k (setup k (limit r.store)) r.entries (held r.stack) r.units (cells r.store)) × Sound k r'

-- what comes of giving a value
abbrev pub handed : Program → Setup → List (Entry Value) → List Frame → Value → ℕ → List Cell → Given → State
handed k S es l v u cs Carried = carry k S es l u cs
handed k S es l v u cs Done = ended (value v) u cs
handed k S es l v u cs (Halts p) = stuck p u cs

abbrev pub Handed : {X : Type 0} → (X → List Cell) → Program → Setup → Run X → Run X → Value → Bool → Type 0
Handed cells k S r r' v true =
    (carry k S r'.entries (held r'.stack) r'.units (cells r'.store) ≡ resume S (frames k r.entries (held r.stack)) v r.units (cells r.store))
    × Carries k (held r'.stack) × (r'.stack.count ≤ r.stack.count)
Handed cells k S r r' v false =
    (view cells k r' ≡ resume S (frames k r.entries (held r.stack)) v r.units (cells r.store)) × Sound k r'

-- nothing is to be opened
abbrev pub AtRest : Stage → Type 0
AtRest s = (j : Judgement) → s ≢ Going j
