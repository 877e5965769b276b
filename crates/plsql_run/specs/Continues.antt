-- What the rest of a run answers, by the stack.
use Rattle.std.specs.Prelude.{
  ◌≡◌,
  ◌+◌,
  ◌*◌,
  sum_by,
  ℕ,
  List,
  [],
  ◌∷◌,
  map,
  Option,
  Some,
  None,
  option_map,
  Result,
  Ok,
  Err,
}
use Rattle.away_values.specs.declared.values.Value.{Value}
use Rattle.away_values.specs.declared.errors.OpError.{OpError}
use Rattle.away_values.specs.declared.errors.OpError.TheVariants as error
use Rattle.away_values.specs.declared.values.Answer.{Answer}
use Rattle.away_values.specs.declared.values.Class.{Class}
use Rattle.away_trees.specs.declared.statements.Arm.{Arm}
use Rattle.away_trees.specs.declared.statements.Stmt.{Stmt}
use Rattle.away_trees.specs.StatementAlgebra.{branch_of}
use Rattle.away_trees.specs.Count.{nodes_of}
use Rattle.plsql_meaning.specs.Outcomes.{
  Env,
  Outcome,
  normal,
  exits,
  continues,
  returns,
  faults,
  Done,
  done,
  Step,
  and_then,
  close,
}
use Rattle.plsql_meaning.specs.Loops.{
  Turning,
  taken,
  Verdict,
  again,
  leave,
  finished,
  turning,
  always,
  while,
  counts,
}
use Rattle.plsql_meaning.specs.Statements.{Setting, in_arms, in_else, in_row, meanings, running}
use Rattle.plsql_meaning.specs.Functions.{answer_of}
use Rattle.plsql_run.specs.Places.{ListPosition}
use Rattle.plsql_run.specs.declared.frames.Counting.{Counting}
use Rattle.plsql_run.specs.declared.frames.Frame.{Frame}
use Rattle.plsql_run.specs.declared.frames.Frame.TheVariants as frame
use Rattle.plsql_run.specs.declared.frames.Way.{Way}
use Rattle.plsql_run.specs.declared.frames.Way.TheVariants as way
use Rattle.plsql_run.specs.declared.frames.Signal.{Signal}
use Rattle.plsql_run.specs.declared.frames.Signal.TheVariants as signal

abbrev pub outcome : Way → Outcome
outcome way.Normal = normal
outcome (way.Exits l) = exits l.now
outcome (way.Continues l) = continues l.now

-- the run ends with a fault
abbrev pub Fails : (ℕ → Done) → OpError → Type 0
Fails whole (error.Class c) = (n : ℕ) → (whole n).outcome ≡ faults c
Fails whole error.NoMemory = Unit {0}

-- the turns of a FOR
abbrev pub count_of : Counting → Turning Value
count_of c = counts c.reverse c.last c.step c.var

-- what is made of an ELSE that isn't there
abbrev pub lacking : Option Class → Outcome
lacking None = normal
lacking (Some c) = faults c

module _ (set : Setting) where
  -- the statements of a place
  abbrev pub body_of : ListPosition → Step
  body_of p = in_row (meanings set p.list) p.at

  -- a FOR from a counter on
  abbrev pub count_run : Counting → Value → Step
  count_run c counter = turning (count_of c) c.label.now (body_of c.body) counter

  -- what a frame makes of how the statement above it ended
  abbrev pub resumed : Frame → Done → Done
  resumed (frame.Rest p) d = and_then d (body_of p)
  resumed (frame.Block l) d = close l.now d
  resumed (frame.Plain l p) d = finished l.now (Ok (Some tt)) (turning always l.now (body_of p)) d
  resumed (frame.While l e p) d = finished l.now (Ok (Some tt)) (turning (while (set.value e.now)) l.now (body_of p)) d
  resumed (frame.Count counter c) d = finished c.label.now ((count_of c).next counter) (count_run c) d

  -- what all frames make of it, the last of which is on top
  abbrev pub unwound : List Frame → Done → Done
  unwound [] d = d
  unwound (f ∷ fs) d = resumed f (unwound fs d)

  -- A part of a run, of which `whole n` is how the run ends with n turns left: it went on with this
  -- stack and these variables, or ended the run.
  abbrev pub Goes : (ℕ → Done) → List Frame → Env → Result Signal OpError → Type 0
  Goes whole stack env (Ok (signal.Ends w)) = (n : ℕ) → unwound stack (done (outcome w) env n) ≡ whole n
  Goes whole stack env (Ok (signal.Returns v)) = (n : ℕ) → (whole n).outcome ≡ returns v
  Goes whole stack env (Ok signal.Turn) = (n : ℕ) → unwound stack (taken env n (done normal)) ≡ whole n
  Goes whole stack env (Err e) = Fails whole e

  -- The same of a part that runs a step behind which this stack goes on.
  abbrev pub GoesOn : List Frame → (ℕ → Done) → List Frame → Env → Result Signal OpError → Type 0
  GoesOn behind step stack env r = Goes (λ n. unwound behind (step n)) stack env r

  -- what stands behind the arms: the statements of ELSE, or the end, or a fault
  abbrev pub else_run : Option (List Stmt) → Option Class → ℕ → Step
  else_run other missing = in_else set (option_map (λ body. meanings set body) other) (lacking missing)

  abbrev pub arms_run : List Arm → Option (List Stmt) → Option Class → ℕ → Step
  arms_run arms other missing = in_arms set (map (λ x. branch_of (running set) x) arms) (else_run other missing)

-- How much is left to do between two turns.
abbrev pub cost : Frame → ℕ
cost (frame.Rest p) = 1 + 3 * sum_by nodes_of p.list
cost (frame.Block l) = 1
cost (frame.Plain l p) = 1
cost (frame.While l e p) = 1
cost (frame.Count counter c) = 1

abbrev pub load : List Frame → ℕ
load fs = sum_by cost fs

abbrev pub IfEnds : Result Signal OpError → Type 0 → Type 0
IfEnds (Ok (signal.Ends w)) P = P
IfEnds (Ok (signal.Returns v)) P = Unit {0}
IfEnds (Ok signal.Turn) P = Unit {0}
IfEnds (Err e) P = Unit {0}

-- how a loop's verdict is told: nothing where it goes on
abbrev pub told : Option Way → Verdict
told None = again
told (Some w) = leave (outcome w)

-- Where a whole run stands whose end is `total`, with so many turns left.
abbrev pub Stands : Setting → Done → List Frame → Env → ℕ → Signal → Type 0
Stands set total stack env n (signal.Ends w) = (stack ≡ []) × (unwound set stack (done (outcome w) env n) ≡ total)
Stands set total stack env n (signal.Returns v) = total.outcome ≡ returns v
Stands set total stack env n signal.Turn = unwound set stack (taken env n (done normal)) ≡ total

-- what a run answers whose end is `total`
abbrev pub Answered : Done → Result Answer OpError → Type 0
Answered total (Ok a) = a ≡ answer_of total.outcome
Answered total (Err e) = Fails (λ n. total) e

-- A step that ends normally or with a fault.
abbrev pub Does : Step → Env → Env → Result (Unit {0}) OpError → Type 0
Does step old new (Ok _) = (n : ℕ) → step old n ≡ done normal new n
Does step old new (Err e) = Fails (step old) e

-- A statement that puts nothing on the stack.
abbrev pub Ended : Step → Env → Env → Result Signal OpError → Type 0
Ended step old new (Ok (signal.Ends w)) = (n : ℕ) → step old n ≡ done (outcome w) new n
Ended step old new (Ok (signal.Returns v)) = (n : ℕ) → (step old n).outcome ≡ returns v
Ended step old new (Ok signal.Turn) = ⊥
Ended step old new (Err e) = Fails (step old) e

-- A value that FOR needs before it goes on.
abbrev pub Passes : ((Value → Step) → Step) → Env → Result Value OpError → Type 0
Passes with_it env (Ok v) = (go : Value → Step) (n : ℕ) → with_it go env n ≡ go v env n
Passes with_it env (Err e) = (go : Value → Step) → Fails (with_it go env) e
