-- Loops: what is done before a turn and after it, and the turns themselves.
use Rattle.std.specs.Prelude.{
  ℕ,
  zero,
  suc,
  Bool,
  true,
  false,
  if◌then◌else◌,
  pos,
  negsuc,
  ◌-◌,
  ◌^◌,
  Option,
  Some,
  None,
  Ok,
  Err,
  slice_set,
}
use Rattle.away_values.specs.declared.values.Value.{Value}
use Rattle.away_values.specs.declared.values.Value.TheVariants as val
use Rattle.away_values.specs.declared.operators.CmpOp.TheVariants as cmp
use Rattle.away_values.specs.declared.operators.IntOp.{IntOp}
use Rattle.away_values.specs.declared.operators.IntOp.TheVariants as int
use Rattle.away_values.specs.Operators.{int_op, compare, is_true, small}
use Rattle.away_values.specs.Results.{Or, and_then, mapped}
use Rattle.plsql_meaning.specs.Outcomes.{
  Env,
  Label,
  Outcome,
  normal,
  exits,
  continues,
  returns,
  faults,
  more,
  Done,
  done,
  Step,
  names_loop,
}

-- A loop over hidden states: `begin` gives a fault, the end of the loop, or the variables with
-- which a turn begins; `next` gives a fault, the end, or the state of the next turn.
pub record Turning (S : Type 0) : Type 0 where
  pub begin : S → Env → Or (Option Env)
  pub next : S → Or (Option S)

-- a turn is taken where one is left
abbrev pub taken : Env → ℕ → Step → Done
taken env zero body = done more env zero
taken env (suc n) body = body env n

abbrev pub started : Or (Option Env) → Env → ℕ → Step → Done
started (Err c) env n body = done (faults c) env n
started (Ok None) env n body = done normal env n
started (Ok (Some begun)) env n body = taken begun n body

-- whether a loop goes on after its body
pub data Verdict : Type 0 where
  again : Verdict
  leave : Outcome → Verdict

abbrev pub verdict : Label → Outcome → Verdict
verdict own normal = again
verdict own (exits l) = if names_loop l own then leave normal else leave (exits l)
verdict own (continues l) = if names_loop l own then again else leave (continues l)
verdict own (returns v) = leave (returns v)
verdict own (faults c) = leave (faults c)
verdict own more = leave more

module _ {S : Type 0} where
  abbrev pub moved : Or (Option S) → (S → Step) → Step
  moved (Err c) go env n = done (faults c) env n
  moved (Ok None) go env n = done normal env n
  moved (Ok (Some s)) go env n = go s env n

  abbrev pub ended : Verdict → Or (Option S) → (S → Step) → Step
  ended (leave o) next go env n = done o env n
  ended again next go env n = moved next go env n

  abbrev pub finished : Label → Or (Option S) → (S → Step) → Done → Done
  finished own next go d = ended (verdict own d.outcome) next go d.env d.left

  -- The fuel is greater than the turns that are left, so it never runs out before they do.
  abbrev pub turns : Turning S → Label → Step → ℕ → S → Step
  turns t own body zero s env n = done more env n
  turns t own body (suc fuel) s env n = started (t.begin s env) env n (λ begun m. finished own (t.next s) (turns t own body fuel) (body begun m))

  -- all turns of a loop from a state on
  abbrev pub turning : Turning S → Label → Step → S → Step
  turning t own body s env n = turns t own body (suc n) s env n

abbrev pub going : Bool → Env → Option Env
going true env = Some env
going false env = None

-- LOOP
abbrev pub always : Turning (Unit {0})
always = record { begin = λ s env. Ok (Some env); next = λ s. Ok (Some s) }

-- WHILE
abbrev pub while : (Env → Or Value) → Turning (Unit {0})
while test = record { begin = λ s env. mapped (λ v. going (is_true v) env) (test env); next = λ s. Ok (Some s) }

-- ---- FOR (PostgreSQL manual, PL/pgSQL: FOR (Integer Variant)): its counter, its last value and
-- its step are integers apart from the variable, under the operators of SQL

abbrev pub greatest : Value
greatest = val.Int (pos (2 ^ 31 - 1))

abbrev pub least : Value
least = val.Int (negsuc (2 ^ 31 - 1))

-- an operation on integers alone
abbrev pub small_op : IntOp → Value → Value → Or Value
small_op op x y = and_then (int_op op x y) small

-- whether the counter hasn't passed the last value
abbrev pub reaches : Bool → Value → Value → Value
reaches false c last = compare cmp.Le c last
reaches true c last = compare cmp.Ge c last

-- Whether the next counter would leave the range of integer. The least integer is written as the
-- minus of a literal that is a bigint, so the sum over it is bigint's.
abbrev pub leaves : Bool → Value → Value → Or Value
leaves false by c = mapped (λ d. compare cmp.Lt d c) (small_op int.Sub greatest by)
leaves true by c = mapped (λ d. compare cmp.Gt d c) (int_op int.Add least by)

abbrev pub counted : Bool → Value → Value → Or Value
counted false c by = small_op int.Add c by
counted true c by = small_op int.Sub c by

abbrev pub stepping : Bool → Or Value → Or (Option Value)
stepping true next = Ok None
stepping false next = mapped Some next

-- the counter of the next turn, or the end where it would leave its range
abbrev pub advanced : Or Value → Or Value → Or (Option Value)
advanced (Err c) next = Err c
advanced (Ok v) next = stepping (is_true v) next

abbrev pub counts : Bool → Value → Value → ℕ → Turning Value
counts reverse last by var = record {
  begin = λ c env. Ok (going (is_true (reaches reverse c last)) (slice_set env var c));
  next = λ c. advanced (leaves reverse by c) (counted reverse c by);
}
