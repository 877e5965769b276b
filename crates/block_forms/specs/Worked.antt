-- Worked examples: five functions with their goto forms, expressions of two, and runs of two.
use Rattle.std.specs.Prelude.{
  ℕ,
  ◌≡◌,
  List,
  [],
  ◌∷◌,
  length,
  slice_get,
  Some,
  None,
  codes,
  pos,
  true,
  false,
}
use Rattle.away_values.specs.declared.operators.ChainOp.TheVariants as chain
use Rattle.away_values.specs.declared.operators.IntOp.{IntOp}
use Rattle.away_values.specs.declared.operators.IntOp.TheVariants as int
use Rattle.away_values.specs.declared.operators.CmpOp.TheVariants as cmp
use Rattle.away_values.specs.declared.types.Ty.TheVariants as ty
use Rattle.away_trees.specs.declared.queries.Expr.{Expr}
use Rattle.away_trees.specs.declared.queries.Expr.TheVariants as expr
use Rattle.away_trees.specs.declared.statements.LoopKind.TheVariants as kind
use Rattle.away_trees.specs.declared.statements.Stmt.{Stmt}
use Rattle.away_trees.specs.declared.statements.Stmt.TheVariants as stmt
use Rattle.away_trees.specs.declared.statements.Function.{Function}
use Rattle.away_types.specs.declared.slots.Slot.{Slot}
use Rattle.away_values.specs.declared.values.Value.TheVariants as val
use Rattle.away_values.specs.declared.values.Answer.TheVariants as answer
use Rattle.plsql_meaning.specs.Outcomes.{no_return, null_not_allowed}
use Rattle.block_forms.specs.Expressions.{expressions}
use Rattle.block_forms.specs.Forms.{Goto}
use Rattle.block_forms.specs.Frames.{frame_of}
use Rattle.block_forms.specs.Lowered.{AllStand, all_parts, Lowered}
use Rattle.block_forms.specs.Machines.{ran}
use Rattle.block_forms.specs.Patterns.{term, sets, branches, jumps, returns, fails}
use Rattle.block_forms.specs.Runs.{goto_runs}
use Rattle.block_forms.specs.Slots.{own_slots}
use Rattle.block_forms.specs.WorkedInto.{
  key_of,
  only_key,
  only_key_slots,
  only_key_form,
  own_slot,
  narrowed,
  swapped,
  swapped_slots,
  swapped_form,
}
use Rattle.select_into.specs.Wrapped.{no_row, pick}

abbrev literal : ℕ → Expr
literal k = expr.Int (pos k)

-- an integer where a bigint is asked for
abbrev as_bigint : ℕ → Expr
as_bigint k = expr.Cast (literal k) ty.Bigint

abbrev arithmetic : IntOp → Expr → Expr → Expr
arithmetic op x y = expr.Chain x ((chain.Int op, y) ∷ [])

abbrev small_arithmetic : IntOp → Expr → Expr → Expr
small_arithmetic op x y = expr.Chain x ((chain.Small op, y) ∷ [])

abbrev pub bigint : Slot
bigint = record { ty = ty.Bigint; not_null = false }

abbrev pub integer : Slot
integer = record { ty = ty.Integer; not_null = false }

-- sign_of(a bigint) RETURNS bigint: BEGIN IF a > 0 THEN RETURN 1; END IF; RETURN 2; END;
abbrev pub sign_of : Function
sign_of = record {
  name = codes "sign_of";
  strict = false;
  params = (codes "a", ty.Bigint) ∷ [];
  result = ty.Bigint;
  body = stmt.Block None []
      (stmt.If (record {
        test = expr.Compare cmp.Gt (expr.Slot 0) (literal 0);
        body = stmt.Return (as_bigint 1) ∷ [];
      } ∷ []) None
      ∷ stmt.Return (as_bigint 2) ∷ []) None;
}

abbrev pub sign_of_form : Goto
sign_of_form = record {
  entry = 0;
  finish = 4;
  nodes = 1 ∷ 1 ∷ 1 ∷ 1 ∷ 2 ∷ 3 ∷ [];
  blocks =
      jumps false 1
      ∷ branches false (term 0 (0 ∷ [])) 2 3
      ∷ returns (term 1 [])
      ∷ returns (term 2 [])
      ∷ fails no_return
      ∷ [];
}

-- collatz(n bigint) RETURNS bigint: DECLARE steps bigint := 0; BEGIN WHILE n <> 1 LOOP IF n % 2 = 0
-- THEN n := n / 2; ELSE n := 3 * n + 1; END IF; steps := steps + 1; END LOOP; RETURN steps; END;
abbrev assign : List ℕ → ℕ → Expr → Stmt
assign name slot e = stmt.Assign name (Some slot) e

abbrev pub collatz : Function
collatz = record {
  name = codes "collatz";
  strict = false;
  params = (codes "n", ty.Bigint) ∷ [];
  result = ty.Bigint;
  body = stmt.Block None
      (record {
        name = codes "steps";
        ty = ty.Bigint;
        constant = false;
        not_null = false;
        default = Some (as_bigint 0);
      } ∷ [])
      (stmt.Loop None (kind.While (expr.Compare cmp.Ne (expr.Slot 0) (literal 1)))
      (stmt.If (record {
        test = expr.Compare cmp.Eq (arithmetic int.Rem (expr.Slot 0) (literal 2)) (literal 0);
        body = assign (codes "n") 0 (arithmetic int.Div (expr.Slot 0) (literal 2)) ∷ [];
      } ∷ [])
      (Some (assign (codes "n") 0 (arithmetic int.Add (arithmetic int.Mul (literal 3) (expr.Slot 0)) (literal 1)) ∷ []))
      ∷ assign (codes "steps") 1 (arithmetic int.Add (expr.Slot 1) (literal 1)) ∷ [])
      None
      ∷ stmt.Return (expr.Slot 1) ∷ [])
      None;
}

abbrev pub collatz_form : Goto
collatz_form = record {
  entry = 0;
  finish = 1;
  nodes = 2 ∷ 2 ∷ 2 ∷ 3 ∷ 4 ∷ 4 ∷ 5 ∷ 6 ∷ 6 ∷ 7 ∷ 8 ∷ [];
  blocks =
      jumps false 2
      ∷ fails no_return
      ∷ sets 1 (term 0 []) 3
      ∷ branches true (term 1 (0 ∷ [])) 4 8
      ∷ branches false (term 2 (0 ∷ [])) 5 6
      ∷ sets 0 (term 3 (0 ∷ [])) 7
      ∷ sets 0 (term 4 (0 ∷ [])) 7
      ∷ sets 1 (term 5 (1 ∷ [])) 3
      ∷ returns (term 6 (1 ∷ []))
      ∷ [];
}

-- count_up(a bigint) RETURNS bigint, STRICT: DECLARE t bigint NOT NULL := 0; BEGIN FOR i IN 1 .. a
-- LOOP EXIT WHEN t > 9; t := t + i; END LOOP; RETURN t; END;
abbrev pub count_up : Function
count_up = record {
  name = codes "count_up";
  strict = true;
  params = (codes "a", ty.Bigint) ∷ [];
  result = ty.Bigint;
  body = stmt.Block None
      (record {
        name = codes "t";
        ty = ty.Bigint;
        constant = false;
        not_null = true;
        default = Some (as_bigint 0);
      } ∷ [])
      (stmt.Loop None
      (kind.Count (codes "i") false (literal 1) (expr.Cast (expr.Slot 0) ty.Integer) None)
      (stmt.Exit None (Some (expr.Compare cmp.Gt (expr.Slot 1) (literal 9)))
      ∷ assign (codes "t") 1 (arithmetic int.Add (expr.Slot 1) (expr.Slot 2)) ∷ [])
      None
      ∷ stmt.Return (expr.Slot 1) ∷ [])
      None;
}

abbrev pub count_up_slots : List Slot
count_up_slots =
    bigint
    ∷ record { ty = ty.Bigint; not_null = true }
    ∷ integer
    ∷ integer
    ∷ integer
    ∷ integer
    ∷ []

-- S is 6: 0, 1, CAST(a AS integer), t > 9, t + i, t
abbrev pub count_up_form : Goto
count_up_form = record {
  entry = 0;
  finish = 1;
  nodes = 2 ∷ 4 ∷ 4 ∷ 7 ∷ 14 ∷ 15 ∷ 19 ∷ [];
  blocks =
      jumps false 2
      ∷ fails no_return
      ∷ branches false (term 9 (0 ∷ [])) 3 4
      ∷ returns (term 6 [])
      ∷ sets 1 (term 0 []) 5
      ∷ branches false (term 9 (1 ∷ [])) 6 7
      ∷ fails null_not_allowed
      ∷ sets 3 (term 1 []) 8
      ∷ branches false (term 22 (3 ∷ [])) 6 9
      ∷ sets 4 (term 2 (0 ∷ [])) 10
      ∷ branches false (term 22 (4 ∷ [])) 6 11
      ∷ sets 5 (term 19 []) 12
      ∷ branches true (term 13 (3 ∷ 4 ∷ [])) 13 19
      ∷ sets 2 (term 20 (3 ∷ [])) 14
      ∷ branches false (term 3 (1 ∷ [])) 19 15
      ∷ sets 1 (term 4 (1 ∷ 2 ∷ [])) 16
      ∷ branches false (term 9 (1 ∷ [])) 6 17
      ∷ branches false (term 15 (5 ∷ 3 ∷ [])) 19 18
      ∷ sets 3 (term 17 (3 ∷ 5 ∷ [])) 12
      ∷ returns (term 5 (1 ∷ []))
      ∷ [];
}

-- in_turns leave: BEGIN <<a>> LOOP LOOP CONTINUE; leave; END LOOP; END LOOP; END;
abbrev in_turns : Stmt → Function
in_turns leave = record {
  name = codes "in_turns";
  strict = false;
  params = [];
  result = ty.Bigint;
  body = stmt.Block None []
      (stmt.Loop (Some (codes "a")) kind.Plain (stmt.Loop None kind.Plain (stmt.Continue None None ∷ leave ∷ []) None ∷ []) None ∷ [])
      None;
}

-- the block of what nothing reaches is the entry
abbrev pub shared_entry : Goto
shared_entry = record {
  entry = 0;
  finish = 1;
  nodes = 2 ∷ 2 ∷ 3 ∷ 4 ∷ 0 ∷ [];
  blocks =
      jumps false 2
      ∷ fails no_return
      ∷ jumps true 3
      ∷ jumps true 4
      ∷ jumps false 3
      ∷ [];
}

abbrev pub with_continue : Function
with_continue = in_turns (stmt.Continue (Some (codes "a")) None)

abbrev pub with_exit : Function
with_exit = in_turns (stmt.Exit None None)

-- the forms are those of their functions; a CONTINUE may have the entry, and no EXIT
pub record WorkedForms : Type 0 where
  pub sign_of_is : Lowered sign_of (bigint ∷ []) sign_of_form
  pub collatz_stands : AllStand collatz_form.blocks (all_parts collatz (bigint ∷ bigint ∷ []) collatz_form)
  pub count_up_stands : AllStand count_up_form.blocks (all_parts count_up count_up_slots count_up_form)
  pub continue_at_entry_stands : AllStand shared_entry.blocks (all_parts with_continue [] shared_entry)
  pub exit_at_entry : Lowered with_exit [] shared_entry → ⊥
  pub only_key_stands :
      AllStand only_key_form.blocks (all_parts only_key only_key_slots only_key_form)
  pub swapped_stands : AllStand swapped_form.blocks (all_parts swapped swapped_slots swapped_form)
  pub slots_are : own_slots only_key ≡ only_key_slots

-- The expressions of collatz are those of its text, in order: 0, n <> 1, n % 2 = 0, n / 2, 3 * n +
-- 1, steps + 1, steps; then seventeen fixed ones, of which those of FOR are over integers: 2147483647
-- - a < b, -2147483648 + a > b, a + b, a - b and 1. A SELECT INTO has its tests and its picks, which
-- have a cast where the target has the other type of numbers.
pub record WorkedTable : Type 0 where
  pub first : slice_get (expressions collatz) 0 ≡ Some (as_bigint 0)
  pub second : slice_get (expressions collatz) 1 ≡ Some (expr.Compare cmp.Ne (expr.Slot 0) (literal 1))
  pub last : slice_get (expressions collatz) 6 ≡ Some (expr.Slot 1)
  pub many : length (expressions collatz) ≡ 24
  pub past_greatest : slice_get (expressions collatz) 16
      ≡ Some (expr.Compare cmp.Lt
      (small_arithmetic int.Sub (literal 2147483647) (expr.Slot 0)) (expr.Slot 1))
  pub past_least : slice_get (expressions collatz) 17
      ≡ Some (expr.Compare cmp.Gt
      (arithmetic int.Add (expr.Neg (literal 2147483648)) (expr.Slot 0)) (expr.Slot 1))
  pub next_up : slice_get (expressions collatz) 18
      ≡ Some (small_arithmetic int.Add (expr.Slot 0) (expr.Slot 1))
  pub next_down : slice_get (expressions collatz) 19
      ≡ Some (small_arithmetic int.Sub (expr.Slot 0) (expr.Slot 1))
  pub one : slice_get (expressions collatz) 20 ≡ Some (literal 1)
  pub strict : slice_get (expressions only_key) 1 ≡ Some (no_row key_of)
  pub picked : slice_get (expressions only_key) 3 ≡ Some (pick key_of 0)
  pub converted : slice_get (expressions narrowed) 0
      ≡ Some (expr.Cast (pick own_slot 0) ty.Integer)

-- From 2 collatz takes one step, with two visits of the head: eight visits tell so, and seven
-- don't.
pub record WorkedRuns : Type 0 where
  pub ends : goto_runs (frame_of collatz 2 collatz_form []) collatz_form (val.Int (pos 2) ∷ []) 8 ≡ ran (answer.Value (val.Int (pos 1))) 2
  pub goes_on : goto_runs (frame_of collatz 2 collatz_form []) collatz_form (val.Int (pos 2) ∷ []) 7 ≡ ran answer.More 2
  pub swaps : goto_runs (frame_of swapped 4 swapped_form []) swapped_form
      (val.Int (pos 1) ∷ val.Int (pos 2) ∷ []) 6
      ≡ ran (answer.Value (val.Int (pos 2))) 0
