-- Worked examples of SELECT INTO: two functions with their goto forms.
use Rattle.std.specs.Prelude.{List, [], ◌∷◌, Some, None, codes, pos, true, false}
use Rattle.away_values.specs.declared.operators.CmpOp.TheVariants as cmp
use Rattle.away_values.specs.declared.types.Ty.TheVariants as ty
use Rattle.away_trees.specs.declared.queries.Expr.TheVariants as expr
use Rattle.away_trees.specs.declared.queries.Expr.TheViews.{roll-Item, roll-Select}
use Rattle.away_trees.specs.declared.queries.Select.{Select}
use Rattle.away_trees.specs.declared.statements.Stmt.TheVariants as stmt
use Rattle.away_trees.specs.declared.statements.Function.{Function}
use Rattle.away_types.specs.declared.slots.Slot.{Slot}
use Rattle.plsql_meaning.specs.Outcomes.{no_return, null_not_allowed, no_data_found, too_many_rows}
use Rattle.sql_meaning.specs.Trees.{col, table_by, select}
use Rattle.block_forms.specs.Forms.{Goto}
use Rattle.block_forms.specs.Patterns.{term, sets, branches, jumps, returns, fails}

abbrev bigint : Slot
bigint = record { ty = ty.Bigint; not_null = false }

-- SELECT t.k FROM t WHERE t.k = q
abbrev pub key_of : Select
key_of =
    select (col 0 0 0 ∷ []) (table_by (48 ∷ []) ∷ [])
    (Some (expr.Compare cmp.Eq (col 0 0 0) (expr.Slot 0)))

-- only_key(q bigint) RETURNS bigint: DECLARE r bigint NOT NULL := 0; BEGIN SELECT t.k INTO STRICT r
-- FROM t WHERE t.k = q; RETURN r; END;
abbrev pub only_key : Function
only_key = record {
  name = codes "only_key";
  strict = false;
  params = (codes "q", ty.Bigint) ∷ [];
  result = ty.Bigint;
  body = stmt.Block None
      (record {
        name = codes "r";
        ty = ty.Bigint;
        constant = false;
        not_null = true;
        default = Some (expr.Cast (expr.Int (pos 0)) ty.Bigint);
      } ∷ [])
      (stmt.Into true ((codes "r", Some 1) ∷ []) key_of ∷ stmt.Return (expr.Slot 1) ∷ [])
      None;
}

abbrev pub only_key_slots : List Slot
only_key_slots = bigint ∷ record { ty = ty.Bigint; not_null = true } ∷ bigint ∷ []

-- S is 5: 0, whether there is no row, whether there are two, the pick, r
abbrev pub only_key_form : Goto
only_key_form = record {
  entry = 0;
  finish = 1;
  nodes = 2 ∷ 2 ∷ 2 ∷ 5 ∷ 9 ∷ 13 ∷ [];
  blocks =
      jumps false 2
      ∷ fails no_return
      ∷ sets 1 (term 0 []) 3
      ∷ branches false (term 8 (1 ∷ [])) 4 5
      ∷ fails null_not_allowed
      ∷ branches false (term 1 (0 ∷ [])) 6 7
      ∷ fails no_data_found
      ∷ branches false (term 2 (0 ∷ [])) 8 9
      ∷ fails too_many_rows
      ∷ sets 2 (term 3 (0 ∷ [])) 10
      ∷ sets 1 (term 19 (2 ∷ [])) 11
      ∷ branches false (term 8 (1 ∷ [])) 12 13
      ∷ fails null_not_allowed
      ∷ returns (term 4 (1 ∷ []))
      ∷ [];
}

-- swapped(a bigint, b bigint) RETURNS bigint: BEGIN SELECT b, a INTO a, b; RETURN a; END;
abbrev pub swapped : Function
swapped = record {
  name = codes "swapped";
  strict = false;
  params = (codes "a", ty.Bigint) ∷ (codes "b", ty.Bigint) ∷ [];
  result = ty.Bigint;
  body = stmt.Block None []
      (stmt.Into false ((codes "a", Some 0) ∷ (codes "b", Some 1) ∷ [])
      (select (expr.Slot 1 ∷ expr.Slot 0 ∷ []) [] None)
      ∷ stmt.Return (expr.Slot 0) ∷ [])
      None;
}

abbrev pub swapped_slots : List Slot
swapped_slots = bigint ∷ bigint ∷ bigint ∷ bigint ∷ []

-- S is 3: the two picks, a
abbrev pub swapped_form : Goto
swapped_form = record {
  entry = 0;
  finish = 1;
  nodes = 2 ∷ 2 ∷ 2 ∷ 2 ∷ 2 ∷ 3 ∷ 6 ∷ [];
  blocks =
      jumps false 2
      ∷ fails no_return
      ∷ sets 2 (term 0 (1 ∷ 0 ∷ [])) 3
      ∷ sets 3 (term 1 (1 ∷ 0 ∷ [])) 4
      ∷ sets 0 (term 17 (2 ∷ [])) 5
      ∷ sets 1 (term 17 (3 ∷ [])) 6
      ∷ returns (term 2 (0 ∷ []))
      ∷ [];
}

-- SELECT a, where a is the first slot
abbrev pub own_slot : Select
own_slot = select (expr.Slot 0 ∷ []) [] None

-- narrowed(a bigint) RETURNS integer: DECLARE x integer; BEGIN SELECT a INTO x; RETURN x; END;
abbrev pub narrowed : Function
narrowed = record {
  name = codes "narrowed";
  strict = false;
  params = (codes "a", ty.Bigint) ∷ [];
  result = ty.Integer;
  body = stmt.Block None
      (record {
        name = codes "x";
        ty = ty.Integer;
        constant = false;
        not_null = false;
        default = None;
      } ∷ [])
      (stmt.Into false ((codes "x", Some 1) ∷ [])
      (roll-Select (record {
        list = roll-Item (record { expr = expr.Slot 0; alias = Some (codes "x") }) ∷ [];
        from = [];
        filter = None;
        order = [];
        limit = None;
      }))
      ∷ stmt.Return (expr.Slot 1) ∷ [])
      None;
}
