-- What holds of the select of each SELECT INTO as one expression holds of its entries, and so of all source expressions.
use Rattle.std.proofs.Common.{◌≡◌, ap, sym, ◌∙◌, ℕ, ℤ, pos, Bool, true, false, ◌||◌, List, [], ◌∷◌, ◌++◌, map, length, Option, Some, None}
use Rattle.std.specs.List.{list_all}
use Rattle.away_values.specs.declared.types.Ty.{Ty}
use Rattle.away_values.specs.declared.operators.CmpOp.{CmpOp}
use Rattle.away_values.specs.declared.operators.CmpOp.TheVariants as cmp
use Rattle.away_trees.specs.declared.queries.Expr.{Expr}
use Rattle.away_trees.specs.declared.queries.Expr.TheVariants as expr
use Rattle.away_trees.specs.declared.queries.Expr.TheViews.{out-Select}
use Rattle.away_trees.specs.declared.queries.Select.{Select}
use Rattle.away_trees.specs.declared.queries.Query.{Query}
use Rattle.away_trees.specs.declared.statements.Stmt.{Stmt}
use Rattle.away_trees.specs.declared.statements.Stmt.TheBlock as b
use Rattle.away_trees.specs.StatementAlgebra.{stmt_of, stmts_of, branches_of, else_of}
use Rattle.away_trees.proofs.Equations as eq
use Rattle.sql_meaning.specs.Meaning.{meaning, has_aggregate}
use Rattle.sql_meaning.specs.Reads.{allows, reads}
use Rattle.sql_meaning.specs.Template.{below}
use Rattle.sql_meaning.specs.Trees.{col, one}
use Rattle.select_into.specs.Entries.{Target, check_entries, cast_at, pick_entry, pick_entries, into_entries, target_types, unmarked}
use Rattle.select_into.specs.Laws.{IsSource}
use Rattle.select_into.specs.Wrapped.{over_source, pick, pick_as, picked}
use Rattle.select_into.proofs.Casts.{picked_reads}
use Rattle.select_into.proofs.SourceReads.{no_row_as, more_rows_as, pick_read}
use Rattle.plsql_meaning.specs.Sight.{query_of}
use Rattle.block_forms.specs.Expressions.{Entries, Sources, sourcing, whole_select, in_turn, defaults, of_kind, of_else}
use Rattle.type_soundness.specs.Sorts.{Every}
use Rattle.type_soundness.proofs.Lists.{every_append, every_left, every_right}
use Rattle.function_facts.proofs.WholeSelects.{whole_reading}

-- ---- all source expressions

module _ (P : Expr → Type 0) (entries : Entries) (go : (strict : Bool) (ts : List Target) (q : Select) → P (query_of q) → Every P (entries strict ts q)) where
  two : (xs ys us vs : Sources) → (Every P xs → Every P us) → (Every P ys → Every P vs) → Every P (xs ++ ys) → Every P (us ++ vs)
  two xs ys us vs h k all = every_append P us vs (h (every_left P xs ys all)) (k (every_right P xs ys all))

  mutual
    pub stmt_entries : (x : Stmt) → Every P (stmt_of (sourcing whole_select) x) → Every P (stmt_of (sourcing entries) x)
    stmt_entries (b.Block' label decls n body closing) h =
        two (defaults decls) (in_turn (stmts_of (sourcing whole_select) body)) (defaults decls) (in_turn (stmts_of (sourcing entries) body)) (λ h. h)
        (λ h. stmts_entries body h) h
    stmt_entries (b.Assign name slot e) h = h
    stmt_entries (b.If' n arms o) h =
        two (in_turn (branches_of (sourcing whole_select) arms)) (of_else (else_of (sourcing whole_select) o)) (in_turn (branches_of (sourcing entries) arms))
        (of_else (else_of (sourcing entries) o)) (λ h. branches_entries arms h) (λ h. else_entries o h) h
    stmt_entries (b.Cases' n arms o) h =
        two (in_turn (branches_of (sourcing whole_select) arms)) (of_else (else_of (sourcing whole_select) o)) (in_turn (branches_of (sourcing entries) arms))
        (of_else (else_of (sourcing entries) o)) (λ h. branches_entries arms h) (λ h. else_entries o h) h
    stmt_entries (b.Loop' label k n body closing) h =
        two (of_kind k) (in_turn (stmts_of (sourcing whole_select) body)) (of_kind k) (in_turn (stmts_of (sourcing entries) body)) (λ h. h)
        (λ h. stmts_entries body h) h
    stmt_entries (b.Exit label when) h = h
    stmt_entries (b.Continue label when) h = h
    stmt_entries (b.Return e) h = h
    stmt_entries (b.Raise raised) h = h
    stmt_entries (b.Into strict targets query) h = go strict targets query h.0
    stmt_entries b.Nothing h = h

    stmts_entries : {m : _} (body : b.Row_of-Stmt m) → Every P (in_turn (stmts_of (sourcing whole_select) body)) → Every P (in_turn (stmts_of (sourcing entries) body))
    stmts_entries b.end_of-Stmt h = h
    stmts_entries (b.more_of-Stmt x rest) h =
        two (stmt_of (sourcing whole_select) x) (in_turn (stmts_of (sourcing whole_select) rest)) (stmt_of (sourcing entries) x)
        (in_turn (stmts_of (sourcing entries) rest)) (λ h. stmt_entries x h) (λ h. stmts_entries rest h) h

    branches_entries : {m : _} (arms : b.Row_of-Arm m) → Every P (in_turn (branches_of (sourcing whole_select) arms)) → Every P (in_turn (branches_of (sourcing entries) arms))
    branches_entries b.end_of-Arm h = h
    branches_entries (b.more_of-Arm test n body rest) h =
        two (test ∷ in_turn (stmts_of (sourcing whole_select) body)) (in_turn (branches_of (sourcing whole_select) rest))
        (test ∷ in_turn (stmts_of (sourcing entries) body)) (in_turn (branches_of (sourcing entries) rest))
        (λ h. (h.0, stmts_entries body h.1)) (λ h. branches_entries rest h) h

    else_entries : (o : b.Held-Stmt-If-1) → Every P (of_else (else_of (sourcing whole_select) o)) → Every P (of_else (else_of (sourcing entries) o))
    else_entries b.None' h = h
    else_entries (b.Some' n body) h = stmts_entries body h

-- ---- the entries of a SELECT INTO

scalar_single : (q : Query) → has_aggregate (expr.Scalar q) ≡ false
scalar_single q = ap (λ m. m.aggregates) (eq.of_scalar meaning q)

cast_single : (t : Ty) (e : Expr) → has_aggregate (expr.Cast e t) ≡ has_aggregate e
cast_single t e = ap (λ m. m.aggregates) (eq.of_cast meaning e t)

compared_single : (op : CmpOp) (q : Query) (n : ℤ) → has_aggregate (expr.Compare op (expr.Scalar q) (expr.Int n)) ≡ false
compared_single op q n = ap (λ m. m.aggregates) (eq.of_compare meaning op (expr.Scalar q) (expr.Int n)) ∙ ap (λ b. b || false) (scalar_single q)

-- an entry reads what the select reads, and no aggregate stands in it outside a select's list
pub record IsEntry (s : Select) (e : Expr) : Type 0 where
  pub reads_same : reads e ≡ reads (query_of s)
  pub single : has_aggregate e ≡ false

module _ (types : List Ty) (slots : ℕ → Bool) (tables : ℕ) (s : Select) (source : IsSource slots tables s) where
  typed_reads : (ts : List Ty) → reads (query_of (picked ts s)) ≡ reads (query_of s)
  typed_reads ts = whole_reading (picked ts s) 0 ∙ (ap (λ r. r 0 ++ []) (picked_reads ts s) ∙ sym (whole_reading s 0))

  picked_source : (ts : List Ty) → IsSource slots tables (picked ts s)
  picked_source ts = record { alone = ap (λ rs. list_all (allows slots 0 tables) rs) (typed_reads ts) ∙ source.alone }

  -- without its marks
  plain_checks : (strict : Bool) → Every (IsEntry s) (check_entries strict (unmarked s))
  plain_checks false = tt
  plain_checks true =
      let plain = unmarked s in
      let own = picked_source [] in (
        record { reads_same = (no_row_as slots tables plain own).same ∙ typed_reads []; single = compared_single cmp.Eq (one (over_source expr.CountRows None plain)) (pos 0) },
        (record { reads_same = (more_rows_as slots tables plain own).same ∙ typed_reads []; single = compared_single cmp.Gt (one (over_source expr.CountRows None plain)) (pos 1) }, tt),
      )

  pick_single : (c : Option Ty) (q : Select) (j : ℕ) → has_aggregate (pick_as c q j) ≡ false
  pick_single None q j = scalar_single (one (over_source (col 0 0 j) (Some (expr.Int (pos 1))) q))
  pick_single (Some t) q j = cast_single t (pick q j) ∙ scalar_single (one (over_source (col 0 0 j) (Some (expr.Int (pos 1))) q))

  picks_are : (ts : List Ty) (places : List ℕ) → Every (IsEntry s) (map (pick_entry ts s) places)
  picks_are ts [] = tt
  picks_are ts (j ∷ places) =
      let cast = cast_at ts (out-Select s).list j in (
        record {
          reads_same = (pick_read slots tables (picked ts s) (picked_source ts) cast j).same ∙ typed_reads ts;
          single = pick_single cast (picked ts s) j;
        },
        picks_are ts places,
      )

  pub entries_are : (strict : Bool) (targets : List Target) → Every (IsEntry s) (into_entries types strict targets s)
  entries_are strict targets =
      let ts = target_types types targets in
      every_append (IsEntry s) (check_entries strict (unmarked s)) (pick_entries ts s) (plain_checks strict) (picks_are ts (below (length ts)))
