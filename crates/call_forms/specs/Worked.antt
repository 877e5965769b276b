-- Worked examples: the forms of a function with one test, with every block a label and with all
-- blocks merged, and of a function with a loop. And their runs and queries.
use Rattle.std.specs.Prelude.{ℕ, ◌≡◌, List, [], ◌∷◌, Some, None, codes, pos}
use Rattle.away_trees.specs.declared.queries.Expr.{Expr}
use Rattle.away_trees.specs.declared.queries.Expr.TheVariants as expr
use Rattle.away_trees.specs.declared.queries.Query.{Query}
use Rattle.away_values.specs.declared.operators.ChainOp.TheVariants as chain
use Rattle.away_values.specs.declared.operators.IntOp.TheVariants as int
use Rattle.away_values.specs.declared.types.Ty.TheVariants as ty
use Rattle.away_values.specs.declared.values.Answer.{Answer}
use Rattle.away_values.specs.declared.values.Answer.TheVariants as answer
use Rattle.away_values.specs.declared.values.Value.{Value}
use Rattle.away_values.specs.declared.values.Value.TheVariants as val
use Rattle.block_forms.specs.declared.forms.End.{End}
use Rattle.block_forms.specs.declared.forms.End.TheVariants as jump
use Rattle.block_forms.specs.declared.forms.Term.{Term}
use Rattle.block_forms.specs.declared.forms.SsaBlock.{SsaBlock}
use Rattle.block_forms.specs.declared.forms.Ssa.{Ssa}
use Rattle.block_forms.specs.Forms.{Pairs}
use Rattle.sql_meaning.specs.Placed.{placed_at}
use Rattle.sql_meaning.specs.Template as returns
use Rattle.sql_meaning.specs.Working.{sql}
use Rattle.block_forms.specs.Expressions.{expressions}
use Rattle.block_forms.specs.Frames.{frame_of}
use Rattle.block_forms.specs.Machines.{ran}
use Rattle.block_forms.specs.Patterns.{term}
use Rattle.block_forms.specs.Runs.{Frame, ssa_runs}
use Rattle.block_forms.specs.Worked.{bigint, sign_of, sign_of_form, collatz, collatz_form}
use Rattle.plsql_meaning.specs.Outcomes.{no_return}
use Rattle.call_forms.specs.Called.{Called}
use Rattle.call_forms.specs.Columned.{Columned}
use Rattle.call_forms.specs.Forms.{Call, CallEnd, Go, Pick, Return, Fail, AnfBlock, Anf, Tail}
use Rattle.call_forms.specs.Merged.{Merged}
use Rattle.call_forms.specs.NormalRuns.{anf_runs}
use Rattle.call_forms.specs.TailRuns.{tail_runs}
use Rattle.call_forms.specs.Template.{query_with, query_of}
use Rattle.call_forms.specs.Templated.{types_of, Templated}
use Rattle.call_forms.specs.Tight.{Tight}
use Rattle.call_forms.specs.Useful.{UsefulParameters}

-- ---- sign_of(a bigint) RETURNS bigint: BEGIN IF a > 0 THEN RETURN 1; END IF; RETURN 2; END;

abbrev ssa_block : Pairs → End → SsaBlock
ssa_block map end = record { map = map; phis = []; set = None; end = end }

abbrev pub sign_of_ssa : Ssa
sign_of_ssa = record {
  names = 0 ∷ [];
  blocks =
      ssa_block ((0, 0) ∷ []) (jump.Jump 1)
      ∷ ssa_block ((0, 0) ∷ []) (jump.Branch (term 0 (0 ∷ [])) 2 3)
      ∷ ssa_block [] (jump.Return (term 1 []))
      ∷ ssa_block [] (jump.Return (term 2 []))
      ∷ ssa_block [] (jump.Fail no_return)
      ∷ [];
}

abbrev call : ℕ → List ℕ → Call
call target args = record { target = target; args = args }

abbrev anf_block : List ℕ → CallEnd → AnfBlock
anf_block params end = record { params = params; set = None; end = end }

abbrev pub sign_of_anf : Anf
sign_of_anf = record {
  blocks =
      anf_block (0 ∷ []) (Go (call 1 (0 ∷ [])))
      ∷ anf_block (0 ∷ []) (Pick (term 0 (0 ∷ [])) (call 2 []) (call 3 []))
      ∷ anf_block [] (Return (term 1 []))
      ∷ anf_block [] (Return (term 2 []))
      ∷ anf_block [] (Fail no_return)
      ∷ [];
}

-- every block that a call reaches is a label
abbrev pub sign_of_labels : Tail
sign_of_labels = record { labels = 3 ∷ 2 ∷ 1 ∷ 0 ∷ []; columns = ty.Bigint ∷ []; places = [] ∷ [] ∷ (0 ∷ []) ∷ (0 ∷ []) ∷ [] }

-- all blocks are merged into the entry
abbrev pub sign_of_merged : Tail
sign_of_merged = record { labels = 0 ∷ []; columns = ty.Bigint ∷ []; places = (0 ∷ []) ∷ [] }

-- ---- collatz: n is name 0, and 2 in the loop; steps is 1, 3 in the loop, and 7 after a turn

abbrev sets_block : List ℕ → ℕ → Term → Call → AnfBlock
sets_block params n t c = record { params = params; set = Some (n, t); end = Go c }

abbrev pub collatz_anf : Anf
collatz_anf = record {
  blocks =
      anf_block (0 ∷ []) (Go (call 2 (0 ∷ [])))
      ∷ anf_block [] (Fail no_return)
      ∷ sets_block (0 ∷ []) 1 (term 0 []) (call 3 (0 ∷ 1 ∷ []))
      ∷ anf_block (2 ∷ 3 ∷ []) (Pick (term 1 (2 ∷ [])) (call 4 (2 ∷ 3 ∷ [])) (call 8 (3 ∷ [])))
      ∷ anf_block (2 ∷ 3 ∷ []) (Pick (term 2 (2 ∷ [])) (call 5 (2 ∷ 3 ∷ [])) (call 6 (2 ∷ 3 ∷ [])))
      ∷ sets_block (2 ∷ 3 ∷ []) 4 (term 3 (2 ∷ [])) (call 7 (4 ∷ 3 ∷ []))
      ∷ sets_block (2 ∷ 3 ∷ []) 5 (term 4 (2 ∷ [])) (call 7 (5 ∷ 3 ∷ []))
      ∷ sets_block (6 ∷ 3 ∷ []) 7 (term 5 (3 ∷ [])) (call 3 (6 ∷ 7 ∷ []))
      ∷ anf_block (3 ∷ []) (Return (term 6 (3 ∷ [])))
      ∷ [];
}

-- three labels: the entry, the head, and the block to which two calls go
abbrev pub collatz_tail : Tail
collatz_tail = record {
  labels = 0 ∷ 3 ∷ 7 ∷ [];
  columns = ty.Bigint ∷ ty.Bigint ∷ [];
  places = (0 ∷ []) ∷ (0 ∷ 1 ∷ []) ∷ (0 ∷ 1 ∷ []) ∷ [];
}

-- ---- what holds of them

-- the relations hold of both tail forms of sign_of
pub record WorkedCalls : Type 0 where
  pub called : Called sign_of_form sign_of_ssa sign_of_anf
  pub useful : UsefulParameters sign_of_anf
  pub labels : Merged sign_of_form sign_of_anf sign_of_labels
  pub columns : Columned (bigint ∷ []) sign_of_ssa sign_of_anf sign_of_labels
  pub merged : Merged sign_of_form sign_of_anf sign_of_merged
  pub merged_columns : Columned (bigint ∷ []) sign_of_ssa sign_of_anf sign_of_merged
  pub tight : Tight (bigint ∷ []) sign_of_form sign_of_ssa sign_of_anf sign_of_merged

abbrev sign_frame : Frame
sign_frame = frame_of sign_of 1 sign_of_form []

abbrev collatz_frame : Frame
collatz_frame = frame_of collatz 2 collatz_form []

abbrev two : List Value
two = val.Int (pos 2) ∷ []

abbrev five : List Value
five = val.Int (pos 5) ∷ []

abbrev one : Answer
one = answer.Value (val.Int (pos 1))

-- At 5 sign_of's SSA form, its normal form and its tail form with all labels need three visits, and
-- the merged tail form needs one. At 2 collatz visits its head twice: in eight visits of the normal
-- form, and in four of the tail form.
pub record WorkedCallRuns : Type 0 where
  pub ssa : ssa_runs sign_frame sign_of_ssa five 3 ≡ ran one 0
  pub anf : anf_runs sign_frame sign_of_anf five 3 ≡ ran one 0
  pub anf_goes_on : anf_runs sign_frame sign_of_anf five 2 ≡ ran answer.More 0
  pub labels : tail_runs sign_frame sign_of_anf sign_of_labels five 3 ≡ ran one 0
  pub labels_go_on : tail_runs sign_frame sign_of_anf sign_of_labels five 2 ≡ ran answer.More 0
  pub merged : tail_runs sign_frame sign_of_anf sign_of_merged five 1 ≡ ran one 0
  pub loop_anf : anf_runs collatz_frame collatz_anf two 8 ≡ ran one 2
  pub loop_anf_goes_on : anf_runs collatz_frame collatz_anf two 7 ≡ ran answer.More 2
  pub loop_tail : tail_runs collatz_frame collatz_anf collatz_tail two 4 ≡ ran one 2
  pub loop_tail_goes_on : tail_runs collatz_frame collatz_anf collatz_tail two 3 ≡ ran answer.More 1

-- ---- queries

abbrev zero_digits : List ℕ
zero_digits = codes "0"

abbrev pub next_of : Expr
next_of = expr.Chain (expr.Slot 0) ((chain.Int int.Add, expr.Int (pos 1)) ∷ [])

-- two blocks, of which the second returns the argument and 1
abbrev pub next_anf : Anf
next_anf = record { blocks = anf_block (0 ∷ []) (Go (call 1 (0 ∷ []))) ∷ anf_block (0 ∷ []) (Return (term 0 (0 ∷ []))) ∷ [] }

abbrev pub sign_of_query : Query
sign_of_query = query_of (expressions sign_of) (types_of (bigint ∷ []) sign_of_ssa) ty.Bigint sign_of_anf sign_of_merged 0 0

-- The query of a function that is one RETURN is the one that its own template gives, and sign_of's
-- has its value in one iteration more than the run has visits.
pub record WorkedQueries : Type 0 where
  pub one_return : query_with (next_of ∷ []) (λ n. ty.Bigint) ty.Bigint next_anf sign_of_merged 0 zero_digits
      ≡ returns.query_with zero_digits (ty.Bigint ∷ []) ty.Bigint (placed_at ty.Bigint returns.slot_at next_of)
  pub ends : sql (query_with (expressions sign_of) (λ n. ty.Bigint) ty.Bigint sign_of_anf sign_of_merged 0 zero_digits) [] five 2 ≡ one
  pub goes_on : sql (query_with (expressions sign_of) (λ n. ty.Bigint) ty.Bigint sign_of_anf sign_of_merged 0 zero_digits) [] five 1 ≡ answer.More
  pub templated : Templated sign_of (bigint ∷ []) 0 sign_of_form sign_of_ssa sign_of_anf sign_of_merged sign_of_query
