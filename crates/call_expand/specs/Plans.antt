-- What the code makes of a body, by its parts and by what becomes of its calls.
use Rattle.std.specs.Prelude.{ℕ, suc, List, [], ◌∷◌, ◌++◌, length, fold, Option, Some, None}
use Rattle.away_values.specs.declared.types.Ty.{Ty}
use Rattle.away_trees.specs.declared.queries.Expr.{Expr}
use Rattle.away_trees.specs.declared.statements.Arm.{Arm}
use Rattle.away_trees.specs.declared.statements.Decl.{Decl}
use Rattle.away_trees.specs.declared.statements.LoopKind.{LoopKind}
use Rattle.away_trees.specs.declared.statements.Function.{Function}
use Rattle.away_trees.specs.declared.statements.Stmt.{Stmt}
use Rattle.away_trees.specs.declared.statements.Stmt.TheVariants as stmt
use Rattle.away_trees.specs.StatementAlgebra.{StatementAlgebra, stmt_of, branch_of}
use Rattle.away_names.specs.Lookups.{Name}
use Rattle.call_meaning.specs.Calls.{Called}
use Rattle.call_expand.specs.declared.made.Back.{Back}
use Rattle.call_expand.specs.declared.made.Back.TheVariants.{Into}
use Rattle.call_expand.specs.declared.made.Entered.{Entered}
use Rattle.call_expand.specs.declared.made.Expansion.{Expansion}
use Rattle.call_expand.specs.declared.made.Made.{Made}
use Rattle.call_expand.specs.declared.made.Opened.{Opened}
use Rattle.call_expand.specs.declared.made.Plan.{Plan}
use Rattle.call_expand.specs.declared.made.Plan.TheVariants as plan
use Rattle.call_expand.specs.declared.made.Seen.{Seen}
use Rattle.call_expand.specs.declared.made.Work.{Work}
use Rattle.call_expand.specs.Expanding as expanding
use Rattle.call_expand.specs.Expanding.{
  arguments,
  falls_off,
  function_at,
  plain_decl,
  strict_test,
  variable,
}
use Rattle.call_expand.specs.Moving.{
  By,
  in_loop,
  made,
  moved_decls,
  moved_expr,
  moved_head,
  moving,
  new_label,
  past_head,
  past_label,
  seeing,
  seeing_params,
  with_label,
  with_made,
}
use Rattle.call_expand.specs.Untailing as untailing
use Rattle.moved_names.specs.Renamed.{maybe_moved, moved, name_at}

-- ---- what becomes of an assignment and of a RETURN

-- the body of a function with its calls expanded, whose parameters have the names from a place on
abbrev pub body_at : List Name → Expansion → ℕ → ℕ → ℕ → Made Stmt
body_at names x part p k =
    expanding.expanded_body names x.fs.now x.depth part x.back
    (seeing_params p (function_at x.fs.now part).params) k

-- the bodies of called functions, by those in which calls nest less deep
abbrev pub deeper : List Name → Expansion → ℕ → Back → By Stmt
deeper names x = expanding.expanded_body names x.fs.now x.depth

abbrev pub assigned_by : List Name → Plan → Name → Expr → By Stmt
assigned_by names (plan.Expand x) = expanding.assigned names x.fs.now (deeper names x)
assigned_by names (plan.Untail f) = untailing.assigned names f.now

abbrev pub returned_by : List Name → Plan → Expr → By Stmt
returned_by names (plan.Expand x) = expanding.returned names x.fs.now (deeper names x) x.back
returned_by names (plan.Untail f) = untailing.returned names f.now

abbrev pub planned_assignment : Work → Name → Expr → By Stmt
planned_assignment w = assigned_by w.names.now w.plan

abbrev pub planned_return : Work → Expr → By Stmt
planned_return w = returned_by w.names.now w.plan

abbrev pub working : Work → StatementAlgebra
working w = moving w.names.now (planned_assignment w) (planned_return w)

unfoldable pub planned_stmt : Work → Stmt → By Stmt
planned_stmt w s = stmt_of (working w) s

unfoldable pub planned_arm : Work → Arm → By Arm
planned_arm w a = branch_of (working w) a

abbrev pub planned_body : Work → List Stmt → By (List Stmt)
planned_body w xs seen k = fold (λ a x. with_made a (planned_stmt w x seen a.next)) (made [] k) xs

abbrev pub planned_arms : Work → List Arm → By (List Arm)
planned_arms w xs seen k = fold (λ a x. with_made a (planned_arm w x seen a.next)) (made [] k) xs

abbrev pub planned_other : Work → Option (List Stmt) → By (Option (List Stmt))
planned_other w None seen k = made None k
planned_other w (Some body) seen k =
    let x = planned_body w body seen k in record { it = Some x.it; next = x.next }

-- ---- blocks and loops

module _ (names : List Name) (label : Option Name) where
  unfoldable pub closed : Option Name → Seen → ℕ → Option Name
  closed closing seen k = maybe_moved names (with_label label k seen).labels closing

  unfoldable pub opened : List Decl → Seen → ℕ → Opened
  opened decls seen k =
      let inner = with_label label k seen in
      let ds = moved_decls names decls inner.variables (past_label label k) in
      record { it = ds.it; inside = seeing ds.variables inner; next = ds.next }

  abbrev pub block_by : Option Name → Seen → ℕ → List Decl → Made (List Stmt) → Made Stmt
  block_by closing seen k decls body = record {
    it = stmt.Block (new_label names label k) decls body.it (closed closing seen k);
    next = body.next;
  }

  unfoldable pub entered : LoopKind → Seen → ℕ → Entered
  entered kind seen k =
      let at = past_label label k in
      record {
        it = moved_head names kind seen at;
        inside = in_loop kind (with_label label k seen) at;
        next = past_head kind at;
      }

  abbrev pub loop_by : Option Name → Seen → ℕ → LoopKind → Made (List Stmt) → Made Stmt
  loop_by closing seen k head body = record {
    it = stmt.Loop (new_label names label k) head body.it (closed closing seen k);
    next = body.next;
  }

abbrev pub planned_block : Work → Option Name → List Decl → List Stmt → Option Name → By Stmt
planned_block w label decls body closing seen k =
    let x = opened w.names.now label decls seen k in
    block_by w.names.now label closing seen k x.it (planned_body w body x.inside x.next)

abbrev pub planned_loop : Work → Option Name → LoopKind → List Stmt → Option Name → By Stmt
planned_loop w label kind body closing seen k =
    let x = entered w.names.now label kind seen k in
    loop_by w.names.now label closing seen k x.it (planned_body w body x.inside x.next)

-- ---- calls

module _ (names : List Name) where
  abbrev pub plain_assignment : Name → Expr → By Stmt
  plain_assignment name e seen k = made (stmt.Assign (moved names seen.variables name) None
      (moved_expr names seen.variables e)) k

  abbrev pub plain_return : Back → Expr → By Stmt
  plain_return back e seen k =
      made (expanding.returned_by names back (moved_expr names seen.variables e)) k

  -- a called function's body, behind its result, label and parameters
  abbrev pub called_body : Expansion → ℕ → ℕ → Made Stmt
  called_body x part k =
      deeper names x part (Into k (suc k))
      (seeing_params (suc (suc k)) (function_at x.fs.now part).params)
      (expanding.behind_params names k (function_at x.fs.now part))

  -- the label has the name at a place, and the parameters have those behind it
  abbrev pub called_test : Function → ℕ → List Stmt
  called_test g l = strict_test names g.strict (length g.params) (suc l)
      (stmt.Exit (Some (name_at names l)) None)

  abbrev pub called_block : Function → List Decl → ℕ → Stmt → Stmt
  called_block g params l body = stmt.Block (Some (name_at names l)) params
      (called_test g l ++ (body ∷ falls_off ∷ [])) None

  abbrev pub with_result : Ty → ℕ → Made Stmt → Stmt → Made Stmt
  with_result t k callee tail = record {
    it = stmt.Block None (plain_decl names k t None ∷ []) (callee.it ∷ tail ∷ []) None;
    next = callee.next;
  }

  -- a call around the body of what it calls
  module _ (fs : List Function) (c : Called) where
    abbrev pub callee_block : Seen → ℕ → Made Stmt → Made Stmt
    callee_block seen k body =
        let g = function_at fs c.part in
        record {
          it = called_block g (arguments names seen.variables (suc (suc k)) g.params c.args)
              (suc k) body.it;
          next = body.next;
        }

    abbrev pub call_block : Seen → ℕ → Made Stmt → Stmt → Made Stmt
    call_block seen k body tail =
        with_result (function_at fs c.part).result k (callee_block seen k body) tail

    abbrev pub call_assigned : Name → Seen → ℕ → Made Stmt → Made Stmt
    call_assigned name seen k body =
        call_block seen k body
        (stmt.Assign (moved names seen.variables name) None (variable names k))

    abbrev pub call_returned : Back → Seen → ℕ → Made Stmt → Made Stmt
    call_returned back seen k body =
        call_block seen k body (expanding.returned_by names back (variable names k))
