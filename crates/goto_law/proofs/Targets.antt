-- Every block of a function's goto form leads to blocks of the form.
use Rattle.std.proofs.Common.{◌≡◌, ℕ, ◌+◌, ◌<◌, Bool, true, false, List, [], ◌∷◌, length, Some, None, sym, ap, subst, arith}
use Rattle.away_values.specs.declared.types.Ty.{Ty}
use Rattle.away_trees.specs.declared.statements.Function.{Function}
use Rattle.away_trees.specs.declared.statements.Stmt.{Stmt}
use Rattle.away_trees.specs.declared.statements.Stmt.TheBlock as b
use Rattle.away_trees.specs.StatementAlgebra.{stmt_of, stmts_of, branches_of, else_of}
use Rattle.away_types.specs.declared.slots.Slot.{Slot}
use Rattle.plsql_meaning.specs.Outcomes.{case_not_found, no_return}
use Rattle.block_forms.specs.declared.forms.Goto.{Goto}
use Rattle.block_forms.specs.Around.{exit_to, again_to}
use Rattle.block_forms.specs.Laid.{Setting, laying, laid}
use Rattle.block_forms.specs.Lowered.{Lowered, setting, all_parts, param_parts, params_parts, body_place}
use Rattle.block_forms.specs.Patterns.{Part, jumps, fails, node, source_term}
use Rattle.block_forms.specs.Places.{Each}
use Rattle.block_forms.specs.Leading.{LeadsWithin}
use Rattle.goto_law.proofs.Leading.{in_list, AllLead, lead_both, leads_at}
use Rattle.goto_law.proofs.LeadingIntos.{into_leads}
use Rattle.goto_law.proofs.LeadingLoops.{loop_leads}
use Rattle.goto_law.proofs.LeadingStatements.{Stand, Within, IsLed, both, StatementLeads, RowLeads, ArmsLead, ElseLeads, slot_leads, leave_leads, exit_leads, no_row, more_row, no_arms, more_arms, no_else, some_else, branch_leads, block_leads}
use Rattle.goto_law.proofs.Parts.{left, right}

module _ (s : Setting) where
  assign_leads : (name : List ℕ) (slot : _) (e : _) → StatementLeads s (stmt_of laying (b.Assign name slot e))
  assign_leads name None e = record {
    goes = λ p around next stand on. record { begins = in_list s.goto.blocks (node s.goto p.node) _ stand.0; parts = (on.follows, tt) };
  }
  assign_leads name (Some slot) e = record {
    goes = λ p around next stand on. slot_leads s _ (node s.goto p.node) slot next (source_term p.expr e) stand on.follows;
  }

  mutual
    statement_leads : (x : Stmt) → StatementLeads s (stmt_of laying x)
    statement_leads (b.Block' label decls _ body closing) = record { goes = block_leads s label decls (stmts_of laying body) (row_leads body) }
    statement_leads (b.Assign name slot e) = assign_leads name slot e
    statement_leads (b.If' _ arms other) = record {
      goes = branch_leads s (branches_of laying arms) (else_of laying other) (arms_lead arms) (else_leads other) None;
    }
    statement_leads (b.Cases' _ arms other) = record {
      goes = branch_leads s (branches_of laying arms) (else_of laying other) (arms_lead arms) (else_leads other) (Some case_not_found);
    }
    statement_leads (b.Loop' label kind _ body closing) = record { goes = loop_leads s label kind (stmts_of laying body) (row_leads body) }
    statement_leads (b.Exit label when) = record {
      goes = λ p around next stand on.
          exit_leads s when p.expr (node s.goto p.node) (exit_to s.goto.finish around label) next stand (on.leaves label).0 on.follows;
    }
    statement_leads (b.Continue label when) = record {
      goes = λ p around next stand on.
          leave_leads s when p.expr (node s.goto p.node) (again_to s.goto.finish around label) next stand (on.leaves label).1 on.follows;
    }
    statement_leads (b.Return e) = record {
      goes = λ p around next stand on. record { begins = in_list s.goto.blocks (node s.goto p.node) _ stand.0; parts = (tt, tt) };
    }
    statement_leads (b.Raise raised) = record {
      goes = λ p around next stand on. record { begins = in_list s.goto.blocks (node s.goto p.node) _ stand.0; parts = (tt, tt) };
    }
    statement_leads (b.Into strict targets query) = record {
      goes = λ p around next stand on. into_leads s strict targets query p next stand on.follows;
    }
    statement_leads b.Nothing = record {
      goes = λ p around next stand on. record { begins = in_list s.goto.blocks (node s.goto p.node) _ stand.0; parts = (on.follows, tt) };
    }

    row_leads : {m : _} → (r : b.Row_of-Stmt m) → RowLeads s (stmts_of laying r)
    row_leads b.end_of-Stmt = no_row s
    row_leads (b.more_of-Stmt x rest) = more_row s (stmt_of laying x) (stmts_of laying rest) (statement_leads x) (row_leads rest)

    arms_lead : {m : _} → (r : b.Row_of-Arm m) → ArmsLead s (branches_of laying r)
    arms_lead b.end_of-Arm = no_arms s
    arms_lead (b.more_of-Arm test _ body rest) =
        more_arms s test (stmts_of laying body) (branches_of laying rest) (row_leads body) (arms_lead rest)

    else_leads : (r : b.Held-Stmt-If-1) → ElseLeads s (else_of laying r)
    else_leads b.None' = no_else s
    else_leads (b.Some' _ body) = some_else s (stmts_of laying body) (row_leads body)

  -- ---- parameters

  param_leads : (strict : Bool) (result : Ty) (i : ℕ) (t : Ty) → Stand s (param_parts s strict result i t) → Within s (node s.goto (i + 1))
      → IsLed s (node s.goto i) (param_parts s strict result i t)
  param_leads false result i t stand h = record { begins = subst (Within s) (sym stand.0) h; parts = (tt, tt) }
  param_leads true result i t stand h = record {
    begins = in_list s.goto.blocks (node s.goto i) _ stand.0;
    parts = ((in_list s.goto.blocks _ _ stand.1.0, h), (tt, tt));
  }

  params_lead : (strict : Bool) (result : Ty) (ps : List (List ℕ × Ty)) (i : ℕ) → Stand s (params_parts s strict result i ps)
      → Within s (node s.goto (i + length ps)) → IsLed s (node s.goto i) (params_parts s strict result i ps)
  params_lead strict result [] i stand h = record {
    begins = subst (λ j. Within s (node s.goto j)) (let e : i + 0 ≡ i = omega arith in e) h;
    parts = tt;
  }
  params_lead strict result (p ∷ ps) i stand h =
      let front_parts = param_parts s strict result i p.1 in
      let back_parts = params_parts s strict result (i + 1) ps in
      let same : i + length (p ∷ ps) ≡ i + 1 + length ps = omega arith in
      let back = params_lead strict result ps (i + 1) (right s.goto.blocks front_parts back_parts stand)
      (subst (λ j. Within s (node s.goto j)) same h) in
      let front = param_leads strict result i p.1 (left s.goto.blocks front_parts back_parts stand) back.begins in
      both s (node s.goto i) (node s.goto (i + 1)) front_parts back_parts front back

-- ---- the whole form

module _ (f : Function) (slots : List Slot) (g : Goto) (low : Lowered f slots g) where
  abbrev s : Setting
  s = setting f slots g

  abbrev param_row : List Part
  param_row = params_parts s f.strict f.result 0 f.params

  abbrev body_row : List Part
  body_row = (laid f.body).parts s (body_place f) [] g.finish

  pub form_entry : g.entry < length g.blocks
  form_entry = in_list g.blocks g.entry (jumps false (node g 0)) low.stand.0

  finish_within : g.finish < length g.blocks
  finish_within = in_list g.blocks g.finish (fails no_return) low.stand.1.0

  body_leads : IsLed s (node g (length f.params)) body_row
  unfolding laid
  body_leads = (statement_leads s f.body).goes (body_place f) [] g.finish (right g.blocks param_row body_row low.stand.1.1)
      (record { follows = finish_within; leaves = λ label. (finish_within, finish_within) })

  all_lead : AllLead g.blocks (all_parts f slots g)
  all_lead =
      let start : node g (length f.params) ≡ node g (0 + length f.params) = ap (node g) (omega arith) in
      let front = params_lead s f.strict f.result f.params 0 (left g.blocks param_row body_row low.stand.1.1)
      (subst (λ c. c < length g.blocks) start body_leads.begins) in
      (front.begins, (tt, lead_both g.blocks param_row body_row front.parts body_leads.parts))

  pub form_targets : Each (LeadsWithin (length g.blocks)) g.blocks
  form_targets i x at = record {
    targets =
        leads_at g.blocks i x at (all_parts f slots g) low.stand all_lead (low.each_once.covered i (in_list g.blocks i x at));
  }
