use Rattle.std.proofs.Common.{arith, sym, ap, ◌∙◌, subst, ◌+◌, length, map, option_map, sum_by, [], None}
use Rattle.away_trees.specs.StatementAlgebra.{branch_of}
use Rattle.away_trees.specs.Count.{nodes_of, nodes_of_arm}
use Rattle.away_trees.proofs.StatementEquations.{of_block, of_if, of_cases, of_loop}
use Rattle.away_trees.proofs.CountLemmas.{block_nodes, if_nodes, cases_nodes, loop_nodes, assign_nodes, exit_nodes, continue_nodes, return_nodes, raise_nodes, into_nodes, nothing_nodes}
use Rattle.plsql_meaning.specs.Outcomes.{close, and_then, done, faults, case_not_found, exits, continues}
use Rattle.plsql_meaning.specs.Statements.{meaning, meanings, running, declare, in_row, in_arms, in_else, loop, body_at, kind_vars, assign, jump, give, into, class_of}
use Rattle.plsql_meaning.specs.Slots.{slots_of, slots_of_arm}
use Rattle.plsql_meaning.proofs.Slots.{block_slots, if_slots, cases_slots, loop_slots}
use Rattle.plsql_run.specs.Continues.{Ended, load, lacking, unwound}
use Rattle.plsql_run.specs.Settings.{meant}
use Rattle.plsql_run.specs.Layouts.{arm_layouts, layout_of, layouts_of, layouts_of_else}
use Rattle.plsql_run.proofs.Layouts.{block_layout, cases_layout, if_layout, inside_of, loop_layout, other_of}
use Rattle.plsql_run.proofs.Unwound.{goes_as, ended_goes}
use Rattle.plsql_run.proofs.Arms.{if_ends, ends_anyway}
use Rattle.plsql_run.proofs.enter.enter.Goals as goal

pub enter_block-requires : goal.enter_block-requires
enter_block-requires c = omega (arith, c.requires, ap slots_of c.in-Block.is ∙ block_slots c.in-Block.label c.in-Block.decls c.in-Block.body c.in-Block.closing, ap length c.as_slice.ensures, ap (sum_by slots_of) c.as_slice-in-Block.ensures)

pub overflow_add-at : goal.overflow_add-at
overflow_add-at c = omega (arith, c.requires.few, ap slots_of c.in-Block.is ∙ block_slots c.in-Block.label c.in-Block.decls c.in-Block.body c.in-Block.closing, c.len.ensures)

pub invariant_of-enter_block : goal.invariant_of-enter_block
invariant_of-enter_block c =
    let decls = c.in-Block.decls in
    let body = c.in-Block.body in
    record {
      laid = c.as_slice-in-Block-2.ensures
          ∙ inside_of c.args.layout.now (length decls) (layouts_of body) [] (c.requires.laid ∙ ap layout_of c.in-Block.is ∙ block_layout c.in-Block.label decls body c.in-Block.closing)
          ∙ ap layouts_of (sym c.as_slice-in-Block.ensures);
      few = omega (arith, c.requires.few, ap slots_of c.in-Block.is ∙ block_slots c.in-Block.label decls body c.in-Block.closing, c.len.ensures, ap (sum_by slots_of) c.as_slice-in-Block.ensures);
    }

pub enter_arms-requires : goal.enter_arms-requires
enter_arms-requires c =
    let arms = c.in-If.arms in
    let other = c.in-If.other in
    let laid = c.requires.laid ∙ ap layout_of c.in-If.is ∙ if_layout arms other in
    record {
      few = omega (arith, c.requires.few, ap slots_of c.in-If.is ∙ if_slots arms other, ap (sum_by slots_of_arm) c.as_slice-in-If.ensures);
      arms_laid = inside_of c.args.layout.now 0 (arm_layouts arms) (layouts_of_else other) laid ∙ ap arm_layouts (sym c.as_slice-in-If.ensures);
      else_laid = other_of c.args.layout.now 0 (arm_layouts arms) (layouts_of_else other) laid;
    }

pub enter_arms-requires-in-Cases : goal.enter_arms-requires-in-Cases
enter_arms-requires-in-Cases c =
    let arms = c.in-Cases.arms in
    let other = c.in-Cases.other in
    let laid = c.requires.laid ∙ ap layout_of c.in-Cases.is ∙ cases_layout arms other in
    record {
      few = omega (arith, c.requires.few, ap slots_of c.in-Cases.is ∙ cases_slots arms other, ap (sum_by slots_of_arm) c.as_slice-in-Cases.ensures);
      arms_laid = inside_of c.args.layout.now 0 (arm_layouts arms) (layouts_of_else other) laid ∙ ap arm_layouts (sym c.as_slice-in-Cases.ensures);
      else_laid = other_of c.args.layout.now 0 (arm_layouts arms) (layouts_of_else other) laid;
    }

pub enter_loop-requires : goal.enter_loop-requires
enter_loop-requires c =
    let kind = c.in-Loop.kind in
    let body = c.in-Loop.body in
    record {
      few = omega (arith, c.requires.few, ap slots_of c.in-Loop.is ∙ loop_slots c.in-Loop.label kind body c.in-Loop.closing, ap (sum_by slots_of) c.as_slice-in-Loop.ensures);
      laid = c.as_slice-in-Loop-2.ensures
          ∙ inside_of c.args.layout.now (kind_vars kind) (layouts_of body) [] (c.requires.laid ∙ ap layout_of c.in-Loop.is ∙ loop_layout c.in-Loop.label kind body c.in-Loop.closing)
          ∙ ap layouts_of (sym c.as_slice-in-Loop.ensures);
    }

pub returns-in-Block-clause-runs : goal.returns-in-Block-clause-runs
returns-in-Block-clause-runs c =
    let set = meant c.args.setting.now in
    let fs = c.args.stack.now in
    let env = c.args.env.now in
    let at = c.args.at in
    goes_as set c.enter_block.new.stack c.enter_block.new.env c.enter_block.result
    (λ n. (λ i. unwound set fs (close c.in-Block.label (and_then (declare set (c.as_slice.ensures i) at env n) (in_row (meanings set (c.as_slice-in-Block.ensures i)) (at + c.len.ensures i)))))
    ∙ sym (ap (λ m. unwound set fs (m.run at env n)) (ap (λ s. meaning set s) c.in-Block.is ∙ of_block (running set) c.in-Block.label c.in-Block.decls c.in-Block.body c.in-Block.closing)))
    c.enter_block.ensures.runs

pub returns-in-Block-clause-ends : goal.returns-in-Block-clause-ends
returns-in-Block-clause-ends c =
    if_ends c.enter_block.result (λ e. omega (arith, e, ap nodes_of c.in-Block.is ∙ block_nodes c.in-Block.label c.in-Block.decls c.in-Block.body c.in-Block.closing, ap (sum_by nodes_of) c.as_slice-in-Block.ensures)) c.enter_block.ensures.ends

pub returns-in-If-clause-runs : goal.returns-in-If-clause-runs
returns-in-If-clause-runs c =
    let set = meant c.args.setting.now in
    let fs = c.args.stack.now in
    let env = c.args.env.now in
    let at = c.args.at in
    goes_as set c.enter_arms.new.stack env c.enter_arms.result
    (λ n. ap (λ xs. unwound set fs (in_arms set (map (λ x. branch_of (running set) x) xs) (in_else set (option_map (λ body. meanings set body) c.in-If.other) (lacking None)) at env n)) c.as_slice-in-If.ensures
    ∙ sym (ap (λ m. unwound set fs (m.run at env n)) (ap (λ s. meaning set s) c.in-If.is ∙ of_if (running set) c.in-If.arms c.in-If.other)))
    (c.enter_arms.ensures.runs)

pub returns-in-If-clause-ends : goal.returns-in-If-clause-ends
returns-in-If-clause-ends c =
    if_ends c.enter_arms.result (λ e. omega (arith, e, ap nodes_of c.in-If.is ∙ if_nodes c.in-If.arms c.in-If.other, ap (sum_by nodes_of_arm) c.as_slice-in-If.ensures)) c.enter_arms.ensures.ends

pub returns-in-Cases-clause-runs : goal.returns-in-Cases-clause-runs
returns-in-Cases-clause-runs c =
    let set = meant c.args.setting.now in
    let fs = c.args.stack.now in
    let env = c.args.env.now in
    let at = c.args.at in
    goes_as set c.enter_arms-in-Cases.new.stack env c.enter_arms-in-Cases.result
    (λ n. ap (λ xs. unwound set fs (in_arms set (map (λ x. branch_of (running set) x) xs) (in_else set (option_map (λ body. meanings set body) c.in-Cases.other) (faults case_not_found)) at env n)) c.as_slice-in-Cases.ensures
    ∙ sym (ap (λ m. unwound set fs (m.run at env n)) (ap (λ s. meaning set s) c.in-Cases.is ∙ of_cases (running set) c.in-Cases.arms c.in-Cases.other)))
    (c.enter_arms-in-Cases.ensures.runs)

pub returns-in-Cases-clause-ends : goal.returns-in-Cases-clause-ends
returns-in-Cases-clause-ends c =
    if_ends c.enter_arms-in-Cases.result (λ e. omega (arith, e, ap nodes_of c.in-Cases.is ∙ cases_nodes c.in-Cases.arms c.in-Cases.other, ap (sum_by nodes_of_arm) c.as_slice-in-Cases.ensures)) c.enter_arms-in-Cases.ensures.ends

pub returns-in-Loop-clause-runs : goal.returns-in-Loop-clause-runs
returns-in-Loop-clause-runs c =
    let set = meant c.args.setting.now in
    let fs = c.args.stack.now in
    let env = c.args.env.now in
    let at = c.args.at in
    goes_as set c.enter_loop.new.stack c.enter_loop.new.env c.enter_loop.result
    (λ n. ap (λ ss. unwound set fs (loop set c.in-Loop.kind c.in-Loop.label at (in_row (meanings set ss) (body_at c.in-Loop.kind at)) env n)) c.as_slice-in-Loop.ensures
    ∙ sym (ap (λ m. unwound set fs (m.run at env n)) (ap (λ s. meaning set s) c.in-Loop.is ∙ of_loop (running set) c.in-Loop.label c.in-Loop.kind c.in-Loop.body c.in-Loop.closing)))
    (c.enter_loop.ensures.runs)

pub returns-in-Loop-clause-ends : goal.returns-in-Loop-clause-ends
returns-in-Loop-clause-ends c =
    if_ends c.enter_loop.result (λ e. omega (arith, ap load e, ap nodes_of c.in-Loop.is ∙ loop_nodes c.in-Loop.label c.in-Loop.kind c.in-Loop.body c.in-Loop.closing)) c.enter_loop.ensures.ends

pub returns-in-Assign-clause-runs : goal.returns-in-Assign-clause-runs
returns-in-Assign-clause-runs c =
    let set = meant c.args.setting.now in
    let fs = c.args.stack.now in
    let env = c.args.env.now in
    let at = c.args.at in
    goes_as set fs c.assign.new.env c.assign.result (λ n. sym (ap (λ s. unwound set fs ((meaning set s).run at env n)) c.in-Assign.is))
    (ended_goes set fs (λ env n. assign set c.in-Assign.slot (set.value c.in-Assign.e env) env n) env c.assign.new.env c.assign.result c.assign.ensures)

pub returns-in-Assign-clause-ends : goal.returns-in-Assign-clause-ends
returns-in-Assign-clause-ends c = ends_anyway c.assign.result (omega (arith, ap nodes_of c.in-Assign.is ∙ assign_nodes c.in-Assign.field-0 c.in-Assign.slot c.in-Assign.e))

pub returns-in-Exit-clause-runs : goal.returns-in-Exit-clause-runs
returns-in-Exit-clause-runs c =
    let set = meant c.args.setting.now in
    let fs = c.args.stack.now in
    let env = c.args.env.now in
    let at = c.args.at in
    goes_as set fs env c.jump.result (λ n. sym (ap (λ s. unwound set fs ((meaning set s).run at env n)) c.in-Exit.is))
    (ended_goes set fs (jump set c.in-Exit.when (exits c.in-Exit.label)) env env c.jump.result (c.jump.ensures))

pub returns-in-Exit-clause-ends : goal.returns-in-Exit-clause-ends
returns-in-Exit-clause-ends c = ends_anyway c.jump.result (omega (arith, ap nodes_of c.in-Exit.is ∙ exit_nodes c.in-Exit.label c.in-Exit.when))

pub returns-in-Continue-clause-runs : goal.returns-in-Continue-clause-runs
returns-in-Continue-clause-runs c =
    let set = meant c.args.setting.now in
    let fs = c.args.stack.now in
    let env = c.args.env.now in
    let at = c.args.at in
    goes_as set fs env c.jump-in-Continue.result (λ n. sym (ap (λ s. unwound set fs ((meaning set s).run at env n)) c.in-Continue.is))
    (ended_goes set fs (jump set c.in-Continue.when (continues c.in-Continue.label)) env env c.jump-in-Continue.result (c.jump-in-Continue.ensures))

pub returns-in-Continue-clause-ends : goal.returns-in-Continue-clause-ends
returns-in-Continue-clause-ends c = ends_anyway c.jump-in-Continue.result (omega (arith, ap nodes_of c.in-Continue.is ∙ continue_nodes c.in-Continue.label c.in-Continue.when))

pub returns-in-Return-clause-runs : goal.returns-in-Return-clause-runs
returns-in-Return-clause-runs c =
    let set = meant c.args.setting.now in
    let fs = c.args.stack.now in
    let env = c.args.env.now in
    let at = c.args.at in
    goes_as set fs env c.give.result (λ n. sym (ap (λ s. unwound set fs ((meaning set s).run at env n)) c.in-Return.is))
    (ended_goes set fs (λ env n. give (set.value c.in-Return.e env) env n) env env c.give.result c.give.ensures)

pub returns-in-Return-clause-ends : goal.returns-in-Return-clause-ends
returns-in-Return-clause-ends c = ends_anyway c.give.result (omega (arith, ap nodes_of c.in-Return.is ∙ return_nodes c.in-Return.e))

pub returns-in-Into-clause-runs : goal.returns-in-Into-clause-runs
returns-in-Into-clause-runs c =
    let set = meant c.args.setting.now in
    let fs = c.args.stack.now in
    let env = c.args.env.now in
    let at = c.args.at in
    goes_as set fs c.select_into.new.env c.select_into.result (λ n. sym (ap (λ s. unwound set fs ((meaning set s).run at env n)) c.in-Into.is))
    (ended_goes set fs (λ env n. into set c.in-Into.strict c.in-Into.targets c.in-Into.query (set.rows c.in-Into.query env) env n) env c.select_into.new.env c.select_into.result (subst (λ ts. Ended (λ env n. into set c.in-Into.strict ts c.in-Into.query (set.rows c.in-Into.query env) env n) env c.select_into.new.env c.select_into.result) c.as_slice-in-Into.ensures c.select_into.ensures))

pub returns-in-Into-clause-ends : goal.returns-in-Into-clause-ends
returns-in-Into-clause-ends c = ends_anyway c.select_into.result (omega (arith, ap nodes_of c.in-Into.is ∙ into_nodes c.in-Into.strict c.in-Into.targets c.in-Into.query))

pub returns-in-Raise-clause-runs : goal.returns-in-Raise-clause-runs
returns-in-Raise-clause-runs c =
    let set = meant c.args.setting.now in
    let fs = c.args.stack.now in
    let env = c.args.env.now in
    let at = c.args.at in
    goes_as set fs env c.raise.result (λ n. sym (ap (λ s. unwound set fs ((meaning set s).run at env n)) c.in-Raise.is))
    (ended_goes set fs (λ env n. done (faults (class_of c.in-Raise.raised)) env n) env env c.raise.result c.raise.ensures)

pub returns-in-Raise-clause-ends : goal.returns-in-Raise-clause-ends
returns-in-Raise-clause-ends c = ends_anyway c.raise.result (omega (arith, ap nodes_of c.in-Raise.is ∙ raise_nodes c.in-Raise.raised))

pub returns-in-Nothing-clause-ends : goal.returns-in-Nothing-clause-ends
returns-in-Nothing-clause-ends c = omega (arith, ap nodes_of c.in-Nothing.is ∙ nothing_nodes)
