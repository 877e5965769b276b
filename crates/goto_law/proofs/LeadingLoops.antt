-- The parts of LOOP, WHILE and FOR lead to blocks of the form.
use Rattle.std.proofs.Common.{ℕ, ◌+◌, Bool, true, List, ◌∷◌, ◌++◌, length, Option, Some, None}
use Rattle.away_values.specs.declared.types.Ty.TheVariants as ty
use Rattle.away_trees.specs.declared.queries.Expr.{Expr}
use Rattle.away_trees.specs.declared.statements.LoopKind.{LoopKind}
use Rattle.away_trees.specs.declared.statements.LoopKind.TheVariants as kind
use Rattle.plsql_meaning.specs.Outcomes.{Label}
use Rattle.block_forms.specs.declared.places.Position.{Position}
use Rattle.block_forms.specs.Around.{Around}
use Rattle.block_forms.specs.Laid.{Setting, Laid, after, kind_size, first_block, row_parts, again_of, kind_parts, loop_parts}
use Rattle.block_forms.specs.Patterns.{Part, node, jump_of, no_of, source_term, bound_parts, step_parts, turn_parts, cur_of, after_bound, for_head, for_test, for_parts}
use Rattle.goto_law.proofs.Leading.{in_list, loop_within}
use Rattle.goto_law.proofs.LeadingStatements.{Stand, Within, IsLed, Onward, RowLeads, both, set_leads}
use Rattle.goto_law.proofs.Parts.{left, right}

module _ (s : Setting) where
  step_leads : (by : Option Expr) (k c step head : ℕ) → Stand s (step_parts s.goto s.numbers by k c step head) → Within s head
      → IsLed s c (step_parts s.goto s.numbers by k c step head)
  step_leads None k c step head stand h = record { begins = in_list s.goto.blocks c _ stand.0; parts = (h, tt) }
  step_leads (Some e) k c step head stand h =
      let test = no_of s.goto (jump_of s.goto c) in
      let bound = set_leads s true ty.Integer c step test (source_term k e) (stand.0, (stand.1.0, (stand.1.1.0, tt)))
      (in_list s.goto.blocks test _ stand.1.1.1.0) in
      record {
        begins = bound.begins;
        parts =
            (bound.parts.0, (bound.parts.1.0, (bound.parts.1.1.0, ((in_list s.goto.blocks _ _ stand.1.1.1.1.0, h), (tt, tt)))));
      }

  module _ (reverse : Bool) (first last : Expr) (by : Option Expr) (p : Position) (body next : ℕ)
      (stand : Stand s (for_parts s.goto s.numbers reverse first last by p body next)) where
    abbrev b0 : ℕ
    b0 = node s.goto p.node

    abbrev b1 : ℕ
    b1 = after_bound s.goto b0

    abbrev b2 : ℕ
    b2 = after_bound s.goto b1

    abbrev head : ℕ
    head = for_head s.goto by b0

    abbrev test : ℕ
    test = for_test s.goto s.numbers reverse p.fors

    abbrev cur : ℕ
    cur = cur_of s.goto s.numbers p.fors

    abbrev first_parts : List Part
    first_parts = bound_parts s.goto s.numbers b0 cur (source_term p.expr first) b1

    abbrev last_parts : List Part
    last_parts = bound_parts s.goto s.numbers b1 (cur + 1) (source_term (p.expr + 1) last) b2

    abbrev by_parts : List Part
    by_parts = step_parts s.goto s.numbers by (p.expr + 2) b2 (cur + 2) head

    abbrev turning_parts : List Part
    turning_parts = turn_parts s.goto s.numbers reverse p.slot cur (cur + 1) (cur + 2) head test body next

    first_stand : Stand s first_parts
    first_stand = left s.goto.blocks first_parts (last_parts ++ (by_parts ++ turning_parts)) stand

    behind_first : Stand s (last_parts ++ (by_parts ++ turning_parts))
    behind_first = right s.goto.blocks first_parts (last_parts ++ (by_parts ++ turning_parts)) stand

    last_stand : Stand s last_parts
    last_stand = left s.goto.blocks last_parts (by_parts ++ turning_parts) behind_first

    behind_last : Stand s (by_parts ++ turning_parts)
    behind_last = right s.goto.blocks last_parts (by_parts ++ turning_parts) behind_first

    turn_stand : Stand s turning_parts
    turn_stand = right s.goto.blocks by_parts turning_parts behind_last

    test_within : Within s test
    test_within = in_list s.goto.blocks test _ turn_stand.1.1.0

    head_within : Within s head
    head_within = in_list s.goto.blocks head _ turn_stand.0

    turns_lead : Within s body → Within s next → IsLed s head turning_parts
    turns_lead hb hn = record {
      begins = head_within;
      parts =
          ((in_list s.goto.blocks _ _ turn_stand.1.0, hn), (hb, ((hn, in_list s.goto.blocks _ _ turn_stand.1.1.1.0), (head_within, tt))));
    }

    for_leads : Within s body → Within s next → IsLed s b0 (for_parts s.goto s.numbers reverse first last by p body next)
    for_leads hb hn =
        let steps = step_leads by (p.expr + 2) b2 (cur + 2) head (left s.goto.blocks by_parts turning_parts behind_last) head_within in
        let third = both s b2 head by_parts turning_parts steps (turns_lead hb hn) in
        let lasts = set_leads s true ty.Integer b1 (cur + 1) b2 (source_term (p.expr + 1) last) last_stand steps.begins in
        let second = both s b1 b2 last_parts (by_parts ++ turning_parts) lasts third in
        let firsts = set_leads s true ty.Integer b0 cur b1 (source_term p.expr first) first_stand lasts.begins in
        both s b0 b1 first_parts (last_parts ++ (by_parts ++ turning_parts)) firsts second

  -- ---- the statements

  again_within : (k : LoopKind) (p : Position) (body next : ℕ) → Stand s (kind_parts s k p body next) → Within s (again_of s k p)
  again_within kind.Plain p body next stand = in_list s.goto.blocks (node s.goto p.node) _ stand.0
  again_within (kind.While e) p body next stand = in_list s.goto.blocks (node s.goto p.node) _ stand.0
  again_within (kind.Count name reverse first last by) p body next stand = test_within reverse first last by p body next stand

  kind_leads : (k : LoopKind) (p : Position) (body next : ℕ) → Stand s (kind_parts s k p body next) → Within s body → Within s next
      → IsLed s (node s.goto p.node) (kind_parts s k p body next)
  kind_leads kind.Plain p body next stand hb hn = record { begins = in_list s.goto.blocks (node s.goto p.node) _ stand.0; parts = (hb, tt) }
  kind_leads (kind.While e) p body next stand hb hn = record {
    begins = in_list s.goto.blocks (node s.goto p.node) _ stand.0;
    parts = ((hb, hn), tt);
  }
  kind_leads (kind.Count name reverse first last by) p body next stand hb hn = for_leads reverse first last by p body next stand hb hn

  pub loop_leads : (label : Label) (k : LoopKind) (x : List Laid) → RowLeads s x → (p : Position) (around : Around) (next : ℕ)
      → Stand s (loop_parts s label k x p around next) → Onward s around next
      → IsLed s (node s.goto p.node) (loop_parts s label k x p around next)
  loop_leads label k x f p around next stand on =
      let again = again_of s k p in
      let inside = after p (kind_size k) in
      let inner : Around = record { label = label; exit = next; again = Some again } ∷ around in
      let body = first_block s (length x) (p.node + 1) again in
      let front_parts = kind_parts s k p body next in
      let back_parts = row_parts s x inside inner again in
      let front_stand = left s.goto.blocks front_parts back_parts stand in
      let turns = again_within k p body next front_stand in
      let back = f.goes inside inner again (right s.goto.blocks front_parts back_parts stand) (record {
        follows = turns;
        leaves = loop_within s.goto.blocks s.goto.finish around label next again on.follows turns on.leaves;
      }) in
      let begins : Within s body = body_within k back.begins in
      both s (node s.goto p.node) body front_parts back_parts (kind_leads k p body next front_stand begins on.follows)
      (record { begins = begins; parts = back.parts })
    where
      body_within : (k : LoopKind) → Within s (first_block s (length x) (after p (kind_size k)).node (again_of s k p))
          → Within s (first_block s (length x) (p.node + 1) (again_of s k p))
      body_within kind.Plain h = h
      body_within (kind.While e) h = h
      body_within (kind.Count name reverse first last by) h = h
