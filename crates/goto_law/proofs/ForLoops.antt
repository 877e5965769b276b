-- What the blocks of a FOR do, with those of its body.
use Rattle.std.proofs.Common.{◌≡◌, ℕ, suc, ◌+◌, ◌*◌, ◌<◌, ◌≤◌, Bool, List, ◌++◌, length, Option, refl, ◌∙◌, arith}
use Rattle.std.specs.Prelude.{slice_set}
use Rattle.std.proofs.lemmas.List.{length-set}
use Rattle.away_values.specs.declared.values.Value.{Value}
use Rattle.away_trees.specs.declared.queries.Expr.{Expr}
use Rattle.away_trees.specs.declared.statements.LoopKind.TheVariants as kind
use Rattle.plsql_meaning.specs.Loops.{counts, turning}
use Rattle.plsql_meaning.specs.Outcomes.{Env, Label, Step}
use Rattle.plsql_meaning.specs.Statements.{with_bound, with_step, loop}
use Rattle.block_forms.specs.declared.places.Position.{Position}
use Rattle.block_forms.specs.Around.{Around}
use Rattle.block_forms.specs.Expressions.{if_there, of_kind}
use Rattle.block_forms.specs.Patterns.{Part, node, yes_of, no_of, after_bound, for_head, for_test, for_parts, bound_parts, step_parts, turn_parts, cur_of}
use Rattle.block_forms.specs.Patterns as form
use Rattle.goto_law.proofs.Counting.{Counted, counted_on, counted_first, bound_goes, step_goes, for_begins, for_moves}
use Rattle.goto_law.proofs.Entries.{entry_at, entries_at}
use Rattle.goto_law.proofs.Known.{Sides, width, GoesIn, AllStandIn, Entries, Known}
use Rattle.goto_law.proofs.LoopRuns.{loops}
use Rattle.goto_law.proofs.Parts.{left, right}
use Rattle.goto_law.proofs.Steps.{of_loop, heavier}

module _ (s : Sides) (known : Known s) (name : List ℕ) (reverse : Bool) (first last : Expr) (by : Option Expr) (p : Position) (body next : ℕ) where
  -- the blocks in which the bounds and the step begin, the head and the test, and the first hidden slot
  abbrev b0 : ℕ
  b0 = node s.form.goto p.node

  abbrev b1 : ℕ
  b1 = after_bound s.form.goto b0

  abbrev b2 : ℕ
  b2 = after_bound s.form.goto b1

  abbrev head : ℕ
  head = for_head s.form.goto by b0

  abbrev test : ℕ
  test = for_test s.form.goto s.form.numbers reverse p.fors

  abbrev cur : ℕ
  cur = cur_of s.form.goto s.form.numbers p.fors

  abbrev hide : ℕ
  hide = 3 * p.fors

  abbrev first_parts : List Part
  first_parts = bound_parts s.form.goto s.form.numbers b0 cur (form.source_term p.expr first) b1

  abbrev last_parts : List Part
  last_parts = bound_parts s.form.goto s.form.numbers b1 (cur + 1) (form.source_term (p.expr + 1) last) b2

  abbrev by_parts : List Part
  by_parts = step_parts s.form.goto s.form.numbers by (p.expr + 2) b2 (cur + 2) head

  abbrev turning_parts : List Part
  turning_parts = turn_parts s.form.goto s.form.numbers reverse p.slot cur (cur + 1) (cur + 2) head test body next

  abbrev all_turns : Label → Step → Value → Value → Value → Step
  all_turns own f a b c = turning (counts reverse b c p.slot) own f a

  module _ (around : Around) (own : Label) (n w : ℕ) (f : Step) (lt : p.slot < width s) (le : hide + 3 ≤ s.hidden)
      (stand : AllStandIn s (for_parts s.form.goto s.form.numbers reverse first last by p body next))
      (goes : (e i : Env) (k : ℕ) → length e ≡ width s → length i ≡ s.hidden
      → GoesIn s (of_loop own next test around) test body e i (hide + 3) k w (f e k)) where
    behind_first : AllStandIn s (last_parts ++ (by_parts ++ turning_parts))
    behind_first = right s.form.goto.blocks first_parts (last_parts ++ (by_parts ++ turning_parts)) stand

    behind_last : AllStandIn s (by_parts ++ turning_parts)
    behind_last = right s.form.goto.blocks last_parts (by_parts ++ turning_parts) behind_first

    behind_by : AllStandIn s turning_parts
    behind_by = right s.form.goto.blocks by_parts turning_parts behind_last

    -- the turns, where the hidden variables hold the counter, its last value and its step
    turns_go : (a b c : Value) (env hid : Env) → length env ≡ width s → length hid ≡ s.hidden → Counted hide b c a hid
        → GoesIn s around next head env hid hide n (2 + 2 + w) (all_turns own f a b c env n)
    turns_go a b c env hid wide long holds =
        loops s.frame s.form.goto (Counted hide b c) around own next head body test 2 2 w hide (hide + 3) (omega arith) (width s) s.hidden
        (counts reverse b c p.slot) f
        (λ z i i' holds kept. counted_on hide b c z i i' holds kept)
        (λ z e i wide long holds. for_begins s known reverse p.slot cur (cur + 1) (cur + 2) hide refl (omega arith)
        (omega arith) e i wide z b c holds head (yes_of s.form.goto head) next body lt behind_by.0 behind_by.1.0)
        (λ z e i wide long holds. for_moves s known reverse p.slot cur (cur + 1) (cur + 2) hide refl (omega arith)
        (omega arith) e i wide z b c holds head test (no_of s.form.goto test) next (omega (arith, long)) behind_by.1.1.0 behind_by.1.1.1.0)
        goes (suc n) a env hid n (omega arith) wide long holds

    module _ (env hid : Env) (wide : length env ≡ width s) (long : length hid ≡ s.hidden)
        (entries : Entries s p.expr (of_kind (kind.Count name reverse first last by))) where
      abbrev hid1 : Value → Env
      hid1 a = slice_set hid hide a

      abbrev hid2 : Value → Value → Env
      hid2 a b = slice_set (hid1 a) (hide + 1) b

      long1 : (a : Value) → length (hid1 a) ≡ s.hidden
      long1 a = length-set hid hide a ∙ long

      long2 : (a b : Value) → length (hid2 a b) ≡ s.hidden
      long2 a b = length-set (hid1 a) (hide + 1) b ∙ long1 a

      by_goes : (a b : Value) → GoesIn s around next b2 env (hid2 a b) hide n (5 + (2 + 2 + w)) (with_step s.set by (all_turns own f a b) env n)
      by_goes a b =
          step_goes s known around next b2 head (cur + 2) (hide + 2) (p.expr + 2) env (hid2 a b) hide n (2 + 2 + w) (all_turns own f a b) wide
          (omega arith) (omega (arith, long2 a b)) (omega arith)
          by (entries_at s (suc (suc p.expr)) (p.expr + 2) (if_there by) entries.1.1 (omega arith))
          (left s.form.goto.blocks by_parts turning_parts behind_last)
          (λ c. turns_go a b c env (slice_set (hid2 a b) (hide + 2) c) wide (length-set (hid2 a b) (hide + 2) c ∙ long2 a b)
          (counted_first hide a b c hid (omega (arith, long))))

      last_goes : (a : Value) → GoesIn s around next b1 env (hid1 a) hide n (3 + (5 + (2 + 2 + w)))
          (with_bound (s.set.value last env) (λ b. with_step s.set by (all_turns own f a b)) env n)
      last_goes a =
          bound_goes s known around next b1 b2 (cur + 1) (hide + 1) (p.expr + 1) env (hid1 a) hide n (5 + (2 + 2 + w))
          (λ b. with_step s.set by (all_turns own f a b)) wide (omega arith) (omega (arith, long1 a)) (omega arith)
          last (entry_at s (suc p.expr) (p.expr + 1) last entries.1.0 (omega arith))
          (left s.form.goto.blocks last_parts (by_parts ++ turning_parts) behind_first) (by_goes a)

      pub for_goes : GoesIn s around next b0 env hid hide n (15 + w) (loop s.set (kind.Count name reverse first last by) own p.slot f env n)
      for_goes =
          heavier (bound_goes s known around next b0 b1 cur hide p.expr env hid hide n (3 + (5 + (2 + 2 + w)))
          (λ a env n. with_bound (s.set.value last env) (λ b. with_step s.set by (all_turns own f a b)) env n) wide refl (omega (arith, long))
          (omega arith)
          first entries.0 (left s.form.goto.blocks first_parts (last_parts ++ (by_parts ++ turning_parts)) stand) last_goes) (omega arith)
