-- What the blocks of a FOR do: its bounds and its step, and its turns by a counter that stands in hidden variables.
use Rattle.std.proofs.Common.{◌≡◌, ◌≢◌, ℕ, ◌+◌, ◌<◌, ◌≤◌, Bool, true, false, pos, List, [], ◌∷◌, ◌++◌, length, Option, Some, None, Ok, Err, sym, ap, ◌∙◌, subst, arith}
use Rattle.std.specs.Prelude.{slice_set, get_or}
use Rattle.std.proofs.lemmas.List.{length-set, get_or-set_same, get_or-set_other}
use Rattle.away_values.specs.declared.operators.CmpOp.TheVariants as cmp
use Rattle.away_values.specs.declared.types.Ty.TheVariants as ty
use Rattle.away_values.specs.declared.values.Value.{Value}
use Rattle.away_values.specs.declared.values.Value.TheVariants as val
use Rattle.away_values.specs.Operators.{compare, is_null, is_true}
use Rattle.away_values.specs.Results.{Or}
use Rattle.away_trees.specs.declared.queries.Expr.{Expr}
use Rattle.plsql_meaning.specs.Loops as loops
use Rattle.plsql_meaning.specs.Loops.{going, stepping, advanced, counts}
use Rattle.plsql_meaning.specs.Outcomes.{Env, Step, invalid_parameter}
use Rattle.plsql_meaning.specs.Statements.{bounded, with_bound, judged, with_step}
use Rattle.block_forms.specs.declared.forms.Term.{Term}
use Rattle.block_forms.specs.Around.{Around}
use Rattle.block_forms.specs.Expressions.{if_there}
use Rattle.block_forms.specs.Patterns.{Part, own, shared, jump_of, yes_of, no_of, bound_parts, step_parts}
use Rattle.block_forms.specs.Patterns as form
use Rattle.block_forms.specs.Runs.{way}
use Rattle.goto_law.proofs.Known.{Sides, width, GoesIn, AllStandIn, value_of, IsEntry, Entries, Known}
use Rattle.goto_law.proofs.LoopRuns.{Begins, Moves}
use Rattle.goto_law.proofs.Parts.{left, right}
use Rattle.goto_law.proofs.Stretches.{Reaches, spares_all, stays, then_reaches, then_ends, fails_there, Is, Branches, branches_at, decides_at}
use Rattle.goto_law.proofs.Steps.{at_fault, after_path, heavier}
use Rattle.goto_law.proofs.Variables.{back_get, spares_set, front, Back, back}

-- ---- the counter, its last value and its step stand in three hidden variables

pub record Counted (h : ℕ) (last by c : Value) (hid : Env) : Type 0 where
  pub cur_is : get_or hid h val.Null ≡ c
  pub last_is : get_or hid (h + 1) val.Null ≡ last
  pub step_is : get_or hid (h + 2) val.Null ≡ by

pub counted_on : (h : ℕ) (last by c : Value) (i i' : Env) → Counted h last by c i
    → ((j : ℕ) → j < h + 3 → get_or i' j val.Null ≡ get_or i j val.Null) → Counted h last by c i'
counted_on h last by c i i' x kept = record {
  cur_is = kept h (omega arith) ∙ x.cur_is;
  last_is = kept (h + 1) (omega arith) ∙ x.last_is;
  step_is = kept (h + 2) (omega arith) ∙ x.step_is;
}

pub counted_first : (h : ℕ) (a b c : Value) (hid : Env) → h + 3 ≤ length hid
    → Counted h b c a (slice_set (slice_set (slice_set hid h a) (h + 1) b) (h + 2) c)
counted_first h a b c hid le =
    let i1 = slice_set hid h a in
    let i2 = slice_set i1 (h + 1) b in
    let l1 = length-set hid h a in
    let l2 = length-set i1 (h + 1) b in
    let n1 : h ≢ h + 2 = omega arith in
    let n2 : h ≢ h + 1 = omega arith in
    let n3 : h + 1 ≢ h + 2 = omega arith in
    record {
      cur_is =
          get_or-set_other i2 (h + 2) h c val.Null n1 ∙ get_or-set_other i1 (h + 1) h b val.Null n2
          ∙ get_or-set_same hid h a val.Null (omega arith);
      last_is = get_or-set_other i2 (h + 2) (h + 1) c val.Null n3 ∙ get_or-set_same i1 (h + 1) b val.Null (omega (arith, l1));
      step_is = get_or-set_same i2 (h + 2) c val.Null (omega (arith, l1, l2));
    }

counted_next : (h : ℕ) (last by c v : Value) (hid : Env) → h < length hid → Counted h last by c hid → Counted h last by v (slice_set hid h v)
counted_next h last by c v hid lt x =
    let n1 : h + 1 ≢ h = omega arith in
    let n2 : h + 2 ≢ h = omega arith in
    record {
      cur_is = get_or-set_same hid h v val.Null lt;
      last_is = get_or-set_other hid h (h + 1) v val.Null n1 ∙ x.last_is;
      step_is = get_or-set_other hid h (h + 2) v val.Null n2 ∙ x.step_is;
    }

module _ (s : Sides) (known : Known s) where
  -- ---- before the first turn: a bound or a step in a hidden variable, and the block that goes on

  module _ (around : Around) (next b on slot j k : ℕ) (env hid : Env) (h n w : ℕ) (act : Value → Step) (wide : length env ≡ width s)
      (slot_is : slot ≡ width s + j) (lt : j < length hid) (le : h ≤ j) where
    abbrev with_value : Value → Env
    with_value v = slice_set hid j v

    got : (v : Value) → get_or (env ++ with_value v) slot val.Null ≡ v
    got v = back_get (width s) slot j env (with_value v) wide slot_is ∙ get_or-set_same hid j v val.Null lt

    -- a bound isn't NULL
    pub bound_goes : (e : Expr) → IsEntry s k e → AllStandIn s (bound_parts s.form.goto s.form.numbers b slot (form.source_term k e) on)
        → ((v : Value) → GoesIn s around next on env (with_value v) h n w (act v env n))
        → GoesIn s around next b env hid h n (3 + w) (with_bound (s.set.value e env) act env n)
    bound_goes e entry stand rest =
        go (s.set.value e env) (back s.frame s.form.goto (width s) b slot j test (form.source_term k e) env hid _ wide slot_is
        (known.sources k e entry env hid wide) stand.0)
      where
        test : ℕ
        test = jump_of s.form.goto b

        fail : ℕ
        fail = yes_of s.form.goto test

        decide : (null : Bool) (v : Value) → Reaches s.frame s.form.goto b (env ++ hid) 1 0 test (env ++ with_value v)
            → Reaches s.frame s.form.goto test (env ++ with_value v) 1 0 (way null fail on) (env ++ with_value v)
            → GoesIn s around next b env hid h n (3 + w) (bounded null v act env n)
        decide true v l m =
            heavier (at_fault (then_ends {m = 3} (then_reaches {m = 2} {h = 0} l m (omega arith) (omega arith)) (fails_there stand.1.1.0)
            (omega arith))) (omega arith)
        decide false v l m =
            after_path (then_reaches {m = 2} l m (omega arith) (omega arith)) (spares_set j env hid v le) (rest v) (omega arith) (omega arith)

        go : (r : Or Value) → Back s.frame s.form.goto r b env hid j test → GoesIn s around next b env hid h n (3 + w) (with_bound r act env n)
        go (Err c) l = heavier (at_fault l) (omega arith)
        go (Ok v) l =
            let tested = known.null_tests ty.Integer slot (env ++ with_value v) ∙ ap (λ y. Ok (val.Bool (is_null y))) (got v) in
            decide (is_null v) v l (decides_at s.frame s.form.goto false (form.is_null s.form.numbers.fixed ty.Integer slot) (env ++ with_value v)
            (is_null v) test tested stand.1.0)

  module _ (around : Around) (next b on slot j k : ℕ) (env hid : Env) (h n w : ℕ) (act : Value → Step) (wide : length env ≡ width s)
      (slot_is : slot ≡ width s + j) (lt : j < length hid) (le : h ≤ j) where
    -- the step is 1, or positive
    pub step_goes : (by : Option Expr) → Entries s k (if_there by) → AllStandIn s (step_parts s.form.goto s.form.numbers by k b slot on)
        → ((v : Value) → GoesIn s around next on env (slice_set hid j v) h n w (act v env n))
        → GoesIn s around next b env hid h n (5 + w) (with_step s.set by act env n)
    step_goes None entries stand rest =
        let sets = back s.frame s.form.goto (width s) b slot j on (form.one s.form.numbers.fixed) env hid (Ok (val.Int (pos 1))) wide slot_is
        (known.ones (env ++ hid)) stand.0 in
        after_path sets (spares_set j env hid (val.Int (pos 1)) le) (rest (val.Int (pos 1))) (omega arith) (omega arith)
    step_goes (Some e) entries stand rest =
        heavier (bound_goes around next b test slot j k env hid h n (2 + w) (λ v. judged (not_positive v) v act) wide slot_is lt le e entries.0
        (left s.form.goto.blocks bound positive stand) (λ v. decide v (not_positive v) (tested v))) (omega arith)
      where
        test : ℕ
        test = no_of s.form.goto (jump_of s.form.goto b)

        fail : ℕ
        fail = yes_of s.form.goto test

        bound : List Part
        bound = bound_parts s.form.goto s.form.numbers b slot (form.source_term k e) test

        positive : List Part
        positive =
            own test (form.branches false (form.not_positive s.form.numbers.fixed slot) fail on) ∷ shared fail (form.fails invalid_parameter) ∷ []

        behind : AllStandIn s positive
        behind = right s.form.goto.blocks bound positive stand

        not_positive : Value → Bool
        not_positive v = is_true (compare cmp.Le v (val.Int (pos 0)))

        tested : (v : Value) → Reaches s.frame s.form.goto test (env ++ slice_set hid j v) 1 0 (way (not_positive v) fail on)
            (env ++ slice_set hid j v)
        tested v =
            let got = back_get (width s) slot j env (slice_set hid j v) wide slot_is ∙ get_or-set_same hid j v val.Null lt in
            let compared = known.positive_tests slot (env ++ slice_set hid j v) ∙ ap (λ y. Ok (compare cmp.Le y (val.Int (pos 0)))) got in
            branches_at s.frame s.form.goto false (form.not_positive s.form.numbers.fixed slot) (env ++ slice_set hid j v)
            (Ok (compare cmp.Le v (val.Int (pos 0)))) test compared behind.0

        decide : (v : Value) (t : Bool) → Reaches s.frame s.form.goto test (env ++ slice_set hid j v) 1 0 (way t fail on) (env ++ slice_set hid j v)
            → GoesIn s around next test env (slice_set hid j v) h n (2 + w) (judged t v act env n)
        decide v true l = heavier (at_fault (then_ends {m = 2} l (fails_there behind.1.0) (omega arith))) (omega arith)
        decide v false l = after_path l spares_all (rest v) (omega arith) (omega arith)

  -- ---- turns

  module _ (reverse : Bool) (var cur last step h : ℕ) (cur_slot : cur ≡ width s + h) (last_slot : last ≡ width s + (h + 1))
      (step_slot : step ≡ width s + (h + 2))
      (env hid : Env) (wide : length env ≡ width s) (a b c : Value) (x : Counted h b c a hid) where
    cur_is : get_or (env ++ hid) cur val.Null ≡ a
    cur_is = back_get (width s) cur h env hid wide cur_slot ∙ x.cur_is

    last_is : get_or (env ++ hid) last val.Null ≡ b
    last_is = back_get (width s) last (h + 1) env hid wide last_slot ∙ x.last_is

    step_is : get_or (env ++ hid) step val.Null ≡ c
    step_is = back_get (width s) step (h + 2) env hid wide step_slot ∙ x.step_is

    abbrev in_range : Term
    in_range = form.in_range s.form.numbers.fixed reverse cur last

    abbrev leaves_range : Term
    leaves_range = form.leaves_range s.form.numbers.fixed reverse step cur

    abbrev moved : Term
    moved = form.moved s.form.numbers.fixed reverse cur step

    in_range_is : value_of s in_range (env ++ hid) ≡ Ok (loops.reaches reverse a b)
    in_range_is =
        known.ranges reverse cur last (env ++ hid) ∙ ap (λ y. Ok (loops.reaches reverse y (get_or (env ++ hid) last val.Null))) cur_is
        ∙ ap (λ y. Ok (loops.reaches reverse a y)) last_is

    leaves_is : value_of s leaves_range (env ++ hid) ≡ loops.leaves reverse c a
    leaves_is =
        known.ends reverse step cur (env ++ hid) ∙ ap (λ y. loops.leaves reverse y (get_or (env ++ hid) cur val.Null)) step_is
        ∙ ap (loops.leaves reverse c) cur_is

    moved_is : value_of s moved (env ++ hid) ≡ loops.counted reverse a c
    moved_is =
        known.moves reverse cur step (env ++ hid) ∙ ap (λ y. loops.counted reverse y (get_or (env ++ hid) step val.Null)) cur_is
        ∙ ap (loops.counted reverse a) step_is

    -- the head, and the block that sets the variable
    pub for_begins : (head turn next body : ℕ) → var < width s → Is s.form.goto head (form.branches true in_range turn next)
        → Is s.form.goto turn (form.sets var (form.copy s.form.numbers.fixed cur) body)
        → Begins s.frame s.form.goto ((counts reverse b c var).begin a env) env hid head body next 2
    for_begins head turn next body lt is1 is2 =
        decide (is_true (loops.reaches reverse a b)) (branches_at s.frame s.form.goto true in_range (env ++ hid)
        (Ok (loops.reaches reverse a b)) head in_range_is is1)
      where
        turned : Reaches s.frame s.form.goto turn (env ++ hid) 1 0 body (slice_set env var a ++ hid)
        turned =
            front s.frame s.form.goto turn var body (form.copy s.form.numbers.fixed cur) env hid (Ok a) (subst (λ w. var < w) (sym wide) lt)
            (known.copies cur (env ++ hid) ∙ ap Ok cur_is) is2

        decide : (t : Bool) → Reaches s.frame s.form.goto head (env ++ hid) 1 1 (way t turn next) (env ++ hid)
            → Begins s.frame s.form.goto (Ok (going t (slice_set env var a))) env hid head body next 2
        decide true l = (length-set env var a, then_reaches l turned (omega arith) (omega arith))
        decide false l = then_reaches l stays (omega arith) (omega arith)

    -- the test after a turn, and the block that sets the next counter
    pub for_moves : (head test move next : ℕ) → h < length hid → Is s.form.goto test (form.branches false leaves_range next move)
        → Is s.form.goto move (form.sets cur moved head)
        → Moves s.frame s.form.goto (Counted h b c) ((counts reverse b c var).next a) env hid h head test next 2
    for_moves head test move next lt is1 is2 =
        go (loops.leaves reverse c a) (branches_at s.frame s.form.goto false leaves_range (env ++ hid)
        (loops.leaves reverse c a) test leaves_is is1)
      where
        Moving : Or (Option Value) → Type 0
        Moving r = Moves s.frame s.form.goto (Counted h b c) r env hid h head test next 2

        moving : (r : Or Value) → Back s.frame s.form.goto r move env hid h head
            → Reaches s.frame s.form.goto test (env ++ hid) 1 0 move (env ++ hid)
            → Moving (stepping false r)
        moving (Err y) m l = then_ends l m (omega arith)
        moving (Ok v) m l =
            (slice_set hid h v, spares_set h env hid v (omega arith), counted_next h b c a v hid lt x, then_reaches l m (omega arith) (omega arith))

        decide : (t : Bool) → Reaches s.frame s.form.goto test (env ++ hid) 1 0 (way t next move) (env ++ hid)
            → Moving (stepping t (loops.counted reverse a c))
        decide true l = then_reaches l stays (omega arith) (omega arith)
        decide false l =
            moving (loops.counted reverse a c) (back s.frame s.form.goto (width s) move cur h head moved env hid
            (loops.counted reverse a c) wide cur_slot moved_is is2) l

        go : (r : Or Value) → Branches s.frame s.form.goto r test (env ++ hid) false next move → Moving (advanced r (loops.counted reverse a c))
        go (Err y) l = then_ends stays l (omega arith)
        go (Ok v) l = decide (is_true v) l
