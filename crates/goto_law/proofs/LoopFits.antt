-- The blocks of LOOP, WHILE and FOR fit what these do.
use Rattle.std.proofs.Common.{◌≡◌, ℕ, suc, ◌+◌, ◌*◌, ◌≤◌, Bool, true, false, List, ◌++◌, length, Option, Some, None, Ok, Err, refl, sym, subst, arith}
use Rattle.std.proofs.lemmas.List.{length-append}
use Rattle.away_values.specs.Operators.{is_true}
use Rattle.away_values.specs.Results.{Or, mapped}
use Rattle.away_values.specs.declared.values.Value.{Value}
use Rattle.away_trees.specs.declared.queries.Expr.{Expr}
use Rattle.away_trees.specs.declared.statements.LoopKind.{LoopKind}
use Rattle.away_trees.specs.declared.statements.LoopKind.TheVariants as kind
use Rattle.away_trees.specs.declared.statements.Stmt.TheOpen as st
use Rattle.plsql_meaning.specs.Loops.{Turning, going, turning}
use Rattle.plsql_meaning.specs.Outcomes.{Env, Label, Step}
use Rattle.plsql_meaning.specs.Statements.{StatementMeaning, in_row, body_at, kind_vars, loop}
use Rattle.block_forms.specs.declared.places.Position.{Position}
use Rattle.block_forms.specs.Around.{Around}
use Rattle.block_forms.specs.Expressions.{Sources, if_there, in_turn, of_kind}
use Rattle.block_forms.specs.Intos.{Into, row_intos}
use Rattle.block_forms.specs.Laid.{Laid, after, one_if, kind_size, row_size, first_block, row_parts, again_of, kind_parts, loop_parts}
use Rattle.block_forms.specs.Patterns.{Part, node}
use Rattle.block_forms.specs.Patterns as form
use Rattle.block_forms.specs.Runs.{way}
use Rattle.block_forms.specs.Targets.{Targets, row_targets}
use Rattle.goto_law.proofs.Entries.{entries_left, entries_right}
use Rattle.goto_law.proofs.Fits.{Has, Begun, RowFits}
use Rattle.goto_law.proofs.ForLoops.{for_goes}
use Rattle.goto_law.proofs.Known.{Sides, width, GoesIn, AllStandIn, Known}
use Rattle.goto_law.proofs.LeafFits.{LayerFits}
use Rattle.goto_law.proofs.LoopRuns.{Begins, loops}
use Rattle.goto_law.proofs.Parts.{left, right}
use Rattle.goto_law.proofs.Steps.{of_loop, lighter, heavier}
use Rattle.goto_law.proofs.Stretches.{Reaches, Branches, spares_all, stays, then_reaches, jumps_on, branches_at}

one_if_there : (by : Option Expr) → one_if by ≡ length (if_there by)
one_if_there None = refl
one_if_there (Some e) = refl

kind_exprs : (k : LoopKind) → (kind_size k).expr ≡ length (of_kind k)
kind_exprs kind.Plain = refl
kind_exprs (kind.While e) = refl
kind_exprs (kind.Count name reverse first last by) = omega (arith, one_if_there by)

kind_slots : (k : LoopKind) → (kind_size k).slot ≡ kind_vars k
kind_slots kind.Plain = refl
kind_slots (kind.While e) = refl
kind_slots (kind.Count name reverse first last by) = refl

module _ (s : Sides) where
  -- the head of a WHILE, by what its condition gives
  while_begins : (head body next : ℕ) (r : Or Value) (env hid : Env) → Branches s.frame s.form.goto r head (env ++ hid) true body next
      → Begins s.frame s.form.goto (mapped (λ v. going (is_true v) env) r) env hid head body next 1
  while_begins head body next (Err c) env hid l = l
  while_begins head body next (Ok v) env hid l = decide (is_true v) l
    where
      decide : (t : Bool) → Reaches s.frame s.form.goto head (env ++ hid) 1 1 (way t body next) (env ++ hid)
          → Begins s.frame s.form.goto (Ok (going t env)) env hid head body next 1
      decide true l = (refl, l)
      decide false l = then_reaches l stays (omega arith) (omega arith)

  -- a loop that hides nothing, by how a turn begins
  abbrev simple : (Env → Or (Option Env)) → Turning (Unit {0})
  simple begin = record { begin = λ z env. begin env; next = λ z. Ok (Some z) }

  module _ (own : Label) (around : Around) (next b body w h hb : ℕ) (le : h ≤ hb) (begin : Env → Or (Option Env)) (f : Step)
      (begins : (e i : Env) → length e ≡ width s → Begins s.frame s.form.goto (begin e) e i b body next 1)
      (goes : (e i : Env) (k : ℕ) → length e ≡ width s → length i ≡ s.hidden → GoesIn s (of_loop own next b around) b body e i hb k w (f e k)) where
    simple_goes : (env hid : Env) (n : ℕ) → length env ≡ width s → length hid ≡ s.hidden
        → GoesIn s around next b env hid h n (1 + 0 + w) (turning (simple begin) own f tt env n)
    simple_goes env hid n wide long =
        loops s.frame s.form.goto (λ z i. Unit {0}) around own next b body b 1 0 w h hb le (width s) s.hidden (simple begin) f (λ z i i' a k. tt)
        (λ z e i wide long a. begins e i wide) (λ z e i wide long a. (i, spares_all, tt, stays)) goes (suc n) tt env hid n
        (omega arith) wide long tt

  module _ (own : Label) (x : List Laid) (m : List StatementMeaning) (e : List Sources) (t : List Targets) (u : List (List Into))
      (f : RowFits s x m e t u) where
    abbrev LoopBegun : LoopKind → Position → ℕ → Around → ℕ → Env → Env → Type 0
    LoopBegun k p slot around next env hid =
        Begun s p slot (after (kind_size k) (row_size x)) (of_kind k ++ in_turn e) (row_targets t) (row_intos u)
        (loop_parts s.form own k x p around next) env hid

    -- the body of a loop, from where it begins
    body_goes : Known s → (k : LoopKind) (p : Position) (slot : ℕ) (around : Around) (next back : ℕ)
        → Has s p (after (kind_size k) (row_size x)) (of_kind k ++ in_turn e) (row_targets t) (row_intos u)
        → AllStandIn s (row_parts s.form x (after p (kind_size k)) (of_loop own next back around) back)
        → body_at k slot ≡ p.slot + (kind_size k).slot
        → (env hid : Env) (n : ℕ) → length env ≡ width s → length hid ≡ s.hidden
        → GoesIn s (of_loop own next back around) back (first_block s.form (length x) (after p (kind_size k)).node back) env hid
        (3 * (p.fors + (kind_size k).fors)) n (15 * (row_size x).node) (in_row m (body_at k slot) env n)
    body_goes known k p slot around next back has stand placed env hid n wide long =
        f.goes known (after p (kind_size k)) (body_at k slot) (of_loop own next back around) back env hid n (record {
          placed = placed;
          has = record {
            slots = omega (arith, has.slots);
            fors = omega (arith, has.fors);
            targets = omega (arith, has.targets);
            entries = entries_right s p.expr (p.expr + (kind_size k).expr) (of_kind k) (in_turn e) has.entries (omega (arith, kind_exprs k));
            sets = has.sets;
            intos = has.intos;
          };
          stand = stand;
          wide = wide;
          long = long;
        })

    loop_goes : (k : LoopKind) → Known s → (p : Position) (slot : ℕ) (around : Around) (next : ℕ) (env hid : Env) (n : ℕ)
        → LoopBegun k p slot around next env hid
        → GoesIn s around next (node s.form.goto p.node) env hid (3 * p.fors) n (15 * ((kind_size k).node + (row_size x).node))
        (loop s.set k own slot (in_row m (body_at k slot)) env n)
    loop_goes kind.Plain known p slot around next env hid n begun =
        let b = node s.form.goto p.node in
        heavier (simple_goes own around next b (first_block s.form (length x) (p.node + 1) b) (15 * (row_size x).node) (3 * p.fors)
        (3 * (p.fors + 0)) (omega arith) (λ env. Ok (Some env)) (in_row m slot)
        (λ e' i wide. (refl, jumps_on true begun.stand.0))
        (body_goes known kind.Plain p slot around next b begun.has begun.stand.1 (omega (arith, begun.placed))) env hid n begun.wide begun.long)
        (omega arith)
    loop_goes (kind.While test) known p slot around next env hid n begun =
        let b = node s.form.goto p.node in
        let body = first_block s.form (length x) (p.node + 1) b in
        heavier (simple_goes own around next b body (15 * (row_size x).node) (3 * p.fors) (3 * (p.fors + 0)) (omega arith)
        (λ env. mapped (λ v. going (is_true v) env) (s.set.value test env)) (in_row m slot)
        (λ e' i wide. while_begins b body next (s.set.value test e') e' i
        (branches_at s.frame s.form.goto true (form.source_term p.expr test) (e' ++ i) (s.set.value test e') b
        (known.sources p.expr test begun.has.entries.0 e' i wide) begun.stand.0))
        (body_goes known (kind.While test) p slot around next b begun.has begun.stand.1 (omega (arith, begun.placed))) env hid n begun.wide
        begun.long) (omega arith)
    loop_goes (kind.Count name reverse first last by) known p slot around next env hid n begun =
        let k : LoopKind = kind.Count name reverse first last by in
        let back = again_of s.form k p in
        let body = first_block s.form (length x) (p.node + 1) back in
        let front_parts = kind_parts s.form k p body next in
        let back_parts = row_parts s.form x (after p (kind_size k)) (of_loop own next back around) back in
        subst (λ j. GoesIn s around next (node s.form.goto p.node) env hid (3 * p.fors) n (15 * (1 + (row_size x).node))
        (loop s.set k own j (in_row m (slot + 1)) env n)) (sym begun.placed)
        (heavier (for_goes s known name reverse first last by p body next around own n (15 * (row_size x).node) (in_row m (slot + 1))
        (omega (arith, begun.has.slots)) (omega (arith, begun.has.fors, begun.has.targets)) (left s.form.goto.blocks front_parts back_parts begun.stand)
        (λ e' i' k' wide long. lighter (body_goes known k p slot around next back begun.has
        (right s.form.goto.blocks front_parts back_parts begun.stand) (omega (arith, begun.placed)) e' i' k' wide long) (omega arith)
        (omega arith))
        env hid begun.wide begun.long (entries_left s p.expr (of_kind k) (in_turn e) begun.has.entries)) (omega arith))

    pub loop_fits : (k : LoopKind) (closing : Label)
        → LayerFits s (st.Loop own k x closing) (st.Loop own k m closing) (st.Loop own k e closing) (st.Loop own k t closing)
        (st.Loop own k u closing)
    loop_fits k closing = record {
      slots = omega (arith, kind_slots k, f.slots);
      exprs = omega (arith, kind_exprs k, f.exprs, length-append (of_kind k) (in_turn e));
      goes = loop_goes k;
    }
