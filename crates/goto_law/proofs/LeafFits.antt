-- The blocks of each statement without parts fit what it does.
use Rattle.std.proofs.Common.{◌≡◌, ℕ, ◌+◌, ◌-◌, ◌*◌, ◌<◌, Bool, false, List, [], ◌∷◌, ◌++◌, length, Option, Some, None, Ok, Err, refl, sym, subst, arith}
use Rattle.away_values.specs.Results.{Or}
use Rattle.away_values.specs.declared.values.Value.{Value}
use Rattle.away_trees.specs.declared.queries.Expr.{Expr}
use Rattle.away_trees.specs.declared.queries.Expr.TheViews.{out-Select}
use Rattle.away_trees.specs.declared.queries.Select.{Select}
use Rattle.away_trees.specs.declared.statements.Raised.{Raised}
use Rattle.away_trees.specs.declared.statements.Stmt.TheOpen.{Stmt-F, Arm-F}
use Rattle.away_trees.specs.declared.statements.Stmt.TheOpen as st
use Rattle.sql_meaning.specs.OneReturn.{returned}
use Rattle.plsql_meaning.specs.Conversions.{conversions}
use Rattle.plsql_meaning.specs.Outcomes.{Env, Label, Outcome, normal, exits, continues, returns, done}
use Rattle.plsql_meaning.specs.Statements.{StatementMeaning, ArmMeaning, jump, give, into, statement}
use Rattle.block_forms.specs.declared.places.Position.{Position}
use Rattle.block_forms.specs.Around.{Around, exit_to, again_to}
use Rattle.block_forms.specs.Expressions.{Sources, if_there, sourcing}
use Rattle.select_into.specs.Entries.{Target, into_entries}
use Rattle.block_forms.specs.Intos.{Into, selecting}
use Rattle.block_forms.specs.Laid.{Laid, LaidArm, laying, into_size}
use Rattle.block_forms.specs.Patterns.{node, leave_parts, into_parts}
use Rattle.block_forms.specs.Patterns as form
use Rattle.block_forms.specs.Targets.{Targets, targeting, named_targets}
use Rattle.block_forms.proofs.Exits.{exit_leaves}
use Rattle.goto_law.proofs.Assignments.{slot_goes}
use Rattle.goto_law.proofs.Casts.{picked_casts, row_same, into_same}
use Rattle.goto_law.proofs.Fits.{Begun, Fits}
use Rattle.goto_law.proofs.IntoRuns.{parts_from, into_goes}
use Rattle.goto_law.proofs.Known.{Sides, width, GoesIn, AllStandIn, Entries, Known}
use Rattle.goto_law.proofs.SelectEntries.{entries_long}
use Rattle.goto_law.proofs.Steps.{at_once, at_next, at_fault, heavier, at_choice}
use Rattle.goto_law.proofs.Stretches.{to, dest, Reaches, Ends, Leads, stays, jumps_on, fails_there, returns_there}

module _ (s : Sides) where
  -- a statement by its layer fits, where its parts have these
  abbrev pub LayerFits : Stmt-F Laid LaidArm → Stmt-F StatementMeaning ArmMeaning → Stmt-F Sources Sources → Stmt-F Targets Targets
      → Stmt-F (List Into) (List Into) → Type 0
  LayerFits x m e t u = Fits s (laying.stmt x) (statement s.set m) ((sourcing (into_entries s.types)).stmt e) (targeting.stmt t) (selecting.stmt u)

  -- a block that leads on, and nothing else
  passes : (around : Around) (next b : ℕ) (env hid : Env) (h n : ℕ) → AllStandIn s (form.own b (form.jumps false next) ∷ [])
      → GoesIn s around next b env hid h n 15 (done normal env n)
  passes around next b env hid h n stand = heavier (at_next refl (jumps_on false stand.0)) (omega arith)

  pub nothing_fits : LayerFits st.Nothing st.Nothing st.Nothing st.Nothing st.Nothing
  nothing_fits = record {
    slots = refl;
    exprs = refl;
    goes = λ known p slot around next env hid n begun. passes around next (node s.form.goto p.node) env hid (3 * p.fors) n begun.stand;
  }

  pub assign_fits : (name : List ℕ) (target : Option ℕ) (e : Expr)
      → LayerFits (st.Assign name target e) (st.Assign name target e) (st.Assign name target e) (st.Assign name target e) (st.Assign name target e)
  assign_fits name None e = record {
    slots = refl;
    exprs = refl;
    goes = λ known p slot around next env hid n begun. passes around next (node s.form.goto p.node) env hid (3 * p.fors) n begun.stand;
  }
  assign_fits name (Some target) e = record {
    slots = refl;
    exprs = refl;
    goes = λ known p slot around next env hid n begun.
        slot_goes s known around next (node s.form.goto p.node) target (form.source_term p.expr e) env hid (3 * p.fors) n
        (subst (λ w. target < w) (sym begun.wide) begun.has.sets.0)
        (s.set.value e env) (known.sources p.expr e begun.has.entries.0 env hid begun.wide) begun.stand;
  }

  -- a jump to where EXIT or CONTINUE leads
  leaves : Known s → (around : Around) (o : Outcome) (target k next b : ℕ) (when : Option Expr) (env hid : Env) (h n : ℕ) → length env ≡ width s
      → dest s.form.goto.finish around next o ≡ to target → Entries s k (if_there when)
      → AllStandIn s (leave_parts s.form.goto s.form.numbers when k b target next)
      → GoesIn s around next b env hid h n 15 (jump s.set when o env n)
  leaves known around o target k next b when env hid h n wide e entries stand = go when entries stand
    where
      -- what leads to the target does what the outcome says
      led : (b most : ℕ) → Reaches s.frame s.form.goto b (env ++ hid) most 0 target (env ++ hid)
          → GoesIn s around next b env hid h n most (done o env n)
      led b most l = at_once o env refl (subst (λ d. Leads s.frame s.form.goto d (env ++ hid) b (env ++ hid) most 0 n) (sym e) l)

      go : (when : Option Expr) → Entries s k (if_there when) → AllStandIn s (leave_parts s.form.goto s.form.numbers when k b target next)
          → GoesIn s around next b env hid h n 15 (jump s.set when o env n)
      go None entries stand = heavier (led b 1 (jumps_on false stand.0)) (omega arith)
      go (Some y) entries stand =
          at_choice {v = 0} {w = 0} (form.source_term k y) (s.set.value y env) (done o) (done normal)
          (known.sources k y entries.0 env hid wide) stand.0
          (led target 0 stays) (at_next refl stays) (omega arith) (omega arith)

  one_if_there : (when : Option Expr) → (laying.stmt (st.Exit None when)).size.expr ≡ length (if_there when)
  one_if_there None = refl
  one_if_there (Some e) = refl

  pub exit_fits : (label : Label) (when : Option Expr)
      → LayerFits (st.Exit label when) (st.Exit label when) (st.Exit label when) (st.Exit label when) (st.Exit label when)
  exit_fits label when = record {
    slots = refl;
    exprs = one_if_there when;
    goes = λ known p slot around next env hid n begun.
        let target = exit_to s.form.goto.finish around label in
        let here = node s.form.goto p.node in
        leaves known around (exits label) target p.expr next here when env hid (3 * p.fors) n begun.wide refl begun.has.entries
        (subst (AllStandIn s) (exit_leaves s.form.goto s.form.numbers when p.expr here target next begun.stand) begun.stand);
  }

  pub continue_fits : (label : Label) (when : Option Expr)
      → LayerFits (st.Continue label when) (st.Continue label when) (st.Continue label when) (st.Continue label when) (st.Continue label when)
  continue_fits label when = record {
    slots = refl;
    exprs = one_if_there when;
    goes = λ known p slot around next env hid n begun.
        leaves known around (continues label) (again_to s.form.goto.finish around label) p.expr next (node s.form.goto p.node) when env hid
        (3 * p.fors) n begun.wide refl begun.has.entries begun.stand;
  }

  gives : (around : Around) (next b : ℕ) (r : Or Value) (env hid : Env) (h n : ℕ) → Ends s.frame s.form.goto b (env ++ hid) 1 (returned r)
      → GoesIn s around next b env hid h n 15 (give r env n)
  gives around next b (Err c) env hid h n l = heavier (at_fault l) (omega arith)
  gives around next b (Ok v) env hid h n l = heavier {v = 1} (at_once (returns v) env refl l) (omega arith)

  pub return_fits : (e : Expr) → LayerFits (st.Return e) (st.Return e) (st.Return e) (st.Return e) (st.Return e)
  return_fits e = record {
    slots = refl;
    exprs = refl;
    goes = λ known p slot around next env hid n begun.
        let returned = returns_there s.frame s.form.goto (form.source_term p.expr e) (env ++ hid) (s.set.value e env)
        (known.sources p.expr e begun.has.entries.0 env hid begun.wide) begun.stand.0 in
        gives around next (node s.form.goto p.node) (s.set.value e env) env hid (3 * p.fors) n returned;
  }

  pub raise_fits : (r : Raised) → LayerFits (st.Raise r) (st.Raise r) (st.Raise r) (st.Raise r) (st.Raise r)
  raise_fits r = record {
    slots = refl;
    exprs = refl;
    goes = λ known p slot around next env hid n begun. heavier (at_fault (fails_there begun.stand.0)) (omega arith);
  }

  into_run : Known s → (strict : Bool) (ts : List Target) (q : Select) (p : Position) (slot : ℕ) (around : Around) (next : ℕ) (env hid : Env) (n : ℕ)
      → Begun s p slot (into_size strict ts) (into_entries s.types strict ts q) (named_targets ts) (record { targets = ts; query = q } ∷ [])
      (into_parts s.form.goto s.form.numbers s.form.slots strict ts q p next) env hid
      → GoesIn s around next (node s.form.goto p.node) env hid (3 * p.fors) n (15 * (1 + length ts)) (into s.set strict ts q (s.set.rows q env) env n)
  into_run known strict ts q p slot around next env hid n begun =
      let j = s.form.numbers.targets - width s + p.targets in
      let is : s.form.numbers.targets + p.targets ≡ width s + j = omega (arith, begun.has.fors) in
      let own = begun.has.intos.0 in
      let items = (out-Select q).list in
      subst (λ d. GoesIn s around next (node s.form.goto p.node) env hid (3 * p.fors) n (15 * (1 + length ts)) d)
      (into_same s.set strict (picked_casts s.types ts items) (conversions s.set.types ts items) ts
      (row_same (width s) s.set.types s.types known.typed ts items begun.has.sets) (s.set.rows q env) env n)
      (heavier (into_goes s known around next q own.reads ts own.some begun.has.sets env hid begun.wide p.node p.expr j (3 * p.fors) n
      (omega (arith, begun.has.fors)) (omega (arith, begun.has.fors, begun.has.targets, begun.long)) strict begun.has.entries
      (subst (λ hidden. AllStandIn s (parts_from s known around next ts q p.node p.expr strict hidden)) is begun.stand)) (omega arith))

  pub into_fits : (strict : Bool) (targets : List Target) (query : Select)
      → LayerFits (st.Into strict targets query) (st.Into strict targets query) (st.Into strict targets query) (st.Into strict targets query)
      (st.Into strict targets query)
  into_fits strict targets query = record {
    slots = refl;
    exprs = sym (entries_long s.types strict targets query);
    goes = λ known p slot around next env hid n begun. into_run known strict targets query p slot around next env hid n begun;
  }
