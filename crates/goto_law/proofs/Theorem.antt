-- The law of lowering.
use Rattle.std.proofs.Common.{◌≡◌, refl, sym, ap, ◌∙◌, subst, ℕ, suc, ◌+◌, ◌*◌, ◌-◌, ◌<◌, ◌≤◌, Bool, true, false, ◌&&◌, if◌then◌else◌, List, [], ◌∷◌, ◌++◌, length, replicate, get_or, append_assoc, arith}
use Rattle.std.specs.List.{list_any}
use Rattle.std.proofs.lemmas.List.{length-append, length-replicate, replicate-append-replicate, get_or_append_left}
use Rattle.away_values.specs.declared.values.Answer.{Answer}
use Rattle.away_values.specs.declared.values.Answer.TheVariants as answer
use Rattle.away_values.specs.declared.values.Value.{Value}
use Rattle.away_values.specs.declared.values.Value.TheVariants as val
use Rattle.away_values.specs.Operators.{is_null}
use Rattle.away_trees.specs.declared.statements.Function.{Function}
use Rattle.away_trees.specs.Count.{nodes, nodes_of, weight}
use Rattle.away_trees.specs.StatementAlgebra.{stmt_of}
use Rattle.away_types.specs.declared.slots.Slot.{Slot}
use Rattle.sql_meaning.specs.Context.{Rows}
use Rattle.plsql_meaning.specs.Functions.{answer_of, begun}
use Rattle.plsql_meaning.specs.Outcomes.{Env, Outcome, normal, exits, continues, returns, faults, more, Done, no_return}
use Rattle.plsql_meaning.specs.Statements.{running, meaning}
use Rattle.select_into.specs.Entries.{into_entries}
use Rattle.type_soundness.specs.Sorts.{Every}
use Rattle.block_forms.specs.declared.forms.Goto.{Goto}
use Rattle.block_forms.specs.Expressions.{sources, source_expressions, sourcing}
use Rattle.block_forms.specs.FixedList.{fixed_list}
use Rattle.block_forms.specs.Intos.{selecting, intos}
use Rattle.block_forms.specs.Laid.{laid, laying}
use Rattle.block_forms.specs.Lowered.{Lowered, numbers_of, params_parts, body_place}
use Rattle.block_forms.specs.MachineLaws.{stays_from, few_from, heads_from}
use Rattle.block_forms.specs.Machines.{IsOver, Ran}
use Rattle.block_forms.specs.Patterns.{Part, node}
use Rattle.block_forms.specs.Places.{Each}
use Rattle.block_forms.specs.Runs.{first_slots, goto_machine}
use Rattle.goto_law.specs.Law.{Meets, KeepsAnswers, OnlyItsAnswers, Waits, function_at, form_at}
use Rattle.block_forms.specs.OwnSlots.{IsInto, OwnSlots}
use Rattle.block_forms.specs.Slots.{shown_types}
use Rattle.block_forms.proofs.SlotCounts.{own_slots_counted}
use Rattle.block_forms.specs.Targets.{Targets, targets, targeting}
use Rattle.goto_law.proofs.Fits.{AllBelow, Fits, Has}
use Rattle.goto_law.proofs.Known.{Sides, width, GoesIn, Known}
use Rattle.goto_law.proofs.KnownFrames.{source_entries, sides, known}
use Rattle.goto_law.proofs.NodeCounts.{statement_nodes}
use Rattle.goto_law.proofs.Parameters.{Enters, entered}
use Rattle.goto_law.proofs.Parts.{left, right}
use Rattle.goto_law.proofs.SelectEntries.{SelectLaws}
use Rattle.goto_law.proofs.Simulation.{statement_fits}
use Rattle.goto_law.proofs.Stretches.{run, dest, Reaches, Ends, Leads, then_ends, then_leads, fails_there}

-- ---- the weight is enough

enough : (c u n l p : ℕ) → n ≡ u + l → suc p + 15 * c * suc u + 1 ≤ suc n * (16 * (p + c + 1))
enough c u n l p e = subst (λ m. suc p + 15 * c * suc u + 1 ≤ suc m * (16 * (p + c + 1))) (sym e) (omega arith)

enough_for_null : (c n p : ℕ) → suc p + 1 ≤ suc n * (16 * (p + c + 1))
enough_for_null c n p = omega arith

enough_for_turns : (c n p : ℕ) → n ≤ suc n * (16 * (p + c + 1))
enough_for_turns c n p = omega arith

all_below : (slots : ℕ) (ts : Targets) → Each (λ slot. slot < slots) ts → AllBelow slots ts
all_below slots [] h = tt
all_below slots (t ∷ ts) h = (h 0 t refl, all_below slots ts (λ i x is. h (suc i) x is))

every_one : {X : Type 0} (P : X → Type 0) (xs : List X) → Each P xs → Every P xs
every_one P [] h = tt
every_one P (x ∷ xs) h = (h 0 x refl, every_one P xs (λ i y is. h (suc i) y is))

module _ (laws : SelectLaws) (f : Function) (slots : List Slot) (g : Goto) (low : Lowered f slots g) (own : OwnSlots f slots) (tables : List Rows) (args : List Value)
    (typed : length args ≡ length f.params) where
  abbrev s : Sides
  s = sides f slots g tables

  abbrev params : ℕ
  params = length f.params

  fits : Fits s (stmt_of laying f.body) (stmt_of (running s.set) f.body) (stmt_of (sourcing (into_entries (shown_types f))) f.body)
      (stmt_of targeting f.body) (stmt_of selecting f.body)
  fits = statement_fits s f.body

  fixed_is : (numbers_of f).fixed ≡ length (source_expressions f)
  unfolding laid sources
  fixed_is = fits.exprs

  knows : Known s
  knows = known f slots g tables laws fixed_is own.slots_are

  -- ---- where the run begins

  abbrev first : Env
  first = first_slots s.frame args

  abbrev hidden : Env
  hidden = replicate s.hidden val.Null

  abbrev variables : Env
  variables = begun s.set f args

  abbrev unset : Env
  unset = replicate (meaning s.set f.body).vars val.Null

  wide : length variables ≡ width s
  unfolding laid
  wide = length-append args unset ∙ omega (arith, typed, length-replicate (meaning s.set f.body).vars val.Null, fits.slots)

  begins : first ≡ variables ++ hidden
  unfolding laid
  begins =
      let e : length slots - params ≡ (meaning s.set f.body).vars + s.hidden = omega (arith, own_slots_counted f slots own.slots_are, fits.slots) in
      ap (λ k. args ++ replicate k val.Null) e ∙ ap (λ vs. args ++ vs)
      (sym (replicate-append-replicate (meaning s.set f.body).vars s.hidden val.Null))
      ∙ sym (append_assoc args unset hidden)

  arguments : (i : ℕ) → i < length args → get_or first i val.Null ≡ get_or args i val.Null
  arguments i lt = get_or_append_left args (replicate (length slots - params) val.Null) val.Null i lt

  abbrev param_parts : List Part
  param_parts = params_parts s.form f.strict f.result 0 f.params

  abbrev body_parts : List Part
  body_parts = (laid f.body).parts s.form (body_place f) [] g.finish

  -- from the entry to the body, or to NULL
  abbrev Entered : Bool → Type 0
  Entered null = Enters s knows f.result first null g.entry (suc params) params

  enters : Entered (f.strict && list_any is_null args)
  enters =
      entered s knows f.result first f.strict g.entry f.params args typed arguments low.stand.0 (left g.blocks param_parts body_parts low.stand.1.1)

  -- ---- the body

  body_has : Has s (body_place f) (stmt_of laying f.body).size (stmt_of (sourcing (into_entries (shown_types f))) f.body)
      (stmt_of targeting f.body) (stmt_of selecting f.body)
  unfolding laid sources targets intos
  body_has = record {
    slots = omega arith;
    fors = omega arith;
    targets = omega arith;
    entries = source_entries s (source_expressions f) fixed_list refl own.reads;
    sets = all_below (width s) (stmt_of targeting f.body) own.sets;
    intos = every_one (IsInto (width s)) (stmt_of selecting f.body) own.intos;
  }

  abbrev ended : ℕ → Done
  ended n = (meaning s.set f.body).run params variables n

  abbrev body_nodes : ℕ
  body_nodes = (stmt_of laying f.body).size.node

  body_goes : (n : ℕ) → GoesIn s [] g.finish (node g params) variables hidden (3 * 0) n (15 * body_nodes) (ended n)
  unfolding laid
  body_goes n = fits.goes knows (body_place f) params [] g.finish variables hidden n (record {
    placed = refl;
    has = body_has;
    stand = right g.blocks param_parts body_parts low.stand.1.1;
    wide = wide;
    long = length-replicate s.hidden val.Null;
  })

  abbrev weighs : ℕ
  weighs = 16 * (params + body_nodes + 1)

  weight_is : weight f ≡ weighs
  unfolding weight nodes nodes_of
  weight_is = ap (λ c. 16 * (params + c + 1)) (sym (statement_nodes f.body))

  -- a run of the form from the entry
  abbrev runs : ℕ → Ran
  runs k = run s.frame g k g.entry first 0

  module _ (n : ℕ) where
    abbrev visits : ℕ
    visits = suc n * weighs

    -- how many visits there are at most, where so many turns are used
    abbrev spent : ℕ → ℕ
    spent u = suc params + 15 * body_nodes * suc u

    -- ---- the answer, by what the body's end leads to

    at_finish : (u l : ℕ) (env : Env) → n ≡ u + l → Reaches s.frame g g.entry first (spent u) u g.finish env
        → (runs visits).answer ≡ answer.Fault no_return
    at_finish u l env e r =
        let x = then_ends {m = spent u + 1} r (fails_there low.stand.1.0) (omega arith) in
        x.by visits 0 (omega (arith, x.at_most, enough body_nodes u n l params e))

    at_end : (u l : ℕ) (a : Answer) → n ≡ u + l → Ends s.frame g g.entry first (spent u) a → (runs visits).answer ≡ a
    at_end u l a e r = r.by visits 0 (omega (arith, r.at_most, enough body_nodes u n l params e))

    at_more : (u l c : ℕ) (env : Env) → n ≡ u + l → l ≡ 0 → Reaches s.frame g g.entry first (spent u) (suc u) c env → suc n ≤ (runs visits).heads
    at_more u l c env e none r =
        let k = visits - r.visits in
        let same = r.by k visits 0 (r.heads + 0) (omega (arith, r.at_most, enough body_nodes u n l params e)) refl in
        let count = heads_from (goto_machine s.frame g) k (c, env) (r.heads + 0) in
        subst (λ x. suc n ≤ x.heads) (sym same) (omega (arith, count, r.at_least))

    by_outcome : (o : Outcome) (u l : ℕ) (env : Env) → n ≡ u + l → Leads s.frame g (dest g.finish [] g.finish o) env g.entry first (spent u) u l
        → Meets (answer_of o) (runs visits) n
    by_outcome normal u l env e r = at_finish u l env e r
    by_outcome (exits x) u l env e r = at_finish u l env e r
    by_outcome (continues x) u l env e r = at_finish u l env e r
    by_outcome (returns v) u l env e r = at_end u l (answer.Value v) e r
    by_outcome (faults c) u l env e r = at_end u l (answer.Fault c) e r
    by_outcome more u l env e r = at_more u l r.1 r.2 e r.0 r.3

    body_meets : Reaches s.frame g g.entry first (suc params) 0 (node g params) first → Meets (answer_of (ended n).outcome) (runs visits) n
    body_meets l =
        let p = body_goes n in
        let d = ended n in
        let there = subst (λ env. Reaches s.frame g g.entry first (suc params) 0 (node g params) env) begins l in
        let whole = then_leads (dest g.finish [] g.finish d.outcome) (15 * body_nodes * suc p.used) p.used (spent p.used) p.used d.left
        (d.env ++ p.hidden) there p.leads (omega arith) (omega arith) in
        by_outcome d.outcome p.used d.left (d.env ++ p.hidden) p.turns whole

    -- with STRICT a NULL argument makes NULL the answer
    meets_where : (null : Bool) → Entered null → Meets (if null then answer.Value val.Null else answer_of (ended n).outcome) (runs visits) n
    meets_where true l = l.by visits 0 (omega (arith, l.at_most, enough_for_null body_nodes n params))
    meets_where false l = body_meets l

    pub meets : Meets (function_at f slots g tables args n) (runs visits) n
    meets = meets_where (f.strict && list_any is_null args) enters

    -- ---- a run of as many visits as turns

    same_where_over : IsOver (runs n).answer → runs visits ≡ runs n
    same_where_over over = stays_from (goto_machine s.frame g) n visits (g.entry, first) 0 (enough_for_turns body_nodes n params) over

    not_over : suc n ≤ (runs visits).heads → IsOver (runs n).answer → ⊥
    not_over h over = absurd (omega (arith, h, ap (λ r. r.heads) (same_where_over over), few_from (goto_machine s.frame g) n (g.entry, first) 0))

    pub only : (a : Answer) → Meets a (runs visits) n → IsOver (runs n).answer → a ≡ (runs n).answer
    only answer.More h over = absurd (not_over h over)
    only (answer.Value v) h over = sym h ∙ ap (λ r. r.answer) (same_where_over over)
    only (answer.Fault c) h over = sym h ∙ ap (λ r. r.answer) (same_where_over over)
    only (answer.Shape k) h over = sym h ∙ ap (λ r. r.answer) (same_where_over over)

    pub waits : suc n ≤ (runs visits).heads → (a : Answer) → (runs n).answer ≡ a → a ≡ answer.More
    waits h answer.More e = refl
    waits h (answer.Value v) e = absurd (not_over h (subst IsOver (sym e) tt))
    waits h (answer.Fault c) e = absurd (not_over h (subst IsOver (sym e) tt))
    waits h (answer.Shape k) e = absurd (not_over h (subst IsOver (sym e) tt))

-- ---- the law

module _ (laws : SelectLaws) where
  pub keeps_answers : KeepsAnswers
  keeps_answers f slots g low own tables args typed n =
      subst (λ w. Meets (function_at f slots g tables args n) (form_at f slots g tables args (suc n * w)) n)
      (sym (weight_is laws f slots g low own tables args typed)) (meets laws f slots g low own tables args typed n)

  pub only_its_answers : OnlyItsAnswers
  only_its_answers f slots g low own tables args typed k over =
      only laws f slots g low own tables args typed k (function_at f slots g tables args k) (meets laws f slots g low own tables args typed k) over

  pub waits_for_turns : Waits
  waits_for_turns f slots g low own tables args typed n e =
      let run_at = form_at f slots g tables args (visits laws f slots g low own tables args typed n) in
      let more = subst (λ a. Meets a run_at n) e (meets laws f slots g low own tables args typed n) in
      waits laws f slots g low own tables args typed n more (form_at f slots g tables args n).answer refl
