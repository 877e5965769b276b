-- The frame of a function gives the terms of its goto form the values for which they stand.
use Rattle.std.proofs.Common.{◌≡◌, refl, sym, ap, ◌∙◌, ℕ, zero, suc, ◌+◌, ◌*◌, ◌<◌, Bool, false, nat_lt, List, [], ◌∷◌, ◌++◌, map, length, replicate, slice_get, get_or, Some, arith, length-append}
use Rattle.std.proofs.lemmas.List.{length-map, length-replicate}
use Rattle.std.specs.List.{list_all}
use Rattle.away_values.specs.declared.types.Ty.{Ty}
use Rattle.away_values.specs.declared.types.Ty.TheVariants as ty
use Rattle.away_values.specs.declared.values.Value.{Value}
use Rattle.away_values.specs.declared.values.Value.TheVariants as val
use Rattle.away_values.specs.Results.{and_then, mapped}
use Rattle.away_trees.specs.declared.queries.Expr.{Expr}
use Rattle.away_trees.specs.declared.queries.Select.{Select}
use Rattle.away_trees.specs.declared.statements.Function.{Function}
use Rattle.away_types.specs.TypedSlots.{typed_slots}
use Rattle.away_types.specs.declared.slots.Slot.{Slot}
use Rattle.sql_meaning.specs.Context.{Rows}
use Rattle.sql_meaning.specs.Meaning.{value}
use Rattle.sql_meaning.specs.OneReturn.{body}
use Rattle.sql_meaning.specs.Reads.{Reads, allows, slots_of}
use Rattle.plsql_meaning.specs.Functions.{over}
use Rattle.plsql_meaning.specs.Outcomes.{Env}
use Rattle.plsql_meaning.specs.Sight.{query_of}
use Rattle.plsql_meaning.specs.Conversions.{converted_value}
use Rattle.select_into.specs.Laws.{IsSource, first_row}
use Rattle.away_trees.specs.declared.queries.Expr.TheViews.{out-Select}
use Rattle.select_into.specs.Entries.{cast_at, pick_entry, unmarked}
use Rattle.select_into.specs.Wrapped.{no_row, more_rows, picked, select_slots}
use Rattle.block_forms.specs.declared.fixed_list.Fixed.{Fixed}
use Rattle.block_forms.specs.declared.fixed_list.Fixed.TheVariants as fix
use Rattle.block_forms.specs.declared.forms.Goto.{Goto}
use Rattle.block_forms.specs.Expressions.{Sources, source_expressions, expressions, entry_value}
use Rattle.block_forms.specs.FixedList.{fixed_list, position, in_range_entry, past_end_entry, next_entry}
use Rattle.block_forms.specs.Frames.{frame_of}
use Rattle.block_forms.specs.Intos.{into_targets}
use Rattle.block_forms.specs.Laid.{laid}
use Rattle.block_forms.specs.Lowered.{setting, numbers_of}
use Rattle.block_forms.specs.Patterns as form
use Rattle.block_forms.specs.Places.{Each}
use Rattle.block_forms.specs.OwnSlots.{ReadsBelow}
use Rattle.block_forms.specs.Slots.{slot, types_of, hidden_slot, shown_slots, shown_types, own_slots}
use Rattle.block_forms.proofs.SlotCounts.{own_slots_counted, targets_counted}
use Rattle.goto_law.proofs.FixedList as fixed
use Rattle.goto_law.proofs.Known.{Sides, width, at, value_of, IsEntry, Entries, strict_at, Known}
use Rattle.goto_law.proofs.SelectEntries.{SelectLaws, query_reads}
use Rattle.goto_law.proofs.SourceValues.{source_value}

-- ---- the table

behind : (xs ys : Sources) (k : ℕ) → slice_get (xs ++ ys) (length xs + k) ≡ slice_get ys k
behind [] ys k = ap (slice_get ys) (omega arith)
behind (x ∷ xs) ys k =
    let e : length (x ∷ xs) + k ≡ suc (length xs + k) = omega arith in
    ap (slice_get (x ∷ (xs ++ ys))) e ∙ behind xs ys k

module _ (s : Sides) where
  -- the sources are its first entries
  first_entries : (k : ℕ) (es fs : Sources) → ((i : ℕ) → slice_get s.table (k + i) ≡ slice_get (es ++ fs) i) → Each (ReadsBelow (width s)) es
      → Entries s k es
  first_entries k [] fs same reads = tt
  first_entries k (e ∷ es) fs same reads =
      let here : k + 0 ≡ k = omega arith in (
        record { there = ap (slice_get s.table) (sym here) ∙ same 0; reads = reads 0 e refl },
        first_entries (suc k) es fs (λ i. let next : suc k + i ≡ k + suc i = omega arith in ap (slice_get s.table) next ∙ same (suc i))
            (λ i x is. reads (suc i) x is),
      )

  pub source_entries : (es fs : Sources) → s.table ≡ es ++ fs → Each (ReadsBelow (width s)) es → Entries s 0 es
  source_entries es fs same reads =
      first_entries 0 es fs (λ i. let e : 0 + i ≡ i = omega arith in ap (slice_get s.table) e ∙ ap (λ table. slice_get table i) same) reads

-- ---- NOT NULL

strict_is : (slots : List Slot) (i : ℕ) → get_or (map (λ (x : Ty × Bool). x.1) (typed_slots slots)) i false ≡ strict_at (slice_get slots i)
strict_is [] zero = refl
strict_is [] (suc i) = refl
strict_is (s ∷ slots) zero = refl
strict_is (s ∷ slots) (suc i) = strict_is slots i

-- ---- types

types_same : (xs ys : List Slot) (i : ℕ) → i < length xs
    → slice_get (map (λ (x : Ty × Bool). x.0) (typed_slots (xs ++ ys))) i ≡ Some (get_or (types_of xs) i ty.Bigint)
types_same [] ys i lt = absurd (omega (arith, lt))
types_same (x ∷ xs) ys zero lt = refl
types_same (x ∷ xs) ys (suc i) lt = types_same xs ys i (omega (arith, lt))

-- those behind the ones that the text names
abbrev hidden_slots : Function → List Slot
hidden_slots f = replicate (3 * (laid f.body).size.fors) (slot ty.Integer) ++ map (hidden_slot (shown_types f)) (into_targets f.body)

shown_long : (f : Function) → length (shown_slots f) ≡ (numbers_of f).counters
shown_long f =
    let hidden = replicate (3 * (laid f.body).size.fors) (slot ty.Integer) in
    let picked = map (hidden_slot (shown_types f)) (into_targets f.body) in
    omega (
      arith,
      own_slots_counted f (own_slots f) refl,
      length-append (shown_slots f) (hidden ++ picked),
      length-append hidden picked,
      length-replicate (3 * (laid f.body).size.fors) (slot ty.Integer),
      length-map (into_targets f.body) (hidden_slot (shown_types f)),
      targets_counted f.body,
    )

-- ---- a function over tables

module _ (f : Function) (slots : List Slot) (g : Goto) (tables : List Rows) where
  abbrev pub sides : Sides
  sides = record {
    frame = frame_of f (length slots) g tables;
    form = setting f slots g;
    set = over tables (typed_slots slots);
    table = expressions f;
    types = shown_types f;
    hidden = 3 * (laid f.body).size.fors + (laid f.body).size.targets;
  }

  module _ (laws : SelectLaws) (fixed_is : (numbers_of f).fixed ≡ length (source_expressions f)) (slots_are : slots ≡ own_slots f) where
    abbrev held : List ℕ → Env → List Value
    held names env = map (λ i. get_or env i val.Null) names

    entry : (e : Fixed) (names : List ℕ) (env : Env) → value_of sides (form.entry_term (numbers_of f).fixed e names) env ≡ fixed.fixed_value tables e
        (held names env)
    entry e names env =
        ap (λ o. entry_value tables o (held names env))
        (ap (λ n. slice_get (expressions f) (n + position e)) fixed_is ∙ behind (source_expressions f) fixed_list (position e))

    source : (k : ℕ) (e : Expr) → IsEntry sides k e → (env hid : Env) → length env ≡ width sides
        → value_of sides (form.source_term k e) (env ++ hid) ≡ value e (body tables env)
    source k e x env hid wide =
        ap (λ o. entry_value tables o (held (form.source_term k e).names (env ++ hid))) x.there
        ∙ source_value tables (numbers_of f).counters e x.reads env hid wide

    -- what an entry over a select asks, where it reads the slots of the select
    asked : (k : ℕ) (q : Select) (e : Expr) → slots_of e ≡ select_slots q → IsEntry sides k e → (env hid : Env) → length env ≡ width sides
        → value_of sides (form.select_term k q) (env ++ hid) ≡ value e (body tables env)
    asked k q e same x env hid wide = ap (λ names. value_of sides (form.term k names) (env ++ hid)) (sym same) ∙ source k e x env hid wide

    own : (q : Select) (x : ReadsBelow (width sides) (query_of q)) → IsSource (λ i. nat_lt i (width sides)) x.tables q
    own q x = record { alone = x.alone }

    -- with types for literal NULLs it reads the same
    own_picked : (types : List Ty) (q : Select) (x : ReadsBelow (width sides) (query_of q))
        → IsSource (λ i. nat_lt i (width sides)) x.tables (picked types q)
    own_picked types q x = record {
      alone =
          ap (list_all (allows (λ i. nat_lt i (width sides)) 0 x.tables))
          (query_reads (picked types q) ∙ ap (λ (u : Reads). u 0) (laws.typed types q).1 ∙ sym (query_reads q))
          ∙ x.alone;
    }

    pub known : Known sides
    known = record {
      sources = source;
      row_tests = λ k q e x env hid wide.
          asked k q (no_row (unmarked q)) (laws.slots [] q).0.same e env hid wide
          ∙ (laws.ask (λ i. nat_lt i (width sides)) x.tables (unmarked q) (own_picked [] q x) tables env).none
          ∙ ap (mapped _) ((laws.typed [] q).0 (body tables env));
      more_tests = λ k q e x env hid wide.
          asked k q (more_rows (unmarked q)) (laws.slots [] q).1.same e env hid wide
          ∙ (laws.ask (λ i. nat_lt i (width sides)) x.tables (unmarked q) (own_picked [] q x) tables env).more
          ∙ ap (mapped _) ((laws.typed [] q).0 (body tables env));
      picks = λ types place k q e x env hid wide.
          let cast = cast_at types (out-Select q).list place in
          asked k q (pick_entry types q place) ((laws.slots types q).2 cast place).same e env hid wide
          ∙ (laws.ask (λ i. nat_lt i (width sides)) x.tables (picked types q) (own_picked types q x) tables env).picks cast place
          ∙ ap (λ o. and_then o (λ rows. converted_value cast (at (first_row rows) place))) ((laws.typed types q).0 (body tables env));
      nulls = λ t env. entry (fix.Null t) [] env ∙ fixed.null_of tables t;
      null_tests = λ t slot env. entry (fix.IsNull t) (slot ∷ []) env ∙ fixed.null_test tables t (at env slot);
      positive_tests = λ slot env. entry fix.NotPositive (slot ∷ []) env ∙ fixed.positive_test tables (at env slot);
      ones = λ env. entry fix.One [] env ∙ fixed.one tables;
      copies = λ slot env. entry fix.Copy (slot ∷ []) env ∙ fixed.copy tables (at env slot);
      ranges =
          λ reverse cur last env. entry (in_range_entry reverse) (cur ∷ last ∷ []) env ∙ fixed.range tables reverse (at env cur) (at env last);
      ends = λ reverse step cur env. entry (past_end_entry reverse) (step ∷ cur ∷ []) env ∙ fixed.end tables reverse (at env step) (at env cur);
      moves =
          λ reverse cur step env. entry (next_entry reverse) (cur ∷ step ∷ []) env ∙ fixed.move tables reverse (at env cur) (at env step);
      typed = λ slot lt. ap (λ slots. slice_get (map (λ (x : Ty × Bool). x.0) (typed_slots slots)) slot) slots_are ∙ types_same (shown_slots f) (hidden_slots f) slot (omega (arith, lt, shown_long f));
      not_nulls = λ slot. strict_is slots slot;
    }
