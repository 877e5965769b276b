-- The select of calls that the check accepts, resolved, is as the law of calls asks.
use Rattle.std.proofs.Common.{◌≡◌, refl, sym, ap, subst, ◌∙◌, Bool, true, false, ◌&&◌, ℕ, ◌<◌, ◌^◌, List, [], ◌∷◌, map, length, take}
use Rattle.std.specs.Prelude.{flat_map}
use Rattle.std.specs.List.{list_all}
use Rattle.away_trees.specs.Algebra.{expr_of}
use Rattle.away_trees.specs.declared.queries.Expr.{Expr}
use Rattle.away_trees.specs.declared.queries.Expr.TheViews.{out-Item, out-Select, out-roll-Select}
use Rattle.away_trees.specs.declared.queries.Item.{Item}
use Rattle.away_trees.specs.declared.queries.Select.{Select}
use Rattle.away_trees.specs.declared.schemas.Schema.{Schema}
use Rattle.away_trees.specs.declared.statements.Function.{Function}
use Rattle.away_names.specs.Lookups.{Scope}
use Rattle.away_names.specs.Naming.{naming}
use Rattle.away_names.specs.Tables.{outermost}
use Rattle.away_typing.specs.Aggregates.{Term, using_}
use Rattle.away_typing.specs.Trees.{uses_of}
use Rattle.away_typing.specs.Typing.{Places}
use Rattle.away_types.specs.CheckedRows.{rows_judged}
use Rattle.away_types.specs.Refusals.{IsUnbroken}
use Rattle.elaboration.specs.Elaborating.{elaborated}
use Rattle.elaboration_law.proofs.ErasedMarks.{marked_same}
use Rattle.elaboration_law.proofs.Unmarked.{uses_blind}
use Rattle.sql_meaning.specs.Meaning.{has_aggregate}
use Rattle.sql_meaning.specs.Reads.{Read, reads, reading}
use Rattle.sql_meaning.specs.Trees.{item}
use Rattle.type_soundness.specs.Sorts.{Every}
use Rattle.function_facts.proofs.Aggregates.{aggregates_are}
use Rattle.inline_law.specs.Answers as law
use Rattle.inline_law.specs.Answers.{IsCalling, IsOver, within}
use Rattle.inline_law.specs.Filled.{CallingSelect}
use Rattle.inline_calls.specs.Judged.{calls_note, judged_query}
use Rattle.inline_calls.specs.Parting.{Calls}
use Rattle.inline_calls.specs.Resolving.{resolved, slot_places}
use Rattle.inline_facts.specs.Facts.{CallsFit}
use Rattle.inline_facts.proofs.Arguments.{accepted, calls_are, own_list, resolved_made, select_is, typed}
use Rattle.inline_facts.proofs.Asked.{own_taken}
use Rattle.inline_facts.proofs.Depths.{any_depth}
use Rattle.inline_facts.proofs.ListOwn.{Good, good_of, list_own}
use Rattle.inline_facts.proofs.Own.{select_own}
use Rattle.inline_facts.proofs.NamedAggregates.{aggregates, named_aggregates}
use Rattle.inline_facts.proofs.PartedAggregates.{All_clear, ItemNone, None_in, clear_parts}
use Rattle.inline_facts.proofs.Reading.{IsPlain, arguments_plain, plain_within}
use Rattle.inline_facts.proofs.Resolved.{here, inner, made_at, resolved_expr}
use Rattle.inline_facts.proofs.Slotless.{slotless}
use Rattle.inline_facts.proofs.SomeCall.{Some_of, some_call}

-- ---- lists of what is read

both_true : (a b : Bool) → (a && b) ≡ true → (a ≡ true) × (b ≡ true)
both_true true b h = (refl, h)
both_true false b h = cc

module _ (calls tables : ℕ) where
  abbrev IsIn : Read → Type 0
  IsIn r = within calls tables r ≡ true

  every_in : (rs : List Read) → list_all (within calls tables) rs ≡ true → Every IsIn rs
  every_in [] h = tt
  every_in (r ∷ rs) h = let both = both_true (within calls tables r) (list_all (within calls tables) rs) h in (both.0, every_in rs both.1)

  all_in : (rs : List Read) → Every IsIn rs → list_all (within calls tables) rs ≡ true
  all_in [] h = refl
  all_in (r ∷ rs) h = (λ i. h.0 i && list_all (within calls tables) rs) ∙ all_in rs h.1

  -- what items read inside their select, they read
  items_in : (is : List Item) → Every (λ (i : Item). list_all (within calls tables) (expr_of reading (out-Item i).expr 1) ≡ true) is
      → Every (λ (i : Item). list_all (within calls tables) (reads (out-Item i).expr) ≡ true) is
  items_in [] h = tt
  items_in (i ∷ is) h =
      (all_in (reads (out-Item i).expr) (any_depth IsIn (λ c. refl) (out-Item i).expr 1 0 (every_in (expr_of reading (out-Item i).expr 1) h.0)), items_in is h.1)

-- ---- aggregates

module _ (o : Scope) (y : Select) (p : Places) where
  single_same : (e : Expr) → aggregates (resolved_expr o y p e) ≡ aggregates e
  unfolding elaborated uses_of
  single_same e =
      let named = ((expr_of naming e).judge (inner o y p)).it in
      aggregates_are (resolved_expr o y p e)
      ∙ (ap (λ (t : Term). t.uses.aggregate) (marked_same using_ uses_blind named (here o y p)) ∙ (sym (aggregates_are named) ∙ named_aggregates e (inner o y p)))

  item_single : (i : Item) → aggregates (out-Item (made_at o y p i)).expr ≡ aggregates (out-Item i).expr
  item_single i = single_same (out-Item i).expr

-- ---- the whole

module _ (s : Schema) (f : Function) (c : CallingSelect) where
  abbrev o : Scope
  o = outermost s

  abbrev p : Places
  p = slot_places s f c.calls

  abbrev tables : ℕ
  tables = length s.tables

  abbrev R : Expr → Expr
  R = resolved_expr o c.select p

  call_over : (es : List Expr) → Every (λ e. Every (IsPlain tables) (reads (R e))) es → Every None_in es → law.Every (IsOver 0 tables) (map R es)
  call_over [] h k = tt
  call_over (e ∷ es) h k = (record { reads = plain_within 0 tables (reads (R e)) h.0; single = single_same o c.select p e ∙ k.0 }, call_over es h.1 k.1)

  calls_over : (calls : Calls) → Every (Every (λ e. Every (IsPlain tables) (reads (R e)))) calls → All_clear calls → law.Every (λ (es : List Expr). law.Every (IsOver 0 tables) es) (map (map R) calls)
  calls_over [] h k = tt
  calls_over (es ∷ calls) h k = (call_over es h.0 k.0, calls_over calls h.1 k.1)

  some_resolved : (calls : Calls) → Some_of calls → Some_of (map (map R) calls)
  some_resolved calls h = (map R h.0, map (map R) h.1, ap (map (map R)) h.2)

  -- the list, resolved
  list_is : (out-Select (resolved s f c).select).list ≡ map (made_at o c.select p) (out-Select c.select).list
  list_is =
      ap (λ x. (out-Select x).list) (select_is s f c)
      ∙ (ap (λ x. x.list) (out-roll-Select _)
      ∙ (ap (take (length (out-Select c.select).list)) (resolved_made s f c).list_is ∙ own_taken o c.select p (out-Select c.select).list (flat_map (map item) c.calls)))

  own_is : (out-Select (resolved s f c).select).list ≡ own_list s f c
  own_is = ap (λ x. (out-Select x).list) (select_is s f c) ∙ ap (λ x. x.list) (out-roll-Select _)

  list_single : (is : List Item) → Every (ItemNone f.name) is → Every (λ (i : Item). has_aggregate (out-Item i).expr ≡ false) (map (made_at o c.select p) is)
  list_single [] h = tt
  list_single (i ∷ is) h = (item_single o c.select p i ∙ h.0, list_single is h.1)

  over_of : (calls : ℕ) (is : List Item) → Every (λ (i : Item). list_all (within calls tables) (reads (out-Item i).expr) ≡ true) is → Every (λ (i : Item). has_aggregate (out-Item i).expr ≡ false) is
      → law.Every (λ (i : Item). IsOver calls tables (out-Item i).expr) is
  over_of calls [] h k = tt
  over_of calls (i ∷ is) h k = (record { reads = h.0; single = k.0 }, over_of calls is h.1 k.1)

  whole : length s.tables < 2 ^ 64 → IsUnbroken (calls_note s f c) → Every (ItemNone f.name) (out-Select c.select).list → All_clear c.calls → Some_of c.calls → Good s f c
      → IsCalling s f (rows_judged s (judged_query f c)).params (resolved s f c)
  whole small unbroken list clear some_ good =
      let a = accepted s f c unbroken in
      let calls = length (resolved s f c).calls in
      let items = (out-Select (resolved s f c).select).list in
      let own : Every (λ (i : Item). list_all (within calls tables) (expr_of reading (out-Item i).expr 1) ≡ true) items =
      subst (Every (λ (i : Item). list_all (within calls tables) (expr_of reading (out-Item i).expr 1) ≡ true)) (sym list_is) (list_own s f c small a.names good) in
      record {
        select = select_own s f c small a.names calls (subst (Every (λ (i : Item). list_all (within calls tables) (expr_of reading (out-Item i).expr 1) ≡ true)) own_is own);
        list =
            over_of calls items
            (items_in calls tables items own)
            (subst (Every (λ (i : Item). has_aggregate (out-Item i).expr ≡ false)) (sym list_is) (list_single (out-Select c.select).list list));
        arguments = subst (law.Every (λ (es : List Expr). law.Every (IsOver 0 tables) es)) (sym (calls_are s f c)) (calls_over c.calls (arguments_plain s f c small a.names) clear);
        some = subst Some_of (sym (calls_are s f c)) (some_resolved c.calls some_);
        typed = λ T args fits given frames e. typed s f c unbroken T args fits given frames e;
      }

pub calls_fit : CallsFit
calls_fit s f goto bytes q c small reads are =
    let parts = clear_parts f are.select are.form.form in
    whole s f c small (subst (λ c. IsUnbroken (calls_note s f c)) (sym are.is) are.unbroken)
    (subst (λ (c : CallingSelect). Every (ItemNone f.name) (out-Select c.select).list) (sym are.is) parts.list)
    (subst (λ (c : CallingSelect). All_clear c.calls) (sym are.is) parts.calls)
    (subst (λ (c : CallingSelect). Some_of c.calls) (sym are.is) (some_call f are.select are.form.form are.places))
    (subst (Good s f) (sym are.is) (good_of s f q are.select (slotless reads.2) are.form.single))
