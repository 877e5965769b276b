-- The law of a query with calls, for forms that belong together.
use Rattle.std.proofs.Common.{◌≡◌, ℕ, ◌<◌, ◌^◌, true, List, length, sym, ◌∙◌, subst, suc, [], ◌∷◌, refl, ap}
use Rattle.std.proofs.lemmas.List.{length-map}
use Rattle.std.specs.List.{list_all}
use Rattle.away_trees.specs.Algebra.{select_of}
use Rattle.away_trees.specs.Count.{weight}
use Rattle.away_trees.specs.Fits.{FitsSchema}
use Rattle.away_trees.specs.declared.queries.Expr.{Expr}
use Rattle.away_trees.specs.declared.queries.Expr.TheViews.{out-Item, out-Select}
use Rattle.away_trees.specs.declared.queries.Item.{Item}
use Rattle.away_trees.specs.declared.queries.Query.{Query}
use Rattle.away_trees.specs.declared.schemas.Schema.{Schema}
use Rattle.away_trees.specs.declared.statements.Function.{Function}
use Rattle.away_types.specs.CheckedFunctions.{IsChecked}
use Rattle.away_types.specs.TypedSlots.{typed_slots}
use Rattle.away_types.specs.declared.slots.Slot.{Slot}
use Rattle.away_values.specs.declared.types.Ty.{Ty}
use Rattle.away_values.specs.declared.values.Value.{Value}
use Rattle.sql_meaning.specs.Context.{Rows}
use Rattle.sql_meaning.specs.Equivalent.{FunctionAnswer, IsEquivalent}
use Rattle.sql_meaning.specs.Names.{bare}
use Rattle.sql_meaning.specs.Reads.{reading}
use Rattle.type_soundness.specs.Surroundings.{IsRow}
use Rattle.sql_meaning.proofs.Nameless.{same_rows, same_sql}
use Rattle.plsql_meaning.specs.Equivalent.{answers, types_of}
use Rattle.plsql_meaning.specs.Functions as functions
use Rattle.plsql_meaning.proofs.FunctionLaws.{no_shape}
use Rattle.block_forms.specs.Expressions.{expressions}
use Rattle.block_forms.specs.Lowered.{Lowered}
use Rattle.block_forms.specs.Named.{Named}
use Rattle.block_forms.specs.Places.{Each}
use Rattle.block_forms.specs.declared.forms.Goto.{Goto}
use Rattle.block_forms.specs.declared.forms.Ssa.{Ssa}
use Rattle.call_forms.specs.Bodies.{body_of}
use Rattle.call_forms.specs.Called.{Called}
use Rattle.call_forms.specs.Templated.{Templated}
use Rattle.call_forms.specs.declared.forms.Anf.{Anf}
use Rattle.call_forms.specs.declared.forms.Tail.{Tail}
use Rattle.function_facts.specs.OverTables.{IsOverTables}
use Rattle.function_facts.proofs.Sources.{over_their_tables}
use Rattle.cte_law.proofs.Composed.{raises}
use Rattle.cte_law.proofs.Raised.{bodies_raise_classes}
use Rattle.cte_law.proofs.Theorem.{over_tables}
use Rattle.cte_law.proofs.Visits.{BodyRaisesClasses}
use Rattle.cte_law.proofs.Worlds.{World, OverTables}
use Rattle.batch_law.proofs.CallTables as tables_of
use Rattle.batch_law.proofs.Composed.{world_of}
use Rattle.batch_law.proofs.Joined.{one}
use Rattle.inline_law.specs.Answers.{AnswersFilled, Every, IsCalling, IsOver, within}
use Rattle.inline_law.specs.Fails.{Fails}
use Rattle.inline_law.specs.Laws.{EquivalentAtAll}
use Rattle.type_soundness.specs.Arguments.{Supplied}
use Rattle.inline_law.specs.Filled.{CallingSelect}
use Rattle.inline_law.specs.Written.{Inlined}
use Rattle.inline_law.proofs.NoFails.{never_raises}
use Rattle.inline_law.proofs.Over as over
use Rattle.inline_law.proofs.Points.{answers_filled}

-- ---- queries that differ in names

renamed : (q : CallingSelect) (written made : Query) → bare written ≡ bare made → (weight : ℕ) (T : List Rows) (args : List Value) (fn : List Value → ℕ → _)
    → AnswersFilled q made weight T args fn → AnswersFilled q written weight T args fn
renamed q written made alike weight T args fn h = record {
  values = λ n found is. same_rows written made alike T args _ ∙ h.values n found is;
  more = λ n has never some. same_rows written made alike T args n ∙ h.more n has never some;
  class = λ k c is. h.class k c (sym (same_rows written made alike T args k) ∙ is);
  faults = λ c wrong k. (let found = h.faults c wrong k in (found.0, same_rows written made alike T args k ∙ found.1));
  calls = λ n c has some. (let found = h.calls n c has some in (found.0, same_rows written made alike T args _ ∙ found.1));
}

equivalent_made : (FitTables : List Rows → Type 0) (FitArgs : List Value → Type 0) (weight : ℕ) (function : FunctionAnswer) (o m : Query) → bare o ≡ bare m
    → IsEquivalent FitTables FitArgs weight function o → IsEquivalent FitTables FitArgs weight function m
equivalent_made FitTables FitArgs weight function o m alike h = record {
  ends = λ T args n fit typed is. sym (same_sql o m alike T args _) ∙ h.ends T args n fit typed is;
  goes_on = λ T args n fit typed is. sym (same_sql o m alike T args n) ∙ h.goes_on T args n fit typed is;
  only = λ T args k fit typed is.
      h.only T args k fit typed (λ more. is (sym (same_sql o m alike T args k) ∙ more)) ∙ same_sql o m alike T args k;
}

row_long : (ts : List Ty) (vs : List Value) → IsRow ts vs → length vs ≡ length ts
row_long [] [] h = refl
row_long (t ∷ ts) (v ∷ vs) h = ap suc (row_long ts vs h.1)
row_long [] (v ∷ vs) h = absurd h
row_long (t ∷ ts) [] h = absurd h

-- arguments of the sorts of the parameters' types are as many as the parameters
by_sorts : (FitTables : List Rows → Type 0) (f : Function) (function : FunctionAnswer) (o : Query) → IsEquivalent FitTables (λ args. length args ≡ length f.params) (weight f) function o
    → IsEquivalent FitTables (IsRow (types_of f)) (weight f) function o
by_sorts FitTables f function o h =
    let long : (args : List Value) → IsRow (types_of f) args → length args ≡ length f.params
    = λ args row. row_long (types_of f) args row ∙ length-map f.params (λ (p : List ℕ × Ty). p.1) in
    record {
      ends = λ T args n fit row is. h.ends T args n fit (long args row) is;
      goes_on = λ T args n fit row is. h.goes_on T args n fit (long args row) is;
      only = λ T args k fit row is. h.only T args k fit (long args row) is;
    }

module _ (s : Schema) (given f : Function) (slots : List Slot) (g : Goto) (z : Ssa) (a : Anf) (r : Tail) (o written : Query) (q : CallingSelect) (params : List (ℕ × Ty))
    (checked : IsChecked s given f slots) (few : length s.tables < 2 ^ 64) (lowered : Lowered f slots g) (named : Named (length slots) (length f.params) g z)
    (called : Called g z a) (templated : Templated f slots (length s.tables) g z a r o) (never : Fails g → ⊥) (inlined : Inlined f slots (length s.tables) g z a r q written)
    (calling : IsCalling s f params q) (same : EquivalentAtAll s f slots o) (T : List Rows) (fits : FitsSchema s T) (args : List Value) (supplied : Supplied args params) where
  abbrev w : World
  w = world_of f slots g z a r T

  as_many : length T ≡ length s.tables
  as_many = tables_of.as_many s.tables T fits

  small : length T < 2 ^ 64
  small = subst (λ n. n < 2 ^ 64) (sym as_many) few

  over_w : OverTables w
  over_w =
      over_tables (length T) (expressions f) (subst (λ n. Each (IsOverTables n) (expressions f)) (sym as_many) (over_their_tables s given f slots checked few))

  raise : (b : ℕ) → BodyRaisesClasses (body_of a r b)
  raise b = bodies_raise_classes a r (raises f slots g z a (length slots) (length f.params) lowered named called) b

  is_one : bare o ≡ bare (one w over_w small)
  is_one = (subst (λ n. Templated f slots n g z a r o) (sym as_many) templated).query

  here : Inlined f slots (length T) g z a r q written
  here = subst (λ n. Inlined f slots n g z a r q written) (sym as_many) inlined

  is_made : bare written ≡ bare (over.made w over_w small raise here.name here.names (types_of f) q args)
  is_made = here.carried.query

  pub query_answers : AnswersFilled q written (weight f) T args (answers f (typed_slots slots) T)
  query_answers =
      renamed q written (over.made w over_w small raise here.name here.names (types_of f) q args) is_made (weight f) T args (answers f (typed_slots slots) T)
      (answers_filled w over_w small raise here.name here.names (types_of f) q args (FitsSchema s) (weight f) (answers f (typed_slots slots))
      (equivalent_made (FitsSchema s) (IsRow (types_of f)) (weight f) (answers f (typed_slots slots)) o (one w over_w small) is_one
      (by_sorts (FitsSchema s) f (answers f (typed_slots slots)) o same)) fits
      (λ vs n k. no_shape (functions.over T (typed_slots slots)) f vs n k)
      (never_raises w (length slots) (length f.params) z named called never over_w small)
      (subst (λ n. list_all (within (length q.calls) n) (select_of reading q.select 0) ≡ true) (sym as_many) calling.select)
      (subst (λ n. Every (λ (es : List Expr). Every (IsOver 0 n) es) q.calls) (sym as_many) calling.arguments)
      (subst (λ n. Every (λ (i : Item). IsOver (length q.calls) n (out-Item i).expr) (out-Select q.select).list) (sym as_many) calling.list)
      calling.some
      (λ frames kept. calling.typed T args fits supplied frames kept))
