-- The expressions of a checked function have no parameters: marks and casts add none, and the entries of a SELECT INTO have none that its select hasn't.
use Rattle.std.proofs.Common.{subst, refl, sym, zero, suc, List, [], ◌∷◌, map}
use Rattle.std.proofs.lemmas.Option.{same_Some}
use Rattle.away_values.specs.declared.types.Ty.{Ty}
use Rattle.away_trees.specs.declared.queries.Expr.{Expr}
use Rattle.away_trees.specs.declared.queries.Expr.TheBlock as b
use Rattle.away_trees.specs.declared.queries.Expr.TheVariants as expr
use Rattle.away_trees.specs.declared.queries.Select.{Select}
use Rattle.away_trees.specs.declared.schemas.Schema.{Schema}
use Rattle.away_trees.specs.declared.statements.Function.{Function}
use Rattle.away_trees.specs.declared.statements.Stmt.{Stmt}
use Rattle.away_trees.proofs.Equations as eq
use Rattle.away_types.specs.declared.slots.Slot.{Slot}
use Rattle.away_types.specs.CheckedFunctions.{IsChecked}
use Rattle.away_typing.specs.Parameters.{finding}
use Rattle.away_types.specs.FunctionChecks.{around_in, body_of, converted_body, resolved_function, slots_of}
use Rattle.elaboration.specs.Converting.{Around, converted, into_converted, marked}
use Rattle.plsql_meaning.specs.Sight.{query_of}
use Rattle.select_into.specs.Entries.{Target, into_entries}
use Rattle.block_forms.specs.Expressions.{Sources, sources, whole_select, expressions}
use Rattle.elaboration_law.proofs.Unmarked.{finding_blind}
use Rattle.elaboration_law.proofs.ErasedMarks.{marked_same, marked_select_same}
use Rattle.block_forms.specs.declared.fixed_list.Fixed.{Fixed}
use Rattle.block_forms.specs.declared.fixed_list.Fixed.TheVariants as fix
use Rattle.block_forms.specs.FixedList.{expression, entries, fixed_list}
use Rattle.block_forms.specs.Intos.{Into}
use Rattle.block_forms.specs.Places.{Each}
use Rattle.block_forms.specs.Slots.{shown_types}
use Rattle.cte_names.proofs.ConvertedEntries.{converted_goes}
use Rattle.cte_names.proofs.Sources.{IsResolved, checked_sources}
use Rattle.type_soundness.specs.Sorts.{Every}
use Rattle.type_soundness.proofs.Lists.{every_append}
use Rattle.cte_types.proofs.EntryUses.{IsQuiet, entries_quiet, inner_quiet, whole_found}
use Rattle.cte_types.proofs.IntoMarks.{converted_same}
use Rattle.cte_types.proofs.Fine.{quiet_is}
use Rattle.cte_types.proofs.NoParameters.{named_quiet}

-- ---- a checked function

resolved_quiet : (schema : Schema) (e : Expr) → IsResolved schema e → IsQuiet e
resolved_quiet schema e h = subst IsQuiet h.resolved (named_quiet h.written h.scope h.plain.in_function h.clean)

sources_quiet : (schema : Schema) (es : Sources) → Every (IsResolved schema) es → Every IsQuiet es
sources_quiet schema [] h = tt
sources_quiet schema (e ∷ es) h = (resolved_quiet schema e h.0, sources_quiet schema es h.1)

entry_quiet : (x : Fixed) → IsQuiet (expression x)
unfolding b.hidden-the_row-Expr-0 b.hidden-the_row-Expr-Chain-1-2-1 denote.Hole.Carrier.hidden
entry_quiet (fix.Null t) = λ p. refl
entry_quiet (fix.IsNull t) = λ p. refl
entry_quiet fix.NotPositive = λ p. refl
entry_quiet fix.AtMost = λ p. refl
entry_quiet fix.AtLeast = λ p. refl
entry_quiet fix.PastGreatest = λ p. refl
entry_quiet fix.PastLeast = λ p. refl
entry_quiet fix.Sum = λ p. refl
entry_quiet fix.Difference = λ p. refl
entry_quiet fix.One = λ p. refl
entry_quiet fix.Copy = λ p. refl

fixed_are_quiet : (xs : List Fixed) → Every IsQuiet (map expression xs)
fixed_are_quiet [] = tt
fixed_are_quiet (x ∷ xs) = (entry_quiet x, fixed_are_quiet xs)

fixed_quiet : Every IsQuiet fixed_list
fixed_quiet = fixed_are_quiet entries

each_of_every : (es : List Expr) → Every IsQuiet es → Each IsQuiet es
each_of_every [] h i x e = cc
each_of_every (y ∷ es) h zero x e = subst IsQuiet (same_Some y x e) h.0
each_of_every (y ∷ es) h (suc i) x e = each_of_every es h.1 i x e

-- ---- where numbers are converted

module _ (w : Around) where
  marked_quiet : (e : Expr) → IsQuiet e → IsQuiet (marked w.places e)
  marked_quiet e h = quiet_is _ _ (marked_same finding finding_blind e w.places) h

  cast_quiet : (t : Ty) (e : Expr) → IsQuiet e → IsQuiet (expr.Cast (marked w.places e) t)
  cast_quiet t e h = quiet_is _ _ (eq.of_cast finding (marked w.places e) t) (marked_quiet e h)

  into_quiet : (ts : List Target) (q : Select) → IsQuiet (query_of q) → IsQuiet (query_of (into_converted w ts q))
  into_quiet ts q h =
      quiet_is _ _ (whole_found (into_converted w ts q))
      (quiet_is _ _ (converted_same finding (λ x alias. refl) w ts q (marked_select_same finding finding_blind q w.places)) (inner_quiet q h))

  nothing_asked : (is : List Into) → Every (λ (i : Into). Unit {0}) is
  nothing_asked [] = tt
  nothing_asked (i ∷ is) = (tt, nothing_asked is)

  converted_quiet : (shown : List Ty) (x : Stmt) → Every IsQuiet (sources whole_select x) → Every IsQuiet (sources (into_entries shown) (converted w x))
  unfolding sources
  converted_quiet shown x h =
      converted_goes whole_select (into_entries shown) IsQuiet IsQuiet (λ (i : Into). Unit {0}) w marked_quiet cast_quiet
      (λ strict ts q r h. entries_quiet shown strict ts (into_converted w ts q) (into_quiet ts q h.0)) x (nothing_asked _) h

text_quiet : (schema : Schema) (f : Function) → Every (IsResolved schema) (sources whole_select (body_of schema f).it) → Each IsQuiet (expressions (resolved_function schema f))
text_quiet schema f h =
    let w = around_in schema (slots_of schema f) f.result in
    let shown = shown_types (resolved_function schema f) in
    each_of_every (expressions (resolved_function schema f))
    (every_append IsQuiet (sources (into_entries shown) (converted_body schema f)) fixed_list (converted_quiet w shown (body_of schema f).it (sources_quiet schema (sources whole_select (body_of schema f).it) h)) fixed_quiet)

pub checked_quiet : (schema : Schema) (written f : Function) (slots : List Slot) → IsChecked schema written f slots → Each IsQuiet (expressions f)
checked_quiet schema written f slots h =
    subst (λ f. Each IsQuiet (expressions f)) (sym h.function) (text_quiet schema written (checked_sources schema written f slots h))
