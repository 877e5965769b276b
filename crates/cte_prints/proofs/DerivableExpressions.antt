-- Each expression of a checked function can be derived where the query has it.
use Rattle.std.proofs.Common.{refl, ap, sym, subst, ℕ, zero, suc, ◌≤◌, List, [], ◌∷◌, get_or}
use Rattle.away_trees.specs.declared.queries.Expr.{Expr}
use Rattle.away_trees.specs.declared.queries.Expr.TheVariants as expr
use Rattle.away_trees.specs.declared.schemas.Schema.{Schema}
use Rattle.away_trees.specs.declared.statements.Function.{Function}
use Rattle.away_trees.specs.declared.statements.Stmt.{Stmt}
use Rattle.away_trees.specs.StatementAlgebra.{stmt_of}
use Rattle.away_trees.specs.Count.{nodes}
use Rattle.away_trees.specs.Limits.{most_nodes}
use Rattle.away_types.specs.declared.slots.Slot.{Slot}
use Rattle.away_types.specs.CheckedFunctions.{IsChecked}
use Rattle.away_types.specs.FunctionChecks.{around_in, body_of, slots_of}
use Rattle.elaboration.specs.Converting.{Around, into_converted}
use Rattle.select_into.specs.Entries.{into_entries}
use Rattle.block_forms.specs.Expressions.{sources, sourcing, source_expressions, expressions, whole_select}
use Rattle.block_forms.specs.Intos.{intos, selecting}
use Rattle.block_forms.specs.Slots.{shown_types}
use Rattle.block_forms.specs.FixedList.{fixed_list}
use Rattle.block_forms.specs.Places.{Each}
use Rattle.type_soundness.specs.Sorts.{Every}
use Rattle.type_soundness.proofs.Lists.{every_append}
use Rattle.cte_names.proofs.FewTargets.{IsFew, few_targets}
use Rattle.cte_names.proofs.IntoLists.{HasItsList, checked_lists}
use Rattle.cte_names.proofs.ConvertedEntries.{converted_goes}
use Rattle.cte_prints.specs.Derivation.{IsReadWithin}
use Rattle.cte_prints.proofs.Files.{sources_are_read}
use Rattle.cte_prints.specs.ExpressionLaws.{ExpressionsAreDerivable, FileExpressionsAreDerivable}
use Rattle.cte_prints.proofs.DerivableEntries.{IsWritableName, cast_derivable, marked_derivable, null_derivable}
use Rattle.cte_prints.proofs.DerivableFixed.{fixed_derivable}
use Rattle.cte_prints.proofs.DerivableIntos.{Fits, into_derivable, unmarked_like}
use Rattle.cte_prints.proofs.WrittenSources.{StandsFor, sources_stand}

every_of : (P : Expr → Type 0) (xs : List Expr) → Each P xs → Every P xs
every_of P [] h = tt
every_of P (x ∷ xs) h = (h 0 x refl, every_of P xs (λ i y e. h (suc i) y e))

module _ (schema : Schema) where
  nothing_derivable : IsWritableName schema expr.Null
  nothing_derivable t s ref tables sight own = null_derivable s t

  at_place : (es : List Expr) → Every (IsWritableName schema) es → (i : ℕ) → IsWritableName schema (get_or es i expr.Null)
  at_place [] h i = nothing_derivable
  at_place (e ∷ es) h zero = h.0
  at_place (e ∷ es) h (suc i) = at_place es h.1 i

-- ---- all of a function

both : {A : Type 0} (P Q : A → Type 0) (xs : List A) → Every P xs → Every Q xs → Every (λ x. P x × Q x) xs
both P Q [] h k = tt
both P Q (x ∷ xs) h k = ((h.0, k.0), both P Q xs h.1 k.1)

sources_derivable : (schema : Schema) (written f : Function) (slots : List Slot) → IsChecked schema written f slots → nodes f ≤ most_nodes
    → Every (StandsFor (IsReadWithin 64) schema) (sources whole_select (body_of schema written).it) → Every (IsWritableName schema) (source_expressions f)
unfolding sources intos
sources_derivable schema written f slots h few stand =
    let around : Around = around_in schema (slots_of schema written) written.result in
    let fits : Every (Fits schema) (intos f.body) =
    both HasItsList (IsFew most_nodes) (intos f.body) (checked_lists schema written f slots h) (few_targets f most_nodes few) in
    subst (λ (x : Stmt). Every (IsWritableName schema) (stmt_of (sourcing (into_entries (shown_types f))) x)) (sym (ap (λ (f : Function). f.body) h.function))
    (converted_goes whole_select (into_entries (shown_types f)) (StandsFor (IsReadWithin 64) schema) (IsWritableName schema) (Fits schema) around
    (λ e r. marked_derivable schema around.places e r) (λ t e r. cast_derivable schema around.places t e r)
    (λ strict targets q fit r. into_derivable schema (shown_types f) strict targets (into_converted around targets q) fit (unmarked_like schema around targets q r.0))
    (body_of schema written).it
    (subst (λ (x : Stmt). Every (Fits schema) (stmt_of selecting x)) (ap (λ (f : Function). f.body) h.function) fits) stand)

pub expressions_derivable : ExpressionsAreDerivable
expressions_derivable schema written f slots h few read i t s ref tables sight own =
    let stand = sources_stand (IsReadWithin 64) schema written f slots h (every_of (IsReadWithin 64) (sources whole_select written.body) read) in
    let all = sources_derivable schema written f slots h few stand in
    at_place schema (expressions f) (every_append (IsWritableName schema) (source_expressions f) fixed_list all (fixed_derivable schema)) i t s ref tables sight own

pub file_expressions_derivable : FileExpressionsAreDerivable
file_expressions_derivable bytes may schema written f slots h few read i t s ref tables sight own =
    expressions_derivable schema written f slots h few (sources_are_read bytes written may read) i t s ref tables sight own
