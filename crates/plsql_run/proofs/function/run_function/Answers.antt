use Rattle.std.proofs.Common.{◌≡◌, refl, ap, sym, subst, ◌∙◌, IfOk, List, [], ◌∷◌, map}
use Rattle.away_values.specs.declared.types.Ty.{Ty}
use Rattle.std.specs.Prelude.{Bool}
use Rattle.away_types.specs.declared.slots.Slot.{Slot}
use Rattle.away_types.specs.TypedSlots.{typed_slots}
use Rattle.sql_meaning.specs.AtBound.{rows_of_tables}
use Rattle.plsql_meaning.specs.Functions.{function_answer, over_slots}
use Rattle.plsql_run.specs.Settings.{Held, meant, not_nulls, types_of}
use Rattle.plsql_run.proofs.function.run_function.Goals as goal

types_are : (slots : List Slot) → types_of slots ≡ map (λ (x : Ty × Bool). x.0) (typed_slots slots)
types_are [] = refl
types_are (x ∷ xs) = ap (λ ts. x.ty ∷ ts) (types_are xs)

strict_are : (slots : List Slot) → not_nulls slots ≡ map (λ (x : Ty × Bool). x.1) (typed_slots slots)
strict_are [] = refl
strict_are (x ∷ xs) = ap (λ ts. x.not_null ∷ ts) (strict_are xs)

pub returns : goal.returns
returns c =
    let T = rows_of_tables c.args.tables.now.list in
    let held : List Slot → Held = λ slots. record { tables = T; types = types_of slots; not_null = not_nulls slots } in
    let slots = c.args.f.now.slots in
    subst (λ s. IfOk c.run_over.result (λ a. a ≡ function_answer s c.args.f.now.function c.args.args.now c.args.bound))
    (ap meant (c.new-setting.ensures ∙ ap held c.as_slice.ensures) ∙ (λ i. over_slots T (types_are slots i) (strict_are slots i)))
    c.run_over.ensures
