-- A query that is equivalent to a function is so with one turn in an iteration.
use Rattle.std.proofs.Common.{◌≡◌, ◌≢◌, refl, ap, sym, ◌∙◌, ℕ, suc, ◌+◌, ◌*◌, ◌<◌, ◌≤◌, List, Result, Ok, Err, IfOk, arith}
use Rattle.away_values.specs.declared.values.Answer.{Answer}
use Rattle.away_values.specs.declared.values.Answer.TheVariants as answer
use Rattle.away_values.specs.declared.values.Value.{Value}
use Rattle.away_trees.specs.declared.queries.Query.{Query}
use Rattle.away_trees.specs.declared.schemas.Schema.{Schema}
use Rattle.away_trees.specs.declared.statements.Function.{Function}
use Rattle.away_types.specs.CheckedFunctions.{IsChecked}
use Rattle.away_types.specs.CheckedQueries.{resolved_query}
use Rattle.away_types.specs.declared.slots.Slot.{Slot}
use Rattle.sql_meaning.specs.Context.{Rows}
use Rattle.sql_meaning.specs.Equivalent.{FunctionAnswer, IsEquivalent}
use Rattle.sql_meaning.specs.Working.{sql}
use Rattle.sql_meaning.proofs.Bounds.{answer_stays}
use Rattle.turn_equivalence.specs.InTurns.{IsEquivalentInTurns}
use Rattle.unrolling.specs.declared.unroller.Unrolled.{Unrolled}
use Rattle.unrolling.specs.Unrolled.{EquivalentWithin}

-- an answer that can't be another than `More`
more_or : (a : Answer) → (a ≢ answer.More → a ≡ answer.More) → a ≡ answer.More
more_or answer.More other = refl
more_or (answer.Value v) other = other (λ h. cc)
more_or (answer.Fault class) other = other (λ h. cc)
more_or (answer.Shape n) other = other (λ h. cc)

module _ (FitTables : List Rows → Type 0) (FitArgs : List Value → Type 0) (weight : ℕ) (f : FunctionAnswer) (q : Query)
    (e : IsEquivalent FitTables FitArgs weight f q) where
  ends : (T : List Rows) (args : List Value) (n i : ℕ) → FitTables T → FitArgs args → f T args n ≢ answer.More → (n + 1) * weight ≤ i * 1
      → sql q T args (suc i) ≡ f T args n
  ends T args n i t a over le =
      let there = e.ends T args n t a over in
      let few : (n + 1) * weight + 1 ≤ suc i = omega (arith, le) in
      answer_stays q T args ((n + 1) * weight + 1) (suc i) few (λ more. over (sym there ∙ more)) ∙ there

  goes_on : (T : List Rows) (args : List Value) (n i : ℕ) → FitTables T → FitArgs args → f T args n ≡ answer.More → i * 1 ≤ n
      → sql q T args i ≡ answer.More
  goes_on T args n i t a more le =
      let few : i ≤ n = omega (arith, le) in
      more_or (sql q T args i) (λ over. sym (answer_stays q T args i n few over) ∙ e.goes_on T args n t a more)

  once : (i : ℕ) → i * 1 ≡ i
  once i = omega arith

  pub in_one_turn : IsEquivalentInTurns FitTables FitArgs weight 1 f q
  in_one_turn = record {
    ends = ends;
    goes_on = goes_on;
    only = λ T args i t a over. ap (f T args) (once i) ∙ e.only T args i t a over;
  }

-- what is so with at most one turn is so with at most any number of them
more_turns : (s : Schema) (f : Function) (slots : List Slot) (most : ℕ) (q : Query) → 0 < most → EquivalentWithin s f slots 1 q
    → EquivalentWithin s f slots most q
more_turns s f slots most q some is = record {
  turns = is.turns;
  some = is.some;
  few = let one = is.few in omega (arith, some, one);
  equivalent = is.equivalent;
}

pub made_in_more : {E : Type 0} (s : Schema) (f : Function) (slots : List Slot) (most : ℕ) → 0 < most → (made : Result Unrolled E)
    → IfOk made (λ u. (written : Function) → IsChecked s written f slots → EquivalentWithin s f slots 1 (resolved_query s u.query))
    → IfOk made (λ u. (written : Function) → IsChecked s written f slots → EquivalentWithin s f slots most (resolved_query s u.query))
made_in_more s f slots most some (Ok u) is = λ written checked. more_turns s f slots most (resolved_query s u.query) some (is written checked)
made_in_more s f slots most some (Err e) is = is
