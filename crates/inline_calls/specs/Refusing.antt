-- When the calls of a function in a query aren't replaced, by what is told: each only where none of
-- those before it holds.
use Rattle.std.specs.Prelude.{◌≡◌, true, Some}
use Rattle.away_trees.specs.declared.queries.Query.{Query}
use Rattle.away_trees.specs.declared.queries.Select.{Select}
use Rattle.away_trees.specs.declared.schemas.Schema.{Schema}
use Rattle.away_trees.specs.declared.statements.Function.{Function}
use Rattle.away_names.specs.declared.rule.Rule.{Rule}
use Rattle.away_types.specs.Refusals.{IsUnbroken}
use Rattle.block_forms.specs.declared.forms.Goto.{Goto}
use Rattle.inline_law.specs.Filled.{CallingSelect}
use Rattle.inline_law.specs.Fails.{Fails}
use Rattle.inline_calls.specs.Forms.{ArePlaced, HasForm, calling, misplaces}
use Rattle.inline_calls.specs.Judged.{calls_note}
use Rattle.inline_calls.specs.declared.refusals.CallsRefusal.{CallsRefusal}
use Rattle.inline_calls.specs.declared.refusals.CallsRefusal.TheVariants as refusal

-- the query is a select of the form, and a call stands in a wrong place
pub record RefusesPlace (f : Function) (q : Query) : Type 0 where
  pub select : Select
  pub form : HasForm f q select
  pub misplaced : misplaces f (calling f select) ≡ true

-- calls stand where they may, and the rule is the least that is broken
pub record RefusesRule (s : Schema) (f : Function) (q : Query) (rule : Rule) : Type 0 where
  pub select : Select
  pub form : HasForm f q select
  pub places : ArePlaced f select
  pub broken : (calls_note s f (calling f select)).least ≡ Some rule

-- no rule is broken, and the function may come to a fault of its own
pub record RefusesFaults (s : Schema) (f : Function) (goto : Goto) (q : Query) : Type 0 where
  pub select : Select
  pub form : HasForm f q select
  pub places : ArePlaced f select
  pub unbroken : IsUnbroken (calls_note s f (calling f select))
  pub fails : Fails goto

-- The query is a select of the form, whose calls stand where they may. It breaks no rule, and the
-- function comes to no fault of its own.
pub record AreCalls (s : Schema) (f : Function) (goto : Goto) (q : Query)
    (c : CallingSelect) : Type 0 where
  pub select : Select
  pub form : HasForm f q select
  pub places : ArePlaced f select
  pub unbroken : IsUnbroken (calls_note s f (calling f select))
  pub no_fails : Fails goto → ⊥
  pub is : c ≡ calling f select

-- by what is told
abbrev pub RefusesCalls : Schema → Function → Goto → Query → CallsRefusal → Type 0
RefusesCalls s f goto q refusal.Form = (x : Select) → HasForm f q x → ⊥
RefusesCalls s f goto q refusal.Place = RefusesPlace f q
RefusesCalls s f goto q (refusal.Rule rule) = RefusesRule s f q rule
RefusesCalls s f goto q refusal.Faults = RefusesFaults s f goto q
RefusesCalls s f goto q refusal.NoMemory = Unit {0}
