-- What a verdict on the forms between a function and a query says.
use Rattle.std.specs.Prelude.{List, [], ◌∷◌}
use Rattle.away_trees.specs.declared.queries.Query.{Query}
use Rattle.away_trees.specs.declared.schemas.Schema.{Schema}
use Rattle.away_trees.specs.declared.statements.Function.{Function}
use Rattle.away_types.specs.declared.slots.Slot.{Slot}
use Rattle.call_forms.specs.declared.forms.Forms.{Forms}
use Rattle.equivalence.specs.Accepted.{AcceptedForms, Holds}
use Rattle.equivalence.specs.declared.relation.Relation.{Relation}
use Rattle.equivalence.specs.declared.relation.Relation.TheVariants.{
  Lowered,
  Named,
  Called,
  Merged,
  Columned,
  Templated,
}
use Rattle.stage_check.specs.declared.verdict.Verdict.{Verdict}
use Rattle.stage_check.specs.declared.verdict.Verdict.TheVariants.{Accepted, Fails}

-- the relations of the stages before
abbrev pub earlier : Relation → List Relation
earlier Lowered = []
earlier Named = Lowered ∷ []
earlier Called = Lowered ∷ Named ∷ []
earlier Merged = Lowered ∷ Named ∷ Called ∷ []
earlier Columned = Lowered ∷ Named ∷ Called ∷ Merged ∷ []
earlier Templated = Lowered ∷ Named ∷ Called ∷ Merged ∷ Columned ∷ []

-- a function with its slots, over the tables of a schema, four forms, and a query
module _ (s : Schema) (f : Function) (slots : List Slot) (forms : Forms) (q : Query) where
  abbrev pub EachHolds : List Relation → Type 0
  EachHolds [] = Unit {0}
  EachHolds (r ∷ rs) = Holds s f slots forms q r × EachHolds rs

  -- all relations hold, or this one doesn't and those before it do
  abbrev pub Judges : Verdict → Type 0
  Judges Accepted = AcceptedForms s f slots forms q
  Judges (Fails r) = EachHolds (earlier r) × (Holds s f slots forms q r → ⊥)
