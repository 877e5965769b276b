-- The relations between a function, the forms that lead to its query and the query, and what all
-- promise together.
use Rattle.std.specs.Prelude.{◌≡◌, List, length}
use Rattle.away_trees.specs.Count.{weight}
use Rattle.away_trees.specs.Fits.{FitsSchema}
use Rattle.away_trees.specs.declared.queries.Query.{Query}
use Rattle.away_trees.specs.declared.schemas.Schema.{Schema}
use Rattle.away_trees.specs.declared.statements.Function.{Function}
use Rattle.away_types.specs.TypedSlots.{typed_slots}
use Rattle.away_types.specs.declared.slots.Slot.{Slot}
use Rattle.sql_meaning.specs.Equivalent.{IsEquivalent}
use Rattle.plsql_meaning.specs.Equivalent.{Equivalent, answers}
use Rattle.block_forms.specs.Lowered.{Lowered as IsLowered}
use Rattle.block_forms.specs.Named.{Named as IsNamed}
use Rattle.call_forms.specs.declared.forms.Forms.{Forms}
use Rattle.call_forms.specs.Called.{Called as IsCalled}
use Rattle.call_forms.specs.Columned.{Columned as IsColumned}
use Rattle.call_forms.specs.Merged.{Merged as IsMerged}
use Rattle.call_forms.specs.Templated.{Templated as IsTemplated}
use Rattle.equivalence.specs.declared.relation.Relation.{Relation}
use Rattle.equivalence.specs.declared.relation.Relation.TheVariants.{
  Lowered,
  Named,
  Called,
  Merged,
  Columned,
  Templated,
}

-- a checked function with its slots, over the tables of a schema, four forms, and a query
module _ (s : Schema) (f : Function) (slots : List Slot) (forms : Forms) (q : Query) where
  -- the relation of this name
  abbrev pub Holds : Relation → Type 0
  Holds Lowered = IsLowered f slots forms.goto
  Holds Named = IsNamed (length slots) (length f.params) forms.goto forms.ssa
  Holds Called = IsCalled forms.goto forms.ssa forms.anf
  Holds Merged = IsMerged forms.goto forms.anf forms.tail
  Holds Columned = IsColumned slots forms.ssa forms.anf forms.tail
  Holds Templated = IsTemplated f slots (length s.tables) forms.goto forms.ssa forms.anf forms.tail q

  -- all six relations
  pub record AcceptedForms : Type 0 where
    pub lowered : Holds Lowered
    pub named : Holds Named
    pub called : Holds Called
    pub merged : Holds Merged
    pub columned : Holds Columned
    pub templated : Holds Templated

-- The query is equivalent to the function with these slots, over all tables that fit the schema and
-- all arguments of the parameters' types. An answer that the function has within n turns is the
-- query's at (n + 1) * weight + 1 iterations. Where the function needs more than n turns, the query
-- has no answer at n iterations. An answer that the query has at k iterations is the function's
-- within k turns.
abbrev pub EquivalentWith : Schema → Function → List Slot → Query → Type 0
EquivalentWith s f slots q = Equivalent s f (typed_slots slots) q

-- The same at as many arguments as there are parameters, whatever they are: an expression of a
-- query may come to a value that no column of its type holds.
abbrev pub EquivalentAtAll : Schema → Function → List Slot → Query → Type 0
EquivalentAtAll s f slots q =
    IsEquivalent (FitsSchema s) (λ args. length args ≡ length f.params) (weight f)
    (answers f (typed_slots slots)) q
