-- The laws of forms that belong together.
use Rattle.std.proofs.Common.{◌≡◌, ℕ, ◌<◌, ◌^◌, List, [], ◌∷◌, map, length, Ok, sym, ◌∙◌, subst}
use Rattle.away_trees.specs.declared.queries.Query.{Query}
use Rattle.away_trees.specs.declared.queries.Select.{Select}
use Rattle.away_trees.specs.declared.schemas.Schema.{Schema}
use Rattle.away_trees.specs.declared.statements.Function.{Function}
use Rattle.away_types.specs.declared.slots.Slot.{Slot}
use Rattle.away_types.specs.CheckedFunctions.{IsChecked}
use Rattle.away_values.specs.declared.types.Ty.{Ty}
use Rattle.away_values.specs.declared.values.Value.{Value}
use Rattle.away_values.specs.Results.{mapped, each_joined}
use Rattle.sql_meaning.specs.Context.{Rows}
use Rattle.sql_meaning.specs.Names.{bare}
use Rattle.block_forms.specs.declared.forms.Goto.{Goto}
use Rattle.block_forms.specs.declared.forms.Ssa.{Ssa}
use Rattle.block_forms.specs.Expressions.{expressions}
use Rattle.block_forms.specs.Frames.{frame_of}
use Rattle.block_forms.specs.Places.{Each}
use Rattle.call_forms.specs.declared.forms.Anf.{Anf}
use Rattle.call_forms.specs.declared.forms.Tail.{Tail}
use Rattle.call_forms.specs.Carried.{Carried}
use Rattle.call_forms.specs.Templated.{types_of, Templated}
use Rattle.function_facts.specs.OverTables.{IsOverTables}
use Rattle.function_facts.proofs.Sources.{over_their_tables}
use Rattle.cte_law.proofs.Theorem.{over_tables}
use Rattle.cte_law.proofs.Worlds.{World, OverTables}
use Rattle.together.specs.Tables.{IsFine}
use Rattle.batch_law.specs.Starts.{working_table, with_values, Start, start_row, AreCarried, AllFine, IsJoined}
use Rattle.batch_law.proofs.Joined.{same_table, one, many, is_joined}

abbrev pub world_of : Function → List Slot → Goto → Ssa → Anf → Tail → List Rows → World
world_of f slots g z a r tables = record {
  tables = tables;
  table = expressions f;
  types = types_of slots z;
  result = f.result;
  slots = length slots;
  params = length f.params;
  goto = g;
  anf = a;
  tail = r;
}

module _ (s : Schema) (written f : Function) (slots : List Slot) (g : Goto) (z : Ssa) (a : Anf) (r : Tail) (o q : Query) (carried : List Ty)
    (first selects : List Select) (checked : IsChecked s written f slots) (templated : Templated f slots (length s.tables) g z a r o)
    (carries : Carried f slots (length s.tables) g z a r carried first selects q) (tables : List Rows) (args : List Value)
    (many_tables : length tables ≡ length s.tables) (small : length tables < 2 ^ 64) (starts : List Start) (good : AreCarried carried starts)
    (begins : working_table q tables args 0 ≡ Ok (map (start_row (frame_of f (length slots) g tables) a r) starts)) where
  abbrev pub world : World
  world = world_of f slots g z a r tables

  pub over_world : OverTables world
  over_world =
      let few : length s.tables < 2 ^ 64 = subst (λ n. n < 2 ^ 64) many_tables small in
      let over = over_their_tables s written f slots checked few in
      over_tables (length tables) (expressions f) (subst (λ n. Each (IsOverTables n) (expressions f)) (sym many_tables) over)

  pub is_one : bare o ≡ bare (one world over_world small)
  is_one = (subst (λ n. Templated f slots n g z a r o) (sym many_tables) templated).query

  pub is_many : bare q ≡ bare (many world over_world small carried first selects args)
  is_many = (subst (λ n. Carried f slots n g z a r carried first selects q) (sym many_tables) carries).query

  pub fine_made : (i : ℕ) (ss : List Start) → AllFine o tables i ss → AllFine (one world over_world small) tables i ss
  fine_made i [] h = tt
  fine_made i (x ∷ ss) h = (subst IsFine (same_table o (one world over_world small) is_one tables x.1 i) h.0, fine_made i ss h.1)

  each_same : (i : ℕ) (ss : List Start)
      → each_joined (λ (x : Start). mapped (map (with_values x.0)) (working_table (one world over_world small) tables x.1 i)) ss
      ≡ each_joined (λ (x : Start). mapped (map (with_values x.0)) (working_table o tables x.1 i)) ss
  each_same i ss =
      (λ t. each_joined (λ (x : Start). mapped (map (with_values x.0)) (sym (same_table o (one world over_world small) is_one tables x.1 i) t)) ss)

  pub begins_made : working_table (many world over_world small carried first selects args) tables args 0
      ≡ Ok (map (start_row (frame_of f (length slots) g tables) a r) starts)
  begins_made = sym (same_table q (many world over_world small carried first selects args) is_many tables args 0) ∙ begins

  pub tables_joined : (i : ℕ) → IsJoined q o tables args starts i
  tables_joined i fine =
      same_table q (many world over_world small carried first selects args) is_many tables args i
      ∙ (is_joined world over_world small carried first selects args starts good begins_made i (λ j p. fine_made j starts (fine j p))
      ∙ each_same i starts)
