-- What is the tree of calls is a query over a recursive table, by the relations of its forms.
use Rattle.std.proofs.Common.{◌≡◌, ◌∙◌, ℕ, List, [], ◌∷◌, length}
use Rattle.away_trees.specs.declared.queries.Query.{Query}
use Rattle.away_trees.specs.declared.queries.Select.{Select}
use Rattle.away_trees.specs.declared.statements.Function.{Function}
use Rattle.away_types.specs.declared.slots.Slot.{Slot}
use Rattle.away_values.specs.declared.types.Ty.{Ty}
use Rattle.block_forms.specs.declared.forms.Goto.{Goto}
use Rattle.block_forms.specs.declared.forms.Ssa.{Ssa}
use Rattle.block_forms.specs.Expressions.{expressions}
use Rattle.block_forms.specs.Lowered.{Lowered}
use Rattle.block_forms.specs.Named.{Named}
use Rattle.call_forms.specs.declared.forms.Anf.{Anf}
use Rattle.call_forms.specs.declared.forms.Tail.{Tail}
use Rattle.call_forms.specs.Called.{Called}
use Rattle.call_forms.specs.Columned.{Columned}
use Rattle.call_forms.specs.Merged.{Merged}
use Rattle.call_law.proofs.FormTerms.{terms_fit}
use Rattle.call_law.proofs.HasTrees.{labels_have_trees}
use Rattle.cte_parts.specs.Names.{table_name, names_carrying}
use Rattle.cte_template.proofs.CarriedTemplate.{table_is_templates}
use Rattle.cte_template.specs.Making.{making_of}
use Rattle.inline_calls.specs.Tree.{recursive_item, tree_of}
use Rattle.inline_law.specs.Filled.{CallingSelect}
use Rattle.inline_law.specs.Written.{Inlined, carried_types, filled_select, starts_of_calls}
use Rattle.plsql_meaning.specs.Equivalent.{types_of}
use Rattle.sql_meaning.specs.Names.{bare}

module _ (f : Function) (slots : List Slot) (tables : ℕ) (goto : Goto) (ssa : Ssa) (anf : Anf) (tail : Tail)
    (lowered : Lowered f slots goto) (named : Named (length slots) (length f.params) goto ssa) (called : Called goto ssa anf)
    (merged : Merged goto anf tail) (columned : Columned slots ssa anf tail) where
  pub inlined : (c : CallingSelect) (q : Query) → bare q ≡ bare (tree_of f slots tables goto ssa anf tail c) → Inlined f slots tables goto ssa anf tail c q
  inlined c q same =
      let carried : List Ty = carried_types (types_of f) in
      let first : List Select = starts_of_calls (types_of f) f.result anf tail goto.entry c.select 1 c.calls in
      let last : Select = filled_select (recursive_item f slots tables goto ssa anf tail) (length tail.columns) c in
      let terms = terms_fit f slots goto lowered (length slots) (length f.params) ssa named anf called in
      record {
        name = table_name;
        names = names_carrying (length carried) (length tail.columns);
        carried = record {
          entry = merged.entry;
          trees = labels_have_trees slots goto ssa anf tail (expressions f) called columned terms merged;
          query = same ∙ table_is_templates (making_of f slots ssa anf tail) carried first tables (last ∷ []);
        };
      }
