-- The query of a function that was read reads again.
use Rattle.std.proofs.Common.{◌≡◌, ap, subst, ◌∙◌, ◌<◌, ◌≤◌, ◌^◌, List, [], length, arith}
use Rattle.away_grammar.specs.Grammar as grammar
use Rattle.away_grammar.specs.Printing.{query_text}
use Rattle.away_grammar.specs.Texts.{ReadsQuery}
use Rattle.away_trees.specs.Count.{nodes}
use Rattle.away_trees.specs.Limits.{most_nodes}
use Rattle.away_trees.specs.declared.queries.Query.{Query}
use Rattle.away_trees.specs.declared.schemas.Schema.{Schema}
use Rattle.away_trees.specs.declared.statements.Function.{Function}
use Rattle.away_names.specs.declared.note.Times.{Times}
use Rattle.away_names.specs.declared.note.Times.TheVariants.{Never}
use Rattle.away_names.specs.Files.{file}
use Rattle.away_types.specs.CheckedQueries.{resolved_file, resolved_query}
use Rattle.away_types.specs.Refusals.{IsUnbroken}
use Rattle.elaboration.specs.Erasing.{erased_query}
use Rattle.elaboration.specs.Whole.{marked_whole}
use Rattle.elaboration_law.specs.Dots.{NamesWithoutMarks}
use Rattle.elaboration_law.specs.Laws.{WholeMarked}
use Rattle.away_types.specs.declared.slots.Slot.{Slot}
use Rattle.block_forms.specs.declared.forms.Goto.{Goto}
use Rattle.block_forms.specs.declared.forms.Ssa.{Ssa}
use Rattle.block_forms.specs.Expressions.{expressions}
use Rattle.block_forms.specs.Intos.{intos}
use Rattle.block_forms.specs.Lowered.{Lowered}
use Rattle.block_forms.specs.Named.{Named}
use Rattle.block_forms.specs.Places.{Each}
use Rattle.call_forms.specs.declared.forms.Anf.{Anf}
use Rattle.call_forms.specs.declared.forms.Tail.{Tail}
use Rattle.call_forms.specs.Called.{Called}
use Rattle.call_forms.specs.Columned.{Columned}
use Rattle.call_forms.specs.Merged.{Merged}
use Rattle.call_forms.specs.Templated.{Templated}
use Rattle.call_forms.specs.Tight.{Tight}
use Rattle.cte_template.specs.Making.{Making, making_of}
use Rattle.cte_template.specs.Numbers.{NumbersFit}
use Rattle.cte_template.specs.Tree.{tree}
use Rattle.cte_template.proofs.TreeIsTemplate.{tree_is_template}
use Rattle.qualified_names.specs.Trees.{qualified}
use Rattle.qualified_names.specs.Unambiguous.{IsClearFile}
use Rattle.qualified_names.proofs.FilesBack.{file_back}
use Rattle.cte_prints.proofs.PrintedTexts.{derived_text_reads}
use Rattle.cte_prints.specs.QueryLaws.{IsWritable, TreeIsDerivable}
use Rattle.cte_prints.specs.Derivable.{Derivable, Derivation}
use Rattle.cte_prints.proofs.DerivableExpressions.{file_expressions_derivable}
use Rattle.sql_text.specs.Refusals.{MayBeRead}
use Rattle.call_law.proofs.FormTerms.{terms_fit}
use Rattle.call_law.proofs.HasTrees.{labels_have_trees}
use Rattle.cte_names.specs.TreeLaws as names
use Rattle.cte_names.proofs.NamedOnce.{table_named_once}
use Rattle.cte_names.proofs.TreesClear.{trees_clear}
use Rattle.cte_types.specs.Linked.{HasLinkedItems}
use Rattle.cte_types.specs.Whole.{IsTypable, TreeBreaksNoRule, TreeHasTypes}
use Rattle.cte_prints.specs.Texts.{IsOfTexts, ReadsAgain, TreesReadAgain}
use Rattle.cte_prints.proofs.FewLabels.{few_labels, few_of, few_parameters}
use Rattle.cte_prints.proofs.Linked.{expressions_linked}
use Rattle.cte_prints.proofs.LinkedItems.{intos_linked}

-- what can be derived with few enough brackets
derived_reads : (q : Query) → Derivable 216 grammar.file q → MayBeRead (query_text q) × ReadsQuery (query_text q) q
derived_reads q derivable =
    let w : Derivation 216 grammar.file q [] = derivable [] in
    derived_text_reads 216 w.terminals q (omega arith) (w.writable tt) w.derives

module _ (no_rule : TreeBreaksNoRule) (has_types : TreeHasTypes) (whole_marked : WholeMarked) (blind : NamesWithoutMarks) (tree_derivable : TreeIsDerivable) (s : Schema)
    (f : Function) (slots : List Slot) (g : Goto) (z : Ssa) (a : Anf) (r : Tail) (texts : IsOfTexts s f slots) (low : Lowered f slots g)
    (named : Named (length slots) (length f.params) g z) (called : Called g z a) (merged : Merged g a r) (columned : Columned slots z a r) (tight : Tight slots g z a r)
    (few : length s.tables < 2 ^ 64) (fits : NumbersFit (making_of f slots z a r)) where
  abbrev m : Making
  m = making_of f slots z a r

  abbrev q : Query
  q = tree m g.entry (length s.tables)

  nodes_few : nodes f ≤ most_nodes
  nodes_few = few_of s texts.written f slots texts.checked texts.limits

  items : Each HasLinkedItems (intos f.body)
  items = intos_linked texts.function_text s texts.written f slots texts.function_fits texts.reads_function texts.checked

  numbers : names.NumbersFit m
  numbers = record { columns = fits.columns; aliases = fits.aliases }

  templated : Templated f slots (length s.tables) g z a r q
  templated = record {
    entry = merged.entry;
    trees = labels_have_trees slots g z a r (expressions f) called columned (terms_fit f slots g low (length slots) (length f.params) z named a called) merged;
    query = tree_is_template m g.entry (length s.tables);
  }

  clear : IsClearFile s (erased_query q)
  clear = trees_clear s texts.written f slots g z a r q texts.checked nodes_few columned templated numbers

  once : names.NamesTableOnce s q
  once = table_named_once s texts.written f slots g z a r q texts.checked nodes_few columned templated numbers

  typable : IsTypable s f
  typable = record {
    few = few;
    linked = expressions_linked texts.function_text s texts.written f slots texts.function_fits texts.reads_function texts.checked;
    items = items;
  }

  writable : IsWritable f r (length f.params)
  writable = record {
    few = nodes_few;
    items = items;
    parameters = few_parameters s texts.written f slots texts.checked texts.limits;
    labels = few_labels s texts.written f slots g z a r (length slots) (length f.params) texts.checked texts.limits low named called merged;
  }

  derivable : Derivable 216 grammar.file (qualified q)
  derivable =
      tree_derivable s texts.written f slots g z a r (length slots) (length f.params) texts.checked low named called merged columned tight writable numbers
      (file_expressions_derivable texts.function_text texts.function_fits s texts.written f slots texts.checked nodes_few
      texts.reads_function)

  -- names are resolved to the tree without marks, and these are found again

  names_back : (file s (qualified q)).query ≡ erased_query q
  names_back = subst (λ p. (file s p).query ≡ erased_query q) (blind.blind q) (file_back s (erased_query q) clear).query

  quiet : IsUnbroken (file s (qualified q)).note
  quiet = subst (λ p. IsUnbroken (file s p).note) (blind.blind q) (file_back s (erased_query q) clear).quiet

  is_tree : resolved_query s (qualified q) ≡ q
  is_tree =
      ap (λ (t : Times). marked_whole s t (file s (qualified q)).query) once.first
      ∙ (ap (λ p. marked_whole s Never p) names_back
      ∙ whole_marked s Never q
      (has_types s texts.written f slots g z a r (length slots) (length f.params) texts.checked low named called merged columned typable))

  reads_again : ReadsAgain s q
  reads_again =
      let text = derived_reads (qualified q) derivable in
      record {
        may_be_read = text.0;
        reads = text.1;
        unbroken =
            no_rule s texts.written f slots g z a r (length slots) (length f.params) texts.checked low named called merged columned typable
            (resolved_file s (qualified q)) is_tree quiet once.first once.second;
        is_tree = is_tree;
      }

pub trees_read : TreeBreaksNoRule → TreeHasTypes → WholeMarked → NamesWithoutMarks → TreeIsDerivable → TreesReadAgain
trees_read no_rule has_types whole_marked blind tree_derivable = reads_again no_rule has_types whole_marked blind tree_derivable
