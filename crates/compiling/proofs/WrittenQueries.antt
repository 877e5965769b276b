-- What the text of a function's query tells.
use Rattle.std.proofs.Common.{◌∙◌, ap, sym, subst, ◌<◌, ◌^◌, List, length, string_bytes}
use Rattle.away_grammar.specs.Printing.{query_text}
use Rattle.away_grammar.specs.Texts.{ReadsQuery}
use Rattle.away_trees.specs.declared.schemas.Schema.{Schema}
use Rattle.away_trees.specs.declared.statements.Function.{Function}
use Rattle.away_types.specs.CheckedQueries.{query_note, resolved_query}
use Rattle.away_types.specs.declared.slots.Slot.{Slot}
use Rattle.away_types.specs.Refusals.{IsUnbroken}
use Rattle.compiling.specs.Compiled.{IsCompiled}
use Rattle.compiling.specs.declared.compiler.WrittenQuery.{WrittenQuery}
use Rattle.compiling.specs.declared.forms.Translated.{Translated}
use Rattle.compiling.specs.WrittenQuery.{IsWritten}
use Rattle.compiling.specs.Translated.{IsTranslated}
use Rattle.compiling.proofs.Spelling.{spelling}
use Rattle.qualified_names.specs.Trees.{qualified}
use Rattle.equivalence.specs.Accepted.{AcceptedForms}
use Rattle.cte_prints.specs.Texts.{IsOfTexts, ReadsAgain, TreesReadAgain}
use Rattle.sql_text.specs.Refusals.{MayBeRead}

module _ (s : Schema) (f : Function) (slots : List Slot) (x : Translated) (is : IsTranslated s f slots x) where
  -- the text of the tree reads again
  again : TreesReadAgain → IsOfTexts s f slots → length s.tables < 2 ^ 64 → ReadsAgain s x.tree
  again law texts few = subst (ReadsAgain s) (sym is.tree_is)
      (law s f slots x.forms.goto x.forms.ssa x.forms.anf x.forms.tail texts is.accepted.lowered is.accepted.named is.accepted.called is.accepted.merged
      is.accepted.columned is.tight few is.fits)

  module _ (law : TreesReadAgain) (texts : IsOfTexts s f slots) (few : length s.tables < 2 ^ 64) (y : WrittenQuery) (speaks : IsWritten x.tree y) where
    -- the query that the text reads as is the tree, once its names are resolved
    pub accepted : AcceptedForms s f slots x.forms (resolved_query s y.query)
    accepted = subst (AcceptedForms s f slots x.forms) (sym (ap (resolved_query s) speaks.query_is ∙ (again law texts few).is_tree)) is.accepted

    pub compiled : IsCompiled s f slots y.query (string_bytes y.text) x.forms
    compiled =
        let r = again law texts few in
        let text_is = sym (speaks.text_is ∙ ap query_text speaks.query_is) in
        record {
          may_be_read = subst MayBeRead text_is r.may_be_read;
          reads = subst (λ z. ReadsQuery z y.query) text_is (subst (λ w. ReadsQuery (query_text (qualified x.tree)) w) (sym speaks.query_is) r.reads);
          unbroken = subst (λ w. IsUnbroken (query_note s w)) (sym speaks.query_is) r.unbroken;
          accepted = accepted;
          neat = is.neat;
          tight = is.tight;
          spelling = spelling s f slots x.forms x.tree is.accepted;
        }
