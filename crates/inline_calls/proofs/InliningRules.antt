-- What is read again is what is to be, and what is refused of a text is refused of the query.
use Rattle.std.proofs.Common.{◌≡◌, ap, ◌∙◌, subst, ℕ, List, length, Result, Ok, Err, IfOk, IfErr, string_bytes}
use Rattle.away_grammar.specs.Printing.{query_text}
use Rattle.away_grammar.specs.Texts.{ReadsQuery}
use Rattle.away_trees.specs.declared.queries.Query.{Query}
use Rattle.away_trees.specs.declared.schemas.Schema.{Schema}
use Rattle.away_trees.specs.declared.statements.Function.{Function}
use Rattle.away_types.specs.CheckedQueries.{resolved_query}
use Rattle.away_types.specs.declared.slots.Slot.{Slot}
use Rattle.block_forms.specs.declared.forms.Goto.{Goto}
use Rattle.block_forms.specs.declared.forms.Ssa.{Ssa}
use Rattle.block_forms.specs.Lowered.{Lowered}
use Rattle.block_forms.specs.Named.{Named}
use Rattle.call_forms.specs.declared.forms.Anf.{Anf}
use Rattle.call_forms.specs.declared.forms.Tail.{Tail}
use Rattle.call_forms.specs.Called.{Called}
use Rattle.call_forms.specs.Columned.{Columned}
use Rattle.call_forms.specs.Merged.{Merged}
use Rattle.inline_calls.proofs.InlinedTrees.{inlined}
use Rattle.inline_calls.specs.declared.inlining.Inlined.{Inlined}
use Rattle.inline_calls.specs.declared.refusals.InlineRefusal.{InlineRefusal}
use Rattle.inline_calls.specs.declared.refusals.InlineRefusal.TheVariants as refusal
use Rattle.inline_calls.specs.Refusing.{AreCalls}
use Rattle.inline_calls.specs.Resolving.{resolved}
use Rattle.inline_calls.specs.Written.{ReadsInlined, RefusesText, IsInlined, Refuses, tree}
use Rattle.inline_law.specs.Filled.{CallingSelect}
use Rattle.qualified_names.specs.Trees.{qualified}
use Rattle.sql_text.specs.Refusals.{MayBeRead}
use Rattle.written_queries.specs.Written.{ResolvesTo}

module _ (s : Schema) (f : Function) (slots : List Slot) (goto : Goto) (ssa : Ssa) (anf : Anf) (tail : Tail) where
  -- what is read again resolves to the tree of the resolved calls
  pub reads_inlined : Lowered f slots goto → Named (length slots) (length f.params) goto ssa → Called goto ssa anf → Merged goto anf tail
      → Columned slots ssa anf tail
      → (c : CallingSelect) (written wanted query : Query) (text : List ℕ)
      → written ≡ tree s f slots goto ssa anf tail c → text ≡ query_text (qualified written)
      → MayBeRead text → ReadsQuery text query
      → wanted ≡ tree s f slots goto ssa anf tail (resolved s f c) → ResolvesTo s wanted query
      → ReadsInlined s f slots goto ssa anf tail c text query
  reads_inlined lowered named called merged columned c written wanted query text built printed few read wants so =
      let resolves : ResolvesTo s (tree s f slots goto ssa anf tail (resolved s f c)) query = subst (λ t. ResolvesTo s t query) wants so in
      record {
        text_is = printed ∙ ap (λ t. query_text (qualified t)) built;
        may_be_read = few;
        reads = read;
        resolves = resolves;
        inlined = inlined f slots (length s.tables) goto ssa anf tail lowered named called merged columned
            (resolved s f c) (resolved_query s query) resolves.is_tree;
      }

  told : (c : CallingSelect) (q : Query) → AreCalls s f goto q c → (e : InlineRefusal) → RefusesText s f slots goto ssa anf tail c e
      → Refuses s f slots goto ssa anf tail q e
  told c q are refusal.Form h = absurd h
  told c q are refusal.Place h = absurd h
  told c q are (refusal.Rule rule) h = absurd h
  told c q are refusal.Faults h = absurd h
  told c q are (refusal.Nesting found) (text, is, nests) = record { calls = c; are = are; text = text; text_of = is; nests = nests }
  told c q are refusal.NoMemory h = h

  pub told_so : {A : Type 0} (c d : CallingSelect) (q : Query) (r : Result A InlineRefusal) → d ≡ c → AreCalls s f goto q c
      → IfErr r (RefusesText s f slots goto ssa anf tail d) → IfErr r (Refuses s f slots goto ssa anf tail q)
  told_so c d q (Ok x) same are h = h
  told_so c d q (Err e) same are h = told c q are e (subst (λ z. RefusesText s f slots goto ssa anf tail z e) same h)

  pub inlined_so : (c d : CallingSelect) (q : Query) (r : Result Inlined InlineRefusal) → d ≡ c → AreCalls s f goto q c
      → IfOk r (λ x. ReadsInlined s f slots goto ssa anf tail d (string_bytes x.text) x.query)
      → IfOk r (λ x. IsInlined s f slots goto ssa anf tail q (string_bytes x.text) x.query)
  inlined_so c d q (Ok x) same are h =
      record { calls = c; are = are; reads = subst (λ z. ReadsInlined s f slots goto ssa anf tail z (string_bytes x.text) x.query) same h }
  inlined_so c d q (Err e) same are h = h
