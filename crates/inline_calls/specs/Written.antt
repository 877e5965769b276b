-- The text of a query whose calls are replaced, and what it reads as.
use Rattle.std.specs.Prelude.{◌≡◌, ◌<◌, ℕ, List, length}
use Rattle.away_trees.specs.declared.queries.Query.{Query}
use Rattle.away_trees.specs.declared.schemas.Schema.{Schema}
use Rattle.away_trees.specs.declared.statements.Function.{Function}
use Rattle.away_grammar.specs.Printing.{query_text}
use Rattle.away_grammar.specs.Texts.{ReadsQuery}
use Rattle.away_grammar.specs.Tokens.{Lexeme}
use Rattle.away_types.specs.CheckedQueries.{resolved_query}
use Rattle.away_types.specs.declared.slots.Slot.{Slot}
use Rattle.block_forms.specs.declared.forms.Goto.{Goto}
use Rattle.block_forms.specs.declared.forms.Ssa.{Ssa}
use Rattle.call_forms.specs.declared.forms.Anf.{Anf}
use Rattle.call_forms.specs.declared.forms.Tail.{Tail}
use Rattle.qualified_names.specs.Trees.{qualified}
use Rattle.sql_text.specs.Refusals.{HasTokens, MayBeRead, most_nesting}
use Rattle.inline_law.specs.Filled.{CallingSelect}
use Rattle.inline_law.specs.Written.{Inlined}
use Rattle.inline_calls.specs.Refusing.{AreCalls, RefusesCalls}
use Rattle.inline_calls.specs.Resolving.{resolved}
use Rattle.inline_calls.specs.Tree.{tree_of}
use Rattle.inline_calls.specs.declared.refusals.CallsRefusal.TheVariants as calls
use Rattle.inline_calls.specs.declared.refusals.InlineRefusal.{InlineRefusal}
use Rattle.inline_calls.specs.declared.refusals.InlineRefusal.TheVariants as refusal
use Rattle.written_queries.specs.Written.{ResolvesTo}

-- the tokens of the text nest so deep, which is more than is read
abbrev pub Nests : List ℕ → ℕ → Type 0
Nests text found = ((tokens : List Lexeme) × HasTokens text tokens found) × (most_nesting < found)

module _ (s : Schema) (f : Function) (slots : List Slot) (goto : Goto) (ssa : Ssa)
    (anf : Anf) (tail : Tail) where
  -- over the tables of the schema
  abbrev pub tree : CallingSelect → Query
  tree = tree_of f slots (length s.tables) goto ssa anf tail

  -- The text is that of the tree of the calls as they are written.
  abbrev pub IsTextOf : CallingSelect → List ℕ → Type 0
  IsTextOf c text = text ≡ query_text (qualified (tree c))

  -- The text reads as a query which breaks no rule but perhaps the one on answers, and is the tree
  -- of the calls with what their names stand for. So it is over a recursive table of these forms.
  pub record ReadsInlined (c : CallingSelect) (text : List ℕ) (written : Query) : Type 0 where
    pub text_is : IsTextOf c text
    pub may_be_read : MayBeRead text
    pub reads : ReadsQuery text written
    pub resolves : ResolvesTo s (tree (resolved s f c)) written
    pub inlined : Inlined f slots (length s.tables) goto ssa anf tail (resolved s f c)
        (resolved_query s written)

  -- why no text is written of calls
  abbrev pub RefusesText : CallingSelect → InlineRefusal → Type 0
  RefusesText c (refusal.Nesting found) = (text : List ℕ) × IsTextOf c text × Nests text found
  RefusesText c refusal.NoMemory = Unit {0}
  RefusesText c refusal.Form = ⊥
  RefusesText c refusal.Place = ⊥
  RefusesText c (refusal.Rule rule) = ⊥
  RefusesText c refusal.Faults = ⊥

  -- ---- the whole

  pub record IsInlined (q : Query) (text : List ℕ) (written : Query) : Type 0 where
    pub calls : CallingSelect
    pub are : AreCalls s f goto q calls
    pub reads : ReadsInlined calls text written

  pub record Outgrown (q : Query) (found : ℕ) : Type 0 where
    pub calls : CallingSelect
    pub are : AreCalls s f goto q calls
    pub text : List ℕ
    pub text_of : IsTextOf calls text
    pub nests : Nests text found

  -- by what is told: each only where none of those before it holds
  abbrev pub Refuses : Query → InlineRefusal → Type 0
  Refuses q refusal.Form = RefusesCalls s f goto q calls.Form
  Refuses q refusal.Place = RefusesCalls s f goto q calls.Place
  Refuses q (refusal.Rule rule) = RefusesCalls s f goto q (calls.Rule rule)
  Refuses q refusal.Faults = RefusesCalls s f goto q calls.Faults
  Refuses q (refusal.Nesting found) = Outgrown q found
  Refuses q refusal.NoMemory = Unit {0}
