-- That a text and a query are those of a tree.
use Rattle.std.specs.Prelude.{◌≡◌, string_bytes}
use Rattle.away_grammar.specs.Printing.{query_text}
use Rattle.away_trees.specs.declared.queries.Query.{Query}
use Rattle.compiling.specs.declared.compiler.WrittenQuery.{WrittenQuery}
use Rattle.qualified_names.specs.Trees.{qualified}

-- the query is the tree with names of its columns, and the text is its text
pub record IsWritten (tree : Query) (x : WrittenQuery) : Type 0 where
  pub query_is : x.query ≡ qualified tree
  pub text_is : string_bytes x.text ≡ query_text x.query
