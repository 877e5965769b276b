-- What holds of reading and deriving with a depth.
use Rattle.std.specs.Prelude.{ℕ, ◌+◌, ◌*◌, ◌≤◌, true, List, ◌≡◌}
use Rattle.away_grammar.specs.declared.grammar.Level.TheVariants as l
use Rattle.away_grammar.specs.Terminals.{Terminal}
use Rattle.away_grammar.specs.Grammar.{
  Sort,
  at,
  links,
  list,
  arms,
  item,
  items,
  from_item,
  from_items,
  from_clause,
  where_clause,
  key,
  keys,
  order_clause,
}
use Rattle.away_grammar.specs.Grammar.{
  limit_clause,
  select,
  selects,
  query,
  names,
  recursive,
  file,
  column,
  columns,
  tables,
  Tree,
  Reads,
}
use Rattle.sql_printer.specs.Writable.{AllWritable}
use Rattle.cte_prints.specs.ReadsIn.{ReadsIn}
use Rattle.cte_prints.specs.DerivesIn.{DerivesIn}
use Rattle.cte_prints.specs.Derivable.{Derivable}
use Rattle.cte_prints.specs.Like.{IsLike}
use Rattle.cte_prints.specs.Like as k

-- What is like what is read. Names in a list stay as they are; a query with WITH, and the parts of
-- a schema, are like nothing.
abbrev pub Like : (n : Sort) → Tree n → Tree n → Type 0
Like (at level) t u = IsLike k.value t u
Like (links level) t u = IsLike k.links t u
Like list t u = IsLike k.values t u
Like arms t u = IsLike k.arms t u
Like item t u = IsLike k.item t u
Like items t u = IsLike k.items t u
Like from_item t u = IsLike k.from_item t u
Like from_items t u = IsLike k.from_items t u
Like from_clause t u = IsLike k.from_items t u
Like where_clause t u = IsLike k.maybe t u
Like key t u = IsLike k.key t u
Like keys t u = IsLike k.keys t u
Like order_clause t u = IsLike k.keys t u
Like limit_clause t u = IsLike k.maybe t u
Like select t u = IsLike k.select t u
Like selects t u = IsLike k.selects t u
Like query t u = IsLike k.query t u
Like names t u = t ≡ u
Like recursive t u = ⊥
Like file t u = IsLike k.query t u
Like column t u = ⊥
Like columns t u = ⊥
Like tables t u = ⊥

-- How deep the like of what is read at a depth may be: each `::` becomes the parentheses of a CAST,
-- and at most two follow one another; a literal gets one.
abbrev pub bound : Sort → ℕ → ℕ
bound (at l.Primary) d = 3 * d + 1
bound n d = 3 * d + 3

-- The like of what is read from writable terminals can be derived.
abbrev pub LikeIsDerivable : Type 0
LikeIsDerivable =
    (d : ℕ) (n : Sort) (ts : List Terminal) (t u : Tree n) (rest : List Terminal)
    → ReadsIn true d n ts t rest → AllWritable ts → Like n t u → Derivable (bound n d) n u

-- What is read or derived with a depth is read.
abbrev pub ReadSo : Type 0
ReadSo = (d : ℕ) (n : Sort) (ts : List Terminal) (t : Tree n) (rest : List Terminal) → ReadsIn true d n ts t rest → Reads n ts t rest

abbrev pub DerivedSo : Type 0
DerivedSo = (d : ℕ) (n : Sort) (ts : List Terminal) (t : Tree n) (rest : List Terminal) → DerivesIn d n ts t rest → Reads n ts t rest

-- A depth may be greater.
abbrev pub ReadDeeper : Type 0
ReadDeeper = (d more : ℕ) (n : Sort) (ts : List Terminal) (t : Tree n) (rest : List Terminal) → d ≤ more → ReadsIn true d n ts t rest
    → ReadsIn true more n ts t rest

abbrev pub DerivedDeeper : Type 0
DerivedDeeper = (d more : ℕ) (n : Sort) (ts : List Terminal) (t : Tree n) (rest : List Terminal) → d ≤ more → DerivesIn d n ts t rest
    → DerivesIn more n ts t rest
