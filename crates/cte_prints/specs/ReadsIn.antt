-- The grammar of expressions and queries with the depth of brackets: parentheses of any kind, and
-- CASE with END. What stands between two brackets is one less deep than what holds them. The
-- productions are those of the grammar; schemas are left out.
use Rattle.std.specs.Prelude.{
  ◌≡◌,
  ℕ,
  suc,
  ◌<◌,
  ◌^◌,
  ◌-◌,
  pos,
  negsuc,
  Bool,
  true,
  false,
  List,
  [],
  ◌∷◌,
  ◌++◌,
  Option,
  Some,
  None,
  codes,
}
use Rattle.away_grammar.specs.declared.grammar.Mark.{Mark}
use Rattle.away_grammar.specs.declared.grammar.Mark.TheVariants as m
use Rattle.away_grammar.specs.declared.grammar.Level.{Level}
use Rattle.away_grammar.specs.declared.grammar.Level.TheVariants as l
use Rattle.away_values.specs.declared.types.Ty.{Ty}
use Rattle.away_values.specs.declared.operators.ChainOp.{ChainOp}
use Rattle.away_values.specs.declared.operators.CmpOp.{CmpOp}
use Rattle.away_values.specs.declared.operators.IsTest.{IsTest}
use Rattle.away_trees.specs.declared.queries.Expr.{Expr}
use Rattle.away_trees.specs.declared.queries.Expr.TheVariants as e
use Rattle.away_trees.specs.declared.queries.Source.TheVariants as source
use Rattle.away_trees.specs.declared.queries.Item.{Item}
use Rattle.away_trees.specs.declared.queries.FromItem.{FromItem}
use Rattle.away_trees.specs.declared.queries.Key.{Key}
use Rattle.away_trees.specs.declared.queries.Select.{Select}
use Rattle.away_trees.specs.declared.queries.Recursive.{Recursive}
use Rattle.away_trees.specs.declared.queries.Query.{Query}
use Rattle.away_trees.specs.declared.queries.Expr.TheViews.{
  roll-Item,
  roll-FromItem,
  roll-Key,
  roll-Select,
  roll-Recursive,
  roll-Query,
}
use Rattle.away_grammar.specs.Terminals.{Terminal, mark, name, integer, string, parameter}
use Rattle.away_grammar.specs.Grammar.{
  Sort,
  at,
  links,
  list,
  arms,
  item,
  items,
  from_item,
  from_items,
  from_clause,
  where_clause,
  key,
  keys,
  order_clause,
}
use Rattle.away_grammar.specs.Grammar.{
  limit_clause,
  select,
  selects,
  query,
  names,
  recursive,
  file,
  Tree,
  operator_of,
  comparison_of,
  test_of,
  literal_of,
}
use Rattle.away_grammar.specs.Grammar.{
  called,
  type_named,
  operands,
  IsChain,
  chained,
  perhaps,
  schema_qualified,
  is_number,
  may_join,
}

-- As this sort, the terminals of the first list up to the second list read as the tree, with at
-- most so many brackets one inside another. Where the flag k is false no `::` stands there: a cast
-- is written by CAST.
pub data ReadsIn : Bool → ℕ → (n : Sort) → List Terminal → Tree n → List Terminal → Type 0 where
  -- and {OR and}, and likewise for AND, `||`, `+ -` and `* / %`
  chain : {k : Bool} {d : ℕ} {level : Level} {ts middle rest : List Terminal} {first : Expr} {more : List (ChainOp × Expr)}
      → IsChain level → ReadsIn k d (at (operands level)) ts first middle → ReadsIn k d (links level) middle more rest
      → ReadsIn k d (at level) ts (chained first more) rest
  no_link : {k : Bool} {d : ℕ} {level : Level} {ts : List Terminal} → ReadsIn k d (links level) ts [] ts
  link : {k : Bool} {d : ℕ} {level : Level} {ts middle rest : List Terminal} {o : ChainOp} {x : Expr} {more : List (ChainOp × Expr)} (terminal : Mark)
      → operator_of level terminal ≡ Some o → ReadsIn k d (at (operands level)) ts x middle → ReadsIn k d (links level) middle more rest
      → ReadsIn k d (links level) (mark terminal ∷ ts) ((o, x) ∷ more) rest
  -- [NOT] is
  affirmed : {k : Bool} {d : ℕ} {ts rest : List Terminal} {x : Expr} → ReadsIn k d (at l.Is) ts x rest → ReadsIn k d (at l.Not) ts x rest
  negated : {k : Bool} {d : ℕ} {ts rest : List Terminal} {x : Expr}
      → ReadsIn k d (at l.Is) ts x rest → ReadsIn k d (at l.Not) (mark m.Not ∷ ts) (e.Not x) rest
  -- cmp [IS [NOT] (NULL | TRUE | FALSE)]
  untested : {k : Bool} {d : ℕ} {ts rest : List Terminal} {x : Expr} → ReadsIn k d (at l.Compare) ts x rest → ReadsIn k d (at l.Is) ts x rest
  tested : {k : Bool} {d : ℕ} {ts rest : List Terminal} {x : Expr} {n : Bool} {test : IsTest} (terminal : Mark)
      → test_of terminal ≡ Some test → ReadsIn k d (at l.Compare) ts x (mark m.Is ∷ perhaps n (mark m.Not) (mark terminal ∷ rest))
      → ReadsIn k d (at l.Is) ts (e.Is x test n) rest
  -- range [(= | <> | < | <= | > | >=) range]
  uncompared : {k : Bool} {d : ℕ} {ts rest : List Terminal} {x : Expr} → ReadsIn k d (at l.Range) ts x rest → ReadsIn k d (at l.Compare) ts x rest
  compared : {k : Bool} {d : ℕ} {ts after rest : List Terminal} {x y : Expr} {o : CmpOp} (terminal : Mark)
      → comparison_of terminal ≡ Some o → ReadsIn k d (at l.Range) ts x (mark terminal ∷ after) → ReadsIn k d (at l.Range) after y rest
      → ReadsIn k d (at l.Compare) ts (e.Compare o x y) rest
  -- cat [[NOT] BETWEEN cat AND cat | [NOT] IN (list)]
  unranged : {k : Bool} {d : ℕ} {ts rest : List Terminal} {x : Expr} → ReadsIn k d (at l.Concat) ts x rest → ReadsIn k d (at l.Range) ts x rest
  between : {k : Bool} {d : ℕ} {ts after middle rest : List Terminal} {x low high : Expr} {n : Bool}
      → ReadsIn k d (at l.Concat) ts x (perhaps n (mark m.Not) (mark m.Between ∷ after)) → ReadsIn k d (at l.Concat) after low (mark m.And ∷ middle)
      → ReadsIn k d (at l.Concat) middle high rest
      → ReadsIn k d (at l.Range) ts (e.Between n x low high) rest
  one_of : {k : Bool} {d : ℕ} {ts after rest : List Terminal} {x : Expr} {xs : List Expr} {n : Bool}
      → ReadsIn k (suc d) (at l.Concat) ts x (perhaps n (mark m.Not)
      (mark m.In ∷ mark m.Open ∷ after)) → ReadsIn k d list after xs (mark m.Close ∷ rest)
      → ReadsIn k (suc d) (at l.Range) ts (e.OneOf n x xs) rest
  -- - 9223372036854775808 | [-] post
  unsigned : {k : Bool} {d : ℕ} {ts rest : List Terminal} {x : Expr} → ReadsIn k d (at l.Cast) ts x rest → ReadsIn k d (at l.Sign) ts x rest
  signed : {k : Bool} {d : ℕ} {ts rest : List Terminal} {x : Expr} → ReadsIn k d (at l.Cast) ts x rest
      → ReadsIn k d (at l.Sign) (mark m.Minus ∷ ts) (e.Neg x) rest
  least : {k : Bool} {d : ℕ} {rest : List Terminal} → ReadsIn k d (at l.Sign)
      (mark m.Minus ∷ integer (2 ^ 63) ∷ rest) (e.Int (negsuc (2 ^ 63 - 1))) rest
  -- prim [:: type [:: type]]
  uncast : {k : Bool} {d : ℕ} {ts rest : List Terminal} {x : Expr} → ReadsIn k d (at l.Primary) ts x rest → ReadsIn k d (at l.Cast) ts x rest
  cast_once : {d : ℕ} {ts rest : List Terminal} {x : Expr} {ty : Ty} (t : List ℕ) → type_named t ≡ Some ty
      → ReadsIn true d (at l.Primary) ts x (mark m.Colons ∷ name t ∷ rest) → ReadsIn true d (at l.Cast) ts (e.Cast x ty) rest
  cast_twice : {d : ℕ} {ts rest : List Terminal} {x : Expr} {first second : Ty} (t u : List ℕ)
      → type_named t ≡ Some first → type_named u ≡ Some second → ReadsIn true d (at l.Primary) ts x
      (mark m.Colons ∷ name t ∷ mark m.Colons ∷ name u ∷ rest)
      → ReadsIn true d (at l.Cast) ts (e.Cast (e.Cast x first) second) rest
  -- what stands alone
  number : {k : Bool} {d : ℕ} {rest : List Terminal} {n : ℕ} → n < 2 ^ 63 → ReadsIn k d (at l.Primary) (integer n ∷ rest) (e.Int (pos n)) rest
  text : {k : Bool} {d : ℕ} {rest : List Terminal} {t : List ℕ} → ReadsIn k d (at l.Primary) (string t ∷ rest) (e.Str t) rest
  literal : {k : Bool} {d : ℕ} {rest : List Terminal} {x : Expr} (terminal : Mark) → literal_of terminal ≡ Some x
      → ReadsIn k d (at l.Primary) (mark terminal ∷ rest) x rest
  named : {k : Bool} {d : ℕ} {rest : List Terminal} {n : List ℕ} → ReadsIn k d (at l.Primary) (name n ∷ rest) (e.Named n) rest
  qualified : {k : Bool} {d : ℕ} {rest : List Terminal} {n c : List ℕ}
      → ReadsIn k d (at l.Primary) (name n ∷ mark m.Dot ∷ name c ∷ rest) (e.Dotted n c) rest
  typed_parameter : {k : Bool} {d : ℕ} {rest : List Terminal} {i : ℕ} {ty : Ty} (t : List ℕ) → type_named t ≡ Some ty
      → ReadsIn k (suc d) (at l.Primary) (mark m.Cast ∷ mark m.Open ∷ parameter i ∷ mark m.As ∷ name t ∷ mark m.Close ∷ rest) (e.Param i ty) rest
  short_parameter : {d : ℕ} {rest : List Terminal} {i : ℕ} {ty : Ty} (t : List ℕ) → type_named t ≡ Some ty
      → ReadsIn true d (at l.Primary) (parameter i ∷ mark m.Colons ∷ name t ∷ rest) (e.Param i ty) rest
  parentheses : {k : Bool} {d : ℕ} {ts rest : List Terminal} {x : Expr} → ReadsIn k d (at l.Or) ts x (mark m.Close ∷ rest)
      → ReadsIn k (suc d) (at l.Primary) (mark m.Open ∷ ts) x rest
  scalar : {k : Bool} {d : ℕ} {ts rest : List Terminal} {q : Query} → ReadsIn k d query ts q (mark m.Close ∷ rest)
      → ReadsIn k (suc d) (at l.Primary) (mark m.Open ∷ ts) (e.Scalar q) rest
  cast : {k : Bool} {d : ℕ} {ts rest : List Terminal} {x : Expr} {ty : Ty} (t : List ℕ) → type_named t ≡ Some ty
      → ReadsIn k d (at l.Or) ts x (mark m.As ∷ name t ∷ mark m.Close ∷ rest)
      → ReadsIn k (suc d) (at l.Primary) (mark m.Cast ∷ mark m.Open ∷ ts) (e.Cast x ty) rest
  exists : {k : Bool} {d : ℕ} {ts rest : List Terminal} {q : Query} → ReadsIn k d query ts q (mark m.Close ∷ rest)
      → ReadsIn k (suc d) (at l.Primary) (mark m.Exists ∷ mark m.Open ∷ ts) (e.Exists q) rest
  cases : {k : Bool} {d : ℕ} {ts rest : List Terminal} {a : Expr × Expr} {more : List (Expr × Expr)}
      → ReadsIn k d arms ts (a ∷ more) (mark m.End ∷ rest)
      → ReadsIn k (suc d) (at l.Primary) (mark m.Case ∷ ts) (e.Cases (a ∷ more) None) rest
  cases_else : {k : Bool} {d : ℕ} {ts middle rest : List Terminal} {a : Expr × Expr} {more : List (Expr × Expr)} {x : Expr}
      → ReadsIn k d arms ts (a ∷ more) (mark m.Else ∷ middle) → ReadsIn k d (at l.Or) middle x (mark m.End ∷ rest)
      → ReadsIn k (suc d) (at l.Primary) (mark m.Case ∷ ts) (e.Cases (a ∷ more) (Some x)) rest
  call_word : {k : Bool} {d : ℕ} {ts rest : List Terminal} {n : List ℕ} {xs : List Expr} (terminal : Mark) → called terminal ≡ Some n
      → ReadsIn k d list ts xs (mark m.Close ∷ rest)
      → ReadsIn k (suc d) (at l.Primary) (mark terminal ∷ mark m.Open ∷ ts) (e.Call n xs) rest
  count_rows : {k : Bool} {d : ℕ} {rest : List Terminal}
      → ReadsIn k (suc d) (at l.Primary) (name (codes "count") ∷ mark m.Open ∷ mark m.Star ∷ mark m.Close ∷ rest) e.CountRows rest
  call_empty : {k : Bool} {d : ℕ} {rest : List Terminal} {n : List ℕ}
      → ReadsIn k (suc d) (at l.Primary) (name n ∷ mark m.Open ∷ mark m.Close ∷ rest) (e.Call n []) rest
  call : {k : Bool} {d : ℕ} {ts rest : List Terminal} {n : List ℕ} {xs : List Expr} → ReadsIn k d list ts xs (mark m.Close ∷ rest)
      → ReadsIn k (suc d) (at l.Primary) (name n ∷ mark m.Open ∷ ts) (e.Call n xs) rest
  -- expr {, expr}
  last : {k : Bool} {d : ℕ} {ts rest : List Terminal} {x : Expr} → ReadsIn k d (at l.Or) ts x rest → ReadsIn k d list ts (x ∷ []) rest
  another : {k : Bool} {d : ℕ} {ts middle rest : List Terminal} {x : Expr} {xs : List Expr} → ReadsIn k d (at l.Or) ts x (mark m.Comma ∷ middle)
      → ReadsIn k d list middle xs rest → ReadsIn k d list ts (x ∷ xs) rest
  -- {WHEN expr THEN expr}
  no_arm : {k : Bool} {d : ℕ} {ts : List Terminal} → ReadsIn k d arms ts [] ts
  arm : {k : Bool} {d : ℕ} {ts middle after rest : List Terminal} {test value : Expr} {more : List (Expr × Expr)}
      → ReadsIn k d (at l.Or) ts test (mark m.Then ∷ middle) → ReadsIn k d (at l.Or) middle value after → ReadsIn k d arms after more rest
      → ReadsIn k d arms (mark m.When ∷ ts) ((test, value) ∷ more) rest
  -- expr [AS name]
  item_alone : {k : Bool} {d : ℕ} {ts rest : List Terminal} {x : Expr} → ReadsIn k d (at l.Or) ts x rest
      → ReadsIn k d item ts (roll-Item (record { expr = x; alias = None })) rest
  item_as : {k : Bool} {d : ℕ} {ts rest : List Terminal} {x : Expr} {n : List ℕ} → ReadsIn k d (at l.Or) ts x (mark m.As ∷ name n ∷ rest)
      → ReadsIn k d item ts (roll-Item (record { expr = x; alias = Some n })) rest
  last_item : {k : Bool} {d : ℕ} {ts rest : List Terminal} {x : Item} → ReadsIn k d item ts x rest → ReadsIn k d items ts (x ∷ []) rest
  another_item : {k : Bool} {d : ℕ} {ts middle rest : List Terminal} {x : Item} {xs : List Item} → ReadsIn k d item ts x (mark m.Comma ∷ middle)
      → ReadsIn k d items middle xs rest → ReadsIn k d items ts (x ∷ xs) rest
  -- [public .] name [[AS] name] | [LATERAL] ( query ) [AS] name [( name {, name} )]
  table_alone : {k : Bool} {d : ℕ} {rest : List Terminal} {n : List ℕ} (q : Bool)
      → ReadsIn k d from_item (schema_qualified q (name n ∷ rest)) (roll-FromItem (record { source = source.Table n; alias = n; columns = [] })) rest
  table_as : {k : Bool} {d : ℕ} {rest : List Terminal} {n a : List ℕ} (q w : Bool)
      → ReadsIn k d from_item (schema_qualified q (name n ∷ perhaps w (mark m.As) (name a ∷ rest)))
      (roll-FromItem (record { source = source.Table n; alias = a; columns = [] })) rest
  sub_alone : {k : Bool} {d : ℕ} {ts rest : List Terminal} {q : Query} {a : List ℕ} {v : Bool} (w : Bool)
      → ReadsIn k d query ts q (mark m.Close ∷ perhaps w (mark m.As) (name a ∷ rest))
      → ReadsIn k (suc d) from_item (perhaps v (mark m.Lateral) (mark m.Open ∷ ts))
      (roll-FromItem (record { source = source.Sub q v; alias = a; columns = [] })) rest
  sub_columns : {k : Bool} {d : ℕ} {ts after rest : List Terminal} {q : Query} {a : List ℕ} {ns : List (List ℕ)} {v : Bool} (w : Bool)
      → ReadsIn k d query ts q (mark m.Close ∷ perhaps w (mark m.As) (name a ∷ mark m.Open ∷ after))
      → ReadsIn k d names after ns (mark m.Close ∷ rest)
      → ReadsIn k (suc d) from_item (perhaps v (mark m.Lateral) (mark m.Open ∷ ts))
      (roll-FromItem (record { source = source.Sub q v; alias = a; columns = ns })) rest
  last_from : {k : Bool} {d : ℕ} {ts rest : List Terminal} {x : FromItem} → ReadsIn k d from_item ts x rest → ReadsIn k d from_items ts (x ∷ []) rest
  another_from : {k : Bool} {d : ℕ} {ts middle rest : List Terminal} {x : FromItem}
      {xs : List FromItem} → ReadsIn k d from_item ts x (mark m.Comma ∷ middle)
      → ReadsIn k d from_items middle xs rest → ReadsIn k d from_items ts (x ∷ xs) rest
  -- name {, name}
  last_name : {k : Bool} {d : ℕ} {rest : List Terminal} {n : List ℕ} → ReadsIn k d names (name n ∷ rest) (n ∷ []) rest
  another_name : {k : Bool} {d : ℕ} {middle rest : List Terminal} {n : List ℕ} {ns : List (List ℕ)} → ReadsIn k d names middle ns rest
      → ReadsIn k d names (name n ∷ mark m.Comma ∷ middle) (n ∷ ns) rest
  -- expr [ASC | DESC]
  key_alone : {k : Bool} {d : ℕ} {ts rest : List Terminal} {x : Expr} → is_number x ≡ false → ReadsIn k d (at l.Or) ts x rest
      → ReadsIn k d key ts (roll-Key (record { expr = x; descending = false })) rest
  ascending : {k : Bool} {d : ℕ} {ts rest : List Terminal} {x : Expr} → is_number x ≡ false → ReadsIn k d (at l.Or) ts x (mark m.Asc ∷ rest)
      → ReadsIn k d key ts (roll-Key (record { expr = x; descending = false })) rest
  descending : {k : Bool} {d : ℕ} {ts rest : List Terminal} {x : Expr} → is_number x ≡ false → ReadsIn k d (at l.Or) ts x (mark m.Desc ∷ rest)
      → ReadsIn k d key ts (roll-Key (record { expr = x; descending = true })) rest
  last_key : {k : Bool} {d : ℕ} {ts rest : List Terminal} {x : Key} → ReadsIn k d key ts x rest → ReadsIn k d keys ts (x ∷ []) rest
  another_key : {k : Bool} {d : ℕ} {ts middle rest : List Terminal} {x : Key} {xs : List Key} → ReadsIn k d key ts x (mark m.Comma ∷ middle)
      → ReadsIn k d keys middle xs rest
      → ReadsIn k d keys ts (x ∷ xs) rest
  -- SELECT item {, item} [FROM from {, from}] [WHERE expr] [ORDER BY key {, key}] [LIMIT expr]
  no_from : {k : Bool} {d : ℕ} {ts : List Terminal} → ReadsIn k d from_clause ts [] ts
  from : {k : Bool} {d : ℕ} {ts rest : List Terminal} {xs : List FromItem} → ReadsIn k d from_items ts xs rest
      → ReadsIn k d from_clause (mark m.From ∷ ts) xs rest
  no_where : {k : Bool} {d : ℕ} {ts : List Terminal} → ReadsIn k d where_clause ts None ts
  where_of : {k : Bool} {d : ℕ} {ts rest : List Terminal} {x : Expr} → ReadsIn k d (at l.Or) ts x rest
      → ReadsIn k d where_clause (mark m.Where ∷ ts) (Some x) rest
  no_order : {k : Bool} {d : ℕ} {ts : List Terminal} → ReadsIn k d order_clause ts [] ts
  order_by : {k : Bool} {d : ℕ} {ts rest : List Terminal} {xs : List Key} → ReadsIn k d keys ts xs rest
      → ReadsIn k d order_clause (mark m.Order ∷ mark m.By ∷ ts) xs rest
  no_limit : {k : Bool} {d : ℕ} {ts : List Terminal} → ReadsIn k d limit_clause ts None ts
  limit_of : {k : Bool} {d : ℕ} {ts rest : List Terminal} {x : Expr} → ReadsIn k d (at l.Or) ts x rest
      → ReadsIn k d limit_clause (mark m.Limit ∷ ts) (Some x) rest
  select_of : {k : Bool} {d : ℕ} {ts a b c z rest : List Terminal} {xs : List Item}
      {fs : List FromItem} {w : Option Expr} {ks : List Key} {n : Option Expr}
      → ReadsIn k d items ts xs a → ReadsIn k d from_clause a fs b → ReadsIn k d where_clause b w c → ReadsIn k d order_clause c ks z
      → ReadsIn k d limit_clause z n rest
      → ReadsIn k d select (mark m.Select ∷ ts) (roll-Select (record { list = xs; from = fs; filter = w; order = ks; limit = n })) rest
  -- select {UNION ALL select}
  last_select : {k : Bool} {d : ℕ} {ts rest : List Terminal} {s : Select} → ReadsIn k d select ts s rest → ReadsIn k d selects ts (s ∷ []) rest
  another_select : {k : Bool} {d : ℕ} {ts middle rest : List Terminal} {s : Select} {ss : List Select}
      → ReadsIn k d select ts s (mark m.Union ∷ mark m.All ∷ middle)
      → ReadsIn k d selects middle ss rest → ReadsIn k d selects ts (s ∷ ss) rest
  query_of : {k : Bool} {d : ℕ} {ts rest : List Terminal} {ss : List Select} → may_join ss ≡ true → ReadsIn k d selects ts ss rest
      → ReadsIn k d query ts (roll-Query (record { recursive = None; selects = ss })) rest
  -- WITH RECURSIVE name ( name {, name} ) AS ( select {UNION ALL select} UNION ALL select ): the
  -- last one is the second term
  recursive_of : {k : Bool} {d : ℕ} {ts after rest : List Terminal} {n : List ℕ}
      {ns : List (List ℕ)} {s : Select} (ss : List Select) (second : Select)
      → ReadsIn k d names ts ns (mark m.Close ∷ mark m.As ∷ mark m.Open ∷ after)
      → ReadsIn k d selects after (s ∷ (ss ++ second ∷ [])) (mark m.Close ∷ rest)
      → ReadsIn k (suc d) recursive (mark m.With ∷ mark m.Recursive ∷ name n ∷ mark m.Open ∷ ts)
      (roll-Recursive (record { name = n; columns = ns; first = s ∷ ss; second = second })) rest
  -- [WITH ..] query [;]
  plain_file : {k : Bool} {d : ℕ} {ts rest : List Terminal} {q : Query} (w : Bool) → ReadsIn k d query ts q (perhaps w (mark m.Semicolon) rest)
      → ReadsIn k d file ts q rest
  with_file : {k : Bool} {d : ℕ} {ts middle rest : List Terminal} {r : Recursive} {ss : List Select} (w : Bool) → may_join ss ≡ true
      → ReadsIn k d recursive ts r middle
      → ReadsIn k d selects middle ss (perhaps w (mark m.Semicolon) rest)
      → ReadsIn k d file ts (roll-Query (record { recursive = Some r; selects = ss })) rest
  -- name type [NOT NULL]
  -- {CREATE TABLE [public .] name ( column {, column} ) ;}
