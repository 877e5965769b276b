-- No printed terminal is a dollar quote.
use Rattle.std.proofs.Common.{◌≡◌, ℕ, ℤ, pos, negsuc, refl, Bool, true, false, if◌then◌else◌, nat_lt, List, [], ◌∷◌, ◌++◌, map, Option, Some, None, bytes_eq, codes, option_map}
use Rattle.away_grammar.specs.declared.grammar.Mark.{Mark}
use Rattle.away_grammar.specs.declared.grammar.Mark.TheVariants as m
use Rattle.away_grammar.specs.declared.grammar.Level.{Level}
use Rattle.away_grammar.specs.declared.grammar.Level.TheVariants as l
use Rattle.away_values.specs.declared.operators.ChainOp.{ChainOp}
use Rattle.away_trees.specs.declared.queries.Expr.{Expr}
use Rattle.away_trees.specs.declared.queries.FromItem.{FromItem}
use Rattle.away_trees.specs.declared.queries.Item.{Item}
use Rattle.away_trees.specs.declared.queries.Key.{Key}
use Rattle.away_trees.specs.declared.queries.Source.{Source}
use Rattle.away_trees.specs.declared.queries.Expr.TheViews.{out-Item, out-FromItem, out-Key}
use Rattle.away_trees.specs.declared.queries.Select.{Select}
use Rattle.away_trees.specs.declared.queries.Recursive.{Recursive}
use Rattle.away_trees.specs.declared.queries.Query.{Query}
use Rattle.away_trees.specs.declared.queries.Expr.TheBlock as b
use Rattle.away_trees.specs.declared.queries.Expr.TheOpen as ex
use Rattle.away_trees.specs.Algebra.{head_or, exprs_of, links_of, arms_of, other_of, filter_of, items_of, keys_of, source_of, froms_of, select_of, selects_of, recursive_of, with_of, query_of, queries_of, item_of, from_of, key_of}
use Rattle.away_grammar.specs.Terminals.{Terminal, mark, name, quote}
use Rattle.away_grammar.specs.Grammar.{operands, perhaps, rank}
use Rattle.sql_printer.specs.PrintedTerminals.{columns_terminals}
use Rattle.away_grammar.specs.Printing.{Printed, Origin, placed, printed, printing, joined, with_commas, names_terminals, function_terminal, links_terminals, list_terminals, arms_terminals, else_terminals, call_terminals, chain_level, from_terminals, where_terminals, order_terminals, limit_terminals, selects_terminals, print_item, print_from, print_step}

abbrev pub is_quote : Terminal → Bool
is_quote (quote z) = true
is_quote _ = false

pub data Plain : List Terminal → Type 0 where
  plain_end : Plain []
  plain_more : {s : Terminal} {ss : List Terminal} → is_quote s ≡ false → Plain ss → Plain (s ∷ ss)

pub joins : (a : List Terminal) {c : List Terminal} → Plain a → Plain c → Plain (a ++ c)
joins [] plain_end k = k
joins (s ∷ ss) (plain_more h d) k = plain_more h (joins ss d k)

abbrev pub AllPlain : List (List Terminal) → Type 0
AllPlain [] = Unit {0}
AllPlain (x ∷ xs) = Plain x × AllPlain xs

pub plain_joined : (between : List Terminal) (xs : List (List Terminal)) → Plain between → AllPlain xs → Plain (joined between xs)
plain_joined between [] h k = plain_end
plain_joined between (x ∷ []) h k = k.0
plain_joined between (x ∷ y ∷ xs) h k = joins x k.0 (joins between h (plain_joined between (y ∷ xs) h k.1))

pub comma_plain : Plain (mark m.Comma ∷ [])
comma_plain = (plain_more refl plain_end)

placed_by : (c : Bool) (p : Printed) → Plain p.terminals → Plain (if c then mark m.Open ∷ (p.terminals ++ mark m.Close ∷ []) else p.terminals)
placed_by true p h = (plain_more refl (joins p.terminals h (plain_more refl plain_end)))
placed_by false p h = h

pub plain_placed : (place : Level) (p : Printed) → Plain p.terminals → Plain (placed place p)
plain_placed place p h = placed_by (nat_lt (rank p.level) (rank place)) p h

pub plain_perhaps : (n : Bool) (terminal : Mark) {ss : List Terminal} → Plain ss → Plain (perhaps n (mark terminal) ss)
plain_perhaps true terminal h = (plain_more refl h)
plain_perhaps false terminal h = h

-- ---- lists of parts

abbrev PlainEach : List Printed → Type 0
PlainEach [] = Unit {0}
PlainEach (p ∷ ps) = Plain p.terminals × PlainEach ps

abbrev PlainLinks : List (ChainOp × Printed) → Type 0
PlainLinks [] = Unit {0}
PlainLinks (x ∷ xs) = Plain x.1.terminals × PlainLinks xs

abbrev PlainArms : List (Printed × Printed) → Type 0
PlainArms [] = Unit {0}
PlainArms (a ∷ more) = Plain a.0.terminals × Plain a.1.terminals × PlainArms more

abbrev pub PlainOption : Option Printed → Type 0
PlainOption None = Unit {0}
PlainOption (Some p) = Plain p.terminals

abbrev PlainList : Option (List Terminal) → Type 0
PlainList None = Unit {0}
PlainList (Some ts) = Plain ts

head_plain : (ps : List Printed) → PlainEach ps → Plain (head_or printing.no_expr ps).terminals
head_plain [] h = plain_end
head_plain (p ∷ ps) h = h.0

first_plain : (qs : List (List Terminal)) → AllPlain qs → Plain (head_or printing.no_query qs)
first_plain [] h = plain_end
first_plain (q ∷ qs) h = h.0

list_plain : (ps : List Printed) → PlainEach ps → Plain (list_terminals ps)
list_plain [] h = plain_end
list_plain (p ∷ []) h = plain_placed l.Or p h.0
list_plain (p ∷ q ∷ ps) h = joins (placed l.Or p) (plain_placed l.Or p h.0) (plain_more refl (list_plain (q ∷ ps) h.1))

links_plain : (level : Level) (xs : List (ChainOp × Printed)) → PlainLinks xs → Plain (links_terminals level xs)
links_plain level [] h = plain_end
links_plain level (x ∷ xs) h = (plain_more refl (joins (placed (operands level) x.1) (plain_placed (operands level) x.1 h.0) (links_plain level xs h.1)))

arms_plain : (xs : List (Printed × Printed)) → PlainArms xs → Plain (arms_terminals xs)
arms_plain [] h = plain_end
arms_plain (a ∷ more) h =
    (plain_more refl (joins (placed l.Or a.0) (plain_placed l.Or a.0 h.0)
    (plain_more refl (joins (placed l.Or a.1) (plain_placed l.Or a.1 h.1) (arms_plain more h.2)))))

else_plain : (o : Option Printed) → PlainOption o → Plain (else_terminals o)
else_plain None h = plain_end
else_plain (Some p) h = (plain_more refl (plain_placed l.Or p h))

function_by : (a c d : Bool) (n : List ℕ)
    → is_quote (if a then mark m.Coalesce else (if c then mark m.Greatest else (if d then mark m.Least else name n))) ≡ false
function_by true c d n = refl
function_by false true d n = refl
function_by false false true n = refl
function_by false false false n = refl

function_plain : (n : List ℕ) → is_quote (function_terminal n) ≡ false
unfolding function_terminal
function_plain n = function_by (bytes_eq n (codes "coalesce")) (bytes_eq n (codes "greatest")) (bytes_eq n (codes "least")) n

call_plain : (n : List ℕ) (ps : List Printed) → PlainEach ps → Plain (call_terminals n ps)
call_plain n [] h = (plain_more refl (plain_more refl (plain_more refl plain_end)))
call_plain n (p ∷ ps) h =
    (plain_more (function_plain n) (plain_more refl (joins (list_terminals (p ∷ ps)) (list_plain (p ∷ ps) h) (plain_more refl plain_end))))

pub names_plain : (ns : List (List ℕ)) → Plain (names_terminals ns)
names_plain [] = plain_end
names_plain (n ∷ []) = (plain_more refl plain_end)
names_plain (n ∷ k ∷ ns) = (plain_more refl (plain_more refl (names_plain (k ∷ ns))))

int_plain : (n : ℤ) → Plain (printing.expr (ex.Int n)).terminals
int_plain (pos n) = (plain_more refl plain_end)
int_plain (negsuc n) = (plain_more refl (plain_more refl plain_end))

pub from_plain : (xs : List (List Terminal)) → AllPlain xs → Plain (from_terminals xs)
from_plain [] h = plain_end
from_plain (x ∷ xs) h = (plain_more refl (plain_joined (mark m.Comma ∷ []) (x ∷ xs) comma_plain h))

pub order_plain : (xs : List (List Terminal)) → AllPlain xs → Plain (order_terminals xs)
order_plain [] h = plain_end
order_plain (x ∷ xs) h = (plain_more refl (plain_more refl (plain_joined (mark m.Comma ∷ []) (x ∷ xs) comma_plain h)))

pub where_plain : (o : Option Printed) → PlainOption o → Plain (where_terminals o)
where_plain None h = plain_end
where_plain (Some p) h = (plain_more refl (plain_placed l.Or p h))

pub limit_plain : (o : Option Printed) → PlainOption o → Plain (limit_terminals o)
limit_plain None h = plain_end
limit_plain (Some p) h = (plain_more refl (plain_placed l.Or p h))

alias_plain : (e : Printed) (alias : Option (List ℕ)) → Plain e.terminals → Plain (print_item (record { expr = e; alias = alias }))
alias_plain e None h = joins (placed l.Or e) (plain_placed l.Or e h) plain_end
alias_plain e (Some n) h = joins (placed l.Or e) (plain_placed l.Or e h) (plain_more refl (plain_more refl plain_end))

as_by : (c : Bool) (alias : List ℕ) → Plain (if c then [] else mark m.As ∷ name alias ∷ [])
as_by true alias = plain_end
as_by false alias = (plain_more refl (plain_more refl plain_end))

columns_plain : (columns : List (List ℕ)) → Plain (columns_terminals columns)
columns_plain [] = plain_end
columns_plain (n ∷ ns) = (plain_more refl (joins (names_terminals (n ∷ ns)) (names_plain (n ∷ ns)) (plain_more refl plain_end)))

-- an alias and columns, behind an origin that has an alias of its own, or plain_end
from_item_by : (own : Option (List ℕ)) (ts : List Terminal) (alias : List ℕ) (columns : List (List ℕ)) → Plain ts
    → Plain (print_from (record { source = record { terminals = ts; own_alias = own }; alias = alias; columns = columns }))
from_item_by None ts alias [] h = joins ts h (plain_more refl (plain_more refl plain_end))
from_item_by None ts alias (n ∷ ns) h = joins ts h (plain_more refl (plain_more refl (columns_plain (n ∷ ns))))
from_item_by (Some own) ts alias [] h =
    joins ts h (joins (if bytes_eq own alias then [] else mark m.As ∷ name alias ∷ []) (as_by (bytes_eq own alias) alias) plain_end)
from_item_by (Some own) ts alias (n ∷ ns) h =
    joins ts h (joins (if bytes_eq own alias then [] else mark m.As ∷ name alias ∷ []) (as_by (bytes_eq own alias) alias) (columns_plain (n ∷ ns)))

from_item_plain : (o : Origin) (alias : List ℕ) (columns : List (List ℕ)) → Plain o.terminals
    → Plain (print_from (record { source = o; alias = alias; columns = columns }))
from_item_plain o alias columns h = from_item_by o.own_alias o.terminals alias columns h

and_last : (xs : List (List Terminal)) (x : List Terminal) → AllPlain xs → Plain x → AllPlain (xs ++ x ∷ [])
and_last [] x h k = (k, tt)
and_last (y ∷ ys) x h k = (h.0, and_last ys x h.1 k)

query_by : (o : Option (List Terminal)) (ss : List (List Terminal)) → PlainList o → AllPlain ss → Plain (print_step (record { recursive = o; selects = ss }))
query_by None ss h k = plain_joined (mark m.Union ∷ mark m.All ∷ []) ss (plain_more refl (plain_more refl plain_end)) k
query_by (Some us) ss h k = joins us h (plain_joined (mark m.Union ∷ mark m.All ∷ []) ss (plain_more refl (plain_more refl plain_end)) k)

-- ---- all trees

mutual
  pub expr_plain : (x : Expr) → Plain (printed x).terminals
  expr_plain (b.Int n) = int_plain n
  expr_plain (b.Str t) = (plain_more refl plain_end)
  expr_plain (b.Bool v) = (plain_more refl plain_end)
  expr_plain b.Null = (plain_more refl plain_end)
  expr_plain (b.Named n) = (plain_more refl plain_end)
  expr_plain (b.Dotted n c) = (plain_more refl (plain_more refl (plain_more refl plain_end)))
  expr_plain (b.Slot i) = plain_end
  expr_plain (b.Column c) = plain_end
  expr_plain (b.Param i ty) = (plain_more refl (plain_more refl (plain_more refl (plain_more refl (plain_more refl (plain_more refl plain_end))))))
  expr_plain (b.Neg' _ x) = (plain_more refl (plain_placed l.Cast _ (head_plain (exprs_of printing x) (row_plain x))))
  expr_plain (b.NegSmall' _ x) = (plain_more refl (plain_placed l.Cast _ (head_plain (exprs_of printing x) (row_plain x))))
  expr_plain (b.Not' _ x) = (plain_more refl (plain_placed l.Is _ (head_plain (exprs_of printing x) (row_plain x))))
  expr_plain (b.Is' _ x test n) =
      joins (placed l.Compare (head_or printing.no_expr (exprs_of printing x))) (plain_placed l.Compare _ (head_plain (exprs_of printing x) (row_plain x)))
      (plain_more refl (plain_perhaps n m.Not (plain_more refl plain_end)))
  expr_plain (b.Chain' _ x _ links) =
      let level = chain_level (links_of printing links) in
      joins (placed (operands level) (head_or printing.no_expr (exprs_of printing x)))
      (plain_placed (operands level) _ (head_plain (exprs_of printing x) (row_plain x)))
      (links_plain level (links_of printing links) (link_row_plain links))
  expr_plain (b.Compare' o _ x _ y) =
      joins (placed l.Range (head_or printing.no_expr (exprs_of printing x))) (plain_placed l.Range _ (head_plain (exprs_of printing x) (row_plain x)))
      (plain_more refl (plain_placed l.Range _ (head_plain (exprs_of printing y) (row_plain y))))
  expr_plain (b.Between' n _ x _ y _ z) =
      joins (placed l.Concat (head_or printing.no_expr (exprs_of printing x))) (plain_placed l.Concat _ (head_plain (exprs_of printing x) (row_plain x)))
      (plain_perhaps n m.Not (plain_more refl
      (joins (placed l.Concat (head_or printing.no_expr (exprs_of printing y)))
      (plain_placed l.Concat _ (head_plain (exprs_of printing y) (row_plain y)))
      (plain_more refl (plain_placed l.Concat _ (head_plain (exprs_of printing z) (row_plain z)))))))
  expr_plain (b.OneOf' n _ x _ xs) =
      joins (placed l.Concat (head_or printing.no_expr (exprs_of printing x))) (plain_placed l.Concat _ (head_plain (exprs_of printing x) (row_plain x)))
      (plain_perhaps n m.Not (plain_more refl
      (plain_more refl (joins (list_terminals (exprs_of printing xs)) (list_plain (exprs_of printing xs) (row_plain xs)) (plain_more refl plain_end)))))
  expr_plain (b.Cast' _ x ty) =
      (plain_more refl (plain_more refl
      (joins (placed l.Or (head_or printing.no_expr (exprs_of printing x))) (plain_placed l.Or _ (head_plain (exprs_of printing x) (row_plain x)))
      (plain_more refl (plain_more refl (plain_more refl plain_end))))))
  expr_plain (b.Cases' _ arms other) =
      (plain_more refl (joins (arms_terminals (arms_of printing arms)) (arms_plain (arms_of printing arms) (arm_row_plain arms))
      (joins (else_terminals (other_of printing other)) (else_plain (other_of printing other) (other_plain other)) (plain_more refl plain_end))))
  expr_plain (b.Call' n _ xs) = call_plain n (exprs_of printing xs) (row_plain xs)
  expr_plain b.CountRows = (plain_more refl (plain_more refl (plain_more refl (plain_more refl plain_end))))
  expr_plain (b.Scalar' _ q) =
      (plain_more refl (joins (head_or printing.no_query (queries_of printing q)) (first_plain (queries_of printing q) (query_row_plain q))
      (plain_more refl plain_end)))
  expr_plain (b.Exists' _ q) =
      (plain_more refl (plain_more refl
      (joins (head_or printing.no_query (queries_of printing q)) (first_plain (queries_of printing q) (query_row_plain q)) (plain_more refl plain_end))))

  row_plain : {n : _} (xs : b.Row_of-Expr n) → PlainEach (exprs_of printing xs)
  row_plain b.end_of-Expr = tt
  row_plain (b.more_of-Expr x rest) = (expr_plain x, row_plain rest)

  link_row_plain : {n : _} (xs : b.Row_of-Expr-Chain-1-2 n) → PlainLinks (links_of printing xs)
  link_row_plain b.end_of-Expr-Chain-1-2 = tt
  link_row_plain (b.more_of-Expr-Chain-1-2 o x rest) = (expr_plain x, link_row_plain rest)

  arm_row_plain : {n : _} (xs : b.Row_of-Expr-Cases-0-2 n) → PlainArms (arms_of printing xs)
  arm_row_plain b.end_of-Expr-Cases-0-2 = tt
  arm_row_plain (b.more_of-Expr-Cases-0-2 x y rest) = (expr_plain x, expr_plain y, arm_row_plain rest)

  other_plain : (o : b.Held-Expr-Cases-1) → PlainOption (other_of printing o)
  other_plain b.Expr-Cases-1-None' = tt
  other_plain (b.Expr-Cases-1-Some' _ x) = head_plain (exprs_of printing x) (row_plain x)

  filter_plain : (o : b.Held-Select-filter) → PlainOption (filter_of printing o)
  filter_plain b.Select-filter-None' = tt
  filter_plain (b.Select-filter-Some' x) = expr_plain x

  items_plain : {n : _} (xs : b.Row_of-Item n) → AllPlain (items_of printing xs)
  items_plain b.end_of-Item = tt
  items_plain (b.more_of-Item x alias rest) = (alias_plain (printed x) alias (expr_plain x), items_plain rest)

  keys_plain : {n : _} (xs : b.Row_of-Key n) → AllPlain (keys_of printing xs)
  keys_plain b.end_of-Key = tt
  keys_plain (b.more_of-Key x descending rest) =
      (joins (placed l.Or (printed x)) (plain_placed l.Or (printed x) (expr_plain x)) (plain_perhaps descending m.Desc plain_end), keys_plain rest)

  source_plain : (s : Source) → Plain (source_of printing s).terminals
  source_plain (b.Table n) = (plain_more refl plain_end)
  source_plain (b.Sub' _ q lateral) =
      plain_perhaps lateral m.Lateral
      (plain_more refl (joins (head_or printing.no_query (queries_of printing q)) (first_plain (queries_of printing q) (query_row_plain q))
      (plain_more refl plain_end)))

  froms_plain : {n : _} (xs : b.Row_of-FromItem n) → AllPlain (froms_of printing xs)
  froms_plain b.end_of-FromItem = tt
  froms_plain (b.more_of-FromItem source alias columns rest) =
      (from_item_plain (source_of printing source) alias columns (source_plain source), froms_plain rest)

  select_plain : (s : Select) → Plain (select_of printing s)
  select_plain (b.struct-Select _ list _ from filter _ order limit) =
      (plain_more refl (joins (with_commas (items_of printing list))
      (plain_joined (mark m.Comma ∷ []) (items_of printing list) comma_plain (items_plain list))
      (joins (from_terminals (froms_of printing from)) (from_plain (froms_of printing from) (froms_plain from))
      (joins (where_terminals (filter_of printing filter)) (where_plain (filter_of printing filter) (filter_plain filter))
      (joins (order_terminals (keys_of printing order)) (order_plain (keys_of printing order) (keys_plain order))
      (limit_plain (filter_of printing limit) (filter_plain limit)))))))

  select_row_plain : {n : _} (xs : b.Row_of-Select n) → AllPlain (selects_of printing xs)
  select_row_plain b.end_of-Select = tt
  select_row_plain (b.more_of-Select s rest) = (select_plain s, select_row_plain rest)

  recursive_plain : (r : Recursive) → Plain (recursive_of printing r)
  recursive_plain (b.struct-Recursive n columns _ first second) =
      (plain_more refl (plain_more refl
      (plain_more refl (plain_more refl
      (joins (names_terminals columns) (names_plain columns)
      (plain_more refl (plain_more refl
      (plain_more refl (joins (selects_terminals (selects_of printing first ++ select_of printing second ∷ []))
      (plain_joined (mark m.Union ∷ mark m.All ∷ []) (selects_of printing first ++ select_of printing second ∷ [])
      (plain_more refl (plain_more refl plain_end))
      (and_last (selects_of printing first) (select_of printing second) (select_row_plain first) (select_plain second))) (plain_more refl plain_end))))))))))

  with_plain : (o : b.Held-Query-recursive) → PlainList (with_of printing o)
  with_plain b.Query-recursive-None' = tt
  with_plain (b.Query-recursive-Some' r) = recursive_plain r

  query_plain : (q : Query) → Plain (query_of printing q)
  query_plain (b.struct-Query recursive _ selects) =
      query_by (with_of printing recursive) (selects_of printing selects) (with_plain recursive) (select_row_plain selects)

  query_row_plain : {n : _} (xs : b.Row_of-Query n) → AllPlain (queries_of printing xs)
  query_row_plain b.end_of-Query = tt
  query_row_plain (b.more_of-Query q rest) = (query_plain q, query_row_plain rest)

pub row_head_plain : {n : _} (xs : b.Row_of-Expr n) → Plain (head_or printing.no_expr (exprs_of printing xs)).terminals
row_head_plain xs = head_plain (exprs_of printing xs) (row_plain xs)

-- ---- what is printed of a select apart

each_item : (xs : List Item) → AllPlain (map (λ i. item_of printing i) xs)
each_item [] = tt
each_item (x ∷ xs) = (alias_plain (printed (out-Item x).expr) (out-Item x).alias (expr_plain (out-Item x).expr), each_item xs)

each_from : (xs : List FromItem) → AllPlain (map (λ f. from_of printing f) xs)
each_from [] = tt
each_from (x ∷ xs) = (
  from_item_plain (source_of printing (out-FromItem x).source) (out-FromItem x).alias (out-FromItem x).columns
      (source_plain (out-FromItem x).source),
  each_from xs,
)

each_key : (xs : List Key) → AllPlain (map (λ k. key_of printing k) xs)
each_key [] = tt
each_key (x ∷ xs) = (
  joins (placed l.Or (printed (out-Key x).expr)) (plain_placed l.Or (printed (out-Key x).expr) (expr_plain (out-Key x).expr))
      (plain_perhaps (out-Key x).descending m.Desc plain_end),
  each_key xs,
)

option_plain : (o : Option Expr) → PlainOption (option_map (λ e. printed e) o)
option_plain None = tt
option_plain (Some e) = expr_plain e

pub list_part_plain : (xs : List Item) → Plain (with_commas (map (λ i. item_of printing i) xs))
list_part_plain xs = plain_joined (mark m.Comma ∷ []) (map (λ i. item_of printing i) xs) comma_plain (each_item xs)

pub from_part_plain : (xs : List FromItem) → Plain (from_terminals (map (λ f. from_of printing f) xs))
from_part_plain xs = from_plain (map (λ f. from_of printing f) xs) (each_from xs)

pub where_part_plain : (o : Option Expr) → Plain (where_terminals (option_map (λ e. printed e) o))
where_part_plain o = where_plain (option_map (λ e. printed e) o) (option_plain o)

pub order_part_plain : (xs : List Key) → Plain (order_terminals (map (λ k. key_of printing k) xs))
order_part_plain xs = order_plain (map (λ k. key_of printing k) xs) (each_key xs)

pub limit_part_plain : (o : Option Expr) → Plain (limit_terminals (option_map (λ e. printed e) o))
limit_part_plain o = limit_plain (option_map (λ e. printed e) o) (option_plain o)
