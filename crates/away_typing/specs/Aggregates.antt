-- Where aggregates stand in a tree whose names are resolved, and which columns stand outside them.
use Rattle.std.specs.Prelude.{
  ℕ,
  suc,
  Bool,
  true,
  false,
  not,
  ◌&&◌,
  ◌||◌,
  if◌then◌else◌,
  ◌==◌,
  nat_lt,
  List,
  [],
  ◌∷◌,
  map,
  fold,
  Option,
  Some,
  None,
  option_and_then,
}
use Rattle.std.specs.List.{list_any}
use Rattle.away_trees.specs.declared.queries.Expr.TheOpen.{
  Expr-F,
  Source-F,
  FromItem-F,
  Item-F,
  Key-F,
  Select-F,
  Recursive-F,
  Query-F,
}
use Rattle.away_trees.specs.declared.queries.Expr.TheOpen as ex
use Rattle.away_trees.specs.Algebra.{Algebra}
use Rattle.away_trees.specs.AlgebraEquations.{algebra}
use Rattle.away_typing.specs.declared.uses.Uses.{Uses}
use Rattle.away_names.specs.declared.function.Known.{Known}
use Rattle.away_names.specs.Functions.{function, is_aggregate}

-- ---- what is used

unfoldable pub unused : Uses
unused = record { aggregate = false; query = false; own = false; foreign = false; free = false; misused = false; limited = false }

unfoldable pub either : Uses → Uses → Uses
either a b =
    record {
      aggregate = a.aggregate || b.aggregate;
      query = a.query || b.query;
      own = a.own || b.own;
      foreign = a.foreign || b.foreign;
      free = a.free || b.free;
      misused = a.misused || b.misused;
      limited = a.limited || b.limited;
    }

unfoldable pub of_slot : Uses
of_slot = record unused { foreign = true }

unfoldable pub of_column : ℕ → Uses
of_column level = record unused { own = level == 0; foreign = nat_lt 0 level; free = level == 0 }

-- An aggregate may have no aggregate and no subquery in its argument, and no variable or outer
-- column there without one of its own.
unfoldable pub aggregated : Uses → Uses
aggregated u = record u { aggregate = true; free = false; misused = u.misused || (u.aggregate || (u.query || (u.foreign && not u.own))) }

unfoldable pub is_known_aggregate : Option Known → Bool
is_known_aggregate None = false
is_known_aggregate (Some f) = is_aggregate f

unfoldable pub called : List ℕ → Uses → Uses
called name u = if is_known_aggregate (function name) then aggregated u else u

-- a subquery in an expression, which may have a column of the expression's select
unfoldable pub of_query : Uses → Bool → Uses
of_query u names = record unused { query = true; free = names; misused = u.misused; limited = u.limited }

-- a query or a FROM item is seen from outside by its misuse alone
unfoldable pub apart : Uses → Uses
apart u = record unused { misused = u.misused; limited = u.limited }

-- outside a list no aggregate may stand
unfoldable pub outside : Uses → Uses
outside u = record unused { misused = u.misused || u.aggregate; limited = u.limited }

-- a select by its list, its keys and all else; with aggregates it has no ORDER BY, and no column of
-- its own outside them
unfoldable pub of_select : Uses → Bool → Uses → Bool → Uses
of_select list ordered rest own_limit =
    record unused {
      aggregate = list.aggregate;
      misused = list.misused || (rest.misused || (list.aggregate && (ordered || list.free)));
      limited = list.limited || (rest.limited || own_limit);
    }

abbrev pub all_of : List Uses → Uses
all_of = fold either unused

abbrev pub is_some_of : {A : Type 0} → List A → Bool
is_some_of [] = false
is_some_of (x ∷ xs) = true

-- by what its list, its FROM, its condition, its keys and its LIMIT use, and whether LIMIT has a
-- column of its own select
abbrev pub select_uses : Uses → Uses → Uses → Uses → Uses → Bool → Bool → Uses
select_uses list from filter order limit ordered own_limit =
    of_select list ordered (either from (either (outside filter) (either (outside order) (outside limit)))) own_limit

-- ---- what stands for a tree

-- `names` says whether a column of the select that many levels outward stands in it
pub record Term : Type 0 where
  pub uses : Uses
  pub names : ℕ → Bool

abbrev pub bare : Uses → Term
bare u = record { uses = u; names = λ level. false }

abbrev pub all : List Term → Term
all ts = record { uses = all_of (map (λ t. t.uses) ts); names = λ level. list_any (λ t. t.names level) ts }

unfoldable pub or_ : Bool → Bool → Bool
or_ a b = a || b

abbrev pub with_ : Term → Term → Term
with_ a b = record { uses = either a.uses b.uses; names = λ level. or_ (a.names level) (b.names level) }

abbrev pub maybe : Option Term → Term
maybe None = bare unused
maybe (Some t) = t

abbrev pub Layer : Type 0
Layer = Expr-F Term Term Term Term Term Term Term Term

abbrev pub term : Layer → Term
term (ex.Slot i) = bare of_slot
term (ex.Column c) = record { uses = of_column c.level; names = λ level. c.level == level }
term (ex.Neg e) = e
term (ex.NegSmall e) = e
term (ex.Not e) = e
term (ex.Is e test negative) = e
term (ex.Chain e links) = with_ e (all (map (λ l. l.1) links))
term (ex.Compare op a b) = with_ a b
term (ex.Between negative e low high) = with_ e (with_ low high)
term (ex.OneOf negative e choices) = with_ e (all choices)
term (ex.Cast e ty) = e
term (ex.Cases arms other) = with_ (all (map (λ arm. with_ arm.0 arm.1) arms)) (maybe other)
term (ex.Call name es) = record { uses = called name (all_of (map (λ t. t.uses) es)); names = λ level. list_any (λ t. t.names level) es }
term ex.CountRows = bare (aggregated unused)
term (ex.Scalar q) = record { uses = of_query q.uses (q.names 1); names = λ level. q.names (suc level) }
term (ex.Exists q) = record { uses = of_query q.uses (q.names 1); names = λ level. q.names (suc level) }
term _ = bare unused

abbrev pub origin : Source-F Term Term Term Term Term Term Term Term → Term
origin (ex.Table name) = bare unused
origin (ex.Sub q lateral) = record { uses = apart q.uses; names = λ level. q.names (suc level) }

abbrev pub limit_of : Option Term → Bool
limit_of t = (maybe t).names 0

abbrev pub listing : Select-F Term Term Term Term Term Term Term Term → Term
listing s =
    record {
      uses = select_uses (all s.list).uses (all s.from).uses (maybe s.filter).uses (all s.order).uses (maybe s.limit).uses (is_some_of s.order)
          (limit_of s.limit);
      names = λ level. or_ ((all s.list).names level)
          (or_ ((all s.from).names level) (or_ ((maybe s.filter).names level) (or_ ((all s.order).names level) ((maybe s.limit).names level))));
    }

abbrev pub whole : Query-F Term Term Term Term Term Term Term Term → Term
whole q = record { uses = apart (either (maybe q.recursive).uses (all q.selects).uses); names = (with_ (maybe q.recursive) (all q.selects)).names }

-- the two terms of a recursive table
abbrev pub terms : Recursive-F Term Term Term Term Term Term Term Term → Term
terms r = record { uses = apart (either (all r.first).uses r.second.uses); names = λ level. or_ ((all r.first).names level) (r.second.names level) }

abbrev pub using_ : Algebra
using_ = algebra (record {
  no_expr = bare unused;
  no_query = bare unused;
  expr = term;
  source = origin;
  from = λ f. f.source;
  item = λ i. i.expr;
  key = λ k. k.expr;
  query = whole;
  recursive = terms;
  select = listing;
})
