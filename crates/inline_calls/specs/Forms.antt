-- When a query may have its calls of a function replaced: its form, and where the calls stand.
use Rattle.std.specs.Prelude.{
  ◌≡◌,
  Bool,
  true,
  false,
  not,
  ◌&&◌,
  ◌||◌,
  List,
  [],
  ◌∷◌,
  Option,
  Some,
  None,
  is_some,
}
use Rattle.std.specs.List.{list_any}
use Rattle.away_trees.specs.declared.queries.Expr.TheViews.{out-Query, out-Select, roll-Select}
use Rattle.away_trees.specs.declared.queries.Item.{Item}
use Rattle.away_trees.specs.declared.queries.Query.{Query}
use Rattle.away_trees.specs.declared.queries.Recursive.{Recursive}
use Rattle.away_trees.specs.declared.queries.Select.{Select}
use Rattle.away_trees.specs.declared.statements.Function.{Function}
use Rattle.away_names.specs.Functions.{function}
use Rattle.away_names.specs.Lookups.{Name}
use Rattle.away_typing.specs.Trees.{uses_of_select}
use Rattle.moved_names.specs.Finding.{Sought, in_expr, in_select}
use Rattle.moved_names.specs.Words.{calls_of, kept_words}
use Rattle.inline_law.specs.Filled.{CallingSelect}
use Rattle.inline_calls.specs.Parting.{Parted, parted_items}

-- ---- the form

abbrev pub alone : Option Recursive → List Select → Option Select
alone None (x ∷ []) = Some x
alone r xs = None

-- the select that a query is, without WITH
abbrev pub only_select : Query → Option Select
only_select q = alone (out-Query q).recursive (out-Query q).selects

-- calls of a function
abbrev pub calls_of_name : Name → Sought
calls_of_name name = calls_of (name ∷ [])

abbrev pub calls_of_it : Function → Sought
calls_of_it f = calls_of_name f.name

-- of the select
abbrev pub is_form : Function → Select → Bool
is_form f x =
    not (uses_of_select x).aggregate
    && (not (in_select kept_words x)
    && (not (is_some (function f.name)) && in_select (calls_of_it f) x))

-- The query is one select, without an aggregate of its own in its list. No name that it writes is
-- kept for the query that is to be written. The function has no operator's function's name, and a
-- call of it stands in the query.
pub record HasForm (f : Function) (q : Query) (x : Select) : Type 0 where
  pub single : only_select q ≡ Some x
  pub form : is_form f x ≡ true

abbrev pub TellsForm : Function → Query → Option Select → Type 0
TellsForm f q None = (x : Select) → HasForm f q x → ⊥
TellsForm f q (Some x) = HasForm f q x

-- ---- where the calls stand

-- a select with another list
abbrev pub with_list : Select → List Item → Select
with_list x list = roll-Select (record {
  list = list;
  from = (out-Select x).from;
  filter = (out-Select x).filter;
  order = (out-Select x).order;
  limit = (out-Select x).limit;
})

-- The calls that stand in the list, outside subqueries and outside the arguments of other calls,
-- and the select with slots in their places.
abbrev pub calling_by : Select → Parted (List Item) → CallingSelect
calling_by x p = record { select = with_list x p.it; calls = p.calls }

abbrev pub calling : Function → Select → CallingSelect
calling f x = calling_by x (parted_items f.name (out-Select x).list [])

-- a call stands in what is left, or in an argument
abbrev pub misplaces : Function → CallingSelect → Bool
misplaces f c = in_select (calls_of_it f) c.select
    || list_any (list_any (in_expr (calls_of_it f))) c.calls

-- each call stands in the list, outside subqueries and outside the arguments of other calls
abbrev pub ArePlaced : Function → Select → Type 0
ArePlaced f x = misplaces f (calling f x) ≡ false
