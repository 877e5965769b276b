-- Items and selects without names.
use Rattle.std.proofs.Common.{◌≡◌, refl, ap, sym, ◌∙◌, ℕ, true, List, [], ◌∷◌, ◌++◌, map, Option, Some, None, option_map}
use Rattle.away_trees.specs.declared.queries.Expr.{Expr}
use Rattle.away_trees.specs.declared.queries.FromItem.{FromItem}
use Rattle.away_trees.specs.declared.queries.Item.{Item}
use Rattle.away_trees.specs.declared.queries.Source.{Source}
use Rattle.away_trees.specs.declared.queries.Source.TheVariants as source
use Rattle.away_trees.specs.declared.queries.Select.{Select}
use Rattle.away_trees.specs.declared.queries.Query.{Query}
use Rattle.away_trees.specs.declared.queries.Expr.TheViews.{roll-FromItem, roll-Select, roll-Query}
use Rattle.away_trees.specs.Algebra.{expr_of, item_of, from_of, select_of, query_of}
use Rattle.away_trees.proofs.Equations as eq
use Rattle.call_forms.specs.References.{either}
use Rattle.sql_meaning.specs.Names.{nameless, bare_columns, bare_select, bare_query}
use Rattle.sql_meaning.specs.Template.{gate, let_item}
use Rattle.sql_meaning.specs.Trees.{truth, select, one, lateral}
use Rattle.cte_parts.specs.Names.{alias_name, only_name, names_carrying}
use Rattle.cte_parts.specs.Trees.{lateral_as, only_as, gate_as, let_as, either_carrying}

abbrev pub from_bare : FromItem → FromItem
from_bare f = from_of nameless f

abbrev pub select_bare : Select → Select
select_bare s = select_of nameless s

-- a subquery's alias and the names of its columns don't stand there
abbrev lateral_bare : Query → FromItem
lateral_bare q = roll-FromItem (record { source = source.Sub q true; alias = []; columns = [] })

lateral_is : (alias : List ℕ) (names : List (List ℕ)) (q : Query) → from_bare (lateral_as alias names q) ≡ lateral_bare (query_of nameless q)
lateral_is alias names q = ap (λ (s : Source). roll-FromItem (record { source = s; alias = []; columns = bare_columns s names })) (eq.of_sub nameless q true)

pub same_lateral : (alias : List ℕ) (names : List (List ℕ)) (q r : Query) → query_of nameless q ≡ query_of nameless r → from_bare (lateral_as alias names q) ≡ from_bare (lateral r)
same_lateral alias names q r h = lateral_is alias names q ∙ (ap lateral_bare h ∙ sym (lateral_is [] [] r))

pub same_gate : (k : ℕ) (c : Expr) → from_bare (gate_as k c) ≡ from_bare (gate c)
same_gate k c = same_lateral (alias_name k) (only_name ∷ []) (one (select (truth true ∷ []) [] (Some c))) (one (select (truth true ∷ []) [] (Some c))) refl

pub same_let : (k : ℕ) (e : Expr) → from_bare (let_as k e) ≡ from_bare (let_item e)
same_let k e = same_lateral (alias_name k) (only_name ∷ []) (one (select (e ∷ []) [] None)) (one (select (e ∷ []) [] None)) refl

pub same_selects : (xs ys : List Select) → map (λ s. select_bare s) xs ≡ map (λ s. select_bare s) ys
    → query_of nameless (roll-Query (record { recursive = None; selects = xs })) ≡ query_of nameless (roll-Query (record { recursive = None; selects = ys }))
same_selects xs ys h = eq.of_query nameless xs ∙ (ap (λ zs. bare_query (record { recursive = None; selects = zs })) h ∙ sym (eq.of_query nameless ys))

pub same_either : (k carried columns : ℕ) (a b c d : Select) → select_bare a ≡ select_bare c → select_bare b ≡ select_bare d → from_bare (either_carrying k carried columns a b) ≡ from_bare (either c d)
same_either k carried columns a b c d h g = same_lateral (alias_name k) (names_carrying carried columns) (roll-Query (record { recursive = None; selects = a ∷ b ∷ [] })) (roll-Query (record { recursive = None; selects = c ∷ d ∷ [] })) (same_selects (a ∷ b ∷ []) (c ∷ d ∷ []) (λ i. h i ∷ (g i ∷ [])))

pub same_select : (list : List Item) (fs gs : List FromItem) (filter : Option Expr) → map (λ f. from_bare f) fs ≡ map (λ f. from_bare f) gs
    → select_bare (roll-Select (record { list = list; from = fs; filter = filter; order = []; limit = None }))
    ≡ select_bare (roll-Select (record { list = list; from = gs; filter = filter; order = []; limit = None }))
same_select list fs gs filter h =
    eq.of_select nameless list fs filter [] None
    ∙ (ap (λ froms. bare_select (record { list = map (λ i. item_of nameless i) list; from = froms; filter = option_map (λ e. expr_of nameless e) filter; order = []; limit = None })) h
    ∙ sym (eq.of_select nameless list gs filter [] None))
