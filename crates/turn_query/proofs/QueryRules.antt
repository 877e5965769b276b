-- What the terms of the recursive table are made of.
use Rattle.std.proofs.Common.{◌≡◌, refl, ap, ◌∙◌, ℕ, suc, ◌+◌, List, [], ◌∷◌, map, length, nat_eq, arith, Some, None}
use Rattle.std.proofs.lemmas.Bool.{ne_eqb}
use Rattle.away_trees.specs.declared.queries.Expr.{Expr}
use Rattle.away_trees.specs.declared.queries.Expr.TheViews.{roll-Select}
use Rattle.away_trees.specs.declared.queries.FromItem.{FromItem}
use Rattle.away_trees.specs.declared.queries.Item.{Item}
use Rattle.away_trees.specs.declared.queries.Select.{Select}
use Rattle.sql_meaning.specs.Trees.{col, item}
use Rattle.cte_parts.specs.Trees.{working}
use Rattle.turn_template.specs.TurnTemplate.{Plan, all_cells, is_single}
use Rattle.turn_query.specs.TurnTree.{level_as, over_turn, over_turns, width_of, all_of, going}

as_wide : (n width : ℕ) → width ≡ n + 4 → width ≡ width_of n
as_wide n width is = let wide : n + 4 ≡ suc (suc (suc (suc n))) = omega arith in is ∙ wide

-- the rows of the working table that go on
pub going_is : (tables columns many : ℕ) (list : List Item) (from : List FromItem) (goes_on : Expr) (rows boxed : Select)
    → many ≡ columns + 4 → list ≡ map item (all_cells many) → from ≡ working tables columns ∷ [] → goes_on ≡ col 0 0 0
    → rows ≡ roll-Select (record { list = list; from = from; filter = Some goes_on; order = []; limit = None }) → boxed ≡ rows
    → level_as columns 0 boxed ≡ going tables columns
going_is tables columns many list from goes_on rows boxed wide listed froms goes made is =
    let whole : list ≡ map item (all_cells (width_of columns)) = listed ∙ ap (λ n. map item (all_cells n)) (as_wide columns many wide) in
    let rows_are : rows ≡ roll-Select (record {
      list = map item (all_cells (width_of columns));
      from = working tables columns ∷ [];
      filter = Some (col 0 0 0);
      order = [];
      limit = None;
    }) = made ∙ (λ k. roll-Select (record { list = whole k; from = froms k; filter = Some (goes k); order = []; limit = None })) in
    ap (level_as columns 0) (is ∙ rows_are)

-- a turn over an item, and turns over an item
pub turn_over : (n width : ℕ) (made plan : Plan) (below from over : FromItem) → width ≡ n + 4 → made ≡ plan → below ≡ from
    → over ≡ over_turn n width made below → all_of n over ≡ all_of n (over_turn n (width_of n) plan from)
turn_over n width made plan below from over wide plans froms is =
    ap (all_of n) (is ∙ (λ k. over_turn n (as_wide n width wide k) (plans k) (froms k)))

pub turns_over : (n width turns : ℕ) (plan : Plan) (below from over : FromItem) → width ≡ n + 4 → below ≡ from
    → over ≡ over_turns n width plan turns below → all_of n over ≡ all_of n (over_turns n (width_of n) plan turns from)
turns_over n width turns plan below from over wide froms is =
    ap (all_of n) (is ∙ (λ k. over_turns n (as_wide n width wide k) plan turns (froms k)))

-- one label is one that is called alone
pub single : (bs : List ℕ) → nat_eq (length bs) 1 ≡ is_single bs
single [] = refl
single (b ∷ []) = refl
single (b ∷ c ∷ bs) = ne_eqb (length (b ∷ c ∷ bs)) 1 (λ p. omega (arith, p))
