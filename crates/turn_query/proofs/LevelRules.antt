-- Levels along the loops that write them.
use Rattle.std.proofs.Common.{◌≡◌, refl, ap, sym, ◌∙◌, ℕ, zero, suc, ◌+◌, ◌-◌, ◌<◌, ◌≤◌, List, [], ◌∷◌, ◌++◌, map, length, take, drop, get_or, arith, Some, None}
use Rattle.std.proofs.lemmas.List.{drop_more, drop_all, map-append, take_rest}
use Rattle.away_trees.specs.declared.queries.Expr.{Expr}
use Rattle.away_trees.specs.declared.queries.Expr.TheVariants as expr
use Rattle.away_trees.specs.declared.queries.Expr.TheViews.{roll-Select}
use Rattle.away_trees.specs.declared.queries.FromItem.{FromItem}
use Rattle.away_trees.specs.declared.queries.Item.{Item}
use Rattle.away_trees.specs.declared.queries.Select.{Select}
use Rattle.sql_meaning.specs.Template.{count_from}
use Rattle.sql_meaning.specs.Trees.{item}
use Rattle.turn_template.specs.TurnTemplate.{Plan, all_cells, gated, is_there, behind_reads, last_level}
use Rattle.turn_query.specs.TurnTree.{level_as, step_list, over_step, over_steps, over_turn, over_turns, width_of, all_of}

one_on : (i : ℕ) → i + 1 ≡ suc i
one_on i = omega arith

-- one more step
module _ (columns width : ℕ) (steps : List Expr) where
  abbrev from_step : ℕ → FromItem → FromItem
  from_step i from = over_steps columns i (width + i) (drop i steps) from

  pub next_step : (i many : ℕ) (e d : Expr) (before after : FromItem) → i < length steps → many ≡ width + i → e ≡ get_or steps i d
      → after ≡ over_step columns i many e before → from_step (i + 1) after ≡ from_step i before
  next_step i many e d before after lt here is made =
      let further : width + (i + 1) ≡ suc (width + i) = omega arith in
      (λ k. over_steps columns (one_on i k) (further k) (drop (i + 1) steps) (made k))
      ∙ ((λ k. over_steps columns (suc i) (suc (width + i)) (drop (i + 1) steps) (over_step columns i (here k) (is k) before))
      ∙ ap (λ es. over_steps columns i (width + i) es before) (sym (drop_more steps i d lt)))

  pub no_step : (from : FromItem) → from_step 0 from ≡ over_steps columns 0 width steps from
  no_step from = let here : width + 0 ≡ width = omega arith in ap (λ m. over_steps columns 0 m steps from) here

  pub last_step : (i : ℕ) (from : FromItem) → length steps ≤ i → from ≡ from_step i from
  last_step i from le = sym (ap (λ es. over_steps columns i (width + i) es from) (drop_all i steps le))

-- one more column that is read
pub next_read : (first left many : ℕ) (before after e : Expr) (j : ℕ) → 1 ≤ left → left ≤ many → j ≡ first + (left - 1)
    → before ≡ behind_reads (count_from (first + left) (many - left)) e → after ≡ gated (is_there j) before
    → after ≡ behind_reads (count_from (first + (left - 1)) (many - (left - 1))) e
next_read first zero many before after e j some le here so_far made = absurd (let no : ⊥ = omega (arith, some) in no)
next_read first (suc left) many before after e j some le here so_far made =
    let now : suc left - 1 ≡ left = omega arith in
    let at : j ≡ first + left = here ∙ ap (λ n. first + n) now in
    let after_it : first + suc left ≡ suc (first + left) = omega arith in
    let less : many - left ≡ suc (many - suc left) = omega (arith, le) in
    made
    ∙ ((λ k. gated (is_there (at k)) (so_far k))
    ∙ (ap (λ n. gated (is_there (first + left)) (behind_reads (count_from n (many - suc left)) e)) after_it
    ∙ (ap (λ n. behind_reads (count_from (first + left) n) e) (sym less)
    ∙ ap (λ n. behind_reads (count_from (first + n) (many - n)) e) (sym now))))

pub none_read : (first many : ℕ) (e : Expr) → e ≡ behind_reads (count_from (first + many) (many - many)) e
none_read first many e =
    let none : many - many ≡ 0 = omega arith in
    ap (λ n. behind_reads (count_from (first + many) n) e) (sym none)

pub all_read : (first left many : ℕ) (behind e : Expr) → left ≤ 0 → behind ≡ behind_reads (count_from (first + left) (many - left)) e
    → behind ≡ behind_reads (count_from first many) e
all_read first left many behind e le so_far =
    let at : first + left ≡ first = omega (arith, le) in
    let as_many : many - left ≡ many = omega (arith, le) in
    so_far ∙ ((λ k. behind_reads (count_from (at k) (many - left)) e) ∙ ap (λ n. behind_reads (count_from first n) e) as_many)

-- one more turn
pub next_turn : (columns width left : ℕ) (p : Plan) (before after : FromItem) → 1 ≤ left → after ≡ over_turn columns width p before
    → over_turns columns width p (left - 1) after ≡ over_turns columns width p left before
next_turn columns width zero p before after some made = absurd (let no : ⊥ = omega (arith, some) in no)
next_turn columns width (suc left) p before after some made =
    let now : suc left - 1 ≡ left = omega arith in
    λ k. over_turns columns width p (now k) (made k)

pub no_turn : (columns width left : ℕ) (p : Plan) (from : FromItem) → left ≤ 0 → from ≡ over_turns columns width p left from
no_turn columns width left p from le =
    let none : left ≡ 0 = omega (arith, le) in
    sym (ap (λ k. over_turns columns width p k from) none)

-- what is made of a level
pub all_of_is : (columns many : ℕ) (list : List Item) (from : FromItem) (froms : List FromItem) → many ≡ columns + 4
    → list ≡ map item (all_cells many) → froms ≡ from ∷ []
    → roll-Select (record { list = list; from = froms; filter = None; order = []; limit = None }) ≡ all_of columns from
all_of_is columns many list from froms wide made froms_made =
    let as_wide : columns + 4 ≡ suc (suc (suc (suc columns))) = omega arith in
    let whole : list ≡ map item (all_cells (width_of columns)) = made ∙ ap (λ n. map item (all_cells n)) (wide ∙ as_wide) in
    λ k. roll-Select (record { list = whole k; from = froms_made k; filter = None; order = []; limit = None })

pub step_list_is : (many : ℕ) (step copied : Expr) (before after : List Item) → before ≡ map item (all_cells many) → copied ≡ step
    → after ≡ before ++ (item copied ∷ []) → after ≡ map item (step_list many step)
step_list_is many step copied before after made is added =
    added ∙ ((λ k. made k ++ (item (is k) ∷ [])) ∙ sym (map-append item (all_cells many) (step ∷ [])))

abbrev fence : List Item → FromItem → Select
fence list from = roll-Select (record { list = list; from = from ∷ []; filter = None; order = []; limit = Some expr.Null })

pub over_step_is : (columns steps many more : ℕ) (step : Expr) (list : List Item) (level : Select) (from : FromItem) → more ≡ steps + 1
    → list ≡ map item (step_list many step) → level ≡ fence list from → level_as columns more level ≡ over_step columns steps many step from
over_step_is columns steps many more step list level from one_more made fenced_it =
    let as_many : more ≡ suc steps = one_more ∙ one_on steps in
    λ k. level_as columns (as_many k) ((fenced_it ∙ ap (λ l. fence l from) made) k)

pub over_turn_is : (columns width : ℕ) (p : Plan) (cells : List Item) (under from : FromItem) (last : Select)
    → cells ≡ map item (last_level width p) → under ≡ over_steps columns 0 width p.steps from → last ≡ fence cells under
    → level_as columns 0 last ≡ over_turn columns width p from
over_turn_is columns width p cells under from last made stepped fenced_it =
    λ k. level_as columns 0 ((fenced_it ∙ (λ j. fence (made j) (stepped j))) k)

-- a list by its first element and the rest
pub first_rest : {X : Type 0} (xs : List X) (x : X) → 1 ≤ length xs → x ≡ get_or xs 0 x → xs ≡ x ∷ take (length xs - 1) (drop 1 xs)
first_rest [] x lt e = absurd (omega arith)
first_rest (y ∷ ys) x lt e = λ i. sym e i ∷ sym (take_rest (y ∷ ys) 1) i

pub is_nil : {X : Type 0} (xs : List X) → length xs < 1 → xs ≡ []
is_nil [] h = refl
is_nil (x ∷ xs) h = absurd (omega arith)
