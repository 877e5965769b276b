-- The selects over the recursive table: the rows that have ended, in the order of the table.
use Rattle.std.proofs.Common.{◌≡◌, ℕ, suc, ◌<◌, ◌^◌, false, List, [], ◌∷◌, map, length, decimal, Some, Ok, refl, ap, ◌∙◌, subst}
use Rattle.away_trees.specs.declared.queries.Expr.{Expr}
use Rattle.away_trees.specs.declared.queries.Expr.TheVariants as expr
use Rattle.away_trees.proofs.Equations as eq
use Rattle.away_values.specs.declared.values.Value.{Value}
use Rattle.away_values.specs.Operators.{negation, is_true}
use Rattle.away_values.specs.Results.{and_then, mapped, each}
use Rattle.sql_meaning.specs.Context.{Rows, Frame, Context, at, column, inside}
use Rattle.sql_meaning.specs.Expressions.{values, any_aggregates}
use Rattle.sql_meaning.specs.Meaning.{meaning, value, rows_of_item, rows_of_select}
use Rattle.sql_meaning.specs.Selects.{product, keep, keep_if}
use Rattle.sql_meaning.specs.Template.{last}
use Rattle.sql_meaning.specs.Trees.{col, table}
use Rattle.sql_meaning.proofs.Returns.{turned}
use Rattle.sql_meaning.proofs.RowPlaces.{last_table, at_value, after_value}
use Rattle.sql_meaning.proofs.SelectRows.{Are, is_col, none, more, rows_of, rows_of_table, extended}
use Rattle.together.specs.Encoded.{AllGood}
use Rattle.together.specs.Steppers.{on, ended, answers}
use Rattle.cte_law.proofs.Sequences.{alone}
use Rattle.cte_law.proofs.States.{State, Ended, row_of}
use Rattle.cte_law.proofs.WorkingRows.{end_row}
use Rattle.cte_law.proofs.Works.{all, froms}
use Rattle.cte_law.proofs.Worlds.{World}

-- what is carried, with an end
abbrev pub End : Type 0
End = List Value × Ended

abbrev pub not_going : Expr
not_going = expr.Not (col 0 0 0)

not_going_is : (cx : Context) → value not_going cx ≡ Ok (negation (column cx.frames (record { level = 0; item = 0; column = 0 })))
not_going_is cx = ap (λ x. x.value cx) (eq.of_not meaning (col 0 0 0)) ∙ ap (mapped negation) (is_col cx 0 0 0).gives

module _ (w : World) where
  abbrev pub frame_of_end : End → Frame
  frame_of_end a = end_row a.0 w.tail.columns a.1.0 a.1.1 ∷ []

  abbrev pub frames_of : List State → List Frame
  frames_of ss = map (λ row. row ∷ []) (map (row_of w) ss)

  pub ends_kept : (cx : Context) (ss : List State)
      → keep (λ frame. value not_going (inside frame cx)) (frames_of ss) ≡ Ok (map frame_of_end (answers ss))
  ends_kept cx [] = refl
  ends_kept cx (on p ∷ ss) =
      (λ i. and_then (not_going_is (inside (row_of w (on p) ∷ []) cx) i)
      (λ x. mapped (keep_if (row_of w (on p) ∷ []) (is_true x)) (ends_kept cx ss i)))
  ends_kept cx (ended a ∷ ss) =
      (λ i. and_then (not_going_is (inside (frame_of_end a) cx) i) (λ x. mapped (keep_if (frame_of_end a) (is_true x)) (ends_kept cx ss i)))

  pub ends_listed : (cx : Context) (list : List Expr) (g : End → List Value) (Good : End → Type 0)
      → ((a : End) → Good a → Are (inside (frame_of_end a) cx) list (g a)) → (ends : List End) → AllGood Good ends
      → each (λ frame. values (inside frame cx) (all list)) (map frame_of_end ends) ≡ Ok (map g ends)
  ends_listed cx list g Good are [] h = refl
  ends_listed cx list g Good are (a ∷ ends) h =
      (λ i. and_then ((are a h.0).gives i) (λ y. mapped (λ ys. y ∷ ys) (ends_listed cx list g Good are ends h.1 i)))

  -- the recursive table alone in FROM
  pub from_table : (args : List Value) → length w.tables < 2 ^ 64 → (ss : List State)
      → product (turned w.tables args (map (row_of w) ss)) (froms (table (length w.tables) ∷ [])) ([] ∷ []) ≡ Ok (frames_of ss)
  from_table args small ss =
      let rows : Rows = map (row_of w) ss in
      let cx : Context = turned w.tables args rows in
      let from = rows_of_table (length w.tables) cx [] small ∙ ap Ok (last_table w.tables rows) in
      ap (λ x. and_then x (λ y. Ok y))
      (extended cx (rows_of_item (table (length w.tables))) [] (Ok rows) from ∙ alone (Ok (map (λ row. row ∷ []) rows)))

  -- ---- the result and the class of one call

  -- nothing is carried
  abbrev pub CarriesNone : End → Type 0
  CarriesNone a = a.0 ≡ []

  abbrev pub result_row : End → List Value
  result_row a = a.1.0 ∷ a.1.1 ∷ []

  abbrev last_list : List Expr
  last_list = col 0 0 (suc (suc (length w.tail.columns))) ∷ col 0 0 (suc (suc (suc (length w.tail.columns)))) ∷ []

  last_single : (cx : Context) → any_aggregates (all last_list) ≡ false
  last_single cx =
      let n : ℕ = length w.tail.columns in
      (more cx (col 0 0 (suc (suc n))) _ _ _ (is_col cx 0 0 (suc (suc n)))
      (more cx (col 0 0 (suc (suc (suc n)))) _ _ _ (is_col cx 0 0 (suc (suc (suc n)))) (none cx))).single

  last_are : (cx : Context) (a : End) → CarriesNone a → Are (inside (frame_of_end a) cx) last_list (result_row a)
  last_are cx a none_carried =
      let n : ℕ = length w.tail.columns in
      let there : Context = inside (frame_of_end a) cx in
      subst (λ vs. Are there last_list vs)
      (λ i. (ap (λ xs. at (end_row xs w.tail.columns a.1.0 a.1.1) (suc (suc n))) none_carried ∙ at_value w.tail.columns a.1.0 a.1.1) i
      ∷ (ap (λ xs. at (end_row xs w.tail.columns a.1.0 a.1.1) (suc (suc (suc n)))) none_carried ∙ after_value w.tail.columns a.1.0 a.1.1) i
      ∷ [])
      (more there (col 0 0 (suc (suc n))) _ _ _ (is_col there 0 0 (suc (suc n)))
      (more there (col 0 0 (suc (suc (suc n)))) _ _ _ (is_col there 0 0 (suc (suc (suc n)))) (none there)))

  pub last_of : (args : List Value) → length w.tables < 2 ^ 64 → (ss : List State) (ends : List End) → answers ss ≡ ends → AllGood CarriesNone ends
      → rows_of_select (last (decimal (length w.tables)) (length w.tail.columns)) (turned w.tables args (map (row_of w) ss)) ≡ Ok (map result_row ends)
  last_of args small ss ends same good =
      let cx : Context = turned w.tables args (map (row_of w) ss) in
      rows_of cx last_list (table (length w.tables) ∷ []) (Some not_going) (frames_of ss) (map frame_of_end ends) (Ok (map result_row ends))
      (from_table args small ss) (ends_kept cx ss ∙ ap (λ as_. Ok (map frame_of_end as_)) same) (last_single cx)
      (ends_listed cx last_list result_row CarriesNone (λ a h. last_are cx a h) ends good)
