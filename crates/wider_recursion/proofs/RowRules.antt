-- The tables whose rows a tree takes, by its parts.
use Rattle.std.proofs.Common.{◌≡◌, refl, ap, ◌∙◌, Bool, ◌||◌, List, [], ◌∷◌, map, Option, Some, None, option_map}
use Rattle.std.specs.Prelude.{bytes_eq, is_some, not, ◌&&◌}
use Rattle.std.specs.List.{list_any}
use Rattle.away_names.specs.Lookups.{Name}
use Rattle.away_trees.proofs.Equations as e
use Rattle.away_trees.specs.Algebra.{from_of, recursive_of}
use Rattle.away_trees.specs.declared.queries.Expr.TheViews.{out-Query, out-Select}
use Rattle.away_trees.specs.declared.queries.Query.{Query}
use Rattle.away_trees.specs.declared.queries.Select.{Select}
use Rattle.away_trees.specs.declared.queries.Source.TheVariants as source
use Rattle.wider_recursion.specs.TakenRows.{any_takes, of_alone, only_takes, query_takes, source_takes, takes_rows, taking}

any_map : {A B : Type 0} (f : B → Bool) (g : A → B) (xs : List A) → list_any f (map g xs) ≡ list_any (λ x. f (g x)) xs
any_map f g [] = refl
any_map f g (x ∷ xs) = ap (λ b. f (g x) || b) (any_map f g xs)

pub table_takes : (name n : Name) → source_takes name (source.Table n) ≡ bytes_eq n name
unfolding source_takes
table_takes name n = refl

pub sub_takes : (name : Name) (q : Query) (lateral : Bool) → source_takes name (source.Sub q lateral) ≡ query_takes name q
unfolding source_takes query_takes
sub_takes name q lateral = e.of_sub (taking name) q lateral

pub select_takes : (name : Name) (s : Select) → takes_rows name s ≡ any_takes name (out-Select s).from
unfolding takes_rows source_takes
select_takes name s = e.select_is (taking name) s ∙ any_map (λ b. b) (λ f. from_of (taking name) f) (out-Select s).from

alone_is : {A : Type 0} (name : Name) (r : Option A) (selects : List Select) → of_alone r (map (λ s. takes_rows name s) selects)
    ≡ not (is_some r) && only_takes name selects
unfolding of_alone
alone_is name None [] = refl
alone_is name None (s ∷ []) = refl
alone_is name None (s ∷ t ∷ more) = refl
alone_is name (Some r) selects = refl

some_map : {A B : Type 0} (f : A → B) (r : Option A) → is_some (option_map f r) ≡ is_some r
some_map f None = refl
some_map f (Some r) = refl

pub query_alone : (name : Name) (q : Query) → query_takes name q ≡ not (is_some (out-Query q).recursive) && only_takes name (out-Query q).selects
unfolding takes_rows query_takes
query_alone name q =
    e.query_is (taking name) q ∙ alone_is name (option_map (λ r. recursive_of (taking name) r) (out-Query q).recursive) (out-Query q).selects
    ∙ ap (λ b. not b && only_takes name (out-Query q).selects) (some_map (λ r. recursive_of (taking name) r) (out-Query q).recursive)

pub ruleset source_rules = (table_takes, sub_takes)
