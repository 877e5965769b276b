-- The equations of the parts of a select.
use Rattle.std.proofs.Common.{◌≡◌, refl, sym, ◌∙◌, ap, subst, ℕ, suc, Bool, true, false, if◌then◌else◌, List, [], ◌∷◌, ◌++◌, length, map, zip, Some, None, Ok, Err, append_assoc, arith, rules, slice_index_or}
use Rattle.away_values.specs.declared.values.Value.{Value}
use Rattle.away_values.specs.declared.values.Value.TheVariants as val
use Rattle.away_trees.specs.declared.queries.Expr.{Expr}
use Rattle.away_trees.specs.declared.queries.FromItem.{FromItem}
use Rattle.away_trees.specs.declared.queries.Item.{Item}
use Rattle.away_trees.specs.declared.queries.Key.{Key}
use Rattle.away_trees.specs.declared.queries.Query.{Query}
use Rattle.away_trees.specs.declared.queries.Select.{Select}
use Rattle.away_trees.specs.declared.queries.Source.TheVariants as source
use Rattle.away_trees.specs.declared.queries.Expr.TheViews.{out-FromItem, out-Item, out-Key, out-Query, out-Select}
use Rattle.away_values.specs.Results.{Or, and_then, mapped, each}
use Rattle.away_values.specs.Operators.{is_true}
use Rattle.away_trees.proofs.Equations as eq
use Rattle.sql_meaning.specs.Context.{Rows, Frame, Context, inside, over}
use Rattle.sql_meaning.specs.Equations.{items, keys, optional, rows_of_source}
use Rattle.sql_meaning.specs.Meaning.{meaning, value, rows_of_item}
use Rattle.sql_meaning.specs.Selects.{extend, product, keep, keep_if, kept, listed, ordered, sorted, comes_before, place_of, taken, cut}
use Rattle.sql_meaning.specs.Expressions.{ExprMeaning, KeyMeaning, values, any_aggregates}
use Rattle.away_trees.specs.Algebra.{item_of, key_of}
use Rattle.sql_meaning.proofs.Nodes as nodes
use Rattle.sql_meaning.proofs.Lists.{fused, any_map, each_map}
use Rattle.std.specs.Ordering.{is_lt}
use Rattle.sql_meaning.specs.KeyOrder.{keys_cmp}
use Rattle.sql_meaning.specs.Selected.{falls}
use Rattle.sql_meaning.specs.Aggregates.{any_item}
use Rattle.sql_meaning.specs.Gives.{Gives, value_of, query_rows, after, each_of, joined_of}
use Rattle.sql_meaning.specs.Selected.{select_rows, item_rows, beside, beside_of, extended_of, product_of, value_at, keep_of, filtered_of, item_value, row_at, key_value, keys_at, ordered_by, second_of, listed_of, limited_of, selected_of}
use Rattle.away_values.specs.declared.errors.OpError.{OpError}
use Rattle.sql_meaning.proofs.GivesRules.{gives_rules, stops}
use Rattle.sql_meaning.proofs.WalkRules.{next_item, none_left, after_none, each_end, each_more, joined_end, joined_more}

-- ---- FROM

pub item_is_table : (cx : Context) (f : FromItem) (frame : Frame) (name : List ℕ) → (out-FromItem f).source ≡ source.Table name → item_rows cx f frame ≡ Ok (slice_index_or cx.tables (place_of (out-FromItem f).columns) [])
unfolding item_rows
item_is_table cx f frame name h = ap (λ s. rows_of_source s (out-FromItem f).columns cx frame) h

pub item_is_lateral : (cx : Context) (f : FromItem) (frame : Frame) (q : Query) → (out-FromItem f).source ≡ source.Sub q true → item_rows cx f frame ≡ query_rows (inside frame cx) q
unfolding item_rows query_rows
item_is_lateral cx f frame q h = ap (λ s. rows_of_source s (out-FromItem f).columns cx frame) h ∙ ap (λ s. s (out-FromItem f).columns cx frame) (eq.of_sub meaning q true)

pub item_is_plain : (cx : Context) (f : FromItem) (frame : Frame) (q : Query) → (out-FromItem f).source ≡ source.Sub q false → item_rows cx f frame ≡ query_rows (inside [] cx) q
unfolding item_rows query_rows
item_is_plain cx f frame q h = ap (λ s. rows_of_source s (out-FromItem f).columns cx frame) h ∙ ap (λ s. s (out-FromItem f).columns cx frame) (eq.of_sub meaning q false)

pub beside_end : (done : List Frame) (frame : Frame) → done ++ beside frame [] ≡ done
unfolding beside
beside_end done frame = search rules

pub beside_more : (done : List Frame) (frame : Frame) (row : List Value) (rows : Rows) → done ++ beside frame (row ∷ rows) ≡ (done ++ (frame ++ row ∷ []) ∷ []) ++ beside frame rows
unfolding beside
beside_more done frame row rows = sym (append_assoc done ((frame ++ row ∷ []) ∷ []) (map (λ r. frame ++ r ∷ []) rows))

pub beside_is : (cx : Context) (f : FromItem) (frame : Frame) → beside_of cx f frame ≡ mapped (beside frame) (item_rows cx f frame)
unfolding beside_of
beside_is cx f frame = refl

pub extended_is : (cx : Context) (f : FromItem) (frames : List Frame) → extended_of cx f frames ≡ joined_of (beside_of cx f) frames
unfolding extended_of
extended_is cx f frames = refl

pub product_none : (cx : Context) (frames : List Frame) → product_of cx [] frames ≡ Ok frames
unfolding product_of
product_none cx frames = refl

pub product_more : (cx : Context) (f : FromItem) (fs : List FromItem) (frames : List Frame) → product_of cx (f ∷ fs) frames ≡ and_then (extended_of cx f frames) (product_of cx fs)
unfolding product_of
product_more cx f fs frames = refl

extend_is : (cx : Context) (f : FromItem) (frames : List Frame) → extend cx (rows_of_item f) frames ≡ extended_of cx f frames
unfolding extended_of joined_of beside_of beside item_rows
extend_is cx f frames = refl

then_each : {A B : Type 0} (m n : Or A) (f g : A → Or B) → m ≡ n → ((a : A) → f a ≡ g a) → and_then m f ≡ and_then n g
then_each m n f g h k = λ i. and_then (h i) (λ a. k a i)

product_is : (cx : Context) (fs : List FromItem) (frames : List Frame) → product cx (map (λ f. rows_of_item f) fs) frames ≡ product_of cx fs frames
unfolding product_of
product_is cx [] frames = refl
product_is cx (f ∷ fs) frames = then_each _ _ _ _ (extend_is cx f frames) (product_is cx fs)

-- ---- WHERE

pub value_at_is : (cx : Context) (e : Expr) (frame : Frame) → value_at cx e frame ≡ value_of (inside frame cx) e
unfolding value_at value_of
value_at_is cx e frame = refl

pub keep_end : {A : Type 0} (test : A → Or Value) (done : List A) → after done (keep_of test []) ≡ Ok done
unfolding after keep_of
keep_end test done = ap (λ l. Ok l) (search rules)

after_keep : {A : Type 0} (done : List A) (x : A) (m : Or Value) (rest : Or (List A)) → after done (and_then m (λ v. mapped (keep_if x (is_true v)) rest)) ≡ and_then m (λ v. after (if is_true v then done ++ x ∷ [] else done) rest)
unfolding after
after_keep done x (Err c) rest = refl
after_keep done x (Ok (val.Bool true)) (Ok ys) = ap (λ l. Ok l) (sym (append_assoc done (x ∷ []) ys))
after_keep done x (Ok (val.Bool true)) (Err c) = refl
after_keep done x (Ok (val.Bool false)) (Ok ys) = refl
after_keep done x (Ok (val.Bool false)) (Err c) = refl
after_keep done x (Ok val.Null) (Ok ys) = refl
after_keep done x (Ok val.Null) (Err c) = refl
after_keep done x (Ok (val.Int n)) (Ok ys) = refl
after_keep done x (Ok (val.Int n)) (Err c) = refl
after_keep done x (Ok (val.Text t)) (Ok ys) = refl
after_keep done x (Ok (val.Text t)) (Err c) = refl

pub keep_more : {A : Type 0} (test : A → Or Value) (done : List A) (x : A) (xs : List A) → after done (keep_of test (x ∷ xs)) ≡ and_then (test x) (λ v. after (if is_true v then done ++ x ∷ [] else done) (keep_of test xs))
unfolding after keep_of
keep_more test done x xs = after_keep done x (test x) (keep test xs)

pub filtered_none : (cx : Context) (frames : List Frame) → filtered_of cx None frames ≡ Ok frames
unfolding filtered_of
filtered_none cx frames = refl

pub filtered_some : (cx : Context) (e : Expr) (frames : List Frame) → filtered_of cx (Some e) frames ≡ keep_of (value_at cx e) frames
unfolding filtered_of keep_of value_at
filtered_some cx e frames = refl

-- ---- the list and the keys

pub item_value_is : (cx : Context) (i : Item) → item_value cx i ≡ value_of cx (out-Item i).expr
unfolding item_value value_of
item_value_is cx i = refl

pub row_at_is : (cx : Context) (list : List Item) (frame : Frame) → row_at cx list frame ≡ each_of (item_value (inside frame cx)) list
unfolding row_at
row_at_is cx list frame = refl

pub key_value_is : (cx : Context) (k : Key) → key_value cx k ≡ value_of cx (out-Key k).expr
unfolding key_value value_of
key_value_is cx k = refl

pub keys_at_is : (cx : Context) (order : List Key) (frame : Frame) → keys_at cx order frame ≡ each_of (key_value (inside frame cx)) order
unfolding keys_at
keys_at_is cx order frame = refl

any_is : (list : List Item) → any_aggregates (items list) ≡ any_item list
unfolding any_item
any_is list = any_map (λ (m : ExprMeaning). m.aggregates) (λ (i : Item). item_of meaning i) list

values_are : (cx : Context) (list : List Item) → values cx (items list) ≡ each_of (item_value cx) list
unfolding each_of item_value
values_are cx list = ap (each (λ o. o)) (fused (λ (m : ExprMeaning). m.value cx) (λ (i : Item). item_of meaning i) list) ∙ each_map (λ o. o) (λ (i : Item). value (out-Item i).expr cx) list

rows_are : (cx : Context) (list : List Item) (frames : List Frame) → each (λ frame. values (inside frame cx) (items list)) frames ≡ each_of (row_at cx list) frames
unfolding each_of row_at
rows_are cx list frames = λ i. each (λ frame. values_are (inside frame cx) list i) frames

keys_are : (cx : Context) (order : List Key) (frame : Frame) → each (λ (s : KeyMeaning). s.value (inside frame cx)) (keys order) ≡ keys_at cx order frame
unfolding keys_at each_of key_value
keys_are cx order frame = each_map (λ (s : KeyMeaning). s.value (inside frame cx)) (λ (k : Key). key_of meaning k) order

zipped_one : {B C : Type 0} (row : C) (rows : List C) (m : Or B) (keyed : Or (List B)) (rest : Or (List (B × C))) → rest ≡ mapped (λ ks. zip ks rows) keyed →
    and_then (mapped (λ k. (k, row)) m) (λ y. mapped (λ ys. y ∷ ys) rest) ≡ mapped (λ ks. zip ks (row ∷ rows)) (and_then m (λ y. mapped (λ ys. y ∷ ys) keyed))
zipped_one row rows (Err c) keyed rest h = refl
zipped_one row rows (Ok k) (Err c) rest h = ap (mapped (λ ys. (k, row) ∷ ys)) h
zipped_one row rows (Ok k) (Ok ks) rest h = ap (mapped (λ ys. (k, row) ∷ ys)) h

-- keys that are taken beside the rows are zipped with them afterwards
zipped : {A B C : Type 0} (K : A → Or B) (xs : List A) (rows : List C) → length rows ≡ length xs → each (λ (x : A × C). mapped (λ k. (k, x.1)) (K x.0)) (zip xs rows) ≡ mapped (λ ks. zip ks rows) (each K xs)
zipped K [] [] h = refl
zipped K [] (row ∷ rows) h = absurd (omega (arith, h))
zipped K (x ∷ xs) [] h = absurd (omega (arith, h))
zipped K (x ∷ xs) (row ∷ rows) h = zipped_one row rows (K x) (each K xs) _ (zipped K xs rows (omega (arith, h)))

length_one : {B : Type 0} (m : Or B) (rest : Or (List B)) (n : ℕ) → ((ys : List B) → rest ≡ Ok ys → length ys ≡ n) → (zs : List B) → and_then m (λ y. mapped (λ ys. y ∷ ys) rest) ≡ Ok zs → length zs ≡ suc n
length_one (Err c) rest n ih zs h = cc
length_one (Ok y) (Err c) n ih zs h = cc
length_one (Ok y) (Ok ys) n ih zs h = let e : y ∷ ys ≡ zs = cc in sym (ap length e) ∙ ap (λ k. suc k) (ih ys refl)

each_length : {A B : Type 0} (f : A → Or B) (xs : List A) (ys : List B) → each f xs ≡ Ok ys → length ys ≡ length xs
each_length f [] [] h = refl
each_length f [] (y ∷ ys) h = cc
each_length f (x ∷ xs) zs h = length_one (f x) (each f xs) (length xs) (λ ys e. each_length f xs ys e) zs h

each_of_length : {A B : Type 0} (f : A → Or B) (xs : List A) (ys : List B) → each_of f xs ≡ Ok ys → length ys ≡ length xs
unfolding each_of
each_of_length f xs ys h = each_length f xs ys h

mapped_twice : {A B C : Type 0} (m : Or A) (f : A → B) (g : B → C) → mapped g (mapped f m) ≡ mapped (λ a. g (f a)) m
mapped_twice (Ok a) f g = refl
mapped_twice (Err c) f g = refl

falls_are : (order : List Key) → map (λ (k : KeyMeaning). k.descending) (keys order) ≡ falls order
falls_are order = fused (λ (k : KeyMeaning). k.descending) (λ (k : Key). key_of meaning k) order

ordered_is : (cx : Context) (order : List Key) (frames : List Frame) (rows : Rows) → (order ≡ [] → ⊥) → length rows ≡ length frames → ordered cx (keys order) frames rows ≡ mapped (λ keyed. ordered_by (falls order) keyed rows) (each_of (keys_at cx order) frames)
unfolding ordered_by second_of each_of
ordered_is cx [] frames rows h l = absurd (h refl)
ordered_is cx (k ∷ ks) frames rows h l =
    (λ i. mapped (λ keyed. map (λ x. x.1) (sorted (comes_before (keys (k ∷ ks))) keyed)) (each (λ (x : Frame × List Value). mapped (λ kv. (kv, x.1)) (keys_are cx (k ∷ ks) x.0 i)) (zip frames rows)))
    ∙ ap (mapped (λ keyed. map (λ x. x.1) (sorted (comes_before (keys (k ∷ ks))) keyed))) (zipped (keys_at cx (k ∷ ks)) frames rows l)
    ∙ mapped_twice (each (keys_at cx (k ∷ ks)) frames) (λ kv. zip kv rows) (λ keyed. map (λ x. x.1) (sorted (comes_before (keys (k ∷ ks))) keyed))
    ∙ (λ i. mapped (λ keyed. map (λ x. x.1) (sorted (λ a b. is_lt (keys_cmp (falls_are (k ∷ ks) i) a b)) (zip keyed rows))) (each (keys_at cx (k ∷ ks)) frames))

then_same : {A B : Type 0} (m : Or A) (f g : A → Or B) → ((a : A) → m ≡ Ok a → f a ≡ g a) → and_then m f ≡ and_then m g
then_same (Ok a) f g h = h a refl
then_same (Err c) f g h = refl

then_ok : {A : Type 0} (m : Or A) → and_then m (λ a. Ok a) ≡ m
then_ok (Ok a) = refl
then_ok (Err c) = refl

either : Context → Select → List Frame → Bool → Or Rows
either cx s frames b = if b then mapped (λ row. row ∷ []) (values (over frames cx) (items (out-Select s).list)) else and_then (each (λ frame. values (inside frame cx) (items (out-Select s).list)) frames) (ordered cx (keys (out-Select s).order) frames)

pub listed_over : (cx : Context) (s : Select) (frames : List Frame) → any_item (out-Select s).list ≡ true → listed_of cx s frames ≡ mapped (λ row. row ∷ []) (each_of (item_value (over frames cx)) (out-Select s).list)
unfolding listed_of either
listed_over cx s frames h = ap (either cx s frames) (any_is (out-Select s).list ∙ h) ∙ ap (mapped (λ row. row ∷ [])) (values_are (over frames cx) (out-Select s).list)

pub listed_plain : (cx : Context) (s : Select) (frames : List Frame) → any_item (out-Select s).list ≡ false → (out-Select s).order ≡ [] → listed_of cx s frames ≡ each_of (row_at cx (out-Select s).list) frames
unfolding listed_of either
listed_plain cx s frames h k =
    ap (either cx s frames) (any_is (out-Select s).list ∙ h)
    ∙ ap (λ o. and_then (each (λ frame. values (inside frame cx) (items (out-Select s).list)) frames) (ordered cx (keys o) frames)) k
    ∙ then_ok (each (λ frame. values (inside frame cx) (items (out-Select s).list)) frames) ∙ rows_are cx (out-Select s).list frames

pub listed_ordered : (cx : Context) (s : Select) (frames : List Frame) → any_item (out-Select s).list ≡ false → ((out-Select s).order ≡ [] → ⊥) → listed_of cx s frames ≡ and_then (each_of (row_at cx (out-Select s).list) frames) (λ rows. mapped (λ keyed. ordered_by (falls (out-Select s).order) keyed rows) (each_of (keys_at cx (out-Select s).order) frames))
unfolding listed_of either
listed_ordered cx s frames h k =
    ap (either cx s frames) (any_is (out-Select s).list ∙ h)
    ∙ ap (λ m. and_then m (ordered cx (keys (out-Select s).order) frames)) (rows_are cx (out-Select s).list frames)
    ∙ then_same (each_of (row_at cx (out-Select s).list) frames) _ _ (λ rows r. ordered_is cx (out-Select s).order frames rows k (each_of_length (row_at cx (out-Select s).list) frames rows r))

-- where the list has a fault, the keys aren't looked at
pub list_fails : (cx : Context) (s : Select) (frames : List Frame) (e : OpError) → any_item (out-Select s).list ≡ false → Gives (each_of (row_at cx (out-Select s).list) frames) (Err e) → Gives (listed_of cx s frames) (Err e)
unfolding listed_of either
list_fails cx s frames e h g =
    subst (λ m. Gives m (Err e)) (sym (ap (either cx s frames) (any_is (out-Select s).list ∙ h) ∙ ap (λ m. and_then m (ordered cx (keys (out-Select s).order) frames)) (rows_are cx (out-Select s).list frames)))
    (stops (each_of (row_at cx (out-Select s).list) frames) (ordered cx (keys (out-Select s).order) frames) e g)

pub limited_none : (cx : Context) (rows : Rows) → limited_of cx None rows ≡ Ok rows
unfolding limited_of
limited_none cx rows = refl

pub limited_some : (cx : Context) (e : Expr) (rows : Rows) → limited_of cx (Some e) rows ≡ and_then (value_of (inside [] cx) e) (λ v. taken v rows)
unfolding limited_of value_of
limited_some cx e rows = refl

-- ---- a select and a query

pub select_is : (cx : Context) (s : Select) → select_rows cx s ≡ and_then (product_of cx (out-Select s).from ([] ∷ [])) (selected_of cx s)
unfolding select_rows selected_of filtered_of listed_of limited_of
select_is cx s =
    ap (λ r. r cx) (eq.select_is meaning s)
    ∙ ap (λ m. and_then m (λ all. and_then (kept cx (optional (out-Select s).filter) all) (λ some. and_then (listed cx (items (out-Select s).list) (keys (out-Select s).order) some) (cut cx (optional (out-Select s).limit))))) (product_is cx (out-Select s).from ([] ∷ []))

pub selected_is : (cx : Context) (s : Select) (all : List Frame) → selected_of cx s all ≡ and_then (filtered_of cx (out-Select s).filter all) (λ some. and_then (listed_of cx s some) (limited_of cx (out-Select s).limit))
unfolding selected_of
selected_is cx s all = refl

pub query_is : (cx : Context) (q : Query) → query_rows cx q ≡ joined_of (select_rows cx) (out-Query q).selects
unfolding query_rows joined_of select_rows
query_is cx q = nodes.rows_union q cx

-- ---- the order

pub ordered_by_is : (falling : List Bool) (keyed rows : Rows) → ordered_by falling keyed rows ≡ second_of (sorted (λ a b. is_lt (keys_cmp falling a b)) (zip keyed rows))
unfolding ordered_by
ordered_by_is falling keyed rows = refl

pub zip_more : {A B : Type 0} (done : List (A × B)) (x : A) (xs : List A) (y : B) (ys : List B) → done ++ zip (x ∷ xs) (y ∷ ys) ≡ (done ++ (x, y) ∷ []) ++ zip xs ys
zip_more done x xs y ys = sym (append_assoc done ((x, y) ∷ []) (zip xs ys))

pub zip_none : {A B : Type 0} (done : List (A × B)) (ys : List B) → done ++ zip {K = A} [] ys ≡ done
zip_none done ys = search rules

pub zip_ends : {A B : Type 0} (done : List (A × B)) (xs : List A) (ys : List B) → ys ≡ [] → done ++ zip xs ys ≡ done
zip_ends done [] ys h = search rules
zip_ends done (x ∷ xs) [] h = search rules
zip_ends done (x ∷ xs) (y ∷ ys) h = cc

pub second_more : (done : Rows) (x : List Value × List Value) (xs : List (List Value × List Value)) → done ++ second_of (x ∷ xs) ≡ (done ++ x.1 ∷ []) ++ second_of xs
unfolding second_of
second_more done x xs = sym (append_assoc done (x.1 ∷ []) (map (λ (x : List Value × List Value). x.1) xs))

pub second_end : (done : Rows) → done ++ second_of [] ≡ done
unfolding second_of
second_end done = search rules

pub ruleset order_rules = (ordered_by_is)

pub ruleset zip_rules = (next_item, none_left, zip_more, zip_none, zip_ends, second_more, second_end)

pub ruleset extend_rules = (gives_rules, next_item, none_left, after_none, joined_end, joined_more, extended_is, beside_is)

pub ruleset product_rules = (gives_rules, next_item, none_left, product_none, product_more)

pub ruleset keep_rules = (gives_rules, next_item, none_left, after_none, value_at_is, keep_end, keep_more)

pub ruleset filter_rules = (gives_rules, filtered_none, filtered_some)

pub ruleset row_rules = (gives_rules, next_item, none_left, after_none, each_end, each_more, item_value_is, row_at_is, key_value_is, keys_at_is)

pub ruleset list_rules = (gives_rules, list_fails, listed_over, listed_plain, listed_ordered)

pub ruleset limit_rules = (gives_rules, limited_none, limited_some)

pub ruleset select_rules = (gives_rules, select_is, selected_is)

pub ruleset union_rules = (gives_rules, next_item, none_left, after_none, joined_end, joined_more)

pub ruleset query_rules = (gives_rules, query_is)

pub ruleset beside_rules = (next_item, none_left, beside_end, beside_more)
