-- Where a call of the function stands in a query and none in a wrong place, one stands in its list.
use Rattle.std.proofs.Common.{◌≡◌, refl, sym, ap, ◌∙◌, Bool, true, false, not, ◌&&◌, ◌||◌, List, [], ◌∷◌, ◌++◌, Some}
use Rattle.std.specs.Prelude.{bytes_eq, is_some}
use Rattle.away_values.specs.declared.operators.ChainOp.{ChainOp}
use Rattle.away_trees.specs.Algebra.{head_or, expr_of, exprs_of, links_of, arms_of, other_of}
use Rattle.away_trees.specs.declared.queries.Expr.{Expr}
use Rattle.away_trees.specs.declared.queries.Expr.TheBlock as b
use Rattle.away_trees.specs.declared.queries.Expr.TheVariants as expr
use Rattle.away_trees.specs.declared.queries.Expr.TheViews.{out-Item, out-Select, roll-Item, roll-out-Item, roll-out-Select}
use Rattle.away_trees.specs.declared.queries.Item.{Item}
use Rattle.away_trees.specs.declared.queries.Select.{Select}
use Rattle.away_trees.specs.declared.statements.Function.{Function}
use Rattle.away_names.specs.Functions.{function}
use Rattle.away_names.specs.Lookups.{Name}
use Rattle.away_typing.specs.Trees.{uses_of_select}
use Rattle.elaboration_law.specs.Rebuilding.{rebuilding}
use Rattle.elaboration_law.proofs.Rebuilt.{expr_same}
use Rattle.moved_names.specs.Finding.{in_select}
use Rattle.moved_names.specs.Words.{kept_words}
use Rattle.inline_calls.specs.Forms.{ArePlaced, calling, calls_of_it, is_form, with_list}
use Rattle.inline_calls.specs.Parting.{Calls, Parted, called, over, part, part_all, part_arms, part_first, part_links, part_other, parted, parted_item, parted_items, then_with, whole}

-- calls are added behind those before, and where none is, the tree is as it was
record Grown {A : Type 0} (x : A) (cs : Calls) (r : Parted A) : Type 0 where
  more : Calls
  calls_are : r.calls ≡ cs ++ more
  same : more ≡ [] → r.it ≡ x

nothing_behind : {A : Type 0} (xs : List A) → xs ≡ xs ++ []
nothing_behind [] = refl
nothing_behind (x ∷ xs) = ap (λ l. x ∷ l) (nothing_behind xs)

one_more : {A : Type 0} (xs ys zs : List A) → (xs ++ ys) ++ zs ≡ xs ++ (ys ++ zs)
one_more [] ys zs = refl
one_more (x ∷ xs) ys zs = ap (λ l. x ∷ l) (one_more xs ys zs)

none_first : {A : Type 0} (xs ys : List A) → xs ++ ys ≡ [] → xs ≡ []
none_first [] ys e = refl
none_first (x ∷ xs) ys e = cc

none_second : {A : Type 0} (xs ys : List A) → xs ++ ys ≡ [] → ys ≡ []
none_second [] ys e = e
none_second (x ∷ xs) ys e = cc

unchanged : {A : Type 0} (x y : A) (cs : Calls) → y ≡ x → Grown x cs (whole y cs)
unchanged x y cs e = record { more = []; calls_are = nothing_behind cs; same = λ n. e }

grown_over : {A B : Type 0} (g : A → B) (x : A) (cs : Calls) (r : Parted A) → Grown x cs r → Grown (g x) cs (over g r)
grown_over g x cs r h = record { more = h.more; calls_are = h.calls_are; same = λ n. ap g (h.same n) }

grown_then : {A B C : Type 0} (g : A → B → C) (x : A) (y : B) (cs : Calls) (r : Parted A) (q : Calls → Parted B) → Grown x cs r → ((ds : Calls) → Grown y ds (q ds)) → Grown (g x y) cs (then_with g r q)
grown_then g x y cs r q h k =
    let second = k r.calls in
    record {
      more = h.more ++ second.more;
      calls_are = second.calls_are ∙ (ap (λ l. l ++ second.more) h.calls_are ∙ one_more cs h.more second.more);
      same = λ n i. g (h.same (none_first h.more second.more n) i) (second.same (none_second h.more second.more n) i);
    }

grown_call : (is : Bool) (args : List Expr) (x : Expr) (cs : Calls) (r : Parted Expr) → Grown x cs r → Grown x cs (called is args r cs)
grown_call true args x cs r h = record { more = args ∷ []; calls_are = refl; same = λ n. cc }
grown_call false args x cs r h = h

module _ (f : Name) where
  mutual
    grown : (e : Expr) (cs : Calls) → Grown (expr_of rebuilding e) cs (part f e cs)
    grown (b.Int n) cs = unchanged _ _ cs refl
    grown (b.Str t) cs = unchanged _ _ cs refl
    grown (b.Bool v) cs = unchanged _ _ cs refl
    grown b.Null cs = unchanged _ _ cs refl
    grown (b.Named name) cs = unchanged _ _ cs refl
    grown (b.Dotted alias name) cs = unchanged _ _ cs refl
    grown (b.Slot i) cs = unchanged _ _ cs refl
    grown (b.Column c) cs = unchanged _ _ cs refl
    grown (b.Param i t) cs = unchanged _ _ cs refl
    grown (b.Neg' p e) cs = grown_over (λ x. expr.Neg x) _ cs _ (grown_first e cs)
    grown (b.NegSmall' p e) cs = grown_over (λ x. expr.NegSmall x) _ cs _ (grown_first e cs)
    grown (b.Not' p e) cs = grown_over (λ x. expr.Not x) _ cs _ (grown_first e cs)
    grown (b.Is' p e test negative) cs = grown_over (λ x. expr.Is x test negative) _ cs _ (grown_first e cs)
    grown (b.Chain' p e s links) cs = grown_then (λ x ls. expr.Chain x ls) _ _ cs _ (λ ds. part_links f links ds) (grown_first e cs) (λ ds. grown_links links ds)
    grown (b.Compare' op p x q y) cs = grown_then (λ x y. expr.Compare op x y) _ _ cs _ (λ ds. part_first f y ds) (grown_first x cs) (λ ds. grown_first y ds)
    grown (b.Between' negative p x q y r z) cs =
        grown_then (λ (x : Expr) (yz : Expr × Expr). expr.Between negative x yz.0 yz.1) (head_or expr.Null (exprs_of rebuilding x)) (head_or expr.Null (exprs_of rebuilding y), head_or expr.Null (exprs_of rebuilding z)) cs _
        (λ ds. then_with (λ y z. (y, z)) (part_first f y ds) (λ es. part_first f z es)) (grown_first x cs)
        (λ ds. grown_then (λ y z. (y, z)) _ _ ds _ (λ es. part_first f z es) (grown_first y ds) (λ es. grown_first z es))
    grown (b.OneOf' negative p e s choices) cs = grown_then (λ x xs. expr.OneOf negative x xs) _ _ cs _ (λ ds. part_all f choices ds) (grown_first e cs) (λ ds. grown_all choices ds)
    grown (b.Cast' p e t) cs = grown_over (λ x. expr.Cast x t) _ cs _ (grown_first e cs)
    grown (b.Cases' s arms other) cs = grown_then (λ xs y. expr.Cases xs y) _ _ cs _ (λ ds. part_other f other ds) (grown_arms arms cs) (λ ds. grown_other other ds)
    grown (b.Call' name s es) cs = grown_call (bytes_eq name f) _ _ cs _ (grown_over (λ xs. expr.Call name xs) _ cs _ (grown_all es cs))
    grown b.CountRows cs = unchanged _ _ cs refl
    grown (b.Scalar' p q) cs = unchanged _ _ cs (sym (expr_same (b.Scalar' p q)))
    grown (b.Exists' p q) cs = unchanged _ _ cs (sym (expr_same (b.Exists' p q)))

    grown_first : {m : _} (es : b.Row_of-Expr m) (cs : Calls) → Grown (head_or expr.Null (exprs_of rebuilding es)) cs (part_first f es cs)
    grown_first b.end_of-Expr cs = unchanged _ _ cs refl
    grown_first (b.more_of-Expr e rest) cs = grown e cs

    grown_all : {m : _} (es : b.Row_of-Expr m) (cs : Calls) → Grown (exprs_of rebuilding es) cs (part_all f es cs)
    grown_all b.end_of-Expr cs = unchanged _ _ cs refl
    grown_all (b.more_of-Expr e rest) cs = grown_then (λ x xs. x ∷ xs) _ _ cs _ (λ ds. part_all f rest ds) (grown e cs) (λ ds. grown_all rest ds)

    grown_links : {m : _} (ls : b.Row_of-Expr-Chain-1-2 m) (cs : Calls) → Grown (links_of rebuilding ls) cs (part_links f ls cs)
    grown_links b.end_of-Expr-Chain-1-2 cs = unchanged _ _ cs refl
    grown_links (b.more_of-Expr-Chain-1-2 op e rest) cs =
        grown_then (λ (x : Expr) (xs : List (ChainOp × Expr)). (op, x) ∷ xs) _ _ cs _ (λ ds. part_links f rest ds) (grown e cs) (λ ds. grown_links rest ds)

    grown_arms : {m : _} (as_ : b.Row_of-Expr-Cases-0-2 m) (cs : Calls) → Grown (arms_of rebuilding as_) cs (part_arms f as_ cs)
    grown_arms b.end_of-Expr-Cases-0-2 cs = unchanged _ _ cs refl
    grown_arms (b.more_of-Expr-Cases-0-2 x y rest) cs =
        grown_then (λ (a : Expr × Expr) (xs : List (Expr × Expr)). a ∷ xs) (expr_of rebuilding x, expr_of rebuilding y) (arms_of rebuilding rest) cs _ (λ ds. part_arms f rest ds)
        (grown_then (λ x y. (x, y)) _ _ cs _ (λ ds. part f y ds) (grown x cs) (λ ds. grown y ds)) (λ ds. grown_arms rest ds)

    grown_other : (o : b.Held-Expr-Cases-1) (cs : Calls) → Grown (other_of rebuilding o) cs (part_other f o cs)
    grown_other b.Expr-Cases-1-None' cs = unchanged _ _ cs refl
    grown_other (b.Expr-Cases-1-Some' p e) cs = grown_over (λ x. Some x) _ cs _ (grown_first e cs)

  by_same : {A : Type 0} (x y : A) (cs : Calls) (r : Parted A) → x ≡ y → Grown x cs r → Grown y cs r
  by_same x y cs r e h = record { more = h.more; calls_are = h.calls_are; same = λ n. h.same n ∙ e }

  grown_expr : (e : Expr) (cs : Calls) → Grown e cs (parted f e cs)
  unfolding parted
  grown_expr e cs = by_same (expr_of rebuilding e) e cs (part f e cs) (expr_same e) (grown e cs)

  grown_item : (i : Item) (cs : Calls) → Grown i cs (parted_item f i cs)
  grown_item i cs = by_same _ i cs _ (roll-out-Item i) (grown_over (λ e. roll-Item (record { expr = e; alias = (out-Item i).alias })) _ cs _ (grown_expr (out-Item i).expr cs))

  grown_items : (is : List Item) (cs : Calls) → Grown is cs (parted_items f is cs)
  grown_items [] cs = unchanged _ _ cs refl
  grown_items (i ∷ is) cs = grown_then (λ (x : Item) (xs : List Item). x ∷ xs) i is cs _ (λ ds. parted_items f is ds) (grown_item i cs) (λ ds. grown_items is ds)

last_of : (a b c d : Bool) → (not a && (not b && (not c && d))) ≡ true → d ≡ true
last_of true b c d h = cc
last_of false true c d h = cc
last_of false false true d h = cc
last_of false false false d h = h

neither : (a b : Bool) → (a || b) ≡ false → a ≡ false
neither true b h = cc
neither false b h = refl

true_false : true ≡ false → ⊥
true_false e = cc

abbrev pub Some_of : Calls → Type 0
Some_of calls = (es : List Expr) × (more : Calls) × (calls ≡ es ∷ more)

some_of : (calls : Calls) → (calls ≡ [] → ⊥) → Some_of calls
some_of [] h = absurd (h refl)
some_of (es ∷ more) h = (es, more, refl)

pub some_call : (f : Function) (x : Select) → is_form f x ≡ true → ArePlaced f x → Some_of (calling f x).calls
some_call f x form placed = some_of (calling f x).calls (λ none. true_false (sym found ∙ (ap (in_select (calls_of_it f)) (sym (same none)) ∙ neither _ _ placed)))
  where
    g : Grown (out-Select x).list [] (parted_items f.name (out-Select x).list [])
    g = grown_items f.name (out-Select x).list []

    found : in_select (calls_of_it f) x ≡ true
    found = last_of (uses_of_select x).aggregate (in_select kept_words x) (is_some (function f.name)) (in_select (calls_of_it f) x) form

    same : (calling f x).calls ≡ [] → (calling f x).select ≡ x
    same none = ap (with_list x) (g.same (sym g.calls_are ∙ none)) ∙ roll-out-Select x
