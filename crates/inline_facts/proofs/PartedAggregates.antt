-- Where no aggregate stands in a select's list, none stands in it with slots in the places of its calls, nor in their arguments.
use Rattle.std.proofs.Common.{◌≡◌, refl, sym, ap, subst, ◌∙◌, Bool, true, false, not, ◌&&◌, ◌||◌, List, [], ◌∷◌, ◌++◌, map, fold, Option, Some, option_map}
use Rattle.std.specs.List.{list_any}
use Rattle.std.specs.Prelude.{bytes_eq, is_some}
use Rattle.away_values.specs.declared.operators.ChainOp.{ChainOp}
use Rattle.away_trees.specs.Algebra.{head_or, expr_of, exprs_of, links_of, arms_of, other_of, item_of}
use Rattle.away_trees.specs.declared.queries.Expr.{Expr}
use Rattle.away_trees.specs.declared.queries.Expr.TheBlock as b
use Rattle.away_trees.specs.declared.queries.Expr.TheVariants as expr
use Rattle.away_trees.specs.declared.queries.Expr.TheViews.{out-Item, out-Select, out-roll-Select, roll-Item, roll-out-Item}
use Rattle.away_trees.specs.declared.queries.Item.{Item}
use Rattle.away_trees.specs.declared.queries.Select.{Select}
use Rattle.away_trees.specs.declared.statements.Function.{Function}
use Rattle.away_trees.proofs.Equations as eq
use Rattle.away_names.specs.Lookups.{Name}
use Rattle.away_names.specs.Functions as names
use Rattle.away_typing.specs.declared.uses.Uses.{Uses}
use Rattle.away_typing.specs.Aggregates as typing
use Rattle.away_typing.specs.Aggregates.{Term, all_of, either, unused, using_}
use Rattle.away_typing.specs.Trees.{uses_of, uses_of_select}
use Rattle.sql_meaning.specs.Expressions.{ExprMeaning, any_aggregates, other_aggregates}
use Rattle.sql_meaning.specs.Functions.{function, is_aggregate}
use Rattle.sql_meaning.specs.Meaning.{meaning}
use Rattle.type_soundness.specs.Sorts.{Every}
use Rattle.type_soundness.proofs.Lists.{every_append}
use Rattle.function_facts.proofs.Aggregates.{aggregates_are}
use Rattle.moved_names.specs.Finding.{in_select}
use Rattle.moved_names.specs.Words.{exprs_in, kept_words}
use Rattle.inline_calls.specs.Forms.{calling, calls_of_it, is_form}
use Rattle.inline_calls.specs.Parting.{Calls, Parted, called, over, part, part_all, part_arms, part_first, part_links, part_other, parted, parted_item, parted_items, then_with, whole}
use Rattle.inline_facts.proofs.NamedAggregates.{aggregates}

abbrev pub None_in : Expr → Type 0
None_in e = aggregates e ≡ false

abbrev pub All_clear : Calls → Type 0
All_clear = Every (Every None_in)

-- the tree is clear, and so are the calls behind those before
record Clear {A : Type 0} (P : A → Type 0) (cs : Calls) (r : Parted A) : Type 0 where
  it : P r.it
  more : Calls
  calls_are : r.calls ≡ cs ++ more
  clear : All_clear more

nothing_behind : {A : Type 0} (xs : List A) → xs ≡ xs ++ []
nothing_behind [] = refl
nothing_behind (x ∷ xs) = ap (λ l. x ∷ l) (nothing_behind xs)

one_more : {A : Type 0} (xs ys zs : List A) → (xs ++ ys) ++ zs ≡ xs ++ (ys ++ zs)
one_more [] ys zs = refl
one_more (x ∷ xs) ys zs = ap (λ l. x ∷ l) (one_more xs ys zs)

unchanged : {A : Type 0} (P : A → Type 0) (x : A) (cs : Calls) → P x → Clear P cs (whole x cs)
unchanged P x cs h = record { it = h; more = []; calls_are = nothing_behind cs; clear = tt }

clear_over : {A B : Type 0} (P : A → Type 0) (Q : B → Type 0) (g : A → B) → ((x : A) → P x → Q (g x)) → (cs : Calls) (r : Parted A) → Clear P cs r → Clear Q cs (over g r)
clear_over P Q g go cs r h = record { it = go r.it h.it; more = h.more; calls_are = h.calls_are; clear = h.clear }

clear_then : {A B C : Type 0} (P : A → Type 0) (Q : B → Type 0) (R : C → Type 0) (g : A → B → C) → ((x : A) (y : B) → P x → Q y → R (g x y)) → (cs : Calls) (r : Parted A) (q : Calls → Parted B)
    → Clear P cs r → ((ds : Calls) → Clear Q ds (q ds)) → Clear R cs (then_with g r q)
clear_then P Q R g go cs r q h k =
    let second = k r.calls in
    record {
      it = go r.it (q r.calls).it h.it second.it;
      more = h.more ++ second.more;
      calls_are = second.calls_are ∙ (ap (λ l. l ++ second.more) h.calls_are ∙ one_more cs h.more second.more);
      clear = every_append (Every None_in) h.more second.more h.clear second.clear;
    }

clear_call : (is : Bool) (args : List Expr) (cs : Calls) (r : Parted Expr) → Every None_in args → Clear None_in cs r → Clear None_in cs (called is args r cs)
clear_call true args cs r k h = record { it = refl; more = args ∷ []; calls_are = refl; clear = (k, tt) }
clear_call false args cs r k h = h

-- ---- parts of an or

left : (a c : Bool) → (a || c) ≡ false → a ≡ false
left true c h = cc
left false c h = refl

right : (a c : Bool) → (a || c) ≡ false → c ≡ false
right true c h = cc
right false c h = h

both : (a c : Bool) → a ≡ false → c ≡ false → (a || c) ≡ false
both a c h k = λ i. h i || k i

of : {x y : ExprMeaning} → x ≡ y → y.aggregates ≡ false → x.aggregates ≡ false
of e h = ap (λ (m : ExprMeaning). m.aggregates) e ∙ h

abbrev AllNone : List Expr → Type 0
AllNone es = any_aggregates (map (λ e. expr_of meaning e) es) ≡ false

abbrev LinksNone : List (ChainOp × Expr) → Type 0
LinksNone ls = list_any (λ (l : ChainOp × ExprMeaning). l.1.aggregates) (map (λ l. eq.link_of meaning l) ls) ≡ false

abbrev ArmNone : Expr × Expr → Type 0
ArmNone a = (aggregates a.0 || aggregates a.1) ≡ false

abbrev ArmsNone : List (Expr × Expr) → Type 0
ArmsNone as_ = list_any (λ (a : ExprMeaning × ExprMeaning). a.0.aggregates || a.1.aggregates) (map (λ a. eq.arm_of meaning a) as_) ≡ false

abbrev MaybeNone : Option Expr → Type 0
MaybeNone o = other_aggregates (option_map (λ e. expr_of meaning e) o) ≡ false

abbrev first : {m : _} → b.Row_of-Expr m → Bool
first es = (head_or meaning.no_expr (exprs_of meaning es)).aggregates

listed : {m : _} (es : b.Row_of-Expr m) → any_aggregates (exprs_of meaning es) ≡ false → Every None_in (exprs_in es)
listed b.end_of-Expr h = tt
listed (b.more_of-Expr e rest) h = (left _ _ h, listed rest (right _ _ h))

module _ (f : Name) where
  mutual
    clear_part : (e : Expr) (cs : Calls) → None_in e → Clear None_in cs (part f e cs)
    clear_part (b.Int n) cs h = unchanged None_in _ cs h
    clear_part (b.Str t) cs h = unchanged None_in _ cs h
    clear_part (b.Bool v) cs h = unchanged None_in _ cs h
    clear_part b.Null cs h = unchanged None_in _ cs h
    clear_part (b.Named name) cs h = unchanged None_in _ cs h
    clear_part (b.Dotted alias name) cs h = unchanged None_in _ cs h
    clear_part (b.Slot i) cs h = unchanged None_in _ cs h
    clear_part (b.Column c) cs h = unchanged None_in _ cs h
    clear_part (b.Param i t) cs h = unchanged None_in _ cs h
    clear_part (b.Neg' p e) cs h = clear_over None_in None_in (λ x. expr.Neg x) (λ x k. of (eq.of_neg meaning x) k) cs _ (clear_first e cs h)
    clear_part (b.NegSmall' p e) cs h = clear_over None_in None_in (λ x. expr.NegSmall x) (λ x k. of (eq.of_negsmall meaning x) k) cs _ (clear_first e cs h)
    clear_part (b.Not' p e) cs h = clear_over None_in None_in (λ x. expr.Not x) (λ x k. of (eq.of_not meaning x) k) cs _ (clear_first e cs h)
    clear_part (b.Is' p e test negative) cs h = clear_over None_in None_in (λ x. expr.Is x test negative) (λ x k. of (eq.of_is meaning x test negative) k) cs _ (clear_first e cs h)
    clear_part (b.Chain' p e s links) cs h =
        clear_then None_in LinksNone None_in (λ x ls. expr.Chain x ls) (λ x ls k l. of (eq.of_chain meaning x ls) (both _ _ k l)) cs _ (λ ds. part_links f links ds)
        (clear_first e cs (left _ _ h)) (λ ds. clear_links links ds (right _ _ h))
    clear_part (b.Compare' op p x q y) cs h =
        clear_then None_in None_in None_in (λ x y. expr.Compare op x y) (λ x y k l. of (eq.of_compare meaning op x y) (both _ _ k l)) cs _ (λ ds. part_first f y ds)
        (clear_first x cs (left _ _ h)) (λ ds. clear_first y ds (right (first x) _ h))
    clear_part (b.Between' negative p x q y r z) cs h =
        clear_then None_in ArmNone None_in (λ (x : Expr) (yz : Expr × Expr). expr.Between negative x yz.0 yz.1) (λ x yz k l. of (eq.of_between meaning negative x yz.0 yz.1) (both _ _ k l)) cs _
        (λ ds. then_with (λ y z. (y, z)) (part_first f y ds) (λ es. part_first f z es)) (clear_first x cs (left _ _ h))
        (λ ds. clear_then None_in None_in ArmNone (λ y z. (y, z)) (λ y z k l. both _ _ k l) ds _ (λ es. part_first f z es)
        (clear_first y ds (left _ _ (right (first x) _ h))) (λ es. clear_first z es (right (first y) _ (right (first x) _ h))))
    clear_part (b.OneOf' negative p e s choices) cs h =
        clear_then None_in AllNone None_in (λ x xs. expr.OneOf negative x xs) (λ x xs k l. of (eq.of_oneof meaning negative x xs) (both _ _ k l)) cs _ (λ ds. part_all f choices ds)
        (clear_first e cs (left _ _ h)) (λ ds. clear_all choices ds (right (first e) _ h))
    clear_part (b.Cast' p e t) cs h = clear_over None_in None_in (λ x. expr.Cast x t) (λ x k. of (eq.of_cast meaning x t) k) cs _ (clear_first e cs h)
    clear_part (b.Cases' s arms other) cs h =
        clear_then ArmsNone MaybeNone None_in (λ xs y. expr.Cases xs y) (λ xs y k l. of (eq.of_cases meaning xs y) (both _ _ k l)) cs _ (λ ds. part_other f other ds)
        (clear_arms arms cs (left _ _ h)) (λ ds. clear_other other ds (right _ _ h))
    clear_part (b.Call' name s es) cs h =
        clear_call (bytes_eq name f) (exprs_in es) cs _ (listed es (right (is_aggregate (function name)) _ h))
        (clear_over AllNone None_in (λ xs. expr.Call name xs) (λ xs k. of (eq.of_call meaning name xs) (both _ _ (left (is_aggregate (function name)) _ h) k)) cs _ (clear_all es cs (right (is_aggregate (function name)) _ h)))
    clear_part b.CountRows cs h = unchanged None_in _ cs h
    clear_part (b.Scalar' p q) cs h = unchanged None_in _ cs h
    clear_part (b.Exists' p q) cs h = unchanged None_in _ cs h

    clear_first : {m : _} (es : b.Row_of-Expr m) (cs : Calls) → first es ≡ false → Clear None_in cs (part_first f es cs)
    clear_first b.end_of-Expr cs h = unchanged None_in _ cs refl
    clear_first (b.more_of-Expr e rest) cs h = clear_part e cs h

    clear_all : {m : _} (es : b.Row_of-Expr m) (cs : Calls) → any_aggregates (exprs_of meaning es) ≡ false → Clear AllNone cs (part_all f es cs)
    clear_all b.end_of-Expr cs h = unchanged AllNone _ cs refl
    clear_all (b.more_of-Expr e rest) cs h =
        clear_then None_in AllNone AllNone (λ x xs. x ∷ xs) (λ x xs k l. both _ _ k l) cs _ (λ ds. part_all f rest ds) (clear_part e cs (left _ _ h)) (λ ds. clear_all rest ds (right (aggregates e) _ h))

    clear_links : {m : _} (ls : b.Row_of-Expr-Chain-1-2 m) (cs : Calls) → list_any (λ (l : ChainOp × ExprMeaning). l.1.aggregates) (links_of meaning ls) ≡ false → Clear LinksNone cs (part_links f ls cs)
    clear_links b.end_of-Expr-Chain-1-2 cs h = unchanged LinksNone _ cs refl
    clear_links (b.more_of-Expr-Chain-1-2 op e rest) cs h =
        clear_then None_in LinksNone LinksNone (λ (x : Expr) (xs : List (ChainOp × Expr)). (op, x) ∷ xs) (λ x xs k l. both _ _ k l) cs _ (λ ds. part_links f rest ds) (clear_part e cs (left _ _ h)) (λ ds. clear_links rest ds (right (aggregates e) _ h))

    clear_arms : {m : _} (as_ : b.Row_of-Expr-Cases-0-2 m) (cs : Calls) → list_any (λ (a : ExprMeaning × ExprMeaning). a.0.aggregates || a.1.aggregates) (arms_of meaning as_) ≡ false → Clear ArmsNone cs (part_arms f as_ cs)
    clear_arms b.end_of-Expr-Cases-0-2 cs h = unchanged ArmsNone _ cs refl
    clear_arms (b.more_of-Expr-Cases-0-2 x y rest) cs h =
        let arm = left (aggregates x || aggregates y) _ h in
        clear_then ArmNone ArmsNone ArmsNone (λ (a : Expr × Expr) (xs : List (Expr × Expr)). a ∷ xs) (λ a xs k l. both _ _ k l) cs _ (λ ds. part_arms f rest ds)
        (clear_then None_in None_in ArmNone (λ x y. (x, y)) (λ x y k l. both _ _ k l) cs _ (λ ds. part f y ds) (clear_part x cs (left _ _ arm)) (λ ds. clear_part y ds (right (aggregates x) _ arm)))
        (λ ds. clear_arms rest ds (right (aggregates x || aggregates y) _ h))

    clear_other : (o : b.Held-Expr-Cases-1) (cs : Calls) → other_aggregates (other_of meaning o) ≡ false → Clear MaybeNone cs (part_other f o cs)
    clear_other b.Expr-Cases-1-None' cs h = unchanged MaybeNone _ cs refl
    clear_other (b.Expr-Cases-1-Some' p e) cs h = clear_over None_in MaybeNone (λ x. Some x) (λ x k. k) cs _ (clear_first e cs h)

  clear_expr : (e : Expr) (cs : Calls) → None_in e → Clear None_in cs (parted f e cs)
  unfolding parted
  clear_expr e cs h = clear_part e cs h

  abbrev pub ItemNone : Item → Type 0
  ItemNone i = None_in (out-Item i).expr

  clear_item : (i : Item) (cs : Calls) → ItemNone i → Clear ItemNone cs (parted_item f i cs)
  clear_item i cs h = clear_over None_in ItemNone (λ e. roll-Item (record { expr = e; alias = (out-Item i).alias })) (λ x k. k) cs _ (clear_expr (out-Item i).expr cs h)

  clear_items : (is : List Item) (cs : Calls) → Every ItemNone is → Clear (Every ItemNone) cs (parted_items f is cs)
  clear_items [] cs h = unchanged (Every ItemNone) [] cs tt
  clear_items (i ∷ is) cs h =
      clear_then ItemNone (Every ItemNone) (Every ItemNone) (λ (x : Item) (xs : List Item). x ∷ xs) (λ x xs k l. (k, l)) cs _ (λ ds. parted_items f is ds) (clear_item i cs h.0) (λ ds. clear_items is ds h.1)

-- ---- what the form says

either_is : (u v : Uses) → (either u v).aggregate ≡ (u.aggregate || v.aggregate)
unfolding either
either_is u v = refl

all_first : (us : List Uses) (u : Uses) → (fold either u us).aggregate ≡ false → u.aggregate ≡ false
all_first [] u h = h
all_first (v ∷ us) u h = left u.aggregate v.aggregate (sym (either_is u v) ∙ all_first us (either u v) h)

all_none : (us : List Uses) (u : Uses) → (fold either u us).aggregate ≡ false → Every (λ (u : Uses). u.aggregate ≡ false) us
all_none [] u h = tt
all_none (v ∷ us) u h = (right u.aggregate v.aggregate (sym (either_is u v) ∙ all_first us (either u v) h), all_none us (either u v) h)

item_uses : (i : Item) → (item_of using_ i).uses ≡ uses_of (out-Item i).expr
unfolding uses_of
item_uses i = ap (λ (i : Item). (item_of using_ i).uses) (sym (roll-out-Item i))

items_none : (f : Name) (is : List Item) → Every (λ (u : Uses). u.aggregate ≡ false) (map (λ (t : Term). t.uses) (map (λ i. item_of using_ i) is)) → Every (ItemNone f) is
items_none f [] h = tt
items_none f (i ∷ is) h = (aggregates_are (out-Item i).expr ∙ (ap (λ (u : Uses). u.aggregate) (sym (item_uses i)) ∙ h.0), items_none f is h.1)

select_is : (list : Uses) (x : Term) → (typing.of_select list false x.uses false).aggregate ≡ list.aggregate
unfolding typing.of_select
select_is list x = refl

list_none : (f : Name) (x : Select) → (uses_of_select x).aggregate ≡ false → Every (ItemNone f) (out-Select x).list
unfolding uses_of_select typing.of_select
list_none f x h =
    items_none f (out-Select x).list
    (all_none (map (λ (t : Term). t.uses) (map (λ i. item_of using_ i) (out-Select x).list)) unused (sym (ap (λ (t : Term). t.uses.aggregate) (eq.select_is using_ x)) ∙ h))

first_of : (a c d e : Bool) → (not a && (not c && (not d && e))) ≡ true → a ≡ false
first_of true c d e h = cc
first_of false c d e h = refl

pub record ClearParts (f : Function) (x : Select) : Type 0 where
  pub list : Every (ItemNone f.name) (out-Select (calling f x).select).list
  pub calls : All_clear (calling f x).calls

pub clear_parts : (f : Function) (x : Select) → is_form f x ≡ true → ClearParts f x
clear_parts f x form = record { list = subst (Every (ItemNone f.name)) (sym (ap (λ x. x.list) (out-roll-Select _))) g.it; calls = subst All_clear (sym g.calls_are) g.clear }
  where
    none : (uses_of_select x).aggregate ≡ false
    none = first_of (uses_of_select x).aggregate (in_select kept_words x) (is_some (names.function f.name)) (in_select (calls_of_it f) x) form

    g : Clear (Every (ItemNone f.name)) [] (parted_items f.name (out-Select x).list [])
    g = clear_items f.name (out-Select x).list [] (list_none f.name x none)
