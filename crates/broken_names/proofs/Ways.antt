-- A culprit of a part of an expression or a query is one of the whole.
use Rattle.std.proofs.Common.{◌≡◌, sym, ap, subst, ◌∙◌, inl, inr, ℕ, ◌+◌, ◌<◌, Bool, true, List, [], ◌∷◌, ◌++◌, length, drop, get_or, Option, Some, Contains}
use Rattle.std.proofs.lemmas.List.{at_drop_more}
use Rattle.away_values.specs.declared.types.Ty.{Ty}
use Rattle.away_values.specs.declared.operators.ChainOp.{ChainOp}
use Rattle.away_values.specs.declared.operators.CmpOp.{CmpOp}
use Rattle.away_values.specs.declared.operators.IsTest.{IsTest}
use Rattle.away_trees.specs.declared.queries.Expr.{Expr}
use Rattle.away_trees.specs.declared.queries.Expr.TheVariants as e
use Rattle.away_trees.specs.declared.queries.FromItem.{FromItem, out-FromItem}
use Rattle.away_trees.specs.declared.queries.Item.{Item, out-Item}
use Rattle.away_trees.specs.declared.queries.Key.{Key, out-Key}
use Rattle.away_trees.specs.declared.queries.Query.{Query, out-Query}
use Rattle.away_trees.specs.declared.queries.Select.{Select, out-Select}
use Rattle.away_trees.specs.declared.queries.Source.{Source}
use Rattle.away_trees.specs.declared.queries.Source.TheVariants as source
use Rattle.away_names.specs.declared.rule.Rule.{Rule}
use Rattle.away_names.specs.declared.rule.Rule.TheVariants as rule
use Rattle.away_names.specs.declared.scope.Seen.{Seen}
use Rattle.away_names.specs.Lookups.{Name, Level, Scope, inside}
use Rattle.away_names.specs.Naming.{before, called}
use Rattle.away_names.specs.NamingLists.{named_from}
use Rattle.broken_names.specs.declared.culprit.Culprit.{Culprit}
use Rattle.broken_names.specs.declared.culprit.Culprit.TheVariants as culprit
use Rattle.broken_names.specs.Holds as h
use Rattle.broken_names.specs.Holds.{Holds, InOne, InArm, InEither, of_expr, of_maybe, of_query, of_select, of_body, of_key, of_from, of_source, aliases, seen_of}

module _ {broken : Rule} {s : Scope} where
  -- what the expression is called that is known to be this
  as_is : {w x : Expr} {c : Culprit} → w ≡ x → Holds broken s (of_expr x) c → Holds broken s (of_expr w) c
  as_is {c = c} is = subst (λ x. Holds broken s (of_expr x) c) (sym is)

  pub function_here : {w : Expr} {n m : Name} (xs : List Expr) → w ≡ e.Call n xs → (called s n).least ≡ Some broken → m ≡ n
      → Holds broken s (of_expr w) (culprit.Function m)
  function_here {w} {n} {m} xs is least copied =
      subst (λ m. Holds broken s (of_expr w) (culprit.Function m)) (sym copied) (as_is is (h.a_function xs least))

  pub parameter_here : {w : Expr} {i : ℕ} {t : Ty} → w ≡ e.Param i t → broken ≡ rule.Names → s.in_function ≡ true
      → Holds broken s (of_expr w) (culprit.Parameter i)
  parameter_here {t = t} is names inside = as_is is (h.a_parameter t names inside)

  pub into_neg : {w x y : Expr} → w ≡ e.Neg x → y ≡ x → (c : Culprit) → Holds broken s (of_expr y) c → Holds broken s (of_expr w) c
  into_neg is same c held = as_is is (h.in_neg (as_is (sym same) held))

  pub into_neg_small : {w x y : Expr} → w ≡ e.NegSmall x → y ≡ x → (c : Culprit) → Holds broken s (of_expr y) c → Holds broken s (of_expr w) c
  into_neg_small is same c held = as_is is (h.in_neg_small (as_is (sym same) held))

  pub into_not : {w x y : Expr} → w ≡ e.Not x → y ≡ x → (c : Culprit) → Holds broken s (of_expr y) c → Holds broken s (of_expr w) c
  into_not is same c held = as_is is (h.in_not (as_is (sym same) held))

  pub into_is : {w x y : Expr} {t : IsTest} {v : Bool} → w ≡ e.Is x t v → y ≡ x → (c : Culprit) → Holds broken s (of_expr y) c
      → Holds broken s (of_expr w) c
  into_is {t = t} {v = v} is same c held = as_is is (h.in_is t v (as_is (sym same) held))

  pub into_cast : {w x y : Expr} {t : Ty} → w ≡ e.Cast x t → y ≡ x → (c : Culprit) → Holds broken s (of_expr y) c → Holds broken s (of_expr w) c
  into_cast {t = t} is same c held = as_is is (h.in_cast t (as_is (sym same) held))

  pub into_first : {w x y : Expr} (ls : List (ChainOp × Expr)) → w ≡ e.Chain x ls → y ≡ x → (c : Culprit) → Holds broken s (of_expr y) c
      → Holds broken s (of_expr w) c
  into_first ls is same c held = as_is is (h.in_first ls (as_is (sym same) held))

  pub into_links : {w : Expr} {ls ms : List (ChainOp × Expr)} (x : Expr) → w ≡ e.Chain x ls → ms ≡ ls → (c : Culprit)
      → InOne (λ l. of_expr l.1) broken s ms c → Holds broken s (of_expr w) c
  into_links {ls = ls} x is same c found =
      as_is is (h.in_link x ls found.one (subst (λ ls. Contains ls found.one) same found.stands) found.holds)

  pub into_left : {w x z : Expr} {op : CmpOp} (y : Expr) → w ≡ e.Compare op x y → z ≡ x → (c : Culprit) → Holds broken s (of_expr z) c
      → Holds broken s (of_expr w) c
  into_left {op = op} y is same c held = as_is is (h.in_left op y (as_is (sym same) held))

  pub into_right : {w y z : Expr} {op : CmpOp} (x : Expr) → w ≡ e.Compare op x y → z ≡ y → (c : Culprit) → Holds broken s (of_expr z) c
      → Holds broken s (of_expr w) c
  into_right {op = op} x is same c held = as_is is (h.in_right op x (as_is (sym same) held))

  pub into_between : {w x y : Expr} {v : Bool} (low high : Expr) → w ≡ e.Between v x low high → y ≡ x → (c : Culprit) → Holds broken s (of_expr y) c
      → Holds broken s (of_expr w) c
  into_between {v = v} low high is same c held = as_is is (h.in_between v low high (as_is (sym same) held))

  pub into_low : {w low y : Expr} {v : Bool} (x high : Expr) → w ≡ e.Between v x low high → y ≡ low → (c : Culprit) → Holds broken s (of_expr y) c
      → Holds broken s (of_expr w) c
  into_low {v = v} x high is same c held = as_is is (h.in_low v x high (as_is (sym same) held))

  pub into_high : {w high y : Expr} {v : Bool} (x low : Expr) → w ≡ e.Between v x low high → y ≡ high → (c : Culprit) → Holds broken s (of_expr y) c
      → Holds broken s (of_expr w) c
  into_high {v = v} x low is same c held = as_is is (h.in_high v x low (as_is (sym same) held))

  pub into_chosen : {w x y : Expr} {v : Bool} (xs : List Expr) → w ≡ e.OneOf v x xs → y ≡ x → (c : Culprit) → Holds broken s (of_expr y) c
      → Holds broken s (of_expr w) c
  into_chosen {v = v} xs is same c held = as_is is (h.in_chosen v xs (as_is (sym same) held))

  pub into_choices : {w : Expr} {xs ys : List Expr} {v : Bool} (x : Expr) → w ≡ e.OneOf v x xs → ys ≡ xs → (c : Culprit) → InOne of_expr broken s ys c
      → Holds broken s (of_expr w) c
  into_choices {xs = xs} {v = v} x is same c found =
      as_is is (h.in_choice v x xs (subst (λ xs. Contains xs found.one) same found.stands) found.holds)

  pub into_arms : {w : Expr} {arms bs : List (Expr × Expr)} (other : Option Expr) → w ≡ e.Cases arms other → bs ≡ arms → (c : Culprit)
      → InArm broken s bs c → Holds broken s (of_expr w) c
  into_arms {arms = arms} other is same c found =
      let stands = subst (λ arms. Contains arms found.one) same found.stands in
      as_is is (elim found.holds [ inl held ↦ h.in_test arms found.one other stands held | inr held ↦ h.in_value arms found.one other stands held ])

  pub into_other : {w : Expr} {other : Option Expr} (arms : List (Expr × Expr)) → w ≡ e.Cases arms other → (c : Culprit)
      → Holds broken s (of_maybe other) c → Holds broken s (of_expr w) c
  into_other arms is c held = as_is is (h.in_other arms held)

  pub into_arguments : {w : Expr} {n : Name} {xs ys : List Expr} → w ≡ e.Call n xs → ys ≡ xs → (c : Culprit) → InOne of_expr broken s ys c
      → Holds broken s (of_expr w) c
  into_arguments {n = n} {xs = xs} is same c found =
      as_is is (h.in_argument n xs (subst (λ xs. Contains xs found.one) same found.stands) found.holds)

  query_is : {p q : Query} {c : Culprit} → p ≡ q → Holds broken s (of_query p) c → Holds broken s (of_query q) c
  query_is {c = c} = subst (λ q. Holds broken s (of_query q) c)

  pub into_scalar : {w : Expr} {p q : Query} → w ≡ e.Scalar q → p ≡ q → (c : Culprit) → Holds broken s (of_query p) c → Holds broken s (of_expr w) c
  into_scalar is same c held = as_is is (h.in_scalar (query_is same held))

  pub into_exists : {w : Expr} {p q : Query} → w ≡ e.Exists q → p ≡ q → (c : Culprit) → Holds broken s (of_query p) c → Holds broken s (of_expr w) c
  into_exists is same c held = as_is is (h.in_exists (query_is same held))

  pub into_some : {o : Option Expr} {x y : Expr} → o ≡ Some x → y ≡ x → (c : Culprit) → Holds broken s (of_expr y) c → Holds broken s (of_maybe o) c
  into_some is same c held = subst (λ o. Holds broken s (of_maybe o) c) (sym is) (h.in_some (as_is (sym same) held))

  -- ---- queries

  pub into_query : {q : Query} {xs : List Select} → xs ≡ (out-Query q).selects → (c : Culprit) → InOne of_select broken s xs c
      → Holds broken s (of_query q) c
  into_query same c found = h.in_selects (subst (λ xs. Contains xs found.one) same found.stands) found.holds

  pub into_list : {x : Select} {list : List Item} → list ≡ (out-Select x).list → (c : Culprit)
      → InOne (λ i. of_expr (out-Item i).expr) broken s list c → Holds broken s (of_body x) c
  into_list same c found = h.in_list found.one (subst (λ list. Contains list found.one) same found.stands) found.holds

  pub into_filter : {x : Select} {c : Culprit} → Holds broken s (of_maybe (out-Select x).filter) c → Holds broken s (of_body x) c
  into_filter = h.in_filter

  pub into_limit : {x : Select} (c : Culprit) → Holds broken s (of_maybe (out-Select x).limit) c → Holds broken s (of_body x) c
  into_limit c = h.in_limit

  pub into_key : {given : List (Option Name)} {k : Key} (c : Culprit) → Holds broken s (of_expr (out-Key k).expr) c → Holds broken s (of_key given k) c
  into_key c = h.in_key

  pub into_order : {x : Select} {keys : List Key} {list : List Item} → keys ≡ (out-Select x).order → list ≡ (out-Select x).list → (c : Culprit)
      → InOne (of_key (aliases list)) broken s keys c → Holds broken s (of_body x) c
  into_order keys list c found =
      h.in_order (subst (λ keys. Contains keys found.one) keys found.stands) (subst (λ list. Holds broken s (of_key (aliases list) found.one) c) list found.holds)

  pub into_subquery : {x : Source} {level : Level} {p q : Query} {lateral : Bool} → x ≡ source.Sub q lateral → p ≡ q → (c : Culprit)
      → Holds broken (inside (before lateral level) s) (of_query p) c → Holds broken s (of_source level x) c
  into_subquery {level = level} {q = q} {lateral = lateral} is same c held =
      subst (λ x. Holds broken s (of_source level x) c) (sym is)
      (h.in_subquery lateral (subst (λ q. Holds broken (inside (before lateral level) s) (of_query q) c) same held))

pub into_select : {broken : Rule} {s inner : Scope} {x : Select} → inner ≡ inside (named_from s (out-Select x).from).it.seen s → (c : Culprit)
    → InEither broken s inner x c → Holds broken s (of_select x) c
into_select {broken} {x = x} is c found = elim found [
  | inl held ↦ h.in_from held
  | inr held ↦ h.in_body (subst (λ t. Holds broken t (of_body x) c) is held)
]

-- ---- FROM, item by item

-- each culprit of the items that are left is one of all
pub record Leads (broken : Rule) (s : Scope) (from : List FromItem) (level : Level) (left : List FromItem) : Type 0 where
  pub leads : (c : Culprit) → Holds broken s (of_from level left) c → Holds broken s (of_from [] from) c

pub none_passed : {broken : Rule} {s : Scope} {from : List FromItem} {level : Level} → level ≡ [] → Leads broken s from level from
none_passed {broken} {s} {from} is = record { leads = λ c. subst (λ level. Holds broken s (of_from level from) c) is }

left_is : (from : List FromItem) (i : ℕ) (f : FromItem) → f ≡ get_or from i f → i < length from → drop i from ≡ f ∷ drop (i + 1) from
left_is from i f is lt = at_drop_more (λ fs. fs) from i f lt ∙ ap (λ f. f ∷ drop (i + 1) from) (sym is)

module _ {broken : Rule} {s : Scope} {from : List FromItem} {level : Level} (i : ℕ) (f : FromItem) (is : f ≡ get_or from i f) (lt : i < length from) where
  pub found_item : (c : Culprit) → Leads broken s from level (drop i from) → Holds broken s (of_source level (out-FromItem f).source) c
      → Holds broken s (of_from [] from) c
  found_item c so held = so.leads c (subst (λ fs. Holds broken s (of_from level fs) c) (sym (left_is from i f is lt)) (h.this_item (drop (i + 1) from) held))

  pub next_item : {more : Level} {item : Seen} → Leads broken s from level (drop i from) → item ≡ seen_of s level f → more ≡ level ++ item ∷ []
      → Leads broken s from more (drop (i + 1) from)
  next_item so seen pushed = record {
    leads = λ c held.
        so.leads c
        (subst (λ fs. Holds broken s (of_from level fs) c) (sym (left_is from i f is lt))
        (h.later_item (subst (λ more. Holds broken s (of_from more (drop (i + 1) from)) c) (pushed ∙ ap (λ item. level ++ item ∷ []) seen) held)));
  }
