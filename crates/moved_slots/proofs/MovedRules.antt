-- A tree whose slots stand elsewhere, by its parts.
use Rattle.std.proofs.Common.{◌≡◌, refl, sym, ap, ◌∙◌, subst, ℕ, ℤ, suc, ◌<◌, Bool, true, ◌&&◌, nat_lt, if◌then◌else◌, List, [], ◌∷◌, ◌++◌, map, take, flat_map, Option, Some, None, option_map, arith}
use Rattle.std.specs.List.{list_all}
use Rattle.std.proofs.lemmas.Bool.Decides.{nat_tests}
use Rattle.std.proofs.lemmas.List.Folds.{list_all-append}
use Rattle.away_values.specs.declared.types.Ty.{Ty}
use Rattle.away_values.specs.declared.operators.ChainOp.{ChainOp}
use Rattle.away_values.specs.declared.operators.CmpOp.{CmpOp}
use Rattle.away_values.specs.declared.operators.IsTest.{IsTest}
use Rattle.away_trees.specs.declared.queries.Col.{Col}
use Rattle.away_trees.specs.declared.queries.Expr.{Expr}
use Rattle.away_trees.specs.declared.queries.Expr.TheVariants as expr
use Rattle.away_trees.specs.declared.queries.Expr.TheViews.{out-FromItem, out-Item, out-Key, out-Query, out-Select, roll-FromItem, roll-Item, roll-Key, roll-Query, roll-Select}
use Rattle.away_trees.specs.declared.queries.FromItem.{FromItem}
use Rattle.away_trees.specs.declared.queries.Item.{Item}
use Rattle.away_trees.specs.declared.queries.Key.{Key}
use Rattle.away_trees.specs.declared.queries.Query.{Query}
use Rattle.away_trees.specs.declared.queries.Select.{Select}
use Rattle.away_trees.specs.declared.queries.Source.{Source}
use Rattle.away_trees.specs.declared.queries.Source.TheVariants as source
use Rattle.away_trees.specs.Algebra.{expr_of, source_of, from_of, item_of, key_of, query_of, recursive_of, select_of}
use Rattle.away_trees.proofs.Equations as eq
use Rattle.away_trees.proofs.Equations.{link_of, arm_of}
use Rattle.sql_meaning.specs.Names.{bare_columns, nameless}
use Rattle.sql_meaning.specs.Placed.{Deep}
use Rattle.sql_meaning.specs.Reads.{Outer, Read, Reads, SourceReads, of_list, of_option, reading}
use Rattle.call_meaning.specs.Alike.{Slots}
use Rattle.call_meaning.specs.Renamed.{in_sight, moved, sees}
use Rattle.moved_slots.specs.Moved.{Each, Maybe, moving, Seen, ExprMoved, ItemMoved, KeyMoved, FromMoved, SelectMoved, QueryMoved, LinkMoved, ArmMoved}

module _ (m : Slots) where
  joined : (as_ bs : List Read) → Seen m as_ → Seen m bs → Seen m (as_ ++ bs)
  joined as_ bs h k = list_all-append (sees m) as_ bs ∙ (λ i. h i && k i)

  -- ---- lists of parts

  module _ {A : Type 0} (R : A → A → Type 0) (rd : A → Reads) (mv : A → Deep A) (nm : A → A) (d : ℕ)
      (seen : (x y : A) → R x y → Seen m (rd x d)) (is : (x y : A) → R x y → nm y ≡ nm (mv x d)) where
    all_seen : (xs ys : List A) → Each R xs ys → Seen m (of_list d (map rd xs))
    all_seen [] [] h = refl
    all_seen [] (y ∷ ys) h = absurd h
    all_seen (x ∷ xs) [] h = absurd h
    all_seen (x ∷ xs) (y ∷ ys) h = joined (rd x d) (of_list d (map rd xs)) (seen x y h.0) (all_seen xs ys h.1)

    all_are : (xs ys : List A) → Each R xs ys → map nm ys ≡ map nm (map (λ z. z d) (map mv xs))
    all_are [] [] h = refl
    all_are [] (y ∷ ys) h = absurd h
    all_are (x ∷ xs) [] h = absurd h
    all_are (x ∷ xs) (y ∷ ys) h = λ i. is x y h.0 i ∷ all_are xs ys h.1 i

    maybe_seen : (x y : Option A) → Maybe R x y → Seen m (of_option d (option_map rd x))
    maybe_seen None None h = refl
    maybe_seen None (Some y) h = absurd h
    maybe_seen (Some x) None h = absurd h
    maybe_seen (Some x) (Some y) h = seen x y h

    maybe_are : (x y : Option A) → Maybe R x y → option_map nm y ≡ option_map nm (option_map (λ z. z d) (option_map mv x))
    maybe_are None None h = refl
    maybe_are None (Some y) h = absurd h
    maybe_are (Some x) None h = absurd h
    maybe_are (Some x) (Some y) h = ap Some (is x y h)

  module _ (d : ℕ) where
    abbrev E : Expr → Expr → Type 0
    E = ExprMoved m d

    abbrev N : Expr → Expr
    N e = expr_of nameless e

    abbrev V : Expr → Expr
    V e = expr_of (moving m) e d

    abbrev U : Expr → List Read
    U e = expr_of reading e d

    exprs_seen : (xs ys : List Expr) → Each E xs ys → Seen m (of_list d (map (λ e. expr_of reading e) xs))
    exprs_seen = all_seen E (λ e. expr_of reading e) (λ e. expr_of (moving m) e) N d (λ x y h. h.seen) (λ x y h. h.is)

    exprs_are : (xs ys : List Expr) → Each E xs ys → map (λ y. N y) ys ≡ map (λ y. N y) (map (λ z. z d) (map (λ e. expr_of (moving m) e) xs))
    exprs_are = all_are E (λ e. expr_of reading e) (λ e. expr_of (moving m) e) N d (λ x y h. h.seen) (λ x y h. h.is)

    other_seen : (x y : Option Expr) → Maybe E x y → Seen m (of_option d (option_map (λ e. expr_of reading e) x))
    other_seen = maybe_seen E (λ e. expr_of reading e) (λ e. expr_of (moving m) e) N d (λ x y h. h.seen) (λ x y h. h.is)

    other_are : (x y : Option Expr) → Maybe E x y → option_map (λ y. N y) y ≡ option_map (λ y. N y) (option_map (λ z. z d) (option_map (λ e. expr_of (moving m) e) x))
    other_are = maybe_are E (λ e. expr_of reading e) (λ e. expr_of (moving m) e) N d (λ x y h. h.seen) (λ x y h. h.is)

    links_seen : (xs ys : List (ChainOp × Expr)) → Each (LinkMoved m d) xs ys → Seen m (flat_map (λ (l : ChainOp × Reads). l.1 d) (map (λ l. link_of reading l) xs))
    links_seen [] [] h = refl
    links_seen [] (y ∷ ys) h = absurd h
    links_seen (x ∷ xs) [] h = absurd h
    links_seen (x ∷ xs) (y ∷ ys) h = joined (U x.1) (flat_map (λ (l : ChainOp × Reads). l.1 d) (map (λ l. link_of reading l) xs)) h.0.part.seen (links_seen xs ys h.1)

    links_are : (xs ys : List (ChainOp × Expr)) → Each (LinkMoved m d) xs ys
        → map (λ l. link_of nameless l) ys ≡ map (λ l. link_of nameless l) (map (λ (l : ChainOp × Deep Expr). (l.0, l.1 d)) (map (λ l. link_of (moving m) l) xs))
    links_are [] [] h = refl
    links_are [] (y ∷ ys) h = absurd h
    links_are (x ∷ xs) [] h = absurd h
    links_are (x ∷ xs) (y ∷ ys) h = λ i. (h.0.op i, h.0.part.is i) ∷ links_are xs ys h.1 i

    arms_seen : (xs ys : List (Expr × Expr)) → Each (ArmMoved m d) xs ys → Seen m (flat_map (λ (a : Reads × Reads). a.0 d ++ a.1 d) (map (λ a. arm_of reading a) xs))
    arms_seen [] [] h = refl
    arms_seen [] (y ∷ ys) h = absurd h
    arms_seen (x ∷ xs) [] h = absurd h
    arms_seen (x ∷ xs) (y ∷ ys) h =
        joined (U x.0 ++ U x.1) (flat_map (λ (a : Reads × Reads). a.0 d ++ a.1 d) (map (λ a. arm_of reading a) xs)) (joined (U x.0) (U x.1) h.0.0.seen h.0.1.seen) (arms_seen xs ys h.1)

    arms_are : (xs ys : List (Expr × Expr)) → Each (ArmMoved m d) xs ys
        → map (λ a. arm_of nameless a) ys ≡ map (λ a. arm_of nameless a) (map (λ (a : Deep Expr × Deep Expr). (a.0 d, a.1 d)) (map (λ a. arm_of (moving m) a) xs))
    arms_are [] [] h = refl
    arms_are [] (y ∷ ys) h = absurd h
    arms_are (x ∷ xs) [] h = absurd h
    arms_are (x ∷ xs) (y ∷ ys) h = λ i. (h.0.0.is i, h.0.1.is i) ∷ arms_are xs ys h.1 i

    -- ---- leaves

    pub int_rule : (a b : ℤ) → a ≡ b → E (expr.Int a) (expr.Int b)
    int_rule a b h = subst (λ b. E (expr.Int a) (expr.Int b)) h (record { seen = refl; is = refl })

    pub str_rule : (a b : List ℕ) → a ≡ b → E (expr.Str a) (expr.Str b)
    str_rule a b h = subst (λ b. E (expr.Str a) (expr.Str b)) h (record { seen = refl; is = refl })

    pub bool_rule : (a b : Bool) → a ≡ b → E (expr.Bool a) (expr.Bool b)
    bool_rule a b h = subst (λ b. E (expr.Bool a) (expr.Bool b)) h (record { seen = refl; is = refl })

    pub null_rule : E expr.Null expr.Null
    null_rule = record { seen = refl; is = refl }

    pub count_rule : E expr.CountRows expr.CountRows
    count_rule = record { seen = refl; is = refl }

    pub slot_rule : (i j : ℕ) → m i ≡ Some j → E (expr.Slot i) (expr.Slot j)
    slot_rule i j h = record { seen = ap (λ o. in_sight o && true) h; is = sym (ap (λ o. N (moved o i)) h) }

    pub column_rule : (a b : Col) → a ≡ b → a.level < d → E (expr.Column a) (expr.Column b)
    column_rule a b h lt =
        let is : nat_lt a.level d ≡ true = grind (arith, nat_tests) in
        subst (λ b. E (expr.Column a) (expr.Column b)) h (record { seen = ap (λ t. list_all (sees m) (if t then [] else Outer a ∷ [])) is; is = refl })

    -- ---- one part

    one : (c : Expr → Expr) → ((e : Expr) → U (c e) ≡ U e) → ((e : Expr) → V (c e) ≡ c (V e)) → ((y : Expr) → N (c y) ≡ c (N y)) → (e x : Expr) → E e x → E (c e) (c x)
    one c r v n e x h = record {
      seen = ap (list_all (sees m)) (r e) ∙ h.seen;
      is = n x ∙ (ap c h.is ∙ (sym (n (V e)) ∙ sym (ap N (v e))));
    }

    pub neg_rule : (e x : Expr) → E e x → E (expr.Neg e) (expr.Neg x)
    neg_rule = one expr.Neg (λ e. ap (λ u. u d) (eq.of_neg reading e)) (λ e. ap (λ z. z d) (eq.of_neg (moving m) e)) (eq.of_neg nameless)

    pub negsmall_rule : (e x : Expr) → E e x → E (expr.NegSmall e) (expr.NegSmall x)
    negsmall_rule = one expr.NegSmall (λ e. ap (λ u. u d) (eq.of_negsmall reading e)) (λ e. ap (λ z. z d) (eq.of_negsmall (moving m) e)) (eq.of_negsmall nameless)

    pub not_rule : (e x : Expr) → E e x → E (expr.Not e) (expr.Not x)
    not_rule = one expr.Not (λ e. ap (λ u. u d) (eq.of_not reading e)) (λ e. ap (λ z. z d) (eq.of_not (moving m) e)) (eq.of_not nameless)

    pub is_rule : (e x : Expr) (s u : IsTest) (t v : Bool) → s ≡ u → t ≡ v → E e x → E (expr.Is e s t) (expr.Is x u v)
    is_rule e x s u t v p q h =
        subst (λ u. E (expr.Is e s t) (expr.Is x u v)) p (subst (λ v. E (expr.Is e s t) (expr.Is x s v)) q
        (one (λ e. expr.Is e s t) (λ e. ap (λ u. u d) (eq.of_is reading e s t)) (λ e. ap (λ z. z d) (eq.of_is (moving m) e s t)) (λ y. eq.of_is nameless y s t) e x h))

    pub cast_rule : (e x : Expr) (s t : Ty) → s ≡ t → E e x → E (expr.Cast e s) (expr.Cast x t)
    cast_rule e x s t p h =
        subst (λ t. E (expr.Cast e s) (expr.Cast x t)) p
        (one (λ e. expr.Cast e s) (λ e. ap (λ u. u d) (eq.of_cast reading e s)) (λ e. ap (λ z. z d) (eq.of_cast (moving m) e s)) (λ y. eq.of_cast nameless y s) e x h)

    pub scalar_rule : (q r : Query) → QueryMoved m d q r → E (expr.Scalar q) (expr.Scalar r)
    scalar_rule q r h = record {
      seen = ap (λ (u : Reads). list_all (sees m) (u d)) (eq.of_scalar reading q) ∙ h.seen;
      is = eq.of_scalar nameless r ∙ (ap expr.Scalar h.is ∙ (sym (eq.of_scalar nameless (query_of (moving m) q d)) ∙ sym (ap (λ (z : Deep Expr). N (z d)) (eq.of_scalar (moving m) q))));
    }

    pub exists_rule : (q r : Query) → QueryMoved m d q r → E (expr.Exists q) (expr.Exists r)
    exists_rule q r h = record {
      seen = ap (λ (u : Reads). list_all (sees m) (u d)) (eq.of_exists reading q) ∙ h.seen;
      is = eq.of_exists nameless r ∙ (ap expr.Exists h.is ∙ (sym (eq.of_exists nameless (query_of (moving m) q d)) ∙ sym (ap (λ (z : Deep Expr). N (z d)) (eq.of_exists (moving m) q))));
    }

    -- ---- several parts

    -- by the equations of what is read, of the moved tree and of the tree without names
    by_equations : (e x : Expr) (us : List Read) (v n : Expr) → U e ≡ us → Seen m us → V e ≡ v → N x ≡ n → n ≡ N v → E e x
    by_equations e x us v n r s w y h = record { seen = ap (list_all (sees m)) r ∙ s; is = y ∙ (h ∙ sym (ap N w)) }

    pub chain_rule : (e x : Expr) (ls ys : List (ChainOp × Expr)) → E e x → Each (LinkMoved m d) ls ys → E (expr.Chain e ls) (expr.Chain x ys)
    chain_rule e x ls ys h k =
        by_equations _ _ _ _ _ (ap (λ u. u d) (eq.of_chain reading e ls)) (joined (U e) _ h.seen (links_seen ls ys k)) (ap (λ z. z d) (eq.of_chain (moving m) e ls)) (eq.of_chain nameless x ys)
        ((λ i. expr.Chain (h.is i) (links_are ls ys k i)) ∙ sym (eq.of_chain nameless (V e) (map (λ (l : ChainOp × Deep Expr). (l.0, l.1 d)) (map (λ l. link_of (moving m) l) ls))))

    pub compare_rule : (s t : CmpOp) (a b y z : Expr) → s ≡ t → E a y → E b z → E (expr.Compare s a b) (expr.Compare t y z)
    compare_rule s t a b y z p h k =
        subst (λ t. E (expr.Compare s a b) (expr.Compare t y z)) p
        (by_equations _ _ _ _ _ (ap (λ u. u d) (eq.of_compare reading s a b)) (joined (U a) (U b) h.seen k.seen) (ap (λ z. z d) (eq.of_compare (moving m) s a b)) (eq.of_compare nameless s y z)
        ((λ i. expr.Compare s (h.is i) (k.is i)) ∙ sym (eq.of_compare nameless s (V a) (V b))))

    pub between_rule : (s t : Bool) (a b c w y z : Expr) → s ≡ t → E a w → E b y → E c z → E (expr.Between s a b c) (expr.Between t w y z)
    between_rule s t a b c w y z p h k l =
        subst (λ t. E (expr.Between s a b c) (expr.Between t w y z)) p
        (by_equations _ _ _ _ _ (ap (λ u. u d) (eq.of_between reading s a b c)) (joined (U a) (U b ++ U c) h.seen (joined (U b) (U c) k.seen l.seen)) (ap (λ z. z d) (eq.of_between (moving m) s a b c)) (eq.of_between nameless s w y z)
        ((λ i. expr.Between s (h.is i) (k.is i) (l.is i)) ∙ sym (eq.of_between nameless s (V a) (V b) (V c))))

    pub oneof_rule : (s t : Bool) (e x : Expr) (es xs : List Expr) → s ≡ t → E e x → Each E es xs → E (expr.OneOf s e es) (expr.OneOf t x xs)
    oneof_rule s t e x es xs p h k =
        subst (λ t. E (expr.OneOf s e es) (expr.OneOf t x xs)) p
        (by_equations _ _ _ _ _ (ap (λ u. u d) (eq.of_oneof reading s e es)) (joined (U e) _ h.seen (exprs_seen es xs k)) (ap (λ z. z d) (eq.of_oneof (moving m) s e es)) (eq.of_oneof nameless s x xs)
        ((λ i. expr.OneOf s (h.is i) (exprs_are es xs k i)) ∙ sym (eq.of_oneof nameless s (V e) (map (λ z. z d) (map (λ e. expr_of (moving m) e) es)))))

    pub cases_rule : (as_ bs : List (Expr × Expr)) (o p : Option Expr) → Each (ArmMoved m d) as_ bs → Maybe E o p → E (expr.Cases as_ o) (expr.Cases bs p)
    cases_rule as_ bs o p h k =
        by_equations _ _ _ _ _ (ap (λ u. u d) (eq.of_cases reading as_ o)) (joined (flat_map (λ (a : Reads × Reads). a.0 d ++ a.1 d) (map (λ a. arm_of reading a) as_)) (of_option d (option_map (λ e. expr_of reading e) o)) (arms_seen as_ bs h) (other_seen o p k)) (ap (λ z. z d) (eq.of_cases (moving m) as_ o)) (eq.of_cases nameless bs p)
        ((λ i. expr.Cases (arms_are as_ bs h i) (other_are o p k i)) ∙ sym (eq.of_cases nameless (map (λ (a : Deep Expr × Deep Expr). (a.0 d, a.1 d)) (map (λ a. arm_of (moving m) a) as_)) (option_map (λ z. z d) (option_map (λ e. expr_of (moving m) e) o))))

    pub call_rule : (f g : List ℕ) (es xs : List Expr) → f ≡ g → Each E es xs → E (expr.Call f es) (expr.Call g xs)
    call_rule f g es xs p k =
        subst (λ g. E (expr.Call f es) (expr.Call g xs)) p
        (by_equations _ _ _ _ _ (ap (λ u. u d) (eq.of_call reading f es)) (exprs_seen es xs k) (ap (λ z. z d) (eq.of_call (moving m) f es)) (eq.of_call nameless f xs)
        ((λ i. expr.Call f (exprs_are es xs k i)) ∙ sym (eq.of_call nameless f (map (λ z. z d) (map (λ e. expr_of (moving m) e) es)))))

    -- ---- queries

    pub item_rule : (i y : Item) → E (out-Item i).expr (out-Item y).expr → ItemMoved m d i y
    item_rule i y h = record { seen = h.seen; is = ap (λ e. roll-Item (record { expr = e; alias = None })) h.is }

    pub key_rule : (k y : Key) → (out-Key k).descending ≡ (out-Key y).descending → E (out-Key k).expr (out-Key y).expr → KeyMoved m d k y
    key_rule k y p h = record { seen = h.seen; is = λ i. roll-Key (record { expr = h.is i; descending = sym p i }) }

    abbrev part_of : Source → List (List ℕ) → FromItem
    part_of x columns = roll-FromItem (record { source = x; alias = []; columns = bare_columns x columns })

    pub table_rule : (f y : FromItem) (n p : List ℕ) → (out-FromItem f).source ≡ source.Table n → (out-FromItem y).source ≡ source.Table p → take 1 (out-FromItem f).columns ≡ take 1 (out-FromItem y).columns → FromMoved m d f y
    table_rule f y n p a b c = record {
      seen = ap (λ x. list_all (sees m) (source_of reading x (out-FromItem f).columns d)) a;
      is =
          ap (λ x. part_of (source_of nameless x) (out-FromItem y).columns) b
          ∙ (ap (λ l. roll-FromItem (record { source = source.Table []; alias = []; columns = l })) (sym c)
          ∙ sym (ap (λ x. part_of (source_of nameless (source_of (moving m) x d)) (out-FromItem f).columns) a));
    }

    pub sub_rule : (f y : FromItem) (q r : Query) (lateral other : Bool) → (out-FromItem f).source ≡ source.Sub q lateral → (out-FromItem y).source ≡ source.Sub r other → lateral ≡ other → QueryMoved m d q r → FromMoved m d f y
    sub_rule f y q r lateral other a b l h = record {
      seen =
          ap (λ x. list_all (sees m) (source_of reading x (out-FromItem f).columns d)) a
          ∙ (ap (λ (u : SourceReads). list_all (sees m) (u (out-FromItem f).columns d)) (eq.of_sub reading q lateral) ∙ h.seen);
      is =
          ap (λ x. part_of (source_of nameless x) (out-FromItem y).columns) b
          ∙ (ap (λ x. part_of x (out-FromItem y).columns) (eq.of_sub nameless r other)
          ∙ ((λ i. roll-FromItem (record { source = source.Sub (h.is i) (sym l i); alias = []; columns = [] }))
          ∙ (sym (ap (λ x. part_of x (out-FromItem f).columns) (eq.of_sub nameless (query_of (moving m) q d) lateral))
          ∙ sym (ap (λ (z : Deep Source). part_of (source_of nameless (z d)) (out-FromItem f).columns) (ap (source_of (moving m)) a ∙ eq.of_sub (moving m) q lateral)))));
    }

    pub query_rule : (q y : Query) → (out-Query q).recursive ≡ None → (out-Query y).recursive ≡ None → Each (SelectMoved m d) (out-Query q).selects (out-Query y).selects → QueryMoved m d q y
    query_rule q y p r h =
        let ss = (out-Query q).selects in
        let ys = (out-Query y).selects in
        let to = map (λ z. z d) (map (λ s. select_of (moving m) s) ss) in
        record {
          seen = ap (λ (u : Reads). list_all (sees m) (u d)) (eq.query_is reading q) ∙ all_seen (SelectMoved m d) (λ s. select_of reading s) (λ s. select_of (moving m) s) (λ s. select_of nameless s) d (λ x y h. h.seen) (λ x y h. h.is) ss ys h;
          is =
              eq.query_is nameless y
              ∙ (ap (λ o. roll-Query (record { recursive = option_map (λ x. recursive_of nameless x) o; selects = map (λ s. select_of nameless s) ys })) r
              ∙ (ap (λ l. roll-Query (record { recursive = None; selects = l })) (all_are (SelectMoved m d) (λ s. select_of reading s) (λ s. select_of (moving m) s) (λ s. select_of nameless s) d (λ x y h. h.seen) (λ x y h. h.is) ss ys h)
              ∙ (sym (eq.query_roll nameless None to)
              ∙ (sym (ap (λ o. query_of nameless (roll-Query (record { recursive = option_map (λ z. z d) (option_map (λ x. recursive_of (moving m) x) o); selects = to }))) p)
              ∙ sym (ap (λ (z : Deep Query). query_of nameless (z d)) (eq.query_is (moving m) q))))));
        }

  pub select_rule : (d : ℕ) (s y : Select) → Each (ItemMoved m (suc d)) (out-Select s).list (out-Select y).list → Each (FromMoved m (suc d)) (out-Select s).from (out-Select y).from
      → Maybe (ExprMoved m (suc d)) (out-Select s).filter (out-Select y).filter → Each (KeyMoved m (suc d)) (out-Select s).order (out-Select y).order
      → Maybe (ExprMoved m (suc d)) (out-Select s).limit (out-Select y).limit → SelectMoved m d s y
  select_rule d s y l f w o k = record {
    seen =
        ap (λ (u : Reads). list_all (sees m) (u d)) (eq.select_is reading s)
        ∙ joined items_read (froms_read ++ (filter_read ++ (order_read ++ limit_read))) (all_seen (ItemMoved m e) (λ x. item_of reading x) (λ x. item_of (moving m) x) (λ x. item_of nameless x) e (λ x y h. h.seen) (λ x y h. h.is) (out-Select s).list (out-Select y).list l)
        (joined froms_read (filter_read ++ (order_read ++ limit_read)) (all_seen (FromMoved m e) (λ x. from_of reading x) (λ x. from_of (moving m) x) (λ x. from_of nameless x) e (λ x y h. h.seen) (λ x y h. h.is) (out-Select s).from (out-Select y).from f)
        (joined filter_read (order_read ++ limit_read) (other_seen e (out-Select s).filter (out-Select y).filter w)
        (joined order_read limit_read (all_seen (KeyMoved m e) (λ x. key_of reading x) (λ x. key_of (moving m) x) (λ x. key_of nameless x) e (λ x y h. h.seen) (λ x y h. h.is) (out-Select s).order (out-Select y).order o)
        (other_seen e (out-Select s).limit (out-Select y).limit k))));
    is =
        eq.select_is nameless y
        ∙ ((λ i. roll-Select (record { list = items i; from = froms i; filter = other_are e (out-Select s).filter (out-Select y).filter w i; order = keys i; limit = other_are e (out-Select s).limit (out-Select y).limit k i }))
        ∙ (sym (eq.of_select nameless (deep (λ x. item_of (moving m) x) (out-Select s).list) (deep (λ x. from_of (moving m) x) (out-Select s).from) (deeper (out-Select s).filter) (deep (λ x. key_of (moving m) x) (out-Select s).order) (deeper (out-Select s).limit))
        ∙ sym (ap (λ (z : Deep Select). select_of nameless (z d)) (eq.select_is (moving m) s))));
  }
    where
      e : ℕ
      e = suc d

      items_read : List Read
      items_read = of_list (suc d) (map (λ x. item_of reading x) (out-Select s).list)

      froms_read : List Read
      froms_read = of_list (suc d) (map (λ x. from_of reading x) (out-Select s).from)

      filter_read : List Read
      filter_read = of_option (suc d) (option_map (λ x. expr_of reading x) (out-Select s).filter)

      order_read : List Read
      order_read = of_list (suc d) (map (λ x. key_of reading x) (out-Select s).order)

      limit_read : List Read
      limit_read = of_option (suc d) (option_map (λ x. expr_of reading x) (out-Select s).limit)

      deep : {A : Type 0} → (A → Deep A) → List A → List A
      deep mv xs = map (λ z. z (suc d)) (map mv xs)

      deeper : Option Expr → Option Expr
      deeper o = option_map (λ z. z (suc d)) (option_map (λ x. expr_of (moving m) x) o)

      items : map (λ x. item_of nameless x) (out-Select y).list ≡ map (λ x. item_of nameless x) (deep (λ x. item_of (moving m) x) (out-Select s).list)
      items = all_are (ItemMoved m (suc d)) (λ x. item_of reading x) (λ x. item_of (moving m) x) (λ x. item_of nameless x) (suc d) (λ x y h. h.seen) (λ x y h. h.is) (out-Select s).list (out-Select y).list l

      froms : map (λ x. from_of nameless x) (out-Select y).from ≡ map (λ x. from_of nameless x) (deep (λ x. from_of (moving m) x) (out-Select s).from)
      froms = all_are (FromMoved m (suc d)) (λ x. from_of reading x) (λ x. from_of (moving m) x) (λ x. from_of nameless x) (suc d) (λ x y h. h.seen) (λ x y h. h.is) (out-Select s).from (out-Select y).from f

      keys : map (λ x. key_of nameless x) (out-Select y).order ≡ map (λ x. key_of nameless x) (deep (λ x. key_of (moving m) x) (out-Select s).order)
      keys = all_are (KeyMoved m (suc d)) (λ x. key_of reading x) (λ x. key_of (moving m) x) (λ x. key_of nameless x) (suc d) (λ x y h. h.seen) (λ x y h. h.is) (out-Select s).order (out-Select y).order o

pub ruleset expr_rules = (int_rule, str_rule, bool_rule, null_rule, count_rule, slot_rule, column_rule)

pub ruleset part_rules = (neg_rule, negsmall_rule, not_rule, is_rule, cast_rule, scalar_rule, exists_rule)

pub ruleset parts_rules = (chain_rule, compare_rule, between_rule, oneof_rule, cases_rule, call_rule)

pub ruleset from_rules = (table_rule, sub_rule)
