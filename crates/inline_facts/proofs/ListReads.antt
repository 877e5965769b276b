-- With slots in the places of its calls a list reads these slots and tables of the schema, where it reads tables of the schema with NULLs there.
use Rattle.std.proofs.Common.{◌≡◌, refl, sym, ap, subst, ◌∙◌, ℕ, ◌+◌, ◌<◌, ◌≤◌, Bool, true, false, ◌||◌, nat_lt, List, [], ◌∷◌, ◌++◌, map, length, Option, Some, None, option_map, arith}
use Rattle.std.proofs.lemmas.Bool.Decides.{nat_tests}
use Rattle.std.specs.Prelude.{bytes_eq, flat_map}
use Rattle.std.specs.List.{list_any}
use Rattle.away_values.specs.declared.types.Ty.{Ty}
use Rattle.away_values.specs.declared.operators.ChainOp.{ChainOp}
use Rattle.away_trees.specs.Algebra.{Algebra, head_or, expr_of, exprs_of, links_of, arms_of, other_of}
use Rattle.away_trees.specs.declared.queries.Expr.{Expr}
use Rattle.away_trees.specs.declared.queries.Expr.TheBlock as b
use Rattle.away_trees.specs.declared.queries.Expr.TheVariants as expr
use Rattle.away_trees.proofs.Equations as eq
use Rattle.away_names.specs.Lookups.{Name, Scope}
use Rattle.away_names.specs.Naming as n
use Rattle.away_names.specs.Naming.{naming}
use Rattle.away_names.specs.Notes.{each, held}
use Rattle.moved_names.specs.Words.{exprs_in}
use Rattle.sql_meaning.specs.Reads.{Read, Slot, Param, Table, Outer, Reads, of_list, of_option, reading}
use Rattle.sql_meaning.specs.Trees.{null_of}
use Rattle.type_soundness.specs.Sorts.{Every}
use Rattle.type_soundness.proofs.Lists.{every_append, every_left, every_right}
use Rattle.inline_law.specs.Answers.{within}
use Rattle.inline_law.specs.Moved.{moving, same_column}
use Rattle.inline_calls.specs.Parting.{Calls, Parted, called, over, part, part_all, part_arms, part_first, part_links, part_other, then_with, whole}
use Rattle.inline_facts.specs.Slots.{any, maybe, slotting}
use Rattle.inline_facts.proofs.NamedAggregates.{each_is}
use Rattle.inline_facts.proofs.Reading.{IsPlain}
use Rattle.inline_facts.proofs.Stays.{left, right, stays}

-- ---- what a resolved expression reads, by its parts

abbrev pub reads_in : Scope → ℕ → Expr → List Read
reads_in s d e = expr_of reading ((expr_of naming e).judge s).it d

abbrev named : Scope → Expr → Expr
named s e = ((expr_of naming e).judge s).it

module _ (s : Scope) (d : ℕ) where
  abbrev R : Expr → List Read
  R = reads_in s d

  by : {x y : n.Term} → x ≡ y → expr_of reading (x.judge s).it d ≡ expr_of reading (y.judge s).it d
  by h = ap (λ (t : n.Term). expr_of reading (t.judge s).it d) h

  at : {x y : Reads} → x ≡ y → x d ≡ y d
  at h = ap (λ (r : Reads). r d) h

  of_all : (es : List Expr) → of_list d (map (λ e. expr_of reading e) (each (λ (t : n.Term). t.judge s) (map (λ e. expr_of naming e) es)).it) ≡ flat_map R es
  of_all es = ap (λ xs. of_list d (map (λ e. expr_of reading e) xs)) (each_is (λ (t : n.Term). t.judge s) (map (λ e. expr_of naming e) es)) ∙ go es
    where
      go : (es : List Expr) → of_list d (map (λ e. expr_of reading e) (map (λ (t : n.Term). (t.judge s).it) (map (λ e. expr_of naming e) es))) ≡ flat_map R es
      go [] = refl
      go (e ∷ es) = ap (λ rs. R e ++ rs) (go es)

  abbrev of_links : List (ChainOp × Expr) → List Read
  of_links ls = flat_map (λ (l : ChainOp × Expr). R l.1) ls

  abbrev of_arms : List (Expr × Expr) → List Read
  of_arms as_ = flat_map (λ (a : Expr × Expr). R a.0 ++ R a.1) as_

  abbrev of_maybe : Option Expr → List Read
  of_maybe None = []
  of_maybe (Some e) = R e

  chain_is : (e : Expr) (ls : List (ChainOp × Expr)) → R (expr.Chain e ls) ≡ R e ++ of_links ls
  chain_is e ls =
      by (eq.of_chain naming e ls) ∙ (at (eq.of_chain reading (named s e) (each (n.linked s) (map (λ l. eq.link_of naming l) ls)).it)
      ∙ ap (λ rs. R e ++ rs) (ap (λ xs. flat_map (λ (l : ChainOp × Reads). l.1 d) (map (λ l. eq.link_of reading l) xs)) (each_is (n.linked s) (map (λ l. eq.link_of naming l) ls)) ∙ go ls))
    where
      go : (ls : List (ChainOp × Expr)) → flat_map (λ (l : ChainOp × Reads). l.1 d) (map (λ l. eq.link_of reading l) (map (λ (l : ChainOp × n.Term). (n.linked s l).it) (map (λ l. eq.link_of naming l) ls))) ≡ of_links ls
      go [] = refl
      go (l ∷ ls) = ap (λ rs. R l.1 ++ rs) (go ls)

  cases_is : (as_ : List (Expr × Expr)) (o : Option Expr) → R (expr.Cases as_ o) ≡ of_arms as_ ++ of_maybe o
  cases_is as_ o =
      by (eq.of_cases naming as_ o) ∙ (at (eq.of_cases reading (each (n.armed s) (map (λ a. eq.arm_of naming a) as_)).it (held (λ (t : n.Term). t.judge s) (option_map (λ e. expr_of naming e) o)).it)
      ∙ (λ i. (ap (λ xs. flat_map (λ (a : Reads × Reads). a.0 d ++ a.1 d) (map (λ a. eq.arm_of reading a) xs)) (each_is (n.armed s) (map (λ a. eq.arm_of naming a) as_)) ∙ go as_) i ++ other o i))
    where
      go : (as_ : List (Expr × Expr)) → flat_map (λ (a : Reads × Reads). a.0 d ++ a.1 d) (map (λ a. eq.arm_of reading a) (map (λ (a : n.Term × n.Term). (n.armed s a).it) (map (λ a. eq.arm_of naming a) as_))) ≡ of_arms as_
      go [] = refl
      go (a ∷ as_) = ap (λ rs. (R a.0 ++ R a.1) ++ rs) (go as_)

      other : (o : Option Expr) → of_option d (option_map (λ e. expr_of reading e) (held (λ (t : n.Term). t.judge s) (option_map (λ e. expr_of naming e) o)).it) ≡ of_maybe o
      other None = refl
      other (Some e) = refl

  one_of_is : (v : Bool) (e : Expr) (es : List Expr) → R (expr.OneOf v e es) ≡ R e ++ flat_map R es
  one_of_is v e es =
      by (eq.of_oneof naming v e es) ∙ (at (eq.of_oneof reading v (named s e) (each (λ (t : n.Term). t.judge s) (map (λ e. expr_of naming e) es)).it) ∙ ap (λ rs. R e ++ rs) (of_all es))

  call_is : (name : Name) (es : List Expr) → R (expr.Call name es) ≡ flat_map R es
  call_is name es = by (eq.of_call naming name es) ∙ (at (eq.of_call reading name (each (λ (t : n.Term). t.judge s) (map (λ e. expr_of naming e) es)).it) ∙ of_all es)

  compare_is : (op : _) (x y : Expr) → R (expr.Compare op x y) ≡ R x ++ R y
  compare_is op x y = by (eq.of_compare naming op x y) ∙ at (eq.of_compare reading op (named s x) (named s y))

  between_is : (v : Bool) (x y z : Expr) → R (expr.Between v x y z) ≡ R x ++ (R y ++ R z)
  between_is v x y z = by (eq.of_between naming v x y z) ∙ at (eq.of_between reading v (named s x) (named s y) (named s z))

  slot_is : (i : ℕ) → R (expr.Slot i) ≡ Slot i ∷ []
  unfolding n.unwritten
  slot_is i = refl

-- ---- good expressions

module _ (t : Ty) (total tables : ℕ) where
  abbrev pub null : Expr → Expr
  null e = expr_of (moving (λ d i. null_of t) same_column) e 0

  abbrev pub IsIn : Read → Type 0
  IsIn r = within total tables r ≡ true

  abbrev pub Good : Expr → Type 0
  Good e = (s : Scope) (d : ℕ) → Every (IsPlain tables) (reads_in s d (null e)) → Every IsIn (reads_in s d e)

  is_below : (k n : ℕ) → k < n → nat_lt k n ≡ true
  is_below k n h = grind (arith, nat_tests)

  plain_in : (rs : List Read) → Every (IsPlain tables) rs → Every IsIn rs
  plain_in [] h = tt
  plain_in (Slot i ∷ rs) h = absurd h.0
  plain_in (Param i ∷ rs) h = (refl, plain_in rs h.1)
  plain_in (Table k ∷ rs) h = (is_below k tables h.0, plain_in rs h.1)
  plain_in (Outer c ∷ rs) h = (refl, plain_in rs h.1)

  leaf_good : (e : Expr) → null e ≡ e → Good e
  leaf_good e h s d g = plain_in (reads_in s d e) (subst (λ e. Every (IsPlain tables) (reads_in s d e)) h g)

  slot_good : (i : ℕ) → i < total → Good (expr.Slot i)
  slot_good i l s d g = subst (Every IsIn) (sym (slot_is s d i)) (is_below i total l, tt)

  two_good : (ps qs xs ys : List Read) → (Every (IsPlain tables) ps → Every IsIn xs) → (Every (IsPlain tables) qs → Every IsIn ys) → Every (IsPlain tables) (ps ++ qs) → Every IsIn (xs ++ ys)
  two_good ps qs xs ys h k g = every_append IsIn xs ys (h (every_left (IsPlain tables) ps qs g)) (k (every_right (IsPlain tables) ps qs g))

  abbrev m : Algebra
  m = moving (λ d i. null_of t) same_column

  by_reads : (e z : Expr) (s : Scope) (d : ℕ) (ps xs : List Read) → null e ≡ z → reads_in s d z ≡ ps → reads_in s d e ≡ xs → (Every (IsPlain tables) ps → Every IsIn xs) → Every (IsPlain tables) (reads_in s d (null e)) → Every IsIn (reads_in s d e)
  by_reads e z s d ps xs h k l go g = subst (Every IsIn) (sym l) (go (subst (Every (IsPlain tables)) k (subst (λ z. Every (IsPlain tables) (reads_in s d z)) h g)))

  neg_good : (e : Expr) → Good e → Good (expr.Neg e)
  neg_good e h s d = by_reads (expr.Neg e) (expr.Neg (null e)) s d _ _ (ap (λ f. f 0) (eq.of_neg m e)) (by s d (eq.of_neg naming (null e)) ∙ at s d (eq.of_neg reading (named s (null e)))) (by s d (eq.of_neg naming e) ∙ at s d (eq.of_neg reading (named s e))) (h s d)

  neg_small_good : (e : Expr) → Good e → Good (expr.NegSmall e)
  neg_small_good e h s d = by_reads (expr.NegSmall e) (expr.NegSmall (null e)) s d _ _ (ap (λ f. f 0) (eq.of_negsmall m e)) (by s d (eq.of_negsmall naming (null e)) ∙ at s d (eq.of_negsmall reading (named s (null e)))) (by s d (eq.of_negsmall naming e) ∙ at s d (eq.of_negsmall reading (named s e))) (h s d)

  not_good : (e : Expr) → Good e → Good (expr.Not e)
  not_good e h s d = by_reads (expr.Not e) (expr.Not (null e)) s d _ _ (ap (λ f. f 0) (eq.of_not m e)) (by s d (eq.of_not naming (null e)) ∙ at s d (eq.of_not reading (named s (null e)))) (by s d (eq.of_not naming e) ∙ at s d (eq.of_not reading (named s e))) (h s d)

  is_good : (e : Expr) (test : _) (v : Bool) → Good e → Good (expr.Is e test v)
  is_good e test v h s d = by_reads (expr.Is e test v) (expr.Is (null e) test v) s d _ _ (ap (λ f. f 0) (eq.of_is m e test v)) (by s d (eq.of_is naming (null e) test v) ∙ at s d (eq.of_is reading (named s (null e)) test v)) (by s d (eq.of_is naming e test v) ∙ at s d (eq.of_is reading (named s e) test v)) (h s d)

  cast_good : (e : Expr) (ty : Ty) → Good e → Good (expr.Cast e ty)
  cast_good e ty h s d = by_reads (expr.Cast e ty) (expr.Cast (null e) ty) s d _ _ (ap (λ f. f 0) (eq.of_cast m e ty)) (by s d (eq.of_cast naming (null e) ty) ∙ at s d (eq.of_cast reading (named s (null e)) ty)) (by s d (eq.of_cast naming e ty) ∙ at s d (eq.of_cast reading (named s e) ty)) (h s d)

  compare_good : (op : _) (x y : Expr) → Good x → Good y → Good (expr.Compare op x y)
  compare_good op x y h k s d = by_reads (expr.Compare op x y) (expr.Compare op (null x) (null y)) s d _ _ (ap (λ f. f 0) (eq.of_compare m op x y)) (compare_is s d op (null x) (null y)) (compare_is s d op x y) (two_good _ _ _ _ (h s d) (k s d))

  between_good : (v : Bool) (x y z : Expr) → Good x → Good y → Good z → Good (expr.Between v x y z)
  between_good v x y z h k l s d = by_reads (expr.Between v x y z) (expr.Between v (null x) (null y) (null z)) s d _ _ (ap (λ f. f 0) (eq.of_between m v x y z)) (between_is s d v (null x) (null y) (null z)) (between_is s d v x y z) (two_good _ _ _ _ (h s d) (two_good _ _ _ _ (k s d) (l s d)))

  -- ---- nodes with lists

  abbrev pub AllGood : List Expr → Type 0
  AllGood = Every Good

  abbrev LinksGood : List (ChainOp × Expr) → Type 0
  LinksGood = Every (λ (l : ChainOp × Expr). Good l.1)

  abbrev ArmGood : Expr × Expr → Type 0
  ArmGood a = Good a.0 × Good a.1

  abbrev MaybeGood : Option Expr → Type 0
  MaybeGood None = Unit {0}
  MaybeGood (Some e) = Good e

  abbrev nulls : List Expr → List Expr
  nulls es = map (λ (f : ℕ → Expr). f 0) (map (λ e. expr_of m e) es)

  abbrev null_links : List (ChainOp × Expr) → List (ChainOp × Expr)
  null_links ls = map {B = ChainOp × Expr} (λ (l : ChainOp × (ℕ → Expr)). (l.0, l.1 0)) (map (λ l. eq.link_of m l) ls)

  abbrev null_arms : List (Expr × Expr) → List (Expr × Expr)
  null_arms as_ = map {B = Expr × Expr} (λ (a : (ℕ → Expr) × (ℕ → Expr)). (a.0 0, a.1 0)) (map (λ a. eq.arm_of m a) as_)

  abbrev null_maybe : Option Expr → Option Expr
  null_maybe o = option_map (λ (f : ℕ → Expr). f 0) (option_map (λ e. expr_of m e) o)

  module _ (s : Scope) (d : ℕ) where
    all_in : (es : List Expr) → AllGood es → Every (IsPlain tables) (flat_map (reads_in s d) (nulls es)) → Every IsIn (flat_map (reads_in s d) es)
    all_in [] h g = tt
    all_in (e ∷ es) h g = two_good (reads_in s d (null e)) (flat_map (reads_in s d) (nulls es)) (reads_in s d e) (flat_map (reads_in s d) es) (h.0 s d) (all_in es h.1) g

    links_in : (ls : List (ChainOp × Expr)) → LinksGood ls → Every (IsPlain tables) (of_links s d (null_links ls)) → Every IsIn (of_links s d ls)
    links_in [] h g = tt
    links_in (l ∷ ls) h g = two_good (reads_in s d (null l.1)) (of_links s d (null_links ls)) (reads_in s d l.1) (of_links s d ls) (h.0 s d) (links_in ls h.1) g

    arms_in : (as_ : List (Expr × Expr)) → Every ArmGood as_ → Every (IsPlain tables) (of_arms s d (null_arms as_)) → Every IsIn (of_arms s d as_)
    arms_in [] h g = tt
    arms_in (a ∷ as_) h g =
        two_good (reads_in s d (null a.0) ++ reads_in s d (null a.1)) (of_arms s d (null_arms as_)) (reads_in s d a.0 ++ reads_in s d a.1) (of_arms s d as_)
        (two_good (reads_in s d (null a.0)) (reads_in s d (null a.1)) (reads_in s d a.0) (reads_in s d a.1) (h.0.0 s d) (h.0.1 s d)) (arms_in as_ h.1) g

    maybe_in : (o : Option Expr) → MaybeGood o → Every (IsPlain tables) (of_maybe s d (null_maybe o)) → Every IsIn (of_maybe s d o)
    maybe_in None h g = tt
    maybe_in (Some e) h g = h s d g

  chain_good : (e : Expr) (ls : List (ChainOp × Expr)) → Good e → LinksGood ls → Good (expr.Chain e ls)
  chain_good e ls h k s d = by_reads (expr.Chain e ls) (expr.Chain (null e) (null_links ls)) s d _ _ (ap (λ f. f 0) (eq.of_chain m e ls)) (chain_is s d (null e) (null_links ls)) (chain_is s d e ls) (two_good _ _ _ _ (h s d) (links_in s d ls k))

  one_of_good : (v : Bool) (e : Expr) (es : List Expr) → Good e → AllGood es → Good (expr.OneOf v e es)
  one_of_good v e es h k s d = by_reads (expr.OneOf v e es) (expr.OneOf v (null e) (nulls es)) s d _ _ (ap (λ f. f 0) (eq.of_oneof m v e es)) (one_of_is s d v (null e) (nulls es)) (one_of_is s d v e es) (two_good _ _ _ _ (h s d) (all_in s d es k))

  call_good : (name : Name) (es : List Expr) → AllGood es → Good (expr.Call name es)
  call_good name es k s d = by_reads (expr.Call name es) (expr.Call name (nulls es)) s d _ _ (ap (λ f. f 0) (eq.of_call m name es)) (call_is s d name (nulls es)) (call_is s d name es) (all_in s d es k)

  cases_good : (as_ : List (Expr × Expr)) (o : Option Expr) → Every ArmGood as_ → MaybeGood o → Good (expr.Cases as_ o)
  cases_good as_ o h k s d = by_reads (expr.Cases as_ o) (expr.Cases (null_arms as_) (null_maybe o)) s d _ _ (ap (λ f. f 0) (eq.of_cases m as_ o)) (cases_is s d (null_arms as_) (null_maybe o)) (cases_is s d as_ o) (two_good _ _ _ _ (arms_in s d as_ h) (maybe_in s d o k))

  -- ---- with slots in the places of calls

  pub record Kept {A : Type 0} (P : A → Type 0) (cs : Calls) (r : Parted A) : Type 0 where
    pub more : Calls
    pub calls_are : r.calls ≡ cs ++ more
    pub it : length r.calls ≤ total → P r.it

  nothing_behind : {A : Type 0} (xs : List A) → xs ≡ xs ++ []
  nothing_behind [] = refl
  nothing_behind (x ∷ xs) = ap (λ l. x ∷ l) (nothing_behind xs)

  one_more : {A : Type 0} (xs ys zs : List A) → (xs ++ ys) ++ zs ≡ xs ++ (ys ++ zs)
  one_more [] ys zs = refl
  one_more (x ∷ xs) ys zs = ap (λ l. x ∷ l) (one_more xs ys zs)

  long : {A : Type 0} (xs ys : List A) → length (xs ++ ys) ≡ length xs + length ys
  long [] ys = omega arith
  long (x ∷ xs) ys = let l = long xs ys in omega (arith, l)

  shorter : {A : Type 0} (xs ys : List A) → length (xs ++ ys) ≤ total → length xs ≤ total
  shorter xs ys h = let l : length xs + length ys ≤ total = subst (λ n. n ≤ total) (long xs ys) h in omega (arith, l)

  pub unchanged : {A : Type 0} (P : A → Type 0) (x : A) (cs : Calls) → P x → Kept P cs (whole x cs)
  unchanged P x cs h = record { more = []; calls_are = nothing_behind cs; it = λ l. h }

  pub kept_over : {A B : Type 0} (P : A → Type 0) (Q : B → Type 0) (g : A → B) → ((x : A) → P x → Q (g x)) → (cs : Calls) (r : Parted A) → Kept P cs r → Kept Q cs (over g r)
  kept_over P Q g go cs r h = record { more = h.more; calls_are = h.calls_are; it = λ l. go r.it (h.it l) }

  pub kept_then : {A B C : Type 0} (P : A → Type 0) (Q : B → Type 0) (R : C → Type 0) (g : A → B → C) → ((x : A) (y : B) → P x → Q y → R (g x y)) → (cs : Calls) (r : Parted A) (q : Calls → Parted B)
      → Kept P cs r → ((ds : Calls) → Kept Q ds (q ds)) → Kept R cs (then_with g r q)
  kept_then P Q R g go cs r q h k =
      let second = k r.calls in
      record {
        more = h.more ++ second.more;
        calls_are = second.calls_are ∙ (ap (λ l. l ++ second.more) h.calls_are ∙ one_more cs h.more second.more);
        it = λ l. go r.it (q r.calls).it (h.it (shorter r.calls second.more (subst (λ xs. length xs ≤ total) second.calls_are l))) (second.it l);
      }

  kept_call : (is : Bool) (args : List Expr) (cs : Calls) (r : Parted Expr) → Kept Good cs r → Kept Good cs (called is args r cs)
  kept_call true args cs r h = record { more = args ∷ []; calls_are = refl; it = λ l. slot_good (length cs) (let k : length cs + 1 ≤ total = subst (λ n. n ≤ total) (long cs (args ∷ [])) l in omega (arith, k)) }
  kept_call false args cs r h = h

  stay : (e : Expr) → expr_of slotting e ≡ false → Good e
  stay e h = leaf_good e (stays (λ d i. null_of t) e h 0)

  stayed : (e : Expr) (cs : Calls) → expr_of slotting e ≡ false → Kept Good cs (whole e cs)
  stayed e cs h = unchanged Good e cs (stay e h)

  abbrev first : {m : _} → b.Row_of-Expr m → Bool
  first es = head_or false (exprs_of slotting es)

  module _ (f : Name) where
    mutual
      pub kept : (e : Expr) (cs : Calls) → expr_of slotting e ≡ false → Kept Good cs (part f e cs)
      kept (b.Int n) cs h = stayed (b.Int n) cs h
      kept (b.Str t) cs h = stayed (b.Str t) cs h
      kept (b.Bool v) cs h = stayed (b.Bool v) cs h
      kept b.Null cs h = stayed b.Null cs h
      kept (b.Named name) cs h = stayed (b.Named name) cs h
      kept (b.Dotted alias name) cs h = stayed (b.Dotted alias name) cs h
      kept (b.Slot i) cs h = stayed (b.Slot i) cs h
      kept (b.Column c) cs h = stayed (b.Column c) cs h
      kept (b.Param i t) cs h = stayed (b.Param i t) cs h
      kept (b.Neg' p e) cs h = kept_over Good Good (λ x. expr.Neg x) neg_good cs _ (kept_first e cs h)
      kept (b.NegSmall' p e) cs h = kept_over Good Good (λ x. expr.NegSmall x) neg_small_good cs _ (kept_first e cs h)
      kept (b.Not' p e) cs h = kept_over Good Good (λ x. expr.Not x) not_good cs _ (kept_first e cs h)
      kept (b.Is' p e test negative) cs h = kept_over Good Good (λ x. expr.Is x test negative) (λ x k. is_good x test negative k) cs _ (kept_first e cs h)
      kept (b.Chain' p e s links) cs h = kept_then Good LinksGood Good (λ x ls. expr.Chain x ls) chain_good cs _ (λ ds. part_links f links ds) (kept_first e cs (left (first e) _ h)) (λ ds. kept_links links ds (right (first e) _ h))
      kept (b.Compare' op p x q y) cs h = kept_then Good Good Good (λ x y. expr.Compare op x y) (compare_good op) cs _ (λ ds. part_first f y ds) (kept_first x cs (left (first x) _ h)) (λ ds. kept_first y ds (right (first x) _ h))
      kept (b.Between' negative p x q y r z) cs h =
          kept_then Good ArmGood Good (λ (x : Expr) (yz : Expr × Expr). expr.Between negative x yz.0 yz.1) (λ x yz k l. between_good negative x yz.0 yz.1 k l.0 l.1) cs _
          (λ ds. then_with (λ y z. (y, z)) (part_first f y ds) (λ es. part_first f z es)) (kept_first x cs (left (first x) _ h))
          (λ ds. kept_then Good Good ArmGood (λ y z. (y, z)) (λ y z k l. (k, l)) ds _ (λ es. part_first f z es) (kept_first y ds (left (first y) _ (right (first x) _ h))) (λ es. kept_first z es (right (first y) _ (right (first x) _ h))))
      kept (b.OneOf' negative p e s choices) cs h = kept_then Good AllGood Good (λ x xs. expr.OneOf negative x xs) (one_of_good negative) cs _ (λ ds. part_all f choices ds) (kept_first e cs (left (first e) _ h)) (λ ds. kept_all choices ds (right (first e) _ h))
      kept (b.Cast' p e t) cs h = kept_over Good Good (λ x. expr.Cast x t) (λ x k. cast_good x t k) cs _ (kept_first e cs h)
      kept (b.Cases' s arms other) cs h =
          kept_then (Every ArmGood) MaybeGood Good (λ xs y. expr.Cases xs y) cases_good cs _ (λ ds. part_other f other ds)
          (kept_arms arms cs (left (list_any (λ (a : Bool × Bool). a.0 || a.1) (arms_of slotting arms)) _ h)) (λ ds. kept_other other ds (right (list_any (λ (a : Bool × Bool). a.0 || a.1) (arms_of slotting arms)) _ h))
      kept (b.Call' name s es) cs h = kept_call (bytes_eq name f) (exprs_in es) cs _ (kept_over AllGood Good (λ xs. expr.Call name xs) (call_good name) cs _ (kept_all es cs h))
      kept b.CountRows cs h = stayed b.CountRows cs h
      kept (b.Scalar' p q) cs h = stayed (b.Scalar' p q) cs h
      kept (b.Exists' p q) cs h = stayed (b.Exists' p q) cs h

      kept_first : {m : _} (es : b.Row_of-Expr m) (cs : Calls) → first es ≡ false → Kept Good cs (part_first f es cs)
      kept_first b.end_of-Expr cs h = unchanged Good expr.Null cs (leaf_good expr.Null refl)
      kept_first (b.more_of-Expr e rest) cs h = kept e cs h

      kept_all : {m : _} (es : b.Row_of-Expr m) (cs : Calls) → any (exprs_of slotting es) ≡ false → Kept AllGood cs (part_all f es cs)
      kept_all b.end_of-Expr cs h = unchanged AllGood [] cs tt
      kept_all (b.more_of-Expr e rest) cs h =
          kept_then Good AllGood AllGood (λ x xs. x ∷ xs) (λ x xs k l. (k, l)) cs _ (λ ds. part_all f rest ds) (kept e cs (left (expr_of slotting e) _ h)) (λ ds. kept_all rest ds (right (expr_of slotting e) _ h))

      kept_links : {m : _} (ls : b.Row_of-Expr-Chain-1-2 m) (cs : Calls) → list_any (λ (l : ChainOp × Bool). l.1) (links_of slotting ls) ≡ false → Kept LinksGood cs (part_links f ls cs)
      kept_links b.end_of-Expr-Chain-1-2 cs h = unchanged LinksGood [] cs tt
      kept_links (b.more_of-Expr-Chain-1-2 op e rest) cs h =
          kept_then Good LinksGood LinksGood (λ (x : Expr) (xs : List (ChainOp × Expr)). (op, x) ∷ xs) (λ x xs k l. (k, l)) cs _ (λ ds. part_links f rest ds) (kept e cs (left (expr_of slotting e) _ h)) (λ ds. kept_links rest ds (right (expr_of slotting e) _ h))

      kept_arms : {m : _} (as_ : b.Row_of-Expr-Cases-0-2 m) (cs : Calls) → list_any (λ (a : Bool × Bool). a.0 || a.1) (arms_of slotting as_) ≡ false → Kept (Every ArmGood) cs (part_arms f as_ cs)
      kept_arms b.end_of-Expr-Cases-0-2 cs h = unchanged (Every ArmGood) [] cs tt
      kept_arms (b.more_of-Expr-Cases-0-2 x y rest) cs h =
          let arm = left (expr_of slotting x || expr_of slotting y) _ h in
          kept_then ArmGood (Every ArmGood) (Every ArmGood) (λ (a : Expr × Expr) (xs : List (Expr × Expr)). a ∷ xs) (λ a xs k l. (k, l)) cs _ (λ ds. part_arms f rest ds)
          (kept_then Good Good ArmGood (λ x y. (x, y)) (λ x y k l. (k, l)) cs _ (λ ds. part f y ds) (kept x cs (left (expr_of slotting x) _ arm)) (λ ds. kept y ds (right (expr_of slotting x) _ arm)))
          (λ ds. kept_arms rest ds (right (expr_of slotting x || expr_of slotting y) _ h))

      kept_other : (o : b.Held-Expr-Cases-1) (cs : Calls) → maybe (other_of slotting o) ≡ false → Kept MaybeGood cs (part_other f o cs)
      kept_other b.Expr-Cases-1-None' cs h = unchanged MaybeGood None cs tt
      kept_other (b.Expr-Cases-1-Some' p e) cs h = kept_over Good MaybeGood (λ x. Some x) (λ x k. k) cs _ (kept_first e cs h)
