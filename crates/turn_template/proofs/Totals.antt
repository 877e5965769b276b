-- What is total has a value in every context, which only the variables decide, and reads the same at each depth.
use Rattle.std.proofs.Common.{◌≡◌, refl, ap, ◌∙◌, subst, ℕ, zero, suc, ◌<◌, ◌^◌, Bool, true, false, not, ◌&&◌, if◌then◌else◌, nat_eq, nat_lt, ℤ, pos, negsuc, List, [], ◌∷◌, ◌++◌, map, Option, Some, None, Ok, Err, arith}
use Rattle.std.specs.Prelude.{int_rem, unsigned_abs, codes}
use Rattle.std.specs.List.{list_all, flat_map}
use Rattle.std.specs.Ordering.{int_eq}
use Rattle.std.proofs.lemmas.Bool.{ltb-true, lt-ltb}
use Rattle.std.proofs.lemmas.Bool.Decides.{nat_tests}
use Rattle.std.proofs.lemmas.Int.{ints, rem_below}
use Rattle.away_trees.specs.declared.queries.Expr.{Expr}
use Rattle.away_trees.specs.declared.queries.Expr.TheOpen as ex
use Rattle.away_trees.specs.Algebra.{expr_of}
use Rattle.away_values.specs.declared.operators.ChainOp.{ChainOp}
use Rattle.away_values.specs.declared.operators.ChainOp.TheVariants as chain
use Rattle.away_values.specs.declared.operators.CmpOp.TheVariants as cmp
use Rattle.away_values.specs.declared.operators.IntOp.TheVariants as int
use Rattle.away_values.specs.declared.types.Ty.{Ty}
use Rattle.away_values.specs.declared.types.Ty.TheVariants as ty
use Rattle.away_values.specs.declared.values.Value.{Value}
use Rattle.away_values.specs.declared.values.Value.TheVariants as val
use Rattle.away_values.specs.Operators.{fits, ranged, int_op, compare, is_true, is_false, is_null, negation, negation_if, conjunction, disjunction, passes, cast, text_of_value}
use Rattle.away_values.specs.Results.{Or, and_then, mapped, class}
use Rattle.sql_meaning.specs.Context.{Context, at}
use Rattle.sql_meaning.specs.Expressions.{ExprMeaning, expr_meaning, answers, link_answers, arm_answers, other_value}
use Rattle.sql_meaning.specs.Meaning.{meaning}
use Rattle.sql_meaning.specs.Parts.{pair, chained, between, among, chosen}
use Rattle.sql_meaning.specs.Reads.{Reads, reading, of_list, of_option, expr_reads}
use Rattle.sql_meaning.proofs.Related.{Alike, AlikeOption, AlikeLink, AlikeArm, Relation, IsKept, expr_related}
use Rattle.sql_meaning.proofs.Uses.{and_first, and_second}
use Rattle.turn_template.specs.Totals.{Sure, is_divisor, link_sure, cast_sure, other_sure, sureness, is_total}

-- its value by the variables, and what it reads
pub record Steady (x : ExprMeaning) (u : Reads) : Type 0 where
  pub worth : List Value → Value
  pub gives : (cx : Context) → x.value cx ≡ Ok (worth cx.env)
  pub same : (d : ℕ) → u d ≡ u 0

-- a literal that divides
pub record Divides (x : ExprMeaning) : Type 0 where
  pub divisor : ℤ
  pub gives : (cx : Context) → x.value cx ≡ Ok (val.Int divisor)
  pub ok : is_divisor divisor ≡ true

pub record Kept (x : ExprMeaning) (u : Reads) (z : Sure) : Type 0 where
  pub steady : z.always ≡ true → Steady x u
  pub divides : z.divides ≡ true → Divides x
  pub same : z.divides ≡ true → (d : ℕ) → u d ≡ u 0

-- what is never sure
unsure : (x : ExprMeaning) (u : Reads) → Kept x u (record { always = false; divides = false })
unsure x u = record { steady = λ h. absurd (cc); divides = λ h. absurd (cc); same = λ h. absurd (cc) }

sure : (x : ExprMeaning) (u : Reads) (b : Bool) → (b ≡ true → Steady x u) → Kept x u (record { always = b; divides = false })
sure x u b h = record { steady = h; divides = λ h. absurd (cc); same = λ h. absurd (cc) }

-- ---- remainders

divisor_is : (n : ℤ) → is_divisor n ≡ true → (0 < unsigned_abs n) × (unsigned_abs n < 2 ^ 63)
divisor_is (pos n) h =
    (positive n (and_first (not (nat_eq n 0)) (nat_lt n (2 ^ 63)) h), ltb-true n (2 ^ 63) (and_second (not (nat_eq n 0)) (nat_lt n (2 ^ 63)) h))
  where
    positive : (n : ℕ) → not (nat_eq n 0) ≡ true → 0 < n
    positive zero h = absurd (cc)
    positive (suc n) h = omega arith
divisor_is (negsuc n) h = absurd (cc)

fits_below : (z : ℤ) → unsigned_abs z < 2 ^ 63 → fits z ≡ true
fits_below (pos n) h = lt-ltb n (2 ^ 63) h
fits_below (negsuc n) h = lt-ltb n (2 ^ 63) (omega (arith, h))

rem_fits : (a n : ℤ) → is_divisor n ≡ true → fits (int_rem a n) ≡ true
rem_fits a n h =
    let d = divisor_is n h in
    let below = rem_below a n d.0 in
    fits_below (int_rem a n) (omega (arith, below, d.1))

no_zero : (n : ℤ) → is_divisor n ≡ true → int_eq n (pos 0) ≡ false
no_zero (pos zero) h = absurd (cc)
no_zero (pos (suc n)) h = grind (arith, ints, nat_tests)
no_zero (negsuc n) h = absurd (cc)

-- the remainder, or NULL
abbrev rem_value : ℤ → Value → Value
rem_value n (val.Int a) = val.Int (int_rem a n)
rem_value n (val.Text t) = val.Null
rem_value n (val.Bool b) = val.Null
rem_value n val.Null = val.Null

rem_is : (n : ℤ) → is_divisor n ≡ true → (v : Value) → int_op int.Rem v (val.Int n) ≡ Ok (rem_value n v)
rem_is n h (val.Int a) =
    ap (λ b. if b then Err (class (codes "22012")) else ranged (int_rem a n)) (no_zero n h)
    ∙ ap (λ b. if b then Ok (val.Int (int_rem a n)) else Err (class (codes "22003"))) (rem_fits a n h)
rem_is n h (val.Text t) = refl
rem_is n h (val.Bool b) = refl
rem_is n h val.Null = refl

-- ---- AND, OR

abbrev and_value : Value → Value → Value
and_value u v = if is_false u then val.Bool false else conjunction u v

abbrev or_value : Value → Value → Value
or_value u v = if is_true u then val.Bool true else disjunction u v

if_ok : (b : Bool) (v w : Value) → (if b then Ok v else mapped (λ z. z) (Ok w)) ≡ Ok (if b then v else w)
if_ok true v w = refl
if_ok false v w = refl

and_is : (u v : Value) → pair chain.And u (Ok v) ≡ Ok (and_value u v)
and_is u v = if_ok (is_false u) (val.Bool false) (conjunction u v)

or_is : (u v : Value) → pair chain.Or u (Ok v) ≡ Ok (or_value u v)
or_is u v = if_ok (is_true u) (val.Bool true) (disjunction u v)

-- ---- links

-- what a link makes of the value before it
pub record Links (op : ChainOp) (x : ExprMeaning) (u : Reads) : Type 0 where
  pub makes : List Value → Value → Value
  pub gives : (cx : Context) (v : Value) → pair op v (x.value cx) ≡ Ok (makes cx.env v)
  pub same : (d : ℕ) → u d ≡ u 0

link_kept : (op : ChainOp) (x : ExprMeaning) (u : Reads) (z : Sure) → Kept x u z → link_sure op z ≡ true → Links op x u
link_kept chain.And x u z k h =
    let is = k.steady h in
    record { makes = λ env v. and_value v (is.worth env); gives = λ cx v. ap (pair chain.And v) (is.gives cx) ∙ and_is v (is.worth cx.env); same = is.same }
link_kept chain.Or x u z k h =
    let is = k.steady h in
    record { makes = λ env v. or_value v (is.worth env); gives = λ cx v. ap (pair chain.Or v) (is.gives cx) ∙ or_is v (is.worth cx.env); same = is.same }
link_kept chain.Concat x u z k h = absurd (cc)
link_kept (chain.Int int.Add) x u z k h = absurd (cc)
link_kept (chain.Int int.Sub) x u z k h = absurd (cc)
link_kept (chain.Int int.Mul) x u z k h = absurd (cc)
link_kept (chain.Int int.Div) x u z k h = absurd (cc)
link_kept (chain.Int int.Rem) x u z k h =
    let is = k.divides h in
    record {
      makes = λ env v. rem_value is.divisor v;
      gives = λ cx v. ap (pair (chain.Int int.Rem) v) (is.gives cx) ∙ rem_is is.divisor is.ok v;
      same = k.same h;
    }
link_kept (chain.Small op) x u z k h = absurd (cc)

-- several, one after the other
pub record Chained (xs : List (ChainOp × ExprMeaning)) (us : List (ChainOp × Reads)) : Type 0 where
  pub makes : List Value → Value → Value
  pub gives : (cx : Context) (v : Value) → chained (link_answers cx xs) v ≡ Ok (makes cx.env v)
  pub same : (d : ℕ) → flat_map (λ (l : ChainOp × Reads). l.1 d) us ≡ flat_map (λ (l : ChainOp × Reads). l.1 0) us

links_kept : (xs : List (ChainOp × ExprMeaning)) (us : List (ChainOp × Reads)) (zs : List (ChainOp × Sure)) → Alike (AlikeLink Kept) xs us zs
    → list_all (λ (l : ChainOp × Sure). link_sure l.0 l.1) zs ≡ true → Chained xs us
links_kept [] [] [] r h = record { makes = λ env v. v; gives = λ cx v. refl; same = λ d. refl }
links_kept (x ∷ xs) (u ∷ us) (z ∷ zs) r h =
    let one = link_kept x.0 x.1 u.1 z.1 r.0.2 (subst (λ op. link_sure op z.1 ≡ true) r.0.1 (and_first (link_sure z.0 z.1) _ h)) in
    let rest = links_kept xs us zs r.1 (and_second (link_sure z.0 z.1) _ h) in
    record {
      makes = λ env v. rest.makes env (one.makes env v);
      gives = λ cx v. ap (λ o. and_then o (chained (link_answers cx xs))) (one.gives cx v) ∙ rest.gives cx (one.makes cx.env v);
      same = λ d i. one.same d i ++ rest.same d i;
    }
links_kept [] [] (z ∷ zs) r h = absurd r
links_kept [] (u ∷ us) zs r h = absurd r
links_kept (x ∷ xs) [] zs r h = absurd r
links_kept (x ∷ xs) (u ∷ us) [] r h = absurd r

-- ---- lists

pub record AllSteady (xs : List ExprMeaning) (us : List Reads) : Type 0 where
  pub worths : List Value → List Value
  pub gives : (cx : Context) → answers cx xs ≡ map (λ v. Ok v) (worths cx.env)
  pub same : (d : ℕ) → of_list d us ≡ of_list 0 us

all_kept : (xs : List ExprMeaning) (us : List Reads) (zs : List Sure) → Alike Kept xs us zs → list_all (λ (z : Sure). z.always) zs ≡ true → AllSteady xs us
all_kept [] [] [] r h = record { worths = λ env. []; gives = λ cx. refl; same = λ d. refl }
all_kept (x ∷ xs) (u ∷ us) (z ∷ zs) r h =
    let one = r.0.steady (and_first z.always _ h) in
    let rest = all_kept xs us zs r.1 (and_second z.always _ h) in
    record { worths = λ env. one.worth env ∷ rest.worths env; gives = λ cx i. one.gives cx i ∷ rest.gives cx i; same = λ d i. one.same d i ++ rest.same d i }
all_kept [] [] (z ∷ zs) r h = absurd r
all_kept [] (u ∷ us) zs r h = absurd r
all_kept (x ∷ xs) [] zs r h = absurd r
all_kept (x ∷ xs) (u ∷ us) [] r h = absurd r

-- among values
abbrev among_value : Value → List Value → Value → Value
among_value v [] so_far = so_far
among_value v (w ∷ ws) so_far = if is_true (compare cmp.Eq v w) then val.Bool true else among_value v ws (if is_null (compare cmp.Eq v w) then val.Null else so_far)

among_is : (v : Value) (ws : List Value) (so_far : Value) → among v (map (λ v. Ok v) ws) so_far ≡ Ok (among_value v ws so_far)
among_is v [] so_far = refl
among_is v (w ∷ ws) so_far = by (is_true (compare cmp.Eq v w)) (among_is v ws (if is_null (compare cmp.Eq v w) then val.Null else so_far))
  where
    by : (b : Bool) → among v (map (λ v. Ok v) ws) (if is_null (compare cmp.Eq v w) then val.Null else so_far)
        ≡ Ok (among_value v ws (if is_null (compare cmp.Eq v w) then val.Null else so_far))
        → (if b then Ok (val.Bool true) else among v (map (λ v. Ok v) ws) (if is_null (compare cmp.Eq v w) then val.Null else so_far))
        ≡ Ok (if b then val.Bool true else among_value v ws (if is_null (compare cmp.Eq v w) then val.Null else so_far))
    by true h = refl
    by false h = h

between_is : (v l h : Value) → between v l (Ok h) ≡ Ok (if is_false (compare cmp.Ge v l) then val.Bool false else conjunction (compare cmp.Ge v l) (compare cmp.Le v h))
between_is v l h = if_ok (is_false (compare cmp.Ge v l)) (val.Bool false) (conjunction (compare cmp.Ge v l) (compare cmp.Le v h))

-- ---- CASE

abbrev if_ok_or : Bool → Value → Value → Or Value
if_ok_or b v w = if b then Ok v else Ok w

chosen_ok : (b : Bool) (v w : Value) → if_ok_or b v w ≡ Ok (if b then v else w)
chosen_ok true v w = refl
chosen_ok false v w = refl

pub record Cased (other : Context → Or Value) (xs : List (ExprMeaning × ExprMeaning)) (us : List (Reads × Reads)) : Type 0 where
  pub worth : List Value → Value
  pub gives : (cx : Context) → chosen (other cx) (arm_answers cx xs) ≡ Ok (worth cx.env)
  pub same : (d : ℕ) → flat_map (λ (a : Reads × Reads). a.0 d ++ a.1 d) us ≡ flat_map (λ (a : Reads × Reads). a.0 0 ++ a.1 0) us

arms_kept : (other : Context → Or Value) (last : List Value → Value) → ((cx : Context) → other cx ≡ Ok (last cx.env)) → (xs : List (ExprMeaning × ExprMeaning))
    (us : List (Reads × Reads)) (zs : List (Sure × Sure)) → Alike (AlikeArm Kept) xs us zs
    → list_all (λ (a : Sure × Sure). a.0.always && a.1.always) zs ≡ true → Cased other xs us
arms_kept other last is [] [] [] r h = record { worth = last; gives = is; same = λ d. refl }
arms_kept other last is (x ∷ xs) (u ∷ us) (z ∷ zs) r h =
    let both_ = and_first (z.0.always && z.1.always) _ h in
    let test = r.0.0.steady (and_first z.0.always z.1.always both_) in
    let arm = r.0.1.steady (and_second z.0.always z.1.always both_) in
    let rest = arms_kept other last is xs us zs r.1 (and_second (z.0.always && z.1.always) _ h) in
    record {
      worth = λ env. if is_true (test.worth env) then arm.worth env else rest.worth env;
      gives = λ cx.
          (λ i. and_then (test.gives cx i) (λ b. if is_true b then arm.gives cx i else rest.gives cx i))
          ∙ chosen_ok (is_true (test.worth cx.env)) (arm.worth cx.env) (rest.worth cx.env);
      same = λ d i. (test.same d i ++ arm.same d i) ++ rest.same d i;
    }
arms_kept other last is [] [] (z ∷ zs) r h = absurd r
arms_kept other last is [] (u ∷ us) zs r h = absurd r
arms_kept other last is (x ∷ xs) [] zs r h = absurd r
arms_kept other last is (x ∷ xs) (u ∷ us) [] r h = absurd r

-- ---- the steps

pub record Othered (x : Option ExprMeaning) (u : Option Reads) : Type 0 where
  pub worth : List Value → Value
  pub gives : (cx : Context) → other_value cx x ≡ Ok (worth cx.env)
  pub same : (d : ℕ) → of_option d u ≡ of_option 0 u

-- a cast that can't fault
abbrev cast_value : Ty → Value → Value
cast_value ty.Bigint v = v
cast_value ty.Boolean v = v
cast_value ty.Integer v = v
cast_value ty.Text val.Null = val.Null
cast_value ty.Text v = val.Text (text_of_value v)

cast_is : (t : Ty) → cast_sure t ≡ true → (v : Value) → cast t v ≡ Ok (cast_value t v)
cast_is ty.Bigint h v = refl
cast_is ty.Boolean h v = refl
cast_is ty.Integer h v = absurd (cc)
cast_is ty.Text h (val.Int n) = refl
cast_is ty.Text h (val.Bool b) = refl
cast_is ty.Text h (val.Text t) = refl
cast_is ty.Text h val.Null = refl

abbrev relation : Relation meaning reading sureness
relation =
    record {
      Exprs = Kept;
      Sources = λ x u z. Unit {0};
      Froms = λ x u z. Unit {0};
      Items = λ x u z. Unit {0};
      Keys = λ x u z. Unit {0};
      Queries = λ x u z. Unit {0};
      Recursives = λ x u z. Unit {0};
      Selects = λ x u z. Unit {0};
    }

-- one operand
of_one : (f : Value → Value) (y : ExprMeaning) (x : ExprMeaning) (u : Reads) (z : Sure) → ((cx : Context) → y.value cx ≡ mapped f (x.value cx)) → Kept x u z
    → Kept y u (record { always = z.always; divides = false })
of_one f y x u z e k = sure y u z.always (λ h.
    let is = k.steady h in
    record { worth = λ env. f (is.worth env); gives = λ cx. e cx ∙ ap (mapped f) (is.gives cx); same = is.same })

other_kept : (x : Option ExprMeaning) (u : Option Reads) (z : Option Sure) → AlikeOption Kept x u z → other_sure z ≡ true → Othered x u
other_kept None None None r h = record { worth = λ env. val.Null; gives = λ cx. refl; same = λ d. refl }
other_kept (Some x) (Some u) (Some z) r h = let is = r.steady h in record { worth = is.worth; gives = is.gives; same = is.same }
other_kept None None (Some z) r h = absurd r
other_kept None (Some u) z r h = absurd r
other_kept (Some x) None z r h = absurd r
other_kept (Some x) (Some u) None r h = absurd r

steps : IsKept meaning reading sureness relation
steps =
    record {
      no_expr = unsure _ _;
      no_query = tt;
      int = λ n. record {
        steady = λ h. record { worth = λ env. val.Int n; gives = λ cx. refl; same = λ d. refl };
        divides = λ h. record { divisor = n; gives = λ cx. refl; ok = h };
        same = λ h d. refl;
      };
      str = λ t. sure _ _ true (λ h. record { worth = λ env. val.Text t; gives = λ cx. refl; same = λ d. refl });
      bool = λ v. sure _ _ true (λ h. record { worth = λ env. val.Bool v; gives = λ cx. refl; same = λ d. refl });
      null = sure _ _ true (λ h. record { worth = λ env. val.Null; gives = λ cx. refl; same = λ d. refl });
      named = λ t. unsure _ _;
      qualified = λ t s. unsure _ _;
      slot = λ i. sure _ _ true (λ h. record { worth = λ env. at env i; gives = λ cx. refl; same = λ d. refl });
      column = λ c. unsure _ _;
      param = λ i t. unsure _ _;
      neg = λ x u z k. unsure _ _;
      neg_small = λ x u z k. unsure _ _;
      not = λ x u z k. of_one negation (expr_meaning (ex.Not x)) x u z (λ cx. refl) k;
      is = λ x u z t v k. of_one (λ w. negation_if v (val.Bool (passes t w))) (expr_meaning (ex.Is x t v)) x u z (λ cx. refl) k;
      chain = λ x u z xs us zs k r. sure (expr_meaning (ex.Chain x xs)) (expr_reads (ex.Chain u us)) (z.always && list_all (λ (l : ChainOp × Sure). link_sure l.0 l.1) zs) (λ h.
          let is = k.steady (and_first z.always _ h) in
          let links = links_kept xs us zs r (and_second z.always _ h) in
          record {
            worth = λ env. links.makes env (is.worth env);
            gives = λ cx. ap (λ o. and_then o (chained (link_answers cx xs))) (is.gives cx) ∙ links.gives cx (is.worth cx.env);
            same = λ d i. is.same d i ++ links.same d i;
          });
      compare = λ op x₁ x₂ u₁ u₂ z₁ z₂ k₁ k₂. sure (expr_meaning (ex.Compare op x₁ x₂)) (expr_reads (ex.Compare op u₁ u₂)) (z₁.always && z₂.always) (λ h.
          let one = k₁.steady (and_first z₁.always _ h) in
          let two = k₂.steady (and_second z₁.always _ h) in
          record {
            worth = λ env. compare op (one.worth env) (two.worth env);
            gives = λ cx i. and_then (one.gives cx i) (λ v. mapped (compare op v) (two.gives cx i));
            same = λ d i. one.same d i ++ two.same d i;
          });
      between = λ n x₁ x₂ x₃ u₁ u₂ u₃ z₁ z₂ z₃ k₁ k₂ k₃. sure (expr_meaning (ex.Between n x₁ x₂ x₃)) (expr_reads (ex.Between n u₁ u₂ u₃)) (z₁.always && (z₂.always && z₃.always)) (λ h.
          let one = k₁.steady (and_first z₁.always _ h) in
          let two = k₂.steady (and_first z₂.always _ (and_second z₁.always _ h)) in
          let three = k₃.steady (and_second z₂.always _ (and_second z₁.always _ h)) in
          record {
            worth = λ env. negation_if n (if is_false (compare cmp.Ge (one.worth env) (two.worth env)) then val.Bool false
                else conjunction (compare cmp.Ge (one.worth env) (two.worth env)) (compare cmp.Le (one.worth env) (three.worth env)));
            gives = λ cx.
                (λ i. mapped (negation_if n) (and_then (one.gives cx i) (λ v. and_then (two.gives cx i) (λ l. between v l (three.gives cx i)))))
                ∙ ap (mapped (negation_if n)) (between_is (one.worth cx.env) (two.worth cx.env) (three.worth cx.env));
            same = λ d i. one.same d i ++ (two.same d i ++ three.same d i);
          });
      one_of = λ n x u z xs us zs k r. sure (expr_meaning (ex.OneOf n x xs)) (expr_reads (ex.OneOf n u us)) (z.always && list_all (λ (z : Sure). z.always) zs) (λ h.
          let one = k.steady (and_first z.always _ h) in
          let rest = all_kept xs us zs r (and_second z.always _ h) in
          record {
            worth = λ env. negation_if n (among_value (one.worth env) (rest.worths env) (val.Bool false));
            gives = λ cx.
                (λ i. mapped (negation_if n) (and_then (one.gives cx i) (λ v. among v (rest.gives cx i) (val.Bool false))))
                ∙ ap (mapped (negation_if n)) (among_is (one.worth cx.env) (rest.worths cx.env) (val.Bool false));
            same = λ d i. one.same d i ++ rest.same d i;
          });
      cast = λ x u z t k. sure (expr_meaning (ex.Cast x t)) u (z.always && cast_sure t) (λ h.
          let is = k.steady (and_first z.always _ h) in
          record {
            worth = λ env. cast_value t (is.worth env);
            gives = λ cx. ap (λ o. and_then o (cast t)) (is.gives cx) ∙ cast_is t (and_second z.always _ h) (is.worth cx.env);
            same = is.same;
          });
      cases = λ xs us zs x u z r k. sure (expr_meaning (ex.Cases xs x)) (expr_reads (ex.Cases us u)) (list_all (λ (a : Sure × Sure). a.0.always && a.1.always) zs && other_sure z) (λ h.
          let last = other_kept x u z k (and_second (list_all (λ (a : Sure × Sure). a.0.always && a.1.always) zs) _ h) in
          let arms = arms_kept (λ cx. other_value cx x) last.worth last.gives xs us zs r (and_first (list_all (λ (a : Sure × Sure). a.0.always && a.1.always) zs) _ h) in
          record { worth = arms.worth; gives = arms.gives; same = λ d i. arms.same d i ++ last.same d i });
      call = λ name xs us zs r. unsure _ _;
      count_rows = unsure _ _;
      scalar = λ x u z k. unsure _ _;
      exists = λ x u z k. unsure _ _;
      table = λ name. tt;
      sub = λ x u z lateral k. tt;
      from = λ x u z alias columns k. tt;
      item = λ x u z alias k. tt;
      key = λ x u z descending k. tt;
      select = λ l₁ l₂ l₃ f₁ f₂ f₃ w₁ w₂ w₃ o₁ o₂ o₃ m₁ m₂ m₃ lr fr wr kr mr. tt;
      recursive = λ name columns xs us zs x u z r k. tt;
      query = λ x u z xs us zs h r. tt;
    }

pub total_steady : (e : Expr) → is_total e ≡ true → Steady (expr_of meaning e) (expr_of reading e)
total_steady e h = (expr_related meaning reading sureness relation steps e).steady h
