-- What names stand for, along the loops that find it.
use Rattle.std.proofs.Common.{◌≡◌, ℕ, zero, suc, ◌+◌, ◌<◌, ◌≤◌, Bool, true, false, cond, if◌then◌else◌, List, [], ◌∷◌, ◌++◌, length, map, take, drop, get_or, refl, sym, ap, ◌∙◌, subst, arith}
use Rattle.std.specs.Prelude.{nat_eq, nat_lt}
use Rattle.std.proofs.lemmas.List.{drop_more, take_more, take_all}
use Rattle.std.proofs.lemmas.Bool.{eqb-true, eq-eqb, ne_eqb, lt-ltb, le-ltb}
use Rattle.away_values.specs.declared.types.Ty.{Ty}
use Rattle.away_trees.specs.declared.queries.Expr.{Expr}
use Rattle.away_trees.specs.declared.queries.Expr.TheVariants as expr
use Rattle.call_forms.specs.Scopes.{Scope, paired}
use Rattle.turn_template.specs.TurnTemplate.{Ref, of_column, no_ref, names}
use Rattle.turn_terms.specs.References.{on_row, value_or, value_in, scope_of, at_keys, at_place}
use Rattle.turn_terms.specs.Writing.{place_in}
use Rattle.turn_terms.specs.declared.references.Reference.{Reference}
use Rattle.turn_terms.specs.declared.writer.Writer.{Writer}
use Rattle.std.proofs.Math.ListN.{drop_of_length-le}

-- ---- the value of a name

or_more : (x : Expr) (rs : List Reference) (r : Reference) (n : ℕ) → value_or x (rs ++ r ∷ []) n ≡ (if nat_eq r.name n then r.value else value_or x rs n)
or_more x [] r n = refl
or_more x (q ∷ rs) r n = or_more (if nat_eq q.name n then q.value else x) rs r n

more : (rs : List Reference) (r : Reference) (n : ℕ) → value_in (rs ++ r ∷ []) n ≡ (if nat_eq r.name n then r.value else value_in rs n)
unfolding value_in
more rs r n = or_more expr.Null rs r n

none : (n : ℕ) → value_in [] n ≡ expr.Null
unfolding value_in
none n = refl

same_way : (x k : ℕ) (b : Bool) → nat_eq x k ≡ b → nat_eq k x ≡ b
same_way x k true e = eq-eqb k x (sym (eqb-true x k e))
same_way x k false e = ne_eqb k x (λ h. let t : nat_eq x k ≡ true = eq-eqb x k (sym h) in absurd (cc))

-- the last pair before a place
taken : (rs : List Reference) (i j : ℕ) (r : Reference) (n : ℕ) → j ≡ i + 1 → i < length rs → r ≡ get_or rs i r
    → value_in (take j rs) n ≡ (if nat_eq r.name n then r.value else value_in (take i rs) n)
taken rs i j r n next there is =
    ap (λ k. value_in (take k rs) n) next
    ∙ (ap (λ xs. value_in xs n) (take_more rs i r there) ∙ (ap (λ x. value_in (take i rs ++ x ∷ []) n) (sym is) ∙ more (take i rs) r n))

-- what is read at a place doesn't depend on what stands for none
any_default : {A : Type 0} (xs : List A) (i : ℕ) (x y : A) → i < length xs → get_or xs i x ≡ get_or xs i y
any_default [] i x y there = absurd (omega (arith, there))
any_default (a ∷ xs) zero x y there = refl
any_default (a ∷ xs) (suc i) x y there = any_default xs i x y (omega (arith, there))

pub found_at : (rs : List Reference) (i j : ℕ) (r q : Reference) (n : ℕ) → j ≡ i + 1 → i < length rs → r ≡ get_or rs i r → (get_or rs i r).name ≡ n
    → value_in rs n ≡ value_in (take j rs) n → (get_or rs i q).value ≡ value_in rs n
found_at rs i j r q n next there is named h =
    ap (λ (z : Reference). z.value) (any_default rs i q r there ∙ sym is)
    ∙ sym (h ∙ (taken rs i j r n next there is ∙ ap (λ b. if b then r.value else value_in (take i rs) n) (eq-eqb r.name n (ap (λ (z : Reference). z.name) is ∙ named))))

pub passed_at : (rs : List Reference) (i j : ℕ) (r : Reference) (n : ℕ) → j ≡ i + 1 → i < length rs → r ≡ get_or rs i r → ((get_or rs i r).name ≡ n → ⊥)
    → value_in rs n ≡ value_in (take j rs) n → value_in rs n ≡ value_in (take i rs) n
passed_at rs i j r n next there is other h =
    h ∙ (taken rs i j r n next there is ∙ ap (λ b. if b then r.value else value_in (take i rs) n) (ne_eqb r.name n (λ e. other (sym (ap (λ (z : Reference). z.name) is) ∙ e))))

pub none_left : (rs : List Reference) (j n : ℕ) → j ≡ 0 → value_in rs n ≡ value_in (take j rs) n → expr.Null ≡ value_in rs n
none_left rs j n end h = sym (h ∙ (ap (λ k. value_in (take k rs) n) end ∙ none n))

-- ---- references

pub slot_is : (j : ℕ) → on_row (expr.Slot j) ≡ of_column j
unfolding on_row
slot_is j = refl

null_is : on_row expr.Null ≡ no_ref
unfolding on_row
null_is = refl

pub scope_is : (rs : List Reference) (n d : ℕ) → on_row (value_in rs n) d ≡ scope_of rs n d
unfolding scope_of
scope_is rs n d = refl

of_scope : (rs : List Reference) (n : ℕ) → on_row (value_in rs n) ≡ scope_of rs n
unfolding scope_of
of_scope rs n = refl

pub one_named : (rs : List Reference) (k : ℕ) (x : Expr) → scope_of (rs ++ record { name = k; value = x } ∷ []) ≡ names k (on_row x) (scope_of rs)
unfolding scope_of
one_named rs k x = λ i n. (ap on_row (more rs (record { name = k; value = x }) n) ∙ by n (nat_eq k n) refl) i
  where
    by : (n : ℕ) (b : Bool) → nat_eq k n ≡ b → on_row (if nat_eq k n then x else value_in rs n) ≡ cond (nat_eq n k) (on_row x) (on_row (value_in rs n))
    by n true e = ap (λ c. on_row (if c then x else value_in rs n)) e ∙ sym (ap (λ c. cond c (on_row x) (on_row (value_in rs n))) (same_way k n true e))
    by n false e = ap (λ c. on_row (if c then x else value_in rs n)) e ∙ sym (ap (λ c. cond c (on_row x) (on_row (value_in rs n))) (same_way k n false e))

-- ---- keys with their values

no_keys : (xs : List Expr) (n : ℕ) → at_keys [] xs n ≡ expr.Null
unfolding at_keys
no_keys xs n = refl

no_values : (ks : List ℕ) (n : ℕ) → at_keys ks [] n ≡ expr.Null
unfolding at_keys
no_values [] n = refl
no_values (k ∷ ks) n = refl

at_key : (k : ℕ) (ks : List ℕ) (x : Expr) (xs : List Expr) (n : ℕ) → at_keys (k ∷ ks) (x ∷ xs) n ≡ (if nat_eq k n then x else at_keys ks xs n)
unfolding at_keys
at_key k ks x xs n = refl

-- behind all keys there is none
pub keys_start : (ks : List ℕ) (xs : List Expr) → value_in [] ≡ at_keys (drop (length ks) ks) (drop (length ks) xs)
keys_start ks xs = λ i n. (none n ∙ sym (ap (λ zs. at_keys zs (drop (length ks) xs) n) (drop_of_length-le ks {i = length ks} (omega arith)) ∙ no_keys (drop (length ks) xs) n)) i

-- one key before the others
keys_next : (rs : List Reference) (k : ℕ) (ks : List ℕ) (x : Expr) (xs : List Expr) → value_in rs ≡ at_keys ks xs
    → value_in (rs ++ record { name = k; value = x } ∷ []) ≡ at_keys (k ∷ ks) (x ∷ xs)
keys_next rs k ks x xs h = λ i n. (more rs (record { name = k; value = x }) n ∙ (ap (λ (f : ℕ → Expr). if nat_eq k n then x else f n) h ∙ sym (at_key k ks x xs n))) i

pub keys_before : (rs new : List Reference) (ks : List ℕ) (xs : List Expr) (i j e : ℕ) (x y : Expr) → new ≡ rs ++ record { name = get_or ks i e; value = x } ∷ []
    → x ≡ y → y ≡ get_or xs i y → j ≡ i + 1 → i < length ks → i < length xs → value_in rs ≡ at_keys (drop j ks) (drop j xs) → value_in new ≡ at_keys (drop i ks) (drop i xs)
keys_before rs new ks xs i j e x y grown copy is next lk lx h =
    ap value_in grown
    ∙ (ap (λ z. value_in (rs ++ record { name = get_or ks i e; value = z } ∷ [])) (copy ∙ is)
    ∙ (keys_next rs (get_or ks i e) (drop (i + 1) ks) (get_or xs i y) (drop (i + 1) xs) (h ∙ (λ z. at_keys (drop (next z) ks) (drop (next z) xs)))
    ∙ sym (λ z. at_keys (drop_more ks i e lk z) (drop_more xs i y lx z))))

-- a key without a value
pub keys_skip : (ks : List ℕ) (xs : List Expr) (i j : ℕ) → length xs ≤ i → length xs ≤ j → at_keys (drop i ks) (drop i xs) ≡ at_keys (drop j ks) (drop j xs)
keys_skip ks xs i j g h =
    λ z n. (ap (λ zs. at_keys (drop i ks) zs n) (drop_of_length-le xs g) ∙ (no_values (drop i ks) n ∙ sym (ap (λ zs. at_keys (drop j ks) zs n) (drop_of_length-le xs h) ∙ no_values (drop j ks) n))) z

-- ---- keys that stand for what others stand for

module _ (f : ℕ → Expr) (g : Scope Ref) (is : (n : ℕ) → on_row (f n) ≡ g n) where
  one_key : (b : Bool) (m : ℕ) (x : Expr) (r : Ref) → on_row x ≡ r → on_row (if b then f m else x) ≡ (if b then g m else r)
  one_key true m x r h = is m
  one_key false m x r h = h

  each_key : (ks ns : List ℕ) (n : ℕ) → on_row (at_keys ks (map f ns) n) ≡ paired g no_ref ks ns n
  each_key [] ns n = ap on_row (no_keys (map f ns) n) ∙ null_is
  each_key (k ∷ ks) [] n = ap on_row (no_values (k ∷ ks) n) ∙ null_is
  each_key (k ∷ ks) (m ∷ ns) n =
      ap on_row (at_key k ks (f m) (map f ns) n) ∙ one_key (nat_eq k n) m (at_keys ks (map f ns) n) (paired g no_ref ks ns n) (each_key ks ns n)

  pub keys_scope : (rs : List Reference) (ks ns : List ℕ) → value_in rs ≡ at_keys ks (map f ns) → scope_of rs ≡ paired g no_ref ks ns
  keys_scope rs ks ns h = λ i n. (sym (of_scope rs n) ∙ (ap (λ (v : ℕ → Expr). on_row (v n)) h ∙ each_key ks ns n)) i

pub entered_scope : (refs rs : List Reference) (ks ns : List ℕ) → value_in rs ≡ at_keys ks (map (value_in refs) ns) → scope_of rs ≡ paired (scope_of refs) no_ref ks ns
entered_scope refs = keys_scope (value_in refs) (scope_of refs) (of_scope refs)

-- ---- the columns of a row

pub place_there : (columns : List Ty) (place k : ℕ) → place < length columns → k ≡ place + 2 → expr.Slot k ≡ at_place columns place
unfolding at_place
place_there columns place k h next =
    let column : k ≡ suc (suc place) = omega (arith, next) in
    ap expr.Slot column ∙ sym (ap (λ b. cond b (expr.Slot (suc (suc place))) expr.Null) (lt-ltb place (length columns) h))

pub place_none : (columns : List Ty) (place : ℕ) → length columns ≤ place → expr.Null ≡ at_place columns place
unfolding at_place
place_none columns place h = sym (ap (λ b. cond b (expr.Slot (suc (suc place))) expr.Null) (le-ltb place (length columns) h))

pub ruleset place_rules = (place_there, place_none)

column_is : (b : Bool) (place : ℕ) → on_row (cond b (expr.Slot place) expr.Null) ≡ cond b (of_column place) no_ref
column_is true place = slot_is place
column_is false place = null_is

place_is : (w : Writer) (place : ℕ) → on_row (at_place w.columns.now place) ≡ place_in w place
unfolding at_place
place_is w place = column_is (nat_lt place (length w.columns.now)) (suc (suc place))

pub columns_scope : (w : Writer) (rs : List Reference) (ks ns : List ℕ) → value_in rs ≡ at_keys ks (map (at_place w.columns.now) ns) → scope_of rs ≡ paired (place_in w) no_ref ks ns
columns_scope w = keys_scope (at_place w.columns.now) (place_in w) (place_is w)
