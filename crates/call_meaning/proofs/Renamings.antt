-- Renamed expressions mean the same.
use Rattle.std.proofs.Common.{◌≡◌, refl, sym, ap, ◌∙◌, subst, ℕ, suc, ◌+◌, ◌<◌, ◌≤◌, Bool, true, ◌&&◌, nat_lt, List, [], ◌∷◌, Option, Some, None, Ok, Err, arith}
use Rattle.std.specs.List.{list_all}
use Rattle.std.proofs.lemmas.Bool.{and_parts, false≢true}
use Rattle.std.proofs.lemmas.Bool.Decides.{nat_tests}
use Rattle.std.proofs.lemmas.List.{append-nil}
use Rattle.away_values.specs.declared.types.Ty.{Ty}
use Rattle.away_values.specs.declared.values.Value.{Value}
use Rattle.away_trees.specs.declared.queries.Expr.{Expr}
use Rattle.away_trees.specs.declared.queries.Expr.TheOpen as ex
use Rattle.away_trees.specs.declared.queries.Select.{Select}
use Rattle.away_trees.specs.Algebra.{expr_of, select_of, query_of}
use Rattle.away_trees.proofs.Equations.{of_slot, query_roll}
use Rattle.away_values.specs.Operators.{cast}
use Rattle.away_values.specs.Results.{Or, each_joined}
use Rattle.sql_meaning.specs.Context.{Rows}
use Rattle.sql_meaning.specs.Expressions.{constant, expr_meaning}
use Rattle.sql_meaning.specs.Meaning.{meaning}
use Rattle.sql_meaning.specs.Names.{bare, bare_value}
use Rattle.sql_meaning.specs.OneReturn.{body}
use Rattle.sql_meaning.specs.Reads.{Read, Slot, Param, Table, Outer, allows, reading}
use Rattle.sql_meaning.proofs.Nameless.{bare_means, same_value}
use Rattle.sql_meaning.proofs.Replacing.{replaced_same, replaced_select_same}
use Rattle.sql_meaning.proofs.Same as same
use Rattle.plsql_meaning.specs.Functions.{over}
use Rattle.plsql_meaning.specs.Outcomes.{Env}
use Rattle.call_meaning.specs.Alike.{Slots}
use Rattle.call_meaning.specs.Expands.{Matches, Renames}
use Rattle.call_meaning.specs.Renamed.{in_sight, moved, same_literal, sees, moved_value, moved_select, alone, ExprRenamed, SelectRenamed, renaming}

-- ---- names mean nothing

nameless_value : (e x : Expr) → bare_value e ≡ bare_value x → expr_of meaning e ≡ expr_of meaning x
nameless_value e x h = sym (same_value e) ∙ ap (expr_of meaning) h ∙ same_value x

joined_alone : (r : Or Rows) → each_joined (λ (x : Or Rows). x) (r ∷ []) ≡ r
joined_alone (Err c) = refl
joined_alone (Ok rows) = ap Ok (append-nil rows)

alone_means : (s : Select) → (query_of meaning (alone s)).rows ≡ select_of meaning s
alone_means s = ap (λ m. m.rows) (query_roll meaning None (s ∷ [])) ∙ (λ i cx. joined_alone (select_of meaning s cx) i)

nameless_select : (s x : Select) → bare (alone s) ≡ bare (alone x) → select_of meaning s ≡ select_of meaning x
nameless_select s x h = sym (alone_means s) ∙ ap (λ m. m.rows) (sym (bare_means (alone s)) ∙ ap (query_of meaning) h ∙ bare_means (alone x)) ∙ alone_means x

-- ---- what is read, by a number that no table reaches

is_below : (k n : ℕ) → k < n → nat_lt k n ≡ true
is_below k n h = grind (arith, nat_tests)

below : (k n : ℕ) → nat_lt k n ≡ true → k < n
below k n h = grind (arith, nat_tests)

pub bound : List Read → ℕ
bound [] = 0
bound (Slot i ∷ rs) = bound rs
bound (Param i ∷ rs) = bound rs
bound (Table k ∷ rs) = suc k + bound rs
bound (Outer c ∷ rs) = bound rs

module _ (m : Slots) where
  abbrev may : ℕ → Read → Bool
  may n = allows (λ i. in_sight (m i)) 0 n

  wider : (r : Read) (a b : ℕ) → a ≤ b → may a r ≡ true → may b r ≡ true
  wider (Slot i) a b le h = h
  wider (Param i) a b le h = h
  wider (Table k) a b le h = is_below k b (omega (arith, below k a h, le))
  wider (Outer c) a b le h = h

  all_wider : (rs : List Read) (a b : ℕ) → a ≤ b → list_all (may a) rs ≡ true → list_all (may b) rs ≡ true
  all_wider [] a b le h = refl
  all_wider (r ∷ rs) a b le h =
      let p = and_parts (may a r) (list_all (may a) rs) h in
      both (may b r) (list_all (may b) rs) (wider r a b le p.0) (all_wider rs a b le p.1)
    where
      both : (x y : Bool) → x ≡ true → y ≡ true → (x && y) ≡ true
      both x y e f = (λ i. e i && f i)

  pub bounded : (rs : List Read) → list_all (sees m) rs ≡ true → list_all (may (bound rs)) rs ≡ true
  unfolding bound
  bounded [] h = refl
  bounded (Slot i ∷ rs) h =
      let p = and_parts (in_sight (m i)) (list_all (sees m) rs) h in
      λ j. p.0 j && bounded rs p.1 j
  bounded (Param i ∷ rs) h = absurd (false≢true h)
  bounded (Table k ∷ rs) h =
      λ j. is_below k (suc k + bound rs) (omega arith) j && all_wider rs (bound rs) (suc k + bound rs) (omega arith) (bounded rs h) j
  bounded (Outer c ∷ rs) h = absurd (false≢true h)

module _ (T : List Rows) (m : Slots) (env env' : Env) (h : Matches m env env') where
  one : same.Surroundings
  one = record { env = env; args = []; outer = []; tables = T }

  two : same.Surroundings
  two = record { env = env'; args = []; outer = []; tables = T }

  leaf : (d i : ℕ) (o : Option ℕ) → m i ≡ o → in_sight o ≡ true → same.Same one two d (expr_meaning (ex.Slot i)) (expr_of meaning (moved o i))
  unfolding one two
  leaf d i None e s = absurd (false≢true s)
  leaf d i (Some j) e s = subst (λ x. same.Same one two d (expr_meaning (ex.Slot i)) x) (sym (of_slot meaning j)) (refl, λ l g r. ap Ok (sym (h i j e)))

  literal : (e : Expr) (t : Ty) (v : Value) → expr_of meaning e ≡ constant v → cast t v ≡ Ok v → (d : ℕ) → same.Same one two d (constant v) (expr_of meaning e)
  literal e t v is c d = subst (λ x. same.Same one two d (constant v) x) (sym is) (refl, λ l g r. refl)

  value_same : (e e' : Expr) → ExprRenamed m e e' → (over T []).value e env ≡ (over T []).value e' env'
  unfolding one two
  value_same e e' r =
      sym ((replaced_same one two (λ i. in_sight (m i)) 0 (bound (expr_of reading e 0)) (λ d i. moved (m i) i) same_literal (λ d i s. leaf d i (m i) refl s) literal (λ i lt. refl) (λ k lt. refl) e (bounded m (expr_of reading e 0) r.reads)).1 [] [] (record { size = refl; alone = λ z. refl }))
      ∙ ap (λ m. m.value (body T env')) (nameless_value (moved_value m e) e' (sym r.is))

  rows_same : (s s' : Select) → SelectRenamed m s s' → (over T []).rows s env ≡ (over T []).rows s' env'
  unfolding one two
  rows_same s s' r =
      sym (replaced_select_same one two (λ i. in_sight (m i)) 0 (bound (select_of reading s 0)) (λ d i. moved (m i) i) same_literal (λ d i s. leaf d i (m i) refl s) literal (λ i lt. refl) (λ k lt. refl) s (bounded m (select_of reading s 0) r.reads) [] [] (record { size = refl; alone = λ z. refl }))
      ∙ ap (λ rows. rows (body T env')) (nameless_select (moved_select m s) s' (sym r.is))

pub renames : (T : List Rows) → Renames T renaming
renames T = record {
  value = λ m e e' r env env' h. value_same T m env env' h e e' r;
  marks = λ m s s' r. r.marks;
  rows = λ m s s' r env env' h. rows_same T m env env' h s s' r;
}
