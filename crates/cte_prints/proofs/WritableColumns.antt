-- Names in a function's expression are written where a query has it: as columns by an alias and a name that can be written.
use Rattle.std.proofs.Common.{◌≡◌, refl, sym, subst, ◌∙◌, ℕ, zero, suc, Bool, true, List, [], ◌∷◌, ◌++◌, length, Option, Some, None}
use Rattle.std.specs.Prelude.{slice_get}
use Rattle.away_trees.specs.declared.queries.Col.{Col}
use Rattle.away_trees.specs.declared.queries.Expr.{Expr}
use Rattle.away_trees.specs.declared.queries.Expr.TheVariants as expr
use Rattle.away_trees.specs.declared.queries.Expr.TheOpen as ex
use Rattle.away_trees.specs.Algebra.{Algebra, expr_of}
use Rattle.away_names.specs.declared.rule.Rule.TheVariants as rule
use Rattle.away_names.specs.declared.scope.Hit.{Hit}
use Rattle.away_names.specs.declared.scope.Seen.{Seen}
use Rattle.away_names.specs.declared.scope.Variable.{Variable}
use Rattle.away_names.specs.Lookups.{Name, Level, Scope, column_named, column_qualified, variable_named}
use Rattle.away_names.specs.Naming as n
use Rattle.sql_meaning.specs.Placed.{column_of, further}
use Rattle.sql_meaning.specs.Reads.{reading}
use Rattle.sql_meaning.proofs.Uses.{and_first}
use Rattle.type_soundness.specs.Sorts.{Every}
use Rattle.type_soundness.proofs.CleanNotes.{Clean, clean_parts, not_broken}
use Rattle.qualified_names.specs.Sight.{reference}
use Rattle.qualified_names.specs.Trees.{qualified_expr}
use Rattle.qualified_names.proofs.QualifyingRules as d
use Rattle.qualified_names.proofs.Gives as gives
use Rattle.qualified_names.proofs.ReadColumns.{named_read, qualified_read}
use Rattle.cte_names.specs.Own.{IsOwn}
use Rattle.cte_names.proofs.Refined.{Called, called_by, called_still}
use Rattle.cte_names.proofs.Further.{called_further}
use Rattle.cte_names.proofs.Standing.{Fits, Allowed, placing}
use Rattle.cte_prints.specs.Like.{value, IsLike}
use Rattle.cte_prints.specs.Like as like
use Rattle.cte_prints.specs.WritableNames.{IsWritableName}
use Rattle.cte_prints.specs.InSight.{ColumnIsWritable, ItemIsWritable, LevelIsWritable, SightIsWritable}

-- ---- what is in sight

none_some : {A : Type 0} (x : A) → None ≡ Some x → ⊥
none_some x e = cc

some_is : {A : Type 0} (x y : A) → Some x ≡ Some y → x ≡ y
some_is x y e = cc

module _ {A : Type 0} (P : A → Type 0) where
  at_place : (xs : List A) → Every P xs → (i : ℕ) (x : A) → slice_get xs i ≡ Some x → P x
  at_place [] h i x e = absurd (none_some x e)
  at_place (y ∷ ys) h zero x e = subst P (some_is y x e) h.0
  at_place (y ∷ ys) h (suc i) x e = at_place ys h.1 i x e

  given_at : (xs : List A) → gives.Every P xs → (i : ℕ) (x : A) → slice_get xs i ≡ Some x → P x
  given_at [] h i x e = absurd (none_some x e)
  given_at (y ∷ ys) h zero x e = subst P (some_is y x e) h.0
  given_at (y ∷ ys) h (suc i) x e = given_at ys h.1 i x e

-- an item whose alias can be written
abbrev pub Aliased : Seen → Type 0
Aliased o = IsWritableName o.alias

alias_writable : (levels : List Level) → Every (Every Aliased) levels → (c : Col) (a x : Name) → Called levels c a x → IsWritableName a
alias_writable levels h c a x k =
    subst IsWritableName k.alias (at_place Aliased k.level (at_place (Every Aliased) levels h c.level k.level k.level_there) c.item k.item k.item_there)

-- a column that is called by names that can be written
pub record IsColumn (v : Expr) : Type 0 where
  pub alias : Name
  pub name : Name
  pub alias_writable : IsWritableName alias
  pub name_writable : IsWritableName name
  pub is : v ≡ expr.Dotted alias name

in_sight : (levels : List Level) → SightIsWritable levels → (c : Col) (a x : Name) → reference levels c ≡ expr.Dotted a x → IsWritableName a × IsWritableName x
in_sight levels h c a x e =
    let k = called_by levels c a x e in
    let o = given_at ItemIsWritable k.level (given_at LevelIsWritable levels h c.level k.level k.level_there) c.item k.item k.item_there in
    (subst IsWritableName k.alias o.alias, given_at ColumnIsWritable k.item.columns o.columns c.column (Some x) k.name_there)

-- what stands for these slots is such a column, under any selects of the function
abbrev pub DerivableLeaves : Scope → (ℕ → Bool) → (ℕ → ℕ → Expr) → Type 0
DerivableLeaves q slots leaf = (ms : List Level) (i : ℕ) → slots i ≡ true → IsColumn (qualified_expr (leaf (length ms) i) (ms ++ q.levels))

pub derivable_leaves : (q : Scope) (slots : ℕ → Bool) (ref : ℕ → Col) → SightIsWritable q.levels → ((i : ℕ) → slots i ≡ true → IsOwn q.levels (ref i))
    → DerivableLeaves q slots (column_of ref)
derivable_leaves q slots ref derivable own ms i h =
    let o = own i h in
    let names = in_sight q.levels derivable (ref i) o.alias o.name o.is_reference in
    record {
      alias = o.alias;
      name = o.name;
      alias_writable = names.0;
      name_writable = names.1;
      is = d.column_is (further (length ms) (ref i)) (ms ++ q.levels) ∙ called_further ms q.levels (ref i) o.alias o.name o.is_reference;
    }

-- ---- a place

-- a place inside a function's own selects, whose items have aliases that can be written
pub record Stands (q s : Scope) (ms : List Level) : Type 0 where
  pub fits : Fits q s ms
  pub aliases : Every (Every Aliased) s.levels

module _ (q : Scope) (slots : ℕ → Bool) (leaf : ℕ → ℕ → Expr) (derivable : DerivableLeaves q slots leaf) where
  abbrev P : Algebra
  P = placing leaf

  -- a resolved expression as the query has it, with names again
  abbrev shown_at : List Level → Expr → Expr
  shown_at ms e = qualified_expr (expr_of P e (length ms)) (ms ++ q.levels)

  abbrev Good : List Level → Expr → Type 0
  Good ms e = Allowed slots (expr_of reading e (length ms))

  -- a written name that may be any column
  abbrev MayBe : Expr → Type 0
  MayBe w = (a c : Name) → IsWritableName a → IsWritableName c → IsLike value w (expr.Dotted a c)

  column_like : (w : Expr) → MayBe w → (x : Name) → IsWritableName x → (s : Scope) (ms : List Level) → Stands q s ms → (a : Name) (c : Col)
      → reference s.levels c ≡ expr.Dotted a x → IsLike value w (shown_at ms (expr.Column c))
  column_like w m x h s ms st a c e =
      subst (IsLike value w) (sym (d.column_is c (ms ++ q.levels) ∙ called_still s.levels ms q.levels st.fits.so c a x e))
      (m a x (alias_writable s.levels st.aliases c a x (called_by s.levels c a x e)) h)

  slot_or_like : (x : Name) → IsWritableName x → (ms : List Level) (v : Option Variable) → Clean (n.slot_or x v).note → Good ms (n.slot_or x v).it
      → IsLike value (expr.Named x) (shown_at ms (n.slot_or x v).it)
  unfolding n.slot_or
  slot_or_like x h ms (Some v) k a =
      let l = derivable ms v.slot (and_first (slots v.slot) true a) in
      subst (IsLike value (expr.Named x)) (sym l.is) (like.named x l.alias l.name l.alias_writable l.name_writable)
  slot_or_like x h ms None k a = absurd (not_broken rule.Names k)

  named_by_like : (x : Name) → IsWritableName x → (s : Scope) (ms : List Level) → Stands q s ms → (hit : Option Hit) (v : Option Variable)
      → column_named x s.levels ≡ hit
      → Clean (n.named_by x hit v).note → Good ms (n.named_by x hit v).it → IsLike value (expr.Named x) (shown_at ms (n.named_by x hit v).it)
  unfolding n.named_by
  named_by_like x h s ms st (Some hit) v e k a =
      let r = named_read x s.levels hit e in column_like (expr.Named x) (λ a c. like.named x a c) x h s ms st r.alias hit.column r.is
  named_by_like x h s ms st None v e k a = slot_or_like x h ms v k a

  qualified_by_like : (a x : Name) → IsWritableName x → (s : Scope) (ms : List Level) → Stands q s ms → (hit : Option Hit) → column_qualified a x s.levels ≡ hit
      → Clean (n.qualified_by a x hit).note
      → IsLike value (expr.Dotted a x) (shown_at ms (n.qualified_by a x hit).it)
  unfolding n.qualified_by
  qualified_by_like a x h s ms st (Some hit) e k =
      let r = qualified_read a x s.levels hit e in column_like (expr.Dotted a x) (λ b c. like.qualified a x b c) x h s ms st a hit.column r.0
  qualified_by_like a x h s ms st None e k = absurd (not_broken rule.Names k)

  -- the written expression is like what it stands for
  abbrev pub LikeTerm : Expr → n.Term → Type 0
  LikeTerm w t = (s : Scope) (ms : List Level) → Stands q s ms → Clean (t.judge s).note → Good ms (t.judge s).it → IsLike value w (shown_at ms (t.judge s).it)

  pub name_like : (x : Name) → IsWritableName x → LikeTerm (expr.Named x) (n.term (ex.Named x))
  unfolding n.named
  name_like x h s ms st k a =
      named_by_like x h s ms st (column_named x s.levels) (variable_named x s.variables) refl
      (clean_parts (n.written s x) (n.named_by x (column_named x s.levels) (variable_named x s.variables)).note k).1 a

  pub qualified_like : (a x : Name) → IsWritableName x → LikeTerm (expr.Dotted a x) (n.term (ex.Dotted a x))
  unfolding n.qualified
  qualified_like a x h s ms st k m =
      qualified_by_like a x h s ms st (column_qualified a x s.levels) refl (clean_parts _ (n.qualified_by a x (column_qualified a x s.levels)).note k).1
