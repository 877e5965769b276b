-- What the names of a walk stand for, as the template has it.
use Rattle.std.proofs.Common.{◌≡◌, ℕ, zero, suc, ◌+◌, ◌-◌, ◌≤◌, Bool, true, false, cond, nat_eq, List, [], ◌∷◌, length, Option, Some, None, refl, sym, ap, ◌∙◌, subst, arith}
use Rattle.std.proofs.lemmas.Bool.{eqb-true, eqb-false}
use Rattle.std.proofs.lemmas.Option.{same_Some}
use Rattle.away_trees.specs.declared.queries.Expr.TheVariants as expr
use Rattle.away_values.specs.declared.types.Ty.{Ty}
use Rattle.block_forms.specs.Places.{Each}
use Rattle.call_forms.specs.Scopes.{paired}
use Rattle.call_forms.specs.Template.{here, outside, deeper, no_column, of_row, cells}
use Rattle.sql_meaning.specs.Trees.{null_of}
use Rattle.cte_reads.specs.References.{Set, lookup, col_at, no_ref, ref_or, found_behind, found_in, one_more, founds, refs_of}
use Rattle.cte_reads.specs.Rows.{cell, cells_at}
use Rattle.cte_reads.specs.declared.scope.Ref.{Ref}
use Rattle.cte_reads.specs.declared.scope.Scope as code
use Rattle.cte_check.specs.Labels.{row_ref, label_refs}
use Rattle.cte_check.specs.Walks.{InSight}

-- ---- an assigned name

-- the first column of an item of the select itself
abbrev pub item_ref : ℕ → ℕ → Ref
item_ref out m = record { from = out + 1; item = m; column = 0 }

pub assigned : (out m n k : ℕ) (found : Option Ref)
    → col_at out (ref_or (found_behind (Some (n, item_ref out m)) found k)) ≡ cond (nat_eq k n) (here m 0) (col_at out (ref_or found))
assigned out m n k found = by (nat_eq n k) (nat_eq k n) refl refl
  where
    level : suc out - (out + 1) ≡ 0
    level = omega arith

    by : (t u : Bool) → nat_eq n k ≡ t → nat_eq k n ≡ u
        → col_at out (ref_or (cond t (Some (item_ref out m)) found)) ≡ cond u (here m 0) (col_at out (ref_or found))
    by true true e f = λ i. record { level = level i; item = m; column = 0 }
    by true false e f = absurd (eqb-false k n f (sym (eqb-true n k e)))
    by false true e f = absurd (eqb-false n k e (sym (eqb-true k n f)))
    by false false e f = refl

-- ---- names that are passed

-- what is found of a name and of those behind it
pub record FoundBoth (s : code.Scope) (n : ℕ) (ns : List ℕ) (refs : List Ref) : Type 0 where
  pub one : Ref
  pub others : List Ref
  pub all : refs ≡ one ∷ others
  pub found : found_in s n ≡ Some one
  pub behind : founds s ns ≡ Some others

pub found_both : (s : code.Scope) (n : ℕ) (ns : List ℕ) (refs : List Ref) → founds s (n ∷ ns) ≡ Some refs → FoundBoth s n ns refs
found_both s n ns refs e = by (found_in s n) (founds s ns) refl refl e
  where
    by : (a : Option Ref) (b : Option (List Ref)) → found_in s n ≡ a → founds s ns ≡ b → one_more a b ≡ Some refs → FoundBoth s n ns refs
    by None b p q e = absurd (cc)
    by (Some r) None p q e = absurd (cc)
    by (Some r) (Some rs) p q e = record { one = r; others = rs; all = sym (same_Some (r ∷ rs) refs e); found = p; behind = q }

pub found_none : (s : code.Scope) (refs : List Ref) → founds s [] ≡ Some refs → refs ≡ []
found_none s refs e = sym (same_Some [] refs e)

pub as_many_found : (s : code.Scope) (args : List ℕ) (refs : List Ref) → founds s args ≡ Some refs → length refs ≡ length args
as_many_found s [] refs e = ap length (found_none s refs e)
as_many_found s (n ∷ ns) refs e =
    let both = found_both s n ns refs e in ap length both.all ∙ ap suc (as_many_found s ns both.others both.behind)

-- a column that no row has
nothing_there : (out : ℕ) → col_at out no_ref ≡ no_column out
nothing_there out = λ i. record { level = level i; item = 1; column = 0 }
  where
    level : suc out - 0 ≡ suc out
    level = omega arith

chosen : {X Y : Type 0} (f : X → Y) (t : Bool) (a b : X) {c d : Y} → f a ≡ c → f b ≡ d → f (cond t a b) ≡ cond t c d
chosen f true a b h k = h
chosen f false a b h k = k

-- the parameters of a block stand for what is passed
pub passed : (s : code.Scope) (out : ℕ) (params args : List ℕ) (refs : List Ref) (i : ℕ) → founds s args ≡ Some refs
    → col_at out (ref_or (lookup params refs i)) ≡ paired (refs_of out s) (no_column out) params args i
passed s out [] args refs i e = nothing_there out
passed s out (p ∷ ps) [] refs i e = ap (λ rs. col_at out (ref_or (lookup (p ∷ ps) rs i))) (found_none s refs e) ∙ nothing_there out
passed s out (p ∷ ps) (n ∷ ns) refs i e =
    let both = found_both s n ns refs e in
    ap (λ rs. col_at out (ref_or (lookup (p ∷ ps) rs i))) both.all
    ∙ chosen (λ r. col_at out (ref_or r)) (nat_eq p i) (Some both.one) (lookup ps both.others i)
    (ap (λ r. col_at out (ref_or r)) (sym both.found)) (passed s out ps ns both.others i both.behind)

-- the row of a called label has what is passed
passed_cell : (s : code.Scope) (out : ℕ) (t : Ty) (places args : List ℕ) (refs : List Ref) (i : ℕ) → founds s args ≡ Some refs
    → cell out (lookup places refs i) t ≡ paired (λ n. expr.Column (refs_of out s n)) (null_of t) places args i
passed_cell s out t [] args refs i e = refl
passed_cell s out t (p ∷ ps) [] refs i e = ap (λ rs. cell out (lookup (p ∷ ps) rs i) t) (found_none s refs e)
passed_cell s out t (p ∷ ps) (n ∷ ns) refs i e =
    let both = found_both s n ns refs e in
    ap (λ rs. cell out (lookup (p ∷ ps) rs i) t) both.all
    ∙ chosen (λ r. cell out r t) (nat_eq p i) (Some both.one) (lookup ps both.others i)
    (ap (λ r. expr.Column (col_at out (ref_or r))) (sym both.found)) (passed_cell s out t ps ns both.others i both.behind)

pub passed_cells : (s : code.Scope) (out i : ℕ) (places args : List ℕ) (refs : List Ref) (columns : List Ty) → founds s args ≡ Some refs
    → cells_at out i places refs columns ≡ cells i (refs_of out s) places args columns
passed_cells s out i places args refs [] e = refl
passed_cells s out i places args refs (t ∷ ts) e =
    λ j. passed_cell s out t places args refs i e j ∷ passed_cells s out (suc i) places args refs ts e j

-- ---- a label's parameters

pub row_columns : (params places : List ℕ) (i : ℕ)
    → col_at 0 (ref_or (lookup params (label_refs params places) i)) ≡ paired of_row (no_column 0) params places i
row_columns [] places i = nothing_there 0
row_columns (p ∷ ps) [] i =
    chosen (λ r. col_at 0 (ref_or r)) (nat_eq p i) (Some no_ref) (lookup ps (label_refs ps []) i) (nothing_there 0) (row_columns ps [] i ∙ nothing ps)
    ∙ either_way (nat_eq p i)
  where
    nothing : (ps : List ℕ) → paired of_row (no_column 0) ps [] i ≡ no_column 0
    nothing [] = refl
    nothing (p ∷ ps) = refl

    either_way : (t : Bool) → cond t (no_column 0) (no_column 0) ≡ no_column 0
    either_way true = refl
    either_way false = refl
row_columns (p ∷ ps) (c ∷ cs) i =
    chosen (λ r. col_at 0 (ref_or r)) (nat_eq p i) (Some (row_ref (Some c))) (lookup ps (label_refs ps cs) i) refl (row_columns ps cs i)

pub as_many_columns : (params places : List ℕ) → length (label_refs params places) ≡ length params
as_many_columns [] places = refl
as_many_columns (p ∷ ps) [] = ap suc (as_many_columns ps [])
as_many_columns (p ∷ ps) (c ∷ cs) = ap suc (as_many_columns ps cs)

-- ---- what is in sight

each_more : {X : Type 0} (P : X → Type 0) (x : X) (xs : List X) → P x → Each P xs → Each P (x ∷ xs)
each_more P x xs h each zero y e = subst P (same_Some x y e) h
each_more P x xs h each (suc i) y e = each i y e

each_none : {X : Type 0} (P : X → Type 0) → Each P []
each_none P i y e = absurd (cc)

abbrev IsWithin : ℕ → Ref → Type 0
IsWithin depth r = r.from ≤ suc depth

pub rows_in_sight : (params places : List ℕ) → InSight 0 None (label_refs params places)
rows_in_sight [] places = each_none (IsWithin 0)
rows_in_sight (p ∷ ps) [] = each_more (IsWithin 0) no_ref (label_refs ps []) (omega arith) (rows_in_sight ps [])
rows_in_sight (p ∷ ps) (c ∷ cs) = each_more (IsWithin 0) (row_ref (Some c)) (label_refs ps cs) (omega arith) (rows_in_sight ps cs)

looked_up : (P : Ref → Type 0) (keys : List ℕ) (refs : List Ref) (k : ℕ) (r : Ref) → Each P refs → lookup keys refs k ≡ Some r → P r
looked_up P [] refs k r each e = absurd (cc)
looked_up P (x ∷ keys) [] k r each e = absurd (cc)
looked_up P (x ∷ keys) (v ∷ values) k r each e = by (nat_eq x k) e (looked_up P keys values k r (λ i y e. each (suc i) y e))
  where
    by : (t : Bool) → cond t (Some v) (lookup keys values k) ≡ Some r → (lookup keys values k ≡ Some r → P r) → P r
    by true e further = each 0 r e
    by false e further = further e

found_in_sight : (depth : ℕ) (set : Set) (names : List ℕ) (refs : List Ref) (n : ℕ) (r : Ref) → InSight depth set refs
    → found_behind set (lookup names refs n) n ≡ Some r → r.from ≤ suc depth
found_in_sight depth None names refs n r sight e = looked_up (λ r. r.from ≤ suc depth) names refs n r sight e
found_in_sight depth (Some s) names refs n r sight e = by (nat_eq s.0 n) e
  where
    by : (t : Bool) → cond t (Some s.1) (lookup names refs n) ≡ Some r → r.from ≤ suc depth
    by true e = subst (λ r. r.from ≤ suc depth) (same_Some s.1 r e) sight.0
    by false e = looked_up (λ r. r.from ≤ suc depth) names refs n r sight.1 e

pub passed_in_sight : (depth : ℕ) (s : code.Scope) (args : List ℕ) (refs : List Ref) → InSight depth s.set s.refs → founds s args ≡ Some refs
    → InSight depth None refs
passed_in_sight depth s [] refs sight e = subst (InSight depth None) (sym (found_none s refs e)) (each_none (IsWithin depth))
passed_in_sight depth s (n ∷ ns) refs sight e =
    let both = found_both s n ns refs e in
    subst (InSight depth None) (sym both.all)
    (each_more (IsWithin depth) both.one both.others (found_in_sight depth s.set s.names.now s.refs n both.one sight both.found) (passed_in_sight depth s ns both.others sight both.behind))

-- ---- one select further in

further_in : (depth : ℕ) (r : Ref) → r.from ≤ suc depth → col_at (depth + 1) r ≡ deeper (col_at depth r)
further_in depth r le = λ i. record { level = level i; item = r.item; column = r.column }
  where
    level : suc (depth + 1) - r.from ≡ suc (suc depth - r.from)
    level = omega (arith, le)

further_or : (depth : ℕ) (found : Option Ref) → ((r : Ref) → found ≡ Some r → r.from ≤ suc depth) → col_at (depth + 1) (ref_or found) ≡ deeper (col_at depth (ref_or found))
further_or depth None sight = further_in depth no_ref (omega arith)
further_or depth (Some r) sight = further_in depth r (sight r refl)

pub seen_outside : (depth : ℕ) (s : code.Scope) → InSight depth s.set s.refs → (n : ℕ) → refs_of (depth + 1) s n ≡ outside (refs_of depth s) n
seen_outside depth s sight n =
    further_or depth (found_in s n) (λ r e. found_in_sight depth s.set s.names.now s.refs n r sight e)

-- what is in sight stays so further in
pub still_in_sight : (depth : ℕ) (set : Set) (refs : List Ref) → InSight depth set refs → InSight (depth + 1) set refs
still_in_sight depth None refs sight = λ i r e. omega (arith, sight i r e)
still_in_sight depth (Some s) refs sight = (omega (arith, sight.0), λ i r e. omega (arith, sight.1 i r e))
