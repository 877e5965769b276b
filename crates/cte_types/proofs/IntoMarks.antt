-- The items of a converted SELECT INTO whose numbers stand for the other type of numbers are marked, and no others.
use Rattle.std.proofs.Common.{◌≡◌, refl, ap, sym, ◌∙◌, subst, ℕ, Bool, true, false, if◌then◌else◌, List, [], ◌∷◌, ◌++◌, map, Option, Some, None, option_map}
use Rattle.std.specs.Prelude.{is_some, drop}
use Rattle.away_values.specs.declared.types.Ty.{Ty}
use Rattle.away_trees.specs.declared.queries.Expr.TheViews.{out-Item, out-Select, out-roll-Select}
use Rattle.away_trees.specs.declared.queries.Expr.TheOpen.{Select-F}
use Rattle.away_trees.specs.declared.queries.Expr.{Expr}
use Rattle.away_trees.specs.declared.queries.Source.{Source}
use Rattle.away_trees.specs.declared.queries.FromItem.{FromItem}
use Rattle.away_trees.specs.declared.queries.Item.{Item}
use Rattle.away_trees.specs.declared.queries.Key.{Key}
use Rattle.away_trees.specs.declared.queries.Query.{Query}
use Rattle.away_trees.specs.declared.queries.Recursive.{Recursive}
use Rattle.away_trees.specs.declared.queries.Select.{Select}
use Rattle.away_trees.specs.declared.statements.Arm.{Arm}
use Rattle.away_trees.specs.declared.statements.Stmt.{Stmt}
use Rattle.away_trees.specs.declared.statements.Stmt.TheBlock as b
use Rattle.away_trees.specs.Algebra.{Algebra, expr_of, item_of, from_of, key_of, select_of}
use Rattle.away_trees.specs.StatementAlgebra.{stmt_of, branch_of, stmts_of, branches_of, else_of}
use Rattle.away_trees.proofs.Equations as tree
use Rattle.away_trees.proofs.StatementEquations as eq
use Rattle.away_typing.specs.declared.kind.Kind.{Kind}
use Rattle.away_typing.specs.Typing as typing
use Rattle.away_typing.specs.Typing.{Places}
use Rattle.elaboration.specs.Elaborating.{elaborated_select}
use Rattle.elaboration.specs.Converting.{Around, By, Target, converts, converting, decls_converted, first_mark, into_converted, items_marked, kind_converted, mark_by, select_marked, slot_type, with_alias, with_list}
use Rattle.elaboration_law.proofs.Typed.{kinds_are}
use Rattle.block_forms.specs.Intos.{Into, selecting, row_intos, else_intos}
use Rattle.type_soundness.specs.Sorts.{Every}
use Rattle.type_soundness.proofs.Lists.{every_append}

abbrev Fields : Type 0
Fields = Select-F Expr Source FromItem Item Key Query Recursive Select

abbrev T : Select → Places → Option (List Kind)
T s p = select_of typing.typing s p

-- by another list that means the same
list_same : (a : Algebra) (list : List Item) (s : Select) → map (λ i. item_of a i) list ≡ map (λ i. item_of a i) (out-Select s).list → select_of a (with_list list s) ≡ select_of a s
list_same a list s e =
    let o = out-Select s in
    tree.of_select a list o.from o.filter o.order o.limit
    ∙ ap (λ (l : List a.AnItem). a.select (record { list = l; from = map (λ f. from_of a f) o.from; filter = option_map (λ e. expr_of a e) o.filter; order = map (λ k. key_of a k) o.order; limit = option_map (λ e. expr_of a e) o.limit })) e
    ∙ sym (tree.select_is a s)

pub list_kinds : (list : List Item) (s : Select) → map (λ i. item_of typing.typing i) list ≡ map (λ i. item_of typing.typing i) (out-Select s).list
    → select_of typing.typing (with_list list s) ≡ select_of typing.typing s
list_kinds = list_same typing.typing

-- an alias means nothing
abbrev pub NoAliases : Algebra → Type 0
NoAliases a = (x : a.AnExpr) (alias : Option (List ℕ)) → a.item (record { expr = x; alias = None }) ≡ a.item (record { expr = x; alias = alias })

module _ (a : Algebra) (none : NoAliases a) (w : Around) where
  item_same : (alias : Option (List ℕ)) (i : Item) → item_of a (with_alias alias i) ≡ item_of a i
  item_same alias i = sym (none (expr_of a (out-Item i).expr) alias) ∙ none (expr_of a (out-Item i).expr) (out-Item i).alias

  marks_same : (ts : List Target) (ks : List Kind) (is : List Item) → map (λ i. item_of a i) (items_marked w ts ks is) ≡ map (λ i. item_of a i) is
  marks_same ts ks [] = refl
  marks_same ts ks (i ∷ is) = λ n. item_same (first_mark w ts ks) i n ∷ marks_same (drop 1 ts) (drop 1 ks) is n

  by_kinds : (ts : List Target) (o : Option (List Kind)) (s : Select) → select_of a (select_marked w ts (record { kinds = o; it = s })) ≡ select_of a s
  by_kinds ts None s = refl
  by_kinds ts (Some ks) s = list_same a (items_marked w ts ks (out-Select s).list) s (marks_same ts ks (out-Select s).list)

  -- where marks of operations mean nothing
  pub converted_same : (ts : List Target) (q : Select) → select_of a (elaborated_select w.places q).it ≡ select_of a q → select_of a (into_converted w ts q) ≡ select_of a q
  unfolding into_converted
  converted_same ts q e =
      let m = elaborated_select w.places q in
      by_kinds ts m.kinds m.it ∙ e

-- ---- marks

abbrev pub converts_at : Option Ty → Kind → Bool
converts_at None k = false
converts_at (Some t) k = converts t k

module _ (w : Around) where
  abbrev pub AreMarked : List Target → List Kind → List Item → Type 0
  AreMarked (t ∷ ts) (k ∷ ks) (i ∷ is) = (is_some (out-Item i).alias ≡ converts_at (slot_type w t.1) k) × AreMarked ts ks is
  AreMarked _ _ _ = Unit {0}

  -- for the types that its items have
  abbrev pub IsMarked : Into → Type 0
  IsMarked i = (ks : List Kind) → T i.query w.places ≡ Some ks → AreMarked i.targets ks (out-Select i.query).list

  mark_is : (o : Option Ty) (n : List ℕ) (k : Kind) → is_some (mark_by o n k) ≡ converts_at o k
  mark_is None n k = refl
  mark_is (Some t) n k = by (converts t k)
    where
      by : (c : Bool) → is_some (if c then Some n else None) ≡ c
      by true = refl
      by false = refl

  all_marked : (ts : List Target) (ks : List Kind) (is : List Item) → AreMarked ts ks (items_marked w ts ks is)
  unfolding first_mark
  all_marked (t ∷ ts) (k ∷ ks) (i ∷ is) = (mark_is (slot_type w t.1) t.0 k, all_marked ts ks is)
  all_marked (t ∷ ts) (k ∷ ks) [] = tt
  all_marked [] ks is = tt
  all_marked (t ∷ ts) [] is = tt

  some_same : {A : Type 0} (x y : A) → Some x ≡ Some y → x ≡ y
  some_same x y e = cc

  none_same : {A : Type 0} (o : Option A) (x : A) → o ≡ None → o ≡ Some x → ⊥
  none_same o x e h = cc

  marked_by : (ts : List Target) (o : Option (List Kind)) (s : Select) → T s w.places ≡ o → IsMarked (record { targets = ts; query = select_marked w ts (record { kinds = o; it = s }) })
  marked_by ts None s found ks h = absurd (none_same (T s w.places) ks found h)
  marked_by ts (Some all) s found ks h =
      let list = items_marked w ts all (out-Select s).list in
      let same : T (with_list list s) w.places ≡ Some all = ap (λ (l : typing.Listing). l w.places) (list_kinds list s (marks_same typing.typing (λ x alias. refl) w ts all (out-Select s).list)) ∙ found in
      let there = ap (λ (x : Fields). x.list) (out-roll-Select (record (out-Select s) { list = list })) in
      subst (λ ks. AreMarked ts ks (out-Select (with_list list s)).list) (some_same all ks (sym same ∙ h))
      (subst (AreMarked ts all) (sym there) (all_marked ts all (out-Select s).list))

  into_marked : (ts : List Target) (q : Select) → IsMarked (record { targets = ts; query = into_converted w ts q })
  unfolding into_converted
  into_marked ts q =
      let m = elaborated_select w.places q in
      marked_by ts m.kinds m.it (kinds_are w.places q)

  -- ---- all statements

  abbrev All : List Into → Type 0
  All = Every IsMarked

  abbrev of_stmt : Stmt → List Into
  of_stmt x = stmt_of selecting x

  abbrev of_arm : Arm → List Into
  of_arm x = branch_of selecting x

  by_parts : (u v : List Into) → u ≡ v → All v → All u
  by_parts u v e h = subst All (sym e) h

  behind : (u v : List Into) → All u → All v → All (u ++ v)
  behind u v h k = every_append IsMarked u v h k

  mutual
    pub stmt_marked : (x : Stmt) → All (of_stmt (stmt_of converting x w))
    stmt_marked (b.Block' label decls m body closing) =
        by_parts _ _ (eq.of_block selecting label (decls_converted w decls) (map (λ (f : By Stmt). f w) (stmts_of converting body)) closing) (stmts_marked body)
    stmt_marked (b.Assign name slot e) = tt
    stmt_marked (b.If' m arms o) = by_parts _ _ (eq.of_if selecting (map (λ (f : By Arm). f w) (branches_of converting arms)) (option_map (λ (fs : List (By Stmt)). map (λ (f : By Stmt). f w) fs) (else_of converting o)))
        (behind _ _ (branches_marked arms) (else_marked o))
    stmt_marked (b.Cases' m arms o) = by_parts _ _ (eq.of_cases selecting (map (λ (f : By Arm). f w) (branches_of converting arms)) (option_map (λ (fs : List (By Stmt)). map (λ (f : By Stmt). f w) fs) (else_of converting o)))
        (behind _ _ (branches_marked arms) (else_marked o))
    stmt_marked (b.Loop' label k m body closing) =
        by_parts _ _ (eq.of_loop selecting label (kind_converted w k) (map (λ (f : By Stmt). f w) (stmts_of converting body)) closing) (stmts_marked body)
    stmt_marked (b.Exit label when) = tt
    stmt_marked (b.Continue label when) = tt
    stmt_marked (b.Return e) = tt
    stmt_marked (b.Raise raised) = tt
    stmt_marked (b.Into strict targets query) = (into_marked targets query, tt)
    stmt_marked b.Nothing = tt

    stmts_marked : {m : _} (body : b.Row_of-Stmt m) → All (row_intos (map of_stmt (map (λ (f : By Stmt). f w) (stmts_of converting body))))
    stmts_marked b.end_of-Stmt = tt
    stmts_marked (b.more_of-Stmt x rest) = behind (of_stmt (stmt_of converting x w)) _ (stmt_marked x) (stmts_marked rest)

    branches_marked : {m : _} (arms : b.Row_of-Arm m) → All (row_intos (map of_arm (map (λ (f : By Arm). f w) (branches_of converting arms))))
    branches_marked b.end_of-Arm = tt
    branches_marked (b.more_of-Arm test m body rest) = behind _ _ (stmts_marked body) (branches_marked rest)

    else_marked : (o : b.Held-Stmt-If-1) → All (else_intos (option_map (λ (body : List Stmt). map of_stmt body) (option_map (λ (fs : List (By Stmt)). map (λ (f : By Stmt). f w) fs) (else_of converting o))))
    else_marked b.None' = tt
    else_marked (b.Some' m body) = stmts_marked body
