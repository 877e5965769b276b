-- The steps through a body.
use Rattle.std.proofs.Common.{◌≡◌, refl, ap, sym, ◌∙◌, subst, ℕ, zero, suc, ◌+◌, List, [], ◌∷◌, ◌++◌, map, length, Option, Some, None, append_assoc, arith}
use Rattle.std.specs.Prelude.{slice_get}
use Rattle.away_trees.specs.declared.queries.Expr.{Expr}
use Rattle.away_trees.specs.declared.queries.Expr.TheViews.{roll-Select}
use Rattle.away_trees.specs.declared.queries.FromItem.{FromItem}
use Rattle.away_trees.specs.declared.queries.Item.{Item}
use Rattle.away_trees.specs.declared.queries.Select.{Select}
use Rattle.away_values.specs.declared.types.Ty.{Ty}
use Rattle.away_values.specs.declared.types.Ty.TheVariants as ty
use Rattle.away_values.specs.declared.values.Class.{Class}
use Rattle.block_forms.specs.declared.forms.Term.{Term}
use Rattle.block_forms.specs.Forms.{Assignment}
use Rattle.call_forms.specs.declared.forms.Call.{Call}
use Rattle.call_forms.specs.declared.forms.CallEnd.{CallEnd}
use Rattle.call_forms.specs.declared.forms.CallEnd.TheVariants.{Go, Pick, Return, Fail}
use Rattle.call_forms.specs.declared.forms.AnfBlock.{AnfBlock}
use Rattle.call_forms.specs.Bodies.{Body, sets, enters, picks, returns, fails, calls, endless, goes_to, goes, end_body, block_body, tree}
use Rattle.call_forms.specs.Forms.{params_of, label_of}
use Rattle.call_forms.specs.Scopes.{Scope, paired}
use Rattle.call_forms.specs.References.{is_not_true}
use Rattle.sql_meaning.specs.Trees.{col, item, null_of}
use Rattle.cte_template.specs.Making.{Making}
use Rattle.cte_template.specs.Places.{nowhere, first_of, stands}
use Rattle.cte_template.specs.Steps.{arm_of, select_of}
use Rattle.cte_parts.specs.Trees.{gate_as, either_carrying}
use Rattle.cte_template.specs.CarriedWalks.{walk, end_row, call_row, all_columns, rest, written, from_block, from_end, from_call, from_set}
use Rattle.cte_template.specs.Written.{Walked, ended, selected, let_at, keys_of, class_text}
use Rattle.cte_template.specs.declared.draft.Gated.{Gated}
use Rattle.cte_template.specs.declared.draft.Draft.{Draft}
use Rattle.cte_template.specs.declared.places.ItemColumn.{ItemColumn}

module _ (m : Making) where
  pub set_none : (body : Body) → from_set m None body ≡ body
  unfolding from_set
  set_none body = refl

  set_some : (n : ℕ) (t : Term) (body : Body) → from_set m (Some (n, t)) body ≡ sets n t body
  unfolding from_set
  set_some n t body = refl

  call_label : (left : ℕ) (c : Call) (l : ℕ) → label_of m.tail c.target ≡ Some l → from_call m left c ≡ calls l (keys_of m l) c.args
  unfolding from_call
  call_label left c l h = ap (λ o. goes_to m.anf m.tail (tree m.anf m.tail left) c o) h

  call_on : (left : ℕ) (c : Call) → label_of m.tail c.target ≡ None → from_call m left c ≡ enters (params_of (slice_get m.anf.blocks c.target)) c.args (from_block m left c.target)
  unfolding from_call from_block
  call_on left c h = ap (λ o. goes_to m.anf m.tail (tree m.anf m.tail left) c o) h

  pub end_go : (left : ℕ) (c : Call) → from_end m left (Go c) ≡ from_call m left c
  unfolding from_end from_call
  end_go left c = refl

  pub end_pick : (left : ℕ) (t : Term) (x y : Call) → from_end m left (Pick t x y) ≡ picks t (from_call m left x) (from_call m left y)
  unfolding from_end from_call
  end_pick left t x y = refl

  pub end_return : (left : ℕ) (t : Term) → from_end m left (Return t) ≡ returns t
  unfolding from_end
  end_return left t = refl

  pub end_fail : (left : ℕ) (c : Class) → from_end m left (Fail c) ≡ fails c
  unfolding from_end
  end_fail left c = refl

  pub block_none : (left b : ℕ) → slice_get m.anf.blocks b ≡ None → from_block m (left + 1) b ≡ endless
  unfolding from_block
  block_none left b h =
      let more : left + 1 ≡ suc left = omega arith in
      ap (λ n. tree m.anf m.tail n b) more ∙ ap (λ o. block_body m.anf m.tail (tree m.anf m.tail left) o) h

  pub block_some : (left b : ℕ) (x : AnfBlock) → slice_get m.anf.blocks b ≡ Some x → from_block m (left + 1) b ≡ from_set m x.set (from_end m left x.end)
  unfolding from_block from_set from_end
  block_some left b x h =
      let more : left + 1 ≡ suc left = omega arith in
      ap (λ n. tree m.anf m.tail n b) more ∙ ap (λ o. block_body m.anf m.tail (tree m.anf m.tail left) o) h

  pub no_blocks : (b : ℕ) → from_block m 0 b ≡ endless
  unfolding from_block
  no_blocks b = refl

module _ (m : Making) (carried : List Ty) where
  pub assigned_none : (depth : ℕ) (places : Scope ItemColumn) (d : Draft) (set : Assignment) (body : Body) → set ≡ None
      → rest m carried depth places d body ≡ rest m carried depth places d (from_set m set body)
  assigned_none depth places d set body h = ap (rest m carried depth places d) (sym (ap (λ o. from_set m o body) h ∙ set_none m body))

  pub assigned_one : (depth : ℕ) (places now : Scope ItemColumn) (d after : Draft) (n : ℕ) (t : Term) (body : Body)
      → now ≡ stands n (first_of depth (length d.items)) places → after.items ≡ d.items ++ (let_at m depth places d.next (m.types n) t ∷ []) → after.next ≡ d.next + 1
      → rest m carried depth now after body ≡ rest m carried depth places d (from_set m (Some (n, t)) body)
  unfolding rest
  assigned_one depth places now d after n t body h items next =
      let counted : after.next ≡ suc d.next = omega (arith, next) in
      (λ i. walk m carried depth (h i) (items i) (counted i) body) ∙ sym (ap (λ x. walk m carried depth places d.items d.next x) (set_some m n t body))

  pub called_label : (left depth : ℕ) (places : Scope ItemColumn) (d : Draft) (c : Call) (l : ℕ) (list : List Item) → label_of m.tail c.target ≡ Some l
      → list ≡ map item (call_row m carried depth places l (keys_of m l) c.args) → written d list ≡ rest m carried depth places d (from_call m left c)
  unfolding rest
  called_label left depth places d c l list h row =
      ap (λ xs. written d xs) row ∙ sym (ap (λ x. walk m carried depth places d.items d.next x) (call_label m left c l h))

  pub called_on : (left depth : ℕ) (places now : Scope ItemColumn) (d : Draft) (c : Call) → label_of m.tail c.target ≡ None
      → now ≡ paired places nowhere (params_of (slice_get m.anf.blocks c.target)) c.args
      → rest m carried depth now d (from_block m left c.target) ≡ rest m carried depth places d (from_call m left c)
  unfolding rest
  called_on left depth places now d c h same =
      ap (λ f. walk m carried depth f d.items d.next (from_block m left c.target)) same ∙ sym (ap (λ x. walk m carried depth places d.items d.next x) (call_on m left c h))

  -- ---- rows

  pub returned_row : (depth : ℕ) (places : Scope ItemColumn) (d after : Draft) (t : Term) (list : List Item)
      → after.items ≡ d.items ++ (let_at m depth places d.next m.result t ∷ []) → after.next ≡ d.next + 1
      → list ≡ map item (end_row m carried depth (col 0 (length d.items) 0) (null_of ty.Text)) → written after list ≡ rest m carried depth places d (returns t)
  unfolding rest
  returned_row depth places d after t list items next row =
      let counted : after.next ≡ suc d.next = omega (arith, next) in
      λ i. record { items = items i; list = row i; next = counted i }

  pub failed_row : (depth : ℕ) (places : Scope ItemColumn) (d : Draft) (c : Class) (list : List Item)
      → list ≡ map item (end_row m carried depth (null_of m.result) (class_text m c)) → written d list ≡ rest m carried depth places d (fails c)
  unfolding rest
  failed_row depth places d c list row = ap (λ xs. written d xs) row

  pub unended_row : (depth : ℕ) (places : Scope ItemColumn) (d : Draft) (list : List Item)
      → list ≡ map item (end_row m carried depth (null_of m.result) (null_of ty.Text)) → written d list ≡ rest m carried depth places d endless
  unfolding rest
  unended_row depth places d list row = ap (λ xs. written d xs) row

  -- ---- arms and tests

  -- an arm from a draft of one gate
  abbrev gated : ℕ → Scope ItemColumn → ℕ → Expr → Body → Walked
  gated depth places alias c body = walk m carried depth places (gate_as alias c ∷ []) (suc alias) body

  arm_gated : (depth : ℕ) (places : Scope ItemColumn) (alias : ℕ) (c : Expr) (gate : Draft) (body : Body)
      → gate.items ≡ gate_as alias c ∷ [] → gate.next ≡ alias + 1 → rest m carried depth places gate body ≡ gated depth places alias c body
  unfolding rest
  arm_gated depth places alias c gate body items next =
      let counted : gate.next ≡ suc alias = omega (arith, next) in
      λ i. walk m carried depth places (items i) (counted i) body

  picked_row : (depth : ℕ) (places : Scope ItemColumn) (d after : Draft) (t : Term) (x y : Body) (first second : Walked) (list : List Item) (alias : ℕ)
      → alias ≡ d.next + 1
      → first ≡ gated (depth + 1) places (alias + 1) (col 2 (length d.items) 0) x
      → second ≡ gated (depth + 1) places first.next (is_not_true (col 2 (length d.items) 0)) y
      → after.items ≡ (d.items ++ (let_at m depth places d.next ty.Boolean t ∷ [])) ++ (either_carrying alias (length carried) (length m.tail.columns) (selected first) (selected second) ∷ [])
      → after.next ≡ second.next → list ≡ map item (all_columns m carried (length d.items + 1))
      → written after list ≡ rest m carried depth places d (picks t x y)
  unfolding rest
  picked_row depth places d after t x y first second list alias named taken other items next row =
      let inside : depth + 1 ≡ suc depth = omega arith in
      let k : ℕ = d.next in
      let c : Expr = col 2 (length d.items) 0 in
      let first_alias : alias + 1 ≡ suc (suc k) = omega (arith, named) in
      let own_alias : alias ≡ suc k = omega (arith, named) in
      let counted : length d.items + 1 ≡ suc (length d.items) = omega arith in
      let one : Walked = walk m carried (suc depth) places (gate_as (suc (suc k)) c ∷ []) (suc (suc (suc k))) x in
      let first_is : first ≡ one = taken ∙ (λ i. walk m carried (inside i) places (gate_as (first_alias i) c ∷ []) (suc (first_alias i)) x) in
      let two : Walked = walk m carried (suc depth) places (gate_as one.next (is_not_true c) ∷ []) (suc one.next) y in
      let second_is : second ≡ two
      = other ∙ (λ i. walk m carried (inside i) places (gate_as (first_is i).next (is_not_true c) ∷ []) (suc (first_is i).next) y) in
      let tail : List FromItem = either_carrying (suc k) (length carried) (length m.tail.columns) (selected one) (selected two) ∷ [] in
      λ i. record {
        items = (items ∙ ((λ j. (d.items ++ (let_at m depth places k ty.Boolean t ∷ [])) ++ (either_carrying (own_alias j) (length carried) (length m.tail.columns) (selected (first_is j)) (selected (second_is j)) ∷ []))
            ∙ append_assoc d.items (let_at m depth places k ty.Boolean t ∷ []) tail)) i;
        list = (row ∙ ap (λ n. map item (all_columns m carried n)) counted) i;
        next = (next ∙ ap (λ (a : Walked). a.next) second_is) i;
      }

  -- a test from its parts as they are written one after the other
  pub picked_done : (depth inside : ℕ) (places : Scope ItemColumn) (d with_test after gate other : Draft) (t : Term) (x y : Body) (first second : Gated) (list : List Item) (place alias : ℕ)
      → place ≡ length d.items → inside ≡ depth + 1 → alias ≡ with_test.next + 1
      → with_test.items ≡ d.items ++ (let_at m depth places d.next ty.Boolean t ∷ []) → with_test.next ≡ d.next + 1
      → gate.items ≡ gate_as alias (col 2 place 0) ∷ [] → gate.next ≡ alias + 1 → first ≡ arm_of (rest m carried inside places gate x)
      → other.items ≡ gate_as first.next (is_not_true (col 2 place 0)) ∷ [] → other.next ≡ first.next + 1 → second ≡ arm_of (rest m carried inside places other y)
      → after.items ≡ with_test.items ++ (either_carrying with_test.next (length carried) (length m.tail.columns) (select_of first) (select_of second) ∷ []) → after.next ≡ second.next
      → list ≡ map item (all_columns m carried (place + 1))
      → written after list ≡ rest m carried depth places d (picks t x y)
  picked_done depth inside places d with_test after gate other t x y first second list place alias at_item deeper named added counted gated_by gate_next first_is other_by other_next second_is items next row =
      let walked : Gated → Walked = λ a. record { items = a.items; list = a.list; next = a.next } in
      let one : walked first ≡ gated (depth + 1) places (with_test.next + 1) (col 2 (length d.items) 0) x
      = ap walked first_is ∙ (ap (λ k. rest m carried k places gate x) deeper
      ∙ arm_gated (depth + 1) places (with_test.next + 1) (col 2 (length d.items) 0) gate x (gated_by ∙ (λ i. gate_as (named i) (col 2 (at_item i) 0) ∷ [])) (gate_next ∙ ap (λ k. k + 1) named)) in
      let two : walked second ≡ gated (depth + 1) places first.next (is_not_true (col 2 (length d.items) 0)) y
      = ap walked second_is ∙ (ap (λ k. rest m carried k places other y) deeper
      ∙ arm_gated (depth + 1) places first.next (is_not_true (col 2 (length d.items) 0)) other y (other_by ∙ (λ i. gate_as first.next (is_not_true (col 2 (at_item i) 0)) ∷ [])) other_next) in
      picked_row depth places d after t x y (walked first) (walked second) list with_test.next counted one two
      (items ∙ (λ i. added i ++ (either_carrying with_test.next (length carried) (length m.tail.columns) (select_of first) (select_of second) ∷ []))) next
      (row ∙ ap (λ k. map item (all_columns m carried (k + 1))) at_item)

pub ruleset end_rules = (end_go, end_pick, end_return, end_fail)

pub ruleset block_rules = (block_none, block_some, no_blocks)
