-- Each SELECT INTO of a checked function has a target for each item of its list.
use Rattle.std.proofs.Common.{◌≡◌, refl, ap, sym, subst, ◌∙◌, Bool, true, false, not, ◌&&◌, ◌||◌, List, [], ◌∷◌, map, fold, length, suc, ◌+◌, Option, Some, None, option_map}
use Rattle.std.specs.Prelude.{if◌then◌else◌}
use Rattle.std.specs.Option.{option_and_then}
use Rattle.away_trees.specs.declared.queries.Expr.TheViews.{out-Select}
use Rattle.away_trees.specs.declared.queries.Item.{Item}
use Rattle.away_trees.specs.declared.queries.Select.{Select}
use Rattle.away_trees.specs.declared.schemas.Schema.{Schema}
use Rattle.away_trees.specs.declared.statements.Function.{Function}
use Rattle.away_trees.specs.declared.statements.Stmt.{Stmt}
use Rattle.away_trees.specs.declared.statements.Stmt.TheBlock as b
use Rattle.away_trees.specs.Algebra.{item_of}
use Rattle.away_trees.specs.StatementAlgebra.{stmt_of, stmts_of, branches_of, else_of}
use Rattle.away_trees.proofs.Equations as tree
use Rattle.away_names.specs.declared.rule.Rule.TheVariants as rule
use Rattle.away_typing.specs.declared.kind.Kind.{Kind}
use Rattle.away_typing.specs.Trees.{kinds_of_select, uses_of_select}
use Rattle.away_typing.specs.Typing.{Places, Frame, Term, typing, inside, kinds, select_kinds}
use Rattle.away_names.specs.Notes.{breaks}
use Rattle.away_types.specs.declared.finding.Report.{Report}
use Rattle.away_types.specs.declared.slots.Slot.{Slot}
use Rattle.away_types.specs.CheckedFunctions.{IsChecked}
use Rattle.away_types.specs.Findings.{own_with, followed, nothing}
use Rattle.away_types.specs.FunctionChecks.{asked_in, body_of, converted_body, function_note, head_note, slots_of, types_note}
use Rattle.away_types.specs.StatementTypes.{Asked, By, asking, asked_stmt, asked_of_targets, all_by, maybe_by, all_taken, slot_of, takes, takes_list}
use Rattle.select_into.specs.Entries.{Target}
use Rattle.block_forms.specs.Intos.{Into, selecting, intos, row_intos, else_intos}
use Rattle.type_soundness.specs.Sorts.{Every}
use Rattle.away_types.proofs.ClearReports.{Clear, clear_own, clear_parts, clear_branches, clear_bodies}
use Rattle.type_soundness.proofs.CleanNotes.{clean_parts, test_fails}
use Rattle.type_soundness.proofs.Lists.{every_append}

abbrev pub HasItsList : Into → Type 0
HasItsList i = length i.targets ≡ length (out-Select i.query).list

-- ---- the list of a select

length_map : {A B : Type 0} (f : A → B) (xs : List A) → length (map f xs) ≡ length xs
length_map f [] = refl
length_map f (x ∷ xs) = ap (λ n. suc n) (length_map f xs)

some_same : {A : Type 0} (x y : A) → Some x ≡ Some y → x ≡ y
some_same x y e = cc

kinds_same : (list : List Kind) (filter : Option Kind) (order : List Kind) (limit : Option Kind) (ks : List Kind) → select_kinds list filter order limit ≡ Some ks → list ≡ ks
unfolding select_kinds
kinds_same list filter order limit ks e = by _ e
  where
    by : (t : Bool) → (if t then Some list else None) ≡ Some ks → list ≡ ks
    by true e = some_same list ks e
    by false e = absurd cc

module _ (list : List Term) (filter : Option Term) (order : List Term) (limit : Option Term) (p : Places) (ks : List Kind) where
  by_frame : (o : Option Frame)
      → option_and_then (λ (frame : Frame). select_kinds (kinds (inside frame p) list) (option_map (λ (t : Term). t (inside frame p)) filter) (kinds (inside frame p) order) (option_map (λ (t : Term). t (inside frame p)) limit)) o ≡ Some ks
      → length list ≡ length ks
  by_frame None e = absurd cc
  by_frame (Some frame) e =
      sym (length_map (λ (t : Term). t (inside frame p)) list) ∙ ap (λ (xs : List Kind). length xs) (kinds_same (kinds (inside frame p) list) _ _ _ ks e)

list_kinds : (q : Select) (p : Places) (ks : List Kind) → kinds_of_select q p ≡ Some ks → length (out-Select q).list ≡ length ks
unfolding kinds_of_select
list_kinds q p ks e =
    sym (length_map (λ (i : Item). item_of typing i) (out-Select q).list)
    ∙ by_frame (map (λ i. item_of typing i) (out-Select q).list) _ _ _ p ks _ (ap (λ f. f p) (sym (tree.select_is typing q)) ∙ e)

-- ---- targets

and_second : (a b : Bool) → (a && b) ≡ true → b ≡ true
and_second true b h = h
and_second false b h = absurd cc

not_false : (a b : Bool) → (not a || b) ≡ false → a ≡ true
not_false true b h = refl
not_false false b h = absurd cc

module _ (a : Asked) where
  as_many : (ts : List Target) (ks : List Kind) → all_taken a ts ks ≡ true → length ts ≡ length ks
  as_many [] [] h = refl
  as_many [] (k ∷ ks) h = absurd cc
  as_many (t ∷ ts) [] h = absurd cc
  as_many (t ∷ ts) (k ∷ ks) h = ap (λ n. suc n) (as_many ts ks (and_second (takes (slot_of a t.1) k) _ h))

  its_list : (ts : List Target) (q : Select) (o : Option (List Kind)) → kinds_of_select q a.places ≡ o → takes_list a ts o ≡ true → HasItsList (record { targets = ts; query = q })
  unfolding takes_list
  its_list [] q o is h = absurd cc
  its_list (t ∷ ts) q None is h = absurd cc
  its_list (t ∷ ts) q (Some ks) is h = as_many (t ∷ ts) ks h ∙ sym (list_kinds q a.places ks is)

  -- ---- statements

  all_clear : (fs : List By) (acc : Report) → Clear (fold (λ r f. followed r (f a)) acc fs) → Clear acc × Every (λ f. Clear (f a)) fs
  all_clear [] acc c = (c, tt)
  all_clear (f ∷ fs) acc c =
      let rest = all_clear fs (followed acc (f a)) c in
      let both = clear_parts acc (f a) rest.0 in
      (both.0, (both.1, rest.1))

  into_lists : (ts : List Target) (q : Select) → Clear (own_with (length ts) (asked_of_targets a ts q)) → HasItsList (record { targets = ts; query = q })
  unfolding asked_of_targets
  into_lists ts q c =
      let types = (clean_parts (breaks rule.Types (not (takes_list a ts (kinds_of_select q a.places)) || (uses_of_select q).limited)) _ (clear_own (1 + length ts) (asked_of_targets a ts q) c)).0 in
      its_list ts q (kinds_of_select q a.places) refl (not_false (takes_list a ts (kinds_of_select q a.places)) (uses_of_select q).limited (test_fails rule.Types _ types))

  mutual
    stmt_lists : (x : Stmt) → Clear (stmt_of asking x a) → Every HasItsList (stmt_of selecting x)
    stmt_lists (b.Block' label decls m body closing) c = stmts_list body (all_clear (stmts_of asking body) nothing (clear_parts _ _ c).1).1
    stmt_lists (b.Assign name slot e) c = tt
    stmt_lists (b.If' m arms o) c =
        let both = clear_branches (all_by (branches_of asking arms) a) (maybe_by (else_of asking o) a) c in
        every_append HasItsList (row_intos (branches_of selecting arms)) (else_intos (else_of selecting o)) (arms_list arms (all_clear (branches_of asking arms) nothing both.0).1) (else_lists o both.1)
    stmt_lists (b.Cases' m arms o) c =
        let both = clear_branches (all_by (branches_of asking arms) a) (maybe_by (else_of asking o) a) c in
        every_append HasItsList (row_intos (branches_of selecting arms)) (else_intos (else_of selecting o)) (arms_list arms (all_clear (branches_of asking arms) nothing both.0).1) (else_lists o both.1)
    stmt_lists (b.Loop' label k m body closing) c = stmts_list body (all_clear (stmts_of asking body) nothing (clear_parts _ _ c).1).1
    stmt_lists (b.Exit label when) c = tt
    stmt_lists (b.Continue label when) c = tt
    stmt_lists (b.Return e) c = tt
    stmt_lists (b.Raise raised) c = tt
    stmt_lists (b.Into strict targets query) c = (into_lists targets query c, tt)
    stmt_lists b.Nothing c = tt

    stmts_list : {m : _} (body : b.Row_of-Stmt m) → Every (λ (f : By). Clear (f a)) (stmts_of asking body) → Every HasItsList (row_intos (stmts_of selecting body))
    stmts_list b.end_of-Stmt c = tt
    stmts_list (b.more_of-Stmt x rest) c = every_append HasItsList (stmt_of selecting x) (row_intos (stmts_of selecting rest)) (stmt_lists x c.0) (stmts_list rest c.1)

    arms_list : {m : _} (arms : b.Row_of-Arm m) → Every (λ (f : By). Clear (f a)) (branches_of asking arms) → Every HasItsList (row_intos (branches_of selecting arms))
    arms_list b.end_of-Arm c = tt
    arms_list (b.more_of-Arm test m body rest) c =
        every_append HasItsList (row_intos (stmts_of selecting body)) (row_intos (branches_of selecting rest)) (stmts_list body (all_clear (stmts_of asking body) nothing (clear_parts _ _ c.0).1).1) (arms_list rest c.1)

    else_lists : (o : b.Held-Stmt-If-1) → Clear (maybe_by (else_of asking o) a) → Every HasItsList (else_intos (else_of selecting o))
    else_lists b.None' c = tt
    else_lists (b.Some' m body) c = stmts_list body (all_clear (stmts_of asking body) nothing (clear_parts _ _ c).1).1

-- ---- a whole function

body_lists : (schema : Schema) (f : Function) → Clear (function_note schema f) → Every HasItsList (intos (converted_body schema f))
unfolding asked_stmt intos
body_lists schema f c =
    stmt_lists (asked_in schema (slots_of schema f) f.result) (converted_body schema f) (clear_bodies (length f.params) (head_note f) (body_of schema f).note (types_note schema f) c).1

pub checked_lists : (schema : Schema) (written f : Function) (slots : List Slot) → IsChecked schema written f slots → Every HasItsList (intos f.body)
checked_lists schema written f slots h = subst (λ (f : Function). Every HasItsList (intos f.body)) (sym h.function) (body_lists schema written h.unbroken)
