-- The parts of a SELECT INTO have their types: its tests are boolean, and a hidden slot has the type of its pick and of the variable that is set from it.
use Rattle.std.proofs.Common.{◌≡◌, refl, ap, sym, ◌∙◌, subst, ℕ, suc, ◌+◌, ◌<◌, Bool, true, false, not, ◌||◌, pos, List, [], ◌∷◌, ◌++◌, map, length, length-append, slice_get, is_some, if◌then◌else◌, Option, Some, None, arith, ◌⊎◌, inl, inr}
use Rattle.std.proofs.lemmas.List.{length-map}
use Rattle.away_values.specs.declared.types.Ty.{Ty}
use Rattle.away_values.specs.declared.types.Ty.TheVariants as ty
use Rattle.away_values.specs.declared.operators.CmpOp.TheVariants as cmp
use Rattle.away_trees.specs.declared.queries.Expr.{Expr}
use Rattle.away_trees.specs.declared.queries.Expr.TheViews.{out-Item, out-Select}
use Rattle.away_trees.specs.declared.queries.Item.{Item}
use Rattle.away_trees.specs.declared.queries.Select.{Select}
use Rattle.away_trees.specs.Algebra.{from_of, select_of}
use Rattle.away_names.specs.declared.rule.Rule.TheVariants as rule
use Rattle.away_names.specs.Notes.{breaks}
use Rattle.away_types.specs.FunctionChecks.{slot_types}
use Rattle.away_types.specs.StatementTypes.{Asked, asked_of_targets, takes, takes_list, all_taken, slot_of}
use Rattle.away_typing.specs.declared.kind.Kind.{Kind}
use Rattle.away_typing.specs.declared.kind.Kind.TheVariants.{Of}
use Rattle.away_typing.specs.Aggregates.{using_}
use Rattle.away_typing.specs.Kinds.{fits, type_of as column_type}
use Rattle.away_typing.specs.Trees.{kinds_of_select, uses_of_select}
use Rattle.away_typing.specs.Typing.{Listing, typing, types_of}
use Rattle.sql_meaning.specs.Template.{below, count_from}
use Rattle.sql_meaning.proofs.Lists.{Zipped}
use Rattle.sql_meaning.proofs.Uses.{and_first, and_second}
use Rattle.elaboration.specs.Converting.{Around, converts, slot_type}
use Rattle.select_into.specs.Entries.{Target, type_of, target_types, checks, cast_at, check_entries, is_converted, pick_entries, pick_entry, into_entries, unmarked}
use Rattle.select_into.specs.Wrapped.{no_row, more_rows, pick_as, picked, as_source}
use Rattle.select_into.proofs.SourceReads.{no_row_slots, more_rows_slots, pick_slots}
use Rattle.block_forms.specs.declared.forms.Term.{Term}
use Rattle.block_forms.specs.declared.places.Position.{Position}
use Rattle.block_forms.specs.Laid.{Setting}
use Rattle.block_forms.specs.Patterns.{Part, node, select_term, copy, onward, check_parts, pick_parts, put_part, put_parts, after_put, puts_of, into_parts}
use Rattle.type_soundness.specs.Sorts.{Every}
use Rattle.type_soundness.proofs.CleanNotes.{Clean, clean_parts, test_fails}
use Rattle.type_soundness.proofs.Deeper.{select_deeper}
use Rattle.cte_types.proofs.EntryTypes.{T, FitsIn, own_types, length_from, kinds_many, unmarked_kinds, picked_kinds, source_shape, compared_kind, pick_as_kind}
use Rattle.cte_types.proofs.EntryUses.{Allowed, compared_calm, pick_as_calm, picked_allowed}
use Rattle.cte_types.proofs.Fine.{type_fits}
use Rattle.cte_types.proofs.FixedTypes.{FixedHave}
use Rattle.cte_types.proofs.IntoMarks.{AreMarked, IsMarked, converts_at}
use Rattle.cte_types.proofs.NullAlone.{own_type}
use Rattle.cte_types.proofs.PartTypes.{places, around, Has, AllHave, have_both, select_has, neither, not_false}
use Rattle.cte_types.proofs.PieceTypes.{ForAt, slot_has, type_in}
use Rattle.cte_types.proofs.Positions.{ItemLinked, VariableAt, TargetAt}
use Rattle.cte_types.proofs.Standing.{Row, row_left, row_right, row_same, Entry, type_at}

-- ---- counts

checks_many : (strict : Bool) (q : Select) → length (check_entries strict q) ≡ checks strict
checks_many true q = refl
checks_many false q = refl

pub entries_many : (shown : List Ty) (strict : Bool) (ts : List Target) (q : Select) → checks strict + length ts ≡ length (into_entries shown strict ts q)
entries_many shown strict ts q =
    let types = target_types shown ts in
    let picks : length (pick_entries types q) ≡ length ts = length-map (below (length types)) (pick_entry types q) ∙ (length_from 0 (length types) ∙ length-map ts (λ (t : Target). type_of shown t.1)) in
    omega (arith, checks_many strict (unmarked q), picks, length-append (check_entries strict (unmarked q)) (pick_entries types q))

-- ---- types

types_back : (ts : List Ty) → types_of (map (λ t. Of t) ts) ≡ ts
unfolding column_type
types_back [] = refl
types_back (t ∷ ts) = ap (λ us. t ∷ us) (types_back ts)

module _ (tables : List (List Ty)) (table : List Expr) (result : Ty) (s : Setting) (shown : List Ty) (fors : ℕ)
    (fixed : FixedHave tables table s.slots result s.numbers.fixed)
    (hidden : (f : ℕ) → f < fors → ForAt s f) where
  abbrev Have : List Part → Type 0
  Have = AllHave tables table s.slots result

  abbrev HasIt : Ty → Term → Type 0
  HasIt = Has tables table s.slots result

  abbrev a : Asked
  a = places tables table s.slots result

  abbrev w : Around
  w = around tables table s.slots result

  abbrev At : ℕ → List Expr → Type 0
  At = Row (Entry table)

  abbrev Targets : ℕ → List Target → Type 0
  Targets = Row (TargetAt table s w shown fors)

  abbrev of_target : Target → Ty
  of_target t = type_of shown t.1

  -- ---- what the check of a SELECT INTO found

  record Found (ts : List Target) (q : Select) : Type 0 where
    kinds : List Kind
    kinds_are : T q a.places ≡ Some kinds
    taken : all_taken a ts kinds ≡ true
    allowed : Allowed (select_of using_ q).uses

  found_by : (ts : List Target) (q : Select) (o : Option (List Kind)) → T q a.places ≡ o → takes_list a ts o ≡ true → Allowed (select_of using_ q).uses → Found ts q
  unfolding takes_list
  found_by [] q o e h u = cc
  found_by (t ∷ ts) q None e h u = cc
  found_by (t ∷ ts) q (Some ks) e h u = record { kinds = ks; kinds_are = e; taken = h; allowed = u }

  found : (ts : List Target) (q : Select) → Clean (asked_of_targets a ts q) → Found ts q
  unfolding asked_of_targets kinds_of_select uses_of_select
  found ts q c =
      let takes_all = takes_list a ts (kinds_of_select q a.places) in
      let limited = (uses_of_select q).limited in
      let both = clean_parts (breaks rule.Types (not takes_all || limited)) (breaks rule.Aggregates (uses_of_select q).misused) c in
      let fails = neither (not takes_all) limited (test_fails rule.Types (not takes_all || limited) both.0) in
      found_by ts q (kinds_of_select q a.places) refl (not_false takes_all fails.0)
      (record { misused = test_fails rule.Aggregates (uses_of_select q).misused both.1; limited = fails.1 })

  -- each target's type takes the item at its place, as it is or converted
  taken_fits : (o : Option ℕ) (k : Kind) → takes (slot_of a o) k ≡ true → VariableAt table s w shown fors o (type_of shown o) → FitsIn (type_of shown o) k
  unfolding takes
  taken_fits None k h v = cc
  taken_fits (Some x) k h v = by (slice_get (slot_types s.slots) x) (type_in s.slots x) h
    where
      by : (o : Option Ty) → (o ≡ None) ⊎ (o ≡ Some (type_at s.slots x)) → takes o k ≡ true → FitsIn (type_of shown (Some x)) k
      by None e h = cc
      by (Some t) (inl e) h = cc
      by (Some t) (inr e) h = subst (λ t. FitsIn t k) v (ap (λ o. takes o k) (sym e) ∙ h)

  -- and the item is marked where it is converted
  marked_there : (o : Option ℕ) (k : Kind) → takes (slot_of a o) k ≡ true → VariableAt table s w shown fors o (type_of shown o) → converts_at (slot_type w o) k ≡ converts (type_of shown o) k
  unfolding takes
  marked_there None k h v = cc
  marked_there (Some x) k h v = by (slice_get (slot_types s.slots) x) (type_in s.slots x) h
    where
      by : (o : Option Ty) → (o ≡ None) ⊎ (o ≡ Some (type_at s.slots x)) → takes o k ≡ true → converts_at o k ≡ converts (type_of shown (Some x)) k
      by None e h = cc
      by (Some t) (inl e) h = cc
      by (Some t) (inr e) h = ap (λ o. converts_at o k) e ∙ ap (λ t. converts t k) v

  all_fit : (ts : List Target) (ks : List Kind) (n : ℕ) → all_taken a ts ks ≡ true → Targets n ts → Zipped FitsIn (target_types shown ts) ks
  all_fit [] [] n h at = tt
  all_fit (t ∷ ts) (k ∷ ks) n h at = (
    taken_fits t.1 k (and_first (takes (slot_of a t.1) k) (all_taken a ts ks) h) at.0.1,
    all_fit ts ks (suc n) (and_second (takes (slot_of a t.1) k) (all_taken a ts ks) h) at.1,
  )
  all_fit [] (k ∷ ks) n h at = cc
  all_fit (t ∷ ts) [] n h at = cc

  -- ---- the parts

  module _ (ts : List Target) (q : Select) (known : Found ts q) where
    deeper : T q (record a.places { frames = [] ∷ [] }) ≡ Some known.kinds
    deeper = select_deeper q a.places ∙ known.kinds_are

    -- without its marks
    abbrev plain : Select
    plain = unmarked q

    plain_deeper : T plain (record a.places { frames = [] ∷ [] }) ≡ Some known.kinds
    plain_deeper = ap (λ (l : Listing). l (record a.places { frames = [] ∷ [] })) (unmarked_kinds q) ∙ deeper

    test_has : (k : ℕ) (e : Expr) → (e ≡ no_row plain) ⊎ (e ≡ more_rows plain) → Entry table k e → HasIt ty.Boolean (select_term k q)
    test_has k e (inl is) h =
        select_has tables table s.slots result k ty.Boolean q (no_row plain) (h ∙ is) (no_row_slots q).same
        (ap (fits ty.Boolean) (compared_kind cmp.Eq plain (pos 0) a.places known.kinds plain_deeper (kinds_many plain _ known.kinds plain_deeper)) ∙ type_fits ty.Boolean)
        (compared_calm cmp.Eq plain (pos 0) (picked_allowed [] q known.allowed))
    test_has k e (inr is) h =
        select_has tables table s.slots result k ty.Boolean q (more_rows plain) (h ∙ is) (more_rows_slots q).same
        (ap (fits ty.Boolean) (compared_kind cmp.Gt plain (pos 1) a.places known.kinds plain_deeper (kinds_many plain _ known.kinds plain_deeper)) ∙ type_fits ty.Boolean)
        (compared_calm cmp.Gt plain (pos 1) (picked_allowed [] q known.allowed))

    checks_have : (strict : Bool) (c k first : ℕ) → At k (check_entries strict plain) → Have (check_parts s.goto s.numbers strict c k q first)
    checks_have false c k first h = (tt, tt)
    checks_have true c k first h =
        let second = row_same (Entry table) (suc k) (k + 1) (more_rows plain ∷ []) (omega arith) h.1 in
        ((tt, test_has k (no_row plain) (inl refl) h.0), ((tt, tt), ((tt, test_has (k + 1) (more_rows plain) (inr refl) second.0), ((tt, tt), tt))))

    module _ (linked : Every ItemLinked (out-Select q).list) (n : ℕ) (stand : Targets n ts) where
      abbrev types : List Ty
      types = target_types shown ts

      abbrev list : List Item
      list = (out-Select q).list

      abbrev Q : Select
      Q = picked types q

      -- the types of its items; of a literal NULL that of its target
      abbrev owns : List Ty
      owns = own_types types known.kinds

      abbrev ks : List Kind
      ks = map (λ t. Of t) owns

      kinds_are : T Q (record a.places { frames = [] ∷ [] }) ≡ Some ks
      kinds_are = picked_kinds q _ types known.kinds deeper (all_fit ts known.kinds n known.taken stand) linked

      shape : from_of typing (as_source Q) a.places [] ≡ Some (types_of ks)
      shape = source_shape Q a.places ks kinds_are (kinds_many Q _ ks kinds_are)

      pick_has : (k j : ℕ) (t : Ty) (κ : Kind) (i : Item) → slice_get types j ≡ Some t → slice_get owns j ≡ Some (own_type t κ) → slice_get list j ≡ Some i → FitsIn t κ
          → is_some (out-Item i).alias ≡ converts t κ → Entry table k (pick_entry types q j) → HasIt t (select_term k q)
      pick_has k j t κ i at_type at_own at_item f marked h =
          let c : Option Ty = if is_some (out-Item i).alias then Some t else None in
          let cast : cast_at types list j ≡ c = λ n. if is_converted (at_item n) then at_type n else None in
          select_has tables table s.slots result k t q (pick_as c Q j) (h ∙ ap (λ c. pick_as c Q j) cast) (pick_slots types q c j).same
          (ap (fits t) (pick_as_kind Q a.places ks j t κ shape (ap (λ us. slice_get us j) (types_back owns) ∙ at_own) f (is_some (out-Item i).alias) marked) ∙ type_fits t)
          (pick_as_calm c Q j (picked_allowed types q known.allowed))

      -- the same lists from a place on
      record From (us : List Target) (κs : List Kind) (is : List Item) (j : ℕ) : Type 0 where
        types_from : (l : ℕ) → slice_get (target_types shown us) l ≡ slice_get types (l + j)
        owns_from : (l : ℕ) → slice_get (own_types (target_types shown us) κs) l ≡ slice_get owns (l + j)
        items_from : (l : ℕ) → slice_get is l ≡ slice_get list (l + j)
        many : length is ≡ length κs
        taken : all_taken a us κs ≡ true
        marks : AreMarked w us κs is

      further : {A : Type 0} (xs : List A) (j : ℕ) (f : ℕ → Option A) → ((l : ℕ) → f l ≡ slice_get xs (l + j)) → (l : ℕ) → f (suc l) ≡ slice_get xs (l + suc j)
      further xs j f h l = let z : suc l + j ≡ l + suc j = omega arith in h (suc l) ∙ ap (slice_get xs) z

      here : {A : Type 0} (xs : List A) (j : ℕ) (x : A) → Some x ≡ slice_get xs (0 + j) → slice_get xs j ≡ Some x
      here xs j x h = let z : j ≡ 0 + j = omega arith in ap (slice_get xs) z ∙ sym h

      -- the picks of the targets from one on
      picks_have : (us : List Target) (κs : List Kind) (is : List Item) (i k h m j puts : ℕ) → h ≡ s.numbers.targets + m → Targets m us → From us κs is j
          → At k (map (pick_entry types q) (count_from j (length (target_types shown us)))) → Have (pick_parts s.goto s.numbers us i k h q puts)
      picks_have [] κs is i k h m j puts e at from entries = tt
      picks_have (u ∷ us) (κ ∷ κs) (x ∷ is) i k h m j puts e at from entries =
          let taken = and_first (takes (slot_of a u.1) κ) (all_taken a us κs) from.taken in
          let more = and_second (takes (slot_of a u.1) κ) (all_taken a us κs) from.taken in
          let set = ap (type_at s.slots) e ∙ at.0.0 in
          let one = pick_has k j (of_target u) κ x (here types j (of_target u) (from.types_from 0)) (here owns j (own_type (of_target u) κ) (from.owns_from 0)) (here list j x (from.items_from 0))
          (taken_fits u.1 κ taken at.0.1) (from.marks.0 ∙ marked_there u.1 κ taken at.0.1) entries.0 in
          let rest : From us κs is (suc j) = record {
            types_from = further types j (slice_get (target_types shown (u ∷ us))) from.types_from;
            owns_from = further owns j (slice_get (own_types (target_types shown (u ∷ us)) (κ ∷ κs))) from.owns_from;
            items_from = further list j (slice_get (x ∷ is)) from.items_from;
            many = omega (arith, from.many);
            taken = more;
            marks = from.marks.1;
          } in (
            (subst (λ t. HasIt t (select_term k q)) (sym set) one, tt),
            picks_have us κs is (i + 1) (k + 1) (h + 1) (suc m) (suc j) puts (omega (arith, e)) at.1 rest
                (row_same (Entry table) (suc k) (k + 1) (map (pick_entry types q) (count_from (suc j) (length (target_types shown us)))) (omega arith) entries.1),
          )
      picks_have (u ∷ us) [] is i k h m j puts e at from entries = absurd (untaken from.taken)
        where
          untaken : false ≡ true → ⊥
          untaken h = cc
      picks_have (u ∷ us) (κ ∷ κs) [] i k h m j puts e at from entries = absurd (omega (arith, from.many))

  put_has : (o : Option ℕ) (c h m next : ℕ) → h ≡ s.numbers.targets + m → type_at s.slots (s.numbers.targets + m) ≡ type_of shown o
      → VariableAt table s w shown fors o (type_of shown o) → Have (put_part s.goto s.numbers s.slots o c h next)
  put_has None c h m next e t v = ((tt, tt), tt)
  put_has (Some x) c h m next e t v =
      slot_has tables table result s fors fixed hidden (slice_get s.slots x) c x next (copy s.numbers.fixed h) refl
      (fixed.copies (type_at s.slots x) h (ap (type_at s.slots) e ∙ (t ∙ sym v)))

  puts_have : (us : List Target) (c h m next : ℕ) → h ≡ s.numbers.targets + m → Targets m us → Have (put_parts s.goto s.numbers s.slots us c h next)
  puts_have [] c h m next e at = tt
  puts_have (u ∷ us) c h m next e at =
      let then_ = after_put s.goto s.numbers s.slots u.1 c in
      let leads = onward us then_ next in
      have_both tables table s.slots result (put_part s.goto s.numbers s.slots u.1 c h leads) (put_parts s.goto s.numbers s.slots us then_ (h + 1) next)
      (put_has u.1 c h m leads e at.0.0 at.0.1) (puts_have us then_ (h + 1) (suc m) next (omega (arith, e)) at.1)

  pub into_has : (strict : Bool) (ts : List Target) (q : Select) → Clean (asked_of_targets a ts q) → (p : Position) (next : ℕ)
      → At p.expr (into_entries shown strict ts q) → Targets p.targets ts → Every ItemLinked (out-Select q).list → IsMarked w (record { targets = ts; query = q })
      → Have (into_parts s.goto s.numbers s.slots strict ts q p next)
  into_has strict ts q c p next h at linked marked =
      let known = found ts q c in
      let types = target_types shown ts in
      let first = onward ts (node s.goto (p.node + 1)) next in
      let puts = puts_of s.goto s.numbers ts p.node in
      let checks_ = check_parts s.goto s.numbers strict (node s.goto p.node) p.expr q first in
      let picks = pick_parts s.goto s.numbers ts (p.node + 1) (p.expr + checks strict) (s.numbers.targets + p.targets) q puts in
      let sets = put_parts s.goto s.numbers s.slots ts puts (s.numbers.targets + p.targets) next in
      let none = λ (l : ℕ). let z : l ≡ l + 0 = omega arith in z in
      let from : From ts q known linked p.targets at ts known.kinds (out-Select q).list 0 = record {
        types_from = λ l. ap (slice_get types) (none l);
        owns_from = λ l. ap (slice_get (own_types types known.kinds)) (none l);
        items_from = λ l. ap (slice_get (out-Select q).list) (none l);
        many = kinds_many q _ known.kinds known.kinds_are;
        taken = known.taken;
        marks = marked known.kinds known.kinds_are;
      } in
      have_both tables table s.slots result checks_ (picks ++ sets)
      (checks_have ts q known strict (node s.goto p.node) p.expr first (row_left (Entry table) p.expr (check_entries strict (unmarked q)) (pick_entries types q) h))
      (have_both tables table s.slots result picks sets
      (picks_have ts q known linked p.targets at ts known.kinds (out-Select q).list (p.node + 1) (p.expr + checks strict) (s.numbers.targets + p.targets) p.targets 0 puts refl at from
      (row_right (Entry table) p.expr (checks strict) (check_entries strict (unmarked q)) (pick_entries types q) (sym (checks_many strict (unmarked q))) h))
      (puts_have ts puts (s.numbers.targets + p.targets) p.targets next refl at))
