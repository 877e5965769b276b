-- What is known of some written function's checked function holds of it: each fact is a proposition.
use Rattle.std.proofs.Common.{◌≡◌, refl, sym, ap, subst, ◌∙◌, ℕ, zero, suc, ◌+◌, ◌<◌, ◌≤◌, arith, lt-ltb, Bool, true, ◌&&◌, nat_lt, List, [], ◌∷◌, Some}
use Rattle.std.specs.List.{list_all}
use Rattle.std.specs.Coded.{Coded, Coded-set, coded_ℕ, coded_bool, coded_list, coded×, code_by, le_prop}
use Rattle.std.proofs.Math.Logic.{∥∥₁_elim}
use Rattle.away_values.specs.declared.types.Ty.{Ty}
use Rattle.away_values.specs.declared.types.Ty.TheVariants as ty
use Rattle.away_trees.specs.declared.queries.Expr.{Expr}
use Rattle.away_trees.specs.declared.queries.Select.{Select}
use Rattle.away_trees.specs.declared.schemas.Schema.{Schema}
use Rattle.away_trees.specs.declared.statements.Function.{Function}
use Rattle.away_types.specs.declared.slots.Slot.{Slot}
use Rattle.away_types.specs.CheckedFunctions.{IsChecked, IsCheckedOfSome}
use Rattle.sql_meaning.specs.Reads as read
use Rattle.sql_meaning.specs.Reads.{Read, allows, reads}
use Rattle.select_into.specs.Entries.{Target, into_entries}
use Rattle.plsql_meaning.specs.Sight.{query_of}
use Rattle.block_forms.specs.Expressions.{sources, source_expressions, whole_select}
use Rattle.block_forms.specs.Intos.{Into, intos}
use Rattle.block_forms.specs.OwnSlots.{OwnSlots, ReadsBelow, IsInto, named_slots}
use Rattle.block_forms.specs.Places.{Each}
use Rattle.block_forms.specs.Slots.{own_slots, shown_types}
use Rattle.block_forms.specs.Targets.{targets}
use Rattle.type_soundness.specs.Sorts.{Every}
use Rattle.function_facts.proofs.SlotLookups.{IsBelow}
use Rattle.function_facts.proofs.Taken.{SourceBelow, every_more}
use Rattle.function_facts.proofs.SlotsOfParameters.{Owns, OwnInto, of_written}
use Rattle.function_facts.proofs.Entries.{IsEntry, entries_are, stmt_entries}

owns_checked : (s : Schema) (written checked : Function) (slots : List Slot) → IsChecked s written checked slots → Owns checked slots
owns_checked s written checked slots h =
    subst (λ f. Owns f slots) (sym h.function) (subst (Owns _) (sym h.slots_are) (of_written s written h.unbroken))

owns : (f : Function) (slots : List Slot) → IsCheckedOfSome f slots → Owns f slots
owns f slots h = owns_checked h.schema h.written f slots h.checked_is

-- ---- propositions

every_prop : {A : Type 0} (P : A → Type 0) → ((x : A) → IsProp (P x)) → (xs : List A) → IsProp (Every P xs)
every_prop P h [] a b = refl
every_prop P h (x ∷ xs) a b = λ i. (h x a.0 b.0 i, every_prop P h xs a.1 b.1 i)

below_prop : (slots : ℕ) (r : Read) → IsProp (IsBelow slots r)
below_prop slots (read.Slot i) a b = le_prop a b
below_prop slots (read.Param i) a b = absurd a
below_prop slots (read.Table k) a b = refl
below_prop slots (read.Outer c) a b = absurd a

source_prop : (slots : ℕ) (e : Expr) → IsProp (SourceBelow slots e)
source_prop slots e = every_prop (IsBelow slots) (below_prop slots) (reads e)

abbrev number_of : Ty → ℕ
number_of ty.Bigint = 0
number_of ty.Boolean = 1
number_of ty.Text = 2
number_of ty.Integer = 3

abbrev type_of : ℕ → Ty
type_of zero = ty.Bigint
type_of (suc zero) = ty.Boolean
type_of (suc (suc zero)) = ty.Text
type_of _ = ty.Integer

type_back : (t : Ty) → type_of (number_of t) ≡ t
type_back ty.Bigint = refl
type_back ty.Boolean = refl
type_back ty.Text = refl
type_back ty.Integer = refl

into_prop : (slots : ℕ) (i : Into) → IsProp (OwnInto slots i)
into_prop slots i a b = λ j. (le_prop a.0 b.0 j, source_prop slots (query_of i.query) a.1 b.1 j)

coded_type : Coded Ty
coded_type = code_by ℕ coded_ℕ number_of type_of type_back

coded_slot : Coded Slot
coded_slot = code_by (Ty × Bool) (coded× coded_type coded_bool) (λ (s : Slot). (s.ty, s.not_null)) (λ (p : Ty × Bool). record { ty = p.0; not_null = p.1 }) (λ s. refl)

slots_prop : (xs ys : List Slot) → IsProp (xs ≡ ys)
slots_prop = Coded-set (coded_list coded_slot)

-- ---- reads, by a number that no table's place reaches

abbrev bound : List Read → ℕ
bound [] = 0
bound (read.Slot i ∷ rs) = bound rs
bound (read.Param i ∷ rs) = bound rs
bound (read.Table k ∷ rs) = suc k + bound rs
bound (read.Outer c ∷ rs) = bound rs

all_allowed : (slots tables : ℕ) (rs : List Read) → Every (IsBelow slots) rs → bound rs ≤ tables → list_all (allows (λ i. nat_lt i slots) 0 tables) rs ≡ true
all_allowed slots tables [] h l = refl
all_allowed slots tables (read.Slot i ∷ rs) h l = λ j. lt-ltb i slots h.0 j && all_allowed slots tables rs h.1 l j
all_allowed slots tables (read.Param i ∷ rs) h l = absurd h.0
all_allowed slots tables (read.Table k ∷ rs) h l = λ j. lt-ltb k tables (omega (arith, l)) j && all_allowed slots tables rs h.1 (omega (arith, l)) j
all_allowed slots tables (read.Outer c ∷ rs) h l = absurd h.0

reads_below : (slots : ℕ) (e : Expr) → SourceBelow slots e → ReadsBelow slots e
reads_below slots e h = record { tables = bound (reads e); alone = all_allowed slots (bound (reads e)) (reads e) h (omega arith) }

into_below : (slots : ℕ) (i : Into) → OwnInto slots i → IsInto slots i
into_below slots i h = record { some = h.0; reads = reads_below slots (query_of i.query) h.1 }

-- ---- the entries of a SELECT INTO

entries_below : (slots : ℕ) (types : List Ty) (strict : Bool) (ts : List Target) (q : Select) → ReadsBelow slots (query_of q)
    → Every (ReadsBelow slots) (into_entries types strict ts q)
entries_below slots types strict ts q h =
    every_more (IsEntry q) (ReadsBelow slots)
    (λ e k. record { tables = h.tables; alone = ap (λ rs. list_all (allows (λ i. nat_lt i slots) 0 h.tables) rs) k.reads_same ∙ h.alone })
    (into_entries types strict ts q)
    (entries_are types (λ i. nat_lt i slots) h.tables q (record { alone = h.alone }) strict ts)

all_below : (f : Function) → Every (SourceBelow (named_slots f)) (sources whole_select f.body) → Every (ReadsBelow (named_slots f)) (source_expressions f)
unfolding sources
all_below f h =
    let slots = named_slots f in
    stmt_entries (ReadsBelow slots) (into_entries (shown_types f)) (entries_below slots (shown_types f)) f.body
    (every_more (SourceBelow slots) (ReadsBelow slots) (reads_below slots) (sources whole_select f.body) h)

-- ---- by places

each_of : {A : Type 0} (P Q : A → Type 0) → ((x : A) → P x → Q x) → (xs : List A) → Every P xs → Each Q xs
each_of P Q go [] h i x e = cc
each_of P Q go (y ∷ ys) h zero x e = subst Q (same_some y x e) (go y h.0)
  where
    same_some : {A : Type 0} (x y : A) → Some x ≡ Some y → x ≡ y
    same_some x y e = cc
each_of P Q go (y ∷ ys) h (suc i) x e = each_of P Q go ys h.1 i x e

pub own : (f : Function) (slots : List Slot) → ∥ IsCheckedOfSome f slots ∥₁ → OwnSlots f slots
own f slots h =
    let many = named_slots f in
    let reads = ∥∥₁_elim h (every_prop (SourceBelow many) (source_prop many) (sources whole_select f.body)) (λ c. (owns f slots c).reads) in
    let sets = ∥∥₁_elim h (every_prop (λ t. t < many) (λ t. le_prop) (targets f.body)) (λ c. (owns f slots c).sets) in
    let selects = ∥∥₁_elim h (every_prop (OwnInto many) (into_prop many) (intos f.body)) (λ c. (owns f slots c).intos) in
    record {
      slots_are = ∥∥₁_elim h (slots_prop slots (own_slots f)) (λ c. (owns f slots c).slots_are);
      reads = each_of (ReadsBelow many) (ReadsBelow many) (λ e k. k) (source_expressions f) (all_below f reads);
      sets = each_of (λ t. t < many) (λ t. t < many) (λ t k. k) (targets f.body) sets;
      intos = each_of (OwnInto many) (IsInto many) (into_below many) (intos f.body) selects;
    }
