-- Parts whose terms have the types that are asked of them, where they read slots of the function.
use Rattle.std.proofs.Common.{◌≡◌, refl, ap, sym, ◌∙◌, subst, ℕ, ◌+◌, ◌≤◌, Bool, true, false, not, ◌||◌, nat_eq, List, [], ◌∷◌, ◌++◌, length, get_or, slice_get, Some, None, arith}
use Rattle.std.proofs.lemmas.Bool.{eqb-true}
use Rattle.std.proofs.lemmas.Option.{same_Some}
use Rattle.away_values.specs.declared.types.Ty.{Ty}
use Rattle.away_values.specs.declared.types.Ty.TheVariants as ty
use Rattle.away_trees.specs.declared.queries.Expr.{Expr}
use Rattle.away_trees.specs.declared.queries.Expr.TheVariants as expr
use Rattle.away_trees.specs.declared.queries.Select.{Select}
use Rattle.away_trees.specs.Algebra.{expr_of}
use Rattle.away_types.specs.declared.slots.Slot.{Slot}
use Rattle.away_types.specs.FunctionChecks.{slot_types}
use Rattle.away_types.specs.StatementTypes.{Asked, asked}
use Rattle.away_names.specs.declared.rule.Rule.TheVariants as rule
use Rattle.away_names.specs.Notes.{breaks}
use Rattle.away_typing.specs.Aggregates.{using_, outside}
use Rattle.away_typing.specs.Kinds.{fits}
use Rattle.away_typing.specs.Trees.{kind_of, uses_of}
use Rattle.away_typing.specs.Typing.{typing}
use Rattle.elaboration.specs.Converting.{Around}
use Rattle.sql_meaning.specs.Reads.{slots_of}
use Rattle.select_into.specs.Wrapped.{select_slots}
use Rattle.block_forms.specs.declared.forms.Block.{Block}
use Rattle.block_forms.specs.declared.forms.End.{End}
use Rattle.block_forms.specs.declared.forms.End.TheVariants as jump
use Rattle.block_forms.specs.declared.forms.Term.{Term}
use Rattle.block_forms.specs.Forms.{Assignment}
use Rattle.block_forms.specs.Lowered.{AllStand, TermBelow, one_of, owners, sharers}
use Rattle.block_forms.specs.Patterns.{Part, own, shared, same, never, source_term, select_term}
use Rattle.block_forms.specs.Places.{EachPair}
use Rattle.type_soundness.proofs.CleanNotes.{Clean, clean_parts, test_fails}
use Rattle.cte_types.specs.Typed.{HasTypeBy, TermHasType}
use Rattle.cte_types.proofs.Fine.{Calm, outside_calm}
use Rattle.cte_types.proofs.Standing.{type_at, type_there}

pub neither : (a b : Bool) → (a || b) ≡ false → (a ≡ false) × (b ≡ false)
neither true b h = cc
neither false b h = (refl, h)

pub not_false : (a : Bool) → not a ≡ false → a ≡ true
not_false true h = refl
not_false false h = cc

module _ (tables : List (List Ty)) (table : List Expr) (slots : List Slot) (result : Ty) where
  -- what the function's statements ask types by
  abbrev pub places : Asked
  places = record { places = record { slots = slot_types slots; frames = []; tables = tables }; result = result }

  -- and what they were converted by
  abbrev pub around : Around
  around = record { places = places.places; result = result; counter = ty.Integer }

  -- a term over slots has the type
  abbrev pub Has : Ty → Term → Type 0
  Has t u = TermBelow (length slots) u → TermHasType tables table (type_at slots) t u

  abbrev pub SetHas : Assignment → Type 0
  SetHas None = Unit {0}
  SetHas (Some p) = Has (type_at slots p.0) p.1

  abbrev pub EndHas : End → Type 0
  EndHas (jump.Jump c) = Unit {0}
  EndHas (jump.Branch t c d) = Has ty.Boolean t
  EndHas (jump.Return t) = Has result t
  EndHas (jump.Fail c) = Unit {0}

  abbrev pub BlockHas : Block → Type 0
  BlockHas x = SetHas x.set × EndHas x.end

  abbrev pub PartHas : Part → Type 0
  PartHas (own c x) = BlockHas x
  PartHas (shared c x) = BlockHas x
  PartHas (same c d) = Unit {0}
  PartHas never = Unit {0}

  abbrev pub AllHave : List Part → Type 0
  AllHave [] = Unit {0}
  AllHave (p ∷ ps) = PartHas p × AllHave ps

  pub have_both : (ps qs : List Part) → AllHave ps → AllHave qs → AllHave (ps ++ qs)
  have_both [] qs h k = k
  have_both (p ∷ ps) qs h k = (h.0, have_both ps qs h.1 k)

  -- ---- expressions of the text

  source_typed : (t : Ty) (e : Expr) → Clean (asked places t e) → TermBelow (length slots) (source_term 0 e)
      → HasTypeBy tables (type_at slots) (slots_of e) t e
  unfolding asked
  source_typed t e c below =
      let both = clean_parts (breaks rule.Types (not (fits t (kind_of e places.places)) || (uses_of e).limited)) (breaks rule.Aggregates (outside (uses_of e)).misused) c in
      let fails = neither (not (fits t (kind_of e places.places))) (uses_of e).limited
      (test_fails rule.Types (not (fits t (kind_of e places.places)) || (uses_of e).limited) both.0) in
      record {
        slots = slot_types slots;
        beside = λ k i n at_i at_n.
            subst (λ m. slice_get (slot_types slots) m ≡ Some (type_at slots n)) (same_Some n i (sym at_n ∙ at_i))
            (type_there slots n (below.names k n at_n));
        kind = not_false (fits t (kind_of e places.places)) fails.0;
        limited = fails.1;
        outside_list = test_fails rule.Aggregates (outside (uses_of e)).misused both.1;
      }

  pub source_has : (k : ℕ) (t : Ty) (e : Expr) → get_or table k expr.Null ≡ e → Clean (asked places t e) → Has t (source_term k e)
  source_has k t e h c below =
      subst (HasTypeBy tables (type_at slots) (slots_of e) t) (sym h) (source_typed t e c (record { names = below.names }))

  -- an entry of a SELECT INTO, which reads the slots of the select
  pub select_has : (k : ℕ) (t : Ty) (q : Select) (e : Expr) → get_or table k expr.Null ≡ e → slots_of e ≡ select_slots q
      → fits t (expr_of typing e places.places) ≡ true → Calm (expr_of using_ e).uses → Has t (select_term k q)
  unfolding kind_of uses_of
  select_has k t q e h reads kind calm below =
      subst (HasTypeBy tables (type_at slots) (select_slots q) t) (sym h)
      (record {
        slots = slot_types slots;
        beside = subst (λ (read : List ℕ). EachPair (λ k i n. slice_get (slot_types slots) i ≡ Some (type_at slots n)) read (select_slots q)) (sym reads)
            (λ k i n at_i at_n.
            subst (λ m. slice_get (slot_types slots) m ≡ Some (type_at slots n)) (same_Some n i (sym at_n ∙ at_i))
            (type_there slots n (below.names k n at_n)));
        kind = kind;
        limited = calm.limited;
        outside_list = (outside_calm (expr_of using_ e).uses calm).misused;
      })

  -- ---- a block that has a part

  module _ (blocks : List Block) (c : ℕ) (x : Block) (at : slice_get blocks c ≡ Some x) where
    has_there : (d : ℕ) (y : Block) → d ≡ c → slice_get blocks d ≡ Some y → BlockHas y → BlockHas x
    has_there d y e stand h = subst BlockHas (same_Some y x (sym stand ∙ (ap (slice_get blocks) e ∙ at))) h

    chosen : (d n : ℕ) (y : Block) (t : Bool) → nat_eq d c ≡ t → slice_get blocks d ≡ Some y → BlockHas y → (1 ≤ n → BlockHas x) → 1 ≤ one_of t + n
        → BlockHas x
    chosen d n y true e stand h rest le = has_there d y (eqb-true d c e) stand h
    chosen d n y false e stand h rest le = rest (omega (arith, le))

    pub has_at : (ps : List Part) → AllStand blocks ps → AllHave ps → 1 ≤ owners c ps + sharers c ps → BlockHas x
    has_at [] stand h le = absurd (omega (arith, le))
    has_at (own d y ∷ ps) stand h le =
        chosen d (owners c ps + sharers c ps) y (nat_eq d c) refl stand.0 h.0 (has_at ps stand.1 h.1)
        (in_front (one_of (nat_eq d c)) (owners c ps) (sharers c ps) le)
      where
        in_front : (o m n : ℕ) → 1 ≤ o + m + n → 1 ≤ o + (m + n)
        in_front o m n le = omega (arith, le)
    has_at (shared d y ∷ ps) stand h le =
        chosen d (owners c ps + sharers c ps) y (nat_eq d c) refl stand.0 h.0 (has_at ps stand.1 h.1)
        (behind (one_of (nat_eq d c)) (owners c ps) (sharers c ps) le)
      where
        behind : (o m n : ℕ) → 1 ≤ m + (o + n) → 1 ≤ o + (m + n)
        behind o m n le = omega (arith, le)
    has_at (same d e ∷ ps) stand h le = has_at ps stand.1 h.1 le
    has_at (never ∷ ps) stand h le = absurd stand.0
