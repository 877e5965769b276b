-- The columns are those that the labels need, and each label's parameters have places among them.
use Rattle.std.proofs.Common.{◌≡◌, ℕ, zero, suc, ◌<◌, ◌≤◌, List, [], ◌∷◌, map, length, Option, Some, None, refl, sym, ap, ◌∙◌, subst, inl, inr}
use Rattle.std.specs.Prelude.{slice_get}
use Rattle.std.specs.List.{count_by}
use Rattle.std.proofs.lemmas.Option.{same_Some, none-some}
use Rattle.away_types.specs.declared.slots.Slot.{Slot}
use Rattle.away_typing.specs.Kinds.{same}
use Rattle.away_values.specs.declared.types.Ty.{Ty}
use Rattle.away_values.specs.declared.types.Ty.TheVariants as ty
use Rattle.block_forms.specs.declared.forms.Goto.{Goto}
use Rattle.block_forms.specs.declared.forms.Ssa.{Ssa}
use Rattle.block_forms.specs.Named.{Named}
use Rattle.block_forms.specs.Places.{Each, In}
use Rattle.call_forms.specs.Called.{Called, ParametersOf}
use Rattle.call_forms.specs.Columned.{HasType, type_at, type_of_slot, type_of_name, PlacesOf, PlacesAt, Columned}
use Rattle.call_forms.specs.declared.forms.AnfBlock.{AnfBlock}
use Rattle.call_forms.specs.declared.forms.Anf.{Anf}
use Rattle.call_forms.specs.declared.forms.Tail.{Tail}
use Rattle.call_forms.specs.Forms.{params_of}
use Rattle.call_forms.specs.Tight.{parameters_of_type, ColumnsOfType, Tight}
use Rattle.tail_rec.specs.declared.columns.PerType.{PerType}
use Rattle.tail_rec.specs.Columns.{of_type, most_of, count_of, needed, widths_of, columns_of, starts_of, placed, places_at}
use Rattle.tail_rec.specs.TailForm.{IsColumned, IsTailForm}
use Rattle.tail_rec.proofs.Labelled.{in_among}
use Rattle.tail_rec.proofs.LabelsFit.{merged, depths, reasons}
use Rattle.tail_rec.proofs.Lists.{in_place, some_at}
use Rattle.tail_rec.proofs.Placing.{HasColumns, placed_long, places_typed, places_differ, fits_starts}
use Rattle.tail_rec.proofs.Widths.{most_each, most_is, columns_count}

-- the names' types
name_type : (slots : List Slot) (names : List ℕ) → Each (λ s. s < length slots) names → (p : ℕ) → p < length names
    → (t : Ty) × (type_of_name slots names p ≡ Some t)
name_type slots names below p lt =
    let n = some_at names p lt in
    let s = some_at slots n.0 (below p n.0 n.1) in
    (s.0.ty, ap (type_at slots) n.1 ∙ ap type_of_slot s.1)

module _ (types : ℕ → Option Ty) (xs : List AnfBlock) (labels : List ℕ) where
  width_is : (t : Ty) → of_type (widths_of types xs labels) t ≡ most_of (needed types xs t) 0 labels
  width_is ty.Bigint = refl
  width_is ty.Boolean = refl
  width_is ty.Text = refl
  width_is ty.Integer = refl

  few : (t : Ty) (b : ℕ) → In labels b → needed types xs t b ≤ of_type (widths_of types xs labels) t
  few t b i = subst (λ w. needed types xs t b ≤ w) (sym (width_is t)) (most_each (needed types xs t) 0 labels b i)

map_at : {X Y : Type 0} (f : X → Y) (xs : List X) (i : ℕ) (x : X) (y : Y) → slice_get xs i ≡ Some x → slice_get (map f xs) i ≡ Some y → f x ≡ y
map_at f [] i x y e d = absurd (none-some x e)
map_at f (z ∷ zs) zero x y e d = ap f (sym (same_Some z x e)) ∙ same_Some (f z) y d
map_at f (z ∷ zs) (suc i) x y e d = map_at f zs i x y e d

map_long : {X Y : Type 0} (f : X → Y) (xs : List X) → length (map f xs) ≡ length xs
map_long f [] = refl
map_long f (x ∷ xs) = ap suc (map_long f xs)

-- the columns of any labels that are blocks
module _ (slots : List Slot) (z : Ssa) (a : Anf) (of_slots : Each (λ s. s < length slots) z.names)
    (parameters : Each (ParametersOf (length z.names)) a.blocks) (chosen : List ℕ) (r : Tail)
    (is : IsColumned slots z a chosen r) (are_blocks : Each (λ b. b < length a.blocks) chosen) where
  abbrev types : ℕ → Option Ty
  types = type_of_name slots z.names

  abbrev widths : PerType
  widths = widths_of (type_of_name slots z.names) a.blocks chosen

  parameter_type : (b : ℕ) (x : AnfBlock) → slice_get a.blocks b ≡ Some x → (i p : ℕ) → slice_get x.params i ≡ Some p → (t : Ty) × (types p ≡ Some t)
  parameter_type b x e i p at = name_type slots z.names of_slots p ((parameters b x e).of_form i p at)

  fits : (b : ℕ) (x : AnfBlock) → slice_get a.blocks b ≡ Some x → In chosen b → HasColumns types widths (starts_of widths) x.params
  fits b x e i =
      fits_starts types widths x.params (λ t.
      subst (λ o. count_of types t (params_of o) ≤ of_type widths t) e (few types a.blocks chosen t b i))

  typed_by : (o : Option Ty) (columns : List Ty) (c : ℕ) → ((t : Ty) → o ≡ Some t → slice_get columns c ≡ Some t) → (t : Ty) → o ≡ Some t
      → HasType o (slice_get columns c)
  typed_by None columns c h t e = absurd (none-some t e)
  typed_by (Some u) columns c h t e = h u refl

  places : (b : ℕ) (x : AnfBlock) → slice_get a.blocks b ≡ Some x → In chosen b
      → PlacesOf slots z.names (columns_of widths) x.params (placed types (starts_of widths) x.params)
  places b x e i = record {
    as_many = placed_long types (starts_of widths) x.params;
    distinct = places_differ types widths (starts_of widths) x.params (fits b x e i) (parameter_type b x e);
    typed = λ k p c at place.
        let t = parameter_type b x e k p at in
        typed_by (types p) (columns_of widths) c (places_typed types widths (starts_of widths) x.params (fits b x e i) k p c at place) t.0 t.1;
  }

  places_of_block : (b : ℕ) → b < length a.blocks → In chosen b
      → PlacesAt slots z.names r.columns (slice_get a.blocks b) (places_at types a.blocks (starts_of widths) b)
  places_of_block b lt i =
      let x = some_at a.blocks b lt in
      subst (λ columns. PlacesAt slots z.names columns (slice_get a.blocks b) (places_at types a.blocks (starts_of widths) b)) (sym is.columns)
      (subst (λ o. PlacesAt slots z.names (columns_of widths) o (placed types (starts_of widths) (params_of o))) (sym x.1) (places b x.0 x.1 i))

  pub columned_labels : Columned slots z a r
  columned_labels = record {
    as_many = ap length is.places ∙ map_long (places_at types a.blocks (starts_of widths)) chosen ∙ ap length (sym is.labels);
    each = λ i b ps at place.
        let at_chosen : slice_get chosen i ≡ Some b = ap (λ l. slice_get l i) (sym is.labels) ∙ at in
        let same_places : places_at types a.blocks (starts_of widths) b ≡ ps =
        map_at (places_at types a.blocks (starts_of widths)) chosen i b ps at_chosen (ap (λ l. slice_get l i) (sym is.places) ∙ place) in
        subst (PlacesAt slots z.names r.columns (slice_get a.blocks b)) same_places
        (places_of_block b (are_blocks i b at_chosen) (in_place chosen i b at_chosen));
  }

-- the labels of the tail form that is built
module _ (slots : List Slot) (params : ℕ) (g : Goto) (z : Ssa) (a : Anf) (named : Named (length slots) params g z) (called : Called g z a) (r : Tail) (is : IsTailForm slots g z a r) where
  abbrev widths_built : PerType
  widths_built = widths_of (type_of_name slots z.names) a.blocks r.labels

  pub columned : Columned slots z a r
  columned =
      columned_labels slots z a named.names.of_slots called.parameters r.labels r (record { labels = refl; columns = is.columns; places = is.places })
      (merged g z a called r is.labels).labels_are_blocks

  -- ---- no column is spare

  count_is : (t : Ty) → count_by (same t) r.columns ≡ of_type widths_built t
  count_is t = ap (count_by (same t)) is.columns ∙ columns_count widths_built t

  columns_of_type : (t : Ty) → ColumnsOfType slots z a r t
  columns_of_type t = record {
    enough = λ i b e. subst (λ n. parameters_of_type slots z a t b ≤ n) (sym (count_is t)) (few (type_of_name slots z.names) a.blocks r.labels t b (in_place r.labels i b e));
    none_spare = elim (most_is (needed (type_of_name slots z.names) a.blocks t) 0 r.labels) [
      | inl e ↦ inl (count_is t ∙ (width_is (type_of_name slots z.names) a.blocks r.labels t ∙ e))
      | inr m ↦
          inr (record {
            label = m.0;
            is_label = in_among r.labels m.0 m.1;
            needs = m.2 ∙ sym (count_is t ∙ width_is (type_of_name slots z.names) a.blocks r.labels t);
          })
    ];
  }

  pub tight : Tight slots g z a r
  tight = record { columns = columns_of_type; depths = depths g z a called r is.labels; reasons = reasons g z a called r is.labels }
