-- The first row of a compiled query: its types, and its parameters, which stand with one type each.
use Rattle.std.proofs.Common.{◌≡◌, refl, ap, sym, ◌∙◌, subst, ℕ, suc, ◌+◌, pos, Bool, true, false, not, ◌||◌, if◌then◌else◌, List, [], ◌∷◌, ◌++◌, map, fold, Option, Some, None, arith}
use Rattle.std.specs.Prelude.{slice_get, nat_lt, ◌==◌}
use Rattle.std.proofs.lemmas.Bool.{eqb-true}
use Rattle.away_trees.specs.declared.queries.Expr.{Expr}
use Rattle.away_trees.specs.Algebra.{expr_of, item_of, select_of}
use Rattle.away_trees.proofs.Equations as eq
use Rattle.away_typing.specs.declared.kind.Kind.TheVariants.{Of}
use Rattle.away_typing.specs.declared.params.Params.{Params}
use Rattle.away_typing.specs.Aggregates.{using_}
use Rattle.away_typing.specs.Kinds.{same}
use Rattle.away_typing.specs.Parameters.{Found, finding, inserted, clashes, taken}
use Rattle.away_typing.specs.Typing.{Places, typing, inside}
use Rattle.away_values.specs.declared.types.Ty.{Ty}
use Rattle.away_values.specs.declared.types.Ty.TheVariants as ty
use Rattle.call_forms.specs.Forms.{params_of}
use Rattle.call_forms.specs.Template.{entry_place}
use Rattle.sql_meaning.specs.Trees.{number, truth, null_of, item}
use Rattle.sql_meaning.proofs.Lists.{Zipped}
use Rattle.cte_template.specs.Making.{Making}
use Rattle.cte_template.specs.Places.{beside}
use Rattle.cte_template.specs.Tree as t
use Rattle.cte_template.specs.Walks.{keys_of, argument, arguments_at}
use Rattle.cte_types.proofs.BodyTypes.{FillsCells}
use Rattle.type_soundness.specs.Sorts.{Every}
use Rattle.cte_types.proofs.Fine.{Calm, unused_calm, Quiet, number_fine, truth_fine, null_fine}
use Rattle.cte_types.proofs.Rows.{IsOfType, kinds_of, of_types, list_uses, kinds_are, select_calm_of}
use Rattle.cte_types.proofs.WalkTypes.{IsSound, row_types, from_zero, zipped_append}

-- ---- parameters with one type each

-- the parameter of a name, with the name's type
pub record IsOfName (types : ℕ → Ty) (x : ℕ × Ty) : Type 0 where
  pub name : ℕ
  pub number : x.0 ≡ suc name
  pub type : x.1 ≡ types name

pub record AreOfNames (types : ℕ → Ty) (p : Params) : Type 0 where
  pub no_clash : p.clash ≡ false
  pub list : Every (IsOfName types) p.list

same_itself : (t : Ty) → same t t ≡ true
unfolding same
same_itself ty.Bigint = refl
same_itself ty.Boolean = refl
same_itself ty.Text = refl
same_itself ty.Integer = refl

module _ (types : ℕ → Ty) where
  one_type : (x y : ℕ × Ty) → IsOfName types x → IsOfName types y → x.0 ≡ y.0 → not (same x.1 y.1) ≡ false
  one_type x y h k e =
      let same_number : suc h.name ≡ suc k.name = sym h.number ∙ (e ∙ k.number) in
      let name : h.name ≡ k.name = omega (arith, same_number) in
      let type : x.1 ≡ y.1 = h.type ∙ (ap types name ∙ sym k.type) in
      ap (λ t. not (same x.1 t)) (sym type) ∙ ap not (same_itself x.1)

  no_clashes : (x : ℕ × Ty) → IsOfName types x → (ys : List (ℕ × Ty)) → Every (IsOfName types) ys → clashes x ys ≡ false
  no_clashes x h [] k = refl
  no_clashes x h (y ∷ ys) k = by (no_clashes x h ys k.1) (x.0 == y.0) refl
    where
      by : clashes x ys ≡ false → (b : Bool) → (x.0 == y.0) ≡ b → (if b then not (same x.1 y.1) else clashes x ys) ≡ false
      by rest true e = one_type x y h k.0 (eqb-true x.0 y.0 e)
      by rest false e = rest

  still_names : (x : ℕ × Ty) → IsOfName types x → (ys : List (ℕ × Ty)) → Every (IsOfName types) ys → Every (IsOfName types) (inserted x ys)
  still_names x h [] k = (h, tt)
  still_names x h (y ∷ ys) k = by (still_names x h ys k.1) (nat_lt x.0 y.0) (x.0 == y.0)
    where
      by : Every (IsOfName types) (inserted x ys) → (b c : Bool) → Every (IsOfName types) (if b then x ∷ y ∷ ys else if c then y ∷ ys else y ∷ inserted x ys)
      by rest true c = (h, (k.0, k.1))
      by rest false true = (k.0, k.1)
      by rest false false = (k.0, rest)

  taken_names : (p : Params) (x : ℕ × Ty) → IsOfName types x → AreOfNames types p → AreOfNames types (taken p x)
  unfolding taken
  taken_names p x h k = record { no_clash = λ i. k.no_clash i || no_clashes x h p.list k.list i; list = still_names x h p.list k.list }

  -- it adds parameters of names alone
  abbrev pub AddsNames : Found → Type 0
  AddsNames f = (p : Params) → AreOfNames types p → AreOfNames types (f p)

  adds_none : (f : Found) → Quiet f → AddsNames f
  adds_none f h p k = subst (AreOfNames types) (sym (h p)) k

  all_add : (fs : List Found) → Every AddsNames fs → (p : Params) → AreOfNames types p → AreOfNames types (fold (λ p (f : Found). f p) p fs)
  all_add [] h p k = k
  all_add (f ∷ fs) h p k = all_add fs h.1 (f p) (h.0 p k)

  items_add : (es : List Expr) → Every (λ (e : Expr). AddsNames (expr_of finding e)) es → Every AddsNames (map (λ x. item_of finding x) (map item es))
  items_add [] h = tt
  items_add (e ∷ es) h = (h.0, items_add es h.1)

every_append : {A : Type 0} (P : A → Type 0) (xs ys : List A) → Every P xs → Every P ys → Every P (xs ++ ys)
every_append P [] ys h k = k
every_append P (x ∷ xs) ys h k = (h.0, every_append P xs ys h.1 k)

-- ---- the first row

module _ (m : Making) (tables : List (List Ty)) (sound : IsSound m) (entry : ℕ) where
  abbrev place : ℕ
  place = entry_place m.table m.types m.result m.anf m.tail entry

  abbrev keys : List ℕ
  keys = keys_of m place

  abbrev params : List ℕ
  params = params_of (slice_get m.anf.blocks entry)

  abbrev list : List Expr
  list = truth true ∷ number (pos (suc place)) ∷ arguments_at m 0 keys params m.tail.columns ++ (null_of m.result ∷ null_of ty.Text ∷ [])

  module _ (fills : FillsCells tables m.table m.types m.result m.tail.columns keys params) where
    argument_typed : (p : Places) (t : Ty) (o : Option ℕ) → ((n : ℕ) → o ≡ Some n → m.types n ≡ t) → IsOfType p (argument m t o) t
    argument_typed p t None h = let fine = null_fine p t in record { kind = fine.kind; calm = fine.calm }
    argument_typed p t (Some n) h = record { kind = ap (λ t. Of t) (h n refl); calm = unused_calm }

    arguments_typed : (p : Places) (i : ℕ) (ts : List Ty) → ((j : ℕ) (t : Ty) → slice_get ts j ≡ Some t → slice_get m.tail.columns (i + j) ≡ Some t)
        → Zipped (IsOfType p) (arguments_at m i keys params ts) ts
    arguments_typed p i [] h = tt
    arguments_typed p i (t ∷ ts) h =
        let first : i + 0 ≡ i = omega arith in (
          argument_typed p t (beside keys params i) (λ n e. fills i t n (ap (slice_get m.tail.columns) (sym first) ∙ h 0 t refl) e),
          arguments_typed p (suc i) ts (λ j u e. let next : suc i + j ≡ i + suc j = omega arith in ap (slice_get m.tail.columns) next ∙ h (suc j) u e),
        )

    list_typed : (p : Places) → Zipped (IsOfType p) list (row_types m.tail.columns m.result)
    list_typed p = (
      (of_types p (truth true ∷ []) (ty.Boolean ∷ []) (truth_fine p true, tt)).0,
      (
        (of_types p (number (pos (suc place)) ∷ []) (ty.Bigint ∷ []) (number_fine p (pos (suc place)), tt)).0,
        zipped_append (IsOfType p) (arguments_at m 0 keys params m.tail.columns) m.tail.columns (null_of m.result ∷ null_of ty.Text ∷ [])
            (m.result ∷ ty.Text ∷ [])
            (arguments_typed p 0 m.tail.columns (from_zero m.tail.columns))
            (of_types p (null_of m.result ∷ null_of ty.Text ∷ []) (m.result ∷ ty.Text ∷ []) (null_fine p m.result, (null_fine p ty.Text, tt))),
      ),
    )

    pub start_kinds : (p : Places) → select_of typing (t.start m entry) p ≡ Some (kinds_of (row_types m.tail.columns m.result))
    start_kinds p = kinds_are p [] list [] None (row_types m.tail.columns m.result) refl tt (list_typed (inside [] p))

    pub start_calm : (p : Places) → Calm (select_of using_ (t.start m entry)).uses
    start_calm p = select_calm_of list [] None (list_uses p list (row_types m.tail.columns m.result) (list_typed p)) tt unused_calm

  -- ---- its parameters

  argument_adds : (t : Ty) (o : Option ℕ) → AddsNames m.types (expr_of finding (argument m t o))
  argument_adds t None = adds_none m.types (expr_of finding (null_of t)) (null_fine (record { slots = []; frames = []; tables = [] }) t).quiet
  argument_adds t (Some n) = λ p k. taken_names m.types p (suc n, m.types n) (record { name = n; number = refl; type = refl }) k

  arguments_add : (i : ℕ) (ts : List Ty) → Every (λ (e : Expr). AddsNames m.types (expr_of finding e)) (arguments_at m i keys params ts)
  arguments_add i [] = tt
  arguments_add i (t ∷ ts) = (argument_adds t (beside keys params i), arguments_add (suc i) ts)

  list_adds : Every (λ (e : Expr). AddsNames m.types (expr_of finding e)) list
  list_adds =
      let p : Places = record { slots = []; frames = []; tables = [] } in (
        adds_none m.types (expr_of finding (truth true)) (truth_fine p true).quiet,
        (
          adds_none m.types (expr_of finding (number (pos (suc place)))) (number_fine p (pos (suc place))).quiet,
          every_append (λ (e : Expr). AddsNames m.types (expr_of finding e)) (arguments_at m 0 keys params m.tail.columns)
              (null_of m.result ∷ null_of ty.Text ∷ []) (arguments_add 0 m.tail.columns) (
                adds_none m.types (expr_of finding (null_of m.result)) (null_fine p m.result).quiet,
                (adds_none m.types (expr_of finding (null_of ty.Text)) (null_fine p ty.Text).quiet, tt),
              ),
        ),
      )

  pub start_adds : AddsNames m.types (select_of finding (t.start m entry))
  start_adds p k =
      subst (λ (f : Found). AreOfNames m.types (f p)) (sym (eq.of_select finding (map item list) [] None [] None))
      (all_add m.types (map (λ x. item_of finding x) (map item list)) (items_add m.types list list_adds) p k)
