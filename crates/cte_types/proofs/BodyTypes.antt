-- The bodies of labels keep types: each term has its type, and what a label or a block gets has the type of its place.
use Rattle.std.proofs.Common.{◌≡◌, refl, ap, sym, ◌∙◌, subst, ℕ, zero, suc, ◌<◌, Bool, true, false, if◌then◌else◌, List, [], ◌∷◌, length, get_or, Option, Some, None}
use Rattle.std.specs.Prelude.{slice_get, nat_eq}
use Rattle.std.proofs.lemmas.Bool.{eqb-true}
use Rattle.std.proofs.lemmas.Option.{same_Some, slice_get_within}
use Rattle.away_trees.specs.declared.queries.Expr.{Expr}
use Rattle.away_types.specs.declared.slots.Slot.{Slot}
use Rattle.away_values.specs.declared.types.Ty.{Ty}
use Rattle.away_values.specs.declared.types.Ty.TheVariants as ty
use Rattle.block_forms.specs.declared.forms.Ssa.{Ssa}
use Rattle.block_forms.specs.Forms.{Assignment}
use Rattle.block_forms.specs.Places.{Each, EachPair}
use Rattle.call_forms.specs.declared.forms.Anf.{Anf}
use Rattle.call_forms.specs.declared.forms.AnfBlock.{AnfBlock}
use Rattle.call_forms.specs.declared.forms.Call.{Call}
use Rattle.call_forms.specs.declared.forms.CallEnd.{CallEnd}
use Rattle.call_forms.specs.declared.forms.CallEnd.TheVariants.{Go, Pick, Return, Fail}
use Rattle.call_forms.specs.declared.forms.Tail.{Tail}
use Rattle.call_forms.specs.Bodies.{Body, sets, enters, picks, returns, fails, calls, endless, goes_to, goes, end_body, sets_first, block_body, tree, body_of}
use Rattle.call_forms.specs.Columned.{HasType, PlacesAt, Columned, type_of_name}
use Rattle.call_forms.specs.Forms.{params_of, label_of}
use Rattle.call_forms.specs.Scopes.{paired}
use Rattle.call_forms.specs.Templated.{types_of, type_or_bigint}
use Rattle.call_law.proofs.Labels.{element_there, place_found}
use Rattle.cte_template.specs.Places.{beside}
use Rattle.cte_types.specs.Typed.{TermHasType, CallKeepsTypes, SetHasType, EndHasType, BlockHasTypes, EndKeepsTypes, BlockKeepsTypes}

-- ---- what stands beside a key

pub record Stands (keys names : List ℕ) (i n : ℕ) : Type 0 where
  pub place : ℕ
  pub key : slice_get keys place ≡ Some i
  pub name : slice_get names place ≡ Some n

abbrev beside_by : List ℕ → List ℕ → ℕ → Option ℕ
beside_by keys names i = paired (λ k. Some k) None keys names i

stands_by : (keys names : List ℕ) (i n : ℕ) → beside_by keys names i ≡ Some n → Stands keys names i n
stands_by [] names i n h = absurd (cc)
stands_by (k ∷ keys) [] i n h = absurd (cc)
stands_by (k ∷ keys) (m ∷ names) i n h = by (λ h. stands_by keys names i n h) (nat_eq k i) refl h
  where
    by : (beside_by keys names i ≡ Some n → Stands keys names i n) → (b : Bool) → nat_eq k i ≡ b → (if b then Some m else beside_by keys names i) ≡ Some n
        → Stands (k ∷ keys) (m ∷ names) i n
    by rest true e h = record { place = 0; key = ap (λ k. Some k) (eqb-true k i e); name = h }
    by rest false e h = let more = rest h in record { place = suc more.place; key = more.key; name = more.name }

pub stands_of : (keys names : List ℕ) (i n : ℕ) → beside keys names i ≡ Some n → Stands keys names i n
unfolding beside
stands_of keys names i n h = stands_by keys names i n h

-- ---- bodies

module _ (tables : List (List Ty)) (table : List Expr) (types : ℕ → Ty) (result : Ty) (columns : List Ty) where
  -- a column that gets a name has the name's type
  abbrev pub FillsCells : List ℕ → List ℕ → Type 0
  FillsCells keys args = (i : ℕ) (t : Ty) (n : ℕ) → slice_get columns i ≡ Some t → beside keys args i ≡ Some n → types n ≡ t

  abbrev pub IsTyped : Body → Type 0
  IsTyped (sets n t x) = TermHasType tables table types (types n) t × IsTyped x
  IsTyped (enters params args x) = EachPair (λ i p n. types n ≡ types p) params args × IsTyped x
  IsTyped (picks t x y) = TermHasType tables table types ty.Boolean t × IsTyped x × IsTyped y
  IsTyped (returns t) = TermHasType tables table types result t
  IsTyped (fails c) = Unit {0}
  IsTyped (calls label keys args) = FillsCells keys args
  IsTyped endless = Unit {0}

module _ (slots : List Slot) (z : Ssa) (a : Anf) (r : Tail) (tables : List (List Ty)) (table : List Expr) (result : Ty) (columned : Columned slots z a r)
    (typed : Each (BlockHasTypes tables table (types_of slots z) result) a.blocks) (kept : Each (BlockKeepsTypes (types_of slots z) a) a.blocks) where
  abbrev types : ℕ → Ty
  types = types_of slots z

  -- ---- the places of a label

  -- each parameter's column has its type
  abbrev pub KeyTypes : List ℕ → List ℕ → Type 0
  KeyTypes params keys = EachPair (λ i p c. slice_get r.columns c ≡ Some (types p)) params keys

  column_type : (o column : Option Ty) → HasType o column → column ≡ Some (type_or_bigint o)
  column_type None column h = absurd h
  column_type (Some t) column h = h

  pub record LabelFits (params keys : List ℕ) : Type 0 where
    pub as_many : length keys ≡ length params
    pub have_types : KeyTypes params keys

  places_fit : (o : Option AnfBlock) (keys : List ℕ) → PlacesAt slots z.names r.columns o keys → LabelFits (params_of o) keys
  places_fit None keys h = absurd h
  places_fit (Some x) keys h = record {
    as_many = h.as_many;
    have_types = λ i p c e g. column_type (type_of_name slots z.names p) (slice_get r.columns c)
        (h.typed i p c e g);
  }

  found_or : (keys : List (List ℕ)) (l : ℕ) (k : List ℕ) → slice_get keys l ≡ Some k → get_or keys l [] ≡ k
  found_or [] l k h = absurd (cc)
  found_or (x ∷ keys) zero k h = same_Some x k h
  found_or (x ∷ keys) (suc l) k h = found_or keys l k h

  pub at_label_fits : (l b : ℕ) → slice_get r.labels l ≡ Some b → LabelFits (params_of (slice_get a.blocks b)) (get_or r.places l [])
  at_label_fits l b found =
      let there = element_there r.places l (subst (λ n. l < n) (sym columned.as_many) (slice_get_within r.labels l b found)) in
      subst (LabelFits (params_of (slice_get a.blocks b))) (sym (found_or r.places l there.0 there.1))
      (places_fit (slice_get a.blocks b) there.0 (columned.each l b there.0 found there.1))

  pub own_cells : (params keys : List ℕ) → LabelFits params keys → FillsCells tables table types result r.columns keys params
  own_cells params keys fit i t n column there =
      let at = stands_of keys params i n there in
      same_Some (types n) t (sym (fit.have_types at.place n i at.name at.key) ∙ column)

  passed_cells : (params keys args : List ℕ) → LabelFits params keys → EachPair (λ i p n. types n ≡ types p) params args
      → FillsCells tables table types result r.columns keys args
  passed_cells params keys args fit pass i t n column there =
      let at = stands_of keys args i n there in
      let param = element_there params at.place (subst (λ k. at.place < k) fit.as_many (slice_get_within keys at.place i at.key)) in
      pass at.place param.0 n param.1 at.name ∙ same_Some (types param.0) t (sym (fit.have_types at.place param.0 i param.1 at.key) ∙ column)

  -- ---- trees

  abbrev Typed : Body → Type 0
  Typed = IsTyped tables table types result r.columns

  abbrev EachTyped : (ℕ → Body) → Type 0
  EachTyped trees = (b : ℕ) → Typed (trees b)

  call_typed : (trees : ℕ → Body) → EachTyped trees → (c : Call) → CallKeepsTypes types a c → Typed (goes a r trees c)
  call_typed trees each c pass = by (label_of r c.target) refl
    where
      by : (o : Option ℕ) → label_of r c.target ≡ o → Typed (goes_to a r trees c o)
      by (Some l) found =
          passed_cells (params_of (slice_get a.blocks c.target)) (get_or r.places l []) c.args
          (at_label_fits l c.target (place_found r.labels c.target l found)) pass
      by None found = (pass, each c.target)

  end_typed : (trees : ℕ → Body) → EachTyped trees → (e : CallEnd) → EndHasType tables table types result e → EndKeepsTypes types a e
      → Typed (end_body a r trees e)
  end_typed trees each (Go c) h k = call_typed trees each c k
  end_typed trees each (Pick t x y) h k = (h, call_typed trees each x k.0, call_typed trees each y k.1)
  end_typed trees each (Return t) h k = h
  end_typed trees each (Fail c) h k = tt

  set_typed : (set : Assignment) (x : Body) → SetHasType tables table types set → Typed x → Typed (sets_first a r set x)
  set_typed None x h k = k
  set_typed (Some p) x h k = (h, k)

  block_typed : (trees : ℕ → Body) → EachTyped trees → (b : ℕ) (o : Option AnfBlock) → slice_get a.blocks b ≡ o → Typed (block_body a r trees o)
  block_typed trees each b None h = tt
  block_typed trees each b (Some x) h =
      set_typed x.set (end_body a r trees x.end) (typed b x h).set (end_typed trees each x.end (typed b x h).end (kept b x h).end)

  tree_typed : (d : ℕ) → EachTyped (tree a r d)
  tree_typed zero b = tt
  tree_typed (suc d) b = block_typed (tree a r d) (tree_typed d) b (slice_get a.blocks b) refl

  pub body_typed : (b : ℕ) → Typed (body_of a r b)
  body_typed b = tree_typed (length a.blocks) b
