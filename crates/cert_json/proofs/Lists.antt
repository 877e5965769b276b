-- Lists in JSON, and reading them item by item.
use Rattle.std.proofs.Common.{◌≡◌, ℕ, zero, suc, ◌+◌, ◌<◌, ◌≤◌, List, [], ◌∷◌, ◌++◌, length, map, drop, get_or, Option, Some, None, refl, sym, ap, ◌∙◌, append_assoc, arith}
use Rattle.std.proofs.lemmas.List.{append-nil}
use Rattle.serde_json.specs.Data.{Data, Items}
use Rattle.serde_json.specs.Find.{as_array}
use Rattle.serde_json.specs.View.{items_of, view}
use Rattle.serde_json.specs.declared.value.Value.{Value}
use Rattle.cert_json.specs.declared.misfit.Misfit.{Misfit}
use Rattle.cert_json.specs.declared.misfit.Misfit.TheVariants as misfit
use Rattle.cert_json.specs.Given.{Fails}
use Rattle.cert_json.specs.Spellings.{◌>>=◌, each, listed, list_in, many}

pub listed_items : (ds : List Data) → listed (items_of ds) ≡ ds
listed_items [] = refl
listed_items (d ∷ ds) = ap (λ es. d ∷ es) (listed_items ds)

-- what was read already, before what is left
abbrev pub prefixed : {A : Type 0} → List A → Option (List A) → Option (List A)
prefixed done None = None
prefixed done (Some more) = Some (done ++ more)

pub none_yet : {A : Type 0} (o : Option (List A)) → o ≡ prefixed [] o
none_yet None = refl
none_yet (Some more) = refl

pub one_more : {A : Type 0} (done : List A) (x : A) (o : Option (List A)) → prefixed done (o >>= λ more. Some (x ∷ more)) ≡ prefixed (done ++ x ∷ []) o
one_more done x None = refl
one_more done x (Some more) = ap Some (sym (append_assoc done (x ∷ []) more))

suc-add-one : (i : ℕ) → suc i + 1 ≡ suc (i + 1)
suc-add-one i = omega arith

drop_get : {A : Type 0} (xs : List A) (i : ℕ) (x : A) → i < length xs → x ≡ get_or xs i x → drop i xs ≡ x ∷ drop (i + 1) xs
drop_get [] i x h e = absurd (omega (arith, h))
drop_get (y ∷ ys) zero x h e = ap (λ z. z ∷ ys) (sym e)
drop_get (y ∷ ys) (suc i) x h e = drop_get ys i x (omega (arith, h)) e ∙ ap (λ n. x ∷ drop n (y ∷ ys)) (sym (suc-add-one i))

drop_past : {A : Type 0} (xs : List A) (i : ℕ) → length xs ≤ i → drop i xs ≡ []
drop_past [] zero h = refl
drop_past [] (suc i) h = refl
drop_past (x ∷ xs) zero h = absurd (omega arith)
drop_past (x ∷ xs) (suc i) h = drop_past xs i (omega arith)

-- reading has come to a place in a list
pub record ReadTo {A : Type 0} (f : Data → Option A) (vs : List Value) (i : ℕ) (done : List A) : Type 0 where
  pub rest : each f (map view vs) ≡ prefixed done (each f (map view (drop i vs)))

pub read_begin : {A : Type 0} (f : Data → Option A) (vs : List Value) → ReadTo f vs 0 []
read_begin f vs = record { rest = none_yet (each f (map view vs)) }

read_at : {A : Type 0} (f : Data → Option A) (vs : List Value) (i : ℕ) (done : List A) (v : Value) → i < length vs → v ≡ get_or vs i v → ReadTo f vs i done
    → each f (map view vs) ≡ prefixed done (f (view v) >>= λ x. each f (map view (drop (i + 1) vs)) >>= λ xs. Some (x ∷ xs))
unfolding each
read_at f vs i done v within at h = h.rest ∙ ap (λ left. prefixed done (each f (map view left))) (drop_get vs i v within at)

pub read_more : {A : Type 0} (f : Data → Option A) (vs : List Value) (i : ℕ) (done all : List A) (v : Value) (x : A) → i < length vs → v ≡ get_or vs i v → ReadTo f vs i done
    → f (view v) ≡ Some x → all ≡ done ++ (x ∷ []) → ReadTo f vs (i + 1) all
read_more f vs i done all v x within at h e grown = record {
  rest = read_at f vs i done v within at h ∙ ap (λ o. prefixed done (o >>= λ y. each f (map view (drop (i + 1) vs)) >>= λ ys. Some (y ∷ ys))) e
      ∙ one_more done x (each f (map view (drop (i + 1) vs))) ∙ ap (λ xs. prefixed xs (each f (map view (drop (i + 1) vs)))) (sym grown);
}

pub read_fails : {A : Type 0} (f : Data → Option A) (vs : List Value) (i : ℕ) (done : List A) (v : Value) (e : Misfit) → i < length vs → v ≡ get_or vs i v → ReadTo f vs i done
    → Fails e (f (view v)) → Fails e (each f (map view vs))
read_fails f vs i done v misfit.NoMemory within at h bad = tt
read_fails f vs i done v misfit.Shape within at h bad =
    read_at f vs i done v within at h ∙ ap (λ o. prefixed done (o >>= λ y. each f (map view (drop (i + 1) vs)) >>= λ ys. Some (y ∷ ys))) bad

pub read_end : {A : Type 0} (f : Data → Option A) (vs : List Value) (i : ℕ) (done : List A) → length vs ≤ i → ReadTo f vs i done → each f (map view vs) ≡ Some done
unfolding each
read_end f vs i done past h = h.rest ∙ ap (λ left. prefixed done (each f (map view left))) (drop_past vs i past) ∙ ap Some (append-nil done)

-- ---- a list of any length

pub many_fails : {A : Type 0} (f : Data → Option A) (d : Data) (ds : List Data) (e : Misfit) → list_in d ≡ Some ds → Fails e (each f ds) → Fails e (many f d)
unfolding many
many_fails f d ds misfit.NoMemory is bad = tt
many_fails f d ds misfit.Shape is bad = ap (λ o. o >>= each f) is ∙ bad

pub many_is : {A : Type 0} (f : Data → Option A) (d : Data) (ds : List Data) (xs : List A) → list_in d ≡ Some ds → each f ds ≡ Some xs → many f d ≡ Some xs
unfolding many
many_is f d ds xs is e = ap (λ o. o >>= each f) is ∙ e

pub list_from : (d : Data) (ds : List Data) (found : Option Items) → found ≡ Some (items_of ds) → as_array d ≡ found → list_in d ≡ Some ds
unfolding list_in
list_from d ds found e is = ap (λ o. o >>= λ es. Some (listed es)) (is ∙ e) ∙ ap Some (listed_items ds)
