-- The rows of UNION ALL are of the common kinds of its selects, place by place.
use Rattle.std.proofs.Common.{◌≡◌, refl, sym, ◌∙◌, ap, subst, Bool, true, false, List, [], ◌∷◌, ◌++◌, Option, Some, None, Ok}
use Rattle.std.specs.Prelude.{if◌then◌else◌, fold}
use Rattle.away_values.specs.declared.types.Ty.{Ty}
use Rattle.away_values.specs.declared.values.Value.{Value}
use Rattle.away_values.specs.Results.{mapped}
use Rattle.away_typing.specs.declared.kind.Kind.{Kind}
use Rattle.away_typing.specs.Kinds.{is_right, meet}
use Rattle.away_typing.specs.Typing as typing
use Rattle.away_typing.specs.Typing.{Places}
use Rattle.sql_meaning.specs.Context.{Rows, Context}
use Rattle.sql_meaning.specs.Expressions.{SelectMeaning}
use Rattle.sql_meaning.specs.Selects as meant
use Rattle.sql_meaning.proofs.Lists.{Zipped}
use Rattle.type_soundness.specs.Sorts.{Every}
use Rattle.type_soundness.specs.Surroundings.{AreRows}
use Rattle.type_soundness.proofs.KindRules.{meet_left, meet_right}
use Rattle.type_soundness.proofs.Lists.{every_append}
use Rattle.type_soundness.proofs.Results.{then_of, mapped_of, ok_is}
use Rattle.type_soundness.proofs.Selects.{IsListed, some_is, row_of}

-- ---- rows of one select are rows of both

-- what holds of a row of these kinds holds of it by those
abbrev Passes : List Kind → List Kind → Type 0
Passes ks all = (row : List Value) → IsListed ks row → IsListed all row

every_passes : (ks all : List Kind) → Passes ks all → (rows : Rows) → Every (IsListed ks) rows → Every (IsListed all) rows
every_passes ks all h [] r = tt
every_passes ks all h (row ∷ rows) r = (h row r.0, every_passes ks all h rows r.1)

-- the rows of both sides, behind columns that are done
record Both (done xs ys all : List Kind) : Type 0 where
  rest : List Kind
  all_is : all ≡ done ++ rest
  left : Passes xs rest
  right : Passes ys rest

append_next : {A : Type 0} (xs : List A) (y : A) (zs : List A) → (xs ++ y ∷ []) ++ zs ≡ xs ++ y ∷ zs
append_next [] y zs = refl
append_next (x ∷ xs) y zs = ap (λ l. x ∷ l) (append_next xs y zs)

append_nil : {A : Type 0} (xs : List A) → xs ≡ xs ++ []
append_nil [] = refl
append_nil (x ∷ xs) = ap (λ l. x ∷ l) (append_nil xs)

no_rest : (done all : List Kind) → Some done ≡ Some all → Both done [] [] all
no_rest done all e = record { rest = []; all_is = some_is done all e ∙ append_nil done; left = λ row h. h; right = λ row h. h }

one_more : (done : List Kind) (a b : Kind) (xs ys all : List Kind) → is_right (meet a b) ≡ true → Both (done ++ meet a b ∷ []) xs ys all → Both done (a ∷ xs) (b ∷ ys) all
one_more done a b xs ys all r h = record {
  rest = meet a b ∷ h.rest;
  all_is = h.all_is ∙ append_next done (meet a b) h.rest;
  left = left;
  right = right;
}
  where
    left : Passes (a ∷ xs) (meet a b ∷ h.rest)
    left [] g = absurd g
    left (v ∷ vs) g = (record { right = r; holds = meet_left a b v g.0.holds }, h.left vs g.1)

    right : Passes (b ∷ ys) (meet a b ∷ h.rest)
    right [] g = absurd g
    right (v ∷ vs) g = (record { right = r; holds = meet_right a b v g.0.holds }, h.right vs g.1)

both_step : (t : Bool) (done : List Kind) (a b : Kind) (xs ys all : List Kind) → is_right (meet a b) ≡ t → (typing.both_from (done ++ meet a b ∷ []) xs ys ≡ Some all → Both (done ++ meet a b ∷ []) xs ys all) → (if t then typing.both_from (done ++ meet a b ∷ []) xs ys else None) ≡ Some all → Both done (a ∷ xs) (b ∷ ys) all
both_step true done a b xs ys all r more e = one_more done a b xs ys all r (more e)
both_step false done a b xs ys all r more e = cc

both_of : (done xs ys all : List Kind) → typing.both_from done xs ys ≡ Some all → Both done xs ys all
both_of done [] [] all e = no_rest done all e
both_of done (a ∷ xs) (b ∷ ys) all e = both_step (is_right (meet a b)) done a b xs ys all refl (λ e. both_of (done ++ meet a b ∷ []) xs ys all e) e
both_of done [] (b ∷ ys) all e = cc
both_of done (a ∷ xs) [] all e = cc

-- ---- all selects

module _ (p : Places) (cx : Context) where
  -- the rows of a select are of its kinds
  abbrev pub ListingAt : typing.Listing → SelectMeaning → Type 0
  ListingAt l m = (ks : List Kind) → l p ≡ Some ks → (rows : Rows) → m cx ≡ Ok rows → Every (IsListed ks) rows

  abbrev united : List typing.Listing → Option (Option (List Kind)) → Option (Option (List Kind))
  united ls ks = fold (λ ks l. typing.further ks (l p)) ks ls

  -- behind selects whose common kinds are these
  record After (ls : List typing.Listing) (ms : List SelectMeaning) (before all : List Kind) : Type 0 where
    passes : Passes before all
    rows : (out : Rows) → meant.union ms cx ≡ Ok out → Every (IsListed all) out

  stays_none : (ls : List typing.Listing) (all : List Kind) → united ls (Some None) ≡ Some (Some all) → ⊥
  unfolding typing.further typing.both
  stays_none [] all e = cc
  stays_none (l ∷ ls) all e = stays_none ls all e

  unite : (m : SelectMeaning) (ms : List SelectMeaning) (all : List Kind) → ((rows : Rows) → m cx ≡ Ok rows → Every (IsListed all) rows) → ((out : Rows) → meant.union ms cx ≡ Ok out → Every (IsListed all) out) → (out : Rows) → meant.union (m ∷ ms) cx ≡ Ok out → Every (IsListed all) out
  unite m ms all h g out e =
      let a = then_of (m cx) (λ ys. mapped (λ zs. ys ++ zs) (meant.union ms cx)) out e in
      let b = mapped_of (λ zs. a.x ++ zs) (meant.union ms cx) out a.second in
      subst (Every (IsListed all)) (sym b.second) (every_append (IsListed all) a.x b.x (h a.x a.first) (g b.x b.first))

  same_kinds : (before all : List Kind) → Some (Some before) ≡ Some (Some all) → all ≡ before
  same_kinds before all e = cc

  -- what follows, whatever the common kinds are so far
  abbrev Follows : List typing.Listing → List SelectMeaning → Type 0
  Follows ls ms = (before all : List Kind) → united ls (Some (Some before)) ≡ Some (Some all) → After ls ms before all

  after_two : (l : typing.Listing) (ls : List typing.Listing) (m : SelectMeaning) (ms : List SelectMeaning) → ListingAt l m → Follows ls ms → (before own next all : List Kind) → l p ≡ Some own → typing.both_from [] before own ≡ Some next → united ls (Some (Some next)) ≡ Some (Some all) → After (l ∷ ls) (m ∷ ms) before all
  after_two l ls m ms h follows before own next all s t e =
      let both = both_of [] before own next t in
      let more = follows next all e in
      record {
        passes = λ row g. more.passes row (subst (λ ks. IsListed ks row) (sym both.all_is) (both.left row g));
        rows = unite m ms all
            (λ rows d. every_passes own all (λ row g. more.passes row (subst (λ ks. IsListed ks row) (sym both.all_is) (both.right row g))) rows (h own s rows d))
            more.rows;
      }

  after_one : (l : typing.Listing) (ls : List typing.Listing) (m : SelectMeaning) (ms : List SelectMeaning) → ListingAt l m → Follows ls ms → (before own all : List Kind) → l p ≡ Some own → (o : Option (List Kind)) → typing.both_from [] before own ≡ o → united ls (Some o) ≡ Some (Some all) → After (l ∷ ls) (m ∷ ms) before all
  after_one l ls m ms h follows before own all s None t e = absurd (stays_none ls all e)
  after_one l ls m ms h follows before own all s (Some next) t e = after_two l ls m ms h follows before own next all s t e

  after_step : (l : typing.Listing) (ls : List typing.Listing) (m : SelectMeaning) (ms : List SelectMeaning) → ListingAt l m → Follows ls ms → (before all : List Kind) (o : Option (List Kind)) → l p ≡ o → united ls (Some (typing.both (Some before) o)) ≡ Some (Some all) → After (l ∷ ls) (m ∷ ms) before all
  unfolding typing.both
  after_step l ls m ms h follows before all None s e = absurd (stays_none ls all e)
  after_step l ls m ms h follows before all (Some own) s e = after_one l ls m ms h follows before own all s (typing.both_from [] before own) refl e

  after_of : (ls : List typing.Listing) (ms : List SelectMeaning) → Zipped ListingAt ls ms → Follows ls ms
  unfolding typing.further
  after_of [] [] h before all e = record {
    passes = λ row g. subst (λ ks. IsListed ks row) (sym (same_kinds before all e)) g;
    rows = λ out d. subst (Every (IsListed all)) (sym (ok_is [] out d)) tt;
  }
  after_of (l ∷ ls) (m ∷ ms) h before all e = after_step l ls m ms h.0 (after_of ls ms h.1) before all (l p) refl e
  after_of _ _ h before all e = absurd h

  none_of : (o : Option (Option (List Kind))) (all : List Kind) → typing.or_none o ≡ Some all → o ≡ Some (Some all)
  unfolding typing.or_none
  none_of None all e = cc
  none_of (Some ks) all e = ap (λ x. Some x) e

  pub union_at : (ls : List typing.Listing) (ms : List SelectMeaning) → Zipped ListingAt ls ms → (all : List Kind) → typing.union ls p ≡ Some all → (out : Rows) → meant.union ms cx ≡ Ok out → Every (IsListed all) out
  unfolding typing.further typing.or_none
  union_at [] [] h all e out d = cc
  union_at (l ∷ ls) (m ∷ ms) h all e out d = by (l p) refl (none_of (united ls (Some (l p))) all e)
    where
      by : (o : Option (List Kind)) → l p ≡ o → united ls (Some o) ≡ Some (Some all) → Every (IsListed all) out
      by None s e = absurd (stays_none ls all e)
      by (Some own) s e =
          let more = after_of ls ms h.1 own all e in
          unite m ms all (λ rows d. every_passes own all more.passes rows (h.0 own s rows d)) more.rows out d
  union_at _ _ h all e out d = absurd h

  -- a query's rows
  pub shape_at : (ks : Option (List Kind)) (ts : List Ty) (rows : Rows) → ((all : List Kind) → ks ≡ Some all → Every (IsListed all) rows) → typing.shape_of ks ≡ Some ts → AreRows ts rows
  shape_at None ts rows h e = cc
  shape_at (Some all) ts rows h e = subst (λ ts. AreRows ts rows) (sym (some_is (typing.types_of all) ts e)) (every_map_rows rows (h all refl))
    where
      every_map_rows : (rows : Rows) → Every (IsListed all) rows → AreRows (typing.types_of all) rows
      every_map_rows [] h = tt
      every_map_rows (row ∷ rows) h = (row_of all row h.0, every_map_rows rows h.1)
