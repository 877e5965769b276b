-- Events that are put one behind the other, and what a loop over a list puts.
use Rattle.std.proofs.Common.{◌≡◌, ℕ, zero, suc, ◌+◌, ◌<◌, ◌≤◌, List, [], ◌∷◌, ◌++◌, length, get_or, drop, Result, Ok, Err, refl, sym, ap, ◌∙◌, arith}
use Rattle.away_values.specs.declared.errors.NoMemory.{NoMemory}
use Rattle.tree_events.specs.Events.{Events, Put, Adds, row}

-- ---- one behind the other

pub then_on : {f g : Put} {a b c : Events} {u : Unit {0}} {r : Result (Unit {0}) NoMemory} → Adds f a (Ok u) b → Adds g b r c → Adds (λ rest. f (g rest)) a r c
then_on {g = g} {r = Ok v} h k = record { all = λ rest. k.all rest ∙ h.all (g rest) }
then_on {r = Err e} h k = record { all = tt }

-- the same events
pub as_put : {f g : Put} {a c : Events} {r : Result (Unit {0}) NoMemory} → ((rest : Events) → f rest ≡ g rest) → Adds f a r c → Adds g a r c
as_put {a = a} {r = Ok v} e h = record { all = λ rest. h.all rest ∙ ap (λ z. a ++ z) (e rest) }
as_put {r = Err x} e h = record { all = tt }

-- ---- loops

-- what is there now, before what is left, is what was there, before all of it
pub record Leads (all : Put) (before : Events) (left : Put) (now : Events) : Type 0 where
  pub whole : (rest : Events) → now ++ left rest ≡ before ++ all rest

pub begins : {all : Put} {before : Events} → Leads all before all before
begins = record { whole = λ rest. refl }

-- a list from a place on, by its element there and the rest
pub drop_here : {X : Type 0} (xs : List X) (i : ℕ) (x : X) → i < length xs → x ≡ get_or xs i x → drop i xs ≡ x ∷ drop (i + 1) xs
drop_here [] i x lt e = absurd (omega arith)
drop_here (y ∷ ys) zero x lt e = ap (λ z. z ∷ ys) (sym e)
drop_here (y ∷ ys) (suc i) x lt e = drop_here ys i x (omega arith) e ∙ ap (λ j. x ∷ drop j (y ∷ ys)) (let q : suc (i + 1) ≡ suc i + 1 = omega arith in q)

pub drop_past : {X : Type 0} (xs : List X) (i : ℕ) → length xs ≤ i → drop i xs ≡ []
drop_past [] zero le = refl
drop_past [] (suc i) le = refl
drop_past (x ∷ xs) zero le = absurd (omega arith)
drop_past (x ∷ xs) (suc i) le = drop_past xs i (omega arith)

-- what a loop over a list has left
abbrev pub RowLeads : {X : Type 0} → (X → Put) → List X → Events → ℕ → Events → Type 0
RowLeads f xs before i now = Leads (row f xs) before (row f (drop i xs)) now

pub row_on : {X : Type 0} (f : X → Put) (xs : List X) (i : ℕ) (x : X) {before now next : Events} {u : Unit {0}} → x ≡ get_or xs i x → i < length xs
    → RowLeads f xs before i now → Adds (f x) now (Ok u) next → RowLeads f xs before (i + 1) next
row_on f xs i x {now = now} is lt h k = record {
  whole = λ rest. k.all (row f (drop (i + 1) xs) rest) ∙ (ap (λ l. now ++ row f l rest) (sym (drop_here xs i x lt is)) ∙ h.whole rest);
}

pub row_end : {X : Type 0} (f : X → Put) (xs : List X) (i : ℕ) {before now : Events} {u : Unit {0}} → length xs ≤ i
    → RowLeads f xs before i now → Adds (row f xs) before (Ok u) now
row_end f xs i {now = now} le h = record { all = λ rest. ap (λ l. now ++ row f l rest) (sym (drop_past xs i le)) ∙ h.whole rest }
