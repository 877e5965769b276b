-- Reading a row: what is left of it from a place on.
use Rattle.std.proofs.Common.{◌≡◌, ℕ, zero, suc, ◌+◌, ◌-◌, ◌<◌, ◌≤◌, List, [], ◌∷◌, length, get_or, drop, Option, refl, sym, ap, ◌∙◌, arith}
use Rattle.std.proofs.lemmas.List.{drop_more}
use Rattle.tree_events.specs.Events.{Events, Put, row}
use Rattle.sql_meaning.specs.Template.{count_from}
use Rattle.cte_reads.specs.Read.{Reads}
use Rattle.cte_reads.proofs.OneByOne.{then_reads, as_reads}

pub nothing : {events : Events} {k : Option ℕ} → Reads (λ rest. rest) events k k
nothing = record { told = λ rest. (λ e. e, λ e. e) }

-- where the one is what is left of the whole from a place on
abbrev pub Left : Put → Put → Events → Option ℕ → Option ℕ → Type 0
Left left whole events from at = (to : Option ℕ) → Reads left events at to → Reads whole events from to

pub one_read : {left whole one less : Put} {events : Events} {from at next : Option ℕ} → Left left whole events from at → Reads one events at next → ((rest : Events) → one (less rest) ≡ left rest)
    → Left less whole events from next
one_read h r e to k = h to (as_reads e (then_reads r k))

pub all_read : {left whole : Put} {events : Events} {from at : Option ℕ} → Left left whole events from at → ((rest : Events) → rest ≡ left rest) → Reads whole events from at
all_read {at = at} h e = h at (as_reads e nothing)

-- ---- the rest of a row

pub nothing_behind : {X : Type 0} (xs : List X) (i : ℕ) → length xs ≤ i → drop i xs ≡ []
nothing_behind [] zero le = refl
nothing_behind [] (suc i) le = refl
nothing_behind (x ∷ xs) zero le = absurd (omega arith)
nothing_behind (x ∷ xs) (suc i) le = nothing_behind xs i (omega arith)

pub row_next : {X : Type 0} (f : X → Put) (xs : List X) (i : ℕ) (d : X) → i < length xs → (rest : Events) → f (get_or xs i d) (row f (drop (i + 1) xs) rest) ≡ row f (drop i xs) rest
row_next f xs i d lt rest = ap (λ l. row f l rest) (sym (drop_more xs i d lt))

pub row_over : {X : Type 0} (f : X → Put) (xs : List X) (i : ℕ) → length xs ≤ i → (rest : Events) → rest ≡ row f (drop i xs) rest
row_over f xs i le rest = ap (λ l. row f l rest) (sym (nothing_behind xs i le))

-- ---- numbers one after the other

count_more : (i n : ℕ) → i < n → count_from i (n - i) ≡ i ∷ count_from (i + 1) (n - (i + 1))
count_more i n lt =
    let one : n - i ≡ suc (n - (i + 1)) = omega arith in let two : suc i ≡ i + 1 = omega arith in
    ap (count_from i) one ∙ ap (λ j. i ∷ count_from j (n - (i + 1))) two

pub numbers_next : (f : ℕ → Put) (i n : ℕ) → i < n → (rest : Events) → f i (row f (count_from (i + 1) (n - (i + 1))) rest) ≡ row f (count_from i (n - i)) rest
numbers_next f i n lt rest = ap (λ l. row f l rest) (sym (count_more i n lt))

pub numbers_over : (f : ℕ → Put) (i n : ℕ) → n ≤ i → (rest : Events) → rest ≡ row f (count_from i (n - i)) rest
numbers_over f i n le rest = let none : 0 ≡ n - i = omega arith in ap (λ k. row f (count_from i k) rest) none
