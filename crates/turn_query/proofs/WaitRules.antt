-- Lists of names that wait, along the loops that read them.
use Rattle.std.proofs.Common.{◌≡◌, ℕ, suc, ◌+◌, ◌<◌, ◌≤◌, Bool, true, false, not, ◌&&◌, ◌||◌, List, [], ◌∷◌, ◌++◌, length, drop, get_or, Option, Some, None, refl, sym, ap, ◌∙◌, append-nil, arith}
use Rattle.std.specs.Prelude.{nat_eq}
use Rattle.std.proofs.lemmas.List.{drop_more, at_drop_more, at_drop_all}
use Rattle.away_values.specs.declared.types.Ty.{Ty}
use Rattle.turn_template.specs.TurnTemplate.{is_empty, is_in, reads_none, passed, keys_of, covers, renames, next_cell}
use Rattle.turn_terms.specs.declared.writer.Writer.{Writer}
use Rattle.turn_query.specs.Filled.{in_order}
use Rattle.turn_query.specs.Waits.{goes_on}
use Rattle.turn_query.proofs.TwoLists.{at_first_end, at_second_end}

-- ---- one list

pub among_step : (xs : List ℕ) (i n : ℕ) → i < length xs → is_in (drop i xs) n ≡ (nat_eq n (get_or xs i 0) || is_in (drop (i + 1) xs) n)
among_step xs i n h = at_drop_more (λ l. is_in l n) xs i 0 h

pub among_end : (xs : List ℕ) (i n : ℕ) → length xs ≤ i → is_in (drop i xs) n ≡ false
among_end xs i n h = at_drop_all (λ l. is_in l n) xs i h

pub ruleset among_rules = (among_step, among_end)

pub reads_step : (waits ns : List ℕ) (i : ℕ) → i < length ns
    → reads_none waits (drop i ns) ≡ (not (is_in waits (get_or ns i 0)) && reads_none waits (drop (i + 1) ns))
reads_step waits ns i h = at_drop_more (reads_none waits) ns i 0 h

pub reads_end : (waits ns : List ℕ) (i : ℕ) → length ns ≤ i → reads_none waits (drop i ns) ≡ true
reads_end waits ns i h = at_drop_all (reads_none waits) ns i h

pub ruleset reads_rules = (reads_step, reads_end)

-- ---- keys that stand for a name

no_args : (n : ℕ) (keys : List ℕ) → keys_of n keys [] ≡ []
no_args n [] = refl
no_args n (k ∷ keys) = refl

pub keys_short : (n : ℕ) (keys args : List ℕ) (i : ℕ) (whole list : List ℕ) → length args ≤ i → list ++ keys_of n (drop i keys) (drop i args) ≡ whole → list ≡ whole
keys_short n keys args i whole list h so_far =
    sym (append-nil list) ∙ (ap (λ l. list ++ l) (sym (at_second_end (keys_of n) keys args i h ∙ no_args n (drop i keys))) ∙ so_far)

-- ---- whether the new names cover the old ones

covers_none : (waits after keys : List ℕ) → covers waits after keys [] ≡ true
covers_none waits after [] = refl
covers_none waits after (k ∷ keys) = refl

pub covers_short : (waits after keys args : List ℕ) (i : ℕ) → length args ≤ i → covers waits after (drop i keys) (drop i args) ≡ true
covers_short waits after keys args i h = at_second_end (covers waits after) keys args i h ∙ covers_none waits after (drop i keys)

-- ---- whether the new names stand for the old ones

abbrev of_two : List ℕ → List ℕ → List ℕ → List ℕ → Bool
of_two keys args after waits = renames after waits keys args

pub renames_short : (after waits keys args : List ℕ) (i : ℕ) → i < length after → length waits ≤ i → renames (drop i after) (drop i waits) keys args ≡ false
renames_short after waits keys args i g h =
    at_second_end (of_two keys args) after waits i h ∙ ap (λ l. renames l [] keys args) (drop_more after i 0 g)

pub renames_few : (after waits keys args : List ℕ) (i : ℕ) → length after ≤ i → i ≤ length after → length after < length waits
    → renames (drop i after) (drop i waits) keys args ≡ false
renames_few after waits keys args i g e h =
    at_first_end (of_two keys args) after waits i g ∙ ap (λ l. renames [] l keys args) (drop_more waits i 0 (omega (arith, e, h)))

-- ---- whether the names are passed in order

module _ (w : Writer) (waits places args : List ℕ) (columns : List Ty) (done i k : ℕ) (t : Ty) (next : Option ℕ) (lt : i < length columns) (here : k ≡ i)
    (told : (more : List ℕ → Bool) → next_cell waits (drop done waits) (passed places args k) more ≡ goes_on waits more next) where
  abbrev behind : List ℕ → Bool
  behind left = in_order w waits left (suc i) places args (drop (i + 1) columns)

  step : in_order w waits (drop done waits) i places args (drop i columns) ≡ goes_on waits behind next
  step =
      at_drop_more (λ l. in_order w waits (drop done waits) i places args l) columns i t lt
      ∙ (ap (λ n. next_cell waits (drop done waits) (passed places args n) behind) (sym here) ∙ told behind)

  pub order_fails : next ≡ None → in_order w waits (drop done waits) i places args (drop i columns) ≡ false
  order_fails e = step ∙ ap (goes_on waits behind) e

  pub order_step : (n : ℕ) → next ≡ Some n
      → in_order w waits (drop done waits) i places args (drop i columns) ≡ in_order w waits (drop n waits) (i + 1) places args (drop (i + 1) columns)
  order_step n e =
      let one_on : suc i ≡ i + 1 = omega arith in
      step ∙ (ap (goes_on waits behind) e ∙ ap (λ j. in_order w waits (drop n waits) j places args (drop (i + 1) columns)) one_on)

module _ (w : Writer) (waits places args : List ℕ) (columns : List Ty) (done i : ℕ) (over : length columns ≤ i) where
  at_end : in_order w waits (drop done waits) i places args (drop i columns) ≡ is_empty (drop done waits)
  at_end = at_drop_all (λ l. in_order w waits (drop done waits) i places args l) columns i over

  pub order_short : done < length waits → in_order w waits (drop done waits) i places args (drop i columns) ≡ false
  order_short h = at_end ∙ ap is_empty (drop_more waits done 0 h)
