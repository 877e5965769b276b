-- How the functions that were read grow by one file.
use Rattle.std.proofs.Common.{◌≡◌, refl, sym, ◌∙◌, ap, subst, ℕ, zero, suc, ◌+◌, ◌<◌, ◌≤◌, get_or, drop, map, List, [], ◌∷◌, ◌++◌, length, arith}
use Rattle.away_trees.specs.declared.statements.Function.{Function}
use Rattle.away_top.specs.declared.host.Files.{Ghosts as Files}
use Rattle.away_top.specs.declared.ending.Halt.{Halt}
use Rattle.away_top.specs.Course.{Course}
use Rattle.away_top.specs.ExpandCourse.{functions_behind, functions_course, reading_course}
use Rattle.away_top.specs.Runs.{End, wants_memory, goes_on, Follows}
use Rattle.away_top.specs.Steps.{halt_end}
use Rattle.away_top.proofs.Stretches.{goes_further, stops_early, wants_at_once}

-- ---- the words from a place on

word_at : {X Y : Type 0} (f : X → Y) (xs : List X) (i : ℕ) (x : X) → i < length xs → x ≡ get_or xs i x → drop i (map f xs) ≡ f x ∷ drop (i + 1) (map f xs)
word_at f [] i x lt at = absurd (let no : ⊥ = omega (arith, lt) in no)
word_at f (y ∷ ys) zero x lt at = ap (λ z. f z ∷ map f ys) (sym at)
word_at f (y ∷ ys) (suc i) x lt at =
    word_at f ys i x (omega (arith, lt)) at ∙ ap (λ j. f x ∷ drop j (f y ∷ map f ys)) (let q : suc (i + 1) ≡ suc i + 1 = omega arith in q)

-- the one at the place by its name
pub named_at : {X Y : Type 0} (f : X → Y) (xs : List X) (i : ℕ) (x : X) (name : Y) → i < length xs → x ≡ get_or xs i x → name ≡ f x → drop i (map f xs) ≡ name ∷ drop (i + 1) (map f xs)
named_at f xs i x name lt at is = word_at f xs i x lt at ∙ ap (λ n. n ∷ drop (i + 1) (map f xs)) (sym is)

pub no_word_past : {X Y : Type 0} (f : X → Y) (xs : List X) (i : ℕ) → length xs ≤ i → drop i (map f xs) ≡ []
no_word_past f [] zero le = refl
no_word_past f [] (suc i) le = refl
no_word_past f (y ∷ ys) zero le = absurd (let no : ⊥ = omega (arith, le) in no)
no_word_past f (y ∷ ys) (suc i) le = no_word_past f ys i (omega (arith, le))

-- ---- lists that grow by one

pub grown_by : (all done : List Function) (g f : Function) → all ≡ done ++ g ∷ [] → g ≡ f → all ≡ done ++ f ∷ []
grown_by all done g f is same = is ∙ ap (λ h. done ++ h ∷ []) same

pub grown_first : (all none : List Function) (g f : Function) → all ≡ none ++ g ∷ [] → none ≡ [] → g ≡ f → all ≡ f ∷ []
grown_first all none g f is empty same = grown_by all none g f is same ∙ ap (λ fs. fs ++ f ∷ []) empty

-- ---- what was read

-- the main file and those up to a place were read, and a run that goes on with the others is a run of all
pub record ReadTo {D : Type 0} (F : Files D) (main : List ℕ) (more : List (List ℕ)) (old now : D) (i : ℕ) (done : List Function) : Type 0 where
  pub rest : (after : D) (end : End (List Function)) → Follows F now (functions_behind done (drop i more)) after end → Follows F old (functions_course (main ∷ more)) after end

module _ {D : Type 0} (F : Files D) (main : List ℕ) (more : List (List ℕ)) (old : D) where
  abbrev behind_main : Function → Course (List Function)
  behind_main f = functions_behind (f ∷ []) more

  pub main_read : (now : D) (f : Function) (all : List Function) → all ≡ f ∷ [] → Follows F old (reading_course main) now (goes_on f) → ReadTo F main more old now 0 all
  main_read now f all one first = record {
    rest = λ after end rest.
        goes_further F old now after (reading_course main) behind_main f end first (subst (λ fs. Follows F now (functions_behind fs more) after end) one rest);
  }

  pub main_stops : (now : D) (halt : Halt) → Follows F old (reading_course main) now (halt_end halt) → Follows F old (functions_course (main ∷ more)) now (halt_end halt)
  main_stops now halt first = stops_early F old now (reading_course main) behind_main halt first

  pub main_wants : (now : D) (f : Function) → Follows F old (reading_course main) now (goes_on f) → Follows F old (functions_course (main ∷ more)) now wants_memory
  main_wants now f first = goes_further F old now now (reading_course main) behind_main f wants_memory first (wants_at_once F now (behind_main f))

  module _ (now : D) (i : ℕ) (done : List Function) (h : ReadTo F main more old now i done) where
    pub functions_end : drop i more ≡ [] → Follows F old (functions_course (main ∷ more)) now (goes_on done)
    functions_end past = h.rest now (goes_on done) (subst (λ left. Follows F now (functions_behind done left) now (goes_on done)) (sym past) (record { same = refl; how = refl }))

    module _ (name : List ℕ) (at : drop i more ≡ name ∷ drop (i + 1) more) where
      abbrev next : Function → Course (List Function)
      next f = functions_behind (done ++ f ∷ []) (drop (i + 1) more)

      whole : (after : D) (end : End (List Function)) → Follows F now (functions_behind done (name ∷ drop (i + 1) more)) after end → Follows F old (functions_course (main ∷ more)) after end
      whole after end h2 = h.rest after end (subst (λ left. Follows F now (functions_behind done left) after end) (sym at) h2)

      pub functions_stop : (after : D) (halt : Halt) → Follows F now (reading_course name) after (halt_end halt) → Follows F old (functions_course (main ∷ more)) after (halt_end halt)
      functions_stop after halt first = whole after (halt_end halt) (stops_early F now after (reading_course name) next halt first)

      module _ (middle : D) (f : Function) (first : Follows F now (reading_course name) middle (goes_on f)) where
        pub functions_more : (all : List Function) → all ≡ done ++ f ∷ [] → ReadTo F main more old middle (i + 1) all
        functions_more all grown = record {
          rest = λ after end rest.
              whole after end (goes_further F now middle after (reading_course name) next f end first
              (subst (λ fs. Follows F middle (functions_behind fs (drop (i + 1) more)) after end) grown rest));
        }

        pub functions_want : Follows F old (functions_course (main ∷ more)) middle wants_memory
        functions_want = whole middle wants_memory (goes_further F now middle middle (reading_course name) next f wants_memory first (wants_at_once F middle (next f)))
