-- What has to hold of the steps of the plans of functions.
use Rattle.std.proofs.Common.{◌≡◌, ℕ, Bool, true, false, List, [], ◌∷◌, Option, Some, None, refl, sym, subst}
use Rattle.std.specs.Prelude.{bytes_eq, codes}
use Rattle.std.proofs.lemmas.Slice.Eq.{bytes_eq-Decides}
use Rattle.away_grammar.specs.declared.grammar.Mark.TheVariants as m
use Rattle.away_grammar.specs.Terminals.{Terminal, mark, name, integer, string, quote}
use Rattle.away_grammar.specs.Grammar.{schema_qualified}
use Rattle.away_grammar.specs.FunctionGrammar.{Part, perhaps_name}
use Rattle.sql_text.specs.Plans.{Plan, done, fail, take, eat, look, read, with}
use Rattle.sql_text.proofs.Holds.{Holds, name_taken, if_holds}
use Rattle.plsql_parse.specs.Sorts.{part, PartPlan, ReadsAny, begins_word, eat_word, maybe_name, schema_qualified_name, a_name, string_in, quote_in, integer_in}

-- What holds where something is known holds where more is known.
pub known_more : {S : Type 0} {T : S → Type 0} (D : (n : S) → List Terminal → T n → List Terminal → Type 0) {n : S} (p : Plan T n)
    (Known More : List Terminal → Type 0) (begun : (ts : List Terminal) → Known ts → List Terminal) (start : (ts : List Terminal) → More ts → List Terminal)
    (less : (ts : List Terminal) → More ts → Known ts) → ((ts : List Terminal) (k : More ts) → start ts k ≡ begun ts (less ts k)) → Holds D n p Known begun → Holds D n p More start
known_more D {n = n} (done x) Known More begun start less same h = λ ts k. subst (λ b. D n b x ts) (sym (same ts k)) (h ts (less ts k))
known_more D fail Known More begun start less same h = tt
known_more D (take f) Known More begun start less same h = (
  known_more D (f None) _ _ _ _ (λ ts k. (k.0, less ts k.1)) (λ ts k. same ts k.1) h.0,
  λ s. known_more D (f (Some s)) _ _ _ _ (λ ts k. less (s ∷ ts) k) (λ ts k. same (s ∷ ts) k) (h.1 s),
)
known_more D (eat m p q) Known More begun start less same h = (
  known_more D p _ _ _ _ (λ ts k. less (mark m ∷ ts) k) (λ ts k. same (mark m ∷ ts) k) h.0,
  known_more D q Known More begun start less same h.1,
)
known_more D (look f p q) Known More begun start less same h = (
  known_more D p _ _ _ _ (λ ts k. (k.0, less ts k.1)) (λ ts k. same ts k.1) h.0,
  known_more D q Known More begun start less same h.1,
)
known_more D (read s f) Known More begun start less same h = λ x. known_more D (f x) _ _ _ _ (λ rest k. (k.0, less k.0 k.1, k.2)) (λ rest k. same k.0 k.1) (h x)

-- What has to hold of the plan of a part.
abbrev pub PartHolds : (p : Part) → PartPlan p → (Known : List Terminal → Type 0) → ((ts : List Terminal) → Known ts → List Terminal) → Type 0
PartHolds p = Holds ReadsAny (part p)

-- a fact about the terminals beside what is known
pub beside : {p : Part} (Fact Known : List Terminal → Type 0) (begun : (ts : List Terminal) → Known ts → List Terminal) (plan : PartPlan p)
    → PartHolds p plan Known begun → PartHolds p plan (λ ts. Fact ts × Known ts) (λ ts k. begun ts k.1)
beside Fact Known begun plan h = known_more ReadsAny plan Known _ begun _ (λ ts k. k.1) (λ ts k. refl) h

-- Where nothing can be known, anything holds.
nothing_known : {p : Part} (plan : PartPlan p) (Known : List Terminal → Type 0) (begun : (ts : List Terminal) → Known ts → List Terminal)
    → ((ts : List Terminal) → Known ts → ⊥) → PartHolds p plan Known begun
nothing_known (done x) Known begun empty = λ ts k. absurd (empty ts k)
nothing_known fail Known begun empty = tt
nothing_known (take f) Known begun empty = (nothing_known (f None) _ _ (λ ts k. empty ts k.1), λ s. nothing_known (f (Some s)) _ _ (λ ts k. empty (s ∷ ts) k))
nothing_known (eat m p q) Known begun empty = (nothing_known p _ _ (λ ts k. empty (mark m ∷ ts) k), nothing_known q _ _ empty)
nothing_known (look f p q) Known begun empty = (nothing_known p _ _ (λ ts k. empty ts k.1), nothing_known q _ _ empty)
nothing_known (read s f) Known begun empty = λ x. nothing_known (f x) _ _ (λ rest k. empty k.0 k.1)

-- ---- a name that may be there

pub maybe_name_holds : {p : Part} (Known : List Terminal → Type 0) (begun : (ts : List Terminal) → Known ts → List Terminal) (f : Option (List ℕ) → PartPlan p)
    → ((n : Option (List ℕ)) → PartHolds p (f n) (λ ts. Known (perhaps_name n ts)) (λ ts k. begun (perhaps_name n ts) k)) → PartHolds p (maybe_name f) Known begun
maybe_name_holds Known begun f found =
    ((tt, name_taken ReadsAny _ _ _ (λ n. beside _ _ _ (f (Some n)) (found (Some n)))), found None)

-- ---- words

word_named : {p : Part} (Known : List Terminal → Type 0) (begun : (ts : List Terminal) → Known ts → List Terminal) (w z : List ℕ) (plan : PartPlan p) (b : Bool) → bytes_eq z w ≡ b
    → PartHolds p plan (λ ts. Known (name w ∷ ts)) (λ ts k. begun (name w ∷ ts) k)
    → PartHolds p plan (λ ts. (bytes_eq z w ≡ true) × Known (name z ∷ ts)) (λ ts k. begun (name z ∷ ts) k.1)
word_named {p = p} Known begun w z plan true e h =
    let same : z ≡ w = (bytes_eq-Decides z w).0 e in
    beside _ _ _ plan (subst (λ y. PartHolds p plan (λ ts. Known (name y ∷ ts)) (λ ts k. begun (name y ∷ ts) k)) (sym same) h)
word_named Known begun w z plan false e h = nothing_known plan _ _ (λ ts k. cc (e, k.0))

word_taken : {p : Part} (Known : List Terminal → Type 0) (begun : (ts : List Terminal) → Known ts → List Terminal) (w : List ℕ) (plan : PartPlan p)
    → PartHolds p plan (λ ts. Known (name w ∷ ts)) (λ ts k. begun (name w ∷ ts) k)
    → (s : Terminal) → PartHolds p plan (λ ts. (begins_word w (s ∷ ts) ≡ true) × Known (s ∷ ts)) (λ ts k. begun (s ∷ ts) k.1)
word_taken Known begun w plan h (name z) = word_named Known begun w z plan (bytes_eq z w) refl h
word_taken Known begun w plan h _ = nothing_known plan _ _ (λ ts k. cc (k.0))

no_word : (w : List ℕ) (ts : List Terminal) → ts ≡ [] → begins_word w ts ≡ true → ⊥
no_word w [] e h = cc h
no_word w (s ∷ ts) e h = cc e

pub eat_word_holds : {p : Part} (Known : List Terminal → Type 0) (begun : (ts : List Terminal) → Known ts → List Terminal) (w : List ℕ) (plan other : PartPlan p)
    → PartHolds p plan (λ ts. Known (name w ∷ ts)) (λ ts k. begun (name w ∷ ts) k) → PartHolds p other Known begun → PartHolds p (eat_word w plan other) Known begun
eat_word_holds Known begun w plan other h i = ((nothing_known plan _ _ (λ ts k. no_word w ts k.0 k.1.0), word_taken Known begun w plan h), i)

-- ---- what is taken

-- What holds once a terminal of a kind was taken holds once any terminal was taken, since the plan fails at the others.
module _ {p : Part} (Known : Terminal → List Terminal → Type 0) (begun : (s : Terminal) (ts : List Terminal) → Known s ts → List Terminal) where
  pub string_taken : (f : List ℕ → PartPlan p) → ((z : List ℕ) → PartHolds p (f z) (Known (string z)) (begun (string z))) → (s : Terminal) → PartHolds p (with f (string_in (Some s))) (Known s) (begun s)
  string_taken f found (string z) = found z
  string_taken f found _ = tt

  pub quote_taken : (f : List ℕ → PartPlan p) → ((z : List ℕ) → PartHolds p (f z) (Known (quote z)) (begun (quote z))) → (s : Terminal) → PartHolds p (with f (quote_in (Some s))) (Known s) (begun s)
  quote_taken f found (quote z) = found z
  quote_taken f found _ = tt

  pub integer_taken : (f : ℕ → PartPlan p) → ((n : ℕ) → PartHolds p (f n) (Known (integer n)) (begun (integer n))) → (s : Terminal) → PartHolds p (with f (integer_in (Some s))) (Known s) (begun s)
  integer_taken f found (integer n) = found n
  integer_taken f found _ = tt

-- ---- names, perhaps behind `public.`

pub qualified_holds : {p : Part} (Known : List Terminal → Type 0) (begun : (ts : List Terminal) → Known ts → List Terminal) (f : List ℕ → PartPlan p)
    → ((q : Bool) (z : List ℕ) → PartHolds p (f z) (λ ts. Known (schema_qualified q (name z ∷ ts))) (λ ts k. begun (schema_qualified q (name z ∷ ts)) k))
    → PartHolds p (schema_qualified_name f) Known begun
qualified_holds {p = p} Known begun f found = (
  tt,
  name_taken ReadsAny (λ s ts. Known (s ∷ ts)) (λ s ts k. begun (s ∷ ts) k) _ (λ z.
      if_holds ReadsAny _ _ (bytes_eq z (codes "public")) _ _
      (λ h.
      let same : z ≡ codes "public" = (bytes_eq-Decides z (codes "public")).0 h in
      let behind : PartHolds p (a_name f) (λ ts. Known (name (codes "public") ∷ mark m.Dot ∷ ts)) (λ ts k. begun (name (codes "public") ∷ mark m.Dot ∷ ts) k) = (tt, name_taken ReadsAny (λ s ts. Known (name (codes "public") ∷ mark m.Dot ∷ s ∷ ts)) (λ s ts k. begun (name (codes "public") ∷ mark m.Dot ∷ s ∷ ts) k) f (found true)) in
      (subst (λ y. PartHolds p (a_name f) (λ ts. Known (name y ∷ mark m.Dot ∷ ts)) (λ ts k. begun (name y ∷ mark m.Dot ∷ ts) k)) (sym same) behind, found false z))
      (λ h. found false z)),
)
