-- The starts of the first term: each call at each row has one, with its number and the values of its arguments.
use Rattle.std.proofs.Common.{◌≡◌, ◌⊎◌, inl, inr, refl, ap, sym, ◌∙◌, subst, ℕ, zero, suc, ◌+◌, ◌<◌, List, [], ◌∷◌, ◌++◌, length, get_or, Ok, Err, arith}
use Rattle.away_trees.specs.declared.queries.Expr.{Expr}
use Rattle.away_values.specs.declared.types.Ty.{Ty}
use Rattle.away_values.specs.declared.values.Class.{Class}
use Rattle.away_values.specs.declared.values.Value.{Value}
use Rattle.away_values.specs.Results.{Or, and_then, mapped, each}
use Rattle.sql_meaning.specs.Context.{Frame, Context, inside}
use Rattle.type_soundness.specs.Surroundings.{IsRow}
use Rattle.cte_law.proofs.Worlds.{World}
use Rattle.batch_law.specs.Starts.{Start}
use Rattle.inline_law.specs.Answers.{Every, FitParameters, SomeOf}
use Rattle.inline_law.specs.Filled.{arguments_at}
use Rattle.inline_law.proofs.FirstTerm.{parted, start_at, start_of_values, starts_at}

-- ---- lists

pub every_map : {A : Type 0} (P Q : A → Type 0) (xs : List A) → ((x : A) → P x → Q x) → Every P xs → Every Q xs
every_map P Q [] go h = tt
every_map P Q (x ∷ xs) go h = (go x h.0, every_map P Q xs go h.1)

pub every_of : {A : Type 0} (P : A → Type 0) (xs : List A) → ((x : A) → P x) → Every P xs
every_of P [] go = tt
every_of P (x ∷ xs) go = (go x, every_of P xs go)

pub some_map : {A : Type 0} (P Q : A → Type 0) (xs : List A) → ((x : A) → P x → Q x) → SomeOf P xs → SomeOf Q xs
some_map P Q [] go h = h
some_map P Q (x ∷ xs) go (inl h) = inl (go x h)
some_map P Q (x ∷ xs) go (inr h) = inr (some_map P Q xs go h)

-- what each has and some is
pub every_some : {A : Type 0} (P Q R : A → Type 0) (xs : List A) → ((x : A) → P x → Q x → R x) → Every P xs → SomeOf Q xs → SomeOf R xs
every_some P Q R [] go h k = k
every_some P Q R (x ∷ xs) go h (inl k) = inl (go x h.0 k)
every_some P Q R (x ∷ xs) go h (inr k) = inr (every_some P Q R xs go h.1 k)

pub some_no : {A : Type 0} (P : A → Type 0) (xs : List A) → ((x : A) → P x → ⊥) → SomeOf P xs → ⊥
some_no P [] go h = h
some_no P (x ∷ xs) go (inl h) = go x h
some_no P (x ∷ xs) go (inr h) = some_no P xs go h

pub both_every : {A : Type 0} (P Q : A → Type 0) (xs : List A) → Every P xs → Every Q xs → Every (λ x. P x × Q x) xs
both_every P Q [] h k = tt
both_every P Q (x ∷ xs) h k = ((h.0, k.0), both_every P Q xs h.1 k.1)

pub every_append : {A : Type 0} (P : A → Type 0) (xs ys : List A) → Every P xs → Every P ys → Every P (xs ++ ys)
every_append P [] ys h k = k
every_append P (x ∷ xs) ys h k = (h.0, every_append P xs ys h.1 k)

every_left : {A : Type 0} (P : A → Type 0) (xs ys : List A) → Every P (xs ++ ys) → Every P xs
every_left P [] ys h = tt
every_left P (x ∷ xs) ys h = (h.0, every_left P xs ys h.1)

every_right : {A : Type 0} (P : A → Type 0) (xs ys : List A) → Every P (xs ++ ys) → Every P ys
every_right P [] ys h = h
every_right P (x ∷ xs) ys h = every_right P xs ys h.1

some_left : {A : Type 0} (P : A → Type 0) (xs ys : List A) → SomeOf P xs → SomeOf P (xs ++ ys)
some_left P [] ys h = absurd h
some_left P (x ∷ xs) ys (inl h) = inl h
some_left P (x ∷ xs) ys (inr h) = inr (some_left P xs ys h)

some_right : {A : Type 0} (P : A → Type 0) (xs ys : List A) → SomeOf P ys → SomeOf P (xs ++ ys)
some_right P [] ys h = h
some_right P (x ∷ xs) ys h = inr (some_right P xs ys h)

nothing : {A B : Type 0} (R : A → B → Type 0) (ys : List B) → Every (λ (y : B). Every (λ (x : A). R x y) []) ys
nothing R [] = tt
nothing R (y ∷ ys) = (tt, nothing R ys)

beside : {A B : Type 0} (R : A → B → Type 0) (x : A) (xs : List A) (ys : List B) → Every (λ (y : B). R x y) ys
    → Every (λ (y : B). Every (λ (x : A). R x y) xs) ys
    → Every (λ (y : B). Every (λ (x : A). R x y) (x ∷ xs)) ys
beside R x xs [] h k = tt
beside R x xs (y ∷ ys) h k = ((h.0, k.0), beside R x xs ys h.1 k.1)

-- for each x each y, and for each y each x
pub turned : {A B : Type 0} (R : A → B → Type 0) (xs : List A) (ys : List B) → Every (λ (x : A). Every (λ (y : B). R x y) ys) xs
    → Every (λ (y : B). Every (λ (x : A). R x y) xs) ys
turned R [] ys h = nothing R ys
turned R (x ∷ xs) ys h = beside R x xs ys h.0 (turned R xs ys h.1)

-- ---- parts of results

abbrev got : {A : Type 0} → A → Or A → A
got d (Ok a) = a
got d (Err c) = d

abbrev IsOk : {A : Type 0} → Or A → Type 0
IsOk (Ok a) = Unit {0}
IsOk (Err c) = ⊥

abbrev class_in : {A : Type 0} → Class → Or A → Class
class_in d (Ok a) = d
class_in d (Err c) = c

pub ok_err : {A : Type 0} (o : Or A) (a : A) (c : Class) → o ≡ Ok a → o ≡ Err c → ⊥
ok_err o a c h k = subst IsOk (sym h ∙ k) tt

pub same_ok : {A : Type 0} (o : Or A) (a b : A) → o ≡ Ok a → o ≡ Ok b → a ≡ b
same_ok o a b h k = ap (got a) (sym h ∙ k)

pub same_err : {A : Type 0} (o : Or A) (c d : Class) → o ≡ Err c → o ≡ Err d → c ≡ d
same_err o c d h k = ap (class_in c) (sym h ∙ k)

pub record Both {A : Type 0} (x y : Or (List A)) (zs : List A) : Type 0 where
  pub first : List A
  pub second : List A
  pub one : x ≡ Ok first
  pub two : y ≡ Ok second
  pub is : zs ≡ first ++ second

joined_parts : {A : Type 0} (x y : Or (List A)) (zs : List A) → and_then x (λ xs. mapped (λ ys. xs ++ ys) y) ≡ Ok zs → Both x y zs
joined_parts (Ok xs) (Ok ys) zs h = record { first = xs; second = ys; one = refl; two = refl; is = ap (got zs) (sym h) }
joined_parts (Ok xs) (Err c) zs h = absurd (subst IsOk (sym h) tt)
joined_parts (Err c) y zs h = absurd (subst IsOk (sym h) tt)

joined_class : {A : Type 0} (x y : Or (List A)) (c : Class) → and_then x (λ xs. mapped (λ ys. xs ++ ys) y) ≡ Err c → (x ≡ Err c) ⊎ (y ≡ Err c)
joined_class (Ok xs) (Ok ys) c h = absurd (subst IsOk h tt)
joined_class (Ok xs) (Err d) c h = inr (ap (λ e. Err e) (ap (class_in c) h))
joined_class (Err d) y c h = inl (ap (λ e. Err e) (ap (class_in c) h))

pub record Consed {A : Type 0} (x : Or A) (y : Or (List A)) (zs : List A) : Type 0 where
  pub first : A
  pub others : List A
  pub one : x ≡ Ok first
  pub two : y ≡ Ok others
  pub is : zs ≡ first ∷ others

consed : {A : Type 0} (x : Or A) (y : Or (List A)) (zs : List A) → and_then x (λ z. mapped (λ zs. z ∷ zs) y) ≡ Ok zs → Consed x y zs
consed (Ok x) (Ok ys) zs h = record { first = x; others = ys; one = refl; two = refl; is = ap (got zs) (sym h) }
consed (Ok x) (Err c) zs h = absurd (subst IsOk (sym h) tt)
consed (Err c) y zs h = absurd (subst IsOk (sym h) tt)

consed_class : {A : Type 0} (x : Or A) (y : Or (List A)) (c : Class) → and_then x (λ z. mapped (λ zs. z ∷ zs) y) ≡ Err c → (x ≡ Err c) ⊎ (y ≡ Err c)
consed_class (Ok x) (Ok ys) c h = absurd (subst IsOk h tt)
consed_class (Ok x) (Err d) c h = inr (ap (λ e. Err e) (ap (class_in c) h))
consed_class (Err d) y c h = inl (ap (λ e. Err e) (ap (class_in c) h))

made_ok : {A B : Type 0} (f : A → B) (o : Or A) (y : B) → mapped f o ≡ Ok y → (x : A) × (o ≡ Ok x) × (y ≡ f x)
made_ok f (Ok x) y h = (x, refl, ap (got y) (sym h))
made_ok f (Err c) y h = absurd (subst IsOk (sym h) tt)

made_class : {A B : Type 0} (f : A → B) (o : Or A) (c : Class) → mapped f o ≡ Err c → o ≡ Err c
made_class f (Ok x) c h = absurd (subst IsOk h tt)
made_class f (Err d) c h = ap (λ e. Err e) (ap (class_in c) h)

-- ---- arguments

pub typed_values : (cx : Context) (ts : List Ty) (es : List Expr) (us : List Value) → FitParameters cx ts es → arguments_at cx es ≡ Ok us → IsRow ts us
typed_values cx [] [] us h k = subst (IsRow []) (same_ok (arguments_at cx []) [] us refl k) tt
typed_values cx (t ∷ ts) (e ∷ es) us h k =
    let p = parted cx e es us k in
    subst (IsRow (t ∷ ts)) (sym p.is) (h.0 p.first p.gives, typed_values cx ts es p.others h.1 p.rest)
typed_values cx [] (e ∷ es) us h k = absurd h
typed_values cx (t ∷ ts) [] us h k = absurd h

pub as_many : (cx : Context) (es : List Expr) (us : List Value) → arguments_at cx es ≡ Ok us → length es ≡ length us
as_many cx [] us k = ap length (same_ok (arguments_at cx []) [] us refl k)
as_many cx (e ∷ es) us k =
    let p = parted cx e es us k in
    ap suc (as_many cx es p.others p.rest) ∙ ap length (sym p.is)

-- ---- the starts

abbrev pub number : ℕ → ℕ → ℕ
number n zero = n
number n (suc i) = number (suc n) i

pub number_is : (n i : ℕ) → number n i ≡ n + i
number_is n zero = omega arith
number_is n (suc i) = let e = number_is (suc n) i in omega (arith, e)

module _ (w : World) (params : List Ty) (cx : Context) where
  abbrev At : Frame → List Expr → Or (List Value)
  At frame es = arguments_at (inside frame cx) es

  abbrev one_start : ℕ → List Expr → Frame → Or Start
  one_start n es frame = start_at w params cx n es frame

  abbrev all_starts : List Frame → ℕ → List (List Expr) → Or (List Start)
  all_starts frames n calls = starts_at w params cx frames n calls

  abbrev begun : ℕ → List Value → Start
  begun n us = start_of_values w params n us

  -- each start is of a call at a row
  each_has : (Q : Start → Type 0) (n : ℕ) (es : List Expr) (frames : List Frame) (ss : List Start) → each (one_start n es) frames ≡ Ok ss
      → Every (λ (frame : Frame). (us : List Value) → At frame es ≡ Ok us → Q (begun n us)) frames → Every Q ss
  each_has Q n es [] ss h k = subst (Every Q) (same_ok (each (one_start n es) []) [] ss refl h) tt
  each_has Q n es (frame ∷ frames) ss h k =
      let p = consed (one_start n es frame) (each (one_start n es) frames) ss h in
      let m = made_ok (begun n) (At frame es) p.first p.one in
      subst (Every Q) (sym p.is) (subst Q (sym m.2) (k.0 m.0 m.1), each_has Q n es frames p.others p.two k.1)

  pub starts_have : (Q : Start → Type 0) (frames : List Frame) (n : ℕ) (calls : List (List Expr)) (ss : List Start) → all_starts frames n calls ≡ Ok ss
      → Every (λ (es : List Expr). Every (λ (frame : Frame). (m : ℕ) (us : List Value) → At frame es ≡ Ok us → Q (begun m us)) frames) calls → Every Q ss
  starts_have Q frames n [] ss h k = subst (Every Q) (same_ok (all_starts frames n []) [] ss refl h) tt
  starts_have Q frames n (es ∷ calls) ss h k =
      let p = joined_parts (each (one_start n es) frames) (all_starts frames (suc n) calls) ss h in
      subst (Every Q) (sym p.is)
      (every_append Q p.first p.second
      (each_has Q n es frames p.first p.one (every_map (λ (frame : Frame). (m : ℕ) (us : List Value) → At frame es ≡ Ok us → Q (begun m us))
      (λ (frame : Frame). (us : List Value) → At frame es ≡ Ok us → Q (begun n us)) frames (λ frame go us e. go n us e) k.0))
      (starts_have Q frames (suc n) calls p.second p.two k.1))

  -- each call at each row has a start
  each_given : (P : List Value → Type 0) (n : ℕ) (es : List Expr) (frames : List Frame) (ss : List Start) → each (one_start n es) frames ≡ Ok ss
      → Every (λ (s : Start). P s.1) ss → Every (λ (frame : Frame). (us : List Value) × (At frame es ≡ Ok us) × P us) frames
  each_given P n es [] ss h k = tt
  each_given P n es (frame ∷ frames) ss h k =
      let p = consed (one_start n es frame) (each (one_start n es) frames) ss h in
      let m = made_ok (begun n) (At frame es) p.first p.one in
      let all = subst (Every (λ (s : Start). P s.1)) p.is k in
      ((m.0, m.1, subst (λ (s : Start). P s.1) m.2 all.0), each_given P n es frames p.others p.two all.1)

  pub starts_given : (P : List Value → Type 0) (frames : List Frame) (n : ℕ) (calls : List (List Expr)) (ss : List Start) → all_starts frames n calls ≡ Ok ss
      → Every (λ (s : Start). P s.1) ss → Every (λ (es : List Expr). Every (λ (frame : Frame). (us : List Value) × (At frame es ≡ Ok us) × P us) frames) calls
  starts_given P frames n [] ss h k = tt
  starts_given P frames n (es ∷ calls) ss h k =
      let p = joined_parts (each (one_start n es) frames) (all_starts frames (suc n) calls) ss h in
      let all = subst (Every (λ (s : Start). P s.1)) p.is k in (
        each_given P n es frames p.first p.one (every_left (λ (s : Start). P s.1) p.first p.second all),
        starts_given P frames (suc n) calls p.second p.two (every_right (λ (s : Start). P s.1) p.first p.second all),
      )

  -- and it is there with its number
  abbrev IsIn : ℕ → List Expr → List Start → Frame → Type 0
  IsIn n es ss frame = (us : List Value) → At frame es ≡ Ok us → SomeOf (λ (s : Start). s ≡ begun n us) ss

  each_in : (n : ℕ) (es : List Expr) (frames : List Frame) (ss : List Start) → each (one_start n es) frames ≡ Ok ss → Every (IsIn n es ss) frames
  each_in n es [] ss h = tt
  each_in n es (frame ∷ frames) ss h =
      let p = consed (one_start n es frame) (each (one_start n es) frames) ss h in
      let m = made_ok (begun n) (At frame es) p.first p.one in
      subst (λ all. Every (IsIn n es all) (frame ∷ frames)) (sym p.is) (
        (λ us e. inl (m.2 ∙ ap (begun n) (same_ok (At frame es) m.0 us m.1 e))),
        every_map (IsIn n es p.others) (IsIn n es (p.first ∷ p.others)) frames (λ f go us e. inr (go us e)) (each_in n es frames p.others p.two),
      )

  pub starts_in : (frames : List Frame) (n : ℕ) (calls : List (List Expr)) (ss : List Start) → all_starts frames n calls ≡ Ok ss → (i : ℕ) → i < length calls
      → Every (IsIn (number n i) (get_or calls i []) ss) frames
  starts_in frames n [] ss h i low = absurd (omega (arith, low))
  starts_in frames n (es ∷ calls) ss h zero low =
      let p = joined_parts (each (one_start n es) frames) (all_starts frames (suc n) calls) ss h in
      subst (λ all. Every (IsIn n es all) frames) (sym p.is)
      (every_map (IsIn n es p.first) (IsIn n es (p.first ++ p.second)) frames (λ f go us e. some_left (λ (s : Start). s ≡ begun n us) p.first p.second (go us e))
      (each_in n es frames p.first p.one))
  starts_in frames n (es ∷ calls) ss h (suc i) low =
      let p = joined_parts (each (one_start n es) frames) (all_starts frames (suc n) calls) ss h in
      let m : ℕ = number (suc n) i in
      let fs : List Expr = get_or calls i [] in
      subst (λ all. Every (IsIn m fs all) frames) (sym p.is)
      (every_map (IsIn m fs p.second) (IsIn m fs (p.first ++ p.second)) frames (λ f go us e. some_right (λ (s : Start). s ≡ begun m us) p.first p.second (go us e))
      (starts_in frames (suc n) calls p.second p.two i (omega (arith, low))))

  -- a class is that of an argument
  abbrev Faulty : Class → List (List Expr) → Frame → Type 0
  Faulty c calls frame = SomeOf (λ (es : List Expr). At frame es ≡ Err c) calls

  each_class : (n : ℕ) (es : List Expr) (frames : List Frame) (c : Class) → each (one_start n es) frames ≡ Err c
      → SomeOf (λ (frame : Frame). At frame es ≡ Err c) frames
  each_class n es [] c h = absurd (ok_err (each (one_start n es) []) [] c refl h)
  each_class n es (frame ∷ frames) c h = later (consed_class (one_start n es frame) (each (one_start n es) frames) c h) (λ e. each_class n es frames c e)
    where
      later : (one_start n es frame ≡ Err c) ⊎ (each (one_start n es) frames ≡ Err c)
          → (each (one_start n es) frames ≡ Err c → SomeOf (λ (frame : Frame). At frame es ≡ Err c) frames)
          → SomeOf (λ (frame : Frame). At frame es ≡ Err c) (frame ∷ frames)
      later (inl e) go = inl (made_class (begun n) (At frame es) c e)
      later (inr e) go = inr (go e)

  pub starts_class : (frames : List Frame) (n : ℕ) (calls : List (List Expr)) (c : Class) → all_starts frames n calls ≡ Err c → SomeOf (Faulty c calls) frames
  starts_class frames n [] c h = absurd (ok_err (all_starts frames n []) [] c refl h)
  starts_class frames n (es ∷ calls) c h =
      later (joined_class (each (one_start n es) frames) (all_starts frames (suc n) calls) c h) (λ e. starts_class frames (suc n) calls c e)
    where
      later : (each (one_start n es) frames ≡ Err c) ⊎ (all_starts frames (suc n) calls ≡ Err c)
          → (all_starts frames (suc n) calls ≡ Err c → SomeOf (Faulty c calls) frames)
          → SomeOf (Faulty c (es ∷ calls)) frames
      later (inl e) go = some_map (λ (frame : Frame). At frame es ≡ Err c) (Faulty c (es ∷ calls)) frames (λ f k. inl k) (each_class n es frames c e)
      later (inr e) go = some_map (Faulty c calls) (Faulty c (es ∷ calls)) frames (λ f k. inr k) (go e)
