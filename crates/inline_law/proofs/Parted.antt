-- What lists, options and answers are made of.
use Rattle.std.proofs.Common.{◌≡◌, ◌≢◌, inl, inr, refl, ap, sym, ◌∙◌, subst, ℕ, List, [], ◌∷◌, Some, None, Ok, Err, Option, option_map}
use Rattle.away_trees.specs.declared.queries.Expr.{Expr}
use Rattle.away_trees.specs.declared.queries.Query.{Query}
use Rattle.away_values.specs.declared.values.Answer.{Answer}
use Rattle.away_values.specs.declared.values.Answer.TheVariants as answer
use Rattle.away_values.specs.declared.values.Class.{Class}
use Rattle.away_values.specs.declared.values.Value.{Value}
use Rattle.away_values.specs.Results.{Or}
use Rattle.sql_meaning.specs.Context.{Rows, Frame, Context, inside}
use Rattle.sql_meaning.specs.Working.{sql}
use Rattle.together.specs.Tables.{IsFine}
use Rattle.batch_law.specs.Batches.{NoneIsMore, SomeIsMore}
use Rattle.batch_law.specs.Starts.{AllFine, Start, working_table}
use Rattle.inline_law.specs.Answers.{Every, SomeArguments, SomeOf}
use Rattle.inline_law.specs.Filled.{CallingSelect, arguments_at, every, value_at, beside, value_in}
use Rattle.inline_law.proofs.Starts.{every_map, every_some, same_ok, ok_err, some_no}

-- ---- lists

pub some_one : {A : Type 0} (P : A → Type 0) (xs : List A) → SomeOf P xs → (x : A) × P x
some_one P [] h = absurd h
some_one P (x ∷ xs) (inl h) = (x, h)
some_one P (x ∷ xs) (inr h) = some_one P xs h

-- a member is among its list
pub members : {A : Type 0} (xs : List A) → Every (λ (x : A). SomeOf (λ (y : A). y ≡ x) xs) xs
members [] = tt
members (x ∷ xs) = (inl refl, every_map (λ z. SomeOf (λ y. y ≡ z) xs) (λ z. SomeOf (λ y. y ≡ z) (x ∷ xs)) xs (λ z h. inr h) (members xs))

-- ---- options

abbrev pub IsSome : {A : Type 0} → Option A → Type 0
IsSome (Some x) = Unit {0}
IsSome None = ⊥

abbrev pub some_or : {A : Type 0} → A → Option A → A
some_or d (Some x) = x
some_or d None = d

pub same_some : {A : Type 0} (o : Option A) (a b : A) → o ≡ Some a → o ≡ Some b → a ≡ b
same_some o a b h k = ap (some_or a) (sym h ∙ k)

pub none_some : {A : Type 0} (o : Option A) (a : A) → o ≡ None → o ≡ Some a → ⊥
none_some o a h k = subst IsSome (sym k ∙ h) tt

pub beside_parts : {A : Type 0} (x : Option A) (xs : Option (List A)) (ys : List A) → beside x xs ≡ Some ys
    → ((y : A) × (x ≡ Some y)) × ((zs : List A) × (xs ≡ Some zs))
beside_parts (Some y) (Some zs) ys h = ((y, refl), (zs, refl))
beside_parts (Some y) None ys h = absurd (subst IsSome (sym h) tt)
beside_parts None xs ys h = absurd (subst IsSome (sym h) tt)

pub every_parts : {A B : Type 0} (f : A → Option B) (xs : List A) (ys : List B) → every f xs ≡ Some ys → Every (λ (x : A). (y : B) × (f x ≡ Some y)) xs
every_parts f [] ys h = tt
every_parts f (x ∷ xs) ys h =
    let p = beside_parts (f x) (every f xs) ys h in
    (p.0, every_parts f xs p.1.0 p.1.1)

pub from_map : {A B : Type 0} (f : A → B) (o : Option A) (y : B) → option_map f o ≡ Some y → (x : A) × (o ≡ Some x)
from_map f (Some x) y h = (x, refl)
from_map f None y h = absurd (subst IsSome (sym h) tt)

pub value_is : (a : Answer) (v : Value) → value_in a ≡ Some v → a ≡ answer.Value v
value_is (answer.Value u) v h = ap (λ (o : Option Value). answer.Value (some_or u o)) h
value_is (answer.Fault c) v h = absurd (subst IsSome (sym h) tt)
value_is answer.More v h = absurd (subst IsSome (sym h) tt)
value_is (answer.Shape k) v h = absurd (subst IsSome (sym h) tt)

pub value_parts : (answers : List Value → Answer) (o : Or (List Value)) (v : Value) → value_at answers o ≡ Some v
    → (us : List Value) × (o ≡ Ok us) × (answers us ≡ answer.Value v)
value_parts answers (Ok us) v h = (us, refl, value_is (answers us) v h)
value_parts answers (Err c) v h = absurd (subst IsSome (sym h) tt)

-- ---- answers

abbrev pub IsMore : Answer → Type 0
IsMore answer.More = Unit {0}
IsMore a = ⊥

abbrev pub IsValue : Answer → Type 0
IsValue (answer.Value v) = Unit {0}
IsValue a = ⊥

abbrev pub IsFault : Answer → Type 0
IsFault (answer.Fault c) = Unit {0}
IsFault a = ⊥

pub value_no_more : (a : Answer) (v : Value) → a ≡ answer.Value v → a ≢ answer.More
value_no_more a v h k = subst IsMore (sym k ∙ h) tt

pub fault_no_more : (a : Answer) (c : Class) → a ≡ answer.Fault c → a ≢ answer.More
fault_no_more a c h k = subst IsMore (sym k ∙ h) tt

pub value_no_fault : (a : Answer) (v : Value) (c : Class) → a ≡ answer.Value v → a ≢ answer.Fault c
value_no_fault a v c h k = subst IsFault (sym k ∙ h) tt

-- ---- the queries of calls

module _ (o : Query) (T : List Rows) where
  pub fine_each : (k : ℕ) (ss : List Start) → AllFine o T k ss → Every (λ (s : Start). IsFine (working_table o T s.1 k)) ss
  fine_each k [] h = tt
  fine_each k (s ∷ ss) h = (h.0, fine_each k ss h.1)

  pub none_each : (k : ℕ) (ss : List Start) → NoneIsMore o T k ss → Every (λ (s : Start). sql o T s.1 k ≢ answer.More) ss
  none_each k [] h = tt
  none_each k (s ∷ ss) h = (h.0, none_each k ss h.1)

  pub some_more : (k : ℕ) (ss : List Start) → SomeIsMore o T k ss → SomeOf (λ (s : Start). sql o T s.1 k ≡ answer.More) ss
  some_more k [] h = absurd h
  some_more k (s ∷ ss) (inl e) = inl e
  some_more k (s ∷ ss) (inr h) = inr (some_more k ss h)

-- ---- arguments

module _ (q : CallingSelect) (before : Context) where
  abbrev At : Frame → List Expr → Or (List Value)
  At frame es = arguments_at (inside frame before) es

  -- what the arguments of each call at each row have
  pub for_arguments : (P : List Value → Type 0) (frames : List Frame)
      → Every (λ (frame : Frame). Every (λ (es : List Expr). (vs : List Value) × (At frame es ≡ Ok vs) × P vs) q.calls) frames
      → (us : List Value) → SomeArguments q before frames (Ok us) → P us
  for_arguments P frames all us some =
      (some_one (λ (frame : Frame). P us) frames
      (every_some (λ (frame : Frame). Every (λ (es : List Expr). (vs : List Value) × (At frame es ≡ Ok vs) × P vs) q.calls)
      (λ (frame : Frame). SomeOf (λ (es : List Expr). At frame es ≡ Ok us) q.calls) (λ (frame : Frame). P us) frames
      (λ frame each one.
      (some_one (λ (es : List Expr). P us) q.calls
      (every_some (λ (es : List Expr). (vs : List Value) × (At frame es ≡ Ok vs) × P vs) (λ (es : List Expr). At frame es ≡ Ok us) (λ (es : List Expr). P us) q.calls
      (λ es x e. subst P (same_ok (At frame es) x.0 us x.1 e) x.2) each one)).1)
      all some)).1

  -- each argument has a value
  abbrev pub HaveAt : List Frame → Type 0
  HaveAt frames = Every (λ (frame : Frame). Every (λ (es : List Expr). (us : List Value) × (At frame es ≡ Ok us)) q.calls) frames

  pub none_faulty : (frames : List Frame) (c : Class) → HaveAt frames → SomeArguments q before frames (Err c) → ⊥
  none_faulty frames c h some =
      some_no (λ (frame : Frame). ⊥) frames (λ frame x. x)
      (every_some (λ (frame : Frame). Every (λ (es : List Expr). (us : List Value) × (At frame es ≡ Ok us)) q.calls) (λ (frame : Frame). SomeOf (λ (es : List Expr). At frame es ≡ Err c) q.calls)
      (λ (frame : Frame). ⊥) frames
      (λ frame all one.
      some_no (λ (es : List Expr). ⊥) q.calls (λ es x. x)
      (every_some (λ (es : List Expr). (us : List Value) × (At frame es ≡ Ok us)) (λ (es : List Expr). At frame es ≡ Err c) (λ (es : List Expr). ⊥) q.calls
      (λ es x e. ok_err (At frame es) x.0 c x.1 e) all one)) h some)
