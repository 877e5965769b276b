-- The slots that stand in a tree whose names are resolved are those of the scope's variables.
use Rattle.std.proofs.Common.{◌≡◌, refl, ap, subst, ◌∙◌, ℕ, Bool, true, false, ◌||◌, if◌then◌else◌, nat_lt, List, [], ◌∷◌, map, fold, inl, inr, Option, Some, None}
use Rattle.std.specs.Prelude.{bytes_eq, ◌==◌, ◌⊎◌}
use Rattle.std.specs.List.{flat_map}
use Rattle.std.proofs.lemmas.Bool.{eq-eqb}
use Rattle.away_trees.specs.declared.queries.Col.{Col}
use Rattle.away_trees.specs.declared.queries.Expr.{Expr}
use Rattle.away_trees.specs.declared.queries.Expr.TheVariants as expr
use Rattle.away_trees.specs.declared.queries.Source.{Source}
use Rattle.away_trees.specs.Algebra.{expr_of, source_of}
use Rattle.away_names.specs.declared.note.Noted.{Noted}
use Rattle.away_names.specs.declared.scope.Hit.{Hit}
use Rattle.away_names.specs.declared.scope.Variable.{Variable}
use Rattle.away_names.specs.Notes.{added}
use Rattle.away_names.specs.Lookups.{Name, Scope, column_named, column_qualified, variable_after, variable_named}
use Rattle.away_names.specs.Naming as n
use Rattle.sql_meaning.specs.Reads.{Read, Outer, reading, Reads}
use Rattle.type_soundness.specs.Sorts.{Every}
use Rattle.type_soundness.proofs.CleanNotes.{Clean, clean_parts}
use Rattle.type_soundness.proofs.Lists.{every_append}
use Rattle.function_facts.specs.InSight.{is_among, IsSeen}

-- ---- lists

pub every_if : {A : Type 0} (P : A → Type 0) (b : Bool) (xs ys : List A) → Every P xs → Every P ys → Every P (if b then xs else ys)
every_if P true xs ys h k = h
every_if P false xs ys h k = k

-- what is read by all of a list
pub every_flat : {A B : Type 0} (P : Read → Type 0) (f : A → List Read) (g : B → A) (xs : List B) → Every (λ x. Every P (f (g x))) xs → Every P (flat_map f (map g xs))
every_flat P f g [] h = tt
every_flat P f g (x ∷ xs) h = every_append P (f (g x)) (flat_map f (map g xs)) h.0 (every_flat P f g xs h.1)

-- ---- what a tree reads

abbrev pub slots_of : List Variable → List ℕ
slots_of vs = map (λ (v : Variable). v.slot) vs

abbrev pub Sees : List Variable → List Read → Type 0
Sees vs = Every (IsSeen (slots_of vs))

abbrev pub SeesAt : List Variable → Reads → Type 0
SeesAt vs r = (d : ℕ) → Sees vs (r d)

abbrev pub SeesExpr : List Variable → Expr → Type 0
SeesExpr vs e = SeesAt vs (expr_of reading e)

abbrev pub SeesSource : List Variable → Source → Type 0
SeesSource vs x = (columns : List (List ℕ)) → SeesAt vs (source_of reading x columns)

-- ---- look-ups

here : (i : ℕ) (js : List ℕ) → is_among i (i ∷ js) ≡ true
here i js = ap (λ b. b || is_among i js) (eq-eqb i i refl)

further : (i j : ℕ) (js : List ℕ) → is_among i js ≡ true → is_among i (j ∷ js) ≡ true
further i j js h = ap (λ b. (i == j) || b) h ∙ or_true (i == j)
  where
    or_true : (b : Bool) → (b || true) ≡ true
    or_true true = refl
    or_true false = refl

found_step : (b : Bool) (found : Option Variable) (x v : Variable) (xs : List Variable) → ((if b then Some x else found) ≡ Some v) ⊎ (is_among v.slot (slots_of xs) ≡ true) → (found ≡ Some v) ⊎ (is_among v.slot (slots_of (x ∷ xs)) ≡ true)
found_step true found x v xs (inl e) = inr (subst (λ i. is_among i (x.slot ∷ slots_of xs) ≡ true) (some_slot x v e) (here x.slot (slots_of xs)))
  where
    some_slot : (x v : Variable) → Some x ≡ Some v → x.slot ≡ v.slot
    some_slot x v e = cc
found_step false found x v xs (inl e) = inl e
found_step b found x v xs (inr h) = inr (further v.slot x.slot (slots_of xs) h)

found_among : (name : Name) (found : Option Variable) (vs : List Variable) (v : Variable) → variable_after name found vs ≡ Some v → (found ≡ Some v) ⊎ (is_among v.slot (slots_of vs) ≡ true)
found_among name found [] v e = inl e
found_among name found (x ∷ xs) v e = found_step (bytes_eq x.name name) found x v xs (found_among name (if bytes_eq x.name name then Some x else found) xs v e)

not_none : (v : Variable) (P : Type 0) → (None ≡ Some v) ⊎ P → P
not_none v P (inl e) = cc
not_none v P (inr h) = h

pub variable_among : (name : Name) (vs : List Variable) (v : Variable) → variable_named name vs ≡ Some v → is_among v.slot (slots_of vs) ≡ true
unfolding variable_named
variable_among name vs v e = not_none v (is_among v.slot (slots_of vs) ≡ true) (found_among name None vs v e)

column_seen : (vs : List Variable) (c : Col) → SeesExpr vs (expr.Column c)
column_seen vs c d = every_if (IsSeen (slots_of vs)) (nat_lt c.level d) [] (Outer c ∷ []) tt (tt, tt)

slot_or_seen : (vs : List Variable) (x : Name) (o : Option Variable) → variable_named x vs ≡ o → Clean (n.slot_or x o).note → SeesExpr vs (n.slot_or x o).it
unfolding n.slot_or
slot_or_seen vs x None e c = λ d. tt
slot_or_seen vs x (Some v) e c = λ d. (variable_among x vs v e, tt)

named_by_seen : (vs : List Variable) (x : Name) (hit : Option Hit) (o : Option Variable) → variable_named x vs ≡ o → Clean (n.named_by x hit o).note → SeesExpr vs (n.named_by x hit o).it
unfolding n.named_by
named_by_seen vs x (Some hit) o e c = column_seen vs hit.column
named_by_seen vs x None o e c = slot_or_seen vs x o e c

pub named_seen : (x : Name) (s : Scope) → Clean (n.named x s).note → SeesExpr s.variables (n.named x s).it
unfolding n.named
named_seen x s c = named_by_seen s.variables x (column_named x s.levels) (variable_named x s.variables) refl (clean_parts (n.written s x) (n.named_by x (column_named x s.levels) (variable_named x s.variables)).note c).1

qualified_by_seen : (vs : List Variable) (a x : Name) (hit : Option Hit) → SeesExpr vs (n.qualified_by a x hit).it
unfolding n.qualified_by
qualified_by_seen vs a x (Some hit) = column_seen vs hit.column
qualified_by_seen vs a x None = λ d. tt

pub qualified_seen : (a x : Name) (s : Scope) → SeesExpr s.variables (n.qualified a x s).it
unfolding n.qualified
qualified_seen a x s = qualified_by_seen s.variables a x (column_qualified a x s.levels)

-- ---- results one behind the other

pub every_each : {A B : Type 0} (Q : B → Type 0) (f : A → Noted B) (xs : List A) → Every (λ x. Clean (f x).note → Q (f x).it) xs → (acc : Noted (List B)) → (Clean acc.note → Every Q acc.it) → Clean (fold (λ a x. added a (f x)) acc xs).note → Every Q (fold (λ a x. added a (f x)) acc xs).it
every_each Q f [] h acc g c = g c
every_each Q f (x ∷ xs) h acc g c =
    every_each Q f xs h.1 (added acc (f x))
    (λ c. let both = clean_parts acc.note (f x).note c in every_append Q acc.it ((f x).it ∷ []) (g both.0) (h.0 both.1, tt)) c
