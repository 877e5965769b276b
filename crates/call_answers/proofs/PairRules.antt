-- Parts of statements without statements in them.
use Rattle.std.proofs.Common.{◌≡◌, refl, sym, ap, ◌∙◌, subst, ℕ, zero, suc, ◌≤◌, Bool, List, [], ◌∷◌, length, drop, slice_get, true, false, not, Option, Some, None, arith}
use Rattle.std.specs.Bool.{beq}
use Rattle.away_trees.specs.declared.queries.Expr.{Expr}
use Rattle.away_trees.specs.declared.queries.Select.{Select}
use Rattle.away_trees.specs.declared.statements.Decl.{Decl}
use Rattle.away_trees.proofs.Equations.{query_roll}
use Rattle.sql_meaning.specs.Names.{nameless}
use Rattle.call_meaning.specs.Alike.{Slots, put_at}
use Rattle.call_meaning.specs.Becomes.{SameNull, maybe_becomes}
use Rattle.call_meaning.specs.Marks.{marks_of}
use Rattle.call_meaning.specs.Renamed.{SelectRenamed, alone, moved_select}
use Rattle.call_meaning.proofs.Agreeing.{none_is_not_some, some_is}
use Rattle.moved_slots.specs.Moved.{SelectMoved}
use Rattle.call_answers.specs.declared.walking.Spot.{Spot}
use Rattle.call_answers.specs.declared.walking.Walk.{Walk}
use Rattle.call_answers.specs.Walking.{DeclsBecome, MaybeRenamed, next, rules_of}

-- ---- expressions and selects

pub select_is : (m : Slots) (s y : Select) → marks_of s ≡ marks_of y → SelectMoved m 0 s y → SelectRenamed m s y
select_is m s y e h = record {
  reads = h.seen;
  marks = e;
  is = query_roll nameless None (y ∷ []) ∙ (ap (λ x. alone x) h.is ∙ sym (query_roll nameless None (moved_select m s ∷ [])));
}

pub same_bool : (a b : Bool) → not (beq a b) ≡ false → a ≡ b
same_bool true true e = refl
same_bool true false e = e
same_bool false true e = sym e
same_bool false false e = refl

pub lifted : (w : Walk) (m : Slots) (e x : Option Expr) → MaybeRenamed m e x → maybe_becomes (rules_of w) m e x
lifted w m None None h = tt
lifted w m None (Some x) h = absurd h
lifted w m (Some e) None h = absurd h
lifted w m (Some e) (Some x) h = h

-- ---- declarations

module _ (w : Walk) (wide : Slots) (q : Spot) where
  abbrev Become : Slots → Spot → List Decl → List Decl → Type 0
  Become m p ds xs = DeclsBecome (rules_of w) m p ds xs wide q

  -- those from a place on, where slots stand so before it
  pub decls_step : (m m' : Slots) (ds xs : List Decl) (i : ℕ) (d x : Decl) (p : Spot) → slice_get ds i ≡ Some d → slice_get xs i ≡ Some x → MaybeRenamed m d.default x.default
      → SameNull (rules_of w) p.at p.new → m' ≡ put_at p.at p.new m → Become m' (next p) (drop (suc i) ds) (drop (suc i) xs) → Become m p (drop i ds) (drop i xs)
  decls_step m m' [] xs i d x p e f h null put rest = absurd (none_is_not_some d e)
  decls_step m m' (a ∷ ds) [] i d x p e f h null put rest = absurd (none_is_not_some x f)
  decls_step m m' (a ∷ ds) (b ∷ xs) zero d x p e f h null put rest =
      (subst (λ a. maybe_becomes (rules_of w) m a.default b.default) (sym (some_is a d e)) (subst (λ b. maybe_becomes (rules_of w) m d.default b.default) (sym (some_is b x f)) (lifted w m d.default x.default h)), null, subst (λ m. Become m (next p) ds xs) put rest)
  decls_step m m' (a ∷ ds) (b ∷ xs) (suc i) d x p e f h null put rest = decls_step m m' ds xs i d x p e f h null put rest

pub decls_end : (w : Walk) (m : Slots) (p : Spot) (ds xs : List Decl) (i : ℕ) → length ds ≤ i → length ds ≡ length xs → DeclsBecome (rules_of w) m p (drop i ds) (drop i xs) m p
decls_end w m p [] [] zero le e = (refl, refl)
decls_end w m p [] [] (suc i) le e = (refl, refl)
decls_end w m p [] (y ∷ ys) i le e = absurd (omega (arith, e))
decls_end w m p (x ∷ xs) [] i le e = absurd (omega (arith, e))
decls_end w m p (x ∷ xs) (y ∷ ys) zero le e = absurd (omega (arith, le))
decls_end w m p (x ∷ xs) (y ∷ ys) (suc i) le e = decls_end w m p xs ys i (omega (arith, le)) (omega (arith, e))
