-- The parts of a program, and the bodies of those that are called.
use Rattle.std.proofs.Common.{◌≡◌, refl, sym, ap, ◌∙◌, subst, ℕ, zero, suc, ◌+◌, ◌<◌, ◌==◌, false, Bool, List, [], ◌∷◌, ◌++◌, drop, get_or, slice_get, length, map, Bor, Option, Some, Result, Ok, Err, IfOk, arith}
use Rattle.std.proofs.lemmas.Bool.{false≢true}
use Rattle.away_names.specs.Lookups.{Name}
use Rattle.away_trees.specs.declared.queries.Expr.{Expr}
use Rattle.away_trees.specs.declared.schemas.Schema.{Schema}
use Rattle.away_trees.specs.declared.statements.Decl.{Decl}
use Rattle.away_trees.specs.declared.statements.Function.{Function}
use Rattle.away_trees.specs.declared.statements.Stmt.{Stmt}
use Rattle.away_types.specs.TypedSlots.{typed_slots}
use Rattle.away_typing.specs.Typing.{Places}
use Rattle.away_values.specs.declared.types.Ty.{Ty}
use Rattle.elaboration.specs.Elaborating.{MadeExpr}
use Rattle.call_meaning.proofs.Agreeing.{none_is_not_some, some_is}
use Rattle.call_meaning.specs.Alike.{Slots, no_slots, put_at, put_from}
use Rattle.call_meaning.specs.Becomes.{Place, Rules, becomes, counted}
use Rattle.call_meaning.specs.Calls.{Part, no_part, part_at}
use Rattle.call_meaning.specs.Expands.{Back, IsExpanded, callee_place, expands, into_slot, main_place, rules, whole}
use Rattle.call_meaning.specs.Renamed.{renaming}
use Rattle.moved_slots.specs.Moved.{slots_by}
use Rattle.call_expand.proofs.JudgingRules.{function_is}
use Rattle.call_expand.specs.CallPlaces.{called as called_place, maybe_called as maybe_place}
use Rattle.call_expand.specs.Expanding.{call_place, names_of}
use Rattle.call_expand.specs.Judges as whose
use Rattle.call_expand.specs.Parts.{call_made, for_type, part_of, place_for, placed_for}
use Rattle.call_expand.specs.declared.judged.Callees.{Callees}
use Rattle.call_expand.specs.declared.judged.Callees.TheVariants as callees
use Rattle.call_expand.specs.declared.places.Place.{Place as CallPlace}
use Rattle.call_answers.specs.declared.walking.Callee.{Callee}
use Rattle.call_answers.specs.declared.walking.Calls.TheVariants as become
use Rattle.call_answers.specs.declared.walking.Expansion.{Expansion}
use Rattle.call_answers.specs.declared.walking.InSight.{InSight}
use Rattle.call_answers.specs.declared.walking.Left.TheVariants as left
use Rattle.call_answers.specs.declared.walking.Placed.{Placed}
use Rattle.call_answers.specs.declared.walking.Spot.{Spot}
use Rattle.call_answers.specs.declared.walking.StandingPart.{StandingPart}
use Rattle.call_answers.specs.declared.walking.Walk.{Walk}
use Rattle.call_answers.specs.Calling.{CalleeStands, FirstIs, IsDeeper, IsEntered, IsStanding, MainBodyStands, SeesFrom, part_called}
use Rattle.call_answers.specs.Walking.{SeesParameters, StmtBecomes, back, place, program, rules_of, rules_with, standing_part, typed}
use Rattle.call_answers.proofs.WholeRules.{put_last}

-- ---- a part by its number

pub part_at_get : (ps : List StandingPart) (i : ℕ) (p : StandingPart) → slice_get ps i ≡ Some p → part_at (program ps) i ≡ standing_part p
part_at_get [] i p e = absurd (none_is_not_some p e)
part_at_get (x ∷ ps) zero p e = ap standing_part (some_is x p e)
part_at_get (x ∷ ps) (suc i) p e = part_at_get ps i p e

pub part_is : (ps : List StandingPart) (i : ℕ) (p : StandingPart) → i < length ps → ((d : StandingPart) → p ≡ get_or ps i d) → part_at (program ps) i ≡ standing_part p
part_is [] i p lt e = absurd (omega (arith, lt))
part_is (x ∷ ps) zero p lt e = ap standing_part (sym (e p))
part_is (x ∷ ps) (suc i) p lt e = part_is ps i p (omega (arith, lt)) e

-- ---- a body with its calls expanded

-- by all that the rules ask of a walk
module _ (w : Walk) (by : Expansion) (ps : List StandingPart) (i k : ℕ) (b : Back) (c : Place) (x : Stmt) where
  abbrev By : List StandingPart → ℕ → List (Ty × Bool) → Back → Rules
  By ps k slots b = rules (program ps) renaming (typed w) (expands (program ps) renaming (typed w) k) (record no_part { slots = slots }) b

  pub part_becomes : w.calls ≡ become.Expanded by → by.parts.now ≡ ps → by.depth ≡ k → back by.left ≡ b → (part_at (program ps) i).slots ≡ typed_slots w.own.now → (part_at (program ps) i).function.body ≡ w.body.now
      → becomes (rules_of w) w.body.now c x → expands (program ps) renaming (typed w) (suc k) i b c x
  part_becomes ecalls eparts edepth eleft eslots ebody h =
      let own = typed_slots w.own.now in
      let h0 = subst (λ z. becomes (rules_with w z) w.body.now c x) ecalls h in
      let h1 = subst (λ z. becomes (By z by.depth own (back by.left)) w.body.now c x) eparts h0 in
      let h2 = subst (λ z. becomes (By ps z own (back by.left)) w.body.now c x) edepth h1 in
      let h3 = subst (λ z. becomes (By ps k own z) w.body.now c x) eleft h2 in
      let h4 = subst (λ z. becomes (By ps k z b) w.body.now c x) (sym eslots) h3 in
      subst (λ z. becomes (By ps k (part_at (program ps) i).slots b) z c x) (sym ebody) h4

-- the walk along the body of a part that is called
pub deeper_is : (w v : Walk) (g : Placed) (i : ℕ) (label : Name) (p : StandingPart) (by : Expansion) → part_called g ≡ standing_part p → v.f.now ≡ p.function → v.body.now ≡ p.function.body → v.own.now ≡ p.slots → v.slots.now ≡ w.slots.now
    → v.calls ≡ become.Expanded by → by.parts.now ≡ g.expansion.parts.now → suc by.depth ≡ g.expansion.depth → back by.left ≡ into_slot i label → IsDeeper w g i label v
deeper_is w v g i label p by one ef ebody eown eslots ecalls eparts edepth eleft = record {
  function = ef ∙ sym (ap (λ (z : Part). z.function) one);
  walks = λ d x h. subst (λ n. expands P renaming (typed w) n g.called.part (into_slot i label) d x) edepth
      (subst (λ z. expands P renaming (typed_slots z) (suc by.depth) g.called.part (into_slot i label) d x) eslots
      (part_becomes v by g.expansion.parts.now g.called.part by.depth (into_slot i label) d x ecalls eparts refl eleft
      (ap (λ (z : Part). z.slots) one ∙ ap (λ z. typed_slots z) (sym eown)) (ap (λ (z : Part). z.function.body) one ∙ sym ebody) h));
}
  where
    P : List Part
    P = program g.expansion.parts.now

-- the body of a part that is called, in the block with its parameters
pub callee_rule : (w : Walk) (c inside : InSight) (p q : Spot) (g : Placed) (label : Name) (params : List Decl) (xs : List Stmt) (x : Stmt) (d : Callee) → IsEntered w (slots_by c.slots) p.new g label params xs d → SeesFrom d.params d.from inside
    → slice_get xs d.place ≡ Some x → StmtBecomes (rules_of d.walk) inside d.spot d.walk.body.now x q → CalleeStands w (slots_by c.slots) p g label params xs (record { at = p.at; new = q.new })
callee_rule w c inside p q g label params xs x d h s e k = record {
  as_many = h.as_many;
  arguments = h.arguments;
  body = h.stands.body;
  raised = h.stands.raised;
  is = h.stands.is;
  raises = h.stands.raises;
  becomes = h.walks (callee_place n (suc p.new)) h.stands.body (subst (λ z. becomes (rules_of d.walk) d.walk.body.now (callee_place n (suc p.new)) z) same (subst (λ z. becomes (rules_of d.walk) d.walk.body.now z x) there k.it));
  own = refl;
  new = omega (arith, k.new, h.new, h.many, ap counted same);
}
  where
    n : ℕ
    n = length (part_called g).function.params

    same : x ≡ h.stands.body
    same = some_is x h.stands.body (sym e ∙ h.stands.there)

    there : place inside d.spot ≡ callee_place n (suc p.new)
    there = λ t. record {
      at = (h.at ∙ h.many) t;
      at' = (h.new ∙ ap (λ z. suc p.new + z) h.many) t;
      slots = (s.slots ∙ (λ t. put_from (h.many t) 0 (h.from t) no_slots)) t;
      labels = s.labels_are t;
    }

-- ---- what the body of a called part sees

pub from_more : (slots all : Slots) (k i j from : ℕ) → slots ≡ put_from k 0 from no_slots → i ≡ k → j ≡ from + k → all ≡ put_at i j slots → all ≡ put_from (suc k) 0 from no_slots
from_more slots all k i j from e f g h = h ∙ ((λ t. put_at (there t) (behind t) (e t)) ∙ sym (put_last k 0 from no_slots))
  where
    there : i ≡ k + 0
    there = omega (arith, f)

    behind : j ≡ k + from
    behind = omega (arith, g)

-- ---- a call of a part, converted

pub placed_call_is : (fs : Bor (List Function)) (e : Expr) (t : Option Ty) (p : Places) (c : Callees) (o : Option CallPlace) (q : CallPlace) (g : Function) (made : MadeExpr) → c ≡ callees.All fs → maybe_place o ≡ call_place (names_of fs.now) e → o ≡ Some q
    → q.part < length fs.now → g ≡ get_or fs.now q.part g → made ≡ call_made g p q.args.now → for_type t made ≡ placed_for (whose.names c) (whose.functions c) t p e
placed_call_is fs e t p c o q g made is found some lt there by =
    let at : Some (called_place q) ≡ call_place (names_of fs.now) e = sym (ap maybe_place some) ∙ found in
    ap (for_type t) (by ∙ ap (λ h. call_made h p q.args.now) (sym (function_is fs.now q.part g lt there)))
    ∙ (ap (λ x. place_for (names_of fs.now) fs.now x t p e) at ∙ ap (λ d. placed_for (whose.names d) (whose.functions d) t p e) (sym is))

-- ---- all parts

pub part_of_is : (s : Schema) (fs : List Function) (f : Function) (p : StandingPart) → IsStanding s fs f p → standing_part p ≡ part_of s fs f
part_of_is s fs f p h = λ t. record { name = (h.function t).name; function = h.function t; slots = typed_slots (h.slots t) }

program_more : (ps : List StandingPart) (p : StandingPart) (rest : List Part) → program (ps ++ p ∷ []) ++ rest ≡ program ps ++ (standing_part p ∷ rest)
program_more [] p rest = refl
program_more (x ∷ ps) p rest = ap (λ z. standing_part x ∷ z) (program_more ps p rest)

dropped : {A : Type 0} (xs : List A) (i : ℕ) (x : A) → slice_get xs i ≡ Some x → drop i xs ≡ x ∷ drop (suc i) xs
dropped [] i x e = absurd (none_is_not_some x e)
dropped (y ∷ ys) zero x e = ap (λ z. z ∷ ys) (some_is y x e)
dropped (y ∷ ys) (suc i) x e = dropped ys i x e

pub program_step : (s : Schema) (fs : List Function) (all made : List StandingPart) (p : StandingPart) (f : Function) (i : ℕ) (parts : List Part) → made ≡ all ++ p ∷ [] → slice_get fs i ≡ Some f → IsStanding s fs f p
    → program all ++ map (part_of s fs) (drop i fs) ≡ parts → program made ++ map (part_of s fs) (drop (suc i) fs) ≡ parts
program_step s fs all made p f i parts e there h done =
    ap (λ z. program z ++ map (part_of s fs) (drop (suc i) fs)) e
    ∙ (program_more all p (map (part_of s fs) (drop (suc i) fs))
    ∙ (ap (λ z. program all ++ (z ∷ map (part_of s fs) (drop (suc i) fs))) (part_of_is s fs f p h)
    ∙ (ap (λ z. program all ++ map (part_of s fs) z) (sym (dropped fs i f there)) ∙ done)))

-- ---- the whole

program_long : (ps : List StandingPart) → length (program ps) ≡ length ps
program_long [] = refl
program_long (p ∷ ps) = ap suc (program_long ps)

pub main_rule : (w : Walk) (x : Stmt) (n : ℕ) (c : InSight) (p q : Spot) → n ≡ length w.f.now.params → p.at ≡ n → p.new ≡ n → SeesParameters n c → StmtBecomes (rules_of w) c p w.body.now x q → MainBodyStands w x
main_rule w x n c p q e at new s h = record { stands = subst (λ t. becomes (rules_of w) w.body.now t x) there h.it }
  where
    there : place c p ≡ main_place (length w.f.now.params)
    there = λ t. record {
      at = (at ∙ e) t;
      at' = (new ∙ e) t;
      slots = (s.slots ∙ ap (λ n. put_from n 0 0 no_slots) e) t;
      labels = s.labels_are t;
    }

pub expanded_rule : (w : Walk) (by : Expansion) (ps : List StandingPart) (main : StandingPart) (f : Function) → FirstIs main ps → w.calls ≡ become.Expanded by → by.parts.now ≡ ps → suc by.depth ≡ length ps → by.left ≡ left.Whole
    → w.f.now ≡ main.function → w.body.now ≡ main.function.body → w.own.now ≡ main.slots → f.strict ≡ main.function.strict → length f.params ≡ length main.function.params → MainBodyStands w f.body → IsExpanded (program ps) renaming f (typed w)
expanded_rule w by ps main f first ecalls eparts edepth eleft ef ebody eown strict params h = record {
  strict = strict ∙ ap (λ (z : Part). z.function.strict) (sym one);
  params = params ∙ ap (λ (z : Part). length z.function.params) (sym one);
  body = subst (λ k. expands (program ps) renaming (typed w) k 0 whole (main_place (length f.params)) f.body) (edepth ∙ sym (program_long ps))
      (part_becomes w by ps 0 by.depth whole (main_place (length f.params)) f.body ecalls eparts refl (ap back eleft) (ap (λ (z : Part). z.slots) one ∙ ap (λ z. typed_slots z) (sym eown)) (ap (λ (z : Part). z.function.body) one ∙ sym ebody) there);
}
  where
    one : part_at (program ps) 0 ≡ standing_part main
    one = part_at_get ps 0 main first

    there : becomes (rules_of w) w.body.now (main_place (length f.params)) f.body
    there = subst (λ n. becomes (rules_of w) w.body.now (main_place n) f.body) (ap (λ (z : Function). length z.params) ef ∙ sym params) h.stands

-- ---- what is told of a result that may fail

pub if_ok : {A E : Type 0} (P Q : A → Type 0) (x : Result A E) → ((a : A) → P a → Q a) → IfOk x P → IfOk x Q
if_ok P Q (Ok a) f h = f a h
if_ok P Q (Err e) f h = h

-- ---- a first part

pub is_there : (n : ℕ) → false ≡ (n == 0) → 0 < n
is_there zero e = absurd (false≢true e)
is_there (suc n) e = omega arith
