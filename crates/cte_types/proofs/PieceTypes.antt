-- The parts of setting a slot, of leaving and of a loop's head have their types.
use Rattle.std.proofs.Common.{◌≡◌, refl, ap, sym, subst, ℕ, zero, suc, ◌+◌, ◌*◌, ◌<◌, ◌≤◌, Bool, true, false, List, [], ◌∷◌, ◌++◌, slice_get, Option, Some, None, arith, ◌⊎◌, inl, inr}
use Rattle.away_values.specs.declared.types.Ty.{Ty}
use Rattle.away_values.specs.declared.types.Ty.TheVariants as ty
use Rattle.away_trees.specs.declared.queries.Expr.{Expr}
use Rattle.away_trees.specs.declared.statements.Decl.{Decl}
use Rattle.away_trees.specs.declared.statements.LoopKind.{LoopKind}
use Rattle.away_trees.specs.declared.statements.LoopKind.TheVariants as kind
use Rattle.away_names.specs.declared.rule.Rule.TheVariants as rule
use Rattle.away_names.specs.Notes.{joined}
use Rattle.away_types.specs.declared.slots.Slot.{Slot}
use Rattle.away_types.specs.FunctionChecks.{slot_types}
use Rattle.away_types.specs.StatementTypes as checks
use Rattle.away_types.specs.StatementTypes.{Asked, asked, maybe_asked, asked_of_slot, head_asked}
use Rattle.plsql_meaning.specs.Outcomes.{invalid_parameter}
use Rattle.block_forms.specs.declared.forms.Term.{Term}
use Rattle.block_forms.specs.declared.places.Position.{Position}
use Rattle.block_forms.specs.Expressions.{if_there, of_kind}
use Rattle.block_forms.specs.Laid.{Setting, kind_size, default_term, decl_parts, assign_parts, kind_parts}
use Rattle.block_forms.specs.Patterns.{Part, own, shared, branches, fails, not_positive, one, copy, moved, node, jump_of, yes_of, no_of, source_term, set_parts, slot_parts, leave_parts, exit_parts, bound_parts, step_parts, turn_parts, for_parts, cur_of, after_bound, for_head, for_test}
use Rattle.block_forms.specs.Slots as slot
use Rattle.block_forms.specs.Slots.{slot_of}
use Rattle.call_forms.specs.Columned.{type_of_slot}
use Rattle.call_forms.specs.Templated.{type_or_bigint}
use Rattle.block_forms.proofs.Exits.{exit_either}
use Rattle.type_soundness.proofs.CleanNotes.{Clean, clean_parts, not_broken}
use Rattle.cte_types.proofs.FixedTypes.{FixedHave}
use Rattle.cte_types.proofs.PartTypes.{places, Has, AllHave, have_both, source_has}
use Rattle.cte_types.proofs.Standing.{Row, row_same, Entry, SlotAt, type_at}

pub type_in : (slots : List Slot) (i : ℕ) → (slice_get (slot_types slots) i ≡ None) ⊎ (slice_get (slot_types slots) i ≡ Some (type_at slots i))
type_in [] i = inl refl
type_in (x ∷ xs) zero = inr refl
type_in (x ∷ xs) (suc i) = type_in xs i

-- the counter, the last value and the step of a FOR with so many others before it
pub record ForAt (s : Setting) (f : ℕ) : Type 0 where
  pub counter : type_at s.slots (s.numbers.counters + 3 * f) ≡ ty.Integer
  pub last : type_at s.slots (s.numbers.counters + 3 * f + 1) ≡ ty.Integer
  pub step : type_at s.slots (s.numbers.counters + 3 * f + 2) ≡ ty.Integer

module _ (tables : List (List Ty)) (table : List Expr) (result : Ty) (s : Setting) (fors : ℕ)
    (fixed : FixedHave tables table s.slots result s.numbers.fixed)
    (hidden : (f : ℕ) → f < fors → ForAt s f) where
  abbrev Have : List Part → Type 0
  Have = AllHave tables table s.slots result

  abbrev HasIt : Ty → Term → Type 0
  HasIt = Has tables table s.slots result

  abbrev a : Asked
  a = places tables table s.slots result

  abbrev At : ℕ → List Expr → Type 0
  At = Row (Entry table)

  abbrev at_same : (j k : ℕ) (es : List Expr) → j ≡ k → At j es → At k es
  at_same = row_same (Entry table)

  abbrev of_slot : ℕ → Ty
  of_slot = type_at s.slots

  both : (ps qs : List Part) → Have ps → Have qs → Have (ps ++ qs)
  both = have_both tables table s.slots result

  source : (k : ℕ) (t : Ty) (e : Expr) → Entry table k e → Clean (asked a t e) → HasIt t (source_term k e)
  source = source_has tables table s.slots result

  -- ---- setting a slot, and leaving

  set_has : (strict : Bool) (t : Ty) (c x next : ℕ) (e : Term) → of_slot x ≡ t → HasIt (of_slot x) e
      → Have (set_parts s.goto s.numbers strict t c x e next)
  set_has false t c x next e at h = ((h, tt), tt)
  set_has true t c x next e at h = ((h, tt), ((tt, fixed.null_tests t x at), ((tt, tt), tt)))

  pub slot_has : (o : Option Slot) (c x next : ℕ) (e : Term) → slice_get s.slots x ≡ o → HasIt (of_slot x) e → Have (slot_parts s.goto s.numbers o c x e next)
  slot_has None c x next e at h = set_has false ty.Bigint c x next e (ap (λ o. type_or_bigint (type_of_slot o)) at) h
  slot_has (Some d) c x next e at h = set_has d.not_null d.ty c x next e (ap (λ o. type_or_bigint (type_of_slot o)) at) h

  pub leave_has : (when : Option Expr) (k c to next : ℕ) → At k (if_there when) → Clean (maybe_asked a ty.Boolean when)
      → Have (leave_parts s.goto s.numbers when k c to next)
  leave_has None k c to next h n = ((tt, tt), tt)
  leave_has (Some e) k c to next h n = ((tt, source k ty.Boolean e h.0 n), tt)

  pub exit_has : (when : Option Expr) (k c to next : ℕ) → At k (if_there when) → Clean (maybe_asked a ty.Boolean when)
      → Have (exit_parts s.goto s.numbers when k c to next)
  exit_has when k c to next h n = exit_either s.goto s.numbers when k c to next Have (tt, tt) (leave_has when k c to next h n)

  -- what a declaration gives

  default_has : (o : Option Expr) (t : Ty) (k x : ℕ) → of_slot x ≡ t → At k (if_there o) → Clean (maybe_asked a t o)
      → HasIt (of_slot x) (default_term s o t k)
  default_has o t k x at h n = subst (λ u. HasIt u (default_term s o t k)) (sym at) (by o h n)
    where
      by : (o : Option Expr) → At k (if_there o) → Clean (maybe_asked a t o) → HasIt t (default_term s o t k)
      by None h n = fixed.nulls t
      by (Some e) h n = source k t e h.0 n

  pub decl_has : (d : Decl) (p : Position) (next : ℕ) → At p.expr (if_there d.default) → SlotAt s.slots p.slot (slot_of d)
      → Clean (maybe_asked a d.ty d.default) → Have (decl_parts s d p next)
  decl_has d p next h at n =
      slot_has (slice_get s.slots p.slot) (node s.goto p.node) p.slot next (default_term s d.default d.ty p.expr) refl
      (default_has d.default d.ty p.expr p.slot (ap (λ o. type_or_bigint (type_of_slot o)) at) h n)

  -- ---- what is assigned

  slot_source : (o : Option Ty) (k x : ℕ) (e : Expr) → (o ≡ None) ⊎ (o ≡ Some (of_slot x)) → Entry table k e → Clean (asked_of_slot a o e)
      → HasIt (of_slot x) (source_term k e)
  unfolding asked_of_slot
  slot_source None k x e at h n = absurd (not_broken rule.Types n)
  slot_source (Some t) k x e (inl at) h n = cc
  slot_source (Some t) k x e (inr at) h n = source k (of_slot x) e h (subst (λ o. Clean (asked_of_slot a o e)) at n)

  pub assigned_has : (x : ℕ) (e : Expr) (p : Position) (next : ℕ) → Entry table p.expr e → Clean (asked_of_slot a (checks.slot_of a (Some x)) e)
      → Have (assign_parts s (Some x) e p next)
  assigned_has x e p next h n =
      slot_has (slice_get s.slots x) (node s.goto p.node) x next (source_term p.expr e) refl
      (slot_source (slice_get (slot_types s.slots) x) p.expr x e (type_in s.slots x) h n)

  -- ---- loops

  bound_has : (c x next : ℕ) (e : Term) → of_slot x ≡ ty.Integer → HasIt ty.Integer e → Have (bound_parts s.goto s.numbers c x e next)
  bound_has c x next e at h = ((subst (λ t. HasIt t e) (sym at) h, tt), ((tt, fixed.null_tests ty.Integer x at), ((tt, tt), tt)))

  step_has : (by : Option Expr) (k c step head : ℕ) → of_slot step ≡ ty.Integer → At k (if_there by) → Clean (maybe_asked a ty.Integer by)
      → Have (step_parts s.goto s.numbers by k c step head)
  step_has None k c step head at h n = ((subst (λ t. HasIt t (one s.numbers.fixed)) (sym at) fixed.ones, tt), tt)
  step_has (Some e) k c step head at h n =
      let test = no_of s.goto (jump_of s.goto c) in
      let below = own test (branches false (not_positive s.numbers.fixed step) (yes_of s.goto test) head) in
      let rest : List Part = below ∷ shared (yes_of s.goto test) (fails invalid_parameter) ∷ [] in
      both (bound_parts s.goto s.numbers c step (source_term k e) test) rest
      (bound_has c step test (source_term k e) at (source k ty.Integer e h.0 n)) ((tt, fixed.positives step at), ((tt, tt), tt))

  turn_has : (reverse : Bool) (var cur last step head test body next : ℕ) → of_slot var ≡ ty.Integer → of_slot cur ≡ ty.Integer → of_slot last ≡ ty.Integer
      → of_slot step ≡ ty.Integer
      → Have (turn_parts s.goto s.numbers reverse var cur last step head test body next)
  turn_has reverse var cur last step head test body next v c l b =
      let start = subst (λ t. HasIt t (copy s.numbers.fixed cur)) (sym v) (fixed.copies ty.Integer cur c) in
      let further = subst (λ t. HasIt t (moved s.numbers.fixed reverse cur step)) (sym c) (fixed.moves reverse cur step c b) in
      ((tt, fixed.ranges reverse cur last c l), ((start, tt), ((tt, fixed.ends reverse step cur b c), ((further, tt), tt))))

  for_has : (reverse : Bool) (first last : Expr) (by : Option Expr) (p : Position) (body next : ℕ) → of_slot p.slot ≡ ty.Integer → p.fors < fors
      → At p.expr (first ∷ last ∷ if_there by)
      → Clean (asked a ty.Integer first) → Clean (asked a ty.Integer last) → Clean (maybe_asked a ty.Integer by)
      → Have (for_parts s.goto s.numbers reverse first last by p body next)
  for_has reverse first last by p body next var room h n₁ n₂ n₃ =
      let b0 = node s.goto p.node in
      let b1 = after_bound s.goto b0 in
      let b2 = after_bound s.goto b1 in
      let cur = cur_of s.goto s.numbers p.fors in
      let head = for_head s.goto by b0 in
      let test = for_test s.goto s.numbers reverse p.fors in
      let second = at_same (suc p.expr) (p.expr + 1) (last ∷ if_there by) (omega arith) h.1 in
      let third = at_same (suc (suc p.expr)) (p.expr + 2) (if_there by) (omega arith) h.1.1 in
      let mine = hidden p.fors room in
      let counter = mine.counter in
      let end = mine.last in
      let step = mine.step in
      let firsts = bound_parts s.goto s.numbers b0 cur (source_term p.expr first) b1 in
      let lasts = bound_parts s.goto s.numbers b1 (cur + 1) (source_term (p.expr + 1) last) b2 in
      let steps = step_parts s.goto s.numbers by (p.expr + 2) b2 (cur + 2) head in
      let turns = turn_parts s.goto s.numbers reverse p.slot cur (cur + 1) (cur + 2) head test body next in
      both firsts (lasts ++ (steps ++ turns)) (bound_has b0 cur b1 (source_term p.expr first) counter (source p.expr ty.Integer first h.0 n₁))
      (both lasts (steps ++ turns) (bound_has b1 (cur + 1) b2 (source_term (p.expr + 1) last) end (source (p.expr + 1) ty.Integer last second.0 n₂))
      (both steps turns (step_has by (p.expr + 2) b2 (cur + 2) head step third n₃)
      (turn_has reverse p.slot cur (cur + 1) (cur + 2) head test body next var counter end step)))

  pub kind_has : (k : LoopKind) (p : Position) (body next : ℕ) → Clean (head_asked k a) → At p.expr (of_kind k) → Row (SlotAt s.slots) p.slot (slot.of_kind k)
      → p.fors + (kind_size k).fors ≤ fors → Have (kind_parts s k p body next)
  kind_has kind.Plain p body next n h d room = ((tt, tt), tt)
  kind_has (kind.While e) p body next n h d room = ((tt, source p.expr ty.Boolean e h.0 n), tt)
  kind_has (kind.Count name reverse first last by) p body next n h d room =
      let two = clean_parts (asked a ty.Integer first) (joined (asked a ty.Integer last) (maybe_asked a ty.Integer by)) n in
      let more = clean_parts (asked a ty.Integer last) (maybe_asked a ty.Integer by) two.1 in
      for_has reverse first last by p body next (ap (λ o. type_or_bigint (type_of_slot o)) d.0) (omega (arith, room)) h two.0 more.0 more.1
