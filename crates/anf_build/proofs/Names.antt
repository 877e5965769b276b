-- What blocks read under names, and the names that slots have at their ends.
use Rattle.std.proofs.Common.{◌≡◌, ◌⊎◌, ℕ, ◌<◌, List, length, slice_get, Option, Some, None, if◌then◌else◌, refl, sym, ap, ◌∙◌, subst, inl, inr}
use Rattle.std.proofs.lemmas.Option.{slice_get_within}
use Rattle.block_forms.specs.declared.forms.SsaBlock.{SsaBlock}
use Rattle.block_forms.specs.declared.forms.Term.{Term}
use Rattle.block_forms.specs.Forms.{Assignment, Pairs, at_key, source}
use Rattle.block_forms.specs.Live.{LiveSet}
use Rattle.block_forms.specs.Named.{AssignmentRenamed, Feeds, Gives, TermRenamed, renewal, with_pair}
use Rattle.block_forms.specs.Places.{In}
use Rattle.call_forms.specs.Called.{Among}
use Rattle.call_forms.specs.Useful.{ReadBySet, SetsAnother}
use Rattle.block_graph.proofs.Lists.{compared, in_place, place_in, some_at, some_same, tests_other, tests_same}

-- ---- terms

-- a slot that is read has a name in the map, at a place of the term
pub name_of_read : (m : Pairs) (t u : Term) → TermRenamed m t u → (s : ℕ) → In t.names s → (n : ℕ) × (at_key m s ≡ Some n) × Among u.names n
name_of_read m t u r s i =
    let at = place_in t.names s i in
    let lt : at.0 < length u.names = subst (λ k. at.0 < k) r.names.as_many (slice_get_within t.names at.0 s at.1) in
    let n = some_at u.names at.0 lt in
    (n.0, r.names.each at.0 s n.0 at.1 n.1, record { place = at.0; there = n.1 })

-- a name that is read is that of a slot that is read
pub slot_of_read : (m : Pairs) (t u : Term) → TermRenamed m t u → (i n : ℕ) → slice_get u.names i ≡ Some n → (s : ℕ) × In t.names s × (at_key m s ≡ Some n)
slot_of_read m t u r i n at =
    let lt : i < length t.names = subst (λ k. i < k) (sym r.names.as_many) (slice_get_within u.names i n at) in
    let s = some_at t.names i lt in
    (s.0, in_place t.names i s.0 s.1, r.names.each i s.0 n s.1 at)

-- ---- assignments

abbrev pub ReadsSlot : Assignment → ℕ → Type 0
ReadsSlot None s = ⊥
ReadsSlot (Some a) s = In a.1.names s

pub live_cases : (a : Assignment) (later : Type 0) (s : ℕ) → LiveSet a later s → ReadsSlot a s ⊎ (SetsAnother a s × later)
live_cases None later s h = inr (tt, h)
live_cases (Some a) later s (inl i) = inl i
live_cases (Some a) later s (inr h) = inr h

pub live_by_read : (a : Assignment) (later : Type 0) (s : ℕ) → ReadsSlot a s → LiveSet a later s
live_by_read None later s h = absurd h
live_by_read (Some a) later s i = inl i

pub live_by_end : (a : Assignment) (later : Type 0) (s : ℕ) → SetsAnother a s → later → LiveSet a later s
live_by_end None later s other h = h
live_by_end (Some a) later s other h = inr (other, h)

pub set_reads : (names : List ℕ) (m : Pairs) (a b : Assignment) → AssignmentRenamed names m a b → (s : ℕ) → ReadsSlot a s → (n : ℕ) × (at_key m s ≡ Some n) × ReadBySet b n
set_reads names m None None r s h = absurd h
set_reads names m None (Some b) r s h = absurd h
set_reads names m (Some a) None r s h = absurd r
set_reads names m (Some a) (Some b) r s h = name_of_read m a.1 b.1 r.1 s h

-- ---- exits

-- a slot that isn't set has the same name at the end
pub exit_other : (names : List ℕ) (m : Pairs) (a b : Assignment) → AssignmentRenamed names m a b → (s : ℕ) → SetsAnother a s → at_key (with_pair (renewal a b) m) s ≡ at_key m s
exit_other names m None None r s other = refl
exit_other names m None (Some b) r s other = absurd r
exit_other names m (Some a) None r s other = absurd r
exit_other names m (Some a) (Some b) r s other = ap (λ c. if c then Some b.0 else at_key m s) (tests_other a.0 s other)

-- the name is assigned
abbrev pub Assigns : Assignment → ℕ → Type 0
Assigns None n = ⊥
Assigns (Some b) n = b.0 ≡ n

-- a name at the end is the assigned one, or that of a slot which isn't set
pub exit_cases : (names : List ℕ) (m : Pairs) (a b : Assignment) → AssignmentRenamed names m a b → (s n : ℕ) → at_key (with_pair (renewal a b) m) s ≡ Some n → Assigns b n ⊎ (SetsAnother a s × (at_key m s ≡ Some n))
exit_cases names m None None r s n e = inr (tt, e)
exit_cases names m None (Some b) r s n e = absurd r
exit_cases names m (Some a) None r s n e = absurd r
exit_cases names m (Some a) (Some b) r s n e = elim (compared a.0 s) [
  | inl q ↦ inl (some_same (sym (ap (λ c. if c then Some b.0 else at_key m s) (tests_same a.0 s q)) ∙ e))
  | inr other ↦ inr (other, sym (ap (λ c. if c then Some b.0 else at_key m s) (tests_other a.0 s other)) ∙ e)
]

-- the name of a slot that isn't set is not the assigned one
pub sets_another : (names : List ℕ) (m : Pairs) (a b : Assignment) → AssignmentRenamed names m a b → (s n : ℕ) → SetsAnother a s → slice_get names n ≡ Some s → SetsAnother b n
sets_another names m None None r s n other own = tt
sets_another names m None (Some b) r s n other own = absurd r
sets_another names m (Some a) None r s n other own = absurd r
sets_another names m (Some a) (Some b) r s n other own = λ e. other (some_same (sym r.0 ∙ ap (slice_get names) e ∙ own))

-- ---- edges

given : (o p : Option ℕ) → Gives o p → (n : ℕ) × (o ≡ Some n) × (p ≡ Some n)
given None p h = absurd h
given (Some n) p h = (n, refl, h)

-- the next block is there
pub fed_block : (b : ℕ) (exits : Pairs) (o : Option SsaBlock) → Feeds b exits o → (y : SsaBlock) × (o ≡ Some y) × Feeds b exits (Some y)
fed_block b exits None h = absurd h
fed_block b exits (Some y) h = (y, refl, h)

-- a slot of the next block's map has a name at the end, which the name there takes
pub fed_name : (b : ℕ) (exits : Pairs) (y : SsaBlock) → Feeds b exits (Some y) → (p : ℕ × ℕ) → In y.map p → (n : ℕ) × (at_key exits p.0 ≡ Some n) × (source y.phis b p.1 ≡ Some n)
fed_name b exits y h p i = let at = place_in y.map p i in given (at_key exits p.0) (source y.phis b p.1) (h at.0 p at.1)
