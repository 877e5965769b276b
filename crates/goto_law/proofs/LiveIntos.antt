-- Only visible slots are live where a SELECT INTO begins.
use Rattle.std.proofs.Common.{◌≡◌, ℕ, zero, suc, ◌+◌, ◌<◌, Bool, true, false, List, [], ◌∷◌, ◌++◌, length, Option, Some, None, slice_get, sym, subst, inl, inr, arith}
use Rattle.away_trees.specs.declared.queries.Select.{Select}
use Rattle.away_trees.specs.declared.statements.Stmt.TheOpen as st
use Rattle.plsql_meaning.specs.Outcomes.{no_data_found, too_many_rows}
use Rattle.plsql_meaning.specs.Sight.{query_of}
use Rattle.select_into.specs.Entries.{Target, checks}
use Rattle.select_into.specs.Wrapped.{select_slots}
use Rattle.block_forms.specs.declared.places.Position.{Position}
use Rattle.block_forms.specs.declared.forms.Term.{Term}
use Rattle.block_forms.specs.Laid.{Setting}
use Rattle.block_forms.specs.Lowered.{AllStand}
use Rattle.block_forms.specs.Patterns.{node, yes_of, no_of, copy, select_term, onward, check_parts, pick_parts, put_part, after_put, put_parts, puts_of, into_parts}
use Rattle.block_forms.specs.Places.{In}
use Rattle.goto_law.proofs.InSight.{source_reads}
use Rattle.goto_law.proofs.LiveLeaves.{LayerSafe, reads_one, slot_safe}
use Rattle.goto_law.proofs.Parts.{left, right}
use Rattle.goto_law.proofs.SelectEntries.{query_slots}
use Rattle.goto_law.proofs.Ways.{Slots, with_slot, Within, Safe, safe_wider, safe_jump, safe_branch, safe_set, safe_fail}

-- ---- with so many slots from one on

abbrev with_many : ℕ → ℕ → Slots → Slots
with_many zero slot V = V
with_many (suc n) slot V = with_many n (slot + 1) (with_slot V slot)

many_wider : (n slot : ℕ) (V : Slots) → Within V (with_many n slot V)
many_wider zero slot V i v = v
many_wider (suc n) slot V i v = many_wider n (slot + 1) (with_slot V slot) i (inl v)

many_has : (n slot : ℕ) (V : Slots) (m : ℕ) → m < n → with_many n slot V (slot + m)
many_has zero slot V m lt = absurd (omega (arith, lt))
many_has (suc n) slot V zero lt =
    let same : slot ≡ slot + 0 = omega arith in
    many_wider n (slot + 1) (with_slot V slot) (slot + 0) (inr same)
many_has (suc n) slot V (suc m) lt =
    let same : slot + 1 + m ≡ slot + suc m = omega arith in
    subst (with_many n (slot + 1) (with_slot V slot)) same (many_has n (slot + 1) (with_slot V slot) m (omega (arith, lt)))

module _ (s : Setting) where
  abbrev SafeAt : ℕ → ℕ → Slots → Type 0
  SafeAt k b V = Safe s.goto.blocks k b V

  -- what the select reads is visible
  abbrev ReadsSelect : Slots → Select → Type 0
  ReadsSelect V q = (i : ℕ) → In (select_slots q) i → V i

  -- ---- puts

  put_safe : (o : Option ℕ) (k b hidden next : ℕ) (V : Slots) → V hidden
      → AllStand s.goto.blocks (put_part s.goto s.numbers s.slots o b hidden next) → SafeAt k next V → SafeAt k b V
  put_safe None k b hidden next V v stand h = safe_jump s.goto.blocks k b next false V stand.0 h
  put_safe (Some slot) k b hidden next V v stand h =
      let value : Term = copy s.numbers.fixed hidden in
      slot_safe s (slice_get s.slots slot) k b slot next value V stand (reads_one V hidden value.expr v)
      (safe_wider s.goto.blocks k next V (with_slot V slot) (λ i v. inl v) h)

  puts_safe : (ts : List Target) (k b hidden next : ℕ) (V : Slots) → ((m : ℕ) → m < length ts → V (hidden + m))
      → AllStand s.goto.blocks (put_parts s.goto s.numbers s.slots ts b hidden next) → SafeAt k next V → SafeAt k (onward ts b next) V
  puts_safe [] k b hidden next V holds stand h = h
  puts_safe (t ∷ ts) k b hidden next V holds stand h =
      let after = after_put s.goto s.numbers s.slots t.1 b in
      let to = onward ts after next in
      let front_parts = put_part s.goto s.numbers s.slots t.1 b hidden to in
      let back_parts = put_parts s.goto s.numbers s.slots ts after (hidden + 1) next in
      let same : hidden + 0 ≡ hidden = omega arith in
      put_safe t.1 k b hidden to V (subst V same (holds 0 (omega arith))) (left s.goto.blocks front_parts back_parts stand)
      (puts_safe ts k after (hidden + 1) next V
      (λ m lt. let more : hidden + suc m ≡ hidden + 1 + m = omega arith in subst V more (holds (suc m) (omega (arith, lt))))
      (right s.goto.blocks front_parts back_parts stand) h)

  -- ---- picks

  picks_safe : (ts : List Target) (i e hidden : ℕ) (q : Select) (puts k : ℕ) (V : Slots) → ReadsSelect V q
      → AllStand s.goto.blocks (pick_parts s.goto s.numbers ts i e hidden q puts) → SafeAt k puts (with_many (length ts) hidden V)
      → SafeAt k (onward ts (node s.goto i) puts) V
  picks_safe [] i e hidden q puts k V reads stand h = h
  picks_safe (t ∷ ts) i e hidden q puts k V reads stand h =
      safe_set s.goto.blocks k (node s.goto i) (onward ts (node s.goto (i + 1)) puts) hidden (select_term e q) V stand.0 reads
      (picks_safe ts (i + 1) (e + 1) (hidden + 1) q puts k (with_slot V hidden) (λ j m. inl (reads j m)) stand.1 h)

  -- ---- tests

  checks_safe : (strict : Bool) (k b e : ℕ) (q : Select) (first : ℕ) (V : Slots) → ReadsSelect V q
      → AllStand s.goto.blocks (check_parts s.goto s.numbers strict b e q first) → SafeAt k first V → SafeAt k b V
  checks_safe false k b e q first V reads stand h = subst (λ c. SafeAt k c V) (sym stand.0) h
  checks_safe true k b e q first V reads stand h =
      let none = yes_of s.goto b in
      let second = no_of s.goto b in
      let two = yes_of s.goto second in
      safe_branch s.goto.blocks k b none second false (select_term e q) V stand.0 reads
      (safe_fail s.goto.blocks k none no_data_found V stand.1.0)
      (safe_branch s.goto.blocks k second two first false (select_term (e + 1) q) V stand.1.1.0 reads
      (safe_fail s.goto.blocks k two too_many_rows V stand.1.1.1.0) h)

  -- ---- the whole

  row_safe : (ts : List Target) (i e hidden : ℕ) (q : Select) (next k : ℕ) (V : Slots) → ReadsSelect V q
      → AllStand s.goto.blocks (pick_parts s.goto s.numbers ts (i + 1) e hidden q (puts_of s.goto s.numbers ts i)
      ++ put_parts s.goto s.numbers s.slots ts (puts_of s.goto s.numbers ts i) hidden next)
      → SafeAt k next V → SafeAt k (onward ts (node s.goto (i + 1)) next) V
  row_safe [] i e hidden q next k V reads stand h = h
  row_safe (t ∷ ts) i e hidden q next k V reads stand h =
      let all : List Target = t ∷ ts in
      let put = puts_of s.goto s.numbers all i in
      let W = with_many (length all) hidden V in
      let front_parts = pick_parts s.goto s.numbers all (i + 1) e hidden q put in
      let back_parts = put_parts s.goto s.numbers s.slots all put hidden next in
      picks_safe all (i + 1) e hidden q put k V reads (left s.goto.blocks front_parts back_parts stand)
      (puts_safe all k put hidden next W (λ m lt. many_has (length all) hidden V m lt) (right s.goto.blocks front_parts back_parts stand)
      (safe_wider s.goto.blocks k next V W (many_wider (length all) hidden V) h))

  whole_safe : (strict : Bool) (ts : List Target) (q : Select) (p : Position) (next k : ℕ) (V : Slots) → ReadsSelect V q
      → AllStand s.goto.blocks (into_parts s.goto s.numbers s.slots strict ts q p next) → SafeAt k next V → SafeAt k (node s.goto p.node) V
  whole_safe strict ts q p next k V reads stand h =
      let first = onward ts (node s.goto (p.node + 1)) next in
      let hidden = s.numbers.targets + p.targets in
      let put = puts_of s.goto s.numbers ts p.node in
      let test_parts = check_parts s.goto s.numbers strict (node s.goto p.node) p.expr q first in
      let row_parts =
      pick_parts s.goto s.numbers ts (p.node + 1) (p.expr + checks strict) hidden q put ++ put_parts s.goto s.numbers s.slots ts put hidden next in
      checks_safe strict k (node s.goto p.node) p.expr q first V reads (left s.goto.blocks test_parts row_parts stand)
      (row_safe ts p.node (p.expr + checks strict) hidden q next k V reads (right s.goto.blocks test_parts row_parts stand) h)

  pub into_safe : (strict : Bool) (targets : List Target) (query : Select)
      → LayerSafe s (st.Into strict targets query) (st.Into strict targets query)
  into_safe strict targets query = record {
    slots = λ next see. omega arith;
    goes = λ p around next see V stood k on.
        whole_safe strict targets query p next k V
        (λ i m. source_reads V see p.expr (query_of query) stood.sees stood.reads.0 i (subst (λ names. In names i) (sym (query_slots query)) m))
        stood.stand on.follows;
  }
