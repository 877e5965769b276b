-- How many blocks are built for a SELECT INTO, and where they begin.
use Rattle.std.proofs.Common.{◌≡◌, ℕ, suc, ◌+◌, Bool, true, false, List, [], ◌∷◌, ◌++◌, length, Option, Some, None, refl, ap, arith, length-append}
use Rattle.std.specs.Prelude.{slice_get}
use Rattle.away_trees.specs.declared.queries.Select.{Select}
use Rattle.away_types.specs.declared.slots.Slot.{Slot}
use Rattle.select_into.specs.Entries.{Target, checks}
use Rattle.block_forms.specs.declared.places.Position.{Position}
use Rattle.block_forms.specs.declared.places.Numbers.{Numbers}
use Rattle.block_forms.specs.Patterns.{copy, onward}
use Rattle.goto_lower.specs.Building.{first_from}
use Rattle.goto_lower.specs.IntoBlocks.{check_many, put_many, puts_many, into_many, into_first, pick_firsts, check_blocks, pick_blocks, put_block, put_blocks, into_blocks}
use Rattle.goto_lower.proofs.SetSizes.{slot_length}

pub check_length : (strict : Bool) (k : ℕ) (q : Select) (first start : ℕ) → length (check_blocks strict k q first start) ≡ check_many strict
check_length true k q first start = refl
check_length false k q first start = refl

pub pick_length : (ts : List Target) (k h : ℕ) (q : Select) (start : ℕ) → length (pick_blocks ts k h q start) ≡ length ts
pick_length [] k h q start = refl
pick_length (t ∷ ts) k h q start = ap suc (pick_length ts (k + 1) (h + 1) q (start + 1))

pub firsts_length : (ts : List Target) (start : ℕ) → length (pick_firsts ts start) ≡ length ts
firsts_length [] start = refl
firsts_length (t ∷ ts) start = ap suc (firsts_length ts (start + 1))

module _ (n : Numbers) (slots : List Slot) where
  pub put_length : (t : Option ℕ) (h next start : ℕ) → length (put_block n slots t h next start) ≡ put_many slots t
  put_length None h next start = refl
  put_length (Some slot) h next start = slot_length n (slice_get slots slot) slot (copy n.fixed h) next start

  pub puts_length : (ts : List Target) (h next start : ℕ) → length (put_blocks n slots ts h next start) ≡ puts_many slots ts
  puts_length [] h next start = refl
  puts_length (t ∷ ts) h next start =
      let then = start + put_many slots t.1 in
      omega (
        arith,
        length-append (put_block n slots t.1 h (onward ts then next) start) (put_blocks n slots ts (h + 1) next then),
        put_length t.1 h (onward ts then next) start,
        puts_length ts (h + 1) next then,
      )

  pub into_length : (strict : Bool) (ts : List Target) (q : Select) (p : Position) (next start : ℕ) → length (into_blocks n slots strict ts q p next start) ≡ into_many slots strict ts
  into_length strict ts q p next start =
      let first = onward ts (start + check_many strict) next in
      let k = p.expr + checks strict in
      let h = n.targets + p.targets in
      let from = start + check_many strict in
      omega (
        arith,
        length-append (check_blocks strict p.expr q first start) (pick_blocks ts k h q from ++ put_blocks n slots ts h next (from + length ts)),
        length-append (pick_blocks ts k h q from) (put_blocks n slots ts h next (from + length ts)),
        check_length strict p.expr q first start,
        pick_length ts k h q from,
        puts_length ts h next (from + length ts),
      )

pub into_from : (slots : List Slot) (strict : Bool) (ts : List Target) (start next : ℕ) → into_first strict ts start next ≡ first_from (into_many slots strict ts) start next
into_from slots true ts start next =
    let m = length ts + puts_many slots ts in
    let e : suc (3 + m) ≡ 4 + m = omega arith in
    ap (λ k. first_from k start next) e
into_from slots false [] start next =
    let e : 0 ≡ 0 + (0 + 0) = omega arith in
    ap (λ k. first_from k start next) e
into_from slots false (t ∷ ts) start next =
    let m = puts_many slots (t ∷ ts) in
    let e : suc (length ts + m) ≡ 0 + (length (t ∷ ts) + m) = omega arith in
    ap (λ k. first_from k start next) e
