-- The parts of a SELECT INTO lead to blocks of the form.
use Rattle.std.proofs.Common.{ℕ, ◌+◌, Bool, true, false, List, [], ◌∷◌, ◌++◌, slice_get, Option, Some, None, sym, subst}
use Rattle.away_trees.specs.declared.queries.Select.{Select}
use Rattle.select_into.specs.Entries.{Target, checks}
use Rattle.block_forms.specs.declared.places.Position.{Position}
use Rattle.block_forms.specs.Laid.{Setting}
use Rattle.block_forms.specs.Patterns.{node, yes_of, no_of, copy, onward, check_parts, pick_parts, put_part, after_put, put_parts, puts_of, into_parts}
use Rattle.goto_law.proofs.Leading.{in_list}
use Rattle.goto_law.proofs.LeadingStatements.{Stand, Within, IsLed, both, slot_leads}
use Rattle.goto_law.proofs.Parts.{left, right}

module _ (s : Setting) where
  put_leads : (o : Option ℕ) (c hidden next : ℕ) → Stand s (put_part s.goto s.numbers s.slots o c hidden next) → Within s next
      → IsLed s c (put_part s.goto s.numbers s.slots o c hidden next)
  put_leads None c hidden next stand h = record { begins = in_list s.goto.blocks c _ stand.0; parts = (h, tt) }
  put_leads (Some slot) c hidden next stand h = slot_leads s (slice_get s.slots slot) c slot next (copy s.numbers.fixed hidden) stand h

  puts_lead : (ts : List Target) (c hidden next : ℕ) → Stand s (put_parts s.goto s.numbers s.slots ts c hidden next) → Within s next
      → IsLed s (onward ts c next) (put_parts s.goto s.numbers s.slots ts c hidden next)
  puts_lead [] c hidden next stand h = record { begins = h; parts = tt }
  puts_lead (t ∷ ts) c hidden next stand h =
      let after = after_put s.goto s.numbers s.slots t.1 c in
      let to = onward ts after next in
      let front_parts = put_part s.goto s.numbers s.slots t.1 c hidden to in
      let back_parts = put_parts s.goto s.numbers s.slots ts after (hidden + 1) next in
      let back = puts_lead ts after (hidden + 1) next (right s.goto.blocks front_parts back_parts stand) h in
      let front = put_leads t.1 c hidden to (left s.goto.blocks front_parts back_parts stand) back.begins in
      both s c to front_parts back_parts front back

  picks_lead : (ts : List Target) (i k hidden : ℕ) (q : Select) (puts : ℕ) → Stand s (pick_parts s.goto s.numbers ts i k hidden q puts)
      → Within s puts → IsLed s (onward ts (node s.goto i) puts) (pick_parts s.goto s.numbers ts i k hidden q puts)
  picks_lead [] i k hidden q puts stand h = record { begins = h; parts = tt }
  picks_lead (t ∷ ts) i k hidden q puts stand h =
      let rest = picks_lead ts (i + 1) (k + 1) (hidden + 1) q puts stand.1 h in
      record { begins = in_list s.goto.blocks (node s.goto i) _ stand.0; parts = (rest.begins, rest.parts) }

  checks_lead : (strict : Bool) (c k : ℕ) (q : Select) (first : ℕ) → Stand s (check_parts s.goto s.numbers strict c k q first) → Within s first
      → IsLed s c (check_parts s.goto s.numbers strict c k q first)
  checks_lead false c k q first stand h = record { begins = subst (Within s) (sym stand.0) h; parts = (tt, tt) }
  checks_lead true c k q first stand h =
      let none = yes_of s.goto c in
      let second = no_of s.goto c in
      let two = yes_of s.goto second in
      let at_second = in_list s.goto.blocks second _ stand.1.1.0 in
      record {
        begins = in_list s.goto.blocks c _ stand.0;
        parts =
            ((in_list s.goto.blocks none _ stand.1.0, at_second), (tt, ((in_list s.goto.blocks two _ stand.1.1.1.0, h), (tt, tt))));
      }

  row_leads : (ts : List Target) (i k hidden : ℕ) (q : Select) (next : ℕ)
      → Stand s (pick_parts s.goto s.numbers ts (i + 1) k hidden q (puts_of s.goto s.numbers ts i)
      ++ put_parts s.goto s.numbers s.slots ts (puts_of s.goto s.numbers ts i) hidden next)
      → Within s next
      → IsLed s (onward ts (node s.goto (i + 1)) next) (pick_parts s.goto s.numbers ts (i + 1) k hidden q (puts_of s.goto s.numbers ts i)
      ++ put_parts s.goto s.numbers s.slots ts (puts_of s.goto s.numbers ts i) hidden next)
  row_leads [] i k hidden q next stand h = record { begins = h; parts = tt }
  row_leads (t ∷ ts) i k hidden q next stand h =
      let all : List Target = t ∷ ts in
      let put = puts_of s.goto s.numbers all i in
      let front_parts = pick_parts s.goto s.numbers all (i + 1) k hidden q put in
      let back_parts = put_parts s.goto s.numbers s.slots all put hidden next in
      let back = puts_lead all put hidden next (right s.goto.blocks front_parts back_parts stand) h in
      let front = picks_lead all (i + 1) k hidden q put (left s.goto.blocks front_parts back_parts stand) back.begins in
      both s (node s.goto (i + 1)) put front_parts back_parts front back

  pub into_leads : (strict : Bool) (ts : List Target) (q : Select) (p : Position) (next : ℕ)
      → Stand s (into_parts s.goto s.numbers s.slots strict ts q p next) → Within s next
      → IsLed s (node s.goto p.node) (into_parts s.goto s.numbers s.slots strict ts q p next)
  into_leads strict ts q p next stand h =
      let first = onward ts (node s.goto (p.node + 1)) next in
      let hidden = s.numbers.targets + p.targets in
      let put = puts_of s.goto s.numbers ts p.node in
      let test_parts = check_parts s.goto s.numbers strict (node s.goto p.node) p.expr q first in
      let row_parts =
      pick_parts s.goto s.numbers ts (p.node + 1) (p.expr + checks strict) hidden q put ++ put_parts s.goto s.numbers s.slots ts put hidden next in
      let back = row_leads ts p.node (p.expr + checks strict) hidden q next (right s.goto.blocks test_parts row_parts stand) h in
      let front = checks_lead strict (node s.goto p.node) p.expr q first (left s.goto.blocks test_parts row_parts stand) back.begins in
      both s (node s.goto p.node) first test_parts row_parts front back
