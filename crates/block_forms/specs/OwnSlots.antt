-- What holds of the slots of a checked function.
use Rattle.std.specs.Prelude.{◌≡◌, ℕ, ◌<◌, true, nat_lt, List, length}
use Rattle.away_trees.specs.declared.queries.Expr.{Expr}
use Rattle.away_trees.specs.declared.statements.Function.{Function}
use Rattle.away_types.specs.declared.slots.Slot.{Slot}
use Rattle.sql_meaning.specs.Reads.{fits}
use Rattle.plsql_meaning.specs.Sight.{query_of}
use Rattle.block_forms.specs.Expressions.{source_expressions}
use Rattle.block_forms.specs.Intos.{Into, intos}
use Rattle.block_forms.specs.Lowered.{numbers_of}
use Rattle.block_forms.specs.Places.{Each}
use Rattle.block_forms.specs.Slots.{own_slots}
use Rattle.block_forms.specs.Targets.{targets}

-- the slots that a function's text names: its parameters, declarations and FOR variables
abbrev pub named_slots : Function → ℕ
named_slots f = (numbers_of f).counters

-- An expression reads slots below a number alone, and tables. It reads no parameter of a query and
-- no column of a select around it.
pub record ReadsBelow (slots : ℕ) (e : Expr) : Type 0 where
  pub tables : ℕ
  pub alone : fits (λ i. nat_lt i slots) 0 tables e ≡ true

-- A SELECT INTO has a target, and its select reads so as well.
pub record IsInto (slots : ℕ) (i : Into) : Type 0 where
  pub some : 0 < length i.targets
  pub reads : ReadsBelow slots (query_of i.query)

-- The slots are those of its text, with three hidden ones for each FOR and one for each target of a
-- SELECT INTO, which no expression reads and no assignment sets.
pub record OwnSlots (f : Function) (slots : List Slot) : Type 0 where
  pub slots_are : slots ≡ own_slots f
  pub reads : Each (ReadsBelow (named_slots f)) (source_expressions f)
  pub sets : Each (λ slot. slot < named_slots f) (targets f.body)
  pub intos : Each (IsInto (named_slots f)) (intos f.body)
