-- What the template says where it is filled with what a query of turns is written of.
use Rattle.std.specs.Prelude.{ℕ}
use Rattle.away_values.specs.declared.types.Ty.{Ty}
use Rattle.block_forms.specs.declared.forms.Term.{Term}
use Rattle.call_forms.specs.Columned.{type_of_name}
use Rattle.call_forms.specs.Scopes.{Scope}
use Rattle.call_forms.specs.Templated.{type_or_bigint}
use Rattle.turn_template.specs.TurnTemplate.{Ref, numbered, of_place, term_ref}
use Rattle.turn_terms.specs.Choosing.{chosen_total}
use Rattle.turn_terms.specs.Sameness.{same}
use Rattle.turn_terms.specs.declared.writer.Writer.{Writer}

-- the type of each name: that of its slot
abbrev pub types_in : Writer → ℕ → Ty
types_in w n = type_or_bigint (type_of_name w.slots.now w.names.now n)

-- a term where its slots are what its names stand for, however cells are written
abbrev pub term_in : Writer → Scope Ref → Ty → Term → Ref
term_in w =
    term_ref w.table.now (types_in w) w.columns.now w.result (chosen_total w.table.now) (numbered same)

-- a column of the row at a place
abbrev pub place_in : Writer → ℕ → Ref
place_in w =
    of_place w.table.now (types_in w) w.columns.now w.result (chosen_total w.table.now) (numbered same)
