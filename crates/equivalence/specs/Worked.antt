-- A worked example: the forms of sign_of, which has one test, and its query.
use Rattle.std.specs.Prelude.{[], ◌∷◌}
use Rattle.away_trees.specs.declared.schemas.Schema.{Schema}
use Rattle.block_forms.specs.Worked.{bigint, sign_of, sign_of_form}
use Rattle.call_forms.specs.declared.forms.Forms.{Forms}
use Rattle.call_forms.specs.Worked.{sign_of_ssa, sign_of_anf, sign_of_merged, sign_of_query}
use Rattle.equivalence.specs.Accepted.{AcceptedForms}

abbrev pub no_table : Schema
no_table = record { tables = [] }

-- with all blocks merged into the entry
abbrev pub sign_of_forms : Forms
sign_of_forms = record { goto = sign_of_form; ssa = sign_of_ssa; anf = sign_of_anf; tail = sign_of_merged }

abbrev pub SignOfIsAccepted : Type 0
SignOfIsAccepted = AcceptedForms no_table sign_of (bigint ∷ []) sign_of_forms sign_of_query
