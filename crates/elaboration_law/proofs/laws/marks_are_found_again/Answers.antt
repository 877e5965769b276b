use Rattle.std.proofs.Common.{ap, ◌∙◌}
use Rattle.elaboration.specs.Elaborating.{elaborating, elaborated, elaborated_query}
use Rattle.elaboration_law.proofs.Marked.{typed_is_marked, typed_query_is_marked}
use Rattle.elaboration_law.proofs.Plain.{same_expr, same_query}
use Rattle.elaboration_law.proofs.Unmarked.{elaborating_blind}
use Rattle.elaboration_law.proofs.WholeMarked.{whole_marked}
use Rattle.elaboration_law.proofs.laws.marks_are_found_again.Goals as goal

pub returns-clause-expr : goal.returns-clause-expr
unfolding elaborated
returns-clause-expr c p e h = record { again = typed_is_marked e p h; from_plain = ap (λ m. m p) (same_expr elaborating elaborating_blind e) ∙ typed_is_marked e p h }

pub returns-clause-query : goal.returns-clause-query
unfolding elaborated_query
returns-clause-query c p q h = ap (λ m. m p) (same_query elaborating elaborating_blind q) ∙ typed_query_is_marked q p h

pub returns-clause-whole : goal.returns-clause-whole
returns-clause-whole c = whole_marked
