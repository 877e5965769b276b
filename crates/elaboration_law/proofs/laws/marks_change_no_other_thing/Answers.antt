use Rattle.std.proofs.Common.{ap}
use Rattle.std.specs.List.{filter_map}
use Rattle.away_grammar.specs.Printing.{printing}
use Rattle.away_typing.specs.Aggregates.{using_}
use Rattle.away_typing.specs.Parameters.{finding}
use Rattle.away_typing.specs.ParameterLists.{with_expr}
use Rattle.away_typing.specs.Trees.{uses_of}
use Rattle.sql_meaning.specs.Reads.{reading, first_occurrences, slot_of}
use Rattle.elaboration.specs.Elaborating.{elaborating, elaborated}
use Rattle.elaboration_law.proofs.Dotted.{names_without_marks}
use Rattle.elaboration_law.proofs.ErasedMarks.{marks_alone, marked_same}
use Rattle.elaboration_law.proofs.Plain.{same_expr, same_query}
use Rattle.elaboration_law.proofs.Unmarked.{reading_blind, uses_blind, finding_blind, printing_blind, elaborating_blind}
use Rattle.elaboration_law.proofs.laws.marks_change_no_other_thing.Goals as goal

pub returns-clause-expr : goal.returns-clause-expr
unfolding uses_of with_expr elaborated
returns-clause-expr c e =
    let reads = same_expr reading reading_blind e in
    record {
      reads_are = ap (λ r. r 0) reads;
      slots_are = ap (λ r. first_occurrences (filter_map slot_of (r 0))) reads;
      uses_are = ap (λ t. t.uses) (same_expr using_ uses_blind e);
      params_are = λ p. ap (λ f. f p) (same_expr finding finding_blind e);
      printed_are = same_expr printing printing_blind e;
      marks_are = λ p. ap (λ m. m p) (same_expr elaborating elaborating_blind e);
    }

pub returns-clause-query : goal.returns-clause-query
returns-clause-query c q = same_query printing printing_blind q

pub returns-clause-names : goal.returns-clause-names
returns-clause-names c = names_without_marks

pub returns-clause-marked : goal.returns-clause-marked
unfolding uses_of
returns-clause-marked c p e =
    let reads = marked_same reading reading_blind e p in
    record {
      erased_are = marks_alone e p;
      reads_are = ap (λ r. r 0) reads;
      slots_are = ap (λ r. first_occurrences (filter_map slot_of (r 0))) reads;
      uses_are = ap (λ t. t.uses) (marked_same using_ uses_blind e p);
      printed_are = marked_same printing printing_blind e p;
    }
