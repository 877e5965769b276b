use Rattle.plsql_parse.proofs.WholeFile.{outer_spelled, inner_spelled, words_refused, few_at, kept_read, limit_refused, none_read}
use Rattle.plsql_parse.proofs.OneFile.{file_read}
use Rattle.plsql_parse.proofs.read.read_function.Goals as goal

pub whole_function-requires-clause-outer : goal.whole_function-requires-clause-outer
whole_function-requires-clause-outer c =
    let few = few_at _ _ _ _ _ c.as_slice-outer.ensures.value c.as_slice-inner.ensures.value c.in_ok-lists.ensures.ok in
    outer_spelled few.1.lists_are

pub whole_function-requires-clause-inner : goal.whole_function-requires-clause-inner
whole_function-requires-clause-inner c =
    let few = few_at _ _ _ _ _ c.as_slice-outer.ensures.value c.as_slice-inner.ensures.value c.in_ok-lists.ensures.ok in
    inner_spelled few.1.lists_are

pub refused_word-requires-clause-outer : goal.refused_word-requires-clause-outer
refused_word-requires-clause-outer c =
    let few = few_at _ _ _ _ _ c.as_slice-outer.ensures.value c.as_slice-inner.ensures.value c.in_ok-lists.ensures.ok in
    outer_spelled few.1.lists_are

pub refused_word-requires-clause-inner : goal.refused_word-requires-clause-inner
refused_word-requires-clause-inner c =
    let few = few_at _ _ _ _ _ c.as_slice-outer.ensures.value c.as_slice-inner.ensures.value c.in_ok-lists.ensures.ok in
    inner_spelled few.1.lists_are

pub returns-in-Ok-clause-ok : goal.returns-in-Ok-clause-ok
returns-in-Ok-clause-ok c =
    let few = few_at _ _ _ _ _ c.as_slice-outer.ensures.value c.as_slice-inner.ensures.value c.in_ok-lists.ensures.ok in
    kept_read _ c.in-Ok.found _ (_, (_, few)) (file_read few.1.lists_are c.in-Ok.ensures) c.within_limits.ensures.ok

pub returns-in-Ok-clause-err : goal.returns-in-Ok-clause-err
returns-in-Ok-clause-err c =
    let few = few_at _ _ _ _ _ c.as_slice-outer.ensures.value c.as_slice-inner.ensures.value c.in_ok-lists.ensures.ok in
    limit_refused _ c.in-Ok.found _ (_, (_, few)) (file_read few.1.lists_are c.in-Ok.ensures) c.within_limits.ensures.err

pub returns-in-Err-NoTree-clause-err : goal.returns-in-Err-NoTree-clause-err
returns-in-Err-NoTree-clause-err c =
    let few = few_at _ _ _ _ _ c.as_slice-outer.ensures.value c.as_slice-inner.ensures.value c.in_ok-lists.ensures.ok in
    words_refused _ _ _ c.refused_word.result few (none_read _ _ _ few.1.lists_are (rw c.in-Err-NoTree.field-0-is at c.in-Err-NoTree.ensures)) c.refused_word.ensures
