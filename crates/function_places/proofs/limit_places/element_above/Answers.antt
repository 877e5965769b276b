use Rattle.function_places.proofs.LimitSteps.{above_in_bytes, inner_at, lists_at, outer_at}
use Rattle.function_places.proofs.limit_places.element_above.Goals as goal

pub above_in_lists-requires-clause-outer : goal.above_in_lists-requires-clause-outer
above_in_lists-requires-clause-outer c = outer_at _ _ c.as_slice.ensures.value c.in-Ok.ensures.ok.1.lists_are

pub above_in_lists-requires-clause-inner : goal.above_in_lists-requires-clause-inner
above_in_lists-requires-clause-inner c = inner_at _ _ c.as_slice-in-Ok.ensures.value c.in-Ok.ensures.ok.1.lists_are

pub returns-in-Ok : goal.returns-in-Ok
returns-in-Ok c = above_in_bytes _ _ _ _ (lists_at _ _ _ _ c.as_slice.ensures.value c.as_slice-in-Ok.ensures.value c.in-Ok.ensures.ok.1.lists_are) c.above_in_lists.ensures
