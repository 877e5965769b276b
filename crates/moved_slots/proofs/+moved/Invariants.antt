use Rattle.std.proofs.Common.{drop}
use Rattle.moved_slots.specs.Moved.{Each, ArmMoved, ExprMoved, FromMoved, ItemMoved, KeyMoved, LinkMoved, SelectMoved, slots_by}
use Rattle.moved_slots.proofs.+moved.Given as goal

abbrev pub invariant-exprs::exprs_moved-loop-i : goal.invariant-exprs::exprs_moved-loop-i
invariant-exprs::exprs_moved-loop-i l = Each (ExprMoved (slots_by l.pairs) l.d) (drop l.i l.list) (drop l.i l.others) → Each (ExprMoved (slots_by l.pairs) l.d) l.list l.others

abbrev pub invariant-exprs::links_moved-loop-i : goal.invariant-exprs::links_moved-loop-i
invariant-exprs::links_moved-loop-i l = Each (LinkMoved (slots_by l.pairs) l.d) (drop l.i l.list) (drop l.i l.others) → Each (LinkMoved (slots_by l.pairs) l.d) l.list l.others

abbrev pub invariant-exprs::arms_moved-loop-i : goal.invariant-exprs::arms_moved-loop-i
invariant-exprs::arms_moved-loop-i l = Each (ArmMoved (slots_by l.pairs) l.d) (drop l.i l.list) (drop l.i l.others) → Each (ArmMoved (slots_by l.pairs) l.d) l.list l.others

abbrev pub invariant-queries::selects_moved-loop-i : goal.invariant-queries::selects_moved-loop-i
invariant-queries::selects_moved-loop-i l = Each (SelectMoved (slots_by l.pairs) l.d) (drop l.i l.list) (drop l.i l.others) → Each (SelectMoved (slots_by l.pairs) l.d) l.list l.others

abbrev pub invariant-queries::items_moved-loop-i : goal.invariant-queries::items_moved-loop-i
invariant-queries::items_moved-loop-i l = Each (ItemMoved (slots_by l.pairs) l.d) (drop l.i l.list) (drop l.i l.others) → Each (ItemMoved (slots_by l.pairs) l.d) l.list l.others

abbrev pub invariant-queries::keys_moved-loop-i : goal.invariant-queries::keys_moved-loop-i
invariant-queries::keys_moved-loop-i l = Each (KeyMoved (slots_by l.pairs) l.d) (drop l.i l.list) (drop l.i l.others) → Each (KeyMoved (slots_by l.pairs) l.d) l.list l.others

abbrev pub invariant-queries::froms_moved-loop-i : goal.invariant-queries::froms_moved-loop-i
invariant-queries::froms_moved-loop-i l = Each (FromMoved (slots_by l.pairs) l.d) (drop l.i l.list) (drop l.i l.others) → Each (FromMoved (slots_by l.pairs) l.d) l.list l.others
