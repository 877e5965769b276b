-- What is live at the entry of two worked forms.
use Rattle.std.proofs.Common.{refl, ◌<◌, [], ◌∷◌, inl, arith}
use Rattle.away_trees.specs.declared.queries.Expr.TheBlock as e
use Rattle.away_trees.specs.declared.statements.Stmt.TheBlock as b
use Rattle.function_facts.specs.InSight.{AllInSight}
use Rattle.block_forms.specs.Worked.{sign_of, sign_of_form, bigint}
use Rattle.block_forms.proofs.WorkedForms.{forms_stand}
use Rattle.block_forms.specs.Live.{OnlyParametersLive}
use Rattle.goto_law.specs.Worked.{unset_form, WorkedEntries}
use Rattle.goto_law.proofs.Entry.{only_parameters_are_live}

sign_of_sees : AllInSight sign_of
unfolding b.hidden-the_row-Stmt-0 b.hidden-the_row-Arm-1 e.hidden-the_row-Expr-0 e.hidden-the_row-Expr-Chain-1-2-1 denote.Hole.Carrier.hidden
sign_of_sees = ((refl, tt), (tt, (tt, tt)))

unset : OnlyParametersLive 1 unset_form → ⊥
unset h = let lt : 1 < 1 = h.each 2 1 (inl refl) in absurd (omega (arith, lt))

pub entries_are : WorkedEntries
entries_are = record {
  parameter = inl (inl refl);
  alone = only_parameters_are_live sign_of (bigint ∷ []) sign_of_sees sign_of_form forms_stand.sign_of_is;
  unset = unset;
}
