-- How a run of `expand` ends on what its files read as.
use Rattle.std.proofs.Common.{refl, inl, inr, ℕ, List}
use Rattle.away_trees.specs.declared.schemas.Schema.{Schema}
use Rattle.away_trees.specs.declared.statements.Function.{Function}
use Rattle.program_check.specs.declared.refusals.ProgramRefusal.{ProgramRefusal}
use Rattle.program_check.specs.declared.refusals.ProgramRefusal.TheVariants as refusal
use Rattle.program_check.specs.Refusing.{IsProgram, RefusesProgram}
use Rattle.away_top.specs.declared.host.Files.{Ghosts as Files}
use Rattle.away_top.specs.ExpandCourse.{BreaksProgram, EndsOnProgram, EndsWith, ToldAs, with_functions}
use Rattle.away_top.specs.Runs.{End, wants_memory, ended, goes_on, Follows, IsEnd}

module _ (main : List ℕ) (others : List (List ℕ)) (text : List ℕ) (s : Schema) (fs : List Function) where
  pub written_so : (end : End ⊥) → IsProgram fs s → IsEnd (EndsWith main s fs text) end → IsEnd (EndsOnProgram main others text s fs) end
  written_so wants_memory p h = tt
  written_so (ended status output) p h = inr (p, h)
  written_so (goes_on never) p h = absurd never

  pub refused_so : (e : ProgramRefusal) (end : End ⊥) → RefusesProgram fs s e → IsEnd (ToldAs main others e) end → IsEnd (EndsOnProgram main others text s fs) end
  refused_so e wants_memory refuses h = tt
  refused_so e (ended status output) refuses (file, (rule, is, told)) = inl (file, (rule, (e, refuses, is), told))
  refused_so e (goes_on never) refuses h = absurd never

  -- the run goes along its course
  pub judged_so : {D : Type 0} (F : Files D) (now : D) (end : End ⊥) → IsEnd (EndsOnProgram main others text s fs) end → Follows F now (with_functions main others text s fs) now end
  judged_so F now wants_memory h = inl (record { same = refl; how = tt })
  judged_so F now (ended status output) (inl refused) = inl (record { same = refl; how = refused })
  judged_so F now (ended status output) (inr (p, so)) = inr (p, record { same = refl; how = so })
  judged_so F now (goes_on never) h = absurd never

-- a program is refused by no rule
pub program_unrefused : (s : Schema) (fs : List Function) → IsProgram fs s → (file : ℕ) (rule : List ℕ) → BreaksProgram s fs file rule → ⊥
program_unrefused s fs p file rule (refusal.Names k, first, is) = p.callers.names k first.inside first.holds
program_unrefused s fs p file rule (refusal.Place k, h, is) = p.callers.places k h.first.inside h.first.holds
program_unrefused s fs p file rule (refusal.Recursion k, h, is) = p.callers.recursion k h.first.inside h.first.holds
program_unrefused s fs p file rule (refusal.Rule k broken, h, is) = p.unbroken k h.1.first.inside h.1.first.holds
program_unrefused s fs p file rule (refusal.NoMemory, h, is) = is
