use Rattle.away_gen.proofs.CaseOfSeven as worked
use Rattle.away_gen.proofs.laws.the_case_of_seven.Goals as goal

pub returns : goal.returns
returns c = record { draws = worked.draws; parts = worked.parts; texts = worked.texts }
