use Rattle.std.proofs.Common.{map, rules, string_bytes, ◌∙◌}
use Rattle.away_top.proofs.FileNames.{file_behind, file_main, no_file_behind}
use Rattle.away_top.proofs.expand.file_at.Goals as goal

-- Guesses: the names of goals and of the test, and that `search rules` finds `suc (k - 1) ≡ k` and the name's bytes.
pub returns-then-k-eq0 : goal.returns-then-k-eq0
returns-then-k-eq0 c = file_main c.args.main.now (map string_bytes c.args.others.now) c.args.k c.if-k-eq0.true

pub returns-in-None : goal.returns-in-None
returns-in-None c = no_file_behind string_bytes c.args.main.now c.args.others.now c.args.k _ (search rules) c.in-None.ensures.lookup.3

pub returns-in-Some : goal.returns-in-Some
returns-in-Some c = c.as_str.ensures.value ∙ file_behind string_bytes c.args.main.now c.args.others.now c.args.k _ c.in-Some.name.now (search rules) c.in-Some.ensures.lookup.3.0 (c.in-Some.ensures.lookup.3.1 c.in-Some.name.now)
