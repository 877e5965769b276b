use Rattle.std.proofs.Common.{◌≡◌, ◌==◌, lit<, true, false, rules, refl}
use Rattle.std.proofs.lemmas.Iterator.Consumers.{map_from_collect}
use Rattle.std.proofs.lemmas.Iterator.Splits.{YieldsList-from_str_split}
use Rattle.std.specs.List.{list_any}
use Rattle.worked_runs.specs.Lines.{separator}
use Rattle.worked_runs.proofs.words.parts_of.Goals as goal

pub returns-then-contains : goal.returns-then-contains
returns-then-contains c =
    let has_one : list_any (λ byte. byte == 9) c.args.line.now ≡ true = search rules in
    let tab : separator c.args.line.now ≡ 9 = rw has_one refl in
    rw tab
    (map_from_collect _ c.collect.ensures.ran
    (YieldsList-from_str_split 9 c.args.line.now (lit< tt) c.split.ensures.text c.split.ensures.has_more c.split.ensures.pattern))

pub returns : goal.returns
returns c =
    let has_none : list_any (λ byte. byte == 9) c.args.line.now ≡ false = search rules in
    let blank : separator c.args.line.now ≡ 32 = rw has_none refl in
    rw blank
    (map_from_collect _ c.collect-2.ensures.ran
    (YieldsList-from_str_split 32 c.args.line.now (lit< tt) c.split-2.ensures.text c.split-2.ensures.has_more c.split-2.ensures.pattern))
