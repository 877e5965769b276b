use Rattle.std.proofs.Common.{◌≡◌, ◌+◌, ◌++◌, drop, length, map, refl, suc, subst, arith}
use Rattle.std.proofs.lemmas.Option.{slice_get_read}
use Rattle.call_expand.specs.Parts.{part_of, parts_of}
use Rattle.call_answers.specs.Walking.{program}
use Rattle.call_answers.proofs.PartRules.{program_step}
use Rattle.call_answers.proofs.parts.standing_parts.Goals as goal

pub loop-f-preserved : goal.loop-f-preserved
loop-f-preserved c = let one : suc c.loop-f.f-index ≡ c.loop-f.f-index + 1 = omega arith in
    subst (λ k. program c.push.new.self ++ map (part_of c.args.s.now c.args.fs.now) (drop k c.args.fs.now) ≡ parts_of c.args.s.now c.args.fs.now) one
    (program_step c.args.s.now c.args.fs.now c.loop-f.all c.push.new.self c.in_ok-standing_part.field-0 c.f-item.result c.loop-f.f-index _ c.in_ok-push.ensures.ok
    (slice_get_read c.args.fs.now (length c.args.fs.now) c.loop-f.f-index c.f-item.result refl c.loop-f-test.true c.f-item.is) c.in_ok-standing_part.ensures c.loop-f.invariant)
