use Rattle.std.proofs.Common.{inr}
use Rattle.broken_names.proofs.laws.each_culprit_stands_at_a_token.Goals as goal

pub returns : goal.returns
returns c = λ bytes from it offset n. let s = n.starts in record {
  outer = n.outer;
  inner = n.inner;
  lexes = n.lexes;
  begins = inr (record { before = s.before; here = s.here; after = s.after; whole = s.whole; offset_is = s.offset_is });
}
