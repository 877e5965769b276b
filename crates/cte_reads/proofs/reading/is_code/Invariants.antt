use Rattle.std.proofs.Common.{◌≡◌, ◌++◌, ◌≤◌, length, drop}
use Rattle.std.specs.Str.{chars, IsUtf8}
use Rattle.cte_reads.proofs.reading.is_code.Given as goal

abbrev pub invariant-loop-c : goal.invariant-loop-c
invariant-loop-c l = record {
  text : l.text ≡ l.yielded ++ chars l.c-iterator.rest.now;
  code : l.class.code ≡ l.yielded ++ drop l.count l.class.code;
  count : l.count ≡ length l.yielded;
  most : l.count ≤ 5;
  utf8 : IsUtf8 l.c-iterator.rest.now;
}
