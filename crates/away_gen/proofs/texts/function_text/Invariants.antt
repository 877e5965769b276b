use Rattle.std.proofs.Common.{◌≡◌, ◌++◌, drop, string_bytes}
use Rattle.std.specs.List.{flat_map}
use Rattle.away_gen.specs.Texts.{head, line, statement_text}
use Rattle.away_gen.proofs.texts.function_text.Given as goal

abbrev pub invariant-loop-statement : goal.invariant-loop-statement
invariant-loop-statement l =
    string_bytes l.text ++ flat_map (λ s. line (statement_text s)) (drop l.statement-index l.statements)
    ≡ line head ++ flat_map (λ s. line (statement_text s)) l.fn.statements
