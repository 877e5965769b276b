-- The mark of a body's text.
use Rattle.std.proofs.Common.{◌<◌, ◌^◌, ◌∷◌, length, subst}
use Rattle.away_trees.specs.declared.statements.Stmt.{Stmt}
use Rattle.away_grammar.specs.Spellings.{IsFirstBehind}
use Rattle.function_printer.specs.FunctionTerminals.{statement_terminals}
use Rattle.function_printer.specs.FunctionTexts.{body_text, spaced_text}
use Rattle.function_printer.specs.Tags.{tag_of}
use Rattle.function_printer.proofs.FileReads.{FreeMark}
use Rattle.function_printer.proofs.TagsFree.{first_behind, free_number, is_tag, mark_is, number_fits}

pub free_mark_of : (x : Stmt) → length (body_text x) < 2 ^ 64 → FreeMark (body_text x)
free_mark_of x h =
    let text = body_text x in
    record {
      tag = tag_of (free_number (body_text x));
      is = mark_is (body_text x);
      is_tag = is_tag (free_number (body_text x)) (number_fits (body_text x) h);
      next = subst (λ mark. IsFirstBehind mark (body_text x)) (mark_is (body_text x)) (first_behind (32 ∷ spaced_text (statement_terminals x)) h);
    }
