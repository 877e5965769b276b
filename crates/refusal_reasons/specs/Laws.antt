-- That each reason is one line, and that each word for which a file is refused has its own text.
use Rattle.std.specs.Prelude.{◌≡◌, ℕ, Bool, List, Some, IsTrue}
use Rattle.away_grammar.specs.OutsideWords.{outside_word}
use Rattle.away_grammar.specs.Reserved.{folded}
use Rattle.away_grammar.specs.Tokens.{Lexeme}
use Rattle.away_lex.specs.declared.refusals.LimitKind.{LimitKind}
use Rattle.away_lex.specs.declared.refusals.ReadRefusal.{ReadRefusal}
use Rattle.away_names.specs.declared.rule.Rule.{Rule}
use Rattle.text_places.specs.Lines.{IsInLine}
use Rattle.refusal_reasons.specs.Instead.{has_entry, instead_of}
use Rattle.refusal_reasons.specs.Reasons.{limit_reason, query_reason, read_reason, rule_reason}

-- no LF stands in a reason, nor in what is written in place of any word
pub record AreLines : Type 0 where
  pub of_rules : (rule : Rule) → IsInLine (rule_reason rule)
  pub of_limits : (which : LimitKind) → IsInLine (limit_reason which)
  pub of_words : (word : List ℕ) → IsInLine (instead_of word)
  pub of_refusals : (refusal : ReadRefusal) (ended : Bool)
      → IsInLine (read_reason refusal ended)
  pub of_queries : (refusal : ReadRefusal) (ended : Bool)
      → IsInLine (query_reason refusal ended)

-- The first word outside the language of a file's two lists of tokens has an entry in the table.
abbrev pub HaveEntries : Type 0
HaveEntries = (outer inner : List Lexeme) (t : Lexeme)
    → outside_word outer inner ≡ Some t → IsTrue (has_entry (folded t.text))
