-- Why a file is refused, in words: one line each.
use Rattle.std.specs.Prelude.{ℕ, Bool, true, false, List, codes}
use Rattle.away_lex.specs.declared.refusals.LimitKind.{LimitKind}
use Rattle.away_lex.specs.declared.refusals.LimitKind.TheVariants as limit
use Rattle.away_lex.specs.declared.refusals.ReadRefusal.{ReadRefusal}
use Rattle.away_lex.specs.declared.refusals.ReadRefusal.TheVariants.{
  NotText,
  Token,
  NoTree,
  Outside,
  Limit,
  NoMemory,
}
use Rattle.away_names.specs.declared.rule.Rule.{Rule}
use Rattle.away_names.specs.declared.rule.Rule.TheVariants as rule
use Rattle.refusal_reasons.specs.Instead.{instead_of}

-- of a rule of names, scopes or types, of the statement at the place
abbrev pub rule_reason : Rule → List ℕ
rule_reason rule.Duplicates = codes "two names of one list here are the same"
rule_reason rule.Names = codes "a name here stands for nothing"
rule_reason rule.Ambiguity = codes "a name here stands for two things"
rule_reason rule.Tables = codes "a table here isn't one of the schema"
rule_reason rule.Labels = codes "no block or loop around this statement fits it"
rule_reason rule.Constants = codes "a CONSTANT is set here"
rule_reason rule.Defaults = codes "a variable that is NOT NULL has no default here"
rule_reason rule.Types = codes "the types, or the numbers of columns, don't fit here"
rule_reason rule.Reserved = codes "a name here begins with away_, which the query's own names do"
rule_reason rule.Aggregates = codes "an aggregate stands where none may, or a column beside it"
rule_reason rule.Raises =
    codes "the SQLSTATE isn't five digits or capitals or is 00000, or the message has a %"
rule_reason rule.Recursion = codes "the terms of the recursive table don't fit"
rule_reason rule.Answer = codes "the query hasn't two columns, the second a text"

-- of a limit
abbrev pub limit_reason : LimitKind → List ℕ
limit_reason limit.Nesting = codes "with this token the body nests deeper than 64"
limit_reason limit.Nodes = codes "with this there are more than 500 nodes"
limit_reason limit.Variables = codes "with this there are more than 64 parameters and declarations"
limit_reason limit.Loops = codes "with this there are more than 64 FOR loops"

-- of a function's file that isn't read, where its text ends at the place or doesn't
abbrev pub read_reason : ReadRefusal → Bool → List ℕ
read_reason NotText ended = codes "here the file ceases to be UTF-8 without U+0000"
read_reason (Token _) ended =
    codes "no token begins here, or the one that does isn't closed or is too long"
read_reason NoTree true = codes "no function ends so"
read_reason NoTree false = codes "no function goes on so"
read_reason (Outside word) ended = instead_of word
read_reason (Limit which _) ended = limit_reason which
read_reason NoMemory ended = codes "no memory was left"

-- of a query's file that isn't read, where its text ends at the place or doesn't
abbrev pub query_reason : ReadRefusal → Bool → List ℕ
query_reason NotText ended = read_reason NotText ended
query_reason (Token offset) ended = read_reason (Token offset) ended
query_reason NoTree true = codes "no query ends so"
query_reason NoTree false = codes "no query goes on so"
query_reason (Outside word) ended = instead_of word
query_reason (Limit which found) ended = codes "with this token the query nests deeper than 256"
query_reason NoMemory ended = read_reason NoMemory ended
