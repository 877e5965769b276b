-- Worked examples, by computation.
use Rattle.std.proofs.Common.{◌≡◌, ℕ, List, [], Some, None, refl}
use Rattle.away_trees.specs.declared.statements.Stmt.{Stmt}
use Rattle.away_grammar.specs.Terminals.{Terminal, word_mark, symbol_mark}
use Rattle.away_grammar.specs.Spellings.{number}
use Rattle.away_grammar.specs.Grammar.{type_named}
use Rattle.away_grammar.specs.FunctionGrammar.{Part, PartTree, ReadsPart, body, function}
use Rattle.away_trees.specs.WorkedFunctions.{collatz, walk}
use Rattle.plsql_parse.specs.Sorts.{part}
use Rattle.plsql_parse.specs.Plans.{any_plan, part_plan}
use Rattle.plsql_parse.specs.Stops.{StopsPart}
use Rattle.away_grammar.specs.OutsideWords.{is_outside}
use Rattle.plsql_parse.specs.WorkedTokens.{OutsideWordsFound}
use Rattle.plsql_parse.specs.WorkedTerminals.{collatz_outer, collatz_body, walk_outer, walk_body, many_terminals, many_statements, into_terminals, into_statements, unlisted_terminals, unpaired_terminals}
use Rattle.plsql_parse.proofs.Sound.{sound}
use Rattle.plsql_parse.proofs.OneTree.{nothing_read}
use Rattle.plsql_parse.proofs.Trying.{tried, tried_runs}

tried_reads : {p : Part} {ts : List Terminal} {x : PartTree p} {rest : List Terminal} (k : ℕ) → tried any_plan k (part p) (part_plan p) ts ≡ Some (Some (x, rest)) → ReadsPart p ts x rest
tried_reads {p = p} {ts = ts} {x = x} {rest = rest} k e = sound (tried_runs k (part p) (part_plan p) ts (Some (x, rest)) e)

tried_fails : {p : Part} {ts : List Terminal} {x : PartTree p} {rest : List Terminal} (k : ℕ) → tried any_plan k (part p) (part_plan p) ts ≡ Some None → ReadsPart p ts x rest → StopsPart p rest → ⊥
tried_fails {p = p} {ts = ts} k e d stops = nothing_read (tried_runs k (part p) (part_plan p) ts None e) d stops

pub collatz_body_read : ReadsPart body collatz_body collatz.body []
unfolding word_mark symbol_mark number type_named
collatz_body_read = tried_reads 200 refl

pub collatz_read : ReadsPart (function collatz.body) collatz_outer collatz []
unfolding word_mark symbol_mark number type_named
collatz_read = tried_reads 200 refl

pub walk_body_read : ReadsPart body walk_body walk.body []
unfolding word_mark symbol_mark number type_named
walk_body_read = tried_reads 200 refl

pub walk_read : ReadsPart (function walk.body) walk_outer walk []
unfolding word_mark symbol_mark number type_named
walk_read = tried_reads 200 refl

pub many_read : ReadsPart body many_terminals many_statements []
unfolding word_mark symbol_mark number type_named
many_read = tried_reads 200 refl

pub into_read : ReadsPart body into_terminals into_statements []
unfolding word_mark symbol_mark number type_named
into_read = tried_reads 200 refl

pub unlisted_unread : (x : Stmt) → ¬ (ReadsPart body unlisted_terminals x [])
unfolding word_mark symbol_mark number type_named
unlisted_unread x d = tried_fails 200 refl d refl

pub unpaired_unread : (x : Stmt) → ¬ (ReadsPart body unpaired_terminals x [])
unfolding word_mark symbol_mark number type_named
unpaired_unread x d = tried_fails 200 refl d refl

pub outside_words_found : OutsideWordsFound
unfolding is_outside
outside_words_found = (refl, refl, refl)
