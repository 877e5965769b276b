-- Which terminals the tokens of a text are.
use Rattle.std.specs.Prelude.{◌≡◌, ◌≤◌, ◌^◌, true, false, List, [], ◌∷◌, encode_utf8_all}
use Rattle.std.specs.Str.{all_scalars}
use Rattle.away_values.specs.Words.{IsWord}
use Rattle.away_grammar.specs.Spellings.{IsNameText, IsDollarQuote}
use Rattle.away_grammar.specs.Reserved.{folded, is_reserved}
use Rattle.away_grammar.specs.Terminals.{Terminal, mark, name, integer, string, parameter, quote}

-- A name is in lower case and isn't reserved; numbers are in their range; a string is a text.
abbrev pub Writable : Terminal → Type 0
Writable (mark terminal) = Unit {0}
Writable (name n) = IsNameText n × (folded n ≡ n) × (is_reserved n ≡ false)
Writable (integer n) = n ≤ 2 ^ 63
Writable (string t) = (all_scalars t ≡ true) × IsWord (encode_utf8_all t)
Writable (parameter i) = (1 ≤ i) × (i ≤ 64)
Writable (quote z) = IsDollarQuote z

abbrev pub AllWritable : List Terminal → Type 0
AllWritable [] = Unit {0}
AllWritable (s ∷ ts) = Writable s × AllWritable ts
