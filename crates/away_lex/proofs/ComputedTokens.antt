-- Worked examples, by computation.
use Rattle.std.proofs.Common.{◌≡◌, ℕ, true, false, List, [], ◌∷◌, Some, None, refl}
use Rattle.std.specs.Prelude.{codes}
use Rattle.away_grammar.specs.declared.tokens.TokenKind.TheVariants.{Word, Integer, Parameter, Dollar, Symbol}
use Rattle.away_grammar.specs.Spellings.{number, quoted, mark_of, may_precede, Spells}
use Rattle.away_grammar.specs.Tokens.{Lexeme, Lexes, ends}
use Rattle.away_grammar.specs.Nesting.{opens, closes, stays, changes, opened, closed}
use Rattle.away_grammar.specs.Reserved.{is_reserved, calls}
use Rattle.away_lex.specs.declared.pieces.Piece.TheVariants.{Skipped, Token}
use Rattle.away_lex.specs.Pieces.{first_piece}
use Rattle.away_lex.proofs.Lexing.{token_at, skips_at}

le_is_a_symbol : Spells Symbol (codes "<=")
le_is_a_symbol = refl

lt_not_before_eq : may_precede Symbol (codes "<") 61 ≡ false
lt_not_before_eq = refl

number_of_digits : number (codes "0065") ≡ 65
unfolding number
number_of_digits = refl

string_of_text : quoted (codes "it's") ≡ codes "'it''s'"
string_of_text = refl

mark_of_x : mark_of (codes "x") ≡ codes "$x$"
mark_of_x = refl

integer_before_dots : first_piece (codes "1..4") ≡ Some (Token Integer 1)
unfolding first_piece number
integer_before_dots = refl

dots_are_one : first_piece (codes "..4") ≡ Some (Token Symbol 2)
unfolding first_piece
dots_are_one = refl

parameter_before_dollar : first_piece (codes "$1$") ≡ Some (Token Parameter 2)
unfolding first_piece number
parameter_before_dollar = refl

parameter_over_its_limit : first_piece (codes "$65") ≡ None
unfolding first_piece number
parameter_over_its_limit = refl

tags_have_a_case : first_piece (codes "$x$ $X$ $x$") ≡ Some (Token Dollar 11)
unfolding first_piece
tags_have_a_case = refl

comments_nest : first_piece (codes "/* /* */ */a") ≡ Some (Skipped 11)
unfolding first_piece
comments_nest = refl

unclosed_comment : first_piece (codes "/* /* */") ≡ None
unfolding first_piece
unclosed_comment = refl

tokens_of_a_text : Lexes 0 (codes "a<=b--c") (record { kind = Word; text = codes "a"; start = 0 } ∷ record { kind = Symbol; text = codes "<="; start = 1 } ∷ record { kind = Word; text = codes "b"; start = 3 } ∷ []) None
unfolding first_piece
tokens_of_a_text = token_at 0 1 (codes "a<=b--c") Word _ None refl (token_at 1 2 (codes "<=b--c") Symbol _ None refl (token_at 3 1 (codes "b--c") Word _ None refl (skips_at 4 3 (codes "--c") [] None refl ends)))

abbrev word : List ℕ → Lexeme
word text = record { kind = Word; text = text; start = 0 }

-- BEGIN IF a THEN END IF END
abbrev block : List Lexeme
block = word (codes "BEGIN") ∷ word (codes "IF") ∷ word (codes "a") ∷ word (codes "THEN") ∷ word (codes "END") ∷ word (codes "if") ∷ word (codes "END") ∷ []

closing_pair : changes block ≡ opens ∷ opens ∷ stays ∷ stays ∷ closes ∷ closes ∷ []
closing_pair = refl

counts_of_it : (opened (changes block) ≡ 2) × (closed (changes block) ≡ 2)
counts_of_it = (refl, refl)

select_is_reserved : is_reserved (codes "Select") ≡ true
unfolding is_reserved
select_is_reserved = refl

count_is_a_name : is_reserved (codes "count") ≡ false
unfolding is_reserved
count_is_a_name = refl

in_does_not_call : (calls (codes "IN") ≡ false) × (calls (codes "CAST") ≡ true) × (calls (codes "max") ≡ true)
unfolding is_reserved calls
in_does_not_call = (refl, refl, refl)
