-- A piece of the definition is what the code finds at the front of a text.
use Rattle.std.proofs.Common.{◌≡◌, ℕ, ◌+◌, ◌≤◌, true, List, [], ◌∷◌, ◌++◌, length, Some, None, refl, ap, ◌∙◌, arith}
use Rattle.std.specs.List.{list_all}
use Rattle.away_grammar.specs.declared.tokens.TokenKind.{TokenKind}
use Rattle.away_grammar.specs.Spellings.{Spells}
use Rattle.away_grammar.specs.Tokens.{is_line, EndsLine, Skips, blank, line, block, Stands}
use Rattle.away_lex.specs.declared.pieces.Piece.TheVariants.{Skipped, Token}
use Rattle.away_lex.specs.declared.pieces.Class.TheVariants as class
use Rattle.away_lex.specs.Pieces.{first_piece, run, mark, comment_of}
use Rattle.away_lex.proofs.Apart.{IsAlone, apart}
use Rattle.away_lex.proofs.Alone.{spelled_alone}
use Rattle.away_lex.proofs.Comments.{comment_found}
use Rattle.away_lex.proofs.Runs.{and_left, and_right}

pub token_found : (k : TokenKind) (z r : List ℕ) → Stands k z r → first_piece (z ++ r) ≡ Some (Token k (length z))
token_found k z r s = apart z r k (spelled_alone k z s.spelled) s.apart

line_run : (z r : List ℕ) → list_all is_line z ≡ true → EndsLine r → run class.Line (z ++ r) ≡ length z
line_run [] [] h e = refl
line_run [] (b ∷ r) h e = rw e refl
line_run (b ∷ z) r h e = let f : run class.Line (z ++ r) ≡ length z = line_run z r (and_right (is_line b) (list_all is_line z) h) e in rw (and_left (is_line b) (list_all is_line z) h) (omega arith)

pub skip_found : {z r : List ℕ} → Skips z r → first_piece (z ++ r) ≡ Some (Skipped (length z))
unfolding first_piece
skip_found (blank h) = rw h refl
skip_found (line {z = z} {rest = r} h e) = ap (λ n. Some (Skipped n)) (let f = line_run z r h e in let g : 2 + run class.Line (z ++ r) ≡ length (45 ∷ 45 ∷ z) = omega arith in g)
skip_found (block {z = z} {rest = r} c) = ap comment_of (comment_found z r c) ∙ ap (λ n. Some (Skipped n)) (let g : 2 + length z ≡ length (47 ∷ 42 ∷ z) = omega arith in g)

pub none_of : first_piece [] ≡ None
unfolding first_piece
none_of = refl

alone_some : (k : TokenKind) (z : List ℕ) → IsAlone k z → 1 ≤ length z
unfolding first_piece
alone_some k [] h = absurd (let e : mark [] ≡ Some (Token k 0) = h in cc)
alone_some k (b ∷ z) h = omega arith

pub spelled_some : (k : TokenKind) (z : List ℕ) → Spells k z → 1 ≤ length z
spelled_some k z s = alone_some k z (spelled_alone k z s)

pub skip_some : {z r : List ℕ} → Skips z r → 1 ≤ length z
skip_some (blank h) = omega arith
skip_some (line h e) = omega arith
skip_some (block c) = omega arith
