-- Which token begins where so many terminals are left.
use Rattle.std.proofs.Common.{◌≡◌, ◌≤◌, ◌<◌, ℕ, suc, ◌-◌, List, [], ◌∷◌, ◌++◌, length, map, take, drop, get_or, Option, Some, None, refl, sym, ap, ◌∙◌, subst, arith, length-append, length-drop, IfSome}
use Rattle.std.proofs.lemmas.List.{take-append-drop}
use Rattle.std.proofs.Math.Seq.{drop-cons}
use Rattle.away_lex.specs.Lexed.{seen}
use Rattle.away_lex.specs.declared.slices.Token.{Token}
use Rattle.away_grammar.specs.Terminals.{Terminal, token_terminal, token_terminals}
use Rattle.away_grammar.specs.Tokens.{Lexeme}
use Rattle.function_places.specs.NodePlaces.{NodeAt, body, IsReached, IsStart, IsPlaceIn}

pub map_append : {A B : Type 0} (f : A → B) (xs ys : List A) → map f (xs ++ ys) ≡ map f xs ++ map f ys
map_append f [] ys = refl
map_append f (x ∷ xs) ys = ap (λ l. f x ∷ l) (map_append f xs ys)

pub map_length : {A B : Type 0} (f : A → B) (xs : List A) → length (map f xs) ≡ length xs
map_length f [] = refl
map_length f (x ∷ xs) = ap (λ n. suc n) (map_length f xs)

abbrev tail_of : {A : Type 0} → List A → List A
tail_of [] = []
tail_of (x ∷ xs) = xs

-- ends of one list that are as long are the same
pub same_end : {A : Type 0} (a b x y : List A) → a ++ x ≡ b ++ y → length x ≡ length y → x ≡ y
same_end [] [] x y e h = e
same_end [] (t ∷ b) x y e h =
    let k : length x ≡ suc (length (b ++ y)) = ap length e in
    absurd (omega (arith, h, k, length-append b y))
same_end (t ∷ a) [] x y e h =
    let k : suc (length (a ++ x)) ≡ length y = ap length e in
    absurd (omega (arith, h, k, length-append a x))
same_end (s ∷ a) (t ∷ b) x y e h = same_end a b x y (ap tail_of e) h

-- the place among tokens of what was reached among their terminals
placed : {node left offset : ℕ} (inner : List Lexeme) → IsReached body node (token_terminals inner) left → IsStart inner left offset
    → IsPlaceIn inner node offset
placed {node = node} {left = left} inner r s =
    let front : List Terminal = r.behind.0 in
    let e : token_terminals s.before ++ token_terminals (s.here ∷ s.after) ≡ front ++ r.rest =
    sym (map_append token_terminal s.before (s.here ∷ s.after)) ∙ ap token_terminals (sym s.list_is) ∙ r.behind.1 in
    let mapped : length (token_terminals (s.here ∷ s.after)) ≡ length (s.here ∷ s.after) = map_length token_terminal (s.here ∷ s.after) in
    let size : length (token_terminals (s.here ∷ s.after)) ≡ length r.rest = omega (arith, mapped, s.left_is, r.left_is) in
    let same : token_terminals (s.here ∷ s.after) ≡ r.rest = same_end (token_terminals s.before) front (token_terminals (s.here ∷ s.after)) r.rest e size in
    record {
      before = s.before;
      here = s.here;
      after = s.after;
      list_is = s.list_is;
      begins = subst (NodeAt body node (token_terminals inner)) (sym same) r.begins;
      offset_is = s.offset_is;
    }

pub placed_by : {node left : ℕ} (inner : List Lexeme) (ts : List Terminal) (o : Option ℕ) → ts ≡ token_terminals inner → IsReached body node ts left
    → IfSome o (IsStart inner left)
    → IfSome o (IsPlaceIn inner node)
placed_by {node = node} {left = left} inner ts None e r h = tt
placed_by {node = node} {left = left} inner ts (Some offset) e r h = placed inner (subst (λ ts. IsReached body node ts left) e r) h

-- the token of the number begins where so many are left
pub starts : (tokens : List Token) (left i : ℕ) (d : Token) → ¬ (left ≡ 0) → left ≤ length tokens → i ≡ length tokens - left
    → IsStart (map seen tokens) left (get_or tokens i d).start
starts tokens left i d some within is =
    let small : i < length tokens = omega (arith, some, within, is) in
    let parts : take i tokens ++ (get_or tokens i d ∷ drop (suc i) tokens) ≡ tokens =
    ap (λ l. take i tokens ++ l) (sym (drop-cons tokens i d small)) ∙ take-append-drop i tokens in
    let size : length (map seen (drop (suc i) tokens)) ≡ length tokens - suc i = map_length seen (drop (suc i) tokens) ∙ length-drop (suc i) tokens in
    record {
      before = map seen (take i tokens);
      here = seen (get_or tokens i d);
      after = map seen (drop (suc i) tokens);
      list_is = ap (map seen) (sym parts) ∙ map_append seen (take i tokens) (get_or tokens i d ∷ drop (suc i) tokens);
      left_is = omega (arith, some, within, is, size);
      offset_is = refl;
    }
