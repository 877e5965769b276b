-- A file reads as one function.
use Rattle.std.proofs.Common.{◌≡◌, ℕ, ◌+◌, true, false, List, [], ◌∷◌, ◌++◌, inl, inr, length, drop, Option, Some, None, refl, sym, ap, ◌∙◌, subst, append_assoc}
use Rattle.std.proofs.lemmas.List.{append_cancel_left, append_cancel_right}
use Rattle.std.specs.List.{list_all}
use Rattle.away_trees.specs.declared.statements.Function.{Function}
use Rattle.away_grammar.specs.Spellings.{goes_on, IsTag, mark_of}
use Rattle.away_grammar.specs.Tokens.{Lexeme}
use Rattle.away_grammar.specs.Terminals.{token_terminals}
use Rattle.away_grammar.specs.FunctionFile.{IsInside, LexesPart, LexesBody, LexesFile, first_dollar, up_to_dollar}
use Rattle.away_grammar.specs.FunctionGrammar.{ReadsPart, ReadsFunction, body, function}
use Rattle.away_lex.proofs.Runs.{and_left, and_right}
use Rattle.away_lex.proofs.Reading.{one_list}
use Rattle.plsql_parse.specs.Plans.{FileGives}
use Rattle.plsql_parse.proofs.Sound.{sound}
use Rattle.plsql_parse.proofs.Complete.{complete}
use Rattle.plsql_parse.proofs.OneTree.{one_tree}

-- ---- the two marks of a dollar quote, and what stands between them

tag_goes_on : (tag : List ℕ) → IsTag tag → list_all goes_on tag ≡ true
tag_goes_on tag (inl e) = rw e refl
tag_goes_on tag (inr w) = w.plain

-- no byte of a tag is a dollar
no_dollar : (b : ℕ) (t : List ℕ) → list_all goes_on (b ∷ t) ≡ true → ¬ (b ≡ 36)
no_dollar b t h e = let k : goes_on b ≡ false = ap goes_on e in cc (and_left (goes_on b) (list_all goes_on t) h, k)

same_tag : (t u r s : List ℕ) → list_all goes_on t ≡ true → list_all goes_on u ≡ true → t ++ 36 ∷ r ≡ u ++ 36 ∷ s → t ≡ u
same_tag [] [] r s h i e = refl
same_tag [] (c ∷ u) r s h i e = absurd (no_dollar c u i (cc e))
same_tag (b ∷ t) [] r s h i e = absurd (no_dollar b t h (cc e))
same_tag (b ∷ t) (c ∷ u) r s h i e =
    let first : b ≡ c = cc e in
    let rest : t ++ 36 ∷ r ≡ u ++ 36 ∷ s = cc e in
    let tags = same_tag t u r s (and_right (goes_on b) (list_all goes_on t) h) (and_right (goes_on c) (list_all goes_on u) i) rest in
    cc (first, tags)

behind_dollar : {z inside mark : List ℕ} (q : IsInside z inside mark) → drop 1 z ≡ q.tag ++ 36 ∷ (inside ++ mark)
behind_dollar {inside = inside} {mark = mark} q = ap (drop 1) (q.spelled ∙ ap (λ m. m ++ (inside ++ mark)) q.is_mark) ∙ append_assoc q.tag (36 ∷ []) (inside ++ mark)

same_mark : {z a b m n : List ℕ} → IsInside z a m → IsInside z b n → m ≡ n
same_mark q r =
    let tags : q.tag ≡ r.tag = same_tag q.tag r.tag _ _ (tag_goes_on q.tag q.is_tag) (tag_goes_on r.tag r.is_tag) (sym (behind_dollar q) ∙ behind_dollar r) in
    q.is_mark ∙ ap mark_of tags ∙ sym r.is_mark

same_inside : {z a b m : List ℕ} → IsInside z a m → IsInside z b m → a ≡ b
same_inside {a = a} {b = b} {m = m} q r = append_cancel_right a b m (append_cancel_left m (a ++ m) (b ++ m) (sym q.spelled ∙ r.spelled))

-- ---- the tokens of a file

same_part : {at : ℕ} {z : List ℕ} {ts us : List Lexeme} {bad other : Option ℕ} → LexesPart at z ts bad → LexesPart at z us other → ts ≡ us
same_part p q = let same = one_list p.lexes q.lexes in p.tokens ∙ ap up_to_dollar same.0 ∙ sym q.tokens

same_body : {ts us : List Lexeme} (bad other : Option ℕ) (quote : Option Lexeme) → LexesBody quote ts bad → LexesBody quote us other → ts ≡ us
same_body bad other None p q = p.0 ∙ sym q.0
same_body {us = us} bad other (Some quote) p q =
    let marks : q.mark ≡ p.mark = same_mark q.is_inside p.is_inside in
    let moved : IsInside quote.text q.inside p.mark = subst (λ m. IsInside quote.text q.inside m) marks q.is_inside in
    let insides : q.inside ≡ p.inside = same_inside moved p.is_inside in
    let placed : LexesPart (quote.start + length p.mark) q.inside us other = subst (λ m. LexesPart (quote.start + length m) q.inside us other) marks q.part in
    same_part p.part (subst (λ inside. LexesPart (quote.start + length p.mark) inside us other) insides placed)

same_outer : {z : List ℕ} {ts us inner other : List Lexeme} → LexesFile z ts inner None → LexesFile z us other None → ts ≡ us
same_outer f g = let same = one_list f.outer_list g.outer_list in same.0

same_inner : {z : List ℕ} {ts us inner other : List Lexeme} → LexesFile z ts inner None → LexesFile z us other None → inner ≡ other
same_inner {ts = ts} {us = us} {other = other} f g =
    let same : us ≡ ts = sym (same_outer f g) in
    same_body f.body_bad g.body_bad (first_dollar ts) f.body_list (subst (λ us. LexesBody (first_dollar us) other g.body_bad) same g.body_list)

-- ---- a file

pub one_function : {z : List ℕ} {f g : Function} → ReadsFunction z f → ReadsFunction z g → f ≡ g
one_function {g = g} p q =
    let outer : q.outer ≡ p.outer = same_outer q.lexes p.lexes in
    let inner : q.inner ≡ p.inner = same_inner q.lexes p.lexes in
    let inside_read : ReadsPart body (token_terminals p.inner) q.inside [] = subst (λ ts. ReadsPart body (token_terminals ts) q.inside []) inner q.reads_body in
    let bodies = one_tree inside_read refl p.reads_body refl in
    let inside : q.inside ≡ p.inside = bodies.0 in
    let placed : ReadsPart (function p.inside) (token_terminals q.outer) g [] = subst (λ inside. ReadsPart (function inside) (token_terminals q.outer) g []) inside q.reads_function in
    let moved : ReadsPart (function p.inside) (token_terminals p.outer) g [] = subst (λ ts. ReadsPart (function p.inside) (token_terminals ts) g []) outer placed in
    let functions = one_tree p.reads_function refl moved refl in
    functions.0

-- ---- what the plans give of a file's two lists

pub file_given : {z : List ℕ} {outer inner : List Lexeme} {f : Function} → LexesFile z outer inner None → ReadsFunction z f → FileGives outer inner f
file_given {outer = outer} {inner = inner} {f = f} l p =
    let outer_same : p.outer ≡ outer = same_outer p.lexes l in
    let inner_same : p.inner ≡ inner = same_inner p.lexes l in
    let inside_read : ReadsPart body (token_terminals inner) p.inside [] = subst (λ ts. ReadsPart body (token_terminals ts) p.inside []) inner_same p.reads_body in
    let all_read : ReadsPart (function p.inside) (token_terminals outer) f [] = subst (λ ts. ReadsPart (function p.inside) (token_terminals ts) f []) outer_same p.reads_function in
    (p.inside, complete inside_read refl, complete all_read refl)

pub file_read : {z : List ℕ} {outer inner : List Lexeme} {f : Function} → LexesFile z outer inner None → FileGives outer inner f → ReadsFunction z f
file_read {outer = outer} {inner = inner} l p = record { outer = outer; inner = inner; inside = p.0; lexes = l; reads_body = sound p.1; reads_function = sound p.2 }
