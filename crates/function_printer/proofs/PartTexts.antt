-- The text of a select is that of its list, a space and that of what follows the list.
use Rattle.std.proofs.Common.{◌≡◌, ℕ, refl, sym, ap, ◌∙◌, Bool, true, false, not, ◌&&◌, ◌||◌, if◌then◌else◌, List, [], ◌∷◌, ◌++◌, map, Option, Some, None, append_assoc, append-nil}
use Rattle.away_grammar.specs.declared.grammar.Mark.{Mark}
use Rattle.away_grammar.specs.declared.grammar.Mark.TheVariants as m
use Rattle.away_trees.specs.declared.queries.Query.{Query}
use Rattle.away_trees.specs.declared.queries.Select.{Select}
use Rattle.away_trees.specs.declared.queries.Expr.TheViews.{out-Select, out-roll-Query, roll-Query}
use Rattle.away_trees.specs.Algebra.{from_of, key_of}
use Rattle.away_grammar.specs.Reserved.{calls}
use Rattle.away_grammar.specs.Terminals.{Terminal, mark, name, integer, string, parameter, quote}
use Rattle.away_grammar.specs.Tokens.{is_word_kind}
use Rattle.away_grammar.specs.Spacing.{is_glued, is_one, laid_behind}
use Rattle.away_grammar.specs.Printing.{Printed, from_terminals, limit_terminals, mark_spelled, order_terminals, printing, query_terminals, query_text, spelled, terminals_text, where_terminals}
use Rattle.sql_printer.proofs.PrintNodes.{query_alone, select_terminals}
use Rattle.function_printer.specs.FunctionTerminals.{clauses_of, list_of}
use Rattle.function_printer.specs.FunctionTexts.{clauses_text, list_text, spaced_text, with_space, written_alone}
use Rattle.function_printer.proofs.InsideTexts.{text_is}
use Rattle.function_printer.proofs.LooseEnds.{last_of, list_loose, opens}

-- ---- what a clause begins with

abbrev mark_of_clause : Mark → Bool
mark_of_clause m.From = true
mark_of_clause m.Where = true
mark_of_clause m.Order = true
mark_of_clause m.Limit = true
mark_of_clause _ = false

abbrev of_clause : Terminal → Bool
of_clause (mark terminal) = mark_of_clause terminal
of_clause _ = false

-- nothing, or what begins with FROM, WHERE, ORDER or LIMIT
abbrev StartsClause : List Terminal → Type 0
StartsClause [] = Unit {0}
StartsClause (s ∷ ss) = of_clause s ≡ true

starts_more : (a c : List Terminal) → StartsClause a → StartsClause c → StartsClause (a ++ c)
starts_more [] c h k = k
starts_more (s ∷ ss) c h k = h

starts_from : (xs : List (List Terminal)) → StartsClause (from_terminals xs)
starts_from [] = tt
starts_from (x ∷ xs) = refl

starts_where : (o : Option Printed) → StartsClause (where_terminals o)
starts_where None = tt
starts_where (Some p) = refl

starts_order : (xs : List (List Terminal)) → StartsClause (order_terminals xs)
starts_order [] = tt
starts_order (x ∷ xs) = refl

starts_limit : (o : Option Printed) → StartsClause (limit_terminals o)
starts_limit None = tt
starts_limit (Some p) = refl

starts_clauses : (xs : List (List Terminal)) (o : Option Printed) (ks : List (List Terminal)) (n : Option Printed)
    → StartsClause (from_terminals xs ++ (where_terminals o ++ (order_terminals ks ++ limit_terminals n)))
starts_clauses xs o ks n =
    starts_more (from_terminals xs) (where_terminals o ++ (order_terminals ks ++ limit_terminals n)) (starts_from xs)
    (starts_more (where_terminals o) (order_terminals ks ++ limit_terminals n) (starts_where o)
    (starts_more (order_terminals ks) (limit_terminals n) (starts_order ks) (starts_limit n)))

clauses_start : (q : Select) → StartsClause (clauses_of q)
clauses_start q = starts_clauses (map (λ f. from_of printing f) (out-Select q).from) _ (map (λ key. key_of printing key) (out-Select q).order) _

-- ---- a space stands before it

mark_opens : (terminal : Mark) → opens (mark terminal) ≡ false → (is_one 40 (mark_spelled terminal) ≡ false) × (is_one 46 (mark_spelled terminal) ≡ false)
mark_opens m.Open h = absurd (cc h)
mark_opens m.Dot h = absurd (cc h)
mark_opens _ h = (refl, refl)

no_open : (t : Terminal) → opens t ≡ false → (is_one 40 (spelled t) ≡ false) × (is_one 46 (spelled t) ≡ false)
no_open (mark terminal) h = mark_opens terminal h
no_open (name n) h = (refl, refl)
no_open (integer n) h = (refl, refl)
no_open (string z) h = (refl, refl)
no_open (parameter i) h = (refl, refl)
no_open (quote z) h = (refl, refl)

apart_by : (a b w k : Bool) → a ≡ false → b ≡ false → (a || (b || (false || (false || (false || (w && (k && false))))))) ≡ false
apart_by true b w k h g = absurd (cc h)
apart_by false true w k h g = absurd (cc g)
apart_by false false true true h g = refl
apart_by false false true false h g = refl
apart_by false false false k h g = refl

apart_mark : (t : Terminal) (terminal : Mark) → opens t ≡ false → mark_of_clause terminal ≡ true → is_glued calls (spelled t) (mark_spelled terminal) ≡ false
apart_mark t m.From h k =
    apart_by (is_one 40 (spelled t)) (is_one 46 (spelled t)) (is_word_kind (spelled t).kind) (calls (spelled t).text) (no_open t h).0 (no_open t h).1
apart_mark t m.Where h k =
    apart_by (is_one 40 (spelled t)) (is_one 46 (spelled t)) (is_word_kind (spelled t).kind) (calls (spelled t).text) (no_open t h).0 (no_open t h).1
apart_mark t m.Order h k =
    apart_by (is_one 40 (spelled t)) (is_one 46 (spelled t)) (is_word_kind (spelled t).kind) (calls (spelled t).text) (no_open t h).0 (no_open t h).1
apart_mark t m.Limit h k =
    apart_by (is_one 40 (spelled t)) (is_one 46 (spelled t)) (is_word_kind (spelled t).kind) (calls (spelled t).text) (no_open t h).0 (no_open t h).1
apart_mark t _ h k = absurd (cc k)

apart : (t s : Terminal) → opens t ≡ false → of_clause s ≡ true → is_glued calls (spelled t) (spelled s) ≡ false
apart t (mark terminal) h k = apart_mark t terminal h k
apart t (name n) h k = absurd (cc k)
apart t (integer n) h k = absurd (cc k)
apart t (string z) h k = absurd (cc k)
apart t (parameter i) h k = absurd (cc k)
apart t (quote z) h k = absurd (cc k)

-- the text of it behind a space, where there is any
abbrev led_text : List Terminal → List ℕ
led_text [] = []
led_text (s ∷ ss) = 32 ∷ spaced_text (s ∷ ss)

at_mark : (terminal : Mark) → mark_of_clause terminal ≡ true → (first z : List ℕ)
    → first ++ 32 ∷ ((mark_spelled terminal).text ++ z) ≡ with_space first ((mark_spelled terminal).text ++ z)
at_mark m.From h first z = refl
at_mark m.Where h first z = refl
at_mark m.Order h first z = refl
at_mark m.Limit h first z = refl
at_mark _ h first z = absurd (cc h)

at_clause : (s : Terminal) → of_clause s ≡ true → (first z : List ℕ) → first ++ 32 ∷ ((spelled s).text ++ z) ≡ with_space first ((spelled s).text ++ z)
at_clause (mark terminal) h first z = at_mark terminal h first z
at_clause (name n) h first z = absurd (cc h)
at_clause (integer n) h first z = absurd (cc h)
at_clause (string t) h first z = absurd (cc h)
at_clause (parameter i) h first z = absurd (cc h)
at_clause (quote t) h first z = absurd (cc h)

led_is : (first : List ℕ) (ts : List Terminal) → StartsClause ts → first ++ led_text ts ≡ with_space first (spaced_text ts)
led_is first [] h = append-nil first
led_is first (s ∷ ss) h = at_clause s h first (written_alone (laid_behind calls (spelled s) (map spelled ss)))

-- the text behind a terminal, of a list and of what begins so
behind_text : (a : Terminal) (front ts : List Terminal) → opens (last_of a front) ≡ false → StartsClause ts
    → written_alone (laid_behind calls (spelled a) (map spelled (front ++ ts)))
    ≡ written_alone (laid_behind calls (spelled a) (map spelled front)) ++ led_text ts
behind_text a [] [] h k = refl
behind_text a [] (s ∷ ss) h k =
    ap (λ g. (if not g then 32 ∷ (spelled s).text else (spelled s).text) ++ written_alone (laid_behind calls (spelled s) (map spelled ss))) (apart a s h k)
behind_text a (t ∷ front) ts h k =
    let first = (if not (is_glued calls (spelled a) (spelled t)) then 32 ∷ (spelled t).text else (spelled t).text) in
    ap (λ z. first ++ z) (behind_text t front ts h k)
    ∙ sym (append_assoc first (written_alone (laid_behind calls (spelled t) (map spelled front))) (led_text ts))

pub parts_text : (a : Terminal) (front ts : List Terminal) → opens (last_of a front) ≡ false → StartsClause ts
    → spaced_text (a ∷ (front ++ ts)) ≡ with_space (spaced_text (a ∷ front)) (spaced_text ts)
parts_text a front ts h k =
    ap (λ z. (spelled a).text ++ z) (behind_text a front ts h k)
    ∙ sym (append_assoc (spelled a).text (written_alone (laid_behind calls (spelled a) (map spelled front))) (led_text ts))
    ∙ led_is (spaced_text (a ∷ front)) ts k

-- ---- the query

query_text_is : (q : Query) → query_text q ≡ terminals_text (query_terminals q)
unfolding query_text
query_text_is q = refl

pub list_text_is : (q : Select) → spaced_text (mark m.Select ∷ list_of q) ≡ list_text q
unfolding list_text
list_text_is q = refl

pub clauses_text_is : (q : Select) → spaced_text (clauses_of q) ≡ clauses_text q
unfolding clauses_text
clauses_text_is q = refl

-- a query of one select has the terminals of the select
one_select : (q : Select) → query_terminals (roll-Query (record { recursive = None; selects = q ∷ [] })) ≡ mark m.Select ∷ (list_of q ++ clauses_of q)
one_select q =
    let whole = roll-Query (record { recursive = None; selects = q ∷ [] }) in
    let rolled = out-roll-Query (record { recursive = None; selects = q ∷ [] }) in
    sym (query_alone {ss = q ∷ []} whole (ap (λ o. o.recursive) rolled) (sym (ap (λ o. o.selects) rolled)))
    ∙ sym (select_terminals {ls = (out-Select q).list} {fs = (out-Select q).from} {ks = (out-Select q).order} q refl refl refl)

pub parts_are : (q : Select) → query_text (roll-Query (record { recursive = None; selects = q ∷ [] })) ≡ with_space (list_text q) (clauses_text q) ++ 10 ∷ []
parts_are q =
    query_text_is (roll-Query (record { recursive = None; selects = q ∷ [] }))
    ∙ ap terminals_text (one_select q)
    ∙ text_is (mark m.Select ∷ (list_of q ++ clauses_of q))
    ∙ ap (λ z. z ++ 10 ∷ []) (parts_text (mark m.Select) (list_of q) (clauses_of q) ((list_loose q).last (mark m.Select) refl) (clauses_start q)
    ∙ ap (λ z. with_space z (spaced_text (clauses_of q))) (list_text_is q) ∙ ap (λ z. with_space (list_text q) z) (clauses_text_is q))
