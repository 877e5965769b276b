-- What the readers of whole lists answer, and what a file is refused for.
use Rattle.std.proofs.Common.{IfOk, IfErr, map, ◌≡◌, ℕ, Bool, true, false, if◌then◌else◌, List, [], ◌∷◌, length, Option, Some, None, Result, Ok, Err, sym, ap, subst, arith}
use Rattle.away_trees.specs.declared.statements.Function.{Function}
use Rattle.away_trees.specs.declared.statements.Stmt.{Stmt}
use Rattle.away_grammar.specs.FunctionFile.{LexesFile, LexesBody, first_dollar, is_dollar, up_to_dollar}
use Rattle.away_grammar.specs.FunctionGrammar.{Part, PartTree, ReadsFunction, body, function}
use Rattle.away_grammar.specs.Terminals.{Terminal, token_terminals}
use Rattle.away_grammar.specs.Spellings.{Spells}
use Rattle.away_grammar.specs.Tokens.{Lexeme, AreSpelled}
use Rattle.away_lex.proofs.Reading.{are_spelled}
use Rattle.away_lex.specs.Lexed.{seen}
use Rattle.away_lex.specs.declared.slices.Token.{Token}
use Rattle.away_lex.specs.declared.refusals.LimitKind.{LimitKind}
use Rattle.away_lex.specs.declared.refusals.LimitKind.TheVariants as limit
use Rattle.away_lex.specs.declared.refusals.ReadRefusal.{ReadRefusal}
use Rattle.away_lex.specs.declared.refusals.ReadRefusal.TheVariants as refusal
use Rattle.sql_text.specs.declared.refusal.Refusal.{Refusal}
use Rattle.sql_text.specs.declared.refusal.Refusal.TheVariants.{NoTree, NoMemory}
use Rattle.sql_text.specs.Plans.{Gives, no_tree}
use Rattle.std.proofs.lemmas.Option.{same_Some}
use Rattle.sql_text.proofs.Plans.{one}
use Rattle.sql_text.proofs.Steps.{run_of}
use Rattle.plsql_parse.specs.FileRead.{GivesAll, PartRead, FileRead, RefusesFunction, RefusesLists, RefusesWords}
use Rattle.plsql_parse.specs.Plans.{any_plan, part_plan, FileGives}
use Rattle.away_trees.specs.Limits.{KeepsLimits}
use Rattle.plsql_parse.specs.Refusals.{Exceeds, CountExceeds, HasFewTokens, MayBeRead, ReadsNone, Refuses}
use Rattle.plsql_parse.specs.Sorts.{AnyTree, part}
use Rattle.plsql_parse.proofs.OneFile.{file_given}

-- ---- whole lists

pub all_given : (p : Part) {ts new : List Terminal} {x : PartTree p} → Gives AnyTree any_plan (part p) (part_plan p) ts (Ok x) new → 0 ≡ length new → GivesAll p ts x
all_given p {new = []} d e = run_of d
all_given p {new = s ∷ new} d e = absurd (omega arith)

pub not_all_given : (p : Part) {ts new : List Terminal} {x : PartTree p} → Gives AnyTree any_plan (part p) (part_plan p) ts (Ok x) new → ¬ (0 ≡ length new) → (y : PartTree p) → ¬ (GivesAll p ts y)
not_all_given p d h y r = h (ap (λ o. length o.1) (same_Some _ _ (one (run_of d) r)))

pub not_given : (p : Part) (ts : List Terminal) {new : List Terminal} (e : Refusal) → Gives AnyTree any_plan (part p) (part_plan p) ts (Err e) new → PartRead p ts (Err e)
not_given p ts NoTree (no_tree d) = λ y r. absurd (let same = one d r in cc same)
not_given p ts NoMemory d = tt

-- ---- files

-- no function around the body that is there
no_file : (outer inner : List Lexeme) (inside : Stmt) → GivesAll body (token_terminals inner) inside → ((f : Function) → ¬ (GivesAll (function inside) (token_terminals outer) f)) → (f : Function) → ¬ (FileGives outer inner f)
no_file outer inner inside b none f r =
    let same : r.0 ≡ inside = ap (λ o. o.0) (same_Some _ _ (one b r.1)) in
    none f (subst (λ inside. GivesAll (function inside) (token_terminals outer) f) same r.2)

pub file_of : (outer inner : List Lexeme) (inside : Stmt) (r : Result Function Refusal) → GivesAll body (token_terminals inner) inside → PartRead (function inside) (token_terminals outer) r → FileRead outer inner r
file_of outer inner inside (Ok f) b d = (inside, b, d)
file_of outer inner inside (Err NoTree) b d = no_file outer inner inside b d
file_of outer inner inside (Err NoMemory) b d = tt

pub no_body : (outer inner : List Lexeme) (e : Refusal) → PartRead body (token_terminals inner) (Err e) → FileRead outer inner (Err e)
no_body outer inner NoTree none = λ f r. none r.0 r.1
no_body outer inner NoMemory none = tt

-- ---- the tokens of a body

spelled_before : (b : Bool) (t : Lexeme) (ts : List Lexeme) → Spells t.kind t.text → AreSpelled ts → AreSpelled (if b then [] else t ∷ ts)
spelled_before true t ts h more = tt
spelled_before false t ts h more = (h, more)

spelled_part : (ts : List Lexeme) → AreSpelled ts → AreSpelled (up_to_dollar ts)
spelled_part [] h = tt
spelled_part (t ∷ ts) h = spelled_before (is_dollar t.kind) t (up_to_dollar ts) h.0 (spelled_part ts h.1)

spelled_body : (quote : Option Lexeme) (ts : List Lexeme) (bad : Option ℕ) → LexesBody quote ts bad → AreSpelled ts
spelled_body None ts bad b = subst AreSpelled (sym b.0) tt
spelled_body (Some quote) ts bad b = subst AreSpelled (sym b.part.tokens) (spelled_part b.part.all (are_spelled b.part.lexes))

pub outer_spelled : {z : List ℕ} {outer inner : List Lexeme} {bad : Option ℕ} → LexesFile z outer inner bad → AreSpelled outer
outer_spelled f = are_spelled f.outer_list

pub inner_spelled : {z : List ℕ} {outer inner : List Lexeme} {bad : Option ℕ} → LexesFile z outer inner bad → AreSpelled inner
inner_spelled {outer = outer} {inner = inner} f = spelled_body (first_dollar outer) inner f.body_bad f.body_list

-- ---- refusals

pub lists_refused : (bytes : List ℕ) (e : ReadRefusal) → RefusesLists bytes e → Refuses bytes e
lists_refused bytes refusal.NotText h = h
lists_refused bytes (refusal.Token offset) h = h
lists_refused bytes (refusal.Limit which found) h = subst (λ which. Exceeds which bytes found) (sym h.0) (h.1, h.2)
lists_refused bytes refusal.NoMemory h = tt
lists_refused bytes refusal.NoTree h = absurd h
lists_refused bytes (refusal.Outside word) h = absurd h

pub words_refused : (bytes : List ℕ) (outer inner : List Lexeme) (e : ReadRefusal) → HasFewTokens bytes outer inner → ReadsNone bytes → RefusesWords outer inner e → Refuses bytes e
words_refused bytes outer inner refusal.NoTree few none h = (none, (outer, (inner, few, h)))
words_refused bytes outer inner (refusal.Outside word) few none h = (none, (outer, (inner, few, h)))
words_refused bytes outer inner refusal.NoMemory few none h = tt
words_refused bytes outer inner refusal.NotText few none h = absurd h
words_refused bytes outer inner (refusal.Token offset) few none h = absurd h
words_refused bytes outer inner (refusal.Limit which found) few none h = absurd h

exceeded : (bytes : List ℕ) (f : Function) (which : LimitKind) (found : ℕ) → MayBeRead bytes → ReadsFunction bytes f → CountExceeds f which found → Exceeds which bytes found
exceeded bytes f limit.Nesting found may reads h = absurd h
exceeded bytes f limit.Nodes found may reads h = (may, (f, reads, h))
exceeded bytes f limit.Variables found may reads h = (may, (f, reads, h))
exceeded bytes f limit.Loops found may reads h = (may, (f, reads, h))

function_refused : (bytes : List ℕ) (f : Function) (e : ReadRefusal) → MayBeRead bytes → ReadsFunction bytes f → RefusesFunction f e → Refuses bytes e
function_refused bytes f (refusal.Limit which found) may reads h = exceeded bytes f which found may reads h
function_refused bytes f refusal.NoMemory may reads h = tt
function_refused bytes f refusal.NotText may reads h = absurd h
function_refused bytes f (refusal.Token offset) may reads h = absurd h
function_refused bytes f refusal.NoTree may reads h = absurd h
function_refused bytes f (refusal.Outside word) may reads h = absurd h

-- ---- answers

-- the same lists
pub few_at : (bytes : List ℕ) (outer held inner kept : List Token) → outer ≡ held → inner ≡ kept → HasFewTokens bytes (map seen held) (map seen kept) → HasFewTokens bytes (map seen outer) (map seen inner)
few_at bytes outer held inner kept o i h =
    subst (λ l. HasFewTokens bytes (map seen l) (map seen inner)) (sym o) (subst (λ l. HasFewTokens bytes (map seen held) (map seen l)) (sym i) h)

pub kept_read : (bytes : List ℕ) (found : Function) (r : Result Function ReadRefusal) → MayBeRead bytes → ReadsFunction bytes found → IfOk r (λ kept. (kept ≡ found) × KeepsLimits found)
    → IfOk r (λ f. MayBeRead bytes × ReadsFunction bytes f × KeepsLimits f)
kept_read bytes found (Ok f) may reads h = (may, subst (ReadsFunction bytes) (sym h.0) reads, subst KeepsLimits (sym h.0) h.1)
kept_read bytes found (Err e) may reads h = tt

pub limit_refused : (bytes : List ℕ) (found : Function) (r : Result Function ReadRefusal) → MayBeRead bytes → ReadsFunction bytes found → IfErr r (RefusesFunction found) → IfErr r (Refuses bytes)
limit_refused bytes found (Ok f) may reads h = tt
limit_refused bytes found (Err e) may reads h = function_refused bytes found e may reads h

pub none_read : (bytes : List ℕ) (outer inner : List Lexeme) → LexesFile bytes outer inner None → FileRead outer inner (Err NoTree) → ReadsNone bytes
none_read bytes outer inner l none f r = none f (file_given l r)
