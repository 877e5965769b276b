-- The first node above a limit, from the lists of a file to its bytes and its place.
use Rattle.std.proofs.Common.{◌≡◌, ℕ, List, Option, Some, None, Result, Ok, Err, IfOk, IfSome, map, sym, subst}
use Rattle.away_values.specs.declared.errors.NoMemory.{NoMemory}
use Rattle.away_grammar.specs.FunctionFile.{LexesFile}
use Rattle.away_grammar.specs.Tokens.{AreSpelled, Lexeme}
use Rattle.away_lex.specs.Lexed.{seen}
use Rattle.away_lex.specs.declared.refusals.LimitKind.{LimitKind}
use Rattle.away_lex.specs.declared.slices.Token.{Token}
use Rattle.away_trees.specs.declared.statements.Function.{Function}
use Rattle.plsql_parse.specs.Plans.{FileGives}
use Rattle.plsql_parse.proofs.OneFile.{file_read}
use Rattle.plsql_parse.proofs.WholeFile.{inner_spelled, outer_spelled}
use Rattle.function_places.specs.declared.limit_places.Element.{Element}
use Rattle.function_places.specs.LimitPlaces.{IsAboveInBytes, IsAboveInLists, IsCountPlace, IsElementAbove, IsElementPlace}

pub outer_at : {bytes : List ℕ} {inner : List Lexeme} (outer held : List Token) → outer ≡ held → LexesFile bytes (map seen held) inner None → AreSpelled (map seen outer)
outer_at outer held e l = subst (λ l. AreSpelled (map seen l)) (sym e) (outer_spelled l)

pub inner_at : {bytes : List ℕ} {outer : List Lexeme} (inner held : List Token) → inner ≡ held → LexesFile bytes outer (map seen held) None → AreSpelled (map seen inner)
inner_at inner held e l = subst (λ l. AreSpelled (map seen l)) (sym e) (inner_spelled l)

-- the same lists
pub lists_at : {bytes : List ℕ} (outer held inner kept : List Token) → outer ≡ held → inner ≡ kept → LexesFile bytes (map seen held) (map seen kept) None → LexesFile bytes (map seen outer) (map seen inner) None
lists_at {bytes = bytes} outer held inner kept o i h =
    subst (λ l. LexesFile bytes (map seen l) (map seen inner) None) (sym o) (subst (λ l. LexesFile bytes (map seen held) (map seen l) None) (sym i) h)

-- the function that the lists are
pub above_in_lists : (which : LimitKind) (outer inner : List Lexeme) (f kept : Function) (r : Result (Option Element) NoMemory) → kept ≡ f → FileGives outer inner f
    → IfOk r (λ o. IfSome o (IsElementAbove which kept)) → IfOk r (λ o. IfSome o (IsAboveInLists which outer inner))
above_in_lists which outer inner f kept (Ok (Some found)) e l h = record { f = f; gives = l; above = subst (λ f. IsElementAbove which f found) e h }
above_in_lists which outer inner f kept (Ok None) e l h = tt
above_in_lists which outer inner f kept (Err x) e l h = tt

pub above_in_bytes : {bytes : List ℕ} (which : LimitKind) (outer inner : List Lexeme) (r : Result (Option Element) NoMemory) → LexesFile bytes outer inner None
    → IfOk r (λ o. IfSome o (IsAboveInLists which outer inner)) → IfOk r (λ o. IfSome o (IsAboveInBytes which bytes))
above_in_bytes which outer inner (Ok (Some found)) l h = record { f = h.f; reads = file_read l h.gives; above = h.above }
above_in_bytes which outer inner (Ok None) l h = tt
above_in_bytes which outer inner (Err e) l h = tt

pub count_placed : (bytes : List ℕ) (which : LimitKind) (found : Element) (r : Result (Option ℕ) NoMemory) → IsAboveInBytes which bytes found
    → IfOk r (λ o. IfSome o (IsElementPlace bytes found.params found.number)) → IfOk r (λ o. IfSome o (IsCountPlace bytes which))
count_placed bytes which found (Ok (Some offset)) a h =
    record { f = a.f; reads = a.reads; number = found.number; above = a.above.above; place = subst (λ n. IsElementPlace bytes n found.number offset) a.above.params h }
count_placed bytes which found (Ok None) a h = tt
count_placed bytes which found (Err e) a h = tt
