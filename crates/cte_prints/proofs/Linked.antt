-- No expression of a function that is read is a chain without links.
use Rattle.std.proofs.Common.{◌≡◌, refl, ap, sym, subst, ℕ, zero, suc, true, false, List, [], ◌∷◌, ◌++◌, map, length, fold, Bool, Option, Some, None, if◌then◌else◌}
use Rattle.away_grammar.specs.declared.grammar.Mark.{Mark}
use Rattle.away_grammar.specs.declared.grammar.Mark.TheVariants as m
use Rattle.away_grammar.specs.FunctionGrammar.{ReadsFunction}
use Rattle.away_grammar.specs.Grammar.{Sort, Tree, Reads, at, chained, literal_of}
use Rattle.away_grammar.specs.Grammar as g
use Rattle.away_grammar.specs.Terminals.{Terminal}
use Rattle.away_typing.specs.declared.kind.Kind.{Kind}
use Rattle.away_typing.specs.Typing.{Places}
use Rattle.elaboration.specs.Converting.{Around, converted, into_converted, marked}
use Rattle.elaboration.specs.Elaborating.{MadeExpr, Making, chain_made, elaborated, elaborating, link_trees, marked_links}
use Rattle.elaboration.specs.Marks.{marked_op, next_kind}
use Rattle.away_names.specs.declared.note.Noted.{Noted}
use Rattle.away_names.specs.declared.scope.Hit.{Hit}
use Rattle.away_names.specs.declared.scope.Variable.{Variable}
use Rattle.away_names.specs.Lookups.{Name, Scope, column_qualified, column_named, variable_named}
use Rattle.away_names.specs.Naming as naming
use Rattle.away_names.specs.Notes as notes
use Rattle.away_names.specs.Trees.{named_expr}
use Rattle.away_trees.specs.declared.queries.Expr.{Expr}
use Rattle.away_trees.specs.declared.queries.Expr.TheBlock as b
use Rattle.away_trees.specs.declared.queries.Expr.TheVariants as expr
use Rattle.away_trees.specs.declared.queries.Expr.TheViews.{out-Select}
use Rattle.away_trees.specs.declared.queries.Select.{Select}
use Rattle.away_trees.specs.declared.schemas.Schema.{Schema}
use Rattle.away_trees.specs.declared.statements.Function.{Function}
use Rattle.away_trees.specs.declared.statements.Stmt.{Stmt}
use Rattle.away_trees.specs.StatementAlgebra.{stmt_of}
use Rattle.away_trees.specs.Algebra.{expr_of, exprs_of, head_or, links_of}
use Rattle.away_types.specs.CheckedFunctions.{IsChecked}
use Rattle.away_types.specs.FunctionChecks.{around_in, body_of, slots_of}
use Rattle.away_types.specs.declared.slots.Slot.{Slot}
use Rattle.away_values.specs.declared.operators.ChainOp.{ChainOp}
use Rattle.away_values.specs.declared.types.Ty.{Ty}
use Rattle.sql_meaning.specs.Template.{below}
use Rattle.select_into.specs.Entries.{Target, cast_at, target_types, check_entries, into_entries, pick_entry, unmarked}
use Rattle.select_into.specs.Wrapped.{pick_as, picked}
use Rattle.block_forms.specs.Expressions.{expressions, sources, sourcing, source_expressions, whole_select}
use Rattle.block_forms.specs.Intos.{Into, selecting}
use Rattle.block_forms.specs.Slots.{shown_types}
use Rattle.block_forms.specs.declared.fixed_list.Fixed.{Fixed}
use Rattle.block_forms.specs.declared.fixed_list.Fixed.TheVariants as fix
use Rattle.block_forms.specs.FixedList.{expression, entries, fixed_list}
use Rattle.block_forms.specs.Places.{Each}
use Rattle.plsql_parse.specs.Refusals.{MayBeRead, most_nesting}
use Rattle.cte_names.proofs.ConvertedEntries.{converted_goes}
use Rattle.cte_prints.proofs.Files.{sources_are_read}
use Rattle.cte_prints.specs.Derivation.{IsReadWithin}
use Rattle.cte_prints.proofs.ReadingDepth.{read_so}
use Rattle.cte_prints.proofs.WrittenSources.{StandsFor, sources_stand}
use Rattle.type_soundness.specs.Sorts.{Every}
use Rattle.type_soundness.proofs.Lists.{every_append}
use Rattle.cte_types.specs.Linked.{AreLinks, IsLinked}

-- ---- what is read

chain_linked : (x : Expr) (y : ChainOp × Expr) (ys : List (ChainOp × Expr)) → IsLinked (expr.Chain x (y ∷ ys))
unfolding b.hidden-the_row-Expr-Chain-1-2-1 denote.Hole.Carrier.hidden
chain_linked x y ys = tt

chained_linked : (x : Expr) (ys : List (ChainOp × Expr)) → IsLinked x → IsLinked (chained x ys)
chained_linked x [] h = h
chained_linked x (y ∷ ys) h = chain_linked x y ys

some_same : (x y : Expr) → Some x ≡ Some y → x ≡ y
some_same x y e = cc

literal_linked : (terminal : Mark) (x : Expr) → literal_of terminal ≡ Some x → IsLinked x
literal_linked m.True x e = subst IsLinked (some_same (expr.Bool true) x e) tt
literal_linked m.False x e = subst IsLinked (some_same (expr.Bool false) x e) tt
literal_linked m.Null x e = subst IsLinked (some_same expr.Null x e) tt
literal_linked _ x e = absurd cc

abbrev TreeIsLinked : (n : Sort) → Tree n → Type 0
TreeIsLinked (at level) x = IsLinked x
TreeIsLinked _ x = Unit {0}

pub read_linked : {n : Sort} {ts rest : List Terminal} {x : Tree n} → Reads n ts x rest → TreeIsLinked n x
read_linked (g.chain {first = first} {more = more} is d c) = chained_linked first more (read_linked d)
read_linked (g.affirmed d) = read_linked d
read_linked (g.untested d) = read_linked d
read_linked (g.uncompared d) = read_linked d
read_linked (g.unranged d) = read_linked d
read_linked (g.unsigned d) = read_linked d
read_linked (g.uncast d) = read_linked d
read_linked (g.parentheses d) = read_linked d
read_linked (g.literal {x = x} terminal is) = literal_linked terminal x is
read_linked _ = tt

-- ---- what its names stand for

slot_linked : (n : Name) (v : Option Variable) → IsLinked (naming.slot_or n v).it
unfolding naming.slot_or
slot_linked n None = tt
slot_linked n (Some v) = tt

named_linked : (n : Name) (hit : Option Hit) (v : Option Variable) → IsLinked (naming.named_by n hit v).it
unfolding naming.named_by
named_linked n (Some hit) v = tt
named_linked n None v = slot_linked n v

qualified_linked : (a n : Name) (hit : Option Hit) → IsLinked (naming.qualified_by a n hit).it
unfolding naming.qualified_by
qualified_linked a n None = tt
qualified_linked a n (Some hit) = tt

abbrev IsSome : {A : Type 0} → List A → Type 0
IsSome [] = ⊥
IsSome (x ∷ xs) = Unit {0}

grown : {A : Type 0} (xs : List A) (x : A) → IsSome (xs ++ x ∷ [])
grown [] x = tt
grown (y ∷ ys) x = tt

more_found : {A B : Type 0} (f : A → Noted B) (xs : List A) (a : Noted (List B)) → IsSome a.it → IsSome (fold (λ a x. notes.added a (f x)) a xs).it
more_found f [] a h = h
more_found f (x ∷ xs) a h = more_found f xs (notes.added a (f x)) (grown a.it (f x).it)

some_found : {A B : Type 0} (f : A → Noted B) (x : A) (xs : List A) → IsSome (notes.each f (x ∷ xs)).it
some_found f x xs = more_found f xs (notes.added (notes.pure []) (f x)) tt

some_linked : (x : Expr) (ys : List (ChainOp × Expr)) → IsSome ys → IsLinked (expr.Chain x ys)
some_linked x [] h = absurd h
some_linked x (y ∷ ys) h = chain_linked x y ys

links_linked : (s : Scope) (x : Expr) {n : _} (links : b.Row_of-Expr-Chain-1-2 n) → AreLinks links
    → IsLinked (expr.Chain x (notes.each (naming.linked s) (links_of naming.naming links)).it)
links_linked s x b.end_of-Expr-Chain-1-2 h = absurd h
links_linked s x (b.more_of-Expr-Chain-1-2 op e rest) h =
    some_linked x _ (some_found (naming.linked s) (op, expr_of naming.naming e) (links_of naming.naming rest))

pub resolved_linked : (e : Expr) (s : Scope) → IsLinked e → IsLinked (named_expr e s).it
unfolding named_expr naming.named naming.qualified naming.unwritten
resolved_linked (b.Named n) s h = named_linked n (column_named n s.levels) (variable_named n s.variables)
resolved_linked (b.Dotted a n) s h = qualified_linked a n (column_qualified a n s.levels)
resolved_linked (b.Chain' p e z links) s h = links_linked s ((head_or naming.naming.no_expr (exprs_of naming.naming e)).judge s).it links h
resolved_linked _ s h = tt

-- ---- with the marks of operations

first_linked : (x : Expr) (k : Kind) (l : ChainOp × MadeExpr) (ls : List (ChainOp × MadeExpr)) → IsLinked (expr.Chain x (link_trees (marked_links k (l ∷ ls))))
first_linked x k l ls = chain_linked x (marked_op l.0 k l.1.kind, l.1.it) (link_trees (marked_links (next_kind l.0 k l.1.kind) ls))

minus_linked : (b : Bool) (e : Expr) → IsLinked (if b then expr.NegSmall e else expr.Neg e)
minus_linked true e = tt
minus_linked false e = tt

made_links : (p : Places) (m : MadeExpr) {n : _} (links : b.Row_of-Expr-Chain-1-2 n) → AreLinks links
    → IsLinked (chain_made m (map (λ (l : ChainOp × Making). (l.0, l.1 p)) (links_of elaborating links))).it
made_links p m b.end_of-Expr-Chain-1-2 h = absurd h
made_links p m (b.more_of-Expr-Chain-1-2 op e rest) h =
    first_linked m.it m.kind (op, expr_of elaborating e p) (map (λ (l : ChainOp × Making). (l.0, l.1 p)) (links_of elaborating rest))

pub marked_linked : (p : Places) (e : Expr) → IsLinked e → IsLinked (elaborated p e).it
unfolding elaborated
marked_linked p (b.Chain' n e z links) h = made_links p ((head_or elaborating.no_expr (exprs_of elaborating e)) p) links h
marked_linked p (b.Neg' n e) h = minus_linked _ _
marked_linked p (b.NegSmall' n e) h = minus_linked _ _
marked_linked p _ h = tt

-- ---- the whole table

stands_linked : (schema : Schema) (e : Expr) → StandsFor IsLinked schema e → IsLinked e
stands_linked schema e h = subst IsLinked h.resolved (resolved_linked h.written h.scope h.holds)

made_linked : (schema : Schema) (p : Places) (e : Expr) → StandsFor IsLinked schema e → IsLinked (marked p e)
made_linked schema p e h = marked_linked p e (stands_linked schema e h)

checks_linked : (strict : Bool) (q : Select) → Every IsLinked (check_entries strict q)
checks_linked true q = (tt, (tt, tt))
checks_linked false q = tt

pick_linked : (c : Option Ty) (q : Select) (place : ℕ) → IsLinked (pick_as c q place)
pick_linked None q place = tt
pick_linked (Some t) q place = tt

picks_linked : (types : List Ty) (q : Select) (places : List ℕ) → Every IsLinked (map (pick_entry types q) places)
picks_linked types q [] = tt
picks_linked types q (k ∷ ks) = (pick_linked (cast_at types (out-Select q).list k) (picked types q) k, picks_linked types q ks)

entries_linked : (types : List Ty) (strict : Bool) (targets : List Target) (q : Select) → Every IsLinked (into_entries types strict targets q)
entries_linked types strict targets q =
    let own : List Ty = target_types types targets in
    every_append IsLinked (check_entries strict (unmarked q)) _ (checks_linked strict (unmarked q)) (picks_linked own q (below (length own)))

pub any_into : (is : List Into) → Every (λ (i : Into). Unit {0}) is
any_into [] = tt
any_into (i ∷ is) = (tt, any_into is)

sources_linked : (schema : Schema) (written f : Function) (slots : List Slot) → IsChecked schema written f slots
    → Every (StandsFor IsLinked schema) (sources whole_select (body_of schema written).it) → Every IsLinked (source_expressions f)
unfolding sources
sources_linked schema written f slots h k =
    let around : Around = around_in schema (slots_of schema written) written.result in
    let body : Stmt = (body_of schema written).it in
    subst (λ (x : Stmt). Every IsLinked (stmt_of (sourcing (into_entries (shown_types f))) x)) (sym (ap (λ (f : Function). f.body) h.function))
    (converted_goes whole_select (into_entries (shown_types f)) (StandsFor IsLinked schema) IsLinked (λ (i : Into). Unit {0}) around (made_linked schema around.places)
    (λ t e k. tt) (λ strict targets q r k. entries_linked (shown_types f) strict targets (into_converted around targets q)) body
    (any_into (stmt_of selecting (converted around body))) k)

every_read : (es : List Expr) → Each (IsReadWithin most_nesting) es → Every IsLinked es
every_read [] h = tt
every_read (e ∷ es) h = (read_linked (read_so (h 0 e refl).reads), every_read es (λ i x at. h (suc i) x at))

entry_linked : (x : Fixed) → IsLinked (expression x)
unfolding b.hidden-the_row-Expr-Chain-1-2-1 denote.Hole.Carrier.hidden
entry_linked (fix.Null t) = tt
entry_linked (fix.IsNull t) = tt
entry_linked fix.NotPositive = tt
entry_linked fix.AtMost = tt
entry_linked fix.AtLeast = tt
entry_linked fix.PastGreatest = tt
entry_linked fix.PastLeast = tt
entry_linked fix.Sum = tt
entry_linked fix.Difference = tt
entry_linked fix.One = tt
entry_linked fix.Copy = tt

fixed_are_linked : (xs : List Fixed) → Every IsLinked (map expression xs)
fixed_are_linked [] = tt
fixed_are_linked (x ∷ xs) = (entry_linked x, fixed_are_linked xs)

fixed_linked : Every IsLinked fixed_list
fixed_linked = fixed_are_linked entries

each_of : (es : List Expr) → Every IsLinked es → Each IsLinked es
each_of [] h i x e = absurd cc
each_of (y ∷ ys) h zero x e = let same : y ≡ x = cc in subst IsLinked same h.0
each_of (y ∷ ys) h (suc i) x e = each_of ys h.1 i x e

pub expressions_linked : (bytes : List ℕ) (schema : Schema) (written f : Function) (slots : List Slot) → MayBeRead bytes → ReadsFunction bytes written
    → IsChecked schema written f slots → Each IsLinked (expressions f)
expressions_linked bytes schema written f slots may reads checked =
    let read : Every IsLinked (sources whole_select written.body) = every_read (sources whole_select written.body) (sources_are_read bytes written may reads) in
    let stand = sources_stand IsLinked schema written f slots checked read in
    each_of (expressions f) (every_append IsLinked (source_expressions f) fixed_list (sources_linked schema written f slots checked stand) fixed_linked)
