-- No item of a SELECT INTO of a function that is read is a chain without links.
use Rattle.std.proofs.Common.{◌≡◌, refl, ap, sym, subst, ◌∙◌, ℕ, zero, suc, Bool, List, [], ◌∷◌, map, fold, drop, Option, Some, None}
use Rattle.away_grammar.specs.FunctionGrammar.{ReadsFunction}
use Rattle.away_grammar.specs.Grammar.{Reads, item, items, select, selects, query}
use Rattle.away_grammar.specs.Grammar as g
use Rattle.away_grammar.specs.Terminals.{Terminal}
use Rattle.away_names.specs.declared.note.Column.{Column}
use Rattle.away_names.specs.declared.note.Noted.{Noted}
use Rattle.away_names.specs.declared.note.Shown.{Shown}
use Rattle.away_names.specs.declared.scope.Hit.{Hit}
use Rattle.away_names.specs.declared.scope.Variable.{Variable}
use Rattle.away_names.specs.Lookups.{Name, Scope, column_named, column_qualified, variable_named}
use Rattle.away_names.specs.Naming as n
use Rattle.away_names.specs.Naming.{naming}
use Rattle.away_names.specs.Trees.{named_expr}
use Rattle.away_trees.specs.declared.queries.Expr.{Expr}
use Rattle.away_trees.specs.declared.queries.Expr.TheBlock as b
use Rattle.away_trees.specs.declared.queries.Expr.TheOpen as ex
use Rattle.away_trees.specs.declared.queries.Expr.TheOpen.{Item-F, Select-F, Query-F}
use Rattle.away_trees.specs.declared.queries.Expr.TheVariants as expr
use Rattle.away_trees.specs.declared.queries.Expr.TheViews.{out-Expr, out-Item, out-Query, out-Select, roll-Expr, roll-Item, roll-Query, roll-Select, roll-out-Expr}
use Rattle.away_trees.specs.declared.queries.Expr.TheViews.{out-roll-Item, out-roll-Query, out-roll-Select}
use Rattle.away_trees.specs.declared.queries.FromItem.{FromItem}
use Rattle.away_trees.specs.declared.queries.Item.{Item}
use Rattle.away_trees.specs.declared.queries.Key.{Key}
use Rattle.away_trees.specs.declared.queries.Query.{Query}
use Rattle.away_trees.specs.declared.queries.Recursive.{Recursive}
use Rattle.away_trees.specs.declared.queries.Select.{Select}
use Rattle.away_trees.specs.declared.queries.Source.{Source}
use Rattle.away_trees.specs.declared.schemas.Schema.{Schema}
use Rattle.away_trees.specs.declared.statements.Function.{Function}
use Rattle.away_trees.specs.declared.statements.Stmt.{Stmt}
use Rattle.away_trees.specs.declared.statements.Stmt.TheBlock as st
use Rattle.away_trees.specs.Algebra.{item_of, query_of, select_of}
use Rattle.away_trees.specs.StatementAlgebra.{stmt_of, stmts_of, branches_of, else_of}
use Rattle.away_trees.proofs.Equations as eq
use Rattle.away_types.specs.CheckedFunctions.{IsChecked}
use Rattle.away_types.specs.FunctionChecks.{around_in, body_of, slots_of}
use Rattle.away_types.specs.declared.slots.Slot.{Slot}
use Rattle.away_typing.specs.declared.kind.Kind.{Kind}
use Rattle.away_typing.specs.Typing.{Places}
use Rattle.elaboration.specs.Converting.{Around, converted, first_mark, into_converted, items_marked, select_marked}
use Rattle.elaboration.specs.Elaborating.{Itemizing, MadeSelect, Selecting, elaborated, elaborated_select, elaborating, item_trees}
use Rattle.sql_meaning.specs.Trees.{one}
use Rattle.plsql_meaning.specs.Sight as sight
use Rattle.plsql_parse.specs.Refusals.{MayBeRead}
use Rattle.select_into.specs.Entries.{Target}
use Rattle.block_forms.specs.Expressions.{Entries, sources, sourcing, whole_select, in_turn, defaults, of_kind, of_else}
use Rattle.block_forms.specs.Intos.{Into, intos, selecting, row_intos, else_intos}
use Rattle.block_forms.specs.Places.{Each}
use Rattle.type_soundness.specs.Sorts.{Every}
use Rattle.type_soundness.proofs.Lists.{every_append, every_left, every_right}
use Rattle.cte_names.proofs.ConvertedEntries.{converted_goes}
use Rattle.cte_types.specs.Linked.{IsLinked, HasLinkedItems}
use Rattle.cte_prints.specs.Derivation.{IsReadWithin}
use Rattle.cte_prints.proofs.Files.{sources_are_read}
use Rattle.cte_prints.proofs.Linked.{any_into, marked_linked, read_linked, resolved_linked}
use Rattle.cte_prints.proofs.ReadingDepth.{read_so}
use Rattle.cte_prints.proofs.ScalarsInside.{Inside, read_inside}
use Rattle.cte_prints.proofs.Shapes.{Node, see_scalar}
use Rattle.cte_prints.proofs.WrittenSources.{StandsFor, sources_stand}

abbrev ItemFields : Type 0
ItemFields = Item-F Expr Source FromItem Item Key Query Recursive Select

abbrev SelectFields : Type 0
SelectFields = Select-F Expr Source FromItem Item Key Query Recursive Select

abbrev QueryFields : Type 0
QueryFields = Query-F Expr Source FromItem Item Key Query Recursive Select

abbrev ItemIsLinked : Item → Type 0
ItemIsLinked x = IsLinked (out-Item x).expr

abbrev SelectIsLinked : Select → Type 0
SelectIsLinked q = Every ItemIsLinked (out-Select q).list

abbrev QueryIsLinked : Query → Type 0
QueryIsLinked q = Every SelectIsLinked (out-Query q).selects

-- ---- by their fields

of_item : (f : ItemFields) → IsLinked f.expr → ItemIsLinked (roll-Item f)
of_item f h = subst (λ (f : ItemFields). IsLinked f.expr) (sym (out-roll-Item f)) h

of_list : (f : SelectFields) → Every ItemIsLinked f.list → SelectIsLinked (roll-Select f)
of_list f h = subst (λ (f : SelectFields). Every ItemIsLinked f.list) (sym (out-roll-Select f)) h

of_selects : (f : QueryFields) → Every SelectIsLinked f.selects → QueryIsLinked (roll-Query f)
of_selects f h = subst (λ (f : QueryFields). Every SelectIsLinked f.selects) (sym (out-roll-Query f)) h

-- ---- what is read

item_linked : {ts rest : List Terminal} {x : Item} → Reads item ts x rest → ItemIsLinked x
item_linked (g.item_alone {x = x} d) = of_item (record { expr = x; alias = None }) (read_linked d)
item_linked (g.item_as {x = x} {n = name} d) = of_item (record { expr = x; alias = Some name }) (read_linked d)

items_linked : {ts rest : List Terminal} {xs : List Item} → Reads items ts xs rest → Every ItemIsLinked xs
items_linked (g.last_item d) = (item_linked d, tt)
items_linked (g.another_item d c) = (item_linked d, items_linked c)

select_linked : {ts rest : List Terminal} {x : Select} → Reads select ts x rest → SelectIsLinked x
select_linked (g.select_of {xs = xs} {fs = fs} {w = w} {ks = ks} {n = n} a b c e f) =
    of_list (record { list = xs; from = fs; filter = w; order = ks; limit = n }) (items_linked a)

selects_linked : {ts rest : List Terminal} {xs : List Select} → Reads selects ts xs rest → Every SelectIsLinked xs
selects_linked (g.last_select d) = (select_linked d, tt)
selects_linked (g.another_select d c) = (select_linked d, selects_linked c)

query_linked : {ts rest : List Terminal} {x : Query} → Reads query ts x rest → QueryIsLinked x
query_linked (g.query_of {ss = ss} may d) = of_selects (record { recursive = None; selects = ss }) (selects_linked d)

-- ---- with its names resolved

named_items : (s : Scope) (xs : List Item) → Every ItemIsLinked xs → (a : Noted (Shown (List Item))) → Every ItemIsLinked a.it.it
    → Every ItemIsLinked (fold (λ a i. n.with_item a (i.judge s)) a (map (λ x. item_of naming x) xs)).it.it
unfolding named_expr
named_items s [] h a k = k
named_items s (x ∷ xs) h a k =
    let it : Noted Column = (item_of naming x).judge s in
    named_items s xs h.1 (n.with_item a it)
    (every_append ItemIsLinked a.it.it (it.it.it ∷ []) k
    (of_item (record { expr = (named_expr (out-Item x).expr s).it; alias = (out-Item x).alias }) (resolved_linked (out-Item x).expr s h.0), tt))

named_select : (s : Scope) (q : Select) → SelectIsLinked q → SelectIsLinked (select_of naming q s).it.it
named_select s q h =
    subst (λ (l : n.Listing). SelectIsLinked (l s).it.it) (sym (eq.select_is naming q))
    (of_list _ (named_items _ (out-Select q).list h n.no_item tt))

named_selects : (s : Scope) (xs : List Select) → Every SelectIsLinked xs → (a : Noted (Shown (List Select))) → Every SelectIsLinked a.it.it
    → Every SelectIsLinked (fold (λ a l. n.with_select a (l s)) a (map (λ x. select_of naming x) xs)).it.it
named_selects s [] h a k = k
named_selects s (x ∷ xs) h a k =
    let it = select_of naming x s in
    named_selects s xs h.1 (n.with_select a it) (every_append SelectIsLinked a.it.it (it.it.it ∷ []) k (named_select s x h.0, tt))

named_query : (s : Scope) (q : Query) → QueryIsLinked q → QueryIsLinked (query_of naming q s).it.it
named_query s q h =
    subst (λ (w : n.Whole). QueryIsLinked (w s).it.it) (sym (eq.query_is naming q)) (of_selects _ (named_selects s (out-Query q).selects h n.no_select tt))

-- ---- what stands for a query in brackets is one

abbrev IsScalar : Expr → Type 0
IsScalar (b.Scalar' m q) = Unit {0}
IsScalar _ = ⊥

abbrev NodeIsScalar : Node → Type 0
NodeIsScalar (ex.Scalar q) = Unit {0}
NodeIsScalar _ = ⊥

slot_no_scalar : (x : Name) (v : Option Variable) → IsScalar (n.slot_or x v).it → ⊥
unfolding n.slot_or
slot_no_scalar x None h = h
slot_no_scalar x (Some v) h = h

named_no_scalar : (x : Name) (hit : Option Hit) (v : Option Variable) → IsScalar (n.named_by x hit v).it → ⊥
unfolding n.named_by
named_no_scalar x (Some hit) v h = h
named_no_scalar x None v h = slot_no_scalar x v h

qualified_no_scalar : (a x : Name) (hit : Option Hit) → IsScalar (n.qualified_by a x hit).it → ⊥
unfolding n.qualified_by
qualified_no_scalar a x None h = h
qualified_no_scalar a x (Some hit) h = h

was_scalar : (e : Expr) (s : Scope) → IsScalar (named_expr e s).it → IsScalar e
unfolding named_expr n.named n.qualified n.unwritten
was_scalar (b.Named x) s h = absurd (named_no_scalar x (column_named x s.levels) (variable_named x s.variables) h)
was_scalar (b.Dotted a x) s h = absurd (qualified_no_scalar a x (column_qualified a x s.levels) h)
was_scalar (b.Scalar' m q) s h = tt
was_scalar _ s h = h

node_scalar : (x : Node) → IsScalar (roll-Expr x) → NodeIsScalar x
unfolding roll-Expr denote.Hole.Carrier.roll
node_scalar (ex.Scalar q) h = tt
node_scalar (ex.Cases xs None) h = h
node_scalar (ex.Cases xs (Some x)) h = h
node_scalar _ h = h

scalar_named : (q : Query) (s : Scope) → (named_expr (expr.Scalar q) s).it ≡ expr.Scalar (query_of naming q s).it.it
unfolding named_expr
scalar_named q s = ap (λ (t : n.Term). (t.judge s).it) (eq.of_scalar naming q)

rolled : (q : Query) → roll-Expr (ex.Scalar q) ≡ expr.Scalar q
unfolding roll-Expr denote.Hole.Carrier.roll
rolled q = refl

nodes_same : (x y : Node) (p q : Query) → x ≡ ex.Scalar p → y ≡ ex.Scalar q → x ≡ y → p ≡ q
nodes_same x y p q h k e = cc

queries_same : (p q : Query) → expr.Scalar p ≡ expr.Scalar q → p ≡ q
queries_same p q e = nodes_same (out-Expr (expr.Scalar p)) (out-Expr (expr.Scalar q)) p q (see_scalar p) (see_scalar q) (ap out-Expr e)

-- ---- the select of an INTO

module _ (schema : Schema) (q : Select) (r : StandsFor (IsReadWithin 64) schema (sight.query_of q)) where
  only_linked : (p : Query) → QueryIsLinked p → expr.Scalar p ≡ sight.query_of q → SelectIsLinked q
  only_linked p h e =
      let same : p ≡ one q = queries_same p (one q) e in
      (subst (λ (f : QueryFields). Every SelectIsLinked f.selects) (out-roll-Query (record { recursive = None; selects = q ∷ [] })) (subst QueryIsLinked same h)).0

  of_node : (x : Node) → out-Expr r.written ≡ x → Inside 64 x → NodeIsScalar x → SelectIsLinked q
  of_node (ex.Scalar w) e k h =
      let same : r.written ≡ expr.Scalar w = sym (roll-out-Expr r.written) ∙ (ap roll-Expr e ∙ rolled w) in
      only_linked (query_of naming w r.scope).it.it (named_query r.scope w (query_linked (read_so k.reads)))
      (sym (scalar_named w r.scope) ∙ (ap (λ x. (named_expr x r.scope).it) (sym same) ∙ r.resolved))
  of_node _ e k h = absurd h

  stands_linked : SelectIsLinked q
  stands_linked =
      of_node (out-Expr r.written) refl (read_inside 64 r.written r.holds)
      (node_scalar (out-Expr r.written) (subst IsScalar (sym (roll-out-Expr r.written)) (was_scalar r.written r.scope (subst IsScalar (sym r.resolved) tt))))

-- ---- with its operations marked, and its items

abbrev item_exprs : Entries
item_exprs strict targets q = map (λ (x : Item). (out-Item x).expr) (out-Select q).list

exprs_linked : (xs : List Item) → Every ItemIsLinked xs → Every IsLinked (map (λ (x : Item). (out-Item x).expr) xs)
exprs_linked [] h = tt
exprs_linked (x ∷ xs) h = (h.0, exprs_linked xs h.1)

items_linked_back : (xs : List Item) → Every IsLinked (map (λ (x : Item). (out-Item x).expr) xs) → Every ItemIsLinked xs
items_linked_back [] h = tt
items_linked_back (x ∷ xs) h = (h.0, items_linked_back xs h.1)

module _ (p : Places) where
  made_items : (xs : List Item) → Every ItemIsLinked xs → Every ItemIsLinked (item_trees (map (λ (i : Itemizing). i p) (map (λ x. item_of elaborating x) xs)))
  unfolding elaborated
  made_items [] h = tt
  made_items (x ∷ xs) h =
      (of_item (record { expr = (elaborated p (out-Item x).expr).it; alias = (out-Item x).alias }) (marked_linked p (out-Item x).expr h.0), made_items xs h.1)

made_select : (p : Places) (q : Select) → SelectIsLinked q → SelectIsLinked (elaborated_select p q).it
unfolding elaborated_select
made_select p q h =
    subst (λ (m : Selecting). SelectIsLinked (m p).it) (sym (eq.select_is elaborating q)) (of_list _ (made_items _ (out-Select q).list h))

marked_items : (a : Around) (ts : List Target) (ks : List Kind) (xs : List Item) → Every ItemIsLinked xs → Every ItemIsLinked (items_marked a ts ks xs)
marked_items a ts ks [] h = tt
marked_items a ts ks (x ∷ xs) h =
    (of_item (record { expr = (out-Item x).expr; alias = first_mark a ts ks }) h.0, marked_items a (drop 1 ts) (drop 1 ks) xs h.1)

marked_select : (a : Around) (ts : List Target) (o : Option (List Kind)) (q : Select) → SelectIsLinked q → SelectIsLinked (select_marked a ts (record { kinds = o; it = q }))
marked_select a ts None q h = h
marked_select a ts (Some ks) q h = of_list (record (out-Select q) { list = items_marked a ts ks (out-Select q).list }) (marked_items a ts ks (out-Select q).list h)

converted_linked : (a : Around) (ts : List Target) (q : Select) → SelectIsLinked q → SelectIsLinked (into_converted a ts q)
unfolding into_converted
converted_linked a ts q h =
    let m : MadeSelect = elaborated_select a.places q in marked_select a ts m.kinds m.it (made_select a.places q h)

-- ---- all statements

module _ (E : Entries) (P : Expr → Type 0) (R : Into → Type 0)
    (into : (strict : Bool) (targets : List Target) (q : Select) → Every P (E strict targets q) → R (record { targets = targets; query = q })) where
  mutual
    stmt_intos : (x : Stmt) → Every P (stmt_of (sourcing E) x) → Every R (stmt_of selecting x)
    stmt_intos (st.Block' label decls m body closing) h = row_selects body (every_right P (defaults decls) (in_turn (stmts_of (sourcing E) body)) h)
    stmt_intos (st.Assign name slot e) h = tt
    stmt_intos (st.If' m arms o) h =
        every_append R (row_intos (branches_of selecting arms)) (else_intos (else_of selecting o))
        (arms_select arms (every_left P (in_turn (branches_of (sourcing E) arms)) (of_else (else_of (sourcing E) o)) h))
        (else_selects o (every_right P (in_turn (branches_of (sourcing E) arms)) (of_else (else_of (sourcing E) o)) h))
    stmt_intos (st.Cases' m arms o) h =
        every_append R (row_intos (branches_of selecting arms)) (else_intos (else_of selecting o))
        (arms_select arms (every_left P (in_turn (branches_of (sourcing E) arms)) (of_else (else_of (sourcing E) o)) h))
        (else_selects o (every_right P (in_turn (branches_of (sourcing E) arms)) (of_else (else_of (sourcing E) o)) h))
    stmt_intos (st.Loop' label k m body closing) h = row_selects body (every_right P (of_kind k) (in_turn (stmts_of (sourcing E) body)) h)
    stmt_intos (st.Exit label when) h = tt
    stmt_intos (st.Continue label when) h = tt
    stmt_intos (st.Return e) h = tt
    stmt_intos (st.Raise raised) h = tt
    stmt_intos (st.Into strict targets q) h = (into strict targets q h, tt)
    stmt_intos st.Nothing h = tt

    row_selects : {m : _} (body : st.Row_of-Stmt m) → Every P (in_turn (stmts_of (sourcing E) body)) → Every R (row_intos (stmts_of selecting body))
    row_selects st.end_of-Stmt h = tt
    row_selects (st.more_of-Stmt x rest) h =
        every_append R (stmt_of selecting x) (row_intos (stmts_of selecting rest))
        (stmt_intos x (every_left P (stmt_of (sourcing E) x) (in_turn (stmts_of (sourcing E) rest)) h))
        (row_selects rest (every_right P (stmt_of (sourcing E) x) (in_turn (stmts_of (sourcing E) rest)) h))

    arms_select : {m : _} (arms : st.Row_of-Arm m) → Every P (in_turn (branches_of (sourcing E) arms)) → Every R (row_intos (branches_of selecting arms))
    arms_select st.end_of-Arm h = tt
    arms_select (st.more_of-Arm test m body rest) h =
        every_append R (row_intos (stmts_of selecting body)) (row_intos (branches_of selecting rest))
        (row_selects body (every_left P (in_turn (stmts_of (sourcing E) body)) (in_turn (branches_of (sourcing E) rest)) h.1))
        (arms_select rest (every_right P (in_turn (stmts_of (sourcing E) body)) (in_turn (branches_of (sourcing E) rest)) h.1))

    else_selects : (o : st.Held-Stmt-If-1) → Every P (of_else (else_of (sourcing E) o)) → Every R (else_intos (else_of selecting o))
    else_selects st.None' h = tt
    else_selects (st.Some' m body) h = row_selects body h

-- ---- a whole function

each_of : {A : Type 0} (P : A → Type 0) (xs : List A) → Every P xs → Each P xs
each_of P [] h i x e = absurd cc
each_of P (y ∷ ys) h zero x e = let same : y ≡ x = cc in subst P same h.0
each_of P (y ∷ ys) h (suc i) x e = each_of P ys h.1 i x e

every_of : (P : Expr → Type 0) (xs : List Expr) → Each P xs → Every P xs
every_of P [] h = tt
every_of P (x ∷ xs) h = (h 0 x refl, every_of P xs (λ i y e. h (suc i) y e))

read_within : (bytes : List ℕ) (written : Function) → MayBeRead bytes → ReadsFunction bytes written → Every (IsReadWithin 64) (sources whole_select written.body)
read_within bytes written may reads = every_of (IsReadWithin 64) (sources whole_select written.body) (sources_are_read bytes written may reads)

stands_read : (schema : Schema) (e : Expr) → StandsFor (IsReadWithin 64) schema e → IsLinked e
stands_read schema e r = subst IsLinked r.resolved (resolved_linked r.written r.scope (read_linked (read_so r.holds.reads)))

items_of : (schema : Schema) (written f : Function) (slots : List Slot) → IsChecked schema written f slots
    → Every (StandsFor (IsReadWithin 64) schema) (sources whole_select (body_of schema written).it) → Every IsLinked (sources item_exprs f.body)
unfolding sources
items_of schema written f slots checked stand =
    let around : Around = around_in schema (slots_of schema written) written.result in
    let body : Stmt = (body_of schema written).it in
    subst (λ (x : Stmt). Every IsLinked (stmt_of (sourcing item_exprs) x)) (sym (ap (λ (f : Function). f.body) checked.function))
    (converted_goes whole_select item_exprs (StandsFor (IsReadWithin 64) schema) IsLinked (λ (i : Into). Unit {0}) around
    (λ e r. marked_linked around.places e (stands_read schema e r)) (λ t e r. tt)
    (λ strict targets q u r. exprs_linked (out-Select (into_converted around targets q)).list (converted_linked around targets q (stands_linked schema q r.0))) body
    (any_into (stmt_of selecting (converted around body))) stand)

pub intos_linked : (bytes : List ℕ) (schema : Schema) (written f : Function) (slots : List Slot) → MayBeRead bytes → ReadsFunction bytes written
    → IsChecked schema written f slots → Each HasLinkedItems (intos f.body)
unfolding sources intos
intos_linked bytes schema written f slots may reads checked =
    let stand = sources_stand (IsReadWithin 64) schema written f slots checked (read_within bytes written may reads) in
    each_of HasLinkedItems (intos f.body)
    (stmt_intos item_exprs IsLinked HasLinkedItems (λ strict targets q k. each_of ItemIsLinked (out-Select q).list (items_linked_back (out-Select q).list k)) f.body
    (items_of schema written f slots checked stand))
