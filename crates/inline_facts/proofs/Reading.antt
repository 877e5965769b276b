-- Where the check accepts the calls of a query, their arguments read tables of the schema and no slot.
use Rattle.std.proofs.Common.{◌≡◌, refl, sym, ap, subst, ◌∙◌, true, false, ◌&&◌, ℕ, ◌<◌, ◌^◌, List, [], ◌∷◌, ◌++◌, map, length, arith}
use Rattle.std.proofs.lemmas.Bool.Decides.{nat_tests}
use Rattle.std.specs.Prelude.{codes, nat_lt, flat_map}
use Rattle.std.specs.List.{list_all}
use Rattle.away_values.specs.declared.types.Ty.{Ty}
use Rattle.away_trees.specs.Algebra.{expr_of, item_of, select_of}
use Rattle.away_trees.specs.declared.queries.Expr.{Expr}
use Rattle.away_trees.specs.declared.queries.Expr.TheViews.{out-Select}
use Rattle.away_trees.specs.declared.queries.Item.{Item}
use Rattle.away_trees.specs.declared.queries.Select.{Select}
use Rattle.away_trees.specs.declared.schemas.Schema.{Schema}
use Rattle.away_trees.specs.declared.statements.Function.{Function}
use Rattle.away_trees.proofs.Equations as eq
use Rattle.away_names.specs.Tables.{outermost}
use Rattle.away_names.specs.Trees.{named_select}
use Rattle.away_typing.specs.Typing.{Places}
use Rattle.elaboration.specs.Elaborating.{elaborated_select, elaborating}
use Rattle.elaboration_law.proofs.ErasedMarks.{marked_select_same}
use Rattle.elaboration_law.proofs.Unmarked.{reading_blind}
use Rattle.plsql_meaning.specs.Equivalent.{types_of}
use Rattle.plsql_meaning.specs.Sight as into
use Rattle.sql_meaning.specs.Reads.{Read, Slot, Param, Table, Outer, Reads, reads, reading}
use Rattle.sql_meaning.specs.Trees.{item, null_of}
use Rattle.type_soundness.specs.Sorts.{Every}
use Rattle.type_soundness.proofs.CleanNotes.{Clean}
use Rattle.type_soundness.proofs.Lists.{every_left, every_right}
use Rattle.function_facts.specs.InSight.{IsSeen}
use Rattle.function_facts.proofs.TableLookups.{IsBelow, tables_below}
use Rattle.function_facts.proofs.TablesOfTrees.{into_below}
use Rattle.function_facts.proofs.TreesInSight.{into_seen}
use Rattle.function_facts.proofs.WholeSelects.{whole_reading}
use Rattle.inline_law.specs.Filled.{CallingSelect}
use Rattle.inline_law.specs.Answers.{within}
use Rattle.inline_law.specs.Moved.{item_filled}
use Rattle.inline_calls.specs.Judged.{asked, asked_items, beside_null, judged_list}
use Rattle.inline_calls.specs.Forms.{with_list}
use Rattle.inline_calls.specs.Parting.{Calls}
use Rattle.inline_calls.specs.Resolving.{slot_places}
use Rattle.inline_facts.proofs.Depths.{any_depth}
use Rattle.inline_facts.proofs.Judged.{named}
use Rattle.inline_facts.proofs.Resolved.{made_at, made_call, resolved_expr, resolved_of}

-- a table of the schema, or neither a slot nor a table
abbrev pub IsPlain : ℕ → Read → Type 0
IsPlain tables (Slot i) = ⊥
IsPlain tables (Param i) = Unit {0}
IsPlain tables (Table k) = k < tables
IsPlain tables (Outer c) = Unit {0}

both : (tables : ℕ) (rs : List Read) → Every (IsBelow tables) rs → Every (IsSeen []) rs → Every (IsPlain tables) rs
both tables [] h k = tt
both tables (Slot i ∷ rs) h k = absurd (false_true k.0)
  where
    false_true : false ≡ true → ⊥
    false_true e = cc
both tables (Param i ∷ rs) h k = (tt, both tables rs h.1 k.1)
both tables (Table t ∷ rs) h k = (h.0, both tables rs h.1 k.1)
both tables (Outer c ∷ rs) h k = (tt, both tables rs h.1 k.1)

is_below : (k n : ℕ) → k < n → nat_lt k n ≡ true
is_below k n h = grind (arith, nat_tests)

pub plain_within : (calls tables : ℕ) (rs : List Read) → Every (IsPlain tables) rs → list_all (within calls tables) rs ≡ true
plain_within calls tables [] h = refl
plain_within calls tables (Slot i ∷ rs) h = absurd h.0
plain_within calls tables (Param i ∷ rs) h = plain_within calls tables rs h.1
plain_within calls tables (Table t ∷ rs) h = (λ i. is_below t tables h.0 i && list_all (within calls tables) rs) ∙ plain_within calls tables rs h.1
plain_within calls tables (Outer c ∷ rs) h = plain_within calls tables rs h.1

module _ (s : Schema) (f : Function) (c : CallingSelect) (small : length s.tables < 2 ^ 64) where
  abbrev judged : Select
  judged = with_list c.select (judged_list f c)

  abbrev p : Places
  p = slot_places s f c.calls

  abbrev whole : Select
  whole = (select_of elaborating (named s judged).it.it p).it

  abbrev Plain : List Read → Type 0
  Plain = Every (IsPlain (length s.tables))

  module _ (clean : Clean (named s judged).note) where
    abbrev tree : Select
    tree = (named s judged).it.it

    named_plain : Plain (select_of reading tree 0)
    unfolding named_select
    named_plain =
        every_left (IsPlain (length s.tables)) (select_of reading tree 0) []
        (subst Plain (whole_reading tree 0)
        (both (length s.tables) (reads (into.query_of tree)) (into_below (length s.tables) judged (outermost s) (λ x. tables_below s small x) refl clean) (into_seen judged (outermost s) clean 0)))

    pub select_plain : Plain (select_of reading whole 0)
    unfolding elaborated_select
    select_plain = subst Plain (sym (ap (λ r. r 0) (marked_select_same reading reading_blind tree p))) named_plain

    abbrev made : Item → Item
    made = made_at (outermost s) c.select p

    abbrev pub reads_at : Item → Reads
    reads_at i = item_of reading (made i)

    abbrev pub all_reads : List Item → List Read
    all_reads is = flat_map (λ (r : Reads). r 1) (map reads_at is)

    fused : (is : List Item) → map (λ i. item_of reading i) (map made is) ≡ map reads_at is
    fused [] = refl
    fused (i ∷ is) = ap (λ rs. reads_at i ∷ rs) (fused is)

    pub list_plain : Plain (all_reads (judged_list f c))
    list_plain =
        subst (λ l. Plain (flat_map (λ (r : Reads). r 1) l)) (ap (map (λ i. item_of reading i)) (resolved_of (outermost s) c.select p (judged_list f c)).list_is ∙ fused (judged_list f c))
        (every_left (IsPlain (length s.tables)) (flat_map (λ (r : Reads). r 1) (map (λ i. item_of reading i) (out-Select whole).list)) _ (subst Plain (ap (λ r. r 0) (eq.select_is reading whole)) select_plain))

    behind : {A : Type 0} (h : A → Item) (xs : List A) (ys : List Item) → Plain (all_reads (map h xs ++ ys)) → Plain (all_reads ys)
    behind h [] ys g = g
    behind h (x ∷ xs) ys g = behind h xs ys (every_right (IsPlain (length s.tables)) (reads_at (h x) 1) (all_reads (map h xs ++ ys)) g)

    abbrev R : Expr → Expr
    R = resolved_expr (outermost s) c.select p

    abbrev PlainExpr : Expr → Type 0
    PlainExpr e = Plain (reads (R e))

    alone_plain : (e : Expr) → Plain (reads_at (item e) 1) → PlainExpr e
    alone_plain e g = any_depth (IsPlain (length s.tables)) (λ c. tt) (R e) 1 0 g

    one_plain : (t : Ty) (e : Expr) → Plain (reads_at (item (beside_null t e)) 1) → PlainExpr e
    one_plain t e g =
        any_depth (IsPlain (length s.tables)) (λ c. tt) (R e) 1 0
        (every_left (IsPlain (length s.tables)) (expr_of reading (R e) 1) (expr_of reading (R (null_of t)) 1 ++ [])
        (subst Plain (ap (λ r. r 1) (eq.of_call reading (codes "coalesce") (R e ∷ R (null_of t) ∷ [])))
        (subst (λ x. Plain (expr_of reading x 1)) (made_call (outermost s) c.select p (codes "coalesce") e (null_of t)) g)))

    call_plain : (ts : List Ty) (es : List Expr) (rest : List Item) → Plain (all_reads (map item (asked ts es) ++ rest)) → Every PlainExpr es × Plain (all_reads rest)
    call_plain ts [] rest g = (tt, g)
    call_plain [] (e ∷ es) rest g =
        let next = all_reads (map item (asked [] es) ++ rest) in
        let more = call_plain [] es rest (every_right (IsPlain (length s.tables)) (reads_at (item e) 1) next g) in
        ((alone_plain e (every_left (IsPlain (length s.tables)) (reads_at (item e) 1) next g), more.0), more.1)
    call_plain (t ∷ ts) (e ∷ es) rest g =
        let next = all_reads (map item (asked ts es) ++ rest) in
        let more = call_plain ts es rest (every_right (IsPlain (length s.tables)) (reads_at (item (beside_null t e)) 1) next g) in
        ((one_plain t e (every_left (IsPlain (length s.tables)) (reads_at (item (beside_null t e)) 1) next g), more.0), more.1)

    calls_plain : (ts : List Ty) (calls : Calls) → Plain (all_reads (asked_items ts calls)) → Every (Every PlainExpr) calls
    calls_plain ts [] g = tt
    calls_plain ts (es ∷ calls) g = let both = call_plain ts es (asked_items ts calls) g in (both.0, calls_plain ts calls both.1)

    -- each argument, resolved
    pub arguments_plain : Every (Every PlainExpr) c.calls
    arguments_plain = calls_plain (types_of f) c.calls (behind (item_filled (λ d i. null_of f.result)) (out-Select c.select).list (asked_items (types_of f) c.calls) list_plain)
