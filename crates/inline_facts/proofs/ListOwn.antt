-- Where no slot stands in a query, the list of its resolved select reads tables of the schema and the slots of its calls alone.
use Rattle.std.proofs.Common.{◌≡◌, refl, sym, ap, subst, ◌∙◌, Bool, true, false, ◌&&◌, ℕ, ◌<◌, ◌≤◌, ◌^◌, List, [], ◌∷◌, ◌++◌, map, length, Option, Some, None, option_map, arith}
use Rattle.std.specs.List.{list_all}
use Rattle.away_values.specs.declared.types.Ty.{Ty}
use Rattle.away_trees.specs.Algebra.{expr_of, item_of, query_of, recursive_of, select_of}
use Rattle.away_trees.specs.declared.queries.Expr.TheViews.{out-Item, out-Query, out-Select, roll-Item, out-roll-Select}
use Rattle.away_trees.specs.declared.queries.Item.{Item}
use Rattle.away_trees.specs.declared.queries.Query.{Query}
use Rattle.away_trees.specs.declared.queries.Recursive.{Recursive}
use Rattle.away_trees.specs.declared.queries.Select.{Select}
use Rattle.away_trees.specs.declared.schemas.Schema.{Schema}
use Rattle.away_trees.specs.declared.statements.Function.{Function}
use Rattle.away_trees.proofs.Equations as eq
use Rattle.away_names.specs.Lookups.{Name, Scope}
use Rattle.away_names.specs.Naming.{naming}
use Rattle.away_names.specs.Tables.{outermost}
use Rattle.away_typing.specs.Typing.{Places}
use Rattle.elaboration.specs.Elaborating.{elaborated}
use Rattle.elaboration_law.proofs.ErasedMarks.{marked_same}
use Rattle.elaboration_law.proofs.Unmarked.{reading_blind}
use Rattle.sql_meaning.specs.Reads.{Read, Reads, reading}
use Rattle.sql_meaning.specs.Trees.{null_of}
use Rattle.type_soundness.specs.Sorts.{Every}
use Rattle.type_soundness.proofs.CleanNotes.{Clean}
use Rattle.type_soundness.proofs.Lists.{every_left, every_right}
use Rattle.inline_law.specs.Answers.{within}
use Rattle.inline_law.specs.Filled.{CallingSelect}
use Rattle.inline_law.specs.Moved.{item_filled}
use Rattle.inline_calls.specs.Forms.{alone, calling, only_select, with_list}
use Rattle.inline_calls.specs.Judged.{asked_items, judged_list}
use Rattle.inline_calls.specs.Parting.{Calls, parted, parted_items}
use Rattle.inline_calls.specs.Resolving.{resolved, slot_places}
use Rattle.plsql_meaning.specs.Equivalent.{types_of}
use Rattle.inline_facts.specs.Slots.{any, maybe, slotting}
use Rattle.inline_facts.proofs.Arguments.{calls_are}
use Rattle.inline_facts.proofs.Judged.{named}
use Rattle.inline_facts.proofs.ListReads as r
use Rattle.inline_facts.proofs.ListReads.{Kept, reads_in}
use Rattle.inline_facts.proofs.Reading.{IsPlain, all_reads, list_plain, reads_at}
use Rattle.inline_facts.proofs.Resolved.{here, inner, made_at, resolved_expr}
use Rattle.inline_facts.proofs.Stays.{left, right}

-- ---- the list with slots in the places of its calls

module _ (t : Ty) (total tables : ℕ) where
  abbrev pub ItemGood : Item → Type 0
  ItemGood i = r.Good t total tables (out-Item i).expr

  kept_item : (f : Name) (i : Item) (cs : Calls) → item_of slotting i ≡ false → Kept t total tables (r.Good t total tables) cs (parted f (out-Item i).expr cs)
  unfolding parted
  kept_item f i cs h = r.kept t total tables f (out-Item i).expr cs h

  kept_items : (f : Name) (is : List Item) (cs : Calls) → any (map (λ i. item_of slotting i) is) ≡ false
      → Kept t total tables (Every ItemGood) cs (parted_items f is cs)
  kept_items f [] cs h = r.unchanged t total tables (Every ItemGood) [] cs tt
  kept_items f (i ∷ is) cs h =
      let rest = any (map (λ i. item_of slotting i) is) in
      r.kept_then t total tables ItemGood (Every ItemGood) (Every ItemGood) (λ x xs. x ∷ xs) (λ x xs k l. (k, l)) cs _ (λ ds. parted_items f is ds)
      (r.kept_over t total tables (r.Good t total tables) ItemGood (λ e. roll-Item (record { expr = e; alias = (out-Item i).alias })) (λ e k. k) cs _
      (kept_item f i cs (left (item_of slotting i) rest h)))
      (λ ds. kept_items f is ds (right (item_of slotting i) rest h))

-- ---- the only select of a query without slots

alone_slotless : (w : Option Recursive) (xs : List Select) (x : Select) → any (map (λ s. select_of slotting s) xs) ≡ false
    → alone w xs ≡ Some x → select_of slotting x ≡ false
alone_slotless None (y ∷ []) x h e = ap (λ o. select_or o) (sym e) ∙ left (select_of slotting y) false h
  where
    select_or : Option Select → Bool
    select_or None = true
    select_or (Some s) = select_of slotting s
alone_slotless None [] x h e = absurd (cc e)
alone_slotless None (y ∷ z ∷ zs) x h e = absurd (cc e)
alone_slotless (Some w) xs x h e = absurd (cc e)

list_slotless : (q : Query) (x : Select) → query_of slotting q ≡ false → only_select q ≡ Some x
    → any (map (λ i. item_of slotting i) (out-Select x).list) ≡ false
list_slotless q x h e =
    let selects = any (map (λ s. select_of slotting s) (out-Query q).selects) in
    let all = right (maybe (option_map (λ r. recursive_of slotting r) (out-Query q).recursive)) selects (sym (eq.query_is slotting q) ∙ h) in
    let one = alone_slotless (out-Query q).recursive (out-Query q).selects x all e in
    left (any (map (λ i. item_of slotting i) (out-Select x).list)) _ (sym (eq.select_is slotting x) ∙ one)

-- ---- what is read inside the select

all_in : (calls tables : ℕ) (rs : List Read) → Every (λ (r : Read). within calls tables r ≡ true) rs → list_all (within calls tables) rs ≡ true
all_in calls tables [] h = refl
all_in calls tables (r ∷ rs) h = (λ i. h.0 i && list_all (within calls tables) rs) ∙ all_in calls tables rs h.1

same_length : {A B : Type 0} (f : A → B) (xs : List A) → length (map f xs) ≡ length xs
same_length f [] = refl
same_length f (x ∷ xs) = let l = same_length f xs in omega (arith, l)

module _ (s : Schema) (f : Function) (c : CallingSelect) (small : length s.tables < 2 ^ 64) (clean : Clean (named s (with_list c.select (judged_list f c))).note) where
  abbrev o : Scope
  o = outermost s

  abbrev p : Places
  p = slot_places s f c.calls

  abbrev within_it : Scope
  within_it = inner o c.select p

  abbrev Plain : List Read → Type 0
  Plain = Every (IsPlain (length s.tables))

  abbrev made : Item → Item
  made = made_at o c.select p

  -- marks aside
  made_reads : (i : Item) → expr_of reading (out-Item (made i)).expr ≡ expr_of reading ((expr_of naming (out-Item i).expr).judge within_it).it
  unfolding elaborated
  made_reads i = marked_same reading reading_blind ((expr_of naming (out-Item i).expr).judge within_it).it (here o c.select p)

  abbrev filled : Item → Item
  filled = item_filled (λ d i. null_of f.result)

  abbrev reads : List Item → List Read
  reads = all_reads s f c small clean

  in_front : (xs ys : List Item) → Plain (reads (map filled xs ++ ys))
      → Every (λ (i : Item). Plain (reads_in within_it 1 (r.null f.result 0 0 (out-Item i).expr))) xs
  in_front [] ys g = tt
  in_front (x ∷ xs) ys g =
      let own = reads_at s f c small clean (filled x) 1 in
      let more = reads (map filled xs ++ ys) in (
        subst Plain (ap (λ (r : Reads). r 1) (made_reads (filled x))) (every_left (IsPlain (length s.tables)) own more g),
        in_front xs ys (every_right (IsPlain (length s.tables)) own more g),
      )

  abbrev total : ℕ
  total = length (resolved s f c).calls

  own_of : (xs : List Item) → Every (λ (i : Item). Plain (reads_in within_it 1 (r.null f.result 0 0 (out-Item i).expr))) xs
      → Every (ItemGood f.result total (length s.tables)) xs
      → Every (λ (i : Item). list_all (within total (length s.tables)) (expr_of reading (out-Item i).expr 1) ≡ true) (map made xs)
  own_of [] h k = tt
  own_of (x ∷ xs) h k = (
    ap (λ (r : Reads). list_all (within total (length s.tables)) (r 1)) (made_reads x) ∙ all_in total (length s.tables) (reads_in within_it 1 (out-Item x).expr) (k.0 within_it 1 h.0),
    own_of xs h.1 k.1,
  )

  pub list_own : Every (ItemGood f.result total (length s.tables)) (out-Select c.select).list
      → Every (λ (i : Item). list_all (within total (length s.tables)) (expr_of reading (out-Item i).expr 1) ≡ true) (map made (out-Select c.select).list)
  list_own good = own_of (out-Select c.select).list (in_front (out-Select c.select).list (asked_items (types_of f) c.calls) (list_plain s f c small clean)) good

module _ (s : Schema) (f : Function) where
  abbrev pub Good : CallingSelect → Type 0
  Good c = Every (ItemGood f.result (length (resolved s f c).calls) (length s.tables)) (out-Select c.select).list

  many : (c : CallingSelect) → length (resolved s f c).calls ≡ length c.calls
  many c = ap (λ (cs : Calls). length cs) (calls_are s f c) ∙ same_length (map (resolved_expr (outermost s) c.select (slot_places s f c.calls))) c.calls

  pub good_of : (q : Query) (x : Select) → query_of slotting q ≡ false → only_select q ≡ Some x → Good (calling f x)
  good_of q x h e =
      let c = calling f x in
      let parts = parted_items f.name (out-Select x).list [] in
      let kept = kept_items f.result (length (resolved s f c).calls) (length s.tables) f.name (out-Select x).list [] (list_slotless q x h e) in
      let all : length parts.calls ≤ length (resolved s f c).calls = let same = many c in omega (arith, same) in
      subst (Every (ItemGood f.result (length (resolved s f c).calls) (length s.tables))) (ap (λ x. x.list) (sym (out-roll-Select _))) (kept.it all)
