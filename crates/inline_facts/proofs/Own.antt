-- FROM, WHERE, ORDER BY and LIMIT of the resolved select read tables of the schema alone, so the select reads its own where its list does.
use Rattle.std.proofs.Common.{◌≡◌, refl, sym, ap, subst, ◌∙◌, Bool, true, false, ◌&&◌, ℕ, ◌<◌, ◌^◌, List, [], ◌∷◌, ◌++◌, map, length, Option, option_map}
use Rattle.std.specs.List.{list_all}
use Rattle.away_trees.specs.Algebra.{expr_of, from_of, item_of, key_of, select_of}
use Rattle.away_trees.specs.declared.queries.Expr.{Expr}
use Rattle.away_trees.specs.declared.queries.Expr.TheViews.{out-Item, out-Select, roll-out-Item}
use Rattle.away_trees.specs.declared.queries.FromItem.{FromItem}
use Rattle.away_trees.specs.declared.queries.Item.{Item}
use Rattle.away_trees.specs.declared.queries.Key.{Key}
use Rattle.away_trees.specs.declared.queries.Select.{Select}
use Rattle.away_trees.specs.declared.schemas.Schema.{Schema}
use Rattle.away_trees.specs.declared.statements.Function.{Function}
use Rattle.away_trees.proofs.Equations as eq
use Rattle.away_names.specs.Lookups.{Scope}
use Rattle.away_names.specs.Tables.{outermost}
use Rattle.away_typing.specs.Typing.{Places}
use Rattle.elaboration.specs.Elaborating.{elaborating}
use Rattle.sql_meaning.specs.Reads.{Read, Reads, of_list, of_option, reading}
use Rattle.type_soundness.specs.Sorts.{Every}
use Rattle.type_soundness.proofs.CleanNotes.{Clean}
use Rattle.type_soundness.proofs.Lists.{every_right}
use Rattle.inline_law.specs.Answers.{within}
use Rattle.inline_law.specs.Filled.{CallingSelect}
use Rattle.inline_calls.specs.Forms.{with_list}
use Rattle.inline_calls.specs.Judged.{judged_list}
use Rattle.inline_calls.specs.Resolving.{all_items, resolved, slot_places}
use Rattle.inline_facts.proofs.Arguments.{own_list, resolved_made, select_is}
use Rattle.inline_facts.proofs.Judged.{named, resolved_select}
use Rattle.inline_facts.proofs.Reading.{IsPlain, plain_within, select_plain}
use Rattle.inline_facts.proofs.Resolved.{order_same, resolved_of}

-- what stands behind the list
abbrev rest_reads : List FromItem → Option Expr → List Key → Option Expr → List Read
rest_reads from filter order limit =
    of_list 1 (map (λ f. from_of reading f) from)
    ++ (of_option 1 (option_map (λ e. expr_of reading e) filter)
    ++ (of_list 1 (map (λ k. key_of reading k) order) ++ of_option 1 (option_map (λ e. expr_of reading e) limit)))

all_append : (test : Read → Bool) (xs ys : List Read) → list_all test xs ≡ true → list_all test ys ≡ true → list_all test (xs ++ ys) ≡ true
all_append test [] ys h k = k
all_append test (x ∷ xs) ys h k = let both = both_true (test x) (list_all test xs) h in (λ i. both.0 i && list_all test (xs ++ ys)) ∙ all_append test xs ys both.1 k
  where
    both_true : (a b : Bool) → (a && b) ≡ true → (a ≡ true) × (b ≡ true)
    both_true true b h = (refl, h)
    both_true false b h = cc

module _ (s : Schema) (f : Function) (c : CallingSelect) (small : length s.tables < 2 ^ 64) (clean : Clean (named s (with_list c.select (judged_list f c))).note) where
  abbrev o : Scope
  o = outermost s

  abbrev y : Select
  y = c.select

  abbrev p : Places
  p = slot_places s f c.calls

  abbrev whole : Select
  whole = (select_of elaborating (named s (with_list y (judged_list f c))).it.it p).it

  abbrev own : Select
  own = resolved_select s f c

  rest_plain : Every (IsPlain (length s.tables)) (rest_reads (out-Select whole).from (out-Select whole).filter (out-Select whole).order (out-Select whole).limit)
  rest_plain =
      every_right (IsPlain (length s.tables)) (of_list 1 (map (λ i. item_of reading i) (out-Select whole).list)) _
      (subst (λ (r : Reads). Every (IsPlain (length s.tables)) (r 0)) (eq.select_is reading whole) (select_plain s f c small clean))

  rest_same : rest_reads (out-Select whole).from (out-Select whole).filter (out-Select whole).order (out-Select whole).limit
      ≡ rest_reads (out-Select own).from (out-Select own).filter (out-Select own).order (out-Select own).limit
  rest_same =
      let a = resolved_of o y p (judged_list f c) in
      let b = resolved_made s f c in
      let from_is = a.from_is ∙ sym b.from_is in
      let filter_is = a.filter_is ∙ sym b.filter_is in
      let order_is = a.order_is ∙ (order_same o y p (judged_list f c) (all_items (out-Select y).list c.calls) ∙ sym b.order_is) in
      let limit_is = a.limit_is ∙ sym b.limit_is in
      (λ i. rest_reads (from_is i) (filter_is i) (order_is i) (limit_is i))

  module _ (calls : ℕ) where
    abbrev test : Read → Bool
    test = within calls (length s.tables)

    abbrev ItemOwn : Item → Type 0
    ItemOwn i = list_all test (expr_of reading (out-Item i).expr 1) ≡ true

    items_own : (is : List Item) → Every ItemOwn is → list_all test (of_list 1 (map (λ i. item_of reading i) is)) ≡ true
    items_own [] h = refl
    items_own (i ∷ is) h =
        all_append test (item_of reading i 1) (of_list 1 (map (λ i. item_of reading i) is))
        (ap (λ (i : Item). list_all test (item_of reading i 1)) (sym (roll-out-Item i)) ∙ h.0) (items_own is h.1)

    pub select_own : Every ItemOwn (own_list s f c) → list_all test (select_of reading (resolved s f c).select 0) ≡ true
    select_own list =
        ap (λ x. list_all test (select_of reading x 0)) (select_is s f c)
        ∙ (ap (λ (r : Reads). list_all test (r 0)) (eq.of_select reading (own_list s f c) (out-Select own).from (out-Select own).filter (out-Select own).order (out-Select own).limit)
        ∙ all_append test (of_list 1 (map (λ i. item_of reading i) (own_list s f c))) _ (items_own (own_list s f c) list)
        (plain_within calls (length s.tables) _ (subst (Every (IsPlain (length s.tables))) rest_same rest_plain)))
