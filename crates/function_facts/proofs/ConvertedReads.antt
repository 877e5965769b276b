-- A marked or converted expression reads what the expression reads, and so does a converted select of a SELECT INTO.
use Rattle.std.proofs.Common.{◌≡◌, refl, ap, sym, ◌∙◌, ℕ, Bool, true, false, if◌then◌else◌, List, [], ◌∷◌, ◌++◌, drop, map, Option, Some, None, option_map}
use Rattle.away_values.specs.declared.types.Ty.{Ty}
use Rattle.away_trees.specs.declared.queries.Expr.{Expr}
use Rattle.away_trees.specs.declared.queries.Expr.TheVariants as expr
use Rattle.away_trees.specs.declared.queries.Item.{Item}
use Rattle.away_trees.specs.declared.queries.Select.{Select}
use Rattle.away_trees.specs.declared.queries.Expr.TheViews.{out-Item, out-Select}
use Rattle.away_trees.specs.Algebra.{Algebra, expr_of, item_of, from_of, key_of, select_of}
use Rattle.away_trees.proofs.Equations as eq
use Rattle.away_typing.specs.declared.kind.Kind.{Kind}
use Rattle.away_typing.specs.Typing.{Places}
use Rattle.sql_meaning.specs.Reads.{reading, reads}
use Rattle.plsql_meaning.specs.Sight.{query_of}
use Rattle.elaboration.specs.Elaborating.{elaborated, elaborated_select}
use Rattle.elaboration.specs.Converting.{Around, Target, converted_to, converts, first_mark, into_converted, items_marked, marked, select_marked, with_list}
use Rattle.elaboration_law.specs.Blind.{IsBlind}
use Rattle.elaboration_law.proofs.ErasedMarks.{marked_same, marked_select_same}
use Rattle.elaboration_law.proofs.Unmarked.{reading_blind}
use Rattle.function_facts.proofs.WholeSelects.{whole_reading}

-- ---- in every recursion where an alias is nothing

module _ (a : Algebra) (k : (x : a.AnExpr) (old new : Option (List ℕ)) → a.item (record { expr = x; alias = new }) ≡ a.item (record { expr = x; alias = old })) (w : Around) where
  items_same : (ts : List Target) (ks : List Kind) (is : List Item) → map (λ i. item_of a i) (items_marked w ts ks is) ≡ map (λ i. item_of a i) is
  items_same ts ks [] = refl
  items_same ts ks (i ∷ is) =
      λ j. k (expr_of a (out-Item i).expr) (out-Item i).alias (first_mark w ts ks) j ∷ items_same (drop 1 ts) (drop 1 ks) is j

  listed_same : (list : List Item) (s : Select) → map (λ i. item_of a i) list ≡ map (λ i. item_of a i) (out-Select s).list → select_of a (with_list list s) ≡ select_of a s
  listed_same list s h =
      let o = out-Select s in
      eq.of_select a list o.from o.filter o.order o.limit
      ∙ ap (λ (l : List a.AnItem). a.select (record { list = l; from = map (λ f. from_of a f) o.from; filter = option_map (λ e. expr_of a e) o.filter; order = map (λ k. key_of a k) o.order; limit = option_map (λ e. expr_of a e) o.limit })) h
      ∙ sym (eq.select_is a s)

  marks_same : (ts : List Target) (kinds : Option (List Kind)) (s : Select) → select_of a (select_marked w ts (record { kinds = kinds; it = s })) ≡ select_of a s
  marks_same ts None s = refl
  marks_same ts (Some ks) s = listed_same (items_marked w ts ks (out-Select s).list) s (items_same ts ks (out-Select s).list)

  pub into_same : IsBlind a → (ts : List Target) (s : Select) → select_of a (into_converted w ts s) ≡ select_of a s
  unfolding into_converted
  into_same blind ts s = marks_same ts (elaborated_select w.places s).kinds (elaborated_select w.places s).it ∙ marked_select_same a blind s w.places

-- ---- reads

pub marked_reads : (p : Places) (e : Expr) → reads (marked p e) ≡ reads e
marked_reads p e = ap (λ r. r 0) (marked_same reading reading_blind e p)

cast_reads : (b : Bool) (t : Ty) (e : Expr) → reads (if b then expr.Cast e t else e) ≡ reads e
cast_reads true t e = ap (λ r. r 0) (eq.of_cast reading e t)
cast_reads false t e = refl

pub converted_reads : (t : Ty) (p : Places) (e : Expr) → reads (converted_to t p e) ≡ reads e
unfolding converted_to
converted_reads t p e = cast_reads (converts t (elaborated p e).kind) t (elaborated p e).it ∙ marked_reads p e

pub into_reads : (w : Around) (ts : List Target) (s : Select) → reads (query_of (into_converted w ts s)) ≡ reads (query_of s)
into_reads w ts s =
    whole_reading (into_converted w ts s) 0
    ∙ (ap (λ r. r 0 ++ []) (into_same reading (λ x old new. refl) w reading_blind ts s) ∙ sym (whole_reading s 0))
