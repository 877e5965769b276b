-- The events of an expression with columns for its slots, one after the other.
use Rattle.std.proofs.Common.{◌≡◌, ℕ, ℤ, Bool, zero, suc, ◌+◌, ◌-◌, ◌<◌, ◌≤◌, List, [], ◌∷◌, ◌++◌, length, get_or, drop, Option, Some, refl, sym, ap, ◌∙◌, subst, arith}
use Rattle.away_trees.specs.declared.queries.Expr.{Expr}
use Rattle.away_trees.specs.declared.queries.Expr.TheVariants as expr
use Rattle.away_trees.specs.declared.queries.Col.{Col}
use Rattle.away_values.specs.declared.types.Ty.{Ty}
use Rattle.away_values.specs.declared.types.Ty.TheVariants as ty
use Rattle.away_values.specs.Operators.{literal_type}
use Rattle.sql_meaning.specs.Placed.{further, placed, placed_at}
use Rattle.tree_events.specs.declared.events.Kind.{Kind}
use Rattle.tree_events.specs.declared.events.Kind.TheVariants as kind
use Rattle.tree_events.specs.declared.events.Manner.TheVariants.{Whole}
use Rattle.tree_events.specs.declared.events.TreeEvent.{TreeEvent}
use Rattle.tree_events.specs.declared.events.TreeEvent.TheVariants as event
use Rattle.tree_events.specs.Placing.{one_less, placed_kind, placed_events}
use Rattle.tree_events.specs.Events.{Events, Put, events_of_expr}
use Rattle.tree_events.proofs.PlacedEvents.{placed_has}
use Rattle.cte_reads.specs.declared.lets.Depth.{Depth}
use Rattle.cte_reads.specs.declared.scope.Ref.{Ref}
use Rattle.cte_reads.specs.Placing.{slot_column, slot_column_in, depth_behind, placed_event_put}
use Rattle.cte_reads.specs.Puts.{expr_put}
use Rattle.cte_reads.specs.Read.{Reads}
use Rattle.cte_reads.specs.References.{lookup, col_at, ref_or}
use Rattle.cte_reads.proofs.ListPlaces.{drop_from, drop_past}
use Rattle.cte_reads.proofs.OneByOne.{then_reads, as_reads}
use Rattle.cte_reads.proofs.PutsAppend.{puts_append}

-- a node that is neither a slot nor a literal stands as it is
pub stays : (ref : ℕ → Col) (d : ℕ) (k : Kind) → ((i : ℕ) → k ≡ kind.Slot i → ⊥) → ((n : ℤ) → k ≡ kind.Int n → ⊥) → ((v : Bool) → k ≡ kind.Bool v → ⊥) → (k ≡ kind.Str → ⊥)
    → (rest : Events) → event.Open k ∷ rest ≡ placed_kind ref d k rest
stays ref d (kind.Slot i) slot int bool str rest = absurd (slot i refl)
stays ref d (kind.Int n) slot int bool str rest = absurd (int n refl)
stays ref d (kind.Bool v) slot int bool str rest = absurd (bool v refl)
stays ref d kind.Str slot int bool str rest = absurd (str refl)
stays ref d k slot int bool str rest = refl

pub slot_stands : (depth : Depth) (slots : List ℕ) (refs : List Ref) (k : Kind) (i : ℕ) (r : Ref) → k ≡ kind.Slot i → r ≡ ref_or (lookup slots refs i) → (rest : Events)
    → event.Open (kind.Column (further depth.within (col_at depth.out r))) ∷ rest ≡ placed_kind (slot_column_in depth slots refs) 0 k rest
slot_stands depth slots refs k i r is found rest =
    ap (λ l. event.Open (kind.Column (record { level = l; item = r.item; column = r.column })) ∷ rest) (let q : suc depth.out - r.from + depth.within ≡ (suc depth.out - r.from + depth.within) + 0 = omega arith in q)
    ∙ (ap (λ r. placed_kind (λ i. further depth.within (col_at depth.out r)) 0 (kind.Slot i) rest) found
    ∙ ap (λ k. placed_kind (slot_column_in depth slots refs) 0 k rest) (sym is))

pub number_stands : (ref : ℕ → Col) (k cast : Kind) (n : ℤ) → k ≡ kind.Int n → cast ≡ kind.Cast (literal_type n) → (rest : Events)
    → event.Open cast ∷ event.Open (kind.Int n) ∷ event.Close ∷ rest ≡ placed_kind ref 0 k rest
number_stands ref k cast n is typed rest =
    ap (λ c. event.Open c ∷ event.Open (kind.Int n) ∷ event.Close ∷ rest) typed ∙ ap (λ k. placed_kind ref 0 k rest) (sym is)

pub truth_stands : (ref : ℕ → Col) (k : Kind) (v : Bool) → k ≡ kind.Bool v → (rest : Events)
    → event.Open (kind.Cast ty.Boolean) ∷ event.Open k ∷ event.Close ∷ rest ≡ placed_kind ref 0 k rest
truth_stands ref k v is rest = subst (λ k. event.Open (kind.Cast ty.Boolean) ∷ event.Open k ∷ event.Close ∷ rest ≡ placed_kind ref 0 k rest) (sym is) refl

pub text_stands : (ref : ℕ → Col) (k : Kind) → k ≡ kind.Str → (rest : Events) → event.Open (kind.Cast ty.Text) ∷ event.Open k ∷ rest ≡ placed_kind ref 0 k rest
text_stands ref k is rest = subst (λ k. event.Open (kind.Cast ty.Text) ∷ event.Open k ∷ rest ≡ placed_kind ref 0 k rest) (sym is) refl

kind_append : (ref : ℕ → Col) (d : ℕ) (k : Kind) (rest more : Events) → placed_kind ref d k (rest ++ more) ≡ placed_kind ref d k rest ++ more
kind_append ref d (kind.Slot i) rest more = refl
kind_append ref d (kind.Int n) rest more = refl
kind_append ref d (kind.Bool v) rest more = refl
kind_append ref d kind.Str rest more = refl
kind_append ref d k rest more = refl

module _ (out : ℕ) (slots : List ℕ) (refs : List Ref) where
  -- a place in the expression, behind so many of its selects that are still open
  abbrev pub inside : ℕ → Depth
  inside d = record { out = out; within = suc d }

  abbrev pub column_here : ℕ → Col
  column_here = slot_column out slots refs

  same_kind : (d : ℕ) (k : Kind) (rest : Events) → placed_kind (slot_column_in (inside d) slots refs) 0 k rest ≡ placed_kind column_here d k rest
  same_kind d (kind.Slot i) rest =
      let r : Ref = ref_or (lookup slots refs i) in
      ap (λ l. event.Open (kind.Column (record { level = l; item = r.item; column = r.column })) ∷ rest) (let q : (suc out - r.from + suc d) + 0 ≡ suc (suc out - r.from) + d = omega arith in q)
  same_kind d (kind.Int n) rest = refl
  same_kind d (kind.Bool v) rest = refl
  same_kind d kind.Str rest = refl
  same_kind d k rest = refl

  -- how many are open behind a event
  abbrev pub open_behind : TreeEvent → ℕ → ℕ
  open_behind event.Enter d = suc d
  open_behind event.Leave d = one_less d
  open_behind (event.Open k) d = d
  open_behind event.Close d = d
  open_behind (event.Text t) d = d
  open_behind (event.Name n) d = d

  depth_is : (s : TreeEvent) (d : ℕ) → depth_behind s (inside d) ≡ inside (open_behind s d)
  depth_is event.Enter d = refl
  depth_is event.Leave zero = refl
  depth_is event.Leave (suc d) = refl
  depth_is (event.Open k) d = refl
  depth_is event.Close d = refl
  depth_is (event.Text t) d = refl
  depth_is (event.Name n) d = refl

  put_first : (s : TreeEvent) (d : ℕ) (ss rest : Events)
      → placed_event_put (inside d) slots refs s (placed_events column_here (open_behind s d) ss ++ rest) ≡ placed_events column_here d (s ∷ ss) ++ rest
  put_first (event.Open k) d ss rest = same_kind d k (placed_events column_here d ss ++ rest) ∙ kind_append column_here d k (placed_events column_here d ss) rest
  put_first event.Enter d ss rest = refl
  put_first event.Leave d ss rest = refl
  put_first event.Close d ss rest = refl
  put_first (event.Text t) d ss rest = refl
  put_first (event.Name n) d ss rest = refl

  not_deeper : (s : TreeEvent) (d : ℕ) → open_behind s d ≤ suc d
  not_deeper event.Enter d = omega arith
  not_deeper event.Leave zero = omega arith
  not_deeper event.Leave (suc d) = omega arith
  not_deeper (event.Open k) d = omega arith
  not_deeper event.Close d = omega arith
  not_deeper (event.Text t) d = omega arith
  not_deeper (event.Name n) d = omega arith

  -- the events from a place of the expression on, with so many selects open, and others behind
  abbrev pub from_place : Events → ℕ → ℕ → Put
  from_place of i d rest = placed_events column_here d (drop i of) ++ rest

  abbrev pub all_placed : Events → Put
  all_placed of rest = placed_events column_here 0 of ++ rest

  -- Whoever reads what is left of the expression has read all of it.
  pub record PlacedTo (events : Events) (start : Option ℕ) (of : Events) (i : ℕ) (at : Option ℕ) (depth : Depth) : Type 0 where
    pub selects : ℕ
    pub is : depth ≡ inside selects
    pub few : selects ≤ i
    pub whole : (r : Option ℕ) → Reads (from_place of i selects) events at r → Reads (all_placed of) events start r

  pub placed_begins : (events : Events) (start : Option ℕ) (of : Events) → PlacedTo events start of 0 start (inside 0)
  placed_begins events start of = record { selects = 0; is = refl; few = omega arith; whole = λ r h. h }

  pub placed_on : {events : Events} {start : Option ℕ} (of : Events) (i : ℕ) (s : TreeEvent) {at next : Option ℕ} {depth behind : Depth} → i < length of → s ≡ get_or of i s
      → PlacedTo events start of i at depth → Reads (placed_event_put depth slots refs s) events at next → behind ≡ depth_behind s depth
      → PlacedTo events start of (i + 1) next behind
  placed_on {events} {start} of i s {at} {next} {depth} {behind} lt is h one deep =
      record {
        selects = open_behind s h.selects;
        is = deep ∙ (ap (depth_behind s) h.is ∙ depth_is s h.selects);
        few = omega (arith, not_deeper s h.selects, h.few);
        whole = λ r k. h.whole r (as_reads all_of (then_reads (as_reads (λ rest. ap (λ z. placed_event_put z slots refs s rest) h.is) one) k));
      }
    where
      left : drop i of ≡ s ∷ drop (i + 1) of
      left = drop_from of i s lt ∙ ap (λ z. z ∷ drop (i + 1) of) (sym is)

      all_of : (rest : Events) → placed_event_put (inside h.selects) slots refs s (from_place of (i + 1) (open_behind s h.selects) rest) ≡ from_place of i h.selects rest
      all_of rest = put_first s h.selects (drop (i + 1) of) rest ∙ ap (λ l. placed_events column_here h.selects l ++ rest) (sym left)

  pub placed_ends : {events : Events} {start : Option ℕ} (of : Events) (i : ℕ) {at : Option ℕ} {depth : Depth} → length of ≤ i → PlacedTo events start of i at depth
      → Reads (all_placed of) events start at
  placed_ends of i {at} le h =
      h.whole at (record {
        told = λ rest. (
          λ e. e ∙ ap Some (ap (λ l. placed_events column_here h.selects l ++ rest) (drop_past of i le)),
          λ e. e ∙ ap Some (ap (λ l. placed_events column_here h.selects l ++ rest) (sym (drop_past of i le))),
        );
      })

-- ---- the whole expression

not_null : (t : Ty) (ref : ℕ → Col) (e : Expr) → (e ≡ expr.Null → ⊥) → placed ref e ≡ placed_at t ref e
not_null t ref expr.Null other = absurd (other refl)
not_null t ref e other = refl

pub placed_whole : (t : Ty) (ref : ℕ → Col) (e : Expr) (events : Events) → events ≡ events_of_expr Whole e → (e ≡ expr.Null → ⊥) → (rest : Events)
    → placed_events ref 0 events ++ rest ≡ expr_put (placed_at t ref e) rest
placed_whole t ref e events is other rest =
    ap (λ l. placed_events ref 0 l ++ rest) is
    ∙ (ap (λ l. l ++ rest) (sym (placed_has ref e))
    ∙ (sym (puts_append (placed ref e) [] rest) ∙ ap (λ x. expr_put x rest) (not_null t ref e other)))

pub null_whole : (t : Ty) (ref : ℕ → Col) (e : Expr) → e ≡ expr.Null → (rest : Events) → expr_put (expr.Cast expr.Null t) rest ≡ expr_put (placed_at t ref e) rest
null_whole t ref e is rest = ap (λ x. expr_put (placed_at t ref x) rest) (sym is)
