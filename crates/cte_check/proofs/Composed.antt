-- The template's events determine the relation of a tail form and its query.
use Rattle.std.proofs.Common.{◌≡◌, ℕ, zero, suc, ◌≤◌, Bool, List, [], length, slice_get, Result, Ok, Err, IfOk, IsTrue, ◌↔◌, sym, ap, ◌∙◌, subst, arith}
use Rattle.std.proofs.lemmas.Option.{slice_get_past}
use Rattle.away_trees.specs.declared.queries.Expr.{Expr}
use Rattle.away_trees.specs.declared.queries.Query.{Query}
use Rattle.away_trees.specs.declared.statements.Function.{Function}
use Rattle.away_trees.specs.Algebra.{query_of}
use Rattle.away_types.specs.declared.slots.Slot.{Slot}
use Rattle.away_values.specs.declared.errors.NoMemory.{NoMemory}
use Rattle.away_values.specs.declared.types.Ty.{Ty}
use Rattle.block_forms.specs.declared.forms.Goto.{Goto}
use Rattle.block_forms.specs.declared.forms.Ssa.{Ssa}
use Rattle.block_forms.specs.Expressions.{expressions}
use Rattle.block_forms.specs.Places.{Each}
use Rattle.call_forms.specs.declared.forms.AnfBlock.{AnfBlock}
use Rattle.call_forms.specs.declared.forms.Anf.{Anf}
use Rattle.call_forms.specs.declared.forms.Tail.{Tail}
use Rattle.call_forms.specs.Bodies.{body_of, tree, block_body}
use Rattle.call_forms.specs.Called.{Among}
use Rattle.call_forms.specs.Columned.{type_of_name}
use Rattle.call_forms.specs.Forms.{params_of}
use Rattle.call_forms.specs.Template as template
use Rattle.call_forms.specs.Templated.{HasTree, Templated, type_or_bigint}
use Rattle.tree_events.specs.Events.{shaping, events_of_query}
use Rattle.tree_events.specs.declared.events.Manner.TheVariants.{Whole}
use Rattle.tree_events.proofs.ReadBack.{events_determine}
use Rattle.tree_events.proofs.WithoutNames.{bare_query_events}
use Rattle.sql_meaning.specs.Names.{bare}
use Rattle.cte_check.specs.Walks.{GivenOf}
use Rattle.cte_check.specs.Whole.{IsTemplate}
use Rattle.cte_check.specs.declared.body.Given as code

-- equal events, and equal queries but for names
same_events : (q r : Query) → bare q ≡ bare r → events_of_query q ≡ events_of_query r
same_events q r e = ap (λ p. p []) (sym (bare_query_events Whole q)) ∙ (ap (λ q. query_of (shaping Whole) q []) e ∙ ap (λ p. p []) (bare_query_events Whole r))

-- a block with a tree is one of the form
tree_is_of_block : (table : List Expr) (names : List ℕ) (a : Anf) (r : Tail) (n b : ℕ) → length a.blocks ≤ b → HasTree table names (tree a r n b) → ⊥
tree_is_of_block table names a r zero b le h = h
tree_is_of_block table names a r (suc n) b le h = subst (λ x. HasTree table names (block_body a r (tree a r n) x)) (slice_get_past a.blocks b le) h

below : (b n : ℕ) → (n ≤ b → ⊥) → suc b ≤ n
below b zero h = absurd (h (omega arith))
below zero (suc n) h = omega arith
below (suc b) (suc n) h = let q = below b n (λ le. h (omega arith)) in omega arith

pub trees_are_of_blocks : (table : List Expr) (a : Anf) (r : Tail) → Each (λ b. HasTree table (params_of (slice_get a.blocks b)) (body_of a r b)) r.labels
    → Each (λ b. suc b ≤ length a.blocks) r.labels
trees_are_of_blocks table a r trees i b e =
    below b (length a.blocks) (λ le. tree_is_of_block table (params_of (slice_get a.blocks b)) a r (length a.blocks) b le (trees i b e))

-- ---- the two relations

abbrev Trees : List Expr → List AnfBlock → Tail → Type 0
Trees table blocks r = let a : Anf = record { blocks = blocks } in Each (λ b. HasTree table (params_of (slice_get blocks b)) (body_of a r b)) r.labels

abbrev query_in : List Expr → List Slot → List ℕ → Ty → List AnfBlock → Tail → ℕ → ℕ → Query
query_in table slots names result blocks r entry tables =
    template.query_of table (λ n. type_or_bigint (type_of_name slots names n)) result (record { blocks = blocks }) r entry tables

-- what is read is what the forms say
pub record ReadsForms (f : Function) (slots : List Slot) (z : Ssa) (a : Anf) (r : Tail) (q : Query) (x : code.Given) : Type 0 where
  pub events : x.events.now ≡ events_of_query q
  pub slots_are : x.slots.now ≡ slots
  pub names_are : x.names.now ≡ z.names
  pub result_is : x.result ≡ f.result
  pub blocks_are : x.blocks.now ≡ a.blocks
  pub tail_is : x.tail.now ≡ r

pub template_is_templated : (f : Function) (slots : List Slot) (tables : ℕ) (g : Goto) (z : Ssa) (a : Anf) (r : Tail) (q : Query) (x : code.Given) (table : List Expr)
    → table ≡ expressions f → ReadsForms f slots z a r q x → IsTemplate table x g.entry tables ↔ Templated f slots tables g z a r q
template_is_templated f slots tables g z a r q x table is h = (
  λ t. record {
    entry = subst (λ (r : Tail). Among r.labels g.entry) h.tail_is t.entry;
    trees = subst (λ table. Trees table a.blocks r) is (subst (λ b. Trees table b r) h.blocks_are (subst (λ r. Trees table x.blocks.now r) h.tail_is t.trees));
    query = events_determine q (query_in (expressions f) slots z.names f.result a.blocks r g.entry tables) (sym h.events ∙ (t.events ∙ ap events_of_query same));
  },
  λ t. record {
    entry = subst (λ (r : Tail). Among r.labels g.entry) (sym h.tail_is) t.entry;
    trees =
        subst (λ r. Trees table x.blocks.now r) (sym h.tail_is)
        (subst (λ b. Trees table b r) (sym h.blocks_are) (subst (λ table. Trees table a.blocks r) (sym is) t.trees));
    events = h.events ∙ (same_events q (query_in (expressions f) slots z.names f.result a.blocks r g.entry tables) t.query ∙ ap events_of_query (sym same));
  },
)
  where
    same : query_in table x.slots.now x.names.now x.result x.blocks.now x.tail.now g.entry tables ≡ query_in (expressions f) slots z.names f.result a.blocks r g.entry tables
    same = λ i. query_in (is i) (h.slots_are i) (h.names_are i) (h.result_is i) (h.blocks_are i) (h.tail_is i) g.entry tables

-- ---- the answer

answers_by : (result : Result Bool NoMemory) (P Q : Bool → Type 0) → ((answer : Bool) → P answer → Q answer) → IfOk result P → IfOk result Q
answers_by (Ok answer) P Q go h = go answer h
answers_by (Err e) P Q go h = tt

then_same : {A B C : Type 0} → A ↔ B → B ↔ C → A ↔ C
then_same h k = (λ a. k.0 (h.0 a), λ c. h.1 (k.1 c))

pub answers : (f : Function) (slots : List Slot) (tables : ℕ) (g : Goto) (z : Ssa) (a : Anf) (r : Tail) (q : Query) (x : code.Given) (table : List Expr) (result : Result Bool NoMemory)
    → table ≡ expressions f → ReadsForms f slots z a r q x → GivenOf table x
    → IfOk result (λ answer. (table : List Expr) → GivenOf table x → IsTrue answer ↔ IsTemplate table x g.entry tables)
    → IfOk result (λ answer. IsTrue answer ↔ Templated f slots tables g z a r q)
answers f slots tables g z a r q x table result is h given =
    answers_by result (λ answer. (table : List Expr) → GivenOf table x → IsTrue answer ↔ IsTemplate table x g.entry tables) (λ answer. IsTrue answer ↔ Templated f slots tables g z a r q)
    (λ answer p. then_same (p table given) (template_is_templated f slots tables g z a r q x table is h))
