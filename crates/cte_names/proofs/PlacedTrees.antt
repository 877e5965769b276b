-- In a function, a tree whose names are resolved and break no rule is clear as a query has it, where what stands for slots is clear.
use Rattle.std.proofs.Common.{◌≡◌, refl, ap, sym, subst, ℕ, Bool, true, false, List, [], ◌++◌, map, length, Option, Some, None}
use Rattle.std.specs.Prelude.{is_some}
use Rattle.std.specs.List.{flat_map}
use Rattle.away_values.specs.declared.operators.ChainOp.{ChainOp}
use Rattle.away_trees.specs.declared.queries.Expr.{Expr}
use Rattle.away_trees.specs.declared.queries.Expr.TheVariants as expr
use Rattle.away_trees.specs.Algebra.{Algebra, expr_of}
use Rattle.away_trees.proofs.Equations as eq
use Rattle.away_names.specs.declared.rule.Rule.TheVariants as rule
use Rattle.away_names.specs.declared.note.Column.{Column}
use Rattle.away_names.specs.Lookups.{Name, Level, Scope, is_kept}
use Rattle.away_names.specs.Naming as n
use Rattle.away_names.specs.Naming.{naming}
use Rattle.away_names.specs.Notes.{joined, breaks, each, held}
use Rattle.away_names.specs.Trees.{named_expr}
use Rattle.elaboration.specs.Marks.{plain_op}
use Rattle.sql_meaning.specs.Reads.{Read, Reads, reading, of_list}
use Rattle.sql_meaning.proofs.Related.{AlikeOption, AlikeLink, AlikeArm, Relation, IsKept, expr_related}
use Rattle.type_soundness.specs.Sorts.{Every}
use Rattle.type_soundness.proofs.CleanNotes.{Clean, clean_parts, not_broken}
use Rattle.function_facts.proofs.TreesInSight.{firsts}
use Rattle.qualified_names.specs.Sight.{own_name, column_name}
use Rattle.qualified_names.specs.Trees.{qualified_expr}
use Rattle.qualified_names.specs.Unambiguous.{value, values, links, arms, maybe, items, keys, from_items, IsClear}
use Rattle.qualified_names.specs.Unambiguous as c
use Rattle.qualified_names.proofs.QualifyingRules as d
use Rattle.cte_names.proofs.Refined.{NameSo, LevelsSo}
use Rattle.cte_names.proofs.Folded.{each_is, each_clean}
use Rattle.cte_names.proofs.Standing.{under, ClearExpr, Fits, Leaves, Allowed, placing, may_write, no_param, name_clear, qualified_clear, known_function}
use Rattle.cte_names.proofs.PlacedParts as part
use Rattle.cte_names.proofs.PlacedSelects as sel
use Rattle.cte_names.proofs.PlacedSelects.{MayStand, may_stand}

item_name_so : (alias : Option Name) (e : Expr) (last : Option Name) (v : Expr) → NameSo (n.shown e last) (own_name v) → NameSo (n.named_as alias e last) (column_name alias v)
unfolding n.named_as column_name
item_name_so None e last v h = h
item_name_so (Some x) e last v h = refl

-- a node that is no column has no name of its own
node : (s : Scope) (w : Expr) → IsClear value s w → own_name (qualified_expr w s.levels) ≡ None → ClearExpr s None w
node s w k e = record { clear = k; named = subst (NameSo None) (sym e) tt }

module _ (q : Scope) (slots : ℕ → Bool) (leaf : ℕ → ℕ → Expr) (leaves : Leaves q slots leaf) where
  abbrev P : Algebra
  P = placing leaf

  abbrev May : List Read → Type 0
  May = Allowed slots

  abbrev pub relation : Relation naming naming naming
  relation = record {
    Exprs = λ x y z. part.Exprs q slots leaf x;
    Sources = λ x y z. sel.Sources q slots leaf x;
    Froms = λ x y z. part.Froms q slots leaf x;
    Items = λ x y z. part.Items q slots leaf x;
    Keys = λ x y z. part.Keys q slots leaf x;
    Queries = λ x y z. sel.Queries q slots leaf x;
    Recursives = λ x y z. Unit {0};
    Selects = λ x y z. part.Selects q slots leaf x;
  }

  by : (d : ℕ) (s : Scope) (own : Option Name) (v w : ℕ → Expr) → v ≡ w → ClearExpr s own (w d) → ClearExpr s own (v d)
  by d s own v w e h = subst (λ (x : ℕ → Expr). ClearExpr s own (x d)) (sym e) h

  -- ---- all steps

  unwritten_not : (e : Expr) → Clean (n.unwritten e).note → ⊥
  unfolding n.unwritten
  unwritten_not e g = not_broken rule.Names g

  module _ (s : Scope) (ms : List Level) (f : Fits q s ms) where
    values_of : (ts : List n.Term) → Every (part.Exprs q slots leaf) ts → Clean (each (λ t. t.judge s) ts).note → May (of_list (length ms) (map (λ e. expr_of reading e) (each (λ t. t.judge s) ts).it))
        → IsClear values (under ms q) (map (λ x. x (length ms)) (map (λ e. expr_of P e) (each (λ t. t.judge s) ts).it))
    values_of ts h g a =
        subst (λ xs. IsClear values (under ms q) (map (λ x. x (length ms)) (map (λ e. expr_of P e) xs))) (sym (each_is (λ t. t.judge s) ts)) (part.values_clear q slots leaf s ms f ts h (each_clean (λ t. t.judge s) ts g) (subst (λ xs. May (of_list (length ms) (map (λ e. expr_of reading e) xs))) (each_is (λ t. t.judge s) ts) a))

    links_of : (ls : List (ChainOp × n.Term)) → Every (λ (l : ChainOp × n.Term). part.Exprs q slots leaf l.1) ls → Clean (each (n.linked s) ls).note → May (flat_map (λ (l : ChainOp × Reads). l.1 (length ms)) (map (λ l. eq.link_of reading l) (each (n.linked s) ls).it))
        → IsClear links (under ms q) (map (λ (l : ChainOp × (ℕ → Expr)). (plain_op l.0, l.1 (length ms))) (map (λ l. eq.link_of P l) (each (n.linked s) ls).it))
    links_of ls h g a =
        subst (λ xs. IsClear links (under ms q) (map (λ (l : ChainOp × (ℕ → Expr)). (plain_op l.0, l.1 (length ms))) (map (λ l. eq.link_of P l) xs))) (sym (each_is (n.linked s) ls)) (part.links_clear q slots leaf s ms f ls h (each_clean (n.linked s) ls g) (subst (λ xs. May (flat_map (λ (l : ChainOp × Reads). l.1 (length ms)) (map (λ l. eq.link_of reading l) xs))) (each_is (n.linked s) ls) a))

    arms_of : (as_ : List (n.Term × n.Term)) → Every (λ (a : n.Term × n.Term). part.Exprs q slots leaf a.0 × part.Exprs q slots leaf a.1) as_ → Clean (each (n.armed s) as_).note → May (flat_map (λ (a : Reads × Reads). a.0 (length ms) ++ a.1 (length ms)) (map (λ a. eq.arm_of reading a) (each (n.armed s) as_).it))
        → IsClear arms (under ms q) (map (λ (a : (ℕ → Expr) × (ℕ → Expr)). (a.0 (length ms), a.1 (length ms))) (map (λ a. eq.arm_of P a) (each (n.armed s) as_).it))
    arms_of as_ h g a =
        subst (λ xs. IsClear arms (under ms q) (map (λ (a : (ℕ → Expr) × (ℕ → Expr)). (a.0 (length ms), a.1 (length ms))) (map (λ a. eq.arm_of P a) xs))) (sym (each_is (n.armed s) as_)) (part.arms_clear q slots leaf s ms f as_ h (each_clean (n.armed s) as_ g) (subst (λ xs. May (flat_map (λ (a : Reads × Reads). a.0 (length ms) ++ a.1 (length ms)) (map (λ a. eq.arm_of reading a) xs))) (each_is (n.armed s) as_) a))

  option : (x y z : Option n.Term) → AlikeOption (λ x y z. part.Exprs q slots leaf x) x y z → sel.MaybeExprs q slots leaf x
  option None None None r = tt
  option (Some x) (Some y) (Some z) r = r
  option _ _ _ r = absurd r

  pub steps : IsKept naming naming naming relation
  unfolding n.shown
  steps = record {
    no_expr = λ s ms f g a. node _ expr.Null c.null (ap own_name (d.null_is _));
    no_query = λ s ms f g a. sel.query_clear q slots leaf s ms f [] tt g a;
    int = λ x s ms f g a. node _ _ (c.cast _ (c.int x)) (ap own_name (d.cast_is (expr.Int x) _ _));
    str = λ t s ms f g a. node _ _ (c.cast _ (c.str t)) (ap own_name (d.cast_is (expr.Str t) _ _));
    bool = λ b s ms f g a. node _ _ (c.cast _ (c.bool b)) (ap own_name (d.cast_is (expr.Bool b) _ _));
    null = λ s ms f g a. node _ expr.Null c.null (ap own_name (d.null_is _));
    named = λ t s ms f g a. name_clear q slots leaf leaves t s ms f g a;
    qualified = λ t u s ms f g a. qualified_clear q slots leaf leaves t u s ms f g;
    slot = λ i s ms f g a. absurd (unwritten_not (expr.Slot i) g);
    column = λ x s ms f g a. absurd (unwritten_not (expr.Column x) g);
    param = λ i t s ms f g a. absurd (no_param s f.in_function g);
    neg = λ x y z k s ms f g a. by (length ms) _ _ _ _ (eq.of_neg P (x.judge s).it) (node _ _ (c.neg (k s ms f g (sel.reads_so q slots leaf (length ms) _ _ (eq.of_neg reading (x.judge s).it) a)).clear) (ap own_name (d.neg_is _ _)));
    neg_small = λ x y z k s ms f g a. by (length ms) _ _ _ _ (eq.of_negsmall P (x.judge s).it) (node _ _ (c.neg (k s ms f g (sel.reads_so q slots leaf (length ms) _ _ (eq.of_negsmall reading (x.judge s).it) a)).clear) (ap own_name (d.neg_is _ _)));
    not = λ x y z k s ms f g a. by (length ms) _ _ _ _ (eq.of_not P (x.judge s).it) (node _ _ (c.not (k s ms f g (sel.reads_so q slots leaf (length ms) _ _ (eq.of_not reading (x.judge s).it) a)).clear) (ap own_name (d.not_is _ _)));
    is = λ x y z test negative k s ms f g a. by (length ms) _ _ _ _ (eq.of_is P (x.judge s).it test negative) (node _ _ (c.is test negative (k s ms f g (sel.reads_so q slots leaf (length ms) _ _ (eq.of_is reading (x.judge s).it test negative) a)).clear) (ap own_name (d.is_is _ _ _ _)));
    chain = λ x y z xs ys zs k r s ms f g a.
        let both = clean_parts (x.judge s).note (each (n.linked s) xs).note g in
        let may = sel.reads_so q slots leaf (length ms) _ _ (eq.of_chain reading (x.judge s).it (each (n.linked s) xs).it) a in
        let u : List Read = expr_of reading (x.judge s).it (length ms) in
        by (length ms) _ _ _ _ (eq.of_chain P (x.judge s).it (each (n.linked s) xs).it)
        (node _ _ (c.chain (k s ms f both.0 (sel.one q slots leaf u _ may)).clear (links_of s ms f xs (firsts (AlikeLink (λ x y z. part.Exprs q slots leaf x)) (λ (l : ChainOp × n.Term). part.Exprs q slots leaf l.1) (λ x y z r. r.2) xs ys zs r) both.1 (sel.two q slots leaf u _ may))) (ap own_name (d.chain_is _ _ _)));
    compare = λ op x₁ x₂ y₁ y₂ z₁ z₂ k₁ k₂ s ms f g a.
        let both = clean_parts (x₁.judge s).note (x₂.judge s).note g in
        let may = sel.reads_so q slots leaf (length ms) _ _ (eq.of_compare reading op (x₁.judge s).it (x₂.judge s).it) a in
        let u : List Read = expr_of reading (x₁.judge s).it (length ms) in
        by (length ms) _ _ _ _ (eq.of_compare P op (x₁.judge s).it (x₂.judge s).it) (node _ _ (c.compare op (k₁ s ms f both.0 (sel.one q slots leaf u _ may)).clear (k₂ s ms f both.1 (sel.two q slots leaf u _ may)).clear) (ap own_name (d.compare_is _ _ _ _)));
    between = λ v x₁ x₂ x₃ y₁ y₂ y₃ z₁ z₂ z₃ k₁ k₂ k₃ s ms f g a.
        let both = clean_parts (x₁.judge s).note (joined (x₂.judge s).note (x₃.judge s).note) g in
        let more = clean_parts (x₂.judge s).note (x₃.judge s).note both.1 in
        let may = sel.reads_so q slots leaf (length ms) _ _ (eq.of_between reading v (x₁.judge s).it (x₂.judge s).it (x₃.judge s).it) a in
        let u : List Read = expr_of reading (x₁.judge s).it (length ms) in
        let w : List Read = expr_of reading (x₂.judge s).it (length ms) in
        by (length ms) _ _ _ _ (eq.of_between P v (x₁.judge s).it (x₂.judge s).it (x₃.judge s).it)
        (node _ _ (c.between v (k₁ s ms f both.0 (sel.one q slots leaf u _ may)).clear (k₂ s ms f more.0 (sel.one q slots leaf w _ (sel.two q slots leaf u _ may))).clear (k₃ s ms f more.1 (sel.two q slots leaf w _ (sel.two q slots leaf u _ may))).clear) (ap own_name (d.between_is _ _ _ _ _)));
    one_of = λ v x y z xs ys zs k r s ms f g a.
        let both = clean_parts (x.judge s).note (each (λ t. t.judge s) xs).note g in
        let may = sel.reads_so q slots leaf (length ms) _ _ (eq.of_oneof reading v (x.judge s).it (each (λ t. t.judge s) xs).it) a in
        let u : List Read = expr_of reading (x.judge s).it (length ms) in
        by (length ms) _ _ _ _ (eq.of_oneof P v (x.judge s).it (each (λ t. t.judge s) xs).it)
        (node _ _ (c.one_of v (k s ms f both.0 (sel.one q slots leaf u _ may)).clear (values_of s ms f xs (firsts (λ x y z. part.Exprs q slots leaf x) (part.Exprs q slots leaf) (λ x y z r. r) xs ys zs r) both.1 (sel.two q slots leaf u _ may))) (ap own_name (d.oneof_is _ _ _ _)));
    cast = λ x y z t k s ms f g a. by (length ms) _ _ _ _ (eq.of_cast P (x.judge s).it t) (node _ _ (c.cast t (k s ms f g (sel.reads_so q slots leaf (length ms) _ _ (eq.of_cast reading (x.judge s).it t) a)).clear) (ap own_name (d.cast_is _ _ _)));
    cases = λ xs ys zs x y z r k s ms f g a.
        let both = clean_parts (each (n.armed s) xs).note (held (λ t. t.judge s) x).note g in
        let may = sel.reads_so q slots leaf (length ms) _ _ (eq.of_cases reading (each (n.armed s) xs).it (held (λ t. t.judge s) x).it) a in
        let u : List Read = flat_map (λ (a : Reads × Reads). a.0 (length ms) ++ a.1 (length ms)) (map (λ a. eq.arm_of reading a) (each (n.armed s) xs).it) in
        by (length ms) _ _ _ _ (eq.of_cases P (each (n.armed s) xs).it (held (λ t. t.judge s) x).it)
        (node _ _ (c.cases (arms_of s ms f xs (firsts (AlikeArm (λ x y z. part.Exprs q slots leaf x)) (λ (a : n.Term × n.Term). part.Exprs q slots leaf a.0 × part.Exprs q slots leaf a.1) (λ x y z r. r) xs ys zs r) both.0 (sel.one q slots leaf u _ may))
        (sel.maybe_clear q slots leaf x (option x y z k) s ms f both.1 (sel.two q slots leaf u _ may))) (ap own_name (d.cases_is _ _ _)));
    call = λ name xs ys zs r s ms f g a.
        let both = clean_parts (n.called s name) (each (λ t. t.judge s) xs).note g in
        by (length ms) _ _ _ _ (eq.of_call P name (each (λ t. t.judge s) xs).it)
        (node _ _ (c.call name (known_function s name both.0) (values_of s ms f xs (firsts (λ x y z. part.Exprs q slots leaf x) (part.Exprs q slots leaf) (λ x y z r. r) xs ys zs r) both.1 (sel.reads_so q slots leaf (length ms) _ _ (eq.of_call reading name (each (λ t. t.judge s) xs).it) a))) (ap own_name (d.call_is _ _ _)));
    count_rows = λ s ms f g a. node _ expr.CountRows c.count_rows (ap own_name (d.countrows_is _));
    scalar = λ x y z k s ms f g a. by (length ms) _ _ _ _ (eq.of_scalar P (x s).it.it) (node _ _ (c.scalar (k s ms f g (sel.reads_so q slots leaf (length ms) _ _ (eq.of_scalar reading (x s).it.it) a)).clear) (ap own_name (d.scalar_is _ _)));
    exists = λ x y z k s ms f g a. by (length ms) _ _ _ _ (eq.of_exists P (x s).it.it) (node _ _ (c.exists (k s ms f g (sel.reads_so q slots leaf (length ms) _ _ (eq.of_exists reading (x s).it.it) a)).clear) (ap own_name (d.exists_is _ _)));
    table = λ name columns alias s level seen ms r f m g a.
        let both = clean_parts (n.written s name) (n.of_table name (s.table name)).note g in
        sel.table_clear q slots leaf name alias columns s seen ms f m (may_write s name f.in_function both.0) (s.table name) refl both.1;
    sub = λ x y z lateral k. sel.sub_clear q slots leaf x lateral k;
    from = λ x y z alias columns k s level seen ms r f g a.
        let both = clean_parts (n.part_note s alias columns) (x columns s level).note g in
        (refl, k columns alias s level seen ms r f (may_stand s alias columns f.in_function both.0) both.1 a);
    item = λ x y z alias k s ms f g a.
        let h = k s ms f (clean_parts (n.maybe_written s alias) (x.judge s).note g).1 a in
        record {
          clear = λ rest r. c.one_item alias h.clear r;
          named = subst (λ (t : Column). NameSo (n.named_as alias (x.judge s).it x.last) t.name) (sym (d.item_rule _ _)) (item_name_so alias (x.judge s).it x.last _ h.named);
        };
    key = λ x y z descending k aliases s ms f g a.
        let h = k s ms f (clean_parts (breaks rule.Ambiguity (n.is_alias aliases x.alone)) (x.judge s).note g).1 a in
        record { clear = λ rest r. c.one_key descending h.clear r };
    select = λ l₁ l₂ l₃ f₁ f₂ f₃ w₁ w₂ w₃ o₁ o₂ o₃ m₁ m₂ m₃ lr fr wr kr mr.
        sel.listing_clear q slots leaf l₁ f₁ w₁ o₁ m₁ (firsts (λ x y z. part.Items q slots leaf x) (part.Items q slots leaf) (λ x y z r. r) l₁ l₂ l₃ lr) (firsts (λ x y z. part.Froms q slots leaf x) (part.Froms q slots leaf) (λ x y z r. r) f₁ f₂ f₃ fr)
        (option w₁ w₂ w₃ wr) (firsts (λ x y z. part.Keys q slots leaf x) (part.Keys q slots leaf) (λ x y z r. r) o₁ o₂ o₃ kr) (option m₁ m₂ m₃ mr);
    recursive = λ name columns xs ys zs x y z r k. tt;
    query = λ x y z xs ys zs h r s ms f g a.
        sel.query_clear q slots leaf s ms f xs (firsts (λ x y z. part.Selects q slots leaf x) (part.Selects q slots leaf) (λ x y z r. r) xs ys zs r) (clean_parts (breaks rule.Types (is_some x)) (n.united xs s).note g).1 a;
  }

  -- an expression under no select of the function, and perhaps under some of the query's own where nothing is in sight
  pub expr_clear : (e : Expr) (s : Scope) (ms : List Level) → s.in_function ≡ true → ((x : Name) → is_kept x ≡ false → q.table x ≡ s.table x) → s.levels ≡ [] → LevelsSo [] ms → Clean (named_expr e s).note
      → Allowed slots (expr_of reading (named_expr e s).it (length ms)) → IsClear value (under ms q) (expr_of P (named_expr e s).it (length ms))
  unfolding named_expr
  expr_clear e s ms h tables l so g a =
      (expr_related naming naming naming relation steps e s ms (record { in_function = h; tables = tables; so = subst (λ ls. LevelsSo ls ms) (sym l) so }) g a).clear
