-- What reading from the first event to the last tells.
use Rattle.std.proofs.Common.{◌≡◌, ℕ, ◌-◌, ◌≤◌, List, [], length, drop, Option, Some, None, sym, ap, ◌∙◌, arith}
use Rattle.std.proofs.lemmas.List.{length-drop}
use Rattle.std.proofs.lemmas.Option.{same_Some}
use Rattle.away_trees.specs.declared.queries.Expr.{Expr}
use Rattle.call_forms.specs.Forms.{label_of}
use Rattle.call_forms.specs.Template.{query_of}
use Rattle.cte_reads.specs.Puts.{query_put}
use Rattle.cte_reads.specs.Read.{left_at, Reads, ReadsWhere}
use Rattle.cte_reads.proofs.ListPlaces.{drop_past}
use Rattle.cte_reads.proofs.OneByOneWhere.{reads_then_where, where_then_reads, as_where}
use Rattle.cte_check.specs.Walks.{anf_of, types_in}
use Rattle.cte_check.specs.Whole.{before_put, behind_put, BranchesRead, HasBranches, IsTemplate}
use Rattle.cte_check.specs.declared.body.Given as code
use Rattle.cte_check.proofs.LabelPlaces.{not_among, among}
use Rattle.cte_check.proofs.WholeEvents.{query_events}

module _ (table : List Expr) (g : code.Given) (start tables : ℕ) where
  -- the whole query is read, where each label has its branch
  abbrev pub QueryRead : Option ℕ → Type 0
  QueryRead to = ReadsWhere (HasBranches table g) (query_put (query_of table (types_in g) g.result (anf_of g) g.tail.now start tables)) g.events.now (Some 0) to

  pub query_read : (label : ℕ) (one two to : Option ℕ) → label_of g.tail.now start ≡ Some label
      → Reads (before_put g start label tables) g.events.now (Some 0) one → BranchesRead table g one two
      → Reads (behind_put g tables) g.events.now two to → QueryRead to
  query_read label one two to e before branches behind =
      as_where (λ h. h, λ h. h) (λ h rest. query_events table g start label tables e rest) (reads_then_where before (where_then_reads branches behind))

  -- no label
  pub no_entry : label_of g.tail.now start ≡ None → IsTemplate table g start tables → ⊥
  no_entry e t = not_among 0 start g.tail.now.labels e t.entry

  -- another event somewhere
  pub nowhere_read : (to : Option ℕ) → to ≡ None → QueryRead to → IsTemplate table g start tables → ⊥
  nowhere_read to e h t =
      let q : left_at g.events.now to ≡ Some [] = (h.told []).0 (t.trees, ap Some t.events) in
      let none : left_at g.events.now None ≡ Some [] = ap (left_at g.events.now) (sym e) ∙ q in
      absurd (cc)

  pub whole_read : (label : ℕ) (to : Option ℕ) (end : ℕ) → label_of g.tail.now start ≡ Some label → to ≡ Some end → QueryRead to
      → length g.events.now ≤ end → IsTemplate table g start tables
  whole_read label to end entry e h le =
      let at : left_at g.events.now to ≡ Some [] = ap (left_at g.events.now) e ∙ ap Some (drop_past g.events.now end le) in
      let both = (h.told []).1 at in
      record { entry = among start label g.tail.now.labels entry; trees = both.0; events = same_Some g.events.now _ both.1 }

  pub read_whole : (to : Option ℕ) (end : ℕ) → to ≡ Some end → QueryRead to → IsTemplate table g start tables → length g.events.now ≤ end
  read_whole to end e h t =
      let q : left_at g.events.now (Some end) ≡ Some [] = ap (left_at g.events.now) (sym e) ∙ (h.told []).0 (t.trees, ap Some t.events) in
      let none : drop end g.events.now ≡ [] = same_Some (drop end g.events.now) [] q in
      let left : length g.events.now - end ≡ 0 = sym (length-drop end g.events.now) ∙ ap length none in
      omega (arith, left)
