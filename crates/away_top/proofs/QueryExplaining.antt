-- What the parts of the code of `explain` make of the bytes of a file that begins a query.
use Rattle.std.proofs.Common.{◌≡◌, inl, inr, subst, ℕ, List, length}
use Rattle.std.specs.Prelude.{Some}
use Rattle.away_grammar.specs.Texts.{ReadsQuery}
use Rattle.away_lex.specs.declared.refusals.ReadRefusal.{ReadRefusal}
use Rattle.away_names.specs.declared.rule.Rule.{Rule}
use Rattle.away_names.specs.Rules.{number}
use Rattle.away_trees.specs.declared.queries.Query.{Query}
use Rattle.away_trees.specs.declared.schemas.Schema.{Schema}
use Rattle.away_types.specs.declared.checked_rows.CheckedRows.{CheckedRows}
use Rattle.away_types.specs.CheckedRows.{IsCheckedRows, rows_judged, rows_note}
use Rattle.query_places.specs.declared.stops.Stop.{Stop}
use Rattle.query_places.specs.QueryPlaces.{IsFirstToken}
use Rattle.refusal_reasons.specs.Reasons.{query_reason, rule_reason}
use Rattle.sql_text.specs.Refusals as texts
use Rattle.away_top.specs.declared.status.Status.TheVariants.{Done, Refused}
use Rattle.away_top.specs.Course.{Exactly}
use Rattle.away_top.specs.ExplainCourse.{count_lines}
use Rattle.away_top.specs.Explanations.{IsTold}
use Rattle.away_top.specs.Lines.{numbered_rule}
use Rattle.away_top.specs.QueryExplainCourse.{EndsOnQuery, query_counts}
use Rattle.away_top.specs.QueryExplanations.{IsQueryReadTold, IsRuleTold, QueryRefusedAt}
use Rattle.away_top.specs.Refusals.{IsRule, ReadsAsQuery}
use Rattle.away_top.specs.Runs.{End, wants_memory, ended, goes_on, IsEnd}

-- ---- a file that isn't read

module _ (name bytes : List ℕ) (refusal : ReadRefusal) where
  -- the three lines tell the reader's refusal
  pub query_read_told : (found : Stop) (rule reason : List ℕ) (end : End ⊥) → QueryRefusedAt bytes refusal found → IsRule refusal rule → reason ≡ query_reason refusal found.ended
      → IsEnd (λ status output. IsTold name bytes found.offset rule reason output × (status ≡ Refused)) end
      → IsEnd (λ status output. IsQueryReadTold name bytes refusal output × (status ≡ Refused)) end
  query_read_told found rule reason wants_memory place is why h = tt
  query_read_told found rule reason (ended status output) place is why h =
      (record { rule = rule; rule_is = is; found = found; place = place; told = subst (λ r. IsTold name bytes found.offset rule r output) why h.0 }, h.1)
  query_read_told found rule reason (goes_on never) place is why h = absurd never

  pub query_unread_so : (s : Schema) (end : End ⊥) → texts.Refuses (ReadsQuery bytes) bytes refusal → IsEnd (λ status output. IsQueryReadTold name bytes refusal output × (status ≡ Refused)) end
      → IsEnd (EndsOnQuery name s bytes) end
  query_unread_so s wants_memory refuses h = tt
  query_unread_so s (ended status output) refuses h = inl (inl (record { refusal = refusal; refuses = refuses; told = h.0 }), h.1)
  query_unread_so s (goes_on never) refuses h = absurd never

-- ---- a query that is read

-- the three lines tell the rule
pub rule_told : (name bytes : List ℕ) (rule : Rule) (offset : ℕ) (text reason : List ℕ) (end : End ⊥) → IsFirstToken bytes offset → text ≡ numbered_rule (number rule) → reason ≡ rule_reason rule
    → IsEnd (λ status output. IsTold name bytes offset text reason output × (status ≡ Refused)) end → IsEnd (λ status output. IsRuleTold name bytes rule output × (status ≡ Refused)) end
rule_told name bytes rule offset text reason wants_memory place is why h = tt
rule_told name bytes rule offset text reason (ended status output) place is why h =
    (record { offset = offset; place = place; told = subst (λ u. IsTold name bytes offset u (rule_reason rule) output) is (subst (λ r. IsTold name bytes offset text r output) why h.0) }, h.1)
rule_told name bytes rule offset text reason (goes_on never) place is why h = absurd never

module _ (name : List ℕ) (s : Schema) (bytes : List ℕ) (q : Query) (reads : ReadsAsQuery bytes q) where
  pub query_broken_so : (rule : Rule) (end : End ⊥) → (rows_note s q).least ≡ Some rule → IsEnd (λ status output. IsRuleTold name bytes rule output × (status ≡ Refused)) end
      → IsEnd (EndsOnQuery name s bytes) end
  query_broken_so rule wants_memory least h = tt
  query_broken_so rule (ended status output) least h = inl (inr (record { query = q; reads_as = reads; broken = rule; least = least; told = h.0 }), h.1)
  query_broken_so rule (goes_on never) least h = absurd never

  pub query_counted_so : (checked : CheckedRows) (end : End ⊥) → IsCheckedRows s q checked.query checked.params checked.columns
      → IsEnd (Exactly Done (count_lines (query_counts (length checked.params) (length checked.columns)))) end → IsEnd (EndsOnQuery name s bytes) end
  query_counted_so checked wants_memory is h = tt
  query_counted_so checked (ended status output) is h =
      let params = subst (λ l. Exactly Done (count_lines (query_counts (length l) (length checked.columns))) status output) is.params_are h in
      let both = subst (λ l. Exactly Done (count_lines (query_counts (length (rows_judged s q).params) (length l))) status output) is.columns_are params in
      inr (record { written = q; reads_as = reads; unbroken = is.unbroken }, both)
  query_counted_so checked (goes_on never) is h = absurd never
