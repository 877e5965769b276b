-- That what `explain` tells of a file that begins a query is a refusal at a token of it, and that `rows` is refused so too.
use Rattle.std.proofs.Common.{◌≡◌, ◌⊎◌, inl, inr, refl, ℕ, List, Some, None}
use Rattle.std.specs.Prelude.{Option}
use Rattle.away_lex.specs.declared.refusals.ReadRefusal.{ReadRefusal}
use Rattle.away_lex.specs.declared.refusals.ReadRefusal.TheVariants as read
use Rattle.away_names.specs.Rules.{number}
use Rattle.away_trees.specs.declared.schemas.Schema.{Schema}
use Rattle.query_places.specs.declared.stops.Stop.{Stop}
use Rattle.query_places.specs.QueryPlaceLaws.{PlacesAreTokens}
use Rattle.query_places.specs.QueryPlaces.{BeginsQuery, IsQueryToken}
use Rattle.refusal_reasons.specs.Laws.{AreLines}
use Rattle.refusal_reasons.specs.Reasons.{query_reason, rule_reason}
use Rattle.away_top.specs.declared.over_tables.program.Runnable.TheVariants as runnable
use Rattle.away_top.specs.declared.status.Status.TheVariants.{Done, Refused}
use Rattle.away_top.specs.Course.{AtFile, Course, Outcome, RefusedBy, judges}
use Rattle.away_top.specs.Lines.{numbered_rule, refusal}
use Rattle.away_top.specs.QueryExplainCourse.{EndsOnFile, EndsOnQuery, RefusesAsRows, explain_course, explained_course}
use Rattle.away_top.specs.QueryExplanations.{ExplainsQuery, IsQueryBroken, IsQueryExplanation, IsQueryUnread, QueryRefusedAt}
use Rattle.away_top.specs.Refusals.{IsSchema, RefusesRowQuery, RefusesSchema}
use Rattle.away_top.specs.RunCourse.{with_bound, with_schema}
use Rattle.away_top.proofs.ExplainLaws.{file_ends}

-- ---- explanations

module _ (name bytes output : List ℕ) (s : Schema) (lines : AreLines) (tokens : PlacesAreTokens) where
  read_place : (refusal : ReadRefusal) (found : Stop) → QueryRefusedAt bytes refusal found → IsQueryToken bytes found.offset
  read_place read.NotText found at = absurd at
  read_place (read.Token offset) found at = absurd at
  read_place read.NoTree found at = tokens.stopped bytes found at
  read_place (read.Outside word) found at = absurd at
  read_place (read.Limit which count) found at = tokens.deep bytes found.offset at
  read_place read.NoMemory found at = absurd at

  of_unread : IsQueryUnread name bytes output → IsQueryExplanation name s bytes output
  of_unread u = record {
    rule = u.told.rule;
    refuses = inl (u.refusal, u.refuses, u.told.rule_is);
    offset = u.told.found.offset;
    place = read_place u.refusal u.told.found u.told.place;
    reason = query_reason u.refusal u.told.found.ended;
    one_line = lines.of_queries u.refusal u.told.found.ended;
    told = u.told.told;
  }

  of_broken : IsQueryBroken name s bytes output → IsQueryExplanation name s bytes output
  of_broken b = record {
    rule = numbered_rule (number b.broken);
    refuses = inr (b.query, b.reads_as, record { broken = b.broken; least = b.least; rule_is = refl });
    offset = b.told.offset;
    place = tokens.first bytes b.told.offset b.told.place;
    reason = rule_reason b.broken;
    one_line = lines.of_rules b.broken;
    told = b.told.told;
  }

  pub query_explanation_of : ExplainsQuery name s bytes output → IsQueryExplanation name s bytes output
  query_explanation_of (inl u) = of_unread u
  query_explanation_of (inr b) = of_broken b

-- ---- rows

refuses_so : (name : List ℕ) (s : Schema) (bytes output : List ℕ) → ExplainsQuery name s bytes output → (rule : List ℕ) × RefusesRowQuery s bytes rule
refuses_so name s bytes output (inl u) = (u.told.rule, inl (u.refusal, u.refuses, u.told.rule_is))
refuses_so name s bytes output (inr b) = (numbered_rule (number b.broken), inr (b.query, b.reads_as, record { broken = b.broken; least = b.least; rule_is = refl }))

module _ (held : List ℕ → Option (List ℕ)) (schema name made : List ℕ) (begins : (bytes : List ℕ) → held name ≡ Some bytes → BeginsQuery bytes) (bound : ℕ) (dir : List ℕ) (args : List (List ℕ)) where
  abbrev told_over : List ℕ → Course ⊥
  told_over bytes = judges (RefusedBy schema (RefusesSchema bytes)) (IsSchema bytes) (λ s. explained_course name made s.schema)

  abbrev asked_over : List ℕ → Course ⊥
  asked_over bytes = judges (RefusedBy schema (RefusesSchema bytes)) (IsSchema bytes) (λ s. with_schema runnable.Rows name dir args bound s.schema)

  query_end : (s : Schema) (bytes output : List ℕ) → EndsOnQuery name s bytes Refused output → (other : List ℕ) × RefusedBy name (RefusesRowQuery s bytes) Refused other
  query_end s bytes output (inl refused) = let r = refuses_so name s bytes output refused.0 in (refusal name r.0, (r.0, r.1, (refl, refl)))
  query_end s bytes output (inr (q, told)) = absurd (let wrong : Refused ≡ Done = told.0 in cc)

  bytes_end : (s : Schema) (bytes output : List ℕ) → BeginsQuery bytes → EndsOnFile name s bytes made Refused output → (other : List ℕ) × RefusedBy name (RefusesRowQuery s bytes) Refused other
  bytes_end s bytes output begins (inl (same, so)) = query_end s bytes output so
  bytes_end s bytes output begins (inr (unlike, so)) = absurd (unlike begins)

  -- at what is held
  held_end : (s : Schema) (o : Option (List ℕ)) (output : List ℕ) → ((bytes : List ℕ) → o ≡ Some bytes → BeginsQuery bytes)
      → AtFile name 67108864 (λ z. EndsOnFile name s z made Refused output) o Refused output
      → (other : List ℕ) × ((More : List ℕ → Type 0) → AtFile name 67108864 (λ z. RefusedBy name (RefusesRowQuery s z) Refused other ⊎ More z) o Refused other)
  held_end s None output begins at = (output, λ More. at)
  held_end s (Some bytes) output begins (inl long) = (output, λ More. inl long)
  held_end s (Some bytes) output begins (inr (fits, so)) = let led = bytes_end s bytes output (begins bytes refl) so in (led.0, λ More. inr (fits, inl led.1))

  schema_end : (bytes output : List ℕ) → Outcome held (told_over bytes) Refused output → (other : List ℕ) × Outcome held (asked_over bytes) Refused other
  schema_end bytes output (inl refused) = (output, inl refused)
  schema_end bytes output (inr (s, rest)) = let led = held_end s.schema (held name) output begins rest in (led.0, inr (s, led.1 _))

  pub rows_refused : (output : List ℕ) → Outcome held (explain_course schema name made) Refused output
      → (other : List ℕ) × Outcome held (with_bound runnable.Rows schema name dir args bound) Refused other
  rows_refused output o =
      file_ends schema 67108864 (λ bytes out. Outcome held (told_over bytes) Refused out) (λ bytes out. Outcome held (asked_over bytes) Refused out) (held schema) Refused output
      (λ bytes h. schema_end bytes output h) o

pub refuses_as_rows : RefusesAsRows
refuses_as_rows held schema name made output begins o bound dir args = rows_refused held schema name made begins bound dir args output o
