-- Over objects in memory `check` accepts what `certify` wrote.
use Rattle.std.proofs.Common.{◌≡◌, ◌≤◌, ◌++◌, inl, inr, refl, ap, sym, subst, ◌∙◌, ℕ, suc, List, [], ◌∷◌, length}
use Rattle.std.specs.Prelude.{Ok, Some}
use Rattle.away_grammar.specs.Texts.{ReadsQuery}
use Rattle.away_trees.specs.declared.queries.Query.{Query}
use Rattle.away_trees.specs.declared.schemas.Schema.{Schema}
use Rattle.away_trees.specs.declared.statements.Function.{Function}
use Rattle.away_types.specs.CheckedQueries.{resolved_query}
use Rattle.away_types.specs.FunctionChecks.{resolved_function, slots_of}
use Rattle.away_types.specs.declared.slots.Slot.{Slot}
use Rattle.cert_json.specs.Certificates.{Reads, cert_in}
use Rattle.cert_json.specs.Lines.{IsLine}
use Rattle.cert_json.specs.Forms.{Cert}
use Rattle.equivalence.specs.Accepted.{AcceptedForms, Holds}
use Rattle.equivalence.specs.declared.relation.Relation.{Relation}
use Rattle.equivalence.specs.declared.relation.Relation.TheVariants.{Lowered, Named, Called, Merged, Columned, Templated}
use Rattle.plsql_parse.proofs.OneFile.{one_function}
use Rattle.sql_text.proofs.OneTree.{one_text}
use Rattle.sql_text.specs.Refusals.{MayBeRead}
use Rattle.stage_check.specs.declared.verdict.Verdict.{Verdict}
use Rattle.stage_check.specs.declared.verdict.Verdict.TheVariants.{Accepted, Fails}
use Rattle.text_laws.proofs.Judging.{one_schema}
use Rattle.away_top.specs.declared.compile.Wanted.TheVariants.{Certificate}
use Rattle.away_top.specs.declared.status.Status.{Status}
use Rattle.away_top.specs.CheckCourse.{verdict_line, verdict_status}
use Rattle.away_top.specs.Certificates.{IsCert}
use Rattle.away_top.specs.InMemory.{AcceptedIn, HasVerdict, Judged, MayCheck}
use Rattle.away_top.specs.MemoryFiles.{HeldFiles, held_at}
use Rattle.away_top.specs.MemorySink.{RoomySink}
use Rattle.away_top.specs.Refusals.{IsQuery}
use Rattle.away_top.specs.Translation.{IsTranslation}

-- ---- a line, and what stands behind it

behind_first : (b : ℕ) (bs : List ℕ) → IsLine (b ∷ bs) → IsLine bs
behind_first b bs line = λ i x at. line (suc i) x at

one_line : (a b c d : List ℕ) → IsLine a → IsLine c → a ++ (10 ∷ b) ≡ c ++ (10 ∷ d) → (a ≡ c) × (b ≡ d)
one_line [] b [] d left right e = (refl, cc)
one_line [] b (y ∷ c) d left right e = absurd (right 0 y refl (let same : 10 ≡ y = cc in sym same))
one_line (x ∷ a) b [] d left right e = absurd (left 0 x refl (let same : x ≡ 10 = cc in same))
one_line (x ∷ a) b (y ∷ c) d left right e =
    let heads : x ≡ y = cc in
    let tails : a ++ (10 ∷ b) ≡ c ++ (10 ∷ d) = cc in
    let rest = one_line a b c d (behind_first x a left) (behind_first y c right) tails in
    (ap (λ z. z ∷ a) heads ∙ ap (λ zs. y ∷ zs) rest.0, rest.1)

-- what stands behind the same bytes
pub same_end : (a b c : List ℕ) → a ++ b ≡ a ++ c → b ≡ c
same_end [] b c e = e
same_end (x ∷ a) b c e = same_end a b c (let tails : a ++ b ≡ a ++ c = cc in tails)

-- ---- one reading

one_cert : (bytes : List ℕ) (c d : Cert) → Reads bytes c → Reads bytes d → c ≡ d
one_cert bytes c d (value, is, gives) (other, is_other, gives_other) =
    let same : value ≡ other = (let first = is.1 in let second = is_other.1 in cc) in
    let here : cert_in value ≡ Ok d = subst (λ v. cert_in v ≡ Ok d) (sym same) gives_other in
    cc

-- ---- the verdict

all_of : (s t : Schema) (f g : Function) (q r : Query) (c d : Cert) → s ≡ t → f ≡ g → q ≡ r → c ≡ d
    → AcceptedForms s (resolved_function s f) (slots_of s f) c (resolved_query s q) → AcceptedForms t (resolved_function t g) (slots_of t g) d (resolved_query t r)
all_of s t f g q r c d schemas functions queries certs h =
    subst (λ t. AcceptedForms t (resolved_function t g) (slots_of t g) d (resolved_query t r)) schemas
    (subst (λ g. AcceptedForms s (resolved_function s g) (slots_of s g) d (resolved_query s r)) functions
    (subst (λ r. AcceptedForms s (resolved_function s f) (slots_of s f) d (resolved_query s r)) queries
    (subst (λ d. AcceptedForms s (resolved_function s f) (slots_of s f) d (resolved_query s q)) certs h)))

each_holds : {s : Schema} {f : Function} {slots : List Slot} {forms : Cert} {q : Query} (r : Relation) → AcceptedForms s f slots forms q → Holds s f slots forms q r
each_holds Lowered h = h.lowered
each_holds Named h = h.named
each_holds Called h = h.called
each_holds Merged h = h.merged
each_holds Columned h = h.columned
each_holds Templated h = h.templated

module _ (tables function line text : List ℕ) (t : IsTranslation Certificate tables function (line ++ (10 ∷ text))) (is_line : IsLine line) where
  split : (line ≡ t.output_is.0) × (text ≡ t.text)
  split = one_line line text t.output_is.0 t.text is_line t.output_is.2 t.output_is.3

  -- the text reads as the query that was compiled
  asked : IsQuery t.tables.schema text
  asked = record {
    written = t.query;
    reads_as = record { may_be_read = subst MayBeRead (sym split.1) t.compiled.may_be_read; reads = subst (λ z. ReadsQuery z t.query) (sym split.1) t.compiled.reads };
    unbroken = t.compiled.unbroken;
  }

  certificate : IsCert line
  certificate = record { cert = t.forms; reads_as = subst (λ l. Reads l t.forms) (sym split.0) t.output_is.1 }

  -- what was written fits
  pub fits : (m : HeldFiles) (schema func query cert : List ℕ) → held_at m.held schema ≡ Some tables → held_at m.held func ≡ Some function → held_at m.held query ≡ Some text
      → held_at m.held cert ≡ Some line → length tables ≤ 67108864 → length function ≤ 1048576 → length text ≤ 67108864 → length line ≤ 67108864 → m.fails ≡ []
      → MayCheck m schema func query cert tables function text line
  fits m schema func query cert holds_schema holds_function holds_query holds_cert short_schema short_function short_query short_cert no_failure = record {
    holds_schema = holds_schema;
    holds_function = holds_function;
    holds_query = holds_query;
    holds_cert = holds_cert;
    fit_schema = record { short = short_schema; is = t.tables };
    fit_function = record { short = short_function; is = t.function };
    fit_query = record { short = short_query; is = asked };
    fit_cert = record { short = short_cert; is = certificate };
    no_failure = no_failure;
  }

  good : (v : Verdict) → HasVerdict tables function text line v → v ≡ Accepted
  good Accepted h = refl
  good (Fails r) h =
      let certs = one_cert line t.forms h.certificate.cert (subst (λ l. Reads l t.forms) (sym split.0) t.output_is.1) h.certificate.reads_as in
      let queries = one_text t.compiled.reads (subst (λ z. ReadsQuery z h.query.written) split.1 h.query.reads_as.reads) in
      let here = all_of t.tables.schema h.schema.schema t.function.written h.called.written t.query h.query.written t.forms h.certificate.cert
      (one_schema t.tables.reads_as.reads h.schema.reads_as.reads) (one_function t.function.reads_as.reads h.called.reads_as.reads) queries certs t.compiled.accepted in
      absurd (h.verdict.judges.1 (each_holds r here))

  pub accepted : (before after : RoomySink) (result : Status) → Judged before after result tables function text line → AcceptedIn before after result
  accepted before after result (inl wants) = inl wants
  accepted before after result (inr (v, h, told)) =
      let is = good v h in
      inr (λ fits.
      let so = told (subst (λ v. length (verdict_line v) ≤ before.room) (sym is) fits) in
      record { status_is = so.status_is ∙ ap verdict_status is; bytes_are = so.bytes_are ∙ ap (λ v. before.bytes ++ verdict_line v) is })
