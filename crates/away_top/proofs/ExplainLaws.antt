-- That what `explain` tells is a refusal at a place of the file, and that it ends as `compile` does.
use Rattle.std.proofs.Common.{◌≡◌, ◌∙◌, ◌⊎◌, ◌<◌, inl, inr, refl, ap, subst, sym, ℕ, zero, suc, Bool, true, false, List, [], ◌∷◌, Some, None, get_or, length, codes, arith}
use Rattle.std.specs.Prelude.{Option}
use Rattle.std.proofs.lemmas.Option.{get_or_from_slice_get, slice_get_within}
use Rattle.std.proofs.lemmas.List.Elements.{All-append, All-nil}
use Rattle.away_grammar.specs.FunctionFile.{LexesFile}
use Rattle.away_grammar.specs.OutsideWords.{first_outside, outside_word, stands_outside}
use Rattle.away_grammar.specs.Tokens.{Lexeme}
use Rattle.away_lex.specs.declared.refusals.LimitKind.{LimitKind}
use Rattle.away_lex.specs.declared.refusals.LimitKind.TheVariants as limit
use Rattle.away_lex.specs.declared.refusals.ReadRefusal.{ReadRefusal}
use Rattle.away_lex.specs.declared.refusals.ReadRefusal.TheVariants as read
use Rattle.away_names.specs.declared.rule.Rule.{Rule}
use Rattle.away_names.specs.Rules.{number}
use Rattle.away_trees.specs.declared.schemas.Schema.{Schema}
use Rattle.away_trees.specs.declared.statements.Function.{Function}
use Rattle.away_types.specs.declared.finding.Finding.{Finding}
use Rattle.away_types.specs.FunctionChecks.{head_note}
use Rattle.broken_names.specs.NameTokens.{CulpritsAreTokens}
use Rattle.function_places.specs.declared.stuck_places.Stuck.{Stuck}
use Rattle.function_places.specs.Hints.{AreInLine}
use Rattle.function_places.specs.LimitPlaces.{IsElementPlace, IsLimitPlace}
use Rattle.function_places.specs.NodePlaces.{IsNodePlace}
use Rattle.function_places.specs.StuckPlaces.{IsStuckPlace, StandsAt}
use Rattle.function_places.specs.TokenPlaces.{BeginsIn, IsNamePlace, IsToken, IsWordPlace}
use Rattle.plsql_parse.specs.Refusals as functions
use Rattle.query_places.specs.QueryPlaces.{BeginsQuery}
use Rattle.refusal_reasons.specs.Laws.{AreLines}
use Rattle.refusal_reasons.specs.Reasons.{read_reason}
use Rattle.text_places.specs.Lines.{IsInLine}
use Rattle.away_top.specs.declared.compile.Wanted.TheVariants.{Query}
use Rattle.away_top.specs.declared.status.Status.{Status}
use Rattle.away_top.specs.CompileCourse.{Compiles, compile_course}
use Rattle.away_top.specs.Course.{AtFile, Course, Outcome, RefusedBy, ends, judges, reads}
use Rattle.away_top.specs.ExplainCourse.{EndsOn}
use Rattle.away_top.specs.Explanations.{Explains, IsBroken, IsExplanation, IsFindingPlace, IsFoundAt, IsHinted, IsPlace, IsReason, IsUnread, RefusedAt}
use Rattle.away_top.specs.Files.{callable_of}
use Rattle.away_top.specs.Lines.{numbered_rule, refusal}
use Rattle.away_top.specs.QueryExplainCourse.{EndsAsCompile, EndsOnFile, explain_course, explained_course}
use Rattle.away_top.specs.Refusals.{IsFunction, IsSchema, RefusesFunction, RefusesSchema}

-- ---- tokens

found_here : (t : Lexeme) (ts : List Lexeme) (w : Lexeme) (offset : ℕ) → Some t ≡ Some w → offset ≡ w.start → BeginsIn (t ∷ ts) offset
found_here t ts w offset same is =
    let e : w ≡ t = cc in
    record { before = []; here = t; after = ts; whole = refl; offset_is = subst (λ (x : Lexeme). offset ≡ x.start) e is }

found_later : (t : Lexeme) (ts : List Lexeme) (offset : ℕ) → BeginsIn ts offset → BeginsIn (t ∷ ts) offset
found_later t ts offset b = record { before = t ∷ b.before; here = b.here; after = b.after; whole = ap (λ l. t ∷ l) b.whole; offset_is = b.offset_is }

chosen : (t : Lexeme) (ts : List Lexeme) (w : Lexeme) (offset : ℕ) (b : Bool) → stands_outside t ts ≡ b → (first_outside ts ≡ Some w → BeginsIn ts offset) → first_outside (t ∷ ts) ≡ Some w → offset ≡ w.start → BeginsIn (t ∷ ts) offset
chosen t ts w offset true stands later first is = found_here t ts w offset (sym (rw stands refl) ∙ first) is
chosen t ts w offset false stands later first is = found_later t ts offset (later (sym (rw stands refl) ∙ first))

first_begins : (ts : List Lexeme) (w : Lexeme) (offset : ℕ) → first_outside ts ≡ Some w → offset ≡ w.start → BeginsIn ts offset
first_begins [] w offset first is = absurd (let wrong : None ≡ Some w = first in cc)
first_begins (t ∷ ts) w offset first is = chosen t ts w offset (stands_outside t ts) refl (λ h. first_begins ts w offset h is) first is

word_begins : (outer inner : List Lexeme) (o : Option Lexeme) (w : Lexeme) (offset : ℕ) → first_outside outer ≡ o → outside_word outer inner ≡ Some w → offset ≡ w.start → BeginsIn outer offset ⊎ BeginsIn inner offset
word_begins outer inner (Some t) w offset first is at = inl (first_begins outer w offset (first ∙ sym (rw first refl) ∙ is) at)
word_begins outer inner None w offset first is at = inr (first_begins inner w offset (sym (rw first refl) ∙ is) at)

word_token : (bytes : List ℕ) (offset : ℕ) → IsWordPlace bytes offset → IsToken bytes offset
word_token bytes offset w = record { outer = w.outer; inner = w.inner; lexes = w.lexes; begins = word_begins w.outer w.inner (first_outside w.outer) w.starts.0 offset refl w.starts.1 w.starts.2 }

name_token : (bytes : List ℕ) (offset : ℕ) → IsNamePlace bytes offset → IsToken bytes offset
name_token bytes offset n =
    record { outer = n.outer; inner = n.inner; lexes = n.lexes; begins = inl (record { before = n.starts.before; here = n.starts.here; after = n.starts.after; whole = n.starts.whole; offset_is = n.starts.offset_is }) }

node_token : (bytes : List ℕ) (node offset : ℕ) → IsNodePlace bytes node offset → IsToken bytes offset
node_token bytes node offset n =
    record { outer = n.outer; inner = n.inner; lexes = n.lexes; begins = inr (record { before = n.place.before; here = n.place.here; after = n.place.after; whole = n.place.list_is; offset_is = n.place.offset_is }) }

element_token : (bytes : List ℕ) (params number offset : ℕ) → IsElementPlace bytes params number offset → IsToken bytes offset
element_token bytes params number offset (inl (below, n)) = name_token bytes offset n
element_token bytes params number offset (inr (node, is, n)) = node_token bytes node offset n

of_list : (list : List Lexeme) (stuck : Stuck) → StandsAt list stuck → BeginsIn list stuck.offset
of_list list stuck s = record { before = s.before; here = s.here; after = s.after; whole = s.whole; offset_is = s.offset_is }

stuck_token : (bytes : List ℕ) (stuck : Stuck) → IsStuckPlace bytes stuck → IsToken bytes stuck.offset
stuck_token bytes stuck s = record {
  outer = s.outer;
  inner = s.inner;
  lexes = s.lexes;
  begins = elim s.stands [
    | inl out ↦ inl (of_list s.outer stuck out)
    | inr in_body ↦ inr (of_list s.inner stuck in_body)
  ];
}

at_number : (list : List Lexeme) (n : ℕ) (here : Lexeme) (offset : ℕ) → n < length list → get_or list n here ≡ here → offset ≡ here.start → BeginsIn list offset
at_number [] n here offset lt is at = absurd (omega arith)
at_number (t ∷ ts) zero here offset lt is at = found_here t ts here offset (ap (λ (x : Lexeme). Some x) is) at
at_number (t ∷ ts) (suc n) here offset lt is at = found_later t ts offset (at_number ts n here offset (omega arith) is at)

limit_token : (bytes : List ℕ) (which : LimitKind) (offset : ℕ) → IsLimitPlace bytes which offset → IsToken bytes offset
limit_token bytes limit.Nesting offset n =
    let s = n.starts in
    record {
      outer = n.outer;
      inner = n.inner;
      lexes = n.lexes;
      begins = inr (at_number n.inner s.number s.here offset (slice_get_within n.inner s.number s.here s.stands) (get_or_from_slice_get n.inner s.number s.here s.here s.stands) s.offset_is);
    }
limit_token bytes limit.Nodes offset n = element_token bytes (length n.f.params) n.number offset n.place
limit_token bytes limit.Variables offset n = element_token bytes (length n.f.params) n.number offset n.place
limit_token bytes limit.Loops offset n = element_token bytes (length n.f.params) n.number offset n.place

-- ---- explanations

read_place : (bytes : List ℕ) (refusal : ReadRefusal) (found : Stuck) → functions.Refuses bytes refusal → RefusedAt bytes refusal found → IsPlace bytes found.offset
read_place bytes read.NotText found refuses at = inr (inr at)
read_place bytes (read.Token offset) found refuses at = inr (inl (refuses.1.0, (refuses.1.1.0, subst (λ n. LexesFile bytes refuses.1.0 refuses.1.1.0 (Some n)) (sym at) refuses.1.1.1)))
read_place bytes read.NoTree found refuses (inl stuck) = inl (stuck_token bytes found stuck)
read_place bytes read.NoTree found refuses (inr end) = inr (inr end.0)
read_place bytes (read.Outside word) found refuses at = inl (word_token bytes found.offset at)
read_place bytes (read.Limit which count) found refuses at = inl (limit_token bytes which found.offset at)
read_place bytes read.NoMemory found refuses at = absurd at

finding_token : (bytes : List ℕ) (params : ℕ) (head : Option Rule) (finding : Finding) (offset : ℕ) → IsFindingPlace bytes params head finding offset → IsToken bytes offset
finding_token bytes params head finding offset (inl (is, n)) = name_token bytes offset n
finding_token bytes params head finding offset (inr (other, n)) = element_token bytes params finding.node offset n

found_token : (names : CulpritsAreTokens) (s : Schema) (f : Function) (bytes : List ℕ) (finding : Finding) (offset : ℕ) (reason : List ℕ)
    → IsFoundAt s f bytes finding offset reason → IsToken bytes offset
found_token names s f bytes finding offset reason (inl (is, n)) = names bytes n.written.start n.culprit offset n.written.token
found_token names s f bytes finding offset reason (inr (other, p)) = finding_token bytes (length f.params) (head_note f).least finding offset p.place

found_line : (lines : AreLines) (s : Schema) (f : Function) (bytes : List ℕ) (finding : Finding) (offset : ℕ) (reason : List ℕ)
    → IsFoundAt s f bytes finding offset reason → IsInLine reason
found_line lines s f bytes finding offset reason (inl (is, n)) = n.one_line
found_line lines s f bytes finding offset reason (inr (other, p)) = subst IsInLine (sym p.reason_is) (lines.of_rules finding.rule)

hint_line : (hints : AreInLine) (refusal : ReadRefusal) (ended : Bool) (hint : List ℕ) → IsHinted refusal ended hint → IsInLine hint
hint_line hints read.NotText ended hint is = subst IsInLine (sym is) (All-nil (λ b. ¬ (b ≡ 10)))
hint_line hints (read.Token offset) ended hint is = subst IsInLine (sym is) (All-nil (λ b. ¬ (b ≡ 10)))
hint_line hints read.NoTree ended hint is = hints ended hint is
hint_line hints (read.Outside word) ended hint is = subst IsInLine (sym is) (All-nil (λ b. ¬ (b ≡ 10)))
hint_line hints (read.Limit which count) ended hint is = subst IsInLine (sym is) (All-nil (λ b. ¬ (b ≡ 10)))
hint_line hints read.NoMemory ended hint is = subst IsInLine (sym is) (All-nil (λ b. ¬ (b ≡ 10)))

reason_line : (lines : AreLines) (hints : AreInLine) (refusal : ReadRefusal) (ended : Bool) (reason : List ℕ) → IsReason refusal ended reason → IsInLine reason
reason_line lines hints refusal ended reason r =
    subst IsInLine (sym r.reason_is)
    (All-append (λ b. ¬ (b ≡ 10)) (read_reason refusal ended) r.hint (lines.of_refusals refusal ended) (hint_line hints refusal ended r.hint r.hinted))

module _ (lines : AreLines) (hints : AreInLine) (names : CulpritsAreTokens) (name : List ℕ) (s : Schema) (bytes output : List ℕ) where
  of_unread : IsUnread name bytes output → IsExplanation name s bytes output
  of_unread u = record {
    rule = u.told.rule;
    refuses = inl (u.refusal, u.refuses, u.told.rule_is);
    offset = u.told.found.offset;
    place = read_place bytes u.refusal u.told.found u.refuses u.told.place;
    reason = u.told.reason;
    one_line = reason_line lines hints u.refusal u.told.found.ended u.told.reason u.told.reasoned;
    told = u.told.told;
  }

  of_broken : IsBroken name s bytes output → IsExplanation name s bytes output
  of_broken b = record {
    rule = numbered_rule (number b.finding.rule);
    refuses = inr (b.function, b.reads_as, record { finding = b.finding; first = b.first; rule_is = refl });
    offset = b.told.offset;
    place = inl (found_token names s b.function bytes b.finding b.told.offset b.told.reason b.told.found);
    reason = b.told.reason;
    one_line = found_line lines s b.function bytes b.finding b.told.offset b.told.reason b.told.found;
    told = b.told.told;
  }

  pub explanation_of : Explains name s bytes output → IsExplanation name s bytes output
  explanation_of (inl u) = of_unread u
  explanation_of (inr b) = of_broken b

-- ---- statuses

refuses_so : (name : List ℕ) (s : Schema) (bytes output : List ℕ) → Explains name s bytes output → (rule : List ℕ) × RefusesFunction s bytes rule
refuses_so name s bytes output (inl u) = (u.told.rule, inl (u.refusal, u.refuses, u.told.rule_is))
refuses_so name s bytes output (inr b) = (numbered_rule (number b.finding.rule), inr (b.function, b.reads_as, record { finding = b.finding; first = b.first; rule_is = refl }))

-- a run that ends behind a file ends there with another output too, where what its bytes lead to does
pub file_ends : (name : List ℕ) (limit : ℕ) (Rest Other : List ℕ → List ℕ → Type 0) (o : Option (List ℕ)) (status : Status) (output : List ℕ)
    → ((bytes : List ℕ) → Rest bytes output → (other : List ℕ) × Other bytes other) → AtFile name limit (λ bytes. Rest bytes output) o status output
    → (other : List ℕ) × AtFile name limit (λ bytes. Other bytes other) o status other
file_ends name limit Rest Other None status output so at = (output, at)
file_ends name limit Rest Other (Some bytes) status output so (inl long) = (output, inl long)
file_ends name limit Rest Other (Some bytes) status output so (inr (fits, rest)) = let led = so bytes rest in (led.0, inr (fits, led.1))

module _ (held : List ℕ → Option (List ℕ)) (schema func made : List ℕ) (unlike : (bytes : List ℕ) → held func ≡ Some bytes → ¬ (BeginsQuery bytes)) where
  abbrev made_of : Schema → List ℕ → Course ⊥
  made_of s bytes = judges (RefusedBy func (RefusesFunction s bytes)) (IsFunction s bytes) (λ f. ends (Compiles Query s (callable_of s f.written) made))

  abbrev told_over : List ℕ → Course ⊥
  told_over bytes = judges (RefusedBy schema (RefusesSchema bytes)) (IsSchema bytes) (λ s. explained_course func made s.schema)

  abbrev made_over : List ℕ → Course ⊥
  made_over bytes = judges (RefusedBy schema (RefusesSchema bytes)) (IsSchema bytes) (λ s. reads func 1048576 (made_of s.schema))

  judged_ends : (s : Schema) (bytes : List ℕ) (status : Status) (output : List ℕ) → EndsOn func s bytes made status output → (other : List ℕ) × Outcome held (made_of s bytes) status other
  judged_ends s bytes status output (inl refused) = let r = refuses_so func s bytes output refused.0 in (refusal func r.0, inl (r.0, r.1, (refused.1, refl)))
  judged_ends s bytes status output (inr (f, (forms, compiled, (faults, are, e)))) = (made, inr (f, (record { forms = forms; text = made; is = compiled; output_is = refl }, (e.0, refl))))

  -- at bytes that are held
  bytes_end : (s : Schema) (bytes : List ℕ) (status : Status) (output : List ℕ) → ¬ (BeginsQuery bytes) → EndsOnFile func s bytes made status output
      → (other : List ℕ) × AtFile func 1048576 (λ z. Outcome held (made_of s z) status other) (Some bytes) status other
  bytes_end s bytes status output unlike (inl (begins, so)) = absurd (unlike begins)
  bytes_end s bytes status output unlike (inr (other, inl (long, e))) = (refusal func (codes "LONG"), inl (long, (e.0, refl)))
  bytes_end s bytes status output unlike (inr (other, inr (fits, so))) = let led = judged_ends s bytes status output so in (led.0, inr (fits, led.1))

  -- at what is held
  held_end : (s : Schema) (o : Option (List ℕ)) (status : Status) (output : List ℕ) → ((bytes : List ℕ) → o ≡ Some bytes → ¬ (BeginsQuery bytes))
      → AtFile func 67108864 (λ z. EndsOnFile func s z made status output) o status output → (other : List ℕ) × AtFile func 1048576 (λ z. Outcome held (made_of s z) status other) o status other
  held_end s None status output unlike at = (output, at)
  held_end s (Some bytes) status output unlike (inl (long, e)) = (refusal func (codes "LONG"), inl (omega (arith, long), (e.0, refl)))
  held_end s (Some bytes) status output unlike (inr (fits, so)) = bytes_end s bytes status output (unlike bytes refl) so

  schema_ends : (bytes : List ℕ) (status : Status) (output : List ℕ) → Outcome held (told_over bytes) status output → (other : List ℕ) × Outcome held (made_over bytes) status other
  schema_ends bytes status output (inl refused) = (output, inl refused)
  schema_ends bytes status output (inr (s, rest)) = let led = held_end s.schema (held func) status output unlike rest in (led.0, inr (s, led.1))

  pub ends_so : (status : Status) (output : List ℕ) → Outcome held (explain_course schema func made) status output → (other : List ℕ) × Outcome held (compile_course Query schema func made) status other
  ends_so status output o =
      file_ends schema 67108864 (λ bytes out. Outcome held (told_over bytes) status out) (λ bytes out. Outcome held (made_over bytes) status out) (held schema) status output
      (λ bytes h. schema_ends bytes status output h) o

pub ends_as_compile : EndsAsCompile
ends_as_compile held schema func made status output unlike o = ends_so held schema func made unlike status output o
