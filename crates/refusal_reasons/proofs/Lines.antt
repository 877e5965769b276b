-- That each text is one line, by computing.
use Rattle.std.proofs.Common.{◌≡◌, ◌==◌, ℕ, Bool, true, false, not, List, [], ◌∷◌, refl, ap, sym, ◌∙◌, Some, None}
use Rattle.std.specs.Prelude.{Option}
use Rattle.std.specs.List.{list_all}
use Rattle.std.proofs.lemmas.Bool.{and_parts}
use Rattle.std.proofs.lemmas.List.Elements.{All-nil, All-cons}
use Rattle.away_lex.specs.declared.refusals.LimitKind.{LimitKind}
use Rattle.away_lex.specs.declared.refusals.LimitKind.TheVariants as limit
use Rattle.away_lex.specs.declared.refusals.ReadRefusal.{ReadRefusal}
use Rattle.away_lex.specs.declared.refusals.ReadRefusal.TheVariants as read
use Rattle.away_names.specs.declared.rule.Rule.{Rule}
use Rattle.away_names.specs.declared.rule.Rule.TheVariants as rule
use Rattle.text_places.specs.Lines.{IsInLine}
use Rattle.refusal_reasons.specs.declared.instead.Advice.{Advice}
use Rattle.refusal_reasons.specs.declared.instead.Advice.TheVariants as advice
use Rattle.refusal_reasons.specs.Instead.{advice_for, advised, instead_of, text_of}
use Rattle.refusal_reasons.specs.Reasons.{limit_reason, query_reason, read_reason, rule_reason}

abbrev is_line : List ℕ → Bool
is_line z = list_all (λ b. not (b == 10)) z

no_line_end : (b : ℕ) → not (b == 10) ≡ true → ¬ (b ≡ 10)
no_line_end b h is = absurd (let wrong : false ≡ true = sym (ap (λ n. not (n == 10)) is) ∙ h in cc)

in_line : (z : List ℕ) → is_line z ≡ true → IsInLine z
in_line [] h = All-nil (λ b. ¬ (b ≡ 10))
in_line (b ∷ z) h = let p = and_parts (not (b == 10)) (is_line z) h in All-cons (λ b. ¬ (b ≡ 10)) b z (no_line_end b p.0) (in_line z p.1)

pub rule_line : (r : Rule) → IsInLine (rule_reason r)
rule_line rule.Duplicates = in_line (rule_reason rule.Duplicates) refl
rule_line rule.Names = in_line (rule_reason rule.Names) refl
rule_line rule.Ambiguity = in_line (rule_reason rule.Ambiguity) refl
rule_line rule.Tables = in_line (rule_reason rule.Tables) refl
rule_line rule.Labels = in_line (rule_reason rule.Labels) refl
rule_line rule.Constants = in_line (rule_reason rule.Constants) refl
rule_line rule.Defaults = in_line (rule_reason rule.Defaults) refl
rule_line rule.Types = in_line (rule_reason rule.Types) refl
rule_line rule.Reserved = in_line (rule_reason rule.Reserved) refl
rule_line rule.Aggregates = in_line (rule_reason rule.Aggregates) refl
rule_line rule.Raises = in_line (rule_reason rule.Raises) refl
rule_line rule.Recursion = in_line (rule_reason rule.Recursion) refl
rule_line rule.Answer = in_line (rule_reason rule.Answer) refl

pub limit_line : (which : LimitKind) → IsInLine (limit_reason which)
limit_line limit.Nesting = in_line (limit_reason limit.Nesting) refl
limit_line limit.Nodes = in_line (limit_reason limit.Nodes) refl
limit_line limit.Variables = in_line (limit_reason limit.Variables) refl
limit_line limit.Loops = in_line (limit_reason limit.Loops) refl

advice_line : (a : Advice) → IsInLine (text_of a)
advice_line advice.OwnName = in_line (text_of advice.OwnName) refl
advice_line advice.TableOfValues = in_line (text_of advice.TableOfValues) refl
advice_line advice.RaiseWhere = in_line (text_of advice.RaiseWhere) refl
advice_line advice.OwnStatements = in_line (text_of advice.OwnStatements) refl
advice_line advice.LoopByKey = in_line (text_of advice.LoopByKey) refl
advice_line advice.NoCollation = in_line (text_of advice.NoCollation) refl
advice_line advice.NoTransactions = in_line (text_of advice.NoTransactions) refl
advice_line advice.JoinByWhere = in_line (text_of advice.JoinByWhere) refl
advice_line advice.NoMessages = in_line (text_of advice.NoMessages) refl
advice_line advice.NoChanges = in_line (text_of advice.NoChanges) refl
advice_line advice.CountRows = in_line (text_of advice.CountRows) refl
advice_line advice.NoEarlierRow = in_line (text_of advice.NoEarlierRow) refl
advice_line advice.TestBefore = in_line (text_of advice.TestBefore) refl
advice_line advice.ChosenQuery = in_line (text_of advice.ChosenQuery) refl
advice_line advice.PlacesByFor = in_line (text_of advice.PlacesByFor) refl
advice_line advice.NoOuterJoin = in_line (text_of advice.NoOuterJoin) refl
advice_line advice.CountInList = in_line (text_of advice.CountInList) refl
advice_line advice.PartsOfText = in_line (text_of advice.PartsOfText) refl
advice_line advice.OneResult = in_line (text_of advice.OneResult) refl
advice_line advice.ExistsInOther = in_line (text_of advice.ExistsInOther) refl
advice_line advice.RowInList = in_line (text_of advice.RowInList) refl
advice_line advice.OneRow = in_line (text_of advice.OneRow) refl
advice_line advice.LeastUnits = in_line (text_of advice.LeastUnits) refl
advice_line advice.RowsBefore = in_line (text_of advice.RowsBefore) refl
advice_line advice.ExistsTest = in_line (text_of advice.ExistsTest) refl
advice_line advice.VariableForEach = in_line (text_of advice.VariableForEach) refl
advice_line advice.NoSettings = in_line (text_of advice.NoSettings) refl
advice_line advice.NoTriggers = in_line (text_of advice.NoTriggers) refl
advice_line advice.WhereForUsing = in_line (text_of advice.WhereForUsing) refl
advice_line advice.ParameterForEach = in_line (text_of advice.ParameterForEach) refl
advice_line advice.QueryWhereUsed = in_line (text_of advice.QueryWhereUsed) refl

advised_line : (o : Option Advice) → IsInLine (advised o)
advised_line None = in_line (advised None) refl
advised_line (Some a) = advice_line a

pub word_line : (word : List ℕ) → IsInLine (instead_of word)
word_line word = advised_line (advice_for word)

pub refusal_line : (e : ReadRefusal) (ended : Bool) → IsInLine (read_reason e ended)
refusal_line read.NotText ended = in_line (read_reason read.NotText ended) refl
refusal_line (read.Token offset) ended = in_line (read_reason (read.Token offset) ended) refl
refusal_line read.NoTree true = in_line (read_reason read.NoTree true) refl
refusal_line read.NoTree false = in_line (read_reason read.NoTree false) refl
refusal_line (read.Outside word) ended = word_line word
refusal_line (read.Limit which found) ended = limit_line which
refusal_line read.NoMemory ended = in_line (read_reason read.NoMemory ended) refl

pub query_line : (e : ReadRefusal) (ended : Bool) → IsInLine (query_reason e ended)
query_line read.NotText ended = refusal_line read.NotText ended
query_line (read.Token offset) ended = refusal_line (read.Token offset) ended
query_line read.NoTree true = in_line (query_reason read.NoTree true) refl
query_line read.NoTree false = in_line (query_reason read.NoTree false) refl
query_line (read.Outside word) ended = word_line word
query_line (read.Limit which found) ended = in_line (query_reason (read.Limit which found) ended) refl
query_line read.NoMemory ended = refusal_line read.NoMemory ended
