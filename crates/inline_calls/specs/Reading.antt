-- The refusals of the reader and of the check as those of the whole.
use Rattle.std.specs.Prelude.{◌≡◌, ℕ, List}
use Rattle.away_grammar.specs.Texts.{ReadsQuery}
use Rattle.away_lex.specs.declared.refusals.ReadRefusal.{ReadRefusal}
use Rattle.sql_text.specs.Refusals.{Refuses}
use Rattle.inline_calls.specs.declared.refusals.CallsRefusal.{CallsRefusal}
use Rattle.inline_calls.specs.declared.refusals.CallsRefusal.TheVariants as calls
use Rattle.inline_calls.specs.declared.refusals.InlineRefusal.{InlineRefusal}
use Rattle.inline_calls.specs.declared.refusals.InlineRefusal.TheVariants as refusal
use Rattle.inline_calls.specs.Written.{Nests}

-- a text that isn't read nests too deep, or no memory was left
abbrev pub RefusesReading : List ℕ → InlineRefusal → Type 0
RefusesReading text (refusal.Nesting found) = Nests text found
RefusesReading text refusal.NoMemory = Unit {0}
RefusesReading text refusal.Form = ⊥
RefusesReading text refusal.Place = ⊥
RefusesReading text (refusal.Rule rule) = ⊥
RefusesReading text refusal.Faults = ⊥

pub record IsOutgrown (error : ReadRefusal) (told : InlineRefusal) : Type 0 where
  pub each : (text : List ℕ) → Refuses (ReadsQuery text) text error → RefusesReading text told

abbrev pub whole : CallsRefusal → InlineRefusal
whole calls.Form = refusal.Form
whole calls.Place = refusal.Place
whole (calls.Rule rule) = refusal.Rule rule
whole calls.Faults = refusal.Faults
whole calls.NoMemory = refusal.NoMemory

abbrev pub IsRefused : CallsRefusal → InlineRefusal → Type 0
IsRefused error told = told ≡ whole error
