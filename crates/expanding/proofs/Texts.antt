-- What a text is of.
use Rattle.std.proofs.Common.{◌≡◌, ◌∙◌, ap, ℕ, List, Result, Ok, Err, IfOk}
use Rattle.away_trees.specs.declared.schemas.Schema.{Schema}
use Rattle.away_trees.specs.declared.statements.Function.{Function}
use Rattle.call_expand.specs.Expanding.{IsExpansion}
use Rattle.expanding.specs.Expanded.{AllFit, IsExpandedText, Refuses, RefusesLength}
use Rattle.tail_calls.specs.declared.refusals.Grown.TheVariants as grown
use Rattle.tail_calls.specs.declared.refusals.WriteRefusal.{WriteRefusal}
use Rattle.tail_calls.specs.declared.refusals.WriteRefusal.TheVariants as refusal
use Rattle.function_printer.specs.FunctionTexts.{function_text}

-- the text of the tree that was made is that of the program
pub text_of : {A E : Type 0} (view : A → List ℕ) (s : Schema) (fs : List Function) (tree shown : Function) (r : Result A E) → IsExpansion s fs tree → shown ≡ tree → IfOk r (λ t. view t ≡ function_text shown)
    → IfOk r (λ t. IsExpandedText s fs (view t))
text_of view s fs tree shown (Ok t) expands is text = record { tree = tree; expands = expands; text_is = text ∙ ap function_text is }
text_of view s fs tree shown (Err e) expands is text = tt

-- a text that is too long is that of the program
pub length_refused : (s : Schema) (fs : List Function) (text : List ℕ) (e : WriteRefusal) → AllFit fs → IsExpandedText s fs text → RefusesLength text e → Refuses s fs e
length_refused s fs text (refusal.Limit grown.Nesting found) sizes is h = absurd h
length_refused s fs text (refusal.Limit grown.Nodes found) sizes is h = absurd h
length_refused s fs text (refusal.Limit grown.Variables found) sizes is h = absurd h
length_refused s fs text (refusal.Limit grown.Loops found) sizes is h = absurd h
length_refused s fs text (refusal.Limit grown.Bytes found) sizes is h = record { sizes = sizes; text = text; text_of = is; outgrows = h }
length_refused s fs text refusal.NoMemory sizes is h = tt
