-- What a text is of.
use Rattle.std.proofs.Common.{◌≡◌, ◌∙◌, ap, ℕ, List, Result, Ok, Err, IfOk}
use Rattle.away_trees.specs.declared.schemas.Schema.{Schema}
use Rattle.away_trees.specs.declared.statements.Function.{Function}
use Rattle.call_expand.specs.Untailing.{IsUntailing}
use Rattle.function_printer.specs.FunctionTexts.{function_text}
use Rattle.tail_calls.specs.Untailed.{IsUntailedText}

-- the text of the tree that was made is that of the function
pub text_of : {A E : Type 0} (view : A → List ℕ) (s : Schema) (f tree shown : Function) (r : Result A E) → IsUntailing s f tree → shown ≡ tree → IfOk r (λ t. view t ≡ function_text shown)
    → IfOk r (λ t. IsUntailedText s f (view t))
text_of view s f tree shown (Ok t) untails is text = record { tree = tree; untails = untails; text_is = text ∙ ap function_text is }
text_of view s f tree shown (Err e) untails is text = tt
