-- What the checks tell of functions at their numbers.
use Rattle.std.proofs.Common.{◌≡◌, sym, ap, ◌∙◌, subst, ℕ, ◌<◌, Bool, true, false, get_or, List, length, Option, Some, None}
use Rattle.std.proofs.lemmas.Bool.{false≢true}
use Rattle.away_trees.specs.declared.schemas.Schema.{Schema}
use Rattle.away_trees.specs.declared.statements.Function.{Function}
use Rattle.away_trees.specs.Limits.{KeepsLimits}
use Rattle.away_names.specs.Lookups.{Name}
use Rattle.away_names.specs.declared.rule.Rule.{Rule}
use Rattle.call_expand.specs.Expanding.{function_at, names_of}
use Rattle.call_expand.specs.Placing.{misplaces}
use Rattle.call_expand.proofs.JudgingRules.{function_is}
use Rattle.program_check.specs.Firsts.{Nowhere}
use Rattle.program_check.specs.Refusing.{Breaks, BreaksFirst, HasRule, TellsRule, note, note_at}
use Rattle.program_check.proofs.FirstOnes.{first_at}

-- ---- tests

-- what is told by a test that came out so
pub holds_so : (r b : Bool) → r ≡ b → r ≡ true → b ≡ true
holds_so r b is true_so = sym is ∙ true_so

pub not_so : (r b : Bool) → r ≡ b → r ≡ false → b ≡ true → ⊥
not_so r b is false_so true_so = false≢true (sym false_so ∙ (is ∙ true_so))

-- a body in which a call is told to stand elsewhere or not
pub misplaced_at : (fs : List Function) (names : List Name) (k : ℕ) (f : Function) (r : Bool) → k < length fs → names ≡ names_of fs → f ≡ get_or fs k f → r ≡ misplaces names (get_or fs k f).body
    → r ≡ misplaces (names_of fs) (function_at fs k).body
misplaced_at fs names k f r lt names_is here is =
    is
    ∙ ap (λ n. misplaces n (get_or fs k f).body) names_is
    ∙ ap (λ (g : Function). misplaces (names_of fs) g.body) (sym (function_is fs k f lt here ∙ here))

-- ---- rules

pub limits_at : (fs : List Function) (k : ℕ) (f : Function) → k < length fs → f ≡ get_or fs k f → ((i : ℕ) → i < length fs → KeepsLimits (function_at fs i)) → KeepsLimits f
limits_at fs k f lt here keep = subst KeepsLimits (function_is fs k f lt here) (keep k lt)

module _ (fs : List Function) (s : Schema) (k : ℕ) (f : Function) (lt : k < length fs) (here : f ≡ get_or fs k f) where
  told_at : (found : Option Rule) → TellsRule (note fs s f) found → TellsRule (note_at fs s k) found
  told_at found = subst (λ g. TellsRule (note fs s g) found) (sym (function_is fs k f lt here))

  pub breaks_none : (found : Option Rule) → found ≡ None → TellsRule (note fs s f) found → Breaks fs s k → ⊥
  breaks_none found none told (rule, has) =
      let clean : TellsRule (note_at fs s k) None = subst (TellsRule (note_at fs s k)) none (told_at found told) in
      let wrong : None ≡ Some has.finding = sym clean ∙ has.finds in
      absurd (cc)

  pub breaks_first : (found : Option Rule) (rule : Rule) (n : ℕ) → found ≡ Some rule → n ≡ k → TellsRule (note fs s f) found → Nowhere (Breaks fs s) k → BreaksFirst fs s n rule
  breaks_first found rule n some same told before =
      let has : HasRule (note_at fs s k) rule = subst (TellsRule (note_at fs s k)) some (told_at found told) in
      record {
        first = first_at (Breaks fs s) (length fs) k n same lt (rule, has) before;
        has = subst (λ i. HasRule (note_at fs s i) rule) (sym same) has;
      }
