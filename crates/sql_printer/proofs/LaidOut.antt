-- The text of terminals, written one after the other.
use Rattle.std.proofs.Common.{◌≡◌, ℕ, Bool, true, false, not, ◌&&◌, ◌||◌, if◌then◌else◌, List, [], ◌∷◌, ◌++◌, map, Option, Some, None, refl, option_map, append_assoc}
use Rattle.away_grammar.specs.Reserved.{calls}
use Rattle.away_grammar.specs.Terminals.{Terminal}
use Rattle.away_grammar.specs.Spacing.{Spelled, Written, is_glued, laid, laid_behind, written}
use Rattle.away_grammar.specs.Printing.{spelled}
use Rattle.sql_printer.specs.PrintedTerminals.{is_spaced}

-- ---- what is glued

pub glued_is : (a b c d e w k o : Bool) → (a || b) ≡ false → (c || (d || e)) ≡ false → (a || (b || (c || (d || (e || (w && (k && o))))))) ≡ ((w && k) && o)
glued_is true b c d e w k o h g = absurd (cc h)
glued_is false true c d e w k o h g = absurd (cc h)
glued_is false false true d e w k o h g = absurd (cc g)
glued_is false false false true e w k o h g = absurd (cc g)
glued_is false false false false true w k o h g = absurd (cc g)
glued_is false false false false false true k o h g = refl
glued_is false false false false false false k o h g = refl

-- ---- the text that is left

abbrev laid_after : Option Spelled → List Spelled → List Written
laid_after None ts = laid calls ts
laid_after (Some a) ts = laid_behind calls a ts

-- the text of terminals behind one, or of all
abbrev pub left_text : Option Terminal → List Terminal → List ℕ
left_text before terminals = written (laid_after (option_map spelled before) (map spelled terminals))

spaced_text : (b : Bool) (t rest : List ℕ) → (if b then 32 ∷ t else t) ++ rest ≡ ((if b then 32 ∷ [] else []) ++ t) ++ rest
spaced_text true t rest = refl
spaced_text false t rest = refl

pub text_more : (before : Option Terminal) (s : Terminal) (terminals : List Terminal)
    → left_text before (s ∷ terminals) ≡ ((if is_spaced before s then 32 ∷ [] else []) ++ (spelled s).text) ++ left_text (Some s) terminals
text_more None s terminals = refl
text_more (Some a) s terminals = spaced_text (not (is_glued calls (spelled a) (spelled s))) (spelled s).text (left_text (Some s) terminals)

pub no_more_text : (before : Option Terminal) → left_text before [] ≡ 10 ∷ []
no_more_text None = refl
no_more_text (Some a) = refl

pub text_assoc : (old space t left : List ℕ) → ((old ++ space) ++ t) ++ left ≡ old ++ ((space ++ t) ++ left)
text_assoc old space t left = simp append_assoc
