-- Whole files.
use Rattle.std.proofs.Common.{◌≡◌, Bool, true, false, if◌then◌else◌, List, [], ◌∷◌, ◌++◌, Option, Some, None, Result, Ok, Err, option_map, refl, sym, subst}
use Rattle.std.proofs.lemmas.Option.{same_Some}
use Rattle.away_trees.specs.declared.queries.Select.{Select}
use Rattle.away_grammar.specs.Terminals.{Terminal}
use Rattle.away_grammar.specs.Grammar.{Sort, Tree}
use Rattle.sql_text.specs.declared.refusal.Refusal.{Refusal}
use Rattle.sql_text.specs.declared.refusal.Refusal.TheVariants.{NoTree, NoMemory}
use Rattle.sql_text.specs.Plans.{Plan, done, with, Gives, tree, no_memory, ends}
use Rattle.sql_text.specs.CodeTerminals.{Found}
use Rattle.sql_text.specs.Descent.{plan, parted}
use Rattle.sql_text.proofs.CompleteQueries.{parted_is}
use Rattle.sql_text.proofs.Steps.{failed}

pub chosen : {s : Sort} (p q : Plan Tree s) {ts new : List Terminal} {r : Result (Tree s) Refusal} (b : Bool) → b ≡ true → Gives Tree plan s p ts r new → Gives Tree plan s (if b then p else q) ts r new
chosen {s = s} p q {ts = ts} {new = new} {r = r} b e d = subst (λ b. Gives Tree plan s (if b then p else q) ts r new) (sym e) d

pub not_chosen : {s : Sort} (p q : Plan Tree s) {ts new : List Terminal} {r : Result (Tree s) Refusal} (b : Bool) → b ≡ false → Gives Tree plan s q ts r new → Gives Tree plan s (if b then p else q) ts r new
not_chosen {s = s} p q {ts = ts} {new = new} {r = r} b e d = subst (λ b. Gives Tree plan s (if b then p else q) ts r new) (sym e) d

-- what was sought was found, and is the tree
pub made : {s : Sort} {A : Type 0} {ts : List Terminal} (f : A → Tree s) (o : Option A) (r : Result (Tree s) Refusal) → Found (option_map f o) r → Gives Tree plan s (with (λ x. done (f x)) o) ts r ts
made f None (Ok x) h = absurd (cc h)
made f None (Err NoTree) h = failed
made f None (Err NoMemory) h = no_memory
made {s = s} {ts = ts} f (Some x) (Ok y) h = subst (λ y. Gives Tree plan s (done (f x)) ts (Ok y) ts) (same_Some _ _ h) (tree ends)
made f (Some x) (Err NoTree) h = absurd (cc h)
made f (Some x) (Err NoMemory) h = no_memory

-- the last one apart from some others
pub parted_last : (ss : List Select) (last : Select) → ¬ (ss ≡ []) → parted (ss ++ last ∷ []) ≡ Some (ss, last)
parted_last [] last h = absurd (h refl)
parted_last (s ∷ ss) last h = parted_is s ss last
