-- What the loop over the targets of an INTO has read so far, and what is left of its plan.
use Rattle.std.proofs.Common.{◌≡◌, ℕ, List, [], ◌∷◌, ◌++◌, Option, Some, None, Ok, Err, sym, subst}
use Rattle.away_grammar.specs.declared.grammar.Mark.TheVariants as m
use Rattle.away_grammar.specs.FunctionGrammar.{targets, Target}
use Rattle.away_grammar.specs.Terminals.{Terminal, mark}
use Rattle.sql_text.specs.declared.refusal.Refusal.{Refusal}
use Rattle.sql_text.specs.declared.refusal.Refusal.TheVariants.{NoTree, NoMemory}
use Rattle.sql_text.specs.CodeTerminals.{Found}
use Rattle.sql_text.specs.Plans.{done, read, eat, with, first, tail, Begins, Gives, ends, fails, takes, eats, leaves, reads, breaks, tree, no_tree, no_memory}
use Rattle.sql_text.specs.TerminalKinds.{name_in}
use Rattle.sql_text.proofs.Loops.{behind}
use Rattle.sql_text.proofs.Names.{behind_both}
use Rattle.plsql_parse.specs.Bodies.{targets_plan}
use Rattle.plsql_parse.specs.Plans.{any_plan}
use Rattle.plsql_parse.specs.Sorts.{AnyTree, PartPlan, part}
use Rattle.plsql_parse.proofs.RunSteps.{PartRuns, wants}

-- whatever the plan gives from here, behind those that were found it is what the plan gives from the start
abbrev pub TargetsLead : List Terminal → List Target → List Terminal → Type 0
TargetsLead old found now = (o : Option (List Target × List Terminal)) → PartRuns targets targets_plan now o → PartRuns targets targets_plan old (behind found o)

targets_on : {x : Target} {ts : List Terminal} (o : Option (List Target × List Terminal)) → PartRuns targets targets_plan ts o
    → PartRuns targets (read (part targets) (λ ns. done (x ∷ ns))) ts (behind (x ∷ []) o)
targets_on None d = breaks d
targets_on (Some p) d = reads d ends

pub targets_begin : (old : List Terminal) → TargetsLead old [] old
targets_begin old None d = d
targets_begin old (Some p) d = d

abbrev and_more : List ℕ → PartPlan targets
and_more n = eat m.Comma (read (part targets) (λ ns. done ((n, None) ∷ ns))) (done ((n, None) ∷ []))

target_named : {ts rest : List Terminal} {n : List ℕ} {o : Option (List Target × List Terminal)} → name_in (first ts) ≡ Some n → rest ≡ tail ts
    → PartRuns targets (and_more n) rest o → PartRuns targets targets_plan ts o
target_named {n = n} {o = o} e q d = wants name_in and_more e (subst (λ left. PartRuns targets (and_more n) left o) q d)

pub targets_more : {old now middle new : List Terminal} {n : List ℕ} (found : List Target) → TargetsLead old found now → name_in (first now) ≡ Some n → middle ≡ tail now
    → middle ≡ mark m.Comma ∷ new → TargetsLead old (found ++ (n, None) ∷ []) new
targets_more {old = old} {n = n} found lead w q e o r =
    subst (λ o. PartRuns targets targets_plan old o) (behind_both found (n, None) o)
    (lead (behind ((n, None) ∷ []) o) (target_named w q (subst (λ ts. PartRuns targets (and_more n) ts (behind ((n, None) ∷ []) o)) (sym e) (eats (targets_on o r)))))

pub targets_end : {old now middle new : List Terminal} {n : List ℕ} (found : List Target) → TargetsLead old found now → name_in (first now) ≡ Some n → middle ≡ tail now
    → (new ≡ middle) × ¬ (Begins middle m.Comma) → Gives AnyTree any_plan (part targets) targets_plan old (Ok (found ++ (n, None) ∷ [])) new
targets_end {middle = middle} {new = new} {n = n} found lead w q e =
    tree (lead (Some ((n, None) ∷ [], new)) (target_named w q (leaves e.1 (subst (λ ts. PartRuns targets (done ((n, None) ∷ [])) middle (Some ((n, None) ∷ [], ts))) (sym e.0) ends))))

pub targets_fail : {old now new : List Terminal} (e : Refusal) (found : List Target) → TargetsLead old found now → Found (name_in (first now)) (Err e)
    → Gives AnyTree any_plan (part targets) targets_plan old (Err e) new
targets_fail {now = now} NoTree found lead h = no_tree (lead None (takes (subst (λ x. PartRuns targets (with and_more x) (tail now) None) (sym h) fails)))
targets_fail NoMemory found lead h = no_memory
