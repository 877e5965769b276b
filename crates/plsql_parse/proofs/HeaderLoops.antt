-- What the loops over parameters and attributes have read so far, and what is left of their plans.
use Rattle.std.proofs.Common.{◌≡◌, ℕ, true, false, List, [], ◌∷◌, ◌++◌, Option, Some, None, Ok, Err, sym, subst, append-nil}
use Rattle.away_grammar.specs.declared.grammar.Attribute.{Attribute}
use Rattle.away_grammar.specs.declared.grammar.Mark.TheVariants as m
use Rattle.away_values.specs.declared.types.Ty.{Ty}
use Rattle.away_grammar.specs.FunctionGrammar.{parameter, parameters, attribute_of, attributes}
use Rattle.away_grammar.specs.Terminals.{Terminal, mark}
use Rattle.sql_text.specs.declared.refusal.Refusal.{Refusal}
use Rattle.sql_text.specs.Plans.{done, read, eat, Begins, Runs, ends, eats, leaves, sees, misses, reads, breaks, Gives, tree, no_tree, no_memory}
use Rattle.sql_text.proofs.Loops.{behind}
use Rattle.sql_text.proofs.Names.{behind_both}
use Rattle.sql_text.proofs.Steps.{run_of}
use Rattle.plsql_parse.specs.Headers.{parameters_plan, attributes_plan, is_over}
use Rattle.plsql_parse.specs.Plans.{any_plan, part_plan}
use Rattle.plsql_parse.specs.Sorts.{AnyTree, PartPlan, part}

-- ---- parameters

abbrev Parameter : Type 0
Parameter = List ℕ × Ty

-- whatever the plan gives from here, behind those that were found it is what the plan gives from the start
abbrev pub ParametersLead : List Terminal → List (List ℕ × Ty) → List Terminal → Type 0
ParametersLead old found now =
    (o : Option (List (List ℕ × Ty) × List Terminal)) → Runs AnyTree any_plan (part parameters) parameters_plan now o → Runs AnyTree any_plan (part parameters) parameters_plan old (behind found o)

parameters_on : {x : Parameter} {ts : List Terminal} (o : Option (List Parameter × List Terminal)) → Runs AnyTree any_plan (part parameters) parameters_plan ts o
    → Runs AnyTree any_plan (part parameters) (read (part parameters) (λ xs. done (x ∷ xs))) ts (behind (x ∷ []) o)
parameters_on None d = breaks d
parameters_on (Some p) d = reads d ends

abbrev and_more : Parameter → PartPlan parameters
and_more x = eat m.Comma (read (part parameters) (λ xs. done (x ∷ xs))) (done (x ∷ []))

pub parameters_begin : (old : List Terminal) → ParametersLead old [] old
parameters_begin old None d = d
parameters_begin old (Some p) d = d

pub parameters_more : {old now middle new : List Terminal} {x : List ℕ × Ty} (found : List (List ℕ × Ty)) → ParametersLead old found now → Gives AnyTree any_plan (part parameter) (part_plan parameter) now (Ok x) middle → middle ≡ mark m.Comma ∷ new
    → ParametersLead old (found ++ x ∷ []) new
parameters_more {old = old} {new = new} {x = x} found lead d e o r =
    subst (λ o. Runs AnyTree any_plan (part parameters) parameters_plan old o) (behind_both found x o)
    (lead (behind (x ∷ []) o) (reads (run_of d) (subst (λ ts. Runs AnyTree any_plan (part parameters) (and_more x) ts (behind (x ∷ []) o)) (sym e) (eats (parameters_on o r)))))

pub parameters_end : {old now middle new : List Terminal} {x : List ℕ × Ty} (found : List (List ℕ × Ty)) → ParametersLead old found now → Gives AnyTree any_plan (part parameter) (part_plan parameter) now (Ok x) middle
    → (new ≡ middle) × ¬ (Begins middle m.Comma) → Gives AnyTree any_plan (part parameters) parameters_plan old (Ok (found ++ x ∷ [])) new
parameters_end {middle = middle} {new = new} {x = x} found lead d e =
    tree (lead (Some (x ∷ [], new)) (reads (run_of d) (leaves e.1 (subst (λ ts. Runs AnyTree any_plan (part parameters) (done (x ∷ [])) middle (Some (x ∷ [], ts))) (sym e.0) ends))))

pub parameters_fail : {old now new other : List Terminal} {e : Refusal} (found : List (List ℕ × Ty)) → ParametersLead old found now → Gives AnyTree any_plan (part parameter) (part_plan parameter) now (Err e) new
    → Gives AnyTree any_plan (part parameters) parameters_plan old (Err e) other
parameters_fail found lead (no_tree d) = no_tree (lead None (breaks d))
parameters_fail found lead no_memory = no_memory

-- ---- attributes

abbrev pub AttributesLead : List Terminal → List Attribute → List Terminal → Type 0
AttributesLead old found now =
    (o : Option (List Attribute × List Terminal)) → Runs AnyTree any_plan (part attributes) attributes_plan now o → Runs AnyTree any_plan (part attributes) attributes_plan old (behind found o)

attributes_on : {a : Attribute} {ts : List Terminal} (o : Option (List Attribute × List Terminal)) → Runs AnyTree any_plan (part attributes) attributes_plan ts o
    → Runs AnyTree any_plan (part attributes) (read (part attributes) (λ found. done (a ∷ found))) ts (behind (a ∷ []) o)
attributes_on None d = breaks d
attributes_on (Some p) d = reads d ends

pub attributes_begin : (old : List Terminal) → AttributesLead old [] old
attributes_begin old None d = d
attributes_begin old (Some p) d = d

pub attributes_more : {old now new : List Terminal} {a : Attribute} (found : List Attribute) → AttributesLead old found now → is_over now ≡ false → Gives AnyTree any_plan (part attribute_of) (part_plan attribute_of) now (Ok a) new
    → AttributesLead old (found ++ a ∷ []) new
attributes_more {old = old} {a = a} found lead h d o r =
    subst (λ o. Runs AnyTree any_plan (part attributes) attributes_plan old o) (behind_both found a o) (lead (behind (a ∷ []) o) (misses h (reads (run_of d) (attributes_on o r))))

pub attributes_end : {old now : List Terminal} (found : List Attribute) → AttributesLead old found now → is_over now ≡ true → Gives AnyTree any_plan (part attributes) attributes_plan old (Ok found) now
attributes_end {old = old} {now = now} found lead h =
    tree (subst (λ xs. Runs AnyTree any_plan (part attributes) attributes_plan old (Some (xs, now))) (append-nil found) (lead (Some ([], now)) (sees h ends)))

pub attributes_fail : {old now new other : List Terminal} {e : Refusal} (found : List Attribute) → AttributesLead old found now → is_over now ≡ false → Gives AnyTree any_plan (part attribute_of) (part_plan attribute_of) now (Err e) new
    → Gives AnyTree any_plan (part attributes) attributes_plan old (Err e) other
attributes_fail found lead h (no_tree d) = no_tree (lead None (misses h (breaks d)))
attributes_fail found lead h no_memory = no_memory
