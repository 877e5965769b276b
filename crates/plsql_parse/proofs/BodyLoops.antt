-- What a loop of the reader of bodies has read so far, and what is left of its plan.
use Rattle.std.proofs.Common.{◌≡◌, true, false, List, [], ◌∷◌, ◌++◌, ◌⊎◌, inl, inr, Option, Some, None, Ok, Err, refl, sym, ap, subst, append_assoc, append-nil}
use Rattle.away_grammar.specs.declared.grammar.Mark.TheVariants as m
use Rattle.away_trees.specs.declared.statements.Arm.{Arm}
use Rattle.away_trees.specs.declared.statements.Decl.{Decl}
use Rattle.away_trees.specs.declared.statements.Stmt.{Stmt}
use Rattle.away_grammar.specs.Terminals.{Terminal, mark}
use Rattle.away_grammar.specs.FunctionGrammar.{decl, decls, statement, statements, branch, elsifs, whens}
use Rattle.sql_text.specs.declared.refusal.Refusal.{Refusal}
use Rattle.sql_text.specs.Plans.{done, eat, read, Begins, ends, eats, leaves, sees, misses, reads, breaks, tree, no_tree, no_memory}
use Rattle.sql_text.proofs.Steps.{run_of}
use Rattle.sql_text.proofs.Loops.{behind}
use Rattle.plsql_parse.specs.Sorts.{part, is_name}
use Rattle.plsql_parse.specs.Bodies.{next, closes, decl_plan, decls_plan, statement_plan, statements_plan, branch_plan, elsif_plan, elsifs_plan, when_plan, whens_plan}
use Rattle.plsql_parse.proofs.RunSteps.{PartRuns}
use Rattle.plsql_parse.proofs.BodySteps.{PartGives}

behind_both : {A : Type 0} (found : List A) (x : A) (o : Option (List A × List Terminal)) → behind found (behind (x ∷ []) o) ≡ behind (found ++ x ∷ []) o
behind_both found x None = refl
behind_both found x (Some p) = ap (λ xs. Some (xs, p.1)) (sym (append_assoc found (x ∷ []) p.0))

-- ---- declarations

-- Whatever the plan gives from here, behind those that were found it is what the plan gives from the start.
abbrev pub DeclsLead : List Terminal → List Decl → List Terminal → Type 0
DeclsLead old found now = (o : Option (List Decl × List Terminal)) → PartRuns decls decls_plan now o → PartRuns decls decls_plan old (behind found o)

decls_on : {x : Decl} {ts : List Terminal} (o : Option (List Decl × List Terminal)) → PartRuns decls decls_plan ts o → PartRuns decls (read (part decls) (λ xs. done (x ∷ xs))) ts (behind (x ∷ []) o)
decls_on None d = breaks d
decls_on (Some p) d = reads d ends

pub decls_more : {old now new : List Terminal} {x : Decl} (found : List Decl) → DeclsLead old found now → is_name now ≡ true → PartGives decl decl_plan now (Ok x) new → DeclsLead old (found ++ x ∷ []) new
decls_more {old = old} {x = x} found lead h d o r = subst (λ o. PartRuns decls decls_plan old o) (behind_both found x o) (lead (behind (x ∷ []) o) (sees h (reads (run_of d) (decls_on o r))))

pub decls_end : {old now : List Terminal} (found : List Decl) → DeclsLead old found now → is_name now ≡ false → PartGives decls decls_plan old (Ok found) now
decls_end {old = old} {now = now} found lead h = subst (λ xs. PartGives decls decls_plan old (Ok xs) now) (append-nil found) (tree (lead (Some ([], now)) (misses h ends)))

pub decls_fail : {old now new : List Terminal} {e : Refusal} (found : List Decl) → DeclsLead old found now → is_name now ≡ true → PartGives decl decl_plan now (Err e) new → PartGives decls decls_plan old (Err e) new
decls_fail found lead h (no_tree d) = no_tree (lead None (sees h (breaks d)))
decls_fail found lead h no_memory = no_memory

-- ---- statements

-- Whatever the plan gives from here, behind those that were found it is what the plan gives from the start.
abbrev pub StatementsLead : List Terminal → List Stmt → List Terminal → Type 0
StatementsLead old found now = (o : Option (List Stmt × List Terminal)) → PartRuns statements statements_plan now o → PartRuns statements statements_plan old (behind found o)

statements_on : {x : Stmt} {ts : List Terminal} (o : Option (List Stmt × List Terminal)) → PartRuns statements statements_plan ts o → PartRuns statements (read (part statements) (λ xs. done (x ∷ xs))) ts (behind (x ∷ []) o)
statements_on None d = breaks d
statements_on (Some p) d = reads d ends

pub statements_more : {old now new : List Terminal} {x : Stmt} (found : List Stmt) → StatementsLead old found now → next closes now ≡ false → PartGives statement statement_plan now (Ok x) new → StatementsLead old (found ++ x ∷ []) new
statements_more {old = old} {x = x} found lead h d o r = subst (λ o. PartRuns statements statements_plan old o) (behind_both found x o) (lead (behind (x ∷ []) o) (misses h (reads (run_of d) (statements_on o r))))

pub statements_end : {old now : List Terminal} (found : List Stmt) → StatementsLead old found now → next closes now ≡ true → PartGives statements statements_plan old (Ok found) now
statements_end {old = old} {now = now} found lead h = subst (λ xs. PartGives statements statements_plan old (Ok xs) now) (append-nil found) (tree (lead (Some ([], now)) (sees h ends)))

pub statements_fail : {old now new : List Terminal} {e : Refusal} (found : List Stmt) → StatementsLead old found now → next closes now ≡ false → PartGives statement statement_plan now (Err e) new → PartGives statements statements_plan old (Err e) new
statements_fail found lead h (no_tree d) = no_tree (lead None (misses h (breaks d)))
statements_fail found lead h no_memory = no_memory

-- ---- arms of IF

-- Whatever the plan gives from here, behind those that were found it is what the plan gives from the start.
abbrev pub ElsifsLead : List Terminal → List Arm → List Terminal → Type 0
ElsifsLead old found now = (o : Option (List Arm × List Terminal)) → PartRuns elsifs elsif_plan now o → PartRuns elsifs elsif_plan old (behind found o)

elsifs_on : {a : Arm} {ts : List Terminal} (o : Option (List Arm × List Terminal)) → PartRuns elsifs elsifs_plan ts o → PartRuns elsifs (read (part elsifs) (λ more. done (a ∷ more))) ts (behind (a ∷ []) o)
elsifs_on None d = breaks d
elsifs_on (Some p) d = reads d ends

elsifs_goes : {old now middle new : List Terminal} {a : Arm} (found : List Arm) → ElsifsLead old found now → PartGives branch branch_plan now (Ok a) middle
    → ((o : Option (List Arm × List Terminal)) → PartRuns elsifs elsif_plan new o → PartRuns elsifs elsifs_plan middle o) → ElsifsLead old (found ++ a ∷ []) new
elsifs_goes {old = old} {a = a} found lead d next o r = subst (λ o. PartRuns elsifs elsif_plan old o) (behind_both found a o) (lead (behind (a ∷ []) o) (reads (run_of d) (elsifs_on o (next o r))))

elsifs_stops : {old now middle new : List Terminal} {a : Arm} (found : List Arm) → ElsifsLead old found now → PartGives branch branch_plan now (Ok a) middle
    → PartRuns elsifs elsifs_plan middle (Some ([], new)) → PartGives elsifs elsif_plan old (Ok (found ++ a ∷ [])) new
elsifs_stops {new = new} {a = a} found lead d r = tree (lead (Some (a ∷ [], new)) (reads (run_of d) (reads r ends)))

pub elsifs_fail : {old now new other : List Terminal} {e : Refusal} (found : List Arm) → ElsifsLead old found now → PartGives branch branch_plan now (Err e) new → PartGives elsifs elsif_plan old (Err e) other
elsifs_fail found lead (no_tree d) = no_tree (lead None (breaks d))
elsifs_fail found lead no_memory = no_memory

elsif_taken : {ts new : List Terminal} → (ts ≡ mark m.Elsif ∷ new) ⊎ ((ts ≡ mark m.Elseif ∷ new) × ¬ (Begins ts m.Elsif)) → (o : Option (List Arm × List Terminal)) → PartRuns elsifs elsif_plan new o → PartRuns elsifs elsifs_plan ts o
elsif_taken (inl e) o r = subst (λ ts. PartRuns elsifs elsifs_plan ts o) (sym e) (eats r)
elsif_taken (inr h) o r = leaves h.1 (subst (λ ts. PartRuns elsifs (eat m.Elseif elsif_plan (done [])) ts o) (sym h.0) (eats r))

pub elsifs_more : {old now middle new : List Terminal} {a : Arm} (found : List Arm) → ElsifsLead old found now → PartGives branch branch_plan now (Ok a) middle
    → (middle ≡ mark m.Elsif ∷ new) ⊎ ((middle ≡ mark m.Elseif ∷ new) × ¬ (Begins middle m.Elsif)) → ElsifsLead old (found ++ a ∷ []) new
elsifs_more found lead d h = elsifs_goes found lead d (elsif_taken h)

pub elsifs_end : {old now middle new : List Terminal} {a : Arm} (found : List Arm) → ElsifsLead old found now → PartGives branch branch_plan now (Ok a) middle
    → (new ≡ middle) × ¬ (Begins middle m.Elsif) × ¬ (Begins middle m.Elseif) → PartGives elsifs elsif_plan old (Ok (found ++ a ∷ [])) new
elsifs_end {middle = middle} found lead d h =
    elsifs_stops found lead d (leaves h.1 (leaves h.2 (subst (λ ts. PartRuns elsifs (done []) middle (Some ([], ts))) (sym h.0) ends)))

-- ---- arms of CASE

-- Whatever the plan gives from here, behind those that were found it is what the plan gives from the start.
abbrev pub WhensLead : List Terminal → List Arm → List Terminal → Type 0
WhensLead old found now = (o : Option (List Arm × List Terminal)) → PartRuns whens when_plan now o → PartRuns whens when_plan old (behind found o)

whens_on : {a : Arm} {ts : List Terminal} (o : Option (List Arm × List Terminal)) → PartRuns whens whens_plan ts o → PartRuns whens (read (part whens) (λ more. done (a ∷ more))) ts (behind (a ∷ []) o)
whens_on None d = breaks d
whens_on (Some p) d = reads d ends

whens_goes : {old now middle new : List Terminal} {a : Arm} (found : List Arm) → WhensLead old found now → PartGives branch branch_plan now (Ok a) middle
    → ((o : Option (List Arm × List Terminal)) → PartRuns whens when_plan new o → PartRuns whens whens_plan middle o) → WhensLead old (found ++ a ∷ []) new
whens_goes {old = old} {a = a} found lead d next o r = subst (λ o. PartRuns whens when_plan old o) (behind_both found a o) (lead (behind (a ∷ []) o) (reads (run_of d) (whens_on o (next o r))))

whens_stops : {old now middle new : List Terminal} {a : Arm} (found : List Arm) → WhensLead old found now → PartGives branch branch_plan now (Ok a) middle
    → PartRuns whens whens_plan middle (Some ([], new)) → PartGives whens when_plan old (Ok (found ++ a ∷ [])) new
whens_stops {new = new} {a = a} found lead d r = tree (lead (Some (a ∷ [], new)) (reads (run_of d) (reads r ends)))

pub whens_fail : {old now new other : List Terminal} {e : Refusal} (found : List Arm) → WhensLead old found now → PartGives branch branch_plan now (Err e) new → PartGives whens when_plan old (Err e) other
whens_fail found lead (no_tree d) = no_tree (lead None (breaks d))
whens_fail found lead no_memory = no_memory

pub whens_more : {old now middle new : List Terminal} {a : Arm} (found : List Arm) → WhensLead old found now → PartGives branch branch_plan now (Ok a) middle → middle ≡ mark m.When ∷ new → WhensLead old (found ++ a ∷ []) new
whens_more found lead d e = whens_goes found lead d (λ o r. subst (λ ts. PartRuns whens whens_plan ts o) (sym e) (eats r))

pub whens_end : {old now middle new : List Terminal} {a : Arm} (found : List Arm) → WhensLead old found now → PartGives branch branch_plan now (Ok a) middle → (new ≡ middle) × ¬ (Begins middle m.When)
    → PartGives whens when_plan old (Ok (found ++ a ∷ [])) new
whens_end {middle = middle} found lead d h = whens_stops found lead d (leaves h.1 (subst (λ ts. PartRuns whens (done []) middle (Some ([], ts))) (sym h.0) ends))
