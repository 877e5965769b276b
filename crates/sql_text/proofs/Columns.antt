-- Columns with commas between them, and tables one behind the other.
use Rattle.std.proofs.Common.{◌≡◌, ℕ, List, [], ◌∷◌, ◌++◌, Option, Some, None, Ok, Err, sym, subst, append-nil}
use Rattle.away_grammar.specs.declared.grammar.Mark.TheVariants as m
use Rattle.away_trees.specs.declared.schemas.ColumnSchema.{ColumnSchema}
use Rattle.away_trees.specs.declared.schemas.TableSchema.{TableSchema}
use Rattle.away_grammar.specs.Terminals.{Terminal, mark}
use Rattle.away_grammar.specs.Grammar.{column, columns, tables, Tree}
use Rattle.sql_text.specs.declared.refusal.Refusal.{Refusal}
use Rattle.sql_text.specs.Plans.{Plan, done, read, eat, expect, Begins, Runs, ends, eats, leaves, reads, breaks, Gives, tree, no_tree, no_memory}
use Rattle.sql_text.specs.Descent.{plan, schema_qualified_name}
use Rattle.sql_text.specs.SchemaQualified.{NameRead}
use Rattle.sql_text.proofs.Loops.{behind}
use Rattle.sql_text.proofs.Names.{behind_both}
use Rattle.sql_text.proofs.Steps.{run_of}

-- ---- columns

-- whatever the plan gives from here, behind those that were found it is what the plan gives from the start
abbrev pub ColumnsLead : List Terminal → List ColumnSchema → List Terminal → Type 0
ColumnsLead old found now = (o : Option (List ColumnSchema × List Terminal)) → Runs Tree plan columns (plan columns) now o → Runs Tree plan columns (plan columns) old (behind found o)

columns_on : {c : ColumnSchema} {ts : List Terminal} (o : Option (List ColumnSchema × List Terminal)) → Runs Tree plan columns (plan columns) ts o → Runs Tree plan columns (read columns (λ cs. done (c ∷ cs))) ts (behind (c ∷ []) o)
columns_on None d = breaks d
columns_on (Some p) d = reads d ends

pub columns_begin : (old : List Terminal) → ColumnsLead old [] old
columns_begin old None d = d
columns_begin old (Some p) d = d

pub columns_more : {old now middle new : List Terminal} {c : ColumnSchema} (found : List ColumnSchema) → ColumnsLead old found now → Gives Tree plan column (plan column) now (Ok c) middle → middle ≡ mark m.Comma ∷ new → ColumnsLead old (found ++ c ∷ []) new
columns_more {old = old} {new = new} {c = c} found b d e o r =
    subst (λ o. Runs Tree plan columns (plan columns) old o) (behind_both found c o)
    (b (behind (c ∷ []) o) (reads (run_of d) (subst (λ ts. Runs Tree plan columns (eat m.Comma (read columns (λ cs. done (c ∷ cs))) (done (c ∷ []))) ts (behind (c ∷ []) o)) (sym e) (eats (columns_on o r)))))

pub columns_end : {old now middle new : List Terminal} {c : ColumnSchema} (found : List ColumnSchema) → ColumnsLead old found now → Gives Tree plan column (plan column) now (Ok c) middle → (new ≡ middle) × ¬ (Begins middle m.Comma)
    → Gives Tree plan columns (plan columns) old (Ok (found ++ c ∷ [])) new
columns_end {middle = middle} {new = new} {c = c} found b d e =
    tree (b (Some (c ∷ [], new)) (reads (run_of d) (leaves e.1 (subst (λ ts. Runs Tree plan columns (done (c ∷ [])) middle (Some (c ∷ [], ts))) (sym e.0) ends))))

pub columns_fail : {old now new other : List Terminal} {e : Refusal} (found : List ColumnSchema) → ColumnsLead old found now → Gives Tree plan column (plan column) now (Err e) new → Gives Tree plan columns (plan columns) old (Err e) other
columns_fail found b (no_tree d) = no_tree (b None (breaks d))
columns_fail found b no_memory = no_memory

-- ---- tables

abbrev pub TablesLead : List Terminal → List TableSchema → List Terminal → Type 0
TablesLead old found now = (o : Option (List TableSchema × List Terminal)) → Runs Tree plan tables (plan tables) now o → Runs Tree plan tables (plan tables) old (behind found o)

tables_on : {t : TableSchema} {ts : List Terminal} (o : Option (List TableSchema × List Terminal)) → Runs Tree plan tables (plan tables) ts o → Runs Tree plan tables (read tables (λ more. done (t ∷ more))) ts (behind (t ∷ []) o)
tables_on None d = breaks d
tables_on (Some p) d = reads d ends

pub tables_begin : (old : List Terminal) → TablesLead old [] old
tables_begin old None d = d
tables_begin old (Some p) d = d

-- behind the columns of a table
abbrev ended : List ℕ → List ColumnSchema → Plan Tree tables
ended n cs = expect m.Close (expect m.Semicolon (read tables (λ more. done (record { name = n; columns = cs } ∷ more))))

-- behind the name of a table
abbrev held : List ℕ → Plan Tree tables
held n = expect m.Open (read columns (ended n))

table_on : {c d e f new : List Terminal} {n : List ℕ} {cs : List ColumnSchema} → c ≡ mark m.Open ∷ d → Gives Tree plan columns (plan columns) d (Ok cs) e → e ≡ mark m.Close ∷ f → f ≡ mark m.Semicolon ∷ new
    → (o : Option (List TableSchema × List Terminal)) → Runs Tree plan tables (plan tables) new o → Runs Tree plan tables (held n) c (behind (record { name = n; columns = cs } ∷ []) o)
table_on {n = n} {cs = cs} begun given ended_by closed o r =
    let all = behind (record { name = n; columns = cs } ∷ []) o in
    subst (λ ts. Runs Tree plan tables (held n) ts all) (sym begun)
    (eats (reads (run_of given) (subst (λ ts. Runs Tree plan tables (ended n cs) ts all) (sym ended_by)
    (eats (subst (λ ts. Runs Tree plan tables (expect m.Semicolon (read tables (λ more. done (record { name = n; columns = cs } ∷ more)))) ts all) (sym closed) (eats (tables_on o r)))))))

pub tables_more : {old now a b c d e f new : List Terminal} {n : List ℕ} {cs : List ColumnSchema} (found : List TableSchema) → TablesLead old found now → now ≡ mark m.Create ∷ a → a ≡ mark m.Table ∷ b → NameRead b (Ok n) c → c ≡ mark m.Open ∷ d
    → Gives Tree plan columns (plan columns) d (Ok cs) e → e ≡ mark m.Close ∷ f → f ≡ mark m.Semicolon ∷ new → TablesLead old (found ++ record { name = n; columns = cs } ∷ []) new
tables_more {old = old} {n = n} {cs = cs} found lead create word called begun given ended_by closed o r =
    let t : TableSchema = record { name = n; columns = cs } in
    let all = behind (t ∷ []) o in
    subst (λ o. Runs Tree plan tables (plan tables) old o) (behind_both found t o)
    (lead all (subst (λ ts. Runs Tree plan tables (plan tables) ts all) (sym create)
    (eats (subst (λ ts. Runs Tree plan tables (expect m.Table (schema_qualified_name held)) ts all) (sym word)
    (eats (called tables held all (table_on begun given ended_by closed o r)))))))

pub tables_end : {old now new : List Terminal} {found : List TableSchema} → TablesLead old found now → (new ≡ now) × ¬ (Begins now m.Create) → Gives Tree plan tables (plan tables) old (Ok found) new
tables_end {old = old} {now = now} {new = new} {found = found} h e =
    subst (λ ts. Gives Tree plan tables (plan tables) old (Ok ts) new) (append-nil found) (tree (h (Some ([], new)) (leaves e.1 (subst (λ ts. Runs Tree plan tables (done []) now (Some ([], ts))) (sym e.0) ends))))

-- what fails at a table fails the whole
pub tables_fail : {old now new : List Terminal} {e : Refusal} (found : List TableSchema) → TablesLead old found now → Gives Tree plan tables (plan tables) now (Err e) new → Gives Tree plan tables (plan tables) old (Err e) new
tables_fail found b (no_tree d) = no_tree (b None d)
tables_fail found b no_memory = no_memory
