-- A name that may stand behind `public.`.
use Rattle.std.specs.Prelude.{ℕ, List, Option, None, Result, Ok, Err}
use Rattle.away_grammar.specs.Terminals.{Terminal}
use Rattle.away_grammar.specs.Grammar.{Sort, Tree}
use Rattle.sql_text.specs.Plans.{Plan, Runs}
use Rattle.sql_text.specs.Descent.{plan, schema_qualified_name}
use Rattle.sql_text.specs.declared.refusal.Refusal.{Refusal}
use Rattle.sql_text.specs.declared.refusal.Refusal.TheVariants.{NoTree, NoMemory}

-- A plan that begins with such a name goes on by this one from what is left, or gives no tree.
abbrev pub NameRead : List Terminal → Result (List ℕ) Refusal → List Terminal → Type 0
NameRead old (Ok n) new = (s : Sort) (f : List ℕ → Plan Tree s) (o : Option (Tree s × List Terminal))
    → Runs Tree plan s (f n) new o → Runs Tree plan s (schema_qualified_name f) old o
NameRead old (Err NoTree) new = (s : Sort) (f : List ℕ → Plan Tree s) → Runs Tree plan s (schema_qualified_name f) old None
NameRead old (Err NoMemory) new = Unit {0}
