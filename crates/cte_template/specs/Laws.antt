-- What holds of the tree with its names.
use Rattle.std.specs.Prelude.{◌≡◌, ℕ}
use Rattle.call_forms.specs.Template as template
use Rattle.sql_meaning.specs.Names.{bare}
use Rattle.cte_template.specs.Making.{Making}
use Rattle.cte_template.specs.Tree.{tree}

-- without its names the tree is the template's
abbrev pub IsTemplates : Type 0
IsTemplates = (m : Making) (entry tables : ℕ) → bare (tree m entry tables)
    ≡ bare (template.query_of m.table m.types m.result m.anf m.tail entry tables)
