-- The sorts of functions beside those of SQL, and the steps of their readers' plans.
use Rattle.std.specs.Prelude.{ℕ, Bool, true, false, List, ◌∷◌, Option, Some, None, bytes_eq}
use Rattle.away_grammar.specs.declared.grammar.Level.TheVariants as l
use Rattle.away_trees.specs.declared.queries.Expr.{Expr}
use Rattle.away_grammar.specs.Terminals.{Terminal, name, integer, string, quote}
use Rattle.away_grammar.specs.Grammar.{Sort, at, Tree, Reads}
use Rattle.away_grammar.specs.FunctionGrammar.{Part, PartTree, ReadsPart}
use Rattle.sql_text.specs.Plans.{Plan, done, fail, take, eat, look, read, perhaps_a}
use Rattle.sql_text.specs.TerminalKinds.{name_in}
pub use Rattle.sql_text.specs.Descent.{a_name, a_type, schema_qualified_name}

-- a sort of SQL, or a part of a function
pub data AnySort : Type 0 where
  sql : Sort → AnySort
  part : Part → AnySort

abbrev pub AnyTree : AnySort → Type 0
AnyTree (sql n) = Tree n
AnyTree (part p) = PartTree p

-- the two grammars together
abbrev pub ReadsAny : (n : AnySort) → List Terminal → AnyTree n → List Terminal → Type 0
ReadsAny (sql n) = Reads n
ReadsAny (part p) = ReadsPart p

-- a plan of SQL among the plans of functions
abbrev pub lifted : {n : Sort} → Plan Tree n → Plan AnyTree (sql n)
lifted (done x) = done x
lifted fail = fail
lifted (take f) = take (λ s. lifted (f s))
lifted (eat m p q) = eat m (lifted p) (lifted q)
lifted (look f p q) = look f (lifted p) (lifted q)
lifted (read s f) = read (sql s) (λ x. lifted (f x))

abbrev pub PartPlan : Part → Type 0
PartPlan p = Plan AnyTree (part p)

-- ---- steps

abbrev pub expression : {p : Part} → (Expr → PartPlan p) → PartPlan p
expression f = read (sql (at l.Or)) f

-- a name, where one stands next, and then by it
abbrev pub maybe_name : {p : Part} → (Option (List ℕ) → PartPlan p) → PartPlan p
maybe_name f = perhaps_a name_in (λ n. f (Some n)) (f None)

-- what stands next is this word
abbrev pub begins_word : List ℕ → List Terminal → Bool
begins_word w (name n ∷ ts) = bytes_eq n w
begins_word w _ = false

-- by whether the word stands next, which is then taken
abbrev pub eat_word : {p : Part} → List ℕ → PartPlan p → PartPlan p → PartPlan p
eat_word w p q = look (begins_word w) (take (λ s. p)) q

-- the word, or no tree
abbrev pub expect_word : {p : Part} → List ℕ → PartPlan p → PartPlan p
expect_word w p = eat_word w p fail

abbrev pub string_in : Option Terminal → Option (List ℕ)
string_in (Some (string z)) = Some z
string_in _ = None

abbrev pub quote_in : Option Terminal → Option (List ℕ)
quote_in (Some (quote z)) = Some z
quote_in _ = None

abbrev pub integer_in : Option Terminal → Option ℕ
integer_in (Some (integer n)) = Some n
integer_in _ = None

abbrev pub is_name : List Terminal → Bool
is_name (name n ∷ ts) = true
is_name _ = false
