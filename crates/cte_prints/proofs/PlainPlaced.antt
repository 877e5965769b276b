-- The marks of operations show nowhere where a query has names.
use Rattle.std.proofs.Common.{◌≡◌, refl, ap, sym, ◌∙◌, ℕ, List, []}
use Rattle.away_trees.specs.declared.queries.Col.{Col}
use Rattle.away_trees.specs.declared.queries.Expr.{Expr}
use Rattle.away_trees.specs.declared.queries.Query.{Query}
use Rattle.away_trees.specs.declared.queries.Select.{Select}
use Rattle.away_trees.specs.Algebra.{expr_of, select_of}
use Rattle.away_names.specs.Lookups.{Level}
use Rattle.away_typing.specs.Typing.{Places}
use Rattle.elaboration.specs.Elaborating.{elaborated, elaborated_select}
use Rattle.elaboration.specs.Erasing.{erased, erased_query}
use Rattle.elaboration_law.proofs.Dotted.{qualifying_blind}
use Rattle.elaboration_law.proofs.ErasedMarks.{marked_same, marked_select_same}
use Rattle.elaboration_law.proofs.Plain.{same_expr, same_query}
use Rattle.elaboration_law.proofs.Unmarked.{reading_blind}
use Rattle.sql_meaning.specs.Placed.{column_of, replaced, with_cast}
use Rattle.sql_meaning.specs.Reads.{reading}
use Rattle.qualified_names.specs.Qualifying.{qualifying}
use Rattle.qualified_names.specs.Trees.{qualified, qualified_expr, qualified_shown}
use Rattle.cte_names.proofs.ErasedPlaced.{erased_placed}
use Rattle.cte_names.proofs.PlainPlaced.{placing_blind}
use Rattle.cte_names.proofs.Standing.{placing}

pub marked_placed : (leaf : ℕ → ℕ → Expr) (p : Places) (e : Expr) → expr_of (placing leaf) (elaborated p e).it ≡ expr_of (placing leaf) e
marked_placed leaf p e = marked_same (placing leaf) (placing_blind leaf) e p

pub select_placed : (leaf : ℕ → ℕ → Expr) (p : Places) (q : Select) → select_of (placing leaf) (elaborated_select p q).it ≡ select_of (placing leaf) q
select_placed leaf p q = marked_select_same (placing leaf) (placing_blind leaf) q p

pub marked_reads : (p : Places) (e : Expr) → expr_of reading (elaborated p e).it ≡ expr_of reading e
marked_reads p e = marked_same reading reading_blind e p

pub select_reads : (p : Places) (q : Select) → select_of reading (elaborated_select p q).it ≡ select_of reading q
select_reads p q = marked_select_same reading reading_blind q p

-- a tree with names again has none
pub erased_shown : (e : Expr) (levels : List Level) → qualified_expr (erased e) levels ≡ qualified_expr e levels
unfolding qualified_expr
erased_shown e levels = ap (λ t. t levels) (same_expr qualifying qualifying_blind e)

pub plain_placed : (ref : ℕ → Col) (d : ℕ) (e : Expr) (levels : List Level)
    → qualified_expr (replaced (column_of ref) with_cast d e) levels ≡ qualified_expr (expr_of (placing (column_of ref)) e d) levels
plain_placed ref d e levels =
    let leaf = column_of ref in
    sym (erased_shown (replaced leaf with_cast d e) levels) ∙ ap (λ x. qualified_expr x levels) (erased_placed leaf (λ d i. refl) d e)

pub erased_named : (q : Query) → qualified (erased_query q) ≡ qualified q
unfolding qualified_shown
erased_named q = ap (λ t. (t []).it) (same_query qualifying qualifying_blind q)
