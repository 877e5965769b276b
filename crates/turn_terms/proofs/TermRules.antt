-- A term over a row, by its entry in the table.
use Rattle.std.proofs.Common.{◌≡◌, refl, ap, sym, ◌∙◌, ℕ, zero, suc, ◌≤◌, List, [], ◌∷◌, get_or, length, false, Some, arith}
use Rattle.std.specs.Prelude.{nat_lt, slice_get}
use Rattle.std.proofs.lemmas.Bool.{ltb-false}
use Rattle.std.proofs.lemmas.Option.{get_or_from_slice_get}
use Rattle.away_values.specs.declared.types.Ty.{Ty}
use Rattle.away_trees.specs.declared.queries.Expr.{Expr}
use Rattle.away_trees.specs.declared.queries.Expr.TheVariants as expr
use Rattle.sql_meaning.specs.Reads.{slots_of}
use Rattle.sql_meaning.specs.Trees.{null_of}
use Rattle.block_forms.specs.declared.forms.Term.{Term}
use Rattle.call_forms.specs.Scopes.{Scope, paired}
use Rattle.turn_template.specs.TurnTemplate.{Ref, no_ref, placed_ref}
use Rattle.turn_terms.specs.References.{on_row}
use Rattle.turn_terms.specs.Writing.{term_in}
use Rattle.turn_terms.specs.declared.writer.Writer.{Writer}
use Rattle.turn_terms.proofs.PlacedOverRows.{null_placed}

-- by the term's entry
abbrev by_entry : Scope Ref → Ty → List ℕ → Expr → Ref
by_entry s t names e = placed_ref t (paired s no_ref (slots_of e) names) e

missed_by : (table : List Expr) (k : ℕ) → length table ≤ k → get_or table k expr.Null ≡ expr.Null
missed_by [] k h = refl
missed_by (e ∷ table) zero h = absurd (omega (arith, h))
missed_by (e ∷ table) (suc k) h = missed_by table k (omega (arith, h))

pub term_missing : (w : Writer) (s : Scope Ref) (t : Ty) (u : Term) → false ≡ nat_lt u.expr (length w.table.now) → on_row (null_of t) ≡ term_in w s t u
term_missing w s t u h =
    null_placed t (paired s no_ref (slots_of expr.Null) u.names) ∙ ap (by_entry s t u.names) (sym (missed_by w.table.now u.expr (ltb-false u.expr (length w.table.now) (sym h))))

pub term_some : (w : Writer) (s : Scope Ref) (t : Ty) (u : Term) (names : List ℕ) (e : Expr) → slice_get w.table.now u.expr ≡ Some e → names ≡ u.names
    → placed_ref t (paired s no_ref (slots_of e) names) e ≡ term_in w s t u
term_some w s t u names e there are =
    ap (λ ns. by_entry s t ns e) are ∙ ap (by_entry s t u.names) (sym (get_or_from_slice_get w.table.now u.expr e expr.Null there))
