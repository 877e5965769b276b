-- A name that breaks a rule by itself is a culprit, and so is its copy.
use Rattle.std.proofs.Common.{◌≡◌, ap, sym, subst, ◌∙◌, true, List, Option, Some, None}
use Rattle.away_trees.specs.declared.queries.Expr.{Expr}
use Rattle.away_trees.specs.declared.queries.Expr.TheVariants as e
use Rattle.away_trees.specs.declared.queries.Key.{Key, out-Key}
use Rattle.away_trees.specs.declared.queries.Source.TheVariants as source
use Rattle.away_names.specs.declared.note.Note.{Note}
use Rattle.away_names.specs.declared.rule.Rule.{Rule}
use Rattle.away_names.specs.declared.rule.Rule.TheVariants as rule
use Rattle.away_names.specs.Lookups.{Name, Level, Scope}
use Rattle.away_names.specs.Naming.{named, qualified, is_alias}
use Rattle.away_names.specs.Trees.{alone_of}
use Rattle.broken_names.specs.declared.culprit.Culprit.TheVariants as culprit
use Rattle.broken_names.specs.Holds.{Holds, of_expr, of_key, of_source, a_name, a_column, a_key, a_table}

pub name_here : {broken : Rule} {s : Scope} {n m : Name} {note : Note} → note ≡ (named n s).note → note.least ≡ Some broken → m ≡ n
    → Holds broken s (of_expr (e.Named n)) (culprit.Name m)
name_here {broken} {s} {n} same least copied =
    subst (λ m. Holds broken s (of_expr (e.Named n)) (culprit.Name m)) (sym copied) (a_name (sym (ap (λ x. x.least) same) ∙ least))

pub column_here : {broken : Rule} {s : Scope} {a b n m : Name} {note : Note} → note ≡ (qualified a n s).note → note.least ≡ Some broken → b ≡ a → m ≡ n
    → Holds broken s (of_expr (e.Dotted a n)) (culprit.Column b m)
column_here {broken} {s} {a} {b} {n} {m} same least item copied =
    subst (λ b. Holds broken s (of_expr (e.Dotted a n)) (culprit.Column b m)) (sym item)
    (subst (λ m. Holds broken s (of_expr (e.Dotted a n)) (culprit.Column a m)) (sym copied) (a_column (sym (ap (λ x. x.least) same) ∙ least)))

alone_is : (x : Expr) (n : Name) → x ≡ e.Named n → alone_of x ≡ Some n
unfolding alone_of
alone_is x n is = ap alone_of is

pub key_here : {broken : Rule} {s : Scope} {given : List (Option Name)} {k : Key} {n m : Name} → broken ≡ rule.Ambiguity → (out-Key k).expr ≡ e.Named n
    → is_alias given (alone_of (out-Key k).expr) ≡ true → m ≡ n → Holds broken s (of_key given k) (culprit.Name m)
key_here {broken} {s} {given} {k} {n} ambiguous is alias copied =
    let alone = alone_is (out-Key k).expr n is in
    subst (λ m. Holds broken s (of_key given k) (culprit.Name m)) (sym copied)
    (a_key ambiguous alone (sym (ap (is_alias given) alone) ∙ alias))

pub table_here : {broken : Rule} {s : Scope} {n m : Name} → broken ≡ rule.Tables → s.table n ≡ None → m ≡ n
    → (level : Level) → Holds broken s (of_source level (source.Table n)) (culprit.Table m)
table_here {broken} {s} {n} tables unknown copied level =
    subst (λ m. Holds broken s (of_source level (source.Table n)) (culprit.Table m)) (sym copied) (a_table tables unknown)
