-- The source expressions of a converted statement are those of the statement, item for item in their order, each converted to a type or marked.
use Rattle.std.proofs.Common.{◌≡◌, Bool, List, [], ◌∷◌, ◌++◌, Option, Some, None}
use Rattle.away_values.specs.declared.types.Ty.{Ty}
use Rattle.away_trees.specs.declared.queries.Expr.{Expr}
use Rattle.away_trees.specs.declared.queries.Select.{Select}
use Rattle.away_trees.specs.declared.statements.Decl.{Decl}
use Rattle.away_trees.specs.declared.statements.LoopKind.{LoopKind}
use Rattle.away_trees.specs.declared.statements.LoopKind.TheVariants as kind
use Rattle.away_trees.specs.declared.statements.Stmt.{Stmt}
use Rattle.away_trees.specs.StatementAlgebra.{stmt_of}
use Rattle.sql_meaning.specs.Reads.{reads}
use Rattle.elaboration.specs.Converting.{Around, Target, converted, converted_to, decls_converted, for_slot, into_converted, kind_converted, marked, maybe_converted, maybe_marked, slot_type}
use Rattle.block_forms.specs.Expressions.{Entries, Sources, sourcing, in_turn, if_there, defaults, of_kind, of_else, whole_select}
use Rattle.type_soundness.specs.Sorts.{Every}
use Rattle.function_facts.proofs.ConvertedReads.{converted_reads, into_reads, marked_reads}
use Rattle.function_facts.proofs.ConvertedStatements.{Beside, BesideOption, statement_kept}

-- ---- lists

pub beside_append : {A B : Type 0} (R : A → B → Type 0) (xs us : List A) (ys vs : List B) → Beside R xs ys → Beside R us vs → Beside R (xs ++ us) (ys ++ vs)
beside_append R [] us [] vs h k = k
beside_append R (x ∷ xs) us (y ∷ ys) vs h k = (h.0, beside_append R xs us ys vs h.1 k)
beside_append R _ us _ vs h k = absurd h

-- what holds of each holds of each beside it
pub every_beside : {A B : Type 0} (R : A → B → Type 0) (P : A → Type 0) (Q : B → Type 0) → ((x : A) (y : B) → R x y → P x → Q y)
    → (xs : List A) (ys : List B) → Beside R xs ys → Every P xs → Every Q ys
every_beside R P Q go [] [] h k = tt
every_beside R P Q go (x ∷ xs) (y ∷ ys) h k = (go x y h.0 k.0, every_beside R P Q go xs ys h.1 k.1)
every_beside R P Q go _ _ h k = absurd h

-- ---- sources, by what holds of an expression and what stands for it

module _ (a : Around) (R : Expr → Expr → Type 0) (old new : Entries) (to : (t : Ty) (e : Expr) → R e (converted_to t a.places e)) (plain : (e : Expr) → R e (marked a.places e))
    (into : (strict : Bool) (ts : List Target) (q : Select) → Beside R (old strict ts q) (new strict ts (into_converted a ts q))) where
  abbrev Alike : Sources → Sources → Type 0
  Alike = Beside R

  both : (xs us ys vs : Sources) → Alike xs ys → Alike us vs → Alike (xs ++ us) (ys ++ vs)
  both = beside_append R

  row_alike : (xs ys : List Sources) → Beside Alike xs ys → Alike (in_turn xs) (in_turn ys)
  row_alike [] [] h = tt
  row_alike (x ∷ xs) (y ∷ ys) h = both x (in_turn xs) y (in_turn ys) h.0 (row_alike xs ys h.1)
  row_alike _ _ h = absurd h

  else_alike : (o p : Option (List Sources)) → BesideOption (Beside Alike) o p → Alike (of_else o) (of_else p)
  else_alike None None h = tt
  else_alike (Some xs) (Some ys) h = row_alike xs ys h
  else_alike _ _ h = absurd h

  when_alike : (o : Option Expr) → Alike (if_there o) (if_there (maybe_marked a.places o))
  when_alike None = tt
  when_alike (Some e) = (plain e, tt)

  maybe_alike : (t : Ty) (o : Option Expr) → Alike (if_there o) (if_there (maybe_converted t a.places o))
  maybe_alike t None = tt
  maybe_alike t (Some e) = (to t e, tt)

  for_alike : (t : Option Ty) (e : Expr) → R e (for_slot t a.places e)
  for_alike None e = plain e
  for_alike (Some t) e = to t e

  defaults_alike : (ds : List Decl) → Alike (defaults ds) (defaults (decls_converted a ds))
  defaults_alike [] = tt
  defaults_alike (d ∷ ds) =
      both (if_there d.default) (defaults ds) (if_there (maybe_converted d.ty a.places d.default)) (defaults (decls_converted a ds)) (maybe_alike d.ty d.default) (defaults_alike ds)

  kind_alike : (k : LoopKind) → Alike (of_kind k) (of_kind (kind_converted a k))
  kind_alike kind.Plain = tt
  kind_alike (kind.While e) = (plain e, tt)
  kind_alike (kind.Count var reverse first last step) = (to a.counter first, (to a.counter last, maybe_alike a.counter step))

  branched_alike : (xs ys : List Sources) (o p : Option (List Sources)) → Beside Alike xs ys → BesideOption (Beside Alike) o p
      → Alike (in_turn xs ++ of_else o) (in_turn ys ++ of_else p)
  branched_alike xs ys o p h k = both (in_turn xs) (of_else o) (in_turn ys) (of_else p) (row_alike xs ys h) (else_alike o p k)

  pub sources_beside : (x : Stmt) → Beside R (stmt_of (sourcing old) x) (stmt_of (sourcing new) (converted a x))
  sources_beside = statement_kept a (sourcing old) (sourcing new) Alike Alike (record {
    block = λ label decls xs ys closing h. both (defaults decls) (in_turn xs) (defaults (decls_converted a decls)) (in_turn ys) (defaults_alike decls) (row_alike xs ys h);
    assign = λ name slot e. (for_alike (slot_type a slot) e, tt);
    if_ = branched_alike;
    cases = branched_alike;
    loop = λ label k xs ys closing h. both (of_kind k) (in_turn xs) (of_kind (kind_converted a k)) (in_turn ys) (kind_alike k) (row_alike xs ys h);
    exit = λ label when. when_alike when;
    continue = λ label when. when_alike when;
    return = λ e. (to a.result e, tt);
    raise = λ r. tt;
    into = into;
    nothing = tt;
    arm = λ test xs ys h. (plain test, row_alike xs ys h);
  })

-- ---- where a SELECT INTO has its whole select, each reads what the source reads

abbrev pub ReadsSame : Expr → Expr → Type 0
ReadsSame e x = reads x ≡ reads e

pub sources_read : (a : Around) (x : Stmt) → Beside ReadsSame (stmt_of (sourcing whole_select) x) (stmt_of (sourcing whole_select) (converted a x))
sources_read a =
    sources_beside a ReadsSame whole_select whole_select (λ t e. converted_reads t a.places e) (λ e. marked_reads a.places e)
    (λ strict ts q. (into_reads a ts q, tt))
