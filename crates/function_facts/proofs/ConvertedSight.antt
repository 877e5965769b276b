-- The expressions of a converted statement stand where those of the statement stand, with the same slots in sight.
use Rattle.std.proofs.Common.{◌≡◌, refl, ap, sym, subst, ℕ, ◌+◌, List, [], ◌∷◌, ◌++◌, fold, Option, Some, None}
use Rattle.away_values.specs.declared.types.Ty.{Ty}
use Rattle.away_trees.specs.declared.queries.Expr.{Expr}
use Rattle.away_trees.specs.declared.statements.Decl.{Decl}
use Rattle.away_trees.specs.declared.statements.LoopKind.{LoopKind}
use Rattle.away_trees.specs.declared.statements.LoopKind.TheVariants as kind
use Rattle.away_trees.specs.declared.statements.Stmt.{Stmt}
use Rattle.away_trees.specs.StatementAlgebra.{stmt_of}
use Rattle.sql_meaning.specs.Reads.{reads}
use Rattle.elaboration.specs.Converting.{Around, converted, decl_converted, decls_converted, kind_converted, maybe_converted, maybe_marked, for_slot, slot_type}
use Rattle.type_soundness.specs.Sorts.{Every}
use Rattle.function_facts.specs.Sight as sight
use Rattle.function_facts.specs.Sight.{Declared, Sighted, Walk, Walked, walking}
use Rattle.function_facts.specs.InSight.{IsSeen, ReadsInSight}
use Rattle.function_facts.proofs.ConvertedReads.{converted_reads, into_reads, marked_reads}
use Rattle.function_facts.proofs.ConvertedStatements.{Beside, BesideOption, KeepsConverted, statement_kept}
use Rattle.function_facts.proofs.ConvertedSources.{beside_append, every_beside}

-- ---- what has been walked

pub record SameSight (x y : Sighted) : Type 0 where
  pub reads_same : reads y.expr ≡ reads x.expr
  pub sight_same : y.sight ≡ x.sight

pub record SameWalked (v w : Walked) : Type 0 where
  pub exprs : Beside SameSight v.exprs w.exprs
  pub next : w.next ≡ v.next

abbrev SameWalk : Walk → Walk → Type 0
SameWalk v w = (next : ℕ) (seen : List ℕ) → SameWalked (v next seen) (w next seen)

-- wherever they begin
at_next : (v w : Walk) → SameWalk v w → (m n : ℕ) (seen : List ℕ) → n ≡ m → SameWalked (v m seen) (w n seen)
at_next v w h m n seen e = subst (λ k. SameWalked (v m seen) (w k seen)) (sym e) (h m seen)

same_none : (next : ℕ) (seen : List ℕ) → SameWalked (sight.no_expr next seen) (sight.no_expr next seen)
same_none next seen = record { exprs = tt; next = refl }

same_one : (e x : Expr) → reads x ≡ reads e → SameWalk (sight.one_expr e) (sight.one_expr x)
same_one e x h next seen = record { exprs = (record { reads_same = h; sight_same = refl }, tt); next = refl }

same_behind : (v w p q : Walked) → SameWalked v p → SameWalked w q → SameWalked (sight.behind v w) (sight.behind p q)
same_behind v w p q h k = record { exprs = beside_append SameSight v.exprs w.exprs p.exprs q.exprs h.exprs k.exprs; next = k.next }

same_and : (v w p q : Walk) → SameWalk v p → SameWalk w q → SameWalk (sight.and_walk v w) (sight.and_walk p q)
same_and v w p q h k next seen =
    let first = h next seen in
    same_behind (v next seen) (w (v next seen).next seen) (p next seen) (q (p next seen).next seen) first
    (at_next w q k (v next seen).next (p next seen).next seen first.next)

rows_same : (vs ws : List Walk) → Beside SameWalk vs ws → (seen : List ℕ) (m n : Walked) → SameWalked m n
    → SameWalked (fold (λ a w. sight.behind a (w a.next seen)) m vs) (fold (λ a w. sight.behind a (w a.next seen)) n ws)
rows_same [] [] h seen m n k = k
rows_same (v ∷ vs) (w ∷ ws) h seen m n k =
    rows_same vs ws h.1 seen (sight.behind m (v m.next seen)) (sight.behind n (w n.next seen))
    (same_behind m (v m.next seen) n (w n.next seen) k (at_next v w h.0 m.next n.next seen k.next))
rows_same _ _ h seen m n k = absurd h

same_all : (vs ws : List Walk) → Beside SameWalk vs ws → SameWalk (sight.all_walks vs) (sight.all_walks ws)
same_all vs ws h next seen = rows_same vs ws h seen (sight.no_expr next seen) (sight.no_expr next seen) (same_none next seen)

same_maybe : (o p : Option (List Walk)) → BesideOption (Beside SameWalk) o p → SameWalk (sight.maybe_walk o) (sight.maybe_walk p)
same_maybe None None h next seen = same_none next seen
same_maybe (Some vs) (Some ws) h next seen = same_all vs ws h next seen
same_maybe _ _ h next seen = absurd h

module _ (a : Around) where
  -- ---- expressions that may be there

  when_same : (o : Option Expr) → SameWalk (sight.maybe_expr o) (sight.maybe_expr (maybe_marked a.places o))
  when_same None next seen = same_none next seen
  when_same (Some e) next seen = same_one e _ (marked_reads a.places e) next seen

  default_same : (t : Ty) (o : Option Expr) → SameWalk (sight.maybe_expr o) (sight.maybe_expr (maybe_converted t a.places o))
  default_same t None next seen = same_none next seen
  default_same t (Some e) next seen = same_one e _ (converted_reads t a.places e) next seen

  assigned_reads : (t : Option Ty) (e : Expr) → reads (for_slot t a.places e) ≡ reads e
  assigned_reads None e = marked_reads a.places e
  assigned_reads (Some t) e = converted_reads t a.places e

  -- ---- declarations

  record SameDeclared (x y : Declared) : Type 0 where
    walked : SameWalked x.walked y.walked
    sight : y.sight ≡ x.sight

  decl_same : (d : Decl) (x y : Declared) → SameDeclared x y → SameDeclared (sight.with_decl x d) (sight.with_decl y (decl_converted a d))
  decl_same d x y h =
      let v = sight.maybe_expr d.default in
      let w = sight.maybe_expr (maybe_converted d.ty a.places d.default) in
      let here = subst (λ seen. SameWalked (v x.walked.next x.sight) (w y.walked.next seen)) (sym h.sight)
      (at_next v w (default_same d.ty d.default) x.walked.next y.walked.next x.sight h.walked.next) in
      record {
        walked = record {
          exprs = beside_append SameSight x.walked.exprs (v x.walked.next x.sight).exprs y.walked.exprs (w y.walked.next y.sight).exprs h.walked.exprs here.exprs;
          next = ap (λ n. n + 1) h.walked.next;
        };
        sight = λ i. h.sight i ++ h.walked.next i ∷ [];
      }

  decls_same : (ds : List Decl) (x y : Declared) → SameDeclared x y → SameDeclared (fold sight.with_decl x ds) (fold sight.with_decl y (decls_converted a ds))
  decls_same [] x y h = h
  decls_same (d ∷ ds) x y h = decls_same ds (sight.with_decl x d) (sight.with_decl y (decl_converted a d)) (decl_same d x y h)

  declared_same : (ds : List Decl) (next : ℕ) (seen : List ℕ) → SameDeclared (sight.declared ds next seen) (sight.declared (decls_converted a ds) next seen)
  declared_same ds next seen = decls_same ds _ _ (record { walked = same_none next seen; sight = refl })

  -- ---- statements

  block_same : (ds : List Decl) (vs ws : List Walk) → Beside SameWalk vs ws → (next : ℕ) (seen : List ℕ)
      → (x y : Declared) → SameDeclared x y → SameWalked (sight.behind x.walked (sight.all_walks vs x.walked.next x.sight)) (sight.behind y.walked (sight.all_walks ws y.walked.next y.sight))
  block_same ds vs ws h next seen x y k =
      same_behind x.walked (sight.all_walks vs x.walked.next x.sight) y.walked (sight.all_walks ws y.walked.next y.sight) k.walked
      (subst (λ seen. SameWalked (sight.all_walks vs x.walked.next x.sight) (sight.all_walks ws y.walked.next seen)) (sym k.sight)
      (at_next (sight.all_walks vs) (sight.all_walks ws) (same_all vs ws h) x.walked.next y.walked.next x.sight k.walked.next))

  loop_same : (k : LoopKind) (vs ws : List Walk) → Beside SameWalk vs ws → SameWalk (sight.of_loop k vs) (sight.of_loop (kind_converted a k) ws)
  loop_same kind.Plain vs ws h next seen = same_all vs ws h next seen
  loop_same (kind.While e) vs ws h next seen =
      same_and (sight.one_expr e) (sight.all_walks vs) (sight.one_expr _) (sight.all_walks ws) (same_one e _ (marked_reads a.places e)) (same_all vs ws h) next seen
  loop_same (kind.Count var reverse first last step) vs ws h next seen =
      let by = sight.maybe_expr (maybe_converted a.counter a.places step) in
      let ends = same_and (sight.one_expr last) (sight.maybe_expr step) (sight.one_expr _) by (same_one last _ (converted_reads a.counter a.places last)) (default_same a.counter step) in
      let bounds = same_and (sight.one_expr first) (sight.and_walk (sight.one_expr last) (sight.maybe_expr step)) (sight.one_expr _) (sight.and_walk (sight.one_expr _) by)
      (same_one first _ (converted_reads a.counter a.places first)) ends in
      same_behind _ _ _ _ (bounds next seen) (same_all vs ws h (next + 1) (seen ++ next ∷ []))

  branched_same : (vs ws : List Walk) (o p : Option (List Walk)) → Beside SameWalk vs ws → BesideOption (Beside SameWalk) o p
      → SameWalk (sight.and_walk (sight.all_walks vs) (sight.maybe_walk o)) (sight.and_walk (sight.all_walks ws) (sight.maybe_walk p))
  branched_same vs ws o p h k = same_and (sight.all_walks vs) (sight.maybe_walk o) (sight.all_walks ws) (sight.maybe_walk p) (same_all vs ws h) (same_maybe o p k)

  walks_kept : KeepsConverted a walking walking SameWalk SameWalk
  walks_kept = record {
    block = λ label decls vs ws closing h next seen. block_same decls vs ws h next seen (sight.declared decls next seen) (sight.declared (decls_converted a decls) next seen) (declared_same decls next seen);
    assign = λ name slot e. same_one e _ (assigned_reads (slot_type a slot) e);
    if_ = branched_same;
    cases = branched_same;
    loop = λ label k vs ws closing h. loop_same k vs ws h;
    exit = λ label when. when_same when;
    continue = λ label when. when_same when;
    return = λ e. same_one e _ (converted_reads a.result a.places e);
    raise = λ r. same_none;
    into = λ strict targets query. same_one (sight.query_of query) _ (into_reads a targets query);
    nothing = same_none;
    arm = λ test vs ws h. same_and (sight.one_expr test) (sight.all_walks vs) (sight.one_expr _) (sight.all_walks ws) (same_one test _ (marked_reads a.places test)) (same_all vs ws h);
  }

  pub walked_same : (x : Stmt) (next : ℕ) (seen : List ℕ) → SameWalked (stmt_of walking x next seen) (stmt_of walking (converted a x) next seen)
  walked_same = statement_kept a walking walking SameWalk SameWalk walks_kept

  one_in_sight : (x y : Sighted) → SameSight x y → ReadsInSight x → ReadsInSight y
  one_in_sight x y h k = subst (λ rs. Every (IsSeen y.sight) rs) (sym h.reads_same) (subst (λ s. Every (IsSeen s) (reads x.expr)) (sym h.sight_same) k)

  pub converted_in_sight : (x : Stmt) (next : ℕ) (seen : List ℕ) → Every ReadsInSight (stmt_of walking x next seen).exprs
      → Every ReadsInSight (stmt_of walking (converted a x) next seen).exprs
  converted_in_sight x next seen h =
      every_beside SameSight ReadsInSight ReadsInSight one_in_sight (stmt_of walking x next seen).exprs (stmt_of walking (converted a x) next seen).exprs (walked_same x next seen).exprs h
