-- What a statement with statements in it has become, by what its parts have.
use Rattle.std.proofs.Common.{◌≡◌, refl, sym, ap, ◌∙◌, subst, ℕ, ◌+◌, List, [], ◌∷◌, length, map, sum, sum_by, Option, Some, None, is_none, true, Result, Ok, Err, IfOk, IfSome, arith}
use Rattle.std.proofs.lemmas.Bool.{false≢true}
use Rattle.std.proofs.lemmas.List.Sums.{sum-map}
use Rattle.away_trees.specs.declared.queries.Expr.{Expr}
use Rattle.away_trees.specs.declared.statements.Arm.{Arm}
use Rattle.away_trees.specs.declared.statements.Decl.{Decl}
use Rattle.away_trees.specs.declared.statements.LoopKind.{LoopKind}
use Rattle.away_trees.specs.declared.statements.LoopKind.TheVariants as kind
use Rattle.away_trees.specs.declared.statements.Stmt.{Stmt}
use Rattle.away_trees.specs.declared.statements.Stmt.TheBlock as b
use Rattle.away_trees.specs.declared.statements.Stmt.TheVariants as stmt
use Rattle.away_trees.specs.StatementAlgebra.{stmts_of}
use Rattle.plsql_meaning.specs.Outcomes.{Label}
use Rattle.plsql_meaning.specs.Slots.{slot_counting}
use Rattle.plsql_meaning.specs.Statements.{body_at, kind_vars}
use Rattle.call_meaning.specs.Alike.{Fresh, Slots, in_block, in_loop}
use Rattle.call_meaning.specs.Becomes.{Place, Rules, arms_become, becomes, behind, behind_arm, counted, kind_becomes, loop_slots, maybe_becomes, row_becomes, within_block, within_loop}
use Rattle.moved_slots.specs.Moved.{slots_by}
use Rattle.call_answers.specs.declared.walking.InSight.{InSight}
use Rattle.call_answers.specs.declared.walking.Spot.{Spot}
use Rattle.call_answers.specs.declared.walking.Walk.{Walk}
use Rattle.call_answers.specs.Walking.{ArmBecomes, ArmsBecome, DeclsBecome, KindRenamed, MaybeRenamed, OtherBecomes, RowBecomes, StmtBecomes, head_slots, labels, place, rules_of}
use Rattle.call_answers.proofs.Chains.{arms_count, arm_counted, arm_counts, block_counted, cases_counted, decls_are, if_counted, loop_counted, other_counted, nothing_more, row_counts}

module _ (r : Rules) (c : InSight) where
  moved_on : (p m : Spot) (s x : Stmt) → StmtBecomes r c p s x m → place c m ≡ behind s x (place c p)
  moved_on p m s x h = λ i. record (place c p) { at = h.own i; at' = h.new i }

  pub row_is : (p q : Spot) (ss xs : List Stmt) → RowBecomes r c p ss xs q → row_becomes r (b.hidden-the_row-Stmt-0 ss) (place c p) xs
  unfolding b.hidden-the_row-Stmt-0 denote.Hole.Carrier.hidden
  row_is p q [] [] h = tt
  row_is p q [] (x ∷ xs) h = absurd h
  row_is p q (s ∷ ss) [] h = absurd h
  row_is p q (s ∷ ss) (x ∷ xs) h =
      (h.1.0.it, subst (λ d. row_becomes r (b.hidden-the_row-Stmt-0 ss) d xs) (moved_on p h.0 s x h.1.0) (row_is h.0 q ss xs h.1.1))

  row_counted : (ss : List Stmt) → stmts_of slot_counting (b.hidden-the_row-Stmt-0 ss) ≡ map counted ss
  unfolding b.hidden-the_row-Stmt-0 denote.Hole.Carrier.hidden
  row_counted [] = refl
  row_counted (s ∷ ss) = ap (λ ys. counted s ∷ ys) (row_counted ss)

  body_counted : (ss : List Stmt) → sum (stmts_of slot_counting (b.hidden-the_row-Stmt-0 ss)) ≡ sum_by counted ss
  body_counted ss = ap (λ xs. sum xs) (row_counted ss) ∙ sum-map counted ss

  moved_on_arm : (p m : Spot) (a x : Arm) → ArmBecomes r c p a x m
      → place c m ≡ behind_arm (sum (stmts_of slot_counting (b.hidden-the_row-Stmt-0 a.body))) x (place c p)
  moved_on_arm p m a x h =
      let k = row_counts r c p a.body x.body m h.body in
      λ i. record (place c p) { at = (k.0 ∙ ap (λ n. p.at + n) (sym (body_counted a.body))) i; at' = (k.1 ∙ ap (λ n. p.new + n) (sym (arm_counts x))) i }

  arms_are : (K : Place → Type 0) (p q : Spot) (as_ xs : List Arm) → ArmsBecome r c p as_ xs q → K (place c q) → arms_become r (b.hidden-the_row-Arm-1 as_) K (place c p) xs
  unfolding b.hidden-the_row-Arm-1 b.hidden-the_row-Stmt-0 denote.Hole.Carrier.hidden
  arms_are K p q [] [] h k = subst (λ z. K (place c z)) (sym h) k
  arms_are K p q [] (x ∷ xs) h k = absurd h
  arms_are K p q (a ∷ as_) [] h k = absurd h
  arms_are K p q (a ∷ as_) (x ∷ xs) h k = (
    h.1.0.test,
    row_is p h.0 a.body x.body h.1.0.body,
    subst (λ d. arms_become r (b.hidden-the_row-Arm-1 as_) K d xs) (moved_on_arm p h.0 a x h.1.0) (arms_are K h.0 q as_ xs h.1.1 k),
  )

  -- ---- IF and CASE

  branches_count : (p m q : Spot) (arms arms' : List Arm) (other other' : Option (List Stmt)) → ArmsBecome r c p arms arms' m → OtherBecomes r c m other other' q
      → (q.at ≡ p.at + (sum_by arm_counted arms + other_counted other)) × (q.new ≡ p.new + (sum_by arm_counted arms' + other_counted other'))
  branches_count p m q arms arms' None None h o =
      let k = arms_count r c p arms arms' m h in
      let a = ap (λ (z : Spot). z.at) o in let d = ap (λ (z : Spot). z.new) o in
      (omega (arith, k.0, a), omega (arith, k.1, d))
  branches_count p m q arms arms' None (Some xs) h o = absurd o
  branches_count p m q arms arms' (Some ss) None h o = absurd o
  branches_count p m q arms arms' (Some ss) (Some xs) h o =
      let k = arms_count r c p arms arms' m h in
      let l = row_counts r c m ss xs q o in
      (omega (arith, k.0, l.0), omega (arith, k.1, l.1))

  if_is : (p m q : Spot) (arms arms' : List Arm) (other other' : Option (List Stmt)) → ArmsBecome r c p arms arms' m → OtherBecomes r c m other other' q
      → becomes r (stmt.If arms other) (place c p) (stmt.If arms' other')
  if_is p m q arms arms' None None h o = (arms', None, (refl, arms_are (λ d. Unit {0}) p m arms arms' h tt))
  if_is p m q arms arms' None (Some xs) h o = absurd o
  if_is p m q arms arms' (Some ss) None h o = absurd o
  if_is p m q arms arms' (Some ss) (Some xs) h o = (
    arms',
    Some xs,
    (
      refl,
      arms_are (λ d. row_becomes r (b.hidden-the_row-Stmt-0 ss) d xs) p m arms arms' h (row_is m q ss xs o),
    ),
  )

  if_rule : (p m q : Spot) (arms list arms' : List Arm) (other other' : Option (List Stmt)) (s : Stmt) → s ≡ stmt.If arms other → list ≡ arms
      → ArmsBecome r c p list arms' m → OtherBecomes r c m other other' q → StmtBecomes r c p s (stmt.If arms' other') q
  if_rule p m q arms list arms' other other' s e f h o =
      let g = subst (λ z. ArmsBecome r c p z arms' m) f h in
      let k = branches_count p m q arms arms' other other' g o in
      subst (λ z. StmtBecomes r c p z (stmt.If arms' other') q) (sym e) (record {
        it = if_is p m q arms arms' other other' g o;
        own = k.0 ∙ ap (λ n. p.at + n) (sym (if_counted arms other));
        new = k.1 ∙ ap (λ n. p.new + n) (sym (if_counted arms' other'));
      })

  -- by equations
  pub if_by : (p m q : Spot) (arms list arms' list' : List Arm) (other other' : Option (List Stmt)) (s x : Stmt) → s ≡ stmt.If arms other → x ≡ stmt.If arms' other' → list ≡ arms → list' ≡ arms'
      → ArmsBecome r c p list list' m → OtherBecomes r c m other other' q → StmtBecomes r c p s x q
  if_by p m q arms list arms' list' other other' s x e e' f f' h o =
      subst (λ z. StmtBecomes r c p s z q) (sym e') (if_rule p m q arms list arms' other other' s e f (subst (λ z. ArmsBecome r c p list z m) f' h) o)

  cases_is : (p m q : Spot) (arms arms' : List Arm) (other other' : Option (List Stmt)) → ArmsBecome r c p arms arms' m → OtherBecomes r c m other other' q
      → becomes r (stmt.Cases arms other) (place c p) (stmt.Cases arms' other')
  cases_is p m q arms arms' None None h o = (arms', None, (refl, arms_are (λ d. Unit {0}) p m arms arms' h tt))
  cases_is p m q arms arms' None (Some xs) h o = absurd o
  cases_is p m q arms arms' (Some ss) None h o = absurd o
  cases_is p m q arms arms' (Some ss) (Some xs) h o = (
    arms',
    Some xs,
    (
      refl,
      arms_are (λ d. row_becomes r (b.hidden-the_row-Stmt-0 ss) d xs) p m arms arms' h (row_is m q ss xs o),
    ),
  )

  cases_rule : (p m q : Spot) (arms list arms' : List Arm) (other other' : Option (List Stmt)) (s : Stmt) → s ≡ stmt.Cases arms other → list ≡ arms
      → ArmsBecome r c p list arms' m → OtherBecomes r c m other other' q → StmtBecomes r c p s (stmt.Cases arms' other') q
  cases_rule p m q arms list arms' other other' s e f h o =
      let g = subst (λ z. ArmsBecome r c p z arms' m) f h in
      let k = branches_count p m q arms arms' other other' g o in
      subst (λ z. StmtBecomes r c p z (stmt.Cases arms' other') q) (sym e) (record {
        it = cases_is p m q arms arms' other other' g o;
        own = k.0 ∙ ap (λ n. p.at + n) (sym (cases_counted arms other));
        new = k.1 ∙ ap (λ n. p.new + n) (sym (cases_counted arms' other'));
      })

  -- by equations
  pub cases_by : (p m q : Spot) (arms list arms' list' : List Arm) (other other' : Option (List Stmt)) (s x : Stmt) → s ≡ stmt.Cases arms other → x ≡ stmt.Cases arms' other' → list ≡ arms → list' ≡ arms'
      → ArmsBecome r c p list list' m → OtherBecomes r c m other other' q → StmtBecomes r c p s x q
  cases_by p m q arms list arms' list' other other' s x e e' f f' h o =
      subst (λ z. StmtBecomes r c p s z q) (sym e') (cases_rule p m q arms list arms' other other' s e f (subst (λ z. ArmsBecome r c p list z m) f' h) o)

module _ (r : Rules) (c : InSight) where
  -- ---- what stands behind ELSE

  pub other_none : (m : Spot) (rest other : Option (List Stmt)) → rest ≡ None → is_none other ≡ true → OtherBecomes r c m rest other m
  other_none m rest None e f = subst (λ z. OtherBecomes r c m z None m) (sym e) refl
  other_none m rest (Some xs) e f = absurd (false≢true f)

  pub other_some : (m q : Spot) (rest other : Option (List Stmt)) (own list body xs : List Stmt) → rest ≡ Some own → other ≡ Some body → list ≡ own → xs ≡ body → RowBecomes r c m list xs q → OtherBecomes r c m rest other q
  other_some m q rest other own list body xs e f g h k =
      subst (λ z. OtherBecomes r c m z other q) (sym e) (subst (λ z. OtherBecomes r c m (Some own) z q) (sym f)
      (subst (λ z. RowBecomes r c m own z q) h (subst (λ z. RowBecomes r c m z xs q) g k)))

  -- ---- blocks

  pub block_rule : (p from q : Spot) (inside : InSight) (pairs : List (ℕ × ℕ)) (label label' : Label) (decls decls' : List Decl) (body body' : List Stmt) (closing closing' : Label)
      → Fresh (labels c) r.way label label' → DeclsBecome r (slots_by c.slots) p decls decls' (slots_by pairs) from
      → inside.slots ≡ pairs → labels inside ≡ in_block label label' (labels c) → RowBecomes r inside from body body' q
      → StmtBecomes r c p (stmt.Block label decls body closing) (stmt.Block label' decls' body' closing') q
  block_rule p from q inside pairs label label' decls decls' body body' closing closing' f h e l rows =
      let d = decls_are r decls decls' (slots_by c.slots) p (slots_by pairs) from h in
      let there : place inside from ≡ within_block label label' (length decls) (place c p) =
      λ i. record { at = d.own i; at' = d.new i; slots = (ap (λ ps. slots_by ps) e ∙ d.slots) i; labels = l i } in
      let k = row_counts r inside from body body' q rows in
      let a = block_counted label decls body closing in let z = block_counted label' decls' body' closing' in
      let o = d.own in let n = d.new in let m = d.as_many in
      record {
        it = (
          label',
          decls',
          body',
          closing',
          (
            refl,
            f,
            d.become,
            subst (λ y. row_becomes r (b.hidden-the_row-Stmt-0 body) y body') there (row_is r inside from q body body' rows),
          ),
        );
        own = omega (arith, k.0, a, o);
        new = omega (arith, k.1, z, n, m);
      }

  -- by equations
  pub block_by : (p from q : Spot) (inside : InSight) (pairs cs : List (ℕ × ℕ)) (label label' : Label) (ds decls decls' : List Decl) (list body body' : List Stmt) (closing closing' : Label) (s : Stmt)
      → s ≡ stmt.Block label decls body closing → ds ≡ decls → list ≡ body → cs ≡ c.slots
      → Fresh (labels c) r.way label label' → DeclsBecome r (slots_by cs) p ds decls' (slots_by pairs) from
      → inside.slots ≡ pairs → labels inside ≡ in_block label label' (labels c) → RowBecomes r inside from list body' q
      → StmtBecomes r c p s (stmt.Block label' decls' body' closing') q
  block_by p from q inside pairs cs label label' ds decls decls' list body body' closing closing' s i j k n f h e l rows =
      subst (λ z. StmtBecomes r c p z (stmt.Block label' decls' body' closing') q) (sym i)
      (block_rule p from q inside pairs label label' decls decls' body body' closing closing' f
      (subst (λ z. DeclsBecome r (slots_by z) p decls decls' (slots_by pairs) from) n (subst (λ z. DeclsBecome r (slots_by cs) p z decls' (slots_by pairs) from) j h))
      e l (subst (λ z. RowBecomes r inside from z body' q) k rows))

  pub arm_rule : (p q : Spot) (a x : Arm) (cs : List (ℕ × ℕ)) (list xs : List Stmt) → cs ≡ c.slots → list ≡ a.body → xs ≡ x.body → r.expr (slots_by cs) a.test x.test → RowBecomes r c p list xs q → ArmBecomes r c p a x q
  arm_rule p q a x cs list xs n k k' t h = record {
    test = subst (λ z. r.expr (slots_by z) a.test x.test) n t;
    body = subst (λ z. RowBecomes r c p a.body z q) k' (subst (λ z. RowBecomes r c p z xs q) k h);
  }

module _ (w : Walk) (c : InSight) where
  pub maybe_is : (m : Slots) (e x : Option Expr) → MaybeRenamed m e x → maybe_becomes (rules_of w) m e x
  maybe_is m None None h = tt
  maybe_is m None (Some x) h = absurd h
  maybe_is m (Some e) None h = absurd h
  maybe_is m (Some e) (Some x) h = h

  kind_is : (p : Spot) (k k' : LoopKind) → KindRenamed (slots_by c.slots) k k' → kind_becomes (rules_of w) (place c p) k k'
  kind_is p kind.Plain kind.Plain h = tt
  kind_is p (kind.While e) (kind.While x) h = h
  kind_is p (kind.Count v o f l s) (kind.Count v' o' f' l' s') h = (h.0, h.1, h.2, maybe_is (slots_by c.slots) s s' h.3)
  kind_is p kind.Plain (kind.While x) h = absurd h
  kind_is p kind.Plain (kind.Count v' o' f' l' s') h = absurd h
  kind_is p (kind.While e) kind.Plain h = absurd h
  kind_is p (kind.While e) (kind.Count v' o' f' l' s') h = absurd h
  kind_is p (kind.Count v o f l s) kind.Plain h = absurd h
  kind_is p (kind.Count v o f l s) (kind.While x) h = absurd h

  vars_are : (k k' : LoopKind) → KindRenamed (slots_by c.slots) k k' → kind_vars k' ≡ kind_vars k
  vars_are kind.Plain kind.Plain h = refl
  vars_are (kind.While e) (kind.While x) h = refl
  vars_are (kind.Count v o f l s) (kind.Count v' o' f' l' s') h = refl
  vars_are kind.Plain (kind.While x) h = absurd h
  vars_are kind.Plain (kind.Count v' o' f' l' s') h = absurd h
  vars_are (kind.While e) kind.Plain h = absurd h
  vars_are (kind.While e) (kind.Count v' o' f' l' s') h = absurd h
  vars_are (kind.Count v o f l s) kind.Plain h = absurd h
  vars_are (kind.Count v o f l s) (kind.While x) h = absurd h

  body_vars : (k : LoopKind) (n : ℕ) → body_at k n ≡ n + kind_vars k
  body_vars kind.Plain n = nothing_more n 0 refl
  body_vars (kind.While e) n = nothing_more n 0 refl
  body_vars (kind.Count v o f l s) n = refl

  head_is : (k : LoopKind) (p : Spot) → head_slots k p (slots_by c.slots) ≡ loop_slots k (place c p)
  head_is kind.Plain p = refl
  head_is (kind.While e) p = refl
  head_is (kind.Count v o f l s) p = refl

  pub loop_rule : (p from q : Spot) (inside : InSight) (pairs : List (ℕ × ℕ)) (label label' : Label) (k k' : LoopKind) (body body' : List Stmt) (closing closing' : Label)
      → Fresh (labels c) (rules_of w).way label label' → KindRenamed (slots_by c.slots) k k'
      → slots_by pairs ≡ head_slots k p (slots_by c.slots) → from.at ≡ body_at k p.at → from.new ≡ body_at k p.new
      → inside.slots ≡ pairs → labels inside ≡ in_loop label label' (labels c) → RowBecomes (rules_of w) inside from body body' q
      → StmtBecomes (rules_of w) c p (stmt.Loop label k body closing) (stmt.Loop label' k' body' closing') q
  loop_rule p from q inside pairs label label' k k' body body' closing closing' f h hs ha hn e l rows =
      let v = vars_are k k' h in
      let m : from.new ≡ body_at k' p.new = hn ∙ (body_vars k p.new ∙ (ap (λ z. p.new + z) (sym v) ∙ sym (body_vars k' p.new))) in
      let there : place inside from ≡ within_loop label label' k k' (place c p) =
      λ i. record { at = ha i; at' = m i; slots = (ap (λ ps. slots_by ps) e ∙ (hs ∙ head_is k p)) i; labels = l i } in
      let t = row_counts (rules_of w) inside from body body' q rows in
      let a = loop_counted label k body closing in let z = loop_counted label' k' body' closing' in
      let o = ha ∙ body_vars k p.at in let n = m ∙ body_vars k' p.new in
      record {
        it = (
          label',
          k',
          body',
          closing',
          (
            refl,
            f,
            kind_is p k k' h,
            subst (λ y. row_becomes (rules_of w) (b.hidden-the_row-Stmt-0 body) y body') there (row_is (rules_of w) inside from q body body' rows),
          ),
        );
        own = omega (arith, t.0, a, o);
        new = omega (arith, t.1, z, n);
      }

  -- by equations
  pub loop_by : (p from q : Spot) (inside : InSight) (pairs cs : List (ℕ × ℕ)) (label label' : Label) (k k' : LoopKind) (list body body' : List Stmt) (closing closing' : Label) (s : Stmt)
      → s ≡ stmt.Loop label k body closing → list ≡ body → cs ≡ c.slots
      → Fresh (labels c) (rules_of w).way label label' → KindRenamed (slots_by cs) k k'
      → slots_by pairs ≡ head_slots k p (slots_by cs) → from.at ≡ body_at k p.at → from.new ≡ body_at k p.new
      → inside.slots ≡ pairs → labels inside ≡ in_loop label label' (labels c) → RowBecomes (rules_of w) inside from list body' q
      → StmtBecomes (rules_of w) c p s (stmt.Loop label' k' body' closing') q
  loop_by p from q inside pairs cs label label' k k' list body body' closing closing' s i j n f h hs ha hn e l rows =
      subst (λ z. StmtBecomes (rules_of w) c p z (stmt.Loop label' k' body' closing') q) (sym i)
      (loop_rule p from q inside pairs label label' k k' body body' closing closing' f (subst (λ z. KindRenamed (slots_by z) k k') n h)
      (subst (λ z. slots_by pairs ≡ head_slots k p (slots_by z)) n hs) ha hn e l (subst (λ z. RowBecomes (rules_of w) inside from z body' q) j rows))

-- ---- what is told of a result that may fail, or be none

pub under : {A E : Type 0} (P Q : A → Type 0) (x : Result (Option A) E) → ((a : A) → P a → Q a) → IfOk x (λ r. IfSome r P) → IfOk x (λ r. IfSome r Q)
under P Q (Ok None) f h = h
under P Q (Ok (Some a)) f h = f a h
under P Q (Err e) f h = h

pub some_of : {A : Type 0} (P : A → Type 0) (o : Option A) (a : A) → o ≡ Some a → IfSome o P → P a
some_of P o a e h = subst (λ z. IfSome z P) e h
