-- Stretches of a run: from a block to another one or to the end of the run, with the visits that they take and the heads on them.
use Rattle.std.proofs.Common.{◌≡◌, ℕ, suc, ◌+◌, ◌-◌, ◌*◌, ◌<◌, ◌≤◌, Bool, true, false, ◌++◌, length, Some, Ok, Err, refl, ap, ◌∙◌, subst, arith}
use Rattle.std.specs.Prelude.{slice_get, slice_set, get_or}
use Rattle.away_values.specs.declared.values.Answer.{Answer}
use Rattle.away_values.specs.declared.values.Answer.TheVariants as answer
use Rattle.away_values.specs.declared.values.Class.{Class}
use Rattle.away_values.specs.declared.values.Value.{Value}
use Rattle.away_values.specs.declared.values.Value.TheVariants as val
use Rattle.away_values.specs.Operators.{is_true}
use Rattle.away_values.specs.Results.{Or}
use Rattle.sql_meaning.specs.OneReturn.{returned}
use Rattle.plsql_meaning.specs.Outcomes.{Env, Outcome, normal, exits, continues, returns, faults, more, Done}
use Rattle.block_forms.specs.declared.forms.Block.{Block}
use Rattle.block_forms.specs.declared.forms.End.TheVariants.{Jump}
use Rattle.block_forms.specs.declared.forms.Goto.{Goto}
use Rattle.block_forms.specs.declared.forms.Term.{Term}
use Rattle.block_forms.specs.Around.{Around, exit_to, again_to}
use Rattle.block_forms.specs.Machines.{Move, ends, moves, Ran, counted, then_goes, go}
use Rattle.block_forms.specs.Patterns as form
use Rattle.block_forms.specs.Runs.{Frame, way, term_value, branch, assigned, block_move, is_head, in_slots, goto_visit, goto_machine}

-- ---- where an outcome leads

pub data Dest : Type 0 where
  to : ℕ → Dest
  gives_answer : Answer → Dest
  runs_on : Dest

abbrev pub dest : ℕ → Around → ℕ → Outcome → Dest
dest finish around next normal = to next
dest finish around next (exits l) = to (exit_to finish around l)
dest finish around next (continues l) = to (again_to finish around l)
dest finish around next (returns v) = gives_answer (answer.Value v)
dest finish around next (faults c) = gives_answer (answer.Fault c)
dest finish around next more = runs_on

-- ---- what stays of the variables

-- both lengths stay, and the hidden variables before the place h stay as they were
pub record Spares (h : ℕ) (env hid env' hid' : Env) : Type 0 where
  pub keeps : length env' ≡ length env
  pub many : length hid' ≡ length hid
  pub kept : (j : ℕ) → j < h → get_or hid' j val.Null ≡ get_or hid j val.Null

pub spares_all : {h : ℕ} {env hid : Env} → Spares h env hid env hid
spares_all = record { keeps = refl; many = refl; kept = λ j lt. refl }

pub spares_env : {h : ℕ} {env hid env' : Env} → length env' ≡ length env → Spares h env hid env' hid
spares_env e = record { keeps = e; many = refl; kept = λ j lt. refl }

pub spares_on : {h h1 h2 : ℕ} {e0 i0 e1 i1 e2 i2 : Env} → Spares h1 e0 i0 e1 i1 → Spares h2 e1 i1 e2 i2 → h ≤ h1 → h ≤ h2 → Spares h e0 i0 e2 i2
spares_on p q le1 le2 = record {
  keeps = q.keeps ∙ p.keeps;
  many = q.many ∙ p.many;
  kept = λ j lt. q.kept j (omega arith) ∙ p.kept j (omega arith);
}

counted_sum : (h : Bool) (a a' : ℕ) → a' ≡ counted h 0 + a → counted h a ≡ a'
counted_sum true a a' e = omega arith
counted_sum false a a' e = omega arith

truth : (c : Bool) → is_true (val.Bool c) ≡ c
truth true = refl
truth false = refl

abbrev pub Is : Goto → ℕ → Block → Type 0
Is g b x = slice_get g.blocks b ≡ Some x

module _ (frame : Frame) (g : Goto) where
  abbrev pub run : ℕ → ℕ → Env → ℕ → Ran
  run k b env a = go (goto_machine frame g) k (b, env) a

  -- from b the run comes to b' within so many visits, over at least so many heads
  pub record Reaches (b : ℕ) (env : Env) (most least b' : ℕ) (env' : Env) : Type 0 where
    pub visits : ℕ
    pub heads : ℕ
    pub at_most : visits ≤ most
    pub at_least : least ≤ heads
    pub by : (k j a a' : ℕ) → j ≡ visits + k → a' ≡ heads + a → run j b env a ≡ run k b' env' a'

  -- from b the run ends within so many visits
  pub record Ends (b : ℕ) (env : Env) (most : ℕ) (answer : Answer) : Type 0 where
    pub visits : ℕ
    pub at_most : visits ≤ most
    pub by : (j a : ℕ) → visits ≤ j → (run j b env a).answer ≡ answer

  abbrev pub Leads : Dest → Env → ℕ → Env → ℕ → ℕ → ℕ → Type 0
  Leads (to t) env' b env most used left = Reaches b env most used t env'
  Leads (gives_answer a) env' b env most used left = Ends b env most a
  Leads runs_on env' b env most used left = (left ≡ 0) × (c : ℕ) × (e : Env) × Reaches b env most (suc used) c e

  -- From b the run does what the end of a statement says, within the weight times the turns used and one. The form's variables are the
  -- function's and the hidden ones, of which those before the place h stay as they were.
  pub record Goes (around : Around) (next b : ℕ) (env hid : Env) (h n weight : ℕ) (d : Done) : Type 0 where
    pub used : ℕ
    pub turns : n ≡ used + d.left
    pub hidden : Env
    pub spares : Spares h env hid d.env hidden
    pub leads : Leads (dest g.finish around next d.outcome) (d.env ++ hidden) b (env ++ hid) (weight * suc used) used d.left

  -- a branch by the value of its term, and an assignment by the value of its term
  abbrev pub Branches : Or Value → ℕ → Env → Bool → ℕ → ℕ → Type 0
  Branches (Err c) b env h y n = Ends b env 1 (answer.Fault c)
  Branches (Ok v) b env h y n = Reaches b env 1 (counted h 0) (way (is_true v) y n) env

  abbrev pub Stores : Or Value → ℕ → Env → ℕ → ℕ → Type 0
  Stores (Err c) b env slot t = Ends b env 1 (answer.Fault c)
  Stores (Ok v) b env slot t = Reaches b env 1 0 t (slice_set env slot v)

module _ {frame : Frame} {g : Goto} where
  -- ---- one stretch after another

  pub stays : {b : ℕ} {env : Env} → Reaches frame g b env 0 0 b env
  stays {b} {env} = record {
    visits = 0;
    heads = 0;
    at_most = omega arith;
    at_least = omega arith;
    by = λ k j a a' e f.
        let e' : j ≡ k = omega arith in
        let f' : a ≡ a' = omega arith in
        ap (λ j. run frame g j b env a) e' ∙ ap (λ a. run frame g k b env a) f';
  }

  pub then_reaches : {b b1 b2 m1 h1 m2 h2 m h : ℕ} {e e1 e2 : Env} → Reaches frame g b e m1 h1 b1 e1 → Reaches frame g b1 e1 m2 h2 b2 e2
      → m1 + m2 ≤ m → h ≤ h1 + h2 → Reaches frame g b e m h b2 e2
  then_reaches p q le ge = record {
    visits = p.visits + q.visits;
    heads = p.heads + q.heads;
    at_most = omega (arith, p.at_most, q.at_most);
    at_least = omega (arith, p.at_least, q.at_least);
    by = λ k j a a' e f.
        p.by (q.visits + k) j a (p.heads + a) (omega arith) refl ∙ q.by k (q.visits + k) (p.heads + a) a' refl (omega arith);
  }

  pub then_ends : {b b1 m1 h1 m2 m : ℕ} {e e1 : Env} {x : Answer} → Reaches frame g b e m1 h1 b1 e1 → Ends frame g b1 e1 m2 x
      → m1 + m2 ≤ m → Ends frame g b e m x
  then_ends p q le = record {
    visits = p.visits + q.visits;
    at_most = omega (arith, p.at_most, q.at_most);
    by = λ j a more.
        ap (λ r. r.answer) (p.by (j - p.visits) j a (p.heads + a) (omega arith) refl) ∙ q.by (j - p.visits) (p.heads + a) (omega arith);
  }

  pub then_leads : {b b1 m1 h1 : ℕ} {e e1 : Env} (d : Dest) (m2 u2 m u left : ℕ) (e2 : Env) → Reaches frame g b e m1 h1 b1 e1
      → Leads frame g d e2 b1 e1 m2 u2 left → m1 + m2 ≤ m → u ≤ h1 + u2 → Leads frame g d e2 b e m u left
  then_leads (to t) m2 u2 m u left e2 p q le ge = then_reaches p q le ge
  then_leads (gives_answer x) m2 u2 m u left e2 p q le ge = then_ends p q le
  then_leads runs_on m2 u2 m u left e2 p q le ge = (q.0, q.1, q.2, then_reaches p q.3 le (omega arith))

-- ---- one block

module _ (frame : Frame) (g : Goto) where
  abbrev visited : Block → Env → Move (ℕ × Env)
  visited x env = block_move frame (in_slots frame) x.set x.end env

  visit : (x : Block) (b j k a : ℕ) (env : Env) → Is g b x → j ≡ suc k
      → run frame g j b env a ≡ then_goes (visited x env) (go (goto_machine frame g) k) (counted x.head a)
  visit x b j k a env h e =
      ap (λ j. run frame g j b env a) e
      ∙ ap (λ o. then_goes (goto_visit frame o env) (go (goto_machine frame g) k) (counted (is_head o) a)) h

  -- a visit that leads on to a block
  onward : (x : Block) {b t : ℕ} {env env' : Env} → Is g b x → visited x env ≡ moves (t, env') → Reaches frame g b env 1 (counted x.head 0) t env'
  onward x {b} {t} {env} {env'} h does = record {
    visits = 1;
    heads = counted x.head 0;
    at_most = omega arith;
    at_least = omega arith;
    by = λ k j a a' e f.
        visit x b j k a env h (omega arith)
        ∙ ap (λ v. then_goes v (go (goto_machine frame g) k) (counted x.head a)) does
        ∙ ap (λ a. run frame g k t env' a) (counted_sum x.head a a' f);
  }

  -- a visit that ends the run
  final : (x : Block) (r : Or Value) {b : ℕ} {env : Env} → Is g b x → visited x env ≡ ends r → Ends frame g b env 1 (returned r)
  final x r {b} {env} h does = record {
    visits = 1;
    at_most = omega arith;
    by = λ j a le.
        ap (λ r. r.answer) (visit x b j (j - 1) a env h (omega arith))
        ∙ ap (λ v. (then_goes v (go (goto_machine frame g) (j - 1)) (counted x.head a)).answer) does;
  }

module _ {frame : Frame} {g : Goto} where
  pub jumps_on : (h : Bool) {b t : ℕ} {env : Env} → Is g b (form.jumps h t) → Reaches frame g b env 1 (counted h 0) t env
  jumps_on h {t = t} is = onward frame g (form.jumps h t) is refl

  pub fails_there : {b : ℕ} {c : Class} {env : Env} → Is g b (form.fails c) → Ends frame g b env 1 (answer.Fault c)
  fails_there {c = c} is = final frame g (form.fails c) (Err c) is refl

module _ (frame : Frame) (g : Goto) where
  abbrev pub value_in : Term → Env → Or Value
  value_in t env = term_value frame (in_slots frame) t env

  pub returns_there : (t : Term) (env : Env) (r : Or Value) {b : ℕ} → value_in t env ≡ r → Is g b (form.returns t)
      → Ends frame g b env 1 (returned r)
  returns_there t env r e is = final frame g (form.returns t) r is (ap ends e)

  pub branches_at : (h : Bool) (t : Term) (env : Env) (r : Or Value) (b : ℕ) {y n : ℕ} → value_in t env ≡ r → Is g b (form.branches h t y n)
      → Branches frame g r b env h y n
  branches_at h t env (Err c) b {y = y} {n = n} e is =
      final frame g (form.branches h t y n) (Err c) is (ap (λ r. branch frame (in_slots frame) r y n env) e)
  branches_at h t env (Ok v) b {y = y} {n = n} e is =
      onward frame g (form.branches h t y n) is (ap (λ r. branch frame (in_slots frame) r y n env) e)

  -- the same where the value is a truth value
  pub decides_at : (h : Bool) (t : Term) (env : Env) (c : Bool) (b : ℕ) {y n : ℕ} → value_in t env ≡ Ok (val.Bool c)
      → Is g b (form.branches h t y n)
      → Reaches frame g b env 1 (counted h 0) (way c y n) env
  decides_at h t env c b {y} {n} e is =
      subst (λ c. Reaches frame g b env 1 (counted h 0) (way c y n) env) (truth c) (branches_at h t env (Ok (val.Bool c)) b e is)

  pub stores_at : (slot : ℕ) (x : Term) (env : Env) (r : Or Value) (b : ℕ) {t : ℕ} → value_in x env ≡ r → Is g b (form.sets slot x t)
      → Stores frame g r b env slot t
  stores_at slot x env (Err c) b {t = t} e is =
      final frame g (form.sets slot x t) (Err c) is (ap (λ r. assigned frame (in_slots frame) slot r (Jump t) env) e)
  stores_at slot x env (Ok v) b {t = t} e is =
      onward frame g (form.sets slot x t) is (ap (λ r. assigned frame (in_slots frame) slot r (Jump t) env) e)
