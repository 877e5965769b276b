-- What the blocks of steps do: a step that takes no turn, a stretch before a step, one step after another, a condition, and the end of a block.
use Rattle.std.proofs.Common.{◌≡◌, ℕ, suc, ◌+◌, ◌*◌, ◌≤◌, Bool, true, false, if◌then◌else◌, ◌∷◌, ◌++◌, length, Some, None, Ok, Err, refl, arith}
use Rattle.away_values.specs.declared.values.Answer.TheVariants as answer
use Rattle.away_values.specs.declared.values.Class.{Class}
use Rattle.away_values.specs.Operators.{is_true}
use Rattle.away_values.specs.declared.values.Value.{Value}
use Rattle.away_values.specs.Results.{Or}
use Rattle.plsql_meaning.specs.Outcomes.{Env, Label, Outcome, normal, exits, continues, returns, faults, more, Done, done, Step, after, and_then, closed_as, close, names_block}
use Rattle.plsql_meaning.specs.Statements.{pick, choose}
use Rattle.block_forms.specs.declared.forms.Goto.{Goto}
use Rattle.block_forms.specs.declared.forms.Term.{Term}
use Rattle.block_forms.specs.Around.{Around, exit_to}
use Rattle.block_forms.specs.Patterns as form
use Rattle.block_forms.specs.Runs.{Frame, way}
use Rattle.goto_law.proofs.Budgets.{scaled, in_a_row}
use Rattle.goto_law.proofs.Stretches.{Dest, to, dest, value_in, Reaches, Ends, Leads, Goes, Spares, spares_all, spares_env, spares_on, stays, then_leads, Is, Branches, branches_at}

abbrev pub of_block : Label → ℕ → Around → Around
of_block own next around = record { label = own; exit = next; again = None } ∷ around

abbrev pub of_loop : Label → ℕ → ℕ → Around → Around
of_loop own next again around = record { label = own; exit = next; again = Some again } ∷ around

module _ {frame : Frame} {g : Goto} {around : Around} {next b : ℕ} {env hid : Env} {h n : ℕ} where
  -- a step that takes no turn
  pub at_once : {w : ℕ} (o : Outcome) (env' : Env) → length env' ≡ length env
      → Leads frame g (dest g.finish around next o) (env' ++ hid) b (env ++ hid) w 0 n → Goes frame g around next b env hid h n w (done o env' n)
  at_once {w} o env' keeps l = record {
    used = 0;
    turns = omega arith;
    hidden = hid;
    spares = spares_env keeps;
    leads = then_leads (dest g.finish around next o) w 0 (w * suc 0) 0 n (env' ++ hid) stays l (omega arith) (omega arith);
  }

  pub at_next : {w : ℕ} {env' : Env} → length env' ≡ length env → Reaches frame g b (env ++ hid) w 0 next (env' ++ hid)
      → Goes frame g around next b env hid h n w (done normal env' n)
  at_next {env' = env'} keeps l = at_once normal env' keeps l

  pub at_fault : {w : ℕ} {c : Class} → Ends frame g b (env ++ hid) w (answer.Fault c)
      → Goes frame g around next b env hid h n w (done (faults c) env n)
  at_fault {c = c} l = at_once (faults c) env refl l

  -- a stretch before a step
  pub after_path : {b1 h1 m v w : ℕ} {env1 hid1 : Env} {d : Done} → Reaches frame g b (env ++ hid) m 0 b1 (env1 ++ hid1)
      → Spares h env hid env1 hid1
      → Goes frame g around next b1 env1 hid1 h1 n v d → h ≤ h1 → m + v ≤ w → Goes frame g around next b env hid h n w d
  after_path {m = m} {v = v} {w = w} {d = d} p s q hl le = record {
    used = q.used;
    turns = q.turns;
    hidden = q.hidden;
    spares = spares_on s q.spares (omega arith) hl;
    leads =
        then_leads (dest g.finish around next d.outcome) (v * suc q.used) q.used (w * suc q.used) q.used d.left (d.env ++ q.hidden) p q.leads
        (scaled m v w q.used le) (omega arith);
  }

  -- the same under a greater weight, where fewer hidden variables stay
  pub lighter : {h1 v w : ℕ} {d : Done} → Goes frame g around next b env hid h1 n v d → h ≤ h1 → v ≤ w → Goes frame g around next b env hid h n w d
  lighter q hl le = after_path stays spares_all q hl (omega arith)

  pub heavier : {v w : ℕ} {d : Done} → Goes frame g around next b env hid h n v d → v ≤ w → Goes frame g around next b env hid h n w d
  heavier q le = lighter q (omega arith) le

  -- one step after another, where the second one may read hidden variables that the first one spares
  pub in_order_sparing : {mid h1 h2 v w x : ℕ} {d : Done} (s : Step) → Goes frame g around mid b env hid h1 n v d → h ≤ h1 → h ≤ h2
      → ((e i : Env) (m : ℕ) → Spares h1 env hid e i → Goes frame g around next mid e i h2 m w (s e m))
      → v + w ≤ x → Goes frame g around next b env hid h n x (and_then d s)
  in_order_sparing {mid} {v = v} {w = w} {x = x} {d = d} s p hl hl2 rest le = go d.outcome p.leads
    where
      L : ℕ → Outcome → Type 0
      L target o = Leads frame g (dest g.finish around target o) (d.env ++ p.hidden) b (env ++ hid) (v * suc p.used) p.used d.left

      same : (o : Outcome) → L next o → Goes frame g around next b env hid h n x (done o d.env d.left)
      same o l = record {
        used = p.used;
        turns = p.turns;
        hidden = p.hidden;
        spares = spares_on p.spares (spares_all {h = h}) hl (omega arith);
        leads =
            then_leads (dest g.finish around next o) (v * suc p.used) p.used (x * suc p.used) p.used d.left (d.env ++ p.hidden) stays l
            (omega (arith, scaled 0 v x p.used (omega arith))) (omega arith);
      }

      go : (o : Outcome) → L mid o → Goes frame g around next b env hid h n x (after o d.env d.left s)
      go normal l =
          let q = rest d.env p.hidden d.left p.spares in
          let t = s d.env d.left in
          record {
            used = p.used + q.used;
            turns = omega (arith, p.turns, q.turns);
            hidden = q.hidden;
            spares = spares_on p.spares q.spares hl hl2;
            leads =
                then_leads (dest g.finish around next t.outcome) (w * suc q.used) q.used (x * suc (p.used + q.used)) (p.used + q.used) t.left
                (t.env ++ q.hidden) l q.leads (in_a_row v w x p.used q.used le) (omega arith);
          }
      go (exits l) a = same (exits l) a
      go (continues l) a = same (continues l) a
      go (returns v) a = same (returns v) a
      go (faults c) a = same (faults c) a
      go more a = same more a

  -- the same by the lengths alone
  pub in_order : {mid h1 h2 v w x : ℕ} {d : Done} (s : Step) → Goes frame g around mid b env hid h1 n v d → h ≤ h1 → h ≤ h2
      → ((e i : Env) (m : ℕ) → length e ≡ length env → length i ≡ length hid → Goes frame g around next mid e i h2 m w (s e m))
      → v + w ≤ x → Goes frame g around next b env hid h n x (and_then d s)
  in_order s p hl hl2 rest le = in_order_sparing s p hl hl2 (λ e i m spares. rest e i m spares.keeps spares.many) le

  -- a condition
  pub at_choice : {y m v w x : ℕ} (t : Term) (r : Or Value) (chosen other : Step) → value_in frame g t (env ++ hid) ≡ r
      → Is g b (form.branches false t y m)
      → Goes frame g around next y env hid h n v (chosen env n) → Goes frame g around next m env hid h n w (other env n)
      → 1 + v ≤ x → 1 + w ≤ x → Goes frame g around next b env hid h n x (choose r chosen other env n)
  at_choice {y} {m} {x = x} t r chosen other e is p q le le' = go r (branches_at frame g false t (env ++ hid) r b e is)
    where
      decide : (t : Bool) → Reaches frame g b (env ++ hid) 1 0 (way t y m) (env ++ hid)
          → Goes frame g around next b env hid h n x (pick t chosen other env n)
      decide true l = after_path l spares_all p (omega arith) le
      decide false l = after_path l spares_all q (omega arith) le'

      go : (r : Or Value) → Branches frame g r b (env ++ hid) false y m → Goes frame g around next b env hid h n x (choose r chosen other env n)
      go (Err c) l = heavier (at_fault l) (omega arith)
      go (Ok v) l = decide (is_true v) l

  -- a block ends at an EXIT that names it
  pub closes : {w : ℕ} {d : Done} (own : Label) → Goes frame g (of_block own next around) next b env hid h n w d
      → Goes frame g around next b env hid h n w (close own d)
  closes {w} {d} own p = record { used = p.used; turns = p.turns; hidden = p.hidden; spares = p.spares; leads = go d.outcome p.leads }
    where
      L : Dest → Type 0
      L t = Leads frame g t (d.env ++ p.hidden) b (env ++ hid) (w * suc p.used) p.used d.left

      exit : (t : Bool) (l : Label) → L (to (if t then next else exit_to g.finish around l))
          → L (dest g.finish around next (if t then normal else exits l))
      exit true l a = a
      exit false l a = a

      go : (o : Outcome) → L (dest g.finish (of_block own next around) next o) → L (dest g.finish around next (closed_as own o))
      go normal a = a
      go (exits l) a = exit (names_block l own) l a
      go (continues l) a = a
      go (returns v) a = a
      go (faults c) a = a
      go more a = a
