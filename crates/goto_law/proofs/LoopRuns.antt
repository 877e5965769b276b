-- What the blocks of a loop do, for every kind of loop.
use Rattle.std.proofs.Common.{◌≡◌, ℕ, zero, suc, ◌+◌, ◌*◌, ◌<◌, ◌≤◌, Bool, true, false, if◌then◌else◌, ◌++◌, length, Option, Some, None, Ok, Err, refl, ◌∙◌, arith}
use Rattle.std.specs.Prelude.{get_or}
use Rattle.away_values.specs.declared.values.Answer.TheVariants as answer
use Rattle.away_values.specs.declared.values.Value.TheVariants as val
use Rattle.away_values.specs.Results.{Or}
use Rattle.plsql_meaning.specs.Loops.{Turning, taken, started, again, leave, verdict, moved, ended, finished, turns}
use Rattle.plsql_meaning.specs.Outcomes.{Env, Label, Outcome, normal, exits, continues, returns, faults, more, Done, done, Step, names_loop}
use Rattle.block_forms.specs.declared.forms.Goto.{Goto}
use Rattle.block_forms.specs.Around.{Around, exit_to, again_to}
use Rattle.block_forms.specs.Runs.{Frame}
use Rattle.goto_law.proofs.Budgets.{a_turn, least_turn, last_turn}
use Rattle.goto_law.proofs.Stretches.{Dest, to, dest, Reaches, Ends, Leads, Goes, Spares, spares_env, spares_on, stays, then_reaches, then_ends, then_leads}
use Rattle.goto_law.proofs.Steps.{of_loop, at_next, at_fault, heavier}

module _ (frame : Frame) (g : Goto) where
  -- what the head does with what begins, and the block after the body with the next state
  abbrev pub Begins : Or (Option Env) → Env → Env → ℕ → ℕ → ℕ → ℕ → Type 0
  Begins (Err c) env hid head body next a = Ends frame g head (env ++ hid) a (answer.Fault c)
  Begins (Ok None) env hid head body next a = Reaches frame g head (env ++ hid) a 0 next (env ++ hid)
  Begins (Ok (Some begun)) env hid head body next a = (length begun ≡ length env) × Reaches frame g head (env ++ hid) a 1 body (begun ++ hid)

  -- S is the state that a loop hides, and Holds tells whether the hidden variables hold it
  module _ {S : Type 0} (Holds : S → Env → Type 0) where
    abbrev pub Moves : Or (Option S) → Env → Env → ℕ → ℕ → ℕ → ℕ → ℕ → Type 0
    Moves (Err c) env hid h head back next m = Ends frame g back (env ++ hid) m (answer.Fault c)
    Moves (Ok None) env hid h head back next m = Reaches frame g back (env ++ hid) m 0 next (env ++ hid)
    Moves (Ok (Some s)) env hid h head back next m =
        (hid' : Env) × Spares h env hid env hid' × Holds s hid' × Reaches frame g back (env ++ hid) m 0 head (env ++ hid')

  -- A loop: what stands around it, its label, the blocks behind it, at its head and of its body, and the block after the body; the weights of the
  -- head, of the block after the body and of the body; and which hidden variables stay in the loop and in its body.
  module _ {S : Type 0} (Holds : S → Env → Type 0) (around : Around) (own : Label) (next head body back a m w h hb : ℕ) (outer : h ≤ hb) where
    abbrev Turned : Env → Env → ℕ → Done → Type 0
    Turned env hid n d = Goes frame g around next head env hid h n (a + m + w) d

    abbrev InBody : Env → Env → ℕ → Done → Type 0
    InBody env hid n d = Goes frame g (of_loop own next back around) back body env hid hb n w d

    -- the turns after this one
    abbrev Later : (S → Step) → Env → Env → ℕ → Type 0
    Later rest env hid n =
        (z : S) (e i : Env) (k : ℕ) → k < n → length e ≡ length env → length i ≡ length hid → Holds z i → Turned e i k (rest z e k)

    -- a turn's body and what follows
    after_turn : (env hid begun : Env) (n : ℕ) (r : Or (Option S)) (rest : S → Step) (d : Done) → length begun ≡ length env
        → Reaches frame g head (env ++ hid) a 1 body (begun ++ hid) → (p : InBody begun hid n d)
        → Moves Holds r d.env p.hidden h head back next m → Later rest env hid (suc n) → Turned env hid (suc n) (finished own r rest d)
    after_turn env hid begun n r rest d keep l0 p moves goes_on = go d.outcome p.leads
      where
        L : Dest → Type 0
        L t = Leads frame g t (d.env ++ p.hidden) body (begun ++ hid) (w * suc p.used) p.used d.left

        spared : Spares h env hid d.env p.hidden
        spared = spares_on (spares_env {h = h} keep) p.spares (omega arith) outer

        leaves : (o : Outcome) → L (dest g.finish around next o) → Turned env hid (suc n) (done o d.env d.left)
        leaves o l = record {
          used = suc p.used;
          turns = omega (arith, p.turns);
          hidden = p.hidden;
          spares = spared;
          leads =
              then_leads (dest g.finish around next o) (w * suc p.used) p.used ((a + m + w) * suc (suc p.used)) (suc p.used) d.left
              (d.env ++ p.hidden) l0 l (least_turn a m w p.used) (omega arith);
        }

        to_back : Reaches frame g body (begun ++ hid) (w * suc p.used) p.used back (d.env ++ p.hidden)
            → Reaches frame g head (env ++ hid) (a + w * suc p.used) (suc p.used) back (d.env ++ p.hidden)
        to_back l = then_reaches l0 l (omega arith) (omega arith)

        moving : (x : Or (Option S)) → Moves Holds x d.env p.hidden h head back next m → L (to back)
            → Turned env hid (suc n) (moved x rest d.env d.left)
        moving (Err c) l1 l = record {
          used = suc p.used;
          turns = omega (arith, p.turns);
          hidden = p.hidden;
          spares = spared;
          leads = then_ends (to_back l) l1 (last_turn a m w p.used);
        }
        moving (Ok None) l1 l = record {
          used = suc p.used;
          turns = omega (arith, p.turns);
          hidden = p.hidden;
          spares = spared;
          leads = then_reaches (to_back l) l1 (last_turn a m w p.used) (omega arith);
        }
        moving (Ok (Some s)) l1 l =
            let spared' = spares_on {h = h} spared l1.1 (omega arith) (omega arith) in
            let q = goes_on s d.env l1.0 d.left (omega (arith, p.turns)) spared'.keeps spared'.many l1.2 in
            let t = rest s d.env d.left in
            let path = then_reaches {m = a + w * suc p.used + m} {h = suc p.used} (to_back l) l1.3 (omega arith) (omega arith) in
            record {
              used = suc (p.used + q.used);
              turns = omega (arith, p.turns, q.turns);
              hidden = q.hidden;
              spares = spares_on spared' q.spares (omega arith) (omega arith);
              leads =
                  then_leads (dest g.finish around next t.outcome) ((a + m + w) * suc q.used) q.used ((a + m + w) * suc (suc (p.used + q.used)))
                  (suc (p.used + q.used)) t.left (t.env ++ q.hidden) path q.leads (a_turn a m w p.used q.used) (omega arith);
            }

        exit : (t : Bool) (l : Label) → L (to (if t then next else exit_to g.finish around l))
            → Turned env hid (suc n) (ended (if t then leave normal else leave (exits l)) r rest d.env d.left)
        exit true l x = leaves normal x
        exit false l x = leaves (exits l) x

        continue : (t : Bool) (l : Label) → L (to (if t then back else again_to g.finish around l))
            → Turned env hid (suc n) (ended (if t then again else leave (continues l)) r rest d.env d.left)
        continue true l x = moving r moves x
        continue false l x = leaves (continues l) x

        go : (o : Outcome) → L (dest g.finish (of_loop own next back around) back o)
            → Turned env hid (suc n) (ended (verdict own o) r rest d.env d.left)
        go normal x = moving r moves x
        go (exits l) x = exit (names_loop l own) l x
        go (continues l) x = continue (names_loop l own) l x
        go (returns v) x = leaves (returns v) x
        go (faults c) x = leaves (faults c) x
        go more x = leaves more x

    -- hidden variables that the body keeps
    abbrev KeptIn : Env → Env → Type 0
    KeptIn hid i = (j : ℕ) → j < hb → get_or i j val.Null ≡ get_or hid j val.Null

    module _ (s : Step) (r : Or (Option S)) (rest : S → Step) where
      -- a turn is taken, or none is left
      takes : (env hid begun : Env) (n : ℕ) → length begun ≡ length env → Reaches frame g head (env ++ hid) a 1 body (begun ++ hid)
          → ((k : ℕ) → InBody begun hid k (s begun k)) → ((e i : Env) → Spares hb begun hid e i → Moves Holds r e i h head back next m)
          → Later rest env hid n → Turned env hid n (taken begun n (λ b k. finished own r rest (s b k)))
      takes env hid begun zero keep l0 p moves goes_on = record {
        used = 0;
        turns = refl;
        hidden = hid;
        spares = spares_env keep;
        leads = (refl, body, begun ++ hid, then_reaches l0 stays (omega arith) (omega arith));
      }
      takes env hid begun (suc n) keep l0 p moves goes_on =
          after_turn env hid begun n r rest (s begun n) keep l0 (p n) (moves (s begun n).env (p n).hidden (p n).spares) goes_on

      starts : (env hid : Env) (n : ℕ) (x : Or (Option Env)) → Begins x env hid head body next a
          → ((e : Env) (k : ℕ) → length e ≡ length env → InBody e hid k (s e k))
          → ((e i : Env) → length e ≡ length env → length i ≡ length hid → KeptIn hid i → Moves Holds r e i h head back next m)
          → Later rest env hid n → Turned env hid n (started x env n (λ b k. finished own r rest (s b k)))
      starts env hid n (Err c) l p moves goes_on = heavier (at_fault l) (omega arith)
      starts env hid n (Ok None) l p moves goes_on = heavier (at_next refl l) (omega arith)
      starts env hid n (Ok (Some begun)) l p moves goes_on =
          takes env hid begun n l.0 l.1 (λ k. p begun k l.0) (λ e i sp. moves e i (sp.keeps ∙ l.0) sp.many sp.kept) goes_on

    -- a loop, where its head, the block after its body and its body do what they should
    module _ (width many : ℕ) (t : Turning S) (s : Step) (stable : (z : S) (i i' : Env) → Holds z i → KeptIn i i' → Holds z i')
        (begins : (z : S) (e i : Env) → length e ≡ width → length i ≡ many → Holds z i → Begins (t.begin z e) e i head body next a)
        (moves : (z : S) (e i : Env) → length e ≡ width → length i ≡ many → Holds z i → Moves Holds (t.next z) e i h head back next m)
        (goes : (e i : Env) (k : ℕ) → length e ≡ width → length i ≡ many → InBody e i k (s e k)) where
      pub loops : (fuel : ℕ) (z : S) (env hid : Env) (n : ℕ) → n < fuel → length env ≡ width → length hid ≡ many → Holds z hid
          → Turned env hid n (turns t own s fuel z env n)
      loops zero z env hid n le wide len holds = absurd (omega arith)
      loops (suc fuel) z env hid n le wide len holds =
          starts s (t.next z) (turns t own s fuel) env hid n (t.begin z env) (begins z env hid wide len holds)
          (λ e k same. goes e hid k (same ∙ wide) len)
          (λ e i same same' kept. moves z e i (same ∙ wide) (same' ∙ len) (stable z hid i holds kept))
          (λ z e i k lt same same' holds. loops fuel z e i k (omega arith) (same ∙ wide) (same' ∙ len) holds)
