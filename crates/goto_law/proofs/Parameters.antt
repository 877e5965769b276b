-- The entry of a goto form leads past the parameters to the body; with STRICT it answers NULL where an argument is NULL.
use Rattle.std.proofs.Common.{◌≡◌, sym, ap, ◌∙◌, subst, ℕ, suc, ◌+◌, ◌<◌, ◌≤◌, Bool, true, false, ◌&&◌, ◌||◌, List, [], ◌∷◌, length, get_or, Ok, arith}
use Rattle.std.specs.List.{list_any}
use Rattle.away_values.specs.declared.types.Ty.{Ty}
use Rattle.away_values.specs.declared.values.Answer.TheVariants as answer
use Rattle.away_values.specs.declared.values.Value.{Value}
use Rattle.away_values.specs.declared.values.Value.TheVariants as val
use Rattle.away_values.specs.Operators.{is_null}
use Rattle.plsql_meaning.specs.Outcomes.{Env}
use Rattle.block_forms.specs.Lowered.{params_parts}
use Rattle.block_forms.specs.Patterns.{node, yes_of}
use Rattle.block_forms.specs.Patterns as form
use Rattle.block_forms.specs.Runs.{way}
use Rattle.goto_law.proofs.Known.{Sides, AllStandIn, Known}
use Rattle.goto_law.proofs.Stretches.{Reaches, Ends, Is, stays, then_reaches, then_ends, jumps_on, returns_there, decides_at}

module _ (s : Sides) (known : Known s) (result : Ty) (env : Env) where
  -- without STRICT the node of a parameter is that of the next one
  same_node : (k : ℕ) (ps : List (List ℕ × Ty)) → AllStandIn s (params_parts s.form false result k ps)
      → node s.form.goto k ≡ node s.form.goto (k + length ps)
  same_node k [] stand = ap (node s.form.goto) (omega arith)
  same_node k (p ∷ ps) stand = stand.0 ∙ same_node (k + 1) ps stand.1 ∙ ap (node s.form.goto) (omega arith)

  -- from a block the run answers NULL, or it comes to a node
  abbrev pub Enters : Bool → ℕ → ℕ → ℕ → Type 0
  Enters true b most to = Ends s.frame s.form.goto b env (most + 1) (answer.Value val.Null)
  Enters false b most to = Reaches s.frame s.form.goto b env most 0 (node s.form.goto to) env

  enters_at : (null : Bool) (b most to k : ℕ) → k ≡ to → Enters null b most to → Enters null b most k
  enters_at null b most to k e x = subst (λ j. Enters null b most j) (sym e) x

  after_step : (null : Bool) (b c m most to : ℕ) → Reaches s.frame s.form.goto b env 1 0 c env → Enters null c m to → suc m ≤ most
      → Enters null b most to
  after_step true b c m most to l x le = then_ends l x (omega (arith, le))
  after_step false b c m most to l x le = then_reaches l x (omega (arith, le)) (omega arith)

  -- the arguments stand in the slots from one on
  abbrev StandFrom : ℕ → List Value → Type 0
  StandFrom k vs = (i : ℕ) → i < length vs → get_or env (k + i) val.Null ≡ get_or vs i val.Null

  behind_first : (k : ℕ) (v : Value) (vs : List Value) → StandFrom k (v ∷ vs) → StandFrom (k + 1) vs
  behind_first k v vs same i lt =
      let e : k + 1 + i ≡ k + suc i = omega arith in
      ap (λ j. get_or env j val.Null) e ∙ same (suc i) (omega (arith, lt))

  -- with STRICT each parameter is tested
  tested : (k : ℕ) (ps : List (List ℕ × Ty)) (vs : List Value) → length vs ≡ length ps → StandFrom k vs
      → AllStandIn s (params_parts s.form true result k ps)
      → Enters (list_any is_null vs) (node s.form.goto k) (length ps) (k + length ps)
  tested k [] [] long same stand = enters_at false (node s.form.goto k) 0 k (k + 0) (omega arith) stays
  tested k [] (v ∷ vs) long same stand = absurd (omega (arith, long))
  tested k (p ∷ ps) [] long same stand = absurd (omega (arith, long))
  tested k (p ∷ ps) (v ∷ vs) long same stand =
      decide (is_null v) (tested (k + 1) ps vs (omega (arith, long)) (behind_first k v vs same) stand.1.1)
      (decides_at s.frame s.form.goto false (form.is_null s.form.numbers.fixed p.1 k) env (is_null v) b
      (known.null_tests p.1 k env ∙ ap (λ y. Ok (val.Bool (is_null y))) here) stand.0)
    where
      b : ℕ
      b = node s.form.goto k

      null : ℕ
      null = yes_of s.form.goto b

      next : ℕ
      next = node s.form.goto (k + 1)

      here : get_or env k val.Null ≡ v
      here = let e : k ≡ k + 0 = omega arith in ap (λ j. get_or env j val.Null) e ∙ same 0 (omega arith)

      decide : (t : Bool) → Enters (list_any is_null vs) next (length ps) (k + 1 + length ps)
          → Reaches s.frame s.form.goto b env 1 0 (way t null next) env
          → Enters (t || list_any is_null vs) b (length (p ∷ ps)) (k + length (p ∷ ps))
      decide true rest l =
          then_ends l (returns_there s.frame s.form.goto (form.null_of s.form.numbers.fixed result) env (Ok val.Null)
          (known.nulls result env) stand.1.0) (omega arith)
      decide false rest l =
          enters_at (list_any is_null vs) b (length (p ∷ ps)) (k + 1 + length ps) (k + length (p ∷ ps)) (omega arith)
          (after_step (list_any is_null vs) b next (length ps) (length (p ∷ ps)) (k + 1 + length ps) l rest (omega arith))

  -- from the entry
  pub entered : (strict : Bool) (entry : ℕ) (ps : List (List ℕ × Ty)) (vs : List Value) → length vs ≡ length ps
      → ((i : ℕ) → i < length vs → get_or env i val.Null ≡ get_or vs i val.Null) → Is s.form.goto entry (form.jumps false (node s.form.goto 0))
      → AllStandIn s (params_parts s.form strict result 0 ps) → Enters (strict && list_any is_null vs) entry (suc (length ps)) (length ps)
  entered true entry ps vs long same is stand =
      let same' : StandFrom 0 vs = λ i lt. let e : 0 + i ≡ i = omega arith in ap (λ j. get_or env j val.Null) e ∙ same i lt in
      let null = list_any is_null vs in
      let at_body = enters_at null (node s.form.goto 0) (length ps) (0 + length ps) (length ps) (omega arith) (tested 0 ps vs long same' stand) in
      after_step null entry (node s.form.goto 0) (length ps) (suc (length ps)) (length ps) (jumps_on false is) at_body (omega arith)
  entered false entry ps vs long same is stand =
      let e : 0 + length ps ≡ length ps = omega arith in
      let l : Reaches s.frame s.form.goto entry env 1 0 (node s.form.goto 0) env = jumps_on false is in
      let there = subst (λ b. Reaches s.frame s.form.goto entry env 1 0 b env) (same_node 0 ps stand ∙ ap (node s.form.goto) e) l in
      then_reaches there stays (omega arith) (omega arith)
