-- The function's variables and the hidden ones behind them, where a block sets one of either.
use Rattle.std.proofs.Common.{◌≡◌, ◌≢◌, ℕ, ◌+◌, ◌-◌, ◌<◌, ◌≤◌, ◌++◌, length, Ok, Err, refl, sym, ap, ◌∙◌, subst, arith}
use Rattle.std.specs.Prelude.{slice_set, get_or}
use Rattle.std.proofs.lemmas.List.{length-set, get_or-set_other, get_or-append-add, set-append_left, set-append_right}
use Rattle.away_values.specs.declared.values.Answer.TheVariants as answer
use Rattle.away_values.specs.declared.values.Value.{Value}
use Rattle.away_values.specs.declared.values.Value.TheVariants as val
use Rattle.away_values.specs.Results.{Or}
use Rattle.plsql_meaning.specs.Outcomes.{Env}
use Rattle.block_forms.specs.declared.forms.Goto.{Goto}
use Rattle.block_forms.specs.declared.forms.Term.{Term}
use Rattle.block_forms.specs.Patterns as form
use Rattle.block_forms.specs.Runs.{Frame}
use Rattle.goto_law.proofs.Stretches.{value_in, Reaches, Ends, Spares, Is, Stores, stores_at}

-- a hidden variable by its slot
pub back_get : (width slot j : ℕ) (env hid : Env) → length env ≡ width → slot ≡ width + j
    → get_or (env ++ hid) slot val.Null ≡ get_or hid j val.Null
back_get width slot j env hid e is =
    ap (λ k. get_or (env ++ hid) k val.Null) (is ∙ ap (λ w. w + j) (sym e)) ∙ get_or-append-add env hid j val.Null

back_set : (width slot j : ℕ) (env hid : Env) (v : Value) → length env ≡ width → slot ≡ width + j
    → slice_set (env ++ hid) slot v ≡ env ++ slice_set hid j v
back_set width slot j env hid v e is =
    let d : slot - width ≡ j = omega arith in
    set-append_right env hid width slot v e (omega arith) ∙ ap (λ k. env ++ slice_set hid k v) d

pub spares_set : {h : ℕ} (j : ℕ) (env hid : Env) (v : Value) → h ≤ j → Spares h env hid env (slice_set hid j v)
spares_set j env hid v le = record {
  keeps = refl;
  many = length-set hid j v;
  kept = λ k lt. let ne : k ≢ j = omega arith in get_or-set_other hid j k v val.Null ne;
}

module _ (frame : Frame) (g : Goto) where
  -- a block that sets a variable of the function
  abbrev pub Front : Or Value → ℕ → Env → Env → ℕ → ℕ → Type 0
  Front (Err c) b env hid slot t = Ends frame g b (env ++ hid) 1 (answer.Fault c)
  Front (Ok v) b env hid slot t = Reaches frame g b (env ++ hid) 1 0 t (slice_set env slot v ++ hid)

  pub front : (b slot t : ℕ) (x : Term) (env hid : Env) (r : Or Value) → slot < length env → value_in frame g x (env ++ hid) ≡ r
      → Is g b (form.sets slot x t) → Front r b env hid slot t
  front b slot t x env hid r lt e is = go r (stores_at frame g slot x (env ++ hid) r b e is)
    where
      go : (r : Or Value) → Stores frame g r b (env ++ hid) slot t → Front r b env hid slot t
      go (Err c) l = l
      go (Ok v) l = subst (λ e. Reaches frame g b (env ++ hid) 1 0 t e) (set-append_left env hid slot v lt) l

  -- a block that sets a hidden variable
  abbrev pub Back : Or Value → ℕ → Env → Env → ℕ → ℕ → Type 0
  Back (Err c) b env hid j t = Ends frame g b (env ++ hid) 1 (answer.Fault c)
  Back (Ok v) b env hid j t = Reaches frame g b (env ++ hid) 1 0 t (env ++ slice_set hid j v)

  pub back : (width b slot j t : ℕ) (x : Term) (env hid : Env) (r : Or Value) → length env ≡ width → slot ≡ width + j
      → value_in frame g x (env ++ hid) ≡ r → Is g b (form.sets slot x t) → Back r b env hid j t
  back width b slot j t x env hid r wide slot_is e is = go r (stores_at frame g slot x (env ++ hid) r b e is)
    where
      go : (r : Or Value) → Stores frame g r b (env ++ hid) slot t → Back r b env hid j t
      go (Err c) l = l
      go (Ok v) l = subst (λ e. Reaches frame g b (env ++ hid) 1 0 t e) (back_set width slot j env hid v wide slot_is) l
