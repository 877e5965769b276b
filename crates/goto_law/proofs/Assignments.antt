-- What the blocks of an assignment do, and of whatever else sets a slot of the function.
use Rattle.std.proofs.Common.{◌≡◌, ℕ, ◌<◌, Bool, true, false, ◌&&◌, ◌++◌, length, Option, Some, None, Ok, Err, refl, sym, ap, ◌∙◌, subst, arith}
use Rattle.std.specs.Prelude.{slice_get, slice_set}
use Rattle.std.proofs.lemmas.List.{length-set, get_or-set_same, get_or_append_left}
use Rattle.away_values.specs.declared.types.Ty.{Ty}
use Rattle.away_values.specs.declared.types.Ty.TheVariants as ty
use Rattle.away_values.specs.declared.values.Value.{Value}
use Rattle.away_values.specs.declared.values.Value.TheVariants as val
use Rattle.away_values.specs.Operators.{is_null}
use Rattle.away_values.specs.Results.{Or}
use Rattle.away_types.specs.declared.slots.Slot.{Slot}
use Rattle.plsql_meaning.specs.Outcomes.{Env, faults, done, Step}
use Rattle.plsql_meaning.specs.Statements as statements
use Rattle.plsql_meaning.specs.Statements.{stored, put, is_not_null}
use Rattle.block_forms.specs.declared.forms.Term.{Term}
use Rattle.block_forms.specs.Around.{Around}
use Rattle.block_forms.specs.Patterns.{jump_of, yes_of, set_parts, slot_parts}
use Rattle.block_forms.specs.Patterns as form
use Rattle.block_forms.specs.Runs.{way}
use Rattle.goto_law.proofs.Known.{Sides, GoesIn, AllStandIn, value_of, Known, strict_at}
use Rattle.goto_law.proofs.Stretches.{Reaches, then_reaches, then_ends, fails_there, decides_at}
use Rattle.goto_law.proofs.Steps.{at_next, at_fault, heavier}
use Rattle.goto_law.proofs.Variables.{Front, front}

-- a value is put into a slot that is NOT NULL or not
abbrev put_as : Bool → ℕ → Or Value → Step
put_as strict slot (Err c) env n = done (faults c) env n
put_as strict slot (Ok v) env n = stored (strict && is_null v) slot v env n

put_is : (set : statements.Setting) (slot : ℕ) (r : Or Value) (env : Env) (n : ℕ)
    → put set slot r env n ≡ put_as (is_not_null set slot) slot r env n
put_is set slot (Err c) env n = refl
put_is set slot (Ok v) env n = refl

module _ (s : Sides) (known : Known s) (around : Around) (next b slot : ℕ) (x : Term) (env hid : Env) (h n : ℕ) (lt : slot < length env) where
  -- the block that sets a slot, by what its term gives
  abbrev Sets : Or Value → ℕ → Type 0
  Sets r t = Front s.frame s.form.goto r b env hid slot t

  put_goes : (strict : Bool) (t : Ty) (r : Or Value) → value_of s x (env ++ hid) ≡ r
      → AllStandIn s (set_parts s.form.goto s.form.numbers strict t b slot x next)
      → GoesIn s around next b env hid h n 3 (put_as strict slot r env n)
  put_goes false t r e stand = go r (front s.frame s.form.goto b slot next x env hid r lt e stand.0)
    where
      go : (r : Or Value) → Sets r next → GoesIn s around next b env hid h n 3 (put_as false slot r env n)
      go (Err c) l = heavier (at_fault l) (omega arith)
      go (Ok v) l = heavier (at_next (length-set env slot v) l) (omega arith)
  put_goes true t r e stand = go r (front s.frame s.form.goto b slot test x env hid r lt e stand.0)
    where
      test : ℕ
      test = jump_of s.form.goto b

      fail : ℕ
      fail = yes_of s.form.goto test

      stored_env : Value → Env
      stored_env v = slice_set env slot v ++ hid

      judge : (null : Bool) (v : Value) → Reaches s.frame s.form.goto b (env ++ hid) 1 0 test (stored_env v)
          → Reaches s.frame s.form.goto test (stored_env v) 1 0 (way null fail next) (stored_env v)
          → GoesIn s around next b env hid h n 3 (stored null slot v env n)
      judge true v l m =
          heavier (at_fault (then_ends {m = 3} (then_reaches {m = 2} {h = 0} l m (omega arith) (omega arith)) (fails_there stand.1.1.0)
          (omega arith))) (omega arith)
      judge false v l m = heavier (at_next (length-set env slot v) (then_reaches {m = 2} l m (omega arith) (omega arith))) (omega arith)

      go : (r : Or Value) → Sets r test → GoesIn s around next b env hid h n 3 (put_as true slot r env n)
      go (Err c) l = heavier (at_fault l) (omega arith)
      go (Ok v) l =
          let lt' : slot < length (slice_set env slot v) = subst (λ w. slot < w) (sym (length-set env slot v)) lt in
          let same = get_or_append_left (slice_set env slot v) hid val.Null slot lt' ∙ get_or-set_same env slot v val.Null lt in
          let tested = known.null_tests t slot (stored_env v) ∙ ap (λ y. Ok (val.Bool (is_null y))) same in
          judge (is_null v) v l (decides_at s.frame s.form.goto false (form.is_null s.form.numbers.fixed t slot) (stored_env v)
          (is_null v) test tested stand.1.0)

  -- a slot of the function is set, in three visits at most
  pub slot_set : (r : Or Value) → value_of s x (env ++ hid) ≡ r
      → AllStandIn s (slot_parts s.form.goto s.form.numbers (slice_get s.form.slots slot) b slot x next)
      → GoesIn s around next b env hid h n 3 (put s.set slot r env n)
  slot_set r e stand =
      subst (λ d. GoesIn s around next b env hid h n 3 d) (sym (put_is s.set slot r env n))
      (subst (λ strict. GoesIn s around next b env hid h n 3 (put_as strict slot r env n)) (sym (known.not_nulls slot))
      (go (slice_get s.form.slots slot) stand))
    where
      go : (o : Option Slot) → AllStandIn s (slot_parts s.form.goto s.form.numbers o b slot x next)
          → GoesIn s around next b env hid h n 3 (put_as (strict_at o) slot r env n)
      go None stand = put_goes false ty.Bigint r e stand
      go (Some y) stand = put_goes y.not_null y.ty r e stand

  -- the same within what a node pays for
  pub slot_goes : (r : Or Value) → value_of s x (env ++ hid) ≡ r
      → AllStandIn s (slot_parts s.form.goto s.form.numbers (slice_get s.form.slots slot) b slot x next)
      → GoesIn s around next b env hid h n 15 (put s.set slot r env n)
  slot_goes r e stand = heavier (slot_set r e stand) (omega arith)
