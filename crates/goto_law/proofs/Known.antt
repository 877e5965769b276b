-- The two sides of the simulation, and what it asks of them: that the terms of the form have the values for which they stand, and that slots are
-- NOT NULL and of their types on both sides alike.
use Rattle.std.proofs.Common.{◌≡◌, ℕ, suc, ◌<◌, Bool, false, pos, List, [], ◌∷◌, ◌++◌, length, Option, Some, None, Ok}
use Rattle.std.specs.Prelude.{slice_get, get_or}
use Rattle.away_values.specs.declared.operators.CmpOp.TheVariants as cmp
use Rattle.away_values.specs.declared.types.Ty.{Ty}
use Rattle.away_values.specs.declared.types.Ty.TheVariants as ty
use Rattle.away_values.specs.declared.values.Value.{Value}
use Rattle.away_values.specs.declared.values.Value.TheVariants as val
use Rattle.away_values.specs.Operators.{compare, is_null}
use Rattle.away_values.specs.Results.{Or, and_then, mapped}
use Rattle.away_trees.specs.declared.queries.Expr.{Expr}
use Rattle.away_trees.specs.declared.queries.Expr.TheViews.{out-Select}
use Rattle.away_trees.specs.declared.queries.Select.{Select}
use Rattle.away_types.specs.declared.slots.Slot.{Slot}
use Rattle.sql_meaning.specs.Context.{Rows}
use Rattle.plsql_meaning.specs.Loops.{reaches, leaves, counted}
use Rattle.plsql_meaning.specs.Outcomes.{Env, Done}
use Rattle.plsql_meaning.specs.Sight.{query_of}
use Rattle.plsql_meaning.specs.Statements as statements
use Rattle.plsql_meaning.specs.Statements.{is_not_null}
use Rattle.select_into.specs.Entries.{cast_at, pick_entry, unmarked}
use Rattle.plsql_meaning.specs.Conversions.{converted_value}
use Rattle.select_into.specs.Laws.{is_empty, has_two, first_row}
use Rattle.select_into.specs.Wrapped.{no_row, more_rows}
use Rattle.block_forms.specs.declared.forms.Term.{Term}
use Rattle.block_forms.specs.Around.{Around}
use Rattle.block_forms.specs.Expressions.{Sources}
use Rattle.block_forms.specs.Laid.{Setting}
use Rattle.block_forms.specs.Lowered.{AllStand}
use Rattle.block_forms.specs.Patterns as form
use Rattle.block_forms.specs.Patterns.{Part}
use Rattle.block_forms.specs.Runs.{Frame}
use Rattle.block_forms.specs.OwnSlots.{ReadsBelow}
use Rattle.goto_law.proofs.Stretches.{value_in, Goes}

-- the frame and the form with the function's slots; what statements stand in; the table of expressions; the types of the slots that the text names; and
-- how many hidden slots there are
pub record Sides : Type 0 where
  pub frame : Frame
  pub form : Setting
  pub set : statements.Setting
  pub table : Sources
  pub types : List Ty
  pub hidden : ℕ

-- how many slots the function's text names
abbrev pub width : Sides → ℕ
width s = s.form.numbers.counters

abbrev pub AllStandIn : Sides → List Part → Type 0
AllStandIn s ps = AllStand s.form.goto.blocks ps

abbrev pub GoesIn : Sides → Around → ℕ → ℕ → Env → Env → ℕ → ℕ → ℕ → Done → Type 0
GoesIn s around next b env hid h n weight d = Goes s.frame s.form.goto around next b env hid h n weight d

abbrev pub value_of : Sides → Term → Env → Or Value
value_of s t env = value_in s.frame s.form.goto t env

-- the entry of the table with a number, which reads slots that the text names
pub record IsEntry (s : Sides) (k : ℕ) (e : Expr) : Type 0 where
  pub there : slice_get s.table k ≡ Some e
  pub reads : ReadsBelow (width s) e

-- expressions that stand one after the other in the table, from a number on
abbrev pub Entries : Sides → ℕ → Sources → Type 0
Entries s k [] = Unit {0}
Entries s k (e ∷ es) = IsEntry s k e × Entries s (suc k) es

-- whether a slot is NOT NULL; what is none isn't
abbrev pub strict_at : Option Slot → Bool
strict_at None = false
strict_at (Some s) = s.not_null

abbrev pub at : Env → ℕ → Value
at env slot = get_or env slot val.Null

module _ (s : Sides) where
  -- what a term of the fixed list is in an environment
  abbrev Fixed : (ℕ → Term) → (Env → Or Value) → Type 0
  Fixed t v = (env : Env) → value_of s (t s.form.numbers.fixed) env ≡ v env

  -- an entry over the select of an INTO is what it asks of the select's rows
  abbrev Asks : (Select → Expr) → (Rows → Value) → Type 0
  Asks entry ask = (k : ℕ) (q : Select) → IsEntry s k (entry q) → ReadsBelow (width s) (query_of q) → (env hid : Env) → length env ≡ width s
      → value_of s (form.select_term k q) (env ++ hid) ≡ mapped ask (s.set.rows q env)

  pub record Known : Type 0 where
    pub sources : (k : ℕ) (e : Expr) → IsEntry s k e → (env hid : Env) → length env ≡ width s
        → value_of s (form.source_term k e) (env ++ hid) ≡ s.set.value e env
    pub row_tests : Asks (λ q. no_row (unmarked q)) (λ rows. val.Bool (is_empty rows))
    pub more_tests : Asks (λ q. more_rows (unmarked q)) (λ rows. val.Bool (has_two rows))
    -- a pick is the value at its place, converted
    pub picks : (types : List Ty) (place k : ℕ) (q : Select) → IsEntry s k (pick_entry types q place) → ReadsBelow (width s) (query_of q) → (env hid : Env)
        → length env ≡ width s
        → value_of s (form.select_term k q) (env ++ hid)
        ≡ and_then (s.set.rows q env) (λ rows. converted_value (cast_at types (out-Select q).list place) (at (first_row rows) place))
    pub nulls : (t : Ty) → Fixed (λ n. form.null_of n t) (λ env. Ok val.Null)
    pub null_tests : (t : Ty) (slot : ℕ) → Fixed (λ n. form.is_null n t slot) (λ env. Ok (val.Bool (is_null (at env slot))))
    pub positive_tests : (slot : ℕ) → Fixed (λ n. form.not_positive n slot) (λ env. Ok (compare cmp.Le (at env slot) (val.Int (pos 0))))
    pub ones : Fixed (λ n. form.one n) (λ env. Ok (val.Int (pos 1)))
    pub copies : (slot : ℕ) → Fixed (λ n. form.copy n slot) (λ env. Ok (at env slot))
    pub ranges : (reverse : Bool) (cur last : ℕ) → Fixed (λ n. form.in_range n reverse cur last)
        (λ env. Ok (reaches reverse (at env cur) (at env last)))
    pub ends : (reverse : Bool) (step cur : ℕ) → Fixed (λ n. form.leaves_range n reverse step cur)
        (λ env. leaves reverse (at env step) (at env cur))
    pub moves : (reverse : Bool) (cur step : ℕ) → Fixed (λ n. form.moved n reverse cur step) (λ env. counted reverse (at env cur) (at env step))
    -- the types of the slots that the text names
    pub typed : (slot : ℕ) → slot < width s → slice_get s.set.types slot ≡ Some (get_or s.types slot ty.Bigint)
    pub not_nulls : (slot : ℕ) → is_not_null s.set slot ≡ strict_at (slice_get s.form.slots slot)
