-- Where an expression stands: the values of variables and columns, and the places of a select's parts.
use Rattle.std.proofs.Common.{◌≡◌, refl, subst, ℕ, zero, suc, Bool, true, false, List, [], ◌∷◌, drop, slice_index_or, Option, Some, None}
use Rattle.std.specs.Prelude.{if◌then◌else◌, slice_get, option_and_then}
use Rattle.std.specs.List.{AllZip}
use Rattle.away_values.specs.declared.types.Ty.{Ty}
use Rattle.away_values.specs.declared.values.Value.{Value}
use Rattle.away_values.specs.declared.values.Value.TheVariants as val
use Rattle.away_trees.specs.declared.queries.Col.{Col}
use Rattle.away_typing.specs.Typing as typing
use Rattle.away_typing.specs.Typing.{Places}
use Rattle.sql_meaning.specs.Context.{Rows, Frame, Context, at, column, inside, over, at_row}
use Rattle.type_soundness.specs.Sorts.{IsOf, Every}
use Rattle.type_soundness.specs.Surroundings.{IsRow, AreRows, AreTables, IsFrame, IsSeen, IsOfGroup, Fit}
use Rattle.type_soundness.specs.TypedValues.{Holds}
use Rattle.type_soundness.proofs.Lists.{zip_at}

-- ---- values at a place

pub at_holds : (ts : List Ty) (vs : List Value) (i : ℕ) → IsRow ts vs → Holds (typing.kind_at (slice_get ts i)) (at vs i)
unfolding typing.kind_at
at_holds ts vs i h = by (slice_get ts i) refl
  where
    by : (o : Option Ty) → slice_get ts i ≡ o → Holds (typing.kind_at o) (at vs i)
    by None e = tt
    by (Some t) e = zip_at IsOf ts vs val.Null h i t e

-- of a row of FROM that is seen or not
item_holds : (types : typing.Frame) (frame : Frame) (item place : ℕ) → IsSeen types frame → Holds (typing.kind_at (option_and_then (λ ts. slice_get ts place) (slice_get types item))) (at (slice_index_or frame item []) place)
unfolding typing.kind_at
item_holds types frame item place h = by (slice_get types item) refl frame h
  where
    unseen : (o : Option Ty) → Holds (typing.kind_at o) val.Null
    unseen None = tt
    unseen (Some t) = tt

    by : (o : Option (List Ty)) → slice_get types item ≡ o → (frame : Frame) → IsSeen types frame → Holds (typing.kind_at (option_and_then (λ ts. slice_get ts place) o)) (at (slice_index_or frame item []) place)
    by None e frame h = tt
    by (Some ts) e [] h = unseen (slice_get ts place)
    by (Some ts) e (row ∷ more) h = at_holds ts (slice_index_or (row ∷ more) item []) place (zip_at IsRow types (row ∷ more) [] h item ts e)

pub column_holds : (types : List typing.Frame) (frames : List Frame) (c : Col) → AllZip IsSeen types frames → Holds (typing.column types c) (column frames c)
unfolding typing.column typing.kind_at
column_holds types frames c h = by (slice_get types c.level) refl
  where
    by : (o : Option typing.Frame) → slice_get types c.level ≡ o → Holds (typing.kind_at (option_and_then (λ ts. slice_get ts c.column) (option_and_then (λ frame. slice_get frame c.item) o))) (column frames c)
    by None e = tt
    by (Some frame) e = item_holds frame (slice_index_or frames c.level []) c.item c.column (zip_at IsSeen types frames [] h c.level frame e)

-- the rows of a table by its place
pub rows_at : (types : List (List Ty)) (tables : List Rows) → AreTables types tables → (k : ℕ) (ts : List Ty) → slice_get types k ≡ Some ts → AreRows ts (slice_index_or tables k [])
rows_at [] tables h k ts e = cc
rows_at (us ∷ types) [] h k ts e = tt
rows_at (us ∷ types) (rows ∷ more) h zero ts e = subst (λ us. AreRows us rows) (same us ts e) h.0
  where
    same : (us ts : List Ty) → Some us ≡ Some ts → us ≡ ts
    same us ts e = cc
rows_at (us ∷ types) (rows ∷ more) h (suc k) ts e = rows_at types more h.1 k ts e

-- ---- the places of a select's parts

pub whole_seen : (types : typing.Frame) (frame : Frame) → IsFrame types frame → IsSeen types frame
whole_seen types [] h = tt
whole_seen types (row ∷ more) h = h

pub fit_inside : (p : Places) (cx : Context) (types : typing.Frame) (frame : Frame) → Fit p cx → IsSeen types frame → Fit (typing.inside types p) (inside frame cx)
fit_inside p cx types frame f h = record { variables = f.variables; frames = (h, f.frames); tables = f.tables; group = tt }

pub fit_over : (p : Places) (cx : Context) (types : typing.Frame) (rows : List Frame) → Fit p cx → Every (IsFrame types) rows → Fit (typing.inside types p) (over rows cx)
fit_over p cx types rows f h = record { variables = f.variables; frames = (tt, f.frames); tables = f.tables; group = h }

frames_at : (types : List typing.Frame) (frames : List Frame) (frame : Frame) → AllZip IsSeen types frames → IsOfGroup types frame → AllZip IsSeen types (frame ∷ drop 1 frames)
frames_at [] frames frame h g = absurd g
frames_at (t ∷ ts) [] frame h g = absurd h
frames_at (t ∷ ts) (f ∷ fs) frame h g = (whole_seen t frame g, h.1)

pub fit_at_row : (p : Places) (cx : Context) (frame : Frame) → Fit p cx → IsOfGroup p.frames frame → Fit p (at_row frame cx)
fit_at_row p cx frame f g = record { variables = f.variables; frames = frames_at p.frames cx.frames frame f.frames g; tables = f.tables; group = tt }

pub before_seen : (lateral : Bool) (types : typing.Frame) (frame : Frame) → IsFrame types frame → IsSeen (typing.before lateral types) (if lateral then frame else [])
before_seen true types frame h = whole_seen types frame h
before_seen false types frame h = tt
