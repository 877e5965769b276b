-- The body of a label as the query has it, where each row carries further values: their columns
-- stand behind the flag and the label, and a row that is written has those of the row before.
use Rattle.std.specs.Prelude.{ℕ, suc, true, false, pos, List, [], ◌∷◌, ◌++◌, length, map}
use Rattle.away_trees.specs.declared.queries.Expr.{Expr}
use Rattle.away_trees.specs.declared.queries.FromItem.{FromItem}
use Rattle.away_trees.specs.declared.queries.Item.{Item}
use Rattle.away_values.specs.declared.types.Ty.{Ty}
use Rattle.away_values.specs.declared.types.Ty.TheVariants as ty
use Rattle.block_forms.specs.Forms.{Assignment}
use Rattle.call_forms.specs.Bodies.{
  Body,
  sets,
  enters,
  picks,
  returns,
  fails,
  calls,
  endless,
  goes,
  end_body,
  sets_first,
  tree,
}
use Rattle.call_forms.specs.declared.forms.Call.{Call}
use Rattle.call_forms.specs.declared.forms.CallEnd.{CallEnd}
use Rattle.call_forms.specs.Carrying.{all_of}
use Rattle.call_forms.specs.References.{is_not_true}
use Rattle.call_forms.specs.Scopes.{Scope, paired}
use Rattle.sql_meaning.specs.Trees.{col, truth, number, null_of}
use Rattle.cte_template.specs.Making.{Making}
use Rattle.cte_parts.specs.Trees.{gate_as, either_carrying}
use Rattle.cte_template.specs.Places.{nowhere, first_of, stands}
use Rattle.cte_template.specs.Written.{Walked, selected, ended, cells_at, let_at, class_text}
use Rattle.cte_template.specs.declared.draft.Draft.{Draft}
use Rattle.cte_template.specs.declared.places.ItemColumn.{ItemColumn}

-- the columns of the working table from a place on, one for each type, from a list at the depth
abbrev pub carried_at : ℕ → ℕ → List Ty → List Expr
carried_at depth place [] = []
carried_at depth place (t ∷ ts) = col depth 0 place ∷ carried_at depth (suc place) ts

module _ (m : Making) (carried : List Ty) where
  -- a finished row
  abbrev pub end_row : ℕ → Expr → Expr → List Expr
  end_row depth value class =
      truth false
      ∷ number (pos 0)
      ∷ (carried_at depth 2 carried ++ (map null_of m.tail.columns ++ (value ∷ class ∷ [])))

  -- the row of a call to a label, counted from 0
  abbrev pub call_row : ℕ → Scope ItemColumn → ℕ → List ℕ → List ℕ → List Expr
  call_row depth places label keys args =
      truth true
      ∷ number (pos (suc label))
      ∷ (carried_at depth 2 carried
      ++ (cells_at 0 depth places keys args m.tail.columns
      ++ (null_of m.result ∷ null_of ty.Text ∷ [])))

  abbrev pub all_columns : ℕ → List Expr
  all_columns = all_of m.table m.types carried m.tail.columns m.result

  -- Behind the items, from alias k on. The list of the select stands at the depth.
  abbrev pub walk : ℕ → Scope ItemColumn → List FromItem → ℕ → Body → Walked
  walk depth places items k (sets n t x) =
      walk depth (stands n (first_of depth (length items)) places)
      (items ++ (let_at m depth places k (m.types n) t ∷ [])) (suc k) x
  walk depth places items k (enters params args x) =
      walk depth (paired places nowhere params args) items k x
  walk depth places items k (picks t x y) =
      let c : Expr = col 2 (length items) 0 in
      let first : Walked
      = walk (suc depth) places (gate_as (suc (suc k)) c ∷ []) (suc (suc (suc k))) x in
      let second : Walked
      = walk (suc depth) places (gate_as first.next (is_not_true c) ∷ []) (suc first.next) y in
      ended
      (items
      ++ (let_at m depth places k ty.Boolean t
      ∷ either_carrying (suc k) (length carried) (length m.tail.columns) (selected first)
      (selected second)
      ∷ []))
      (all_columns (suc (length items))) second.next
  walk depth places items k (returns t) =
      ended (items ++ (let_at m depth places k m.result t ∷ []))
      (end_row depth (col 0 (length items) 0) (null_of ty.Text)) (suc k)
  walk depth places items k (fails c) =
      ended items (end_row depth (null_of m.result) (class_text m c)) k
  walk depth places items k (calls label keys args) =
      ended items (call_row depth places label keys args) k
  walk depth places items k endless =
      ended items (end_row depth (null_of m.result) (null_of ty.Text)) k

  -- the rest of a label from a draft on
  unfoldable pub rest : ℕ → Scope ItemColumn → Draft → Body → Walked
  rest depth places d body = walk depth places d.items d.next body

-- ---- what is left to write

-- a draft whose list is told
abbrev pub written : Draft → List Item → Walked
written d list = record { items = d.items; list = list; next = d.next }

-- from a block on, through so many blocks
unfoldable pub from_block : Making → ℕ → ℕ → Body
from_block m left b = tree m.anf m.tail left b

-- from an end on, or a call, or an assignment
unfoldable pub from_end : Making → ℕ → CallEnd → Body
from_end m left e = end_body m.anf m.tail (tree m.anf m.tail left) e

unfoldable pub from_call : Making → ℕ → Call → Body
from_call m left c = goes m.anf m.tail (tree m.anf m.tail left) c

unfoldable pub from_set : Making → Assignment → Body → Body
from_set m set body = sets_first m.anf m.tail set body
