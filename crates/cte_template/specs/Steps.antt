-- What a step through a body comes to.
use Rattle.std.specs.Prelude.{ℕ, List, [], None}
use Rattle.away_trees.specs.declared.queries.Expr.TheViews.{roll-Select}
use Rattle.away_trees.specs.declared.queries.Select.{Select}
use Rattle.cte_template.specs.Making.{Making}
use Rattle.cte_template.specs.Places.{place_of}
use Rattle.away_values.specs.declared.types.Ty.{Ty}
use Rattle.cte_template.specs.CarriedWalks.{rest, written, from_block}
use Rattle.cte_template.specs.Written.{Walked}
use Rattle.cte_template.specs.declared.draft.Gated.{Gated}
use Rattle.cte_template.specs.declared.draft.Draft.{Draft}
use Rattle.cte_template.specs.declared.draft.Next.{Next}
use Rattle.cte_template.specs.declared.draft.Next.TheVariants.{Row, On}
use Rattle.cte_template.specs.declared.places.ItemColumn.{ItemColumn}

-- the list, or what is written from the next block on
abbrev pub reached : Making → List Ty → ℕ → ℕ → Next → Draft → Walked
reached m carried depth left (Row list) d = written d list
reached m carried depth left (On b places) d =
    rest m carried depth (place_of places) d (from_block m left b)

abbrev pub arm_of : Walked → Gated
arm_of w = record { items = w.items; list = w.list; next = w.next }

-- the select of an arm
abbrev pub select_of : Gated → Select
select_of a =
    roll-Select (record {
      list = a.list;
      from = a.items;
      filter = None;
      order = [];
      limit = None;
    })
