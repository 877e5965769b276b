-- The items of the query as names see them.
use Rattle.std.proofs.Common.{◌≡◌, ap, ◌∙◌, ℕ, true, List, [], ◌∷◌, ◌++◌}
use Rattle.std.proofs.lemmas.List.Sums.{fold-append}
use Rattle.away_trees.specs.declared.queries.FromItem.{FromItem}
use Rattle.away_trees.specs.declared.queries.Query.{Query}
use Rattle.away_names.specs.declared.note.Framed.{Framed}
use Rattle.away_names.specs.declared.note.Part.{Part}
use Rattle.away_names.specs.declared.scope.Seen.{Seen}
use Rattle.away_names.specs.Lookups.{Name, Level}
use Rattle.away_names.specs.Naming.{plain_names, names_or, shaped}
use Rattle.qualified_names.specs.Sight.{Sight}
use Rattle.qualified_names.specs.Qualifying.{with_part, no_part}
use Rattle.qualified_names.specs.Trees.{qualified_part, qualified_from}
use Rattle.qualified_names.proofs.QualifyingRules.{part_rule, sub_is, table_is}
use Rattle.std.specs.Prelude.{decimal}
use Rattle.cte_parts.specs.Names.{table_name, row_names}
use Rattle.cte_parts.specs.Trees.{lateral_as, working}

-- an item with this alias and these columns
abbrev pub seen_as : Name → List Name → Seen
seen_as alias names = record { alias = alias; columns = plain_names names }

pub lateral_seen : (alias n : Name) (ns : List Name) (q : Query) (s : Sight) (level : Level)
    → (qualified_part (lateral_as alias (n ∷ ns) q) s level).seen ≡ seen_as alias (n ∷ ns)
unfolding names_or
lateral_seen alias n ns q s level =
    ap (λ (p : Part). p.seen) (part_rule (lateral_as alias (n ∷ ns) q) s level ∙ ap (shaped alias) (sub_is q true (n ∷ ns) s level))

pub working_seen : (tables w : ℕ) (s : Sight) (level : Level) → (qualified_part (working tables w) s level).seen ≡ seen_as table_name (row_names w)
working_seen tables w s level =
    ap (λ (p : Part). p.seen) (part_rule (working tables w) s level ∙ ap (shaped table_name) (table_is table_name (decimal tables ∷ row_names w) s level))

pub seen_more : (s : Sight) (fs : List FromItem) (f : FromItem)
    → (qualified_from s (fs ++ f ∷ [])).seen ≡ (qualified_from s fs).seen ++ (qualified_part f s (qualified_from s fs).seen).seen ∷ []
seen_more s fs f = ap (λ (a : Framed). a.seen) (fold-append (λ a f. with_part a (qualified_part f s a.seen)) no_part fs (f ∷ []))
