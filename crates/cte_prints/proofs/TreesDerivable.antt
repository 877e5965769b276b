-- The query of a function's forms can be derived.
use Rattle.std.proofs.Common.{◌≡◌, refl, ap, sym, subst, ◌∙◌, ℕ, suc, ◌<◌, ◌≤◌, List, [], ◌∷◌, map, length, get_or, Option, Some, None, arith}
use Rattle.std.specs.Prelude.{slice_get}
use Rattle.std.proofs.lemmas.Option.{slice_get_within}
use Rattle.away_grammar.specs.declared.grammar.Level.TheVariants as l
use Rattle.away_grammar.specs.Grammar.{at, file, from_item}
use Rattle.away_trees.specs.declared.queries.Expr.{Expr}
use Rattle.away_trees.specs.declared.queries.Expr.TheVariants as expr
use Rattle.away_trees.specs.declared.schemas.Schema.{Schema}
use Rattle.elaboration.specs.Erasing.{erased}
use Rattle.sql_meaning.specs.Placed.{placed_at}
use Rattle.sql_meaning.specs.Reads.{slots_of}
use Rattle.block_forms.specs.declared.forms.SsaBlock.{SsaBlock}
use Rattle.block_forms.specs.Expressions.{expressions}
use Rattle.block_forms.specs.Named.{EntryHas, MapOfParameters}
use Rattle.block_forms.specs.Places.{Each}
use Rattle.call_forms.specs.declared.forms.AnfBlock.{AnfBlock}
use Rattle.call_forms.specs.declared.forms.Tail.{Tail}
use Rattle.call_forms.specs.Bodies.{body_of}
use Rattle.call_forms.specs.Called.{Among, EntryParameters}
use Rattle.call_forms.specs.Forms.{params_of, label_of}
use Rattle.call_forms.specs.TailRuns.{label_or}
use Rattle.call_forms.specs.Templated.{HasTree}
use Rattle.call_law.proofs.Labels.{place_found, placed}
use Rattle.cte_template.specs.Making.{Making, making_of}
use Rattle.cte_template.specs.Tree.{label_rows, tree}
use Rattle.qualified_names.specs.Trees.{qualified, qualified_expr, qualified_part}
use Rattle.cte_prints.specs.Derivable.{Derivable}
use Rattle.cte_prints.proofs.DeriveNodes.{deepened}
use Rattle.call_law.proofs.FormTerms.{terms_fit, fails_fit}
use Rattle.call_law.proofs.HasTrees.{labels_have_trees}
use Rattle.cte_names.proofs.BodiesClear.{TableClears}
use Rattle.cte_names.proofs.BranchesClear.{row_of}
use Rattle.cte_names.proofs.FilesClear.{beside_working, sees_beside}
use Rattle.cte_names.proofs.PlainParts.{entry_plain, placed_at_plain, slots_same}
use Rattle.cte_names.proofs.PlainTree.{numbers_plain, tree_plain, trees_plain, without_marks}
use Rattle.cte_names.proofs.TreesClear.{table_clears}
use Rattle.cte_names.specs.Own.{IsOwn}
use Rattle.cte_parts.specs.Names.{row_names}
use Rattle.cte_prints.specs.QueryLaws.{TreeIsDerivable}
use Rattle.cte_prints.specs.DerivableParts.{TableIsDerivable}
use Rattle.cte_prints.proofs.BodiesFit.{labels_fit}
use Rattle.cte_prints.proofs.BranchesDerivable.{rows_derive}
use Rattle.cte_prints.proofs.FilesDerivable.{start_derives, tree_derives}
use Rattle.cte_prints.proofs.PlainPlaced.{erased_named, erased_shown}

-- ---- the entry

-- its parameters are parameters of the function
few_parameters : (params : ℕ) (y : Option SsaBlock) (x : Option AnfBlock) → EntryHas (MapOfParameters params) y → EntryParameters y x → (p : ℕ) → Among
    (params_of x) p → p < params
few_parameters params None x h e p among = absurd h
few_parameters params (Some y) None h e p among = absurd e
few_parameters params (Some y) (Some x) h e p among = let name = e among.place p among.there in (h.parameters name.place (name.slot, p) name.there).1

-- a label's number
label_within : (labels : List ℕ) (b : ℕ) (r : Tail) → r.labels ≡ labels → Among labels b → (o : Option ℕ) → label_of r b ≡ o → label_or
    (length labels) o < length labels
label_within labels b r same among (Some i) e = slice_get_within labels i b (subst (λ bs. slice_get bs i ≡ Some b) same (place_found r.labels b i e))
label_within labels b r same among None e = absurd (placed 0 r.labels b among.place (subst (λ bs. slice_get bs among.place ≡ Some b) (sym same) among.there) e)

-- ---- the table without marks

without_marks_derives : (d : ℕ) (schema : Schema) (table : List Expr) → TableIsDerivable d schema table → TableIsDerivable d schema (map erased table)
without_marks_derives d schema table h i t s ref sees sight own =
    let e : Expr = get_or table i expr.Null in
    let same : get_or (map erased table) i expr.Null ≡ erased e = entry_plain table i in
    let shown : qualified_expr (placed_at t ref (get_or (map erased table) i expr.Null)) s.levels ≡ qualified_expr (placed_at t ref e) s.levels =
    ap (λ x. qualified_expr (placed_at t ref x) s.levels) same
    ∙ (ap (λ x. qualified_expr x s.levels) (placed_at_plain t ref e) ∙ erased_shown (placed_at t ref e) s.levels) in
    subst (Derivable d (at l.Or)) (sym shown) (h i t s ref sees sight (subst (Each (λ k. IsOwn s.levels (ref k))) (ap slots_of same ∙ slots_same e) own))

-- ---- the whole

pub trees_derivable : TreeIsDerivable
trees_derivable schema written f slots g z a r count params checked lowered named called merged columned tight writable fits derivable =
    let m : Making = making_of f slots z a r in
    let n : Making = without_marks m in
    let clears : TableClears schema n.table = table_clears schema written f slots checked writable.few in
    let tables = beside_working schema (row_names (length r.columns)) in
    let sees = sees_beside schema (row_names (length r.columns)) in
    let plain : TableIsDerivable 196 schema n.table = without_marks_derives 196 schema (expressions f) derivable in
    let deeper : (e : ℕ) → 196 ≤ e → TableIsDerivable (suc e) schema n.table =
    λ e le i t s ref seen sight own. deepened 196 (suc e) (omega (arith, le)) (plain i t s ref seen sight own) in
    let trees : Each (λ b. HasTree m.table (params_of (slice_get a.blocks b)) (body_of a r b)) r.labels =
    labels_have_trees slots g z a r (expressions f) called columned (terms_fit f slots g lowered count params z named a called) merged in
    let bodies = labels_fit a r writable.labels tight.depths (fails_fit f slots g lowered count params z named a called) in
    let some : 0 < length r.labels = omega (arith, slice_get_within r.labels merged.entry.place g.entry merged.entry.there) in
    let rows : Derivable 215 from_item (qualified_part (label_rows n) [] (row_of (length r.columns) ∷ [])).item =
    rows_derive schema n clears fits.columns 196 16 deeper tables sees writable.labels slots z.names columned.as_many columned.each (trees_plain m trees) bodies
    (numbers_plain m fits) some in
    let few : (p : ℕ) → Among (params_of (slice_get a.blocks g.entry)) p → p < 64 =
    λ p among. omega (
      arith,
      few_parameters params (slice_get z.blocks g.entry)
          (slice_get a.blocks g.entry) named.entry called.entry p among,
      writable.parameters,
    ) in
    let place = label_within r.labels g.entry r refl merged.entry (label_of r g.entry) refl in
    let whole : Derivable 216 file (qualified (tree n g.entry (length schema.tables))) =
    tree_derives schema n fits.columns 214 g.entry (start_derives schema n fits.columns 214 g.entry few (omega (arith, place, writable.labels))) rows in
    subst (Derivable 216 file) (ap (λ q. qualified q) (sym (tree_plain m g.entry (length schema.tables))) ∙ erased_named (tree m g.entry (length schema.tables))) whole
