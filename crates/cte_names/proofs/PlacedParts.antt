-- Lists of a function's trees as a query has them, and FROM, where no rule of names is broken.
use Rattle.std.proofs.Common.{◌≡◌, refl, sym, ◌∙◌, ℕ, suc, Bool, List, [], ◌∷◌, ◌++◌, map, fold, length, Option}
use Rattle.std.specs.List.{flat_map}
use Rattle.std.proofs.lemmas.List.{append_assoc, append-nil}
use Rattle.away_values.specs.declared.operators.ChainOp.{ChainOp}
use Rattle.away_values.specs.declared.operators.ChainOp.TheVariants as chain
use Rattle.away_trees.specs.declared.queries.Expr.{Expr}
use Rattle.away_trees.specs.declared.queries.FromItem.{FromItem}
use Rattle.away_trees.specs.declared.queries.Expr.TheViews.{out-FromItem}
use Rattle.away_trees.specs.Algebra.{Algebra, expr_of, from_of, item_of, key_of, select_of}
use Rattle.away_trees.proofs.Equations as eq
use Rattle.away_names.specs.declared.note.Framed.{Framed}
use Rattle.away_names.specs.declared.note.Noted.{Noted}
use Rattle.away_names.specs.declared.note.Part.{Part}
use Rattle.away_names.specs.declared.scope.Seen.{Seen}
use Rattle.away_names.specs.Lookups.{Name, Level, Scope}
use Rattle.away_names.specs.Naming as n
use Rattle.elaboration.specs.Marks.{plain_op}
use Rattle.sql_meaning.specs.Reads.{Read, Reads, reading, of_list}
use Rattle.sql_meaning.proofs.Lists.{Zipped}
use Rattle.sql_meaning.proofs.Uses.{left, right}
use Rattle.type_soundness.specs.Sorts.{Every}
use Rattle.type_soundness.proofs.CleanNotes.{Clean, clean_parts}
use Rattle.qualified_names.specs.Trees.{qualified_item, qualified_part}
use Rattle.qualified_names.specs.Unambiguous.{values, links, arms, items, keys, from_items, selects, IsClear}
use Rattle.qualified_names.specs.Unambiguous as c
use Rattle.qualified_names.proofs.BackQueries.{parts, all_seen}
use Rattle.cte_names.proofs.Refined.{NameSo, SeenSo, LevelSo}
use Rattle.cte_names.proofs.Standing.{under, ClearExpr, ClearItem, ClearKey, ClearPart, ClearSelect, Fits, Allowed, one_of_these, placing}

-- the items of FROM in turn, each of which sees those before it
abbrev pub pieces : Scope → Level → List n.Piece → List Part
pieces s level [] = []
pieces s level (p ∷ ps) = (p.judge s level).it ∷ pieces s (level ++ (p.judge s level).it.seen ∷ []) ps

abbrev pub CleanPieces : Scope → Level → List n.Piece → Type 0
CleanPieces s level [] = Unit {0}
CleanPieces s level (p ∷ ps) = Clean (p.judge s level).note × CleanPieces s (level ++ (p.judge s level).it.seen ∷ []) ps

module _ (s : Scope) where
  abbrev framed_behind : Noted Framed → List n.Piece → Noted Framed
  framed_behind acc ps = fold (λ a f. n.with_part a (f.judge s a.it.seen)) acc ps

  items_more : (acc : Noted Framed) (ps : List n.Piece) → (framed_behind acc ps).it.items ≡ acc.it.items ++ map (λ x. x.item) (pieces s acc.it.seen ps)
  items_more acc [] = sym (append-nil acc.it.items)
  items_more acc (p ∷ ps) =
      let x : Noted Part = p.judge s acc.it.seen in
      items_more (n.with_part acc x) ps ∙ append_assoc acc.it.items (x.it.item ∷ []) (map (λ x. x.item) (pieces s (acc.it.seen ++ x.it.seen ∷ []) ps))

  seen_more : (acc : Noted Framed) (ps : List n.Piece) → (framed_behind acc ps).it.seen ≡ acc.it.seen ++ map (λ x. x.seen) (pieces s acc.it.seen ps)
  seen_more acc [] = sym (append-nil acc.it.seen)
  seen_more acc (p ∷ ps) =
      let x : Noted Part = p.judge s acc.it.seen in
      seen_more (n.with_part acc x) ps ∙ append_assoc acc.it.seen (x.it.seen ∷ []) (map (λ x. x.seen) (pieces s (acc.it.seen ++ x.it.seen ∷ []) ps))

  clean_more : (acc : Noted Framed) (ps : List n.Piece) → Clean (framed_behind acc ps).note → Clean acc.note × CleanPieces s acc.it.seen ps
  clean_more acc [] k = (k, tt)
  clean_more acc (p ∷ ps) k =
      let rest = clean_more (n.with_part acc (p.judge s acc.it.seen)) ps k in
      let both = clean_parts acc.note (p.judge s acc.it.seen).note rest.0 in
      (both.0, (both.1, rest.1))

  pub framed_items : (ps : List n.Piece) → (n.framed s ps).it.items ≡ map (λ x. x.item) (pieces s [] ps)
  framed_items ps = items_more n.no_part ps

  pub framed_seen : (ps : List n.Piece) → (n.framed s ps).it.seen ≡ map (λ x. x.seen) (pieces s [] ps)
  framed_seen ps = seen_more n.no_part ps

  pub framed_clean : (ps : List n.Piece) → Clean (n.framed s ps).note → CleanPieces s [] ps
  framed_clean ps k = (clean_more n.no_part ps k).1

-- an operation without its mark has none
pub plain_twice : (op : ChainOp) → plain_op (plain_op op) ≡ plain_op op
unfolding plain_op
plain_twice chain.Or = refl
plain_twice chain.And = refl
plain_twice chain.Concat = refl
plain_twice (chain.Int op) = refl
plain_twice (chain.Small op) = refl

zipped_append : {A B : Type 0} (R : A → B → Type 0) (xs : List A) (ys : List B) (x : A) (y : B) → Zipped R xs ys → R x y → Zipped R (xs ++ x ∷ []) (ys ++ y ∷ [])
zipped_append R [] [] x y r h = (h, tt)
zipped_append R (a ∷ xs) (b ∷ ys) x y r h = (r.0, zipped_append R xs ys x y r.1 h)
zipped_append R _ _ x y r h = absurd r

module _ (q : Scope) (slots : ℕ → Bool) (leaf : ℕ → ℕ → Expr) where
  abbrev P : Algebra
  P = placing leaf

  abbrev May : List Read → Type 0
  May = Allowed slots

  -- ---- what holds of each kind of node

  abbrev pub Exprs : n.Term → Type 0
  Exprs t =
      (s : Scope) (ms : List Level) → Fits q s ms → Clean (t.judge s).note → May (expr_of reading (t.judge s).it (length ms))
      → ClearExpr (under ms q) (n.shown (t.judge s).it t.last) (expr_of P (t.judge s).it (length ms))

  abbrev pub Items : n.Entry → Type 0
  Items i =
      (s : Scope) (ms : List Level) → Fits q s ms → Clean (i.judge s).note → May (item_of reading (i.judge s).it.it (length ms))
      → ClearItem (under ms q) (i.judge s).it.name (item_of P (i.judge s).it.it (length ms))

  abbrev pub Keys : n.Sort → Type 0
  Keys k =
      (aliases : List (Option Name)) (s : Scope) (ms : List Level) → Fits q s ms → Clean (k aliases s).note → May (key_of reading (k aliases s).it (length ms))
      → ClearKey (under ms q) (key_of P (k aliases s).it (length ms))

  -- what stands in FROM is one select further in
  abbrev pub Froms : n.Piece → Type 0
  Froms f =
      (s : Scope) (level seen : Level) (ms : List Level) → LevelSo level seen → Fits q s ms → Clean (f.judge s level).note → May (from_of reading (f.judge s level).it.item (suc (length ms)))
      → ((f.judge s level).it.seen.alias ≡ f.alias) × ClearPart (under ms q) seen (f.judge s level).it.seen (from_of P (f.judge s level).it.item (suc (length ms)))

  abbrev pub Selects : n.Listing → Type 0
  Selects l =
      (s : Scope) (ms : List Level) → Fits q s ms → Clean (l s).note → May (select_of reading (l s).it.it (length ms))
      → ClearSelect (under ms q) (l s).it.names (select_of P (l s).it.it (length ms))

  first : {A B : Type 0} (d : ℕ) (part : B → Reads) (it : A → B) (x : A) (xs : List A) → May (of_list d (map (λ y. part y) (map (λ z. it z) (x ∷ xs)))) → May (part (it x) d)
  first d part it x xs h = left (one_of_these slots) (part (it x) d) (of_list d (map (λ y. part y) (map (λ z. it z) xs))) h

  rest : {A B : Type 0} (d : ℕ) (part : B → Reads) (it : A → B) (x : A) (xs : List A) → May (of_list d (map (λ y. part y) (map (λ z. it z) (x ∷ xs)))) → May (of_list d (map (λ y. part y) (map (λ z. it z) xs)))
  rest d part it x xs h = right (one_of_these slots) (part (it x) d) (of_list d (map (λ y. part y) (map (λ z. it z) xs))) h

  -- ---- lists of expressions

  module _ (s : Scope) (ms : List Level) (f : Fits q s ms) where
    abbrev d : ℕ
    d = length ms

    pub values_clear : (ts : List n.Term) → Every Exprs ts → Every (λ t. Clean (t.judge s).note) ts → May (of_list (length ms) (map (λ e. expr_of reading e) (map (λ t. (t.judge s).it) ts)))
        → IsClear values (under ms q) (map (λ x. x (length ms)) (map (λ e. expr_of P e) (map (λ t. (t.judge s).it) ts)))
    values_clear [] h k a = c.no_value
    values_clear (t ∷ ts) h k a = c.one_value (h.0 s ms f k.0 (first d (λ e. expr_of reading e) (λ t. (t.judge s).it) t ts a)).clear (values_clear ts h.1 k.1 (rest d (λ e. expr_of reading e) (λ t. (t.judge s).it) t ts a))

    pub links_clear : (ls : List (ChainOp × n.Term)) → Every (λ (l : ChainOp × n.Term). Exprs l.1) ls → Every (λ l. Clean (n.linked s l).note) ls
        → May (flat_map (λ (l : ChainOp × Reads). l.1 (length ms)) (map (λ l. eq.link_of reading l) (map (λ l. (n.linked s l).it) ls)))
        → IsClear links (under ms q) (map (λ (l : ChainOp × (ℕ → Expr)). (plain_op l.0, l.1 (length ms))) (map (λ l. eq.link_of P l) (map (λ l. (n.linked s l).it) ls)))
    links_clear [] h k a = c.no_link
    links_clear (l ∷ ls) h k a =
        let here : List Read = expr_of reading (l.1.judge s).it (length ms) in
        c.one_link (plain_op l.0) (plain_twice l.0) (h.0 s ms f k.0 (left (one_of_these slots) here _ a)).clear (links_clear ls h.1 k.1 (right (one_of_these slots) here _ a))

    pub arms_clear : (as_ : List (n.Term × n.Term)) → Every (λ (a : n.Term × n.Term). Exprs a.0 × Exprs a.1) as_ → Every (λ a. Clean (n.armed s a).note) as_
        → May (flat_map (λ (a : Reads × Reads). a.0 (length ms) ++ a.1 (length ms)) (map (λ a. eq.arm_of reading a) (map (λ a. (n.armed s a).it) as_)))
        → IsClear arms (under ms q) (map (λ (a : (ℕ → Expr) × (ℕ → Expr)). (a.0 (length ms), a.1 (length ms))) (map (λ a. eq.arm_of P a) (map (λ a. (n.armed s a).it) as_)))
    arms_clear [] h k a = c.no_arm
    arms_clear (x ∷ as_) h k a =
        let both = clean_parts (x.0.judge s).note (x.1.judge s).note k.0 in
        let one : List Read = expr_of reading (x.0.judge s).it (length ms) in
        let two : List Read = expr_of reading (x.1.judge s).it (length ms) in
        let here = left (one_of_these slots) (one ++ two) _ a in
        c.one_arm (h.0.0 s ms f both.0 (left (one_of_these slots) one two here)).clear (h.0.1 s ms f both.1 (right (one_of_these slots) one two here)).clear
        (arms_clear as_ h.1 k.1 (right (one_of_these slots) (one ++ two) _ a))

    -- ---- lists of items and keys

    pub list_clear : (is : List n.Entry) → Every Items is → Every (λ i. Clean (i.judge s).note) is → May (of_list (length ms) (map (λ i. item_of reading i) (map (λ i. (i.judge s).it.it) is)))
        → IsClear items (under ms q) (map (λ x. x (length ms)) (map (λ i. item_of P i) (map (λ i. (i.judge s).it.it) is)))
    list_clear [] h k a = c.no_item
    list_clear (i ∷ is) h k a = (h.0 s ms f k.0 (first d (λ i. item_of reading i) (λ i. (i.judge s).it.it) i is a)).clear _ (list_clear is h.1 k.1 (rest d (λ i. item_of reading i) (λ i. (i.judge s).it.it) i is a))

    pub names_so : (is : List n.Entry) → Every Items is → Every (λ i. Clean (i.judge s).note) is → May (of_list (length ms) (map (λ i. item_of reading i) (map (λ i. (i.judge s).it.it) is)))
        → Zipped NameSo (map (λ i. (i.judge s).it.name) is)
        (map (λ c. c.name) (map (λ i. qualified_item i (ms ++ q.levels)) (map (λ x. x (length ms)) (map (λ i. item_of P i) (map (λ i. (i.judge s).it.it) is)))))
    names_so [] h k a = tt
    names_so (i ∷ is) h k a = ((h.0 s ms f k.0 (first d (λ i. item_of reading i) (λ i. (i.judge s).it.it) i is a)).named, names_so is h.1 k.1 (rest d (λ i. item_of reading i) (λ i. (i.judge s).it.it) i is a))

    pub keys_clear : (aliases : List (Option Name)) (ks : List n.Sort) → Every Keys ks → Every (λ k. Clean (k aliases s).note) ks → May (of_list (length ms) (map (λ k. key_of reading k) (map (λ k. (k aliases s).it) ks)))
        → IsClear keys (under ms q) (map (λ x. x (length ms)) (map (λ k. key_of P k) (map (λ k. (k aliases s).it) ks)))
    keys_clear aliases [] h k a = c.no_key
    keys_clear aliases (x ∷ ks) h k a = (h.0 aliases s ms f k.0 (first d (λ k. key_of reading k) (λ k. (k aliases s).it) x ks a)).clear _ (keys_clear aliases ks h.1 k.1 (rest d (λ k. key_of reading k) (λ k. (k aliases s).it) x ks a))

    -- ---- selects

    pub selects_clear : (ls : List n.Listing) → Every Selects ls → Every (λ l. Clean (l s).note) ls → May (of_list (length ms) (map (λ x. select_of reading x) (map (λ l. (l s).it.it) ls)))
        → IsClear selects (under ms q) (map (λ x. x (length ms)) (map (λ x. select_of P x) (map (λ l. (l s).it.it) ls)))
    selects_clear [] h k a = c.no_select
    selects_clear (l ∷ ls) h k a = c.one_select (h.0 s ms f k.0 (first d (λ x. select_of reading x) (λ l. (l s).it.it) l ls a)).clear (selects_clear ls h.1 k.1 (rest d (λ x. select_of reading x) (λ l. (l s).it.it) l ls a))

    -- ---- FROM

    abbrev pub placed_from : List FromItem → List FromItem
    placed_from fs = map (λ x. x (suc (length ms))) (map (λ x. from_of P x) fs)

    -- the items of FROM behind some that the query sees so
    pub record FromSo (seen : Level) (aliases : List Name) (ps : List Part) : Type 0 where
      pub clear : IsClear (from_items seen) (under ms q) (placed_from (map (λ p. p.item) ps))
      pub seen_so : LevelSo (map (λ p. p.seen) ps) (all_seen (parts (ms ++ q.levels) seen (placed_from (map (λ p. p.item) ps))))
      pub aliases_are : map (λ f. (out-FromItem f).alias) (placed_from (map (λ p. p.item) ps)) ≡ aliases

    pub from_clear : (fs : List n.Piece) → Every Froms fs → (level seen : Level) → LevelSo level seen → CleanPieces s level fs
        → May (of_list (suc (length ms)) (map (λ x. from_of reading x) (map (λ p. p.item) (pieces s level fs))))
        → FromSo seen (map (λ f. f.alias) fs) (pieces s level fs)
    from_clear [] h level seen r k a = record { clear = c.no_from; seen_so = tt; aliases_are = refl }
    from_clear (p ∷ fs) h level seen r k a =
        let x : Part = (p.judge s level).it in
        let w : FromItem = from_of P x.item (suc (length ms)) in
        let o : Seen = (qualified_part w (ms ++ q.levels) seen).seen in
        let more_pieces : List Part = pieces s (level ++ x.seen ∷ []) fs in
        let here = h.0 s level seen ms r f k.0 (first (suc d) (λ x. from_of reading x) (λ p. p.item) x more_pieces a) in
        let more = from_clear fs h.1 (level ++ x.seen ∷ []) (seen ++ o ∷ []) (zipped_append SeenSo level seen x.seen o r here.1.seen_so) k.1 (rest (suc d) (λ x. from_of reading x) (λ p. p.item) x more_pieces a) in
        record {
          clear = c.one_from here.1.clear more.clear;
          seen_so = (here.1.seen_so, more.seen_so);
          aliases_are = λ i. (here.1.alias ∙ here.0) i ∷ more.aliases_are i;
        }
