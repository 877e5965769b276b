-- What the parts of a body print as, and what is printed of blocks, loops and SELECT INTO where their parts are.
use Rattle.std.proofs.Common.{◌≡◌, ℕ, refl, sym, ap, ◌∙◌, subst, Bool, List, [], ◌∷◌, ◌++◌, map, Option, append_assoc, append-nil, option_map}
use Rattle.away_grammar.specs.declared.grammar.Mark.{Mark}
use Rattle.away_grammar.specs.declared.grammar.Mark.TheVariants as m
use Rattle.away_trees.specs.declared.queries.Expr.{Expr}
use Rattle.away_trees.specs.declared.queries.FromItem.{FromItem}
use Rattle.away_trees.specs.declared.queries.Item.{Item}
use Rattle.away_trees.specs.declared.queries.Key.{Key}
use Rattle.away_trees.specs.declared.queries.Select.{Select}
use Rattle.away_trees.specs.declared.queries.Expr.TheViews.{roll-Select, out-Select, out-roll-Select}
use Rattle.away_trees.specs.declared.statements.Arm.{Arm}
use Rattle.away_trees.specs.declared.statements.Decl.{Decl}
use Rattle.away_trees.specs.declared.statements.LoopKind.{LoopKind}
use Rattle.away_trees.specs.declared.statements.Stmt.{Stmt}
use Rattle.away_trees.specs.declared.statements.Stmt.TheVariants as s
use Rattle.away_trees.specs.Algebra.{item_of, from_of, key_of}
use Rattle.away_trees.specs.StatementAlgebra.{branch_of}
use Rattle.away_trees.proofs.StatementEquations.{of_block, of_loop}
use Rattle.away_grammar.specs.Terminals.{Terminal, mark}
use Rattle.away_grammar.specs.Grammar.{items, from_clause, where_clause, order_clause, limit_clause, Reads, perhaps}
use Rattle.away_grammar.specs.FunctionGrammar as g
use Rattle.away_grammar.specs.FunctionGrammar.{Part, PartTree, ReadsPart, Target, labelled, perhaps_name}
use Rattle.away_grammar.specs.Printing.{printed, printing, joined, with_commas, names_terminals, from_terminals, where_terminals, order_terminals, limit_terminals}
use Rattle.sql_printer.specs.Writable.{AllWritable}
use Rattle.sql_printer.proofs.PrintExpressions.{perhaps_behind}
use Rattle.sql_printer.proofs.PrintBack.{prints_back}
use Rattle.sql_printer.proofs.PrintWritable.{prints_clear}
use Rattle.function_printer.specs.FunctionTerminals as f
use Rattle.function_printer.specs.FunctionTerminals.{in_order, semicolon, printing_statements, statement_terminals}
use Rattle.function_printer.proofs.Plain.{from_part_plain, where_part_plain, order_part_plain, limit_part_plain}
use Rattle.function_printer.proofs.PrintedParts.{Prints, Tells, as_terminals, no_more, a_mark, both, clearly, the_semicolon, NameWritable, label_told, name_told, label_behind, name_behind}

-- ---- what stands for each part

-- each with the same mark before it
abbrev pub led : Mark → List (List Terminal) → List Terminal
led terminal [] = []
led terminal (x ∷ xs) = mark terminal ∷ (x ++ led terminal xs)

pub joined_led : (terminal : Mark) (x : List Terminal) (xs : List (List Terminal)) → joined (mark terminal ∷ []) (x ∷ xs) ≡ x ++ led terminal xs
joined_led terminal x [] = sym (append-nil x)
joined_led terminal x (y ∷ ys) = ap (λ z. x ++ mark terminal ∷ z) (joined_led terminal y ys)

abbrev pub arm_terminals : Arm → List Terminal
arm_terminals a = branch_of printing_statements a

abbrev pub body_terminals : List Stmt → List Terminal
body_terminals ss = in_order (map (λ x. statement_terminals x) ss)

abbrev pub ReadsAs : (p : Part) → PartTree p → List Terminal → Type 0
ReadsAs p t ts = (after : List Terminal) → ReadsPart p (ts ++ after) t after

-- a block or a loop behind its label, without its `;`
pub record Behind (p : Part) (label : Option (List ℕ)) (x : Stmt) (t : PartTree p) : Type 0 where
  pub terminals : List Terminal
  pub is : statement_terminals x ≡ labelled label [] ++ (terminals ++ semicolon)
  pub prints : Prints terminals (ReadsAs p t)

-- what stands before LOOP
abbrev pub KindReads : LoopKind → List Terminal → Type 0
KindReads how ts = (more : List Terminal) → ReadsPart g.kind (ts ++ mark m.Loop ∷ more) how (mark m.Loop ∷ more)

abbrev pub PartPrints : (p : Part) → PartTree p → Type 0
PartPrints g.decl d = Prints (f.decl_of d) (ReadsAs g.decl d)
PartPrints g.decls ds = Prints (in_order (map (λ x. f.decl_of x) ds)) (ReadsAs g.decls ds)
PartPrints g.default o = Prints (f.default_of o) (ReadsAs g.default o)
PartPrints g.statement x = Prints (statement_terminals x) (ReadsAs g.statement x)
PartPrints g.statements xs = Prints (body_terminals xs) (ReadsAs g.statements xs)
PartPrints g.branch a = Prints (arm_terminals a) (ReadsAs g.branch a)
PartPrints g.elsifs more = Prints (led m.Elsif (map (λ a. arm_terminals a) more)) (ReadsAs g.elsifs more)
PartPrints g.whens more = Prints (led m.When (map (λ a. arm_terminals a) more)) (ReadsAs g.whens more)
PartPrints g.otherwise o = Prints (f.else_of (option_map (λ body. map (λ x. statement_terminals x) body) o)) (ReadsAs g.otherwise o)
PartPrints g.condition o = Prints (f.condition_of o) (ReadsAs g.condition o)
PartPrints g.targets ns = Prints (names_terminals (f.target_names ns)) (ReadsAs g.targets ns)
PartPrints g.into t = Prints (perhaps t.0 (mark m.Strict) (names_terminals (f.target_names t.1))) (ReadsAs g.into t)
PartPrints (g.clauses list) q = ((out-Select q).list ≡ list) × Prints (f.clauses_of q) (ReadsAs (g.clauses list) q)
PartPrints (g.block label) x = Behind (g.block label) label x x
PartPrints (g.repeated label) x = Behind (g.repeated label) label x x
PartPrints g.kind how = Prints (f.kind_of how) (KindReads how)
PartPrints g.body x = Prints (statement_terminals x) (ReadsAs g.body x)
PartPrints g.parameter x = Prints (f.parameter_terminals x) (ReadsAs g.parameter x)
PartPrints g.parameters xs = Prints (with_commas (map (λ x. f.parameter_terminals x) xs)) (ReadsAs g.parameters xs)
PartPrints g.signature xs = Prints (mark m.Open ∷ (with_commas (map (λ x. f.parameter_terminals x) xs) ++ mark m.Close ∷ [])) (ReadsAs g.signature xs)
PartPrints _ t = Unit {0}

-- a step and what an attribute is are printed with what is round them
abbrev pub Left : Part → List Terminal → Type 0
Left g.step ts = Unit {0}
Left g.attribute_of ts = Unit {0}
Left g.attributes ts = Unit {0}
Left (g.function inside) ts = Unit {0}
Left _ ts = AllWritable ts

-- ---- blocks and loops

pub block_of : (label : Option (List ℕ)) (ds : List Decl) (ss : List Stmt) (closing : Option (List ℕ)) → NameWritable closing
    → PartPrints g.decls ds → PartPrints g.statements ss → PartPrints (g.block label) (s.Block label ds ss closing)
block_of label [] ss closing w d b = record {
  terminals = mark m.Begin ∷ (body_terminals ss ++ mark m.End ∷ perhaps_name closing []);
  is = of_block printing_statements label [] ss closing
      ∙ ap (λ z. labelled label [] ++ mark m.Begin ∷ z) (sym (append_assoc (body_terminals ss) (mark m.End ∷ perhaps_name closing []) semicolon));
  prints = record {
    said = mark m.Begin ∷ (b.said ++ mark m.End ∷ perhaps_name closing []);
    tells = a_mark m.Begin refl (both b.tells
        (a_mark m.End refl (subst (λ z. Tells z z) (append-nil (perhaps_name closing [])) (name_told closing w no_more))));
    reads = λ after. simp (append_assoc, name_behind) (g.plain_block closing (b.reads (mark m.End ∷ perhaps_name closing after)));
  };
}
block_of label (x ∷ ds) ss closing w d b = record {
  terminals = mark m.Declare ∷ (in_order (map (λ y. f.decl_of y) (x ∷ ds)) ++ mark m.Begin ∷ (body_terminals ss ++ mark m.End ∷ perhaps_name closing []));
  is = of_block printing_statements label (x ∷ ds) ss closing
      ∙ ap (λ z. labelled label [] ++ mark m.Declare ∷ z) (sym (append_assoc (in_order (map (λ y. f.decl_of y) (x ∷ ds)))
      (mark m.Begin ∷ (body_terminals ss ++ mark m.End ∷ perhaps_name closing [])) semicolon
      ∙ ap (λ z. in_order (map (λ y. f.decl_of y) (x ∷ ds)) ++ mark m.Begin ∷ z)
      (append_assoc (body_terminals ss) (mark m.End ∷ perhaps_name closing []) semicolon)));
  prints = record {
    said = mark m.Declare ∷ (d.said ++ mark m.Begin ∷ (b.said ++ mark m.End ∷ perhaps_name closing []));
    tells = a_mark m.Declare refl (both d.tells
        (a_mark m.Begin refl (both b.tells (a_mark m.End refl (subst (λ z. Tells z z) (append-nil (perhaps_name closing [])) (name_told closing w no_more))))));
    reads = λ after.
        simp (append_assoc, name_behind)
        (g.declaring_block closing (d.reads (mark m.Begin ∷ (b.said ++ mark m.End ∷ perhaps_name closing after)))
        (b.reads (mark m.End ∷ perhaps_name closing after)));
  };
}

pub loop_with : (label : Option (List ℕ)) (how : LoopKind) (ss : List Stmt) (closing : Option (List ℕ)) → NameWritable closing
    → PartPrints g.kind how → PartPrints g.statements ss → PartPrints (g.repeated label) (s.Loop label how ss closing)
loop_with label how ss closing w d b = record {
  terminals = f.kind_of how ++ mark m.Loop ∷ (body_terminals ss ++ mark m.End ∷ mark m.Loop ∷ perhaps_name closing []);
  is = of_loop printing_statements label how ss closing ∙ simp append_assoc refl;
  prints = record {
    said = d.said ++ mark m.Loop ∷ (b.said ++ mark m.End ∷ mark m.Loop ∷ perhaps_name closing []);
    tells = both d.tells (a_mark m.Loop refl
        (both b.tells (a_mark m.End refl (a_mark m.Loop refl (subst (λ z. Tells z z) (append-nil (perhaps_name closing [])) (name_told closing w no_more))))));
    reads = λ after.
        simp (append_assoc, name_behind)
        (g.loop_of closing (d.reads (b.said ++ mark m.End ∷ mark m.Loop ∷ perhaps_name closing after))
        (b.reads (mark m.End ∷ mark m.Loop ∷ perhaps_name closing after)));
  };
}

-- a block or a loop with its label and its `;`
module _ (p : Part) (label : Option (List ℕ)) (x : Stmt) (t : PartTree p) (w : NameWritable label) (b : Behind p label x t) where
  pub whole_tells : Tells (statement_terminals x) (labelled label [] ++ (b.prints.said ++ semicolon))
  whole_tells = subst (λ z. Tells z (labelled label [] ++ (b.prints.said ++ semicolon))) (sym b.is) (label_told label w (both b.prints.tells the_semicolon))

  pub whole_behind : (after : List Terminal)
      → labelled label (b.prints.said ++ mark m.Semicolon ∷ after) ≡ (labelled label [] ++ (b.prints.said ++ semicolon)) ++ after
  whole_behind after =
      ap (λ z. labelled label z) (sym (append_assoc b.prints.said semicolon after)) ∙ sym (label_behind label (b.prints.said ++ semicolon) after)
      ∙ ap (λ z. z ++ after) (sym (label_behind label [] (b.prints.said ++ semicolon)))

-- ---- SELECT INTO

pub clauses_with : (xs : List Item) (fs : List FromItem) (w : Option Expr) (ks : List Key) (n : Option Expr) {ts after middle before rest : List Terminal}
    → Reads from_clause ts fs after → Reads where_clause after w middle → Reads order_clause middle ks before → Reads limit_clause before n rest
    → AllWritable ts
    → PartPrints (g.clauses xs) (roll-Select (record { list = xs; from = fs; filter = w; order = ks; limit = n })) × AllWritable rest
clauses_with xs fs w ks n a b c d h =
    let q = roll-Select (record { list = xs; from = fs; filter = w; order = ks; limit = n }) in
    let from = from_terminals (map (λ x. from_of printing x) fs) in
    let where_ = where_terminals (option_map (λ e. printed e) w) in
    let order = order_terminals (map (λ x. key_of printing x) ks) in
    let limit = limit_terminals (option_map (λ e. printed e) n) in
    let ra = prints_clear a h in
    let rb = prints_clear b ra.1 in
    let rc = prints_clear c rb.1 in
    let rd = prints_clear d rc.1 in
    let is : f.clauses_of q ≡ from ++ (where_ ++ (order ++ limit)) =
    ap (λ u. from_terminals (map (λ x. from_of printing x) u.from) ++ (where_terminals (option_map (λ e. printed e) u.filter)
    ++ (order_terminals (map (λ x. key_of printing x) u.order) ++ limit_terminals (option_map (λ e. printed e) u.limit)))) (out-roll-Select _) in (
      (
        ap (λ u. u.list) (out-roll-Select _),
        as_terminals is (record {
          said = from ++ (where_ ++ (order ++ limit));
          tells = both (clearly ra.0 (from_part_plain fs))
              (both (clearly rb.0 (where_part_plain w)) (both (clearly rc.0 (order_part_plain ks)) (clearly rd.0 (limit_part_plain n))));
          reads = λ after.
              simp append_assoc
              (g.clauses_of (prints_back a (where_ ++ (order ++ (limit ++ after)))) (prints_back b (order ++ (limit ++ after)))
              (prints_back c (limit ++ after)) (prints_back d after));
        }),
      ),
      rd.1,
    )

pub into_with : (w : Bool) (ns : List Target) (xs : List Item) (q : Select)
    → Tells (with_commas (map (λ i. item_of printing i) xs)) (with_commas (map (λ i. item_of printing i) xs))
    → ((after : List Terminal) → Reads items (with_commas (map (λ i. item_of printing i) xs) ++ after) xs after)
    → PartPrints g.into (w, ns) → PartPrints (g.clauses xs) q → PartPrints g.statement (s.Into w ns q)
into_with w ns xs q list_tells list_reads i c =
    let list = with_commas (map (λ i. item_of printing i) xs) in
    let is : statement_terminals (s.Into w ns q)
    ≡ mark m.Select ∷ (list ++ mark m.Into ∷ (perhaps w (mark m.Strict) (names_terminals (f.target_names ns)) ++ (f.clauses_of q ++ semicolon))) =
    ap (λ u. mark m.Select ∷ (with_commas (map (λ i. item_of printing i) u) ++ mark m.Into ∷ perhaps w (mark m.Strict)
    (names_terminals (f.target_names ns) ++ (f.clauses_of q ++ semicolon)))) c.0
    ∙ ap (λ z. mark m.Select ∷ (list ++ mark m.Into ∷ z))
    (sym (perhaps_behind w (mark m.Strict) (names_terminals (f.target_names ns)) (f.clauses_of q ++ semicolon))) in
    as_terminals is (record {
      said = mark m.Select ∷ (list ++ mark m.Into ∷ (i.said ++ (c.1.said ++ semicolon)));
      tells = a_mark m.Select refl (both list_tells (a_mark m.Into refl (both i.tells (both c.1.tells the_semicolon))));
      reads = λ after.
          simp append_assoc
          (g.list_into (list_reads (mark m.Into ∷ (i.said ++ (c.1.said ++ mark m.Semicolon ∷ after))))
          (i.reads (c.1.said ++ mark m.Semicolon ∷ after)) (c.1.reads (mark m.Semicolon ∷ after)));
    })
