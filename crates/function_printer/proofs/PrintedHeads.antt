-- The heads of loops print as ones that read as them, with no END before LOOP.
use Rattle.std.proofs.Common.{◌≡◌, ◌↔◌, ℕ, refl, sym, ap, ◌∙◌, subst, Bool, true, false, List, [], ◌∷◌, ◌++◌, Option, Some, None, append_assoc}
use Rattle.away_grammar.specs.declared.grammar.Mark.TheVariants as m
use Rattle.away_grammar.specs.declared.grammar.Level.TheVariants as l
use Rattle.away_trees.specs.declared.queries.Expr.{Expr}
use Rattle.away_trees.specs.declared.statements.LoopKind.TheVariants as k
use Rattle.away_grammar.specs.Terminals.{Terminal, mark, name}
use Rattle.away_grammar.specs.Grammar.{at, Reads, perhaps}
use Rattle.away_grammar.specs.FunctionGrammar as g
use Rattle.away_grammar.specs.FunctionGrammar.{ReadsPart, opens_loop}
use Rattle.sql_printer.specs.Writable.{Writable}
use Rattle.sql_printer.proofs.PrintExpressions.{perhaps_behind}
use Rattle.function_printer.specs.Closed.{closed}
use Rattle.function_printer.specs.FunctionTerminals.{whole}
use Rattle.function_printer.proofs.ClosedPlain.{closed_plain}
use Rattle.function_printer.proofs.Closes.{Closes, closed_reads}
use Rattle.function_printer.proofs.OpenEnds.{front}
use Rattle.function_printer.proofs.NoDotFirst.{no_dot_first}
use Rattle.function_printer.proofs.Says.{NotDotNext}
use Rattle.function_printer.proofs.PrintedParts.{Prints, a_mark, a_dot, first_of, a_name, both, clearly, perhaps_told, ReadsExpr, opens}
use Rattle.function_printer.proofs.PrintedNodes.{PartPrints}
use Rattle.function_printer.proofs.PrintedNodes.{PartPrints}

-- The LOOP behind a condition opens a loop but where END stands directly before it.
abbrev pub ConditionEnds : Type 0
ConditionEnds =
    (ts : List Terminal) (x : Expr) (rest : List Terminal) → Reads (at l.Or) ts x (mark m.Loop ∷ rest)
    → (opens_loop ts ≡ false) ↔ ((before : List Terminal) × (ts ≡ before ++ mark m.End ∷ mark m.Loop ∷ rest))

-- So does the one behind a range.
abbrev pub RangeEnds : Type 0
RangeEnds =
    (ts : List Terminal) (first : Expr) (after : List Terminal) (last : Expr) (middle : List Terminal) (x : Option Expr) (rest : List Terminal)
    → Reads (at l.Or) ts first (mark m.Dots ∷ after) → Reads (at l.Or) after last middle → ReadsPart g.step middle x (mark m.Loop ∷ rest)
    → (opens_loop ts ≡ false) ↔ ((before : List Terminal) × (ts ≡ before ++ mark m.End ∷ mark m.Loop ∷ rest))

-- The laws of the reader on what stands before LOOP are taken from there.
module _ (condition_ends : ConditionEnds) (range_ends : RangeEnds) where
  pub while_with : (x : Expr) → Closes x → PartPrints g.kind (k.While x)
  while_with x c = record {
    said = mark m.While ∷ closed x;
    tells = a_mark m.While refl (clearly c.clear (closed_plain x));
    reads = λ more.
        let d = closed_reads c (mark m.Loop ∷ more) in
        g.while_loop (opens (closed x) more c.ends (condition_ends (closed x ++ mark m.Loop ∷ more) x more d).0) d;
  }

  -- a range that ends with its last bound
  pub range_with : (n : List ℕ) (reverse : Bool) (first last : Expr) → Writable (name n) → Prints (whole first) (ReadsExpr first) → Closes last
      → PartPrints g.kind (k.Count n reverse first last None)
  range_with n reverse first last w a c = record {
    said = mark m.For ∷ name n ∷ mark m.In ∷ perhaps reverse (mark m.Reverse) (a.said ++ mark m.Dots ∷ closed last);
    tells = a_mark m.For refl (a_name n w
        (a_mark m.In refl (perhaps_told reverse m.Reverse refl
        (both a.tells (a_dot m.Dots (first_of (closed last) (mark m.Loop ∷ []) c.ends (no_dot_first (closed_reads c (mark m.Loop ∷ []))))
        (clearly c.clear (closed_plain last)))))));
    reads = λ more.
        let second = closed_reads c (mark m.Loop ∷ more) in
        let first_reads = a.reads (mark m.Dots ∷ (closed last ++ mark m.Loop ∷ more)) in
        let split : (a.said ++ mark m.Dots ∷ closed last) ++ mark m.Loop ∷ more
        ≡ a.said ++ mark m.Dots ∷ (closed last ++ mark m.Loop ∷ more) = append_assoc a.said (mark m.Dots ∷ closed last) (mark m.Loop ∷ more) in
        let is_open = subst (λ z. opens_loop z ≡ true) split (opens (a.said ++ mark m.Dots ∷ closed last) more (front a.said (front (mark m.Dots ∷ []) c.ends))
        (subst (λ z. opens_loop z ≡ false → (before : List Terminal) × (z ≡ before ++ mark m.End ∷ mark m.Loop ∷ more)) (sym split)
        (range_ends (a.said ++ mark m.Dots ∷ (closed last ++ mark m.Loop ∷ more)) first (closed last ++ mark m.Loop ∷ more) last
        (mark m.Loop ∷ more) None more first_reads second g.no_step).0)) in
        simp (append_assoc, perhaps_behind) (g.for_loop is_open first_reads second g.no_step);
  }

  -- or with a step
  pub step_with : (n : List ℕ) (reverse : Bool) (first last step : Expr) → Writable (name n) → Prints (whole first) (ReadsExpr first)
      → Prints (whole last) (ReadsExpr last) → NotDotNext (whole last ++ mark m.By ∷ closed step) → Closes step
      → PartPrints g.kind (k.Count n reverse first last (Some step))
  step_with n reverse first last step w a b begins c = record {
    said = mark m.For ∷ name n ∷ mark m.In ∷ perhaps reverse (mark m.Reverse) (a.said ++ mark m.Dots ∷ (b.said ++ mark m.By ∷ closed step));
    tells = a_mark m.For refl (a_name n w
        (a_mark m.In refl (perhaps_told reverse m.Reverse refl
        (both a.tells (a_dot m.Dots begins (both b.tells (a_mark m.By refl (clearly c.clear (closed_plain step)))))))));
    reads = λ more.
        let last_step = g.step_of (closed_reads c (mark m.Loop ∷ more)) in
        let from_last = b.said ++ mark m.By ∷ (closed step ++ mark m.Loop ∷ more) in
        let second = b.reads (mark m.By ∷ (closed step ++ mark m.Loop ∷ more)) in
        let first_reads = a.reads (mark m.Dots ∷ from_last) in
        let split : (a.said ++ mark m.Dots ∷ (b.said ++ mark m.By ∷ closed step)) ++ mark m.Loop ∷ more
        ≡ a.said ++ mark m.Dots ∷ (b.said ++ mark m.By ∷ (closed step ++ mark m.Loop ∷ more)) =
        append_assoc a.said (mark m.Dots ∷ (b.said ++ mark m.By ∷ closed step)) (mark m.Loop ∷ more)
        ∙ ap (λ z. a.said ++ mark m.Dots ∷ z) (append_assoc b.said (mark m.By ∷ closed step) (mark m.Loop ∷ more)) in
        let is_open = subst (λ z. opens_loop z ≡ true) split (opens (a.said ++ mark m.Dots ∷ (b.said ++ mark m.By ∷ closed step)) more
        (front a.said (front (mark m.Dots ∷ []) (front b.said (front (mark m.By ∷ []) c.ends))))
        (subst (λ z. opens_loop z ≡ false → (before : List Terminal) × (z ≡ before ++ mark m.End ∷ mark m.Loop ∷ more)) (sym split)
        (range_ends (a.said ++ mark m.Dots ∷ from_last) first from_last last (mark m.By ∷ (closed step ++ mark m.Loop ∷ more))
        (Some step) more first_reads second last_step).0)) in
        simp (append_assoc, perhaps_behind) (g.for_loop is_open first_reads second last_step);
  }
