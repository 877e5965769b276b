-- What is read of a body prints as terminals that are said as ones that read as it.
use Rattle.std.proofs.Common.{◌≡◌, refl, ap, ◌∙◌, subst, true, false, List, [], ◌∷◌, ◌++◌, map, append_assoc, option_map, codes}
use Rattle.away_grammar.specs.declared.grammar.Mark.TheVariants as m
use Rattle.away_grammar.specs.declared.grammar.Level.TheVariants as l
use Rattle.away_trees.specs.declared.statements.Stmt.TheVariants as s
use Rattle.away_trees.proofs.StatementEquations.{of_if, of_cases}
use Rattle.away_grammar.specs.Terminals.{Terminal, mark, name, string}
use Rattle.away_grammar.specs.Grammar.{perhaps, not_null}
use Rattle.away_grammar.specs.FunctionGrammar as g
use Rattle.away_grammar.specs.FunctionGrammar.{Part, PartTree, ReadsPart, labelled, perhaps_name}
use Rattle.away_grammar.specs.Printing.{type_name}
use Rattle.sql_printer.specs.Writable.{AllWritable}
use Rattle.sql_printer.proofs.PrintExpressions.{perhaps_behind, type_is}
use Rattle.sql_printer.proofs.PrintBack.{prints_back}
use Rattle.sql_printer.proofs.PrintClear.{type_writable}
use Rattle.sql_printer.proofs.PrintWritable.{prints_clear}
use Rattle.function_printer.specs.Closed.{closed}
use Rattle.function_printer.specs.FunctionTerminals as f
use Rattle.function_printer.specs.FunctionTerminals.{semicolon, printing_statements, statement_terminals}
use Rattle.function_printer.proofs.Closes.{closes}
use Rattle.function_printer.proofs.Plain.{list_part_plain}
use Rattle.function_printer.proofs.NoDotFirst.{no_dot_first}
use Rattle.function_printer.proofs.Says.{exception_shown, sqlstate_shown}
use Rattle.sql_printer.proofs.PrintLevels.{place}
use Rattle.function_printer.proofs.PrintedParts.{as_terminals, no_more, a_mark, a_name, a_string, a_word, both, clearly, the_semicolon, perhaps_told, not_null_told, label_left, name_left, perhaps_left, not_null_left, name_told, name_behind, not_null_behind, expression}
use Rattle.function_printer.proofs.PrintedNodes.{PartPrints, Left, led, joined_led, arm_terminals, block_of, loop_with, whole_tells, whole_behind, clauses_with, into_with}
use Rattle.function_printer.proofs.PrintedHeads.{ConditionEnds, RangeEnds, while_with, range_with, step_with}

-- The laws of the reader on what stands before LOOP are taken from there.
module _ (condition_ends : ConditionEnds) (range_ends : RangeEnds) where
  pub prints : {p : Part} {ts : List Terminal} {t : PartTree p} {rest : List Terminal} → ReadsPart p ts t rest → AllWritable ts → PartPrints p t × Left p rest
  prints g.no_default h = (record { said = []; tells = no_more; reads = λ after. g.no_default }, h)
  prints (g.default_of {x = x} terminal j d) h =
      let a = expression d h.1 in
      (record { said = mark m.Assign ∷ a.0.said; tells = a_mark m.Assign refl a.0.tells; reads = λ after. g.default_of m.Assign refl (a.0.reads after) }, a.1)
  prints (g.decl_of {n = n} {ty = ty} {constant = constant} {v = v} {x = x} t j d) h =
      let from_type = perhaps_left constant (mark m.Constant) _ h.1 in
      let a = prints d (not_null_left v _ from_type.1) in (
        record {
          said = name n ∷ perhaps constant (mark m.Constant) (name (type_name ty) ∷ not_null v (a.0.said ++ semicolon));
          tells = a_name n h.0 (perhaps_told constant m.Constant refl
              (a_name (type_name ty) (type_writable ty) (not_null_told v (both a.0.tells the_semicolon))));
          reads = λ after. simp (append_assoc, perhaps_behind, not_null_behind)
              (g.decl_of (type_name ty) (type_is t ty j) (a.0.reads (mark m.Semicolon ∷ after)));
        },
        a.1.1,
      )
  prints g.no_decl h = (record { said = []; tells = no_more; reads = λ after. g.no_decl }, h)
  prints (g.another_decl d b) h =
      let a = prints d h in
      let c = prints b a.1 in (
        record {
          said = a.0.said ++ c.0.said;
          tells = both a.0.tells c.0.tells;
          reads = λ after. simp append_assoc (g.another_decl (a.0.reads (c.0.said ++ after)) (c.0.reads after));
        },
        c.1,
      )
  prints (g.plain_block {label = label} {ss = ss} closing d) h =
      let a = prints d h.1 in
      let w = name_left closing _ a.1.1 in
      (block_of label [] ss closing w.0 (record { said = []; tells = no_more; reads = λ after. g.no_decl }) a.0, w.1)
  prints (g.declaring_block {label = label} {ds = ds} {ss = ss} closing d b) h =
      let a = prints d h.1 in
      let c = prints b a.1.1 in
      let w = name_left closing _ c.1.1 in
      (block_of label ds ss closing w.0 a.0 c.0, w.1)
  prints (g.block_statement {x = x} label d) h =
      let w = label_left label _ h in
      let a = prints d w.1 in (
        record {
          said = labelled label [] ++ (a.0.prints.said ++ semicolon);
          tells = whole_tells (g.block label) label x x w.0 a.0;
          reads = λ after. subst (λ z. ReadsPart g.statement z x after) (whole_behind (g.block label) label x x w.0 a.0 after)
              (g.block_statement label (a.0.prints.reads (mark m.Semicolon ∷ after)));
        },
        a.1.1,
      )
  prints (g.assignment {n = n} {x = x} terminal j d) h =
      let a = expression d h.1.1 in (
        record {
          said = name n ∷ mark m.Assign ∷ (a.0.said ++ semicolon);
          tells = a_name n h.0 (a_mark m.Assign refl (both a.0.tells the_semicolon));
          reads = λ after. simp append_assoc (g.assignment m.Assign refl (a.0.reads (mark m.Semicolon ∷ after)));
        },
        a.1.1,
      )
  prints g.nothing h = (record { said = mark m.Null ∷ semicolon; tells = a_mark m.Null refl the_semicolon; reads = λ after. g.nothing }, h.1.1)
  prints (g.return_of {x = x} d) h =
      let a = expression d h.1 in (
        record {
          said = mark m.Return ∷ (a.0.said ++ semicolon);
          tells = a_mark m.Return refl (both a.0.tells the_semicolon);
          reads = λ after. simp append_assoc (g.return_of (a.0.reads (mark m.Semicolon ∷ after)));
        },
        a.1.1,
      )
  prints (g.branch_of {x = x} {ss = ss} d b) h =
      let a = expression d h in
      let c = prints b a.1.1 in (
        record {
          said = a.0.said ++ mark m.Then ∷ c.0.said;
          tells = both a.0.tells (a_mark m.Then refl c.0.tells);
          reads = λ after. simp append_assoc (g.branch_of (a.0.reads (mark m.Then ∷ (c.0.said ++ after))) (c.0.reads after));
        },
        c.1,
      )
  prints g.no_elsif h = (record { said = []; tells = no_more; reads = λ after. g.no_elsif }, h)
  prints (g.elsif short d b) h =
      let a = prints d h.1 in
      let c = prints b a.1 in (
        record {
          said = mark m.Elsif ∷ (a.0.said ++ c.0.said);
          tells = a_mark m.Elsif refl (both a.0.tells c.0.tells);
          reads = λ after. simp append_assoc (g.elsif true (a.0.reads (c.0.said ++ after)) (c.0.reads after));
        },
        c.1,
      )
  prints g.no_when h = (record { said = []; tells = no_more; reads = λ after. g.no_when }, h)
  prints (g.when_of d b) h =
      let a = prints d h.1 in
      let c = prints b a.1 in (
        record {
          said = mark m.When ∷ (a.0.said ++ c.0.said);
          tells = a_mark m.When refl (both a.0.tells c.0.tells);
          reads = λ after. simp append_assoc (g.when_of (a.0.reads (c.0.said ++ after)) (c.0.reads after));
        },
        c.1,
      )
  prints g.no_else h = (record { said = []; tells = no_more; reads = λ after. g.no_else }, h)
  prints (g.else_of d) h =
      let a = prints d h.1 in
      (record { said = mark m.Else ∷ a.0.said; tells = a_mark m.Else refl a.0.tells; reads = λ after. g.else_of (a.0.reads after) }, a.1)
  prints (g.if_of {a = arm} {more = more} {other = other} d b c) h =
      let p = prints d h.1 in
      let q = prints b p.1 in
      let o = prints c q.1 in
      let end : List Terminal = mark m.End ∷ mark m.If ∷ semicolon in
      let is : statement_terminals (s.If (arm ∷ more) other)
      ≡ mark m.If ∷ ((arm_terminals arm ++ led m.Elsif (map (λ a. arm_terminals a) more))
      ++ (f.else_of (option_map (λ body. map (λ x. statement_terminals x) body) other) ++ end)) =
      of_if printing_statements (arm ∷ more) other
      ∙ ap (λ z. mark m.If ∷ (z ++ (f.else_of (option_map (λ body. map (λ x. statement_terminals x) body) other) ++ end)))
      (joined_led m.Elsif (arm_terminals arm) (map (λ a. arm_terminals a) more)) in (
        as_terminals is (record {
          said = mark m.If ∷ ((p.0.said ++ q.0.said) ++ (o.0.said ++ mark m.End ∷ mark m.If ∷ semicolon));
          tells = a_mark m.If refl (both (both p.0.tells q.0.tells) (both o.0.tells (a_mark m.End refl (a_mark m.If refl the_semicolon))));
          reads = λ after.
              let last = mark m.End ∷ mark m.If ∷ mark m.Semicolon ∷ after in
              simp append_assoc (g.if_of (p.0.reads (q.0.said ++ (o.0.said ++ last))) (q.0.reads (o.0.said ++ last)) (o.0.reads last));
        }),
        o.1.1.1.1,
      )
  prints (g.cases_of {a = arm} {more = more} {other = other} d b c) h =
      let p = prints d h.1.1 in
      let q = prints b p.1 in
      let o = prints c q.1 in
      let end : List Terminal = mark m.End ∷ mark m.Case ∷ semicolon in
      let is : statement_terminals (s.Cases (arm ∷ more) other)
      ≡ mark m.Case ∷ mark m.When ∷ ((arm_terminals arm ++ led m.When (map (λ a. arm_terminals a) more))
      ++ (f.else_of (option_map (λ body. map (λ x. statement_terminals x) body) other) ++ end)) =
      of_cases printing_statements (arm ∷ more) other
      ∙ ap (λ z. mark m.Case ∷ mark m.When ∷ (z ++ (f.else_of (option_map (λ body. map (λ x. statement_terminals x) body) other) ++ end)))
      (joined_led m.When (arm_terminals arm) (map (λ a. arm_terminals a) more)) in (
        as_terminals is (record {
          said = mark m.Case ∷ mark m.When ∷ ((p.0.said ++ q.0.said) ++ (o.0.said ++ mark m.End ∷ mark m.Case ∷ semicolon));
          tells = a_mark m.Case refl (a_mark m.When refl
              (both (both p.0.tells q.0.tells) (both o.0.tells (a_mark m.End refl (a_mark m.Case refl the_semicolon)))));
          reads = λ after.
              let last = mark m.End ∷ mark m.Case ∷ mark m.Semicolon ∷ after in
              simp append_assoc (g.cases_of (p.0.reads (q.0.said ++ (o.0.said ++ last))) (q.0.reads (o.0.said ++ last)) (o.0.reads last));
        }),
        o.1.1.1.1,
      )
  prints g.no_step h = (tt, tt)
  prints (g.step_of d) h = (tt, tt)
  prints g.plain_loop h = (record { said = []; tells = no_more; reads = λ more. g.plain_loop }, h)
  prints (g.while_loop {x = x} j d) h = (while_with condition_ends range_ends x (closes d h.1), (expression d h.1).1)
  prints (g.for_loop {n = n} {reverse = reverse} {first = first} {last = last} j d b g.no_step) h =
      let a = expression d (perhaps_left reverse (mark m.Reverse) _ h.1.1.1) in
      (range_with condition_ends range_ends n reverse first last h.1.0 a.0 (closes b a.1.1), (expression b a.1.1).1)
  prints (g.for_loop {n = n} {reverse = reverse} {first = first} {last = last} j d b (g.step_of {x = x} e)) h =
      let a = expression d (perhaps_left reverse (mark m.Reverse) _ h.1.1.1) in
      let c = expression b a.1.1 in (
        step_with condition_ends range_ends n reverse first last x h.1.0 a.0 c.0 (no_dot_first (place l.Or last (mark m.By ∷ closed x) (prints_back b))) (closes e c.1.1),
        (expression e c.1.1).1,
      )
  prints (g.loop_of {label = label} {how = how} {ss = ss} closing d b) h =
      let a = prints d h in
      let c = prints b a.1.1 in
      let w = name_left closing _ c.1.1.1 in
      (loop_with label how ss closing w.0 a.0 c.0, w.1)
  prints (g.loop_statement {x = x} label d) h =
      let w = label_left label _ h in
      let a = prints d w.1 in (
        record {
          said = labelled label [] ++ (a.0.prints.said ++ semicolon);
          tells = whole_tells (g.repeated label) label x x w.0 a.0;
          reads = λ after. subst (λ z. ReadsPart g.statement z x after) (whole_behind (g.repeated label) label x x w.0 a.0 after)
              (g.loop_statement label (a.0.prints.reads (mark m.Semicolon ∷ after)));
        },
        a.1.1,
      )
  prints g.no_condition h = (record { said = []; tells = no_more; reads = λ after. g.no_condition }, h)
  prints (g.condition_of d) h =
      let a = expression d h.1 in
      (record { said = mark m.When ∷ a.0.said; tells = a_mark m.When refl a.0.tells; reads = λ after. g.condition_of (a.0.reads after) }, a.1)
  prints (g.exit_of {x = x} label d) h =
      let w = name_left label _ h.1 in
      let a = prints d w.1 in (
        record {
          said = mark m.Exit ∷ (perhaps_name label [] ++ (a.0.said ++ semicolon));
          tells = a_mark m.Exit refl (name_told label w.0 (both a.0.tells the_semicolon));
          reads = λ after. simp (append_assoc, name_behind) (g.exit_of label (a.0.reads (mark m.Semicolon ∷ after)));
        },
        a.1.1,
      )
  prints (g.continue_of {x = x} label d) h =
      let w = name_left label _ h.1 in
      let a = prints d w.1 in (
        record {
          said = mark m.Continue ∷ (perhaps_name label [] ++ (a.0.said ++ semicolon));
          tells = a_mark m.Continue refl (name_told label w.0 (both a.0.tells the_semicolon));
          reads = λ after. simp (append_assoc, name_behind) (g.continue_of label (a.0.reads (mark m.Semicolon ∷ after)));
        },
        a.1.1,
      )
  prints (g.raise_message {z = z} w) h =
      let left = perhaps_left w (name (codes "exception")) _ h.1 in (
        record {
          said = mark m.Raise ∷ name (codes "exception") ∷ string z ∷ semicolon;
          tells = a_mark m.Raise refl (a_word (codes "EXCEPTION") (codes "exception") exception_shown (a_string z left.0 the_semicolon));
          reads = λ after. g.raise_message true;
        },
        left.1.1,
      )
  prints (g.raise_state {z = z} w) h =
      let left = perhaps_left w (name (codes "exception")) _ h.1 in (
        record {
          said = mark m.Raise ∷ name (codes "exception") ∷ name (codes "sqlstate") ∷ string z ∷ semicolon;
          tells = a_mark m.Raise refl (a_word (codes "EXCEPTION") (codes "exception") exception_shown
              (a_word (codes "SQLSTATE") (codes "sqlstate") sqlstate_shown (a_string z left.1.0 the_semicolon)));
          reads = λ after. g.raise_state true;
        },
        left.1.1.1,
      )
  prints (g.last_target {n = n}) h = (record { said = name n ∷ []; tells = a_name n h.0 no_more; reads = λ after. g.last_target }, h.1)
  prints (g.another_target {n = n} {ns = []} d) h =
      (record { said = name n ∷ []; tells = a_name n h.0 no_more; reads = λ after. g.last_target }, (prints d h.1.1).1)
  prints (g.another_target {n = n} {ns = k ∷ more} d) h =
      let a = prints d h.1.1 in (
        record {
          said = name n ∷ mark m.Comma ∷ a.0.said;
          tells = a_name n h.0 (a_mark m.Comma refl a.0.tells);
          reads = λ after. g.another_target (a.0.reads after);
        },
        a.1,
      )
  prints (g.into_of {ns = ns} w d) h =
      let a = prints d (perhaps_left w (mark m.Strict) _ h) in (
        record {
          said = perhaps w (mark m.Strict) a.0.said;
          tells = perhaps_told w m.Strict refl a.0.tells;
          reads = λ after. simp perhaps_behind (g.into_of w (a.0.reads after));
        },
        a.1,
      )
  prints (g.clauses_of {xs = xs} {fs = fs} {w = w} {ks = ks} {n = n} a b c d) h = clauses_with xs fs w ks n a b c d h
  prints (g.select_into {w = w} {ns = ns} {xs = xs} {q = q} i d c) h =
      let a = prints i h.1.1 in
      let b = prints_clear d a.1 in
      let e = prints c b.1 in
      (into_with w ns xs q (clearly b.0 (list_part_plain xs)) (prints_back d).1 a.0 e.0, e.1.1)
  prints (g.list_into {w = w} {ns = ns} {xs = xs} {q = q} d i c) h =
      let b = prints_clear d h.1 in
      let a = prints i b.1.1 in
      let e = prints c a.1 in
      (into_with w ns xs q (clearly b.0 (list_part_plain xs)) (prints_back d).1 a.0 e.0, e.1.1)
  prints g.no_statement h = (record { said = []; tells = no_more; reads = λ after. g.no_statement }, h)
  prints (g.another_statement d b) h =
      let a = prints d h in
      let c = prints b a.1 in (
        record {
          said = a.0.said ++ c.0.said;
          tells = both a.0.tells c.0.tells;
          reads = λ after. simp append_assoc (g.another_statement (a.0.reads (c.0.said ++ after)) (c.0.reads after));
        },
        c.1,
      )
  prints (g.body_of {x = x} label w d) h =
      let l = label_left label _ h in
      let a = prints d l.1 in (
        record {
          said = labelled label [] ++ (a.0.prints.said ++ semicolon);
          tells = whole_tells (g.block label) label x x l.0 a.0;
          reads = λ after. subst (λ z. ReadsPart g.body z x after) (whole_behind (g.block label) label x x l.0 a.0 after)
              (g.body_of label true (a.0.prints.reads (mark m.Semicolon ∷ after)));
        },
        perhaps_left w (mark m.Semicolon) _ a.1,
      )
  prints (g.parameter_of {n = n} {ty = ty} w t j) h =
      let left = perhaps_left w (mark m.In) _ h in (
        record {
          said = name n ∷ name (type_name ty) ∷ [];
          tells = a_name n left.0 (a_name (type_name ty) (type_writable ty) no_more);
          reads = λ after. g.parameter_of false (type_name ty) (type_is t ty j);
        },
        left.1.1,
      )
  prints (g.last_parameter d) h =
      let a = prints d h in (record { said = a.0.said; tells = a.0.tells; reads = λ after. g.last_parameter (a.0.reads after) }, a.1)
  prints (g.another_parameter {x = x} {xs = []} d b) h =
      let a = prints d h in
      (record { said = a.0.said; tells = a.0.tells; reads = λ after. g.last_parameter (a.0.reads after) }, (prints b a.1.1).1)
  prints (g.another_parameter {x = x} {xs = y ∷ more} d b) h =
      let a = prints d h in
      let c = prints b a.1.1 in (
        record {
          said = a.0.said ++ mark m.Comma ∷ c.0.said;
          tells = both a.0.tells (a_mark m.Comma refl c.0.tells);
          reads = λ after. simp append_assoc (g.another_parameter (a.0.reads (mark m.Comma ∷ (c.0.said ++ after))) (c.0.reads after));
        },
        c.1,
      )
  prints g.no_parameter h =
      (record { said = mark m.Open ∷ mark m.Close ∷ []; tells = a_mark m.Open refl (a_mark m.Close refl no_more); reads = λ after. g.no_parameter }, h.1.1)
  prints (g.signature_of d) h =
      let a = prints d h.1 in (
        record {
          said = mark m.Open ∷ (a.0.said ++ mark m.Close ∷ []);
          tells = a_mark m.Open refl (both a.0.tells (a_mark m.Close refl no_more));
          reads = λ after. simp append_assoc (g.signature_of (a.0.reads (mark m.Close ∷ after)));
        },
        a.1.1,
      )
  prints _ h = (tt, tt)
