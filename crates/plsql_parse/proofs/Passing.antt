-- No expression has a LOOP, so the first LOOP behind WHILE is the one that the condition ends at.
use Rattle.std.proofs.Common.{◌≡◌, ℕ, Bool, true, false, not, List, [], ◌∷◌, ◌++◌, ◌⊎◌, inl, inr, Option, Some, refl, sym, ap, ◌∙◌, length, arith, length-append}
use Rattle.std.specs.Prelude.{◌↔◌}
use Rattle.away_grammar.specs.declared.grammar.Mark.{Mark}
use Rattle.away_grammar.specs.declared.grammar.Mark.TheVariants as m
use Rattle.away_grammar.specs.declared.grammar.Level.{Level}
use Rattle.away_grammar.specs.declared.grammar.Level.TheVariants as l
use Rattle.away_values.specs.declared.operators.ChainOp.{ChainOp}
use Rattle.away_values.specs.declared.operators.CmpOp.{CmpOp}
use Rattle.away_values.specs.declared.operators.IsTest.{IsTest}
use Rattle.away_trees.specs.declared.queries.Expr.{Expr}
use Rattle.away_grammar.specs.Terminals.{Terminal, mark}
use Rattle.away_grammar.specs.Grammar as g
use Rattle.away_grammar.specs.Grammar.{Sort, at, Tree, Reads, operator_of, comparison_of, test_of, literal_of, called, perhaps, schema_qualified, not_null}
use Rattle.away_grammar.specs.FunctionGrammar as f
use Rattle.away_grammar.specs.FunctionGrammar.{ReadsPart, step, loop_opens, opens_loop}
use Rattle.plsql_parse.specs.Taken.{is_loop, is_end}

-- From the first terminals up to the second ones no LOOP stands.
data Passes : List Terminal → List Terminal → Type 0 where
  here : {ts : List Terminal} → Passes ts ts
  past : {s : Terminal} {ts rest : List Terminal} → is_loop s ≡ false → Passes ts rest → Passes (s ∷ ts) rest

through : {a b c : List Terminal} → Passes a b → Passes b c → Passes a c
through here q = q
through (past h p) q = past h (through p q)

-- ---- terminals that may stand in an expression

operator_passes : {o : ChainOp} (level : Level) (terminal : Mark) → operator_of level terminal ≡ Some o → is_loop (mark terminal) ≡ false
operator_passes l.Or m.Loop e = absurd (cc e)
operator_passes l.And m.Loop e = absurd (cc e)
operator_passes l.Concat m.Loop e = absurd (cc e)
operator_passes l.Sum m.Loop e = absurd (cc e)
operator_passes l.Product m.Loop e = absurd (cc e)
operator_passes l.Not m.Loop e = absurd (cc e)
operator_passes l.Is m.Loop e = absurd (cc e)
operator_passes l.Compare m.Loop e = absurd (cc e)
operator_passes l.Range m.Loop e = absurd (cc e)
operator_passes l.Sign m.Loop e = absurd (cc e)
operator_passes l.Cast m.Loop e = absurd (cc e)
operator_passes l.Primary m.Loop e = absurd (cc e)
operator_passes level _ e = refl

comparison_passes : {o : CmpOp} (terminal : Mark) → comparison_of terminal ≡ Some o → is_loop (mark terminal) ≡ false
comparison_passes m.Loop e = absurd (cc e)
comparison_passes _ e = refl

test_passes : {t : IsTest} (terminal : Mark) → test_of terminal ≡ Some t → is_loop (mark terminal) ≡ false
test_passes m.Loop e = absurd (cc e)
test_passes _ e = refl

literal_passes : {x : Expr} (terminal : Mark) → literal_of terminal ≡ Some x → is_loop (mark terminal) ≡ false
literal_passes m.Loop e = absurd (cc e)
literal_passes _ e = refl

called_passes : {n : List ℕ} (terminal : Mark) → called terminal ≡ Some n → is_loop (mark terminal) ≡ false
called_passes m.Loop e = absurd (cc e)
called_passes _ e = refl

perhaps_passes : {ts rest : List Terminal} (s : Terminal) (w : Bool) → is_loop s ≡ false → Passes ts rest → Passes (perhaps w s ts) rest
perhaps_passes s true h p = past h p
perhaps_passes s false h p = p

schema_qualified_passes : {ts rest : List Terminal} (q : Bool) → Passes ts rest → Passes (schema_qualified q ts) rest
schema_qualified_passes true p = past refl (past refl p)
schema_qualified_passes false p = p

null_passes : {ts rest : List Terminal} (v : Bool) → Passes ts rest → Passes (not_null v ts) rest
null_passes true p = past refl (past refl p)
null_passes false p = p

-- ---- what SQL reads

passes : {n : Sort} {ts : List Terminal} {x : Tree n} {rest : List Terminal} → Reads n ts x rest → Passes ts rest
passes (g.chain c d e) = through (passes d) (passes e)
passes g.no_link = here
passes (g.link {level = level} terminal e c d) = past (operator_passes level terminal e) (through (passes c) (passes d))
passes (g.affirmed d) = passes d
passes (g.negated d) = past refl (passes d)
passes (g.untested d) = passes d
passes (g.tested {n = n} terminal e d) = through (passes d) (past refl (perhaps_passes _ n refl (past (test_passes terminal e) here)))
passes (g.uncompared d) = passes d
passes (g.compared terminal e c d) = through (passes c) (past (comparison_passes terminal e) (passes d))
passes (g.unranged d) = passes d
passes (g.between {n = n} c d e) = through (passes c) (perhaps_passes _ n refl (past refl (through (passes d) (past refl (passes e)))))
passes (g.one_of {n = n} c d) = through (passes c) (perhaps_passes _ n refl (past refl (past refl (through (passes d) (past refl here)))))
passes (g.unsigned d) = passes d
passes (g.signed d) = past refl (passes d)
passes g.least = past refl (past refl here)
passes (g.uncast d) = passes d
passes (g.cast_once t e d) = through (passes d) (past refl (past refl here))
passes (g.cast_twice t u e i d) = through (passes d) (past refl (past refl (past refl (past refl here))))
passes (g.number h) = past refl here
passes g.text = past refl here
passes (g.literal terminal e) = past (literal_passes terminal e) here
passes g.named = past refl here
passes g.qualified = past refl (past refl (past refl here))
passes (g.typed_parameter t e) = past refl (past refl (past refl (past refl (past refl (past refl here)))))
passes (g.short_parameter t e) = past refl (past refl (past refl here))
passes (g.parentheses d) = past refl (through (passes d) (past refl here))
passes (g.scalar d) = past refl (through (passes d) (past refl here))
passes (g.cast t e d) = past refl (past refl (through (passes d) (past refl (past refl (past refl here)))))
passes (g.exists d) = past refl (past refl (through (passes d) (past refl here)))
passes (g.cases d) = past refl (through (passes d) (past refl here))
passes (g.cases_else d e) = past refl (through (passes d) (past refl (through (passes e) (past refl here))))
passes (g.call_word terminal e d) = past (called_passes terminal e) (past refl (through (passes d) (past refl here)))
passes g.count_rows = past refl (past refl (past refl (past refl here)))
passes g.call_empty = past refl (past refl (past refl here))
passes (g.call d) = past refl (past refl (through (passes d) (past refl here)))
passes (g.last d) = passes d
passes (g.another d e) = through (passes d) (past refl (passes e))
passes g.no_arm = here
passes (g.arm c d e) = past refl (through (passes c) (past refl (through (passes d) (passes e))))
passes (g.item_alone d) = passes d
passes (g.item_as d) = through (passes d) (past refl (past refl here))
passes (g.last_item d) = passes d
passes (g.another_item d e) = through (passes d) (past refl (passes e))
passes (g.table_alone q) = schema_qualified_passes q (past refl here)
passes (g.table_as q w) = schema_qualified_passes q (past refl (perhaps_passes _ w refl (past refl here)))
passes (g.sub_alone {v = v} w d) = perhaps_passes _ v refl (past refl (through (passes d) (past refl (perhaps_passes _ w refl (past refl here)))))
passes (g.sub_columns {v = v} w d e) = perhaps_passes _ v refl (past refl (through (passes d) (past refl (perhaps_passes _ w refl (past refl (past refl (through (passes e) (past refl here))))))))
passes (g.last_from d) = passes d
passes (g.another_from d e) = through (passes d) (past refl (passes e))
passes g.last_name = past refl here
passes (g.another_name d) = past refl (past refl (passes d))
passes (g.key_alone h d) = passes d
passes (g.ascending h d) = through (passes d) (past refl here)
passes (g.descending h d) = through (passes d) (past refl here)
passes (g.last_key d) = passes d
passes (g.another_key d e) = through (passes d) (past refl (passes e))
passes g.no_from = here
passes (g.from d) = past refl (passes d)
passes g.no_where = here
passes (g.where_of d) = past refl (passes d)
passes g.no_order = here
passes (g.order_by d) = past refl (past refl (passes d))
passes g.no_limit = here
passes (g.limit_of d) = past refl (passes d)
passes (g.select_of a b c d e) = past refl (through (passes a) (through (passes b) (through (passes c) (through (passes d) (passes e)))))
passes (g.last_select d) = passes d
passes (g.another_select d e) = through (passes d) (past refl (past refl (passes e)))
passes (g.query_of h d) = passes d
passes (g.recursive_of ss second d e) = past refl (past refl (past refl (past refl (through (passes d) (past refl (past refl (past refl (through (passes e) (past refl here)))))))))
passes (g.plain_file w d) = through (passes d) (perhaps_passes _ w refl here)
passes (g.with_file w h d e) = through (passes d) (through (passes e) (perhaps_passes _ w refl here))
passes (g.column_of {v = v} t e) = past refl (past refl (null_passes v here))
passes (g.last_column d) = passes d
passes (g.another_column d e) = through (passes d) (past refl (passes e))
passes g.no_table = here
passes (g.table q d e) = past refl (past refl (schema_qualified_passes q (past refl (past refl (through (passes d) (past refl (past refl (passes e))))))))

-- ---- the first LOOP

-- The terminals before the LOOP end with an END.
abbrev Ended : List Terminal → List Terminal → Type 0
Ended ts rest = (before : List Terminal) × (ts ≡ before ++ mark m.End ∷ mark m.Loop ∷ rest)

too_long : (before rest : List Terminal) → ¬ (mark m.Loop ∷ rest ≡ before ++ mark m.End ∷ mark m.Loop ∷ rest)
too_long before rest e = omega (arith, ap length e, length-append before (mark m.End ∷ mark m.Loop ∷ rest))

end_is : (s : Terminal) → is_end s ≡ true → s ≡ mark m.End
end_is (mark m.End) e = refl
end_is _ e = absurd (cc e)

pub opens_past : (s : Terminal) (ts : List Terminal) (behind : Bool) → is_loop s ≡ false → loop_opens (s ∷ ts) behind ≡ loop_opens ts (is_end s)
opens_past (mark m.Loop) ts behind g = absurd (cc g)
opens_past (mark m.End) ts behind g = refl
opens_past _ ts behind g = refl

not_false : (b : Bool) → not b ≡ false → b ≡ true
not_false true e = refl
not_false false e = absurd (cc e)

-- where no LOOP may open, an END stands before the first one
ended : {ts after : List Terminal} (rest : List Terminal) (behind : Bool) → Passes ts after → after ≡ mark m.Loop ∷ rest → loop_opens ts behind ≡ false
    → ((behind ≡ true) × (ts ≡ mark m.Loop ∷ rest)) ⊎ Ended ts rest
ended rest behind here e h = inl (not_false behind (sym (ap (λ ts. loop_opens ts behind) e) ∙ h), e)
ended rest behind (past {s = s} {ts = ts} g p) e h =
    elim (ended rest (is_end s) p e (sym (opens_past s ts behind g) ∙ h)) [
      | inl w ↦ inr ([], (let same : s ≡ mark m.End = end_is s w.0 in cc (same, w.1)))
      | inr w ↦ inr (s ∷ w.0, ap (λ ts. s ∷ ts) w.1)
    ]

-- where an END stands before the first LOOP, none may open
closed : {ts after : List Terminal} (rest : List Terminal) (behind : Bool) (before : List Terminal) → Passes ts after → after ≡ mark m.Loop ∷ rest → ts ≡ before ++ mark m.End ∷ mark m.Loop ∷ rest → loop_opens ts behind ≡ false
closed rest behind before here e h = absurd (too_long before rest (sym e ∙ h))
closed rest behind [] (past {s = s} {ts = ts} g p) e h =
    let same : s ≡ mark m.End = cc h in
    let next : ts ≡ mark m.Loop ∷ rest = cc h in
    opens_past s ts behind g ∙ ap (λ ts. loop_opens ts (is_end s)) next ∙ ap (λ s. loop_opens (mark m.Loop ∷ rest) (is_end s)) same
closed rest behind (c ∷ before) (past {s = s} {ts = ts} g p) e h = opens_past s ts behind g ∙ closed rest (is_end s) before p e (let next : ts ≡ before ++ mark m.End ∷ mark m.Loop ∷ rest = cc h in next)

opens_unless_ended : {ts rest : List Terminal} → Passes ts (mark m.Loop ∷ rest) → (opens_loop ts ≡ false) ↔ Ended ts rest
opens_unless_ended {rest = rest} p = (
  λ h. elim (ended rest false p refl h) [ inl w ↦ absurd (cc (w.0)) | inr w ↦ w ],
  λ e. closed rest false e.0 p refl e.1,
)

pub condition_ended : {ts rest : List Terminal} {x : Expr} → Reads (at l.Or) ts x (mark m.Loop ∷ rest) → (opens_loop ts ≡ false) ↔ Ended ts rest
condition_ended d = opens_unless_ended (passes d)

step_passes : {ts rest : List Terminal} {x : Option Expr} → ReadsPart step ts x rest → Passes ts rest
step_passes f.no_step = here
step_passes (f.step_of d) = past refl (passes d)

pub range_ended : {ts after middle rest : List Terminal} {first last : Expr} {x : Option Expr} → Reads (at l.Or) ts first (mark m.Dots ∷ after) → Reads (at l.Or) after last middle → ReadsPart step middle x (mark m.Loop ∷ rest)
    → (opens_loop ts ≡ false) ↔ Ended ts rest
range_ended c d e = opens_unless_ended (through (passes c) (past refl (through (passes d) (step_passes e))))
