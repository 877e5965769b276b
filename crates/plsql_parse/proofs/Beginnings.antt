-- What a part of a function begins with.
use Rattle.std.proofs.Common.{◌≡◌, ℕ, ◌<◌, Bool, true, false, List, ◌∷◌, Option, Some, None, refl, sym, ap, subst, lit<}
use Rattle.away_grammar.specs.declared.grammar.Mark.{Mark}
use Rattle.away_grammar.specs.declared.grammar.Mark.TheVariants as m
use Rattle.away_grammar.specs.Terminals.{Terminal, mark, name}
use Rattle.away_grammar.specs.Grammar.{mark_binds, StopsAt, perhaps}
use Rattle.away_grammar.specs.FunctionGrammar as g
use Rattle.away_grammar.specs.FunctionGrammar.{Part, PartTree, ReadsPart, decl, default, statement, elsifs, whens, otherwise, condition, targets, clauses, block, repeated, kind, step, parameters, signature, attribute_of, gives_default}
use Rattle.sql_text.specs.Plans.{Begins}
use Rattle.sql_text.proofs.CompleteStops.{followed}
use Rattle.plsql_parse.specs.Sorts.{is_name}
use Rattle.plsql_parse.specs.Bodies.{next, closes, opens, opens_block}
use Rattle.plsql_parse.specs.Headers.{is_over}
use Rattle.plsql_parse.specs.Stops.{closes_arms}

-- ---- the first mark

pub other_begins : {ts : List Terminal} (first other : Mark) → ¬ (first ≡ other) → Begins ts first → ¬ (Begins ts other)
other_begins first other h b c = h (let same : mark first ∷ b.0 ≡ mark other ∷ c.0 = cc (b.1, c.1) in cc same)

-- a mark of which the test says otherwise doesn't stand next
pub not_next : {ts : List Terminal} (test : Mark → Bool) (other : Mark) → next test ts ≡ true → test other ≡ false → ¬ (Begins ts other)
not_next test other h e b = let k : next test _ ≡ test other = ap (next test) b.1 in cc (h, e, k)

pub begins_next : {ts : List Terminal} (test : Mark → Bool) (terminal : Mark) {b : Bool} → test terminal ≡ b → Begins ts terminal → next test ts ≡ b
begins_next test terminal e b = let k : next test _ ≡ test terminal = ap (next test) b.1 in cc (e, k)

pub stops_at : {ts : List Terminal} (terminal : Mark) → mark_binds terminal < 21 → Begins ts terminal → StopsAt 21 ts
stops_at terminal h b = subst (λ ts. StopsAt 21 ts) (sym b.1) h

pub semicolon_stops : {ts : List Terminal} → Begins ts m.Semicolon → StopsAt 6 ts
semicolon_stops b = subst (λ ts. StopsAt 6 ts) (sym b.1) (lit< tt)

closes_too : (ts : List Terminal) → next closes_arms ts ≡ true → next closes ts ≡ true
closes_too (mark m.End ∷ ts) e = refl
closes_too (mark m.Else ∷ ts) e = refl
closes_too _ e = absurd (cc e)

-- ---- the parts

-- What the terminals of the part begin with, by what stands behind it.
abbrev pub Beginning : Part → List Terminal → List Terminal → Type 0
Beginning decl ts rest = is_name ts ≡ true
Beginning default ts rest = Begins rest m.Semicolon → ¬ (Begins ts m.Not)
Beginning statement ts rest = next closes ts ≡ false
Beginning elsifs ts rest = next closes_arms rest ≡ true → next closes ts ≡ true
Beginning whens ts rest = next closes_arms rest ≡ true → next closes ts ≡ true
Beginning otherwise ts rest = Begins rest m.End → next closes_arms ts ≡ true
Beginning condition ts rest = Begins rest m.Semicolon → is_name ts ≡ false
Beginning targets ts rest = is_name ts ≡ true
Beginning (clauses list) ts rest = Begins rest m.Semicolon → StopsAt 10 ts
Beginning (block label) ts rest = (next opens ts ≡ true) × (next opens_block ts ≡ true)
Beginning (repeated label) ts rest = (next opens ts ≡ true) × (next opens_block ts ≡ false)
Beginning kind ts rest = Begins rest m.Loop → (next opens ts ≡ true) × (next opens_block ts ≡ false)
Beginning step ts rest = Begins rest m.Loop → StopsAt 21 ts
Beginning g.parameter ts rest = ¬ (Begins ts m.Close)
Beginning parameters ts rest = ¬ (Begins ts m.Close)
Beginning signature ts rest = ¬ (Begins ts m.Dot)
Beginning attribute_of ts rest = is_over ts ≡ false
Beginning _ ts rest = Unit {0}

opens_more : (ts : List Terminal) → next opens ts ≡ true → next closes ts ≡ false
opens_more (mark m.Declare ∷ ts) e = refl
opens_more (mark m.Begin ∷ ts) e = refl
opens_more (mark m.Loop ∷ ts) e = refl
opens_more (mark m.While ∷ ts) e = refl
opens_more (mark m.For ∷ ts) e = refl
opens_more _ e = absurd (cc e)

labelled_begins : (ts : List Terminal) (label : Option (List ℕ)) → next opens ts ≡ true → next closes (g.labelled label ts) ≡ false
labelled_begins ts None e = opens_more ts e
labelled_begins ts (Some n) e = refl

no_close : (n t : List ℕ) (rest : List Terminal) (w : Bool) → ¬ (Begins (perhaps w (mark m.In) (name n ∷ name t ∷ rest)) m.Close)
no_close n t rest true b = cc (b.1)
no_close n t rest false b = cc (b.1)

pub beginning : {p : Part} {ts : List Terminal} {x : PartTree p} {rest : List Terminal} → ReadsPart p ts x rest → Beginning p ts rest
beginning g.no_default = λ b. other_begins m.Semicolon m.Not (λ same. absurd (cc same)) b
beginning (g.default_of terminal e d) = λ b c. (let same : terminal ≡ m.Not = cc (c.1) in let k : gives_default terminal ≡ false = ap gives_default same in cc (e, k))
beginning (g.decl_of t e d) = refl
beginning (g.plain_block closing d) = (refl, refl)
beginning (g.declaring_block closing d e) = (refl, refl)
beginning (g.block_statement label d) = let h = beginning d in labelled_begins _ label h.0
beginning (g.assignment terminal e d) = refl
beginning g.nothing = refl
beginning (g.return_of d) = refl
beginning (g.no_elsif {ts = ts}) = λ h. closes_too ts h
beginning (g.elsif true d e) = λ h. refl
beginning (g.elsif false d e) = λ h. refl
beginning (g.no_when {ts = ts}) = λ h. closes_too ts h
beginning (g.when_of d e) = λ h. refl
beginning g.no_else = λ b. begins_next closes_arms m.End refl b
beginning (g.else_of d) = λ b. refl
beginning (g.if_of d e f) = refl
beginning (g.cases_of d e f) = refl
beginning g.no_step = λ b. stops_at m.Loop (lit< tt) b
beginning (g.step_of d) = λ b. lit< tt
beginning g.plain_loop = λ b. (begins_next opens m.Loop refl b, begins_next opens_block m.Loop refl b)
beginning (g.while_loop e d) = λ b. (refl, refl)
beginning (g.for_loop e c d f) = λ b. (refl, refl)
beginning (g.loop_of {middle = middle} closing d e) = beginning d (middle, refl)
beginning (g.loop_statement label d) = let h = beginning d in labelled_begins _ label h.0
beginning g.no_condition = λ b. ap is_name b.1
beginning (g.condition_of d) = λ b. refl
beginning (g.exit_of label d) = refl
beginning (g.continue_of label d) = refl
beginning (g.raise_message w) = refl
beginning (g.raise_state w) = refl
beginning g.last_target = refl
beginning (g.another_target d) = refl
beginning (g.clauses_of a b c d) = λ e. followed a (followed b (followed c (followed d (semicolon_stops e))))
beginning (g.select_into d e f) = refl
beginning (g.list_into d e f) = refl
beginning (g.parameter_of w t e) = no_close _ _ _ w
beginning (g.last_parameter d) = beginning d
beginning (g.another_parameter d e) = beginning d
beginning g.no_parameter = λ b. cc (b.1)
beginning (g.signature_of d) = λ b. cc (b.1)
beginning g.language_name = refl
beginning g.language_string = refl
beginning g.as_quote = refl
beginning (g.word_attribute e) = refl
beginning g.strict = refl
beginning g.returns_null = refl
beginning g.called_on_null = refl
beginning g.not_leakproof = refl
beginning (g.parallel e) = refl
beginning g.cost = refl
beginning _ = tt
