-- Terminals that are printed, what they are said as, and how that reads.
use Rattle.std.proofs.Common.{◌≡◌, ℕ, refl, sym, ap, ◌∙◌, subst, Bool, true, false, List, [], ◌∷◌, ◌++◌, Option, Some, None, inl, inr, append_assoc}
use Rattle.std.proofs.lemmas.Bool.{cases_Bool}
use Rattle.away_grammar.specs.declared.grammar.Mark.{Mark}
use Rattle.away_grammar.specs.declared.grammar.Mark.TheVariants as m
use Rattle.away_grammar.specs.declared.grammar.Level.TheVariants as l
use Rattle.away_trees.specs.declared.queries.Expr.{Expr}
use Rattle.away_grammar.specs.Terminals.{Terminal, mark, name, string}
use Rattle.away_grammar.specs.Grammar.{at, Reads, perhaps, not_null}
use Rattle.away_grammar.specs.FunctionGrammar.{labelled, perhaps_name, opens_loop}
use Rattle.away_grammar.specs.Printing.{printed}
use Rattle.sql_printer.specs.Writable.{Writable, AllWritable}
use Rattle.sql_printer.proofs.PrintLevels.{place}
use Rattle.sql_printer.proofs.PrintBack.{prints_back}
use Rattle.sql_printer.proofs.PrintClear.{Clear, at_place, mark_is_dot}
use Rattle.sql_printer.proofs.PrintWritable.{prints_clear}
use Rattle.function_printer.specs.FunctionTerminals.{semicolon, whole}
use Rattle.function_printer.proofs.OpenEnds.{EndsOpen, is_end, same_last}
use Rattle.function_printer.proofs.Plain.{Plain, plain_end, plain_more, joins, expr_plain, plain_placed}
use Rattle.function_printer.proofs.Says as say
use Rattle.function_printer.proofs.Says.{Says, Shown}

-- The first are said as the second, and none is a dollar quote.
pub record Tells (ss ts : List Terminal) : Type 0 where
  pub says : Says ss ts
  pub plain : Plain ss

-- The terminals are said as ones that read so.
pub record Prints (ss : List Terminal) (Reading : List Terminal → Type 0) : Type 0 where
  pub said : List Terminal
  pub tells : Tells ss said
  pub reads : Reading said

-- the same terminals
pub as_terminals : {ss us : List Terminal} {R : List Terminal → Type 0} → us ≡ ss → Prints ss R → Prints us R
as_terminals {R = R} e h = subst (λ z. Prints z R) (sym e) h

-- ---- terminals in front

pub no_more : Tells [] []
no_more = record { says = say.nothing; plain = plain_end }

pub a_mark : (terminal : Mark) → mark_is_dot terminal ≡ false → {ss ts : List Terminal} → Tells ss ts → Tells (mark terminal ∷ ss) (mark terminal ∷ ts)
a_mark terminal h d = record { says = say.a_mark terminal h d.says; plain = plain_more refl d.plain }

-- `.` or `..`
pub a_dot : (terminal : Mark) {ss ts : List Terminal} → say.NotDotNext ss → Tells ss ts → Tells (mark terminal ∷ ss) (mark terminal ∷ ts)
a_dot terminal h d = record { says = say.a_dot terminal h d.says; plain = plain_more refl d.plain }

pub a_name : (n : List ℕ) → Writable (name n) → {ss ts : List Terminal} → Tells ss ts → Tells (name n ∷ ss) (name n ∷ ts)
a_name n h d = record { says = say.a_name n h d.says; plain = plain_more refl d.plain }

pub a_string : (z : List ℕ) → Writable (string z) → {ss ts : List Terminal} → Tells ss ts → Tells (string z ∷ ss) (string z ∷ ts)
a_string z h d = record { says = say.a_string z h d.says; plain = plain_more refl d.plain }

pub a_word : (upper lower : List ℕ) → Shown (name upper) (name lower) → {ss ts : List Terminal} → Tells ss ts → Tells (name upper ∷ ss) (name lower ∷ ts)
a_word upper lower h d = record { says = say.a_word upper lower h d.says; plain = plain_more refl d.plain }

pub both : {a b c d : List Terminal} → Tells a b → Tells c d → Tells (a ++ c) (b ++ d)
both {a = a} h k = record { says = say.both h.says k.says; plain = joins a h.plain k.plain }

pub clearly : {ts : List Terminal} → Clear ts → Plain ts → Tells ts ts
clearly d h = record { says = say.clear_says d; plain = h }

pub the_semicolon : Tells semicolon semicolon
the_semicolon = a_mark m.Semicolon refl no_more

pub perhaps_told : (n : Bool) (terminal : Mark) → mark_is_dot terminal ≡ false → {ss ts : List Terminal} → Tells ss ts
    → Tells (perhaps n (mark terminal) ss) (perhaps n (mark terminal) ts)
perhaps_told true terminal h d = a_mark terminal h d
perhaps_told false terminal h d = d

pub not_null_told : (n : Bool) {ss ts : List Terminal} → Tells ss ts → Tells (not_null n ss) (not_null n ts)
not_null_told true d = a_mark m.Not refl (a_mark m.Null refl d)
not_null_told false d = d

-- ---- names that may be written

abbrev pub NameWritable : Option (List ℕ) → Type 0
NameWritable None = Unit {0}
NameWritable (Some n) = Writable (name n)

pub label_left : (label : Option (List ℕ)) (ts : List Terminal) → AllWritable (labelled label ts) → NameWritable label × AllWritable ts
label_left None ts h = (tt, h)
label_left (Some n) ts h = (h.1.0, h.1.1.1)

pub name_left : (n : Option (List ℕ)) (ts : List Terminal) → AllWritable (perhaps_name n ts) → NameWritable n × AllWritable ts
name_left None ts h = (tt, h)
name_left (Some n) ts h = (h.0, h.1)

pub perhaps_left : (w : Bool) (s : Terminal) (ts : List Terminal) → AllWritable (perhaps w s ts) → AllWritable ts
perhaps_left true s ts h = h.1
perhaps_left false s ts h = h

pub not_null_left : (w : Bool) (ts : List Terminal) → AllWritable (not_null w ts) → AllWritable ts
not_null_left true ts h = h.1.1
not_null_left false ts h = h

pub label_told : (label : Option (List ℕ)) → NameWritable label → {ss ts : List Terminal} → Tells ss ts
    → Tells (labelled label [] ++ ss) (labelled label [] ++ ts)
label_told None h d = d
label_told (Some n) h d = a_mark m.LabelOpen refl (a_name n h (a_mark m.LabelClose refl d))

pub name_told : (n : Option (List ℕ)) → NameWritable n → {ss ts : List Terminal} → Tells ss ts → Tells (perhaps_name n [] ++ ss) (perhaps_name n [] ++ ts)
name_told None h d = d
name_told (Some n) h d = a_name n h d

pub label_behind : (label : Option (List ℕ)) (ts after : List Terminal) → labelled label ts ++ after ≡ labelled label (ts ++ after)
label_behind None ts after = refl
label_behind (Some n) ts after = refl

pub name_behind : (n : Option (List ℕ)) (ts after : List Terminal) → perhaps_name n ts ++ after ≡ perhaps_name n (ts ++ after)
name_behind None ts after = refl
name_behind (Some n) ts after = refl

pub not_null_behind : (v : Bool) (ts after : List Terminal) → not_null v ts ++ after ≡ not_null v (ts ++ after)
not_null_behind true ts after = refl
not_null_behind false ts after = refl

-- ---- expressions

abbrev pub ReadsExpr : Expr → List Terminal → Type 0
ReadsExpr x ts = (after : List Terminal) → Reads (at l.Or) (ts ++ after) x after

pub expression : {ts rest : List Terminal} {x : Expr} → Reads (at l.Or) ts x rest → AllWritable ts → Prints (whole x) (ReadsExpr x) × AllWritable rest
expression {x = x} d h =
    let r = prints_clear d h in (
      record {
        said = whole x;
        tells = clearly (at_place l.Or x r.0) (plain_placed l.Or (printed x) (expr_plain x));
        reads = λ after. place l.Or x after (prints_back d);
      },
      r.1,
    )

nothing_ends : {A : Type 0} (a : List A) (p : A) → [] ≡ a ++ p ∷ [] → ⊥
nothing_ends [] p e = cc e
nothing_ends (x ∷ a) p e = cc e

pub first_of : (ss us : List Terminal) → EndsOpen ss → say.NotDotNext (ss ++ us) → say.NotDotNext ss
first_of [] us h d = absurd (nothing_ends h.before h.last h.is)
first_of (s ∷ ss) us h d = d

-- ---- a loop opens behind what doesn't end with END

not_ended : (ts more : List Terminal) → EndsOpen ts → (before : List Terminal) → ts ++ mark m.Loop ∷ more ≡ before ++ mark m.End ∷ mark m.Loop ∷ more → ⊥
not_ended ts more h before e =
    let split : h.before ++ h.last ∷ mark m.Loop ∷ more ≡ before ++ mark m.End ∷ mark m.Loop ∷ more =
    sym (append_assoc h.before (h.last ∷ []) (mark m.Loop ∷ more)) ∙ ap (λ z. z ++ mark m.Loop ∷ more) (sym h.is) ∙ e in
    let last : h.last ≡ mark m.End = same_last h.before before h.last (mark m.End) (mark m.Loop ∷ more) split in
    let wrong : true ≡ false = ap is_end (sym last) ∙ h.no in
    cc wrong

pub opens : (ts more : List Terminal) → EndsOpen ts
    → (opens_loop (ts ++ mark m.Loop ∷ more) ≡ false → (before : List Terminal) × (ts ++ mark m.Loop ∷ more ≡ before ++ mark m.End ∷ mark m.Loop ∷ more))
    → opens_loop (ts ++ mark m.Loop ∷ more) ≡ true
opens ts more h ended = elim (cases_Bool (opens_loop (ts ++ mark m.Loop ∷ more))) [
  | inl y ↦ y
  | inr n ↦ absurd (let e = ended n in not_ended ts more h e.0 e.1)
]
