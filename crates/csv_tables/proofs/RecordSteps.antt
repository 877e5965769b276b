-- What a reader has yet to give, before and after a record.
use Rattle.std.proofs.Common.{◌≡◌, refl, sym, ◌∙◌, ap, subst, ℕ, zero, suc, ◌+◌, ◌<◌, arith, add-one, Bool, true, false, List, [], ◌∷◌, ◌++◌, length, inl, inr, Bor}
use Rattle.std.specs.Prelude.{Option, Some, None, if◌then◌else◌, ◌⊎◌, ◌==◌, ◌||◌}
use Rattle.csv.specs.Machine.{Read, ends_at_end, fields_after, field_after, in_field, is_end, next_record, start_field, start_record, step}
use Rattle.csv.specs.Reading.{Reached, ReadRecord, Ready, default_config, reader_state, records_from, records_next, strip_bom}
use Rattle.csv.specs.declared.parser.State.{State}
use Rattle.csv.specs.declared.parser.State.TheVariants as st
use Rattle.csv.specs.declared.parser.Action.{Action}
use Rattle.csv.specs.declared.parser.Action.TheVariants as act
use Rattle.csv.specs.declared.reader.Reader.{Reader}
use Rattle.csv.proofs.ReadFacts.{rows-end, rows-more}
use Rattle.csv_tables.specs.Files.{Fields, records_of}
use Rattle.csv_tables.specs.Unread.{IsBetween, TakesNext, Took, bytes_left, records_after, records_left}

-- ---- a record ends in a state in which the text may end

abbrev EndsWell : State × Action → Type 0
EndsWell p = is_end p.1 ≡ true → ends_at_end p.0 ≡ false

in_field_by : (comma end return : Bool) → EndsWell (if comma then (st.StartField, act.EndField) else if end then ((if return then st.AfterCr else st.StartRecord), act.EndRecord) else (st.InField, act.Copy))
in_field_by true end return h = cc h
in_field_by false true true h = refl
in_field_by false true false h = refl
in_field_by false false return h = cc h

in_field_ends : (c : ℕ) → EndsWell (in_field default_config c)
in_field_ends c = in_field_by (c == 44) ((c == 13) || (c == 10)) (c == 13)

unless : (b : Bool) (p q : State × Action) → EndsWell p → EndsWell q → EndsWell (if b then p else q)
unless true p q h k = h
unless false p q h k = k

skips : (s : State) → EndsWell (s, act.Skip)
skips s h = cc h

copies : (s : State) → EndsWell (s, act.Copy)
copies s h = cc h

start_field_ends : (c : ℕ) → EndsWell (start_field default_config c)
start_field_ends c = unless (c == 34) (st.InQuoted, act.Skip) (in_field default_config c) (skips st.InQuoted) (in_field_ends c)

start_record_ends : (c : ℕ) → EndsWell (start_record default_config c)
start_record_ends c = unless ((c == 13) || (c == 10)) (st.StartRecord, act.Skip) (start_field default_config c) (skips st.StartRecord) (start_field_ends c)

step_ends : (s : State) (c : ℕ) → EndsWell (step default_config s c)
step_ends st.StartRecord c = start_record_ends c
step_ends st.StartField c = start_field_ends c
step_ends st.InField c = in_field_ends c
step_ends st.InQuoted c = unless (c == 34) (st.AfterQuote, act.Skip) (st.InQuoted, act.Copy) (skips st.AfterQuote) (copies st.InQuoted)
step_ends st.InEscape c = copies st.InQuoted
step_ends st.AfterQuote c = unless (c == 34) (st.InQuoted, act.Copy) (in_field default_config c) (copies st.InQuoted) (in_field_ends c)
step_ends st.InComment c = unless (c == 10) (st.StartRecord, act.Skip) (st.InComment, act.Skip) (skips st.StartRecord) (skips st.InComment)
step_ends st.AfterCr c = unless (c == 10) (st.StartRecord, act.Skip) (start_record default_config c) (skips st.StartRecord) (start_record_ends c)

-- ---- a record takes bytes

-- less is left than before, unless the text had ended, and the state is one between records
record Leaves (s : State) (xs : List ℕ) (p : Read) : Type 0 where
  less : (length p.2 < length xs) ⊎ ((length xs ≡ 0) × (length p.2 ≡ 0) × (ends_at_end s ≡ true))
  between : ends_at_end p.1 ≡ false

at_end : (s : State) (b : Bool) (x : Fields) (p : Read) → ends_at_end s ≡ b → ◌≡◌ {A = Option Read} (if b then Some (x, st.StartRecord, []) else None) (Some p) → Leaves s [] p
at_end s true x p is e = let q : ◌≡◌ {A = Read} (x, st.StartRecord, []) p = cc in subst (Leaves s []) q (record { less = inr (refl, refl, is); between = refl })
at_end s false x p is e = cc e

at_byte : (s s2 : State) (a : Action) (c : ℕ) (rest : List ℕ) (x : Fields) (b : Bool) (o : Option Read) (p : Read) → is_end a ≡ b → EndsWell (s2, a)
    → ◌≡◌ {A = Option Read} (if b then Some (x, s2, rest) else o) (Some p) → (o ≡ Some p → Leaves s2 rest p) → Leaves s (c ∷ rest) p
at_byte s s2 a c rest x true o p is ends e later =
    let q : ◌≡◌ {A = Read} (x, s2, rest) p = cc in subst (Leaves s (c ∷ rest)) q (record { less = inl (omega arith); between = ends is })
at_byte s s2 a c rest x false o p is ends e later = let l = later e in record { less = inl (elim l.less [ inl h ↦ omega arith | inr h ↦ omega (arith, h.1) ]); between = l.between }

leaves : (s : State) (fields : Fields) (field xs : List ℕ) (p : Read) → next_record default_config s fields field xs ≡ Some p → Leaves s xs p
unfolding next_record
leaves s fields field [] p e = at_end s (ends_at_end s) (fields ++ (field ∷ [])) p refl e
leaves s fields field (c ∷ rest) p e =
    at_byte s (step default_config s c).0 (step default_config s c).1 c rest (fields_after (step default_config s c).1 fields field) (is_end (step default_config s c).1)
    (next_record default_config (step default_config s c).0 (fields_after (step default_config s c).1 fields field) (field_after (step default_config s c).1 c field) rest) p refl (step_ends s c) e
    (λ later. leaves (step default_config s c).0 (fields_after (step default_config s c).1 fields field) (field_after (step default_config s c).1 c field) rest p later)

shorter : (s : State) (xs : List ℕ) (p : Read) → ends_at_end s ≡ false → next_record default_config s [] [] xs ≡ Some p → length p.2 < length xs
shorter s xs p off e = elim (leaves s [] [] xs p e).less [ inl h ↦ h | inr h ↦ let both : true ≡ false = sym h.2 ∙ off in cc ]

-- ---- as many records as the text has

agree : (f g : State → List ℕ → List Fields) (o : Option Read) → ((p : Read) → o ≡ Some p → f p.1 p.2 ≡ g p.1 p.2) → records_next f o ≡ records_next g o
agree f g None h = refl
agree f g (Some p) h = ap (λ t. p.0 ∷ t) (h p refl)

enough : (n m : ℕ) (s : State) (xs : List ℕ) → length xs < n → length xs < m → ends_at_end s ≡ false → records_from default_config n s xs ≡ records_from default_config m s xs
unfolding records_from
enough zero m s xs h k off = absurd (omega arith)
enough (suc n) zero s xs h k off = absurd (omega arith)
enough (suc n) (suc m) s xs h k off =
    agree (records_from default_config n) (records_from default_config m) (next_record default_config s [] [] xs) (λ p e.
    let less = shorter s xs p off e in
    enough n m p.1 p.2 (omega arith) (omega arith) (leaves s [] [] xs p e).between)

after_is : (s : State) (xs : List ℕ) → records_after s xs ≡ records_next (records_from default_config (length xs)) (next_record default_config s [] [] xs)
unfolding records_after records_from
after_is s xs = ap (λ n. records_from default_config n s xs) (add-one (length xs))

after_more : (s : State) (xs : List ℕ) (p : Read) → ends_at_end s ≡ false → next_record default_config s [] [] xs ≡ Some p → records_after s xs ≡ p.0 ∷ records_after p.1 p.2
unfolding records_after
after_more s xs p off e =
    let less = shorter s xs p off e in
    after_is s xs ∙ ap (records_next (records_from default_config (length xs))) e
    ∙ ap (λ t. p.0 ∷ t) (enough (length xs) (length p.2 + 1) p.1 p.2 less (omega arith) (leaves s [] [] xs p e).between)

after_none : (s : State) (xs : List ℕ) → next_record default_config s [] [] xs ≡ None → records_after s xs ≡ []
after_none s xs e = after_is s xs ∙ ap (records_next (records_from default_config (length xs))) e

-- ---- the reader

abbrev known : Bor (List ℕ) → Option (List ℕ)
known s = Some s.now

left_is : (r : Reader (Bor (List ℕ))) (xs : List ℕ) → bytes_left r ≡ Some xs → records_left r ≡ records_after (reader_state r) xs
unfolding records_left
left_is r xs h = rw h refl

took : (a b : Reader (Bor (List ℕ))) (fields : Fields) → IsBetween a → Ready b → ReadRecord known a b true fields → Took a b fields
unfolding Reached
took a b fields i ready r =
    let (z, at_z, reached) = rows-more known a b fields default_config a.state i.bytes i.bytes [] i.settings i.left (refl, refl) r in
    let (p, next, is, end) = reached in
    let state : p.1 ≡ b.state = end.0 in
    let rest : p.2 ≡ z = end.1 in
    record {
      goes_on = record {
        plain = r.3 ∙ i.plain;
        ready = ready;
        settings = r.2 ∙ i.settings;
        state = subst (λ s. ends_at_end s ≡ false) state (leaves a.state [] [] i.bytes p next).between;
        bytes = z;
        left = at_z;
      };
      next = left_is a i.bytes i.left ∙ after_more a.state i.bytes p i.state next
          ∙ (ap (λ f. f ∷ records_after p.1 p.2) (sym is) ∙ ap (λ s. fields ∷ records_after s p.2) state ∙ ap (λ y. fields ∷ records_after b.state y) rest ∙ ap (λ t. fields ∷ t) (sym (left_is b z at_z)));
    }

took_none : (a b : Reader (Bor (List ℕ))) (fields : Fields) → IsBetween a → ReadRecord known a b false fields → records_left a ≡ []
took_none a b fields i r = left_is a i.bytes i.left ∙ after_none a.state i.bytes (rows-end known a b fields default_config i.bytes i.settings i.left r)

pub takes_next : (found : Bool) (a b : Reader (Bor (List ℕ))) (fields : Fields) → IsBetween a → Ready b → ReadRecord known a b found fields → TakesNext found a b fields
takes_next true a b fields i ready r = took a b fields i ready r
takes_next false a b fields i ready r = took_none a b fields i r

pub left_at_start : (r : Reader (Bor (List ℕ))) (bytes : List ℕ) → bytes_left r ≡ Some (strip_bom bytes) → reader_state r ≡ st.StartRecord → records_left r ≡ records_of bytes
unfolding records_after
left_at_start r bytes h s = left_is r (strip_bom bytes) h ∙ ap (λ s. records_after s (strip_bom bytes)) s

-- whether a record was there
pub was_none : (found : Bool) (a b : Reader (Bor (List ℕ))) (fields : Fields) → TakesNext found a b fields → found ≡ false → records_left a ≡ []
was_none true a b fields h e = cc e
was_none false a b fields h e = h

pub was_some : (found : Bool) (a b : Reader (Bor (List ℕ))) (fields : Fields) → TakesNext found a b fields → found ≡ true → Took a b fields
was_some true a b fields h e = h
was_some false a b fields h e = cc e
