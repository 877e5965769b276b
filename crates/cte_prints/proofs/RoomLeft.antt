-- What is left of a bound on nesting, terminal by terminal.
use Rattle.std.proofs.Common.{◌≡◌, ℕ, zero, suc, Bool, true, false, ◌&&◌, List, [], ◌∷◌, refl, sym, ap, subst, arith}
use Rattle.std.specs.Prelude.{if◌then◌else◌}
use Rattle.away_grammar.specs.declared.grammar.Mark.{Mark}
use Rattle.away_grammar.specs.declared.grammar.Mark.TheVariants as m
use Rattle.away_grammar.specs.Nesting.{Change, opens, closes, stays}
use Rattle.away_grammar.specs.Terminals.{Terminal, mark}
use Rattle.cte_prints.specs.TerminalNesting.{closes_with_end, is_end_mark, mark_change, is_closed, is_end, change, changes, NestWithin}

-- where one more may be open, with one less left
abbrev pub Takes : ℕ → (ℕ → Type 0) → Type 0
Takes zero P = ⊥
Takes (suc n) P = P n

-- a word that END makes a closing pair with: it opens one, but not directly behind END
abbrev pub TakesUnlessBehind : Bool → ℕ → (ℕ → Type 0) → Type 0
TakesUnlessBehind true n P = P n
TakesUnlessBehind false n P = Takes n P

-- P, of what follows the mark, with what the mark leaves and whether it is END
abbrev pub RoomAt : Mark → (ℕ → Bool → Type 0) → ℕ → Bool → Type 0
RoomAt m.Open P n behind = Takes n (λ k. P k false)
RoomAt m.Begin P n behind = Takes n (λ k. P k false)
RoomAt m.If P n behind = TakesUnlessBehind behind n (λ k. P k false)
RoomAt m.Loop P n behind = TakesUnlessBehind behind n (λ k. P k false)
RoomAt m.Case P n behind = TakesUnlessBehind behind n (λ k. P k false)
RoomAt m.Close P n behind = P (suc n) false
RoomAt m.End P n behind = P (suc n) true
RoomAt _ P n behind = P n false

-- So many more may be open before the terminals; `behind` says whether END stands directly before them.
abbrev pub Room : List Terminal → ℕ → Bool → Type 0
Room [] n behind = Unit {0}
Room (mark terminal ∷ ts) n behind = RoomAt terminal (Room ts) n behind
Room (_ ∷ ts) n behind = Room ts n false

-- ---- from a bound on all fronts

opening : (n : ℕ) (cs : List Change) (P : ℕ → Type 0) → NestWithin n (opens ∷ cs) → ((k : ℕ) → NestWithin k cs → P k) → Takes n P
opening zero cs P h f = absurd (let one = h 1 in omega arith)
opening (suc n) cs P h f = f n (λ at. omega (arith, h (suc at)))

closing : (n : ℕ) (cs : List Change) → NestWithin n (closes ∷ cs) → NestWithin (suc n) cs
closing n cs h at = omega (arith, h (suc at))

staying : (n : ℕ) (cs : List Change) → NestWithin n (stays ∷ cs) → NestWithin n cs
staying n cs h at = h (suc at)

abbrev Rooms : List Terminal → List Change → Type 0
Rooms ts cs = (n : ℕ) → NestWithin n cs → Room ts n false

mark_rooms : (terminal : Mark) (ts : List Terminal) (cs : List Change) → is_end_mark terminal ≡ false → Rooms ts cs → Rooms (mark terminal ∷ ts) (mark_change terminal ∷ cs)
mark_rooms m.Open ts cs e r n h = opening n cs (λ k. Room ts k false) h r
mark_rooms m.Begin ts cs e r n h = opening n cs (λ k. Room ts k false) h r
mark_rooms m.If ts cs e r n h = opening n cs (λ k. Room ts k false) h r
mark_rooms m.Loop ts cs e r n h = opening n cs (λ k. Room ts k false) h r
mark_rooms m.Case ts cs e r n h = opening n cs (λ k. Room ts k false) h r
mark_rooms m.Close ts cs e r n h = r (suc n) (closing n cs h)
mark_rooms m.End ts cs e r n h = absurd (cc e)
mark_rooms _ ts cs e r n h = r n (staying n cs h)

terminal_rooms : (s : Terminal) (ts : List Terminal) (cs : List Change) → is_end s ≡ false → Rooms ts cs → Rooms (s ∷ ts) (change s ∷ cs)
terminal_rooms (mark terminal) ts cs e r n h = mark_rooms terminal ts cs e r n h
terminal_rooms _ ts cs e r n h = r n (staying n cs h)

-- directly behind END a word of a closing pair opens nothing, and for any other terminal it is as elsewhere
mark_unpaired : (terminal : Mark) (ts : List Terminal) (n : ℕ) → closes_with_end terminal ≡ false → Room (mark terminal ∷ ts) n false → Room (mark terminal ∷ ts) n true
mark_unpaired m.If ts n e h = absurd (cc e)
mark_unpaired m.Loop ts n e h = absurd (cc e)
mark_unpaired m.Case ts n e h = absurd (cc e)
mark_unpaired _ ts n e h = h

unpaired : (t : Terminal) (ts : List Terminal) (n : ℕ) → is_closed t ≡ false → Room (t ∷ ts) n false → Room (t ∷ ts) n true
unpaired (mark terminal) ts n e h = mark_unpaired terminal ts n e h
unpaired _ ts n e h = h

mark_paired : (terminal : Mark) (ts : List Terminal) (n : ℕ) → closes_with_end terminal ≡ true → Room ts n false → Room (mark terminal ∷ ts) n true
mark_paired m.If ts n e h = h
mark_paired m.Loop ts n e h = h
mark_paired m.Case ts n e h = h
mark_paired _ ts n e h = absurd (cc e)

paired : (t : Terminal) (ts : List Terminal) (n : ℕ) → is_closed t ≡ true → Room ts n false → Room (t ∷ ts) n true
paired (mark terminal) ts n e h = mark_paired terminal ts n e h
paired _ ts n e h = absurd (cc e)

mark_end : (terminal : Mark) → is_end_mark terminal ≡ true → terminal ≡ m.End
mark_end m.End e = refl
mark_end _ e = absurd (cc e)

end_is : (s : Terminal) → is_end s ≡ true → s ≡ mark m.End
end_is (mark terminal) e = ap mark (mark_end terminal e)
end_is _ e = absurd (cc e)

after_end : (t : Terminal) (ts : List Terminal) (b : Bool) → is_closed t ≡ b → Rooms ts (changes ts) → Rooms (t ∷ ts) (changes (t ∷ ts))
    → Rooms (mark m.End ∷ t ∷ ts) (if b then closes ∷ changes ts else closes ∷ changes (t ∷ ts))
after_end t ts true e r q n h = paired t ts (suc n) e (r (suc n) (closing n (changes ts) h))
after_end t ts false e r q n h = unpaired t ts (suc n) e (q (suc n) (closing n (changes (t ∷ ts)) h))

two : (s t : Terminal) (ts : List Terminal) (b : Bool) → is_end s ≡ b → Rooms ts (changes ts) → Rooms (t ∷ ts) (changes (t ∷ ts))
    → Rooms (s ∷ t ∷ ts) (if b && is_closed t then closes ∷ changes ts else change s ∷ changes (t ∷ ts))
two s t ts true e r q =
    subst (λ s. Rooms (s ∷ t ∷ ts) (if is_closed t then closes ∷ changes ts else change s ∷ changes (t ∷ ts))) (sym (end_is s e))
    (after_end t ts (is_closed t) refl r q)
two s t ts false e r q = terminal_rooms s (t ∷ ts) (changes (t ∷ ts)) e q

one : (s : Terminal) (b : Bool) → is_end s ≡ b → Rooms (s ∷ []) (change s ∷ [])
one s true e = subst (λ s. Rooms (s ∷ []) (change s ∷ [])) (sym (end_is s e)) (λ n h. tt)
one s false e = terminal_rooms s [] [] e (λ n h. tt)

-- Terminals that nest within a bound have room by it.
pub room : (ts : List Terminal) → Rooms ts (changes ts)
room [] n h = tt
room (s ∷ []) n h = one s (is_end s) refl n h
room (s ∷ t ∷ ts) n h = two s t ts (is_end s) refl (room ts) (room (t ∷ ts)) n h
