-- Marks that spread until they are closed.
use Rattle.std.proofs.Common.{◌≡◌, ◌⊎◌, ℕ, ◌+◌, ◌<◌, ◌≤◌, Bool, true, false, List, [], ◌∷◌, ◌++◌, length, get_or, set, slice_get, Option, Some, None, refl, sym, ap, ◌∙◌, subst, inl, inr, arith, get_or-set_same, get_or-set_other}
use Rattle.std.proofs.lemmas.List.{get_or_past, length-set, length_push}
use Rattle.std.proofs.lemmas.Option.{slice_get_within}
use Rattle.block_forms.specs.declared.forms.Block.{Block}
use Rattle.block_forms.specs.Live.{LiveIn}
use Rattle.block_forms.specs.Places.{In}
use Rattle.block_graph.specs.Liveness.{LiveTable, due, due_block, lives, marked}
use Rattle.block_graph.specs.Predecessors.{ArePredecessors}
use Rattle.block_graph.specs.Spreading.{HasAll, IsDone, Spread, Work}
use Rattle.block_graph.proofs.Lists.{compared, from_both, in_left, in_right, none_some, some_same, within_or_past}
use Rattle.block_graph.proofs.Marking.{live_lives, lives_live, mark_more, more_set, read_or_leads, read_or_next, unmarked_set}
use Rattle.block_graph.proofs.Leading.{leads_among}

in_last : {X : Type 0} (xs : List X) (x y : X) → In (xs ++ y ∷ []) x → In xs x ⊎ (y ≡ x)
in_last xs x y i = elim (from_both xs (y ∷ []) x i) [ inl j ↦ inl j | inr j ↦ inr (elim j [ inl e ↦ e | inr none ↦ absurd none ]) ]

-- ---- what is due

due_there : (o : Option Block) (table : List Bool) (s : ℕ) (m : Bool) → due_block o table s m ≡ true → (x : Block) × (o ≡ Some x) × (m ≡ false) × (lives x table s ≡ true)
due_there None table s m e = absurd (let no : ⊥ = cc in no)
due_there (Some x) table s true e = absurd (let no : ⊥ = cc in no)
due_there (Some x) table s false e = (x, refl, refl, e)

not_due : (o : Option Block) (table : List Bool) (s : ℕ) (m : Bool) (x : Block) → due_block o table s m ≡ false → o ≡ Some x → lives x table s ≡ true → m ≡ true
not_due None table s m x e at h = absurd (none_some at)
not_due (Some y) table s true x e at h = refl
not_due (Some y) table s false x e at h = absurd (let q : lives y table s ≡ lives x table s = ap (λ v. lives v table s) (some_same at) in let no : ⊥ = cc (sym e ∙ q ∙ h) in no)

-- ---- ways and marks

marked_within : (table : List Bool) (d : ℕ) → marked table d ≡ true → d < length table
marked_within table d m = elim (within_or_past d (length table)) [
  | inl lt ↦ lt
  | inr le ↦ absurd (let e : marked table d ≡ false = get_or_past table d false le in let no : ⊥ = cc (sym e ∙ m) in no)
]

-- ---- some blocks, one after another

module _ (g : List Block) (s : ℕ) (old : List Bool) (old_left : List ℕ) where
  module _ (among : List ℕ) (table : List Bool) (left : List ℕ) (so : Spread g s old old_left among table left) (b : ℕ) where
    -- the slot is live by more marks too
    lives_still : (x : Block) → lives x old s ≡ true → lives x table s ≡ true
    lives_still x h = live_lives table s x (more_set (λ c. marked old c ≡ true) (λ c. marked table c ≡ true) s so.kept x (lives_live old s x h))

    pub spread_same : due g table s b ≡ false → Spread g s old old_left (among ++ b ∷ []) table left
    spread_same e = record {
      sized = so.sized;
      only = so.only;
      kept = so.kept;
      counted = so.counted;
      queued = so.queued;
      left_kept = so.left_kept;
      done = λ c x i at h. elim (in_last among c b i) [
        | inl j ↦ so.done c x j at h
        | inr q ↦ subst (λ v. marked table v ≡ true) q (not_due (slice_get g b) table s (marked table b) x e (subst (λ v. slice_get g v ≡ Some x) (sym q) at) (lives_still x h))
      ];
    }

    module _ (e : due g table s b ≡ true) where
      there : (x : Block) × (slice_get g b ≡ Some x) × (marked table b ≡ false) × (lives x table s ≡ true)
      there = due_there (slice_get g b) table s (marked table b) e

      within : b < length table
      within = subst (λ k. b < k) (sym so.sized) (slice_get_within g b there.0 there.1)

      abbrev now : List Bool
      now = set table b true

      marked_here : marked now b ≡ true
      marked_here = get_or-set_same table b true false within

      marked_still : (c : ℕ) → marked table c ≡ true → marked now c ≡ true
      marked_still c m = elim (compared c b) [
        | inl q ↦ subst (λ v. marked now v ≡ true) (sym q) marked_here
        | inr other ↦ get_or-set_other table b c true false other ∙ m
      ]

      pub spread_more : Spread g s old old_left (among ++ b ∷ []) now (left ++ b ∷ [])
      spread_more = record {
        sized = length-set table b true ∙ so.sized;
        only = mark_more g s table so.only b there.0 there.1 there.3 within;
        kept = λ c m. marked_still c (so.kept c m);
        counted = let q = unmarked_set table b within there.2 in let l = length_push left b in omega (arith, q, l, so.counted);
        queued = λ c m. elim (compared c b) [
          | inl q ↦ inr (in_right left (b ∷ []) c (inl (sym q)))
          | inr other ↦ elim (so.queued c (sym (get_or-set_other table b c true false other) ∙ m)) [ inl k ↦ inl k | inr i ↦ inr (in_left left (b ∷ []) c i) ]
        ];
        left_kept = λ c i. in_left left (b ∷ []) c (so.left_kept c i);
        done = λ c x i at h. elim (in_last among c b i) [
          | inl j ↦ marked_still c (so.done c x j at h)
          | inr q ↦ subst (λ v. marked now v ≡ true) q marked_here
        ];
      }

-- ---- work

module _ (g : List Block) (s : ℕ) where
  -- at first the blocks that read the slot are marked
  pub work_begins : (old table : List Bool) (all left : List ℕ) → ((b : ℕ) → marked old b ≡ true → ⊥) → HasAll (length g) all → Spread g s old [] all table left → Work g s table left
  work_begins old table all left none has so = record {
    sized = so.sized;
    only = so.only;
    waiting = λ c m. elim (so.queued c m) [ inl k ↦ absurd (none c k) | inr i ↦ inl i ];
    readers = λ b x at live. so.done b x (has.each b (slice_get_within g b x at)) at (live_lives old s x (more_set (λ c. ⊥) (λ c. marked old c ≡ true) s (λ c f. absurd f) x live));
  }

  module _ (table : List Bool) (rest left : List ℕ) (c : ℕ) (work : Work g s table left) (is : left ≡ rest ++ c ∷ []) where
    next_waiting : (d : ℕ) → marked table d ≡ true → In rest d ⊎ ((c ≡ d) ⊎ IsDone g s table d)
    next_waiting d m = elim (work.waiting d m) [
      | inl i ↦ elim (in_last rest d c (subst (λ l. In l d) is i)) [ inl j ↦ inl j | inr q ↦ inr (inl q) ]
      | inr done ↦ inr (inr done)
    ]

    -- a block that is none
    pub work_skips : length g ≤ c → Work g s table rest
    work_skips past = record {
      sized = work.sized;
      only = work.only;
      waiting = λ d m. elim (next_waiting d m) [
        | inl i ↦ inl i
        | inr k ↦ elim k [ inl q ↦ absurd (no_mark d m q) | inr done ↦ inr done ]
      ];
      readers = work.readers;
    }
      where
        no_mark : (d : ℕ) → marked table d ≡ true → c ≡ d → ⊥
        no_mark d m q = let lt : d < length table = marked_within table d m in omega (arith, lt, past, q, work.sized)

    -- marks spread from block c
    pub work_goes_on : (lists : List (List ℕ)) (new : List Bool) (new_left : List ℕ) → ArePredecessors g (length g) lists → c < length g → Spread g s table rest (get_or lists c []) new new_left → Work g s new new_left
    work_goes_on lists new new_left are lt so = record {
      sized = so.sized;
      only = so.only;
      waiting = λ d m. elim (so.queued d m) [
        | inr i ↦ inl i
        | inl k ↦ elim (next_waiting d k) [
          | inl i ↦ inl (so.left_kept d i)
          | inr j ↦ inr (elim j [ inl q ↦ subst (IsDone g s new) q (here (subst (λ v. marked table v ≡ true) (sym q) k)) | inr done ↦ (λ b x at live. so.kept b (done b x at live)) ])
        ]
      ];
      readers = λ b x at live. so.kept b (work.readers b x at live);
    }
      where
        here : marked table c ≡ true → IsDone g s new c
        here m b x at live = elim (read_or_leads x c s live) [
          | inl reads ↦ so.kept b (work.readers b x at reads)
          | inr leads ↦ so.done b x (leads_among g lists are b c x at leads lt) at (live_lives table s x (more_set (λ d. d ≡ c) (λ d. marked table d ≡ true) s (λ d q. subst (λ v. marked table v ≡ true) (sym q) m) x live))
        ]

  -- nothing is left
  pub work_ends : (table : List Bool) → Work g s table [] → LiveTable g s table
  work_ends table work = record { sized = work.sized; only = work.only; closed = closed }
    where
      closed : (b : ℕ) (x : Block) → slice_get g b ≡ Some x → LiveIn (Some x) (λ c. marked table c ≡ true) s → marked table b ≡ true
      closed b x at live = elim (read_or_next x (λ c. marked table c ≡ true) s live) [
        | inl reads ↦ work.readers b x at reads
        | inr r ↦ elim (work.waiting r.0 r.1) [ inl none ↦ absurd none | inr done ↦ done b x at r.2 ]
      ]

-- ---- all blocks

pub all_more : (n : ℕ) (xs : List ℕ) → HasAll n xs → HasAll (n + 1) (xs ++ n ∷ [])
all_more n xs has = record {
  each = λ b lt. elim (compared b n) [
    | inl q ↦ in_right xs (n ∷ []) b (inl (sym q))
    | inr other ↦ in_left xs (n ∷ []) b (has.each b (omega (arith, lt, other)))
  ];
}
