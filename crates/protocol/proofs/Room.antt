-- Making room: the victims are in-use entries outside the transaction, each once. Evicting the first of them, one by one, clears their entries
-- and frees their blocks, leaves all else of the card, and, cut anywhere, keeps the invariant and the row; so the commit that follows is not
-- refused. Assumes nothing.
use Prim.Native.Nat.{ℕ, zero, suc, ◌+◌, ◌-◌, ◌%◌, ◌≤◌, ◌<◌}
use mathlib.Core.List.{List, [], ◌∷◌, ◌++◌}
use mathlib.Core.Bool.{Bool, true, false, cond, not, ◌&&◌, ◌||◌}
use mathlib.Core.Path.{◌≡◌, refl, sym, ap, subst, ◌∙◌}
use mathlib.Core.Logic.{◌⊎◌, inl, inr, ⊎_elim}
use native.Mathlib.Nat.{mod-lt}
use native.Mathlib.Omega.{arith}
use lib.ListN.{length, get_or}
use lib.Dec.{eqb, ltb}
use borrow.Author.Tests.{eq-eqb, ne_eqb, ltb-true, lt-ltb, leb-true, le-leb, not-true}
use Rattle.numbers.specs.Bytes.{part}
use Rattle.protocol.specs.declared.Entry.{Entry}
use Rattle.protocol.specs.declared.Geometry.{Geometry}
use Rattle.protocol.specs.declared.Map.{Map}
use Rattle.protocol.specs.Below.{any_below, count_below, each_below}
use Rattle.protocol.specs.Layout.{between, geometry_of, version_of, block_at}
use Rattle.protocol.specs.Entry.{unused, entry_of, switched, entry_at, in_use, is_modified}
use Rattle.protocol.specs.Ring.{head_of, tail_of, used_at, is_settled, entry_for, find_entry, cached, current_of}
use Rattle.protocol.specs.Check.{◌or_else◌, card_refusal}
use Rattle.protocol.specs.Store.{card, Run, stored_on, made_on, flat, single, sectors, entry_store}
use Rattle.protocol.specs.Search.{current_is, taken_by, is_free, search_start, free_blocks}
use Rattle.protocol.specs.Map.{map_by, is_marked, map_of, map_refusal}
use Rattle.protocol.specs.Commit.{number_of, entry_found, log_entry, room_for, commit_runs, save_refusal, commit_refusal}
use Rattle.protocol.specs.Recency.{is_arranged}
use Rattle.protocol.specs.Load.{write_back, evict_runs}
use Rattle.protocol.specs.Room.{is_among, is_victim, from_last, victims, missing, victim_number, evictions, room_runs, room_left, enough_victims, room_refusal}
use Rattle.protocol.proofs.Allowed.{unused_good, unused-used}
use Rattle.protocol.proofs.Below.{absurd_bool, either, last_or_before, and_left, and_right, and_both, and_true, and_fails, or_left, any_found, first_cong, count_le}
use Rattle.protocol.proofs.Checks.{limits}
use Rattle.protocol.proofs.Blocks.{among, e_below}
use Rattle.protocol.proofs.Committed.{Entries, commit_entries, puts}
use Rattle.protocol.proofs.Codec.{version_same}
use Rattle.protocol.proofs.Holds.{pass, none_first, header_version, fit_header, fit_passes, card_refuses}
use Rattle.protocol.proofs.Lawful.{Intact, intact, inv_intact, current_below_lem, number_below_lem, entry_found_lem, entry_cached, held, home, lawful}
use Rattle.protocol.proofs.Left.{made_evict, clear_marked}
use Rattle.protocol.proofs.Loaded.{Rest, cached_entry, eviction}
use Rattle.protocol.proofs.Made.{entry_changed, entry_stored}
use Rattle.protocol.proofs.Maps.{own_map, marked_below}
use Rattle.protocol.proofs.Passed.{EvictPassed, CommitPassed, SavePassed, RoomPassed, save_passes, save_commit, room_passed}
use Rattle.protocol.proofs.Recency.{arranged_once}
use Rattle.protocol.proofs.Recovered.{entry_fits}
use Rattle.protocol.proofs.Searches.{sift_finds, sift_apart, length_walk, count_round, count_grows}
use Rattle.protocol.proofs.Shape.{header_kept, head_kept, tail_kept, entry_kept, block_kept, Inv}
use Rattle.protocol.proofs.Stores.{made_runs, Along, along_each}
use Rattle.protocol.proofs.Words.{map_cong}

-- ---- the victims

module _ (g : Geometry) (c t ns : List ℕ) where
  abbrev pub victim : ℕ → ℕ
  victim k = get_or (victims g c t ns) k 0

  -- below N, in use, and outside the transaction
  pub victim_is : (k : ℕ) → k < length (victims g c t ns) → is_victim g c ns (victim k) ≡ true
  unfolding victims
  victim_is k l = (sift_finds (is_victim g c ns) (from_last t) 128 k l).has

  -- no entry twice, since the table has no number twice
  pub victims-apart : is_arranged t ≡ true → (k k' : ℕ) → k < length (victims g c t ns) → k' < length (victims g c t ns) → victim k ≡ victim k' → k ≡ k'
  unfolding victims from_last
  victims-apart a k k' =
      sift_apart (is_victim g c ns) (from_last t) 128 k k'
      (λ i j li lj e. let same = arranged_once t a (127 - i) (127 - j) (omega arith) (omega arith) e in omega arith)

  module _ (k : ℕ) (l : k < length (victims g c t ns)) where
    pub victim_below : victim k < g.blocks
    unfolding is_victim
    victim_below = ltb-true _ _ (and_left (ltb (victim k) g.blocks) _ (victim_is k l))

    victim_cached : used_at g c (victim k) && not (is_among ns (entry_at g c (victim k)).number) ≡ true
    unfolding is_victim
    victim_cached = and_right (ltb (victim k) g.blocks) _ (victim_is k l)

    pub victim_used : used_at g c (victim k) ≡ true
    victim_used = and_left (used_at g c (victim k)) _ victim_cached

    pub victim_outside : is_among ns (entry_at g c (victim k)).number ≡ false
    victim_outside = not-true _ (and_right (used_at g c (victim k)) _ victim_cached)

-- ---- the card after k evictions

-- the card that the first k evictions leave
abbrev pub room_after : Geometry → List ℕ → List ℕ → List ℕ → ℕ → List ℕ
room_after g c t ns k = made_on card (flat (evictions g c t ns k)) c

-- c' is c with the entries of the first k victims cleared
pub record Evicted (g : Geometry) (c t ns : List ℕ) (k : ℕ) (c' : List ℕ) : Type 0 where
  pub sized : length c' ≡ length c
  pub header : part c' 0 64 ≡ part c 0 64
  pub head : head_of c' ≡ head_of c
  pub tail : tail_of c' ≡ tail_of c
  pub settled : is_settled g c' ≡ true
  pub intact : Intact g c'
  pub others : (i : ℕ) → i < g.blocks → ((j : ℕ) → j < k → victim g c t ns j ≡ i → ⊥) → entry_at g c' i ≡ entry_at g c i
  pub cleared : (j : ℕ) → j < k → entry_at g c' (victim g c t ns j) ≡ unused
  pub blocks : (p : ℕ) → p < g.blocks → block_at g c' p ≡ block_at g c p

-- an eviction looks at the entry that is found for b and at its block alone
evict_same : (g : Geometry) (c c' : List ℕ) (b i : ℕ) → find_entry g c b ≡ i → find_entry g c' b ≡ i → entry_at g c' i ≡ entry_at g c i
    → block_at g c' (entry_at g c i).current ≡ block_at g c (entry_at g c i).current → evict_runs g c' b ≡ evict_runs g c b
unfolding evict_runs write_back current_of
evict_same g c c' b i f f' e h =
    ap (on c') f' ∙ (λ t. runs i (e t) ((ap (λ (x : Entry). block_at g c' x.current) e ∙ h) t)) ∙ ap (on c) (sym f)
  where
    runs : ℕ → Entry → List ℕ → List Run
    runs i x bs = cond (is_modified x) (sectors g b bs ∷ []) [] ++ single (entry_store g i unused)

    on : List ℕ → ℕ → List Run
    on c i = runs i (entry_at g c i) (block_at g c (entry_at g c i).current)

-- the next victim, on the card that the k evictions before it leave
module _ {g : Geometry} {c : List ℕ} (t ns : List ℕ) (w : Intact g c) (a : is_arranged t ≡ true) (k : ℕ) (l : k < length (victims g c t ns))
    {c' : List ℕ} (x : Evicted g c t ns k c') where
  abbrev at : ℕ
  at = victim g c t ns k

  abbrev b : ℕ
  b = victim_number g c t ns k

  at_below : at < g.blocks
  at_below = victim_below g c t ns k l

  stays : entry_at g c' at ≡ entry_at g c at
  stays = x.others at at_below (λ j h e. let same = victims-apart g c t ns a j k (omega arith) l e in omega arith)

  used : used_at g c' at ≡ true
  unfolding used_at
  used = ap in_use stays ∙ victim_used g c t ns k l

  numbered : (entry_at g c' at).number ≡ b
  unfolding victim_number
  numbered = ap (λ (e : Entry). e.number) stays

  found : find_entry g c' b ≡ at
  found = entry_found_lem x.intact at b at_below used numbered

  found_first : find_entry g c b ≡ at
  unfolding victim_number
  found_first = entry_found_lem w at b at_below (victim_used g c t ns k l) refl

  in_turn : evict_runs g c' b ≡ evict_runs g c b
  in_turn = evict_same g c c' b at found_first found stays (x.blocks _ (current_below_lem w at at_below))

  -- an evict of its block would not be refused there
  passes : EvictPassed g c' b
  passes =
      record {
        settled = x.settled;
        in_disk = subst (λ (z : ℕ). z < g.disk) numbered (number_below_lem x.intact at at_below);
        is_cached = entry_cached x.intact at b at_below used numbered;
      }

  abbrev next : List ℕ
  next = stored_on card (entry_store g at unused) c'

  next_is : made_on card (flat (evict_runs g c' b)) c' ≡ next
  next_is = made_evict g (limits g w.good) c' b ∙ ap (λ (z : ℕ). stored_on card (entry_store g z unused) c') found

  one_more : is_settled g next ≡ true → Intact g next → Evicted g c t ns (suc k) next
  one_more s i =
      let ch = entry_changed g c' at unused at_below in
      let fits = entry_fits 2 g w.good unused (unused_good 2 g.blocks g.disk) in
      record {
        sized = ch.sized ∙ x.sized;
        header = header_kept ch (λ p q. omega arith) ∙ x.header;
        head = head_kept ch (λ p q. omega arith) ∙ x.head;
        tail = tail_kept ch (λ p q. omega arith) ∙ x.tail;
        settled = s;
        intact = i;
        others = λ i h n. entry_kept ch i h (λ p q. n k (omega arith) q) ∙ x.others i h (λ j m. n j (omega arith));
        cleared = λ j h.
            ⊎_elim
            (λ e. ap (λ (z : ℕ). entry_at g next (victim g c t ns z)) e ∙ entry_stored g c' at unused at_below x.intact.sized fits)
            (λ m.
            let apart : at ≡ victim g c t ns j → ⊥ = λ e. let same = victims-apart g c t ns a k j l (omega arith) e in omega arith in
            entry_kept ch (victim g c t ns j) (victim_below g c t ns j (omega arith)) (λ p q. apart q) ∙ x.cleared j m)
            (last_or_before j k h);
        blocks = λ p h. block_kept ch p h (λ q r. omega arith) ∙ x.blocks p h;
      }

-- the first k evictions, cut anywhere, keep the invariant and the row
module _ {g : Geometry} {row : ℕ → List ℕ} {c d : List ℕ} (t ns : List ℕ) (v : Inv g row c d) (s : is_settled g c ≡ true) (a : is_arranged t ≡ true) where
  abbrev pub Evicting : ℕ → List ℕ → List ℕ → Type 0
  Evicting k c' d' = Inv g row c' d' × Evicted g c t ns k c'

  start : Evicted g c t ns 0 c
  start =
      record {
        sized = refl;
        header = refl;
        head = refl;
        tail = refl;
        settled = s;
        intact = inv_intact v;
        others = λ i h n. refl;
        cleared = λ j h. absurd (omega arith);
        blocks = λ p h. refl;
      }

  turn : (k : ℕ) (c' d' : List ℕ) → k < length (victims g c t ns) → Evicting k c' d'
      → Along (Rest g row) (Evicting (suc k)) (evict_runs g c (victim_number g c t ns k)) c' d'
  turn k c' d' l q =
      let w = inv_intact v in
      let x = q.1 in
      let e = eviction q.0 (victim_number g c t ns k) (passes t ns w a k l x) in
      let is = next_is t ns w a k l x in
      subst (λ (rs : List Run). Along (Rest g row) (Evicting (suc k)) rs c' d') (in_turn t ns w a k l x)
      (record {
        during = e.during;
        end = (
          e.end.0,
          subst (Evicted g c t ns (suc k)) (sym is)
              (one_more t ns w a k l x (subst (λ (z : List ℕ). is_settled g z ≡ true) is e.end.1) (subst (Intact g) is (inv_intact e.end.0))),
        );
      })

  pub evicting : (k : ℕ) → k ≤ length (victims g c t ns) → Along (Rest g row) (Evicting k) (evictions g c t ns k) c d
  unfolding evictions
  evicting k l =
      along_each Evicting (λ i. evict_runs g c (victim_number g c t ns i)) k c d (v, s) (v, start)
      (λ i c' d' h q. turn i c' d' (omega arith) q)

-- of every card that passes its checks
module _ {g : Geometry} {c : List ℕ} (t ns : List ℕ) (w : Intact g c) (s : is_settled g c ≡ true) (a : is_arranged t ≡ true) where
  pub evicted : (k : ℕ) → k ≤ length (victims g c t ns) → Evicted g c t ns k (room_after g c t ns k)
  evicted k l = (evicting t ns (lawful w s) s a k l).end.1

  module _ (k : ℕ) (l : k < length (victims g c t ns)) where
    so_far : Evicted g c t ns k (room_after g c t ns k)
    so_far = evicted k (omega arith)

    pub victim_stays : entry_at g (room_after g c t ns k) (victim g c t ns k) ≡ entry_at g c (victim g c t ns k)
    victim_stays = stays t ns w a k l so_far

    pub victim_found : find_entry g (room_after g c t ns k) (victim_number g c t ns k) ≡ victim g c t ns k
    victim_found = found t ns w a k l so_far

    pub victim_found_first : find_entry g c (victim_number g c t ns k) ≡ victim g c t ns k
    victim_found_first = found_first t ns w a k l so_far

    -- each eviction is as evict makes it on the card that the ones before leave
    pub evicts_in_turn : evictions g c t ns (suc k) ≡ evictions g c t ns k ++ evict_runs g (room_after g c t ns k) (victim_number g c t ns k)
    unfolding evictions each_below
    evicts_in_turn = ap (λ (rs : List Run). evictions g c t ns k ++ rs) (sym (in_turn t ns w a k l so_far))

-- ---- the transaction's blocks, the map and the free blocks then

-- a free block is one that is not marked
free_marked : (g : Geometry) (c : List ℕ) (d : ℕ) → d < g.blocks → is_free g c d ≡ not (is_marked g c d)
unfolding is_free
free_marked g c d l = ap not (sym (marked_below g c d l))

-- all round, the search meets each free block once
pub free_count_lem : (g : Geometry) (c : List ℕ) → 0 < g.blocks → length (free_blocks g c) ≡ count_below (is_free g c) g.blocks
unfolding free_blocks search_start
free_count_lem g c l =
    length_walk (is_free g c) g.blocks (tail_of c % g.blocks) g.blocks ∙ count_round (is_free g c) g.blocks (tail_of c % g.blocks) (mod-lt (tail_of c) l)

-- one bit cleared after others
clear_both : (m x y : Bool) → (m && not x) && not y ≡ m && not (x || y)
clear_both true true y = refl
clear_both true false y = refl
clear_both false x y = refl

-- a block of the transaction is cached where it was, and as it was: it is no victim's
module _ {g : Geometry} {c t ns c' : List ℕ} {k : ℕ} (x : Evicted g c t ns k c') (l : k ≤ length (victims g c t ns)) (b : ℕ) (n : is_among ns b ≡ true) where
  outside : (j i : ℕ) → j < k → victim g c t ns j ≡ i → (entry_at g c i).number ≡ b → ⊥
  outside j i h v e =
      absurd_bool (ap (is_among ns) (ap (λ (z : ℕ). (entry_at g c z).number) v ∙ e) ∙ n) (victim_outside g c t ns j (omega arith))

  kept_for : (i : ℕ) → i < g.blocks → entry_for g c' b i ≡ entry_for g c b i
  unfolding entry_for used_at
  kept_for i h = go (among (victim g c t ns) k i)
    where
      go : ((j : ℕ) × (j < k) × (victim g c t ns j ≡ i)) ⊎ ((j : ℕ) → j < k → victim g c t ns j ≡ i → ⊥) → entry_for g c' b i ≡ entry_for g c b i
      go (inl v) =
          ap (λ (e : Entry). in_use e && eqb e.number b) (ap (entry_at g c') (sym v.2) ∙ x.cleared v.0 v.1)
          ∙ ap (λ (u : Bool). u && eqb 0 b) unused-used
          ∙ sym (and_fails (used_at g c i) _ (ne_eqb _ _ (outside v.0 i v.1 v.2)))
      go (inr un) = ap (λ (e : Entry). in_use e && eqb e.number b) (x.others i h un)

  pub kept_found : find_entry g c' b ≡ find_entry g c b
  unfolding find_entry
  kept_found = first_cong _ _ g.blocks kept_for

  pub kept_entry : find_entry g c b < g.blocks → entry_at g c' (find_entry g c b) ≡ entry_at g c (find_entry g c b)
  unfolding cached
  kept_entry h =
      let at = cached_entry g c b (lt-ltb _ _ h) in
      x.others (find_entry g c b) h (λ j m v. outside j (find_entry g c b) m v at.number)

module _ {g : Geometry} {c : List ℕ} (t ns : List ℕ) (w : Intact g c) (s : is_settled g c ≡ true) (a : is_arranged t ≡ true) where
  -- the block that victim k has
  abbrev block : ℕ → ℕ
  block k = (entry_at g c (victim g c t ns k)).current

  module _ (k : ℕ) (l : k < length (victims g c t ns)) where
    at_used : used_at g (room_after g c t ns k) (victim g c t ns k) ≡ true
    at_used = used t ns w a k l (so_far t ns w s a k l)

    -- on the card, an eviction clears the entry and does no more
    after_next : room_after g c t ns (suc k) ≡ stored_on card (entry_store g (victim g c t ns k) unused) (room_after g c t ns k)
    after_next =
        ap (λ (rs : List Run). made_on card (flat rs) c) (evicts_in_turn t ns w s a k l)
        ∙ made_runs card (evictions g c t ns k) (evict_runs g (room_after g c t ns k) (victim_number g c t ns k)) c
        ∙ next_is t ns w a k l (so_far t ns w s a k l)

    next_marked : (d : ℕ) → d < 128 → is_marked g (room_after g c t ns (suc k)) d ≡ is_marked g (room_after g c t ns k) d && not (eqb (block k) d)
    next_marked d h =
        ap (λ (z : List ℕ). is_marked g z d) after_next
        ∙ clear_marked (so_far t ns w s a k l).intact (so_far t ns w s a k l).settled (victim g c t ns k) (victim_below g c t ns k l) at_used d h
        ∙ ap (λ (e : Entry). is_marked g (room_after g c t ns k) d && not (eqb e.current d)) (victim_stays t ns w s a k l)

    taken : is_marked g (room_after g c t ns k) (block k) ≡ true
    unfolding taken_by current_is
    taken =
        marked_below g _ (block k) (current_below_lem w (victim g c t ns k) (victim_below g c t ns k l))
        ∙ any_found _ g.blocks (victim g c t ns k) (victim_below g c t ns k l)
        (or_left _ _ (and_both at_used (eq-eqb _ _ (ap (λ (e : Entry). e.current) (victim_stays t ns w s a k l)))))

    -- its block was taken, and is free now; the others are as before
    next_free_lem : count_below (is_free g (room_after g c t ns (suc k))) g.blocks ≡ count_below (is_free g (room_after g c t ns k)) g.blocks + 1
    next_free_lem =
        let few = limits g w.good in
        let low = current_below_lem w (victim g c t ns k) (victim_below g c t ns k l) in
        let marked : ℕ → Bool = is_marked g (room_after g c t ns k) in
        count_grows (is_free g (room_after g c t ns k)) (is_free g (room_after g c t ns (suc k))) g.blocks (block k) low
        (free_marked g _ (block k) low ∙ ap not taken)
        (free_marked g _ (block k) low
        ∙ ap not (next_marked (block k) (omega arith) ∙ and_fails (marked (block k)) _ (ap not (eq-eqb (block k) (block k) refl))))
        (λ d h o.
        let same : is_marked g (room_after g c t ns (suc k)) d ≡ marked d =
        next_marked d (omega arith) ∙ ap (λ (b : Bool). marked d && not b) (ne_eqb (block k) d (λ e. o (sym e))) ∙ and_true (marked d) in
        free_marked g _ d h ∙ ap not same ∙ sym (free_marked g _ d h))

  -- the evictions clear their blocks' bits, one after the other
  pub after_marked : (k : ℕ) → k ≤ length (victims g c t ns) → (d : ℕ) → d < 128
      → is_marked g (room_after g c t ns k) d ≡ is_marked g c d && not (any_below (λ j. eqb (block j) d) k)
  unfolding evictions each_below flat made_on any_below
  after_marked zero l d h = sym (and_true (is_marked g c d))
  after_marked (suc k) l d h =
      next_marked k l d h
      ∙ ap (λ (b : Bool). b && not (eqb (block k) d)) (after_marked k (omega arith) d h)
      ∙ clear_both (is_marked g c d) (any_below (λ j. eqb (block j) d) k) (eqb (block k) d)

  -- and free a block each
  free_after : (k : ℕ) → k ≤ length (victims g c t ns) → count_below (is_free g (room_after g c t ns k)) g.blocks ≡ count_below (is_free g c) g.blocks + k
  unfolding evictions each_below flat made_on
  free_after zero l = omega arith
  free_after (suc k) l = next_free_lem k l ∙ omega (arith, free_after k (omega arith))

  -- no card makes room for more blocks than it has
  pub room_most : enough_victims g c t ns ≡ true → length ns ≤ g.blocks
  unfolding enough_victims missing
  room_most e =
      let few = limits g w.good in
      omega (
        arith,
        free_after (missing g c ns) (leb-true _ _ e),
        count_le (is_free g (room_after g c t ns (missing g c ns))) g.blocks,
        free_count_lem g c (omega arith),
      )

-- ---- the card as it is left for the commit

-- the i-th number of a transaction is one of its numbers
pub number_among : (ns : List ℕ) (i : ℕ) → i < length ns → is_among ns (number_of ns i) ≡ true
unfolding is_among
number_among ns i l = any_found _ (length ns) i l (eq-eqb (number_of ns i) (number_of ns i) refl)

module _ {v : ℕ} {g : Geometry} {c : List ℕ} (t ns bs ch : List ℕ) (w : Intact g c) (p : RoomPassed v g c t ns bs ch) where
  pub room_enough : missing g c ns ≤ length (victims g c t ns)
  unfolding enough_victims
  room_enough = leb-true _ _ p.saves.enough

  pub room_left_lem : Evicted g c t ns (missing g c ns) (room_left g c t ns)
  unfolding room_left room_runs
  room_left_lem = evicted t ns w p.settled p.arranged (missing g c ns) room_enough

  pub room_free : length (free_blocks g (room_left g c t ns)) ≡ length (free_blocks g c) + missing g c ns
  unfolding room_left room_runs
  room_free =
      let few = limits g w.good in
      free_count_lem g _ (omega arith)
      ∙ free_after t ns w p.settled p.arranged (missing g c ns) room_enough
      ∙ ap (λ (n : ℕ). n + missing g c ns) (sym (free_count_lem g c (omega arith)))

  -- as many are free as the commit asks for
  pub room_saves : SavePassed g ns bs ch (room_for g (room_left g c t ns) (length ns))
  unfolding room_for missing
  room_saves =
      record {
        counted = p.saves.counted;
        sized = p.saves.sized;
        chosen = p.saves.chosen;
        in_disk = p.saves.in_disk;
        once = p.saves.once;
        enough = le-leb (length ns) (length (free_blocks g (room_left g c t ns))) (omega (arith, room_free));
      }

  pub room_commits : CommitPassed g (room_left g c t ns) ns bs
  room_commits = save_commit room_left_lem.settled room_saves

  -- the card so left as the commit's plan meets it
  room_lawful : Inv g (held room_left_lem.intact room_left_lem.settled) (room_left g c t ns) (home room_left_lem.intact room_left_lem.settled)
  room_lawful = lawful room_left_lem.intact room_left_lem.settled

  pub room_place : (i : ℕ) → i < length ns → entry_found g (room_left g c t ns) ns i < g.blocks
  room_place i l = e_below ns bs room_lawful (puts ns bs room_lawful room_commits) i l

  -- the card that the commit leaves
  abbrev pub roomDone : List ℕ
  roomDone = made_on card (flat (commit_runs g (room_left g c t ns) ns bs)) (room_left g c t ns)

  -- no entry is for a victim's block then: the plan's are for the transaction's, the victims' are cleared, and the others are for other blocks
  module _ (k : ℕ) (l : k < missing g c ns) (i : ℕ) (h : i < g.blocks) (u : used_at g roomDone i ≡ true)
      (n : (entry_at g roomDone i).number ≡ victim_number g c t ns k) where
    abbrev at_end : Entries ns bs room_lawful room_commits roomDone
    at_end = commit_entries ns bs room_lawful room_commits

    listed : k < length (victims g c t ns)
    listed = omega (arith, room_enough)

    in_plan : (j : ℕ) → j < length ns → entry_found g (room_left g c t ns) ns j ≡ i → ⊥
    unfolding victim_number switched log_entry entry_of
    in_plan j m e =
        let same : number_of ns j ≡ victim_number g c t ns k =
        ap (λ (x : Entry). x.number) (sym (at_end.planned j m)) ∙ ap (λ (z : ℕ). (entry_at g roomDone z).number) e ∙ n in
        absurd_bool (ap (is_among ns) (sym same) ∙ number_among ns j m) (victim_outside g c t ns k listed)

    still : entry_at g roomDone i ≡ entry_at g (room_left g c t ns) i
    still = at_end.others i h in_plan

    was_victim : (j : ℕ) → j < missing g c ns → victim g c t ns j ≡ i → ⊥
    unfolding used_at
    was_victim j m e =
        absurd_bool u (ap in_use (still ∙ ap (entry_at g (room_left g c t ns)) (sym e) ∙ room_left_lem.cleared j m) ∙ unused-used)

    no_entry : ⊥
    unfolding used_at
    no_entry =
        let same : entry_at g roomDone i ≡ entry_at g c i = still ∙ room_left_lem.others i h was_victim in
        was_victim k l
        (sym (victim_found_first t ns w p.settled p.arranged k listed)
        ∙ entry_found_lem w i (victim_number g c t ns k) h (ap in_use (sym same) ∙ u) (ap (λ (x : Entry). x.number) (sym same) ∙ n))

  pub victim_gone : (k : ℕ) → k < missing g c ns → cached g roomDone (victim_number g c t ns k) ≡ false
  victim_gone k l =
      ⊎_elim
      (λ e. let x = cached_entry g roomDone (victim_number g c t ns k) e in absurd (no_entry k l _ x.below x.used x.number))
      (λ e. e)
      (either (cached g roomDone (victim_number g c t ns k)))

-- making room, cut anywhere, keeps the invariant and the row, and leaves the card that the commit's searches see
pub room_along : {n : ℕ} {g : Geometry} {row : ℕ → List ℕ} {c d : List ℕ} (t ns bs ch : List ℕ) → Inv g row c d → RoomPassed n g c t ns bs ch
    → Along (Rest g row) (λ c' d'. Rest g row c' d' × (c' ≡ room_left g c t ns)) (room_runs g c t ns) c d
unfolding room_left room_runs
room_along {n} {g} {row} {c} {d} t ns bs ch v p =
    let x = evicting t ns v p.settled p.arranged (missing g c ns) (room_enough t ns bs ch (inv_intact v) p) in
    record { during = x.during; end = ((x.end.0, x.end.1.settled), refl) }

-- of every room-making commit that is not refused
module _ (c d : List ℕ) (m : Map) (t ns bs ch : List ℕ) (z : room_refusal 2 c d m t ns bs ch ≡ 0) where
  abbrev g : Geometry
  g = geometry_of c

  abbrev c' : List ℕ
  c' = room_left g c t ns

  pub has_passed : RoomPassed 2 g c t ns bs ch
  has_passed = room_passed 2 c d m t ns bs ch z

  pub whole : Intact g c
  whole = intact 2 2 c (omega arith) (omega arith) has_passed.fit has_passed.undamaged

  as_left : Evicted g c t ns (missing g c ns) c'
  as_left = room_left_lem t ns bs ch whole has_passed

  pub room_geometry : geometry_of c' ≡ g
  room_geometry = as_left.intact.own

  pub room_version : version_of c' ≡ version_of c
  room_version = version_same c c' as_left.header

  pub room_head : head_of c' ≡ head_of c
  room_head = as_left.head

  pub room_length : length c' ≡ length c
  room_length = as_left.sized

  -- the transaction's blocks are cached where they were
  pub room_finds : (i : ℕ) → i < length ns → find_entry g c' (number_of ns i) ≡ find_entry g c (number_of ns i)
  room_finds i l = kept_found as_left (room_enough t ns bs ch whole has_passed) (number_of ns i) (number_among ns i l)

  pub room_entry : (i : ℕ) → i < length ns → find_entry g c (number_of ns i) < g.blocks
      → entry_at g c' (find_entry g c (number_of ns i)) ≡ entry_at g c (find_entry g c (number_of ns i))
  room_entry i l = kept_entry as_left (room_enough t ns bs ch whole has_passed) (number_of ns i) (number_among ns i l)

  -- "The searches then see the card so left", with its own map: a plain commit there is not refused
  pub room_commit : commit_refusal 2 c' (map_of c') ns bs ch ≡ 0
  unfolding commit_refusal
  room_commit =
      let v = lawful as_left.intact as_left.settled in
      let two = header_version c 2 2 (fit_header c 2 2 has_passed.fit) in
      none_first _ (fit_passes v 2 2 (ap (between 2 2) room_version ∙ two))
      ∙ ap (λ (y : Geometry). card_refusal y c' or_else map_refusal c' (map_of c') or_else save_refusal y ns bs ch (room_for y c' (length ns))) room_geometry
      ∙ none_first _ (card_refuses v ∙ pass 7 as_left.settled)
      ∙ none_first _ (own_map c')
      ∙ save_passes g ns bs ch _ (room_saves t ns bs ch whole has_passed)

  pub room_map : map_of c'
      ≡ map_by (λ x. is_marked g c x && not (any_below (λ k. eqb (entry_at g c (get_or (victims g c t ns) k 0)).current x) (missing g c ns)))
  unfolding map_of room_left room_runs
  room_map =
      ap (λ (y : Geometry). map_by (is_marked y c')) room_geometry
      ∙ map_cong _ _
      (after_marked t ns whole has_passed.settled has_passed.arranged (missing g c ns) (room_enough t ns bs ch whole has_passed))
