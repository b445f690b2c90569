-- What each call that is not refused leaves of the map, on every card: evict clears one bit, load sets one, commit sets those of its new blocks
-- and clears those of its old ones, recovery goes from current blocks to previous ones. Assumes nothing.
use Prim.Native.Nat.{ℕ, zero, suc, ◌+◌, ◌≤◌, ◌<◌}
use mathlib.Core.List.{List, [], ◌∷◌, ◌++◌}
use mathlib.Core.Bool.{Bool, true, false, cond, not, ◌&&◌, ◌||◌}
use mathlib.Core.Option.{some}
use mathlib.Core.Path.{◌≡◌, refl, sym, ap, subst, ◌∙◌}
use mathlib.Core.Logic.{◌⊎◌, inl, inr, ⊎_elim}
use native.Mathlib.Omega.{arith}
use lib.ListN.{length, get_or}
use lib.Dec.{eqb, ltb, leb}
use borrow.Author.Tests.{eq-eqb, eqb-true, eqb-false, leb-true, ltb-true}
use Rattle.numbers.specs.Bytes.{part}
use Rattle.protocol.specs.declared.Entry.{Entry}
use Rattle.protocol.specs.declared.Geometry.{Geometry}
use Rattle.protocol.specs.declared.Map.{Map}
use Rattle.protocol.specs.Below.{any_below, each_below}
use Rattle.protocol.specs.Layout.{between, geometry_of, version_of, block_at, disk_block, entry_place}
use Rattle.protocol.specs.Entry.{FRESH, entry_of, unused, entry_bytes, entry_at, in_use, is_modified, has_log_role, switched, undone}
use Rattle.protocol.specs.Ring.{head_of, tail_of, in_window, used_at, undoable_at, is_settled, find_entry, cached, current_of}
use Rattle.protocol.specs.Check.{refuse, fit_refusal, disk_refusal, damage_refusal, card_refusal, choice_refusal}
use Rattle.protocol.specs.Store.{card, stored_on, made_on, flat, single, words, sectors, entry_store, tail_store}
use Rattle.protocol.specs.Search.{current_is, previous_is, free_blocks, unused_entries}
use Rattle.protocol.specs.Map.{map_by, is_marked, current_marked, map_of, map_refusal, make_refusal}
use Rattle.protocol.specs.Commit.{new_block, entry_found, old_block, log_entry, room_for, commit_runs, commit_refusal}
use Rattle.protocol.specs.Recency.{table_refusal}
use Rattle.protocol.specs.Load.{pair_refusal, block_refusal, clean_entry, load_runs, load_refusal, write_back, evict_runs, evict_refusal}
use Rattle.protocol.specs.Recover.{same_bytes, if_changing, undo_runs, recover_runs, recover_refusal}
use Rattle.protocol.proofs.Allowed.{clean, used-good, unused_good, unused-used, unused_role, clean_used, clean_role, not-used_blank, back_used}
use Rattle.protocol.proofs.Below.{either, absurd_bool, last_or_before, and_left, and_right, and_both, and_true, or_left, or_right, or_none, or_false, any_found, any_witness}
use Rattle.protocol.proofs.Checks.{Limits, limits, or_else_none, refuse_none}
use Rattle.protocol.proofs.Codec.{geometry_same}
use Rattle.protocol.proofs.Blocks.{Entered, fresh, again, entered, e_below, q_free}
use Rattle.protocol.proofs.Committed.{Entries, kept_used_of, commit_entries, commit_done, puts}
use Rattle.protocol.proofs.Holds.{used_current, geometry_is}
use Rattle.protocol.proofs.Invariant.{kind_current}
use Rattle.protocol.proofs.Lawful.{Fit, Intact, intact_fit, intact, lawful}
use Rattle.protocol.proofs.Loaded.{settled_entry, settled_block_lem, cached_entry}
use Rattle.protocol.proofs.Made.{entry_changed, entry_stored, tail_changed, tail_stored, words_changed_all, sectors_elsewhere}
use Rattle.protocol.proofs.Maps.{current_marked_lem, marked_either, settled_marked, Moves, marked_is, marked_moves, map_moves}
use Rattle.protocol.proofs.Onward.{good_at, cases, fits_undone, stands}
use Rattle.protocol.proofs.Passed.{CommitPassed, commit_passed}
use Rattle.protocol.proofs.Planned.{new_below, unused_below, unused_is, enough_unused}
use Rattle.protocol.proofs.Recovered.{entry_fits, same_bytes_lem, Undone, emptied, restored, undone_role, tail_stands, settled_by}
use Rattle.protocol.proofs.Region.{entry}
use Rattle.protocol.proofs.Shape.{Changed, header_kept, head_kept, tail_kept, entry_kept, Inv}
use Rattle.protocol.proofs.Stores.{made_append, made_runs}
use Rattle.protocol.proofs.Words.{map_cong}

-- ---- one entry changes

-- c' is c but for entry i, which is x now
module _ {g : Geometry} {c : List ℕ} (c' : List ℕ) (w : Intact g c) (i : ℕ) (x : Entry) (l : i < g.blocks) (header : part c' 0 64 ≡ part c 0 64)
    (others : (j : ℕ) → j < g.blocks → (j ≡ i → ⊥) → entry_at g c' j ≡ entry_at g c j) (now : entry_at g c' i ≡ x)
    (before : is_settled g c ≡ true) (then : is_settled g c' ≡ true) where
  one_moves : Moves g c c' (λ j. eqb j i) (λ d. used_at g c i && eqb (entry_at g c i).current d) (λ d. in_use x && eqb x.current d)
  unfolding used_at
  one_moves =
      record {
        own = geometry_same c c' header ∙ w.own;
        others = λ j h n. others j h (eqb-false _ _ n);
        gave = λ j h e u.
            let q = eqb-true j i e in
            and_both (ap (used_at g c) (sym q) ∙ u) (eq-eqb _ _ (ap (λ (z : ℕ). (entry_at g c z).current) (sym q)));
        given = λ d h e. (
          i,
          l,
          eq-eqb i i refl,
          (and_left (used_at g c i) _ e, eqb-true _ _ (and_right (used_at g c i) _ e)),
        );
        took = λ j h e u.
            let q : entry_at g c' j ≡ x = ap (entry_at g c') (eqb-true j i e) ∙ now in
            and_both (ap in_use (sym q) ∙ u) (eq-eqb _ _ (ap (λ (y : Entry). y.current) (sym q)));
        taken = λ d h e. (
          i,
          l,
          eq-eqb i i refl,
          (ap in_use now ∙ and_left (in_use x) _ e, ap (λ (y : Entry). y.current) now ∙ eqb-true _ _ (and_right (in_use x) _ e)),
        );
      }

  pub one_entry : map_of c'
      ≡ map_by (λ d. (is_marked g c d && not (used_at g c i && eqb (entry_at g c i).current d)) || (in_use x && eqb x.current d))
  one_entry = map_moves w one_moves before then

  one_marked : (d : ℕ) → d < 128
      → is_marked g c' d ≡ (is_marked g c d && not (used_at g c i && eqb (entry_at g c i).current d)) || (in_use x && eqb x.current d)
  one_marked = marked_moves w one_moves before then

-- ---- what the checks have passed

-- a card that passes 1, 2 and 4 to 7, and a disk that passes 3, of a library of either version
module _ (w : ℕ) (known : between 1 2 w ≡ true) (c : List ℕ) where
  pub whole_card : fit_refusal w w c ≡ 0 → card_refusal (geometry_of c) c ≡ 0 → Intact (geometry_of c) c × (is_settled (geometry_of c) c ≡ true)
  unfolding card_refusal between
  whole_card fit z =
      let (damage, seven) = or_else_none (damage_refusal (geometry_of c) c) _ z in
      let low : 1 ≤ w = leb-true _ _ (and_left (leb 1 w) _ known) in
      let high : w ≤ 2 = leb-true _ _ (and_right (leb 1 w) _ known) in
      (intact w w c low high fit damage, refuse_none 7 _ (omega arith) seven)

  pub whole_pair : (d : List ℕ) → pair_refusal w c d ≡ 0 → Intact (geometry_of c) c × (is_settled (geometry_of c) c ≡ true)
  unfolding pair_refusal
  whole_pair d z =
      let (fit, rest) = or_else_none (fit_refusal w w c) _ z in
      whole_card fit (or_else_none (disk_refusal (geometry_of c) d) _ rest).1

-- and of today's
today_known : between 1 2 2 ≡ true
unfolding between
today_known = refl

pub card_intact : (c : List ℕ) → fit_refusal 2 2 c ≡ 0 → card_refusal (geometry_of c) c ≡ 0 → Intact (geometry_of c) c × (is_settled (geometry_of c) c ≡ true)
card_intact = whole_card 2 today_known

pub pair_sound : (c d : List ℕ) → pair_refusal 2 c d ≡ 0 → Intact (geometry_of c) c × (is_settled (geometry_of c) c ≡ true)
pair_sound = whole_pair 2 today_known

-- ---- evict

-- the sectors leave the card, so all that an evict does there is to clear the entry
pub made_evict : (g : Geometry) (fit : Limits g) (c : List ℕ) (b : ℕ)
    → made_on card (flat (evict_runs g c b)) c ≡ stored_on card (entry_store g (find_entry g c b) unused) c
unfolding evict_runs write_back flat single made_on
made_evict g fit c b = go (is_modified (entry_at g c (find_entry g c b)))
  where
    go : (t : Bool)
        → made_on card (flat (cond t (sectors g b (block_at g c (current_of g c b)) ∷ []) [] ++ single (entry_store g (find_entry g c b) unused))) c
        ≡ stored_on card (entry_store g (find_entry g c b) unused) c
    go true =
        let ss = (sectors g b (block_at g c (current_of g c b))).stores in
        made_append card ss (entry_store g (find_entry g c b) unused ∷ []) c
        ∙ ap (stored_on card (entry_store g (find_entry g c b) unused))
        (sectors_elsewhere g fit b (block_at g c (current_of g c b)) ss (λ m at n h. h) c)
    go false = refl

-- an entry in use is cleared: its block's bit is too, and no other
module _ {g : Geometry} {c : List ℕ} (w : Intact g c) (s : is_settled g c ≡ true) (i : ℕ) (l : i < g.blocks) (u : used_at g c i ≡ true) where
  ch : Changed g (entry i) c (stored_on card (entry_store g i unused) c)
  ch = entry_changed g c i unused l

  cleared_entry : entry_at g (stored_on card (entry_store g i unused) c) i ≡ unused
  cleared_entry = entry_stored g c i unused l w.sized (entry_fits 2 g w.good unused (unused_good 2 g.blocks g.disk))

  pub clear_own : geometry_of (stored_on card (entry_store g i unused) c) ≡ g
  clear_own = geometry_same c _ (header_kept ch (λ p q. omega arith)) ∙ w.own

  pub clear_marked : (d : ℕ) → d < 128 → is_marked g (stored_on card (entry_store g i unused) c) d ≡ is_marked g c d && not (eqb (entry_at g c i).current d)
  clear_marked d h =
      one_marked _ w i unused l (header_kept ch (λ p q. omega arith)) (λ j k n. entry_kept ch j k (λ p q. n (sym q)))
      cleared_entry s (settled_entry i s ch (ap has_log_role cleared_entry ∙ unused_role)) d h
      ∙ ap (λ (t : Bool). (is_marked g c d && not (used_at g c i && eqb (entry_at g c i).current d)) || (t && eqb 0 d)) unused-used
      ∙ cleared (is_marked g c d) (used_at g c i) (eqb (entry_at g c i).current d) u
    where
      cleared : (a b e : Bool) → b ≡ true → (a && not (b && e)) || false ≡ a && not e
      cleared a b e h = rw h (or_none (a && not e))

pub evict_map : (c d : List ℕ) (m : Map) (b : ℕ) (ch : List ℕ) → evict_refusal 2 c d m b ch ≡ 0
    → map_of (made_on card (flat (evict_runs (geometry_of c) c b)) c)
    ≡ map_by (λ x. is_marked (geometry_of c) c x && not (eqb (current_of (geometry_of c) c b) x))
unfolding evict_refusal current_of map_of
evict_map c d m b ch z =
    let g = geometry_of c in
    let (pair, more) = or_else_none (pair_refusal 2 c d) _ z in
    let own = (or_else_none (block_refusal g b) _ (or_else_none (choice_refusal g ch) _ (or_else_none (map_refusal c m) _ more).1).1).1 in
    let (w, s) = pair_sound c d pair in
    let k = cached_entry g c b (refuse_none 13 _ (omega arith) own) in
    let i = find_entry g c b in
    ap map_of (made_evict g (limits g w.good) c b)
    ∙ ap (λ (y : Geometry). map_by (is_marked y (stored_on card (entry_store g i unused) c))) (clear_own w s i k.below k.used)
    ∙ map_cong _ _ (clear_marked w s i k.below k.used)

-- ---- load

-- a bit set, and none cleared
put : (a b x e f : Bool) → b ≡ false → f ≡ true → (a && not (b && x)) || (f && e) ≡ a || e
put a b x e f p q = (λ t. (a && not (p t && x)) || (q t && e)) ∙ ap (λ (y : Bool). y || e) (and_true a)

pub load_map : (c d : List ℕ) (m : Map) (t : List ℕ) (b : ℕ) (ch : List ℕ) → load_refusal 2 c d m t b ch ≡ 0
    → map_of (made_on card (flat (load_runs (geometry_of c) c d b)) c)
    ≡ map_by (λ x. is_marked (geometry_of c) c x || eqb (new_block (geometry_of c) c 0) x)
unfolding load_refusal block_refusal room_for load_runs flat single clean_entry made_on
load_map c d m t b ch z =
    let g = geometry_of c in
    let (pair, more) = or_else_none (pair_refusal 2 c d) _ z in
    let asked = (or_else_none (table_refusal t) _ (or_else_none (map_refusal c m) _ more).1).1 in
    let (ten, own) = or_else_none (block_refusal g b) _ (or_else_none (choice_refusal g ch) _ asked).1 in
    let last = (or_else_none (refuse 12 (not (cached g c b))) _ own).1 in
    let room : 1 ≤ length (free_blocks g c) = leb-true _ _ (refuse_none 14 (leb 1 (length (free_blocks g c))) (omega arith) last) in
    let (w, s) = pair_sound c d pair in
    let v = lawful w s in
    let q = new_block g c 0 in
    let i = get_or (unused_entries g c) 0 0 in
    let bs = disk_block g d b in
    let e = entry_of 0x80 b FRESH q in
    let c₁ = made_on card (words g q bs).stores c in
    let free = new_below v 0 (omega arith) in
    let few : 0 < length (unused_entries g c) = omega (arith, enough_unused v) in
    let spare = unused_below v 0 few in
    let ch₁ = words_changed_all g (limits g w.good) q bs free c in
    let ch = entry_changed g c₁ i e spare in
    let good =
    used-good 2 g.blocks g.disk e
    (record { flag = clean refl; number_below = ltb-true _ _ (refuse_none 10 _ (omega arith) ten); current_below = free; previous_below = inr refl }) in
    let now = entry_stored g c₁ i e spare (ch₁.sized ∙ w.sized) (entry_fits 2 g w.good e good) in
    ap map_of (made_append card (words g q bs).stores (entry_store g i e ∷ []) c)
    ∙ one_entry _ w i e spare
    (header_kept ch (λ x y. omega arith) ∙ header_kept ch₁ (λ x y. omega arith))
    (λ j h n. entry_kept ch j h (λ x y. n (sym y)) ∙ entry_kept ch₁ j h (λ x y. omega arith))
    now s (settled_entry i (settled_block_lem q s ch₁) ch (ap has_log_role now ∙ clean_role b FRESH q))
    ∙ map_cong _ _
    (λ x l. put (is_marked g c x) (used_at g c i) (eqb (entry_at g c i).current x) (eqb q x) (in_use e) (unused_is v 0 few) (clean_used b FRESH q))

-- ---- commit

-- one of f's first n values is x
among : (ℕ → ℕ) → ℕ → ℕ → Bool
among f n x = any_below (λ j. eqb (f j) x) n

is_among_lem : (f : ℕ → ℕ) (n j x : ℕ) → j < n → f j ≡ x → among f n x ≡ true
unfolding among
is_among_lem f n j x l e = any_found (λ j. eqb (f j) x) n j l (eq-eqb _ _ e)

among_is : (f : ℕ → ℕ) (n x : ℕ) → among f n x ≡ true → (j : ℕ) × (j < n) × (f j ≡ x)
unfolding among
among_is f n x h = let (j, l, e) = any_witness (λ j. eqb (f j) x) n h in (j, l, eqb-true _ _ e)

module _ {g : Geometry} {row : ℕ → List ℕ} {c d : List ℕ} (ns bs : List ℕ) (w : Intact g c) (v : Inv g row c d) (p : CommitPassed g c ns bs) where
  abbrev after : List ℕ
  after = made_on card (flat (commit_runs g c ns bs)) c

  left : Entries ns bs v p after
  left = commit_entries ns bs v p

  -- the old block of a number whose entry was in use was that entry's current one
  old_current : (j : ℕ) → j < length ns → used_at g c (entry_found g c ns j) ≡ true → old_block g c ns j ≡ (entry_at g c (entry_found g c ns j)).current
  old_current j l u = go (entered ns bs v (puts ns bs v p) j l)
    where
      go : Entered ns bs v (puts ns bs v p) j → old_block g c ns j ≡ (entry_at g c (entry_found g c ns j)).current
      go (fresh h n e o) = absurd_bool u n
      go (again h e k q) = let r = ap kind_current q in let t = used_current g c (entry_found g c ns j) u in cc

  old_used : (j x : ℕ) → j < length ns → x < 128 → old_block g c ns j ≡ x → used_at g c (entry_found g c ns j) ≡ true
  old_used j x l b e = go (entered ns bs v (puts ns bs v p) j l)
    where
      go : Entered ns bs v (puts ns bs v p) j → used_at g c (entry_found g c ns j) ≡ true
      go (fresh h n q o) = absurd (omega arith)
      go (again h q k r) = k.used

  planned_current : (j : ℕ) → (switched (log_entry g c ns j)).current ≡ new_block g c j
  unfolding switched log_entry
  planned_current j = refl

  pub new_used : (j : ℕ) → j < length ns → (used_at g after (entry_found g c ns j) ≡ true) × ((entry_at g after (entry_found g c ns j)).current ≡ new_block g c j)
  unfolding used_at
  new_used j l = (
    ap in_use (left.planned j l) ∙ kept_used_of ns bs v p j,
    ap (λ (y : Entry). y.current) (left.planned j l) ∙ planned_current j,
  )

  commit_moves : Moves g c after (among (entry_found g c ns) (length ns)) (among (old_block g c ns) (length ns)) (among (new_block g c) (length ns))
  unfolding among
  commit_moves =
      record {
        own = geometry_is (commit_done ns bs v p).0;
        others = λ i l n. left.others i l (λ j h e. absurd_bool (is_among_lem (entry_found g c ns) (length ns) j i h e) n);
        gave = λ i l e u.
            let (j, h, q) = among_is (entry_found g c ns) (length ns) i e in
            is_among_lem (old_block g c ns) (length ns) j _ h
            (old_current j h (ap (used_at g c) q ∙ u) ∙ ap (λ (z : ℕ). (entry_at g c z).current) q);
        given = λ x b e.
            let (j, h, q) = among_is (old_block g c ns) (length ns) x e in
            let u = old_used j x h b q in
            (entry_found g c ns j, e_below ns bs v (puts ns bs v p) j h, is_among_lem (entry_found g c ns) (length ns) j _ h refl, (u, sym (old_current j h u) ∙ q));
        took = λ i l e u.
            let (j, h, q) = among_is (entry_found g c ns) (length ns) i e in
            is_among_lem (new_block g c) (length ns) j _ h (sym (new_used j h).1 ∙ ap (λ (z : ℕ). (entry_at g after z).current) q);
        taken = λ x b e.
            let (j, h, q) = among_is (new_block g c) (length ns) x e in
            let (u, k) = new_used j h in
            (entry_found g c ns j, e_below ns bs v (puts ns bs v p) j h, is_among_lem (entry_found g c ns) (length ns) j _ h refl, (u, k ∙ q));
      }

  -- no new block is an old one: that was an entry's, and this was free
  apart : (x : ℕ) → x < 128 → among (new_block g c) (length ns) x ≡ true → among (old_block g c ns) (length ns) x ≡ false
  apart x b e =
      ⊎_elim
      (λ o.
      let (j, h, q) = among_is (new_block g c) (length ns) x e in
      let (k, l, r) = among_is (old_block g c ns) (length ns) x o in
      let u = old_used k x l b r in
      absurd
      (q_free ns bs v (puts ns bs v p) j h (entry_found g c ns k) (e_below ns bs v (puts ns bs v p) k l)
      (used_current g c (entry_found g c ns k) u ∙ ap some (sym (old_current k l u) ∙ r ∙ sym q))))
      (λ o. o)
      (either (among (old_block g c ns) (length ns) x))

  -- set first and cleared then, or cleared first
  either_way : (a o n : Bool) → (n ≡ true → o ≡ false) → (a && not o) || n ≡ (a || n) && not o
  either_way true true true f = absurd_bool refl (f refl)
  either_way true true false f = refl
  either_way true false true f = refl
  either_way true false false f = refl
  either_way false true true f = absurd_bool refl (f refl)
  either_way false true false f = refl
  either_way false false true f = refl
  either_way false false false f = refl

  commit_leaves : map_of after
      ≡ map_by (λ x. (is_marked g c x || any_below (λ j. eqb (new_block g c j) x) (length ns)) && not (any_below (λ j. eqb (old_block g c ns j) x) (length ns)))
  unfolding among
  commit_leaves =
      map_moves w commit_moves p.settled (commit_done ns bs v p).1
      ∙ map_cong _ _ (λ x l. either_way (is_marked g c x) (among (old_block g c ns) (length ns) x) (among (new_block g c) (length ns) x) (apart x l))

pub commit_map : (c : List ℕ) (m : Map) (ns bs ch : List ℕ) → commit_refusal 2 c m ns bs ch ≡ 0
    → map_of (made_on card (flat (commit_runs (geometry_of c) c ns bs)) c)
    ≡ map_by (λ x.
    (is_marked (geometry_of c) c x || any_below (λ j. eqb (new_block (geometry_of c) c j) x) (length ns))
    && not (any_below (λ j. eqb (old_block (geometry_of c) c ns j) x) (length ns)))
unfolding commit_refusal
commit_map c m ns bs ch z =
    let g = geometry_of c in
    let (fit, more) = or_else_none (fit_refusal 2 2 c) _ z in
    let (w, s) = card_intact c fit (or_else_none (card_refusal g c) _ more).0 in
    let v = lawful w s in
    commit_leaves ns bs w v (commit_passed v 2 m ns bs ch z)

-- ---- recovery

-- what recovery makes of entry i of the card c
recovered : Geometry → List ℕ → ℕ → Entry
recovered g c i = cond (undoable_at g c i) (undone (version_of c) (entry_at g c i)) (entry_at g c i)

module _ {g : Geometry} {c : List ℕ} (w : Intact g c) where
  -- the first i entries are recovered, the others as they were
  record Undoing (i : ℕ) (c' : List ℕ) : Type 0 where
    sized : length c' ≡ length c
    header : part c' 0 64 ≡ part c 0 64
    heads : head_of c' ≡ head_of c
    tails : tail_of c' ≡ tail_of c
    done : (j : ℕ) → j < i → j < g.blocks → entry_at g c' j ≡ recovered g c j
    ahead : (j : ℕ) → i ≤ j → j < g.blocks → entry_at g c' j ≡ entry_at g c j

  fit : Fit g c
  fit = intact_fit w

  undoable_used : (i : ℕ) → undoable_at g c i ≡ true → used_at g c i ≡ true
  unfolding undoable_at
  undoable_used i u = and_left (used_at g c i) _ u

  -- nothing is stored where the entry stays
  passes : (i : ℕ) (c' : List ℕ) → Undoing i c' → (i < g.blocks → entry_at g c i ≡ recovered g c i) → Undoing (suc i) c'
  passes i c' x e =
      record {
        sized = x.sized;
        header = x.header;
        heads = x.heads;
        tails = x.tails;
        done = λ j h l.
            ⊎_elim
            (λ q. ap (entry_at g c') q ∙ x.ahead i (omega arith) (omega arith) ∙ e (omega arith) ∙ ap (recovered g c) (sym q))
            (λ k. x.done j k l)
            (last_or_before j i h);
        ahead = λ j h l. x.ahead j (omega arith) l;
      }

  stores : (i : ℕ) (c' : List ℕ) → i < g.blocks → undoable_at g c i ≡ true → Undoing i c'
      → Undoing (suc i) (stored_on card (entry_store g i (undone (version_of c) (entry_at g c i))) c')
  unfolding recovered
  stores i c' l u x =
      let e = undone (version_of c) (entry_at g c i) in
      let ch = entry_changed g c' i e l in
      let now = entry_stored g c' i e l (x.sized ∙ w.sized) (fits_undone fit i l u) in
      record {
        sized = ch.sized ∙ x.sized;
        header = header_kept ch (λ p q. omega arith) ∙ x.header;
        heads = head_kept ch (λ p q. omega arith) ∙ x.heads;
        tails = tail_kept ch (λ p q. omega arith) ∙ x.tails;
        done = λ j h k.
            ⊎_elim
            (λ q. ap (entry_at g _) q ∙ now ∙ sym (ap (λ (b : Bool). cond b e (entry_at g c i)) u) ∙ ap (recovered g c) (sym q))
            (λ b. entry_kept ch j k (λ p q. omega arith) ∙ x.done j b k)
            (last_or_before j i h);
        ahead = λ j h k. entry_kept ch j k (λ p q. omega arith) ∙ x.ahead j (omega arith) k;
      }

  turn : (i : ℕ) (c' : List ℕ) → i < g.blocks → Undoing i c' → Undoing (suc i) (made_on card (flat (undo_runs g c i)) c')
  unfolding undo_runs if_changing flat single made_on recovered entry_store
  turn i c' l x = go (undoable_at g c i) refl (same_bytes (part c (entry_place g i) (length (entry_bytes (undone (version_of c) (entry_at g c i))))) (entry_bytes (undone (version_of c) (entry_at g c i)))) refl
    where
      go : (u : Bool) → undoable_at g c i ≡ u → (t : Bool) → same_bytes (part c (entry_place g i) (length (entry_bytes (undone (version_of c) (entry_at g c i))))) (entry_bytes (undone (version_of c) (entry_at g c i))) ≡ t
          → Undoing (suc i) (made_on card (flat (cond u (cond t [] (single (entry_store g i (undone (version_of c) (entry_at g c i))))) [])) c')
      go false u t q = passes i c' x (λ l. sym (ap (λ (b : Bool). cond b (undone (version_of c) (entry_at g c i)) (entry_at g c i)) u))
      go true u true q =
          passes i c' x (λ l. stands fit i l u (same_bytes_lem _ _ q) ∙ sym (ap (λ (b : Bool). cond b (undone (version_of c) (entry_at g c i)) (entry_at g c i)) u))
      go true u false q = stores i c' l u x

  turns : (i : ℕ) → i ≤ g.blocks → Undoing i (made_on card (flat (each_below (undo_runs g c) i)) c)
  unfolding each_below flat made_on
  turns zero l = record { sized = refl; header = refl; heads = refl; tails = refl; done = λ j h k. absurd (omega arith); ahead = λ j h k. refl }
  turns (suc i) l =
      subst (Undoing (suc i))
      (sym (made_runs card (each_below (undo_runs g c) i) (undo_runs g c i) c))
      (turn i _ (omega arith) (turns i (omega arith)))

  -- all entries are recovered, and Tail stands at Head
  record Ended (c' : List ℕ) : Type 0 where
    header : part c' 0 64 ≡ part c 0 64
    ring : head_of c' ≡ tail_of c'
    done : (j : ℕ) → j < g.blocks → entry_at g c' j ≡ recovered g c j

  -- Tail's store, made or left out, touches no entry
  tail_too : (c' : List ℕ) → Undoing g.blocks c' → Ended (made_on card (flat (if_changing c (tail_store (head_of c)))) c')
  unfolding if_changing flat single made_on
  tail_too c' x = go (same_bytes (part c (tail_store (head_of c)).place (length (tail_store (head_of c)).bytes)) (tail_store (head_of c)).bytes) refl
    where
      small : head_of c < 65536 + 65536
      small = let f : Limits g = limits g w.good in omega (arith, w.head)

      go : (t : Bool) → same_bytes (part c (tail_store (head_of c)).place (length (tail_store (head_of c)).bytes)) (tail_store (head_of c)).bytes ≡ t
          → Ended (made_on card (flat (cond t [] (single (tail_store (head_of c))))) c')
      go true e =
          record {
            header = x.header;
            ring = x.heads ∙ sym (x.tails ∙ tail_stands c (head_of c) small (same_bytes_lem _ _ e));
            done = λ j k. x.done j k k;
          }
      go false e =
          let ch = tail_changed g c' (head_of c) in
          record {
            header = header_kept ch (λ p q. omega arith) ∙ x.header;
            ring = head_kept ch (λ p q. omega arith) ∙ x.heads ∙ sym (tail_stored g c' (head_of c) (x.sized ∙ w.sized) small);
            done = λ j k. entry_kept ch j k (λ p q. omega arith) ∙ x.done j k k;
          }

  all_done : Ended (made_on card (flat (recover_runs g c)) c)
  unfolding recover_runs
  all_done =
      subst Ended (sym (made_runs card (each_below (undo_runs g c) g.blocks) (if_changing c (tail_store (head_of c))) c))
      (tail_too _ (turns g.blocks (omega arith)))

  -- no entry has R then
  quiet : (i : ℕ) → i < g.blocks → has_log_role (recovered g c i) ≡ false
  unfolding recovered undoable_at used_at
  quiet i l = go (either (undoable_at g c i))
    where
      e : Entry
      e = entry_at g c i

      none : undoable_at g c i ≡ false → has_log_role e ≡ false
      none u =
          ⊎_elim
          (λ n. (or_false (has_log_role e) (in_window g c e.number) (sym (ap (λ (b : Bool). b && (has_log_role e || in_window g c e.number)) n) ∙ u)).0)
          (λ n. ap has_log_role (not-used_blank (version_of c) g.blocks g.disk e (good_at fit i l) n) ∙ unused_role)
          (either (in_use e))

      go : (undoable_at g c i ≡ true) ⊎ (undoable_at g c i ≡ false) → has_log_role (cond (undoable_at g c i) (undone (version_of c) e) e) ≡ false
      go (inl u) = ap (λ (b : Bool). has_log_role (cond b (undone (version_of c) e) e)) u ∙ undone_role e (cases fit i l u)
      go (inr u) = ap (λ (b : Bool). has_log_role (cond b (undone (version_of c) e) e)) u ∙ none u

  pub recovered_settled : is_settled g (made_on card (flat (recover_runs g c)) c) ≡ true
  recovered_settled = settled_by g _ all_done.ring (λ i l. ap has_log_role (all_done.done i l) ∙ quiet i l)

  -- an undoable entry's previous block is its current one then, if it has one
  undone_has : (i : ℕ) (e : Entry) → i < g.blocks → undoable_at g c i ≡ true → e ≡ undone (version_of c) (entry_at g c i)
      → (in_use e ≡ true → e.current ≡ (entry_at g c i).previous)
      × ((x : ℕ) → x < 128 → (entry_at g c i).previous ≡ x → (in_use e ≡ true) × (e.current ≡ x))
  undone_has i e l u q = go (cases fit i l u)
    where
      go : Undone (version_of c) g.blocks g.disk (entry_at g c i)
          → (in_use e ≡ true → e.current ≡ (entry_at g c i).previous)
          × ((x : ℕ) → x < 128 → (entry_at g c i).previous ≡ x → (in_use e ≡ true) × (e.current ≡ x))
      go (emptied f h) = (λ n. absurd_bool n (ap in_use (q ∙ h) ∙ unused-used), λ x b p. absurd (omega arith))
      go (restored m f h) = (
        λ n. ap (λ (y : Entry). y.current) (q ∙ h),
        λ x b p. (ap in_use (q ∙ h) ∙ back_used (version_of c) (entry_at g c i) _ _ _, ap (λ (y : Entry). y.current) (q ∙ h) ∙ p),
      )

  -- the entries that change: of the undoable ones at least those that are not undone already
  module _ (changed : ℕ → Bool) (only : (i : ℕ) → i < g.blocks → changed i ≡ true → undoable_at g c i ≡ true)
      (all : (i : ℕ) → i < g.blocks → changed i ≡ false → undoable_at g c i ≡ true → undone (version_of c) (entry_at g c i) ≡ entry_at g c i) where
    abbrev gone : ℕ → Bool
    gone x = any_below (λ i. changed i && eqb (entry_at g c i).current x) g.blocks

    abbrev come : ℕ → Bool
    come x = any_below (λ i. changed i && eqb (entry_at g c i).previous x) g.blocks

    stays : (i : ℕ) → i < g.blocks → changed i ≡ false → recovered g c i ≡ entry_at g c i
    unfolding recovered
    stays i l n = ⊎_elim
        (λ u. ap (λ (b : Bool). cond b (undone (version_of c) (entry_at g c i)) (entry_at g c i)) u ∙ all i l n u)
        (λ u. ap (λ (b : Bool). cond b (undone (version_of c) (entry_at g c i)) (entry_at g c i)) u)
        (either (undoable_at g c i))

    becomes : (i : ℕ) (e : Entry) → i < g.blocks → changed i ≡ true → e ≡ recovered g c i → e ≡ undone (version_of c) (entry_at g c i)
    unfolding recovered
    becomes i e l h q = q ∙ ap (λ (b : Bool). cond b (undone (version_of c) (entry_at g c i)) (entry_at g c i)) (only i l h)

    recover_moves : Moves g c (made_on card (flat (recover_runs g c)) c) changed gone come
    unfolding used_at
    recover_moves =
        let x = all_done in
        record {
          own = geometry_same c _ x.header ∙ w.own;
          others = λ i l n. x.done i l ∙ stays i l n;
          gave = λ i l h n. any_found _ g.blocks i l (and_both h (eq-eqb (entry_at g c i).current (entry_at g c i).current refl));
          given = λ d b e.
              let (i, l, h) = any_witness (λ i. changed i && eqb (entry_at g c i).current d) g.blocks e in
              let k = and_left (changed i) _ h in
              (i, l, k, (undoable_used i (only i l k), eqb-true _ _ (and_right (changed i) _ h)));
          took = λ i l h n.
              let q = becomes i _ l h (x.done i l) in
              any_found _ g.blocks i l (and_both h (eq-eqb _ _ (sym ((undone_has i _ l (only i l h) q).0 n))));
          taken = λ d b e.
              let (i, l, h) = any_witness (λ i. changed i && eqb (entry_at g c i).previous d) g.blocks e in
              let k = and_left (changed i) _ h in
              let q = becomes i _ l k (x.done i l) in
              (i, l, k, (undone_has i _ l (only i l k) q).1 d b (eqb-true _ _ (and_right (changed i) _ h)));
        }

    recover_leaves : map_of (made_on card (flat (recover_runs g c)) c) ≡ map_by (λ x. (is_marked g c x && not (gone x)) || come x)
    unfolding map_of previous_is current_is used_at
    recover_leaves =
        ap (λ (y : Geometry). map_by (is_marked y (made_on card (flat (recover_runs g c)) c))) recover_moves.own
        ∙ map_cong _ _ (λ x l. settled_marked g _ recovered_settled x ∙ marked_is w recover_moves x l ∙ more x l)
      where
        -- an undoable entry's previous block is taken by a changed one, or it is its current block already
        kept : (x i : ℕ) → x < g.blocks → i < g.blocks → previous_is g c x i ≡ true → current_marked g c x || come x ≡ true
        kept x i lx l h =
            let u = and_left (undoable_at g c i) _ h in
            let p : (entry_at g c i).previous ≡ x = eqb-true _ _ (and_right (undoable_at g c i) _ h) in
            let f : Limits g = limits g w.good in
            ⊎_elim
            (λ k. or_right (current_marked g c x) _ (any_found _ g.blocks i l (and_both k (eq-eqb _ _ p))))
            (λ k.
            let (n, q) = (undone_has i _ l u (sym (all i l k u))).1 x (omega arith) p in
            or_left (current_marked g c x) _ (current_marked_lem g c x lx ∙ any_found (current_is g c x) g.blocks i l (has_current n q)))
            (either (changed i))
          where
            has_current : in_use (entry_at g c i) ≡ true → (entry_at g c i).current ≡ x → current_is g c x i ≡ true
            has_current n q = and_both n (eq-eqb _ _ q)

        -- one bit more, where it is set anyway
        one_more : (a p g k : Bool) → (p ≡ true → a || k ≡ true) → (a && not g) || k ≡ ((a || p) && not g) || k
        one_more true p g k f = refl
        one_more false true g k f = f refl ∙ sym (or_right (not g) _ (f refl))
        one_more false false g k f = refl

        more : (x : ℕ) → x < 128 → (current_marked g c x && not (gone x)) || come x ≡ (is_marked g c x && not (gone x)) || come x
        more x l =
            one_more (current_marked g c x) (ltb x g.blocks && any_below (previous_is g c x) g.blocks) (gone x) (come x)
            (λ h.
            let (i, li, e) = any_witness (previous_is g c x) g.blocks (and_right (ltb x g.blocks) _ h) in
            kept x i (ltb-true _ _ (and_left (ltb x g.blocks) _ h)) li e)
            ∙ ap (λ (b : Bool). (b && not (gone x)) || come x) (sym (marked_either g c x))

module _ (c : List ℕ) (m : Map) (z : recover_refusal 2 c m ≡ 0) (changed : ℕ → Bool)
    (only : (i : ℕ) → i < (geometry_of c).blocks → changed i ≡ true → undoable_at (geometry_of c) c i ≡ true)
    (all : (i : ℕ) → i < (geometry_of c).blocks → changed i ≡ false → undoable_at (geometry_of c) c i ≡ true
    → undone (version_of c) (entry_at (geometry_of c) c i) ≡ entry_at (geometry_of c) c i) where
  pub recover_map : map_of (made_on card (flat (recover_runs (geometry_of c) c)) c)
      ≡ map_by (λ x.
      (is_marked (geometry_of c) c x && not (any_below (λ i. changed i && eqb (entry_at (geometry_of c) c i).current x) (geometry_of c).blocks))
      || any_below (λ i. changed i && eqb (entry_at (geometry_of c) c i).previous x) (geometry_of c).blocks)
  unfolding recover_refusal make_refusal
  recover_map =
      let (fit, damage) = or_else_none (fit_refusal 1 2 c) _ (or_else_none (make_refusal 2 c) _ z).0 in
      recover_leaves (intact 1 2 c (omega arith) (omega arith) fit damage) changed only all
