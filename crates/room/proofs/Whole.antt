-- A whole room-making commit: the evictions are the definition's, the card that they leave is the one that the commit is planned on, and its answer,
-- the map, the table and both media are the definition's, cut in the evictions, cut in the commit, or done. Assumes nothing.
use Prim.Native.Nat.{ℕ, zero, suc, ◌+◌, ◌*◌, ◌-◌, ◌/◌, ◌≤◌, ◌<◌, min}
use mathlib.Core.List.{List, ◌++◌}
use mathlib.Core.Bool.{Bool, true, false, not, cond, ◌&&◌}
use mathlib.Core.Path.{◌≡◌, refl, sym, ap, subst, ◌∙◌}
use mathlib.Core.Logic.{◌⊎◌, inl, inr, ⊎_elim}
use native.Mathlib.Nat.{mul-le-mul}
use native.Mathlib.Omega.{arith}
use lib.ListN.{length, get_or, length-append}
use lib.Dec.{eqb, ltb, leb}
use borrow.Author.Tests.{eqb-true, eq-eqb, lt-ltb, le-ltb, leb-true}
use Rattle.protocol.specs.declared.Answer.{Answer}
use Rattle.protocol.specs.declared.Answer.TheVariants.{Done, Cut}
use Rattle.protocol.specs.declared.Entry.{Entry}
use Rattle.protocol.specs.declared.Geometry.{Geometry}
use Rattle.protocol.specs.declared.Map.{Map}
use Rattle.protocol.specs.declared.Stored.{Stored}
use Rattle.protocol.specs.Layout.{geometry_of, block_size}
use Rattle.protocol.specs.Entry.{entry_at, is_modified}
use Rattle.protocol.specs.Ring.{head_of, is_settled, find_entry, cached, current_of}
use Rattle.protocol.specs.Check.{refuse, fit_refusal, disk_fits, disk_refusal, choice_fits}
use Rattle.protocol.specs.Store.{Medium, card, disk, Store, Run, Work, made_on, flat, made, stores_of, answer_of, after_on}
use Rattle.protocol.specs.Map.{map_by, is_marked, map_of, map_refusal, same_map, handed_on, map_after}
use Rattle.protocol.specs.Commit.{number_of, uncached_at, entry_found, old_block, over_modified, commit_runs, commit_refusal, commit_work}
use Rattle.protocol.specs.Recency.{is_arranged, to_front, all_to_front, turned}
use Rattle.protocol.specs.Load.{pair_refusal}
use Rattle.protocol.specs.Room.{victims, missing, room_runs, room_left, room_refusal, room_work, table_after_save}
use Rattle.protocol.proofs.Below.{and_left, below_or_above, any_cong}
use Rattle.protocol.proofs.Checks.{Limits, limits, or_else_none, refuse_none}
use Rattle.protocol.proofs.Blocks.{e_apart}
use Rattle.protocol.proofs.Committed.{puts}
use Rattle.protocol.proofs.Lawful.{Intact, intact, lawful}
use Rattle.protocol.proofs.Passed.{RoomPassed, room_passed}
use Rattle.protocol.proofs.Room.{room_enough, room_left_lem, room_commits, room_geometry, room_head, room_finds, room_entry, room_commit, room_map}
use Rattle.protocol.proofs.Stores.{made_append, flat_append, runs_past, runs_within}
use Rattle.protocol.proofs.Words.{map_cong}
use Rattle.checks.specs.Keys.{key_at}
use Rattle.recency.specs.Moved.{Places}
use Rattle.plan.specs.Planned.{previous_of, released, home_at, NOWHERE, Homes}
use Rattle.plan.proofs.Bounds.{Passed, passed, few_numbers, entry_below}
use Rattle.plan.proofs.Count.{runs_count}
use Rattle.protocol.proofs.Maps.{map_eq}
use Rattle.stores.proofs.Laws.{did_all}
use Rattle.commit.specs.Committed.{Savable, Saved}
use Rattle.transfer.specs.Moved.{Both, Finished}
use Rattle.transfer.proofs.Moving.{credit_made}
use Rattle.room.specs.declared.Making.{Making}
use Rattle.room.specs.Made.{taken_runs, Clearing, Weighed, Makeable, counted}
use Rattle.room.proofs.Clearing.{clear_few, taken_is}
use Rattle.room.proofs.Elsewhere.{commit_elsewhere}

-- ---- a call that is not refused

module _ (w : Work) (a : ℕ) (z : w.refusal ≡ 0) where
  goes : (k : Medium) (xs : List ℕ) → after_on k a w xs ≡ made_on k (made a w.choice w.runs) xs
  unfolding after_on
  goes k xs = rw (eq-eqb w.refusal 0 z)

  cut_is : a < length (flat w.runs) → answer_of a w ≡ Cut
  unfolding answer_of stores_of
  cut_is l = rw (eq-eqb w.refusal 0 z, lt-ltb a (length (flat w.runs)) l)

  done_is : length (flat w.runs) ≤ a → answer_of a w ≡ Done (length (flat w.runs))
  unfolding answer_of stores_of
  done_is l = rw (eq-eqb w.refusal 0 z, le-ltb a (length (flat w.runs)) l)

all_same : (f h : ℕ → ℕ) (n : ℕ) (t : List ℕ) → ((i : ℕ) → i < n → f i ≡ h i) → all_to_front f n t ≡ all_to_front h n t
unfolding all_to_front
all_same f h zero t e = refl
all_same f h (suc n) t e = λ i. to_front (e n (omega arith) i) (all_same f h n t (λ j l. e j (omega arith)) i)

module _ (c d : List ℕ) (m : Map) (t ns bs ch es ps vs : List ℕ) (p : Making) (v : Makeable c d m t ns bs ch es ps vs p) where
  abbrev g : Geometry
  g = geometry_of c

  abbrev c' : List ℕ
  c' = room_left g c t ns

  -- its work, its evictions, and the commit behind them
  abbrev work : Work
  work = room_work 2 c d m t ns bs ch

  abbrev rs : List Run
  rs = room_runs g c t ns

  abbrev qs : List Run
  qs = commit_runs g c' ns bs

  -- ---- what was passed

  has_passed : RoomPassed 2 g c t ns bs ch
  has_passed = room_passed 2 c d m t ns bs ch v.passes

  whole : Intact g c
  whole = intact 2 2 c (omega arith) (omega arith) has_passed.fit has_passed.undamaged

  own_map : m ≡ map_by (is_marked g c)
  unfolding room_refusal map_refusal map_of
  own_map =
      let rest = (or_else_none (pair_refusal 2 c d) _ v.passes).1 in
      map_eq _ _ (refuse_none 15 _ (omega arith) (or_else_none (refuse 15 (same_map m (map_by (is_marked g c)))) _ rest).0)

  clearing : Clearing g c d ch vs (missing g c ns)
  unfolding room_refusal pair_refusal disk_refusal disk_fits choice_fits
  clearing =
      let pair = (or_else_none (pair_refusal 2 c d) _ v.passes).0 in
      let (three, seven) = or_else_none (disk_refusal g d) _ (or_else_none (fit_refusal 2 2 c) _ pair).1 in
      record {
        table = t;
        numbers = ns;
        own = refl;
        fit = has_passed.fit;
        whole = seven;
        arranged = has_passed.arranged;
        enough = room_enough t ns bs ch whole has_passed;
        places = v.places;
        disk = eqb-true _ _ (refuse_none 3 (disk_fits g d) (omega arith) three);
        wide = leb-true _ _ (and_left (leb (block_size g / 8) (length ch)) _ has_passed.saves.chosen);
      }

  pub make_clearing : Clearing p.geometry c d ch vs p.count
  make_clearing =
      subst (λ (y : Geometry). Clearing y c d ch vs p.count) (sym v.geometry_is) (subst (Clearing g c d ch vs) (sym v.count) clearing)

  pub make_few : p.count ≤ 128
  make_few = clear_few p.geometry c d ch vs p.count make_clearing

  taken_room : taken_runs p.geometry c vs p.count ≡ rs
  unfolding room_runs clearing
  taken_room =
      (λ i. taken_runs (v.geometry_is i) c vs (v.count i)) ∙ taken_is g c d ch vs (missing g c ns) clearing (missing g c ns) (omega arith)

  runs_are : work.runs ≡ rs ++ qs
  unfolding room_work
  runs_are = refl

  none : work.refusal ≡ 0
  unfolding room_work
  none = v.passes

  stores_are : length (flat work.runs) ≡ length (flat rs) + length (flat qs)
  stores_are = ap (λ (x : List Run). length (flat x)) runs_are ∙ ap length (flat_append rs qs) ∙ length-append (flat rs) (flat qs)

  made_are : (k : Medium) (a : ℕ) (xs : List ℕ) → after_on k a work xs ≡ made_on k (made a ch (rs ++ qs)) xs
  unfolding room_work
  made_are k a xs = goes work a none k xs

  module _ (fs : List ℕ) (n : ℕ) (x : Weighed p.geometry c vs p.count fs n) where
    count_is : n ≡ length (flat rs)
    count_is = x.stores ∙ ap (λ (r : List Run). length (flat r)) taken_room

    pub make_short : n < 18446744073709551615
    make_short = omega (arith, x.most, make_few)

    module _ (a k r : ℕ) (e : k ≡ min n a + 1) (c₁ d₁ : List ℕ) (y : Both (taken_runs p.geometry c vs p.count) ch k c c₁ d d₁ r) where
      -- ---- cut in the evictions

      pub make_cut : a < n → (u : Stored) → (u.answer ≡ Cut) × (u.map ≡ handed_on Cut m m)
          → Finished work a m c c₁ d d₁ u × (t ≡ table_after_save a c d m t ns bs ch)
      unfolding handed_on map_after table_after_save turned
      make_cut l u h =
          let q : answer_of a work ≡ Cut = cut_is work a none (omega (arith, count_is, stores_are)) in
          let within : made a ch (rs ++ qs) ≡ made a ch rs = runs_within a ch rs qs (omega (arith, count_is)) in (
            record {
              answer = h.0 ∙ sym q;
              map = h.1 ∙ sym (ap (λ (y : Answer). handed_on y m (map_of (after_on card a work c))) q);
              card =
                  credit_made card _ ch n a k c c₁ r x.stores e y.card
                  ∙ ap (λ (z : List Run). made_on card (made a ch z) c) taken_room
                  ∙ sym (made_are card a c ∙ ap (λ (ss : List Store). made_on card ss c) within);
              disk =
                  credit_made disk _ ch n a k d d₁ r x.stores e y.disk
                  ∙ ap (λ (z : List Run). made_on disk (made a ch z) d) taken_room
                  ∙ sym (made_are disk a d ∙ ap (λ (ss : List Store). made_on disk ss d) within);
            },
            sym (ap (λ (y : Answer). turned y t (all_to_front (entry_found g c' ns) (length ns) t)) q),
          )

      -- ---- all evictions made

      module _ (l : n ≤ a) where
        left_over : r ≡ 0 → ⊥
        left_over z = omega (arith, y.card.left, x.stores)

        card_left : c₁ ≡ c'
        unfolding room_left
        card_left = did_all y.card left_over ∙ ap (λ (z : List Run). made_on card (flat z) c) taken_room

        disk_left : d₁ ≡ made_on disk (flat rs) d
        disk_left = did_all y.disk left_over ∙ ap (λ (z : List Run). made_on disk (flat z) d) taken_room

        module _ (left : Map) (z : (q : ℕ → Bool) → m ≡ map_by q → left ≡ map_by (released q fs p.count)) where
          freed_is : (i : ℕ) → i < missing g c ns → previous_of (get_or fs i 0) ≡ (entry_at g c (get_or (victims g c t ns) i 0)).current
          freed_is i h =
              x.freed i (subst (λ (b : ℕ). i < b) (sym v.count) h)
              ∙ (λ j. (entry_at (v.geometry_is j) c (v.places i h j)).current)

          left_is : left ≡ map_of c'
          unfolding released
          left_is =
              z (is_marked g c) own_map
              ∙ ap (λ (b : ℕ). map_by (released (is_marked g c) fs b)) v.count
              ∙ map_cong _ _
              (λ b h. ap (λ (o : Bool). is_marked g c b && not o)
              (any_cong _ _ (missing g c ns) (λ i k. ap (λ (q : ℕ). eqb q b) (freed_is i k))))
              ∙ sym (room_map c d m t ns bs ch v.passes)

          -- the numbers are cached where they were
          found_is : (i : ℕ) → i < length ns → find_entry g c' (number_of ns i) ≡ find_entry g c (number_of ns i)
          found_is = room_finds c d m t ns bs ch v.passes

          -- by the same entries, or not at all
          entry_is : (i : ℕ) → i < length ns
              → ((cached g c (number_of ns i) ≡ true) × (cached g c' (number_of ns i) ≡ true)
              × (entry_at g c (find_entry g c (number_of ns i)) ≡ entry_at g c' (find_entry g c' (number_of ns i))))
              ⊎ ((cached g c (number_of ns i) ≡ false) × (cached g c' (number_of ns i) ≡ false))
          unfolding cached
          entry_is i h =
              let same : ltb (find_entry g c' (number_of ns i)) g.blocks ≡ ltb (find_entry g c (number_of ns i)) g.blocks =
              ap (λ (q : ℕ). ltb q g.blocks) (found_is i h) in
              ⊎_elim
              (λ b.
              inl (lt-ltb _ _ b, same ∙ lt-ltb _ _ b, sym (room_entry c d m t ns bs ch v.passes i h b) ∙ ap (entry_at g c') (sym (found_is i h))))
              (λ b. inr (le-ltb _ _ b, same ∙ le-ltb _ _ b))
              (below_or_above (find_entry g c (number_of ns i)) g.blocks)

          homes_left : Homes g c' ns es ps
          unfolding home_at cached old_block uncached_at over_modified current_of key_at
          homes_left = record {
            entries = λ i h.
                v.homes.entries i h ∙ (λ j. cond (ltb (sym (found_is i h) j) g.blocks) (sym (found_is i h) j) NOWHERE);
            replaced = record {
              previous = λ i h.
                  v.homes.replaced.previous i h
                  ∙ ⊎_elim (λ b. rw (b.0, b.1) (ap (λ (u : Entry). u.current) b.2)) (λ b. rw (b.0, b.1)) (entry_is i h);
              over = λ i h.
                  v.homes.replaced.over i h ∙ ⊎_elim (λ b. rw (b.0, b.1) (ap is_modified b.2)) (λ b. rw (b.0, b.1)) (entry_is i h);
            };
            long = v.homes.long;
          }

          own_left : p.geometry ≡ geometry_of c₁
          own_left = v.geometry_is ∙ sym (room_geometry c d m t ns bs ch v.passes) ∙ ap geometry_of (sym card_left)

          pub make_savable : Savable p.geometry c₁ p.head left ns bs ch es ps
          make_savable = record {
            own = own_left;
            head = v.head_is ∙ sym (room_head c d m t ns bs ch v.passes) ∙ ap head_of (sym card_left);
            passes = (λ i. commit_refusal 2 (card_left i) (left_is i) ns bs ch) ∙ room_commit c d m t ns bs ch v.passes;
            homes =
                subst (λ (b : List ℕ). Homes p.geometry b ns es ps) (sym card_left)
                (subst (λ (b : Geometry). Homes b c' ns es ps) (sym v.geometry_is) homes_left);
          }

          -- ---- the commit behind them

          module _ (s : Stored) (c₂ es' : List ℕ) (w : Saved c₁ left ns bs ch (a - n) s c₂ es') where
            entries_are : (i : ℕ) → i < length ns → get_or es' i 0 ≡ entry_found g c' ns i
            unfolding key_at
            entries_are i h = w.entries i h ∙ (λ j. entry_found ((sym own_left ∙ v.geometry_is) j) (card_left j) ns i)

            saving : Work
            saving = commit_work 2 c₁ left ns bs ch

            save_none : saving.refusal ≡ 0
            unfolding saving commit_work
            save_none = make_savable.passes

            save_runs : saving.runs ≡ qs
            unfolding saving commit_work
            save_runs = λ i. commit_runs ((sym own_left ∙ v.geometry_is) i) (card_left i) ns bs

            save_stores : length (flat saving.runs) ≡ length (flat qs)
            save_stores = ap (λ (b : List Run). length (flat b)) save_runs

            -- the card and the disk as they are left
            card_done : c₂ ≡ after_on card a work c
            unfolding saving commit_work room_left
            card_done =
                w.committed.leaves
                ∙ goes saving (a - n) save_none card c₁
                ∙ (λ i. made_on card (made (a - count_is i) ch (save_runs i)) (card_left i))
                ∙ sym
                (made_are card a c
                ∙ ap (λ (ss : List Store). made_on card ss c) (runs_past a ch rs qs (omega (arith, count_is)))
                ∙ made_append card (flat rs) (made (a - length (flat rs)) ch qs) c)

            disk_done : d₁ ≡ after_on disk a work d
            disk_done =
                disk_left
                ∙ sym
                (made_are disk a d
                ∙ ap (λ (ss : List Store). made_on disk ss d) (runs_past a ch rs qs (omega (arith, count_is)))
                ∙ made_append disk (flat rs) (made (a - length (flat rs)) ch qs) d
                ∙ commit_elsewhere g c' ns bs (a - length (flat rs)) ch (made_on disk (flat rs) d))

            table_done : all_to_front (λ i. get_or es' i 0) (length ns) t ≡ all_to_front (entry_found g c' ns) (length ns) t
            table_done = all_same _ _ (length ns) t entries_are

            ends : (u : Stored) (t' : List ℕ) → u.answer ≡ answer_of a work → u.map ≡ map_after a work c m → t' ≡ table_after_save a c d m t ns bs ch
                → Finished work a m c c₂ d d₁ u × (t' ≡ table_after_save a c d m t ns bs ch)
            ends u t' f h k = (record { answer = f; map = h; card = card_done; disk = disk_done }, k)

            pub make_done : (u : Stored) (t' : List ℕ) → (u.answer ≡ counted n s.answer) × (u.map ≡ handed_on s.answer m s.map)
                → t' ≡ turned s.answer t (all_to_front (λ i. get_or es' i 0) (length ns) t)
                → Finished work a m c c₂ d d₁ u × (t' ≡ table_after_save a c d m t ns bs ch)
            unfolding counted handed_on turned map_after table_after_save saving
            make_done u t' h k = go (below_or_above (a - n) (length (flat qs)))
              where
                go : (a - n < length (flat qs)) ⊎ (length (flat qs) ≤ a - n) → Finished work a m c c₂ d d₁ u × (t' ≡ table_after_save a c d m t ns bs ch)
                go (inl b) =
                    let f : s.answer ≡ Cut = w.committed.answers ∙ cut_is saving (a - n) save_none (omega (arith, save_stores)) in
                    let q : answer_of a work ≡ Cut = cut_is work a none (omega (arith, stores_are, count_is)) in
                    ends u t'
                    (h.0 ∙ ap (counted n) f ∙ sym q)
                    (h.1 ∙ ap (λ (y : Answer). handed_on y m s.map) f ∙ sym (ap (λ (y : Answer). handed_on y m (map_of (after_on card a work c))) q))
                    (k
                    ∙ ap (λ (y : Answer). turned y t (all_to_front (λ i. get_or es' i 0) (length ns) t)) f
                    ∙ sym (ap (λ (y : Answer). turned y t (all_to_front (entry_found g c' ns) (length ns) t)) q))
                go (inr b) =
                    let o : answer_of (a - n) saving ≡ Done (length (flat saving.runs)) = done_is saving (a - n) save_none (omega (arith, save_stores)) in
                    let f : s.answer ≡ Done (length (flat saving.runs)) = w.committed.answers ∙ o in
                    let q : answer_of a work ≡ Done (length (flat work.runs)) = done_is work a none (omega (arith, stores_are, count_is)) in
                    let total : n + length (flat saving.runs) ≡ length (flat work.runs) = omega (arith, stores_are, count_is, save_stores) in
                    ends u t'
                    (h.0 ∙ ap (counted n) f ∙ ap Done total ∙ sym q)
                    (h.1
                    ∙ ap (λ (y : Answer). handed_on y m s.map) f
                    ∙ w.committed.hands
                    ∙ ap (λ (y : Answer). handed_on y left (map_of (after_on card (a - n) saving c₁))) o
                    ∙ ap map_of (sym w.committed.leaves ∙ card_done)
                    ∙ sym (ap (λ (y : Answer). handed_on y m (map_of (after_on card a work c))) q))
                    (k
                    ∙ ap (λ (y : Answer). turned y t (all_to_front (λ i. get_or es' i 0) (length ns) t)) f
                    ∙ table_done
                    ∙ sym (ap (λ (y : Answer). turned y t (all_to_front (entry_found g c' ns) (length ns) t)) q))

            -- what moving the entries needs
            pub make_places : (is_arranged t ≡ true) × (length ns ≤ 128) × Places es' (length ns)
                × ((k : ℕ) → s.answer ≡ Done k → n + k < 18446744073709551616)
            unfolding saving
            make_places = (has_passed.arranged, few, placed, small)
              where
                past : RoomPassed 2 g c t ns bs ch
                past = has_passed

                fine : Passed g c' ns bs
                fine =
                    subst (λ (b : Geometry). Passed b c' ns bs) (room_geometry c d m t ns bs ch v.passes)
                    (passed c' (map_of c') ns bs ch (room_commit c d m t ns bs ch v.passes))

                few : length ns ≤ 128
                few = few_numbers fine

                lies : Intact g c'
                lies = (room_left_lem t ns bs ch whole past).intact

                rests : is_settled g c' ≡ true
                rests = (room_left_lem t ns bs ch whole past).settled

                placed : Places es' (length ns)
                placed = record {
                  below = λ i h.
                      let b : Limits g = limits g whole.good in
                      omega (arith, entries_are i h, entry_below fine i h);
                  apart = λ i j h k e.
                      e_apart ns bs (lawful lies rests) (puts ns bs (lawful lies rests) (room_commits t ns bs ch whole past)) i j h k (sym (entries_are i h) ∙ e ∙ entries_are j k);
                }

                small : (k : ℕ) → s.answer ≡ Done k → n + k < 18446744073709551616
                small k e = ⊎_elim
                    (λ b.
                    let f : s.answer ≡ Cut = w.committed.answers ∙ cut_is saving (a - n) save_none b in
                    let o : ◌≡◌ {A = ℕ} 0 1 = cc in
                    absurd (omega arith))
                    (λ b.
                    let f : s.answer ≡ Done (length (flat saving.runs)) = w.committed.answers ∙ done_is saving (a - n) save_none b in
                    let o : k ≡ length (flat saving.runs) = cc in
                    let q : Limits g = limits g whole.good in
                    let u : block_size g / 8 + 4 ≤ 516 = omega arith in
                    let z : length ns * (block_size g / 8 + 4) ≤ 128 * 516 = mul-le-mul few u in
                    omega (arith, save_stores, runs_count g c' ns bs, x.most, make_few))
                    (below_or_above (a - n) (length (flat saving.runs)))
