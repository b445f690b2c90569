-- Commit: its blocks put one after the other, then what finish does on the card so left. Cut before Tail's store it keeps the invariant and the row;
-- Tail's store replaces the row's blocks by those given. Assumes nothing.
use Prim.Native.Nat.{ℕ, ◌+◌, ◌*◌, ◌-◌, ◌≤◌, ◌<◌}
use mathlib.Core.List.{List, [], ◌∷◌, ◌++◌, append_assoc}
use mathlib.Core.Bool.{true, not}
use mathlib.Core.Path.{◌≡◌, sym, ap, subst, ◌∙◌}
use mathlib.Core.Logic.{⊎_elim}
use native.Mathlib.Omega.{arith}
use lib.ListN.{length, take}
use lib.Seq.{take_all}
use lib.Dec.{eqb}
use borrow.Author.Tests.{leb-true, eqb-true, eqb-false, eq-eqb, not-true}
use Rattle.protocol.specs.declared.Entry.{Entry}
use Rattle.protocol.specs.declared.Geometry.{Geometry}
use Rattle.protocol.specs.Below.{each_below}
use Rattle.protocol.specs.Layout.{version_of, block_size, block_at}
use Rattle.protocol.specs.Entry.{entry_at, in_use, has_log_role, switched}
use Rattle.protocol.specs.Ring.{head_of, window_of, window_number, window_has, in_window, used_at, find_entry}
use Rattle.protocol.specs.Store.{card, disk, Store, Run, stored_on, made_on, flat, made, single, entry_store, tail_store}
use Rattle.protocol.specs.Commit.{number_of, new_block, entry_found, over_modified, log_entry, data_of, block_runs, switch_runs, commit_runs, count_fits, data_fits}
use Rattle.protocol.specs.Pending.{finish_switch, finish_runs}
use Rattle.protocol.specs.History.{replaced}
use Rattle.protocol.proofs.Allowed.{log_flag, switched-used}
use Rattle.protocol.proofs.Below.{absurd_bool, and_left, and_right, any_found, below_or_above, each_cong}
use Rattle.protocol.proofs.Blocks.{among, PutsPassed, Mid, Order, Stage, blocks_along, mid_back, numbers_apart_lem, e_below, q_below, log_used_of, log_role_of}
use Rattle.protocol.proofs.Checks.{Limits, limits}
use Rattle.protocol.proofs.Finished.{Matched, Switching, switches, switches_along, finish_front, finish_done, told_same, back_same}
use Rattle.protocol.proofs.Holds.{empty_window}
use Rattle.protocol.proofs.Invariant.{undone_kind}
use Rattle.protocol.proofs.Lawful.{inv_intact, entry_found_lem}
use Rattle.protocol.proofs.Loaded.{Rest, Cached, window_start, settled_ring, settled_role}
use Rattle.protocol.proofs.Made.{tail_changed}
use Rattle.protocol.proofs.Passed.{CommitPassed}
use Rattle.protocol.proofs.Region.{tail}
use Rattle.protocol.proofs.Shape.{Changed, entry_kept, block_kept, kind_at, Inv, Back}
use Rattle.protocol.proofs.Stores.{made_append, made_runs, last_cut, flat_last, Along, both, along_map, along_next}
use Rattle.protocol.proofs.Told.{Told, told_none}
use Rattle.protocol.proofs.Growing.{told_more}
use Rattle.protocol.proofs.Undoables.{undoables, undoables_same, undoables_settled, undoables_put}

module _ {g : Geometry} {row : ℕ → List ℕ} {c d : List ℕ} (ns bs : List ℕ) (v : Inv g row c d) (p : CommitPassed g c ns bs) where
  pub count_low : 0 < length ns
  unfolding count_fits
  count_low =
      let h : length ns ≡ 0 → ⊥ = eqb-false _ _ (not-true _ (and_left (not (eqb (length ns) 0)) _ p.counted)) in
      ⊎_elim (λ l. l) (λ l. absurd (h (omega arith))) (below_or_above 0 (length ns))

  pub count_high : length ns < g.slots
  unfolding count_fits
  count_high =
      let h : length ns ≤ g.slots - 1 = leb-true _ _ (and_right (not (eqb (length ns) 0)) _ p.counted) in
      let f : Limits g = limits g v.shape.good in
      omega arith

  no_window : window_of g c ≡ 0
  no_window = window_start g c (settled_ring g c p.settled)

  -- on a settled card no entry has R, and the window is empty
  pub puts : PutsPassed g c ns bs
  puts =
      record {
        windowed = λ i l u r. absurd_bool r (settled_role g c p.settled i l);
        outside = λ j l. empty_window g c (settled_ring g c p.settled) (number_of ns j);
        ring = omega (arith, no_window, count_high);
        sized = p.sized;
        in_disk = p.in_disk;
        once = p.once;
        room = p.room;
      }

  -- ---- the blocks

  unfoldable pub blocks : List Run
  blocks = each_below (block_runs g c ns bs) (length ns)

  -- the media that they leave
  abbrev pub put : List ℕ
  put = made_on card (flat blocks) c

  abbrev beside : List ℕ
  beside = made_on disk (flat blocks) d

  all_put : Mid ns bs v puts (length ns) (length ns) put beside
  unfolding blocks
  all_put = (blocks_along ns bs v puts (length ns) (omega arith)).end

  all_order : Order ns bs v puts (length ns) (length ns)
  all_order = record { a_low = omega arith; h_low = omega arith }

  window_all : window_of g put ≡ length ns
  window_all = all_put.window_is ∙ omega (arith, no_window)

  number_all : (j : ℕ) → j < length ns → window_number g put j ≡ number_of ns j
  number_all j l =
      let at : window_of g c + j ≡ j = omega (arith, no_window) in
      ap (window_number g put) (sym at) ∙ all_put.numbers_are j l

  -- the window tells the blocks whose numbers it has taken in
  told_first : {a h : ℕ} {c' d' : List ℕ} → Order ns bs v puts a h → Mid ns bs v puts a h c' d'
      → Told g (take (window_of g c') ns) (take (window_of g c' * block_size g) bs) c'
  told_first {a} {h} {c'} {d'} o m =
      let e : h ≡ window_of g c' = sym (m.window_is ∙ omega (arith, no_window)) in
      subst (λ (k : ℕ). Told g (take k ns) (take (k * block_size g) bs) c') e (told_more ns bs v puts (told_none g c no_window) o m)

  data_length : length bs ≡ length ns * block_size g
  unfolding data_fits
  data_length = eqb-true (length bs) (length ns * block_size g) p.sized

  whole : {c' : List ℕ} → window_of g c' ≡ length ns → Told g (take (window_of g c') ns) (take (window_of g c' * block_size g) bs) c' ≡ Told g ns bs c'
  whole {c'} e =
      ap (λ (k : ℕ). Told g (take k ns) (take (k * block_size g) bs) c') e
      ∙ (λ t. Told g (take_all (length ns) ns (omega arith) t) (take_all (length ns * block_size g) bs (omega (arith, data_length)) t) c')

  told_all : Told g ns bs put
  told_all = subst (λ (T : Type 0). T) (whole window_all) (told_first all_order all_put)

  -- ---- the finish

  -- the number's entry
  number_entry : (j : ℕ) → j < length ns → Cached g put (number_of ns j) (entry_found g c ns j)
  unfolding used_at log_entry
  number_entry j l =
      record {
        below = e_below ns bs v puts j l;
        used = ap in_use (all_put.loggeds j l) ∙ log_used_of ns bs v puts j;
        number = ap (λ (x : Entry). x.number) (all_put.loggeds j l);
      }

  found : (j : ℕ) → j < length ns → find_entry g put (window_number g put j) ≡ entry_found g c ns j
  found j l =
      let k = number_entry j l in
      ap (find_entry g put) (number_all j l) ∙ entry_found_lem (inv_intact all_put.inv) (entry_found g c ns j) (number_of ns j) k.below k.used k.number

  all_matched : Matched g put
  unfolding in_window window_has used_at
  all_matched =
      record {
        slotted = λ j l.
            let l' : j < length ns = omega (arith, window_all) in
            let k = number_entry j l' in
            subst (λ (b : ℕ). Cached g put b (find_entry g put (window_number g put j))) (sym (number_all j l')) (subst (Cached g put (number_of ns j)) (sym (found j l')) k);
        logged = λ j l.
            let l' : j < length ns = omega (arith, window_all) in
            ap (λ (z : ℕ). has_log_role (entry_at g put z)) (found j l') ∙ ap has_log_role (all_put.loggeds j l') ∙ log_role_of ns bs v puts j;
        once = λ i j l m e.
            let l' : i < length ns = omega (arith, window_all) in
            let m' : j < length ns = omega (arith, window_all) in
            numbers_apart_lem ns bs v puts i j l' m' (sym (number_all i l') ∙ e ∙ number_all j m');
        windowed = λ i l u r.
            ⊎_elim
            (λ w.
            let j = w.0 in
            let k = number_entry j w.1 in
            any_found (window_has g put (entry_at g put i).number) (window_of g put) j (omega (arith, w.1, window_all))
            (eq-eqb _ _ (number_all j w.1 ∙ sym k.number ∙ ap (λ (z : ℕ). (entry_at g put z).number) w.2)))
            (λ un. absurd_bool r (ap has_log_role (all_put.others i l un) ∙ settled_role g c p.settled i l))
            (among (entry_found g c ns) (length ns) i);
      }

  -- commit's role switches are finish's, and so is Tail's store
  switch_same : (j : ℕ) → j < length ns → switch_runs g c ns j ≡ finish_switch g put j
  unfolding switch_runs finish_switch
  switch_same j l =
      sym
      (ap (λ (i : ℕ). single (entry_store g i (switched (entry_at g put i)))) (found j l)
      ∙ ap (λ (x : Entry). single (entry_store g (entry_found g c ns j) (switched x))) (all_put.loggeds j l))

  pub commit_finish : commit_runs g c ns bs ≡ blocks ++ finish_runs g put
  unfolding commit_runs finish_runs blocks
  commit_finish =
      ap (λ (rs : List Run). each_below (block_runs g c ns bs) (length ns) ++ rs)
      (λ t.
      (each_cong (switch_runs g c ns) (finish_switch g put) (length ns) switch_same
      ∙ ap (each_below (finish_switch g put)) (sym window_all)) t
      ++ single (tail_store (sym all_put.head_is t)))

  -- all runs but Tail's
  pub front : List Run
  front = blocks ++ switches all_put.inv all_matched

  pub commit_front : commit_runs g c ns bs ≡ front ++ single (tail_store (head_of put))
  unfolding front
  commit_front =
      commit_finish ∙ ap (λ (rs : List Run). blocks ++ rs) (finish_front all_put.inv all_matched)
      ∙ sym (append_assoc blocks (switches all_put.inv all_matched) (single (tail_store (head_of put))))

  -- wherever the commit is cut before Tail's store: the invariant, each entry undone as at the start, what the window tells, and as many undoable
  -- entries as there are blocks at most
  pub record Cut (c' d' : List ℕ) : Type 0 where
    pub inv : Inv g row c' d'
    pub back : version_of c ≡ 2 → Back g (λ i. undone_kind (kind_at g c i)) c'
    pub told : Told g (take (window_of g c') ns) (take (window_of g c' * block_size g) bs) c'
    pub few : undoables g c' ≤ length ns

  few_put : {a h : ℕ} {c' d' : List ℕ} → Mid ns bs v puts a h c' d' → Order ns bs v puts a h → undoables g c' ≤ length ns
  few_put m o = omega (arith, undoables_put ns bs v puts m o, undoables_settled g c p.settled, o.a_low)

  put_cut : {c' d' : List ℕ} → Stage ns bs v puts (length ns) c' d' → Cut c' d'
  put_cut s =
      record {
        inv = s.mid.inv;
        back = mid_back ns bs v puts s.mid s.order;
        told = told_first s.order s.mid;
        few = few_put s.mid s.order;
      }

  turned_cut : {n : ℕ} {c' d' : List ℕ} → n ≤ window_of g put → Switching all_put.inv all_matched n c' d' → Cut c' d'
  turned_cut {n} {c'} l s =
      let t = told_same all_put.inv all_matched s l told_all in
      record {
        inv = s.inv;
        back = λ two i h. back_same all_put.inv all_matched s i h ∙ mid_back ns bs v puts all_put all_order two i h;
        told = subst (λ (T : Type 0). T) (sym (whole t.counted)) t;
        few = omega (arith, undoables_same g put c' s.kinds, few_put all_put all_order);
      }

  pub commit_cut : Along Cut Cut front c d
  unfolding front blocks
  commit_cut =
      along_next blocks (switches all_put.inv all_matched) c d
      (along_map (λ c₁ d₁ s. put_cut s) (λ c₁ d₁ m. m) (blocks_along ns bs v puts (length ns) (omega arith)))
      (along_map (λ c₁ d₁ s. turned_cut s.within s.mid) (λ c₁ d₁ m. turned_cut (omega arith) m) (switches_along all_put.inv all_matched))

  -- with Tail's store, the row's blocks are replaced, and the card is settled
  pub commit_done : Rest g (replaced g ns bs row) (made_on card (flat (commit_runs g c ns bs)) c) (made_on disk (flat (commit_runs g c ns bs)) d)
  commit_done =
      subst (λ (rs : List Run). Rest g (replaced g ns bs row) (made_on card (flat rs) c) (made_on disk (flat rs) d)) (sym commit_finish)
      (both (Rest g (replaced g ns bs row)) (sym (made_runs card blocks (finish_runs g put) c)) (sym (made_runs disk blocks (finish_runs g put) d))
      (finish_done all_put.inv all_matched told_all))

  -- the entries as they stand then: those of the plan switched, the others as they were; and the data blocks of the plan
  pub record Entries (c' : List ℕ) : Type 0 where
    pub others : (i : ℕ) → i < g.blocks → ((j : ℕ) → j < length ns → entry_found g c ns j ≡ i → ⊥) → entry_at g c' i ≡ entry_at g c i
    pub planned : (j : ℕ) → j < length ns → entry_at g c' (entry_found g c ns j) ≡ switched (log_entry g c ns j)
    pub filled : (j : ℕ) → j < length ns → block_at g c' (new_block g c j) ≡ data_of g bs j

  commit_flat : flat (commit_runs g c ns bs) ≡ flat front ++ (tail_store (head_of put) ∷ [])
  commit_flat = ap flat commit_front ∙ flat_last front _

  pub commit_entries : Entries (made_on card (flat (commit_runs g c ns bs)) c)
  unfolding made_on front
  commit_entries =
      subst Entries (sym (ap (λ (ss : List Store). made_on card ss c) commit_flat ∙ made_append card (flat front) _ c ∙ ap (stored_on card _) before))
      (record {
        others = λ i l un. entry_kept ch i l (λ a b. omega arith) ∙ m.others i l (λ j h e. un j (low h) (sym (found j (low h)) ∙ e)) ∙ all_put.others i l un;
        planned = λ j l.
            entry_kept ch (entry_found g c ns j) (e_below ns bs v puts j l) (λ a b. omega arith)
            ∙ ap (entry_at g after) (sym (found j l)) ∙ m.switcheds j (high l) ∙ ap (λ (i : ℕ). switched (entry_at g put i)) (found j l)
            ∙ ap switched (all_put.loggeds j l);
        filled = λ j l.
            let q = q_below ns bs v puts j l in
            block_kept ch (new_block g c j) q (λ a b. omega arith) ∙ m.blocks (new_block g c j) q ∙ all_put.blocks j l;
      })
    where
      rs : List Run
      rs = switches all_put.inv all_matched

      after : List ℕ
      after = made_on card (flat rs) put

      before : made_on card (flat (blocks ++ rs)) c ≡ after
      before = made_runs card blocks rs c

      m : Switching all_put.inv all_matched (window_of g put) after (made_on disk (flat rs) beside)
      m = (switches_along all_put.inv all_matched).end

      low : {j : ℕ} → j < window_of g put → j < length ns
      low h = omega (arith, window_all)

      high : {j : ℕ} → j < length ns → j < window_of g put
      high h = omega (arith, window_all)

      ch : Changed g tail after (stored_on card (tail_store (head_of put)) after)
      ch = tail_changed g after (head_of put)

  pub kept_used_of : (j : ℕ) → in_use (switched (log_entry g c ns j)) ≡ true
  unfolding log_entry
  kept_used_of j =
      switched-used (version_of c) (log_entry g c ns j) (log_flag (version_of c) (over_modified g c ns j) 0 0 0) (log_role_of ns bs v puts j)

-- a commit's runs behind runs that leave the card settled: what holds of a settled card, and of the commit cut before Tail's store, holds of them
-- cut anywhere; done they replace the row's blocks
module _ {g : Geometry} {row : ℕ → List ℕ} {c d : List ℕ} (rs : List Run) (ns bs : List ℕ)
    (x : Along (Rest g row) (Rest g row) rs c d) (p : CommitPassed g (made_on card (flat rs) c) ns bs) where
  abbrev pub saving : List Run
  saving = rs ++ commit_runs g (made_on card (flat rs) c) ns bs

  pub standing : Inv g row (made_on card (flat rs) c) (made_on disk (flat rs) d)
  standing = x.end.0

  pub saving_cut : (P : List ℕ → List ℕ → Type 0) → ((c' d' : List ℕ) → Rest g row c' d' → P c' d') → ((c' d' : List ℕ) → Cut ns bs standing p c' d' → P c' d')
      → (a : ℕ) (ch : List ℕ) → a < length (flat saving) → P (made_on card (made a ch saving) c) (made_on disk (made a ch saving) d)
  saving_cut P rest cut a ch l =
      let first = rs ++ front ns bs standing p in
      let last = tail_store (head_of (put ns bs standing p)) in
      let split : saving ≡ first ++ single last =
      ap (λ (qs : List Run). rs ++ qs) (commit_front ns bs standing p) ∙ sym (append_assoc rs (front ns bs standing p) (single last)) in
      let short : a < length (flat (first ++ single last)) = subst (λ (qs : List Run). a < length (flat qs)) split l in
      subst (λ (ss : List Store). P (made_on card ss c) (made_on disk ss d)) (sym (ap (made a ch) split ∙ last_cut a ch first last short))
      ((along_next rs (front ns bs standing p) c d (along_map rest (λ c' d' q. q) x)
      (along_map cut (λ c' d' q. q) (commit_cut ns bs standing p))).during a ch)

  pub saving_done : Rest g (replaced g ns bs row) (made_on card (flat saving) c) (made_on disk (flat saving) d)
  saving_done =
      both (Rest g (replaced g ns bs row)) (sym (made_runs card rs _ c)) (sym (made_runs disk rs _ d)) (commit_done ns bs standing p)
