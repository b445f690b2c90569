-- A recipe screen's save: open, puts of blocks one by one and a finish, all done, leave card, disk and map as one commit of these blocks does, with as
-- many stores. By the puts' answers, the first i blocks would have passed a commit's checks; so each put makes that commit's stores. Assumes nothing.
use Prim.Native.Nat.{ℕ, zero, suc, ◌+◌, ◌*◌, ◌-◌, ◌≤◌, ◌<◌}
use mathlib.Core.List.{List, ◌∷◌, ◌++◌}
use mathlib.Core.Bool.{Bool, true, false, cond, not, ◌&&◌}
use mathlib.Core.Path.{◌≡◌, refl, sym, ap, subst, ◌∙◌}
use mathlib.Core.Logic.{◌⊎◌, inl, inr, ⊎_elim}
use native.Mathlib.Nat.{mul-le-mul_right}
use native.Mathlib.Omega.{arith}
use lib.ListN.{length, get_or, take, length-append, length-drop}
use lib.Seq.{length-take-le}
use lib.Dec.{eqb}
use borrow.Author.Tests.{eqb-true, eqb-false, eq-eqb, ne_eqb, lt-ltb, leb-true, le-leb, not-true}
use Rattle.protocol.specs.declared.Answer.{Answer}
use Rattle.protocol.specs.declared.Answer.TheVariants.{Done}
use Rattle.protocol.specs.declared.Geometry.{Geometry}
use Rattle.protocol.specs.declared.Map.{Map}
use Rattle.protocol.specs.declared.Pending.{Pending}
use Rattle.protocol.specs.declared.Opened.TheVariants.{Is, Refused as RefusedOpen}
use Rattle.protocol.specs.Below.{count_below, each_below}
use Rattle.protocol.specs.Layout.{geometry_of, version_of, block_size}
use Rattle.protocol.specs.Entry.{FRESH, entry_of, entry_at, is_modified, log_flags}
use Rattle.protocol.specs.Ring.{tail_of, window_of, window_number, window_has, in_window, is_settled, find_entry, cached, current_of}
use Rattle.protocol.specs.Check.{refuse, fit_refusal, damage_refusal, choice_fits}
use Rattle.protocol.specs.Store.{Medium, card, disk, Run, Work, made_on, flat, single, words, entry_store, slot_store, head_store, answer_of, after_on}
use Rattle.protocol.specs.Search.{free_blocks, unused_entries}
use Rattle.protocol.specs.Map.{map_of, map_refusal, handed_on, map_after}
use Rattle.protocol.specs.Commit.{number_of, uncached_at, new_block, entry_found, old_block, over_modified, log_entry, data_of, head_after, block_runs, count_fits, data_fits, number_fits, numbers_fit, numbers_differ, new_number, numbers_apart, room_for, commit_refusal, commit_work}
use Rattle.protocol.specs.Pending.{is_pending, open_refusal, opened, put_runs, put_refusal, put_work, finish_runs, finish_refusal, finish_work}
use Rattle.protocol.specs.History.{work_of, answer_to, after, takes_map, map_to}
use Rattle.protocol.specs.InRow.{Screen, putting, put_one, put_all, finishing, committing, total, SameAsOne, BlockByBlock}
use Rattle.protocol.proofs.Below.{either, absurd_bool, last_or_before, below_or_above, and_left, and_right, and_both, all_of, any_found, each_cong}
use Rattle.protocol.proofs.Blocks.{PutsPassed, Mid, blocks_along}
use Rattle.protocol.proofs.Checks.{limits}
use Rattle.protocol.proofs.Committed.{blocks, commit_finish}
use Rattle.protocol.proofs.CutRule.{Answered, refused, cut, done, answered, DoneAll, done_passed}
use Rattle.protocol.proofs.Holds.{none_first, geometry_is, empty_window}
use Rattle.protocol.proofs.InRow.{free_left, put_same}
use Rattle.protocol.proofs.Lawful.{Intact, lawful, held, home}
use Rattle.protocol.proofs.Left.{card_intact}
use Rattle.protocol.proofs.Loaded.{window_start, settled_ring, settled_role}
use Rattle.protocol.proofs.Passed.{first_zero, second_zero, passed, PutPassed, SavePassed, put_passed, finish_passed, save_passes, save_commit}
use Rattle.protocol.proofs.Searches.{count_cong}
use Rattle.protocol.proofs.Shape.{Inv}
use Rattle.protocol.proofs.Stores.{made_runs, flat_append}
use Rattle.protocol.proofs.Told.{number_first, data_first}

-- ---- the first blocks alone

-- block j's stores hang on the first numbers and its own bytes
runs_by : (g : Geometry) (c ns ns' bs bs' : List ℕ) (j : ℕ) → ((k : ℕ) → k < suc j → number_of ns k ≡ number_of ns' k) → data_of g bs j ≡ data_of g bs' j
    → block_runs g c ns bs j ≡ block_runs g c ns' bs' j
unfolding block_runs entry_found log_entry old_block over_modified uncached_at
runs_by g c ns ns' bs bs' j e x =
    let b = e j (omega arith) in
    let taken : count_below (uncached_at g c ns) j ≡ count_below (uncached_at g c ns') j =
    count_cong _ _ j (λ k l. ap (λ (b : ℕ). not (cached g c b)) (e k (omega arith))) in
    λ t.
    words g (new_block g c j) (x t)
    ∷ (single
    (entry_store g (cond (not (cached g c (b t))) (get_or (unused_entries g c) (taken t) 0) (find_entry g c (b t)))
    (entry_of (log_flags (version_of c) (cached g c (b t) && is_modified (entry_at g c (find_entry g c (b t))))) (b t)
    (cond (not (cached g c (b t))) FRESH (current_of g c (b t))) (new_block g c j)))
    ++ (single (slot_store (head_after g c j) (b t)) ++ single (head_store (head_after g c (j + 1)))))

-- ---- what a call has passed, and leaves

-- the record's count is the window's
pending_count : (g : Geometry) (c : List ℕ) (r : Pending) → is_pending g c r ≡ true → window_of g c ≡ r.count
unfolding is_pending
pending_count g c r h = eqb-true _ _ (and_left (eqb (window_of g c) r.count) _ (and_right (eqb (tail_of c) r.tail) _ h))

-- a put got the card's map
put_map : (c : List ℕ) (s : Map) (r : Pending) (b : ℕ) (bs ch : List ℕ) → put_refusal 2 c s r b bs ch ≡ 0 → map_refusal c s ≡ 0
unfolding put_refusal
put_map c s r b bs ch z =
    let z₁ = second_zero (damage_refusal (geometry_of c) c) _ (second_zero (fit_refusal 2 2 c) _ z) in
    first_zero (map_refusal c s) _ (second_zero (refuse 18 (is_pending (geometry_of c) c r)) _ z₁)

-- a finish has a block to finish
finish_some : (c : List ℕ) (s : Map) (r : Pending) → finish_refusal 2 c s r ≡ 0 → r.count ≡ 0 → ⊥
unfolding finish_refusal
finish_some c s r z =
    let z₁ = second_zero (damage_refusal (geometry_of c) c) _ (second_zero (fit_refusal 2 2 c) _ z) in
    let z₂ = second_zero (map_refusal c s) _ (second_zero (refuse 18 (is_pending (geometry_of c) c r)) _ z₁) in
    eqb-false _ _ (not-true _ (passed 7 _ z₂))

-- open that gives a record is not refused
open_given : (c : List ℕ) (r : Pending) → opened c ≡ Is r → open_refusal 2 c ≡ 0
unfolding opened
open_given c r e = go (either (eqb (open_refusal 2 c) 0))
  where
    go : (eqb (open_refusal 2 c) 0 ≡ true) ⊎ (eqb (open_refusal 2 c) 0 ≡ false) → open_refusal 2 c ≡ 0
    go (inl h) = eqb-true _ _ h
    go (inr h) =
        let f : RefusedOpen (open_refusal 2 c) ≡ Is r =
        sym (ap (λ (b : Bool). cond b (Is (record { tail = tail_of c; count = 0 })) (RefusedOpen (open_refusal 2 c))) h) ∙ e in
        let z : ◌≡◌ {A = ℕ} 0 1 = cc in absurd (omega arith)

-- the map that a call hands on when it is done
done_map : (a n : ℕ) (w : Work) (c : List ℕ) (s : Map) → answer_of a w ≡ Done n → map_after a w c s ≡ map_of (after_on card a w c)
unfolding map_after handed_on
done_map a n w c s e = ap (λ (y : Answer). handed_on y s (map_of (after_on card a w c))) e

-- a call that is not refused is done where the allowance covers its stores
covered_done : (a n : ℕ) (w : Work) → w.refusal ≡ 0 → length (flat w.runs) ≡ n → n ≤ a → answer_of a w ≡ Done n
covered_done a n w z e l = go (answered a w)
  where
    go : Answered a w → answer_of a w ≡ Done n
    go (refused x y k) = absurd (x z)
    go (cut x s y k) = absurd (omega arith)
    go (done x y k) = y ∙ ap Done e

module _ (c d ns bs : List ℕ) (whole : Intact (geometry_of c) c) (settled : is_settled (geometry_of c) c ≡ true)
    (given : length bs ≡ length ns * block_size (geometry_of c)) where
  abbrev g : Geometry
  g = geometry_of c

  v : Inv g (held whole settled) c (home whole settled)
  v = lawful whole settled

  no_window : window_of g c ≡ 0
  no_window = window_start g c (settled_ring g c settled)

  -- what the answers to the first i puts say
  record First (i : ℕ) : Type 0 where
    ring : i < g.slots
    in_disk : (j : ℕ) → j < i → number_of ns j < g.disk
    once : (j k : ℕ) → j < i → k < j → number_of ns j ≡ number_of ns k → ⊥
    room : i ≤ length (free_blocks g c)

  -- blocks with these numbers may be put on the card
  passes : (xs ys : List ℕ) (i : ℕ) → length xs ≡ i → ((j : ℕ) → j < i → number_of xs j ≡ number_of ns j) → length ys ≡ i * block_size g → First i
      → PutsPassed g c xs ys
  unfolding data_fits numbers_fit number_fits numbers_apart new_number numbers_differ room_for
  passes xs ys i n e sized f =
      record {
        windowed = λ k l u r. absurd_bool r (settled_role g c settled k l);
        outside = λ j l. empty_window g c (settled_ring g c settled) (number_of xs j);
        ring = omega (arith, no_window, f.ring);
        sized = eq-eqb _ _ (sized ∙ ap (λ (k : ℕ). k * block_size g) (sym n));
        in_disk = all_of _ (length xs) (λ j l. lt-ltb _ _ (subst (λ (b : ℕ). b < g.disk) (sym (e j (omega arith))) (f.in_disk j (omega arith))));
        once =
            all_of _ (length xs)
            (λ j l. all_of _ j
            (λ k h. ap not (ne_eqb _ _ (λ q. f.once j k (omega arith) h (sym (e j (omega arith)) ∙ q ∙ e k (omega arith))))));
        room = le-leb (length xs) (length (free_blocks g c)) (omega (arith, f.room));
      }

  rows : ℕ → List Run
  rows i = each_below (block_runs g c ns bs) i

  -- the card that the first i blocks leave
  abbrev left : ℕ → List ℕ
  left i = made_on card (flat (rows i)) c

  -- the first i of the blocks, on their own
  module _ (i : ℕ) (few : i ≤ length ns) (f : First i) where
    abbrev xs : List ℕ
    xs = take i ns

    abbrev ys : List ℕ
    ys = take (i * block_size g) bs

    long : length xs ≡ i
    long = length-take-le i ns few

    first : PutsPassed g c xs ys
    first =
        let enough : i * block_size g ≤ length bs = subst (λ (k : ℕ). i * block_size g ≤ k) (sym given) (mul-le-mul_right (block_size g) few) in
        passes xs ys i long (λ j l. number_first ns i j l) (length-take-le (i * block_size g) bs enough) f

    runs_same : (j : ℕ) → j < i → block_runs g c xs ys j ≡ block_runs g c ns bs j
    runs_same j l = runs_by g c xs ns ys bs j (λ k h. number_first ns i k (omega arith)) (data_first g bs i j l)

    mid : (j : ℕ) → j ≤ i → Mid xs ys v first j j (left j) (made_on disk (flat (rows j)) (home whole settled))
    unfolding rows
    mid j l =
        subst (λ (rs : List Run). Mid xs ys v first j j (made_on card (flat rs) c) (made_on disk (flat rs) (home whole settled)))
        (each_cong _ _ j (λ k h. runs_same k (omega arith))) (blocks_along xs ys v first j (omega (arith, long))).end

    left-geometry : geometry_of (left i) ≡ g
    left-geometry = geometry_is (mid i (omega arith)).inv

    left_window : window_of g (left i) ≡ i
    left_window = (mid i (omega arith)).window_is ∙ omega (arith, no_window)

    -- the numbers put stand in the window, and their blocks are taken
    in_save : (k : ℕ) → k < i → in_window g (left i) (number_of ns k) ≡ true
    unfolding in_window window_has
    in_save k l =
        let at : window_of g c + k ≡ k = omega (arith, no_window) in
        any_found (window_has g (left i) (number_of ns k)) (window_of g (left i)) k (omega (arith, left_window))
        (eq-eqb _ _ (ap (window_number g (left i)) (sym at) ∙ (mid i (omega arith)).numbers_are k l ∙ number_first ns i k l))

    left_free : length (free_blocks g (left i)) ≡ length (free_blocks g c) - i
    left_free = ap length (free_left xs ys v first (omega (arith, long)) (mid i (omega arith))) ∙ length-drop i (free_blocks g c)

  -- one put more, done on that card
  next : (i : ℕ) → i < length ns → First i → (r : Pending) → PutPassed g (left i) r (number_of ns i) (data_of g bs i) → First (suc i)
  unfolding room_for
  next i l f r q =
      let few : i ≤ length ns = omega arith in
      let other : i ≡ g.slots - 1 → ⊥ = λ e. q.counted (sym (pending_count g (left i) r q.pending) ∙ left_window i few f ∙ e) in
      let free : 1 ≤ length (free_blocks g (left i)) = leb-true _ _ q.room in
      record {
        ring = ⊎_elim (λ h. absurd (other h)) (λ h. omega arith) (last_or_before i (g.slots - 1) (omega (arith, f.ring)));
        in_disk = λ j h. ⊎_elim (λ e. subst (λ (z : ℕ). number_of ns z < g.disk) (sym e) q.in_disk) (λ m. f.in_disk j m) (last_or_before j i h);
        once = λ j k h m e.
            ⊎_elim
            (λ s. absurd_bool (ap (in_window g (left i)) (ap (number_of ns) (sym s) ∙ e) ∙ in_save i few f k (omega arith)) q.outside)
            (λ s. f.once j k s m e)
            (last_or_before j i h);
        room = omega (arith, left_free i few f, f.room);
      }

  -- it makes the commit's stores
  put_is : (i : ℕ) → i < length ns → First (suc i) → put_runs g (left i) (number_of ns i) (data_of g bs i) ≡ block_runs g c ns bs i
  put_is i l f =
      (λ t. put_runs g (left i) (sym (number_first ns (suc i) i (omega arith)) t) (sym (data_first g bs (suc i) i (omega arith)) t))
      ∙ put_same (xs (suc i) l f) (ys (suc i) l f) v (first (suc i) l f) (omega (arith, long (suc i) l f)) (mid (suc i) l f i (omega arith))
      ∙ runs_same (suc i) l f i (omega arith)

  -- ---- the calls

  module _ (s : Map) (r : Pending) (chs : ℕ → List ℕ) (ls ks : ℕ → ℕ) where
    abbrev screen : ℕ → Screen
    screen i = put_all g ns bs chs ls (record { media = record { on_card = c; on_disk = d }; map = s; held = r }) i

    abbrev Answers : Type 0
    Answers = (i : ℕ) → i < length ns → answer_to (putting g ns bs chs ls (screen i) i) (screen i).media ≡ Done (ks i)

    -- after i puts, all done: the commit's first i blocks are made
    record At (i : ℕ) (x : Screen) : Type 0 where
      on_card : x.media.on_card ≡ left i
      on_disk : x.media.on_disk ≡ made_on disk (flat (rows i)) d
      stores : length (flat (rows i)) ≡ total ks i
      front : First i

    put_done : (i : ℕ) → i < length ns → (x : Screen) → At i x → answer_to (putting g ns bs chs ls x i) x.media ≡ Done (ks i)
        → At (suc i) (put_one (putting g ns bs chs ls x i) x)
    unfolding answer_to putting work_of put_work put_one after rows each_below total
    put_done i l x a e =
        let b = number_of ns i in
        let ds = data_of g bs i in
        let few : i ≤ length ns = omega arith in
        let w = put_work 2 x.media.on_card x.map x.held b ds (chs i) in
        let (z, made, n) = done_passed (ls i) (ks i) w e in
        let q =
        put_passed g (left i) (geometry_is (mid i few a.front i (omega arith)).inv) 2 x.map x.held b ds (chs i)
        (ap (λ (c' : List ℕ). put_refusal 2 c' x.map x.held b ds (chs i)) (sym a.on_card) ∙ z) in
        let f = next i l a.front x.held q in
        let runs : put_runs (geometry_of x.media.on_card) x.media.on_card b ds ≡ block_runs g c ns bs i =
        ap (λ (c' : List ℕ). put_runs (geometry_of c') c' b ds) a.on_card
        ∙ ap (λ (y : Geometry). put_runs y (left i) b ds) (left-geometry i few a.front)
        ∙ put_is i l f in
        let on : (o : Medium) (ys zs : List ℕ) → ys ≡ made_on o (flat (rows i)) zs
        → after_on o (ls i) w ys ≡ made_on o (flat (rows i ++ block_runs g c ns bs i)) zs =
        λ o ys zs h. made o ys ∙ (λ t. made_on o (flat (runs t)) (h t)) ∙ sym (made_runs o (rows i) (block_runs g c ns bs i) zs) in
        record {
          on_card = on card _ c a.on_card;
          on_disk = on disk _ d a.on_disk;
          stores =
              ap length (flat_append (rows i) (block_runs g c ns bs i))
              ∙ length-append (flat (rows i)) (flat (block_runs g c ns bs i))
              ∙ (λ t. a.stores t + (ap (λ (rs : List Run). length (flat rs)) (sym runs) ∙ n) t);
          front = f;
        }

    all_put : Answers → (i : ℕ) → i ≤ length ns → At i (screen i)
    unfolding put_all rows each_below flat made_on total
    all_put ans zero l =
        record {
          on_card = refl;
          on_disk = refl;
          stores = refl;
          front = record {
            ring = omega (arith, limits g whole.good);
            in_disk = λ j h. absurd (omega arith);
            once = λ j k h m e. absurd (omega arith);
            room = omega arith;
          };
        }
    all_put ans (suc i) l = put_done i l (screen i) (all_put ans i (omega arith)) (ans i l)

    -- then a finish, done
    module _ (ans : Answers) (ch : List ℕ) (a a' k : ℕ) (x : Screen) (is : x ≡ screen (length ns)) (opens : open_refusal 2 c ≡ 0)
        (fin : answer_to (finishing x a') x.media ≡ Done k) (chosen : choice_fits g ch ≡ true) (covers : total ks (length ns) + k ≤ a) where
      abbrev n : ℕ
      n = length ns

      end : At n x
      end = subst (At (length ns)) (sym is) (all_put ans (length ns) (omega arith))

      w' : Work
      w' = finish_work 2 x.media.on_card x.map x.held

      finished : DoneAll a' k w'
      unfolding w' answer_to finishing work_of
      finished = done_passed a' k w' fin

      few : n ≤ length ns
      few = omega arith

      -- finish found the blocks put, so there is one
      some : n ≡ 0 → ⊥
      unfolding w' finish_work
      some e =
          let p =
          finish_passed g (left n) (geometry_is (mid n few end.front n (omega arith)).inv) 2 x.map x.held
          (ap (λ (c' : List ℕ). finish_refusal 2 c' x.map x.held) (sym end.on_card) ∙ finished.0) in
          finish_some x.media.on_card x.map x.held finished.0
          (sym (pending_count g (left n) x.held p.1) ∙ left_window n few end.front ∙ e)

      -- so the commit passes all its checks
      saves : SavePassed g ns bs ch (room_for g c (length ns))
      unfolding count_fits
      saves =
          let p = passes ns bs (length ns) refl (λ j l. refl) given end.front in
          record {
            counted = and_both (ap not (ne_eqb (length ns) 0 some)) (le-leb (length ns) (g.slots - 1) (omega (arith, end.front.ring)));
            sized = p.sized;
            chosen = chosen;
            in_disk = p.in_disk;
            once = p.once;
            enough = p.room;
          }

      own_map : map_refusal c s ≡ 0
      unfolding put_all answer_to putting work_of put_work
      own_map =
          let l : 0 < length ns = ⊎_elim (λ h. h) (λ h. absurd (some (omega arith))) (below_or_above 0 (length ns)) in
          put_map c s r (number_of ns 0) (data_of g bs 0) (chs 0) (done_passed (ls 0) (ks 0) _ (ans 0 l)).0

      w : Work
      w = commit_work 2 c s ns bs ch

      unrefused : w.refusal ≡ 0
      unfolding w commit_work commit_refusal open_refusal
      unrefused =
          none_first _ (first_zero (fit_refusal 2 2 c) _ opens)
          ∙ none_first _ (second_zero (fit_refusal 2 2 c) _ opens)
          ∙ none_first _ own_map
          ∙ save_passes g ns bs ch _ saves

      -- and its runs are those made
      runs : w.runs ≡ rows n ++ w'.runs
      unfolding w w' commit_work finish_work rows blocks
      runs =
          commit_finish ns bs v (save_commit settled saves)
          ∙ ap (λ (rs : List Run). rows n ++ rs)
          (ap (λ (y : Geometry). finish_runs y (left n)) (sym (left-geometry n few end.front))
          ∙ ap (λ (c' : List ℕ). finish_runs (geometry_of c') c') (sym end.on_card))

      count : length (flat w.runs) ≡ total ks (length ns) + k
      count =
          ap (λ (rs : List Run). length (flat rs)) runs
          ∙ ap length (flat_append (rows n) w'.runs)
          ∙ length-append (flat (rows n)) (flat w'.runs)
          ∙ (λ t. end.stores t + finished.2 t)

      answer : answer_of a w ≡ Done (total ks (length ns) + k)
      answer = covered_done a _ w unrefused count covers

      on : (o : Medium) (ys zs : List ℕ) → ys ≡ made_on o (flat (rows n)) zs → after_on o a w zs ≡ after_on o a' w' ys
      on o ys zs h =
          (done_passed a _ w answer).1 o zs
          ∙ ap (λ (rs : List Run). made_on o (flat rs) zs) runs
          ∙ made_runs o (rows n) w'.runs zs
          ∙ ap (made_on o (flat w'.runs)) (sym h)
          ∙ sym (finished.1 o ys)

      same : SameAsOne (record { on_card = c; on_disk = d }) (after (finishing x a') x.media) (map_to (finishing x a') x.media)
          (committing s ns bs ch a) (total ks (length ns) + k)
      unfolding w w' answer_to after map_to takes_map work_of finishing committing
      same =
          record {
            answer = answer;
            media = λ t. record { on_card = on card x.media.on_card c end.on_card t; on_disk = on disk x.media.on_disk d end.on_disk t };
            map =
                done_map a _ w c s answer
                ∙ ap map_of (on card x.media.on_card c end.on_card)
                ∙ sym (done_map a' k w' x.media.on_card x.map fin);
          }

pub block_by_block : BlockByBlock
unfolding open_refusal
block_by_block m s r ns bs ch chs ls ks a a' k x is op given ans fin chosen covers =
    let c = m.on_card in
    let opens = open_given c r op in
    let (whole, settled) = card_intact c (first_zero (fit_refusal 2 2 c) _ opens) (second_zero (fit_refusal 2 2 c) _ opens) in
    same c m.on_disk ns bs whole settled given s r chs ls ks ans ch a a' k x is opens fin chosen covers
