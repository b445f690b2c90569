-- Cuts inside a run: what is made splits into the runs that the allowance covers and what is left of the one it ends in, by both rules alike, so
-- they agree where these agree. Assumes nothing.
use Prim.Native.Nat.{ℕ, zero, suc, ◌+◌, ◌-◌, ◌/◌, ◌≤◌, ◌<◌}
use mathlib.Core.List.{List, [], ◌∷◌, ◌++◌, append_assoc, append_cancel_left}
use mathlib.Core.Bool.{Bool, true, false, cond}
use mathlib.Core.Path.{◌≡◌, refl, sym, ap, ◌∙◌}
use mathlib.Core.Logic.{◌⊎◌, inl, inr, ⊎_elim}
use native.Mathlib.Omega.{arith}
use lib.ListN.{length, take, get_or, replicate, length-take, length-append, length-replicate}
use lib.Seq.{take-append-le, take-append-add}
use lib.Dec.{leb}
use borrow.Author.Tests.{le-leb, lt-leb}
use Rattle.numbers.specs.Bytes.{part}
use Rattle.protocol.specs.declared.Geometry.{Geometry}
use Rattle.protocol.specs.Below.{each_below}
use Rattle.protocol.specs.Layout.{version_of, block_size, block_at}
use Rattle.protocol.specs.Entry.{entry_at, is_modified, undone}
use Rattle.protocol.specs.Ring.{window_of, undoable_at, find_entry, current_of}
use Rattle.protocol.specs.Check.{choice_byte_fits, choice_fits}
use Rattle.protocol.specs.Store.{Store, Run, flat, chosen, landed, made, words, sectors, single, entry_store}
use Rattle.protocol.specs.Commit.{block_runs, switch_runs, commit_runs}
use Rattle.protocol.specs.Load.{load_runs, write_back, evict_runs}
use Rattle.protocol.specs.Room.{missing, victim_number, evictions, room_runs, room_left}
use Rattle.protocol.specs.Upgrade.{upgrade_runs}
use Rattle.protocol.specs.Pending.{put_runs, finish_switch, finish_runs}
use Rattle.protocol.specs.Recover.{same_bytes, if_changing, undo_runs, recover_runs}
use Rattle.protocol.specs.Fence.{first_made, cut_run, reach, in_order, Fenced, AgreesWhere, ZerosAgree, PrefixLaw, PrefixAccepted, CallsFenced}
use Rattle.protocol.proofs.Below.{absurd_bool, below_or_above, and_both, all_of}

-- ---- both rules, split at the cut

-- the stores of the runs that the allowance covers, up to the first that it does not
covered : ℕ → List Run → List Store
covered a [] = []
covered a (r ∷ rs) = cond (leb (length r.stores) a) (r.stores ++ covered (a - length r.stores) rs) []

made_split : (a : ℕ) (ch : List ℕ) (rs : List Run) → made a ch rs ≡ covered a rs ++ landed ch (cut_run a rs)
unfolding made covered cut_run landed chosen
made_split a ch [] = refl
made_split a ch (r ∷ rs) = go (leb (length r.stores) a) (made_split (a - length r.stores) ch rs)
  where
    go : (b : Bool) → made (a - length r.stores) ch rs ≡ covered (a - length r.stores) rs ++ landed ch (cut_run (a - length r.stores) rs)
        → cond b (r.stores ++ made (a - length r.stores) ch rs) (landed ch r)
        ≡ cond b (r.stores ++ covered (a - length r.stores) rs) [] ++ landed ch (cond b (cut_run (a - length r.stores) rs) r)
    go true h = ap (λ (z : List Store). r.stores ++ z) h ∙ sym (append_assoc r.stores _ _)
    go false h = refl

take_none : (a : ℕ) → take {A = Store} a [] ≡ []
take_none zero = refl
take_none (suc a) = refl

first_split : (a : ℕ) (rs : List Run) → first_made a rs ≡ covered a rs ++ take (reach a rs) (cut_run a rs).stores
unfolding first_made flat covered cut_run reach
first_split a [] = take_none a
first_split a (r ∷ rs) = go (first_split (a - length r.stores) rs)
  where
    go : first_made (a - length r.stores) rs ≡ covered (a - length r.stores) rs ++ take (reach (a - length r.stores) rs) (cut_run (a - length r.stores) rs).stores
        → take a (r.stores ++ flat rs)
        ≡ cond (leb (length r.stores) a) (r.stores ++ covered (a - length r.stores) rs) []
        ++ take (cond (leb (length r.stores) a) (reach (a - length r.stores) rs) a) (cond (leb (length r.stores) a) (cut_run (a - length r.stores) rs) r).stores
    go h =
        ⊎_elim
        (λ l.
        let m : a ≤ length r.stores = omega arith in
        rw (lt-leb (length r.stores) a l) (take-append-le a r.stores (flat rs) m))
        (λ l.
        let e : a ≡ length r.stores + (a - length r.stores) = omega arith in
        rw (le-leb (length r.stores) a l)
        (ap (λ (z : ℕ). take z (r.stores ++ flat rs)) e
        ∙ take-append-add r.stores (flat rs) (a - length r.stores)
        ∙ ap (λ (z : List Store). r.stores ++ z) h
        ∙ sym (append_assoc r.stores _ _)))
        (below_or_above a (length r.stores))

pub agrees_where : (a : ℕ) (ch : List ℕ) (rs : List Run) → AgreesWhere a ch rs
agrees_where a ch rs =
    record {
      there = λ e. made_split a ch rs ∙ ap (λ (z : List Store). covered a rs ++ z) e ∙ sym (first_split a rs);
      only = λ e. append_cancel_left (covered a rs) _ _ (sym (made_split a ch rs) ∙ e ∙ first_split a rs);
    }

-- ---- the run in which the allowance ends

-- the allowance ends before its end, where there is one
reach_below : (a : ℕ) (rs : List Run) → (reach a rs < length (cut_run a rs).stores) ⊎ (reach a rs ≡ 0)
unfolding reach cut_run
reach_below a [] = inr refl
reach_below a (r ∷ rs) = go (reach_below (a - length r.stores) rs)
  where
    go : (reach (a - length r.stores) rs < length (cut_run (a - length r.stores) rs).stores) ⊎ (reach (a - length r.stores) rs ≡ 0)
        → (cond (leb (length r.stores) a) (reach (a - length r.stores) rs) a
        < length (cond (leb (length r.stores) a) (cut_run (a - length r.stores) rs) r).stores)
        ⊎ (cond (leb (length r.stores) a) (reach (a - length r.stores) rs) a ≡ 0)
    go h =
        ⊎_elim
        (λ l. rw (lt-leb (length r.stores) a l) (inl l))
        (λ l. rw (le-leb (length r.stores) a l) h)
        (below_or_above a (length r.stores))

cut_fenced : (a : ℕ) (rs : List Run) → Fenced rs → ((cut_run a rs).unordered ≡ true) ⊎ (length (cut_run a rs).stores ≤ 1)
unfolding cut_run
cut_fenced a [] f = inl refl
cut_fenced a (r ∷ rs) f = go (leb (length r.stores) a) (cut_fenced (a - length r.stores) rs f.1)
  where
    go : (b : Bool) → ((cut_run (a - length r.stores) rs).unordered ≡ true) ⊎ (length (cut_run (a - length r.stores) rs).stores ≤ 1)
        → ((cond b (cut_run (a - length r.stores) rs) r).unordered ≡ true) ⊎ (length (cond b (cut_run (a - length r.stores) rs) r).stores ≤ 1)
    go true h = h
    go false h = f.0

-- ---- choices of zeros, and of ones before zeros

chosen_zeros : (n : ℕ) (ss : List Store) → chosen (replicate n 0) ss ≡ []
unfolding chosen
chosen_zeros n [] = refl
chosen_zeros zero (s ∷ ss) = refl
chosen_zeros (suc n) (s ∷ ss) = chosen_zeros n ss

landed_zeros : (n : ℕ) (r : Run) → landed (replicate n 0) r ≡ []
unfolding landed
landed_zeros n r = go r.unordered
  where
    go : (b : Bool) → cond b (chosen (replicate n 0) r.stores) [] ≡ []
    go true = chosen_zeros n r.stores
    go false = refl

chosen-ones : (k n : ℕ) (ss : List Store) → chosen (replicate k 1 ++ replicate n 0) ss ≡ take k ss
unfolding chosen
chosen-ones zero n ss = chosen_zeros n ss
chosen-ones (suc k) n [] = refl
chosen-ones (suc k) n (s ∷ ss) = ap (λ (z : List Store). s ∷ z) (chosen-ones k n ss)

pub zeros_agree : (n a : ℕ) (rs : List Run) → ZerosAgree n a rs
zeros_agree n a rs =
    record {
      there = λ e.
          (agrees_where a (replicate n 0) rs).there
          (landed_zeros n (cut_run a rs) ∙ ap (λ (k : ℕ). take k (cut_run a rs).stores) (sym e));
      only = λ e.
          let none : take (reach a rs) (cut_run a rs).stores ≡ [] =
          sym ((agrees_where a (replicate n 0) rs).only e) ∙ landed_zeros n (cut_run a rs) in
          ⊎_elim
          (λ l. omega (arith, ap length none, length-take (reach a rs) (cut_run a rs).stores))
          (λ z. z)
          (reach_below a rs);
    }

pub prefix_law : PrefixLaw
unfolding in_order landed
prefix_law n a rs f = (agrees_where a (in_order n a rs) rs).there (go (cut_run a rs).unordered refl)
  where
    go : (b : Bool) → (cut_run a rs).unordered ≡ b
        → cond (cut_run a rs).unordered (chosen (replicate (reach a rs) 1 ++ replicate (n - reach a rs) 0) (cut_run a rs).stores) []
        ≡ take (reach a rs) (cut_run a rs).stores
    go true e = rw e (chosen-ones (reach a rs) (n - reach a rs) (cut_run a rs).stores)
    go false e =
        let z : reach a rs ≡ 0 =
        ⊎_elim
        (λ l.
        ⊎_elim
        (λ u. absurd_bool u e)
        (λ m. omega arith)
        (cut_fenced a rs f))
        (λ z. z)
        (reach_below a rs) in
        rw e (ap (λ (j : ℕ). take j (cut_run a rs).stores) (sym z))

-- ---- 17 accepts it

byte_low : (k n i : ℕ) → get_or (replicate k 1 ++ replicate n 0) i 0 ≤ 1
byte_low zero zero i = omega arith
byte_low zero (suc n) zero = omega arith
byte_low zero (suc n) (suc i) = byte_low zero n i
byte_low (suc k) n zero = omega arith
byte_low (suc k) n (suc i) = byte_low k n i

pub prefix_accepted : PrefixAccepted
unfolding choice_fits choice_byte_fits in_order
prefix_accepted g a rs =
    let k = reach a rs in
    let n = block_size g / 8 in
    let ch : List ℕ = replicate k 1 ++ replicate (n - k) 0 in
    let long : n ≤ length ch = omega (arith, length-append {A = ℕ} (replicate k 1) (replicate (n - k) 0), length-replicate {A = ℕ} k 1, length-replicate {A = ℕ} (n - k) 0) in
    and_both (le-leb n (length ch) long) (all_of _ (length ch) (λ i l. le-leb _ 1 (byte_low k (n - k) i)))

-- ---- the calls' runs

fenced_append : (rs qs : List Run) → Fenced rs → Fenced qs → Fenced (rs ++ qs)
fenced_append [] qs f h = h
fenced_append (r ∷ rs) qs f h = (f.0, fenced_append rs qs f.1 h)

fenced_each : (f : ℕ → List Run) (n : ℕ) → ((i : ℕ) → Fenced (f i)) → Fenced (each_below f n)
unfolding each_below
fenced_each f zero h = tt
fenced_each f (suc n) h = fenced_append (each_below f n) (f n) (fenced_each f n h) (h n)

fenced_single : (s : Store) → Fenced (single s)
unfolding single
fenced_single s = (inr (omega arith), tt)

fenced_if : (b : Bool) (rs qs : List Run) → Fenced rs → Fenced qs → Fenced (cond b rs qs)
fenced_if true rs qs f h = f
fenced_if false rs qs f h = h

fenced_changing : (c : List ℕ) (s : Store) → Fenced (if_changing c s)
unfolding if_changing
fenced_changing c s = fenced_if (same_bytes (part c s.place (length s.bytes)) s.bytes) [] (single s) tt (fenced_single s)

fenced_block : (g : Geometry) (c ns bs : List ℕ) (i : ℕ) → Fenced (block_runs g c ns bs i)
unfolding block_runs words
fenced_block g c ns bs i = (inl refl, fenced_append (single _) _ (fenced_single _) (fenced_append (single _) _ (fenced_single _) (fenced_single _)))

fenced_commit : (g : Geometry) (c ns bs : List ℕ) → Fenced (commit_runs g c ns bs)
unfolding commit_runs switch_runs
fenced_commit g c ns bs =
    fenced_append (each_below (block_runs g c ns bs) (length ns)) _
    (fenced_each (block_runs g c ns bs) (length ns) (fenced_block g c ns bs))
    (fenced_append (each_below (switch_runs g c ns) (length ns)) _
    (fenced_each (switch_runs g c ns) (length ns) (λ i. fenced_single _))
    (fenced_single _))

fenced_evict : (g : Geometry) (c : List ℕ) (b : ℕ) → Fenced (evict_runs g c b)
unfolding evict_runs write_back sectors
fenced_evict g c b =
    fenced_append (write_back g c b) _
    (fenced_if (is_modified (entry_at g c (find_entry g c b))) (sectors g b (block_at g c (current_of g c b)) ∷ []) [] (inl refl, tt) tt)
    (fenced_single _)

pub calls_fenced : (g : Geometry) (c d t ns bs : List ℕ) (b : ℕ) → CallsFenced g c d t ns bs b
unfolding room_runs evictions load_runs recover_runs undo_runs upgrade_runs put_runs finish_runs finish_switch words
calls_fenced g c d t ns bs b =
    record {
      commit = fenced_commit g c ns bs;
      make_room =
          fenced_append (room_runs g c t ns) _ (fenced_each _ (missing g c ns) (λ i. fenced_evict g c (victim_number g c t ns i)))
          (fenced_commit g (room_left g c t ns) ns bs);
      load = (inl refl, fenced_single _);
      evict = fenced_evict g c b;
      recover =
          fenced_append (each_below (undo_runs g c) g.blocks) _
          (fenced_each (undo_runs g c) g.blocks (λ i. fenced_if (undoable_at g c i) (if_changing c (entry_store g i (undone (version_of c) (entry_at g c i)))) [] (fenced_changing c _) tt))
          (fenced_changing c _);
      upgrade = fenced_single _;
      put = fenced_block g c (b ∷ []) bs 0;
      finish =
          fenced_append (each_below (finish_switch g c) (window_of g c)) _ (fenced_each (finish_switch g c) (window_of g c) (λ j. fenced_single _))
          (fenced_single _);
    }
