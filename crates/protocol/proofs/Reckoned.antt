-- The reckoning of the row by arguments and answers, held against card and disk: the invariant of its row, and the window with the blocks that a finish
-- would put into it. Each call of the list keeps it. Assumes nothing.
use Prim.Native.Nat.{ℕ, ◌+◌, ◌*◌, ◌-◌, ◌<◌}
use mathlib.Core.List.{List, [], ◌∷◌, ◌++◌, append_assoc, append-nil}
use mathlib.Core.Bool.{true}
use mathlib.Core.Path.{◌≡◌, refl, sym, ap, subst, ◌∙◌}
use native.Mathlib.Omega.{arith}
use lib.ListN.{length, take, length-append}
use lib.Seq.{take_all}
use lib.Dec.{eqb}
use borrow.Author.Tests.{eqb-true, eq-eqb, lt-ltb}
use Rattle.protocol.specs.declared.Geometry.{Geometry}
use Rattle.protocol.specs.declared.Pending.{Pending}
use Rattle.protocol.specs.Below.{all_below, each_below}
use Rattle.protocol.specs.Layout.{block_size}
use Rattle.protocol.specs.Ring.{head_of, tail_of, window_of, in_window, is_settled}
use Rattle.protocol.specs.Store.{card, disk, Store, Run, made_on, flat, made, tail_store}
use Rattle.protocol.specs.Commit.{number_of, block_runs, data_fits, number_fits, numbers_fit, new_number, numbers_apart}
use Rattle.protocol.specs.Pending.{is_pending, put_runs, finish_runs}
use Rattle.protocol.specs.Recover.{recover_runs}
use Rattle.protocol.specs.History.{Reckoned, with_row, with_cut, with_puts, saved_numbers, saved_bytes, finished_row}
use Rattle.protocol.proofs.Below.{and_left, and_right, and_both}
use Rattle.protocol.proofs.Blocks.{PutsPassed, block_front, block_front_lem, front_along, blocks_along}
use Rattle.protocol.proofs.Committed.{Cut}
use Rattle.protocol.proofs.Finished.{Matched, matched, switches, switches_along, finish_front, finish_done, told_same}
use Rattle.protocol.proofs.Growing.{told_more}
use Rattle.protocol.proofs.Loaded.{Rest, window_start, settled_ring}
use Rattle.protocol.proofs.Passed.{CommitPassed, PutPassed}
use Rattle.protocol.proofs.Recovered.{recovery, recovery_cut}
use Rattle.protocol.proofs.Shape.{Inv}
use Rattle.protocol.proofs.Steps.{window_below}
use Rattle.protocol.proofs.Stores.{last_cut, both}
use Rattle.protocol.proofs.Told.{Told, told_none}

-- what a reckoning says of card and disk
pub record Reck (g : Geometry) (r : Reckoned) (c d : List ℕ) : Type 0 where
  pub inv : Inv g r.row c d
  pub told : Told g (saved_numbers (window_of g c) r) (saved_bytes g (window_of g c) r) c

-- no put is in the reckoning
pub record NoPuts (r : Reckoned) : Type 0 where
  pub numbers : r.put_numbers ≡ []
  pub bytes : r.put_bytes ≡ []

nothing : {A : Type 0} (xs : List A) → length xs ≡ 0 → xs ≡ []
nothing [] e = refl
nothing (x ∷ xs) e = absurd (omega arith)

-- ---- a settled card

-- where the window is empty, no put is in the reckoning
pub no_puts : {g : Geometry} {r : Reckoned} {c d : List ℕ} → Reck g r c d → is_settled g c ≡ true → NoPuts r
unfolding saved_numbers saved_bytes
no_puts {g} {r} {c} x s =
    let empty = window_start g c (settled_ring g c s) in
    let t = x.told in
    let k = window_of g c - length r.put_numbers in
    let n = length-append (take k r.cut_numbers) r.put_numbers in
    let b = length-append (take (k * block_size g) r.cut_bytes) r.put_bytes in
    let none : length (take k r.cut_numbers ++ r.put_numbers) ≡ 0 = sym t.counted ∙ empty in
    let none-bytes : length (take (k * block_size g) r.cut_bytes ++ r.put_bytes) ≡ 0 = t.sized ∙ ap (λ (z : ℕ). z * block_size g) none ∙ omega arith in
    record { numbers = nothing r.put_numbers (omega arith); bytes = nothing r.put_bytes (omega arith) }

-- without puts a pending save has the first blocks of the cut commit, and at count 0 none
saved_cut : (g : Geometry) (n : ℕ) (r : Reckoned) → NoPuts r → (saved_numbers n r ≡ take n r.cut_numbers) × (saved_bytes g n r ≡ take (n * block_size g) r.cut_bytes)
unfolding saved_numbers saved_bytes
saved_cut g n r p =
    let all : n - 0 ≡ n = omega arith in (
      (λ t. take (n - length (p.numbers t)) r.cut_numbers ++ p.numbers t)
          ∙ append-nil (take (n - 0) r.cut_numbers) ∙ ap (λ (k : ℕ). take k r.cut_numbers) all,
      (λ t. take ((n - length (p.numbers t)) * block_size g) r.cut_bytes ++ p.bytes t)
          ∙ append-nil (take ((n - 0) * block_size g) r.cut_bytes) ∙ ap (λ (k : ℕ). take (k * block_size g) r.cut_bytes) all,
    )

-- a settled card tells no block
pub rest_reck : {g : Geometry} {r : Reckoned} {c d : List ℕ} → Rest g r.row c d → NoPuts r → Reck g r c d
rest_reck {g} {r} {c} {d} x p =
    let empty = window_start g c (settled_ring g c x.1) in
    let (n, b) = saved_cut g 0 r p in
    let zero : 0 * block_size g ≡ 0 = omega arith in
    record {
      inv = x.0;
      told =
          subst (λ (k : ℕ). Told g (saved_numbers k r) (saved_bytes g k r) c) (sym empty)
          (both (λ ns bs. Told g ns bs c) (sym n) (sym (b ∙ ap (λ (k : ℕ). take k r.cut_bytes) zero)) (told_none g c empty));
    }

-- ---- commit

-- cut, it leaves a pending save of its first blocks
pub commit_reck : {g : Geometry} {row : ℕ → List ℕ} {c d : List ℕ} (ns bs : List ℕ) (v : Inv g row c d) (p : CommitPassed g c ns bs) (r : Reckoned) → row ≡ r.row
    → NoPuts r → {c' d' : List ℕ} → Cut ns bs v p c' d' → Reck g (with_cut ns bs r) c' d'
unfolding with_cut
commit_reck {g} ns bs v p r e n {c'} {d'} x =
    let (a, b) = saved_cut g (window_of g c') (with_cut ns bs r) (record { numbers = n.numbers; bytes = n.bytes }) in
    record {
      inv = subst (λ (y : ℕ → List ℕ). Inv g y c' d') e x.inv;
      told = both (λ ms xs. Told g ms xs c') (sym a) (sym b) x.told;
    }

-- ---- recovery, put and finish

module _ {g : Geometry} {r : Reckoned} {c d : List ℕ} (x : Reck g r c d) where
  abbrev numbers : List ℕ
  numbers = saved_numbers (window_of g c) r

  abbrev bytes : List ℕ
  bytes = saved_bytes g (window_of g c) r

  -- the same window, with the same blocks
  same_window : {c' d' : List ℕ} → Inv g r.row c' d' → Told g numbers bytes c' → Reck g r c' d'
  same_window {c'} v t =
      let e : window_of g c ≡ window_of g c' = x.told.counted ∙ sym t.counted in
      record { inv = v; told = subst (λ (k : ℕ). Told g (saved_numbers k r) (saved_bytes g k r) c') e t }

  pub recover_cut : (a : ℕ) (ch : List ℕ) → a < length (flat (recover_runs g c))
      → Reck g r (made_on card (made a ch (recover_runs g c)) c) (made_on disk (made a ch (recover_runs g c)) d)
  recover_cut a ch l = let (v, t) = recovery_cut x.inv a ch l x.told in same_window v t

  -- a save that is given up, or finished, has no put
  pub recover_done : Reck g (with_puts [] [] r) (made_on card (flat (recover_runs g c)) c) (made_on disk (flat (recover_runs g c)) d)
  unfolding with_puts
  recover_done = rest_reck ((recovery x.inv).end.0.0, (recovery x.inv).end.1) (record { numbers = refl; bytes = refl })

  module _ (p : Pending) (pending : is_pending g c p ≡ true) where
    counted : window_of g c ≡ p.count
    unfolding is_pending
    counted = eqb-true _ _ (and_left (eqb (window_of g c) p.count) _ (and_right (eqb (tail_of c) p.tail) _ pending))

    pub both_match : Matched g c
    unfolding is_pending
    both_match = matched g c (and_right (eqb (window_of g c) p.count) _ (and_right (eqb (tail_of c) p.tail) _ pending))

    -- finish
    pub finish_cut : (a : ℕ) (ch : List ℕ) → a < length (flat (finish_runs g c))
        → Reck g r (made_on card (made a ch (finish_runs g c)) c) (made_on disk (made a ch (finish_runs g c)) d)
    finish_cut a ch l =
        let e = finish_front x.inv both_match in
        let s = (switches_along x.inv both_match).during a ch in
        let short = subst (λ (rs : List Run). a < length (flat rs)) e l in
        subst (λ (ss : List Store). Reck g r (made_on card ss c) (made_on disk ss d))
        (sym (ap (made a ch) e ∙ last_cut a ch (switches x.inv both_match) (tail_store (head_of c)) short))
        (same_window s.mid.inv (told_same x.inv both_match s.mid s.within x.told))

    pub finish_reck : Reck g (finished_row g p.count r) (made_on card (flat (finish_runs g c)) c) (made_on disk (flat (finish_runs g c)) d)
    unfolding finished_row with_puts with_row
    finish_reck =
        subst (λ (n : ℕ). Reck g (finished_row g n r) (made_on card (flat (finish_runs g c)) c) (made_on disk (flat (finish_runs g c)) d)) counted
        (rest_reck (finish_done x.inv both_match x.told) (record { numbers = refl; bytes = refl }))

    pub finish_settles : is_settled g (made_on card (flat (finish_runs g c)) c) ≡ true
    finish_settles = (finish_done x.inv both_match x.told).1

  module _ (p : Pending) (b : ℕ) (bs : List ℕ) (q : PutPassed g c p b bs) where
    pub one : PutsPassed g c (b ∷ []) bs
    unfolding data_fits numbers_fit number_fits numbers_apart new_number number_of all_below
    one =
        record {
          windowed = (both_match p q.pending).windowed;
          outside = λ j l. let e : j ≡ 0 = omega arith in ap (λ (k : ℕ). in_window g c (number_of (b ∷ []) k)) e ∙ q.outside;
          ring = omega (arith, window_below x.inv, counted p q.pending, q.counted);
          sized = eq-eqb _ _ (q.sized ∙ omega arith);
          in_disk = and_both refl (lt-ltb b g.disk q.in_disk);
          once = refl;
          room = q.room;
        }

    -- put, cut before Head's store: the window stays
    pub put_cut : (a : ℕ) (ch : List ℕ) → a < length (flat (put_runs g c b bs))
        → Reck g r (made_on card (made a ch (put_runs g c b bs)) c) (made_on disk (made a ch (put_runs g c b bs)) d)
    unfolding put_runs
    put_cut a ch l =
        let e = block_front_lem (b ∷ []) bs x.inv one 0 in
        let s = (front_along (b ∷ []) bs x.inv one (omega arith)).during a ch in
        let short = subst (λ (rs : List Run). a < length (flat rs)) e l in
        subst (λ (ss : List Store). Reck g r (made_on card ss c) (made_on disk ss d))
        (sym (ap (made a ch) e ∙ last_cut a ch (block_front (b ∷ []) bs x.inv one 0) _ short))
        (same_window s.mid.inv (none_more s.numbers (omega (arith, s.below)) (told_more (b ∷ []) bs x.inv one x.told s.order s.mid)))
      where
        none_more : {c' : List ℕ} (h : ℕ) → h ≡ 0 → Told g (numbers ++ take h (b ∷ [])) (bytes ++ take (h * block_size g) bs) c' → Told g numbers bytes c'
        none_more {c'} h z t =
            let zero : h * block_size g ≡ 0 = ap (λ (k : ℕ). k * block_size g) z ∙ omega arith in
            both (λ ms xs. Told g ms xs c') (ap (λ (k : ℕ). numbers ++ take k (b ∷ [])) z ∙ append-nil numbers)
            (ap (λ (k : ℕ). bytes ++ take k bs) zero ∙ append-nil bytes) t

    pub put_reck : Reck g (with_puts (r.put_numbers ++ (b ∷ [])) (r.put_bytes ++ bs) r) (made_on card (flat (put_runs g c b bs)) c) (made_on disk (flat (put_runs g c b bs)) d)
    unfolding with_puts saved_numbers saved_bytes put_runs each_below
    put_reck =
        let m = (blocks_along (b ∷ []) bs x.inv one 1 (omega arith)).end in
        let t = told_more (b ∷ []) bs x.inv one x.told (record { a_low = omega arith; h_low = omega arith }) m in
        let rest = length-append r.put_numbers (b ∷ []) in
        let same : window_of g c + 1 - length (r.put_numbers ++ (b ∷ [])) ≡ window_of g c - length r.put_numbers = omega arith in
        let whole : take (1 * block_size g) bs ≡ bs = take_all (1 * block_size g) bs (omega (arith, q.sized)) in
        record {
          inv = m.inv;
          told =
              both (λ ms xs. Told g ms xs (made_on card (flat (block_runs g c (b ∷ []) bs 0)) c))
              (append_assoc (take (window_of g c - length r.put_numbers) r.cut_numbers) r.put_numbers (b ∷ [])
              ∙ ap (λ (k : ℕ). take k r.cut_numbers ++ (r.put_numbers ++ (b ∷ []))) (sym same)
              ∙ ap (λ (k : ℕ). take (k - length (r.put_numbers ++ (b ∷ []))) r.cut_numbers ++ (r.put_numbers ++ (b ∷ []))) (sym m.window_is))
              (ap (λ (ys : List ℕ). bytes ++ ys) whole
              ∙ append_assoc (take ((window_of g c - length r.put_numbers) * block_size g) r.cut_bytes) r.put_bytes bs
              ∙ ap (λ (k : ℕ). take (k * block_size g) r.cut_bytes ++ (r.put_bytes ++ bs)) (sym same)
              ∙ ap (λ (k : ℕ). take ((k - length (r.put_numbers ++ (b ∷ []))) * block_size g) r.cut_bytes ++ (r.put_bytes ++ bs)) (sym m.window_is))
              t;
        }
