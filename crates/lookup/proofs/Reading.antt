-- What read and look answer, by where the block was found. Assumes nothing.
use Prim.Native.Nat.{ℕ, ◌+◌, ◌-◌, ◌≤◌, ◌<◌}
use mathlib.Core.List.{List, []}
use mathlib.Core.Bool.{Bool, true, false, cond}
use mathlib.Core.Path.{◌≡◌, refl, sym, ap, subst, ◌∙◌}
use mathlib.Core.Logic.{◌⊎◌, inl, inr}
use native.Mathlib.Omega.{arith}
use lib.ListN.{length, take, drop, replicate, length-replicate}
use lib.Dec.{eqb, ltb}
use borrow.Author.Tests.{eqb-true, eqb-false, eq-eqb, ne_eqb, ltb-true, ltb-false, lt-ltb, le-ltb}
use Rattle.numbers.specs.Bytes.{part, patch}
use Rattle.numbers.proofs.Laws.{length_part, length-patch, part_all, part-patch_same}
use Rattle.protocol.specs.declared.Geometry.{Geometry}
use Rattle.protocol.specs.declared.Held.{Held}
use Rattle.protocol.specs.declared.Held.TheVariants.{Card as HeldCard, Disk as HeldDisk, Refused as HeldRefused}
use Rattle.protocol.specs.Layout.{geometry_of, block_size, block_place, disk_place, block_at, disk_block, card_length, disk_length}
use Rattle.protocol.specs.Entry.{entry_at}
use Rattle.protocol.specs.Ring.{used_at, find_entry, cached, current_of, contents}
use Rattle.protocol.specs.Check.{refuse, ◌or_else◌, card_fits, disk_fits, good_entry_at, entries_fit, fit_refusal, disk_refusal, damage_refusal, card_refusal}
use Rattle.protocol.specs.Load.{pair_refusal, block_refusal}
use Rattle.protocol.specs.Read.{output_refusal, read_refusal, held_after, output_after, look_refusal, looked_at}
use Rattle.protocol.proofs.Allowed.{used-entry}
use Rattle.protocol.proofs.Below.{either, all_at}
use Rattle.protocol.proofs.Checks.{or_else_first, Limits, limits}
use Rattle.protocol.proofs.Loaded.{cached_entry}
use Rattle.protocol.proofs.Made.{in_disk_lem}
use Rattle.protocol.proofs.Passed.{first_zero, second_zero, passed}
use Rattle.protocol.proofs.Region.{block, in_card, place_block}
use Rattle.ring.proofs.Laws.{fit_fitted}
use Rattle.lookup.specs.declared.Found.{Found}
use Rattle.lookup.specs.declared.Found.TheVariants.{Refused, Outside, Card, Disk}
use Rattle.lookup.specs.Place.{place_in, found_by, found_in, found_at, fetched_by, fetched_at, Copied}
use Rattle.lookup.proofs.Laws.{find_by_length}

-- ---- where it is

-- the geometry that the card spells
abbrev G : List ℕ → Geometry
G c = geometry_of c

pub data Where (c d : List ℕ) (b : ℕ) (f : Found) : Type 0 where
  in_none : f ≡ Refused (pair_refusal 2 c d) → (pair_refusal 2 c d ≡ 0 → ⊥) → Where c d b f
  in_nothing : f ≡ Outside (block_size (G c)) → pair_refusal 2 c d ≡ 0 → (G c).disk ≤ b → Where c d b f
  in_cache : f ≡ Card (block_place (G c) (current_of (G c) c b)) (block_size (G c)) (find_entry (G c) c b) → pair_refusal 2 c d ≡ 0 → b < (G c).disk → cached (G c) c b ≡ true
      → Where c d b f
  in_home : f ≡ Disk (disk_place (G c) b) (block_size (G c)) → pair_refusal 2 c d ≡ 0 → b < (G c).disk → cached (G c) c b ≡ false → Where c d b f

pub where_is : (c d : List ℕ) (b : ℕ) (f : Found) → f ≡ found_at c d b → Where c d b f
unfolding found_at found_by place_in
where_is c d b f e = go (either (eqb (pair_refusal 2 c d) 0)) (either (ltb b (G c).disk)) (either (cached (G c) c b))
  where
    go : (eqb (pair_refusal 2 c d) 0 ≡ true) ⊎ (eqb (pair_refusal 2 c d) 0 ≡ false) → (ltb b (G c).disk ≡ true) ⊎ (ltb b (G c).disk ≡ false)
        → (cached (G c) c b ≡ true) ⊎ (cached (G c) c b ≡ false) → Where c d b f
    go (inr r) l k = in_none (e ∙ rw r) (eqb-false _ _ r)
    go (inl r) (inr l) k = in_nothing (e ∙ rw (r, l)) (eqb-true _ _ r) (ltb-false _ _ l)
    go (inl r) (inl l) (inl k) = in_cache (e ∙ rw (r, l, k)) (eqb-true _ _ r) (ltb-true _ _ l) k
    go (inl r) (inl l) (inr k) = in_home (e ∙ rw (r, l, k)) (eqb-true _ _ r) (ltb-true _ _ l) k

-- ---- what passed

module _ (c d : List ℕ) (z : pair_refusal 2 c d ≡ 0) where
  card_long : length c ≡ card_length (G c)
  unfolding pair_refusal fit_refusal card_fits
  card_long = eqb-true _ _ (passed 1 _ (second_zero (refuse 1 _) _ (first_zero (fit_refusal 2 2 c) _ z)))

  fits_first : fit_refusal 2 2 c ≡ 0
  unfolding pair_refusal
  fits_first = first_zero (fit_refusal 2 2 c) _ z

  pub disk_long : length d ≡ disk_length (G c)
  unfolding pair_refusal disk_refusal disk_fits
  disk_long = eqb-true _ _ (passed 2 _ (first_zero (refuse 3 _) _ (second_zero (fit_refusal 2 2 c) _ z)))

  all_fit : entries_fit (G c) c ≡ true
  unfolding pair_refusal card_refusal damage_refusal
  all_fit =
      passed 4 (entries_fit (G c) c)
      (first_zero (refuse 5 (entries_fit (G c) c)) _
      (second_zero (refuse 4 _) _ (first_zero (damage_refusal (G c) c) _ (second_zero (disk_refusal (G c) d) _ (second_zero (fit_refusal 2 2 c) _ z)))))

  pub current_within : (b : ℕ) → cached (G c) c b ≡ true → block_place (G c) (current_of (G c) c b) + block_size (G c) ≤ length c
  unfolding current_of entries_fit good_entry_at used_at
  current_within b k =
      let e = cached_entry (G c) c b k in
      let l = (used-entry _ (G c).blocks (G c).disk (entry_at (G c) c (find_entry (G c) c b)) (all_at _ (G c).blocks (find_entry (G c) c b) all_fit e.below) e.used).current_below in
      omega (arith, card_long, in_card (G c) (block (entry_at (G c) c (find_entry (G c) c b)).current) (omega arith) l, place_block (G c) (entry_at (G c) c (find_entry (G c) c b)).current)

  pub home_within : (b : ℕ) → b < (G c).disk → disk_place (G c) b + block_size (G c) ≤ length d
  home_within b l = omega (arith, disk_long, in_disk_lem (G c) b l)

  look_passed : (b : ℕ) → b < (G c).disk → look_refusal c d b ≡ 0
  unfolding look_refusal block_refusal refuse ◌or_else◌
  look_passed b l = rw (z, lt-ltb b (G c).disk l)

  read_by : (out : List ℕ) (b : ℕ) → read_refusal c d out b ≡ refuse 9 (eqb (length out) (block_size (G c))) or_else refuse 10 (ltb b (G c).disk)
  unfolding read_refusal output_refusal block_refusal ◌or_else◌
  read_by out b = rw z

-- ---- look

module _ (c d : List ℕ) (b : ℕ) where
  pub card_part : (at n i : ℕ) → Card at n i ≡ found_at c d b → at + n ≤ length c
  card_part at n i e = go (where_is c d b (Card at n i) e)
    where
      go : Where c d b (Card at n i) → at + n ≤ length c
      go (in_none p z) = let w : ◌≡◌ {A = ℕ} 0 1 = cc in absurd (omega arith)
      go (in_nothing p z l) = let w : ◌≡◌ {A = ℕ} 0 1 = cc in absurd (omega arith)
      go (in_cache p z l k) =
          let ea : at ≡ block_place (G c) (current_of (G c) c b) = cc in
          let en : n ≡ block_size (G c) = cc in
          omega (arith, current_within c d z b k)
      go (in_home p z l k) = let w : ◌≡◌ {A = ℕ} 0 1 = cc in absurd (omega arith)

  disk_within : (at n : ℕ) → Disk at n ≡ found_at c d b → (at + n ≤ length d) × (n ≤ 4096) × (at < 268435456)
  unfolding disk_length
  disk_within at n e = go (where_is c d b (Disk at n) e)
    where
      go : Where c d b (Disk at n) → (at + n ≤ length d) × (n ≤ 4096) × (at < 268435456)
      go (in_none p z) = let w : ◌≡◌ {A = ℕ} 0 1 = cc in absurd (omega arith)
      go (in_nothing p z l) = let w : ◌≡◌ {A = ℕ} 0 1 = cc in absurd (omega arith)
      go (in_cache p z l k) = let w : ◌≡◌ {A = ℕ} 0 1 = cc in absurd (omega arith)
      go (in_home p z l k) =
          let ea : at ≡ disk_place (G c) b = cc in
          let en : n ≡ block_size (G c) = cc in
          let inside : at + n ≤ length d = omega (arith, home_within c d z b l) in
          let m : Limits (G c) = limits (G c) (fit_fitted 2 2 c (G c) (fit_refusal 2 2 c) refl (fits_first c d z) refl).good in
          (inside, omega arith, omega (arith, disk_long c d z))

  pub disk_part : (at n : ℕ) → Disk at n ≡ found_at c d b → at + n ≤ length d
  disk_part at n e = (disk_within at n e).0

  card_looked : (at n i : ℕ) → Card at n i ≡ found_at c d b → part c at n ≡ looked_at c d b
  unfolding looked_at contents block_at
  card_looked at n i e = go (where_is c d b (Card at n i) e)
    where
      go : Where c d b (Card at n i) → part c at n ≡ looked_at c d b
      go (in_none p z) = let w : ◌≡◌ {A = ℕ} 0 1 = cc in absurd (omega arith)
      go (in_nothing p z l) = let w : ◌≡◌ {A = ℕ} 0 1 = cc in absurd (omega arith)
      go (in_cache p z l k) =
          let ea : at ≡ block_place (G c) (current_of (G c) c b) = cc in
          let en : n ≡ block_size (G c) = cc in
          (λ t. part c (ea t) (en t)) ∙ rw (eq-eqb _ _ (look_passed c d z b l), k)
      go (in_home p z l k) = let w : ◌≡◌ {A = ℕ} 0 1 = cc in absurd (omega arith)

  disk_looked : (at n : ℕ) → Disk at n ≡ found_at c d b → part d at n ≡ looked_at c d b
  unfolding looked_at contents disk_block
  disk_looked at n e = go (where_is c d b (Disk at n) e)
    where
      go : Where c d b (Disk at n) → part d at n ≡ looked_at c d b
      go (in_none p z) = let w : ◌≡◌ {A = ℕ} 0 1 = cc in absurd (omega arith)
      go (in_nothing p z l) = let w : ◌≡◌ {A = ℕ} 0 1 = cc in absurd (omega arith)
      go (in_cache p z l k) = let w : ◌≡◌ {A = ℕ} 0 1 = cc in absurd (omega arith)
      go (in_home p z l k) =
          let ea : at ≡ disk_place (G c) b = cc in
          let en : n ≡ block_size (G c) = cc in
          (λ t. part d (ea t) (en t)) ∙ rw (eq-eqb _ _ (look_passed c d z b l), k)

  -- a part from at up to at + n
  span : (xs : List ℕ) (at n : ℕ) → take (at + n - at) (drop at xs) ≡ part xs at n
  unfolding part
  span xs at n = let e : at + n - at ≡ n = omega arith in ap (λ (k : ℕ). take k (drop at xs)) e

  pub look_card : (at n i : ℕ) → Card at n i ≡ found_at c d b → take (at + n - at) (drop at c) ≡ looked_at c d b
  look_card at n i e = span c at n ∙ card_looked at n i e

  pub look_disk : (at n : ℕ) → Disk at n ≡ found_at c d b → take (at + n - at) (drop at d) ≡ looked_at c d b
  look_disk at n e = span d at n ∙ disk_looked at n e

  pub look_refused : (r : ℕ) → Refused r ≡ found_at c d b → [] ≡ looked_at c d b
  unfolding looked_at look_refusal
  look_refused r e = go (where_is c d b (Refused r) e)
    where
      go : Where c d b (Refused r) → [] ≡ looked_at c d b
      go (in_none p z) = sym (ap (λ (t : Bool). cond t (contents (G c) c d b) []) (ne_eqb (look_refusal c d b) 0 (λ h. z (first_zero (pair_refusal 2 c d) (block_refusal (G c) b) h))))
      go (in_nothing p z l) = let w : ◌≡◌ {A = ℕ} 0 1 = cc in absurd (omega arith)
      go (in_cache p z l k) = let w : ◌≡◌ {A = ℕ} 0 1 = cc in absurd (omega arith)
      go (in_home p z l k) = let w : ◌≡◌ {A = ℕ} 0 1 = cc in absurd (omega arith)

  pub look_outside : (n : ℕ) → Outside n ≡ found_at c d b → [] ≡ looked_at c d b
  unfolding looked_at look_refusal block_refusal refuse ◌or_else◌
  look_outside n e = go (where_is c d b (Outside n) e)
    where
      go : Where c d b (Outside n) → [] ≡ looked_at c d b
      go (in_none p z) = let w : ◌≡◌ {A = ℕ} 0 1 = cc in absurd (omega arith)
      go (in_nothing p z l) = rw (z, le-ltb b (G c).disk l)
      go (in_cache p z l k) = let w : ◌≡◌ {A = ℕ} 0 1 = cc in absurd (omega arith)
      go (in_home p z l k) = let w : ◌≡◌ {A = ℕ} 0 1 = cc in absurd (omega arith)

  pub look_else : (f : Found) → f ≡ found_at c d b → ((x y z : ℕ) → f ≡ Card x y z → ⊥) → ((x y : ℕ) → f ≡ Disk x y → ⊥) → [] ≡ looked_at c d b
  look_else (Refused r) e p q = look_refused r e
  look_else (Outside n) e p q = look_outside n e
  look_else (Card x y z) e p q = absurd (p x y z refl)
  look_else (Disk x y) e p q = absurd (q x y refl)

-- ---- read

pub copied_none : (src : List ℕ) (at n : ℕ) (out : List ℕ) → (length out ≡ n → ⊥) → Copied src at n out out false
copied_none src at n out h = record { fits = sym (ne_eqb _ _ h); after_is = refl }

pub copied_all : (src : List ℕ) (at n : ℕ) (out after : List ℕ) → at + n ≤ length src → length out ≡ n → after ≡ patch out 0 (part src at n)
    → Copied src at n out after true
copied_all src at n out after f l e =
    let long : length (part src at n) ≡ n = length_part src at n f in
    record {
      fits = sym (eq-eqb _ _ l);
      after_is =
          e
          ∙ sym (part_all (patch out 0 (part src at n)) n (length-patch out 0 (part src at n) ∙ l))
          ∙ part-patch_same out 0 (part src at n) n long (omega arith);
    }

-- what read promises: its answer and its output
abbrev pub Promised : List ℕ → List ℕ → ℕ → List ℕ → List ℕ → Found → Type 0
Promised c d b out after r = (r ≡ fetched_at c d out b) × (after ≡ output_after c d out b)

-- refused, with the output as it was
refused_so : (c d : List ℕ) (b : ℕ) (out : List ℕ) (r : ℕ) → r ≡ read_refusal c d out b → (r ≡ 0 → ⊥) → Promised c d b out out (Refused r)
unfolding fetched_by output_after
refused_so c d b out r e h =
    let f : eqb (read_refusal c d out b) 0 ≡ false = ne_eqb _ _ (λ z. h (e ∙ z)) in (
      ap Refused e ∙ sym (ap (λ (t : Bool). cond t (place_in (G c) c b) (Refused (read_refusal c d out b))) f),
      sym (ap (λ (t : Bool). cond t (contents (G c) c d b) out) f),
    )

module _ (c d : List ℕ) (b : ℕ) (out : List ℕ) where
  pub read_refused : (r : ℕ) → Refused r ≡ found_at c d b → Promised c d b out out (Refused r)
  unfolding read_refusal
  read_refused r e = go (where_is c d b (Refused r) e)
    where
      go : Where c d b (Refused r) → Promised c d b out out (Refused r)
      go (in_none p z) =
          let er : r ≡ pair_refusal 2 c d = cc in
          refused_so c d b out r (or_else_first r (pair_refusal 2 c d) _ er (λ h. z (sym er ∙ h))) (λ h. z (sym er ∙ h))
      go (in_nothing p z l) = let w : ◌≡◌ {A = ℕ} 0 1 = cc in absurd (omega arith)
      go (in_cache p z l k) = let w : ◌≡◌ {A = ℕ} 0 1 = cc in absurd (omega arith)
      go (in_home p z l k) = let w : ◌≡◌ {A = ℕ} 0 1 = cc in absurd (omega arith)

  -- outside the disk: 10 with an output of B bytes, else 9
  pub read_outside : (n : ℕ) → Outside n ≡ found_at c d b → length out ≡ n → Promised c d b out out (Refused 10)
  unfolding refuse ◌or_else◌
  read_outside n e len = go (where_is c d b (Outside n) e)
    where
      go : Where c d b (Outside n) → Promised c d b out out (Refused 10)
      go (in_none p z) = let w : ◌≡◌ {A = ℕ} 0 1 = cc in absurd (omega arith)
      go (in_nothing p z l) =
          let en : n ≡ block_size (G c) = cc in
          refused_so c d b out 10 (sym (read_by c d z out b ∙ rw (eq-eqb _ _ (len ∙ en), le-ltb b (G c).disk l))) (λ h. omega arith)
      go (in_cache p z l k) = let w : ◌≡◌ {A = ℕ} 0 1 = cc in absurd (omega arith)
      go (in_home p z l k) = let w : ◌≡◌ {A = ℕ} 0 1 = cc in absurd (omega arith)

  -- an output that is not B bytes
  wrong_output : (n : ℕ) → pair_refusal 2 c d ≡ 0 → n ≡ block_size (G c) → (length out ≡ n → ⊥) → Promised c d b out out (Refused 9)
  unfolding refuse ◌or_else◌
  wrong_output n z en h =
      refused_so c d b out 9 (sym (read_by c d z out b ∙ rw (ne_eqb (length out) (block_size (G c)) (λ q. h (q ∙ sym en))))) (λ q. omega arith)

  pub read_outside_short : (n : ℕ) → Outside n ≡ found_at c d b → (length out ≡ n → ⊥) → Promised c d b out out (Refused 9)
  read_outside_short n e h = go (where_is c d b (Outside n) e)
    where
      go : Where c d b (Outside n) → Promised c d b out out (Refused 9)
      go (in_none p z) = let w : ◌≡◌ {A = ℕ} 0 1 = cc in absurd (omega arith)
      go (in_nothing p z l) = wrong_output n z (cc) h
      go (in_cache p z l k) = let w : ◌≡◌ {A = ℕ} 0 1 = cc in absurd (omega arith)
      go (in_home p z l k) = let w : ◌≡◌ {A = ℕ} 0 1 = cc in absurd (omega arith)

  -- found, with the output right or wrong
  taken : (held : Found) (after : List ℕ) (z : pair_refusal 2 c d ≡ 0) → b < (G c).disk → length out ≡ block_size (G c)
      → place_in (G c) c b ≡ held → after ≡ contents (G c) c d b → Promised c d b out after held
  unfolding fetched_by output_after refuse ◌or_else◌
  taken held after z l len eh ea =
      let r : read_refusal c d out b ≡ 0 = read_by c d z out b ∙ rw (eq-eqb _ _ len, lt-ltb b (G c).disk l) in (
        sym eh ∙ sym (ap (λ (t : Bool). cond t (place_in (G c) c b) (Refused (read_refusal c d out b))) (eq-eqb _ _ r)),
        ea ∙ sym (ap (λ (t : Bool). cond t (contents (G c) c d b) out) (eq-eqb _ _ r)),
      )

  pub read_card : (at n i : ℕ) (after : List ℕ) (done : Bool) → Card at n i ≡ found_at c d b → Copied c at n out after done → done ≡ true
      → Promised c d b out after (Card at n i)
  unfolding contents block_at place_in
  read_card at n i after done e y t = go (where_is c d b (Card at n i) e)
    where
      go : Where c d b (Card at n i) → Promised c d b out after (Card at n i)
      go (in_none p z) = let w : ◌≡◌ {A = ℕ} 0 1 = cc in absurd (omega arith)
      go (in_nothing p z l) = let w : ◌≡◌ {A = ℕ} 0 1 = cc in absurd (omega arith)
      go (in_cache p z l k) =
          let ea : at ≡ block_place (G c) (current_of (G c) c b) = cc in
          let en : n ≡ block_size (G c) = cc in
          let ei : i ≡ find_entry (G c) c b = cc in
          taken (Card at n i) after z l (eqb-true _ _ (sym y.fits ∙ t) ∙ en) (rw k (λ s. Card (sym ea s) (sym en s) (sym ei s)))
          (y.after_is ∙ ap (λ (q : Bool). cond q (part c at n) out) t ∙ (λ s. part c (ea s) (en s)) ∙ rw k)
      go (in_home p z l k) = let w : ◌≡◌ {A = ℕ} 0 1 = cc in absurd (omega arith)

  pub read_disk : (at n : ℕ) (after : List ℕ) (done : Bool) → Disk at n ≡ found_at c d b → Copied d at n out after done → done ≡ true
      → Promised c d b out after (Disk at n)
  unfolding contents disk_block place_in
  read_disk at n after done e y t = go (where_is c d b (Disk at n) e)
    where
      go : Where c d b (Disk at n) → Promised c d b out after (Disk at n)
      go (in_none p z) = let w : ◌≡◌ {A = ℕ} 0 1 = cc in absurd (omega arith)
      go (in_nothing p z l) = let w : ◌≡◌ {A = ℕ} 0 1 = cc in absurd (omega arith)
      go (in_cache p z l k) = let w : ◌≡◌ {A = ℕ} 0 1 = cc in absurd (omega arith)
      go (in_home p z l k) =
          let ea : at ≡ disk_place (G c) b = cc in
          let en : n ≡ block_size (G c) = cc in
          taken (Disk at n) after z l (eqb-true _ _ (sym y.fits ∙ t) ∙ en) (rw k (λ s. Disk (sym ea s) (sym en s)))
          (y.after_is ∙ ap (λ (q : Bool). cond q (part d at n) out) t ∙ (λ s. part d (ea s) (en s)) ∙ rw k)

  -- found, and the output is of another length: on the card or on the disk
  pub read_short : (f : Found) (src : List ℕ) (at n i : ℕ) (after : List ℕ) (done : Bool) → f ≡ found_at c d b → (f ≡ Card at n i) ⊎ (f ≡ Disk at n)
      → Copied src at n out after done → done ≡ false → Promised c d b out after (Refused 9)
  read_short f src at n i after done e which y t =
      subst (λ (z : List ℕ). Promised c d b out z (Refused 9)) (sym (y.after_is ∙ ap (λ (q : Bool). cond q (part src at n) out) t))
      (go (where_is c d b f e) which)
    where
      wrong : length out ≡ n → ⊥
      wrong = eqb-false _ _ (sym y.fits ∙ t)

      go : Where c d b f → (f ≡ Card at n i) ⊎ (f ≡ Disk at n) → Promised c d b out out (Refused 9)
      go (in_none p z) (inl q) = let w : ◌≡◌ {A = ℕ} 0 1 = cc in absurd (omega arith)
      go (in_none p z) (inr q) = let w : ◌≡◌ {A = ℕ} 0 1 = cc in absurd (omega arith)
      go (in_nothing p z l) (inl q) = let w : ◌≡◌ {A = ℕ} 0 1 = cc in absurd (omega arith)
      go (in_nothing p z l) (inr q) = let w : ◌≡◌ {A = ℕ} 0 1 = cc in absurd (omega arith)
      go (in_cache p z l k) (inl q) = wrong_output n z (cc) wrong
      go (in_cache p z l k) (inr q) = let w : ◌≡◌ {A = ℕ} 0 1 = cc in absurd (omega arith)
      go (in_home p z l k) (inl q) = let w : ◌≡◌ {A = ℕ} 0 1 = cc in absurd (omega arith)
      go (in_home p z l k) (inr q) = wrong_output n z (cc) wrong

  pub read_card_short : (at n i : ℕ) (after : List ℕ) (done : Bool) → Card at n i ≡ found_at c d b → Copied c at n out after done → done ≡ false
      → Promised c d b out after (Refused 9)
  read_card_short at n i after done e y t = read_short (Card at n i) c at n i after done e (inl refl) y t

  pub read_disk_short : (at n : ℕ) (after : List ℕ) (done : Bool) → Disk at n ≡ found_at c d b → Copied d at n out after done → done ≡ false
      → Promised c d b out after (Refused 9)
  read_disk_short at n after done e y t = read_short (Disk at n) d at n 0 after done e (inr refl) y t

-- ---- who held it

module _ (r : ℕ) (c : List ℕ) (b : ℕ) where
  -- fetched from a place, or refused
  held_is : Found → Held → Type 0
  held_is f h = f ≡ fetched_by r c b → h ≡ held_after r c b

  by_cases : (f : Found) (h : Held) → (r ≡ 0 → cached (G c) c b ≡ true → f ≡ place_in (G c) c b → h ≡ HeldCard)
      → (r ≡ 0 → cached (G c) c b ≡ false → f ≡ place_in (G c) c b → h ≡ HeldDisk) → (f ≡ Refused r → h ≡ HeldRefused r) → held_is f h
  unfolding held_is fetched_by held_after
  by_cases f h a k n e = go (either (eqb r 0)) (either (cached (G c) c b))
    where
      go : (eqb r 0 ≡ true) ⊎ (eqb r 0 ≡ false) → (cached (G c) c b ≡ true) ⊎ (cached (G c) c b ≡ false)
          → h ≡ cond (eqb r 0) (cond (cached (G c) c b) HeldCard HeldDisk) (HeldRefused r)
      go (inl z) (inl y) = a (eqb-true _ _ z) y (e ∙ rw z) ∙ sym (rw (z, y))
      go (inl z) (inr y) = k (eqb-true _ _ z) y (e ∙ rw z) ∙ sym (rw (z, y))
      go (inr z) y = n (e ∙ rw z) ∙ sym (rw z)

  -- on the card, on the disk: what the place is where b is cached, and where not
  place_card : cached (G c) c b ≡ true → place_in (G c) c b ≡ Card (block_place (G c) (current_of (G c) c b)) (block_size (G c)) (find_entry (G c) c b)
  unfolding place_in
  place_card y = rw y

  place_disk : cached (G c) c b ≡ false → place_in (G c) c b ≡ Disk (disk_place (G c) b) (block_size (G c))
  unfolding place_in
  place_disk y = rw y

  pub held_card : (at n i : ℕ) → Card at n i ≡ fetched_by r c b → HeldCard ≡ held_after r c b
  unfolding held_is
  held_card at n i e =
      by_cases (Card at n i) HeldCard (λ z y f. refl)
      (λ z y f. let w = f ∙ place_disk y in let x : ◌≡◌ {A = ℕ} 0 1 = cc in absurd (omega arith))
      (λ f. let x : ◌≡◌ {A = ℕ} 0 1 = cc in absurd (omega arith)) e

  pub held_disk : (at n : ℕ) → Disk at n ≡ fetched_by r c b → HeldDisk ≡ held_after r c b
  unfolding held_is
  held_disk at n e =
      by_cases (Disk at n) HeldDisk
      (λ z y f. let w = f ∙ place_card y in let x : ◌≡◌ {A = ℕ} 0 1 = cc in absurd (omega arith))
      (λ z y f. refl) (λ f. let x : ◌≡◌ {A = ℕ} 0 1 = cc in absurd (omega arith)) e

  pub held_refused : (n : ℕ) → Refused n ≡ fetched_by r c b → HeldRefused n ≡ held_after r c b
  unfolding held_is
  held_refused n e =
      by_cases (Refused n) (HeldRefused n)
      (λ z y f. let w = f ∙ place_card y in let x : ◌≡◌ {A = ℕ} 0 1 = cc in absurd (omega arith))
      (λ z y f. let w = f ∙ place_disk y in let x : ◌≡◌ {A = ℕ} 0 1 = cc in absurd (omega arith))
      (λ f. let x : n ≡ r = cc in ap HeldRefused x) e

  -- a fetch never ends outside the disk
  pub held_outside : (n : ℕ) → Outside n ≡ fetched_by r c b → HeldRefused 10 ≡ held_after r c b
  unfolding held_is
  held_outside n e =
      by_cases (Outside n) (HeldRefused 10)
      (λ z y f. let w = f ∙ place_card y in let x : ◌≡◌ {A = ℕ} 0 1 = cc in absurd (omega arith))
      (λ z y f. let w = f ∙ place_disk y in let x : ◌≡◌ {A = ℕ} 0 1 = cc in absurd (omega arith))
      (λ f. let x : ◌≡◌ {A = ℕ} 0 1 = cc in absurd (omega arith)) e

-- ---- of a disk that is known by its length

module _ (c : List ℕ) (n b at size : ℕ) where
  of_length : (f : Found) → f ≡ found_in c n b → f ≡ found_at c (replicate n 0) b
  of_length f e = e ∙ ap (λ (m : ℕ). found_in c m b) (sym (length-replicate n 0)) ∙ find_by_length c (replicate n 0) b

  pub card_part_in : (i : ℕ) → Card at size i ≡ found_in c n b → at + size ≤ length c
  card_part_in i e = card_part c (replicate n 0) b at size i (of_length _ e)

  pub disk_part_in : Disk at size ≡ found_in c n b → (size ≤ 4096) × (at < 268435456)
  disk_part_in e = let w = disk_within c (replicate n 0) b at size (of_length _ e) in (w.1, w.2)
