-- What a fetch copies: each block from where it lies, on the card or in the window of the disk, is the block's contents, and the record is that which
-- stands for the recipe. Assumes nothing.
use Prim.Native.Nat.{ℕ, zero, suc, ◌+◌, ◌*◌, ◌-◌, ◌/◌, ◌≤◌, ◌<◌, min}
use mathlib.Core.List.{List, [], ◌++◌}
use mathlib.Core.Bool.{true, false, cond}
use mathlib.Core.Path.{◌≡◌, refl, sym, ap, subst, ◌∙◌}
use mathlib.Core.Logic.{◌⊎◌, inl, inr}
use native.Mathlib.Nat.{add-mul, suc-mul, mul-le-mul_right, div-eq_of_lt-le}
use native.Mathlib.Numerals.{add-one}
use native.Mathlib.Omega.{arith}
use lib.ListN.{length, get_or, take, drop, replicate, length-replicate}
use lib.Seq.{take-append-add}
use lib.Dec.{eqb}
use borrow.Author.Tests.{eq-eqb, ne_eqb, ltb-true}
use Rattle.numbers.specs.Bytes.{part, patch}
use Rattle.numbers.proofs.Laws.{length_part, part_all, patch_append}
use Rattle.protocol.specs.declared.Geometry.{Geometry}
use Rattle.protocol.specs.Below.{each_below}
use Rattle.protocol.specs.Layout.{good_geometry, geometry_of, block_size, disk_place, disk_length}
use Rattle.protocol.specs.Ring.{contents}
use Rattle.protocol.specs.Check.{refuse, ◌or_else◌, fit_refusal}
use Rattle.protocol.specs.Load.{pair_refusal}
use Rattle.protocol.specs.History.{Row}
use Rattle.protocol.proofs.Below.{either, absurd_bool, below_or_above, each_cong}
use Rattle.protocol.proofs.Checks.{Limits, limits, or_else_first, or_else_next, refuse_failed, or_else_none, refuse_none}
use Rattle.protocol.proofs.Holds.{or_else_assoc, none_first, pass}
use Rattle.protocol.proofs.Region.{block_ends}
use Rattle.ring.specs.declared.Fit.{Fit}
use Rattle.ring.specs.Fitted.{Opened}
use Rattle.lookup.specs.declared.Found.{Found}
use Rattle.lookup.specs.declared.Found.TheVariants.{Refused, Outside, Card, Disk}
use Rattle.lookup.specs.Place.{found_in}
use Rattle.lookup.proofs.Reading.{disk_long}
use Rattle.extent.proofs.Laws.{Lies, refused, outside, on_card_lem, on_disk_lem, lies, disk_four}
use Rattle.recipe.specs.declared.Fetched.TheVariants.{Is, Refused as RefusedFetch}
use Rattle.recipe.specs.Record.{good_record, record_length, count_in}
use Rattle.recipe.specs.Shelf.{in_range, blocks_for, is_blank, joined, length_of, record_of, nothing, broken, stands, standing, standing_refusal}
use Rattle.recipe.specs.Calls.{standing_on, fetch_refusal, fetched, fetched_output}
use Rattle.recipe.proofs.Fewest.{Fewest, record_blocks}
use Rattle.recipe.proofs.Lists.{each_long}
use Rattle.recipe.proofs.Record.{laid}
use Rattle.recipe.proofs.Refusals.{pair_good}
use Rattle.recipe_codec.specs.Front.{block_refusal}
use Rattle.recipes.specs.declared.Span.{Span}
use Rattle.recipes.specs.declared.Place.{Place}
use Rattle.recipes.specs.Reach.{Ranged, Window, Found4, held_in, Reached, nth_of, block_in, Reachable, record_in}
use Rattle.recipes.proofs.Laws.{First, first_is}

-- ---- the bytes of a block that was found

span : (xs : List ℕ) (at n : ℕ) → take (at + n - at) (drop at xs) ≡ part xs at n
unfolding part
span xs at n = let e : at + n - at ≡ n = omega arith in ap (λ (k : ℕ). take k (drop at xs)) e

pub held_card : (c w : List ℕ) (at : ℕ) (f : Found) (p n i : ℕ) → f ≡ Card p n i → take (p + n - p) (drop p c) ≡ held_in c w at f
held_card c w at f p n i e = span c p n ∙ ap (held_in c w at) (sym e)

pub held_disk : (c w : List ℕ) (at : ℕ) (f : Found) (p n : ℕ) → f ≡ Disk p n → take (at + n - at) (drop at w) ≡ held_in c w at f
held_disk c w at f p n e = span w at n ∙ ap (held_in c w at) (sym e)

pub held_else : (c w : List ℕ) (at : ℕ) (f : Found) → ((p n i : ℕ) → f ≡ Card p n i → ⊥) → ((p n : ℕ) → f ≡ Disk p n → ⊥) → [] ≡ held_in c w at f
held_else c w at (Refused r) p q = refl
held_else c w at (Outside n) p q = refl
held_else c w at (Card a n i) p q = absurd (p a n i refl)
held_else c w at (Disk a n) p q = absurd (q a n refl)

-- ---- where the four stand on the disk

module _ (c : List ℕ) (r : ℕ) (f : Fit) (o : Opened 2 2 c f) where
  pub ranged_unfit : (f.refusal ≡ 0 → ⊥) → Ranged c r (record { from = 0; bytes = 0 })
  ranged_unfit h =
      record { from = λ z. absurd (h (o.refusal_is ∙ z)); bytes = λ z. absurd (h (o.refusal_is ∙ z)); most = (omega arith, omega arith) }

  module _ (z : f.refusal ≡ 0) where
    own : f.geometry ≡ geometry_of c
    own = (o.framed z).geometry_is

    pub ranged_far : in_range f.geometry r ≡ false → Ranged c r (record { from = 0; bytes = 0 })
    ranged_far far =
        let never : in_range (geometry_of c) r ≡ true → ⊥ = λ e. absurd_bool e (ap (λ (g : Geometry). in_range g r) (sym own) ∙ far) in
        record { from = λ y e. absurd (never e); bytes = λ y e. absurd (never e); most = (omega arith, omega arith) }

    module _ (near : in_range f.geometry r ≡ true) (b from size : ℕ) (first : First r b) (ef : from ≡ b * block_size f.geometry) (es : size ≡ block_size f.geometry) where
      good : good_geometry f.geometry ≡ true
      good = (o.framed z).fitted.good

      place_is : from ≡ disk_place f.geometry (4 * r)
      unfolding disk_place
      place_is = ef ∙ ap (λ (k : ℕ). k * block_size f.geometry) (first_is f.geometry r b good first near)

      pub ranged_near : Ranged c r (record { from = from; bytes = 4 * size })
      unfolding disk_place in_range
      ranged_near =
          let m : Limits f.geometry = limits f.geometry good in
          let below = ltb-true (4 * r + 3) f.geometry.disk near in
          let within : 4 * r * block_size f.geometry + block_size f.geometry ≤ f.geometry.disk * block_size f.geometry = block_ends (4 * r) f.geometry.disk (block_size f.geometry) (omega arith) in
          record {
            from = λ y e. place_is ∙ ap (λ (g : Geometry). disk_place g (4 * r)) own;
            bytes = λ y e. ap (λ (k : ℕ). 4 * k) (es ∙ ap block_size own);
            most = (omega (arith, place_is, m.disk_data), omega (arith, m.size));
          }

pub first_small : (r b : ℕ) (g : Geometry) → good_geometry g ≡ true → First r b → in_range g r ≡ true → b ≤ 65536
unfolding in_range
first_small r b g h f e =
    let m : Limits g = limits g h in
    omega (arith, first_is g r b h f e, ltb-true (4 * r + 3) g.disk e, m.disk)

-- ---- the window of the disk

module _ (c d : List ℕ) (r : ℕ) (o : Span) (rg : Ranged c r o) where
  fits : pair_refusal 2 c d ≡ 0 → fit_refusal 2 2 c ≡ 0
  unfolding pair_refusal
  fits z = (or_else_none (fit_refusal 2 2 c) _ z).0

  pub window_none : length d < o.from + o.bytes → Window c d (length d) r []
  unfolding disk_place disk_length in_range
  window_none l =
      record {
        long = refl;
        own = λ z e.
            let g = geometry_of c in
            let f : o.from ≡ 4 * r * block_size g = rg.from (fits z) e in
            let b = rg.bytes (fits z) e in
            let ends : (4 * r + 3) * block_size g + block_size g ≤ g.disk * block_size g = block_ends (4 * r + 3) g.disk (block_size g) (ltb-true (4 * r + 3) g.disk e) in
            let three : (4 * r + 3) * block_size g ≡ 4 * r * block_size g + 3 * block_size g = add-mul (4 * r) 3 (block_size g) in
            absurd (omega (arith, disk_long c d z));
      }

  pub window_whole : Window c d (length d) r (take (o.from + o.bytes - o.from) (drop o.from d))
  window_whole =
      record {
        long = refl;
        own = λ z e. (λ t. part d (sym (rg.from (fits z) e) t) (sym (rg.bytes (fits z) e) t)) ∙ sym (span d o.from o.bytes);
      }

-- ---- refused

pub fetch_refused : (c d : List ℕ) (r : ℕ) (out : List ℕ) (x : ℕ) → x ≡ fetch_refusal c d r out → (x ≡ 0 → ⊥) → (RefusedFetch x ≡ fetched c d r out) × (out ≡ fetched_output c d r out)
unfolding fetched fetched_output
fetch_refused c d r out x e h =
    let f : eqb (fetch_refusal c d r out) 0 ≡ false = ne_eqb _ _ (λ z. h (e ∙ z)) in
    (ap RefusedFetch e ∙ rw f, rw f)

-- by checks 1 to 7 and 19
pub fetch_stopped : (c d : List ℕ) (n r : ℕ) (o : Place) → Found4 c n r o → (o.refusal ≡ 0 → ⊥) → length d ≡ n → (out : List ℕ)
    → (RefusedFetch o.refusal ≡ fetched c d r out) × (out ≡ fetched_output c d r out)
unfolding fetch_refusal
fetch_stopped c d n r o there h l out =
    fetch_refused c d r out o.refusal
    (or_else_first o.refusal _ (standing_refusal (standing_on c d r) or_else refuse 9 (eqb (length out) 1528)) (there.refusal_is d l) h
    ∙ or_else_assoc (pair_refusal 2 c d) (refuse 19 (in_range (geometry_of c) r)) _)
    h

-- ---- what the code asks on its way

-- the size of a block that was found is a block's
pub size_between : (c : List ℕ) (n r : ℕ) (o : Place) → Found4 c n r o → o.refusal ≡ 0 → (512 ≤ o.size) × (o.size ≤ 4096)
size_between c n r o there none =
    let d : List ℕ = replicate n 0 in
    let l : length d ≡ n = length-replicate {A = ℕ} n 0 in
    let (p, q) = or_else_none (pair_refusal 2 c d) _ (sym (there.refusal_is d l) ∙ none) in
    let m : Limits (geometry_of c) = limits (geometry_of c) (pair_good c d p) in
    (omega (arith, m.size, there.size_is none), omega (arith, m.size, there.size_is none))

-- a record that stands has at most 250 ingredients
pub record_between : (first : List ℕ) (k : ℕ) → block_refusal first ≡ 0 → k ≡ record_length (count_in first) → (0 < k) × (k ≤ 1528)
unfolding block_refusal record_length
record_between first k z e = go (either (is_blank first)) (either (good_record first))
  where
    go : (is_blank first ≡ true) ⊎ (is_blank first ≡ false) → (good_record first ≡ true) ⊎ (good_record first ≡ false) → (0 < k) × (k ≤ 1528)
    go (inl b) q = let y : ◌≡◌ {A = ℕ} 20 0 = rw b at z in absurd (omega arith)
    go (inr b) (inr q) = let y : ◌≡◌ {A = ℕ} 21 0 = rw (b, q) at z in absurd (omega arith)
    go (inr b) (inl q) = (omega (arith, (laid first q).few), omega (arith, (laid first q).few))

-- ---- the blocks that were found

module _ (c : List ℕ) (n r : ℕ) (o : Place) (there : Found4 c n r o) (none : o.refusal ≡ 0) (w : List ℕ) (sized : length w ≡ 4 * o.size) where
  size_is : o.size ≡ block_size (geometry_of c)
  size_is = there.size_is none

  -- checks 1 to 7 and 19 pass, on every disk of that length
  passes : (d : List ℕ) → length d ≡ n → (pair_refusal 2 c d ≡ 0) × (in_range (geometry_of c) r ≡ true)
  passes d l =
      let (p, q) = or_else_none (pair_refusal 2 c d) _ (sym (there.refusal_is d l) ∙ none) in
      (p, refuse_none 19 _ (omega arith) q)

  nth_found : (i : ℕ) → i < 4 → nth_of o.extent i ≡ found_in c n (4 * r + i)
  nth_found zero l = let z : 4 * r ≡ 4 * r + 0 = omega arith in ap (λ (e : List Found). nth_of e 0) (there.four none).are ∙ ap (found_in c n) z
  nth_found (suc zero) l = ap (λ (e : List Found). nth_of e 1) (there.four none).are
  nth_found (suc (suc zero)) l = ap (λ (e : List Found). nth_of e 2) (there.four none).are
  nth_found (suc (suc (suc zero))) l = ap (λ (e : List Found). nth_of e 3) (there.four none).are
  nth_found (suc (suc (suc (suc i)))) l = absurd (omega arith)

  nth_lies : (d : List ℕ) → length d ≡ n → (i : ℕ) → i < 4 → Lies c d (4 * r + i) (nth_of o.extent i)
  nth_lies d l i h = lies c d (4 * r + i) (nth_of o.extent i) (nth_found i h ∙ ap (λ (k : ℕ). found_in c k (4 * r + i)) (sym l))

  -- block i lies inside the disk, so it is found
  near : (d : List ℕ) → length d ≡ n → (i : ℕ) → i < 4 → (geometry_of c).disk ≤ 4 * r + i → ⊥
  unfolding in_range
  near d l i h k = omega (arith, ltb-true (4 * r + 3) (geometry_of c).disk (passes d l).1)

  some_disk : List ℕ
  some_disk = replicate n 0

  some_long : length some_disk ≡ n
  unfolding some_disk
  some_long = length-replicate {A = ℕ} n 0

  in_window_lem : (i : ℕ) → i < 4 → i * o.size + block_size (geometry_of c) ≤ length w
  in_window_lem i h = omega (arith, sized, size_is, block_ends i 4 o.size h)

  reached : (i : ℕ) → i < 4 → (f : Found) → Lies c some_disk (4 * r + i) f → Reached c w (i * o.size) o.size f
  reached i h f (refused p z) = absurd (z (passes some_disk some_long).0)
  reached i h f (outside p z l) = absurd (near some_disk some_long i h l)
  reached i h f (on_card_lem at j p z l m e) =
      record {
        on_card = λ q k j' y.
            let a : q ≡ at = cc in
            let b : k ≡ block_size (geometry_of c) = cc in
            omega arith;
        on_disk = λ q k y. let x : ◌≡◌ {A = ℕ} 0 1 = cc in absurd (omega arith);
        long = ap (λ (y : Found). length (held_in c w (i * o.size) y)) p ∙ length_part c at (block_size (geometry_of c)) m ∙ sym size_is;
      }
  reached i h f (on_disk_lem p z l m e) =
      record {
        on_card = λ q k j' y. let x : ◌≡◌ {A = ℕ} 0 1 = cc in absurd (omega arith);
        on_disk = λ q k y.
            let b : k ≡ block_size (geometry_of c) = cc in
            omega (arith, in_window_lem i h);
        long = ap (λ (y : Found). length (held_in c w (i * o.size) y)) p ∙ length_part w (i * o.size) (block_size (geometry_of c)) (in_window_lem i h) ∙ sym size_is;
      }

  pub reachable : Reachable c w o.size o.extent
  reachable = record { at = λ i h. reached i h (nth_of o.extent i) (nth_lies some_disk some_long i h) }

  -- on a disk whose window w is, each block is what the recipe's is
  module _ (d : List ℕ) (win : Window c d n r w) where
    window_is_lem : part d (disk_place (geometry_of c) (4 * r)) (4 * block_size (geometry_of c)) ≡ w
    window_is_lem = win.own (passes d win.long).0 (passes d win.long).1

    held_is_lem : (i : ℕ) → i < 4 → (f : Found) → Lies c d (4 * r + i) f → held_in c w (i * o.size) f ≡ contents (geometry_of c) c d (4 * r + i)
    held_is_lem i h f (refused p z) = absurd (z (passes d win.long).0)
    held_is_lem i h f (outside p z l) = absurd (near d win.long i h l)
    held_is_lem i h f (on_card_lem at j p z l m e) = ap (held_in c w (i * o.size)) p ∙ e
    held_is_lem i h f (on_disk_lem p z l m e) =
        ap (held_in c w (i * o.size)) p
        ∙ (λ t. part (sym window_is_lem t) (i * size_is t) (block_size (geometry_of c)))
        ∙ disk_four (geometry_of c) d (4 * r) i h
        ∙ e

    block_is : (i : ℕ) → i < 4 → block_in c w o.size o.extent i ≡ contents (geometry_of c) c d (4 * r + i)
    unfolding block_in
    block_is i h = held_is_lem i h (nth_of o.extent i) (nth_lies d win.long i h)

    abbrev row : Row
    row = contents (geometry_of c) c d

    first_is_block : (first : List ℕ) → first ≡ held_in c w 0 (nth_of o.extent 0) → first ≡ row (4 * r)
    unfolding block_in
    first_is_block first e =
        let z : 4 * r + 0 ≡ 4 * r = omega arith in
        let y : 0 ≡ 0 * o.size = omega arith in
        e ∙ ap (λ (k : ℕ). held_in c w k (nth_of o.extent 0)) y ∙ block_is 0 (omega arith) ∙ ap row z

    row-long : (i : ℕ) → i < 4 → length (row (4 * r + i)) ≡ block_size (geometry_of c)
    unfolding block_in
    row-long i h = ap length (sym (block_is i h)) ∙ (reachable.at i h).long ∙ size_is

    -- what is copied is the record that stands
    module _ (few : count_in (row (4 * r)) ≤ 250) where
      fits_blocks : Fewest (block_size (geometry_of c)) (record_length (count_in (row (4 * r)))) (blocks_for (geometry_of c) (record_length (count_in (row (4 * r)))))
      fits_blocks = record_blocks (geometry_of c) (count_in (row (4 * r))) (pair_good c d (passes d win.long).0) few

      record_of-long : length (record_of (geometry_of c) row r) ≡ record_length (count_in (row (4 * r)))
      unfolding record_of length_of joined
      record_of-long =
          let n' = record_length (count_in (row (4 * r))) in
          let q = blocks_for (geometry_of c) n' in
          length_part (each_below (λ i. row (4 * r + i)) q) 0 n'
          (omega (arith, fits_blocks.holds, each_long (λ i. row (4 * r + i)) (block_size (geometry_of c)) q (λ i l. row-long i (omega (arith, fits_blocks.few)))))

      record_same : (k : ℕ) → k ≡ record_length (count_in (row (4 * r))) → record_in c w o.size o.extent k ≡ record_of (geometry_of c) row r
      unfolding record_in record_of length_of joined blocks_for
      record_same k e =
          (λ t. part (each_below (block_in c w o.size o.extent) ((e t + (size_is t - 1)) / size_is t)) 0 (e t))
          ∙ ap (λ (ys : List ℕ). part ys 0 (record_length (count_in (row (4 * r)))))
          (each_cong (block_in c w o.size o.extent) (λ i. row (4 * r + i)) (blocks_for (geometry_of c) (record_length (count_in (row (4 * r))))) (λ i l. block_is i (omega (arith, fits_blocks.few))))

    -- what the first block says
    module _ (first : List ℕ) (ef : first ≡ held_in c w 0 (nth_of o.extent 0)) where
      says : block_refusal first ≡ standing_refusal (standing_on c d r)
      unfolding block_refusal standing_on standing
      says = go (either (is_blank (row (4 * r)))) (either (good_record (row (4 * r))))
        where
          e : first ≡ row (4 * r)
          e = first_is_block first ef

          go : (is_blank (row (4 * r)) ≡ true) ⊎ (is_blank (row (4 * r)) ≡ false) → (good_record (row (4 * r)) ≡ true) ⊎ (good_record (row (4 * r)) ≡ false)
              → cond (is_blank first) 20 (cond (good_record first) 0 21) ≡ standing_refusal (cond (is_blank (row (4 * r))) nothing (cond (good_record (row (4 * r))) (stands (record_of (geometry_of c) row r)) broken))
          go (inl b) q = ap (λ (y : List ℕ). cond (is_blank y) 20 (cond (good_record y) 0 21)) e ∙ rw b
          go (inr b) (inl q) = ap (λ (y : List ℕ). cond (is_blank y) 20 (cond (good_record y) 0 21)) e ∙ rw (b, q)
          go (inr b) (inr q) = ap (λ (y : List ℕ). cond (is_blank y) 20 (cond (good_record y) 0 21)) e ∙ rw (b, q)

      -- refused by all checks but the record's
      fetch_refusal_lem : (out : List ℕ) → fetch_refusal c d r out ≡ block_refusal first or_else refuse 9 (eqb (length out) 1528)
      unfolding fetch_refusal
      fetch_refusal_lem out =
          none_first _ (passes d win.long).0 ∙ none_first _ (pass 19 (passes d win.long).1)
          ∙ ap (λ (k : ℕ). k or_else refuse 9 (eqb (length out) 1528)) (sym says)

      refusing : (out : List ℕ) (x : ℕ) → x ≡ fetch_refusal c d r out → (x ≡ 0 → ⊥) → (RefusedFetch x ≡ fetched c d r out) × (out ≡ fetched_output c d r out)
      refusing out x e h = fetch_refused c d r out x e h

      pub fetch_own : (out : List ℕ) (x : ℕ) → x ≡ block_refusal first → (x ≡ 0 → ⊥) → (RefusedFetch x ≡ fetched c d r out) × (out ≡ fetched_output c d r out)
      fetch_own out x e h = refusing out x (or_else_first x (block_refusal first) _ e h ∙ sym (fetch_refusal_lem out)) h

      pub fetch_nine : (out : List ℕ) → block_refusal first ≡ 0 → (length out ≡ 1528 → ⊥) → (RefusedFetch 9 ≡ fetched c d r out) × (out ≡ fetched_output c d r out)
      fetch_nine out z h =
          refusing out 9 (or_else_next 9 (block_refusal first) _ (sym z) (refuse_failed 9 _ (ne_eqb _ _ h)) ∙ sym (fetch_refusal_lem out)) (λ y. omega arith)

      -- the record stands there
      record_stands : block_refusal first ≡ 0 → (standing_on c d r ≡ stands (record_of (geometry_of c) row r)) × (good_record (row (4 * r)) ≡ true)
      unfolding block_refusal standing_on standing
      record_stands z = go (either (is_blank (row (4 * r)))) (either (good_record (row (4 * r))))
        where
          e : first ≡ row (4 * r)
          e = first_is_block first ef

          zero_there : ◌≡◌ {A = ℕ} (cond (is_blank (row (4 * r))) 20 (cond (good_record (row (4 * r))) 0 21)) 0
          zero_there = ap (λ (y : List ℕ). cond (is_blank y) 20 (cond (good_record y) 0 21)) (sym e) ∙ z

          go : (is_blank (row (4 * r)) ≡ true) ⊎ (is_blank (row (4 * r)) ≡ false) → (good_record (row (4 * r)) ≡ true) ⊎ (good_record (row (4 * r)) ≡ false)
              → (cond (is_blank (row (4 * r))) nothing (cond (good_record (row (4 * r))) (stands (record_of (geometry_of c) row r)) broken) ≡ stands (record_of (geometry_of c) row r)) × (good_record (row (4 * r)) ≡ true)
          go (inl b) q = let y : ◌≡◌ {A = ℕ} 20 0 = rw b at zero_there in absurd (omega arith)
          go (inr b) (inr q) = let y : ◌≡◌ {A = ℕ} 21 0 = rw (b, q) at zero_there in absurd (omega arith)
          go (inr b) (inl q) = (rw (b, q), q)

      pub fetch_done : (out out' : List ℕ) (k : ℕ) → block_refusal first ≡ 0 → length out ≡ 1528 → k ≡ record_length (count_in first)
          → out' ≡ patch out 0 (record_in c w o.size o.extent k) → (Is k ≡ fetched c d r out) × (out' ≡ fetched_output c d r out)
      unfolding fetched fetched_output
      fetch_done out out' k z l ek eo =
          let there-so = (record_stands z).0 in
          let passed : fetch_refusal c d r out ≡ 0 = fetch_refusal_lem out ∙ none_first _ z ∙ pass 9 (eq-eqb _ _ l) in
          let few = (laid (row (4 * r)) (record_stands z).1).few in
          let same = ek ∙ ap (λ (y : List ℕ). record_length (count_in y)) (first_is_block first ef) in (
            rw (passed, there-so) (ap Is (same ∙ sym (record_of-long few))),
            rw (passed, there-so) (eo ∙ ap (patch out 0) (record_same few k same)),
          )

-- a window that is not of four blocks is no disk's
pub window_wrong : (c d : List ℕ) (n r : ℕ) (o : Place) → Found4 c n r o → o.refusal ≡ 0 → (w : List ℕ) → (length w ≡ 4 * o.size → ⊥) → Window c d n r w → ⊥
unfolding disk_place disk_length in_range
window_wrong c d n r o there none w wrong win =
    let (p, q) = or_else_none (pair_refusal 2 c d) _ (sym (there.refusal_is d win.long) ∙ none) in
    let near = refuse_none 19 _ (omega arith) q in
    let g = geometry_of c in
    let ends : (4 * r + 3) * block_size g + block_size g ≤ g.disk * block_size g = block_ends (4 * r + 3) g.disk (block_size g) (ltb-true (4 * r + 3) g.disk near) in
    let three : (4 * r + 3) * block_size g ≡ 4 * r * block_size g + 3 * block_size g = add-mul (4 * r) 3 (block_size g) in
    let inside : 4 * r * block_size g + 4 * block_size g ≤ length d = omega (arith, disk_long c d p) in
    let long : length w ≡ 4 * block_size g = ap length (sym (win.own p near)) ∙ length_part d (4 * r * block_size g) (4 * block_size g) inside in
    wrong (long ∙ ap (λ (k : ℕ). 4 * k) (sym (there.size_is none)))

-- ---- the record copied block by block

-- what stands at place i is block i
pub nth_is : (e : List Found) (i : ℕ) → i < 3 → get_or e i (Refused 0) ≡ nth_of e i
nth_is e i l = let m : i ≡ min i 3 = omega arith in ap (λ (k : ℕ). get_or e k (Refused 0)) m

module _ (c w : List ℕ) (size : ℕ) (e : List Found) (re : Reachable c w size e) (n : ℕ) (low : 512 ≤ size) (few : n ≤ 1528) where
  -- the blocks passed
  abbrev pub blocks : ℕ → List ℕ
  blocks i = each_below (block_in c w size e) i

  pub places_few : (i at : ℕ) → at ≡ i * size → at < n → i < 3
  places_few i at ea l = go (below_or_above i 3)
    where
      go : (i < 3) ⊎ (3 ≤ i) → i < 3
      go (inl b) = b
      go (inr b) = let many : 3 * size ≤ i * size = mul-le-mul_right size b in absurd (omega arith)

  blocks_long : (i : ℕ) → i ≤ 4 → length (blocks i) ≡ i * size
  unfolding block_in
  blocks_long i l = each_long (block_in c w size e) size i (λ j m. (re.at j (omega arith)).long)

  -- block i is there
  pub there : (i at : ℕ) (f : Found) → at ≡ i * size → at < n → f ≡ nth_of e i → Reached c w at size f
  there i at f ea l ef =
      let m = places_few i at ea l in
      subst (λ (k : ℕ). Reached c w k size f) (sym ea) (subst (Reached c w (i * size) size) (sym ef) (re.at i (omega arith)))

  held : (i at : ℕ) (f : Found) (block : List ℕ) → at ≡ i * size → f ≡ nth_of e i → block ≡ held_in c w at f → block ≡ block_in c w size e i
  unfolding block_in
  held i at f block ea ef eb = eb ∙ (λ t. held_in c w (ea t) (ef t))

  pub block_long : (i at : ℕ) (f : Found) (block : List ℕ) → at ≡ i * size → at < n → f ≡ nth_of e i → block ≡ held_in c w at f → length block ≡ size
  block_long i at f block ea l ef eb = ap length eb ∙ (there i at f ea l ef).long

  module _ (out : List ℕ) (i at : ℕ) (f : Found) (block now : List ℕ) (ea : at ≡ i * size) (l : at < n) (ef : f ≡ nth_of e i) (eb : block ≡ held_in c w at f) (eo : now ≡ patch out 0 (blocks i)) where
    one_more : (m : ℕ) → patch now at (part block 0 m) ≡ patch out 0 (blocks i ++ part (block_in c w size e i) 0 m)
    one_more m =
        let few-so = places_few i at ea l in
        let z : at ≡ 0 + length (blocks i) = omega (arith, blocks_long i (omega arith)) in
        (λ t. patch (eo t) (z t) (part (held i at f block ea ef eb t) 0 m)) ∙ sym (patch_append out 0 (blocks i) (part (block_in c w size e i) 0 m))

    pub copy_turn : patch now at (part block 0 size) ≡ patch out 0 (blocks (i + 1))
    unfolding each_below
    copy_turn =
        let few-so = places_few i at ea l in
        let long : length (block_in c w size e i) ≡ size = ap length (sym (held i at f block ea ef eb)) ∙ block_long i at f block ea l ef eb in
        one_more size ∙ ap (λ (ys : List ℕ). patch out 0 (blocks i ++ ys)) (part_all (block_in c w size e i) size long) ∙ ap (λ (k : ℕ). patch out 0 (blocks k)) (sym (add-one i))

    pub copy_end : n - at ≤ size → patch now at (part block 0 (n - at)) ≡ patch out 0 (record_in c w size e n)
    unfolding record_in each_below part
    copy_end last =
        let few-so = places_few i at ea l in
        let split : i * size + (n - at) ≡ n = omega arith in
        let count : (n + (size - 1)) / size ≡ suc i =
        div-eq_of_lt-le {k = suc i} size (omega (arith, suc-mul i size)) (omega (arith, suc-mul i size, add-mul (suc i) 1 size)) in
        one_more (n - at)
        ∙ ap (patch out 0)
        (sym
        (ap (λ (k : ℕ). take n (blocks k)) count
        ∙ (λ t. take (sym split t) (blocks i ++ block_in c w size e i))
        ∙ ap (λ (k : ℕ). take (k + (n - at)) (blocks i ++ block_in c w size e i)) (sym (blocks_long i (omega arith)))
        ∙ take-append-add (blocks i) (block_in c w size e i) (n - at)))
