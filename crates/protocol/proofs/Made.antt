-- What each store and each run of the operations leaves: which part of the card or of the disk changes, and what is read there afterwards.
-- Assumes nothing.
use Prim.Native.Nat.{ℕ, ◌+◌, ◌*◌, ◌/◌, ◌≤◌, ◌<◌}
use mathlib.Core.List.{List}
use mathlib.Core.Path.{◌≡◌, refl, sym, ap, subst, ◌∙◌}
use mathlib.Core.Logic.{◌⊎◌, inl, inr, ⊎_elim}
use native.Mathlib.Omega.{arith}
use lib.ListN.{length}
use Rattle.numbers.specs.Bytes.{bytes_be, part, patch, number_at}
use Rattle.numbers.proofs.Laws.{length_bytes, length-patch, number_patch_same}
use Rattle.protocol.specs.declared.Entry.{Entry}
use Rattle.protocol.specs.declared.Geometry.{Geometry}
use Rattle.protocol.specs.Layout.{block_size, block_at, disk_block, slot_place, entry_place, block_place, disk_place, card_length, disk_length}
use Rattle.protocol.specs.Entry.{entry_bytes, entry_at}
use Rattle.protocol.specs.Ring.{head_of, tail_of, slot_at}
use Rattle.protocol.specs.Store.{card, disk, Store, is_on, stored_on, made_on, words, sectors, units, entry_store, word_store, slot_store, head_store, tail_store}
use Rattle.protocol.proofs.Below.{below_or_above}
use Rattle.protocol.proofs.Checks.{Limits}
use Rattle.protocol.proofs.Codec.{EntryFits, entry_read_back, length_entry}
use Rattle.protocol.proofs.Region.{Region, head, tail, slot, entry, block, place, size, Inside, whole, cell, cell_other, in_card, block_ends, regions_apart, place_slot, place_entry, place_block}
use Rattle.protocol.proofs.Shape.{Changed}
use Rattle.protocol.proofs.Stores.{Confined, Some, confined_part, confined_elsewhere, units_confined, units_stored, length-made}

-- bytes put over a part change that part alone
put_changes : (g : Geometry) (c : List ℕ) (r : Region) (at : ℕ) (bs : List ℕ) → Inside g r → place g r ≡ at → length bs ≡ size g r
    → Changed g r c (patch c at bs)
put_changes g c r at bs h e n =
    record { sized = length-patch c at bs; others = λ s i d. cell_other g c r s at bs h i d (omega arith) (omega arith) }

-- ---- single stores

module _ (g : Geometry) (c : List ℕ) (i : ℕ) (x : Entry) (l : i < g.blocks) where
  pub entry_changed : Changed g (entry i) c (stored_on card (entry_store g i x) c)
  unfolding stored_on is_on entry_store
  entry_changed = put_changes g c (entry i) (entry_place g i) (entry_bytes x) l (place_entry g i) (length_entry x)

  pub entry_stored : length c ≡ card_length g → EntryFits x → entry_at g (stored_on card (entry_store g i x) c) i ≡ x
  unfolding stored_on is_on entry_store entry_at
  entry_stored e f =
      let h : entry_place g i + 16 ≤ length c = omega (arith, in_card g (entry i) (omega arith) l, place_entry g i) in
      entry_read_back c (entry_place g i) x h f

module _ (g : Geometry) (c : List ℕ) (v : ℕ) where
  pub head_changed : Changed g head c (stored_on card (head_store v) c)
  unfolding stored_on is_on head_store word_store place
  head_changed = put_changes g c head 64 (bytes_be 8 v) (omega arith) refl (length_bytes 8 v)

  pub tail_changed : Changed g tail c (stored_on card (tail_store v) c)
  unfolding stored_on is_on tail_store word_store place
  tail_changed = put_changes g c tail 72 (bytes_be 8 v) (omega arith) refl (length_bytes 8 v)

  pub slot_changed : (i : ℕ) → i < g.slots → Changed g (slot i) c (stored_on card (slot_store i v) c)
  unfolding stored_on is_on slot_store word_store
  slot_changed i l = put_changes g c (slot i) (slot_place i) (bytes_be 8 v) l (place_slot g i) (length_bytes 8 v)

module _ (g : Geometry) (c : List ℕ) (v : ℕ) (e : length c ≡ card_length g) (f : v < 65536 + 65536) where
  word_back : (at : ℕ) → at + 8 ≤ length c → number_at (patch c at (bytes_be 8 v)) at 8 ≡ v
  word_back at h = number_patch_same c at 8 v h (omega arith)

  pub head_stored : head_of (stored_on card (head_store v) c) ≡ v
  unfolding stored_on is_on head_store word_store head_of card_length
  head_stored = word_back 64 (omega arith)

  pub tail_stored : tail_of (stored_on card (tail_store v) c) ≡ v
  unfolding stored_on is_on tail_store word_store tail_of card_length
  tail_stored = word_back 72 (omega arith)

  pub slot_stored : (i : ℕ) → i < g.slots → slot_at (stored_on card (slot_store i v) c) i ≡ v
  unfolding stored_on is_on slot_store word_store slot_at
  slot_stored i l = word_back (slot_place i) (omega (arith, in_card g (slot i) (omega arith) l, place_slot g i))

-- a store on the card leaves the disk
pub entry_elsewhere : (g : Geometry) (i : ℕ) (x : Entry) (d : List ℕ) → stored_on disk (entry_store g i x) d ≡ d
unfolding stored_on is_on entry_store
entry_elsewhere g i x d = refl

pub tail_elsewhere : (v : ℕ) (d : List ℕ) → stored_on disk (tail_store v) d ≡ d
unfolding stored_on is_on word_store tail_store
tail_elsewhere v d = refl

pub head_elsewhere : (v : ℕ) (d : List ℕ) → stored_on disk (head_store v) d ≡ d
unfolding stored_on is_on word_store head_store
head_elsewhere v d = refl

pub slot_elsewhere : (i v : ℕ) (d : List ℕ) → stored_on disk (slot_store i v) d ≡ d
unfolding stored_on is_on word_store slot_store
slot_elsewhere i v d = refl

-- ---- the words of a data block

module _ (g : Geometry) (fit : Limits g) (q : ℕ) (bs : List ℕ) (l : q < g.blocks) where
  words_confined : Confined card (place g (block q)) (block_size g) (words g q bs).stores
  unfolding words
  words_confined =
      subst (λ (n : ℕ). Confined card (place g (block q)) n (units card 8 (block_size g / 8) (block_place g q) bs)) (whole g fit).in_words
      (subst (λ (at : ℕ). Confined card at (block_size g / 8 * 8) (units card 8 (block_size g / 8) (block_place g q) bs)) (sym (place_block g q))
      (units_confined card 8 (block_size g / 8) (block_place g q) bs))

  -- whichever of its stores are made, nothing outside the block has changed
  pub words_changed : (ts : List Store) → Some ts (words g q bs).stores → (c : List ℕ) → Changed g (block q) c (made_on card ts c)
  unfolding cell
  words_changed ts w c =
      record {
        sized = length-made card ts c;
        others = λ s i d.
            confined_part card (place g (block q)) (block_size g) ts c (place g s) (size g s)
            (w card (place g (block q)) (block_size g) words_confined)
            (regions_apart g (block q) s l i d);
      }

  pub words_changed_all : (c : List ℕ) → Changed g (block q) c (made_on card (words g q bs).stores c)
  words_changed_all c = words_changed (words g q bs).stores (λ m at n h. h) c

  pub words_elsewhere : (ts : List Store) → Some ts (words g q bs).stores → (d : List ℕ) → made_on disk ts d ≡ d
  unfolding is_on
  words_elsewhere ts w d =
      confined_elsewhere card disk (place g (block q)) (block_size g) ts d (w card (place g (block q)) (block_size g) words_confined) refl

  -- and once it is made, the block holds the bytes
  pub words_stored : (c : List ℕ) → length bs ≡ block_size g → length c ≡ card_length g → block_at g (made_on card (words g q bs).stores c) q ≡ bs
  unfolding words block_at
  words_stored c n e =
      let h : block_place g q + length bs ≤ length c = omega (arith, in_card g (block q) (omega arith) l, place_block g q) in
      ap (part _ (block_place g q)) (sym n) ∙ units_stored card 8 (block_size g / 8) (block_place g q) bs c ((whole g fit).in_words ∙ sym n) h

-- ---- the sectors of a disk block

pub in_disk_lem : (g : Geometry) (b : ℕ) → b < g.disk → disk_place g b + block_size g ≤ disk_length g
unfolding disk_place disk_length
in_disk_lem g b l = block_ends b g.disk (block_size g) l

homes_apart : (g : Geometry) (a b : ℕ) → (a ≡ b → ⊥) → (disk_place g b + block_size g ≤ disk_place g a) ⊎ (disk_place g a + block_size g ≤ disk_place g b)
unfolding disk_place
homes_apart g a b h =
    ⊎_elim
    (λ l. inr (block_ends a b (block_size g) l))
    (λ l.
    ⊎_elim
    (λ m. inl (block_ends b a (block_size g) m))
    (λ m. absurd (h (omega arith)))
    (below_or_above b a))
    (below_or_above a b)

module _ (g : Geometry) (fit : Limits g) (b : ℕ) (bs : List ℕ) where
  sectors_confined : Confined disk (disk_place g b) (block_size g) (sectors g b bs).stores
  unfolding sectors
  sectors_confined =
      subst (λ (n : ℕ). Confined disk (disk_place g b) n (units disk 512 (block_size g / 512) (disk_place g b) bs)) (whole g fit).in_sectors
      (units_confined disk 512 (block_size g / 512) (disk_place g b) bs)

  -- whichever of its stores are made, no other disk block has changed
  pub sectors_others : (ts : List Store) → Some ts (sectors g b bs).stores → (d : List ℕ) (a : ℕ) → (a ≡ b → ⊥)
      → disk_block g (made_on disk ts d) a ≡ disk_block g d a
  unfolding disk_block
  sectors_others ts w d a h =
      confined_part disk (disk_place g b) (block_size g) ts d (disk_place g a) (block_size g) (w disk (disk_place g b) (block_size g) sectors_confined)
      (homes_apart g a b h)

  pub sectors_elsewhere : (ts : List Store) → Some ts (sectors g b bs).stores → (c : List ℕ) → made_on card ts c ≡ c
  unfolding is_on
  sectors_elsewhere ts w c =
      confined_elsewhere disk card (disk_place g b) (block_size g) ts c (w disk (disk_place g b) (block_size g) sectors_confined) refl

  pub sectors_stored : (d : List ℕ) → length bs ≡ block_size g → length d ≡ disk_length g → b < g.disk
      → disk_block g (made_on disk (sectors g b bs).stores d) b ≡ bs
  unfolding sectors disk_block
  sectors_stored d n e l =
      let h : disk_place g b + length bs ≤ length d = omega (arith, in_disk_lem g b l) in
      ap (part _ (disk_place g b)) (sym n) ∙ units_stored disk 512 (block_size g / 512) (disk_place g b) bs d ((whole g fit).in_sectors ∙ sym n) h
