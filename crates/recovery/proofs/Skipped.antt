-- A store that would change no byte is told by the fields: an entry's bytes and Tail's spell what they say, and nothing else does.
-- By the codec's two laws, written back and read back. Assumes nothing.
use Prim.Native.Nat.{ℕ, ◌+◌, ◌≤◌, ◌<◌}
use mathlib.Core.List.{List, [], ◌∷◌}
use mathlib.Core.Bool.{Bool, true, false, cond}
use mathlib.Core.Path.{◌≡◌, refl, sym, ap, ◌∙◌}
use native.Mathlib.Omega.{arith}
use lib.ListN.{length}
use lib.Dec.{eqb}
use borrow.Author.Tests.{eq-eqb, eqb-true}
use Rattle.numbers.specs.Bytes.{be, bytes_be, part, patch, Bytes}
use Rattle.numbers.proofs.Laws.{be_bytes, length_bytes, number_below_lem}
use Rattle.protocol.specs.declared.Entry.{Entry}
use Rattle.protocol.specs.declared.Geometry.{Geometry}
use Rattle.protocol.specs.Layout.{version_of, card_length, entry_place}
use Rattle.protocol.specs.Entry.{FRESH, unused, entry_of, entry_bytes, entry_in, entry_at, undone_flags, undone}
use Rattle.protocol.specs.Ring.{tail_of, head_of}
use Rattle.protocol.specs.Store.{Store, single, entry_store, word_store, tail_store}
use Rattle.protocol.specs.Recover.{same_bytes, if_changing}
use Rattle.protocol.proofs.Below.{absurd_bool, and_left, and_right, and_both}
use Rattle.protocol.proofs.Codec.{EntryFits, entry_read_back, entry_write_back, bytes_number, length_entry}
use Rattle.protocol.proofs.Recovered.{same_bytes_lem}
use Rattle.protocol.proofs.Region.{entry, in_card, place_entry}
use Rattle.recovery.specs.Went.{same_entry}

-- ---- rows of bytes and entries

bytes_same : (xs : List ℕ) → same_bytes xs xs ≡ true
unfolding same_bytes
bytes_same [] = refl
bytes_same (x ∷ xs) = and_both (eq-eqb x x refl) (bytes_same xs)

pub same_fields : (a b : Entry) → same_entry a b ≡ true → a ≡ b
unfolding same_entry
same_fields a b h =
    let r = and_right (eqb a.flags b.flags) _ h in
    let s = and_right (eqb a.number b.number) _ r in
    λ t.
    record {
      flags = eqb-true a.flags b.flags (and_left (eqb a.flags b.flags) _ h) t;
      number = eqb-true a.number b.number (and_left (eqb a.number b.number) _ r) t;
      previous = eqb-true a.previous b.previous (and_left (eqb a.previous b.previous) _ s) t;
      current = eqb-true a.current b.current (and_right (eqb a.previous b.previous) _ s) t;
    }

fields_same : (a : Entry) → same_entry a a ≡ true
unfolding same_entry
fields_same a =
    and_both (itself a.flags) (and_both (itself a.number) (and_both (itself a.previous) (itself a.current)))
  where
    itself : (x : ℕ) → eqb x x ≡ true
    itself x = eq-eqb x x refl

-- ---- stores left out and made

-- the bytes bs stand at the place of s, so that what s puts there is compared with them
module _ (c : List ℕ) (s : Store) (bs : List ℕ) (stands : part c s.place (length s.bytes) ≡ bs) where
  left_out_lem : bs ≡ s.bytes → if_changing c s ≡ []
  unfolding if_changing
  left_out_lem e = rw (stands, e, bytes_same s.bytes)

  changing : (bs ≡ s.bytes → ⊥) → if_changing c s ≡ single s
  unfolding if_changing
  changing n = rw stands (go (same_bytes bs s.bytes) refl)
    where
      go : (b : Bool) → same_bytes bs s.bytes ≡ b → cond b [] (single s) ≡ single s
      go true e = absurd (n (same_bytes_lem bs s.bytes e))
      go false e = refl

-- ---- an entry

undone_fits : (v : ℕ) (e : Entry) → EntryFits e → EntryFits (undone v e)
unfolding undone
undone_fits v e f = go (eqb e.previous FRESH)
  where
    go : (b : Bool) → EntryFits (cond b unused (entry_of (undone_flags v e) e.number e.previous e.previous))
    go true = record { number = omega arith; previous = omega arith; current = omega arith }
    go false = record { number = f.number; previous = f.previous; current = f.previous }

module _ (g : Geometry) (c : List ℕ) (n : length c ≡ card_length g) (b : Bytes c) (i : ℕ) (l : i < g.blocks) where
  on_card_lem : entry_place g i + 16 ≤ length c
  on_card_lem = omega (arith, in_card g (entry i) (omega arith) l, place_entry g i)

  read_fits : EntryFits (entry_at g c i)
  unfolding entry_at entry_in
  read_fits =
      let h = on_card_lem in
      record {
        number = number_below_lem c (entry_place g i + 1) 7 b (omega arith);
        previous = number_below_lem c (entry_place g i + 8) 4 b (omega arith);
        current = number_below_lem c (entry_place g i + 12) 4 b (omega arith);
      }

  entry_stands : (x : Entry) → part c (entry_store g i x).place (length (entry_store g i x).bytes) ≡ entry_bytes (entry_at g c i)
  unfolding entry_store entry_at
  entry_stands x =
      ap (part c (entry_place g i)) (length_entry x) ∙ sym (entry_write_back c (entry_place g i) b on_card_lem)

  -- entries of the same bytes are the same
  bytes_tell : (x y : Entry) → EntryFits x → EntryFits y → entry_bytes x ≡ entry_bytes y → x ≡ y
  bytes_tell x y p q e =
      sym (entry_read_back c (entry_place g i) x on_card_lem p)
      ∙ ap (λ (bs : List ℕ). entry_in (patch c (entry_place g i) bs) (entry_place g i)) e
      ∙ entry_read_back c (entry_place g i) y on_card_lem q

  pub entry_left_out : same_entry (entry_at g c i) (undone (version_of c) (entry_at g c i)) ≡ true → if_changing c (entry_store g i (undone (version_of c) (entry_at g c i))) ≡ []
  unfolding entry_store
  entry_left_out h = left_out_lem c _ _ (entry_stands _) (ap entry_bytes (same_fields _ _ h))

  pub entry_changing : same_entry (entry_at g c i) (undone (version_of c) (entry_at g c i)) ≡ false
      → if_changing c (entry_store g i (undone (version_of c) (entry_at g c i))) ≡ single (entry_store g i (undone (version_of c) (entry_at g c i)))
  unfolding entry_store
  entry_changing h =
      changing c _ _ (entry_stands _)
      (λ e.
      let x = entry_at g c i in
      absurd_bool
      (ap (same_entry x) (sym (bytes_tell x (undone (version_of c) x) read_fits (undone_fits (version_of c) x read_fits) e)) ∙ fields_same x) h)

-- ---- Tail

module _ (c : List ℕ) (n : 128 ≤ length c) (b : Bytes c) where
  tail_stands : (v : ℕ) → part c (tail_store v).place (length (tail_store v).bytes) ≡ bytes_be 8 (tail_of c)
  unfolding tail_store word_store tail_of
  tail_stands v = ap (part c 72) (length_bytes 8 v) ∙ sym (bytes_number c 72 8 b (omega arith))

  pub tail_left_out : tail_of c ≡ head_of c → if_changing c (tail_store (head_of c)) ≡ []
  unfolding tail_store word_store
  tail_left_out e = left_out_lem c _ _ (tail_stands (head_of c)) (ap (bytes_be 8) e)

  pub tail_changing : (tail_of c ≡ head_of c → ⊥) → if_changing c (tail_store (head_of c)) ≡ single (tail_store (head_of c))
  unfolding tail_store word_store tail_of head_of
  tail_changing h =
      changing c _ _ (tail_stands (head_of c))
      (λ e. h (sym (be_bytes 8 (tail_of c) (number_below_lem c 72 8 b (omega arith))) ∙ ap be e ∙ be_bytes 8 (head_of c) (number_below_lem c 64 8 b (omega arith))))
