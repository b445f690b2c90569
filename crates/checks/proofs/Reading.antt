-- One turn of the passes over the entries and of a walk down a chain, from what is read of an entry there. Assumes nothing.
use Rattle.std.proofs.Common.{◌≡◌, ℕ, ◌+◌, ◌-◌, ◌/◌, ◌%◌, ◌^◌, ◌<◌, true, false, ◌||◌, eqb, ltb, leb, List, get_or, ap, ◌∙◌, arith, Fits, w8, refl}
use lib.Bits.{bit_or}
use Rattle.numbers.specs.Bytes.{Bytes}
use Rattle.protocol.specs.declared.Geometry.{Geometry}
use Rattle.protocol.specs.declared.Map.{Map}
use Rattle.protocol.specs.Layout.{version_of}
use Rattle.protocol.specs.Check.{entries_fit}
use Rattle.freemap.specs.Bits.{with_bit}
use Rattle.ring.specs.Fitted.{Fitted}
use Rattle.ring.proofs.Laws.{fitted_blocks, fitted_disk}
use Rattle.checks.specs.declared.Seen.{Seen}
use Rattle.checks.specs.Keys.{NONE, number_key, keyed, lone, distinct}
use Rattle.checks.specs.Chain.{CHAINS, last_below, Chains, Entered, Chained}
use Rattle.checks.specs.Fields.{Field, over_of, NO_NUMBER, Numbered}
use Rattle.checks.specs.Passed.{Decoded}
use Rattle.checks.proofs.Chain.{Walked, walk_key, walk_found, walk_turn, linked_key, linked_end, linked_lone, linked_clash}
use Rattle.checks.proofs.Fields.{Split, Used, split_blank, split_rest, split_blocks, split_number, split_flags, low_number}
use Rattle.checks.proofs.Flags.{no_role, roles_more}
use Rattle.checks.proofs.Laws.{Passing, pass_unused, pass_used, pass_bad}

bytes_of : (c : List ℕ) → ((j : ℕ) → Fits w8 (get_or c j 0)) → Bytes c
bytes_of c h j l = omega (arith, h j)

-- ---- the pass that decodes: an entry's word and its two blocks

module _ {g : Geometry} {c xs : List ℕ} {i shared count w p q : ℕ} {m : Map} (roles : ℕ) (fit : Fitted g c) (l : i < g.blocks)
    (h : Passing g c xs i (no_role roles) shared count m) (bytes : (j : ℕ) → Fits w8 (get_or c j 0)) (first : Field g c i 0 8 w)
    (second : Field g c i 8 4 p) (third : Field g c i 12 4 q)
  where
    split : Split g c i w p q
    split = record { fitted = fit; below = l; bytes = bytes_of c bytes; first = first; second = second; third = third }

    pub turn_unused : w ≡ 0 → bit_or p q ≡ 0 → Passing g c xs (i + 1) (no_role roles) shared count m
    turn_unused a b = pass_unused g c xs i shared count (no_role roles) m fit l h (split_blank split a b)

    pub turn_rest : w ≡ 0 → (bit_or p q ≡ 0 → ⊥) → (ys : List ℕ) (s : Seen) → s.fits ≡ false → Decoded g c ys s
    turn_rest a b ys s = pass_bad g c xs i shared count (no_role roles) m fit l h ys s (split_rest split a b)

    module _ (z : w ≡ 0 → ⊥) where
      pub turn_blocks : leb g.blocks q || ltb g.blocks ((p + 1) % 0x100000000) ≡ true → (ys : List ℕ) (s : Seen) → s.fits ≡ false → Decoded g c ys s
      turn_blocks t ys s = pass_bad g c xs i shared count (no_role roles) m fit l h ys s (split_blocks split z t)

      module _ (o : leb g.blocks q || ltb g.blocks ((p + 1) % 0x100000000) ≡ false) {more v b : ℕ} (e : more ≡ over_of v) (k : v ≡ version_of c)
          (n : (v : ℕ) → more ≡ over_of v → Numbered v w g.disk b)
        where
          numbered : Numbered (version_of c) w g.disk b
          numbered = n (version_of c) (e ∙ ap over_of k)

          pub turn_flags : b ≡ NO_NUMBER → (ys : List ℕ) (s : Seen) → s.fits ≡ false → Decoded g c ys s
          turn_flags x ys s =
              pass_bad g c xs i shared count (no_role roles) m fit l h ys s
              (split_flags split z o b numbered (omega (arith, x, fitted_disk g c fit)))

          module _ (x : b ≡ NO_NUMBER → ⊥) where
            used : Used g c i b q (eqb (w / 2 ^ 56 % 2) 1)
            used = split_number split z o b numbered ((numbered).none x)

            pub turn_few : q < 128
            turn_few = let u = used in omega (arith, u.current, u.allowed.current_below, fitted_blocks g c fit)

            pub turn_used : {ys : List ℕ} {r : ℕ} {m' : Map} → m' ≡ with_bit m q → Entered xs i b ys r
                → Passing g c ys (i + 1) (no_role (bit_or roles w)) (bit_or shared r) (count + 1) m'
            turn_used {ys} {r} {m'} y t =
                pass_used g c xs i shared count (no_role roles) m fit l h b q q r _ ys m' used refl y t _ (roles_more roles w)

-- ---- a walk down a chain: the low bytes of the number at its place

module _ {g : Geometry} {c xs : List ℕ} {b from at r : ℕ} (fit : Fitted g c) (fits : entries_fit g c ≡ true) (h : Chained g c xs b from)
    (k : Walked (number_key g c) b from at) (l : 0 < at) (bytes : (j : ℕ) → Fits w8 (get_or c j 0)) (field : Field g c (at - 1) 4 4 r)
  where
    number_at_place : r ≡ number_key g c (at - 1)
    number_at_place =
        low_number g c (at - 1) r fit fits (bytes_of c bytes) (omega (arith, k.within, h.within)) (walk_key _ _ _ _ k l).0 field

    pub chase_found : r ≡ b → at ≡ last_below (keyed (number_key g c) b) from
    chase_found = walk_found _ _ _ _ _ k l number_at_place

    pub chase_turn : (r ≡ b → ⊥) → (m : ℕ) → m ≡ get_or xs (CHAINS + at - 1) 0 → Walked (number_key g c) b from m × (m < at)
    chase_turn o m = walk_turn _ xs _ _ _ _ _ m h.chains h.within h.key k l number_at_place o

-- ---- the pass that compares: an entry with a link, and the low bytes of its number

module _ {g : Geometry} {c xs : List ℕ} {i from r : ℕ} (fit : Fitted g c) (fits : entries_fit g c ≡ true)
    (h : Chains (number_key g c) xs g.blocks) (l : i < g.blocks) (e : from ≡ get_or xs (CHAINS + i) 0) (o : from ≡ 0 → ⊥)
    (bytes : (j : ℕ) → Fits w8 (get_or c j 0)) (field : Field g c i 4 4 r)
  where
    number_there : r ≡ number_key g c i
    number_there = low_number g c i r fit fits (bytes_of c bytes) l (linked_key _ xs _ _ _ h l e o) field

    pub link_chained : Chained g c xs r from
    link_chained = let k = linked_end _ xs _ _ _ h l e o _ number_there in record { chains = h; key = k.0; within = k.1; end = k.2 }

    module _ (s : ℕ) (w : s ≡ last_below (keyed (number_key g c) r) from) where
      pub link_passed : s ≡ 0 → lone (number_key g c) NONE i ≡ true
      link_passed = linked_lone _ xs _ _ _ h l e o _ _ number_there w

      pub link_clash : (s ≡ 0 → ⊥) → false ≡ distinct (number_key g c) NONE g.blocks
      link_clash = linked_clash _ xs _ _ _ h l e o _ _ number_there w
