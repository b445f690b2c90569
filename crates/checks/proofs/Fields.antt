-- An entry read as a word and two blocks: what the tests of a pass over the entries say of it. Assumes nothing.
use Rattle.std.proofs.Common.{◌≡◌, ℕ, ◌+◌, ◌*◌, ◌/◌, ◌%◌, ◌^◌, ◌<◌, ◌≤◌, Bool, true, false, not, ◌&&◌, ◌||◌, eqb, ltb, leb, ◌⊎◌, List, length, get_or, sym, ap, ◌∙◌, subst, inl, inr, ⊎_elim, add-zero, arith, ltb-true, le-ltb, lt-ltb, eq-eqb, eqb-true, le-leb, leb-true}
use lib.Bits.{bit_or}
use Rattle.numbers.specs.Bytes.{number_at, Bytes}
use Rattle.numbers.proofs.Laws.{number_one, number_split, number_high, number_low}
use Rattle.protocol.specs.declared.Geometry.{Geometry}
use Rattle.protocol.specs.declared.Entry.{Entry}
use Rattle.protocol.specs.Layout.{entry_place, version_of}
use Rattle.protocol.specs.Entry.{FRESH, entry_of, unused, entry_in, entry_at, in_use, has_log_role, allowed_flags, is_unused, good_entry}
use Rattle.protocol.specs.Ring.{used_at, role_free_at}
use Rattle.protocol.specs.Check.{good_entry_at, entries_fit}
use Rattle.protocol.proofs.Below.{absurd_bool, either, and_left, and_right, and_both, or_left, or_right, or_true, below_or_above, same_or_other, all_at}
use Rattle.protocol.proofs.Allowed.{UsedEntry, good_cases, used-good, unused_good, flag_used, used-entry}
use Rattle.freemap.proofs.Maps.{or_zero}
use Rattle.ring.specs.Fitted.{Fitted}
use Rattle.ring.proofs.Laws.{Room, room}
use Rattle.checks.specs.Keys.{NONE, key, number_key, current_key}
use Rattle.checks.specs.Fields.{fields_entry, Field, Numbered}

-- entry i of a card that fits, read as a word and two blocks
pub record Split (g : Geometry) (c : List ℕ) (i w p q : ℕ) : Type 0 where
  pub fitted : Fitted g c
  pub below : i < g.blocks
  pub bytes : Bytes c
  pub first : Field g c i 0 8 w
  pub second : Field g c i 8 4 p
  pub third : Field g c i 12 4 q

-- the sixteen bytes at `at`
entry_fields : (xs : List ℕ) (at : ℕ) → Bytes xs → at + 16 ≤ length xs
    → entry_in xs at ≡ fields_entry (number_at xs at 8) (number_at xs (at + 8) 4) (number_at xs (at + 12) 4)
unfolding entry_in fields_entry
entry_fields xs at bytes h =
    let f : get_or xs at 0 ≡ number_at xs at 8 / 2 ^ 56 = sym (number_high xs at 1 7 bytes (omega arith) ∙ number_one xs at (omega arith)) in
    let b : number_at xs (at + 1) 7 ≡ number_at xs at 8 % 2 ^ 56 = sym (number_low xs at 1 7 bytes (omega arith)) in
    λ t. entry_of (f t) (b t) (number_at xs (at + 8) 4) (number_at xs (at + 12) 4)

-- an entry in use at place i, with the number b and the current block q, and with R or not
pub record Used (g : Geometry) (c : List ℕ) (i b q : ℕ) (role : Bool) : Type 0 where
  pub allowed : UsedEntry (version_of c) g.blocks g.disk (entry_at g c i)
  pub number : (entry_at g c i).number ≡ b
  pub current : (entry_at g c i).current ≡ q
  pub logs : has_log_role (entry_at g c i) ≡ role

module _ {g : Geometry} {c : List ℕ} {i b q : ℕ} {role : Bool} (u : Used g c i b q role) where
  pub used_on : used_at g c i ≡ true
  unfolding used_at
  used_on = flag_used (entry_at g c i) u.allowed.flag

  pub used_allowed : good_entry_at g c i ≡ true
  unfolding good_entry_at
  used_allowed = used-good (version_of c) g.blocks g.disk (entry_at g c i) u.allowed

  pub used_number : b ≡ number_key g c i
  unfolding number_key key
  used_number = sym (rw used_on u.number)

  pub used_current : q ≡ current_key g c i
  unfolding current_key key
  used_current = sym (rw used_on u.current)

  pub used_role : not role ≡ role_free_at g c i
  unfolding role_free_at
  used_role = ap not (sym u.logs)

-- an unused one
module _ (g : Geometry) (c : List ℕ) (i : ℕ) (e : entry_at g c i ≡ unused) where
  pub blank_allowed : good_entry_at g c i ≡ true
  unfolding good_entry_at
  blank_allowed =
      subst (λ (x : Entry). good_entry (version_of c) g.blocks g.disk x ≡ true) (sym e) (unused_good (version_of c) g.blocks g.disk)

  blank_off : used_at g c i ≡ false
  unfolding used_at in_use
  blank_off = ap (λ (x : Entry). eqb (x.flags / 0x80 % 2) 1) e

  pub blank_number : number_key g c i ≡ NONE
  unfolding number_key key
  blank_number = rw blank_off

  pub blank_current : current_key g c i ≡ NONE
  unfolding current_key key
  blank_current = rw blank_off

  pub blank_role : true ≡ role_free_at g c i
  unfolding role_free_at has_log_role
  blank_role = sym (ap (λ (x : Entry). not (eqb (x.flags % 2) 1)) e)

module _ {g : Geometry} {c : List ℕ} {i w p q : ℕ} (s : Split g c i w p q) where
  split_entry : entry_at g c i ≡ fields_entry w p q
  unfolding entry_at entry_place
  split_entry =
      let k : Room g c = room g c s.fitted in
      let b : i < g.blocks = s.below in
      let at : ℕ = entry_place g i in
      let w' : number_at c at 8 ≡ w = ap (λ (v : ℕ). number_at c v 8) (sym (add-zero at)) ∙ sym s.first.value in
      entry_fields c at s.bytes (omega arith) ∙ (λ t. fields_entry (w' t) (sym s.second.value t) (sym s.third.value t))

  -- all sixteen bytes zero
  pub split_blank : w ≡ 0 → bit_or p q ≡ 0 → entry_at g c i ≡ unused
  unfolding fields_entry
  split_blank wz z =
      let b = sym (or_zero p q) ∙ eq-eqb _ _ z in
      let pz : p ≡ 0 = eqb-true p 0 (and_left (eqb p 0) _ b) in
      let qz : q ≡ 0 = eqb-true q 0 (and_right (eqb p 0) _ b) in
      split_entry ∙ (λ t. entry_of (wz t / 2 ^ 56) (wz t % 2 ^ 56) (pz t) (qz t))

  -- what check 5 allows is all zero or in use
  split_cases : good_entry_at g c i ≡ true
      → ((w ≡ 0) × (bit_or p q ≡ 0)) ⊎ UsedEntry (version_of c) g.blocks g.disk (fields_entry w p q)
  unfolding good_entry_at fields_entry
  split_cases h =
      ⊎_elim
      (λ (u : entry_at g c i ≡ unused).
      let e = sym split_entry ∙ u in
      let wf : w / 2 ^ 56 ≡ 0 = ap (λ (x : Entry). x.flags) e in
      let wn : w % 2 ^ 56 ≡ 0 = ap (λ (x : Entry). x.number) e in
      let pz : p ≡ 0 = ap (λ (x : Entry). x.previous) e in
      let qz : q ≡ 0 = ap (λ (x : Entry). x.current) e in
      inl (omega arith, eqb-true (bit_or p q) 0 (or_zero p q ∙ (λ t. eqb (pz t) 0 && eqb (qz t) 0))))
      (λ u. inr (subst (UsedEntry (version_of c) g.blocks g.disk) split_entry u))
      (good_cases (version_of c) g.blocks g.disk (entry_at g c i) h)

  -- what is allowed and has a flag byte or a number is in use
  split_used : (w ≡ 0 → ⊥) → good_entry_at g c i ≡ true → UsedEntry (version_of c) g.blocks g.disk (fields_entry w p q)
  split_used z h = ⊎_elim (λ e. absurd (z e.0)) (λ u. u) (split_cases h)

  -- ---- refused

  -- blocks without a flag byte and a number
  pub split_rest : w ≡ 0 → (bit_or p q ≡ 0 → ⊥) → good_entry_at g c i ≡ false
  unfolding fields_entry in_use
  split_rest wz z =
      ⊎_elim
      (λ h.
      absurd
      (⊎_elim
      (λ e. z e.1)
      (λ u. absurd_bool (flag_used (fields_entry w p q) u.flag) (ap (λ (x : ℕ). eqb (x / 2 ^ 56 / 0x80 % 2) 1) wz))
      (split_cases h)))
      (λ h. h)
      (either (good_entry_at g c i))

  pub split_blocks : (w ≡ 0 → ⊥) → leb g.blocks q || ltb g.blocks ((p + 1) % 0x100000000) ≡ true
      → good_entry_at g c i ≡ false
  unfolding fields_entry
  split_blocks z t =
      ⊎_elim
      (λ h.
      let k : Room g c = room g c s.fitted in
      let u = split_used z h in
      let cur : q < g.blocks = u.current_below in
      absurd
      (⊎_elim
      (λ a. let a' = leb-true g.blocks q a in omega arith)
      (λ a.
      let a' : g.blocks < (p + 1) % 0x100000000 = ltb-true _ _ a in
      ⊎_elim (λ (b : p < g.blocks). omega arith) (λ (b : p ≡ FRESH). omega arith) u.previous_below)
      (or_true (leb g.blocks q) _ t)))
      (λ h. h)
      (either (good_entry_at g c i))

  -- ---- allowed

  module _ (z : w ≡ 0 → ⊥) (o : leb g.blocks q || ltb g.blocks ((p + 1) % 0x100000000) ≡ false) where
    current_below_lem : q < g.blocks
    current_below_lem =
        ⊎_elim
        (λ (b : q < g.blocks). b)
        (λ (b : g.blocks ≤ q). absurd_bool (or_left _ (ltb g.blocks ((p + 1) % 0x100000000)) (le-leb _ _ b)) o)
        (below_or_above q g.blocks)

    previous_below_lem : (p < g.blocks) ⊎ (p ≡ FRESH)
    previous_below_lem =
        let k : Room g c = room g c s.fitted in
        let lim : p < 256 ^ 4 = s.second.below in
        ⊎_elim
        (λ (b : (p + 1) % 0x100000000 ≤ g.blocks).
        ⊎_elim (λ (e : p ≡ FRESH). inr e) (λ (e : p ≡ FRESH → ⊥). inl (omega arith)) (same_or_other p FRESH))
        (λ (b : g.blocks < (p + 1) % 0x100000000).
        absurd_bool (or_right (leb g.blocks q) _ (lt-ltb _ _ b)) o)
        (⊎_elim (λ a. inr a) (λ a. inl a) (below_or_above g.blocks ((p + 1) % 0x100000000)))

    module _ (b : ℕ) (n : Numbered (version_of c) w g.disk b) where
      pub split_number : b < g.disk → Used g c i b q (eqb (w / 2 ^ 56 % 2) 1)
      unfolding good_entry_at good_entry fields_entry has_log_role
      split_number l =
          let e = split_entry in
          let both : allowed_flags (version_of c) (w / 2 ^ 56) && ltb (w % 2 ^ 56) g.disk ≡ true = sym n.tested ∙ lt-ltb b g.disk l in
          let blocks : ltb q g.blocks && (ltb p g.blocks || eqb p FRESH) ≡ true =
          and_both (lt-ltb q g.blocks current_below_lem)
          (⊎_elim (λ x. or_left _ _ (lt-ltb p g.blocks x)) (λ x. or_right (ltb p g.blocks) _ (eq-eqb p FRESH x)) previous_below_lem) in
          let good : good_entry (version_of c) g.blocks g.disk (fields_entry w p q) ≡ true =
          or_right (is_unused (fields_entry w p q)) _
          (and_both (and_left (allowed_flags (version_of c) (w / 2 ^ 56)) _ both)
          (and_both (and_right (allowed_flags (version_of c) (w / 2 ^ 56)) _ both) blocks)) in
          record {
            allowed =
                subst (UsedEntry (version_of c) g.blocks g.disk) (sym e)
                (split_used z (ap (good_entry (version_of c) g.blocks g.disk) e ∙ good));
            number = ap (λ (x : Entry). x.number) e ∙ sym (n.number l);
            current = ap (λ (x : Entry). x.current) e;
            logs = ap (λ (x : Entry). eqb (x.flags % 2) 1) e;
          }

      -- no allowed flag byte with a number below D
      pub split_flags : g.disk ≤ b → good_entry_at g c i ≡ false
      unfolding good_entry_at good_entry fields_entry is_unused in_use
      split_flags l = ⊎_elim (λ h. absurd_bool (used h) (sym n.tested ∙ le-ltb b g.disk l)) (λ h. h) (either (good_entry_at g c i))
        where
          used : good_entry_at g c i ≡ true → allowed_flags (version_of c) (w / 2 ^ 56) && ltb (w % 2 ^ 56) g.disk ≡ true
          used h =
              let u = split_used z h in
              ⊎_elim
              (λ x.
              absurd_bool (flag_used (fields_entry w p q) u.flag)
              (ap (λ (f : ℕ). eqb (f / 0x80 % 2) 1) (eqb-true (w / 2 ^ 56) 0 (and_left (eqb (w / 2 ^ 56) 0) _ x))))
              (λ x.
              and_both (and_left (allowed_flags (version_of c) (w / 2 ^ 56)) _ x)
              (and_left (ltb (w % 2 ^ 56) g.disk) _ (and_right (allowed_flags (version_of c) (w / 2 ^ 56)) _ x)))
              (or_true (is_unused (fields_entry w p q)) _ (sym (ap (good_entry (version_of c) g.blocks g.disk) split_entry) ∙ h))

-- ---- an entry's number by its low bytes alone

-- the low bytes of an in-use entry's number are the number
pub low_number : (g : Geometry) (c : List ℕ) (i r : ℕ) → Fitted g c → entries_fit g c ≡ true → Bytes c → i < g.blocks → number_key g c i < NONE
    → Field g c i 4 4 r → r ≡ number_key g c i
unfolding entries_fit good_entry_at number_key key used_at entry_at entry_in entry_place
low_number g c i r f fit bytes l b h =
    let k : Room g c = room g c f in
    let at : ℕ = entry_place g i in
    ⊎_elim
    (λ (u : in_use (entry_at g c i) ≡ true).
    let a : UsedEntry (version_of c) g.blocks g.disk (entry_at g c i) = used-entry _ _ _ _ (all_at (good_entry_at g c) g.blocks i fit l) u in
    let low : number_at c (at + 1) 7 < g.disk = a.number_below in
    let q : at + 1 + 3 ≡ at + 4 = omega arith in
    let n : number_at c (at + 1) 7 ≡ number_at c (at + 1) 3 * 256 ^ 4 + number_at c (at + 4) 4 =
    number_split c (at + 1) 3 4 bytes (omega arith) ∙ ap (λ (v : ℕ). number_at c (at + 1) 3 * 256 ^ 4 + number_at c v 4) q in
    let v : number_at c (at + 4) 4 ≡ number_at c (at + 1) 7 = omega arith in
    h.value ∙ v ∙ sym (rw u))
    (λ (u : in_use (entry_at g c i) ≡ false). absurd (let o : NONE < NONE = subst (λ (x : ℕ). x < NONE) (rw u) b in omega arith))
    (either (in_use (entry_at g c i)))
