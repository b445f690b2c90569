-- The entries that check 5 allows, by cases, and the flags of each. Assumes nothing.
use Prim.Native.Nat.{ℕ, ◌*◌, ◌/◌, ◌%◌, ◌<◌}
use mathlib.Core.Bool.{Bool, true, false, cond, not, ◌&&◌, ◌||◌}
use mathlib.Core.Path.{◌≡◌, refl, sym, ap, subst, ◌∙◌}
use mathlib.Core.Logic.{◌⊎◌, inl, inr, ⊎_elim}
use lib.Dec.{eqb, ltb}
use borrow.Author.Tests.{eqb-true, ltb-true, lt-ltb, eq-eqb}
use Rattle.protocol.specs.declared.Entry.{Entry}
use Rattle.protocol.specs.Entry.{FRESH, entry_of, unused, in_use, is_modified, has_log_role, was_modified, allowed_flags, is_unused, good_entry, log_flags, switched, undone_flags}
use Rattle.protocol.proofs.Below.{either, and_left, and_right, and_both, or_true, or_left, or_right, absurd_bool}

-- an in-use entry's flag byte, with the version v: clean, modified, or in the log; with P only in version 2
pub data Flag (v f : ℕ) : Type 0 where
  clean : f ≡ 0x80 → Flag v f
  modified : f ≡ 0x82 → Flag v f
  logged : f ≡ 0x83 → Flag v f
  modified_over : v ≡ 2 → f ≡ 0x86 → Flag v f
  logged_over : v ≡ 2 → f ≡ 0x87 → Flag v f

-- an in-use entry with the version v, N data blocks and D disk blocks
pub record UsedEntry (v n d : ℕ) (e : Entry) : Type 0 where
  pub flag : Flag v e.flags
  pub number_below : e.number < d
  pub current_below : e.current < n
  pub previous_below : (e.previous < n) ⊎ (e.previous ≡ FRESH)

pub good_cases : (v n d : ℕ) (e : Entry) → good_entry v n d e ≡ true → (e ≡ unused) ⊎ UsedEntry v n d e
unfolding good_entry is_unused allowed_flags
good_cases v n d e h = ⊎_elim (λ u. inl (blank u)) (λ u. inr (in_use_lem u)) (or_true (is_unused e) _ h)
  where
    blank : is_unused e ≡ true → e ≡ unused
    blank u =
        let r = and_right (eqb e.flags 0) _ u in
        let s = and_right (eqb e.number 0) _ r in
        λ t.
        record {
          flags = eqb-true e.flags 0 (and_left (eqb e.flags 0) _ u) t;
          number = eqb-true e.number 0 (and_left (eqb e.number 0) _ r) t;
          previous = eqb-true e.previous 0 (and_left (eqb e.previous 0) _ s) t;
          current = eqb-true e.current 0 (and_right (eqb e.previous 0) _ s) t;
        }

    flags : allowed_flags v e.flags ≡ true → Flag v e.flags
    flags u =
        ⊎_elim
        (λ x. clean (eqb-true _ _ x))
        (λ y. ⊎_elim (λ x. modified (eqb-true _ _ x)) (λ z. ⊎_elim (λ x. logged (eqb-true _ _ x)) over (or_true (eqb e.flags 0x83) _ z)) (or_true (eqb e.flags 0x82) _ y))
        (or_true (eqb e.flags 0x80) _ u)
      where
        over : eqb v 2 && (eqb e.flags 0x86 || eqb e.flags 0x87) ≡ true → Flag v e.flags
        over z =
            let w = eqb-true v 2 (and_left (eqb v 2) _ z) in
            ⊎_elim (λ x. modified_over w (eqb-true _ _ x)) (λ x. logged_over w (eqb-true _ _ x))
            (or_true (eqb e.flags 0x86) (eqb e.flags 0x87) (and_right (eqb v 2) _ z))

    in_use_lem : allowed_flags v e.flags && (ltb e.number d && (ltb e.current n && (ltb e.previous n || eqb e.previous FRESH))) ≡ true
        → UsedEntry v n d e
    in_use_lem u =
        let r = and_right (allowed_flags v e.flags) _ u in
        let s = and_right (ltb e.number d) _ r in
        record {
          flag = flags (and_left (allowed_flags v e.flags) _ u);
          number_below = ltb-true _ _ (and_left (ltb e.number d) _ r);
          current_below = ltb-true _ _ (and_left (ltb e.current n) _ s);
          previous_below =
              ⊎_elim (λ x. inl (ltb-true _ _ x)) (λ x. inr (eqb-true _ _ x))
              (or_true (ltb e.previous n) (eqb e.previous FRESH) (and_right (ltb e.current n) _ s));
        }

-- a number and a current block within their limits, in use or not
pub record Bounded (n d : ℕ) (e : Entry) : Type 0 where
  pub number : e.number < d
  pub current : e.current < n

pub bounded : (v n d : ℕ) (e : Entry) → 0 < n → 0 < d → good_entry v n d e ≡ true → Bounded n d e
bounded v n d e hn hd h =
    ⊎_elim
    (λ b. subst (Bounded n d) (sym b) (record { number = hd; current = hn }))
    (λ u. record { number = u.number_below; current = u.current_below })
    (good_cases v n d e h)

pub used-good : (v n d : ℕ) (e : Entry) → UsedEntry v n d e → good_entry v n d e ≡ true
unfolding good_entry
used-good v n d e u =
    or_right (is_unused e) _
    (and_both (allowed e.flags u.flag)
    (and_both (lt-ltb _ _ u.number_below)
    (and_both (lt-ltb _ _ u.current_below)
    (⊎_elim (λ l. or_left _ _ (lt-ltb _ _ l)) (λ l. or_right (ltb e.previous n) _ (eq-eqb _ _ l)) u.previous_below))))
  where
    allowed : (f : ℕ) → Flag v f → allowed_flags v f ≡ true
    allowed f (clean x) = ap (allowed_flags v) x ∙ (unfold allowed_flags in refl)
    allowed f (modified x) = ap (allowed_flags v) x ∙ (unfold allowed_flags in refl)
    allowed f (logged x) = ap (allowed_flags v) x ∙ (unfold allowed_flags in refl)
    allowed f (modified_over w x) = (λ t. allowed_flags (w t) (x t)) ∙ (unfold allowed_flags in refl)
    allowed f (logged_over w x) = (λ t. allowed_flags (w t) (x t)) ∙ (unfold allowed_flags in refl)

pub unused_good : (v n d : ℕ) → good_entry v n d unused ≡ true
unfolding good_entry is_unused
unused_good v n d = refl

-- ---- what the flag byte says

pub flag_used : {v : ℕ} (e : Entry) → Flag v e.flags → in_use e ≡ true
unfolding in_use
flag_used e (clean x) = ap (λ (f : ℕ). eqb (f / 0x80 % 2) 1) x
flag_used e (modified x) = ap (λ (f : ℕ). eqb (f / 0x80 % 2) 1) x
flag_used e (logged x) = ap (λ (f : ℕ). eqb (f / 0x80 % 2) 1) x
flag_used e (modified_over w x) = ap (λ (f : ℕ). eqb (f / 0x80 % 2) 1) x
flag_used e (logged_over w x) = ap (λ (f : ℕ). eqb (f / 0x80 % 2) 1) x

pub not-used_blank : (v n d : ℕ) (e : Entry) → good_entry v n d e ≡ true → in_use e ≡ false → e ≡ unused
not-used_blank v n d e h u = ⊎_elim (λ b. b) (λ b. absurd_bool (flag_used e b.flag) u) (good_cases v n d e h)

pub used-entry : (v n d : ℕ) (e : Entry) → good_entry v n d e ≡ true → in_use e ≡ true → UsedEntry v n d e
unfolding in_use
used-entry v n d e h u = ⊎_elim (λ b. absurd_bool (sym (ap (λ (x : Entry). eqb (x.flags / 0x80 % 2) 1) b) ∙ u) refl) (λ b. b) (good_cases v n d e h)

-- with the version v, the entry e is modified once it is undone: with version 2 by P, with version 1 always
unfoldable pub dirty_before : ℕ → Entry → Bool
dirty_before v e = not (eqb v 2) || was_modified e

-- an entry of given fields, by its flag byte: the log entry and its role switch, with the version v, over a modified entry or not
module _ (v : ℕ) (over : Bool) (b p q : ℕ) where
  abbrev log : Entry
  log = entry_of (log_flags v over) b p q

  by_flags : (F : ℕ → Type 0) → F 0x83 → (v ≡ 2 → F 0x87) → F (log_flags v over)
  unfolding log_flags
  by_flags F x y = go (either (eqb v 2)) (either over)
    where
      go : (eqb v 2 ≡ true) ⊎ (eqb v 2 ≡ false) → (over ≡ true) ⊎ (over ≡ false) → F (cond (eqb v 2 && over) 0x87 0x83)
      go (inl h) (inl k) = rw (h, k) (y (eqb-true _ _ h))
      go (inl h) (inr k) = rw (h, k) x
      go (inr h) k = rw h x

  pub log_flag : Flag v (log_flags v over)
  log_flag = by_flags (Flag v) (logged refl) (λ w. logged_over w refl)

  pub log_used : in_use log ≡ true
  unfolding in_use
  log_used = by_flags (λ f. eqb (f / 0x80 % 2) 1 ≡ true) refl (λ w. refl)

  pub log_role : has_log_role log ≡ true
  unfolding has_log_role
  log_role = by_flags (λ f. eqb (f % 2) 1 ≡ true) refl (λ w. refl)

  pub log_modified : is_modified log ≡ true
  unfolding is_modified
  log_modified = by_flags (λ f. eqb (f / 0x02 % 2) 1 ≡ true) refl (λ w. refl)

  pub log_dirty : dirty_before v log ≡ not (eqb v 2) || over
  unfolding dirty_before was_modified log_flags
  log_dirty = go (either (eqb v 2)) over
    where
      go : (eqb v 2 ≡ true) ⊎ (eqb v 2 ≡ false) → (o : Bool) → not (eqb v 2) || eqb (cond (eqb v 2 && o) 0x87 0x83 / 0x04 % 2) 1 ≡ not (eqb v 2) || o
      go (inl h) true = rw h
      go (inl h) false = rw h
      go (inr h) o = rw h

-- the role switch of an entry with R
module _ (v : ℕ) (e : Entry) (flag : Flag v e.flags) (role : has_log_role e ≡ true) where
  by_role : (F : ℕ → Type 0) → F 0x83 → (v ≡ 2 → F 0x87) → F e.flags
  unfolding has_log_role
  by_role F x y = go flag
    where
      no_role_lem : {f : ℕ} → e.flags ≡ f → eqb (f % 2) 1 ≡ false → F e.flags
      no_role_lem q h = absurd_bool role (ap (λ (f : ℕ). eqb (f % 2) 1) q ∙ h)

      go : Flag v e.flags → F e.flags
      go (clean q) = no_role_lem q refl
      go (modified q) = no_role_lem q refl
      go (logged q) = subst F (sym q) x
      go (modified_over w q) = no_role_lem q refl
      go (logged_over w q) = subst F (sym q) (y w)

  pub switched_flag : Flag v (switched e).flags
  unfolding switched
  switched_flag = by_role (λ f. Flag v (f / 2 * 2)) (modified refl) (λ w. modified_over w refl)

  pub switched-used : in_use (switched e) ≡ true
  unfolding switched in_use
  switched-used = by_role (λ f. eqb (f / 2 * 2 / 0x80 % 2) 1 ≡ true) refl (λ w. refl)

  pub switched_role : has_log_role (switched e) ≡ false
  unfolding switched has_log_role
  switched_role = by_role (λ f. eqb (f / 2 * 2 % 2) 1 ≡ false) refl (λ w. refl)

  pub switched_modified : is_modified (switched e) ≡ is_modified e
  unfolding switched is_modified
  switched_modified = by_role (λ f. eqb (f / 2 * 2 / 0x02 % 2) 1 ≡ eqb (f / 0x02 % 2) 1) refl (λ w. refl)

  pub switched_dirty : dirty_before v (switched e) ≡ dirty_before v e
  unfolding dirty_before switched was_modified
  switched_dirty = ap (λ (b : Bool). not (eqb v 2) || b) (by_role (λ f. eqb (f / 2 * 2 / 0x04 % 2) 1 ≡ eqb (f / 0x04 % 2) 1) refl (λ w. refl))

-- an undone entry
module _ (v : ℕ) (e : Entry) (b p q : ℕ) where
  abbrev back : Entry
  back = entry_of (undone_flags v e) b p q

  by_undone : (F : ℕ → Bool → Type 0) → (eqb v 2 ≡ false → F 0x82 true) → (v ≡ 2 → F 0x86 true) → (v ≡ 2 → F 0x80 false)
      → F (undone_flags v e) (dirty_before v e)
  unfolding undone_flags dirty_before
  by_undone F x y z = go (either (eqb v 2)) (either (was_modified e))
    where
      go : (eqb v 2 ≡ true) ⊎ (eqb v 2 ≡ false) → (was_modified e ≡ true) ⊎ (was_modified e ≡ false)
          → F (cond (eqb v 2) (cond (was_modified e) 0x86 0x80) 0x82) (not (eqb v 2) || was_modified e)
      go (inl h) (inl k) = rw (h, k) (y (eqb-true _ _ h))
      go (inl h) (inr k) = rw (h, k) (z (eqb-true _ _ h))
      go (inr h) k = rw h (x h)

  pub back_flag : Flag v (undone_flags v e)
  back_flag = by_undone (λ f d. Flag v f) (λ h. modified refl) (λ h. modified_over h refl) (λ h. clean refl)

  pub back_used : in_use back ≡ true
  unfolding in_use
  back_used = by_undone (λ f d. eqb (f / 0x80 % 2) 1 ≡ true) (λ h. refl) (λ h. refl) (λ h. refl)

  pub back_role : has_log_role back ≡ false
  unfolding has_log_role
  back_role = by_undone (λ f d. eqb (f % 2) 1 ≡ false) (λ h. refl) (λ h. refl) (λ h. refl)

  pub back_modified : is_modified back ≡ dirty_before v e
  unfolding is_modified
  back_modified = by_undone (λ f d. eqb (f / 0x02 % 2) 1 ≡ d) (λ h. refl) (λ h. refl) (λ h. refl)

  -- undone again it is modified or not as before
  pub back_dirty : dirty_before v back ≡ dirty_before v e
  unfolding dirty_before was_modified
  back_dirty =
      by_undone (λ f d. not (eqb v 2) || eqb (f / 0x04 % 2) 1 ≡ d) (λ h. rw h) (λ h. rw (eq-eqb v 2 h)) (λ h. rw (eq-eqb v 2 h))

  -- and its flags are those that it has
  pub back_again : undone_flags v back ≡ undone_flags v e
  back_again =
      by_undone (λ f d. undone_flags v (entry_of f b p q) ≡ f)
      (λ h. unfold undone_flags in rw h)
      (λ h. unfold undone_flags was_modified in rw (eq-eqb v 2 h))
      (λ h. unfold undone_flags was_modified in rw (eq-eqb v 2 h))

-- a loaded entry
module _ (b p q : ℕ) where
  pub clean_used : in_use (entry_of 0x80 b p q) ≡ true
  unfolding in_use
  clean_used = refl

  pub clean_role : has_log_role (entry_of 0x80 b p q) ≡ false
  unfolding has_log_role
  clean_role = refl

  pub clean_modified : is_modified (entry_of 0x80 b p q) ≡ false
  unfolding is_modified
  clean_modified = refl

pub unused-used : in_use unused ≡ false
unfolding in_use
unused-used = refl

pub unused_role : has_log_role unused ≡ false
unfolding has_log_role
unused_role = refl
