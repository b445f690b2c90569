-- The number of a word of flag byte and number: each allowed flag byte is subtracted, and what is left is below D only for that flag byte and a
-- number below D. Assumes nothing.
use Rattle.std.proofs.Common.{◌≡◌, ℕ, zero, suc, ◌+◌, ◌-◌, ◌*◌, ◌/◌, ◌%◌, ◌^◌, ◌<◌, ◌≤◌, Bool, true, false, not, ◌&&◌, eqb, ltb, ◌⊎◌, sym, refl, ap, ◌∙◌, inl, inr, ⊎_elim, arith, ltb-true, le-ltb, lt-ltb, eq-eqb, ne_eqb, eqb-true}
use lib.Bits.{bit_or, or_shr, or_mod}
use Rattle.protocol.specs.Entry.{allowed_flags}
use Rattle.protocol.proofs.Below.{either, and_both, and_fails}
use Rattle.checks.specs.Fields.{over_of, NO_NUMBER, Numbered}

pub over_second : (v : ℕ) → v ≡ 2 → 0x8600000000000000 ≡ over_of v
unfolding over_of
over_second v h = rw (eq-eqb v 2 h)

pub over_other : (v : ℕ) → (v ≡ 2 → ⊥) → 0x8200000000000000 ≡ over_of v
unfolding over_of
over_other v h = rw (ne_eqb v 2 h)

-- 86 with version 2, else 82
over_cases : (v more : ℕ) → more ≡ over_of v → ((v ≡ 2) × (more ≡ 0x8600000000000000)) ⊎ ((eqb v 2 ≡ false) × (more ≡ 0x8200000000000000))
unfolding over_of
over_cases v more e = ⊎_elim (λ h. inl (eqb-true v 2 h, e ∙ rw h)) (λ h. inr (h, e ∙ rw h)) (either (eqb v 2))

pub over_few : (v more : ℕ) → more ≡ over_of v → more ≤ 0x8600000000000000
over_few v more e = ⊎_elim (λ h. let m = h.1 in omega arith) (λ h. let m = h.1 in omega arith) (over_cases v more e)

-- x is the word w less f, without a borrow or with one
abbrev Less : ℕ → ℕ → ℕ → Type 0
Less w f x = (x + f) % 2 ^ 64 ≡ w

pub less_is : (w f : ℕ) → w < 2 ^ 64 → f ≤ 2 ^ 64 → Less w f ((w + (2 ^ 64 - f)) % 2 ^ 64)
less_is w f l b = omega arith

-- where a number below D stands in w and the word less the flag byte f is not below D, the flag byte is another
other_flag : (w disk f x : ℕ) → f < 256 → x < 2 ^ 64 → Less w (f * 2 ^ 56) x → disk ≤ x → w % 2 ^ 56 < disk → eqb (w / 2 ^ 56) f ≡ false
other_flag w disk f x byte few e l n = ne_eqb (w / 2 ^ 56) f (λ h. omega arith)

module _ (w disk more : ℕ) (few : disk ≤ 65536) (v : ℕ) (which : more ≡ over_of v) where
  -- an allowed flag byte f, and a number below D
  numbered_by : (f x : ℕ) → f < 256 → allowed_flags v f ≡ true → Less w (f * 2 ^ 56) x → x < disk → Numbered v w disk x
  numbered_by f x byte a e l =
      let flag : w / 2 ^ 56 ≡ f = omega arith in
      let number : w % 2 ^ 56 ≡ x = omega arith in
      record {
        tested = lt-ltb x disk l ∙ sym (and_both (ap (allowed_flags v) flag ∙ a) (lt-ltb (w % 2 ^ 56) disk (omega arith)));
        number = λ h. sym number;
        none = λ h. l;
      }

  pub numbered_modified : (x : ℕ) → Less w 0x8200000000000000 x → x < disk → Numbered v w disk x
  unfolding allowed_flags
  numbered_modified x = numbered_by 0x82 x (omega arith) refl

  pub numbered_clean : (x : ℕ) → Less w 0x8000000000000000 x → x < disk → Numbered v w disk x
  unfolding allowed_flags
  numbered_clean x = numbered_by 0x80 x (omega arith) refl

  pub numbered_logged : (x : ℕ) → Less w 0x8300000000000000 x → x < disk → Numbered v w disk x
  unfolding allowed_flags
  numbered_logged x = numbered_by 0x83 x (omega arith) refl

  pub numbered_over : (x : ℕ) → Less w more x → x < disk → Numbered v w disk x
  unfolding allowed_flags
  numbered_over x e l =
      ⊎_elim
      (λ h. let m = h.1 in numbered_by 0x86 x (omega arith) (rw h.0) (omega arith) l)
      (λ h. let m = h.1 in numbered_modified x (omega arith) l)
      (over_cases v more which)

  pub numbered_last : (x : ℕ) → Less w (more + 0x0100000000000000) x → x < disk → Numbered v w disk x
  unfolding allowed_flags
  numbered_last x e l =
      ⊎_elim
      (λ h. let m = h.1 in numbered_by 0x87 x (omega arith) (rw h.0) (omega arith) l)
      (λ h. let m = h.1 in numbered_logged x (omega arith) l)
      (over_cases v more which)

  -- none leaves a number below D
  module _ (a b d e x : ℕ) (al : a < 2 ^ 64) (bl : b < 2 ^ 64) (dl : d < 2 ^ 64) (el : e < 2 ^ 64) (xl : x < 2 ^ 64) (ea : Less w 0x8200000000000000 a)
      (eb : Less w 0x8000000000000000 b) (ed : Less w more d) (ee : Less w 0x8300000000000000 e)
      (ex : Less w (more + 0x0100000000000000) x) (la : disk ≤ a) (lb : disk ≤ b) (ld : disk ≤ d) (le : disk ≤ e) where
    none_allowed : disk ≤ x → w % 2 ^ 56 < disk → allowed_flags v (w / 2 ^ 56) ≡ false
    unfolding allowed_flags
    none_allowed lx n =
        let f80 = other_flag w disk 0x80 b (omega arith) bl eb lb n in
        let f82 = other_flag w disk 0x82 a (omega arith) al ea la n in
        let f83 = other_flag w disk 0x83 e (omega arith) el ee le n in
        ⊎_elim
        (λ h.
        let f86 = other_flag w disk 0x86 d (omega arith) dl (rw h.1 at ed) ld n in
        let f87 = other_flag w disk 0x87 x (omega arith) xl (rw h.1 at ex) lx n in
        rw (f80, f82, f83, f86, f87) (and_fails (eqb v 2) false refl))
        (λ h. rw (f80, f82, f83, h.0))
        (over_cases v more which)

    pub numbered_none : disk ≤ x → Numbered v w disk NO_NUMBER
    numbered_none l =
        let off : allowed_flags v (w / 2 ^ 56) && ltb (w % 2 ^ 56) disk ≡ false =
        ⊎_elim
        (λ n. ap (λ t. t && ltb (w % 2 ^ 56) disk) (none_allowed l (ltb-true _ _ n)))
        (λ n. and_fails (allowed_flags v (w / 2 ^ 56)) _ n)
        (either (ltb (w % 2 ^ 56) disk)) in
        record {
          tested = le-ltb NO_NUMBER disk (omega arith) ∙ sym off;
          number = λ h. absurd (omega arith);
          none = λ h. absurd (h refl);
        }

-- ---- R of the words passed

-- no word laid over the others in `roles` has R
abbrev pub no_role : ℕ → Bool
no_role roles = not (eqb (roles / 2 ^ 56 % 2) 1)

pub roles_more : (a b : ℕ) → no_role (bit_or a b) ≡ no_role a && no_role b
roles_more a b =
    ap (λ (x : ℕ). not (eqb (x % 2) 1)) (or_shr a b 56)
    ∙ ap (λ (x : ℕ). not (eqb x 1)) (or_mod (a / 2 ^ 56) (b / 2 ^ 56) 1)
    ∙ bits (a / 2 ^ 56 % 2) (b / 2 ^ 56 % 2) (omega arith) (omega arith)
  where
    bits : (x y : ℕ) → x < 2 → y < 2 → not (eqb (bit_or x y) 1) ≡ not (eqb x 1) && not (eqb y 1)
    bits zero zero l m = refl
    bits zero (suc zero) l m = refl
    bits (suc zero) zero l m = refl
    bits (suc zero) (suc zero) l m = refl
    bits zero (suc (suc y)) l m = absurd (omega arith)
    bits (suc zero) (suc (suc y)) l m = absurd (omega arith)
    bits (suc (suc x)) y l m = absurd (omega arith)
