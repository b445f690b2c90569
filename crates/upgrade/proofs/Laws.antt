-- The header's first word as a number, the order of upgrade's checks, and its one store. Assumes nothing.
use Prim.Native.Nat.{ℕ, zero, suc, ◌+◌, ◌*◌, ◌≤◌, ◌<◌, min}
use mathlib.Core.List.{List, []}
use mathlib.Core.Bool.{true, cond}
use mathlib.Core.Path.{◌≡◌, refl, sym, ap, ◌∙◌}
use native.Mathlib.Omega.{arith}
use lib.ListN.{length, get_or}
use lib.Dec.{ltb}
use Rattle.numbers.specs.Bytes.{be_from, be, bytes_be, part, patch, Bytes}
use Rattle.numbers.proofs.Laws.{bytes_be_lem, length_bytes, part-patch_same}
use Rattle.protocol.specs.declared.Answer.{Answer}
use Rattle.protocol.specs.declared.Answer.TheVariants.{Done, Cut, Refused}
use Rattle.protocol.specs.declared.Geometry.{Geometry}
use Rattle.protocol.specs.Layout.{good_geometry, header_bytes}
use Rattle.protocol.specs.Check.{fit_refusal, card_refusal}
use Rattle.protocol.specs.Store.{card, flat, single, word_store, stores_of, answer_of, after_on}
use Rattle.protocol.specs.Upgrade.{version_store, upgrade_runs, upgrade_refusal, upgrade_work}
use Rattle.protocol.proofs.Checks.{Limits, limits, or_else_first, or_else_next}
use Rattle.ring.specs.declared.Fit.{Fit}
use Rattle.ring.specs.Fitted.{Fitted, Opened}
use Rattle.ring.proofs.Laws.{fitted_long}
use Rattle.stores.specs.Did.{Did}
use Rattle.stores.proofs.Laws.{did_same, refused_answer, refused_after, made_answer, made_after}
use Rattle.upgrade.specs.declared.Checked.{Checked}
use Rattle.upgrade.specs.Examined.{Examined}

-- ---- the word

module _ (g : Geometry) (good : good_geometry g ≡ true) where
  word : List ℕ
  word = (version_store g).bytes

  word_bytes : Bytes word
  unfolding word version_store header_bytes bytes_be part
  word_bytes i h = go i h
    where
      go : (i : ℕ) → i < 8 → get_or word i 0 < 256
      go zero h = omega arith
      go (suc zero) h = omega arith
      go (suc (suc zero)) h = omega arith
      go (suc (suc (suc zero))) h = omega arith
      go (suc (suc (suc (suc zero)))) h = omega arith
      go (suc (suc (suc (suc (suc zero))))) h = let l : Limits g = limits g good in omega arith
      go (suc (suc (suc (suc (suc (suc zero)))))) h = omega arith
      go (suc (suc (suc (suc (suc (suc (suc zero))))))) h = omega arith
      go (suc (suc (suc (suc (suc (suc (suc (suc j)))))))) h = absurd (omega arith)

  word_number : be word ≡ 0x4002000000 + 65536 * g.k + g.slots
  unfolding word version_store header_bytes bytes_be part be be_from
  word_number = let l : Limits g = limits g good in omega arith

  -- no part of the sum wraps
  pub word_small : 0x4002000000 + 65536 * g.k + g.slots < 18446744073709551616
  word_small = let l : Limits g = limits g good in omega arith

  pub word_spelled : (v : ℕ) → v ≡ 0x4002000000 + 65536 * g.k + g.slots → bytes_be 8 v ≡ (version_store g).bytes
  unfolding word bytes_be version_store part header_bytes
  word_spelled v e = ap (bytes_be 8) (e ∙ sym word_number) ∙ bytes_be_lem word word_bytes

  pub word_put : (xs ys : List ℕ) (v : ℕ) → length xs ≡ 16 → bytes_be 8 v ≡ (version_store g).bytes → ys ≡ patch xs 0 (bytes_be 8 v)
      → part ys 0 8 ≡ (version_store g).bytes
  word_put xs ys v n e k = ap (λ (z : List ℕ). part z 0 8) k ∙ part-patch_same xs 0 (bytes_be 8 v) 8 (length_bytes 8 v) (omega arith) ∙ e

-- ---- the checks

module _ (c : List ℕ) (f : Fit) (o : Opened 1 1 c f) where
  pub misfit : (f.refusal ≡ 0 → ⊥) → Examined c (record { refusal = f.refusal; geometry = f.geometry })
  unfolding upgrade_refusal
  misfit h =
      record {
        refusal_is = or_else_first f.refusal (fit_refusal 1 1 c) _ o.refusal_is h;
        own = λ z. absurd (h z);
        fitted = λ z. absurd (h z);
      }

  pub looked_at_lem : f.refusal ≡ 0 → (r : ℕ) → r ≡ card_refusal f.geometry c → Examined c (record { refusal = r; geometry = f.geometry })
  unfolding upgrade_refusal
  looked_at_lem z r e =
      let w = o.framed z in
      record {
        refusal_is =
            or_else_next r (fit_refusal 1 1 c) _ (sym z ∙ o.refusal_is) (e ∙ ap (λ (y : Geometry). card_refusal y c) w.geometry_is);
        own = λ q. w.geometry_is;
        fitted = λ q. w.fitted;
      }

-- ---- the call

-- the word lies on the card
pub first_room : (g : Geometry) (c : List ℕ) (n : ℕ) → Fitted g c → n ≡ length c → 0 + 8 ≤ n
first_room g c n f e = omega (arith, fitted_long g c f)

module _ (a : ℕ) (c : List ℕ) (s : Checked) (x : Examined c s) where
  pub says_refused : (s.refusal ≡ 0 → ⊥) → Refused s.refusal ≡ answer_of a (upgrade_work c)
  unfolding upgrade_work
  says_refused h = refused_answer (upgrade_work c) a s.refusal x.refusal_is h

  pub stays : (s.refusal ≡ 0 → ⊥) → c ≡ after_on card a (upgrade_work c) c
  unfolding upgrade_work
  stays h = refused_after (upgrade_work c) a card s.refusal c x.refusal_is h

  module _ (z : s.refusal ≡ 0) where
    pub says : (r : Answer) → r ≡ cond (ltb a 1) Cut (Done 1) → r ≡ answer_of a (upgrade_work c)
    unfolding upgrade_work upgrade_runs single flat stores_of
    says r e = made_answer (upgrade_work c) a s.refusal x.refusal_is z 1 r refl e

    pub leaves : (v k r : ℕ) (d : List ℕ) → bytes_be 8 v ≡ (version_store s.geometry).bytes → k ≡ min 1 a + 1
        → ((ch : List ℕ) → Did card (single (word_store 0 v)) ch k c d r) → d ≡ after_on card a (upgrade_work c) c
    unfolding upgrade_work upgrade_runs single flat stores_of version_store word_store
    leaves v k r d e m did =
        made_after (upgrade_work c) a s.refusal x.refusal_is z m (omega arith)
        (did_same
        (λ t. single (record { medium = card; place = 0; bytes = (e ∙ ap (λ (g : Geometry). (version_store g).bytes) (x.own z)) t }))
        (did []))
