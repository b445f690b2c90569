-- The pass over the entries: after i of them, check 5 allows each, their numbers stand in chains, and their current blocks are marked.
-- Assumes nothing.
use Rattle.std.proofs.Common.{◌≡◌, ℕ, ◌+◌, ◌-◌, ◌<◌, ◌≤◌, Bool, true, false, not, ◌&&◌, leb, List, length, get_or, set, sym, refl, ap, ◌∙◌, subst, ⊎_elim, not-suc-le-zero, add-one, arith, get_or-set_other, get_or-set_same}
use lib.Bits.{bit_or}
use borrow.Author.Tests.{lt-leb}
use Rattle.protocol.specs.declared.Geometry.{Geometry}
use Rattle.protocol.specs.declared.Map.{Map}
use Rattle.protocol.specs.Below.{all_below}
use Rattle.protocol.specs.Entry.{entry_at, unused}
use Rattle.protocol.specs.Map.{map_by, free_count}
use Rattle.protocol.specs.Ring.{role_free_at}
use Rattle.protocol.specs.Check.{good_entry_at, entries_fit}
use Rattle.protocol.proofs.Below.{absurd_bool, last_or_before, all_more, all_fails, all_done}
use Rattle.freemap.specs.Bits.{with_bit}
use Rattle.ring.specs.Fitted.{Fitted}
use Rattle.ring.proofs.Laws.{fitted_blocks, fitted_disk}
use Rattle.checks.specs.declared.Seen.{Seen}
use Rattle.checks.specs.Keys.{NONE, number_key, current_key, key_at, Lists}
use Rattle.checks.specs.Chain.{Blank, Chains, Entered}
use Rattle.checks.specs.Passed.{Decoded}
use Rattle.checks.proofs.Chain.{chains_start, chains_skip, chains_more, entered_link, Alone, alone_start, alone_skip, alone_more, alone_distinct}
use Rattle.checks.proofs.Fields.{Used, used_allowed, used_number, used_current, used_role, blank_allowed, blank_number, blank_current, blank_role}
use Rattle.checks.proofs.Tally.{Tally, tally_start, tally_skip, tally_more, tally_end, beyond_count, map_given}

-- ---- a row of keys

pub lists_none : (f : ℕ → ℕ) (xs : List ℕ) → Lists f xs 0
lists_none f xs j h = absurd (not-suc-le-zero h)

pub lists_more : (f : ℕ → ℕ) (xs : List ℕ) (i k : ℕ) → i < length xs → Lists f xs i → k ≡ f i → Lists f (set xs i k) (i + 1)
unfolding key_at
lists_more f xs i k l h e j b =
    ⊎_elim
    (λ (q : j ≡ i). subst (λ (x : ℕ). get_or (set xs i k) x 0 ≡ f x) (sym q) (get_or-set_same xs i k 0 l ∙ e))
    (λ (q : j < i). get_or-set_other xs i j k 0 (omega arith) ∙ h j q)
    (last_or_before j i (rw add-one at b))

pub lists_all : (f : ℕ → ℕ) (xs : List ℕ) (i n : ℕ) → n ≤ i → Lists f xs i → Lists f xs n
lists_all f xs i n l h j b = h j (omega arith)

-- ---- the pass

-- what the pass has shown after i entries
pub record Passing (g : Geometry) (c xs : List ℕ) (i : ℕ) (quiet : Bool) (shared count : ℕ) (m : Map) : Type 0 where
  pub good : all_below (good_entry_at g c) i ≡ true
  pub silent : quiet ≡ all_below (role_free_at g c) i
  pub chains : Chains (number_key g c) xs i
  pub alone : Alone (number_key g c) i shared
  pub tally : Tally (leb g.blocks) (current_key g c) i m count
  pub most : count ≤ 128 - g.blocks + i

pub pass_start : (g : Geometry) (c xs : List ℕ) (m : Map) → Fitted g c → Blank xs → m ≡ map_by (leb g.blocks)
    → Passing g c xs 0 true 0 (128 - g.blocks) m
unfolding all_below
pass_start g c xs m f e h = record {
  good = refl;
  silent = refl;
  chains = chains_start (number_key g c) xs e;
  alone = alone_start (number_key g c);
  tally = tally_start (leb g.blocks) (current_key g c) m (128 - g.blocks) h (sym (beyond_count g.blocks 128 (fitted_blocks g c f)));
  most = omega arith;
}

-- one entry more without R, or with it
silent_more : (g : Geometry) (c : List ℕ) (i : ℕ) (quiet free : Bool) → quiet ≡ all_below (role_free_at g c) i → free ≡ role_free_at g c i
    → quiet && free ≡ all_below (role_free_at g c) (i + 1)
unfolding all_below
silent_more g c i quiet free h e = (λ t. h t && e t) ∙ ap (all_below (role_free_at g c)) (sym (add-one i))

and_true : (b : Bool) → b && true ≡ b
and_true true = refl
and_true false = refl

module _ (g : Geometry) (c xs : List ℕ) (i shared count : ℕ) (quiet : Bool) (m : Map) (fit : Fitted g c) (l : i < g.blocks)
    (h : Passing g c xs i quiet shared count m) where
  few : i < 128
  few = omega (arith, fitted_blocks g c fit)

  pub pass_unused : entry_at g c i ≡ unused → Passing g c xs (i + 1) quiet shared count m
  pass_unused e =
      let n : number_key g c i ≡ NONE = blank_number g c i e in
      record {
        good = all_more (good_entry_at g c) i h.good (blank_allowed g c i e);
        silent = sym (and_true quiet) ∙ silent_more g c i quiet true h.silent (blank_role g c i e);
        chains = chains_skip (number_key g c) xs i h.chains few (omega arith);
        alone = alone_skip (number_key g c) i shared h.alone (omega arith);
        tally = tally_skip (leb g.blocks) (current_key g c) i NONE count m h.tally (sym (blank_current g c i e)) (omega arith);
        most = omega (arith, h.most);
      }

  module _ (b q d r : ℕ) (role : Bool) (ys : List ℕ) (m' : Map) (u : Used g c i b q role) (e : d ≡ q) (w : m' ≡ with_bit m d)
      (t : Entered xs i b ys r) where
    below : d < g.blocks
    below = omega (arith, e, u.allowed.current_below, u.current)

    number_below_lem : b < NONE
    number_below_lem = omega (arith, u.allowed.number_below, u.number, fitted_disk g c fit)

    entered : Chains (number_key g c) ys (i + 1)
    entered = chains_more (number_key g c) xs i h.chains few b r ys (used_number u) number_below_lem t

    pub pass_used : (quiet' : Bool) → quiet' ≡ quiet && not role → Passing g c ys (i + 1) quiet' (bit_or shared r) (count + 1) m'
    pass_used quiet' s = record {
      good = all_more (good_entry_at g c) i h.good (used_allowed u);
      silent = s ∙ silent_more g c i quiet (not role) h.silent (used_role u);
      chains = entered;
      alone =
          alone_more (number_key g c) i shared r h.alone
          (entered_link (number_key g c) xs i h.chains few b r ys (used_number u) number_below_lem t);
      tally =
          tally_more (leb g.blocks) (current_key g c) i d count m h.tally (e ∙ used_current u)
          (omega (arith, below, fitted_blocks g c fit)) (lt-leb g.blocks d below) m' w;
      most = omega (arith, h.most);
    }

  pub pass_bad : (ys : List ℕ) (s : Seen) → good_entry_at g c i ≡ false → s.fits ≡ false → Decoded g c ys s
  unfolding entries_fit
  pass_bad ys s bad o = record {
    fits = o ∙ sym (all_fails (good_entry_at g c) g.blocks i l bad);
    quiet = λ t. absurd_bool t o;
    chains = λ t. absurd_bool t o;
    alone = λ t. absurd_bool t o;
    map_is = λ t. absurd_bool t o;
    most = λ t. absurd_bool t o;
    once = λ t. absurd_bool t o;
  }

pub pass_end : (g : Geometry) (c xs : List ℕ) (i shared count : ℕ) (quiet : Bool) (m : Map) → Fitted g c → Passing g c xs i quiet shared count m
    → g.blocks ≤ i → i ≤ g.blocks
    → Decoded g c xs (record { fits = true; quiet = quiet; shared = shared; count = count; map = m })
unfolding entries_fit
pass_end g c xs i shared count quiet m f h a b =
    let e : i ≡ g.blocks = omega arith in
    record {
      fits = sym (all_done (good_entry_at g c) g.blocks i h.good a b);
      quiet = λ t. h.silent ∙ ap (all_below (role_free_at g c)) e;
      chains = λ t. subst (Chains (number_key g c) xs) e h.chains;
      alone = λ t. alone_distinct (number_key g c) g.blocks shared (subst (λ (n : ℕ). Alone (number_key g c) n shared) e h.alone);
      map_is = λ t. (subst (λ (n : ℕ). Tally (leb g.blocks) (current_key g c) n m count) e h.tally).map_is ∙ map_given g c;
      most = λ t. omega (arith, h.most, fitted_blocks g c f);
      once = λ t. tally_end (leb g.blocks) (current_key g c) i g.blocks count (free_count m) m h.tally b a refl;
    }
