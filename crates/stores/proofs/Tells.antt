-- The runs that a call tells: what each kind asks of its place, and what its maker has done once it is made, on both media. Assumes nothing.
use Prim.Native.Nat.{ℕ, zero, suc, ◌+◌, ◌*◌, ◌/◌, ◌%◌, ◌≤◌}
use mathlib.Core.List.{List, [], ◌∷◌}
use mathlib.Core.Bool.{true, false}
use mathlib.Core.Path.{◌≡◌, refl, sym, ap, subst, ◌∙◌}
use native.Mathlib.Omega.{arith}
use lib.ListN.{length}
use Rattle.numbers.specs.Bytes.{part, bytes_be}
use Rattle.protocol.specs.declared.Entry.{Entry as Fields}
use Rattle.protocol.specs.declared.Geometry.{Geometry}
use Rattle.protocol.specs.Layout.{good_geometry, block_size}
use Rattle.protocol.specs.Entry.{entry_bytes}
use Rattle.protocol.specs.Store.{Medium, card, disk, Store, Run as Fenced, is_on, made_on, made, units, single, word_store}
use Rattle.protocol.proofs.Stores.{Confined, confined_elsewhere, units_confined, some_made}
use Rattle.protocol.proofs.Checks.{limits}
use Rattle.protocol.proofs.Region.{whole}
use Rattle.stores.specs.declared.Run.{Run}
use Rattle.stores.specs.declared.Run.TheVariants.{Nothing, Words, Sectors, Entry, Word}
use Rattle.stores.specs.Did.{card_store, unfenced, under_credit, Did}
use Rattle.stores.specs.Told.{told, OnCard, Placed}
use Rattle.stores.proofs.Laws.{did_none, did_same}

-- ---- the other medium

-- a run on one medium leaves the other
other_stays : (m o : Medium) (at n : ℕ) (r : Fenced) (ch : List ℕ) (a : ℕ) (zs : List ℕ) → Confined m at n r.stores → is_on o m ≡ false
    → zs ≡ made_on o (under_credit a ch (r ∷ [])) zs
unfolding under_credit made_on
other_stays m o at n r ch zero zs h d = refl
other_stays m o at n r ch (suc a) zs h d = sym (confined_elsewhere m o at n (made a ch (r ∷ [])) zs (some_made a ch r m at n h) d)

did_other : (m o : Medium) (at n : ℕ) (r : Fenced) {ch : List ℕ} {a : ℕ} {xs ys zs : List ℕ} {q : ℕ} → Confined m at n r.stores → is_on o m ≡ false
    → Did m (r ∷ []) ch a xs ys q → Did o (r ∷ []) ch a zs zs q
did_other m o at n r {ch} {a} {xs} {ys} {zs} {q} h d x = record { made = other_stays m o at n r ch a zs h d; left = x.left }

-- a run that has nothing for the disk leaves any
pub told_beside : (g : Geometry) (run : Run) (s c ch : List ℕ) (a : ℕ) (xs ys zs : List ℕ) (q : ℕ) → OnCard run → Did card (told g run s c) ch a xs ys q
    → Did disk (told g run s c) ch a zs zs q
unfolding told is_on single word_store
told_beside g Nothing s c ch a xs ys zs q o x = record { made = (did_none {m = disk} {ch = ch} {a = a} {xs = zs}).made; left = x.left }
told_beside g (Words to from) s c ch a xs ys zs q o x =
    did_other card disk to (block_size g / 8 * 8) _ (units_confined card 8 (block_size g / 8) to (part s from (block_size g))) refl x
told_beside g (Sectors to from) s c ch a xs ys zs q o x = absurd o
told_beside g (Entry at e) s c ch a xs ys zs q o x =
    did_other card disk at (length (entry_bytes e)) _ (record { on = refl; from = omega arith; to = omega arith }, tt) refl x
told_beside g (Word at v) s c ch a xs ys zs q o x =
    did_other card disk at (length (bytes_be 8 v)) _ (record { on = refl; from = omega arith; to = omega arith }, tt) refl x

-- ---- each kind

-- what a run told as `run` did on both media
abbrev Both : Geometry → Run → List ℕ → List ℕ → ℕ → List ℕ → List ℕ → List ℕ → List ℕ → ℕ → Type 0
Both g run s ch a c c' d d' r = Did card (told g run s c) ch a c c' r × Did disk (told g run s c) ch a d d' r

module _ (g : Geometry) (run : Run) (s ch : List ℕ) (a : ℕ) (c d : List ℕ) where
  pub nothing_made : run ≡ Nothing → Both g run s ch a c c d d a
  unfolding told
  nothing_made e = (did_same (sym (ap (λ (x : Run). told g x s c) e)) did_none, did_same (sym (ap (λ (x : Run). told g x s c) e)) did_none)

  -- a single store on the card
  one_both : (st : Store) (c' : List ℕ) (r : ℕ) → st.medium ≡ card → told g run s c ≡ single st → Did card (single st) ch a c c' r → Both g run s ch a c c' d d r
  unfolding single is_on
  one_both st c' r m e x = (
    did_same (sym e) x,
    did_same (sym e)
        (did_other card disk st.place (length st.bytes) _ (record { on = m; from = omega arith; to = omega arith }, tt) refl x),
  )

  pub entry_made : (at : ℕ) (e : Fields) (c' : List ℕ) (r : ℕ) → run ≡ Entry at e
      → ((h : List ℕ) → Did card (single (card_store at (entry_bytes e))) h a c c' r) → Both g run s ch a c c' d d r
  unfolding told
  entry_made at e c' r q x = one_both (card_store at (entry_bytes e)) c' r refl (ap (λ (y : Run). told g y s c) q) (x ch)

  pub word_made : (at v : ℕ) (c' : List ℕ) (r : ℕ) → run ≡ Word at v → ((h : List ℕ) → Did card (single (word_store at v)) h a c c' r)
      → Both g run s ch a c c' d d r
  unfolding told word_store
  word_made at v c' r q x = one_both (word_store at v) c' r refl (ap (λ (y : Run). told g y s c) q) (x ch)

  -- the words of a block
  pub words-made : (to from : ℕ) (c' : List ℕ) (r : ℕ) → run ≡ Words to from
      → Did card (unfenced (units card 8 (block_size g / 8) to (part s from (block_size g))) ∷ []) ch a c c' r → Both g run s ch a c c' d d r
  unfolding told is_on
  words-made to from c' r q x =
      let us = sym (ap (λ (y : Run). told g y s c) q) in (
        did_same us x,
        did_same us (did_other card disk to (block_size g / 8 * 8) _ (units_confined card 8 (block_size g / 8) to (part s from (block_size g))) refl x),
      )

  -- the sectors
  module _ (good : good_geometry g ≡ true) (size : ℕ) (e : size ≡ block_size g) (to from r : ℕ) where
    pub sectors-made : (d' : List ℕ) → run ≡ Sectors to from
        → ((m : Medium) → Did m (unfenced (units m 512 (size / 512) to (part c from (size / 512 * 512))) ∷ []) ch a d d' r) → Both g run s ch a c c d d' r
    unfolding told is_on
    sectors-made d' q x =
        let w = (whole g (limits g good)).in_sectors in
        let us : unfenced (units disk 512 (size / 512) to (part c from (size / 512 * 512))) ∷ [] ≡ told g run s c =
        ap (λ (n : ℕ). unfenced (units disk 512 (n / 512) to (part c from (n / 512 * 512))) ∷ []) e
        ∙ ap (λ (n : ℕ). unfenced (units disk 512 (block_size g / 512) to (part c from n)) ∷ []) w
        ∙ sym (ap (λ (y : Run). told g y s c) q) in (
          did_same us (did_other disk card to (size / 512 * 512) _ (units_confined disk 512 (size / 512) to (part c from (size / 512 * 512))) refl (x disk)),
          did_same us (x disk),
        )

-- whole blocks are units of 8 bytes
pub words_whole : (g : Geometry) → good_geometry g ≡ true → (size : ℕ) → size ≡ block_size g → (to from a : ℕ) (s ch xs ys : List ℕ) (r : ℕ)
    → ((m : Medium) → Did m (unfenced (units m 8 (size / 8) to (part s from (size / 8 * 8))) ∷ []) ch a xs ys r)
    → Did card (unfenced (units card 8 (block_size g / 8) to (part s from (block_size g))) ∷ []) ch a xs ys r
words_whole g good size e to from a s ch xs ys r x =
    let w = (whole g (limits g good)).in_words in
    did_same
    (ap (λ (n : ℕ). unfenced (units card 8 (n / 8) to (part s from (n / 8 * 8))) ∷ []) e
    ∙ ap (λ (n : ℕ). unfenced (units card 8 (block_size g / 8) to (part s from n)) ∷ []) w)
    (x card)

pub words_fit : (g : Geometry) → good_geometry g ≡ true → (size : ℕ) → size ≡ block_size g → (to from n s h : ℕ) → to + block_size g ≤ n → from + block_size g ≤ s
    → block_size g / 8 ≤ h → (3 ≤ 9) × (size / 8 ≤ 512) × (to + size / 8 * 8 ≤ n) × (from + size / 8 * 8 ≤ s) × (size / 8 ≤ h)
words_fit g good size e to from n s h x y z =
    let l = limits g good in
    let w = (whole g l).in_words in
    (omega arith, omega arith, omega arith, omega arith, omega arith)

-- ---- what each kind asks

module _ (g : Geometry) (run : Run) (n d s h : ℕ) (p : Placed g run n d s h) where
  pub entry_asked : (at : ℕ) (e : Fields) → run ≡ Entry at e → (at + 16 ≤ n) × (at % 16 ≡ 0)
  entry_asked at e q = subst (λ (x : Run). Placed g x n d s h) q p

  pub words_asked : (to from : ℕ) → run ≡ Words to from → (to + block_size g ≤ n) × (from + block_size g ≤ s) × (block_size g / 8 ≤ h)
  words_asked to from q = subst (λ (x : Run). Placed g x n d s h) q p

  pub word_asked : (at v : ℕ) → run ≡ Word at v → at + 8 ≤ n
  word_asked at v q = subst (λ (x : Run). Placed g x n d s h) q p

  module _ (good : good_geometry g ≡ true) (size : ℕ) (e : size ≡ block_size g) (to from : ℕ) where
    pub sectors_asked : run ≡ Sectors to from
        → (9 ≤ 9) × (size / 512 ≤ 512) × (to + size / 512 * 512 ≤ d) × (from + size / 512 * 512 ≤ n) × (size / 512 ≤ h)
    sectors_asked q =
        let (x, y, z) = subst (λ (r : Run). Placed g r n d s h) q p in
        let l = limits g good in
        let w = (whole g l).in_sectors in
        (omega arith, omega arith, omega arith, omega arith, omega arith)
