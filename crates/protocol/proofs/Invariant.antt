-- The invariant behind the cut rule, over kinds: what the theorem needs of one entry, whatever its flag byte and the window say.
-- A change of a data block or a disk block, a change of one entry, and Tail's store each keep it. Assumes nothing.
use Prim.Native.Nat.{ℕ, ◌<◌}
use mathlib.Core.List.{List}
use mathlib.Core.Bool.{Bool, true, false, not}
use mathlib.Core.Option.{Option, none, some}
use mathlib.Core.Path.{◌≡◌, refl, sym, ap, subst, ◌∙◌}
use mathlib.Core.Logic.{◌⊎◌, ⊎_elim}
use native.Mathlib.Omega.{arith}
use Rattle.protocol.proofs.Below.{same_or_other, absurd_bool}

-- an entry is unused; or it stands, modified or not, for a number with its current block; or it can be undone to its previous block, if any, and then is
-- modified or not as the second test says
pub data Kind : Type 0 where
  idle : Kind
  live : Bool → ℕ → ℕ → Kind
  pending : Bool → Bool → ℕ → Option ℕ → ℕ → Kind

abbrev pub kind_number : Kind → Option ℕ
kind_number idle = none
kind_number (live m b q) = some b
kind_number (pending m w b p q) = some b

abbrev pub kind_current : Kind → Option ℕ
kind_current idle = none
kind_current (live m b q) = some q
kind_current (pending m w b p q) = some q

abbrev pub kind_previous : Kind → Option ℕ
kind_previous idle = none
kind_previous (live m b q) = none
kind_previous (pending m w b p q) = p

-- the settled block, none where the number had no block before
abbrev pub kind_home : Kind → Option ℕ
kind_home idle = none
kind_home (live m b q) = some q
kind_home (pending m w b p q) = p

-- what Tail's store makes of a kind: an undoable entry stands with its current block
abbrev pub settled_kind : Kind → Kind
settled_kind idle = idle
settled_kind (live m b q) = live m b q
settled_kind (pending m w b p q) = live m b q

-- what recovery makes of a kind: an undoable entry stands with its previous block, if any
abbrev pub undone_kind : Kind → Kind
undone_kind idle = idle
undone_kind (live m b q) = live m b q
undone_kind (pending m w b none q) = idle
undone_kind (pending m w b (some p) q) = live w b p

-- the current block is the disk's, and so is the previous one
abbrev pub is_clean : Kind → Bool
is_clean idle = false
is_clean (live m b q) = not m
is_clean (pending m w b p q) = not m

abbrev pub was_clean : Kind → Bool
was_clean idle = false
was_clean (live m b q) = false
was_clean (pending m w b p q) = not w

-- the entries' kinds, the data blocks and the disk's blocks
pub record View : Type 0 where
  pub kind : ℕ → Kind
  pub block : ℕ → List ℕ
  pub home : ℕ → List ℕ

-- the invariant: n entries and data blocks, d disk blocks, and the row that the settled blocks hold
pub record Safe (n d : ℕ) (row : ℕ → List ℕ) (v : View) : Type 0 where
  pub number_under : (i x : ℕ) → i < n → kind_number (v.kind i) ≡ some x → x < d
  pub current_under : (i x : ℕ) → i < n → kind_current (v.kind i) ≡ some x → x < n
  pub previous_under : (i x : ℕ) → i < n → kind_previous (v.kind i) ≡ some x → x < n
  pub numbers : (i j x : ℕ) → i < n → j < n → kind_number (v.kind i) ≡ some x → kind_number (v.kind j) ≡ some x → i ≡ j
  pub currents : (i j x : ℕ) → i < n → j < n → kind_current (v.kind i) ≡ some x → kind_current (v.kind j) ≡ some x → i ≡ j
  pub previouses : (i j x : ℕ) → i < n → j < n → kind_previous (v.kind i) ≡ some x → kind_previous (v.kind j) ≡ some x → i ≡ j
  pub crossed : (i j x : ℕ) → i < n → j < n → kind_previous (v.kind i) ≡ some x → kind_current (v.kind j) ≡ some x → i ≡ j
  pub clean : (i b q : ℕ) → i < n → is_clean (v.kind i) ≡ true → kind_number (v.kind i) ≡ some b → kind_current (v.kind i) ≡ some q
      → v.block q ≡ v.home b
  pub clean_before : (i b p : ℕ) → i < n → was_clean (v.kind i) ≡ true → kind_number (v.kind i) ≡ some b → kind_previous (v.kind i) ≡ some p
      → v.block p ≡ v.home b
  pub held : (i b p : ℕ) → i < n → kind_number (v.kind i) ≡ some b → kind_home (v.kind i) ≡ some p → v.block p ≡ row b
  pub bare : (b : ℕ) → b < d → ((i : ℕ) → i < n → kind_number (v.kind i) ≡ some b → kind_home (v.kind i) ≡ none) → v.home b ≡ row b

-- a settled block is the current block or the previous one
pub home_under : {m : ℕ} (k : Kind) (p : ℕ) → kind_home k ≡ some p → (kind_current k ≡ some p → p < m) → (kind_previous k ≡ some p → p < m) → p < m
home_under idle p e c r = let z : ◌≡◌ {A = ℕ} 0 1 = cc in absurd (omega arith)
home_under (live m b q) p e c r = c e
home_under (pending m w b o q) p e c r = r e

-- ---- a data block or a disk block changes

-- the same kinds; the blocks that an entry names stay, and so do the disk's blocks but for those that a modified live entry stands for.
-- What changes inside such a block is left open, so this covers every choice of a run's stores
pub change_media : {n d : ℕ} {row : ℕ → List ℕ} {v w : View} → Safe n d row v
    → ((i : ℕ) → i < n → w.kind i ≡ v.kind i)
    → ((i p : ℕ) → i < n → kind_current (v.kind i) ≡ some p → w.block p ≡ v.block p)
    → ((i p : ℕ) → i < n → kind_previous (v.kind i) ≡ some p → w.block p ≡ v.block p)
    → ((b : ℕ) → b < d → (w.home b ≡ v.home b) ⊎ ((i : ℕ) × (q : ℕ) × (i < n) × (v.kind i ≡ live true b q)))
    → Safe n d row w
change_media {n} {d} {row} {v} {w} s same cur prev homes =
    record {
      number_under = λ i x l e. s.number_under i x l (via kind_number i l e);
      current_under = λ i x l e. s.current_under i x l (via kind_current i l e);
      previous_under = λ i x l e. s.previous_under i x l (via kind_previous i l e);
      numbers = λ i j x l m e f. s.numbers i j x l m (via kind_number i l e) (via kind_number j m f);
      currents = λ i j x l m e f. s.currents i j x l m (via kind_current i l e) (via kind_current j m f);
      previouses = λ i j x l m e f. s.previouses i j x l m (via kind_previous i l e) (via kind_previous j m f);
      crossed = λ i j x l m e f. s.crossed i j x l m (via kind_previous i l e) (via kind_current j m f);
      clean = cleaned is_clean kind_current (λ b q. refl) cur s.clean;
      clean_before = cleaned was_clean kind_previous (λ b q. refl) prev s.clean_before;
      held = λ i b p l e f. kept (v.kind i) i p l refl (via kind_home i l f) ∙ s.held i b p l (via kind_number i l e) (via kind_home i l f);
      bare = bared;
    }
  where
    via : {A : Type 0} (f : Kind → A) (i : ℕ) {x : A} → i < n → f (w.kind i) ≡ x → f (v.kind i) ≡ x
    via f i l e = sym (ap f (same i l)) ∙ e

    kept : (k : Kind) (i p : ℕ) → i < n → v.kind i ≡ k → kind_home k ≡ some p → w.block p ≡ v.block p
    kept idle i p l e f = let z : ◌≡◌ {A = ℕ} 0 1 = cc in absurd (omega arith)
    kept (live m b q) i p l e f = cur i p l (ap kind_current e ∙ f)
    kept (pending m z b o q) i p l e f = prev i p l (ap kind_previous e ∙ f)

    -- a clean current block, or a clean previous one: no modified entry stands for its number, so the disk's block stays
    cleaned : (f : Kind → Bool) (h : Kind → Option ℕ) → ((b q : ℕ) → f (live true b q) ≡ false)
        → ((i p : ℕ) → i < n → h (v.kind i) ≡ some p → w.block p ≡ v.block p)
        → ((i b q : ℕ) → i < n → f (v.kind i) ≡ true → kind_number (v.kind i) ≡ some b → h (v.kind i) ≡ some q → v.block q ≡ v.home b)
        → (i b q : ℕ) → i < n → f (w.kind i) ≡ true → kind_number (w.kind i) ≡ some b → h (w.kind i) ≡ some q → w.block q ≡ w.home b
    cleaned f h dirty stays before i b q l c e k =
        ⊎_elim
        (λ x. stays i q l (via h i l k) ∙ before i b q l (via f i l c) (via kind_number i l e) (via h i l k) ∙ sym x)
        (λ t. absurd (clash t.0 t.1 t.2 t.3))
        (homes b (s.number_under i b l (via kind_number i l e)))
      where
        clash : (j q' : ℕ) → j < n → v.kind j ≡ live true b q' → ⊥
        clash j q' m x =
            let y : i ≡ j = s.numbers i j b l m (via kind_number i l e) (ap kind_number x) in
            absurd_bool (via f i l c) (ap f (ap v.kind y ∙ x) ∙ dirty b q')

    bared : (b : ℕ) → b < d → ((i : ℕ) → i < n → kind_number (w.kind i) ≡ some b → kind_home (w.kind i) ≡ none) → w.home b ≡ row b
    bared b l none' =
        ⊎_elim
        (λ h. h ∙ s.bare b l (λ i m e. via kind_home i m (none' i m (ap kind_number (same i m) ∙ e))))
        (λ t. absurd (housed t.0 t.1 t.2 t.3))
        (homes b l)
      where
        housed : (i q : ℕ) → i < n → v.kind i ≡ live true b q → ⊥
        housed i q m e =
            let h : kind_home (w.kind i) ≡ none = none' i m (ap kind_number (same i m) ∙ ap kind_number e) in
            let g : kind_home (w.kind i) ≡ some q = ap kind_home (same i m) ∙ ap kind_home e in
            let z : ◌≡◌ {A = ℕ} 0 1 = cc in
            omega arith

-- ---- one entry changes

-- what the new kind k of entry i owes
pub record Owes (n d : ℕ) (row : ℕ → List ℕ) (v : View) (i : ℕ) (k : Kind) : Type 0 where
  pub number_under : (x : ℕ) → kind_number k ≡ some x → x < d
  pub current_under : (x : ℕ) → kind_current k ≡ some x → x < n
  pub previous_under : (x : ℕ) → kind_previous k ≡ some x → x < n
  pub numbers : (j x : ℕ) → j < n → (j ≡ i → ⊥) → kind_number k ≡ some x → kind_number (v.kind j) ≡ some x → ⊥
  pub currents : (j x : ℕ) → j < n → (j ≡ i → ⊥) → kind_current k ≡ some x → kind_current (v.kind j) ≡ some x → ⊥
  pub previouses : (j x : ℕ) → j < n → (j ≡ i → ⊥) → kind_previous k ≡ some x → kind_previous (v.kind j) ≡ some x → ⊥
  pub previous_current : (j x : ℕ) → j < n → (j ≡ i → ⊥) → kind_previous k ≡ some x → kind_current (v.kind j) ≡ some x → ⊥
  pub current_previous : (j x : ℕ) → j < n → (j ≡ i → ⊥) → kind_current k ≡ some x → kind_previous (v.kind j) ≡ some x → ⊥
  pub clean : (b q : ℕ) → is_clean k ≡ true → kind_number k ≡ some b → kind_current k ≡ some q → v.block q ≡ v.home b
  pub clean_before : (b p : ℕ) → was_clean k ≡ true → kind_number k ≡ some b → kind_previous k ≡ some p → v.block p ≡ v.home b
  pub held : (b p : ℕ) → kind_number k ≡ some b → kind_home k ≡ some p → v.block p ≡ row b
  pub bare : (b : ℕ) → b < d → (kind_number k ≡ some b → kind_home k ≡ none)
      → (kind_number (v.kind i) ≡ some b → kind_home (v.kind i) ≡ none) ⊎ (v.home b ≡ row b)

-- entry j after the change: it is the changed one, or another that stays
data Which (n : ℕ) (v w : View) (i : ℕ) (k : Kind) (j : ℕ) : Type 0 where
  this : j ≡ i → w.kind j ≡ k → Which n v w i k j
  other : (j ≡ i → ⊥) → w.kind j ≡ v.kind j → Which n v w i k j

pub change_entry : {n d : ℕ} {row : ℕ → List ℕ} {v w : View} (i : ℕ) (k : Kind) → Safe n d row v → i < n
    → w.kind i ≡ k
    → ((j : ℕ) → j < n → (j ≡ i → ⊥) → w.kind j ≡ v.kind j)
    → ((p : ℕ) → p < n → w.block p ≡ v.block p)
    → ((b : ℕ) → b < d → w.home b ≡ v.home b)
    → Owes n d row v i k
    → Safe n d row w
change_entry {n} {d} {row} {v} {w} i k s il new old blocks homes o =
    record {
      number_under = under kind_number d s.number_under o.number_under;
      current_under = under kind_current n s.current_under o.current_under;
      previous_under = under kind_previous n s.previous_under o.previous_under;
      numbers = apart kind_number kind_number s.numbers o.numbers o.numbers;
      currents = apart kind_current kind_current s.currents o.currents o.currents;
      previouses = apart kind_previous kind_previous s.previouses o.previouses o.previouses;
      crossed = apart kind_previous kind_current s.crossed o.previous_current o.current_previous;
      clean = λ j b q l c e f. cleaned is_clean kind_current s.current_under o.current_under s.clean o.clean j b q l c e f (which j l);
      clean_before = λ j b q l c e f.
          cleaned was_clean kind_previous s.previous_under o.previous_under s.clean_before o.clean_before j b q l c e f (which j l);
      held = λ j b p l e f. home_block j b p l e f (which j l);
      bare = bared;
    }
  where
    which : (j : ℕ) → j < n → Which n v w i k j
    which j l = ⊎_elim (λ e. this e (ap w.kind e ∙ new)) (λ h. other h (old j l h)) (same_or_other j i)

    under : (f : Kind → Option ℕ) (m : ℕ) → ((j x : ℕ) → j < n → f (v.kind j) ≡ some x → x < m) → ((x : ℕ) → f k ≡ some x → x < m)
        → (j x : ℕ) → j < n → f (w.kind j) ≡ some x → x < m
    under f m before now j x l e = go (which j l)
      where
        go : Which n v w i k j → x < m
        go (this q h) = now x (sym (ap f h) ∙ e)
        go (other q h) = before j x l (sym (ap f h) ∙ e)

    apart : (f g : Kind → Option ℕ)
        → ((a b x : ℕ) → a < n → b < n → f (v.kind a) ≡ some x → g (v.kind b) ≡ some x → a ≡ b)
        → ((j x : ℕ) → j < n → (j ≡ i → ⊥) → f k ≡ some x → g (v.kind j) ≡ some x → ⊥)
        → ((j x : ℕ) → j < n → (j ≡ i → ⊥) → g k ≡ some x → f (v.kind j) ≡ some x → ⊥)
        → (a b x : ℕ) → a < n → b < n → f (w.kind a) ≡ some x → g (w.kind b) ≡ some x → a ≡ b
    apart f g before new-old old-new a b x la lb ea eb = go (which a la) (which b lb)
      where
        go : Which n v w i k a → Which n v w i k b → a ≡ b
        go (this p h) (this q t) = p ∙ sym q
        go (this p h) (other q t) = absurd (new-old b x lb q (sym (ap f h) ∙ ea) (sym (ap g t) ∙ eb))
        go (other p h) (this q t) = absurd (old-new a x la p (sym (ap g t) ∙ eb) (sym (ap f h) ∙ ea))
        go (other p h) (other q t) = before a b x la lb (sym (ap f h) ∙ ea) (sym (ap g t) ∙ eb)

    cleaned : (f : Kind → Bool) (g : Kind → Option ℕ)
        → ((j x : ℕ) → j < n → g (v.kind j) ≡ some x → x < n) → ((x : ℕ) → g k ≡ some x → x < n)
        → ((j b q : ℕ) → j < n → f (v.kind j) ≡ true → kind_number (v.kind j) ≡ some b → g (v.kind j) ≡ some q → v.block q ≡ v.home b)
        → ((b q : ℕ) → f k ≡ true → kind_number k ≡ some b → g k ≡ some q → v.block q ≡ v.home b)
        → (j b q : ℕ) → j < n → f (w.kind j) ≡ true → kind_number (w.kind j) ≡ some b → g (w.kind j) ≡ some q → Which n v w i k j
        → w.block q ≡ w.home b
    cleaned f g low new-low before now j b q l c e x (this p h) =
        let t = sym (ap kind_number h) ∙ e in
        let u = sym (ap g h) ∙ x in
        blocks q (new-low q u) ∙ now b q (sym (ap f h) ∙ c) t u ∙ sym (homes b (o.number_under b t))
    cleaned f g low new-low before now j b q l c e x (other p h) =
        let t = sym (ap kind_number h) ∙ e in
        let u = sym (ap g h) ∙ x in
        blocks q (low j q l u) ∙ before j b q l (sym (ap f h) ∙ c) t u ∙ sym (homes b (s.number_under j b l t))

    home_block : (j b p : ℕ) → j < n → kind_number (w.kind j) ≡ some b → kind_home (w.kind j) ≡ some p → Which n v w i k j → w.block p ≡ row b
    home_block j b p l e f (this q h) =
        let x : kind_home k ≡ some p = sym (ap kind_home h) ∙ f in
        blocks p (home_under k p x (o.current_under p) (o.previous_under p)) ∙ o.held b p (sym (ap kind_number h) ∙ e) x
    home_block j b p l e f (other q h) =
        let x : kind_home (v.kind j) ≡ some p = sym (ap kind_home h) ∙ f in
        blocks p (home_under (v.kind j) p x (s.current_under j p l) (s.previous_under j p l)) ∙ s.held j b p l (sym (ap kind_number h) ∙ e) x

    bared : (b : ℕ) → b < d → ((j : ℕ) → j < n → kind_number (w.kind j) ≡ some b → kind_home (w.kind j) ≡ none) → w.home b ≡ row b
    bared b l all =
        homes b l
        ∙ ⊎_elim
        (λ h. s.bare b l (λ j m e. before h j m e (which j m)))
        (λ h. h)
        (o.bare b l (λ e. sym (ap kind_home new) ∙ all i il (ap kind_number new ∙ e)))
      where
        before : (kind_number (v.kind i) ≡ some b → kind_home (v.kind i) ≡ none) → (j : ℕ) → j < n
            → kind_number (v.kind j) ≡ some b → Which n v w i k j → kind_home (v.kind j) ≡ none
        before h j m e (this p q) =
            subst (λ (a : ℕ). kind_home (v.kind a) ≡ none) (sym p) (h (subst (λ (a : ℕ). kind_number (v.kind a) ≡ some b) p e))
        before h j m e (other p q) = sym (ap kind_home q) ∙ all j m (ap kind_number q ∙ e)

-- ---- Tail's store

-- every undoable entry stands with its current block. What the blocks hold and what the disk holds where no entry is must be the new row
pub settle_all : {n d : ℕ} {row row' : ℕ → List ℕ} {v w : View} → Safe n d row v
    → ((i : ℕ) → i < n → w.kind i ≡ settled_kind (v.kind i))
    → ((p : ℕ) → p < n → w.block p ≡ v.block p)
    → ((b : ℕ) → b < d → w.home b ≡ v.home b)
    → ((i b q : ℕ) → i < n → kind_number (v.kind i) ≡ some b → kind_current (v.kind i) ≡ some q → v.block q ≡ row' b)
    → ((b : ℕ) → b < d → ((i : ℕ) → i < n → kind_number (v.kind i) ≡ some b → ⊥) → v.home b ≡ row' b)
    → Safe n d row' w
settle_all {n} {d} {row} {row'} {v} {w} s new blocks homes full empty =
    record {
      number_under = λ i x l e. s.number_under i x l (num i l e);
      current_under = λ i x l e. s.current_under i x l (cur i l e);
      previous_under = λ i x l e. absurd (no_previous i l e);
      numbers = λ i j x l m e f. s.numbers i j x l m (num i l e) (num j m f);
      currents = λ i j x l m e f. s.currents i j x l m (cur i l e) (cur j m f);
      previouses = λ i j x l m e f. absurd (no_previous i l e);
      crossed = λ i j x l m e f. absurd (no_previous i l e);
      clean = λ i b q l c e f.
          blocks q (s.current_under i q l (cur i l f))
          ∙ s.clean i b q l (sym (ap is_clean (new i l) ∙ settled_clean (v.kind i)) ∙ c) (num i l e) (cur i l f)
          ∙ sym (homes b (s.number_under i b l (num i l e)));
      clean_before = λ i b q l c e f. absurd (no_previous i l f);
      held = λ i b p l e f. blocks p (s.current_under i p l (home i l f)) ∙ full i b p l (num i l e) (home i l f);
      bare = λ b l all. homes b l ∙ empty b l (λ i m e. absent i b m e (all i m));
    }
  where
    settled_number : (k : Kind) → kind_number (settled_kind k) ≡ kind_number k
    settled_number idle = refl
    settled_number (live m b q) = refl
    settled_number (pending m w b p q) = refl

    settled_current : (k : Kind) → kind_current (settled_kind k) ≡ kind_current k
    settled_current idle = refl
    settled_current (live m b q) = refl
    settled_current (pending m w b p q) = refl

    settled_home : (k : Kind) → kind_home (settled_kind k) ≡ kind_current k
    settled_home idle = refl
    settled_home (live m b q) = refl
    settled_home (pending m w b p q) = refl

    settled_clean : (k : Kind) → is_clean (settled_kind k) ≡ is_clean k
    settled_clean idle = refl
    settled_clean (live m b q) = refl
    settled_clean (pending m w b p q) = refl

    settled_previous : (k : Kind) → kind_previous (settled_kind k) ≡ none
    settled_previous idle = refl
    settled_previous (live m b q) = refl
    settled_previous (pending m w b p q) = refl

    num : (i : ℕ) {x : Option ℕ} → i < n → kind_number (w.kind i) ≡ x → kind_number (v.kind i) ≡ x
    num i l e = sym (ap kind_number (new i l) ∙ settled_number (v.kind i)) ∙ e

    cur : (i : ℕ) {x : Option ℕ} → i < n → kind_current (w.kind i) ≡ x → kind_current (v.kind i) ≡ x
    cur i l e = sym (ap kind_current (new i l) ∙ settled_current (v.kind i)) ∙ e

    home : (i : ℕ) {x : Option ℕ} → i < n → kind_home (w.kind i) ≡ x → kind_current (v.kind i) ≡ x
    home i l e = sym (ap kind_home (new i l) ∙ settled_home (v.kind i)) ∙ e

    no_previous : (i : ℕ) {x : ℕ} → i < n → kind_previous (w.kind i) ≡ some x → ⊥
    no_previous i l e =
        let h : kind_previous (w.kind i) ≡ none = ap kind_previous (new i l) ∙ settled_previous (v.kind i) in
        let z : ◌≡◌ {A = ℕ} 0 1 = cc in
        omega arith

    absent : (i b : ℕ) → i < n → kind_number (v.kind i) ≡ some b → (kind_number (w.kind i) ≡ some b → kind_home (w.kind i) ≡ none) → ⊥
    absent i b l e h = go (v.kind i) refl
      where
        no_home : kind_current (v.kind i) ≡ none
        no_home = home i l (h (ap kind_number (new i l) ∙ settled_number (v.kind i) ∙ e))

        go : (k : Kind) → v.kind i ≡ k → ⊥
        go idle q = let z : ◌≡◌ {A = ℕ} 0 1 = cc (ap kind_number q) in omega arith
        go (live m b' q') q = let z : ◌≡◌ {A = ℕ} 0 1 = cc (ap kind_current q, no_home) in omega arith
        go (pending m w b' p q') q = let z : ◌≡◌ {A = ℕ} 0 1 = cc (ap kind_current q, no_home) in omega arith
