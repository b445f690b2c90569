-- Check 6 is a search for equal keys: entries are apart exactly where numbers, current blocks and settled blocks are each distinct, so
-- the three are checked apart. On a settled card the settled blocks are the current ones. Assumes nothing.
use Rattle.std.proofs.Common.{◌≡◌, ℕ, ◌<◌, ◌≤◌, Bool, true, false, ◌&&◌, eqb, ltb, ◌⊎◌, List, sym, refl, ◌∙◌, subst, inl, ⊎_elim, arith, ltb-true, lt-ltb, eq-eqb, ne_eqb}
use Rattle.protocol.specs.declared.Geometry.{Geometry}
use Rattle.protocol.specs.Below.{any_below}
use Rattle.protocol.specs.Layout.{good_geometry, version_of}
use Rattle.protocol.specs.Entry.{FRESH, entry_at}
use Rattle.protocol.specs.Ring.{used_at, undoable_at, settled_block, is_settled}
use Rattle.protocol.specs.Check.{good_entry_at, entries_fit, alike, apart, apart_before, entries_apart}
use Rattle.protocol.proofs.Below.{absurd_bool, either, bool_same, same_or_other, below_or_above, and_left, and_right, and_both, and_fails, or_right, all_at, all_of, any_found, any_none}
use Rattle.protocol.proofs.Allowed.{UsedEntry, used-entry}
use Rattle.protocol.proofs.Checks.{Limits, limits}
use Rattle.protocol.proofs.Holds.{settled_undoable}
use Rattle.checks.specs.Keys.{NONE, key, number_key, current_key, settled_key, keyed, lone, distinct}

-- ---- distinct keys

pub distinct_at : (f : ℕ → ℕ) (l n i j : ℕ) → distinct f l n ≡ true → j < i → i < n → f i < l → f j ≡ f i → ⊥
unfolding distinct lone keyed
distinct_at f l n i j h ji iN b e =
    let found : any_below (keyed f (f i)) i ≡ true = any_found (keyed f (f i)) i j ji (eq-eqb (f j) (f i) e) in
    absurd_bool (all_at (lone f l) n i h iN) (rw (lt-ltb (f i) l b, found))

-- an index whose key is below the limit is the only one that has it
pub distinct_one : (f : ℕ → ℕ) (l n i j : ℕ) → distinct f l n ≡ true → i < n → j < n → f i < l → f i ≡ f j → i ≡ j
distinct_one f l n i j d a b k e =
    ⊎_elim
    (λ (s : i ≡ j). s)
    (λ (o : i ≡ j → ⊥).
    absurd
    (⊎_elim
    (λ (t : i < j). distinct_at f l n j i d t b (rw e at k) e)
    (λ (t : j ≤ i). distinct_at f l n i j d (omega arith) a k (sym e))
    (below_or_above i j)))
    (same_or_other i j)

pub distinct_of : (f : ℕ → ℕ) (l n : ℕ) → ((i j : ℕ) → j < i → i < n → f i < l → f j ≡ f i → ⊥) → distinct f l n ≡ true
unfolding distinct lone keyed
distinct_of f l n h =
    all_of (lone f l) n
    (λ i iN.
    ⊎_elim
    (λ b.
    let none : any_below (keyed f (f i)) i ≡ false =
    any_none (keyed f (f i)) i (λ j ji. ne_eqb (f j) (f i) (h i j ji iN (ltb-true (f i) l b))) in
    rw (b, none))
    (λ b. rw b)
    (either (ltb (f i) l)))

-- keys that agree below n are distinct alike
distinct_along : (f h : ℕ → ℕ) (l n : ℕ) → ((i : ℕ) → i < n → f i ≡ h i) → distinct f l n ≡ true → distinct h l n ≡ true
distinct_along f h l n q d =
    distinct_of h l n
    (λ i j ji iN b e.
    distinct_at f l n i j d ji iN (subst (λ (v : ℕ). v < l) (sym (q i iN)) b) (q j (omega arith) ∙ e ∙ sym (q i iN)))

pub distinct_same : (f h : ℕ → ℕ) (l n : ℕ) → ((i : ℕ) → i < n → f i ≡ h i) → distinct f l n ≡ distinct h l n
distinct_same f h l n q =
    bool_same (distinct f l n) (distinct h l n) (distinct_along f h l n q) (distinct_along h f l n (λ i iN. sym (q i iN)))

-- ---- keys of entries

-- a key below a limit is one of an entry in use
pub key_below : (u : Bool) (x l : ℕ) → l ≤ NONE → key u x < l → (u ≡ true) × (key u x ≡ x)
unfolding key
key_below true x l h b = (refl, refl)
key_below false x l h b = absurd (omega arith)

module _ (g : Geometry) (c : List ℕ) where
  -- the keys that p gives the entries
  abbrev keys_of : (ℕ → ℕ) → ℕ → ℕ
  keys_of p i = key (used_at g c i) (p i)

  alike_number : (i j : ℕ) → (entry_at g c i).number ≡ (entry_at g c j).number → (entry_at g c i).number < NONE → alike g c i j ≡ true
  unfolding alike
  alike_number i j e b = rw (eq-eqb (entry_at g c i).number (entry_at g c j).number e)

  alike_current : (i j : ℕ) → (entry_at g c i).current ≡ (entry_at g c j).current → (entry_at g c i).current < 128 → alike g c i j ≡ true
  unfolding alike
  alike_current i j e b =
      or_right (eqb (entry_at g c i).number (entry_at g c j).number) _ (rw (eq-eqb (entry_at g c i).current (entry_at g c j).current e))

  alike_settled : (i j : ℕ) → settled_block g c i ≡ settled_block g c j → settled_block g c i < 128 → alike g c i j ≡ true
  unfolding alike
  alike_settled i j e b =
      or_right (eqb (entry_at g c i).number (entry_at g c j).number) _
      (or_right (eqb (entry_at g c i).current (entry_at g c j).current) _
      (rw (eq-eqb (settled_block g c i) (settled_block g c j) e, ne_eqb (settled_block g c i) FRESH (omega arith))))

  -- entries apart have distinct keys, where equal ones below the limit would make them alike
  keys_distinct : (p : ℕ → ℕ) (l : ℕ) → l ≤ NONE → ((i j : ℕ) → p i ≡ p j → p i < l → alike g c i j ≡ true)
      → entries_apart g c ≡ true → distinct (keys_of p) l g.blocks ≡ true
  unfolding entries_apart apart_before apart
  keys_distinct p l hl h a =
      distinct_of (keys_of p) l g.blocks
      (λ i j ji iN b e.
      let (ui, ki) = key_below (used_at g c i) (p i) l hl b in
      let (uj, kj) = key_below (used_at g c j) (p j) l hl (subst (λ (v : ℕ). v < l) (sym e) b) in
      let same : alike g c i j ≡ true = h i j (sym ki ∙ sym e ∙ kj) (subst (λ (v : ℕ). v < l) ki b) in
      absurd_bool (all_at (apart g c i) i j (all_at (apart_before g c) g.blocks i a iN) ji) (rw (ui, uj, same)))

  -- of two entries in use with distinct keys
  keys_differ : (p : ℕ → ℕ) (l i j : ℕ) → distinct (keys_of p) l g.blocks ≡ true → used_at g c i ≡ true → used_at g c j ≡ true
      → j < i → i < g.blocks → p i < l → p i ≡ p j → ⊥
  unfolding key
  keys_differ p l i j d ui uj ji iN b e =
      let ki : keys_of p i ≡ p i = rw ui in
      let kj : keys_of p j ≡ p j = rw uj in
      distinct_at (keys_of p) l g.blocks i j d ji iN (rw ki b) (kj ∙ sym e ∙ sym ki)

  module _ (good : good_geometry g ≡ true) (fit : entries_fit g c ≡ true) where
    entry_used : (i : ℕ) → i < g.blocks → used_at g c i ≡ true → UsedEntry (version_of c) g.blocks g.disk (entry_at g c i)
    unfolding entries_fit good_entry_at used_at
    entry_used i iN u = used-entry (version_of c) g.blocks g.disk (entry_at g c i) (all_at (good_entry_at g c) g.blocks i fit iN) u

    settled_limit : (i : ℕ) → UsedEntry (version_of c) g.blocks g.disk (entry_at g c i)
        → (settled_block g c i < g.blocks) ⊎ (settled_block g c i ≡ FRESH)
    unfolding settled_block
    settled_limit i a = ⊎_elim (λ u. rw u a.previous_below) (λ u. rw u (inl a.current_below)) (either (undoable_at g c i))

    -- two entries in use whose three keys are distinct are not alike
    pair_unlike : (i j : ℕ) → distinct (number_key g c) NONE g.blocks ≡ true → distinct (current_key g c) 128 g.blocks ≡ true
        → distinct (settled_key g c) 128 g.blocks ≡ true → used_at g c i ≡ true → used_at g c j ≡ true → j < i → i < g.blocks
        → alike g c i j ≡ false
    unfolding alike number_key current_key settled_key
    pair_unlike i j dn dc ds ui uj ji iN =
        let l : Limits g = limits g good in
        let a : UsedEntry (version_of c) g.blocks g.disk (entry_at g c i) = entry_used i iN ui in
        let n : eqb (entry_at g c i).number (entry_at g c j).number ≡ false =
        ne_eqb _ _ (keys_differ (λ k. (entry_at g c k).number) NONE i j dn ui uj ji iN (omega arith)) in
        let q : eqb (entry_at g c i).current (entry_at g c j).current ≡ false =
        ne_eqb _ _ (keys_differ (λ k. (entry_at g c k).current) 128 i j dc ui uj ji iN (omega arith)) in
        rw (n, q)
        (⊎_elim
        (λ (b : settled_block g c i < g.blocks).
        let s : eqb (settled_block g c i) (settled_block g c j) ≡ false =
        ne_eqb _ _ (keys_differ (settled_block g c) 128 i j ds ui uj ji iN (omega arith)) in
        rw s)
        (λ b. and_fails (eqb (settled_block g c i) (settled_block g c j)) _ (rw (eq-eqb (settled_block g c i) FRESH b)))
        (settled_limit i a))

    apart_of_keys : distinct (number_key g c) NONE g.blocks ≡ true → distinct (current_key g c) 128 g.blocks ≡ true
        → distinct (settled_key g c) 128 g.blocks ≡ true → entries_apart g c ≡ true
    unfolding entries_apart apart_before apart
    apart_of_keys dn dc ds =
        all_of (apart_before g c) g.blocks
        (λ i iN.
        all_of (apart g c i) i
        (λ j ji.
        ⊎_elim
        (λ (ui : used_at g c i ≡ true).
        ⊎_elim
        (λ (uj : used_at g c j ≡ true). let u : alike g c i j ≡ false = pair_unlike i j dn dc ds ui uj ji iN in rw (ui, uj, u))
        (λ (uj : used_at g c j ≡ false). rw (ui, uj))
        (either (used_at g c j)))
        (λ (ui : used_at g c i ≡ false). rw ui)
        (either (used_at g c i))))

    pub apart_keys : entries_apart g c
        ≡ distinct (number_key g c) NONE g.blocks
        && (distinct (current_key g c) 128 g.blocks && distinct (settled_key g c) 128 g.blocks)
    unfolding number_key current_key settled_key
    apart_keys =
        bool_same (entries_apart g c) _
        (λ a.
        and_both
        (keys_distinct (λ k. (entry_at g c k).number) NONE (omega arith) alike_number a)
        (and_both
        (keys_distinct (λ k. (entry_at g c k).current) 128 (omega arith) alike_current a)
        (keys_distinct (settled_block g c) 128 (omega arith) alike_settled a)))
        (λ h.
        let dn = and_left (distinct (number_key g c) NONE g.blocks) _ h in
        let rest = and_right (distinct (number_key g c) NONE g.blocks) _ h in
        apart_of_keys dn (and_left (distinct (current_key g c) 128 g.blocks) _ rest) (and_right (distinct (current_key g c) 128 g.blocks) _ rest))

  -- ---- a settled card

  pub settled_keys : is_settled g c ≡ true → (i : ℕ) → i < g.blocks → current_key g c i ≡ settled_key g c i
  unfolding current_key settled_key settled_block
  settled_keys h i iN = rw (settled_undoable g c h i iN)
