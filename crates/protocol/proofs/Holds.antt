-- What the invariant gives: the card passes checks 1 to 6, and on a settled card the contents of each block, and what read and look hand out,
-- are the row's. Assumes nothing.
use Prim.Native.Nat.{ℕ, zero, suc, ◌≤◌, ◌<◌}
use mathlib.Core.List.{List}
use mathlib.Core.Bool.{Bool, true, false, cond, not, ◌&&◌, ◌||◌}
use mathlib.Core.Option.{some}
use mathlib.Core.Path.{◌≡◌, refl, sym, ap, subst, ◌∙◌}
use mathlib.Core.Logic.{⊎_elim}
use native.Mathlib.Omega.{arith}
use lib.ListN.{length}
use lib.Dec.{eqb, ltb, leb}
use borrow.Author.Tests.{eqb-true, eqb-false, eq-eqb, lt-ltb, le-ltb, le-leb, lt-leb, not-true}
use Rattle.protocol.specs.declared.Geometry.{Geometry}
use Rattle.protocol.specs.declared.Map.{Map}
use Rattle.protocol.specs.declared.Mapped.TheVariants.{Is}
use Rattle.protocol.specs.Below.{any_below, first_below}
use Rattle.numbers.specs.Bytes.{number_at}
use Rattle.protocol.specs.Layout.{between, geometry_of, version_of, good_header, card_length, block_at, disk_block, block_size}
use Rattle.protocol.specs.Entry.{FRESH, entry_at, in_use, has_log_role, is_modified}
use Rattle.protocol.specs.Ring.{head_of, tail_of, window_length, window_of, window_has, in_window, used_at, undoable_at, settled_block, role_free_at, is_settled, entry_for, find_entry, cached, current_of, contents}
use Rattle.protocol.specs.Check.{refuse, ◌or_else◌, header_fits, card_fits, disk_fits, window_number_fits, ring_fits, good_entry_at, entries_fit, alike, apart, apart_before, entries_apart, fit_refusal, disk_refusal, damage_refusal, card_refusal}
use Rattle.protocol.specs.Load.{pair_refusal, block_refusal}
use Rattle.protocol.specs.Map.{map_of, map_refusal, make_refusal, made_map}
use Rattle.protocol.specs.Recover.{recover_refusal}
use Rattle.protocol.specs.Upgrade.{upgrade_refusal}
use Rattle.protocol.specs.Read.{output_refusal, read_refusal, output_after, recent_refusal, recent_output, look_refusal, looked_at}
use Rattle.protocol.specs.Recency.{is_arranged, table_refusal}
use Rattle.protocol.proofs.Below.{either, below_or_above, and_true, absurd_bool, and_left, and_right, and_both, and_fails, or_true, all_of, all_at, First, found, missing, first_is}
use Rattle.protocol.proofs.Checks.{or_else_none, refuse_none}
use Rattle.protocol.proofs.Invariant.{Kind, idle, live, pending, kind_number, kind_current, kind_previous, kind_home, View, Safe}
use Rattle.protocol.proofs.Shape.{pending_of, kind_of, kind_at, Seen, seen_idle, seen_live, seen_pending, see, previous_some, Inv, window_empty}
use Rattle.protocol.proofs.Steps.{undoable, undoable_at_lem}

-- ---- entries and their kinds

module _ (g : Geometry) (c : List ℕ) (i : ℕ) where
  seen : Seen (version_of c) (in_window g c (entry_at g c i).number) (entry_at g c i)
  seen = see (version_of c) (in_window g c (entry_at g c i).number) (entry_at g c i)

  -- an in-use entry's kind has its number and its current block
  pub used_number : used_at g c i ≡ true → kind_number (kind_at g c i) ≡ some (entry_at g c i).number
  unfolding used_at kind_at
  used_number u = go seen
    where
      go : Seen (version_of c) (in_window g c (entry_at g c i).number) (entry_at g c i)
          → kind_number (kind_of (version_of c) (in_window g c (entry_at g c i).number) (entry_at g c i)) ≡ some (entry_at g c i).number
      go (seen_idle p q) = absurd_bool u p
      go (seen_live p q r) = ap kind_number r
      go (seen_pending p q r) = ap kind_number r

  pub used_current : used_at g c i ≡ true → kind_current (kind_at g c i) ≡ some (entry_at g c i).current
  unfolding used_at kind_at
  used_current u = go seen
    where
      go : Seen (version_of c) (in_window g c (entry_at g c i).number) (entry_at g c i)
          → kind_current (kind_of (version_of c) (in_window g c (entry_at g c i).number) (entry_at g c i)) ≡ some (entry_at g c i).current
      go (seen_idle p q) = absurd_bool u p
      go (seen_live p q r) = ap kind_current r
      go (seen_pending p q r) = ap kind_current r

  -- a kind with a number is that of an in-use entry
  pub number_used : {b : ℕ} → kind_number (kind_at g c i) ≡ some b → (used_at g c i ≡ true) × ((entry_at g c i).number ≡ b)
  unfolding used_at kind_at
  number_used {b} e = go seen
    where
      go : Seen (version_of c) (in_window g c (entry_at g c i).number) (entry_at g c i) → (in_use (entry_at g c i) ≡ true) × ((entry_at g c i).number ≡ b)
      go (seen_idle p q) = let z : ◌≡◌ {A = ℕ} 0 1 = cc in absurd (omega arith)
      go (seen_live p q r) = (p, cc)
      go (seen_pending p q r) = (p, cc)

  -- the kind of an entry that is unused, in use and not undoable, or undoable
  pub idle_kind : used_at g c i ≡ false → kind_at g c i ≡ idle
  unfolding used_at kind_at
  idle_kind u = go seen
    where
      go : Seen (version_of c) (in_window g c (entry_at g c i).number) (entry_at g c i) → kind_of (version_of c) (in_window g c (entry_at g c i).number) (entry_at g c i) ≡ idle
      go (seen_idle p q) = q
      go (seen_live p q r) = absurd_bool p u
      go (seen_pending p q r) = absurd_bool p u

  pub live_kind : used_at g c i ≡ true → undoable_at g c i ≡ false
      → kind_at g c i ≡ live (is_modified (entry_at g c i)) (entry_at g c i).number (entry_at g c i).current
  unfolding used_at kind_at undoable
  live_kind u n = go seen
    where
      go : Seen (version_of c) (in_window g c (entry_at g c i).number) (entry_at g c i)
          → kind_of (version_of c) (in_window g c (entry_at g c i).number) (entry_at g c i) ≡ live (is_modified (entry_at g c i)) (entry_at g c i).number (entry_at g c i).current
      go (seen_idle p q) = absurd_bool u p
      go (seen_live p q r) = r
      go (seen_pending p q r) = absurd_bool (undoable_at_lem g c i ∙ and_both p q) n

  pub pending_kind : undoable_at g c i ≡ true → kind_at g c i ≡ pending_of (version_of c) (entry_at g c i)
  unfolding kind_at undoable
  pending_kind n = go seen
    where
      n_at : in_use (entry_at g c i) && (has_log_role (entry_at g c i) || in_window g c (entry_at g c i).number) ≡ true
      n_at = sym (undoable_at_lem g c i) ∙ n

      go : Seen (version_of c) (in_window g c (entry_at g c i).number) (entry_at g c i)
          → kind_of (version_of c) (in_window g c (entry_at g c i).number) (entry_at g c i)
          ≡ pending_of (version_of c) (entry_at g c i)
      go (seen_idle p q) = absurd_bool (and_left (in_use (entry_at g c i)) _ n_at) p
      go (seen_live p q r) = absurd_bool (and_right (in_use (entry_at g c i)) _ n_at) q
      go (seen_pending p q r) = r

  -- the settled block is the kind's home
  pub used_home : used_at g c i ≡ true → (settled_block g c i ≡ FRESH → ⊥) → kind_home (kind_at g c i) ≡ some (settled_block g c i)
  unfolding used_at kind_at settled_block undoable
  used_home u h = go seen h
    where
      u_at : undoable_at g c i ≡ has_log_role (entry_at g c i) || in_window g c (entry_at g c i).number
      u_at = undoable_at_lem g c i ∙ rw u

      go : Seen (version_of c) (in_window g c (entry_at g c i).number) (entry_at g c i)
          → (cond (undoable_at g c i) (entry_at g c i).previous (entry_at g c i).current ≡ FRESH → ⊥)
          → kind_home (kind_of (version_of c) (in_window g c (entry_at g c i).number) (entry_at g c i))
          ≡ some (cond (undoable_at g c i) (entry_at g c i).previous (entry_at g c i).current)
      go (seen_idle p q) k = absurd_bool u p
      go (seen_live p q r) k = ap kind_home r ∙ sym (ap (λ (b : Bool). some (cond b (entry_at g c i).previous (entry_at g c i).current)) (u_at ∙ q))
      go (seen_pending p q r) k =
          let w : undoable_at g c i ≡ true = u_at ∙ q in
          ap kind_home r ∙ previous_some (entry_at g c i).previous (subst (λ (b : Bool). cond b (entry_at g c i).previous (entry_at g c i).current ≡ FRESH → ⊥) w k)
          ∙ sym (ap (λ (b : Bool). some (cond b (entry_at g c i).previous (entry_at g c i).current)) w)

-- an empty window has no number
pub empty_window : (g : Geometry) (c : List ℕ) → head_of c ≡ tail_of c → (b : ℕ) → in_window g c b ≡ false
unfolding in_window window_of any_below
empty_window g c e b =
    ap (any_below (window_has g c b)) (ap (window_length g.slots (tail_of c)) e ∙ window_empty g.slots (tail_of c))

-- a settled card has no undoable entry
pub settled_undoable : (g : Geometry) (c : List ℕ) → is_settled g c ≡ true → (i : ℕ) → i < g.blocks → undoable_at g c i ≡ false
unfolding is_settled role_free_at undoable
settled_undoable g c s i l =
    let e : head_of c ≡ tail_of c = eqb-true _ _ (and_left (eqb (head_of c) (tail_of c)) _ s) in
    undoable_at_lem g c i ∙ and_fails (in_use (entry_at g c i)) _ (quiet (role_free i l) (none_seen e))
  where
    role_free : (i : ℕ) → i < g.blocks → has_log_role (entry_at g c i) ≡ false
    role_free i l =
        not-true _ (all_at _ g.blocks i (and_right (eqb (head_of c) (tail_of c)) _ s) l)

    none_seen : head_of c ≡ tail_of c → in_window g c (entry_at g c i).number ≡ false
    none_seen e = empty_window g c e (entry_at g c i).number

    quiet : {a b : Bool} → a ≡ false → b ≡ false → a || b ≡ false
    quiet {a} {b} p q = rw (p, q)

-- the entry for b is in use and has the number b
module _ (g : Geometry) (c : List ℕ) (b i : ℕ) where
  pub for_used : entry_for g c b i ≡ true → used_at g c i ≡ true
  unfolding entry_for
  for_used e = and_left (used_at g c i) (eqb (entry_at g c i).number b) e

  pub for_number : entry_for g c b i ≡ true → (entry_at g c i).number ≡ b
  unfolding entry_for
  for_number e = eqb-true _ _ (and_right (used_at g c i) (eqb (entry_at g c i).number b) e)

  pub for_is : used_at g c i ≡ true → (entry_at g c i).number ≡ b → entry_for g c b i ≡ true
  unfolding entry_for
  for_is u e = and_both u (eq-eqb _ _ e)

-- two entries with the same settled block are the same
homes_differ : {n d : ℕ} {row : ℕ → List ℕ} {v : View} → Safe n d row v → (i j x : ℕ) → i < n → j < n
    → kind_home (v.kind i) ≡ some x → kind_home (v.kind j) ≡ some x → i ≡ j
homes_differ {n} {d} {row} {v} s i j x l m e f = go (v.kind i) (v.kind j) refl refl e f
  where
    go : (a b : Kind) → v.kind i ≡ a → v.kind j ≡ b → kind_home a ≡ some x → kind_home b ≡ some x → i ≡ j
    go idle b p q h k = let z : ◌≡◌ {A = ℕ} 0 1 = cc in absurd (omega arith)
    go (live ma ba qa) idle p q h k = let z : ◌≡◌ {A = ℕ} 0 1 = cc in absurd (omega arith)
    go (live ma ba qa) (live mb bb qb) p q h k = s.currents i j x l m (ap kind_current p ∙ h) (ap kind_current q ∙ k)
    go (live ma ba qa) (pending mb wb bb pb qb) p q h k = sym (s.crossed j i x m l (ap kind_previous q ∙ k) (ap kind_current p ∙ h))
    go (pending ma wa ba pa qa) idle p q h k = let z : ◌≡◌ {A = ℕ} 0 1 = cc in absurd (omega arith)
    go (pending ma wa ba pa qa) (live mb bb qb) p q h k = s.crossed i j x l m (ap kind_previous p ∙ h) (ap kind_current q ∙ k)
    go (pending ma wa ba pa qa) (pending mb wb bb pb qb) p q h k = s.previouses i j x l m (ap kind_previous p ∙ h) (ap kind_previous q ∙ k)

-- ---- checks 1 to 6

pub pass : (r : ℕ) {b : Bool} → b ≡ true → refuse r b ≡ 0
unfolding refuse
pass r {b} e = rw e

pub none_first : {r : ℕ} (s : ℕ) → r ≡ 0 → r or_else s ≡ s
unfolding ◌or_else◌
none_first {r} s e = ap (λ (x : ℕ). x or_else s) e

pub or_else_assoc : (a b r : ℕ) → (a or_else b) or_else r ≡ a or_else (b or_else r)
unfolding ◌or_else◌
or_else_assoc zero b r = refl
or_else_assoc (suc a) b r = refl

last_none : (r : ℕ) → r or_else 0 ≡ r
unfolding ◌or_else◌
last_none zero = refl
last_none (suc r) = refl

-- a header that is good with the versions from low to high is so with others where its version is one of them
module _ (c : List ℕ) (low high : ℕ) where
  pub header_version : good_header low high c ≡ true → between low high (version_of c) ≡ true
  unfolding good_header
  header_version h = and_left (between low high (version_of c)) _ (and_right (eqb (number_at c 0 4) 64) _ h)

  pub header_by : (low' high' : ℕ) → good_header low high c ≡ true → good_header low' high' c ≡ between low' high' (version_of c)
  unfolding good_header
  header_by low' high' h =
      let r = and_right (eqb (number_at c 0 4) 64) _ h in
      (λ t. and_left (eqb (number_at c 0 4) 64) _ h t && (between low' high' (version_of c) && and_right (between low high (version_of c)) _ r t))
      ∙ and_true (between low' high' (version_of c))

-- what check 1 has passed
pub fit_header : (c : List ℕ) (low high : ℕ) → fit_refusal low high c ≡ 0 → good_header low high c ≡ true
unfolding fit_refusal header_fits
fit_header c low high e =
    let one = (or_else_none (refuse 1 (header_fits low high c)) _ e).0 in
    and_right (not (ltb (length c) 128)) _ (refuse_none 1 (header_fits low high c) (omega arith) one)

pub between_one : (w x : ℕ) → between w w x ≡ eqb x w
unfolding between
between_one w x = go (eqb x w) refl
  where
    go : (b : Bool) → eqb x w ≡ b → leb w x && leb x w ≡ b
    go true e = let h : x ≡ w = eqb-true x w e in and_both (le-leb w x (omega arith)) (le-leb x w (omega arith))
    go false e =
        let h : x ≡ w → ⊥ = eqb-false x w e in
        ⊎_elim
        (λ (l : x < w). ap (λ (b : Bool). b && leb x w) (lt-leb w x l))
        (λ (l : w ≤ x). and_fails (leb w x) _ (lt-leb x w (omega arith)))
        (below_or_above x w)

module _ {g : Geometry} {row : ℕ → List ℕ} {c d : List ℕ} (v : Inv g row c d) where
  pub geometry_is : geometry_of c ≡ g
  geometry_is = v.shape.headed.1

  pub version_known : between 1 2 (version_of c) ≡ true
  version_known = header_version c 1 2 v.shape.headed.0

  -- only the version is left to refuse
  pub fits_one : (low high : ℕ) → header_fits low high c ≡ between low high (version_of c)
  unfolding header_fits card_length
  fits_one low high =
      let big : 128 ≤ length c = omega (arith, v.shape.card_sized) in
      ap (λ (b : Bool). not b && good_header low high c) (le-ltb (length c) 128 big) ∙ header_by c 1 2 low high v.shape.headed.0

  pub fit_refuses : (low high : ℕ) → fit_refusal low high c ≡ refuse 1 (between low high (version_of c))
  unfolding fit_refusal card_fits
  fit_refuses low high =
      (λ t. refuse 1 (fits_one low high t)
      or_else pass 2 (ap (λ (z : Geometry). eqb (length c) (card_length z)) geometry_is ∙ eq-eqb _ _ v.shape.card_sized) t)
      ∙ last_none (refuse 1 (between low high (version_of c)))

  -- a library of one version takes the cards of its own
  pub fit_own : (w : ℕ) → fit_refusal w w c ≡ refuse 1 (eqb (version_of c) w)
  fit_own w = fit_refuses w w ∙ ap (refuse 1) (between_one w (version_of c))

  pub fit_passes : (low high : ℕ) → between low high (version_of c) ≡ true → fit_refusal low high c ≡ 0
  fit_passes low high h = fit_refuses low high ∙ pass 1 h

  pub disk_passes : disk_refusal g d ≡ 0
  unfolding disk_refusal disk_fits
  disk_passes = pass 3 (eq-eqb _ _ v.shape.disk_sized)

  ring_passes : ring_fits g c ≡ true
  unfolding ring_fits window_number_fits
  ring_passes =
      and_both (lt-ltb _ _ v.shape.head_below)
      (and_both (lt-ltb _ _ v.shape.tail_below) (all_of _ (window_of g c) (λ j l. lt-ltb _ _ (v.shape.window j l))))

  entries_pass : entries_fit g c ≡ true
  unfolding entries_fit good_entry_at
  entries_pass = all_of _ g.blocks v.shape.entries

  -- two in-use entries that are alike are one
  alike_same : (i j : ℕ) → i < g.blocks → j < g.blocks → used_at g c i ≡ true → used_at g c j ≡ true → alike g c i j ≡ true → i ≡ j
  unfolding alike
  alike_same i j l m ui uj h =
      ⊎_elim
      (λ e. v.safe.numbers i j (entry_at g c i).number l m (used_number g c i ui) (used_number g c j uj ∙ ap some (sym (eqb-true _ _ e))))
      (λ k.
      ⊎_elim
      (λ e. v.safe.currents i j (entry_at g c i).current l m (used_current g c i ui) (used_current g c j uj ∙ ap some (sym (eqb-true _ _ e))))
      (λ t. homes
      (eqb-true _ _ (and_left (eqb (settled_block g c i) (settled_block g c j)) _ t))
      (and_right (eqb (settled_block g c i) (settled_block g c j)) _ t))
      (or_true _ _ k))
      (or_true _ _ h)
    where
      homes : settled_block g c i ≡ settled_block g c j → not (eqb (settled_block g c i) FRESH) ≡ true → i ≡ j
      homes e f =
          let old : settled_block g c i ≡ FRESH → ⊥ = λ q. absurd_bool f (ap not (eq-eqb _ _ q)) in
          homes_differ v.safe i j (settled_block g c i) l m (used_home g c i ui old)
          (used_home g c j uj (λ q. old (e ∙ q)) ∙ ap some (sym e))

  apart_passes : entries_apart g c ≡ true
  unfolding entries_apart apart_before apart
  apart_passes = all_of _ g.blocks (λ i l. all_of _ i (λ j m. two i j l m))
    where
      two : (i j : ℕ) → i < g.blocks → j < i → not (used_at g c i && (used_at g c j && alike g c i j)) ≡ true
      two i j l m =
          ⊎_elim
          (λ h.
          let rest = and_right (used_at g c i) (used_at g c j && alike g c i j) h in
          let e : i ≡ j =
          alike_same i j l (omega arith) (and_left (used_at g c i) _ h) (and_left (used_at g c j) _ rest) (and_right (used_at g c j) _ rest) in
          absurd (omega arith))
          (λ h. ap not h)
          (either (used_at g c i && (used_at g c j && alike g c i j)))

  pub damage_passes : damage_refusal g c ≡ 0
  unfolding damage_refusal
  damage_passes = none_first _ (pass 4 ring_passes) ∙ none_first _ (pass 5 entries_pass) ∙ pass 6 apart_passes

  -- a library that takes the card's version
  module _ (w : ℕ) (taken : between 1 w (version_of c) ≡ true) where
    make_passes : make_refusal w c ≡ 0
    unfolding make_refusal
    make_passes = none_first _ (fit_passes 1 w taken) ∙ ap (λ (z : Geometry). damage_refusal z c) geometry_is ∙ damage_passes

    pub recover_asks : (s : Map) → recover_refusal w c s ≡ map_refusal c s
    unfolding recover_refusal
    recover_asks s = none_first _ make_passes

  pub recover_refuses : (s : Map) → recover_refusal 2 c s ≡ map_refusal c s
  recover_refuses = recover_asks 2 version_known

  pub map_made : made_map c ≡ Is (map_of c)
  unfolding made_map
  map_made = rw (eq-eqb _ _ (make_passes 2 version_known))

  pub card_refuses : card_refusal g c ≡ refuse 7 (is_settled g c)
  unfolding card_refusal
  card_refuses = none_first _ damage_passes

  pub pair_refuses : (w : ℕ) → pair_refusal w c d ≡ refuse 1 (eqb (version_of c) w) or_else refuse 7 (is_settled g c)
  unfolding pair_refusal
  pair_refuses w =
      (λ t. fit_own w t or_else (disk_refusal (geometry_is t) d or_else card_refusal (geometry_is t) c))
      ∙ ap (λ (r : ℕ). refuse 1 (eqb (version_of c) w) or_else r) (none_first _ disk_passes ∙ card_refuses)

  pub upgrade_refuses : upgrade_refusal c ≡ refuse 1 (eqb (version_of c) 1) or_else refuse 7 (is_settled g c)
  unfolding upgrade_refusal
  upgrade_refuses = (λ t. fit_own 1 t or_else card_refusal (geometry_is t) c) ∙ ap (λ (r : ℕ). refuse 1 (eqb (version_of c) 1) or_else r) card_refuses

  -- ---- what is read

  pub no_undoable : is_settled g c ≡ true → (i : ℕ) → i < g.blocks → undoable_at g c i ≡ false
  no_undoable = settled_undoable g c

  pub contents_hold : is_settled g c ≡ true → (b : ℕ) → b < g.disk → contents g c d b ≡ row b
  unfolding contents cached current_of find_entry
  contents_hold s b l = go (first_below (entry_for g c b) g.blocks) (first_is (entry_for g c b) g.blocks)
    where
      go : (f : ℕ) → First (entry_for g c b) g.blocks f
          → cond (ltb f g.blocks) (block_at g c (entry_at g c f).current) (disk_block g d b) ≡ row b
      go f (found m e n) =
          let u : used_at g c f ≡ true = for_used g c b f e in
          let k : (entry_at g c f).number ≡ b = for_number g c b f e in
          rw (lt-ltb f g.blocks m)
          (v.safe.held f b (entry_at g c f).current m (used_number g c f u ∙ ap some k) (ap kind_home (live_kind g c f u (no_undoable s f m))))
      go f (missing e n) =
          rw (le-ltb f g.blocks (omega arith))
          (v.safe.bare b l (λ i m e. let (u, k) = number_used g c i e in absurd_bool (for_is g c b i u k) (n i m)))

  -- "refused only as their own checks say"
  pub look_refuses_lem : (b : ℕ) → look_refusal c d b
      ≡ refuse 1 (eqb (version_of c) 2) or_else refuse 7 (is_settled g c) or_else refuse 10 (ltb b g.disk)
  unfolding look_refusal block_refusal
  look_refuses_lem b =
      ap (λ (z : Geometry). pair_refusal 2 c d or_else refuse 10 (ltb b z.disk)) geometry_is
      ∙ ap (λ (r : ℕ). r or_else refuse 10 (ltb b g.disk)) (pair_refuses 2)
      ∙ or_else_assoc (refuse 1 (eqb (version_of c) 2)) _ _

  pub read_refuses_lem : (out : List ℕ) (b : ℕ) → read_refusal c d out b
      ≡ refuse 1 (eqb (version_of c) 2) or_else refuse 7 (is_settled g c) or_else refuse 9 (eqb (length out) (block_size g)) or_else refuse 10 (ltb b g.disk)
  unfolding read_refusal output_refusal block_refusal
  read_refuses_lem out b =
      ap (λ (z : Geometry). pair_refusal 2 c d or_else refuse 9 (eqb (length out) (block_size z)) or_else refuse 10 (ltb b z.disk)) geometry_is
      ∙ ap (λ (r : ℕ). r or_else refuse 9 (eqb (length out) (block_size g)) or_else refuse 10 (ltb b g.disk)) (pair_refuses 2)
      ∙ or_else_assoc (refuse 1 (eqb (version_of c) 2)) _ _

  pub recent_refuses_lem : (t out : List ℕ) (b : ℕ) → recent_refusal c d t out b
      ≡ refuse 1 (eqb (version_of c) 2)
      or_else refuse 7 (is_settled g c)
      or_else refuse 16 (is_arranged t)
      or_else refuse 9 (eqb (length out) (block_size g)) or_else refuse 10 (ltb b g.disk)
  unfolding recent_refusal table_refusal output_refusal block_refusal
  recent_refuses_lem t out b =
      ap (λ (z : Geometry). pair_refusal 2 c d or_else refuse 16 (is_arranged t) or_else refuse 9 (eqb (length out) (block_size z)) or_else refuse 10 (ltb b z.disk)) geometry_is
      ∙ ap (λ (r : ℕ). r or_else refuse 16 (is_arranged t) or_else refuse 9 (eqb (length out) (block_size g)) or_else refuse 10 (ltb b g.disk)) (pair_refuses 2)
      ∙ or_else_assoc (refuse 1 (eqb (version_of c) 2)) _ _

  pub look_holds : version_of c ≡ 2 → is_settled g c ≡ true → (b : ℕ) → b < g.disk → looked_at c d b ≡ row b
  unfolding looked_at
  look_holds w s b l =
      let r : look_refusal c d b ≡ 0 = look_refuses_lem b ∙ none_first _ (pass 1 (eq-eqb _ _ w)) ∙ none_first _ (pass 7 s) ∙ pass 10 (lt-ltb _ _ l) in
      rw (eq-eqb _ _ r) (ap (λ (z : Geometry). contents z c d b) geometry_is ∙ contents_hold s b l)

  pub read_holds : version_of c ≡ 2 → is_settled g c ≡ true → (out : List ℕ) (b : ℕ) → length out ≡ block_size g → b < g.disk → output_after c d out b ≡ row b
  unfolding output_after
  read_holds w s out b e l =
      let r : read_refusal c d out b ≡ 0 =
      read_refuses_lem out b ∙ none_first _ (pass 1 (eq-eqb _ _ w)) ∙ none_first _ (pass 7 s) ∙ none_first _ (pass 9 (eq-eqb _ _ e)) ∙ pass 10 (lt-ltb _ _ l) in
      rw (eq-eqb _ _ r) (ap (λ (z : Geometry). contents z c d b) geometry_is ∙ contents_hold s b l)

  pub recent_holds : version_of c ≡ 2 → is_settled g c ≡ true → (t out : List ℕ) (b : ℕ) → is_arranged t ≡ true → length out ≡ block_size g → b < g.disk
      → recent_output c d t out b ≡ row b
  unfolding recent_output
  recent_holds w s t out b a e l =
      let r : recent_refusal c d t out b ≡ 0 =
      recent_refuses_lem t out b ∙ none_first _ (pass 1 (eq-eqb _ _ w)) ∙ none_first _ (pass 7 s) ∙ none_first _ (pass 16 a) ∙ none_first _ (pass 9 (eq-eqb _ _ e)) ∙ pass 10 (lt-ltb _ _ l) in
      rw (eq-eqb _ _ r) (ap (λ (z : Geometry). contents z c d b) geometry_is ∙ contents_hold s b l)
