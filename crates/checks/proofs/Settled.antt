-- Undoable entries and the keys of settled blocks; and what a settled card's map and window are. Assumes nothing.
use Rattle.std.proofs.Common.{◌≡◌, ℕ, Bool, true, false, cond, not, ◌&&◌, ◌||◌, List, sym, ap, ◌∙◌, ⊎_elim, arith, le-leb}
use borrow.Author.Tests.{not-true, not-false}
use Rattle.protocol.specs.declared.Geometry.{Geometry}
use Rattle.protocol.specs.declared.Entry.{Entry}
use Rattle.protocol.specs.Below.{all_below}
use Rattle.protocol.specs.Entry.{entry_at, in_use, has_log_role}
use Rattle.protocol.specs.Ring.{head_of, tail_of, window_length, window_of, in_window, used_at, undoable_at, settled_block, is_settled}
use Rattle.protocol.specs.Map.{map_by, is_marked, current_marked}
use Rattle.protocol.specs.Pending.{role_in_window, is_matched}
use Rattle.protocol.proofs.Below.{either, and_fails, or_left, all_of}
use Rattle.protocol.proofs.Loaded.{settled_ring, settled_role}
use Rattle.protocol.proofs.Maps.{settled_marked}
use Rattle.protocol.proofs.Words.{map_cong}
use Rattle.checks.specs.Keys.{NONE, key, settled_key, entry_key, undoable_entry}
use Rattle.checks.specs.Marks.{marked_at}

-- ---- undoable entries

module _ (g : Geometry) (c : List ℕ) (e : Entry) (u : Bool) (used : u ≡ in_use e) where
  pub undoable_unused : not u ≡ true → false ≡ undoable_entry g c e
  unfolding undoable_entry
  undoable_unused h = let off : in_use e ≡ false = sym used ∙ not-true u h in rw off

  pub undoable_role : (r : Bool) → not u ≡ false → r ≡ has_log_role e → r ≡ true → true ≡ undoable_entry g c e
  unfolding undoable_entry
  undoable_role r h q t =
      let on : in_use e ≡ true = sym used ∙ not-false u h in
      let role : has_log_role e ≡ true = sym q ∙ t in
      rw (on, role)

  pub undoable_window : (r w : Bool) → not u ≡ false → r ≡ has_log_role e → r ≡ false → w ≡ in_window g c e.number → w ≡ undoable_entry g c e
  unfolding undoable_entry
  undoable_window r w h q t p =
      let on : in_use e ≡ true = sym used ∙ not-false u h in
      let role : has_log_role e ≡ false = sym q ∙ t in
      rw (on, role) p

-- ---- an entry's settled block and R, by its mark

module _ (e : Entry) (m u r : Bool) (used : u ≡ in_use e) where
  pub key-unused : not u ≡ true → NONE ≡ entry_key e m
  unfolding entry_key key
  key-unused h = let off : in_use e ≡ false = sym used ∙ not-true u h in rw off

  module _ (role : r ≡ has_log_role e) (on : not u ≡ false) where
    key-used : entry_key e m ≡ cond (r || m) e.previous e.current
    unfolding entry_key key
    key-used = let t : in_use e ≡ true = sym used ∙ not-false u on in rw (t, sym role)

    pub key_previous : r || m ≡ true → e.previous ≡ entry_key e m
    key_previous h = sym (key-used ∙ rw h)

    pub key_current : r || m ≡ false → e.current ≡ entry_key e m
    key_current h = sym (key-used ∙ rw h)

-- of an entry in use the mark says whether its number stands in the window
module _ (g : Geometry) (c : List ℕ) (i : ℕ) (m : Bool) (q : m ≡ marked_at g c (window_of g c) i) where
  pub marked_key : entry_key (entry_at g c i) m ≡ settled_key g c i
  unfolding entry_key settled_key settled_block undoable_at used_at marked_at in_window key
  marked_key =
      ⊎_elim
      (λ (u : in_use (entry_at g c i) ≡ true). rw (q, u))
      (λ (u : in_use (entry_at g c i) ≡ false). rw u)
      (either (in_use (entry_at g c i)))

  pub marked_role : not (in_use (entry_at g c i) && has_log_role (entry_at g c i)) || m ≡ role_in_window g c i
  unfolding role_in_window used_at marked_at in_window
  marked_role =
      ⊎_elim
      (λ (u : in_use (entry_at g c i) ≡ true). rw (q, u))
      (λ (u : in_use (entry_at g c i) ≡ false). rw u)
      (either (in_use (entry_at g c i)))

-- ---- a settled card

pub settled_matched : (g : Geometry) (c : List ℕ) → is_settled g c ≡ true → true ≡ is_matched g c
unfolding is_matched window_of window_length all_below role_in_window
settled_matched g c s =
    let same : head_of c ≡ tail_of c = settled_ring g c s in
    let none : window_of g c ≡ 0 = rw (le-leb (tail_of c) (head_of c) (omega arith)) (omega arith) in
    let roles : all_below (role_in_window g c) g.blocks ≡ true =
    all_of _ _
    (λ i l.
    or_left (not (used_at g c i && has_log_role (entry_at g c i))) _ (ap not (and_fails (used_at g c i) _ (settled_role g c s i l)))) in
    sym (rw (none, roles))

pub settled_map : (g : Geometry) (c : List ℕ) → is_settled g c ≡ true → map_by (current_marked g c) ≡ map_by (is_marked g c)
settled_map g c s = map_cong _ _ (λ d l. sym (settled_marked g c s d))
