-- Laws of the checks' definitions: refusals in order, and the limits of a good geometry and of an allowed entry as orders of numbers.
-- Assumes nothing.
use Prim.Native.Nat.{ℕ, zero, suc, ◌*◌, ◌^◌, ◌≤◌, ◌<◌}
use mathlib.Core.Bool.{Bool, true, false, ◌&&◌}
use mathlib.Core.Logic.{◌⊎◌, inl, ⊎_elim}
use mathlib.Core.Path.{◌≡◌, refl, sym, subst}
use native.Mathlib.Nat.{mul-le-mul}
use native.Mathlib.Omega.{arith}
use lib.Dec.{leb}
use lib.Pow.{pow_mono}
use borrow.Author.Tests.{leb-true}
use Rattle.protocol.specs.declared.Geometry.{Geometry}
use Rattle.protocol.specs.declared.Entry.{Entry}
use Rattle.protocol.specs.Layout.{between, good_k, good_slots, good_blocks, good_disk, good_geometry, block_size}
use Rattle.protocol.specs.Entry.{FRESH, unused, good_entry}
use Rattle.protocol.specs.Check.{refuse, ◌or_else◌}
use Rattle.protocol.proofs.Allowed.{UsedEntry, good_cases}
use Rattle.protocol.proofs.Below.{and_left, and_right}

-- ---- refusals in order: r is the answer of what stands right of it

pub refuse_passed : (n : ℕ) (ok : Bool) → ok ≡ true → 0 ≡ refuse n ok
unfolding refuse
refuse_passed n ok e = rw e

pub refuse_failed : (n : ℕ) (ok : Bool) → ok ≡ false → n ≡ refuse n ok
unfolding refuse
refuse_failed n ok e = rw e

-- the first one refuses
pub or_else_first : (r a b : ℕ) → r ≡ a → (r ≡ 0 → ⊥) → r ≡ a or_else b
unfolding ◌or_else◌
or_else_first r zero b e h = absurd (h e)
or_else_first r (suc a) b e h = e

-- the first one passes
pub or_else_next : (r a b : ℕ) → 0 ≡ a → r ≡ b → r ≡ a or_else b
unfolding ◌or_else◌
or_else_next r zero b z e = e
or_else_next r (suc a) b z e = absurd (omega arith)

-- neither refuses
pub or_else_none : (a b : ℕ) → a or_else b ≡ 0 → (a ≡ 0) × (b ≡ 0)
unfolding ◌or_else◌
or_else_none zero b e = (refl, e)
or_else_none (suc a) b e = absurd (omega arith)

pub refuse_none : (n : ℕ) (ok : Bool) → 0 < n → refuse n ok ≡ 0 → ok ≡ true
unfolding refuse
refuse_none n true l e = refl
refuse_none n false l e = absurd (omega arith)

-- ---- the geometry

between_orders : (low high x : ℕ) → between low high x ≡ true → (low ≤ x) × (x ≤ high)
unfolding between
between_orders low high x h =
    (leb-true low x (and_left (leb low x) (leb x high) h), leb-true x high (and_right (leb low x) (leb x high) h))

-- what a good geometry bounds
pub record Limits (g : Geometry) : Type 0 where
  pub k : (9 ≤ g.k) × (g.k ≤ 12)
  pub slots : (8 ≤ g.slots) × (g.slots ≤ 256)
  pub blocks : (4 ≤ g.blocks) × (g.blocks ≤ 128)
  pub disk : (1 ≤ g.disk) × (g.disk ≤ 65536)
  pub size : (512 ≤ block_size g) × (block_size g ≤ 4096)
  pub card_data : g.blocks * block_size g ≤ 524288
  pub disk_data : g.disk * block_size g ≤ 268435456

pub limits : (g : Geometry) → good_geometry g ≡ true → Limits g
unfolding good_geometry good_k good_slots good_blocks good_disk block_size
limits g h =
    let later = and_right (good_k g.k) (good_slots g.slots && (good_blocks g.blocks && good_disk g.disk)) h in
    let last = and_right (good_slots g.slots) (good_blocks g.blocks && good_disk g.disk) later in
    let k : (9 ≤ g.k) × (g.k ≤ 12) = between_orders 9 12 g.k (and_left _ _ h) in
    let n : (4 ≤ g.blocks) × (g.blocks ≤ 128) = between_orders 4 128 g.blocks (and_left _ _ (and_left _ _ last)) in
    let d : (1 ≤ g.disk) × (g.disk ≤ 65536) = between_orders 1 65536 g.disk (and_right (good_blocks g.blocks) (good_disk g.disk) last) in
    let b : 2 ^ g.k ≤ 4096 = pow_mono k.1 in
    record {
      k = k;
      slots = between_orders 8 256 g.slots (and_left _ _ (and_left _ _ later));
      blocks = n;
      disk = d;
      size = (pow_mono k.0, b);
      card_data = mul-le-mul n.1 b;
      disk_data = mul-le-mul d.1 b;
    }

-- ---- an entry that check 5 allows

-- its fields' limits; an unused entry's are zero
pub record Allowed (n d : ℕ) (e : Entry) : Type 0 where
  pub number : e.number < d
  pub current : e.current < n
  pub previous : (e.previous < n) ⊎ (e.previous ≡ FRESH)

pub allowed : (v n d : ℕ) (e : Entry) → 0 < n → 0 < d → good_entry v n d e ≡ true → Allowed n d e
allowed v n d e hn hd h =
    ⊎_elim
    (λ (q : e ≡ unused). subst (Allowed n d) (sym q) (record { number = hd; current = hn; previous = inl hn }))
    (λ (u : UsedEntry v n d e). record { number = u.number_below; current = u.current_below; previous = u.previous_below })
    (good_cases v n d e h)
