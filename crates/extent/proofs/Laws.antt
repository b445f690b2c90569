-- Where four blocks lie, by where each does; and what the bytes are that lie there. Assumes nothing.
use Prim.Native.Nat.{ℕ, ◌+◌, ◌*◌, ◌-◌, ◌≤◌, ◌<◌}
use mathlib.Core.List.{List, [], ◌∷◌}
use mathlib.Core.Path.{◌≡◌, refl, sym, ap, ◌∙◌}
use native.Mathlib.Nat.{add-mul}
use native.Mathlib.Omega.{arith}
use lib.ListN.{length, replicate}
use Rattle.numbers.specs.Bytes.{part}
use Rattle.numbers.proofs.Laws.{part-part}
use Rattle.protocol.specs.declared.Geometry.{Geometry}
use Rattle.protocol.specs.Layout.{geometry_of, block_size, block_at, disk_place, disk_block}
use Rattle.protocol.specs.Ring.{contents}
use Rattle.protocol.specs.Load.{pair_refusal}
use Rattle.protocol.proofs.Region.{block_ends}
use Rattle.checks.specs.declared.Verdict.{Verdict}
use Rattle.checks.specs.Passed.{Examined}
use Rattle.lookup.specs.declared.Found.{Found}
use Rattle.lookup.specs.declared.Found.TheVariants.{Refused, Outside, Card, Disk}
use Rattle.lookup.specs.Place.{place_in, found_by, sought_at, found_in}
use Rattle.lookup.proofs.Laws.{found_outside, found_place, find_by_length}
use Rattle.lookup.proofs.Reading.{Where, in_none, in_nothing, in_cache, in_home, where_is, current_within, home_within}
use Rattle.extent.specs.Four.{Four}

-- ---- one block

module _ (g : Geometry) (c : List ℕ) (b i : ℕ) where
  pub beyond : (n : ℕ) → g.disk ≤ b → n ≡ block_size g → Outside n ≡ found_by g c (b + i) 0
  beyond n l e = found_outside g c (b + i) 0 n refl (omega arith) e

  pub past : (n : ℕ) → g.disk - b ≤ i → n ≡ block_size g → Outside n ≡ found_by g c (b + i) 0
  past n l e = found_outside g c (b + i) 0 n refl (omega arith) e

  pub within : (p : Found) → b < g.disk → i < g.disk - b → p ≡ place_in g c (b + i) → p ≡ found_by g c (b + i) 0
  within p l h e = found_place g c (b + i) 0 p refl (omega arith) e

-- ---- four of them

-- what is told of each stays, told otherwise
pub four_map : {f h : ℕ → Found} {b : ℕ} {r : List Found} → ((x : ℕ) → f x ≡ h x) → Four f b r → Four h b r
four_map {f} {h} {b} e q = record { are = q.are ∙ (λ t. e b t ∷ e (b + 1) t ∷ e (b + 2) t ∷ e (b + 3) t ∷ []) }

-- the same is told of all
pub four_all : {f : ℕ → Found} {b k : ℕ} {r : List Found} → ((x : ℕ) → Refused k ≡ f x) → r ≡ replicate 4 (Refused k) → Four f b r
four_all {f} {b} e q = record { are = q ∙ (λ t. e b t ∷ e (b + 1) t ∷ e (b + 2) t ∷ e (b + 3) t ∷ []) }

pub four_places : (f : ℕ → Found) (b : ℕ) (p₀ p₁ p₂ p₃ : Found) → p₀ ≡ f (b + 0) → p₁ ≡ f (b + 1) → p₂ ≡ f (b + 2) → p₃ ≡ f (b + 3)
    → Four f b (p₀ ∷ p₁ ∷ p₂ ∷ p₃ ∷ [])
four_places f b p₀ p₁ p₂ p₃ e₀ e₁ e₂ e₃ =
    let z : b + 0 ≡ b = omega arith in record { are = λ t. (e₀ ∙ ap f z) t ∷ e₁ t ∷ e₂ t ∷ e₃ t ∷ [] }

-- checks 4 to 7 pass
pub four_sought : (g : Geometry) (c xs : List ℕ) (b : ℕ) (v : Verdict) (r : List Found) → Examined g c xs v → v.refusal ≡ 0
    → Four (λ x. found_by g c x 0) b r → Four (sought_at g c) b r
unfolding sought_at
four_sought g c xs b v r s z q = four_map (λ x. ap (found_by g c x) (sym (sym s.refusal_is ∙ z))) q

-- ---- what lies there

-- where block b was found, of the card c over the disk d: refused by checks 1 to 7, outside the disk, or at a place that has its contents
pub data Lies (c d : List ℕ) (b : ℕ) (f : Found) : Type 0 where
  refused : f ≡ Refused (pair_refusal 2 c d) → (pair_refusal 2 c d ≡ 0 → ⊥) → Lies c d b f
  outside : f ≡ Outside (block_size (geometry_of c)) → pair_refusal 2 c d ≡ 0 → (geometry_of c).disk ≤ b → Lies c d b f
  on_card_lem : (at i : ℕ) → f ≡ Card at (block_size (geometry_of c)) i → pair_refusal 2 c d ≡ 0 → b < (geometry_of c).disk
      → at + block_size (geometry_of c) ≤ length c → part c at (block_size (geometry_of c)) ≡ contents (geometry_of c) c d b → Lies c d b f
  on_disk_lem : f ≡ Disk (disk_place (geometry_of c) b) (block_size (geometry_of c)) → pair_refusal 2 c d ≡ 0 → b < (geometry_of c).disk
      → disk_place (geometry_of c) b + block_size (geometry_of c) ≤ length d → disk_block (geometry_of c) d b ≡ contents (geometry_of c) c d b → Lies c d b f

pub lies : (c d : List ℕ) (b : ℕ) (f : Found) → f ≡ found_in c (length d) b → Lies c d b f
unfolding contents block_at
lies c d b f e = go (where_is c d b f (e ∙ find_by_length c d b))
  where
    go : Where c d b f → Lies c d b f
    go (in_none p z) = refused p z
    go (in_nothing p z l) = outside p z l
    go (in_cache p z l k) = on_card_lem _ _ p z l (current_within c d z b k) (rw k)
    go (in_home p z l k) = on_disk_lem p z l (home_within c d z b l) (rw k)

-- of four blocks of a disk side by side each is the disk's own
pub disk_four : (g : Geometry) (d : List ℕ) (b i : ℕ) → i < 4 → part (part d (disk_place g b) (4 * block_size g)) (i * block_size g) (block_size g) ≡ disk_block g d (b + i)
unfolding disk_block disk_place
disk_four g d b i l =
    part-part d (b * block_size g) (4 * block_size g) (i * block_size g) (block_size g) (block_ends i 4 (block_size g) l)
    ∙ ap (λ (z : ℕ). part d z (block_size g)) (sym (add-mul b i (block_size g)))
