-- What stores that may fail at any one have come to. Whether a write to a file fails is not ours to say; what holds either way stands here.
use Rattle.std.specs.Prelude.{ℕ, ◌≤◌, ◌<◌, min, List, [], true, false, cond, ◌≡◌, length, eqb}
use Rattle.protocol.specs.Store.{card, Run, Work, made_on, flat, made, stores_of, after_on}
use Rattle.protocol.specs.Map.{map_of, make_refusal}
use Rattle.protocol.specs.Recover.{recover_work}
use Rattle.protocol.specs.Upgrade.{upgrade_refusal, upgrade_work}
use Rattle.image.specs.declared.Walk.{Walk}
use Rattle.image.specs.declared.Repair.{Repair}

-- of the runs rs, each a single store, the first stores are made, d after them and c before: all that the allowance a lets happen, or where a
-- write failed fewer
pub record Walked (rs : List Run) (a : ℕ) (c d : List ℕ) (r : Walk) : Type 0 where
  pub counted : r.count ≡ length (flat rs)
  pub made_is : d ≡ made_on card (made r.made [] rs) c
  pub within : r.made ≤ a
  pub listed : r.made ≤ r.count
  pub whole : r.failed ≡ false → r.made ≡ min a r.count
  pub short : r.failed ≡ true → r.made < min a r.count

-- a call with the work w on a file's card: refused with r₀, or its list's first stores are made, as many as are said; these are all that the allowance
-- lets happen, or where a failure is said fewer
pub record Changed (r₀ : ℕ) (w : Work) (a : ℕ) (c d : List ℕ) (r : Repair) : Type 0 where
  pub refusal_is : r.refusal ≡ r₀
  pub count_is : r.count ≡ cond (eqb r₀ 0) (stores_of w) 0
  pub after_is : d ≡ after_on card r.made w c
  pub within : r.made ≤ a
  pub listed : r.made ≤ r.count
  pub whole : r.failed ≡ false → r.made ≡ min a r.count
  pub short : r.failed ≡ true → r.made < min a r.count

-- recovery of a file's card, with the map that it gives
abbrev pub Repaired : ℕ → List ℕ → List ℕ → Repair → Type 0
Repaired a c d r = Changed (make_refusal 2 c) (recover_work 2 c (map_of c)) a c d r

-- its upgrade
abbrev pub Upgraded : ℕ → List ℕ → List ℕ → Repair → Type 0
Upgraded a c d r = Changed (upgrade_refusal c) (upgrade_work c) a c d r
