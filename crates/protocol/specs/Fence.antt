-- Document 02, ask 5, against document 01: where a cut by the memory maker's rule leaves what document 01's leaves, and the choice that does so.
use Rattle.std.specs.Prelude.{ℕ, ◌-◌, ◌/◌, ◌≤◌, List, [], ◌∷◌, ◌++◌, true, cond, ◌≡◌, ◌⊎◌, length, take, replicate, leb}
use Rattle.protocol.specs.declared.Geometry.{Geometry}
use Rattle.protocol.specs.Layout.{block_size}
use Rattle.protocol.specs.Check.{choice_fits}
use Rattle.protocol.specs.Store.{Store, Run, flat, landed, made}
use Rattle.protocol.specs.Commit.{commit_runs}
use Rattle.protocol.specs.Load.{load_runs, evict_runs}
use Rattle.protocol.specs.Room.{room_runs, room_left}
use Rattle.protocol.specs.Recover.{recover_runs}
use Rattle.protocol.specs.Upgrade.{upgrade_runs}
use Rattle.protocol.specs.Pending.{put_runs, finish_runs}

-- document 01's rule: "exactly the first ones are made, as many as the allowance"
unfoldable pub first_made : ℕ → List Run → List Store
first_made a rs = take a (flat rs)

-- the first run that the allowance does not cover, in which the cut falls; an empty one where it covers all
unfoldable pub cut_run : ℕ → List Run → Run
cut_run a [] = record { unordered = true; stores = [] }
cut_run a (r ∷ rs) = cond (leb (length r.stores) a) (cut_run (a - length r.stores) rs) r

-- how far into that run the allowance reaches
unfoldable pub reach : ℕ → List Run → ℕ
reach a [] = 0
reach a (r ∷ rs) = cond (leb (length r.stores) a) (reach (a - length r.stores) rs) a

-- a choice of n bytes at least: ones up to where the allowance ends in its run, then zeros
unfoldable pub in_order : ℕ → ℕ → List Run → List ℕ
in_order n a rs = replicate (reach a rs) 1 ++ replicate (n - reach a rs) 0

-- "Other stores are fenced singly": each run is unordered or a single store
abbrev pub Fenced : List Run → Type 0
Fenced [] = Unit
Fenced (r ∷ rs) = ((r.unordered ≡ true) ⊎ (length r.stores ≤ 1)) × Fenced rs

-- ---- what is claimed of it

-- the two rules agree exactly where the choice leaves of the cut run as many first stores as the allowance reaches into it
pub record AgreesWhere (a : ℕ) (ch : List ℕ) (rs : List Run) : Type 0 where
  pub there : landed ch (cut_run a rs) ≡ take (reach a rs) (cut_run a rs).stores → made a ch rs ≡ first_made a rs
  pub only : made a ch rs ≡ first_made a rs → landed ch (cut_run a rs) ≡ take (reach a rs) (cut_run a rs).stores

-- with all choices 0 that is where no cut falls inside a run
pub record ZerosAgree (n a : ℕ) (rs : List Run) : Type 0 where
  pub there : reach a rs ≡ 0 → made a (replicate n 0) rs ≡ first_made a rs
  pub only : made a (replicate n 0) rs ≡ first_made a rs → reach a rs ≡ 0

-- the prefix law: in runs that are fenced so, the choice in order makes document 01's first stores, and 17 accepts it where n is B/8
abbrev pub PrefixLaw : Type 0
PrefixLaw = (n a : ℕ) (rs : List Run) → Fenced rs → made a (in_order n a rs) rs ≡ first_made a rs

abbrev pub PrefixAccepted : Type 0
PrefixAccepted = (g : Geometry) (a : ℕ) (rs : List Run) → choice_fits g (in_order (block_size g / 8) a rs) ≡ true

-- and so are the runs of every call
pub record CallsFenced (g : Geometry) (c d t ns bs : List ℕ) (b : ℕ) : Type 0 where
  pub commit : Fenced (commit_runs g c ns bs)
  pub make_room : Fenced (room_runs g c t ns ++ commit_runs g (room_left g c t ns) ns bs)
  pub load : Fenced (load_runs g c d b)
  pub evict : Fenced (evict_runs g c b)
  pub recover : Fenced (recover_runs g c)
  pub upgrade : Fenced (upgrade_runs g)
  pub put : Fenced (put_runs g c b bs)
  pub finish : Fenced (finish_runs g c)
