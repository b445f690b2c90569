-- Recovery's list place by place: the N entries in ascending order, then Tail.
use Rattle.std.specs.Prelude.{ℕ, ◌<◌, List, [], ◌∷◌, Bool, true, false, cond, not, ◌&&◌, ◌≡◌, eqb, ltb}
use Rattle.numbers.specs.Bytes.{part}
use Rattle.protocol.specs.declared.Geometry.{Geometry}
use Rattle.protocol.specs.Entry.{entry_at, undone}
use Rattle.protocol.specs.Ring.{head_of, undoable_at}
use Rattle.protocol.specs.Check.{entries_fit}
use Rattle.protocol.specs.Map.{map_of, make_refusal}
use Rattle.protocol.specs.Store.{Run, Store, flat, single, entry_store, tail_store}
use Rattle.protocol.specs.Recover.{if_changing, undo_runs}
use Rattle.protocol.specs.Layout.{geometry_of, version_of, entry_place}
use Rattle.ring.specs.Fitted.{Fitted, WindowOf}
use Rattle.stores.specs.declared.Run.{Run as Told}
use Rattle.stores.specs.declared.Run.TheVariants.{Nothing as NoRun, Entry as EntryRun, Word as WordRun}
use Rattle.stores.specs.Did.{card_store}
use Rattle.recovery.specs.declared.Spelled.{Spelled}
use Rattle.recovery.specs.declared.Checked.{Checked}
use Rattle.recovery.specs.declared.Step.{Step}
use Rattle.recovery.specs.declared.Step.TheVariants.{Nothing, Undo, Tail}
use Rattle.recovery.specs.Went.{same_entry}

-- recovery changes entry i: it is undoable, and not undone already
unfoldable pub changed_at : Geometry → List ℕ → ℕ → Bool
changed_at g c i = undoable_at g c i && not (same_entry (entry_at g c i) (undone (version_of c) (entry_at g c i)))

-- the runs of place i of the list: those of entry i, and at place N Tail's
unfoldable pub runs_at : Geometry → List ℕ → ℕ → List Run
runs_at g c i = cond (ltb i g.blocks) (undo_runs g c i) (if_changing c (tail_store (head_of c)))

-- the runs that a step at place i stands for, each a single store
unfoldable pub step_runs : Geometry → ℕ → Step → List Run
step_runs g i Nothing = []
step_runs g i (Undo e) = single (entry_store g i e)
step_runs g i (Tail v) = single (tail_store v)

-- the same as a run of the list that every call tells
unfoldable pub step_run : Geometry → ℕ → Step → Told
step_run g i Nothing = NoRun
step_run g i (Undo e) = EntryRun (entry_place g i) e
step_run g i (Tail v) = WordRun 72 v

-- and its stores
unfoldable pub step_stores : Geometry → ℕ → Step → List Store
step_stores g i u = flat (step_runs g i u)

-- the step undoes an entry
unfoldable pub undoes : Step → Bool
undoes Nothing = false
undoes (Undo e) = true
undoes (Tail v) = false

-- the stores that a spelled step stands for: none where it has no bytes
unfoldable pub spelled_stores : Spelled → List Store
spelled_stores s = cond (eqb s.size 0) [] (card_store s.place (part s.bytes 0 s.size) ∷ [])

-- the step u is what becomes of entry i of the card c
pub record UndoneBy (g : Geometry) (c : List ℕ) (i : ℕ) (u : Step) : Type 0 where
  pub runs : step_runs g i u ≡ undo_runs g c i
  pub changes : undoes u ≡ changed_at g c i

-- the step u is what the list of the card c has at place i
pub record Listed (g : Geometry) (c : List ℕ) (i : ℕ) (u : Step) : Type 0 where
  pub runs : step_runs g i u ≡ runs_at g c i
  pub fits : undoes u ≡ true → i < g.blocks
  pub changes : i < g.blocks → undoes u ≡ changed_at g c i

-- what recovery finds first: its refusal, or where there is none a card whose parts fit, its geometry, its window and its map
pub record Examined (c : List ℕ) (s : Checked) : Type 0 where
  pub refusal_is : s.refusal ≡ make_refusal 2 c
  pub own : s.refusal ≡ 0 → s.geometry ≡ geometry_of c
  pub fitted : s.refusal ≡ 0 → Fitted s.geometry c
  pub window : s.refusal ≡ 0 → WindowOf s.geometry c s.window
  pub entries : s.refusal ≡ 0 → entries_fit s.geometry c ≡ true
  pub map_is : s.refusal ≡ 0 → s.map ≡ map_of c
