-- Document 02, ask 7, what it is for: "After a cut, clean blocks go to disk for nothing". What a cut commit and the recoveries after it leave of the
-- entries that were there before.
use Rattle.std.specs.Prelude.{ℕ, suc, ◌<◌, List, [], ◌∷◌, true, false, ◌≡◌, length, leb}
use Rattle.protocol.specs.declared.Answer.TheVariants.{Done, Cut}
use Rattle.protocol.specs.declared.Geometry.{Geometry}
use Rattle.protocol.specs.declared.Map.{Map}
use Rattle.protocol.specs.Below.{count_below}
use Rattle.protocol.specs.Layout.{geometry_of}
use Rattle.protocol.specs.Entry.{unused, entry_at, is_modified}
use Rattle.protocol.specs.Ring.{used_at, find_entry, cached}
use Rattle.protocol.specs.Store.{card, flat, made_on, single, entry_store}
use Rattle.protocol.specs.Load.{evict_runs}
use Rattle.protocol.specs.Room.{missing, evictions}
use Rattle.protocol.specs.History.{Call, commit, make_room, recover, Request, Media, answer_to, after, run}

-- entry i of the card c' is as that of c "in number, current block and in whether it is modified"
pub record AsBefore (g : Geometry) (c c' : List ℕ) (i : ℕ) : Type 0 where
  pub used : used_at g c' i ≡ true
  pub number : (entry_at g c' i).number ≡ (entry_at g c i).number
  pub current : (entry_at g c' i).current ≡ (entry_at g c i).current
  pub modified : is_modified (entry_at g c' i) ≡ is_modified (entry_at g c i)

-- the card c' has the entries of c again, and no others
pub record Restored (g : Geometry) (c c' : List ℕ) : Type 0 where
  pub entries : (i : ℕ) → i < g.blocks → used_at g c i ≡ true → AsBefore g c c' i
  pub no_others : (i : ℕ) → i < g.blocks → used_at g c i ≡ false → used_at g c' i ≡ false
  -- so "a clean block evicted after a recovery makes no disk store": its entry is zeroed, and that is all
  pub evicts : (b : ℕ) → cached g c b ≡ true → is_modified (entry_at g c (find_entry g c b)) ≡ false
      → evict_runs g c' b ≡ single (entry_store g (find_entry g c b) unused)

-- recoveries, by either library, with any maps and allowances
abbrev pub Recoveries : List Request → Type 0
Recoveries [] = Unit
Recoveries (r ∷ rs) = (r.call ≡ recover) × Recoveries rs

-- a call of today with the map s, under the allowance a
abbrev pub today : Call → Map → ℕ → Request
today q s a = record { version = 2; call = q; map = s; allowance = a }

-- "on a version 2 card, where a commit is cut and a recovery answers done, every entry that was there before is as it was", whatever the card's
-- history and however many recoveries are cut or refused before
abbrev pub CommitUndone : Type 0
CommitUndone = (m : Media) (s : Map) (ns bs ch : List ℕ) (a : ℕ) (rs : List Request) (r : Request) (n : ℕ)
    → answer_to (today (commit ns bs ch) s a) m ≡ Cut → Recoveries rs → r.call ≡ recover
    → answer_to r (run rs (after (today (commit ns bs ch) s a) m)) ≡ Done n
    → Restored (geometry_of m.on_card) m.on_card (after r (run rs (after (today (commit ns bs ch) s a) m))).on_card

-- how many evictions of a room-making commit are finished under the allowance a
unfoldable pub finished_evictions : Geometry → List ℕ → List ℕ → List ℕ → ℕ → ℕ
finished_evictions g c t ns a = count_below (λ k. leb (length (flat (evictions g c t ns (suc k)))) a) (missing g c ns)

-- "every entry of the card that its finished evictions left"
unfoldable pub evicted_card : Geometry → List ℕ → List ℕ → List ℕ → ℕ → List ℕ
evicted_card g c t ns a = made_on card (flat (evictions g c t ns (finished_evictions g c t ns a))) c

abbrev pub RoomUndone : Type 0
RoomUndone = (m : Media) (s : Map) (t ns bs ch : List ℕ) (a : ℕ) (rs : List Request) (r : Request) (n : ℕ)
    → answer_to (today (make_room t ns bs ch) s a) m ≡ Cut → Recoveries rs → r.call ≡ recover
    → answer_to r (run rs (after (today (make_room t ns bs ch) s a) m)) ≡ Done n
    → Restored (geometry_of m.on_card) (evicted_card (geometry_of m.on_card) m.on_card t ns a)
    (after r (run rs (after (today (make_room t ns bs ch) s a) m))).on_card
