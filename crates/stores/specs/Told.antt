-- The runs that a call tells, as those of the definitions.
use Rattle.std.specs.Prelude.{ℕ, ◌+◌, ◌/◌, ◌%◌, ◌≤◌, List, [], ◌∷◌, ◌≡◌}
use Rattle.numbers.specs.Bytes.{part}
use Rattle.protocol.specs.declared.Geometry.{Geometry}
use Rattle.protocol.specs.Layout.{block_size}
use Rattle.protocol.specs.Entry.{entry_bytes}
use Rattle.protocol.specs.Store.{card, disk, Run as Fenced, units, single, word_store}
use Rattle.stores.specs.declared.Run.{Run}
use Rattle.stores.specs.declared.Run.TheVariants.{Nothing, Words, Sectors, Entry, Word}
use Rattle.stores.specs.Did.{card_store, unfenced}

-- what a run stands for, of the data s and the card c
unfoldable pub told : Geometry → Run → List ℕ → List ℕ → List Fenced
told g Nothing s c = []
told g (Words to from) s c = unfenced (units card 8 (block_size g / 8) to (part s from (block_size g))) ∷ []
told g (Sectors to from) s c = unfenced (units disk 512 (block_size g / 512) to (part c from (block_size g))) ∷ []
told g (Entry at e) s c = single (card_store at (entry_bytes e))
told g (Word at v) s c = single (word_store at v)

-- the run has nothing for the disk
abbrev pub OnCard : Run → Type 0
OnCard Nothing = Unit
OnCard (Words to from) = Unit
OnCard (Sectors to from) = ⊥
OnCard (Entry at e) = Unit
OnCard (Word at v) = Unit

-- it lies on its medium, and so do its bytes: a card of n bytes, a disk of d, data of s; and the choice has a byte for each of its stores, h of them
abbrev pub Placed : Geometry → Run → ℕ → ℕ → ℕ → ℕ → Type 0
Placed g Nothing n d s h = Unit
Placed g (Words to from) n d s h = (to + block_size g ≤ n) × (from + block_size g ≤ s) × (block_size g / 8 ≤ h)
Placed g (Sectors to from) n d s h = (to + block_size g ≤ d) × (from + block_size g ≤ n) × (block_size g / 512 ≤ h)
Placed g (Entry at e) n d s h = (at + 16 ≤ n) × (at % 16 ≡ 0)
Placed g (Word at v) n d s h = at + 8 ≤ n
