-- Commit's own refusals, of data that is known by its length alone, and of a choice that is known by its room: a plan never looks at their bytes.
use Rattle.std.specs.Prelude.{ℕ, ◌*◌, ◌/◌, List, Bool, cond, length, eqb, leb}
use Rattle.protocol.specs.declared.Geometry.{Geometry}
use Rattle.protocol.specs.Below.{all_below}
use Rattle.protocol.specs.Layout.{block_size}
use Rattle.protocol.specs.Check.{refuse, ◌or_else◌, choice_byte_fits}
use Rattle.protocol.specs.Commit.{count_fits, numbers_fit, numbers_apart, room_for}

-- not 9: `size` bytes are those of the numbers' blocks
unfoldable pub size_fits : Geometry → List ℕ → ℕ → Bool
size_fits g ns size = eqb size (length ns * block_size g)

-- the stores of a run that the choice ch speaks of: as many as it has bytes, and none where one of them is above 1
unfoldable pub choice_room : List ℕ → ℕ
choice_room ch = cond (all_below (choice_byte_fits ch) (length ch)) (length ch) 0

-- not 17: room for "the longest run, B/8"
unfoldable pub room_fits : Geometry → ℕ → Bool
room_fits g room = leb (block_size g / 8) room

-- 8, 9, 17, 10 and 11, which numbers, length and room decide alone
unfoldable pub request_refusal : Geometry → List ℕ → ℕ → ℕ → ℕ
request_refusal g ns size room =
    refuse 8 (count_fits g ns)
    or_else refuse 9 (size_fits g ns size)
    or_else refuse 17 (room_fits g room)
    or_else refuse 10 (numbers_fit g ns)
    or_else refuse 11 (numbers_apart ns)

-- these, then 14
unfoldable pub sized_refusal : Geometry → List ℕ → List ℕ → ℕ → ℕ → ℕ
sized_refusal g c ns size room = request_refusal g ns size room or_else refuse 14 (room_for g c (length ns))
