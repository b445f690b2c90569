-- Document 01, "Who can cause a refusal": checks 1 to 7 of a card, and how refusals are put in order. A refusal is its number, 0 for none.
-- Document 02's check 17 stands here too, since three calls ask it.
use Rattle.std.specs.Prelude.{ℕ, zero, suc, ◌/◌, List, Bool, cond, not, ◌&&◌, ◌||◌, length, get_or, eqb, ltb, leb}
use Rattle.protocol.specs.declared.Geometry.{Geometry}
use Rattle.protocol.specs.Below.{all_below}
use Rattle.protocol.specs.Layout.{good_header, geometry_of, version_of, block_size, card_length, disk_length}
use Rattle.protocol.specs.Entry.{FRESH, entry_at, good_entry}
use Rattle.protocol.specs.Ring.{head_of, tail_of, window_of, window_number, used_at, settled_block, is_settled}

infixr 20 ◌or_else◌
-- "A number is given whenever its condition holds": refusal r, unless all is well
unfoldable pub refuse : ℕ → Bool → ℕ
refuse r ok = cond ok 0 r

-- "Lowest number first": the first refusal, or where there is none the second
unfoldable pub ◌or_else◌ : ℕ → ℕ → ℕ
zero or_else r = r
(suc n) or_else r = suc n

-- not 1: "card under 128 bytes, or a header field not as above", of a call that takes versions from low to high
unfoldable pub header_fits : ℕ → ℕ → List ℕ → Bool
header_fits low high c = not (ltb (length c) 128) && good_header low high c

-- not 2: "card of the wrong length"
unfoldable pub card_fits : Geometry → List ℕ → Bool
card_fits g c = eqb (length c) (card_length g)

-- not 3: "disk of the wrong length"
unfoldable pub disk_fits : Geometry → List ℕ → Bool
disk_fits g d = eqb (length d) (disk_length g)

-- the number in the window's slot j is below D
unfoldable pub window_number_fits : Geometry → List ℕ → ℕ → Bool
window_number_fits g c j = ltb (window_number g c j) g.disk

-- not 4: "Head or Tail not below S, or a window number not below D"
unfoldable pub ring_fits : Geometry → List ℕ → Bool
ring_fits g c =
    ltb (head_of c) g.slots && (ltb (tail_of c) g.slots && all_below (window_number_fits g c) (window_of g c))

-- entry i is one that check 5 allows with the card's version
unfoldable pub good_entry_at : Geometry → List ℕ → ℕ → Bool
good_entry_at g c i = good_entry (version_of c) g.blocks g.disk (entry_at g c i)

-- not 5: every entry is one that check 5 allows
unfoldable pub entries_fit : Geometry → List ℕ → Bool
entries_fit g c = all_below (good_entry_at g c) g.blocks

-- entries i and j have "equal numbers, equal current blocks or equal settled blocks (two that have none are not equal)"
unfoldable pub alike : Geometry → List ℕ → ℕ → ℕ → Bool
alike g c i j =
    eqb (entry_at g c i).number (entry_at g c j).number
    || (eqb (entry_at g c i).current (entry_at g c j).current
    || (eqb (settled_block g c i) (settled_block g c j) && not (eqb (settled_block g c i) FRESH)))

-- entries i and j are not two in-use entries that are alike
unfoldable pub apart : Geometry → List ℕ → ℕ → ℕ → Bool
apart g c i j = not (used_at g c i && (used_at g c j && alike g c i j))

-- entry i is apart from each entry before it
unfoldable pub apart_before : Geometry → List ℕ → ℕ → Bool
apart_before g c i = all_below (apart g c i) i

-- not 6: no "two in-use entries with equal numbers, equal current blocks or equal settled blocks"
unfoldable pub entries_apart : Geometry → List ℕ → Bool
entries_apart g c = all_below (apart_before g c) g.blocks

-- 1 and 2: the fitter; "other calls but format and making the map refuse version 1 with 1; upgrade refuses version 2 with 1": a call takes versions
-- from low to high
unfoldable pub fit_refusal : ℕ → ℕ → List ℕ → ℕ
fit_refusal low high c = refuse 1 (header_fits low high c) or_else refuse 2 (card_fits (geometry_of c) c)

-- 3, for the calls that take the disk
unfoldable pub disk_refusal : Geometry → List ℕ → ℕ
disk_refusal g d = refuse 3 (disk_fits g d)

-- 4 to 6: a damaged card
unfoldable pub damage_refusal : Geometry → List ℕ → ℕ
damage_refusal g c = refuse 4 (ring_fits g c) or_else refuse 5 (entries_fit g c) or_else refuse 6 (entries_apart g c)

-- 4 to 7: a damaged card or one that an earlier cut left unsettled
unfoldable pub card_refusal : Geometry → List ℕ → ℕ
card_refusal g c = damage_refusal g c or_else refuse 7 (is_settled g c)

-- byte i of the choice is not "a byte above 1"
unfoldable pub choice_byte_fits : List ℕ → ℕ → Bool
choice_byte_fits ch i = leb (get_or ch i 0) 1

-- not 17: neither "a choice of fewer bytes than the longest run, B/8", nor one "with a byte above 1"
unfoldable pub choice_fits : Geometry → List ℕ → Bool
choice_fits g ch = leb (block_size g / 8) (length ch) && all_below (choice_byte_fits ch) (length ch)

-- 17, for the calls that take a choice
unfoldable pub choice_refusal : Geometry → List ℕ → ℕ
choice_refusal g ch = refuse 17 (choice_fits g ch)
