-- Document 01, "Bytes of the card": the geometry, the lengths, the header, and where each part of the card and of the disk begins.
use Rattle.std.specs.Prelude.{ℕ, ◌+◌, ◌*◌, ◌%◌, ◌^◌, List, ◌∷◌, ◌++◌, Bool, ◌&&◌, get_or, replicate, leb, eqb}
use Rattle.numbers.specs.Bytes.{bytes_be, part, number_at}
use Rattle.protocol.specs.declared.Geometry.{Geometry}
use Rattle.protocol.specs.Below.{all_below}

-- low ≤ x ≤ high
unfoldable pub between : ℕ → ℕ → ℕ → Bool
between low high x = leb low x && leb x high

-- "k, from 9 to 12"
unfoldable pub good_k : ℕ → Bool
good_k k = between 9 12 k

-- "S, a multiple of 8 from 8 to 256"
unfoldable pub good_slots : ℕ → Bool
good_slots s = between 8 256 s && eqb (s % 8) 0

-- "N, a multiple of 4 from 4 to 128"
unfoldable pub good_blocks : ℕ → Bool
good_blocks n = between 4 128 n && eqb (n % 4) 0

-- "D, from 1 to 65,536"
unfoldable pub good_disk : ℕ → Bool
good_disk d = between 1 65536 d

-- all four within their limits
unfoldable pub good_geometry : Geometry → Bool
good_geometry g = good_k g.k && (good_slots g.slots && (good_blocks g.blocks && good_disk g.disk))

-- "B is two to the power k"
unfoldable pub block_size : Geometry → ℕ
block_size g = 2 ^ g.k

-- "From 128: S slots of 8 bytes", the place of slot i
unfoldable pub slot_place : ℕ → ℕ
slot_place i = 128 + 8 * i

-- "Then N entries of 16 bytes", the place of entry i
unfoldable pub entry_place : Geometry → ℕ → ℕ
entry_place g i = 128 + 8 * g.slots + 16 * i

-- "Then N data blocks", the place of data block p
unfoldable pub block_place : Geometry → ℕ → ℕ
block_place g p = 128 + 8 * g.slots + 16 * g.blocks + p * block_size g

-- "The card's length is exactly 128 + 8·S + 16·N + N·B"
unfoldable pub card_length : Geometry → ℕ
card_length g = 128 + 8 * g.slots + 16 * g.blocks + g.blocks * block_size g

-- the place of disk block b
unfoldable pub disk_place : Geometry → ℕ → ℕ
disk_place g b = b * block_size g

-- "The disk's length is exactly D·B"
unfoldable pub disk_length : Geometry → ℕ
disk_length g = g.disk * block_size g

-- data block p of the card c
unfoldable pub block_at : Geometry → List ℕ → ℕ → List ℕ
block_at g c p = part c (block_place g p) (block_size g)

-- block b of the disk d
unfoldable pub disk_block : Geometry → List ℕ → ℕ → List ℕ
disk_block g d b = part d (disk_place g b) (block_size g)

-- the header's 64 bytes: length 64, version, k, S, N, D, zeros. Document 01's version is 1, document 02's, ask 7, is 2
unfoldable pub header_bytes : ℕ → Geometry → List ℕ
header_bytes v g =
    bytes_be 4 64 ++ (v ∷ g.k ∷ (bytes_be 2 g.slots ++ (bytes_be 4 g.blocks ++ (bytes_be 4 g.disk ++ replicate 48 0))))

-- the geometry that the header of c spells
unfoldable pub geometry_of : List ℕ → Geometry
geometry_of c = record { k = get_or c 5 0; slots = number_at c 6 2; blocks = number_at c 8 4; disk = number_at c 12 4 }

-- "Byte 4: version"
unfoldable pub version_of : List ℕ → ℕ
version_of c = get_or c 4 0

-- byte `at` + i is zero
unfoldable pub zero_from : List ℕ → ℕ → ℕ → Bool
zero_from c at i = eqb (get_or c (at + i) 0) 0

-- every field of the header is as document 01 says, with a version from low to high
unfoldable pub good_header : ℕ → ℕ → List ℕ → Bool
good_header low high c =
    eqb (number_at c 0 4) 64 && (between low high (version_of c) && (good_geometry (geometry_of c) && all_below (zero_from c 16) 48))
