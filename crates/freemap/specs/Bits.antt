-- The map's bits as the machine's words have them: set, cleared, and searched by the trailing zeros of the complement.
use Rattle.std.specs.Prelude.{ℕ, zero, suc, ◌+◌, ◌-◌, ◌^◌, cond, ltb}
use Rattle.std.specs.Int.Bits.{bit_and, bit_or}
use Rattle.std.specs.Int.Count.{count_trailing_zeros}
use Rattle.protocol.specs.declared.Map.{Map}

-- all 64 bits set
abbrev pub FULL : ℕ
FULL = 0xFFFFFFFFFFFFFFFF

-- bit d set
unfoldable pub with_bit : Map → ℕ → Map
with_bit m d =
    cond (ltb d 64)
    (record { low = bit_or m.low (2 ^ d); high = m.high })
    (record { low = m.low; high = bit_or m.high (2 ^ (d - 64)) })

-- bit d cleared
unfoldable pub without_bit : Map → ℕ → Map
without_bit m d =
    cond (ltb d 64)
    (record { low = bit_and m.low (FULL - 2 ^ d); high = m.high })
    (record { low = m.low; high = bit_and m.high (FULL - 2 ^ (d - 64)) })

-- the bits of `gone` cleared, then those of `come` set
unfoldable pub moved_map : Map → Map → Map → Map
moved_map m gone come =
    record {
      low = bit_or (bit_and m.low (FULL - gone.low)) come.low;
      high = bit_or (bit_and m.high (FULL - gone.high)) come.high;
    }

-- the lowest bit of the word w from place `at` on that is clear, 64 where there is none
unfoldable pub clear_from : ℕ → ℕ → ℕ
clear_from w at = count_trailing_zeros 64 (FULL - bit_or w (2 ^ at - 1))

-- the lowest data block from `at` on that the map calls free, 128 where there is none
unfoldable pub free_from : Map → ℕ → ℕ
free_from m at =
    cond (ltb at 64)
    (cond (ltb (clear_from m.low at) 64) (clear_from m.low at) (64 + clear_from m.high 0))
    (64 + clear_from m.high (at - 64))

-- the first free data block upward from `start` and round, 128 where there is none
unfoldable pub next_free : Map → ℕ → ℕ
next_free m start = cond (ltb (free_from m start) 128) (free_from m start) (free_from m 0)

-- the map after i searches from `start`, each of which marks the block that it found
unfoldable pub taken_map : Map → ℕ → ℕ → Map
taken_map m start zero = m
taken_map m start (suc i) = with_bit (taken_map m start i) (next_free (taken_map m start i) start)

-- the block that the i-th of these searches finds
unfoldable pub taken_at : Map → ℕ → ℕ → ℕ
taken_at m start i = next_free (taken_map m start i) start
