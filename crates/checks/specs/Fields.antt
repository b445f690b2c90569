-- An entry as its word of flag byte and number, its previous and its current block: each is read and compared whole.
use Rattle.std.specs.Prelude.{◌≡◌, ℕ, ◌+◌, ◌/◌, ◌%◌, ◌^◌, ◌<◌, cond, ◌&&◌, ltb, List, ◌==◌, ◌≢◌, nat_lt}
use Rattle.numbers.specs.Bytes.{number_at}
use Rattle.protocol.specs.declared.Entry.{Entry}
use Rattle.protocol.specs.declared.Geometry.{Geometry}
use Rattle.protocol.specs.Layout.{entry_place}
use Rattle.protocol.specs.Entry.{entry_of, allowed_flags}

-- the entry of the word w and the blocks p and q
unfoldable pub fields_entry : ℕ → ℕ → ℕ → Entry
fields_entry w p q = entry_of (w / 2 ^ 56) (w % 2 ^ 56) p q

-- r is the field of `width` bytes of entry i that starts at its byte `from`
pub record Field (g : Geometry) (c : List ℕ) (i from width r : ℕ) : Type 0 where
  pub value : r ≡ number_at c (entry_place g i + from) width
  pub below : r < 256 ^ width

-- the flag byte 82 with P as a word, with the version v: an allowed flag byte has P only with version 2
unfoldable pub over_of : ℕ → ℕ
over_of v = cond (v == 2) 0x8600000000000000 0x8200000000000000

-- stands for no number: no disk has as many blocks
abbrev pub NO_NUMBER : ℕ
NO_NUMBER = 0xFFFFFFFFFFFFFFFF

-- r is below D where the flag byte of the word w is allowed with the version v and its number is below D, and is then that number; else it stands
-- for none
pub record Numbered (v w disk r : ℕ) : Type 0 where
  pub tested : ltb r disk ≡ allowed_flags v (w / 2 ^ 56) && nat_lt (w % 2 ^ 56) disk
  pub number : r < disk → r ≡ w % 2 ^ 56
  pub none : (r ≢ NO_NUMBER) → r < disk
