-- Document 01, "Format", and a single entry read and written by value; with their version, of document 02, ask 7.
use Rattle.std.specs.Prelude.{ℕ, ◌+◌, ◌*◌, List, ◌++◌, cond, ◌&&◌, replicate, eqb}
use Rattle.numbers.specs.Bytes.{patch}
use Rattle.protocol.specs.declared.Geometry.{Geometry}
use Rattle.protocol.specs.declared.Entry.{Entry}
use Rattle.protocol.specs.declared.Outcome.{Outcome}
use Rattle.protocol.specs.declared.Outcome.TheVariants.{Done, Refused}
use Rattle.protocol.specs.declared.Decoded.{Decoded}
use Rattle.protocol.specs.declared.Decoded.TheVariants.{Fields, Refused as RefusedEntry}
use Rattle.protocol.specs.declared.Encoded.{Encoded}
use Rattle.protocol.specs.Layout.{between, good_geometry, good_blocks, good_disk, header_bytes}
use Rattle.protocol.specs.Entry.{entry_bytes, entry_in, good_entry}
use Rattle.protocol.specs.Check.{refuse, ◌or_else◌, card_fits}

-- "done, without a count, or refused"
unfoldable pub outcome_of : ℕ → Outcome
outcome_of r = cond (eqb r 0) Done (Refused r)

-- 1: "for format, a bad k, S, N or D"; 2: "card of the wrong length (format too)"
unfoldable pub format_refusal : Geometry → List ℕ → ℕ
format_refusal g c = refuse 1 (good_geometry g) or_else refuse 2 (card_fits g c)

-- "It writes the header, zeros bytes 64..127, the slots and the entries, and leaves the data blocks": a format of the version v
unfoldable pub formatted : ℕ → Geometry → List ℕ → List ℕ
formatted v g c = patch c 0 (header_bytes v g ++ replicate (64 + 8 * g.slots + 16 * g.blocks) 0)

-- the card after a format of the version v: a refusal writes nothing. "Format writes version 2"; version 1's is how earlier cards began
unfoldable pub after_format : ℕ → Geometry → List ℕ → List ℕ
after_format v g c = cond (eqb (format_refusal g c) 0) (formatted v g c) c

-- "A single entry is handled with its version given; one not 1 or 2 is refused with 1"; "N or D outside its limits is refused with 1, an entry that
-- check 5 forbids with 5"
unfoldable pub entry_refusal : ℕ → ℕ → ℕ → Entry → ℕ
entry_refusal v n d e = refuse 1 (between 1 2 v && (good_blocks n && good_disk d)) or_else refuse 5 (good_entry v n d e)

-- a single entry, read from sixteen bytes
unfoldable pub decoded : ℕ → ℕ → ℕ → List ℕ → Decoded
decoded v n d bs =
    cond (eqb (entry_refusal v n d (entry_in bs 0)) 0) (Fields (entry_in bs 0)) (RefusedEntry (entry_refusal v n d (entry_in bs 0)))

-- a single entry, written as sixteen bytes, zeros where it is refused
unfoldable pub encoded : ℕ → ℕ → ℕ → Entry → Encoded
encoded v n d e =
    record {
      outcome = outcome_of (entry_refusal v n d e);
      bytes = cond (eqb (entry_refusal v n d e) 0) (entry_bytes e) (replicate 16 0);
    }
