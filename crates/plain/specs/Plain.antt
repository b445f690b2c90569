-- The answers as plain numbers, each case with its kind.
use Rattle.std.specs.Prelude.{ℕ, ◌-◌, List, [], ◌∷◌, true, false, cond, length, get_or, eqb}
use Rattle.protocol.specs.declared.Answer.{Answer}
use Rattle.protocol.specs.declared.Answer.TheVariants.{Done, Cut, Refused}
use Rattle.protocol.specs.declared.Condition.{Condition}
use Rattle.protocol.specs.declared.Condition.TheVariants.{Settled, Unsettled}
use Rattle.protocol.specs.declared.Geometry.{Geometry}
use Rattle.protocol.specs.declared.Map.{Map}
use Rattle.protocol.specs.declared.Mapped.{Mapped}
use Rattle.protocol.specs.declared.Mapped.TheVariants.{Is as MapIs, Refused as MapRefused}
use Rattle.protocol.specs.declared.Outcome.{Outcome}
use Rattle.protocol.specs.declared.Outcome.TheVariants.{Done as FormatDone, Refused as FormatRefused}
use Rattle.protocol.specs.declared.Reported.{Reported}
use Rattle.protocol.specs.declared.Reported.TheVariants.{Is, Refused as StateRefused}
use Rattle.protocol.specs.Map.{made_map}
use Rattle.lookup.specs.declared.Cached.{Cached}
use Rattle.lookup.specs.declared.Cached.TheVariants.{Block, Nothing, Refused as CachedRefused}
use Rattle.lookup.specs.declared.Found.{Found}
use Rattle.lookup.specs.declared.Found.TheVariants.{Card, Disk, Outside, Refused as FoundRefused}
use Rattle.protocol.specs.declared.Pending.{Pending}
use Rattle.protocol.specs.declared.Opened.{Opened}
use Rattle.protocol.specs.declared.Opened.TheVariants.{Is as OpenIs, Refused as OpenRefused}
use Rattle.plain.specs.declared.TincaRecord.{TincaRecord}
use Rattle.plain.specs.declared.TincaAnswer.{TincaAnswer}
use Rattle.plain.specs.declared.TincaEntry.{TincaEntry}
use Rattle.plain.specs.declared.TincaMap.{TincaMap}
use Rattle.plain.specs.declared.TincaPlace.{TincaPlace}
use Rattle.plain.specs.declared.TincaState.{TincaState}

-- 0 done with its stores, 1 cut, 2 refused with its number
abbrev pub plain_answer : Answer → TincaAnswer
plain_answer (Done m) = record { kind = 0; refusal = 0; stores = m }
plain_answer Cut = record { kind = 1; refusal = 0; stores = 0 }
plain_answer (Refused r) = record { kind = 2; refusal = r; stores = 0 }

-- the same of format, which counts no stores
abbrev pub plain_outcome : Outcome → TincaAnswer
plain_outcome FormatDone = record { kind = 0; refusal = 0; stores = 0 }
plain_outcome (FormatRefused r) = record { kind = 2; refusal = r; stores = 0 }

-- 0 on the card, 1 on the disk, 2 refused; a number outside the disk is 10
abbrev pub plain_place : Found → TincaPlace
plain_place (Card at n i) = record { kind = 0; refusal = 0; offset = at; length = n }
plain_place (Disk at n) = record { kind = 1; refusal = 0; offset = at; length = n }
plain_place (FoundRefused r) = record { kind = 2; refusal = r; offset = 0; length = 0 }
plain_place (Outside n) = record { kind = 2; refusal = 10; offset = 0; length = 0 }

-- 0 settled, 1 unsettled, each with the geometry and two counts
abbrev pub plain_condition : Geometry → Condition → TincaState
plain_condition g (Settled u m) =
    record { kind = 0; refusal = 0; k = g.k; slots = g.slots; blocks = g.blocks; disk = g.disk; first = u; second = m }
plain_condition g (Unsettled u w) =
    record { kind = 1; refusal = 0; k = g.k; slots = g.slots; blocks = g.blocks; disk = g.disk; first = u; second = w }

-- 2 refused, all else zero
abbrev pub plain_state : Reported → TincaState
plain_state (Is s) = plain_condition s.geometry s.condition
plain_state (StateRefused r) = record { kind = 2; refusal = r; k = 0; slots = 0; blocks = 0; disk = 0; first = 0; second = 0 }

-- 0 a block is cached, modified 1 or 0; 1 nothing; 2 refused
abbrev pub plain_entry : Cached → TincaEntry
plain_entry (Block b true) = record { kind = 0; refusal = 0; block = b; modified = 1 }
plain_entry (Block b false) = record { kind = 0; refusal = 0; block = b; modified = 0 }
plain_entry Nothing = record { kind = 1; refusal = 0; block = 0; modified = 0 }
plain_entry (CachedRefused r) = record { kind = 2; refusal = r; block = 0; modified = 0 }

-- 0 made, with its two words; 2 refused
abbrev pub plain_map : Mapped → TincaMap
plain_map (MapIs m) = record { kind = 0; refusal = 0; low = m.low; high = m.high }
plain_map (MapRefused r) = record { kind = 2; refusal = r; low = 0; high = 0 }

-- a map that is not the card's, where the card gives one
abbrev pub other_map : Mapped → Map
other_map (MapIs m) = record { low = 0xFFFFFFFFFFFFFFFF - m.low; high = m.high }
other_map (MapRefused r) = record { low = 0; high = 0 }

-- the map that is lent as the words ws. One not of two words is another than the card's, so that it is refused with 15
unfoldable pub lent_map : List ℕ → List ℕ → Map
lent_map c ws = cond (eqb (length ws) 2) (record { low = get_or ws 0 0; high = get_or ws 1 0 }) (other_map (made_map c))

-- the words of the map m in place of two words
unfoldable pub words_of : Map → List ℕ → List ℕ
words_of m ws = cond (eqb (length ws) 2) (m.low ∷ m.high ∷ []) ws

-- the lent words after the answer: on done those of the map that is handed on
abbrev pub words_after : Answer → Map → List ℕ → List ℕ
words_after (Done n) m ws = words_of m ws
words_after Cut m ws = ws
words_after (Refused r) m ws = ws

-- ---- the pending save's record

-- 0 open, with its Tail and count; 2 refused
abbrev pub plain_record : Opened → TincaRecord
plain_record (OpenIs p) = record { kind = 0; refusal = 0; tail = p.tail; count = p.count }
plain_record (OpenRefused r) = record { kind = 2; refusal = r; tail = 0; count = 0 }

-- the record that is lent as the words ws. One not of two words has a Tail that is no card's, so that it is refused with 18
unfoldable pub lent_record : List ℕ → Pending
lent_record ws =
    cond (eqb (length ws) 2) (record { tail = get_or ws 0 0; count = get_or ws 1 0 }) (record { tail = 0xFFFFFFFFFFFFFFFF; count = 0xFFFFFFFFFFFFFFFF })

-- the lent words after the answer: on done those of the next record
abbrev pub record_after : Answer → Pending → List ℕ → List ℕ
record_after (Done n) p ws = words_of (record { low = p.tail; high = p.count }) ws
record_after Cut p ws = ws
record_after (Refused r) p ws = ws
