-- What is wrong with a refused card: checks 1, 2 and 4 to 6 of document 01, each with the first thing that it forbids, of a call that takes versions
-- from low to high. A part is `Sound` where its check passes, so that the parts in their order give the first fault of the card.
use Rattle.std.specs.Prelude.{ℕ, List, Bool, cond, not, ◌&&◌, ◌||◌, length, eqb, ltb}
use Rattle.numbers.specs.Bytes.{number_at}
use Rattle.protocol.specs.declared.Geometry.{Geometry}
use Rattle.protocol.specs.declared.Entry.{Entry}
use Rattle.protocol.specs.Below.{all_below, first_below, around}
use Rattle.protocol.specs.Layout.{between, good_k, good_slots, good_blocks, good_disk, geometry_of, version_of, zero_from, card_length}
use Rattle.protocol.specs.Entry.{FRESH, entry_at, allowed_flags, is_unused}
use Rattle.protocol.specs.Ring.{head_of, tail_of, window_of, settled_block}
use Rattle.protocol.specs.Check.{card_fits, window_number_fits, good_entry_at, apart, apart_before}
use Rattle.faults.specs.declared.Fault.{Fault}
use Rattle.faults.specs.declared.Fault.TheVariants.{Sound, Short, HeaderLength, Version, K, Slots, Blocks, Disk, Reserved}
use Rattle.faults.specs.declared.Fault.TheVariants.{Length, Head, Tail, WindowNumber, Flags, NotZero, Number, Current, Previous}
use Rattle.faults.specs.declared.Fault.TheVariants.{SameNumber, SameCurrent, SameSettled}

-- the refusal that a fault comes under, 0 for none
unfoldable pub refusal_of : Fault → ℕ
refusal_of Sound = 0
refusal_of Short = 1
refusal_of HeaderLength = 1
refusal_of Version = 1
refusal_of K = 1
refusal_of Slots = 1
refusal_of Blocks = 1
refusal_of Disk = 1
refusal_of Reserved = 1
refusal_of (Length n) = 2
refusal_of Head = 4
refusal_of Tail = 4
refusal_of (WindowNumber s) = 4
refusal_of (Flags i) = 5
refusal_of (NotZero i) = 5
refusal_of (Number i) = 5
refusal_of (Current i) = 5
refusal_of (Previous i) = 5
refusal_of (SameNumber i j) = 6
refusal_of (SameCurrent i j) = 6
refusal_of (SameSettled i j) = 6

infixr 20 ◌or_next◌
-- the first fault, or where there is none the second
unfoldable pub ◌or_next◌ : Fault → Fault → Fault
a or_next b = cond (eqb (refusal_of a) 0) b a

-- index i does not have p
unfoldable pub fails : (ℕ → Bool) → ℕ → Bool
fails p i = not (p i)

-- 1: the first of k, S, N and D that is outside its limits
unfoldable pub geometry_fault : Geometry → Fault
geometry_fault g =
    cond (good_k g.k) (cond (good_slots g.slots) (cond (good_blocks g.blocks) (cond (good_disk g.disk) Sound Disk) Blocks) Slots) K

-- 1: under 128 bytes, or the first header field in the order of the bytes that is not as document 01 says
unfoldable pub header_fault : ℕ → ℕ → List ℕ → Fault
header_fault low high c =
    cond (ltb (length c) 128) Short
    (cond (eqb (number_at c 0 4) 64)
    (cond (between low high (version_of c)) (geometry_fault (geometry_of c) or_next cond (all_below (zero_from c 16) 48) Sound Reserved) Version)
    HeaderLength)

-- 2: the length that the header asks for
unfoldable pub length_fault : Geometry → List ℕ → Fault
length_fault g c = cond (card_fits g c) Sound (Length (card_length g))

-- 4: the first slot of the window, counted from Tail, whose number is not below D
unfoldable pub first_misfit : Geometry → List ℕ → ℕ
first_misfit g c = first_below (fails (window_number_fits g c)) (window_of g c)

-- 4: the position of that slot
unfoldable pub window_fault : Geometry → List ℕ → Fault
window_fault g c =
    cond (ltb (first_misfit g c) (window_of g c)) (WindowNumber (around g.slots (tail_of c) (first_misfit g c))) Sound

-- 4: Head or Tail that is not below S, or that slot
unfoldable pub ring_fault : Geometry → List ℕ → Fault
ring_fault g c =
    cond (ltb (head_of c) g.slots) (cond (ltb (tail_of c) g.slots) (window_fault g c) Tail) Head

-- 5: previous "below N or FRESH"
unfoldable pub good_previous : ℕ → ℕ → Bool
good_previous n p = ltb p n || eqb p FRESH

-- 5: what is wrong with the entry e at place i, with the version v, N data blocks and D disk blocks: its first wrong field in the entry's order
unfoldable pub entry_fault_of : ℕ → ℕ → ℕ → ℕ → Entry → Fault
entry_fault_of v n d i e =
    cond (is_unused e) Sound
    (cond (eqb e.flags 0) (NotZero i)
    (cond (allowed_flags v e.flags)
    (cond (ltb e.number d)
    (cond (good_previous n e.previous) (cond (ltb e.current n) Sound (Current i)) (Previous i))
    (Number i))
    (Flags i)))

-- 5: the place of the first entry that check 5 forbids
unfoldable pub first_bad : Geometry → List ℕ → ℕ
first_bad g c = first_below (fails (good_entry_at g c)) g.blocks

-- 5: that entry's fault
unfoldable pub entry_fault : Geometry → List ℕ → Fault
entry_fault g c =
    cond (ltb (first_bad g c) g.blocks)
    (entry_fault_of (version_of c) g.blocks g.disk (first_bad g c) (entry_at g c (first_bad g c)))
    Sound

-- 6: entries i and j have "equal settled blocks (two that have none are not equal)"
unfoldable pub same_settled : Geometry → List ℕ → ℕ → ℕ → Bool
same_settled g c i j = eqb (settled_block g c i) (settled_block g c j) && not (eqb (settled_block g c i) FRESH)

-- 6: in which way entries i and j are alike
unfoldable pub pair_fault_of : Geometry → List ℕ → ℕ → ℕ → Fault
pair_fault_of g c i j =
    cond (eqb (entry_at g c i).number (entry_at g c j).number) (SameNumber i j)
    (cond (eqb (entry_at g c i).current (entry_at g c j).current) (SameCurrent i j)
    (cond (same_settled g c i j) (SameSettled i j) Sound))

-- 6: the first entry before entry i that is in use and alike to it
unfoldable pub first_alike : Geometry → List ℕ → ℕ → ℕ
first_alike g c i = first_below (fails (apart g c i)) i

-- 6: the first entry that has one
unfoldable pub first_paired : Geometry → List ℕ → ℕ
first_paired g c = first_below (fails (apart_before g c)) g.blocks

-- 6: the first such pair
unfoldable pub pair_fault : Geometry → List ℕ → Fault
pair_fault g c =
    cond (ltb (first_paired g c) g.blocks) (pair_fault_of g c (first_paired g c) (first_alike g c (first_paired g c))) Sound

-- 4 to 6: a damaged card
unfoldable pub damage_fault : Geometry → List ℕ → Fault
damage_fault g c = ring_fault g c or_next entry_fault g c or_next pair_fault g c

-- 1 and 2: the fitter
unfoldable pub fit_fault : ℕ → ℕ → List ℕ → Fault
fit_fault low high c = header_fault low high c or_next length_fault (geometry_of c) c

-- the first fault of the card c
unfoldable pub fault_of : ℕ → ℕ → List ℕ → Fault
fault_of low high c = fit_fault low high c or_next damage_fault (geometry_of c) c
