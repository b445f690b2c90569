-- Document 02, ask 2: the save preview, by commit's own definitions; and what a preview is worth to whoever saves after it.
use Rattle.std.specs.Prelude.{ℕ, ◌≤◌, ◌<◌, List, [], ◌∷◌, Bool, true, false, cond, ◌&&◌, ◌≡◌, length, get_or, eqb}
use Rattle.protocol.specs.declared.Answer.{Answer}
use Rattle.protocol.specs.declared.Answer.TheVariants.{Done, Refused}
use Rattle.protocol.specs.declared.Geometry.{Geometry}
use Rattle.protocol.specs.declared.Map.{Map}
use Rattle.protocol.specs.Below.{each_below}
use Rattle.protocol.specs.Layout.{geometry_of, block_at}
use Rattle.protocol.specs.Ring.{cached, current_of}
use Rattle.protocol.specs.Check.{refuse, ◌or_else◌, fit_refusal, card_refusal, choice_fits}
use Rattle.protocol.specs.Store.{card, flat, answer_of, after_on, stores_of}
use Rattle.protocol.specs.Map.{map_refusal}
use Rattle.protocol.specs.Commit.{number_of, new_block, data_of, count_fits, data_fits, numbers_fit, numbers_apart, room_for, commit_runs, commit_work}

-- not 9: the data is n·B bytes, and there is no "output not of n numbers"
unfoldable pub lengths_fit : Geometry → List ℕ → List ℕ → List ℕ → Bool
lengths_fit g ns bs out = data_fits g ns bs && eqb (length out) (length ns)

-- preview is refused as commit is, and with 9 for its output too
unfoldable pub preview_refusal : List ℕ → Map → List ℕ → List ℕ → List ℕ → ℕ
preview_refusal c m ns bs out =
    fit_refusal 2 2 c
    or_else card_refusal (geometry_of c) c
    or_else map_refusal c m
    or_else refuse 8 (count_fits (geometry_of c) ns)
    or_else refuse 9 (lengths_fit (geometry_of c) ns bs out)
    or_else refuse 10 (numbers_fit (geometry_of c) ns)
    or_else refuse 11 (numbers_apart ns)
    or_else refuse 14 (room_for (geometry_of c) c (length ns))

-- "stores nothing and answers what commit with ample allowance would": done with the count of commit's stores, or refused
unfoldable pub preview_answer : List ℕ → Map → List ℕ → List ℕ → List ℕ → Answer
preview_answer c m ns bs out =
    cond (eqb (preview_refusal c m ns bs out) 0) (Done (length (flat (commit_runs (geometry_of c) c ns bs)))) (Refused (preview_refusal c m ns bs out))

-- "each number's data block", of n numbers
unfoldable pub blocks_of : Geometry → List ℕ → ℕ → List ℕ
blocks_of g c n = each_below (λ i. new_block g c i ∷ []) n

-- the output after the call, out before it: a refusal leaves it
unfoldable pub blocks_after : List ℕ → Map → List ℕ → List ℕ → List ℕ → List ℕ
blocks_after c m ns bs out = cond (eqb (preview_refusal c m ns bs out) 0) (blocks_of (geometry_of c) c (length ns)) out

-- ---- what is claimed of it

-- with an output of n numbers the answer is commit's, under every allowance that is ample and with any choice that 17 accepts
abbrev pub AnswersAlike : Type 0
AnswersAlike = (c : List ℕ) (m : Map) (ns bs ch out : List ℕ) (a : ℕ) → length out ≡ length ns → choice_fits (geometry_of c) ch ≡ true
    → stores_of (commit_work 2 c m ns bs ch) ≤ a → preview_answer c m ns bs out ≡ answer_of a (commit_work 2 c m ns bs ch)

-- with any other it is commit's of data that is not n·B bytes: 9, behind what commit asks before 9 and before what it asks after
abbrev pub MisfitAlike : Type 0
MisfitAlike = (c : List ℕ) (m : Map) (ns bs ds ch out : List ℕ) (a : ℕ) → (length out ≡ length ns → ⊥) → data_fits (geometry_of c) ns ds ≡ false
    → preview_answer c m ns bs out ≡ answer_of a (commit_work 2 c m ns ds ch)

-- on the card c number i of a save is cached in data block p, which holds the bytes given for it
pub record Stands (g : Geometry) (c ns bs : List ℕ) (i p : ℕ) : Type 0 where
  pub is_cached : cached g c (number_of ns i) ≡ true
  pub current : current_of g c (number_of ns i) ≡ p
  pub filled : block_at g c p ≡ data_of g bs i

-- after a preview that answers done, a commit with the same input, any choice that 17 accepts and at least that allowance answers the same and
-- puts block i into the data block that the preview told
abbrev pub Foretold : Type 0
Foretold = (c : List ℕ) (m : Map) (ns bs ch out : List ℕ) (n a : ℕ) → choice_fits (geometry_of c) ch ≡ true → preview_answer c m ns bs out ≡ Done n → n ≤ a
    → (answer_of a (commit_work 2 c m ns bs ch) ≡ Done n)
    × ((i : ℕ) → i < length ns
    → Stands (geometry_of (after_on card a (commit_work 2 c m ns bs ch) c)) (after_on card a (commit_work 2 c m ns bs ch) c) ns bs i
    (get_or (blocks_after c m ns bs out) i 0))
