-- Document 02, ask 8: "The cut rule holds recipe by recipe": what is claimed of every list of saves, removes, loads, evictions, recoveries, opens and
-- upgrades.
use Rattle.std.specs.Prelude.{ℕ, List, [], ◌∷◌, ◌++◌, true, ◌≡◌, length, eqb}
use Rattle.numbers.specs.Bytes.{patch}
use Rattle.protocol.specs.declared.Answer.TheVariants.{Done}
use Rattle.protocol.specs.declared.Geometry.{Geometry}
use Rattle.protocol.specs.declared.Map.{Map}
use Rattle.protocol.specs.declared.Mapped.TheVariants.{Is as MapIs}
use Rattle.protocol.specs.declared.Outcome.TheVariants.{Done as FormatDone}
use Rattle.protocol.specs.Layout.{between, version_of, disk_length}
use Rattle.protocol.specs.Ring.{is_settled, contents}
use Rattle.protocol.specs.Check.{refuse, ◌or_else◌}
use Rattle.protocol.specs.Map.{map_of, map_refusal, made_map}
use Rattle.protocol.specs.Format.{outcome_of, format_refusal}
use Rattle.protocol.specs.Recover.{recover_refusal}
use Rattle.protocol.specs.History.{Request, Media}
use Rattle.protocol.specs.CutRule.{left, row_left}
use Rattle.recipe.specs.declared.Fetched.{Fetched}
use Rattle.recipe.specs.declared.Fetched.TheVariants.{Is, Refused}
use Rattle.recipe.specs.Shelf.{in_range, Standing, nothing, broken, stands, standing, standing_refusal, standing_bytes}
use Rattle.recipe.specs.Calls.{fetch_refusal, fetched, fetched_output}
use Rattle.recipe.specs.Uses.{recover, Asked, answer_for, media_left, answers_to, Shelf, shelve_all}

-- the media that a list of uses leaves, behind the calls `past` on a card c formatted with the version v, over the disk d
unfoldable pub used_left : ℕ → Geometry → List ℕ → List ℕ → List Request → List Asked → Media
used_left v g c d past qs = media_left qs (left v g c d past)

-- what is said to stand for each recipe after them: at first what the row at the list's start says
unfoldable pub shelf_left : ℕ → Geometry → List ℕ → List ℕ → List Request → List Asked → Shelf
shelf_left v g c d past qs = shelve_all qs (answers_to qs (left v g c d past)) (standing g (row_left v g c d past))

-- a recovery by a library of the version w that gets the map s, under the allowance a
abbrev pub recovering : ℕ → Map → ℕ → Asked
recovering w s a = record { version = w; call = recover; map = s; allowance = a }

-- what fetching a recipe answers, where x stands for it
abbrev pub answered_as : Standing → Fetched
answered_as nothing = Refused 20
answered_as broken = Refused 21
answered_as (stands bs) = Is (length bs)

-- what the cut rule says of one list of uses
pub record Kept (v : ℕ) (g : Geometry) (c d : List ℕ) (past : List Request) (qs : List Asked) : Type 0 where
  -- recover is refused with none of 1 to 6: with no other number than 15, and so not with the map that the card gives
  pub recovers : (s : Map) → recover_refusal 2 (used_left v g c d past qs).on_card s ≡ map_refusal (used_left v g c d past qs).on_card s
  -- which can be made
  pub maps : made_map (used_left v g c d past qs).on_card ≡ MapIs (map_of (used_left v g c d past qs).on_card)
  -- a recovery that answers done leaves the card settled
  pub settles : (before : List Asked) (w : ℕ) (s : Map) (a n : ℕ) → qs ≡ before ++ (recovering w s a ∷ [])
      → answer_for (recovering w s a) (used_left v g c d past before) ≡ Done n
      → is_settled g (used_left v g c d past qs).on_card ≡ true
  -- whenever it is settled, there stands for recipe r what the last save or remove of r that answered done says, or else what the row at the start says
  pub holds : is_settled g (used_left v g c d past qs).on_card ≡ true → (r : ℕ) → in_range g r ≡ true
      → standing g (contents g (used_left v g c d past qs).on_card (used_left v g c d past qs).on_disk) r ≡ shelf_left v g c d past qs r
  -- and fetching r answers it, of a version 2 card
  pub fetches : version_of (used_left v g c d past qs).on_card ≡ 2 → is_settled g (used_left v g c d past qs).on_card ≡ true → (r : ℕ) → in_range g r ≡ true
      → (out : List ℕ) → length out ≡ 1528
      → (fetched (used_left v g c d past qs).on_card (used_left v g c d past qs).on_disk r out ≡ answered_as (shelf_left v g c d past qs r))
      × (fetched_output (used_left v g c d past qs).on_card (used_left v g c d past qs).on_disk r out ≡ patch out 0 (standing_bytes (shelf_left v g c d past qs r)))
  -- it is refused only as its own checks say: 1 of another version, 7 on a card that is not settled, 19 and, where it is settled, 20, 21 and 9
  pub refuses : (r : ℕ) (out : List ℕ) → is_settled g (used_left v g c d past qs).on_card ≡ true
      → fetch_refusal (used_left v g c d past qs).on_card (used_left v g c d past qs).on_disk r out
      ≡ refuse 1 (eqb (version_of (used_left v g c d past qs).on_card) 2)
      or_else refuse 19 (in_range g r)
      or_else standing_refusal (shelf_left v g c d past qs r)
      or_else refuse 9 (eqb (length out) 1528)

-- from a formatted card of version 1 or 2, after any past of the cache's own calls, an empty one too
abbrev pub RecipeRule : Type 0
RecipeRule = (v : ℕ) (g : Geometry) (c d : List ℕ) (past : List Request) (qs : List Asked)
    → between 1 2 v ≡ true
    → outcome_of (format_refusal g c) ≡ FormatDone
    → length d ≡ disk_length g
    → Kept v g c d past qs
