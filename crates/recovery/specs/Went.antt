-- What recovery did, or a part of it, and when it leaves a store out.
use Rattle.std.specs.Prelude.{ℕ, List, [], Bool, ◌&&◌, ◌≡◌, length, eqb}
use Rattle.protocol.specs.declared.Entry.{Entry}
use Rattle.protocol.specs.declared.Map.{Map}
use Rattle.protocol.specs.declared.Stored.{Stored}
use Rattle.protocol.specs.Store.{card, Run, flat, answer_of, after_on}
use Rattle.protocol.specs.Map.{map_after}
use Rattle.protocol.specs.Recover.{recover_work}
use Rattle.stores.specs.Did.{Did}
use Rattle.recovery.specs.declared.Progress.{Progress}

-- the runs rs were made on the card as far as the credit a went, and their stores counted, made or not
pub record Went (rs : List Run) (a : ℕ) (c d : List ℕ) (p : Progress) : Type 0 where
  pub did : Did card rs [] a c d p.left
  pub counted : p.count ≡ length (flat rs)

-- two entries are the same, field by field
unfoldable pub same_entry : Entry → Entry → Bool
same_entry a b =
    eqb a.flags b.flags
    && (eqb a.number b.number && (eqb a.previous b.previous && eqb a.current b.current))

-- recovery of the card c under the map m and the allowance a, which left the card d and handed back r
pub record Recovered (a : ℕ) (c : List ℕ) (m : Map) (d : List ℕ) (r : Stored) : Type 0 where
  pub answer_is : r.answer ≡ answer_of a (recover_work 2 c m)
  pub map_is : r.map ≡ map_after a (recover_work 2 c m) c m
  pub after_is : d ≡ after_on card a (recover_work 2 c m) c
