-- A commit's stores are all on the card, so that they leave the disk. Assumes nothing.
use Prim.Native.Nat.{ℕ, zero, suc, ◌+◌, ◌-◌, ◌/◌}
use mathlib.Core.List.{List, [], ◌∷◌, ◌++◌}
use mathlib.Core.Bool.{Bool, true, false, cond}
use mathlib.Core.Path.{◌≡◌, refl, sym, subst}
use lib.ListN.{length, drop}
use lib.Dec.{eqb, leb}
use Rattle.protocol.specs.declared.Geometry.{Geometry}
use Rattle.protocol.specs.Below.{each_below}
use Rattle.protocol.specs.Layout.{block_size, block_place}
use Rattle.protocol.specs.Entry.{switched}
use Rattle.protocol.specs.Store.{card, disk, Store, Run, is_on, stored_on, made_on, flat, chosen, landed, made, units, words, entry_store, word_store, slot_store, head_store, tail_store, single}
use Rattle.protocol.specs.Commit.{number_of, new_block, entry_found, log_entry, data_of, head_after, block_runs, switch_runs, commit_runs}
use Rattle.protocol.proofs.Stores.{flat_append}

-- all of the stores are on the card
abbrev OnCard : List Store → Type 0
OnCard [] = Unit
OnCard (s ∷ ss) = (s.medium ≡ card) × OnCard ss

on_append : (ss ts : List Store) → OnCard ss → OnCard ts → OnCard (ss ++ ts)
on_append [] ts x y = y
on_append (s ∷ ss) ts x y = (x.0, on_append ss ts x.1 y)

on_front : (ss ts : List Store) → OnCard (ss ++ ts) → OnCard ss
on_front [] ts x = tt
on_front (s ∷ ss) ts x = (x.0, on_front ss ts x.1)

on_back : (ss ts : List Store) → OnCard (ss ++ ts) → OnCard ts
on_back [] ts x = x
on_back (s ∷ ss) ts x = on_back ss ts x.1

on_chosen : (ch : List ℕ) (ss : List Store) → OnCard ss → OnCard (chosen ch ss)
unfolding chosen
on_chosen ch [] x = tt
on_chosen [] (s ∷ ss) x = tt
on_chosen (y ∷ ch) (s ∷ ss) x = go (eqb y 1) (on_chosen ch ss x.1)
  where
    go : (b : Bool) → OnCard (chosen ch ss) → OnCard (cond b (s ∷ chosen ch ss) (chosen ch ss))
    go true k = (x.0, k)
    go false k = k

-- and so are those that are made of them
on_made : (a : ℕ) (ch : List ℕ) (rs : List Run) → OnCard (flat rs) → OnCard (made a ch rs)
unfolding made landed flat
on_made a ch [] x = tt
on_made a ch (r ∷ rs) x =
    go (leb (length r.stores) a) r.unordered (on_front r.stores (flat rs) x)
    (on_made (a - length r.stores) ch rs (on_back r.stores (flat rs) x))
  where
    go : (b u : Bool) → OnCard r.stores → OnCard (made (a - length r.stores) ch rs)
        → OnCard (cond b (r.stores ++ made (a - length r.stores) ch rs) (cond u (chosen ch r.stores) []))
    go true u y z = on_append r.stores _ y z
    go false true y z = on_chosen ch r.stores y
    go false false y z = tt

on_elsewhere : (ss : List Store) (xs : List ℕ) → OnCard ss → made_on disk ss xs ≡ xs
unfolding made_on stored_on is_on
on_elsewhere [] xs h = refl
on_elsewhere (s ∷ ss) xs h = rw h.0 (on_elsewhere ss xs h.1)

on_units : (w n at : ℕ) (bs : List ℕ) → OnCard (units card w n at bs)
unfolding units
on_units w zero at bs = tt
on_units w (suc n) at bs = (refl, on_units w n (at + w) (drop w bs))

on_runs : (rs qs : List Run) → OnCard (flat rs) → OnCard (flat qs) → OnCard (flat (rs ++ qs))
on_runs rs qs x y = subst OnCard (sym (flat_append rs qs)) (on_append (flat rs) (flat qs) x y)

on_each : (f : ℕ → List Run) (n : ℕ) → ((i : ℕ) → OnCard (flat (f i))) → OnCard (flat (each_below f n))
unfolding each_below flat
on_each f zero h = tt
on_each f (suc n) h = on_runs (each_below f n) (f n) (on_each f n h) (h n)

on_single : (s : Store) → s.medium ≡ card → OnCard (flat (single s))
unfolding flat single
on_single s e = (e, tt)

module _ (g : Geometry) (c ns bs : List ℕ) where
  block_on : (i : ℕ) → OnCard (flat (block_runs g c ns bs i))
  unfolding block_runs words flat entry_store slot_store head_store word_store
  block_on i =
      let entry = entry_store g (entry_found g c ns i) (log_entry g c ns i) in
      let slot = slot_store (head_after g c i) (number_of ns i) in
      let head = head_store (head_after g c (i + 1)) in
      on_append (units card 8 (block_size g / 8) (block_place g (new_block g c i)) (data_of g bs i)) (flat (single entry ++ (single slot ++ single head)))
      (on_units 8 (block_size g / 8) (block_place g (new_block g c i)) (data_of g bs i))
      (on_runs (single entry) (single slot ++ single head) (on_single entry refl)
      (on_runs (single slot) (single head) (on_single slot refl) (on_single head refl)))

  switch_on : (i : ℕ) → OnCard (flat (switch_runs g c ns i))
  unfolding switch_runs entry_store
  switch_on i = on_single (entry_store g (entry_found g c ns i) (switched (log_entry g c ns i))) refl

  commit_on : OnCard (flat (commit_runs g c ns bs))
  unfolding commit_runs tail_store word_store
  commit_on =
      let last = tail_store (head_after g c (length ns)) in
      on_runs (each_below (block_runs g c ns bs) (length ns)) (each_below (switch_runs g c ns) (length ns) ++ single last)
      (on_each (block_runs g c ns bs) (length ns) block_on)
      (on_runs (each_below (switch_runs g c ns) (length ns)) (single last) (on_each (switch_runs g c ns) (length ns) switch_on) (on_single last refl))

  pub commit_elsewhere : (a : ℕ) (ch d : List ℕ) → made_on disk (made a ch (commit_runs g c ns bs)) d ≡ d
  commit_elsewhere a ch d = on_elsewhere (made a ch (commit_runs g c ns bs)) d (on_made a ch (commit_runs g c ns bs) commit_on)
