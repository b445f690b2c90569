-- A map that a station makes and hands on is the card's up to the first cut: a refused call changes neither card nor map, and a done one hands
-- on the map of the card that it leaves; and no check but 15 itself refuses with 15. Assumes nothing.
use Prim.Native.Nat.{ℕ, zero, suc}
use mathlib.Core.List.{List, [], ◌∷◌}
use mathlib.Core.Bool.{Bool, true, false, cond}
use mathlib.Core.Path.{◌≡◌, refl, sym, ap, ◌∙◌}
use mathlib.Core.Logic.{⊎_elim}
use native.Mathlib.Omega.{arith}
use lib.Dec.{eqb}
use Rattle.protocol.specs.declared.Answer.{Answer}
use Rattle.protocol.specs.declared.Answer.TheVariants.{Cut, Refused}
use Rattle.protocol.specs.declared.Geometry.{Geometry}
use Rattle.protocol.specs.declared.Map.{Map}
use Rattle.protocol.specs.declared.Pending.{Pending}
use Rattle.protocol.specs.declared.Mapped.TheVariants.{Is, Refused as RefusedMap}
use Rattle.protocol.specs.Layout.{geometry_of}
use Rattle.protocol.specs.Check.{refuse, ◌or_else◌, fit_refusal, disk_refusal, damage_refusal, card_refusal, choice_refusal}
use Rattle.protocol.specs.Store.{card, Work, made_on, flat, single, answer_of, after_on}
use Rattle.protocol.specs.Map.{map_of, map_refusal, make_refusal, made_map, handed_on, map_after}
use Rattle.protocol.specs.Commit.{save_refusal, commit_refusal, commit_work}
use Rattle.protocol.specs.Recency.{table_refusal}
use Rattle.protocol.specs.Load.{pair_refusal, block_refusal, load_refusal, load_work, evict_refusal, evict_work}
use Rattle.protocol.specs.Room.{room_refusal, room_work}
use Rattle.protocol.specs.Recover.{recover_refusal, recover_work}
use Rattle.protocol.specs.Pending.{open_refusal, open_work, put_refusal, put_work, finish_refusal, finish_work}
use Rattle.protocol.specs.Upgrade.{upgrade_runs, upgrade_refusal, upgrade_work}
use Rattle.protocol.specs.History.{Call, commit, make_room, load, evict, recover, upgrade, open_save, put, finish, Media, work_of, answer_to, after, Asked, lent, takes_map, map_to, served}
use Rattle.protocol.specs.CutRule.{Kept, MapKept}
use Rattle.protocol.proofs.CutRule.{Answered, refused, cut, done, answered}
use Rattle.protocol.proofs.Below.{either, absurd_bool}
use Rattle.protocol.proofs.Checks.{or_else_none, refuse_none}
use Rattle.protocol.proofs.Maps.{own_map}
use Rattle.protocol.proofs.Upgraded.{map_upgraded}

-- ---- no check but 15 refuses with 15

abbrev Other : ℕ → Type 0
Other r = r ≡ 15 → ⊥

other_else : (r s : ℕ) → Other r → Other s → Other (r or_else s)
unfolding ◌or_else◌
other_else zero s f h e = h e
other_else (suc r) s f h e = f e

other_refuse : (r : ℕ) (b : Bool) → Other r → Other (refuse r b)
unfolding refuse
other_refuse r true f e = omega arith
other_refuse r false f e = f e

module _ (c : List ℕ) where
  other_map_lem : Other (map_refusal c (map_of c))
  other_map_lem e = omega (arith, own_map c)

  other_fit : (low high : ℕ) → Other (fit_refusal low high c)
  unfolding fit_refusal
  other_fit low high = other_else _ _ (other_refuse 1 _ (λ e. omega arith)) (other_refuse 2 _ (λ e. omega arith))

  other_damage : (g : Geometry) → Other (damage_refusal g c)
  unfolding damage_refusal
  other_damage g =
      other_else _ _ (other_refuse 4 _ (λ e. omega arith))
      (other_else _ _ (other_refuse 5 _ (λ e. omega arith)) (other_refuse 6 _ (λ e. omega arith)))

  other_card : (g : Geometry) → Other (card_refusal g c)
  unfolding card_refusal
  other_card g = other_else _ _ (other_damage g) (other_refuse 7 _ (λ e. omega arith))

  other_pair : (d : List ℕ) → Other (pair_refusal 2 c d)
  unfolding pair_refusal disk_refusal
  other_pair d = other_else _ _ (other_fit 2 2) (other_else _ _ (other_refuse 3 _ (λ e. omega arith)) (other_card (geometry_of c)))

  other_block : (b : ℕ) → Other (block_refusal (geometry_of c) b)
  unfolding block_refusal
  other_block b = other_refuse 10 _ (λ e. omega arith)

  other_choice : (ch : List ℕ) → Other (choice_refusal (geometry_of c) ch)
  unfolding choice_refusal
  other_choice ch = other_refuse 17 _ (λ e. omega arith)

  other_save : (ns bs ch : List ℕ) (room : Bool) → Other (save_refusal (geometry_of c) ns bs ch room)
  unfolding save_refusal
  other_save ns bs ch room =
      other_else _ _ (other_refuse 8 _ (λ e. omega arith))
      (other_else _ _ (other_refuse 9 _ (λ e. omega arith))
      (other_else _ _ (other_choice ch)
      (other_else _ _ (other_refuse 10 _ (λ e. omega arith))
      (other_else _ _ (other_refuse 11 _ (λ e. omega arith)) (other_refuse 14 _ (λ e. omega arith))))))

  other_commit : (ns bs ch : List ℕ) → Other (commit_refusal 2 c (map_of c) ns bs ch)
  unfolding commit_refusal
  other_commit ns bs ch =
      other_else _ _ (other_fit 2 2) (other_else _ _ (other_card (geometry_of c)) (other_else _ _ other_map_lem (other_save ns bs ch _)))

  other_table : (t : List ℕ) → Other (table_refusal t)
  unfolding table_refusal
  other_table t = other_refuse 16 _ (λ e. omega arith)

  other_room : (d t ns bs ch : List ℕ) → Other (room_refusal 2 c d (map_of c) t ns bs ch)
  unfolding room_refusal
  other_room d t ns bs ch =
      other_else _ _ (other_pair d) (other_else _ _ other_map_lem (other_else _ _ (other_table t) (other_save ns bs ch _)))

  other_load : (d t : List ℕ) (b : ℕ) (ch : List ℕ) → Other (load_refusal 2 c d (map_of c) t b ch)
  unfolding load_refusal
  other_load d t b ch =
      other_else _ _ (other_pair d)
      (other_else _ _ other_map_lem
      (other_else _ _ (other_table t)
      (other_else _ _ (other_choice ch)
      (other_else _ _ (other_block b) (other_else _ _ (other_refuse 12 _ (λ e. omega arith)) (other_refuse 14 _ (λ e. omega arith)))))))

  other_evict : (d : List ℕ) (b : ℕ) (ch : List ℕ) → Other (evict_refusal 2 c d (map_of c) b ch)
  unfolding evict_refusal
  other_evict d b ch =
      other_else _ _ (other_pair d)
      (other_else _ _ other_map_lem (other_else _ _ (other_choice ch) (other_else _ _ (other_block b) (other_refuse 13 _ (λ e. omega arith)))))

  other_recover : Other (recover_refusal 2 c (map_of c))
  unfolding recover_refusal make_refusal
  other_recover = other_else _ _ (other_else _ _ (other_fit 1 2) (other_damage (geometry_of c))) other_map_lem

  other_put : (r : Pending) (b : ℕ) (bs ch : List ℕ) → Other (put_refusal 2 c (map_of c) r b bs ch)
  unfolding put_refusal
  other_put r b bs ch =
      other_else _ _ (other_fit 2 2)
      (other_else _ _ (other_damage (geometry_of c))
      (other_else _ _ (other_refuse 18 _ (λ e. omega arith))
      (other_else _ _ other_map_lem
      (other_else _ _ (other_refuse 8 _ (λ e. omega arith))
      (other_else _ _ (other_refuse 9 _ (λ e. omega arith))
      (other_else _ _ (other_choice ch)
      (other_else _ _ (other_block b) (other_else _ _ (other_refuse 11 _ (λ e. omega arith)) (other_refuse 14 _ (λ e. omega arith))))))))))

  other_finish : (r : Pending) → Other (finish_refusal 2 c (map_of c) r)
  unfolding finish_refusal
  other_finish r =
      other_else _ _ (other_fit 2 2)
      (other_else _ _ (other_damage (geometry_of c))
      (other_else _ _ (other_refuse 18 _ (λ e. omega arith)) (other_else _ _ other_map_lem (other_refuse 8 _ (λ e. omega arith)))))

  other_open : Other (open_refusal 2 c)
  unfolding open_refusal
  other_open = other_else _ _ (other_fit 2 2) (other_card (geometry_of c))

  other_upgrade : Other (upgrade_refusal c)
  unfolding upgrade_refusal
  other_upgrade = other_else _ _ (other_fit 1 1) (other_card (geometry_of c))

other_call : (q : Call) (m : Media) → Other (work_of 2 q (map_of m.on_card) m).refusal
unfolding work_of commit_work room_work load_work evict_work recover_work upgrade_work open_work put_work finish_work
other_call (commit ns bs ch) m = other_commit m.on_card ns bs ch
other_call (make_room t ns bs ch) m = other_room m.on_card m.on_disk t ns bs ch
other_call (load t b ch) m = other_load m.on_card m.on_disk t b ch
other_call (evict b ch) m = other_evict m.on_card m.on_disk b ch
other_call recover m = other_recover m.on_card
other_call upgrade m = other_upgrade m.on_card
other_call open_save m = other_open m.on_card
other_call (put r b bs ch) m = other_put m.on_card r b bs ch
other_call (finish r) m = other_finish m.on_card r

-- upgrade and open, the calls without a map, leave it
quiet_map : (q : Call) (m : Media) (s : Map) → takes_map q ≡ false → (work_of 2 q s m).refusal ≡ 0
    → map_of (made_on card (flat (work_of 2 q s m).runs) m.on_card) ≡ map_of m.on_card
unfolding takes_map work_of upgrade_work upgrade_refusal card_refusal upgrade_runs open_work single flat made_on
quiet_map (commit ns bs ch) m s e z = absurd_bool refl e
quiet_map (make_room t ns bs ch) m s e z = absurd_bool refl e
quiet_map (load t b ch) m s e z = absurd_bool refl e
quiet_map (evict b ch) m s e z = absurd_bool refl e
quiet_map recover m s e z = absurd_bool refl e
quiet_map upgrade m s e z =
    let (fit, more) = or_else_none (fit_refusal 1 1 m.on_card) _ z in
    map_upgraded m.on_card fit (refuse_none 7 _ (omega arith) (or_else_none (damage_refusal (geometry_of m.on_card) m.on_card) _ more).1)
quiet_map open_save m s e z = refl
quiet_map (put r b bs ch) m s e z = absurd_bool refl e
quiet_map (finish r) m s e z = absurd_bool refl e

-- ---- the station's calls

module _ (q : Asked) (m : Media) (s : Map) (own : s ≡ map_of m.on_card) where
  abbrev work : Work
  work = work_of 2 q.call s m

  never_15 : answer_to (lent s q) m ≡ Refused 15 → ⊥
  unfolding answer_to lent
  never_15 e = go (answered q.allowance work)
    where
      go : Answered q.allowance work → ⊥
      go (refused z x k) =
          let h : work.refusal ≡ 15 = cc in
          other_call q.call m (ap (λ (y : Map). (work_of 2 q.call y m).refusal) (sym own) ∙ h)
      go (cut z l x k) = let y : ◌≡◌ {A = ℕ} 0 1 = cc in omega arith
      go (done z x k) = let y : ◌≡◌ {A = ℕ} 0 1 = cc in omega arith

  -- what the station holds then is the map of the card that is left: the call hands it on, or is one that leaves the map
  still_own : (answer_to (lent s q) m ≡ Cut → ⊥) → map_to (lent s q) m ≡ map_of (after (lent s q) m).on_card
  unfolding answer_to lent map_to map_after after handed_on
  still_own h = ⊎_elim (λ e. rw e (go (answered q.allowance work))) (λ e. rw e (stays (answered q.allowance work) e)) (either (takes_map q.call))
    where
      go : Answered q.allowance work
          → handed_on (answer_of q.allowance work) s (map_of (after_on card q.allowance work m.on_card))
          ≡ map_of (after_on card q.allowance work m.on_card)
      go (refused z x k) =
          ap (λ (a : Answer). handed_on a s (map_of (after_on card q.allowance work m.on_card))) x ∙ own ∙ ap map_of (sym (k card m.on_card))
      go (cut z l x k) = absurd (h x)
      go (done z x k) = ap (λ (a : Answer). handed_on a s (map_of (after_on card q.allowance work m.on_card))) x

      stays : Answered q.allowance work → takes_map q.call ≡ false → s ≡ map_of (after_on card q.allowance work m.on_card)
      stays (refused z x k) e = own ∙ ap map_of (sym (k card m.on_card))
      stays (cut z l x k) e = absurd (h x)
      stays (done z x k) e = own ∙ sym (quiet_map q.call m s e z) ∙ ap map_of (sym (k card m.on_card))

kept : (qs : List Asked) (m : Media) (s : Map) → s ≡ map_of m.on_card → Kept (served qs m s)
unfolding served
kept [] m s e = tt
kept (q ∷ qs) m s e = (never_15 q m s e, λ h. kept qs (after (lent s q) m) (map_to (lent s q) m) (still_own q m s e h))

made_own : (c : List ℕ) (s : Map) → made_map c ≡ Is s → s ≡ map_of c
unfolding made_map
made_own c s e = go (eqb (make_refusal 2 c) 0) e
  where
    go : (b : Bool) → cond b (Is (map_of c)) (RefusedMap (make_refusal 2 c)) ≡ Is s → s ≡ map_of c
    go true h = cc
    go false h = let z : ◌≡◌ {A = ℕ} 0 1 = cc in absurd (omega arith)

pub map_kept : MapKept
map_kept m s qs e = kept qs m s (made_own m.on_card s e)
