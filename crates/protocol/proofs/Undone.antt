-- A commit of version 2 that is cut, and the recoveries after it up to one that answers done, leave the entries that were there before. All along the
-- card is lawful over some row and some disk, and each entry, undone, is as the first card's, undone; on a settled card an undone entry is the entry.
-- A room-making commit that is cut has finished some evictions; the card that these left is the first one then. Assumes nothing.
use Prim.Native.Nat.{ℕ, zero, suc, ◌+◌, ◌-◌, ◌≤◌, ◌<◌}
use mathlib.Core.List.{List, [], ◌∷◌, ◌++◌}
use mathlib.Core.Bool.{Bool, true, false, cond}
use mathlib.Core.Path.{◌≡◌, refl, sym, ap, subst, ◌∙◌}
use mathlib.Core.Logic.{⊎_elim}
use native.Mathlib.Omega.{arith}
use lib.ListN.{length, length-append}
use lib.Dec.{leb}
use borrow.Author.Tests.{eqb-true, le-leb, lt-leb}
use Rattle.protocol.specs.declared.Answer.TheVariants.{Done, Cut}
use Rattle.protocol.specs.declared.Geometry.{Geometry}
use Rattle.protocol.specs.declared.Map.{Map}
use Rattle.protocol.specs.Below.{count_below, each_below}
use Rattle.protocol.specs.Layout.{geometry_of, version_of, block_at}
use Rattle.protocol.specs.Entry.{unused, entry_at, is_modified}
use Rattle.protocol.specs.Ring.{used_at, is_settled, find_entry, current_of}
use Rattle.protocol.specs.Check.{fit_refusal, card_refusal}
use Rattle.protocol.specs.Store.{card, Store, Run, Work, made_on, flat, made, single, sectors, entry_store, answer_of, after_on}
use Rattle.protocol.specs.Map.{map_of}
use Rattle.protocol.specs.Commit.{commit_runs, commit_refusal, commit_work}
use Rattle.protocol.specs.Load.{write_back, evict_runs}
use Rattle.protocol.specs.Room.{missing, victims, victim_number, evictions, room_runs, room_left, room_refusal, room_work}
use Rattle.protocol.specs.Recover.{recover_runs, recover_work}
use Rattle.protocol.specs.History.{Call, commit, make_room, recover, Request, Media, work_of, answer_to, after, run}
use Rattle.protocol.specs.Undone.{AsBefore, Restored, Recoveries, today, CommitUndone, finished_evictions, evicted_card, RoomUndone}
use Rattle.protocol.proofs.Below.{absurd_bool, either, below_or_above, count_le}
use Rattle.protocol.proofs.Checks.{Limits, limits, or_else_none}
use Rattle.protocol.proofs.Committed.{front, commit_front, commit_cut}
use Rattle.protocol.proofs.CutRule.{Answered, refused, cut, done, answered, done_passed}
use Rattle.protocol.proofs.Holds.{idle_kind, live_kind, settled_undoable, header_version, fit_header, between_one, geometry_is}
use Rattle.protocol.proofs.Invariant.{undone_kind}
use Rattle.protocol.proofs.Lawful.{Intact, inv_intact, entry_found_lem, lawful}
use Rattle.protocol.proofs.Left.{card_intact}
use Rattle.protocol.proofs.Loaded.{cached_entry}
use Rattle.protocol.proofs.Made.{sectors_elsewhere}
use Rattle.protocol.proofs.Passed.{commit_passed}
use Rattle.protocol.proofs.Recovered.{Kept, recovery}
use Rattle.protocol.proofs.Room.{Evicted, evicted, room_enough, has_passed, whole, room_geometry, room_commit}
use Rattle.protocol.proofs.Shape.{kind_at, Back}
use Rattle.protocol.proofs.Stores.{made_append, flat_append, last_cut, runs_past, runs_within, runs_covered}
use Rattle.protocol.proofs.Stores.{some_made, Along, both}

-- ---- two settled cards whose entries are the same once undone

-- an entry that stands on one stands on the other, since undoing leaves a settled card's entries
stands : (g : Geometry) (c c' : List ℕ) → is_settled g c ≡ true → is_settled g c' ≡ true → Back g (λ i. undone_kind (kind_at g c i)) c'
    → (i : ℕ) → i < g.blocks → used_at g c i ≡ true → AsBefore g c c' i
stands g c c' s s' back i l u =
    let k = back i l ∙ ap undone_kind (live_kind g c i u (settled_undoable g c s i l)) in
    ⊎_elim
    (λ u'.
    let k' = ap undone_kind (live_kind g c' i u' (settled_undoable g c' s' i l)) in
    record { used = u'; number = cc; current = cc; modified = cc })
    (λ u'. let k' = ap undone_kind (idle_kind g c' i u') in let z : ◌≡◌ {A = ℕ} 0 1 = cc in absurd (omega arith))
    (either (used_at g c' i))

-- so a block is found where it was, and an evict of one that was clean has no sectors to write
restored : {g : Geometry} {c c' : List ℕ} → is_settled g c ≡ true → is_settled g c' ≡ true → Back g (λ i. undone_kind (kind_at g c i)) c' → Intact g c'
    → Restored g c c'
unfolding evict_runs write_back
restored {g} {c} {c'} s s' back w =
    record {
      entries = stands g c c' s s' back;
      no_others = λ i l u.
          ⊎_elim (λ u'. absurd_bool (stands g c' c s' s (λ j h. sym (back j h)) i l u').used u) (λ u'. u') (either (used_at g c' i));
      evicts = λ b h n.
          let at = cached_entry g c b h in
          let x = stands g c c' s s' back _ at.below at.used in
          let found = entry_found_lem w (find_entry g c b) b at.below x.used (x.number ∙ at.number) in
          let clean = ap (λ (i : ℕ). is_modified (entry_at g c' i)) found ∙ x.modified ∙ n in
          λ t. cond (clean t) (sectors g b (block_at g c' (current_of g c' b)) ∷ []) [] ++ single (entry_store g (found t) unused);
    }

-- ---- recoveries

-- c' is lawful, and each of its entries, undone, is as that of c, undone
record Backed (g : Geometry) (c c' : List ℕ) : Type 0 where
  row : ℕ → List ℕ
  home : List ℕ
  kept : Kept g row c c' home

-- a settled card that passes its checks is, by itself
backed_self : {g : Geometry} {c : List ℕ} → Intact g c → is_settled g c ≡ true → Backed g c c
backed_self w s = record { row = _; home = _; kept = (lawful w s, λ i l. refl) }

module _ {g : Geometry} {c₀ c : List ℕ} (x : Backed g c₀ c) (a v : ℕ) (s : Map) where
  -- what keeps c's entries, once undone, keeps the first card's
  onward : {c' d' : List ℕ} → Kept g x.row c c' d' → Backed g c₀ c'
  onward {c'} {d'} y = record { row = x.row; home = d'; kept = (y.0, λ i l. y.1 i l ∙ x.kept.1 i l) }

  -- all along recovery, whose runs are of the card's geometry; at its end the card is settled
  along : Along (Kept g x.row c) (λ c' d'. Kept g x.row c c' d' × (is_settled g c' ≡ true)) (recover_runs (geometry_of c) c) c x.home
  along =
      subst
      (λ (y : Geometry). Along (Kept g x.row c) (λ c' d'. Kept g x.row c c' d' × (is_settled g c' ≡ true)) (recover_runs y c) c x.home)
      (sym (geometry_is x.kept.0)) (recovery x.kept.0)

  -- a recovery keeps it, whatever its answer
  recovering : Backed g c₀ (after_on card a (recover_work v c s) c)
  unfolding recover_work
  recovering = go (answered a (recover_work v c s))
    where
      go : Answered a (recover_work v c s) → Backed g c₀ (after_on card a (recover_work v c s) c)
      go (refused z e k) = subst (Backed g c₀) (sym (k card c)) x
      go (cut z l e k) = subst (Backed g c₀) (sym (k card c)) (onward (along.during a []))
      go (done z e k) = subst (Backed g c₀) (sym (k card c)) (onward along.end.0)

  -- and settles the card where it answers done
  settling : (n : ℕ) → answer_of a (recover_work v c s) ≡ Done n → is_settled g (after_on card a (recover_work v c s) c) ≡ true
  unfolding recover_work
  settling n e = ap (is_settled g) ((done_passed a n (recover_work v c s) e).1 card c) ∙ along.end.1

-- a request to recover has recovery's work
pub recovery_work : (r : Request) (m : Media) → r.call ≡ recover → work_of r.version r.call r.map m ≡ recover_work r.version m.on_card r.map
unfolding work_of
recovery_work r m q = ap (λ (y : Call). work_of r.version y r.map m) q

module _ {g : Geometry} {c : List ℕ} where
  -- so do recoveries, one after the other
  recoveries : (rs : List Request) (m : Media) → Recoveries rs → Backed g c m.on_card → Backed g c (run rs m).on_card
  unfolding run after
  recoveries [] m q x = x
  recoveries (r ∷ rs) m q x =
      recoveries rs (after r m) q.1
      (subst (λ (w : Work). Backed g c (after_on card r.allowance w m.on_card)) (sym (recovery_work r m q.0))
      (recovering x r.allowance r.version r.map))

  -- and the last of them, which answers done, leaves a settled card, whose entries are what they are undone
  recovered : (rs : List Request) (r : Request) (m : Media) (n : ℕ) → is_settled g c ≡ true → Backed g c m.on_card → Recoveries rs → r.call ≡ recover
      → answer_to r (run rs m) ≡ Done n → Restored g c (after r (run rs m)).on_card
  unfolding answer_to after
  recovered rs r m n s x q e d =
      let m' = run rs m in
      let same = recovery_work r m' e in
      let before = recoveries rs m q x in
      let (v, back) = (recovering before r.allowance r.version r.map).kept in
      subst (λ (w : Work). Restored g c (after_on card r.allowance w m'.on_card)) (sym same)
      (restored s (settling before r.allowance r.version r.map n (sym (ap (answer_of r.allowance) same) ∙ d)) back (inv_intact v))

-- ---- a cut commit

-- a call that is cut is not refused, has stores left, and has made the others
abbrev pub CutShort : ℕ → Work → Type 0
CutShort a w = (w.refusal ≡ 0) × (a < length (flat w.runs)) × ((xs : List ℕ) → after_on card a w xs ≡ made_on card (made a w.choice w.runs) xs)

pub cut_short : (a : ℕ) (w : Work) → answer_of a w ≡ Cut → CutShort a w
cut_short a w e = go (answered a w)
  where
    go : Answered a w → CutShort a w
    go (refused z x k) = let y : ◌≡◌ {A = ℕ} 0 1 = cc in absurd (omega arith)
    go (cut z l x k) = (z, l, k card)
    go (done z x k) = let y : ◌≡◌ {A = ℕ} 0 1 = cc in absurd (omega arith)

-- a commit that is not refused, cut anywhere
module _ (c : List ℕ) (s : Map) (ns bs ch : List ℕ) (z : commit_refusal 2 c s ns bs ch ≡ 0) where
  -- its checks say that the card is whole, settled and of version 2
  sound : Intact (geometry_of c) c × (is_settled (geometry_of c) c ≡ true) × (version_of c ≡ 2)
  unfolding commit_refusal
  sound =
      let (fit, more) = or_else_none (fit_refusal 2 2 c) _ z in
      let (w, settled) = card_intact c fit (or_else_none (card_refusal (geometry_of c) c) _ more).0 in
      (w, settled, eqb-true _ _ (sym (between_one 2 (version_of c)) ∙ header_version c 2 2 (fit_header c 2 2 fit)))

  -- Tail's store is not made, so each entry, undone, is as it was
  commit_backed : (a : ℕ) → a < length (flat (commit_runs (geometry_of c) c ns bs))
      → Backed (geometry_of c) c (made_on card (made a ch (commit_runs (geometry_of c) c ns bs)) c)
  commit_backed a l =
      let (w, settled, two) = sound in
      let v = lawful w settled in
      let p = commit_passed v 2 s ns bs ch z in
      let x = (commit_cut ns bs v p).during a ch in
      let e = commit_front ns bs v p in
      let short = subst (λ (rs : List Run). a < length (flat rs)) e l in
      subst (λ (ss : List Store). Backed (geometry_of c) c (made_on card ss c)) (sym (ap (made a ch) e ∙ last_cut a ch (front ns bs v p) _ short))
      (record { row = _; home = _; kept = (x.inv, x.back two) })

pub commit_undone : CommitUndone
unfolding answer_to after work_of commit_work
commit_undone m s ns bs ch a rs r n e q d f =
    let c = m.on_card in
    let (z, l, k) = cut_short a (commit_work 2 c s ns bs ch) e in
    recovered rs r (after (today (commit ns bs ch) s a) m) n (sound c s ns bs ch z).1
    (subst (Backed (geometry_of c) c) (sym (k c)) (commit_backed c s ns bs ch z a l)) q d f

-- ---- a cut room-making commit

-- an eviction that is cut leaves the card: its sectors are on the disk, and its entry, the last, is not stored
pub evict_cut : (g : Geometry) (fit : Limits g) (c ch : List ℕ) (b a : ℕ) (xs : List ℕ) → a < length (flat (evict_runs g c b))
    → made_on card (made a ch (evict_runs g c b)) xs ≡ xs
unfolding evict_runs write_back made made_on
evict_cut g fit c ch b a xs l =
    ap (λ (ss : List Store). made_on card ss xs) (last_cut a ch (write_back g c b) (entry_store g (find_entry g c b) unused) l)
    ∙ go (is_modified (entry_at g c (find_entry g c b)))
  where
    go : (t : Bool) → made_on card (made a ch (cond t (sectors g b (block_at g c (current_of g c b)) ∷ []) [])) xs ≡ xs
    go true = let r = sectors g b (block_at g c (current_of g c b)) in sectors_elsewhere g fit b _ (made a ch (r ∷ [])) (some_made a ch r) xs
    go false = refl

-- turns of runs under an allowance
module _ (f : ℕ → List Run) (a : ℕ) where
  abbrev stores : ℕ → ℕ
  stores n = length (flat (each_below f n))

  -- how many of the first n turns are finished
  abbrev finished : ℕ → ℕ
  finished n = count_below (λ k. leb (stores (suc k)) a) n

  -- the stores add up
  stores_next : (n : ℕ) → stores (suc n) ≡ stores n + length (flat (f n))
  unfolding each_below
  stores_next n = ap length (flat_append (each_below f n) (f n)) ∙ length-append (flat (each_below f n)) (flat (f n))

  -- all of them, where the allowance covers all their stores
  all_finished : (n : ℕ) → stores n ≤ a → finished n ≡ n
  unfolding count_below
  all_finished zero l = refl
  all_finished (suc n) l = rw (le-leb (stores (suc n)) a l) (ap suc (all_finished n (omega (arith, stores_next n))))

  -- a turn that is cut is not counted
  next_cut : (n : ℕ) → a < stores (suc n) → finished (suc n) ≡ finished n
  unfolding count_below
  next_cut n l = rw (lt-leb (stores (suc n)) a l)

  -- where each turn leaves the card if it is cut, what is made of the turns leaves it as the finished ones do
  module _ (ch c : List ℕ) (quiet : (i k : ℕ) (xs : List ℕ) → k < length (flat (f i)) → made_on card (made k ch (f i)) xs ≡ xs) where
    abbrev on : List Store → List ℕ
    on ss = made_on card ss c

    made_finished : (n : ℕ) → on (made a ch (each_below f n)) ≡ on (flat (each_below f (finished n)))
    unfolding each_below count_below made flat
    made_finished zero = refl
    made_finished (suc n) =
        let up_to : ℕ → List ℕ = λ k. on (flat (each_below f k)) in
        ⊎_elim
        (λ l.
        ⊎_elim
        (λ h. ap on (runs_within a ch (each_below f n) (f n) h) ∙ made_finished n ∙ ap up_to (sym (next_cut n l)))
        (λ h.
        ap on (runs_past a ch (each_below f n) (f n) h)
        ∙ made_append card (flat (each_below f n)) (made (a - stores n) ch (f n)) c
        ∙ quiet n (a - stores n) _ (omega (arith, stores_next n))
        ∙ ap up_to (sym (next_cut n l ∙ all_finished n h)))
        (below_or_above a (stores n)))
        (λ h. ap on (runs_covered a ch (each_below f (suc n)) h) ∙ ap up_to (sym (all_finished (suc n) h)))
        (below_or_above a (stores (suc n)))

-- a room-making commit that is not refused, cut anywhere
module _ (c d : List ℕ) (s : Map) (t ns bs ch : List ℕ) (a : ℕ) (z : room_refusal 2 c d s t ns bs ch ≡ 0) where
  abbrev g : Geometry
  g = geometry_of c

  -- the finished evictions leave a settled card
  left : Evicted g c t ns (finished_evictions g c t ns a) (evicted_card g c t ns a)
  unfolding finished_evictions evicted_card
  left =
      let w = whole c d s t ns bs ch z in
      let p = has_passed c d s t ns bs ch z in
      let few : finished_evictions g c t ns a ≤ length (victims g c t ns) =
      omega (arith, count_le (λ k. leb (length (flat (evictions g c t ns (suc k)))) a) (missing g c ns), room_enough t ns bs ch w p) in
      evicted t ns w p.settled p.arranged _ few

  -- cut in an eviction, it leaves that card; cut later, what its commit leaves of that card
  room_backed : a < length (flat (room_runs g c t ns ++ commit_runs g (room_left g c t ns) ns bs))
      → Backed g (evicted_card g c t ns a) (made_on card (made a ch (room_runs g c t ns ++ commit_runs g (room_left g c t ns) ns bs)) c)
  unfolding finished_evictions evicted_card evictions room_runs room_left
  room_backed l =
      let f : ℕ → List Run = λ k. evict_runs g c (victim_number g c t ns k) in
      let fit = limits g (whole c d s t ns bs ch z).good in
      let rs = room_runs g c t ns in
      let c' = room_left g c t ns in
      let cs = commit_runs g c' ns bs in
      ⊎_elim
      (λ h.
      subst (Backed g (evicted_card g c t ns a))
      (sym (ap (λ (ss : List Store). made_on card ss c) (runs_within a ch rs cs h)
      ∙ made_finished f a ch c (λ i. evict_cut g fit c ch (victim_number g c t ns i)) (missing g c ns)))
      (backed_self left.intact left.settled))
      (λ h.
      let less : a - length (flat rs) < length (flat cs) = omega (arith, ap length (flat_append rs cs), length-append (flat rs) (flat cs)) in
      both (Backed g)
      (ap (λ (k : ℕ). made_on card (flat (each_below f k)) c) (sym (all_finished f a (missing g c ns) h)))
      (sym (ap (λ (ss : List Store). made_on card ss c) (runs_past a ch rs cs h) ∙ made_append card (flat rs) (made (a - length (flat rs)) ch cs) c))
      (subst
      (λ (y : Geometry). (k : ℕ) → k < length (flat (commit_runs y c' ns bs)) → Backed y c' (made_on card (made k ch (commit_runs y c' ns bs)) c'))
      (room_geometry c d s t ns bs ch z)
      (commit_backed c' (map_of c') ns bs ch (room_commit c d s t ns bs ch z))
      (a - length (flat rs)) less))
      (below_or_above a (length (flat rs)))

pub room_undone : RoomUndone
unfolding answer_to after work_of room_work
room_undone m s t ns bs ch a rs r n e q h f =
    let c = m.on_card in
    let d = m.on_disk in
    let (z, l, k) = cut_short a (room_work 2 c d s t ns bs ch) e in
    recovered rs r (after (today (make_room t ns bs ch) s a) m) n (left c d s t ns bs ch a z).settled
    (subst (Backed (geometry_of c) (evicted_card (geometry_of c) c t ns a)) (sym (k c)) (room_backed c d s t ns bs ch a z l)) q h f
