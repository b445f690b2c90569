-- What a cut call leaves to recover, on any card that it does not refuse: after a commit of either kind an undoable entry for each of its blocks at
-- most, after a load or an evict a settled card, in a save in parts an undoable entry for each put that was begun at most. Assumes nothing.
use Prim.Native.Nat.{ℕ, ◌+◌, ◌≤◌, ◌<◌}
use mathlib.Core.List.{List, [], ◌∷◌, ◌++◌}
use mathlib.Core.Bool.{true, not}
use mathlib.Core.Path.{◌≡◌, refl, sym, ap, subst, ◌∙◌}
use native.Mathlib.Omega.{arith}
use lib.ListN.{length}
use lib.Dec.{leb}
use borrow.Author.Tests.{eq-eqb, leb-true}
use Rattle.protocol.specs.declared.Answer.{Answer}
use Rattle.protocol.specs.declared.Answer.TheVariants.{Cut}
use Rattle.protocol.specs.declared.Geometry.{Geometry}
use Rattle.protocol.specs.declared.Map.{Map}
use Rattle.protocol.specs.declared.Pending.{Pending}
use Rattle.protocol.specs.Below.{each_below}
use Rattle.protocol.specs.Layout.{between, geometry_of, disk_block}
use Rattle.protocol.specs.Ring.{head_of, cached}
use Rattle.protocol.specs.Check.{refuse, fit_refusal, card_refusal, choice_refusal}
use Rattle.protocol.specs.Store.{card, Store, Run, Work, made_on, flat, made, words, tail_store, answer_of, after_on}
use Rattle.protocol.specs.Search.{free_blocks}
use Rattle.protocol.specs.Map.{map_refusal}
use Rattle.protocol.specs.Commit.{new_block, room_for, block_runs, commit_runs, commit_refusal, commit_work}
use Rattle.protocol.specs.Recency.{table_refusal}
use Rattle.protocol.specs.Load.{pair_refusal, block_refusal, load_runs, load_refusal, load_work, evict_refusal, evict_work}
use Rattle.protocol.specs.Room.{room_runs, room_left, room_work}
use Rattle.protocol.specs.Pending.{open_refusal, open_work, put_runs, put_work, finish_runs, finish_work}
use Rattle.protocol.specs.History.{Call, commit, make_room, load, evict, recover, upgrade, open_save, put, finish, is_put, Request, Media, work_of, answer_to, after, run, answers, Reckoned, reckoned, with_cut}
use Rattle.protocol.specs.Bounded.{Within, BoundedRecovery, request, saves_in_parts, InParts, put_begun, finish_begun, begun_by, begun, BoundedInParts, BoundedResumed}
use Rattle.protocol.proofs.Below.{absurd_bool, and_left, and_right}
use Rattle.protocol.proofs.Blocks.{blocks_along}
use Rattle.protocol.proofs.Bounded.{within}
use Rattle.protocol.proofs.Checks.{limits, or_else_none, refuse_none}
use Rattle.protocol.proofs.Committed.{standing, saving_cut}
use Rattle.protocol.proofs.CutRule.{Answered, refused, cut, done, answered, call_keeps, call_settles}
use Rattle.protocol.proofs.Finished.{switches, switches_along, finish_front}
use Rattle.protocol.proofs.Holds.{geometry_is}
use Rattle.protocol.proofs.Lawful.{intact, intact_fit, inv_intact, held, home, lawful}
use Rattle.protocol.proofs.Left.{whole_card, whole_pair}
use Rattle.protocol.proofs.Loaded.{Rest, settled_block_lem}
use Rattle.protocol.proofs.Made.{words_changed}
use Rattle.protocol.proofs.Onward.{settled_none}
use Rattle.protocol.proofs.Passed.{CommitPassed, commit_passed, room_passed, put_passed, finish_passed}
use Rattle.protocol.proofs.Planned.{new_below, new_free, new_unkept}
use Rattle.protocol.proofs.Reckoned.{Reck, rest_reck, commit_reck, both_match, one}
use Rattle.protocol.proofs.Room.{room_along, room_commits}
use Rattle.protocol.proofs.Steps.{run_in_block}
use Rattle.protocol.proofs.Stores.{Along, along_none, some_made, last_cut}
use Rattle.protocol.proofs.Undoables.{undoables, undoables_same, undoables_settled, undoables_put, recover_stores}
use Rattle.protocol.proofs.Undone.{cut_short, evict_cut}

-- ---- what is left to recover

-- the reckoning holds of the card over some disk, and n entries at most are undoable
record Few (g : Geometry) (n : ℕ) (c : List ℕ) : Type 0 where
  reck : Reckoned
  beside : List ℕ
  holds : Reck g reck c beside
  few : undoables g c ≤ n

few_within : {g : Geometry} (m : Media) (n : ℕ) → Few g n m.on_card → Within (n + 1) m
few_within {g} m n x = within m (n + 1) x.holds.inv (omega (arith, recover_stores g m.on_card, x.few))

rest_within : {g : Geometry} {row : ℕ → List ℕ} {d : List ℕ} (m : Media) → Rest g row m.on_card d → Within 0 m
unfolding flat
rest_within m x =
    let none = ap (λ (rs : List Run). length (flat rs)) (settled_none (intact_fit (inv_intact x.0)) x.1) in within m 0 x.0 (omega (arith, none))

rest_few : {g : Geometry} {row : ℕ → List ℕ} (n : ℕ) (c d : List ℕ) → Rest g row c d → Few g n c
unfolding reckoned
rest_few {g} {row} n c d x =
    record {
      reck = reckoned row;
      beside = d;
      holds = rest_reck x (record { numbers = refl; bytes = refl });
      few = omega (arith, undoables_settled g c x.1);
    }

-- ---- cut commits, loads and evicts

module _ (v : ℕ) (s : Map) (a : ℕ) (m : Media) (known : between 1 2 v ≡ true) where
  abbrev c : List ℕ
  c = m.on_card

  abbrev g : Geometry
  g = geometry_of c

  -- runs that leave the card settled, then a commit's
  after-save : (c d : List ℕ) (row : ℕ → List ℕ) (rs : List Run) (ns bs ch : List ℕ) (x : Along (Rest g row) (Rest g row) rs c d)
      (p : CommitPassed g (made_on card (flat rs) c) ns bs) → a < length (flat (rs ++ commit_runs g (made_on card (flat rs) c) ns bs))
      → Few g (length ns) (made_on card (made a ch (rs ++ commit_runs g (made_on card (flat rs) c) ns bs)) c)
  unfolding reckoned with_cut
  after-save c d row rs ns bs ch x p =
      saving_cut rs ns bs x p (λ c' d'. Few g (length ns) c') (rest_few (length ns))
      (λ c' d' y.
      record {
        reck = with_cut ns bs (reckoned row);
        beside = d';
        holds = commit_reck ns bs (standing rs ns bs x p) p (reckoned row) refl (record { numbers = refl; bytes = refl }) y;
        few = y.few;
      })
      a ch

  few_commit : (ns bs ch : List ℕ) → answer_to (request v (commit ns bs ch) s a) m ≡ Cut → Few g (length ns) (after (request v (commit ns bs ch) s a) m).on_card
  unfolding answer_to after work_of commit_work commit_refusal flat made_on
  few_commit ns bs ch e =
      let (z, l, k) = cut_short a (commit_work v c s ns bs ch) e in
      let (fit, more) = or_else_none (fit_refusal v v c) _ z in
      let (w, settled) = whole_card v known c fit (or_else_none (card_refusal g c) _ more).0 in
      let rest : Rest g (held w settled) c (home w settled) = (lawful w settled, settled) in
      subst (Few g (length ns)) (sym (k c))
      (after-save c (home w settled) (held w settled) [] ns bs ch (along_none c _ rest rest) (commit_passed rest.0 v s ns bs ch z) l)

  few_room : (t ns bs ch : List ℕ) → answer_to (request v (make_room t ns bs ch) s a) m ≡ Cut
      → Few g (length ns) (after (request v (make_room t ns bs ch) s a) m).on_card
  unfolding answer_to after work_of room_work room_left between
  few_room t ns bs ch e =
      let (z, l, k) = cut_short a (room_work v c m.on_disk s t ns bs ch) e in
      let p = room_passed v c m.on_disk s t ns bs ch z in
      let low : 1 ≤ v = leb-true _ _ (and_left (leb 1 v) _ known) in
      let high : v ≤ 2 = leb-true _ _ (and_right (leb 1 v) _ known) in
      let w = intact v v c low high p.fit p.undamaged in
      let y = room_along t ns bs ch (lawful w p.settled) p in
      subst (Few g (length ns)) (sym (k c))
      (after-save c _ _ (room_runs g c t ns) ns bs ch (record { during = y.during; end = y.end.0 }) (room_commits t ns bs ch w p) l)

  -- a load's entry is its last store: cut, it has changed a free data block alone
  after_load : (t : List ℕ) (b : ℕ) (ch : List ℕ) → answer_to (request v (load t b ch) s a) m ≡ Cut → Within 0 (after (request v (load t b ch) s a) m)
  unfolding answer_to after work_of load_work load_refusal load_runs room_for
  after_load t b ch e =
      let (z, l, k) = cut_short a (load_work v c m.on_disk s t b ch) e in
      let (pair, more) = or_else_none (pair_refusal v c m.on_disk) _ z in
      let asked = (or_else_none (table_refusal t) _ (or_else_none (map_refusal c s) _ more).1).1 in
      let own = (or_else_none (block_refusal g b) _ (or_else_none (choice_refusal g ch) _ asked).1).1 in
      let last = (or_else_none (refuse 12 (not (cached g c b))) _ own).1 in
      let room : 1 ≤ length (free_blocks g c) = leb-true _ _ (refuse_none 14 (leb 1 (length (free_blocks g c))) (omega arith) last) in
      let (w, settled) = whole_pair v known c m.on_disk pair in
      let inv = lawful w settled in
      let q = new_block g c 0 in
      let r = words g q (disk_block g m.on_disk b) in
      let ch' = words_changed g (limits g w.good) q _ (new_below inv 0 (omega arith)) (made a ch (r ∷ [])) (some_made a ch r) c in
      let kept = run_in_block q inv ch' (new_free inv 0 (omega arith)) (new_unkept inv 0 (omega arith)) in
      rest_within {row = held w settled} _
      (subst (λ (z : List ℕ). Rest g (held w settled) z (home w settled)) (sym (k c ∙ ap (λ (ss : List Store). made_on card ss c) (last_cut a ch (r ∷ []) _ l)))
      (kept, settled_block_lem q settled ch'))

  -- and so is an evict's, which has changed nothing of the card
  after_evict : (b : ℕ) (ch : List ℕ) → answer_to (request v (evict b ch) s a) m ≡ Cut → Within 0 (after (request v (evict b ch) s a) m)
  unfolding answer_to after work_of evict_work evict_refusal
  after_evict b ch e =
      let (z, l, k) = cut_short a (evict_work v c m.on_disk s b ch) e in
      let (w, settled) = whole_pair v known c m.on_disk (or_else_none (pair_refusal v c m.on_disk) _ z).0 in
      rest_within {row = held w settled} _
      (subst (λ (z : List ℕ). Rest g (held w settled) z (home w settled)) (sym (k c ∙ evict_cut g (limits g w.good) c ch b a c l)) (lawful w settled, settled))

pub bounded_recovery : BoundedRecovery
bounded_recovery v s a m known =
    record {
      commits = λ ns bs ch e. few_within _ (length ns) (few_commit v s a m known ns bs ch e);
      rooms = λ t ns bs ch e. few_within _ (length ns) (few_room v s a m known t ns bs ch e);
      loads = after_load v s a m known;
      evicts = after_evict v s a m known;
    }

-- ---- a save in parts

-- a put that is not refused, cut or done, logs one entry more
put_few : {g : Geometry} {r : Reckoned} {c d : List ℕ} → Reck g r c d → (w : ℕ) (s : Map) (p : Pending) (b : ℕ) (bs ch : List ℕ) (a : ℕ)
    → (put_work w c s p b bs ch).refusal ≡ 0 → undoables g (made_on card (made a ch (put_runs (geometry_of c) c b bs)) c) ≤ undoables g c + 1
unfolding put_work put_runs each_below
put_few {g} {r} {c} x w s p b bs ch a z =
    let q = put_passed g c (geometry_is x.inv) w s p b bs ch z in
    let st = (blocks_along (b ∷ []) bs x.inv (one x p b bs q) 1 (omega arith)).during a ch in
    let few = undoables_put (b ∷ []) bs x.inv (one x p b bs q) st.mid st.order in
    subst (λ (y : Geometry). undoables g (made_on card (made a ch (block_runs y c (b ∷ []) bs 0)) c) ≤ undoables g c + 1) (sym (geometry_is x.inv))
    (omega (arith, few, st.order.a_low))

-- a finish that is cut has switched some roles, which leaves every entry's kind
finish_few : {g : Geometry} {r : Reckoned} {c d : List ℕ} → Reck g r c d → (w : ℕ) (s : Map) (p : Pending) (ch : List ℕ) (a : ℕ)
    → (finish_work w c s p).refusal ≡ 0 → a < length (flat (finish_runs (geometry_of c) c))
    → undoables g (made_on card (made a ch (finish_runs (geometry_of c) c)) c) ≡ undoables g c
unfolding finish_work
finish_few {g} {r} {c} x w s p ch a z =
    let q = (finish_passed g c (geometry_is x.inv) w s p z).1 in
    let matched = both_match x p q in
    let e = finish_front x.inv matched in
    let st = (switches_along x.inv matched).during a ch in
    subst (λ (y : Geometry). a < length (flat (finish_runs y c)) → undoables g (made_on card (made a ch (finish_runs y c)) c) ≡ undoables g c) (sym (geometry_is x.inv))
    (λ l.
    ap (λ (ss : List Store). undoables g (made_on card ss c))
    (ap (made a ch) e ∙ last_cut a ch (switches x.inv matched) (tail_store (head_of c)) (subst (λ (rs : List Run). a < length (flat rs)) e l))
    ∙ undoables_same g c _ st.mid.kinds)

module _ {g : Geometry} {n : ℕ} (m : Media) (x : Few g n m.on_card) (w : ℕ) (s : Map) (a : ℕ) where
  abbrev over : Media
  over = record { on_card = m.on_card; on_disk = x.beside }

  -- such a call does not look at the disk
  disk_apart : (q : Call) → saves_in_parts q ≡ true → work_of w q s over ≡ work_of w q s m
  unfolding work_of saves_in_parts
  disk_apart open_save e = refl
  disk_apart (put p b bs ch) e = refl
  disk_apart (finish p) e = refl
  disk_apart (commit ns bs ch) e = absurd_bool e refl
  disk_apart (make_room t ns bs ch) e = absurd_bool e refl
  disk_apart (load t b ch) e = absurd_bool e refl
  disk_apart (evict b ch) e = absurd_bool e refl
  disk_apart recover e = absurd_bool e refl
  disk_apart upgrade e = absurd_bool e refl

  abbrev leaves : Call → List ℕ
  leaves q = after_on card a (work_of w q s over) m.on_card

  abbrev says : Call → Answer
  says q = answer_of a (work_of w q s over)

  at_most : {y z : List ℕ} {i j : ℕ} → y ≡ z → i ≡ j → undoables g z ≤ j → undoables g y ≤ i
  at_most {y} {z} {i} {j} p q h = subst (λ (k : ℕ). undoables g y ≤ k) (sym q) (subst (λ (c : List ℕ). undoables g c ≤ j) (sym p) h)

  -- what it leaves undoable, by its answer
  open_part : undoables g (leaves open_save) ≤ n
  unfolding work_of open_work flat made_on
  open_part = go (answered a (open_work w m.on_card))
    where
      go : Answered a (open_work w m.on_card) → undoables g (after_on card a (open_work w m.on_card) m.on_card) ≤ n
      go (refused z y k) = at_most (k card m.on_card) refl x.few
      go (cut z l y k) = absurd (omega arith)
      go (done z y k) = at_most (k card m.on_card) refl x.few

  put_part : (p : Pending) (b : ℕ) (bs ch : List ℕ) → undoables g (leaves (put p b bs ch)) ≤ put_begun (says (put p b bs ch)) n
  unfolding work_of put_begun after_on put_work
  put_part p b bs ch = go (answered a work)
    where
      work : Work
      work = put_work w m.on_card s p b bs ch

      says_so : {r : Answer} → answer_of a work ≡ r → put_begun (answer_of a work) n ≡ put_begun r n
      says_so y = ap (λ (r : Answer). put_begun r n) y

      begins : work.refusal ≡ 0 → undoables g (after_on card a work m.on_card) ≤ n + 1
      begins z =
          let made-it : after_on card a work m.on_card ≡ made_on card (made a ch (put_runs (geometry_of m.on_card) m.on_card b bs)) m.on_card =
          rw (eq-eqb _ _ z) in
          at_most made-it refl (omega (arith, put_few x.holds w s p b bs ch a z, x.few))

      go : Answered a work → undoables g (after_on card a work m.on_card) ≤ put_begun (answer_of a work) n
      go (refused z y k) = at_most (k card m.on_card) (says_so y) x.few
      go (cut z l y k) = at_most refl (says_so y) (begins z)
      go (done z y k) = at_most refl (says_so y) (begins z)

  finish_part : (p : Pending) → undoables g (leaves (finish p)) ≤ finish_begun (says (finish p)) n
  unfolding work_of finish_begun is_put finish_work
  finish_part p = go (answered a work)
    where
      work : Work
      work = finish_work w m.on_card s p

      says_so : {r : Answer} → answer_of a work ≡ r → finish_begun (answer_of a work) n ≡ finish_begun r n
      says_so y = ap (λ (r : Answer). finish_begun r n) y

      go : Answered a work → undoables g (after_on card a work m.on_card) ≤ finish_begun (answer_of a work) n
      go (refused z y k) = at_most (k card m.on_card) (says_so y) x.few
      go (cut z l y k) =
          at_most (k card m.on_card) (says_so y) (omega (arith, finish_few x.holds w s p work.choice a z l, x.few))
      go (done z y k) = at_most refl (says_so y) (omega (arith, undoables_settled g _ (call_settles over w s x.holds (finish p) a _ refl y)))

  part_few : (q : Call) → saves_in_parts q ≡ true → undoables g (leaves q) ≤ begun_by q (says q) n
  unfolding saves_in_parts begun_by
  part_few open_save e = open_part
  part_few (put p b bs ch) e = put_part p b bs ch
  part_few (finish p) e = finish_part p
  part_few (commit ns bs ch) e = absurd_bool e refl
  part_few (make_room t ns bs ch) e = absurd_bool e refl
  part_few (load t b ch) e = absurd_bool e refl
  part_few (evict b ch) e = absurd_bool e refl
  part_few recover e = absurd_bool e refl
  part_few upgrade e = absurd_bool e refl

  -- so each such call keeps it
  part_kept : (q : Call) → saves_in_parts q ≡ true → Few g (begun_by q (answer_of a (work_of w q s m)) n) (after_on card a (work_of w q s m) m.on_card)
  part_kept q e =
      subst (λ (k : Work). Few g (begun_by q (answer_of a k) n) (after_on card a k m.on_card)) (disk_apart q e)
      (record { reck = _; beside = _; holds = call_keeps over w s x.holds q a; few = part_few q e })

-- and so do calls, one after the other
parts_kept : {g : Geometry} {n : ℕ} (qs : List Request) (m : Media) → InParts qs → Few g n m.on_card → Few g (begun qs (answers qs m) n) (run qs m).on_card
unfolding begun answers run
parts_kept [] m e x = x
parts_kept {n = n} (q ∷ qs) m e x =
    parts_kept {n = begun_by q.call (answer_to q m) n} qs (after q m) e.1 (unfold answer_to after in part_kept m x q.version q.map q.allowance q.call e.0)

pub bounded_in_parts : BoundedInParts
unfolding open_refusal
bounded_in_parts v m qs known z e =
    let c = m.on_card in
    let (fit, rest) = or_else_none (fit_refusal v v c) _ z in
    let (w, settled) = whole_card v known c fit rest in
    few_within (run qs m) _ (parts_kept qs m e (rest_few 0 c _ (lawful w settled, settled)))

pub bounded_resumed : BoundedResumed
bounded_resumed v s a m qs known e =
    record {
      commits = λ ns bs ch q. few_within _ _ (parts_kept qs _ e (few_commit v s a m known ns bs ch q));
      rooms = λ t ns bs ch q. few_within _ _ (parts_kept qs _ e (few_room v s a m known t ns bs ch q));
    }
