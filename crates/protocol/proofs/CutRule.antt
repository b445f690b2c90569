-- The cut rule and the plain row: by induction over the list of calls, from a formatted card, with the invariant at every call; and that a
-- room-making commit keeps the blocks outside its transaction. Assumes nothing.
use Prim.Native.Nat.{ℕ, ◌<◌}
use mathlib.Core.List.{List, [], ◌∷◌, ◌++◌}
use mathlib.Core.Bool.{Bool, true, false, cond}
use mathlib.Core.Option.{Option, none, some}
use mathlib.Core.Path.{◌≡◌, refl, sym, ap, subst, ◌∙◌}
use mathlib.Core.Logic.{◌⊎◌, inl, inr}
use native.Mathlib.Omega.{arith}
use lib.ListN.{length}
use lib.Dec.{eqb, ltb}
use borrow.Author.Tests.{eqb-true, eqb-false, eq-eqb, ltb-true, ltb-false}
use Rattle.numbers.specs.Bytes.{be_from, be, part, number_at}
use Rattle.protocol.specs.declared.Answer.{Answer}
use Rattle.protocol.specs.declared.Answer.TheVariants.{Done, Cut, Refused}
use Rattle.protocol.specs.declared.Outcome.TheVariants.{Done as FormatDone, Refused as FormatRefused}
use Rattle.protocol.specs.declared.Geometry.{Geometry}
use Rattle.protocol.specs.declared.Map.{Map}
use Rattle.protocol.specs.Layout.{between, good_geometry, geometry_of, version_of, card_length, disk_length, block_at, disk_block, entry_place}
use Rattle.protocol.specs.Entry.{unused, entry_in, entry_at, in_use, has_log_role, good_entry}
use Rattle.protocol.specs.Ring.{head_of, tail_of, window_length, window_of, used_at, is_settled, cached, current_of, contents}
use Rattle.protocol.specs.Check.{refuse, card_fits}
use Rattle.protocol.specs.Store.{Medium, card, disk, Store, Run, Work, made_on, flat, made, stores_of, answer_of, after_on}
use Rattle.protocol.specs.Format.{outcome_of, format_refusal, formatted, after_format}
use Rattle.protocol.specs.Commit.{commit_runs, commit_work}
use Rattle.protocol.specs.Load.{load_runs, load_work, evict_runs, evict_work}
use Rattle.protocol.specs.Room.{is_among, victims, missing, victim_number, room_runs, room_left, room_refusal, room_work}
use Rattle.protocol.specs.Recover.{recover_runs, recover_work}
use Rattle.protocol.specs.Upgrade.{upgrade_runs, upgrade_refusal, upgrade_work}
use Rattle.protocol.specs.Pending.{open_work, put_runs, put_work, finish_runs, finish_work}
use Rattle.protocol.specs.History.{Call, commit, make_room, load, evict, recover, upgrade, open_save, put, finish, is_put, Request, Media, work_of, answer_to, after, run, answers, fresh, Row, replaced, Reckoned, reckoned, with_row, with_cut, reckon, reckon_all}
use Rattle.protocol.specs.CutRule.{left, row_left, recovering, CutRule, PairRule, Uncut, Unput, PlainRow, making_room, RoomKept, RoomKeeps}
use Rattle.protocol.proofs.Allowed.{unused_good, unused-used, unused_role}
use Rattle.protocol.proofs.Below.{either, absurd_bool, any_at}
use Rattle.protocol.proofs.Checks.{Limits, limits}
use Rattle.protocol.proofs.Codec.{entry_of-part, good_header_lem, geometry_of_header, header_formatted, length-formatted, zero-formatted}
use Rattle.protocol.proofs.Blocks.{row_kept}
use Rattle.protocol.proofs.Committed.{saving, standing, saving_cut, saving_done}
use Rattle.protocol.proofs.Holds.{version_known, upgrade_refuses, pair_refuses, geometry_is, recover_refuses, map_made, contents_hold, read_holds, look_holds, read_refuses_lem, look_refuses_lem, recent_holds, recent_refuses_lem, idle_kind}
use Rattle.protocol.proofs.Invariant.{Kind, idle, kind_number, kind_current, kind_previous}
use Rattle.protocol.proofs.Lawful.{inv_intact, number_below_lem}
use Rattle.protocol.proofs.Loaded.{Rest, eviction, loading}
use Rattle.protocol.proofs.Passed.{open_passed, put_passed, finish_passed, first_zero, second_zero, passed, CommitPassed, RoomPassed, room_passed, evict_passed, load_passed, commit_passed}
use Rattle.protocol.proofs.Reckoned.{Reck, NoPuts, no_puts, rest_reck, commit_reck, recover_cut, recover_done, finish_cut, finish_reck, finish_settles, put_cut, put_reck}
use Rattle.protocol.proofs.Recovered.{recovery, settled_by}
use Rattle.protocol.proofs.Room.{victim_below, victim_outside, room_enough, room_commits, room_along, victim_gone}
use Rattle.protocol.proofs.Shape.{kind_at, Shape, Inv, window_empty}
use Rattle.protocol.proofs.Upgraded.{upgrading}
use Rattle.protocol.proofs.Stores.{made_runs, runs_covered, Along, both, along_none}

-- ---- what a call leaves, by its answer

pub data Answered (a : ℕ) (w : Work) : Type 0 where
  refused : (w.refusal ≡ 0 → ⊥) → answer_of a w ≡ Refused w.refusal → ((m : Medium) (xs : List ℕ) → after_on m a w xs ≡ xs) → Answered a w
  cut : w.refusal ≡ 0 → a < length (flat w.runs) → answer_of a w ≡ Cut
      → ((m : Medium) (xs : List ℕ) → after_on m a w xs ≡ made_on m (made a w.choice w.runs) xs) → Answered a w
  done : w.refusal ≡ 0 → answer_of a w ≡ Done (length (flat w.runs))
      → ((m : Medium) (xs : List ℕ) → after_on m a w xs ≡ made_on m (flat w.runs) xs) → Answered a w

pub answered : (a : ℕ) (w : Work) → Answered a w
unfolding answer_of after_on stores_of
answered a w = go (either (eqb w.refusal 0)) (either (ltb a (length (flat w.runs))))
  where
    go : (eqb w.refusal 0 ≡ true) ⊎ (eqb w.refusal 0 ≡ false)
        → (ltb a (length (flat w.runs)) ≡ true) ⊎ (ltb a (length (flat w.runs)) ≡ false) → Answered a w
    go (inr r) s = refused (eqb-false _ _ r) (rw r) (λ m xs. rw r)
    go (inl r) (inl s) = cut (eqb-true _ _ r) (ltb-true _ _ s) (rw (r, s)) (λ m xs. rw r)
    go (inl r) (inr s) =
        done (eqb-true _ _ r) (rw (r, s)) (λ m xs. rw r (ap (λ (ss : List Store). made_on m ss xs) (runs_covered a w.choice w.runs (ltb-false _ _ s))))

-- what the media are after a call of w
abbrev pub Left : (List ℕ → List ℕ → Type 0) → ℕ → Work → Media → Type 0
Left P a w m = P (after_on card a w m.on_card) (after_on disk a w m.on_disk)

-- ---- the calls

-- a commit's runs behind runs that leave the card settled: cut before Tail's store they leave the row and a pending save of the first blocks
save_cut : {g : Geometry} {r : Reckoned} {c d : List ℕ} → NoPuts r → (rs : List Run) (ns bs : List ℕ) (x : Along (Rest g r.row) (Rest g r.row) rs c d)
    (p : CommitPassed g (made_on card (flat rs) c) ns bs) (a : ℕ) (ch : List ℕ) → a < length (flat (saving rs ns bs x p))
    → Reck g (with_cut ns bs r) (made_on card (made a ch (saving rs ns bs x p)) c) (made_on disk (made a ch (saving rs ns bs x p)) d)
unfolding with_cut
save_cut {g} {r} n rs ns bs x p =
    saving_cut rs ns bs x p (Reck g (with_cut ns bs r))
    (λ c' d' q. rest_reck q (record { numbers = n.numbers; bytes = n.bytes }))
    (λ c' d' q. commit_reck ns bs (standing rs ns bs x p) p r refl n q)

by_reckoning : {g : Geometry} {r r' : Reckoned} {c d : List ℕ} → r' ≡ r → Reck g r c d → Reck g r' c d
by_reckoning {g} {r} {r'} {c} {d} e x = subst (λ (k : Reckoned). Reck g k c d) (sym e) x

-- upgrade meets a settled card
upgrade_passed : {g : Geometry} {row : Row} {c d : List ℕ} → Inv g row c d → upgrade_refusal c ≡ 0 → is_settled g c ≡ true
upgrade_passed {g} {row} {c} v z = passed 6 _ (second_zero (refuse 1 (eqb (version_of c) 1)) _ (sym (upgrade_refuses v) ∙ z))

module _ {g : Geometry} {r : Reckoned} (m : Media) (w : ℕ) (s : Map) (x : Reck g r m.on_card m.on_disk) where
  abbrev v : Inv g r.row m.on_card m.on_disk
  v = x.inv

  -- what a call's runs do: cut and done they leave what the reckoning says, and done, but for a put, the card settled
  record Does (q : Call) (rs : List Run) : Type 0 where
    cutting : (a : ℕ) (ch : List ℕ) → a < length (flat rs) → Reck g (reckon g q Cut r) (made_on card (made a ch rs) m.on_card) (made_on disk (made a ch rs) m.on_disk)
    finished : (n : ℕ) → Reck g (reckon g q (Done n) r) (made_on card (flat rs) m.on_card) (made_on disk (flat rs) m.on_disk)
    settles : is_put q ≡ false → is_settled g (made_on card (flat rs) m.on_card) ≡ true

  -- the call's geometry is the card's
  own : (q : Call) (rs : Geometry → List Run) → Does q (rs g) → Does q (rs (geometry_of m.on_card))
  own q rs h = subst (λ (y : Geometry). Does q (rs y)) (sym (geometry_is v)) h

  -- runs that leave a settled card settled all along
  rests : (q : Call) (rs : List Run) → ((a : Answer) → reckon g q a r ≡ r) → is_settled g m.on_card ≡ true
      → Along (Rest g r.row) (Rest g r.row) rs m.on_card m.on_disk → Does q rs
  rests q rs same settled y =
      let none = no_puts x settled in
      record {
        cutting = λ a ch l. by_reckoning (same Cut) (rest_reck (y.during a ch) none);
        finished = λ n. by_reckoning (same (Done n)) (rest_reck y.end none);
        settles = λ _. y.end.1;
      }

  -- a commit of either kind
  saves : (q : Call) (rs : List Run) (ns bs : List ℕ) → ((n : ℕ) → reckon g q (Done n) r ≡ with_row (replaced g ns bs r.row) r) → reckon g q Cut r ≡ with_cut ns bs r
      → is_settled g m.on_card ≡ true → Along (Rest g r.row) (Rest g r.row) rs m.on_card m.on_disk
      → CommitPassed g (made_on card (flat rs) m.on_card) ns bs → Does q (rs ++ commit_runs g (made_on card (flat rs) m.on_card) ns bs)
  unfolding with_row
  saves q rs ns bs done' cut' settled y p =
      let none = no_puts x settled in
      record {
        cutting = λ a ch l. by_reckoning cut' (save_cut none rs ns bs y p a ch l);
        finished = λ n.
            by_reckoning (done' n)
            (rest_reck (saving_done rs ns bs y p) (record { numbers = none.numbers; bytes = none.bytes }));
        settles = λ _. (saving_done rs ns bs y p).1;
      }

  call_does : (q : Call) → (work_of w q s m).refusal ≡ 0 → Does q (work_of w q s m).runs
  unfolding work_of reckon is_put commit_work room_work load_work evict_work recover_work upgrade_work open_work put_work finish_work flat made_on room_left
  call_does (commit ns bs ch) z =
      let p = commit_passed v w s ns bs ch z in
      own (commit ns bs ch) (λ y. commit_runs y m.on_card ns bs)
      (saves (commit ns bs ch) [] ns bs (λ n. refl) refl p.settled (along_none m.on_card m.on_disk (v, p.settled) (v, p.settled)) p)
  call_does (make_room t ns bs ch) z =
      let p = subst (λ (y : Geometry). RoomPassed w y m.on_card t ns bs ch) (geometry_is v) (room_passed w m.on_card m.on_disk s t ns bs ch z) in
      let y = room_along t ns bs ch v p in
      own (make_room t ns bs ch) (λ y. room_runs y m.on_card t ns ++ commit_runs y (room_left y m.on_card t ns) ns bs)
      (saves (make_room t ns bs ch) (room_runs g m.on_card t ns) ns bs (λ n. refl) refl p.settled (record { during = y.during; end = y.end.0 })
      (room_commits t ns bs ch (inv_intact v) p))
  call_does (load t b ch) z =
      let p = load_passed v w s t b ch z in
      own (load t b ch) (λ y. load_runs y m.on_card m.on_disk b) (rests (load t b ch) _ (λ a. refl) p.settled (loading v b p))
  call_does (evict b ch) z =
      let p = evict_passed v w s b ch z in
      own (evict b ch) (λ y. evict_runs y m.on_card b) (rests (evict b ch) _ (λ a. refl) p.settled (eviction v b p))
  call_does recover z =
      own recover (λ y. recover_runs y m.on_card)
      (record { cutting = recover_cut x; finished = λ n. recover_done x; settles = λ _. (recovery v).end.1 })
  call_does upgrade z =
      let settled = upgrade_passed v z in
      own upgrade upgrade_runs (rests upgrade _ (λ a. refl) settled (upgrading v settled))
  call_does open_save z =
      let settled = open_passed v w z in
      rests open_save [] (λ a. refl) settled (along_none m.on_card m.on_disk (v, settled) (v, settled))
  call_does (put p b bs ch) z =
      let q = put_passed g m.on_card (geometry_is v) w s p b bs ch z in
      own (put p b bs ch) (λ y. put_runs y m.on_card b bs)
      (record { cutting = put_cut x p b bs q; finished = λ n. put_reck x p b bs q; settles = λ e. absurd_bool refl e })
  call_does (finish p) z =
      let q = (finish_passed g m.on_card (geometry_is v) w s p z).1 in
      own (finish p) (λ y. finish_runs y m.on_card)
      (record { cutting = finish_cut x p q; finished = λ n. finish_reck x p q; settles = λ _. finish_settles x p q })

  -- a call that is refused leaves the reckoning
  reckon_refused : (q : Call) (k : ℕ) → reckon g q (Refused k) r ≡ r
  unfolding reckon
  reckon_refused (commit ns bs ch) k = refl
  reckon_refused (make_room t ns bs ch) k = refl
  reckon_refused (load t b ch) k = refl
  reckon_refused (evict b ch) k = refl
  reckon_refused recover k = refl
  reckon_refused upgrade k = refl
  reckon_refused open_save k = refl
  reckon_refused (put p b bs ch) k = refl
  reckon_refused (finish p) k = refl

  -- every call keeps the reckoning, by its answer
  pub call_keeps : (q : Call) (a : ℕ) → Left (Reck g (reckon g q (answer_of a (work_of w q s m)) r)) a (work_of w q s m) m
  call_keeps q a = go (answered a k₀)
    where
      k₀ : Work
      k₀ = work_of w q s m

      to : {c d : List ℕ} (r' : Reckoned) → reckon g q (answer_of a k₀) r ≡ r' → after_on card a k₀ m.on_card ≡ c → after_on disk a k₀ m.on_disk ≡ d
          → Reck g r' c d → Left (Reck g (reckon g q (answer_of a k₀) r)) a k₀ m
      to r' e p q h = subst (λ (y : Reckoned). Left (Reck g y) a k₀ m) (sym e) (both (Reck g r') (sym p) (sym q) h)

      go : Answered a k₀ → Left (Reck g (reckon g q (answer_of a k₀) r)) a k₀ m
      go (refused z e k) = to r (ap (λ (y : Answer). reckon g q y r) e ∙ reckon_refused q _) (k card m.on_card) (k disk m.on_disk) x
      go (cut z l e k) =
          to _ (ap (λ (y : Answer). reckon g q y r) e) (k card m.on_card) (k disk m.on_disk) ((call_does q z).cutting a k₀.choice l)
      go (done z e k) = to _ (ap (λ (y : Answer). reckon g q y r) e) (k card m.on_card) (k disk m.on_disk) ((call_does q z).finished _)

  -- every call but a put that answers done leaves the card settled
  pub call_settles : (q : Call) (a n : ℕ) → is_put q ≡ false → answer_of a (work_of w q s m) ≡ Done n → is_settled g (after_on card a (work_of w q s m) m.on_card) ≡ true
  call_settles q a n f e = go (answered a (work_of w q s m))
    where
      go : Answered a (work_of w q s m) → is_settled g (after_on card a (work_of w q s m) m.on_card) ≡ true
      go (refused z x k) = let y : ◌≡◌ {A = ℕ} 0 1 = cc in absurd (omega arith)
      go (cut z l x k) = let y : ◌≡◌ {A = ℕ} 0 1 = cc in absurd (omega arith)
      go (done z x k) = ap (is_settled g) (k card m.on_card) ∙ (call_does q z).settles f

-- ---- the formatted card

format_passed : (g : Geometry) (c : List ℕ) → outcome_of (format_refusal g c) ≡ FormatDone → format_refusal g c ≡ 0
unfolding outcome_of
format_passed g c e = go (eqb (format_refusal g c) 0) refl e
  where
    go : (b : Bool) → eqb (format_refusal g c) 0 ≡ b → cond b FormatDone (FormatRefused (format_refusal g c)) ≡ FormatDone → format_refusal g c ≡ 0
    go true h q = eqb-true _ _ h
    go false h q = let z : ◌≡◌ {A = ℕ} 0 1 = cc in absurd (omega arith)

module _ (v : ℕ) (g : Geometry) (c d : List ℕ) (known : between 1 2 v ≡ true) (ok : format_refusal g c ≡ 0) (sized : length d ≡ disk_length g) where
  good : good_geometry g ≡ true
  unfolding format_refusal
  good = passed 0 _ (first_zero (refuse 1 (good_geometry g)) (refuse 2 (card_fits g c)) ok)

  whole_card : length c ≡ card_length g
  unfolding format_refusal card_fits
  whole_card = eqb-true _ _ (passed 1 _ (second_zero (refuse 1 (good_geometry g)) (refuse 2 (eqb (length c) (card_length g))) ok))

  head_zero : head_of (formatted v g c) ≡ 0
  unfolding head_of number_at be be_from
  head_zero = ap be (zero-formatted v g c whole_card 64 8 (omega arith) (omega arith))

  tail_zero : tail_of (formatted v g c) ≡ 0
  unfolding tail_of number_at be be_from
  tail_zero = ap be (zero-formatted v g c whole_card 72 8 (omega arith) (omega arith))

  entry_zero : (i : ℕ) → i < g.blocks → entry_at g (formatted v g c) i ≡ unused
  unfolding entry_at entry_in number_at be be_from part entry_place
  entry_zero i l =
      entry_of-part (formatted v g c) (entry_place g i)
      ∙ ap (λ (z : List ℕ). entry_in z 0) (zero-formatted v g c whole_card (entry_place g i) 16 (omega arith) (omega arith))

  never_used : (i : ℕ) → i < g.blocks → used_at g (formatted v g c) i ≡ false
  unfolding used_at
  never_used i l = ap in_use (entry_zero i l) ∙ unused-used

  kind_idle : (i : ℕ) → i < g.blocks → kind_at g (formatted v g c) i ≡ idle
  kind_idle i l = idle_kind g (formatted v g c) i (never_used i l)

  nothing : {A : Type 0} (f : Kind → Option ℕ) (i : ℕ) {x : ℕ} → f idle ≡ none → i < g.blocks
      → f (kind_at g (formatted v g c) i) ≡ some x → A
  nothing f i {x} n l e = let h = ap f (kind_idle i l) in let z : ◌≡◌ {A = ℕ} 0 1 = cc in absurd (omega arith)

  fresh_shape : Shape g (formatted v g c) d
  unfolding window_of
  fresh_shape =
      let f : Limits g = limits g good in
      record {
        good = good;
        headed =
            let h = header_formatted v g c whole_card in
            (good_header_lem v g (formatted v g c) good h 1 2 known, geometry_of_header v g (formatted v g c) good h);
        card_sized = length-formatted v g c ∙ whole_card;
        disk_sized = sized;
        head_below = omega (arith, head_zero);
        tail_below = omega (arith, tail_zero);
        window = λ j l. absurd (omega (arith, no_window));
        entries = λ i l. ap (good_entry _ g.blocks g.disk) (entry_zero i l) ∙ unused_good _ g.blocks g.disk;
      }
    where
      no_window : window_of g (formatted v g c) ≡ 0
      no_window =
          (λ t. window_length g.slots (tail_zero t) (head_zero t)) ∙ window_empty g.slots 0

  fresh_inv : Inv g (disk_block g d) (formatted v g c) d
  fresh_inv =
      record {
        shape = fresh_shape;
        safe = record {
          number_under = λ i x l e. nothing kind_number i refl l e;
          current_under = λ i x l e. nothing kind_current i refl l e;
          previous_under = λ i x l e. nothing kind_previous i refl l e;
          numbers = λ i j x l k e f. nothing kind_number i refl l e;
          currents = λ i j x l k e f. nothing kind_current i refl l e;
          previouses = λ i j x l k e f. nothing kind_previous i refl l e;
          crossed = λ i j x l k e f. nothing kind_previous i refl l e;
          clean = λ i b q l t e f. nothing kind_number i refl l e;
          clean_before = λ i b q l t e f. nothing kind_number i refl l e;
          held = λ i b x l e f. nothing kind_number i refl l e;
          bare = λ b l h. refl;
        };
      }

  fresh_settled : is_settled g (formatted v g c) ≡ true
  fresh_settled = settled_by g (formatted v g c) (head_zero ∙ sym tail_zero) (λ i l. ap has_log_role (entry_zero i l) ∙ unused_role)

  -- the media before the first call
  start_rest : Rest g (disk_block g d) (fresh v g c d).on_card (fresh v g c d).on_disk
  unfolding fresh after_format
  start_rest =
      subst (λ (z : List ℕ). Rest g (disk_block g d) z d) (sym (ap (λ (b : Bool). cond b (formatted v g c) c) (eq-eqb _ _ ok))) (fresh_inv, fresh_settled)

  start_reck : Reck g (reckoned (disk_block g d)) (fresh v g c d).on_card (fresh v g c d).on_disk
  unfolding reckoned
  start_reck = rest_reck start_rest (record { numbers = refl; bytes = refl })

-- ---- lists of calls

history : {g : Geometry} (rs : List Request) (m : Media) (r : Reckoned) → Reck g r m.on_card m.on_disk
    → Reck g (reckon_all g rs (answers rs m) r) (run rs m).on_card (run rs m).on_disk
unfolding run answers reckon_all after answer_to
history [] m r x = x
history (q ∷ rs) m r x = history rs (after q m) _ (call_keeps m q.version q.map x q.call q.allowance)

pub run_append : (xs ys : List Request) (m : Media) → run (xs ++ ys) m ≡ run ys (run xs m)
unfolding run
run_append [] ys m = refl
run_append (x ∷ xs) ys m = run_append xs ys (after x m)

-- the reckoning of a list with one call more
reckon-more : (g : Geometry) (xs : List Request) (q : Request) (m : Media) (r : Reckoned)
    → reckon_all g (xs ++ (q ∷ [])) (answers (xs ++ (q ∷ [])) m) r ≡ reckon g q.call (answer_to q (run xs m)) (reckon_all g xs (answers xs m) r)
unfolding run answers reckon_all
reckon-more g [] q m r = refl
reckon-more g (x ∷ xs) q m r = reckon-more g xs q (after x m) (reckon g x.call (answer_to x m) r)

-- what one call more leaves, and what it makes of the row: what a layer above the cache goes by
module _ (v : ℕ) (g : Geometry) (c d : List ℕ) (rs : List Request) (q : Request) where
  pub left-more : left v g c d (rs ++ (q ∷ [])) ≡ after q (left v g c d rs)
  unfolding left run
  left-more = run_append rs (q ∷ []) (fresh v g c d)

  pub row_more : row_left v g c d (rs ++ (q ∷ []))
      ≡ (reckon g q.call (answer_to q (left v g c d rs)) (reckon_all g rs (answers rs (fresh v g c d)) (reckoned (disk_block g d)))).row
  unfolding row_left left
  row_more = ap (λ (y : Reckoned). y.row) (reckon-more g rs q (fresh v g c d) (reckoned (disk_block g d)))

-- a recovery that answers done settles
done_settles : {g : Geometry} {r : Reckoned} (w : ℕ) (s : Map) (a : ℕ) (m : Media) (n : ℕ) → Reck g r m.on_card m.on_disk
    → answer_to (recovering w s a) m ≡ Done n → is_settled g (run (recovering w s a ∷ []) m).on_card ≡ true
unfolding run after answer_to is_put
done_settles w s a m n x e = call_settles m w s x recover a n refl e

-- without cuts and puts every call leaves the card settled
uncut_settled : {g : Geometry} (rs : List Request) (m : Media) (r : Reckoned) → Reck g r m.on_card m.on_disk → is_settled g m.on_card ≡ true
    → Uncut (answers rs m) → Unput rs → is_settled g (run rs m).on_card ≡ true
unfolding run answers after answer_to
uncut_settled [] m r x s u p = s
uncut_settled {g} (q ∷ rs) m r x s u p =
    uncut_settled rs (after q m) _ (call_keeps m q.version q.map x q.call q.allowance)
    (next (answered q.allowance (work_of q.version q.call q.map m))) u.1 p.1
  where
    next : Answered q.allowance (work_of q.version q.call q.map m) → is_settled g (after_on card q.allowance (work_of q.version q.call q.map m) m.on_card) ≡ true
    next (refused z e k) = ap (is_settled g) (k card m.on_card) ∙ s
    next (cut z l e k) = absurd (u.0 e)
    next (done z e k) = call_settles m q.version q.map x q.call q.allowance _ p.0 e

-- ---- the theorem

module _ (v : ℕ) (g : Geometry) (c d : List ℕ) (known : between 1 2 v ≡ true) (ok : outcome_of (format_refusal g c) ≡ FormatDone) (sized : length d ≡ disk_length g) where
  reck_left : (rs : List Request)
      → Reck g (reckon_all g rs (answers rs (fresh v g c d)) (reckoned (disk_block g d))) (run rs (fresh v g c d)).on_card (run rs (fresh v g c d)).on_disk
  reck_left rs = history rs (fresh v g c d) (reckoned (disk_block g d)) (start_reck v g c d known (format_passed g c ok) sized)

  inv_left : (rs : List Request) → Inv g (row_left v g c d rs) (left v g c d rs).on_card (left v g c d rs).on_disk
  unfolding left row_left
  inv_left rs = (reck_left rs).inv

  last_settles : (rs before : List Request) (w : ℕ) (s : Map) (a n : ℕ) → rs ≡ before ++ (recovering w s a ∷ [])
      → answer_to (recovering w s a) (left v g c d before) ≡ Done n
      → is_settled g (left v g c d rs).on_card ≡ true
  unfolding left
  last_settles rs before w s a n e h =
      ap (λ (z : List Request). is_settled g (run z (fresh v g c d)).on_card) e
      ∙ ap (λ (z : Media). is_settled g z.on_card) (run_append before (recovering w s a ∷ []) (fresh v g c d))
      ∙ done_settles w s a (run before (fresh v g c d)) n (reck_left before) h

pub cut_rule : CutRule
cut_rule n g c d rs known ok sized =
    let v = inv_left n g c d known ok sized rs in
    record {
      versioned = version_known v;
      recovers = recover_refuses v;
      maps = map_made v;
      settles = last_settles n g c d known ok sized rs;
      holds = contents_hold v;
      upgrades = upgrade_refuses v;
      reads = read_holds v;
      looks = look_holds v;
      read_refuses = read_refuses_lem v;
      look_refuses = look_refuses_lem v;
      recent_reads = recent_holds v;
      recent_refuses = recent_refuses_lem v;
    }

pub pair_rule : PairRule
pair_rule n g c d rs known ok sized =
    let v = inv_left n g c d known ok sized rs in
    record { geometry = geometry_is v; pairs = pair_refuses v }

pub plain_row : PlainRow
unfolding left
plain_row v g c d rs known ok sized uncut unput =
    let s =
    uncut_settled rs (fresh v g c d) (reckoned (disk_block g d)) (start_reck v g c d known (format_passed g c ok) sized)
    (start_rest v g c d known (format_passed g c ok) sized).1 uncut unput in
    (s, contents_hold (inv_left v g c d known ok sized rs) s)

-- a call that answers done is not refused, has made all its stores, and tells how many
abbrev pub DoneAll : ℕ → ℕ → Work → Type 0
DoneAll a n w = (w.refusal ≡ 0) × ((m : Medium) (xs : List ℕ) → after_on m a w xs ≡ made_on m (flat w.runs) xs) × (length (flat w.runs) ≡ n)

pub done_passed : (a n : ℕ) (w : Work) → answer_of a w ≡ Done n → DoneAll a n w
done_passed a n w e = go (answered a w)
  where
    go : Answered a w → DoneAll a n w
    go (refused z x k) = let y : ◌≡◌ {A = ℕ} 0 1 = cc in absurd (omega arith)
    go (cut z l x k) = let y : ◌≡◌ {A = ℕ} 0 1 = cc in absurd (omega arith)
    go (done z x k) = (z, k, cc)

-- a room-making commit that answers done, on media that the invariant holds of
module _ {g : Geometry} {r : Reckoned} (m : Media) (x : Reck g r m.on_card m.on_disk) (w : ℕ) (s : Map) (t ns bs ch : List ℕ) (a n : ℕ)
    (e : answer_to (making_room w s t ns bs ch a) m ≡ Done n) where
  abbrev c : List ℕ
  c = m.on_card

  abbrev m' : Media
  m' = after (making_room w s t ns bs ch a) m

  room_done : (room_refusal w c m.on_disk s t ns bs ch ≡ 0)
      × (m'.on_card ≡ made_on card (flat (room_runs (geometry_of c) c t ns ++ commit_runs (geometry_of c) (room_left (geometry_of c) c t ns) ns bs)) c)
  unfolding answer_to after work_of room_work
  room_done = let y = done_passed a n (work_of w (make_room t ns bs ch) s m) e in (y.0, y.1 card c)

  room_goes : RoomPassed w g c t ns bs ch
  room_goes = subst (λ (y : Geometry). RoomPassed w y c t ns bs ch) (geometry_is x.inv) (room_passed w c m.on_disk s t ns bs ch room_done.0)

  -- the card is settled before and after, and the row keeps the blocks outside the transaction
  stay : (b : ℕ) → b < g.disk → is_among ns b ≡ false → contents g m'.on_card m'.on_disk b ≡ contents g c m.on_disk b
  unfolding answer_to after work_of room_work reckon with_row is_put is_among
  stay b l o =
      let q = make_room t ns bs ch in
      contents_hold (call_keeps m w s x q a).inv (call_settles m w s x q a n refl e) b l
      ∙ ap (λ (y : Answer). (reckon g q y r).row b) e
      ∙ row_kept g ns bs r.row b (λ j h i. absurd_bool (eq-eqb _ _ i) (any_at _ (length ns) j o h))
      ∙ sym (contents_hold x.inv room_goes.settled b l)

  gone : (k : ℕ) → k < missing g c ns → cached g m'.on_card (victim_number g c t ns k) ≡ false
  unfolding room_left
  gone k l =
      ap (λ (z : List ℕ). cached g z (victim_number g c t ns k))
      (room_done.1
      ∙ ap (λ (y : Geometry). made_on card (flat (room_runs y c t ns ++ commit_runs y (room_left y c t ns) ns bs)) c) (geometry_is x.inv)
      ∙ made_runs card (room_runs g c t ns) _ c)
      ∙ victim_gone t ns bs ch (inv_intact x.inv) room_goes k l

  kept : RoomKept g m m' t ns
  unfolding contents victim_number
  kept =
      record {
        contents_stay = stay;
        evicted = λ k l.
            let listed : k < length (victims g c t ns) = omega (arith, room_enough t ns bs ch (inv_intact x.inv) room_goes) in
            let at = victim_below g c t ns k listed in
            let b = victim_number g c t ns k in (
              gone k l,
              sym (ap (λ (u : Bool). cond u (block_at g m'.on_card (current_of g m'.on_card b)) (disk_block g m'.on_disk b)) (gone k l))
                  ∙ stay b (number_below_lem (inv_intact x.inv) _ at) (victim_outside g c t ns k listed),
            );
      }

pub room_keeps : RoomKeeps
unfolding left run
room_keeps v g c d rs w s t ns bs ch a n known ok sized e =
    subst (λ (z : Media). RoomKept g (run rs (fresh v g c d)) z t ns) (sym (run_append rs (making_room w s t ns bs ch a ∷ []) (fresh v g c d)))
    (kept (run rs (fresh v g c d)) (reck_left v g c d known ok sized rs) w s t ns bs ch a n e)
