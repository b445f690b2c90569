-- The cut rule recipe by recipe. A list of saves, removes and the cache's other calls leaves what some list of the cache's calls leaves: a save or a
-- remove that passes its own checks is a room-making commit, and one that does not changes nothing. So the cut rule of the cache holds of it, and what
-- stands for each recipe in the row is what the answers say. By induction over the list; no byte of the card is looked at. Assumes nothing.
use Prim.Native.Nat.{ℕ, zero, suc, ◌+◌, ◌*◌, ◌≤◌}
use mathlib.Core.List.{List, [], ◌∷◌, ◌++◌}
use mathlib.Core.Bool.{Bool, true, false, cond}
use mathlib.Core.Path.{◌≡◌, refl, sym, ap, subst, ◌∙◌}
use mathlib.Core.Logic.{◌⊎◌, inl, inr}
use native.Mathlib.Omega.{arith}
use lib.ListN.{length, replicate}
use lib.Dec.{eqb}
use borrow.Author.Tests.{eqb-true, eq-eqb, ne_eqb, ltb-true}
use Rattle.numbers.specs.Bytes.{patch}
use Rattle.numbers.proofs.Laws.{patch_nil}
use Rattle.protocol.specs.declared.Answer.{Answer}
use Rattle.protocol.specs.declared.Answer.TheVariants.{Done, Cut, Refused as RefusedAnswer}
use Rattle.protocol.specs.declared.Geometry.{Geometry}
use Rattle.protocol.specs.declared.Map.{Map}
use Rattle.protocol.specs.declared.Outcome.TheVariants.{Done as FormatDone, Refused as FormatRefused}
use Rattle.protocol.specs.Layout.{between, good_geometry, geometry_of, version_of, block_size, disk_block, disk_length}
use Rattle.protocol.specs.Ring.{is_settled, contents}
use Rattle.protocol.specs.Check.{refuse, ◌or_else◌}
use Rattle.protocol.specs.Store.{Medium, card, disk, Work, answer_of, after_on}
use Rattle.protocol.specs.Format.{outcome_of, format_refusal}
use Rattle.protocol.specs.declared.Mapped.TheVariants.{Is as MapIs}
use Rattle.protocol.specs.Map.{map_of, map_refusal, made_map}
use Rattle.protocol.specs.Recover.{recover_refusal}
use Rattle.protocol.specs.Load.{pair_refusal}
use Rattle.protocol.specs.Room.{room_work}
use Rattle.protocol.specs.History.{Call, make_room, Request, Media, work_of, answer_to, after, answers, fresh, Row, replaced, Reckoned, reckoned, with_row, with_cut, with_puts, reckon, reckon_all}
use Rattle.protocol.specs.CutRule.{left, row_left, recovering as recall, Sound, SoundPair}
use Rattle.protocol.proofs.Below.{either, same_or_other}
use Rattle.protocol.proofs.CutRule.{cut_rule, pair_rule, left-more, row_more}
use Rattle.protocol.proofs.Holds.{pass, none_first, or_else_assoc}
use Rattle.protocol.proofs.Passed.{first_zero, passed}
use Rattle.recipe.specs.Record.{Recipe, record_bytes}
use Rattle.recipe.specs.Shelf.{in_range, blocks_of, Standing, nothing, broken, stands, standing, standing_refusal, standing_bytes}
use Rattle.recipe.specs.Calls.{saved_numbers, saved_bytes, save_refusal, save_work, remove_refusal, remove_work, standing_on, fetch_refusal, fetched, fetched_output}
use Rattle.recipe.specs.Uses.{Use, save, remove, load, evict, recover, upgrade, open_save, Asked, work_for, answer_for, media_after, media_left, answers_to, Shelf, placed, shelve, shelve_all}
use Rattle.recipe.specs.Kept.{used_left, shelf_left, recovering, answered_as, RecipeRule}
use Rattle.recipe.proofs.Fewest.{record_blocks}
use Rattle.recipe.proofs.Record.{good}
use Rattle.recipe.proofs.Refusals.{guarded_passes, guarded_stops, save_own}
use Rattle.recipe.proofs.Rows.{standing_same, placed_stands, save_stands, remove_stands}

-- ---- one use

-- what a call of the cache comes to, told by its work
abbrev Comes : Request → Media → ℕ → Work → Type 0
Comes p m a w = (after p m ≡ record { on_card = after_on card a w m.on_card; on_disk = after_on disk a w m.on_disk }) × (answer_to p m ≡ answer_of a w)

-- a use is a call of the cache, and makes of the row what its answer makes of the shelf; or it is refused, and changes neither
data Step (g : Geometry) (q : Asked) (m : Media) : Type 0 where
  idle : media_after q m ≡ m → ((s : Shelf) → shelve q.call (answer_for q m) s ≡ s) → Step g q m
  taken : (p : Request) → after p m ≡ media_after q m
      → ((k : Reckoned) (r : ℕ) → standing g (reckon g p.call (answer_to p m) k).row r ≡ shelve q.call (answer_for q m) (standing g k.row) r)
      → Step g q m

refused_answer : (a : ℕ) (w : Work) → (w.refusal ≡ 0 → ⊥) → answer_of a w ≡ RefusedAnswer w.refusal
unfolding answer_of
refused_answer a w h = rw (ne_eqb w.refusal 0 h)

refused_after : (n : Medium) (a : ℕ) (w : Work) (xs : List ℕ) → (w.refusal ≡ 0 → ⊥) → after_on n a w xs ≡ xs
unfolding after_on
refused_after n a w xs h = rw (ne_eqb w.refusal 0 h)

module _ (g : Geometry) (ok : good_geometry g ≡ true) (m : Media) (own : geometry_of m.on_card ≡ g) (w : ℕ) (s : Map) (a : ℕ) where
  abbrev asked : Use → Asked
  asked u = record { version = w; call = u; map = s; allowance = a }

  -- a use that is refused
  stopped : (u : Use) → ((k : ℕ) (shelf : Shelf) → shelve u (RefusedAnswer k) shelf ≡ shelf) → ((work_for w u s m).refusal ≡ 0 → ⊥) → Step g (asked u) m
  unfolding answer_for media_after
  stopped u leaves h =
      let x = work_for w u s m in
      idle (λ t. record { on_card = refused_after card a x m.on_card h t; on_disk = refused_after disk a x m.on_disk h t })
      (λ shelf. ap (λ (y : Answer). shelve u y shelf) (refused_answer a x h) ∙ leaves _ shelf)

  -- a use whose work is that of a call
  called : (u : Use) (p : Call) → work_for w u s m ≡ work_of w p s m
      → ((k : Reckoned) (y : Answer) (r : ℕ) → standing g (reckon g p y k).row r ≡ shelve u y (standing g k.row) r)
      → Step g (asked u) m
  unfolding answer_for media_after after answer_to
  called u p e law =
      taken (record { version = w; call = p; map = s; allowance = a })
      (ap (λ (x : Work). record { on_card = after_on card a x m.on_card; on_disk = after_on disk a x m.on_disk }) (sym e))
      (λ k r. law k (answer_of a (work_of w p s m)) r
      ∙ ap (λ (x : Work). shelve u (answer_of a x) (standing g k.row) r) (sym e))

  -- a save or a remove whose work is a room-making commit of recipe r's first n blocks: x stands for r when it is done
  committed : (u : Use) (r n : ℕ) (x : Standing) (t bs ch : List ℕ) → n ≤ 4
      → work_for w u s m ≡ work_of w (make_room t (blocks_of r n) bs ch) s m
      → ((row : Row) → standing g (replaced g (blocks_of r n) bs row) r ≡ x)
      → ((k : ℕ) (shelf : Shelf) → shelve u (Done k) shelf ≡ placed r x shelf)
      → ((shelf : Shelf) → shelve u Cut shelf ≡ shelf)
      → ((k : ℕ) (shelf : Shelf) → shelve u (RefusedAnswer k) shelf ≡ shelf)
      → Step g (asked u) m
  unfolding reckon with_row with_cut
  committed u r n x t bs ch few e put done cut refused = called u (make_room t (blocks_of r n) bs ch) e law
    where
      law : (k : Reckoned) (y : Answer) (b : ℕ) → standing g (reckon g (make_room t (blocks_of r n) bs ch) y k).row b ≡ shelve u y (standing g k.row) b
      law k (Done j) b = placed_stands g ok r n few bs k.row x b (put k.row) ∙ ap (λ (shelf : Shelf). shelf b) (sym (done j (standing g k.row)))
      law k Cut b = ap (λ (shelf : Shelf). shelf b) (sym (cut (standing g k.row)))
      law k (RefusedAnswer j) b = ap (λ (shelf : Shelf). shelf b) (sym (refused j (standing g k.row)))

  saves : (r : ℕ) (x : Recipe) (t ch : List ℕ) → Step g (asked (save r x t ch)) m
  unfolding work_for work_of save_work saved_numbers shelve
  saves r x t ch = go (same_or_other (save_refusal (geometry_of m.on_card) r x) 0)
    where
      go : (save_refusal (geometry_of m.on_card) r x ≡ 0) ⊎ (save_refusal (geometry_of m.on_card) r x ≡ 0 → ⊥) → Step g (asked (save r x t ch)) m
      go (inr h) = stopped (save r x t ch) (λ k shelf. refl) (guarded_stops w m.on_card m.on_disk s t _ _ _ ch h).1
      go (inl z) =
          let fine = (save_own _ r x z).1 in
          let f = record_blocks g x.count ok (good x fine).few in
          committed (save r x t ch) r _ (stands (record_bytes x)) t (saved_bytes g x) ch (omega (arith, f.few))
          (guarded_passes w m.on_card m.on_disk s t _ _ _ ch z ∙ ap (λ (y : Geometry). room_work w m.on_card m.on_disk s t (saved_numbers y r x) (saved_bytes y x) ch) own)
          (λ row. save_stands g ok r x fine row)
          (λ k shelf. refl) (λ shelf. refl) (λ k shelf. refl)

  removes : (r : ℕ) (t ch : List ℕ) → Step g (asked (remove r t ch)) m
  unfolding work_for work_of remove_work shelve
  removes r t ch = go (same_or_other (remove_refusal (geometry_of m.on_card) m.on_card m.on_disk r) 0)
    where
      go : (remove_refusal (geometry_of m.on_card) m.on_card m.on_disk r ≡ 0) ⊎ (remove_refusal (geometry_of m.on_card) m.on_card m.on_disk r ≡ 0 → ⊥)
          → Step g (asked (remove r t ch)) m
      go (inr h) = stopped (remove r t ch) (λ k shelf. refl) (guarded_stops w m.on_card m.on_disk s t _ _ _ ch h).1
      go (inl z) =
          committed (remove r t ch) r 1 nothing t (replicate (block_size g) 0) ch (omega arith)
          (guarded_passes w m.on_card m.on_disk s t _ _ _ ch z ∙ ap (λ (y : Geometry). room_work w m.on_card m.on_disk s t (blocks_of r 1) (replicate (block_size y) 0) ch) own)
          (λ row. remove_stands g r row ok)
          (λ k shelf. refl) (λ shelf. refl) (λ k shelf. refl)

  recovers : (k : Reckoned) (y : Answer) → (reckon g Call.recover y k).row ≡ k.row
  unfolding reckon with_puts
  recovers k (Done n) = refl
  recovers k Cut = refl
  recovers k (RefusedAnswer n) = refl

  step : (u : Use) → Step g (asked u) m
  unfolding work_for shelve reckon
  step (save r x t ch) = saves r x t ch
  step (remove r t ch) = removes r t ch
  step (load t b ch) = called (load t b ch) (Call.load t b ch) refl (λ k y r. refl)
  step (evict b ch) = called (evict b ch) (Call.evict b ch) refl (λ k y r. refl)
  step recover = called recover Call.recover refl (λ k y r. ap (λ (row : Row). standing g row r) (recovers k y))
  step upgrade = called upgrade Call.upgrade refl (λ k y r. refl)
  step open_save = called open_save Call.open_save refl (λ k y r. refl)

-- ---- lists of uses

-- what one use more leaves
media_more : (qs : List Asked) (q : Asked) (m : Media) → media_left (qs ++ (q ∷ [])) m ≡ media_after q (media_left qs m)
unfolding media_left
media_more [] q m = refl
media_more (x ∷ qs) q m = media_more qs q (media_after x m)

-- media that some list of the cache's calls leaves, with the shelf that its row has
record Reached (v : ℕ) (g : Geometry) (c d : List ℕ) (m : Media) (shelf : Shelf) : Type 0 where
  calls : List Request
  there : left v g c d calls ≡ m
  shelved : (r : ℕ) → standing g (row_left v g c d calls) r ≡ shelf r

format_good : (g : Geometry) (c : List ℕ) → outcome_of (format_refusal g c) ≡ FormatDone → good_geometry g ≡ true
unfolding outcome_of format_refusal
format_good g c e = go (either (eqb (format_refusal g c) 0))
  where
    go : (eqb (format_refusal g c) 0 ≡ true) ⊎ (eqb (format_refusal g c) 0 ≡ false) → good_geometry g ≡ true
    go (inl z) = passed 0 _ (first_zero (refuse 1 (good_geometry g)) _ (eqb-true _ _ z))
    go (inr z) =
        let f = sym (ap (λ (b : Bool). cond b FormatDone (FormatRefused (format_refusal g c))) z) ∙ e in
        let y : ◌≡◌ {A = ℕ} 0 1 = cc in
        absurd (omega arith)

module _ (v : ℕ) (g : Geometry) (c d : List ℕ) (known : between 1 2 v ≡ true) (ok : outcome_of (format_refusal g c) ≡ FormatDone) (sized : length d ≡ disk_length g) where
  sound : (rs : List Request) → Sound v g c d rs
  sound rs = cut_rule v g c d rs known ok sized

  sound_pair : (rs : List Request) → SoundPair v g c d rs
  sound_pair rs = pair_rule v g c d rs known ok sized

  fine : good_geometry g ≡ true
  fine = format_good g c ok

  one : (q : Asked) (m : Media) (shelf : Shelf) → Reached v g c d m shelf → Reached v g c d (media_after q m) (shelve q.call (answer_for q m) shelf)
  unfolding row_left
  one q m shelf x = go (step g fine m own q.version q.map q.allowance q.call)
    where
      own : geometry_of m.on_card ≡ g
      own = ap (λ (y : Media). geometry_of y.on_card) (sym x.there) ∙ (sound_pair x.calls).geometry

      reckoning : Reckoned
      reckoning = reckon_all g x.calls (answers x.calls (fresh v g c d)) (reckoned (disk_block g d))

      go : Step g q m → Reached v g c d (media_after q m) (shelve q.call (answer_for q m) shelf)
      go (idle e same) =
          record {
            calls = x.calls;
            there = x.there ∙ sym e;
            shelved = λ r. x.shelved r ∙ ap (λ (f : Shelf). f r) (sym (same shelf));
          }
      go (taken p e law) =
          record {
            calls = x.calls ++ (p ∷ []);
            there = left-more v g c d x.calls p ∙ ap (after p) x.there ∙ e;
            shelved = λ r.
                ap (λ (row : Row). standing g row r)
                (row_more v g c d x.calls p ∙ ap (λ (y : Media). (reckon g p.call (answer_to p y) reckoning).row) x.there)
                ∙ law reckoning r
                ∙ (λ t. shelve q.call (answer_for q m) (λ b. x.shelved b t) r);
          }

  all : (qs : List Asked) (m : Media) (shelf : Shelf) → Reached v g c d m shelf → Reached v g c d (media_left qs m) (shelve_all qs (answers_to qs m) shelf)
  unfolding media_left answers_to shelve_all
  all [] m shelf x = x
  all (q ∷ qs) m shelf x = all qs (media_after q m) _ (one q m shelf x)

  module _ (past : List Request) where
    reached : (qs : List Asked) → Reached v g c d (used_left v g c d past qs) (shelf_left v g c d past qs)
    unfolding used_left shelf_left
    reached qs = all qs (left v g c d past) _ (record { calls = past; there = refl; shelved = λ r. refl })

    -- what holds of the media that a list of the cache's calls leaves holds of those that the uses leave
    carried : (P : Media → Type 0) (qs : List Asked) → ((rs : List Request) → P (left v g c d rs)) → P (used_left v g c d past qs)
    carried P qs h = subst P (reached qs).there (h (reached qs).calls)

    settles : (qs before : List Asked) (w : ℕ) (s : Map) (a n : ℕ) → qs ≡ before ++ (recovering w s a ∷ [])
        → answer_for (recovering w s a) (used_left v g c d past before) ≡ Done n
        → is_settled g (used_left v g c d past qs).on_card ≡ true
    unfolding used_left media_left media_after answer_for work_for answer_to after
    settles qs before w s a n e h =
        let x = reached before in
        let p = recall w s a in
        let settled : is_settled g (left v g c d (x.calls ++ (p ∷ []))).on_card ≡ true =
        (sound (x.calls ++ (p ∷ []))).settles x.calls w s a n refl (ap (answer_to p) x.there ∙ h) in
        let there : left v g c d (x.calls ++ (p ∷ [])) ≡ used_left v g c d past qs =
        left-more v g c d x.calls p
        ∙ ap (after p) x.there
        ∙ sym (media_more before (recovering w s a) (left v g c d past))
        ∙ ap (λ (z : List Asked). media_left z (left v g c d past)) (sym e) in
        subst (λ (y : Media). is_settled g y.on_card ≡ true) there settled

    -- what stands on a settled card
    holds : (qs : List Asked) → is_settled g (used_left v g c d past qs).on_card ≡ true → (r : ℕ) → in_range g r ≡ true
        → standing g (contents g (used_left v g c d past qs).on_card (used_left v g c d past qs).on_disk) r ≡ shelf_left v g c d past qs r
    unfolding in_range
    holds qs settled r range =
        let x = reached qs in
        let m = x.there in
        ap (λ (y : Media). standing g (contents g y.on_card y.on_disk) r) (sym m)
        ∙ standing_same g _ (row_left v g c d x.calls) r fine
        (λ i l. (sound x.calls).holds (ap (λ (y : Media). is_settled g y.on_card) m ∙ settled) (4 * r + i) (omega (arith, ltb-true (4 * r + 3) g.disk range)))
        ∙ x.shelved r

-- ---- fetch

or_nothing : (a : ℕ) → a or_else 0 ≡ a
unfolding ◌or_else◌
or_nothing zero = refl
or_nothing (suc a) = refl

out_of_range : {b : Bool} → b ≡ false → (x : ℕ) → refuse 19 b or_else x ≡ 19
unfolding refuse ◌or_else◌
out_of_range e x = ap (λ (b : Bool). refuse 19 b or_else x) e

-- where x stands, and nothing but that may refuse
fetch_as : (c d : List ℕ) (r : ℕ) (out : List ℕ) (x : Standing) → standing_on c d r ≡ x → fetch_refusal c d r out ≡ standing_refusal x
    → (fetched c d r out ≡ answered_as x) × (fetched_output c d r out ≡ patch out 0 (standing_bytes x))
unfolding fetched fetched_output
fetch_as c d r out nothing e f = (rw f, rw f (sym (patch_nil out 0)))
fetch_as c d r out broken e f = (rw f, rw f (sym (patch_nil out 0)))
fetch_as c d r out (stands bs) e f = (rw (f, e), rw (f, e))

module _ (v : ℕ) (g : Geometry) (c d : List ℕ) (known : between 1 2 v ≡ true) (ok : outcome_of (format_refusal g c) ≡ FormatDone) (sized : length d ≡ disk_length g)
    (past : List Request) (qs : List Asked) where
  abbrev m : Media
  m = used_left v g c d past qs

  abbrev shelf : Shelf
  shelf = shelf_left v g c d past qs

  geometry_is : geometry_of m.on_card ≡ g
  geometry_is = carried v g c d known ok sized past (λ y. geometry_of y.on_card ≡ g) qs (λ rs. (sound_pair v g c d known ok sized rs).geometry)

  stands_on : is_settled g m.on_card ≡ true → (r : ℕ) → in_range g r ≡ true → standing_on m.on_card m.on_disk r ≡ shelf r
  unfolding standing_on
  stands_on settled r range =
      ap (λ (y : Geometry). standing y (contents y m.on_card m.on_disk) r) geometry_is ∙ holds v g c d known ok sized past qs settled r range

  -- checks 1 to 7 of a settled card
  pair_is : is_settled g m.on_card ≡ true → (x : ℕ) → pair_refusal 2 m.on_card m.on_disk or_else x ≡ refuse 1 (eqb (version_of m.on_card) 2) or_else x
  pair_is settled x =
      ap (λ (y : ℕ). y or_else x)
      (carried v g c d known ok sized past
      (λ y. pair_refusal 2 y.on_card y.on_disk ≡ refuse 1 (eqb (version_of y.on_card) 2) or_else refuse 7 (is_settled g y.on_card)) qs
      (λ rs. (sound_pair v g c d known ok sized rs).pairs 2))
      ∙ or_else_assoc (refuse 1 (eqb (version_of m.on_card) 2)) (refuse 7 (is_settled g m.on_card)) x
      ∙ ap (λ (y : ℕ). refuse 1 (eqb (version_of m.on_card) 2) or_else y) (none_first x (pass 7 settled))

  refuses : (r : ℕ) (out : List ℕ) → is_settled g m.on_card ≡ true
      → fetch_refusal m.on_card m.on_disk r out
      ≡ refuse 1 (eqb (version_of m.on_card) 2) or_else refuse 19 (in_range g r) or_else standing_refusal (shelf r) or_else refuse 9 (eqb (length out) 1528)
  unfolding fetch_refusal
  refuses r out settled =
      pair_is settled _
      ∙ ap (λ (y : ℕ). refuse 1 (eqb (version_of m.on_card) 2) or_else y)
      (ap (λ (y : Geometry). refuse 19 (in_range y r) or_else standing_refusal (standing_on m.on_card m.on_disk r) or_else refuse 9 (eqb (length out) 1528)) geometry_is
      ∙ told (either (in_range g r)))
    where
      told : (in_range g r ≡ true) ⊎ (in_range g r ≡ false)
          → refuse 19 (in_range g r) or_else standing_refusal (standing_on m.on_card m.on_disk r) or_else refuse 9 (eqb (length out) 1528)
          ≡ refuse 19 (in_range g r) or_else standing_refusal (shelf r) or_else refuse 9 (eqb (length out) 1528)
      told (inl e) = ap (λ (x : Standing). refuse 19 (in_range g r) or_else standing_refusal x or_else refuse 9 (eqb (length out) 1528)) (stands_on settled r e)
      told (inr e) =
          out_of_range e (standing_refusal (standing_on m.on_card m.on_disk r) or_else refuse 9 (eqb (length out) 1528))
          ∙ sym (out_of_range e (standing_refusal (shelf r) or_else refuse 9 (eqb (length out) 1528)))

  fetches : version_of m.on_card ≡ 2 → is_settled g m.on_card ≡ true → (r : ℕ) → in_range g r ≡ true → (out : List ℕ) → length out ≡ 1528
      → (fetched m.on_card m.on_disk r out ≡ answered_as (shelf r)) × (fetched_output m.on_card m.on_disk r out ≡ patch out 0 (standing_bytes (shelf r)))
  fetches two settled r range out long =
      fetch_as m.on_card m.on_disk r out (shelf r) (stands_on settled r range)
      (refuses r out settled
      ∙ none_first _ (pass 1 (eq-eqb _ _ two))
      ∙ none_first _ (pass 19 range)
      ∙ ap (λ (y : ℕ). standing_refusal (shelf r) or_else y) (pass 9 (eq-eqb _ _ long))
      ∙ or_nothing (standing_refusal (shelf r)))

pub recipe_rule : RecipeRule
recipe_rule v g c d past qs known ok sized =
    record {
      recovers = λ s. carried v g c d known ok sized past (λ y. recover_refusal 2 y.on_card s ≡ map_refusal y.on_card s) qs (λ rs. (sound v g c d known ok sized rs).recovers s);
      maps = carried v g c d known ok sized past (λ y. made_map y.on_card ≡ MapIs (map_of y.on_card)) qs (λ rs. (sound v g c d known ok sized rs).maps);
      settles = settles v g c d known ok sized past qs;
      holds = holds v g c d known ok sized past qs;
      fetches = fetches v g c d known ok sized past qs;
      refuses = refuses v g c d known ok sized past qs;
    }
