-- The preview and the commit after it: they answer the same, and each block comes to stand where the preview told. Assumes nothing.
use Prim.Native.Nat.{ℕ, zero, suc, ◌*◌, ◌≤◌, ◌<◌}
use mathlib.Core.List.{List, []}
use mathlib.Core.Bool.{Bool, true, false, cond, ◌&&◌}
use mathlib.Core.Option.{some}
use mathlib.Core.Path.{◌≡◌, refl, sym, ap, subst, ◌∙◌}
use mathlib.Core.Logic.{⊎_elim}
use native.Mathlib.Nat.{mul-le-mul}
use native.Mathlib.Omega.{arith}
use lib.ListN.{length, get_or, length-append, get_or-append}
use lib.Seq.{get_or-append_seam}
use lib.Pow.{pow_pos}
use lib.Dec.{eqb}
use borrow.Author.Tests.{eq-eqb, eqb-true, eqb-false, ne_eqb, le-ltb, not-true}
use Rattle.protocol.specs.declared.Answer.TheVariants.{Done, Cut, Refused}
use Rattle.protocol.specs.declared.Entry.{Entry}
use Rattle.protocol.specs.declared.Geometry.{Geometry}
use Rattle.protocol.specs.declared.Map.{Map}
use Rattle.protocol.specs.Below.{each_below}
use Rattle.protocol.specs.Layout.{geometry_of, block_size}
use Rattle.protocol.specs.Entry.{entry_at, switched}
use Rattle.protocol.specs.Ring.{used_at, find_entry, cached, current_of}
use Rattle.protocol.specs.Check.{refuse, ◌or_else◌, fit_refusal, card_refusal, choice_fits, choice_refusal}
use Rattle.protocol.specs.Store.{card, Work, made_on, flat, stores_of, answer_of, after_on}
use Rattle.protocol.specs.Map.{map_refusal}
use Rattle.protocol.specs.Commit.{number_of, new_block, entry_found, log_entry, commit_runs, count_fits, data_fits, numbers_fit, numbers_apart, room_for, save_refusal, commit_refusal, commit_work}
use Rattle.protocol.specs.Preview.{lengths_fit, preview_refusal, preview_answer, blocks_of, blocks_after, AnswersAlike, MisfitAlike, Stands, Foretold}
use Rattle.protocol.proofs.Below.{either, absurd_bool, and_left, and_right, last_or_before}
use Rattle.protocol.proofs.Checks.{or_else_none, refuse_none}
use Rattle.protocol.proofs.Blocks.{e_below}
use Rattle.protocol.proofs.Committed.{commit_entries, commit_done, puts}
use Rattle.protocol.proofs.CutRule.{Answered, refused, cut, done, answered}
use Rattle.protocol.proofs.Holds.{used_number, geometry_is}
use Rattle.protocol.proofs.Lawful.{lawful}
use Rattle.protocol.proofs.Left.{card_intact, new_used}
use Rattle.protocol.proofs.Loaded.{cached_entry, not-cached}
use Rattle.protocol.proofs.Passed.{CommitPassed, commit_passed}
use Rattle.protocol.proofs.Shape.{Inv}

-- ---- the blocks that are told

module _ (g : Geometry) (c : List ℕ) where
  pub length-told : (n : ℕ) → length (blocks_of g c n) ≡ n
  unfolding blocks_of each_below
  length-told zero = refl
  length-told (suc n) = length-append (blocks_of g c n) _ ∙ omega (arith, length-told n)

  pub told_at : (n i : ℕ) → i < n → get_or (blocks_of g c n) i 0 ≡ new_block g c i
  unfolding blocks_of each_below
  told_at zero i l = absurd (omega arith)
  told_at (suc n) i l = ⊎_elim
      (λ e.
      ap (λ (z : ℕ). get_or (blocks_of g c (suc n)) z 0) (e ∙ sym (length-told n))
      ∙ get_or-append_seam (blocks_of g c n) (new_block g c n) [] 0
      ∙ ap (new_block g c) (sym e))
      (λ k. get_or-append (blocks_of g c n) _ 0 i (omega (arith, length-told n)) ∙ told_at n i k)
      (last_or_before i n l)

-- ---- the refusals

and_true : (a b : Bool) → b ≡ true → a && b ≡ a
and_true true b e = e
and_true false b e = refl

and_false : (a b : Bool) → b ≡ false → a && b ≡ false
and_false true b e = e
and_false false b e = refl

-- behind 8, what is asked for 9 matters only where 8 is not given; and a choice, asked behind 9, only where 9 is not given
behind_eight : (t a b k : Bool) (r : ℕ) → (t ≡ true → a ≡ b) → (a ≡ true → k ≡ true)
    → refuse 8 t or_else refuse 9 a or_else r ≡ refuse 8 t or_else refuse 9 b or_else refuse 17 k or_else r
unfolding refuse ◌or_else◌
behind_eight false a b k r f h = refl
behind_eight true a b k r f h = go a refl ∙ ap (λ (x : Bool). refuse 9 x or_else refuse 17 k or_else r) (f refl)
  where
    go : (x : Bool) → a ≡ x → refuse 9 a or_else r ≡ refuse 9 a or_else refuse 17 k or_else r
    go true e = rw (e, h e)
    go false e = rw e

-- what stands behind a refusal matters only where it is not given
else_alike : (r s t : ℕ) → (r ≡ 0 → s ≡ t) → r or_else s ≡ r or_else t
unfolding ◌or_else◌
else_alike zero s t f = f refl
else_alike (suc r) s t f = refl

module _ (c : List ℕ) (m : Map) (ns bs out : List ℕ) where
  abbrev g : Geometry
  g = geometry_of c

  -- what stands behind 9, and before 8
  abbrev behind : ℕ
  behind = refuse 10 (numbers_fit g ns) or_else refuse 11 (numbers_apart ns) or_else refuse 14 (room_for g c (length ns))

  refusals_alike : (a b k : Bool) → (count_fits g ns ≡ true → a ≡ b) → (fit_refusal 2 2 c ≡ 0 → a ≡ true → k ≡ true)
      → fit_refusal 2 2 c or_else card_refusal g c or_else map_refusal c m or_else refuse 8 (count_fits g ns) or_else refuse 9 a or_else behind
      ≡ fit_refusal 2 2 c or_else card_refusal g c or_else map_refusal c m or_else refuse 8 (count_fits g ns) or_else refuse 9 b or_else refuse 17 k or_else behind
  refusals_alike a b k f h =
      else_alike (fit_refusal 2 2 c) _ _
      (λ z. ap (λ (r : ℕ). card_refusal g c or_else map_refusal c m or_else r) (behind_eight (count_fits g ns) a b k behind f (h z)))

  -- an output not of n numbers is refused as data is that is not of n blocks, whatever the choice
  refusal_misfit : (ds ch : List ℕ) → (length out ≡ length ns → ⊥) → data_fits g ns ds ≡ false → preview_refusal c m ns bs out ≡ commit_refusal 2 c m ns ds ch
  unfolding preview_refusal commit_refusal save_refusal lengths_fit choice_refusal
  refusal_misfit ds ch h f =
      let no = and_false (data_fits g ns bs) _ (ne_eqb _ _ h) in
      refusals_alike (lengths_fit g ns bs out) (data_fits g ns ds) (choice_fits g ch) (λ t. no ∙ sym f) (λ z y. absurd_bool y no)

  -- an output of n numbers is refused as commit is, with a choice that 17 accepts on a card that fits
  pub refusal_same : (ch : List ℕ) → length out ≡ length ns → (fit_refusal 2 2 c ≡ 0 → choice_fits g ch ≡ true)
      → preview_refusal c m ns bs out ≡ commit_refusal 2 c m ns bs ch
  unfolding preview_refusal commit_refusal save_refusal lengths_fit choice_refusal
  refusal_same ch e k =
      refusals_alike (lengths_fit g ns bs out) (data_fits g ns bs) (choice_fits g ch) (λ t. and_true (data_fits g ns bs) _ (eq-eqb _ _ e)) (λ z y. k z)

  -- any other as a commit of no data is, of no numbers too: behind 8 there are numbers
  pub refusal_nine : (ch : List ℕ) → (length out ≡ length ns → ⊥) → preview_refusal c m ns bs out ≡ commit_refusal 2 c m ns [] ch
  unfolding preview_refusal commit_refusal save_refusal lengths_fit data_fits count_fits block_size choice_refusal
  refusal_nine ch h =
      let no = and_false (data_fits g ns bs) _ (ne_eqb _ _ h) in
      refusals_alike (lengths_fit g ns bs out) (data_fits g ns []) (choice_fits g ch)
      (λ t.
      let n : length ns ≡ 0 → ⊥ = eqb-false _ _ (not-true _ (and_left _ _ t)) in
      let some : 1 ≤ length ns = omega arith in
      let long : 1 * 1 ≤ length ns * block_size g = mul-le-mul some (pow_pos g.k) in
      no ∙ sym (ne_eqb 0 (length ns * block_size g) (λ z. omega arith)))
      (λ z y. absurd_bool y no)

  -- a preview that answers done has passed every check, and tells commit's count
  done_passed : (n : ℕ) → preview_answer c m ns bs out ≡ Done n → (preview_refusal c m ns bs out ≡ 0) × (length (flat (commit_runs (geometry_of c) c ns bs)) ≡ n)
  unfolding preview_answer
  done_passed n e = go (eqb (preview_refusal c m ns bs out) 0) refl e
    where
      go : (t : Bool) → eqb (preview_refusal c m ns bs out) 0 ≡ t
          → cond t (Done (length (flat (commit_runs (geometry_of c) c ns bs)))) (Refused (preview_refusal c m ns bs out)) ≡ Done n
          → (preview_refusal c m ns bs out ≡ 0) × (length (flat (commit_runs (geometry_of c) c ns bs)) ≡ n)
      go true q h = (eqb-true _ _ q, cc)
      go false q h = let z : ◌≡◌ {A = ℕ} 0 1 = cc in absurd (omega arith)

  pub passed_length : preview_refusal c m ns bs out ≡ 0 → length out ≡ length ns
  unfolding preview_refusal lengths_fit
  passed_length z =
      let a = (or_else_none (fit_refusal 2 2 c) _ z).1 in
      let b = (or_else_none (card_refusal g c) _ a).1 in
      let d = (or_else_none (map_refusal c m) _ b).1 in
      let e = (or_else_none (refuse 8 (count_fits g ns)) _ d).1 in
      let f = (or_else_none (refuse 9 (lengths_fit g ns bs out)) _ e).0 in
      eqb-true _ _ (and_right (data_fits g ns bs) _ (refuse_none 9 _ (omega arith) f))

pub answers-alike : AnswersAlike
unfolding preview_answer answer_of commit_work stores_of
answers-alike c m ns bs ch out a e k l =
    let r = refusal_same c m ns bs out ch e (λ z. k) in
    let t = le-ltb a (stores_of (commit_work 2 c m ns bs ch)) l in
    λ i. cond (eqb (r i) 0) (cond (sym t i) Cut (Done (stores_of (commit_work 2 c m ns bs ch)))) (Refused (r i))

pub misfit_alike : MisfitAlike
unfolding preview_answer commit_work
misfit_alike c m ns bs ds ch out a h f = go (answered a (commit_work 2 c m ns ds ch))
  where
    same : preview_refusal c m ns bs out ≡ commit_refusal 2 c m ns ds ch
    same = refusal_misfit c m ns bs out ds ch h f

    refuses : preview_refusal c m ns bs out ≡ 0 → ⊥
    refuses z = h (passed_length c m ns bs out z)

    go : Answered a (commit_work 2 c m ns ds ch) → preview_answer c m ns bs out ≡ answer_of a (commit_work 2 c m ns ds ch)
    go (refused x q k) = rw (ne_eqb _ _ refuses) (ap Refused same ∙ sym q)
    go (cut x l q k) = absurd (refuses (same ∙ x))
    go (done x q k) = absurd (refuses (same ∙ x))

-- ---- where the blocks stand

module _ {g : Geometry} {row : ℕ → List ℕ} {c d : List ℕ} (ns bs : List ℕ) (v : Inv g row c d) (p : CommitPassed g c ns bs) where
  abbrev after : List ℕ
  after = made_on card (flat (commit_runs g c ns bs)) c

  stands_at_lem : (j : ℕ) → j < length ns → (used_at g after (entry_found g c ns j) ≡ true) × ((entry_at g after (entry_found g c ns j)).current ≡ new_block g c j)
      → Stands g after ns bs j (new_block g c j)
  unfolding current_of log_entry switched
  stands_at_lem j l (u, k) =
      let x = commit_entries ns bs v p in
      let i = entry_found g c ns j in
      let b = number_of ns j in
      let low = e_below ns bs v (puts ns bs v p) j l in
      let n : (entry_at g after i).number ≡ b = ap (λ (y : Entry). y.number) (x.planned j l) in
      let own = used_number g after i u ∙ ap some n in
      let h : cached g after b ≡ true = ⊎_elim (λ t. t) (λ t. absurd (not-cached g after b t i low own)) (either (cached g after b)) in
      let f = cached_entry g after b h in
      let same : find_entry g after b ≡ i =
      (commit_done ns bs v p).0.safe.numbers (find_entry g after b) i b f.below low (used_number g after _ f.used ∙ ap some f.number) own in
      record { is_cached = h; current = ap (λ (y : ℕ). (entry_at g after y).current) same ∙ k; filled = x.filled j l }

module _ (c : List ℕ) (m : Map) (ns bs ch : List ℕ) (z : commit_refusal 2 c m ns bs ch ≡ 0) where
  stood : (j : ℕ) → j < length ns
      → Stands (geometry_of (made_on card (flat (commit_runs (geometry_of c) c ns bs)) c)) (made_on card (flat (commit_runs (geometry_of c) c ns bs)) c) ns bs j
      (new_block (geometry_of c) c j)
  unfolding commit_refusal
  stood j l =
      let g = geometry_of c in
      let (fit, more) = or_else_none (fit_refusal 2 2 c) _ z in
      let (w, s) = card_intact c fit (or_else_none (card_refusal g c) _ more).0 in
      let v = lawful w s in
      let p = commit_passed v 2 m ns bs ch z in
      subst (λ (y : Geometry). Stands y (after ns bs v p) ns bs j (new_block g c j)) (sym (geometry_is (commit_done ns bs v p).0))
      (stands_at_lem ns bs v p j l (new_used ns bs w v p j l))

pub save_foretold : Foretold
unfolding blocks_after commit_work stores_of
save_foretold c m ns bs ch out n a f e l = go (answered a w)
  where
    w : Work
    w = commit_work 2 c m ns bs ch

    passed : (preview_refusal c m ns bs out ≡ 0) × (length (flat (commit_runs (geometry_of c) c ns bs)) ≡ n)
    passed = done_passed c m ns bs out n e

    none : commit_refusal 2 c m ns bs ch ≡ 0
    none = sym (refusal_same c m ns bs out ch (passed_length c m ns bs out passed.0) (λ z. f)) ∙ passed.0

    told : (i : ℕ) → i < length ns → get_or (blocks_after c m ns bs out) i 0 ≡ new_block (geometry_of c) c i
    told i h = rw (eq-eqb (preview_refusal c m ns bs out) 0 passed.0) (told_at (geometry_of c) c (length ns) i h)

    go : Answered a (commit_work 2 c m ns bs ch)
        → (answer_of a (commit_work 2 c m ns bs ch) ≡ Done n)
        × ((i : ℕ) → i < length ns
        → Stands (geometry_of (after_on card a (commit_work 2 c m ns bs ch) c)) (after_on card a (commit_work 2 c m ns bs ch) c) ns bs i
        (get_or (blocks_after c m ns bs out) i 0))
    go (refused x q k) = absurd (x none)
    go (cut x h q k) = absurd (omega (arith, passed.1))
    go (done x q k) = (
      q ∙ ap Done passed.1,
      λ i h.
          subst (λ (y : List ℕ). Stands (geometry_of y) y ns bs i (get_or (blocks_after c m ns bs out) i 0)) (sym (k card c))
          (subst (Stands (geometry_of _) _ ns bs i) (sym (told i h)) (stood c m ns bs ch none i h)),
    )
