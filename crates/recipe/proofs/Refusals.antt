-- The refusals of a save and of a remove, whole: behind its own checks each is a room-making commit that 8, 9, 10 and 11 never refuse. Assumes nothing.
use Prim.Native.Nat.{ℕ, zero, suc, ◌+◌, ◌*◌, ◌-◌, ◌≤◌}
use mathlib.Core.List.{List, []}
use mathlib.Core.Bool.{Bool, true, not, ◌&&◌}
use mathlib.Core.Path.{◌≡◌, refl, sym, ap, ◌∙◌}
use native.Mathlib.Omega.{arith}
use lib.ListN.{length, replicate, length-replicate}
use borrow.Author.Tests.{eq-eqb, ne_eqb, lt-ltb, ltb-true, le-leb}
use Rattle.protocol.specs.declared.Geometry.{Geometry}
use Rattle.protocol.specs.declared.Map.{Map}
use Rattle.protocol.specs.Layout.{good_geometry, geometry_of, block_size}
use Rattle.protocol.specs.Check.{refuse, ◌or_else◌, fit_refusal, damage_refusal, card_refusal, disk_refusal, choice_refusal}
use Rattle.protocol.specs.Map.{map_refusal}
use Rattle.protocol.specs.Commit.{number_of, count_fits, data_fits, number_fits, numbers_fit, numbers_differ, new_number, numbers_apart, save_refusal as commitSaves}
use Rattle.protocol.specs.Load.{pair_refusal}
use Rattle.protocol.specs.Recency.{table_refusal}
use Rattle.protocol.specs.Room.{enough_victims, room_refusal, room_work}
use Rattle.protocol.proofs.Below.{and_left, and_right, and_both, all_of}
use Rattle.protocol.proofs.Checks.{Limits, limits}
use Rattle.protocol.proofs.Holds.{pass, none_first}
use Rattle.protocol.proofs.Lawful.{fit_of}
use Rattle.protocol.proofs.Passed.{first_zero, second_zero, passed}
use Rattle.recipe.specs.Record.{Recipe, good_recipe}
use Rattle.recipe.specs.Shelf.{in_range, blocks_of}
use Rattle.recipe.specs.Calls.{guarded, saved_numbers, saved_bytes, save_refusal, save_work, remove_refusal, remove_work, SaveRefuses, RemoveRefuses}
use Rattle.recipe.proofs.Fewest.{record_blocks}
use Rattle.recipe.proofs.Record.{good}
use Rattle.recipe.proofs.Rows.{blocks_long, blocks_at, saved-long}

-- ---- own checks before a commit

again : (a b : ℕ) → a or_else (a or_else b) ≡ a or_else b
unfolding ◌or_else◌
again zero b = refl
again (suc a) b = refl

-- where its own checks pass, it is the room-making commit
pub guarded_passes : (v : ℕ) (c d : List ℕ) (m : Map) (t : List ℕ) (own : ℕ) (ns bs ch : List ℕ) → own ≡ 0
    → guarded v c d m t own ns bs ch ≡ room_work v c d m t ns bs ch
unfolding guarded room_work room_refusal
guarded_passes v c d m t own ns bs ch z =
    λ i. record {
      refusal =
          (ap (λ (r : ℕ). pair_refusal v c d or_else r) (none_first (room_refusal v c d m t ns bs ch) z)
          ∙ again (pair_refusal v c d) (map_refusal c m or_else table_refusal t or_else commitSaves (geometry_of c) ns bs ch (enough_victims (geometry_of c) c t ns))) i;
      runs = (room_work v c d m t ns bs ch).runs;
      choice = ch;
    }

-- where they do not, it is refused by checks 1 to 7 or by them
pub guarded_stops : (v : ℕ) (c d : List ℕ) (m : Map) (t : List ℕ) (own : ℕ) (ns bs ch : List ℕ) → (own ≡ 0 → ⊥)
    → ((guarded v c d m t own ns bs ch).refusal ≡ pair_refusal v c d or_else own) × ((guarded v c d m t own ns bs ch).refusal ≡ 0 → ⊥)
unfolding guarded ◌or_else◌
guarded_stops v c d m t own ns bs ch h =
    let e = stops (pair_refusal v c d) own (room_refusal v c d m t ns bs ch) h in
    (e, λ z. h (second_zero (pair_refusal v c d) own (sym e ∙ z)))
  where
    first : (a b : ℕ) → (a ≡ 0 → ⊥) → a or_else b ≡ a
    first zero b k = absurd (k refl)
    first (suc a) b k = refl

    stops : (a b r : ℕ) → (b ≡ 0 → ⊥) → a or_else (b or_else r) ≡ a or_else b
    stops a b r k = ap (λ (x : ℕ). a or_else x) (first b r k)

-- a card that passes checks 1 to 7 has a good geometry
pub pair_good : (c d : List ℕ) → pair_refusal 2 c d ≡ 0 → good_geometry (geometry_of c) ≡ true
unfolding pair_refusal card_refusal
pair_good c d z =
    (fit_of 2 2 c (first_zero (fit_refusal 2 2 c) _ z)
    (first_zero (damage_refusal (geometry_of c) c) _ (second_zero (disk_refusal (geometry_of c) d) _ (second_zero (fit_refusal 2 2 c) _ z)))).good

-- what passed where 19 is not given
pub save_own : (g : Geometry) (r : ℕ) (x : Recipe) → save_refusal g r x ≡ 0 → (in_range g r ≡ true) × (good_recipe x ≡ true)
unfolding save_refusal
save_own g r x o = let b = passed 18 (in_range g r && good_recipe x) o in (and_left _ _ b, and_right (in_range g r) _ b)

pub remove_own : (g : Geometry) (c d : List ℕ) (r : ℕ) → remove_refusal g c d r ≡ 0 → in_range g r ≡ true
unfolding remove_refusal
remove_own g c d r o = passed 18 (in_range g r) (first_zero (refuse 19 (in_range g r)) _ o)

-- ---- 8, 9, 10 and 11

-- a commit of a recipe's first n blocks
module _ (g : Geometry) (h : good_geometry g ≡ true) (r n : ℕ) (some : 1 ≤ n) (few : n ≤ 3) (range : in_range g r ≡ true) (bs : List ℕ) (long : length bs ≡ n * block_size g) where
  abbrev ns : List ℕ
  ns = blocks_of r n

  counts : count_fits g ns ≡ true
  unfolding count_fits
  counts =
      let f : Limits g = limits g h in
      and_both (ap not (ne_eqb (length ns) 0 (λ e. omega (arith, blocks_long r n)))) (le-leb (length ns) (g.slots - 1) (omega (arith, blocks_long r n, f.slots)))

  fits : data_fits g ns bs ≡ true
  unfolding data_fits
  fits = eq-eqb _ _ (long ∙ ap (λ (k : ℕ). k * block_size g) (sym (blocks_long r n)))

  inside : numbers_fit g ns ≡ true
  unfolding numbers_fit number_fits in_range
  inside =
      all_of _ (length ns)
      (λ i l. lt-ltb (number_of ns i) g.disk (omega (arith, blocks_long r n, blocks_at r n i (omega (arith, blocks_long r n)), ltb-true (4 * r + 3) g.disk range)))

  once : numbers_apart ns ≡ true
  unfolding numbers_apart new_number numbers_differ
  once =
      all_of _ (length ns)
      (λ i l. all_of _ i
      (λ j m. ap not
      (ne_eqb _ _
      (λ (e : number_of ns i ≡ number_of ns j). omega (arith, blocks_at r n i (omega (arith, blocks_long r n)), blocks_at r n j (omega (arith, blocks_long r n)))))))

  pub commit_refuses : (ch : List ℕ) (room : Bool) → commitSaves g ns bs ch room ≡ choice_refusal g ch or_else refuse 14 room
  unfolding commitSaves
  commit_refuses ch room =
      none_first _ (pass 8 counts)
      ∙ none_first _ (pass 9 fits)
      ∙ ap (λ (x : ℕ). choice_refusal g ch or_else x) (none_first _ (pass 10 inside) ∙ none_first _ (pass 11 once))

-- checks 1 to 7, its own, and then those of a commit, some of which cannot refuse
whole : (c d : List ℕ) (m : Map) (t : List ℕ) (own : ℕ) (ns bs ch : List ℕ) (last : ℕ)
    → (pair_refusal 2 c d ≡ 0 → own ≡ 0 → commitSaves (geometry_of c) ns bs ch (enough_victims (geometry_of c) c t ns) ≡ last)
    → (guarded 2 c d m t own ns bs ch).refusal ≡ pair_refusal 2 c d or_else own or_else map_refusal c m or_else table_refusal t or_else last
unfolding guarded room_refusal ◌or_else◌
whole c d m t own ns bs ch last h = go (pair_refusal 2 c d) own refl refl
  where
    rest : ℕ → ℕ
    rest x = map_refusal c m or_else table_refusal t or_else x

    go : (a b : ℕ) → pair_refusal 2 c d ≡ a → own ≡ b
        → pair_refusal 2 c d or_else own or_else pair_refusal 2 c d or_else rest (commitSaves (geometry_of c) ns bs ch (enough_victims (geometry_of c) c t ns))
        ≡ pair_refusal 2 c d or_else own or_else rest last
    go (suc a) b e f = (λ i. e i or_else own or_else e i or_else rest (commitSaves (geometry_of c) ns bs ch (enough_victims (geometry_of c) c t ns))) ∙ sym (λ i. e i or_else own or_else rest last)
    go zero (suc b) e f =
        (λ i. pair_refusal 2 c d or_else f i or_else pair_refusal 2 c d or_else rest (commitSaves (geometry_of c) ns bs ch (enough_victims (geometry_of c) c t ns)))
        ∙ sym (λ i. pair_refusal 2 c d or_else f i or_else rest last)
    go zero zero e f =
        (λ i. e i or_else f i or_else e i or_else rest (h e f i)) ∙ sym (λ i. e i or_else f i or_else rest last)

pub save_refuses : SaveRefuses
unfolding save_work saved_numbers
save_refuses c d m t r x ch =
    whole c d m t (save_refusal (geometry_of c) r x) _ _ ch _
    (λ p o.
    let g = geometry_of c in
    let h = pair_good c d p in
    let both = save_own g r x o in
    let f = record_blocks g x.count h (good x both.1).few in
    commit_refuses g h r _ f.some f.few both.0 (saved_bytes g x) (saved-long g h r x both.1 (λ b. [])) ch _)

pub remove_refuses : RemoveRefuses
unfolding remove_work
remove_refuses c d m t r ch =
    whole c d m t (remove_refusal (geometry_of c) c d r) _ _ ch _
    (λ p o.
    let one : 1 * block_size (geometry_of c) ≡ block_size (geometry_of c) = omega arith in
    commit_refuses (geometry_of c) (pair_good c d p) r 1 (omega arith) (omega arith) (remove_own (geometry_of c) c d r o) (replicate (block_size (geometry_of c)) 0)
    (length-replicate {A = ℕ} (block_size (geometry_of c)) 0 ∙ sym one) ch _)
