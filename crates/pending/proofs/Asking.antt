-- Put's own checks: one law for each answer. Assumes nothing.
use Prim.Native.Nat.{ℕ, ◌-◌, ◌/◌, ◌≤◌, ◌<◌}
use mathlib.Core.List.{List}
use mathlib.Core.Bool.{Bool, true, false, not}
use mathlib.Core.Path.{◌≡◌, sym, ap, subst, ◌∙◌}
use native.Mathlib.Omega.{arith}
use lib.Dec.{eqb, ltb}
use lib.ListN.{length}
use borrow.Author.Tests.{eq-eqb, ne_eqb, lt-ltb, le-ltb, le-leb, lt-leb}
use Rattle.protocol.specs.declared.Geometry.{Geometry}
use Rattle.protocol.specs.declared.Map.{Map}
use Rattle.protocol.specs.declared.Pending.{Pending}
use Rattle.protocol.specs.Layout.{good_geometry, geometry_of, block_size}
use Rattle.protocol.specs.Ring.{in_window}
use Rattle.protocol.specs.Check.{refuse, ◌or_else◌, fit_refusal, damage_refusal, choice_refusal}
use Rattle.protocol.specs.Search.{free_blocks}
use Rattle.protocol.specs.Map.{map_by, is_marked, map_refusal, free_count}
use Rattle.protocol.specs.Commit.{room_for}
use Rattle.protocol.specs.Load.{block_refusal}
use Rattle.protocol.specs.Pending.{is_pending, put_refusal}
use Rattle.protocol.proofs.Checks.{Limits, limits, or_else_first, or_else_next, refuse_failed, refuse_passed}
use Rattle.freemap.proofs.Search.{search_count}
use Rattle.ring.specs.Fitted.{Fitted, WindowOf}
use Rattle.plan.specs.Request.{choice_room, room_fits}
use Rattle.plan.proofs.Request.{room_is}
use Rattle.plan.proofs.Order.{or_else_assoc}
use Rattle.pending.specs.declared.Standing.{Standing}
use Rattle.pending.specs.Standing.{met_refusal, Met}
use Rattle.pending.specs.Putting.{own_refusal, Asked}

pub slots_left : (g : Geometry) → good_geometry g ≡ true → 1 ≤ g.slots
slots_left g good = let l : Limits g = limits g good in omega arith

module _ (g : Geometry) (n size room b : ℕ) where
  pub own_full : n ≡ g.slots - 1 → 8 ≡ own_refusal g n size room b
  unfolding own_refusal
  own_full e = or_else_first 8 _ _ (refuse_failed 8 _ (ap not (eq-eqb n (g.slots - 1) e))) (λ z. omega arith)

  module _ (a : n ≡ g.slots - 1 → ⊥) (k : ℕ) (block : k ≡ block_size g) where
    not_full : 0 ≡ refuse 8 (not (eqb n (g.slots - 1)))
    not_full = refuse_passed 8 _ (ap not (ne_eqb n (g.slots - 1) a))

    pub own_size : (size ≡ k → ⊥) → 9 ≡ own_refusal g n size room b
    unfolding own_refusal
    own_size h =
        or_else_next 9 _ _ not_full
        (or_else_first 9 _ _ (refuse_failed 9 _ (ne_eqb size (block_size g) (λ e. h (e ∙ sym block)))) (λ z. omega arith))

    module _ (s : size ≡ k) where
      sized : 0 ≡ refuse 9 (eqb size (block_size g))
      sized = refuse_passed 9 _ (eq-eqb size (block_size g) (s ∙ block))

      pub own_choice : room < k / 8 → 17 ≡ own_refusal g n size room b
      unfolding own_refusal room_fits
      own_choice l =
          or_else_next 17 _ _ not_full
          (or_else_next 17 _ _ sized
          (or_else_first 17 _ _ (refuse_failed 17 _ (lt-leb (block_size g / 8) room (subst (λ (z : ℕ). room < z / 8) block l))) (λ z. omega arith)))

      module _ (l : k / 8 ≤ room) where
        chosen : 0 ≡ refuse 17 (room_fits g room)
        unfolding room_fits
        chosen = refuse_passed 17 _ (le-leb (block_size g / 8) room (subst (λ (z : ℕ). z / 8 ≤ room) block l))

        pub own_number : g.disk ≤ b → 10 ≡ own_refusal g n size room b
        unfolding own_refusal
        own_number h =
            or_else_next 10 _ _ not_full (or_else_next 10 _ _ sized (or_else_next 10 _ _ chosen (refuse_failed 10 _ (le-ltb b g.disk h))))

        pub own_passed : b < g.disk → 0 ≡ own_refusal g n size room b
        unfolding own_refusal
        own_passed h =
            or_else_next 0 _ _ not_full (or_else_next 0 _ _ sized (or_else_next 0 _ _ chosen (refuse_passed 10 _ (lt-ltb b g.disk h))))

-- ---- all refusals of a put

four : (a b c d r : ℕ) → (a or_else (b or_else (c or_else d))) or_else r ≡ a or_else (b or_else (c or_else (d or_else r)))
four a b c d r =
    or_else_assoc a (b or_else (c or_else d)) r
    ∙ ap (λ (z : ℕ). a or_else z) (or_else_assoc b (c or_else d) r ∙ ap (λ (z : ℕ). b or_else z) (or_else_assoc c d r))

module _ (c : List ℕ) (m : Map) (r : Pending) (b size room : ℕ) (xs : List ℕ) (s : Standing) (x : Met c m r xs s) where
  abbrev g : Geometry
  g = geometry_of c

  -- 11 and 14
  abbrev late : ℕ
  late = refuse 11 (not (in_window g c b)) or_else refuse 14 (room_for g c 1)

  abbrev own : List ℕ → List ℕ → ℕ
  own bs ch =
      refuse 8 (not (eqb r.count (g.slots - 1)))
      or_else (refuse 9 (eqb (length bs) (block_size g)) or_else (choice_refusal g ch or_else (block_refusal g b or_else late)))

  -- put's refusals are those of what it meets, then its own
  put_is : (bs ch : List ℕ) → put_refusal 2 c m r b bs ch ≡ met_refusal c m r or_else own bs ch
  unfolding put_refusal met_refusal
  put_is bs ch = sym (four (fit_refusal 2 2 c) (damage_refusal g c) (refuse 18 (is_pending g c r)) (map_refusal c m) (own bs ch))

  pub ask_met : (s.refusal ≡ 0 → ⊥) → Asked c m r b size room xs s
  ask_met h =
      record {
        refusal_is = λ bs ch e k. or_else_first s.refusal (met_refusal c m r) (own bs ch) x.refusal_is h ∙ sym (put_is bs ch);
        stands = λ z. absurd (h z);
      }

  module _ (z : s.refusal ≡ 0) where
    pub ask_good : good_geometry s.geometry ≡ true
    ask_good = (x.stands z).findable.indexed.fitted.good

    pub ask_window : Fitted s.geometry c × WindowOf s.geometry c s.window
    ask_window = ((x.stands z).findable.indexed.fitted, (x.stands z).findable.window)

    same : s.geometry ≡ g
    same = (x.stands z).own

    none : 0 ≡ met_refusal c m r
    none = sym z ∙ x.refusal_is

    -- with the sizes alone
    sizes_is : (bs ch : List ℕ) → length bs ≡ size → choice_room ch ≡ room → own bs ch ≡ own_refusal g r.count size room b or_else late
    unfolding own_refusal choice_refusal block_refusal
    sizes_is bs ch e k =
        (λ t.
        refuse 8 (not (eqb r.count (g.slots - 1)))
        or_else (refuse 9 (eqb (e t) (block_size g))
        or_else (refuse 17 (sym (room_is g ch room (subst (λ (y : Geometry). good_geometry y ≡ true) same ask_good) k) t) or_else (refuse 10 (ltb b g.disk) or_else late))))
        ∙ sym (four (refuse 8 (not (eqb r.count (g.slots - 1)))) (refuse 9 (eqb size (block_size g))) (refuse 17 (room_fits g room)) (refuse 10 (ltb b g.disk)) late)

    goes : (k : ℕ) → k ≡ own_refusal g r.count size room b or_else late
        → (bs ch : List ℕ) → length bs ≡ size → choice_room ch ≡ room → k ≡ put_refusal 2 c m r b bs ch
    goes k h bs ch e q = or_else_next k (met_refusal c m r) (own bs ch) none (h ∙ sym (sizes_is bs ch e q)) ∙ sym (put_is bs ch)

    module _ (k : ℕ) (e : k ≡ own_refusal s.geometry r.count size room b) where
      own_is : k ≡ own_refusal g r.count size room b
      own_is = e ∙ ap (λ (y : Geometry). own_refusal y r.count size room b) same

      pub ask_own : (t : Standing) → (k ≡ 0 → ⊥) → t.refusal ≡ k → Asked c m r b size room xs t
      ask_own t h q =
          record {
            refusal_is = λ bs ch f i. q ∙ goes k (or_else_first k (own_refusal g r.count size room b) late own_is h) bs ch f i;
            stands = λ y. absurd (h (sym q ∙ y));
          }

      module _ (o : k ≡ 0) (u : Bool) (inside : u ≡ in_window s.geometry c b) where
        inside_is : u ≡ in_window g c b
        inside_is = inside ∙ ap (λ (y : Geometry). in_window y c b) same

        pub ask-twice : (t : Standing) → u ≡ true → t.refusal ≡ 11 → Asked c m r b size room xs t
        ask-twice t h q =
            record {
              refusal_is = λ bs ch f i.
                  q
                  ∙ goes 11
                  (or_else_next 11 _ late (sym o ∙ own_is)
                  (or_else_first 11 _ _ (refuse_failed 11 _ (ap not (sym inside_is ∙ h))) (λ y. omega arith)))
                  bs ch f i;
              stands = λ y. absurd (omega arith);
            }

        module _ (h : u ≡ false) where
          outside : 0 ≡ refuse 11 (not (in_window g c b))
          outside = refuse_passed 11 _ (ap not (sym inside_is ∙ h))

          -- the free blocks are those of the map
          free_is : s.free ≡ length (free_blocks g c)
          free_is =
              (x.stands z).free_is ∙ ap free_count ((x.stands z).map_is ∙ ap (λ (y : Geometry). map_by (is_marked y c)) same)
              ∙ search_count g c (subst (λ (y : Geometry). good_geometry y ≡ true) same ask_good)

          pub ask_full : (t : Standing) → s.free ≡ 0 → t.refusal ≡ 14 → Asked c m r b size room xs t
          unfolding room_for
          ask_full t l q =
              record {
                refusal_is = λ bs ch f i.
                    q
                    ∙ goes 14
                    (or_else_next 14 _ late (sym o ∙ own_is)
                    (or_else_next 14 _ _ outside (refuse_failed 14 _ (lt-leb 1 (length (free_blocks g c)) (omega (arith, free_is))))))
                    bs ch f i;
                stands = λ y. absurd (omega arith);
              }

          pub ask_passed : (s.free ≡ 0 → ⊥) → Asked c m r b size room xs s
          unfolding room_for
          ask_passed l =
              record {
                refusal_is = λ bs ch f i.
                    z
                    ∙ goes 0
                    (or_else_next 0 _ late (sym o ∙ own_is)
                    (or_else_next 0 _ _ outside (refuse_passed 14 _ (le-leb 1 (length (free_blocks g c)) (omega (arith, free_is, l))))))
                    bs ch f i;
                stands = x.stands;
              }
