-- The victims: an entry is one by its flag and its mark, and one walk over the table from its last number finds the first ones in their order.
-- Where the numbers are cached says which entries are marked, and there are enough victims or too few. Assumes nothing.
use Prim.Native.Nat.{ℕ, ◌+◌, ◌-◌, ◌≤◌, ◌<◌}
use mathlib.Core.List.{List, [], ◌∷◌, ◌++◌, append-nil, reverse}
use mathlib.Core.Bool.{Bool, true, false, cond, not, ◌&&◌}
use mathlib.Core.Path.{◌≡◌, refl, sym, ap, subst, ◌∙◌}
use mathlib.Core.Logic.{⊎_elim}
use native.Mathlib.Nat.{not-suc-le-zero}
use native.Mathlib.Numerals.{add-one}
use native.Mathlib.Omega.{arith}
use lib.ListN.{length, get_or, set, length-append, get_or-append}
use Rattle.std.proofs.lemmas.List.{get_or_read, get_or-reverse, length-reverse}
use lib.Seq.{get_or-set_same, get_or-set_other, get_or-append_seam}
use lib.Dec.{ltb}
use borrow.Author.Tests.{lt-ltb, le-ltb, lt-leb, le-leb, eq-eqb, eqb-true}
use Rattle.protocol.specs.declared.Geometry.{Geometry}
use Rattle.protocol.specs.declared.Entry.{Entry}
use Rattle.protocol.specs.declared.Map.{Map}
use Rattle.protocol.specs.Below.{each_below, keep}
use Rattle.protocol.specs.Layout.{geometry_of}
use Rattle.protocol.specs.Entry.{entry_at, in_use}
use Rattle.protocol.specs.Ring.{used_at, is_settled, find_entry, cached}
use Rattle.protocol.specs.Check.{refuse, fit_refusal, card_refusal}
use Rattle.protocol.specs.Commit.{number_of}
use Rattle.protocol.specs.Recency.{stands_at, is_arranged}
use Rattle.protocol.specs.Load.{pair_refusal}
use Rattle.protocol.specs.Room.{is_among, is_victim, from_last, victims, missing, enough_victims}
use Rattle.protocol.proofs.Below.{either, bool_same, and_fails, last_or_before, any_found, any_witness}
use Rattle.protocol.proofs.Checks.{Limits, limits, or_else_none}
use Rattle.protocol.proofs.Lawful.{Intact, entry_found_lem, entry_cached}
use Rattle.protocol.proofs.Left.{card_intact}
use Rattle.protocol.proofs.Loaded.{cached_entry}
use Rattle.protocol.proofs.Room.{room_most}
use Rattle.protocol.proofs.Searches.{sifted}
use Rattle.checks.specs.Keys.{key_at}
use Rattle.recency.specs.Moved.{among_first, Marks}
use Rattle.plan.specs.Met.{met_refusal, Searchable}
use Rattle.plan.specs.Planned.{NOWHERE, home_at, Homes}
use Rattle.plan.proofs.Room.{counted}
use Rattle.plan.proofs.Rows.{each_split}
use Rattle.room.specs.Made.{asked_refusal, Sifting, Gathered, Chosen}

-- ---- one entry

-- an entry with a mark is unused or the transaction's
marked_out : (u a : Bool) (m : ℕ) → (u ≡ true → m ≡ cond a 1 0) → (m ≡ 0 → ⊥) → u && not a ≡ false
marked_out true true m f h = refl
marked_out true false m f h = absurd (h (f refl))
marked_out false a m f h = refl

-- one with none is not the transaction's
unmarked_in : (u a : Bool) (m : ℕ) → (u ≡ true → m ≡ cond a 1 0) → m ≡ 0 → u && not a ≡ u
unmarked_in true true m f h = absurd (omega (arith, f refl))
unmarked_in true false m f h = refl
unmarked_in false a m f h = refl

module _ (g : Geometry) (c : List ℕ) (x at : ℕ) (q : at ≡ x) (ns : List ℕ) where
  pub victim_far : g.blocks ≤ at → false ≡ is_victim g c ns x
  unfolding is_victim
  victim_far l = let far : ltb x g.blocks ≡ false = le-ltb x g.blocks (omega arith) in rw far

  abbrev own : Bool
  own = is_among ns (entry_at g c x).number

  module _ (marks : List ℕ) (s : Sifting g c ns marks) (l : at < g.blocks) where
    mark_is : used_at g c x ≡ true → get_or marks at 0 ≡ cond own 1 0
    mark_is u = ap (λ (i : ℕ). get_or marks i 0) q ∙ s.at x (omega arith) u

    pub victim_marked : (get_or marks at 0 ≡ 0 → ⊥) → false ≡ is_victim g c ns x
    unfolding is_victim
    victim_marked h = sym (and_fails (ltb x g.blocks) _ (marked_out (used_at g c x) own _ mark_is h))

    pub victim_clear : (e : Entry) (r : Bool) → get_or marks at 0 ≡ 0 → e ≡ entry_at g c at → r ≡ in_use e → r ≡ is_victim g c ns x
    unfolding is_victim used_at
    victim_clear e r h i u =
        let near : ltb x g.blocks ≡ true = lt-ltb x g.blocks (omega arith) in
        rw near (u ∙ ap in_use (i ∙ ap (entry_at g c) q) ∙ sym (unmarked_in (used_at g c x) own _ mark_is h))

-- ---- the walk

-- what the walk over the last k numbers of the table has found, for these numbers
pub record Swept (g : Geometry) (c t ns : List ℕ) (k : ℕ) (vs : List ℕ) (found : ℕ) : Type 0 where
  pub count : length (sifted (is_victim g c ns) (from_last t) k) ≡ found
  pub places : (i : ℕ) → i < found → get_or vs i 0 ≡ get_or (sifted (is_victim g c ns) (from_last t) k) i 0

-- what the walk comes to after k numbers
pub next_is : (t : List ℕ) (k x : ℕ) → length t ≡ 128 → (k < length (reverse t)) × (x ≡ get_or (reverse t) k x)
    → (k < 128) × (x ≡ get_or t (127 - k) 0)
next_is t k x long h =
    let l : k < 128 = omega (arith, length-reverse t, h.0) in
    let inside : k < length t = omega arith in
    let place : length t - 1 - k ≡ 127 - k = omega arith in
    let read : x ≡ get_or t (127 - k) x = h.1 ∙ get_or-reverse t k x inside ∙ ap (λ (i : ℕ). get_or t i x) place in
    (l, get_or_read t (127 - k) x (omega arith) read 0)

pub swept_start : (g : Geometry) (c t ns vs : List ℕ) → Swept g c t ns 0 vs 0
unfolding each_below
swept_start g c t ns vs = record { count = refl; places = λ i l. absurd (not-suc-le-zero l) }

module _ (g : Geometry) (c t ns : List ℕ) (k : ℕ) (vs : List ℕ) (found : ℕ) (w : Swept g c t ns k vs found) where
  abbrev before : List ℕ
  before = sifted (is_victim g c ns) (from_last t) k

  module _ (x : ℕ) (e : x ≡ get_or t (127 - k) 0) where
    longer : sifted (is_victim g c ns) (from_last t) (k + 1) ≡ before ++ keep (is_victim g c ns x) x
    unfolding each_below from_last
    longer = rw add-one (ap (λ (y : ℕ). before ++ keep (is_victim g c ns y) y) (sym e))

    pub swept_past : false ≡ is_victim g c ns x → Swept g c t ns (k + 1) vs found
    unfolding keep
    swept_past h =
        let same : sifted (is_victim g c ns) (from_last t) (k + 1) ≡ before =
        longer ∙ ap (λ (b : Bool). before ++ keep b x) (sym h) ∙ append-nil before in
        record {
          count = ap length same ∙ w.count;
          places = λ i b. w.places i b ∙ ap (λ (z : List ℕ). get_or z i 0) (sym same);
        }

    pub swept_found : true ≡ is_victim g c ns x → found < length vs → Swept g c t ns (k + 1) (set vs found x) (found + 1)
    unfolding keep
    swept_found h room =
        let more : sifted (is_victim g c ns) (from_last t) (k + 1) ≡ before ++ (x ∷ []) =
        longer ∙ ap (λ (b : Bool). before ++ keep b x) (sym h) in
        record {
          count = ap length more ∙ length-append before (x ∷ []) ∙ ap (λ (n : ℕ). n + 1) w.count;
          places =
              λ i b.
              ⊎_elim
              (λ (j : i ≡ found).
              subst (λ (n : ℕ). get_or (set vs found x) n 0 ≡ get_or (sifted (is_victim g c ns) (from_last t) (k + 1)) n 0) (sym j)
              (get_or-set_same vs found x 0 room
              ∙ sym (get_or-append_seam before x [] 0)
              ∙ (λ s. get_or (sym more s) (w.count s) 0)))
              (λ (j : i < found).
              get_or-set_other vs found i x 0 (omega arith)
              ∙ w.places i j
              ∙ sym (get_or-append before (x ∷ []) 0 i (omega (arith, w.count)))
              ∙ ap (λ (z : List ℕ). get_or z i 0) (sym more))
              (last_or_before i found (rw add-one at b));
        }

  -- the victims begin with those found so far
  rest : k ≤ 128 → (ys : List ℕ) × (victims g c t ns ≡ before ++ ys)
  unfolding victims
  rest few =
      let e : 128 ≡ k + (128 - k) = omega arith in
      (_, ap (sifted (is_victim g c ns) (from_last t)) e ∙ each_split _ k (128 - k))

  pub swept_enough : (want : ℕ) → k ≤ 128 → found ≡ want → Gathered g c t ns want vs found
  swept_enough want few q =
      let (ys, e) = rest few in
      record {
        few = λ l. absurd (omega arith);
        enough = λ l. omega (arith, ap length e, length-append before ys, w.count);
        places = λ l i b.
            w.places i (omega arith)
            ∙ sym (get_or-append before ys 0 i (omega (arith, w.count)))
            ∙ ap (λ (z : List ℕ). get_or z i 0) (sym e);
      }

  pub swept_end : (want : ℕ) → k ≡ 128 → found ≤ want → Gathered g c t ns want vs found
  unfolding victims
  swept_end want z most =
      let all : before ≡ victims g c t ns = ap (sifted (is_victim g c ns) (from_last t)) z in
      record {
        few = λ b. omega (arith, ap length all, w.count);
        enough = λ b. omega (arith, ap length all, w.count);
        places = λ b i h. w.places i (omega arith) ∙ ap (λ (y : List ℕ). get_or y i 0) all;
      }

-- ---- the marks

-- the entries that the numbers have are the transaction's
module _ (g : Geometry) (c ns es ps marks : List ℕ) (w : Intact g c) (h : Homes g c ns es ps) (m : Marks es (length ns) marks) where
  home_own : (x i : ℕ) → x < 128 → home_at g c ns i ≡ x → number_of ns i ≡ (entry_at g c x).number
  unfolding home_at
  home_own x i l e =
      ⊎_elim
      (λ t.
      let f : find_entry g c (number_of ns i) ≡ x = sym (rw t) ∙ e in
      sym (ap (λ (k : ℕ). (entry_at g c k).number) (sym f) ∙ (cached_entry g c (number_of ns i) t).number))
      (λ t. let f : NOWHERE ≡ x = sym (rw t) ∙ e in absurd (omega arith))
      (either (cached g c (number_of ns i)))

  own_home : (x i : ℕ) → x < g.blocks → used_at g c x ≡ true → number_of ns i ≡ (entry_at g c x).number → home_at g c ns i ≡ x
  unfolding home_at
  own_home x i l u e = rw (entry_cached w x (number_of ns i) l u (sym e)) (entry_found_lem w x (number_of ns i) l u (sym e))

  marked_own : (x : ℕ) → x < g.blocks → used_at g c x ≡ true → among_first es (length ns) x ≡ is_among ns (entry_at g c x).number
  unfolding among_first stands_at is_among key_at
  marked_own x l u =
      let few : Limits g = limits g w.good in
      bool_same _ _
      (λ a.
      let (i, b, e) = any_witness _ (length ns) a in
      any_found _ (length ns) i b (eq-eqb _ _ (home_own x i (omega arith) (sym (h.entries i b) ∙ eqb-true _ _ e))))
      (λ a.
      let (i, b, e) = any_witness _ (length ns) a in
      any_found _ (length ns) i b (eq-eqb _ _ (h.entries i b ∙ own_home x i l u (eqb-true _ _ e))))

  pub sifting : Sifting g c ns marks
  sifting =
      let few : Limits g = limits g w.good in
      record { at = λ x l u. m.at x (omega arith) ∙ ap (λ (b : Bool). cond b 1 0) (marked_own x l u) }

-- ---- 14, or as many victims as are missing

-- what was asked before passed checks 1 and 2
pub asked_fit : (c d : List ℕ) (m : Map) (t ns : List ℕ) (size room : ℕ) → asked_refusal c d m t ns size room ≡ 0 → fit_refusal 2 2 c ≡ 0
unfolding asked_refusal met_refusal pair_refusal
asked_fit c d m t ns size room z =
    (or_else_none (fit_refusal 2 2 c) _ (or_else_none (pair_refusal 2 c d) _ (or_else_none (met_refusal c d m (is_arranged t)) _ z).0).0).0

module _ (g : Geometry) (c : List ℕ) (h : ℕ) (xs : List ℕ) (m : Map) (free : ℕ) (own : g ≡ geometry_of c) (fit : fit_refusal 2 2 c ≡ 0)
    (s : Searchable g c h xs m free) (t ns es ps vs : List ℕ)
  where
    whole : Intact g c × (is_settled g c ≡ true)
    whole =
        subst (λ (y : Geometry). card_refusal y c ≡ 0 → Intact y c × (is_settled y c ≡ true)) (sym own) (card_intact c fit) s.whole

    too_few : (k : ℕ) → enough_victims g c t ns ≡ false → Chosen g c t ns es ps vs (record { refusal = 14; count = k })
    unfolding refuse
    too_few k e = record {
      refusal_is = rw e;
      homes = λ z. absurd (omega arith);
      count = λ z. absurd (omega arith);
      places = λ z. absurd (omega arith);
    }

    pub chosen_many : is_arranged t ≡ true → 128 < length ns → Chosen g c t ns es ps vs (record { refusal = 14; count = 0 })
    chosen_many a l =
        too_few 0
        (⊎_elim
        (λ e. let few : Limits g = limits g whole.0.good in absurd (omega (arith, room_most t ns whole.0 whole.1 a e)))
        (λ e. e)
        (either (enough_victims g c t ns)))

    module _ (k : Homes g c ns es ps) (marks : List ℕ) (y : Marks es (length ns) marks) (lack found : ℕ) (e : lack ≡ length ns - free)
        (f : (os : List ℕ) → Sifting g c os marks → Gathered g c t os lack vs found)
      where
        lack_is : lack ≡ missing g c ns
        unfolding missing
        lack_is = e ∙ ap (λ (n : ℕ). length ns - n) (counted g c whole.0.good m s.map_is free s.free_is (length ns))

        found_is : Gathered g c t ns lack vs found
        found_is = f ns (sifting g c ns es ps marks whole.0 k y)

        pub chosen_few : found < lack → Chosen g c t ns es ps vs (record { refusal = 14; count = 0 })
        unfolding enough_victims
        chosen_few l = too_few 0 (lt-leb (missing g c ns) (length (victims g c t ns)) (omega (arith, lack_is, found_is.few l)))

        enough : lack ≤ found → missing g c ns ≤ length (victims g c t ns)
        enough l = omega (arith, lack_is, found_is.enough l)

        pub chosen : lack ≤ found → Chosen g c t ns es ps vs (record { refusal = 0; count = lack })
        unfolding refuse enough_victims
        chosen l =
            record {
              refusal_is = rw (le-leb (missing g c ns) (length (victims g c t ns)) (enough l));
              homes = λ z. k;
              count = λ z. lack_is;
              places = λ z i b. found_is.places l i (omega (arith, lack_is));
            }
