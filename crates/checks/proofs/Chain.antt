-- The index of numbers: a chain passes every index that has the key looked for. Assumes nothing.
use Rattle.std.proofs.Common.{◌≡◌, ℕ, zero, suc, ◌+◌, ◌-◌, ◌%◌, ◌<◌, ◌≤◌, Bool, true, false, not, eqb, ltb, List, length, get_or, set, sym, refl, ap, ◌∙◌, subst, ⊎_elim, not-suc-le-zero, mod-lt, add-one, arith, length-set, get_or-set_other, get_or-set_same, ltb-true, le-ltb, lt-ltb, eq-eqb, ne_eqb, eqb-true}
use lib.Bits.{bit_or}
use lib.ListN.{length-replicate, get_or-replicate}
use Rattle.protocol.specs.Below.{any_below, first_below}
use Rattle.protocol.proofs.Below.{absurd_bool, either, and_left, and_right, and_fails, same_or_other, below_or_above, last_or_before, all_fails, all_of, any_none, any_found, first_at, first_none}
use Rattle.freemap.proofs.Maps.{or_zero}
use Rattle.checks.specs.Keys.{NONE, keyed, lone, distinct}
use Rattle.checks.specs.Chain.{last_below, CHAINS, in_chain, link_of, Blank, Chains, Entered}
use Rattle.checks.proofs.Keys.{distinct_at}

-- ---- the last index

last_hit : (p : ℕ → Bool) (n : ℕ) → p n ≡ true → last_below p (suc n) ≡ suc n
unfolding last_below
last_hit p n e = rw e

last_miss : (p : ℕ → Bool) (n : ℕ) → p n ≡ false → last_below p (suc n) ≡ last_below p n
unfolding last_below
last_miss p n e = rw e

pub last_le : (p : ℕ → Bool) (n : ℕ) → last_below p n ≤ n
unfolding last_below
last_le p zero = omega arith
last_le p (suc n) =
    let h : last_below p n ≤ n = last_le p n in
    ⊎_elim (λ (e : p n ≡ true). rw e (omega arith)) (λ (e : p n ≡ false). rw e (omega arith)) (either (p n))

-- the last index is its own last one
last_last : (p : ℕ → Bool) (n : ℕ) → last_below p (last_below p n) ≡ last_below p n
last_last p zero = unfold last_below in refl
last_last p (suc n) =
    ⊎_elim
    (λ (e : p n ≡ true). ap (last_below p) (last_hit p n e))
    (λ (e : p n ≡ false). ap (last_below p) (last_miss p n e) ∙ last_last p n ∙ sym (last_miss p n e))
    (either (p n))

-- an index that is its own last one has p just below it
last_own : (p : ℕ → Bool) (n : ℕ) → last_below p (suc n) ≡ suc n → p n ≡ true
last_own p n h =
    ⊎_elim
    (λ (e : p n ≡ true). e)
    (λ (e : p n ≡ false). absurd (omega (arith, h, last_miss p n e, last_le p n)))
    (either (p n))

-- past the last index that has p, none has q that implies p
last_through : (p q : ℕ → Bool) → ((j : ℕ) → q j ≡ true → p j ≡ true) → (n : ℕ) → last_below q (last_below p n) ≡ last_below q n
unfolding last_below
last_through p q h zero = refl
last_through p q h (suc n) =
    ⊎_elim
    (λ (e : p n ≡ true). ap (last_below q) (last_hit p n e))
    (λ (e : p n ≡ false).
    let o : q n ≡ false = ⊎_elim (λ t. absurd_bool (h n t) e) (λ t. t) (either (q n)) in
    ap (last_below q) (last_miss p n e) ∙ last_through p q h n ∙ sym (last_miss q n o))
    (either (p n))

last_none : (p : ℕ → Bool) (n : ℕ) → last_below p n ≡ 0 → (j : ℕ) → j < n → p j ≡ false
unfolding last_below
last_none p zero z j l = absurd (not-suc-le-zero l)
last_none p (suc n) z j l =
    ⊎_elim
    (λ (e : p n ≡ true). absurd (omega (arith, z, last_hit p n e)))
    (λ (e : p n ≡ false).
    ⊎_elim
    (λ (q : j ≡ n). ap p q ∙ e)
    (λ (q : j < n). last_none p n (sym (last_miss p n e) ∙ z) j q)
    (last_or_before j n l))
    (either (p n))

-- where there is a last index, it has p
last_some : (p : ℕ → Bool) (n : ℕ) → (last_below p n ≡ 0 → ⊥) → p (last_below p n - 1) ≡ true
last_some p n o =
    let a : ℕ = last_below p n - 1 in
    let e : last_below p n ≡ suc a = omega arith in
    last_own p a (ap (last_below p) (sym e) ∙ last_last p n ∙ e)

-- ---- the chain of a key

keyed_chain : (f : ℕ → ℕ) (k : ℕ) → k < NONE → (j : ℕ) → keyed f k j ≡ true → in_chain f (k % CHAINS) j ≡ true
unfolding keyed in_chain
keyed_chain f k l j h =
    let e : f j ≡ k = eqb-true (f j) k h in
    rw (e, lt-ltb k NONE l) (eq-eqb (k % CHAINS) (k % CHAINS) refl)

chain_key : (f : ℕ → ℕ) (r j : ℕ) → in_chain f r j ≡ true → (f j < NONE) × (f j % CHAINS ≡ r)
unfolding in_chain
chain_key f r j h =
    (ltb-true (f j) NONE (and_left (ltb (f j) NONE) _ h), eqb-true (f j % CHAINS) r (and_right (ltb (f j) NONE) _ h))

link_is : (f : ℕ → ℕ) (j : ℕ) → f j < NONE → link_of f j ≡ last_below (in_chain f (f j % CHAINS)) j
unfolding link_of
link_is f j b = rw (lt-ltb (f j) NONE b)

link_off : (f : ℕ → ℕ) (j : ℕ) → NONE ≤ f j → link_of f j ≡ 0
unfolding link_of
link_off f j b = rw (le-ltb (f j) NONE b)

-- an index with a link has a key
link_key : (f : ℕ → ℕ) (j : ℕ) → (link_of f j ≡ 0 → ⊥) → f j < NONE
link_key f j o = ⊎_elim (λ (b : f j < NONE). b) (λ (b : NONE ≤ f j). absurd (o (link_off f j b))) (below_or_above (f j) NONE)

-- the key of an index stands before it exactly where it stands in the chain that it is linked to
link_through : (f : ℕ → ℕ) (j k : ℕ) → k ≡ f j → f j < NONE → last_below (keyed f k) (link_of f j) ≡ last_below (keyed f k) j
link_through f j k e b =
    ap (last_below (keyed f k)) (link_is f j b)
    ∙ last_through (in_chain f (f j % CHAINS)) (keyed f k)
    (subst (λ (x : ℕ). (m : ℕ) → keyed f x m ≡ true → in_chain f (f j % CHAINS) m ≡ true) (sym e) (keyed_chain f (f j) b)) j

-- ---- a walk down one chain

-- what the walk has shown at `at`: it is on the chain, and the last one with the key is the last below it
pub record Walked (f : ℕ → ℕ) (k from at : ℕ) : Type 0 where
  pub within : at ≤ from
  pub end : last_below (in_chain f (k % CHAINS)) at ≡ at
  pub left : last_below (keyed f k) at ≡ last_below (keyed f k) from

-- an index above zero, by what stands below it
below_it : (n : ℕ) → 0 < n → n ≡ suc (n - 1)
below_it n h = omega arith

-- the index that the walk looks at has a key, of the same chain
pub walk_key : (f : ℕ → ℕ) (k from at : ℕ) → Walked f k from at → 0 < at → (f (at - 1) < NONE) × (f (at - 1) % CHAINS ≡ k % CHAINS)
walk_key f k from at w l =
    chain_key f (k % CHAINS) (at - 1)
    (last_own (in_chain f (k % CHAINS)) (at - 1) (subst (λ (x : ℕ). last_below (in_chain f (k % CHAINS)) x ≡ x) (below_it at l) w.end))

pub walk_found : (f : ℕ → ℕ) (k from at x : ℕ) → Walked f k from at → 0 < at → x ≡ f (at - 1) → x ≡ k → at ≡ last_below (keyed f k) from
unfolding keyed
walk_found f k from at x w l q e =
    below_it at l
    ∙ sym (last_hit (keyed f k) (at - 1) (eq-eqb (f (at - 1)) k (sym q ∙ e)))
    ∙ ap (last_below (keyed f k)) (sym (below_it at l))
    ∙ w.left

pub walk_turn : (f : ℕ → ℕ) (xs : List ℕ) (k from at n x m : ℕ) → Chains f xs n → from ≤ n → k < NONE → Walked f k from at → 0 < at
    → x ≡ f (at - 1) → (x ≡ k → ⊥) → m ≡ get_or xs (CHAINS + at - 1) 0 → Walked f k from m × (m < at)
unfolding keyed
walk_turn f xs k from at n x m h b kb w l q o e =
    let a : ℕ = at - 1 in
    let p : ℕ → Bool = in_chain f (k % CHAINS) in
    let (ak, ar) = walk_key f k from at w l in
    let within : at ≤ from = w.within in
    let place : CHAINS + at - 1 ≡ CHAINS + a = omega arith in
    let down : m ≡ last_below p a =
    e
    ∙ ap (λ (y : ℕ). get_or xs y 0) place
    ∙ h.linked a (omega arith)
    ∙ link_is f a ak
    ∙ ap (λ (y : ℕ). last_below (in_chain f y) a) ar in
    let le : last_below p a ≤ a = last_le p a in (
      record {
        within = omega arith;
        end = ap (last_below p) down ∙ last_last p a ∙ sym down;
        left =
            ap (last_below (keyed f k)) down
            ∙ last_through p (keyed f k) (keyed_chain f k kb) a
            ∙ sym (last_miss (keyed f k) a (ne_eqb (f a) k (λ z. o (q ∙ z))))
            ∙ ap (last_below (keyed f k)) (sym (below_it at l))
            ∙ w.left;
      },
      omega arith,
    )

pub walk_end : (f : ℕ → ℕ) (k from at : ℕ) → Walked f k from at → at ≤ 0 → 0 ≡ last_below (keyed f k) from
unfolding last_below
walk_end f k from at w h = let e : at ≡ 0 = omega arith in sym (ap (last_below (keyed f k)) e) ∙ w.left

-- ---- the chains of the keys passed

pub chains_start : (f : ℕ → ℕ) (xs : List ℕ) → Blank xs → Chains f xs 0
unfolding last_below
chains_start f xs e = record {
  ends = λ r h. ap (λ (ys : List ℕ). get_or ys r 0) e ∙ get_or-replicate 640 r 0 0 (omega arith);
  linked = λ j h. absurd (not-suc-le-zero h);
  unlinked = λ j l h. ap (λ (ys : List ℕ). get_or ys (CHAINS + j) 0) e ∙ get_or-replicate 640 (CHAINS + j) 0 0 (omega arith);
  long = ap length e ∙ length-replicate {A = ℕ} 640 0;
}

-- one index more, of which the link is known
linked_more : (f : ℕ → ℕ) (xs : List ℕ) (i : ℕ) → ((j : ℕ) → j < i → get_or xs (CHAINS + j) 0 ≡ link_of f j)
    → get_or xs (CHAINS + i) 0 ≡ link_of f i → (j : ℕ) → j < i + 1 → get_or xs (CHAINS + j) 0 ≡ link_of f j
linked_more f xs i h e j l =
    ⊎_elim
    (λ (q : j ≡ i). subst (λ (x : ℕ). get_or xs (CHAINS + x) 0 ≡ link_of f x) (sym q) e)
    (λ (q : j < i). h j q)
    (last_or_before j i (rw add-one at l))

module _ (f : ℕ → ℕ) (xs : List ℕ) (i : ℕ) (h : Chains f xs i) (few : i < 128) where
  pub chains_skip : NONE ≤ f i → Chains f xs (i + 1)
  unfolding in_chain
  chains_skip b =
      let off : ltb (f i) NONE ≡ false = le-ltb (f i) NONE b in
      record {
        ends = λ r l. h.ends r l ∙ sym (ap (last_below (in_chain f r)) (add-one i) ∙ last_miss (in_chain f r) i (rw off));
        linked = linked_more f xs i h.linked (h.unlinked i (omega arith) few ∙ sym (link_off f i b));
        unlinked = λ j l m. h.unlinked j (omega arith) m;
        long = h.long;
      }

  module _ (k r : ℕ) (ys : List ℕ) (q : k ≡ f i) (b : k < NONE) (e : Entered xs i k ys r) where
    at_end : k % CHAINS < CHAINS
    at_end = mod-lt k (omega arith)

    mid : List ℕ
    mid = set xs (CHAINS + i) r

    mid_long : length mid ≡ 640
    mid_long = unfold mid in length-set xs (CHAINS + i) r ∙ h.long

    -- an index past the ends keeps what it had before the end was set
    past_ends : (j : ℕ) → get_or ys (CHAINS + j) 0 ≡ get_or mid (CHAINS + j) 0
    unfolding mid
    past_ends j =
        ap (λ (zs : List ℕ). get_or zs (CHAINS + j) 0) e.after
        ∙ get_or-set_other (set xs (CHAINS + i) r) (k % CHAINS) (CHAINS + j) (i + 1) 0 (let l = at_end in omega arith)

    pub entered_link : r ≡ link_of f i
    entered_link =
        e.before ∙ h.ends (k % CHAINS) at_end ∙ ap (λ (x : ℕ). last_below (in_chain f (x % CHAINS)) i) q ∙ sym (link_is f i (rw q at b))

    new_link : get_or ys (CHAINS + i) 0 ≡ link_of f i
    unfolding mid
    new_link = past_ends i ∙ get_or-set_same xs (CHAINS + i) r 0 (omega (arith, h.long)) ∙ entered_link

    old_link : (j : ℕ) → (j ≡ i → ⊥) → get_or ys (CHAINS + j) 0 ≡ get_or xs (CHAINS + j) 0
    unfolding mid
    old_link j o = past_ends j ∙ get_or-set_other xs (CHAINS + i) (CHAINS + j) r 0 (λ z. o (omega arith))

    new_end : (c : ℕ) → c < CHAINS → get_or ys c 0 ≡ last_below (in_chain f c) (i + 1)
    unfolding mid in_chain
    new_end c l =
        let on : ltb (f i) NONE ≡ true = lt-ltb (f i) NONE (rw q at b) in
        let up = ap (last_below (in_chain f c)) (add-one i) in
        ap (λ (zs : List ℕ). get_or zs c 0) e.after
        ∙ ⊎_elim
        (λ (s : c ≡ k % CHAINS).
        let s' : f i % CHAINS ≡ c = ap (λ (x : ℕ). x % CHAINS) (sym q) ∙ sym s in
        ap (λ (x : ℕ). get_or (set mid (k % CHAINS) (i + 1)) x 0) s
        ∙ get_or-set_same mid (k % CHAINS) (i + 1) 0 (omega (arith, mid_long, at_end))
        ∙ add-one i
        ∙ sym (up ∙ last_hit (in_chain f c) i (rw on (eq-eqb (f i % CHAINS) c s'))))
        (λ (s : c ≡ k % CHAINS → ⊥).
        let s' : f i % CHAINS ≡ c → ⊥ = λ z. s (sym z ∙ ap (λ (x : ℕ). x % CHAINS) (sym q)) in
        get_or-set_other mid (k % CHAINS) c (i + 1) 0 s
        ∙ get_or-set_other xs (CHAINS + i) c r 0 (omega arith)
        ∙ h.ends c l
        ∙ sym (up ∙ last_miss (in_chain f c) i (rw on (ne_eqb (f i % CHAINS) c s'))))
        (same_or_other c (k % CHAINS))

    pub chains_more : Chains f ys (i + 1)
    unfolding mid
    chains_more = record {
      ends = new_end;
      linked = linked_more f ys i (λ j l. old_link j (omega arith) ∙ h.linked j l) new_link;
      unlinked = λ j l m. old_link j (omega arith) ∙ h.unlinked j (omega arith) m;
      long = ap length e.after ∙ length-set mid (k % CHAINS) (i + 1) ∙ mid_long;
    }

-- ---- distinct keys

-- where s is 0, none of the first i has a link
abbrev pub Alone : (ℕ → ℕ) → ℕ → ℕ → Type 0
Alone f i s = s ≡ 0 → (j : ℕ) → j < i → link_of f j ≡ 0

pub alone_start : (f : ℕ → ℕ) → Alone f 0 0
alone_start f z j l = absurd (not-suc-le-zero l)

alone_step : (f : ℕ → ℕ) (i s t : ℕ) → Alone f i s → (t ≡ 0 → (s ≡ 0) × (link_of f i ≡ 0)) → Alone f (i + 1) t
alone_step f i s t h e z j l =
    let (zs, zi) = e z in
    ⊎_elim (λ (q : j ≡ i). ap (link_of f) q ∙ zi) (λ (q : j < i). h zs j q) (last_or_before j i (rw add-one at l))

pub alone_skip : (f : ℕ → ℕ) (i s : ℕ) → Alone f i s → NONE ≤ f i → Alone f (i + 1) s
alone_skip f i s h b = alone_step f i s s h (λ z. (z, link_off f i b))

pub alone_more : (f : ℕ → ℕ) (i s r : ℕ) → Alone f i s → r ≡ link_of f i → Alone f (i + 1) (bit_or s r)
alone_more f i s r h e =
    alone_step f i s (bit_or s r) h
    (λ z.
    let y = sym (or_zero s r) ∙ eq-eqb (bit_or s r) 0 z in
    (eqb-true s 0 (and_left (eqb s 0) _ y), sym e ∙ eqb-true r 0 (and_right (eqb s 0) _ y)))

-- an index whose key none before it has
last_lone : (f : ℕ → ℕ) (i : ℕ) → last_below (keyed f (f i)) i ≡ 0 → lone f NONE i ≡ true
unfolding lone
last_lone f i z = ap not (and_fails (ltb (f i) NONE) _ (any_none (keyed f (f i)) i (last_none (keyed f (f i)) i z)))

pub link_lone : (f : ℕ → ℕ) (i : ℕ) → link_of f i ≡ 0 → lone f NONE i ≡ true
unfolding lone last_below
link_lone f i z =
    ⊎_elim
    (λ (b : f i < NONE).
    last_lone f i (sym (link_through f i (f i) refl b) ∙ ap (last_below (keyed f (f i))) z))
    (λ (b : NONE ≤ f i). rw (le-ltb (f i) NONE b))
    (below_or_above (f i) NONE)

pub alone_distinct : (f : ℕ → ℕ) (n s : ℕ) → Alone f n s → s ≡ 0 → distinct f NONE n ≡ true
unfolding distinct
alone_distinct f n s h z = all_of (lone f NONE) n (λ i l. link_lone f i (h z i l))

-- index i with its link, and what a walk from there found of its key
module _ (f : ℕ → ℕ) (xs : List ℕ) (i n from : ℕ) (h : Chains f xs n) (l : i < n) (e : from ≡ get_or xs (CHAINS + i) 0) where
  from_link : from ≡ link_of f i
  from_link = e ∙ h.linked i l

  pub unlinked_lone : from ≡ 0 → lone f NONE i ≡ true
  unlinked_lone z = link_lone f i (sym from_link ∙ z)

  module _ (o : from ≡ 0 → ⊥) where
    pub linked_key : f i < NONE
    linked_key = link_key f i (λ z. o (from_link ∙ z))

    pub linked_end : (k : ℕ) → k ≡ f i → (k < NONE) × (from ≤ n) × (last_below (in_chain f (k % CHAINS)) from ≡ from)
    linked_end k q =
        let p : ℕ → Bool = in_chain f (f i % CHAINS) in
        let z : from ≡ last_below p i = from_link ∙ link_is f i linked_key in
        let le : last_below p i ≤ i = last_le p i in
        let end : last_below p from ≡ from = ap (last_below p) z ∙ last_last p i ∙ sym z in
        (rw q linked_key, omega arith, subst (λ (x : ℕ). last_below (in_chain f (x % CHAINS)) from ≡ from) (sym q) end)

    module _ (k r : ℕ) (q : k ≡ f i) (w : r ≡ last_below (keyed f k) from) where
      walked : r ≡ last_below (keyed f (f i)) i
      walked =
          w ∙ ap (last_below (keyed f k)) from_link ∙ link_through f i k q linked_key ∙ ap (λ (x : ℕ). last_below (keyed f x) i) q

      pub linked_lone : r ≡ 0 → lone f NONE i ≡ true
      linked_lone z = last_lone f i (sym walked ∙ z)

      pub linked_clash : (r ≡ 0 → ⊥) → false ≡ distinct f NONE n
      unfolding distinct lone
      linked_clash z =
          let p : ℕ → Bool = keyed f (f i) in
          let le : last_below p i ≤ i = last_le p i in
          let o' : last_below p i ≡ 0 → ⊥ = λ y. z (walked ∙ y) in
          let found : any_below p i ≡ true = any_found p i (last_below p i - 1) (omega arith) (last_some p i o') in
          sym (all_fails (lone f NONE) n i l (rw (lt-ltb (f i) NONE linked_key, found)))

-- ---- where a key stands

module _ (f : ℕ → ℕ) (xs : List ℕ) (n k : ℕ) (h : Chains f xs n) (b : k < NONE) where
  -- the end of the chain of k
  pub end_of : (from : ℕ) → from ≡ get_or xs (k % CHAINS) 0 → (from ≤ n) × (last_below (in_chain f (k % CHAINS)) from ≡ from)
  end_of from e =
      let p : ℕ → Bool = in_chain f (k % CHAINS) in
      let q : from ≡ last_below p n = e ∙ h.ends (k % CHAINS) (mod-lt k (omega arith)) in
      (omega (arith, last_le p n), ap (last_below p) q ∙ last_last p n ∙ sym q)

  module _ (from r : ℕ) (e : from ≡ get_or xs (k % CHAINS) 0) (w : r ≡ last_below (keyed f k) from) where
    last_of : r ≡ last_below (keyed f k) n
    last_of =
        w ∙ ap (last_below (keyed f k)) (e ∙ h.ends (k % CHAINS) (mod-lt k (omega arith)))
        ∙ last_through (in_chain f (k % CHAINS)) (keyed f k) (keyed_chain f k b) n

    pub found_nowhere : r ≡ 0 → n ≡ first_below (keyed f k) n
    found_nowhere z = sym (first_none (keyed f k) n (last_none (keyed f k) n (sym last_of ∙ z)))

    -- of distinct keys the last is the first
    pub found_there : distinct f NONE n ≡ true → (r ≡ 0 → ⊥) → r - 1 ≡ first_below (keyed f k) n
    unfolding keyed
    found_there d o =
        let p : ℕ → Bool = keyed f k in
        let le : last_below p n ≤ n = last_le p n in
        let o' : last_below p n ≡ 0 → ⊥ = λ y. o (last_of ∙ y) in
        let a : ℕ = last_below p n - 1 in
        let has : p a ≡ true = last_some p n o' in
        let ka : f a ≡ k = eqb-true (f a) k has in
        ap (λ (x : ℕ). x - 1) last_of
        ∙ sym
        (first_at p n a (omega arith) has
        (λ j l. ne_eqb (f j) k (λ z. distinct_at f NONE n a j d l (omega arith) (rw ka b) (z ∙ sym ka))))
