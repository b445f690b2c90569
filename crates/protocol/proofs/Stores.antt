-- Laws of stores: what a list of them leaves, cut anywhere; stores confined to a part of one medium; and properties that hold at every cut.
-- Assumes nothing.
use Prim.Native.Nat.{ℕ, zero, suc, ◌+◌, ◌*◌, ◌-◌, ◌≤◌, ◌<◌}
use mathlib.Core.List.{List, [], ◌∷◌, ◌++◌, append_assoc, append-nil}
use mathlib.Core.Bool.{Bool, true, false, cond}
use mathlib.Core.Path.{◌≡◌, refl, sym, ap, subst, ◌∙◌}
use mathlib.Core.Logic.{◌⊎◌, ⊎_elim}
use native.Mathlib.Nat.{suc-mul, sub-zero, zero-mul}
use native.Mathlib.Omega.{arith}
use lib.ListN.{length, take, drop, length-take, length-drop, length-append}
use lib.Seq.{take_all, take-add}
use lib.Dec.{eqb, leb}
use borrow.Author.Tests.{le-leb, lt-leb}
use Rattle.numbers.specs.Bytes.{part, patch}
use Rattle.numbers.proofs.Laws.{length-patch, patch_nil, patch_append, part-patch_same, part-patch-before, part-patch-after}
use Rattle.protocol.specs.Below.{each_below}
use Rattle.protocol.specs.Store.{Medium, card, disk, Store, Run, is_on, stored_on, made_on, flat, chosen, landed, made, single, units}
use Rattle.protocol.proofs.Below.{below_or_above}

-- ---- lists of stores

pub is_on_lem : (m : Medium) → is_on m m ≡ true
unfolding is_on
is_on_lem card = refl
is_on_lem disk = refl

pub length_stored : (m : Medium) (s : Store) (xs : List ℕ) → length (stored_on m s xs) ≡ length xs
unfolding stored_on
length_stored m s xs = go (is_on m s.medium)
  where
    go : (b : Bool) → length (cond b (patch xs s.place s.bytes) xs) ≡ length xs
    go true = length-patch xs s.place s.bytes
    go false = refl

pub length-made : (m : Medium) (ss : List Store) (xs : List ℕ) → length (made_on m ss xs) ≡ length xs
unfolding made_on
length-made m [] xs = refl
length-made m (s ∷ ss) xs = length-made m ss (stored_on m s xs) ∙ length_stored m s xs

-- stores after stores
pub made_append : (m : Medium) (ss ts : List Store) (xs : List ℕ) → made_on m (ss ++ ts) xs ≡ made_on m ts (made_on m ss xs)
unfolding made_on
made_append m [] ts xs = refl
made_append m (s ∷ ss) ts xs = made_append m ss ts (stored_on m s xs)

pub flat_append : (rs qs : List Run) → flat (rs ++ qs) ≡ flat rs ++ flat qs
unfolding flat
flat_append [] qs = refl
flat_append (r ∷ rs) qs = ap (λ (z : List Store). r.stores ++ z) (flat_append rs qs) ∙ sym (append_assoc r.stores (flat rs) (flat qs))

-- runs after runs
pub made_runs : (m : Medium) (rs qs : List Run) (xs : List ℕ) → made_on m (flat (rs ++ qs)) xs ≡ made_on m (flat qs) (made_on m (flat rs) xs)
made_runs m rs qs xs = ap (λ (ss : List Store). made_on m ss xs) (flat_append rs qs) ∙ made_append m (flat rs) (flat qs) xs

pub flat-single : (s : Store) → flat (single s) ≡ s ∷ []
unfolding flat single
flat-single s = refl

pub flat_last : (rs : List Run) (s : Store) → flat (rs ++ single s) ≡ flat rs ++ (s ∷ [])
flat_last rs s = flat_append rs (single s) ∙ ap (λ (ss : List Store). flat rs ++ ss) (flat-single s)

-- ---- runs under an allowance and a choice

-- the allowance is spent on the first runs, and what is left of it on the others
pub runs_past : (a : ℕ) (ch : List ℕ) (rs qs : List Run) → length (flat rs) ≤ a → made a ch (rs ++ qs) ≡ flat rs ++ made (a - length (flat rs)) ch qs
unfolding flat made
runs_past a ch [] qs h = rw sub-zero
runs_past a ch (r ∷ rs) qs h =
    let n = length-append r.stores (flat rs) in
    let k : length r.stores ≤ a = omega arith in
    let m : length (flat rs) ≤ a - length r.stores = omega arith in
    let e : a - length r.stores - length (flat rs) ≡ a - length (r.stores ++ flat rs) = omega arith in
    rw (le-leb (length r.stores) a k)
    (ap (λ (z : List Store). r.stores ++ z) (runs_past (a - length r.stores) ch rs qs m)
    ∙ sym (append_assoc r.stores (flat rs) (made (a - length r.stores - length (flat rs)) ch qs))
    ∙ ap (λ (z : ℕ). (r.stores ++ flat rs) ++ made z ch qs) e)

-- and where it ends within them the others have none
pub runs_within : (a : ℕ) (ch : List ℕ) (rs qs : List Run) → a < length (flat rs) → made a ch (rs ++ qs) ≡ made a ch rs
unfolding flat made
runs_within a ch [] qs h = absurd (omega arith)
runs_within a ch (r ∷ rs) qs h =
    ⊎_elim
    (λ l. rw (lt-leb (length r.stores) a l))
    (λ l.
    let n = length-append r.stores (flat rs) in
    let k : a - length r.stores < length (flat rs) = omega arith in
    rw (le-leb (length r.stores) a l) (ap (λ (z : List Store). r.stores ++ z) (runs_within (a - length r.stores) ch rs qs k)))
    (below_or_above a (length r.stores))

-- an allowance of as many makes all
pub runs_covered : (a : ℕ) (ch : List ℕ) (rs : List Run) → length (flat rs) ≤ a → made a ch rs ≡ flat rs
unfolding made
runs_covered a ch rs h =
    ap (made a ch) (sym (append-nil rs)) ∙ runs_past a ch rs [] h ∙ append-nil (flat rs)

-- a single store is made where the allowance has one
pub single-made : (a : ℕ) (ch : List ℕ) (s : Store) → made (suc a) ch (single s) ≡ s ∷ []
unfolding made single
single-made a ch s = let k : 1 ≤ suc a = omega arith in rw (le-leb 1 (suc a) k)

pub single_cut : (ch : List ℕ) (s : Store) → made 0 ch (single s) ≡ []
unfolding made single landed
single_cut ch s = refl

-- runs of which nothing is made without an allowance, behind runs that take all of it
pub runs_before : (a : ℕ) (ch : List ℕ) (rs qs : List Run) → made 0 ch qs ≡ [] → a ≤ length (flat rs) → made a ch (rs ++ qs) ≡ made a ch rs
runs_before a ch rs qs none h =
    ⊎_elim
    (λ l. runs_within a ch rs qs l)
    (λ l.
    let z : a - length (flat rs) ≡ 0 = omega arith in
    runs_past a ch rs qs l
    ∙ ap (λ (k : ℕ). flat rs ++ made k ch qs) z
    ∙ ap (λ (ss : List Store). flat rs ++ ss) none
    ∙ append-nil (flat rs)
    ∙ sym (runs_covered a ch rs l))
    (below_or_above a (length (flat rs)))

-- a single store that comes last is not made where the runs are cut
pub last_cut : (a : ℕ) (ch : List ℕ) (rs : List Run) (s : Store) → a < length (flat (rs ++ single s)) → made a ch (rs ++ single s) ≡ made a ch rs
last_cut a ch rs s l =
    let short : a ≤ length (flat rs) = omega (arith, ap length (flat_last rs s), length-append (flat rs) (s ∷ [])) in
    runs_before a ch rs (single s) (single_cut ch s) short

-- ---- stores confined to n bytes from `at` of one medium

pub record Held (m : Medium) (at n : ℕ) (s : Store) : Type 0 where
  pub on : s.medium ≡ m
  pub from : at ≤ s.place
  pub to : s.place + length s.bytes ≤ at + n

abbrev pub Confined : Medium → ℕ → ℕ → List Store → Type 0
Confined m at n [] = Unit
Confined m at n (s ∷ ss) = Held m at n s × Confined m at n ss

-- ts are some of the stores ss: wherever those are confined to, so are these
abbrev pub Some : List Store → List Store → Type 0
Some ts ss = (m : Medium) (at n : ℕ) → Confined m at n ss → Confined m at n ts

confined_chosen : (m : Medium) (at n : ℕ) (ch : List ℕ) (ss : List Store) → Confined m at n ss → Confined m at n (chosen ch ss)
unfolding chosen
confined_chosen m at n ch [] h = tt
confined_chosen m at n [] (s ∷ ss) h = tt
confined_chosen m at n (x ∷ ch) (s ∷ ss) h = go (eqb x 1) (confined_chosen m at n ch ss h.1)
  where
    go : (b : Bool) → Confined m at n (chosen ch ss) → Confined m at n (cond b (s ∷ chosen ch ss) (chosen ch ss))
    go true k = (h.0, k)
    go false k = k

module _ (m : Medium) (at n : ℕ) where
  pub confined_append : (ss ts : List Store) → Confined m at n ss → Confined m at n ts → Confined m at n (ss ++ ts)
  confined_append [] ts x y = y
  confined_append (s ∷ ss) ts x y = (x.0, confined_append ss ts x.1 y)

  confined_front : (ss ts : List Store) → Confined m at n (ss ++ ts) → Confined m at n ss
  confined_front [] ts x = tt
  confined_front (s ∷ ss) ts x = (x.0, confined_front ss ts x.1)

  confined_back : (ss ts : List Store) → Confined m at n (ss ++ ts) → Confined m at n ts
  confined_back [] ts x = x
  confined_back (s ∷ ss) ts x = confined_back ss ts x.1

-- what is made of the runs, whatever the allowance and the choice
pub some_runs : (a : ℕ) (ch : List ℕ) (rs : List Run) → Some (made a ch rs) (flat rs)
unfolding made landed flat
some_runs a ch [] m at n h = tt
some_runs a ch (r ∷ rs) m at n h =
    go (leb (length r.stores) a) r.unordered
    (confined_front m at n r.stores (flat rs) h)
    (some_runs (a - length r.stores) ch rs m at n (confined_back m at n r.stores (flat rs) h))
  where
    go : (b u : Bool) → Confined m at n r.stores → Confined m at n (made (a - length r.stores) ch rs)
        → Confined m at n (cond b (r.stores ++ made (a - length r.stores) ch rs) (cond u (chosen ch r.stores) []))
    go true u x y = confined_append m at n r.stores (made (a - length r.stores) ch rs) x y
    go false true x y = confined_chosen m at n ch r.stores x
    go false false x y = tt

-- and of one run
pub some_made : (a : ℕ) (ch : List ℕ) (r : Run) → Some (made a ch (r ∷ [])) r.stores
unfolding flat
some_made a ch r m at n h = some_runs a ch (r ∷ []) m at n (subst (Confined m at n) (sym (append-nil r.stores)) h)

-- what lies outside stays
pub confined_part : (m : Medium) (at n : ℕ) (ss : List Store) (xs : List ℕ) (from k : ℕ) → Confined m at n ss
    → (at + n ≤ from) ⊎ (from + k ≤ at) → part (made_on m ss xs) from k ≡ part xs from k
unfolding made_on stored_on
confined_part m at n [] xs from k h d = refl
confined_part m at n (s ∷ ss) xs from k h d =
    confined_part m at n ss (cond (is_on m s.medium) (patch xs s.place s.bytes) xs) from k h.1 d ∙ here
  where
    held : Held m at n s
    held = h.0

    kept : part (patch xs s.place s.bytes) from k ≡ part xs from k
    kept =
        ⊎_elim
        (λ l. let f : s.place + length s.bytes ≤ from = omega (arith, held.to) in part-patch-after xs s.place s.bytes from k f)
        (λ l. let f : from + k ≤ s.place = omega (arith, held.from) in part-patch-before xs s.place s.bytes from k f)
        d

    here : part (cond (is_on m s.medium) (patch xs s.place s.bytes) xs) from k ≡ part xs from k
    here = rw (held.on, is_on_lem m) kept

-- and so does the other medium
pub confined_elsewhere : (m o : Medium) (at n : ℕ) (ss : List Store) (xs : List ℕ) → Confined m at n ss → is_on o m ≡ false → made_on o ss xs ≡ xs
unfolding made_on stored_on
confined_elsewhere m o at n [] xs h d = refl
confined_elsewhere m o at n (s ∷ ss) xs h d =
    ap (made_on o ss) here ∙ confined_elsewhere m o at n ss xs h.1 d
  where
    held : Held m at n s
    held = h.0

    here : cond (is_on o s.medium) (patch xs s.place s.bytes) xs ≡ xs
    here = rw (held.on, d)

-- units side by side are confined to their bytes
pub units_confined : (m : Medium) (w n at : ℕ) (bs : List ℕ) → Confined m at (n * w) (units m w n at bs)
unfolding units
units_confined m w n at bs = go n at bs at (n * w) (omega arith) (omega arith)
  where
    go : (n at : ℕ) (bs : List ℕ) (lo k : ℕ) → lo ≤ at → at + n * w ≤ lo + k → Confined m lo k (units m w n at bs)
    go zero at bs lo k l h = tt
    go (suc n) at bs lo k l h =
        let x : suc n * w ≡ n * w + w = suc-mul n w in
        let short : length (take w bs) ≤ w = omega (arith, length-take w bs) in
        (record { on = refl; from = l; to = omega arith }, go n (at + w) (drop w bs) lo k (omega arith) (omega arith))

-- the first a of n units of w bytes put their bytes side by side
pub units-made : (m : Medium) (w a n at : ℕ) (bs xs : List ℕ) → a ≤ n → n * w ≤ length bs
    → made_on m (take a (units m w n at bs)) xs ≡ patch xs at (take (a * w) bs)
unfolding units made_on stored_on
units-made m w zero zero at bs xs l h = rw zero-mul (sym (patch_nil xs at))
units-made m w zero (suc n) at bs xs l h = rw zero-mul (sym (patch_nil xs at))
units-made m w (suc a) zero at bs xs l h = absurd (omega arith)
units-made m w (suc a) (suc n) at bs xs l h =
    let y : suc n * w ≡ n * w + w = suc-mul n w in
    let x : suc a * w ≡ w + a * w = omega (arith, suc-mul a w) in
    let k : length (take w bs) ≡ w = omega (arith, length-take w bs) in
    let r : n * w ≤ length (drop w bs) = omega (arith, length-drop w bs) in
    let ih = units-made m w a n (at + w) (drop w bs) (patch xs at (take w bs)) (omega arith) r in
    rw is_on_lem
    (ih
    ∙ ap (λ (z : ℕ). patch (patch xs at (take w bs)) (at + z) (take (a * w) (drop w bs))) (sym k)
    ∙ sym (patch_append xs at (take w bs) (take (a * w) (drop w bs)))
    ∙ ap (patch xs at) (sym (take-add w (a * w) bs) ∙ ap (λ (z : ℕ). take z bs) (sym x)))

pub length-units : (m : Medium) (w n at : ℕ) (bs : List ℕ) → length (units m w n at bs) ≡ n
unfolding units
length-units m w zero at bs = refl
length-units m w (suc n) at bs = ap suc (length-units m w n (at + w) (drop w bs))

-- all of them put all the bytes
pub units_stored : (m : Medium) (w n at : ℕ) (bs xs : List ℕ) → n * w ≡ length bs → at + length bs ≤ length xs
    → part (made_on m (units m w n at bs) xs) at (length bs) ≡ bs
units_stored m w n at bs xs e h =
    ap (λ (z : List ℕ). part z at (length bs))
    (ap (λ (ss : List Store). made_on m ss xs) (sym (take_all n _ (omega (arith, length-units m w n at bs))))
    ∙ units-made m w n n at bs xs (omega arith) (omega arith)
    ∙ ap (patch xs at) (take_all (n * w) bs (omega arith)))
    ∙ part-patch_same xs at bs (length bs) refl h

-- ---- properties at every cut

-- P holds wherever the runs are cut, whatever is chosen there, and Q where all stores are made
pub record Along (P Q : List ℕ → List ℕ → Type 0) (rs : List Run) (c d : List ℕ) : Type 0 where
  pub during : (a : ℕ) (ch : List ℕ) → P (made_on card (made a ch rs) c) (made_on disk (made a ch rs) d)
  pub end : Q (made_on card (flat rs) c) (made_on disk (flat rs) d)

-- the same of two lists that are what these are
pub both : (T : List ℕ → List ℕ → Type 0) {a b a' b' : List ℕ} → a ≡ b → a' ≡ b' → T a a' → T b b'
both T {a} {b} {a'} {b'} p q t = subst (λ (z : List ℕ). T b z) q (subst (λ (z : List ℕ). T z a') p t)

-- runs, then runs on what they leave
pub along_next : {P Q R : List ℕ → List ℕ → Type 0} (rs qs : List Run) (c d : List ℕ) → Along P Q rs c d
    → Along P R qs (made_on card (flat rs) c) (made_on disk (flat rs) d) → Along P R (rs ++ qs) c d
along_next {P} {Q} {R} rs qs c d x next =
    record { during = cut; end = both R (sym (made_runs card rs qs c)) (sym (made_runs disk rs qs d)) next.end }
  where
    all : (m : Medium) (a : ℕ) (ch xs : List ℕ) → length (flat rs) ≤ a
        → made_on m (made a ch (rs ++ qs)) xs ≡ made_on m (made (a - length (flat rs)) ch qs) (made_on m (flat rs) xs)
    all m a ch xs l = ap (λ (ss : List Store). made_on m ss xs) (runs_past a ch rs qs l) ∙ made_append m (flat rs) _ xs

    some : (m : Medium) (a : ℕ) (ch xs : List ℕ) → a < length (flat rs) → made_on m (made a ch (rs ++ qs)) xs ≡ made_on m (made a ch rs) xs
    some m a ch xs l = ap (λ (ss : List Store). made_on m ss xs) (runs_within a ch rs qs l)

    cut : (a : ℕ) (ch : List ℕ) → P (made_on card (made a ch (rs ++ qs)) c) (made_on disk (made a ch (rs ++ qs)) d)
    cut a ch =
        ⊎_elim
        (λ l. both P (sym (some card a ch c l)) (sym (some disk a ch d l)) (x.during a ch))
        (λ l. both P (sym (all card a ch c l)) (sym (all disk a ch d l)) (next.during (a - length (flat rs)) ch))
        (below_or_above a (length (flat rs)))

pub along_then : {P Q R : List ℕ → List ℕ → Type 0} (rs qs : List Run) (c d : List ℕ) → Along P Q rs c d
    → ((c' d' : List ℕ) → Q c' d' → Along P R qs c' d') → Along P R (rs ++ qs) c d
along_then rs qs c d x f = along_next rs qs c d x (f (made_on card (flat rs) c) (made_on disk (flat rs) d) x.end)

pub along_map : {P Q P' Q' : List ℕ → List ℕ → Type 0} {rs : List Run} {c d : List ℕ} → ((c' d' : List ℕ) → P c' d' → P' c' d')
    → ((c' d' : List ℕ) → Q c' d' → Q' c' d') → Along P Q rs c d → Along P' Q' rs c d
along_map p q x = record { during = λ a ch. p _ _ (x.during a ch); end = q _ _ x.end }

pub along_none : {P Q : List ℕ → List ℕ → Type 0} (c d : List ℕ) → P c d → Q c d → Along P Q [] c d
unfolding made_on made flat
along_none {P} {Q} c d p q = record { during = λ a ch. p; end = q }

-- one store: P before it and after it
pub along_one : {P Q : List ℕ → List ℕ → Type 0} (s : Store) (c d : List ℕ) → P c d
    → P (stored_on card s c) (stored_on disk s d) → Q (stored_on card s c) (stored_on disk s d) → Along P Q (single s) c d
unfolding made_on
along_one {P} {Q} s c d p q r =
    record { during = cut; end = subst (λ (ss : List Store). Q (made_on card ss c) (made_on disk ss d)) (sym (flat-single s)) r }
  where
    to : {ss ts : List Store} → ss ≡ ts → P (made_on card ts c) (made_on disk ts d) → P (made_on card ss c) (made_on disk ss d)
    to e h = subst (λ (us : List Store). P (made_on card us c) (made_on disk us d)) (sym e) h

    cut : (a : ℕ) (ch : List ℕ) → P (made_on card (made a ch (single s)) c) (made_on disk (made a ch (single s)) d)
    cut zero ch = to (single_cut ch s) p
    cut (suc a) ch = to (single-made a ch s) q

-- a run: P whichever of its stores are made
pub along_run : {P Q : List ℕ → List ℕ → Type 0} (r : Run) (c d : List ℕ)
    → ((ts : List Store) → Some ts r.stores → P (made_on card ts c) (made_on disk ts d))
    → (P (made_on card r.stores c) (made_on disk r.stores d) → Q (made_on card r.stores c) (made_on disk r.stores d))
    → Along P Q (r ∷ []) c d
unfolding flat
along_run {P} {Q} r c d p q =
    record {
      during = λ a ch. p (made a ch (r ∷ [])) (some_made a ch r);
      end =
          subst (λ (ss : List Store). Q (made_on card ss c) (made_on disk ss d)) (sym (append-nil r.stores))
          (q (p r.stores (λ m at n h. h)));
    }

-- turn by turn: Q i holds before the runs of f i, and Q (i + 1) after them
pub along_each : {P : List ℕ → List ℕ → Type 0} (Q : ℕ → List ℕ → List ℕ → Type 0) (f : ℕ → List Run) (n : ℕ) (c d : List ℕ)
    → P c d → Q 0 c d
    → ((i : ℕ) (c' d' : List ℕ) → i < n → Q i c' d' → Along P (Q (suc i)) (f i) c' d')
    → Along P (Q n) (each_below f n) c d
unfolding each_below
along_each {P} Q f zero c d p q step = along_none c d p q
along_each {P} Q f (suc n) c d p q step =
    along_then (each_below f n) (f n) c d
    (along_each Q f n c d p q (λ i c' d' l. step i c' d' (omega arith)))
    (λ c' d'. step n c' d' (omega arith))
