-- What an entry caches, by the tests of its place and its flags, after the checks in their order. Assumes nothing.
use Prim.Native.Nat.{ℕ, ◌≤◌, ◌<◌}
use mathlib.Core.List.{List}
use mathlib.Core.Bool.{Bool, true, false, cond, not}
use mathlib.Core.Path.{◌≡◌, sym, ap, ◌∙◌}
use borrow.Author.Tests.{lt-ltb, le-ltb, eq-eqb, ne_eqb, not-true, not-false}
use Rattle.protocol.specs.declared.Entry.{Entry}
use Rattle.protocol.specs.declared.Geometry.{Geometry}
use Rattle.protocol.specs.Layout.{geometry_of}
use Rattle.protocol.specs.Entry.{entry_at, in_use, is_modified}
use Rattle.protocol.specs.Ring.{used_at}
use Rattle.protocol.specs.Check.{fit_refusal, card_refusal}
use Rattle.protocol.proofs.Checks.{or_else_first, or_else_next}
use Rattle.ring.specs.declared.Fit.{Fit}
use Rattle.ring.specs.Fitted.{Opened}
use Rattle.lookup.specs.declared.Cached.{Cached}
use Rattle.lookup.specs.declared.Cached.TheVariants.{Block, Nothing, Refused}
use Rattle.lookup.specs.Cached.{cached_in, cached_refusal, cached_at}

-- ---- the entry

pub nothing_there : (g : Geometry) (c : List ℕ) (i : ℕ) → g.blocks ≤ i → Nothing ≡ cached_in g c i
unfolding cached_in
nothing_there g c i h = rw (le-ltb i g.blocks h)

module _ (g : Geometry) (c : List ℕ) (i : ℕ) (e : Entry) (u : Bool) (l : i < g.blocks) (is : e ≡ entry_at g c i) (ue : u ≡ in_use e) where
  used_is : used_at g c i ≡ u
  unfolding used_at
  used_is = sym (ue ∙ ap in_use is)

  pub nothing_used : not u ≡ true → Nothing ≡ cached_in g c i
  unfolding cached_in
  nothing_used n = rw (lt-ltb i g.blocks l, used_is, not-true u n)

  pub block_told : (m : Bool) → not u ≡ false → m ≡ is_modified e → Block e.number m ≡ cached_in g c i
  unfolding cached_in
  block_told m n me = rw (lt-ltb i g.blocks l, used_is, not-false u n) ((λ t. Block (is t).number (me t)) ∙ ap (λ (x : Entry). Block (entry_at g c i).number (is_modified x)) is)

-- ---- the call

refused : (c : List ℕ) (i r : ℕ) → r ≡ cached_refusal c → (r ≡ 0 → ⊥) → Refused r ≡ cached_at c i
unfolding cached_at
refused c i r e h =
    ap Refused e ∙ sym (ap (λ (t : Bool). cond t (cached_in (geometry_of c) c i) (Refused (cached_refusal c))) (ne_eqb _ _ (λ z. h (e ∙ z))))

module _ (c : List ℕ) (i : ℕ) (f : Fit) (o : Opened 2 2 c f) where
  pub cached_unfit : (f.refusal ≡ 0 → ⊥) → Refused f.refusal ≡ cached_at c i
  unfolding cached_refusal
  cached_unfit h = refused c i f.refusal (or_else_first f.refusal (fit_refusal 2 2 c) _ o.refusal_is h) h

  module _ (z : f.refusal ≡ 0) (r : ℕ) (re : r ≡ card_refusal f.geometry c) where
    own : f.geometry ≡ geometry_of c
    own = (o.framed z).geometry_is

    refusal_is : r ≡ cached_refusal c
    unfolding cached_refusal
    refusal_is = or_else_next r (fit_refusal 2 2 c) _ (sym z ∙ o.refusal_is) (re ∙ ap (λ (x : Geometry). card_refusal x c) own)

    pub cached_refused : (r ≡ 0 → ⊥) → Refused r ≡ cached_at c i
    cached_refused h = refused c i r refusal_is h

    pub cached-told : (k : Cached) → r ≡ 0 → k ≡ cached_in f.geometry c i → k ≡ cached_at c i
    unfolding cached_at
    cached-told k y q = rw (eq-eqb _ _ (sym refusal_is ∙ y)) (q ∙ ap (λ (x : Geometry). cached_in x c i) own)
