-- The table at start: each place has its own number. Assumes nothing.
use Prim.Native.Nat.{ℕ, ◌<◌}
use mathlib.Core.List.{List}
use mathlib.Core.Path.{◌≡◌, sym, ◌∙◌}
use native.Mathlib.Omega.{arith}
use lib.ListN.{length, get_or}
use lib.Seq.{ext_get_or}
use Rattle.protocol.specs.Recency.{ascending}
use Rattle.protocol.proofs.Recency.{each_length, each_at}

pub ascends : (s : List ℕ) → length s ≡ 128 → ((i : ℕ) → i < 128 → get_or s i 0 ≡ i) → s ≡ ascending
unfolding ascending
ascends s e h = ext_get_or 0 s ascending (e ∙ sym (each_length 128)) (λ i l. h i (omega arith) ∙ sym (each_at 128 i (omega arith)))
