-- What is put at the front of the zeros is shorter than they are, so that the last of them stays.
use mathlib.Core.Path.{◌≡◌, refl, ap, ◌∙◌}
use mathlib.Core.List.{List, ◌++◌}
use Prim.Native.Nat.{ℕ, suc, ◌+◌, ◌-◌, ◌≤◌}
use native.Mathlib.Omega.{arith}
use lib.ListN.{length, get_or, drop, replicate, length-replicate, get_or-replicate}
use lib.Seq.{get_or-append-add, get_or-drop}
use Rattle.numbers.specs.Bytes.{part, patch}
use Rattle.numbers.proofs.Laws.{part_all, patch_as_parts}
use Rattle.kind.proofs.ended.Goals as goal

abbrev zeros : ℕ → List ℕ
zeros n = replicate n 0

last-zero : (n : ℕ) (p : List ℕ) → length p ≤ n → get_or (patch (zeros (suc n)) 0 p) n 1 ≡ 0
last-zero n p h =
    let rest : List ℕ = drop (0 + length p) (zeros (suc n)) in
    let fits : 0 + length p ≤ length (zeros (suc n)) = rw length-replicate (omega arith) in
    ap (λ (r : List ℕ). get_or r n 1) (patch_as_parts (zeros (suc n)) 0 p fits)
    ∙ ap (λ (k : ℕ). get_or (p ++ rest) k 1) (omega arith)
    ∙ get_or-append-add p rest (n - length p) 1
    ∙ get_or-drop (0 + length p) (zeros (suc n)) (n - length p) 1
    ∙ get_or-replicate (suc n) (0 + length p + (n - length p)) 0 1 (omega arith)

put : (n : ℕ) (p r : List ℕ) → length p ≤ n → r ≡ patch (zeros (suc n)) 0 (part p 0 (length p)) → (r ≡ patch (zeros (suc n)) 0 p) × (get_or r n 1 ≡ 0)
put n p r h e =
    let whole : r ≡ patch (zeros (suc n)) 0 p = e ∙ ap (patch (zeros (suc n)) 0) (part_all p (length p) refl) in
    (whole, ap (λ (l : List ℕ). get_or l n 1) whole ∙ last-zero n p h)

pub returns : goal.returns
returns c = put 4095 c.args.path.now c.copy.new.dst (omega arith) c.copy.ensures
