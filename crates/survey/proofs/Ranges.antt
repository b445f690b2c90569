-- A test of the numbers below a count, as a chain over the range asks for it. Assumes nothing.
use Rattle.std.proofs.Common.{ℕ, zero, suc, ◌+◌, [], ◌∷◌, ◌++◌, Bool, ◌||◌, ◌≡◌, refl, ap, ◌∙◌, arith}
use Rattle.std.specs.List.{range_with_len, list_any}
use Rattle.std.proofs.lemmas.List.Folds.{list_any-append}
use Rattle.protocol.specs.Below.{any_below}
use Rattle.protocol.proofs.Below.{or_none}

-- the last number of a range stands at its end
pub range_more : (a n : ℕ) → range_with_len a (suc n) ≡ range_with_len a n ++ (a + n) ∷ []
range_more a zero = let e : a ≡ a + 0 = omega arith in ap (λ (x : ℕ). x ∷ []) e
range_more a (suc n) =
    let e : (a + 1) + n ≡ a + suc n = omega arith in
    ap (◌∷◌ a) (range_more (a + 1) n ∙ ap (λ (x : ℕ). range_with_len (a + 1) n ++ x ∷ []) e)

pub any_range : (p : ℕ → Bool) (n : ℕ) → list_any p (range_with_len 0 n) ≡ any_below p n
unfolding any_below
any_range p zero = refl
any_range p (suc n) =
    let e : 0 + n ≡ n = omega arith in
    ap (list_any p) (range_more 0 n ∙ ap (λ (x : ℕ). range_with_len 0 n ++ x ∷ []) e)
    ∙ list_any-append p (range_with_len 0 n) (n ∷ [])
    ∙ (λ t. any_range p n t || or_none (p n) t)
