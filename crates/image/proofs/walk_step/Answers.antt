-- `walk_step` takes what has come so far one step further: one law for each way through it.
use mathlib.Core.List.{[]}
use borrow.Author.Rules.{rules}
use Rattle.recovery.specs.Step.{step_stores}
use Rattle.recovery.proofs.Turns.{step_fits, step_none}
use Rattle.recovery.proofs.Spelling.{no_store, one_store}
use Rattle.image.proofs.Walking.{walk_nothing, walk_left, walk_failed, walk_made}
use Rattle.image.proofs.walk_step.Goals as goal

pub returns-then-s-eq0 : goal.returns-then-s-eq0
unfolding step_stores
returns-then-s-eq0 g c =
    (λ rs c₀ x. walk_nothing rs _ (step_none _ _ _ []) _ c₀ _ _ x (no_store _ _ c.spell-s.ensures.0 c.if-s-eq0.true), search rules)

pub overflow_add-count : goal.overflow_add-count
overflow_add-count g c = search (step_fits, rules)

pub returns-then-so-allowance : goal.returns-then-so-allowance
unfolding step_stores
returns-then-so-allowance g c =
    (λ rs c₀ x. walk_left rs _ (step_none _ _ _ []) _ c₀ _ _ x (one_store _ _ c.spell-s.ensures.0 c.if-s-eq0.false) c.if-so-allowance.true, search rules)

pub returns-then-is_err : goal.returns-then-is_err
unfolding step_stores
returns-then-is_err g c =
    (λ rs c₀ x. walk_failed rs _ (step_none _ _ _ []) _ c₀ _ _ x (one_store _ _ c.spell-s.ensures.0 c.if-s-eq0.false) c.if-so-allowance.false, search rules)

pub returns : goal.returns
unfolding step_stores
returns g c = (
  λ rs c₀ x.
      walk_made rs _ (step_none _ _ _ []) _ c₀ _ _ x (one_store _ _ c.spell-s.ensures.0 c.if-s-eq0.false) c.if-so-allowance.false _ _ c.make_step.ensures.0,
  search rules,
)
