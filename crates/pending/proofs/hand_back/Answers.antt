-- `hand_back` hands on the next record where the put is done.
use mathlib.Core.Path.{◌≡◌, refl, sym, ap, ◌∙◌}
use Rattle.protocol.specs.declared.Answer.{Answer}
use Rattle.protocol.specs.declared.Pending.{Pending}
use Rattle.protocol.specs.Pending.{next_record}
use borrow.Author.Rules.{rules}
use Rattle.pending.proofs.hand_back.Goals as goal
use Rattle.pending.proofs.hand_back.Goals.{in-Done, in-Cut, in-Refused}

pub overflow_add-held : goal.overflow_add-held
overflow_add-held c = search (c.requires _ c.in-Done.is, rules)

-- the record after an answer that is known
known : (p : Pending) (a b : Answer) → a ≡ b → next_record b p ≡ next_record a p
known p a b e = sym (ap (λ (y : Answer). next_record y p) e)

pub returns : goal.returns
unfolding next_record
returns c = (
  refl,
  refl,
  elim c.match-s.branch [
    | in-Done w ↦ w.held-is ∙ known _ _ _ w.in-Done.is
    | in-Cut w ↦ w.held-is ∙ known _ _ _ w.in-Cut.is
    | in-Refused w ↦ w.held-is ∙ known _ _ _ w.in-Refused.is
  ],
)
