-- `make_entry` makes the one store or, with no allowance, none: one law for each way.
use native.Mathlib.Omega.{arith}
use borrow.Author.Rules.{rules}
use Rattle.stores.proofs.Laws.{one_cut, staged_made}
use Rattle.stores.proofs.make_entry.Goals as goal

pub returns-then-left-lt2 : goal.returns-then-left-lt2
returns-then-left-lt2 c = search (one_cut, rules)

pub returns : goal.returns
returns c =
    staged_made _ _ _ _ _ _ _ _ c.if-left-lt2.false c.requires.1 c.put_entry.ensures c.copy.ensures (omega arith)
