-- `place_after` answers the place.
use native.Mathlib.Omega.{arith}
use Rattle.protocol.proofs.Checks.{limits}
use borrow.Author.Rules.{rules}
use Rattle.plan.proofs.place_after.Goals as goal

pub forward-requires : goal.forward-requires
forward-requires c = let s = c in let l = limits s.args.g s.requires.0 in (search rules, search rules, omega arith)
