-- `count_of` answers how many stores a commit has.
use Rattle.protocol.proofs.Checks.{limits}
use Rattle.plan.proofs.Count.{count_small, count_is}
use native.Mathlib.Omega.{arith}
use borrow.Author.Rules.{rules}
use Rattle.plan.proofs.count_of.Goals as goal

pub block_offset-requires : goal.block_offset-requires
block_offset-requires c = let l = limits c.args.g c.requires.0 in (search rules, omega arith)

pub overflow_mul-result : goal.overflow_mul-result
overflow_mul-result c = record { fits = omega (arith, count_small _ _ _ c.requires c.block_offset.ensures) }

pub overflow_add-result : goal.overflow_add-result
overflow_add-result c = record { fits = omega (arith, count_small _ _ _ c.requires c.block_offset.ensures) }

pub overflow_add-result-2 : goal.overflow_add-result-2
overflow_add-result-2 c = record { fits = omega (arith, count_small _ _ _ c.requires c.block_offset.ensures) }

pub returns : goal.returns
returns c = search (count_is, rules)
