-- `number_of` answers its definition: one law for each flag byte that is subtracted.
use Rattle.checks.proofs.Flags.{less_is, numbered_modified, numbered_clean, numbered_over, numbered_logged, numbered_last, numbered_none}
use Rattle.std.proofs.Common.{◌+◌, ◌^◌, ◌<◌, arith, rules}
use Rattle.checks.proofs.number_of.Goals as goal

pub returns-then-over-disk : goal.returns-then-over-disk
returns-then-over-disk c = λ v h. numbered_over _ _ _ c.requires.0 v h _ (less_is c.args.w c.args.more (search rules) (omega arith)) c.if-over-disk.true

pub returns-then-modified-disk : goal.returns-then-modified-disk
returns-then-modified-disk c = λ v h. search (numbered_modified, rules)

pub returns-then-clean-disk : goal.returns-then-clean-disk
returns-then-clean-disk c = λ v h. search (numbered_clean, rules)

pub returns-then-logged-disk : goal.returns-then-logged-disk
returns-then-logged-disk c = λ v h. search (numbered_logged, rules)

pub returns-then-last-disk : goal.returns-then-last-disk
returns-then-last-disk c =
    λ v h. numbered_last _ _ _ c.requires.0 v h _ (less_is c.args.w (c.args.more + 0x0100000000000000) (search rules) (omega arith)) c.if-last-disk.true

pub returns : goal.returns
returns c =
    λ v h.
    let w = c.args.w in
    let l : w < 2 ^ 64 = search rules in
    numbered_none _ _ _ c.requires.0 v h _ _ _ _ _ (omega arith) (omega arith) (omega arith) (omega arith) (omega arith)
    (less_is w 0x8200000000000000 l (omega arith)) (less_is w 0x8000000000000000 l (omega arith)) (less_is w c.args.more l (omega arith))
    (less_is w 0x8300000000000000 l (omega arith)) (less_is w (c.args.more + 0x0100000000000000) l (omega arith))
    c.if-modified-disk.false c.if-clean-disk.false c.if-over-disk.false c.if-logged-disk.false c.if-last-disk.false
