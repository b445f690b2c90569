-- `fetch_from` answers what a fetch does, on every disk whose window it was lent: refused by 1 to 7 and 19, by the first block or by the output's
-- length, or the record copied.
use Rattle.std.proofs.Common.{sym, refl, ◌∙◌, arith}
use Rattle.recipes.proofs.Fetching.{fetch_stopped, window_wrong, size_between, record_between, reachable, there, block_long, fetch_own, fetch_nine, fetch_done}
use Rattle.recipes.proofs.fetch_from.Goals as goal

pub returns-then-p-ne0-clause-answer : goal.returns-then-p-ne0-clause-answer
returns-then-p-ne0-clause-answer c = λ d win. (fetch_stopped _ d _ _ _ c.find-p.ensures c.if-p-ne0.true win.long _).0

pub returns-then-p-ne0-clause-output : goal.returns-then-p-ne0-clause-output
returns-then-p-ne0-clause-output c = λ d win. (fetch_stopped _ d _ _ _ c.find-p.ensures c.if-p-ne0.true win.long _).1

pub overflow_mul-size : goal.overflow_mul-size
overflow_mul-size c =
    let s = size_between _ _ _ _ c.find-p.ensures c.if-p-ne0.false in
    omega (arith, s.1)

pub returns-then-four-size-clause-answer : goal.returns-then-four-size-clause-answer
returns-then-four-size-clause-answer c = λ d win. absurd (window_wrong _ d _ _ _ c.find-p.ensures c.if-p-ne0.false _ c.if-four-size.true win)

pub returns-then-four-size-clause-output : goal.returns-then-four-size-clause-output
returns-then-four-size-clause-output c = λ d win. absurd (window_wrong _ d _ _ _ c.find-p.ensures c.if-p-ne0.false _ c.if-four-size.true win)

pub block_of-first-requires : goal.block_of-first-requires
block_of-first-requires c =
    let s = size_between _ _ _ _ c.find-p.ensures c.if-p-ne0.false in
    let r = reachable _ _ _ _ c.find-p.ensures c.if-p-ne0.false _ c.if-four-size.false in
    (_, there _ _ _ _ r 1 s.0 (omega arith) 0 0 _ (omega arith) (omega arith) refl)

pub block_refusal-own-requires : goal.block_refusal-own-requires
block_refusal-own-requires c =
    let s = size_between _ _ _ _ c.find-p.ensures c.if-p-ne0.false in
    let r = reachable _ _ _ _ c.find-p.ensures c.if-p-ne0.false _ c.if-four-size.false in
    omega (arith, s.0, block_long _ _ _ _ r 1 s.0 (omega arith) 0 0 _ _ (omega arith) (omega arith) refl c.block_of-first.ensures)

pub returns-then-own-ne0-clause-answer : goal.returns-then-own-ne0-clause-answer
returns-then-own-ne0-clause-answer c = λ d win.
    let ef = c.block_of-first.ensures in
    (fetch_own _ _ _ _ c.find-p.ensures c.if-p-ne0.false _ c.if-four-size.false d win _ ef c.args.out.now _ c.block_refusal-own.ensures c.if-own-ne0.true).0

pub returns-then-own-ne0-clause-output : goal.returns-then-own-ne0-clause-output
returns-then-own-ne0-clause-output c = λ d win.
    let ef = c.block_of-first.ensures in
    (fetch_own _ _ _ _ c.find-p.ensures c.if-p-ne0.false _ c.if-four-size.false d win _ ef c.args.out.now _ c.block_refusal-own.ensures c.if-own-ne0.true).1

pub returns-then-out-ne1528-clause-answer : goal.returns-then-out-ne1528-clause-answer
returns-then-out-ne1528-clause-answer c = λ d win.
    let ef = c.block_of-first.ensures in
    (fetch_nine _ _ _ _ c.find-p.ensures c.if-p-ne0.false _ c.if-four-size.false d win _ ef c.args.out.now (sym c.block_refusal-own.ensures ∙ c.if-own-ne0.false) c.if-out-ne1528.true).0

pub returns-then-out-ne1528-clause-output : goal.returns-then-out-ne1528-clause-output
returns-then-out-ne1528-clause-output c = λ d win.
    let ef = c.block_of-first.ensures in
    (fetch_nine _ _ _ _ c.find-p.ensures c.if-p-ne0.false _ c.if-four-size.false d win _ ef c.args.out.now (sym c.block_refusal-own.ensures ∙ c.if-own-ne0.false) c.if-out-ne1528.true).1

pub length_in-n-requires : goal.length_in-n-requires
length_in-n-requires c =
    let s = size_between _ _ _ _ c.find-p.ensures c.if-p-ne0.false in
    let r = reachable _ _ _ _ c.find-p.ensures c.if-p-ne0.false _ c.if-four-size.false in
    omega (arith, s.0, block_long _ _ _ _ r 1 s.0 (omega arith) 0 0 _ _ (omega arith) (omega arith) refl c.block_of-first.ensures)

pub copy_record-requires : goal.copy_record-requires
copy_record-requires c =
    let s = size_between _ _ _ _ c.find-p.ensures c.if-p-ne0.false in
    let b = record_between _ _ (sym c.block_refusal-own.ensures ∙ c.if-own-ne0.false) c.length_in-n.ensures in
    (reachable _ _ _ _ c.find-p.ensures c.if-p-ne0.false _ c.if-four-size.false, s.0, b.0, b.1, omega (arith, b.1, c.if-out-ne1528.false))

pub returns-clause-answer : goal.returns-clause-answer
returns-clause-answer c = λ d win.
    let ef = c.block_of-first.ensures in
    (fetch_done _ _ _ _ c.find-p.ensures c.if-p-ne0.false _ c.if-four-size.false d win _ ef c.args.out.now _ _
    (sym c.block_refusal-own.ensures ∙ c.if-own-ne0.false) c.if-out-ne1528.false c.length_in-n.ensures c.copy_record.ensures).0

pub returns-clause-output : goal.returns-clause-output
returns-clause-output c = λ d win.
    let ef = c.block_of-first.ensures in
    (fetch_done _ _ _ _ c.find-p.ensures c.if-p-ne0.false _ c.if-four-size.false d win _ ef c.args.out.now _ _
    (sym c.block_refusal-own.ensures ∙ c.if-own-ne0.false) c.if-out-ne1528.false c.length_in-n.ensures c.copy_record.ensures).1
