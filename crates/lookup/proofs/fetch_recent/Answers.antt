-- `fetch_recent` is `fetch` where the table is an arrangement, with the entry moved to the front, and else refused with 16 after 1 to 7.
use Rattle.lookup.proofs.Recent.{read_used, read_untabled, entry_small}
use mathlib.Core.Path.{sym, ◌∙◌}
use mathlib.Core.Bool.{not}
use Rattle.std.proofs.Common.{ap}
use Rattle.lookup.proofs.fetch_recent.Goals as goal

pub returns-then-not-is_arranged-clause-answer : goal.returns-then-not-is_arranged-clause-answer
returns-then-not-is_arranged-clause-answer c =
    (read_untabled _ _ _ _ _ _ _ _ c.is_arranged.ensures (ap not c.if-not-is_arranged.true) c.find.ensures c.refuse_table.ensures).0

pub returns-then-not-is_arranged-clause-output : goal.returns-then-not-is_arranged-clause-output
returns-then-not-is_arranged-clause-output c =
    (read_untabled _ _ _ _ _ _ _ _ c.is_arranged.ensures (ap not c.if-not-is_arranged.true) c.find.ensures c.refuse_table.ensures).1.0

pub returns-then-not-is_arranged-clause-table : goal.returns-then-not-is_arranged-clause-table
returns-then-not-is_arranged-clause-table c =
    (read_untabled _ _ _ _ _ _ _ _ c.is_arranged.ensures (ap not c.if-not-is_arranged.true) c.find.ensures c.refuse_table.ensures).1.1

pub touch_found-requires : goal.touch_found-requires
touch_found-requires c =
    (sym c.is_arranged.ensures ∙ c.if-not-is_arranged.false, entry_small _ _ _ _ _ c.fetch-f.ensures.answer)

pub returns-clause-answer : goal.returns-clause-answer
returns-clause-answer c =
    (read_used _ _ _ _ _ (sym c.is_arranged.ensures ∙ c.if-not-is_arranged.false) _ _ _ c.fetch-f.ensures.answer c.fetch-f.ensures.output
    c.touch_found.ensures).0

pub returns-clause-output : goal.returns-clause-output
returns-clause-output c =
    (read_used _ _ _ _ _ (sym c.is_arranged.ensures ∙ c.if-not-is_arranged.false) _ _ _ c.fetch-f.ensures.answer c.fetch-f.ensures.output
    c.touch_found.ensures).1.0

pub returns-clause-table : goal.returns-clause-table
returns-clause-table c =
    (read_used _ _ _ _ _ (sym c.is_arranged.ensures ∙ c.if-not-is_arranged.false) _ _ _ c.fetch-f.ensures.answer c.fetch-f.ensures.output
    c.touch_found.ensures).1.1
