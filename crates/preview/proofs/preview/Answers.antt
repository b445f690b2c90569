-- `preview` answers as commit would and tells the data blocks that commit would find: one law for each answer.
use borrow.Author.Rules.{rules}
use Rattle.preview.proofs.Answered.{preview_refused, preview_good, preview_few, preview_counts, preview_ready, preview_done}
use Rattle.preview.proofs.preview.Goals as goal

pub returns-then-a-ne0-clause-answer : goal.returns-then-a-ne0-clause-answer
returns-then-a-ne0-clause-answer c =
    (preview_refused _ _ _ _ _ _ c.size_asked-size.ensures _ _ c.admit-a.ensures c.if-a-ne0.true).0

pub returns-then-a-ne0-clause-blocks : goal.returns-then-a-ne0-clause-blocks
returns-then-a-ne0-clause-blocks c =
    (preview_refused _ _ _ _ _ _ c.size_asked-size.ensures _ _ c.admit-a.ensures c.if-a-ne0.true).1

pub search_start-requires : goal.search_start-requires
search_start-requires c =
    preview_good _ _ _ c.args.«data».now c.args.blocks.now _ c.size_asked-size.ensures _ _ c.admit-a.ensures c.if-a-ne0.false

pub take-requires : goal.take-requires
take-requires c =
    let r = preview_ready _ _ _ c.args.«data».now c.args.blocks.now _ c.size_asked-size.ensures _ _ c.admit-a.ensures c.if-a-ne0.false _
    c.search_start.ensures in
    (r.0, r.1, search rules, r.2)

pub tell-requires : goal.tell-requires
tell-requires c =
    preview_few _ _ _ c.args.«data».now c.args.blocks.now _ c.size_asked-size.ensures _ _ c.admit-a.ensures c.if-a-ne0.false

pub count_of-requires : goal.count_of-requires
count_of-requires c =
    preview_counts _ _ _ c.args.«data».now c.args.blocks.now _ c.size_asked-size.ensures _ _ c.admit-a.ensures c.if-a-ne0.false

pub returns-clause-answer : goal.returns-clause-answer
returns-clause-answer c =
    (preview_done _ _ _ c.args.«data».now c.args.blocks.now _ c.size_asked-size.ensures _ _ c.admit-a.ensures c.if-a-ne0.false _
    c.search_start.ensures _ _ _ _ c.count_of.ensures c.take.ensures c.tell.ensures).0

pub returns-clause-blocks : goal.returns-clause-blocks
returns-clause-blocks c =
    (preview_done _ _ _ c.args.«data».now c.args.blocks.now _ c.size_asked-size.ensures _ _ c.admit-a.ensures c.if-a-ne0.false _
    c.search_start.ensures _ _ _ _ c.count_of.ensures c.take.ensures c.tell.ensures).1
