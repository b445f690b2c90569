-- `format` makes a card of the length that its good geometry asks for, which the buffer holds.
use Rattle.service.proofs.Laws.{good_was, long_fits, long_counts}
use borrow.Author.Rules.{rules}
use Rattle.service.proofs.files.format.Goals as goal

pub slice_bounds-buf-end : goal.slice_bounds-buf-end
slice_bounds-buf-end c = search (good_was, long_fits, rules)

pub slice_bounds-make-end : goal.slice_bounds-make-end
slice_bounds-make-end c = search (good_was, long_counts, rules)
