-- `ask` answers the lowest refusal of a put, and where there is none what it goes on from.
use Rattle.pending.proofs.Asking.{ask_met, ask_good, ask_window, ask_own, ask-twice, ask_full, ask_passed}
use borrow.Author.Rules.{rules}
use Rattle.pending.proofs.ask.Goals as goal

pub returns-then-s-ne0 : goal.returns-then-s-ne0
returns-then-s-ne0 c = search (ask_met, rules)

pub own_refusal-own-requires : goal.own_refusal-own-requires
own_refusal-own-requires c = search (ask_good, rules)

pub returns-then-own-ne0 : goal.returns-then-own-ne0
returns-then-own-ne0 c = search (ask_own, rules)

pub in_window-requires : goal.in_window-requires
in_window-requires c =
    ask_window _ _ _ 0 0 0 _ _ c.meet-s.ensures c.if-s-ne0.false

pub returns-then-in_window : goal.returns-then-in_window
returns-then-in_window c = search (ask-twice, rules)

pub returns-then-s-eq0 : goal.returns-then-s-eq0
returns-then-s-eq0 c = search (ask_full, rules)

pub returns : goal.returns
returns c =
    ask_passed _ _ _ _ _ _ _ _ c.meet-s.ensures c.if-s-ne0.false _ c.own_refusal-own.ensures c.if-own-ne0.false _ c.in_window.ensures c.if-in_window.false c.if-s-eq0.false
