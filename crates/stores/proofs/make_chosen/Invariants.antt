-- `make_chosen` makes the chosen units. The invariant: those of the units passed are made.
use Prim.Native.Nat.{◌*◌, ◌^◌}
use mathlib.Core.Path.{◌≡◌}
use Rattle.numbers.specs.Bytes.{part}
use Rattle.protocol.specs.Store.{Medium, made_on, chosen, units}
use Rattle.stores.proofs.make_chosen.Given as goal

abbrev pub invariant-loop-i : goal.invariant-loop-i
invariant-loop-i l =
    (m : Medium) → l.dst ≡ made_on m (chosen l.choice (units m (2 ^ l.places) l.i l.to (part l.src l.from (l.count * 2 ^ l.places)))) l.initial.dst
