-- `weigh` counts the stores and notes the data blocks. The invariant: those of the victims passed are counted and noted.
use Rattle.room.proofs.Clearing.{Counting}
use Rattle.room.proofs.weigh.Given as goal

abbrev pub invariant-loop-k : goal.invariant-loop-k
invariant-loop-k l = Counting l.g l.card l.victims l.k l.freed l.stores
