-- `entry_bytes` spells at the front of sixteen zeros.
use borrow.Author.Rules.{rules}
use Rattle.protocol.proofs.Codec.{length_entry}
use Rattle.recovery.proofs.Spelling.{front_spelled}
use Rattle.recovery.proofs.entry_bytes.Goals as goal

pub returns : goal.returns
returns c = search (front_spelled, length_entry, rules)
