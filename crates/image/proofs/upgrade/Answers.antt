-- `upgrade` refuses as the library does, or makes its one store, in the file and then in memory.
use mathlib.Core.Bool.{true, false}
use mathlib.Core.Path.{refl}
use borrow.Author.Rules.{rules}
use Rattle.protocol.proofs.Below.{absurd_bool}
use Rattle.image.proofs.Repairing.{upgrade_refused, upgrade_stopped, upgrade_made}
use Rattle.image.proofs.upgrade.Goals as goal

pub returns-then-u-ne0 : goal.returns-then-u-ne0
returns-then-u-ne0 g c = search (upgrade_refused, rules)

pub returns-then-allowance-eq0 : goal.returns-then-allowance-eq0
returns-then-allowance-eq0 g c =
    upgrade_stopped _ _ _ c.examine-u.ensures c.if-u-ne0.false false (λ q. c.if-allowance-eq0.true) (λ q. absurd_bool q refl) _ c.stopped.ensures

pub returns-then-is_err : goal.returns-then-is_err
returns-then-is_err g c =
    upgrade_stopped _ _ _ c.examine-u.ensures c.if-u-ne0.false true (λ q. absurd_bool refl q) (λ q. c.if-allowance-eq0.false) _ c.stopped-then-is_err.ensures

pub returns : goal.returns
returns g c = upgrade_made _ _ _ c.examine-u.ensures c.if-u-ne0.false c.if-allowance-eq0.false _ c.upgrade.ensures.card
