-- `put_lines` writes one line behind the other. The invariant: the lines passed are written, and `at` is the place behind them. Assumes nothing.
use Prim.Native.Nat.{◌+◌, ◌*◌}
use mathlib.Core.Path.{◌≡◌}
use lib.ListN.{length}
use Rattle.numbers.specs.Bytes.{patch}
use Rattle.protocol.specs.Below.{each_below}
use Rattle.recipe.specs.Record.{recipe_from, line_bytes}
use Rattle.recipe_codec.proofs.put_lines.Given as goal

abbrev pub invariant-loop-ingredient : goal.invariant-loop-ingredient
invariant-loop-ingredient l =
    (l.at ≡ 28 + 6 * length l.yielded)
    × (l.staged ≡ patch l.initial.staged 28 (each_below (line_bytes (recipe_from l.name (length l.ingredients) l.ingredients l.grams)) (length l.yielded)))
