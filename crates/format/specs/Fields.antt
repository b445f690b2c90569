-- The header's fields, each as a number of its width.
use Rattle.std.specs.Prelude.{List, ◌++◌, ℕ}
use Rattle.numbers.specs.Bytes.{bytes_be}
use Rattle.protocol.specs.declared.Geometry.{Geometry}

-- the first sixteen bytes: length 64, version 2, k, S, N, D
unfoldable pub field_bytes : Geometry → List ℕ
field_bytes g =
    bytes_be 4 64
    ++ (bytes_be 1 2 ++ (bytes_be 1 g.k ++ (bytes_be 2 g.slots ++ (bytes_be 4 g.blocks ++ bytes_be 4 g.disk))))
