-- Document 02, ask 7: "Upgrade turns a settled version 1 card into version 2 by one store of the header's first word, under an allowance".
use Rattle.std.specs.Prelude.{ℕ, List, []}
use Rattle.numbers.specs.Bytes.{part}
use Rattle.protocol.specs.declared.Geometry.{Geometry}
use Rattle.protocol.specs.Layout.{header_bytes, geometry_of}
use Rattle.protocol.specs.Check.{◌or_else◌, fit_refusal, card_refusal}
use Rattle.protocol.specs.Store.{Store, Run, Work, card, single}

-- "the header's first word": length, version 2, k and S
unfoldable pub version_store : Geometry → Store
version_store g = record { medium = card; place = 0; bytes = part (header_bytes 2 g) 0 8 }

unfoldable pub upgrade_runs : Geometry → List Run
upgrade_runs g = single (version_store g)

-- 1 of any version but 1, 2, and 4 to 7
unfoldable pub upgrade_refusal : List ℕ → ℕ
upgrade_refusal c = fit_refusal 1 1 c or_else card_refusal (geometry_of c) c

-- upgrade of the card c: its one store is a single one, so it takes no choice, and the map stays as it is
unfoldable pub upgrade_work : List ℕ → Work
upgrade_work c = record { refusal = upgrade_refusal c; runs = upgrade_runs (geometry_of c); choice = [] }
