-- What the entry at a place caches: the list that a station drains, or chooses from, place by place.
use Rattle.std.specs.Prelude.{ℕ, List, cond, ◌&&◌, eqb, ltb}
use Rattle.protocol.specs.declared.Geometry.{Geometry}
use Rattle.protocol.specs.Layout.{geometry_of}
use Rattle.protocol.specs.Entry.{entry_at, is_modified}
use Rattle.protocol.specs.Ring.{used_at}
use Rattle.protocol.specs.Check.{◌or_else◌, fit_refusal, card_refusal}
use Rattle.lookup.specs.declared.Cached.{Cached}
use Rattle.lookup.specs.declared.Cached.TheVariants.{Block, Nothing, Refused}

-- the number of entry i and whether it is modified, where it is in use; places from N on have no entry
unfoldable pub cached_in : Geometry → List ℕ → ℕ → Cached
cached_in g c i =
    cond (ltb i g.blocks && used_at g c i) (Block (entry_at g c i).number (is_modified (entry_at g c i))) Nothing

-- 1, 2 and 4 to 7: what is cached is told of a settled card
unfoldable pub cached_refusal : List ℕ → ℕ
cached_refusal c = fit_refusal 2 2 c or_else card_refusal (geometry_of c) c

-- refused, or what is cached at place i
unfoldable pub cached_at : List ℕ → ℕ → Cached
cached_at c i = cond (eqb (cached_refusal c) 0) (cached_in (geometry_of c) c i) (Refused (cached_refusal c))
