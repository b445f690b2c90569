-- What a function that makes runs of stores does, and hands on.
use Rattle.std.specs.Prelude.{ℕ, zero, suc, ◌-◌, List, [], true, ◌≡◌, length}
use Rattle.protocol.specs.Store.{Medium, card, Store, Run, made_on, flat, made}

-- the bytes bs, put at a place of the card
abbrev pub card_store : ℕ → List ℕ → Store
card_store at bs = record { medium = card; place = at; bytes = bs }

-- the stores ss as a run that only its fence orders
abbrev pub unfenced : List Store → Run
unfenced ss = record { unordered = true; stores = ss }

-- the stores that are made of the runs under a credit: one more than the stores that still happen, and 0 where a store is missing already
unfoldable pub under_credit : ℕ → List ℕ → List Run → List Store
under_credit zero ch rs = []
under_credit (suc a) ch rs = made a ch rs

-- of the runs rs those stores were made on the medium m that the credit a and the choice ch let happen, which leaves the credit r; xs before them,
-- ys after
pub record Did (m : Medium) (rs : List Run) (ch : List ℕ) (a : ℕ) (xs ys : List ℕ) (r : ℕ) : Type 0 where
  pub made : ys ≡ made_on m (under_credit a ch rs) xs
  pub left : r ≡ a - length (flat rs)
