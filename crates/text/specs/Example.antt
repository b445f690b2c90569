-- Worked fields and arguments that compute, in ASCII numbers.
use Rattle.std.specs.Prelude.{ℕ, List, [], ◌∷◌, ◌++◌, ◌≡◌, replicate, Some, None}
use Rattle.protocol.specs.Table.{bytes3}
use Rattle.text.specs.Text.{number_field, plain_field, hex_field, list_line, parsed}

-- marks behind n spaces
abbrev pub behind : ℕ → List ℕ → List ℕ
behind n marks = replicate n 32 ++ marks

-- A to P
abbrev pub letters : List ℕ
letters = 65 ∷ 66 ∷ 67 ∷ 68 ∷ 69 ∷ 70 ∷ 71 ∷ 72 ∷ 73 ∷ 74 ∷ 75 ∷ 76 ∷ 77 ∷ 78 ∷ 79 ∷ 80 ∷ []

-- "1844674407370955161" and one digit more
abbrev pub long : ℕ → List ℕ
long d = 49 ∷ 56 ∷ 52 ∷ 52 ∷ 54 ∷ 55 ∷ 52 ∷ 52 ∷ 48 ∷ 55 ∷ 51 ∷ 55 ∷ 48 ∷ 57 ∷ 53 ∷ 53 ∷ 49 ∷ 54 ∷ 49 ∷ d ∷ []

pub record Fields : Type 0 where
  -- "65,536", "0", "1,000" and "18,446,744,073,709,551,615"
  pub number : number_field 65536 ≡ behind 20 (54 ∷ 53 ∷ 44 ∷ 53 ∷ 51 ∷ 54 ∷ [])
  pub none : number_field 0 ≡ behind 25 (48 ∷ [])
  pub thousand : number_field 1000 ≡ behind 21 (49 ∷ 44 ∷ 48 ∷ 48 ∷ 48 ∷ [])
  pub most : number_field 0xFFFFFFFFFFFFFFFF
      ≡ 49 ∷ 56 ∷ 44 ∷ 52 ∷ 52 ∷ 54 ∷ 44 ∷ 55 ∷ 52 ∷ 52 ∷ 44 ∷ 48 ∷ 55 ∷ 51 ∷ 44 ∷ 55 ∷ 48 ∷ 57 ∷ 44
      ∷ 53 ∷ 53 ∷ 49 ∷ 44 ∷ 54 ∷ 49 ∷ 53 ∷ []
  -- "1001"
  pub plain : plain_field 1001 ≡ behind 22 (49 ∷ 48 ∷ 48 ∷ 49 ∷ [])
  -- "83000000000003E9FFFFFFFF00000002"
  pub entry : hex_field bytes3
      ≡ 56 ∷ 51 ∷ replicate 10 48 ++ (48 ∷ 51 ∷ 69 ∷ 57 ∷ replicate 8 70 ++ replicate 7 48 ++ (50 ∷ []))
  -- "0010  41 42 43 44 45 46 47 48  49 4A 4B 4C 4D 4E 4F 50  |ABCDEFGHIJKLMNOP|" and a line feed
  pub line : list_line 16 letters
      ≡ 48 ∷ 48 ∷ 49 ∷ 48 ∷ 32 ∷ 32
      ∷ 52 ∷ 49 ∷ 32 ∷ 52 ∷ 50 ∷ 32 ∷ 52 ∷ 51 ∷ 32 ∷ 52 ∷ 52 ∷ 32 ∷ 52 ∷ 53 ∷ 32 ∷ 52 ∷ 54 ∷ 32 ∷ 52 ∷ 55 ∷ 32 ∷ 52 ∷ 56 ∷ 32 ∷ 32
      ∷ 52 ∷ 57 ∷ 32 ∷ 52 ∷ 65 ∷ 32 ∷ 52 ∷ 66 ∷ 32 ∷ 52 ∷ 67 ∷ 32 ∷ 52 ∷ 68 ∷ 32 ∷ 52 ∷ 69 ∷ 32 ∷ 52 ∷ 70 ∷ 32 ∷ 53 ∷ 48 ∷ 32 ∷ 32
      ∷ 124 ∷ letters ++ (124 ∷ 10 ∷ [])

pub record Arguments : Type 0 where
  -- "42", "", "4x", the largest number of 64 bits, and one more
  pub read : parsed (52 ∷ 50 ∷ []) ≡ Some 42
  pub empty : parsed [] ≡ None
  pub letter : parsed (52 ∷ 120 ∷ []) ≡ None
  pub most : parsed (long 53) ≡ Some 0xFFFFFFFFFFFFFFFF
  pub past : parsed (long 54) ≡ None
