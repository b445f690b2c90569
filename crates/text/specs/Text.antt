-- The characters that a program prints, as ASCII numbers in rows of fixed length: a number, bytes in hexadecimal, a line of a listing.
-- An argument as a number.
use Rattle.std.specs.Prelude.{ℕ, zero, suc, ◌+◌, ◌*◌, ◌-◌, ◌/◌, ◌%◌, ◌^◌, List, [], ◌∷◌, ◌++◌, Bool, cond, not, ◌&&◌, ◌||◌, length, get_or, ltb, eqb, Option, Some, None}
use Rattle.protocol.specs.Below.{all_below}
use Rattle.protocol.specs.Layout.{between}

-- the characters that f gives in columns 0 to n - 1
unfoldable pub row : (ℕ → ℕ) → ℕ → List ℕ
row f zero = []
row f (suc n) = row f n ++ (f n ∷ [])

-- ---- characters

-- the line feed
abbrev pub LINE_FEED : ℕ
LINE_FEED = 10

-- the space
abbrev pub SPACE : ℕ
SPACE = 32

-- the comma
abbrev pub COMMA : ℕ
COMMA = 44

-- the full stop
abbrev pub STOP : ℕ
STOP = 46

-- the bar
abbrev pub BAR : ℕ
BAR = 124

-- ---- a number

-- the digit of n that counts ten to the power e; a space where n has no such digit, but 0 has its last one
unfoldable pub decimal_mark : ℕ → ℕ → ℕ
decimal_mark n e = cond (ltb n (10 ^ e) && ltb 0 e) SPACE (48 + n / 10 ^ e % 10)

-- the mark in column k of a number, counted from its right end: each fourth is a comma if a digit stands left of it
unfoldable pub number_mark : ℕ → ℕ → ℕ
number_mark n k = cond (eqb (k % 4) 3) (cond (ltb n (10 ^ (3 * (k / 4) + 3))) SPACE COMMA) (decimal_mark n (k - k / 4))

-- document 01 writes 65,536: n in a field of 26 columns, which holds every u64, at its right end
unfoldable pub number_field : ℕ → List ℕ
number_field n = row (λ j. number_mark n (25 - j)) 26

-- a block number, as 1001: the mark in column k from its right end
unfoldable pub plain_mark : ℕ → ℕ → ℕ
plain_mark n k = cond (ltb k 20) (decimal_mark n k) SPACE

-- n without commas, at the right end of a field of the same length
unfoldable pub plain_field : ℕ → List ℕ
plain_field n = row (λ j. plain_mark n (25 - j)) 26

-- column j of a field holds a mark
unfoldable pub marked_at : List ℕ → ℕ → Bool
marked_at field j = not (eqb (get_or field j 0) SPACE)

-- ---- bytes in hexadecimal

-- the hexadecimal digit d, in capitals
unfoldable pub glyph : ℕ → ℕ
glyph d = cond (ltb d 10) (48 + d) (55 + d)

-- column j of a row of bytes in hexadecimal, two columns a byte
unfoldable pub hex_mark : List ℕ → ℕ → ℕ
hex_mark bs j = cond (eqb (j % 2) 0) (glyph (get_or bs (j / 2) 0 / 16)) (glyph (get_or bs (j / 2) 0 % 16))

-- sixteen bytes as 32 digits
unfoldable pub hex_field : List ℕ → List ℕ
hex_field bs = row (hex_mark bs) 32

-- ---- a line of a listing

-- a byte as a character: itself where it is printable ASCII, 32 to 126, else a full stop
unfoldable pub shown : ℕ → ℕ
shown b = cond (between 32 126 b) b STOP

-- column j of a place: its last four hexadecimal digits
unfoldable pub place_mark : ℕ → ℕ → ℕ
place_mark at j = glyph (at / 16 ^ (3 - j) % 16)

-- column k of bytes in hexadecimal with a space behind each, three columns a byte
unfoldable pub byte_mark : List ℕ → ℕ → ℕ
byte_mark bs k = cond (eqb (k % 3) 2) SPACE (hex_mark bs (2 * (k / 3) + k % 3))

-- column j of a line: the place of its first byte; from column 6 on eight bytes, and from column 31 on eight more; their characters
-- between the bars in columns 56 and 73; a line feed in column 74; and spaces
unfoldable pub list_mark : ℕ → List ℕ → ℕ → ℕ
list_mark at bs j =
    cond (ltb j 4) (place_mark at j)
    (cond (between 6 29 j) (byte_mark bs (j - 6))
    (cond (between 31 54 j) (byte_mark bs (j - 7))
    (cond (between 57 72 j) (shown (get_or bs (j - 57) 0))
    (cond (eqb j 56 || eqb j 73) BAR
    (cond (eqb j 74) LINE_FEED SPACE)))))

-- sixteen bytes as a line of 75 columns, the first of them at the place `at`
unfoldable pub list_line : ℕ → List ℕ → List ℕ
list_line at bs = row (list_mark at bs) 75

-- ---- an argument as a number

-- b is one of the characters 0 to 9
unfoldable pub is_digit : ℕ → Bool
is_digit b = between 48 57 b

-- character i is a digit
unfoldable pub digit_at : List ℕ → ℕ → Bool
digit_at bs i = is_digit (get_or bs i 0)

-- the number that the digits spell after acc
unfoldable pub value_from : ℕ → List ℕ → ℕ
value_from acc [] = acc
value_from acc (b ∷ bs) = value_from (acc * 10 + (b - 48)) bs

-- the characters are a number: at least one, each a digit, and the value below 2^64
unfoldable pub is_number : List ℕ → Bool
is_number bs = ltb 0 (length bs) && (all_below (digit_at bs) (length bs) && ltb (value_from 0 bs) (2 ^ 64))

-- an argument as a number: only decimal digits, at least one, and the number fits 64 bits
unfoldable pub parsed : List ℕ → Option ℕ
parsed bs = cond (is_number bs) (Some (value_from 0 bs)) None

-- ---- words

-- two texts have the same character at place i
unfoldable pub same_at : List ℕ → List ℕ → ℕ → Bool
same_at a b i = eqb (get_or a i 0) (get_or b i 0)

-- two texts are the same
unfoldable pub same_text : List ℕ → List ℕ → Bool
same_text a b = eqb (length a) (length b) && all_below (same_at a b) (length a)
