-- Numbers as digits: bytes "big-endian", as document 01 has them, and decimal digits in ASCII. One definition of digits serves both.
use Rattle.std.specs.Prelude.{ℕ, zero, suc, ◌+◌, ◌*◌, ◌/◌, ◌%◌, min, cond, List, [], ◌∷◌, ◌++◌, ltb, take, drop}
use Prim.Native.Char.{code}
use Rattle.numerals.specs.Texts.{space}

-- The number that bytes say, the highest first, after those that say v.
unfoldable pub numeral : ℕ → List ℕ → ℕ
numeral v [] = v
numeral v (b ∷ bs) = numeral (v * 256 + b) bs

-- The n bytes from a place on: fewer at the end of s, and never more than eight.
abbrev pub bytes_at : List ℕ → ℕ → ℕ → List ℕ
bytes_at s at n = take (min n 8) (drop at s)

-- The n lowest digits of v in base b, the highest first, each raised by z.
unfoldable pub digits : ℕ → ℕ → ℕ → ℕ → List ℕ
digits b z zero v = []
digits b z (suc n) v = digits b z n (v / b) ++ ((v % b + z) ∷ [])

-- How many decimal digits v has, at most k + 1.
unfoldable pub width_up_to : ℕ → ℕ → ℕ
width_up_to zero v = 1
width_up_to (suc k) v = cond (ltb v 10) 1 (suc (width_up_to k (v / 10)))

-- How many a u64 has.
unfoldable pub width_of : ℕ → ℕ
width_of v = width_up_to 19 v

-- A number in decimal.
unfoldable pub decimal_of : ℕ → List ℕ
decimal_of v = digits 10 (code "0") (width_of v) v

-- A number in decimal, and the byte after it.
unfoldable pub column : ℕ → ℕ → List ℕ
column v b = decimal_of v ++ (b ∷ [])

-- Two numbers, a space between them, and the byte after them.
unfoldable pub pair : ℕ → ℕ → ℕ → List ℕ
pair v w b = column v space ++ column w b
