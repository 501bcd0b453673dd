-- Quoted texts as bytes. All of them are ASCII, in which a character is a byte, its code.
use Rattle.std.specs.Prelude.{ℕ, zero, suc, List, [], ◌∷◌}
use Prim.Native.Char.{code}
use Prim.Native.String.{String, len, char_at}

-- The codes of n characters, from a place on.
abbrev pub codes_from : ℕ → ℕ → String → List ℕ
codes_from zero at s = []
codes_from (suc n) at s = code (char_at s at) ∷ codes_from n (suc at) s

abbrev pub bytes : String → List ℕ
bytes s = codes_from (len s) 0 s

-- The byte between words, and the one that ends a line.
abbrev pub space : ℕ
space = 32

abbrev pub line_feed : ℕ
line_feed = 10
