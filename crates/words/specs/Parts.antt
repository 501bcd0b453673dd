-- The parts of a text: its lines, a line's words, the items of a list; and what a line says before its comment.
use Rattle.std.specs.Prelude.{ℕ, suc, ◌+◌, ◌-◌, ◌≤◌, ◌<◌, ◌≡◌, Bool, true, not, ◌&&◌, ◌||◌, cond, List, [], ◌∷◌, eqb, length, take, drop, get_or}
use Prim.Native.Char.{code}
use Rattle.numerals.specs.Texts.{space, line_feed}

-- ── bytes ──
abbrev pub carriage_return : ℕ
carriage_return = code "\r"

abbrev pub tab : ℕ
tab = code "\t"

abbrev pub hash : ℕ
hash = code "#"

abbrev pub comma : ℕ
comma = code ","

abbrev pub dash : ℕ
dash = code "-"

-- ── parts ──
-- How many bytes stand before the first that passes p; these bytes, and those from it on.
unfoldable pub bytes_before : (ℕ → Bool) → List ℕ → ℕ
bytes_before p [] = 0
bytes_before p (b ∷ l) = cond (p b) 0 (suc (bytes_before p l))

abbrev pub until : (ℕ → Bool) → List ℕ → List ℕ
until p l = take (bytes_before p l) l

abbrev pub since : (ℕ → Bool) → List ℕ → List ℕ
since p l = drop (bytes_before p l) l

-- No byte passes p.
unfoldable pub none : (ℕ → Bool) → List ℕ → Bool
none p [] = true
none p (b ∷ l) = not (p b) && none p l

-- The place of the first byte from `at` on that passes p, or the text's end.
unfoldable pub place_of : (ℕ → Bool) → List ℕ → ℕ → ℕ
place_of p s at = at + bytes_before p (drop at s)

-- A byte in front of the first part.
abbrev pub in_front : ℕ → List (List ℕ) → List (List ℕ)
in_front b [] = (b ∷ []) ∷ []
in_front b (w ∷ ws) = (b ∷ w) ∷ ws

-- The parts of a text, each ended by a byte that passes p; the last may lack its end.
unfoldable pub parts : (ℕ → Bool) → List ℕ → List (List ℕ)
parts p [] = []
parts p (b ∷ l) = cond (p b) ([] ∷ parts p l) (in_front b (parts p l))

-- The parts that are not empty.
abbrev pub not_empty : List (List ℕ) → List (List ℕ)
not_empty [] = []
not_empty ([] ∷ ws) = not_empty ws
not_empty ((b ∷ w) ∷ ws) = (b ∷ w) ∷ not_empty ws

-- A byte is a; a line feed, a space or a tab, any other byte, a comma, a dash, either of the two.
abbrev pub is : ℕ → ℕ → Bool
is a b = eqb b a

abbrev pub is_feed : ℕ → Bool
is_feed b = is line_feed b

abbrev pub is_blank : ℕ → Bool
is_blank b = is space b || is tab b

abbrev pub is_full : ℕ → Bool
is_full b = not (is_blank b)

abbrev pub is_comma : ℕ → Bool
is_comma b = is comma b

abbrev pub is_dash : ℕ → Bool
is_dash b = is dash b

abbrev pub is_joint : ℕ → Bool
is_joint b = is_comma b || is_dash b

-- The lines of a text, the words of a line, the items of a list.
unfoldable pub lines_in : List ℕ → List (List ℕ)
lines_in l = parts is_feed l

unfoldable pub words_in : List ℕ → List (List ℕ)
words_in l = not_empty (parts is_blank l)

unfoldable pub items_in : List ℕ → List (List ℕ)
items_in l = parts is_comma l

-- What the code finds of the first part of a text: its bytes, and what stands behind the byte that ends it.
pub record FirstPart (p : ℕ → Bool) (l part rest : List ℕ) : Type 0 where
  pub first : part ≡ until p l
  pub behind : rest ≡ drop (length part + 1) l
  pub shorter : length rest < length l
  pub parts : parts p l ≡ part ∷ parts p rest

-- What it finds of the first word of a line: its bytes, and what stands behind them.
pub record FirstWord (l word rest : List ℕ) : Type 0 where
  pub first : word ≡ until is_blank (since is_full l)
  pub behind : rest ≡ since is_blank (since is_full l)
  pub some : 0 < length word
  pub shorter : length rest < length l
  pub words : words_in l ≡ word ∷ words_in rest

-- The bytes from one place to another.
abbrev pub word_at : List ℕ → ℕ → ℕ → List ℕ
word_at l from to = take (to - from) (drop from l)

-- The last bytes of a text.
abbrev pub IsLast : List ℕ → List ℕ → Type 0
IsLast l w = (length w ≤ length l) × (w ≡ drop (length l - length w) l)

-- A part of a text: these bytes, from its first to after its last.
pub record IsPart (l : List ℕ) (from to : ℕ) (w : List ℕ) : Type 0 where
  pub order : from ≤ to
  pub high : to ≤ length l
  pub is : word_at l from to ≡ w

-- A part that lies in the text: a pointer is a block of memory and a count of bytes from its start. p is the text's, q the part's.
pub record LiesIn (p : ℕ × ℕ) (l : List ℕ) (q : ℕ × ℕ) (w : List ℕ) : Type 0 where
  pub from : ℕ
  pub to : ℕ
  pub part : IsPart l from to w
  pub there : q ≡ (p.0, p.1 + from)

-- A line without the carriage return that ends it, and of that what stands before its comment.
unfoldable pub chomped : List ℕ → List ℕ
chomped l = cond (is carriage_return (get_or l (length l - 1) 0)) (take (length l - 1) l) l

unfoldable pub said : List ℕ → List ℕ
said l = until (is hash) (chomped l)

-- The first word that a line says; empty where it says nothing.
unfoldable pub first_said : List ℕ → List ℕ
first_said l = get_or (words_in (said l)) 0 []

-- The line of a text that has a number, counted from 1; empty where there is none.
unfoldable pub line_at : List ℕ → ℕ → List ℕ
line_at text k = get_or ([] ∷ lines_in text) k []
