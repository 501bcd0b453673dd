-- What is printed is read back. proofs/ReadBack has the proofs of the first two, line-read-back and text-read-back, proofs/Remaking that of
-- the third, shown-makes.
use Rattle.std.specs.Prelude.{ℕ, true, cond, List, [], ◌∷◌, ◌++◌, map, ◌≡◌, eqb}
use Rattle.format.specs.declared.Call.{Call}
use Rattle.format.specs.Calls.{Typed}
use Rattle.format.specs.Records.{record_of, calls_of, carries}
use Rattle.words.specs.Parts.{lines_in}
use Rattle.load.specs.Reading.{edition_of, walk, load_number}
use Rattle.load.specs.RoundTrip.{Bytes}
use Rattle.load_text.specs.Answers.{nothing, a_call}
use Rattle.load_text.specs.Lines.{line_of, text_of}
use Rattle.load_text.specs.Making.{whole, heading, said_in, made_by}
use Rattle.load_text.specs.Parsing.{line_says}

-- The line that a call is printed as in an edition that carries it says that call, in front of any other lines.
abbrev pub LineReadBack : Type 0
LineReadBack = (e : ℕ) (c : Call) → carries e (record_of c) ≡ true → Typed c → (rest : List ℕ)
    → map (line_says e) (lines_in (line_of e c ++ rest)) ≡ a_call c ∷ map (line_says e) (lines_in rest)

-- The lines that a load which reads to its end is printed as have its edition, and say its calls; the header of edition 1 says nothing.
abbrev pub TextReadBack : Type 0
TextReadBack = (s : List ℕ) → Bytes s → load_number s ≡ 0
    → ((heading (text_of s)).number ≡ 0) × ((heading (text_of s)).edition ≡ edition_of s)
    × (said_in (text_of s) ≡ cond (eqb (edition_of s) 1) (nothing ∷ []) [] ++ map a_call (calls_of (walk s 1).records))

-- The text that such a load is printed as makes that load again.
abbrev pub ShownMakes : Type 0
ShownMakes = (s : List ℕ) → Bytes s → load_number s ≡ 0 → made_by (text_of s) ≡ whole s
