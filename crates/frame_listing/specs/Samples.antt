-- Short dance shows and their listings as one table. proofs/AllSamples has the theorem that covers it.
use Rattle.std.specs.Prelude.{List, [], ◌∷◌, ◌++◌, ℕ}
use Rattle.numerals.specs.Texts.{bytes}

-- A text, and what stands after the header in its listing.
pub record Sample : Type 0 where
  pub text : List ℕ
  pub lines : List ℕ

abbrev pub sample : List ℕ → List ℕ → Sample
sample text lines = record { text = text; lines = lines }

unfoldable pub samples : List Sample
samples =
    -- no call
    sample [] []
    -- a claim waits behind another, and the last line has no line feed
    ∷ sample
    (bytes "rig 1\n" ++ bytes "claim 1\n" ++ bytes "claim 1\n" ++ bytes "release 1")
    (bytes "1 0 0 0 0\n" ++ bytes "2 0 1 0 0\n" ++ bytes "on 1\n" ++ bytes "3 0 2 1 1\n" ++ bytes "4 0 1 0 0\n" ++ bytes "on 2\n")
    -- a dark rig
    ∷ sample (bytes "rig 0\n" ++ bytes "claim 1\n") (bytes "stop 1 1\n")
    -- a comment; a group outside the rig
    ∷ sample (bytes "rig 1\n" ++ bytes "# a beat\n" ++ bytes "claim 2\n") (bytes "1 0 0 0 0\n" ++ bytes "2 2 0 0 0\n")
    ∷ []
