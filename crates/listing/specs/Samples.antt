-- The listing that document 01 prints, those of case 15 of its "Plots to try" and of a dark rig, and some of editions 2 and 3, as one table of
-- loads and texts. proofs/AllSamples has the theorem that covers the table.
use Rattle.std.specs.Prelude.{List, [], ◌∷◌, ◌++◌, ℕ}
use Rattle.numerals.specs.Texts.{bytes}
use Rattle.format.specs.Calls.{rig, claim, release, clock, rig_with, claim_with, claim_from, declaration, grace}
use Rattle.load.specs.Bytes.{load_of}
use Rattle.listing.specs.Lines.{header}
use Rattle.listing.specs.Text.{listing_of}

pub record Sample : Type 0 where
  pub load : List ℕ
  pub lines : List ℕ

-- A load, and what stands after the header in its listing.
abbrev pub sample : List ℕ → List ℕ → Sample
sample load lines = record { load = load; lines = lines }

-- "For a load of rig F hex, the three claims of S below, the claim of case 5 and a release of ticket 1 at clock 4, the whole is"
abbrev pub printed : Sample
printed =
    sample
    (load_of 1 (rig 0xF ∷ claim 0 0x8 10 ∷ claim 0 0xC 10 ∷ claim 0 0x6 11 ∷ claim 0 0x3 20 ∷ release 4 1 ∷ []))
    (bytes "1 0 0 0\n"
    ++ bytes "2 0 1 0\n"
    ++ bytes "on 1 0\n"
    ++ bytes "3 0 2 10\n"
    ++ bytes "4 0 3 20\n"
    ++ bytes "5 0 4 0\n"
    ++ bytes "on 4 0\n"
    ++ bytes "6 0 1 4\n"
    ++ bytes "on 2 4\n")

unfoldable pub samples : List Sample
samples =
    printed
    -- "none gives 12"
    ∷ sample [] (bytes "stop 12 0\n")
    -- "01 prints the header alone"
    ∷ sample (0x01 ∷ []) []
    -- "FF gives 11"
    ∷ sample (0xFF ∷ []) (bytes "stop 11 0\n")
    -- "01 00 gives 12"
    ∷ sample (0x01 ∷ 0x00 ∷ []) (bytes "stop 12 1\n")
    -- "01 00 00 gives 13"
    ∷ sample (0x01 ∷ 0x00 ∷ 0x00 ∷ []) (bytes "stop 13 1\n")
    -- a dark rig, and nothing after it
    ∷ sample (load_of 1 (rig 0 ∷ clock 1 ∷ [])) (bytes "stop 1 1\n")
    -- edition 2, a pool of 2: a claim of 2 units, one of 3, and one of a unit alone, which waits for the first
    ∷ sample (load_of 2 (rig_with 0x1 2 ∷ claim_with 0 0x1 10 2 ∷ claim_with 0 0x1 10 3 ∷ claim_with 0 0x0 5 1 ∷ []))
    (bytes "1 0 0 0\n"
    ++ bytes "2 0 1 0\n"
    ++ bytes "on 1 0\n"
    ++ bytes "3 16 0 0\n"
    ++ bytes "4 0 2 10\n")
    -- edition 3: a declaration, one outside 1 to 8, a claim of the client declared and one of another, and a declaration that comes late
    ∷ sample (load_of 3 (rig_with 0x1 0 ∷ declaration 1 1 2 ∷ declaration 9 0 0 ∷ claim_from 0 0x1 10 0 1 ∷ claim_from 0 0x1 10 0 2 ∷ declaration 2 0 0 ∷ clock 5 ∷ []))
    (bytes "1 0 0 0\n"
    ++ bytes "2 0 0 0\n"
    ++ bytes "3 17 0 0\n"
    ++ bytes "4 0 1 0\n"
    ++ bytes "on 1 0\n"
    ++ bytes "5 17 0 0\n"
    ++ bytes "stop 13 6\n")
    -- edition 3 with a grace: one over 60,000; one of 5; S, and ticket 1 overruns; a grace that comes late; a claim behind it; its release
    ∷ sample
    (load_of 3 (rig_with 0xF 0 ∷ grace 60001 ∷ grace 5 ∷ declaration 1 64 64 ∷ claim_from 0 0x8 10 0 1 ∷ claim_from 0 0xC 10 0 1 ∷ claim_from 0 0x6 11 0 1
    ∷ clock 12 ∷ grace 1 ∷ claim_from 12 0x8 3 0 1 ∷ release 13 1 ∷ []))
    (bytes "1 0 0 0\n"
    ++ bytes "2 21 0 0\n"
    ++ bytes "3 0 0 0\n"
    ++ bytes "4 0 0 0\n"
    ++ bytes "5 0 1 0\n"
    ++ bytes "on 1 0\n"
    ++ bytes "6 0 2 10\n"
    ++ bytes "7 0 3 20\n"
    ++ bytes "8 0 0 12\n"
    ++ bytes "9 21 0 0\n"
    ++ bytes "10 0 4 27\n"
    ++ bytes "11 0 1 13\n"
    ++ bytes "on 2 13\n")
    -- edition 2 has no kind 8
    ∷ sample (load_of 2 (rig_with 0xF 0 ∷ []) ++ (0x00 ∷ 0x05 ∷ 0x08 ∷ 0x00 ∷ 0x00 ∷ 0x00 ∷ 0x05 ∷ []))
    (bytes "1 0 0 0\n"
    ++ bytes "stop 13 2\n")
    ∷ []

abbrev pub given : Sample → List ℕ
given x = listing_of x.load

abbrev pub expected : Sample → List ℕ
expected x = header ++ x.lines
