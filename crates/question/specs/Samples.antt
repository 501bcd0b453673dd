-- Questions about the table of document 01's plot S, and about loads that end early, with their answers, as one table. proofs/AllSamples has
-- the theorem that covers it.
use Rattle.std.specs.Prelude.{List, [], ◌∷◌, ℕ}
use Rattle.numerals.specs.Texts.{bytes}
use Rattle.format.specs.Calls.{rig, rig_with, claim, claim_with, release, clock, declaration, grace, claim_from}
use Rattle.load.specs.Bytes.{load_of}
use Rattle.question.specs.Questions.{question_of}
use Rattle.question.specs.Answers.{asked_or}

pub record Sample : Type 0 where
  pub load : List ℕ
  pub line : List ℕ
  pub text : List ℕ

abbrev pub sample : List ℕ → List ℕ → List ℕ → Sample
sample load line text = record { load = load; line = line; text = text }

-- "Plot S": rig F hex; claims of 8, C, 6 hex for 10, 10, 11 at clock 0. And a release of ticket 1 at 4.
abbrev pub plot : List ℕ
plot = load_of 1 (rig 0xF ∷ claim 0 0x8 10 ∷ claim 0 0xC 10 ∷ claim 0 0x6 11 ∷ [])

abbrev pub released : List ℕ
released = load_of 1 (rig 0xF ∷ claim 0 0x8 10 ∷ claim 0 0xC 10 ∷ claim 0 0x6 11 ∷ release 4 1 ∷ [])

-- A pool of 3; claims on groups 0, 1, 2 that draw 2, 2, 0: the first and the third are on.
abbrev pub pooled : List ℕ
pooled = load_of 2 (rig_with 0xF 3 ∷ claim_with 0 0x1 10 2 ∷ claim_with 0 0x2 10 2 ∷ claim_with 0 0x4 10 0 ∷ [])

-- Plot S with a grace of 5, or of 0, at clock 12: ticket 1 overruns.
abbrev pub overrun : ℕ → List ℕ
overrun n =
    load_of 3 (rig_with 0xF 0 ∷ grace n ∷ declaration 1 64 64 ∷ claim_from 0 0x8 10 0 1 ∷ claim_from 0 0xC 10 0 1 ∷ claim_from 0 0x6 11 0 1 ∷ clock 12 ∷ [])

unfoldable pub samples : List Sample
samples =
    sample plot (bytes "lookup 3") (bytes "ticket 3 waits, start 20\n")
    ∷ sample released (bytes "lookup 2") (bytes "ticket 2 is on, promised end 14\n")
    ∷ sample released (bytes "lookup 1") (bytes "ticket 1 is not pending\n")
    ∷ sample plot (bytes "why 3") (bytes "ticket 3 waits for 2 until 20, 2 waits for 1 until 10, 1 is on until 10\n")
    ∷ sample plot (bytes "why 1") (bytes "ticket 1 is on\n")
    ∷ sample released (bytes "why 1") (bytes "ticket 1 is not pending\n")
    -- through the pool
    ∷ sample pooled (bytes "why 2") (bytes "ticket 2 waits for 1 until 10, 1 is on until 10\n")
    ∷ sample (overrun 5) (bytes "why 3") (bytes "ticket 3 waits for 2 until 27, 2 waits for 1 until 17, 1 is on until 17\n")
    ∷ sample (overrun 0) (bytes "why 2") (bytes "ticket 2 waits for 1 until 12, 1 is on until 12\n")
    ∷ sample plot (bytes "common 2 3") (bytes "tickets 2 and 3 share group 2\n")
    ∷ sample plot (bytes "common 1 3") (bytes "tickets 1 and 3 share no group\n")
    ∷ sample plot (bytes "common 9 8") (bytes "ticket 9 is not pending\n")
    ∷ sample plot (bytes "common 3 9") (bytes "ticket 9 is not pending\n")
    ∷ sample pooled (bytes "free") (bytes "1 of 3 units free\n")
    -- with no pool
    ∷ sample plot (bytes "free") (bytes "0 of 0 units free\n")
    -- an empty load
    ∷ sample [] (bytes "lookup 1") (bytes "stop 12 0\nticket 1 is not pending\n")
    -- a dark rig, and nothing after it
    ∷ sample (load_of 1 (rig 0 ∷ claim 0 0x8 10 ∷ [])) (bytes "lookup 1") (bytes "stop 1 1\nticket 1 is not pending\n")
    ∷ []

abbrev pub given : Sample → List ℕ
given x = asked_or [] (λ text. text) x.load (question_of x.line)

abbrev pub expected : Sample → List ℕ
expected x = x.text

-- Lines that ask no question.
unfoldable pub wrong_lines : List (List ℕ)
wrong_lines =
    []
    ∷ bytes "lookup"
    ∷ bytes "lookup 3 2"
    ∷ bytes "lookup x"
    ∷ bytes "lookup 65536"
    ∷ bytes "why"
    ∷ bytes "why 3 2"
    ∷ bytes "common 2"
    ∷ bytes "common 1 2 3"
    ∷ bytes "look 3"
    ∷ bytes "free 1"
    ∷ []
