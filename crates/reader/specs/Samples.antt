-- The loads of case 15 of document 01's "Plots to try", those of document 02's editions 2 and 3 and some more, as one table of what a reader
-- opened on each gives. proofs/AllSamples has the theorem that covers the table, and the law of a load that is too long to be written out.
use Rattle.std.specs.Prelude.{ℕ, ◌<◌, List, [], ◌∷◌, ◌++◌, ◌≡◌, length}
use Rattle.format.specs.declared.Call.{Call}
use Rattle.format.specs.Calls.{rig, claim, release, clock, rig_with, claim_with, claim_from, declaration, grace}
use Rattle.format.specs.Records.{records_of}
use Rattle.load.specs.Answers.{Answer, one_record, the_end}
use Rattle.load.specs.Bytes.{call_bytes, load_of}
use Rattle.load.specs.Reading.{Walk, reading}
use Rattle.reader.specs.Items.{refused, item_of}

-- A load; what `next` answers first; the calls that the reader gives, and the number at which it stops, 0 at the end.
pub record Sample : Type 0 where
  pub load : List ℕ
  pub first : Answer
  pub calls : List Call
  pub stop : ℕ

abbrev pub sample : List ℕ → Answer → List Call → ℕ → Sample
sample load first calls stop = record { load = load; first = first; calls = calls; stop = stop }

unfoldable pub samples : List Sample
samples =
    -- "none gives 12"
    sample [] (refused 12) [] 12
    -- "01 prints the header alone"
    ∷ sample (0x01 ∷ []) the_end [] 0
    -- "FF gives 11"
    ∷ sample (0xFF ∷ []) (refused 11) [] 11
    -- "01 00 gives 12"
    ∷ sample (0x01 ∷ 0x00 ∷ []) (refused 12) [] 12
    -- "01 00 00 gives 13"
    ∷ sample (0x01 ∷ 0x00 ∷ 0x00 ∷ []) (refused 13) [] 13
    -- no edition, with records after it
    ∷ sample (0xFF ∷ call_bytes 1 (rig 0xF)) (refused 11) [] 11
    ∷ sample (0xFE ∷ call_bytes 1 (rig 0xF) ++ call_bytes 1 (clock 1)) (refused 11) [] 11
    -- "Reader and writer pass fields on without judging them": a dark rig
    ∷ sample (load_of 1 (rig 0 ∷ clock 1 ∷ [])) (one_record (rig 0) 12) (rig 0 ∷ clock 1 ∷ []) 0
    -- "The first record is the rig and no other is"
    ∷ sample (load_of 1 (clock 1 ∷ [])) (refused 13) [] 13
    ∷ sample (load_of 1 (rig 0xF ∷ rig 0xF ∷ clock 1 ∷ [])) (one_record (rig 0xF) 12) (rig 0xF ∷ []) 13
    -- a kind that the edition lacks, and a record that is cut off
    ∷ sample (load_of 1 (rig 0xF ∷ []) ++ (0x00 ∷ 0x01 ∷ 0x06 ∷ [])) (one_record (rig 0xF) 12) (rig 0xF ∷ []) 13
    ∷ sample (load_of 1 (rig 0xF ∷ []) ++ (0x00 ∷ 0x09 ∷ 0x05 ∷ [])) (one_record (rig 0xF) 12) (rig 0xF ∷ []) 12
    -- the load whose listing the paper prints
    ∷ sample (load_of 1 (rig 0xF ∷ claim 0 0x8 10 ∷ claim 0 0xC 10 ∷ claim 0 0x6 11 ∷ claim 0 0x3 20 ∷ release 4 1 ∷ [])) (one_record (rig 0xF) 12)
    (rig 0xF ∷ claim 0 0x8 10 ∷ claim 0 0xC 10 ∷ claim 0 0x6 11 ∷ claim 0 0x3 20 ∷ release 4 1 ∷ []) 0
    -- editions 2 and 3 alone, and no edition after them
    ∷ sample (0x02 ∷ []) the_end [] 0
    ∷ sample (0x03 ∷ []) the_end [] 0
    ∷ sample (0x04 ∷ []) (refused 11) [] 11
    -- "two bytes of k at the end of the rig (length 11)": each edition has its own length alone
    ∷ sample (0x02 ∷ 0x00 ∷ 0x0B ∷ 0x01 ∷ 0x00 ∷ 0x00 ∷ 0x00 ∷ 0x00 ∷ 0x00 ∷ 0x00 ∷ 0x00 ∷ 0x0F ∷ 0x01 ∷ 0x02 ∷ []) (one_record (rig_with 0xF 258) 14) (rig_with 0xF 258 ∷ []) 0
    ∷ sample (0x02 ∷ call_bytes 1 (rig 0xF)) (refused 13) [] 13
    ∷ sample (0x01 ∷ call_bytes 2 (rig_with 0xF 3)) (refused 13) [] 13
    -- "and two of units at that of the claim (length 23)"
    ∷ sample (load_of 2 (rig_with 0xF 3 ∷ claim_with 0 0x8 10 2 ∷ release 4 1 ∷ clock 5 ∷ [])) (one_record (rig_with 0xF 3) 14)
    (rig_with 0xF 3 ∷ claim_with 0 0x8 10 2 ∷ release 4 1 ∷ clock 5 ∷ []) 0
    ∷ sample (load_of 2 (rig_with 0xF 3 ∷ []) ++ call_bytes 1 (claim 0 0x8 10)) (one_record (rig_with 0xF 3) 14) (rig_with 0xF 3 ∷ []) 13
    ∷ sample (load_of 1 (rig 0xF ∷ []) ++ call_bytes 2 (claim_with 0 0x8 10 2)) (one_record (rig 0xF) 12) (rig 0xF ∷ []) 13
    -- "edition 1 reads as 0 for both"
    ∷ sample (load_of 1 (rig_with 0xF 0 ∷ claim_with 0 0x8 10 0 ∷ [])) (one_record (rig 0xF) 12) (rig 0xF ∷ claim 0 0x8 10 ∷ []) 0
    -- "a kind 6 record of desk, guarantee and limit, a byte each (length 4)"; the table judges them
    ∷ sample (load_of 3 (rig_with 0xF 3 ∷ []) ++ (0x00 ∷ 0x04 ∷ 0x06 ∷ 0x02 ∷ 0x0A ∷ 0x40 ∷ [])) (one_record (rig_with 0xF 3) 14) (rig_with 0xF 3 ∷ declaration 2 10 64 ∷ []) 0
    ∷ sample (load_of 3 (rig_with 0xF 3 ∷ declaration 0 255 255 ∷ [])) (one_record (rig_with 0xF 3) 14) (rig_with 0xF 3 ∷ declaration 0 255 255 ∷ []) 0
    ∷ sample (load_of 3 (rig_with 0xF 3 ∷ []) ++ (0x00 ∷ 0x03 ∷ 0x06 ∷ 0x02 ∷ 0x0A ∷ [])) (one_record (rig_with 0xF 3) 14) (rig_with 0xF 3 ∷ []) 13
    -- "a desk byte at the end of the claim (length 24)"
    ∷ sample (load_of 3 (rig_with 0xF 3 ∷ declaration 2 10 64 ∷ claim_from 0 0x8 10 2 2 ∷ release 4 1 ∷ clock 5 ∷ [])) (one_record (rig_with 0xF 3) 14)
    (rig_with 0xF 3 ∷ declaration 2 10 64 ∷ claim_from 0 0x8 10 2 2 ∷ release 4 1 ∷ clock 5 ∷ []) 0
    ∷ sample (load_of 3 (rig_with 0xF 3 ∷ []) ++ call_bytes 2 (claim_with 0 0x8 10 2)) (one_record (rig_with 0xF 3) 14) (rig_with 0xF 3 ∷ []) 13
    ∷ sample (load_of 2 (rig_with 0xF 3 ∷ []) ++ call_bytes 3 (claim_from 0 0x8 10 2 2)) (one_record (rig_with 0xF 3) 14) (rig_with 0xF 3 ∷ []) 13
    -- "kind 8, the grace in four bytes (length 5)"; the table judges it
    ∷ sample (load_of 3 (rig_with 0xF 3 ∷ []) ++ (0x00 ∷ 0x05 ∷ 0x08 ∷ 0x00 ∷ 0x00 ∷ 0xEA ∷ 0x60 ∷ [])) (one_record (rig_with 0xF 3) 14) (rig_with 0xF 3 ∷ grace 60000 ∷ []) 0
    ∷ sample (load_of 3 (rig_with 0xF 3 ∷ []) ++ (0x00 ∷ 0x05 ∷ 0x08 ∷ 0xFF ∷ 0xFF ∷ 0xFF ∷ 0xFF ∷ [])) (one_record (rig_with 0xF 3) 14) (rig_with 0xF 3 ∷ grace 4294967295 ∷ []) 0
    ∷ sample (load_of 3 (rig_with 0xF 3 ∷ grace 5 ∷ declaration 2 10 64 ∷ grace 0 ∷ clock 5 ∷ [])) (one_record (rig_with 0xF 3) 14)
    (rig_with 0xF 3 ∷ grace 5 ∷ declaration 2 10 64 ∷ grace 0 ∷ clock 5 ∷ []) 0
    -- of another length, cut off, and "after the rig"
    ∷ sample (load_of 3 (rig_with 0xF 3 ∷ []) ++ (0x00 ∷ 0x04 ∷ 0x08 ∷ 0x00 ∷ 0xEA ∷ 0x60 ∷ [])) (one_record (rig_with 0xF 3) 14) (rig_with 0xF 3 ∷ []) 13
    ∷ sample (load_of 3 (rig_with 0xF 3 ∷ []) ++ (0x00 ∷ 0x06 ∷ 0x08 ∷ 0x00 ∷ 0x00 ∷ 0x00 ∷ 0xEA ∷ 0x60 ∷ [])) (one_record (rig_with 0xF 3) 14) (rig_with 0xF 3 ∷ []) 13
    ∷ sample (load_of 3 (rig_with 0xF 3 ∷ []) ++ (0x00 ∷ 0x05 ∷ 0x08 ∷ 0x00 ∷ 0x00 ∷ 0xEA ∷ [])) (one_record (rig_with 0xF 3) 14) (rig_with 0xF 3 ∷ []) 12
    ∷ sample (load_of 3 (grace 60000 ∷ [])) (refused 13) [] 13
    -- older editions have no kinds 6 and 8, and edition 3 no kind 7 and none after 8
    ∷ sample (load_of 1 (rig 0xF ∷ []) ++ call_bytes 3 (declaration 1 64 64)) (one_record (rig 0xF) 12) (rig 0xF ∷ []) 13
    ∷ sample (load_of 2 (rig_with 0xF 3 ∷ []) ++ call_bytes 3 (declaration 1 64 64)) (one_record (rig_with 0xF 3) 14) (rig_with 0xF 3 ∷ []) 13
    ∷ sample (load_of 1 (rig 0xF ∷ []) ++ call_bytes 3 (grace 60000)) (one_record (rig 0xF) 12) (rig 0xF ∷ []) 13
    ∷ sample (load_of 2 (rig_with 0xF 3 ∷ []) ++ call_bytes 3 (grace 60000)) (one_record (rig_with 0xF 3) 14) (rig_with 0xF 3 ∷ []) 13
    ∷ sample (load_of 3 (rig_with 0xF 3 ∷ []) ++ (0x00 ∷ 0x01 ∷ 0x07 ∷ [])) (one_record (rig_with 0xF 3) 14) (rig_with 0xF 3 ∷ []) 13
    ∷ sample (load_of 3 (rig_with 0xF 3 ∷ []) ++ (0x00 ∷ 0x05 ∷ 0x07 ∷ 0x00 ∷ 0x00 ∷ 0xEA ∷ 0x60 ∷ [])) (one_record (rig_with 0xF 3) 14) (rig_with 0xF 3 ∷ []) 13
    ∷ sample (load_of 3 (rig_with 0xF 3 ∷ []) ++ (0x00 ∷ 0x05 ∷ 0x09 ∷ 0x00 ∷ 0x00 ∷ 0xEA ∷ 0x60 ∷ [])) (one_record (rig_with 0xF 3) 14) (rig_with 0xF 3 ∷ []) 13
    -- a claim of older editions is desk 1's
    ∷ sample (load_of 1 (rig 0xF ∷ claim 0 0x8 10 ∷ [])) (one_record (rig 0xF) 12) (rig 0xF ∷ claim_from 0 0x8 10 0 1 ∷ []) 0
    ∷ sample (load_of 2 (rig 0xF ∷ claim_with 0 0x8 10 2 ∷ [])) (one_record (rig 0xF) 14) (rig 0xF ∷ claim_from 0 0x8 10 2 1 ∷ []) 0
    ∷ []

-- What the reader gives, and what the table says.
abbrev pub given : Sample → Answer × Walk
given x = (item_of x.load 1, reading x.load)

abbrev pub expected : Sample → Answer × Walk
expected x = (x.first, record { records = records_of x.calls; stop = x.stop })

-- 14: "load over 65,536 bytes", wherever the reader stands.
abbrev pub OverlongRefused : Type 0
OverlongRefused = (s : List ℕ) (at : ℕ) → 65536 < length s → item_of s at ≡ refused 14
