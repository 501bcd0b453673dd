-- The listing of a dance show in parts. Each has the whole lines of some calls, and surely goes into its buffer; the next begins where it ends.
use Rattle.std.specs.Prelude.{◌≡◌, ◌&&◌, cond, List, [], ◌∷◌, ◌++◌, ℕ, zero, suc, ◌+◌, ◌-◌, ◌≤◌, ◌<◌, ltb, leb, length, drop, Some, None, Ok, Err}
use Rattle.numerals.specs.Laid.{behind, Put}
use Rattle.words.specs.Parts.{lines_in}
use Rattle.frames.specs.Calls.{Model, blank}
use Rattle.frame_table.specs.Valid.{Valid}
use Rattle.dance_text.specs.declared.Call.{Call}
use Rattle.dance_text.specs.Lines.{Line, line_says}
use Rattle.dance_text.specs.Shows.{said_in, calls_in}
use Rattle.frame_listing.specs.declared.Part.{Part}
use Rattle.frame_listing.specs.Lines.{header, stop_line}
use Rattle.frame_listing.specs.Text.{step_of, stops, entry_of, lines_of, text_of}

-- ── a listing up to a limit ──
-- Where a listing stands: what is laid, a place in the text, the number of the next call, and the table.
pub record Progress : Type 0 where
  pub laid : List ℕ
  pub at : ℕ
  pub call : ℕ
  pub table : Model

-- Behind a line and its line feed.
abbrev pub past_line : Progress → List ℕ → Progress
past_line s l = record { laid = s.laid; at = s.at + length l + 1; call = s.call; table = s.table }

-- A call with its lines. A rig that is refused ends the listing: of a text of `size` bytes nothing is left.
unfoldable pub called : ℕ → Progress → Call → Progress
called size s c =
    let t = step_of s.table c in
    cond (stops c t.answer.number)
    (record { laid = s.laid ++ stop_line; at = size; call = s.call; table = t.model })
    (record { laid = s.laid ++ entry_of s.call t.answer; at = s.at; call = s.call + 1; table = t.model })

-- What a line says.
abbrev pub heard : ℕ → Progress → Line → Progress
heard size s (Ok None) = s
heard size s (Ok (Some c)) = called size s c
heard size s (Err r) = s

-- The lines from there on, until the text ends or more bytes are laid than a limit. The greatest usize is no limit: no place is behind it.
unfoldable pub up_to : ℕ → ℕ → Progress → List (List ℕ) → Progress
up_to size limit s [] = s
up_to size limit s (l ∷ ls) =
    cond (ltb s.at size && leb (behind 0 (length s.laid)) limit) (up_to size limit (heard size (past_line s l) (line_says l)) ls) s

-- ── parts ──
-- The lines of a call have at most 105 + 64 * 24 bytes; a buffer for a part has 33 more at least, for the header.
abbrev pub entry_room : ℕ
entry_room = 1641

abbrev pub part_room : ℕ
part_room = 1674

-- Behind part p, with xs laid.
abbrev pub progress : List ℕ → Part → Progress
progress xs p = record { laid = xs; at = p.at; call = p.call; table = p.table }

-- What a part of n bytes hands on; of all bytes that are laid. The buffer begins with these, and its later bytes keep their contents.
abbrev pub part_as : ℕ → Progress → Part
part_as n s = record { length = n; at = s.at; call = s.call; table = s.table }

abbrev pub part_of : Progress → Part
part_of s = part_as (length s.laid) s

abbrev pub part_out : Progress → List ℕ → List ℕ
part_out s out = s.laid ++ drop (length s.laid) out

-- The part behind p of a text, with xs in front, in a buffer of `room` bytes. A buffer that is too short gets nothing.
unfoldable pub part_behind : List ℕ → List ℕ → Part → ℕ → Progress
part_behind text xs p room = cond (ltb room part_room) (progress [] p) (up_to (length text) (room - entry_room) (progress xs p) (lines_in (drop p.at text)))

-- The first part has the header in front.
abbrev pub start : Part
start = record { length = 0; at = 0; call = 1; table = blank 0 }

abbrev pub first_part : List ℕ → ℕ → Progress
first_part text room = part_behind text header start room

abbrev pub next_part : List ℕ → Part → ℕ → Progress
next_part text p room = part_behind text [] p room

-- A part that these calls make and take: before every call there is a byte of the text.
pub record Ready (p : Part) : Type 0 where
  pub valid : Valid p.table
  pub few : p.call ≤ p.at + 1

-- What the loop of parts and whole listings does: the lines behind p and xs up to a limit are laid over o, which becomes q.
pub record Reached (text o xs : List ℕ) (p : Part) (limit : ℕ) (r : Part) (q : List ℕ) : Type 0 where
  pub reached : Progress
  pub is : reached ≡ up_to (length text) limit (progress xs p) (lines_in (drop p.at text))
  pub put : Put o 0 reached.laid r.length q
  pub answer : r ≡ part_as r.length reached
  pub ready : Ready r
  pub short : limit < 18446744073709551615 → length reached.laid ≤ limit + entry_room

-- ── the parts are the listing ──
-- The lines that are left.
abbrev pub left : List ℕ → Progress → List ℕ
left text s = lines_of s.call s.table (calls_in (said_in (drop s.at text)))

-- The bytes of a part and of n parts behind it.
unfoldable pub joined : ℕ → List ℕ → ℕ → Progress → List ℕ
joined zero text room s = s.laid
joined (suc n) text room s = s.laid ++ joined n text room (next_part text (part_of s) room)

-- For a buffer that is not too short. proofs/InParts has the proof.
pub record InParts (text : List ℕ) (room : ℕ) : Type 0 where
  -- The parts are the listing. There are no more than the text has bytes, but for the first.
  pub whole : joined (length text) text room (first_part text room) ≡ text_of text
  -- Each part, and what is left behind it, is what was left before it, also in buffers of different lengths.
  pub first : (first_part text room).laid ++ left text (first_part text room) ≡ text_of text
  pub next : (p : Part) → (next_part text p room).laid ++ left text (next_part text p room) ≡ left text (progress [] p)
  -- It ends farther on in the text, and behind the text's end nothing is left.
  pub grows : (p : Part) → p.at < length text → p.at < (next_part text p room).at
  pub ends : (s : Progress) → length text ≤ s.at → left text s ≡ []

abbrev pub PartsMakeTheListing : Type 0
PartsMakeTheListing = (text : List ℕ) (room : ℕ) → part_room ≤ room → InParts text room
