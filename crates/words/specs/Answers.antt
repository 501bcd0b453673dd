-- What is answered of words and texts by number and values: "Where an answer is an enum, a definition gives this paper's number and values
-- for each of its cases." A number is document 01's or a reason (Reasons), 0 where nothing is wrong. A value that a case does not have is 0.
use Rattle.std.specs.Prelude.{ℕ, zero, suc, List, length, Result, Ok, Err}
use Rattle.numerals.specs.Laid.{space_number}
use Rattle.words.specs.declared.reasons.Reason.{Reason}
use Rattle.words.specs.Reasons.{reason_number}

-- A value where a number is 0.
abbrev pub value_unless : ℕ → ℕ → ℕ
value_unless zero v = v
value_unless (suc k) v = 0

-- What a word says; each reason by its number.
pub record WordValues : Type 0 where
  pub number : ℕ
  pub value : ℕ

module _ {E : Type 0} where
  abbrev pub values_by : (E → ℕ) → Result ℕ E → WordValues
  values_by told (Ok v) = record { number = 0; value = v }
  values_by told (Err r) = record { number = told r; value = 0 }

abbrev pub word_values : Result ℕ Reason → WordValues
word_values f = values_by reason_number f

-- What a text comes to: the line that is wrong, counted from 1; the length of what stands in the lent buffer.
pub record TextValues : Type 0 where
  pub number : ℕ
  pub line : ℕ
  pub length : ℕ

-- A line that is wrong; and bytes for a lent buffer, with 15, of no line, where they do not go in.
abbrev pub wrong_at : ℕ → ℕ → TextValues
wrong_at line n = record { number = n; line = line; length = 0 }

abbrev pub lent_as : List ℕ → List ℕ → TextValues
lent_as bytes out = record { number = space_number bytes out; line = 0; length = value_unless (space_number bytes out) (length bytes) }
