-- What is answered: the text for a table and a question, the whole text for a load, and the answer and the lent buffer of a call.
use Rattle.std.specs.Prelude.{cond, List, [], ◌∷◌, ◌++◌, ◌≡◌, ℕ, zero, suc, eqb, length, Option, Some, None, Result, Ok, Err}
use Rattle.numbers.specs.Numbers.{no_space_number}
use Rattle.numerals.specs.Digits.{decimal_of}
use Rattle.numerals.specs.Laid.{space_number, lent_out}
use Rattle.numerals.specs.Texts.{bytes, line_feed}
use Rattle.rules.specs.declared.Claim.{Claim}
use Rattle.rules.specs.declared.Standing.{Standing}
use Rattle.rules.specs.declared.Standing.TheVariants.{NotPending, Waits, Holds}
use Rattle.rules.specs.declared.Common.{Common}
use Rattle.rules.specs.declared.Common.TheVariants.{Unknown, Shared, Apart}
use Rattle.rules.specs.declared.Setting.{Setting}
use Rattle.rules.specs.Lists.{keep}
use Rattle.rules.specs.Claims.{on, at, end_of}
use Rattle.rules.specs.Tests.{named}
use Rattle.rules.specs.Calls.{Model, setting_of, standing_of, common_of, free_of}
use Rattle.rules.specs.Chains.{chain}
use Rattle.replay.specs.StopLine.{stop_or}
use Rattle.replay.specs.Replay.{Replay, replay_of}
use Rattle.question.specs.declared.questions.Question.{Question}
use Rattle.question.specs.declared.questions.Question.TheVariants.{Lookup, Why, Free}
use Rattle.question.specs.declared.questions.Question.TheVariants as question
use Rattle.question.specs.declared.AskError.{AskError}
use Rattle.question.specs.declared.AskError.TheVariants.{NoSuch, NoRoom}
use Rattle.question.specs.Questions.{question_of}

-- Words, and a number after them.
unfoldable pub worded : List ℕ → ℕ → List ℕ
worded words v = words ++ decimal_of v

-- ── lookup ──
-- "ticket K waits, start S", "ticket K is on, promised end E", "ticket K is not pending"
abbrev pub standing_text : Standing → List ℕ
standing_text NotPending = bytes " is not pending"
standing_text (Waits s) = worded (bytes " waits, start ") s
standing_text (Holds e) = worded (bytes " is on, promised end ") e

unfoldable pub lookup_text : ℕ → Standing → List ℕ
lookup_text k s = worded (bytes "ticket ") k ++ standing_text s

-- ── why ──
-- "K waits for J until S, " of a waiting claim, the next of its chain and its start; "K is on until E" of the last and its end
unfoldable pub waits_text : ℕ → ℕ → ℕ → List ℕ
waits_text k j s = ((decimal_of k ++ worded (bytes " waits for ") j) ++ worded (bytes " until ") s) ++ bytes ", "

unfoldable pub holds_text : ℕ → ℕ → List ℕ
holds_text k e = decimal_of k ++ worded (bytes " is on until ") e

abbrev pub chain_text : Setting → List Claim → List ℕ
chain_text v [] = []
chain_text v (c ∷ []) = holds_text c.ticket (end_of v c)
chain_text v (w ∷ (c ∷ l)) = waits_text w.ticket c.ticket (at w) ++ chain_text v (c ∷ l)

-- "ticket K is on"
unfoldable pub is_on_text : ℕ → List ℕ
is_on_text k = worded (bytes "ticket ") k ++ bytes " is on"

-- Of the claims of ticket k, one or none: it is not pending (8), it is on (10), or "ticket " and its blocking chain.
abbrev pub why_from : Setting → List Claim → ℕ → List Claim → List ℕ
why_from v ps k [] = lookup_text k NotPending
why_from v ps k (c ∷ cs) = cond (on c) (is_on_text k) (bytes "ticket " ++ chain_text v (chain v ps c))

unfoldable pub why_text : Setting → List Claim → ℕ → List ℕ
why_text v ps k = why_from v ps k (keep (named k) ps)

-- ── common ──
-- The first of two tickets that is not pending, by how the first stands, where one of them is not.
abbrev pub absent_of : ℕ → ℕ → Standing → ℕ
absent_of j k NotPending = j
absent_of j k (Waits s) = k
absent_of j k (Holds e) = k

-- It is not pending. (Proved in proofs/Absent: named-absent.)
abbrev pub NamedAbsent : Type 0
NamedAbsent = (j k : ℕ) (ps : List Claim) → common_of j k ps ≡ Unknown → standing_of (absent_of j k (standing_of j ps)) ps ≡ NotPending

-- "tickets J and K share group G", "tickets J and K share no group", or "ticket K is not pending" of the first that is not
unfoldable pub tickets_text : ℕ → ℕ → List ℕ
tickets_text j k = worded (bytes "tickets ") j ++ worded (bytes " and ") k

abbrev pub common_text : ℕ → ℕ → Standing → Common → List ℕ
common_text j k s Unknown = lookup_text (absent_of j k s) NotPending
common_text j k s (Shared g) = tickets_text j k ++ worded (bytes " share group ") g
common_text j k s Apart = tickets_text j k ++ bytes " share no group"

-- ── free ──
-- "N of K units free"
unfoldable pub free_text : ℕ → ℕ → List ℕ
free_text n k = (decimal_of n ++ worded (bytes " of ") k) ++ bytes " units free"

-- ── the answers ──
abbrev pub sentence_of : Model → Question → List ℕ
sentence_of m (Lookup k) = lookup_text k (standing_of k m.pending)
sentence_of m (Why k) = why_text (setting_of m) m.pending k
sentence_of m (question.Common j k) = common_text j k (standing_of j m.pending) (common_of j k m.pending)
sentence_of m Free = free_text (free_of m) m.pool

unfoldable pub answer_text : Model → Question → List ℕ
answer_text m q = sentence_of m q ++ (line_feed ∷ [])

-- What is printed for a load: its stop line if it ends early, then the answer for the table that it leaves.
abbrev pub text_from : Replay → Question → List ℕ
text_from r q = stop_or r.stop r.at [] ++ answer_text r.left q

unfoldable pub text_of : List ℕ → Question → List ℕ
text_of load q = text_from (replay_of load) q

-- ── a call ──
-- What is answered by its number and the count of bytes: 201 is a line that asks no question, no number of document 01 and no reason of a
-- line of a show.
pub record AskedValues : Type 0 where
  pub number : ℕ
  pub bytes : ℕ

abbrev pub no_such_number : ℕ
no_such_number = 201

abbrev pub asked_values : Result ℕ AskError → AskedValues
asked_values (Ok n) = record { number = 0; bytes = n }
asked_values (Err NoSuch) = record { number = no_such_number; bytes = 0 }
asked_values (Err NoRoom) = record { number = no_space_number; bytes = 0 }

-- A text that goes into the buffer, or not.
abbrev pub written_as : ℕ → ℕ → Result ℕ AskError
written_as zero n = Ok n
written_as (suc k) n = Err NoRoom

unfoldable pub written : List ℕ → List ℕ → Result ℕ AskError
written text out = written_as (space_number text out) (length text)

-- In numbers: the bytes of a text that goes into the buffer, else 15.
unfoldable pub lent_values : List ℕ → List ℕ → AskedValues
lent_values text out = record { number = space_number text out; bytes = cond (eqb (space_number text out) 0) (length text) 0 }

-- What becomes of a line: what is given where it asks no question, or f of the text of the one that it asks.
abbrev pub asked_or : {A : Type 0} → A → (List ℕ → A) → List ℕ → Option Question → A
asked_or none f load None = none
asked_or none f load (Some q) = f (text_of load q)

-- The answer to a line, and the buffer after it.
unfoldable pub asked_of : List ℕ → List ℕ → List ℕ → Result ℕ AskError
asked_of load line out = asked_or (Err NoSuch) (λ text. written text out) load (question_of line)

-- The answer in numbers.
unfoldable pub answer_values : List ℕ → List ℕ → List ℕ → AskedValues
answer_values load line out =
    asked_or (record { number = no_such_number; bytes = 0 }) (λ text. lent_values text out) load (question_of line)

unfoldable pub asked_out : List ℕ → List ℕ → List ℕ → List ℕ
asked_out load line out = asked_or out (λ text. lent_out text out) load (question_of line)
