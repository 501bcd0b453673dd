-- What a word says: a name among names, or a number.
use Rattle.std.specs.Prelude.{ℕ, ◌+◌, ◌-◌, ◌*◌, Bool, true, false, ◌&&◌, cond, List, [], ◌∷◌, eqb, leb, ltb, length, Option, Some, None, Result, Ok, Err}
use Prim.Native.Char.{code}
use Rattle.words.specs.Answers.{WordValues}
use Rattle.words.specs.Parts.{none}

-- ── names ──
unfoldable pub is_word : List ℕ → List ℕ → Bool
is_word [] [] = true
is_word [] (b ∷ l) = false
is_word (a ∷ k) [] = false
is_word (a ∷ k) (b ∷ l) = eqb a b && is_word k l

-- The place of a word among names, the first of which has place k; 0 where it is none of them.
unfoldable pub place_in : List ℕ → ℕ → List (List ℕ) → ℕ
place_in w k [] = 0
place_in w k (n ∷ ns) = cond (is_word w n) k (place_in w (k + 1) ns)

-- ── numbers ──
-- The value of a digit up to F in either case, 16 for any other byte.
unfoldable pub digit_of : ℕ → ℕ
digit_of b =
    cond (leb (code "0") b && leb b (code "9")) (b - code "0")
    (cond (leb (code "A") b && leb b (code "F")) (b - (code "A" - 10))
    (cond (leb (code "a") b && leb b (code "f")) (b - (code "a" - 10)) 16))

-- v, and the digits after it.
unfoldable pub value_in : ℕ → ℕ → List ℕ → ℕ
value_in base v [] = v
value_in base v (b ∷ l) = value_in base (v * base + digit_of b) l

-- v with a digit after it, if that is at most `most`.
abbrev pub and_digit : ℕ → ℕ → ℕ → ℕ → Option ℕ
and_digit base most v b = cond (leb (v * base + digit_of b) most) (Some (v * base + digit_of b)) None

abbrev pub is_no_digit : ℕ → ℕ → Bool
is_no_digit base b = leb base (digit_of b)

-- Only digits of the base; and at least one.
abbrev pub digits_in : ℕ → List ℕ → Bool
digits_in base w = none (is_no_digit base) w

abbrev pub is_number : ℕ → List ℕ → Bool
is_number base w = ltb 0 (length w) && digits_in base w

-- Whatever tells that a word says no number, such as a reason or its number.
module _ {E : Type 0} where
  -- A number, `large` where it is over `most`.
  abbrev pub up_to_most : ℕ → E → ℕ → Result ℕ E
  up_to_most most large v = cond (leb v most) (Ok v) (Err large)

  -- The number that a word says: `none` where it says none, `large` where it is over `most`.
  unfoldable pub number_in : ℕ → ℕ → E → E → List ℕ → Result ℕ E
  number_in base most none large w = cond (is_number base w) (up_to_most most large (value_in base 0 w)) (Err none)

-- ── in numbers ──
-- By the bytes and the numbers of reasons alone: the number that a word says, `none` where it says none, `large` where it is over `most`.
unfoldable pub number_values : ℕ → ℕ → ℕ → ℕ → List ℕ → WordValues
number_values base most none large w =
    let v = value_in base 0 w in
    record { number = cond (is_number base w) (cond (leb v most) 0 large) none; value = cond (is_number base w && leb v most) v 0 }
