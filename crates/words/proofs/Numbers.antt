-- Laws of digits and of the numbers that they say, as the code reads them.
use Prim.Native.Nat.{ℕ, suc, ◌+◌, ◌-◌, ◌*◌, ◌≤◌, ◌<◌}
use mathlib.Core.Path.{◌≡◌, sym, ap, ◌∙◌}
use mathlib.Core.Bool.{Bool, true, false, not, ◌&&◌, cond}
use mathlib.Core.List.{List, [], ◌∷◌}
use native.Mathlib.Nat.{mul-le-mul_left}
use native.Mathlib.Numerals.{add-one}
use native.Mathlib.Omega.{arith}
use lib.Dec.{leb}
use lib.ListN.{length, get_or, drop, drop_of_length-le}
use lib.Seq.{drop-cons}
use borrow.Author.Tests.{le-leb, lt-leb, lt-ltb, leb-true, leb-false}
use Rattle.std.proofs.Math.Bool.{and-false}
use Rattle.std.specs.List.{list_any}
use Rattle.std.specs.Option.{ok_or}
use Rattle.std.specs.Prelude.{Result, Ok, Err}
use Rattle.words.specs.declared.reasons.Reason.{Reason}
use Rattle.words.specs.declared.reasons.Reason.TheVariants.{Unknown, Missing, TooMany, NoClock, NoTicket, NoLength, NoGroups, TooLarge, Over63, Backward, NoPool, NoUnits, NoClient, NoReserved, NoLimit, NoGrace, Refused}
use Rattle.numbers.specs.declared.Refusal.{Refusal}
use Rattle.numbers.specs.declared.Refusal.TheVariants as refusal
use Rattle.numbers.specs.Refusals.{number_of}
use Rattle.words.specs.Reasons.{reason_number}
use Rattle.words.specs.Words.{digit_of, is_no_digit, digits_in, is_number, value_in, and_digit, up_to_most, number_in}
use Rattle.words.proofs.Cases.{either, below}
use Rattle.words.proofs.Parts.{none-cons, none_any}

-- ── a digit ──
module _ (low high b x y : ℕ) where
  in-range : low ≤ b → b ≤ high → cond (leb low b && leb b high) x y ≡ x
  in-range h k = rw (le-leb low b h, le-leb b high k)

  off-range : (low ≤ b → high < b) → cond (leb low b && leb b high) x y ≡ y
  off-range h = below b low (λ k. rw (lt-leb low b k)) (λ k. rw (le-leb low b k, lt-leb b high (h k)))

module _ (b : ℕ) where
  pub digit-ten : 48 ≤ b → b ≤ 57 → b - 48 ≡ digit_of b
  unfolding digit_of
  digit-ten h k = sym (in-range 48 57 b _ _ h k)

  pub digit-upper : 65 ≤ b → b ≤ 70 → b - 55 ≡ digit_of b
  unfolding digit_of
  digit-upper h k = sym (off-range 48 57 b _ _ (λ x. omega arith) ∙ in-range 65 70 b _ _ h k)

  pub digit-lower : 97 ≤ b → b ≤ 102 → b - 87 ≡ digit_of b
  unfolding digit_of
  digit-lower h k = sym (off-range 48 57 b _ _ (λ x. omega arith) ∙ off-range 65 70 b _ _ (λ x. omega arith) ∙ in-range 97 102 b _ _ h k)

  pub no_digit : (48 ≤ b → 57 < b) → (65 ≤ b → 70 < b) → (97 ≤ b → 102 < b) → 16 ≡ digit_of b
  unfolding digit_of
  no_digit h k l = sym (off-range 48 57 b _ _ h ∙ off-range 65 70 b _ _ k ∙ off-range 97 102 b _ _ l)

-- ── a word of digits ──
-- As the library tests it: r is whether any byte is no digit.
module _ (base : ℕ) (w : List ℕ) (r : Bool) (e : r ≡ list_any (is_no_digit base) w) where
  pub all_digits : r ≡ false → digits_in base w ≡ true
  all_digits f = none_any (is_no_digit base) w ∙ ap not (sym e ∙ f)

  not-digits : r ≡ true → digits_in base w ≡ false
  not-digits f = none_any (is_no_digit base) w ∙ ap not (sym e ∙ f)

value_grows : (base v : ℕ) (l : List ℕ) → 0 < base → v ≤ value_in base v l
unfolding value_in
value_grows base v [] h = omega arith
value_grows base v (b ∷ l) h = omega (arith, mul-le-mul_left {m = 1} {n = base} v h, value_grows base (v * base + digit_of b) l h)

-- ── a number, digit by digit ──
-- A number that is read up to place i, with the digits left.
pub record Summing (base most : ℕ) (w : List ℕ) (v i : ℕ) : Type 0 where
  pub room : v ≤ most
  pub digits : digits_in base (drop i w) ≡ true
  pub is : value_in base v (drop i w) ≡ value_in base 0 w

module _ (base most : ℕ) (w : List ℕ) (v i : ℕ) (s : Summing base most w v i) where
  pub sum-end : {E : Type 0} (large : E) → length w ≤ i → Ok v ≡ up_to_most most large (value_in base 0 w)
  unfolding value_in
  sum-end large h = rw (← s.is, drop_of_length-le w h, le-leb v most s.room)

  module _ (h : i < length w) where
    -- The first of the digits left is one, and the others are.
    held : (digit_of (get_or w i 0) < base) × (digits_in base (drop (i + 1) w) ≡ true)
    held =
        let q = none-cons (is_no_digit base) (get_or w i 0) (drop (suc i) w) (rw (drop-cons w i 0 h) at s.digits) in
        (omega (arith, leb-false base (digit_of (get_or w i 0)) q.0), rw add-one q.1)

    sum-next : value_in base (v * base + digit_of (get_or w i 0)) (drop (i + 1) w) ≡ value_in base 0 w
    unfolding value_in
    sum-next = rw add-one (rw (drop-cons w i 0 h) at s.is)

    -- The next digit, as the code adds it: the number is too large, or it is not.
    pub sum_over : {E : Type 0} (large r : E) → ok_or (and_digit base most v (get_or w i 0)) large ≡ Err r → Err r ≡ up_to_most most large (value_in base 0 w)
    sum_over {E} large r e =
        let n = v * base + digit_of (get_or w i 0) in
        below most n
        (λ k.
        let q : ◌≡◌ {A = Result ℕ E} (Err large) (Err r) = rw (lt-leb n most k) at e in
        let z : large ≡ r = cc in
        rw (← z, lt-leb (value_in base 0 w) most (omega (arith, k, sum-next, value_grows base n (drop (i + 1) w) (omega (arith, held.0))))))
        (λ k. let q : ◌≡◌ {A = Result ℕ E} (Ok n) (Err r) = rw (le-leb n most k) at e in absurd (cc))

    pub sum-on : {E : Type 0} (large : E) (x : ℕ) → ok_or (and_digit base most v (get_or w i 0)) large ≡ Ok x → Summing base most w x (i + 1)
    sum-on {E} large x e =
        let n = v * base + digit_of (get_or w i 0) in
        below most n
        (λ k. let q : ◌≡◌ {A = Result ℕ E} (Err large) (Ok x) = rw (lt-leb n most k) at e in absurd (cc))
        (λ k.
        let q : ◌≡◌ {A = Result ℕ E} (Ok n) (Ok x) = rw (le-leb n most k) at e in
        let z : n ≡ x = cc in
        record { room = omega arith; digits = held.1; is = rw (← z) sum-next })

-- ── a word ──
-- It says a number, if it has a byte and each is a digit.
module _ {E : Type 0} (base most : ℕ) (none large : E) (w : List ℕ) where
  pub number-empty : length w ≡ 0 → Err none ≡ number_in base most none large w
  unfolding number_in
  number-empty h = rw h

  pub number_bad : {r : Bool} → r ≡ list_any (is_no_digit base) w → r ≡ true → Err none ≡ number_in base most none large w
  unfolding number_in
  number_bad {r} e f = rw (not-digits base w r e f, and-false)

  pub number-good : 0 < length w → digits_in base w ≡ true → up_to_most most large (value_in base 0 w) ≡ number_in base most none large w
  unfolding number_in
  number-good h d = rw (lt-ltb 0 (length w) h, d)

-- The value of a number that a word says is at most the most allowed, and a reason one of two.
module _ {E : Type 0} (told : E → ℕ) where
  abbrev pub Under : ℕ → ℕ → Result ℕ E → Type 0
  Under least most (Ok v) = v ≤ most
  Under least most (Err r) = least ≤ told r

  pub number-under : (least base most : ℕ) (none large : E) (w : List ℕ) → least ≤ told none → least ≤ told large → Under least most (number_in base most none large w)
  unfolding number_in
  number-under least base most none large w n l =
      let v = value_in base 0 w in
      either (is_number base w) (λ e. rw e (either (leb v most) (λ q. rw q (leb-true v most q)) (λ q. rw q l))) (λ e. rw e n)

module _ {E : Type 0} (base most : ℕ) (none large : E) (w : List ℕ) where
  pub number-most : (v : ℕ) → number_in base most none large w ≡ Ok v → v ≤ most
  number-most v e = rw e at (number-under (λ r. 0) 0 base most none large w (omega arith) (omega arith))

-- ── reasons ──
refusal-some : (r : Refusal) → 0 < number_of r
refusal-some refusal.Dark = omega arith
refusal-some refusal.OffRig = omega arith
refusal-some refusal.BadLength = omega arith
refusal-some refusal.Backward = omega arith
refusal-some refusal.Late = omega arith
refusal-some refusal.Full = omega arith
refusal-some refusal.Ticketless = omega arith
refusal-some refusal.Unknown = omega arith
refusal-some refusal.NotYetOn = omega arith
refusal-some refusal.AlreadyOn = omega arith
refusal-some refusal.Edition = omega arith
refusal-some refusal.Short = omega arith
refusal-some refusal.Misfit = omega arith
refusal-some refusal.Overlong = omega arith
refusal-some refusal.NoSpace = omega arith
refusal-some refusal.Spots = omega arith
refusal-some refusal.Stranger = omega arith
refusal-some refusal.Over = omega arith
refusal-some refusal.Overbooked = omega arith
refusal-some refusal.Count = omega arith
refusal-some refusal.Grace = omega arith

-- The number of a reason is not 0.
pub reason-some : (r : Reason) → 0 < reason_number r
reason-some Unknown = omega arith
reason-some Missing = omega arith
reason-some TooMany = omega arith
reason-some NoClock = omega arith
reason-some NoTicket = omega arith
reason-some NoLength = omega arith
reason-some NoGroups = omega arith
reason-some TooLarge = omega arith
reason-some Over63 = omega arith
reason-some Backward = omega arith
reason-some NoPool = omega arith
reason-some NoUnits = omega arith
reason-some NoClient = omega arith
reason-some NoReserved = omega arith
reason-some NoLimit = omega arith
reason-some NoGrace = omega arith
reason-some (Refused r) = refusal-some r
