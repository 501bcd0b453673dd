-- The values of a call that a line says are within their types, and a line that says none has a reason from 101 on.
use Prim.Native.Nat.{ℕ, ◌-◌, ◌^◌, ◌≤◌, ◌<◌}
use mathlib.Core.List.{List, [], ◌∷◌}
use mathlib.Core.Path.{◌≡◌, refl, ap, subst}
use native.Mathlib.Omega.{arith}
use lib.Dec.{leb, eqb}
use lib.ListN.{length, get_or-eq_default}
use native.Mathlib.Nat.{one-le-pow}
use borrow.Author.Tests.{leb-true, eqb-true}
use Rattle.std.specs.Prelude.{Option, Some, None, Result, Ok, Err}
use Rattle.format.specs.declared.Call.{Call}
use Rattle.format.specs.Format.{the_groups, field_widths, field_count, field_width, fields_of}
use Rattle.format.specs.Calls.{made, with_value, bare, Typed}
use Rattle.format.proofs.Format.{all_below, below-passes}
use Rattle.format.proofs.Calls.{with_none, typed-with, typed-bare}
use Rattle.words.specs.declared.reasons.Reason.{Reason}
use Rattle.words.specs.declared.reasons.Reason.TheVariants.{Unknown}
use Rattle.words.specs.Parts.{words_in, said}
use Rattle.words.specs.Reasons.{reason_number}
use Rattle.words.proofs.Cases.{either, below}
use Rattle.words.proofs.Numbers.{number-under}
use Rattle.words.proofs.Within.{UnderReason, groups-in}
use Rattle.load_text.specs.Answers.{Line}
use Rattle.load_text.specs.Parsing.{no_reasons, no_reason, field_in, with_field, filled_in, kind_named, calling, kind_says, call_said, line_says, ReasonsApart}
use Rattle.load_text.proofs.Tables.{kind-below}

-- ── fields ──
no-reason-apart : (f : ℕ) → 101 ≤ reason_number (no_reason f)
unfolding no_reason no_reasons all_below
no-reason-apart f =
    below f (length no_reasons) (λ h. leb-true 101 (reason_number (no_reason f)) (below-passes (length no_reasons) (λ i. leb 101 (reason_number (no_reason i))) refl f h))
    (λ h. omega (arith, ap reason_number (get_or-eq_default no_reasons Unknown h)))

pub field-under : (f : ℕ) (w : List ℕ) → UnderReason (256 ^ field_width f - 1) (field_in f w)
unfolding field_in field_width field_widths
field-under f w =
    either (eqb f the_groups) (λ e. rw (eqb-true f the_groups e) (groups-in w))
    (λ e. rw e (number-under reason_number 101 10 _ _ _ w (no-reason-apart f) (omega arith)))

-- What is read goes into the field.
pub field_fits : (f v : ℕ) (w : List ℕ) → field_in f w ≡ Ok v → v < 256 ^ field_width f
field_fits f v w e =
    let u : v ≤ 256 ^ field_width f - 1 = rw e at (field-under f w) in
    omega (arith, one-le-pow (field_width f) 256 (omega arith))

-- ── calls ──
abbrev Within : Result Call Reason → Type 0
Within (Ok c) = Typed c
Within (Err r) = 101 ≤ reason_number r

abbrev LineWithin : Line → Type 0
LineWithin (Ok None) = Unit {0}
LineWithin (Ok (Some c)) = Typed c
LineWithin (Err r) = 101 ≤ reason_number r

typed-put : (f v : ℕ) (c : Call) → v < 256 ^ field_width f → Typed c → Typed (with_value f v c)
typed-put f v c h t = below f field_count (λ q. typed-with f v c q h t) (λ q. subst Typed (with_none f v c q) t)

with-within : (f : ℕ) (x : Result ℕ Reason) (p : Result Call Reason) → UnderReason (256 ^ field_width f - 1) x → Within p → Within (with_field f x p)
with-within f (Ok v) (Ok c) u h = typed-put f v c (omega (arith, one-le-pow (field_width f) 256 (omega arith))) h
with-within f (Err r) (Ok c) u h = u
with-within f x (Err r) u h = h

fill-within : (fs : List ℕ) (ws : List (List ℕ)) (p : Result Call Reason) → Within p → Within (filled_in fs ws p)
unfolding filled_in
fill-within [] [] p h = h
fill-within [] (w ∷ ws) p h = omega arith
fill-within (f ∷ fs) [] p h = omega arith
fill-within (f ∷ fs) (w ∷ ws) p h = fill-within fs ws (with_field f (field_in f w) p) (with-within f (field_in f w) p (field-under f w) h)

calling-within : (p : Result Call Reason) → Within p → LineWithin (calling p)
calling-within (Ok c) h = h
calling-within (Err r) h = h

call-within : (e : ℕ) (ws : List (List ℕ)) → LineWithin (call_said e ws)
unfolding call_said bare made
call-within e [] = tt
call-within e (k ∷ ws) = go (kind_named e k) refl
  where
    go : (n : Option ℕ) → kind_named e k ≡ n → LineWithin (kind_says e n ws)
    go None q = omega arith
    go (Some n) q = calling-within (filled_in (fields_of e n) ws (Ok (bare n))) (fill-within (fields_of e n) ws (Ok (bare n)) (typed-bare n (kind-below e k n q)))

pub says_typed : (e : ℕ) (l : List ℕ) (c : Call) → line_says e l ≡ Ok (Some c) → Typed c
unfolding line_says
says_typed e l c i = rw i at (call-within e (words_in (said l)))

pub reasons-apart : ReasonsApart
unfolding line_says
reasons-apart e l r i = rw i at (call-within e (words_in (said l)))
