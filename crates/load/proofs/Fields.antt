-- The fields of a kind in bytes, as the code goes through them: what is left from place i on gives the same as the whole.
use Prim.Native.Nat.{ℕ, ◌+◌, ◌*◌, ◌%◌, ◌^◌, ◌≤◌, ◌<◌, min}
use mathlib.Core.List.{List, ◌∷◌, map}
use mathlib.Core.Path.{◌≡◌, ◌∙◌}
use native.Mathlib.Omega.{arith}
use native.Mathlib.Nat.{mod-eq_of_lt}
use lib.ListN.{take, drop}
use lib.Seq.{drop-drop}
use Rattle.numerals.specs.Digits.{bytes_at}
use Rattle.format.specs.declared.Call.{Call}
use Rattle.format.specs.Format.{field_width, widths}
use Rattle.format.specs.Calls.{with_value, bare, filled, call_of, values_in}
use Rattle.format.proofs.Format.{width-most}
use Rattle.format.proofs.Rows.{left}
use Rattle.load.specs.Bytes.{big_value, field_bytes, field_values}

abbrev pub read_left : ℕ → ℕ → ℕ → List ℕ → Call → Call
read_left e k i bs c = filled (left e k i) (field_values (map field_width (left e k i)) bs) c

abbrev pub bytes_left : ℕ → ℕ → ℕ → Call → List ℕ
bytes_left e k i c = field_bytes (map field_width (left e k i)) (values_in (left e k i) c)

-- Reading, at place i and byte at: what is read so far, with the fields left, gives the call.
pub record Reading (e k : ℕ) (bs : List ℕ) (at i : ℕ) (c : Call) : Type 0 where
  pub bytes : at ≤ 8 * i
  pub call : read_left e k i (drop at bs) c ≡ call_of e k (field_values (widths e k) bs)

pub reading-start : (e k : ℕ) (bs : List ℕ) (c : Call) → c ≡ bare k → Reading e k bs 0 0 c
unfolding call_of widths
reading-start e k bs c b = record { bytes = omega arith; call = rw b }

-- f is the field at place i.
module _ (e k i f : ℕ) (s : left e k i ≡ f ∷ left e k (i + 1)) where
  pub reading-next : (bs : List ℕ) (at w v : ℕ) (c d : Call) → w ≡ field_width f → (v ≡ big_value (bytes_at bs at w)) × (v < 256 ^ w)
      → d ≡ with_value f (v % 256 ^ field_width f) c → Reading e k bs at i c → Reading e k bs (at + w) (i + 1) d
  unfolding filled field_values
  reading-next bs at w v c d u p q r =
      let m : min w 8 ≡ w = omega (arith, u, width-most f) in
      let x : v ≡ big_value (take (field_width f) (drop at bs)) = p.0 ∙ rw (m, u) in
      let l : v < 256 ^ field_width f = rw u at p.1 in
      record {
        bytes = omega (arith, r.bytes, u, width-most f);
        call = rw (q, mod-eq_of_lt l, x, u, ← (drop-drop (field_width f) at bs)) (rw s at r.call);
      }
