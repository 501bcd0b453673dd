-- Loops over the fields of a kind, as the code goes through them: what is left from place i on gives the same as the whole.
use Prim.Native.Nat.{ℕ, zero, suc, ◌+◌, ◌≤◌, ◌<◌}
use mathlib.Core.List.{List, [], ◌∷◌, map}
use mathlib.Core.Path.{◌≡◌, refl}
use native.Mathlib.Omega.{arith}
use native.Mathlib.Numerals.{add-one}
use lib.ListN.{length, drop, get_or, length-map, drop_of_length-le}
use Rattle.format.specs.declared.fields.Field.{Field}
use Rattle.format.specs.Format.{field_number, fields_of}

-- The fields from place i on.
abbrev pub left : ℕ → ℕ → ℕ → List ℕ
left e k i = drop i (fields_of e k)

-- fs are the fields of the kind.
module _ (e k : ℕ) (fs : List Field) (s : map field_number fs ≡ fields_of e k) (i : ℕ) where
  pub left-next : (d : Field) → i < length fs → left e k i ≡ field_number (get_or fs i d) ∷ left e k (i + 1)
  left-next d h = rw (← s, add-one) (go fs i h)
    where
      go : (fs : List Field) (i : ℕ) → i < length fs → drop i (map field_number fs) ≡ field_number (get_or fs i d) ∷ drop (suc i) (map field_number fs)
      go [] i h = absurd (omega arith)
      go (f ∷ fs) zero h = refl
      go (f ∷ fs) (suc i) h = go fs i (omega arith)

  pub left-none : length fs ≤ i → left e k i ≡ []
  left-none h = rw (← s) (drop_of_length-le (map field_number fs) {i = i} (omega (arith, length-map fs field_number)))
