-- A word put into a field of a call, as the code does it.
use Prim.Native.Nat.{ℕ, ◌%◌, ◌^◌}
use mathlib.Core.Path.{◌≡◌, ap, ◌∙◌}
use mathlib.Core.List.{List}
use native.Mathlib.Nat.{mod-eq_of_lt}
use Rattle.std.specs.Prelude.{Ok}
use Rattle.format.specs.declared.Call.{Call}
use Rattle.format.specs.Format.{field_width}
use Rattle.format.specs.Calls.{with_value}
use Rattle.load_text.specs.Parsing.{field_in, with_field}
use Rattle.load_text.proofs.Within.{field_fits}

pub with-said : (f : ℕ) (w : List ℕ) (c : Call) (v : ℕ) (d : Call) → field_in f w ≡ Ok v → d ≡ with_value f (v % 256 ^ field_width f) c
    → Ok d ≡ with_field f (field_in f w) (Ok c)
with-said f w c v d q r = rw q (ap Ok (r ∙ ap (λ (x : ℕ). with_value f x c) (mod-eq_of_lt (field_fits f v w q))))
