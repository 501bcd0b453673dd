-- What a reader answers, by its two parts: the opening's refusal, and the item of a load that opens.
use Prim.Native.Nat.{ℕ, zero, suc, ◌+◌, ◌-◌, ◌≤◌, ◌<◌}
use mathlib.Core.List.{List, []}
use mathlib.Core.Path.{◌≡◌, refl, sym, ap, ◌∙◌}
use native.Mathlib.Omega.{arith}
use lib.ListN.{length, take, drop}
use Rattle.format.specs.declared.Call.{Call}
use Rattle.std.specs.Prelude.{Err}
use Rattle.numbers.specs.declared.Refusal.{Refusal}
use Rattle.numbers.specs.Refusals.{number_of}
use Rattle.load.specs.Answers.{refusal_of, Answer, one_record, the_end, ItemValues, item_values}
use Rattle.load.proofs.Answers.{refusal-is, number-some}
use Rattle.load.specs.Reading.{item_at, record_values, open_number, unless_refused}
use Rattle.load.proofs.Reading.{item-valued, step-next, open-again}
use Rattle.reader.specs.Items.{refused, item_of, not_opened, read_values, position_after}
use Rattle.reader.specs.Shown.{record_part, start_of, record_start, further}

-- Its values: those of the opening's refusal, or of what stands there.
pub item-values : (s : List ℕ) (at : ℕ) → item_values at (item_of s at) ≡ read_values s at
unfolding item_of read_values
item-values s at = go (open_number s) (open-again s)
  where
    go : (k : ℕ) → (0 < k → number_of (refusal_of k) ≡ k) → item_values at (unless_refused k refused (item_at s at)) ≡ unless_refused k (not_opened at) (record_values s at)
    go zero h = item-valued s at
    go (suc k) h = ap (not_opened at) (h (omega arith))

-- An item that is the reader's, with its values: what `item_at` and `next` promise.
pub with_values : (s : List ℕ) (at : ℕ) (i : Answer) → i ≡ item_of s at → (i ≡ item_of s at) × (item_values at i ≡ read_values s at)
with_values s at i e = (e, ap (item_values at) e ∙ item-values s at)

module _ (s : List ℕ) (at : ℕ) where
  pub item_refused : (r : Refusal) → number_of r ≡ open_number s → Err r ≡ item_of s at
  unfolding item_of
  item_refused r p = go (open_number s) p
    where
      go : (k : ℕ) → number_of r ≡ k → Err r ≡ unless_refused k refused (item_at s at)
      go zero e = absurd (omega (arith, number-some r))
      go (suc k) e = ap Err (refusal-is r (suc k) e)

  pub item-opened : 0 ≡ open_number s → item_at s at ≡ item_of s at
  unfolding item_of
  item-opened o = rw (sym o)

-- Where it answers a record, the load opens, and the record stands there.
pub record-opened : (s : List ℕ) (at : ℕ) (c : Call) (next : ℕ) → item_of s at ≡ one_record c next → (open_number s ≡ 0) × (item_at s at ≡ one_record c next)
unfolding item_of
record-opened s at c next h = go (open_number s) refl h
  where
    go : (k : ℕ) → open_number s ≡ k → unless_refused k refused (item_at s at) ≡ one_record c next → (open_number s ≡ 0) × (item_at s at ≡ one_record c next)
    go zero e h = (e, h)
    go (suc k) e h = let z : ◌≡◌ {A = ℕ} 0 1 = cc in absurd (omega arith)

pub record-inside : (s : List ℕ) (at : ℕ) (c : Call) (next : ℕ) → item_of s at ≡ one_record c next → (at < next) × (next ≤ length s)
record-inside s at c next h = step-next s at c next (record-opened s at c next h).1

-- ── the next position, and the part shown ──
module _ (s : List ℕ) (at : ℕ) where
  pub next-position : (i : Answer) → item_of s at ≡ i → (item_values at i).next ≡ position_after s at
  unfolding position_after
  next-position i e = ap (λ (v : ItemValues). v.next) (ap (item_values at) (sym e) ∙ item-values s at)

  shown-start : (i : Answer) → item_of s at ≡ i → start_of at i ≡ record_start s at
  unfolding record_start
  shown-start i e = sym (ap (start_of at) e)

  shown-part : (i : Answer) → item_of s at ≡ i → take ((item_values at i).next - at) (drop at s) ≡ record_part s at
  unfolding record_part
  shown-part i e = ap (λ (n : ℕ). take (n - at) (drop at s)) (next-position i e)

  module _ (p : ℕ × ℕ) where
    shown-at : (i : Answer) → item_of s at ≡ i → (n : ℕ) → n ≡ p.1 + start_of at i → ◌≡◌ {A = ℕ × ℕ} (p.0, n) (further p (record_start s at))
    shown-at i e n q = ap (λ (m : ℕ). (p.0, m)) (q ∙ ap (λ (m : ℕ). p.1 + m) (shown-start i e))

    pub record-shown : (c : Call) (next : ℕ) → item_of s at ≡ one_record c next
        → (take (next - at) (drop at s) ≡ record_part s at) × (◌≡◌ {A = ℕ × ℕ} (p.0, at + p.1) (further p (record_start s at)))
    record-shown c next e = (shown-part (one_record c next) e, shown-at (one_record c next) e (at + p.1) (omega arith))

    nothing-shown : (i : Answer) → item_of s at ≡ i → (item_values at i).next ≡ at → start_of at i ≡ 0
        → ([] ≡ record_part s at) × (p ≡ further p (record_start s at))
    nothing-shown i e q o =
        let z : (item_values at i).next - at ≡ 0 = omega (arith, q) in
        (rw z at (shown-part i e), shown-at i e p.1 (omega (arith, o)))

    pub end-shown : item_of s at ≡ the_end → ([] ≡ record_part s at) × (p ≡ further p (record_start s at))
    end-shown e = nothing-shown the_end e refl refl

    pub refused-shown : (r : Refusal) → item_of s at ≡ Err r → ([] ≡ record_part s at) × (p ≡ further p (record_start s at))
    refused-shown r e = nothing-shown (Err r) e refl refl
