-- Every call keeps tables valid. Rests on the bound of a new claim's row of frames/proofs/Rows.
use Rattle.std.proofs.Common.{◌≤◌, ℕ, not, List, [], ◌∷◌, length, arith, length-append}
use lib.ListN.{length-map}
use Rattle.numbers.specs.Numbers.{most_pending}
use Rattle.rules.proofs.Lists.{Each, none, keep-length, map_each, snoc-each}
use Rattle.frames.specs.declared.Claim.{Claim}
use Rattle.frames.specs.Rows.{named, nearer}
use Rattle.frames.specs.Calls.{Model, Call, Step, fresh, admit, lacking, remove, step, blank, new}
use Rattle.frames.proofs.Rows.{row-bound, contention-few, turned-cases}
use Rattle.frames.proofs.Calls.{Releasable, step-cases, new-cases, lacking-e, blank-invariant, admit-invariant, remove-invariant}
use Rattle.frame_table.specs.Valid.{Ranged, Valid, HasRoom}

-- Nothing is pending.
blank-valid : (g : ℕ) → Valid (blank g)
blank-valid g = record {
  ranged = record { few = omega arith; numbered = omega arith; near = λ c i. none i };
  settled = blank-invariant g;
}

-- A new claim's row is at most 1 + the count of those pending.
admit-ranged : (m : Model) (g : ℕ) → Ranged m → HasRoom m → Ranged (admit m g).model
unfolding admit
admit-ranged m g r h = record {
  few = omega (arith, h.room, length-append m.pending (fresh m g ∷ []));
  numbered = omega (arith, h.spare);
  near = snoc-each (λ (c : Claim). c.row ≤ most_pending) m.pending (fresh m g) r.near (omega (arith, h.room, row-bound g m.pending, contention-few g m.pending));
}

pub admit-valid : (m : Model) (g : ℕ) → Valid m → HasRoom m → Valid (admit m g).model
admit-valid m g v h = record { ranged = admit-ranged m g v.ranged h; settled = admit-invariant m g v.settled }

-- Fewer claims, none farther from the head.
remove-ranged : (m : Model) (k : ℕ) → Ranged m → Ranged (remove m k).model
unfolding remove lacking
remove-ranged m k r =
    let rest : List Claim = lacking k m.pending in
    let some : length rest ≤ most_pending = omega (arith, keep-length (λ c. not (named k c)) m.pending, r.few) in
    let close : Each (λ c. c.row ≤ most_pending) rest = λ c i. r.near c (lacking-e k m.pending i).0 in
    record {
      few = turned-cases (λ qs ks. length qs ≤ most_pending) rest (λ e. some) (λ e. omega (arith, length-map rest nearer));
      numbered = r.numbered;
      near = turned-cases (λ qs ks. Each (λ c. c.row ≤ most_pending) qs) rest (λ e. close)
          (λ e. map_each (λ (c : Claim). c.row ≤ most_pending) nearer rest (λ c i. omega (arith, close c i)));
    }

pub remove-valid : (m : Model) (k : ℕ) → Valid m → Releasable m k → Valid (remove m k).model
remove-valid m k v r = record { ranged = remove-ranged m k v.ranged; settled = remove-invariant m k r v.settled }

-- ── every call ──
pub step-valid : (m : Model) (c : Call) → Valid m → Valid (step m c).model
step-valid m c v =
    step-cases (λ d s. Valid s.model) m (λ d n z. v) (λ g a. admit-valid m g v (record { room = a.room; spare = a.spare })) (λ k a. remove-valid m k v a) c

pub new-valid : (g : ℕ) → Valid (new g).model
new-valid g = new-cases (λ (s : Step). Valid s.model) g (λ e. blank-valid 0) (λ e. blank-valid g)
