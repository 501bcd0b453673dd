-- The claims of specs/Turns. Where a load opens, a reader's turns are the walk's.
use Prim.Native.Nat.{ℕ, zero, suc, ◌+◌, ◌<◌}
use mathlib.Core.List.{List, [], ◌∷◌}
use mathlib.Core.Path.{◌≡◌, refl, sym, ap, subst, ◌∙◌}
use native.Mathlib.Omega.{arith}
use lib.ListN.{length}
use Rattle.format.specs.Records.{Record}
use Rattle.std.specs.Prelude.{Some, None, Ok, Err}
use Rattle.numbers.specs.Refusals.{number_of}
use Rattle.load.specs.Answers.{Answer, refusal_of, item_values}
use Rattle.load.specs.Reading.{record_at, item_at, open_number, Walk, ended, follow, walk_in, walk, unless_refused, reading}
use Rattle.load.proofs.Reading.{reading-tested, load-parts, step_past, open-again}
use Rattle.load.proofs.RoundTrip.{written-reads, read-written as read-appended}
use Rattle.reader.specs.Items.{item_of, position_after}
use Rattle.reader.specs.Turns.{Reads, ReadsOnce, WrittenRead, ReadWritten}
use Rattle.reader.proofs.Items.{record-inside, next-position, item_refused, item-opened}

-- ── one reading of every load ──
pub reads-unique : (s : List ℕ) (at : ℕ) (rs qs : List Record) (n m : ℕ) → Reads s at rs n → Reads s at qs m → (rs ≡ qs) × (n ≡ m)
reads-unique s at rs qs n m (Reads.ended e) (Reads.ended f) = (refl, refl)
reads-unique s at rs qs n m (Reads.ended e) (Reads.refused f) = let z : ◌≡◌ {A = ℕ} 0 1 = cc in absurd (omega arith)
reads-unique s at rs qs n m (Reads.ended e) (Reads.gave f b) = let z : ◌≡◌ {A = ℕ} 0 1 = cc in absurd (omega arith)
reads-unique s at rs qs n m (Reads.refused e) (Reads.ended f) = let z : ◌≡◌ {A = ℕ} 0 1 = cc in absurd (omega arith)
reads-unique s at rs qs n m (Reads.refused {r = x} e) (Reads.refused {r = y} f) = let h : x ≡ y = cc in (refl, ap number_of h)
reads-unique s at rs qs n m (Reads.refused e) (Reads.gave f b) = let z : ◌≡◌ {A = ℕ} 0 1 = cc in absurd (omega arith)
reads-unique s at rs qs n m (Reads.gave e a) (Reads.ended f) = let z : ◌≡◌ {A = ℕ} 0 1 = cc in absurd (omega arith)
reads-unique s at rs qs n m (Reads.gave e a) (Reads.refused f) = let z : ◌≡◌ {A = ℕ} 0 1 = cc in absurd (omega arith)
reads-unique s at rs qs n m (Reads.gave {c = c} {rs = rs'} e a) (Reads.gave {c = d} {rs = qs'} f b) =
    let q = reads-unique s (position_after s at) rs' qs' n m a b in
    let l : c ∷ [] ≡ d ∷ [] = ap (λ (i : Answer). (item_values 0 i).calls) (sym e ∙ f) in
    let h : c ≡ d = cc in
    let x = ap (record_at s at) h in
    (rw (x, q.0), q.1)

-- Where the load opens, k items are enough from a position whose rest is shorter.
reads-walk : (k : ℕ) (s : List ℕ) (at : ℕ) → open_number s ≡ 0 → length s < at + k → Reads s at (walk_in k s at).records (walk_in k s at).stop
unfolding walk_in
reads-walk zero s at o h = Reads.ended (sym (item-opened s at (sym o)) ∙ step_past s at (omega arith))
reads-walk (suc k) s at o h = go (λ n. reads-walk k s n o) (item_at s at) (sym (item-opened s at (sym o)))
  where
    go : ((n : ℕ) → length s < n + k → Reads s n (walk_in k s n).records (walk_in k s n).stop)
        → (i : Answer) → item_of s at ≡ i → Reads s at (follow s at (λ n. walk_in k s n) i).records (follow s at (λ n. walk_in k s n) i).stop
    go ih (Ok (Some item)) e =
        let n = item.next in
        let q = record-inside s at item.call n e in
        Reads.gave e (subst (λ (m : ℕ). Reads s m (walk_in k s n).records (walk_in k s n).stop) (next-position s at (Ok (Some item)) e) (ih n (omega (arith, q.0))))
    go ih (Ok None) e = Reads.ended e
    go ih (Err r) e = Reads.refused e

reads : (s : List ℕ) → Reads s 1 (reading s).records (reading s).stop
unfolding reading walk
reads s = go (open_number s) refl
  where
    go : (k : ℕ) → open_number s ≡ k → Reads s 1 (unless_refused k ended (walk s 1)).records (unless_refused k ended (walk s 1)).stop
    go zero e = reads-walk (suc (length s)) s 1 e (omega arith)
    go (suc k) e =
        let h : number_of (refusal_of (suc k)) ≡ suc k = rw e at (open-again s) (omega arith) in
        subst (λ (n : ℕ). Reads s 1 [] n) h (Reads.refused (sym (item_refused s 1 (refusal_of (suc k)) (h ∙ sym e))))

pub reads-once : ReadsOnce
reads-once s = (reads s, λ rs n r. reads-unique s 1 rs (reading s).records n (reading s).stop r (reads s))

-- ── reader and writer ──
-- What a load that opens reads as.
reading-opened : (s : List ℕ) → open_number s ≡ 0 → reading s ≡ walk s 1
unfolding reading
reading-opened s o = rw o

pub written_read : WrittenRead
written_read e rs s a =
    let w = written-reads e rs s a in
    let q : reading s ≡ record { records = rs; stop = 0 } = reading-opened s (load-parts s w.0).0 ∙ w.1 in
    rw q at (reads s)

pub read-written : ReadWritten
read-written rs s b r =
    let q = reads-unique s 1 rs (reading s).records 0 (reading s).stop r (reads s) in
    let z = sym (reading-tested s) ∙ sym q.1 in
    let c : rs ≡ (walk s 1).records = q.0 ∙ ap (λ (w : Walk). w.records) (reading-opened s (load-parts s z).0) in
    rw (← c) at (read-appended s b z).1
