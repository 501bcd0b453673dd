-- The round trip: the claims of specs/RoundTrip. A load that the writer makes is the bytes of `Good` records.
use Prim.Native.Nat.{ℕ, zero, suc, ◌≤◌}
use mathlib.Core.Bool.{true}
use mathlib.Core.List.{List, [], ◌∷◌, ◌++◌, append_assoc, append-nil}
use mathlib.Core.Path.{◌≡◌, refl, sym, ap, ◌∙◌}
use native.Mathlib.Omega.{arith}
use lib.ListN.{length, take, drop}
use lib.Seq.{take_at}
use Rattle.std.specs.Prelude.{Ok}
use Rattle.format.specs.Format.{known}
use Rattle.load.specs.Bytes.{records_bytes, load_bytes}
use Rattle.load.specs.Reading.{edition_of, walk, load_number}
use Rattle.load.specs.Writing.{grown, append_number, answered, append_answer, append_out}
use Rattle.format.specs.Records.{Record, TypedRecord}
use Rattle.load.specs.RoundTrip.{Appended, WrittenReads, ReadWritten, ReadBounded}
use Rattle.load.proofs.Bytes.{load-append, load-longer, load-edition}
use Rattle.load.proofs.Reading.{load-parts, load-known, opens}
use Rattle.load.proofs.Loads.{Sound, Loadable, reads-back, is_read, read-loadable, none?, loadable-more, loadable-at, alone}
use Rattle.load.proofs.Writing.{Grows, grows, append-grows}

-- ── what the writer makes reads as its records ──
-- What holds of the records of every load that the writer makes.
pub record Good (e : ℕ) (cs : List Record) : Type 0 where
  pub edition : known e ≡ true
  pub records : Loadable e true cs
  pub bound : length (load_bytes e cs) ≤ 65536

pub good-reads : (e : ℕ) (cs : List Record) → Good e cs → (load_number (load_bytes e cs) ≡ 0) × (walk (load_bytes e cs) 1 ≡ record { records = cs; stop = 0 })
unfolding load_number
good-reads e cs g = rw (opens e cs g.edition g.bound, reads-back e cs g.records) (refl, refl)

-- A buffer that begins with the grown load gives it back.
appended-is : (s : List ℕ) (r : Record) (out : List ℕ) → append_number s r (length out) ≡ 0 → take (length (grown s r)) (append_out s r out) ≡ grown s r
unfolding append_out
appended-is s r out z = rw z (take_at (grown s r) (drop (length (grown s r)) out) (length (grown s r)) refl)

pub answer-length : (k m n : ℕ) → answered k m ≡ Ok n → (k ≡ 0) × (m ≡ n)
answer-length zero m n h = (refl, cc)
answer-length (suc k) m n h = let z : ◌≡◌ {A = ℕ} 0 1 = cc in absurd (omega arith)

grown-is : (e : ℕ) (cs : List Record) (r : Record) → grown (load_bytes e cs) r ≡ load_bytes e (cs ++ (r ∷ []))
unfolding grown
grown-is e cs r = rw (load-edition e cs) (sym (load-append e cs r))

good-grown : (e : ℕ) (cs : List Record) (r : Record) (room : ℕ) → Good e cs → TypedRecord r → Grows (load_bytes e cs) r room → Good e (cs ++ (r ∷ []))
good-grown e cs r room g t k =
    let v : Sound e (none? cs) r = record { place = rw (alone e true cs g.records) at k.place; carried = rw (load-edition e cs) at k.carried; typed = t } in
    record { edition = g.edition; records = loadable-more e true cs r g.records v; bound = rw (grown-is e cs r) at k.bounded }

appended-good : (e : ℕ) (cs : List Record) (s : List ℕ) → Appended e cs s → (s ≡ load_bytes e cs) × Good e cs
unfolding load_bytes records_bytes append_answer
appended-good e cs s (Appended.none k) = (refl, record { edition = k; records = Loadable.none; bound = omega arith })
appended-good e cs s (Appended.one {rs = ds} {s = u} r out n a t h) =
    let q = answer-length (append_number u r (length out)) (length (grown u r)) n h in
    let p = appended-good e ds u a in
    let i : take n (append_out u r out) ≡ grown u r = rw (← q.1) (appended-is u r out q.0) in
    (i ∙ ap (λ x. grown x r) p.0 ∙ grown-is e ds r, good-grown e ds r (length out) p.1 t (rw p.0 at (append-grows u r (length out) q.0)))

pub written-reads : WrittenReads
written-reads e cs s a = let g = appended-good e cs s a in rw g.0 (good-reads e cs g.1)

-- ── a load that reads to its end is what the writer makes ──
-- One record more is one that the writer takes, where there is room for it.
pub next-taken : (e : ℕ) (ds : List Record) (r : Record) (room : ℕ) → known e ≡ true → Loadable e true ds → Sound e (none? ds) r
    → length (load_bytes e (ds ++ (r ∷ []))) ≤ 65536 → length (load_bytes e (ds ++ (r ∷ []))) ≤ room
    → (append_number (load_bytes e ds) r room ≡ 0) × (grown (load_bytes e ds) r ≡ load_bytes e (ds ++ (r ∷ [])))
unfolding append_number
next-taken e ds r room k l v b h =
    let s = load_bytes e ds in
    let g : Good e ds = record { edition = k; records = l; bound = omega (arith, load-longer e ds (r ∷ [])) } in
    let i : grown s r ≡ load_bytes e (ds ++ (r ∷ [])) = grown-is e ds r in
    let w : Grows s r room = record { place = rw (alone e true ds l) v.place; carried = rw (load-edition e ds) v.carried; bounded = rw i b; goes_in = rw i h } in
    (rw (good-reads e ds g).0 (grows s r room w), i)

-- .. as in a buffer of just that length.
append-all : (e : ℕ) (cs ds : List Record) → known e ≡ true → Loadable e true (ds ++ cs) → length (load_bytes e (ds ++ cs)) ≤ 65536
    → Appended e ds (load_bytes e ds) → Appended e (ds ++ cs) (load_bytes e (ds ++ cs))
unfolding append_answer
append-all e [] ds k l b a = rw append-nil a
append-all e (r ∷ cs) ds k l b a =
    let q = append_assoc ds (r ∷ []) cs in
    let h = loadable-at e true ds r cs l in
    let s = load_bytes e ds in
    let out = load_bytes e (ds ++ (r ∷ [])) in
    let m : length out ≤ 65536 = omega (arith, ap (λ x. length (load_bytes e x)) q, load-longer e (ds ++ (r ∷ [])) cs) in
    let n = next-taken e ds r (length out) k h.0 h.1 m (omega arith) in
    let i = rw (appended-is s r out n.0 ∙ n.1) at (Appended.one r out (length (grown s r)) a h.1.typed (rw n.0)) in
    rw q at (append-all e cs (ds ++ (r ∷ [])) k (rw q l) (rw q b) i)

pub read-written : ReadWritten
unfolding load_bytes records_bytes
read-written s b h =
    let o = load-parts s h in
    let e = edition_of s in
    let cs = (walk s 1).records in
    let k = load-known s h in
    let r : s ≡ load_bytes e cs = is_read s b o.0 o.1 in
    let a = append-all e cs [] k.1 (read-loadable s b) (rw r at k.2) (Appended.none k.1) in
    (r, rw (← r) at a)

pub read-bounded : ReadBounded
read-bounded s h = (load-known s h).2
