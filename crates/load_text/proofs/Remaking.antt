-- A load printed as text makes that load again: ShownMakes of specs/ReadBack. The lines say the load's calls, and the writer takes each.
use Prim.Native.Nat.{ℕ, ◌+◌, ◌≤◌}
use mathlib.Core.Bool.{Bool, true, false, cond}
use mathlib.Core.List.{List, [], ◌∷◌, ◌++◌, map, append_assoc, append-nil}
use mathlib.Core.Path.{◌≡◌, sym, ap, subst, ◌∙◌}
use native.Mathlib.Omega.{arith}
use lib.Dec.{eqb}
use lib.ListN.{length}
use Rattle.format.specs.declared.Call.{Call}
use Rattle.format.specs.Records.{Record, record_of, records_of, calls_of}
use Rattle.format.specs.Format.{known}
use Rattle.load.specs.Bytes.{records_bytes, load_bytes, call_bytes}
use Rattle.load.specs.Reading.{edition_of, walk}
use Rattle.load.specs.Writing.{grow_number}
use Rattle.load.proofs.Bytes.{load-append, load-longer, load-edition}
use Rattle.load.proofs.Reading.{load-known, opens, walk_of-calls}
use Rattle.load.proofs.Writing.{append-parts}
use Rattle.load.proofs.Loads.{Loadable, loadable-at, read-loadable}
use Rattle.load.proofs.RoundTrip.{next-taken, read-written}
use Rattle.load_text.specs.Answers.{Line, nothing, a_call}
use Rattle.load_text.specs.Lines.{text_of}
use Rattle.load_text.specs.Making.{whole, heading, heading_number, line_number, line_bytes, gathered, made_by}
use Rattle.load_text.specs.ReadBack.{ShownMakes}
use Rattle.load_text.proofs.Making.{said-bytes}
use Rattle.load_text.proofs.ReadBack.{text-read-back}

-- A call that the writer takes, and one line more.
taken : (e k : ℕ) (s : List ℕ) (c : Call) (cs : List Call) → grow_number e (length s) (record_of c) 65536 ≡ 0
    → gathered e k s (map a_call (c ∷ cs)) ≡ gathered e (k + 1) (s ++ call_bytes e c) (map a_call cs)
unfolding gathered line_number
taken e k s c cs z = rw (z, said-bytes e c)

-- Lines that say calls, after a load of other calls, make the load of all.
gathered-all : (e : ℕ) → known e ≡ true → (k : ℕ) (cs : List Call) (ds : List Record) → Loadable e true (ds ++ records_of cs) → length (load_bytes e (ds ++ records_of cs)) ≤ 65536
    → gathered e k (load_bytes e ds) (map a_call cs) ≡ whole (load_bytes e (ds ++ records_of cs))
unfolding gathered
gathered-all e i k [] ds l b = rw append-nil
gathered-all e i k (c ∷ cs) ds l b =
    let r = record_of c in
    let a = append_assoc ds (r ∷ []) (records_of cs) in
    let v = loadable-at e true ds r (records_of cs) l in
    let n = load-longer e (ds ++ (r ∷ [])) (records_of cs) in
    let h : length (load_bytes e (ds ++ (r ∷ []))) ≤ 65536 = omega (arith, ap (λ (y : List Record). length (load_bytes e y)) a, n, b) in
    let t = next-taken e ds r 65536 i v.0 v.1 h h in
    let z : grow_number e (length (load_bytes e ds)) r 65536 ≡ 0 = rw (load-edition e ds) at (append-parts (load_bytes e ds) r 65536 t.0).1 in
    taken e k (load_bytes e ds) c cs z ∙ ap (λ (y : List ℕ). gathered e (k + 1) y (map a_call cs)) (sym (load-append e ds r))
    ∙ (rw a at (gathered-all e i (k + 1) cs (ds ++ (r ∷ [])) (rw a l) (rw a b)))

-- A line that says nothing may stand before them.
skipped : (b : Bool) (e : ℕ) (s u : List ℕ) (ps : List Line) → ((k : ℕ) → gathered e k s ps ≡ whole u) → (k : ℕ) → gathered e k s (cond b (nothing ∷ []) [] ++ ps) ≡ whole u
unfolding gathered line_number line_bytes records_bytes
skipped true e s u ps f k = rw append-nil (f (k + 1))
skipped false e s u ps f k = f k

pub shown-makes : ShownMakes
unfolding made_by heading_number load_bytes records_bytes
shown-makes s b z =
    let e = edition_of s in
    let cs = calls_of (walk s 1).records in
    let w = walk_of-calls s 1 in
    let k = load-known s z in
    let t = text-read-back s b z in
    let h = heading (text_of s) in
    let r : s ≡ load_bytes e (records_of cs) = (read-written s b z).0 ∙ ap (load_bytes e) w in
    let all : (n : ℕ) → gathered e n (e ∷ []) (map a_call cs) ≡ whole s =
    (λ n. gathered-all e k.1 n cs [] (subst (Loadable e true) w (read-loadable s b)) (omega (arith, ap length r, k.2)) ∙ ap whole (sym r)) in
    rw (t.0, t.1, t.2, opens e [] k.1 (omega arith)) (skipped (eqb e 1) e (e ∷ []) s (map a_call cs) all h.lines)
