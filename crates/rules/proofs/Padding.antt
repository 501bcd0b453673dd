-- What a push and a removal leave of places that hold a list.
use Rattle.std.proofs.Common.{◌≡◌, ℕ, suc, ◌+◌, ◌-◌, ◌≤◌, ◌<◌, List, ◌∷◌, ◌++◌, length, take, drop, replicate, remove, set, sym, ◌∙◌, ap, subst, arith, add-one}
use Rattle.std.proofs.lemmas.List.{drop-take, length-drop, length-take, length-set, take-take, take-set, drop-set, drop-set-lt, drop-replicate, drop-drop, drop_more}
use Rattle.std.proofs.lemmas.List.Edits.{take-paste, drop-paste, length-paste}
use Rattle.std.proofs.Math.Seq.{paste}
use Rattle.rules.specs.Padding.{IsPadded}

-- ── one place more ──
behind : {A : Type 0} (d : A) (n : ℕ) (xs : List A) → IsPadded d n xs → n < 64 → drop (n + 1) xs ≡ replicate (64 - (n + 1)) d
behind d n xs h l =
    ap (drop 1) (sym (drop_more xs n d (omega (arith, l, h.whole)))) ∙ ap (drop 1) h.rest ∙ drop-replicate 1 (64 - n) d ∙ ap (λ k. replicate k d) (omega arith)

pub pushed : {A : Type 0} (d x : A) (xs ys : List A) (n : ℕ) → IsPadded d n xs → take n xs ≡ ys → length ys < 64 → IsPadded d (n + 1) (set xs n x)
pushed d x xs ys n f e h =
    let w = f.whole in
    let s = f.few in
    let l : n < 64 = omega (arith, simp length-take at (ap length e)) in
    record {
      few = omega (arith, l);
      whole = length-set xs n x ∙ w;
      rest = drop-set-lt (n + 1) xs n x (omega arith) ∙ behind d n xs f l;
    }

-- ── a place taken away: those behind it move up, and the last is vacant ──
moved : {A : Type 0} (xs : List A) (i m : ℕ) → i + 1 + m ≤ length xs → take (i + m) (paste xs i (drop (i + 1) xs) m) ≡ remove (take (i + 1 + m) xs) i
moved xs i m h =
    take-paste xs i (drop (i + 1) xs) m (omega arith) (simp length-drop (omega arith))
    ∙ sym (ap (λ k. take i (take (i + 1 + m) xs) ++ drop k (take (i + 1 + m) xs)) (sym (add-one i)) ∙ ap (λ l. l ++ drop (i + 1) (take (i + 1 + m) xs)) (take-take i (i + 1 + m) xs (omega arith)) ∙ ap (λ l. take i xs ++ l) (drop-take (i + 1) m xs))

pub left : {A : Type 0} (d x : A) (xs new ys : List A) (n i : ℕ) → IsPadded d n xs → take n xs ≡ ys → i < length ys → new ≡ paste xs i (drop (i + 1) xs) (n - (i + 1))
    → take (n - 1) (set new (n - 1) x) ≡ remove ys i
left d x xs new ys n i f e h q =
    let w = f.whole in
    let s = f.few in
    let b : i < n = omega (arith, simp length-take at (ap length e)) in
    let d' : i + 1 + (n - (i + 1)) ≡ n = omega arith in
    let k : i + (n - (i + 1)) ≡ n - 1 = omega arith in
    let p : i + 1 + (n - (i + 1)) ≤ length xs = omega arith in
    let m = moved xs i (n - (i + 1)) p in
    take-set new (n - 1) x
    ∙ rw (q, sym e) (subst (λ x. take x (paste xs i (drop (i + 1) xs) (n - (i + 1))) ≡ remove (take n xs) i) k (subst (λ x. take (i + (n - (i + 1))) (paste xs i (drop (i + 1) xs) (n - (i + 1))) ≡ remove (take x xs) i) d' m))

pub vacated : {A : Type 0} (d : A) (xs new ys : List A) (n i : ℕ) → IsPadded d n xs → take n xs ≡ ys → i < length ys → new ≡ paste xs i (drop (i + 1) xs) (n - (i + 1))
    → IsPadded d (n - 1) (set new (n - 1) d)
vacated d xs new ys n i f e h q =
    let w = f.whole in
    let s = f.few in
    let b : i < n = omega (arith, simp length-take at (ap length e)) in
    let m = n - (i + 1) in
    let k : i + m + 1 ≡ n = omega arith in
    let p : i + m ≤ length xs = omega arith in
    let r : m ≤ length (drop (i + 1) xs) = simp length-drop (omega arith) in
    let len : length new ≡ 64 = ap length q ∙ length-paste xs i (drop (i + 1) xs) m p r ∙ w in
    record {
      few = omega arith;
      whole = length-set new (n - 1) d ∙ len;
      rest =
          drop-set new (n - 1) d (omega arith)
          ∙ ap (λ l. d ∷ l)
          (ap (λ x. drop x new) (omega arith)
          ∙ ap (drop (i + m + 1)) q
          ∙ sym (drop-drop 1 (i + m) (paste xs i (drop (i + 1) xs) m))
          ∙ ap (drop 1) (drop-paste xs i (drop (i + 1) xs) m (omega arith) r)
          ∙ drop-drop 1 (i + m) xs
          ∙ ap (λ x. drop x xs) k
          ∙ f.rest)
          ∙ ap (λ x. replicate x d) (let e : suc (64 - n) ≡ 64 - (n - 1) = omega arith in e);
    }
