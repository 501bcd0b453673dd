-- Pieces laid on a page one after the other are one piece.
use Rattle.std.proofs.Common.{ℕ, ◌≡◌, List, [], ◌++◌, ◌^◌, ◌<◌, length, refl, sym, ap, append_assoc, ◌∙◌, ◌∷◌, ◌+◌, drop, get_or, add-one, arith}
use Rattle.std.proofs.lemmas.List.{append-nil}
use Rattle.std.proofs.Math.Seq.{drop-cons}
use Rattle.numerals.specs.declared.page.Page.{Page}
use Rattle.numerals.specs.Pages.{Lays}
use Rattle.numerals.specs.Digits.{digits}
use Rattle.numerals.proofs.BigEndian.{digits-length}
use Rattle.numerals.proofs.Laying.{put_then, behind-none, laid_none}

pub lays_then : {a b c : Page} {xs ys : List ℕ} → Lays a xs b → Lays b ys c → Lays a (xs ++ ys) c
lays_then p q = record { same = q.same ∙ p.same; room = p.room; put = put_then _ _ _ _ _ _ _ _ p.room p.put q.put }

pub lays_as : {a b : Page} (xs ys : List ℕ) → xs ≡ ys → Lays a xs b → Lays a ys b
lays_as xs ys e p = rw e at p

pub big_length : (n v : ℕ) → length (digits 256 0 n v) ≡ n
big_length n v = digits-length 256 0 n v

-- Nothing laid.
pub lays_none : (a : Page) → length a.out.now < 2 ^ 64 → Lays a [] a
lays_none a h = record { same = refl; room = h; put = record { next = sym (behind-none a.at (omega (arith, a.counted))); is = sym (laid_none a.out.now a.at) } }

-- ── a run of pieces: what is laid so far, with what is left, is the whole ──
pub record Laying (old : Page) (whole : List ℕ) (new : Page) (left : List ℕ) : Type 0 where
  pub front : List ℕ
  pub lays : Lays old front new
  pub rest : front ++ left ≡ whole

pub laying-start : {a : Page} {whole left : List ℕ} → length a.out.now < 2 ^ 64 → whole ≡ left → Laying a whole a left
laying-start {a} h e = record { front = []; lays = lays_none a h; rest = sym e }

-- One piece more.
pub laying-more : {a b c : Page} {whole left : List ℕ} (xs ys : List ℕ) → Laying a whole b left → left ≡ xs ++ ys → Lays b xs c → Laying a whole c ys
laying-more xs ys p e q = record { front = p.front ++ xs; lays = lays_then p.lays q; rest = append_assoc p.front xs ys ∙ ap (λ l. p.front ++ l) (sym e) ∙ p.rest }

-- Nothing is left.
pub laying-end : {a b : Page} {whole left : List ℕ} → Laying a whole b left → left ≡ [] → Lays a whole b
laying-end {a} {b} p e = lays_as _ _ (sym (append-nil p.front) ∙ ap (λ l. p.front ++ l) (sym e) ∙ p.rest) p.lays

-- Numbers that are left from a place on: the one there, and those behind it.
pub left_at : (l : List ℕ) (i : ℕ) → i < length l → drop i l ≡ get_or l i 0 ∷ drop (i + 1) l
left_at l i h = drop-cons l i 0 h ∙ ap (λ k. get_or l i 0 ∷ drop k l) (sym (add-one i))
