-- A run of pieces laid one after the other: what is left to lay from here gives what the whole laid at the beginning gives.
use Prim.Native.Nat.{ℕ, ◌^◌, ◌<◌}
use mathlib.Core.List.{List, [], ◌++◌}
use mathlib.Core.Path.{◌≡◌, refl, sym, ap, ◌∙◌}
use native.Mathlib.Omega.{arith}
use lib.ListN.{length}
use Rattle.numerals.specs.Laid.{behind, laid, Put}
use Rattle.numerals.proofs.Laying.{laid-length, laid-append, laid-behind, laid_none, behind-append, behind-none, behind-under}

pub record Going (o₀ : List ℕ) (at₀ : ℕ) (whole : List ℕ) (o : List ℕ) (n : ℕ) (left : List ℕ) : Type 0 where
  pub room : length o₀ < 2 ^ 64
  pub place : n < 2 ^ 64
  pub size : length o ≡ length o₀
  pub lays : laid o n left ≡ laid o₀ at₀ whole
  pub counts : behind n (length left) ≡ behind at₀ (length whole)

pub going_start : (o : List ℕ) (at : ℕ) (xs : List ℕ) → length o < 2 ^ 64 → at < 2 ^ 64 → Going o at xs o at xs
going_start o at xs h k = record { room = h; place = k; size = refl; lays = refl; counts = refl }

pub going_step : (o₀ : List ℕ) (at₀ : ℕ) (whole o : List ℕ) (n : ℕ) (xs ys p : List ℕ) (m : ℕ) → Going o₀ at₀ whole o n (xs ++ ys) → Put o n xs m p → Going o₀ at₀ whole p m ys
going_step o₀ at₀ whole o n xs ys p m g w =
    let l = laid-length o n xs in
    let s = g.size in
    let h = g.room in
    record {
      room = h;
      place = rw w.next (behind-under n (length xs));
      size = ap length w.is ∙ l ∙ s;
      lays = rw (w.is, w.next) (laid-behind (laid o n xs) n (length xs) ys (omega arith) ∙ sym (laid-append o n xs ys) ∙ g.lays);
      counts = rw w.next (behind-append n xs ys ∙ g.counts);
    }

pub going-as : (o₀ : List ℕ) (at₀ : ℕ) (whole o : List ℕ) (n : ℕ) (xs ys : List ℕ) → xs ≡ ys → Going o₀ at₀ whole o n xs → Going o₀ at₀ whole o n ys
going-as o₀ at₀ whole o n xs ys e g = rw e at g

pub going-none : (o₀ : List ℕ) (at₀ : ℕ) (whole o : List ℕ) (n : ℕ) → Going o₀ at₀ whole o n [] → Put o₀ at₀ whole n o
going-none o₀ at₀ whole o n g = record { next = sym (behind-none n g.place) ∙ g.counts; is = sym (laid_none o n) ∙ g.lays }

pub going-last : (o₀ : List ℕ) (at₀ : ℕ) (whole o : List ℕ) (n : ℕ) (xs p : List ℕ) (m : ℕ) → Going o₀ at₀ whole o n xs → Put o n xs m p → Put o₀ at₀ whole m p
going-last o₀ at₀ whole o n xs p m g w = record { next = w.next ∙ g.counts; is = w.is ∙ g.lays }
