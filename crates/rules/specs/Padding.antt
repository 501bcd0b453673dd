-- 64 places that hold a list from the first one on.
use Rattle.std.specs.Prelude.{◌≡◌, List, ◌++◌, ℕ, ◌-◌, ◌≤◌, length, take, drop, replicate}

-- The places: those behind the list filled with d.
abbrev pub pad : {A : Type 0} → A → List A → List A
pad d l = l ++ replicate (64 - length l) d

-- The first n of the places hold a list, and the others d.
pub record IsPadded {A : Type 0} (d : A) (n : ℕ) (places : List A) : Type 0 where
  pub few : n ≤ 64
  pub whole : length places ≡ 64
  pub rest : drop n places ≡ replicate (64 - n) d
