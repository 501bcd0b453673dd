-- While no holder is past its promised end, a later clock raises no planned start.
use mathlib.Core.Path.{◌≡◌, sym, ◌∙◌}
use mathlib.Core.Bool.{false}
use mathlib.Core.List.{List}
use Prim.Native.Nat.{ℕ, zero, suc, ◌≤◌, ◌<◌}
use native.Mathlib.Omega.{arith}
use Rattle.rules.specs.declared.Claim.{Claim}
use Rattle.rules.specs.Lists.{◌∈◌, keep}
use Rattle.rules.specs.declared.Setting.{Setting}
use Rattle.rules.specs.Claims.{on, at, end_of}
use Rattle.rules.specs.Order.{before}
use Rattle.rules.specs.Pool.{units_at, used}
use Rattle.rules.specs.Packing.{packed_start, pack}
use Rattle.rules.specs.Plans.{Sane, Separated, NoOverrunAt, StartsFrom, Earliest}
use Rattle.rules.specs.Invariants.{Settled}
use Rattle.rules.proofs.Bools.{by-test}
use Rattle.rules.proofs.Lists.{Each, keep-e, sum-cong}
use Rattle.rules.proofs.Claims.{end-wait, end_ge, end-no-overrun}
use Rattle.rules.proofs.Pool.{units-same}
use Rattle.rules.proofs.Packing.{pack-no-later, pack-idle}
use Rattle.rules.proofs.Invariants.{Later, later-sane}

module _ (k : ℕ) (v u : Setting) (ps : List Claim) (settled : Settled k v ps) (later : Later v u) (prompt : NoOverrunAt u.clock ps) where
  end_same : (c : Claim) → c ∈ ps → end_of u c ≡ end_of v c
  end_same c m =
      by-test (on c)
      (λ o. end-no-overrun u c o (prompt c m o) ∙ sym (end-no-overrun v c o (omega (arith, prompt c m o, later.later))))
      (λ o. omega (arith, end-wait u c o, end-wait v c o))

  prompt-separated : Separated u ps
  unfolding used
  prompt-separated = record {
    behind = λ c w m n o b p. rw (end_same c m) (settled.spaced.fit.behind c w m n o b p);
    supplied = λ x l. omega (arith, later.same, settled.spaced.fit.supplied x (omega (arith, later.later)), sum-cong (units_at u x) (units_at v x) ps (λ c m. units-same u v x c (end_same c m)));
  }

  prompt-sane : Each (Sane u) ps
  prompt-sane c m = later-sane later (settled.spaced.proper c m).sane

  -- A waiting start is the end of a claim: of a holder, which is prompt, or of a waiting claim, which starts sooner.
  start-ge : (j : ℕ) (w : Claim) → w ∈ ps → on w ≡ false → at w < j → u.clock ≤ at w
  start-ge zero w m o l = absurd (omega arith)
  start-ge (suc j) w m o l =
      let h = settled.blocked w m o in
      let y = (settled.spaced.proper h.0 h.1).sane.long in
      by-test (on h.0)
      (λ q. omega (arith, h.3, end_ge v h.0 q, prompt h.0 h.1 q))
      (λ q. let z = end-wait v h.0 q in let x = start-ge j h.0 h.1 q (omega (arith, h.3)) in omega (arith, h.3))

  prompt-starts : StartsFrom u.clock ps
  prompt-starts w m o = start-ge (suc (at w)) w m o (omega arith)

  -- Nobody could start sooner at the later clock either.
  prompt-earliest : Earliest u ps
  unfolding used
  prompt-earliest w m o s l k =
      settled.earliest w m o s (omega (arith, later.later)) (record {
        after = λ c i p. omega (arith, end_same c (keep-e (λ c. before c w) ps i).0, k.after c i p);
        spare = λ z x a b. omega (arith, later.same, k.spare z x a b, sum-cong (units_at u x) (units_at v x) (keep (λ c. before c w) ps) (λ c i. units-same u v x c (end_same c (keep-e (λ c. before c w) ps i).0)));
      })

  -- Then packing at the later clock changes nothing.
  pub no-overrun-still : pack u ps ≡ ps
  no-overrun-still = pack-idle u ps prompt-sane prompt-separated prompt-starts prompt-earliest

  pub no-overrun-no-later : (w : Claim) → w ∈ ps → on w ≡ false → packed_start u ps w ≤ at w
  no-overrun-no-later = pack-no-later u ps prompt-sane prompt-separated prompt-starts
