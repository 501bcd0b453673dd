-- Claims that draw no units fare as in document 01, whatever the pool and whatever others draw: `start-documented` of packing,
-- `fits-documented` of placing, of the tests `tests-undrawn` and `tests-documented` (proofs/OneClient), of granting `goes-documented`
-- (proofs/Granting). Where no call of a run draws any, the pool changes nothing: `pool-indifferent` of the answers, `pool-alone` of the
-- tables.
use mathlib.Core.Path.{◌≡◌, refl, sym, ◌∙◌, ap}
use mathlib.Core.Bool.{Bool, false}
use mathlib.Core.List.{List, [], ◌∷◌, map}
use Prim.Native.Nat.{ℕ, zero, suc}
use native.Mathlib.Omega.{arith}
use borrow.Author.Tests.{le-ltb, eq-eqb}
use Rattle.groups.specs.Groups.{empty}
use Rattle.rules.specs.declared.Claim.{Claim}
use Rattle.rules.specs.declared.Request.{Request}
use Rattle.rules.specs.declared.Reply.{Reply}
use Rattle.rules.specs.declared.Setting.{Setting}
use Rattle.rules.specs.Lists.{◌∈◌, greatest, least, all, keep}
use Rattle.rules.specs.Claims.{on, held_until, end_of, remaining}
use Rattle.rules.specs.Order.{key, before, precedes}
use Rattle.rules.specs.Seeking.{candidates, seek}
use Rattle.rules.specs.Packing.{ready, start_for, moved, ahead, start_within, packed_start, pack, Packs}
use Rattle.rules.specs.Placing.{clear, fits, place, start_bound}
use Rattle.rules.specs.Granting.{truly_free, goes_within, goes, granted, grant, grants}
use Rattle.rules.specs.Shares.{share_of}
use Rattle.rules.specs.Tests.{first_number, late, backward, stranger, dark, nothing_asked, off_rig, spots}
use Rattle.rules.specs.Calls.{Model, with_clock, with_pending, ruled, setting_of, claims, releases, withdraws, moves_clock, declares, sets_grace, Call, timed, looks, sets_up, claim, Answer, Step, tests, advance, plain, granting, finish, join, remove, fresh, admit, act, unless, step, blank, after, answers}
use Rattle.rules.specs.NoUnits.{documented_start, documented_fits, undrawn_tests, CallDrawsNone, DrawsNone, with_pool}
use Rattle.rules.proofs.Bools.{and_l, and_i, both_ways}
use Rattle.rules.proofs.Lists.{Each, none, greatest-base, greatest-ge, greatest-le, keep-e, keep-i, keep-cong, map_each, map-cong, snoc-each}
use Rattle.rules.proofs.Tests.{front, skipped, swapped}
use Rattle.rules.proofs.Claims.{setting}
use Rattle.rules.proofs.Pool.{spare-none}
use Rattle.rules.proofs.Packing.{moved-cong, moved-units}
use Rattle.rules.proofs.Granting.{granted-cases}
use Rattle.rules.proofs.Calls.{placed, leaves-old, step-cases}

-- ── a claim that draws none ──
-- It asks for nothing where it asks for no group.
pub undrawn-dark : (ask : Request) → ask.units ≡ 0 → (nothing_asked ask.groups ask.units).fails ≡ (dark ask.groups).fails
undrawn-dark ask z = both_ways _ _ (and_l (empty ask.groups) _) (λ e. and_i (empty ask.groups) _ e (eq-eqb ask.units 0 z))

module _ (v : Setting) (ps : List Claim) (w : Claim) (undrawn : w.units ≡ 0) where
  -- It is packed at the greatest of the clock and the ends of the claims that precede it.
  pub start-documented : (f : Claim → ℕ) → Packs v ps f → w ∈ ps → on w ≡ false → f w ≡ documented_start v ps f w
  start-documented f packs m o =
      let r = packs w m o in
      omega (
        arith,
        r.1 (documented_start v ps f w) (record {
          from_clock = greatest-base (λ c. end_of v (moved f c)) v.clock (keep (λ c. precedes c w) ps);
          after = λ c k p. greatest-ge (λ c. end_of v (moved f c)) v.clock (keep-i (λ c. precedes c w) p k);
          spare = λ z. absurd (omega arith);
        }),
        greatest-le (λ c. end_of v (moved f c)) v.clock (keep (λ c. precedes c w) ps) (f w) r.0.from_clock (λ c k.
            let e = keep-e (λ c. precedes c w) ps k in r.0.after c e.0 e.1),
      )

  -- A start is tested against the conflicting claims alone.
  pub fits-documented : (s : ℕ) → fits v ps w s ≡ documented_fits v ps w s
  unfolding fits
  fits-documented s = both_ways _ _ (and_l (all (clear v w s) ps) _) (λ e. and_i (all (clear v w s) ps) _ e (spare-none v ps w undrawn s))

-- The call is tested as if there were no pool.
pub tests-undrawn : (m : Model) (t : ℕ) (ask : Request) → ask.units ≡ 0 → first_number (tests m (claim t ask)) ≡ first_number (undrawn_tests m t ask)
unfolding tests
tests-undrawn m t ask z =
    front (late t) _ _ (front (backward m.clock t) _ _ (front (stranger (share_of m.shares ask.client)) _ _
    (swapped (nothing_asked ask.groups ask.units) (dark ask.groups) _ (undrawn-dark ask z) refl
    ∙ front (dark ask.groups) _ _ (front (off_rig m.rig ask.groups) _ _ (skipped (spots m.pool ask.units) _ (le-ltb m.pool ask.units (omega arith)))))))

-- ── seeking by tests that agree ──
least-cong : (p q : ℕ → Bool) → ((n : ℕ) → p n ≡ q n) → (d : ℕ) (l : List ℕ) → least p d l ≡ least q d l
unfolding least
least-cong p q h d [] = refl
least-cong p q h d (n ∷ l) = rw (h n, least-cong p q h d l)

seek-cong : (v : Setting) (p q : ℕ → Bool) → ((n : ℕ) → p n ≡ q n) → (ps : List Claim) → seek v p ps ≡ seek v q ps
unfolding seek
seek-cong v p q h ps = least-cong p q h (greatest (end_of v) v.clock ps) (candidates v ps)

-- ── two pools at one clock ──
-- No claim of the list draws units.
abbrev Undrawn : List Claim → Type 0
Undrawn ps = Each (λ c. c.units ≡ 0) ps

module _ (t d j k : ℕ) where
  seek-pool : (p : ℕ → Bool) (ps : List Claim) → seek (setting t j d) p ps ≡ seek (setting t k d) p ps
  unfolding seek end_of held_until
  seek-pool p ps = refl

  ready-pool : (qs : List Claim) (w : Claim) → w.units ≡ 0 → (s : ℕ) → ready (setting t j d) qs w s ≡ ready (setting t k d) qs w s
  unfolding ready end_of held_until
  ready-pool qs w z s = rw (spare-none (setting t j d) qs w z s, spare-none (setting t k d) qs w z s)

  for-pool : (qs : List Claim) (w : Claim) → w.units ≡ 0 → start_for (setting t j d) qs w ≡ start_for (setting t k d) qs w
  unfolding start_for
  for-pool qs w z = seek-cong (setting t j d) _ (ready (setting t k d) qs w) (ready-pool qs w z) qs ∙ seek-pool (ready (setting t k d) qs w) qs

  within-pool : (n : ℕ) (ps : List Claim) → Undrawn ps → (w : Claim) → w ∈ ps → start_within n (setting t j d) ps w ≡ start_within n (setting t k d) ps w
  unfolding start_within ahead
  within-pool zero ps u w m = refl
  within-pool (suc n) ps u w m =
      for-pool _ w (u w m)
      ∙ ap (λ (l : List Claim). start_for (setting t k d) l w)
      (map-cong _ (moved (λ c. start_within n (setting t k d) ps c)) (keep (λ c. before c w) ps) (λ c i.
      moved-cong _ (λ c. start_within n (setting t k d) ps c) c (λ o. within-pool n ps u c (keep-e (λ c. before c w) ps i).0)))

  pack-pool : (ps : List Claim) → Undrawn ps → pack (setting t j d) ps ≡ pack (setting t k d) ps
  unfolding pack packed_start
  pack-pool ps u = map-cong _ (moved (packed_start (setting t k d) ps)) ps (λ c m. moved-cong _ (packed_start (setting t k d) ps) c (λ o. within-pool (suc (key c)) ps u c m))

  place-pool : (ps : List Claim) (w : Claim) → w.units ≡ 0 → place (setting t j d) ps w ≡ place (setting t k d) ps w
  unfolding place clear end_of held_until
  place-pool ps w z =
      seek-cong (setting t j d) _ (fits (setting t k d) ps w) (λ s. fits-documented (setting t j d) ps w z s ∙ sym (fits-documented (setting t k d) ps w z s)) ps
      ∙ seek-pool (fits (setting t k d) ps w) ps

  bound-pool : (ps : List Claim) (w : Claim) → start_bound (setting t j d) ps w ≡ start_bound (setting t k d) ps w
  unfolding start_bound remaining end_of held_until
  bound-pool ps w = refl

  goes-pool : (ps : List Claim) (w : Claim) → w.units ≡ 0 → goes (setting t j d) ps w ≡ goes (setting t k d) ps w
  unfolding goes goes_within truly_free
  goes-pool ps w z = rw (eq-eqb w.units 0 z)

  granted-pool : (ps : List Claim) (c : Claim) → c.units ≡ 0 → granted (setting t j d) ps c ≡ granted (setting t k d) ps c
  unfolding granted
  granted-pool ps c z = rw (goes-pool ps c z, granted)

  grant-pool : (ps : List Claim) → Undrawn ps → grant (setting t j d) ps ≡ grant (setting t k d) ps
  unfolding grant
  grant-pool ps u = map-cong _ (granted (setting t k d) ps) ps (λ c m. granted-pool ps c (u c m))

  grants-pool : (ps : List Claim) → Undrawn ps → grants (setting t j d) ps ≡ grants (setting t k d) ps
  unfolding grants
  grants-pool ps u = ap (map (λ c. c.ticket)) (keep-cong _ (goes (setting t k d) ps) ps (λ c m. goes-pool ps c (u c m)))

-- ── the calls keep it that nobody draws ──
pack-undrawn : (v : Setting) (ps : List Claim) → Undrawn ps → Undrawn (pack v ps)
unfolding pack
pack-undrawn v ps u = map_each (λ (c : Claim). c.units ≡ 0) (moved (packed_start v ps)) ps (λ c m. moved-units (packed_start v ps) c ∙ u c m)

grant-undrawn : (v : Setting) (ps : List Claim) → Undrawn ps → Undrawn (grant v ps)
unfolding grant
grant-undrawn v ps u =
    map_each (λ (c : Claim). c.units ≡ 0) (granted v ps) ps (λ c m. granted-cases (λ (x : Claim). x.units ≡ 0) v ps c (λ g. u c m) (λ g. u c m))

-- The same of a model.
abbrev IsUndrawn : Model → Type 0
IsUndrawn m = Undrawn m.pending

advance-undrawn : (m : Model) (t : ℕ) → IsUndrawn m → IsUndrawn (advance m t)
unfolding advance
advance-undrawn m t u = pack-undrawn (ruled m t) m.pending u

remove-undrawn : (m : Model) (i : ℕ) → IsUndrawn m → IsUndrawn (remove m i)
unfolding remove
remove-undrawn m i u c k = u c (keep-e _ m.pending k).0

join-undrawn : (m : Model) (w : Claim) → w.units ≡ 0 → IsUndrawn m → IsUndrawn (join m w)
unfolding join
join-undrawn m w z u = snoc-each (λ (c : Claim). c.units ≡ 0) m.pending w u z

finish-undrawn : (m : Model) (r : Reply) → IsUndrawn m → IsUndrawn (finish m r).model
unfolding finish
finish-undrawn m r u = grant-undrawn (setting_of m) _ (pack-undrawn (setting_of m) m.pending u)

admit-undrawn : (m : Model) (ask : Request) → ask.units ≡ 0 → IsUndrawn m → IsUndrawn (admit m ask).model
unfolding admit
admit-undrawn m ask z u = finish-undrawn (join m (placed m ask)) _ (join-undrawn m (placed m ask) z u)

step-undrawn : (m : Model) (c : Call) → CallDrawsNone c → IsUndrawn m → IsUndrawn (step m c).model
step-undrawn m c d u =
    step-cases (λ c s. CallDrawsNone c → IsUndrawn s.model) m (λ c n i d. u)
    (λ t ask a d. admit-undrawn (advance m t) ask d (advance-undrawn m t u))
    (λ c t k q o l d. finish-undrawn q (plain k t) (λ y i. advance-undrawn m t u y (leaves-old l y i)))
    (λ c r l d e. u) (λ n d e. u) c d

-- ── the calls at two pools ──
-- The same step with a pool of k.
abbrev repooled : ℕ → Step → Step
repooled k s = record { model = with_pool k s.model; answer = s.answer }

module _ (k : ℕ) where
  advance-pool : (m : Model) (t : ℕ) → IsUndrawn m → advance (with_pool k m) t ≡ with_pool k (advance m t)
  unfolding advance
  advance-pool m t u = ap (λ (ps : List Claim). with_pending (with_pool k (with_clock m t)) ps) (pack-pool t m.grace k m.pool m.pending u)

  remove-pool : (m : Model) (i : ℕ) → remove (with_pool k m) i ≡ with_pool k (remove m i)
  unfolding remove
  remove-pool m i = refl

  granting-pool : (m : Model) (r : Reply) (ps : List Claim) → Undrawn ps → granting (with_pool k m) r ps ≡ repooled k (granting m r ps)
  granting-pool m r ps u = rw (grant-pool m.clock m.grace k m.pool ps u, grants-pool m.clock m.grace k m.pool ps u)

  finish-pool : (m : Model) (r : Reply) → IsUndrawn m → finish (with_pool k m) r ≡ repooled k (finish m r)
  unfolding finish
  finish-pool m r u =
      ap (granting (with_pool k m) r) (pack-pool m.clock m.grace k m.pool m.pending u)
      ∙ granting-pool m r (pack (setting_of m) m.pending) (pack-undrawn (setting_of m) m.pending u)

  admit-pool : (m : Model) (ask : Request) → ask.units ≡ 0 → IsUndrawn m → admit (with_pool k m) ask ≡ repooled k (admit m ask)
  unfolding admit join
  admit-pool m ask z u =
      rw (place-pool m.clock m.grace k m.pool m.pending (fresh m ask) z, bound-pool m.clock m.grace k m.pool m.pending (fresh m ask))
      (finish-pool (join m (placed m ask)) _ (join-undrawn m (placed m ask) z u))

  leave-pool : (m : Model) (t i : ℕ) → IsUndrawn m → finish (remove (advance (with_pool k m) t) i) (plain i t) ≡ repooled k (finish (remove (advance m t) i) (plain i t))
  leave-pool m t i u =
      ap (λ (n : Model). finish (remove n i) (plain i t)) (advance-pool m t u)
      ∙ ap (λ (n : Model). finish n (plain i t)) (remove-pool (advance m t) i)
      ∙ finish-pool (remove (advance m t) i) (plain i t) (remove-undrawn (advance m t) i (advance-undrawn m t u))

  act-pool : (m : Model) (c : Call) → CallDrawsNone c → IsUndrawn m → act (with_pool k m) c ≡ repooled k (act m c)
  unfolding act
  act-pool m (timed t (claims ask)) d u = ap (λ (n : Model). admit n ask) (advance-pool m t u) ∙ admit-pool (advance m t) ask d (advance-undrawn m t u)
  act-pool m (timed t (releases i)) d u = leave-pool m t i u
  act-pool m (timed t (withdraws i)) d u = leave-pool m t i u
  act-pool m (timed t moves_clock) d u = ap (λ (n : Model). finish n (plain 0 t)) (advance-pool m t u) ∙ finish-pool (advance m t) (plain 0 t) (advance-undrawn m t u)
  act-pool m (looks q) d u = refl
  act-pool m (sets_up (declares c r l)) d u = refl
  act-pool m (sets_up (sets_grace n)) d u = refl

  tests-pool : (m : Model) (c : Call) → CallDrawsNone c → first_number (tests (with_pool k m) c) ≡ first_number (tests m c)
  unfolding tests first_number
  tests-pool m (timed t (claims ask)) d = rw (le-ltb k ask.units (omega arith), le-ltb m.pool ask.units (omega arith))
  tests-pool m (timed t (releases i)) d = refl
  tests-pool m (timed t (withdraws i)) d = refl
  tests-pool m (timed t moves_clock) d = refl
  tests-pool m (looks q) d = refl
  tests-pool m (sets_up p) d = refl

  unless-pool : (m : Model) (n : ℕ) (s : Step) → unless (with_pool k m) n (repooled k s) ≡ repooled k (unless m n s)
  unless-pool m zero s = refl
  unless-pool m (suc n) s = refl

  step-pool : (m : Model) (c : Call) → CallDrawsNone c → IsUndrawn m → step (with_pool k m) c ≡ repooled k (step m c)
  unfolding step
  step-pool m c d u = rw (tests-pool m c d, act-pool m c d u) (unless-pool m (first_number (tests m c)) (act m c))

  answers-pool : (m : Model) (cs : List Call) → DrawsNone cs → IsUndrawn m → answers (with_pool k m) cs ≡ answers m cs
  unfolding answers
  answers-pool m [] d u = refl
  answers-pool m (c ∷ cs) d u =
      ap (λ (s : Step). s.answer ∷ answers s.model cs) (step-pool m c d.0 u)
      ∙ ap (λ (l : List Answer). (step m c).answer ∷ l) (answers-pool (step m c).model cs d.1 (step-undrawn m c d.0 u))

  after-pool : (m : Model) (cs : List Call) → DrawsNone cs → IsUndrawn m → after (with_pool k m) cs ≡ with_pool k (after m cs)
  unfolding after
  after-pool m [] d u = refl
  after-pool m (c ∷ cs) d u =
      ap (λ (s : Step). after s.model cs) (step-pool m c d.0 u) ∙ after-pool (step m c).model cs d.1 (step-undrawn m c d.0 u)

-- ── a run that draws none ──
-- The pool changes no answer.
pub pool-indifferent : (g j k : ℕ) (alone : Bool) (cs : List Call) → DrawsNone cs → answers (blank g j alone) cs ≡ answers (blank g k alone) cs
pool-indifferent g j k alone cs d = sym (answers-pool k (blank g j alone) cs d (λ c m. none m))

-- The tables differ in the pool alone.
pub pool-alone : (g j k : ℕ) (alone : Bool) (cs : List Call) → DrawsNone cs → after (blank g k alone) cs ≡ with_pool k (after (blank g j alone) cs)
pool-alone g j k alone cs d = after-pool k (blank g j alone) cs d (λ c m. none m)
