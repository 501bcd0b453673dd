-- From the tests of a call to its step by the rules.
use Rattle.std.proofs.Common.{◌≡◌, ◌≢◌, refl, sym, ◌∙◌, ap, subst, ℕ, zero, suc, arith, true, false, List, [], ◌∷◌, ◌++◌, ◌+◌, ◌^◌, ◌<◌, add-one}
use borrow.Author.Tests.{eqb-true}
use Rattle.numbers.specs.declared.Refusal.{Refusal}
use Rattle.numbers.specs.declared.Refusal.TheVariants.{Dark, OffRig, BadLength, Backward, Late, Full, Ticketless, Unknown, NotYetOn, AlreadyOn, Edition, Short, Misfit, Overlong, NoSpace, Spots, Stranger, Over, Overbooked, Count, Grace}
use Rattle.numbers.specs.Refusals.{number_of}
use Rattle.groups.specs.Groups.{empty}
use Rattle.groups.proofs.Words.{empty-word}
use Rattle.rules.specs.Lists.{keep}
use Rattle.rules.specs.Tests.{first_number}
use Rattle.rules.proofs.Bools.{clash}
use Rattle.frames.specs.declared.Claim.{Claim}
use Rattle.frames.specs.Rows.{on, row_for, contention, head_tickets, turned, turned_on}
use Rattle.frames.specs.Calls.{Model, Call, claim, release, Step, tests, unchanged, fresh, admit, lacking, remove, act, unless, step, blank, new}
use Rattle.frames.proofs.Calls.{new-cases, admissible, releasable}
use Rattle.std.specs.List as list
use Rattle.frame_table.specs.Valid.{Valid, HasRoom}
use Rattle.frame_table.proofs.Tables.{admit-valid, remove-valid}

-- A refusal has a number.
number-some : (r : Refusal) → number_of r ≢ 0
number-some Dark = λ e. omega arith
number-some OffRig = λ e. omega arith
number-some BadLength = λ e. omega arith
number-some Backward = λ e. omega arith
number-some Late = λ e. omega arith
number-some Full = λ e. omega arith
number-some Ticketless = λ e. omega arith
number-some Unknown = λ e. omega arith
number-some NotYetOn = λ e. omega arith
number-some AlreadyOn = λ e. omega arith
number-some Edition = λ e. omega arith
number-some Short = λ e. omega arith
number-some Misfit = λ e. omega arith
number-some Overlong = λ e. omega arith
number-some NoSpace = λ e. omega arith
number-some Spots = λ e. omega arith
number-some Stranger = λ e. omega arith
number-some Over = λ e. omega arith
number-some Overbooked = λ e. omega arith
number-some Count = λ e. omega arith
number-some Grace = λ e. omega arith

-- So a call whose tests give it is refused,
pub step-refused : (m : Model) (c : Call) (r : Refusal) → number_of r ≡ first_number (tests m c) → step m c ≡ unchanged m (number_of r)
unfolding step
step-refused m c r e = ap (λ (k : ℕ). unless m k (act m c)) (sym e) ∙ go (number_of r) (number-some r)
  where
    go : (n : ℕ) → n ≢ 0 → unless m n (act m c) ≡ unchanged m n
    go zero q = absurd (q refl)
    go (suc n) q = refl

-- and one whose tests give 0 is not.
step-accepted : (m : Model) (c : Call) → 0 ≡ first_number (tests m c) → step m c ≡ act m c
unfolding step
step-accepted m c e = ap (λ (k : ℕ). unless m k (act m c)) (sym e)

-- ── a new table ──
-- A rig of 64 bits without groups is 0.
pub new-dark : (g : ℕ) → g < 2 ^ 64 → true ≡ empty g → blank g ≡ (new g).model
new-dark g h e =
    let z : g ≡ 0 = eqb-true g 0 (sym (empty-word g h) ∙ sym e) in
    new-cases (λ (s : Step). blank g ≡ s.model) g (λ q. ap blank z) (λ q. clash (sym e) q)

-- ── an accepted claim ──
-- A place and a ticket are left for it.
pub claim-room : (m : Model) (g : ℕ) → 0 ≡ first_number (tests m (claim g)) → HasRoom m
claim-room m g e = let a = admissible m g (sym e) in record { room = a.room; spare = a.spare }

pub claim-accepted : (m : Model) (g : ℕ) → 0 ≡ first_number (tests m (claim g)) → step m (claim g) ≡ admit m g
unfolding act
claim-accepted m g e = step-accepted m (claim g) e

-- m is the table. With a claim w more, in the row that the rules say, it is theirs.
module _ (m m₀ : Model) (e : m ≡ m₀) (v : Valid m) (g row n : ℕ) (h : HasRoom m₀) (ps : List Claim) (ks : List ℕ) (r : row ≡ row_for g m.pending) where
  abbrev w : Claim
  w = record { groups = g; ticket = m.issued + 1; row = row }

  abbrev with-w : Model
  with-w = record { rig = m.rig; issued = m.issued + 1; pending = ps }

  w-is : w ≡ fresh m g
  w-is = cc (add-one m.issued, r)

  module _ (p : ps ≡ m.pending ++ w ∷ []) where
    with-is : with-w ≡ (admit m g).model
    unfolding admit
    with-is = cc (add-one m.issued, w-is, p)

    pub admitted-valid : Valid with-w
    admitted-valid = subst Valid (sym with-is) (admit-valid m g v (rw (← e) at h))

    pub admitted-table : with-w ≡ (admit m₀ g).model
    admitted-table = with-is ∙ ap (λ (x : Model). (admit x g).model) e

  pub admitted-answer : n ≡ contention g m.pending → ks ≡ head_tickets (w ∷ []) → record { number = 0; ticket = m.issued + 1; row = row; contention = n; grants = ks } ≡ (admit m₀ g).answer
  unfolding admit
  admitted-answer c q = cc (add-one m.issued, w-is, r, c, q) ∙ ap (λ (x : Model). (admit x g).answer) e

-- What a claim grants by itself.
pub grants-on : (w : Claim) → true ≡ on w → [] ++ w.ticket ∷ [] ≡ head_tickets (w ∷ [])
unfolding head_tickets keep
grants-on w e = rw (sym e)

pub grants-none : (w : Claim) → false ≡ on w → [] ≡ head_tickets (w ∷ [])
unfolding head_tickets keep
grants-none w e = rw (sym e)

-- ── an accepted release ──
pub release-accepted : (m : Model) (k : ℕ) → 0 ≡ first_number (tests m (release k)) → step m (release k) ≡ remove m k
unfolding act
release-accepted m k e = step-accepted m (release k) e

-- m is the table with k's claim at place i. Without it, after the head change, with ps pending and ks granted, it is the rules'.
module _ (m m₀ : Model) (e : m ≡ m₀) (v : Valid m) (k i : ℕ) (n : 0 ≡ first_number (tests m₀ (release k))) (l : list.remove m₀.pending i ≡ lacking k m₀.pending)
    (rest ps : List Claim) (ks : List ℕ) (r : rest ≡ list.remove m.pending i) (p : ps ≡ turned rest) (q : ks ≡ turned_on rest) where
  abbrev after : Model
  after = record { rig = m.rig; issued = m.issued; pending = ps }

  left : rest ≡ lacking k m.pending
  left = r ∙ (rw (← e) at l)

  after-is : after ≡ (remove m k).model
  unfolding remove
  after-is = ap (λ (x : List Claim). record { rig = m.rig; issued = m.issued; pending = x }) (p ∙ ap turned left)

  pub released-valid : Valid after
  released-valid = subst Valid (sym after-is) (remove-valid m k v (releasable m k (sym (rw (← e) at n))))

  pub released-table : after ≡ (step m₀ (release k)).model
  released-table = after-is ∙ ap (λ (x : Model). (remove x k).model) e ∙ sym (ap (λ (s : Step). s.model) (release-accepted m₀ k n))

  pub released-answer : record { number = 0; ticket = k; row = 0; contention = 0; grants = ks } ≡ (step m₀ (release k)).answer
  unfolding remove
  released-answer =
      ap (λ (x : List ℕ). record { number = 0; ticket = k; row = 0; contention = 0; grants = x }) (q ∙ ap turned_on left)
      ∙ ap (λ (x : Model). (remove x k).answer) e ∙ sym (ap (λ (s : Step). s.answer) (release-accepted m₀ k n))
