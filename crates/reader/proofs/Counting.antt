-- A reader whose records are counted: so many are behind it and so many are left, from the start to the stop.
use Prim.Native.Nat.{ℕ, zero, suc, ◌+◌, ◌-◌, ◌≤◌, ◌<◌}
use mathlib.Core.List.{List, [], ◌∷◌}
use mathlib.Core.Path.{◌≡◌, refl, sym, ap, subst, ◌∙◌}
use native.Mathlib.Omega.{arith}
use lib.ListN.{length}
use denote.Ref.{Bor}
use Rattle.format.specs.declared.Call.{Call}
use Rattle.std.specs.Prelude.{Err}
use Rattle.format.specs.Records.{Record}
use Rattle.load.specs.Answers.{Answer, one_record, the_end, item_values}
use Rattle.load.specs.Reading.{open_number, ended, walk, unless_refused, reading}
use Rattle.load.proofs.Reading.{walk-short}
use Rattle.reader.specs.declared.Reader.{Reader}
use Rattle.reader.specs.Items.{item_of, position_after}
use Rattle.reader.specs.Turns.{Reads}
use Rattle.reader.proofs.Turns.{reads-once}

-- k records are behind the reader d of the load s, and t are left.
pub record Left (s : List ℕ) (t k : ℕ) (d : Reader) : Type 0 where
  pub same : d.load.now ≡ s
  pub records : List Record
  pub stop : ℕ
  pub reads : Reads s d.at records stop
  pub many : length records ≡ t
  pub all : k + t ≡ length (reading s).records
  pub last : stop ≡ (reading s).stop

-- The same, with fewer left.
pub record Fewer (s : List ℕ) (t k : ℕ) (d : Reader) : Type 0 where
  pub left : ℕ
  pub less : left < t
  pub is : Left s left k d

-- A load has no more records than bytes.
few : (s : List ℕ) → length (reading s).records ≤ length s
unfolding reading
few s = go (open_number s)
  where
    go : (k : ℕ) → length (unless_refused k ended (walk s 1)).records ≤ length s
    go zero = walk-short s 1
    go (suc k) = omega arith

module _ (s : List ℕ) where
  pub at-start : (t : ℕ) (d : Reader) → t ≡ length (reading s).records → (d.load.now ≡ s) × (d.at ≡ 1) → Left s t 0 d
  at-start t d h e = record {
    same = e.0;
    records = (reading s).records;
    stop = (reading s).stop;
    reads = subst (λ (a : ℕ). Reads s a (reading s).records (reading s).stop) (sym e.1) (reads-once s).0;
    many = sym h;
    all = omega arith;
    last = refl;
  }

  -- How many are left, by those that are behind.
  pub left-by : (t n k : ℕ) (d : Reader) → n ≡ length (reading s).records - k → Fewer s t k d → Left s n k d
  left-by t n k d h f =
      let e : f.left ≡ n = omega (arith, h, f.is.all) in
      subst (λ (m : ℕ). Left s m k d) e f.is

  pub fewer-by : (t n k : ℕ) (d : Reader) → n ≡ length (reading s).records - k → Fewer s t k d → n < t
  fewer-by t n k d h f = omega (arith, h, f.is.all, f.less)

  module _ (t k : ℕ) (d : Reader) (l : Left s t k d) where
    -- what `next` answered, said of the load itself
    item-is : (i : Answer) → i ≡ item_of d.load.now d.at → item_of s d.at ≡ i
    item-is i e = sym (e ∙ ap (λ (x : List ℕ). item_of x d.at) l.same)

    no_record : {c : Call} {n : ℕ} (i : Answer) → (item_values 0 i).calls ≡ [] → i ≡ one_record c n → ⊥
    no_record {c} {n} i o e = let g : [] ≡ c ∷ [] = sym o ∙ ap (λ (j : Answer). (item_values 0 j).calls) e in omega (arith, ap length g)

    module _ (c : Call) (n : ℕ) (e : one_record c n ≡ item_of d.load.now d.at) where
      pub behind-record : (q : Reader) → (q.load ≡ d.load) × (q.at ≡ position_after d.load.now d.at) → Fewer s t (k + 1) q
      behind-record q m = go l.records l.stop l.reads l.many l.last
        where
          go : (rs : List Record) (x : ℕ) → Reads s d.at rs x → length rs ≡ t → x ≡ (reading s).stop → Fewer s t (k + 1) q
          go rs x (Reads.ended f) h z = absurd (no_record the_end refl (sym f ∙ item-is (one_record c n) e))
          go rs x (Reads.refused {r = y} f) h z = absurd (no_record (Err y) refl (sym f ∙ item-is (one_record c n) e))
          go rs x (Reads.gave {rs = qs} f r) h z =
              let p : position_after s d.at ≡ q.at = sym (m.1 ∙ ap (λ (y : List ℕ). position_after y d.at) l.same) in
              record {
                left = length qs;
                less = omega (arith, h);
                is = record { same = ap (λ (b : Bor (List ℕ)). b.now) m.0 ∙ l.same; records = qs; stop = x; reads = subst (λ (a : ℕ). Reads s a qs x) p r; many = refl; all = omega (arith, h, l.all); last = z };
              }

      pub room-for-one : k + 1 ≤ length s
      room-for-one =
          let f = behind-record (record { load = d.load; at = position_after d.load.now d.at }) (refl, refl) in
          omega (arith, f.less, l.all, few s)

    -- Where no record stands, all are counted, and the item's number is where the reading stops.
    pub at-stop : (i : Answer) → i ≡ item_of d.load.now d.at → (item_values 0 i).calls ≡ []
        → (k ≡ length (reading s).records) × ((item_values 0 i).number ≡ (reading s).stop)
    at-stop i e o = go l.records l.stop l.reads l.many l.last
      where
        number_is : (j : Answer) → item_of s d.at ≡ j → (item_values 0 i).number ≡ (item_values 0 j).number
        number_is j f = ap (λ (x : Answer). (item_values 0 x).number) (sym (item-is i e) ∙ f)

        go : (rs : List Record) (x : ℕ) → Reads s d.at rs x → length rs ≡ t → x ≡ (reading s).stop
            → (k ≡ length (reading s).records) × ((item_values 0 i).number ≡ (reading s).stop)
        go rs x (Reads.ended f) h z = (omega (arith, h, l.all), number_is the_end f ∙ z)
        go rs x (Reads.refused {r = y} f) h z = (omega (arith, h, l.all), number_is (Err y) f ∙ z)
        go rs x (Reads.gave f r) h z = absurd (no_record i o (sym (item-is i e) ∙ f))
