-- The line that a call is printed as says that call: its words are the kind's name and the values of its fields, and these read back.
use Prim.Native.Nat.{ℕ, zero, suc, ◌+◌, ◌-◌, ◌*◌, ◌/◌, ◌%◌, ◌^◌, ◌≤◌, ◌<◌}
use mathlib.Core.Path.{◌≡◌, refl, sym, ap, ◌∙◌}
use mathlib.Core.Bool.{Bool, true, false, not, ◌&&◌, ◌||◌, cond, false≢true}
use mathlib.Core.List.{List, [], ◌∷◌, ◌++◌, map, append_assoc}
use native.Mathlib.Nat.{pow-suc, pow-le-pow_right}
use native.Mathlib.Omega.{arith}
use lib.Dec.{ltb, leb, eqb}
use lib.ListN.{length, get_or, length-append}
use borrow.Author.Tests.{eqb-true, ltb-true, leb-false, leb-true, lt-ltb, le-ltb, le-leb, lt-leb, not-true}
use Rattle.std.specs.Prelude.{Option, Some, Ok}
use Rattle.numerals.specs.Digits.{digits, width_up_to, width_of, decimal_of, column}
use Rattle.format.specs.declared.Call.{Call}
use Rattle.format.specs.Format.{the_groups, field_width, format, known, fields_of, has_kind, names, name_of}
use Rattle.format.specs.Calls.{value_of, with_value, bare, filled, call_of, values_in, values_of, keeps, Typed}
use Rattle.format.specs.Records.{Record, calls_of}
use Rattle.numerals.specs.Texts.{bytes, space, line_feed}
use Rattle.words.specs.declared.reasons.Reason.{Reason}
use Rattle.words.specs.Parts.{carriage_return, hash, none, bytes_before, parts, in_front, not_empty, is, is_feed, is_blank, is_joint, lines_in, words_in, chomped, said}
use Rattle.words.specs.Sets.{is_list, groups_in}
use Rattle.words.specs.Words.{digit_of, is_no_digit, digits_in, value_in, number_in, is_word, place_in}
use Rattle.words.proofs.Cases.{either, below}
use Rattle.words.proofs.Parts.{none-cons, none-less, none-at, until_none}
use Rattle.words.proofs.Numbers.{digit-ten, digit-upper}
use Rattle.words.proofs.Reading.{not-empty-cons}
use Rattle.load.specs.Reading.{edition_of, walk}
use Rattle.format.proofs.Format.{both, all_rows, kind-tested, known-tested, width-most}
use Rattle.format.proofs.Calls.{keeps-kind, call-of-values}
use Rattle.load.proofs.Reading.{load-parts, load-known}
use Rattle.format.proofs.Records.{carries-parts, call-carried}
use Rattle.load.proofs.Loads.{Sound, Loadable, read-loadable}
use Rattle.load_text.specs.declared.parse.Head.TheVariants.{Edition, Other}
use Rattle.load_text.specs.Answers.{nothing, a_call}
use Rattle.load_text.specs.Lines.{glyph_of, hex_up_to, word_of, fields_text, line_of, lines_of, rest_of, header_of, text_of}
use Rattle.load_text.specs.Making.{no_heading, heading_in, heading, said_in}
use Rattle.load_text.specs.Parsing.{field_in, filled_in, kind_of, kind_named, calling, kind_says, call_said, line_says, edition_word, heads, edition_in, head_in, head_says}
use Rattle.load_text.specs.ReadBack.{LineReadBack, TextReadBack}

-- ── parts of a text in front of a byte that ends one ──
module _ (p : ℕ → Bool) where
  none-append : (x y : List ℕ) → none p x ≡ true → none p y ≡ true → none p (x ++ y) ≡ true
  unfolding none
  none-append [] y h k = k
  none-append (b ∷ x) y h k = let q = none-cons p b x h in rw q.0 (none-append x y q.1 k)

  parts-front : (x : List ℕ) (e : ℕ) (l : List ℕ) → none p x ≡ true → p e ≡ true → parts p (x ++ e ∷ l) ≡ x ∷ parts p l
  unfolding parts
  parts-front [] e l h k = rw k
  parts-front (b ∷ x) e l h k = let q = none-cons p b x h in rw q.0 (ap (in_front b) (parts-front x e l q.1 k))

  parts_last : (x : List ℕ) → 0 < length x → none p x ≡ true → parts p x ≡ x ∷ []
  unfolding parts
  parts_last [] q h = absurd (omega arith)
  parts_last (b ∷ []) q h = rw (none-cons p b [] h).0
  parts_last (b ∷ c ∷ x) q h = let n = none-cons p b (c ∷ x) h in rw n.0 (ap (in_front b) (parts_last (c ∷ x) (omega arith) n.1))

-- ── a line of words with a space between them ──
spaced : List ℕ → List (List ℕ) → List ℕ
spaced w [] = w
spaced w (v ∷ vs) = w ++ space ∷ spaced v vs

-- A byte that ends a line or what it says, and one that is no part of a word.
abbrev is_end : ℕ → Bool
is_end b = is_feed b || (is hash b || is carriage_return b)

abbrev is_mark : ℕ → Bool
is_mark b = is_blank b || is_end b

neither : (a b : Bool) → (a || b) ≡ false → (a ≡ false) × (b ≡ false)
neither true b h = absurd (false≢true (sym h))
neither false b h = (refl, h)

abbrev Plain : List ℕ → Type 0
Plain w = (0 < length w) × (none is_mark w ≡ true)

is_plain : List ℕ → Bool
is_plain w = ltb 0 (length w) && none is_mark w

plain_word : (w : List ℕ) → is_plain w ≡ true → Plain w
unfolding is_plain
plain_word w h = let q = both (ltb 0 (length w)) (none is_mark w) h in (ltb-true 0 (length w) q.0, q.1)

data Plains : List (List ℕ) → Type 0 where
  nil : Plains []
  also : {w : List ℕ} {ws : List (List ℕ)} → Plain w → Plains ws → Plains (w ∷ ws)

module _ (w : List ℕ) (h : Plain w) where
  no-blank : none is_blank w ≡ true
  no-blank = none-less is_blank is_mark (λ b q. (neither (is_blank b) (is_end b) q).0) w h.1

  no_end : none is_end w ≡ true
  no_end = none-less is_end is_mark (λ b q. (neither (is_blank b) (is_end b) q).1) w h.1

words-spaced : (w : List ℕ) (ws : List (List ℕ)) → Plain w → Plains ws → words_in (spaced w ws) ≡ w ∷ ws
unfolding words_in spaced
words-spaced w [] h hs = ap not_empty (parts_last is_blank w h.0 (no-blank w h)) ∙ not-empty-cons w [] h.0
words-spaced w (v ∷ vs) h (also k ks) =
    ap not_empty (parts-front is_blank w space (spaced v vs) (no-blank w h) refl)
    ∙ not-empty-cons w (parts is_blank (spaced v vs)) h.0
    ∙ ap (λ ws. w ∷ ws) (words-spaced v vs k ks)

none-spaced : (w : List ℕ) (ws : List (List ℕ)) → Plain w → Plains ws → none is_end (spaced w ws) ≡ true
unfolding none spaced
none-spaced w [] h hs = no_end w h
none-spaced w (v ∷ vs) h (also k ks) = none-append is_end w (space ∷ spaced v vs) (no_end w h) (none-spaced v vs k ks)

-- Nothing of such a line is left out.
said-whole : (l : List ℕ) → none is_end l ≡ true → said l ≡ l
unfolding said chomped
said-whole l h =
    let x = get_or l (length l - 1) 0 in
    let r = (neither (is hash x) (is carriage_return x) (neither (is_feed x) _ (none-at is_end l (length l - 1) refl h)).1).1 in
    rw r (until_none (is hash) l (none-less (is hash) is_end (λ b q. (neither (is hash b) (is carriage_return b) (neither (is_feed b) _ q).1).0) l h))

-- A line of plain words in front of other lines, and its words.
module _ (w : List ℕ) (ws : List (List ℕ)) (h : Plain w) (hs : Plains ws) where
  line-front : (rest : List ℕ) → lines_in (spaced w ws ++ line_feed ∷ rest) ≡ spaced w ws ∷ lines_in rest
  unfolding lines_in
  line-front rest = parts-front is_feed (spaced w ws) line_feed rest (none-less is_feed is_end (λ b q. (neither (is_feed b) _ q).0) _ (none-spaced w ws h hs)) refl

  line-words : words_in (said (spaced w ws)) ≡ w ∷ ws
  line-words = ap words_in (said-whole (spaced w ws) (none-spaced w ws h hs)) ∙ words-spaced w ws h hs

-- ── words of digits ──
-- A byte that is no digit is not among digits.
module _ (base : ℕ) (p : base ≤ 16) (w : List ℕ) (k : digits_in base w ≡ true) where
  no-is : (a b : ℕ) → digit_of a ≡ 16 → is_no_digit base b ≡ false → is a b ≡ false
  no-is a b e h = either (is a b) (λ q. absurd (omega (arith, ap digit_of (eqb-true b a q), e, leb-false base (digit_of b) h))) (λ q. q)

  digits-plain : 0 < length w → Plain w
  unfolding digit_of
  digits-plain h =
      (h, none-less is_mark (is_no_digit base) (λ b q. rw (no-is 32 b refl q, no-is 9 b refl q, no-is 10 b refl q, no-is 35 b refl q, no-is 13 b refl q)) w k)

  digits-no-list : none is_joint w ≡ true
  unfolding digit_of
  digits-no-list = none-less is_joint (is_no_digit base) (λ b q. rw (no-is 44 b refl q, no-is 45 b refl q)) w k

value-snoc : (base v : ℕ) (w : List ℕ) (b : ℕ) → value_in base v (w ++ (b ∷ [])) ≡ value_in base v w * base + digit_of b
unfolding value_in
value-snoc base v [] b = refl
value-snoc base v (a ∷ w) b = value-snoc base (v * base + digit_of a) w b

-- A word of digits that says v in a base.
record Says (base v : ℕ) (w : List ℕ) : Type 0 where
  some : 0 < length w
  digit : digits_in base w ≡ true
  value : value_in base 0 w ≡ v

says-one : (base v b : ℕ) → digit_of b < base → digit_of b ≡ v → Says base v (b ∷ [])
unfolding none value_in
says-one base v b h e = record { some = omega arith; digit = rw (lt-leb base (digit_of b) h); value = omega (arith, e) }

says-more : (base u v b : ℕ) (w : List ℕ) → Says base u w → digit_of b < base → u * base + digit_of b ≡ v → Says base v (w ++ (b ∷ []))
unfolding none
says-more base u v b w s h e = record {
  some = omega (arith, length-append w (b ∷ []), s.some);
  digit = none-append (is_no_digit base) w (b ∷ []) s.digit (rw (lt-leb base (digit_of b) h));
  value = value-snoc base 0 w b ∙ ap (λ n. n * base + digit_of b) s.value ∙ e;
}

number-said : (base most : ℕ) (lack large : Reason) (v : ℕ) (w : List ℕ) → Says base v w → v ≤ most → number_in base most lack large w ≡ Ok v
unfolding number_in
number-said base most lack large v w s h = rw (lt-ltb 0 (length w) s.some, s.digit, s.value, le-leb v most h)

-- ── decimal ──
ten : (v : ℕ) → digit_of (v % 10 + 48) ≡ v % 10
ten v = omega (arith, digit-ten (v % 10 + 48) (omega arith) (omega arith))

decimal-says : (k v : ℕ) → v < 10 ^ suc k → Says 10 v (digits 10 48 (width_up_to k v) v)
unfolding digits width_up_to
decimal-says zero v h = says-one 10 v (v % 10 + 48) (omega (arith, ten v)) (omega (arith, ten v))
decimal-says (suc k) v h =
    let s = decimal-says k (v / 10) (omega (arith, pow-suc 10 (suc k))) in
    below v 10 (λ q. rw (lt-ltb v 10 q) (says-one 10 v (v % 10 + 48) (omega (arith, ten v)) (omega (arith, ten v))))
    (λ q. rw (le-ltb v 10 q) (says-more 10 (v / 10) v (v % 10 + 48) (digits 10 48 (width_up_to k (v / 10)) (v / 10)) s (omega (arith, ten v)) (omega (arith, ten v))))

-- ── hex ──
glyph : (v : ℕ) → digit_of (glyph_of v) ≡ v % 16
unfolding glyph_of
glyph v =
    below (v % 16) 10 (λ h. rw (lt-ltb (v % 16) 10 h) (omega (arith, digit-ten (48 + v % 16) (omega arith) (omega arith))))
    (λ h. rw (le-ltb (v % 16) 10 h) (omega (arith, digit-upper (55 + v % 16) (omega arith) (omega arith))))

hex-says : (k v : ℕ) → v < 16 ^ suc k → Says 16 v (hex_up_to k v)
unfolding hex_up_to
hex-says zero v h = says-one 16 v (glyph_of v) (omega (arith, glyph v)) (omega (arith, glyph v))
hex-says (suc k) v h =
    let s = hex-says k (v / 16) (omega (arith, pow-suc 16 (suc k))) in
    below v 16 (λ q. rw (lt-ltb v 16 q) (says-one 16 v (glyph_of v) (omega (arith, glyph v)) (omega (arith, glyph v))))
    (λ q. rw (le-ltb v 16 q) (says-more 16 (v / 16) v (glyph_of v) (hex_up_to k (v / 16)) s (omega (arith, glyph v)) (omega (arith, glyph v))))

-- ── a value as a word ──
module _ (f v : ℕ) (h : v < 256 ^ field_width f) where
  in-word : v < 2 ^ 64
  in-word = let wide : 256 ^ field_width f ≤ 256 ^ 8 = pow-le-pow_right (omega arith) (width-most f) in omega arith

  word-said : Plain (word_of f v) × (field_in f (word_of f v) ≡ Ok v)
  unfolding word_of field_in groups_in is_list decimal_of width_of
  word-said =
      let x = hex_up_to 15 v in
      let s = hex-says 15 v in-word in
      let d = decimal_of v in
      let t = decimal-says 19 v (omega (arith, in-word)) in
      either (eqb f the_groups)
      (λ e. rw e (digits-plain 16 (omega arith) x s.digit s.some, rw (digits-no-list 16 (omega arith) x s.digit) (number-said 16 18446744073709551615 _ _ v x s (omega (arith, in-word)))))
      (λ e. rw e (digits-plain 10 (omega arith) d t.digit t.some, number-said 10 (256 ^ field_width f - 1) _ _ v d t (omega arith)))

-- ── the fields of a call ──
words_of : List ℕ → Call → List (List ℕ)
words_of [] c = []
words_of (f ∷ fs) c = word_of f (value_of f c) ∷ words_of fs c

module _ (c : Call) (t : Typed c) where
  fields-plain : (fs : List ℕ) → Plains (words_of fs c)
  unfolding words_of
  fields-plain [] = nil
  fields-plain (f ∷ fs) = also (word-said f (value_of f c) (t f)).0 (fields-plain fs)

  fields-said : (fs : List ℕ) (d : Call) → filled_in fs (words_of fs c) (Ok d) ≡ Ok (filled fs (values_in fs c) d)
  unfolding words_of filled_in filled
  fields-said [] d = refl
  fields-said (f ∷ fs) d = rw (word-said f (value_of f c) (t f)).1 (fields-said fs (with_value f (value_of f c) d))

fields-spaced : (c : Call) (rest w : List ℕ) (fs : List ℕ) → (w ++ fields_text fs c) ++ rest ≡ spaced w (words_of fs c) ++ line_feed ∷ rest
unfolding fields_text words_of spaced
fields-spaced c rest w [] = append_assoc w (bytes "\n") rest
fields-spaced c rest w (f ∷ fs) =
    let v = word_of f (value_of f c) in
    append_assoc w (space ∷ (v ++ fields_text fs c)) rest
    ∙ ap (λ x. w ++ space ∷ x) (fields-spaced c rest v fs)
    ∙ sym (append_assoc w (space ∷ spaced v (words_of fs c)) (line_feed ∷ rest))

-- ── the names ──
-- A name is that of its kind alone, no edition's, and a plain word.
name-test : ℕ → Bool
name-test k =
    let n = get_or names k [] in
    eqb (kind_of n) k && (not (is_word n edition_word) && is_plain n)

record Named (e k : ℕ) : Type 0 where
  some : 0 < k
  kind : kind_named e (name_of e k) ≡ Some k
  other : is_word (name_of e k) edition_word ≡ false
  word : Plain (name_of e k)

-- A kind that an edition has is named by its name alone, which is a plain word.
named : (e k : ℕ) → has_kind e k ≡ true → Named e k
unfolding name_of kind_named name-test all_rows format kind_of place_in names is_word is_plain none
named e k h = go (kind-tested (λ e k fs. ltb 0 k && name-test k) e k refl h)
  where
    go : (ltb 0 k && name-test k) ≡ true → Named e k
    go p =
        let n = get_or names k [] in
        let l = both (ltb 0 k) (name-test k) p in
        let t = both (eqb (kind_of n) k) (not (is_word n edition_word) && is_plain n) l.1 in
        let d = both (not (is_word n edition_word)) (is_plain n) t.1 in
        record {
          some = ltb-true 0 k l.0;
          kind = rw (h, eqb-true (kind_of n) k t.0, h);
          other = rw h (not-true (is_word n edition_word) d.0);
          word = rw h (plain_word n d.1);
        }

-- ── a line ──
-- The line of a call, in front of other lines; what it says, and that it is no edition.
record Line (e : ℕ) (c : Call) (rest : List ℕ) : Type 0 where
  line : List ℕ
  front : lines_in (line_of e c ++ rest) ≡ line ∷ lines_in rest
  says : line_says e line ≡ a_call c
  head : head_says line ≡ Ok Other

line-of : (e : ℕ) (c : Call) → keeps e c ≡ true → Typed c → (rest : List ℕ) → Line e c rest
unfolding line_of line_says call_said head_says head_in values_of call_of
line-of e c h t rest =
    let k = c.kind in
    let n = named e k (keeps-kind e c h) in
    let fs = fields_of e k in
    let ps = fields-plain c t fs in
    let name = name_of e k in
    let words = line-words name (words_of fs c) n.word ps in
    record {
      line = spaced name (words_of fs c);
      front = ap lines_in (fields-spaced c rest name fs) ∙ line-front name (words_of fs c) n.word ps rest;
      says = ap (call_said e) words ∙ ap (λ (x : Option ℕ). kind_says e x (words_of fs c)) n.kind ∙ ap calling (fields-said c t fs (bare k)) ∙ ap a_call (call-of-values e c h);
      head = ap head_in words ∙ rw n.other;
    }

pub line-read-back : LineReadBack
line-read-back e c h t rest = let l = line-of e c (sym (call-carried e c) ∙ h) t rest in ap (map (line_says e)) l.front ∙ ap (λ x. x ∷ map (line_says e) (lines_in rest)) l.says

-- ── the text of a load ──
record-read-back : (e : ℕ) (b : Bool) (r : Record) → Sound e b r → (rest : List ℕ) → Line e r.call rest
record-read-back e b r v rest = line-of e r.call (carries-parts e r v.carried).0 v.typed.0 rest

lines-read-back : (e k : ℕ) (b : Bool) (rs : List Record) → Loadable e b rs → map (line_says e) (lines_in (lines_of e k rs 0)) ≡ map a_call (calls_of rs)
unfolding lines_of lines_in parts
lines-read-back e k b [] Loadable.none = refl
lines-read-back e k b (r ∷ rs) (Loadable.one v g) =
    let l = record-read-back e b r v (lines_of e (k + 1) rs 0) in
    rw (l.front, l.says) (ap (λ l. a_call r.call ∷ l) (lines-read-back e (k + 1) false rs g))

-- Lines of calls have no heading.
lines-unheaded : (e k : ℕ) (b : Bool) (rs : List Record) → Loadable e b rs → (i : ℕ) → heading_in i (map head_says (lines_in (lines_of e k rs 0))) ≡ no_heading
unfolding lines_of lines_in parts heading_in
lines-unheaded e k b [] Loadable.none i = refl
lines-unheaded e k b (r ∷ rs) (Loadable.one v g) i = let l = record-read-back e b r v (lines_of e (k + 1) rs 0) in rw (l.front, l.head)

-- The header of another edition than 1 says it.
edition-says : (e : ℕ) → known e ≡ true → (t : List ℕ)
    → (lines_in (((edition_word ++ bytes " ") ++ column e line_feed) ++ t) ≡ spaced edition_word (decimal_of e ∷ []) ∷ lines_in t) × (head_says (spaced edition_word (decimal_of e ∷ [])) ≡ Ok (Edition e))
unfolding head_says head_in edition_in column decimal_of width_of spaced is_word is_plain none format all_rows
edition-says e k t =
    let b = leb-true e 255 (known-tested (λ i. leb i 255) refl e k) in
    let s = decimal-says 19 e (omega arith) in
    let p = plain_word edition_word refl in
    let d : Plain (decimal_of e) = digits-plain 10 (omega arith) (decimal_of e) s.digit s.some in (
      ap (λ x. lines_in (edition_word ++ space ∷ x)) (append_assoc (decimal_of e) (bytes "\n") t) ∙ line-front edition_word (decimal_of e ∷ []) p (also d nil) t,
      ap head_in (line-words edition_word (decimal_of e ∷ []) p (also d nil)) ∙ ap heads (number-said 10 255 _ _ e (decimal_of e) s b),
    )

text-said : (e : ℕ) (rs : List Record) → known e ≡ true → Loadable e true rs → (t : List ℕ) → t ≡ header_of e ++ lines_of e 1 rs 0
    → ((heading t).number ≡ 0) × ((heading t).edition ≡ e) × (said_in t ≡ cond (eqb e 1) (nothing ∷ []) [] ++ map a_call (calls_of rs))
unfolding heading heading_in said_in header_of head_says head_in line_says call_said lines_in words_in said chomped bytes_before parts
text-said e rs k g t q =
    let rest = lines_of e 1 rs 0 in
    either (eqb e 1) (λ o.
    let i : e ≡ 1 = eqb-true e 1 o in
    let l : lines_in t ≡ bytes "# edition 1" ∷ lines_in rest = ap lines_in (rw o at q) in
    rw (o, l, lines-unheaded e 1 true rs g 1) (refl, sym i, ap (λ x. nothing ∷ x) (ap (λ (x : ℕ). map (line_says x) (lines_in rest)) (sym i) ∙ lines-read-back e 1 true rs g)))
    (λ o. let s = edition-says e k rest in rw (o, ap lines_in (rw o at q) ∙ s.0, s.1) (refl, refl, lines-read-back e 1 true rs g))

pub text-read-back : TextReadBack
unfolding text_of rest_of
text-read-back s b z =
    let h = load-parts s z in
    let e = edition_of s in
    let rs = (walk s 1).records in
    text-said e rs (load-known s z).1 (read-loadable s b) (text_of s) (rw (h.0, h.1))
