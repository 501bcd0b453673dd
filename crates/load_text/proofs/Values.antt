-- What words and lines say in numbers: the values of each answer are those that their bytes give.
use Prim.Native.Nat.{ℕ, zero, suc, ◌<◌}
use mathlib.Core.List.{List, [], ◌∷◌}
use mathlib.Core.Path.{◌≡◌, refl, sym, ap, ◌∙◌}
use native.Mathlib.Omega.{arith}
use lib.Dec.{eqb}
use Rattle.std.specs.Prelude.{Option, Some, None, Result, Ok, Err}
use Rattle.numbers.specs.Numbers.{or_else}
use Rattle.format.specs.declared.Call.{Call}
use Rattle.format.specs.Format.{the_groups, fields_of}
use Rattle.format.specs.Calls.{with_value, bare, filled, call_of}
use Rattle.load.specs.Reading.{unless_refused}
use Rattle.words.specs.declared.reasons.Reason.{Reason}
use Rattle.words.specs.Answers.{WordValues, word_values}
use Rattle.words.specs.Parts.{words_in, said}
use Rattle.words.specs.Reasons.{reason_number}
use Rattle.words.proofs.Values.{number-values, groups-values}
use Rattle.words.proofs.Cases.{either}
use Rattle.words.proofs.Numbers.{reason-some}
use Rattle.load_text.specs.Answers.{Line, ParsedValues, parsed_values}
use Rattle.load_text.specs.Parsing.{field_in, with_field, filled_in, kind_named, calling, kind_says, call_said, line_says, word_count_number, word_as, wrong_word, values_said, words_number, kind_values, call_values, parse_values}
use Rattle.load_text.proofs.Cases.{first-wrong}

-- What is wrong before the words' values are looked at stays so, and no call is said.
filled-bad : (r : Reason) (fs : List ℕ) (ws : List (List ℕ)) → parsed_values (calling (filled_in fs ws (Err r))) ≡ record { number = or_else (word_count_number fs ws) (reason_number r); calls = [] }
unfolding filled_in word_count_number
filled-bad r [] [] = refl
filled-bad r [] (w ∷ ws) = refl
filled-bad r (f ∷ fs) [] = refl
filled-bad r (f ∷ fs) (w ∷ ws) = filled-bad r fs ws

none_said : {A : Type 0} (k n : ℕ) (xs : List A) → 0 < n → unless_refused (or_else k n) (λ m. []) xs ≡ []
none_said zero zero xs h = absurd (omega arith)
none_said zero (suc n) xs h = refl
none_said (suc k) n xs h = refl

field-values : (f : ℕ) (w : List ℕ) → word_values (field_in f w) ≡ word_as f w
unfolding field_in word_as
field-values f w = either (eqb f the_groups) (λ e. rw e (groups-values w)) (λ e. rw e (number-values reason_number _ _ _ _ w))

filled-values : (fs : List ℕ) (ws : List (List ℕ)) (c : Call)
    → parsed_values (calling (filled_in fs ws (Ok c))) ≡ record { number = words_number fs ws; calls = unless_refused (words_number fs ws) (λ n. []) (filled fs (values_said fs ws) c ∷ []) }
unfolding filled_in word_count_number wrong_word values_said words_number filled
filled-values [] [] c = refl
filled-values [] (w ∷ ws) c = refl
filled-values (f ∷ fs) [] c = refl
filled-values (f ∷ fs) (w ∷ ws) c = go (field_in f w) (λ d. filled-values fs ws d) ∙ ap with-word (field-values f w)
  where
    k : ℕ
    k = word_count_number fs ws

    with-word : WordValues → ParsedValues
    with-word v = record {
      number = or_else k (or_else v.number (wrong_word fs ws));
      calls = unless_refused (or_else k (or_else v.number (wrong_word fs ws))) (λ n. []) (filled fs (values_said fs ws) (with_value f v.value c) ∷ []);
    }

    go : (x : Result ℕ Reason)
        → ((d : Call) → parsed_values (calling (filled_in fs ws (Ok d))) ≡ record { number = words_number fs ws; calls = unless_refused (words_number fs ws) (λ n. []) (filled fs (values_said fs ws) d ∷ []) })
        → parsed_values (calling (filled_in fs ws (with_field f x (Ok c)))) ≡ with-word (word_values x)
    go (Ok v) h = h (with_value f v c)
    go (Err r) h =
        rw (first-wrong (reason_number r) (wrong_word fs ws) (reason-some r))
        (filled-bad r fs ws ∙ ap (λ (cs : List Call). record { number = or_else k (reason_number r); calls = cs }) (sym (none_said k (reason_number r) _ (reason-some r))))

call-values : (e : ℕ) (ws : List (List ℕ)) → parsed_values (call_said e ws) ≡ call_values e ws
unfolding call_said call_values call_of
call-values e [] = refl
call-values e (k ∷ ws) = go (kind_named e k)
  where
    go : (n : Option ℕ) → parsed_values (kind_says e n ws) ≡ kind_values e n ws
    go None = refl
    go (Some n) = filled-values (fields_of e n) ws (bare n)

-- What a line says, with its number and call: what `parse_line` promises.
pub line-with-values : (e : ℕ) (l : List ℕ) (p : Line) → p ≡ line_says e l → (p ≡ line_says e l) × (parsed_values p ≡ parse_values e l)
unfolding line_says parse_values
line-with-values e l p i = (i, ap parsed_values i ∙ call-values e (words_in (said l)))
