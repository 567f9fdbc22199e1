-- A decimal integer of at most 64 bits is read as the token of its digits, at the first width that fits. Assumes nothing.
use Rattle.std.proofs.Common.{Ok}
use Prim.Native.Nat.{ℕ, zero, suc, ◌<◌}
use native.Mathlib.Nat.{add-zero, zero-add}
use native.Mathlib.Omega.{arith}
use mathlib.Core.Bool.{true, false}
use mathlib.Core.List.{List, ◌∷◌, ◌++◌}
use mathlib.Core.Logic.{inr}
use mathlib.Core.Path.{◌≡◌, refl, ap, sym, ◌∙◌}
use lib.Dec.{eqb}
use lib.ListN.{length, take, drop, get_or}
use lib.Seq.{get_or_at, take-append_seam}
use borrow.Author.Tests.{le-ltb, ne_eqb}
use Rattle.text.proofs.Choices.{bool_cases, either, lt_or_le}
use Rattle.text.proofs.Lists.{head_at}
use Rattle.text.proofs.RunLaws.{run_holds, run_le}
use Rattle.text.specs.Classes.{digit, within}
use Rattle.text.specs.Runs.{run}
use Rattle.digits.proofs.Exact.{digits_exact}
use Rattle.digits.specs.Digits.{run_of}
use Rattle.digits.specs.Value.{value_of}
use Rattle.digits.specs.declared.Run.TheVariants.{Value}
use Rattle.integers.proofs.Fronts.{front_said}
use Rattle.integers.proofs.Runs.{digits_run}
use Rattle.integers.proofs.Suffixes.{no_suffix}
use Rattle.integers.specs.Front.{front_of, prefix_of, sign_of}
use Rattle.integers.specs.Integer.{any_of, numeral_of}
use Rattle.integers.specs.Width.{code_of, first_fit, limit_at, suffix_first, suffix_of, width_at}
use Rattle.integers.specs.Words.{nothing_found}
use Rattle.numbers.specs.Numbers.{float_ahead, number_of}
use Rattle.numbers.specs.declared.Number.TheVariants.{Int}
use Rattle.reading.specs.Owed.{quiet_byte}
use Rattle.reading.specs.Tokens.{token}
use Rattle.tokens.proofs.RonLaws.{is_token}
use Rattle.tokens.specs.Lexemes.{lexeme_of, number_lexeme}
use Rattle.tokens.specs.Ron.{ron_token}
use Rattle.tokens.specs.Token.{token_of}
use Rattle.plain_numbers.proofs.Begins.{Begins, begins_clear, begins_shape, digit_begins}
use Rattle.plain_numbers.proofs.Integers.{float-run, int_run, quiet_ends}
use Rattle.plain_numbers.proofs.Runs.{digit_in, quiet_not}
use Rattle.plain_numbers.proofs.Values.{OnlyDigits, digit_value}
use Rattle.spelt.specs.Spelt.{Decimal}
use Rattle.spelt.specs.Spelt.Decimal.{one, more}

-- ---- digits with a blank behind them

run_decimal : {ds : List ℕ} → Decimal ds → (s : List ℕ) → run digit (ds ++ 0x20 ∷ s) ≡ length ds
unfolding run digit within
run_decimal (one {a} e) s = rw e
run_decimal (more {a} e x) s = rw e (ap suc (run_decimal x s))

only_digits : {ds : List ℕ} → Decimal ds → OnlyDigits ds
only_digits (one e) zero h = e
only_digits (one e) (suc i) h = absurd (omega arith)
only_digits (more e x) zero h = e
only_digits (more e x) (suc i) h = only_digits x i (omega arith)

decimal_some : {ds : List ℕ} → Decimal ds → 0 < length ds
decimal_some (one e) = omega arith
decimal_some (more e x) = omega arith

decimal_first : {ds : List ℕ} → Decimal ds → (s : List ℕ) → digit (get_or (ds ++ s) 0 0) ≡ true
decimal_first (one e) s = e
decimal_first (more e x) s = e

-- ---- what stands in front of the digits and behind them: nothing

module _ (t : List ℕ) (some : 0 < run digit t) (quiet : quiet_byte (get_or t (run digit t) 0) ≡ true) where
  no_sign : sign_of t ≡ record { minus = false; end = 0 }
  unfolding sign_of
  no_sign =
      let i = digit_in (get_or t 0 0) (run_holds digit t 0 some) in
      rw (ne_eqb (get_or t 0 0) 0x2b (λ e. omega arith), ne_eqb (get_or t 0 0) 0x2d (λ e. omega arith))

  -- the byte behind a first 0 is no letter of a base
  second : (l : ℕ) → quiet_byte l ≡ false → digit l ≡ false → get_or t 1 0 ≡ l → ⊥
  second l q d e =
      either (lt_or_le 1 (run digit t))
      (λ k. let z : true ≡ false = sym (run_holds digit t 1 k) ∙ ap digit e ∙ d in let y : ◌≡◌ {A = ℕ} 0 1 = cc in omega arith)
      (λ k. let n : run digit t ≡ 1 = omega arith in quiet_not (get_or t 1 0) (rw n at quiet) l q e)

  no_prefix : prefix_of t ≡ record { base = 10; end = 0 }
  unfolding prefix_of quiet_byte digit within
  no_prefix =
      either (bool_cases (eqb (get_or t 0 0) 0x30))
      (λ p. rw (p, ne_eqb (get_or t 1 0) 0x62 (second 0x62 refl refl), ne_eqb (get_or t 1 0) 0x6f (second 0x6f refl refl), ne_eqb (get_or t 1 0) 0x78 (second 0x78 refl refl)))
      (λ p. rw p)

  front_is : front_of t ≡ record { minus = false; base = 10; end = 0 }
  front_is = sym (front_said t (record { minus = false; end = 0 }) (record { base = 10; end = 0 }) (sym no_sign) (sym no_prefix))

  no_letters : suffix_of (drop (run digit t) t) ≡ nothing_found
  unfolding quiet_byte
  no_letters =
      let b : ℕ = get_or t (run digit t) 0 in
      no_suffix (drop (run digit t) t)
      (ap suffix_first (head_at t (run digit t)) ∙ rw (ne_eqb b 0x69 (quiet_not b quiet 0x69 refl), ne_eqb b 0x75 (quiet_not b quiet 0x75 refl)))

  not_ahead : float_ahead t ≡ false
  unfolding float_ahead
  not_ahead = rw (no_sign, int_run t some (quiet_ends (get_or t (run digit t) 0) quiet), float-run t quiet) (le-ltb (run digit t) (run digit t) (omega arith))

-- ---- the digits' value

module _ (ds : List ℕ) (x : Decimal ds) (small : value_of 10 ds < 18446744073709551616) where
  value_is : run_of (limit_at 8 false) 10 ds ≡ Value (value_of 10 ds)
  unfolding limit_at width_at
  value_is =
      let only = only_digits x in
      let first = digit_in (get_or ds 0 0) (only 0 (decimal_some x)) in
      sym (digits_run (limit_at 8 false) 10 ds (λ z. omega (arith, decimal_some x)) (λ z. omega arith))
      ∙ (digits_exact (limit_at 8 false) 10 ds (value_of 10 ds) (omega arith)).1
      (record {
        only = λ i k. inr (let d = digit_in (get_or ds i 0) (only i k) in omega (arith, digit_value (get_or ds i 0) (only i k)));
        value = refl;
        fits = omega arith;
      })

  -- ---- the whole
  module _ (s : List ℕ) where
    abbrev t : List ℕ
    t = ds ++ 0x20 ∷ s

    long : run digit t ≡ length ds
    long = run_decimal x s

    some : 0 < run digit t
    some = omega (arith, long, decimal_some x)

    quiet : quiet_byte (get_or t (run digit t) 0) ≡ true
    unfolding quiet_byte
    quiet = ap quiet_byte (ap (λ (k : ℕ). get_or t k 0) long ∙ get_or_at ds 0x20 s 0 (length ds) refl)

    part : take (run digit t) t ≡ ds
    part = ap (λ (k : ℕ). take k t) long ∙ take-append_seam ds (0x20 ∷ s)

    numeral_is : numeral_of 8 false 10 t ≡ Ok (value_of 10 ds, 0, length ds)
    unfolding numeral_of
    numeral_is = rw (int_run t some (quiet_ends (get_or t (run digit t) 0) quiet), no_letters t some quiet, part, value_is, add-zero (length ds))

    number_is : number_of t ≡ Int (first_fit false (value_of 10 ds)) (length ds)
    unfolding number_of any_of
    number_is =
        rw (not_ahead t some quiet, ne_eqb (length t) 0 (λ z. omega (arith, run_le digit t, some)), front_is t some quiet, numeral_is, zero-add (length ds))

    begins_digit : Begins (get_or t 0 0)
    begins_digit = digit_begins (get_or t 0 0) (decimal_first x (0x20 ∷ s))

    number_token : lexeme_of (token_of t) ≡ number_lexeme (number_of t)
    unfolding token_of
    number_token = rw (begins_shape (get_or t 0 0) begins_digit (get_or t 1 0) (get_or t 2 0))

    pub integer_token : ron_token (ds ++ 0x20 ∷ s) ≡ token (record { gap = 0; len = length ds; kind = 11; detail = code_of (first_fit false (value_of 10 ds)) })
    integer_token =
        let l : 0 < length t = omega (arith, run_le digit t, some) in
        is_token t (record { gap = 0; len = length ds; kind = 11; detail = code_of (first_fit false (value_of 10 ds)) })
        record { gap_is = begins_clear t l begins_digit; inside = l; lexeme_is = number_token ∙ ap number_lexeme number_is }
