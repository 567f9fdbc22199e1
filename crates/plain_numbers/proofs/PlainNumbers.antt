-- The general reader says of a plain number what the definition does: a token without a gap, of that length, kind and detail. Assumes nothing.
use Prim.Native.Nat.{ℕ, ◌+◌, ◌<◌}
use native.Mathlib.Nat.{add_assoc}
use native.Mathlib.Omega.{arith}
use mathlib.Core.Bool.{◌&&◌}
use mathlib.Core.List.{List}
use mathlib.Core.Path.{◌≡◌, ap, ◌∙◌}
use lib.Dec.{ltb, leb}
use lib.ListN.{length, drop, get_or, length-drop}
use borrow.Author.Tests.{leb-true, ltb-true}
use Rattle.text.proofs.Choices.{and_true, cond_cases}
use Rattle.text.proofs.RunLaws.{run_le, run_holds}
use Rattle.text.specs.Classes.{digit}
use Rattle.text.specs.Runs.{run}
use Rattle.integers.specs.Front.{sign_of}
use Rattle.numbers.specs.Numbers.{number_of}
use Rattle.reading.specs.Owed.{quiet_byte}
use Rattle.reading.specs.Tokens.{token}
use Rattle.tokens.proofs.RonLaws.{is_token}
use Rattle.tokens.specs.Lexemes.{lexeme, lexeme_of, number_lexeme}
use Rattle.tokens.specs.Ron.{ron_token}
use Rattle.tokens.specs.Token.{token_of}
use Rattle.tokens.specs.declared.lexeme.Lexeme.{Lexeme}
use Rattle.plain_numbers.proofs.Begins.{begins, begins_clear, begins_shape}
use Rattle.plain_numbers.proofs.Floats.{float_is}
use Rattle.plain_numbers.proofs.Integers.{integer_is}
use Rattle.plain_numbers.specs.inner.PlainNumbers.{fit_of, fraction_of, not_plain, plain_float, plain_integer, plain_number}

-- the general reader's token at the front of s is that lexeme
abbrev Told : List ℕ → Lexeme → Type 0
Told s l = ron_token s ≡ token (record { gap = 0; len = l.len; kind = l.kind; detail = l.detail })

module _ (s : List ℕ) (some : 0 < run digit (drop (sign_of s).end s)) where
  number_token : lexeme_of (token_of s) ≡ number_lexeme (number_of s)
  unfolding token_of
  number_token = rw (begins_shape (get_or s 0 0) (begins s (run_holds digit (drop (sign_of s).end s) 0 some)) (get_or s 1 0) (get_or s 2 0))

  told : (l : Lexeme) → number_lexeme (number_of s) ≡ lexeme l.len l.kind l.detail → Told s l
  told l e =
      let long : 0 < length s = omega (arith, length-drop (sign_of s).end s, run_le digit (drop (sign_of s).end s)) in
      is_token s (record { gap = 0; len = l.len; kind = l.kind; detail = l.detail })
      record {
        gap_is = begins_clear s long (begins s (run_holds digit (drop (sign_of s).end s) 0 some));
        inside = long;
        lexeme_is = number_token ∙ e;
      }

pub plain-number : (s : List ℕ) → 0 < (plain_number s).len
    → ron_token s ≡ token (record { gap = 0; len = (plain_number s).len; kind = (plain_number s).kind; detail = (plain_number s).detail })
unfolding plain_number fit_of
plain-number s =
    let g = sign_of s in
    let t : List ℕ = drop g.end s in
    let n : ℕ = run digit t in
    let f : ℕ = fraction_of (drop n t) in
    let P : Lexeme → Type 0 = λ l. 0 < l.len → Told s l in
    cond_cases P (ltb 0 n) _ not_plain
    (λ p. let some = ltb-true 0 n p in
    cond_cases P (ltb 0 f) (plain_float (g.end + n + f)) _
    (λ q h. told s some (plain_float (g.end + n + f)) (ap number_lexeme (float_is s some (ltb-true 0 f q) (g.end + n + f) (add_assoc g.end n f))))
    (λ q. cond_cases P (leb n 9 && quiet_byte (get_or t n 0)) (plain_integer (g.end + n) (fit_of g.minus n t)) not_plain
    (λ r h. let k = and_true (leb n 9) (quiet_byte (get_or t n 0)) r in
    told s some (plain_integer (g.end + n) (fit_of g.minus n t)) (ap number_lexeme (integer_is s some k.1 (leb-true n 9 k.0))))
    (λ r h. absurd (omega arith))))
    (λ p h. absurd (omega arith))
