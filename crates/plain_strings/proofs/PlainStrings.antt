-- A plain string is the token that the token reader reads there. Assumes nothing.
use Rattle.std.proofs.Common.{Ok, Err}
use Rattle.text.specs.Refusals.{Told, expected_string}
use Rattle.strings.specs.declared.literal.Literal.{Literal}
use Prim.Native.Nat.{ℕ, ◌+◌, ◌-◌, ◌<◌, ◌≤◌}
use native.Mathlib.Omega.{arith}
use mathlib.Core.Bool.{Bool, false, cond, ◌&&◌}
use mathlib.Core.List.{List}
use mathlib.Core.Path.{◌≡◌, ap, refl, ◌∙◌}
use lib.Dec.{eqb}
use lib.ListN.{get_or, drop}
use borrow.Author.Tests.{eq-eqb, eqb-true}
use Rattle.text.proofs.Choices.{and_true, chosen}
use Rattle.text.specs.Runs.{run}
use Rattle.comments.proofs.GapFronts.{clear_front, clear_byte}
use Rattle.comments.specs.Gaps.{gap_of}
use Rattle.comments.specs.declared.gap.Gap.TheVariants.{Clear}
use Rattle.strings.proofs.QuotedLaws.{quoted_plain}
use Rattle.strings.specs.Pieces.{plain}
use Rattle.strings.specs.Quoted.{literal, quoted_of}
use Rattle.strings.specs.Strings.{string_of}
use Rattle.strings.specs.Raw.{raw_of}
use Rattle.strings.proofs.Wholes.{none_here}
use Rattle.text.specs.Classes.{blank1, within}
use Rattle.escapes.specs.declared.answers.Mode.TheVariants.{Str}
use Rattle.reading.specs.Tokens.{token}
use Rattle.tokens.proofs.RonLaws.{is_token}
use Rattle.tokens.specs.Lexemes.{lexeme, lexeme_of}
use Rattle.tokens.specs.Ron.{ron_token}
use Rattle.tokens.specs.Token.{of_string, token_of}
use Rattle.tokens.specs.Shapes.{shape_of, mark_kind}
use Rattle.plain_strings.specs.inner.PlainStrings.{plain_string}

-- ---- what the definition says

pub record Found (s : List ℕ) : Type 0 where
  pub len_is : plain_string s ≡ run plain (drop 1 s) + 2
  pub opens : get_or s 0 0 ≡ 0x22
  pub closes : get_or s (run plain (drop 1 s) + 1) 0 ≡ 0x22

pub found : (s : List ℕ) → 0 < plain_string s → Found s
unfolding plain_string
found s h =
    let n = run plain (drop 1 s) in
    let c = chosen (eqb (get_or s 0 0) 0x22 && eqb (get_or s (n + 1) 0) 0x22) (n + 2) h in
    let b = and_true (eqb (get_or s 0 0) 0x22) (eqb (get_or s (n + 1) 0) 0x22) c.0 in
    record { len_is = c.1; opens = eqb-true _ _ b.0; closes = eqb-true _ _ b.1 }

-- its two quotes count
pub two_quotes : (s : List ℕ) → 0 < plain_string s → 2 ≤ plain_string s
two_quotes s h = omega (arith, (found s h).len_is)

-- ---- a quote begins no gap, and a string

quote_clear : (s : List ℕ) → get_or s 0 0 ≡ 0x22 → gap_of s ≡ Clear 0
unfolding blank1 within
quote_clear s e = clear_front s (none_here s 0 0x22 (omega arith) (eq-eqb (get_or s 0 0) 0x22 e)) (ap clear_byte e)

quote_lexeme : (s : List ℕ) (n : ℕ) → get_or s 0 0 ≡ 0x22 → string_of s ≡ Ok (literal (1 + n + 1) 1 (1 + n) n false) → lexeme_of (token_of s) ≡ lexeme (n + 2) 14 n
unfolding token_of shape_of mark_kind
quote_lexeme s n e is = let z : 1 + n + 1 ≡ n + 2 = omega arith in rw e (ap (λ (l : Told Literal). lexeme_of (of_string l)) is ∙ ap (λ (k : ℕ). lexeme k 14 n) z)

-- ---- the law

pub plain-string : (s : List ℕ) → 0 < plain_string s → ron_token s ≡ token (record { gap = 0; len = plain_string s; kind = 14; detail = plain_string s - 2 })
unfolding string_of
plain-string s h =
    let f = found s h in
    let n = run plain (drop 1 s) in
    let z : 1 + n ≡ n + 1 = omega arith in
    let end = none_here s (n + 1) 0x22 (omega arith) (eq-eqb _ _ f.closes) in
    let is : string_of s ≡ Ok (literal (1 + n + 1) 1 (1 + n) n false) =
    ap (λ (t : Bool). cond t (quoted_of Str 1 s) (cond (eqb (get_or s 0 0) 0x72) (raw_of Str 1 s) (Err (expected_string 0)))) (eq-eqb _ _ f.opens)
    ∙ quoted_plain Str s 1 n refl (omega arith) (ap (λ (k : ℕ). get_or s k 0) z ∙ f.closes) in
    let d : n + 2 - 2 ≡ n = omega arith in
    rw (f.len_is, d)
    (is_token s (record { gap = 0; len = n + 2; kind = 14; detail = n })
    record { gap_is = quote_clear s f.opens; inside = omega arith; lexeme_is = quote_lexeme s n f.opens is })
