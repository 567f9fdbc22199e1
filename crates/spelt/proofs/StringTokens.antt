-- A string without quote and backslash is read as the token of its bytes. Assumes nothing.
use Prim.Native.Nat.{ℕ, suc, ◌+◌, ◌-◌}
use native.Mathlib.Omega.{arith}
use mathlib.Core.List.{List, ◌∷◌, ◌++◌}
use mathlib.Core.Path.{◌≡◌, refl, ap, ◌∙◌}
use lib.ListN.{get_or, length}
use lib.Seq.{get_or_at}
use borrow.Author.Tests.{ne_eqb, eq-eqb}
use Rattle.text.specs.Runs.{run}
use Rattle.strings.specs.Pieces.{plain}
use Rattle.reading.specs.Tokens.{token}
use Rattle.tokens.specs.Ron.{ron_token}
use Rattle.plain_strings.proofs.PlainStrings.{plain-string}
use Rattle.plain_strings.specs.inner.PlainStrings.{plain_string}
use Rattle.spelt.specs.Spelt.{Unescaped}
use Rattle.spelt.specs.Spelt.Unescaped.{none, more}

-- the bytes that stand for themselves reach to the quote behind them
run_plain : {w : List ℕ} → Unescaped w → (t : List ℕ) → run plain (w ++ 0x22 ∷ t) ≡ length w
unfolding run plain
run_plain none t = refl
run_plain (more {b} q e x) t = rw (ne_eqb b 0x22 q, ne_eqb b 0x5C e) (ap suc (run_plain x t))

module _ (w t : List ℕ) (x : Unescaped w) where
  plain_len : plain_string (0x22 ∷ (w ++ 0x22 ∷ t)) ≡ length w + 2
  unfolding plain_string
  plain_len =
      let n : length w + 1 ≡ suc (length w) = omega arith in
      rw (run_plain x t, n, eq-eqb (get_or (w ++ 0x22 ∷ t) (length w) 0) 0x22 (get_or_at w 0x22 t 0 (length w) refl))

  pub string_token : ron_token (0x22 ∷ (w ++ 0x22 ∷ t)) ≡ token (record { gap = 0; len = length w + 2; kind = 14; detail = length w })
  string_token =
      let d : length w + 2 - 2 ≡ length w = omega arith in
      plain-string (0x22 ∷ (w ++ 0x22 ∷ t)) (omega (arith, plain_len)) ∙ rw (plain_len, d)
