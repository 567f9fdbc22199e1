-- Words compared. Assumes nothing.
use Rattle.std.specs.Prelude.{Some}
use Prim.Native.Nat.{ℕ}
use mathlib.Core.Bool.{Bool, true, false, true≢false, cond}
use mathlib.Core.List.{List, [], ◌∷◌}
use mathlib.Core.Path.{◌≡◌, refl, sym, ap, ◌∙◌}
use lib.Dec.{eqb}
use borrow.Author.Tests.{eqb-true}
use Rattle.lines.specs.Ascii.{ascii}
use Rattle.cursor.specs.Cursor.{unclosed_line}
use Rattle.text.proofs.Choices.{and_true, bool_cases, either}
use Rattle.words.specs.Number.{decimal_of}
use Rattle.cases.specs.Bytes.{same_bytes}
use Rattle.cases.specs.Skips.{length_of}

-- words that compare as the same are the same
same-bytes : (s t : List ℕ) → same_bytes s t ≡ true → s ≡ t
unfolding same_bytes
same-bytes [] [] e = refl
same-bytes [] (b ∷ t) e = absurd (true≢false (sym e))
same-bytes (a ∷ s) [] e = absurd (true≢false (sym e))
same-bytes (a ∷ s) (b ∷ t) e =
    let both = and_true (eqb a b) (same_bytes s t) e in
    ap (λ (x : ℕ). x ∷ s) (eqb-true a b both.0) ∙ ap (λ (l : List ℕ). b ∷ l) (same-bytes s t both.1)

module _ (word : List ℕ) where
  pub length_mark : word ≡ ascii "mark" → Some unclosed_line ≡ length_of word
  unfolding length_of same_bytes
  length_mark e = sym (ap length_of e)

  pub length_number : (r : Bool) → (word ≡ ascii "mark" → r ≡ true) → r ≡ false → decimal_of word ≡ length_of word
  unfolding length_of
  length_number r same f =
      either (bool_cases (same_bytes word (ascii "mark")))
      (λ t. absurd (true≢false (sym (same (same-bytes word (ascii "mark") t)) ∙ f)))
      (λ n. sym (ap (λ (b : Bool). cond b (Some unclosed_line) (decimal_of word)) n))
