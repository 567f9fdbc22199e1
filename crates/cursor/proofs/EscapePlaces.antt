-- Where an escape at the cursor ends: within the text. Assumes nothing.
use Prim.Native.Nat.{ℕ, ◌+◌, ◌≤◌}
use native.Mathlib.Nat.{add-zero}
use native.Mathlib.Omega.{arith}
use mathlib.Core.Path.{◌≡◌, ap, subst}
use mathlib.Core.List.{List}
use lib.ListN.{length, drop, drop_of_length-le, length-drop}
use Rattle.text.specs.Refusals.{eof}
use Rattle.text.specs.Runs.{ascii}
use Rattle.text.proofs.RunLaws.{run_le}
use Rattle.escapes.specs.declared.answers.Mode.{Mode}
use Rattle.escapes.specs.declared.answers.EscapeAnswer.{EscapeAnswer}
use Rattle.escapes.specs.declared.answers.EscapeAnswer.TheVariants.{Ascii, Utf8, Refused}
use Rattle.escapes.specs.Escapes.{escape_of}
use Rattle.escapes.proofs.Bounded.{Bounded, bounded}
use Rattle.cursor.specs.declared.ParserCursor.{ParserCursor}
use Rattle.cursor.specs.declared.escape.Escaped.TheVariants as escaped
use Rattle.cursor.specs.inner.Escape.{escaped_of}

-- where the answer ends, counted from the part's front
abbrev pub reach : EscapeAnswer → ℕ
reach (Ascii b n) = n
reach (Utf8 c n) = n
reach (Refused r) = r.place

bounded_reach : (s : List ℕ) (a : EscapeAnswer) → Bounded s a → reach a ≤ length s
bounded_reach s (Ascii b n) h = omega (arith, h.1, run_le ascii s)
bounded_reach s (Utf8 c n) h = omega (arith, h.1, run_le ascii s)
bounded_reach s (Refused r) h = h

module _ (m : Mode) (text : List ℕ) (at : ℕ) where
  pub escape_within : at ≤ length text → (a : EscapeAnswer) → escape_of m (drop at text) ≡ a → at + reach a ≤ length text
  escape_within h a e =
      omega (arith, bounded_reach (drop at text) a (subst (Bounded (drop at text)) e (bounded m (drop at text))), length-drop at text)

-- at the end of the text, or past it, 6 at the cursor
pub escape_end : (text : List ℕ) (c : ParserCursor) (m : Mode) → length text ≤ c.cursor → escaped_of text c m ≡ escaped.Refused (eof c.cursor)
unfolding escaped_of escape_of
escape_end text c m h = rw (drop_of_length-le text h) (ap (λ (n : ℕ). escaped.Refused (eof n)) (add-zero c.cursor))
