-- The refusals of the cursor's steps are inner: whitespace, characters and escapes. Assumes nothing.
use Rattle.std.proofs.Common.{Ok, Err}
use Rattle.text.specs.Refusals.{Told}
use Prim.Native.Nat.{ℕ}
use mathlib.Core.List.{List, [], ◌∷◌}
use mathlib.Core.Path.{refl}
use lib.ListN.{drop}
use Rattle.text.specs.declared.refusal.Refusal.{Refusal}
use Rattle.comments.specs.Gaps.{gap_of}
use Rattle.comments.specs.declared.gap.Gap.{Gap}
use Rattle.comments.specs.declared.gap.Gap.TheVariants.{Clear, InLine, Refused as NoGap}
use Rattle.escapes.specs.Escapes.{escape_of}
use Rattle.escapes.specs.declared.answers.Mode.{Mode}
use Rattle.escapes.specs.declared.answers.EscapeAnswer.{EscapeAnswer}
use Rattle.escapes.specs.declared.answers.EscapeAnswer.TheVariants.{Ascii, Utf8, Refused as NoEscape}
use Rattle.cursor.specs.inner.Chars.{next_in, next_of, begins_with, expected_of}
use Rattle.cursor.specs.inner.Escape.{behind_escape, escaped_of}
use Rattle.cursor.specs.Skip.{pre_of, cursor_behind, behind_part, skip_ws_of}
use Rattle.cursor.specs.declared.ParserCursor.{ParserCursor}
use Rattle.cursor.specs.declared.escape.Escaped.{Escaped}
use Rattle.cursor.specs.declared.escape.Escaped.TheVariants as escaped
use Rattle.given.specs.Given.{Inner, within}
use Rattle.given.proofs.Both.{both}
use Rattle.given.proofs.Gaps.{Inner-gap, gap_inner}
use Rattle.given.proofs.Escapes.{Inner-escape, escape_inner}

-- ---- whitespace

abbrev pub Inner-step : Told ParserCursor → Type 0
Inner-step (Ok c) = Unit
Inner-step (Err r) = Inner r

behind-gap : (at pre : ℕ) (g : Gap) → Inner-gap g → Inner-step (cursor_behind at pre g)
behind-gap at pre (Clear n) h = tt
behind-gap at pre (InLine n) h = tt
behind-gap at pre (NoGap r) h = h

behind-part : (c : ParserCursor) (s : List ℕ) → Inner-step (behind_part c s)
unfolding behind_part
behind-part c [] = tt
behind-part c (a ∷ s) = behind-gap c.cursor (pre_of c) (gap_of (a ∷ s)) (gap_inner (a ∷ s))

pub skip_ws_inner : (text : List ℕ) (c : ParserCursor) → Inner-step (skip_ws_of text c)
unfolding skip_ws_of
skip_ws_inner text c = behind-part c (drop c.cursor text)

-- ---- characters

abbrev pub Inner-next : Told (ℕ × ParserCursor) → Type 0
Inner-next (Ok (code, c)) = Unit
Inner-next (Err r) = Inner r

next-in : (c : ParserCursor) (s : List ℕ) → Inner-next (next_in c s)
unfolding next_in within
next-in c [] = refl
next-in c (a ∷ s) = tt

pub next_inner : (text : List ℕ) (c : ParserCursor) → Inner-next (next_of text c)
unfolding next_of
next_inner text c = next-in c (drop c.cursor text)

-- the refusal is the caller's
pub expected_inner : (text : List ℕ) (c : ParserCursor) (b : ℕ) (r : Refusal) → Inner r → Inner-step (expected_of text c b r)
unfolding expected_of
expected_inner text c b r h = both Inner-step (begins_with b (drop c.cursor text)) tt h

-- ---- escapes

abbrev pub Inner-escaped : Escaped → Type 0
Inner-escaped (escaped.Ascii b c) = Unit
Inner-escaped (escaped.Utf8 p c) = Unit
Inner-escaped (escaped.Refused r) = Inner r

behind-escape : (c : ParserCursor) (a : EscapeAnswer) → Inner-escape a → Inner-escaped (behind_escape c a)
behind-escape c (Ascii b n) h = tt
behind-escape c (Utf8 p n) h = tt
behind-escape c (NoEscape r) h = h

pub escaped_inner : (text : List ℕ) (c : ParserCursor) (m : Mode) → Inner-escaped (escaped_of text c m)
unfolding escaped_of
escaped_inner text c m = behind-escape c (escape_of m (drop c.cursor text)) (escape_inner m (drop c.cursor text))
