-- What is promised of `skip`. Each line is a theorem's statement; its proof only says where it is proved. Assumes nothing.
use Rattle.std.proofs.Common.{Ok, Err, Some, None}
use Prim.Native.Nat.{ℕ, ◌≤◌}
use mathlib.Core.Bool.{cond, true}
use mathlib.Core.List.{List}
use mathlib.Core.Logic.{◌↔◌}
use mathlib.Core.Path.{◌≡◌}
use lib.ListN.{drop, length}
use Rattle.text.specs.Refusals.{Told, eof, unclosed_block_comment, unexpected_char, unfit}
use Rattle.text.specs.Utf8.{Encoded}
use Rattle.text.specs.declared.refusal.Refusal.{Refusal}
use Rattle.comments.specs.Blocks.{Body, block_end}
use Rattle.comments.specs.Gaps.{gap_of}
use Rattle.comments.specs.declared.gap.Gap.TheVariants as answer
use Rattle.comments.proofs.Nesting.{body_ends, ends_body, unclosed}
use Rattle.gapped.specs.Gap.{Behind, LastSlash, OpenBlock, OpenLine, StraySlash, Whole}
use Rattle.gapped.proofs.Exactly as gaps
use Rattle.cursor.specs.Skip.{cursor_fits, skip_ws_of}
use Rattle.cursor.specs.declared.ParserCursor.{ParserCursor}
use Rattle.sarridok.specs.Skip.{skip_of}
use Rattle.sarridok.proofs.SkipDetermined.{skip_determined}
use Rattle.skipping.specs.Skips.{Fits, Skips, StrayChar, ahead}
use Rattle.skipping.proofs.Skips as skips
use Rattle.fronts.specs.Fronts.{CursorFits, FrontOf, PlacedOf, Sound}
use Rattle.fronts.proofs.Calls as fronts
use Rattle.fronts.proofs.Places as places
use Rattle.given.specs.Given.{Given}
use Rattle.given.proofs.Calls.{skip_given}

-- ---- gaps

-- A block comment ends exactly where its nesting does.
pub comment_ends : (s : List ℕ) (n : ℕ) → block_end s ≡ Some n → Body s (drop n s)
comment_ends = ends_body

pub comment_body : {s t : List ℕ} → Body s t → (n : ℕ) × (t ≡ drop n s) × (block_end s ≡ Some n)
comment_body = body_ends

pub comment_open : {s t : List ℕ} → block_end s ≡ None → Body s t → ⊥
comment_open = unclosed

-- Over any bytes, the gap that is passed is exactly a whole one: whitespace by code point, line comments and nested block comments, and none left behind it.
pub gap_clear : (s : List ℕ) (n : ℕ) → (gap_of s ≡ answer.Clear n) ↔ ((n ≤ length s) × Whole s (drop n s))
gap_clear = gaps.clear_exactly

-- It runs into a line comment that the end leaves open exactly where one stands.
pub gap_line : (s : List ℕ) (n : ℕ) → (gap_of s ≡ answer.InLine n) ↔ ((n ≡ length s) × OpenLine s)
gap_line = gaps.line_exactly

-- 4, 5 and 6 exactly in their cases.
pub gap_4 : (s : List ℕ) (p : ℕ) → (gap_of s ≡ answer.Refused (unclosed_block_comment p)) ↔ ((p ≡ length s) × OpenBlock s)
gap_4 = gaps.four_exactly

pub gap_5 : (s : List ℕ) (p : ℕ) → (gap_of s ≡ answer.Refused (unexpected_char p)) ↔ ((b : ℕ) × (w : List ℕ) × StraySlash s b w × Behind s b w p)
gap_5 = gaps.five_exactly

pub gap_6 : (s : List ℕ) (p : ℕ) → (gap_of s ≡ answer.Refused (eof p)) ↔ ((p ≡ length s) × LastSlash s)
gap_6 = gaps.six_exactly

-- ---- the call

module _ (text : List ℕ) (c : ParserCursor) where
  -- 1 and 2 exactly in their cases, and past both exactly where the text is sound.
  pub skip_front : FrontOf text (skip_of text c) (cond (cursor_fits text c) (skip_ws_of text c) (Err unfit))
  skip_front = fronts.skip_front text c

  -- 28 exactly where the cursor is unfit.
  pub skip_placed : Sound text → PlacedOf (CursorFits text c) (skip_of text c) (skip_ws_of text c)
  skip_placed = places.skip_placed text c

  -- Such a cursor is what the definition tests for.
  pub cursor-fits : Encoded text → (cursor_fits text c ≡ true) ↔ CursorFits text c
  cursor-fits = places.cursor_exactly text c

  -- It answers behind exactly such a gap.
  pub skip_accepts : (d : ParserCursor) → (skip_of text c ≡ Ok d) ↔ (Fits text c × Skips text c d)
  skip_accepts = skips.accepted_exactly text c

  -- 4, 5 and 6 exactly in their cases.
  pub skip_4 : (p : ℕ) → (skip_of text c ≡ Err (unclosed_block_comment p)) ↔ (Fits text c × (p ≡ length text) × OpenBlock (ahead text c))
  skip_4 = skips.four_exactly text c

  pub skip_5 : (p : ℕ) → (skip_of text c ≡ Err (unexpected_char p)) ↔ (Fits text c × StrayChar text c p)
  skip_5 = skips.five_exactly text c

  pub skip_6 : (p : ℕ) → (skip_of text c ≡ Err (eof p)) ↔ (Fits text c × (p ≡ length text) × LastSlash (ahead text c))
  skip_6 = skips.six_exactly text c

  -- A refusal's number is 1, 2 or one of 4 to 29, and its reason 1 to 8 where that is 13, else 0.
  pub skip_numbers : (r : Refusal) → skip_of text c ≡ Err r → Given r
  skip_numbers = skip_given text c

  -- Two answers that meet the promise are equal.
  pub one_skip : (x y : Told ParserCursor) → x ≡ skip_of text c → y ≡ skip_of text c → x ≡ y
  one_skip = skip_determined text c
