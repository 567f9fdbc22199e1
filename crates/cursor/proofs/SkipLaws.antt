-- Laws of the cursor's whitespace. Assumes nothing.
use Rattle.std.proofs.Common.{Ok}
use Prim.Native.Nat.{◌+◌, ◌<◌, ◌≤◌, ℕ}
use mathlib.Core.Bool.{◌&&◌, not, true}
use mathlib.Core.List.{List}
use mathlib.Core.Path.{◌≡◌}
use lib.Dec.{leb}
use lib.ListN.{drop, drop_of_length-le, length, get_or}
use borrow.Author.Tests.{eq-eqb, le-ltb, leb-true, lt-ltb, ne_eqb}
use Rattle.comments.specs.Gaps.{gap_of}
use Rattle.cursor.specs.Cursor.{cursor, unclosed_line}
use Rattle.cursor.specs.Skip.{cursor_behind, behind_part, cursor_fits, pre_of, skip_ws_of, length_fits}
use Rattle.cursor.specs.declared.ParserCursor.{ParserCursor}
use Rattle.text.proofs.Choices.{and_true}
use Rattle.text.proofs.Lists.{front}
use Rattle.text.specs.Classes.{within}
use Rattle.text.specs.Judged.{place_fits}

-- ---- the pre-whitespace place

module _ (c : ParserCursor) where
  pub pre_mark : c.last_ws_len ≡ unclosed_line → pre_of c ≡ c.pre_ws_cursor
  unfolding pre_of
  pre_mark e = rw (eq-eqb _ _ e)

  pub pre_joined : (c.last_ws_len ≡ unclosed_line → ⊥) → c.cursor ≤ c.pre_ws_cursor + c.last_ws_len → pre_of c ≡ c.pre_ws_cursor
  unfolding pre_of
  pre_joined e h = simp (ne_eqb _ _ e, le-ltb _ _ h)

  pub pre_apart : (c.last_ws_len ≡ unclosed_line → ⊥) → c.pre_ws_cursor + c.last_ws_len < c.cursor → pre_of c ≡ c.cursor
  unfolding pre_of
  pre_apart e h = simp (ne_eqb _ _ e, lt-ltb _ _ h)

-- ---- the whole

module _ (text : List ℕ) (c : ParserCursor) where
  pub skip_at_end : length text ≤ c.cursor → skip_ws_of text c ≡ Ok (cursor c.cursor (pre_of c) c.last_ws_len)
  unfolding skip_ws_of behind_part
  skip_at_end h = rw (drop_of_length-le text h)

  pub skip_runs : c.cursor < length text → skip_ws_of text c ≡ cursor_behind c.cursor (pre_of c) (gap_of (drop c.cursor text))
  unfolding skip_ws_of behind_part
  skip_runs h = rw (front text c.cursor h)

-- ---- fit cursors

pub fits_places : (text : List ℕ) (c : ParserCursor) → cursor_fits text c ≡ true → (c.cursor ≤ length text) × (c.pre_ws_cursor ≤ c.cursor)
unfolding cursor_fits place_fits
fits_places text c e =
    let at = c.cursor in
    let pre = c.pre_ws_cursor in
    let ordered = leb pre at && length_fits c in
    let p : (place_fits text at ≡ true) × ((place_fits text pre && ordered) ≡ true) = and_true (place_fits text at) (place_fits text pre && ordered) e in
    let q = and_true (place_fits text pre) ordered p.1 in
    let r = and_true (leb pre at) (length_fits c) q.1 in
    let w = and_true (leb at (length text)) (not (within 0x80 0xBF (get_or text at 0))) p.0 in
    (leb-true at (length text) w.0, leb-true pre at r.0)
