-- The call `skip` answers exactly what specs/Skips.antt says, over any text and cursor.
--     accepted-exactly    the cursor that is answered
--     four-exactly        4: block comment not closed, at the end of the text
--     five-exactly        5: unexpected character behind a `/`, behind that character
--     six-exactly         6: the text ends behind a `/`
-- Assumes nothing.
use Rattle.std.proofs.Common.{Ok, Err}
use Prim.Native.Nat.{ℕ, ◌+◌, ◌-◌, ◌<◌, ◌≤◌}
use native.Mathlib.Omega.{arith}
use mathlib.Core.List.{List}
use mathlib.Core.Logic.{◌↔◌}
use mathlib.Core.Path.{◌≡◌, ◌∙◌, ap, refl, subst, sym}
use lib.Dec.{lit<}
use lib.ListN.{drop, length, length-drop}
use lib.Seq.{drop-drop}
use Rattle.comments.specs.Gaps.{gap_of}
use Rattle.comments.specs.declared.gap.Gap.{Gap as Answer}
use Rattle.comments.specs.declared.gap.Gap.TheVariants as answer
use Rattle.cursor.proofs.SkipLaws.{fits_places}
use Rattle.cursor.specs.Cursor.{cursor, unclosed_line}
use Rattle.cursor.specs.Skip.{cursor_behind, pre_of}
use Rattle.cursor.specs.declared.ParserCursor.{ParserCursor}
use Rattle.gapped.proofs.Exactly as gap
use Rattle.gapped.proofs.Passing.{gap_passed}
use Rattle.gapped.specs.Gap.{LastSlash, OpenBlock, Whole}
use Rattle.sarridok.specs.Skip.{skip_of}
use Rattle.skipping.proofs.Front.{only_own, refused_exactly, says_end, says_gap, some_ahead}
use Rattle.skipping.proofs.Stray.{char_stands, stray_char}
use Rattle.skipping.specs.Skips.{Fits, Skips, StrayChar, ahead}
use Rattle.skipping.specs.Skips.Skips.{at_end, behind-gap, in_line}
use Rattle.text.proofs.Choices.{either, lt_or_le}
use Rattle.text.specs.Refusals.{eof, unclosed_block_comment, unexpected_char}

module _ (text : List ℕ) (c : ParserCursor) where
  -- ---- accepted

  -- from the gap to the cursor
  module _ (fits : Fits text c) where
    -- what is left of the text
    left : c.cursor + length (ahead text c) ≡ length text
    left = omega (arith, length-drop c.cursor text, (fits_places text c fits.cursor_fit).0)

    by-gap : c.cursor < length text → (d : ParserCursor) (g : Answer) → gap_of (ahead text c) ≡ g → cursor_behind c.cursor (pre_of c) g ≡ Ok d → Skips text c d
    by-gap h d (answer.Clear n) e i =
        let at = c.cursor in
        let w = (gap.clear_exactly (ahead text c) n).0 e in
        let q : cursor (at + n) (pre_of c) (at + n - pre_of c) ≡ d = cc in
        subst (Skips text c) q (behind-gap (at + n) h (omega (arith, left, w.0)) (subst (Whole (ahead text c)) (drop-drop n at text) w.1))
    by-gap h d (answer.InLine n) e i =
        let w = (gap.line_exactly (ahead text c) n).0 e in
        let q : cursor (c.cursor + n) (pre_of c) unclosed_line ≡ d = cc in
        let end : length text ≡ c.cursor + n = omega (arith, left, w.0) in
        subst (Skips text c) (ap (λ (p : ℕ). cursor p (pre_of c) unclosed_line) end ∙ q) (in_line w.1)
    by-gap h d (answer.Refused r) e i = let z : ◌≡◌ {A = ℕ} 0 1 = cc in absurd (omega arith)

    skips : (d : ParserCursor) → skip_of text c ≡ Ok d → Skips text c d
    skips d e =
        either (lt_or_le c.cursor (length text)) (λ h. by-gap h d (gap_of (ahead text c)) refl (sym (says_gap text c fits h) ∙ e))
        (λ h. let q : cursor c.cursor (pre_of c) c.last_ws_len ≡ d = cc (says_end text c fits h, e) in
        subst (Skips text c) q (at_end (omega (arith, left))))

    -- the gap's answer, where the text is not at its end
    told_as : (g : Answer) → gap_of (ahead text c) ≡ g → c.cursor < length text → skip_of text c ≡ cursor_behind c.cursor (pre_of c) g
    told_as g e h = says_gap text c fits h ∙ ap (λ (x : Answer). cursor_behind c.cursor (pre_of c) x) e

    is_skipped : {d : ParserCursor} → Skips text c d → skip_of text c ≡ Ok d
    is_skipped (at_end e) = says_end text c fits (omega arith)
    is_skipped (behind-gap p h l w) =
        let at = c.cursor in
        let n = p - at in
        let over : at ≤ p = omega (arith, (gap_passed w.0).whole, length-drop p text, left) in
        let sum : at + n ≡ p = omega arith in
        let v : Whole (ahead text c) (drop n (ahead text c)) = subst (Whole (ahead text c)) (sym (drop-drop n at text ∙ ap (λ (k : ℕ). drop k text) sum)) w in
        let e = (gap.clear_exactly (ahead text c) n).1 (omega (arith, left), v) in
        told_as (answer.Clear n) e h ∙ ap (λ (k : ℕ). Ok (cursor k (pre_of c) (k - pre_of c))) sum
    is_skipped (in_line o) =
        let n = length (ahead text c) in
        let e = (gap.line_exactly (ahead text c) n).1 (refl, o) in
        told_as (answer.InLine n) e (some_ahead text c (answer.InLine n) e (λ i. let z : ◌≡◌ {A = ℕ} 0 1 = cc in omega arith))
        ∙ ap (λ (k : ℕ). Ok (cursor k (pre_of c) unclosed_line)) left

  -- A cursor is answered exactly where text and cursor are fit and it stands behind the gap.
  pub accepted_exactly : (d : ParserCursor) → (skip_of text c ≡ Ok d) ↔ (Fits text c × Skips text c d)
  accepted_exactly d = (λ e. (let f = only_own text c (Ok d) tt e in (f, skips f d e)), λ (f, x). is_skipped f x)

  -- ---- refused

  module _ (p : ℕ) where
    -- 4 is given exactly where a block comment is not closed, and then at the text's end.
    pub four_exactly : (skip_of text c ≡ Err (unclosed_block_comment p)) ↔ (Fits text c × (p ≡ length text) × OpenBlock (ahead text c))
    four_exactly = (
      λ e. (let r = (refused_exactly text c 4 p (lit< tt) (lit< tt)).0 e in
          let g = (gap.four_exactly (ahead text c) r.1.0).0 r.1.1 in
          (r.0, omega (arith, left r.0, g.0, r.1.2), g.1)),
      λ (f, h, o). (refused_exactly text c 4 p (lit< tt) (lit< tt)).1
          (f, (length (ahead text c), (gap.four_exactly (ahead text c) (length (ahead text c))).1 (refl, o), omega (arith, left f, h))),
    )

    -- 5 is given exactly where another character than `/` and `*` stands behind a `/`, and then behind it.
    pub five_exactly : (skip_of text c ≡ Err (unexpected_char p)) ↔ (Fits text c × StrayChar text c p)
    five_exactly = (
      λ e. (let r = (refused_exactly text c 5 p (lit< tt) (lit< tt)).0 e in
          let g = (gap.five_exactly (ahead text c) r.1.0).0 r.1.1 in
          (r.0, stray_char text c r.0 g.0 g.1 r.1.0 p g.2 g.3 r.1.2)),
      λ (f, x). (let y = char_stands text c p (fits_places text c f.cursor_fit).0 x in
          (refused_exactly text c 5 p (lit< tt) (lit< tt)).1
          (f, (y.at, (gap.five_exactly (ahead text c) y.at).1 (y.first, y.others, y.slash, y.behind), y.place))),
    )

    -- 6 is given exactly where a `/` is the text's last byte, and then at the text's end.
    pub six_exactly : (skip_of text c ≡ Err (eof p)) ↔ (Fits text c × (p ≡ length text) × LastSlash (ahead text c))
    six_exactly = (
      λ e. (let r = (refused_exactly text c 6 p (lit< tt) (lit< tt)).0 e in
          let g = (gap.six_exactly (ahead text c) r.1.0).0 r.1.1 in
          (r.0, omega (arith, left r.0, g.0, r.1.2), g.1)),
      λ (f, h, o). (refused_exactly text c 6 p (lit< tt) (lit< tt)).1
          (f, (length (ahead text c), (gap.six_exactly (ahead text c) (length (ahead text c))).1 (refl, o), omega (arith, left f, h))),
    )
