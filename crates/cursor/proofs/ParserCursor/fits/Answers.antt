use mathlib.Core.Path.{sym, ◌∙◌}
use borrow.Author.Tests.{eq-eqb, le-leb, lt-leb, ne_eqb}
use Rattle.cursor.specs.Skip.{cursor_fits}
use Rattle.cursor.proofs.ParserCursor.fits.Goals as goal

pub returns-then-not-place_fits : goal.returns-then-not-place_fits
unfolding cursor_fits
returns-then-not-place_fits c = simp (sym c.place_fits.ensures ∙ c.if-not-place_fits.true)

pub returns-then-not-place_fits-2 : goal.returns-then-not-place_fits-2
unfolding cursor_fits
returns-then-not-place_fits-2 c = simp (sym c.place_fits.ensures ∙ c.if-not-place_fits.false, sym c.place_fits-2.ensures ∙ c.if-not-place_fits-2.true)

pub returns-then-at-pre : goal.returns-then-at-pre
unfolding cursor_fits
returns-then-at-pre c = simp (sym c.place_fits.ensures ∙ c.if-not-place_fits.false, sym c.place_fits-2.ensures ∙ c.if-not-place_fits-2.false, lt-leb _ _ c.if-at-pre.true)

pub returns-then-self-eq-WS_CURSOR_UNCLOSED_LINE : goal.returns-then-self-eq-WS_CURSOR_UNCLOSED_LINE
unfolding cursor_fits
returns-then-self-eq-WS_CURSOR_UNCLOSED_LINE c = simp (sym c.place_fits.ensures ∙ c.if-not-place_fits.false, sym c.place_fits-2.ensures ∙ c.if-not-place_fits-2.false, le-leb _ _ c.if-at-pre.false, eq-eqb _ _ c.if-self-eq-WS_CURSOR_UNCLOSED_LINE.true)

pub returns : goal.returns
unfolding cursor_fits
returns c = simp (sym c.place_fits.ensures ∙ c.if-not-place_fits.false, sym c.place_fits-2.ensures ∙ c.if-not-place_fits-2.false, le-leb _ _ c.if-at-pre.false, ne_eqb _ _ c.if-self-eq-WS_CURSOR_UNCLOSED_LINE.false)
