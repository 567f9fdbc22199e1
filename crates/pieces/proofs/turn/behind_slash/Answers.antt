use Rattle.pieces.specs.inner.Turns.{behind_slash_at}
use borrow.Author.Tests.{eq-eqb, ne_eqb}
use Rattle.pieces.proofs.turn.behind_slash.Goals as goal

pub returns-then-s-place-eq47 : goal.returns-then-s-place-eq47
unfolding behind_slash_at
returns-then-s-place-eq47 c = simp (eq-eqb _ _ c.if-s-place-eq47.true)

pub returns-then-seen-s : goal.returns-then-seen-s
unfolding behind_slash_at
returns-then-seen-s c = simp (ne_eqb _ _ c.if-s-place-eq47.false, eq-eqb _ _ c.if-seen-s.true)

pub returns : goal.returns
unfolding behind_slash_at
returns c = rw (c.later-bytes.ensures, c.unexpected_char.ensures) (simp (ne_eqb _ _ c.if-s-place-eq47.false, ne_eqb _ _ c.if-seen-s.false))
