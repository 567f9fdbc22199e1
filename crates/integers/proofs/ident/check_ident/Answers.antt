use native.Mathlib.Omega.{arith}
use mathlib.Core.Path.{◌∙◌, sym}
use lib.ListN.{length}
use Rattle.integers.specs.Words.{ident_at}
use Rattle.text.proofs.Lists.{on_part}
use Rattle.text.proofs.WordLaws.{starts_le}
use Rattle.text.specs.Ahead.{next_ahead}
use Rattle.integers.proofs.ident.check_ident.Goals as goal

pub slice_bounds-is_next_ahead-count : goal.slice_bounds-is_next_ahead-count
slice_bounds-is_next_ahead-count c = omega (arith, starts_le c.args.word.now c.args.t.now (sym c.check_str.ensures ∙ c.if-check_str.true))

pub slice_bounds-is_next_ahead-start : goal.slice_bounds-is_next_ahead-start
slice_bounds-is_next_ahead-start c = omega (arith, starts_le c.args.word.now c.args.t.now (sym c.check_str.ensures ∙ c.if-check_str.true))

pub returns-then-is_next_ahead : goal.returns-then-is_next_ahead
unfolding ident_at
returns-then-is_next_ahead c = simp (sym c.check_str.ensures ∙ c.if-check_str.true, on_part next_ahead c.args.t.now (length c.args.word.now) _ _ c.is_next_ahead.ensures c.if-is_next_ahead.true)

pub returns-then-check_str : goal.returns-then-check_str
unfolding ident_at
returns-then-check_str c = simp (sym c.check_str.ensures ∙ c.if-check_str.true, on_part next_ahead c.args.t.now (length c.args.word.now) _ _ c.is_next_ahead.ensures c.if-is_next_ahead.false)

pub returns : goal.returns
unfolding ident_at
returns c = simp (sym c.check_str.ensures ∙ c.if-check_str.false)
