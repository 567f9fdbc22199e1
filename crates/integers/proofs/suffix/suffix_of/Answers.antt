use native.Mathlib.Omega.{arith}
use mathlib.Core.Path.{◌∙◌, ap, sym}
use borrow.Author.Rules.{rules}
use Rattle.integers.proofs.Suffixes.{from_all, from_here, from_more, from_none, no_suffix}
use Rattle.integers.specs.Width.{suffix_first}
use Rattle.integers.proofs.suffix.suffix_of.Goals as goal

pub returns-then-not-is_suffix_first : goal.returns-then-not-is_suffix_first
returns-then-not-is_suffix_first c = c.nothing.ensures ∙ sym (no_suffix c.args.t.now (ap suffix_first (sym c.peek.ensures) ∙ sym c.is_suffix_first.ensures ∙ c.if-not-is_suffix_first.true))

pub loop-k-init : goal.loop-k-init
loop-k-init c = (search rules, from_all c.args.t.now)

pub loop-k-preserved : goal.loop-k-preserved
loop-k-preserved c = (omega arith, c.loop-k.invariant.1 ∙ from_more c.loop-k.k c.args.t.now (omega arith) (sym c.suffix_at.ensures ∙ c.if-suffix_at.false))

pub returns-then-k-gt8 : goal.returns-then-k-gt8
returns-then-k-gt8 c = sym (c.loop-k.invariant.1 ∙ from_none c.loop-k.k c.args.t.now c.if-k-gt8.true)

pub returns-then-suffix_at : goal.returns-then-suffix_at
returns-then-suffix_at c =
    let e = sym c.suffix_at.ensures ∙ c.if-suffix_at.true in
    rw c.suffix_len-end.ensures (sym (c.loop-k.invariant.1 ∙ from_here c.loop-k.k c.args.t.now (omega arith) e))
