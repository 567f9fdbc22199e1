use Prim.Native.Nat.{ℕ}
use native.Mathlib.Omega.{arith}
use mathlib.Core.List.{List}
use mathlib.Core.Path.{refl}
use Rattle.explain.proofs.ExcerptLaws.{characters_on, characters_full, characters_end, step_within}
use borrow.Author.Rules.{rules}
use Rattle.explain.proofs.excerpt.characters.Goals as goal

pub loop-i-init : goal.loop-i-init
loop-i-init c = (refl, search rules, refl)

pub returns-then-left-eq0 : goal.returns-then-left-eq0
returns-then-left-eq0 c = characters_full c.args.s.now c.loop-i.i c.loop-i.left _ (c.loop-i.o, c.loop-i.to) c.loop-i-test.true c.if-left-eq0.true _ c.bytes.ensures c.loop-i.invariant.2

pub overflow_add-i : goal.overflow_add-i
overflow_add-i c = omega (arith, step_within c.args.s.now c.loop-i.i c.char_len-n.result c.step-i.result c.loop-i-test.true c.char_len-n.ensures c.step-i.ensures)

pub loop-i-preserved : goal.loop-i-preserved
loop-i-preserved c =
    let s : List ℕ = c.args.s.now in (
      search rules,
      step_within s c.loop-i.i c.char_len-n.result c.step-i.result c.loop-i-test.true c.char_len-n.ensures c.step-i.ensures,
      characters_on s c.loop-i.i c.loop-i.left _ (c.loop-i.o, c.loop-i.to) c.loop-i-test.true c.if-left-eq0.false c.char_len-n.result c.step-i.result _ c.char_len-n.ensures c.step-i.ensures
          c.character-to.ensures c.loop-i.invariant.2,
    )

pub returns : goal.returns
returns c = characters_end c.args.s.now c.loop-i.i c.loop-i.left _ (c.loop-i.o, c.loop-i.to) (omega arith) c.loop-i.invariant.2
