use Prim.Native.Nat.{ℕ, ◌+◌}
use native.Mathlib.Omega.{arith}
use mathlib.Core.Path.{◌∙◌, ap, sym}
use lib.ListN.{drop, length-drop}
use borrow.Author.Rules.{rules}
use Rattle.text.proofs.RunLaws.{run_le}
use Rattle.text.proofs.Utf8Agree.{part_char}
use Rattle.text.proofs.Utf8Laws.{ascii_from, utf8_done, utf8_next, utf8_stop}
use Rattle.text.specs.Runs.{ascii}
use Rattle.text.specs.Utf8.{utf8_from, utf8_of}
use Rattle.text.proofs.utf8.first_bad.Goals as goal

pub loop-at-init : goal.loop-at-init
unfolding utf8_of
loop-at-init c = (omega (arith, c.run8-at.ensures, run_le ascii c.args.s.now), ascii_from 0 c.args.s.now ∙ ap (λ (n : ℕ). utf8_from 0 n (drop n c.args.s.now)) (sym c.run8-at.ensures))

pub returns-then-n-eq0 : goal.returns-then-n-eq0
returns-then-n-eq0 c = sym (c.loop-at.invariant.1 ∙ utf8_stop c.loop-at.at c.args.s.now (search rules) ((part_char c.args.s.now c.loop-at.at _ c.char_len-n.ensures).0 ∙ c.if-n-eq0.true))

pub overflow_add-at : goal.overflow_add-at
overflow_add-at c = omega (arith, (part_char c.args.s.now c.loop-at.at _ c.char_len-n.ensures).1)

pub run8-at-requires-in-loop-at : goal.run8-at-requires-in-loop-at
run8-at-requires-in-loop-at c = omega (arith, (part_char c.args.s.now c.loop-at.at _ c.char_len-n.ensures).1)

pub loop-at-preserved : goal.loop-at-preserved
loop-at-preserved c =
    let s = c.args.s.now in
    let at = c.loop-at.at in
    let n = c.char_len-n.result in (
      omega (arith, c.run8-at-in-loop-at.ensures, (part_char s at _ c.char_len-n.ensures).1, run_le ascii (drop (at + n) s), length-drop (at + n) s),
      c.loop-at.invariant.1 ∙ utf8_next at n s (part_char s at _ c.char_len-n.ensures).0 (omega (arith, c.if-n-eq0.false)) ∙ ascii_from (at + n) s ∙ ap (λ (m : ℕ). utf8_from 0 m (drop m s)) (sym c.run8-at-in-loop-at.ensures),
    )

pub returns : goal.returns
returns c = sym (c.loop-at.invariant.1 ∙ utf8_done c.loop-at.at c.args.s.now (search rules))
