use Rattle.std.proofs.Common.{Err}
use Prim.Native.Nat.{◌+◌, ℕ}
use native.Mathlib.Omega.{arith}
use mathlib.Core.Bool.{true}
use mathlib.Core.Path.{◌∙◌, ap, sym}
use lib.ListN.{drop}
use Rattle.strings.proofs.QuotedLaws.{backslash_size, backslash_step, end_step, plain_size, plain_step, quote_step, spoilt_size, spoilt_step}
use Rattle.strings.specs.Pieces.{body_of}
use Rattle.strings.specs.Quoted.{measured}
use Rattle.text.proofs.Lists.{tail_part}
use lib.ListN.{get_or}
use Rattle.escapes.specs.Escapes.{simple_of}
use Rattle.strings.specs.Pieces.{decoded_len}
use Rattle.strings.specs.declared.pieces.Decoded.TheVariants.{Ascii}
use Rattle.strings.proofs.SimpleLaws.{simple_piece}
use Rattle.strings.proofs.quoted.body.Goals as goal

pub loop-at-preserved-then-simple_escape : goal.loop-at-preserved-then-simple_escape
unfolding decoded_len
loop-at-preserved-then-simple_escape c = let z = backslash_size c.args.m c.args.s.now c.args.start c.loop-at.from c.loop-at.at c.loop-at.decoded c.loop-at.escaped c.loop-at-test.true 2 (Ascii (simple_of (get_or (drop c.loop-at.at c.args.s.now) 1 0))) (simple_piece c.args.m (drop c.loop-at.at c.args.s.now) (sym c.simple_escape.ensures ∙ c.if-simple_escape.true)) in (omega (arith, z.1), omega (arith, z.1), c.loop-at.invariant.2 ∙ backslash_step c.args.m c.args.s.now c.args.start c.loop-at.from c.loop-at.at c.loop-at.decoded c.loop-at.escaped c.loop-at-test.true 2 (Ascii (simple_of (get_or (drop c.loop-at.at c.args.s.now) 1 0))) (simple_piece c.args.m (drop c.loop-at.at c.args.s.now) (sym c.simple_escape.ensures ∙ c.if-simple_escape.true)))

pub returns-in-Quote : goal.returns-in-Quote
returns-in-Quote c = sym (c.loop-at.invariant.2 ∙ quote_step c.args.m c.args.s.now c.args.start c.loop-at.from c.loop-at.at c.loop-at.decoded c.loop-at.escaped c.loop-at-test.true (simp tail_part at (sym c.in-Quote.is ∙ c.next_piece-p.ensures)))

pub overflow_add-at-in-Plain : goal.overflow_add-at-in-Plain
overflow_add-at-in-Plain c = omega (arith, (plain_size c.args.m c.args.s.now c.args.start c.loop-at.from c.loop-at.at c.loop-at.decoded c.loop-at.escaped c.loop-at-test.true c.in-Plain.n (simp tail_part at (sym c.in-Plain.is ∙ c.next_piece-p.ensures))).1)

pub overflow_add-decoded-in-Plain : goal.overflow_add-decoded-in-Plain
overflow_add-decoded-in-Plain c = omega (arith, (plain_size c.args.m c.args.s.now c.args.start c.loop-at.from c.loop-at.at c.loop-at.decoded c.loop-at.escaped c.loop-at-test.true c.in-Plain.n (simp tail_part at (sym c.in-Plain.is ∙ c.next_piece-p.ensures))).1)

pub loop-at-smaller-in-Plain : goal.loop-at-smaller-in-Plain
loop-at-smaller-in-Plain c = omega (arith, plain_size c.args.m c.args.s.now c.args.start c.loop-at.from c.loop-at.at c.loop-at.decoded c.loop-at.escaped c.loop-at-test.true c.in-Plain.n (simp tail_part at (sym c.in-Plain.is ∙ c.next_piece-p.ensures)))

pub loop-at-preserved-in-Plain : goal.loop-at-preserved-in-Plain
loop-at-preserved-in-Plain c = let e = simp tail_part at (sym c.in-Plain.is ∙ c.next_piece-p.ensures) in
    let z = plain_size c.args.m c.args.s.now c.args.start c.loop-at.from c.loop-at.at c.loop-at.decoded c.loop-at.escaped c.loop-at-test.true c.in-Plain.n e in
    (omega arith, omega arith, c.loop-at.invariant.2 ∙ plain_step c.args.m c.args.s.now c.args.start c.loop-at.from c.loop-at.at c.loop-at.decoded c.loop-at.escaped c.loop-at-test.true c.in-Plain.n e)

pub overflow_add-at-in-Backslash : goal.overflow_add-at-in-Backslash
overflow_add-at-in-Backslash c = omega (arith, (backslash_size c.args.m c.args.s.now c.args.start c.loop-at.from c.loop-at.at c.loop-at.decoded c.loop-at.escaped c.loop-at-test.true c.in-Backslash.n c.in-Backslash.d (simp tail_part at (sym c.in-Backslash.is ∙ c.next_piece-p.ensures))).1)

pub overflow_add-decoded-in-Backslash : goal.overflow_add-decoded-in-Backslash
overflow_add-decoded-in-Backslash c = let z = backslash_size c.args.m c.args.s.now c.args.start c.loop-at.from c.loop-at.at c.loop-at.decoded c.loop-at.escaped c.loop-at-test.true c.in-Backslash.n c.in-Backslash.d (simp tail_part at (sym c.in-Backslash.is ∙ c.next_piece-p.ensures)) in
    omega (arith, z.1, z.2, c.decoded_len-decoded.ensures)

pub loop-at-smaller : goal.loop-at-smaller
loop-at-smaller c = let z = backslash_size c.args.m c.args.s.now c.args.start c.loop-at.from c.loop-at.at c.loop-at.decoded c.loop-at.escaped c.loop-at-test.true c.in-Backslash.n c.in-Backslash.d (simp tail_part at (sym c.in-Backslash.is ∙ c.next_piece-p.ensures)) in
    omega (arith, z.0, z.1)

pub loop-at-preserved : goal.loop-at-preserved
loop-at-preserved c = let e = simp tail_part at (sym c.in-Backslash.is ∙ c.next_piece-p.ensures) in
    let z = backslash_size c.args.m c.args.s.now c.args.start c.loop-at.from c.loop-at.at c.loop-at.decoded c.loop-at.escaped c.loop-at-test.true c.in-Backslash.n c.in-Backslash.d e in
    let at = c.loop-at.at + c.in-Backslash.n in (
      omega (arith, z.1),
      omega (arith, z.1, z.2, c.decoded_len-decoded.ensures),
      c.loop-at.invariant.2
          ∙ backslash_step c.args.m c.args.s.now c.args.start c.loop-at.from c.loop-at.at c.loop-at.decoded c.loop-at.escaped c.loop-at-test.true c.in-Backslash.n c.in-Backslash.d e
          ∙ ap (λ (k : ℕ). measured (body_of c.args.m (drop at c.args.s.now)) c.args.start at at (c.loop-at.decoded + k) true) (sym c.decoded_len-decoded.ensures),
    )

pub placed_behind-requires : goal.placed_behind-requires
placed_behind-requires c = omega (arith, spoilt_size c.args.m c.args.s.now c.args.start c.loop-at.from c.loop-at.at c.loop-at.decoded c.loop-at.escaped c.loop-at-test.true c.in-Refused.r (simp tail_part at (sym c.in-Refused.is ∙ c.next_piece-p.ensures)))

pub returns-in-Refused : goal.returns-in-Refused
returns-in-Refused c = ap Err c.placed_behind.ensures ∙ sym (c.loop-at.invariant.2 ∙ spoilt_step c.args.m c.args.s.now c.args.start c.loop-at.from c.loop-at.at c.loop-at.decoded c.loop-at.escaped c.loop-at-test.true c.in-Refused.r (simp tail_part at (sym c.in-Refused.is ∙ c.next_piece-p.ensures)))

pub returns : goal.returns
returns c = c.unclosed.ensures ∙ sym (c.loop-at.invariant.2 ∙ end_step c.args.m c.args.s.now c.args.start c.loop-at.from c.loop-at.at c.loop-at.decoded c.loop-at.escaped c.loop-at-test.false)
