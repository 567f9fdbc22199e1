use Prim.Native.Nat.{ℕ}
use native.Mathlib.Omega.{arith}
use mathlib.Core.List.{List}
use mathlib.Core.Path.{refl}
use lib.ListN.{get_or, drop}
use Rattle.lines.specs.Ascii.{ascii}
use Rattle.lines.proofs.OutLaws.{then}
use Rattle.show.specs.Many.{coded_text, codeds_text, many_text}
use Rattle.show.proofs.ManyLaws.{codeds_front, codeds_over}
use Rattle.show.proofs.ShownLaws.{put_turn, put_done}
use borrow.Author.Rules.{rules}
use Rattle.show.proofs.many.integers.Goals as goal

pub loop-i-init : goal.loop-i-init
loop-i-init c = (search rules, refl, refl)

pub loop-i-preserved : goal.loop-i-preserved
loop-i-preserved c =
    let ms : List ℕ = c.args.magnitudes.now in
    let cs : List ℕ = c.args.codes.now in
    let i : ℕ = c.loop-i.i in (
      search rules,
      search rules,
      put_turn (c.loop-i.o, c.loop-i.to) _ (codeds_text c.loop-i.between (drop i ms) (drop i cs)) _ (coded_text c.loop-i.between (get_or ms i 0) (get_or cs i 0)) _
          (codeds_front c.loop-i.between ms cs i (omega arith) (omega arith)) c.coded-to.ensures c.loop-i.invariant.2,
    )

pub returns : goal.returns
unfolding many_text
returns c =
    let ms : List ℕ = c.args.magnitudes.now in
    let cs : List ℕ = c.args.codes.now in
    then (c.args.o.now, c.args.at) _ _ (ascii "ok") (codeds_text 32 ms cs) c.bytes-to.ensures
    (put_done (c.loop-i.o, c.loop-i.to) _ (codeds_text c.loop-i.between (drop c.loop-i.i ms) (drop c.loop-i.i cs))
    (codeds_over c.loop-i.between ms cs c.loop-i.i (omega arith)) c.loop-i.invariant.2)
