use Prim.Native.Nat.{ℕ}
use native.Mathlib.Omega.{arith}
use mathlib.Core.List.{List}
use mathlib.Core.Path.{refl}
use borrow.Author.Rules.{rules}
use Rattle.show.proofs.HexLaws.{hex_on, hex_ends}
use Rattle.show.proofs.hex.bytes.Goals as goal

pub loop-b-init : goal.loop-b-init
loop-b-init c = (refl, refl)

pub loop-b-preserved : goal.loop-b-preserved
loop-b-preserved c =
    let s : List ℕ = c.args.s.now in
    let i : ℕ = c.loop-b.b-index in
    let out : List ℕ × ℕ = (c.loop-b.o, c.loop-b.to) in (
      search rules,
      hex_on s i _ out (omega arith) _ _ _ _ c.digit.ensures c.digit-in-loop-b.ensures
          c.byte-high.ensures c.byte-to.ensures
          c.loop-b.invariant.1,
    )

pub returns : goal.returns
returns c =
    hex_ends c.args.s.now c.loop-b.b-index _ (c.loop-b.o, c.loop-b.to) (omega arith) c.loop-b.invariant.1
