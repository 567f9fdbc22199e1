use Prim.Native.Nat.{ℕ}
use mathlib.Core.Path.{ap, sym}
use lib.Dec.{ltb}
use Rattle.escapes.specs.Escapes.{simple_of}
use Rattle.strings.proofs.SimpleLaws.{low_letter, high_letter}
use Rattle.strings.proofs.pieces.is_simple.Goals as goal

pub returns-then-b-eq34 : goal.returns-then-b-eq34
unfolding simple_of
returns-then-b-eq34 c = sym (ap (λ (n : ℕ). ltb (simple_of n) 256) c.if-b-eq34.true)

pub returns-then-b-eq39 : goal.returns-then-b-eq39
unfolding simple_of
returns-then-b-eq39 c = sym (ap (λ (n : ℕ). ltb (simple_of n) 256) c.if-b-eq39.true)

pub returns-then-b-lt64 : goal.returns-then-b-lt64
returns-then-b-lt64 c = low_letter c.args.b c.if-b-lt64.true c.if-b-eq34.false c.if-b-eq39.false

pub returns-then-b-eq110 : goal.returns-then-b-eq110
unfolding simple_of
returns-then-b-eq110 c = sym (ap (λ (n : ℕ). ltb (simple_of n) 256) c.if-b-eq110.true)

pub returns-then-b-eq92 : goal.returns-then-b-eq92
unfolding simple_of
returns-then-b-eq92 c = sym (ap (λ (n : ℕ). ltb (simple_of n) 256) c.if-b-eq92.true)

pub returns-then-b-eq116 : goal.returns-then-b-eq116
unfolding simple_of
returns-then-b-eq116 c = sym (ap (λ (n : ℕ). ltb (simple_of n) 256) c.if-b-eq116.true)

pub returns : goal.returns
returns c = high_letter c.args.b c.if-b-lt64.false c.if-b-eq110.false c.if-b-eq92.false c.if-b-eq116.false
