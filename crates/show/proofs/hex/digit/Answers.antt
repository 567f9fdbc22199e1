use Prim.Native.Nat.{◌%◌}
use mathlib.Core.Path.{refl}
use borrow.Author.Tests.{lt-ltb, le-ltb}
use Rattle.show.specs.Hexes.{digit_of}
use Rattle.show.proofs.hex.digit.Goals as goal

pub returns-then-k-lt10 : goal.returns-then-k-lt10
unfolding digit_of
returns-then-k-lt10 c = rw (lt-ltb (c.args.n % 16) 10 c.if-k-lt10.true) refl

pub returns : goal.returns
unfolding digit_of
returns c = rw (le-ltb (c.args.n % 16) 10 c.if-k-lt10.false) refl
