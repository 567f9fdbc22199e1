use Prim.Native.Nat.{ℕ, ◌+◌}
use Rattle.pieces.specs.inner.Turns.{undecided_at}
use Rattle.pieces.specs.Come.{later}
use borrow.Author.Tests.{le-ltb, lt-ltb}
use mathlib.Core.Bool.{true, false}
use lib.ListN.{length}
use lib.Dec.{ltb}
use mathlib.Core.Path.{◌≡◌, ap, sym, ◌∙◌}
use Rattle.pieces.proofs.turn.undecided.Goals as goal

pub returns-then-most-s : goal.returns-then-most-s
unfolding undecided_at
returns-then-most-s c =
    let s = c.args.s.now in
    let most = later c.args.seen (c.args.start + 4096) in
    let t : ltb most (length s) ≡ true = sym (ap (λ (x : ℕ). ltb x (length s)) c.later-most.ensures) ∙ lt-ltb _ _ c.if-most-s.true in
    rw (c.later-most.ensures, c.entry_too_long.ensures) (simp t)

pub returns : goal.returns
unfolding undecided_at
returns c =
    let s = c.args.s.now in
    let most = later c.args.seen (c.args.start + 4096) in
    let t : ltb most (length s) ≡ false = sym (ap (λ (x : ℕ). ltb x (length s)) c.later-most.ensures) ∙ le-ltb _ _ c.if-most-s.false in
    simp t
