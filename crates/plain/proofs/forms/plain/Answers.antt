use Prim.Native.Nat.{ℕ, ◌<◌}
use native.Mathlib.Omega.{arith}
use mathlib.Core.Path.{subst, sym}
use borrow.Author.Tests.{le-ltb, lt-ltb}
use Rattle.plain_strings.proofs.PlainStrings.{two_quotes}
use Rattle.plain.specs.inner.Plain.{plain_of}
use Rattle.plain.proofs.forms.plain.Goals as goal

pub returns-then-name-gt0 : goal.returns-then-name-gt0
unfolding plain_of
returns-then-name-gt0 c = simp (sym c.plain_name-name.ensures, lt-ltb _ _ c.if-name-gt0.true)

pub returns-then-kind-gt0 : goal.returns-then-kind-gt0
unfolding plain_of
returns-then-kind-gt0 c = simp (sym c.plain_name-name.ensures, sym c.mark-kind.ensures, le-ltb _ _ c.if-name-gt0.false, lt-ltb _ _ c.if-kind-gt0.true)

pub overflow_sub-detail : goal.overflow_sub-detail
overflow_sub-detail c = omega (arith, c.plain_string-quoted.ensures, two_quotes c.args.s.now (subst (λ (n : ℕ). 0 < n) c.plain_string-quoted.ensures c.if-quoted-gt0.true))

pub returns-then-quoted-gt0 : goal.returns-then-quoted-gt0
unfolding plain_of
returns-then-quoted-gt0 c = simp (sym c.plain_name-name.ensures, sym c.mark-kind.ensures, sym c.plain_string-quoted.ensures, le-ltb _ _ c.if-name-gt0.false, le-ltb _ _ c.if-kind-gt0.false, lt-ltb _ _ c.if-quoted-gt0.true)

pub returns : goal.returns
unfolding plain_of
returns c = simp (sym c.plain_name-name.ensures, sym c.mark-kind.ensures, sym c.plain_string-quoted.ensures, le-ltb _ _ c.if-name-gt0.false, le-ltb _ _ c.if-kind-gt0.false, le-ltb _ _ c.if-quoted-gt0.false, c.plain_number.ensures)
