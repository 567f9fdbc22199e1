use Prim.Native.Nat.{ℕ}
use mathlib.Core.List.{List}
use mathlib.Core.Path.{◌≡◌, subst, sym}
use Rattle.integers.specs.Words.{ident_at}
use Rattle.integers.proofs.WidthRows.{last_word}
use Rattle.integers.specs.Width.{suffix_word, width_at}
use Rattle.integers.proofs.suffix.suffix_at.Goals as goal

pub returns-then-code-eq1 : goal.returns-then-code-eq1
unfolding suffix_word width_at
returns-then-code-eq1 c = rw c.if-code-eq1.true c.check_ident.ensures

pub returns-then-code-eq2 : goal.returns-then-code-eq2
unfolding suffix_word width_at
returns-then-code-eq2 c = rw c.if-code-eq2.true c.check_ident-then-code-eq2.ensures

pub returns-then-code-eq3 : goal.returns-then-code-eq3
unfolding suffix_word width_at
returns-then-code-eq3 c = rw c.if-code-eq3.true c.check_ident-then-code-eq3.ensures

pub returns-then-code-eq4 : goal.returns-then-code-eq4
unfolding suffix_word width_at
returns-then-code-eq4 c = rw c.if-code-eq4.true c.check_ident-then-code-eq4.ensures

pub returns-then-code-eq5 : goal.returns-then-code-eq5
unfolding suffix_word width_at
returns-then-code-eq5 c = rw c.if-code-eq5.true c.check_ident-then-code-eq5.ensures

pub returns-then-code-eq6 : goal.returns-then-code-eq6
unfolding suffix_word width_at
returns-then-code-eq6 c = rw c.if-code-eq6.true c.check_ident-then-code-eq6.ensures

pub returns-then-code-eq7 : goal.returns-then-code-eq7
unfolding suffix_word width_at
returns-then-code-eq7 c = rw c.if-code-eq7.true c.check_ident-then-code-eq7.ensures

pub returns : goal.returns
returns c =
    subst (λ (w : List ℕ). c.check_ident-2.result ≡ ident_at w c.args.t.now)
    (sym (last_word _ c.if-code-eq1.false c.if-code-eq2.false c.if-code-eq3.false c.if-code-eq4.false c.if-code-eq5.false c.if-code-eq6.false c.if-code-eq7.false))
    c.check_ident-2.ensures
