use Rattle.std.proofs.Common.{Err}
use Rattle.text.specs.Refusals.{Told}
use Rattle.floats.specs.declared.float.FloatSpan.{FloatSpan}
use mathlib.Core.Path.{◌∙◌, ◌≡◌, ap, sym}
use borrow.Author.Tests.{eq-eqb, ne_eqb}
use lib.ListN.{get_or}
use Rattle.floats.specs.Float.{float_anew, float_of, float_to, special_or, specials}
use Rattle.integers.specs.Words.{first_of}
use Rattle.integers.specs.declared.ident.Found.{Found}
use Prim.Native.Nat.{ℕ}
use mathlib.Core.List.{List}
use Rattle.floats.proofs.anew.float_anew.Goals as goal

-- an underscore does not stand in front
plain : (s : List ℕ) (p : ℕ) → p ≡ get_or s 0 0 → (p ≡ 0x5f → ⊥) → float_anew s ≡ special_or (first_of specials s) (float_of s)
unfolding float_anew
plain s p e n = rw (ne_eqb (get_or s 0 0) 0x5f (λ q. n (e ∙ q)))

none : (l : Found) (other : Told FloatSpan) → l.end ≡ 0 → special_or l other ≡ other
none l other e = rw (eq-eqb l.end 0 e)

some : (l : Found) (other : Told FloatSpan) → (l.end ≡ 0 → ⊥) → special_or l other ≡ float_to l.code l.end
some l other n = rw (ne_eqb l.end 0 n)

pub returns-then-peek-eq95 : goal.returns-then-peek-eq95
unfolding float_anew
returns-then-peek-eq95 c =
    let e : get_or c.args.s.now 0 0 ≡ 0x5f = sym c.peek.ensures ∙ c.if-peek-eq95.true in
    rw (eq-eqb (get_or c.args.s.now 0 0) 0x5f e) (ap Err c.underscore_at_beginning.ensures)

pub returns-then-found-eq0 : goal.returns-then-found-eq0
returns-then-found-eq0 c =
    c.float.ensures
    ∙ sym (none c.special-found.result (float_of c.args.s.now) c.if-found-eq0.true)
    ∙ ap (λ (l : Found). special_or l (float_of c.args.s.now)) c.special-found.ensures
    ∙ sym (plain c.args.s.now c.peek.result c.peek.ensures c.if-peek-eq95.false)

pub returns : goal.returns
returns c =
    sym (some c.special-found.result (float_of c.args.s.now) c.if-found-eq0.false)
    ∙ ap (λ (l : Found). special_or l (float_of c.args.s.now)) c.special-found.ensures
    ∙ sym (plain c.args.s.now c.peek.result c.peek.ensures c.if-peek-eq95.false)
