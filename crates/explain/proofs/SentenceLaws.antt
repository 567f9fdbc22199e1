-- The line behind so many others, and what is said only where there is a reason. Assumes nothing.
use Prim.Native.Nat.{ℕ, zero, suc, ◌+◌, ◌-◌}
use native.Mathlib.Omega.{arith}
use mathlib.Core.Bool.{cond}
use mathlib.Core.List.{List, []}
use mathlib.Core.Path.{◌≡◌, refl, sym, ap}
use lib.Dec.{eqb}
use lib.ListN.{take, drop}
use borrow.Author.Tests.{eq-eqb, ne_eqb}
use Rattle.lines.specs.Find.{find_of}
use Rattle.lines.specs.Out.{put}
use Rattle.explain.specs.Sentences.{line_at}

pub line_first : (n : ℕ) (s : List ℕ) → n ≡ 0 → take (find_of 10 s) s ≡ line_at n s
unfolding line_at
line_first n s e = sym (ap (λ (k : ℕ). line_at k s) e)

pub line_behind : (n : ℕ) (s : List ℕ) → (n ≡ 0 → ⊥) → line_at (n - 1) (drop (find_of 10 s + 1) s) ≡ line_at n s
unfolding line_at
line_behind zero s h = absurd (h refl)
line_behind (suc n) s h =
    let less : suc n - 1 ≡ n = omega arith in
    ap (λ (k : ℕ). line_at k (drop (find_of 10 s + 1) s)) less

-- ---- nothing for 0

module _ (n : ℕ) (out : List ℕ × ℕ) (t : List ℕ) where
  pub put_none : n ≡ 0 → out ≡ put out (cond (eqb n 0) [] t)
  unfolding put
  put_none h = sym (rw (eq-eqb n 0 h) refl)

  pub put_some : (n ≡ 0 → ⊥) → (end : List ℕ × ℕ) → end ≡ put out t → end ≡ put out (cond (eqb n 0) [] t)
  put_some h end e = rw (ne_eqb n 0 h) e
