-- Plain strings at the front of a part, as the code asks for them. Assumes nothing.
use Prim.Native.Nat.{ℕ, ◌+◌, ◌-◌, ◌≤◌}
use native.Mathlib.Omega.{arith}
use mathlib.Core.Bool.{cond}
use mathlib.Core.List.{List}
use mathlib.Core.Path.{◌≡◌, ap, sym, ◌∙◌}
use lib.Dec.{eqb}
use lib.ListN.{get_or-eq_default, drop, get_or, length, take}
use borrow.Author.Tests.{eq-eqb, ne_eqb}
use Rattle.text.proofs.Lists.{tail_part}
use Rattle.text.specs.Runs.{run}
use Rattle.strings.specs.Pieces.{plain}
use Rattle.plain_strings.specs.inner.PlainStrings.{plain_string}

-- where no quote stands
pub not_quote : (s : List ℕ) → (get_or s 0 0 ≡ 0x22 → ⊥) → 0 ≡ plain_string s
unfolding plain_string
not_quote s other = sym (rw (ne_eqb (get_or s 0 0) 0x22 other))

-- where one stands, by the run behind it
module _ (s : List ℕ) (n : ℕ) (q : get_or s 0 0 ≡ 0x22) (e : n ≡ run plain (take (length s - 1) (drop 1 s))) where
  by_end : plain_string s ≡ cond (eqb (get_or s (1 + n) 0) 0x22) (1 + n + 1) 0
  unfolding plain_string
  by_end =
      let r : run plain (drop 1 s) ≡ n = sym (e ∙ ap (run plain) (tail_part s 1)) in
      let k : n + 1 ≡ 1 + n = omega arith in
      let l : n + 2 ≡ 1 + n + 1 = omega arith in
      rw (eq-eqb (get_or s 0 0) 0x22 q, r, k, l)

  pub not_closed : length s ≤ 1 + n → 0 ≡ plain_string s
  not_closed h = sym (by_end ∙ rw (get_or-eq_default s 0 {n = 1 + n} h))

  pub escaped : (get_or s (1 + n) 0 ≡ 0x22 → ⊥) → 0 ≡ plain_string s
  escaped other = sym (by_end ∙ rw (ne_eqb (get_or s (1 + n) 0) 0x22 other))

  pub closed : get_or s (1 + n) 0 ≡ 0x22 → 1 + n + 1 ≡ plain_string s
  closed c = sym (by_end ∙ rw (eq-eqb (get_or s (1 + n) 0) 0x22 c))
