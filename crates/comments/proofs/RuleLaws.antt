-- Laws of the rule of nesting: which decision it is, from what the two bytes and the level are. Assumes nothing.
use Prim.Native.Nat.{ℕ}
use native.Mathlib.Omega.{arith}
use mathlib.Core.Bool.{Bool, cond, false, true, ◌&&◌}
use mathlib.Core.Path.{◌≡◌, subst}
use lib.Dec.{eqb}
use borrow.Author.Tests.{ne_eqb}
use Rattle.comments.specs.Blocks.{decision_of}
use Rattle.comments.specs.declared.block.Decision.TheVariants.{Open, CloseLast, CloseInner, PassOn}

module _ (a b level : ℕ) where
  pub opens : a ≡ 0x2f → b ≡ 0x2a → Open ≡ decision_of a b level
  opens ea eb = rw (ea, eb)

  pub closes_last : a ≡ 0x2a → b ≡ 0x2f → level ≡ 1 → CloseLast ≡ decision_of a b level
  closes_last ea eb el = rw (ea, eb, el)

  pub closes_inner : a ≡ 0x2a → b ≡ 0x2f → (level ≡ 1 → ⊥) → CloseInner ≡ decision_of a b level
  closes_inner ea eb nl = rw (ea, eb, ne_eqb level 1 nl)

  pub passes_slash : a ≡ 0x2f → (b ≡ 0x2a → ⊥) → PassOn ≡ decision_of a b level
  passes_slash ea nb = rw (ea, ne_eqb b 0x2a nb)

  pub passes_star : a ≡ 0x2a → (b ≡ 0x2f → ⊥) → PassOn ≡ decision_of a b level
  passes_star ea nb = rw (ea, ne_eqb b 0x2f nb)

  pub passes_other : (a ≡ 0x2f → ⊥) → (a ≡ 0x2a → ⊥) → PassOn ≡ decision_of a b level
  passes_other ns nt = rw (ne_eqb a 0x2f ns, ne_eqb a 0x2a nt)

-- where one comment alone is open, no inner one is closed
inner_left : (t u : Bool) → cond t Open (cond (u && true) CloseLast (cond u CloseInner PassOn)) ≡ CloseInner → ⊥
inner_left true u e = let z : ◌≡◌ {A = ℕ} 0 1 = cc in omega arith
inner_left false true e = let z : ◌≡◌ {A = ℕ} 0 1 = cc in omega arith
inner_left false false e = let z : ◌≡◌ {A = ℕ} 0 1 = cc in omega arith

pub not_last : (a b level : ℕ) → decision_of a b level ≡ CloseInner → level ≡ 1 → ⊥
not_last a b level e o =
    let f : decision_of a b 1 ≡ CloseInner = subst (λ (l : ℕ). decision_of a b l ≡ CloseInner) o e in
    inner_left (eqb a 0x2f && eqb b 0x2a) (eqb a 0x2a && eqb b 0x2f) f
