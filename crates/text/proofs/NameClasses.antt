-- The characters of a name are the crate's: `_` or XID_Start first, XID_Continue next, and `. + -` besides in a raw name, up to U+007F too. Assumes nothing.
use Prim.Native.Nat.{ℕ, zero, suc, ◌≤◌, ◌<◌}
use native.Mathlib.Nat.{eq-or-lt_of_le, le_of_suc-le-suc, not-suc-le-zero}
use native.Mathlib.Omega.{arith}
use mathlib.Core.Bool.{Bool, true, false, cond, true≢false, ◌&&◌, ◌||◌}
use mathlib.Core.List.{[], ◌∷◌}
use mathlib.Core.Path.{◌∙◌, ◌≡◌, ap, refl, subst, sym}
use lib.Dec.{eqb}
use borrow.Author.Tests.{le-ltb, ne_eqb}
use Rattle.text.proofs.Choices.{and_true, either, lt_or_le}
use Rattle.text.proofs.ClassLaws.{first_ascii, next_ascii, raw_ascii}
use Rattle.text.specs.Classes.{ascii_first, ascii_next, ascii_raw, digit, ident_first, ident_next, ident_raw, letter, one_of, within}
use Rattle.xid.proofs.AsciiLaws.{ascii-class}
use Rattle.xid.proofs.TableLaws.{continue_class, start_class}
use Rattle.xid.proofs.UsualLaws.{below_latin, usual_continue, usual_start}
use Rattle.xid.specs.Xid.{continues, starts, usual, xid_continue, xid_start}

-- ---- a test that passes at every number below n, computed

abbrev all_below : ℕ → (ℕ → Bool) → Bool
all_below zero p = true
all_below (suc n) p = p n && all_below n p

at_each : (n : ℕ) (p : ℕ → Bool) → all_below n p ≡ true → (c : ℕ) → c < n → p c ≡ true
at_each zero p h c l = absurd (not-suc-le-zero l)
at_each (suc n) p h c l =
    let both = and_true (p n) (all_below n p) h in
    either (eq-or-lt_of_le (le_of_suc-le-suc l)) (λ e. subst (λ (k : ℕ). p k ≡ true) (sym e) both.0) (λ m. at_each n p both.1 c m)

abbrev same : Bool → Bool → Bool
same true t = t
same false true = false
same false false = true

same_equal : (s t : Bool) → same s t ≡ true → s ≡ t
same_equal true t e = sym e
same_equal false true e = e
same_equal false false e = refl

-- ---- up to U+007F

-- the class by the table's four rows
abbrev ascii_class : ℕ → ℕ
ascii_class c = cond (within 0x30 0x39 c) 2 (cond (within 0x41 0x5a c) 3 (cond (within 0x5f 0x5f c) 2 (cond (within 0x61 0x7a c) 3 0)))

module _ (c : ℕ) (h : c < 0x80) where
  first_below : ident_first c ≡ (eqb c 0x5f || xid_start c)
  unfolding ascii_first letter within
  first_below =
      first_ascii c h
      ∙ same_equal _ _ (at_each 0x80 (λ (k : ℕ). same (ascii_first k) (eqb k 0x5f || starts (ascii_class k))) refl c h)
      ∙ ap (λ (t : Bool). eqb c 0x5f || t) (sym (start_class c ∙ ap starts (ascii-class c h)))

  next_below : ident_next c ≡ xid_continue c
  unfolding ascii_next letter digit within
  next_below =
      next_ascii c h
      ∙ same_equal _ _ (at_each 0x80 (λ (k : ℕ). same (ascii_next k) (continues (ascii_class k))) refl c h)
      ∙ sym (continue_class c ∙ ap continues (ascii-class c h))

  raw_below : ident_raw c ≡ (one_of (0x2e ∷ 0x2b ∷ 0x2d ∷ []) c || xid_continue c)
  unfolding ascii_raw
  raw_below = raw_ascii c h ∙ ap (λ (t : Bool). one_of (0x2e ∷ 0x2b ∷ 0x2d ∷ []) c || t) (sym (next_ascii c h) ∙ next_below)

-- ---- everywhere

pub ident-first : (c : ℕ) → ident_first c ≡ (eqb c 0x5f || xid_start c)
unfolding ident_first
ident-first c = either (lt_or_le c 0x80) (first_below c) (λ l. rw (le-ltb c 0x80 l, ne_eqb c 0x5f (λ e. omega arith)))

pub ident-next : (c : ℕ) → ident_next c ≡ xid_continue c
unfolding ident_next
ident-next c = either (lt_or_le c 0x80) (next_below c) (λ l. rw (le-ltb c 0x80 l))

pub ident-raw : (c : ℕ) → ident_raw c ≡ (one_of (0x2e ∷ 0x2b ∷ 0x2d ∷ []) c || xid_continue c)
unfolding ident_raw
ident-raw c =
    either (lt_or_le c 0x80) (raw_below c)
    (λ l. rw (le-ltb c 0x80 l, ne_eqb c 0x2e (λ e. omega arith), ne_eqb c 0x2b (λ e. omega arith), ne_eqb c 0x2d (λ e. omega arith)))

-- ---- a usual letter is of every class

usual_wide : (c : ℕ) → usual c ≡ true → 0x80 ≤ c
usual_wide c e = either (lt_or_le c 0xc0) (λ l. absurd (true≢false (sym e ∙ below_latin c l))) (λ l. omega arith)

pub usual_first : (c : ℕ) → usual c ≡ true → ident_first c ≡ true
unfolding ident_first
usual_first c e = rw (le-ltb c 0x80 (usual_wide c e)) (usual_start c e)

pub usual_next : (c : ℕ) → usual c ≡ true → ident_next c ≡ true
usual_next c e = ident-next c ∙ usual_continue c e

pub usual_raw : (c : ℕ) → usual c ≡ true → ident_raw c ≡ true
unfolding ident_raw
usual_raw c e = rw (le-ltb c 0x80 (usual_wide c e)) (usual_continue c e)
