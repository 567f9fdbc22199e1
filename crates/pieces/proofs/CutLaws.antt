-- Bytes of a character that has not come whole, behind others: they go on with no whitespace, so what has begun before them still begins there. Assumes nothing.
use Prim.Native.Nat.{◌<◌, ◌≤◌, ℕ}
use native.Mathlib.Omega.{arith}
use mathlib.Core.Bool.{true}
use mathlib.Core.List.{List, [], ◌++◌, ◌∷◌}
use mathlib.Core.Logic.{inl, inr}
use mathlib.Core.Path.{◌∙◌, ◌≡◌, ap, refl, subst, sym}
use lib.ListN.{drop, get_or, length, length-append, length-drop}
use lib.Seq.{drop-append-le}
use Rattle.text.proofs.Utf8Agree.{char_encode}
use Rattle.text.specs.Classes.{blank}
use Rattle.text.specs.Utf8.{Char, Scalar, encode}
use Rattle.text.specs.Utf8.Char.{utf8_1, utf8_2, utf8_3a, utf8_3b, utf8_3c, utf8_3d, utf8_4a, utf8_4b, utf8_4c}
use Rattle.comments.specs.Gaps.{gap_of}
use Rattle.comments.specs.declared.gap.Gap.TheVariants as gap
use Rattle.gapped.proofs.Exactly.{clear_exactly}
use Rattle.gapped.specs.Gap.{Clear, Gap}
use Rattle.settled.proofs.GapEnds.{gap_more}
use Rattle.octets.proofs.Exactly.{Lies, lies}
use Rattle.octets.specs.Octets.{Cut}
use Rattle.octets.specs.Octets.Begins.{begins}

-- ---- a character's bytes

data Tails : List ℕ → Type 0 where
  none : Tails []
  more : {b : ℕ} {s : List ℕ} → b ≤ 0xBF → Tails s → Tails (b ∷ s)

-- one byte, or one that no other byte of a character is, and such others
data Shape : List ℕ → Type 0 where
  one : {a : ℕ} → Shape (a ∷ [])
  wide : {a : ℕ} {s : List ℕ} → 0xC2 ≤ a → Tails s → Shape (a ∷ s)

two : (a b : ℕ) → 0xC2 ≤ a → b ≤ 0xBF → Shape (a ∷ b ∷ [])
two a b h k = wide h (more k none)

three : (a b c : ℕ) → 0xC2 ≤ a → b ≤ 0xBF → c ≤ 0xBF → Shape (a ∷ b ∷ c ∷ [])
three a b c h k m = wide h (more k (more m none))

four : (a b c d : ℕ) → 0xC2 ≤ a → b ≤ 0xBF → c ≤ 0xBF → d ≤ 0xBF → Shape (a ∷ b ∷ c ∷ d ∷ [])
four a b c d h k m n = wide h (more k (more m (more n none)))

shape : {l : List ℕ} → Char l → Shape l
shape (utf8_1 h) = one
shape (utf8_2 {a} {b} i h) = two a b (omega arith) (omega arith)
shape (utf8_3a {a} {b} {c} e h k) = three a b c (omega arith) (omega arith) (omega arith)
shape (utf8_3b {a} {b} {c} i h k) = three a b c (omega arith) (omega arith) (omega arith)
shape (utf8_3c {a} {b} {c} e h k) = three a b c (omega arith) (omega arith) (omega arith)
shape (utf8_3d {a} {b} {c} i h k) = three a b c (omega arith) (omega arith) (omega arith)
shape (utf8_4a {a} {b} {c} {d} e h k m) = four a b c d (omega arith) (omega arith) (omega arith) (omega arith)
shape (utf8_4b {a} {b} {c} {d} i h k m) = four a b c d (omega arith) (omega arith) (omega arith) (omega arith)
shape (utf8_4c {a} {b} {c} {d} e h k m) = four a b c d (omega arith) (omega arith) (omega arith) (omega arith)

tails_in : (t r : List ℕ) (b : ℕ) → Tails (t ++ b ∷ r) → b ≤ 0xBF
tails_in [] r b (more h k) = h
tails_in (x ∷ t) r b (more h k) = tails_in t r b k

-- a later byte of a character
shape_later : {l : List ℕ} → Shape l → (x : ℕ) (t r : List ℕ) (b : ℕ) → l ≡ x ∷ (t ++ b ∷ r) → b ≤ 0xBF
shape_later one x t r b e = absurd (omega (arith, ap length e, length-append t (b ∷ r)))
shape_later (wide {a} {s} h k) x t r b e = let z : s ≡ t ++ b ∷ r = cc in tails_in t r b (subst Tails z k)

-- the first byte of a character that has more of them
shape_first : {l : List ℕ} → Shape l → (a : ℕ) (s : List ℕ) → l ≡ a ∷ s → 0 < length s → 0xC2 ≤ a
shape_first one a s e h = absurd (omega (arith, ap length e))
shape_first (wide {a = b} {s = t} h k) a s e n = let z : b ≡ a = cc in omega arith

-- no front of a character begins with a later byte of another
cut_later : (p : List ℕ) (b : ℕ) (s : List ℕ) → Cut p → p ≡ b ∷ s → 0xC2 ≤ b
cut_later p b s (inl e) q = absurd (omega (arith, ap length e, ap length q))
cut_later p b s (inr (begins {a} {p = t} c r ch)) q =
    let z : a ≡ b = cc in
    let f = shape_first (shape ch) a (t ++ c ∷ r) refl (omega (arith, length-append t (c ∷ r))) in
    omega arith

-- ---- what has begun before such bytes

first_is : (t v : List ℕ) (a : ℕ) (u : List ℕ) → 0 < length t → t ++ v ≡ a ∷ u → (w : List ℕ) × (t ≡ a ∷ w)
first_is [] v a u h e = absurd (omega arith)
first_is (x ∷ w) v a u h e = (w, ap (λ (b : ℕ). b ∷ w) (ap (λ (s : List ℕ). get_or s 0 0) e))

module _ (t p : List ℕ) (some : 0 < length t) (c : Cut p) (clear : Clear t) where
  no_blank_there : (k : ℕ) (u : List ℕ) → Scalar k → blank k ≡ true → t ++ p ≡ encode k ++ u → ⊥
  no_blank_there k u sc b e = go (lies t p (encode k) u e)
    where
      past : (x : ℕ) (s r : List ℕ) (a : ℕ) → t ≡ x ∷ s → encode k ≡ t ++ a ∷ r → p ≡ a ∷ (r ++ u) → ⊥
      past x s r a h q w =
          let low = shape_later (shape (char_encode k sc)) x s r a (q ∙ ap (λ (z : List ℕ). z ++ a ∷ r) h) in
          let high = cut_later p a (r ++ u) c w in
          omega arith

      split : (z : List ℕ) → t ≡ z → (a : ℕ) (r : List ℕ) → encode k ≡ t ++ a ∷ r → p ≡ a ∷ (r ++ u) → ⊥
      split [] h a r q w = omega (arith, ap length h)
      split (x ∷ s) h a r q w = past x s r a h q w

      go : Lies t p (encode k) u → ⊥
      go (Lies.within r x y) = clear.no_blank k r sc b x
      go (Lies.past a r x y) = split t refl a r x y

  clear_cut : Clear (t ++ p)
  clear_cut = record {
    no_blank = no_blank_there;
    no_slash = λ u e. (let w = first_is t p 0x2f u some e in clear.no_slash w.0 w.1);
  }

pub gap_cut : (x p : List ℕ) (g : ℕ) → gap_of x ≡ gap.Clear g → g < length x → Cut p → gap_of (x ++ p) ≡ gap.Clear g
gap_cut x p g e h c =
    let w = (clear_exactly x g).0 e in
    let same : drop g x ++ p ≡ drop g (x ++ p) = sym (drop-append-le g x p (omega arith)) in
    (clear_exactly (x ++ p) g).1 (
      omega (arith, length-append x p),
      (subst (Gap (x ++ p)) same (gap_more p w.1.0), subst Clear same (clear_cut (drop g x) p (omega (arith, length-drop g x)) c w.1.1)),
    )
