-- A text at an index: the bytes in front, and a part up to the end. Assumes nothing.
use Prim.Native.Nat.{ℕ, ◌+◌, ◌-◌, ◌<◌}
use native.Mathlib.Nat.{le_refl, add-zero}
use native.Mathlib.Numerals.{add-one}
use native.Mathlib.Omega.{arith}
use mathlib.Core.Path.{◌≡◌, ap, sym, ◌∙◌}
use mathlib.Core.List.{List, ◌∷◌}
use lib.ListN.{length, get_or, take, drop, length-drop}
use lib.Seq.{drop-cons, take_all, get_or-drop}

-- the byte at i stands in front of the rest
pub front : (s : List ℕ) (i : ℕ) → i < length s → drop i s ≡ get_or s i 0 ∷ drop (i + 1) s
front s i h = rw (add-one i) (drop-cons s i 0 h)

-- and so does the one behind it
pub next : (s : List ℕ) (i : ℕ) → i + 1 < length s → drop (i + 1) s ≡ get_or s (i + 1) 0 ∷ drop (i + 2) s
next s i h =
    let two : i + 1 + 1 ≡ i + 2 = omega arith in
    front s (i + 1) h ∙ ap (λ (n : ℕ). get_or s (i + 1) 0 ∷ drop n s) two

pub front2 : (s : List ℕ) (i : ℕ) → i + 1 < length s → drop i s ≡ get_or s i 0 ∷ get_or s (i + 1) 0 ∷ drop (i + 2) s
front2 s i h = front s i (omega arith) ∙ ap (λ (t : List ℕ). get_or s i 0 ∷ t) (next s i h)

-- what `&s[i..]` is
pub tail_part : (s : List ℕ) (i : ℕ) → take (length s - i) (drop i s) ≡ drop i s
tail_part s i = take_all (length s - i) (drop i s) (rw (length-drop i s) (le_refl (length s - i)))

-- the first byte of the part from i, 0 at the end
pub head_at : (s : List ℕ) (i : ℕ) → get_or (drop i s) 0 0 ≡ get_or s i 0
head_at s i = get_or-drop i s 0 0 ∙ ap (λ (n : ℕ). get_or s n 0) (add-zero i)

-- what is said of a part up to the end is said of what stands there
pub on_part : {A : Type 0} (f : List ℕ → A) (s : List ℕ) (i : ℕ) (a b : A) → a ≡ f (take (length s - i) (drop i s)) → a ≡ b → f (drop i s) ≡ b
on_part f s i a b e h = ap f (sym (tail_part s i)) ∙ sym e ∙ h
