-- Bytes put out one after another. Assumes nothing.
use Prim.Native.Nat.{ℕ, ◌+◌, ◌<◌, ◌≤◌}
use mathlib.Core.List.{List, [], ◌∷◌, ◌++◌}
use mathlib.Core.Path.{◌≡◌, refl, sym, ap, ◌∙◌}
use lib.ListN.{length, get_or, set, drop, drop_of_length-le}
use borrow.Author.Tests.{eq-eqb, ne_eqb, lt-ltb, le-ltb}
use Rattle.lines.specs.Out.{put, put_byte}
use Rattle.text.proofs.Lists.{front}

-- ---- one byte

module _ (o : List ℕ) (at b : ℕ) where
  pub put_in : at < length o → (set o at b, at + 1) ≡ put_byte (o, at) b
  unfolding put_byte
  put_in h = sym (rw (lt-ltb at (length o) h) refl)

  pub put_nowhere : length o ≤ at → length o ≡ 0 → (o, 0) ≡ put_byte (o, at) b
  unfolding put_byte
  put_nowhere h e = sym (rw (le-ltb at (length o) h, eq-eqb (length o) 0 e) refl)

  pub put_front : length o ≤ at → (length o ≡ 0 → ⊥) → (set o 0 b, 1) ≡ put_byte (o, at) b
  unfolding put_byte
  put_front h e = sym (rw (le-ltb at (length o) h, ne_eqb (length o) 0 e) refl)

-- ---- bytes

-- what is left of the bytes gives the whole
module _ (s : List ℕ) (i : ℕ) (whole out : List ℕ × ℕ) where
  pub put_on : i < length s → (next : List ℕ × ℕ) → next ≡ put_byte out (get_or s i 0) → put out (drop i s) ≡ whole → put next (drop (i + 1) s) ≡ whole
  unfolding put
  put_on h next e inv = ap (λ (x : List ℕ × ℕ). put x (drop (i + 1) s)) e ∙ sym (ap (put out) (front s i h)) ∙ inv

  pub put_ends : length s ≤ i → put out (drop i s) ≡ whole → out ≡ whole
  unfolding put
  put_ends h inv = sym (ap (put out) (drop_of_length-le s h)) ∙ inv

-- one byte
pub put-byte : (out : List ℕ × ℕ) (b : ℕ) → put out (b ∷ []) ≡ put_byte out b
unfolding put
put-byte out b = refl

-- bytes behind others
pub put_join : (out : List ℕ × ℕ) (s t : List ℕ) → put out (s ++ t) ≡ put (put out s) t
unfolding put
put_join out [] t = refl
put_join out (b ∷ s) t = put_join (put_byte out b) s t

-- bytes behind one
pub put_behind : (out mid end : List ℕ × ℕ) (b : ℕ) (t : List ℕ) → mid ≡ put_byte out b → end ≡ put mid t → end ≡ put out (b ∷ t)
unfolding put
put_behind out mid end b t e f = f ∙ ap (λ (x : List ℕ × ℕ). put x t) e

-- what is put behind something that was put
pub then : (out mid end : List ℕ × ℕ) (s t : List ℕ) → mid ≡ put out s → end ≡ put mid t → end ≡ put out (s ++ t)
then out mid end s t e f = f ∙ ap (λ (x : List ℕ × ℕ). put x t) e ∙ sym (put_join out s t)

-- the same under another name, or as one byte
module _ (out mid end : List ℕ × ℕ) (s : List ℕ) where
  pub then_as : (t u : List ℕ) → mid ≡ put out s → end ≡ put mid t → t ≡ u → end ≡ put out (s ++ u)
  then_as t u e f g = then out mid end s u e (f ∙ ap (put mid) g)

  pub then_byte : (b : ℕ) → mid ≡ put out s → end ≡ put_byte mid b → end ≡ put out (s ++ (b ∷ []))
  then_byte b e f = then out mid end s (b ∷ []) e (f ∙ sym (put-byte mid b))
