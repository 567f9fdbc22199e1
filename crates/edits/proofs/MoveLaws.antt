-- Bytes copied behind a text. Assumes nothing.
use Prim.Native.Nat.{ℕ, ◌+◌, ◌-◌, ◌≤◌}
use native.Mathlib.Nat.{not-suc-le-zero, le_of_suc-le-suc}
use native.Mathlib.Omega.{arith}
use mathlib.Core.List.{List, [], ◌∷◌, ◌++◌, append_assoc}
use mathlib.Core.Path.{◌≡◌, ap, refl, sym, subst, ◌∙◌}
use lib.ListN.{length, take, drop, length-append, length-drop, take-append-drop}
use lib.Seq.{paste, take_all, drop-drop, length-take-le, take-append-le, take-append_seam, drop-append-le, drop-append_seam}
use Rattle.lines.specs.Over.{over}
use Rattle.edits.specs.Repairs.{replaced, both_texts}

-- The bytes with n of them, from place i on, copied to place k.
abbrev pub moved : ℕ → ℕ → ℕ → List ℕ → List ℕ
moved n i k s = paste s k (drop i s) n

-- bytes of a text copied behind it, with the places by other names
moved_at : (n i m j : ℕ) (w z : List ℕ) → m ≡ n → j ≡ length w → i + n ≤ length w → moved m i j (w ++ z) ≡ (w ++ take n (drop i w)) ++ drop n z
moved_at n i m j w z e f h =
    ap (λ (x : ℕ). moved x i j (w ++ z)) e ∙ ap (λ (x : ℕ). moved n i x (w ++ z)) f
    ∙ ap (λ (l : List ℕ). (l ++ take n (drop i (w ++ z))) ++ drop (length w + n) (w ++ z)) (take-append_seam w z)
    ∙ ap (λ (l : List ℕ). (w ++ l) ++ drop (length w + n) (w ++ z))
    (ap (take n) (drop-append-le i w z (omega arith)) ∙ take-append-le n (drop i w) z (omega (arith, length-drop i w)))
    ∙ ap (λ (l : List ℕ). (w ++ take n (drop i w)) ++ l) (sym (drop-drop n (length w) (w ++ z)) ∙ ap (drop n) (drop-append_seam w z))

-- ---- texts over a room

-- where there is room for all
pub over_whole : (s d : List ℕ) → length s ≤ length d → over s d ≡ s ++ drop (length s) d
unfolding over
over_whole [] d h = refl
over_whole (a ∷ s) [] h = absurd (not-suc-le-zero h)
over_whole (a ∷ s) (b ∷ d) h = ap (λ (l : List ℕ). a ∷ l) (over_whole s d (le_of_suc-le-suc h))

-- what stands there already
over_prefix : (w s d : List ℕ) → over (w ++ s) (w ++ d) ≡ w ++ over s d
unfolding over
over_prefix [] s d = refl
over_prefix (a ∷ w) s d = ap (λ (l : List ℕ). a ∷ l) (over_prefix w s d)

-- ---- the text that an edit makes

module _ (old z bytes : List ℕ) (a b k : ℕ) (h : a ≤ b) (i : b ≤ length old) (e : bytes ≡ take k (drop a z)) (room : a + k + (length old - b) ≤ length z) where
  taken : length (take a old) ≡ a
  taken = length-take-le a old (omega arith)

  many : length bytes ≡ k
  many = ap length e ∙ length-take-le k (drop a z) (omega (arith, length-drop a z))

  one : length ((old ++ take a old) ++ bytes) ≡ length old + a + k
  one = omega (arith, length-append (old ++ take a old) bytes, length-append old (take a old), taken, many)

  front_there : (m : ℕ) → m ≡ a → moved m 0 (length old) (old ++ z) ≡ ((old ++ take a old) ++ bytes) ++ drop k (drop a z)
  front_there m f =
      moved_at a 0 m (length old) old z f refl (omega arith)
      ∙ ap (λ (l : List ℕ). (old ++ take a old) ++ l) (sym (take-append-drop k (drop a z)) ∙ ap (λ (l : List ℕ). l ++ drop k (drop a z)) (sym e))
      ∙ sym (append_assoc (old ++ take a old) bytes (drop k (drop a z)))

  rest_is : take (length old - b) (drop b ((old ++ take a old) ++ bytes)) ≡ drop b old
  rest_is =
      let d : length (drop b old) ≡ length old - b = length-drop b old in
      ap (λ (l : List ℕ). take (length old - b) (drop b l)) (append_assoc old (take a old) bytes)
      ∙ ap (take (length old - b)) (drop-append-le b old (take a old ++ bytes) i)
      ∙ take-append-le (length old - b) (drop b old) (take a old ++ bytes) (omega (arith, d)) ∙ take_all (length old - b) (drop b old) (omega (arith, d))

  rest_there : moved (length old - b) b (length old + a + k) (((old ++ take a old) ++ bytes) ++ drop k (drop a z))
      ≡ (((old ++ take a old) ++ bytes) ++ drop b old) ++ drop (length old - b) (drop k (drop a z))
  rest_there =
      moved_at (length old - b) b (length old - b) (length old + a + k) ((old ++ take a old) ++ bytes) (drop k (drop a z)) refl (sym one) (omega (arith, one))
      ∙ ap (λ (l : List ℕ). (((old ++ take a old) ++ bytes) ++ l) ++ drop (length old - b) (drop k (drop a z))) rest_is

  made_length : length (replaced a b bytes old) ≡ a + k + (length old - b)
  made_length = omega (arith, length-append (take a old ++ bytes) (drop b old), length-append (take a old) bytes, taken, many, length-drop b old)

  made_over : (((old ++ take a old) ++ bytes) ++ drop b old) ++ drop (length old - b) (drop k (drop a z)) ≡ over (both_texts a b bytes old) (old ++ z)
  made_over =
      ap (λ (l : List ℕ). (l ++ drop b old) ++ drop (length old - b) (drop k (drop a z))) (append_assoc old (take a old) bytes)
      ∙ ap (λ (l : List ℕ). l ++ drop (length old - b) (drop k (drop a z))) (append_assoc old (take a old ++ bytes) (drop b old))
      ∙ append_assoc old (replaced a b bytes old) (drop (length old - b) (drop k (drop a z)))
      ∙ ap (λ (l : List ℕ). old ++ (replaced a b bytes old ++ l))
      (ap (drop (length old - b)) (drop-drop k a z) ∙ drop-drop (length old - b) (a + k) z ∙ ap (λ (m : ℕ). drop m z) (sym made_length))
      ∙ ap (λ (l : List ℕ). old ++ l) (sym (over_whole (replaced a b bytes old) z (omega (arith, made_length))))
      ∙ sym (over_prefix old (replaced a b bytes old) z)

  pub made_by : moved (length old - b) b (length old + a + k) (moved (a - 0) 0 (length old) (old ++ z)) ≡ over (both_texts a b bytes old) (old ++ z)
  made_by = ap (moved (length old - b) b (length old + a + k)) (front_there (a - 0) (omega arith)) ∙ rest_there ∙ made_over

-- the first n bytes are the old text
module _ (s : List ℕ) (n k a b : ℕ) (h : a ≤ b) (i : b ≤ n) (room : n + a + k + (n - b) ≤ length s) where
  abbrev Made : ℕ → List ℕ → Type 0
  Made m t = moved (m - b) b (m + a + k) (moved (a - 0) 0 m t) ≡ over (both_texts a b (take k (drop (n + a) s)) (take n s)) t

  pub made : Made n s
  made =
      let p : length (take n s) ≡ n = length-take-le n s (omega arith) in
      let d : length (drop n s) ≡ length s - n = length-drop n s in
      let e : take k (drop (n + a) s) ≡ take k (drop a (drop n s)) = ap (take k) (sym (drop-drop a n s)) in
      subst (λ (m : ℕ). Made m s) p (subst (Made (length (take n s))) (take-append-drop n s)
      (made_by (take n s) (drop n s) (take k (drop (n + a) s)) a b k h (omega (arith, p)) e (omega (arith, p, d))))
