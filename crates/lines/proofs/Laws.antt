-- Laws of parts, of where a byte first stands, and of bytes over others. Assumes nothing.
use Prim.Native.Nat.{ℕ, zero, suc, ◌+◌, ◌-◌, ◌<◌, ◌≤◌, min}
use native.Mathlib.Nat.{not-suc-le-zero, le_of_suc-le-suc}
use native.Mathlib.Numerals.{add-one}
use native.Mathlib.Omega.{arith, min_cases}
use mathlib.Core.Path.{◌≡◌, refl, sym, ap, ◌∙◌}
use mathlib.Core.List.{List, [], ◌∷◌}
use lib.ListN.{length, get_or, take, drop, set, length-take, length-drop}
use lib.Seq.{take_all, take-nil, get_or-drop}
use borrow.Author.Tests.{ltb-false}
use lib.Dec.{eqb, ltb}
use Rattle.std.specs.List.{position, position_or_len}
use Rattle.std.specs.Option.{unwrap_or}
use Rattle.std.proofs.Common.{Option}
use Rattle.text.proofs.Choices.{bool_cases, either}
use Rattle.lines.specs.Find.{find_of}
use Rattle.lines.specs.Over.{over}
use Rattle.text.proofs.Lists.{front}

-- ---- a part

-- what stands from a place on says what stands there, and how long the list is
module _ (s : List ℕ) (i : ℕ) where
  pub drop_some : (v : ℕ) (r : List ℕ) → drop i s ≡ v ∷ r → (i < length s) × (get_or s i 0 ≡ v) × (drop (i + 1) s ≡ r)
  drop_some v r e =
      let n : length (drop i s) ≡ suc (length r) = ap length e in
      let h : i < length s = omega (arith, length-drop i s) in
      let f : get_or s i 0 ∷ drop (i + 1) s ≡ v ∷ r = sym (front s i h) ∙ e in
      (h, cc, cc)

  pub drop_none : i ≤ length s → drop i s ≡ [] → length s ≡ i
  drop_none h e = omega (arith, length-drop i s, ap length e)

-- an end behind the list's is the list's
pub part_within : (s : List ℕ) (a e m : ℕ) → m ≡ min e (length s) → take (m - a) (drop a s) ≡ take (e - a) (drop a s)
part_within s a e m h =
    min_cases e (length s) _ (λ p q. ap (λ (n : ℕ). take (n - a) (drop a s)) (h ∙ q))
    λ p q. take_all (m - a) (drop a s) (simp length-drop (omega arith)) ∙ sym (take_all (e - a) (drop a s) (simp length-drop (omega arith)))

-- ---- where a byte first stands

first_place : (b : ℕ) (s : List ℕ) → position_or_len (λ x. eqb x b) s ≡ find_of b s
unfolding find_of
first_place b [] = refl
first_place b (a ∷ s) = rw (first_place b s) (either (bool_cases (eqb a b)) (λ t. rw t refl) (λ f. rw f (omega arith)))

find_within : (b : ℕ) (s : List ℕ) → find_of b s ≤ length s
unfolding find_of
find_within b [] = omega arith
find_within b (a ∷ s) = either (bool_cases (eqb a b)) (λ t. rw t (omega arith)) (λ f. rw f (omega (arith, find_within b s)))

-- what `position` finds, or the length
pub find_position : (b : ℕ) (s : List ℕ) (o : Option ℕ) → o ≡ position (λ x. eqb x b) s → unwrap_or o (length s) ≡ find_of b s
find_position b s o e =
    let n : position_or_len (λ x. eqb x b) s ≡ find_of b s = first_place b s in
    ap (λ (o : Option ℕ). unwrap_or o (length s)) e ∙ rw n (either (bool_cases (ltb (find_of b s) (length s))) (λ t. rw t refl) (λ f. rw f (omega (arith, find_within b s, ltb-false _ _ f))))

-- ---- bytes over others

over_nil : (s : List ℕ) → over s [] ≡ []
unfolding over
over_nil [] = refl
over_nil (a ∷ s) = refl

-- what is put on top stands there
pub over_front : (s d : List ℕ) → length s ≤ length d → take (length s) (over s d) ≡ s
unfolding over
over_front [] d h = refl
over_front (a ∷ s) [] h = absurd (omega arith)
over_front (a ∷ s) (b ∷ d) h = ap (λ (t : List ℕ). a ∷ t) (over_front s d (omega arith))

-- nothing grows
pub over_length : (s d : List ℕ) → length (over s d) ≡ length d
unfolding over
over_length [] d = refl
over_length (a ∷ s) [] = refl
over_length (a ∷ s) (b ∷ d) = ap suc (over_length s d)

-- a list over itself
pub over_self : (s : List ℕ) → over s s ≡ s
unfolding over
over_self [] = refl
over_self (a ∷ s) = ap (λ (t : List ℕ). a ∷ t) (over_self s)

-- what stands at or behind the end of the bytes on top is as it was
pub over_behind : (s d : List ℕ) (k : ℕ) → length s ≤ k → get_or (over s d) k 0 ≡ get_or d k 0
unfolding over
over_behind [] d k h = refl
over_behind (a ∷ s) [] k h = refl
over_behind (a ∷ s) (b ∷ d) zero h = absurd (not-suc-le-zero h)
over_behind (a ∷ s) (b ∷ d) (suc k) h = over_behind s d k (le_of_suc-le-suc h)

over_next : (s d : List ℕ) (j : ℕ) → j < length s → set (over (take j s) d) j (get_or s j 0) ≡ over (take (suc j) s) d
unfolding over
over_next [] d j h = absurd (not-suc-le-zero h)
over_next (a ∷ s) [] zero h = refl
over_next (a ∷ s) [] (suc j) h = refl
over_next (a ∷ s) (b ∷ d) zero h = refl
over_next (a ∷ s) (b ∷ d) (suc j) h = ap (λ (r : List ℕ). a ∷ r) (over_next s d j (le_of_suc-le-suc h))

-- one more byte of s
pub over_more : (s d : List ℕ) (j : ℕ) → j < length s → set (over (take j s) d) j (get_or s j 0) ≡ over (take (j + 1) s) d
over_more s d j h = rw (add-one j) (over_next s d j h)

pub over_all : (s d : List ℕ) (j : ℕ) → length s ≡ j → over (take j s) d ≡ over s d
over_all s d j h = ap (λ (r : List ℕ). over r d) (take_all j s (omega arith))

-- bytes for which there is no room
pub over_full : (s d : List ℕ) (j : ℕ) → length d ≤ j → over (take j s) d ≡ over s d
unfolding over
over_full [] d j h = rw (take-nil j)
over_full (a ∷ s) [] j h = over_nil (take j (a ∷ s))
over_full (a ∷ s) (b ∷ d) zero h = absurd (not-suc-le-zero h)
over_full (a ∷ s) (b ∷ d) (suc j) h = ap (λ (r : List ℕ). a ∷ r) (over_full s d j (le_of_suc-le-suc h))

-- one more byte of d's own, from a place on
pub shift_more : (d : List ℕ) (from j : ℕ) → from + j < length d
    → set (over (take j (drop from d)) d) j (get_or (over (take j (drop from d)) d) (from + j) 0) ≡ over (take (j + 1) (drop from d)) d
shift_more d from j h =
    let n : j < length (drop from d) = simp length-drop (omega arith) in
    let m : length (take j (drop from d)) ≤ from + j = simp length-take (omega arith) in
    ap (λ (v : ℕ). set (over (take j (drop from d)) d) j v)
    (over_behind (take j (drop from d)) d (from + j) m ∙ sym (get_or-drop from d j 0))
    ∙ over_more (drop from d) d j n
