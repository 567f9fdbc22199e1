-- The first stop byte at a place or behind it, and the last, as the loops ask for them. Assumes nothing.
use Prim.Native.Nat.{ℕ, suc, ◌+◌, ◌-◌, ◌<◌, ◌≤◌}
use native.Mathlib.Omega.{arith}
use mathlib.Core.Bool.{Bool, true, false, cond, not}
use mathlib.Core.List.{List, [], ◌++◌, ◌∷◌}
use mathlib.Core.Path.{◌≡◌, ap, refl, sym, ◌∙◌}
use lib.Dec.{ltb}
use lib.ListN.{drop, get_or, length, length-drop, take}
use lib.Seq.{drop-drop, drop-length, get_or-drop, length-take-le, split_at}
use borrow.Author.Tests.{lt-ltb, not-false, not-true}
use Rattle.text.proofs.Choices.{bool_cases, either}
use Rattle.text.proofs.Lists.{front}
use Rattle.text.proofs.RunLaws.{run_end, run_holds, run_le, run_more, run_out}
use Rattle.text.specs.Runs.{run}
use Rattle.reading.specs.Kept.{last_quiet}
use Rattle.settled.specs.Bytes.{stops_byte}
use Rattle.pieces.specs.inner.Waiting.{behind_last, next_stop}

-- no stop byte
abbrev pub plain_byte : ℕ → Bool
plain_byte c = not (stops_byte c)

-- ---- the first

run_stops : (p : ℕ → Bool) (s : List ℕ) → run p s < length s → p (get_or s (run p s) 0) ≡ false
unfolding run
run_stops p [] h = absurd (omega arith)
run_stops p (a ∷ s) h = go (p a) refl h (run_stops p s)
  where
    go : (t : Bool) → p a ≡ t → cond t (suc (run p s)) 0 < suc (length s) → (run p s < length s → p (get_or s (run p s) 0) ≡ false) → p (get_or (a ∷ s) (cond t (suc (run p s)) 0) 0) ≡ false
    go true e l f = f (omega arith)
    go false e l f = e

module _ (part : List ℕ) (from : ℕ) where
  pub next_bounds : from ≤ length part → (from ≤ next_stop part from) × (next_stop part from ≤ length part)
  unfolding next_stop
  next_bounds h = let l = run_le plain_byte (drop from part) in (omega arith, omega (arith, length-drop from part))

  pub next_here : (i : ℕ) → i < length part → i + run plain_byte (drop i part) ≡ from + run plain_byte (drop from part) → stops_byte (get_or part i 0) ≡ true → i ≡ next_stop part from
  unfolding next_stop
  next_here i l h e = let z : run plain_byte (drop i part) ≡ 0 = run_out plain_byte part i l (ap not e) in omega arith

  pub next_on : (i : ℕ) → i < length part → i + run plain_byte (drop i part) ≡ from + run plain_byte (drop from part) → stops_byte (get_or part i 0) ≡ false
      → i + 1 + run plain_byte (drop (i + 1) part) ≡ from + run plain_byte (drop from part)
  next_on i l h e = let z : run plain_byte (drop i part) ≡ 1 + run plain_byte (drop (i + 1) part) = run_more plain_byte part i l (ap not e) in omega arith

  pub next_none : (i : ℕ) → length part ≤ i → i + run plain_byte (drop i part) ≡ from + run plain_byte (drop from part) → i ≡ next_stop part from
  unfolding next_stop
  next_none i l h = let z : run plain_byte (drop i part) ≡ 0 = run_end plain_byte part i l in omega arith

  -- no byte before it stops, and it does
  pub next_plain : (i : ℕ) → from ≤ i → i < next_stop part from → stops_byte (get_or part i 0) ≡ false
  unfolding next_stop
  next_plain i l h =
      let z : from + (i - from) ≡ i = omega arith in
      let e : get_or (drop from part) (i - from) 0 ≡ get_or part i 0 = get_or-drop from part (i - from) 0 ∙ ap (λ (n : ℕ). get_or part n 0) z in
      ap stops_byte (sym e) ∙ not-true (stops_byte (get_or (drop from part) (i - from) 0)) (run_holds plain_byte (drop from part) (i - from) (omega arith))

  pub next_stops : next_stop part from < length part → stops_byte (get_or part (next_stop part from) 0) ≡ true
  unfolding next_stop
  next_stops h =
      let n = run plain_byte (drop from part) in
      ap stops_byte (sym (get_or-drop from part n 0)) ∙ not-false (stops_byte (get_or (drop from part) n 0)) (run_stops plain_byte (drop from part) (omega (arith, length-drop from part)))

-- ---- the last

last_at : (quiet : ℕ → Bool) (u v : List ℕ) (b : ℕ) → quiet b ≡ true → last_quiet quiet v ≡ 0 → last_quiet quiet (u ++ b ∷ v) ≡ suc (length u)
unfolding last_quiet
last_at quiet [] v b e z = rw (z, e)
last_at quiet (a ∷ u) v b e z = rw (last_at quiet u v b e z, lt-ltb 0 (suc (length u)) (omega arith))

pub last_le : (quiet : ℕ → Bool) (s : List ℕ) → last_quiet quiet s ≤ length s
unfolding last_quiet
last_le quiet [] = omega arith
last_le quiet (b ∷ s) =
    let h = last_le quiet s in
    either (bool_cases (ltb 0 (last_quiet quiet s))) (λ e. rw e (omega arith)) (λ e. either (bool_cases (quiet b)) (λ q. rw (e, q) (omega arith)) (λ q. rw (e, q) (omega arith)))

module _ (class : ℕ → Bool) (part : List ℕ) (from : ℕ) where
  pub behind_bounds : from ≤ length part → (from ≤ behind_last class part from) × (behind_last class part from ≤ length part)
  unfolding behind_last
  behind_bounds h = let l = last_le class (drop from part) in (omega arith, omega (arith, length-drop from part))

  -- none at the end
  pub last_end : last_quiet class (drop (length part) part) ≡ 0
  unfolding last_quiet
  last_end = let e : drop (length part) part ≡ [] = drop-length part in rw e

  module _ (i : ℕ) (less : from < i) (le : i ≤ length part) (none : last_quiet class (drop i part) ≡ 0) where
    pub last_here : class (get_or part (i - 1) 0) ≡ true → i ≡ behind_last class part from
    unfolding behind_last
    last_here e =
        let k = i - 1 - from in
        let s = drop from part in
        let l : k < length s = omega (arith, length-drop from part) in
        let j : from + k ≡ i - 1 = omega arith in
        let b : get_or s k 0 ≡ get_or part (i - 1) 0 = get_or-drop from part k 0 ∙ ap (λ (n : ℕ). get_or part n 0) j in
        let m : from + suc k ≡ i = omega arith in
        let r : drop (suc k) s ≡ drop i part = drop-drop (suc k) from part ∙ ap (λ (n : ℕ). drop n part) m in
        let z : last_quiet class s ≡ suc (length (take k s)) =
        ap (last_quiet class) (split_at s k 0 l) ∙ last_at class (take k s) (drop (suc k) s) (get_or s k 0) (ap class b ∙ e) (ap (last_quiet class) r ∙ none) in
        omega (arith, length-take-le k s (omega arith))

    pub last_on : class (get_or part (i - 1) 0) ≡ false → last_quiet class (drop (i - 1) part) ≡ 0
    unfolding last_quiet
    last_on e =
        let m : i - 1 + 1 ≡ i = omega arith in
        let r : drop (i - 1 + 1) part ≡ drop i part = ap (λ (n : ℕ). drop n part) m in
        rw (front part (i - 1) (omega arith), r, none, e)

  pub last_none : (i : ℕ) → i ≡ from → last_quiet class (drop i part) ≡ 0 → from ≡ behind_last class part from
  unfolding behind_last
  last_none i e none = let z : last_quiet class (drop from part) ≡ 0 = ap (λ (n : ℕ). last_quiet class (drop n part)) (sym e) ∙ none in omega arith
