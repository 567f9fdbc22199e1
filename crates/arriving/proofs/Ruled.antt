-- The rule of specs/Rule.antt, over a whole text: the last entry given is sealed by what has come, and none behind it is. Assumes nothing.
use Prim.Native.Nat.{◌+◌, ◌-◌, ◌<◌, ◌≤◌, suc, zero, ℕ}
use native.Mathlib.Nat.{sub_self, sub-zero}
use native.Mathlib.Omega.{arith}
use mathlib.Core.Bool.{Bool, ◌&&◌, ◌||◌, cond, false, true}
use mathlib.Core.List.{List, [], ◌++◌, ◌∷◌, append_assoc, append-nil}
use mathlib.Core.Path.{◌∙◌, ◌≡◌, ap, ap₂, refl, subst, sym}
use lib.Dec.{eqb}
use lib.ListN.{get_or-append, drop, get_or, length, length-append, length-drop}
use lib.Seq.{drop-append-le, get_or-drop}
use Rattle.text.proofs.Choices.{bool_cases, either, or_left, or_true}
use Rattle.text.specs.Refusals.{placed_behind}
use Rattle.text.specs.declared.refusal.Refusal.{Refusal}
use Rattle.rows.specs.declared.Entry.{Entry}
use Rattle.reading.proofs.Entries.{▸-append}
use Rattle.reading.proofs.Stable.{ends_grow}
use Rattle.reading.proofs.Steps.{drop_on}
use Rattle.reading.specs.Kept.{any_quiet}
use Rattle.reading.specs.Readings.{Reading, end_of, read_part, ◌▸◌}
use Rattle.reading.specs.Readings.Reading.{entry}
use Rattle.reading.specs.Tokens.{Answer}
use Rattle.reading.specs.Tokens.Answer.{refuse, stop, token}
use Rattle.arriving.proofs.Decides.{none_decided, stays}
use Rattle.arriving.proofs.Timely.{Unsealed, end_behind, ends_in, unsealed_step}
use Rattle.arriving.proofs.Whole.{front}
use Rattle.arriving.specs.Arrivals.{Coming, Passing, behind, by_answer, by_passing, decided, left_at, looks, piece, step, taken}
use Rattle.arriving.specs.Arrivals.Coming.{going, halted, shut}
use Rattle.arriving.specs.Arrivals.Passing.{halt, pass}
use Rattle.arriving.specs.Owing.{Owes, Reader}
use Rattle.arriving.specs.Rule.{sealed_in}

module _ (R : Reader) (O : Owes R) (bar : ℕ → List ℕ → ℕ → Passing) where
  -- ---- what is kept is the text from the end of the last entry given, and of what is not given none is sealed
  abbrev pub Holds : List ℕ → Coming → Type 0
  Holds text (going at rest) = (rest ≡ drop at text) × (at ≤ length text) × Unsealed R O at rest
  Holds text (shut d) = Unit {0}
  Holds text (halted d) = Unit {0}

  left_holds : (text : List ℕ) (at : ℕ) (left : List ℕ) → Holds text (going at left) → Holds text (left_at R at left)
  unfolding left_at
  left_holds text at left h = either (bool_cases (R.settles left)) (λ t. rw t (go (R.tok left))) (λ t. rw t h)
    where
      go : (a : Answer) → Holds text (by_answer a at left)
      go (token t) = h
      go stop = h
      go (refuse d) = tt

  behind_holds : (text : List ℕ) (at : ℕ) (rest : List ℕ) (b : ℕ) → Holds text (going at rest)
      → Holds (text ++ b ∷ []) (behind R at (rest ++ b ∷ []) (decided R at (rest ++ b ∷ []) b)).next
  behind_holds text at rest b h =
      let s : List ℕ = rest ++ b ∷ [] in
      let to : ℕ = end_of at (decided R at s b) in
      let here = stays R O at rest [] b in
      let low : at ≤ to = ends_grow R.tok R.stops O.laws (decided R at s b) at s (read_part R.tok to (drop (to - at) s ++ [])) here in
      let high : to ≤ at + length s = ends_in R O (decided R at s b) at s (read_part R.tok to (drop (to - at) s ++ [])) here in
      let lr : length rest ≡ length text - at = ap length h.0 ∙ length-drop at text in
      let whole : s ≡ drop at (text ++ b ∷ []) = ap (λ (w : List ℕ). w ++ b ∷ []) h.0 ∙ sym (drop-append-le at text (b ∷ []) h.1) in
      left_holds (text ++ b ∷ []) to (drop (to - at) s) (
        ap (drop (to - at)) whole ∙ drop_on at (to - at) to (text ++ b ∷ []) (omega arith),
        omega (arith, h.1, length-append rest (b ∷ []), length-append text (b ∷ [])),
        unsealed_step R O at rest b h.2,
      )

  -- a byte that is not looked at decides nothing
  kept_holds : (text : List ℕ) (at : ℕ) (rest : List ℕ) (b : ℕ) → looks R (rest ++ b ∷ []) b ≡ false → Holds text (going at rest) → Holds (text ++ b ∷ []) (going at (rest ++ b ∷ []))
  unfolding looks end_of
  kept_holds text at rest b t h =
      let s : List ℕ = rest ++ b ∷ [] in
      let none : decided R at s b ≡ [] = none_decided R O at s b (or_left (R.stops b) (R.once s) t) in
      let same : drop (end_of at (decided R at s b) - at) s ≡ s = rw none (ap (λ (k : ℕ). drop k s) (sub_self at)) in
      let to : end_of at (decided R at s b) ≡ at = rw none in
      let k = unsealed_step R O at rest b h.2 in (
        ap (λ (w : List ℕ). w ++ b ∷ []) h.0 ∙ sym (drop-append-le at text (b ∷ []) h.1),
        omega (arith, h.1, length-append text (b ∷ [])),
        subst (λ (w : List ℕ). Unsealed R O at w) same
            (subst (λ (n : ℕ). Unsealed R O n (drop (end_of at (decided R at s b) - at) s)) to k),
      )

  taken_holds : (text : List ℕ) (at : ℕ) (rest : List ℕ) (b : ℕ) → Holds text (going at rest) → Holds (text ++ b ∷ []) (taken R at (rest ++ b ∷ []) b).next
  taken_holds text at rest b h =
      either (bool_cases (looks R (rest ++ b ∷ []) b)) (λ t. rw t (behind_holds text at rest b h)) (λ t. rw t (kept_holds text at rest b t h))

  pub step_holds : (text : List ℕ) (a : Coming) (b : ℕ) → Holds text a → Holds (text ++ b ∷ []) (step R bar a b).next
  step_holds text (shut d) b h = tt
  step_holds text (halted d) b h = tt
  step_holds text (going at rest) b h = go (bar at rest b)
    where
      go : (p : Passing) → Holds (text ++ b ∷ []) (by_passing p (taken R at (rest ++ b ∷ []) b)).next
      go pass = taken_holds text at rest b h
      go (halt d) = tt

  pub piece_holds : (s text : List ℕ) (a : Coming) → Holds text a → Holds (text ++ s) (piece R bar a s).next
  unfolding piece
  piece_holds [] text a h = subst (λ (t : List ℕ). Holds t a) (sym (append-nil text)) h
  piece_holds (b ∷ s) text a h =
      subst (λ (t : List ℕ). Holds t (piece R bar (step R bar a b).next s).next) (append_assoc text (b ∷ []) s)
      (piece_holds s (text ++ b ∷ []) (step R bar a b).next (step_holds text a b h))

  -- the beginning
  pub begins : Holds [] (going 0 [])
  begins = (refl, omega arith, λ v es e r h le. absurd (omega (arith, end_behind R O es e 0 v r h)))

  -- ---- the same over the text's own places
  pub sealed_at : (text : List ℕ) (at : ℕ) (rest : List ℕ) (e : Entry) → rest ≡ drop at text → at < e.end → sealed_in R at rest e ≡ sealed_in R 0 text e
  unfolding sealed_in
  sealed_at text at rest e h p =
      let tail : drop (e.end - at) rest ≡ drop (e.end - 0) text = ap (drop (e.end - at)) h ∙ drop_on at (e.end - at) (e.end - 0) text (omega arith) in
      let byte : get_or rest (e.end - at - 1) 0 ≡ get_or text (e.end - 0 - 1) 0 =
      ap (λ (w : List ℕ). get_or w (e.end - at - 1) 0) h ∙ get_or-drop at text (e.end - at - 1) 0 ∙ ap (λ (i : ℕ). get_or text i 0) (omega arith) in
      rw (tail, byte)

  -- document 02: no entry whose end has come is sealed and not given
  pub rest_unsealed : (text v : List ℕ) (at : ℕ) (rest : List ℕ) → (piece R bar (going 0 []) text).next ≡ going at rest
      → (es : List Entry) (e : Entry) (r : Reading) → read_part R.tok 0 (text ++ v) ≡ ((piece R bar (going 0 []) text).entries ++ es) ▸ entry e r
      → e.end ≤ length text → sealed_in R 0 text e ≡ false
  rest_unsealed text v at rest state es e r h le =
      let k : Holds text (going at rest) = subst (Holds text) state (piece_holds text [] (going 0 []) begins) in
      let gs : List Entry = (piece R bar (going 0 []) text).entries in
      let f = front R O bar text v (going 0 []) at rest state in
      let on : gs ▸ read_part R.tok at (rest ++ v) ≡ gs ▸ (es ▸ entry e r) = sym f ∙ h ∙ ▸-append gs es (entry e r) in
      let mine : read_part R.tok at (rest ++ v) ≡ es ▸ entry e r = same gs (read_part R.tok at (rest ++ v)) (es ▸ entry e r) on in
      let lr : length rest ≡ length text - at = ap length k.0 ∙ length-drop at text in
      sym (sealed_at text at rest e k.0 (end_behind R O es e at (rest ++ v) r mine)) ∙ k.2 v es e r mine (omega (arith, k.1))
    where
      same : (gs : List Entry) (x y : Reading) → gs ▸ x ≡ gs ▸ y → x ≡ y
      same [] x y h = h
      same (g ∷ gs) x y h = let z : gs ▸ x ≡ gs ▸ y = cc in same gs x y z
