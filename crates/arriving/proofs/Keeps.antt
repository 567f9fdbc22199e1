-- What is kept is what came behind the end of the last entry given. Assumes nothing.
use Prim.Native.Nat.{ℕ, suc, ◌+◌, ◌-◌, ◌<◌, ◌≤◌}
use native.Mathlib.Nat.{sub_self}
use native.Mathlib.Omega.{arith}
use mathlib.Core.Bool.{Bool, true, false, cond}
use mathlib.Core.Logic.{◌⊎◌, inl, inr}
use mathlib.Core.List.{List, [], ◌++◌, ◌∷◌, append_assoc, append-nil}
use mathlib.Core.Path.{◌≡◌, ap, ap₂, refl, subst, sym, ◌∙◌}
use lib.ListN.{drop, length, length-append, length-drop}
use lib.Seq.{drop-append-le}
use Rattle.text.proofs.Choices.{bool_cases, either}
use Rattle.text.specs.Refusals.{placed_behind}
use Rattle.text.specs.declared.refusal.Refusal.{Refusal}
use Rattle.rows.specs.declared.Entry.{Entry}
use Rattle.reading.proofs.Stable.{ends_grow}
use Rattle.reading.proofs.Steps.{drop_on}
use Rattle.reading.specs.Readings.{Reading, end_of, read_part, ◌▸◌}
use Rattle.reading.specs.Tokens.{Answer}
use Rattle.reading.specs.Tokens.Answer.{refuse, stop, token}
use Rattle.arriving.proofs.Decides.{stays}
use Rattle.arriving.proofs.Timely.{ends_in}
use Rattle.arriving.specs.Arrivals.{Coming, Given, Passing, behind, by_answer, by_passing, decided, left_at, looks, piece, step, taken}
use Rattle.arriving.specs.Arrivals.Coming.{going, halted, shut}
use Rattle.arriving.specs.Arrivals.Passing.{halt, pass}
use Rattle.arriving.specs.Owing.{Owes, Reader}

pub end_append : (es fs : List Entry) (at : ℕ) → end_of at (es ++ fs) ≡ end_of (end_of at es) fs
unfolding end_of
end_append [] fs at = refl
end_append (e ∷ es) fs at = end_append es fs e.end

-- an arrival is this one
abbrev Is : ℕ → List ℕ → Coming → Type 0
Is at rest (going at' r) = (at' ≡ at) × (r ≡ rest)
Is at rest (shut d) = ⊥
Is at rest (halted d) = ⊥

is : (at : ℕ) (rest : List ℕ) (c : Coming) → c ≡ going at rest → Is at rest c
is at rest c e = subst (Is at rest) (sym e) (refl, refl)

module _ (R : Reader) (bar : ℕ → List ℕ → ℕ → Passing) (O : Owes R) where
  halted_on : (s : List ℕ) (d : Refusal) → (piece R bar (halted d) s).next ≡ halted d
  unfolding piece
  halted_on [] d = refl
  halted_on (b ∷ s) d = halted_on s d

  shut_on : (s : List ℕ) (d : Refusal) → (piece R bar (shut d) s).next ≡ shut d
  unfolding piece
  shut_on [] d = refl
  shut_on (b ∷ s) d = shut_on s d

  -- what is kept behind the bytes w of an arrival, with entries that end at `at'`
  pub record Keeps (at : ℕ) (rest w : List ℕ) (es : List Entry) (at' : ℕ) (r : List ℕ) : Type 0 where
    pub ends : at' ≡ end_of at es
    pub left : r ≡ drop (at' - at) (rest ++ w)
    pub low : at ≤ at'
    pub high : at' ≤ at + length (rest ++ w)

  -- one byte, and what comes behind it
  on : (at : ℕ) (rest w : List ℕ) (b : ℕ) (es fs : List Entry) (to at' : ℕ) (r : List ℕ) → Keeps at rest (b ∷ []) es to (drop (to - at) (rest ++ b ∷ []))
      → Keeps to (drop (to - at) (rest ++ b ∷ [])) w fs at' r → Keeps at rest (b ∷ w) (es ++ fs) at' r
  on at rest w b es fs to at' r k h =
      let s : List ℕ = rest ++ b ∷ [] in
      let fit : to - at ≤ length s = omega (arith, k.high) in
      let all : drop (to - at) s ++ w ≡ drop (to - at) (rest ++ b ∷ w) = sym (drop-append-le (to - at) s w fit) ∙ ap (drop (to - at)) (append_assoc rest (b ∷ []) w) in
      let len : length (drop (to - at) s ++ w) ≡ length (rest ++ b ∷ w) - (to - at) = ap length all ∙ length-drop (to - at) (rest ++ b ∷ w) in
      let more : length s ≤ length (rest ++ b ∷ w) = omega (arith, length-append rest (b ∷ []), length-append rest (b ∷ w)) in
      record {
        ends = h.ends ∙ ap (λ (n : ℕ). end_of n fs) k.ends ∙ sym (end_append es fs at);
        left = h.left ∙ ap (drop (at' - to)) all ∙ drop_on (to - at) (at' - to) (at' - at) (rest ++ b ∷ w) (omega (arith, k.low, h.low));
        low = omega (arith, k.low, h.low);
        high = omega (arith, h.high, k.low, k.high, len, more);
      }

  -- the entries that a byte decides
  pub byte_keeps : (at : ℕ) (rest : List ℕ) (b : ℕ) → Keeps at rest (b ∷ []) (decided R at (rest ++ b ∷ []) b) (end_of at (decided R at (rest ++ b ∷ []) b))
      (drop (end_of at (decided R at (rest ++ b ∷ []) b) - at) (rest ++ b ∷ []))
  byte_keeps at rest b =
      let s : List ℕ = rest ++ b ∷ [] in
      let es : List Entry = decided R at s b in
      let r : Reading = read_part R.tok (end_of at es) (drop (end_of at es - at) s ++ []) in
      let here : read_part R.tok at s ≡ es ▸ r = stays R O at rest [] b in
      record { ends = refl; left = refl; low = ends_grow R.tok R.stops O.laws es at s r here; high = ends_in R O es at s r here }

  none_keeps : (at : ℕ) (rest : List ℕ) (b : ℕ) → Keeps at rest (b ∷ []) [] at (drop (at - at) (rest ++ b ∷ []))
  unfolding end_of
  none_keeps at rest b = record { ends = refl; left = refl; low = omega arith; high = omega arith }

  -- what is left goes on, or is refused
  left_is : (to : ℕ) (left : List ℕ) → (left_at R to left ≡ going to left) ⊎ ((d : Refusal) × (left_at R to left ≡ shut d))
  unfolding left_at
  left_is to left = either (bool_cases (R.settles left)) (λ t. rw t (go (R.tok left))) (λ t. rw t (inl refl))
    where
      go : (a : Answer) → (by_answer a to left ≡ going to left) ⊎ ((d : Refusal) × (by_answer a to left ≡ shut d))
      go (token t) = inl refl
      go stop = inl refl
      go (refuse d) = inr (placed_behind to d, refl)

  module _ (at : ℕ) (rest w : List ℕ) (b : ℕ) (at' : ℕ) (r : List ℕ)
      (ih : (to : ℕ) (left : List ℕ) → (piece R bar (going to left) w).next ≡ going at' r → Keeps to left w (piece R bar (going to left) w).entries at' r) where
    abbrev On : List Entry → Coming → Type 0
    On es c = (piece R bar c w).next ≡ going at' r → Keeps at rest (b ∷ w) (es ++ (piece R bar c w).entries) at' r

    goes : (es : List Entry) (to : ℕ) → Keeps at rest (b ∷ []) es to (drop (to - at) (rest ++ b ∷ [])) → On es (going to (drop (to - at) (rest ++ b ∷ [])))
    goes es to k h =
        on at rest w b es (piece R bar (going to (drop (to - at) (rest ++ b ∷ []))) w).entries to at' r k (ih to (drop (to - at) (rest ++ b ∷ [])) h)

    shuts : (es : List Entry) (d : Refusal) → On es (shut d)
    shuts es d h = absurd (is at' r (shut d) (sym (shut_on w d) ∙ h))

    halts : (es : List Entry) (d : Refusal) → On es (halted d)
    halts es d h = absurd (is at' r (halted d) (sym (halted_on w d) ∙ h))

    lefts : (es : List Entry) (to : ℕ) → Keeps at rest (b ∷ []) es to (drop (to - at) (rest ++ b ∷ [])) → On es (left_at R to (drop (to - at) (rest ++ b ∷ [])))
    lefts es to k = pick (left_is to (drop (to - at) (rest ++ b ∷ [])))
      where
        pick : (left_at R to (drop (to - at) (rest ++ b ∷ [])) ≡ going to (drop (to - at) (rest ++ b ∷ []))) ⊎ ((d : Refusal) × (left_at R to (drop (to - at) (rest ++ b ∷ [])) ≡ shut d))
            → On es (left_at R to (drop (to - at) (rest ++ b ∷ [])))
        pick (inl e) = subst (On es) (sym e) (goes es to k)
        pick (inr e) = subst (On es) (sym e.1) (shuts es e.0)

    takes : On (taken R at (rest ++ b ∷ []) b).entries (taken R at (rest ++ b ∷ []) b).next
    takes =
        either (bool_cases (looks R (rest ++ b ∷ []) b))
        (λ t. rw t (lefts (decided R at (rest ++ b ∷ []) b) (end_of at (decided R at (rest ++ b ∷ []) b)) (byte_keeps at rest b)))
        (λ t. rw t (subst (λ (s : List ℕ). On [] (going at s)) (ap (λ (n : ℕ). drop n (rest ++ b ∷ [])) (sub_self at)) (goes [] at (none_keeps at rest b))))

    steps : (p : Passing) → On (by_passing p (taken R at (rest ++ b ∷ []) b)).entries (by_passing p (taken R at (rest ++ b ∷ []) b)).next
    steps pass = takes
    steps (halt d) = halts [] d

  pub piece_keeps : (w : List ℕ) (at : ℕ) (rest : List ℕ) (at' : ℕ) (r : List ℕ) → (piece R bar (going at rest) w).next ≡ going at' r
      → Keeps at rest w (piece R bar (going at rest) w).entries at' r
  unfolding piece end_of
  piece_keeps [] at rest at' r h =
      let e = is at' r (going at rest) h in
      record {
        ends = sym e.0;
        left = sym e.1 ∙ sym (append-nil rest) ∙ ap (λ (n : ℕ). drop n (rest ++ [])) (sym (sub_self at) ∙ ap (λ (n : ℕ). n - at) e.0);
        low = omega (arith, e.0);
        high = omega (arith, e.0);
      }
  piece_keeps (b ∷ w) at rest at' r h = steps at rest w b at' r (λ to left. piece_keeps w to left at' r) (bar at rest b) h
