-- However a text is cut, what is given comes to one reading of it. Assumes nothing.
use Prim.Native.Nat.{◌+◌, ◌-◌, ℕ}
use native.Mathlib.Omega.{arith}
use mathlib.Core.Bool.{Bool, cond, false, true}
use mathlib.Core.List.{List, [], ◌++◌, ◌∷◌, append_assoc, append-nil}
use mathlib.Core.Path.{◌∙◌, ◌≡◌, ap, ap₂, refl, subst, sym}
use lib.ListN.{drop, length}
use Rattle.text.proofs.Choices.{bool_cases, either}
use Rattle.text.specs.Refusals.{placed_behind}
use Rattle.text.specs.declared.refusal.Refusal.{Refusal}
use Rattle.rows.specs.declared.Entry.{Entry}
use Rattle.reading.proofs.Entries.{▸-append}
use Rattle.reading.proofs.Steps.{read_refuse}
use Rattle.reading.specs.Readings.{Reading, end_of, read_part, ◌▸◌}
use Rattle.reading.specs.Readings.Reading.{broken, complete, entry}
use Rattle.reading.specs.Tokens.{Answer, Token}
use Rattle.reading.specs.Tokens.Answer.{refuse, stop, token}
use Rattle.arriving.proofs.Decides.{stays}
use Rattle.arriving.specs.Arrivals.{Coming, Given, Passing, arrived, behind, by_answer, by_passing, decided, ended, joined, left_at, looks, piece, pieces, step, taken}
use Rattle.arriving.specs.Arrivals.Coming.{going, halted, shut}
use Rattle.arriving.specs.Arrivals.Passing.{halt, pass}
use Rattle.arriving.specs.Owing.{Owes, Reader}

-- ---- cuts

-- what two pieces give together
abbrev pub both : Given → (Coming → Given) → Given
both g next = record { entries = g.entries ++ (next g.next).entries; next = (next g.next).next; bytes = g.bytes + (next g.next).bytes }

-- a byte in front of others
abbrev before : Given → Given → Given
before g h = record { entries = g.entries ++ h.entries; next = h.next; bytes = g.bytes + h.bytes }

module _ (R : Reader) (bar : ℕ → List ℕ → ℕ → Passing) where
  -- a piece is as good as two
  pub cut : (s t : List ℕ) (a : Coming) → piece R bar a (s ++ t) ≡ both (piece R bar a s) (λ b. piece R bar b t)
  unfolding piece
  cut [] t a =
      let h : Given = piece R bar a t in
      let n : h.bytes ≡ 0 + h.bytes = omega arith in
      ap (λ (k : ℕ). record { entries = h.entries; next = h.next; bytes = k }) n
  cut (b ∷ s) t a =
      let g = step R bar a b in
      let m : Given = piece R bar g.next s in
      let h : Given = piece R bar m.next t in
      ap (before g) (cut s t g.next)
      ∙ ap₂ (λ (es : List Entry) (n : ℕ). record { entries = es; next = h.next; bytes = n })
      (sym (append_assoc g.entries m.entries h.entries)) (omega arith)

  -- pieces give together what their text in one piece gives
  pub cuts : (ps : List (List ℕ)) (a : Coming) → pieces R bar a ps ≡ piece R bar a (joined ps)
  unfolding pieces joined piece
  cuts [] a = refl
  cuts (p ∷ ps) a =
      ap (before (piece R bar a p)) (cuts ps (piece R bar a p).next) ∙ sym (cut p (joined ps) a)

-- ---- one reading

-- no byte was refused before it was taken
abbrev pub Taken : Coming → Type 0
Taken (going at rest) = Unit {0}
Taken (shut d) = Unit {0}
Taken (halted d) = ⊥

-- the reading that an arrival stands for, with v still to come
abbrev pub meant : Reader → Coming → List ℕ → Reading
meant R (going at rest) v = read_part R.tok at (rest ++ v)
meant R (shut d) v = broken d
meant R (halted d) v = broken d

module _ (R : Reader) (O : Owes R) where
  -- what is left is refused so however it goes on, or it is kept
  left_meant : (at : ℕ) (left v : List ℕ) → read_part R.tok at (left ++ v) ≡ meant R (left_at R at left) v
  unfolding left_at
  left_meant at left v = either (bool_cases (R.settles left)) (λ h. rw h (go (R.tok left) refl h)) (λ h. rw h)
    where
      go : (a : Answer) → R.tok left ≡ a → R.settles left ≡ true → read_part R.tok at (left ++ v) ≡ meant R (by_answer a at left) v
      go (token t) e h = refl
      go stop e h = refl
      go (refuse d) e h = read_refuse R.tok R.stops O.laws at (left ++ v) d (O.settled left v d h e)

  module _ (bar : ℕ → List ℕ → ℕ → Passing) where
    -- a byte that is taken
    pub taken_meant : (at : ℕ) (rest v : List ℕ) (b : ℕ)
        → read_part R.tok at (rest ++ b ∷ v) ≡ (taken R at (rest ++ b ∷ []) b).entries ▸ meant R (taken R at (rest ++ b ∷ []) b).next v
    taken_meant at rest v b =
        let es : List Entry = decided R at (rest ++ b ∷ []) b in
        either (bool_cases (looks R (rest ++ b ∷ []) b))
        (λ t. rw t (stays R O at rest v b ∙ ap (λ (r : Reading). es ▸ r) (left_meant (end_of at es) (drop (end_of at es - at) (rest ++ b ∷ [])) v)))
        (λ t. rw t (ap (read_part R.tok at) (sym (append_assoc rest (b ∷ []) v))))

    -- a halted arrival stays so
    halted_stays : (s : List ℕ) (d : Refusal) → (piece R bar (halted d) s).next ≡ halted d
    unfolding piece
    halted_stays [] d = refl
    halted_stays (b ∷ s) d = halted_stays s d

    taken_before : (s : List ℕ) (a : Coming) → Taken (piece R bar a s).next → Taken a
    taken_before s (going at rest) h = tt
    taken_before s (shut d) h = tt
    taken_before s (halted d) h = subst Taken (halted_stays s d) h

    step_meant : (a : Coming) (b : ℕ) (s : List ℕ) → Taken (step R bar a b).next → meant R a (b ∷ s) ≡ (step R bar a b).entries ▸ meant R (step R bar a b).next s
    step_meant (shut d) b s h = refl
    step_meant (halted d) b s h = refl
    step_meant (going at rest) b s h = go (bar at rest b) h
      where
        go : (p : Passing) → Taken (by_passing p (taken R at (rest ++ b ∷ []) b)).next
            → read_part R.tok at (rest ++ b ∷ s) ≡ (by_passing p (taken R at (rest ++ b ∷ []) b)).entries ▸ meant R (by_passing p (taken R at (rest ++ b ∷ []) b)).next s
        go pass h = taken_meant at rest s b
        go (halt d) h = absurd h

    end_meant : (a : Coming) → meant R a [] ≡ ended R a
    end_meant (going at rest) = ap (read_part R.tok at) (append-nil rest)
    end_meant (shut d) = refl
    end_meant (halted d) = refl

    -- document 02: "However the text is cut, the entries (of a refused text, those before the refusal) and the last answer are those of one reading"
    pub one_reading : (s : List ℕ) (a : Coming) → Taken (piece R bar a s).next → arrived R bar a s ≡ meant R a s
    unfolding piece
    one_reading [] a h = sym (end_meant a)
    one_reading (b ∷ s) a h =
        let g = step R bar a b in
        ▸-append g.entries (piece R bar g.next s).entries (ended R (piece R bar g.next s).next)
        ∙ ap (λ (r : Reading). g.entries ▸ r) (one_reading s g.next h)
        ∙ sym (step_meant a b s (taken_before s g.next h))

    -- what was given is the front of every reading that goes on so, whatever halts it later: "the entries (of a refused text, those before the refusal)"
    pub front : (s v : List ℕ) (a : Coming) (at : ℕ) (rest : List ℕ) → (piece R bar a s).next ≡ going at rest
        → meant R a (s ++ v) ≡ (piece R bar a s).entries ▸ read_part R.tok at (rest ++ v)
    unfolding piece
    front [] v a at rest h = ap (λ (b : Coming). meant R b v) h
    front (b ∷ s) v a at rest h =
        let g = step R bar a b in
        step_meant a b (s ++ v) (taken_before s g.next (subst Taken (sym h) tt))
        ∙ ap (λ (r : Reading). g.entries ▸ r) (front s v g.next at rest h)
        ∙ sym (▸-append g.entries (piece R bar g.next s).entries (read_part R.tok at (rest ++ v)))
