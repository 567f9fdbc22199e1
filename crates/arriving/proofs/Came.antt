-- What bytes give, whatever halts them.
--     given-front, given-read    their entries are a front of every reading that goes on with them
--     few_bytes                  no more of them are taken than come
--     stood                      where an arrival stands behind them
-- Assumes nothing.
use Prim.Native.Nat.{ℕ, suc, ◌+◌, ◌-◌, ◌≤◌}
use native.Mathlib.Omega.{arith}
use mathlib.Core.Bool.{Bool, true, false, cond}
use mathlib.Core.List.{List, [], ◌++◌, ◌∷◌, append_assoc, append-nil}
use mathlib.Core.Path.{◌≡◌, ap, refl, subst, sym, ◌∙◌}
use lib.ListN.{drop, length, length-append, length-drop}
use lib.Seq.{drop-append-le}
use Rattle.text.proofs.Choices.{bool_cases, either}
use Rattle.text.specs.Refusals.{placed_behind}
use Rattle.text.specs.declared.refusal.Refusal.{Refusal}
use Rattle.rows.specs.declared.Entry.{Entry}
use Rattle.reading.proofs.Entries.{▸-append}
use Rattle.reading.proofs.Stable.{ends_grow}
use Rattle.reading.proofs.Steps.{drop_on}
use Rattle.reading.specs.Readings.{Reading, end_of, read_part, ◌▸◌}
use Rattle.reading.specs.Tokens.{Answer}
use Rattle.reading.specs.Tokens.Answer.{refuse, stop, token}
use Rattle.arriving.proofs.Decides.{stays}
use Rattle.arriving.proofs.Timely.{ends_in}
use Rattle.arriving.proofs.Whole.{meant, taken_meant}
use Rattle.arriving.specs.Arrivals.{Coming, Given, Passing, behind, by_answer, by_passing, decided, left_at, looks, piece, step, taken}
use Rattle.arriving.specs.Arrivals.Coming.{going, halted, shut}
use Rattle.arriving.specs.Arrivals.Passing.{halt, pass}
use Rattle.arriving.specs.Owing.{Owes, Reader}

-- a reading begins with these entries
pub record Begins (r : Reading) (es : List Entry) : Type 0 where
  pub rest : Reading
  pub is : r ≡ es ▸ rest

module _ (R : Reader) (O : Owes R) (bar : ℕ → List ℕ → ℕ → Passing) where
  -- ---- entries

  -- a halted arrival gives nothing
  none_halted : (s : List ℕ) (d : Refusal) → (piece R bar (halted d) s).entries ≡ []
  unfolding piece
  none_halted [] d = refl
  none_halted (b ∷ s) d = none_halted s d

  -- the entries that bytes give are a front of the reading, whatever stands behind them
  pub given_front : (s v : List ℕ) (a : Coming) → Begins (meant R a (s ++ v)) (piece R bar a s).entries
  unfolding piece
  given_front [] v a = record { rest = meant R a v; is = refl }
  given_front (b ∷ s) v (shut d) = given_front s v (shut d)
  given_front (b ∷ s) v (halted d) = given_front s v (halted d)
  given_front (b ∷ s) v (going at rest) = go (bar at rest b) (given_front s v)
    where
      here : Given
      here = taken R at (rest ++ b ∷ []) b

      go : (p : Passing) → ((c : Coming) → Begins (meant R c (s ++ v)) (piece R bar c s).entries)
          → Begins (read_part R.tok at (rest ++ b ∷ (s ++ v))) ((by_passing p here).entries ++ (piece R bar (by_passing p here).next s).entries)
      go pass ih =
          let on = ih here.next in
          record {
            rest = on.rest;
            is = taken_meant R O bar at rest (s ++ v) b ∙ ap (λ (r : Reading). here.entries ▸ r) on.is
                ∙ sym (▸-append here.entries (piece R bar here.next s).entries on.rest);
          }
      go (halt d) ih = record {
        rest = read_part R.tok at (rest ++ b ∷ (s ++ v));
        is = ap (λ (es : List Entry). es ▸ read_part R.tok at (rest ++ b ∷ (s ++ v))) (sym (none_halted s d));
      }

  -- so of the reading of what had come and of them
  pub given_read : (w x : List ℕ) (at : ℕ) → Begins (read_part R.tok at (x ++ w)) (piece R bar (going at x) w).entries
  given_read w x at = subst (λ (v : List ℕ). Begins (read_part R.tok at (x ++ v)) (piece R bar (going at x) w).entries) (append-nil w) (given_front w [] (going at x))

  -- ---- bytes

  step_bytes : (a : Coming) (b : ℕ) → (step R bar a b).bytes ≤ 1
  step_bytes (shut d) b = omega arith
  step_bytes (halted d) b = omega arith
  step_bytes (going at rest) b = go (bar at rest b)
    where
      here : (t : Bool) (g h : Given) → g.bytes ≤ 1 → h.bytes ≤ 1 → (cond t g h).bytes ≤ 1
      here true g h p q = p
      here false g h p q = q

      go : (p : Passing) → (by_passing p (taken R at (rest ++ b ∷ []) b)).bytes ≤ 1
      go pass = here (looks R (rest ++ b ∷ []) b) (behind R at (rest ++ b ∷ []) (decided R at (rest ++ b ∷ []) b)) _ (omega arith) (omega arith)
      go (halt d) = omega arith

  -- no more bytes are taken than come
  pub few_bytes : (s : List ℕ) (a : Coming) → (piece R bar a s).bytes ≤ length s
  unfolding piece
  few_bytes [] a = omega arith
  few_bytes (b ∷ s) a = omega (arith, step_bytes a b, few_bytes s (step R bar a b).next)

  -- ---- standing

  -- where an arrival stands behind the bytes s, the first of which stands at a place: at one of them, and it keeps those from there on; or it is refused within them
  pub data Stood (from : ℕ) (s : List ℕ) : Coming → Type 0 where
    goes : (at : ℕ) → from ≤ at → at ≤ from + length s → Stood from s (going at (drop (at - from) s))
    shuts : (p : ℕ) (left : List ℕ) (d : Refusal) → R.tok left ≡ refuse d → p + length left ≤ from + length s → Stood from s (shut (placed_behind p d))
    halts : (p : ℕ) (rest : List ℕ) (b : ℕ) (d : Refusal) → bar p rest b ≡ halt d → p + length rest ≤ from + length s → Stood from s (halted d)

  module _ (from : ℕ) (s : List ℕ) (b : ℕ) where
    -- one byte more
    more_length : length (s ++ b ∷ []) ≡ suc (length s)
    more_length = omega (arith, length-append s (b ∷ []))

    module _ (at : ℕ) (low : from ≤ at) (high : at ≤ from + length s) where
      rest_more : drop (at - from) s ++ b ∷ [] ≡ drop (at - from) (s ++ b ∷ [])
      rest_more = sym (drop-append-le (at - from) s (b ∷ []) (omega arith))

      -- at a later byte
      further : (to : ℕ) → at ≤ to → to ≤ from + length (s ++ b ∷ []) → Stood from (s ++ b ∷ []) (going to (drop (to - at) (drop (at - from) s ++ b ∷ [])))
      further to lo hi =
          subst (λ (x : List ℕ). Stood from (s ++ b ∷ []) (going to x))
          (sym (ap (drop (to - at)) rest_more ∙ drop_on (at - from) (to - at) (to - from) (s ++ b ∷ []) (omega arith)))
          (goes to (omega arith) hi)

      left_stood : (to : ℕ) → at ≤ to → to ≤ from + length (s ++ b ∷ []) → Stood from (s ++ b ∷ []) (left_at R to (drop (to - at) (drop (at - from) s ++ b ∷ [])))
      unfolding left_at
      left_stood to lo hi =
          either (bool_cases (R.settles left)) (λ h. rw h (by (R.tok left) refl)) (λ h. rw h (further to lo hi))
        where
          left : List ℕ
          left = drop (to - at) (drop (at - from) s ++ b ∷ [])

          small : to + length left ≤ from + length (s ++ b ∷ [])
          small = omega (arith, length-drop (to - at) (drop (at - from) s ++ b ∷ []), length-append (drop (at - from) s) (b ∷ []), length-drop (at - from) s, more_length)

          by : (a : Answer) → R.tok left ≡ a → Stood from (s ++ b ∷ []) (by_answer a to left)
          by (token t) e = further to lo hi
          by stop e = further to lo hi
          by (refuse d) e = shuts to left d e small

      taken_stood : Stood from (s ++ b ∷ []) (taken R at (drop (at - from) s ++ b ∷ []) b).next
      taken_stood =
          let here : List ℕ = drop (at - from) s ++ b ∷ [] in
          let es : List Entry = decided R at here b in
          let r : Reading = read_part R.tok (end_of at es) (drop (end_of at es - at) here ++ []) in
          let e : read_part R.tok at here ≡ es ▸ r = stays R O at (drop (at - from) s) [] b in
          let lo : at ≤ end_of at es = ends_grow R.tok R.stops O.laws es at here r e in
          let hi : end_of at es ≤ at + length here = ends_in R O es at here r e in
          let len : at + length here ≡ from + length (s ++ b ∷ []) = omega (arith, length-append (drop (at - from) s) (b ∷ []), length-drop (at - from) s, more_length) in
          either (bool_cases (looks R here b))
          (λ t. rw t (left_stood (end_of at es) lo (omega arith)))
          (λ t. rw t (subst (λ (x : List ℕ). Stood from (s ++ b ∷ []) (going at x)) (sym rest_more) (goes at low (omega (arith, more_length)))))

      passing_stood : (p : Passing) → bar at (drop (at - from) s) b ≡ p → Stood from (s ++ b ∷ []) (by_passing p (taken R at (drop (at - from) s ++ b ∷ []) b)).next
      passing_stood pass e = taken_stood
      passing_stood (halt d) e = halts at (drop (at - from) s) b d e (omega (arith, length-drop (at - from) s, more_length))

    stood_step : {c : Coming} → Stood from s c → Stood from (s ++ b ∷ []) (step R bar c b).next
    stood_step (goes at lo hi) = passing_stood at lo hi (bar at (drop (at - from) s) b) refl
    stood_step (shuts p left d e l) = shuts p left d e (omega (arith, more_length))
    stood_step (halts p rest a d e l) = halts p rest a d e (omega (arith, more_length))

  pub stood : (w s : List ℕ) (from : ℕ) (c : Coming) → Stood from s c → Stood from (s ++ w) (piece R bar c w).next
  unfolding piece
  stood [] s from c h = subst (λ (x : List ℕ). Stood from x c) (sym (append-nil s)) h
  stood (b ∷ w) s from c h =
      subst (λ (x : List ℕ). Stood from x (piece R bar (step R bar c b).next w).next) (append_assoc s (b ∷ []) w)
      (stood w (s ++ b ∷ []) from (step R bar c b).next (stood_step from s b h))

  -- from where nothing was given yet
  pub stood_behind : (w s : List ℕ) (from : ℕ) → Stood from (s ++ w) (piece R bar (going from s) w).next
  stood_behind w s from =
      let z : from - from ≡ 0 = omega arith in
      stood w s from (going from s)
      (subst (λ (k : ℕ). Stood from s (going from (drop k s))) z (goes from (omega arith) (omega arith)))
