-- Bytes that decide nothing are kept: those that nobody looks at, and those of a part whose first token ends behind them, or has not ended at all. Assumes nothing.
use Prim.Native.Nat.{ℕ, suc, ◌+◌, ◌-◌, ◌<◌, ◌≤◌}
use native.Mathlib.Nat.{sub_self}
use native.Mathlib.Omega.{arith}
use mathlib.Core.Bool.{Bool, true, false, cond}
use mathlib.Core.List.{List, [], ◌++◌, ◌∷◌, append_assoc, append-nil}
use mathlib.Core.Path.{◌≡◌, ap, ap₂, refl, subst, sym, ◌∙◌}
use lib.ListN.{drop, length, length-append}
use Rattle.text.proofs.Choices.{bool_cases, either}
use Rattle.text.specs.declared.refusal.Refusal.{Refusal}
use Rattle.rows.specs.declared.Entry.{Entry}
use Rattle.reading.proofs.Steps.{first, read_refuse, read_stop, not_broken, not_complete}
use Rattle.reading.specs.Readings.{Reading, end_of, read_part, ◌▸◌}
use Rattle.reading.specs.Readings.Reading.{broken, complete, entry}
use Rattle.reading.specs.Tokens.{Answer, Token, reach}
use Rattle.reading.specs.Tokens.Answer.{refuse, stop, token}
use Rattle.arriving.proofs.Decides.{stays}
use Rattle.arriving.specs.Arrivals.{Coming, Given, Passing, by_answer, by_passing, decided, left_at, looks, piece, step, taken}
use Rattle.arriving.specs.Arrivals.Coming.{going, halted, shut}
use Rattle.arriving.specs.Arrivals.Passing.{halt, pass}
use Rattle.arriving.specs.Owing.{Owes, Reader, tells_end}

-- an answer of a part that more bytes follow: its token ends behind the first n, or it says that the text has ended
pub data Waits (n : ℕ) : Answer → Type 0 where
  ends_later : (t : Token) → n < reach t → Waits n (token t)
  no_more : Waits n stop
  not_ended : (d : Refusal) → tells_end d ≡ true → Waits n (refuse d)

-- nothing given, all kept
abbrev pub keeping : ℕ → List ℕ → ℕ → Given
keeping at s n = record { entries = []; next = going at s; bytes = n }

module _ (R : Reader) (bar : ℕ → List ℕ → ℕ → Passing) where
  -- no byte of w is barred behind x
  abbrev pub Free : ℕ → List ℕ → List ℕ → Type 0
  Free at x w = (u : List ℕ) (b : ℕ) (z : List ℕ) → w ≡ u ++ b ∷ z → bar at (x ++ u) b ≡ pass

  pub free_first : (at : ℕ) (x w : List ℕ) (b : ℕ) → Free at x (b ∷ w) → bar at x b ≡ pass
  free_first at x w b f = ap (λ (s : List ℕ). bar at s b) (sym (append-nil x)) ∙ f [] b w refl

  pub free_rest : (at : ℕ) (x w : List ℕ) (b : ℕ) → Free at x (b ∷ w) → Free at (x ++ b ∷ []) w
  free_rest at x w b f u c z h = ap (λ (s : List ℕ). bar at s c) (append_assoc x (b ∷ []) u) ∙ f (b ∷ u) c z (ap {B = List ℕ} (λ (s : List ℕ). b ∷ s) h)

  -- a byte that is kept, and then others
  pub step_kept : (at : ℕ) (x w : List ℕ) (b : ℕ) → bar at x b ≡ pass → taken R at (x ++ b ∷ []) b ≡ keeping at (x ++ b ∷ []) 1
      → piece R bar (going at (x ++ b ∷ [])) w ≡ keeping at ((x ++ b ∷ []) ++ w) (length w) → piece R bar (going at x) (b ∷ w) ≡ keeping at (x ++ b ∷ w) (length (b ∷ w))
  unfolding piece
  step_kept at x w b p t h =
      let g : step R bar (going at x) b ≡ keeping at (x ++ b ∷ []) 1 = ap (λ (q : Passing). by_passing q (taken R at (x ++ b ∷ []) b)) p ∙ t in
      ap (λ (k : Given). record { entries = k.entries ++ (piece R bar k.next w).entries; next = (piece R bar k.next w).next; bytes = k.bytes + (piece R bar k.next w).bytes }) g
      ∙ ap (λ (k : Given). record { entries = k.entries; next = k.next; bytes = 1 + k.bytes }) h
      ∙ ap₂ (keeping at) (append_assoc x (b ∷ []) w) (omega arith)

  pub none_kept : (at : ℕ) (x : List ℕ) → piece R bar (going at x) [] ≡ keeping at (x ++ []) 0
  unfolding piece
  none_kept at x = ap (λ (s : List ℕ). keeping at s 0) (sym (append-nil x))

  -- bytes that nobody looks at
  abbrev pub Unlooked : List ℕ → List ℕ → Type 0
  Unlooked x w = (u : List ℕ) (b : ℕ) (z : List ℕ) → w ≡ u ++ b ∷ z → looks R (x ++ u ++ b ∷ []) b ≡ false

  pub unlooked : (w x : List ℕ) (at : ℕ) → Free at x w → Unlooked x w → piece R bar (going at x) w ≡ keeping at (x ++ w) (length w)
  unlooked [] x at f q = none_kept at x
  unlooked (b ∷ w) x at f q =
      let no : looks R (x ++ b ∷ []) b ≡ false = ap (λ (s : List ℕ). looks R (s ++ b ∷ []) b) (sym (append-nil x)) ∙ q [] b w refl in
      let on : Unlooked (x ++ b ∷ []) w =
      λ u c z h. ap (λ (s : List ℕ). looks R (s ++ c ∷ []) c) (append_assoc x (b ∷ []) u) ∙ q (b ∷ u) c z (ap {B = List ℕ} (λ (s : List ℕ). b ∷ s) h) in
      step_kept at x w b (free_first at x w b f) (rw no) (unlooked w (x ++ b ∷ []) at (free_rest at x w b f) on)

  -- ---- a part whose first token ends behind these bytes, or has not ended
  module _ (O : Owes R) where
    -- a first entry that ends by n is the answer's
    no_entry : (at n : ℕ) (s : List ℕ) (e : Entry) (r : Reading) → Waits n (R.tok s) → read_part R.tok at s ≡ entry e r → e.end ≤ at + n → ⊥
    no_entry at n s e r w h le =
        let f = first R.tok R.stops O.laws at s e r h in
        let p : e.end ≡ at + reach f.this = ap (λ (z : Entry). z.end) f.entry_is in
        go (subst (Waits n) f.answer w) p
      where
        go : {t : Token} → Waits n (token t) → e.end ≡ at + reach t → ⊥
        go (ends_later t far) p = omega arith

    -- nothing of it is decided
    none_yet : (at n : ℕ) (x v : List ℕ) (b : ℕ) → length x < n → Waits n (R.tok (x ++ b ∷ v)) → decided R at (x ++ b ∷ []) b ≡ []
    none_yet at n x v b l w = go (decided R at (x ++ b ∷ []) b) refl
      where
        go : (es : List Entry) → decided R at (x ++ b ∷ []) b ≡ es → es ≡ []
        go [] q = refl
        go (e ∷ es) q =
            let D : List Entry → Type 0 = λ ds. read_part R.tok at (x ++ b ∷ []) ≡ ds ▸ read_part R.tok (end_of at ds) (drop (end_of at ds - at) (x ++ b ∷ []) ++ []) in
            let here = subst D q (stays R O at x [] b) in
            let W : List Entry → Type 0 = λ ds. read_part R.tok at (x ++ b ∷ v) ≡ ds ▸ read_part R.tok (end_of at ds) (drop (end_of at ds - at) (x ++ b ∷ []) ++ v) in
            let there = subst W q (stays R O at x v b) in
            let rest : Reading = es ▸ read_part R.tok (end_of at (e ∷ es)) (drop (end_of at (e ∷ es) - at) (x ++ b ∷ []) ++ []) in
            let rest' : Reading = es ▸ read_part R.tok (end_of at (e ∷ es)) (drop (end_of at (e ∷ es) - at) (x ++ b ∷ []) ++ v) in
            let f = first R.tok R.stops O.laws at (x ++ b ∷ []) e rest here in
            let p : e.end ≡ at + reach f.this = ap (λ (z : Entry). z.end) f.entry_is in
            let fit = O.laws.inside (x ++ b ∷ []) f.this f.answer in
            absurd (no_entry at n (x ++ b ∷ v) e rest' w there (omega (arith, length-append x (b ∷ []))))

    -- nor is it refused for good
    not_spoilt : (at n : ℕ) (s v : List ℕ) → Waits n (R.tok (s ++ v)) → left_at R at s ≡ going at s
    unfolding left_at
    not_spoilt at n s v w = either (bool_cases (R.settles s)) (λ t. rw t (go (R.tok s) refl t)) (λ t. rw t)
      where
        clash : (d : Refusal) → R.settles s ≡ true → R.tok s ≡ refuse d → {a : Answer} → Waits n a → R.tok (s ++ v) ≡ a → ⊥
        clash d t q (ends_later u far) h = let z : token u ≡ refuse d = sym h ∙ O.settled s v d t q in let k : ◌≡◌ {A = ℕ} 0 1 = cc in omega arith
        clash d t q no_more h = let z : stop ≡ refuse d = sym h ∙ O.settled s v d t q in let k : ◌≡◌ {A = ℕ} 0 1 = cc in omega arith
        clash d t q (not_ended c is) h =
            let z : refuse c ≡ refuse d = sym h ∙ O.settled s v d t q in
            let e : c ≡ d = cc in
            let y : true ≡ false = sym is ∙ ap tells_end e ∙ O.open_end s d t q in
            let k : ◌≡◌ {A = ℕ} 0 1 = cc in omega arith

        go : (a : Answer) → R.tok s ≡ a → R.settles s ≡ true → by_answer a at s ≡ going at s
        go (token u) q t = refl
        go stop q t = refl
        go (refuse d) q t = absurd (clash d t q w refl)

    pub kept_byte : (at n : ℕ) (x v : List ℕ) (b : ℕ) → length x < n → Waits n (R.tok (x ++ b ∷ v)) → taken R at (x ++ b ∷ []) b ≡ keeping at (x ++ b ∷ []) 1
    unfolding end_of
    kept_byte at n x v b l w =
        let no : decided R at (x ++ b ∷ []) b ≡ [] = none_yet at n x v b l w in
        let on : left_at R at (x ++ b ∷ []) ≡ going at (x ++ b ∷ []) =
        not_spoilt at n (x ++ b ∷ []) v (subst (λ (s : List ℕ). Waits n (R.tok s)) (sym (append_assoc x (b ∷ []) v)) w) in
        either (bool_cases (looks R (x ++ b ∷ []) b))
        (λ t. rw (t, no, sub_self at) (ap (λ (c : Coming). record { entries = []; next = c; bytes = 1 }) on))
        (λ t. rw t)

    -- the bytes w behind x are kept where the first token of what they make with any v ends behind them, or says that the text has ended
    pub waits : (w x v : List ℕ) (at n : ℕ) → Free at x w → length (x ++ w) ≤ n → Waits n (R.tok (x ++ w ++ v)) → piece R bar (going at x) w ≡ keeping at (x ++ w) (length w)
    waits [] x v at n f l h = none_kept at x
    waits (b ∷ w) x v at n f l h =
        let le : length x + suc (length w) ≤ n = omega (arith, length-append x (b ∷ w)) in
        let split : x ++ (b ∷ w) ++ v ≡ x ++ b ∷ (w ++ v) = append_assoc x (b ∷ w) v in
        let again : x ++ (b ∷ w) ++ v ≡ (x ++ b ∷ []) ++ w ++ v = ap (λ (s : List ℕ). s ++ v) (sym (append_assoc x (b ∷ []) w)) in
        step_kept at x w b (free_first at x w b f) (kept_byte at n x (w ++ v) b (omega arith) (subst (λ (s : List ℕ). Waits n (R.tok s)) split h))
        (waits w (x ++ b ∷ []) v at n (free_rest at x w b f) (omega (arith, length-append (x ++ b ∷ []) w, length-append x (b ∷ []))) (subst (λ (s : List ℕ). Waits n (R.tok s)) again h))
