-- Laws of the character at the front: where it is of a class, and that an ASCII byte that is not of the class stops it, whatever list of bytes stands
-- around it. Assumes nothing.
use Prim.Native.Nat.{◌<◌, ◌≤◌, suc, ℕ}
use native.Mathlib.Omega.{arith}
use mathlib.Core.Bool.{Bool, true, cond, false}
use mathlib.Core.List.{List, [], ◌++◌, ◌∷◌}
use mathlib.Core.Path.{◌∙◌, ◌≡◌, ap, ap₂, refl, sym}
use lib.Dec.{ltb}
use lib.ListN.{get_or, length}
use Rattle.text.proofs.Choices.{cond_cases, cond_same, either, lt_or_le}
use Rattle.text.proofs.CharFronts.{code_ascii, code_first, len_same, len_short, no_second, no_third}
use Rattle.text.proofs.ClassLaws.{next_ascii}
use Rattle.text.proofs.Stops.{Reach, Stopped, on}
use Rattle.text.proofs.Utf8Agree.{char_len_le}
use Rattle.text.proofs.Utf8Laws.{char_len_ascii, char_len_nil}
use Rattle.text.specs.Ahead.{char_if, next_ahead}
use Rattle.text.specs.Classes.{ascii_next, ident_next}
use Rattle.text.specs.Utf8.{char_len, code_of, code_of4}

module _ (p : ℕ → Bool) where
  -- ---- the character at the front
  pub char_nil : (s : List ℕ) → length s ≡ 0 → char_if p s ≡ 0
  unfolding char_if
  char_nil s h = rw (char_len_nil s h) (cond_same (p (code_of s)) 0)

  pub char_ascii : (s : List ℕ) → 0 < length s → get_or s 0 0 < 0x80 → char_if p s ≡ cond (p (get_or s 0 0)) 1 0
  unfolding char_if
  char_ascii s h k = rw (code_ascii s k, char_len_ascii s h k)

  pub char_le : (s : List ℕ) → char_if p s ≤ length s
  unfolding char_if
  char_le s = cond_cases (λ (n : ℕ). n ≤ length s) (p (code_of s)) (char_len s) 0 (λ e. char_len_le s) (λ e. omega arith)

module _ (c : ℕ) (h : c < 0x80) where
  module _ (p : ℕ → Bool) (out : p c ≡ false) where
    -- ---- the character at the front
    pub char_here : (v : List ℕ) → char_if p (c ∷ v) ≡ 0
    char_here v = char_ascii p (c ∷ v) (omega arith) h ∙ ap (λ (t : Bool). cond t 1 0) out

    no_char : (s : List ℕ) → char_len s ≡ 0 → char_if p s ≡ 0
    unfolding char_if
    no_char s e = rw e (cond_same (p (code_of s)) 0)

    char_same : (u v v' : List ℕ) → char_if p (u ++ c ∷ v) ≡ char_if p (u ++ c ∷ v')
    unfolding char_if code_of
    char_same [] v v' = char_here v ∙ sym (char_here v')
    char_same (x ∷ []) v v' =
        either (lt_or_le x 0x80)
        (λ l. char_ascii p (x ∷ c ∷ v) (omega arith) l ∙ sym (char_ascii p (x ∷ c ∷ v') (omega arith) l))
        (λ l. no_char (x ∷ c ∷ v) (no_second c h x v l) ∙ sym (no_char (x ∷ c ∷ v') (no_second c h x v' l)))
    char_same (x ∷ y ∷ []) v v' =
        either (lt_or_le x 0xE0)
        (λ l. ap₂ (λ (k n : ℕ). cond (p k) n 0) (code_first x y c (get_or v 0 0) c (get_or v' 0 0) l) (len_same c h (x ∷ y ∷ []) v v'))
        (λ l. no_char (x ∷ y ∷ c ∷ v) (no_third c h x y v l) ∙ sym (no_char (x ∷ y ∷ c ∷ v') (no_third c h x y v' l)))
    char_same (x ∷ y ∷ z ∷ []) v v' = ap (λ (n : ℕ). cond (p (code_of4 x y z c)) n 0) (len_same c h (x ∷ y ∷ z ∷ []) v v')
    char_same (x ∷ y ∷ z ∷ w ∷ u) v v' = ap (λ (n : ℕ). cond (p (code_of4 x y z w)) n 0) (len_same c h (x ∷ y ∷ z ∷ w ∷ u) v v')

    char_short : (u v : List ℕ) → char_if p (u ++ c ∷ v) ≤ length u
    unfolding char_if
    char_short [] v = rw (char_here v) (omega arith)
    char_short (x ∷ u) v =
        let s : List ℕ = (x ∷ u) ++ c ∷ v in
        cond_cases (λ (n : ℕ). n ≤ suc (length u)) (p (code_of s)) (char_len s) 0 (λ e. len_short c h (x ∷ u) v (omega arith)) (λ e. omega arith)

    pub char_reach : Reach c (char_if p)
    char_reach = record { stopped = record { same = char_same }; short = char_short }

  -- ---- whether a name goes on
  pub ahead_stopped : ascii_next c ≡ false → Stopped c next_ahead
  unfolding next_ahead
  ahead_stopped out = on (λ (n : ℕ). ltb 0 n) (char_reach ident_next (next_ascii c h ∙ out)).stopped

pub ahead_nil : (s : List ℕ) → length s ≡ 0 → next_ahead s ≡ false
unfolding next_ahead
ahead_nil s h = rw (char_nil ident_next s h)

pub ahead_ascii : (s : List ℕ) → 0 < length s → get_or s 0 0 < 0x80 → next_ahead s ≡ ascii_next (get_or s 0 0)
unfolding next_ahead
ahead_ascii s h l = rw (char_ascii ident_next s h l, next_ascii (get_or s 0 0) l) (by (ascii_next (get_or s 0 0)))
  where
    by : (t : Bool) → ltb 0 (cond t 1 0) ≡ t
    by true = refl
    by false = refl
