-- An accepted escape is decided by its own bytes: `closed` says that nothing behind them changes the answer. Assumes nothing.
use Prim.Native.Nat.{◌*◌, ◌+◌, ◌<◌, ◌≤◌, suc, zero, ℕ}
use native.Mathlib.Omega.{arith}
use mathlib.Core.Bool.{Bool, ◌&&◌, cond, false, true}
use mathlib.Core.List.{List, [], ◌++◌, ◌∷◌}
use mathlib.Core.Path.{◌∙◌, ◌≡◌, ap, refl, subst, sym}
use lib.Dec.{eqb, ltb}
use lib.Ieee.{low}
use lib.ListN.{length, drop, length-drop}
use lib.Seq.{drop-append-le}
use Rattle.escapes.proofs.Bounded.{Reaches, close_reach, digits_reach, next_reach, second_reach, two_reach, unicode_reach, Bounded, bounded, more_bytes_reach}
use Rattle.escapes.proofs.EscapeLaws.{next_ascii, two_ascii}
use Rattle.escapes.specs.Escapes.{close_of, digits_of, hex_of, next_byte, second_digit, two_digits, unicode_escape, with_byte, escape_of, hex_by, hex_escape, more_bytes, simple_of}
use Rattle.escapes.specs.declared.answers.EscapeAnswer.{EscapeAnswer}
use Rattle.escapes.specs.declared.answers.EscapeAnswer.TheVariants.{Ascii, Refused, Utf8}
use Rattle.escapes.specs.declared.answers.Mode.{Mode}
use Rattle.escapes.specs.declared.answers.Mode.TheVariants.{Bytes, Char, Str}
use Rattle.text.proofs.Choices.{cond_cases}
use Rattle.text.proofs.Stops.{on}
use Rattle.text.specs.Utf8.{char_len, code_of}

-- accepted, and taken from the first k bytes
abbrev pub Within : ℕ → EscapeAnswer → Type 0
Within k (Ascii b n) = n ≤ k
Within k (Utf8 c n) = n ≤ k
Within k (Refused r) = ⊥

-- no answer takes less than it must
never : (low at k : ℕ) (t : List ℕ) (a : EscapeAnswer) → Reaches low at t a → k < at + low → Within k a → ⊥
never low at k t (Ascii b p) h l w = omega arith
never low at k t (Utf8 c p) h l w = omega arith
never low at k t (Refused r) h l w = w

-- a test that does not see what changes
by_test : (k : ℕ) (t : Bool) (x y x' y' : EscapeAnswer) → (Within k x → x' ≡ x) → (Within k y → y' ≡ y) → Within k (cond t x y) → cond t x' y' ≡ cond t x y
by_test k true x y x' y' f g = f
by_test k false x y x' y' f g = g

second_closed : (h at k : ℕ) (u v v' : List ℕ) → k ≡ at + length u → Within k (second_digit h at (u ++ v)) → second_digit h at (u ++ v') ≡ second_digit h at (u ++ v)
unfolding second_digit
second_closed h at k [] v v' e w = absurd (never 1 at k v (second_digit h at v) (second_reach h at v) (omega arith) w)
second_closed h at k (b ∷ u) v v' e w =
    by_test k (eqb (hex_of b) 16) _ _ _ _ (λ n. absurd n) (λ n. refl) w

two_closed : (at k : ℕ) (u v v' : List ℕ) → k ≡ at + length u → Within k (two_digits at (u ++ v)) → two_digits at (u ++ v') ≡ two_digits at (u ++ v)
unfolding two_digits
two_closed at k [] v v' e w = absurd (never 2 at k v (two_digits at v) (two_reach at v) (omega arith) w)
two_closed at k (b ∷ u) v v' e w =
    by_test k (eqb (hex_of b) 16) _ _ _ _ (λ n. absurd n) (second_closed (hex_of b) (at + 1) k u v v' (omega arith)) w

close_closed : (empty : Bool) (c at k : ℕ) (u v v' : List ℕ) → k ≡ at + length u → Within k (close_of empty c at (u ++ v)) → close_of empty c at (u ++ v') ≡ close_of empty c at (u ++ v)
unfolding close_of
close_closed empty c at k [] v v' e w = absurd (never 1 at k v (close_of empty c at v) (close_reach empty c at v) (omega arith) w)
close_closed empty c at k (b ∷ u) v v' e w = refl

digits_closed : (left c at k : ℕ) (u v v' : List ℕ) → k ≡ at + length u → Within k (digits_of left c at (u ++ v)) → digits_of left c at (u ++ v') ≡ digits_of left c at (u ++ v)
unfolding digits_of
digits_closed zero c at k u v v' e w = close_closed false c at k u v v' e w
digits_closed (suc left) c at k [] v v' e w = absurd (never 1 at k v (digits_of (suc left) c at v) (digits_reach (suc left) c at v) (omega arith) w)
digits_closed (suc left) c at k (b ∷ u) v v' e w =
    by_test k (eqb b 0x7D) _ _ _ _ (close_closed (eqb (suc left) 6) c at k (b ∷ u) v v' e)
    (by_test k (eqb (hex_of b) 16) _ _ _ _ (λ n. absurd n) (digits_closed left (c * 16 + hex_of b) (at + 1) k u v v' (omega arith))) w

unicode_closed : (at k : ℕ) (u v v' : List ℕ) → k ≡ at + length u → Within k (unicode_escape at (u ++ v)) → unicode_escape at (u ++ v') ≡ unicode_escape at (u ++ v)
unfolding unicode_escape
unicode_closed at k [] v v' e w = absurd (never 2 at k v (unicode_escape at v) (unicode_reach at v) (omega arith) w)
unicode_closed at k (b ∷ u) v v' e w =
    by_test k (eqb b 0x7B) _ _ _ _ (digits_closed 6 0 (at + 1) k u v v' (omega arith)) (λ n. absurd n) w

next_closed : (at k : ℕ) (u v v' : List ℕ) → k ≡ at + length u → Within k (next_byte at (u ++ v)) → next_byte at (u ++ v') ≡ next_byte at (u ++ v)
unfolding next_byte
next_closed at k [] v v' e w = absurd (never 4 at k v (next_byte at v) (next_reach at v) (omega arith) w)
next_closed at k (a ∷ []) v v' e w = absurd (never 4 at k (a ∷ v) (next_byte at (a ∷ v)) (next_reach at (a ∷ v)) (omega arith) w)
next_closed at k (a ∷ b ∷ u) v v' e w =
    by_test k (eqb a 0x5C && eqb b 0x78) _ _ _ _ (two_closed (at + 2) k u v v' (omega arith)) (λ n. absurd n) w

-- ---- what follows a byte

-- an answer that goes on from a byte reaches at least as far
onward : (k : ℕ) (a : EscapeAnswer) (go : ℕ → ℕ → EscapeAnswer) → ((b p : ℕ) → Within k (go b p) → p ≤ k) → Within k (with_byte a go) → Within k a
onward k (Ascii b p) go f w = f b p w
onward k (Utf8 c p) go f w = w
onward k (Refused r) go f w = w

least : (low at k : ℕ) (t : List ℕ) (a : EscapeAnswer) → Reaches low at t a → Within k a → at ≤ k
least low at k t (Ascii b p) h w = omega arith
least low at k t (Utf8 c p) h w = omega arith
least low at k t (Refused r) h w = absurd w

-- one answer, and what follows it, both the same
follow : (k : ℕ) (a a' : EscapeAnswer) (go go' : ℕ → ℕ → EscapeAnswer) → (Within k (with_byte a go) → Within k a) → (Within k a → a' ≡ a)
    → ((b p : ℕ) → a ≡ Ascii b p → Within k (go b p) → go' b p ≡ go b p) → Within k (with_byte a go) → with_byte a' go' ≡ with_byte a go
follow k a a' go go' on same rest w = ap (λ (x : EscapeAnswer). with_byte x go') (same (on w)) ∙ last a rest w
  where
    last : (a : EscapeAnswer) → ((b p : ℕ) → a ≡ Ascii b p → Within k (go b p) → go' b p ≡ go b p) → Within k (with_byte a go) → with_byte a go' ≡ with_byte a go
    last (Ascii b p) rest w = rest b p refl w
    last (Utf8 c p) rest w = refl
    last (Refused r) rest w = refl

module _ (left : ℕ) (bs : List ℕ) where
  -- what one more byte comes to
  abbrev next : List ℕ → ℕ → ℕ → EscapeAnswer
  next t b p = cond (eqb (char_len (bs ++ b ∷ [])) 0) (more_bytes left (bs ++ b ∷ []) p (drop 4 t)) (Utf8 (code_of (bs ++ b ∷ [])) p)

  next_on : (k : ℕ) (t : List ℕ) (b p : ℕ) → Within k (next t b p) → p ≤ k
  next_on k t b p =
      cond_cases (λ (x : EscapeAnswer). Within k x → p ≤ k) (eqb (char_len (bs ++ b ∷ [])) 0) _ _
      (λ e w. least 4 p k (drop 4 t) (more_bytes left (bs ++ b ∷ []) p (drop 4 t)) (more_bytes_reach left (bs ++ b ∷ []) p (drop 4 t)) w)
      (λ e w. w)

more_closed : (left : ℕ) (bs : List ℕ) (at k : ℕ) (u v v' : List ℕ) → k ≡ at + length u → Within k (more_bytes left bs at (u ++ v)) → more_bytes left bs at (u ++ v') ≡ more_bytes left bs at (u ++ v)
unfolding more_bytes
more_closed zero bs at k u v v' e w = absurd w
more_closed (suc left) bs at k u v v' e w =
    follow k (next_byte at (u ++ v)) (next_byte at (u ++ v')) (next left bs (u ++ v)) (next left bs (u ++ v'))
    (onward k (next_byte at (u ++ v)) (next left bs (u ++ v)) (next_on left bs k (u ++ v)))
    (next_closed at k u v v' e)
    (λ b p q w.
    let l = next_on left bs k (u ++ v) b p w in
    let n = next_ascii at (u ++ v) b p (sym q) in
    let d : (x : List ℕ) → drop 4 (u ++ x) ≡ drop 4 u ++ x = λ x. drop-append-le 4 u x (omega arith) in
    let bs' = bs ++ b ∷ [] in
    by_test k (eqb (char_len bs') 0) _ _ _ _
    (λ w. ap (more_bytes left bs' p) (d v')
    ∙ more_closed left bs' p k (drop 4 u) v v' (omega (arith, length-drop 4 u)) (subst (λ (x : List ℕ). Within k (more_bytes left bs' p x)) (d v) w)
    ∙ sym (ap (more_bytes left bs' p) (d v)))
    (λ w. refl) w)
    w

hex_on : (m : Mode) (k : ℕ) (t : List ℕ) (b p : ℕ) → Within k (hex_by m t b p) → p ≤ k
hex_on Str k t b p =
    cond_cases (λ (x : EscapeAnswer). Within k x → p ≤ k) (ltb b 0x80) _ _ (λ e w. w)
    (λ e w. least 4 p k t (more_bytes 3 (b ∷ []) p t) (more_bytes_reach 3 (b ∷ []) p t) w)
hex_on Char k t b p = cond_cases (λ (x : EscapeAnswer). Within k x → p ≤ k) (ltb b 0x80) _ _ (λ e w. w) (λ e w. absurd w)
hex_on Bytes k t b p = λ w. w

hex_by_closed : (m : Mode) (b p k : ℕ) (u v v' : List ℕ) → k ≡ p + length u → Within k (hex_by m (u ++ v) b p) → hex_by m (u ++ v') b p ≡ hex_by m (u ++ v) b p
hex_by_closed Str b p k u v v' e w = by_test k (ltb b 0x80) _ _ _ _ (λ n. refl) (more_closed 3 (b ∷ []) p k u v v' e) w
hex_by_closed Char b p k u v v' e w = refl
hex_by_closed Bytes b p k u v v' e w = refl

hex_closed : (m : Mode) (at k : ℕ) (u v v' : List ℕ) → k ≡ at + length u → Within k (hex_escape m at (u ++ v)) → hex_escape m at (u ++ v') ≡ hex_escape m at (u ++ v)
unfolding hex_escape
hex_closed m at k u v v' e w =
    follow k (two_digits at (u ++ v)) (two_digits at (u ++ v')) (hex_by m (drop 2 (u ++ v))) (hex_by m (drop 2 (u ++ v')))
    (onward k (two_digits at (u ++ v)) (hex_by m (drop 2 (u ++ v))) (hex_on m k (drop 2 (u ++ v))))
    (two_closed at k u v v' e)
    (λ b p q w.
    let l = hex_on m k (drop 2 (u ++ v)) b p w in
    let n = two_ascii at (u ++ v) b p (sym q) in
    let d : (x : List ℕ) → drop 2 (u ++ x) ≡ drop 2 u ++ x = λ x. drop-append-le 2 u x (omega arith) in
    ap (λ (x : List ℕ). hex_by m x b p) (d v')
    ∙ hex_by_closed m b p k (drop 2 u) v v' (omega (arith, length-drop 2 u)) (subst (λ (x : List ℕ). Within k (hex_by m x b p)) (d v) w)
    ∙ sym (ap (λ (x : List ℕ). hex_by m x b p) (d v)))
    w

-- ---- an escape

pub positive : (k : ℕ) (t : List ℕ) (a : EscapeAnswer) → Bounded t a → Within k a → 0 < k
positive k t (Ascii b n) h w = omega arith
positive k t (Utf8 c n) h w = omega arith
positive k t (Refused r) h w = absurd w

pub closed : (m : Mode) (u v v' : List ℕ) → Within (length u) (escape_of m (u ++ v)) → escape_of m (u ++ v') ≡ escape_of m (u ++ v)
unfolding escape_of
closed m [] v v' w = absurd (omega (arith, positive 0 v (escape_of m v) (bounded m v) w))
closed m (b ∷ u) v v' w =
    by_test (suc (length u)) (ltb (simple_of b) 256) _ _ _ _ (λ n. refl)
    (by_test (suc (length u)) (eqb b 0x78) _ _ _ _ (hex_closed m 1 (suc (length u)) u v v' (omega arith))
    (by_test (suc (length u)) (eqb b 0x75) _ _ _ _ (unicode_closed 1 (suc (length u)) u v v' (omega arith)) (λ n. absurd n))) w
