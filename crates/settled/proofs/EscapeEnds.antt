-- A refused escape whose place lies before a stop byte stays refused, whatever stands behind that byte. Assumes nothing.
use Prim.Native.Nat.{◌+◌, ◌*◌, ◌<◌, ◌≤◌, suc, zero, ℕ}
use native.Mathlib.Omega.{arith}
use mathlib.Core.Bool.{Bool, ◌&&◌, cond, false, true}
use mathlib.Core.List.{List, [], ◌++◌, ◌∷◌}
use mathlib.Core.Path.{◌∙◌, ◌≡◌, ap, ap₂, refl, subst}
use lib.Dec.{eqb, ltb}
use lib.ListN.{drop, length}
use Rattle.escapes.specs.Escapes.{close_of, digits_of, escape_of, hex_by, hex_escape, hex_of, more_bytes, next_byte, second_digit, simple_of, two_digits, unicode_escape, with_byte}
use Rattle.escapes.specs.declared.answers.EscapeAnswer.{EscapeAnswer}
use Rattle.escapes.specs.declared.answers.EscapeAnswer.TheVariants.{Ascii, Refused, Utf8}
use Rattle.escapes.specs.declared.answers.Mode.{Mode}
use Rattle.escapes.specs.declared.answers.Mode.TheVariants.{Bytes, Char, Str}
use Rattle.text.proofs.CharFronts.{len_same}
use Rattle.text.proofs.Choices.{bool_cases, cond_cases, either}
use Rattle.text.specs.Refusals.{invalid_escape}
use Rattle.text.specs.declared.reason.EscapeReason.TheVariants.{DigitNotHex, MissingOpenBrace, NotByteEscaped, UnknownLetter}
use Rattle.text.specs.Utf8.{char_len, code_of, scalar}
use Rattle.text.specs.declared.refusal.Refusal.{Refusal}

-- a byte up to 0x7F that is no hex digit and none of `x`, `u` and `\`
pub record Plain (c : ℕ) : Type 0 where
  pub low : c < 0x80
  pub no_hex : eqb (hex_of c) 16 ≡ true
  pub no_x : eqb c 0x78 ≡ false
  pub no_u : eqb c 0x75 ≡ false
  pub no_slash : eqb c 0x5C ≡ false

module _ (c : ℕ) (o : Plain c) where
  len : (u v v' : List ℕ) → char_len (u ++ c ∷ v) ≡ char_len (u ++ c ∷ v')
  len = len_same c o.low

  -- ---- digits
  second : (h at : ℕ) (u v v' : List ℕ) → second_digit h at (u ++ c ∷ v) ≡ second_digit h at (u ++ c ∷ v')
  unfolding second_digit
  second h at [] v v' = rw o.no_hex (ap (λ (n : ℕ). Refused (invalid_escape DigitNotHex (at + n))) (len [] v v'))
  second h at (x ∷ u) v v' = ap (λ (n : ℕ). cond (eqb (hex_of x) 16) (Refused (invalid_escape DigitNotHex (at + n))) (Ascii (h * 16 + hex_of x) (at + 1))) (len (x ∷ u) v v')

  two : (at : ℕ) (u v v' : List ℕ) → two_digits at (u ++ c ∷ v) ≡ two_digits at (u ++ c ∷ v')
  unfolding two_digits
  two at [] v v' = rw o.no_hex (ap (λ (n : ℕ). Refused (invalid_escape DigitNotHex (at + n))) (len [] v v'))
  two at (x ∷ u) v v' =
      ap₂ (λ (n : ℕ) (a : EscapeAnswer). cond (eqb (hex_of x) 16) (Refused (invalid_escape DigitNotHex (at + n))) a) (len (x ∷ u) v v') (second (hex_of x) (at + 1) u v v')

  -- ---- `\u{}`
  close : (empty : Bool) (n at : ℕ) (u v v' : List ℕ) → close_of empty n at (u ++ c ∷ v) ≡ close_of empty n at (u ++ c ∷ v')
  unfolding close_of
  close empty n at [] v v' = refl
  close empty n at (x ∷ u) v v' = refl

  digits : (left n at : ℕ) (u v v' : List ℕ) → digits_of left n at (u ++ c ∷ v) ≡ digits_of left n at (u ++ c ∷ v')
  unfolding digits_of
  digits zero n at u v v' = close false n at u v v'
  digits (suc left) n at [] v v' =
      rw o.no_hex
      (ap₂ (λ (a : EscapeAnswer) (k : ℕ). cond (eqb c 0x7D) a (Refused (invalid_escape DigitNotHex (at + k)))) (close (eqb (suc left) 6) n at [] v v') (len [] v v'))
  digits (suc left) n at (x ∷ u) v v' =
      ap₂ (λ (a b : EscapeAnswer). cond (eqb x 0x7D) a b) (close (eqb (suc left) 6) n at (x ∷ u) v v')
      (ap₂ (λ (k : ℕ) (a : EscapeAnswer). cond (eqb (hex_of x) 16) (Refused (invalid_escape DigitNotHex (at + k))) a) (len (x ∷ u) v v') (digits left (n * 16 + hex_of x) (at + 1) u v v'))

  -- ---- `\x`
  next : (at : ℕ) (u v v' : List ℕ) → next_byte at (u ++ c ∷ v) ≡ next_byte at (u ++ c ∷ v')
  unfolding next_byte
  next at [] v v' = rw o.no_slash
  next at (x ∷ []) v v' = either (bool_cases (eqb x 0x5C)) (λ e. rw (e, o.no_x)) (λ e. rw e)
  next at (x ∷ y ∷ u) v v' = ap (λ (a : EscapeAnswer). cond (eqb x 0x5C && eqb y 0x78) a (Refused (invalid_escape NotByteEscaped at))) (two (at + 2) u v v')

  -- no byte is read across c
  abbrev NoByte : EscapeAnswer → Type 0
  NoByte (Ascii b n) = ⊥
  NoByte (Utf8 k n) = Unit {0}
  NoByte (Refused r) = Unit {0}

  with_none : (a : EscapeAnswer) (f g : ℕ → ℕ → EscapeAnswer) → NoByte a → with_byte a f ≡ with_byte a g
  with_none (Ascii b n) f g h = absurd h
  with_none (Utf8 k n) f g h = refl
  with_none (Refused r) f g h = refl

  two_none : (at : ℕ) (v : List ℕ) → NoByte (two_digits at (c ∷ v))
  unfolding two_digits
  two_none at v = rw o.no_hex tt

  two_one : (x at : ℕ) (v : List ℕ) → NoByte (two_digits at (x ∷ c ∷ v))
  unfolding two_digits second_digit
  two_one x at v = cond_cases NoByte (eqb (hex_of x) 16) _ _ (λ e. tt) (λ e. rw o.no_hex tt)

  next_short : (at : ℕ) (u v : List ℕ) → length u < 4 → NoByte (next_byte at (u ++ c ∷ v))
  unfolding next_byte
  next_short at [] v h = rw o.no_slash tt
  next_short at (x ∷ []) v h = either (bool_cases (eqb x 0x5C)) (λ e. rw (e, o.no_x) tt) (λ e. rw e tt)
  next_short at (x ∷ y ∷ []) v h = cond_cases NoByte (eqb x 0x5C && eqb y 0x78) _ _ (λ e. two_none (at + 2) v) (λ e. tt)
  next_short at (x ∷ y ∷ z ∷ []) v h = cond_cases NoByte (eqb x 0x5C && eqb y 0x78) _ _ (λ e. two_one z (at + 2) v) (λ e. tt)
  next_short at (x ∷ y ∷ z ∷ t ∷ u) v h = absurd (omega arith)

  -- what follows a byte, by the bytes so far
  abbrev follows : ℕ → List ℕ → List ℕ → ℕ → ℕ → EscapeAnswer
  follows left bs t b p = cond (eqb (char_len (bs ++ b ∷ [])) 0) (more_bytes left (bs ++ b ∷ []) p t) (Utf8 (code_of (bs ++ b ∷ [])) p)

  with_same : (a : EscapeAnswer) (f g : ℕ → ℕ → EscapeAnswer) → ((b p : ℕ) → f b p ≡ g b p) → with_byte a f ≡ with_byte a g
  with_same (Ascii b n) f g h = h b n
  with_same (Utf8 k n) f g h = refl
  with_same (Refused r) f g h = refl

  more_by : (left : ℕ) (bs : List ℕ) (at : ℕ) (u v v' : List ℕ) → ((cs : List ℕ) (p : ℕ) (w : List ℕ) → more_bytes left cs p (w ++ c ∷ v) ≡ more_bytes left cs p (w ++ c ∷ v'))
      → with_byte (next_byte at (u ++ c ∷ v')) (follows left bs (drop 4 (u ++ c ∷ v))) ≡ with_byte (next_byte at (u ++ c ∷ v')) (follows left bs (drop 4 (u ++ c ∷ v')))
  more_by left bs at [] v v' f = with_none (next_byte at (c ∷ v')) _ _ (next_short at [] v' (omega arith))
  more_by left bs at (x ∷ []) v v' f = with_none (next_byte at (x ∷ c ∷ v')) _ _ (next_short at (x ∷ []) v' (omega arith))
  more_by left bs at (x ∷ y ∷ []) v v' f = with_none (next_byte at (x ∷ y ∷ c ∷ v')) _ _ (next_short at (x ∷ y ∷ []) v' (omega arith))
  more_by left bs at (x ∷ y ∷ z ∷ []) v v' f = with_none (next_byte at (x ∷ y ∷ z ∷ c ∷ v')) _ _ (next_short at (x ∷ y ∷ z ∷ []) v' (omega arith))
  more_by left bs at (x ∷ y ∷ z ∷ t ∷ u) v v' f =
      with_same (next_byte at (x ∷ y ∷ z ∷ t ∷ u ++ c ∷ v')) (follows left bs (u ++ c ∷ v)) (follows left bs (u ++ c ∷ v'))
      (λ b p. ap (λ (a : EscapeAnswer). cond (eqb (char_len (bs ++ b ∷ [])) 0) a (Utf8 (code_of (bs ++ b ∷ [])) p)) (f (bs ++ b ∷ []) p u))

  more : (left : ℕ) (bs : List ℕ) (at : ℕ) (u v v' : List ℕ) → more_bytes left bs at (u ++ c ∷ v) ≡ more_bytes left bs at (u ++ c ∷ v')
  unfolding more_bytes
  more zero bs at u v v' = refl
  more (suc left) bs at u v v' =
      ap (λ (a : EscapeAnswer). with_byte a (follows left bs (drop 4 (u ++ c ∷ v)))) (next at u v v') ∙ more_by left bs at u v v' (λ cs p w. more left cs p w v v')

  by_mode : (m : Mode) (b p : ℕ) (u v v' : List ℕ) → hex_by m (u ++ c ∷ v) b p ≡ hex_by m (u ++ c ∷ v') b p
  by_mode Str b p u v v' = ap (λ (a : EscapeAnswer). cond (ltb b 0x80) (Utf8 b p) a) (more 3 (b ∷ []) p u v v')
  by_mode Char b p u v v' = refl
  by_mode Bytes b p u v v' = refl

  hex : (m : Mode) (at : ℕ) (u v v' : List ℕ) → hex_escape m at (u ++ c ∷ v) ≡ hex_escape m at (u ++ c ∷ v')
  unfolding hex_escape
  hex m at u v v' = ap (λ (a : EscapeAnswer). with_byte a (hex_by m (drop 2 (u ++ c ∷ v)))) (two at u v v') ∙ go u
    where
      go : (u : List ℕ) → with_byte (two_digits at (u ++ c ∷ v')) (hex_by m (drop 2 (u ++ c ∷ v))) ≡ with_byte (two_digits at (u ++ c ∷ v')) (hex_by m (drop 2 (u ++ c ∷ v')))
      go [] = with_none (two_digits at (c ∷ v')) _ _ (two_none at v')
      go (x ∷ []) = with_none (two_digits at (x ∷ c ∷ v')) _ _ (two_one x at v')
      go (x ∷ y ∷ u) = with_same (two_digits at (x ∷ y ∷ u ++ c ∷ v')) (hex_by m (u ++ c ∷ v)) (hex_by m (u ++ c ∷ v')) (λ b p. by_mode m b p u v v')

  -- ---- a refusal's place is not before where its digits begin
  abbrev From : ℕ → EscapeAnswer → Type 0
  From at (Ascii b n) = Unit {0}
  From at (Utf8 k n) = Unit {0}
  From at (Refused r) = at ≤ r.place

  from_more : (at : ℕ) (a : EscapeAnswer) → From (at + 1) a → From at a
  from_more at (Ascii b n) h = tt
  from_more at (Utf8 k n) h = tt
  from_more at (Refused r) h = omega arith

  close_from : (empty : Bool) (n at : ℕ) (t : List ℕ) → From at (close_of empty n at t)
  unfolding close_of
  close_from empty n at [] = cond_cases (From at) empty _ _ (λ e. omega arith) (λ e. omega arith)
  close_from empty n at (b ∷ t) =
      cond_cases (From at) empty _ _ (λ e. omega arith)
      (λ e. cond_cases (From at) (eqb b 0x7D) _ _ (λ f. cond_cases (From at) (scalar n) _ _ (λ g. tt) (λ g. omega arith)) (λ f. omega arith))

  digits_from : (left n at : ℕ) (t : List ℕ) → From at (digits_of left n at t)
  unfolding digits_of
  digits_from zero n at t = close_from false n at t
  digits_from (suc left) n at [] = omega arith
  digits_from (suc left) n at (b ∷ t) =
      cond_cases (From at) (eqb b 0x7D) _ _ (λ e. close_from (eqb (suc left) 6) n at (b ∷ t))
      (λ e. cond_cases (From at) (eqb (hex_of b) 16) _ _ (λ f. omega arith) (λ f. from_more at (digits_of left (n * 16 + hex_of b) (at + 1) t) (digits_from left (n * 16 + hex_of b) (at + 1) t)))

  -- ---- `\u`: only an opening brace that is c itself leads behind it
  unicode : (at : ℕ) (u v v' : List ℕ) (r : Refusal) → unicode_escape at (u ++ c ∷ v) ≡ Refused r → r.place ≤ at + length u → unicode_escape at (u ++ c ∷ v') ≡ Refused r
  unfolding unicode_escape
  unicode at [] v v' r h le =
      cond_cases (λ (a : EscapeAnswer). a ≡ Refused r → r.place ≤ at + 0 → cond (eqb c 0x7B) (digits_of 6 0 (at + 1) v') (Refused (invalid_escape MissingOpenBrace at)) ≡ Refused r) (eqb c 0x7B) _ _
      (λ e h le. absurd (omega (arith, le, subst (From (at + 1)) h (digits_from 6 0 (at + 1) v))))
      (λ e h le. rw e h) h le
  unicode at (x ∷ u) v v' r h le = ap (λ (a : EscapeAnswer). cond (eqb x 0x7B) a (Refused (invalid_escape MissingOpenBrace at))) (digits 6 0 (at + 1) u v' v) ∙ h

  -- ---- an escape
  pub escape_stays : (m : Mode) (u v v' : List ℕ) (r : Refusal) → escape_of m (u ++ c ∷ v) ≡ Refused r → r.place ≤ length u → escape_of m (u ++ c ∷ v') ≡ Refused r
  unfolding escape_of
  escape_stays m [] v v' r h le =
      rw (o.no_x, o.no_u, len [] v' v) (rw (o.no_x, o.no_u) at h)
  escape_stays m (x ∷ u) v v' r h le =
      go (ltb (simple_of x) 256) (eqb x 0x78) (eqb x 0x75) h
    where
      go : (s e f : Bool)
          → cond s (Ascii (simple_of x) 1) (cond e (hex_escape m 1 (u ++ c ∷ v)) (cond f (unicode_escape 1 (u ++ c ∷ v)) (Refused (invalid_escape UnknownLetter (char_len (x ∷ u ++ c ∷ v)))))) ≡ Refused r
          → cond s (Ascii (simple_of x) 1) (cond e (hex_escape m 1 (u ++ c ∷ v')) (cond f (unicode_escape 1 (u ++ c ∷ v')) (Refused (invalid_escape UnknownLetter (char_len (x ∷ u ++ c ∷ v')))))) ≡ Refused r
      go true e f h = h
      go false true f h = hex m 1 u v' v ∙ h
      go false false true h = unicode 1 u v v' r h (omega arith)
      go false false false h = ap (λ (n : ℕ). Refused (invalid_escape UnknownLetter n)) (len (x ∷ u) v' v) ∙ h
