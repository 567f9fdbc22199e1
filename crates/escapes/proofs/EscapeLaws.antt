-- Laws of the definitions of specs/Escapes.antt, as the readers go by them. Assumes nothing.
use Prim.Native.Nat.{ℕ, zero, suc, ◌+◌, ◌-◌, ◌*◌, ◌^◌, ◌≤◌, ◌<◌}
use native.Mathlib.Omega.{arith}
use mathlib.Core.Bool.{true, false, ◌&&◌, cond}
use mathlib.Core.List.{List, [], ◌∷◌, ◌++◌}
use mathlib.Core.Path.{◌≡◌, refl, sym, ap, ◌∙◌}
use lib.Dec.{eqb, ltb}
use lib.ListN.{length, get_or, drop, set, replicate, length-set, length-append, length-replicate, length-drop, drop_of_length-le}
use lib.Seq.{drop-cons, drop-drop, set_at, append_snoc}
use borrow.Author.Tests.{eq-eqb, ne_eqb}
use Rattle.escapes.specs.Escapes.{close_of, digits_of, escape_of, hex_by, hex_escape, hex_of, more_bytes, next_byte, second_digit, simple_answer, simple_of, two_digits, unicode_escape}
use Rattle.escapes.specs.declared.answers.EscapeAnswer.{EscapeAnswer}
use Rattle.escapes.specs.declared.answers.EscapeAnswer.TheVariants.{Ascii, Refused, Utf8}
use Rattle.escapes.specs.declared.answers.Mode.{Mode}
use Rattle.std.specs.Prelude.{Some, None}
use Rattle.text.proofs.Choices.{and_false, bool_cases, cond_cases, either}
use Rattle.text.proofs.Lists.{front}
use Rattle.text.specs.Refusals.{eof, invalid_escape}
use Rattle.text.specs.Utf8.{char_len, code_of, scalar}
use Rattle.text.specs.declared.reason.EscapeReason.TheVariants.{DigitNotHex, MissingOpenBrace, NoClosingBrace, NoDigits, NotACharacter, NotByteEscaped, UnknownLetter}
use Rattle.text.specs.declared.refusal.Refusal.{Refusal}

-- ---- the end of `\u{...}`

pub close_end : (v at : ℕ) (t : List ℕ) → length t ≡ 0 → close_of false v at t ≡ Refused (invalid_escape NoClosingBrace at)
unfolding close_of
close_end v at [] h = refl
close_end v at (b ∷ t) h = absurd (omega arith)

pub close_empty : (v at : ℕ) (t : List ℕ) → close_of true v at t ≡ Refused (invalid_escape NoDigits at)
unfolding close_of
close_empty v at [] = refl
close_empty v at (b ∷ t) = refl

pub close_at : (v at : ℕ) (t : List ℕ) → 0 < length t
    → close_of false v at t
    ≡ cond (eqb (get_or t 0 0) 0x7D) (cond (scalar v) (Utf8 v (at + 1)) (Refused (invalid_escape NotACharacter (at + 1)))) (Refused (invalid_escape NoClosingBrace at))
unfolding close_of
close_at v at [] h = absurd (omega arith)
close_at v at (b ∷ t) h = refl

-- ---- the digits

pub digits_done : (v at : ℕ) (t : List ℕ) → digits_of 0 v at t ≡ close_of false v at t
unfolding digits_of
digits_done v at t = refl

pub digits_end : (left v at i : ℕ) (s : List ℕ) → 0 < left → length s ≤ i → digits_of left v at (drop i s) ≡ Refused (eof at)
unfolding digits_of
digits_end zero v at i s p h = absurd (omega arith)
digits_end (suc left) v at i s p h = rw (drop_of_length-le s h)

pub digits_brace : (left v at i : ℕ) (s : List ℕ) → 0 < left → i < length s → get_or s i 0 ≡ 0x7D → digits_of left v at (drop i s) ≡ close_of (eqb left 6) v at (drop i s)
unfolding digits_of
digits_brace zero v at i s p h e = absurd (omega arith)
digits_brace (suc left) v at i s p h e = rw (drop-cons s i 0 h) (simp (eq-eqb (get_or s i 0) 0x7D e))

pub digits_bad : (left v at i : ℕ) (s : List ℕ) → 0 < left → i < length s → (get_or s i 0 ≡ 0x7D → ⊥) → hex_of (get_or s i 0) ≡ 16 → digits_of left v at (drop i s) ≡ Refused (invalid_escape DigitNotHex (at + char_len (drop i s)))
unfolding digits_of
digits_bad zero v at i s p h n e = absurd (omega arith)
digits_bad (suc left) v at i s p h n e = rw (drop-cons s i 0 h) (simp (ne_eqb (get_or s i 0) 0x7D n, eq-eqb (hex_of (get_or s i 0)) 16 e))

digits_step : (left v at b : ℕ) (t : List ℕ) → (b ≡ 0x7D → ⊥) → (hex_of b ≡ 16 → ⊥) → digits_of (suc left) v at (b ∷ t) ≡ digits_of left (v * 16 + hex_of b) (at + 1) t
unfolding digits_of
digits_step left v at b t n e = simp (ne_eqb b 0x7D n, ne_eqb (hex_of b) 16 e)

pub digits_more : (left v at i : ℕ) (s : List ℕ) → 0 < left → i < length s → (get_or s i 0 ≡ 0x7D → ⊥) → (hex_of (get_or s i 0) ≡ 16 → ⊥) → digits_of left v at (drop i s) ≡ digits_of (left - 1) (v * 16 + hex_of (get_or s i 0)) (at + 1) (drop (i + 1) s)
digits_more zero v at i s p h n e = absurd (omega arith)
digits_more (suc left) v at i s p h n e =
    ap (digits_of (suc left) v at) (front s i h)
    ∙ digits_step left v at (get_or s i 0) (drop (i + 1) s) n e
    ∙ ap (λ (m : ℕ). digits_of m (v * 16 + hex_of (get_or s i 0)) (at + 1) (drop (i + 1) s)) (omega arith)

-- ---- and how large they come

pub room : ℕ → ℕ
room left = 16 ^ (6 - left)

pub room_start : 0 < room 6
unfolding room
room_start = omega arith

pub room_more : (left v h : ℕ) → 0 < left → left ≤ 6 → v < room left → h < 16 → v * 16 + h < room (left - 1)
unfolding room
room_more zero v h p l r k = absurd (omega arith)
room_more (suc zero) v h p l r k = omega arith
room_more (suc (suc zero)) v h p l r k = omega arith
room_more (suc (suc (suc zero))) v h p l r k = omega arith
room_more (suc (suc (suc (suc zero)))) v h p l r k = omega arith
room_more (suc (suc (suc (suc (suc zero))))) v h p l r k = omega arith
room_more (suc (suc (suc (suc (suc (suc zero)))))) v h p l r k = omega arith
room_more (suc (suc (suc (suc (suc (suc (suc left))))))) v h p l r k = absurd (omega arith)

pub room_fits : (left : ℕ) → left ≤ 6 → room left ≤ 16777216
unfolding room
room_fits zero h = omega arith
room_fits (suc zero) h = omega arith
room_fits (suc (suc zero)) h = omega arith
room_fits (suc (suc (suc zero))) h = omega arith
room_fits (suc (suc (suc (suc zero)))) h = omega arith
room_fits (suc (suc (suc (suc (suc zero))))) h = omega arith
room_fits (suc (suc (suc (suc (suc (suc zero)))))) h = omega arith
room_fits (suc (suc (suc (suc (suc (suc (suc left))))))) h = absurd (omega arith)

-- ---- the start

pub unicode_open : (at : ℕ) (s : List ℕ) → 0 < length s → get_or s 0 0 ≡ 0x7B → unicode_escape at s ≡ digits_of 6 0 (at + 1) (drop 1 s)
unfolding unicode_escape
unicode_open at [] h e = absurd (omega arith)
unicode_open at (b ∷ t) h e = simp (eq-eqb b 0x7B e)

pub unicode_end : (at : ℕ) (s : List ℕ) → length s ≡ 0 → unicode_escape at s ≡ Refused (invalid_escape MissingOpenBrace at)
unfolding unicode_escape
unicode_end at [] h = refl
unicode_end at (b ∷ t) h = absurd (omega arith)

pub unicode_other : (at : ℕ) (s : List ℕ) → 0 < length s → (get_or s 0 0 ≡ 0x7B → ⊥) → unicode_escape at s ≡ Refused (invalid_escape MissingOpenBrace at)
unfolding unicode_escape
unicode_other at [] h n = absurd (omega arith)
unicode_other at (b ∷ t) h n = simp (ne_eqb b 0x7B n)

-- ---- two hex digits

pub second_end : (h at : ℕ) (t : List ℕ) → length t ≡ 0 → second_digit h at t ≡ Refused (eof at)
unfolding second_digit
second_end h at [] e = refl
second_end h at (b ∷ t) e = absurd (omega arith)

pub second_at : (h at : ℕ) (t : List ℕ) → 0 < length t
    → second_digit h at t ≡ cond (eqb (hex_of (get_or t 0 0)) 16) (Refused (invalid_escape DigitNotHex (at + char_len t))) (Ascii (h * 16 + hex_of (get_or t 0 0)) (at + 1))
unfolding second_digit
second_at h at [] e = absurd (omega arith)
second_at h at (b ∷ t) e = refl

pub two_end : (at : ℕ) (t : List ℕ) → length t ≡ 0 → two_digits at t ≡ Refused (eof at)
unfolding two_digits
two_end at [] e = refl
two_end at (b ∷ t) e = absurd (omega arith)

pub two_at : (at : ℕ) (t : List ℕ) → 0 < length t
    → two_digits at t ≡ cond (eqb (hex_of (get_or t 0 0)) 16) (Refused (invalid_escape DigitNotHex (at + char_len t))) (second_digit (hex_of (get_or t 0 0)) (at + 1) (drop 1 t))
unfolding two_digits
two_at at [] e = absurd (omega arith)
two_at at (b ∷ t) e = refl

-- fewer than two bytes: the one that is missing counts as 0
pub next_short : (at : ℕ) (t : List ℕ) → length t < 2 → next_byte at t ≡ Refused (invalid_escape NotByteEscaped at)
unfolding next_byte
next_short at [] h = refl
next_short at (b ∷ []) h = simp and_false
next_short at (b ∷ c ∷ t) h = absurd (omega arith)

-- ---- a byte that was read: where it ends, and what was there

second_ascii : (h at : ℕ) (t : List ℕ) (b p : ℕ) → Ascii b p ≡ second_digit h at t → (p ≡ at + 1) × (1 ≤ length t)
unfolding second_digit
second_ascii h at [] b p e = let z : ◌≡◌ {A = ℕ} 0 1 = cc in absurd (omega arith)
second_ascii h at (x ∷ t) b p e0 =
    cond_cases (λ (a : EscapeAnswer). Ascii b p ≡ a → (p ≡ at + 1) × (1 ≤ suc (length t))) (eqb (hex_of x) 16) _ _
    (λ i e. let z : ◌≡◌ {A = ℕ} 0 1 = cc in absurd (omega arith)) (λ i e. let z : p ≡ at + 1 = cc in (z, omega arith)) e0

pub two_ascii : (at : ℕ) (t : List ℕ) (b p : ℕ) → Ascii b p ≡ two_digits at t → (p ≡ at + 2) × (2 ≤ length t)
unfolding two_digits
two_ascii at [] b p e = let z : ◌≡◌ {A = ℕ} 0 1 = cc in absurd (omega arith)
two_ascii at (x ∷ t) b p e0 =
    cond_cases (λ (a : EscapeAnswer). Ascii b p ≡ a → (p ≡ at + 2) × (2 ≤ suc (length t))) (eqb (hex_of x) 16) _ _
    (λ i e. let z : ◌≡◌ {A = ℕ} 0 1 = cc in absurd (omega arith)) (λ i e. let l = second_ascii (hex_of x) (at + 1) t b p e in (omega arith, omega arith)) e0

pub next_ascii : (at : ℕ) (t : List ℕ) (b p : ℕ) → Ascii b p ≡ next_byte at t → (p ≡ at + 4) × (4 ≤ length t)
unfolding next_byte
next_ascii at t b p =
    cond_cases (λ (a : EscapeAnswer). Ascii b p ≡ a → (p ≡ at + 4) × (4 ≤ length t)) (eqb (get_or t 0 0) 0x5C && eqb (get_or t 1 0) 0x78) (two_digits (at + 2) (drop 2 t)) (Refused (invalid_escape NotByteEscaped at))
    (λ i e. let l = two_ascii (at + 2) (drop 2 t) b p e in (omega arith, omega (arith, length-drop 2 t)))
    (λ i e. let z : ◌≡◌ {A = ℕ} 0 1 = cc in absurd (omega arith))

-- ---- more `\x`

pub more_done : (bs : List ℕ) (at : ℕ) (t : List ℕ) → more_bytes 0 bs at t ≡ Refused (invalid_escape NotByteEscaped at)
unfolding more_bytes
more_done bs at t = refl

pub more_utf8 : (left : ℕ) (bs : List ℕ) (at : ℕ) (t : List ℕ) (v p : ℕ) → 0 < left → Utf8 v p ≡ next_byte at t → more_bytes left bs at t ≡ Utf8 v p
unfolding more_bytes
more_utf8 zero bs at t v p h e = absurd (omega arith)
more_utf8 (suc k) bs at t v p h e = rw (sym e)

pub more_refused : (left : ℕ) (bs : List ℕ) (at : ℕ) (t : List ℕ) (r : Refusal) → 0 < left → Refused r ≡ next_byte at t → more_bytes left bs at t ≡ Refused r
unfolding more_bytes
more_refused zero bs at t r h e = absurd (omega arith)
more_refused (suc k) bs at t r h e = rw (sym e)

-- the bytes with one more form a character
pub more_whole : (left : ℕ) (bs : List ℕ) (at : ℕ) (t : List ℕ) (b p : ℕ) → 0 < left → Ascii b p ≡ next_byte at t → (char_len (bs ++ b ∷ []) ≡ 0 → ⊥) → more_bytes left bs at t ≡ Utf8 (code_of (bs ++ b ∷ [])) p
unfolding more_bytes
more_whole zero bs at t b p h e n = absurd (omega arith)
more_whole (suc k) bs at t b p h e n = rw (sym e) (simp (ne_eqb (char_len (bs ++ b ∷ [])) 0 n))

more_step : (k : ℕ) (bs : List ℕ) (at : ℕ) (t : List ℕ) (b p : ℕ) → Ascii b p ≡ next_byte at t → char_len (bs ++ b ∷ []) ≡ 0 → more_bytes (suc k) bs at t ≡ more_bytes k (bs ++ b ∷ []) p (drop 4 t)
unfolding more_bytes
more_step k bs at t b p e z = rw (sym e) (simp (eq-eqb (char_len (bs ++ b ∷ [])) 0 z))

-- or they do not yet
pub more_part : (left : ℕ) (bs : List ℕ) (at : ℕ) (t : List ℕ) (b p : ℕ) → 0 < left → Ascii b p ≡ next_byte at t → char_len (bs ++ b ∷ []) ≡ 0 → more_bytes left bs at t ≡ more_bytes (left - 1) (bs ++ b ∷ []) p (drop 4 t)
more_part zero bs at t b p h e z = absurd (omega arith)
more_part (suc k) bs at t b p h e z = more_step k bs at t b p e z ∙ ap (λ (m : ℕ). more_bytes m (bs ++ b ∷ []) p (drop 4 t)) (omega arith)

-- ---- bytes behind which zeros stand: a character is read in them as if the zeros were not there

zeros_at : (m k : ℕ) → get_or {A = ℕ} (replicate m 0) k 0 ≡ 0
zeros_at zero k = refl
zeros_at (suc m) zero = refl
zeros_at (suc m) (suc k) = zeros_at m k

get_d_pad : (bs : List ℕ) (m k : ℕ) → get_or (bs ++ replicate m 0) k 0 ≡ get_or bs k 0
get_d_pad [] m k = zeros_at m k
get_d_pad (x ∷ bs) m zero = refl
get_d_pad (x ∷ bs) m (suc k) = get_d_pad bs m k

pub char_len_pad : (bs : List ℕ) (m : ℕ) → 0 < length bs → char_len (bs ++ replicate m 0) ≡ char_len bs
unfolding char_len
char_len_pad [] m h = absurd (omega arith)
char_len_pad (b ∷ bs) m h = simp (get_d_pad bs m)

pub code_of_pad : (bs : List ℕ) (m : ℕ) → code_of (bs ++ replicate m 0) ≡ code_of bs
unfolding code_of
code_of_pad bs m = simp (get_d_pad bs m)

pub pad_set : (bs : List ℕ) (n h : ℕ) → length bs ≡ n → n < 4 → set (bs ++ replicate (4 - n) 0) n h ≡ (bs ++ h ∷ []) ++ replicate (4 - (n + 1)) 0
pad_set bs n h l s =
    let e : 4 - n ≡ suc (4 - (n + 1)) = omega arith in
    ap (λ (k : ℕ). set (bs ++ replicate k 0) n h) e ∙ set_at bs 0 (replicate (4 - (n + 1)) 0) h n l ∙ sym (append_snoc bs h (replicate (4 - (n + 1)) 0))

-- ---- the buffer of the bytes so far, with zeros behind them, after one more store

module _ (bytes bs : List ℕ) (n h : ℕ) (e : bytes ≡ bs ++ replicate (4 - n) 0) (l : length bs ≡ n) (s : n < 4) where
  pub buffer_length : length (set bytes n h) ≡ 4
  buffer_length = length-set bytes n h ∙ ap length e ∙ length-append bs (replicate (4 - n) 0) ∙ omega (arith, length-replicate {A = ℕ} (4 - n) 0)

  pub buffer_is : set bytes n h ≡ (bs ++ h ∷ []) ++ replicate (4 - (n + 1)) 0
  buffer_is = ap (λ (k : List ℕ). set k n h) e ∙ pad_set bs n h l s

  pub buffer_char : char_len (set bytes n h) ≡ char_len (bs ++ h ∷ [])
  buffer_char = ap char_len buffer_is ∙ char_len_pad (bs ++ h ∷ []) (4 - (n + 1)) (omega (arith, length-append bs (h ∷ [])))

  pub buffer_code : code_of (set bytes n h) ≡ code_of (bs ++ h ∷ [])
  buffer_code = ap code_of buffer_is ∙ code_of_pad (bs ++ h ∷ []) (4 - (n + 1))

pub more_moved : (bs : List ℕ) (k k' p p' i j : ℕ) (t : List ℕ) → k ≡ k' → p ≡ p' → i + 4 ≡ j → more_bytes k bs p (drop 4 (drop i t)) ≡ more_bytes k' bs p' (drop j t)
more_moved bs k k' p p' i j t a b c = ap (more_bytes k bs p) (drop-drop 4 i t ∙ ap (λ (m : ℕ). drop m t) c) ∙ ap (λ (m : ℕ). more_bytes m bs p (drop j t)) a ∙ ap (λ (m : ℕ). more_bytes k' bs m (drop j t)) b

-- ---- `\x`

pub hex_byte : (m : Mode) (at : ℕ) (t : List ℕ) (b p : ℕ) → Ascii b p ≡ two_digits at t → hex_escape m at t ≡ hex_by m (drop 2 t) b p
unfolding hex_escape
hex_byte m at t b p e = rw (sym e)

pub hex_utf8 : (m : Mode) (at : ℕ) (t : List ℕ) (v p : ℕ) → Utf8 v p ≡ two_digits at t → hex_escape m at t ≡ Utf8 v p
unfolding hex_escape
hex_utf8 m at t v p e = rw (sym e)

pub hex_refused : (m : Mode) (at : ℕ) (t : List ℕ) (r : Refusal) → Refused r ≡ two_digits at t → hex_escape m at t ≡ Refused r
unfolding hex_escape
hex_refused m at t r e = rw (sym e)

-- ---- an escape

pub escape_end : (m : Mode) (s : List ℕ) → length s ≡ 0 → escape_of m s ≡ Refused (eof 0)
unfolding escape_of
escape_end m [] h = refl
escape_end m (b ∷ t) h = absurd (omega arith)

pub escape_at : (m : Mode) (s : List ℕ) → 0 < length s
    → escape_of m s
    ≡ cond (ltb (simple_of (get_or s 0 0)) 256) (Ascii (simple_of (get_or s 0 0)) 1)
    (cond (eqb (get_or s 0 0) 0x78) (hex_escape m 1 (drop 1 s)) (cond (eqb (get_or s 0 0) 0x75) (unicode_escape 1 (drop 1 s)) (Refused (invalid_escape UnknownLetter (char_len s)))))
unfolding escape_of
escape_at m [] h = absurd (omega arith)
escape_at m (b ∷ t) h = refl

-- ---- what the answer on a letter says

module _ (b : ℕ) where
  pub letter_value : (k : ℕ) → simple_answer b ≡ Some k → k ≡ simple_of b
  letter_value k e = either (bool_cases (ltb (simple_of b) 256)) (λ t. let z : Some (simple_of b) ≡ Some k = rw t at e in cc) (λ n. let z : None ≡ Some k = rw n at e in cc)

  pub letter_small : (k : ℕ) → simple_answer b ≡ Some k → ltb (simple_of b) 256 ≡ true
  letter_small k e = either (bool_cases (ltb (simple_of b) 256)) (λ t. t) (λ n. let z : None ≡ Some k = rw n at e in cc)

  pub no_letter : simple_answer b ≡ None → ltb (simple_of b) 256 ≡ false
  no_letter e = either (bool_cases (ltb (simple_of b) 256)) (λ t. let z : Some (simple_of b) ≡ None = rw t at e in cc) (λ n. n)
