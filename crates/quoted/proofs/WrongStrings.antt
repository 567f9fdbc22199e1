-- A string is refused with 13, for a reason at a place, exactly where it holds an escape that is wrong so, and any quote stands behind the opening one
-- (`string-13`); and so is a byte string (`byte-string-13`). Assumes nothing.
use Rattle.std.proofs.Common.{Err}
use Rattle.text.specs.Refusals.{Told, expected_byte_string, expected_string, expected_string_end, invalid_escape}
use Rattle.strings.specs.declared.literal.Literal.{Literal}
use Prim.Native.Nat.{ℕ, ◌+◌}
use native.Mathlib.Omega.{arith}
use mathlib.Core.Bool.{false}
use mathlib.Core.List.{List, [], ◌∷◌}
use mathlib.Core.Logic.{◌↔◌}
use mathlib.Core.Path.{◌≡◌, ◌∙◌, ap, refl, subst, sym}
use lib.Dec.{eqb, ltb}
use lib.ListN.{drop, get_or, length}
use borrow.Author.Tests.{eqb-true, ltb-true}
use Rattle.escapes.specs.Escapes.{escape_of, simple_of}
use Rattle.escapes.specs.declared.answers.Mode.{Mode}
use Rattle.escapes.specs.declared.answers.Mode.TheVariants.{Bytes, Char, Str}
use Rattle.quoted.proofs.QuotedReads.{judged}
use Rattle.quoted.proofs.WrongBodies.{body_told, body_wrong}
use Rattle.quoted.specs.Wrong.{HoldsQuote, WrongByteString, WrongInside, WrongString}
use Rattle.strings.proofs.QuotedLaws.{byte_string_short}
use Rattle.strings.proofs.RawLaws.{at_quote}
use Rattle.strings.specs.Pieces.{behind_backslash, body_from, body_of, line_end, piece_of, unquoted}
use Rattle.strings.specs.Quoted.{measured, quoted_of}
use Rattle.strings.specs.Raw.{hash, missing, raw_end, raw_of}
use Rattle.strings.specs.Strings.{byte_string_of, string_of}
use Rattle.text.proofs.Choices.{bool_cases, cond_cases, either}
use Rattle.text.specs.Runs.{run}
use Rattle.text.specs.Utf8.{char_len, width_of}
use Rattle.text.specs.declared.reason.EscapeReason.{EscapeReason}
use Rattle.text.specs.declared.reason.EscapeReason.TheVariants.{UnknownLetter}
use Rattle.text.specs.declared.refusal.Refusal.{Refusal}

-- an answer is 13 for this reason at this place
abbrev Is13 : Told Literal → EscapeReason → ℕ → Type 0
Is13 a why p = a ≡ Err (invalid_escape why p)

-- another refusal is not
other : (r : Refusal) (why : EscapeReason) (p : ℕ) → (r.number ≡ 13 → ⊥) → Is13 (Err r) why p → ⊥
other r why p n e = let q : r ≡ invalid_escape why p = cc in n (ap (λ (i : Refusal). i.number) q)

-- ---- quoted and raw strings

-- what is wrong in a quoted string whose contents begin at `start`, and a quote behind the opening one
abbrev Found : Mode → ℕ → List ℕ → EscapeReason → ℕ → Type 0
Found m start s why p = (q : ℕ) × (start + q ≡ p) × HoldsQuote (drop start s) × WrongInside m (drop start s) why q

-- a quoted string that is refused with 13
quoted_told : (m : Mode) (start : ℕ) (s : List ℕ) (why : EscapeReason) (p : ℕ) → Is13 (quoted_of m start s) why p → Found m start s why p
unfolding quoted_of
quoted_told m start s why p =
    let t = drop start s in
    cond_cases (λ (a : Told Literal). Is13 a why p → Found m start s why p) (ltb (run unquoted t) (length t)) _ _
    (λ h e. let r = body_told m t start start start 0 false why p e in
    (r.0, r.1, (0 + run unquoted t, at_quote t 0 (run unquoted t) refl (omega (arith, ltb-true (run unquoted t) (length t) h))), r.2))
    (λ h e. absurd (other (expected_string_end start) why p (λ i. omega (arith, i)) e))

-- and what is wrong is refused so
quoted_wrong : (m : Mode) (start : ℕ) (s : List ℕ) (why : EscapeReason) (q : ℕ) → HoldsQuote (drop start s) → WrongInside m (drop start s) why q
    → Is13 (quoted_of m start s) why (start + q)
quoted_wrong m start s why q h x = judged m start s h.0 h.1 ∙ body_wrong m x start start start 0 false

-- 16 and 18 are not 13
missing_other : (m : Mode) (place : ℕ) → (missing m place).number ≡ 13 → ⊥
missing_other Str place i = omega (arith, i)
missing_other Char place i = omega (arith, i)
missing_other Bytes place i = omega (arith, i)

-- a raw string is never refused with 13
raw_never : (m : Mode) (start : ℕ) (s : List ℕ) (why : EscapeReason) (p : ℕ) → Is13 (raw_of m start s) why p → ⊥
unfolding raw_of
raw_never m start s why p =
    let hashes = run hash (drop start s) in
    let body = start + hashes + 1 in
    cond_cases (λ (a : Told Literal). Is13 a why p → ⊥) (eqb (get_or s (start + hashes) 0) 0x22) _ _
    (λ q. cond_cases (λ (a : Told Literal). Is13 a why p → ⊥) (ltb (body + raw_end hashes (drop body s)) (length s)) _ _
    (λ h e. let z : ◌≡◌ {A = ℕ} 0 1 = cc in omega arith)
    (λ h. other (expected_string_end body) why p (λ i. omega (arith, i))))
    (λ q. other (missing m (start + hashes)) why p (missing_other m (start + hashes)))

-- ---- strings

-- what is refused with 13 is a wrong string
string_told : (s : List ℕ) (why : EscapeReason) (p : ℕ) → Is13 (string_of s) why p → WrongString s why p
unfolding string_of
string_told [] why p e = absurd (other (expected_string 0) why p (λ i. omega (arith, i)) e)
string_told (b ∷ s) why p e =
    either (bool_cases (eqb b 0x22))
    (λ h. let q : b ≡ 0x22 = eqb-true b 0x22 h in
    let r = quoted_told Str 1 (0x22 ∷ s) why p (rw q at e) in
    rw q (subst (WrongString (0x22 ∷ s) why) r.1 (WrongString.quoted r.2 r.3)))
    (λ h. either (bool_cases (eqb b 0x72))
    (λ k. absurd (raw_never Str 1 (b ∷ s) why p (rw (h, k) at e)))
    (λ k. absurd (other (expected_string 0) why p (λ i. omega (arith, i)) (rw (h, k) at e))))

-- a wrong string is refused with 13
string_wrong : {s : List ℕ} {why : EscapeReason} {p : ℕ} → WrongString s why p → Is13 (string_of s) why p
unfolding string_of
string_wrong (WrongString.quoted {why} {p} {s} h x) = quoted_wrong Str 1 (0x22 ∷ s) why p h x

-- a string is refused with 13, for a reason at a place, exactly where it is wrong so
pub string_13 : (s : List ℕ) (why : EscapeReason) (p : ℕ) → (string_of s ≡ Err (invalid_escape why p)) ↔ WrongString s why p
string_13 s why p = (λ e. string_told s why p e, λ x. string_wrong x)

-- ---- byte strings

-- behind `b`
behind_b : (b : ℕ) (s : List ℕ) (why : EscapeReason) (p : ℕ) → Is13 (byte_string_of (0x62 ∷ b ∷ s)) why p → WrongByteString (0x62 ∷ b ∷ s) why p
unfolding byte_string_of
behind_b b s why p e =
    either (bool_cases (eqb b 0x22))
    (λ h. let q : b ≡ 0x22 = eqb-true b 0x22 h in
    let r = quoted_told Bytes 2 (0x62 ∷ 0x22 ∷ s) why p (rw q at e) in
    rw q (subst (WrongByteString (0x62 ∷ 0x22 ∷ s) why) r.1 (WrongByteString.quoted r.2 r.3)))
    (λ h. either (bool_cases (eqb b 0x72))
    (λ k. absurd (raw_never Bytes 2 (0x62 ∷ b ∷ s) why p (rw (h, k) at e)))
    (λ k. absurd (other (expected_byte_string 0) why p (λ i. omega (arith, i)) (rw (h, k) at e))))

-- no byte string begins otherwise
no_b : (a : ℕ) (s : List ℕ) → eqb a 0x62 ≡ false → byte_string_of (a ∷ s) ≡ Err (expected_byte_string 0)
unfolding byte_string_of
no_b a s h = rw h

-- what is refused with 13 is a wrong byte string
byte_string_told : (s : List ℕ) (why : EscapeReason) (p : ℕ) → Is13 (byte_string_of s) why p → WrongByteString s why p
byte_string_told [] why p e = absurd (other (expected_byte_string 0) why p (λ i. omega (arith, i)) (sym (byte_string_short [] (omega arith)) ∙ e))
byte_string_told (a ∷ []) why p e = absurd (other (expected_byte_string 0) why p (λ i. omega (arith, i)) (sym (byte_string_short (a ∷ []) (omega arith)) ∙ e))
byte_string_told (a ∷ b ∷ s) why p e =
    either (bool_cases (eqb a 0x62))
    (λ h. let q : a ≡ 0x62 = eqb-true a 0x62 h in rw q (behind_b b s why p (rw q at e)))
    (λ h. absurd (other (expected_byte_string 0) why p (λ i. omega (arith, i)) (sym (no_b a (b ∷ s) h) ∙ e)))

-- a wrong byte string is refused with 13
byte_string_wrong : {s : List ℕ} {why : EscapeReason} {p : ℕ} → WrongByteString s why p → Is13 (byte_string_of s) why p
unfolding byte_string_of
byte_string_wrong (WrongByteString.quoted {why} {p} {s} h x) = quoted_wrong Bytes 2 (0x62 ∷ 0x22 ∷ s) why p h x

-- a byte string is refused with 13, for a reason at a place, exactly where it is wrong so
pub byte_string_13 : (s : List ℕ) (why : EscapeReason) (p : ℕ) → (byte_string_of s ≡ Err (invalid_escape why p)) ↔ WrongByteString s why p
byte_string_13 s why p = (λ e. byte_string_told s why p e, λ x. byte_string_wrong x)

-- ---- worked

-- in `"\"\q` the quote that is escaped will do: the q is told of, behind it
escaped_quote : string_of (0x22 ∷ 0x5C ∷ 0x22 ∷ 0x5C ∷ 0x71 ∷ []) ≡ Err (invalid_escape UnknownLetter 5)
unfolding string_of quoted_of measured body_of body_from piece_of behind_backslash line_end escape_of simple_of run unquoted char_len width_of
escaped_quote = refl

-- in `"\q` there is none: 17, behind the opening one
no_quote_at_all : string_of (0x22 ∷ 0x5C ∷ 0x71 ∷ []) ≡ Err (expected_string_end 1)
unfolding string_of quoted_of run unquoted
no_quote_at_all = refl
