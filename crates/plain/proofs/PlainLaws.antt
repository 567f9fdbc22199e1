-- A plain token is the token that stands at the front of its part. Assumes nothing.
use Prim.Native.Nat.{ℕ, ◌<◌, ◌≤◌}
use native.Mathlib.Omega.{arith}
use mathlib.Core.Bool.{true}
use mathlib.Core.List.{List, [], ◌∷◌}
use mathlib.Core.Path.{◌≡◌, ap, refl, ◌∙◌}
use lib.Dec.{eqb, ltb}
use lib.ListN.{get_or, length}
use borrow.Author.Tests.{eqb-true, lt-ltb, ltb-true, ne_eqb}
use Rattle.text.proofs.Choices.{cond_cases}
use Rattle.text.proofs.ClassLaws.{one_of_all}
use Rattle.text.specs.Classes.{blank1, one_of, within}
use Rattle.comments.proofs.GapFronts.{clear_front, clear_byte}
use Rattle.reading.specs.Tokens.{token}
use Rattle.tokens.proofs.RonLaws.{is_token}
use Rattle.tokens.specs.Lexemes.{lexeme, lexeme_of}
use Rattle.tokens.specs.Ron.{ron_token}
use Rattle.tokens.specs.Shapes.{mark_kind, shape_of}
use Rattle.tokens.specs.Token.{token_of}
use Rattle.tokens.specs.declared.lexeme.Lexeme.{Lexeme}
use Rattle.plain_names.proofs.PlainNames.{plain-name}
use Rattle.plain_names.specs.inner.PlainNames.{plain_name}
use Rattle.plain_numbers.proofs.PlainNumbers.{plain-number}
use Rattle.plain_strings.proofs.PlainStrings.{plain-string}
use Rattle.plain_strings.specs.inner.PlainStrings.{plain_string}
use Rattle.plain.specs.inner.Plain.{plain_of}

-- ---- marks

abbrev marks : List ℕ
marks = 0x28 ∷ 0x29 ∷ 0x5b ∷ 0x5d ∷ 0x7b ∷ 0x7d ∷ 0x2c ∷ 0x3a ∷ []

-- a byte of each range that is none of its marks has no kind
pub low_none : (a : ℕ) → a < 0x3b → (a ≡ 0x28 → ⊥) → (a ≡ 0x29 → ⊥) → (a ≡ 0x2c → ⊥) → (a ≡ 0x3a → ⊥) → 0 ≡ mark_kind a
unfolding mark_kind
low_none a h n28 n29 n2c n3a = simp (ne_eqb a 0x28 n28, ne_eqb a 0x29 n29, ne_eqb a 0x5b (λ e. omega arith), ne_eqb a 0x5d (λ e. omega arith), ne_eqb a 0x7b (λ e. omega arith), ne_eqb a 0x7d (λ e. omega arith), ne_eqb a 0x2c n2c, ne_eqb a 0x3a n3a)

pub high_none : (a : ℕ) → 0x3b ≤ a → (a ≡ 0x5b → ⊥) → (a ≡ 0x5d → ⊥) → (a ≡ 0x7b → ⊥) → (a ≡ 0x7d → ⊥) → 0 ≡ mark_kind a
unfolding mark_kind
high_none a h n5b n5d n7b n7d = simp (ne_eqb a 0x28 (λ e. omega arith), ne_eqb a 0x29 (λ e. omega arith), ne_eqb a 0x5b n5b, ne_eqb a 0x5d n5d, ne_eqb a 0x7b n7b, ne_eqb a 0x7d n7d, ne_eqb a 0x2c (λ e. omega arith), ne_eqb a 0x3a (λ e. omega arith))

one : (a m : ℕ) → eqb a m ≡ true → one_of marks m ≡ true → one_of marks a ≡ true
one a m e h = ap (one_of marks) (eqb-true a m e) ∙ h

-- a byte with a mark's kind is one of the eight
mark_one : (a : ℕ) → 0 < mark_kind a → one_of marks a ≡ true
unfolding mark_kind
mark_one a =
    let P : ℕ → Type 0 = λ n. 0 < n → one_of marks a ≡ true in
    cond_cases P (eqb a 0x28) 1 _ (λ e k. one a 0x28 e refl) λ e.
    cond_cases P (eqb a 0x29) 2 _ (λ e k. one a 0x29 e refl) λ e.
    cond_cases P (eqb a 0x5b) 3 _ (λ e k. one a 0x5b e refl) λ e.
    cond_cases P (eqb a 0x5d) 4 _ (λ e k. one a 0x5d e refl) λ e.
    cond_cases P (eqb a 0x7b) 5 _ (λ e k. one a 0x7b e refl) λ e.
    cond_cases P (eqb a 0x7d) 6 _ (λ e k. one a 0x7d e refl) λ e.
    cond_cases P (eqb a 0x2c) 7 _ (λ e k. one a 0x2c e refl) λ e.
    cond_cases P (eqb a 0x3a) 8 0 (λ e k. one a 0x3a e refl) λ e k. absurd (omega arith)

mark_clear : (a : ℕ) → 0 < mark_kind a → clear_byte a ≡ true
unfolding blank1 within
mark_clear a k = one_of_all clear_byte marks a refl (mark_one a k)

mark_lexeme : (s : List ℕ) → 0 < mark_kind (get_or s 0 0) → lexeme_of (token_of s) ≡ lexeme 1 (mark_kind (get_or s 0 0)) 0
unfolding token_of shape_of
mark_lexeme s k = rw (lt-ltb 0 (mark_kind (get_or s 0 0)) k)

mark_some : (s : List ℕ) → 0 < mark_kind (get_or s 0 0) → 0 < length s
unfolding mark_kind
mark_some [] k = k
mark_some (a ∷ s) k = omega arith

mark_token : (s : List ℕ) → 0 < mark_kind (get_or s 0 0) → ron_token s ≡ token (record { gap = 0; len = 1; kind = mark_kind (get_or s 0 0); detail = 0 })
mark_token s k =
    let some = mark_some s k in
    is_token s (record { gap = 0; len = 1; kind = mark_kind (get_or s 0 0); detail = 0 })
    record { gap_is = clear_front s some (mark_clear (get_or s 0 0) k); inside = some; lexeme_is = mark_lexeme s k }

-- ---- the law

-- that a lexeme is the token at the front of s, if it has a byte
abbrev Stands : List ℕ → Lexeme → Type 0
Stands s l = 0 < l.len → ron_token s ≡ token (record { gap = 0; len = l.len; kind = l.kind; detail = l.detail })

pub plain_token : (s : List ℕ) → 0 < (plain_of s).len → ron_token s ≡ token (record { gap = 0; len = (plain_of s).len; kind = (plain_of s).kind; detail = (plain_of s).detail })
unfolding plain_of
plain_token s =
    let name = plain_name s in
    let kind = mark_kind (get_or s 0 0) in
    let quoted = plain_string s in
    cond_cases (Stands s) (ltb 0 name) _ _ (λ e k. plain-name s k) λ e.
    cond_cases (Stands s) (ltb 0 kind) _ _ (λ e k. mark_token s (ltb-true 0 kind e)) λ e.
    cond_cases (Stands s) (ltb 0 quoted) _ _ (λ e k. plain-string s k) λ e. plain-number s
