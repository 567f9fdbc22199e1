-- Refused raw strings, strings, byte strings, chars and byte literals whose place lies before a stop byte stay refused; 17 and 6 tell of the end. Assumes nothing.
use Rattle.std.proofs.Common.{Ok, Err}
use Rattle.strings.specs.declared.literal.Literal.{Literal}
use Prim.Native.Nat.{◌+◌, ◌-◌, ◌<◌, ◌≤◌, suc, ℕ}
use native.Mathlib.Omega.{arith}
use mathlib.Core.Bool.{Bool, cond, false, true, ◌&&◌}
use mathlib.Core.List.{List, [], ◌++◌, ◌∷◌, append_assoc}
use mathlib.Core.Path.{◌∙◌, ◌≡◌, ap, refl, subst, sym}
use lib.Dec.{eqb, ltb}
use lib.ListN.{get_or-append, drop, get_or, length, length-append, length-drop}
use lib.Seq.{drop-append-le}
use borrow.Author.Tests.{ne_eqb}
use Rattle.escapes.proofs.Closed.{Within, closed as escape-closed}
use Rattle.escapes.specs.Escapes.{escape_of}
use Rattle.escapes.specs.declared.answers.EscapeAnswer.{EscapeAnswer}
use Rattle.escapes.specs.declared.answers.EscapeAnswer.TheVariants.{Ascii, Utf8, Refused as NoEscape}
use Rattle.escapes.specs.declared.answers.Mode.{Mode}
use Rattle.escapes.specs.declared.answers.Mode.TheVariants.{Bytes, Char, Str}
use Rattle.text.proofs.CharFronts.{len_same}
use Rattle.strings.specs.Chars.{by_byte_escape, by_char_escape, byte_ends, byte_of, char_ends, char_of}
use Rattle.strings.specs.Quoted.{literal, quoted_of}
use Rattle.strings.specs.Raw.{hash, missing, raw_end, raw_of}
use Rattle.strings.specs.Strings.{byte_string_of, string_of}
use Rattle.text.proofs.Choices.{cond_cases}
use Rattle.text.specs.Refusals.{expected_byte_literal, expected_byte_string, expected_char, expected_string, expected_string_end, invalid_escape, placed_behind, Told}
use Rattle.text.specs.declared.reason.EscapeReason.TheVariants.{UnicodeInByteLiteral}
use Rattle.text.specs.Runs.{run}
use Rattle.text.specs.Utf8.{char_len, code_of}
use Rattle.text.specs.declared.refusal.Refusal.{Refusal}
use Rattle.settled.proofs.EscapeEnds.{Plain as PlainByte, escape_stays}
use Rattle.settled.proofs.StringEnds.{quoted_stays, run_keeps}

missing_place : (m : Mode) (p : ℕ) → (missing m p).place ≡ p
missing_place Str p = refl
missing_place Char p = refl
missing_place Bytes p = refl

module _ (c : ℕ) (o : PlainByte c) (a w v : List ℕ) where
  -- what has come, and the same with v behind it
  abbrev s : List ℕ
  s = a ++ c ∷ w

  ls : length s ≡ suc (length a + length w)
  ls = omega (arith, length-append a (c ∷ w))

  at_same : (i : ℕ) → i ≤ length a → get_or (s ++ v) i 0 ≡ get_or s i 0
  at_same i h = get_or-append s v 0 i (omega (arith, ls))

  -- ---- raw strings

  -- one that is not refused for its end lacks its opening quote
  raw_in : (m : Mode) (start : ℕ) (r : Refusal) → raw_of m start s ≡ Err r → (r.number ≡ 17 → ⊥)
      → (eqb (get_or s (start + run hash (drop start s)) 0) 0x22 ≡ false) × (missing m (start + run hash (drop start s)) ≡ r)
  unfolding raw_of
  raw_in m start r h n17 =
      let n : ℕ = run hash (drop start s) in
      let body : ℕ = start + n + 1 in
      let end : ℕ = body + raw_end n (drop body s) in
      let P : Told Literal → Type 0 = λ x. x ≡ Err r → (eqb (get_or s (start + n) 0) 0x22 ≡ false) × (missing m (start + n) ≡ r) in
      cond_cases P (eqb (get_or s (start + n) 0) 0x22)
      (cond (ltb end (length s)) (Ok (literal (end + 1 + n) body end (end - body) false)) (Err (expected_string_end body))) (Err (missing m (start + n)))
      (λ e. cond_cases P (ltb end (length s)) (Ok (literal (end + 1 + n) body end (end - body) false)) (Err (expected_string_end body))
      (λ f q. let z : ◌≡◌ {A = ℕ} 0 1 = cc in absurd (omega arith))
      (λ f q. let is : expected_string_end body ≡ r = cc in absurd (n17 (sym (ap (λ (y : Refusal). y.number) is)))))
      (λ e q. (e, cc)) h

  raw_by : (m : Mode) (start n : ℕ) (t : List ℕ) → run hash (drop start t) ≡ n → eqb (get_or t (start + n) 0) 0x22 ≡ false → raw_of m start t ≡ Err (missing m (start + n))
  unfolding raw_of
  raw_by m start n t e f = rw (e, f)

  raw_stays : (m : Mode) (start : ℕ) (r : Refusal) → start ≤ length a → raw_of m start s ≡ Err r → (r.number ≡ 17 → ⊥) → r.place ≤ length a → raw_of m start (s ++ v) ≡ Err r
  raw_stays m start r l h n17 le =
      let n : ℕ = run hash (drop start s) in
      let k = raw_in m start r h n17 in
      let p : start + n ≡ r.place = sym (missing_place m (start + n)) ∙ ap (λ (y : Refusal). y.place) k.1 in
      let short : run hash (drop start s) < length (drop start s) = omega (arith, length-drop start s, ls) in
      let d : drop start (s ++ v) ≡ drop start s ++ v = drop-append-le start s v (omega (arith, ls)) in
      raw_by m start n (s ++ v) (ap (run hash) d ∙ run_keeps c o hash (drop start s) v short) (ap (λ (x : ℕ). eqb x 0x22) (at_same (start + n) (omega arith)) ∙ k.0)
      ∙ ap Err k.1

  -- ---- strings and byte strings
  pub string_stays : (r : Refusal) → 1 ≤ length a → string_of s ≡ Err r → (r.number ≡ 17 → ⊥) → r.place ≤ length a → string_of (s ++ v) ≡ Err r
  unfolding string_of
  string_stays r l h n17 le =
      rw (at_same 0 (omega arith))
      (go (eqb (get_or s 0 0) 0x22) (eqb (get_or s 0 0) 0x72) h)
    where
      go : (x y : Bool) → ◌≡◌ {A = Told Literal} (cond x (quoted_of Str 1 s) (cond y (raw_of Str 1 s) (Err (expected_string 0)))) (Err r)
          → ◌≡◌ {A = Told Literal} (cond x (quoted_of Str 1 (s ++ v)) (cond y (raw_of Str 1 (s ++ v)) (Err (expected_string 0)))) (Err r)
      go true y h = quoted_stays c o Str 1 a w v r l h n17 le
      go false true h = raw_stays Str 1 r l h n17 le
      go false false h = h

  pub byte_string_stays : (r : Refusal) → 2 ≤ length a → byte_string_of s ≡ Err r → (r.number ≡ 17 → ⊥) → r.place ≤ length a → byte_string_of (s ++ v) ≡ Err r
  unfolding byte_string_of
  byte_string_stays r l h n17 le =
      rw (at_same 0 (omega arith), at_same 1 (omega arith))
      (go (eqb (get_or s 0 0) 0x62) (eqb (get_or s 1 0) 0x22) (eqb (get_or s 1 0) 0x72) h)
    where
      go : (z x y : Bool) → ◌≡◌ {A = Told Literal} (cond z (cond x (quoted_of Bytes 2 s) (cond y (raw_of Bytes 2 s) (Err (expected_byte_string 0)))) (Err (expected_byte_string 0))) (Err r)
          → ◌≡◌ {A = Told Literal} (cond z (cond x (quoted_of Bytes 2 (s ++ v)) (cond y (raw_of Bytes 2 (s ++ v)) (Err (expected_byte_string 0)))) (Err (expected_byte_string 0))) (Err r)
      go true true y h = quoted_stays c o Bytes 2 a w v r l h n17 le
      go true false true h = raw_stays Bytes 2 r l h n17 le
      go true false false h = h
      go false x y h = h

  -- ---- chars
  ends_in : (k code : ℕ) (r : Refusal) → char_ends s k code ≡ Err r → (eqb (get_or s k 0) 0x27 ≡ false) × (expected_char k ≡ r)
  unfolding char_ends
  ends_in k code r =
      cond_cases (λ (x : Told (ℕ × ℕ)). x ≡ Err r → (eqb (get_or s k 0) 0x27 ≡ false) × (expected_char k ≡ r)) (eqb (get_or s k 0) 0x27) (Ok (k + 1, code)) (Err (expected_char k))
      (λ e h. let z : ◌≡◌ {A = ℕ} 0 1 = cc in absurd (omega arith)) (λ e h. (e, cc))

  ends_stays : (k code code' : ℕ) (r : Refusal) → char_ends s k code ≡ Err r → r.place ≤ length a → char_ends (s ++ v) k code' ≡ Err r
  unfolding char_ends
  ends_stays k code code' r h le =
      let x = ends_in k code r h in
      let p : k ≡ r.place = ap (λ (y : Refusal). y.place) x.1 in
      rw (at_same k (omega arith), x.0) (ap Err x.1)

  -- where the place of what ends there is
  ends_place : (k code : ℕ) (r : Refusal) → char_ends s k code ≡ Err r → k ≡ r.place
  ends_place k code r h = ap (λ (y : Refusal). y.place) (ends_in k code r h).1

  tail : (k : ℕ) → k ≤ length a → drop k s ≡ drop k a ++ c ∷ w
  tail k h = drop-append-le k a (c ∷ w) h

  tail_on : (k : ℕ) → k ≤ length a → drop k (s ++ v) ≡ drop k a ++ c ∷ (w ++ v)
  tail_on k h = ap (drop k) (append_assoc a (c ∷ w) v) ∙ drop-append-le k a (c ∷ (w ++ v)) h

  -- an escape behind k bytes that was read, or refused, before c
  abbrev Before : ℕ → EscapeAnswer → Type 0
  Before k (Ascii b n) = k + n ≤ length a
  Before k (Utf8 b n) = k + n ≤ length a
  Before k (NoEscape q) = k + q.place ≤ length a

  escape_same : (m : Mode) (k : ℕ) → k ≤ length a → Before k (escape_of m (drop k s)) → escape_of m (drop k (s ++ v)) ≡ escape_of m (drop k s)
  escape_same m k l h = ap (escape_of m) (tail_on k l) ∙ go (escape_of m (drop k a ++ c ∷ w)) refl (subst (Before k) (ap (escape_of m) (tail k l)) h) ∙ ap (escape_of m) (sym (tail k l))
    where
      go : (e : EscapeAnswer) → escape_of m (drop k a ++ c ∷ w) ≡ e → Before k e → escape_of m (drop k a ++ c ∷ (w ++ v)) ≡ escape_of m (drop k a ++ c ∷ w)
      go (Ascii b n) e b' = escape-closed m (drop k a) (c ∷ w) (c ∷ (w ++ v)) (subst (Within (length (drop k a))) (sym e) (omega (arith, length-drop k a)))
      go (Utf8 b n) e b' = escape-closed m (drop k a) (c ∷ w) (c ∷ (w ++ v)) (subst (Within (length (drop k a))) (sym e) (omega (arith, length-drop k a)))
      go (NoEscape q) e b' = escape_stays c o m (drop k a) w (w ++ v) q e (omega (arith, length-drop k a)) ∙ sym e

  char_escape : (r : Refusal) → 2 ≤ length a → by_char_escape s (escape_of Char (drop 2 s)) ≡ Err r → r.place ≤ length a → by_char_escape (s ++ v) (escape_of Char (drop 2 (s ++ v))) ≡ Err r
  char_escape r l h le = go (escape_of Char (drop 2 s)) refl h
    where
      go : (e : EscapeAnswer) → escape_of Char (drop 2 s) ≡ e → by_char_escape s e ≡ Err r → by_char_escape (s ++ v) (escape_of Char (drop 2 (s ++ v))) ≡ Err r
      go (Ascii b n) e h = ap (by_char_escape (s ++ v)) (escape_same Char 2 l (subst (Before 2) (sym e) (omega (arith, le, ends_place (2 + n) b r h))) ∙ e) ∙ ends_stays (2 + n) b b r h le
      go (Utf8 b n) e h = ap (by_char_escape (s ++ v)) (escape_same Char 2 l (subst (Before 2) (sym e) (omega (arith, le, ends_place (2 + n) b r h))) ∙ e) ∙ ends_stays (2 + n) b b r h le
      go (NoEscape q) e h = let is : placed_behind 2 q ≡ r = cc in
          ap (by_char_escape (s ++ v)) (escape_same Char 2 l (subst (Before 2) (sym e) (omega (arith, le, ap (λ (y : Refusal). y.place) is))) ∙ e) ∙ h

  char_plain : (r : Refusal) → 1 ≤ length a → char_ends s (1 + char_len (drop 1 s)) (code_of (drop 1 s)) ≡ Err r → r.place ≤ length a
      → char_ends (s ++ v) (1 + char_len (drop 1 (s ++ v))) (code_of (drop 1 (s ++ v))) ≡ Err r
  char_plain r l h le =
      let e : char_len (drop 1 (s ++ v)) ≡ char_len (drop 1 s) = ap char_len (tail_on 1 l) ∙ len_same c o.low (drop 1 a) (w ++ v) w ∙ ap char_len (sym (tail 1 l)) in
      ap (λ (n : ℕ). char_ends (s ++ v) (1 + n) (code_of (drop 1 (s ++ v)))) e ∙ ends_stays (1 + char_len (drop 1 s)) (code_of (drop 1 s)) (code_of (drop 1 (s ++ v))) r h le

  -- the second byte is no backslash where c is that byte
  long_two : 1 ≤ length a → eqb (get_or s 1 0) 0x5C ≡ true → 2 ≤ length a
  long_two l e = go a l e
    where
      go : (a : List ℕ) → 1 ≤ length a → eqb (get_or (a ++ c ∷ w) 1 0) 0x5C ≡ true → 2 ≤ length a
      go [] l e = absurd (omega arith)
      go (x ∷ []) l e = let z : true ≡ false = sym e ∙ o.no_slash in let y : ◌≡◌ {A = ℕ} 0 1 = cc in absurd (omega arith)
      go (x ∷ y ∷ a) l e = omega arith

  pub char_stays : (r : Refusal) → 1 ≤ length a → char_of s ≡ Err r → r.place ≤ length a → char_of (s ++ v) ≡ Err r
  unfolding char_of
  char_stays r l h le =
      let one : eqb (length s) 1 ≡ false = ne_eqb (length s) 1 (λ e. omega (arith, ls)) in
      let one' : eqb (length (s ++ v)) 1 ≡ false = ne_eqb (length (s ++ v)) 1 (λ e. omega (arith, ls, length-append s v)) in
      rw (at_same 0 (omega arith), at_same 1 l, one') (go (eqb (get_or s 0 0) 0x27) (eqb (get_or s 1 0) 0x5C) refl (rw one at h))
    where
      go : (x y : Bool) → eqb (get_or s 1 0) 0x5C ≡ y
          → ◌≡◌ {A = Told (ℕ × ℕ)} (cond x (cond y (by_char_escape s (escape_of Char (drop 2 s))) (char_ends s (1 + char_len (drop 1 s)) (code_of (drop 1 s)))) (Err (expected_char 0))) (Err r)
          → ◌≡◌ {A = Told (ℕ × ℕ)} (cond x (cond y (by_char_escape (s ++ v) (escape_of Char (drop 2 (s ++ v)))) (char_ends (s ++ v) (1 + char_len (drop 1 (s ++ v))) (code_of (drop 1 (s ++ v))))) (Err (expected_char 0))) (Err r)
      go false y e h = h
      go true true e h = char_escape r (long_two l e) h le
      go true false e h = char_plain r l h le

  -- ---- byte literals
  byte_in : (k byte : ℕ) (r : Refusal) → byte_ends s k byte ≡ Err r → (eqb (get_or s k 0) 0x27 ≡ false) × (expected_byte_literal k ≡ r)
  unfolding byte_ends
  byte_in k b r =
      cond_cases (λ (x : Told (ℕ × ℕ)). x ≡ Err r → (eqb (get_or s k 0) 0x27 ≡ false) × (expected_byte_literal k ≡ r)) (eqb (get_or s k 0) 0x27) (Ok (k + 1, b)) (Err (expected_byte_literal k))
      (λ e h. let z : ◌≡◌ {A = ℕ} 0 1 = cc in absurd (omega arith)) (λ e h. (e, cc))

  byte-ends : (k b b' : ℕ) (r : Refusal) → byte_ends s k b ≡ Err r → r.place ≤ length a → byte_ends (s ++ v) k b' ≡ Err r
  unfolding byte_ends
  byte-ends k b b' r h le =
      let x = byte_in k b r h in
      let p : k ≡ r.place = ap (λ (y : Refusal). y.place) x.1 in
      rw (at_same k (omega arith), x.0) (ap Err x.1)

  byte_place : (k b : ℕ) (r : Refusal) → byte_ends s k b ≡ Err r → k ≡ r.place
  byte_place k b r h = ap (λ (y : Refusal). y.place) (byte_in k b r h).1

  byte_escape : (r : Refusal) → 3 ≤ length a → by_byte_escape s (escape_of Bytes (drop 3 s)) ≡ Err r → r.place ≤ length a → by_byte_escape (s ++ v) (escape_of Bytes (drop 3 (s ++ v))) ≡ Err r
  byte_escape r l h le = go (escape_of Bytes (drop 3 s)) refl h
    where
      go : (e : EscapeAnswer) → escape_of Bytes (drop 3 s) ≡ e → by_byte_escape s e ≡ Err r → by_byte_escape (s ++ v) (escape_of Bytes (drop 3 (s ++ v))) ≡ Err r
      go (Ascii b n) e h = ap (by_byte_escape (s ++ v)) (escape_same Bytes 3 l (subst (Before 3) (sym e) (omega (arith, le, byte_place (3 + n) b r h))) ∙ e) ∙ byte-ends (3 + n) b b r h le
      go (Utf8 b n) e h = let is : invalid_escape UnicodeInByteLiteral (3 + n) ≡ r = cc in
          ap (by_byte_escape (s ++ v)) (escape_same Bytes 3 l (subst (Before 3) (sym e) (omega (arith, le, ap (λ (y : Refusal). y.place) is))) ∙ e) ∙ h
      go (NoEscape q) e h = let is : placed_behind 3 q ≡ r = cc in
          ap (by_byte_escape (s ++ v)) (escape_same Bytes 3 l (subst (Before 3) (sym e) (omega (arith, le, ap (λ (y : Refusal). y.place) is))) ∙ e) ∙ h

  long_three : 2 ≤ length a → eqb (get_or s 2 0) 0x5C ≡ true → 3 ≤ length a
  long_three l e = go a l e
    where
      go : (a : List ℕ) → 2 ≤ length a → eqb (get_or (a ++ c ∷ w) 2 0) 0x5C ≡ true → 3 ≤ length a
      go [] l e = absurd (omega arith)
      go (x ∷ []) l e = absurd (omega arith)
      go (x ∷ y ∷ []) l e = let z : true ≡ false = sym e ∙ o.no_slash in let y : ◌≡◌ {A = ℕ} 0 1 = cc in absurd (omega arith)
      go (x ∷ y ∷ z ∷ a) l e = omega arith

  pub byte_stays : (r : Refusal) → 2 ≤ length a → byte_of s ≡ Err r → r.place ≤ length a → byte_of (s ++ v) ≡ Err r
  unfolding byte_of
  byte_stays r l h le =
      let two : eqb (length s) 2 ≡ false = ne_eqb (length s) 2 (λ e. omega (arith, ls)) in
      let two' : eqb (length (s ++ v)) 2 ≡ false = ne_eqb (length (s ++ v)) 2 (λ e. omega (arith, ls, length-append s v)) in
      let wide : char_len (drop 2 (s ++ v)) ≡ char_len (drop 2 s) = ap char_len (tail_on 2 l) ∙ len_same c o.low (drop 2 a) (w ++ v) w ∙ ap char_len (sym (tail 2 l)) in
      rw (at_same 0 (omega arith), at_same 1 (omega arith), at_same 2 l, two', wide)
      (go (eqb (get_or s 0 0) 0x62 && eqb (get_or s 1 0) 0x27) (eqb (get_or s 2 0) 0x5C) (ltb (get_or s 2 0) 0x80) refl (rw two at h))
    where
      go : (x y z : Bool) → eqb (get_or s 2 0) 0x5C ≡ y
          → ◌≡◌ {A = Told (ℕ × ℕ)} (cond x (cond y (by_byte_escape s (escape_of Bytes (drop 3 s))) (cond z (byte_ends s 3 (get_or s 2 0)) (Err (expected_byte_literal (2 + char_len (drop 2 s)))))) (Err (expected_byte_literal 0))) (Err r)
          → ◌≡◌ {A = Told (ℕ × ℕ)} (cond x (cond y (by_byte_escape (s ++ v) (escape_of Bytes (drop 3 (s ++ v)))) (cond z (byte_ends (s ++ v) 3 (get_or s 2 0)) (Err (expected_byte_literal (2 + char_len (drop 2 s)))))) (Err (expected_byte_literal 0))) (Err r)
      go false y z e h = h
      go true true z e h = byte_escape r (long_three l e) h le
      go true false true e h = byte-ends 3 (get_or s 2 0) (get_or s 2 0) r h le
      go true false false e h = h
