-- RON's token reader may be read while a text arrives: what crate arriving asks of it. Assumes nothing.
use Rattle.text.specs.Refusals.{Told}
use Rattle.tokens.specs.declared.lexeme.Lexeme.{Lexeme}
use Prim.Native.Nat.{ℕ, ◌<◌, ◌≤◌, suc}
use native.Mathlib.Omega.{arith}
use mathlib.Core.Bool.{true, false, not}
use mathlib.Core.List.{List, [], ◌++◌, ◌∷◌, append_assoc}
use mathlib.Core.Path.{◌≡◌, ap, refl, sym, subst, ◌∙◌}
use lib.Dec.{eqb}
use lib.ListN.{drop, get_or, length, length-append, length-drop}
use lib.Seq.{drop-append-le}
use borrow.Author.Tests.{eqb-true, not-true}
use Rattle.text.proofs.Choices.{bool_cases, either, lt_or_le}
use Rattle.text.proofs.ClassLaws.{one_of_all}
use Rattle.text.specs.Classes.{ascii_next, ascii_raw, digit, letter, within}
use Rattle.comments.proofs.GapWindow.{gap_stop, gap_window}
use Rattle.comments.specs.Gaps.{gap_of}
use Rattle.comments.specs.declared.gap.Gap.TheVariants as gap
use Rattle.reading.proofs.QuietLaws.{quiet_all}
use Rattle.reading.specs.Owed.{Laws, quiet_byte}
use Rattle.reading.specs.Tokens.{Token, reach, token}
use Rattle.tokens.proofs.RonLaws.{is_token, laws, lexed, token_is}
use Rattle.tokens.proofs.TokenLaws.{Fits}
use Rattle.tokens.specs.Lexemes.{lexeme, lexeme_of}
use Rattle.tokens.specs.Ron.{ron_token}
use Rattle.tokens.specs.Token.{token_of}
use Rattle.settled.proofs.TokenEnds.{token_before, token_closed}
use Rattle.settled.proofs.WordEnds.{stop_ascii}
use Rattle.settled.specs.Bytes.{close_bytes, closes_byte, decides_byte, stops_byte}

-- ---- the classes

pub deciders : (c : ℕ) → decides_byte c ≡ true → stops_byte c ≡ true
unfolding decides_byte stops_byte ascii_raw ascii_next letter digit within
deciders c h =
    either (bool_cases (quiet_byte c)) (λ q. quiet_all stops_byte c refl q)
    (λ q. let s : eqb c 0x2f ≡ true = rw q at h in subst (λ (b : ℕ). stops_byte b ≡ true) (sym (eqb-true c 0x2f s)) refl)

pub closers : (c : ℕ) → closes_byte c ≡ true → stops_byte c ≡ true
unfolding closes_byte stops_byte ascii_raw ascii_next letter digit within
closers c h = one_of_all stops_byte close_bytes c refl h

no_slash : (c : ℕ) → closes_byte c ≡ true → eqb c 0x2f ≡ false
unfolding closes_byte
no_slash c h = not-true (eqb c 0x2f) (one_of_all (λ (b : ℕ). not (eqb b 0x2f)) close_bytes c refl h)

-- ---- before a stop byte

fits : (n : ℕ) (a : Told Lexeme) (len kind detail : ℕ) → a ≡ lexeme len kind detail → len ≤ n → Fits n a
fits n a len kind detail e h = subst (Fits n) (sym e) h

pub ron_window : (u v v' : List ℕ) (c : ℕ) (t : Token) → stops_byte c ≡ true → ron_token (u ++ c ∷ v) ≡ token t → reach t ≤ length u → ron_token (u ++ c ∷ v') ≡ token t
ron_window u v v' c t q h le =
    let a = token_is (u ++ c ∷ v) t h in
    let pos = (lexed (u ++ c ∷ v) t h).0 in
    let g : t.gap ≤ length u = omega arith in
    let w = drop t.gap u in
    let e : drop t.gap (u ++ c ∷ v) ≡ w ++ c ∷ v = drop-append-le t.gap u (c ∷ v) g in
    let e' : drop t.gap (u ++ c ∷ v') ≡ w ++ c ∷ v' = drop-append-le t.gap u (c ∷ v') g in
    let l : lexeme_of (token_of (w ++ c ∷ v)) ≡ lexeme t.len t.kind t.detail = ap (λ (x : List ℕ). lexeme_of (token_of x)) (sym e) ∙ a.lexeme_is in
    let same = token_before c q w v v' (fits (length w) (lexeme_of (token_of (w ++ c ∷ v))) t.len t.kind t.detail l (omega (arith, length-drop t.gap u))) in
    is_token (u ++ c ∷ v') t
    record {
      gap_is = gap_stop u v v' c t.gap (stop_ascii c q) a.gap_is (omega arith);
      inside = omega (arith, length-append u (c ∷ v'));
      lexeme_is = ap (λ (x : List ℕ). lexeme_of (token_of x)) e' ∙ ap lexeme_of same ∙ l;
    }

-- document 02: what the theory of arrivals stands on
pub ron_laws : Laws ron_token stops_byte
ron_laws = record {
  nil = laws.nil;
  grows = laws.grows;
  inside = laws.inside;
  restart = laws.restart;
  window = ron_window;
}

-- ---- closed by its last byte

last_byte : (u : List ℕ) (b : ℕ) → get_or (u ++ b ∷ []) (length u) 0 ≡ b
last_byte [] b = refl
last_byte (a ∷ u) b = last_byte u b

-- the gap before a token that begins in front of the byte or with it
gap_same : (u v v' : List ℕ) (c n : ℕ) → closes_byte c ≡ true → gap_of (u ++ c ∷ v) ≡ gap.Clear n → n ≤ length u → gap_of (u ++ c ∷ v') ≡ gap.Clear n
gap_same u v v' c n q h le =
    either (lt_or_le n (length u)) (λ l. gap_stop u v v' c n (stop_ascii c (closers c q)) h l)
    (λ l. let e : n ≡ length u = omega arith in
    let b : get_or (u ++ c ∷ []) n 0 ≡ c = ap (λ (i : ℕ). get_or (u ++ c ∷ []) i 0) e ∙ last_byte u c in
    let low : get_or (u ++ c ∷ []) n 0 < 0x80 = subst (λ (x : ℕ). x < 0x80) (sym b) (stop_ascii c (closers c q)) in
    let other : eqb (get_or (u ++ c ∷ []) n 0) 0x2f ≡ false = ap (λ (x : ℕ). eqb x 0x2f) b ∙ no_slash c q in
    ap gap_of (sym (append_assoc u (c ∷ []) v'))
    ∙ gap_window (u ++ c ∷ []) v v' n (ap gap_of (append_assoc u (c ∷ []) v) ∙ h) (omega (arith, length-append u (c ∷ []))) low other)

pub ron_closed : (u v v' : List ℕ) (c : ℕ) (t : Token) → closes_byte c ≡ true → ron_token (u ++ c ∷ v) ≡ token t → reach t ≡ suc (length u) → ron_token (u ++ c ∷ v') ≡ token t
ron_closed u v v' c t q h le =
    let a = token_is (u ++ c ∷ v) t h in
    let pos = (lexed (u ++ c ∷ v) t h).0 in
    let g : t.gap ≤ length u = omega arith in
    let w = drop t.gap u in
    let e : drop t.gap (u ++ c ∷ v) ≡ w ++ c ∷ v = drop-append-le t.gap u (c ∷ v) g in
    let e' : drop t.gap (u ++ c ∷ v') ≡ w ++ c ∷ v' = drop-append-le t.gap u (c ∷ v') g in
    let n : t.len ≡ suc (length w) = omega (arith, length-drop t.gap u) in
    let l : lexeme_of (token_of (w ++ c ∷ v)) ≡ lexeme t.len t.kind t.detail = ap (λ (x : List ℕ). lexeme_of (token_of x)) (sym e) ∙ a.lexeme_is in
    let same = token_closed c (closers c q) w v v' t.kind t.detail (l ∙ ap (λ (k : ℕ). lexeme k t.kind t.detail) n) in
    is_token (u ++ c ∷ v') t
    record {
      gap_is = gap_same u v v' c t.gap q a.gap_is g;
      inside = omega (arith, length-append u (c ∷ v'));
      lexeme_is = ap (λ (x : List ℕ). lexeme_of (token_of x)) e' ∙ ap lexeme_of same ∙ l;
    }
