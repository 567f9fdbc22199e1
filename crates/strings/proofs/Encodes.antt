-- A decoded string is UTF-8 where its text is: `string_encoded`. Assumes nothing.
use Rattle.std.proofs.Common.{Ok}
use Rattle.text.specs.Refusals.{Told}
use Prim.Native.Nat.{◌+◌, ◌<◌, ◌≤◌, suc, zero, ℕ}
use native.Mathlib.Omega.{arith}
use mathlib.Core.Bool.{◌&&◌, false, true}
use mathlib.Core.List.{List, [], ◌∷◌, append-nil}
use mathlib.Core.Logic.{inl}
use mathlib.Core.Path.{◌∙◌, ◌≡◌, refl, subst, sym}
use lib.Dec.{eqb, leb, ltb}
use lib.ListN.{get_or-eq_default, drop, get_or, length, length-drop, take, take-append-drop}
use borrow.Author.Tests.{eqb-true, lt-ltb, ltb-true}
use Rattle.escapes.proofs.Bounded.{Bounded, bounded, run_split}
use Rattle.escapes.proofs.Decoded.{Decodes, decoded}
use Rattle.escapes.specs.Escapes.{escape_of}
use Rattle.escapes.specs.declared.answers.EscapeAnswer.{EscapeAnswer}
use Rattle.escapes.specs.declared.answers.EscapeAnswer.TheVariants.{Ascii, Utf8, Refused}
use Rattle.escapes.specs.declared.answers.Mode.{Mode}
use Rattle.escapes.specs.declared.answers.Mode.TheVariants.{Str}
use Rattle.strings.proofs.More.{encoded_behind, encoded_cut, encoded_join, run_wider}
use Rattle.strings.proofs.PieceLaws.{Sized, body_end, body_step, sized}
use Rattle.strings.proofs.RawLaws.{run_stops}
use Rattle.strings.specs.Pieces.{Body, behind_backslash, body_of, by_escape, by_piece, bytes_of, decoded_of, line_end, piece_of, plain}
use Rattle.strings.specs.Raw.{hash, raw_contents, raw_end, raw_of}
use Rattle.strings.specs.Strings.{string_decoded, string_of}
use Rattle.strings.specs.declared.literal.Literal.{Literal}
use Rattle.strings.specs.declared.pieces.Piece.{Piece}
use Rattle.strings.specs.declared.pieces.Piece.TheVariants.{Backslash, Plain, Quote}
use Rattle.strings.specs.declared.pieces.Piece.TheVariants as pieces
use Rattle.text.proofs.Choices.{and_true, bool_cases, cond_cases, either, lt_or_le}
use Rattle.text.proofs.Lists.{head_at}
use Rattle.text.proofs.Utf8Agree.{encode_1}
use Rattle.text.proofs.AsciiLaws.{ascii-first}
use Rattle.text.specs.Classes.{continuation_blank}
use Rattle.text.specs.Runs.{ascii, run}
use Rattle.text.specs.Utf8.{Encoded, Scalar, encode}
use Rattle.text.specs.Utf8.Encoded.{ends, next as scalar-next}

-- ---- pieces

one_scalar : (c : ℕ) → Scalar c → Encoded (encode c)
one_scalar c h = subst Encoded (append-nil (encode c)) (scalar-next c h ends)

one_byte : (b : ℕ) → b < 0x80 → Encoded (b ∷ [])
one_byte b h = subst Encoded (encode_1 b h) (one_scalar b (omega arith, inl (omega arith)))

-- a plain run is the whole run; a piece with a backslash is written in ASCII and decodes to UTF-8
abbrev Pure : List ℕ → Piece → Type 0
Pure t Quote = Unit
Pure t (Plain n) = n ≡ run plain t
Pure t (Backslash n d) = (n ≤ run ascii t) × Encoded (bytes_of d)
Pure t (pieces.Refused r) = Unit

blank_ascii : (b : ℕ) → continuation_blank b ≡ true → ascii b ≡ true
unfolding continuation_blank
blank_ascii b =
    either (bool_cases (eqb b 0x20)) (λ e f. lt-ltb b 0x80 (omega (arith, eqb-true b 0x20 e)))
    (λ n1. either (bool_cases (eqb b 0x09)) (λ e f. lt-ltb b 0x80 (omega (arith, eqb-true b 0x09 e)))
    (λ n2. either (bool_cases (eqb b 0x0a)) (λ e f. lt-ltb b 0x80 (omega (arith, eqb-true b 0x0a e)))
    (λ n3. either (bool_cases (eqb b 0x0d)) (λ e f. lt-ltb b 0x80 (omega (arith, eqb-true b 0x0d e)))
    (λ n4 f. let z : false ≡ true = rw (n1, n2, n3, n4) at f in let y : ◌≡◌ {A = ℕ} 0 1 = cc in absurd (omega arith)))))

escape_pure : (t : List ℕ) (a : EscapeAnswer) → Bounded t a → Decodes 0x80 a → Pure (0x5C ∷ t) (by_escape a)
escape_pure t (Ascii b n) h d = (omega (arith, ascii-first 0x5C t (omega arith), h.1), one_byte b d)
escape_pure t (Utf8 c n) h d = (omega (arith, ascii-first 0x5C t (omega arith), h.1), one_scalar c d)
escape_pure t (Refused r) h d = tt

behind_pure : (t : List ℕ) → Pure (0x5C ∷ t) (behind_backslash Str t)
unfolding behind_backslash
behind_pure t =
    cond_cases (Pure (0x5C ∷ t)) (line_end t) _ _
    (λ e. (omega (arith, ascii-first 0x5C t (omega arith), run_wider continuation_blank ascii blank_ascii t), ends))
    (λ e. escape_pure t (escape_of Str t) (bounded Str t) (decoded Str t))

pure : (t : List ℕ) → 0 < length t → Pure t (piece_of Str t)
unfolding piece_of
pure [] h = absurd (omega arith)
pure (b ∷ t) h =
    cond_cases (Pure (b ∷ t)) (eqb b 0x22) _ _ (λ e. tt)
    (λ n1. cond_cases (Pure (b ∷ t)) (eqb b 0x5C) _ _
    (λ e. subst (λ (x : ℕ). Pure (x ∷ t) (behind_backslash Str t)) (sym (eqb-true b 0x5C e)) (behind_pure t))
    (λ n2. refl))

-- ---- a body

-- what stops a plain run is ASCII
plain_stop : (b : ℕ) → plain b ≡ false → b < 0x80
unfolding plain
plain_stop b =
    either (bool_cases (eqb b 0x22)) (λ e f. omega (arith, eqb-true b 0x22 e))
    (λ n1. either (bool_cases (eqb b 0x5C)) (λ e f. omega (arith, eqb-true b 0x5C e))
    (λ n2 f. let z : true ≡ false = rw (n1, n2) at f in let y : ◌≡◌ {A = ℕ} 0 1 = cc in absurd (omega arith)))

stop_ascii : (t : List ℕ) → get_or (drop (run plain t) t) 0 0 < 0x80
stop_ascii t =
    rw (head_at t (run plain t))
    (either (lt_or_le (run plain t) (length t)) (λ h. plain_stop (get_or t (run plain t) 0) (run_stops plain t h))
    (λ h. (let z : get_or t (run plain t) 0 ≡ 0 = get_or-eq_default t 0 h in omega arith)))

piece_encoded : (t : List ℕ) (p : Piece) → Encoded t → Pure t p → Sized t p
    → ((n : ℕ) → 1 ≤ n → n ≤ length t → Encoded (drop n t) → Encoded (decoded_of (body_of Str (drop n t))))
    → Encoded (decoded_of (by_piece p t (λ n. body_of Str (drop n t))))
unfolding decoded_of
piece_encoded t Quote e h z rest = ends
piece_encoded t (Plain n) e h z rest =
    let r = encoded_cut (take n t) (drop n t) (subst Encoded (sym (take-append-drop n t)) e) (subst (λ (x : ℕ). get_or (drop x t) 0 0 < 0x80) (sym h) (stop_ascii t)) in
    encoded_join r.0 (rest n z.0 z.1 r.1)
piece_encoded t (Backslash n d) e h z rest = encoded_join h.1 (rest n z.0 z.1 (encoded_behind n t e h.0))
piece_encoded t (pieces.Refused r) e h z rest = ends

end_encoded : (m : Mode) → Encoded (decoded_of (body_of m []))
unfolding decoded_of
end_encoded m = subst (λ (b : Body). Encoded (decoded_of b)) (sym (body_end m [] refl)) ends

body_fuel : (fuel : ℕ) (t : List ℕ) → length t ≤ fuel → Encoded t → Encoded (decoded_of (body_of Str t))
body_fuel zero [] h e = end_encoded Str
body_fuel (suc fuel) [] h e = end_encoded Str
body_fuel zero (b ∷ t) h e = absurd (omega arith)
body_fuel (suc fuel) (b ∷ t) h e =
    subst (λ (x : Body). Encoded (decoded_of x)) (sym (body_step Str (b ∷ t) (piece_of Str (b ∷ t)) (omega arith) refl))
    (piece_encoded (b ∷ t) (piece_of Str (b ∷ t)) e (pure (b ∷ t) (omega arith)) (sized Str (b ∷ t) (omega arith))
    (λ n p q r. body_fuel fuel (drop n (b ∷ t)) (omega (arith, length-drop n (b ∷ t))) r))

pub body_encoded : (t : List ℕ) → Encoded t → Encoded (decoded_of (body_of Str t))
body_encoded t e = body_fuel (length t) t (omega arith) e

-- ---- a string

-- a byte of ASCII stands in front
first_ascii : (s : List ℕ) (x : ℕ) → 0 < x → x < 0x80 → get_or s 0 0 ≡ x → 1 ≤ run ascii s
unfolding run
first_ascii [] x p h e = absurd (omega arith)
first_ascii (b ∷ s) x p h e = rw (lt-ltb b 0x80 (omega arith)) (omega arith)

-- a run of ASCII, and one more behind its first n bytes
run_more : (n k : ℕ) (s : List ℕ) → n ≤ run ascii s → k ≤ run ascii (drop n s) → n + k ≤ run ascii s
run_more n k s h i = omega (arith, run_split ascii n s h)

hash_ascii : (b : ℕ) → hash b ≡ true → ascii b ≡ true
hash_ascii b e = lt-ltb b 0x80 (omega (arith, eqb-true b 0x23 e))

-- the contents of a raw string stand behind ASCII, and end at a quote
raw_body : (s : List ℕ) → get_or s 0 0 ≡ 0x72 → get_or s (1 + run hash (drop 1 s)) 0 ≡ 0x22 → 1 + run hash (drop 1 s) + 1 ≤ run ascii s
raw_body s r q =
    let h = run hash (drop 1 s) in
    let i = first_ascii s 0x72 (omega arith) (omega arith) r in
    let j : 1 + h ≤ run ascii s = run_more 1 h s i (run_wider hash ascii hash_ascii (drop 1 s)) in
    run_more (1 + h) 1 s j (first_ascii (drop (1 + h) s) 0x22 (omega arith) (omega arith) (head_at s (1 + h) ∙ q))

raw_quote : (n : ℕ) (t : List ℕ) → raw_end n t < length t → get_or t (raw_end n t) 0 ≡ 0x22
unfolding raw_end
raw_quote n [] = λ h. absurd (omega arith)
raw_quote n (b ∷ t) =
    let i : raw_end n t < length t → get_or t (raw_end n t) 0 ≡ 0x22 = raw_quote n t in
    cond_cases (λ (k : ℕ). k < suc (length t) → get_or (b ∷ t) k 0 ≡ 0x22) (eqb b 0x22 && leb n (run hash t)) _ _
    (λ e h. eqb-true b 0x22 (and_true (eqb b 0x22) (leb n (run hash t)) e).0)
    (λ e h. i (omega arith))

raw_encoded : (m : Mode) (s : List ℕ) (l : Literal) → Encoded s → get_or s 0 0 ≡ 0x72 → raw_of m 1 s ≡ Ok l → Encoded (raw_contents 1 s)
unfolding raw_of raw_contents
raw_encoded m s l e r =
    let h = run hash (drop 1 s) in
    let body = 1 + h + 1 in
    let k = raw_end h (drop body s) in
    cond_cases (λ (a : Told Literal). a ≡ Ok l → Encoded (take k (drop body s))) (eqb (get_or s (1 + h) 0) 0x22) _ _
    (λ q. cond_cases (λ (a : Told Literal). a ≡ Ok l → Encoded (take k (drop body s))) (ltb (body + k) (length s)) _ _
    (λ t f. let c : Encoded (drop body s) = encoded_behind body s e (raw_body s r (eqb-true (get_or s (1 + h) 0) 0x22 q)) in
    let g : get_or (drop body s) k 0 ≡ 0x22 = raw_quote h (drop body s) (omega (arith, ltb-true (body + k) (length s) t, length-drop body s)) in
    let i : get_or (drop k (drop body s)) 0 0 < 0x80 = omega (arith, head_at (drop body s) k, g) in
    (encoded_cut (take k (drop body s)) (drop k (drop body s)) (subst Encoded (sym (take-append-drop k (drop body s))) c) i).0)
    (λ t f. let z : ◌≡◌ {A = ℕ} 0 1 = cc in absurd (omega arith)))
    (λ q f. let z : ◌≡◌ {A = ℕ} 0 1 = cc in absurd (omega arith))

pub string_encoded : (s : List ℕ) (l : Literal) → Encoded s → string_of s ≡ Ok l → Encoded (string_decoded s)
unfolding string_of string_decoded
string_encoded s l e =
    either (bool_cases (eqb (get_or s 0 0) 0x22))
    (λ q. rw q (λ f. body_encoded (drop 1 s) (encoded_behind 1 s e (first_ascii s 0x22 (omega arith) (omega arith) (eqb-true (get_or s 0 0) 0x22 q)))))
    (λ q. rw q (cond_cases (λ (a : Told Literal). a ≡ Ok l → Encoded (raw_contents 1 s)) (eqb (get_or s 0 0) 0x72) _ _
    (λ t f. raw_encoded Str s l e (eqb-true (get_or s 0 0) 0x72 t) f)
    (λ t f. let z : ◌≡◌ {A = ℕ} 0 1 = cc in absurd (omega arith))))
