-- Accepted strings, chars and byte literals are decided by their own bytes: `string_closed`, `byte_string_closed`, `char_closed`, `byte_closed` say that
-- nothing behind them changes the answer. Assumes nothing.
use Rattle.std.proofs.Common.{Ok, Err}
use Rattle.text.specs.Refusals.{Told, invalid_escape, expected_byte_literal, expected_char}
use Rattle.strings.specs.declared.literal.Literal.{Literal}
use Prim.Native.Nat.{◌+◌, ◌-◌, ◌<◌, ◌≤◌, suc, zero, ℕ}
use native.Mathlib.Omega.{arith}
use mathlib.Core.Bool.{Bool, ◌||◌, cond, false, true, ◌&&◌}
use mathlib.Core.List.{List, [], ◌++◌, ◌∷◌, append_assoc}
use mathlib.Core.Path.{◌∙◌, ◌≡◌, ap, refl, subst, sym}
use lib.Dec.{eqb, leb, ltb}
use lib.ListN.{get_or-append, drop, get_or, length, length-drop, take, length-append}
use lib.Seq.{drop-append-le, take-append-le, get_or-drop}
use borrow.Author.Tests.{eqb-true, le-leb, leb-false, leb-true, lt-ltb, ltb-true, ne_eqb}
use Rattle.escapes.proofs.Closed.{closed as escape-closed, Within}
use Rattle.escapes.specs.Escapes.{escape_of, simple_of}
use Rattle.escapes.specs.declared.answers.EscapeAnswer.{EscapeAnswer}
use Rattle.escapes.specs.declared.answers.EscapeAnswer.TheVariants.{Ascii, Utf8, Refused as NoEscape}
use Rattle.escapes.specs.declared.answers.Mode.{Mode}
use Rattle.escapes.specs.declared.answers.Mode.TheVariants.{Char, Bytes, Str}
use Rattle.strings.proofs.Bounds.{Bounded-string, byte_string_bounded, string_bounded, Bounded-byte, Bounded-char, byte_bounded, char_bounded, no_quote}
use Rattle.strings.proofs.More.{align}
use Rattle.strings.proofs.PieceLaws.{Sized, behind_sized, body_step, sized}
use Rattle.strings.proofs.QuotedLaws.{run_to}
use Rattle.strings.proofs.RawLaws.{raw_read}
use Rattle.strings.proofs.Wholes.{Whole, whole_body, byte_string_whole}
use Rattle.strings.specs.Chars.{by_byte_escape, by_char_escape, byte_ends, byte_of, char_ends, char_of}
use Rattle.strings.specs.Pieces.{Body, behind_backslash, body_of, by_escape, by_piece, bytes_of, line_end, piece_of, plain, unquoted}
use Rattle.strings.specs.Pieces.Body.{closes, next, spoilt, unclosed}
use Rattle.strings.specs.Quoted.{measured, quoted_of}
use Rattle.strings.specs.Raw.{hash, raw_end, raw_of}
use Rattle.strings.specs.Strings.{byte_string_of, string_of}
use Rattle.strings.specs.declared.pieces.Decoded.TheVariants.{Nothing}
use Rattle.strings.specs.declared.pieces.Piece.{Piece}
use Rattle.strings.specs.declared.pieces.Piece.TheVariants.{Backslash, Plain, Quote}
use Rattle.strings.specs.declared.pieces.Piece.TheVariants as pieces
use Rattle.text.proofs.Choices.{bool_cases, cond_cases, either, lt_or_le}
use Rattle.text.proofs.Utf8Agree.{Head, char_scalar, char_len_char, decode_encode, head_view}
use Rattle.text.proofs.Utf8Agree.Head.{a_char, no_char}
use Rattle.text.specs.Classes.{continuation_blank}
use Rattle.text.specs.declared.reason.EscapeReason.TheVariants.{UnknownLetter}
use Rattle.text.specs.Runs.{run}
use Rattle.text.specs.Utf8.{char_len, code_of}

-- ---- what a front decides

same_at : (u v v' : List ℕ) (i : ℕ) → i < length u → get_or (u ++ v') i 0 ≡ get_or (u ++ v) i 0
same_at u v v' i h = get_or-append u v' 0 i h ∙ sym (get_or-append u v 0 i h)

-- a run that stops within the front
pub run_same : (p : ℕ → Bool) (u v v' : List ℕ) → run p (u ++ v) < length u → run p (u ++ v') ≡ run p (u ++ v)
unfolding run
run_same p [] v v' h = absurd (omega arith)
run_same p (b ∷ u) v v' h =
    either (bool_cases (p b))
    (λ e. let i : suc (run p (u ++ v)) < suc (length u) = rw e at h in rw e (ap suc (run_same p u v v' (omega arith))))
    (λ e. rw e)

-- a run over the first n bytes of the front
run_front : (p : ℕ → Bool) (n : ℕ) (u v v' : List ℕ) → n ≤ length u → n ≤ run p (u ++ v) → n ≤ run p (u ++ v')
unfolding run
run_front p zero u v v' h i = omega arith
run_front p (suc n) [] v v' h i = absurd (omega arith)
run_front p (suc n) (b ∷ u) v v' h i =
    either (bool_cases (p b))
    (λ e. let j : suc n ≤ suc (run p (u ++ v)) = rw e at i in let k = run_front p n u v v' (omega arith) (omega arith) in rw e (omega arith))
    (λ e. let j : suc n ≤ 0 = rw e at i in absurd (omega arith))

-- whether a run has n bytes, of which the front has enough
run_has : (p : ℕ → Bool) (n : ℕ) (u v v' : List ℕ) → n ≤ length u → leb n (run p (u ++ v')) ≡ leb n (run p (u ++ v))
run_has p n u v v' h =
    either (bool_cases (leb n (run p (u ++ v))))
    (λ e. le-leb n (run p (u ++ v')) (run_front p n u v v' h (leb-true n (run p (u ++ v)) e)) ∙ sym e)
    (λ e. let k = leb-false n (run p (u ++ v)) e in ap (leb n) (run_same p u v v' (omega arith)))

-- ---- pieces

-- the piece is not the last thing in k bytes
abbrev pub Less : ℕ → Piece → Type 0
Less k Quote = Unit
Less k (Plain n) = n < k
Less k (Backslash n d) = n < k
Less k (pieces.Refused r) = ⊥

by-piece : (k : ℕ) (t : Bool) (x y x' y' : Piece) → (Less k x → x' ≡ x) → (Less k y → y' ≡ y) → Less k (cond t x y) → cond t x' y' ≡ cond t x y
by-piece k true x y x' y' f g = f
by-piece k false x y x' y' f g = g

escape_within : (k : ℕ) (a : EscapeAnswer) → Less (suc k) (by_escape a) → Within k a
escape_within k (Ascii b n) h = omega arith
escape_within k (Utf8 c n) h = omega arith
escape_within k (NoEscape r) h = h

-- the same where both lists begin a line continuation, or neither does
behind_by : (m : Mode) (u v v' : List ℕ) → line_end (u ++ v') ≡ line_end (u ++ v) → Less (suc (length u)) (behind_backslash m (u ++ v)) → behind_backslash m (u ++ v') ≡ behind_backslash m (u ++ v)
unfolding behind_backslash
behind_by m u v v' e h =
    rw e
    (by-piece (suc (length u)) (line_end (u ++ v)) _ _ _ _
    (λ l. ap (λ (n : ℕ). Backslash (n + 1) Nothing) (run_same continuation_blank u v v' (omega arith)))
    (λ l. ap by_escape (escape-closed m u v v' (escape_within (length u) (escape_of m (u ++ v)) l)))
    h)

cr_run : (v : List ℕ) → 1 ≤ run continuation_blank (0x0D ∷ v)
unfolding run continuation_blank
cr_run v = omega arith

cr_escape : (m : Mode) (v : List ℕ) → escape_of m (0x0D ∷ v) ≡ NoEscape (invalid_escape UnknownLetter (char_len (0x0D ∷ v)))
unfolding escape_of simple_of
cr_escape m v = refl

-- a CR alone is no escape, and in front of LF it is no piece by itself
lone_cr : (m : Mode) (v : List ℕ) → Less 2 (behind_backslash m (0x0D ∷ v)) → ⊥
unfolding behind_backslash
lone_cr m v =
    cond_cases (λ (p : Piece). Less 2 p → ⊥) (line_end (0x0D ∷ v)) _ _
    (λ e h. omega (arith, cr_run v))
    (λ e h. subst (λ (a : EscapeAnswer). Less 2 (by_escape a)) (cr_escape m v) h)

no_cr : (a : ℕ) (v : List ℕ) → eqb a 0x0D ≡ false → line_end (a ∷ v) ≡ (eqb a 0x0A || false)
unfolding line_end
no_cr a v e = rw e

two_bytes : (a b : ℕ) (t t' : List ℕ) → line_end (a ∷ b ∷ t') ≡ line_end (a ∷ b ∷ t)
unfolding line_end
two_bytes a b t t' = refl

-- no piece with a backslash is one byte
least_one : (t : List ℕ) (p : Piece) → Sized t p → (p ≡ Quote → ⊥) → Less 1 p → ⊥
least_one t Quote z n h = n refl
least_one t (Plain k) z n h = omega arith
least_one t (Backslash k d) z n h = omega arith
least_one t (pieces.Refused r) z n h = h

no_quote_piece : (m : Mode) (v : List ℕ) → behind_backslash m v ≡ Quote → ⊥
unfolding behind_backslash
no_quote_piece m v =
    cond_cases (λ (p : Piece). p ≡ Quote → ⊥) (line_end v) _ _ (λ e q. let z : ◌≡◌ {A = ℕ} 0 1 = cc in omega arith) (λ e. by-answer (escape_of m v))
  where
    by-answer : (a : EscapeAnswer) → by_escape a ≡ Quote → ⊥
    by-answer (Ascii b n) q = let z : ◌≡◌ {A = ℕ} 0 1 = cc in omega arith
    by-answer (Utf8 c n) q = let z : ◌≡◌ {A = ℕ} 0 1 = cc in omega arith
    by-answer (NoEscape r) q = let z : ◌≡◌ {A = ℕ} 0 1 = cc in omega arith

behind_closed : (m : Mode) (u v v' : List ℕ) → Less (suc (length u)) (behind_backslash m (u ++ v)) → behind_backslash m (u ++ v') ≡ behind_backslash m (u ++ v)
behind_closed m [] v v' h = absurd (least_one (0x5C ∷ v) (behind_backslash m v) (behind_sized m 0x5C v) (no_quote_piece m v) h)
behind_closed m (a ∷ []) v v' h =
    either (bool_cases (eqb a 0x0D))
    (λ e. absurd (lone_cr m v (subst (λ (x : ℕ). Less 2 (behind_backslash m (x ∷ v))) (eqb-true a 0x0D e) h)))
    (λ e. behind_by m (a ∷ []) v v' (no_cr a v' e ∙ sym (no_cr a v e)) h)
behind_closed m (a ∷ b ∷ u) v v' h = behind_by m (a ∷ b ∷ u) v v' (two_bytes a b (u ++ v) (u ++ v')) h

pub piece_closed : (m : Mode) (b : ℕ) (u v v' : List ℕ) → Less (suc (length u)) (piece_of m (b ∷ u ++ v)) → piece_of m (b ∷ u ++ v') ≡ piece_of m (b ∷ u ++ v)
unfolding piece_of
piece_closed m b u v v' h =
    by-piece (suc (length u)) (eqb b 0x22) _ _ _ _ (λ l. refl)
    (by-piece (suc (length u)) (eqb b 0x5C) _ _ _ _ (behind_closed m u v v') (λ l. ap Plain (run_same plain (b ∷ u) v v' l)))
    h

-- ---- bodies

-- the body closes within k bytes
abbrev Closes : ℕ → Body → Type 0
Closes k closes = 1 ≤ k
Closes k unclosed = ⊥
Closes k (spoilt r) = ⊥
Closes k (next n bytes changed rest) = (n ≤ k) × Closes (k - n) rest

some_room : (k : ℕ) (t : List ℕ) (b : Body) → Whole t b → Closes k b → 1 ≤ k
some_room k t closes w c = c
some_room k t unclosed w c = absurd c
some_room k t (spoilt r) w c = absurd c
some_room k t (next n bytes changed rest) w c = omega (arith, w.0, c.0)

-- so that no piece reaches the end of the k bytes
less_by : (m : Mode) (k : ℕ) (t : List ℕ) (p : Piece) → Closes k (by_piece p t (λ n. body_of m (drop n t))) → Less k p
less_by m k t Quote c = tt
less_by m k t (Plain n) c = omega (arith, c.0, some_room (k - n) (drop n t) (body_of m (drop n t)) (whole_body m (drop n t)) c.1)
less_by m k t (Backslash n d) c = omega (arith, c.0, some_room (k - n) (drop n t) (body_of m (drop n t)) (whole_body m (drop n t)) c.1)
less_by m k t (pieces.Refused r) c = c

-- one piece, and the rest
piece_on : (m : Mode) (u v v' : List ℕ) (p : Piece) → Sized (u ++ v) p → Closes (length u) (by_piece p (u ++ v) (λ n. body_of m (drop n (u ++ v))))
    → ((n : ℕ) → 1 ≤ n → n ≤ length u → Closes (length u - n) (body_of m (drop n u ++ v)) → body_of m (drop n u ++ v') ≡ body_of m (drop n u ++ v))
    → by_piece p (u ++ v') (λ n. body_of m (drop n (u ++ v'))) ≡ by_piece p (u ++ v) (λ n. body_of m (drop n (u ++ v)))
piece_on m u v v' Quote z c rest = refl
piece_on m u v v' (Plain n) z c rest =
    let d = drop-append-le n u v c.0 in
    let d' = drop-append-le n u v' c.0 in
    let w = subst (λ (x : List ℕ). Closes (length u - n) (body_of m x)) d c.1 in
    ap (λ (x : List ℕ). next n x false (body_of m (drop n (u ++ v')))) (take-append-le n u v' c.0 ∙ sym (take-append-le n u v c.0))
    ∙ ap (next n (take n (u ++ v)) false) (ap (body_of m) d' ∙ rest n z.0 c.0 w ∙ sym (ap (body_of m) d))
piece_on m u v v' (Backslash n b) z c rest =
    let d = drop-append-le n u v c.0 in
    let d' = drop-append-le n u v' c.0 in
    let w = subst (λ (x : List ℕ). Closes (length u - n) (body_of m x)) d c.1 in
    ap (next n (bytes_of b) true) (ap (body_of m) d' ∙ rest n z.0 c.0 w ∙ sym (ap (body_of m) d))
piece_on m u v v' (pieces.Refused r) z c rest = refl

body_fuel : (m : Mode) (fuel : ℕ) (u v v' : List ℕ) → length u ≤ fuel → Closes (length u) (body_of m (u ++ v)) → body_of m (u ++ v') ≡ body_of m (u ++ v)
body_fuel m zero [] v v' h c = absurd (omega (arith, some_room 0 v (body_of m v) (whole_body m v) c))
body_fuel m (suc fuel) [] v v' h c = absurd (omega (arith, some_room 0 v (body_of m v) (whole_body m v) c))
body_fuel m zero (b ∷ u) v v' h c = absurd (omega arith)
body_fuel m (suc fuel) (b ∷ u) v v' h c =
    let t : List ℕ = b ∷ u ++ v in
    let p : Piece = piece_of m t in
    let e : body_of m t ≡ by_piece p t (λ n. body_of m (drop n t)) = body_step m t p (omega arith) refl in
    let c2 = subst (Closes (suc (length u))) e c in
    let q = piece_closed m b u v v' (less_by m (suc (length u)) t p c2) in
    body_step m (b ∷ u ++ v') p (omega arith) (sym q)
    ∙ piece_on m (b ∷ u) v v' p (sized m t (omega arith)) c2
    (λ n i j w. body_fuel m fuel (drop n (b ∷ u)) v v' (omega (arith, length-drop n (b ∷ u))) (subst (λ (k : ℕ). Closes k (body_of m (drop n (b ∷ u) ++ v))) (sym (length-drop n (b ∷ u))) w))
    ∙ sym e

body_closed : (m : Mode) (u v v' : List ℕ) → Closes (length u) (body_of m (u ++ v)) → body_of m (u ++ v') ≡ body_of m (u ++ v)
body_closed m u v v' c = body_fuel m (length u) u v v' (omega arith) c

-- ---- quoted strings

-- accepted, and taken from the first k bytes
abbrev pub Within-string : ℕ → Told Literal → Type 0
Within-string k (Ok l) = l.len ≤ k
Within-string k (Err r) = ⊥

measured_closes : (b : Body) (t : List ℕ) (k start from at dec : ℕ) (esc : Bool) → Whole t b → Within-string k (measured b start from at dec esc) → Closes (k - at) b
unfolding measured
measured_closes closes t k start from at dec esc w h = omega arith
measured_closes unclosed t k start from at dec esc w h = h
measured_closes (spoilt r) t k start from at dec esc w h = h
measured_closes (next n bytes changed rest) t k start from at dec esc w h =
    let c = measured_closes rest (drop n t) k start (cond changed (at + n) from) (at + n) (dec + length bytes) (esc || changed) w.4 h in
    let r = some_room (k - (at + n)) (drop n t) rest w.4 c in
    let e : k - (at + n) ≡ k - at - n = omega arith in
    (omega arith, subst (λ (x : ℕ). Closes x rest) e c)

-- a body that closes has a quote
body_quote : (b : Body) (t : List ℕ) (k : ℕ) → Whole t b → Closes k b → (j : ℕ) × (j < k) × (get_or t j 0 ≡ 0x22)
body_quote closes t k w c = (0, c, w.1)
body_quote unclosed t k w c = absurd c
body_quote (spoilt r) t k w c = absurd c
body_quote (next n bytes changed rest) t k w c =
    let r = body_quote rest (drop n t) (k - n) w.4 c.1 in
    (n + r.0, omega (arith, c.0, r.1), sym (get_or-drop n t r.0 0) ∙ r.2)

-- and the search for one finds it
quote_found : (u v v' : List ℕ) (m : Mode) → Closes (length u) (body_of m (u ++ v)) → run unquoted (u ++ v') < length (u ++ v')
quote_found u v v' m c =
    let q = body_quote (body_of m (u ++ v)) (u ++ v) (length u) (whole_body m (u ++ v)) c in
    omega (arith, run_to (u ++ v') q.0 (same_at u v v' q.0 q.1 ∙ q.2), q.1, length-append u v')

quoted_by : (m : Mode) (start : ℕ) (s t : List ℕ) → drop start s ≡ t → run unquoted t < length t → quoted_of m start s ≡ measured (body_of m t) start start start 0 false
unfolding quoted_of
quoted_by m start s t e h = rw (e, lt-ltb (run unquoted t) (length t) h)

quoted_within : (m : Mode) (start k : ℕ) (s : List ℕ) → Within-string k (quoted_of m start s) → Within-string k (measured (body_of m (drop start s)) start start start 0 false) × (run unquoted (drop start s) < length (drop start s))
unfolding quoted_of
quoted_within m start k s =
    cond_cases (λ (a : Told Literal). Within-string k a → Within-string k (measured (body_of m (drop start s)) start start start 0 false) × (run unquoted (drop start s) < length (drop start s)))
    (ltb (run unquoted (drop start s)) (length (drop start s))) _ _
    (λ e w. (w, ltb-true (run unquoted (drop start s)) (length (drop start s)) e)) (λ e w. absurd w)

quoted_closed : (m : Mode) (start : ℕ) (u v v' : List ℕ) → start ≤ length u → Within-string (length u) (quoted_of m start (u ++ v)) → quoted_of m start (u ++ v') ≡ quoted_of m start (u ++ v)
quoted_closed m start u v v' h w =
    let u₀ : List ℕ = drop start u in
    let d = drop-append-le start u v h in
    let d' = drop-append-le start u v' h in
    let i = quoted_within m start (length u) (u ++ v) w in
    let c0 = measured_closes (body_of m (drop start (u ++ v))) (drop start (u ++ v)) (length u) start start start 0 false (whole_body m (drop start (u ++ v))) i.0 in
    let c1 : Closes (length u - start) (body_of m (u₀ ++ v)) = subst (λ (x : List ℕ). Closes (length u - start) (body_of m x)) d c0 in
    let c : Closes (length u₀) (body_of m (u₀ ++ v)) = subst (λ (k : ℕ). Closes k (body_of m (u₀ ++ v))) (sym (length-drop start u)) c1 in
    quoted_by m start (u ++ v') (u₀ ++ v') d' (quote_found u₀ v v' m c)
    ∙ ap (λ (b : Body). measured b start start start 0 false) (body_closed m u₀ v v' c)
    ∙ sym (quoted_by m start (u ++ v) (u₀ ++ v) d (quote_found u₀ v v m c))

-- ---- raw strings

raw_step : (n b : ℕ) (t : List ℕ) → raw_end n (b ∷ t) ≡ cond (eqb b 0x22 && leb n (run hash t)) 0 (suc (raw_end n t))
unfolding raw_end
raw_step n b t = refl

raw_same : (n : ℕ) (u v v' : List ℕ) → raw_end n (u ++ v) + 1 + n ≤ length u → raw_end n (u ++ v') ≡ raw_end n (u ++ v)
raw_same n [] v v' h = absurd (omega arith)
raw_same n (b ∷ u) v v' h =
    let i : raw_end n (u ++ v) + 1 + n ≤ length u → raw_end n (u ++ v') ≡ raw_end n (u ++ v) = raw_same n u v v' in
    let e = run_has hash n u v v' (omega arith) in
    raw_step n b (u ++ v')
    ∙ ap (λ (x : Bool). cond (eqb b 0x22 && x) 0 (suc (raw_end n (u ++ v')))) e
    ∙ test i
  where
    test : (raw_end n (u ++ v) + 1 + n ≤ length u → raw_end n (u ++ v') ≡ raw_end n (u ++ v)) → cond (eqb b 0x22 && leb n (run hash (u ++ v))) 0 (suc (raw_end n (u ++ v'))) ≡ raw_end n (b ∷ u ++ v)
    test i = either (bool_cases (eqb b 0x22 && leb n (run hash (u ++ v))))
        (λ q. rw (raw_step n b (u ++ v), q))
        (λ q. let f : raw_end n (b ∷ u ++ v) ≡ suc (raw_end n (u ++ v)) = rw (raw_step n b (u ++ v), q) in
        rw q (ap suc (i (omega arith)) ∙ sym f))

-- where the hashes, the opening quote and the end of an accepted raw string are
pub record Raw-read (m : Mode) (start k : ℕ) (s : List ℕ) : Type 0 where
  pub h : ℕ
  pub n : ℕ
  pub hashes : h ≡ run hash (drop start s)
  pub end : n ≡ raw_end h (drop (start + h + 1) s)
  pub opens : get_or s (start + h) 0 ≡ 0x22
  pub long : start + h + 1 + n + 1 + h ≤ k
  pub inside : start + h + 1 + n < length s

raw_read_at : (m : Mode) (start k : ℕ) (s : List ℕ) → Within-string k (raw_of m start s) → Raw-read m start k s
unfolding raw_of
raw_read_at m start k s =
    let h = run hash (drop start s) in
    let n = raw_end h (drop (start + h + 1) s) in
    cond_cases (λ (a : Told Literal). Within-string k a → Raw-read m start k s) (eqb (get_or s (start + h) 0) 0x22) _ _
    (λ q. cond_cases (λ (a : Told Literal). Within-string k a → Raw-read m start k s) (ltb (start + h + 1 + n) (length s)) _ _
    (λ t w. record { h = h; n = n; hashes = refl; end = refl; opens = eqb-true (get_or s (start + h) 0) 0x22 q; long = w; inside = ltb-true (start + h + 1 + n) (length s) t })
    (λ t w. absurd w))
    (λ q w. absurd w)

raw_closed : (m : Mode) (start : ℕ) (u v v' : List ℕ) → start ≤ length u → Within-string (length u) (raw_of m start (u ++ v)) → raw_of m start (u ++ v') ≡ raw_of m start (u ++ v)
raw_closed m start u v v' l w =
    let r = raw_read_at m start (length u) (u ++ v) w in
    let h = r.h in
    let n = r.n in
    let body = start + h + 1 in
    let a : (x : List ℕ) → drop start (u ++ x) ≡ drop start u ++ x = λ x. drop-append-le start u x l in
    let b : (x : List ℕ) → drop body (u ++ x) ≡ drop body u ++ x = λ x. drop-append-le body u x (omega (arith, r.long)) in
    let e : h ≡ run hash (drop start u ++ v) = r.hashes ∙ ap (run hash) (a v) in
    let f : n ≡ raw_end h (drop body u ++ v) = r.end ∙ ap (raw_end h) (b v) in
    let e' : h ≡ run hash (drop start (u ++ v')) = e ∙ sym (run_same hash (drop start u) v v' (omega (arith, e, r.long, length-drop start u))) ∙ ap (run hash) (sym (a v')) in
    let f' : n ≡ raw_end h (drop body (u ++ v')) = f ∙ sym (raw_same h (drop body u) v v' (omega (arith, f, r.long, length-drop body u))) ∙ ap (raw_end h) (sym (b v')) in
    let q' : get_or (u ++ v') (start + h) 0 ≡ 0x22 = same_at u v v' (start + h) (omega (arith, r.long)) ∙ r.opens in
    raw_read m start (u ++ v') h e' n f' q' (omega (arith, r.long, length-append u v'))
    ∙ sym (raw_read m start (u ++ v) h r.hashes n r.end r.opens r.inside)

-- ---- strings

by-answer : (k : ℕ) (t : Bool) (x y x' y' : Told Literal) → (Within-string k x → x' ≡ x) → (Within-string k y → y' ≡ y) → Within-string k (cond t x y) → cond t x' y' ≡ cond t x y
by-answer k true x y x' y' f g = f
by-answer k false x y x' y' f g = g

-- no string is taken from one byte or none
long_string : (s : List ℕ) (k : ℕ) (a : Told Literal) → Bounded-string s a → (0 < k → ⊥) → Within-string k a → ⊥
long_string s k (Ok l) b h w = h (omega (arith, b.0))
long_string s k (Err r) b h w = w

pub string_closed : (u v v' : List ℕ) → Within-string (length u) (string_of (u ++ v)) → string_of (u ++ v') ≡ string_of (u ++ v)
unfolding string_of
string_closed [] v v' w = absurd (long_string v 0 (string_of v) (string_bounded v) (λ h. omega arith) w)
string_closed (b ∷ u) v v' w =
    by-answer (suc (length u)) (eqb b 0x22) _ _ _ _ (quoted_closed Str 1 (b ∷ u) v v' (omega arith))
    (by-answer (suc (length u)) (eqb b 0x72) _ _ _ _ (raw_closed Str 1 (b ∷ u) v v' (omega arith)) (λ n. absurd n)) w

-- a byte string has three bytes or more
long_byte_string : (s : List ℕ) (a : Told Literal) → byte_string_of s ≡ a → Within-string 1 a → ⊥
long_byte_string s (Ok l) e w = let z = byte_string_whole s l e in omega (arith, z.inside, z.ordered, z.behind)
long_byte_string s (Err r) e w = w

pub byte_string_closed : (u v v' : List ℕ) → Within-string (length u) (byte_string_of (u ++ v)) → byte_string_of (u ++ v') ≡ byte_string_of (u ++ v)
unfolding byte_string_of
byte_string_closed [] v v' w = absurd (long_string v 0 (byte_string_of v) (byte_string_bounded v) (λ h. omega arith) w)
byte_string_closed (a ∷ []) v v' w = absurd (long_byte_string (a ∷ v) (byte_string_of (a ∷ v)) refl w)
byte_string_closed (a ∷ b ∷ u) v v' w =
    let k : ℕ = suc (suc (length u)) in
    by-answer k (eqb a 0x62) _ _ _ _
    (by-answer k (eqb b 0x22) _ _ _ _ (quoted_closed Bytes 2 (a ∷ b ∷ u) v v' (omega arith))
    (by-answer k (eqb b 0x72) _ _ _ _ (raw_closed Bytes 2 (a ∷ b ∷ u) v v' (omega arith)) (λ n. absurd n)))
    (λ n. absurd n) w

-- ---- chars

abbrev pub Within-char : ℕ → Told (ℕ × ℕ) → Type 0
Within-char k (Ok (n, c)) = n ≤ k
Within-char k (Err r) = ⊥

by_char : (k : ℕ) (t : Bool) (x y x' y' : Told (ℕ × ℕ)) → (Within-char k x → x' ≡ x) → (Within-char k y → y' ≡ y) → Within-char k (cond t x y) → cond t x' y' ≡ cond t x y
by_char k true x y x' y' f g = f
by_char k false x y x' y' f g = g

long_char : (s : List ℕ) (k : ℕ) (a : Told (ℕ × ℕ)) → Bounded-char s a → k < 3 → Within-char k a → ⊥
long_char s k (Ok (n, c)) b h w = omega (arith, b.0)
long_char s k (Err r) b h w = w

char_ends_at : (s : List ℕ) (at c k : ℕ) → Within-char k (char_ends s at c) → at < k
unfolding char_ends
char_ends_at s at c k = cond_cases (λ (a : Told (ℕ × ℕ)). Within-char k a → at < k) (eqb (get_or s at 0) 0x27) _ _ (λ e w. omega arith) (λ e w. absurd w)

char_ends_same : (u v v' : List ℕ) (at c : ℕ) → at < length u → char_ends (u ++ v') at c ≡ char_ends (u ++ v) at c
unfolding char_ends
char_ends_same u v v' at c h = rw (same_at u v v' at h)

-- a character that stands within the front
front_by : (u v v' : List ℕ) (w : ℕ) → Head (u ++ v) w → 0 < w → w ≤ length u → (char_len (u ++ v') ≡ w) × (code_of (u ++ v') ≡ code_of (u ++ v))
front_by u v v' w no_char p h = absurd (omega arith)
front_by u v v' w (a_char {l} t {n = n} ch e q) p h =
    let r = align l t u v (sym q) (omega (arith, e)) in
    let x : u ++ v' ≡ l ++ (r.0 ++ v') = ap (λ (z : List ℕ). z ++ v') r.1 ∙ append_assoc l r.0 v' in
    let k = char_scalar l ch in
    let code : (z : List ℕ) → code_of (l ++ z) ≡ code_of l = λ z. ap (λ (y : List ℕ). code_of (y ++ z)) (sym k.1) ∙ decode_encode (code_of l) z k.0 in
    (ap char_len x ∙ char_len_char l (r.0 ++ v') ch ∙ e, ap code_of x ∙ code (r.0 ++ v') ∙ sym (ap code_of q ∙ code t))

char_front : (u v v' : List ℕ) → 0 < char_len (u ++ v) → char_len (u ++ v) ≤ length u → (char_len (u ++ v') ≡ char_len (u ++ v)) × (code_of (u ++ v') ≡ code_of (u ++ v))
char_front u v v' p h = front_by u v v' (char_len (u ++ v)) (head_view (u ++ v)) p h

-- no quote stands where no character does
none_ends : (s : List ℕ) (c k : ℕ) → eqb (get_or s 1 0) 0x27 ≡ false → Within-char k (char_ends s (1 + 0) c) → ⊥
unfolding char_ends
none_ends s c k e w = rw e at w

char_of_two : (a b : ℕ) (t : List ℕ)
    → char_of (a ∷ b ∷ t) ≡ cond (eqb a 0x27) (cond (eqb b 0x5C) (by_char_escape (a ∷ b ∷ t) (escape_of Char t)) (char_ends (a ∷ b ∷ t) (1 + char_len (b ∷ t)) (code_of (b ∷ t)))) (Err (expected_char 0))
unfolding char_of
char_of_two a b t = rw (ne_eqb (suc (suc (length t))) 1 (λ e. omega arith))

escaped_char : (a b : ℕ) (u v v' : List ℕ) (x : EscapeAnswer) → escape_of Char (u ++ v) ≡ x → Within-char (suc (suc (length u))) (by_char_escape (a ∷ b ∷ u ++ v) x)
    → by_char_escape (a ∷ b ∷ u ++ v') (escape_of Char (u ++ v')) ≡ by_char_escape (a ∷ b ∷ u ++ v) x
escaped_char a b u v v' (Ascii x n) e w =
    let h = char_ends_at (a ∷ b ∷ u ++ v) (2 + n) x (suc (suc (length u))) w in
    let i : Within (length u) (Ascii x n) = omega arith in
    ap (by_char_escape (a ∷ b ∷ u ++ v')) (escape-closed Char u v v' (subst (Within (length u)) (sym e) i) ∙ e) ∙ char_ends_same (a ∷ b ∷ u) v v' (2 + n) x h
escaped_char a b u v v' (Utf8 x n) e w =
    let h = char_ends_at (a ∷ b ∷ u ++ v) (2 + n) x (suc (suc (length u))) w in
    let i : Within (length u) (Utf8 x n) = omega arith in
    ap (by_char_escape (a ∷ b ∷ u ++ v')) (escape-closed Char u v v' (subst (Within (length u)) (sym e) i) ∙ e) ∙ char_ends_same (a ∷ b ∷ u) v v' (2 + n) x h
escaped_char a b u v v' (NoEscape r) e w = absurd w

plain_char : (a b : ℕ) (u v v' : List ℕ) → Within-char (suc (suc (length u))) (char_ends (a ∷ b ∷ u ++ v) (1 + char_len (b ∷ u ++ v)) (code_of (b ∷ u ++ v)))
    → char_ends (a ∷ b ∷ u ++ v') (1 + char_len (b ∷ u ++ v')) (code_of (b ∷ u ++ v')) ≡ char_ends (a ∷ b ∷ u ++ v) (1 + char_len (b ∷ u ++ v)) (code_of (b ∷ u ++ v))
plain_char a b u v v' w =
    let h = char_ends_at (a ∷ b ∷ u ++ v) (1 + char_len (b ∷ u ++ v)) (code_of (b ∷ u ++ v)) (suc (suc (length u))) w in
    either (lt_or_le 0 (char_len (b ∷ u ++ v)))
    (λ p. let r = char_front (b ∷ u) v v' p (omega arith) in
    ap (λ (n : ℕ). char_ends (a ∷ b ∷ u ++ v') (1 + n) (code_of (b ∷ u ++ v'))) r.0
    ∙ ap (char_ends (a ∷ b ∷ u ++ v') (1 + char_len (b ∷ u ++ v))) r.1
    ∙ char_ends_same (a ∷ b ∷ u) v v' (1 + char_len (b ∷ u ++ v)) (code_of (b ∷ u ++ v)) h)
    (λ p. let z : char_len (b ∷ u ++ v) ≡ 0 = omega arith in
    let y = no_quote (a ∷ b ∷ u ++ v) (omega arith) z in
    absurd (none_ends (a ∷ b ∷ u ++ v) (code_of (b ∷ u ++ v)) (suc (suc (length u))) y (subst (λ (n : ℕ). Within-char (suc (suc (length u))) (char_ends (a ∷ b ∷ u ++ v) (1 + n) (code_of (b ∷ u ++ v)))) z w)))

pub char_closed : (u v v' : List ℕ) → Within-char (length u) (char_of (u ++ v)) → char_of (u ++ v') ≡ char_of (u ++ v)
char_closed [] v v' w = absurd (long_char v 0 (char_of v) (char_bounded v) (omega arith) w)
char_closed (a ∷ []) v v' w = absurd (long_char (a ∷ v) 1 (char_of (a ∷ v)) (char_bounded (a ∷ v)) (omega arith) w)
char_closed (a ∷ b ∷ u) v v' w =
    let k : ℕ = suc (suc (length u)) in
    char_of_two a b (u ++ v')
    ∙ by_char k (eqb a 0x27) _ _ _ _
    (by_char k (eqb b 0x5C) _ _ _ _ (escaped_char a b u v v' (escape_of Char (u ++ v)) refl) (plain_char a b u v v'))
    (λ n. absurd n) (subst (Within-char k) (char_of_two a b (u ++ v)) w)
    ∙ sym (char_of_two a b (u ++ v))

-- ---- byte literals

abbrev pub Within-byte : ℕ → Told (ℕ × ℕ) → Type 0
Within-byte k (Ok (n, b)) = n ≤ k
Within-byte k (Err r) = ⊥

by_byte : (k : ℕ) (t : Bool) (x y x' y' : Told (ℕ × ℕ)) → (Within-byte k x → x' ≡ x) → (Within-byte k y → y' ≡ y) → Within-byte k (cond t x y) → cond t x' y' ≡ cond t x y
by_byte k true x y x' y' f g = f
by_byte k false x y x' y' f g = g

long_byte : (s : List ℕ) (k : ℕ) (a : Told (ℕ × ℕ)) → Bounded-byte s a → k < 4 → Within-byte k a → ⊥
long_byte s k (Ok (n, b)) i h w = omega (arith, i.0)
long_byte s k (Err r) i h w = w

byte_ends_at : (s : List ℕ) (at c k : ℕ) → Within-byte k (byte_ends s at c) → at < k
unfolding byte_ends
byte_ends_at s at c k = cond_cases (λ (a : Told (ℕ × ℕ)). Within-byte k a → at < k) (eqb (get_or s at 0) 0x27) _ _ (λ e w. omega arith) (λ e w. absurd w)

byte_ends_same : (u v v' : List ℕ) (at c : ℕ) → at < length u → byte_ends (u ++ v') at c ≡ byte_ends (u ++ v) at c
unfolding byte_ends
byte_ends_same u v v' at c h = rw (same_at u v v' at h)

byte_of_three : (a b c : ℕ) (t : List ℕ)
    → byte_of (a ∷ b ∷ c ∷ t) ≡ cond (eqb a 0x62 && eqb b 0x27) (cond (eqb c 0x5C) (by_byte_escape (a ∷ b ∷ c ∷ t) (escape_of Bytes t)) (cond (ltb c 0x80) (byte_ends (a ∷ b ∷ c ∷ t) 3 c) (Err (expected_byte_literal (2 + char_len (c ∷ t)))))) (Err (expected_byte_literal 0))
unfolding byte_of
byte_of_three a b c t = rw (ne_eqb (suc (suc (suc (length t)))) 2 (λ e. omega arith))

escaped_byte : (a b c : ℕ) (u v v' : List ℕ) (x : EscapeAnswer) → escape_of Bytes (u ++ v) ≡ x → Within-byte (suc (suc (suc (length u)))) (by_byte_escape (a ∷ b ∷ c ∷ u ++ v) x)
    → by_byte_escape (a ∷ b ∷ c ∷ u ++ v') (escape_of Bytes (u ++ v')) ≡ by_byte_escape (a ∷ b ∷ c ∷ u ++ v) x
escaped_byte a b c u v v' (Ascii x n) e w =
    let h = byte_ends_at (a ∷ b ∷ c ∷ u ++ v) (3 + n) x (suc (suc (suc (length u)))) w in
    let i : Within (length u) (Ascii x n) = omega arith in
    ap (by_byte_escape (a ∷ b ∷ c ∷ u ++ v')) (escape-closed Bytes u v v' (subst (Within (length u)) (sym e) i) ∙ e) ∙ byte_ends_same (a ∷ b ∷ c ∷ u) v v' (3 + n) x h
escaped_byte a b c u v v' (Utf8 x n) e w = absurd w
escaped_byte a b c u v v' (NoEscape r) e w = absurd w

pub byte_closed : (u v v' : List ℕ) → Within-byte (length u) (byte_of (u ++ v)) → byte_of (u ++ v') ≡ byte_of (u ++ v)
byte_closed [] v v' w = absurd (long_byte v 0 (byte_of v) (byte_bounded v) (omega arith) w)
byte_closed (a ∷ []) v v' w = absurd (long_byte (a ∷ v) 1 (byte_of (a ∷ v)) (byte_bounded (a ∷ v)) (omega arith) w)
byte_closed (a ∷ b ∷ []) v v' w = absurd (long_byte (a ∷ b ∷ v) 2 (byte_of (a ∷ b ∷ v)) (byte_bounded (a ∷ b ∷ v)) (omega arith) w)
byte_closed (a ∷ b ∷ c ∷ u) v v' w =
    let k : ℕ = suc (suc (suc (length u))) in
    byte_of_three a b c (u ++ v')
    ∙ by_byte k (eqb a 0x62 && eqb b 0x27) _ _ _ _
    (by_byte k (eqb c 0x5C) _ _ _ _ (escaped_byte a b c u v v' (escape_of Bytes (u ++ v)) refl)
    (by_byte k (ltb c 0x80) _ _ _ _ (λ x. byte_ends_same (a ∷ b ∷ c ∷ u) v v' 3 c (byte_ends_at (a ∷ b ∷ c ∷ u ++ v) 3 c k x)) (λ n. absurd n)))
    (λ n. absurd n) (subst (Within-byte k) (byte_of_three a b c (u ++ v)) w)
    ∙ sym (byte_of_three a b c (u ++ v))
