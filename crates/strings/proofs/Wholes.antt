-- What holds of every string that was read: its sizes, what it decodes to and to how many bytes, and that the decoding is the part itself where nothing
-- was escaped. Assumes nothing.
use Rattle.std.proofs.Common.{Ok}
use Rattle.text.specs.Refusals.{Told}
use Prim.Native.Nat.{◌+◌, ◌-◌, ◌<◌, ◌≤◌, suc, zero, ℕ}
use native.Mathlib.Omega.{arith}
use mathlib.Core.Bool.{Bool, ◌||◌, cond, false, ◌&&◌, true}
use mathlib.Core.List.{List, [], ◌++◌, ◌∷◌}
use mathlib.Core.Logic.{⊎_elim}
use mathlib.Core.Path.{◌∙◌, ◌≡◌, ap, refl, subst, sym}
use lib.Dec.{eqb, leb, ltb}
use lib.ListN.{drop, length, length-append, length-drop, take, get_or-eq_default, get_or}
use lib.Seq.{length-take-le, take-add}
use borrow.Author.Tests.{eqb-true, leb-true, ltb-true}
use Rattle.escapes.specs.declared.answers.Mode.{Mode}
use Rattle.escapes.specs.declared.answers.Mode.TheVariants.{Bytes, Str}
use Rattle.strings.proofs.PieceLaws.{Sized, body_end, body_step, sized}
use Rattle.strings.specs.Pieces.{Body, body_of, by_piece, decoded_len, decoded_of, piece_of, unquoted}
use Rattle.strings.specs.Pieces.Body.{closes, next, spoilt, unclosed}
use Rattle.strings.specs.Quoted.{literal, measured, quoted_of}
use Rattle.strings.specs.Raw.{hash, raw_contents, raw_end, raw_of}
use Rattle.strings.specs.Strings.{part_decoded, byte_string_decoded, byte_string_of, string_decoded, string_of}
use Rattle.strings.specs.declared.literal.Literal.{Literal}
use Rattle.strings.specs.declared.pieces.Piece.{Piece}
use Rattle.strings.specs.declared.pieces.Piece.TheVariants.{Backslash, Plain, Quote, Refused}
use Rattle.text.proofs.Choices.{or_left, or_right, and_true, bool_cases, cond_cases, either, lt_or_le}
use Rattle.text.proofs.RunLaws.{run_le}
use Rattle.text.specs.Runs.{run}

-- ---- a body over its list

-- every piece lies within t, decodes to no more bytes than it has, and stands for itself unless it begins with a backslash
abbrev pub Whole : List ℕ → Body → Type 0
Whole t closes = (1 ≤ length t) × (get_or t 0 0 ≡ 0x22)
Whole t unclosed = Unit
Whole t (spoilt r) = r.place ≤ length t
Whole t (next n bytes changed rest) = (1 ≤ n) × (n ≤ length t) × (length bytes ≤ n) × (changed ≡ false → bytes ≡ take n t) × Whole (drop n t) rest

whole_by : (m : Mode) (t : List ℕ) (p : Piece) → Sized t p → ((n : ℕ) → 1 ≤ n → n ≤ length t → Whole (drop n t) (body_of m (drop n t))) → Whole t (by_piece p t (λ n. body_of m (drop n t)))
unfolding decoded_len
whole_by m t Quote z rest = z
whole_by m t (Plain n) z rest = (z.0, z.1, omega (arith, length-take-le n t z.1), λ e. refl, rest n z.0 z.1)
whole_by m t (Backslash n d) z rest = (z.0, z.1, z.2, λ e. (let x : ◌≡◌ {A = ℕ} 0 1 = cc in absurd (omega arith)), rest n z.0 z.1)
whole_by m t (Refused r) z rest = z

whole_fuel : (m : Mode) (fuel : ℕ) (t : List ℕ) → length t ≤ fuel → Whole t (body_of m t)
whole_fuel m zero [] h = subst (Whole []) (sym (body_end m [] refl)) tt
whole_fuel m (suc fuel) [] h = subst (Whole []) (sym (body_end m [] refl)) tt
whole_fuel m zero (b ∷ t) h = absurd (omega arith)
whole_fuel m (suc fuel) (b ∷ t) h =
    subst (Whole (b ∷ t)) (sym (body_step m (b ∷ t) (piece_of m (b ∷ t)) (omega arith) refl))
    (whole_by m (b ∷ t) (piece_of m (b ∷ t)) (sized m (b ∷ t) (omega arith)) (λ n p q. whole_fuel m fuel (drop n (b ∷ t)) (omega (arith, length-drop n (b ∷ t)))))

pub whole_body : (m : Mode) (t : List ℕ) → Whole t (body_of m t)
whole_body m t = whole_fuel m (length t) t (omega arith)

-- ---- what it comes to

-- a string that was read from t, at the place `at`, with so many bytes decoded before it
pub record Measured (t bytes : List ℕ) (start at dec : ℕ) (esc : Bool) (l : Literal) : Type 0 where
  pub starts : l.start ≡ start
  pub behind : at ≤ l.end
  pub within : l.end < at + length t
  pub quote : l.len ≡ l.end + 1
  pub count : l.decoded ≡ dec + length bytes
  pub short : length bytes ≤ l.end - at
  pub same : l.escaped ≡ false → (esc ≡ false) × (bytes ≡ take (l.end - at) t)

-- two parts in a row
take_join : (t : List ℕ) (n k : ℕ) → take n t ++ take k (drop n t) ≡ take (n + k) t
take_join t n k = sym (take-add n k t)

false_or : (s t : Bool) → (s || t) ≡ false → (s ≡ false) × (t ≡ false)
false_or s t e = (or_left s t e, or_right s t e)

pub measured_read : (b : Body) (t : List ℕ) (start from at dec : ℕ) (esc : Bool) (l : Literal) → Whole t b → measured b start from at dec esc ≡ Ok l → Measured t (decoded_of b) start at dec esc l
unfolding measured decoded_of
measured_read closes t start from at dec esc l w e =
    let q : literal (at + 1) start at dec esc ≡ l = cc in
    subst (Measured t [] start at dec esc) q
    (record { starts = refl; behind = omega arith; within = omega (arith, w.0); quote = refl; count = omega arith; short = omega arith; same = λ f. (f, (let z : at - at ≡ 0 = omega arith in rw z)) })
measured_read unclosed t start from at dec esc l w e = let z : ◌≡◌ {A = ℕ} 0 1 = cc in absurd (omega arith)
measured_read (spoilt r) t start from at dec esc l w e = let z : ◌≡◌ {A = ℕ} 0 1 = cc in absurd (omega arith)
measured_read (next n bytes changed rest) t start from at dec esc l w e =
    let r = measured_read rest (drop n t) start (cond changed (at + n) from) (at + n) (dec + length bytes) (esc || changed) l w.4 e in
    let d = length-drop n t in
    record {
      starts = r.starts;
      behind = omega (arith, r.behind);
      within = omega (arith, r.within, w.1);
      quote = r.quote;
      count = omega (arith, r.count, length-append bytes (decoded_of rest));
      short = omega (arith, r.short, r.behind, w.2, length-append bytes (decoded_of rest));
      same = λ f. (let g = r.same f in
          let h = false_or esc changed g.0 in
          let k : l.end - at ≡ n + (l.end - (at + n)) = omega (arith, r.behind) in
          (h.0, rw k (ap (λ (x : List ℕ). x ++ decoded_of rest) (w.3 h.1) ∙ ap (λ (x : List ℕ). take n t ++ x) g.1 ∙ take_join t n (l.end - (at + n)))));
    }

-- ---- a string

-- a string of s that was read, and the bytes that it decodes to
pub record Whole-string (m : Mode) (s bytes : List ℕ) (l : Literal) : Type 0 where
  pub fits : l.len ≤ length s
  pub inside : l.end < l.len
  pub ordered : l.start ≤ l.end
  pub behind : 0 < l.start
  pub count : length bytes ≡ l.decoded
  pub short : l.decoded ≤ l.end - l.start
  pub same : l.escaped ≡ false → bytes ≡ take (l.end - l.start) (drop l.start s)
  pub part : bytes ≡ part_decoded m (drop l.start s) (l.end - l.start) l.escaped

part_of : (m : Mode) (t bytes : List ℕ) (n : ℕ) (esc : Bool) → bytes ≡ decoded_of (body_of m t) → (esc ≡ false → bytes ≡ take n t) → bytes ≡ part_decoded m t n esc
part_of m t bytes n true e f = e
part_of m t bytes n false e f = f refl

whole_quoted : (m : Mode) (start : ℕ) (s : List ℕ) (l : Literal) → 0 < start → start ≤ length s → Measured (drop start s) (decoded_of (body_of m (drop start s))) start start 0 false l
    → Whole-string m s (decoded_of (body_of m (drop start s))) l
whole_quoted m start s l p h r =
    let d = length-drop start s in
    let at : start ≡ l.start = sym r.starts in
    let same : l.escaped ≡ false → decoded_of (body_of m (drop start s)) ≡ take (l.end - l.start) (drop l.start s) = λ f. subst (λ (x : ℕ). decoded_of (body_of m (drop start s)) ≡ take (l.end - x) (drop x s)) at (r.same f).1 in
    record {
      fits = omega (arith, r.quote, r.within);
      inside = omega (arith, r.quote);
      ordered = omega (arith, r.behind);
      behind = omega arith;
      count = omega (arith, r.count);
      short = omega (arith, r.count, r.short);
      same = same;
      part = part_of m (drop l.start s) (decoded_of (body_of m (drop start s))) (l.end - l.start) l.escaped (ap (λ (x : ℕ). decoded_of (body_of m (drop x s))) at) same;
    }

pub quoted_whole : (m : Mode) (start : ℕ) (s : List ℕ) (l : Literal) → 0 < start → start ≤ length s → quoted_of m start s ≡ Ok l → Whole-string m s (decoded_of (body_of m (drop start s))) l
unfolding quoted_of
quoted_whole m start s l p h =
    cond_cases (λ (a : Told Literal). a ≡ Ok l → Whole-string m s (decoded_of (body_of m (drop start s))) l)
    (ltb (run unquoted (drop start s)) (length (drop start s))) _ _
    (λ t e. whole_quoted m start s l p h (measured_read (body_of m (drop start s)) (drop start s) start start start 0 false l (whole_body m (drop start s)) e))
    (λ t e. let z : ◌≡◌ {A = ℕ} 0 1 = cc in absurd (omega arith))

-- the end of a raw string and its hashes lie within the text
raw_fits : (n : ℕ) (t : List ℕ) → raw_end n t < length t → raw_end n t + 1 + n ≤ length t
unfolding raw_end
raw_fits n [] = λ h. absurd (omega arith)
raw_fits n (b ∷ t) =
    let i : raw_end n t < length t → raw_end n t + 1 + n ≤ length t = raw_fits n t in
    cond_cases (λ (k : ℕ). k < suc (length t) → k + 1 + n ≤ suc (length t)) (eqb b 0x22 && leb n (run hash t)) _ _
    (λ e h. omega (arith, leb-true n (run hash t) (and_true (eqb b 0x22) (leb n (run hash t)) e).1, run_le hash t))
    (λ e h. omega (arith, i (omega arith)))

raw_literal : (m : Mode) (s : List ℕ) (h body k : ℕ) → k ≡ raw_end h (drop body s) → 0 < body → body + k < length s
    → Whole-string m s (take k (drop body s)) (literal (body + k + 1 + h) body (body + k) (body + k - body) false)
raw_literal m s h body k e p l =
    let d = length-drop body s in
    let f : k + 1 + h ≤ length (drop body s) = rw (sym e) at (raw_fits h (drop body s) (omega (arith, e))) in
    let c : length (take k (drop body s)) ≡ k = length-take-le k (drop body s) (omega arith) in
    let n : body + k - body ≡ k = omega arith in
    let same : take k (drop body s) ≡ take (body + k - body) (drop body s) = ap (λ (x : ℕ). take x (drop body s)) (sym n) in
    record {
      fits = omega arith;
      inside = omega arith;
      ordered = omega arith;
      behind = p;
      count = omega arith;
      short = omega arith;
      same = λ g. same;
      part = same;
    }

pub raw_whole : (m : Mode) (start : ℕ) (s : List ℕ) (l : Literal) → raw_of m start s ≡ Ok l → Whole-string m s (raw_contents start s) l
unfolding raw_of raw_contents
raw_whole m start s l =
    let h = run hash (drop start s) in
    let body = start + h + 1 in
    let k = raw_end h (drop body s) in
    cond_cases (λ (a : Told Literal). a ≡ Ok l → Whole-string m s (take k (drop body s)) l) (eqb (get_or s (start + h) 0) 0x22) _ _
    (λ q. cond_cases (λ (a : Told Literal). a ≡ Ok l → Whole-string m s (take k (drop body s)) l) (ltb (body + k) (length s)) _ _
    (λ t e. let i : literal (body + k + 1 + h) body (body + k) (body + k - body) false ≡ l = cc in
    subst (Whole-string m s (take k (drop body s))) i (raw_literal m s h body k refl (omega arith) (ltb-true (body + k) (length s) t)))
    (λ t e. let z : ◌≡◌ {A = ℕ} 0 1 = cc in absurd (omega arith)))
    (λ q e. let z : ◌≡◌ {A = ℕ} 0 1 = cc in absurd (omega arith))

-- ---- the theorems: sizes, what a string decodes to and how long that is, and that it is the part itself where nothing was escaped

pub none_here : (s : List ℕ) (i x : ℕ) → 0 < x → eqb (get_or s i 0) x ≡ true → i < length s
none_here s i x p e = ⊎_elim (λ h. h) (λ h. (let z : get_or s i 0 ≡ 0 = get_or-eq_default s 0 h in absurd (omega (arith, eqb-true (get_or s i 0) x e)))) (lt_or_le i (length s))

pub string_whole : (s : List ℕ) (l : Literal) → string_of s ≡ Ok l → Whole-string Str s (string_decoded s) l
unfolding string_of string_decoded
string_whole s l =
    either (bool_cases (eqb (get_or s 0 0) 0x22))
    (λ q. rw q (λ e. quoted_whole Str 1 s l (omega arith) (none_here s 0 0x22 (omega arith) q) e))
    (λ q. rw q (cond_cases (λ (a : Told Literal). a ≡ Ok l → Whole-string Str s (raw_contents 1 s) l) (eqb (get_or s 0 0) 0x72) _ _
    (λ t e. raw_whole Str 1 s l e)
    (λ t e. let z : ◌≡◌ {A = ℕ} 0 1 = cc in absurd (omega arith))))

pub byte_string_whole : (s : List ℕ) (l : Literal) → byte_string_of s ≡ Ok l → Whole-string Bytes s (byte_string_decoded s) l
unfolding byte_string_of byte_string_decoded
byte_string_whole s l =
    cond_cases (λ (a : Told Literal). a ≡ Ok l → Whole-string Bytes s (byte_string_decoded s) l) (eqb (get_or s 0 0) 0x62) _ _
    (λ p. either (bool_cases (eqb (get_or s 1 0) 0x22))
    (λ q. rw q (λ e. quoted_whole Bytes 2 s l (omega arith) (none_here s 1 0x22 (omega arith) q) e))
    (λ q. rw q (cond_cases (λ (a : Told Literal). a ≡ Ok l → Whole-string Bytes s (raw_contents 2 s) l) (eqb (get_or s 1 0) 0x72) _ _
    (λ t e. raw_whole Bytes 2 s l e)
    (λ t e. let z : ◌≡◌ {A = ℕ} 0 1 = cc in absurd (omega arith)))))
    (λ p e. let z : ◌≡◌ {A = ℕ} 0 1 = cc in absurd (omega arith))
