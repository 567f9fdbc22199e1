-- RON's token reader owes what crate arriving asks for: `ron`. Assumes nothing.
use Rattle.std.proofs.Common.{Ok, Err}
use Rattle.strings.specs.declared.literal.Literal.{Literal}
use Rattle.tokens.specs.declared.lexeme.Lexeme.{Lexeme}
use Prim.Native.Nat.{ℕ, ◌+◌, ◌-◌, ◌<◌, ◌≤◌, suc}
use native.Mathlib.Omega.{arith}
use mathlib.Core.Bool.{true, false, not}
use mathlib.Core.Logic.{◌⊎◌, inl, inr}
use mathlib.Core.List.{List, [], ◌++◌, ◌∷◌, append_assoc, append-nil}
use mathlib.Core.Path.{◌≡◌, ap, refl, sym, subst, ◌∙◌}
use lib.Dec.{eqb, leb}
use lib.ListN.{drop, get_or, length, length-append, length-drop, take, take-append-drop}
use lib.Seq.{drop-append-le, length-take-le}
use borrow.Author.Tests.{eq-eqb, eqb-true, leb-true, ltb-true, not-true}
use Rattle.text.proofs.Choices.{and_true, either, lt_or_le, or_cases, or_left}
use Rattle.text.proofs.Utf8Laws.{char_len_ascii}
use Rattle.text.specs.Classes.{ascii_next, ascii_raw, digit, hex_digit, int_char, letter, one_of, within}
use Rattle.text.specs.Refusals.{placed_behind, unexpected_char, Told}
use Rattle.text.specs.Utf8.{char_len}
use Rattle.text.specs.declared.refusal.Refusal.{Refusal}
use Rattle.attributes.specs.Attributes.{attribute_of}
use Rattle.comments.proofs.GapLaws.{EndsBy, gap_bounded}
use Rattle.comments.proofs.GapWindow.{gap_stop}
use Rattle.comments.specs.Gaps.{gap_of}
use Rattle.comments.specs.declared.gap.Gap.{Gap}
use Rattle.comments.specs.declared.gap.Gap.TheVariants as gap
use Rattle.escapes.specs.Escapes.{hex_of}
use Rattle.hexes.proofs.HexLaws.{hex_none}
use Rattle.integers.proofs.IntegerStops.{out_int}
use Rattle.reading.proofs.QuietLaws.{at_quiet, quiet_behind}
use Rattle.reading.specs.Kept.{last_quiet}
use Rattle.reading.specs.Tokens.{refuse, stop}
use Rattle.strings.specs.Chars.{byte_of, char_of}
use Rattle.strings.specs.Strings.{byte_string_of, string_of}
use Rattle.tokens.proofs.RonLaws.{gap_end, gap_token}
use Rattle.tokens.specs.Lexemes.{lexeme_of}
use Rattle.tokens.specs.Ron.{by_gap, lexeme_behind, ron_token}
use Rattle.tokens.specs.Token.{by_shape, of_attribute, of_byte, of_byte_string, of_char, of_string, token_of}
use Rattle.tokens.specs.declared.shape.Shape.{Shape}
use Rattle.tokens.specs.declared.shape.Shape.TheVariants as shape
use Rattle.arriving.specs.Owing.{Owes, tells_end}
use Rattle.settled.proofs.AttributeEnds.{attribute_stays}
use Rattle.settled.proofs.EscapeEnds.{Plain}
use Rattle.settled.proofs.GapEnds.{gap_char, slash_stays}
use Rattle.settled.proofs.NothingEnds.{Nothing, nothing, nothing_stays}
use Rattle.settled.proofs.QuoteEnds.{byte_stays, byte_string_stays, char_stays, string_stays}
use Rattle.settled.proofs.RonArrives.{closers, deciders, ron_closed, ron_laws}
use Rattle.settled.proofs.TokenEnds.{out, shape_same, word_stays}
use Rattle.settled.proofs.WordEnds.{not_byte, stop_ascii}
use Rattle.settled.specs.Bytes.{stops_byte}
use Rattle.settled.specs.Settled.{behind_slash, by_lexeme, once_behind, quoted_stays, ron_once, ron_reader, ron_settles, settled_behind, shape_in, spoilt_for, starts_nothing, stays_by, stop_from}
use Rattle.settled.specs.Stood.{attribute_stood}

-- ---- stop bytes in what has come

-- a part split at a stop byte that stands at n or behind it
record Split (n : ℕ) (p : List ℕ) : Type 0 where
  front : List ℕ
  mark : ℕ
  back : List ℕ
  whole : p ≡ front ++ mark ∷ back
  stops : stops_byte mark ≡ true
  far : n ≤ length front

split : (n : ℕ) (p : List ℕ) → stop_from n p ≡ true → Split n p
unfolding stop_from
split n p h =
    let pos : 0 < last_quiet stops_byte (drop n p) = ltb-true 0 (last_quiet stops_byte (drop n p)) (sym (quiet_behind stops_byte (drop n p) 0) ∙ h) in
    let k = at_quiet stops_byte (drop n p) pos in
    let l : length (drop n p) ≡ length k.front + suc (length k.back) = ap length k.whole ∙ length-append k.front (k.mark ∷ k.back) in
    let le : n ≤ length p = omega (arith, length-drop n p) in
    record {
      front = take n p ++ k.front;
      mark = k.mark;
      back = k.back;
      whole = sym (take-append-drop n p) ∙ ap (λ (x : List ℕ). take n p ++ x) k.whole ∙ sym (append_assoc (take n p) k.front (k.mark ∷ k.back));
      stops = k.is_quiet;
      far = omega (arith, length-take-le n p le, length-append (take n p) k.front);
    }

any : {n : ℕ} {p : List ℕ} → Split n p → Split 0 p
any d = record { front = d.front; mark = d.mark; back = d.back; whole = d.whole; stops = d.stops; far = omega arith }

no_digit : (c : ℕ) → stops_byte c ≡ true → hex_digit c ≡ false
unfolding int_char
no_digit c is = or_left (hex_digit c) (eqb c 0x5f) (out_int (out c is))

-- such a byte is no hex digit, no letter and no backslash
plain_stop : (c : ℕ) → stops_byte c ≡ true → Plain c
unfolding stops_byte ascii_raw ascii_next letter digit within
plain_stop c is = record {
  low = stop_ascii c is;
  no_hex = eq-eqb (hex_of c) 16 (hex_none c (no_digit c is));
  no_x = not_byte c is 0x78 refl;
  no_u = not_byte c is 0x75 refl;
  no_slash = not_byte c is 0x5C refl;
}

-- ---- each reader

of-string : (a : Told Literal) (r : Refusal) → lexeme_of (of_string a) ≡ Err r → a ≡ Err r
of-string (Ok l) r h = let z : ◌≡◌ {A = ℕ} 0 1 = cc in absurd (omega arith)
of-string (Err q) r h = let e : q ≡ r = cc in ap Err e

of-byte-string : (a : Told Literal) (r : Refusal) → lexeme_of (of_byte_string a) ≡ Err r → a ≡ Err r
of-byte-string (Ok l) r h = let z : ◌≡◌ {A = ℕ} 0 1 = cc in absurd (omega arith)
of-byte-string (Err q) r h = let e : q ≡ r = cc in ap Err e

of-char : (a : Told (ℕ × ℕ)) (r : Refusal) → lexeme_of (of_char a) ≡ Err r → a ≡ Err r
of-char (Ok (n, k)) r h = let z : ◌≡◌ {A = ℕ} 0 1 = cc in absurd (omega arith)
of-char (Err q) r h = let e : q ≡ r = cc in ap Err e

of-byte : (a : Told (ℕ × ℕ)) (r : Refusal) → lexeme_of (of_byte a) ≡ Err r → a ≡ Err r
of-byte (Ok (n, k)) r h = let z : ◌≡◌ {A = ℕ} 0 1 = cc in absurd (omega arith)
of-byte (Err q) r h = let e : q ≡ r = cc in ap Err e

of-attribute : (a : Told (ℕ × ℕ)) (r : Refusal) → lexeme_of (of_attribute a) ≡ Err r → a ≡ Err r
of-attribute (Ok (n, k)) r h = let z : ◌≡◌ {A = ℕ} 0 1 = cc in absurd (omega arith)
of-attribute (Err q) r h = let e : q ≡ r = cc in ap Err e

record Quoted (from : ℕ) (p : List ℕ) (r : Refusal) : Type 0 where
  late : from ≤ r.place
  at : Split r.place p

quoted : (from : ℕ) (p : List ℕ) (r : Refusal) → quoted_stays from p r ≡ true → Quoted from p r
unfolding quoted_stays
quoted from p r h =
    let x = and_true (leb from r.place) (stop_from r.place p) h in
    record { late = leb-true from r.place x.0; at = split r.place p x.1 }

-- a refusal that stays has a stop byte behind its start
some : (p : List ℕ) (r : Refusal) (k : Shape) → stays_by k p r ≡ true → Split 0 p
some p r (shape.Mark kind) t = let z : ◌≡◌ {A = ℕ} 0 1 = cc in absurd (omega arith)
some p r shape.Attribute t = any (split (attribute_stood p) p t)
some p r shape.Str t = any (quoted 1 p r t).at
some p r shape.Char t = any (quoted 1 p r t).at
some p r shape.Byte t = any (quoted 2 p r t).at
some p r shape.ByteStr t = any (quoted 2 p r t).at
some p r shape.Number t = split 0 p t
some p r shape.Word t = split 0 p t

module _ (p v : List ℕ) (r : Refusal) (no-end : r.number ≡ 17 → ⊥) where
  -- a reader of p, split at a stop byte, and behind that v
  on_split : {A : Type 0} {n : ℕ} (f : List ℕ → A) (g : A → Told Lexeme) (a : A) (k : Split n p) → f ((k.front ++ k.mark ∷ k.back) ++ v) ≡ a → g (f (p ++ v)) ≡ g a
  on_split f g a k e = ap (λ (x : List ℕ). g (f (x ++ v))) k.whole ∙ ap g e

  unquoted_stays : (k : Shape) → (k ≡ shape.Number) ⊎ (k ≡ shape.Word) → Split 0 p → by_shape k (p ++ v) ≡ by_shape k p
  unquoted_stays k e d =
      ap (by_shape k) (ap (λ (x : List ℕ). x ++ v) d.whole ∙ append_assoc d.front (d.mark ∷ d.back) v)
      ∙ word_stays d.mark d.stops d.front d.back (d.back ++ v) k e ∙ ap (by_shape k) (sym d.whole)

  by-shape : (k : Shape) → stays_by k p r ≡ true → lexeme_of (by_shape k p) ≡ Err r → lexeme_of (by_shape k (p ++ v)) ≡ Err r
  by-shape (shape.Mark kind) t h = h
  by-shape shape.Number t h = ap lexeme_of (unquoted_stays shape.Number (inl refl) (split 0 p t)) ∙ h
  by-shape shape.Word t h = ap lexeme_of (unquoted_stays shape.Word (inr refl) (split 0 p t)) ∙ h
  by-shape shape.Attribute t h =
      let k = split (attribute_stood p) p t in
      let was : attribute_of (k.front ++ k.mark ∷ k.back) ≡ Err r = ap attribute_of (sym k.whole) ∙ of-attribute (attribute_of p) r h in
      let far : attribute_stood (k.front ++ k.mark ∷ k.back) ≤ length k.front = subst (λ (x : List ℕ). attribute_stood x ≤ length k.front) k.whole k.far in
      on_split attribute_of (λ (x : Told (ℕ × ℕ)). lexeme_of (of_attribute x)) (Err r) k
      (attribute_stays k.mark k.stops (plain_stop k.mark k.stops) k.front k.back v r was no-end far)
  by-shape shape.Str t h =
      let q = quoted 1 p r t in
      let k = q.at in
      let was : string_of (k.front ++ k.mark ∷ k.back) ≡ Err r = ap string_of (sym k.whole) ∙ of-string (string_of p) r h in
      on_split string_of (λ (x : Told Literal). lexeme_of (of_string x)) (Err r) k
      (string_stays k.mark (plain_stop k.mark k.stops) k.front k.back v r (omega (arith, q.late, k.far)) was no-end k.far)
  by-shape shape.ByteStr t h =
      let q = quoted 2 p r t in
      let k = q.at in
      let was : byte_string_of (k.front ++ k.mark ∷ k.back) ≡ Err r = ap byte_string_of (sym k.whole) ∙ of-byte-string (byte_string_of p) r h in
      on_split byte_string_of (λ (x : Told Literal). lexeme_of (of_byte_string x)) (Err r) k
      (byte_string_stays k.mark (plain_stop k.mark k.stops) k.front k.back v r (omega (arith, q.late, k.far)) was no-end k.far)
  by-shape shape.Char t h =
      let q = quoted 1 p r t in
      let k = q.at in
      let was : char_of (k.front ++ k.mark ∷ k.back) ≡ Err r = ap char_of (sym k.whole) ∙ of-char (char_of p) r h in
      on_split char_of (λ (x : Told (ℕ × ℕ)). lexeme_of (of_char x)) (Err r) k
      (char_stays k.mark (plain_stop k.mark k.stops) k.front k.back v r (omega (arith, q.late, k.far)) was k.far)
  by-shape shape.Byte t h =
      let q = quoted 2 p r t in
      let k = q.at in
      let was : byte_of (k.front ++ k.mark ∷ k.back) ≡ Err r = ap byte_of (sym k.whole) ∙ of-byte (byte_of p) r h in
      on_split byte_of (λ (x : Told (ℕ × ℕ)). lexeme_of (of_byte x)) (Err r) k
      (byte_stays k.mark (plain_stop k.mark k.stops) k.front k.back v r (omega (arith, q.late, k.far)) was k.far)

  token_stays : stays_by (shape_in p) p r ≡ true → lexeme_of (token_of p) ≡ Err r → lexeme_of (token_of (p ++ v)) ≡ Err r
  unfolding token_of
  token_stays t h =
      let d = some p r (shape_in p) t in
      let long : p ++ v ≡ d.front ++ d.mark ∷ (d.back ++ v) = ap (λ (s : List ℕ). s ++ v) d.whole ∙ append_assoc d.front (d.mark ∷ d.back) v in
      let shapes : shape_in (p ++ v) ≡ shape_in p = ap shape_in long ∙ shape_same d.mark d.stops d.front (d.back ++ v) d.back ∙ ap shape_in (sym d.whole) in
      ap (λ (x : Shape). lexeme_of (by_shape x (p ++ v))) shapes ∙ by-shape (shape_in p) t h

-- ---- the first token

-- a refusal behind a gap of g bytes that stays
record Stays (s : List ℕ) (g : ℕ) : Type 0 where
  why : Refusal
  no-end : tells_end why ≡ false
  is : lexeme_of (token_of (drop g s)) ≡ Err why
  later : (v : List ℕ) → lexeme_of (token_of (drop g s ++ v)) ≡ Err why
  clear : (v : List ℕ) → gap_of (s ++ v) ≡ gap.Clear g

no_end_5 : (r : Refusal) → r.number ≡ 5 → tells_end r ≡ false
unfolding tells_end
no_end_5 r e = subst (λ (n : ℕ). one_of (4 ∷ 6 ∷ 17 ∷ []) n ≡ false) (sym e) refl

starts_not : (s : List ℕ) (g : ℕ) → gap_of s ≡ gap.Clear g → Nothing (drop g s) → Stays s g
starts_not s g e h = record {
  why = unexpected_char 0;
  no-end = no_end_5 (unexpected_char 0) refl;
  is = ap (λ (x : List ℕ). lexeme_of (token_of x)) (sym (append-nil (drop g s))) ∙ ap lexeme_of (nothing_stays (drop g s) [] h);
  later = λ v. ap lexeme_of (nothing_stays (drop g s) v h);
  clear = λ v. gap_char s v g e h.come;
}

-- the gap before it does not depend on what comes either
gap_stays : (s v : List ℕ) (g : ℕ) → gap_of s ≡ gap.Clear g → g ≤ length s → Split 0 (drop g s) → gap_of (s ++ v) ≡ gap.Clear g
gap_stays s v g e le k =
    let c : ℕ = k.mark in
    let u : List ℕ = take g s ++ k.front in
    let was : s ≡ u ++ c ∷ k.back = sym (take-append-drop g s) ∙ ap (λ (x : List ℕ). take g s ++ x) k.whole ∙ sym (append_assoc (take g s) k.front (c ∷ k.back)) in
    let now : s ++ v ≡ u ++ c ∷ (k.back ++ v) = ap (λ (x : List ℕ). x ++ v) was ∙ append_assoc u (c ∷ k.back) v in
    let long : length u ≡ g + length k.front = omega (arith, length-append (take g s) k.front, length-take-le g s le) in
    either (lt_or_le g (length u))
    (λ i. ap gap_of now ∙ gap_stop u k.back (k.back ++ v) c g (stop_ascii c k.stops) (ap gap_of (sym was) ∙ e) i)
    (λ i. gap_char s v g e (subst (λ (x : List ℕ). 0 < char_len x) (sym k.whole) (first_come k.front c k.back (omega arith) (stop_ascii c k.stops))))
  where
    first_come : (f : List ℕ) (c : ℕ) (b : List ℕ) → length f ≡ 0 → c < 0x80 → 0 < char_len (f ++ c ∷ b)
    first_come [] c b h low = omega (arith, char_len_ascii (c ∷ b) (omega arith) low)
    first_come (x ∷ f) c b h low = absurd (omega arith)

not_17 : (r : Refusal) → tells_end r ≡ false → r.number ≡ 17 → ⊥
unfolding tells_end
not_17 r h e =
    let y : one_of (4 ∷ 6 ∷ 17 ∷ []) r.number ≡ true = subst (λ (n : ℕ). one_of (4 ∷ 6 ∷ 17 ∷ []) n ≡ true) (sym e) refl in
    let z : true ≡ false = sym y ∙ h in
    let k : ◌≡◌ {A = ℕ} 0 1 = cc in omega arith

by-lexeme : (s : List ℕ) (g : ℕ) → gap_of s ≡ gap.Clear g → g ≤ length s → (a : Told Lexeme) → lexeme_of (token_of (drop g s)) ≡ a
    → by_lexeme a (stays_by (shape_in (drop g s)) (drop g s)) ≡ true → Stays s g
by-lexeme s g e le (Ok l) i h = let z : ◌≡◌ {A = ℕ} 0 1 = cc in absurd (omega arith)
by-lexeme s g e le (Err r) i h =
    let p : List ℕ = drop g s in
    let x = and_true (not (tells_end r)) (stays_by (shape_in p) p r) h in
    let n : tells_end r ≡ false = not-true (tells_end r) x.0 in
    record {
      why = r;
      no-end = n;
      is = i;
      later = λ v. token_stays p v r (not_17 r n) x.1 i;
      clear = λ v. gap_stays s v g e le (some p r (shape_in p) x.1);
    }

stays : (s : List ℕ) (g : ℕ) → gap_of s ≡ gap.Clear g → g ≤ length s → spoilt_for (drop g s) ≡ true → Stays s g
unfolding spoilt_for
stays s g e le h =
    let p : List ℕ = drop g s in
    go (or_cases (starts_nothing p) (by_lexeme (lexeme_of (token_of p)) (stays_by (shape_in p) p)) h)
  where
    go : (starts_nothing (drop g s) ≡ true) ⊎ (by_lexeme (lexeme_of (token_of (drop g s))) (stays_by (shape_in (drop g s)) (drop g s)) ≡ true) → Stays s g
    go (inl n) = starts_not s g e (nothing (drop g s) n)
    go (inr b) = by-lexeme s g e le (lexeme_of (token_of (drop g s))) refl b

record Slash (s : List ℕ) (r : Refusal) : Type 0 where
  five : r.number ≡ 5
  whole : eqb (get_or s (r.place - 1) 0) 0x2f ≡ false

slash : (s : List ℕ) (r : Refusal) → behind_slash s r ≡ true → Slash s r
unfolding behind_slash
slash s r h =
    let x = and_true (eqb r.number 5) (not (eqb (get_or s (r.place - 1) 0) 0x2f)) h in
    record { five = eqb-true r.number 5 x.0; whole = not-true (eqb (get_or s (r.place - 1) 0) 0x2f) x.1 }

-- ---- what arriving asks for

-- a part that is refused has something behind its gap
refused_inside : (s : List ℕ) (g : ℕ) (d : Refusal) → by_gap s (gap.Clear g) ≡ refuse d → g < length s
refused_inside s g d r =
    either (lt_or_le g (length s)) (λ i. i) (λ i. let z : stop ≡ refuse d = sym (gap_end s g i) ∙ r in let y : ◌≡◌ {A = ℕ} 0 1 = cc in absurd (omega arith))

settled_by : (s v : List ℕ) (d : Refusal) (a : Gap) → gap_of s ≡ a → EndsBy (length s) a → settled_behind s a ≡ true → by_gap s a ≡ refuse d → ron_token (s ++ v) ≡ refuse d
unfolding ron_token
settled_by s v d (gap.Clear g) e le h r =
    let k = stays s g e le h in
    let i = refused_inside s g d r in
    ap (by_gap (s ++ v)) (k.clear v)
    ∙ gap_token (s ++ v) g (omega (arith, length-append s v))
    ∙ ap (λ (x : List ℕ). lexeme_behind g (lexeme_of (token_of x))) (drop-append-le g s v le)
    ∙ ap (lexeme_behind g) (k.later v ∙ sym k.is)
    ∙ sym (gap_token s g i) ∙ r
settled_by s v d (gap.InLine n) e b h r = let z : ◌≡◌ {A = ℕ} 0 1 = cc in absurd (omega arith)
settled_by s v d (gap.Refused q) e b h r = let k = slash s q h in ap (by_gap (s ++ v)) (slash_stays s v q e k.five k.whole) ∙ r

ron_settled : (s v : List ℕ) (d : Refusal) → ron_settles s ≡ true → ron_token s ≡ refuse d → ron_token (s ++ v) ≡ refuse d
unfolding ron_settles ron_token
ron_settled s v d h r = settled_by s v d (gap_of s) refl (gap_bounded s) h r

same_refusal : (q d : Refusal) → refuse q ≡ refuse d → q ≡ d
same_refusal q d h = cc

open_by : (s : List ℕ) (d : Refusal) (a : Gap) → gap_of s ≡ a → EndsBy (length s) a → settled_behind s a ≡ true → by_gap s a ≡ refuse d → tells_end d ≡ false
unfolding tells_end
open_by s d (gap.Clear g) e le h r =
    let k = stays s g e le h in
    let i = refused_inside s g d r in
    let q : refuse (placed_behind g k.why) ≡ refuse d = sym (ap (lexeme_behind g) k.is) ∙ sym (gap_token s g i) ∙ r in
    ap tells_end (sym (same_refusal (placed_behind g k.why) d q)) ∙ k.no-end
open_by s d (gap.InLine m) e le h r = let z : ◌≡◌ {A = ℕ} 0 1 = cc in absurd (omega arith)
open_by s d (gap.Refused q) e le h r = ap tells_end (sym (same_refusal q d r)) ∙ no_end_5 q (slash s q h).five

ron_open : (s : List ℕ) (d : Refusal) → ron_settles s ≡ true → ron_token s ≡ refuse d → tells_end d ≡ false
unfolding ron_settles ron_token
ron_open s d h r = open_by s d (gap_of s) refl (gap_bounded s) h r

once_by : (s : List ℕ) (a : Gap) → once_behind s a ≡ true → settled_behind s a ≡ true
unfolding spoilt_for
once_by s (gap.Clear g) h = rw h
once_by s (gap.InLine n) h = h
once_by s (gap.Refused r) h = h

ron-once : (s : List ℕ) → ron_once s ≡ true → ron_settles s ≡ true
unfolding ron_once ron_settles
ron-once s h = once_by s (gap_of s) h

-- document 02: RON may be read while it arrives
pub ron : Owes ron_reader
ron = record {
  laws = ron_laws;
  deciders = deciders;
  closers = closers;
  closed = ron_closed;
  settled = ron_settled;
  open_end = ron_open;
  at_once = ron-once;
}
