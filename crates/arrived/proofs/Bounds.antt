-- Gaps and tokens end between characters: where all of a part may be taken, so may what stands behind its gap or its token, with the same front of a character at
-- its end. Assumes nothing.
use Prim.Native.Nat.{ℕ, zero, suc, ◌+◌, ◌-◌, ◌<◌, ◌≤◌}
use native.Mathlib.Nat.{sub_self}
use native.Mathlib.Omega.{arith}
use mathlib.Core.Bool.{Bool, true, false, cond, ◌||◌}
use mathlib.Core.List.{List, [], ◌++◌, ◌∷◌, append_assoc, append-nil}
use mathlib.Core.Logic.{◌⊎◌, inl, inr}
use mathlib.Core.Path.{◌≡◌, ap, refl, subst, sym, ◌∙◌}
use lib.Dec.{eqb, ltb}
use lib.ListN.{drop, get_or, length, take, take-append-drop}
use lib.Seq.{append_snoc, drop_at, drop-drop, length-take-le, split_at, take-append_seam}
use borrow.Author.Tests.{eqb-true, ltb-true}
use Rattle.text.proofs.Choices.{and_true, or_cases}
use Rattle.text.proofs.ClassLaws.{all_of, within_true}
use Rattle.text.proofs.RunLaws.{run_holds, run_le}
use Rattle.text.proofs.Utf8Agree.{char_encode}
use Rattle.text.specs.Classes.{digit, hex_digit, int_char, within}
use Rattle.text.specs.Runs.{run}
use Rattle.text.specs.Utf8.{Scalar, Text, encode}
use Rattle.text.specs.Utf8.Char.{utf8_1}
use Rattle.octets.proofs.Cutting.{all_text, allowed_behind, allowed_stays, ascii_breaks, front_all}
use Rattle.octets.specs.Octets.{allowed_of, further}
use Rattle.octets.specs.declared.answer.Allowed.{Allowed}
use Rattle.octets.specs.declared.answer.Allowed.TheVariants.{All, Bad}
use Rattle.comments.specs.Blocks.{Body, mark_of}
use Rattle.comments.specs.Blocks.Mark.{Closes, Neither, Opens}
use Rattle.gapped.specs.Gap.{Gap}
use Rattle.escapes.specs.declared.answers.Mode.{Mode}
use Rattle.escaped.proofs.Exactly.{escape_reads}
use Rattle.quoted.specs.Bodies.{Blanks, Continued, Inside}
use Rattle.quoted.specs.Literals.{ByteAt, ByteStringAt, CharAt, Raw, StringAt, hashes}
use Rattle.floats.specs.Classes.{point}
use Rattle.floats.specs.Grammar.{Digits, Exponent, Numeral, Signable, Some}
use Rattle.floats.specs.Judged.{stripped}
use Rattle.names.specs.Names.{IsName, IsRawName, Run}
use Rattle.integers.specs.Front.{front_of}
use Rattle.integers.specs.Width.{suffix, suffix_of, suffix_word, width_at}
use Rattle.integers.specs.Words.{Word, nothing_found}
use Rattle.integers.specs.declared.ident.Found.{Found}
use Rattle.integers.specs.declared.width.Width.{Width}
use Rattle.written.specs.Written.{IsWritten, digits_in, suffix_in, written_len}
use Rattle.tiled.proofs.Found.{Each, Stands, first_stands}
use Rattle.tiled.proofs.ReadTiles.{token_form}
use Rattle.rows.specs.declared.Entry.{Entry}
use Rattle.reading.proofs.Stable.{ends_grow}
use Rattle.reading.proofs.Steps.{drop_on, first}
use Rattle.reading.specs.Readings.{Reading, end_of, read_part, ◌▸◌}
use Rattle.reading.specs.Tokens.{Token, reach}
use Rattle.reading.specs.Tokens.Answer.{token}
use Rattle.tokens.specs.Ron.{ron_token}
use Rattle.settled.proofs.RonArrives.{ron_laws}
use Rattle.settled.specs.Bytes.{stops_byte}
use Rattle.tiled.specs.Forms.{FloatForm, FloatName, Form, Mark, Special, Suffix}

-- what may be taken of s may be taken of t, up to the same front of a character
abbrev pub Keeps : List ℕ → List ℕ → Type 0
Keeps s t = (m : ℕ) → allowed_of s ≡ All m → allowed_of t ≡ All m

-- ---- behind whole characters

pub encoded : (c : ℕ) → Scalar c → Text (encode c)
encoded c sc = subst Text (append-nil (encode c)) (Text.more (char_encode c sc) Text.none)

pub further_all : (d m : ℕ) (a : Allowed) → further d a ≡ All m → a ≡ All m
further_all d m (All k) e = e
further_all d m (Bad n k) e = let z : ◌≡◌ {A = ℕ} 0 1 = cc in absurd (omega arith)

pub text_keeps : (w t : List ℕ) → Text w → Keeps (w ++ t) t
text_keeps w t x m e = further_all (length w) m (allowed_of t) (sym (allowed_behind w t x) ∙ e)

-- what stands before an ASCII byte is whole characters
pub ascii_text : (u : List ℕ) (a : ℕ) (t : List ℕ) (m : ℕ) → a < 0x80 → allowed_of (u ++ a ∷ t) ≡ All m → Text u
ascii_text u a t m low e =
    let f = front_all (u ++ a ∷ t) m e (length u) in
    by f.0 (ap allowed_of (sym (take-append_seam u (a ∷ t))) ∙ f.1)
  where
    by : (i : ℕ) → allowed_of u ≡ All i → Text u
    by zero h = (all_text u).0 h
    by (suc j) h =
        let b = ascii_breaks u a j h low in
        let c : Bad (length u) (length u - suc j) ≡ All m =
        sym (allowed_stays (u ++ a ∷ []) (length u) (length u - suc j) b t) ∙ ap allowed_of (append_snoc u a t) ∙ e in
        let z : ◌≡◌ {A = ℕ} 0 1 = cc in absurd (omega arith)

ascii-char : (a : ℕ) → a < 0x80 → Text (a ∷ [])
ascii-char a low = Text.more (utf8_1 {a = a} (omega arith)) Text.none

pub before_ascii : (u : List ℕ) (a : ℕ) (t : List ℕ) → a < 0x80 → Keeps (u ++ a ∷ t) (a ∷ t)
before_ascii u a t low m e = text_keeps u (a ∷ t) (ascii_text u a t m low e) m e

pub behind_ascii : (u : List ℕ) (a : ℕ) (t : List ℕ) → a < 0x80 → Keeps (u ++ a ∷ t) t
behind_ascii u a t low m e = text_keeps (a ∷ []) t (ascii-char a low) m (before_ascii u a t low m e)

-- ---- a part whose last byte is ASCII

-- s ends with an ASCII byte, and then stands t
record Capped (s t : List ℕ) : Type 0 where
  before : List ℕ
  last : ℕ
  low : last < 0x80
  is : s ≡ before ++ last ∷ t

capped_keeps : {s t : List ℕ} → Capped s t → Keeps s t
capped_keeps {s} {t} c = subst (λ (x : List ℕ). Keeps x t) (sym c.is) (behind_ascii c.before c.last t c.low)

here : (a : ℕ) (t : List ℕ) → a < 0x80 → Capped (a ∷ t) t
here a t low = record { before = []; last = a; low = low; is = refl }

-- bytes in front
some_more : (p s : List ℕ) {u t : List ℕ} → s ≡ p ++ u → Capped u t → Capped s t
some_more p s {u} {t} e c = record {
  before = p ++ c.before;
  last = c.last;
  low = c.low;
  is = e ∙ ap (λ (x : List ℕ). p ++ x) c.is ∙ sym (append_assoc p c.before (c.last ∷ t));
}

one_more : (a : ℕ) {s t : List ℕ} → Capped s t → Capped (a ∷ s) t
one_more a {s} c = some_more (a ∷ []) (a ∷ s) refl c

-- what stands behind n bytes
drop_more : (n : ℕ) (s : List ℕ) {u t : List ℕ} → u ≡ drop n s → Capped u t → Capped s t
drop_more n s {u} e c = some_more (take n s) s (sym (take-append-drop n s) ∙ ap (λ (x : List ℕ). take n s ++ x) (sym e)) c

-- ---- gaps

closing_mark : (a b : ℕ) → mark_of a b ≡ Closes → b < 0x80
unfolding mark_of
closing_mark a b = go (eqb a 0x2f) (eqb b 0x2a) (eqb a 0x2a) (eqb b 0x2f) refl
  where
    go : (p q r t : Bool) → eqb b 0x2f ≡ t → cond p (cond q Opens Neither) (cond r (cond t Closes Neither) Neither) ≡ Closes → b < 0x80
    go true true r t e h = let z : ◌≡◌ {A = ℕ} 0 1 = cc in absurd (omega arith)
    go true false r t e h = let z : ◌≡◌ {A = ℕ} 0 1 = cc in absurd (omega arith)
    go false q true true e h = omega (arith, eqb-true b 0x2f e)
    go false q true false e h = let z : ◌≡◌ {A = ℕ} 0 1 = cc in absurd (omega arith)
    go false q false t e h = let z : ◌≡◌ {A = ℕ} 0 1 = cc in absurd (omega arith)

body_capped : {s t : List ℕ} → Body s t → Capped s t
body_capped (Body.closes {a} {b} {t} e) = one_more a (here b t (closing_mark a b e))
body_capped (Body.nests {a} {b} {s} {u} {t} e x y) =
    let c = body_capped x in
    one_more a (one_more b (some_more (c.before ++ c.last ∷ []) s (c.is ∙ sym (append_snoc c.before c.last u)) (body_capped y)))
body_capped (Body.passes {a} {b} e x) = one_more a (body_capped x)

pub gap_keeps : {s t : List ℕ} → Gap s t → Keeps s t
gap_keeps Gap.none m e = e
gap_keeps (Gap.space {c} {s} {t} sc b g) m e = gap_keeps g m (text_keeps (encode c) s (encoded c sc) m e)
gap_keeps (Gap.line {w} {s} {t} l g) m e = gap_keeps g m (before_ascii (0x2f ∷ 0x2f ∷ w) 0x0a s (omega arith) m e)
gap_keeps (Gap.block {s} {u} {t} x g) m e = gap_keeps g m (capped_keeps (one_more 0x2f (one_more 0x2a (body_capped x))) m e)

-- ---- tokens, by their form

-- escapes, strings and chars
blanks_capped : {s u : List ℕ} → Blanks s u → (t : List ℕ) → Capped u t → Capped s t
blanks_capped (Blanks.none e) t c = c
blanks_capped (Blanks.more {b} e x) t c = one_more b (blanks_capped x t c)

continued_capped : {s u : List ℕ} → Continued s u → (t : List ℕ) → Capped u t → Capped s t
continued_capped (Continued.lf x) t c = one_more 0x0a (blanks_capped x t c)
continued_capped (Continued.crlf x) t c = one_more 0x0d (one_more 0x0a (blanks_capped x t c))

inside_capped : {m : Mode} {s d t : List ℕ} → Inside m s d t → Capped s t
inside_capped (Inside.closes {t}) = here 0x22 t (omega arith)
inside_capped (Inside.itself {b} p q x) = one_more b (inside_capped x)
inside_capped (Inside.escaped {v} {s} {u} e x) = let r = escape_reads e in one_more 0x5c (drop_more r.0 s r.2 (inside_capped x))
inside_capped (Inside.continued {s} {u} {d} {t} e x) = one_more 0x5c (continued_capped e t (inside_capped x))

hashes_capped : (n : ℕ) (b : ℕ) (t : List ℕ) → b < 0x80 → Capped (b ∷ (hashes n ++ t)) t
hashes_capped zero b t low = here b t low
hashes_capped (suc n) b t low = one_more b (hashes_capped n 0x23 t (omega arith))

raw_capped : {s d t : List ℕ} → Raw s d t → Capped s t
raw_capped {s} {d} {t} r =
    some_more (hashes r.count ++ 0x22 ∷ d) s
    (r.split ∙ sym (append_assoc (hashes r.count) (0x22 ∷ d) (0x22 ∷ (hashes r.count ++ t))))
    (hashes_capped r.count 0x22 t (omega arith))

string_capped : {s d t : List ℕ} → StringAt s d t → Capped s t
string_capped (StringAt.quoted x) = one_more 0x22 (inside_capped x)
string_capped (StringAt.raw x) = one_more 0x72 (raw_capped x)

byte_string_capped : {s d t : List ℕ} → ByteStringAt s d t → Capped s t
byte_string_capped (ByteStringAt.quoted x) = one_more 0x62 (one_more 0x22 (inside_capped x))
byte_string_capped (ByteStringAt.raw x) = one_more 0x62 (one_more 0x72 (raw_capped x))

char_capped : {s : List ℕ} {c : ℕ} {t : List ℕ} → CharAt s c t → Capped s t
char_capped (CharAt.itself {c} {t} sc n) = one_more 0x27 (some_more (encode c) (encode c ++ 0x27 ∷ t) refl (here 0x27 t (omega arith)))
char_capped (CharAt.escaped {v} {s} {t} e) = let r = escape_reads e in one_more 0x27 (one_more 0x5c (drop_more r.0 s r.2 (here 0x27 t (omega arith))))

byte_capped : {s : List ℕ} {b : ℕ} {t : List ℕ} → ByteAt s b t → Capped s t
byte_capped (ByteAt.itself {b} {t} low n) = one_more 0x62 (one_more 0x27 (one_more b (here 0x27 t (omega arith))))
byte_capped (ByteAt.escaped {b} {s} {t} e) = let r = escape_reads e in one_more 0x62 (one_more 0x27 (one_more 0x5c (drop_more r.0 s r.2 (here 0x27 t (omega arith)))))

mark_low : {a k : ℕ} → Mark a k → a < 0x80
mark_low Mark.round = omega arith
mark_low Mark.round_end = omega arith
mark_low Mark.square = omega arith
mark_low Mark.square_end = omega arith
mark_low Mark.curly = omega arith
mark_low Mark.curly_end = omega arith
mark_low Mark.comma = omega arith
mark_low Mark.colon = omega arith

-- ---- names

run_text : {p : ℕ → Bool} {w : List ℕ} → Run p w → Text w
run_text Run.none = Text.none
run_text (Run.more c {t} sc e r) = Text.more (char_encode c sc) (run_text r)

name_keeps : (s : List ℕ) (n : ℕ) → IsName s n → Keeps s (drop n s)
name_keeps s n x =
    let w : List ℕ = encode x.first ++ x.next in
    let gone : drop n s ≡ x.rest = ap (drop n) x.split ∙ drop_at w x.rest n (sym x.size) in
    subst (Keeps s) (sym gone)
    (subst (λ (y : List ℕ). Keeps y x.rest) (sym x.split) (text_keeps w x.rest (Text.more (char_encode x.first x.scalar) (run_text x.goes-on))))

raw_keeps : (s : List ℕ) (n : ℕ) → IsRawName s n → Keeps s (drop n s)
raw_keeps s n x =
    let w : List ℕ = 0x72 ∷ 0x23 ∷ x.next in
    let gone : drop n s ≡ x.rest = ap (drop n) x.split ∙ drop_at w x.rest n (omega (arith, x.size)) in
    subst (Keeps s) (sym gone)
    (subst (λ (y : List ℕ). Keeps y x.rest) (sym x.split)
    (text_keeps w x.rest (Text.more (utf8_1 {a = 0x72} (omega arith)) (Text.more (utf8_1 {a = 0x23} (omega arith)) (run_text x.goes-on)))))

-- ---- numbers

-- all bytes are ASCII
pub data Plain : List ℕ → Type 0 where
  none : Plain []
  more : (a : ℕ) {s : List ℕ} → a < 0x80 → Plain s → Plain (a ∷ s)

plain_text : {w : List ℕ} → Plain w → Text w
plain_text Plain.none = Text.none
plain_text (Plain.more a low p) = Text.more (utf8_1 {a = a} (omega arith)) (plain_text p)

plain_append : {w x : List ℕ} → Plain w → Plain x → Plain (w ++ x)
plain_append Plain.none q = q
plain_append (Plain.more a low p) q = Plain.more a low (plain_append p q)

digit_low : (c : ℕ) → digit c ≡ true → c < 0x80
unfolding digit
digit_low c h = omega (arith, within_true 0x30 0x39 c h)

hex_low : (c : ℕ) → hex_digit c ≡ true → c < 0x80
unfolding hex_digit
hex_low c h = go (or_cases (digit c) _ h)
  where
    at : (within 0x41 0x46 c ≡ true) ⊎ (within 0x61 0x66 c ≡ true) → c < 0x80
    at (inl e) = omega (arith, within_true 0x41 0x46 c e)
    at (inr e) = omega (arith, within_true 0x61 0x66 c e)

    go : (digit c ≡ true) ⊎ ((within 0x41 0x46 c || within 0x61 0x66 c) ≡ true) → c < 0x80
    go (inl e) = digit_low c e
    go (inr e) = at (or_cases (within 0x41 0x46 c) (within 0x61 0x66 c) e)

int_low : (c : ℕ) → int_char c ≡ true → c < 0x80
unfolding int_char
int_low c h = go (or_cases (hex_digit c) (eqb c 0x5f) h)
  where
    go : (hex_digit c ≡ true) ⊎ (eqb c 0x5f ≡ true) → c < 0x80
    go (inl e) = hex_low c e
    go (inr e) = omega (arith, eqb-true c 0x5f e)

digits_plain : {s : List ℕ} → Digits s → Plain s
digits_plain Digits.none = Plain.none
digits_plain (Digits.next d s e r) = Plain.more d (digit_low d e) (digits_plain r)

some_plain : {s : List ℕ} → Some s → Plain s
some_plain (Some.next d s e r) = Plain.more d (digit_low d e) (digits_plain r)

either_low : (c x y : ℕ) → x < 0x80 → y < 0x80 → (eqb c x || eqb c y) ≡ true → c < 0x80
either_low c x y hx hy h = go (or_cases (eqb c x) (eqb c y) h)
  where
    go : (eqb c x ≡ true) ⊎ (eqb c y ≡ true) → c < 0x80
    go (inl e) = omega (arith, eqb-true c x e)
    go (inr e) = omega (arith, eqb-true c y e)

sign_plain : (P : List ℕ → Type 0) → ((x : List ℕ) → P x → Plain x) → {s : List ℕ} → Signable P s → Plain s
sign_plain P f (Signable.plain s x) = f s x
sign_plain P f (Signable.signed a s e x) = Plain.more a (either_low a 0x2b 0x2d (omega arith) (omega arith) e) (f s x)

exponent_plain : {s : List ℕ} → Exponent s → Plain s
exponent_plain Exponent.none = Plain.none
exponent_plain (Exponent.power e s h x) = Plain.more e (either_low e 0x65 0x45 (omega arith) (omega arith) h) (sign_plain Some (λ x y. some_plain y) x)

point_low : (p : ℕ) → point p ≡ true → p < 0x80
point_low p e = omega (arith, eqb-true p 0x2e e)

numeral_plain : (s : List ℕ) → Numeral s → Plain s
numeral_plain _ (Numeral.whole a x p q) = plain_append (some_plain p) (exponent_plain q)
numeral_plain _ (Numeral.ended a b x p e f g h) = plain_append (some_plain f) (Plain.more p (point_low p e) (plain_append (digits_plain g) (exponent_plain h)))
numeral_plain _ (Numeral.begun a b x p e f g h) = plain_append (digits_plain f) (Plain.more p (point_low p e) (plain_append (some_plain g) (exponent_plain h)))

-- with its underscores
stripped_plain : (w : List ℕ) → Plain (stripped w) → Plain w
unfolding stripped
stripped_plain [] p = Plain.none
stripped_plain (c ∷ w) p = go (eqb c 0x5f) refl p (λ q. stripped_plain w q)
  where
    tail : Plain (c ∷ stripped w) → (c < 0x80) × Plain (stripped w)
    tail (Plain.more a low q) = (low, q)

    go : (t : Bool) → eqb c 0x5f ≡ t → Plain (cond t (stripped w) (c ∷ stripped w)) → (Plain (stripped w) → Plain w) → Plain (c ∷ w)
    go true e q ih = Plain.more c (omega (arith, eqb-true c 0x5f e)) (ih q)
    go false e q ih = let t = tail q in Plain.more c t.0 (ih t.1)

-- floats
low_word : (w : List ℕ) → all_of (λ (c : ℕ). ltb c 0x80) w ≡ true → Plain w
low_word [] h = Plain.none
low_word (c ∷ w) h = let p = and_true (ltb c 0x80) (all_of (λ (c : ℕ). ltb c 0x80) w) h in Plain.more c (ltb-true c 0x80 p.0) (low_word w p.1)

suffix_plain : {d : ℕ} {x : List ℕ} → Suffix d x → Plain x
suffix_plain Suffix.none = Plain.none
suffix_plain Suffix.f32 = low_word (0x66 ∷ 0x33 ∷ 0x32 ∷ []) refl
suffix_plain Suffix.f64 = low_word (0x66 ∷ 0x36 ∷ 0x34 ∷ []) refl

special_plain : {w : List ℕ} → Special w → Plain w
special_plain Special.inf = low_word (0x69 ∷ 0x6E ∷ 0x66 ∷ []) refl
special_plain Special.nan = low_word (0x4E ∷ 0x61 ∷ 0x4E ∷ []) refl

float_name_plain : (d : ℕ) (w : List ℕ) → FloatName d w → Plain w
float_name_plain d _ (FloatName.named w s x) = plain_append (special_plain s) (suffix_plain x)

float_plain : {d : ℕ} {w : List ℕ} → FloatForm d w → Plain w
float_plain (FloatForm.number w f x) = plain_append (stripped_plain w (sign_plain Numeral numeral_plain f)) (suffix_plain x)
float_plain (FloatForm.special {d} s) = sign_plain (FloatName d) (float_name_plain d) s

-- integers: behind the last digit
digits_capped : (s : List ℕ) (k n : ℕ) → n ≡ run int_char (drop k s) → 0 < n → Capped s (drop n (drop k s))
digits_capped s k n e pos =
    let t : List ℕ = drop k s in
    let le : n ≤ length t = omega (arith, run_le int_char t) in
    let j : suc (n - 1) ≡ n = omega arith in
    let low : get_or t (n - 1) 0 < 0x80 = int_low (get_or t (n - 1) 0) (run_holds int_char t (n - 1) (omega arith)) in
    drop_more k s refl record {
      before = take (n - 1) t;
      last = get_or t (n - 1) 0;
      low = low;
      is = split_at t (n - 1) 0 (omega arith) ∙ ap (λ (i : ℕ). take (n - 1) t ++ get_or t (n - 1) 0 ∷ drop i t) j;
    }

abbrev Letters : ℕ → List ℕ → Type 0
Letters code w = Plain w

suffix_keeps : (t : List ℕ) → Keeps t (drop (suffix_of t).end t)
unfolding suffix_of suffix_word width_at
suffix_keeps t = go (first_stands Letters ws t all)
  where
    ws : List Word
    ws = suffix 1 ∷ suffix 2 ∷ suffix 3 ∷ suffix 4 ∷ suffix 5 ∷ suffix 6 ∷ suffix 7 ∷ suffix 8 ∷ []

    w : (n : ℕ) → all_of (λ (c : ℕ). ltb c 0x80) (suffix_word n) ≡ true → Plain (suffix_word n)
    w n e = low_word (suffix_word n) e

    all : Each Letters ws
    all = (w 1 refl, (w 2 refl, (w 3 refl, (w 4 refl, (w 5 refl, (w 6 refl, (w 7 refl, (w 8 refl, tt))))))))

    go : (suffix_of t ≡ nothing_found) ⊎ Stands Letters (suffix_of t) t → Keeps t (drop (suffix_of t).end t)
    go (inl e) = λ m h. ap (λ (f : Found). allowed_of (drop f.end t)) e ∙ h
    go (inr x) = subst (λ (y : List ℕ). Keeps y (drop (suffix_of t).end t)) (sym x.split) (text_keeps x.letters (drop (suffix_of t).end t) (plain_text x.is))

integer_keeps : {w : Width} {s : List ℕ} → IsWritten w s → Keeps s (drop (written_len s) s)
integer_keeps {w} {s} x m e =
    let k : ℕ = (front_of s).end in
    let t : List ℕ = drop k s in
    let n : ℕ = run int_char t in
    let len : length (digits_in s) ≡ n = length-take-le n t (run_le int_char t) in
    let some : 0 < n = positive n (λ z. x.digits.begun.0 (len ∙ z)) in
    let d : Keeps s (drop n t) = capped_keeps (digits_capped s k n refl some) in
    let at : drop (suffix_in s).end (drop n t) ≡ drop (written_len s) s =
    drop-drop (suffix_in s).end n t ∙ drop-drop (n + (suffix_in s).end) k s ∙ ap (λ (i : ℕ). drop (k + (i + (suffix_in s).end)) s) (sym len) in
    ap allowed_of (sym at) ∙ suffix_keeps (drop n t) m (d m e)
  where
    positive : (n : ℕ) → (n ≡ 0 → ⊥) → 0 < n
    positive zero h = absurd (h refl)
    positive (suc n) h = omega arith

form_keeps : {k d : ℕ} {s t : List ℕ} → Form k d s t → Keeps s t
form_keeps (Form.mark {a} {k} {t} x) = capped_keeps (here a t (mark_low x))
form_keeps (Form.name {n} {s} x f) = name_keeps s n x
form_keeps (Form.raw_name {n} {s} x) = raw_keeps s n x
form_keeps (Form.integer x w) = integer_keeps x
form_keeps (Form.byte x) = capped_keeps (byte_capped x)
form_keeps (Form.float {d} {w} {t} x) = text_keeps w t (plain_text (float_plain x))
form_keeps (Form.char x) = capped_keeps (char_capped x)
form_keeps (Form.string x) = capped_keeps (string_capped x)
form_keeps (Form.byte_string x) = capped_keeps (byte_string_capped x)
form_keeps (Form.attribute w {t}) = capped_keeps (some_more (0x23 ∷ w) (0x23 ∷ (w ++ 0x5d ∷ t)) refl (here 0x5d t (omega arith)))

-- a token ends between characters
pub token_keeps : (s : List ℕ) (t : Token) → ron_token s ≡ token t → Keeps s (drop (reach t) s)
token_keeps s t h m e = let f = token_form s t h in form_keeps f.1 m (gap_keeps f.0 m e)

-- and so do entries
pub entries_keep : (es : List Entry) (at : ℕ) (s : List ℕ) (r : Reading) → read_part ron_token at s ≡ es ▸ r → Keeps s (drop (end_of at es - at) s)
unfolding end_of
entries_keep [] at s r h m e = ap (λ (k : ℕ). allowed_of (drop k s)) (sub_self at) ∙ e
entries_keep (x ∷ es) at s r h m e =
    let f = first ron_token stops_byte ron_laws at s x (es ▸ r) h in
    let t : Token = f.this in
    let p : x.end ≡ at + reach t = ap (λ (y : Entry). y.end) f.entry_is in
    let far : at + reach t ≤ end_of (at + reach t) es = ends_grow ron_token stops_byte ron_laws es (at + reach t) (drop (reach t) s) r (sym f.rest_is) in
    let ih = entries_keep es (at + reach t) (drop (reach t) s) r (sym f.rest_is) m (token_keeps s t f.answer m e) in
    let same : drop (end_of (at + reach t) es - (at + reach t)) (drop (reach t) s) ≡ drop (end_of x.end es - at) s =
    drop_on (reach t) (end_of (at + reach t) es - (at + reach t)) (end_of x.end es - at) s (omega (arith, ap (λ (k : ℕ). end_of k es) p)) in
    ap allowed_of (sym same) ∙ ih
