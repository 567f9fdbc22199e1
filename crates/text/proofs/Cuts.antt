-- A text from a place that is inside no character: UTF-8 again. Assumes nothing.
use Rattle.std.proofs.Common.{Ok, Some, None, Option}
use Rattle.text.specs.Refusals.{Told}
use Prim.Native.Nat.{ℕ, zero, suc}
use native.Mathlib.Omega.{arith}
use mathlib.Core.Path.{◌≡◌, ◌∙◌, refl, subst, sym}
use mathlib.Core.Bool.{Bool, true, false, not}
use mathlib.Core.List.{List, ◌++◌}
use lib.Dec.{leb, ltb}
use lib.ListN.{length, get_or, drop}
use lib.Seq.{drop-nil}
use Rattle.text.specs.Classes.{within}
use Rattle.text.specs.Utf8.{Char, Encoded, In, Text, utf8_of}
use Rattle.text.specs.Utf8.Char.{utf8_1, utf8_2, utf8_3a, utf8_3b, utf8_3c, utf8_3d, utf8_4a, utf8_4b, utf8_4c}
use Rattle.text.specs.Utf8.Text.{none, more}
use Rattle.text.specs.Judged.{by_utf8, judged_of, place_fits}
use Rattle.text.proofs.Choices.{and_true, cond_cases}
use Rattle.text.proofs.ClassLaws.{inside}
use Rattle.text.proofs.Utf8Agree.{good_text, text_encoded}

-- a tail byte is told as one
tail_off : (b : ℕ) → In 0x80 0xBF b → within 0x80 0xBF b ≡ false → ⊥
tail_off b h e = let q : ◌≡◌ {A = Bool} true false = sym (inside 0x80 0xBF b h.0 h.1) ∙ e in let z : ◌≡◌ {A = ℕ} 0 1 = cc in absurd (omega arith)

-- behind a character, or in front of it; inside it stands a tail byte
char_cut : {l : List ℕ} → Char l → (s : List ℕ) → ((p : ℕ) → within 0x80 0xBF (get_or s p 0) ≡ false → Text (drop p s)) → Text (l ++ s)
    → (p : ℕ) → within 0x80 0xBF (get_or (l ++ s) p 0) ≡ false → Text (drop p (l ++ s))
char_cut (utf8_1 {a} h) s rest whole zero x = whole
char_cut (utf8_1 {a} h) s rest whole (suc p) x = rest p x
char_cut (utf8_2 {a} {b} h k) s rest whole zero x = whole
char_cut (utf8_2 {a} {b} h k) s rest whole (suc zero) x = absurd (tail_off b (omega arith, omega arith) x)
char_cut (utf8_2 {a} {b} h k) s rest whole (suc (suc p)) x = rest p x
char_cut (utf8_3a {a} {b} {c} e h k) s rest whole zero x = whole
char_cut (utf8_3a {a} {b} {c} e h k) s rest whole (suc zero) x = absurd (tail_off b (omega arith, omega arith) x)
char_cut (utf8_3a {a} {b} {c} e h k) s rest whole (suc (suc zero)) x = absurd (tail_off c (omega arith, omega arith) x)
char_cut (utf8_3a {a} {b} {c} e h k) s rest whole (suc (suc (suc p))) x = rest p x
char_cut (utf8_3b {a} {b} {c} i h k) s rest whole zero x = whole
char_cut (utf8_3b {a} {b} {c} i h k) s rest whole (suc zero) x = absurd (tail_off b (omega arith, omega arith) x)
char_cut (utf8_3b {a} {b} {c} i h k) s rest whole (suc (suc zero)) x = absurd (tail_off c (omega arith, omega arith) x)
char_cut (utf8_3b {a} {b} {c} i h k) s rest whole (suc (suc (suc p))) x = rest p x
char_cut (utf8_3c {a} {b} {c} e h k) s rest whole zero x = whole
char_cut (utf8_3c {a} {b} {c} e h k) s rest whole (suc zero) x = absurd (tail_off b (omega arith, omega arith) x)
char_cut (utf8_3c {a} {b} {c} e h k) s rest whole (suc (suc zero)) x = absurd (tail_off c (omega arith, omega arith) x)
char_cut (utf8_3c {a} {b} {c} e h k) s rest whole (suc (suc (suc p))) x = rest p x
char_cut (utf8_3d {a} {b} {c} i h k) s rest whole zero x = whole
char_cut (utf8_3d {a} {b} {c} i h k) s rest whole (suc zero) x = absurd (tail_off b (omega arith, omega arith) x)
char_cut (utf8_3d {a} {b} {c} i h k) s rest whole (suc (suc zero)) x = absurd (tail_off c (omega arith, omega arith) x)
char_cut (utf8_3d {a} {b} {c} i h k) s rest whole (suc (suc (suc p))) x = rest p x
char_cut (utf8_4a {a} {b} {c} {d} e h k m) s rest whole zero x = whole
char_cut (utf8_4a {a} {b} {c} {d} e h k m) s rest whole (suc zero) x = absurd (tail_off b (omega arith, omega arith) x)
char_cut (utf8_4a {a} {b} {c} {d} e h k m) s rest whole (suc (suc zero)) x = absurd (tail_off c (omega arith, omega arith) x)
char_cut (utf8_4a {a} {b} {c} {d} e h k m) s rest whole (suc (suc (suc zero))) x = absurd (tail_off d (omega arith, omega arith) x)
char_cut (utf8_4a {a} {b} {c} {d} e h k m) s rest whole (suc (suc (suc (suc p)))) x = rest p x
char_cut (utf8_4b {a} {b} {c} {d} i h k m) s rest whole zero x = whole
char_cut (utf8_4b {a} {b} {c} {d} i h k m) s rest whole (suc zero) x = absurd (tail_off b (omega arith, omega arith) x)
char_cut (utf8_4b {a} {b} {c} {d} i h k m) s rest whole (suc (suc zero)) x = absurd (tail_off c (omega arith, omega arith) x)
char_cut (utf8_4b {a} {b} {c} {d} i h k m) s rest whole (suc (suc (suc zero))) x = absurd (tail_off d (omega arith, omega arith) x)
char_cut (utf8_4b {a} {b} {c} {d} i h k m) s rest whole (suc (suc (suc (suc p)))) x = rest p x
char_cut (utf8_4c {a} {b} {c} {d} e h k m) s rest whole zero x = whole
char_cut (utf8_4c {a} {b} {c} {d} e h k m) s rest whole (suc zero) x = absurd (tail_off b (omega arith, omega arith) x)
char_cut (utf8_4c {a} {b} {c} {d} e h k m) s rest whole (suc (suc zero)) x = absurd (tail_off c (omega arith, omega arith) x)
char_cut (utf8_4c {a} {b} {c} {d} e h k m) s rest whole (suc (suc (suc zero))) x = absurd (tail_off d (omega arith, omega arith) x)
char_cut (utf8_4c {a} {b} {c} {d} e h k m) s rest whole (suc (suc (suc (suc p)))) x = rest p x

text_cut : {s : List ℕ} → Text s → (p : ℕ) → within 0x80 0xBF (get_or s p 0) ≡ false → Text (drop p s)
text_cut none p x = subst Text (sym (drop-nil p)) none
text_cut (more {l} {s} ch t) p x = char_cut ch s (λ p x. text_cut t p x) (more ch t) p x

judged_good : (text : List ℕ) → judged_of text ≡ Ok tt → utf8_of text ≡ None
unfolding judged_of
judged_good text = cond_cases (λ (j : Told Unit). j ≡ Ok tt → utf8_of text ≡ None) (ltb 65536 (length text)) _ _ (λ a e. let z : ◌≡◌ {A = ℕ} 0 1 = cc in absurd (omega arith)) (λ a. by (utf8_of text))
  where
    by : (u : Option ℕ) → by_utf8 u ≡ Ok tt → u ≡ None
    by None e = refl
    by (Some p) e = let z : ◌≡◌ {A = ℕ} 0 1 = cc in absurd (omega arith)

not_true_off : (t : Bool) → not t ≡ true → t ≡ false
not_true_off true e = let z : ◌≡◌ {A = ℕ} 0 1 = cc in absurd (omega arith)
not_true_off false e = refl

-- the part of a judged text from a place that fits is UTF-8
pub part_encoded : (text : List ℕ) (p : ℕ) → judged_of text ≡ Ok tt → place_fits text p ≡ true → Encoded (drop p text)
unfolding place_fits
part_encoded text p j f =
    text_encoded (text_cut (good_text text (judged_good text j)) p (not_true_off _ (and_true (leb p (length text)) (not (within 0x80 0xBF (get_or text p 0))) f).1))
