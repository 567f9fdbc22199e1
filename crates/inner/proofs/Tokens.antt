-- The refusals of tokens, and of the token reader of RON, are inner. Assumes nothing.
use Rattle.std.proofs.Common.{Ok, Err}
use Rattle.text.specs.Refusals.{Told}
use Rattle.strings.specs.declared.literal.Literal.{Literal}
use Rattle.tokens.specs.declared.lexeme.Lexeme.{Lexeme}
use Prim.Native.Nat.{ℕ, ◌<◌}
use native.Mathlib.Omega.{arith}
use mathlib.Core.List.{List}
use mathlib.Core.Path.{◌≡◌, subst}
use lib.Dec.{ltb}
use lib.ListN.{drop, get_or, length}
use Rattle.text.proofs.Choices.{and_true}
use Rattle.text.proofs.ClassLaws.{within_true}
use Rattle.text.specs.declared.refusal.Refusal.{Refusal}
use Rattle.attributes.specs.Attributes.{attribute_of}
use Rattle.comments.specs.Gaps.{gap_of}
use Rattle.comments.specs.declared.gap.Gap.{Gap}
use Rattle.comments.specs.declared.gap.Gap.TheVariants as gap
use Rattle.names.specs.Classify.{word_of}
use Rattle.names.specs.declared.Word.{Word}
use Rattle.names.specs.declared.Word.TheVariants as word
use Rattle.numbers.specs.Numbers.{number_of}
use Rattle.numbers.specs.declared.Number.{Number}
use Rattle.numbers.specs.declared.Number.TheVariants as number
use Rattle.reading.specs.Tokens.{Answer, refuse, stop, token}
use Rattle.strings.specs.Chars.{char_of, byte_of}
use Rattle.strings.specs.Strings.{string_of, byte_string_of}
use Rattle.tokens.specs.Lexemes.{number_lexeme, lexeme_of}
use Rattle.tokens.specs.Ron.{lexeme_behind, by_gap, ron_token}
use Rattle.tokens.specs.Shapes.{shape_of}
use Rattle.tokens.specs.Token.{of_word, of_char, of_byte, of_string, of_byte_string, of_attribute, by_shape, token_of}
use Rattle.tokens.specs.declared.shape.Shape.{Shape}
use Rattle.tokens.specs.declared.shape.Shape.TheVariants as shape
use Rattle.inner.specs.Inner.{Inner, reasoned, within}
use Rattle.inner.proofs.Attributes.{Inner-attribute, attribute_inner}
use Rattle.inner.proofs.Both.{both}
use Rattle.inner.proofs.Chars.{Inner-char, Inner-byte, char_inner, byte_inner}
use Rattle.inner.proofs.Gaps.{Inner-gap, gap_inner}
use Rattle.inner.proofs.Numbers.{Inner-number, number_inner}
use Rattle.inner.proofs.Strings.{Inner-literal, string_inner, byte_string_inner}
use Rattle.inner.proofs.Words.{Inner-word, word_inner}

-- an answer of a token reader
abbrev pub Inner-answer : Answer → Type 0
Inner-answer (token t) = Unit
Inner-answer stop = Unit
Inner-answer (refuse r) = Inner r

abbrev pub Inner-lexeme : Told Lexeme → Type 0
Inner-lexeme (Ok l) = Unit
Inner-lexeme (Err r) = Inner r

-- ---- by its shape

of_number : (a : Number) → Inner-number a → Inner-lexeme (number_lexeme a)
of_number (number.Int w n) h = tt
of_number (number.Float f) h = tt
of_number (number.Refused r) h = h

of-word : (a : Word) → Inner-word a → Inner-lexeme (lexeme_of (of_word a))
of-word (word.Plain n) h = tt
of-word (word.Raw n) h = tt
of-word (word.Float n suffix) h = tt
of-word (word.Refused r) h = h

of-char : (a : Told (ℕ × ℕ)) → Inner-char a → Inner-lexeme (lexeme_of (of_char a))
of-char (Ok (n, code)) h = tt
of-char (Err r) h = h

of-byte : (a : Told (ℕ × ℕ)) → Inner-byte a → Inner-lexeme (lexeme_of (of_byte a))
of-byte (Ok (n, value)) h = tt
of-byte (Err r) h = h

of-string : (a : Told Literal) → Inner-literal a → Inner-lexeme (lexeme_of (of_string a))
of-string (Ok l) h = tt
of-string (Err r) h = h

of-byte-string : (a : Told Literal) → Inner-literal a → Inner-lexeme (lexeme_of (of_byte_string a))
of-byte-string (Ok l) h = tt
of-byte-string (Err r) h = h

of-attribute : (a : Told (ℕ × ℕ)) → Inner-attribute a → Inner-lexeme (lexeme_of (of_attribute a))
of-attribute (Ok (n, e)) h = tt
of-attribute (Err r) h = h

by-shape : (k : Shape) (s : List ℕ) → Inner-lexeme (lexeme_of (by_shape k s))
by-shape (shape.Mark kind) s = tt
by-shape shape.Attribute s = of-attribute (attribute_of s) (attribute_inner s)
by-shape shape.Str s = of-string (string_of s) (string_inner s)
by-shape shape.Char s = of-char (char_of s) (char_inner s)
by-shape shape.Byte s = of-byte (byte_of s) (byte_inner s)
by-shape shape.ByteStr s = of-byte-string (byte_string_of s) (byte_string_inner s)
by-shape shape.Number s = of_number (number_of s) (number_inner s)
by-shape shape.Word s = of-word (word_of s) (word_inner s)

pub token_inner : (s : List ℕ) → Inner-lexeme (lexeme_of (token_of s))
unfolding token_of
token_inner s = by-shape (shape_of (get_or s 0 0) (get_or s 1 0) (get_or s 2 0)) s

-- ---- behind its gap

behind-gap : (g : ℕ) (a : Told Lexeme) → Inner-lexeme a → Inner-answer (lexeme_behind g a)
behind-gap g (Ok l) h = tt
behind-gap g (Err r) h = h

by-gap : (s : List ℕ) (g : Gap) → Inner-gap g → Inner-answer (by_gap s g)
by-gap s (gap.Clear g) h = both Inner-answer (ltb g (length s)) (behind-gap g (lexeme_of (token_of (drop g s))) (token_inner (drop g s))) tt
by-gap s (gap.InLine n) h = tt
by-gap s (gap.Refused r) h = h

pub ron_inner : (s : List ℕ) → Inner-answer (ron_token s)
unfolding ron_token
ron_inner s = by-gap s (gap_of s) (gap_inner s)

-- ---- so its number is not 0

positive : (r : Refusal) → Inner r → 0 < r.number
positive r h = let b = within_true 4 21 r.number (and_true (within 4 21 r.number) (reasoned r) h).0 in omega arith

by-answer : (a : Answer) (r : Refusal) → Inner-answer a → a ≡ refuse r → Inner r
by-answer (token t) r h e = let z : ◌≡◌ {A = ℕ} 0 1 = cc in absurd (omega arith)
by-answer stop r h e = let z : ◌≡◌ {A = ℕ} 0 1 = cc in absurd (omega arith)
by-answer (refuse q) r h e = let z : q ≡ r = cc in subst Inner z h

pub refused_inner : (s : List ℕ) (r : Refusal) → ron_token s ≡ refuse r → Inner r
refused_inner s r e = by-answer (ron_token s) r (ron_inner s) e

pub refused_positive : (s : List ℕ) (r : Refusal) → ron_token s ≡ refuse r → 0 < r.number
refused_positive s r e = positive r (refused_inner s r e)
