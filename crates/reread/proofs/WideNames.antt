-- What a reading makes of a character above U+007F that stands behind a gap (CR 5): a name where it starts one, else 5 at its place. Assumes nothing.
use Rattle.std.proofs.Common.{Ok, Err}
use Prim.Native.Nat.{ℕ, ◌+◌, ◌≤◌, ◌<◌}
use native.Mathlib.Omega.{arith}
use mathlib.Core.Bool.{true, false}
use mathlib.Core.List.{List, ◌++◌}
use mathlib.Core.Path.{◌≡◌, ap, ◌∙◌}
use lib.ListN.{drop, get_or, length, length-append, length-drop}
use borrow.Author.Tests.{le-ltb, lt-ltb, ne_eqb}
use Rattle.text.proofs.Utf8Agree.{char_encode, char_pos}
use Rattle.text.specs.Judged.{judged_of}
use Rattle.text.specs.Refusals.{unexpected_char}
use Rattle.text.specs.Utf8.{Scalar, encode}
use Rattle.xid.specs.Xid.{xid_start}
use Rattle.comments.specs.Gaps.{gap_of}
use Rattle.comments.specs.declared.gap.Gap.TheVariants.{Clear}
use Rattle.names.proofs.Agree.{wide_byte, wide_name, wide_nothing}
use Rattle.names.specs.Classify.{word_of}
use Rattle.names.specs.Names.{IsName}
use Rattle.rows.specs.declared.Entry.{Entry}
use Rattle.reading.proofs.Entries.{counted_broken}
use Rattle.reading.proofs.Steps.{from_refuse, from_token}
use Rattle.reading.specs.Owed.{quiet_byte}
use Rattle.reading.specs.Readings.{◌▸◌, broken, entry, read_from}
use Rattle.tokens.proofs.RonLaws.{gap_token, laws}
use Rattle.tokens.specs.Lexemes.{lexeme_of}
use Rattle.tokens.specs.Ron.{lexeme_behind, by_gap, ron_token}
use Rattle.tokens.specs.Shapes.{mark_kind, shape_of, starts_number}
use Rattle.tokens.specs.Token.{by_shape, of_word, token_of}
use Rattle.tokens.specs.declared.shape.Shape.{Shape}
use Rattle.tokens.specs.declared.shape.Shape.TheVariants.{Word}
use Rattle.read.specs.Read.{read_answer, reading_of}

-- a byte above 7F begins a word
wide_shape : (a b c : ℕ) → 0x80 ≤ a → shape_of a b c ≡ Word
unfolding shape_of mark_kind starts_number
wide_shape a b c h =
    rw (
      ne_eqb a 0x28 (λ e. omega arith),
      ne_eqb a 0x29 (λ e. omega arith),
      ne_eqb a 0x5b (λ e. omega arith),
      ne_eqb a 0x5d (λ e. omega arith),
      ne_eqb a 0x7b (λ e. omega arith),
      ne_eqb a 0x7d (λ e. omega arith),
      ne_eqb a 0x2c (λ e. omega arith),
      ne_eqb a 0x3a (λ e. omega arith),
      ne_eqb a 0x23 (λ e. omega arith),
      ne_eqb a 0x22 (λ e. omega arith),
      ne_eqb a 0x27 (λ e. omega arith),
      ne_eqb a 0x62 (λ e. omega arith),
      ne_eqb a 0x72 (λ e. omega arith),
      ne_eqb a 0x2b (λ e. omega arith),
      ne_eqb a 0x2d (λ e. omega arith),
      ne_eqb a 0x2e (λ e. omega arith),
      le-ltb a 0x30 (omega arith),
      lt-ltb 0x39 a (omega arith),
    )

module _ (c : ℕ) (t : List ℕ) (scalar : Scalar c) (wide : 0x80 ≤ c) where
  token_wide : token_of (encode c ++ t) ≡ of_word (word_of (encode c ++ t))
  unfolding token_of
  token_wide = ap (λ (k : Shape). by_shape k (encode c ++ t)) (wide_shape (get_or (encode c ++ t) 0 0) (get_or (encode c ++ t) 1 0) (get_or (encode c ++ t) 2 0) (wide_byte c t wide))

  -- at a place of a text, behind a gap of g bytes
  module _ (text : List ℕ) (at g : ℕ) (gap : gap_of (drop at text) ≡ Clear g) (here : drop g (drop at text) ≡ encode c ++ t) where
    inside : g < length (drop at text)
    inside = omega (arith, ap length here, length-drop g (drop at text), length-append (encode c) t, char_pos (char_encode c scalar))

    first_is : ron_token (drop at text) ≡ lexeme_behind g (lexeme_of (of_word (word_of (encode c ++ t))))
    unfolding ron_token
    first_is = ap (by_gap (drop at text)) gap ∙ gap_token (drop at text) g inside ∙ ap (λ (s : List ℕ). lexeme_behind g (lexeme_of (token_of s))) here ∙ ap (λ x. lexeme_behind g (lexeme_of x)) token_wide

    pub starts_nothing : xid_start c ≡ false → read_from ron_token text at ≡ broken (unexpected_char (at + g))
    starts_nothing e =
        from_refuse ron_token quiet_byte laws text at (unexpected_char (g + 0)) (first_is ∙ ap (λ w. lexeme_behind g (lexeme_of (of_word w))) (wide_nothing c t scalar wide e))
        ∙ ap (λ (p : ℕ). broken (unexpected_char (at + p))) (omega arith)

    pub starts_name : xid_start c ≡ true
        → (n : ℕ) × IsName (encode c ++ t) n × (read_from ron_token text at ≡ entry (record { kind = 9; start = at + g; end = at + (g + n); detail = 0; gap = g }) (read_from ron_token text (at + (g + n))))
    starts_name e =
        let w = wide_name c t scalar wide e in
        (w.0, w.2, from_token ron_token quiet_byte laws text at _ (first_is ∙ ap (λ x. lexeme_behind g (lexeme_of (of_word x))) w.1))

    -- and so the call, behind the entries before
    pub read_nothing : (es : List Entry) (numbers : ℕ) → judged_of text ≡ Ok tt → reading_of text ≡ es ▸ read_from ron_token text at → xid_start c ≡ false → read_answer text numbers ≡ Err (unexpected_char (at + g))
    unfolding read_answer
    read_nothing es numbers fit whole e = rw (fit, whole, starts_nothing e, counted_broken es 0 (unexpected_char (at + g)))
