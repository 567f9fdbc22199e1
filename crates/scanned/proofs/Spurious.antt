-- What is passed over before a step ends between two characters (`spurious-cut`), and at a byte inside a character nothing is passed over (`tail_step`).
-- Assumes nothing.
use Rattle.std.proofs.Common.{Ok, Err}
use Rattle.text.specs.Refusals.{Told, expected_byte_string, expected_char, expected_string, placed_behind}
use Prim.Native.Nat.{ℕ, ◌+◌, ◌≤◌}
use native.Mathlib.Nat.{le_refl}
use native.Mathlib.Omega.{arith}
use mathlib.Core.List.{List, ◌∷◌}
use mathlib.Core.Path.{◌≡◌, ◌∙◌, refl, subst, sym}
use lib.Dec.{eqb}
use lib.ListN.{drop, get_or, length}
use lib.Seq.{drop-drop}
use borrow.Author.Tests.{lt-ltb, ne_eqb}
use Rattle.text.proofs.Choices.{cond_cases}
use Rattle.text.proofs.ClassLaws.{blank_wide}
use Rattle.text.specs.Classes.{blank2, blank3, blank_width}
use Rattle.text.specs.Utf8.{Encoded, Tail}
use Rattle.comments.proofs.GapLaws.{comment_other, gap_ends, item_comment}
use Rattle.comments.specs.Gaps.{gap_of}
use Rattle.comments.specs.declared.gap.Gap.{Gap}
use Rattle.comments.specs.declared.gap.Gap.TheVariants as gap
use Rattle.comments.specs.declared.gap.Item.TheVariants.{Other}
use Rattle.strings.specs.Chars.{char_of}
use Rattle.strings.specs.Strings.{byte_string_of, string_of}
use Rattle.strings.specs.declared.literal.Literal.{Literal}
use Rattle.scanned.proofs.Boundaries.{byte_string_cut, char_cut, string_cut}
use Rattle.scanned.proofs.GapBoundaries.{Behind, gap_cut}
use Rattle.structs.proofs.PassLaws.{past-byte-string, past-char, past-gap, past-string}
use Rattle.structs.specs.Passes.{behind_char, behind_gap, behind_literal, past_byte_string, past_char, past_gap, past_string}
use Rattle.structs.specs.Scan.{marked_by, past_spurious, step_of}
use Rattle.structs.specs.declared.steps.Step.TheVariants.{Plain}

-- ---- between two characters

-- UTF-8 stands at a place that was reached
abbrev pub Cut : List ℕ → Told ℕ → Type 0
Cut s (Ok n) = Encoded (drop n s)
Cut s (Err r) = Unit {0}

module _ (s : List ℕ) (at : ℕ) where
  on : (n : ℕ) → Encoded (drop n (drop at s)) → Encoded (drop (at + n) s)
  on n e = subst Encoded (drop-drop n at s) e

  gap_by : (g : Gap) → Behind (drop at s) g → Cut s (behind_gap at g)
  gap_by (gap.Clear n) h = on n h
  gap_by (gap.InLine n) h = on n h
  gap_by (gap.Refused r) h = tt

  char_by : (a : Told (ℕ × ℕ)) → char_of (drop at s) ≡ a → Encoded (drop at s) → Cut s (behind_char at a)
  char_by (Ok (n, c)) q e = on n (char_cut (drop at s) n c e q)
  char_by (Err r) q e = e

  literal_by : (none : ℕ) (a : Told Literal) → Encoded (drop at s) → ((l : Literal) → a ≡ Ok l → Encoded (drop l.len (drop at s))) → Cut s (behind_literal none at a)
  literal_by none (Ok l) e h = on l.len (h l refl)
  literal_by none (Err r) e h = cond_cases (Cut s) (eqb r.number none) (Ok at) (Err (placed_behind at r)) (λ q. e) (λ q. tt)

module _ (s : List ℕ) where
  -- each of the five keeps it
  pub past_gap_cut : (p : Told ℕ) → Cut s p → Cut s (past_gap s p)
  unfolding past_gap
  past_gap_cut (Ok at) e = gap_by s at (gap_of (drop at s)) (gap_cut (drop at s) e)
  past_gap_cut (Err r) e = tt

  past_char_cut : (p : Told ℕ) → Cut s p → Cut s (past_char s p)
  unfolding past_char
  past_char_cut (Ok at) e = char_by s at (char_of (drop at s)) refl e
  past_char_cut (Err r) e = tt

  past_string_cut : (p : Told ℕ) → Cut s p → Cut s (past_string s p)
  unfolding past_string
  past_string_cut (Ok at) e = literal_by s at 16 (string_of (drop at s)) e (λ l q. string_cut (drop at s) l e q)
  past_string_cut (Err r) e = tt

  past_byte_string_cut : (p : Told ℕ) → Cut s p → Cut s (past_byte_string s p)
  unfolding past_byte_string
  past_byte_string_cut (Ok at) e = literal_by s at 18 (byte_string_of (drop at s)) e (λ l q. byte_string_cut (drop at s) l e q)
  past_byte_string_cut (Err r) e = tt

  -- and so do all five
  pub spurious_cut : Encoded s → Cut s (past_spurious s)
  unfolding past_spurious
  spurious_cut e = past_gap_cut _ (past_byte_string_cut _ (past_string_cut _ (past_char_cut _ (past_gap_cut (Ok 0) e))))

-- ---- inside a character

-- a character above U+007F, or a byte of one, is no mark
pub marked_wide : (c n : ℕ) → 0x80 ≤ c → marked_by c n ≡ Plain n
unfolding marked_by
marked_wide c n h =
    rw (
      ne_eqb c 0x28 (λ q. omega arith),
      ne_eqb c 0x5B (λ q. omega arith),
      ne_eqb c 0x7B (λ q. omega arith),
      ne_eqb c 0x29 (λ q. omega arith),
      ne_eqb c 0x5D (λ q. omega arith),
      ne_eqb c 0x7D (λ q. omega arith),
      ne_eqb c 0x2C (λ q. omega arith),
    )

module _ (a : ℕ) (s : List ℕ) (h : Tail a) where
  -- no gap, char, string or byte string begins there
  no_gap : gap_of (a ∷ s) ≡ gap.Clear 0
  unfolding gap_of blank2 blank3
  no_gap =
      let w : 0 ≡ blank_width a (get_or s 0 0) (get_or s 1 0) = sym (blank_wide a (get_or s 0 0) (get_or s 1 0) h.0 ∙ rw (ne_eqb a 0xc2 (λ q. omega (arith, h.1)), ne_eqb a 0xe2 (λ q. omega (arith, h.1)))) in
      gap_ends (a ∷ s) 0 Other (omega arith) (item_comment (a ∷ s) 0 w (le_refl 0) ∙ comment_other (a ∷ s) (omega arith) (λ q. omega (arith, h.0)))

  no_char : char_of (a ∷ s) ≡ Err (expected_char 0)
  unfolding char_of
  no_char = rw (ne_eqb a 0x27 (λ q. omega (arith, h.0)))

  no_string : string_of (a ∷ s) ≡ Err (expected_string 0)
  unfolding string_of
  no_string = rw (ne_eqb a 0x22 (λ q. omega (arith, h.0)), ne_eqb a 0x72 (λ q. omega (arith, h.0)))

  no_byte_string : byte_string_of (a ∷ s) ≡ Err (expected_byte_string 0)
  unfolding byte_string_of
  no_byte_string = rw (ne_eqb a 0x62 (λ q. omega (arith, h.0)))

  nothing_passed : past_spurious (a ∷ s) ≡ Ok 0
  unfolding past_spurious
  nothing_passed =
      let t = a ∷ s in
      let p1 : past_gap t (Ok 0) ≡ Ok 0 = past-gap t (Ok 0) 0 refl (gap.Clear 0) no_gap in
      let p2 : past_char t (past_gap t (Ok 0)) ≡ Ok 0 = past-char t (past_gap t (Ok 0)) 0 p1 (Err (expected_char 0)) no_char in
      let p3 = past-string t (past_char t (past_gap t (Ok 0))) 0 p2 (Err (expected_string 0)) no_string in
      let p4 = past-byte-string t (past_string t (past_char t (past_gap t (Ok 0)))) 0 p3 (Err (expected_byte_string 0)) no_byte_string in
      past-gap t (past_byte_string t (past_string t (past_char t (past_gap t (Ok 0))))) 0 p4 (gap.Clear 0) no_gap

  -- a step there is that byte
  pub tail_step : step_of (a ∷ s) ≡ Plain 1
  unfolding step_of
  tail_step = rw (nothing_passed, lt-ltb 0 (length (a ∷ s)) (omega arith)) (marked_wide a 1 h.0)
