-- What stands in front, in the words of specs/Gap.antt, is the item that crate `comments` finds there. Assumes nothing.
use Rattle.std.proofs.Common.{Some, None}
use Prim.Native.Nat.{ℕ, ◌+◌}
use native.Mathlib.Nat.{zero-add, le_refl}
use native.Mathlib.Omega.{arith}
use mathlib.Core.Bool.{true}
use mathlib.Core.List.{List, [], ◌∷◌, ◌++◌}
use mathlib.Core.Logic.{◌⊎◌, inl, inr}
use mathlib.Core.Path.{◌≡◌, ◌∙◌, ap, refl, sym}
use lib.Dec.{eqb}
use lib.ListN.{length}
use borrow.Author.Tests.{eqb-false, eqb-true, ne_eqb}
use Rattle.comments.proofs.GapLaws.{item_blank, item_comment, comment_other}
use Rattle.comments.specs.Blocks.{block_end}
use Rattle.comments.specs.Gaps.{behind_slash, block_item, comment_of, item_of, line_item}
use Rattle.comments.specs.Lines.{line_end, line_from}
use Rattle.comments.specs.declared.gap.Item.TheVariants.{Blank, BlockOpen, Ended, LineOpen, Other, Unexpected}
use Rattle.gapped.proofs.Blanks.{blank_wide, encode_pos}
use Rattle.gapped.specs.Gap.{Line}
use Rattle.gapped.specs.Gap.Line.{none, more}
use Rattle.text.proofs.BlankLaws.{width_at}
use Rattle.text.proofs.Choices.{bool_cases, either}
use Rattle.text.specs.Classes.{blank, blank1, blank2, blank3, blank_width, within}
use Rattle.text.specs.Utf8.{Scalar, char_len, encode}

-- ---- whitespace

pub item_space : (c : ℕ) (u : List ℕ) → Scalar c → blank c ≡ true → item_of (encode c ++ u) ≡ Blank (length (encode c))
item_space c u sc e = item_blank (encode c ++ u) (length (encode c)) (sym (blank_wide c u sc e)) (encode_pos c sc)

-- ---- neither whitespace nor `/`

pub item_other : (a : ℕ) (s : List ℕ) → width_at (a ∷ s) ≡ 0 → (a ≡ 0x2f → ⊥) → item_of (a ∷ s) ≡ Other
item_other a s h n = item_comment (a ∷ s) 0 (sym h) (le_refl 0) ∙ comment_other (a ∷ s) (omega arith) n

-- ---- behind a `/`

-- a `/` is no whitespace
slash : (s : List ℕ) → item_of (0x2f ∷ s) ≡ behind_slash s
unfolding item_of comment_of blank_width blank1 blank2 blank3 within
slash s = refl

pub item_last : item_of (0x2f ∷ []) ≡ Ended
unfolding behind_slash
item_last = slash []

two_slashes : (w : List ℕ) → item_of (0x2f ∷ 0x2f ∷ w) ≡ line_item (line_end w)
unfolding behind_slash
two_slashes w = slash (0x2f ∷ w)

slash_star : (w : List ℕ) → item_of (0x2f ∷ 0x2a ∷ w) ≡ block_item (block_end w)
unfolding behind_slash
slash_star w = slash (0x2a ∷ w)

pub item_stray : (b : ℕ) (w : List ℕ) → (b ≡ 0x2f → ⊥) → (b ≡ 0x2a → ⊥) → item_of (0x2f ∷ b ∷ w) ≡ Unexpected (1 + char_len (b ∷ w))
unfolding behind_slash
item_stray b w n m = slash (b ∷ w) ∙ rw (ne_eqb b 0x2f n, ne_eqb b 0x2a m)

-- ---- line comments

-- the LF that ends a line is found behind it
line_ends : {w : List ℕ} → Line w → (s : List ℕ) (at : ℕ) → line_from (w ++ 0x0a ∷ s) at ≡ Some (at + length w)
unfolding line_from
line_ends none s at = ap Some (omega arith)
line_ends (more {b} {w} n l) s at = rw (ne_eqb b 0x0a n) (line_ends l s (at + 1) ∙ ap Some (omega arith))

pub item_line : (w s : List ℕ) → Line w → item_of (0x2f ∷ 0x2f ∷ (w ++ 0x0a ∷ s)) ≡ Blank (length w + 2)
unfolding line_end
item_line w s l = two_slashes (w ++ 0x0a ∷ s) ∙ ap line_item (line_ends l s 0 ∙ ap Some (zero-add (length w)))

-- and in a line without one there is no end
line_open : {w : List ℕ} → Line w → (at : ℕ) → line_from w at ≡ None
unfolding line_from
line_open none at = refl
line_open (more {b} {w} n l) at = rw (ne_eqb b 0x0a n) (line_open l (at + 1))

pub item_line_open : (w : List ℕ) → Line w → item_of (0x2f ∷ 0x2f ∷ w) ≡ LineOpen
unfolding line_end
item_line_open w l = two_slashes w ∙ ap line_item (line_open l 0)

-- a line that an LF ends
pub record Ended-line (s : List ℕ) : Type 0 where
  pub front : List ℕ
  pub rest : List ℕ
  pub line : Line front
  pub split : s ≡ front ++ 0x0a ∷ rest

-- every part is a line without an LF, or one that an LF ends
pub line_split : (s : List ℕ) → Line s ⊎ Ended-line s
line_split [] = inl none
line_split (b ∷ s) =
    either (bool_cases (eqb b 0x0a))
    (λ e. inr (record { front = []; rest = s; line = none; split = ap (λ (x : ℕ). x ∷ s) (eqb-true b 0x0a e) }))
    (λ e. let n = eqb-false b 0x0a e in
    either (line_split s) (λ l. inl (more n l))
    (λ q. inr (record { front = b ∷ q.front; rest = q.rest; line = more n q.line; split = ap (λ (t : List ℕ). b ∷ t) q.split })))

-- ---- block comments

pub item_block : (s : List ℕ) (n : ℕ) → block_end s ≡ Some n → item_of (0x2f ∷ 0x2a ∷ s) ≡ Blank (n + 2)
item_block s n e = slash_star s ∙ ap block_item e

pub item_block_open : (s : List ℕ) → block_end s ≡ None → item_of (0x2f ∷ 0x2a ∷ s) ≡ BlockOpen
item_block_open s e = slash_star s ∙ ap block_item e
