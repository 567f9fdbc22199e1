-- What a part begins with: which it is, and that it lies within the part. Assumes nothing.
use Rattle.std.proofs.Common.{Ok, Err}
use Rattle.text.specs.Refusals.{Told}
use Prim.Native.Nat.{ℕ, ◌<◌, ◌≤◌}
use native.Mathlib.Omega.{arith}
use mathlib.Core.Bool.{Bool, cond}
use mathlib.Core.List.{List}
use mathlib.Core.Path.{◌≡◌, ap, sym, ◌∙◌}
use lib.Dec.{eqb}
use lib.ListN.{length, get_or}
use borrow.Author.Tests.{eq-eqb, ne_eqb}
use Rattle.comments.proofs.GapLaws.{Sized as Sized-item, item_sized}
use Rattle.comments.specs.Gaps.{comment_of, item_of}
use Rattle.comments.specs.declared.gap.Item.{Item}
use Rattle.comments.specs.declared.gap.Item.TheVariants.{Blank, LineOpen, BlockOpen, Unexpected, Ended, Other}
use Rattle.strings.proofs.Bounds.{Bounded-string, string_bounded, byte_string_bounded}
use Rattle.strings.specs.Pieces.{unquoted}
use Rattle.strings.specs.Strings.{string_of, byte_string_of}
use Rattle.strings.specs.declared.literal.Literal.{Literal}
use Rattle.text.proofs.Choices.{cond_cases}
use Rattle.text.proofs.RunLaws.{run_le}
use Rattle.text.specs.Runs.{run}
use Rattle.text.specs.declared.refusal.Refusal.{Refusal}
use Rattle.opened.specs.Fronts.{by_literal, literal_front, by_item, front_of}
use Rattle.opened.specs.declared.front.Front.{Front}
use Rattle.opened.specs.declared.front.Front.TheVariants.{Passes, OpenComment, OpenString}

-- the front by the item there
pub front_by : (s : List ℕ) (r : Item) → item_of s ≡ r → by_item r s ≡ front_of s
unfolding front_of
front_by s r e = ap (λ (x : Item). by_item x s) (sym e)

-- and where no whitespace stands, by the comment there
pub other_by : (s : List ℕ) (r : Item) → comment_of s ≡ r → by_item r s ≡ by_item (comment_of s) s
other_by s r e = ap (λ (x : Item). by_item x s) (sym e)

-- a string by the answer of its reader
module _ (s : List ℕ) (a : Told Literal) where
  pub literal_read : (l : Literal) → a ≡ Ok l → Passes l.len ≡ by_literal a s
  literal_read l e = ap (λ (x : Told Literal). by_literal x s) (sym e)

  pub literal_open : (r : Refusal) → a ≡ Err r → r.number ≡ 17 → (q : ℕ) → q ≡ run unquoted s → OpenString q ≡ by_literal a s
  literal_open r e h q g =
      ap OpenString g ∙ sym (ap (λ (t : Bool). cond t (OpenString (run unquoted s)) (Passes 1)) (eq-eqb r.number 17 h)) ∙ ap (λ (x : Told Literal). by_literal x s) (sym e)

  pub literal_none : (r : Refusal) → a ≡ Err r → (r.number ≡ 17 → ⊥) → Passes 1 ≡ by_literal a s
  literal_none r e h =
      sym (ap (λ (t : Bool). cond t (OpenString (run unquoted s)) (Passes 1)) (ne_eqb r.number 17 h)) ∙ ap (λ (x : Told Literal). by_literal x s) (sym e)

-- a string by its first byte
module _ (s : List ℕ) (a : Told Literal) where
  pub literal_bytes : get_or s 0 0 ≡ 0x62 → a ≡ byte_string_of s → by_literal a s ≡ literal_front s
  unfolding literal_front
  literal_bytes h e = rw (eq-eqb (get_or s 0 0) 0x62 h, e)

  pub literal_string : (get_or s 0 0 ≡ 0x62 → ⊥) → a ≡ string_of s → by_literal a s ≡ literal_front s
  unfolding literal_front
  literal_string h e = rw (ne_eqb (get_or s 0 0) 0x62 h, e)

-- what is passed has a byte, and lies within the part, and so does a quote
abbrev pub Sized : List ℕ → Front → Type 0
Sized s (Passes n) = (0 < n) × (n ≤ length s)
Sized s OpenComment = Unit {0}
Sized s (OpenString n) = n ≤ length s

module _ (s : List ℕ) (some : 0 < length s) where
  literal_sized : (a : Told Literal) → Bounded-string s a → Sized s (by_literal a s)
  literal_sized (Ok l) b = (b.0, b.1)
  literal_sized (Err r) b = cond_cases (Sized s) (eqb r.number 17) _ _ (λ e. run_le unquoted s) (λ e. (omega arith, omega arith))

  string_sized : Sized s (literal_front s)
  unfolding literal_front
  string_sized =
      cond_cases (λ (a : Told Literal). Sized s (by_literal a s)) (eqb (get_or s 0 0) 0x62) _ _
      (λ e. literal_sized (byte_string_of s) (byte_string_bounded s)) (λ e. literal_sized (string_of s) (string_bounded s))

  sized_by : (r : Item) → Sized-item s r → Sized s (by_item r s)
  sized_by (Blank n) z = z
  sized_by LineOpen z = (some, omega arith)
  sized_by BlockOpen z = tt
  sized_by (Unexpected n) z = (omega arith, omega arith)
  sized_by Ended z = (omega arith, omega arith)
  sized_by Other z = string_sized

  pub front_sized : Sized s (front_of s)
  unfolding front_of
  front_sized = sized_by (item_of s) (item_sized s)
