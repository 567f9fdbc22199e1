-- What a word says stands at the front of the buffer that it was put into. Assumes nothing.
use Rattle.std.specs.Prelude.{Option, Some, None}
use Prim.Native.Nat.{ℕ, ◌-◌, ◌≤◌, ◌*◌}
use native.Mathlib.Omega.{arith}
use mathlib.Core.Bool.{true, ◌&&◌}
use mathlib.Core.List.{List, []}
use mathlib.Core.Path.{◌≡◌, sym, ap, subst, ◌∙◌}
use lib.Dec.{eqb, leb}
use lib.ListN.{length, take}
use borrow.Author.Tests.{leb-true}
use Rattle.lines.specs.Over.{over}
use Rattle.lines.proofs.Laws.{over_front}
use Rattle.words.specs.Dash.{is_dash}
use Rattle.words.specs.Hex.{hex_in, pairs, pairs_in}
use Rattle.words.specs.Numbers.{items, items_in, numbers_in, numbers_of}
use Rattle.words.proofs.Dashes.{dash_is}
use Rattle.words.proofs.Items.{numbers_dash}
use Rattle.text.proofs.Choices.{and_true, cond_cases}

-- so many of them, or none
front_of : (s d : List ℕ) (n : ℕ) → n ≡ length s → length s ≤ length d → take n (over s d) ≡ s
front_of s d n e h = ap (λ (k : ℕ). take k (over s d)) e ∙ over_front s d h

none_of : (s d : List ℕ) (n : ℕ) → n ≡ 0 → s ≡ [] → take n (over s d) ≡ s
none_of s d n e f = ap (λ (k : ℕ). take k (over s d)) e ∙ sym f

-- ---- hex

abbrev bytes_of : Option ℕ → ℕ
bytes_of (Some n) = n
bytes_of None = 0

abbrev Bytes : Option ℕ → Type 0
Bytes (Some n) = Unit
Bytes None = ⊥

module _ (w text : List ℕ) (n : ℕ) where
  abbrev Said : Option ℕ → Type 0
  Said h = h ≡ Some n → take n (over (pairs w) text) ≡ pairs w

  bad_bytes : Said None
  bad_bytes e = absurd (subst Bytes (sym e) tt)

  dash_pairs : is_dash w ≡ true → pairs w ≡ []
  unfolding pairs
  dash_pairs d = rw (dash_is w d)

  pairs_said : Said (pairs_in w (length text))
  unfolding pairs_in
  pairs_said =
      cond_cases Said (eqb (2 * length (pairs w)) (length w) && leb (length (pairs w)) (length text)) _ _
      (λ t e. front_of (pairs w) text n (sym (ap bytes_of e)) (leb-true _ _ (and_true (eqb (2 * length (pairs w)) (length w)) _ t).1))
      (λ f. bad_bytes)

  -- the bytes of a word
  pub hex_said : hex_in w (length text) ≡ Some n → take n (over (pairs w) text) ≡ pairs w
  unfolding hex_in
  hex_said =
      cond_cases Said (is_dash w) _ _ (λ d e. none_of (pairs w) text n (sym (ap bytes_of e)) (dash_pairs d))
      (λ d. cond_cases Said (eqb (length w) 0) _ _ (λ z. bad_bytes) (λ z. pairs_said))

-- the part of the room that a word says
pub part_said : (word text left part : List ℕ) (n : ℕ)
    → hex_in word (length text) ≡ Some n → left ≡ over (pairs word) text → part ≡ take (n - 0) left → part ≡ pairs word
part_said word text left part n e l p =
    let all : n - 0 ≡ n = omega arith in
    p ∙ ap (λ (k : ℕ). take k left) all ∙ ap (take n) l ∙ hex_said word text n e

-- ---- numbers

abbrev numbers_counted : Option ℕ → ℕ
numbers_counted (Some n) = n
numbers_counted None = 0

abbrev Numbers : Option ℕ → Type 0
Numbers (Some n) = Unit
Numbers None = ⊥

module _ (w tape : List ℕ) (n : ℕ) where
  abbrev Stores : Option ℕ → Type 0
  Stores k = k ≡ Some n → take n (over (numbers_of w) tape) ≡ numbers_of w

  items_said : Stores (items_in w (length tape))
  unfolding items_in
  items_said =
      cond_cases Stores (eqb (length (numbers_of w)) (length (items w)) && leb (length (numbers_of w)) (length tape)) _ _
      (λ t e. front_of (numbers_of w) tape n (sym (ap numbers_counted e)) (leb-true _ _ (and_true (eqb (length (numbers_of w)) (length (items w))) _ t).1))
      (λ f e. absurd (subst Numbers (sym e) tt))

  -- the numbers of a list
  pub list_said : numbers_in w (length tape) ≡ Some n → take n (over (numbers_of w) tape) ≡ numbers_of w
  unfolding numbers_in
  list_said =
      cond_cases Stores (is_dash w) _ _ (λ d e. none_of (numbers_of w) tape n (sym (ap numbers_counted e)) (numbers_dash w d)) (λ d. items_said)

-- the numbers of the tape that a word says
pub tape_said : (word tape left part : List ℕ) (n : ℕ)
    → numbers_in word (length tape) ≡ Some n → left ≡ over (numbers_of word) tape → part ≡ take n left → part ≡ numbers_of word
tape_said word tape left part n e l p = p ∙ ap (take n) l ∙ list_said word tape n e
