-- Something is found: a comment that is not closed in the gap behind the last entry, and a string that is not closed behind that gap. Assumes nothing.
use Rattle.std.proofs.Common.{Err}
use Rattle.text.specs.Refusals.{Told, eof, expected_byte_string, expected_string, unexpected_char}
use Rattle.strings.specs.declared.literal.Literal.{Literal}
use Prim.Native.Nat.{ℕ, zero, suc, pred, ◌+◌, ◌<◌}
use native.Mathlib.Omega.{arith}
use mathlib.Core.Bool.{true, false}
use mathlib.Core.List.{List, [], ◌∷◌}
use mathlib.Core.Logic.{◌⊎◌, inl, inr}
use mathlib.Core.Path.{◌≡◌, ap, refl, sym, ◌∙◌}
use lib.Dec.{eqb}
use lib.ListN.{drop, get_or, length}
use borrow.Author.Tests.{eq-eqb, eqb-true}
use Rattle.comments.proofs.GapLaws.{gap_restarts}
use Rattle.comments.specs.Gaps.{by_item as byGapItem, gap_from, gap_of, item_of}
use Rattle.comments.specs.declared.gap.Gap.TheVariants.{Clear, Refused as NoGap}
use Rattle.comments.specs.declared.gap.Item.{Item}
use Rattle.comments.specs.declared.gap.Item.TheVariants.{Blank, LineOpen, BlockOpen, Unexpected, Ended, Other}
use Rattle.strings.specs.Pieces.{unquoted}
use Rattle.strings.specs.Strings.{string_of, byte_string_of}
use Rattle.text.proofs.Choices.{cond_cases}
use Rattle.text.specs.Runs.{run}
use Rattle.text.specs.declared.refusal.Refusal.{Refusal}
use Rattle.opened.specs.Fronts.{by_item, by_literal, front_of, literal_front}
use Rattle.opened.specs.Begun.{by_front, begun_from, reached_of, read_begun}
use Rattle.opened.specs.declared.begun.Begun.{Begun}
use Rattle.opened.specs.declared.begun.Begun.TheVariants.{Comment, Quote}
use Rattle.opened.specs.declared.front.Front.{Front}
use Rattle.opened.specs.declared.front.Front.TheVariants.{OpenString}

-- ---- the gap

module _ (r : Refusal) (is-4 : r.number ≡ 4) where
  abbrev Shows : Begun → Type 0
  Shows b = (p : ℕ) × (b ≡ Comment p)

  item_shows : (a : ℕ) (s : List ℕ) (at to : ℕ) (i : Item)
      → ((m : ℕ) → gap_from s (pred m) (at + 1) ≡ NoGap r → Shows (begun_from s (pred m) (to + 1)))
      → byGapItem i (λ n. gap_from s (pred n) (at + 1)) at (at + length (a ∷ s)) ≡ NoGap r
      → Shows (by_front (by_item i (a ∷ s)) (λ n. begun_from s (pred n) (to + 1)) to)
  item_shows a s at to (Blank n) rest h = rest n h
  item_shows a s at to LineOpen rest h = let z : ◌≡◌ {A = ℕ} 0 1 = cc in absurd (omega arith)
  item_shows a s at to BlockOpen rest h = (to, refl)
  item_shows a s at to (Unexpected n) rest h = let z : unexpected_char (at + n) ≡ r = cc in absurd (omega (arith, ap (λ (x : Refusal). x.number) z))
  item_shows a s at to Ended rest h = let z : eof (at + length (a ∷ s)) ≡ r = cc in absurd (omega (arith, ap (λ (x : Refusal). x.number) z))
  item_shows a s at to Other rest h = let z : ◌≡◌ {A = ℕ} 0 1 = cc in absurd (omega arith)

  from_gap : (s : List ℕ) (left at to : ℕ) → gap_from s left at ≡ NoGap r → Shows (begun_from s left to)
  unfolding gap_from begun_from front_of
  from_gap [] left at to h = let z : ◌≡◌ {A = ℕ} 0 1 = cc in absurd (omega arith)
  from_gap (a ∷ s) (suc left) at to h = from_gap s left (at + 1) (to + 1) h
  from_gap (a ∷ s) zero at to h = item_shows a s at to (item_of (a ∷ s)) (λ m. from_gap s (pred m) (at + 1) (to + 1)) h

  -- a comment that is not closed behind the last entry is found
  pub gap_shows : (text : List ℕ) → gap_of (drop (reached_of text) text) ≡ NoGap r → (p : ℕ) × (read_begun text 4 ≡ Comment p)
  unfolding gap_of read_begun
  gap_shows text h = from_gap (drop (reached_of text) text) 0 0 (reached_of text) h

-- ---- behind the gap

-- the search passes a whole gap
abbrev Behind : List ℕ → ℕ → ℕ → ℕ → ℕ → Type 0
Behind s left at to e = (n : ℕ) × (e ≡ at + n) × (begun_from s left to ≡ begun_from (drop n s) 0 (to + n))

item_passes : (a : ℕ) (s : List ℕ) (at to e : ℕ) (i : Item) → item_of (a ∷ s) ≡ i
    → ((m : ℕ) → gap_from s (pred m) (at + 1) ≡ Clear e → Behind s (pred m) (at + 1) (to + 1) e)
    → byGapItem i (λ n. gap_from s (pred n) (at + 1)) at (at + length (a ∷ s)) ≡ Clear e
    → Behind (a ∷ s) 0 at to e
unfolding begun_from front_of
item_passes a s at to e (Blank m) q rest h =
    let b = rest m h in
    let k : to + 1 + b.0 ≡ to + suc b.0 = omega arith in
    (suc b.0, omega (arith, b.1), ap (λ (i : Item). by_front (by_item i (a ∷ s)) (λ n. begun_from s (pred n) (to + 1)) to) q ∙ b.2 ∙ ap (begun_from (drop b.0 s) 0) k)
item_passes a s at to e LineOpen q rest h = let z : ◌≡◌ {A = ℕ} 0 1 = cc in absurd (omega arith)
item_passes a s at to e BlockOpen q rest h = let z : ◌≡◌ {A = ℕ} 0 1 = cc in absurd (omega arith)
item_passes a s at to e (Unexpected n) q rest h = let z : ◌≡◌ {A = ℕ} 0 1 = cc in absurd (omega arith)
item_passes a s at to e Ended q rest h = let z : ◌≡◌ {A = ℕ} 0 1 = cc in absurd (omega arith)
item_passes a s at to e Other q rest h = let z : at ≡ e = cc in let k : to ≡ to + 0 = omega arith in (0, omega arith, ap (begun_from (a ∷ s) 0) k)

gap_passes : (s : List ℕ) (left at to e : ℕ) → gap_from s left at ≡ Clear e → Behind s left at to e
unfolding gap_from begun_from
gap_passes [] left at to e h = let z : at ≡ e = cc in (0, omega arith, refl)
gap_passes (a ∷ s) (suc left) at to e h =
    let b = gap_passes s left (at + 1) (to + 1) e h in
    let k : to + 1 + b.0 ≡ to + suc b.0 = omega arith in
    (suc b.0, omega (arith, b.1), b.2 ∙ ap (begun_from (drop b.0 s) 0) k)
gap_passes (a ∷ s) zero at to e h = item_passes a s at to e (item_of (a ∷ s)) refl (λ m. gap_passes s (pred m) (at + 1) (to + 1) e) h

-- behind a gap neither whitespace nor a comment stands
item_ends : (a : ℕ) (s : List ℕ) (i : Item) → item_of (a ∷ s) ≡ i → byGapItem i (λ n. gap_from s (pred n) (0 + 1)) 0 (0 + length (a ∷ s)) ≡ Clear 0 → item_of (a ∷ s) ≡ Other
item_ends a s (Blank n) q h = let b = gap_passes s (pred n) (0 + 1) 0 0 h in absurd (omega (arith, b.1))
item_ends a s LineOpen q h = let z : ◌≡◌ {A = ℕ} 0 1 = cc in absurd (omega arith)
item_ends a s BlockOpen q h = let z : ◌≡◌ {A = ℕ} 0 1 = cc in absurd (omega arith)
item_ends a s (Unexpected n) q h = let z : ◌≡◌ {A = ℕ} 0 1 = cc in absurd (omega arith)
item_ends a s Ended q h = let z : ◌≡◌ {A = ℕ} 0 1 = cc in absurd (omega arith)
item_ends a s Other q h = q

-- ---- a string

-- the string or the byte string at the front
abbrev Either : List ℕ → Told Literal → Type 0
Either s a = (string_of s ≡ a) ⊎ (byte_string_of s ≡ a)

module _ (r : Refusal) (is-17 : r.number ≡ 17) where
  opens : (s : List ℕ) (a : Told Literal) → a ≡ Err r → by_literal a s ≡ OpenString (run unquoted s)
  opens s a e =
      ap (λ (x : Told Literal). by_literal x s) e ∙ rw (eq-eqb r.number 17 is-17)

  no_string : (s : List ℕ) → eqb (get_or s 0 0) 0x62 ≡ true → string_of s ≡ Err r → ⊥
  unfolding string_of
  no_string s b =
      let first = eqb-true (get_or s 0 0) 0x62 b in
      cond_cases (λ (a : Told Literal). a ≡ Err r → ⊥) (eqb (get_or s 0 0) 0x22) _ _ (λ x e. omega (arith, first, eqb-true (get_or s 0 0) 0x22 x))
      (λ y. cond_cases (λ (a : Told Literal). a ≡ Err r → ⊥) (eqb (get_or s 0 0) 0x72) _ _ (λ x e. omega (arith, first, eqb-true (get_or s 0 0) 0x72 x))
      (λ x e. (let i : expected_string 0 ≡ r = cc in omega (arith, ap (λ (x : Refusal). x.number) i))))

  no_byte_string : (s : List ℕ) → eqb (get_or s 0 0) 0x62 ≡ false → byte_string_of s ≡ Err r → ⊥
  unfolding byte_string_of
  no_byte_string s b =
      cond_cases (λ (a : Told Literal). a ≡ Err r → ⊥) (eqb (get_or s 0 0) 0x62) _ _ (λ x e. (let z : true ≡ false = sym x ∙ b in let w : ◌≡◌ {A = ℕ} 0 1 = cc in omega arith))
      (λ x e. (let i : expected_byte_string 0 ≡ r = cc in omega (arith, ap (λ (x : Refusal). x.number) i)))

  literal_opens : (s : List ℕ) → Either s (Err r) → literal_front s ≡ OpenString (run unquoted s)
  unfolding literal_front
  literal_opens s (inl e) =
      cond_cases (λ (a : Told Literal). by_literal a s ≡ OpenString (run unquoted s)) (eqb (get_or s 0 0) 0x62) _ _ (λ b. absurd (no_string s b e)) (λ b. opens s (string_of s) e)
  literal_opens s (inr e) =
      cond_cases (λ (a : Told Literal). by_literal a s ≡ OpenString (run unquoted s)) (eqb (get_or s 0 0) 0x62) _ _ (λ b. opens s (byte_string_of s) e) (λ b. absurd (no_byte_string s b e))

  front_opens : (t : List ℕ) (to : ℕ) → 0 < length t → gap_of t ≡ Clear 0 → Either t (Err r) → begun_from t 0 to ≡ Quote (to + run unquoted t)
  unfolding gap_of gap_from begun_from front_of
  front_opens [] to l h w = absurd (omega arith)
  front_opens (a ∷ s) to l h w =
      ap (λ (i : Item). by_front (by_item i (a ∷ s)) (λ n. begun_from s (pred n) (to + 1)) to) (item_ends a s (item_of (a ∷ s)) refl h)
      ∙ ap (λ (f : Front). by_front f (λ n. begun_from s (pred n) (to + 1)) to) (literal_opens (a ∷ s) w)

  -- a string that is not closed behind the gap behind the last entry is found
  pub string_shows : (text : List ℕ) (g : ℕ) → gap_of (drop (reached_of text) text) ≡ Clear g → 0 < length (drop g (drop (reached_of text) text))
      → Either (drop g (drop (reached_of text) text)) (Err r) → (p : ℕ) × (read_begun text 17 ≡ Quote p)
  unfolding gap_of read_begun
  string_shows text g h l w =
      let s : List ℕ = drop (reached_of text) text in
      let b = gap_passes s 0 0 (reached_of text) g h in
      let k : b.0 ≡ g = omega (arith, b.1) in
      (reached_of text + g + run unquoted (drop g s), b.2 ∙ ap (λ (n : ℕ). begun_from (drop n s) 0 (reached_of text + n)) k ∙ front_opens (drop g s) (reached_of text + g) l (gap_restarts s g h) w)
