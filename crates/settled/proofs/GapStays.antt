-- A gap that ends or is refused before a byte up to 0x7F is the same whatever stands behind that byte: clear, or 5 behind a `/`; an open line comment, 4 and 6
-- stand at the end. Assumes nothing.
use Rattle.std.proofs.Common.{Some, None, Option}
use Prim.Native.Nat.{◌+◌, ◌<◌, ◌≤◌, pred, suc, zero, ℕ}
use native.Mathlib.Nat.{add-zero}
use native.Mathlib.Omega.{arith}
use mathlib.Core.Bool.{Bool, cond, false, true}
use mathlib.Core.List.{List, [], ◌++◌, ◌∷◌, append_assoc}
use mathlib.Core.Path.{◌∙◌, ◌≡◌, ap, refl, subst, sym}
use lib.Dec.{eqb, ltb}
use lib.ListN.{drop, get_or, length, length-append}
use borrow.Author.Tests.{eqb-true, le-leb}
use Rattle.comments.proofs.GapLaws.{Sized, gap_behind, gap_moved, gap_restarts, gap_step, item_sized, passed}
use Rattle.comments.proofs.GapWindow.{gap_stop, gap_window, item_window}
use Rattle.comments.specs.Blocks.{block_end}
use Rattle.comments.specs.Gaps.{behind_slash, block_item, by_item, comment_of, gap_from, gap_of, item_of, line_item}
use Rattle.comments.specs.Lines.{line_end}
use Rattle.comments.specs.declared.gap.Gap.{Gap}
use Rattle.comments.specs.declared.gap.Gap.TheVariants.{Clear, InLine, Refused}
use Rattle.comments.specs.declared.gap.Item.{Item}
use Rattle.comments.specs.declared.gap.Item.TheVariants.{Blank, BlockOpen, Ended, LineOpen, Other, Unexpected}
use Rattle.text.proofs.CharFronts.{len_same}
use Rattle.text.proofs.Choices.{bool_cases, cond_cases, either, lt_or_le}
use Rattle.text.proofs.ClassLaws.{blank_ascii}
use Rattle.text.specs.Classes.{blank1, blank_width, within}
use Rattle.text.specs.Refusals.{eof, placed_behind, unclosed_block_comment, unexpected_char}
use Rattle.text.specs.Utf8.{char_len, width_of}
use Rattle.text.specs.declared.refusal.Refusal.{Refusal}

-- ---- a refusal stands behind what was judged

behind_place : (k : ℕ) (g : Gap) (r : Refusal) → gap_behind k g ≡ Refused r → k ≤ r.place
behind_place k (Clear n) r h = let z : ◌≡◌ {A = ℕ} 0 1 = cc in absurd (omega arith)
behind_place k (InLine n) r h = let z : ◌≡◌ {A = ℕ} 0 1 = cc in absurd (omega arith)
behind_place k (Refused q) r h = let e : placed_behind k q ≡ r = cc in omega (arith, ap (λ (x : Refusal). x.place) e)

at_least : (s : List ℕ) (left at : ℕ) (r : Refusal) → gap_from s left at ≡ Refused r → at ≤ r.place
at_least s left at r h = behind_place at (gap_from s left 0) r (sym (gap_moved s left at 0) ∙ ap (gap_from s left) (add-zero at) ∙ h)

passed_least : (s : List ℕ) (left at : ℕ) (r : Refusal) → left ≤ length s → gap_from s left at ≡ Refused r → at + left ≤ r.place
passed_least s left at r l h = at_least (drop left s) 0 (at + left) r (sym (passed s left at l) ∙ h)

-- ---- an unexpected character

-- behind a `/`, and neither a `/` nor a `*`
record Odd (s : List ℕ) (n : ℕ) : Type 0 where
  second : ℕ
  rest : List ℕ
  whole : s ≡ 0x2f ∷ second ∷ rest
  no_line : eqb second 0x2f ≡ false
  no_block : eqb second 0x2a ≡ false
  count : n ≡ 1 + char_len (second ∷ rest)

line_no : (e : Option ℕ) (n : ℕ) → line_item e ≡ Unexpected n → ⊥
line_no (Some m) n h = let z : ◌≡◌ {A = ℕ} 0 1 = cc in omega arith
line_no None n h = let z : ◌≡◌ {A = ℕ} 0 1 = cc in omega arith

block_no : (e : Option ℕ) (n : ℕ) → block_item e ≡ Unexpected n → ⊥
block_no (Some m) n h = let z : ◌≡◌ {A = ℕ} 0 1 = cc in omega arith
block_no None n h = let z : ◌≡◌ {A = ℕ} 0 1 = cc in omega arith

odd_slash : (n a : ℕ) (t : List ℕ) → eqb a 0x2f ≡ true → behind_slash t ≡ Unexpected n → Odd (a ∷ t) n
unfolding behind_slash
odd_slash n a [] e h = let z : ◌≡◌ {A = ℕ} 0 1 = cc in absurd (omega arith)
odd_slash n a (b ∷ t) e h = go (eqb b 0x2f) (eqb b 0x2a) refl refl h
  where
    go : (x y : Bool) → eqb b 0x2f ≡ x → eqb b 0x2a ≡ y → cond x (line_item (line_end t)) (cond y (block_item (block_end t)) (Unexpected (1 + char_len (b ∷ t)))) ≡ Unexpected n → Odd (a ∷ b ∷ t) n
    go true y p q h = absurd (line_no (line_end t) n h)
    go false true p q h = absurd (block_no (block_end t) n h)
    go false false p q h = record { second = b; rest = t; whole = ap (λ (x : ℕ). x ∷ b ∷ t) (eqb-true a 0x2f e); no_line = p; no_block = q; count = cc }

odd_comment : (n : ℕ) (s : List ℕ) → comment_of s ≡ Unexpected n → Odd s n
unfolding comment_of
odd_comment n [] h = let z : ◌≡◌ {A = ℕ} 0 1 = cc in absurd (omega arith)
odd_comment n (a ∷ t) h =
    cond_cases (λ (x : Item). x ≡ Unexpected n → Odd (a ∷ t) n) (eqb a 0x2f) (behind_slash t) Other (λ e q. odd_slash n a t e q) (λ e q. let z : ◌≡◌ {A = ℕ} 0 1 = cc in absurd (omega arith)) h

odd : (s : List ℕ) (n : ℕ) → item_of s ≡ Unexpected n → Odd s n
unfolding item_of
odd s n =
    cond_cases (λ (x : Item). x ≡ Unexpected n → Odd s n) (ltb 0 (blank_width (get_or s 0 0) (get_or s 1 0) (get_or s 2 0))) (Blank (blank_width (get_or s 0 0) (get_or s 1 0) (get_or s 2 0))) (comment_of s)
    (λ e h. let z : ◌≡◌ {A = ℕ} 0 1 = cc in absurd (omega arith)) (λ e h. odd_comment n s h)

is_odd : (b : ℕ) (t : List ℕ) → eqb b 0x2f ≡ false → eqb b 0x2a ≡ false → item_of (0x2f ∷ b ∷ t) ≡ Unexpected (1 + char_len (b ∷ t))
unfolding item_of comment_of behind_slash blank1 within
is_odd b t p q = rw (blank_ascii 0x2f b (get_or t 0 0) (omega arith), p, q)

-- ---- how a gap ends

-- an open line comment ends with the text
in_line : (s : List ℕ) (left at n : ℕ) → gap_from s left at ≡ InLine n → at + length s ≤ n
unfolding gap_from
in_line [] left at n h = let z : ◌≡◌ {A = ℕ} 0 1 = cc in absurd (omega arith)
in_line (a ∷ s) (suc left) at n h = omega (arith, in_line s left (at + 1) n h)
in_line (a ∷ s) zero at n h = go (item_of (a ∷ s)) h (λ k q. in_line s (pred k) (at + 1) n q)
  where
    go : (i : Item) → by_item i (λ k. gap_from s (pred k) (at + 1)) at (at + length (a ∷ s)) ≡ InLine n → ((k : ℕ) → gap_from s (pred k) (at + 1) ≡ InLine n → at + 1 + length s ≤ n) → at + length (a ∷ s) ≤ n
    go (Blank k) h f = omega (arith, f k h)
    go LineOpen h f = let e : at + length (a ∷ s) ≡ n = cc in omega arith
    go BlockOpen h f = let z : ◌≡◌ {A = ℕ} 0 1 = cc in absurd (omega arith)
    go (Unexpected k) h f = let z : ◌≡◌ {A = ℕ} 0 1 = cc in absurd (omega arith)
    go Ended h f = let z : ◌≡◌ {A = ℕ} 0 1 = cc in absurd (omega arith)
    go Other h f = let z : ◌≡◌ {A = ℕ} 0 1 = cc in absurd (omega arith)

drop_front : (u x : List ℕ) → drop (length u) (u ++ x) ≡ x
drop_front [] x = refl
drop_front (a ∷ u) x = drop_front u x

last_byte : (u w : List ℕ) (b : ℕ) → get_or (u ++ b ∷ w) (length u) 0 ≡ b
last_byte [] w b = refl
last_byte (a ∷ u) w b = last_byte u w b

behind_none : (w : List ℕ) → behind_slash w ≡ Other → ⊥
unfolding behind_slash
behind_none [] h = let z : ◌≡◌ {A = ℕ} 0 1 = cc in omega arith
behind_none (b ∷ w) h = go (eqb b 0x2f) (eqb b 0x2a) h
  where
    line : (e : Option ℕ) → line_item e ≡ Other → ⊥
    line (Some n) h = let z : ◌≡◌ {A = ℕ} 0 1 = cc in omega arith
    line None h = let z : ◌≡◌ {A = ℕ} 0 1 = cc in omega arith

    block : (e : Option ℕ) → block_item e ≡ Other → ⊥
    block (Some n) h = let z : ◌≡◌ {A = ℕ} 0 1 = cc in omega arith
    block None h = let z : ◌≡◌ {A = ℕ} 0 1 = cc in omega arith

    go : (x y : Bool) → cond x (line_item (line_end w)) (cond y (block_item (block_end w)) (Unexpected (1 + char_len (b ∷ w)))) ≡ Other → ⊥
    go true y h = line (line_end w) h
    go false true h = block (block_end w) h
    go false false h = let z : ◌≡◌ {A = ℕ} 0 1 = cc in omega arith

-- what begins with a `/` is no token
not_other : (w : List ℕ) → item_of (0x2f ∷ w) ≡ Other → ⊥
unfolding item_of comment_of blank1 within
not_other w h = behind_none w (rw (blank_ascii 0x2f (get_or w 0 0) (get_or w 1 0) (omega arith)) at h)

pub slash_none : (w : List ℕ) → gap_of (0x2f ∷ w) ≡ Clear 0 → ⊥
unfolding gap_of
slash_none w h = go (item_of (0x2f ∷ w)) refl (sym (gap_step 0x2f w 0) ∙ h)
  where
    later : (g : Gap) → gap_behind 1 g ≡ Clear 0 → ⊥
    later (Clear n) e = let q : 1 + n ≡ 0 = cc in omega arith
    later (InLine n) e = let z : ◌≡◌ {A = ℕ} 0 1 = cc in omega arith
    later (Refused r) e = let z : ◌≡◌ {A = ℕ} 0 1 = cc in omega arith

    go : (i : Item) → item_of (0x2f ∷ w) ≡ i → by_item i (λ k. gap_from w (pred k) 1) 0 (0 + length (0x2f ∷ w)) ≡ Clear 0 → ⊥
    go (Blank n) i h = later (gap_from w (pred n) 0) (sym (gap_moved w (pred n) 1 0) ∙ h)
    go LineOpen i h = let z : ◌≡◌ {A = ℕ} 0 1 = cc in omega arith
    go BlockOpen i h = let z : ◌≡◌ {A = ℕ} 0 1 = cc in omega arith
    go (Unexpected n) i h = let z : ◌≡◌ {A = ℕ} 0 1 = cc in omega arith
    go Ended i h = let z : ◌≡◌ {A = ℕ} 0 1 = cc in omega arith
    go Other i h = not_other w i

-- it ends or is refused behind at most n bytes
abbrev pub GapBy : ℕ → Gap → Type 0
GapBy n (Clear k) = k ≤ n
GapBy n (InLine k) = k ≤ n
GapBy n (Refused r) = r.place ≤ n

module _ (c : ℕ) (low : c < 0x80) where
  ascii_len : (w : List ℕ) → char_len (c ∷ w) ≡ 1
  unfolding char_len width_of
  ascii_len w = rw (le-leb c 0x7F (omega arith))

  -- an unexpected character that lies before c
  odd_stays : (u w w' : List ℕ) (n : ℕ) → item_of (u ++ c ∷ w) ≡ Unexpected n → n ≤ length u → item_of (u ++ c ∷ w') ≡ Unexpected n
  odd_stays [] w w' n h le = let k = odd (c ∷ w) n h in absurd (omega (arith, k.count))
  odd_stays (a ∷ []) w w' n h le =
      let k = odd (a ∷ c ∷ w) n h in
      let e : c ≡ k.second = ap (λ (x : List ℕ). get_or x 1 0) k.whole in
      let f : w ≡ k.rest = ap (drop 2) k.whole in
      let g : char_len (k.second ∷ k.rest) ≡ 1 = subst (λ (x : List ℕ). char_len x ≡ 1) (ap (drop 1) k.whole) (ascii_len w) in
      absurd (omega (arith, k.count, g))
  odd_stays (a ∷ b ∷ u) w w' n h le =
      let k = odd (a ∷ b ∷ u ++ c ∷ w) n h in
      let first : a ≡ 0x2f = ap (λ (x : List ℕ). get_or x 0 0) k.whole in
      let e : b ≡ k.second = ap (λ (x : List ℕ). get_or x 1 0) k.whole in
      let t : char_len (k.second ∷ k.rest) ≡ char_len (b ∷ u ++ c ∷ w) = ap char_len (sym (ap (drop 1) k.whole)) in
      ap (λ (x : ℕ). item_of (x ∷ b ∷ u ++ c ∷ w')) first
      ∙ is_odd b (u ++ c ∷ w') (ap (λ (x : ℕ). eqb x 0x2f) e ∙ k.no_line) (ap (λ (x : ℕ). eqb x 0x2a) e ∙ k.no_block)
      ∙ ap Unexpected (ap (λ (x : ℕ). 1 + x) (len_same c low (b ∷ u) w' w ∙ sym t) ∙ sym k.count)

  -- by the item in front
  item_stays : (a : ℕ) (u w w' : List ℕ) (i : Item) (at : ℕ) (r : Refusal) → item_of (a ∷ u ++ c ∷ w) ≡ i → Sized (a ∷ u ++ c ∷ w) i
      → ((k : ℕ) → gap_from (u ++ c ∷ w) k (at + 1) ≡ Refused r → gap_from (u ++ c ∷ w') k (at + 1) ≡ Refused r)
      → by_item i (λ k. gap_from (u ++ c ∷ w) (pred k) (at + 1)) at (at + length (a ∷ u ++ c ∷ w)) ≡ Refused r → r.place ≤ at + length (a ∷ u) → gap_from (a ∷ u ++ c ∷ w') 0 at ≡ Refused r
  item_stays a u w w' (Blank zero) at r i z rest h le = absurd (omega (arith, z.0))
  item_stays a u w w' (Blank (suc k)) at r i z rest h le =
      let far = passed_least (u ++ c ∷ w) k (at + 1) r (omega (arith, z.1)) h in
      let one : (x : List ℕ) → a ∷ u ++ c ∷ x ≡ (a ∷ u ++ c ∷ []) ++ x = λ x. ap (λ (y : List ℕ). a ∷ y) (sym (append_assoc u (c ∷ []) x)) in
      let same : item_of (a ∷ u ++ c ∷ w') ≡ Blank (suc k) =
      ap item_of (one w') ∙ item_window (a ∷ u ++ c ∷ []) w w' (suc k) (ap item_of (sym (one w)) ∙ i) (omega (arith, far, le, length-append u (c ∷ []))) in
      gap_step a (u ++ c ∷ w') at
      ∙ ap (λ (x : Item). by_item x (λ k. gap_from (u ++ c ∷ w') (pred k) (at + 1)) at (at + length (a ∷ u ++ c ∷ w'))) same
      ∙ rest k h
  item_stays a u w w' LineOpen at r i z rest h le = let z : ◌≡◌ {A = ℕ} 0 1 = cc in absurd (omega arith)
  item_stays a u w w' BlockOpen at r i z rest h le = let e : unclosed_block_comment (at + length (a ∷ u ++ c ∷ w)) ≡ r = cc in absurd (omega (arith, le, ap (λ (x : Refusal). x.place) e, length-append u (c ∷ w)))
  item_stays a u w w' (Unexpected n) at r i z rest h le =
      let e : unexpected_char (at + n) ≡ r = cc in
      gap_step a (u ++ c ∷ w') at
      ∙ ap (λ (x : Item). by_item x (λ k. gap_from (u ++ c ∷ w') (pred k) (at + 1)) at (at + length (a ∷ u ++ c ∷ w'))) (odd_stays (a ∷ u) w w' n i (omega (arith, le, ap (λ (x : Refusal). x.place) e)))
      ∙ ap Refused e
  item_stays a u w w' Ended at r i z rest h le = let e : eof (at + length (a ∷ u ++ c ∷ w)) ≡ r = cc in absurd (omega (arith, le, ap (λ (x : Refusal). x.place) e, length-append u (c ∷ w)))
  item_stays a u w w' Other at r i z rest h le = let z : ◌≡◌ {A = ℕ} 0 1 = cc in absurd (omega arith)

  -- behind the place of its front
  first_least : (w : List ℕ) (left at : ℕ) (r : Refusal) → gap_from (c ∷ w) left at ≡ Refused r → at < r.place
  unfolding gap_from
  first_least w (suc left) at r h = omega (arith, at_least w left (at + 1) r h)
  first_least w zero at r h = go (item_of (c ∷ w)) refl h
    where
      go : (i : Item) → item_of (c ∷ w) ≡ i → by_item i (λ k. gap_from w (pred k) (at + 1)) at (at + length (c ∷ w)) ≡ Refused r → at < r.place
      go (Blank n) i h = omega (arith, at_least w (pred n) (at + 1) r h)
      go LineOpen i h = let z : ◌≡◌ {A = ℕ} 0 1 = cc in absurd (omega arith)
      go BlockOpen i h = let e : unclosed_block_comment (at + length (c ∷ w)) ≡ r = cc in omega (arith, ap (λ (x : Refusal). x.place) e)
      go (Unexpected n) i h = let e : unexpected_char (at + n) ≡ r = cc in omega (arith, ap (λ (x : Refusal). x.place) e, (odd (c ∷ w) n i).count)
      go Ended i h = let e : eof (at + length (c ∷ w)) ≡ r = cc in omega (arith, ap (λ (x : Refusal). x.place) e)
      go Other i h = let z : ◌≡◌ {A = ℕ} 0 1 = cc in absurd (omega arith)

  from_stays : (u w w' : List ℕ) (left at : ℕ) (r : Refusal) → gap_from (u ++ c ∷ w) left at ≡ Refused r → r.place ≤ at + length u → gap_from (u ++ c ∷ w') left at ≡ Refused r
  unfolding gap_from
  from_stays [] w w' left at r h le = absurd (omega (arith, le, first_least w left at r h))
  from_stays (a ∷ u) w w' (suc left) at r h le = from_stays u w w' left (at + 1) r h (omega arith)
  from_stays (a ∷ u) w w' zero at r h le =
      item_stays a u w w' (item_of (a ∷ u ++ c ∷ w)) at r refl (item_sized (a ∷ u ++ c ∷ w)) (λ k g. from_stays u w w' k (at + 1) r g (omega arith)) h le

  pub gap_refused : (u w w' : List ℕ) (r : Refusal) → gap_of (u ++ c ∷ w) ≡ Refused r → r.place ≤ length u → gap_of (u ++ c ∷ w') ≡ Refused r
  unfolding gap_of
  gap_refused u w w' r h le = from_stays u w w' 0 0 r h (omega arith)

  -- ---- a gap that ends or is refused before c
  pub gap_keeps : (u w w' : List ℕ) → GapBy (length u) (gap_of (u ++ c ∷ w)) → gap_of (u ++ c ∷ w') ≡ gap_of (u ++ c ∷ w)
  unfolding gap_of
  gap_keeps u w w' h = go (gap_of (u ++ c ∷ w)) refl h
    where
      go : (g : Gap) → gap_of (u ++ c ∷ w) ≡ g → GapBy (length u) g → gap_of (u ++ c ∷ w') ≡ gap_of (u ++ c ∷ w)
      go (Clear n) e h =
          either (lt_or_le n (length u)) (λ l. gap_stop u w w' c n low e l ∙ sym e)
          (λ l. let is : n ≡ length u = omega arith in
          let no_slash : eqb c 0x2f ≡ false =
          either (bool_cases (eqb c 0x2f))
          (λ t. let d : drop n (u ++ c ∷ w) ≡ c ∷ w = ap (λ (k : ℕ). drop k (u ++ c ∷ w)) is ∙ drop_front u (c ∷ w) in
          absurd (slash_none w (ap (λ (x : ℕ). gap_of (x ∷ w)) (sym (eqb-true c 0x2f t)) ∙ ap gap_of (sym d) ∙ gap_restarts (u ++ c ∷ w) n e)))
          (λ t. t) in
          let b : get_or (u ++ c ∷ []) n 0 ≡ c = ap (λ (i : ℕ). get_or (u ++ c ∷ []) i 0) is ∙ last_byte u [] c in
          ap gap_of (sym (append_assoc u (c ∷ []) w'))
          ∙ gap_window (u ++ c ∷ []) w w' n (ap gap_of (append_assoc u (c ∷ []) w) ∙ e) (omega (arith, length-append u (c ∷ []))) (subst (λ (x : ℕ). x < 0x80) (sym b) low) (ap (λ (x : ℕ). eqb x 0x2f) b ∙ no_slash)
          ∙ sym e)
      go (InLine n) e h = absurd (omega (arith, h, in_line (u ++ c ∷ w) 0 0 n e, length-append u (c ∷ w)))
      go (Refused r) e h = gap_refused u w w' r e h ∙ sym e
