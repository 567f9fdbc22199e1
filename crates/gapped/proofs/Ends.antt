-- Where a gap ends, in the five ways of specs/Gap.antt: each part has such an end, and `gap_of` answers at it at once. Assumes nothing.
use Rattle.std.proofs.Common.{Some, None, Option}
use Prim.Native.Nat.{ℕ, zero, suc, pred, ◌+◌, ◌<◌, ◌≤◌}
use native.Mathlib.Nat.{zero-add}
use native.Mathlib.Omega.{arith}
use mathlib.Core.List.{List, [], ◌∷◌}
use mathlib.Core.Logic.{◌⊎◌, inl, inr}
use mathlib.Core.Path.{◌≡◌, ◌∙◌, ap, refl, subst, sym}
use lib.Dec.{eqb}
use lib.ListN.{drop, length, length-append, length-drop}
use borrow.Author.Tests.{eqb-false, eqb-true}
use Rattle.comments.proofs.GapLaws.{gap_step}
use Rattle.comments.proofs.Nesting.{ends_body, unclosed}
use Rattle.comments.specs.Blocks.{Body, block_end}
use Rattle.comments.specs.Gaps.{by_item, gap_from, gap_of, item_of}
use Rattle.comments.specs.declared.gap.Gap.{Gap as Answer}
use Rattle.comments.specs.declared.gap.Gap.TheVariants as answer
use Rattle.comments.specs.declared.gap.Item.{Item}
use Rattle.comments.specs.declared.gap.Item.TheVariants.{BlockOpen, Ended, LineOpen, Other, Unexpected}
use Rattle.gapped.proofs.Blanks.{Front, blank_front, blank_none, encode_pos}
use Rattle.gapped.proofs.Items.{Ended-line, item_block_open, item_last, item_line_open, item_other, item_stray, line_split}
use Rattle.gapped.specs.Gap.{Clear, Gap, Line}
use Rattle.gapped.specs.Gap.Gap.{none, space, line, block}
use Rattle.text.proofs.BlankLaws.{width_at}
use Rattle.text.proofs.Choices.{bool_cases, either, lt_or_le}
use Rattle.text.specs.Refusals.{eof, unclosed_block_comment, unexpected_char}
use Rattle.text.specs.Utf8.{char_len, encode}

-- the five ways in which a gap ends at t, with what is answered there
pub data End : List ℕ → Answer → Type 0 where
  clear : {t : List ℕ} → Clear t → End t (answer.Clear 0)
  in_line : {w : List ℕ} → Line w → End (0x2f ∷ 0x2f ∷ w) (answer.InLine (length (0x2f ∷ 0x2f ∷ w)))
  in_block : {w : List ℕ} → ((t : List ℕ) → Body w t → ⊥) → End (0x2f ∷ 0x2a ∷ w) (answer.Refused (unclosed_block_comment (length (0x2f ∷ 0x2a ∷ w))))
  stray : {b : ℕ} {w : List ℕ} → (b ≡ 0x2f → ⊥) → (b ≡ 0x2a → ⊥) → End (0x2f ∷ b ∷ w) (answer.Refused (unexpected_char (1 + char_len (b ∷ w))))
  last : End (0x2f ∷ []) (answer.Refused (eof 1))

-- ---- the answer there

at_once : (a : ℕ) (s : List ℕ) (r : Item) → item_of (a ∷ s) ≡ r → gap_of (a ∷ s) ≡ by_item r (λ n. gap_from s (pred n) (0 + 1)) 0 (0 + length (a ∷ s))
unfolding gap_of
at_once a s r e = gap_step a s 0 ∙ ap (λ (x : Item). by_item x (λ n. gap_from s (pred n) (0 + 1)) 0 (0 + length (a ∷ s))) e

-- no comment has a body exactly where its end is not found
no-end : (w : List ℕ) → ((t : List ℕ) → Body w t → ⊥) → (r : Option ℕ) → block_end w ≡ r → block_end w ≡ None
no-end w n (Some k) e = absurd (n (drop k w) (ends_body w k e))
no-end w n None e = e

-- where no gap goes on, none is found
clear_none : (t : List ℕ) → Clear t → gap_of t ≡ answer.Clear 0
unfolding gap_of gap_from
clear_none [] c = refl
clear_none (a ∷ t) c =
    let width : width_at (a ∷ t) ≡ 0 =
    either (lt_or_le 0 (width_at (a ∷ t))) (λ h. let f = blank_front (a ∷ t) h in absurd (c.no_blank f.char f.rest f.scalar f.is f.split)) (λ h. omega arith) in
    at_once a t Other (item_other a t width (λ e. c.no_slash t (ap (λ (x : ℕ). x ∷ t) e)))

pub end_answers : {t : List ℕ} {g : Answer} → End t g → gap_of t ≡ g
end_answers (clear {t} c) = clear_none t c
end_answers (in_line {w} l) = at_once 0x2f (0x2f ∷ w) LineOpen (item_line_open w l) ∙ ap answer.InLine (zero-add (length (0x2f ∷ 0x2f ∷ w)))
end_answers (in_block {w} n) =
    at_once 0x2f (0x2a ∷ w) BlockOpen (item_block_open w (no-end w n (block_end w) refl)) ∙ ap (λ (p : ℕ). answer.Refused (unclosed_block_comment p)) (zero-add (length (0x2f ∷ 0x2a ∷ w)))
end_answers (stray {b} {w} n m) =
    at_once 0x2f (b ∷ w) (Unexpected (1 + char_len (b ∷ w))) (item_stray b w n m) ∙ ap (λ (p : ℕ). answer.Refused (unexpected_char p)) (zero-add (1 + char_len (b ∷ w)))
end_answers last = at_once 0x2f [] Ended item_last

-- ---- every part has an end

pub record Ends (s : List ℕ) : Type 0 where
  pub at : List ℕ
  pub says : Answer
  pub gap : Gap s at
  pub end : End at says

here : {s : List ℕ} {g : Answer} → End s g → Ends s
here {s} {g} e = record { at = s; says = g; gap = none; end = e }

module _ (fuel : ℕ) (shorter : (u : List ℕ) → length u ≤ fuel → Ends u) where
  on_blank : (s : List ℕ) → length s ≤ suc fuel → Front s → Ends s
  on_blank s h f =
      let c = f.char in
      let q : length s ≡ length (encode c) + length f.rest = ap length f.split ∙ length-append (encode c) f.rest in
      let r = shorter f.rest (omega (arith, encode_pos c f.scalar)) in
      subst Ends (sym f.split) (record { at = r.at; says = r.says; gap = space f.scalar f.is r.gap; end = r.end })

  on_line : (w : List ℕ) → length w < fuel → Line w ⊎ Ended-line w → Ends (0x2f ∷ 0x2f ∷ w)
  on_line w h (inl l) = here (in_line l)
  on_line w h (inr e) =
      let q : length w ≡ length e.front + length (0x0a ∷ e.rest) = ap length e.split ∙ length-append e.front (0x0a ∷ e.rest) in
      let r = shorter (0x0a ∷ e.rest) (omega arith) in
      subst (λ (u : List ℕ). Ends (0x2f ∷ 0x2f ∷ u)) (sym e.split) (record { at = r.at; says = r.says; gap = line e.line r.gap; end = r.end })

  on_block : (w : List ℕ) → length w < fuel → (c : Option ℕ) → block_end w ≡ c → Ends (0x2f ∷ 0x2a ∷ w)
  on_block w h (Some n) e =
      let r = shorter (drop n w) (omega (arith, length-drop n w)) in
      record { at = r.at; says = r.says; gap = block (ends_body w n e) r.gap; end = r.end }
  on_block w h None e = here (in_block (λ t x. unclosed e x))

  on_slash : (s : List ℕ) → length s ≤ fuel → Ends (0x2f ∷ s)
  on_slash [] h = here last
  on_slash (b ∷ w) h =
      either (bool_cases (eqb b 0x2f)) (λ e. subst (λ (x : ℕ). Ends (0x2f ∷ x ∷ w)) (sym (eqb-true b 0x2f e)) (on_line w (omega arith) (line_split w)))
      (λ n. either (bool_cases (eqb b 0x2a)) (λ e. subst (λ (x : ℕ). Ends (0x2f ∷ x ∷ w)) (sym (eqb-true b 0x2a e)) (on_block w (omega arith) (block_end w) refl))
      (λ m. here (stray (eqb-false b 0x2f n) (eqb-false b 0x2a m))))

  on_other : (a : ℕ) (s : List ℕ) → length s ≤ fuel → width_at (a ∷ s) ≡ 0 → Ends (a ∷ s)
  on_other a s h z =
      either (bool_cases (eqb a 0x2f)) (λ e. subst (λ (x : ℕ). Ends (x ∷ s)) (sym (eqb-true a 0x2f e)) (on_slash s h))
      (λ n. here (clear (record { no_blank = blank_none (a ∷ s) z; no_slash = λ u q. (let f : a ≡ 0x2f = cc in eqb-false a 0x2f n f) })))

-- the end of the text ends a gap
nothing_left : Clear []
nothing_left = record { no_blank = λ c u sc b q. (omega (arith, encode_pos c sc, ap length q, length-append (encode c) u)); no_slash = λ u q. (let z : ◌≡◌ {A = ℕ} 0 (suc (length u)) = ap length q in omega arith) }

ends_fuel : (fuel : ℕ) (s : List ℕ) → length s ≤ fuel → Ends s
ends_fuel zero [] h = here (clear nothing_left)
ends_fuel zero (a ∷ s) h = absurd (omega arith)
ends_fuel (suc f) [] h = here (clear nothing_left)
ends_fuel (suc f) (a ∷ s) h =
    either (lt_or_le 0 (width_at (a ∷ s))) (λ p. on_blank f (λ u l. ends_fuel f u l) (a ∷ s) h (blank_front (a ∷ s) p))
    (λ p. on_other f (λ u l. ends_fuel f u l) a s (omega arith) (omega arith))

pub gap_ends : (s : List ℕ) → Ends s
gap_ends s = ends_fuel (length s) s (omega arith)
