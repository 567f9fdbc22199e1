-- The front of the call `skip`: an answer that is not its own is 1, 2 or 28, and behind it stands what the gap says. Assumes nothing.
use Rattle.std.proofs.Common.{Ok, Err, Some, None, Option}
use Prim.Native.Nat.{ℕ, ◌+◌, ◌<◌, ◌≤◌}
use native.Mathlib.Omega.{arith}
use mathlib.Core.Bool.{Bool, true, false}
use mathlib.Core.List.{List}
use mathlib.Core.Logic.{◌↔◌}
use mathlib.Core.Path.{◌≡◌, ◌∙◌, ap, refl, sym}
use lib.Dec.{ltb}
use lib.ListN.{drop_of_length-le, length}
use Rattle.comments.specs.Gaps.{gap_from, gap_of}
use Rattle.comments.specs.declared.gap.Gap.{Gap as Answer}
use Rattle.comments.specs.declared.gap.Gap.TheVariants as answer
use Rattle.cursor.proofs.SkipLaws.{skip_at_end, skip_runs}
use Rattle.cursor.specs.Cursor.{cursor}
use Rattle.cursor.specs.Skip.{cursor_behind, cursor_fits, pre_of, skip_ws_of}
use Rattle.cursor.specs.declared.ParserCursor.{ParserCursor}
use Rattle.sarridok.specs.Skip.{skip_of}
use Rattle.skipping.specs.Skips.{Fits, ahead}
use Rattle.text.proofs.Choices.{cond_cases, either, lt_or_le}
use Rattle.text.proofs.JudgeLaws.{front_fit, front_refused, front_unfit}
use Rattle.text.specs.Judged.{by_utf8, judged_of}
use Rattle.text.specs.Refusals.{Told, at_place, not_utf8, placed_behind, refusal, too_long, unfit}
use Rattle.text.specs.declared.refusal.Refusal.{Refusal}
use Rattle.text.specs.Utf8.{utf8_of}

-- ---- 1, 2 and 28

-- a text is refused with 1 or 2
judged_low : (text : List ℕ) (r : Refusal) → judged_of text ≡ Err r → r.number ≤ 2
unfolding judged_of
judged_low text r =
    cond_cases (λ (j : Told Unit). j ≡ Err r → r.number ≤ 2) (ltb 65536 (length text)) _ _
    (λ a e. let q : too_long ≡ r = cc in omega (arith, ap (λ (x : Refusal). x.number) q)) (λ a. by (utf8_of text))
  where
    by : (u : Option ℕ) → by_utf8 u ≡ Err r → r.number ≤ 2
    by None e = let z : ◌≡◌ {A = ℕ} 0 1 = cc in absurd (omega arith)
    by (Some p) e = let q : not_utf8 p ≡ r = cc in omega (arith, ap (λ (x : Refusal). x.number) q)

-- answers that the front does not give
abbrev pub Own : Told ParserCursor → Type 0
Own (Ok d) = Unit {0}
Own (Err r) = (2 < r.number) × (r.number < 28)

refused_apart : (r : Refusal) (a : Told ParserCursor) → Own a → Err r ≡ a → (r.number ≤ 2 → ⊥) × (28 ≤ r.number → ⊥)
refused_apart r (Ok d) o e = let z : ◌≡◌ {A = ℕ} 0 1 = cc in absurd (omega arith)
refused_apart r (Err x) o e =
    let q : r ≡ x = cc in
    let n : r.number ≡ x.number = ap (λ (x : Refusal). x.number) q in
    (λ h. omega arith, λ h. omega arith)

module _ (text : List ℕ) (c : ParserCursor) where
  pub own_answer : Fits text c → skip_of text c ≡ skip_ws_of text c
  unfolding skip_of
  own_answer f = front_fit text (skip_ws_of text c) (cursor_fits text c) f.text_fit f.cursor_fit

  -- an answer of its own is given to a text and cursor that fit
  pub only_own : (a : Told ParserCursor) → Own a → skip_of text c ≡ a → Fits text c
  unfolding skip_of
  only_own a o h = go (judged_of text) refl (cursor_fits text c) refl
    where
      go : (j : Told Unit) → judged_of text ≡ j → (f : Bool) → cursor_fits text c ≡ f → Fits text c
      go (Ok tt) e true f = record { text_fit = e; cursor_fit = f }
      go (Ok tt) e false f = absurd ((refused_apart unfit a o (sym (front_unfit text (skip_ws_of text c) (cursor_fits text c) e f) ∙ h)).1 (omega arith))
      go (Err r) e b f = absurd ((refused_apart r a o (sym (front_refused text (skip_ws_of text c) (cursor_fits text c) r e) ∙ h)).0 (judged_low text r e))

  -- ---- behind the front

  pub says_end : Fits text c → length text ≤ c.cursor → skip_of text c ≡ Ok (cursor c.cursor (pre_of c) c.last_ws_len)
  says_end f h = own_answer f ∙ skip_at_end text c h

  pub says_gap : Fits text c → c.cursor < length text → skip_of text c ≡ cursor_behind c.cursor (pre_of c) (gap_of (ahead text c))
  says_gap f h = own_answer f ∙ skip_runs text c h

  -- where something is ahead, the text is not at its end
  pub some_ahead : (g : Answer) → gap_of (ahead text c) ≡ g → (answer.Clear 0 ≡ g → ⊥) → c.cursor < length text
  unfolding gap_of gap_from
  some_ahead g e n = either (lt_or_le c.cursor (length text)) (λ h. h) (λ h. absurd (n (sym (ap gap_of (drop_of_length-le text h)) ∙ e)))

-- ---- refusals

refusals : (q r : Refusal) → ◌≡◌ {A = Told ParserCursor} (Err q) (Err r) → q ≡ r
refusals q r e = cc

-- a refusal of the gap, seen from the text
abbrev pub Refuses : ℕ → Answer → ℕ → ℕ → Type 0
Refuses at g n p = (q : ℕ) × (g ≡ answer.Refused (refusal n q)) × (p ≡ at + q)

gap_refused : (at pre : ℕ) (g : Answer) (n p : ℕ) → cursor_behind at pre g ≡ Err (refusal n p) → Refuses at g n p
gap_refused at pre (answer.Clear k) n p e = let z : ◌≡◌ {A = ℕ} 0 1 = cc in absurd (omega arith)
gap_refused at pre (answer.InLine k) n p e = let z : ◌≡◌ {A = ℕ} 0 1 = cc in absurd (omega arith)
gap_refused at pre (answer.Refused r) n p e =
    let q = refusals (placed_behind at r) (refusal n p) e in
    (r.place, ap (λ (x : Refusal). answer.Refused (at_place x r.place)) q, sym (ap (λ (x : Refusal). x.place) q))

clear_apart : (k : ℕ) (r : Refusal) → answer.Clear k ≡ answer.Refused r → ⊥
clear_apart k r e = let z : ◌≡◌ {A = ℕ} 0 1 = cc in omega arith

-- a refusal that the front does not give is exactly the gap's
pub refused_exactly : (text : List ℕ) (c : ParserCursor) (n p : ℕ) → 2 < n → n < 28
    → (skip_of text c ≡ Err (refusal n p)) ↔ (Fits text c × Refuses c.cursor (gap_of (ahead text c)) n p)
refused_exactly text c n p l m = (to, from)
  where
    to : skip_of text c ≡ Err (refusal n p) → Fits text c × Refuses c.cursor (gap_of (ahead text c)) n p
    to e =
        let f = only_own text c (Err (refusal n p)) (l, m) e in
        either (lt_or_le c.cursor (length text))
        (λ h. (f, gap_refused c.cursor (pre_of c) (gap_of (ahead text c)) n p (sym (says_gap text c f h) ∙ e)))
        (λ h. let q = says_end text c f h in let z : ◌≡◌ {A = ℕ} 0 1 = cc in absurd (omega arith))

    from : Fits text c × Refuses c.cursor (gap_of (ahead text c)) n p → skip_of text c ≡ Err (refusal n p)
    from (f, (q, e, i)) =
        says_gap text c f (some_ahead text c (answer.Refused (refusal n q)) e (clear_apart 0 (refusal n q)))
        ∙ ap (λ (g : Answer). cursor_behind c.cursor (pre_of c) g) e
        ∙ ap (λ (k : ℕ). Err (refusal n k)) (sym i)
