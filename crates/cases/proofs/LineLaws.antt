-- A line whose last word says bytes, and of these what a call says. Assumes nothing.
use Rattle.std.specs.Prelude.{Some, None}
use Prim.Native.Nat.{ℕ, ◌-◌}
use mathlib.Core.List.{List}
use mathlib.Core.Path.{◌≡◌, sym, ap, ◌∙◌}
use lib.ListN.{length, take}
use Rattle.lines.specs.Out.{put}
use Rattle.lines.specs.Over.{over}
use Rattle.lines.proofs.LineLaws.{line2}
use Rattle.show.specs.Answers.{answer_text, bad_text}
use Rattle.text.specs.Refusals.{Told}
use Rattle.words.proofs.DecidedLaws.{bytes_bad, bytes_good}
use Rattle.words.proofs.SaidLaws.{part_said}
use Rattle.words.specs.Hex.{hex_in, pairs}
use Rattle.words.specs.Said.{by_bytes}

module _ (out end : List ℕ × ℕ) (line : List ℕ × List ℕ) (left : List ℕ) where
  -- a line whose last word says bytes, and of these what a call says
  module _ {A : Type 0} (own : A → List ℕ) (of : List ℕ → Told A) (word text : List ℕ)
      (l : line ≡ (by_bytes word (length text) bad_text (λ s. answer_text own (of s)), over (pairs word) text)) (f : left ≡ over (pairs word) text) where
    pub line_bad : hex_in word (length text) ≡ None → end ≡ put out bad_text → (end ≡ put out line.0) × (left ≡ line.1)
    line_bad h e =
        line2 out end (by_bytes word (length text) bad_text (λ s. answer_text own (of s))) left (over (pairs word) text) line l
        (e ∙ sym (ap (put out) (bytes_bad word (length text) bad_text (λ s. answer_text own (of s)) h))) f

    pub line_good : (n : ℕ) (part : List ℕ) (a : Told A) → hex_in word (length text) ≡ Some n → part ≡ take (n - 0) left → a ≡ of part
        → end ≡ put out (answer_text own a) → (end ≡ put out line.0) × (left ≡ line.1)
    line_good n part a h p r e =
        line2 out end (by_bytes word (length text) bad_text (λ s. answer_text own (of s))) left (over (pairs word) text) line l
        (e ∙ ap (λ (x : Told A). put out (answer_text own x)) (r ∙ ap of (part_said word text left part n h f p))
        ∙ sym (ap (put out) (bytes_good word (length text) bad_text (λ s. answer_text own (of s)) n h))) f
