-- Blanks in front of a part only move what is read there, and widen the first entry's gap. Assumes nothing.
use Rattle.std.proofs.Common.{Ok, Err}
use Rattle.text.specs.Refusals.{Told, at_place, placed_behind}
use Rattle.tokens.specs.declared.lexeme.Lexeme.{Lexeme}
use Prim.Native.Nat.{ℕ, suc, ◌+◌}
use native.Mathlib.Omega.{arith}
use mathlib.Core.Bool.{Bool, true, false, cond}
use mathlib.Core.List.{List, [], ◌∷◌}
use mathlib.Core.Path.{◌≡◌, ap, ap₂, refl, sym, ◌∙◌}
use lib.ListN.{drop, get_or, length}
use lib.Seq.{drop-drop}
use Rattle.text.proofs.Choices.{either, lt_or_le}
use Rattle.text.specs.Classes.{blank1, blank_width}
use Rattle.text.specs.Runs.{run}
use Rattle.comments.proofs.GapLaws.{gap_moved, gap_behind, item_blank, on_blank}
use Rattle.comments.specs.Gaps.{gap_of}
use Rattle.comments.specs.declared.gap.Gap.{Gap}
use Rattle.comments.specs.declared.gap.Gap.TheVariants as gap
use Rattle.reading.proofs.Steps.{read_refuse, read_stop, read_token}
use Rattle.reading.specs.Owed.{quiet_byte}
use Rattle.reading.specs.Readings.{Reading, broken, complete, entry, read_from, read_part}
use Rattle.reading.specs.Tokens.{Answer, refuse, stop, token}
use Rattle.tokens.proofs.RonLaws.{gap_end, gap_token, laws}
use Rattle.tokens.specs.Lexemes.{lexeme_of}
use Rattle.tokens.specs.Ron.{lexeme_behind, by_gap, ron_token}
use Rattle.tokens.specs.Token.{token_of}

-- the same answer, seen from one byte further in front
abbrev later : Answer → Answer
later (token t) = token (record { gap = 1 + t.gap; len = t.len; kind = t.kind; detail = t.detail })
later stop = stop
later (refuse r) = refuse (placed_behind 1 r)

later_lexeme : (g : ℕ) (l : Told Lexeme) → lexeme_behind (1 + g) l ≡ later (lexeme_behind g l)
later_lexeme g (Ok l) = refl
later_lexeme g (Err r) = ap (λ (p : ℕ). refuse (at_place r p)) (omega arith)

later_gap : (a : ℕ) (s : List ℕ) (g : Gap) → by_gap (a ∷ s) (gap_behind 1 g) ≡ later (by_gap s g)
later_gap a s (gap.Clear g) =
    let z : 1 + g ≡ suc g = omega arith in
    either (lt_or_le g (length s))
    (λ h. gap_token (a ∷ s) (1 + g) (omega arith)
    ∙ ap (λ (k : ℕ). lexeme_behind (1 + g) (lexeme_of (token_of (drop k (a ∷ s))))) z
    ∙ later_lexeme g (lexeme_of (token_of (drop g s)))
    ∙ ap later (sym (gap_token s g h)))
    (λ h. gap_end (a ∷ s) (1 + g) (omega arith) ∙ ap later (sym (gap_end s g h)))
later_gap a s (gap.InLine n) = refl
later_gap a s (gap.Refused r) = refl

blank-width : (a b c : ℕ) → blank1 a ≡ true → 1 ≡ blank_width a b c
unfolding blank_width
blank-width a b c e = rw e

blank_gap : (a : ℕ) (s : List ℕ) → blank1 a ≡ true → gap_of (a ∷ s) ≡ gap_behind 1 (gap_of s)
unfolding gap_of
blank_gap a s e =
    on_blank (a ∷ s) 0 1 (item_blank (a ∷ s) 1 (blank-width a (get_or s 0 0) (get_or s 1 0) e) (omega arith)) (omega arith) (omega arith)
    ∙ gap_moved s 0 1 0

blank_token : (a : ℕ) (s : List ℕ) → blank1 a ≡ true → ron_token (a ∷ s) ≡ later (ron_token s)
unfolding ron_token
blank_token a s e = ap (by_gap (a ∷ s)) (blank_gap a s e) ∙ later_gap a s (gap_of s)

-- the same reading, seen from so many bytes further in front: the first entry's gap is wider
abbrev pub widened : ℕ → Reading → Reading
widened n complete = complete
widened n (broken r) = broken r
widened n (entry e r) = entry (record { kind = e.kind; start = e.start; end = e.end; detail = e.detail; gap = n + e.gap }) r

pub widened_none : (r : Reading) → r ≡ widened 0 r
widened_none complete = refl
widened_none (broken d) = refl
widened_none (entry e r) = ap (λ (g : ℕ). entry (record { kind = e.kind; start = e.start; end = e.end; detail = e.detail; gap = g }) r) (omega arith)

widened_more : (n : ℕ) (r : Reading) → widened 1 (widened n r) ≡ widened (suc n) r
widened_more n complete = refl
widened_more n (broken d) = refl
widened_more n (entry e r) = ap (λ (g : ℕ). entry (record { kind = e.kind; start = e.start; end = e.end; detail = e.detail; gap = g }) r) (omega arith)

-- a part behind a blank
blank_read : (a : ℕ) (s : List ℕ) (at : ℕ) (x : Answer) → ron_token (a ∷ s) ≡ later x → ron_token s ≡ x → read_part ron_token at (a ∷ s) ≡ widened 1 (read_part ron_token (at + 1) s)
blank_read a s at stop e f = read_stop ron_token quiet_byte laws at (a ∷ s) e ∙ ap (widened 1) (sym (read_stop ron_token quiet_byte laws (at + 1) s f))
blank_read a s at (refuse r) e f =
    read_refuse ron_token quiet_byte laws at (a ∷ s) (placed_behind 1 r) e
    ∙ ap (λ (p : ℕ). broken (at_place r p)) (omega arith)
    ∙ ap (widened 1) (sym (read_refuse ron_token quiet_byte laws (at + 1) s r f))
blank_read a s at (token t) e f =
    let start : at + (1 + t.gap) ≡ at + 1 + t.gap = omega arith in
    let end : at + (1 + t.gap + t.len) ≡ at + 1 + (t.gap + t.len) = omega arith in
    let taken : 1 + t.gap + t.len ≡ suc (t.gap + t.len) = omega arith in
    read_token ron_token quiet_byte laws at (a ∷ s) (record { gap = 1 + t.gap; len = t.len; kind = t.kind; detail = t.detail }) e
    ∙ ap (λ (k : ℕ). entry (record { kind = t.kind; start = at + (1 + t.gap); end = at + (1 + t.gap + t.len); detail = t.detail; gap = 1 + t.gap }) (read_part ron_token (at + (1 + t.gap + t.len)) (drop k (a ∷ s)))) taken
    ∙ ap₂ (λ (b c : ℕ). entry (record { kind = t.kind; start = b; end = c; detail = t.detail; gap = 1 + t.gap }) (read_part ron_token c (drop (t.gap + t.len) s))) start end
    ∙ ap (widened 1) (sym (read_token ron_token quiet_byte laws (at + 1) s t f))

pub one_blank : (a : ℕ) (s : List ℕ) (at : ℕ) → blank1 a ≡ true → read_part ron_token at (a ∷ s) ≡ widened 1 (read_part ron_token (at + 1) s)
one_blank a s at e = blank_read a s at (ron_token s) (blank_token a s e) refl

-- ---- a run of blanks

blanks_step : (a : ℕ) (s : List ℕ) (at : ℕ) (t : Bool) → blank1 a ≡ t
    → read_part ron_token (at + 1) s ≡ widened (run blank1 s) (read_part ron_token (at + 1 + run blank1 s) (drop (run blank1 s) s))
    → read_part ron_token at (a ∷ s)
    ≡ widened (cond t (suc (run blank1 s)) 0) (read_part ron_token (at + cond t (suc (run blank1 s)) 0) (drop (cond t (suc (run blank1 s)) 0) (a ∷ s)))
blanks_step a s at true e rest =
    one_blank a s at e
    ∙ ap (widened 1) rest
    ∙ widened_more (run blank1 s) (read_part ron_token (at + 1 + run blank1 s) (drop (run blank1 s) s))
    ∙ ap (λ (k : ℕ). widened (suc (run blank1 s)) (read_part ron_token k (drop (run blank1 s) s))) (omega arith)
blanks_step a s at false e rest = widened_none (read_part ron_token at (a ∷ s)) ∙ ap (λ (k : ℕ). widened 0 (read_part ron_token k (a ∷ s))) (omega arith)

blanks_read : (s : List ℕ) (at : ℕ) → read_part ron_token at s ≡ widened (run blank1 s) (read_part ron_token (at + run blank1 s) (drop (run blank1 s) s))
unfolding run
blanks_read [] at = widened_none (read_part ron_token at []) ∙ ap (λ (k : ℕ). widened 0 (read_part ron_token k [])) (omega arith)
blanks_read (a ∷ s) at = blanks_step a s at (blank1 a) refl (blanks_read s (at + 1))

pub from_blanks : (text : List ℕ) (at : ℕ)
    → read_from ron_token text at ≡ widened (run blank1 (drop at text)) (read_from ron_token text (at + run blank1 (drop at text)))
from_blanks text at =
    blanks_read (drop at text) at
    ∙ ap (λ (s : List ℕ). widened (run blank1 (drop at text)) (read_part ron_token (at + run blank1 (drop at text)) s)) (drop-drop (run blank1 (drop at text)) at text)
