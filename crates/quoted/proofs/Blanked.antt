-- A line continuation stands exactly where a line ends, and takes all continuation whitespace; no escape stands there. Assumes nothing.
use Prim.Native.Nat.{ℕ}
use native.Mathlib.Omega.{arith}
use mathlib.Core.Bool.{◌&&◌, false, true}
use mathlib.Core.List.{List, [], ◌∷◌}
use mathlib.Core.Path.{◌≡◌, refl}
use lib.Dec.{eqb}
use lib.ListN.{drop, get_or}
use borrow.Author.Tests.{eqb-true}
use Rattle.escaped.proofs.Exactly.{escape_refused}
use Rattle.escaped.specs.Escape.{Escape, Meant}
use Rattle.escapes.specs.Escapes.{escape_of, simple_of}
use Rattle.escapes.specs.declared.answers.EscapeAnswer.TheVariants.{Refused}
use Rattle.escapes.specs.declared.answers.Mode.{Mode}
use Rattle.quoted.specs.Bodies.{Blanks, Continued}
use Rattle.quoted.specs.Bodies.Blanks.{more, none}
use Rattle.quoted.specs.Bodies.Continued.{crlf, lf}
use Rattle.strings.specs.Pieces.{line_end}
use Rattle.text.proofs.Choices.{and_true, bool_cases, either, or_cases}
use Rattle.text.specs.Classes.{continuation_blank}
use Rattle.text.specs.Refusals.{invalid_escape}
use Rattle.text.specs.declared.reason.EscapeReason.TheVariants.{UnknownLetter}
use Rattle.text.specs.Runs.{run}
use Rattle.text.specs.Utf8.{char_len}

-- the run of continuation whitespace is all of it
blanks_run : (s : List ℕ) → Blanks s (drop (run continuation_blank s) s)
unfolding run continuation_blank
blanks_run [] = none refl
blanks_run (b ∷ s) =
    let rest = blanks_run s in
    either (bool_cases (continuation_blank b)) (λ e. rw e (more e rest)) (λ e. rw e (none e))

-- and all of it is the run
run_blanks : {s t : List ℕ} → Blanks s t → t ≡ drop (run continuation_blank s) s
unfolding run
run_blanks (none {t} e) = at_none t e
  where
    at_none : (t : List ℕ) → continuation_blank (get_or t 0 0) ≡ false → t ≡ drop (run continuation_blank t) t
    at_none [] e = refl
    at_none (b ∷ t) e = rw e
run_blanks (more {b} {s} {t} e x) = let q = run_blanks x in rw e q

-- what follows a line's end is a continuation
pub ends_continued : (s : List ℕ) → line_end s ≡ true → Continued s (drop (run continuation_blank s) s)
unfolding line_end run continuation_blank
ends_continued [] e = let z : ◌≡◌ {A = ℕ} 0 1 = cc in absurd (omega arith)
ends_continued (a ∷ []) e =
    either (or_cases (eqb a 0x0A) (eqb a 0x0D && false) e)
    (λ p. rw (eqb-true a 0x0A p) (lf (blanks_run [])))
    (λ p. let q = and_true (eqb a 0x0D) false p in let z : ◌≡◌ {A = ℕ} 0 1 = cc in absurd (omega arith))
ends_continued (a ∷ b ∷ s) e =
    either (or_cases (eqb a 0x0A) (eqb a 0x0D && eqb b 0x0A) e)
    (λ p. rw (eqb-true a 0x0A p) (lf (blanks_run (b ∷ s))))
    (λ p. let q = and_true (eqb a 0x0D) (eqb b 0x0A) p in rw (eqb-true a 0x0D q.0, eqb-true b 0x0A q.1) (crlf (blanks_run s)))

-- and a continuation begins with a line's end
pub continued_ends : {s t : List ℕ} → Continued s t → (line_end s ≡ true) × (t ≡ drop (run continuation_blank s) s)
unfolding line_end run continuation_blank
continued_ends (lf x) = (refl, run_blanks x)
continued_ends (crlf x) = (refl, run_blanks x)

-- the byte that ends a line is refused as an escape
refused_lf : (m : Mode) (s : List ℕ) → escape_of m (0x0A ∷ s) ≡ Refused (invalid_escape UnknownLetter (char_len (0x0A ∷ s)))
unfolding escape_of simple_of
refused_lf m s = refl

-- and so is CR
refused_cr : (m : Mode) (s : List ℕ) → escape_of m (0x0D ∷ s) ≡ Refused (invalid_escape UnknownLetter (char_len (0x0D ∷ s)))
unfolding escape_of simple_of
refused_cr m s = refl

-- where an escape stands, no line ends
pub escape_no_end : (m : Mode) (s : List ℕ) (v : Meant) (t : List ℕ) → Escape m s v t → line_end s ≡ false
escape_no_end m s v t x = either (bool_cases (line_end s)) (λ e. absurd (none_here s t x (ends_continued s e))) (λ e. e)
  where
    none_here : (s t : List ℕ) → Escape m s v t → {u : List ℕ} → Continued s u → ⊥
    none_here s t x (lf {s = r} y) = escape_refused m (0x0A ∷ r) _ (refused_lf m r) v t x
    none_here s t x (crlf {s = r} y) = escape_refused m (0x0D ∷ 0x0A ∷ r) _ (refused_cr m (0x0A ∷ r)) v t x
