-- Laws of floats at a place, as the loop asks for them, and of what the parts that the code has in hand make up. Assumes nothing.
use Rattle.std.proofs.Common.{Err}
use Prim.Native.Nat.{◌+◌, ◌<◌, ◌≤◌, ℕ}
use native.Mathlib.Omega.{arith}
use mathlib.Core.Bool.{Bool, false, true}
use mathlib.Core.List.{List}
use mathlib.Core.Path.{◌∙◌, ◌≡◌, ap, sym}
use lib.Dec.{eqb}
use lib.ListN.{drop, drop_of_length-le, get_or, length, take}
use lib.Seq.{length-take-le}
use borrow.Author.Tests.{le-ltb, lt-ltb, ne_eqb}
use Rattle.floats.specs.Classes.{float_goes, float_run}
use Rattle.floats.specs.Float.{behind_float, float_of, float_suffixes, float_to, run_at, specials}
use Rattle.floats.specs.Grammar.{accepts, final}
use Rattle.floats.specs.Judged.{advance_of, float_judged, may_follow, misplaced, stripped, well_to}
use Rattle.floats.specs.declared.judge.Judged.{Judged}
use Rattle.floats.specs.declared.judge.Judged.TheVariants.{Misplaced, Fine, Unfit}
use Rattle.floats.specs.declared.state.State.{State}
use Rattle.floats.specs.declared.state.State.TheVariants.{Start}
use Rattle.integers.specs.Front.{sign_of}
use Rattle.integers.specs.Words.{first_of}
use Rattle.integers.specs.declared.front.Sign.{Sign}
use Rattle.integers.specs.declared.ident.Found.{Found}
use Rattle.text.proofs.Choices.{bool_cases, either}
use Rattle.text.proofs.Lists.{front}
use Rattle.text.proofs.RunLaws.{run2_le}
use Rattle.text.specs.Refusals.{expected_float}

-- ---- runs and their judgement

module _ (s : List ℕ) (i : ℕ) where
  pub well_out : (may : Bool) → i < length s → misplaced may (get_or s i 0) ≡ true → well_to (drop i s) may ≡ 0
  unfolding well_to
  well_out may h e = rw (front s i h, e)

  pub well_more : (may : Bool) → i < length s → misplaced may (get_or s i 0) ≡ false → well_to (drop i s) may ≡ 1 + well_to (drop (i + 1) s) (may_follow may (get_or s i 0))
  unfolding well_to
  well_more may h e = rw (front s i h, e) (omega arith)

  pub well_end : (may : Bool) → length s ≤ i → well_to (drop i s) may ≡ 0
  unfolding well_to
  well_end may h = rw (drop_of_length-le s h)

  pub strip_more : (st : State) → i < length s → accepts (stripped (drop i s)) st ≡ accepts (stripped (drop (i + 1) s)) (advance_of st (get_or s i 0))
  unfolding stripped accepts
  strip_more st h = rw (front s i h) (either (bool_cases (eqb (get_or s i 0) 0x5f)) (λ e. rw e) (λ e. rw e))

  pub strip_end : (st : State) → length s ≤ i → accepts (stripped (drop i s)) st ≡ final st
  unfolding stripped accepts
  strip_end st h = rw (drop_of_length-le s h)

pub judged_misplaced : (s : List ℕ) (i : ℕ) → i < length s → i ≡ well_to s false → Misplaced i ≡ float_judged s
unfolding float_judged
judged_misplaced s i h e = rw (lt-ltb (well_to s false) (length s) (omega arith)) (ap Misplaced e)

pub judged_fine : (s : List ℕ) → length s ≤ well_to s false → accepts (stripped s) Start ≡ true → Fine ≡ float_judged s
unfolding float_judged
judged_fine s h e = rw (le-ltb (well_to s false) (length s) h, e)

pub judged_unfit : (s : List ℕ) → length s ≤ well_to s false → accepts (stripped s) Start ≡ false → Unfit ≡ float_judged s
unfolding float_judged
judged_unfit s h e = rw (le-ltb (well_to s false) (length s) h, e)

-- ---- the float

pub float_run_le : (s : List ℕ) → float_run s ≤ length s
float_run_le s = run2_le float_goes s

pub run_none : (s : List ℕ) (n : ℕ) → n ≡ float_run s → n ≡ 0 → Err (expected_float 0) ≡ run_at s
unfolding run_at
run_none s n e z = rw (sym e ∙ z)

pub run_judged : (s : List ℕ) (n : ℕ) (j : Judged) (f : Found) → n ≡ float_run s → (n ≡ 0 → ⊥) → j ≡ float_judged (take n s) → f ≡ first_of float_suffixes (drop n s)
    → behind_float f.code (n + f.end) j ≡ run_at s
unfolding run_at
run_judged s n j f e z ej ef =
    let l : length (take n s) ≡ n = length-take-le n s (omega (arith, float_run_le s)) in
    rw (sym e, l, ne_eqb n 0 z, sym ef, sym ej)

module _ (s : List ℕ) (g : Sign) (eg : g ≡ sign_of s) where
  pub float_plain : g.end ≡ 0 → run_at s ≡ float_of s
  unfolding float_of
  float_plain z = rw (sym eg, z)

  module _ (l : Found) (el : l ≡ first_of specials (drop g.end s)) (n : g.end ≡ 0 → ⊥) where
    pub float_none : l.end ≡ 0 → run_at s ≡ float_of s
    unfolding float_of
    float_none h = rw (sym eg, sym el, ne_eqb g.end 0 n, h)

    pub float_signed : (l.end ≡ 0 → ⊥) → float_to l.code (g.end + l.end) ≡ float_of s
    unfolding float_of
    float_signed h = rw (sym eg, sym el, ne_eqb g.end 0 n, ne_eqb l.end 0 h)
