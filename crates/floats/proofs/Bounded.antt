-- A float is not empty and ends within its part, and a refusal's place lies within the part. Assumes nothing.
use Rattle.std.proofs.Common.{Ok, Err}
use Rattle.text.specs.Refusals.{Told}
use Rattle.floats.specs.declared.float.FloatSpan.{FloatSpan}
use Prim.Native.Nat.{◌+◌, ◌<◌, ◌≤◌, suc, zero, ℕ}
use native.Mathlib.Omega.{arith}
use mathlib.Core.Bool.{Bool, ◌&&◌, false, true}
use mathlib.Core.List.{List, [], ◌∷◌}
use mathlib.Core.Path.{◌≡◌, refl}
use lib.Dec.{eqb, leb, ltb}
use lib.ListN.{drop, length, length-drop, take}
use lib.Seq.{length-take-le}
use borrow.Author.Tests.{leb-true}
use Rattle.floats.proofs.Laws.{float_run_le}
use Rattle.floats.specs.Classes.{float_run}
use Rattle.floats.specs.Float.{behind_float, float_of, float_suffixes, float_to, run_at, signed_or, specials, with_float_suffix}
use Rattle.floats.specs.Grammar.{accepts}
use Rattle.floats.specs.Judged.{float_judged, may_follow, misplaced, stripped, well_to}
use Rattle.floats.specs.declared.judge.Judged.{Judged}
use Rattle.floats.specs.declared.judge.Judged.TheVariants.{Misplaced, Fine, Unfit}
use Rattle.floats.specs.declared.state.State.TheVariants.{Start}
use Rattle.integers.proofs.Fronts.{sign_le}
use Rattle.integers.proofs.Words.{first_le}
use Rattle.integers.specs.Front.{sign_of}
use Rattle.integers.specs.Words.{Word, first_of, ident_of}
use Rattle.integers.specs.declared.ident.Found.{Found}
use Rattle.text.proofs.Choices.{and_true, bool_cases, either}
use Rattle.text.proofs.Lists.{front}

abbrev pub FloatBounded : ℕ → Told FloatSpan → Type 0
FloatBounded n (Ok f) = (0 < f.len) × (f.len ≤ n) × (f.suffix ≤ 64)
FloatBounded n (Err r) = r.place ≤ n

well_le : (s : List ℕ) (may : Bool) → well_to s may ≤ length s
unfolding well_to
well_le [] may = omega arith
well_le (a ∷ s) may = let h = well_le s (may_follow may a) in either (bool_cases (misplaced may a)) (λ e. rw e (omega arith)) (λ e. rw e (omega arith))

-- 12 stands within the run
abbrev Held : ℕ → Judged → Type 0
Held n (Misplaced at) = at ≤ n
Held n Fine = Unit
Held n Unfit = Unit

judged_held : (s : List ℕ) → Held (length s) (float_judged s)
unfolding float_judged
judged_held s =
    either (bool_cases (ltb (well_to s false) (length s))) (λ a. rw a (well_le s false)) λ a.
    either (bool_cases (accepts (stripped s) Start)) (λ b. rw (a, b) tt) (λ b. rw (a, b) tt)

to_bounded : (code end n : ℕ) → 0 < end → end ≤ n → code ≤ 64 → FloatBounded n (float_to code end)
to_bounded code end n z h w = (z, h, w)

behind_bounded : (code end n m : ℕ) (j : Judged) → Held m j → m ≤ end → 0 < m → end ≤ n → code ≤ 64 → FloatBounded n (behind_float code end j)
behind_bounded code end n m (Misplaced at) g l z h w = omega arith
behind_bounded code end n m Fine g l z h w = to_bounded code end n (omega arith) h w
behind_bounded code end n m Unfit g l z h w = omega arith

-- what a word of a table says is at most n
abbrev says_to : ℕ → List Word → Bool
says_to n [] = true
says_to n (w ∷ ws) = leb w.says n && says_to n ws

first_says : (n : ℕ) (ws : List Word) → says_to n ws ≡ true → (t : List ℕ) → (first_of ws t).code ≤ n
unfolding first_of
first_says n [] h t = omega arith
first_says n (w ∷ ws) h t =
    let k = and_true (leb w.says n) (says_to n ws) h in
    either (bool_cases (eqb (ident_of w.letters t) 0)) (λ a. rw a (first_says n ws k.1 t)) (λ a. rw a (leb-true w.says n k.0))

split_bounded : (p : List ℕ) (f : Found) (n : ℕ) → length p + f.end ≤ n → f.code ≤ 64 → FloatBounded n (with_float_suffix p f)
split_bounded [] f n h w = omega arith
split_bounded (x ∷ xs) f n h w =
    let p : List ℕ = x ∷ xs in
    either (bool_cases (eqb (length p) 0)) (λ a. rw a (omega arith))
    (λ a. rw a (behind_bounded f.code (length p + f.end) n (length p) (float_judged p) (judged_held p) (omega arith) (omega arith) h w))

run_bounded : (s : List ℕ) → FloatBounded (length s) (run_at s)
unfolding run_at
run_bounded s =
    let n : ℕ = float_run s in
    split_bounded (take n s) (first_of float_suffixes (drop n s)) (length s)
    (omega (arith, first_le float_suffixes (drop n s), length-drop n s, length-take-le n s (float_run_le s), float_run_le s))
    (first_says 64 float_suffixes refl (drop n s))

signed_bounded : (front : ℕ) (l : Found) (other : Told FloatSpan) (n : ℕ) → l.code ≤ 64 → front + l.end ≤ n → FloatBounded n other → FloatBounded n (signed_or front l other)
signed_bounded zero l other n w h o = o
signed_bounded (suc front) l other n w h o =
    either (bool_cases (eqb (suc front) 0)) (λ a. rw a o) λ a.
    either (bool_cases (eqb l.end 0)) (λ b. rw (a, b) o) (λ b. rw (a, b) (to_bounded l.code (suc front + l.end) n (omega arith) h w))

pub float_bounded : (s : List ℕ) → FloatBounded (length s) (float_of s)
unfolding float_of
float_bounded s =
    let n : ℕ = (sign_of s).end in
    signed_bounded n (first_of specials (drop n s)) (run_at s) (length s)
    (first_says 64 specials refl (drop n s))
    (omega (arith, first_le specials (drop n s), length-drop n s, sign_le s)) (run_bounded s)
