-- A float that is read has the form of a float. Assumes nothing.
use Rattle.std.proofs.Common.{Ok, Err}
use Rattle.text.specs.Refusals.{Told}
use Rattle.floats.specs.declared.float.FloatSpan.{FloatSpan}
use Prim.Native.Nat.{ℕ, ◌+◌}
use native.Mathlib.Omega.{arith}
use mathlib.Core.Bool.{true, false}
use mathlib.Core.List.{List, [], ◌∷◌, ◌++◌}
use mathlib.Core.Path.{◌≡◌, ap, refl, subst, sym, ◌∙◌}
use lib.Dec.{eqb, ltb}
use lib.ListN.{drop, get_or, length, take}
use lib.Seq.{drop-drop}
use borrow.Author.Tests.{eqb-false}
use Rattle.text.proofs.Choices.{cond_cases, either}
use Rattle.floats.proofs.Decides.{decides}
use Rattle.floats.proofs.Laws.{float_run_le}
use Rattle.floats.specs.Classes.{float_run, sign}
use Rattle.floats.specs.Float.{behind_float, float_of, float_suffixes, run_at, specials}
use Rattle.floats.specs.Grammar.{Float, accepts}
use Rattle.floats.specs.Grammar.Signable.{signed}
use Rattle.floats.specs.Judged.{float_judged, stripped, well_to}
use Rattle.floats.specs.declared.judge.Judged.{Judged}
use Rattle.floats.specs.declared.judge.Judged.TheVariants.{Misplaced, Fine, Unfit}
use Rattle.floats.specs.declared.state.State.TheVariants.{Start}
use Rattle.integers.specs.Front.{sign_of}
use Rattle.integers.specs.Words.{first_of}
use Rattle.integers.specs.declared.front.Sign.{Sign}
use Rattle.integers.specs.declared.ident.Found.{Found}
use Rattle.tiled.specs.Forms.{FloatForm, FloatName, Form, Suffix}
use Rattle.tiled.specs.Forms.FloatForm.{number, special}
use Rattle.tiled.specs.Forms.FloatName.{named}
use Rattle.tiled.specs.Forms.Form.{float}
use Rattle.tiled.specs.Forms.Special.{inf, nan}
use Rattle.tiled.specs.Forms.Suffix.{none, f32, f64}
use Rattle.tiled.proofs.Found.{Stands, first_stands, joined}

-- ---- the suffix, and the words behind a sign

suffix_stands : (t : List ℕ) → Stands Suffix (first_of float_suffixes t) t
suffix_stands t = either (first_stands Suffix float_suffixes t (f32, (f64, tt))) (λ e. rw e record { letters = []; is = none; split = refl }) (λ x. x)

special_stands : (t : List ℕ) → eqb (first_of specials t).end 0 ≡ false → Stands FloatName (first_of specials t) t
special_stands t h =
    either (first_stands FloatName specials t (named _ inf none, (named _ inf f32, (named _ inf f64, (named _ nan none, (named _ nan f32, (named _ nan f64, tt)))))))
    (λ e. absurd (eqb-false (first_of specials t).end 0 h (ap (λ (f : Found). f.end) e)))
    (λ x. x)

-- ---- the form

-- the first n bytes of s are w, which is a float
pub float_form : (d n : ℕ) (s w : List ℕ) → s ≡ w ++ drop n s → FloatForm d w → Form 12 d s (drop n s)
float_form d n s w e f = subst (λ (x : List ℕ). Form 12 d x (drop n s)) (sym e) (float f)

abbrev pub FloatSays : List ℕ → Told FloatSpan → Type 0
FloatSays s (Ok f) = Form 12 f.suffix s (drop f.len s)
FloatSays s (Err r) = Unit {0}

fine_float : (part : List ℕ) → float_judged part ≡ Fine → Float (stripped part)
unfolding float_judged
fine_float part =
    cond_cases (λ (j : Judged). j ≡ Fine → Float (stripped part)) (ltb (well_to part false) (length part)) _ _
    (λ p e. let z : ◌≡◌ {A = ℕ} 0 1 = cc in absurd (omega arith))
    (λ p. cond_cases (λ (j : Judged). j ≡ Fine → Float (stripped part)) (accepts (stripped part) Start) _ _
    (λ q e. (decides (stripped part)).0 q)
    (λ q e. let z : ◌≡◌ {A = ℕ} 0 1 = cc in absurd (omega arith)))

judged_says : (s part : List ℕ) (f : Found) (j : Judged) → float_judged part ≡ j → (x : List ℕ) → Suffix f.code x → s ≡ (part ++ x) ++ drop (length part + f.end) s
    → FloatSays s (behind_float f.code (length part + f.end) j)
judged_says s part f (Misplaced at) e x is split = tt
judged_says s part f Fine e x is split = float_form f.code (length part + f.end) s (part ++ x) split (number part (fine_float part e) is)
judged_says s part f Unfit e x is split = tt

run_says : (s : List ℕ) → FloatSays s (run_at s)
unfolding run_at
run_says s =
    let n : ℕ = float_run s in
    let f : Found = first_of float_suffixes (drop n s) in
    let w = suffix_stands (drop n s) in
    cond_cases (FloatSays s) (eqb (length (take n s)) 0) _ _ (λ e. tt)
    (λ e. judged_says s (take n s) f (float_judged (take n s)) refl w.letters w.is (joined n f.end s w.letters (float_run_le s) w.split))

-- a sign that was found stands there
sign_stands : (s : List ℕ) → eqb (sign_of s).end 0 ≡ false → ((sign_of s).end ≡ 1) × (sign (get_or s 0 0) ≡ true)
unfolding sign_of
sign_stands s =
    cond_cases (λ (g : Sign). eqb g.end 0 ≡ false → (g.end ≡ 1) × (sign (get_or s 0 0) ≡ true)) (eqb (get_or s 0 0) 0x2b) _ _
    (λ p e. (refl, rw p))
    (λ p. cond_cases (λ (g : Sign). eqb g.end 0 ≡ false → (g.end ≡ 1) × (sign (get_or s 0 0) ≡ true)) (eqb (get_or s 0 0) 0x2d) _ _
    (λ q e. (refl, rw (p, q)))
    (λ q e. absurd (eqb-false 0 0 e refl)))

-- `inf` or `NaN` behind it
signed_says : (s : List ℕ) (front : ℕ) (l : Found) → front ≡ 1 → sign (get_or s 0 0) ≡ true → Stands FloatName l (drop front s) → Form 12 l.code s (drop (front + l.end) s)
signed_says [] front l e g w = let z : ◌≡◌ {A = ℕ} 0 1 = cc in absurd (omega arith)
signed_says (a ∷ t) front l e g w =
    let split : t ≡ w.letters ++ drop l.end t = rw e at w.split in
    float_form l.code (front + l.end) (a ∷ t) (a ∷ w.letters)
    (ap (λ (x : List ℕ). a ∷ x) split ∙ ap (λ (x : List ℕ). (a ∷ w.letters) ++ x) (drop-drop l.end 1 (a ∷ t) ∙ ap (λ (n : ℕ). drop (n + l.end) (a ∷ t)) (sym e)))
    (special (signed a w.letters g w.is))

-- a float that is read has the form of its suffix
pub float_says : (s : List ℕ) → FloatSays s (float_of s)
unfolding float_of
float_says s =
    let n : ℕ = (sign_of s).end in
    let l : Found = first_of specials (drop n s) in
    cond_cases (FloatSays s) (eqb n 0) (run_at s) _ (λ a. run_says s)
    (λ a. cond_cases (FloatSays s) (eqb l.end 0) (run_at s) _ (λ b. run_says s)
    (λ b. let k = sign_stands s a in signed_says s n l k.0 k.1 (special_stands (drop n s) b)))
