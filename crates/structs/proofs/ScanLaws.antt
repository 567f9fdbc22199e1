-- Laws of the scan, at an index of the text, as the loop asks for them; and its refusals' places. Assumes nothing.
use Rattle.std.proofs.Common.{Ok, Err}
use Rattle.text.specs.Refusals.{Told}
use Rattle.structs.specs.declared.kinds.StructType.{StructType}
use Prim.Native.Nat.{◌+◌, ◌-◌, ◌^◌, ◌<◌, ◌≤◌, pred, suc, zero, ℕ}
use native.Mathlib.Nat.{add-zero, le_of_suc-le-suc, not-suc-le-zero}
use native.Mathlib.Omega.{arith}
use mathlib.Core.Bool.{cond}
use mathlib.Core.List.{List, [], ◌∷◌}
use mathlib.Core.Path.{◌∙◌, ◌≡◌, ap, refl, sym}
use lib.Dec.{eqb}
use lib.ListN.{drop, length, length-drop}
use lib.Seq.{drop-drop}
use Rattle.text.proofs.Choices.{cond_cases}
use Rattle.text.specs.Refusals.{eof, placed_behind, refusal}
use Rattle.structs.proofs.PassLaws.{gap_fits}
use Rattle.structs.proofs.StepLaws.{Sized, step_none, step_sized}
use Rattle.structs.specs.Kinds.{Fitting, placed_kind}
use Rattle.structs.specs.Passes.{Fits, past_gap}
use Rattle.structs.specs.Scan.{after_comma, by_step, comma_then, scan_from, scan_of, step_of}
use Rattle.structs.specs.declared.kinds.StructType.TheVariants as kind
use Rattle.structs.specs.declared.steps.Step.{Step}
use Rattle.structs.specs.declared.steps.Step.TheVariants.{Closing, Comma, Opening, Plain, Refused}

-- ---- one turn

-- what a step comes to, where both ways on and both deciding commas are the same
same : (t : List ℕ) (x : Step) (b : ℕ) (f g : ℕ → ℕ → Told StructType) (p q : ℕ → Told StructType) (at : ℕ) → Sized t x
    → ((n level : ℕ) → 0 < n → n ≤ length t → f n level ≡ g n level) → ((n : ℕ) → p n ≡ q n) → by_step x b f p at ≡ by_step x b g q at
same t (Opening n) b f g p q at z on comma = on n (b + 1) z.0 z.1
same t (Closing n) b f g p q at z on comma =
    ap (λ (a : Told StructType). cond (eqb (b - 1) 0) (Ok kind.NewtypeTuple) a) (on n (b - 1) z.0 z.1)
same t (Comma n) b f g p q at z on comma =
    ap (λ (a : Told StructType). cond (eqb b 1) a (f n b)) (comma n) ∙ ap (cond (eqb b 1) (q n)) (on n b z.0 z.1)
same t (Plain n) b f g p q at z on comma = on n b z.0 z.1
same t (Refused r) b f g p q at z on comma = refl

-- the bytes of a step already judged are passed
stepped : (s : List ℕ) (k b at : ℕ) → k ≤ length s → scan_from s k b at ≡ scan_from (drop k s) 0 b (at + k)
unfolding scan_from
stepped s zero b at p = rw (add-zero at)
stepped [] (suc k) b at p = absurd (not-suc-le-zero p)
stepped (a ∷ s) (suc k) b at p =
    let e : at + 1 + k ≡ at + suc k = omega arith in
    stepped s k b (at + 1) (le_of_suc-le-suc p) ∙ ap (λ (n : ℕ). scan_from (drop k s) 0 b n) e

behind : (a : ℕ) (s : List ℕ) (n b at : ℕ) → 0 < n → n ≤ length (a ∷ s) → scan_from s (pred n) b (at + 1) ≡ scan_from (drop n (a ∷ s)) 0 b (at + n)
behind a s zero b at p q = absurd (omega arith)
behind a s (suc m) b at p q =
    let e : at + 1 + m ≡ at + suc m = omega arith in
    stepped s m b (at + 1) (le_of_suc-le-suc q) ∙ ap (λ (n : ℕ). scan_from (drop m s) 0 b n) e

first : (a : ℕ) (s : List ℕ) (b at : ℕ)
    → scan_from (a ∷ s) 0 b at ≡ by_step (step_of (a ∷ s)) b (λ n level. scan_from s (pred n) level (at + 1)) (λ n. placed_kind (at + n) (after_comma (drop n (a ∷ s)))) at
unfolding scan_from
first a s b at = refl

ended : (b at : ℕ) → scan_from [] 0 b at ≡ Err (placed_behind at (eof 0))
unfolding scan_from
ended b at = ap (λ (p : ℕ). Err (refusal 6 p)) (sym (add-zero at))

turn : (t : List ℕ) (x : Step) (b at : ℕ) → step_of t ≡ x
    → scan_from t 0 b at ≡ by_step x b (λ n level. scan_from (drop n t) 0 level (at + n)) (λ n. placed_kind (at + n) (after_comma (drop n t))) at
turn [] x b at h =
    ended b at
    ∙ ap (λ (y : Step). by_step y b (λ n level. scan_from (drop n []) 0 level (at + n)) (λ n. placed_kind (at + n) (after_comma (drop n []))) at) (sym step_none ∙ h)
turn (a ∷ s) x b at h =
    first a s b at
    ∙ ap (λ (y : Step). by_step y b (λ n level. scan_from s (pred n) level (at + 1)) (λ n. placed_kind (at + n) (after_comma (drop n (a ∷ s)))) at) h
    ∙ same (a ∷ s) x b _ _ _ _ at (step_sized (a ∷ s) x h) (λ n level p q. behind a s n level at p q) (λ n. refl)

pub scan_at : (s : List ℕ) (i b : ℕ) (x : Step) → step_of (drop i s) ≡ x
    → scan_from (drop i s) 0 b i ≡ by_step x b (λ n level. scan_from (drop (i + n) s) 0 level (i + n)) (λ n. placed_kind (i + n) (after_comma (drop (i + n) s))) i
scan_at s i b x h =
    turn (drop i s) x b i h
    ∙ same (drop i s) x b _ _ _ _ i (step_sized (drop i s) x h)
    (λ n level p q. ap (λ (t : List ℕ). scan_from t 0 level (i + n)) (drop-drop n i s))
    (λ n. ap (λ (t : List ℕ). placed_kind (i + n) (after_comma t)) (drop-drop n i s))

-- ---- a refusal's place lies within the part

abbrev pub Within : ℕ → Told StructType → Type 0
Within m (Ok k) = Unit {0}
Within m (Err r) = r.place ≤ m

pub placed_within : (m n place : ℕ) (a : Told StructType) → Within n a → place + n ≤ m → Within m (placed_kind place a)
placed_within m n place (Ok k) w h = tt
placed_within m n place (Err r) w h = omega arith

pub placed_fits : (n place : ℕ) (a : Told StructType) → Within n a → place + n < 2 ^ 64 → Fitting place a
placed_fits n place (Ok k) w h = tt
placed_fits n place (Err r) w h = omega arith

comma_by : (s : List ℕ) (p : Told ℕ) → Fits (length s) p → Within (length s) (comma_then s p)
comma_by s (Ok i) h = tt
comma_by s (Err r) h = h

pub comma_within : (s : List ℕ) → Within (length s) (after_comma s)
unfolding after_comma
comma_within s = comma_by s (past_gap s (Ok 0)) (gap_fits s (Ok 0) (omega arith))

pub comma_fits : (s : List ℕ) (i : ℕ) → i ≤ length s → length s < 2 ^ 64 → Fitting i (after_comma (drop i s))
comma_fits s i h l = placed_fits (length (drop i s)) i (after_comma (drop i s)) (comma_within (drop i s)) (omega (arith, length-drop i s))

step_ends : (t : List ℕ) (x : Step) (b : ℕ) (on : ℕ → ℕ → Told StructType) (comma : ℕ → Told StructType) (at m : ℕ) → Sized t x
    → ((n level : ℕ) → Within m (on n level)) → ((n : ℕ) → n ≤ length t → Within m (comma n)) → at + length t ≤ m → Within m (by_step x b on comma at)
step_ends t (Opening n) b on comma at m z f g h = f n (b + 1)
step_ends t (Closing n) b on comma at m z f g h = cond_cases (Within m) (eqb (b - 1) 0) (Ok kind.NewtypeTuple) (on n (b - 1)) (λ e. tt) (λ e. f n (b - 1))
step_ends t (Comma n) b on comma at m z f g h = cond_cases (Within m) (eqb b 1) (comma n) (on n b) (λ e. g n z.1) (λ e. f n b)
step_ends t (Plain n) b on comma at m z f g h = f n b
step_ends t (Refused r) b on comma at m z f g h = omega arith

behind_within : (t : List ℕ) (at m n : ℕ) → at + length t ≤ m → n ≤ length t → Within m (placed_kind (at + n) (after_comma (drop n t)))
behind_within t at m n h l = placed_within m (length (drop n t)) (at + n) (after_comma (drop n t)) (comma_within (drop n t)) (omega (arith, length-drop n t))

from_within : (s : List ℕ) (left b at m : ℕ) → at + length s ≤ m → Within m (scan_from s left b at)
unfolding scan_from
from_within [] left b at m h = omega arith
from_within (a ∷ s) (suc left) b at m h = from_within s left b (at + 1) m (omega arith)
from_within (a ∷ s) zero b at m h =
    step_ends (a ∷ s) (step_of (a ∷ s)) b _ _ at m (step_sized (a ∷ s) _ refl) (λ n level. from_within s (pred n) level (at + 1) m (omega arith))
    (λ n l. behind_within (a ∷ s) at m n h l) h

pub scan_within : (s : List ℕ) (at : ℕ) → at ≤ length s → Within (length s) (scan_of s at)
unfolding scan_of
scan_within s at h = from_within (drop at s) 0 1 at (length s) (omega (arith, length-drop at s))
