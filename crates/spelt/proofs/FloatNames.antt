-- A name that is none of the words inf and NaN, alone or with f32 or f64, is no float. Assumes nothing.
use Prim.Native.Nat.{ℕ}
use mathlib.Core.Bool.{true, true≢false}
use mathlib.Core.List.{List, [], ◌∷◌, ◌++◌, append-nil}
use mathlib.Core.Path.{◌≡◌, refl, ap, ap₂, subst, sym, ◌∙◌}
use lib.Dec.{eqb}
use lib.ListN.{drop, length, take}
use lib.Seq.{take-add, take_at}
use borrow.Author.Tests.{eqb-true}
use Rattle.text.proofs.Choices.{and_true, cond_cases, either, or_cases}
use Rattle.text.specs.Words.{starts_with}
use Rattle.names.specs.Classify.{begins_float, named, suffixed}
use Rattle.names.specs.declared.Word.{Word}
use Rattle.names.specs.declared.Word.TheVariants.{Float, Plain}
use Rattle.tiled.specs.Forms.{FloatName, Special, Suffix}
use Rattle.tiled.specs.Forms as form

-- a word that stands at the front is the bytes there
front_word : (word t : List ℕ) → starts_with word t ≡ true → take (length word) t ≡ word
unfolding starts_with
front_word [] t e = refl
front_word (w ∷ ws) [] e = absurd (true≢false (sym e))
front_word (w ∷ ws) (c ∷ cs) e =
    let b = and_true (eqb c w) (starts_with ws cs) e in
    ap₂ {C = List ℕ} (λ (x : ℕ) (l : List ℕ). x ∷ l) (eqb-true c w b.0) (front_word ws cs b.1)

-- `inf` or `NaN` in front
front_special : (t : List ℕ) → begins_float t ≡ true → Special (take 3 t)
unfolding begins_float
front_special t e =
    either (or_cases (starts_with (0x69 ∷ 0x6e ∷ 0x66 ∷ []) t) (starts_with (0x4e ∷ 0x61 ∷ 0x4e ∷ []) t) e)
    (λ h. subst Special (sym (front_word (0x69 ∷ 0x6e ∷ 0x66 ∷ []) t h)) form.Special.inf)
    (λ h. subst Special (sym (front_word (0x4e ∷ 0x61 ∷ 0x4e ∷ []) t h)) form.Special.nan)

module _ (u r : List ℕ) (fine : (d : ℕ) → FloatName d u → ⊥) where
  abbrev t : List ℕ
  t = u ++ r

  abbrev n : ℕ
  n = length u

  whole : (m : ℕ) → n ≡ m → u ≡ take m t
  whole m e = sym (take_at u r m e)

  -- three bytes and three bytes of a suffix
  no_suffix : {d : ℕ} (x : List ℕ) → Suffix d x → Special (take 3 t) → n ≡ 6 → take 3 (drop 3 t) ≡ x → ⊥
  no_suffix {d} x f p e h = fine d (subst (FloatName d) (sym (whole 6 e ∙ take-add 3 3 t ∙ ap (λ (l : List ℕ). take 3 t ++ l) h)) (form.FloatName.named (take 3 t) p f))

  abbrev Is : Word → Type 0
  Is k = k ≡ Plain n

  six : Special (take 3 t) → n ≡ 6 → Is (suffixed (drop 3 t) n)
  unfolding suffixed
  six p e =
      cond_cases Is (starts_with (0x66 ∷ 0x33 ∷ 0x32 ∷ []) (drop 3 t)) (Float n 32) _
      (λ h. absurd (no_suffix (0x66 ∷ 0x33 ∷ 0x32 ∷ []) form.Suffix.f32 p e (front_word (0x66 ∷ 0x33 ∷ 0x32 ∷ []) (drop 3 t) h))) λ q.
      cond_cases Is (starts_with (0x66 ∷ 0x36 ∷ 0x34 ∷ []) (drop 3 t)) (Float n 64) (Plain n)
      (λ h. absurd (no_suffix (0x66 ∷ 0x36 ∷ 0x34 ∷ []) form.Suffix.f64 p e (front_word (0x66 ∷ 0x36 ∷ 0x34 ∷ []) (drop 3 t) h)))
      (λ h. refl)

  pub name_plain : named (u ++ r) (length u) ≡ Plain (length u)
  unfolding named
  name_plain =
      cond_cases Is (begins_float t) _ (Plain n)
      (λ b. let p = front_special t b in
      cond_cases Is (eqb n 3) (Float n 0) _
      (λ e. absurd (fine 0 (subst (FloatName 0) (append-nil (take 3 t) ∙ sym (whole 3 (eqb-true n 3 e))) (form.FloatName.named (take 3 t) p form.Suffix.none)))) λ e.
      cond_cases Is (eqb n 6) (suffixed (drop 3 t) n) (Plain n) (λ q. six p (eqb-true n 6 q)) (λ q. refl))
      (λ b. refl)
