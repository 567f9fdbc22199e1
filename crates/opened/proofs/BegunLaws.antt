-- The search for what is not closed, at an index of the text, as the loop asks for it. Assumes nothing.
use Prim.Native.Nat.{ℕ, zero, suc, pred, ◌+◌, ◌<◌, ◌≤◌}
use native.Mathlib.Nat.{add-zero, le_of_suc-le-suc, not-suc-le-zero}
use native.Mathlib.Omega.{arith}
use mathlib.Core.List.{List, [], ◌∷◌}
use mathlib.Core.Path.{◌≡◌, ap, refl, subst, sym, ◌∙◌}
use lib.ListN.{drop, drop_of_length-le, get_or, length, length-drop}
use lib.Seq.{drop-drop}
use borrow.Author.Tests.{eq-eqb, ne_eqb}
use Rattle.text.proofs.Lists.{front}
use Rattle.opened.specs.Fronts.{front_of}
use Rattle.opened.specs.Begun.{by_front, begun_from, reached_of, read_begun}
use Rattle.opened.specs.declared.front.Front.{Front}
use Rattle.opened.specs.declared.front.Front.TheVariants.{Passes}
use Rattle.opened.specs.declared.begun.Begun.TheVariants.{Nothing}
use Rattle.opened.proofs.FrontLaws.{Sized, front_sized}

begun_step : (a : ℕ) (s : List ℕ) (at : ℕ) → begun_from (a ∷ s) 0 at ≡ by_front (front_of (a ∷ s)) (λ n. begun_from s (pred n) (at + 1)) at
unfolding begun_from
begun_step a s at = refl

-- bytes that are passed already
pub passed : (s : List ℕ) (k at : ℕ) → k ≤ length s → begun_from s k at ≡ begun_from (drop k s) 0 (at + k)
unfolding begun_from
passed s zero at p = rw (add-zero at)
passed [] (suc k) at p = absurd (not-suc-le-zero p)
passed (a ∷ s) (suc k) at p =
    let e : at + 1 + k ≡ at + suc k = omega arith in
    passed s k (at + 1) (le_of_suc-le-suc p) ∙ ap (λ (n : ℕ). begun_from (drop k s) 0 n) e

pub on_passes : (t : List ℕ) (at n : ℕ) → front_of t ≡ Passes n → 0 < n → n ≤ length t → begun_from t 0 at ≡ begun_from (drop n t) 0 (at + n)
on_passes [] at n h p q = absurd (omega arith)
on_passes (a ∷ t) at zero h p q = absurd (omega arith)
on_passes (a ∷ t) at (suc m) h p q =
    let e : at + 1 + m ≡ at + suc m = omega arith in
    begun_step a t at
    ∙ ap (λ (r : Front). by_front r (λ n. begun_from t (pred n) (at + 1)) at) h
    ∙ passed t m (at + 1) (le_of_suc-le-suc q)
    ∙ ap (λ (n : ℕ). begun_from (drop m t) 0 n) e

module _ (s : List ℕ) (i : ℕ) where
  pub front_within : i < length s → (r : Front) → front_of (drop i s) ≡ r → Sized (drop i s) r
  front_within h r e = subst (Sized (drop i s)) e (front_sized (drop i s) (rw (length-drop i s) (omega arith)))

  pub begun_on : i < length s → (n : ℕ) → front_of (drop i s) ≡ Passes n → begun_from (drop i s) 0 i ≡ begun_from (drop (i + n) s) 0 (i + n)
  begun_on h n e =
      let q = front_within h (Passes n) e in
      on_passes (drop i s) i n e q.0 q.1 ∙ ap (λ (t : List ℕ). begun_from t 0 (i + n)) (drop-drop n i s)

  pub begun_ends : i < length s → (r : Front) → front_of (drop i s) ≡ r → begun_from (drop i s) 0 i ≡ by_front r (λ n. begun_from (drop (i + 1) s) (pred n) (i + 1)) i
  begun_ends h r e =
      let f = front s i h in
      ap (λ (t : List ℕ). begun_from t 0 i) f
      ∙ begun_step (get_or s i 0) (drop (i + 1) s) i
      ∙ ap (λ (x : Front). by_front x (λ n. begun_from (drop (i + 1) s) (pred n) (i + 1)) i) (ap front_of (sym f) ∙ e)

  pub begun_out : length s ≤ i → begun_from (drop i s) 0 i ≡ Nothing
  unfolding begun_from
  begun_out h = rw (drop_of_length-le s h)

-- ---- by the refusal's number

module _ (text : List ℕ) (number : ℕ) where
  module _ (at : ℕ) (e : at ≡ reached_of text) where
    from_there : begun_from (drop at text) 0 at ≡ begun_from (drop (reached_of text) text) 0 (reached_of text)
    from_there = ap (λ (k : ℕ). begun_from (drop k text) 0 k) e

    pub read_comment : number ≡ 4 → begun_from (drop at text) 0 at ≡ read_begun text number
    unfolding read_begun
    read_comment h = from_there ∙ rw (eq-eqb number 4 h)

    pub read_string : (number ≡ 4 → ⊥) → number ≡ 17 → begun_from (drop at text) 0 at ≡ read_begun text number
    unfolding read_begun
    read_string f h = from_there ∙ rw (ne_eqb number 4 f, eq-eqb number 17 h)

  pub read_other : (number ≡ 4 → ⊥) → (number ≡ 17 → ⊥) → Nothing ≡ read_begun text number
  unfolding read_begun
  read_other f h = rw (ne_eqb number 4 f, ne_eqb number 17 h)
