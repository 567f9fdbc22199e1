-- The general reader says of a plain float what its definition does. Assumes nothing.
use Rattle.std.proofs.Common.{Ok}
use Prim.Native.Nat.{ℕ, zero, suc, ◌+◌, ◌≤◌, ◌<◌}
use native.Mathlib.Nat.{add-zero, zero-add}
use native.Mathlib.Omega.{arith}
use mathlib.Core.Bool.{Bool, true, false, cond, ◌&&◌}
use mathlib.Core.List.{List, [], ◌∷◌, ◌++◌, append-nil}
use mathlib.Core.Logic.{◌⊎◌, inl, inr}
use mathlib.Core.Path.{◌≡◌, refl, ap, sym, ◌∙◌}
use lib.Dec.{eqb, ltb}
use lib.ListN.{length, take, drop, get_or}
use lib.Seq.{get_or-drop, take-add}
use borrow.Author.Tests.{eqb-true, lt-ltb, ltb-true, ne_eqb}
use Rattle.text.proofs.Choices.{bool_cases, either}
use Rattle.text.proofs.Lists.{head_at}
use Rattle.text.specs.Classes.{digit, float_char, hex_digit, int_char, within}
use Rattle.text.specs.Runs.{run, run2}
use Rattle.floats.proofs.Decides.{complete}
use Rattle.floats.proofs.Laws.{float_none, float_plain, judged_fine, run_judged}
use Rattle.floats.specs.Classes.{float_goes, float_run, sign}
use Rattle.floats.specs.Float.{float_of, float_suffixes, run_at, specials}
use Rattle.floats.specs.Grammar as g
use Rattle.floats.specs.Judged.{float_judged, may_follow, stripped, well_to}
use Rattle.floats.specs.declared.judge.Judged.TheVariants.{Fine}
use Rattle.floats.specs.declared.state.State.TheVariants.{Start}
use Rattle.integers.proofs.Words.{other_first}
use Rattle.integers.specs.Front.{sign_of}
use Rattle.integers.specs.Words.{first_of, nothing_found}
use Rattle.numbers.proofs.Laws.{ahead_said, number_float}
use Rattle.numbers.specs.Numbers.{float_ahead, number_of, of_float}
use Rattle.numbers.specs.declared.Number.TheVariants.{Float}
use Rattle.reading.specs.Owed.{quiet_byte}
use Rattle.plain_numbers.proofs.Begins.{sign_cases}
use Rattle.plain_numbers.proofs.Runs.{digit_goes, digit_in, digit_int, quiet_float, quiet_not, run_wider, run2_none, run2_passed}
use Rattle.plain_numbers.specs.inner.PlainNumbers.{fraction_of}
use Rattle.text.proofs.RunLaws.{run_holds}

-- ---- a run without underscores

data Clean : List ℕ → Type 0 where
  none : Clean []
  next : (c : ℕ) (s : List ℕ) → eqb c 0x5f ≡ false → Clean s → Clean (c ∷ s)

clean_well : (s : List ℕ) (may : Bool) → Clean s → well_to s may ≡ length s
unfolding well_to
clean_well [] may h = refl
clean_well (c ∷ s) may (next d t e h) = rw e (ap suc (clean_well s (may_follow may c) h))

clean_stripped : (s : List ℕ) → Clean s → stripped s ≡ s
unfolding stripped
clean_stripped [] h = refl
clean_stripped (c ∷ s) (next d t e h) = rw e (ap (λ (l : List ℕ). c ∷ l) (clean_stripped s h))

digits_clean : (a x : List ℕ) → g.Digits a → Clean x → Clean (a ++ x)
digits_clean [] x d h = h
digits_clean (c ∷ a) x (g.Digits.next b s e d) h = let i = digit_in c e in next c (a ++ x) (ne_eqb c 0x5f (λ z. omega arith)) (digits_clean a x d h)

clean_fine : (s : List ℕ) → Clean s → g.Float s → Fine ≡ float_judged s
clean_fine s h f = judged_fine s (omega (arith, clean_well s false h)) (ap (λ (l : List ℕ). g.accepts l Start) (clean_stripped s h) ∙ complete s f)

-- ---- digits of the grammar

digits_of : (t : List ℕ) (n : ℕ) → n ≤ run digit t → g.Digits (take n t)
unfolding run
digits_of t zero h = g.Digits.none
digits_of [] (suc n) h = absurd (omega arith)
digits_of (a ∷ t) (suc n) h =
    either (bool_cases (digit a)) (λ e. g.Digits.next a (take n t) e (digits_of t n (omega (arith, rw e at h)))) (λ e. absurd (omega (arith, rw e at h)))

some_of : (t : List ℕ) (n : ℕ) → 0 < n → n ≤ run digit t → g.Some (take n t)
unfolding run
some_of t zero p h = absurd (omega arith)
some_of [] (suc n) p h = absurd (omega arith)
some_of (a ∷ t) (suc n) p h =
    either (bool_cases (digit a)) (λ e. g.Some.next a (take n t) e (digits_of t n (omega (arith, rw e at h)))) (λ e. absurd (omega (arith, rw e at h)))

-- ---- a fraction

-- a point, digits and a quiet byte
record Fraction (u : List ℕ) (f : ℕ) : Type 0 where
  pub point_is : get_or u 0 0 ≡ 0x2e
  pub long : f ≡ suc (run digit (drop 1 u))
  pub some : 0 < run digit (drop 1 u)
  pub quiet : quiet_byte (get_or (drop 1 u) (run digit (drop 1 u)) 0) ≡ true

fraction_is : (u : List ℕ) → 0 < fraction_of u → Fraction u (fraction_of u)
unfolding fraction_of
fraction_is u h = go (eqb (get_or u 0 0) 0x2e) (ltb 0 (run digit (drop 1 u))) (quiet_byte (get_or u (suc (run digit (drop 1 u))) 0)) refl refl refl h
  where
    go : (p n q : Bool) → eqb (get_or u 0 0) 0x2e ≡ p → ltb 0 (run digit (drop 1 u)) ≡ n → quiet_byte (get_or u (suc (run digit (drop 1 u))) 0) ≡ q
        → 0 < cond (p && (n && q)) (suc (run digit (drop 1 u))) 0 → Fraction u (cond (p && (n && q)) (suc (run digit (drop 1 u))) 0)
    go true true true ep en eq h = record {
      point_is = eqb-true (get_or u 0 0) 0x2e ep;
      long = refl;
      some = ltb-true 0 (run digit (drop 1 u)) en;
      quiet = ap quiet_byte (get_or-drop 1 u (run digit (drop 1 u)) 0 ∙ ap (λ (k : ℕ). get_or u k 0) (omega arith)) ∙ eq;
    }
    go true true false ep en eq h = absurd (omega arith)
    go true false q ep en eq h = absurd (omega arith)
    go false n q ep en eq h = absurd (omega arith)

-- a part that begins with a point is the point and the rest
pointed : (u : List ℕ) → get_or u 0 0 ≡ 0x2e → u ≡ 0x2e ∷ drop 1 u
pointed [] e = absurd (omega arith)
pointed (a ∷ w) e = ap (λ (x : ℕ). x ∷ w) e

point_goes : (b : ℕ) → digit b ≡ true → float_goes 0x2e b ≡ true
unfolding float_goes
point_goes b e = let i = digit_in b e in rw (ne_eqb b 0x2e (λ z. omega arith))

module _ (u : List ℕ) (f : ℕ) (is : Fraction u f) where
  fraction_run : float_run u ≡ f
  unfolding run2
  fraction_run =
      let w : List ℕ = drop 1 u in
      let k : ℕ = run digit w in
      let behind : float_run (drop k w) ≡ 0 = run2_none float_goes (drop k w) (λ b. ap (λ (c : ℕ). float_goes c b) (head_at w k) ∙ quiet_float _ is.quiet b) in
      let rest : float_run w ≡ k = run2_passed digit float_goes digit_goes w ∙ ap (λ (n : ℕ). k + n) behind ∙ add-zero k in
      ap float_run (pointed u is.point_is) ∙ rw (point_goes (get_or w 0 0) (run_holds digit w 0 is.some)) (ap suc rest) ∙ sym is.long

  fraction_text : take f u ≡ 0x2e ∷ (take (run digit (drop 1 u)) (drop 1 u) ++ [])
  fraction_text =
      let w : List ℕ = drop 1 u in
      let k : ℕ = run digit w in
      ap (λ (n : ℕ). take n u) is.long ∙ ap (take (suc k)) (pointed u is.point_is) ∙ ap (λ (l : List ℕ). 0x2e ∷ l) (sym (append-nil (take k w)))

  fraction_quiet : quiet_byte (get_or u f 0) ≡ true
  fraction_quiet =
      let k : ℕ = run digit (drop 1 u) in
      ap quiet_byte (ap (λ (n : ℕ). get_or u n 0) (is.long ∙ omega arith) ∙ sym (get_or-drop 1 u k 0)) ∙ is.quiet

-- ---- digits and a fraction

point_int : (c : ℕ) → c ≡ 0x2e → int_char c ≡ false
unfolding int_char hex_digit digit within
point_int c e = rw e

module _ (t : List ℕ) (f : ℕ) (some : 0 < run digit t) (is : Fraction (drop (run digit t) t) f) where
  point_run : run int_char t ≡ run digit t
  point_run = run_wider digit int_char digit_int t (point_int (get_or t (run digit t) 0) (sym (head_at t (run digit t)) ∙ is.point_is))

  whole_run : float_run t ≡ run digit t + f
  whole_run = run2_passed digit float_goes digit_goes t ∙ ap (λ (n : ℕ). run digit t + n) (fraction_run (drop (run digit t) t) f is)

  whole_quiet : quiet_byte (get_or t (run digit t + f) 0) ≡ true
  whole_quiet = ap quiet_byte (sym (get_or-drop (run digit t) t f 0)) ∙ fraction_quiet (drop (run digit t) t) f is

  whole_text : g.Numeral (take (run digit t + f) t) × Clean (take (run digit t + f) t)
  whole_text =
      let n : ℕ = run digit t in
      let w : List ℕ = drop 1 (drop n t) in
      let k : ℕ = run digit w in
      let e : take (n + f) t ≡ take n t ++ 0x2e ∷ (take k w ++ []) = take-add n f t ∙ ap (λ (l : List ℕ). take n t ++ l) (fraction_text (drop n t) f is) in
      rw e (
        g.Numeral.ended (take n t) (take k w) [] 0x2e refl (some_of t n some (omega arith)) (digits_of w k (omega arith)) g.Exponent.none,
        digits_clean (take n t) (0x2e ∷ (take k w ++ [])) (digits_of t n (omega arith)) (next 0x2e (take k w ++ []) refl (digits_clean (take k w) [] (digits_of w k (omega arith)) none)),
      )

-- ---- a sign in front, or none

abbrev Front : List ℕ → ℕ → Type 0
Front s e = (e ≡ 0) ⊎ ((e ≡ 1) × (sign (get_or s 0 0) ≡ true))

sign_goes : (a b : ℕ) → sign a ≡ true → float_goes a b ≡ true
unfolding float_goes float_char digit within
sign_goes a b e =
    either (bool_cases (eqb a 0x2b)) (λ p. rw (eqb-true a 0x2b p)) (λ p. rw (eqb-true a 0x2d (rw p at e)))

sign_clean : (a : ℕ) → sign a ≡ true → eqb a 0x5f ≡ false
sign_clean a e =
    either (bool_cases (eqb a 0x2b)) (λ p. rw (eqb-true a 0x2b p)) (λ p. rw (eqb-true a 0x2d (rw p at e)))

run_from : (s : List ℕ) (e : ℕ) → Front s e → float_run s ≡ e + float_run (drop e s)
unfolding run2
run_from s e (inl z) = rw z (sym (zero-add (float_run s)))
run_from [] e (inr z) = let y : ◌≡◌ {A = ℕ} 0 1 = cc in absurd (omega arith)
run_from (a ∷ s) e (inr z) = rw (z.0, sign_goes a (get_or s 0 0) z.1) (omega arith)

text_from : (s : List ℕ) (e m : ℕ) → Front s e → g.Numeral (take m (drop e s)) → Clean (take m (drop e s)) → g.Float (take (e + m) s) × Clean (take (e + m) s)
text_from s e m (inl z) d h =
    let q : e + m ≡ m = omega arith in
    rw q (g.Signable.plain (take m s) (rw z at d), rw z at h)
text_from [] e m (inr z) d h = let y : ◌≡◌ {A = ℕ} 0 1 = cc in absurd (omega arith)
text_from (a ∷ s) e m (inr z) d h =
    let q : e + m ≡ suc m = omega (arith, z.0) in
    rw q (g.Signable.signed a (take m s) z.1 (rw z.0 at d), next a (take m s) (sign_clean a z.1) (rw z.0 at h))

-- ---- no letters stand behind it, and none behind its sign

module _ (t : List ℕ) where
  no_float_suffix : (get_or t 0 0 ≡ 0x66 → ⊥) → nothing_found ≡ first_of float_suffixes t
  unfolding first_of
  no_float_suffix h = rw (other_first 0x66 (0x33 ∷ 0x32 ∷ []) t h, other_first 0x66 (0x36 ∷ 0x34 ∷ []) t h)

  no_special : (get_or t 0 0 ≡ 0x69 → ⊥) → (get_or t 0 0 ≡ 0x4e → ⊥) → nothing_found ≡ first_of specials t
  unfolding first_of
  no_special h k =
      rw (other_first 0x69 (0x6e ∷ 0x66 ∷ []) t h, other_first 0x69 (0x6e ∷ 0x66 ∷ 0x66 ∷ 0x33 ∷ 0x32 ∷ []) t h, other_first 0x69 (0x6e ∷ 0x66 ∷ 0x66 ∷ 0x36 ∷ 0x34 ∷ []) t h, other_first 0x4e (0x61 ∷ 0x4e ∷ []) t k, other_first 0x4e (0x61 ∷ 0x4e ∷ 0x66 ∷ 0x33 ∷ 0x32 ∷ []) t k, other_first 0x4e (0x61 ∷ 0x4e ∷ 0x66 ∷ 0x36 ∷ 0x34 ∷ []) t k)

-- neither inf nor NaN
no_word : (s : List ℕ) → digit (get_or (drop (sign_of s).end s) 0 0) ≡ true → run_at s ≡ float_of s
no_word s d =
    let i = digit_in _ d in
    either (sign_cases s) (λ z. float_plain s (sign_of s) refl (z))
    (λ z. float_none s (sign_of s) refl nothing_found (no_special (drop (sign_of s).end s) (λ y. omega arith) (λ y. omega arith)) (λ y. omega (arith, z.0)) refl)

-- f is not quiet
loud : quiet_byte 0x66 ≡ false
unfolding quiet_byte
loud = refl

-- ---- the whole

module _ (s : List ℕ) (some : 0 < run digit (drop (sign_of s).end s)) (frac : 0 < fraction_of (drop (run digit (drop (sign_of s).end s)) (drop (sign_of s).end s))) where
  run_is : (m : ℕ) → m ≡ (sign_of s).end + (run digit (drop (sign_of s).end s) + fraction_of (drop (run digit (drop (sign_of s).end s)) (drop (sign_of s).end s)))
      → Ok (record { len = m; suffix = 0 }) ≡ run_at s
  run_is m em =
      let e : ℕ = (sign_of s).end in
      let t : List ℕ = drop e s in
      let n : ℕ = run digit t in
      let f : ℕ = fraction_of (drop n t) in
      let is = fraction_is (drop n t) frac in
      let long : m ≡ float_run s = em ∙ sym (run_from s e (sign_cases s) ∙ ap (λ (k : ℕ). e + k) (whole_run t f some is)) in
      let text = text_from s e (n + f) (sign_cases s) (whole_text t f some is).0 (whole_text t f some is).1 in
      let fine : Fine ≡ float_judged (take m s) = clean_fine (take m s) (rw em text.1) (rw em text.0) in
      let behind : quiet_byte (get_or (drop m s) 0 0) ≡ true = ap quiet_byte (head_at s m ∙ ap (λ (k : ℕ). get_or s k 0) em ∙ sym (get_or-drop e s (n + f) 0)) ∙ whole_quiet t f some is in
      ap (λ (k : ℕ). Ok (record { len = k; suffix = 0 })) (sym (add-zero m))
      ∙ run_judged s m Fine nothing_found long (λ z. omega arith) fine (no_float_suffix (drop m s) (quiet_not _ behind 0x66 loud))

  ahead : float_ahead s ≡ true
  ahead =
      let t : List ℕ = drop (sign_of s).end s in
      let f : ℕ = fraction_of (drop (run digit t) t) in
      let is = fraction_is (drop (run digit t) t) frac in
      sym (ahead_said s (sign_of s) (run int_char t) (float_run t) refl refl refl) ∙ lt-ltb (run int_char t) (float_run t) (omega (arith, point_run t f some is, whole_run t f some is))

  pub float_is : (m : ℕ) → m ≡ (sign_of s).end + (run digit (drop (sign_of s).end s) + fraction_of (drop (run digit (drop (sign_of s).end s)) (drop (sign_of s).end s)))
      → number_of s ≡ Float (record { len = m; suffix = 0 })
  float_is m em =
      sym (number_float s ahead) ∙ ap of_float (sym (no_word s (run_holds digit (drop (sign_of s).end s) 0 some)) ∙ sym (run_is m em))
