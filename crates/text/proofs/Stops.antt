-- What a reader answers does not depend on what stands behind a byte that stops it. Assumes nothing.
use mathlib.Core.Path.{◌≡◌, refl, sym, ap, ap₂, ◌∙◌}
use mathlib.Core.Bool.{Bool, false, cond}
use mathlib.Core.List.{List, [], ◌∷◌, ◌++◌}
use Prim.Native.Nat.{ℕ, suc, ◌+◌, ◌≤◌}
use native.Mathlib.Omega.{arith}
use lib.Dec.{eqb}
use lib.ListN.{length, drop, take, get_or, length-append, length-drop}
use lib.Seq.{drop-append-le, take-append-le}
use borrow.Author.Tests.{ne_eqb}
use Rattle.text.specs.Runs.{run, run2}
use Rattle.text.proofs.Choices.{bool_cases, either}

-- nothing behind a c changes what f answers
pub record Stopped {A : Type 0} (c : ℕ) (f : List ℕ → A) : Type 0 where
  pub same : (u v v' : List ℕ) → f (u ++ c ∷ v) ≡ f (u ++ c ∷ v')

-- a length that nothing behind a c changes and that takes no c in
pub record Reach (c : ℕ) (n : List ℕ → ℕ) : Type 0 where
  pub stopped : Stopped c n
  pub short : (u v : List ℕ) → n (u ++ c ∷ v) ≤ length u

-- the byte at the front, 0 at the end
head_same : (c : ℕ) (u v v' : List ℕ) → get_or (u ++ c ∷ v) 0 0 ≡ get_or (u ++ c ∷ v') 0 0
head_same c [] v v' = refl
head_same c (x ∷ u) v v' = refl

module _ {c : ℕ} where
  -- ---- how readers are put together
  pub always : {A : Type 0} (a : A) → Stopped c (λ s. a)
  always a = record { same = λ u v v'. refl }

  pub on : {A B : Type 0} {f : List ℕ → A} (g : A → B) → Stopped c f → Stopped c (λ s. g (f s))
  on g e = record { same = λ u v v'. ap g (e.same u v v') }

  pub on₂ : {A B C : Type 0} {f : List ℕ → A} {h : List ℕ → B} (g : A → B → C) → Stopped c f → Stopped c h → Stopped c (λ s. g (f s) (h s))
  on₂ g e d = record { same = λ u v v'. ap₂ g (e.same u v v') (d.same u v v') }

  pub on₃ : {A B C D : Type 0} {f : List ℕ → A} {h : List ℕ → B} {k : List ℕ → C} (g : A → B → C → D) → Stopped c f → Stopped c h → Stopped c k → Stopped c (λ s. g (f s) (h s) (k s))
  on₃ {f = f} {h = h} {k = k} g e d b = record {
    same = λ u v v'.
        ap (λ x. g x (h (u ++ c ∷ v)) (k (u ++ c ∷ v))) (e.same u v v') ∙ ap₂ (g (f (u ++ c ∷ v'))) (d.same u v v') (b.same u v v');
  }

  -- a reader that what was read chooses
  pub bind : {A B : Type 0} {f : List ℕ → A} (g : A → List ℕ → B) → Stopped c f → ((x : A) → Stopped c (g x)) → Stopped c (λ s. g (f s) s)
  bind {f = f} g e d = record { same = λ u v v'. ap (λ x. g x (u ++ c ∷ v)) (e.same u v v') ∙ (d (f (u ++ c ∷ v'))).same u v v' }

  -- the bytes that a length takes
  pub part : {n : List ℕ → ℕ} → Reach c n → Stopped c (λ s. take (n s) s)
  part {n} r = record {
    same = λ u v v'.
        take-append-le (n (u ++ c ∷ v)) u (c ∷ v) (r.short u v)
        ∙ ap (λ (k : ℕ). take k u) (r.stopped.same u v v')
        ∙ sym (take-append-le (n (u ++ c ∷ v')) u (c ∷ v') (r.short u v'));
  }

  -- a reader behind a length
  pub behind : {A : Type 0} {n : List ℕ → ℕ} {f : List ℕ → A} → Reach c n → Stopped c f → Stopped c (λ s. f (drop (n s) s))
  behind {n = n} {f = f} r e = record {
    same = λ u v v'.
        ap f (drop-append-le (n (u ++ c ∷ v)) u (c ∷ v) (r.short u v))
        ∙ ap (λ (k : ℕ). f (drop k u ++ c ∷ v)) (r.stopped.same u v v')
        ∙ e.same (drop (n (u ++ c ∷ v')) u) v v'
        ∙ sym (ap f (drop-append-le (n (u ++ c ∷ v')) u (c ∷ v') (r.short u v')));
  }

  -- a length behind a length
  pub sum : {n m : List ℕ → ℕ} → Reach c n → Reach c m → Reach c (λ s. n s + m (drop (n s) s))
  sum {n} {m} r q = record {
    stopped = on₂ (λ (a b : ℕ). a + b) r.stopped (behind r q.stopped);
    short = λ u v. (let k : ℕ = n (u ++ c ∷ v) in
        let e : m (drop k (u ++ c ∷ v)) ≡ m (drop k u ++ c ∷ v) = ap m (drop-append-le k u (c ∷ v) (r.short u v)) in
        omega (arith, e, q.short (drop k u) v, length-drop k u, r.short u v));
  }

  -- ---- runs
  run_same : (p : ℕ → Bool) → p c ≡ false → (u v v' : List ℕ) → run p (u ++ c ∷ v) ≡ run p (u ++ c ∷ v')
  unfolding run
  run_same p e [] v v' = rw e
  run_same p e (x ∷ u) v v' = ap (λ (n : ℕ). cond (p x) (suc n) 0) (run_same p e u v v')

  run_short : (p : ℕ → Bool) → p c ≡ false → (u v : List ℕ) → run p (u ++ c ∷ v) ≤ length u
  unfolding run
  run_short p e [] v = rw e (omega arith)
  run_short p e (x ∷ u) v =
      let h = run_short p e u v in
      either (bool_cases (p x)) (λ a. rw a (omega arith)) (λ a. rw a (omega arith))

  pub run_reach : (p : ℕ → Bool) → p c ≡ false → Reach c (run p)
  run_reach p e = record { stopped = record { same = run_same p e }; short = run_short p e }

  run2_same : (p : ℕ → ℕ → Bool) → ((b : ℕ) → p c b ≡ false) → (u v v' : List ℕ) → run2 p (u ++ c ∷ v) ≡ run2 p (u ++ c ∷ v')
  unfolding run2
  run2_same p e [] v v' = rw (e (get_or v 0 0), e (get_or v' 0 0))
  run2_same p e (x ∷ u) v v' =
      ap₂ (λ (b n : ℕ). cond (p x b) (suc n) 0) (head_same c u v v') (run2_same p e u v v')

  run2_short : (p : ℕ → ℕ → Bool) → ((b : ℕ) → p c b ≡ false) → (u v : List ℕ) → run2 p (u ++ c ∷ v) ≤ length u
  unfolding run2
  run2_short p e [] v = rw (e (get_or v 0 0)) (omega arith)
  run2_short p e (x ∷ u) v =
      let h = run2_short p e u v in
      either (bool_cases (p x (get_or (u ++ c ∷ v) 0 0))) (λ a. rw a (omega arith)) (λ a. rw a (omega arith))

  pub run2_reach : (p : ℕ → ℕ → Bool) → ((b : ℕ) → p c b ≡ false) → Reach c (run2 p)
  run2_reach p e = record { stopped = record { same = run2_same p e }; short = run2_short p e }

-- a text that holds a byte is not empty, whatever stands behind it
pub empty_stopped : (c : ℕ) → Stopped c (λ s. eqb (length s) 0)
empty_stopped c = record { same = λ u v v'. some u v ∙ sym (some u v') }
  where
    some : (u v : List ℕ) → eqb (length (u ++ c ∷ v)) 0 ≡ false
    some u v = let l = length-append u (c ∷ v) in ne_eqb (length (u ++ c ∷ v)) 0 (λ e. omega arith)
