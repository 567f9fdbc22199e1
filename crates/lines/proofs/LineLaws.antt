-- What a line puts out and leaves, put together from what its calls do. Assumes nothing.
use Prim.Native.Nat.{ℕ, ◌-◌, ◌≤◌}
use native.Mathlib.Omega.{arith}
use mathlib.Core.List.{List, ◌++◌, append-nil}
use mathlib.Core.Path.{◌≡◌, sym, ap, ◌∙◌}
use lib.ListN.{length, take, drop, drop_of_length-le}
use lib.Seq.{take_all}
use borrow.Rule.Slice.PartMut.{put_mid}
use Rattle.lines.specs.Out.{put}

-- ---- a slice lent as far as there is room

module _ (said after : List ℕ → List ℕ) (room : ℕ) (s : List ℕ) (out end : List ℕ × ℕ) where
  -- its front
  pub lent_front : (last : List ℕ) → (end ≡ put out (said (take (room - 0) s))) × (last ≡ after (take (room - 0) s))
      → (end ≡ put out (said (take room s))) × (put_mid 0 (room - 0) s last ≡ after (take room s) ++ drop room s)
  lent_front last e =
      let all : room - 0 ≡ room = omega arith in (
        e.0 ∙ ap (λ (k : ℕ). put out (said (take k s))) all,
        ap (λ (l : List ℕ). l ++ drop (room - 0) s) e.1 ∙ ap (λ (k : ℕ). after (take k s) ++ drop k s) all,
      )

  -- all of it
  pub lent_whole : (left : List ℕ) → length s ≤ room → (end ≡ put out (said s)) × (left ≡ after s)
      → (end ≡ put out (said (take room s))) × (left ≡ after (take room s) ++ drop room s)
  lent_whole left h e =
      let all : take room s ≡ s = take_all room s h in (
        e.0 ∙ sym (ap (λ (l : List ℕ). put out (said l)) all),
        e.1 ∙ sym (ap after all) ∙ sym (append-nil (after (take room s))) ∙ sym (ap (λ (l : List ℕ). after (take room s) ++ l) (drop_of_length-le s h)),
      )

-- ---- a line whose answer and rooms are known

abbrev Two : Type 0
Two = List ℕ × List ℕ

abbrev Three : Type 0
Three = List ℕ × List ℕ × List ℕ

abbrev Four : Type 0
Four = List ℕ × List ℕ × List ℕ × List ℕ

module _ (out end : List ℕ × ℕ) (said : List ℕ) where
  pub line2 : (s a : List ℕ) (line : Two) → line ≡ (said, a) → end ≡ put out said → s ≡ a → (end ≡ put out line.0) × (s ≡ line.1)
  line2 s a line e p q = (p ∙ sym (ap (λ (x : Two). put out x.0) e), q ∙ sym (ap (λ (x : Two). x.1) e))

  pub line3 : (s t a b : List ℕ) (line : Three) → line ≡ (said, a, b) → end ≡ put out said → s ≡ a → t ≡ b
      → (end ≡ put out line.0) × (s ≡ line.1) × (t ≡ line.2)
  line3 s t a b line e p q r =
      (p ∙ sym (ap (λ (x : Three). put out x.0) e), q ∙ sym (ap (λ (x : Three). x.1) e), r ∙ sym (ap (λ (x : Three). x.2) e))

  pub line4 : (s t u a b d : List ℕ) (line : Four) → line ≡ (said, a, b, d) → end ≡ put out said → s ≡ a → t ≡ b → u ≡ d
      → (end ≡ put out line.0) × (s ≡ line.1) × (t ≡ line.2) × (u ≡ line.3)
  line4 s t u a b d line e p q r v = (
    p ∙ sym (ap (λ (x : Four). put out x.0) e),
    q ∙ sym (ap (λ (x : Four). x.1) e),
    r ∙ sym (ap (λ (x : Four). x.2) e),
    v ∙ sym (ap (λ (x : Four). x.3) e),
  )
