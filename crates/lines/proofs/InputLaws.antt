-- What a reading behind some bytes leaves. Assumes nothing.
use Prim.Native.Nat.{ℕ, ◌+◌, ◌-◌, ◌<◌, ◌≤◌}
use native.Mathlib.Omega.{arith}
use mathlib.Core.Bool.{true, false, ◌&&◌}
use mathlib.Core.List.{List}
use mathlib.Core.Path.{◌≡◌, refl, sym, ap, subst, ◌∙◌}
use lib.Dec.{T, eqb, leb, ltb}
use lib.ListN.{length, take, drop, length-take, length-drop}
use lib.Seq.{take_all}
use borrow.Author.Tests.{eq-eqb, ne_eqb, eqb-true, eqb-false, leb-true, ltb-true, ltb-false, le-leb}
use borrow.Rule.Slice.PartMut.{put_mid, take_put}
use Rattle.lines.specs.Input.{leaves_room, ReadBehind}
use Rattle.lines.specs.Over.{over}
use Rattle.lines.proofs.Laws.{over_front, over_length, over_self}
use Rattle.text.proofs.Choices.{and_true, bool_cases, either}

-- nothing was read where the end has not moved
eqb_behind : (n k : ℕ) → eqb k 0 ≡ eqb (n + k) n
eqb_behind n k =
    either (bool_cases (eqb k 0)) (λ t. t ∙ sym (eq-eqb (n + k) n (omega (arith, eqb-true k 0 t))))
    (λ f. f ∙ sym (ne_eqb (n + k) n (λ e. eqb-false k 0 f (omega arith))))

module _ (s last : List ℕ) (n got : ℕ) where
  pub read_behind : n < length s → got ≤ length s - n → length (put_mid n (length s - n) s last) ≡ length s
      → ReadBehind n s (put_mid n (length s - n) s last) (record { from = 0; to = n + got; ended = eqb got 0 })
  read_behind h g e = (refl, omega arith, omega (arith, e), eqb_behind n got, take_put n (length s - n) s last (omega arith))

-- ---- places that leave room

module _ (from to n : ℕ) where
  pub room_true : leaves_room from to n ≡ true → (from ≤ to) × (to ≤ n) × (to - from < n)
  unfolding leaves_room
  room_true t =
      let a = and_true (leb from to) (leb to n && ltb (to - from) n) t in
      let b = and_true (leb to n) (ltb (to - from) n) a.1 in
      (leb-true _ _ a.0, leb-true _ _ b.0, ltb-true _ _ b.1)

  room_given : from ≤ to → to ≤ n → ltb (to - from) n ≡ true → leaves_room from to n ≡ true
  unfolding leaves_room
  room_given a b t = rw (le-leb _ _ a, le-leb _ _ b, t)

  pub room_false : from ≤ to → to ≤ n → leaves_room from to n ≡ false → n ≤ to - from
  room_false a b f =
      either (bool_cases (ltb (to - from) n)) (λ t. absurd (subst T (sym (room_given a b t) ∙ f) tt)) (λ e. ltb-false _ _ e)

-- ---- the bytes moved to the front

module _ (s moved : List ℕ) (from to : ℕ) (e : moved ≡ over (take (to - from) (drop from s)) s) (h : from ≤ to) (k : to ≤ length s) where
  size : length (take (to - from) (drop from s)) ≡ to - from
  size = length-take (to - from) (drop from s) ∙ rw (length-drop from s) (omega arith)

  pub moved_length : length moved ≡ length s
  moved_length = ap length e ∙ over_length (take (to - from) (drop from s)) s

  pub moved_front : take (to - from) moved ≡ take (to - from) (drop from s)
  moved_front =
      ap (take (to - from)) e ∙ ap (λ (n : ℕ). take n (over (take (to - from) (drop from s)) s)) (sym size)
      ∙ over_front (take (to - from) (drop from s)) s (omega (arith, size))

  pub moved_whole : length s ≤ to - from → moved ≡ s
  moved_whole n =
      let zero : from ≡ 0 = omega arith in
      let all : take (to - from) (drop from s) ≡ s =
      ap (λ (a : ℕ). take (to - from) (drop a s)) zero ∙ take_all (to - from) s n in
      e ∙ ap (λ (t : List ℕ). over t s) all ∙ over_self s
