-- How many bytes of a piece may be taken: places within the bytes, and the answer by its parts. Assumes nothing.
use Prim.Native.Nat.{ℕ, zero, suc, ◌+◌, ◌-◌, ◌<◌, ◌≤◌}
use native.Mathlib.Omega.{arith}
use mathlib.Core.Bool.{true, false}
use mathlib.Core.List.{List, [], ◌∷◌, ◌++◌}
use mathlib.Core.Path.{◌≡◌, sym, ap, ◌∙◌}
use lib.Dec.{leb}
use lib.ListN.{drop, length, take, length-append, length-drop, length-take}
use lib.Seq.{take-nil}
use borrow.Author.Tests.{le-leb, leb-true, lt-leb}
use Rattle.octets.proofs.Exactly.{Means, means}
use Rattle.octets.specs.Octets.{allowed_of}
use Rattle.octets.specs.declared.answer.Allowed.{Allowed}
use Rattle.octets.specs.declared.answer.Allowed.TheVariants.{All, Bad}
use Rattle.text.proofs.Choices.{cond_cases}
use Rattle.text.proofs.Lists.{tail_part}
use Rattle.text.specs.Refusals.{not_utf8, too_long}
use Rattle.text.specs.declared.refusal.Refusal.{Refusal}
use Rattle.pieces.specs.Come.{sooner}
use Rattle.pieces.specs.Orders.{most_taken}
use Rattle.pieces.specs.Pieces.{bad_at, bad_from, cut_off}
use Rattle.pieces.specs.inner.Limits.{barring, limit_end, limit_of}
use Rattle.pieces.specs.declared.limit.Most.{Most}

-- ---- the bytes between two places

-- what `&s[b..e]` is
pub part_between : (b e : ℕ) (s : List ℕ) → take (e - b) (drop b s) ≡ drop b (take e s)
part_between zero e s = let z : e - 0 ≡ e = omega arith in ap (λ (k : ℕ). take k s) z
part_between (suc b) e [] = take-nil (e - suc b) ∙ sym (ap (drop (suc b)) (take-nil e))
part_between (suc b) zero (x ∷ s) = let z : 0 - suc b ≡ 0 = omega arith in ap (λ (k : ℕ). take k (drop b s)) z
part_between (suc b) (suc e) (x ∷ s) = let z : suc e - suc b ≡ e - b = omega arith in ap (λ (k : ℕ). take k (drop b s)) z ∙ part_between b e s

-- ---- what may be taken lies within

abbrev Inside : List ℕ → Allowed → Type 0
Inside s (All m) = m ≤ length s
Inside s (Bad k from) = (k < length s) × (from ≤ k)

inside_by : (s : List ℕ) (a : Allowed) → Means s a → Inside s a
inside_by s (All m) w = omega (arith, w.many, ap length w.is ∙ length-append w.good w.part)
inside_by s (Bad n k) w =
    (omega (arith, w.stands, w.starts, ap length w.is ∙ length-append (w.good ++ w.part) (w.byte ∷ w.rest), length-append w.good w.part), omega (arith, w.stands))

inside : (s : List ℕ) → Inside s (allowed_of s)
inside s = inside_by s (allowed_of s) (means s)

bad_at_by : (s : List ℕ) (a : Allowed) → Inside s a → (part n : ℕ) → length s ≤ n + part → bad_at a part n ≤ n
bad_at_by s (All m) i part n h = omega arith
bad_at_by s (Bad k from) i part n h = omega arith

pub bad_at_most : (s : List ℕ) (part n : ℕ) → length s ≤ n + part → bad_at (allowed_of s) part n ≤ n
bad_at_most s part n h = bad_at_by s (allowed_of s) (inside s) part n h

bad_from_by : (s : List ℕ) (a : Allowed) → Inside s a → (part n : ℕ) → bad_from a ≤ bad_at a part n + part
bad_from_by s (All m) i part n = omega arith
bad_from_by s (Bad k from) i part n = omega arith

pub bad_from_most : (s : List ℕ) (part n : ℕ) → bad_from (allowed_of s) ≤ bad_at (allowed_of s) part n + part
bad_from_most s part n = bad_from_by s (allowed_of s) (inside s) part n

cut_off_by : (s : List ℕ) (a : Allowed) → Inside s a → cut_off a ≤ length s
cut_off_by s (All m) i = i
cut_off_by s (Bad k from) i = omega arith

pub cut_off_most : (s : List ℕ) → cut_off (allowed_of s) ≤ length s
cut_off_most s = cut_off_by s (allowed_of s) (inside s)

pub sooner_most : (a b : ℕ) → sooner a b ≤ b
unfolding sooner
sooner_most a b = cond_cases (λ (n : ℕ). n ≤ b) (leb a b) a b (λ e. leb-true a b e) (λ e. omega arith)

-- ---- the limit by its parts

module _ (s : List ℕ) (taken kept part : ℕ) (all : Allowed) (bad m : ℕ)
    (a : all ≡ allowed_of (take (length s - (kept - part)) (drop (kept - part) s)))
    (b : bad ≡ bad_at all part (length s - kept))
    (e : m ≡ sooner (most_taken - taken) bad) where
  all_is : all ≡ allowed_of (drop (kept - part) s)
  all_is = a ∙ ap allowed_of (tail_part s (kept - part))

  bad_is : bad ≡ bad_at (allowed_of (drop (kept - part) s)) part (length s - kept)
  bad_is = b ∙ ap (λ (x : Allowed). bad_at x part (length s - kept)) all_is

  end_is : kept + m ≡ limit_end s taken kept part
  unfolding limit_end
  end_is = ap (λ (x : ℕ). kept + x) (e ∙ ap (sooner (most_taken - taken)) bad_is)

  pub limit_inside : part ≤ kept → kept ≤ length s → kept + m ≤ length s
  limit_inside h k =
      omega (arith, e, sooner_most (most_taken - taken) bad, bad_is, bad_at_most (drop (kept - part) s) part (length s - kept) (omega (arith, length-drop (kept - part) s)))

  pub bad_begins : (from : ℕ) → from ≡ bad_from all → from ≤ bad + part
  bad_begins from f = omega (arith, f ∙ ap bad_from all_is, bad_is, bad_from_most (drop (kept - part) s) part (length s - kept))

  module _ (all2 : Allowed) (cut : ℕ)
      (a2 : all2 ≡ allowed_of (take (kept + m - (kept - part)) (drop (kept - part) s)))
      (k : cut ≡ cut_off all2) where
    pub cut_inside : cut ≤ kept + m
    cut_inside =
        let x : List ℕ = take (kept + m - (kept - part)) (drop (kept - part) s) in
        omega (arith, k ∙ ap cut_off a2, cut_off_most x, length-take (kept + m - (kept - part)) (drop (kept - part) s))

    cut_is : cut ≡ cut_off (allowed_of (drop (kept - part) (take (limit_end s taken kept part) s)))
    cut_is = k ∙ ap cut_off (a2 ∙ ap allowed_of (part_between (kept - part) (kept + m) s ∙ ap (λ (x : ℕ). drop (kept - part) (take x s)) end_is))

    made : (why : Refusal) → why ≡ barring s taken kept part → ◌≡◌ {A = Most} (record { end = kept + m; whole = kept + m - cut; why = why }) (limit_of s taken kept part)
    unfolding limit_of
    made why w = cc (end_is, cut_is)

    pub limit_long : (why : Refusal) → why ≡ too_long → most_taken - taken ≤ bad
        → ◌≡◌ {A = Most} (record { end = kept + m; whole = kept + m - cut; why = why }) (limit_of s taken kept part)
    limit_long why w h =
        let t : leb (most_taken - taken) (bad_at (allowed_of (drop (kept - part) s)) part (length s - kept)) ≡ true = ap (leb (most_taken - taken)) (sym bad_is) ∙ le-leb (most_taken - taken) bad h in
        made why (w ∙ sym (simp t))

    pub limit_bad : (why : Refusal) (from : ℕ) → from ≡ bad_from all → why ≡ not_utf8 (taken - part + from) → bad < most_taken - taken
        → ◌≡◌ {A = Most} (record { end = kept + m; whole = kept + m - cut; why = why }) (limit_of s taken kept part)
    limit_bad why from f w h =
        let t : leb (most_taken - taken) (bad_at (allowed_of (drop (kept - part) s)) part (length s - kept)) ≡ false = ap (leb (most_taken - taken)) (sym bad_is) ∙ lt-leb (most_taken - taken) bad h in
        made why (w ∙ ap (λ (x : ℕ). not_utf8 (taken - part + x)) (f ∙ ap bad_from all_is) ∙ sym (simp t))
