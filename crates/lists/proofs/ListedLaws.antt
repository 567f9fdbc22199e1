-- What is said of a list that is read into two marked buffers. Assumes nothing.
use Rattle.std.proofs.Common.{Ok, Err}
use Prim.Native.Nat.{ℕ, ◌-◌, ◌≤◌}
use native.Mathlib.Omega.{arith}
use mathlib.Core.Bool.{Bool, true, false, ◌&&◌}
use mathlib.Core.List.{List, ◌++◌}
use mathlib.Core.Path.{◌≡◌, sym, ap, ◌∙◌}
use lib.ListN.{length, take, drop}
use borrow.Rule.Slice.PartMut.{put_mid}
use Rattle.lent.specs.Marks.{mark_at, byte_mark_at, marked, kept_from}
use Rattle.lent.proofs.MarkLaws.{marked_length}
use Rattle.lines.specs.Out.{put}
use Rattle.lines.proofs.OutLaws.{then}
use Rattle.sarridok.specs.Integers.{done, integers_of, magnitudes_after, codes_after}
use Rattle.show.specs.Answers.{clean_text, refused_text}
use Rattle.show.specs.Many.{many_text}
use Rattle.text.specs.Refusals.{Told}
use Rattle.text.specs.declared.refusal.Refusal.{Refusal}
use Rattle.lists.specs.Listed.{buffers_left, both_kept, called_text, list_text, room_for, list_in}
use Rattle.lists.specs.declared.listed.Asked.{Asked}

abbrev Two : Type 0
Two = List ℕ × List ℕ

-- ---- both buffers

module _ (from : ℕ) (ms cs : List ℕ) where
  abbrev kept_by : Bool → Bool
  kept_by b = b && kept_from byte_mark_at (drop from cs) from

  pub kept_not : kept_from mark_at (drop from ms) from ≡ false → false ≡ both_kept from (ms, cs)
  unfolding both_kept
  kept_not e = sym (ap kept_by e)

  pub kept_if : (r : Bool) → kept_from mark_at (drop from ms) from ≡ true → r ≡ kept_from byte_mark_at (drop from cs) from → r ≡ both_kept from (ms, cs)
  unfolding both_kept
  kept_if r e f = f ∙ sym (ap kept_by e)

-- ---- the call, with both buffers marked

module _ (text tape : List ℕ) (count : ℕ) (items magnitudes codes ms cs : List ℕ) (m : ms ≡ marked mark_at (length magnitudes) 0 magnitudes)
    (k : cs ≡ marked byte_mark_at (length codes) 0 codes) where
  pub call_told : (a : Told Unit) → a ≡ done (integers_of text tape count items (length ms) (length cs))
      → a ≡ done (integers_of text tape count items (length magnitudes) (length codes))
  call_told a e =
      e ∙ ap (λ (n : ℕ). done (integers_of text tape count items n (length cs))) (ap length m ∙ marked_length mark_at (length magnitudes) 0 magnitudes)
      ∙ ap (λ (n : ℕ). done (integers_of text tape count items (length magnitudes) n)) (ap length k ∙ marked_length byte_mark_at (length codes) 0 codes)

  pub call_left : (am ac : List ℕ) → am ≡ magnitudes_after text tape count items ms cs → ac ≡ codes_after text tape count items ms cs
      → (am, ac) ≡ buffers_left text tape count items magnitudes codes
  unfolding buffers_left
  call_left am ac e f =
      let after : List ℕ → List ℕ → Two = λ x y. (magnitudes_after text tape count items x y, codes_after text tape count items x y) in
      let one : ◌≡◌ {A = Two} (am, ac) (magnitudes_after text tape count items ms cs, ac) = ap (λ (x : List ℕ). (x, ac)) e in
      let two : ◌≡◌ {A = Two} (magnitudes_after text tape count items ms cs, ac) (after ms cs) = ap (λ (x : List ℕ). (magnitudes_after text tape count items ms cs, x)) f in
      one ∙ two ∙ ap (λ (x : List ℕ). after x cs) m ∙ ap (λ (x : List ℕ). after (marked mark_at (length magnitudes) 0 magnitudes) x) k

-- ---- what it says

module _ (n : ℕ) (ms cs : List ℕ) (out mid end : List ℕ × ℕ) (clean : Bool) (z : end ≡ put mid (clean_text clean)) (a : Told Unit) where
  pub written_said : a ≡ Ok tt → (s t : List ℕ) → s ≡ take n ms → t ≡ take (n - 0) cs → mid ≡ put out (many_text s t)
      → clean ≡ both_kept n (ms, cs) → end ≡ put out (called_text a n (ms, cs))
  written_said g s t e f p k =
      let all : n - 0 ≡ n = omega arith in
      then out mid end (many_text s t) (clean_text clean) p z
      ∙ ap (λ (x : List ℕ). put out (many_text x t ++ clean_text clean)) e
      ∙ ap (λ (x : List ℕ). put out (many_text (take n ms) x ++ clean_text clean)) (f ∙ ap (λ (i : ℕ). take i cs) all)
      ∙ ap (λ (b : Bool). put out (many_text (take n ms) (take n cs) ++ clean_text b)) k
      ∙ sym (ap (λ (x : Told Unit). put out (called_text x n (ms, cs))) g)

  pub refused_said : (r : Refusal) → a ≡ Err r → mid ≡ put out (refused_text r) → clean ≡ both_kept 0 (ms, cs)
      → end ≡ put out (called_text a n (ms, cs))
  refused_said r g p k =
      then out mid end (refused_text r) (clean_text clean) p z ∙ ap (λ (b : Bool). put out (refused_text r ++ clean_text b)) k
      ∙ sym (ap (λ (x : Told Unit). put out (called_text x n (ms, cs))) g)

pub list_said : (text tape : List ℕ) (count : ℕ) (items magnitudes codes : List ℕ) (told : Told Unit) (left : Two) (out end : List ℕ × ℕ)
    → told ≡ done (integers_of text tape count items (length magnitudes) (length codes)) → left ≡ buffers_left text tape count items magnitudes codes
    → end ≡ put out (called_text told (length items) left) → end ≡ put out (list_text text tape count items magnitudes codes)
unfolding list_text
list_said text tape count items magnitudes codes told left out end t l e =
    e ∙ ap (λ (x : Told Unit). put out (called_text x (length items) left)) t
    ∙ ap (λ (x : Two). put out (called_text (done (integers_of text tape count items (length magnitudes) (length codes))) (length items) x)) l

-- ---- the buffers, lent from what there is

pub room_within : (room items there : ℕ) → room_for room items there ≤ there
unfolding room_for
room_within room items there = omega arith

module _ (text tape : List ℕ) (q : Asked) (items numbers spare : List ℕ) (m k : ℕ) (e : m ≡ room_for q.magnitudes (length items) (length numbers))
    (f : k ≡ room_for q.codes (length items) (length spare)) (out end : List ℕ × ℕ) (ms cs : List ℕ) where
  abbrev text_by : ℕ → ℕ → List ℕ
  text_by a b = list_text text tape q.count items (take a numbers) (take b spare)

  abbrev left_by : ℕ → ℕ → Two
  left_by a b = buffers_left text tape q.count items (take a numbers) (take b spare)

  abbrev all_by : Two → ℕ → ℕ → Two
  all_by left a b = (left.0 ++ drop a numbers, left.1 ++ drop b spare)

  pub lent_both : end ≡ put out (text_by (m - 0) (k - 0)) → (ms, cs) ≡ left_by (m - 0) (k - 0)
      → (end ≡ put out (list_in text tape q items numbers spare).0)
      × ((put_mid 0 (m - 0) numbers ms, put_mid 0 (k - 0) spare cs) ≡ (list_in text tape q items numbers spare).1)
  unfolding list_in
  lent_both p l =
      let a : m - 0 ≡ room_for q.magnitudes (length items) (length numbers) = omega (arith, e) in
      let b : k - 0 ≡ room_for q.codes (length items) (length spare) = omega (arith, f) in (
        p ∙ ap (λ (x : ℕ). put out (text_by x (k - 0))) a ∙ ap (λ (x : ℕ). put out (text_by (room_for q.magnitudes (length items) (length numbers)) x)) b,
        ap (λ (x : Two). all_by x (m - 0) (k - 0)) l ∙ ap (λ (x : ℕ). all_by (left_by x (k - 0)) x (k - 0)) a
            ∙ ap (λ (x : ℕ). all_by (left_by (room_for q.magnitudes (length items) (length numbers)) x) (room_for q.magnitudes (length items) (length numbers)) x) b,
      )
