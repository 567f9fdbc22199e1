-- A gap in the words of specs/Gap.antt is passed: what `gap_of` says of s is what it says of the rest t, seen from s. Assumes nothing.
use Prim.Native.Nat.{ℕ, ◌+◌}
use native.Mathlib.Nat.{zero-add}
use native.Mathlib.Numerals.{add-two}
use native.Mathlib.Omega.{arith}
use mathlib.Core.List.{List, ◌∷◌, ◌++◌}
use mathlib.Core.Path.{◌≡◌, ◌∙◌, ap, refl, subst, sym}
use lib.ListN.{drop, length, length-drop}
use lib.Seq.{drop-append_seam, drop-drop}
use Rattle.comments.proofs.GapLaws.{gap_moved, gap_behind, item_sized, on_blank, Sized}
use Rattle.comments.proofs.Nesting.{body_ends}
use Rattle.comments.specs.Gaps.{gap_from, gap_of, item_of}
use Rattle.comments.specs.declared.gap.Gap.{Gap as Answer}
use Rattle.comments.specs.declared.gap.Gap.TheVariants as answer
use Rattle.comments.specs.declared.gap.Item.TheVariants.{Blank}
use Rattle.gapped.proofs.Items.{item_block, item_line, item_space}
use Rattle.gapped.specs.Gap.{Gap}
use Rattle.gapped.specs.Gap.Gap.{none, space, line, block}
use Rattle.text.specs.Refusals.{at_place}
use Rattle.text.specs.Utf8.{encode}

-- ---- answers seen from further in front

behind_none : (g : Answer) → gap_behind 0 g ≡ g
behind_none (answer.Clear n) = ap answer.Clear (zero-add n)
behind_none (answer.InLine n) = ap answer.InLine (zero-add n)
behind_none (answer.Refused r) = ap (λ (n : ℕ). answer.Refused (at_place r n)) (zero-add r.place)

behind_both : (m n : ℕ) (g : Answer) → gap_behind m (gap_behind n g) ≡ gap_behind (m + n) g
behind_both m n (answer.Clear k) = ap answer.Clear (omega arith)
behind_both m n (answer.InLine k) = ap answer.InLine (omega arith)
behind_both m n (answer.Refused r) = ap (λ (k : ℕ). answer.Refused (at_place r k)) (omega arith)

-- ---- one item

-- s begins with n bytes of a gap, behind which stands t
pub record Passed (s t : List ℕ) : Type 0 where
  pub by : ℕ
  pub whole : by + length t ≡ length s
  pub rest : t ≡ drop by s
  pub same : gap_of s ≡ gap_behind by (gap_of t)

-- an item of n bytes
item : (s t : List ℕ) (n : ℕ) → item_of s ≡ Blank n → t ≡ drop n s → Passed s t
unfolding gap_of
item s t n e q =
    let z : Sized s (Blank n) = subst (Sized s) e (item_sized s) in
    let k : 0 + n ≡ n + 0 = omega arith in
    record {
      by = n;
      whole = omega (arith, ap length q, length-drop n s, z.1);
      rest = q;
      same = on_blank s 0 n e z.0 z.1 ∙ ap (gap_from (drop n s) 0) k ∙ gap_moved (drop n s) 0 n 0 ∙ ap (λ (u : List ℕ). gap_behind n (gap_from u 0 0)) (sym q);
    }

-- one item and then others
both : {s u t : List ℕ} → Passed s u → Passed u t → Passed s t
both {s} {u} {t} p q = record {
  by = p.by + q.by;
  whole = omega (arith, p.whole, q.whole);
  rest = q.rest ∙ ap (drop q.by) p.rest ∙ drop-drop q.by p.by s;
  same = p.same ∙ ap (gap_behind p.by) q.same ∙ behind_both p.by q.by (gap_of t);
}

nothing : (s : List ℕ) → Passed s s
nothing s = record { by = 0; whole = zero-add (length s); rest = refl; same = sym (behind_none (gap_of s)) }

-- behind the two bytes of a mark
marked : (a b n : ℕ) (s : List ℕ) → drop n s ≡ drop (n + 2) (a ∷ b ∷ s)
marked a b n s = rw (add-two n)

-- ---- a gap

pub gap_passed : {s t : List ℕ} → Gap s t → Passed s t
gap_passed (none {s}) = nothing s
gap_passed (space {c} {s} {t} sc e g) = both (item (encode c ++ s) s (length (encode c)) (item_space c s sc e) (sym (drop-append_seam (encode c) s))) (gap_passed g)
gap_passed (line {w} {s} {t} l g) =
    both (item (0x2f ∷ 0x2f ∷ (w ++ 0x0a ∷ s)) (0x0a ∷ s) (length w + 2) (item_line w s l) (sym (drop-append_seam w (0x0a ∷ s)) ∙ marked 0x2f 0x2f (length w) (w ++ 0x0a ∷ s))) (gap_passed g)
gap_passed (block {s} {u} {t} x g) =
    let p = body_ends x in
    both (item (0x2f ∷ 0x2a ∷ s) u (p.0 + 2) (item_block s p.0 p.2) (p.1 ∙ marked 0x2f 0x2a p.0 s)) (gap_passed g)
