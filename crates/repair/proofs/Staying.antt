-- Rows that stay where they are, with nothing to add to their places. Assumes nothing.
use Prim.Native.Nat.{◌*◌, ◌+◌, ◌≤◌, suc, ℕ}
use native.Mathlib.Omega.{arith}
use mathlib.Core.List.{List, [], ◌∷◌, ◌++◌, map}
use mathlib.Core.Path.{◌∙◌, ◌≡◌, ap, ap₂, refl, sym}
use lib.ListN.{drop, length, length-drop, take, take-append-drop}
use lib.Seq.{take-add}
use Rattle.repair.proofs.Clearing.{flat_take}
use Rattle.repair.specs.inner.Steps.{Movable, clipped, clipped_from, laid_at, shifted}
use Rattle.rows.proofs.RowLaws.{length_entries}
use Rattle.rows.specs.Rows.{entries_of, width}
use Rattle.rows.specs.declared.Entry.{Entry}

unmoved : (b e : ℕ) (l : List Entry) → b ≡ e → Movable b e l → map (clipped_from b e) l ≡ l
unmoved b e [] h v = refl
unmoved b e (x ∷ l) h v =
    let w = v 0 (omega arith) in
    let s : clipped b e x.start ≡ x.start = omega (arith, w.some, w.inside) in
    let n : clipped b e x.end ≡ x.end = omega (arith, w.inside) in
    ap₂ {B = List Entry} {C = List Entry} (λ (y : Entry) (z : List Entry). y ∷ z)
    (ap₂ (λ (u v : ℕ). record { kind = x.kind; start = u; end = v; detail = x.detail; gap = x.gap }) s n)
    (unmoved b e l h (λ k i. v (suc k) (omega arith)))

-- rows laid where they stood
laid_same : (f m : ℕ) (t : List ℕ) → width * (f + m) ≤ length t → laid_at f (entries_of m (drop (width * f) t)) t ≡ t
unfolding laid_at
laid_same f m t h =
    let z : width * f + width * m ≡ width * (f + m) = omega arith in
    ap₂ (λ (u : List ℕ) (k : ℕ). take (width * f) t ++ u ++ drop (width * (f + k)) t) (flat_take m (drop (width * f) t) (omega (arith, length-drop (width * f) t))) (length_entries m (drop (width * f) t))
    ∙ ap (λ (u : List ℕ). u ++ drop (width * (f + m)) t) (sym (take-add (width * f) (width * m) t) ∙ ap (λ (k : ℕ). take k t) z)
    ∙ take-append-drop (width * (f + m)) t

pub stays : (b e m f : ℕ) (t : List ℕ) → b ≡ e → width * (f + m) ≤ length t → Movable b e (entries_of m (drop (width * f) t)) → t ≡ shifted b e m f f t
stays b e m f t h k v = sym (ap (λ (l : List Entry). laid_at f l t) (unmoved b e (entries_of m (drop (width * f) t)) h v) ∙ laid_same f m t k)
