-- The first n entries of a document name no field again exactly where the walk over its entries finds none before entry n. Assumes nothing.
use Rattle.std.proofs.Common.{Some}
use Prim.Native.Nat.{ℕ, ◌+◌, ◌≤◌}
use mathlib.Core.Path.{◌≡◌, sym, ap, ◌∙◌}
use mathlib.Core.List.{List, [], ◌∷◌}
use Rattle.grammar.specs.declared.kinds.Kind.{Kind}
use Rattle.grammar.specs.Grammar.{Value, scalar, name, list, map, round, called, Round, tuple, struct, Items, none, one, more, Pairs, no_pair, one_pair, more_pairs, Fields, no_field, one_field, more_fields, Document}
use Rattle.grammar.specs.Links.{behind}
use Rattle.fields.specs.Apart.{Apart, ApartRound, ApartItems, ApartPairs, ApartFields, ApartIn}
use Rattle.fields.specs.Fields.{again_of}
use Rattle.fields.proofs.Judged.{Judged, end, judged, judged_round, judged_items, judged_pairs, judged_fields, from_value, first, AllNew, new_first, first_new}
use Rattle.fields.proofs.Trees.{again_written}

module _ (nm : ℕ → List ℕ) (n : ℕ) where
  -- a tree is apart, and what follows it new, exactly where all that is judged is new
  mutual
    apart_all : (v : Value) (i : ℕ) (k : Judged) → Apart nm n v i → AllNew nm n k → AllNew nm n (judged v i k)
    apart_all scalar i k a h = h
    apart_all name i k a h = h
    apart_all (list xs) i k a h = apart_items xs (i + 1) k a h
    apart_all (map ps) i k a h = apart_pairs ps (i + 1) k a h
    apart_all (round r) i k a h = apart_round r (i + 1) k a h
    apart_all (called r) i k a h = apart_round r (i + 1 + 1) k a h

    apart_round : (r : Round) (i : ℕ) (k : Judged) → ApartRound nm n r i → AllNew nm n k → AllNew nm n (judged_round r i k)
    apart_round (tuple xs) i k a h = apart_items xs i k a h
    apart_round (struct fs) i k a h = apart_fields fs i [] k a h

    apart_items : (xs : Items) (i : ℕ) (k : Judged) → ApartItems nm n xs i → AllNew nm n k → AllNew nm n (judged_items xs i k)
    apart_items none i k a h = h
    apart_items (one v) i k a h = apart_all v i k a h
    apart_items (more v xs) i k a h = apart_all v i (judged_items xs (behind v i + 1) k) a.0 (apart_items xs (behind v i + 1) k a.1 h)

    apart_pairs : (ps : Pairs) (i : ℕ) (k : Judged) → ApartPairs nm n ps i → AllNew nm n k → AllNew nm n (judged_pairs ps i k)
    apart_pairs no_pair i k a h = h
    apart_pairs (one_pair x y) i k a h = apart_all x i (judged y (behind x i + 1) k) a.0 (apart_all y (behind x i + 1) k a.1 h)
    apart_pairs (more_pairs x y ps) i k a h =
        let rest = judged_pairs ps (behind y (behind x i + 1) + 1) k in
        apart_all x i (judged y (behind x i + 1) rest) a.0
        (apart_all y (behind x i + 1) rest a.1 (apart_pairs ps (behind y (behind x i + 1) + 1) k a.2 h))

    apart_fields : (fs : Fields) (i : ℕ) (es : List ℕ) (k : Judged) → ApartFields nm n fs i es → AllNew nm n k → AllNew nm n (judged_fields fs i es k)
    apart_fields no_field i es k a h = h
    apart_fields (one_field v) i es k a h = (a.0, apart_all v (i + 1 + 1) k a.1 h)
    apart_fields (more_fields v fs) i es k a h = (
      a.0,
      apart_all v (i + 1 + 1) (judged_fields fs (behind v (i + 1 + 1) + 1) (i ∷ es) k) a.1
          (apart_fields fs (behind v (i + 1 + 1) + 1) (i ∷ es) k a.2 h),
    )

  mutual
    all_apart : (v : Value) (i : ℕ) (k : Judged) → AllNew nm n (judged v i k) → Apart nm n v i × AllNew nm n k
    all_apart scalar i k h = (tt, h)
    all_apart name i k h = (tt, h)
    all_apart (list xs) i k h = all_items xs (i + 1) k h
    all_apart (map ps) i k h = all_pairs ps (i + 1) k h
    all_apart (round r) i k h = all_round r (i + 1) k h
    all_apart (called r) i k h = all_round r (i + 1 + 1) k h

    all_round : (r : Round) (i : ℕ) (k : Judged) → AllNew nm n (judged_round r i k) → ApartRound nm n r i × AllNew nm n k
    all_round (tuple xs) i k h = all_items xs i k h
    all_round (struct fs) i k h = all_fields fs i [] k h

    all_items : (xs : Items) (i : ℕ) (k : Judged) → AllNew nm n (judged_items xs i k) → ApartItems nm n xs i × AllNew nm n k
    all_items none i k h = (tt, h)
    all_items (one v) i k h = all_apart v i k h
    all_items (more v xs) i k h =
        let a = all_apart v i (judged_items xs (behind v i + 1) k) h in
        let b = all_items xs (behind v i + 1) k a.1 in
        ((a.0, b.0), b.1)

    all_pairs : (ps : Pairs) (i : ℕ) (k : Judged) → AllNew nm n (judged_pairs ps i k) → ApartPairs nm n ps i × AllNew nm n k
    all_pairs no_pair i k h = (tt, h)
    all_pairs (one_pair x y) i k h =
        let a = all_apart x i (judged y (behind x i + 1) k) h in
        let b = all_apart y (behind x i + 1) k a.1 in
        ((a.0, b.0), b.1)
    all_pairs (more_pairs x y ps) i k h =
        let rest = judged_pairs ps (behind y (behind x i + 1) + 1) k in
        let a = all_apart x i (judged y (behind x i + 1) rest) h in
        let b = all_apart y (behind x i + 1) rest a.1 in
        let c = all_pairs ps (behind y (behind x i + 1) + 1) k b.1 in
        ((a.0, b.0, c.0), c.1)

    all_fields : (fs : Fields) (i : ℕ) (es : List ℕ) (k : Judged) → AllNew nm n (judged_fields fs i es k) → ApartFields nm n fs i es × AllNew nm n k
    all_fields no_field i es k h = (tt, h)
    all_fields (one_field v) i es k h = let a = all_apart v (i + 1 + 1) k h.1 in ((h.0, a.0), a.1)
    all_fields (more_fields v fs) i es k h =
        let a = all_apart v (i + 1 + 1) (judged_fields fs (behind v (i + 1 + 1) + 1) (i ∷ es) k) h.1 in
        let b = all_fields fs (behind v (i + 1 + 1) + 1) (i ∷ es) k a.1 in
        ((h.0, a.0, b.0), b.1)

  module _ {limit : ℕ} {ks : List Kind} (d : Document limit ks) where
    -- the walk finds the first of the document's fields that is named again
    finds : again_of nm ks ≡ first nm (judged d.tree d.attrs end)
    finds = ap (again_of nm) d.written ∙ again_written nm d.attrs d.tree

    pub apart_behind : ApartIn nm n d → (j : ℕ) → again_of nm ks ≡ Some j → n ≤ j
    apart_behind a j e = new_first nm n (judged d.tree d.attrs end) j (apart_all d.tree d.attrs end a tt) (sym finds ∙ e)

    pub behind_apart : ((j : ℕ) → again_of nm ks ≡ Some j → n ≤ j) → ApartIn nm n d
    behind_apart h =
        (all_apart d.tree d.attrs end
        (first_new nm n d.attrs (judged d.tree d.attrs end) (from_value d.tree d.attrs end tt) (λ j e. h j (finds ∙ e)))).0
