-- The links that the walk stores are the grammar's. Assumes nothing.
use Prim.Native.Nat.{ℕ, zero, suc, ◌+◌, ◌<◌, ◌≤◌}
use native.Mathlib.Omega.{arith}
use native.Mathlib.Numerals.{add-one}
use mathlib.Core.Path.{◌≡◌, refl, sym, ap, ◌∙◌}
use mathlib.Core.List.{List, [], ◌∷◌, ◌++◌}
use lib.ListN.{length, set, drop}
use lib.Seq.{set-set, set_comm, sets, sets-eq}
use Rattle.grammar.specs.Grammar.{Value, scalar, name, list, map, round, called, Round, tuple, struct, Items, none, one, more, Pairs, no_pair, one_pair, more_pairs, Fields, no_field, one_field, more_fields, value, inner, items, pairs, fields, attributes, Document}
use Rattle.grammar.specs.Links.{behind, behind_round, behind_items, behind_pairs, behind_fields, links, links_round, links_items, links_pairs, links_fields, selves, links_of}
use Rattle.grammar.specs.Walk.{link, linked_of}
use Rattle.grammar.specs.declared.kinds.Kind.{Kind}
use Rattle.grammar.specs.declared.kinds.Kind.TheVariants.{CloseRound, CloseSquare, CloseCurly, Comma, Colon}

-- vs stored from index i on
abbrev put : List ℕ → ℕ → List ℕ → List ℕ
put out i [] = out
put out i (a ∷ vs) = put (set out i a) (i + 1) vs

put_sets : (vs out : List ℕ) (i : ℕ) → put out i vs ≡ sets out i vs
put_sets [] out i = refl
put_sets (a ∷ vs) out i = put_sets vs (set out i a) (i + 1) ∙ ap (λ (n : ℕ). sets (set out i a) n vs) (add-one i)

-- a pair of brackets at i and e
abbrev wrap : ℕ → ℕ → List ℕ → List ℕ
wrap i e x = set (set x e i) i e

-- what the walk stores over a tree that begins at i
abbrev mutual
  eff : Value → ℕ → List ℕ → List ℕ
  eff scalar i out = set out i i
  eff name i out = set out i i
  eff (list xs) i out = wrap i (behind_items xs (i + 1)) (eff_items xs (i + 1) (set out i i))
  eff (map ps) i out = wrap i (behind_pairs ps (i + 1)) (eff_pairs ps (i + 1) (set out i i))
  eff (round r) i out = wrap i (behind_round r (i + 1)) (eff_round r (i + 1) (set out i i))
  eff (called r) i out = wrap (i + 1) (behind_round r (i + 1 + 1)) (eff_round r (i + 1 + 1) (set (set out i i) (i + 1) (i + 1)))

  eff_round : Round → ℕ → List ℕ → List ℕ
  eff_round (tuple xs) i out = eff_items xs i out
  eff_round (struct fs) i out = eff_fields fs i out

  eff_items : Items → ℕ → List ℕ → List ℕ
  eff_items none i out = out
  eff_items (one v) i out = eff v i out
  eff_items (more v xs) i out = eff_items xs (behind v i + 1) (set (eff v i out) (behind v i) (behind v i))

  eff_pairs : Pairs → ℕ → List ℕ → List ℕ
  eff_pairs no_pair i out = out
  eff_pairs (one_pair a b) i out = eff b (behind a i + 1) (set (eff a i out) (behind a i) (behind a i))
  eff_pairs (more_pairs a b ps) i out =
      eff_pairs ps (behind b (behind a i + 1) + 1)
      (set (eff b (behind a i + 1) (set (eff a i out) (behind a i) (behind a i))) (behind b (behind a i + 1)) (behind b (behind a i + 1)))

  eff_fields : Fields → ℕ → List ℕ → List ℕ
  eff_fields no_field i out = out
  eff_fields (one_field v) i out = eff v (i + 1 + 1) (set (set out i i) (i + 1) (i + 1))
  eff_fields (more_fields v fs) i out =
      eff_fields fs (behind v (i + 1 + 1) + 1) (set (eff v (i + 1 + 1) (set (set out i i) (i + 1) (i + 1))) (behind v (i + 1 + 1)) (behind v (i + 1 + 1)))

-- A: the walk over a tree's entries stores that
mutual
  unfolding link

  run : (v : Value) (k : List Kind) (σ : List ℕ) (i : ℕ) (out : List ℕ) → link (value v k) σ i out ≡ link k σ (behind v i) (eff v i out)
  run scalar k σ i out = refl
  run name k σ i out = refl
  run (list xs) k σ i out = run_items xs (CloseSquare ∷ k) (i ∷ σ) (i + 1) (set out i i)
  run (map ps) k σ i out = run_pairs ps (CloseCurly ∷ k) (i ∷ σ) (i + 1) (set out i i)
  run (round r) k σ i out = run_round r (CloseRound ∷ k) (i ∷ σ) (i + 1) (set out i i)
  run (called r) k σ i out = run_round r (CloseRound ∷ k) ((i + 1) ∷ σ) (i + 1 + 1) (set (set out i i) (i + 1) (i + 1))

  run_round : (r : Round) (k : List Kind) (σ : List ℕ) (i : ℕ) (out : List ℕ) → link (inner r k) σ i out ≡ link k σ (behind_round r i) (eff_round r i out)
  run_round (tuple xs) k σ i out = run_items xs k σ i out
  run_round (struct fs) k σ i out = run_fields fs k σ i out

  run_items : (xs : Items) (k : List Kind) (σ : List ℕ) (i : ℕ) (out : List ℕ) → link (items xs k) σ i out ≡ link k σ (behind_items xs i) (eff_items xs i out)
  run_items none k σ i out = refl
  run_items (one v) k σ i out = run v k σ i out
  run_items (more v xs) k σ i out = run v (Comma ∷ items xs k) σ i out ∙ run_items xs k σ (behind v i + 1) (set (eff v i out) (behind v i) (behind v i))

  run_pairs : (ps : Pairs) (k : List Kind) (σ : List ℕ) (i : ℕ) (out : List ℕ) → link (pairs ps k) σ i out ≡ link k σ (behind_pairs ps i) (eff_pairs ps i out)
  run_pairs no_pair k σ i out = refl
  run_pairs (one_pair a b) k σ i out = run a (Colon ∷ value b k) σ i out ∙ run b k σ (behind a i + 1) (set (eff a i out) (behind a i) (behind a i))
  run_pairs (more_pairs a b ps) k σ i out =
      run a (Colon ∷ value b (Comma ∷ pairs ps k)) σ i out
      ∙ run b (Comma ∷ pairs ps k) σ (behind a i + 1) (set (eff a i out) (behind a i) (behind a i))
      ∙ run_pairs ps k σ (behind b (behind a i + 1) + 1) (set (eff b (behind a i + 1) (set (eff a i out) (behind a i) (behind a i))) (behind b (behind a i + 1)) (behind b (behind a i + 1)))

  run_fields : (fs : Fields) (k : List Kind) (σ : List ℕ) (i : ℕ) (out : List ℕ) → link (fields fs k) σ i out ≡ link k σ (behind_fields fs i) (eff_fields fs i out)
  run_fields no_field k σ i out = refl
  run_fields (one_field v) k σ i out = run v k σ (i + 1 + 1) (set (set out i i) (i + 1) (i + 1))
  run_fields (more_fields v fs) k σ i out =
      run v (Comma ∷ fields fs k) σ (i + 1 + 1) (set (set out i i) (i + 1) (i + 1))
      ∙ run_fields fs k σ (behind v (i + 1 + 1) + 1) (set (eff v (i + 1 + 1) (set (set out i i) (i + 1) (i + 1))) (behind v (i + 1 + 1)) (behind v (i + 1 + 1)))

-- a tree ends behind its beginning
mutual
  pub grows : (v : Value) (i : ℕ) → i < behind v i
  grows scalar i = omega arith
  grows name i = omega arith
  grows (list xs) i = omega (arith, grows_items xs (i + 1))
  grows (map ps) i = omega (arith, grows_pairs ps (i + 1))
  grows (round r) i = omega (arith, grows_round r (i + 1))
  grows (called r) i = omega (arith, grows_round r (i + 1 + 1))

  pub grows_round : (r : Round) (i : ℕ) → i ≤ behind_round r i
  grows_round (tuple xs) i = grows_items xs i
  grows_round (struct fs) i = grows_fields fs i

  pub grows_items : (xs : Items) (i : ℕ) → i ≤ behind_items xs i
  grows_items none i = omega arith
  grows_items (one v) i = omega (arith, grows v i)
  grows_items (more v xs) i = omega (arith, grows v i, grows_items xs (behind v i + 1))

  pub grows_pairs : (ps : Pairs) (i : ℕ) → i ≤ behind_pairs ps i
  grows_pairs no_pair i = omega arith
  grows_pairs (one_pair a b) i = omega (arith, grows a i, grows b (behind a i + 1))
  grows_pairs (more_pairs a b ps) i = omega (arith, grows a i, grows b (behind a i + 1), grows_pairs ps (behind b (behind a i + 1) + 1))

  pub grows_fields : (fs : Fields) (i : ℕ) → i ≤ behind_fields fs i
  grows_fields no_field i = omega arith
  grows_fields (one_field v) i = omega (arith, grows v (i + 1 + 1))
  grows_fields (more_fields v fs) i = omega (arith, grows v (i + 1 + 1), grows_fields fs (behind v (i + 1 + 1) + 1))

-- C: a store before a tree's entries may come first
swap : (x : List ℕ) (i j a b : ℕ) → j < i → set (set x i a) j b ≡ set (set x j b) i a
swap x i j a b h = set_comm x i j a b (λ q. absurd (omega arith))

wrap_swap : (x : List ℕ) (i e j b : ℕ) → j < i → i < e → set (wrap i e x) j b ≡ wrap i e (set x j b)
wrap_swap x i e j b h g = swap (set x e i) i j e b h ∙ ap (λ (y : List ℕ). set y i e) (swap x e j i b (omega arith))

two : (out : List ℕ) (i j b : ℕ) → j < i → set (set (set out i i) (i + 1) (i + 1)) j b ≡ set (set (set out j b) i i) (i + 1) (i + 1)
two out i j b h = swap (set out i i) (i + 1) j (i + 1) b (omega arith) ∙ ap (λ (y : List ℕ). set y (i + 1) (i + 1)) (swap out i j i b h)

mutual
  over : (v : Value) (i : ℕ) (out : List ℕ) (j b : ℕ) → j < i → set (eff v i out) j b ≡ eff v i (set out j b)
  over scalar i out j b h = swap out i j i b h
  over name i out j b h = swap out i j i b h
  over (list xs) i out j b h =
      wrap_swap (eff_items xs (i + 1) (set out i i)) i (behind_items xs (i + 1)) j b h (omega (arith, grows_items xs (i + 1)))
      ∙ ap (wrap i (behind_items xs (i + 1))) (over_items xs (i + 1) (set out i i) j b (omega arith) ∙ ap (eff_items xs (i + 1)) (swap out i j i b h))
  over (map ps) i out j b h =
      wrap_swap (eff_pairs ps (i + 1) (set out i i)) i (behind_pairs ps (i + 1)) j b h (omega (arith, grows_pairs ps (i + 1)))
      ∙ ap (wrap i (behind_pairs ps (i + 1))) (over_pairs ps (i + 1) (set out i i) j b (omega arith) ∙ ap (eff_pairs ps (i + 1)) (swap out i j i b h))
  over (round r) i out j b h =
      wrap_swap (eff_round r (i + 1) (set out i i)) i (behind_round r (i + 1)) j b h (omega (arith, grows_round r (i + 1)))
      ∙ ap (wrap i (behind_round r (i + 1))) (over_round r (i + 1) (set out i i) j b (omega arith) ∙ ap (eff_round r (i + 1)) (swap out i j i b h))
  over (called r) i out j b h =
      wrap_swap (eff_round r (i + 1 + 1) (set (set out i i) (i + 1) (i + 1))) (i + 1) (behind_round r (i + 1 + 1)) j b (omega arith) (omega (arith, grows_round r (i + 1 + 1)))
      ∙ ap (wrap (i + 1) (behind_round r (i + 1 + 1)))
      (over_round r (i + 1 + 1) (set (set out i i) (i + 1) (i + 1)) j b (omega arith) ∙ ap (eff_round r (i + 1 + 1)) (two out i j b h))

  over_round : (r : Round) (i : ℕ) (out : List ℕ) (j b : ℕ) → j < i → set (eff_round r i out) j b ≡ eff_round r i (set out j b)
  over_round (tuple xs) i out j b h = over_items xs i out j b h
  over_round (struct fs) i out j b h = over_fields fs i out j b h

  over_items : (xs : Items) (i : ℕ) (out : List ℕ) (j b : ℕ) → j < i → set (eff_items xs i out) j b ≡ eff_items xs i (set out j b)
  over_items none i out j b h = refl
  over_items (one v) i out j b h = over v i out j b h
  over_items (more v xs) i out j b h =
      let p : ℕ = behind v i in
      let g : i < behind v i = grows v i in
      over_items xs (p + 1) (set (eff v i out) p p) j b (omega arith)
      ∙ ap (eff_items xs (p + 1)) (swap (eff v i out) p j p b (omega arith) ∙ ap (λ (y : List ℕ). set y p p) (over v i out j b h))

  over_pairs : (ps : Pairs) (i : ℕ) (out : List ℕ) (j b : ℕ) → j < i → set (eff_pairs ps i out) j b ≡ eff_pairs ps i (set out j b)
  over_pairs no_pair i out j b h = refl
  over_pairs (one_pair x y) i out j b h =
      let p : ℕ = behind x i in
      let g : i < behind x i = grows x i in
      over y (p + 1) (set (eff x i out) p p) j b (omega arith)
      ∙ ap (eff y (p + 1)) (swap (eff x i out) p j p b (omega arith) ∙ ap (λ (z : List ℕ). set z p p) (over x i out j b h))
  over_pairs (more_pairs x y ps) i out j b h =
      let p : ℕ = behind x i in
      let g : i < behind x i = grows x i in
      let q : ℕ = behind y (p + 1) in
      let g2 : p + 1 < behind y (p + 1) = grows y (p + 1) in
      over_pairs ps (q + 1) (set (eff y (p + 1) (set (eff x i out) p p)) q q) j b (omega arith)
      ∙ ap (eff_pairs ps (q + 1)) (swap (eff y (p + 1) (set (eff x i out) p p)) q j q b (omega arith)
      ∙ ap (λ (z : List ℕ). set z q q) (over y (p + 1) (set (eff x i out) p p) j b (omega arith)
      ∙ ap (eff y (p + 1)) (swap (eff x i out) p j p b (omega arith) ∙ ap (λ (z : List ℕ). set z p p) (over x i out j b h))))

  over_fields : (fs : Fields) (i : ℕ) (out : List ℕ) (j b : ℕ) → j < i → set (eff_fields fs i out) j b ≡ eff_fields fs i (set out j b)
  over_fields no_field i out j b h = refl
  over_fields (one_field v) i out j b h = over v (i + 1 + 1) (set (set out i i) (i + 1) (i + 1)) j b (omega arith) ∙ ap (eff v (i + 1 + 1)) (two out i j b h)
  over_fields (more_fields v fs) i out j b h =
      let p : ℕ = behind v (i + 1 + 1) in
      let g : i + 1 + 1 < behind v (i + 1 + 1) = grows v (i + 1 + 1) in
      over_fields fs (p + 1) (set (eff v (i + 1 + 1) (set (set out i i) (i + 1) (i + 1))) p p) j b (omega arith)
      ∙ ap (eff_fields fs (p + 1)) (swap (eff v (i + 1 + 1) (set (set out i i) (i + 1) (i + 1))) p j p b (omega arith)
      ∙ ap (λ (z : List ℕ). set z p p) (over v (i + 1 + 1) (set (set out i i) (i + 1) (i + 1)) j b (omega arith) ∙ ap (eff v (i + 1 + 1)) (two out i j b h)))

-- B: that is, the grammar's links stored in a row. For brackets: whatever is inside
module _ (i e : ℕ) (g : i < e) (F L : List ℕ → List ℕ) (c : (out : List ℕ) (j b : ℕ) → j < i + 1 → set (F out) j b ≡ F (set out j b))
    (ih : (out ws : List ℕ) → put (F out) e ws ≡ put out (i + 1) (L ws)) where
  bracket : (out ws : List ℕ) → put (wrap i e (F (set out i i))) (e + 1) ws ≡ put (set out i e) (i + 1) (L (i ∷ ws))
  bracket out ws =
      ap (λ (x : List ℕ). put x (e + 1) ws)
      (swap (F (set out i i)) e i i e g ∙ ap (λ (y : List ℕ). set y e i) (c (set out i i) i e (omega arith) ∙ ap F (set-set out i i e)))
      ∙ ih (set out i e) (i ∷ ws)

mutual
  stores : (v : Value) (i : ℕ) (out ws : List ℕ) → put (eff v i out) (behind v i) ws ≡ put out i (links v i ws)
  stores scalar i out ws = refl
  stores name i out ws = refl
  stores (list xs) i out ws =
      bracket i (behind_items xs (i + 1)) (omega (arith, grows_items xs (i + 1))) (eff_items xs (i + 1)) (links_items xs (i + 1))
      (λ o j b h. over_items xs (i + 1) o j b h) (λ o w. stores_items xs (i + 1) o w) out ws
  stores (map ps) i out ws =
      bracket i (behind_pairs ps (i + 1)) (omega (arith, grows_pairs ps (i + 1))) (eff_pairs ps (i + 1)) (links_pairs ps (i + 1))
      (λ o j b h. over_pairs ps (i + 1) o j b h) (λ o w. stores_pairs ps (i + 1) o w) out ws
  stores (round r) i out ws =
      bracket i (behind_round r (i + 1)) (omega (arith, grows_round r (i + 1))) (eff_round r (i + 1)) (links_round r (i + 1))
      (λ o j b h. over_round r (i + 1) o j b h) (λ o w. stores_round r (i + 1) o w) out ws
  stores (called r) i out ws =
      bracket (i + 1) (behind_round r (i + 1 + 1)) (omega (arith, grows_round r (i + 1 + 1))) (eff_round r (i + 1 + 1)) (links_round r (i + 1 + 1))
      (λ o j b h. over_round r (i + 1 + 1) o j b h) (λ o w. stores_round r (i + 1 + 1) o w) (set out i i) ws

  stores_round : (r : Round) (i : ℕ) (out ws : List ℕ) → put (eff_round r i out) (behind_round r i) ws ≡ put out i (links_round r i ws)
  stores_round (tuple xs) i out ws = stores_items xs i out ws
  stores_round (struct fs) i out ws = stores_fields fs i out ws

  stores_items : (xs : Items) (i : ℕ) (out ws : List ℕ) → put (eff_items xs i out) (behind_items xs i) ws ≡ put out i (links_items xs i ws)
  stores_items none i out ws = refl
  stores_items (one v) i out ws = stores v i out ws
  stores_items (more v xs) i out ws =
      stores_items xs (behind v i + 1) (set (eff v i out) (behind v i) (behind v i)) ws ∙ stores v i out (behind v i ∷ links_items xs (behind v i + 1) ws)

  stores_pairs : (ps : Pairs) (i : ℕ) (out ws : List ℕ) → put (eff_pairs ps i out) (behind_pairs ps i) ws ≡ put out i (links_pairs ps i ws)
  stores_pairs no_pair i out ws = refl
  stores_pairs (one_pair a b) i out ws =
      stores b (behind a i + 1) (set (eff a i out) (behind a i) (behind a i)) ws ∙ stores a i out (behind a i ∷ links b (behind a i + 1) ws)
  stores_pairs (more_pairs a b ps) i out ws =
      let p : ℕ = behind a i in
      let q : ℕ = behind b (p + 1) in
      stores_pairs ps (q + 1) (set (eff b (p + 1) (set (eff a i out) p p)) q q) ws
      ∙ stores b (p + 1) (set (eff a i out) p p) (q ∷ links_pairs ps (q + 1) ws)
      ∙ stores a i out (p ∷ links b (p + 1) (q ∷ links_pairs ps (q + 1) ws))

  stores_fields : (fs : Fields) (i : ℕ) (out ws : List ℕ) → put (eff_fields fs i out) (behind_fields fs i) ws ≡ put out i (links_fields fs i ws)
  stores_fields no_field i out ws = refl
  stores_fields (one_field v) i out ws = stores v (i + 1 + 1) (set (set out i i) (i + 1) (i + 1)) ws
  stores_fields (more_fields v fs) i out ws =
      let p : ℕ = behind v (i + 1 + 1) in
      stores_fields fs (p + 1) (set (eff v (i + 1 + 1) (set (set out i i) (i + 1) (i + 1))) p p) ws
      ∙ stores v (i + 1 + 1) (set (set out i i) (i + 1) (i + 1)) (p ∷ links_fields fs (p + 1) ws)

-- one link per entry
mutual
  sizes : (v : Value) (i : ℕ) (k : List Kind) (ws : List ℕ) → length ws ≡ length k → length (links v i ws) ≡ length (value v k)
  sizes scalar i k ws h = ap suc h
  sizes name i k ws h = ap suc h
  sizes (list xs) i k ws h = ap suc (sizes_items xs (i + 1) (CloseSquare ∷ k) (i ∷ ws) (ap suc h))
  sizes (map ps) i k ws h = ap suc (sizes_pairs ps (i + 1) (CloseCurly ∷ k) (i ∷ ws) (ap suc h))
  sizes (round r) i k ws h = ap suc (sizes_round r (i + 1) (CloseRound ∷ k) (i ∷ ws) (ap suc h))
  sizes (called r) i k ws h = ap suc (ap suc (sizes_round r (i + 1 + 1) (CloseRound ∷ k) ((i + 1) ∷ ws) (ap suc h)))

  sizes_round : (r : Round) (i : ℕ) (k : List Kind) (ws : List ℕ) → length ws ≡ length k → length (links_round r i ws) ≡ length (inner r k)
  sizes_round (tuple xs) i k ws h = sizes_items xs i k ws h
  sizes_round (struct fs) i k ws h = sizes_fields fs i k ws h

  sizes_items : (xs : Items) (i : ℕ) (k : List Kind) (ws : List ℕ) → length ws ≡ length k → length (links_items xs i ws) ≡ length (items xs k)
  sizes_items none i k ws h = h
  sizes_items (one v) i k ws h = sizes v i k ws h
  sizes_items (more v xs) i k ws h = sizes v i (Comma ∷ items xs k) (behind v i ∷ links_items xs (behind v i + 1) ws) (ap suc (sizes_items xs (behind v i + 1) k ws h))

  sizes_pairs : (ps : Pairs) (i : ℕ) (k : List Kind) (ws : List ℕ) → length ws ≡ length k → length (links_pairs ps i ws) ≡ length (pairs ps k)
  sizes_pairs no_pair i k ws h = h
  sizes_pairs (one_pair a b) i k ws h = sizes a i (Colon ∷ value b k) (behind a i ∷ links b (behind a i + 1) ws) (ap suc (sizes b (behind a i + 1) k ws h))
  sizes_pairs (more_pairs a b ps) i k ws h =
      let p : ℕ = behind a i in
      let q : ℕ = behind b (p + 1) in
      sizes a i (Colon ∷ value b (Comma ∷ pairs ps k)) (p ∷ links b (p + 1) (q ∷ links_pairs ps (q + 1) ws))
      (ap suc (sizes b (p + 1) (Comma ∷ pairs ps k) (q ∷ links_pairs ps (q + 1) ws) (ap suc (sizes_pairs ps (q + 1) k ws h))))

  sizes_fields : (fs : Fields) (i : ℕ) (k : List Kind) (ws : List ℕ) → length ws ≡ length k → length (links_fields fs i ws) ≡ length (fields fs k)
  sizes_fields no_field i k ws h = h
  sizes_fields (one_field v) i k ws h = ap suc (ap suc (sizes v (i + 1 + 1) k ws h))
  sizes_fields (more_fields v fs) i k ws h =
      let p : ℕ = behind v (i + 1 + 1) in
      ap suc (ap suc (sizes v (i + 1 + 1) (Comma ∷ fields fs k) (p ∷ links_fields fs (p + 1) ws) (ap suc (sizes_fields fs (p + 1) k ws h))))

selves_size : (n i : ℕ) (k : List Kind) (ws : List ℕ) → length ws ≡ length k → length (selves n i ws) ≡ length (attributes n k)
selves_size zero i k ws h = h
selves_size (suc n) i k ws h = ap suc (selves_size n (i + 1) k ws h)

whole_run : (n : ℕ) (v : Value) (i : ℕ) (out : List ℕ) → link (attributes n (value v [])) [] i out ≡ put out i (selves n i (links v (i + n) []))
unfolding link
whole_run zero v i out =
    let e : i ≡ i + 0 = omega arith in
    run v [] [] i out ∙ stores v i out [] ∙ ap (λ (j : ℕ). put out i (links v j [])) e
whole_run (suc n) v i out =
    let e : i + 1 + n ≡ i + suc n = omega arith in
    whole_run n v (i + 1) (set out i i) ∙ ap (λ (j : ℕ). put (set out i i) (i + 1) (selves n (i + 1) (links v j []))) e

pub links_size : {limit : ℕ} {ks : List Kind} (d : Document limit ks) → length (links_of d) ≡ length ks
links_size d = selves_size d.attrs 0 (value d.tree []) (links d.tree d.attrs []) (sizes d.tree d.attrs [] [] refl) ∙ ap length (sym d.written)

-- The walk over a document writes its links, and leaves what stands behind them
pub linked : {limit : ℕ} {ks : List Kind} (d : Document limit ks) (out : List ℕ) → length ks ≤ length out → linked_of ks out ≡ links_of d ++ drop (length ks) out
linked {ks = ks} d out h =
    let n : 0 + d.attrs ≡ d.attrs = omega arith in
    let m : 0 + length (links_of d) ≡ length ks = omega (arith, links_size d) in
    ap (λ (l : List Kind). link l [] 0 out) d.written
    ∙ whole_run d.attrs d.tree 0 out
    ∙ ap (λ (j : ℕ). put out 0 (selves d.attrs 0 (links d.tree j []))) n
    ∙ put_sets (links_of d) out 0
    ∙ sets-eq (links_of d) out 0 (omega arith)
    ∙ ap (λ (j : ℕ). links_of d ++ drop j out) m
