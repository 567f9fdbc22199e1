-- The links of a document join its brackets. Assumes nothing.
use Prim.Native.Nat.{ℕ, zero, suc, ◌+◌, ◌-◌, ◌<◌, ◌≤◌}
use native.Mathlib.Omega.{arith}
use mathlib.Core.Path.{◌≡◌, refl, sym, ap, ◌∙◌, subst}
use mathlib.Core.List.{List, [], ◌∷◌}
use lib.ListN.{length, get_or}
use Rattle.text.proofs.Choices.{either, lt_or_le}
use Rattle.grammar.specs.declared.kinds.Kind.{Kind}
use Rattle.grammar.specs.declared.kinds.Kind.TheVariants.{CloseRound, CloseSquare, CloseCurly, Comma, Colon}
use Rattle.grammar.specs.declared.kinds.Side.TheVariants.{Neither}
use Rattle.grammar.specs.Kinds.{side_of}
use Rattle.grammar.specs.Grammar.{Value, scalar, name, list, map, round, called, Round, tuple, struct, Items, none, one, more, Pairs, no_pair, one_pair, more_pairs, Fields, no_field, one_field, more_fields, value, inner, items, pairs, fields, attributes, Document}
use Rattle.grammar.specs.Links.{behind, behind_round, behind_items, behind_pairs, behind_fields, links, links_round, links_items, links_pairs, links_fields, selves, links_of}
use Rattle.grammar.specs.Nested.{Partner, rounds, squares, curlies, kind_at, link_at, Joined, alone, opens, closes, Nested}
use Rattle.grammar.proofs.Stored.{links_size, grows_round, grows_items, grows_pairs}

-- an open bracket: its entry, its partner's, and the partner's kind
record Bracket : Type 0 where
  from : ℕ
  to : ℕ
  end : Kind

-- entries from i on with their links, inside brackets that are open
data Run : List Bracket → ℕ → List Kind → List ℕ → Type 0 where
  done : {i : ℕ} → Run [] i [] []
  itself : {σ : List Bracket} {i : ℕ} {k : Kind} {ks : List Kind} {ls : List ℕ} → side_of k ≡ Neither → Run σ (i + 1) ks ls → Run σ i (k ∷ ks) (i ∷ ls)
  open_to : {σ : List Bracket} {i : ℕ} {k : Kind} {ks : List Kind} {ls : List ℕ} (m : ℕ) (c : Kind) → Partner k c
      → Run (record { from = i; to = m; end = c } ∷ σ) (i + 1) ks ls → Run σ i (k ∷ ks) (m ∷ ls)
  close_to : {σ : List Bracket} {i : ℕ} {k : Kind} {ks : List Kind} {ls : List ℕ} (j : ℕ) → j < i
      → Run σ (i + 1) ks ls → Run (record { from = j; to = i; end = k } ∷ σ) i (k ∷ ks) (j ∷ ls)

-- ---- a tree's links are such a run

mutual
  tree_run : (v : Value) (σ : List Bracket) (i : ℕ) (k : List Kind) (ls : List ℕ) → Run σ (behind v i) k ls → Run σ i (value v k) (links v i ls)
  tree_run scalar σ i k ls h = itself refl h
  tree_run name σ i k ls h = itself refl h
  tree_run (list xs) σ i k ls h =
      open_to (behind_items xs (i + 1)) CloseSquare squares
      (items_run xs (record { from = i; to = behind_items xs (i + 1); end = CloseSquare } ∷ σ) (i + 1) (CloseSquare ∷ k) (i ∷ ls) (close_to {i = behind_items xs (i + 1)} i (omega (arith, grows_items xs (i + 1))) h))
  tree_run (map ps) σ i k ls h =
      open_to (behind_pairs ps (i + 1)) CloseCurly curlies
      (pairs_run ps (record { from = i; to = behind_pairs ps (i + 1); end = CloseCurly } ∷ σ) (i + 1) (CloseCurly ∷ k) (i ∷ ls) (close_to {i = behind_pairs ps (i + 1)} i (omega (arith, grows_pairs ps (i + 1))) h))
  tree_run (round r) σ i k ls h =
      open_to (behind_round r (i + 1)) CloseRound rounds
      (round_run r (record { from = i; to = behind_round r (i + 1); end = CloseRound } ∷ σ) (i + 1) (CloseRound ∷ k) (i ∷ ls) (close_to {i = behind_round r (i + 1)} i (omega (arith, grows_round r (i + 1))) h))
  tree_run (called r) σ i k ls h =
      itself refl
      (open_to (behind_round r (i + 1 + 1)) CloseRound rounds
      (round_run r (record { from = i + 1; to = behind_round r (i + 1 + 1); end = CloseRound } ∷ σ) (i + 1 + 1) (CloseRound ∷ k) ((i + 1) ∷ ls) (close_to {i = behind_round r (i + 1 + 1)} (i + 1) (omega (arith, grows_round r (i + 1 + 1))) h)))

  round_run : (r : Round) (σ : List Bracket) (i : ℕ) (k : List Kind) (ls : List ℕ) → Run σ (behind_round r i) k ls → Run σ i (inner r k) (links_round r i ls)
  round_run (tuple xs) σ i k ls h = items_run xs σ i k ls h
  round_run (struct fs) σ i k ls h = fields_run fs σ i k ls h

  items_run : (xs : Items) (σ : List Bracket) (i : ℕ) (k : List Kind) (ls : List ℕ) → Run σ (behind_items xs i) k ls → Run σ i (items xs k) (links_items xs i ls)
  items_run none σ i k ls h = h
  items_run (one v) σ i k ls h = tree_run v σ i k ls h
  items_run (more v xs) σ i k ls h =
      tree_run v σ i (Comma ∷ items xs k) (behind v i ∷ links_items xs (behind v i + 1) ls) (itself refl (items_run xs σ (behind v i + 1) k ls h))

  pairs_run : (ps : Pairs) (σ : List Bracket) (i : ℕ) (k : List Kind) (ls : List ℕ) → Run σ (behind_pairs ps i) k ls → Run σ i (pairs ps k) (links_pairs ps i ls)
  pairs_run no_pair σ i k ls h = h
  pairs_run (one_pair a b) σ i k ls h =
      tree_run a σ i (Colon ∷ value b k) (behind a i ∷ links b (behind a i + 1) ls) (itself refl (tree_run b σ (behind a i + 1) k ls h))
  pairs_run (more_pairs a b ps) σ i k ls h =
      let p : ℕ = behind a i in
      let q : ℕ = behind b (p + 1) in
      tree_run a σ i (Colon ∷ value b (Comma ∷ pairs ps k)) (p ∷ links b (p + 1) (q ∷ links_pairs ps (q + 1) ls))
      (itself refl (tree_run b σ (p + 1) (Comma ∷ pairs ps k) (q ∷ links_pairs ps (q + 1) ls) (itself refl (pairs_run ps σ (q + 1) k ls h))))

  fields_run : (fs : Fields) (σ : List Bracket) (i : ℕ) (k : List Kind) (ls : List ℕ) → Run σ (behind_fields fs i) k ls → Run σ i (fields fs k) (links_fields fs i ls)
  fields_run no_field σ i k ls h = h
  fields_run (one_field v) σ i k ls h = itself refl (itself refl (tree_run v σ (i + 1 + 1) k ls h))
  fields_run (more_fields v fs) σ i k ls h =
      let p : ℕ = behind v (i + 1 + 1) in
      itself refl (itself refl (tree_run v σ (i + 1 + 1) (Comma ∷ fields fs k) (p ∷ links_fields fs (p + 1) ls) (itself refl (fields_run fs σ (p + 1) k ls h))))

attributes_run : (n i : ℕ) (k : List Kind) (ls : List ℕ) → Run [] (i + n) k ls → Run [] i (attributes n k) (selves n i ls)
attributes_run zero i k ls h = let e : i + 0 ≡ i = omega arith in subst (λ (j : ℕ). Run [] j k ls) e h
attributes_run (suc n) i k ls h = let e : i + suc n ≡ i + 1 + n = omega arith in itself refl (attributes_run n (i + 1) k ls (subst (λ (j : ℕ). Run [] j k ls) e h))

document_run : {limit : ℕ} {ks : List Kind} (d : Document limit ks) → Run [] 0 (attributes d.attrs (value d.tree [])) (links_of d)
document_run d =
    let e : d.attrs ≡ 0 + d.attrs = omega arith in
    attributes_run d.attrs 0 (value d.tree []) (links d.tree d.attrs [])
    (subst (λ (j : ℕ). Run [] j (value d.tree []) (links d.tree d.attrs [])) e (tree_run d.tree [] d.attrs [] [] done))

-- ---- what such a run says

-- entry p of a run that begins at i: its kind and its link
abbrev kind_from : List Kind → ℕ → ℕ → Kind
kind_from ks i p = get_or ks (p - i) Comma

abbrev link_from : List ℕ → ℕ → ℕ → ℕ
link_from ls i p = get_or ls (p - i) 0

next : (i p : ℕ) → i + 1 ≤ p → p - i ≡ suc (p - (i + 1))
next i p h = omega arith

here : (i : ℕ) → i - i ≡ 0
here i = omega arith

kind_next : (k : Kind) (ks : List Kind) (i p : ℕ) → i + 1 ≤ p → kind_from (k ∷ ks) i p ≡ kind_from ks (i + 1) p
kind_next k ks i p h = ap (λ (n : ℕ). get_or (k ∷ ks) n Comma) (next i p h)

link_next : (l : ℕ) (ls : List ℕ) (i p : ℕ) → i + 1 ≤ p → link_from (l ∷ ls) i p ≡ link_from ls (i + 1) p
link_next l ls i p h = ap (λ (n : ℕ). get_or (l ∷ ls) n 0) (next i p h)

kind_here : (k : Kind) (ks : List Kind) (i : ℕ) → kind_from (k ∷ ks) i i ≡ k
kind_here k ks i = ap (λ (n : ℕ). get_or (k ∷ ks) n Comma) (here i)

link_here : (l : ℕ) (ls : List ℕ) (i : ℕ) → link_from (l ∷ ls) i i ≡ l
link_here l ls i = ap (λ (n : ℕ). get_or (l ∷ ls) n 0) (here i)

-- a bracket is among the open ones
data In (b : Bracket) : List Bracket → Type 0 where
  innermost : {σ : List Bracket} → In b (b ∷ σ)
  further : {a : Bracket} {σ : List Bracket} → In b σ → In b (a ∷ σ)

-- an open bracket is closed later on
record Held (b : Bracket) (i : ℕ) (ks : List Kind) (ls : List ℕ) : Type 0 where
  low : i ≤ b.to
  high : b.to < i + length ks
  back : link_from ls i b.to ≡ b.from
  kind : kind_from ks i b.to ≡ b.end

held_next : {b : Bracket} {i : ℕ} {k : Kind} {ks : List Kind} {l : ℕ} {ls : List ℕ} → Held b (i + 1) ks ls → Held b i (k ∷ ks) (l ∷ ls)
held_next {b = b} {i = i} {k = k} {ks = ks} {l = l} {ls = ls} h =
    record {
      low = omega (arith, h.low);
      high = omega (arith, h.high);
      back = link_next l ls i b.to h.low ∙ h.back;
      kind = kind_next k ks i b.to h.low ∙ h.kind;
    }

held : {σ : List Bracket} {i : ℕ} {ks : List Kind} {ls : List ℕ} → Run σ i ks ls → (b : Bracket) → In b σ → Held b i ks ls
held (done {i = i}) b m = elim m [ ]
held (itself e r) b m = held_next (held r b m)
held (open_to q c e r) b m = held_next (held r b (further m))
held {i = i} (close_to {k = k} {ks = ks} {ls = ls} j lt r) b innermost = record { low = omega arith; high = omega arith; back = link_here j ls i; kind = kind_here k ks i }
held (close_to j lt r) b (further m) = held_next (held r b m)

-- an inner bracket is closed before an outer one
abbrev Sorted : List Bracket → Type 0
Sorted [] = Unit {0}
Sorted (a ∷ σ) = ((b : Bracket) → In b σ → a.to < b.to) × Sorted σ

sorted : {σ : List Bracket} {i : ℕ} {ks : List Kind} {ls : List ℕ} → Run σ i ks ls → Sorted σ
sorted done = tt
sorted (itself e r) = sorted r
sorted (open_to q c e r) = (sorted r).1
sorted (close_to j lt r) = ((λ b m. omega (arith, (held r b m).low)), sorted r)

-- what entry p links to, inside brackets that are open
data Linked (σ : List Bracket) (i : ℕ) (ks : List Kind) (ls : List ℕ) (p : ℕ) : Type 0 where
  lone : side_of (kind_from ks i p) ≡ Neither → link_from ls i p ≡ p → Linked σ i ks ls p
  opening : (q : ℕ) → link_from ls i p ≡ q → p < q → q < i + length ks → Partner (kind_from ks i p) (kind_from ks i q) → link_from ls i q ≡ p → Linked σ i ks ls p
  closing : (q : ℕ) → link_from ls i p ≡ q → i ≤ q → q < p → Partner (kind_from ks i q) (kind_from ks i p) → link_from ls i q ≡ p → Linked σ i ks ls p
  outer : (b : Bracket) → In b σ → b.to ≡ p → b.from ≡ link_from ls i p → b.end ≡ kind_from ks i p → Linked σ i ks ls p

partners : {a b c d : Kind} → a ≡ c → b ≡ d → Partner c d → Partner a b
partners {b = b} {c = c} e f h = subst (λ (x : Kind). Partner x b) (sym e) (subst (λ (x : Kind). Partner c x) (sym f) h)

module _ {σ τ : List Bracket} {i : ℕ} {k : Kind} {ks : List Kind} {l : ℕ} {ls : List ℕ} (p : ℕ) (h : i + 1 ≤ p)
    (on : (b : Bracket) → In b σ → b.to ≡ p → b.from ≡ link_from ls (i + 1) p → b.end ≡ kind_from ks (i + 1) p → Linked τ i (k ∷ ks) (l ∷ ls) p) where
  linked_next : Linked σ (i + 1) ks ls p → Linked τ i (k ∷ ks) (l ∷ ls) p
  linked_next (lone e f) = lone (ap side_of (kind_next k ks i p h) ∙ e) (link_next l ls i p h ∙ f)
  linked_next (opening q e lt hi c f) =
      opening q (link_next l ls i p h ∙ e) lt (omega arith) (partners (kind_next k ks i p h) (kind_next k ks i q (omega arith)) c) (link_next l ls i q (omega arith) ∙ f)
  linked_next (closing q e lo lt c f) =
      closing q (link_next l ls i p h ∙ e) (omega arith) lt (partners (kind_next k ks i q lo) (kind_next k ks i p h) c) (link_next l ls i q lo ∙ f)
  linked_next (outer b m x y z) = on b m x y z

-- the first entry, or one behind it
first_or : (X : ℕ → Type 0) (i p : ℕ) → i ≤ p → X i → (i + 1 ≤ p → X p) → X p
first_or X i p h f g = either (lt_or_le i p) (λ lt. g (omega arith)) (λ le. let e : i ≡ p = omega arith in subst X e f)

linked_at : {σ : List Bracket} {i : ℕ} {ks : List Kind} {ls : List ℕ} → Run σ i ks ls → (p : ℕ) → i ≤ p → p < i + length ks → Linked σ i ks ls p
linked_at {i = i} done p lo hi = let n : length {A = Kind} [] ≡ 0 = refl in absurd (omega arith)
linked_at {σ = σ} {i = i} (itself {k = k} {ks = ks} {ls = ls} e r) p lo hi =
    first_or (λ n. Linked σ i (k ∷ ks) (i ∷ ls) n) i p lo (lone (ap side_of (kind_here k ks i) ∙ e) (link_here i ls i))
    λ h. linked_next p h (λ b m x y z. outer b m x (y ∙ sym (link_next i ls i p h)) (z ∙ sym (kind_next k ks i p h))) (linked_at r p h (omega arith))
linked_at {σ = σ} {i = i} (open_to {k = k} {ks = ks} {ls = ls} m c e r) p lo hi =
    first_or (λ n. Linked σ i (k ∷ ks) (m ∷ ls) n) i p lo
    (opening m (link_here m ls i) (omega (arith, w.low)) (omega (arith, w.high)) (partners (kind_here k ks i) (kind_next k ks i m w.low ∙ w.kind) e) (link_next m ls i m w.low ∙ w.back))
    λ h. linked_next p h (λ b n x y z. inside h b n x y z) (linked_at r p h (omega arith))
  where
    w : Held (record { from = i; to = m; end = c }) (i + 1) ks ls
    w = held r (record { from = i; to = m; end = c }) innermost

    inside : i + 1 ≤ p → (b : Bracket) → In b (record { from = i; to = m; end = c } ∷ σ) → b.to ≡ p → b.from ≡ link_from ls (i + 1) p → b.end ≡ kind_from ks (i + 1) p
        → Linked σ i (k ∷ ks) (m ∷ ls) p
    inside h b innermost x y z =
        closing i (link_next m ls i p h ∙ sym y) (omega arith) (omega arith) (partners (kind_here k ks i) (kind_next k ks i p h ∙ sym z) e) (link_here m ls i ∙ x)
    inside h b (further n) x y z = outer b n x (y ∙ sym (link_next m ls i p h)) (z ∙ sym (kind_next k ks i p h))
linked_at {i = i} (close_to {σ = σ} {k = k} {ks = ks} {ls = ls} j lt r) p lo hi =
    first_or (λ n. Linked (record { from = j; to = i; end = k } ∷ σ) i (k ∷ ks) (j ∷ ls) n) i p lo
    (outer (record { from = j; to = i; end = k }) innermost refl (sym (link_here j ls i)) (sym (kind_here k ks i)))
    λ h. linked_next p h (λ b m x y z. outer b (further m) x (y ∙ sym (link_next j ls i p h)) (z ∙ sym (kind_next k ks i p h))) (linked_at r p h (omega arith))

-- a bracket opened inside another is closed inside it
inside_closes : {σ : List Bracket} {i : ℕ} {ks : List Kind} {ls : List ℕ} → Run σ i ks ls → (p q : ℕ) → i ≤ p → p < i + length ks → link_from ls i p ≡ q → p < q
    → (b : Bracket) → In b σ → p < b.to → q < b.to
inside_closes {i = i} done p q lo hi e lt b m u = let n : length {A = Kind} [] ≡ 0 = refl in absurd (omega arith)
inside_closes {i = i} (itself {ls = ls} f r) p q lo hi e lt b m u =
    either (lt_or_le i p)
    (λ h. inside_closes r p q (omega arith) (omega arith) (sym (link_next i ls i p (omega arith)) ∙ e) lt b m u)
    (λ le. let z : p ≡ i = omega arith in let w = sym (link_here i ls i) ∙ ap (λ (n : ℕ). link_from (i ∷ ls) i n) (sym z) ∙ e in absurd (omega arith))
inside_closes {i = i} (open_to {ls = ls} o c f r) p q lo hi e lt b m u =
    either (lt_or_le i p)
    (λ h. inside_closes r p q (omega arith) (omega arith) (sym (link_next o ls i p (omega arith)) ∙ e) lt b (further m) u)
    (λ le. let z : p ≡ i = omega arith in let w : o ≡ q = sym (link_here o ls i) ∙ ap (λ (n : ℕ). link_from (o ∷ ls) i n) (sym z) ∙ e in omega (arith, (sorted r).0 b m))
inside_closes {i = i} (close_to {ls = ls} j g r) p q lo hi e lt b innermost u = absurd (omega arith)
inside_closes {i = i} (close_to {ls = ls} j g r) p q lo hi e lt b (further m) u =
    either (lt_or_le i p)
    (λ h. inside_closes r p q (omega arith) (omega arith) (sym (link_next j ls i p (omega arith)) ∙ e) lt b m u)
    (λ le. let z : p ≡ i = omega arith in let w : j ≡ q = sym (link_here j ls i) ∙ ap (λ (n : ℕ). link_from (j ∷ ls) i n) (sym z) ∙ e in absurd (omega arith))

-- what stands between a bracket and its partner is joined between them
between : {σ : List Bracket} {i : ℕ} {ks : List Kind} {ls : List ℕ} → Run σ i ks ls → (p q r s : ℕ) → i ≤ p → p < i + length ks → link_from ls i p ≡ q → p < r → r < q → link_from ls i r ≡ s
    → (p < s) × (s < q)
between {i = i} done p q r s lo hi e a b f = let n : length {A = Kind} [] ≡ 0 = refl in absurd (omega arith)
between {i = i} (itself {ls = ls} g run) p q r s lo hi e a b f =
    either (lt_or_le i p)
    (λ h. between run p q r s (omega arith) (omega arith) (sym (link_next i ls i p (omega arith)) ∙ e) a b (sym (link_next i ls i r (omega arith)) ∙ f))
    (λ le. let z : p ≡ i = omega arith in let w : i ≡ q = sym (link_here i ls i) ∙ ap (λ (n : ℕ). link_from (i ∷ ls) i n) (sym z) ∙ e in absurd (omega arith))
between {σ = σ} {i = i} (open_to {ks = ks} {ls = ls} o c g run) p q r s lo hi e a b f =
    either (lt_or_le i p)
    (λ h. between run p q r s (omega arith) (omega arith) (sym (link_next o ls i p (omega arith)) ∙ e) a b (sym (link_next o ls i r (omega arith)) ∙ f))
    (λ le.
    let z : p ≡ i = omega arith in
    let w : o ≡ q = sym (link_here o ls i) ∙ ap (λ (n : ℕ). link_from (o ∷ ls) i n) (sym z) ∙ e in
    let y : link_from ls (i + 1) r ≡ s = sym (link_next o ls i r (omega arith)) ∙ f in
    let t = held run (record { from = i; to = o; end = c }) innermost in
    by z w y (linked_at run r (omega arith) (omega (arith, t.high))))
  where
    by : p ≡ i → o ≡ q → link_from ls (i + 1) r ≡ s → Linked (record { from = i; to = o; end = c } ∷ σ) (i + 1) ks ls r → (p < s) × (s < q)
    by z w y (lone u v) = (omega arith, omega arith)
    by z w y (opening m u v x d k) =
        (omega arith, let n = inside_closes run r m (omega arith) (omega arith) u v (record { from = i; to = o; end = c }) innermost (omega arith) in omega arith)
    by z w y (closing m u v x d k) = (omega arith, omega arith)
    by z w y (outer d innermost u v x) = absurd (omega arith)
    by z w y (outer d (further m) u v x) = let n = (sorted run).0 d m in absurd (omega arith)
between {i = i} (close_to {ls = ls} j g run) p q r s lo hi e a b f =
    either (lt_or_le i p)
    (λ h. between run p q r s (omega arith) (omega arith) (sym (link_next j ls i p (omega arith)) ∙ e) a b (sym (link_next j ls i r (omega arith)) ∙ f))
    (λ le. let z : p ≡ i = omega arith in let w : j ≡ q = sym (link_here j ls i) ∙ ap (λ (n : ℕ). link_from (j ∷ ls) i n) (sym z) ∙ e in absurd (omega arith))

-- ---- the links of a document

module _ (ks : List Kind) (ls : List ℕ) (run : Run [] 0 ks ls) where
  at_link : (p : ℕ) → link_from ls 0 p ≡ link_at ks ls p
  at_link p = let e : p - 0 ≡ p = omega arith in ap (λ (n : ℕ). get_or ls n 0) e

  at_kind : (p : ℕ) → kind_from ks 0 p ≡ kind_at ks ls p
  at_kind p = let e : p - 0 ≡ p = omega arith in ap (λ (n : ℕ). get_or ks n Comma) e

  run_joined : (p : ℕ) → Linked [] 0 ks ls p → Joined ks ls p
  run_joined p (lone e f) = alone (ap side_of (sym (at_kind p)) ∙ e) (sym (at_link p) ∙ f)
  run_joined p (opening q e lt hi c f) =
      let z : q ≡ link_at ks ls p = sym e ∙ at_link p in
      opens (omega arith) (omega arith) (partners (sym (at_kind p)) (ap (kind_at ks ls) (sym z) ∙ sym (at_kind q)) c) (ap (link_at ks ls) (sym z) ∙ sym (at_link q) ∙ f)
  run_joined p (closing q e lo lt c f) =
      let z : q ≡ link_at ks ls p = sym e ∙ at_link p in
      closes (omega arith) (partners (ap (kind_at ks ls) (sym z) ∙ sym (at_kind q)) (sym (at_kind p)) c) (ap (link_at ks ls) (sym z) ∙ sym (at_link q) ∙ f)
  run_joined p (outer b x' _ _ _) = elim x' [ ]

  run_nested : length ls ≡ length ks → Nested ks ls
  run_nested e =
      record {
        one_each = e;
        joined = λ i h. run_joined i (linked_at run i (omega arith) (omega arith));
        within = λ i j h a b. between run i (link_at ks ls i) j (link_at ks ls j) (omega arith) (omega arith) (at_link i) a b (at_link j);
      }

pub links_nested : {limit : ℕ} (ks : List Kind) (d : Document limit ks) → Nested ks (links_of d)
links_nested ks d = run_nested ks (links_of d) (subst (λ (l : List Kind). Run [] 0 l (links_of d)) (sym d.written) (document_run d)) (links_size d)
