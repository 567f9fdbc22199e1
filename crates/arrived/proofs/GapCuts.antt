-- The gap of a front of a text: where the text's gap ends within the front, the front's ends there too (`gap-cut`, `five-cut`); and what has come behind a gap
-- stays there (`clear-more`). Assumes nothing.
use Prim.Native.Nat.{ℕ, ◌+◌, ◌≤◌}
use native.Mathlib.Omega.{arith}
use mathlib.Core.List.{List, [], ◌++◌, ◌∷◌, append_assoc}
use mathlib.Core.Bool.{true}
use mathlib.Core.Logic.{inl}
use mathlib.Core.Path.{◌≡◌, ap, refl, subst, sym, ◌∙◌}
use lib.ListN.{drop, get_or, length, length-append, length-drop}
use lib.Seq.{drop-append-le}
use Rattle.text.proofs.Utf8Agree.{encode_1}
use Rattle.text.specs.Classes.{blank, within}
use Rattle.text.specs.Utf8.{Scalar, encode}
use Rattle.comments.specs.Blocks.{Body}
use Rattle.comments.specs.Gaps.{gap_of}
use Rattle.comments.specs.declared.gap.Gap.TheVariants as answer
use Rattle.gapped.proofs.Exactly.{clear_exactly}
use Rattle.gapped.specs.Gap.{Clear, Gap, StraySlash}

-- ---- the bytes of a gap alone

-- a body, whatever follows it
record Inner (s t : List ℕ) : Type 0 where
  first : ℕ
  next : List ℕ
  is : s ≡ first ∷ (next ++ t)
  again : (z : List ℕ) → Body (first ∷ (next ++ z)) z

same_first : (a b : ℕ) (s t : List ℕ) → a ∷ s ≡ b ∷ t → b ≡ a
same_first a b s t e = ap (λ (x : List ℕ). get_or x 0 0) (sym e)

body_inner : {s t : List ℕ} → Body s t → Inner s t
body_inner (Body.closes {a} {b} {t} e) = record { first = a; next = b ∷ []; is = refl; again = λ z. Body.closes e }
body_inner (Body.nests {a} {b} {s} {u} {t} e x y) =
    let p = body_inner x in
    let q = body_inner y in
    let w : List ℕ = p.first ∷ p.next in
    let v : List ℕ = q.first ∷ q.next in
    record {
      first = a;
      next = b ∷ (w ++ v);
      is = ap {B = List ℕ} (λ (l : List ℕ). a ∷ b ∷ l) (p.is ∙ ap (λ (l : List ℕ). w ++ l) q.is ∙ sym (append_assoc w v t));
      again = λ z. subst (λ (l : List ℕ). Body (a ∷ b ∷ l) z) (sym (append_assoc w v z)) (Body.nests e (p.again (v ++ z)) (q.again z));
    }
body_inner (Body.passes {a} {b} {s} {t} e x) =
    let p = body_inner x in
    let f : p.first ≡ b = same_first b p.first s (p.next ++ t) p.is in
    record {
      first = a;
      next = b ∷ p.next;
      is = ap {B = List ℕ} (λ (l : List ℕ). a ∷ l) (p.is ∙ ap (λ (c : ℕ). c ∷ (p.next ++ t)) f);
      again = λ z. Body.passes e (subst (λ (c : ℕ). Body (c ∷ (p.next ++ z)) z) f (p.again z));
    }

-- a gap before no LF, whatever follows it
pub record Front (s t : List ℕ) : Type 0 where
  pub before : List ℕ
  pub is : s ≡ before ++ t
  pub again : (z : List ℕ) → Gap (before ++ z) z

-- no LF stands in front
abbrev NoLf : List ℕ → Type 0
NoLf t = (u : List ℕ) → t ≡ 0x0a ∷ u → ⊥

pub gap_front : {s t : List ℕ} → Gap s t → NoLf t → Front s t
gap_front {s} Gap.none n = record { before = []; is = refl; again = λ z. Gap.none }
gap_front (Gap.space {c} {s} {t} sc e g) n =
    let p = gap_front g n in
    record {
      before = encode c ++ p.before;
      is = ap (λ (l : List ℕ). encode c ++ l) p.is ∙ sym (append_assoc (encode c) p.before t);
      again = λ z. subst (λ (l : List ℕ). Gap l z) (sym (append_assoc (encode c) p.before z)) (Gap.space sc e (p.again z));
    }
gap_front (Gap.line {w} {s} {t} l g) n = let p = gap_front g n in go p.before p.is p.again
  where
    go : (b : List ℕ) → 0x0a ∷ s ≡ b ++ t → ((z : List ℕ) → Gap (b ++ z) z) → Front (0x2f ∷ 0x2f ∷ (w ++ 0x0a ∷ s)) t
    go [] e f = absurd (n s (sym e))
    go (c ∷ b) e f =
        let q : c ≡ 0x0a = same_first 0x0a c s (b ++ t) e in
        let e' : 0x0a ∷ s ≡ 0x0a ∷ (b ++ t) = e ∙ ap (λ (x : ℕ). x ∷ (b ++ t)) q in
        record {
          before = 0x2f ∷ 0x2f ∷ (w ++ 0x0a ∷ b);
          is = ap {B = List ℕ} (λ (x : List ℕ). 0x2f ∷ 0x2f ∷ x) (ap (λ (x : List ℕ). w ++ x) e' ∙ sym (append_assoc w (0x0a ∷ b) t));
          again = λ z. subst (λ (x : List ℕ). Gap (0x2f ∷ 0x2f ∷ x) z) (sym (append_assoc w (0x0a ∷ b) z))
              (Gap.line l (subst (λ (x : ℕ). Gap (x ∷ (b ++ z)) z) q (f z)));
        }
gap_front (Gap.block {s} {u} {t} x g) n =
    let p = gap_front g n in
    let b = body_inner x in
    let w : List ℕ = b.first ∷ b.next in
    record {
      before = 0x2f ∷ 0x2a ∷ (w ++ p.before);
      is = ap {B = List ℕ} (λ (l : List ℕ). 0x2f ∷ 0x2a ∷ l) (b.is ∙ ap (λ (l : List ℕ). w ++ l) p.is ∙ sym (append_assoc w p.before t));
      again = λ z. subst (λ (l : List ℕ). Gap (0x2f ∷ 0x2a ∷ l) z) (sym (append_assoc w p.before z)) (Gap.block (b.again (p.before ++ z)) (p.again z));
    }

-- ---- a gap that ends within a front

lf_scalar : Scalar 0x0a
lf_scalar = (omega arith, inl (omega arith))

lf_blank : blank 0x0a ≡ true
unfolding blank within
lf_blank = refl

no_lf : {t : List ℕ} → Clear t → NoLf t
no_lf c u e = c.no_blank 0x0a u lf_scalar lf_blank (e ∙ ap (λ (l : List ℕ). l ++ u) (sym (encode_1 0x0a (omega arith))))

clear_less : (t v : List ℕ) → Clear (t ++ v) → Clear t
clear_less t v c = record {
  no_blank = λ k u sc b e. c.no_blank k (u ++ v) sc b (ap (λ (l : List ℕ). l ++ v) e ∙ append_assoc (encode k) u v);
  no_slash = λ u e. c.no_slash (u ++ v) (ap (λ (l : List ℕ). l ++ v) e);
}

-- a list in two parts of which the first is as long as another's front
pub front_of : (p t s v : List ℕ) → p ++ t ≡ s ++ v → length p ≤ length s → (s ≡ p ++ drop (length p) s) × (t ≡ drop (length p) s ++ v)
front_of [] t s v e le = (refl, e)
front_of (a ∷ p) t [] v e le = absurd (omega arith)
front_of (a ∷ p) t (b ∷ s) v e le =
    let h : b ≡ a = same_first a b (p ++ t) (s ++ v) e in
    let r = front_of p t s v (ap (drop 1) e) (omega arith) in
    (ap (λ (x : ℕ). x ∷ s) h ∙ ap {B = List ℕ} (λ (l : List ℕ). a ∷ l) r.0, r.1)

pub gap_cut : (s v : List ℕ) (g : ℕ) → gap_of (s ++ v) ≡ answer.Clear g → g ≤ length s → gap_of s ≡ answer.Clear g
gap_cut s v g e le =
    let w = (clear_exactly (s ++ v) g).0 e in
    let f = gap_front w.1.0 (no_lf w.1.1) in
    let split : drop g (s ++ v) ≡ drop g s ++ v = drop-append-le g s v le in
    let long : length f.before ≡ g = omega (arith, ap length f.is, length-append f.before (drop g (s ++ v)), length-drop g (s ++ v), w.0) in
    let r = front_of f.before (drop g (s ++ v)) s v (sym f.is) (omega arith) in
    let mine : s ≡ f.before ++ drop g s = r.0 ∙ ap (λ (n : ℕ). f.before ++ drop n s) long in
    (clear_exactly s g).1 (le, (subst (λ (x : List ℕ). Gap x (drop g s)) (sym mine) (f.again (drop g s)), clear_less (drop g s) v (subst Clear split w.1.1)))

-- a 5 whose `/` and the byte behind it lie within a front
pub stray_cut : (s v : List ℕ) (b : ℕ) (w : List ℕ) → StraySlash (s ++ v) b w → length v ≤ length w → (u : List ℕ) × (w ≡ u ++ v) × StraySlash s b u
stray_cut s v b w (x, n, m) le =
    let f = gap_front x (λ u e. (let z : 0x2f ≡ 0x0a = ap (λ (l : List ℕ). get_or l 0 0) e in omega arith)) in
    let p : List ℕ = f.before ++ 0x2f ∷ b ∷ [] in
    let whole : p ++ w ≡ s ++ v = append_assoc f.before (0x2f ∷ b ∷ []) w ∙ sym f.is in
    let l : length p + length w ≡ length s + length v = sym (length-append p w) ∙ ap length whole ∙ length-append s v in
    let r = front_of p w s v whole (omega arith) in
    let u : List ℕ = drop (length p) s in
    let mine : s ≡ f.before ++ 0x2f ∷ b ∷ u = r.0 ∙ append_assoc f.before (0x2f ∷ b ∷ []) u in
    (u, r.1, (subst (λ (y : List ℕ). Gap y (0x2f ∷ b ∷ u)) (sym mine) (f.again (0x2f ∷ b ∷ u)), n, m))
