-- Whole characters and the front of one behind them. Assumes nothing.
use Prim.Native.Nat.{ℕ, suc, ◌-◌, ◌<◌, ◌≤◌}
use native.Mathlib.Omega.{arith}
use mathlib.Core.List.{List, [], ◌++◌, ◌∷◌, append_assoc, append-nil}
use mathlib.Core.Logic.{inl, inr}
use mathlib.Core.Path.{◌≡◌, ap, refl, subst, sym, ◌∙◌}
use lib.ListN.{drop, length, length-append, take, take-append-drop}
use lib.Seq.{drop_at, take_at}
use Rattle.text.proofs.Choices.{either, lt_or_le}
use Rattle.text.specs.Utf8.{Char, Text, char_len}
use Rattle.octets.proofs.BegunLaws.Stops.{at_end}
use Rattle.octets.proofs.Cutting.{ascii_breaks, ascii_whole, char_whole}
use Rattle.octets.proofs.Exactly.{allowed_all, cut_none, whole_all}
use Rattle.octets.specs.Octets.{Begins, Cut, allowed_of}
use Rattle.octets.specs.Octets.Begins.{begins}
use Rattle.octets.specs.declared.answer.Allowed.TheVariants.{All, Bad}
use Rattle.arrived.specs.Shown.{part_of, whole_of}

-- ---- the character in front

text_some : {g : List ℕ} → Text g → (p : List ℕ) → 0 < length g → 0 < char_len (g ++ p)
text_some Text.none p h = absurd (omega arith)
text_some (Text.more {l} {s} ch x) p h = subst (λ (y : List ℕ). 0 < char_len y) (sym (append_assoc l s p)) (char_whole l (s ++ p) ch).0

-- more has come than the front of a character: one stands there
pub char_some : (t : List ℕ) (m : ℕ) → allowed_of t ≡ All m → m < length t → 0 < char_len t
char_some t m e l =
    let w = (allowed_all t m).0 e in
    let many : length w.part ≡ m = w.many in
    subst (λ (y : List ℕ). 0 < char_len y) (sym w.is) (text_some w.text w.part (omega (arith, ap length w.is, length-append w.good w.part)))

-- nothing but the front of one has come
pub char_none : (t : List ℕ) → allowed_of t ≡ All (length t) → char_len t ≡ 0
char_none t e =
    let w = (allowed_all t (length t)).0 e in
    let many : length w.part ≡ length t = w.many in
    go w.good w.is (omega (arith, ap length w.is, length-append w.good w.part))
  where
    go : (g : List ℕ) → t ≡ g ++ ((allowed_all t (length t)).0 e).part → length g ≡ 0 → char_len t ≡ 0
    go [] h z =
        let p : List ℕ = ((allowed_all t (length t)).0 e).part in
        ap char_len (h ∙ sym (append-nil p)) ∙ cut_none p [] ((allowed_all t (length t)).0 e).cut at_end
    go (a ∷ g) h z = absurd (omega arith)

-- ---- whole characters, and the front of one

pub cut_allowed : (w u : List ℕ) → Text w → Cut u → allowed_of (w ++ u) ≡ All (length u)
cut_allowed w u x c = whole_all (w ++ u) (length u) (record { good = w; part = u; is = refl; text = x; cut = c; many = refl })

begins_front : (x z : List ℕ) {s : List ℕ} → Begins s → s ≡ x ++ z → 0 < length x → Begins x
begins_front [] z k e h = absurd (omega arith)
begins_front (a ∷ x) z (begins b q ch) e h = go z (subst (λ (y : List ℕ). Char (y ++ b ∷ q)) e ch)
  where
    go : (z : List ℕ) → Char (((a ∷ x) ++ z) ++ b ∷ q) → Begins (a ∷ x)
    go [] h = begins b q (subst (λ (y : List ℕ). Char (y ++ b ∷ q)) (append-nil (a ∷ x)) h)
    go (d ∷ z) h = begins d (z ++ b ∷ q) (subst Char (append_assoc (a ∷ x) (d ∷ z) (b ∷ q)) h)

pub cut_front : (x z : List ℕ) → Cut (x ++ z) → Cut x
cut_front [] z c = inl refl
cut_front (a ∷ x) z (inl e) = absurd (omega (arith, ap length e))
cut_front (a ∷ x) z (inr k) = inr (begins_front (a ∷ x) z k refl (omega arith))

-- its bytes are above U+007F
pub cut_wide : (x : List ℕ) (b : ℕ) → Cut (x ++ b ∷ []) → 0x80 ≤ b
cut_wide x b c =
    either (lt_or_le b 0x80)
    (λ low. absurd (go x (cut_allowed [] (x ++ b ∷ []) Text.none c) (cut_allowed [] x Text.none (cut_front x (b ∷ []) c)) low))
    (λ wide. wide)
  where
    go : (x : List ℕ) → allowed_of (x ++ b ∷ []) ≡ All (length (x ++ b ∷ [])) → allowed_of x ≡ All (length x) → b < 0x80 → ⊥
    go [] e f low = let h : All 0 ≡ All 1 = sym (ascii_whole [] b f low) ∙ e in let z : ◌≡◌ {A = ℕ} 0 1 = cc in omega arith
    go (a ∷ x) e f low =
        let h : Bad (length (a ∷ x)) (length (a ∷ x) - suc (length x)) ≡ All (length ((a ∷ x) ++ b ∷ [])) = sym (ascii_breaks (a ∷ x) b (length x) f low) ∙ e in
        let z : ◌≡◌ {A = ℕ} 0 1 = cc in omega arith

-- what may be taken, in these two parts
pub record Parted (s : List ℕ) (m : ℕ) : Type 0 where
  pub split : whole_of s m ++ part_of s m ≡ s
  pub text : Text (whole_of s m)
  pub cut : Cut (part_of s m)
  pub many : length (part_of s m) ≡ m
  pub few : m ≤ length s

pub parted : (s : List ℕ) (m : ℕ) → allowed_of s ≡ All m → Parted s m
parted s m e =
    let w = (allowed_all s m).0 e in
    let many : length w.part ≡ m = w.many in
    let long : length w.good ≡ length s - m = omega (arith, ap length w.is, length-append w.good w.part) in
    let front : whole_of s m ≡ w.good = ap (take (length s - m)) w.is ∙ take_at w.good w.part (length s - m) long in
    let back : part_of s m ≡ w.part = ap (drop (length s - m)) w.is ∙ drop_at w.good w.part (length s - m) long in
    record {
      split = take-append-drop (length s - m) s;
      text = subst Text (sym front) w.text;
      cut = subst Cut (sym back) w.cut;
      many = ap length back ∙ many;
      few = omega (arith, ap length w.is, length-append w.good w.part);
    }
