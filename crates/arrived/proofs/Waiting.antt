-- Where nothing has begun, bytes are kept: those of whitespace and comments, and of a character behind them that has not come whole (`gap-kept`).
-- Assumes nothing.
use Prim.Native.Nat.{ℕ, ◌+◌, ◌-◌, ◌<◌, ◌≤◌}
use native.Mathlib.Nat.{add-zero}
use native.Mathlib.Omega.{arith}
use mathlib.Core.Bool.{true, false}
use mathlib.Core.List.{List, [], ◌++◌, ◌∷◌, append_assoc, append-nil}
use mathlib.Core.Path.{◌≡◌, ap, ap₂, refl, subst, sym, ◌∙◌}
use lib.Dec.{eqb}
use lib.ListN.{drop, get_or, length, length-append, length-drop}
use lib.Seq.{take-append_seam}
use borrow.Author.Tests.{eq-eqb, eqb-true, lt-leb}
use Rattle.text.proofs.Choices.{bool_cases, either, lt_or_le}
use Rattle.text.proofs.Lists.{head_at}
use Rattle.text.specs.Refusals.{eof, unclosed_block_comment, unexpected_char}
use Rattle.text.specs.Utf8.{Text, char_len}
use Rattle.text.specs.declared.refusal.Refusal.{Refusal}
use Rattle.comments.specs.Gaps.{gap_of}
use Rattle.comments.specs.declared.gap.Gap.{Gap}
use Rattle.comments.specs.declared.gap.Gap.TheVariants as gap
use Rattle.gapped.proofs.Exactly.{clear_exactly, five_exactly}
use Rattle.gapped.proofs.Passing.{gap_passed}
use Rattle.gapped.specs.Gap.{StraySlash}
use Rattle.gaps.proofs.Canon.{Ways, ways}
use Rattle.octets.proofs.Cutting.{all_bound, cut_few, front_all}
use Rattle.octets.proofs.Exactly.{Lies, lies, text_all}
use Rattle.octets.specs.Octets.{Cut, allowed_of}
use Rattle.octets.specs.declared.answer.Allowed.TheVariants.{All}
use Rattle.tokens.proofs.RonLaws.{gap_end}
use Rattle.tokens.specs.Ron.{by_gap, ron_token}
use Rattle.arriving.proofs.Waits.{Free, Unlooked, Waits, keeping, unlooked, waits}
use Rattle.arriving.proofs.Waits.Waits.{no_more, not_ended}
use Rattle.arriving.proofs.Whole.{both, cut}
use Rattle.arriving.specs.Arrivals.{Coming, Given, looks, piece}
use Rattle.arriving.specs.Arrivals.Coming.{going}
use Rattle.arriving.specs.Arrivals.Passing.{pass}
use Rattle.arriving.specs.Owing.{tells_end}
use Rattle.settled.proofs.CodeLaws.{nothing_cut, stops_wide}
use Rattle.settled.proofs.GapEnds.{gap_char}
use Rattle.settled.proofs.Owed.{ron}
use Rattle.settled.specs.Settled.{behind_slash, once_behind, ron_once, ron_reader}
use Rattle.pieces.specs.Bars.{bar_by, bar_of, most_held}
use Rattle.arrived.proofs.Bounds.{behind_ascii, gap_keeps}
use Rattle.arrived.proofs.GapCuts.{gap_cut, stray_cut}
use Rattle.arrived.proofs.Parts.{char_none, char_some, cut_allowed, cut_front, cut_wide}

-- ---- whitespace and comments alone

-- nothing has begun in w
pub data Within (w : List ℕ) : Type 0 where
  all : gap_of w ≡ gap.Clear (length w) → Within w
  in_line : (n : ℕ) → gap_of w ≡ gap.InLine n → Within w
  unclosed : (r : Refusal) → gap_of w ≡ gap.Refused r → tells_end r ≡ true → Within w

pub within_clear : (w : List ℕ) (g : ℕ) → Within w → gap_of w ≡ gap.Clear g → g ≡ length w
within_clear w g (Within.all e) h = let q : gap.Clear (length w) ≡ gap.Clear g = sym e ∙ h in let z : length w ≡ g = cc in sym z
within_clear w g (Within.in_line n e) h = let q : gap.InLine n ≡ gap.Clear g = sym e ∙ h in let z : ◌≡◌ {A = ℕ} 0 1 = cc in absurd (omega arith)
within_clear w g (Within.unclosed r e t) h = let q : gap.Refused r ≡ gap.Clear g = sym e ∙ h in let z : ◌≡◌ {A = ℕ} 0 1 = cc in absurd (omega arith)

pub within_odd : (w : List ℕ) (p : ℕ) → Within w → gap_of w ≡ gap.Refused (unexpected_char p) → ⊥
unfolding tells_end
within_odd w p (Within.all e) h = let q : gap.Clear (length w) ≡ gap.Refused (unexpected_char p) = sym e ∙ h in let z : ◌≡◌ {A = ℕ} 0 1 = cc in omega arith
within_odd w p (Within.in_line n e) h = let q : gap.InLine n ≡ gap.Refused (unexpected_char p) = sym e ∙ h in let z : ◌≡◌ {A = ℕ} 0 1 = cc in omega arith
within_odd w p (Within.unclosed r e t) h =
    let q : gap.Refused r ≡ gap.Refused (unexpected_char p) = sym e ∙ h in
    let s : r ≡ unexpected_char p = cc in
    let k : true ≡ false = sym t ∙ ap tells_end s in
    let z : ◌≡◌ {A = ℕ} 0 1 = cc in omega arith

pub within_waits : (w : List ℕ) (n : ℕ) → Within w → Waits n (ron_token w)
unfolding ron_token
within_waits w n (Within.all e) = subst (Waits n) (sym (ap (by_gap w) e ∙ gap_end w (length w) (omega arith))) no_more
within_waits w n (Within.in_line k e) = subst (Waits n) (sym (ap (by_gap w) e)) no_more
within_waits w n (Within.unclosed r e t) = subst (Waits n) (sym (ap (by_gap w) e)) (not_ended r t)

-- ---- 30 is not given there

pub bar_short : (at : ℕ) (x : List ℕ) (b : ℕ) → ((g : ℕ) → gap_of x ≡ gap.Clear g → length x < g + most_held) → bar_of at x b ≡ pass
unfolding bar_of
bar_short at x b h = by (gap_of x) refl
  where
    by : (a : Gap) → gap_of x ≡ a → bar_by at x a ≡ pass
    by (gap.Clear g) e = rw (lt-leb (g + most_held) (length x) (h g e))
    by (gap.InLine n) e = refl
    by (gap.Refused r) e = refl

-- in a front of it
bar_before : (at : ℕ) (x v : List ℕ) (b m : ℕ) → Within (x ++ v) → allowed_of (x ++ v) ≡ All m → bar_of at x b ≡ pass
bar_before at x v b m w e = bar_short at x b few
  where
    few : (g : ℕ) → gap_of x ≡ gap.Clear g → length x < g + most_held
    few g h =
        let f = front_all (x ++ v) m e (length x) in
        let i : ℕ = f.0 in
        let ex : allowed_of x ≡ All i = ap allowed_of (sym (take-append_seam x v)) ∙ f.1 in
        let c = (clear_exactly x g).0 h in
        let eg : allowed_of (drop g x) ≡ All i = gap_keeps c.1.0 i ex in
        let three : i ≤ 3 = (all_bound x i ex).1 in
        either (lt_or_le i (length (drop g x)))
        (λ l. let q = within_clear (x ++ v) g w (gap_char x v g h (char_some (drop g x) i eg l)) in absurd (omega (arith, length-drop g x, length-append x v)))
        (λ l. omega (arith, length-drop g x))

-- and behind it, in a character that has not come whole
pub bar_part : (at : ℕ) (w u : List ℕ) (b : ℕ) → Within w → Cut u → bar_of at (w ++ u) b ≡ pass
bar_part at w u b i c = bar_short at (w ++ u) b few
  where
    few : (g : ℕ) → gap_of (w ++ u) ≡ gap.Clear g → length (w ++ u) < g + most_held
    few g h =
        either (lt_or_le g (length w))
        (λ l. absurd (omega (arith, within_clear w g i (gap_cut w u g h (omega arith)))))
        (λ l. omega (arith, length-append w u, cut_few c))

-- ---- no character there is refused at once

-- a 5 is 5 at its place
pub five_is : (s : List ℕ) (r : Refusal) → gap_of s ≡ gap.Refused r → r.number ≡ 5 → r ≡ unexpected_char r.place
five_is s r e n = by (ways s)
  where
    other : (q : Refusal) → gap.Refused q ≡ gap.Refused r → (q.number ≡ 5 → ⊥) → r ≡ unexpected_char r.place
    other q h k = let z : q ≡ r = cc in absurd (k (ap (λ (x : Refusal). x.number) z ∙ n))

    by : Ways s → r ≡ unexpected_char r.place
    by (Ways.clear g l a f) = let h : gap.Clear g ≡ gap.Refused r = sym a ∙ e in let z : ◌≡◌ {A = ℕ} 0 1 = cc in absurd (omega arith)
    by (Ways.ended a f) = other (eof (length s)) (sym a ∙ e) (λ z. omega arith)
    by (Ways.line a f) = let h : gap.InLine (length s) ≡ gap.Refused r = sym a ∙ e in let z : ◌≡◌ {A = ℕ} 0 1 = cc in absurd (omega arith)
    by (Ways.block level last k a f) = other (unclosed_block_comment (length s)) (sym a ∙ e) (λ z. omega arith)
    by (Ways.odd p a f) =
        let h : gap.Refused (unexpected_char p) ≡ gap.Refused r = sym a ∙ e in
        let z : unexpected_char p ≡ r = cc in
        subst (λ (x : Refusal). x ≡ unexpected_char x.place) z refl

-- the byte before the place of a 5 whose character has not come is its `/`
pub slash_before : (s : List ℕ) (b : ℕ) (w : List ℕ) (p : ℕ) → StraySlash s b w → p + length (b ∷ w) ≡ length s → get_or s (p - 1) 0 ≡ 0x2f
slash_before s b w p x e =
    let q = gap_passed x.0 in
    let i : p - 1 ≡ q.by = omega (arith, q.whole) in
    ap (λ (j : ℕ). get_or s j 0) i ∙ sym (head_at s q.by) ∙ ap (λ (t : List ℕ). get_or t 0 0) (sym q.rest)

module _ (w u : List ℕ) (i : Within w) (x : Text w) (c : Cut u) where
  five_not : (r : Refusal) → gap_of (w ++ u) ≡ gap.Refused r → r.number ≡ 5 → get_or (w ++ u) (r.place - 1) 0 ≡ 0x2f
  five_not r e n =
      let is = five_is (w ++ u) r e n in
      let p : ℕ = r.place in
      let (b, v, stray, far) = (five_exactly (w ++ u) p).0 (e ∙ ap gap.Refused is) in
      let m : ℕ = length u in
      let here : allowed_of (b ∷ v) ≡ All m = behind_ascii [] 0x2f (b ∷ v) (omega arith) m (gap_keeps stray.0 m (cut_allowed w u x c)) in
      either (lt_or_le m (length (b ∷ v)))
      (λ l. let (y, q, s) = stray_cut w u b v stray (omega arith) in
      let whole = (gap_passed s.0).whole in
      let at : ℕ = (gap_passed s.0).by + (1 + char_len (b ∷ y)) in
      absurd (within_odd w at i ((five_exactly w at).1 (b, y, s, omega (arith, whole)))))
      (λ l. let k : m ≡ length (b ∷ v) = omega (arith, (all_bound (b ∷ v) m here).0) in
      let none = char_none (b ∷ v) (here ∙ ap All k) in
      slash_before (w ++ u) b v p stray (far ∙ ap (λ (j : ℕ). length (w ++ u) + j) none ∙ add-zero (length (w ++ u))))

  slash_not : (r : Refusal) → gap_of (w ++ u) ≡ gap.Refused r → behind_slash (w ++ u) r ≡ false
  unfolding behind_slash
  slash_not r e =
      either (bool_cases (eqb r.number 5))
      (λ t. rw (t, eq-eqb (get_or (w ++ u) (r.place - 1) 0) 0x2f (five_not r e (eqb-true r.number 5 t))))
      (λ t. rw t)

  pub once_none : ron_once (w ++ u) ≡ false
  unfolding ron_once
  once_none = by (gap_of (w ++ u)) refl
    where
      by : (a : Gap) → gap_of (w ++ u) ≡ a → once_behind (w ++ u) a ≡ false
      by (gap.Clear g) e =
          let m : ℕ = length u in
          let k : allowed_of (drop g (w ++ u)) ≡ All m = gap_keeps ((clear_exactly (w ++ u) g).0 e).1.0 m (cut_allowed w u x c) in
          let low : length w ≤ g =
          either (lt_or_le g (length w)) (λ l. absurd (omega (arith, within_clear w g i (gap_cut w u g e (omega arith))))) (λ l. l) in
          let same : m ≡ length (drop g (w ++ u)) = omega (arith, (all_bound (drop g (w ++ u)) m k).0, length-drop g (w ++ u), length-append w u) in
          nothing_cut (drop g (w ++ u)) (char_none (drop g (w ++ u)) (k ∙ ap All same))
      by (gap.InLine n) e = refl
      by (gap.Refused r) e = slash_not r e

-- ---- such bytes are kept

pub part_kept : (at : ℕ) (w r y : List ℕ) → Within w → Text w → Cut (r ++ y) → piece ron_reader bar_of (going at (w ++ r)) y ≡ keeping at ((w ++ r) ++ y) (length y)
unfolding looks
part_kept at w r y i x c = unlooked ron_reader bar_of y (w ++ r) at free none
  where
    front : (u : List ℕ) (b : ℕ) (z : List ℕ) → y ≡ u ++ b ∷ z → Cut ((r ++ u) ++ b ∷ [])
    front u b z e =
        cut_front ((r ++ u) ++ b ∷ []) z
        (subst Cut (ap (λ (t : List ℕ). r ++ t) e ∙ sym (append_assoc r u (b ∷ z)) ∙ sym (append_assoc (r ++ u) (b ∷ []) z)) c)

    free : Free ron_reader bar_of at (w ++ r) y
    free u b z e =
        ap (λ (t : List ℕ). bar_of at t b) (append_assoc w r u) ∙ bar_part at w (r ++ u) b i (cut_front (r ++ u) (b ∷ []) (front u b z e))

    none : Unlooked ron_reader bar_of (w ++ r) y
    none u b z e =
        let c' = front u b z e in
        let same : (w ++ r) ++ u ++ b ∷ [] ≡ w ++ ((r ++ u) ++ b ∷ []) = simp append_assoc in
        let o : ron_once ((w ++ r) ++ u ++ b ∷ []) ≡ false = ap ron_once same ∙ once_none w ((r ++ u) ++ b ∷ []) i x c' in
        rw (stops_wide b (cut_wide (r ++ u) b c'), o)

pub gap_kept : (at : ℕ) (w u rest y : List ℕ) → Within w → Text w → Cut u → rest ++ y ≡ w ++ u → piece ron_reader bar_of (going at rest) y ≡ keeping at (rest ++ y) (length y)
gap_kept at w u rest y i x c e = by (lies rest y w u e)
  where
    by : Lies rest y w u → piece ron_reader bar_of (going at rest) y ≡ keeping at (rest ++ y) (length y)
    by (Lies.within r p q) =
        subst (λ (t : List ℕ). piece ron_reader bar_of (going at t) y ≡ keeping at (t ++ y) (length y)) (sym p) (part_kept at w r y i x (subst Cut q c))
    by (Lies.past b r p q) =
        let z : List ℕ = b ∷ r in
        let free : Free ron_reader bar_of at rest z =
        λ v d t h. (let s : w ≡ (rest ++ v) ++ d ∷ t = p ∙ ap (λ (k : List ℕ). rest ++ k) h ∙ sym (append_assoc rest v (d ∷ t)) in
        bar_before at (rest ++ v) (d ∷ t) d 0 (subst Within s i) (ap allowed_of (sym s) ∙ text_all w x)) in
        let one = waits ron_reader bar_of ron z rest [] at (length w) free (omega (arith, ap length p))
        (subst (λ (t : List ℕ). Waits (length w) (ron_token t)) (p ∙ sym (append-nil (rest ++ z))) (within_waits w (length w) i)) in
        let two : piece ron_reader bar_of (going at w) u ≡ keeping at (w ++ u) (length u) =
        ap (λ (t : List ℕ). piece ron_reader bar_of (going at t) u) (sym (append-nil w)) ∙ part_kept at w [] u i x c ∙ ap (λ (t : List ℕ). keeping at (t ++ u) (length u)) (append-nil w) in
        ap (piece ron_reader bar_of (going at rest)) q
        ∙ cut ron_reader bar_of z u (going at rest)
        ∙ ap (λ (g : Given). both g (λ (a : Coming). piece ron_reader bar_of a u)) one
        ∙ ap (λ (t : List ℕ). both (keeping at t (length z)) (λ (a : Coming). piece ron_reader bar_of a u)) (sym p)
        ∙ ap (λ (g : Given). record { entries = g.entries; next = g.next; bytes = length z + g.bytes }) two
        ∙ ap₂ (keeping at) (sym e) (omega (arith, ap length q, length-append z u))
