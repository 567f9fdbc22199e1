-- What is kept of a text that may go on (`standing`), and that a state which shows an arrival is in order (`shown-in-order`). Assumes nothing.
use Prim.Native.Nat.{ℕ, zero, suc, ◌+◌, ◌-◌, ◌<◌, ◌≤◌}
use native.Mathlib.Omega.{arith}
use mathlib.Core.Bool.{true, false, ◌&&◌, ◌||◌}
use mathlib.Core.List.{List, [], ◌++◌, ◌∷◌}
use mathlib.Core.Logic.{◌⊎◌, inl, inr}
use mathlib.Core.Path.{◌≡◌, ap, refl, subst, sym, ◌∙◌}
use lib.Dec.{eqb, leb}
use lib.ListN.{get_or-append, drop, get_or, length, length-append, length-drop, take}
use lib.Seq.{get_or-drop, length-take-le, split_at}
use borrow.Author.Tests.{eq-eqb, eqb-true, le-leb, ne_eqb}
use Rattle.text.proofs.CharFronts.{len_short}
use Rattle.text.proofs.Choices.{and_true, bool_cases, either, lt_or_le, or_cases, or_true}
use Rattle.text.proofs.ClassLaws.{within_true}
use Rattle.text.proofs.Utf8Agree.{char_len_le}
use Rattle.text.specs.Classes.{one_of, within}
use Rattle.text.specs.Refusals.{eof, unclosed_block_comment, unexpected_char}
use Rattle.text.specs.Utf8.{Text, char_len, utf8_from, utf8_of}
use Rattle.text.specs.declared.refusal.Refusal.{Refusal}
use Rattle.comments.specs.Gaps.{gap_from, gap_of}
use Rattle.comments.specs.declared.gap.Gap.TheVariants as gap
use Rattle.gapped.proofs.Exactly.{clear_exactly, five_exactly}
use Rattle.gapped.proofs.Passing.{gap_passed}
use Rattle.gaps.proofs.Canon.{Ways, kept_is, ways}
use Rattle.gaps.proofs.Fronts.{Opened, front_block, front_short, open-fits}
use Rattle.gaps.specs.Opens.{Fits, front, kept_of, open_from, open_of, unpaired}
use Rattle.gaps.specs.declared.state.Open.{Open}
use Rattle.gaps.specs.declared.state.Open.TheVariants.{Clear, Slash, Line, Block}
use Rattle.octets.proofs.Cutting.{all_bound}
use Rattle.octets.proofs.Exactly.{text_all}
use Rattle.octets.specs.Octets.{allowed_of}
use Rattle.octets.specs.declared.answer.Allowed.TheVariants.{All}
use Rattle.arriving.specs.Arrivals.{Coming}
use Rattle.arriving.specs.Arrivals.Coming.{going}
use Rattle.arriving.specs.Owing.{tells_end}
use Rattle.settled.proofs.GapEnds.{gap_char, slash_stays}
use Rattle.settled.specs.Settled.{behind_slash, ron_once, starts_nothing}
use Rattle.pieces.specs.Bars.{most_held}
use Rattle.pieces.specs.Orders.{in_order, is_clear, is_given, is_none, kept_fits, most_taken, open_fits, reason_fits, refusal_fits}
use Rattle.pieces.specs.Pieces.{begun}
use Rattle.pieces.specs.declared.state.Arrival.{Arrival}
use Rattle.arrived.specs.Shown.{GoesOn, Shows, StopsSo, going_state, held_of, part_of, stopped_state, whole_of}
use Rattle.arrived.proofs.Bounds.{behind_ascii, gap_keeps}
use Rattle.arrived.proofs.Parts.{Parted, char_some, parted}
use Rattle.arrived.proofs.Waiting.{Within}

-- ---- a 5 whose character has come whole

-- a character's last byte is no `/`, unless it is one
last_byte : (b : ℕ) (w : List ℕ) (n : ℕ) → char_len (b ∷ w) ≡ suc n → (b ≡ 0x2f → ⊥) → get_or (b ∷ w) n 0 ≡ 0x2f → ⊥
last_byte b w zero e h q = h q
last_byte b w (suc n) e h q =
    let s : List ℕ = b ∷ w in
    let in-s : suc n < length s = omega (arith, e, char_len_le s) in
    let split = split_at s (suc n) 0 in-s in
    let u : List ℕ = take (suc n) s in
    let long : length u ≡ suc n = length-take-le (suc n) s (omega arith) in
    let short = len_short 0x2f (omega arith) u (drop (suc (suc n)) s) (omega arith) in
    let same : s ≡ u ++ 0x2f ∷ drop (suc (suc n)) s = split ∙ ap (λ (c : ℕ). u ++ c ∷ drop (suc (suc n)) s) q in
    omega (arith, e, short, ap char_len same)

-- of whole characters a 5 is refused at once, whatever follows
pub five_once : (w v : List ℕ) (p : ℕ) → Text w → gap_of w ≡ gap.Refused (unexpected_char p) → ron_once (w ++ v) ≡ true
unfolding ron_once behind_slash
five_once w v p x e =
    let (b, y, stray, far) = (five_exactly w p).0 e in
    let q = gap_passed stray.0 in
    let here : allowed_of (b ∷ y) ≡ All 0 = behind_ascii [] 0x2f (b ∷ y) (omega arith) 0 (gap_keeps stray.0 0 (text_all w x)) in
    let some = char_some (b ∷ y) 0 here (omega arith) in
    let n : ℕ = char_len (b ∷ y) - 1 in
    let full : char_len (b ∷ y) ≡ suc n = omega arith in
    let at : p - 1 ≡ q.by + suc n = omega (arith, q.whole) in
    let byte : get_or w (p - 1) 0 ≡ get_or (b ∷ y) n 0 =
    ap (λ (i : ℕ). get_or w i 0) at ∙ sym (get_or-drop q.by w (suc n) 0) ∙ ap (λ (t : List ℕ). get_or t (suc n) 0) (sym q.rest) in
    let other : eqb (get_or w (p - 1) 0) 0x2f ≡ false = ne_eqb (get_or w (p - 1) 0) 0x2f (λ z. last_byte b y n full stray.1 (sym byte ∙ z)) in
    let stays = slash_stays w v (unexpected_char p) e refl other in
    let inside : p - 1 < length w = omega (arith, q.whole, char_len_le (b ∷ y)) in
    let same : get_or (w ++ v) (p - 1) 0 ≡ get_or w (p - 1) 0 = get_or-append w v 0 (p - 1) inside in
    rw (stays, same, other)

-- ---- what is kept

-- something may have begun behind g bytes of whitespace and comments, or nothing has and a comment is open
pub data Standing (w : List ℕ) : Type 0 where
  at_gap : (g : ℕ) → g ≤ length w → gap_of w ≡ gap.Clear g → open_of w ≡ Clear → kept_of w ≡ drop g w → Standing w
  inside : Within w → Opened (open_of w) → kept_of w ≡ [] → Standing w

-- of whole characters that are not refused with 5
pub standing_by : (w : List ℕ) → ((p : ℕ) → gap_of w ≡ gap.Refused (unexpected_char p) → ⊥) → Standing w
unfolding tells_end
standing_by w n = by (ways w)
  where
    by : Ways w → Standing w
    by (Ways.clear g l e f) = Standing.at_gap g l e f (kept_is w (gap.Clear g) e)
    by (Ways.ended e f) = Standing.inside (Within.unclosed (eof (length w)) e refl) (subst Opened (sym f) tt) (kept_is w (gap.Refused (eof (length w))) e)
    by (Ways.line e f) = Standing.inside (Within.in_line (length w) e) (subst Opened (sym f) tt) (kept_is w (gap.InLine (length w)) e)
    by (Ways.block level last k e f) =
        Standing.inside (Within.unclosed (unclosed_block_comment (length w)) e refl) (subst Opened (sym f) tt) (kept_is w (gap.Refused (unclosed_block_comment (length w))) e)
    by (Ways.odd p e f) = absurd (n p e)

pub no_five : (rest : List ℕ) (part p : ℕ) → Parted rest part → ron_once rest ≡ false → gap_of (whole_of rest part) ≡ gap.Refused (unexpected_char p) → ⊥
no_five rest part p k c e =
    let z : true ≡ false = sym (five_once (whole_of rest part) (part_of rest part) p k.text e) ∙ ap ron_once k.split ∙ c in
    let y : ◌≡◌ {A = ℕ} 0 1 = cc in omega arith

-- ---- what is open may be so

last_ok : (last : ℕ) → unpaired last ≡ last → one_of (0 ∷ 0x2a ∷ 0x2f ∷ []) last ≡ true
unfolding unpaired
last_ok last h =
    either (bool_cases (eqb last 0x2a))
    (λ t. rw t (or_true (eqb last 0)))
    (λ t. either (bool_cases (eqb last 0x2f))
    (λ u. rw (t, u) (or_true (eqb last 0)))
    (λ u. let z : 0 ≡ last = rw (t, u) at h in rw (eq-eqb last 0 (sym z))))

open_ok : (w : List ℕ) (n : ℕ) → length w ≤ n → open_fits (open_of w) n ≡ true
open_ok w n l = by (open_of w) refl (open-fits w) (front_short w)
  where
    by : (o : Open) → open_of w ≡ o → Fits o → length (front o) ≤ length w → open_fits o n ≡ true
    by Clear e f s = refl
    by Slash e f s = refl
    by Line e f s = refl
    by (Block level last) e f s = rw (le-leb level n (omega (arith, front_block level last)), last_ok last f)

module _ (at : ℕ) (rest : List ℕ) (part : ℕ) (k : GoesOn at rest part) where
  pub parts : Parted rest part
  parts = parted rest part k.utf8

  pub standing : Standing (whole_of rest part)
  standing = standing_by (whole_of rest part) (λ p e. no_five rest part p parts k.calm e)

  held_length : length (held_of rest part) ≡ length (kept_of (whole_of rest part)) + part
  held_length = let m : length (part_of rest part) ≡ part = parts.many in omega (arith, length-append (kept_of (whole_of rest part)) (part_of rest part))

  whole_length : length (whole_of rest part) + part ≡ length rest
  whole_length =
      let m : length (part_of rest part) ≡ part = parts.many in
      omega (arith, length-append (whole_of rest part) (part_of rest part), ap length parts.split)

  -- a whole character behind the gap: the gap ends there for good
  pub gap_rest : (g : ℕ) → gap_of (whole_of rest part) ≡ gap.Clear g → g < length (whole_of rest part) → gap_of rest ≡ gap.Clear g
  gap_rest g e l =
      let w : List ℕ = whole_of rest part in
      let whole : allowed_of (drop g w) ≡ All 0 = gap_keeps ((clear_exactly w g).0 e).1.0 0 (text_all w parts.text) in
      ap gap_of (sym parts.split) ∙ gap_char w (part_of rest part) g e (char_some (drop g w) 0 whole (omega (arith, length-drop g w)))

  pub held_few : length (held_of rest part) ≤ most_held
  held_few = by standing
    where
      three : part ≤ 3
      three = (all_bound rest part k.utf8).1

      by : Standing (whole_of rest part) → length (held_of rest part) ≤ most_held
      by (Standing.at_gap g l e f q) =
          let n : length (kept_of (whole_of rest part)) ≡ length (whole_of rest part) - g = ap length q ∙ length-drop g (whole_of rest part) in
          either (lt_or_le g (length (whole_of rest part)))
          (λ i. omega (arith, held_length, whole_length, k.held g (gap_rest g e i)))
          (λ i. omega (arith, held_length, three))
      by (Standing.inside i o q) = omega (arith, held_length, three, ap length q)

  pub held_less : length (held_of rest part) ≤ length rest
  held_less = by standing
    where
      by : Standing (whole_of rest part) → length (held_of rest part) ≤ length rest
      by (Standing.at_gap g l e f q) = omega (arith, held_length, whole_length, ap length q, length-drop g (whole_of rest part))
      by (Standing.inside i o q) = omega (arith, held_length, whole_length, ap length q)

  -- ---- in order
  gap_fits : (is_clear (open_of (whole_of rest part)) || eqb (length (held_of rest part)) part) ≡ true
  gap_fits = by standing
    where
      by : Standing (whole_of rest part) → (is_clear (open_of (whole_of rest part)) || eqb (length (held_of rest part)) part) ≡ true
      by (Standing.at_gap g l e f q) = rw f
      by (Standing.inside i o q) = rw (eq-eqb (length (held_of rest part)) part (omega (arith, held_length, ap length q))) (or_true (is_clear (open_of (whole_of rest part))))

  going_kept : kept_fits (going_state at rest part) ≡ true
  unfolding kept_fits
  going_kept =
      rw (
        le-leb part 3 (all_bound rest part k.utf8).1,
        le-leb part (length (held_of rest part)) (omega (arith, held_length)),
        le-leb (length (held_of rest part)) most_held held_few,
        le-leb (at + length (held_of rest part)) (at + length rest) (omega (arith, held_less)),
        gap_fits,
      )

  pub going_in_order : in_order (going_state at rest part) ≡ true
  unfolding in_order refusal_fits is_none
  going_in_order = rw (le-leb (at + length rest) most_taken k.size, going_kept, open_ok (whole_of rest part) (at + length rest) (omega (arith, whole_length)))

-- ---- a refusal that was given

pub given_number : (d : Refusal) (n : ℕ) → is_given d n ≡ true → eqb d.number 0 ≡ false
unfolding is_given
given_number d n h =
    let k = (and_true (within 1 21 d.number || eqb d.number 30) (leb d.place n && reason_fits d) h).0 in
    ne_eqb d.number 0 (λ z. go (or_cases (within 1 21 d.number) (eqb d.number 30) k) z)
  where
    go : (within 1 21 d.number ≡ true) ⊎ (eqb d.number 30 ≡ true) → d.number ≡ 0 → ⊥
    go (inl e) z = omega (arith, within_true 1 21 d.number e)
    go (inr e) z = omega (arith, eqb-true d.number 30 e)

pub stopped_in_order : (taken former : ℕ) (d : Refusal) → StopsSo taken former d → in_order (stopped_state taken former d) ≡ true
unfolding in_order kept_fits refusal_fits
stopped_in_order taken former d k =
    rw (le-leb taken most_taken k.size, le-leb (former + 0) taken (omega (arith, k.late)), k.given) (or_true (is_none d))

-- ---- (c) and (a)

-- document 02: 23 is "never for [a state] that these calls made"
pub shown_in_order : {c : Coming} {t : ℕ} {a : Arrival} {kept : List ℕ} → Shows c t a kept → in_order a ≡ true
shown_in_order (Shows.shows_going at rest part k) = going_in_order at rest part k
shown_in_order (Shows.shows_shut taken former d k) = stopped_in_order taken former d k
shown_in_order (Shows.shows_halted taken former d k) = stopped_in_order taken former d k

-- what is kept has as many bytes as the state says, and never more than may be held
pub shown_kept : {c : Coming} {t : ℕ} {a : Arrival} {kept : List ℕ} → Shows c t a kept → (a.kept ≡ length kept) × (length kept ≤ most_held)
shown_kept (Shows.shows_going at rest part k) = (refl, held_few at rest part k)
shown_kept (Shows.shows_shut taken former d k) = (refl, omega arith)
shown_kept (Shows.shows_halted taken former d k) = (refl, omega arith)

-- the beginning
pub begun_goes : GoesOn 0 [] 0
unfolding gap_of gap_from allowed_of utf8_of utf8_from ron_once starts_nothing char_len
begun_goes = record { utf8 = refl; calm = refl; size = omega arith; held = λ g h. omega arith }

pub begun_shows : Shows (going 0 []) 0 begun []
unfolding kept_of open_of open_from gap_of gap_from
begun_shows = Shows.shows_going 0 [] 0 begun_goes
