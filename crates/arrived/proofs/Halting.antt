-- The byte that is not taken (`halts_at`), over a text from its beginning why it is not (`halts-why`): 30, 1 or 2, and over a sound text 30 alone (`only-30`).
-- Assumes nothing.
use Prim.Native.Nat.{ℕ, suc, ◌+◌, ◌-◌, ◌<◌, ◌≤◌}
use native.Mathlib.Omega.{arith}
use mathlib.Core.List.{List, [], ◌++◌, ◌∷◌, append_assoc, append-nil}
use mathlib.Core.Path.{◌≡◌, ap, ap₂, refl, subst, sym, ◌∙◌}
use lib.Dec.{leb}
use lib.ListN.{drop, length, length-append, take, take-append-drop}
use lib.Seq.{append_snoc, take-append_seam}
use borrow.Author.Tests.{leb-true}
use Rattle.text.proofs.Choices.{bool_cases, either, lt_or_le}
use Rattle.text.specs.Refusals.{entry_too_long, not_utf8, placed_behind, too_long}
use Rattle.text.specs.Utf8.{Text}
use Rattle.text.specs.declared.refusal.Refusal.{Refusal}
use Rattle.comments.specs.Gaps.{gap_of}
use Rattle.comments.specs.declared.gap.Gap.{Gap}
use Rattle.comments.specs.declared.gap.Gap.TheVariants as gap
use Rattle.rows.specs.declared.Entry.{Entry}
use Rattle.octets.proofs.Cutting.{all_bound, allowed_on, allowed_stays, bad_bounds, front_past}
use Rattle.octets.proofs.Exactly.{text_all}
use Rattle.octets.specs.Octets.{allowed_of, further}
use Rattle.octets.specs.declared.answer.Allowed.{Allowed}
use Rattle.octets.specs.declared.answer.Allowed.TheVariants.{All, Bad}
use Rattle.reading.specs.Readings.{end_of, read_part}
use Rattle.tokens.specs.Ron.{ron_token}
use Rattle.arriving.proofs.Whole.{front}
use Rattle.arriving.specs.Arrivals.{Coming, Given, Passing, piece}
use Rattle.arriving.specs.Arrivals.Coming.{going, halted, shut}
use Rattle.arriving.specs.Arrivals.Passing.{halt, pass}
use Rattle.arriving.specs.Owing.{Owes, Reader}
use Rattle.settled.proofs.Owed.{ron}
use Rattle.settled.specs.Settled.{ron_reader}
use Rattle.pieces.specs.Bars.{bar_by, bar_of, most_held}
use Rattle.pieces.specs.Orders.{most_taken}
use Rattle.arrived.specs.Ruled.{Barred, first_bar, rule_bar, size_bar, text_gives, utf8_bar}
use Rattle.arrived.specs.Shown.{GoesOn, part_of}
use Rattle.arrived.proofs.Bounds.{entries_keep, further_all}
use Rattle.arrived.proofs.Fits.{Fits, fits_piece, rule_pass}
use Rattle.arrived.proofs.PieceLaws.{Left, Stepped, halted_piece, left_by, piece_none, piece_rest, piece_step, shut_piece, step_view, then}
use Rattle.arrived.proofs.States.{begun_goes}
use Rattle.arrived.proofs.Taken.{part_append}

-- ---- the byte

module _ (R : Reader) (bar : ℕ → List ℕ → ℕ → Passing) (O : Owes R) where
  -- behind the bytes u of w, where the last entry ended at `to` and r has come behind it, the byte b is not taken
  pub record Halts (at : ℕ) (x w : List ℕ) (d : Refusal) : Type 0 where
    pub before : List ℕ
    pub byte : ℕ
    pub back : List ℕ
    pub is : w ≡ before ++ byte ∷ back
    pub to : ℕ
    pub rest : List ℕ
    pub goes : (piece R bar (going at x) before).next ≡ going to rest
    pub barred : bar to rest byte ≡ halt d
    pub entries_same : (piece R bar (going at x) w).entries ≡ (piece R bar (going at x) before).entries
    pub bytes_are : (piece R bar (going at x) w).bytes ≡ length before

  -- one byte more before it
  more_before : (at : ℕ) (x w : List ℕ) (b : ℕ) (d : Refusal) (es : List Entry) (mid : ℕ) (y : List ℕ)
      → piece R bar (going at x) (b ∷ w) ≡ then R bar (record { entries = es; next = going mid y; bytes = 1 }) w
      → ((z : List ℕ) → piece R bar (going at x) (b ∷ z) ≡ then R bar (record { entries = es; next = going mid y; bytes = 1 }) z)
      → Halts mid y w d → Halts at x (b ∷ w) d
  more_before at x w b d es mid y e f h = record {
    before = b ∷ h.before;
    byte = h.byte;
    back = h.back;
    is = ap {B = List ℕ} (λ (t : List ℕ). b ∷ t) h.is;
    to = h.to;
    rest = h.rest;
    goes = ap (λ (g : Given). g.next) (f h.before) ∙ h.goes;
    barred = h.barred;
    entries_same = ap (λ (g : Given). g.entries) e ∙ ap (λ (fs : List Entry). es ++ fs) h.entries_same ∙ sym (ap (λ (g : Given). g.entries) (f h.before));
    bytes_are = ap (λ (g : Given). g.bytes) e ∙ ap (λ (n : ℕ). 1 + n) h.bytes_are ∙ omega arith;
  }

  pub halts_at : (w x : List ℕ) (at : ℕ) (d : Refusal) → (piece R bar (going at x) w).next ≡ halted d → Halts at x w d
  halts_at [] x at d e =
      let z : going at x ≡ halted d = ap (λ (g : Given). g.next) (sym (piece_none R bar (going at x))) ∙ e in
      let k : ◌≡◌ {A = ℕ} 0 1 = cc in absurd (omega arith)
  halts_at (b ∷ w) x at d e = go (step_view R bar O at x b) (λ z. piece_step R bar (going at x) b z) (λ y a h. halts_at w y a d h)
    where
      go : {g : Given} → Stepped R bar at x b g → ((z : List ℕ) → piece R bar (going at x) (b ∷ z) ≡ then R bar g z)
          → ((y : List ℕ) (a : ℕ) → (piece R bar (going a y) w).next ≡ halted d → Halts a y w d) → Halts at x (b ∷ w) d
      go (Stepped.halts c p) f ih =
          let all : piece R bar (going at x) (b ∷ w) ≡ record { entries = []; next = halted c; bytes = 0 } =
          f w ∙ ap (λ (g : Given). record { entries = g.entries; next = g.next; bytes = 0 + g.bytes }) (halted_piece R bar w c) in
          let z : halted c ≡ halted d = sym (ap (λ (g : Given). g.next) all) ∙ e in
          let same : c ≡ d = cc in
          record {
            before = [];
            byte = b;
            back = w;
            is = refl;
            to = at;
            rest = x;
            goes = ap (λ (g : Given). g.next) (piece_none R bar (going at x));
            barred = p ∙ ap halt same;
            entries_same = ap (λ (g : Given). g.entries) all ∙ sym (ap (λ (g : Given). g.entries) (piece_none R bar (going at x)));
            bytes_are = ap (λ (g : Given). g.bytes) all;
          }
      go (Stepped.shuts es c p q r) f ih =
          let c' : Refusal = placed_behind (end_of at es) c in
          let z : shut c' ≡ halted d = sym (ap (λ (g : Given). g.next) (f w) ∙ ap (λ (g : Given). g.next) (shut_piece R bar w c')) ∙ e in
          let k : ◌≡◌ {A = ℕ} 0 1 = cc in absurd (omega arith)
      go (Stepped.goes es p q c) f ih =
          more_before at x w b d es (end_of at es) (left_by R bar at x b es) (f w) f
          (ih (left_by R bar at x b es) (end_of at es) (sym (ap (λ (g : Given). g.next) (f w)) ∙ e))

-- ---- 30

pub bar_why : (at : ℕ) (x : List ℕ) (b : ℕ) (d : Refusal) → bar_of at x b ≡ halt d → (g : ℕ) × (gap_of x ≡ gap.Clear g) × (d ≡ entry_too_long (at + g)) × (g + most_held ≤ length x)
unfolding bar_of
bar_why at x b d h = by (gap_of x) refl h
  where
    by : (a : Gap) → gap_of x ≡ a → bar_by at x a ≡ halt d → (g : ℕ) × (gap_of x ≡ gap.Clear g) × (d ≡ entry_too_long (at + g)) × (g + most_held ≤ length x)
    by (gap.Clear g) e h =
        either (bool_cases (leb (g + most_held) (length x)))
        (λ t. let q : halt (entry_too_long (at + g)) ≡ halt d = rw t at h in let z : entry_too_long (at + g) ≡ d = cc in (g, e, sym z, leb-true (g + most_held) (length x) t))
        (λ t. let q : pass ≡ halt d = rw t at h in let z : ◌≡◌ {A = ℕ} 0 1 = cc in absurd (omega arith))
    by (gap.InLine n) e h = let z : ◌≡◌ {A = ℕ} 0 1 = cc in absurd (omega arith)
    by (gap.Refused r) e h = let z : ◌≡◌ {A = ℕ} 0 1 = cc in absurd (omega arith)

-- ---- the bytes that were taken are UTF-8 but for the front of a character

-- two lists with the same front of a character at their end go on alike
on_alike : (x y w : List ℕ) (p i : ℕ) → allowed_of x ≡ All p → allowed_of y ≡ All p → part_of x p ≡ part_of y p → allowed_of (y ++ w) ≡ All i → allowed_of (x ++ w) ≡ All i
on_alike x y w p i ex ey e h =
    let one = (allowed_on x p ex w).1 in
    let two = (allowed_on y p ey w).1 in
    let same : allowed_of (part_of y p ++ w) ≡ All i = further_all (length y - p) i (allowed_of (part_of y p ++ w)) (sym two ∙ h) in
    one ∙ ap (λ (t : List ℕ). further (length x - p) (allowed_of (t ++ w))) e ∙ ap (further (length x - p)) same

pub going_allowed : (w x : List ℕ) (at p to : ℕ) (r : List ℕ) → allowed_of x ≡ All p → (piece ron_reader rule_bar (going at x) w).next ≡ going to r → (i : ℕ) × (allowed_of (x ++ w) ≡ All i)
going_allowed [] x at p to r ex e = (p, ap allowed_of (append-nil x) ∙ ex)
going_allowed (b ∷ w) x at p to r ex e = go (step_view ron_reader rule_bar ron at x b) (piece_step ron_reader rule_bar (going at x) b w) (λ y a q ey h. going_allowed w y a q to r ey h)
  where
    go : {g : Given} → Stepped ron_reader rule_bar at x b g → piece ron_reader rule_bar (going at x) (b ∷ w) ≡ then ron_reader rule_bar g w
        → ((y : List ℕ) (a q : ℕ) → allowed_of y ≡ All q → (piece ron_reader rule_bar (going a y) w).next ≡ going to r → (i : ℕ) × (allowed_of (y ++ w) ≡ All i))
        → (i : ℕ) × (allowed_of (x ++ b ∷ w) ≡ All i)
    go (Stepped.halts c h) f ih =
        let z : halted c ≡ going to r = sym (ap (λ (g : Given). g.next) f ∙ ap (λ (g : Given). g.next) (halted_piece ron_reader rule_bar w c)) ∙ e in
        let k : ◌≡◌ {A = ℕ} 0 1 = cc in absurd (omega arith)
    go (Stepped.shuts es c h q t) f ih =
        let c' : Refusal = placed_behind (end_of at es) c in
        let z : shut c' ≡ going to r = sym (ap (λ (g : Given). g.next) f ∙ ap (λ (g : Given). g.next) (shut_piece ron_reader rule_bar w c')) ∙ e in
        let k : ◌≡◌ {A = ℕ} 0 1 = cc in absurd (omega arith)
    go (Stepped.goes es h q c) f ih =
        let s : List ℕ = x ++ b ∷ [] in
        let y : List ℕ = left_by ron_reader rule_bar at x b es in
        let t = rule_pass at x b h in
        let m : ℕ = t.part in
        let ey : allowed_of y ≡ All m = entries_keep es at s (read_part ron_token (end_of at es) (y ++ [])) (q []) m t.utf8 in
        let k : ℕ = end_of at es - at in
        let same : part_of s m ≡ part_of y m = ap (λ (l : List ℕ). part_of l m) (sym (take-append-drop k s)) ∙ part_append (take k s) y m (all_bound y m ey).0 in
        let n = ih y (end_of at es) m ey (sym (ap (λ (g : Given). g.next) f) ∙ e) in
        (n.0, ap allowed_of (sym (append_assoc x (b ∷ []) w)) ∙ on_alike s y w m n.0 t.utf8 ey same n.1)

-- ---- why a byte of a text is not taken

-- where all of u may be taken and with b no UTF-8 goes on, that is the first byte with which none does
bad_first : (u : List ℕ) (b : ℕ) (z : List ℕ) (i n k : ℕ) → allowed_of u ≡ All i → allowed_of (u ++ b ∷ []) ≡ Bad n k → allowed_of (u ++ b ∷ z) ≡ Bad (length u) k
bad_first u b z i n k eu e =
    let l = (bad_bounds (u ++ b ∷ []) n k e).0 in
    let late : length u ≤ n =
    either (lt_or_le n (length u))
    (λ h. let j : ℕ = length u - n - 1 in
    let q : n + suc j ≡ length u = omega arith in
    let c : Bad n k ≡ All i =
    sym (front_past (u ++ b ∷ []) n k e j) ∙ ap (λ (m : ℕ). allowed_of (take m (u ++ b ∷ []))) q ∙ ap allowed_of (take-append_seam u (b ∷ [])) ∙ eu in
    let y : ◌≡◌ {A = ℕ} 0 1 = cc in absurd (omega arith))
    (λ h. h) in
    let same : n ≡ length u = omega (arith, length-append u (b ∷ [])) in
    ap allowed_of (sym (append_snoc u b z)) ∙ allowed_stays (u ++ b ∷ []) n k e z ∙ ap (λ (m : ℕ). Bad m k) same

module _ (text : List ℕ) (d : Refusal) (h : Halts ron_reader rule_bar ron 0 [] text d) where
  abbrev u : List ℕ
  u = h.before

  abbrev b : ℕ
  b = h.byte

  front_text : take (length h.before) text ≡ h.before
  front_text = ap (take (length u)) h.is ∙ take-append_seam u (b ∷ h.back)

  left : Left ron_reader rule_bar 0 [] h.before (piece ron_reader rule_bar (going 0 []) h.before) h.to h.rest
  left = piece_rest ron_reader rule_bar ron u [] 0 h.to h.rest h.goes

  fits : Fits (going h.to h.rest) (0 + (piece ron_reader rule_bar (going 0 []) h.before).bytes) (end_of 0 (piece ron_reader rule_bar (going 0 []) h.before).entries)
  fits =
      subst (λ (c : Coming). Fits c (0 + (piece ron_reader rule_bar (going 0 []) u).bytes) (end_of 0 (piece ron_reader rule_bar (going 0 []) u).entries)) h.goes
      (fits_piece u (going 0 []) 0 0 (refl, refl, (0, begun_goes)))

  goes-on : GoesOn h.to h.rest fits.2.0
  goes-on = fits.2.1

  come : h.to + length h.rest ≡ length h.before
  come = omega (arith, fits.0, left.bytes_are)

  -- with the byte b no UTF-8 goes on
  bad_text : (n k : ℕ) → allowed_of (h.rest ++ h.byte ∷ []) ≡ Bad n k → allowed_of text ≡ Bad (length h.before) (h.to + k)
  bad_text n k e =
      let r : List ℕ = h.rest in
      let to : ℕ = h.to in
      let all = going_allowed u [] 0 0 to r (text_all [] Text.none) h.goes in
      let i : ℕ = all.0 in
      let eu : allowed_of u ≡ All i = all.1 in
      let read = front ron_reader ron rule_bar u [] (going 0 []) to r h.goes in
      let er : allowed_of r ≡ All i =
      ap allowed_of (left.rest_is ∙ ap₂ (λ (m : ℕ) (t : List ℕ). drop (m - 0) t) left.end_is (sym (append-nil u)))
      ∙ entries_keep (piece ron_reader rule_bar (going 0 []) u).entries 0 (u ++ []) (read_part ron_token to (r ++ [])) read i (ap allowed_of (append-nil u) ∙ eu) in
      let split : u ≡ take (to - 0) u ++ r = sym (take-append-drop (to - 0) u) ∙ ap (λ (t : List ℕ). take (to - 0) u ++ t) (sym left.rest_is) in
      let lr : i ≤ length r = (all_bound r i er).0 in
      let same : part_of r i ≡ part_of u i = sym (ap (λ (t : List ℕ). part_of t i) split ∙ part_append (take (to - 0) u) r i lr) in
      let on-r = (allowed_on r i er (b ∷ [])).1 in
      let on-u = (allowed_on u i eu (b ∷ [])).1 in
      let f : further (length r - i) (allowed_of (part_of u i ++ b ∷ [])) ≡ Bad n k = ap (λ (t : List ℕ). further (length r - i) (allowed_of (t ++ b ∷ []))) (sym same) ∙ sym on-r ∙ e in
      let lu : i ≤ length u = (all_bound u i eu).0 in
      by (allowed_of (part_of u i ++ b ∷ [])) f on-u lr eu
    where
      by : (a : Allowed) {i : ℕ} → further (length h.rest - i) a ≡ Bad n k → allowed_of (u ++ b ∷ []) ≡ further (length u - i) a → i ≤ length h.rest → allowed_of u ≡ All i
          → allowed_of text ≡ Bad (length u) (h.to + k)
      by (All j) f g l eu = let z : ◌≡◌ {A = ℕ} 0 1 = cc in absurd (omega arith)
      by (Bad m j) {i} f g l eu =
          let q : j + (length h.rest - i) ≡ k = cc in
          let p : j + (length u - i) ≡ h.to + k = omega (arith, come) in
          ap allowed_of h.is ∙ bad_first u b h.back i (m + (length u - i)) (j + (length u - i)) eu g ∙ ap (Bad (length u)) p

  size_why : size_bar h.to h.rest h.byte ≡ halt d → Barred text (length h.before) d
  unfolding size_bar
  size_why e =
      either (bool_cases (leb most_taken (h.to + length h.rest)))
      (λ t. let q : halt too_long ≡ halt d = rw t at e in
      let z : too_long ≡ d = cc in
      subst (Barred text (length u)) z (Barred.long_text (omega (arith, come, leb-true most_taken (h.to + length h.rest) t, goes-on.size))))
      (λ t. let q : utf8_bar h.to (allowed_of (h.rest ++ b ∷ [])) ≡ halt d = rw t at e in by (allowed_of (h.rest ++ b ∷ [])) refl q)
    where
      by : (a : Allowed) → allowed_of (h.rest ++ h.byte ∷ []) ≡ a → utf8_bar h.to a ≡ halt d → Barred text (length h.before) d
      by (All m) f q = let z : ◌≡◌ {A = ℕ} 0 1 = cc in absurd (omega arith)
      by (Bad n k) f q =
          let z : not_utf8 (h.to + k) ≡ d = cc in
          subst (Barred text (length u)) z (Barred.bad_utf8 (h.to + k) (bad_text n k f))

  why : Barred text (length h.before) d
  unfolding rule_bar
  why = by (bar_of h.to h.rest h.byte) refl h.barred
    where
      by : (p : Passing) → bar_of h.to h.rest h.byte ≡ p → first_bar p (size_bar h.to h.rest h.byte) ≡ halt d → Barred text (length h.before) d
      by pass f q = size_why q
      by (halt c) f q =
          let z : c ≡ d = cc in
          let (g, e, i, l) = bar_why h.to h.rest h.byte c f in
          subst (Barred text (length u)) (sym i ∙ z)
          (Barred.long_entry h.to g h.rest (ap (λ (t : List ℕ). (text_gives t).next) front_text ∙ h.goes) e (omega (arith, goes-on.held g e)))

-- document 02: the "three exceptions"; n is how many bytes were taken, and a byte follows them
pub halts_why : (text : List ℕ) (d : Refusal) → (text_gives text).next ≡ halted d → Barred text (text_gives text).bytes d × ((text_gives text).bytes < length text)
halts_why text d e =
    let h = halts_at ron_reader rule_bar ron text [] 0 d e in (
      subst (λ (n : ℕ). Barred text n d) (sym h.bytes_are) (why text d h),
      omega (arith, h.bytes_are, ap length h.is, length-append h.before (h.byte ∷ h.back)),
    )
