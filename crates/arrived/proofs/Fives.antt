-- 5 behind a `/` is given with the last byte of its character: what stands before that byte is kept (`five-front`), and with it the text is refused (`five-step`).
-- Assumes nothing.
use Prim.Native.Nat.{ℕ, ◌+◌}
use native.Mathlib.Nat.{sub_self}
use native.Mathlib.Omega.{arith}
use mathlib.Core.Bool.{true, false}
use mathlib.Core.List.{List, [], ◌++◌, ◌∷◌, append_assoc, append-nil}
use mathlib.Core.Logic.{◌⊎◌, inl, inr}
use mathlib.Core.Path.{◌≡◌, ap, refl, subst, sym, ◌∙◌}
use lib.ListN.{drop, get_or, length, length-append}
use Rattle.text.proofs.Utf8Agree.{char_encode, char_pos, char_len_char}
use Rattle.text.specs.Refusals.{eof, placed_behind, unexpected_char}
use Rattle.text.specs.Utf8.{Char, Text, char_len, encode}
use Rattle.text.specs.Utf8.Char.{utf8_1}
use Rattle.text.specs.declared.refusal.Refusal.{Refusal}
use Rattle.comments.specs.Gaps.{gap_of}
use Rattle.comments.specs.declared.gap.Gap.TheVariants as gap
use Rattle.rows.specs.declared.Entry.{Entry}
use Rattle.gapped.proofs.Exactly.{five_exactly, six_exactly}
use Rattle.gapped.specs.Gap.{Gap}
use Rattle.octets.proofs.Cutting.{text_append}
use Rattle.octets.proofs.Exactly.{text_all}
use Rattle.octets.specs.Octets.{Cut, allowed_of}
use Rattle.octets.specs.Octets.Begins.{begins}
use Rattle.octets.specs.declared.answer.Allowed.TheVariants.{All}
use Rattle.reading.proofs.Steps.{not_broken, read_refuse}
use Rattle.reading.specs.Readings.{Reading, end_of, read_part, ◌▸◌}
use Rattle.reading.specs.Readings.Reading.{broken}
use Rattle.reading.specs.Tokens.Answer.{refuse}
use Rattle.tokens.specs.Ron.{by_gap, ron_token}
use Rattle.arriving.specs.Arrivals.{Given, is_refused, step}
use Rattle.arriving.specs.Arrivals.Coming.{going, shut}
use Rattle.arriving.specs.Arrivals.Passing.{halt, pass}
use Rattle.arriving.specs.Owing.{tells_end}
use Rattle.settled.proofs.CharEnds.{front_char}
use Rattle.settled.proofs.Owed.{ron}
use Rattle.settled.proofs.RonArrives.{ron_laws}
use Rattle.settled.specs.Bytes.{stops_byte}
use Rattle.settled.specs.Settled.{ron_once, ron_reader}
use Rattle.pieces.specs.Bars.{bar_of}
use Rattle.arrived.proofs.Bounds.{ascii_text, behind_ascii, gap_keeps}
use Rattle.arrived.proofs.GapCuts.{gap_front}
use Rattle.arrived.proofs.Parts.{char_some}
use Rattle.arrived.proofs.PieceLaws.{Fronts, Stepped, left_by, step_view}
use Rattle.arrived.proofs.States.{five_once}
use Rattle.arrived.proofs.Waiting.{Within}

-- ---- the byte that gives it

-- whole characters that are refused with 5 at p: a gap and the `/`, the front of the character behind it, and its last byte
pub record FiveFront (w : List ℕ) (p : ℕ) : Type 0 where
  pub front : List ℕ
  pub part : List ℕ
  pub last : ℕ
  pub back : List ℕ
  pub is : w ≡ (front ++ part) ++ last ∷ back
  pub within : Within front
  pub text : Text front
  pub cut : Cut part
  pub here : gap_of ((front ++ part) ++ last ∷ []) ≡ gap.Refused (unexpected_char p)
  pub whole : Text ((front ++ part) ++ last ∷ [])
  pub long : length (front ++ part) + 1 ≡ p

-- the last byte of a list
last_of : (a : ℕ) (s : List ℕ) → (u : List ℕ) × (b : ℕ) × (a ∷ s ≡ u ++ b ∷ [])
last_of a [] = ([], a, refl)
last_of a (c ∷ s) = let (u, b, e) = last_of c s in (a ∷ u, b, ap {B = List ℕ} (λ (t : List ℕ). a ∷ t) e)

-- a character without its last byte
char_cut : (u : List ℕ) (b : ℕ) → Char (u ++ b ∷ []) → Cut u
char_cut [] b ch = inl refl
char_cut (a ∷ u) b ch = inr (begins b [] ch)

eof_ends : (n : ℕ) → tells_end (eof n) ≡ true
unfolding tells_end
eof_ends n = refl

module _ (w : List ℕ) (p : ℕ) (x : Text w) (e : gap_of w ≡ gap.Refused (unexpected_char p)) where
  pub five_front : FiveFront w p
  five_front =
      let (b, v, stray, far) = (five_exactly w p).0 e in
      let f = gap_front stray.0 (λ u z. (let y : 0x2f ≡ 0x0a = ap (λ (l : List ℕ). get_or l 0 0) z in omega arith)) in
      let here : allowed_of (b ∷ v) ≡ All 0 = behind_ascii [] 0x2f (b ∷ v) (omega arith) 0 (gap_keeps stray.0 0 (text_all w x)) in
      let c = front_char (b ∷ v) (char_some (b ∷ v) 0 here (omega arith)) in
      let pre : Text f.before = ascii_text f.before 0x2f (b ∷ v) 0 (omega arith) (ap allowed_of (sym f.is) ∙ text_all w x) in
      go b v stray.1 stray.2 f.before f.is f.again pre far (encode c.code) c.rest c.split (char_encode c.code c.scalar)
    where
      go : (b : ℕ) (v : List ℕ) → (b ≡ 0x2f → ⊥) → (b ≡ 0x2a → ⊥) → (before : List ℕ) → w ≡ before ++ 0x2f ∷ b ∷ v → ((z : List ℕ) → Gap (before ++ z) z) → Text before
          → p + length (b ∷ v) ≡ length w + char_len (b ∷ v) → (ch t : List ℕ) → b ∷ v ≡ ch ++ t → Char ch → FiveFront w p
      go b v no_line no_block before is again pre far [] t s ch = absurd (omega (arith, char_pos ch))
      go b v no_line no_block before is again pre far (a ∷ r) t s ch =
          let (u, l, q) = last_of a r in
          let first : a ≡ b = ap (λ (y : List ℕ). get_or y 0 0) (sym s) in
          let g : List ℕ = before ++ 0x2f ∷ [] in
          let wide : char_len (b ∷ v) ≡ length (a ∷ r) = ap char_len s ∙ char_len_char (a ∷ r) t ch in
          let alone : char_len (a ∷ r) ≡ length (a ∷ r) = ap char_len (sym (append-nil (a ∷ r))) ∙ char_len_char (a ∷ r) [] ch in
          let tg : Text g = text_append pre (0x2f ∷ []) (Text.more (utf8_1 {a = 0x2f} (omega arith)) Text.none) in
          let ends : (y : List ℕ) → (g ++ u) ++ l ∷ y ≡ before ++ 0x2f ∷ ((u ++ l ∷ []) ++ y) = λ y. simp append_assoc in
          let own : before ++ 0x2f ∷ (a ∷ r) ≡ (g ++ u) ++ l ∷ [] = ap (λ (y : List ℕ). before ++ 0x2f ∷ y) (q ∙ sym (append-nil (u ++ l ∷ []))) ∙ sym (ends []) in
          let lu : length (a ∷ r) ≡ length u + 1 = ap length q ∙ length-append u (l ∷ []) in
          let lw : length w ≡ length before + (1 + length (b ∷ v)) = ap length is ∙ length-append before (0x2f ∷ b ∷ v) ∙ omega arith in
          let lg : length (g ++ u) ≡ length before + 1 + length u = omega (arith, length-append g u, length-append before (0x2f ∷ [])) in
          let six : gap_of g ≡ gap.Refused (eof (length g)) = (six_exactly g (length g)).1 (refl, again (0x2f ∷ [])) in
          let five : gap_of (before ++ 0x2f ∷ a ∷ r) ≡ gap.Refused (unexpected_char p) =
          (five_exactly (before ++ 0x2f ∷ a ∷ r) p).1
          (a, r, (again (0x2f ∷ a ∷ r), λ z. no_line (sym first ∙ z), λ z. no_block (sym first ∙ z)), omega (arith, length-append before (0x2f ∷ a ∷ r))) in
          record {
            front = g;
            part = u;
            last = l;
            back = t;
            is = is ∙ ap (λ (y : List ℕ). before ++ 0x2f ∷ y) (s ∙ ap (λ (y : List ℕ). y ++ t) q) ∙ sym (ends t);
            within = Within.unclosed (eof (length g)) six (eof_ends (length g));
            text = tg;
            cut = char_cut u l (subst Char q ch);
            here = ap gap_of (sym own) ∙ five;
            whole = subst Text (sym (append_assoc g u (l ∷ []))) (text_append tg (u ++ l ∷ []) (subst Text (append-nil (u ++ l ∷ [])) (Text.more (subst Char q ch) Text.none)));
            long = omega arith;
          }

-- ---- with it the text is refused

-- no entry stands before a refusal
none_before : (es : List Entry) (r : Reading) (d : Refusal) → broken d ≡ es ▸ r → es ≡ []
none_before [] r d e = refl
none_before (x ∷ es) r d e = not_broken e

pub five_step : (at : ℕ) (x : List ℕ) (b p : ℕ) → Text (x ++ b ∷ []) → gap_of (x ++ b ∷ []) ≡ gap.Refused (unexpected_char p) → bar_of at x b ≡ pass
    → step ron_reader bar_of (going at x) b ≡ record { entries = []; next = shut (unexpected_char (at + p)); bytes = 1 }
unfolding ron_token end_of
five_step at x b p t e free = go (step_view ron_reader bar_of ron at x b)
  where
    s : List ℕ
    s = x ++ b ∷ []

    answer : ron_token (x ++ b ∷ []) ≡ refuse (unexpected_char p)
    answer = ap (by_gap (x ++ b ∷ [])) e

    none : (es : List Entry) → Fronts ron_reader bar_of at x b es → es ≡ []
    none es f =
        none_before es (read_part ron_token (end_of at es) (left_by ron_reader bar_of at x b es ++ [])) (placed_behind at (unexpected_char p))
        (sym (read_refuse ron_token stops_byte ron_laws at (x ++ b ∷ []) (unexpected_char p) answer) ∙ f [])

    left : (es : List Entry) → es ≡ [] → left_by ron_reader bar_of at x b es ≡ x ++ b ∷ []
    left es h = ap (left_by ron_reader bar_of at x b) h ∙ ap (λ (n : ℕ). drop n (x ++ b ∷ [])) (sub_self at)

    once : ron_once (x ++ b ∷ []) ≡ true
    once = ap ron_once (sym (append-nil (x ++ b ∷ []))) ∙ five_once (x ++ b ∷ []) [] p t e

    goes_not : (es : List Entry) → es ≡ [] → (ron_once (left_by ron_reader bar_of at x b es) ≡ false) ⊎ (is_refused (ron_token (left_by ron_reader bar_of at x b es)) ≡ false) → ⊥
    goes_not es h (inl c) = let z : true ≡ false = sym once ∙ ap ron_once (sym (left es h)) ∙ c in let k : ◌≡◌ {A = ℕ} 0 1 = cc in omega arith
    goes_not es h (inr c) =
        let z : true ≡ false = sym (ap is_refused answer) ∙ ap (λ (y : List ℕ). is_refused (ron_token y)) (sym (left es h)) ∙ c in
        let k : ◌≡◌ {A = ℕ} 0 1 = cc in omega arith

    go : {g : Given} → Stepped ron_reader bar_of at x b g → g ≡ record { entries = []; next = shut (unexpected_char (at + p)); bytes = 1 }
    go (Stepped.halts d h) = let z : pass ≡ halt d = sym free ∙ h in let k : ◌≡◌ {A = ℕ} 0 1 = cc in absurd (omega arith)
    go (Stepped.goes es h f c) = absurd (goes_not es (none es f) c)
    go (Stepped.shuts es d h f q) =
        let n = none es f in
        let z : refuse (unexpected_char p) ≡ refuse d = sym answer ∙ ap ron_token (sym (left es n)) ∙ q in
        let y : unexpected_char p ≡ d = cc in
        ap (λ (k : List Entry). record { entries = k; next = shut (placed_behind (end_of at k) d); bytes = 1 }) n
        ∙ ap (λ (k : Refusal). record { entries = []; next = shut (placed_behind at k); bytes = 1 }) (sym y)
