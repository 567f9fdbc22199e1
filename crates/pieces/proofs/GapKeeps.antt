-- Whitespace and comments that reach to the end of what has come decide nothing, nor does the front of a character behind them: all is kept.
--     within_reaches                         where a gap says so, it reaches to the end
--     reach_keeps, passed_keeps              its bytes are kept
--     cut_bytes, cut_lead, cut_front, cut_no_char    what a front of a character is made of
--     part_keeps, then_keeps, within_keeps   such a front behind it is kept; what is kept piece after piece; both together
--     clear_with_part                        such a front behind what has begun leaves the gap as it is
-- Assumes nothing.
use Rattle.std.proofs.Common.{None}
use Prim.Native.Nat.{ℕ, suc, ◌*◌, ◌+◌, ◌-◌, ◌<◌, ◌≤◌, pred}
use native.Mathlib.Omega.{arith}
use mathlib.Core.Bool.{Bool, true, false, cond}
use mathlib.Core.List.{List, [], ◌++◌, ◌∷◌, append_assoc, append-nil}
use mathlib.Core.Logic.{inl, inr}
use mathlib.Core.Path.{◌≡◌, ap, ap₂, refl, subst, sym, ◌∙◌}
use lib.Dec.{eqb, ltb}
use lib.ListN.{drop, drop_of_length-le, get_or, length, length-append, length-drop, take, take-append-drop}
use lib.Seq.{drop-append-add, drop-append-le, length-take-le, take-append-add, take-append-le, take-take}
use borrow.Author.Tests.{le-ltb, lt-leb, ltb-false, ne_eqb}
use Rattle.text.proofs.Choices.{and_false, either, lt_or_le}
use Rattle.text.specs.Refusals.{eof, unclosed_block_comment, unexpected_char}
use Rattle.text.proofs.Utf8Agree.{char_encode, char_len_char}
use Rattle.text.specs.Utf8.{Char, char_len, encode}
use Rattle.text.specs.Utf8.Char.{utf8_1, utf8_2, utf8_3a, utf8_3b, utf8_3c, utf8_3d, utf8_4a, utf8_4b, utf8_4c}
use Rattle.octets.specs.Octets.{Begins as BeginsChar, Cut}
use Rattle.octets.specs.Octets.Begins.{begins}
use Rattle.octets.proofs.BegunLaws.Stops.{at_end}
use Rattle.octets.proofs.Cutting.{cut_few}
use Rattle.octets.proofs.Exactly.{cut_none}
use Rattle.comments.specs.Gaps.{block_item, by_item, gap_from, gap_of, item_of, line_item}
use Rattle.comments.specs.declared.gap.Gap.{Gap}
use Rattle.comments.specs.declared.gap.Gap.TheVariants as gap
use Rattle.comments.proofs.GapLaws.{gap_step}
use Rattle.comments.proofs.GapWindow.{gap_window_by}
use Rattle.comments.proofs.BlockLaws.{after, step}
use Rattle.comments.specs.Blocks.{block_end, block_from, decision_of}
use Rattle.comments.specs.declared.block.Decision.TheVariants.{PassOn}
use Rattle.comments.specs.Lines.{line_end, line_from}
use Rattle.comments.specs.declared.gap.Item.{Item}
use Rattle.comments.specs.declared.gap.Item.TheVariants.{BlockOpen, Ended, LineOpen, Other, Unexpected}
use Rattle.gapped.proofs.Blanks.{blank_front, encode_pos}
use Rattle.gaps.proofs.BlockOpens.{other_passed}
use Rattle.gaps.proofs.Items.{Front, fronts, item_block, item_last, item_line, item_odd}
use Rattle.gaps.proofs.Canon.{Ways, canon_is, rest, rest_pass, ways}
use Rattle.gaps.specs.Opens.{canon, front, last_byte, marks, open_of}
use Rattle.gaps.specs.Passes.{passed_by, passed_of}
use Rattle.gaps.specs.declared.pass.Passed.TheVariants.{Begins, Within}
use Rattle.gaps.specs.declared.state.Open.{Open}
use Rattle.gaps.specs.declared.state.Open.TheVariants.{Clear, Slash, Line, Block}
use Rattle.tokens.proofs.RonLaws.{gap_end}
use Rattle.tokens.specs.Ron.{by_gap, ron_token}
use Rattle.arriving.proofs.Whole.{both, cut}
use Rattle.arriving.proofs.Waits.{Free, Unlooked, Waits, keeping, unlooked, waits}
use Rattle.arriving.proofs.Waits.Waits.{no_more, not_ended}
use Rattle.arriving.specs.Arrivals.{Given, looks, piece}
use Rattle.arriving.specs.Arrivals.Coming.{going}
use Rattle.arriving.specs.Arrivals.Passing.{pass}
use Rattle.arriving.specs.Owing.{tells_end}
use Rattle.settled.proofs.Owed.{ron}
use Rattle.settled.proofs.CodeLaws.{nothing_cut}
use Rattle.settled.specs.Bytes.{stops_byte}
use Rattle.settled.specs.Settled.{behind_slash, once_behind, ron_once, ron_reader}
use Rattle.pieces.specs.Bars.{bar_by, bar_of}
use Rattle.pieces.proofs.GapCuts.{front_clear, front_free, lead_other}
use Rattle.pieces.proofs.Reaching.{Reaches}
use Rattle.pieces.proofs.RonAlike.{ron_alike, ron_alike_clear}

-- ---- a gap that reaches to the end

pub within_reaches : (y : List ℕ) (o : Open) → passed_of Clear y ≡ Within o → Reaches y
unfolding passed_of front
within_reaches y o h = by (ways y)
  where
    said : (g : Gap) → gap_of y ≡ g → passed_by g (open_of y) 0 (length y) ≡ Within o
    said g e = ap (λ (x : Gap). passed_by x (open_of y) 0 (length y)) (sym e) ∙ h

    clear : (g : ℕ) (t : Bool) → gap_of y ≡ gap.Clear g → g ≤ length y → ltb g (length y) ≡ t → cond t (Begins (g - 0)) (Within Clear) ≡ Within o → Reaches y
    clear g true e l q w = let z : ◌≡◌ {A = ℕ} 0 1 = cc in absurd (omega arith)
    clear g false e l q w =
        let m = ltb-false g (length y) q in
        let s : g ≡ length y = omega arith in
        Reaches.passed (e ∙ ap gap.Clear s)

    by : Ways y → Reaches y
    by (Ways.clear g l e f) = clear g (ltb g (length y)) e l refl (said (gap.Clear g) e)
    by (Ways.ended e f) = Reaches.slash e f
    by (Ways.line e f) = Reaches.line e f
    by (Ways.block level last k e f) = Reaches.block level last k e f
    by (Ways.odd p e f) = let q = said _ e in let z : ◌≡◌ {A = ℕ} 0 1 = cc in absurd (omega arith)

-- ---- its bytes are kept

-- its first token has not begun
reach_waits : (y : List ℕ) (n : ℕ) → Reaches y → Waits n (ron_token y)
unfolding ron_token tells_end
reach_waits y n (Reaches.passed e) = subst (Waits n) (sym (ap (by_gap y) e ∙ gap_end y (length y) (omega arith))) no_more
reach_waits y n (Reaches.slash e f) = subst (Waits n) (sym (ap (by_gap y) e)) (not_ended (eof (length y)) refl)
reach_waits y n (Reaches.line e f) = subst (Waits n) (sym (ap (by_gap y) e)) no_more
reach_waits y n (Reaches.block level last k e f) = subst (Waits n) (sym (ap (by_gap y) e)) (not_ended (unclosed_block_comment (length y)) refl)

-- a gap that ends ends behind it
reach_clear : (y : List ℕ) (g : ℕ) → Reaches y → gap_of y ≡ gap.Clear g → g ≡ length y
reach_clear y g (Reaches.passed e) h = let q : gap.Clear g ≡ gap.Clear (length y) = sym h ∙ e in let z : g ≡ length y = cc in z
reach_clear y g (Reaches.slash e f) h = let q = sym h ∙ e in let z : ◌≡◌ {A = ℕ} 0 1 = cc in absurd (omega arith)
reach_clear y g (Reaches.line e f) h = let q = sym h ∙ e in let z : ◌≡◌ {A = ℕ} 0 1 = cc in absurd (omega arith)
reach_clear y g (Reaches.block level last k e f) h = let q = sym h ∙ e in let z : ◌≡◌ {A = ℕ} 0 1 = cc in absurd (omega arith)

-- no byte of it is barred
reach_free : (y x w : List ℕ) (at : ℕ) → Reaches y → x ++ w ≡ y → Free ron_reader bar_of at x w
reach_free y x w at r e u b z h =
    let all : (x ++ u) ++ b ∷ z ≡ y = append_assoc x u (b ∷ z) ∙ ap (λ (s : List ℕ). x ++ s) (sym h) ∙ e in
    front_free at (x ++ u) (b ∷ z) b
    (λ g l c. (let q = reach_clear y g r (ap gap_of (sym all) ∙ c) in omega (arith, ap length all, length-append (x ++ u) (b ∷ z))))

pub reach_keeps : (y : List ℕ) (i at : ℕ) → Reaches y → i ≤ length y → piece ron_reader bar_of (going at (take i y)) (drop i y) ≡ keeping at y (length y - i)
reach_keeps y i at r l =
    let all : take i y ++ drop i y ≡ y = take-append-drop i y in
    let n : ℕ = length y in
    let whole : Waits n (ron_token (take i y ++ drop i y ++ [])) = subst (λ (s : List ℕ). Waits n (ron_token s)) (sym (append-nil (take i y ++ drop i y) ∙ all)) (reach_waits y n r) in
    waits ron_reader bar_of ron (drop i y) (take i y) [] at n (reach_free y (take i y) (drop i y) at r all) (omega (arith, ap length all)) whole
    ∙ ap₂ (keeping at) all (length-drop i y)

pub passed_keeps : (Y : List ℕ) (k i at : ℕ) → gap_of Y ≡ gap.Clear k → i ≤ k → k ≤ length Y → piece ron_reader bar_of (going at (take i Y)) (drop i (take k Y)) ≡ keeping at (take k Y) (k - i)
passed_keeps Y k i at h l m =
    let n : length (take k Y) ≡ k = length-take-le k Y m in
    let g : gap_of (take k Y) ≡ gap.Clear k = front_clear (take k Y) (drop k Y) k (ap gap_of (take-append-drop k Y) ∙ h) (omega arith) in
    ap (λ (x : List ℕ). piece ron_reader bar_of (going at x) (drop i (take k Y))) (sym (take-take i k Y l))
    ∙ reach_keeps (take k Y) i at (Reaches.passed (g ∙ ap gap.Clear (sym n))) (omega arith)
    ∙ ap (λ (j : ℕ). keeping at (take k Y) (j - i)) n

-- ---- the front of a character

-- no byte is ASCII
pub data High : List ℕ → Type 0 where
  none : High []
  more : {a : ℕ} {s : List ℕ} → 0x80 ≤ a → High s → High (a ∷ s)

high_front : (u v : List ℕ) → High (u ++ v) → High u
high_front [] v h = none
high_front (a ∷ u) v (more k h) = more k (high_front u v h)

pub high_at : (s : List ℕ) → High s → (u : List ℕ) (b : ℕ) (z : List ℕ) → s ≡ u ++ b ∷ z → 0x80 ≤ b
high_at [] h u b z e = absurd (omega (arith, ap length e, length-append u (b ∷ z)))
high_at (a ∷ s) (more k h) [] b z e = let q : a ≡ b = cc in omega arith
high_at (a ∷ s) (more k h) (c ∷ u) b z e = high_at s h u b z cc

high_2 : (a b : ℕ) → 0xC2 ≤ a → 0x80 ≤ b → High (a ∷ b ∷ []) × (0xC2 ≤ a)
high_2 a b h k = (more {a = a} (omega arith) (more k none), h)

high_3 : (a b c : ℕ) → 0xC2 ≤ a → 0x80 ≤ b → 0x80 ≤ c → High (a ∷ b ∷ c ∷ []) × (0xC2 ≤ a)
high_3 a b c h k m = (more {a = a} (omega arith) (more k (more m none)), h)

high_4 : (a b c d : ℕ) → 0xC2 ≤ a → 0x80 ≤ b → 0x80 ≤ c → 0x80 ≤ d → High (a ∷ b ∷ c ∷ d ∷ []) × (0xC2 ≤ a)
high_4 a b c d h k m n = (more {a = a} (omega arith) (more k (more m (more n none))), h)

pub char_high : {l : List ℕ} → Char l → 2 ≤ length l → High l × (0xC2 ≤ get_or l 0 0)
char_high (utf8_1 h) n = absurd (omega arith)
char_high (utf8_2 {a} {b} h k) n = high_2 a b h.0 k.0
char_high (utf8_3a {a} {b} {c} e h k) n = high_3 a b c (omega arith) (omega (arith, h.0)) k.0
char_high (utf8_3b {a} {b} {c} i h k) n = high_3 a b c (omega (arith, i.0)) h.0 k.0
char_high (utf8_3c {a} {b} {c} e h k) n = high_3 a b c (omega arith) h.0 k.0
char_high (utf8_3d {a} {b} {c} i h k) n = high_3 a b c (omega (arith, i.0)) h.0 k.0
char_high (utf8_4a {a} {b} {c} {d} e h k m) n = high_4 a b c d (omega arith) (omega (arith, h.0)) k.0 m.0
char_high (utf8_4b {a} {b} {c} {d} i h k m) n = high_4 a b c d (omega (arith, i.0)) h.0 k.0 m.0
char_high (utf8_4c {a} {b} {c} {d} e h k m) n = high_4 a b c d (omega arith) h.0 k.0 m.0

begins_high : {p : List ℕ} → BeginsChar p → High p × (0xC2 ≤ get_or p 0 0)
begins_high (begins {a} {p} b q ch) =
    let k = char_high ch (omega (arith, length-append p (b ∷ q))) in
    (high_front (a ∷ p) (b ∷ q) k.0, k.1)

-- each of its bytes is above 0x7F
pub cut_bytes : (p : List ℕ) → Cut p → High p
cut_bytes p (inl e) = subst High (sym e) none
cut_bytes p (inr k) = (begins_high k).0

-- and its first one begins a character of two bytes or more
pub cut_lead : (a : ℕ) (p : List ℕ) → Cut (a ∷ p) → 0xC2 ≤ a
cut_lead a p (inl e) = absurd (omega (arith, ap length e))
cut_lead a p (inr k) = (begins_high k).1

begins_front : {x : List ℕ} → BeginsChar x → (a : ℕ) (u v : List ℕ) → x ≡ a ∷ (u ++ v) → BeginsChar (a ∷ u)
begins_front (begins b q ch) a u v e = go v (subst Char (ap (λ (l : List ℕ). l ++ b ∷ q) e ∙ append_assoc (a ∷ u) v (b ∷ q)) ch)
  where
    go : (v : List ℕ) → Char ((a ∷ u) ++ (v ++ b ∷ q)) → BeginsChar (a ∷ u)
    go [] k = begins b q k
    go (d ∷ v) k = begins d (v ++ b ∷ q) k

-- a front of it is one
pub cut_front : (u v : List ℕ) → Cut (u ++ v) → Cut u
cut_front [] v c = inl refl
cut_front (a ∷ u) v (inl e) = absurd (omega (arith, ap length e))
cut_front (a ∷ u) v (inr k) = inr (begins_front k a u v refl)

-- no character has come whole
pub cut_no_char : (p : List ℕ) → Cut p → char_len p ≡ 0
cut_no_char p c = ap char_len (sym (append-nil p)) ∙ cut_none p [] c at_end

-- ---- nothing is refused at once for the front of a character

gap-of : (a : ℕ) (s : List ℕ) (r : Item) → item_of (a ∷ s) ≡ r → gap_of (a ∷ s) ≡ by_item r (λ n. gap_from s (pred n) (0 + 1)) 0 (0 + length (a ∷ s))
unfolding gap_of
gap-of a s r e = gap_step a s 0 ∙ ap (λ (i : Item). by_item i (λ n. gap_from s (pred n) (0 + 1)) 0 (0 + length (a ∷ s))) e

once_is : (s : List ℕ) (g : Gap) → gap_of s ≡ g → ron_once s ≡ once_behind s g
unfolding ron_once
once_is s g e = ap (once_behind s) e

-- it is no whitespace, and no comment begins with it
cut_other : (a : ℕ) (q : List ℕ) → Cut (a ∷ q) → item_of (a ∷ q) ≡ Other
cut_other a q c = by (fronts (a ∷ q))
  where
    lead : 0xC2 ≤ a
    lead = cut_lead a q c

    slash : (t : List ℕ) → ◌≡◌ {A = List ℕ} (a ∷ q) (0x2f ∷ t) → item_of (a ∷ q) ≡ Other
    slash t e = let z : a ≡ 0x2f = ap (λ (l : List ℕ). get_or l 0 0) e in absurd (omega (arith, lead))

    by : Front (a ∷ q) → item_of (a ∷ q) ≡ Other
    by (Front.space w e) =
        let b = blank_front (a ∷ q) (omega arith) in
        let k : char_len (a ∷ q) ≡ length (encode b.char) = ap char_len b.split ∙ char_len_char (encode b.char) b.rest (char_encode b.char b.scalar) in
        absurd (omega (arith, k, cut_no_char (a ∷ q) c, encode_pos b.char b.scalar))
    by (Front.ended e) = slash [] e
    by (Front.line t e) = slash (0x2f ∷ t) e
    by (Front.block t e) = slash (0x2a ∷ t) e
    by (Front.odd b t m k e) = slash (b ∷ t) e
    by (Front.other e) = e

cut_clear : (q : List ℕ) → Cut q → gap_of q ≡ gap.Clear 0
unfolding gap_of gap_from
cut_clear [] c = refl
cut_clear (a ∷ q) c = gap-of a q Other (cut_other a q c)

once_alone : (q : List ℕ) → Cut q → ron_once q ≡ false
once_alone q c = once_is q (gap.Clear 0) (cut_clear q c) ∙ nothing_cut q (cut_no_char q c)

-- behind a `/` it is no character
slash_gap : (a : ℕ) (q : List ℕ) → Cut (a ∷ q) → gap_of (0x2f ∷ a ∷ q) ≡ gap.Refused (unexpected_char 1)
slash_gap a q c =
    let l = cut_lead a q c in
    gap-of 0x2f (a ∷ q) (Unexpected (1 + char_len (a ∷ q))) (item_odd a q (λ e. omega arith) (λ e. omega arith))
    ∙ ap (λ (n : ℕ). gap.Refused (unexpected_char (0 + (1 + n)))) (cut_no_char (a ∷ q) c)

once_slash : (q : List ℕ) → Cut q → ron_once (0x2f ∷ q) ≡ false
unfolding behind_slash
once_slash [] c = once_is (0x2f ∷ []) (gap.Refused (eof 1)) (gap-of 0x2f [] Ended item_last)
once_slash (a ∷ q) c = once_is (0x2f ∷ a ∷ q) (gap.Refused (unexpected_char 1)) (slash_gap a q c)

-- it ends no line
high_line : (q : List ℕ) (at : ℕ) → High q → line_from q at ≡ None
unfolding line_from
high_line [] at h = refl
high_line (a ∷ q) at (more k h) = rw (ne_eqb a 0x0a (λ e. omega arith)) (high_line q (at + 1) h)

once_line : (q : List ℕ) → High q → ron_once (0x2f ∷ 0x2f ∷ q) ≡ false
unfolding line_end
once_line q h =
    once_is (0x2f ∷ 0x2f ∷ q) (gap.InLine (0 + length (0x2f ∷ 0x2f ∷ q))) (gap-of 0x2f (0x2f ∷ q) LineOpen (item_line q ∙ ap line_item (high_line q 0 h)))

-- nor a block comment
high_block : (q : List ℕ) (level at : ℕ) → High q → block_from q level at ≡ None
unfolding block_from
high_block [] level at h = refl
high_block (a ∷ q) level at (more k h) = other_passed a q level at (λ e. omega arith) (λ e. omega arith) ∙ high_block q level (at + 1) h

no_mark : (a b level : ℕ) → 0x80 ≤ b → decision_of a b level ≡ PassOn
no_mark a b level h = rw (ne_eqb b 0x2a (λ e. omega arith), ne_eqb b 0x2f (λ e. omega arith), and_false (eqb a 0x2f), and_false (eqb a 0x2a))

high_behind : (a : ℕ) (q : List ℕ) (level at : ℕ) → High q → block_from (a ∷ q) level at ≡ None
unfolding block_from
high_behind a [] level at h = refl
high_behind a (b ∷ q) level at (more k h) =
    step a b q level at ∙ ap (after b q level at) (no_mark a b level k) ∙ high_block (b ∷ q) level (at + 1) (more k h)

high_last : (last : ℕ) (q : List ℕ) (level at : ℕ) → High q → block_from (last_byte last ++ q) level at ≡ None
unfolding last_byte
high_last last q level at h = go (eqb last 0)
  where
    go : (t : Bool) → block_from (cond t [] (last ∷ []) ++ q) level at ≡ None
    go true = high_block q level at h
    go false = high_behind last q level at h

once_block : (level last : ℕ) (q : List ℕ) → High q → ron_once (0x2f ∷ 0x2a ∷ (rest level last ++ q)) ≡ false
unfolding block_end behind_slash
once_block level last q h =
    let w : List ℕ = rest level last ++ q in
    let e : block_end w ≡ None = rest_pass level last q ∙ high_last last q (suc level) (2 * level) h in
    once_is (0x2f ∷ 0x2a ∷ w) (gap.Refused (unclosed_block_comment (0 + length (0x2f ∷ 0x2a ∷ w)))) (gap-of 0x2f (0x2a ∷ w) BlockOpen (item_block w ∙ ap block_item e))

-- so nothing is behind a gap that reaches to the end
part_once : (y q : List ℕ) → Reaches y → Cut q → ron_once (y ++ q) ≡ false
unfolding front marks
part_once y q (Reaches.passed e) c =
    let n : length y ≤ length y = omega arith in
    sym ((ron_alike_clear y (length y) e).at_once q)
    ∙ ap (λ (x : List ℕ). ron_once (x ++ q)) (drop_of_length-le y n)
    ∙ once_alone q c
part_once y q (Reaches.slash e f) c =
    let k : canon y ≡ 0x2f ∷ [] = canon_is y Slash (gap.Refused (eof (length y))) f e in
    sym ((ron_alike y).at_once q) ∙ ap (λ (x : List ℕ). ron_once (x ++ q)) k ∙ once_slash q c
part_once y q (Reaches.line e f) c =
    let k : canon y ≡ 0x2f ∷ 0x2f ∷ [] = canon_is y Line (gap.InLine (length y)) f e in
    sym ((ron_alike y).at_once q) ∙ ap (λ (x : List ℕ). ron_once (x ++ q)) k ∙ once_line q (cut_bytes q c)
part_once y q (Reaches.block level last n e f) c =
    let k : canon y ≡ 0x2f ∷ 0x2a ∷ rest level last = canon_is y (Block level last) (gap.Refused (unclosed_block_comment (length y))) f e ∙ append-nil (0x2f ∷ 0x2a ∷ rest level last) in
    sym ((ron_alike y).at_once q) ∙ ap (λ (x : List ℕ). ron_once (x ++ q)) k ∙ once_block level last q (cut_bytes q c)

-- ---- nor is it barred, and none of its bytes stops

part_free : (y q : List ℕ) (at b : ℕ) → Reaches y → length q ≤ 3 → bar_of at (y ++ q) b ≡ pass
unfolding bar_of
part_free y q at b r l = go (gap_of (y ++ q)) refl
  where
    go : (g : Gap) → gap_of (y ++ q) ≡ g → bar_by at (y ++ q) g ≡ pass
    go (gap.InLine n) e = refl
    go (gap.Refused d) e = refl
    go (gap.Clear g) e =
        let n = length-append y q in
        either (lt_or_le g (length y))
        (λ k. let z = reach_clear y g r (front_clear y q g e (omega arith)) in absurd (omega arith))
        (λ k. rw (lt-leb (g + 4096) (length (y ++ q)) (omega arith)))

high_unstopped : (b : ℕ) → 0x80 ≤ b → stops_byte b ≡ false
unfolding stops_byte
high_unstopped b h = rw (le-ltb b 0x80 h)

part_unlooked : (y q : List ℕ) (b : ℕ) → Reaches y → Cut (q ++ b ∷ []) → looks ron_reader (y ++ (q ++ b ∷ [])) b ≡ false
unfolding looks
part_unlooked y q b r c = rw (high_unstopped b (high_at (q ++ b ∷ []) (cut_bytes (q ++ b ∷ []) c) q b [] refl), part_once y (q ++ b ∷ []) r c)

pub part_keeps : (y p : List ℕ) (i at : ℕ) → Reaches y → Cut p → i ≤ length p → piece ron_reader bar_of (going at (y ++ take i p)) (drop i p) ≡ keeping at (y ++ p) (length p - i)
part_keeps y p i at r c l =
    let all : take i p ++ drop i p ≡ p = take-append-drop i p in
    let x : List ℕ = y ++ take i p in
    let split : (u : List ℕ) (b : ℕ) (z : List ℕ) → drop i p ≡ u ++ b ∷ z → p ≡ take i p ++ u ++ b ∷ [] ++ z =
    λ u b z h. sym all ∙ ap (λ (s : List ℕ). take i p ++ s) h ∙ simp append_assoc in
    let free : Free ron_reader bar_of at x (drop i p) =
    λ u b z h. ap (λ (s : List ℕ). bar_of at s b) (append_assoc y (take i p) u) ∙ part_free y (take i p ++ u) at b r (omega (arith, cut_few c, ap length (split u b z h), length-append (take i p ++ u ++ b ∷ []) z, length-append (take i p ++ u) (b ∷ []))) in
    let no : Unlooked ron_reader bar_of x (drop i p) =
    λ u b z h. ap (λ (s : List ℕ). looks ron_reader s b) (append_assoc x u (b ∷ []) ∙ append_assoc y (take i p) (u ++ b ∷ []) ∙ ap (λ (s : List ℕ). y ++ s) (sym (append_assoc (take i p) u (b ∷ []))))
    ∙ part_unlooked y (take i p ++ u) b r (cut_front (take i p ++ u ++ b ∷ []) z (subst Cut (split u b z h) c)) in
    unlooked ron_reader bar_of (drop i p) x at free no
    ∙ ap₂ (keeping at) (append_assoc y (take i p) (drop i p) ∙ ap (λ (s : List ℕ). y ++ s) all) (length-drop i p)

-- ---- both

-- bytes that are kept, and then others that are
pub then_keeps : (s t x y z : List ℕ) (at m n : ℕ) → piece ron_reader bar_of (going at x) s ≡ keeping at y m → piece ron_reader bar_of (going at y) t ≡ keeping at z n
    → piece ron_reader bar_of (going at x) (s ++ t) ≡ keeping at z (m + n)
then_keeps s t x y z at m n e f =
    cut ron_reader bar_of s t (going at x)
    ∙ ap (λ (g : Given). both g (λ b. piece ron_reader bar_of b t)) e
    ∙ ap (λ (g : Given). record { entries = g.entries; next = g.next; bytes = m + g.bytes }) f

pub within_keeps : (y p : List ℕ) (o : Open) (i at : ℕ) → passed_of Clear y ≡ Within o → Cut p → i ≤ length (y ++ p)
    → piece ron_reader bar_of (going at (take i (y ++ p))) (drop i (y ++ p)) ≡ keeping at (y ++ p) (length (y ++ p) - i)
within_keeps y p o i at h c l = either (lt_or_le (length y) i) (λ k. past (i - length y) (omega arith)) before
  where
    r : Reaches y
    r = within_reaches y o h

    past : (j : ℕ) → i ≡ length y + j → piece ron_reader bar_of (going at (take i (y ++ p))) (drop i (y ++ p)) ≡ keeping at (y ++ p) (length (y ++ p) - i)
    past j e =
        let m : j ≤ length p = omega (arith, length-append y p) in
        let n : length p - j ≡ length (y ++ p) - i = omega (arith, length-append y p) in
        ap₂ (λ (x w : List ℕ). piece ron_reader bar_of (going at x) w)
        (ap (λ (k : ℕ). take k (y ++ p)) e ∙ take-append-add y p j) (ap (λ (k : ℕ). drop k (y ++ p)) e ∙ drop-append-add y p j)
        ∙ part_keeps y p j at r c m
        ∙ ap (keeping at (y ++ p)) n

    before : i ≤ length y → piece ron_reader bar_of (going at (take i (y ++ p))) (drop i (y ++ p)) ≡ keeping at (y ++ p) (length (y ++ p) - i)
    before m =
        let n : length y - i + (length p - 0) ≡ length (y ++ p) - i = omega (arith, length-append y p) in
        let all : piece ron_reader bar_of (going at y) p ≡ keeping at (y ++ p) (length p - 0) =
        ap (λ (x : List ℕ). piece ron_reader bar_of (going at x) p) (sym (append-nil y)) ∙ part_keeps y p 0 at r c (omega arith) in
        ap₂ (λ (x w : List ℕ). piece ron_reader bar_of (going at x) w) (take-append-le i y p m) (drop-append-le i y p m)
        ∙ then_keeps (drop i y) p (take i y) y (y ++ p) at (length y - i) (length p - 0) (reach_keeps y i at r m) all
        ∙ ap (keeping at (y ++ p)) n

-- ---- what has begun behind a gap goes on with such a front

pub clear_with_part : (y p : List ℕ) (k : ℕ) → gap_of y ≡ gap.Clear k → k < length y → Cut p → gap_of (y ++ p) ≡ gap.Clear k
clear_with_part y [] k h l c = ap gap_of (append-nil y) ∙ h
clear_with_part y (d ∷ v) k h l c =
    let z : List ℕ = drop k y in
    let n = cut_lead d v c in
    gap_window_by y [] (d ∷ v) k (ap gap_of (append-nil y) ∙ h) l
    (λ e. lead_other z d v (omega (arith, length-drop k y)) (omega arith) (ap item_of (sym (append-nil z)) ∙ e))
