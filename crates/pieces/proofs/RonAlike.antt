-- A text and what is kept of it have the same tokens to come, whatever follows: `ron_alike`, `ron_alike_clear`. And 30 moves with the place: `bar_moves`.
-- Assumes nothing.
use Rattle.std.proofs.Common.{Ok, Err, Some, None, Option}
use Rattle.tokens.specs.declared.lexeme.Lexeme.{Lexeme}
use Prim.Native.Nat.{ℕ, suc, zero, pred, ◌*◌, ◌+◌, ◌-◌, ◌<◌}
use native.Mathlib.Omega.{arith}
use mathlib.Core.List.{List, [], ◌++◌, ◌∷◌, append_assoc, append-nil}
use mathlib.Core.Path.{◌≡◌, ap, ap₂, refl, subst, sym, ◌∙◌}
use lib.Dec.{eqb}
use lib.ListN.{drop, get_or, length, length-append, length-drop, take, take-append-drop}
use lib.Seq.{drop-drop, get_or-append-add, length-take-le}
use borrow.Author.Tests.{eqb-true, le-leb, lt-leb}
use Rattle.text.proofs.Choices.{bool_cases, either, lt_or_le}
use Rattle.text.specs.Refusals.{at_place, entry_too_long, eof, unclosed_block_comment, unexpected_char, Told}
use Rattle.text.specs.Utf8.{char_len}
use Rattle.text.specs.declared.refusal.Refusal.{Refusal}
use Rattle.comments.proofs.GapLaws.{gap_step}
use Rattle.comments.specs.Blocks.{block_end}
use Rattle.comments.specs.Gaps.{block_item, by_item, gap_from, gap_of, item_of, line_item}
use Rattle.comments.specs.Lines.{line_end}
use Rattle.comments.specs.declared.gap.Gap.{Gap}
use Rattle.comments.specs.declared.gap.Gap.TheVariants as gap
use Rattle.comments.specs.declared.gap.Item.{Item}
use Rattle.comments.specs.declared.gap.Item.TheVariants.{Blank, BlockOpen, Ended, LineOpen, Other, Unexpected}
use Rattle.gaps.proofs.BlockOpens.{From, block-from, from_less}
use Rattle.gaps.proofs.Canon.{Ways, canon_is, canon_odd, canon_stands, last_length, rest, rest_length, rest_pass, ways}
use Rattle.gaps.proofs.Items.{Front, fronts, item_block, item_last, item_line, item_odd, item_space}
use Rattle.gaps.proofs.Standing.{Stands, gap_closed}
use Rattle.gaps.specs.Opens.{canon, front, last_byte, later_by, marks}
use Rattle.gaps.specs.declared.state.Open.TheVariants.{Clear, Slash, Line, Block}
use Rattle.reading.specs.Tokens.{Token, reach, refuse, token}
use Rattle.tokens.proofs.RonLaws.{gap_end, gap_token, token_is}
use Rattle.tokens.specs.Lexemes.{lexeme_of}
use Rattle.tokens.specs.Ron.{by_gap, lexeme_behind, ron_token}
use Rattle.tokens.specs.Token.{token_of}
use Rattle.arriving.proofs.Meets.{Alike, PassThere, later_answer}
use Rattle.arriving.proofs.Meets.PassThere.{halts, passes}
use Rattle.settled.specs.Settled.{behind_slash, once_behind, ron_once, ron_reader, ron_settles, settled_behind, spoilt_for, starts_nothing}
use Rattle.pieces.specs.Bars.{bar_by, bar_of, most_held}

-- ---- 30 moves with the place

bar_there : (s s' : List ℕ) (d : ℕ) (g : Gap) (o n at at' : ℕ) → length s' ≡ d + length s → at' + d + o ≡ at + n → PassThere o n (bar_by at s g) (bar_by at' s' (later_by d g))
bar_there s s' d (gap.Clear g) o n at at' l h =
    either (lt_or_le (length s) (g + most_held))
    (λ i. rw (lt-leb (g + most_held) (length s) i, lt-leb (d + g + most_held) (length s') (omega arith)) passes)
    (λ i. rw (le-leb (g + most_held) (length s) i, le-leb (d + g + most_held) (length s') (omega arith)) (halts (entry_too_long (at + g)) (entry_too_long (at' + (d + g))) (record { number = refl; reason = refl; place = omega arith })))
bar_there s s' d (gap.InLine g) o n at at' l h = passes
bar_there s s' d (gap.Refused r) o n at at' l h = passes

same_bar : (s : List ℕ) (g : Gap) (o n at at' : ℕ) → at' + o ≡ at + n → PassThere o n (bar_by at s g) (bar_by at' s g)
same_bar s (gap.Clear g) o n at at' h =
    either (lt_or_le (length s) (g + most_held))
    (λ i. rw (lt-leb (g + most_held) (length s) i) passes)
    (λ i. rw (le-leb (g + most_held) (length s) i) (halts (entry_too_long (at + g)) (entry_too_long (at' + g)) (record { number = refl; reason = refl; place = omega arith })))
same_bar s (gap.InLine g) o n at at' h = passes
same_bar s (gap.Refused r) o n at at' h = passes

pub bar_moves : (s : List ℕ) (b o n at at' : ℕ) → at' + o ≡ at + n → PassThere o n (bar_of at s b) (bar_of at' s b)
unfolding bar_of
bar_moves s b o n at at' h = same_bar s (gap_of s) o n at at' h

-- ---- one text that stands for another, with the byte before the place of a 5

-- the byte before the place of a 5 is the same in both
abbrev SameByte : List ℕ → List ℕ → ℕ → Type 0
SameByte x y d = (v : List ℕ) (r : Refusal) → gap_of (y ++ v) ≡ gap.Refused r → r.number ≡ 5 → get_or (x ++ v) (d + r.place - 1) 0 ≡ get_or (y ++ v) (r.place - 1) 0

module _ (x y : List ℕ) (k : Stands x y) (byte : SameByte x y k.by) where
  lexeme_later : (d g : ℕ) (a : Told Lexeme) → lexeme_behind (d + g) a ≡ later_answer d (lexeme_behind g a)
  lexeme_later d g (Ok l) = refl
  lexeme_later d g (Err r) = ap (λ (p : ℕ). refuse (at_place r p)) (omega arith)

  longer : (v : List ℕ) → length (x ++ v) ≡ k.by + length (y ++ v)
  longer v = omega (arith, k.whole, length-append x v, length-append y v)

  answer-by : (v : List ℕ) (g : Gap) → gap_of (y ++ v) ≡ g → by_gap (x ++ v) (later_by k.by g) ≡ later_answer k.by (by_gap (y ++ v) g)
  answer-by v (gap.Clear g) e =
      let l = longer v in
      either (lt_or_le g (length (y ++ v)))
      (λ i. gap_token (x ++ v) (k.by + g) (omega arith)
      ∙ ap (λ (s : List ℕ). lexeme_behind (k.by + g) (lexeme_of (token_of s))) (k.keeps v g e)
      ∙ lexeme_later k.by g (lexeme_of (token_of (drop g (y ++ v))))
      ∙ ap (later_answer k.by) (sym (gap_token (y ++ v) g i)))
      (λ i. gap_end (x ++ v) (k.by + g) (omega arith) ∙ ap (later_answer k.by) (sym (gap_end (y ++ v) g i)))
  answer-by v (gap.InLine n) e = refl
  answer-by v (gap.Refused r) e = refl

  answer_same : (v : List ℕ) → ron_token (x ++ v) ≡ later_answer k.by (ron_token (y ++ v))
  unfolding ron_token
  answer_same v = ap (by_gap (x ++ v)) (k.gaps v) ∙ answer-by v (gap_of (y ++ v)) refl

  behind_same : (v : List ℕ) (t : Token) → ron_token (y ++ v) ≡ token t → drop (k.by + reach t) (x ++ v) ≡ drop (reach t) (y ++ v)
  behind_same v t h =
      let e = (token_is (y ++ v) t h).gap_is in
      let j : k.by + reach t ≡ k.by + t.gap + t.len = omega arith in
      ap (λ (n : ℕ). drop n (x ++ v)) j
      ∙ sym (drop-drop t.len (k.by + t.gap) (x ++ v))
      ∙ ap (drop t.len) (k.keeps v t.gap e)
      ∙ drop-drop t.len t.gap (y ++ v)

  slash_same : (v : List ℕ) (r : Refusal) → gap_of (y ++ v) ≡ gap.Refused r → behind_slash (y ++ v) r ≡ behind_slash (x ++ v) (at_place r (k.by + r.place))
  unfolding behind_slash
  slash_same v r e =
      either (bool_cases (eqb r.number 5))
      (λ t. rw (t, byte v r e (eqb-true r.number 5 t)))
      (λ t. rw t)

  settle_by : (v : List ℕ) (g : Gap) → gap_of (y ++ v) ≡ g → settled_behind (y ++ v) g ≡ settled_behind (x ++ v) (later_by k.by g)
  settle_by v (gap.Clear g) e = ap spoilt_for (sym (k.keeps v g e))
  settle_by v (gap.InLine n) e = refl
  settle_by v (gap.Refused r) e = slash_same v r e

  once_by : (v : List ℕ) (g : Gap) → gap_of (y ++ v) ≡ g → once_behind (y ++ v) g ≡ once_behind (x ++ v) (later_by k.by g)
  once_by v (gap.Clear g) e = ap starts_nothing (sym (k.keeps v g e))
  once_by v (gap.InLine n) e = refl
  once_by v (gap.Refused r) e = slash_same v r e

  settle_same : (v : List ℕ) → ron_settles (y ++ v) ≡ ron_settles (x ++ v)
  unfolding ron_settles
  settle_same v = settle_by v (gap_of (y ++ v)) refl ∙ ap (settled_behind (x ++ v)) (sym (k.gaps v))

  once_same : (v : List ℕ) → ron_once (y ++ v) ≡ ron_once (x ++ v)
  unfolding ron_once
  once_same v = once_by v (gap_of (y ++ v)) refl ∙ ap (once_behind (x ++ v)) (sym (k.gaps v))

  bars_same : (v : List ℕ) (b o n at at' : ℕ) → at' + k.by + o ≡ at + n → PassThere o n (bar_of at (y ++ v) b) (bar_of at' (x ++ v) b)
  unfolding bar_of
  bars_same v b o n at at' h =
      subst (λ (g : Gap). PassThere o n (bar_by at (y ++ v) (gap_of (y ++ v))) (bar_by at' (x ++ v) g)) (sym (k.gaps v))
      (bar_there (y ++ v) (x ++ v) k.by (gap_of (y ++ v)) o n at at' (longer v) h)

  alike_of : Alike ron_reader bar_of k.by y x
  alike_of = record {
    long = k.whole;
    answers = answer_same;
    behind_them = behind_same;
    settle = settle_same;
    at_once = once_same;
    bars = bars_same;
  }

-- ---- the place of a 5 lies behind its `/`

unexpected_some : (s : List ℕ) (n : ℕ) → item_of s ≡ Unexpected n → 0 < n
unexpected_some s n h = by (fronts s)
  where
    line_not : (c : Option ℕ) → line_item c ≡ Unexpected n → 0 < n
    line_not (Some m) e = let z : ◌≡◌ {A = ℕ} 0 1 = cc in absurd (omega arith)
    line_not None e = let z : ◌≡◌ {A = ℕ} 0 1 = cc in absurd (omega arith)

    block_not : (c : Option ℕ) → block_item c ≡ Unexpected n → 0 < n
    block_not (Some m) e = let z : ◌≡◌ {A = ℕ} 0 1 = cc in absurd (omega arith)
    block_not None e = let z : ◌≡◌ {A = ℕ} 0 1 = cc in absurd (omega arith)

    by : Front s → 0 < n
    by (Front.space w e) = let q : Blank (suc w) ≡ Unexpected n = sym (item_space s w e) ∙ h in let z : ◌≡◌ {A = ℕ} 0 1 = cc in absurd (omega arith)
    by (Front.ended e) = let q : Ended ≡ Unexpected n = sym (ap item_of e ∙ item_last) ∙ h in let z : ◌≡◌ {A = ℕ} 0 1 = cc in absurd (omega arith)
    by (Front.line t e) = line_not (line_end t) (sym (ap item_of e ∙ item_line t) ∙ h)
    by (Front.block t e) = block_not (block_end t) (sym (ap item_of e ∙ item_block t) ∙ h)
    by (Front.odd b t m k e) =
        let q : Unexpected (1 + char_len (b ∷ t)) ≡ Unexpected n = sym (ap item_of e ∙ item_odd b t m k) ∙ h in
        let p : 1 + char_len (b ∷ t) ≡ n = cc in omega arith
    by (Front.other e) = let q : Other ≡ Unexpected n = sym e ∙ h in let z : ◌≡◌ {A = ℕ} 0 1 = cc in absurd (omega arith)

five_late : (s : List ℕ) (left at : ℕ) (r : Refusal) → gap_from s left at ≡ gap.Refused r → r.number ≡ 5 → at < r.place
unfolding gap_from
five_late [] left at r h n = let z : ◌≡◌ {A = ℕ} 0 1 = cc in absurd (omega arith)
five_late (a ∷ s) (suc left) at r h n = let k = five_late s left (at + 1) r h n in omega arith
five_late (a ∷ s) zero at r h n = by (item_of (a ∷ s)) refl h (λ m g. five_late s m (at + 1) r g n)
  where
    by : (i : Item) → item_of (a ∷ s) ≡ i → by_item i (λ m. gap_from s (pred m) (at + 1)) at (at + length (a ∷ s)) ≡ gap.Refused r
        → ((m : ℕ) → gap_from s m (at + 1) ≡ gap.Refused r → at + 1 < r.place) → at < r.place
    by (Blank m) e g ih = let k = ih (pred m) g in omega arith
    by LineOpen e g ih = let z : ◌≡◌ {A = ℕ} 0 1 = cc in absurd (omega arith)
    by BlockOpen e g ih = let q : unclosed_block_comment (at + length (a ∷ s)) ≡ r = cc in absurd (omega (arith, ap (λ (w : Refusal). w.number) q))
    by (Unexpected m) e g ih =
        let q : unexpected_char (at + m) ≡ r = cc in
        omega (arith, ap (λ (w : Refusal). w.place) q, unexpected_some (a ∷ s) m e)
    by Ended e g ih = let q : eof (at + length (a ∷ s)) ≡ r = cc in absurd (omega (arith, ap (λ (w : Refusal). w.number) q))
    by Other e g ih = let z : ◌≡◌ {A = ℕ} 0 1 = cc in absurd (omega arith)

-- ---- a text that ends behind a `/` ends with it

record Last (s : List ℕ) : Type 0 where
  before : List ℕ
  is : s ≡ before ++ 0x2f ∷ []

one_more : (a : ℕ) (s : List ℕ) → Last s → Last (a ∷ s)
one_more a s l = record { before = a ∷ l.before; is = ap {B = List ℕ} (λ (t : List ℕ). a ∷ t) l.is }

ended_slash : (s : List ℕ) → item_of s ≡ Ended → Last s
ended_slash s h = by (fronts s)
  where
    line_not : (c : Option ℕ) → line_item c ≡ Ended → Last s
    line_not (Some m) e = let z : ◌≡◌ {A = ℕ} 0 1 = cc in absurd (omega arith)
    line_not None e = let z : ◌≡◌ {A = ℕ} 0 1 = cc in absurd (omega arith)

    block_not : (c : Option ℕ) → block_item c ≡ Ended → Last s
    block_not (Some m) e = let z : ◌≡◌ {A = ℕ} 0 1 = cc in absurd (omega arith)
    block_not None e = let z : ◌≡◌ {A = ℕ} 0 1 = cc in absurd (omega arith)

    by : Front s → Last s
    by (Front.space w e) = let q : Blank (suc w) ≡ Ended = sym (item_space s w e) ∙ h in let z : ◌≡◌ {A = ℕ} 0 1 = cc in absurd (omega arith)
    by (Front.ended e) = record { before = []; is = e }
    by (Front.line t e) = line_not (line_end t) (sym (ap item_of e ∙ item_line t) ∙ h)
    by (Front.block t e) = block_not (block_end t) (sym (ap item_of e ∙ item_block t) ∙ h)
    by (Front.odd b t m k e) = let q : Unexpected (1 + char_len (b ∷ t)) ≡ Ended = sym (ap item_of e ∙ item_odd b t m k) ∙ h in let z : ◌≡◌ {A = ℕ} 0 1 = cc in absurd (omega arith)
    by (Front.other e) = let q : Other ≡ Ended = sym e ∙ h in let z : ◌≡◌ {A = ℕ} 0 1 = cc in absurd (omega arith)

six_last : (s : List ℕ) (left at : ℕ) (r : Refusal) → gap_from s left at ≡ gap.Refused r → r.number ≡ 6 → Last s
unfolding gap_from
six_last [] left at r h n = let z : ◌≡◌ {A = ℕ} 0 1 = cc in absurd (omega arith)
six_last (a ∷ s) (suc left) at r h n = one_more a s (six_last s left (at + 1) r h n)
six_last (a ∷ s) zero at r h n = by (item_of (a ∷ s)) refl h (λ m g. six_last s m (at + 1) r g n)
  where
    by : (i : Item) → item_of (a ∷ s) ≡ i → by_item i (λ m. gap_from s (pred m) (at + 1)) at (at + length (a ∷ s)) ≡ gap.Refused r
        → ((m : ℕ) → gap_from s m (at + 1) ≡ gap.Refused r → Last s) → Last (a ∷ s)
    by (Blank m) e g ih = one_more a s (ih (pred m) g)
    by LineOpen e g ih = let z : ◌≡◌ {A = ℕ} 0 1 = cc in absurd (omega arith)
    by BlockOpen e g ih = let q : unclosed_block_comment (at + length (a ∷ s)) ≡ r = cc in absurd (omega (arith, ap (λ (w : Refusal). w.number) q))
    by (Unexpected m) e g ih = let q : unexpected_char (at + m) ≡ r = cc in absurd (omega (arith, ap (λ (w : Refusal). w.number) q))
    by Ended e g ih = ended_slash (a ∷ s) e
    by Other e g ih = let z : ◌≡◌ {A = ℕ} 0 1 = cc in absurd (omega arith)

-- ---- the byte before a 5's place, by what is open

-- where the shorter text ends the longer one
byte_behind : (pre y : List ℕ) (d : ℕ) → length pre ≡ d → SameByte (pre ++ y) y d
unfolding gap_of
byte_behind pre y d l v r e n =
    let k = five_late (y ++ v) 0 0 r e n in
    let j : d + r.place - 1 ≡ length pre + (r.place - 1) = omega arith in
    ap₂ (λ (s : List ℕ) (i : ℕ). get_or s i 0) (append_assoc pre y v) j ∙ get_or-append-add pre (y ++ v) (r.place - 1) 0

-- where the place lies behind it
byte_past : (x y : List ℕ) (d : ℕ) → length x ≡ d + length y → ((v : List ℕ) (r : Refusal) → gap_of (y ++ v) ≡ gap.Refused r → r.number ≡ 5 → length y < r.place) → SameByte x y d
byte_past x y d l far v r e n =
    let k = far v r e n in
    let m : ℕ = r.place - 1 - length y in
    let i : d + r.place - 1 ≡ length x + m = omega arith in
    let j : r.place - 1 ≡ length y + m = omega arith in
    ap (λ (a : ℕ). get_or (x ++ v) a 0) i ∙ get_or-append-add x v m 0 ∙ sym (get_or-append-add y v m 0) ∙ ap (λ (a : ℕ). get_or (y ++ v) a 0) (sym j)

line_far : (v : List ℕ) (r : Refusal) → gap_of (0x2f ∷ 0x2f ∷ v) ≡ gap.Refused r → r.number ≡ 5 → 2 < r.place
unfolding gap_of
line_far v r e n = by (line_end v) refl
  where
    by : (c : Option ℕ) → line_end v ≡ c → 2 < r.place
    by (Some m) q =
        let k = five_late (drop m v) 0 (0 + (m + 2)) r (sym (gap_closed 0x2f 0x2f v m 0 (item_line v ∙ ap line_item q)) ∙ e) n in omega arith
    by None q =
        let g : gap.InLine (0 + length (0x2f ∷ 0x2f ∷ v)) ≡ gap.Refused r =
        sym (gap_step 0x2f (0x2f ∷ v) 0 ∙ ap (λ (i : Item). by_item i (λ m. gap_from (0x2f ∷ v) (pred m) (0 + 1)) 0 (0 + length (0x2f ∷ 0x2f ∷ v))) (item_line v ∙ ap line_item q)) ∙ e in
        let z : ◌≡◌ {A = ℕ} 0 1 = cc in absurd (omega arith)

block_far : (level last : ℕ) (v : List ℕ) (r : Refusal) → gap_of (0x2f ∷ 0x2a ∷ (rest level last ++ v)) ≡ gap.Refused r → r.number ≡ 5 → length (rest level last) + 2 < r.place
unfolding gap_of block_end
block_far level last v r e n = by (block_end (rest level last ++ v)) refl far
  where
    far : From (length (rest level last)) (block_end (rest level last ++ v))
    far = from_less (length (rest level last)) (2 * level + 2) (block_end (rest level last ++ v)) (omega (arith, rest_length level last, last_length last))
        (subst (From (2 * level + 2)) (sym (rest_pass level last v)) (block-from (last_byte last ++ v) (suc level) (2 * level)))

    by : (c : Option ℕ) → block_end (rest level last ++ v) ≡ c → From (length (rest level last)) c → length (rest level last) + 2 < r.place
    by (Some m) q w =
        let k = five_late (drop m (rest level last ++ v)) 0 (0 + (m + 2)) r (sym (gap_closed 0x2f 0x2a (rest level last ++ v) m 0 (item_block (rest level last ++ v) ∙ ap block_item q)) ∙ e) n in omega arith
    by None q w =
        let end : ℕ = 0 + length (0x2f ∷ 0x2a ∷ (rest level last ++ v)) in
        let g : gap.Refused (unclosed_block_comment end) ≡ gap.Refused r =
        sym (gap_step 0x2f (0x2a ∷ (rest level last ++ v)) 0 ∙ ap (λ (i : Item). by_item i (λ m. gap_from (0x2a ∷ (rest level last ++ v)) (pred m) (0 + 1)) 0 end) (item_block (rest level last ++ v) ∙ ap block_item q)) ∙ e in
        let z : unclosed_block_comment end ≡ r = cc in
        absurd (omega (arith, ap (λ (w : Refusal). w.number) z))

-- ---- by the ways

module _ (s : List ℕ) where
  same : (y : List ℕ) (d : ℕ) → canon s ≡ y → (canon_stands s).by ≡ d → SameByte s y d → SameByte s (canon s) (canon_stands s).by
  same y d c n b = subst (λ (z : List ℕ). SameByte s z (canon_stands s).by) (sym c) (subst (SameByte s y) (sym n) b)

  block_by : (level last : ℕ) → canon s ≡ 0x2f ∷ 0x2a ∷ rest level last → SameByte s (canon s) (canon_stands s).by
  block_by level last c =
      same (0x2f ∷ 0x2a ∷ rest level last) (canon_stands s).by c refl
      (byte_past s (0x2f ∷ 0x2a ∷ rest level last) (canon_stands s).by (omega (arith, (canon_stands s).whole, ap length c))
      (λ v r e n. (let k = block_far level last v r e n in omega arith)))

  byte_by : Ways s → SameByte s (canon s) (canon_stands s).by
  unfolding front gap_of marks
  byte_by (Ways.clear g l e f) =
      let c : canon s ≡ drop g s = canon_is s Clear (gap.Clear g) f e in
      let n : (canon_stands s).by ≡ g = omega (arith, (canon_stands s).whole, ap length c, length-drop g s) in
      let b : SameByte (take g s ++ drop g s) (drop g s) g = byte_behind (take g s) (drop g s) g (length-take-le g s l) in
      same (drop g s) g c n (subst (λ (x : List ℕ). SameByte x (drop g s) g) (take-append-drop g s) b)
  byte_by (Ways.ended e f) =
      let c : canon s ≡ 0x2f ∷ [] = canon_is s Slash (gap.Refused (eof (length s))) f e in
      let l = six_last s 0 0 (eof (length s)) e refl in
      let n : (canon_stands s).by ≡ length l.before = omega (arith, (canon_stands s).whole, ap length c, ap length l.is, length-append l.before (0x2f ∷ [])) in
      same (0x2f ∷ []) (length l.before) c n
      (subst (λ (x : List ℕ). SameByte x (0x2f ∷ []) (length l.before)) (sym l.is) (byte_behind l.before (0x2f ∷ []) (length l.before) refl))
  byte_by (Ways.line e f) =
      let c : canon s ≡ 0x2f ∷ 0x2f ∷ [] = canon_is s Line (gap.InLine (length s)) f e in
      same (0x2f ∷ 0x2f ∷ []) (canon_stands s).by c refl (byte_past s (0x2f ∷ 0x2f ∷ []) (canon_stands s).by (omega (arith, (canon_stands s).whole, ap length c)) line_far)
  byte_by (Ways.block level last k e f) =
      block_by level last (canon_is s (Block level last) (gap.Refused (unclosed_block_comment (length s))) f e ∙ append-nil (0x2f ∷ 0x2a ∷ rest level last))
  byte_by (Ways.odd p e f) =
      let c : canon s ≡ s = canon_odd s (p, e) in
      let n : (canon_stands s).by ≡ 0 = omega (arith, (canon_stands s).whole, ap length c) in
      same s 0 c n (byte_behind [] s 0 refl)

  -- what is kept of s, behind the shortest text that leaves the same open
  pub ron_alike : Alike ron_reader bar_of (length s - length (canon s)) (canon s) s
  ron_alike =
      let d : (canon_stands s).by ≡ length s - length (canon s) = omega (arith, (canon_stands s).whole) in
      subst (λ (n : ℕ). Alike ron_reader bar_of n (canon s) s) d (alike_of s (canon s) (canon_stands s) (byte_by (ways s)))

  -- where s begins with whitespace and closed comments: what stands behind them
  pub ron_alike_clear : (g : ℕ) → gap_of s ≡ gap.Clear g → Alike ron_reader bar_of g (drop g s) s
  unfolding front
  ron_alike_clear g e = by (ways s)
    where
      by : Ways s → Alike ron_reader bar_of g (drop g s) s
      by (Ways.clear h l a f) =
          let q : h ≡ g = cc in
          let c : canon s ≡ drop g s = canon_is s Clear (gap.Clear g) f e in
          let n : length s - length (canon s) ≡ g = omega (arith, ap length c, length-drop g s) in
          subst (λ (y : List ℕ). Alike ron_reader bar_of g y s) c (subst (λ (d : ℕ). Alike ron_reader bar_of d (canon s) s) n ron_alike)
      by (Ways.ended a f) = let z : ◌≡◌ {A = ℕ} 0 1 = cc in absurd (omega arith)
      by (Ways.line a f) = let z : ◌≡◌ {A = ℕ} 0 1 = cc in absurd (omega arith)
      by (Ways.block level last k a f) = let z : ◌≡◌ {A = ℕ} 0 1 = cc in absurd (omega arith)
      by (Ways.odd p a f) = let z : ◌≡◌ {A = ℕ} 0 1 = cc in absurd (omega arith)
