-- Where the whitespace and comments end that bytes go on with, beside what is open behind them and what is kept of them.
--     begins_inside, unexpected_inside    the places that are told lie within the bytes
--     passes                              what is told where nothing was open
--     odd_stays                           5 behind a `/` stays, whatever follows
-- Assumes nothing.
use Rattle.std.proofs.Common.{Some, None, Option}
use Prim.Native.Nat.{◌*◌, ◌+◌, ◌-◌, ◌<◌, ◌≤◌, suc, ℕ}
use native.Mathlib.Omega.{arith}
use mathlib.Core.Bool.{Bool, cond}
use mathlib.Core.List.{List, [], ◌++◌, ◌∷◌, append-nil}
use mathlib.Core.Path.{◌∙◌, ◌≡◌, ap, refl, subst, sym}
use lib.Dec.{eqb, ltb}
use lib.ListN.{drop, drop_of_length-le, length, length-append}
use borrow.Author.Tests.{le-ltb, lt-ltb}
use Rattle.text.proofs.Choices.{bool_cases, either, lt_or_le}
use Rattle.text.specs.Refusals.{eof, unclosed_block_comment, unexpected_char}
use Rattle.text.specs.Utf8.{char_len}
use Rattle.comments.proofs.GapLaws.{EndsBy, gap_bounded}
use Rattle.comments.specs.Blocks.{block_end}
use Rattle.comments.specs.Gaps.{gap_of, item_of}
use Rattle.comments.specs.Lines.{line_end}
use Rattle.comments.specs.declared.gap.Gap.{Gap}
use Rattle.comments.specs.declared.gap.Gap.TheVariants as gap
use Rattle.comments.specs.declared.gap.Item.{Item}
use Rattle.gapped.proofs.Exactly.{clear_exactly, five_exactly}
use Rattle.gapped.proofs.Passing.{gap_passed}
use Rattle.gapped.specs.Gap as gapped
use Rattle.settled.proofs.GapEnds.{gap_more}
use Rattle.gaps.proofs.BlockOpens.{From, block-from}
use Rattle.gaps.proofs.Canon.{Ways, any, block_closed, canon_is, canon_stands, kept_is, last_length, line_closed, rest, rest_pass, ways}
use Rattle.gaps.proofs.Fronts.{front_block}
use Rattle.gaps.proofs.Items.{item_block, item_line}
use Rattle.gaps.proofs.Standing.{Comment, clear_least, closed_item, gap_closed, open_ends}
use Rattle.gaps.specs.Opens.{canon, front, kept_by, kept_of, last_byte, later_by, marks, open_of}
use Rattle.gaps.specs.Passes.{passed_by, passed_of}
use Rattle.gaps.specs.declared.pass.Passed.{Passed}
use Rattle.gaps.specs.declared.pass.Passed.TheVariants.{Begins, Within, Unexpected}
use Rattle.gaps.specs.declared.state.Open.{Open}
use Rattle.gaps.specs.declared.state.Open.TheVariants.{Clear, Slash, Line, Block}

-- ---- the shortest text that leaves something open is no gap that ends

-- a comment whose end lies behind f
closed_least : {i : Item} → Comment i → (y : ℕ) (w : List ℕ) (n g : ℕ) (c : Option ℕ) → item_of (0x2f ∷ y ∷ w) ≡ closed_item i c → From n c → gap_of (0x2f ∷ y ∷ w) ≡ gap.Clear g → n + 2 ≤ g
unfolding gap_of
closed_least k y w n g (Some m) e h q = let b = clear_least (drop m w) (0 + (m + 2)) g (sym (gap_closed 0x2f y w m 0 e) ∙ q) in omega arith
closed_least Comment.line y w n g None e h q =
    let z : gap.InLine (0 + length (0x2f ∷ y ∷ w)) ≡ gap.Clear g = sym (open_ends Comment.line 0x2f (y ∷ w) 0 e) ∙ q in
    let o : ◌≡◌ {A = ℕ} 0 1 = cc in absurd (omega arith)
closed_least Comment.block y w n g None e h q =
    let z : gap.Refused (unclosed_block_comment (0 + length (0x2f ∷ y ∷ w))) ≡ gap.Clear g = sym (open_ends Comment.block 0x2f (y ∷ w) 0 e) ∙ q in
    let o : ◌≡◌ {A = ℕ} 0 1 = cc in absurd (omega arith)

slash_least : (v : List ℕ) (g : ℕ) → gap_of (0x2f ∷ v) ≡ gap.Clear g → 1 ≤ g
slash_least v g q =
    let w = (clear_exactly (0x2f ∷ v) g).0 q in
    either (lt_or_le 0 g) (λ l. l)
    (λ l. let z : g ≡ 0 = omega arith in
    absurd (w.1.1.no_slash v (ap (λ (n : ℕ). drop n (0x2f ∷ v)) z)))

pub front_least : (o : Open) (v : List ℕ) (g : ℕ) → gap_of (front o ++ v) ≡ gap.Clear g → length (front o) ≤ g
unfolding front marks block_end
front_least Clear v g q = omega arith
front_least Slash v g q = slash_least v g q
front_least Line v g q = closed_least Comment.line 0x2f v 0 g (line_end v) (item_line v ∙ line_closed (line_end v)) (any (line_end v)) q
front_least (Block level last) v g q =
    let w : List ℕ = rest level last ++ v in
    let far : From (2 * level + 2) (block_end w) = subst (From (2 * level + 2)) (sym (rest_pass level last v)) (block-from (last_byte last ++ v) (suc level) (2 * level)) in
    let b = closed_least Comment.block 0x2a w (2 * level + 2) g (block_end w) (item_block w ∙ block_closed (block_end w)) far q in
    omega (arith, front_block level last, last_length last)

-- ---- the places that are told

-- a gap behind the front of what was open
begins_by : (g : Gap) (o : Open) (before end k : ℕ) → ((n : ℕ) → g ≡ gap.Clear n → before ≤ n) → before ≤ end → passed_by g o before end ≡ Begins k → before + k < end
begins_by (gap.Clear n) o before end k f h e =
    let low : before ≤ n = f n refl in
    either (lt_or_le n end)
    (λ l. let z : Begins (n - before) ≡ Begins k = ap (λ (t : Bool). cond t (Begins (n - before)) (Within Clear)) (sym (lt-ltb n end l)) ∙ e in
    let y : n - before ≡ k = cc in omega arith)
    (λ l. let z : Within Clear ≡ Begins k = ap (λ (t : Bool). cond t (Begins (n - before)) (Within Clear)) (sym (le-ltb n end l)) ∙ e in
    let y : ◌≡◌ {A = ℕ} 0 1 = cc in absurd (omega arith))
begins_by (gap.InLine n) o before end k f h e = let y : ◌≡◌ {A = ℕ} 0 1 = cc in absurd (omega arith)
begins_by (gap.Refused r) o before end k f h e =
    either (bool_cases (eqb r.number 5))
    (λ t. let z : Unexpected (r.place - before) ≡ Begins k = ap (λ (x : Bool). cond x (Unexpected (r.place - before)) (Within o)) (sym t) ∙ e in
    let y : ◌≡◌ {A = ℕ} 0 1 = cc in absurd (omega arith))
    (λ t. let z : Within o ≡ Begins k = ap (λ (x : Bool). cond x (Unexpected (r.place - before)) (Within o)) (sym t) ∙ e in
    let y : ◌≡◌ {A = ℕ} 0 1 = cc in absurd (omega arith))

pub begins_inside : (o : Open) (s : List ℕ) (k : ℕ) → passed_of o s ≡ Begins k → k < length s
unfolding passed_of
begins_inside o s k e =
    let b = begins_by (gap_of (front o ++ s)) (open_of (front o ++ s)) (length (front o)) (length (front o ++ s)) k (front_least o s) (omega (arith, length-append (front o) s)) e in
    omega (arith, length-append (front o) s)

unexpected_by : (g : Gap) (o : Open) (before end p : ℕ) → EndsBy end g → passed_by g o before end ≡ Unexpected p → p ≤ end - before
unexpected_by (gap.Clear n) o before end p h e =
    either (bool_cases (ltb n end))
    (λ t. let z : Begins (n - before) ≡ Unexpected p = ap (λ (x : Bool). cond x (Begins (n - before)) (Within Clear)) (sym t) ∙ e in
    let y : ◌≡◌ {A = ℕ} 0 1 = cc in absurd (omega arith))
    (λ t. let z : Within Clear ≡ Unexpected p = ap (λ (x : Bool). cond x (Begins (n - before)) (Within Clear)) (sym t) ∙ e in
    let y : ◌≡◌ {A = ℕ} 0 1 = cc in absurd (omega arith))
unexpected_by (gap.InLine n) o before end p h e = let y : ◌≡◌ {A = ℕ} 0 1 = cc in absurd (omega arith)
unexpected_by (gap.Refused r) o before end p h e =
    either (bool_cases (eqb r.number 5))
    (λ t. let z : Unexpected (r.place - before) ≡ Unexpected p = ap (λ (x : Bool). cond x (Unexpected (r.place - before)) (Within o)) (sym t) ∙ e in
    let y : r.place - before ≡ p = cc in omega arith)
    (λ t. let z : Within o ≡ Unexpected p = ap (λ (x : Bool). cond x (Unexpected (r.place - before)) (Within o)) (sym t) ∙ e in
    let y : ◌≡◌ {A = ℕ} 0 1 = cc in absurd (omega arith))

pub unexpected_inside : (o : Open) (s : List ℕ) (p : ℕ) → passed_of o s ≡ Unexpected p → p ≤ length s
unfolding passed_of
unexpected_inside o s p e =
    let b = unexpected_by (gap_of (front o ++ s)) (open_of (front o ++ s)) (length (front o)) (length (front o ++ s)) p (gap_bounded (front o ++ s)) e in
    omega (arith, length-append (front o) s)

-- ---- where nothing was open

-- what is told of x: something begins, and that is kept; nothing does, and whatever follows, no gap ends before x does; or 5
pub data Passes (x : List ℕ) : Passed → Type 0 where
  begins : (k : ℕ) → k < length x → gap_of x ≡ gap.Clear k → open_of x ≡ Clear → kept_of x ≡ drop k x → Passes x (Begins k)
  within : (o : Open) → open_of x ≡ o → kept_of x ≡ [] → ((v : List ℕ) (g : ℕ) → gap_of (x ++ v) ≡ gap.Clear g → length x ≤ g) → Passes x (Within o)
  unexpected : (p : ℕ) → gap_of x ≡ gap.Refused (unexpected_char p) → open_of x ≡ Clear → kept_of x ≡ x → Passes x (Unexpected p)

module _ (x : List ℕ) where
  -- a gap behind x where nothing of x is kept
  later_least : (o : Open) → canon x ≡ front o → (v : List ℕ) (g : ℕ) → gap_of (x ++ v) ≡ gap.Clear g → length x ≤ g
  later_least o e v g q = by (gap_of (front o ++ v)) refl
    where
      stand : gap_of (x ++ v) ≡ later_by (canon_stands x).by (gap_of (front o ++ v))
      stand = (canon_stands x).gaps v ∙ ap (λ (t : List ℕ). later_by (canon_stands x).by (gap_of (t ++ v))) e

      by : (a : Gap) → gap_of (front o ++ v) ≡ a → length x ≤ g
      by (gap.Clear n) a =
          let z : gap.Clear ((canon_stands x).by + n) ≡ gap.Clear g = sym (stand ∙ ap (later_by (canon_stands x).by) a) ∙ q in
          let y : (canon_stands x).by + n ≡ g = cc in
          omega (arith, front_least o v n a, (canon_stands x).whole, ap length e)
      by (gap.InLine n) a =
          let z : gap.InLine ((canon_stands x).by + n) ≡ gap.Clear g = sym (stand ∙ ap (later_by (canon_stands x).by) a) ∙ q in
          let y : ◌≡◌ {A = ℕ} 0 1 = cc in absurd (omega arith)
      by (gap.Refused r) a =
          let z = sym (stand ∙ ap (later_by (canon_stands x).by) a) ∙ q in
          let y : ◌≡◌ {A = ℕ} 0 1 = cc in absurd (omega arith)

  told : passed_of Clear x ≡ passed_by (gap_of x) (open_of x) 0 (length x)
  unfolding passed_of front
  told = refl

  -- by the gap
  told_by : (g : Gap) (o : Open) → gap_of x ≡ g → open_of x ≡ o → passed_of Clear x ≡ passed_by g o 0 (length x)
  told_by g o e f = told ∙ ap (λ (a : Gap). passed_by a (open_of x) 0 (length x)) e ∙ ap (λ (a : Open). passed_by g a 0 (length x)) f

  -- nothing is kept of it
  nothing : (g : Gap) (o : Open) → gap_of x ≡ g → open_of x ≡ o → kept_by g x ≡ [] → Passes x (Within o)
  nothing g o e f k = within o f (kept_is x g e ∙ k) (later_least o (canon_is x o g f e ∙ ap (λ (t : List ℕ). front o ++ t) k ∙ append-nil (front o)))

  way : Ways x → Passes x (passed_of Clear x)
  way (Ways.clear g l e f) =
      either (lt_or_le g (length x))
      (λ h. let z : g - 0 ≡ g = omega arith in
      subst (Passes x) (sym (told_by (gap.Clear g) Clear e f ∙ ap (λ (t : Bool). cond t (Begins (g - 0)) (Within Clear)) (lt-ltb g (length x) h) ∙ ap Begins z))
      (begins g h e f (kept_is x (gap.Clear g) e)))
      (λ h. subst (Passes x) (sym (told_by (gap.Clear g) Clear e f ∙ ap (λ (t : Bool). cond t (Begins (g - 0)) (Within Clear)) (le-ltb g (length x) h)))
      (nothing (gap.Clear g) Clear e f (drop_of_length-le x h)))
  way (Ways.ended e f) = subst (Passes x) (sym (told_by (gap.Refused (eof (length x))) Slash e f)) (nothing (gap.Refused (eof (length x))) Slash e f refl)
  way (Ways.line e f) = subst (Passes x) (sym (told_by (gap.InLine (length x)) Line e f)) (nothing (gap.InLine (length x)) Line e f refl)
  way (Ways.block level last k e f) =
      let g : Gap = gap.Refused (unclosed_block_comment (length x)) in
      subst (Passes x) (sym (told_by g (Block level last) e f)) (nothing g (Block level last) e f refl)
  way (Ways.odd p e f) =
      let z : p - 0 ≡ p = omega arith in
      subst (Passes x) (sym (told_by (gap.Refused (unexpected_char p)) Clear e f ∙ ap Unexpected z)) (unexpected p e f (kept_is x (gap.Refused (unexpected_char p)) e))

  pub passes : Passes x (passed_of Clear x)
  passes = way (ways x)

-- ---- 5 behind a `/` stays

pub odd_stays : (x v : List ℕ) (p g : ℕ) → gap_of x ≡ gap.Refused (unexpected_char p) → gap_of (x ++ v) ≡ gap.Clear g → ⊥
odd_stays x v p g e q =
    let w = (five_exactly x p).0 e in
    let b : ℕ = w.0 in
    let t : List ℕ = w.1 ++ v in
    let more : gapped.Gap (x ++ v) (0x2f ∷ b ∷ t) = gap_more v w.2.0 in
    let n : ℕ = length (x ++ v) + char_len (b ∷ t) - length (b ∷ t) in
    let z : gap_of (x ++ v) ≡ gap.Refused (unexpected_char n) =
    (five_exactly (x ++ v) n).1 (b, t, (more, w.2.1, w.2.2), omega (arith, (gap_passed more).whole)) in
    let y : ◌≡◌ {A = ℕ} 0 1 = cc in omega arith
