-- The whitespace and comments that a piece goes on with, at an index of the piece, as the code asks for them. Assumes nothing.
use Rattle.std.proofs.Common.{Some, None, Option, Result, Ok, Err}
use Prim.Native.Nat.{◌*◌, ◌+◌, ◌-◌, ◌<◌, ◌≤◌, pred, suc, zero, ℕ}
use native.Mathlib.Nat.{add-zero, zero-add}
use native.Mathlib.Numerals.{add-one}
use native.Mathlib.Omega.{arith}
use mathlib.Core.Bool.{Bool, cond, false, true}
use mathlib.Core.List.{List, [], ◌++◌, ◌∷◌}
use mathlib.Core.Path.{◌∙◌, ◌≡◌, ap, ap₂, refl, subst, sym}
use lib.Dec.{eqb, ltb}
use lib.ListN.{drop, get_or, length, length-append, length-drop}
use lib.Seq.{drop-append-add, drop-drop}
use borrow.Author.Tests.{eqb-true, le-ltb, lt-ltb, ltb-false, ltb-true}
use Rattle.comments.proofs.BlockLaws.{Bounded, after, step}
use Rattle.comments.proofs.GapLaws.{Sized, gap_ends, gap_on, gap_out, item_sized}
use Rattle.comments.proofs.LineLaws.{line_found, line_none}
use Rattle.comments.proofs.RuleLaws.{not_last, passes_other}
use Rattle.comments.specs.Blocks.{block_end, block_from, decision_of}
use Rattle.comments.specs.Gaps.{by_item, gap_from, gap_of, item_of}
use Rattle.comments.specs.Lines.{line_end, line_from}
use Rattle.comments.specs.declared.block.Decision.{Decision}
use Rattle.comments.specs.declared.block.Decision.TheVariants as decision
use Rattle.comments.specs.declared.gap.Gap.{Gap}
use Rattle.comments.specs.declared.gap.Gap.TheVariants as gap
use Rattle.comments.specs.declared.gap.Item.{Item}
use Rattle.comments.specs.declared.gap.Item.TheVariants.{Blank, BlockOpen, Ended, LineOpen, Other, Unexpected}
use Rattle.search.specs.inner.Others.{other}
use Rattle.text.specs.Runs.{run}
use Rattle.text.specs.Utf8.{char_len}
use Rattle.gaps.proofs.BlockOpens.{after_open, block_le, block_moved, later_end, open_step}
use Rattle.gaps.proofs.Canon.{block_closed, line_closed, open_halts, rest, rest_length, rest_open, rest_pass}
use Rattle.gaps.proofs.Fronts.{last_open, last_unclosed}
use Rattle.gaps.proofs.Items.{item_block, item_last, item_line, item_odd, line_moved}
use Rattle.gaps.proofs.Standing.{Comment, Halts, closed_item, gap_closed, gap_later, open_blank, open_closed, open_ends, open_left}
use Rattle.gaps.specs.Opens.{block_open, by_open, front, last_byte, later_by, marks, open_from, open_of, unpaired}
use Rattle.gaps.specs.Passes.{passed_by, passed_of}
use Rattle.gaps.specs.inner.Steps.{behind_end, block_at, clear_at, line_at, rest_by, rest_of, step_by}
use Rattle.gaps.specs.declared.pass.Passed.{Passed}
use Rattle.gaps.specs.declared.pass.Passed.TheVariants as passed
use Rattle.gaps.specs.declared.state.Open.{Open}
use Rattle.gaps.specs.declared.state.Open.TheVariants.{Clear, Slash, Line, Block}
use Rattle.gaps.specs.declared.step.Step.{Step}
use Rattle.gaps.specs.declared.step.Step.TheVariants as steps

-- ---- where nothing is open

-- what follows a step at the place i
abbrev pub after_step : List ℕ → ℕ → Step → Passed
after_step s i (steps.On n) = clear_at s (i + n)
after_step s i (steps.Still o) = passed.Within o
after_step s i (steps.Odd n) = passed.Unexpected (i + n)
after_step s i steps.Begins = passed.Begins i

pub clear_on : (s : List ℕ) (i n : ℕ) → item_of (drop i s) ≡ Blank n → clear_at s i ≡ clear_at s (i + n)
unfolding clear_at
clear_on s i n e =
    let z : Sized (drop i s) (Blank n) = subst (Sized (drop i s)) e (item_sized (drop i s)) in
    ap₂ (λ (g : Gap) (o : Open). passed_by g o 0 (length s)) (gap_on s i n e) (open_blank (drop i s) n e z.0 z.1 ∙ ap (λ (t : List ℕ). open_from t 0) (drop-drop n i s))

-- by an item that is none
clear_halts : (s : List ℕ) (i : ℕ) (r : Item) → i < length s → item_of (drop i s) ≡ r → Halts r
    → clear_at s i ≡ passed_by (by_item r (λ n. gap_from (drop (i + 1) s) (pred n) (i + 1)) i (length s)) (by_open r (λ n. Clear) (drop 1 (drop i s))) 0 (length s)
unfolding clear_at
clear_halts s i r h e z = ap₂ (λ (g : Gap) (o : Open). passed_by g o 0 (length s)) (gap_ends s i r h e) (open_halts (drop i s) r e z)

by-item : (s : List ℕ) (i : ℕ) (r : Item) → i < length s → item_of (drop i s) ≡ r → clear_at s i ≡ after_step s i (step_by (drop i s) r)
by-item s i (Blank n) h e = clear_on s i n e
by-item s i LineOpen h e = clear_halts s i LineOpen h e tt
by-item s i BlockOpen h e = clear_halts s i BlockOpen h e tt ∙ ap (λ (t : List ℕ). passed.Within (block_open t 0)) (drop-drop 1 1 (drop i s))
by-item s i (Unexpected n) h e = clear_halts s i (Unexpected n) h e tt ∙ ap passed.Unexpected (omega arith)
by-item s i Ended h e = clear_halts s i Ended h e tt
by-item s i Other h e = clear_halts s i Other h e tt ∙ ap (λ (t : Bool). cond t (passed.Begins (i - 0)) (passed.Within Clear)) (lt-ltb i (length s) h) ∙ ap passed.Begins (omega arith)

pub clear_step : (s : List ℕ) (i : ℕ) → i < length s → clear_at s i ≡ after_step s i (step_by (drop i s) (item_of (drop i s)))
clear_step s i h = by-item s i (item_of (drop i s)) h refl

pub clear_out : (s : List ℕ) (i : ℕ) → length s ≤ i → clear_at s i ≡ passed.Within Clear
unfolding clear_at
clear_out s i h =
    ap (λ (g : Gap). passed_by g (open_from (drop i s) 0) 0 (length s)) (gap_out s i h)
    ∙ ap (λ (t : Bool). cond t (passed.Begins (i - 0)) (passed.Within Clear)) (le-ltb i (length s) h)

-- a step has at least one byte, and no more than the part
abbrev pub StepSized : List ℕ → Step → Type 0
StepSized s (steps.On n) = (0 < n) × (n ≤ length s)
StepSized s (steps.Still o) = Unit {0}
StepSized s (steps.Odd n) = n ≤ length s
StepSized s steps.Begins = Unit {0}

sized_by : (s : List ℕ) (r : Item) → Sized s r → StepSized s (step_by s r)
sized_by s (Blank n) z = z
sized_by s LineOpen z = tt
sized_by s BlockOpen z = tt
sized_by s (Unexpected n) z = z
sized_by s Ended z = tt
sized_by s Other z = tt

pub step_sized : (s : List ℕ) → StepSized s (step_by s (item_of s))
step_sized s = sized_by s (item_of s) (item_sized s)

-- ---- the answer behind so many bytes

pub ltb_moved : (k m n : ℕ) → ltb (k + m) (k + n) ≡ ltb m n
ltb_moved k m n = go (ltb m n) refl
  where
    go : (t : Bool) → ltb m n ≡ t → ltb (k + m) (k + n) ≡ t
    go true e = let h = ltb-true m n e in lt-ltb (k + m) (k + n) (omega arith)
    go false e = let h = ltb-false m n e in le-ltb (k + m) (k + n) (omega arith)

pub passed_later : (k end : ℕ) (g : Gap) (o : Open) → passed_by (later_by k g) o k (k + end) ≡ passed_by g o 0 end
passed_later k end (gap.Clear n) o =
    let e : k + n - k ≡ n - 0 = omega arith in
    ap₂ (λ (t : Bool) (m : ℕ). cond t (passed.Begins m) (passed.Within Clear)) (ltb_moved k n end) e
passed_later k end (gap.InLine n) o = refl
passed_later k end (gap.Refused r) o =
    let e : k + r.place - k ≡ r.place - 0 = omega arith in
    ap (λ (m : ℕ). cond (eqb r.number 5) (passed.Unexpected m) (passed.Within o)) e

-- ---- behind a comment

end_none : (c : Option ℕ) → later_end 0 c ≡ c
end_none (Some n) = ap Some (zero-add n)
end_none None = refl

open_within : {o : Item} → Comment o → (g : Gap) (at end k m : ℕ) (left : Open) → passed_by (by_item o (λ n. g) at end) left k m ≡ passed.Within left
open_within Comment.line g at end k m left = refl
open_within Comment.block g at end k m left = refl

-- s is a piece of a text that begins with a comment: `before` bytes of it stand in front. The comment ends in s or not at all, and a place m of the one is a place of the other.
comment_passed : {o : Item} → Comment o → (x y : ℕ) (w s : List ℕ) (a b before : ℕ) (c : Option ℕ) (left : Open)
    → item_of (x ∷ y ∷ w) ≡ closed_item o (later_end a c) → length (x ∷ y ∷ w) ≡ before + length s → a + 2 ≡ before + b
    → ((n : ℕ) → drop (a + n) w ≡ drop (b + n) s) → by_open o (λ n. Clear) (y ∷ w) ≡ left
    → passed_by (gap_of (x ∷ y ∷ w)) (open_of (x ∷ y ∷ w)) before (length (x ∷ y ∷ w)) ≡ behind_end s left (later_end b c)
unfolding gap_of open_of clear_at
comment_passed k x y w s a b before (Some n) left e size same rest opened =
    let t = drop (b + n) s in
    let j : 0 + (a + n + 2) ≡ before + (b + n) = omega arith in
    ap₂ (λ (g : Gap) (o : Open). passed_by g o before (length (x ∷ y ∷ w)))
    (gap_closed x y w (a + n) 0 e ∙ ap (λ (u : List ℕ). gap_from u 0 (0 + (a + n + 2))) (rest n) ∙ ap (gap_from t 0) j ∙ gap_later t before (b + n))
    (open_closed x y w (a + n) e ∙ ap (λ (u : List ℕ). open_from u 0) (rest n))
    ∙ ap (passed_by (later_by before (gap_from t 0 (b + n))) (open_from t 0) before) size
    ∙ passed_later before (length s) (gap_from t 0 (b + n)) (open_from t 0)
comment_passed k x y w s a b before None left e size same rest opened =
    ap₂ (λ (g : Gap) (o : Open). passed_by g o before (length (x ∷ y ∷ w))) (open_ends k x (y ∷ w) 0 e) (open_left k x (y ∷ w) e ∙ opened)
    ∙ open_within k (gap.Clear 0) 0 (0 + length (x ∷ y ∷ w)) before (length (x ∷ y ∷ w)) left

-- ---- a line comment

pub line_passed : (s : List ℕ) → passed_of Line s ≡ line_at s 0
unfolding passed_of front line_at line_end
line_passed s =
    comment_passed Comment.line 0x2f 0x2f s s 0 0 2 (line_from s 0) Line (item_line s ∙ line_closed (line_end s) ∙ ap (closed_item LineOpen) (sym (end_none (line_from s 0)))) (omega arith) (omega arith) (λ n. refl) refl
    ∙ ap (behind_end s Line) (end_none (line_from s 0))

-- ---- a `/`

slash_alone : passed_of Slash [] ≡ passed.Within Slash
unfolding passed_of front gap_of open_of gap_from open_from
slash_alone = rw item_last

pub slash_none : (s : List ℕ) → length s ≡ 0 → passed_of Slash s ≡ passed.Within Slash
slash_none [] h = slash_alone
slash_none (b ∷ s) h = absurd (omega arith)

-- a byte in front
one_more : (b : ℕ) (s : List ℕ) (n : ℕ) → drop (0 + n) s ≡ drop (1 + n) (b ∷ s)
one_more b s n =
    let e : suc n ≡ 1 + n = omega arith in
    ap (λ (m : ℕ). drop m s) (zero-add n) ∙ ap (λ (m : ℕ). drop m (b ∷ s)) e

slash_line : (s : List ℕ) → passed_of Slash (0x2f ∷ s) ≡ line_at (0x2f ∷ s) 1
unfolding passed_of front line_at line_end
slash_line s =
    comment_passed Comment.line 0x2f 0x2f s (0x2f ∷ s) 0 1 1 (line_from s 0) Line (item_line s ∙ line_closed (line_end s) ∙ ap (closed_item LineOpen) (sym (end_none (line_from s 0)))) (omega arith) (omega arith) (one_more 0x2f s) refl
    ∙ ap (behind_end (0x2f ∷ s) Line) (sym (line_moved s 1 0))

slash_block : (s : List ℕ) → passed_of Slash (0x2a ∷ s) ≡ block_at (0x2a ∷ s) 1 0
unfolding passed_of front block_at block_end
slash_block s =
    comment_passed Comment.block 0x2f 0x2a s (0x2a ∷ s) 0 1 1 (block_from s 1 0) (block_open s 0) (item_block s ∙ block_closed (block_end s) ∙ ap (closed_item BlockOpen) (sym (end_none (block_from s 1 0)))) (omega arith) (omega arith) (one_more 0x2a s) refl
    ∙ ap (behind_end (0x2a ∷ s) (block_open s 0)) (sym (block_moved s 1 1 0))

slash_odd : (b : ℕ) (s : List ℕ) → (b ≡ 0x2f → ⊥) → (b ≡ 0x2a → ⊥) → passed_of Slash (b ∷ s) ≡ passed.Unexpected (char_len (b ∷ s))
unfolding passed_of front gap_of open_of gap_from open_from
slash_odd b s m n = rw (item_odd b s m n) (ap passed.Unexpected (omega arith))

pub slash_told_line : (s : List ℕ) → 0 < length s → get_or s 0 0 ≡ 0x2f → passed_of Slash s ≡ line_at s 1
slash_told_line [] h e = absurd (omega arith)
slash_told_line (b ∷ s) h e = subst (λ (x : ℕ). passed_of Slash (x ∷ s) ≡ line_at (x ∷ s) 1) (sym e) (slash_line s)

pub slash_told_block : (s : List ℕ) → 0 < length s → get_or s 0 0 ≡ 0x2a → passed_of Slash s ≡ block_at s 1 0
slash_told_block [] h e = absurd (omega arith)
slash_told_block (b ∷ s) h e = subst (λ (x : ℕ). passed_of Slash (x ∷ s) ≡ block_at (x ∷ s) 1 0) (sym e) (slash_block s)

pub slash_told_odd : (s : List ℕ) → 0 < length s → (get_or s 0 0 ≡ 0x2f → ⊥) → (get_or s 0 0 ≡ 0x2a → ⊥) → passed_of Slash s ≡ passed.Unexpected (char_len s)
slash_told_odd [] h m n = absurd (omega arith)
slash_told_odd (b ∷ s) h m n = slash_odd b s m n

-- ---- a block comment

-- behind the marks and the last byte
block_passed : (k last : ℕ) (s : List ℕ) (a b : ℕ) (c : Option ℕ) (left : Open) → block_from (last_byte last ++ s) (suc k) (2 * k) ≡ later_end a c → a ≡ length (rest k last) + b
    → block_open (last_byte last ++ s) k ≡ left → passed_of (Block k last) s ≡ behind_end s left (later_end b c)
unfolding passed_of front marks block_end
block_passed k last s a b c left e f o =
    let r = rest k last in
    comment_passed Comment.block 0x2f 0x2a (r ++ s) s a b (suc (suc (length r))) c left
    (item_block (r ++ s) ∙ block_closed (block_end (r ++ s)) ∙ ap (closed_item BlockOpen) (rest_pass k last s ∙ e))
    (omega (arith, length-append r s)) (omega arith)
    (λ n. (let j : a + n ≡ length r + (b + n) = omega arith in ap (λ (m : ℕ). drop m (r ++ s)) j ∙ drop-append-add r s (b + n)))
    (rest_open k last s ∙ o)

pub last_none : (k last : ℕ) (s : List ℕ) → length s ≡ 0 → passed_of (Block k last) s ≡ passed.Within (Block k (unpaired last))
last_none k last (b ∷ s) h = absurd (omega arith)
last_none k last [] h =
    block_passed k last [] (length (rest k last) + 0) 0 None (Block k (unpaired last)) (last_unclosed last (suc k) (2 * k)) refl (last_open last k)

-- what follows the decision over the last byte and the first of the piece
abbrev pub after_last : List ℕ → ℕ → Decision → Passed
after_last s k decision.Open = block_at s 1 (suc k)
after_last s k decision.CloseLast = clear_at s 1
after_last s k decision.CloseInner = block_at s 1 (pred k)
after_last s k decision.PassOn = block_at s 0 k

-- without a last byte
no_last : (k : ℕ) (s : List ℕ) → passed_of (Block k 0) s ≡ block_at s 0 k
unfolding last_byte block_at
no_last k s =
    let z : 2 * k ≡ 2 * k + 0 = sym (add-zero (2 * k)) in
    block_passed k 0 s (2 * k) 0 (block_from s (suc k) 0) (block_open s k) (ap (block_from s (suc k)) z ∙ block_moved s (suc k) (2 * k) 0) (omega (arith, rest_length k 0)) refl
    ∙ ap (behind_end s (block_open s k)) (end_none (block_from s (suc k) 0))

last_is : (last : ℕ) → eqb last 0 ≡ false → last_byte last ≡ last ∷ []
unfolding last_byte
last_is last e = rw e

-- with one
module _ (k last b : ℕ) (s : List ℕ) (q : eqb last 0 ≡ false) where
  mark_length : length (rest k last) ≡ 2 * k + 1
  mark_length = omega (arith, rest_length k last, ap length (last_is last q))

  -- the two bytes and what follows
  mark_from : (x : Decision) → decision_of last b (suc k) ≡ x → block_from (last_byte last ++ b ∷ s) (suc k) (2 * k) ≡ after b s (suc k) (2 * k) x
  mark_from x e = ap (λ (t : List ℕ). block_from (t ++ b ∷ s) (suc k) (2 * k)) (last_is last q) ∙ step last b s (suc k) (2 * k) ∙ ap (after b s (suc k) (2 * k)) e

  mark_open : (x : Decision) → decision_of last b (suc k) ≡ x → block_open (last_byte last ++ b ∷ s) k ≡ after_open b s k x
  mark_open x e = ap (λ (t : List ℕ). block_open (t ++ b ∷ s) k) (last_is last q) ∙ open_step last b s k ∙ ap (after_open b s k) e

  -- two bytes were a mark: the comment goes on behind the piece's first
  mark_passed : (l : ℕ) → block_from (last_byte last ++ b ∷ s) (suc k) (2 * k) ≡ block_from s (suc l) (2 * k + 2) → block_open (last_byte last ++ b ∷ s) k ≡ block_open s l → passed_of (Block k last) (b ∷ s) ≡ block_at (b ∷ s) 1 l
  unfolding block_at
  mark_passed l e o =
      let z : 2 * k + 2 ≡ 2 * k + 2 + 0 = sym (add-zero (2 * k + 2)) in
      block_passed k last (b ∷ s) (2 * k + 2) 1 (block_from s (suc l) 0) (block_open s l) (e ∙ ap (block_from s (suc l)) z ∙ block_moved s (suc l) (2 * k + 2) 0) (omega (arith, mark_length)) o
      ∙ ap (behind_end (b ∷ s) (block_open s l)) (sym (block_moved s (suc l) 1 0))

mark_decided : (k last b : ℕ) (s : List ℕ) → eqb last 0 ≡ false → (x : Decision) → decision_of last b (suc k) ≡ x → passed_of (Block k last) (b ∷ s) ≡ after_last (b ∷ s) k x
unfolding block_at
mark_decided k last b s q decision.Open e =
    mark_passed k last b s q (suc k) (mark_from k last b s q decision.Open e ∙ ap (λ (l : ℕ). block_from s l (2 * k + 2)) (add-one (suc k))) (mark_open k last b s q decision.Open e)
mark_decided k last b s q decision.CloseLast e =
    block_passed k last (b ∷ s) (2 * k + 2) 1 (Some 0) Clear (mark_from k last b s q decision.CloseLast e ∙ ap Some (sym (add-zero (2 * k + 2)))) (omega (arith, mark_length k last b s q)) (mark_open k last b s q decision.CloseLast e)
mark_decided zero last b s q decision.CloseInner e = absurd (not_last last b 1 e refl)
mark_decided (suc k) last b s q decision.CloseInner e =
    let j : suc (suc k) - 1 ≡ suc k = omega arith in
    mark_passed (suc k) last b s q k (mark_from (suc k) last b s q decision.CloseInner e ∙ ap (λ (l : ℕ). block_from s l (2 * suc k + 2)) j) (mark_open (suc k) last b s q decision.CloseInner e)
mark_decided k last b s q decision.PassOn e =
    let t = b ∷ s in
    let z : 2 * k + 1 ≡ 2 * k + 1 + 0 = sym (add-zero (2 * k + 1)) in
    block_passed k last t (2 * k + 1) 0 (block_from t (suc k) 0) (block_open t k) (mark_from k last b s q decision.PassOn e ∙ ap (block_from t (suc k)) z ∙ block_moved t (suc k) (2 * k + 1) 0) (omega (arith, mark_length k last b s q)) (mark_open k last b s q decision.PassOn e)
    ∙ ap (behind_end t (block_open t k)) (end_none (block_from t (suc k) 0))

by_last : (k last b : ℕ) (s : List ℕ) (t : Bool) → eqb last 0 ≡ t → passed_of (Block k last) (b ∷ s) ≡ after_last (b ∷ s) k (decision_of last b (suc k))
by_last k last b s true q =
    let e = eqb-true last 0 q in
    ap (λ (n : ℕ). passed_of (Block k n) (b ∷ s)) e
    ∙ no_last k (b ∷ s)
    ∙ ap (after_last (b ∷ s) k) (passes_other last b (suc k) (λ z. omega arith) (λ z. omega arith))
by_last k last b s false q = mark_decided k last b s q (decision_of last b (suc k)) refl

pub last_decided : (k last : ℕ) (s : List ℕ) → 0 < length s → passed_of (Block k last) s ≡ after_last s k (decision_of last (get_or s 0 0) (suc k))
last_decided k last [] h = absurd (omega arith)
last_decided k last (b ∷ s) h = by_last k last b s (eqb last 0) refl

-- ---- at an index

pub clear_passed : (s : List ℕ) → passed_of Clear s ≡ clear_at s 0
unfolding passed_of clear_at front gap_of open_of
clear_passed s = refl

pub line_found_at : (s : List ℕ) (i j : ℕ) → j ≡ i + run (other 0x0a) (drop i s) → j < length s → line_at s i ≡ clear_at s j
unfolding line_at
line_found_at s i j e h = ap (behind_end s Line) (line_found (drop i s) i (omega (arith, length-drop i s)) ∙ ap Some (sym e))

pub line_none_at : (s : List ℕ) (i j : ℕ) → j ≡ i + run (other 0x0a) (drop i s) → length s ≤ j → line_at s i ≡ passed.Within Line
unfolding line_at
line_none_at s i j e h = ap (behind_end s Line) (line_none (drop i s) i (omega (arith, length-drop i s)))

-- by how far a block comment goes
abbrev pub passed_rest : List ℕ → Result ℕ Open → Passed
passed_rest s (Ok n) = clear_at s n
passed_rest s (Err o) = passed.Within o

pub block_rest_at : (s : List ℕ) (i k : ℕ) → block_at s i k ≡ passed_rest s (rest_of s i k)
unfolding block_at rest_of
block_rest_at s i k = go (block_from (drop i s) (suc k) i)
  where
    go : (c : Option ℕ) → behind_end s (block_open (drop i s) k) c ≡ passed_rest s (rest_by (block_open (drop i s) k) c)
    go (Some n) = refl
    go None = refl

-- it ends within the piece
abbrev pub RestSized : List ℕ → Result ℕ Open → Type 0
RestSized s (Ok n) = n ≤ length s
RestSized s (Err o) = Unit {0}

pub rest_sized : (s : List ℕ) (i k : ℕ) → i ≤ length s → RestSized s (rest_of s i k)
unfolding rest_of
rest_sized s i k h = go (block_from (drop i s) (suc k) i) (block_le (drop i s) (suc k) i)
  where
    go : (c : Option ℕ) → Bounded i (i + length (drop i s)) c → RestSized s (rest_by (block_open (drop i s) k) c)
    go (Some n) b = omega (arith, length-drop i s)
    go None b = tt
