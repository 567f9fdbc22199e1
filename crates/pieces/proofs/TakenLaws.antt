-- The bytes that are taken of a piece: what the code finds in the buffer is what specs/Pieces says of what is kept and the piece.
--     ordered       the numbers of a state in order
--     outcome_is    the outcome, told by the bytes that the limit lets through
-- Assumes nothing.
use Prim.Native.Nat.{ℕ, ◌+◌, ◌-◌, ◌<◌, ◌≤◌}
use native.Mathlib.Omega.{arith}
use mathlib.Core.Bool.{true, ◌&&◌}
use mathlib.Core.List.{List, [], ◌∷◌, ◌++◌}
use mathlib.Core.Logic.{inl}
use mathlib.Core.Path.{◌≡◌, ap, refl, subst, sym, ◌∙◌}
use lib.Dec.{leb}
use lib.ListN.{drop, drop_of_length-le, length, length-append, length-drop, take, take-append-drop}
use lib.Seq.{drop-append-le, drop_at, length-take-le, take-add, take-take}
use borrow.Author.Tests.{leb-false, leb-true, le-leb}
use Rattle.text.proofs.Choices.{and_true, bool_cases, cond_cases, either}
use Rattle.text.specs.Classes.{one_of}
use Rattle.text.specs.Refusals.{not_utf8, too_long}
use Rattle.text.specs.declared.refusal.Refusal.{Refusal}
use Rattle.reading.proofs.Steps.{drop_on}
use Rattle.octets.proofs.Cutting.{all_bound, bad_bounds}
use Rattle.octets.proofs.Exactly.{allowed_all}
use Rattle.octets.specs.Octets.{Cut, allowed_of}
use Rattle.octets.specs.declared.answer.Allowed.{Allowed}
use Rattle.octets.specs.declared.answer.Allowed.TheVariants.{All, Bad}
use Rattle.gaps.specs.Opens.{level_of}
use Rattle.gaps.specs.Passes.{passed_of}
use Rattle.gaps.specs.declared.state.Open.{Open}
use Rattle.gaps.specs.declared.state.Open.TheVariants.{Clear, Slash, Line, Block}
use Rattle.pieces.specs.Bars.{most_held}
use Rattle.pieces.specs.Come.{came_by, came_of, sooner}
use Rattle.pieces.specs.Orders.{in_order, kept_fits, most_taken, open_fits, refusal_fits}
use Rattle.pieces.specs.Pieces.{Outcome, bad_at, bad_from, barred_by, behind_bytes, cut_off, may_take, outcome_of}
use Rattle.pieces.specs.inner.Limits.{limit_end, limit_of}
use Rattle.pieces.specs.inner.Steps.{Fit, outcome_in}
use Rattle.pieces.specs.declared.limit.Most.{Most}
use Rattle.pieces.specs.declared.state.Arrival.{Arrival}

-- ---- a state in order

pub record Ordered (a : Arrival) : Type 0 where
  pub few : a.taken ≤ most_taken
  pub cut : a.part ≤ 3
  pub part_kept : a.part ≤ a.kept
  pub held : a.kept ≤ most_held
  pub behind : a.former + a.kept ≤ a.taken
  pub opened : open_fits a.gap a.taken ≡ true

pub ordered : (a : Arrival) → in_order a ≡ true → Ordered a
unfolding in_order kept_fits
ordered a h =
    let t = and_true (leb a.taken most_taken) (kept_fits a && (open_fits a.gap a.taken && refusal_fits a)) h in
    let k = and_true (kept_fits a) (open_fits a.gap a.taken && refusal_fits a) t.1 in
    let o = and_true (open_fits a.gap a.taken) (refusal_fits a) k.1 in
    let p = and_true (leb a.part 3) _ k.0 in
    let q = and_true (leb a.part a.kept) _ p.1 in
    let r = and_true (leb a.kept most_held) _ q.1 in
    let s = and_true (leb (a.former + a.kept) a.taken) _ r.1 in
    record {
      few = leb-true a.taken most_taken t.0;
      cut = leb-true a.part 3 p.0;
      part_kept = leb-true a.part a.kept q.0;
      held = leb-true a.kept most_held r.0;
      behind = leb-true (a.former + a.kept) a.taken s.0;
      opened = o.0;
    }

-- what may be open behind fewer bytes may be so behind more, and no more comments are than bytes
pub open_more : (o : Open) (m n : ℕ) → m ≤ n → open_fits o m ≡ true → open_fits o n ≡ true
open_more Clear m n l h = refl
open_more Slash m n l h = refl
open_more Line m n l h = refl
open_more (Block level last) m n l h =
    let b = and_true (leb level m) (one_of (0 ∷ 0x2a ∷ 0x2f ∷ []) last) h in
    rw (le-leb level n (omega (arith, leb-true level m b.0))) b.1

pub open_level : (o : Open) (n : ℕ) → open_fits o n ≡ true → level_of o ≤ n
open_level Clear n h = omega arith
open_level Slash n h = omega arith
open_level Line n h = omega arith
open_level (Block level last) n h = leb-true level n (and_true (leb level n) (one_of (0 ∷ 0x2a ∷ 0x2f ∷ []) last) h).0

-- ---- the sooner of two places

pub sooner_le : (a b : ℕ) → (sooner a b ≤ a) × (sooner a b ≤ b)
unfolding sooner
sooner_le a b =
    either (bool_cases (leb a b)) (λ t. rw t (let h = leb-true a b t in (omega arith, omega arith))) (λ t. rw t (let h = leb-false a b t in (omega arith, omega arith)))

-- ---- what may be taken

-- no more than there is
bad_le : (x : List ℕ) (part n : ℕ) → length x ≤ part + n → bad_at (allowed_of x) part n ≤ n
bad_le x part n h = go (allowed_of x) refl
  where
    go : (r : Allowed) → allowed_of x ≡ r → bad_at r part n ≤ n
    go (All m) e = omega arith
    go (Bad k from) e = omega (arith, (bad_bounds x k from e).0)

-- the bytes at the end that belong to a character that has not come whole
cut_le : (x : List ℕ) → cut_off (allowed_of x) ≤ length x
cut_le x = go (allowed_of x) refl
  where
    go : (r : Allowed) → allowed_of x ≡ r → cut_off r ≤ length x
    go (All m) e = (all_bound x m e).0
    go (Bad k from) e = omega arith

cut-off : (x : List ℕ) → Cut (drop (length x - cut_off (allowed_of x)) x)
cut-off x = go (allowed_of x) refl
  where
    go : (r : Allowed) → allowed_of x ≡ r → Cut (drop (length x - cut_off r) x)
    go (All m) e =
        let w = (allowed_all x m).0 e in
        let many : length w.part ≡ m = w.many in
        let at : length w.good ≡ length x - m = omega (arith, ap length w.is, length-append w.good w.part) in
        subst Cut (sym (ap (drop (length x - m)) w.is ∙ drop_at w.good w.part (length x - m) at)) w.cut
    go (Bad k from) e = inl (drop_of_length-le x {i = length x - 0} (omega arith))

-- ---- the limit in the buffer

module _ (a : Arrival) (buffer : List ℕ) (n : ℕ) where
  -- what is kept, the piece, and the bytes of the character that was begun
  abbrev pub kept_there : List ℕ
  kept_there = take a.kept buffer

  abbrev pub piece_there : List ℕ
  piece_there = take n (drop a.kept buffer)

  abbrev pub begun_there : List ℕ
  begun_there = drop (a.kept - a.part) (take a.kept buffer)

  -- what the code finds
  abbrev pub limit_there : Most
  limit_there = limit_of (take (a.kept + n) buffer) a.taken a.kept a.part

  abbrev pub text_there : List ℕ
  text_there = take limit_there.end buffer

-- the outcome by what the code finds: of n bytes m were taken, s with what was kept, up to `whole` whole characters
abbrev pub outcome_by : Arrival → ℕ → ℕ → ℕ → List ℕ → Refusal → Outcome
outcome_by a n m whole s why = behind_bytes a n m (drop whole s) why (came_by (passed_of a.gap (take whole s)) a.kept s)

module _ (a : Arrival) (buffer : List ℕ) (n : ℕ) (f : Fit a (length buffer) n) where
  abbrev kept : List ℕ
  kept = kept_there a buffer n

  abbrev w : List ℕ
  w = piece_there a buffer n

  abbrev begun : List ℕ
  begun = begun_there a buffer n

  abbrev front : List ℕ
  front = take (a.kept + n) buffer

  order : Ordered a
  order = ordered a f.order

  kept_length : length (kept_there a buffer n) ≡ a.kept
  kept_length = length-take-le a.kept buffer (omega arith)

  piece_length : length (piece_there a buffer n) ≡ n
  piece_length = length-take-le n (drop a.kept buffer) (omega (arith, length-drop a.kept buffer))

  front_length : length (take (a.kept + n) buffer) ≡ a.kept + n
  front_length = length-take-le (a.kept + n) buffer f.there

  -- the character that was begun, and the piece
  begun_is : drop (a.kept - a.part) (take (a.kept + n) buffer) ≡ begun_there a buffer n ++ piece_there a buffer n
  begun_is = ap (drop (a.kept - a.part)) (take-add a.kept n buffer) ∙ drop-append-le (a.kept - a.part) kept w (omega (arith, kept_length))

  -- how many bytes are taken
  abbrev most : ℕ
  most = may_take a.taken (bad_at (allowed_of (begun_there a buffer n ++ piece_there a buffer n)) a.part (length (piece_there a buffer n)))

  most_le : (most ≤ n) × (most ≤ most_taken - a.taken)
  most_le =
      let x : List ℕ = begun ++ w in
      let long : length x ≤ a.part + length w = omega (arith, order.part_kept, length-append begun w, length-drop (a.kept - a.part) kept, kept_length) in
      let bad = bad_le x a.part (length w) long in
      let both = sooner_le (most_taken - a.taken) (bad_at (allowed_of x) a.part (length w)) in
      (omega (arith, both.1, piece_length), both.0)

  end_is : (limit_there a buffer n).end ≡ a.kept + most
  unfolding limit_of limit_end
  end_is =
      let l : length front - a.kept ≡ length w = omega (arith, front_length, piece_length) in
      ap (λ (x : List ℕ). a.kept + may_take a.taken (bad_at (allowed_of x) a.part (length front - a.kept))) begun_is
      ∙ ap (λ (k : ℕ). a.kept + may_take a.taken (bad_at (allowed_of (begun ++ w)) a.part k)) l

  -- they stand within the buffer, and all that was taken is no more than a text may have
  pub end_inside : (a.kept ≤ (limit_there a buffer n).end) × ((limit_there a buffer n).end ≤ a.kept + n)
  end_inside = (omega (arith, end_is), omega (arith, end_is, most_le.0))

  pub end_small : a.taken - a.kept + (limit_there a buffer n).end ≤ most_taken
  end_small = omega (arith, end_is, most_le.1, order.few, order.behind)

  pub text_length : length (text_there a buffer n) ≡ (limit_there a buffer n).end
  text_length = length-take-le (limit_there a buffer n).end buffer (omega (arith, end_inside.1))

  text_is : text_there a buffer n ≡ kept_there a buffer n ++ take most (piece_there a buffer n)
  text_is =
      ap (λ (k : ℕ). take k buffer) end_is
      ∙ take-add a.kept most buffer
      ∙ ap (λ (x : List ℕ). kept ++ x) (sym (take-take most n (drop a.kept buffer) most_le.0))

  -- the code takes them of what is kept and the piece
  front_text : take (limit_there a buffer n).end (take (a.kept + n) buffer) ≡ text_there a buffer n
  front_text = take-take (limit_there a buffer n).end (a.kept + n) buffer end_inside.1

  begun_text : drop (a.kept - a.part) (text_there a buffer n) ≡ begun_there a buffer n ++ take most (piece_there a buffer n)
  begun_text = ap (drop (a.kept - a.part)) text_is ∙ drop-append-le (a.kept - a.part) kept (take most w) (omega (arith, kept_length))

  -- the bytes of a character that has not come whole
  abbrev cut : ℕ
  cut = cut_off (allowed_of (begun_there a buffer n ++ take most (piece_there a buffer n)))

  whole_is : (limit_there a buffer n).whole ≡ (limit_there a buffer n).end - cut
  unfolding limit_of
  whole_is =
      ap (λ (x : List ℕ). (limit_there a buffer n).end - cut_off (allowed_of (drop (a.kept - a.part) x))) front_text
      ∙ ap (λ (x : List ℕ). (limit_there a buffer n).end - cut_off (allowed_of x)) begun_text

  why_is : (limit_there a buffer n).why ≡ barred_by a (allowed_of (begun_there a buffer n ++ piece_there a buffer n)) (length (piece_there a buffer n))
  unfolding limit_of
  why_is =
      let l : length front - a.kept ≡ length w = omega (arith, front_length, piece_length) in
      ap (λ (x : List ℕ). barred_by a (allowed_of x) (length front - a.kept)) begun_is ∙ ap (barred_by a (allowed_of (begun ++ w))) l

  -- ---- what `come` asks for
  begun_whole : length (drop (a.kept - a.part) (text_there a buffer n)) - cut ≡ (limit_there a buffer n).whole - (a.kept - a.part)
  begun_whole =
      omega (arith, whole_is, text_length, length-drop (a.kept - a.part) (text_there a buffer n))

  pub whole_inside : (limit_there a buffer n).whole ≤ length (text_there a buffer n)
  whole_inside = omega (arith, whole_is, text_length)

  cut_inside : a.kept - a.part ≤ (limit_there a buffer n).whole
  cut_inside =
      let l = cut_le (begun ++ take most w) in
      omega (arith, whole_is, text_length, end_inside.0, ap length begun_text, length-drop (a.kept - a.part) (text_there a buffer n))

  pub whole_cut : Cut (drop (limit_there a buffer n).whole (text_there a buffer n))
  whole_cut =
      let k : ℕ = a.kept - a.part in
      let x : List ℕ = begun ++ take most w in
      let i : length x - cut_off (allowed_of x) ≡ (limit_there a buffer n).whole - k = ap (λ (y : List ℕ). length y - cut) (sym begun_text) ∙ begun_whole in
      let e : k + (length x - cut_off (allowed_of x)) ≡ (limit_there a buffer n).whole = omega (arith, i, cut_inside) in
      subst Cut (ap (drop (length x - cut_off (allowed_of x))) (sym begun_text) ∙ drop_on k (length x - cut_off (allowed_of x)) (limit_there a buffer n).whole (text_there a buffer n) e) (cut-off x)

  -- ---- the outcome
  pub outcome_is : outcome_in a buffer n ≡ outcome_by a n ((limit_there a buffer n).end - a.kept) (limit_there a buffer n).whole (text_there a buffer n) (limit_there a buffer n).why
  unfolding outcome_of came_of
  outcome_is =
      let s : List ℕ = kept ++ take most w in
      let why : Refusal = barred_by a (allowed_of (begun ++ w)) (length w) in
      let k : ℕ = length s - cut in
      let i : k ≡ (limit_there a buffer n).whole = omega (arith, whole_is, text_length, ap length text_is) in
      let m : most ≡ (limit_there a buffer n).end - a.kept = omega (arith, end_is) in
      ap (λ (t : List ℕ). behind_bytes a (length w) most (drop k s) why (came_by (passed_of a.gap (take k s)) a.kept t)) (take-append-drop k s)
      ∙ ap (λ (l : ℕ). outcome_by a l most k s why) piece_length
      ∙ ap (λ (l : ℕ). outcome_by a n l k s why) m
      ∙ ap (λ (l : ℕ). outcome_by a n ((limit_there a buffer n).end - a.kept) l s why) i
      ∙ ap (λ (t : List ℕ). outcome_by a n ((limit_there a buffer n).end - a.kept) (limit_there a buffer n).whole t why) (sym text_is)
      ∙ ap (λ (d : Refusal). outcome_by a n ((limit_there a buffer n).end - a.kept) (limit_there a buffer n).whole (text_there a buffer n) d) (sym why_is)

  -- where all was taken nothing bars, and what bars has a number
  pub why_number : 0 < (limit_there a buffer n).why.number
  why_number =
      subst (λ (d : Refusal). 0 < d.number) (sym why_is)
      (cond_cases (λ (d : Refusal). 0 < d.number) (leb (most_taken - a.taken) (bad_at (allowed_of (begun ++ w)) a.part (length w))) too_long
      (not_utf8 (a.taken - a.part + bad_from (allowed_of (begun ++ w)))) (λ e. omega arith) (λ e. omega arith))
