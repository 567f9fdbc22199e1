-- Rows at their places in the text, and bytes to the front of a buffer: what is left to write gives the whole. Assumes nothing.
use Prim.Native.Nat.{ℕ, suc, zero, ◌+◌, ◌-◌, ◌*◌, ◌<◌, ◌≤◌}
use native.Mathlib.Omega.{arith}
use mathlib.Core.Bool.{true}
use mathlib.Core.List.{List, [], ◌∷◌, ◌++◌, map}
use mathlib.Core.Path.{◌≡◌, ap, ap₂, refl, sym, subst, ◌∙◌}
use lib.ListN.{drop, length, take, take-append-drop, length-drop}
use lib.Seq.{drop_at, length-take-le, paste, take-nil}
use borrow.Author.Tests.{le-leb}
use Rattle.read.proofs.PassLaws.{split_reading}
use Rattle.reading.proofs.Entries.{read_in_order}
use Rattle.reading.specs.Owed.{quiet_byte}
use Rattle.reading.specs.Readings.{Reading, entries, read_from}
use Rattle.rows.proofs.OrderLaws.{Orderly, in_order_first, in_order_within}
use Rattle.rows.proofs.RowLaws.{drop_behind, entries_flat, entries_next, length_entries, length_flat, row_fits, writes, writes_laid}
use Rattle.rows.specs.Order.{in_order_from, orderly}
use Rattle.rows.specs.Rows.{entries_of, entry_at, flat, laid, room_of, width, written}
use Rattle.rows.specs.declared.Entry.{Entry}
use Rattle.text.proofs.Choices.{and_true}
use Rattle.tokens.proofs.RonLaws.{kinds, laws}
use Rattle.tokens.specs.Ron.{ron_token}
use Rattle.pieces.specs.Pieces.{gapped, moved_to}

-- ---- bytes to the front

-- the first i bytes from a place on at the front, and behind them the buffer as it was
abbrev pub fronted : ℕ → ℕ → List ℕ → List ℕ
fronted from i s = take i (drop from s) ++ drop i s

-- what stands there already
pub nothing_moves : (s : List ℕ) (from n : ℕ) → from ≡ 0 → s ≡ fronted from n s
nothing_moves s from n e = sym (ap (λ (k : ℕ). fronted k n s) e ∙ take-append-drop n s)

-- the bytes of a range, copied to the front
pub copied_front : (s : List ℕ) (from n : ℕ) → paste s 0 (drop from s) (from + n - from) ≡ fronted from n s
copied_front s from n =
    let z : from + n - from ≡ n = omega arith in
    let y : 0 + n ≡ n = omega arith in
    ap (λ (k : ℕ). paste s 0 (drop from s) k) z ∙ ap (λ (k : ℕ). take n (drop from s) ++ drop k s) y

-- ---- rows at their places

pub length_gapped : (former : ℕ) (es : List Entry) → length (gapped former es) ≡ length es
unfolding gapped
length_gapped former [] = refl
length_gapped former (e ∷ es) = ap suc (length_gapped e.end es)

pub length_moved : (base : ℕ) (es : List Entry) → length (map (moved_to base) es) ≡ length es
length_moved base [] = refl
length_moved base (e ∷ es) = ap suc (length_moved base es)

-- the entries of the rows that are left, at their places
abbrev pub rows_left : ℕ → ℕ → List ℕ → List Entry
rows_left n i tape = entries_of (n - i) (drop (width * i) tape)

-- an entry at its place, its gap behind another
abbrev pub placed : ℕ → ℕ → Entry → Entry
placed base behind e = record { kind = e.kind; start = base + e.start; end = base + e.end; detail = e.detail; gap = base + e.start - behind }

-- row i is next: the rows from there on are in order behind a place, and written at their places they give the whole
pub record Left (n base limit : ℕ) (whole : List ℕ) (i : ℕ) (tape : List ℕ) (behind : ℕ) : Type 0 where
  pub at : ℕ
  pub order : in_order_from (rows_left n i tape) at limit ≡ true
  pub former : behind ≤ base + at
  pub rows : writes (gapped behind (map (moved_to base) (rows_left n i tape))) i tape ≡ whole

pub place_starts : (n base former from limit : ℕ) (tape : List ℕ) → n ≤ room_of (length tape) → in_order_from (entries_of n tape) from limit ≡ true → former ≤ base + from
    → Left n base limit (laid (gapped former (map (moved_to base) (entries_of n tape))) tape) 0 tape former
place_starts n base former from limit tape room order f =
    let z : n - 0 ≡ n = omega arith in
    let es : List Entry = gapped former (map (moved_to base) (entries_of n tape)) in
    record {
      at = from;
      order = ap (λ (k : ℕ). in_order_from (entries_of k tape) from limit) z ∙ order;
      former = f;
      rows = ap (λ (k : ℕ). writes (gapped former (map (moved_to base) (entries_of k tape))) 0 tape) z
          ∙ writes_laid es tape (omega (arith, length_gapped former (map (moved_to base) (entries_of n tape)), length_moved base (entries_of n tape), length_entries n tape));
    }

module _ (n base limit : ℕ) (whole : List ℕ) (i : ℕ) (tape : List ℕ) (behind : ℕ) (left : Left n base limit whole i tape behind) where
  pub place_ends : n ≤ i → tape ≡ whole
  unfolding entries_of gapped writes
  place_ends h =
      let z : n - i ≡ 0 = omega arith in
      sym (ap (λ (k : ℕ). writes (gapped behind (map (moved_to base) (entries_of k (drop (width * i) tape)))) i tape) z) ∙ left.rows

  module _ (h : i < n) (e : Entry) (q : e ≡ entry_at tape i) where
    next_row : rows_left n i tape ≡ e ∷ rows_left n (i + 1) tape
    next_row =
        let z : n - i ≡ suc (n - (i + 1)) = omega arith in
        ap (λ (k : ℕ). entries_of k (drop (width * i) tape)) z ∙ entries_next (n - (i + 1)) i tape ∙ ap (λ (x : Entry). x ∷ rows_left n (i + 1) tape) (sym q)

    first : Orderly left.at e × (in_order_from (rows_left n (i + 1) tape) e.end limit ≡ true)
    first = in_order_first e (rows_left n (i + 1) tape) left.at limit (subst (λ (l : List Entry). in_order_from l left.at limit ≡ true) next_row left.order)

    -- it stands behind the former, and within the limit
    pub row_behind : behind ≤ base + e.start
    row_behind = omega (arith, left.former, first.0.behind)

    pub row_end : e.end ≤ limit
    row_end = in_order_within (rows_left n (i + 1) tape) e.end limit first.1

    pub row_start : e.start ≤ limit
    row_start = omega (arith, first.0.some, row_end)

    pub place_goes : (tape' : List ℕ) → n ≤ room_of (length tape) → tape' ≡ written tape i (placed base behind e) → Left n base limit whole (i + 1) tape' (base + e.end)
    unfolding gapped writes
    place_goes tape' room t =
        let same : rows_left n (i + 1) tape' ≡ rows_left n (i + 1) tape =
        ap (λ (l : List ℕ). entries_of (n - (i + 1)) l)
        (ap (drop (width * (i + 1))) t ∙ drop_behind tape i (placed base behind e) (row_fits i (length tape) (omega arith)) (width * (i + 1)) (omega arith)) in
        record {
          at = e.end;
          order = ap (λ (l : List Entry). in_order_from l e.end limit) same ∙ first.1;
          former = omega arith;
          rows = ap₂ (λ (l : List Entry) (x : List ℕ). writes (gapped (base + e.end) (map (moved_to base) l)) (i + 1) x) same t
              ∙ sym (ap (λ (l : List Entry). writes (gapped behind (map (moved_to base) l)) i tape) next_row)
              ∙ left.rows;
        }

-- ---- entries laid

-- the first of entries in order are in order
in_order_take : (es : List Entry) (n at limit : ℕ) → in_order_from es at limit ≡ true → in_order_from (take n es) at limit ≡ true
unfolding in_order_from
in_order_take [] n at limit h = ap (λ (l : List Entry). in_order_from l at limit) (take-nil n) ∙ h
in_order_take (e ∷ es) zero at limit h = le-leb at limit (in_order_within (e ∷ es) at limit h)
in_order_take (e ∷ es) (suc n) at limit h =
    let p = and_true (orderly at e) (in_order_from es e.end limit) h in
    rw p.0 (in_order_take es n e.end limit p.1)

-- what is laid over as many entries
laid_over : (es ds : List Entry) (t : List ℕ) → length es ≡ length ds → laid es (laid ds t) ≡ laid es t
unfolding laid
laid_over es ds t l =
    ap (λ (k : ℕ). flat es ++ drop (width * k) (flat ds ++ drop (width * length ds) t)) l
    ∙ ap (λ (x : List ℕ). flat es ++ x) (drop_at (flat ds) (drop (width * length ds) t) (width * length ds) (length_flat ds))
    ∙ ap (λ (k : ℕ). flat es ++ drop (width * k) t) (sym l)

-- the first entries of a reading
abbrev pub first_read : List ℕ → ℕ → ℕ → List Entry
first_read s from n = take n (entries (read_from ron_token s from))

module _ (s : List ℕ) (from n : ℕ) (tape tape' : List ℕ) (many : n ≤ length (entries (read_from ron_token s from)))
    (t : tape' ≡ laid (first_read s from n) tape) where
  all_read : length (first_read s from n) ≡ n
  all_read = length-take-le n (entries (read_from ron_token s from)) many

  held : entries_of n tape' ≡ (first_read s from n)
  unfolding laid
  held = ap₂ entries_of (sym all_read) t ∙ entries_flat (first_read s from n) (drop (width * length (first_read s from n)) tape)

  pub laid_in_order : from ≤ length s → in_order_from (entries_of n tape') from (length s) ≡ true
  laid_in_order h =
      let r : Reading = read_from ron_token s from in
      let d = split_reading r in
      let o = read_in_order ron_token quiet_byte laws kinds (entries r) from (drop from s) d.0 d.1 in
      let l : from + length (drop from s) ≡ length s = omega (arith, length-drop from s) in
      ap (λ (es : List Entry). in_order_from es from (length s)) held
      ∙ in_order_take (entries r) n from (length s) (ap (in_order_from (entries r) from) (sym l) ∙ o)

  pub laid_placed : (base former : ℕ) (tape'' : List ℕ) → tape'' ≡ laid (gapped former (map (moved_to base) (entries_of n tape'))) tape'
      → tape'' ≡ laid (gapped former (map (moved_to base) (first_read s from n))) tape
  laid_placed base former tape'' u =
      let es : List Entry = gapped former (map (moved_to base) (first_read s from n)) in
      u ∙ ap₂ (λ (l : List Entry) (x : List ℕ). laid (gapped former (map (moved_to base) l)) x) held t
      ∙ laid_over es (first_read s from n) tape (length_gapped former (map (moved_to base) (first_read s from n)) ∙ length_moved base (first_read s from n))
