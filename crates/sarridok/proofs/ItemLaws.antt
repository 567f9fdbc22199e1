-- The items of a list of integers: one by one, and what all of them come to. Assumes nothing.
use Rattle.std.proofs.Common.{Ok, Err}
use Prim.Native.Nat.{ℕ, zero, suc, ◌+◌, ◌≤◌, ◌<◌}
use native.Mathlib.Nat.{add-zero}
use native.Mathlib.Numerals.{add-one}
use native.Mathlib.Omega.{arith}
use mathlib.Core.Bool.{true, false}
use mathlib.Core.List.{List, [], ◌∷◌, ◌++◌, map}
use mathlib.Core.Path.{◌≡◌, ap, refl, sym, ◌∙◌}
use lib.Dec.{eqb}
use lib.ListN.{length, length-map, take, drop, drop_of_length-le, get_or, set}
use lib.Seq.{append_snoc, length-take-le, set_at, take_all, take-suc}
use borrow.Author.Tests.{le-ltb, lt-ltb}
use Rattle.text.proofs.Choices.{and_true}
use Rattle.text.proofs.ClassLaws.{within_true}
use Rattle.text.proofs.JudgeLaws.{front_fit}
use Rattle.text.proofs.Lists.{front}
use Rattle.text.specs.Classes.{within}
use Rattle.text.specs.Judged.{judged_of, place_fits}
use Rattle.text.specs.Refusals.{Told, at_place, other_kind, unfit}
use Rattle.text.specs.Utf8.{In}
use Rattle.text.specs.declared.refusal.Refusal.{Refusal}
use Rattle.integers.proofs.WidthRows.{width_of}
use Rattle.integers.specs.Width.{code_of, limit_at, limit_of, row, width_at}
use Rattle.integers.specs.declared.width.Width.{Width}
use Rattle.integers.specs.declared.integer.Integer.{Integer}
use Rattle.integers.specs.declared.integer.Integer.TheVariants as integer
use Rattle.plain_numbers.specs.declared.short.Short.TheVariants.{Value}
use Rattle.plain_numbers.specs.inner.Shorts.{short_of}
use Rattle.rows.specs.Rows.{entry_at}
use Rattle.rows.specs.declared.Entry.{Entry}
use Rattle.sarridok.proofs.ShortReads.{short_read}
use Rattle.sarridok.specs.declared.integer_call.Typed.{Typed}
use Rattle.sarridok.specs.Typed.{integer_at, integer_of, placed_at}
use Rattle.sarridok.specs.declared.items.Coded.{Coded}
use Rattle.sarridok.specs.Integers.{before, coded_as, entry_integer, filled, item_of, items_from, names_integer}
use Rattle.sarridok.specs.inner.Items.{at_item, coded_in, verdict_of}

-- ---- one item

-- a typed read at a place, once its refusal stands at the item's number
pub coded_placed : (width place k : ℕ) (read : Integer) → at_item k (coded_as width (placed_at place read)) ≡ at_item k (coded_in width read)
coded_placed width place k (integer.Read v end) = refl
coded_placed width place k integer.OtherSuffix = refl
coded_placed width place k (integer.Refused r) = refl

-- a short integer without the general reader
same_limit : (width : ℕ) → limit_at (code_of (width_at width)) false ≡ limit_at width false
unfolding limit_at
same_limit width = ap (λ (w : Width). limit_of (row w).signed (row w).bits false) (width_of (width_at width))

pub short_item : (width k v n : ℕ) (s : List ℕ) → short_of width s ≡ Value v n
    → Ok (record { magnitude = v; code = width }) ≡ at_item k (coded_in width (integer_at (width_at width) s))
short_item width k v n s e = rw (short_read (width_at width) width (same_limit width) s v n e, add-zero width)

-- the integer that an entry names
module _ (text : List ℕ) (e : Entry) (k : ℕ) where
  pub entry_unfit : place_fits text e.start ≡ false → Err (at_place unfit k) ≡ at_item k (entry_integer text e)
  unfolding entry_integer
  entry_unfit h = rw h

  module _ (fits : place_fits text e.start ≡ true) where
    pub entry_other : names_integer e ≡ false → Err (at_place other_kind k) ≡ at_item k (entry_integer text e)
    unfolding entry_integer
    entry_other h = rw (fits, h)

    pub entry_reads : judged_of text ≡ Ok tt → names_integer e ≡ true
        → at_item k (coded_in e.detail (integer_at (width_at e.detail) (drop e.start text))) ≡ at_item k (entry_integer text e)
    unfolding entry_integer integer_of
    entry_reads fit h =
        let own : Told Typed = placed_at e.start (integer_at (width_at e.detail) (drop e.start text)) in
        sym (coded_placed e.detail e.start k (integer_at (width_at e.detail) (drop e.start text)))
        ∙ rw (fits, h) (ap (λ (t : Told Typed). at_item k (coded_as e.detail t)) (sym (front_fit text own true fit refl)))

-- its width is a number of the table
pub names_width : (e : Entry) → names_integer e ≡ true → In 1 8 e.detail
names_width e h = within_true 1 8 e.detail (and_true (eqb e.kind 11) (within 1 8 e.detail) h).1

module _ (text tape : List ℕ) (count item k : ℕ) where
  pub item_unfit : count ≤ item → Err (at_place unfit k) ≡ at_item k (item_of text tape count item)
  unfolding item_of
  item_unfit h = rw (le-ltb item count h)

  pub item_inside : item < count → at_item k (entry_integer text (entry_at tape item)) ≡ at_item k (item_of text tape count item)
  unfolding item_of
  item_inside h = rw (lt-ltb item count h)

-- nothing is both
pub apart : {A : Type 0} (a : A) (r : Refusal) → ◌≡◌ {A = Told _} (Ok a) (Err r) → ⊥
apart a r e = let z : ◌≡◌ {A = ℕ} 0 1 = cc in omega arith

-- an item that is refused refuses all
pub stops : (k : ℕ) (t : Told Coded) (rest : Told (List Coded)) (r : Refusal) → Err r ≡ at_item k t → before k t rest ≡ Err r
stops k (Ok c) rest r e = absurd (apart c r (sym e))
stops k (Err q) rest r e = let same : r ≡ at_place q k = cc in ap Err (sym same)

-- one that reads leaves the verdict to those behind it
verdict_behind : (k : ℕ) (c : Coded) (rest : Told (List Coded)) → verdict_of (before k (Ok c) rest) ≡ verdict_of rest
verdict_behind k c (Ok cs) = refl
verdict_behind k c (Err r) = refl

pub passes : (k : ℕ) (t : Told Coded) (rest : Told (List Coded)) (c : Coded) → Ok c ≡ at_item k t → verdict_of (before k t rest) ≡ verdict_of rest
passes k (Ok d) rest c e = verdict_behind k d rest
passes k (Err q) rest c e = absurd (apart c (at_place q k) e)

-- an item is accepted as it is
pub reads_as : (k : ℕ) (t : Told Coded) (c : Coded) → Ok c ≡ at_item k t → t ≡ Ok c
reads_as k (Ok d) c e = sym e
reads_as k (Err q) c e = absurd (apart c (at_place q k) e)

-- ---- the list from item k on

module _ (text tape : List ℕ) (count : ℕ) where
  -- its first item, and those behind it
  pub items_next : (items : List ℕ) (k : ℕ) → k < length items
      → items_from text tape count (drop k items) k ≡ before k (item_of text tape count (get_or items k 0)) (items_from text tape count (drop (k + 1) items) (k + 1))
  unfolding items_from
  items_next items k h = ap (λ (l : List ℕ). items_from text tape count l k) (front items k h)

  -- past the last all have read
  pub items_end : (items : List ℕ) (k : ℕ) → length items ≤ k → verdict_of (items_from text tape count (drop k items) k) ≡ Ok tt
  unfolding items_from
  items_end items k h = ap (λ (l : List ℕ). verdict_of (items_from text tape count l k)) (drop_of_length-le items h)

  pub judge_stops : (items : List ℕ) (k : ℕ) (r : Refusal) → k < length items → Err r ≡ at_item k (item_of text tape count (get_or items k 0))
      → verdict_of (items_from text tape count (drop k items) k) ≡ Err r
  judge_stops items k r h e = ap verdict_of (items_next items k h ∙ stops k (item_of text tape count (get_or items k 0)) _ r e)

  pub judge_passes : (items : List ℕ) (k : ℕ) (c : Coded) → k < length items → Ok c ≡ at_item k (item_of text tape count (get_or items k 0))
      → verdict_of (items_from text tape count (drop k items) k) ≡ verdict_of (items_from text tape count (drop (k + 1) items) (k + 1))
  judge_passes items k c h e = ap verdict_of (items_next items k h) ∙ passes k (item_of text tape count (get_or items k 0)) _ c e

-- ---- all items

-- what is written for them, where all read
abbrev pub values_of : Told (List Coded) → List Coded
values_of (Ok cs) = cs
values_of (Err r) = []

pub all_read : (t : Told (List Coded)) → verdict_of t ≡ Ok tt → t ≡ Ok (values_of t)
all_read (Ok cs) e = refl
all_read (Err r) e = let z : ◌≡◌ {A = ℕ} 0 1 = cc in absurd (omega arith)

-- what stands for an item that is not there
abbrev pub no_item : Coded
no_item = record { magnitude = 0; code = 0 }

-- a list that is accepted begins with an item that is, and so are those behind it
record Begun (t : Told Coded) (rest : Told (List Coded)) (cs : List Coded) : Type 0 where
  first : Coded
  more : List Coded
  reads : t ≡ Ok first
  behind : rest ≡ Ok more
  whole : cs ≡ first ∷ more

begun : (k : ℕ) (t : Told Coded) (rest : Told (List Coded)) (cs : List Coded) → before k t rest ≡ Ok cs → Begun t rest cs
begun k (Ok c) (Ok ds) cs e = record { first = c; more = ds; reads = refl; behind = refl; whole = (let q : c ∷ ds ≡ cs = cc in sym q) }
begun k (Ok c) (Err r) cs e = absurd (apart cs r (sym e))
begun k (Err r) rest cs e = absurd (apart cs (at_place r k) (sym e))

module _ (text tape : List ℕ) (count : ℕ) where
  -- of the first item and of those behind it
  at_each : (i : ℕ) (is : List ℕ) (c : Coded) (cs : List Coded) → item_of text tape count i ≡ Ok c
      → ((j : ℕ) → j < length is → item_of text tape count (get_or is j 0) ≡ Ok (get_or cs j no_item))
      → (j : ℕ) → j < suc (length is) → item_of text tape count (get_or (i ∷ is) j 0) ≡ Ok (get_or (c ∷ cs) j no_item)
  at_each i is c cs e f zero h = e
  at_each i is c cs e f (suc j) h = f j (omega (arith, h))

  -- the list is accepted with as many values as it has items, and each item with its own
  pub each_read : (items : List ℕ) (k : ℕ) (cs : List Coded) → items_from text tape count items k ≡ Ok cs
      → (length cs ≡ length items) × ((j : ℕ) → j < length items → item_of text tape count (get_or items j 0) ≡ Ok (get_or cs j no_item))
  unfolding items_from
  each_read [] k cs e = let q : [] ≡ cs = cc in (ap length (sym q), λ j h. absurd (omega arith))
  each_read (i ∷ is) k cs e =
      let b : Begun (item_of text tape count i) (items_from text tape count is (k + 1)) cs = begun k _ _ cs e in
      let rest = each_read is (k + 1) b.more b.behind in
      rw b.whole (ap suc rest.0, at_each i is b.first b.more b.reads rest.1)

-- ---- storing

-- the value of item k goes behind those before it
pub stored : (d s : List ℕ) (k : ℕ) → k < length d → k < length s → set (take k s ++ drop k d) k (get_or s k 0) ≡ take (k + 1) s ++ drop (k + 1) d
stored d s k hd hs =
    ap (λ (r : List ℕ). set (take k s ++ r) k (get_or s k 0)) (front d k hd)
    ∙ set_at (take k s) (get_or d k 0) (drop (k + 1) d) (get_or s k 0) k (length-take-le k s (omega arith))
    ∙ sym (append_snoc (take k s) (get_or s k 0) (drop (k + 1) d))
    ∙ ap (λ (r : List ℕ). r ++ drop (k + 1) d) (sym (take-suc s k 0 hs))
    ∙ ap (λ (n : ℕ). take n s ++ drop (k + 1) d) (sym (add-one k))

-- one number of a value
pub part_at : (part : Coded → ℕ) (cs : List Coded) (k : ℕ) → k < length cs → get_or (map part cs) k 0 ≡ part (get_or cs k no_item)
part_at part [] k h = absurd (omega arith)
part_at part (c ∷ cs) zero h = refl
part_at part (c ∷ cs) (suc k) h = part_at part cs k (omega (arith, h))

module _ (text tape : List ℕ) (count : ℕ) (items : List ℕ) (fit : verdict_of (items_from text tape count items 0) ≡ Ok tt) where
  values : List Coded
  values = values_of (items_from text tape count items 0)

  all : (length values ≡ length items) × ((j : ℕ) → j < length items → item_of text tape count (get_or items j 0) ≡ Ok (get_or values j no_item))
  unfolding values
  all = each_read text tape count items 0 (values_of (items_from text tape count items 0)) (all_read (items_from text tape count items 0) fit)

  -- no item is refused any more
  pub never_refused : (k : ℕ) (r : Refusal) → k < length items → Err r ≡ at_item k (item_of text tape count (get_or items k 0)) → ⊥
  never_refused k r h e = apart _ r (sym (e ∙ ap (at_item k) (all.1 k h)))

  -- one number of item k goes behind those of the items before it
  pub turn : (part : Coded → ℕ) (k : ℕ) (d out : List ℕ) (c : Coded) → k < length items → length items ≤ length d
      → Ok c ≡ at_item k (item_of text tape count (get_or items k 0))
      → out ≡ take k (map part (values_of (items_from text tape count items 0))) ++ drop k d
      → set out k (part c) ≡ take (k + 1) (map part (values_of (items_from text tape count items 0))) ++ drop (k + 1) d
  unfolding values
  turn part k d out c h room e before =
      let is : c ≡ get_or values k no_item = let q : ◌≡◌ {A = Told _} (Ok c) (Ok (get_or values k no_item)) = e ∙ ap (at_item k) (all.1 k h) in cc in
      let long : length (map part values) ≡ length items = length-map values part ∙ all.0 in
      ap (λ (l : List ℕ). set l k (part c)) before
      ∙ ap (λ (x : ℕ). set (take k (map part values) ++ drop k d) k x) (ap part is ∙ sym (part_at part values k (omega (arith, all.0))))
      ∙ stored d (map part values) k (omega arith) (omega (arith, long))

  -- all of them, once no item is left
  pub all_stored : (part : Coded → ℕ) (k : ℕ) (d out : List ℕ) → k ≤ length items → length items ≤ k
      → out ≡ take k (map part (values_of (items_from text tape count items 0))) ++ drop k d → out ≡ filled part (items_from text tape count items 0) d
  unfolding values
  all_stored part k d out low high e =
      let long : length (map part values) ≡ length items = length-map values part ∙ all.0 in
      let end : k ≡ length values = omega (arith, all.0) in
      e
      ∙ ap (λ (l : List ℕ). l ++ drop k d) (take_all k (map part values) (omega (arith, long)))
      ∙ ap (λ (n : ℕ). map part values ++ drop n d) end
      ∙ sym (ap (λ (t : Told (List Coded)). filled part t d) (all_read (items_from text tape count items 0) fit))
