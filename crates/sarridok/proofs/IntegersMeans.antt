-- `integers` says exactly what single calls say: item by item, of the whole list, and of each way in which the call refuses. Assumes nothing.
use Rattle.std.proofs.Common.{Ok, Err}
use Prim.Native.Nat.{ℕ, zero, suc, ◌+◌, ◌≤◌, ◌<◌}
use native.Mathlib.Nat.{add-zero, lt_irrefl, zero-add}
use native.Mathlib.Omega.{arith}
use mathlib.Core.Bool.{Bool, true, false, cond, not}
use mathlib.Core.List.{List, [], ◌∷◌, ◌++◌, map}
use mathlib.Core.Logic.{◌↔◌, ◌⊎◌, inl, inr}
use mathlib.Core.Path.{◌≡◌, ap, refl, subst, sym, ◌∙◌}
use lib.Dec.{eqb, le→leb, ltb}
use lib.IntN.{ℤ}
use lib.ListN.{length, drop, get_or}
use lib.Signed.{clash_ℤ}
use borrow.Author.Tests.{eqb-false, le-ltb, lt-ltb, ltb-false, ltb-true}
use Rattle.text.proofs.Choices.{bool_cases, cond_cases, either, lt_or_le}
use Rattle.text.proofs.JudgeLaws.{front_fit, front_unfit}
use Rattle.text.specs.Judged.{judged_of, place_fits}
use Rattle.text.specs.Refusals.{Told, at_place, no_room, not_in_order, other_kind, unfit}
use Rattle.text.specs.Words.{starts_with}
use Rattle.text.specs.declared.refusal.Refusal.{Refusal}
use Rattle.integers.specs.Front.{front_of}
use Rattle.integers.specs.Integer.{numeral_of, other_suffix, typed_as, typed_of}
use Rattle.integers.specs.Range.{signed_of}
use Rattle.integers.specs.Width.{code_of, width_at}
use Rattle.integers.specs.declared.integer.Integer.{Integer}
use Rattle.integers.specs.declared.integer.Integer.TheVariants as integer
use Rattle.integers.specs.declared.integer.Value.{Value}
use Rattle.integers.specs.declared.width.Width.{Width}
use Rattle.rows.specs.Rows.{room_of, entry_at}
use Rattle.rows.specs.declared.Entry.{Entry}
use Rattle.strings.specs.Chars.{byte_of}
use Rattle.sarridok.specs.declared.integer_call.Typed.{Typed}
use Rattle.sarridok.specs.Typed.{byte_as, integer_at, integer_of, placed_at, signed_number}
use Rattle.sarridok.specs.declared.items.Coded.{Coded}
use Rattle.sarridok.specs.Integers.{before, coded_as, code_for, codes_after, entry_integer, integers_of, item_of, items_from, magnitudes_after, names_integer}
use Rattle.sarridok.specs.Listed.{Entered, FirstRefused, ItemReads, ItemRefused, ListReads, ListRefused, Tells, Written, by_count, by_item, by_room, by_text, no_entry, no_integer, no_place, single, unread}
use Rattle.sarridok.specs.inner.Items.{verdict_of}
use Rattle.sarridok.proofs.IntegersLaws as laws
use Rattle.sarridok.proofs.ItemLaws.{apart, each_read, no_item}

-- ---- below zero is what has a minus

-- a minus stands before some magnitude only
abbrev Below : Value → Type 0
Below v = v.minus ≡ true → 0 < v.magnitude

abbrev Below-read : Integer → Type 0
Below-read (integer.Read v end) = Below v
Below-read integer.OtherSuffix = Unit
Below-read (integer.Refused r) = Unit

no_minus : {A : Type 0} → false ≡ true → A
no_minus e = let z : ◌≡◌ {A = ℕ} 0 1 = cc in absurd (omega arith)

number_below : (minus : Bool) (m : ℕ) → cond (eqb m 0) false minus ≡ true → 0 < m
number_below minus m = cond_cases (λ (b : Bool). b ≡ true → 0 < m) (eqb m 0) _ _ (λ e h. no_minus h) (λ e h. let n = eqb-false m 0 e in omega arith)

typed_below : (asked : ℕ) (minus : Bool) (at : ℕ) (n : Told (ℕ × ℕ × ℕ)) → Below-read (typed_as asked minus at n)
typed_below asked minus at (Ok (v, found, end)) =
    cond_cases Below-read (other_suffix found asked) _ _ (λ e. tt) (λ e. number_below minus v)
typed_below asked minus at (Err r) = tt

byte_below : (width : Width) (b : Told (ℕ × ℕ)) → Below-read (byte_as width b)
byte_below width (Ok (len, b)) = cond_cases Below-read (not (eqb (code_of width) 5)) _ _ (λ e. tt) (λ e h. no_minus h)
byte_below width (Err r) = tt

at_below : (width : Width) (s : List ℕ) → Below-read (integer_at width s)
unfolding integer_at typed_of
at_below width s =
    cond_cases Below-read (starts_with (0x62 ∷ 0x27 ∷ []) s) _ _ (λ e. byte_below width (byte_of s))
    (λ e. cond_cases Below-read (eqb (length s) 0) _ _ (λ z. tt)
    (λ z. typed_below (code_of width) (front_of s).minus (front_of s).end (numeral_of (code_of width) (front_of s).minus (front_of s).base (drop (front_of s).end s))))

told_below : (place : ℕ) (r : Integer) (t : Typed) → Below-read r → placed_at place r ≡ Ok t → Below t.number
told_below place (integer.Read v end) t h e = let q : record { number = v; end = place + end } ≡ t = cc in rw (sym (ap (λ (x : Typed). x.number) q)) h
told_below place integer.OtherSuffix t h e = absurd (apart t other_kind (sym e))
told_below place (integer.Refused r) t h e = absurd (apart t _ (sym e))

-- ---- a code tells what it is made of, and nothing else

tells_of : (width m : ℕ) (minus : Bool) → (minus ≡ true → 0 < m) → Tells width (signed_of minus m) (width + cond minus 16 0)
tells_of width m false h = inl (record { le = le→leb 0 m (omega arith) }, add-zero width)
tells_of width zero true h = absurd (lt_irrefl 0 (h refl))
tells_of width (suc m) true h = inr (record { lt = tt }, refl)

one_code : (width : ℕ) (z : ℤ) (a b : ℕ) → Tells width z a → Tells width z b → a ≡ b
one_code width z a b (inl p) (inl q) = p.1 ∙ sym q.1
one_code width z a b (inl p) (inr q) = clash_ℤ q.0 p.0
one_code width z a b (inr p) (inl q) = clash_ℤ p.0 q.0
one_code width z a b (inr p) (inr q) = p.1 ∙ sym q.1

same_coded : (m k : ℕ) (c : Coded) → m ≡ c.magnitude → k ≡ c.code → record { magnitude = m; code = k } ≡ c
same_coded m k c e f = rw (e, f)

-- ---- one item

module _ (text : List ℕ) (fit : judged_of text ≡ Ok tt) where
  -- a single call that accepts stands at a place, and its number is below zero where it has a minus
  placed : (e : Entry) (t : Typed) → single text e ≡ Ok t → place_fits text e.start ≡ true
  unfolding integer_of
  placed e t h =
      either (bool_cases (place_fits text e.start)) (λ p. p)
      (λ p. absurd (apart t unfit (sym h ∙ front_unfit text _ (place_fits text e.start) fit p)))

  below : (e : Entry) (t : Typed) → single text e ≡ Ok t → Below t.number
  unfolding integer_of
  below e t h =
      let r : Integer = integer_at (width_at e.detail) (drop e.start text) in
      told_below e.start r t (at_below (width_at e.detail) (drop e.start text)) (sym (front_fit text _ (place_fits text e.start) fit (placed e t h)) ∙ h)

  code_tells : (e : Entry) (t : Typed) → single text e ≡ Ok t → Tells e.detail (signed_number t.number) (code_for e.detail t.number)
  code_tells e t h = tells_of e.detail t.number.magnitude t.number.minus (below e t h)

  written_by : (e : Entry) (c : Coded) → names_integer e ≡ true → (t : Told Typed) → single text e ≡ t → coded_as e.detail t ≡ Ok c → Written text e c
  written_by e c n (Ok t) h q =
      let is : record { magnitude = t.number.magnitude; code = code_for e.detail t.number } ≡ c = cc in
      record { names = n; typed = t; reads = h; magnitude = sym (ap (λ (x : Coded). x.magnitude) is); code = subst (Tells e.detail (signed_number t.number)) (ap (λ (x : Coded). x.code) is) (code_tells e t h) }
  written_by e c n (Err r) h q = absurd (apart c r (sym q))

  entry_written : (e : Entry) (c : Coded) → entry_integer text e ≡ Ok c → Written text e c
  unfolding entry_integer
  entry_written e c =
      cond_cases (λ (t : Told Coded). t ≡ Ok c → Written text e c) (place_fits text e.start) _ _
      (λ p. cond_cases (λ (t : Told Coded). t ≡ Ok c → Written text e c) (names_integer e) _ _ (λ n h. written_by e c n (single text e) refl h) (λ n h. absurd (apart c other_kind (sym h))))
      (λ p h. absurd (apart c unfit (sym h)))

  written_entry : (e : Entry) (c : Coded) → Written text e c → entry_integer text e ≡ Ok c
  unfolding entry_integer
  written_entry e c w =
      let t : Typed = w.typed in
      let code : code_for e.detail t.number ≡ c.code = one_code e.detail (signed_number t.number) _ c.code (code_tells e t w.reads) w.code in
      rw (placed e t w.reads, w.names, w.reads) (ap Ok (same_coded _ _ c (sym w.magnitude) code))

  -- an item reads exactly so
  pub item_reads : (tape : List ℕ) (count i : ℕ) (c : Coded) → (item_of text tape count i ≡ Ok c) ↔ ItemReads text tape count i c
  unfolding item_of
  item_reads tape count i c = (
    cond_cases (λ (t : Told Coded). t ≡ Ok c → ItemReads text tape count i c) (ltb i count) _ _
        (λ l h. record { below = ltb-true i count l; written = entry_written (entry_at tape i) c h })
        (λ l h. absurd (apart c unfit (sym h))),
    λ w. rw (lt-ltb i count w.below) (written_entry (entry_at tape i) c w.written),
  )

  unread_by : (tape : List ℕ) (count i : ℕ) (r : Refusal) → i < count → place_fits text (entry_at tape i).start ≡ true → names_integer (entry_at tape i) ≡ true
      → (t : Told Typed) → single text (entry_at tape i) ≡ t → coded_as (entry_at tape i).detail t ≡ Err r → ItemRefused text tape count i r
  unread_by tape count i r l p n (Ok t) h q = absurd (apart _ r q)
  unread_by tape count i r l p n (Err s) h q = let same : s ≡ r = cc in unread l p n (h ∙ ap Err same)

  entry_refused : (tape : List ℕ) (count i : ℕ) (r : Refusal) → i < count → entry_integer text (entry_at tape i) ≡ Err r → ItemRefused text tape count i r
  unfolding entry_integer
  entry_refused tape count i r l =
      cond_cases (λ (t : Told Coded). t ≡ Err r → ItemRefused text tape count i r) (place_fits text (entry_at tape i).start) _ _
      (λ p. cond_cases (λ (t : Told Coded). t ≡ Err r → ItemRefused text tape count i r) (names_integer (entry_at tape i)) _ _
      (λ n h. unread_by tape count i r l p n (single text (entry_at tape i)) refl h)
      (λ n h. let same : other_kind ≡ r = cc in subst (ItemRefused text tape count i) same (no_integer l p n)))
      (λ p h. let same : unfit ≡ r = cc in subst (ItemRefused text tape count i) same (no_place l p))

  refused_item : (tape : List ℕ) (count i : ℕ) (r : Refusal) → ItemRefused text tape count i r → item_of text tape count i ≡ Err r
  unfolding item_of entry_integer
  refused_item tape count i r (no_entry h) = rw (le-ltb i count h)
  refused_item tape count i r (no_place l p) = rw (lt-ltb i count l, p)
  refused_item tape count i r (no_integer l p n) = rw (lt-ltb i count l, p, n)
  refused_item tape count i r (unread l p n h) = rw (lt-ltb i count l, p, n, h)

  -- and is refused exactly so
  pub item_refused : (tape : List ℕ) (count i : ℕ) (r : Refusal) → (item_of text tape count i ≡ Err r) ↔ ItemRefused text tape count i r
  unfolding item_of
  item_refused tape count i r = (
    cond_cases (λ (t : Told Coded). t ≡ Err r → ItemRefused text tape count i r) (ltb i count) _ _
        (λ l h. entry_refused tape count i r (ltb-true i count l) h)
        (λ l h. let same : unfit ≡ r = cc in subst (ItemRefused text tape count i) same (no_entry (ltb-false i count l))),
    refused_item tape count i r,
  )

-- ---- the list

module _ (text tape : List ℕ) (count : ℕ) where
  -- the first item and those behind it
  reads_next : (i : ℕ) (is : List ℕ) (c : Coded) (cs : List Coded) (k : ℕ) → item_of text tape count i ≡ Ok c → items_from text tape count is (k + 1) ≡ Ok cs
      → items_from text tape count (i ∷ is) k ≡ Ok (c ∷ cs)
  unfolding items_from
  reads_next i is c cs k e f = rw (e, f)

  -- items that read make a list that is accepted
  reads_all : (items : List ℕ) (cs : List Coded) (k : ℕ) → length cs ≡ length items
      → ((j : ℕ) → j < length items → item_of text tape count (get_or items j 0) ≡ Ok (get_or cs j no_item)) → items_from text tape count items k ≡ Ok cs
  unfolding items_from
  reads_all [] [] k n h = refl
  reads_all [] (c ∷ cs) k n h = absurd (omega (arith, n))
  reads_all (i ∷ is) [] k n h = absurd (omega (arith, n))
  reads_all (i ∷ is) (c ∷ cs) k n h = reads_next i is c cs k (h 0 (omega arith)) (reads_all is cs (k + 1) (omega (arith, n)) (λ j l. h (suc j) (omega (arith, l))))

  -- whatever they read as
  pub makes_all : (items : List ℕ) (k : ℕ) → ((j : ℕ) → j < length items → (c : Coded) × (item_of text tape count (get_or items j 0) ≡ Ok c))
      → (cs : List Coded) × (items_from text tape count items k ≡ Ok cs)
  unfolding items_from
  makes_all [] k h = ([], refl)
  makes_all (i ∷ is) k h =
      let first = h 0 (omega arith) in
      let rest = makes_all is (k + 1) (λ j l. h (suc j) (omega (arith, l))) in
      (first.0 ∷ rest.0, reads_next i is first.0 rest.0 k first.1 rest.1)

  -- the first item that is refused refuses the list
  stops_next : (i : ℕ) (is : List ℕ) (c : Coded) (k : ℕ) (q : Refusal) → item_of text tape count i ≡ Ok c → items_from text tape count is (k + 1) ≡ Err q
      → items_from text tape count (i ∷ is) k ≡ Err q
  unfolding items_from
  stops_next i is c k q e f = rw (e, f)

  stops_here : (i : ℕ) (is : List ℕ) (k : ℕ) (r : Refusal) → item_of text tape count i ≡ Err r → items_from text tape count (i ∷ is) k ≡ Err (at_place r k)
  unfolding items_from
  stops_here i is k r e = rw e

  stops_at : (items : List ℕ) (n k : ℕ) (r : Refusal) → n < length items → ((j : ℕ) → j < n → (c : Coded) × (item_of text tape count (get_or items j 0) ≡ Ok c))
      → item_of text tape count (get_or items n 0) ≡ Err r → items_from text tape count items k ≡ Err (at_place r (k + n))
  stops_at [] n k r l h e = absurd (omega arith)
  stops_at (i ∷ is) zero k r l h e = stops_here i is k r e ∙ ap (λ (p : ℕ). Err (at_place r p)) (sym (add-zero k))
  stops_at (i ∷ is) (suc n) k r l h e =
      let first = h 0 (omega arith) in
      let rest : items_from text tape count is (k + 1) ≡ Err (at_place r (k + 1 + n)) = stops_at is n (k + 1) r (omega (arith, l)) (λ j b. h (suc j) (omega (arith, b))) e in
      let there : k + 1 + n ≡ k + suc n = omega arith in
      stops_next i is first.0 k (at_place r (k + 1 + n)) first.1 rest ∙ ap (λ (p : ℕ). Err (at_place r p)) there

  -- a list that is refused has such an item
  record Stopped (items : List ℕ) (k : ℕ) (q : Refusal) : Type 0 where
    at : ℕ
    why : Refusal
    inside : at < length items
    before : (j : ℕ) → j < at → (c : Coded) × (item_of text tape count (get_or items j 0) ≡ Ok c)
    item : item_of text tape count (get_or items at 0) ≡ Err why
    told : q ≡ at_place why (k + at)

  each_before : (i : ℕ) (is : List ℕ) (c : Coded) (n : ℕ) → item_of text tape count i ≡ Ok c → ((j : ℕ) → j < n → (d : Coded) × (item_of text tape count (get_or is j 0) ≡ Ok d))
      → (j : ℕ) → j < suc n → (d : Coded) × (item_of text tape count (get_or (i ∷ is) j 0) ≡ Ok d)
  each_before i is c n e f zero l = (c, e)
  each_before i is c n e f (suc j) l = f j (omega (arith, l))

  stopped : (items : List ℕ) (k : ℕ) (q : Refusal) → items_from text tape count items k ≡ Err q → Stopped items k q
  unfolding items_from
  stopped [] k q e = absurd (apart _ q e)
  stopped (i ∷ is) k q e = by (item_of text tape count i) refl (items_from text tape count is (k + 1)) (λ p f. stopped is (k + 1) p f) e
    where
      by : (t : Told Coded) → item_of text tape count i ≡ t → (rest : Told (List Coded)) → ((p : Refusal) → rest ≡ Err p → Stopped is (k + 1) p) → before k t rest ≡ Err q → Stopped (i ∷ is) k q
      by (Ok c) h (Ok cs) ih f = absurd (apart _ q f)
      by (Ok c) h (Err p) ih f =
          let b : Stopped is (k + 1) p = ih p refl in
          let same : p ≡ q = cc in
          let there : k + 1 + b.at ≡ k + suc b.at = omega arith in
          record {
            at = suc b.at;
            why = b.why;
            inside = (let l = b.inside in omega arith);
            before = each_before i is c b.at h b.before;
            item = b.item;
            told = sym same ∙ b.told ∙ ap (at_place b.why) there;
          }
      by (Err r) h rest ih f =
          let same : at_place r k ≡ q = cc in
          record { at = 0; why = r; inside = omega arith; before = λ j l. absurd (omega arith); item = h; told = sym same ∙ ap (at_place r) (sym (add-zero k)) }

  -- in the words of specs/Listed
  module _ (fit : judged_of text ≡ Ok tt) where
    pub list_reads : (items : List ℕ) (cs : List Coded) → (items_from text tape count items 0 ≡ Ok cs) ↔ ListReads text tape count items cs
    list_reads items cs = (
      λ e. let a = each_read text tape count items 0 cs e in record { as_many = a.0; each = λ k l. (item_reads text fit tape count (get_or items k 0) (get_or cs k no_item)).0 (a.1 k l) },
      λ w. reads_all items cs 0 w.as_many (λ k l. (item_reads text fit tape count (get_or items k 0) (get_or cs k no_item)).1 (w.each k l)),
    )

    first-of : (items : List ℕ) (q : Refusal) (s : Stopped items 0 q) → FirstRefused text tape count items s.at s.why
    first-of items q s = record {
      inside = s.inside;
      before = λ j l. ((s.before j l).0, (item_reads text fit tape count (get_or items j 0) (s.before j l).0).0 (s.before j l).1);
      item = (item_refused text fit tape count (get_or items s.at 0) s.why).0 s.item;
    }

    first_stops : (items : List ℕ) (k : ℕ) (r : Refusal) → FirstRefused text tape count items k r → items_from text tape count items 0 ≡ Err (at_place r k)
    first_stops items k r f =
        stops_at items k 0 r f.inside (λ j l. ((f.before j l).0, (item_reads text fit tape count (get_or items j 0) (f.before j l).0).1 (f.before j l).1)) ((item_refused text fit tape count (get_or items k 0) r).1 f.item)
        ∙ ap (λ (p : ℕ). Err (at_place r p)) (zero-add k)

-- ---- the call

module _ (text tape : List ℕ) (count : ℕ) (items : List ℕ) (m c : ℕ) where
  abbrev answer : Told (List Coded)
  answer = integers_of text tape count items m c

  -- a buffer is shorter than the list
  abbrev Short : Type 0
  Short = (m < length items) ⊎ (c < length items)

  -- the ways that a call goes
  data Way : Type 0 where
    unfit_text : (r : Refusal) → judged_of text ≡ Err r → answer ≡ Err r → Way
    torn : judged_of text ≡ Ok tt → room_of (length tape) < count → answer ≡ Err not_in_order → Way
    stopping : Entered text tape count → (q : Refusal) → items_from text tape count items 0 ≡ Err q → answer ≡ Err q → Way
    full : Entered text tape count → (cs : List Coded) → items_from text tape count items 0 ≡ Ok cs → Short → answer ≡ Err no_room → Way
    all : Entered text tape count → (cs : List Coded) → items_from text tape count items 0 ≡ Ok cs → length items ≤ m → length items ≤ c → answer ≡ Ok cs → Way

  full_answer : Entered text tape count → (cs : List Coded) → items_from text tape count items 0 ≡ Ok cs → Short → answer ≡ Err no_room
  full_answer g cs e (inl h) = laws.by_magnitudes text tape count items m c g.0 g.1 (ap verdict_of e) h
  full_answer g cs e (inr h) = laws.by_codes text tape count items m c g.0 g.1 (ap verdict_of e) h

  way : Way
  way = by (judged_of text) refl
    where
      listed : Entered text tape count → (t : Told (List Coded)) → items_from text tape count items 0 ≡ t → Way
      listed g (Err q) e = stopping g q e (laws.by-item text tape count items m c g.0 g.1 q (ap verdict_of e))
      listed g (Ok cs) e =
          either (lt_or_le m (length items)) (λ h. full g cs e (inl h) (full_answer g cs e (inl h))) λ a.
          either (lt_or_le c (length items)) (λ h. full g cs e (inr h) (full_answer g cs e (inr h))) λ b.
          all g cs e a b (laws.by-room text tape count items m c g.0 g.1 (ap verdict_of e) a b ∙ e)

      by : (j : Told Unit) → judged_of text ≡ j → Way
      by (Err r) e = unfit_text r e (laws.by_judged text tape count items m c r e)
      by (Ok tt) e =
          either (lt_or_le (room_of (length tape)) count) (λ h. torn e h (laws.by-count text tape count items m c e h)) (λ h. listed (e, h) (items_from text tape count items 0) refl)

  -- accepted exactly where the text may be read, the count fits, every item reads, and both buffers have room
  pub integers_accepted : (cs : List Coded) → (integers_of text tape count items m c ≡ Ok cs)
      ↔ (Entered text tape count × (length items ≤ m) × (length items ≤ c) × ListReads text tape count items cs)
  integers_accepted cs = ((λ e. go e way), back)
    where
      go : answer ≡ Ok cs → Way → Entered text tape count × (length items ≤ m) × (length items ≤ c) × ListReads text tape count items cs
      go e (unfit_text r j q) = absurd (apart cs r (sym e ∙ q))
      go e (torn j h q) = absurd (apart cs not_in_order (sym e ∙ q))
      go e (stopping g p i q) = absurd (apart cs p (sym e ∙ q))
      go e (full g ds i s q) = absurd (apart cs no_room (sym e ∙ q))
      go e (all g ds i a b q) = (g, a, b, (list_reads text tape count g.0 items cs).0 (i ∙ sym q ∙ e))

      back : Entered text tape count × (length items ≤ m) × (length items ≤ c) × ListReads text tape count items cs → answer ≡ Ok cs
      back w =
          let e : items_from text tape count items 0 ≡ Ok cs = (list_reads text tape count w.0.0 items cs).1 w.3 in
          laws.by-room text tape count items m c w.0.0 w.0.1 (ap verdict_of e) w.1 w.2 ∙ e

  -- refused exactly in the four ways
  pub integers_refused : (r : Refusal) → (integers_of text tape count items m c ≡ Err r) ↔ ListRefused text tape count items m c r
  integers_refused r = ((λ e. go e way), back r)
    where
      go : answer ≡ Err r → Way → ListRefused text tape count items m c r
      go e (unfit_text p j q) = let same : p ≡ r = let h : ◌≡◌ {A = Told _} (Err p) (Err r) = sym q ∙ e in cc in subst (ListRefused text tape count items m c) same (by_text j)
      go e (torn j h q) = let same : not_in_order ≡ r = let h : ◌≡◌ {A = Told _} (Err not_in_order) (Err r) = sym q ∙ e in cc in subst (ListRefused text tape count items m c) same (by_count j h)
      go e (stopping g p i q) =
          let s : Stopped text tape count items 0 p = stopped text tape count items 0 p i in
          let same : p ≡ r = let h : ◌≡◌ {A = Told _} (Err p) (Err r) = sym q ∙ e in cc in
          subst (ListRefused text tape count items m c) (ap (at_place s.why) (sym (zero-add s.at)) ∙ sym s.told ∙ same) (by_item s.at s.why g (first-of text tape count g.0 items p s))
      go e (full g cs i s q) =
          let same : no_room ≡ r = let h : ◌≡◌ {A = Told _} (Err no_room) (Err r) = sym q ∙ e in cc in
          subst (ListRefused text tape count items m c) same (by_room cs g ((list_reads text tape count g.0 items cs).0 i) s)
      go e (all g cs i a b q) = absurd (apart cs r (sym q ∙ e))

      back : (q : Refusal) → ListRefused text tape count items m c q → answer ≡ Err q
      back q (by_text j) = laws.by_judged text tape count items m c q j
      back q (by_count j h) = laws.by-count text tape count items m c j h
      back q (by_item k s g f) = laws.by-item text tape count items m c g.0 g.1 (at_place s k) (ap verdict_of (first_stops text tape count g.0 items k s f))
      back q (by_room cs g l s) = full_answer g cs ((list_reads text tape count g.0 items cs).1 l) s

-- ---- the buffers

module _ (text tape : List ℕ) (count : ℕ) (items ms cs : List ℕ) where
  -- an accepted call leaves one number of each item at the front of each buffer, and what stood behind them
  pub accepted_fills : (vs : List Coded) → integers_of text tape count items (length ms) (length cs) ≡ Ok vs
      → (magnitudes_after text tape count items ms cs ≡ map (λ (v : Coded). v.magnitude) vs ++ drop (length items) ms)
      × (codes_after text tape count items ms cs ≡ map (λ (v : Coded). v.code) vs ++ drop (length items) cs)
  unfolding magnitudes_after codes_after
  accepted_fills vs e =
      let many : length vs ≡ length items = ((integers_accepted text tape count items (length ms) (length cs) vs).0 e).3.as_many in
      rw (e, many) (refl, refl)

  -- a refused one leaves both
  pub refused_leaves : (r : Refusal) → integers_of text tape count items (length ms) (length cs) ≡ Err r
      → (magnitudes_after text tape count items ms cs ≡ ms) × (codes_after text tape count items ms cs ≡ cs)
  unfolding magnitudes_after codes_after
  refused_leaves r e = rw e (refl, refl)
