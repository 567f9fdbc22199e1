-- The new reading, put together from what a repair keeps and reads. Assumes nothing.
use Rattle.std.proofs.Common.{Ok, Err}
use Prim.Native.Nat.{◌+◌, ◌-◌, ◌<◌, ◌≤◌, suc, zero, ℕ}
use native.Mathlib.Nat.{le_of_suc-le-suc, not-suc-le-zero}
use native.Mathlib.Omega.{arith}
use mathlib.Core.List.{[], ◌++◌, ◌∷◌, append_assoc, append-nil, map, List}
use mathlib.Core.Bool.{true}
use mathlib.Core.Path.{◌∙◌, ◌≡◌, ap, ap₂, refl, subst, sym}
use lib.ListN.{drop, drop_of_length-le, get_or, length, length-append, length-drop, length-map, length-take, take, take-append-drop}
use lib.Seq.{drop-cons, length-take-le}
use borrow.Author.Tests.{le-leb, ltb-false, ltb-true}
use Rattle.mending.proofs.Joining.{Joined, apart_false, apart_true, lead_front, scan_found, scan_refused}
use Rattle.mending.proofs.Joining.Joined.{ends, meets}
use Rattle.mending.specs.Fresh.{OldText, apart, reaching}
use Rattle.read.specs.Read.{reading_of}
use Rattle.reading.proofs.Entries.{counted_broken, entries_complete, read_in_order, ▸-append}
use Rattle.reading.proofs.Joins.{move}
use Rattle.reading.proofs.KeptLaws.{All, Apart, all_append, all_of, kept-before, none_kept, map_all}
use Rattle.reading.proofs.QuietLaws.{last_le}
use Rattle.reading.proofs.Repairs.{joined, joined_kept, resume}
use Rattle.reading.specs.Kept.{Replaced, kept_before, kept_behind, last_quiet}
use Rattle.reading.specs.Owed.{quiet_byte}
use Rattle.reading.specs.Readings.{Reading, counted, entries, read_from, read_part, ◌▸◌}
use Rattle.reading.specs.Readings.Reading.{broken, complete, entry}
use Rattle.repair.proofs.Leading.{lead_at, lead_le, lead_not}
use Rattle.repair.specs.Repair.{cut_fits, ends_before, entries_by, found_of, kept_of, leading, moved_from, new_end, no_entry, repair_fits, resume_at}
use Rattle.rows.proofs.OrderLaws.{in_order_rise, in_order_row}
use Rattle.rows.proofs.RowLaws.{length_entries}
use Rattle.rows.specs.Order.{in_order, in_order_from}
use Rattle.rows.specs.Rows.{entries_of, room_of}
use Rattle.rows.specs.declared.Entry.{Entry}
use Rattle.text.proofs.Choices.{either, lt_or_le}
use Rattle.text.specs.declared.refusal.Refusal.{Refusal}
use Rattle.tokens.proofs.RonLaws.{kinds, laws}
use Rattle.tokens.specs.Ron.{ron_token}

-- ---- lists

take_drop : (j : ℕ) (l : List Entry) → l ≡ take j l ++ drop j l
take_drop j l = sym (take-append-drop j l)

all_take : (P : Entry → Type 0) (l : List Entry) (j : ℕ) → j ≤ length l → ((i : ℕ) → i < j → P (get_or l i no_entry)) → All P (take j l)
all_take P l zero h f = tt
all_take P [] (suc j) h f = absurd (not-suc-le-zero h)
all_take P (x ∷ l) (suc j) h f = (f 0 (omega arith), all_take P l j (le_of_suc-le-suc h) (λ i k. f (suc i) (omega arith)))

all_drop : (P : Entry → Type 0) (l : List Entry) (j : ℕ) → ((i : ℕ) → j ≤ i → i < length l → P (get_or l i no_entry)) → All P (drop j l)
all_drop P l zero f = all_of P l (λ i k. f i (omega arith) k)
all_drop P [] (suc j) f = tt
all_drop P (x ∷ l) (suc j) f = all_drop P l j (λ i k m. f (suc i) (omega arith) (omega arith))

-- an entry moved from b to e is moved by the change of length
moved_alike : (o n b e : ℕ) (l : List Entry) → b ≤ o → e + o ≡ b + n → map (moved_from b e) l ≡ map (move o n) l
moved_alike o n b e [] h k = refl
moved_alike o n b e (x ∷ l) h k =
    let s : x.start + e - b ≡ x.start + n - o = omega arith in
    let t : x.end + e - b ≡ x.end + n - o = omega arith in
    ap₂ {B = List Entry} {C = List Entry} (λ (y : Entry) (z : List Entry). y ∷ z)
    (ap₂ (λ (u v : ℕ). record { kind = x.kind; start = u; end = v; detail = x.detail; gap = x.gap }) s t) (moved_alike o n b e l h k)

entries_front : (ns : List Entry) (r : Reading) (m : ℕ) → m ≡ length ns → take m (entries (ns ▸ r)) ≡ ns
unfolding entries
entries_front ns r m h = ap (λ (k : ℕ). take k (entries (ns ▸ r))) h ∙ go ns
  where
    go : (l : List Entry) → take (length l) (entries (l ▸ r)) ≡ l
    go [] = refl
    go (x ∷ l) = ap {B = List Entry} (λ (z : List Entry). x ∷ z) (go l)

-- ---- an old text, its tape, and a new text

module _ (old tape : List ℕ) (count a b e : ℕ) (new : List ℕ) (O : OldText old tape count a b e new) where
  abbrev R : Replaced old new a b e
  R = O.replaced

  abbrev was : List Entry
  was = entries_of count tape

  abbrev o : ℕ
  o = length old

  abbrev n : ℕ
  n = length new

  tails : n - e ≡ o - b
  tails = sym (length-drop e new) ∙ ap length R.back ∙ length-drop b old

  pub new-end : e ≡ new_end (length old) b (length new)
  new-end = omega (arith, tails, R.in_new, R.in_old)

  same : e + o ≡ b + n
  same = omega (arith, tails, R.in_new, R.in_old)

  sorted : in_order_from was 0 o ≡ true
  sorted =
      let z : 0 + o ≡ o = omega arith in
      ap (in_order_from was 0) (sym z) ∙ read_in_order ron_token quiet_byte laws kinds was 0 old complete O.holds

  -- the tape and the cut fit
  pub fits : repair_fits tape count (length old) a b (length new) ≡ true
  unfolding repair_fits cut_fits in_order
  fits =
      simp (
        le-leb a b R.cut,
        le-leb b o R.in_old,
        le-leb (o + a) (n + b) (omega (arith, same, R.bytes)),
        le-leb count (room_of (length tape)) O.room,
        sorted,
      )

  -- ---- kept before
  abbrev q : ℕ
  q = last_quiet quiet_byte (take a old)

  abbrev j : ℕ
  j = kept_of (entries_of count tape) a new

  j_is : j ≡ leading (ends_before q) was
  j_is = ap (λ (p : List ℕ). leading (ends_before (last_quiet quiet_byte p)) was) R.front

  q_le : q ≤ a
  q_le = omega (arith, last_le quiet_byte (take a old), length-take a old)

  j_le : j ≤ length was
  j_le = omega (arith, j_is, lead_le (ends_before q) was)

  early : (i : ℕ) → i < j → (get_or was i no_entry).end < q
  early i h = ltb-true (get_or was i no_entry).end q (lead_at (ends_before q) was i (omega (arith, j_is)))

  late : (i : ℕ) → j ≤ i → i < length was → q ≤ (get_or was i no_entry).end
  late i h l =
      let first : q ≤ (get_or was j no_entry).end =
      subst (λ (k : ℕ). q ≤ (get_or was k no_entry).end) (sym j_is) (ltb-false (get_or was (leading (ends_before q) was) no_entry).end q (lead_not (ends_before q) was (omega (arith, j_is)))) in
      either (lt_or_le j i)
      (λ u. omega (arith, first, in_order_rise was 0 o sorted j i no_entry u l, (in_order_row was 0 o sorted i no_entry l).some))
      (λ u. let z : j ≡ i = omega arith in subst (λ (k : ℕ). q ≤ (get_or was k no_entry).end) z first)

  all_early : All (λ x. x.end < q) (take j was)
  all_early = all_take (λ x. x.end < q) was j j_le early

  -- they are those that document 01 counts
  pub before_is : kept_before quiet_byte old a (entries_of count tape) ≡ kept_of (entries_of count tape) a new
  before_is =
      ap (kept_before quiet_byte old a) (take_drop j was)
      ∙ kept-before quiet_byte old a (take j was) (drop j was) all_early (all_drop (λ x. q ≤ x.end) was j late)
      ∙ length-take-le j was j_le

  abbrev P : ℕ
  P = resume_at (entries_of count tape) (kept_of (entries_of count tape) a new)

  -- and the new reading begins with them
  pub goes-on : reading_of new ≡ take (kept_of (entries_of count tape) a new) (entries_of count tape) ▸ read_from ron_token new (resume_at (entries_of count tape) (kept_of (entries_of count tape) a new))
  goes-on =
      resume ron_token quiet_byte laws old new a b e R (take j was) (drop j was ▸ complete) all_early
      (O.holds ∙ ap (λ (l : List Entry). l ▸ complete) (take_drop j was) ∙ ▸-append (take j was) (drop j was) complete)

  front_apart : All (Apart o n e was) (take j was)
  front_apart = all_take (Apart o n e was) was j j_le (λ i h at.
      let l : i < length was = omega (arith, j_le) in
      absurd (omega (arith, early i h, q_le, R.bytes, (in_order_row was 0 o sorted i no_entry l).some)))

  from_front : (ns : List Entry) (r : Reading) → read_from ron_token new P ≡ ns ▸ r → reading_of new ≡ (take j was ++ ns) ▸ r
  from_front ns r h = goes-on ∙ ap (λ (x : Reading). take j was ▸ x) h ∙ sym (▸-append (take j was) ns r)

  -- ---- a refusal
  pub refused_too : (d : Refusal) → found_of (entries_of count tape) (kept_of (entries_of count tape) a new) b e new ≡ Err d → counted 0 (reading_of new) ≡ Err d
  refused_too d h =
      let w = scan_refused was b e (read_from ron_token new P) 0 d h in
      ap (counted 0) (from_front w.0 (broken d) w.1) ∙ counted_broken (take j was ++ w.0) 0 d

  -- ---- the whole of an accepted one
  module _ (m i : ℕ) (found : found_of (entries_of count tape) (kept_of (entries_of count tape) a new) b e new ≡ Ok (m, i)) where
    pub record Whole : Type 0 where
      pub all : List Entry
      pub reading_is : reading_of new ≡ all ▸ complete
      pub size : length all ≡ kept_of (entries_of count tape) a new + m + (count - i)
      pub rows : entries_by (entries_of count tape) (kept_of (entries_of count tape) a new) m i b e new ≡ all
      pub kept : kept_behind (length old) (length new) e (entries_of count tape) (entries (reading_of new)) ≡ count - i
      pub reach : reaching (length old) (length new) e (entries_of count tape) (entries (reading_of new)) ≡ count - i

    abbrev tail : List Entry
    tail = map (move o n) (drop i was)

    rows_are : (ns : List Entry) (r : Reading) → read_from ron_token new P ≡ ns ▸ r → m ≡ length ns → entries_by was j m i b e new ≡ take j was ++ (ns ++ tail)
    rows_are ns r h em =
        ap₂ (λ (u v : List Entry). take j was ++ (u ++ v)) (ap (λ (x : Reading). take m (entries x)) h ∙ entries_front ns r m em) (moved_alike o n b e (drop i was) R.in_old same)

    sizes : (ns : List Entry) → m ≡ length ns → length (take j was ++ (ns ++ tail)) ≡ j + m + (count - i)
    sizes ns em =
        omega (
          arith,
          length-append (take j was) (ns ++ tail),
          length-append ns tail,
          length-take-le j was j_le,
          length-map (drop i was) (move o n),
          length-drop i was,
          length_entries count tape,
        )

    apart_all : (ns : List Entry) → All (Apart o n e was) ns → All (λ x. apart o n e was x ≡ true) (take j was ++ ns)
    apart_all ns al = map_all (Apart o n e was) (λ x. apart o n e was x ≡ true) (take j was ++ ns) (λ x h. apart_true o n e was x h) (all_append (Apart o n e was) (take j was) ns front_apart al)

    reach_is : (ns mv : List Entry) → All (Apart o n e was) ns → reading_of new ≡ (take j was ++ ns ++ mv) ▸ complete → leading (apart o n e was) mv ≡ 0 → reaching o n e was (entries (reading_of new)) ≡ length mv
    unfolding reaching
    reach_is ns mv al h z =
        let es : entries (reading_of new) ≡ take j was ++ ns ++ mv = ap entries h ∙ entries_complete (take j was ++ ns ++ mv) in
        let l = lead_front (apart o n e was) (take j was ++ ns) mv (apart_all ns al) z in
        ap (λ (x : List Entry). length x - leading (apart o n e was) x) es
        ∙ omega (arith, l, length-append (take j was ++ ns) mv)

    at_end : (ns : List Entry) → read_from ron_token new P ≡ ns ▸ complete → m ≡ length ns → i ≡ length was → All (Apart o n e was) ns → Whole
    unfolding leading
    at_end ns h em ei al =
        let none : drop i was ≡ [] = drop_of_length-le was {i = i} (omega arith) in
        let mv : tail ≡ [] = ap (map (move o n)) none in
        let nil : take j was ++ (ns ++ tail) ≡ take j was ++ ns = ap (λ (l : List Entry). take j was ++ (ns ++ l)) mv ∙ ap (λ (l : List Entry). take j was ++ l) (append-nil ns) in
        let is : reading_of new ≡ (take j was ++ ns) ▸ complete = from_front ns complete h in
        let zero_left : 0 ≡ count - i = omega (arith, length_entries count tape) in
        record {
          all = take j was ++ (ns ++ tail);
          reading_is = is ∙ ap (λ (l : List Entry). l ▸ complete) (sym nil);
          size = sizes ns em;
          rows = rows_are ns complete h em;
          kept = ap (kept_behind o n e was) (ap entries is ∙ entries_complete (take j was ++ ns)) ∙ none_kept o n e was (take j was ++ ns) (all_append (Apart o n e was) (take j was) ns front_apart al) ∙ zero_left;
          reach = reach_is ns [] al (is ∙ ap (λ (l : List Entry). l ▸ complete) (sym (append-nil (take j was ++ ns)))) refl ∙ zero_left;
        }

    at_join : (ns : List Entry) (x : Entry) (r : Reading) → read_from ron_token new P ≡ ns ▸ entry x r → m ≡ length ns → All (Apart o n e was) ns
        → e ≤ x.start → i < length was → (get_or was i no_entry).start + e ≡ x.start + b → (get_or was i no_entry).gap ≡ x.gap → Whole
    unfolding leading
    at_join ns x r h em al at lt eq g =
        let y : Entry = get_or was i no_entry in
        let ks : List Entry = drop (suc i) was in
        let dk : drop i was ≡ y ∷ ks = drop-cons was i no_entry lt in
        let split : was ≡ take i was ++ y ∷ ks = take_drop i was ∙ ap (λ (l : List Entry). take i was ++ l) dk in
        let held : read_part ron_token 0 old ≡ (take i was ++ y ∷ ks) ▸ complete = O.holds ∙ ap (λ (l : List Entry). l ▸ complete) split in
        let now : read_part ron_token 0 new ≡ (take j was ++ ns) ▸ entry x r = from_front ns (entry x r) h in
        let mt : x.start + length old ≡ y.start + length new = omega (arith, same) in
        let fa = all_append (Apart o n e was) (take j was) ns front_apart al in
        let jn = joined ron_token quiet_byte laws old new a b e R (take i was) ks (take j was ++ ns) y x r held now at mt (sym g) in
        let jk = joined_kept ron_token quiet_byte laws old new a b e R (take i was) ks (take j was ++ ns) y x r held now at mt (sym g) (subst (λ (l : List Entry). All (Apart o n e l) (take j was ++ ns)) split fa) in
        let tl : map (move o n) (y ∷ ks) ≡ tail = ap (map (move o n)) (sym dk) in
        let cnt : suc (length ks) ≡ count - i = omega (arith, length-drop (suc i) was, length_entries count tape) in
        let first_off : leading (apart o n e was) (map (move o n) (y ∷ ks)) ≡ 0 = rw (apart_false o n e was (move o n y) i (omega (arith, mt, at)) lt (omega (arith, mt)) refl) in
        record {
          all = take j was ++ (ns ++ tail);
          reading_is = jn ∙ ap (λ (l : List Entry). (take j was ++ ns ++ l) ▸ complete) tl ∙ ap (λ (l : List Entry). l ▸ complete) (append_assoc (take j was) ns tail);
          size = sizes ns em;
          rows = rows_are ns (entry x r) h em;
          kept = ap (λ (l : List Entry). kept_behind o n e l (entries (reading_of new))) split ∙ jk ∙ cnt;
          reach = reach_is ns (map (move o n) (y ∷ ks)) al jn first_off ∙ length-map (y ∷ ks) (move o n) ∙ cnt;
        }

    pub whole : Whole
    whole = go (scan_found was o n b e sorted same (read_from ron_token new P) 0 m i found)
      where
        go : Joined was o n b e sorted same (read_from ron_token new P) 0 m i → Whole
        go (ends ns h em ei al) = at_end ns h (omega arith) ei al
        go (meets ns x r h em al at lt eq g) = at_join ns x r h (omega arith) al at lt eq g
