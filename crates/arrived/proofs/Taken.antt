-- Of the bytes that may be taken the rule bars none but by 30 (`same_taken`); and what bars the byte behind them (`barred`). Assumes nothing.
use Prim.Native.Nat.{ℕ, suc, ◌+◌, ◌-◌, ◌<◌, ◌≤◌}
use native.Mathlib.Omega.{arith}
use mathlib.Core.List.{List, [], ◌++◌, ◌∷◌, append_assoc}
use mathlib.Core.Path.{◌≡◌, ap, refl, sym, ◌∙◌}
use lib.ListN.{drop, length, length-append, take, take-append-drop}
use lib.Seq.{append_snoc, drop-append-add, length-take-le, take-append-add, take-append_seam}
use borrow.Author.Tests.{le-leb, lt-leb}
use Rattle.text.proofs.Choices.{either, lt_or_le}
use Rattle.text.specs.Refusals.{not_utf8, placed_behind}
use Rattle.text.specs.declared.refusal.Refusal.{Refusal}
use Rattle.text.specs.Utf8.{Text}
use Rattle.octets.proofs.Cutting.{all_bound, allowed_on, bad_bounds, front_all, front_before, front_past}
use Rattle.octets.specs.Octets.{allowed_of, further}
use Rattle.octets.specs.declared.answer.Allowed.{Allowed}
use Rattle.octets.specs.declared.answer.Allowed.TheVariants.{All, Bad}
use Rattle.reading.specs.Readings.{end_of, read_part}
use Rattle.tokens.specs.Ron.{ron_token}
use Rattle.arriving.specs.Arrivals.{Given, Passing, by_passing, piece, step, taken}
use Rattle.arriving.specs.Arrivals.Coming.{going, halted, shut}
use Rattle.arriving.specs.Arrivals.Passing.{halt, pass}
use Rattle.settled.proofs.Owed.{ron}
use Rattle.settled.specs.Settled.{ron_reader}
use Rattle.pieces.specs.Bars.{bar_of}
use Rattle.pieces.specs.Come.{sooner}
use Rattle.pieces.specs.Orders.{most_taken}
use Rattle.pieces.specs.Pieces.{bad_at, bad_from, barred_by, cut_off, may_take}
use Rattle.arrived.specs.Ruled.{first_bar, rule_bar, size_bar, utf8_bar}
use Rattle.arrived.specs.Shown.{GoesOn, going_state, part_of, whole_of}
use Rattle.arrived.proofs.Bounds.{entries_keep}
use Rattle.arrived.proofs.Parts.{Parted, cut_allowed, parted}
use Rattle.arrived.proofs.PieceLaws.{Stepped, halted_piece, left_length, left_on, left_by, shut_piece, step_view, then}

-- ---- the whole characters of a list, and the front of one

pub whole_append : (u t : List ℕ) (i : ℕ) → i ≤ length t → whole_of (u ++ t) i ≡ u ++ whole_of t i
whole_append u t i l =
    let j : length (u ++ t) - i ≡ length u + (length t - i) = omega (arith, length-append u t) in
    ap (λ (n : ℕ). take n (u ++ t)) j ∙ take-append-add u t (length t - i)

pub part_append : (u t : List ℕ) (i : ℕ) → i ≤ length t → part_of (u ++ t) i ≡ part_of t i
part_append u t i l =
    let j : length (u ++ t) - i ≡ length u + (length t - i) = omega (arith, length-append u t) in
    ap (λ (n : ℕ). drop n (u ++ t)) j ∙ drop-append-add u t (length t - i)

-- ---- bytes that may be taken

size_free : (at : ℕ) (x : List ℕ) (b i : ℕ) → at + length x < most_taken → allowed_of (x ++ b ∷ []) ≡ All i → size_bar at x b ≡ pass
unfolding size_bar
size_free at x b i l e = rw (lt-leb most_taken (at + length x) l, e)

bar_alone : (at : ℕ) (x : List ℕ) (b : ℕ) → size_bar at x b ≡ pass → rule_bar at x b ≡ bar_of at x b
unfolding rule_bar
bar_alone at x b h = go (bar_of at x b)
  where
    go : (p : Passing) → first_bar p (size_bar at x b) ≡ p
    go pass = h
    go (halt d) = refl

pub same_taken : (w x : List ℕ) (at i : ℕ) → allowed_of (x ++ w) ≡ All i → at + length (x ++ w) ≤ most_taken
    → piece ron_reader rule_bar (going at x) w ≡ piece ron_reader bar_of (going at x) w
unfolding piece
same_taken [] x at i e l = refl
same_taken (b ∷ w) x at i e l =
    let f = front_all (x ++ b ∷ w) i e (length (x ++ b ∷ [])) in
    let front : take (length (x ++ b ∷ [])) (x ++ b ∷ w) ≡ x ++ b ∷ [] = ap (take (length (x ++ b ∷ []))) (sym (append_snoc x b w)) ∙ take-append_seam (x ++ b ∷ []) w in
    let free = size_free at x b f.0 (omega (arith, length-append x (b ∷ w))) (ap allowed_of (sym front) ∙ f.1) in
    let one : step ron_reader rule_bar (going at x) b ≡ step ron_reader bar_of (going at x) b = ap (λ (p : Passing). by_passing p (taken ron_reader at (x ++ b ∷ []) b)) (bar_alone at x b free) in
    ap (λ (g : Given). then ron_reader rule_bar g w) one
    ∙ go (step_view ron_reader bar_of ron at x b) (λ y a q m. same_taken w y a i q m)
  where
    on : (g : Given) → piece ron_reader rule_bar g.next w ≡ piece ron_reader bar_of g.next w → then ron_reader rule_bar g w ≡ then ron_reader bar_of g w
    on g h = ap (λ (k : Given). record { entries = g.entries ++ k.entries; next = k.next; bytes = g.bytes + k.bytes }) h

    go : {g : Given} → Stepped ron_reader bar_of at x b g
        → ((y : List ℕ) (a : ℕ) → allowed_of (y ++ w) ≡ All i → a + length (y ++ w) ≤ most_taken → piece ron_reader rule_bar (going a y) w ≡ piece ron_reader bar_of (going a y) w)
        → then ron_reader rule_bar g w ≡ then ron_reader bar_of g w
    go (Stepped.halts d p) ih = on (record { entries = []; next = halted d; bytes = 0 }) (halted_piece ron_reader rule_bar w d ∙ sym (halted_piece ron_reader bar_of w d))
    go (Stepped.shuts es d p f q) ih =
        let c : Refusal = placed_behind (end_of at es) d in
        on (record { entries = es; next = shut c; bytes = 1 }) (shut_piece ron_reader rule_bar w c ∙ sym (shut_piece ron_reader bar_of w c))
    go (Stepped.goes es p f c) ih =
        let y : List ℕ = left_by ron_reader bar_of at x b es in
        let to : ℕ = end_of at es in
        let rest = left_on ron_reader bar_of ron at x b es w f in
        let long = left_length ron_reader bar_of ron at x b es f in
        on (record { entries = es; next = going to y; bytes = 1 })
        (ih y to (ap allowed_of rest ∙ entries_keep es at (x ++ b ∷ w) (read_part ron_token to (y ++ w)) (f w) i e) (omega (arith, length-append y w, length-append x (b ∷ w))))

-- ---- how many bytes may be taken

sooner_first : (a b : ℕ) → a ≤ b → sooner a b ≡ a
unfolding sooner
sooner_first a b l = rw (le-leb a b l)

sooner_second : (a b : ℕ) → b < a → sooner a b ≡ b
unfolding sooner
sooner_second a b l = rw (lt-leb a b l)

module _ (at : ℕ) (rest : List ℕ) (part : ℕ) (k : GoesOn at rest part) (w : List ℕ) where
  -- what may be taken of the piece, behind the front of a character
  abbrev pub judged : Allowed
  judged = allowed_of (part_of rest part ++ w)

  -- how many bytes of it are taken
  abbrev pub many : ℕ
  many = may_take (at + length rest) (bad_at (allowed_of (part_of rest part ++ w)) part (length w))

  p : Parted rest part
  p = parted rest part k.utf8

  part_all : allowed_of (part_of rest part) ≡ All part
  part_all = cut_allowed [] (part_of rest part) Text.none p.cut ∙ ap All p.many

  -- the bytes that were there before are no bad ones
  bad_late : (n from : ℕ) → allowed_of (part_of rest part ++ w) ≡ Bad n from → part ≤ n
  bad_late n from e =
      either (lt_or_le n part)
      (λ l. let i : ℕ = part - n - 1 in
      let j : n + suc i ≡ length (part_of rest part) = omega (arith, p.many) in
      let h : Bad n from ≡ All part =
      sym (front_past (part_of rest part ++ w) n from e i) ∙ ap (λ (q : ℕ). allowed_of (take q (part_of rest part ++ w))) j
      ∙ ap allowed_of (take-append_seam (part_of rest part) w) ∙ part_all in
      let z : ◌≡◌ {A = ℕ} 0 1 = cc in absurd (omega arith))
      (λ l. l)

  bad_le : (a : Allowed) → allowed_of (part_of rest part ++ w) ≡ a → bad_at a part (length w) ≤ length w
  bad_le (All j) e = omega arith
  bad_le (Bad n from) e =
      let m : length (part_of rest part) ≡ part = p.many in
      omega (arith, (bad_bounds (part_of rest part ++ w) n from e).0, length-append (part_of rest part) w)

  pub many_le : many ≤ length w
  many_le =
      let bad : ℕ = bad_at judged part (length w) in
      either (lt_or_le bad (most_taken - (at + length rest)))
      (λ l. omega (arith, sooner_second (most_taken - (at + length rest)) bad l, bad_le judged refl))
      (λ l. omega (arith, sooner_first (most_taken - (at + length rest)) bad l, bad_le judged refl))

  pub many_size : at + length rest + many ≤ most_taken
  many_size =
      let bad : ℕ = bad_at judged part (length w) in
      either (lt_or_le bad (most_taken - (at + length rest)))
      (λ l. omega (arith, sooner_second (most_taken - (at + length rest)) bad l, k.size))
      (λ l. omega (arith, sooner_first (most_taken - (at + length rest)) bad l, k.size))

  many_bad : many ≤ bad_at (allowed_of (part_of rest part ++ w)) part (length w)
  many_bad =
      let bad : ℕ = bad_at judged part (length w) in
      either (lt_or_le bad (most_taken - (at + length rest)))
      (λ l. omega (arith, sooner_second (most_taken - (at + length rest)) bad l))
      (λ l. omega (arith, sooner_first (most_taken - (at + length rest)) bad l))

  -- those may all be taken
  front_taken : (m : ℕ) → m ≤ bad_at (allowed_of (part_of rest part ++ w)) part (length w) → (i : ℕ) × (allowed_of (part_of rest part ++ take m w) ≡ All i)
  front_taken m l = by (allowed_of (part_of rest part ++ w)) refl l
    where
      q : ℕ
      q = length (part_of rest part) + m

      same : take (length (part_of rest part) + m) (part_of rest part ++ w) ≡ part_of rest part ++ take m w
      same = take-append-add (part_of rest part) w m

      by : (a : Allowed) → allowed_of (part_of rest part ++ w) ≡ a → m ≤ bad_at a part (length w) → (i : ℕ) × (allowed_of (part_of rest part ++ take m w) ≡ All i)
      by (All j) e l = let f = front_all (part_of rest part ++ w) j e q in (f.0, ap allowed_of (sym same) ∙ f.1)
      by (Bad n from) e l =
          let f = front_before (part_of rest part ++ w) n from e q (omega (arith, p.many, bad_late n from e)) in
          (f.0, ap allowed_of (sym same) ∙ f.1)

  -- how many of them, at their end, belong to a character that has not come whole
  abbrev pub cut : ℕ
  cut = cut_off (allowed_of (part_of rest part ++ take (may_take (at + length rest) (bad_at (allowed_of (part_of rest part ++ w)) part (length w))) w))

  pub here_all : allowed_of (part_of rest part ++ take many w) ≡ All cut
  here_all = let f = front_taken many many_bad in f.1 ∙ ap All (sym (ap cut_off f.1))

  pub whole_all : allowed_of (rest ++ take many w) ≡ All cut
  whole_all = (allowed_on rest part k.utf8 (take many w)).1 ∙ ap (further (length rest - part)) here_all

  -- ---- the byte behind them
  -- what has come of the front of a character, told from the state and from what is left of the text
  part_same : (r u : List ℕ) → rest ++ take many w ≡ u ++ r → cut ≤ length r → part_of r cut ≡ part_of (part_of rest part ++ take many w) cut
  part_same r u e l =
      let x : List ℕ = part_of rest part ++ take many w in
      let split : rest ++ take many w ≡ whole_of rest part ++ x = ap (λ (t : List ℕ). t ++ take many w) (sym p.split) ∙ append_assoc (whole_of rest part) (part_of rest part) (take many w) in
      sym (part_append u r cut l)
      ∙ ap (λ (t : List ℕ). part_of t cut) (sym e ∙ split)
      ∙ part_append (whole_of rest part) x cut (all_bound x cut here_all).0

  -- with that byte no UTF-8 goes on
  bad_here : (n from b : ℕ) (z : List ℕ) → allowed_of (part_of rest part ++ w) ≡ Bad n from → many ≡ n - part → drop many w ≡ b ∷ z
      → allowed_of ((part_of rest part ++ take many w) ++ b ∷ []) ≡ Bad n from
  bad_here n from b z e h q =
      let o : List ℕ = part_of rest part in
      let x : List ℕ = o ++ take many w in
      let lx : length x ≡ n = omega (arith, p.many, bad_late n from e, length-append o (take many w), length-take-le many w many_le) in
      let all : o ++ w ≡ x ++ b ∷ z = ap (λ (t : List ℕ). o ++ t) (sym (take-append-drop many w) ∙ ap (λ (t : List ℕ). take many w ++ t) q) ∙ sym (append_assoc o (take many w) (b ∷ z)) in
      let front : take (n + suc 0) (o ++ w) ≡ x ++ b ∷ [] =
      ap (take (n + suc 0)) all ∙ ap (λ (j : ℕ). take (j + suc 0) (x ++ b ∷ z)) (sym lx) ∙ take-append-add x (b ∷ z) (suc 0) in
      ap allowed_of (sym front) ∙ front_past (o ++ w) n from e 0

  utf8_halts : (n from b : ℕ) (z : List ℕ) → allowed_of (part_of rest part ++ w) ≡ Bad n from → many ≡ n - part → drop many w ≡ b ∷ z
      → (to : ℕ) (r u : List ℕ) → rest ++ take many w ≡ u ++ r → to + length r ≡ at + length rest + many → allowed_of r ≡ All cut
      → utf8_bar to (allowed_of (r ++ b ∷ [])) ≡ halt (not_utf8 (at + length rest - part + from))
  utf8_halts n from b z e h q to r u split long er =
      let x : List ℕ = part_of rest part ++ take many w in
      let le : cut ≤ length r = (all_bound r cut er).0 in
      let on-x = (allowed_on x cut here_all (b ∷ [])).1 in
      let on-r = (allowed_on r cut er (b ∷ [])).1 ∙ ap (λ (t : List ℕ). further (length r - cut) (allowed_of (t ++ b ∷ []))) (part_same r u split le) in
      go (allowed_of (part_of x cut ++ b ∷ [])) (sym on-x ∙ bad_here n from b z e h q) on-r le (all_bound x cut here_all).0
    where
      go : (a : Allowed) → further (length (part_of rest part ++ take many w) - cut) a ≡ Bad n from → allowed_of (r ++ b ∷ []) ≡ further (length r - cut) a → cut ≤ length r
          → cut ≤ length (part_of rest part ++ take many w) → utf8_bar to (allowed_of (r ++ b ∷ [])) ≡ halt (not_utf8 (at + length rest - part + from))
      go (All j) f g l lx = let c : ◌≡◌ {A = ℕ} 0 1 = cc in absurd (omega arith)
      go (Bad i j) f g l lx =
          let d : ℕ = length (part_of rest part ++ take many w) - cut in
          let same : j + d ≡ from = cc in
          let place : to + (j + (length r - cut)) ≡ at + length rest - part + from =
          omega (arith, p.many, p.few, length-append (part_of rest part) (take many w), length-take-le many w many_le) in
          ap (utf8_bar to) g ∙ ap (λ (y : ℕ). halt (not_utf8 y)) place

  -- the byte behind those that are taken is barred, by 1 or 2
  pub barred : many < length w → (b : ℕ) (z : List ℕ) → drop many w ≡ b ∷ z → (to : ℕ) (r u : List ℕ) → rest ++ take many w ≡ u ++ r
      → to + length r ≡ at + length rest + many → allowed_of r ≡ All cut → size_bar to r b ≡ halt (barred_by (going_state at rest part) judged (length w))
  unfolding size_bar
  barred less b z q to r u split long er =
      let bad : ℕ = bad_at judged part (length w) in
      let room : ℕ = most_taken - (at + length rest) in
      either (lt_or_le bad room)
      (λ l. let h : many ≡ bad = sooner_second room bad l in
      rw (lt-leb room bad l, lt-leb most_taken (to + length r) (omega arith)) (by judged refl h))
      (λ l. let h : many ≡ room = sooner_first room bad l in
      rw (le-leb room bad l, le-leb most_taken (to + length r) (omega (arith, k.size))))
    where
      by : (a : Allowed) → allowed_of (part_of rest part ++ w) ≡ a → many ≡ bad_at a part (length w)
          → utf8_bar to (allowed_of (r ++ b ∷ [])) ≡ halt (not_utf8 (at + length rest - part + bad_from a))
      by (All j) e h = absurd (omega arith)
      by (Bad n from) e h = utf8_halts n from b z e h q to r u split long er
