-- Decisions one after the other are what the bytes give one by one. Assumes nothing.
use Prim.Native.Nat.{ℕ, ◌+◌, ◌-◌, ◌<◌, ◌≤◌}
use native.Mathlib.Nat.{sub_self}
use native.Mathlib.Omega.{arith}
use mathlib.Core.List.{List, [], ◌++◌}
use mathlib.Core.Path.{◌≡◌, ap, ap₂, refl, subst, sym, ◌∙◌}
use lib.ListN.{drop, drop_of_length-le, length, length-append, length-drop, length-take, take}
use Rattle.text.proofs.Choices.{either, lt_or_le}
use Rattle.rows.proofs.OrderLaws.{in_order_short}
use Rattle.rows.specs.declared.Entry.{Entry}
use Rattle.reading.proofs.Entries.{read_in_order}
use Rattle.reading.specs.Owed.{quiet_byte}
use Rattle.reading.specs.Readings.{end_of}
use Rattle.tokens.proofs.RonLaws.{kinds, laws}
use Rattle.tokens.specs.Ron.{ron_token}
use Rattle.arriving.proofs.Came.{given_read}
use Rattle.arriving.proofs.Keeps.{end_append}
use Rattle.arriving.proofs.Whole.{both, cut}
use Rattle.arriving.specs.Arrivals.{Given, piece}
use Rattle.arriving.specs.Arrivals.Coming.{going}
use Rattle.settled.proofs.Owed.{ron}
use Rattle.settled.specs.Settled.{ron_reader}
use Rattle.pieces.specs.Bars.{bar_of, bytes_give}
use Rattle.pieces.specs.Come.{later}
use Rattle.pieces.specs.inner.Runs.{ran_by, ran_of, stands_in}
use Rattle.pieces.specs.inner.Turns.{between, turn_of}
use Rattle.pieces.specs.declared.run.Ran.{Ran}
use Rattle.pieces.specs.declared.turn.Stands.{Stands}
use Rattle.pieces.specs.declared.turn.Turned.{Turned}
use Rattle.pieces.specs.declared.turn.Turned.TheVariants.{On, Over}
use Rattle.pieces.proofs.TurnLaws.{Goes, Means, Stops, between_join, between_length, between_rest, between_take}
use Rattle.pieces.proofs.PlaceLaws.{later_left, later_right}

-- what was given up to a place, from where a token began
pub record SoFar (s : List ℕ) (from kept seen at count : ℕ) : Type 0 where
  pub entries : List Entry
  pub run : bytes_give (going from (drop from (take kept s))) (between (later from kept) seen s) ≡ record { entries = entries; next = going at (between at seen s); bytes = seen - later from kept }
  pub count_is : length entries ≡ count
  pub ends_is : end_of from entries ≡ at
  pub low : later from kept ≤ seen

module _ (s : List ℕ) (from kept : ℕ) (inside : kept ≤ length s) (there : from ≤ length s) where
  -- what was there before
  front_is : drop from (take kept s) ≡ between from (later from kept) s
  front_is =
      either (lt_or_le kept from)
      (λ l. let e : length (take kept s) ≤ from = omega (arith, length-take kept s) in
      drop_of_length-le (take kept s) e
      ∙ sym (ap (λ (n : ℕ). between from n s) (later_left from kept (omega arith)) ∙ between_take s from from ∙ ap (λ (n : ℕ). take n (drop from s)) (sub_self from)))
      (λ l. ap (λ (n : ℕ). between from n s) (sym (later_right from kept l)))

  first_low : from ≤ later from kept
  first_low = either (lt_or_le kept from) (λ l. omega (arith, later_left from kept (omega arith))) (λ l. omega (arith, later_right from kept l))

  first_top : later from kept ≤ length s
  first_top = either (lt_or_le kept from) (λ l. omega (arith, later_left from kept (omega arith))) (λ l. omega (arith, later_right from kept l))

  pub run_starts : SoFar s from kept (later from kept) from 0
  unfolding piece end_of
  run_starts =
      let c : ℕ = later from kept in
      let none : between c c s ≡ [] = between_take s c c ∙ ap (λ (n : ℕ). take n (drop c s)) (sub_self c) in
      record {
        entries = [];
        run = ap (bytes_give (going from (drop from (take kept s)))) none ∙ ap₂ (λ (l : List ℕ) (n : ℕ). record { entries = []; next = going from l; bytes = n }) front_is (sym (sub_self c));
        count_is = refl;
        ends_is = refl;
        low = omega arith;
      }

  module _ (seen at count : ℕ) (k : SoFar s from kept seen at count) where
    pub run_goes : (whole n end bytes : ℕ) → Goes s at seen whole n end bytes → SoFar s from kept bytes end (count + n)
    run_goes whole n end bytes g =
        let c : ℕ = later from kept in
        record {
          entries = k.entries ++ g.entries;
          run = ap (bytes_give (going from (drop from (take kept s)))) (sym (between_join s c seen bytes k.low (omega (arith, g.further))))
              ∙ cut ron_reader bar_of (between c seen s) (between seen bytes s) (going from (drop from (take kept s)))
              ∙ ap (λ (x : Given). both x (λ c'. bytes_give c' (between seen bytes s))) k.run
              ∙ ap (λ (x : Given). record { entries = k.entries ++ x.entries; next = x.next; bytes = seen - c + x.bytes }) g.run
              ∙ ap (λ (m : ℕ). record { entries = k.entries ++ g.entries; next = going end (between end bytes s); bytes = m }) (omega (arith, k.low, g.further));
          count_is = omega (arith, length-append k.entries g.entries, k.count_is, g.count);
          ends_is = end_append k.entries g.entries from ∙ ap (λ (m : ℕ). end_of m g.entries) k.ends_is ∙ g.ends;
          low = omega (arith, k.low, g.further);
        }

    pub run_stops : (whole n end bytes : ℕ) (x : Stands) → Stops s at seen whole n end bytes x → seen ≤ length s
        → record { count = count + n; end = end; bytes = bytes; stands = x } ≡ ran_of s from kept whole
    unfolding ran_of
    run_stops whole n end bytes x g top =
        let c : ℕ = later from kept in
        let all : bytes_give (going from (drop from (take kept s))) (drop c s) ≡ record { entries = k.entries ++ g.entries; next = g.next; bytes = seen - c + g.taken } =
        ap (bytes_give (going from (drop from (take kept s)))) (sym (between_rest s c seen k.low))
        ∙ cut ron_reader bar_of (between c seen s) (drop seen s) (going from (drop from (take kept s)))
        ∙ ap (λ (y : Given). both y (λ c'. bytes_give c' (drop seen s))) k.run
        ∙ ap (λ (y : Given). record { entries = k.entries ++ y.entries; next = y.next; bytes = seen - c + y.bytes }) g.run in
        ran_is (count + n) (length (k.entries ++ g.entries)) end (end_of from (k.entries ++ g.entries)) bytes (c + (seen - c + g.taken)) x (stands_in g.next (length s - whole))
        (omega (arith, length-append k.entries g.entries, k.count_is, g.count))
        (sym (end_append k.entries g.entries from ∙ ap (λ (m : ℕ). end_of m g.entries) k.ends_is ∙ g.ends))
        (omega (arith, k.low, g.all)) (sym g.stands_is)
        ∙ sym (ap (ran_by from c (length s - whole)) all)
      where
        ran_is : (c c' e e' b b' : ℕ) (x x' : Stands) → c ≡ c' → e ≡ e' → b ≡ b' → x ≡ x'
            → ◌≡◌ {A = Ran} (record { count = c; end = e; bytes = b; stands = x }) (record { count = c'; end = e'; bytes = b'; stands = x' })
        ran_is c c' e e' b b' x x' p q r z = rw (p, q, r, z)

    -- there are no more entries than bytes
    pub run_few : seen ≤ length s → count ≤ length s
    run_few top =
        let c : ℕ = later from kept in
        let w : List ℕ = between c seen s in
        let x : List ℕ = drop from (take kept s) in
        let b = given_read ron_reader ron bar_of w x from in
        let es : List Entry = (bytes_give (going from x) w).entries in
        let same : es ≡ k.entries = ap (λ (g : Given). g.entries) k.run in
        let o = read_in_order ron_token quiet_byte laws kinds es from (x ++ w) b.rest b.is in
        let few = in_order_short es from (from + length (x ++ w)) o in
        let long : length (x ++ w) ≤ length s = omega (arith, ap length (ap (λ (l : List ℕ). l ++ w) front_is ∙ between_join s from c seen first_low k.low), between_length s from seen top) in
        omega (arith, few, long, ap length same, k.count_is)

    -- nor with those of the last turn
    pub stop_few : (whole n end bytes : ℕ) (x : Stands) → Stops s at seen whole n end bytes x → seen ≤ length s → count + n ≤ length s
    stop_few whole n end bytes x g top =
        let c : ℕ = later from kept in
        let l : List ℕ = drop from (take kept s) in
        let w : List ℕ = drop c s in
        let all : bytes_give (going from l) w ≡ record { entries = k.entries ++ g.entries; next = g.next; bytes = seen - c + g.taken } =
        ap (bytes_give (going from l)) (sym (between_rest s c seen k.low))
        ∙ cut ron_reader bar_of (between c seen s) (drop seen s) (going from l)
        ∙ ap (λ (y : Given). both y (λ c'. bytes_give c' (drop seen s))) k.run
        ∙ ap (λ (y : Given). record { entries = k.entries ++ y.entries; next = y.next; bytes = seen - c + y.bytes }) g.run in
        let b = given_read ron_reader ron bar_of w l from in
        let es : List Entry = (bytes_give (going from l) w).entries in
        let same : es ≡ k.entries ++ g.entries = ap (λ (y : Given). y.entries) all in
        let o = read_in_order ron_token quiet_byte laws kinds es from (l ++ w) b.rest b.is in
        let few = in_order_short es from (from + length (l ++ w)) o in
        let long : length (l ++ w) ≤ length s = omega (arith, ap length (ap (λ (y : List ℕ). y ++ w) front_is ∙ between_rest s from c first_low), length-drop from s) in
        omega (arith, few, long, ap length same, length-append k.entries g.entries, k.count_is, g.count)

-- where the loop begins
pub run_first : (s : List ℕ) (from kept whole c : ℕ) → c ≡ later from kept → from < whole → whole ≤ length s → kept ≤ length s
    → (from ≤ whole) × (from ≤ c) × (c ≤ length s) × SoFar s from kept c from 0
run_first s from kept whole c e l m n =
    let there : from ≤ length s = omega arith in
    subst (λ (x : ℕ). (from ≤ whole) × (from ≤ x) × (x ≤ length s) × SoFar s from kept x from 0) (sym e)
    (omega arith, first_low s from kept n there, first_top s from kept n there, run_starts s from kept n there)

-- a turn by its answer
pub turn_goes : (s : List ℕ) (at seen whole : ℕ) (x : Turned) (n end bytes : ℕ) → x ≡ turn_of s at seen whole → x ≡ On n end bytes → Means s at seen whole (turn_of s at seen whole) → Goes s at seen whole n end bytes
turn_goes s at seen whole x n end bytes e q m = subst (Means s at seen whole) (sym e ∙ q) m

pub turn_stops : (s : List ℕ) (at seen whole : ℕ) (x : Turned) (n end bytes : ℕ) (y : Stands) → x ≡ turn_of s at seen whole → x ≡ Over n end bytes y → Means s at seen whole (turn_of s at seen whole) → Stops s at seen whole n end bytes y
turn_stops s at seen whole x n end bytes y e q m = subst (Means s at seen whole) (sym e ∙ q) m
