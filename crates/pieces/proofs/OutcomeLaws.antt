-- What the bytes that are taken give, told as numbers by the code, is what specs/Come and specs/Pieces say.
--     Meets, meets      the entries, how many, where they end, how many bytes were taken, and where the text stands
--     outcome_code      the outcome of a piece by the code's numbers
-- Assumes nothing.
use Prim.Native.Nat.{ℕ, suc, ◌+◌, ◌-◌, ◌<◌, ◌≤◌}
use native.Mathlib.Omega.{arith}
use mathlib.Core.Bool.{Bool, cond}
use mathlib.Core.List.{List, [], ◌∷◌, ◌++◌, map}
use mathlib.Core.Path.{◌≡◌, ap, refl, subst, sym, ◌∙◌}
use lib.Dec.{eqb, leb, ltb}
use lib.ListN.{drop, drop_of_length-le, length, length-append, length-drop, take, take-append-drop}
use lib.Seq.{drop-append-le, length-take-le, take-append_seam}
use borrow.Author.Tests.{eqb-true, le-leb, leb-true, lt-leb, ltb-false, ne_eqb}
use Rattle.text.proofs.Choices.{bool_cases, either, lt_or_le}
use Rattle.text.specs.Refusals.{placed_behind, unexpected_char}
use Rattle.text.specs.declared.refusal.Refusal.{Refusal}
use Rattle.rows.specs.declared.Entry.{Entry}
use Rattle.reading.proofs.Steps.{drop_on}
use Rattle.reading.specs.Readings.{end_of, entries, read_from, read_part, ◌▸◌}
use Rattle.tokens.proofs.RonLaws.{refused_within}
use Rattle.tokens.specs.Ron.{ron_token}
use Rattle.inner.proofs.Tokens.{refused_positive}
use Rattle.octets.specs.Octets.{Cut}
use Rattle.gaps.specs.Passes.{passed_of}
use Rattle.gaps.specs.declared.pass.Passed.{Passed}
use Rattle.gaps.specs.declared.pass.Passed.TheVariants.{Begins, Within, Unexpected}
use Rattle.gaps.specs.declared.state.Open.{Open}
use Rattle.arriving.proofs.Came.{Stood, few_bytes, given_read, stood_behind}
use Rattle.arriving.proofs.Fronts.{entries_front}
use Rattle.arriving.proofs.Timely.{ends_in}
use Rattle.arriving.specs.Arrivals.{Coming, Given, going}
use Rattle.settled.proofs.Owed.{ron}
use Rattle.settled.specs.Settled.{ron_reader}
use Rattle.pieces.proofs.PassedLaws.{begins_inside, unexpected_inside}
use Rattle.pieces.proofs.StandLaws.{Agrees, agrees_behind, agrees_stopped, agrees_within, bar_halts}
use Rattle.pieces.specs.Bars.{bar_of, bytes_give}
use Rattle.pieces.specs.Come.{Came, came_by, later, sooner, stands_at}
use Rattle.pieces.specs.Pieces.{Outcome, behind_bytes, gapped, given_by, goes_on, kept_at, moved_to, open_at, stops}
use Rattle.pieces.specs.inner.Comes.{come_by, come_of}
use Rattle.pieces.specs.inner.Runs.{ran_of, stands_in}
use Rattle.pieces.specs.inner.Steps.{former_of, kept_from, open_in, stop_of}
use Rattle.pieces.specs.declared.come.Reached.{Reached}
use Rattle.pieces.specs.declared.state.Arrival.{Arrival}

-- ---- the later of two places

later_is : (a b : ℕ) → a ≤ b → later a b ≡ b
unfolding later
later_is a b h = ap (λ (t : Bool). cond t b a) (le-leb a b h)

later_first : (a b : ℕ) → b < a → later a b ≡ a
unfolding later
later_first a b h = ap (λ (t : Bool). cond t b a) (lt-leb a b h)

later_le : (a b : ℕ) → (a ≤ later a b) × (b ≤ later a b)
later_le a b = either (lt_or_le b a) (λ l. let e = later_first a b l in (omega arith, omega arith)) (λ l. let e = later_is a b l in (omega arith, omega arith))

sooner_ge : (n a b : ℕ) → n ≤ a → n ≤ b → n ≤ sooner a b
unfolding sooner
sooner_ge n a b h k = either (bool_cases (leb a b)) (λ t. rw t h) (λ t. rw t k)

sooner_second : (a b : ℕ) → sooner a b ≤ b
unfolding sooner
sooner_second a b = either (bool_cases (leb a b)) (λ t. rw t (leb-true a b t)) (λ t. rw t (omega arith))

-- ---- where entries end

some_end : (es : List Entry) (a b : ℕ) → 0 < length es → end_of a es ≡ end_of b es
unfolding end_of
some_end [] a b p = absurd (omega arith)
some_end (e ∷ es) a b p = refl

-- moved, and with other gaps
moved_end : (es : List Entry) (base former at : ℕ) → end_of (base + at) (gapped former (map (moved_to base) es)) ≡ base + end_of at es
unfolding end_of gapped
moved_end [] base former at = refl
moved_end (e ∷ es) base former at = moved_end es base (base + e.end) e.end

pub length_moved : (es : List Entry) (base former : ℕ) → length (gapped former (map (moved_to base) es)) ≡ length es
unfolding gapped
length_moved [] base former = refl
length_moved (e ∷ es) base former = ap suc (length_moved es base (base + e.end))

-- the last of them, or the former one
pub former_is : (es : List Entry) (base former end : ℕ) → ((at : ℕ) → 0 < length es → end_of at es ≡ end)
    → end_of former (gapped former (map (moved_to base) es)) ≡ former_of former (length es) (base + end)
unfolding end_of gapped
former_is [] base former end f = refl
former_is (e ∷ es) base former end f =
    moved_end es base (base + e.end) e.end
    ∙ ap (λ (n : ℕ). base + n) (f 0 (omega arith))
    ∙ ap (λ (t : Bool). cond t former (base + end)) (sym (ne_eqb (suc (length es)) 0 (λ q. omega arith)))

-- ---- what the bytes give

module _ (s : List ℕ) (kept whole : ℕ) (has : kept ≤ length s) (inside : whole ≤ length s) (c : Cut (drop whole s)) where
  -- what was given and what the code has found are the same
  pub record Meets (g : Came) (r : Reached) : Type 0 where
    pub from : r.from ≤ length s
    pub many : r.ran.count ≤ length (entries (read_from ron_token s r.from))
    pub are : g.entries ≡ take r.ran.count (entries (read_from ron_token s r.from))
    pub counted : length g.entries ≡ r.ran.count
    pub ends : (at : ℕ) → 0 < r.ran.count → end_of at g.entries ≡ r.ran.end
    pub end_in : r.ran.end ≤ length s
    pub bytes : r.ran.bytes ≡ kept + g.bytes
    pub bytes_in : r.ran.bytes ≤ length s
    pub agrees : Agrees s whole g.standing r.ran.stands

  -- the bytes from where a token begins are those that were kept and the others
  parts : (k : ℕ) → drop k (take kept s) ++ drop (later k kept) s ≡ drop k s
  parts k =
      either (lt_or_le kept k)
      (λ l. let none : drop k (take kept s) ≡ [] = drop_of_length-le (take kept s) {i = k} (omega (arith, length-take-le kept s has)) in
      ap (λ (n : ℕ). drop k (take kept s) ++ drop n s) (later_first k kept l) ∙ ap (λ (v : List ℕ). v ++ drop k s) none)
      (λ l. ap (λ (n : ℕ). drop k (take kept s) ++ drop n s) (later_is k kept l)
      ∙ sym (drop-append-le k (take kept s) (drop kept s) (omega (arith, length-take-le kept s has)))
      ∙ ap (drop k) (take-append-drop kept s))

  -- where the text stands, by how an arrival does
  stood_agrees : (k : ℕ) → k ≤ length s → {a : Coming} → Stood ron_reader ron bar_of k (drop k s) a → Agrees s whole (stands_at a) (stands_in a (length s - whole))
  stood_agrees k h (Stood.goes at lo hi) =
      let e : drop (at - k) (drop k s) ≡ drop at s = drop_on k (at - k) at s (omega arith) in
      subst (λ (x : List ℕ). Agrees s whole (stands_at (going at x)) (stands_in (going at x) (length s - whole))) (sym e)
      (agrees_behind s whole inside c at (omega (arith, length-drop k s)))
  stood_agrees k h (Stood.shuts p left d e l) =
      agrees_stopped s whole (placed_behind p d) (refused_positive left d e) (omega (arith, refused_within left d e, length-drop k s))
  stood_agrees k h (Stood.halts p rest b d e l) =
      let q = bar_halts p b rest d e in
      let number : d.number ≡ 30 = ap (λ (r : Refusal). r.number) q.2 in
      let place : d.place ≡ p + q.0 = ap (λ (r : Refusal). r.place) q.2 in
      agrees_stopped s whole d (omega arith) (omega (arith, q.1, length-drop k s))

  -- something begins
  begins_meets : (k : ℕ) → k ≤ length s → Meets (came_by (Begins k) kept s) (come_by (Begins k) s kept whole)
  unfolding ran_of
  begins_meets k h =
      let x : List ℕ = drop k (take kept s) in
      let w : List ℕ = drop (later k kept) s in
      let g : Given = bytes_give (going k x) w in
      let f = given_read ron_reader ron bar_of w x k in
      let read : read_from ron_token s k ≡ g.entries ▸ f.rest = ap (read_part ron_token k) (sym (parts k)) ∙ f.is in
      let all : entries (read_from ron_token s k) ≡ g.entries ++ entries f.rest = ap entries read ∙ entries_front g.entries f.rest in
      let end : end_of k g.entries ≤ k + length (drop k s) = ends_in ron_reader ron g.entries k (drop k s) f.rest read in
      let few : g.bytes ≤ length w = few_bytes ron_reader ron bar_of w (going k x) in
      let both = later_le k kept in
      let late : later k kept ≤ length s = either (lt_or_le kept k) (λ l. omega (arith, later_first k kept l)) (λ l. omega (arith, later_is k kept l)) in
      let stands : Agrees s whole (stands_at g.next) (stands_in g.next (length s - whole)) =
      stood_agrees k h (subst (λ (v : List ℕ). Stood ron_reader ron bar_of k v g.next) (parts k) (stood_behind ron_reader ron bar_of w x k)) in
      record {
        from = h;
        many = omega (arith, ap length all, length-append g.entries (entries f.rest));
        are = sym (ap (take (length g.entries)) all ∙ take-append_seam g.entries (entries f.rest));
        counted = refl;
        ends = λ at p. some_end g.entries at k p;
        end_in = omega (arith, length-drop k s);
        bytes = omega arith;
        bytes_in = omega (arith, length-drop (later k kept) s);
        agrees = stands;
      }

  meets_by : (p : Passed) → ((k : ℕ) → p ≡ Begins k → k < length s) → ((q : ℕ) → p ≡ Unexpected q → q ≤ length s) → Meets (came_by p kept s) (come_by p s kept whole)
  meets_by (Begins k) b u = begins_meets k (omega (arith, b k refl))
  meets_by (Within o) b u = record {
    from = omega arith;
    many = omega arith;
    are = refl;
    counted = refl;
    ends = λ at p. absurd (omega arith);
    end_in = omega arith;
    bytes = omega arith;
    bytes_in = omega arith;
    agrees = agrees_within s whole o inside;
  }
  meets_by (Unexpected q) b u =
      let low : kept ≤ sooner (later q (kept + 1)) (length s) = sooner_ge kept (later q (kept + 1)) (length s) (omega (arith, (later_le q (kept + 1)).1)) has in
      record {
        from = omega arith;
        many = omega arith;
        are = refl;
        counted = refl;
        ends = λ at p. absurd (omega arith);
        end_in = omega arith;
        bytes = omega arith;
        bytes_in = sooner_second (later q (kept + 1)) (length s);
        agrees = agrees_stopped s whole (unexpected_char q) (omega arith) (u q refl);
      }

  pub meets : (o : Open) → Meets (came_by (passed_of o (take whole s)) kept s) (come_of o s kept whole)
  unfolding come_of
  meets o =
      let l = length-take-le whole s inside in
      meets_by (passed_of o (take whole s)) (λ k e. omega (arith, begins_inside o (take whole s) k e)) (λ q e. omega (arith, unexpected_inside o (take whole s) q e))

-- ---- the outcome

-- what a piece gives, by what the code has found in s; a byte follows that is barred
unfoldable pub ran_outcome : Arrival → List ℕ → ℕ → Bool → Refusal → Reached → Outcome
ran_outcome a s whole follows why r =
    let base = a.taken - a.kept in
    let es = gapped a.former (map (moved_to base) (take r.ran.count (entries (read_from ron_token s r.from)))) in
    let former = former_of a.former r.ran.count (base + r.ran.end) in
    let d = stop_of r.ran.stands (length s) base follows why in
    cond (eqb d.number 0)
    (goes_on es (base + length s) former (open_in r.ran.stands) (drop (kept_from r.ran.stands whole) s) (length s - whole))
    (stops es (base + r.ran.bytes) former d)

module _ (a : Arrival) (s : List ℕ) (whole n m : ℕ) (has : a.kept ≤ length s) (inside : whole ≤ length s) (c : Cut (drop whole s)) (why : Refusal) (barred : 0 < why.number)
    (kept-taken : a.kept ≤ a.taken) (long : length s ≡ a.kept + m) (le : m ≤ n) (g : Came) (r : Reached) (h : Meets s a.kept whole has inside c g r) where
  abbrev base : ℕ
  base = a.taken - a.kept

  es_are : given_by a g ≡ gapped a.former (map (moved_to base) (take r.ran.count (entries (read_from ron_token s r.from))))
  es_are = ap (λ (es : List Entry). gapped a.former (map (moved_to base) es)) h.are

  former_ends : end_of a.former (given_by a g) ≡ former_of a.former r.ran.count (base + r.ran.end)
  former_ends =
      former_is g.entries base a.former r.ran.end (λ at p. h.ends at (omega (arith, h.counted)))
      ∙ ap (λ (k : ℕ). former_of a.former k (base + r.ran.end)) h.counted

  goes-on : (stop_of r.ran.stands (length s) base (ltb m n) why).number ≡ 0 → (es : List Entry) (former : ℕ)
      → goes_on es (a.taken + n) former (open_at g.standing (length (drop whole s))) (kept_at g.standing (drop whole s)) (length (drop whole s))
      ≡ goes_on es (base + length s) former (open_in r.ran.stands) (drop (kept_from r.ran.stands whole) s) (length s - whole)
  goes-on e es former =
      let q = h.agrees.goes base (ltb m n) why barred e in
      let all : n ≤ m = ltb-false m n q.all in
      let t : a.taken + n ≡ base + length s = omega arith in
      ap (λ (k : ℕ). goes_on es k former (open_at g.standing (length (drop whole s))) (kept_at g.standing (drop whole s)) (length (drop whole s))) t
      ∙ ap (λ (o : Open). goes_on es (base + length s) former o (kept_at g.standing (drop whole s)) (length (drop whole s))) q.on.opens
      ∙ ap (λ (x : List ℕ). goes_on es (base + length s) former (open_in r.ran.stands) x (length (drop whole s))) q.on.keeps
      ∙ ap (λ (k : ℕ). goes_on es (base + length s) former (open_in r.ran.stands) (drop (kept_from r.ran.stands whole) s) k) (length-drop whole s)

  pub ran-outcome : behind_bytes a n m (drop whole s) why g ≡ ran_outcome a s whole (ltb m n) why r
  unfolding behind_bytes ran_outcome
  ran-outcome =
      let d : Refusal = stop_of r.ran.stands (length s) base (ltb m n) why in
      let es : List Entry = gapped a.former (map (moved_to base) (take r.ran.count (entries (read_from ron_token s r.from)))) in
      let former : ℕ = former_of a.former r.ran.count (base + r.ran.end) in
      let t : a.taken + g.bytes ≡ base + r.ran.bytes = omega (arith, h.bytes) in
      rw (h.agrees.stops base (ltb m n) why, former_ends, es_are, t)
      (either (bool_cases (eqb d.number 0))
      (λ e. rw e (goes-on (eqb-true d.number 0 e) es former))
      (λ e. rw e))
