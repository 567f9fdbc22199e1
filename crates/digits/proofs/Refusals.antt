-- The digits of a run are refused exactly where a character stops them: 9 at a digit not below the base, 10 where the value passes the limit. Assumes nothing.
use Prim.Native.Nat.{◌*◌, ◌+◌, ◌<◌, ◌≤◌, suc, zero, ℕ}
use native.Mathlib.Omega.{arith}
use mathlib.Core.List.{List, [], ◌∷◌}
use mathlib.Core.Logic.{◌↔◌, ◌⊎◌, inl, inr}
use mathlib.Core.Path.{◌∙◌, ◌≡◌, ap, refl}
use lib.Dec.{eqb, leb, ltb}
use lib.ListN.{get_or, length, take}
use borrow.Author.Tests.{eqb-false, leb-false, leb-true, ltb-false, ltb-true, le-leb, le-ltb, lt-leb, lt-ltb, ne_eqb}
use Rattle.digits.proofs.Exact.{turn_fit, turn_next, value_grows}
use Rattle.digits.specs.Digits.{hex_of, digits_from, digits_of, on_turn, turn_of}
use Rattle.digits.specs.Value.{Fit, StopsAt, digit_step, value_from}
use Rattle.digits.specs.declared.Run.{Run}
use Rattle.digits.specs.declared.Run.TheVariants.{Value, Empty, Underscore, NotDigit, Over}
use Rattle.digits.specs.declared.up.Turned.{Turned}
use Rattle.text.proofs.Choices.{bool_cases, either}
use Rattle.text.specs.Runs.{run}
use Rattle.digits.specs.declared.up.Turned.TheVariants as turned

pub clash : {X : Type 0} → ◌≡◌ {A = ℕ} 0 1 → X
clash e = absurd (omega arith)

-- what a refused character is
module _ (limit base acc c : ℕ) where
  pub turn_not : turn_of limit base acc c ≡ turned.NotDigit → (c ≡ 0x5f → ⊥) × (acc * base ≤ limit) × (base ≤ hex_of c)
  unfolding turn_of
  turn_not e =
      either (bool_cases (eqb c 0x5f)) (λ p. clash (cc (simp p at e))) λ p.
      either (bool_cases (ltb limit (acc * base))) (λ q. clash (cc (simp (p, q) at e))) λ q.
      either (bool_cases (leb base (hex_of c))) (λ r. (eqb-false _ _ p, ltb-false _ _ q, leb-true _ _ r)) λ r.
      either (bool_cases (ltb limit (acc * base + hex_of c))) (λ s. clash (cc (simp (p, q, r, s) at e))) (λ s. clash (cc (simp (p, q, r, s) at e)))

  pub turn_over : turn_of limit base acc c ≡ turned.Over → (c ≡ 0x5f → ⊥) × ((limit < acc * base) ⊎ ((hex_of c < base) × (limit < acc * base + hex_of c)))
  unfolding turn_of
  turn_over e =
      either (bool_cases (eqb c 0x5f)) (λ p. clash (cc (simp p at e))) λ p.
      either (bool_cases (ltb limit (acc * base))) (λ q. (eqb-false _ _ p, inl (ltb-true _ _ q))) λ q.
      either (bool_cases (leb base (hex_of c))) (λ r. clash (cc (simp (p, q, r) at e))) λ r.
      either (bool_cases (ltb limit (acc * base + hex_of c))) (λ s. (eqb-false _ _ p, inr (leb-false _ _ r, ltb-true _ _ s))) (λ s. clash (cc (simp (p, q, r, s) at e)))

  pub not_turn : (c ≡ 0x5f → ⊥) → acc * base ≤ limit → base ≤ hex_of c → turn_of limit base acc c ≡ turned.NotDigit
  unfolding turn_of
  not_turn n p d = simp (ne_eqb c 0x5f n, le-ltb limit (acc * base) p, le-leb base (hex_of c) d)

  pub over_turn : (c ≡ 0x5f → ⊥) → (limit < acc * base) ⊎ ((hex_of c < base) × (limit < acc * base + hex_of c)) → turn_of limit base acc c ≡ turned.Over
  unfolding turn_of
  over_turn n w =
      either w (λ p. simp (ne_eqb c 0x5f n, lt-ltb limit (acc * base) p)) λ h.
      either (bool_cases (ltb limit (acc * base))) (λ p. simp (ne_eqb c 0x5f n, p))
      (λ p. simp (ne_eqb c 0x5f n, p, lt-leb base (hex_of c) h.0, lt-ltb limit (acc * base + hex_of c) h.1))

module _ (limit base : ℕ) (positive : 0 < base) where
  -- one character more in front
  further : (c : ℕ) (cs : List ℕ) (acc : ℕ) (t : Turned ℕ) (i : ℕ) → Fit base c → StopsAt limit base (digit_step base acc c) cs t i → StopsAt limit base acc (c ∷ cs) t (suc i)
  unfolding value_from
  further c cs acc t i f s =
      record {
        inside = omega (arith, s.inside);
        before = record {
          only = λ j. elim j as (λ j. j < length (take (suc i) (c ∷ cs)) → Fit base (get_or (take (suc i) (c ∷ cs)) j 0)) [ zero ↦ λ l. f | suc k ↦ λ l. s.before.only k (omega (arith, l)) ];
          value = refl;
          fits = s.before.fits;
        };
        turn = s.turn;
      }

  -- nothing in front
  at_once : (c : ℕ) (cs : List ℕ) (acc : ℕ) (t : Turned ℕ) → acc ≤ limit → turn_of limit base acc c ≡ t → StopsAt limit base acc (c ∷ cs) t 0
  unfolding value_from
  at_once c cs acc t h e =
      record { inside = omega arith; before = record { only = λ j l. absurd (omega (arith, l)); value = refl; fits = h }; turn = e }

  abbrev Stop : (acc at : ℕ) → List ℕ → Run → Type 0
  Stop acc at run (Value v) = Unit
  Stop acc at run Empty = ⊥
  Stop acc at run Underscore = ⊥
  Stop acc at run (NotDigit p) = (i : ℕ) × ((p ≡ at + i) × StopsAt limit base acc run turned.NotDigit i)
  Stop acc at run Over = (i : ℕ) × StopsAt limit base acc run turned.Over i

  one_more : (c : ℕ) (cs : List ℕ) (acc at : ℕ) (r : Run) → Fit base c → Stop (digit_step base acc c) (at + 1) cs r → Stop acc at (c ∷ cs) r
  one_more c cs acc at (Value v) f s = tt
  one_more c cs acc at Empty f s = s
  one_more c cs acc at Underscore f s = s
  one_more c cs acc at (NotDigit p) f s = (suc s.0, (omega (arith, s.1.0), further c cs acc turned.NotDigit s.0 f s.1.1))
  one_more c cs acc at Over f s = (suc s.0, further c cs acc turned.Over s.0 f s.1)

  -- a refusal is 9 at a character that is no digit of the base, or 10 where a character passes the limit
  pub stops : (run : List ℕ) (acc at : ℕ) → acc ≤ limit → Stop acc at run (digits_from limit base acc at run)
  unfolding digits_from
  stops [] acc at h = tt
  stops (c ∷ cs) acc at h = go (λ n l. stops cs n (at + 1) l) (turn_of limit base acc c) refl
    where
      go : ((n : ℕ) → n ≤ limit → Stop n (at + 1) cs (digits_from limit base n (at + 1) cs)) → (t : Turned ℕ) → turn_of limit base acc c ≡ t → Stop acc at (c ∷ cs) (on_turn at t (λ (next : ℕ). digits_from limit base next (at + 1) cs))
      go rest turned.Over q = (0, at_once c cs acc turned.Over h q)
      go rest turned.NotDigit q = (0, (omega arith, at_once c cs acc turned.NotDigit h q))
      go rest (turned.Next n) q =
          let g = turn_next limit base acc c n q h in
          one_more c cs acc at (digits_from limit base n (at + 1) cs) g.1.0 (rw g.0 (rest n g.1.1))

  -- the character in front of a later stop is read
  passed : (c : ℕ) (cs : List ℕ) (acc : ℕ) (t : Turned ℕ) (i : ℕ) → StopsAt limit base acc (c ∷ cs) t (suc i) → (turn_of limit base acc c ≡ turned.Next (digit_step base acc c)) × StopsAt limit base (digit_step base acc c) cs t i
  unfolding value_from
  passed c cs acc t i s =
      let f = s.before.only 0 (omega arith) in
      let g : digit_step base acc c ≤ limit = omega (arith, value_grows base (digit_step base acc c) (take i cs) positive, s.before.fits) in (
        turn_fit limit base acc c f g,
        record {
          inside = omega (arith, s.inside);
          before = record { only = λ j l. s.before.only (suc j) (omega (arith, l)); value = refl; fits = s.before.fits };
          turn = s.turn;
        },
      )

  -- and where a character stops the run so, that is the answer
  over_stops : (run : List ℕ) (acc at i : ℕ) → StopsAt limit base acc run turned.Over i → digits_from limit base acc at run ≡ Over
  unfolding digits_from value_from
  over_stops [] acc at i s = absurd (omega (arith, s.inside))
  over_stops (c ∷ cs) acc at zero s = rw s.turn
  over_stops (c ∷ cs) acc at (suc i) s =
      let p = passed c cs acc turned.Over i s in
      rw p.0 (over_stops cs (digit_step base acc c) (at + 1) i p.1)

  not_stops : (run : List ℕ) (acc at i : ℕ) → StopsAt limit base acc run turned.NotDigit i → digits_from limit base acc at run ≡ NotDigit (at + i)
  unfolding digits_from value_from
  not_stops [] acc at i s = absurd (omega (arith, s.inside))
  not_stops (c ∷ cs) acc at zero s = let e : at ≡ at + 0 = omega arith in rw s.turn (ap NotDigit e)
  not_stops (c ∷ cs) acc at (suc i) s =
      let p = passed c cs acc turned.NotDigit i s in
      let e : at + 1 + i ≡ at + suc i = omega arith in
      rw p.0 (not_stops cs (digit_step base acc c) (at + 1) i p.1 ∙ ap NotDigit e)

  -- 9 at `i`, exactly when the characters before `i` read and the one at `i` is a digit not below the base whose product still fits
  pub nine_exact : (run : List ℕ) (i : ℕ) → (digits_of limit base run ≡ NotDigit i) ↔ StopsAt limit base 0 run turned.NotDigit i
  nine_exact run i = (
    (λ e.
        let s : Stop 0 0 run (NotDigit i) = rw e at (stops run 0 0 (omega arith)) in
        let q : s.0 ≡ i = omega (arith, s.1.0) in rw q at s.1.1),
    (λ s. let e : 0 + i ≡ i = omega arith in rw e at (not_stops run 0 0 i s)),
  )

  -- 10, exactly when a character passes the limit after those before it read
  pub ten_exact : (run : List ℕ) → (digits_of limit base run ≡ Over) ↔ ((i : ℕ) × StopsAt limit base 0 run turned.Over i)
  ten_exact run = ((λ e. rw e at (stops run 0 0 (omega arith))), (λ s. over_stops run 0 0 s.0 s.1))

  -- the digits themselves are never refused with 7 or 8
  pub never_empty : (run : List ℕ) → digits_of limit base run ≡ Empty → ⊥
  never_empty run e = rw e at (stops run 0 0 (omega arith))

  pub never_underscore : (run : List ℕ) → digits_of limit base run ≡ Underscore → ⊥
  never_underscore run e = rw e at (stops run 0 0 (omega arith))
