-- A reading step by step: what it comes to by each answer of the token reader. Assumes nothing.
use Prim.Native.Nat.{◌+◌, ◌-◌, ◌<◌, ◌≤◌, suc, zero, ℕ}
use native.Mathlib.Nat.{not-suc-le-zero}
use native.Mathlib.Omega.{arith}
use mathlib.Core.Bool.{Bool}
use mathlib.Core.List.{List, [], ◌∷◌}
use mathlib.Core.Path.{◌∙◌, ◌≡◌, ap, refl, sym}
use lib.ListN.{drop, drop_of_length-le, length}
use lib.Seq.{drop-drop}
use Rattle.reading.specs.Owed.{Laws}
use Rattle.reading.specs.Readings.{Reading, place, placed, read_from, read_part}
use Rattle.reading.specs.Readings.Reading.{broken, complete, entry}
use Rattle.reading.specs.Tokens.{Answer, Token, by_answer, reach, tokens, tokens_from}
use Rattle.reading.specs.Tokens.Answer.{refuse, stop, token}
use Rattle.reading.specs.Tokens.Tokens.{done, fault, next}
use Rattle.rows.specs.declared.Entry.{Entry}
use Rattle.text.specs.Refusals.{placed_behind}
use Rattle.text.specs.declared.refusal.Refusal.{Refusal}

-- ---- endings tell themselves apart

pub not_complete : {e : Entry} {r : Reading} {X : Type 0} → complete ≡ entry e r → X
not_complete {e} {r} h = let z : ◌≡◌ {A = ℕ} 0 1 = cc in absurd (omega arith)

pub not_broken : {d : Refusal} {e : Entry} {r : Reading} {X : Type 0} → broken d ≡ entry e r → X
not_broken {d} {e} {r} h = let z : ◌≡◌ {A = ℕ} 0 1 = cc in absurd (omega arith)

-- ---- bytes passed over

module _ (tok : List ℕ → Answer) where
  passed : (s : List ℕ) (n : ℕ) → tokens_from tok s n ≡ tokens tok (drop n s)
  unfolding tokens_from
  passed [] zero = refl
  passed [] (suc n) = refl
  passed (a ∷ s) zero = refl
  passed (a ∷ s) (suc n) = passed s n

  pub behind_first : (a : ℕ) (s : List ℕ) (n : ℕ) → 0 < n → tokens_from tok s (n - 1) ≡ tokens tok (drop n (a ∷ s))
  behind_first a s zero h = absurd (not-suc-le-zero h)
  behind_first a s (suc n) h = let z : suc n - 1 ≡ n = omega arith in rw z (passed s n)

pub drop_on : (n m k : ℕ) (s : List ℕ) → n + m ≡ k → drop m (drop n s) ≡ drop k s
drop_on n m k s h = drop-drop m n s ∙ ap (λ (j : ℕ). drop j s) h

module _ (tok : List ℕ → Answer) (quiet : ℕ → Bool) (laws : Laws tok quiet) where
  -- ---- the tokens of a part, by the answer at its front
  pub tokens_token : (s : List ℕ) (t : Token) → tok s ≡ token t → tokens tok s ≡ next t (tokens tok (drop (reach t) s))
  unfolding tokens_from
  tokens_token [] t h = let z : ◌≡◌ {A = Answer} stop (token t) = sym laws.nil ∙ h in cc
  tokens_token (a ∷ s) t h =
      let pos : 0 < t.len = laws.grows (a ∷ s) t h in
      let e : by_answer (tok (a ∷ s)) (λ n. tokens_from tok s (n - 1)) ≡ next t (tokens_from tok s (reach t - 1)) = rw h in
      e ∙ ap (next t) (behind_first tok a s (reach t) (omega arith))

  pub tokens_stop : (s : List ℕ) → tok s ≡ stop → tokens tok s ≡ done
  unfolding tokens_from
  tokens_stop [] h = refl
  tokens_stop (a ∷ s) h = rw h

  pub tokens_refuse : (s : List ℕ) (d : Refusal) → tok s ≡ refuse d → tokens tok s ≡ fault d
  unfolding tokens_from
  tokens_refuse [] d h = let z : ◌≡◌ {A = Answer} stop (refuse d) = sym laws.nil ∙ h in cc
  tokens_refuse (a ∷ s) d h = rw h

  -- ---- the reading of a part, by the answer at its front
  pub read_token : (at : ℕ) (s : List ℕ) (t : Token) → tok s ≡ token t → read_part tok at s ≡ entry (placed at t) (read_part tok (at + reach t) (drop (reach t) s))
  unfolding place
  read_token at s t h = ap (place at) (tokens_token s t h)

  pub read_stop : (at : ℕ) (s : List ℕ) → tok s ≡ stop → read_part tok at s ≡ complete
  unfolding place
  read_stop at s h = ap (place at) (tokens_stop s h)

  pub read_refuse : (at : ℕ) (s : List ℕ) (d : Refusal) → tok s ≡ refuse d → read_part tok at s ≡ broken (placed_behind at d)
  unfolding place
  read_refuse at s d h = ap (place at) (tokens_refuse s d h)

  -- ---- a reading that begins with an entry: what the token reader answered
  pub record First (at : ℕ) (s : List ℕ) (e : Entry) (r : Reading) : Type 0 where
    pub this : Token
    pub answer : tok s ≡ token this
    pub entry_is : e ≡ placed at this
    pub rest_is : r ≡ read_part tok (at + reach this) (drop (reach this) s)

  pub first : (at : ℕ) (s : List ℕ) (e : Entry) (r : Reading) → read_part tok at s ≡ entry e r → First at s e r
  first at s e r h = go (tok s) refl
    where
      go : (a : Answer) → tok s ≡ a → First at s e r
      go stop q = not_complete (sym (read_stop at s q) ∙ h)
      go (refuse d) q = not_broken (sym (read_refuse at s d q) ∙ h)
      go (token t) q =
          let w : entry (placed at t) (read_part tok (at + reach t) (drop (reach t) s)) ≡ entry e r = sym (read_token at s t q) ∙ h in
          record { this = t; answer = q; entry_is = cc; rest_is = cc }

-- ---- the same from a place of a whole text on: what a loop goes by

module _ (tok : List ℕ → Answer) (quiet : ℕ → Bool) (laws : Laws tok quiet) (text : List ℕ) (at : ℕ) where
  pub from_token : (t : Token) → tok (drop at text) ≡ token t → read_from tok text at ≡ entry (placed at t) (read_from tok text (at + reach t))
  from_token t h =
      read_token tok quiet laws at (drop at text) t h
      ∙ ap (λ (s : List ℕ). entry (placed at t) (read_part tok (at + reach t) s)) (drop_on at (reach t) (at + reach t) text refl)

  pub from_stop : tok (drop at text) ≡ stop → read_from tok text at ≡ complete
  from_stop h = read_stop tok quiet laws at (drop at text) h

  pub from_refuse : (d : Refusal) → tok (drop at text) ≡ refuse d → read_from tok text at ≡ broken (placed_behind at d)
  from_refuse d h = read_refuse tok quiet laws at (drop at text) d h

  pub from_end : length text ≤ at → read_from tok text at ≡ complete
  from_end h = from_stop (ap tok (drop_of_length-le text h) ∙ laws.nil)
