-- Laws of reading an integer: what the parts that the code has in hand make up, and places within the part. Assumes nothing.
use Rattle.std.proofs.Common.{Ok, Err}
use Rattle.text.specs.Refusals.{Told}
use Prim.Native.Nat.{◌+◌, ◌-◌, ◌<◌, ◌≤◌, ℕ}
use native.Mathlib.Omega.{arith}
use mathlib.Core.Bool.{Bool}
use mathlib.Core.List.{List, [], ◌∷◌}
use mathlib.Core.Path.{◌≡◌, sym}
use lib.Dec.{eqb}
use lib.ListN.{drop, length, length-drop, take}
use lib.Seq.{length-take-le}
use borrow.Author.Tests.{ne_eqb}
use Rattle.digits.proofs.Laws.{place_of, place_le}
use Rattle.digits.specs.Digits.{digits_of, run_of}
use Rattle.digits.specs.declared.Run.{Run}
use Rattle.digits.specs.declared.Run.TheVariants.{Value, Empty, Underscore, NotDigit, Over}
use Rattle.integers.proofs.Fronts.{front_le}
use Rattle.integers.proofs.Suffixes.{suffix_le}
use Rattle.integers.specs.Front.{front_of}
use Rattle.integers.specs.Integer.{any_as, any_of, behind_run, chosen_of, numeral_of, typed_as, typed_of}
use Rattle.integers.specs.Width.{code_of, limit_at, suffix_of, widest}
use Rattle.integers.specs.declared.front.Front.{Front}
use Rattle.integers.specs.declared.ident.Found.{Found}
use Rattle.integers.specs.declared.width.Width.{Width}
use Rattle.text.proofs.Choices.{bool_cases, either}
use Rattle.text.proofs.RunLaws.{run_le}
use Rattle.text.specs.Classes.{int_char}
use Rattle.text.specs.Runs.{run}

-- ---- digits and suffix

pub part_length : (t : List ℕ) → length (take (run int_char t) t) ≡ run int_char t
part_length t = length-take-le (run int_char t) t (run_le int_char t)

module _ (asked : ℕ) (minus : Bool) (base : ℕ) (t : List ℕ) (n : ℕ) (f : Found) (en : n ≡ run int_char t) (ef : f ≡ suffix_of (drop n t)) where
  held : length (take n t) ≡ n
  held = rw en (part_length t)

  pub judged_said : (r : Run) → r ≡ run_of (limit_at (chosen_of f.code asked) minus) base (take n t)
      → behind_run f.code (n + f.end) r ≡ numeral_of asked minus base t
  unfolding numeral_of
  judged_said r er = rw (sym en, sym ef, held, er)

-- ---- places

-- a numeral is not empty and ends within n bytes, and a refusal's place lies within them
abbrev pub Within : ℕ → Told (ℕ × ℕ × ℕ) → Type 0
Within n (Ok (v, found, end)) = (0 < end) × (end ≤ n)
Within n (Err r) = r.place ≤ n

-- a run that reads is not empty, and 9 stands within it
abbrev Held : ℕ → Run → Type 0
Held n (Value v) = 0 < n
Held n Empty = Unit
Held n Underscore = Unit
Held n (NotDigit at) = at ≤ n
Held n Over = Unit

digits_held : (n : ℕ) (r : Run) → 0 < n → place_of r ≤ n → Held n r
digits_held n (Value v) z h = z
digits_held n Empty z h = tt
digits_held n Underscore z h = tt
digits_held n (NotDigit at) z h = h
digits_held n Over z h = tt

run_held : (limit base : ℕ) (part : List ℕ) → Held (length part) (run_of limit base part)
unfolding run_of
run_held limit base [] = tt
run_held limit base (c ∷ cs) =
    either (bool_cases (eqb c 0x5f)) (λ a. rw a tt)
    (λ a. rw a (digits_held (length (c ∷ cs)) (digits_of limit base (c ∷ cs)) (omega arith) (omega (arith, place_le limit base 0 0 (c ∷ cs)))))

behind_within : (found end n m : ℕ) (r : Run) → Held n r → n ≤ end → end ≤ m → Within m (behind_run found end r)
behind_within found end n m (Value v) h a b = (omega arith, b)
behind_within found end n m Empty h a b = b
behind_within found end n m Underscore h a b = omega arith
behind_within found end n m (NotDigit at) h a b = omega arith
behind_within found end n m Over h a b = b

pub numeral_within : (asked : ℕ) (minus : Bool) (base : ℕ) (t : List ℕ) → Within (length t) (numeral_of asked minus base t)
unfolding numeral_of
numeral_within asked minus base t =
    let n = run int_char t in
    let f : Found = suffix_of (drop n t) in
    let l : length (take n t) + f.end ≤ length t = omega (arith, part_length t, run_le int_char t, suffix_le (drop n t), length-drop n t) in
    behind_within f.code (length (take n t) + f.end) (length (take n t)) (length t) (run_of (limit_at (chosen_of f.code asked) minus) base (take n t)) (run_held (limit_at (chosen_of f.code asked) minus) base (take n t)) (omega arith) l

-- ---- the whole

module _ (s : List ℕ) (some : length s ≡ 0 → ⊥) (g : Front) (eg : g ≡ front_of s) where
  pub typed_said : (width : Width) (asked : ℕ) → asked ≡ code_of width → (r : Told (ℕ × ℕ × ℕ)) → r ≡ numeral_of asked g.minus g.base (drop g.end s)
      → typed_as asked g.minus g.end r ≡ typed_of width s
  unfolding typed_of
  typed_said width asked ea r er = rw (ne_eqb (length s) 0 some, sym eg, sym ea, er)

  pub any_said : (asked : ℕ) → asked ≡ widest g.minus → (r : Told (ℕ × ℕ × ℕ)) → r ≡ numeral_of asked g.minus g.base (drop g.end s)
      → any_as g.minus g.end r ≡ any_of s
  unfolding any_of
  any_said asked ea r er = rw (ne_eqb (length s) 0 some, sym eg, er, ea)

  pub front_within : g.end ≤ length s
  front_within = rw eg (front_le s)

  -- what was read behind the front ends within the part
  pub read_within : (asked : ℕ) (r : Told (ℕ × ℕ × ℕ)) → r ≡ numeral_of asked g.minus g.base (drop g.end s) → Within (length s - g.end) r
  read_within asked r er = rw (er, sym (length-drop g.end s)) (numeral_within asked g.minus g.base (drop g.end s))
