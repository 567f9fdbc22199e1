-- A raw string is read exactly where one stands, up to the first quote with its number of hashes: `raw-stands`, `raw-reads`. Assumes nothing.
use Rattle.std.proofs.Common.{Ok}
use Rattle.text.specs.Refusals.{Told}
use Prim.Native.Nat.{ℕ, suc, ◌+◌, ◌-◌, ◌<◌, ◌≤◌}
use native.Mathlib.Omega.{arith}
use mathlib.Core.Bool.{false}
use mathlib.Core.List.{List, ◌∷◌, ◌++◌}
use mathlib.Core.Path.{◌≡◌, ◌∙◌, ap, refl, subst, sym}
use lib.Dec.{eqb, ltb}
use lib.ListN.{drop, get_or, length, length-append, length-drop, take, take-append-drop}
use lib.Seq.{drop-append-add, drop-append_seam, drop_at, drop-drop, get_or_at, get_or-drop, length-take-le, take-append_seam}
use borrow.Author.Tests.{eqb-true, ltb-true}
use Rattle.escapes.specs.declared.answers.Mode.{Mode}
use Rattle.quoted.proofs.Fronts.{begins}
use Rattle.quoted.proofs.RawEnds.{hashes_long, hashes_run, raw_first, raw_only, raw_stops, run_exact}
use Rattle.quoted.specs.Literals.{RawEnds, Raw, hashes}
use Rattle.strings.proofs.RawLaws.{raw_read}
use Rattle.strings.specs.Quoted.{literal}
use Rattle.strings.specs.Raw.{hash, raw_contents, raw_end, raw_of}
use Rattle.strings.specs.declared.literal.Literal.{Literal}
use Rattle.text.proofs.Choices.{cond_cases}
use Rattle.text.specs.Runs.{run}

-- the contents, by the number of hashes
contents_by : (start : ℕ) (s : List ℕ) (h : ℕ) → h ≡ run hash (drop start s) → raw_contents start s ≡ take (raw_end h (drop (start + h + 1) s)) (drop (start + h + 1) s)
unfolding raw_contents
contents_by start s h e = rw (sym e)

-- ---- what is read stands there

-- what the search finds behind the opening quote
raw_made : (h : ℕ) (v : List ℕ) → raw_end h v < length v → Raw (hashes h ++ 0x22 ∷ v) (take (raw_end h v) v) (drop h (drop (suc (raw_end h v)) v))
raw_made h v i =
    let k = raw_end h v in
    let t = drop h (drop (suc k) v) in
    let e : take k v ++ 0x22 ∷ (hashes h ++ t) ≡ v = ap (λ (x : List ℕ). take k v ++ x) (sym (raw_stops h v i)) ∙ take-append-drop k v in
    let l : length (take k v) ≡ k = length-take-le k v (omega arith) in
    record {
      count = h;
      split = ap (λ (x : List ℕ). hashes h ++ 0x22 ∷ x) (sym e);
      first = λ j p x. raw_first h v j (omega arith) (subst (λ (y : List ℕ). RawEnds h (drop j y)) e x);
    }

-- what was read from the place `start` on, with h hashes
raw_found : (start : ℕ) (s : List ℕ) (h : ℕ) → h ≡ run hash (drop start s) → get_or s (start + h) 0 ≡ 0x22 → start + h + 1 + raw_end h (drop (start + h + 1) s) < length s
    → Raw (drop start s) (raw_contents start s) (drop (start + h + 1 + raw_end h (drop (start + h + 1) s) + 1 + h) s)
raw_found start s h e q i =
    let v = drop (start + h + 1) s in
    let k = raw_end h v in
    let w : drop start s ≡ hashes h ++ 0x22 ∷ v =
    hashes_run h (drop start s) (omega arith) ∙ ap (λ (x : List ℕ). hashes h ++ x) (drop-drop h start s ∙ begins s (start + h) 0x22 (omega arith) q)
    in
    let n : start + h + 1 + (suc k + h) ≡ start + h + 1 + k + 1 + h = omega arith in
    let t : drop h (drop (suc k) v) ≡ drop (start + h + 1 + k + 1 + h) s =
    drop-drop h (suc k) v ∙ drop-drop (suc k + h) (start + h + 1) s ∙ ap (λ (x : ℕ). drop x s) n
    in
    let r = raw_made h v (omega (arith, length-drop (start + h + 1) s)) in
    let r1 = subst (λ (x : List ℕ). Raw x (take k v) (drop h (drop (suc k) v))) (sym w) r in
    let r2 = subst (λ (x : List ℕ). Raw (drop start s) x (drop h (drop (suc k) v))) (sym (contents_by start s h e)) r1 in
    subst (Raw (drop start s) (raw_contents start s)) t r2

-- what is read is a raw string
pub raw_stands : (m : Mode) (start : ℕ) (s : List ℕ) (l : Literal) → raw_of m start s ≡ Ok l → Raw (drop start s) (raw_contents start s) (drop l.len s)
unfolding raw_of
raw_stands m start s l =
    let h = run hash (drop start s) in
    let body = start + h + 1 in
    let k = raw_end h (drop body s) in
    cond_cases (λ (a : Told Literal). a ≡ Ok l → Raw (drop start s) (raw_contents start s) (drop l.len s)) (eqb (get_or s (start + h) 0) 0x22) _ _
    (λ q. cond_cases (λ (a : Told Literal). a ≡ Ok l → Raw (drop start s) (raw_contents start s) (drop l.len s)) (ltb (body + k) (length s)) _ _
    (λ t e. let i : literal (body + k + 1 + h) body (body + k) (body + k - body) false ≡ l = cc in
    subst (λ (x : Literal). Raw (drop start s) (raw_contents start s) (drop x.len s)) i
    (raw_found start s h refl (eqb-true (get_or s (start + h) 0) 0x22 q) (ltb-true (body + k) (length s) t)))
    (λ t e. let z : ◌≡◌ {A = ℕ} 0 1 = cc in absurd (omega arith)))
    (λ q e. let z : ◌≡◌ {A = ℕ} 0 1 = cc in absurd (omega arith))

-- ---- the other way round

-- what is read where a raw string with the contents d stands, and t behind it
pub record Raw-as (m : Mode) (start : ℕ) (s d t : List ℕ) : Type 0 where
  pub told : Literal
  pub read : raw_of m start s ≡ Ok told
  pub contents : raw_contents start s ≡ d
  pub behind : drop told.len s ≡ t
  pub within : told.len ≤ length s

module _ (m : Mode) (start : ℕ) (s d t : List ℕ) (h : ℕ) (split : drop start s ≡ hashes h ++ 0x22 ∷ (d ++ 0x22 ∷ (hashes h ++ t))) where
  -- what stands behind the opening quote
  abbrev rest : List ℕ
  rest = d ++ 0x22 ∷ (hashes h ++ t)

  -- the reader counts h hashes
  count_is : h ≡ run hash (drop start s)
  count_is = sym (ap (run hash) split ∙ run_exact h rest)

  -- it searches what stands behind the opening quote
  rest_is : drop (start + h + 1) s ≡ rest
  rest_is =
      let n : start + h + 1 ≡ start + (length (hashes h) + 1) = omega (arith, hashes_long h) in
      ap (λ (x : ℕ). drop x s) n ∙ sym (drop-drop (length (hashes h) + 1) start s) ∙ ap (drop (length (hashes h) + 1)) split ∙ drop-append-add (hashes h) (0x22 ∷ rest) 1

  -- which it finds
  quote_is : get_or s (start + h) 0 ≡ 0x22
  quote_is = sym (get_or-drop start s h 0) ∙ ap (λ (x : List ℕ). get_or x h 0) split ∙ get_or_at (hashes h) 0x22 rest 0 h (hashes_long h)

  -- how long that is
  rest_long : length rest ≡ length d + suc (h + length t)
  rest_long = omega (arith, length-append d (0x22 ∷ (hashes h ++ t)), length-append (hashes h) t, hashes_long h)

  -- and that it lies within s
  all_long : start + h + 1 + length rest ≤ length s
  all_long = omega (arith, length-drop start s, ap length split, length-append (hashes h) (0x22 ∷ rest), hashes_long h)

  module _ (first : (k : ℕ) → k < length d → RawEnds h (drop k (d ++ 0x22 ∷ (hashes h ++ t))) → ⊥) where
    -- the search stops behind the contents
    end_is : length d ≡ raw_end h (drop (start + h + 1) s)
    end_is = sym (ap (raw_end h) rest_is ∙ raw_only h rest (length d) (omega (arith, rest_long)) (t, drop-append_seam d (0x22 ∷ (hashes h ++ t))) first)

    -- so these are the contents
    contents_are : raw_contents start s ≡ d
    contents_are =
        contents_by start s h count_is ∙ ap (λ (x : ℕ). take x (drop (start + h + 1) s)) (sym end_is) ∙ ap (take (length d)) rest_is ∙ take-append_seam d (0x22 ∷ (hashes h ++ t))

    -- and t stands behind
    behind_is : drop (start + h + 1 + length d + 1 + h) s ≡ t
    behind_is =
        let n : start + h + 1 + length d + 1 + h ≡ start + h + 1 + (length d + suc h) = omega arith in
        ap (λ (x : ℕ). drop x s) n
        ∙ sym (drop-drop (length d + suc h) (start + h + 1) s)
        ∙ ap (drop (length d + suc h)) rest_is
        ∙ drop-append-add d (0x22 ∷ (hashes h ++ t)) (suc h)
        ∙ drop_at (hashes h) t h (hashes_long h)

    -- all together
    read_as : Raw-as m start s d t
    read_as =
        let k = length d in
        record {
          told = literal (start + h + 1 + k + 1 + h) (start + h + 1) (start + h + 1 + k) (start + h + 1 + k - (start + h + 1)) false;
          read = raw_read m start s h count_is k end_is quote_is (omega (arith, rest_long, all_long));
          contents = contents_are;
          behind = behind_is;
          within = omega (arith, rest_long, all_long);
        }

-- a raw string is read
pub raw_reads : (m : Mode) (start : ℕ) (s d t : List ℕ) → Raw (drop start s) d t → Raw-as m start s d t
raw_reads m start s d t x = read_as m start s d t x.count x.split (λ k h. x.first k (omega arith))
