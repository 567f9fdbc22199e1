-- A scan: the entries counted so far, and what is left to read. Assumes nothing.
use Rattle.text.specs.Refusals.{Told}
use Prim.Native.Nat.{ℕ, ◌-◌}
use native.Mathlib.Omega.{arith}
use mathlib.Core.List.{List, [], ◌++◌, ◌∷◌, append-nil}
use mathlib.Core.Path.{◌≡◌, ap, ap₂, refl, ◌∙◌}
use lib.ListN.{length, length-append, take}
use lib.Seq.{take-append_seam}
use Rattle.rows.specs.declared.Entry.{Entry}
use Rattle.reading.specs.Readings.{Reading, ◌▸◌, end_of, entries, read_part}
use Rattle.tokens.specs.Ron.{ron_token}
use Rattle.arriving.proofs.Fronts.{entries_front}
use Rattle.read.specs.declared.scanned.Scanned.{Scanned}
use Rattle.read.specs.inner.Pass.{scanned_from}
use Rattle.read.proofs.PassLaws.{before_of, scanned_is}
use Rattle.pieces.specs.inner.Scans.{ending_of, scanned_by, scanned_of}

-- entries in front do not change how a reading ends
pub ending_front : (es : List Entry) (r : Reading) → ending_of (es ▸ r) ≡ ending_of r
unfolding ending_of
ending_front [] r = refl
ending_front (e ∷ es) r = ending_front es r

-- all but the last
pub but_last : (es : List Entry) (e : Entry) → take (length (es ++ e ∷ []) - 1) (es ++ e ∷ []) ≡ es
but_last es e =
    let n : length (es ++ e ∷ []) - 1 ≡ length es = omega (arith, length-append es (e ∷ [])) in
    ap (λ (k : ℕ). take k (es ++ e ∷ [])) n ∙ take-append_seam es (e ∷ [])

-- what a part holds, by any way to write its reading as entries and an end
pub scanned_as : (part : List ℕ) (es : List Entry) (r : Reading) → read_part ron_token 0 part ≡ es ▸ r → entries r ≡ [] → scanned_of part ≡ scanned_by es (ending_of r)
unfolding scanned_of
scanned_as part es r h none =
    let all : entries (read_part ron_token 0 part) ≡ es =
    ap entries h ∙ entries_front es r ∙ ap (λ (l : List Entry). es ++ l) none ∙ append-nil es in
    ap₂ scanned_by all (ap ending_of h ∙ ending_front es r)

-- what the first pass of a read says of a part
pub scanned_pass : (part : List ℕ) → scanned_from 0 (read_part ron_token 0 part) ≡ scanned_of part
unfolding scanned_of end_of
scanned_pass part = let r : Reading = read_part ron_token 0 part in scanned_is r 0 0 0 ∙ numbers (omega arith) (last (entries r))
  where
    last : (es : List Entry) → before_of 0 0 es ≡ end_of 0 (take (length es - 1) es)
    last [] = refl
    last (e ∷ es) = let z : length es ≡ length (e ∷ es) - 1 = omega arith in ap (λ (n : ℕ). end_of 0 (take n (e ∷ es))) z

    numbers : {a b c d e : ℕ} {x : Told Unit} → a ≡ b → c ≡ d → ◌≡◌ {A = Scanned} (record { count = a; end = e; before = c; ending = x }) (record { count = b; end = e; before = d; ending = x })
    numbers p q = cc
