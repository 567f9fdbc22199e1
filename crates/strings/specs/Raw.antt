-- Raw strings and raw byte strings (document 01, module 4): "A raw string ends at the first quote with its number of hashes."
use Rattle.std.specs.Prelude.{Ok, Err, ℕ, suc, ◌+◌, ◌-◌, List, [], ◌∷◌, Bool, false, cond, ◌&&◌, length, get_or, take, drop, eqb, ltb, leb}
use Rattle.text.specs.Refusals.{Told, expected_string, expected_string_end, expected_byte_string}
use Rattle.strings.specs.declared.literal.Literal.{Literal}
use Rattle.text.specs.declared.refusal.Refusal.{Refusal}
use Rattle.text.specs.Runs.{run}
use Rattle.escapes.specs.declared.answers.Mode.{Mode}
use Rattle.escapes.specs.declared.answers.Mode.TheVariants.{Str, Char, Bytes}
use Rattle.strings.specs.Quoted.{literal}

-- A hash.
abbrev pub hash : ℕ → Bool
hash b = eqb b 0x23

-- How many bytes stand before the first quote with n hashes behind it; all of them where there is none.
unfoldable pub raw_end : ℕ → List ℕ → ℕ
raw_end n [] = 0
raw_end n (b ∷ t) = let rest = raw_end n t in cond (eqb b 0x22 && leb n (run hash t)) 0 (suc rest)

-- 16 or 18 where no quote stands behind the hashes.
abbrev pub missing : Mode → ℕ → Refusal
missing Str place = expected_string place
missing Char place = expected_string place
missing Bytes place = expected_byte_string place

-- The raw string whose hashes begin at `start`.
unfoldable pub raw_of : Mode → ℕ → List ℕ → Told Literal
raw_of m start s =
    let hashes = run hash (drop start s) in
    let body = start + hashes + 1 in
    let end = body + raw_end hashes (drop body s) in
    cond (eqb (get_or s (start + hashes) 0) 0x22)
    (cond (ltb end (length s)) (Ok (literal (end + 1 + hashes) body end (end - body) false)) (Err (expected_string_end body)))
    (Err (missing m (start + hashes)))

-- Its contents.
unfoldable pub raw_contents : ℕ → List ℕ → List ℕ
raw_contents start s =
    let hashes = run hash (drop start s) in
    let body = start + hashes + 1 in
    take (raw_end hashes (drop body s)) (drop body s)
