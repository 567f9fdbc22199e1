-- A name ends between two characters: where it stands in UTF-8, UTF-8 stands behind it (`name-cut`). Assumes nothing.
use Prim.Native.Nat.{ℕ, suc, ◌+◌, ◌<◌}
use native.Mathlib.Omega.{arith}
use mathlib.Core.Bool.{Bool, true}
use mathlib.Core.List.{List, ◌∷◌, ◌++◌, append_assoc}
use mathlib.Core.Path.{◌≡◌, ◌∙◌, ap, refl, subst, sym}
use lib.Dec.{eqb}
use lib.ListN.{drop, length, length-append}
use lib.Seq.{drop-append_seam}
use borrow.Author.Tests.{eqb-false}
use Rattle.text.proofs.Choices.{cond_cases}
use Rattle.text.proofs.Utf8Agree.{char_encode, char_pos, decode_encode}
use Rattle.text.specs.Classes.{ident_raw}
use Rattle.text.specs.Utf8.{Encoded, Scalar, code_of, encode}
use Rattle.text.specs.Utf8.Encoded.{ends, next}
use Rattle.names.proofs.Agree.{name_agrees, raw_agrees}
use Rattle.names.specs.Identifiers.{name_len, plain_of, raw_of, skip_identifier_of}
use Rattle.names.specs.Names.{IsName, IsRawName, Run}
use Rattle.names.specs.Names.Run.{none, more}
use Rattle.names.specs.Characters.{chars}
use Rattle.names.specs.Starts.{begins_raw, begins_string}
use Rattle.names.specs.declared.Identifier.{Identifier}
use Rattle.names.specs.declared.Identifier.TheVariants.{Missing, Name, RawName}
use Rattle.scanned.proofs.Boundaries.{ascii_behind}

-- behind a character that is known
behind-char : {t : List ℕ} → Encoded t → (c : ℕ) (w : List ℕ) → Scalar c → t ≡ encode c ++ w → Encoded w
behind-char ends c w sc q = absurd (omega (arith, ap length q, length-append (encode c) w, char_pos (char_encode c sc)))
behind-char (next d {s = v} sd e) c w sc q =
    let same : d ≡ c = sym (decode_encode d v sd) ∙ ap code_of q ∙ decode_encode c w sc in
    let r : v ≡ w = sym (drop-append_seam (encode d) v) ∙ ap (drop (length (encode d))) q ∙ ap (λ (x : ℕ). drop (length (encode x)) (encode c ++ w)) same ∙ drop-append_seam (encode c) w in
    subst Encoded r e

-- behind a run of them
behind-run : {p : ℕ → Bool} {u : List ℕ} → Run p u → (v : List ℕ) → Encoded (u ++ v) → Encoded v
behind-run none v e = e
behind-run (more c {t} sc h r) v e = behind-run r v (behind-char e c (t ++ v) sc (append_assoc (encode c) t v))

-- behind a name
name_rest : (s : List ℕ) (n : ℕ) → IsName s n → Encoded s → Encoded (drop n s)
name_rest s n i e =
    let whole : List ℕ = encode i.first ++ i.next in
    let q : s ≡ encode i.first ++ (i.next ++ i.rest) = i.split ∙ append_assoc (encode i.first) i.next i.rest in
    let r : Encoded i.rest = behind-run i.goes-on i.rest (behind-char e i.first (i.next ++ i.rest) i.scalar q) in
    subst Encoded (sym (ap (λ (x : ℕ). drop x s) i.size ∙ ap (drop (length whole)) i.split ∙ drop-append_seam whole i.rest)) r

-- behind a raw name
raw_rest : (s : List ℕ) (n : ℕ) → IsRawName s n → Encoded s → Encoded (drop n s)
raw_rest s n i e =
    let d : Encoded (i.next ++ i.rest) = ascii_behind 0x23 (i.next ++ i.rest) (ascii_behind 0x72 (0x23 ∷ i.next ++ i.rest) (subst Encoded i.split e) (omega arith)) (omega arith) in
    let r : Encoded i.rest = behind-run i.goes-on i.rest d in
    let z : n ≡ suc (suc (length i.next)) = i.size ∙ omega arith in
    subst Encoded (sym (ap (λ (x : ℕ). drop x s) z ∙ ap (drop (suc (suc (length i.next)))) i.split ∙ drop-append_seam i.next i.rest)) r

-- UTF-8 stands behind a name, raw or not
abbrev pub Rest : List ℕ → Identifier → Type 0
Rest s Missing = Unit {0}
Rest s (Name n) = Encoded (drop n s)
Rest s (RawName n) = Encoded (drop n s)

plain_rest : (s : List ℕ) → Encoded s → Rest s (plain_of s)
unfolding plain_of
plain_rest s e =
    cond_cases (Rest s) (eqb (name_len s) 0) Missing (Name (name_len s)) (λ q. tt)
    (λ q. let f = eqb-false (name_len s) 0 q in name_rest s (name_len s) ((name_agrees s (name_len s) (positive (name_len s) f)).0 refl) e)
  where
    positive : (n : ℕ) → (n ≡ 0 → ⊥) → 0 < n
    positive n f = omega arith

raw_named : (s : List ℕ) → Encoded s → begins_raw s ≡ true → Rest s (raw_of s)
unfolding raw_of
raw_named s e b =
    let n = chars ident_raw (drop 2 s) in
    cond_cases (Rest s) (eqb n 0) Missing (RawName (2 + n)) (λ q. tt) (λ q. raw_rest s (2 + n) ((raw_agrees s (2 + n)).0 (b, rw q)) e)

-- whatever stands there
pub name_cut : (s : List ℕ) → Encoded s → Rest s (skip_identifier_of s)
unfolding skip_identifier_of
name_cut s e =
    cond_cases (Rest s) (begins_string s) _ _ (λ q. tt)
    (λ q. cond_cases (Rest s) (begins_raw s) _ _ (λ b. raw_named s e b) (λ b. plain_rest s e))
