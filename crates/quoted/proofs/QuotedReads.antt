-- A quoted string is read exactly where a body and its closing quote stand, and decodes to what the body does: `quoted-inside`, `inside-quoted`. Assumes
-- nothing.
use Rattle.std.proofs.Common.{Ok}
use Rattle.text.specs.Refusals.{Told}
use Prim.Native.Nat.{ℕ, suc, ◌≤◌}
use native.Mathlib.Omega.{arith}
use mathlib.Core.Bool.{false}
use mathlib.Core.List.{List}
use mathlib.Core.Path.{◌≡◌, ◌∙◌, ap, subst, sym}
use lib.Dec.{ltb}
use lib.ListN.{drop, get_or, length, length-drop}
use lib.Seq.{drop-drop}
use borrow.Author.Tests.{lt-ltb, ltb-true}
use Rattle.escapes.specs.declared.answers.Mode.{Mode}
use Rattle.quoted.proofs.BodyReads.{inside_reads}
use Rattle.quoted.proofs.Fronts.{stands}
use Rattle.quoted.proofs.Puts.{body_inside}
use Rattle.quoted.specs.Bodies.{Inside}
use Rattle.strings.proofs.QuotedLaws.{run_to}
use Rattle.strings.proofs.Wholes.{measured_read, whole_body}
use Rattle.strings.specs.Pieces.{body_of, decoded_of, unquoted}
use Rattle.strings.specs.Quoted.{measured, quoted_of}
use Rattle.strings.specs.declared.literal.Literal.{Literal}
use Rattle.text.proofs.Choices.{cond_cases}
use Rattle.text.specs.Runs.{run}

-- ---- what is read stands there

-- a quoted string that was read: its body, its end, and how many bytes are decoded
pub record Stands (m : Mode) (start : ℕ) (s : List ℕ) (l : Literal) : Type 0 where
  pub inside : Inside m (drop start s) (decoded_of (body_of m (drop start s))) (drop l.len s)
  pub within : l.len ≤ length s
  pub count : l.decoded ≡ length (decoded_of (body_of m (drop start s)))

-- by what its body comes to
body_stands : (m : Mode) (start : ℕ) (s : List ℕ) (l : Literal) → start ≤ length s → measured (body_of m (drop start s)) start start start 0 false ≡ Ok l → Stands m start s l
body_stands m start s l h e =
    let r = body_inside m (drop start s) start start start 0 false l e in
    let k = measured_read (body_of m (drop start s)) (drop start s) start start start 0 false l (whole_body m (drop start s)) e in
    let d = length-drop start s in
    let q : drop r.0 (drop start s) ≡ drop l.len s = drop-drop r.0 start s ∙ ap (λ (x : ℕ). drop x s) (sym r.2) in
    record { inside = subst (Inside m (drop start s) (decoded_of (body_of m (drop start s)))) q r.3; within = omega (arith, r.1, r.2); count = omega (arith, k.count) }

-- what is read is a quoted string
pub quoted_inside : (m : Mode) (start : ℕ) (s : List ℕ) (l : Literal) → quoted_of m start s ≡ Ok l → Stands m start s l
unfolding quoted_of
quoted_inside m start s l =
    cond_cases (λ (a : Told Literal). a ≡ Ok l → Stands m start s l) (ltb (run unquoted (drop start s)) (length (drop start s))) _ _
    (λ t e. body_stands m start s l (omega (arith, ltb-true (run unquoted (drop start s)) (length (drop start s)) t, length-drop start s)) e)
    (λ t e. let z : ◌≡◌ {A = ℕ} 0 1 = cc in absurd (omega arith))

-- ---- the other way round

-- what is read where a body stands that decodes to d, and t behind it
pub record Read-as (m : Mode) (start : ℕ) (s d t : List ℕ) : Type 0 where
  pub literal : Literal
  pub read : quoted_of m start s ≡ Ok literal
  pub decodes : decoded_of (body_of m (drop start s)) ≡ d
  pub behind : drop literal.len s ≡ t
  pub within : literal.len ≤ length s
  pub count : literal.decoded ≡ length d

-- where a quote stands, it is the body that is judged
pub judged : (m : Mode) (start : ℕ) (s : List ℕ) (k : ℕ) → get_or (drop start s) k 0 ≡ 0x22 → quoted_of m start s ≡ measured (body_of m (drop start s)) start start start 0 false
unfolding quoted_of
judged m start s k e =
    rw (lt-ltb (run unquoted (drop start s)) (length (drop start s)) (omega (arith, run_to (drop start s) k e, stands (drop start s) k 0x22 (omega arith) e)))

-- a quoted string is read
pub inside_quoted : (m : Mode) (start : ℕ) (s d t : List ℕ) → Inside m (drop start s) d t → Read-as m start s d t
inside_quoted m start s d t x =
    let r = inside_reads m x in
    let k = r.0 in
    let a = r.4 start start start 0 false in
    let l = a.0 in
    let w = measured_read (body_of m (drop start s)) (drop start s) start start start 0 false l (whole_body m (drop start s)) a.1 in
    let h = stands (drop start s) k 0x22 (omega arith) r.1 in
    record {
      literal = l;
      read = judged m start s k r.1 ∙ a.1;
      decodes = r.3;
      behind = ap (λ (i : ℕ). drop i s) a.2 ∙ sym (drop-drop (suc k) start s) ∙ sym r.2;
      within = omega (arith, a.2, length-drop start s);
      count = omega (arith, w.count, ap length r.3);
    }
