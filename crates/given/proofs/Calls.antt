-- Each call refuses with one of the numbers 1, 2 and 4 to 29, and so never with 3 (document 01, "Refusal numbers"; CR 5); with a reason of 1 to 8 where the
-- number is 13, and 0 elsewhere (CR 1). Assumes nothing.
use Rattle.std.proofs.Common.{Err}
use Prim.Native.Nat.{ℕ}
use mathlib.Core.Bool.{Bool, cond, true, true≢false}
use mathlib.Core.List.{List}
use mathlib.Core.Path.{◌≡◌, ap, subst, sym, ◌∙◌}
use lib.Dec.{eqb}
use lib.ListN.{drop}
use borrow.Author.Tests.{eq-eqb, eqb-true, ne_eqb}
use Rattle.text.proofs.Choices.{and_true}
use Rattle.text.proofs.ClassLaws.{within_true}
use Rattle.text.specs.Judged.{behind_front, place_fits}
use Rattle.text.specs.Utf8.{In}
use Rattle.text.specs.declared.refusal.Refusal.{Refusal}
use Rattle.cursor.specs.Skip.{cursor_fits}
use Rattle.cursor.specs.declared.ParserCursor.{ParserCursor}
use Rattle.integers.specs.declared.width.Width.{Width}
use Rattle.rows.specs.Rows.{room_of}
use Rattle.structs.specs.declared.kinds.NewtypeMode.{NewtypeMode}
use Rattle.structs.specs.declared.kinds.TupleMode.{TupleMode}
use Rattle.read.specs.Read.{read_answer}
use Rattle.repair.specs.Repair.{repair_of}
use Rattle.sarridok.specs.Contents.{contents_of, decoded_answer}
use Rattle.sarridok.specs.Skip.{skip_of}
use Rattle.sarridok.specs.StructKind.{struct_kind_of}
use Rattle.sarridok.specs.Typed.{integer_of}
use Rattle.sarridok.specs.Walked.{behind_walk_front, walk_of}
use Rattle.given.specs.Given.{Given, given, reasoned, within}
use Rattle.given.proofs.Front.{answered, behind_given, behind-judged}
use Rattle.given.proofs.Owns.{contents_own, decoded_own, or_unfit, skip_own, struct_own, walk_own}
use Rattle.given.proofs.Repairs.{fitted_own, repaired_own}
use Rattle.given.proofs.Typed.{integer_own}

-- ---- calls over a text

pub skip_given : (text : List ℕ) (c : ParserCursor) (r : Refusal) → skip_of text c ≡ Err r → Given r
unfolding skip_of behind_front
skip_given text c r = answered _ r (behind-judged text _ (or_unfit (cursor_fits text c) _ (skip_own text c)))

pub integer_given : (text : List ℕ) (place : ℕ) (width : Width) (r : Refusal) → integer_of text place width ≡ Err r → Given r
unfolding integer_of behind_front
integer_given text place width r = answered _ r (behind-judged text _ (or_unfit (place_fits text place) _ (integer_own place width (drop place text))))

pub struct_given : (text : List ℕ) (place : ℕ) (newtype : NewtypeMode) (tuple : TupleMode) (r : Refusal) → struct_kind_of text place newtype tuple ≡ Err r → Given r
unfolding struct_kind_of behind_front
struct_given text place newtype tuple r = answered _ r (behind-judged text _ (or_unfit (place_fits text place) _ (struct_own place (drop place text) newtype tuple)))

pub read_given : (text : List ℕ) (room : ℕ) (r : Refusal) → read_answer text room ≡ Err r → Given r
unfolding read_answer
read_given text room r = answered _ r (behind-judged text _ (fitted_own (room_of room) text))

-- ---- calls over a tape

pub contents_given : (text tape : List ℕ) (count entry : ℕ) (r : Refusal) → contents_of text tape count entry ≡ Err r → Given r
unfolding contents_of
contents_given text tape count entry r = answered _ r (behind-judged text _ (contents_own text tape count entry))

pub decoded_given : (text tape : List ℕ) (count entry room : ℕ) (r : Refusal) → decoded_answer text tape count entry room ≡ Err r → Given r
unfolding decoded_answer
decoded_given text tape count entry room r = answered _ r (behind-judged text _ (decoded_own text tape count entry room))

pub walk_given : (text tape : List ℕ) (count limit links : ℕ) (r : Refusal) → walk_of text tape count limit links ≡ Err r → Given r
unfolding walk_of behind_walk_front
walk_given text tape count limit links r = answered _ r (behind_given text _ (walk_own text tape count limit links))

pub repair_given : (tape : List ℕ) (count o a b : ℕ) (text : List ℕ) (r : Refusal) → repair_of tape count o a b text ≡ Err r → Given r
unfolding repair_of
repair_given tape count o a b text r = answered _ r (behind-judged text _ (repaired_own tape count o a b text))

-- ---- 3 is not among them

pub never_three : (r : Refusal) → Given r → r.number ≡ 3 → ⊥
unfolding given within
never_three r h e = true≢false (sym (and_true (given r.number) (reasoned r) h).0 ∙ ap given e)

-- ---- the reason

-- of a refusal that is given
reason_of : (r : Refusal) → Given r → reasoned r ≡ true
reason_of r h = (and_true (given r.number) (reasoned r) h).1

-- 13 has one of the eight
pub reason_13 : (r : Refusal) → Given r → r.number ≡ 13 → In 1 8 r.reason
reason_13 r h e = within_true 1 8 r.reason (subst (λ (b : Bool). cond b (within 1 8 r.reason) (eqb r.reason 0) ≡ true) (eq-eqb r.number 13 e) (reason_of r h))

-- any other number has none
pub reason_none : (r : Refusal) → Given r → (r.number ≡ 13 → ⊥) → r.reason ≡ 0
reason_none r h n = eqb-true r.reason 0 (subst (λ (b : Bool). cond b (within 1 8 r.reason) (eqb r.reason 0) ≡ true) (ne_eqb r.number 13 n) (reason_of r h))
