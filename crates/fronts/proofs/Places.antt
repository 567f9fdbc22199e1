-- The calls at a place of a sound text: 28 exactly where the place is no boundary, or the cursor does not fit. Assumes nothing.
use Rattle.std.proofs.Common.{Err}
use Prim.Native.Nat.{ℕ, ◌≤◌}
use native.Mathlib.Omega.{arith}
use mathlib.Core.Bool.{Bool, cond, false, true, ◌&&◌, ◌||◌}
use mathlib.Core.List.{List}
use mathlib.Core.Logic.{◌↔◌, ◌⊎◌, inl, inr}
use mathlib.Core.Path.{◌≡◌, ◌∙◌, ap, refl}
use lib.Dec.{eqb, leb}
use lib.ListN.{drop}
use borrow.Author.Tests.{eq-eqb, eqb-true, le-leb, leb-true}
use Rattle.text.proofs.Choices.{and_true, either, or_cases, or_true}
use Rattle.text.specs.Judged.{place_fits}
use Rattle.text.specs.Refusals.{Told, unfit}
use Rattle.text.specs.Utf8.{Encoded}
use Rattle.cursor.specs.Cursor.{unclosed_line}
use Rattle.cursor.specs.Skip.{cursor_fits, length_fits, skip_ws_of}
use Rattle.cursor.specs.declared.ParserCursor.{ParserCursor}
use Rattle.integers.specs.declared.width.Width.{Width}
use Rattle.structs.specs.Kinds.{placed_kind}
use Rattle.structs.specs.Structs.{struct_type_of}
use Rattle.structs.specs.declared.kinds.NewtypeMode.{NewtypeMode}
use Rattle.structs.specs.declared.kinds.TupleMode.{TupleMode}
use Rattle.sarridok.specs.Skip.{skip_of}
use Rattle.sarridok.specs.StructKind.{struct_kind_of}
use Rattle.sarridok.specs.Typed.{integer_at, integer_of, placed_at}
use Rattle.given.proofs.Front.{FourTo-told, number-in, told_number}
use Rattle.given.proofs.Owns.{skip_own, struct_own}
use Rattle.given.proofs.Typed.{integer_own}
use Rattle.fronts.specs.Fronts.{Boundary, CursorFits, PlacedOf, Sound}
use Rattle.fronts.proofs.Calls.{integer_front, skip_front, struct_kind_front}
use Rattle.fronts.proofs.Texts.{place_exactly}

-- ---- cursors

-- the whitespace length, as its test says
length_exactly : (c : ParserCursor) → (length_fits c ≡ true) ↔ ((c.last_ws_len ≡ unclosed_line) ⊎ (c.last_ws_len ≤ c.cursor))
length_exactly c = (means, says)
  where
    means : length_fits c ≡ true → (c.last_ws_len ≡ unclosed_line) ⊎ (c.last_ws_len ≤ c.cursor)
    means e = either (or_cases _ _ e) (λ e. inl (eqb-true _ _ e)) (λ e. inr (leb-true _ _ e))

    says : (c.last_ws_len ≡ unclosed_line) ⊎ (c.last_ws_len ≤ c.cursor) → length_fits c ≡ true
    says s =
        either s (λ e. ap (λ (t : Bool). t || leb c.last_ws_len c.cursor) (eq-eqb _ _ e))
        (λ l. ap (λ (t : Bool). eqb c.last_ws_len unclosed_line || t) (le-leb _ _ l) ∙ or_true (eqb c.last_ws_len unclosed_line))

-- a cursor fits a text that is UTF-8 exactly where its places are boundaries, in order, and its whitespace length is not above the place or is the mark
pub cursor_exactly : (text : List ℕ) (c : ParserCursor) → Encoded text → (cursor_fits text c ≡ true) ↔ CursorFits text c
unfolding cursor_fits
cursor_exactly text c x = (means, says)
  where
    means : (place_fits text c.cursor && (place_fits text c.pre_ws_cursor && (leb c.pre_ws_cursor c.cursor && length_fits c))) ≡ true → CursorFits text c
    means e =
        let p = and_true (place_fits text c.cursor) _ e in
        let q = and_true (place_fits text c.pre_ws_cursor) _ p.1 in
        let r = and_true (leb c.pre_ws_cursor c.cursor) (length_fits c) q.1 in
        record {
          place = (place_exactly text c.cursor x).0 p.0;
          pre = (place_exactly text c.pre_ws_cursor x).0 q.0;
          order = leb-true _ _ r.0;
          len = (length_exactly c).0 r.1;
        }

    says : CursorFits text c → (place_fits text c.cursor && (place_fits text c.pre_ws_cursor && (leb c.pre_ws_cursor c.cursor && length_fits c))) ≡ true
    says f =
        rw (
          (place_exactly text c.cursor x).1 f.place,
          (place_exactly text c.pre_ws_cursor x).1 f.pre,
          le-leb c.pre_ws_cursor c.cursor f.order,
          (length_exactly c).1 f.len,
        )

-- ---- one law for the three calls

-- 28 is none of the call's own refusals
not_28 : {X A : Type 0} (own : Told A) → FourTo-told 27 own → own ≡ Err unfit → X
not_28 own h e = absurd (omega (arith, number-in 4 27 unfit (told_number 27 own unfit h e)))

-- a choice by a test that says whether it fits
by_test : {A : Type 0} (t : Bool) (fits : Type 0) (own : Told A) → FourTo-told 27 own → (t ≡ true) ↔ fits → PlacedOf fits (cond t own (Err unfit)) own
by_test true fits own h (f, g) = record { past = λ x. refl; off = (λ e. not_28 own h e, λ n. absurd (n (f refl))); on = λ n. f refl }
by_test false fits own h (f, g) = record { past = λ x. no x; off = (λ e x. no x, λ n. refl); on = λ n. absurd (n refl) }
  where
    no : {X : Type 0} → fits → X
    no x = let z : ◌≡◌ {A = ℕ} 0 1 = cc (g x) in absurd (omega arith)

-- the same of a call that is equal to it
placed : {A : Type 0} (t : Bool) (fits : Type 0) (call own : Told A) → call ≡ cond t own (Err unfit) → FourTo-told 27 own → (t ≡ true) ↔ fits → PlacedOf fits call own
placed t fits call own e h f = rw e (by_test t fits own h f)

-- ---- the calls

-- skip gives 28 exactly where its cursor does not fit
pub skip_placed : (text : List ℕ) (c : ParserCursor) → Sound text → PlacedOf (CursorFits text c) (skip_of text c) (skip_ws_of text c)
skip_placed text c s = placed (cursor_fits text c) _ _ _ ((skip_front text c).past s) (skip_own text c) (cursor_exactly text c s.encoded)

-- integer gives 28 exactly where its place is no boundary
pub integer_placed : (text : List ℕ) (place : ℕ) (width : Width) → Sound text
    → PlacedOf (Boundary text place) (integer_of text place width) (placed_at place (integer_at width (drop place text)))
integer_placed text place width s =
    placed (place_fits text place) _ _ _ ((integer_front text place width).past s) (integer_own place width (drop place text)) (place_exactly text place s.encoded)

-- and so does struct kind
pub struct_kind_placed : (text : List ℕ) (place : ℕ) (newtype : NewtypeMode) (tuple : TupleMode) → Sound text
    → PlacedOf (Boundary text place) (struct_kind_of text place newtype tuple) (placed_kind place (struct_type_of (drop place text) newtype tuple))
struct_kind_placed text place newtype tuple s =
    placed (place_fits text place) _ _ _ ((struct_kind_front text place newtype tuple).past s) (struct_own place (drop place text) newtype tuple) (place_exactly text place s.encoded)
