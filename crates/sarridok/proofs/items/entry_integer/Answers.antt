use Rattle.std.proofs.Common.{Err}
use native.Mathlib.Omega.{arith}
use mathlib.Core.Path.{◌∙◌, ap, sym}
use mathlib.Core.List.{List}
use Prim.Native.Nat.{ℕ}
use Rattle.text.proofs.JudgeLaws.{place_within}
use Rattle.text.proofs.Lists.{tail_part}
use Rattle.text.specs.Refusals.{at_place}
use Rattle.text.specs.declared.refusal.Refusal.{Refusal}
use Rattle.integers.specs.Width.{width_at}
use Rattle.sarridok.specs.Typed.{integer_at}
use Rattle.sarridok.specs.inner.Items.{at_item, coded_in}
use Rattle.sarridok.proofs.ItemLaws.{entry_other, entry_reads, entry_unfit, names_width}
use Rattle.sarridok.proofs.items.entry_integer.Goals as goal

pub returns-then-not-place_fits : goal.returns-then-not-place_fits
returns-then-not-place_fits c = ap Err (c.at_item.ensures ∙ ap (λ (r : Refusal). at_place r c.args.k) c.unfit.ensures) ∙ entry_unfit c.args.text.now c.args.e c.args.k (sym c.place_fits.ensures ∙ c.if-not-place_fits.true)

pub returns-then-not-names_integer : goal.returns-then-not-names_integer
returns-then-not-names_integer c = ap Err (c.at_item-then-not-names_integer.ensures ∙ ap (λ (r : Refusal). at_place r c.args.k) c.other_kind.ensures) ∙ entry_other c.args.text.now c.args.e c.args.k (sym c.place_fits.ensures ∙ c.if-not-place_fits.false) (sym c.names_integer.ensures ∙ c.if-not-names_integer.true)

pub slice_bounds-integer_in-count : goal.slice_bounds-integer_in-count
slice_bounds-integer_in-count c = omega (arith, place_within c.args.text.now c.args.e.start (sym c.place_fits.ensures ∙ c.if-not-place_fits.false))

pub slice_bounds-integer_in-start : goal.slice_bounds-integer_in-start
slice_bounds-integer_in-start c = omega (arith, place_within c.args.text.now c.args.e.start (sym c.place_fits.ensures ∙ c.if-not-place_fits.false))

pub overflow_cast-e : goal.overflow_cast-e
overflow_cast-e c = omega (arith, (names_width c.args.e (sym c.names_integer.ensures ∙ c.if-not-names_integer.false)).1)

pub integer_in-requires : goal.integer_in-requires
integer_in-requires c = (names_width c.args.e (sym c.names_integer.ensures ∙ c.if-not-names_integer.false)).1

pub returns : goal.returns
returns c = c.integer_in.ensures ∙ ap (λ (t : List ℕ). at_item c.args.k (coded_in c.args.e.detail (integer_at (width_at c.args.e.detail) t))) (tail_part c.args.text.now c.args.e.start) ∙ entry_reads c.args.text.now c.args.e c.args.k (sym c.place_fits.ensures ∙ c.if-not-place_fits.false) c.requires (sym c.names_integer.ensures ∙ c.if-not-names_integer.false)
