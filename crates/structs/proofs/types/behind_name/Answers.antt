use Rattle.std.proofs.lemmas.Result.{err_from_is_err_and}
use Rattle.std.proofs.Common.{Ok, Err}
use Prim.Native.Nat.{◌+◌}
use native.Mathlib.Omega.{arith}
use mathlib.Core.Path.{◌∙◌, ap, sym}
use borrow.Author.Tests.{eq-eqb, ne_eqb}
use Rattle.strings.proofs.Wholes.{none_here}
use Rattle.structs.proofs.PassLaws.{gap_fits, place_le}
use Rattle.structs.proofs.ScanLaws.{comma_fits}
use Rattle.structs.specs.Kinds.{placed_kind}
use Rattle.structs.specs.Scan.{after_comma}
use Rattle.structs.specs.Structs.{after_name, decided}
use Rattle.text.proofs.Lists.{tail_part}
use Rattle.structs.proofs.types.behind_name.Goals as goal

pub returns-then-c-eq58 : goal.returns-then-c-eq58
unfolding after_name decided
returns-then-c-eq58 c = simp (sym c.skip_ws.ensures ∙ c.in_ok-i.was, eq-eqb _ _ (sym c.peek-c.ensures ∙ c.if-c-eq58.true))

pub overflow_add-next : goal.overflow_add-next
overflow_add-next c = omega (arith, none_here c.args.s.now c.in_ok-i.i 0x2C (omega arith) (eq-eqb _ _ (sym c.peek-c.ensures ∙ c.if-c-eq44.true)))

pub slice_bounds-behind_comma-count : goal.slice_bounds-behind_comma-count
slice_bounds-behind_comma-count c = omega (arith, none_here c.args.s.now c.in_ok-i.i 0x2C (omega arith) (eq-eqb _ _ (sym c.peek-c.ensures ∙ c.if-c-eq44.true)))

pub slice_bounds-behind_comma-start : goal.slice_bounds-behind_comma-start
slice_bounds-behind_comma-start c = omega (arith, none_here c.args.s.now c.in_ok-i.i 0x2C (omega arith) (eq-eqb _ _ (sym c.peek-c.ensures ∙ c.if-c-eq44.true)))

pub placed-requires : goal.placed-requires
placed-requires c = rw (c.behind_comma.ensures ∙ ap after_comma (tail_part c.args.s.now (c.in_ok-i.i + 1))) (comma_fits c.args.s.now (c.in_ok-i.i + 1) (omega (arith, none_here c.args.s.now c.in_ok-i.i 0x2C (omega arith) (eq-eqb _ _ (sym c.peek-c.ensures ∙ c.if-c-eq44.true)))) (omega arith))

pub returns-then-c-eq44 : goal.returns-then-c-eq44
unfolding after_name decided
returns-then-c-eq44 c = simp (sym c.skip_ws.ensures ∙ c.in_ok-i.was, ne_eqb _ _ (λ e. c.if-c-eq58.false (c.peek-c.ensures ∙ e)), eq-eqb _ _ (sym c.peek-c.ensures ∙ c.if-c-eq44.true)) (c.placed.ensures ∙ ap (placed_kind (c.in_ok-i.i + 1)) (c.behind_comma.ensures ∙ ap after_comma (tail_part c.args.s.now (c.in_ok-i.i + 1))))

pub returns-then-c-eq41 : goal.returns-then-c-eq41
unfolding after_name decided
returns-then-c-eq41 c = simp (sym c.skip_ws.ensures ∙ c.in_ok-i.was, ne_eqb _ _ (λ e. c.if-c-eq58.false (c.peek-c.ensures ∙ e)), ne_eqb _ _ (λ e. c.if-c-eq44.false (c.peek-c.ensures ∙ e)), eq-eqb _ _ (sym c.peek-c.ensures ∙ c.if-c-eq41.true))

pub undecided-requires : goal.undecided-requires
undecided-requires c = place_le c.args.s.now _ _ (sym c.skip_ws.ensures ∙ c.in_ok-i.was) (gap_fits c.args.s.now (Ok c.args.at) c.requires)

pub returns : goal.returns
unfolding after_name decided
returns c = simp (sym c.skip_ws.ensures ∙ c.in_ok-i.was, ne_eqb _ _ (λ e. c.if-c-eq58.false (c.peek-c.ensures ∙ e)), ne_eqb _ _ (λ e. c.if-c-eq44.false (c.peek-c.ensures ∙ e)), ne_eqb _ _ (λ e. c.if-c-eq41.false (c.peek-c.ensures ∙ e))) c.undecided.ensures

pub returns-in_err-i : goal.returns-in_err-i
unfolding after_name
returns-in_err-i c =
    let p = err_from_is_err_and c.from_residual.result c.from_residual.ensures.1 in
    p.1 ∙ ap Err p.2 ∙ simp (sym c.skip_ws.ensures ∙ c.in_err-i.was)
