use Rattle.std.proofs.lemmas.Result.{err_from_is_err_and}
use Rattle.std.proofs.Common.{Err}
use native.Mathlib.Omega.{arith}
use mathlib.Core.Path.{◌∙◌, ◌≡◌, ap, sym}
use lib.ListN.{drop, length}
use Rattle.comments.specs.Gaps.{gap_of}
use Rattle.comments.specs.declared.gap.Gap.{Gap}
use Rattle.structs.proofs.PassLaws.{gap_at, past-gap, place_le}
use Rattle.structs.specs.Passes.{Fits, behind_gap, past_gap}
use Rattle.text.proofs.Lists.{on_part}
use Rattle.comments.specs.declared.gap.Gap.TheVariants as gap
use Rattle.structs.proofs.passes.skip_ws.Goals as goal

pub slice_bounds-skip_gap-count : goal.slice_bounds-skip_gap-count
slice_bounds-skip_gap-count c = place_le c.args.s.now c.args.from _ c.in_ok-at.was c.requires

pub slice_bounds-skip_gap-start : goal.slice_bounds-skip_gap-start
slice_bounds-skip_gap-start c = place_le c.args.s.now c.args.from _ c.in_ok-at.was c.requires

pub overflow_add-result : goal.overflow_add-result
overflow_add-result c =
    let gap_is : (g : Gap) → c.skip_gap-gap.result ≡ g → gap_of (drop (c.in_ok-at.at) (c.args.s.now)) ≡ g = λ g e. on_part gap_of (c.args.s.now) (c.in_ok-at.at) _ g c.skip_gap-gap.ensures e in
    let within : (g : Gap) → c.skip_gap-gap.result ≡ g → Fits (length (c.args.s.now)) (behind_gap (c.in_ok-at.at) g) = λ g e. gap_at (c.args.s.now) (c.in_ok-at.at) (place_le (c.args.s.now) c.args.from _ c.in_ok-at.was c.requires) g (gap_is g e) in
    let f = within (gap.Clear _) c.in-Clear.is in omega arith

pub overflow_add-result-in-InLine : goal.overflow_add-result-in-InLine
overflow_add-result-in-InLine c =
    let gap_is : (g : Gap) → c.skip_gap-gap.result ≡ g → gap_of (drop (c.in_ok-at.at) (c.args.s.now)) ≡ g = λ g e. on_part gap_of (c.args.s.now) (c.in_ok-at.at) _ g c.skip_gap-gap.ensures e in
    let within : (g : Gap) → c.skip_gap-gap.result ≡ g → Fits (length (c.args.s.now)) (behind_gap (c.in_ok-at.at) g) = λ g e. gap_at (c.args.s.now) (c.in_ok-at.at) (place_le (c.args.s.now) c.args.from _ c.in_ok-at.was c.requires) g (gap_is g e) in
    let f = within (gap.InLine _) c.in-InLine.is in omega arith

pub placed_behind-requires : goal.placed_behind-requires
placed_behind-requires c =
    let gap_is : (g : Gap) → c.skip_gap-gap.result ≡ g → gap_of (drop (c.in_ok-at.at) (c.args.s.now)) ≡ g = λ g e. on_part gap_of (c.args.s.now) (c.in_ok-at.at) _ g c.skip_gap-gap.ensures e in
    let within : (g : Gap) → c.skip_gap-gap.result ≡ g → Fits (length (c.args.s.now)) (behind_gap (c.in_ok-at.at) g) = λ g e. gap_at (c.args.s.now) (c.in_ok-at.at) (place_le (c.args.s.now) c.args.from _ c.in_ok-at.was c.requires) g (gap_is g e) in
    let f = within (gap.Refused _) c.in-Refused.is in omega arith

pub returns-in-Clear : goal.returns-in-Clear
returns-in-Clear c =
    let gap_is : (g : Gap) → c.skip_gap-gap.result ≡ g → gap_of (drop (c.in_ok-at.at) (c.args.s.now)) ≡ g = λ g e. on_part gap_of (c.args.s.now) (c.in_ok-at.at) _ g c.skip_gap-gap.ensures e in
    let past : (g : Gap) → c.skip_gap-gap.result ≡ g → behind_gap (c.in_ok-at.at) g ≡ past_gap (c.args.s.now) c.args.from = λ g e. sym (past-gap (c.args.s.now) _ (c.in_ok-at.at) c.in_ok-at.was g (gap_is g e)) in
    past (gap.Clear _) c.in-Clear.is

pub returns-in-InLine : goal.returns-in-InLine
returns-in-InLine c =
    let gap_is : (g : Gap) → c.skip_gap-gap.result ≡ g → gap_of (drop (c.in_ok-at.at) (c.args.s.now)) ≡ g = λ g e. on_part gap_of (c.args.s.now) (c.in_ok-at.at) _ g c.skip_gap-gap.ensures e in
    let past : (g : Gap) → c.skip_gap-gap.result ≡ g → behind_gap (c.in_ok-at.at) g ≡ past_gap (c.args.s.now) c.args.from = λ g e. sym (past-gap (c.args.s.now) _ (c.in_ok-at.at) c.in_ok-at.was g (gap_is g e)) in
    past (gap.InLine _) c.in-InLine.is

pub returns-in-Refused : goal.returns-in-Refused
returns-in-Refused c =
    let gap_is : (g : Gap) → c.skip_gap-gap.result ≡ g → gap_of (drop (c.in_ok-at.at) (c.args.s.now)) ≡ g = λ g e. on_part gap_of (c.args.s.now) (c.in_ok-at.at) _ g c.skip_gap-gap.ensures e in
    let past : (g : Gap) → c.skip_gap-gap.result ≡ g → behind_gap (c.in_ok-at.at) g ≡ past_gap (c.args.s.now) c.args.from = λ g e. sym (past-gap (c.args.s.now) _ (c.in_ok-at.at) c.in_ok-at.was g (gap_is g e)) in
    ap Err c.placed_behind.ensures ∙ past (gap.Refused _) c.in-Refused.is

pub returns-in_err-at : goal.returns-in_err-at
unfolding past_gap
returns-in_err-at c =
    let p = err_from_is_err_and c.from_residual.result c.from_residual.ensures.1 in
    p.1 ∙ ap Err p.2 ∙ ap (past_gap c.args.s.now) (sym c.in_err-at.was)
