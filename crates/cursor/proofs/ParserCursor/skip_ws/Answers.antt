use Rattle.std.proofs.Common.{Ok, Err}
use Prim.Native.Nat.{◌+◌, ◌-◌, ℕ}
use native.Mathlib.Omega.{arith}
use mathlib.Core.Path.{◌∙◌, ◌≡◌, ap, subst, sym}
use lib.ListN.{drop, length, length-drop}
use Rattle.comments.proofs.GapLaws.{EndsBy, gap_bounded}
use Rattle.comments.specs.Gaps.{gap_of}
use Rattle.comments.specs.declared.gap.Gap.{Gap}
use Rattle.comments.specs.declared.gap.Gap.TheVariants.{Clear, InLine, Refused as GapRefused}
use Rattle.cursor.proofs.SkipLaws.{skip_at_end, skip_runs}
use Rattle.cursor.specs.Cursor.{cursor}
use Rattle.cursor.specs.Skip.{cursor_behind, pre_of, skip_ws_of}
use Rattle.text.proofs.Lists.{tail_part}
use Rattle.cursor.proofs.ParserCursor.skip_ws.Goals as goal

pub returns-then-text-at : goal.returns-then-text-at
returns-then-text-at c = ap (λ (n : ℕ). Ok (cursor c.args.self.cursor n c.args.self.last_ws_len)) c.pre_ws-pre.ensures ∙ sym (skip_at_end c.args.text.now c.args.self c.if-text-at.true)

pub overflow_add-end : goal.overflow_add-end
overflow_add-end c =
    let gap_is : (r : Gap) → c.skip_gap-run.result ≡ r → gap_of (drop (c.args.self).cursor (c.args.text.now)) ≡ r = λ r e. ap gap_of (sym (tail_part (c.args.text.now) (c.args.self).cursor)) ∙ sym c.skip_gap-run.ensures ∙ e in
    let short : (r : Gap) → c.skip_gap-run.result ≡ r → EndsBy (length (c.args.text.now) - (c.args.self).cursor) r = λ r e. subst (EndsBy (length (c.args.text.now) - (c.args.self).cursor)) (gap_is r e) (rw (← length-drop (c.args.self).cursor (c.args.text.now)) (gap_bounded (drop (c.args.self).cursor (c.args.text.now)))) in
    omega (arith, short (Clear _) c.in-Clear.is)

pub overflow_add-end-in-InLine : goal.overflow_add-end-in-InLine
overflow_add-end-in-InLine c =
    let gap_is : (r : Gap) → c.skip_gap-run.result ≡ r → gap_of (drop (c.args.self).cursor (c.args.text.now)) ≡ r = λ r e. ap gap_of (sym (tail_part (c.args.text.now) (c.args.self).cursor)) ∙ sym c.skip_gap-run.ensures ∙ e in
    let short : (r : Gap) → c.skip_gap-run.result ≡ r → EndsBy (length (c.args.text.now) - (c.args.self).cursor) r = λ r e. subst (EndsBy (length (c.args.text.now) - (c.args.self).cursor)) (gap_is r e) (rw (← length-drop (c.args.self).cursor (c.args.text.now)) (gap_bounded (drop (c.args.self).cursor (c.args.text.now)))) in
    omega (arith, short (InLine _) c.in-InLine.is)

pub placed_behind-requires : goal.placed_behind-requires
placed_behind-requires c =
    let gap_is : (r : Gap) → c.skip_gap-run.result ≡ r → gap_of (drop (c.args.self).cursor (c.args.text.now)) ≡ r = λ r e. ap gap_of (sym (tail_part (c.args.text.now) (c.args.self).cursor)) ∙ sym c.skip_gap-run.ensures ∙ e in
    let short : (r : Gap) → c.skip_gap-run.result ≡ r → EndsBy (length (c.args.text.now) - (c.args.self).cursor) r = λ r e. subst (EndsBy (length (c.args.text.now) - (c.args.self).cursor)) (gap_is r e) (rw (← length-drop (c.args.self).cursor (c.args.text.now)) (gap_bounded (drop (c.args.self).cursor (c.args.text.now)))) in
    omega (arith, short (GapRefused _) c.in-Refused.is)

pub returns-in-Clear : goal.returns-in-Clear
returns-in-Clear c =
    let gap_is : (r : Gap) → c.skip_gap-run.result ≡ r → gap_of (drop (c.args.self).cursor (c.args.text.now)) ≡ r = λ r e. ap gap_of (sym (tail_part (c.args.text.now) (c.args.self).cursor)) ∙ sym c.skip_gap-run.ensures ∙ e in
    let ran : (r : Gap) → c.skip_gap-run.result ≡ r → cursor_behind (c.args.self).cursor c.pre_ws-pre.result r ≡ skip_ws_of (c.args.text.now) (c.args.self) = λ r e. ap (λ (n : ℕ). cursor_behind (c.args.self).cursor n r) c.pre_ws-pre.ensures
    ∙ ap (cursor_behind (c.args.self).cursor (pre_of (c.args.self))) (sym (gap_is r e))
    ∙ sym (skip_runs (c.args.text.now) (c.args.self) c.if-text-at.false) in
    ap (λ (n : ℕ). Ok (cursor (c.args.self.cursor + c.in-Clear.n) c.pre_ws-pre.result n)) c.saturating_sub-len.ensures ∙ ran (Clear _) c.in-Clear.is

pub returns-in-InLine : goal.returns-in-InLine
returns-in-InLine c =
    let gap_is : (r : Gap) → c.skip_gap-run.result ≡ r → gap_of (drop (c.args.self).cursor (c.args.text.now)) ≡ r = λ r e. ap gap_of (sym (tail_part (c.args.text.now) (c.args.self).cursor)) ∙ sym c.skip_gap-run.ensures ∙ e in
    let ran : (r : Gap) → c.skip_gap-run.result ≡ r → cursor_behind (c.args.self).cursor c.pre_ws-pre.result r ≡ skip_ws_of (c.args.text.now) (c.args.self) = λ r e. ap (λ (n : ℕ). cursor_behind (c.args.self).cursor n r) c.pre_ws-pre.ensures
    ∙ ap (cursor_behind (c.args.self).cursor (pre_of (c.args.self))) (sym (gap_is r e))
    ∙ sym (skip_runs (c.args.text.now) (c.args.self) c.if-text-at.false) in
    ran (InLine _) c.in-InLine.is

pub returns-in-Refused : goal.returns-in-Refused
returns-in-Refused c =
    let gap_is : (r : Gap) → c.skip_gap-run.result ≡ r → gap_of (drop (c.args.self).cursor (c.args.text.now)) ≡ r = λ r e. ap gap_of (sym (tail_part (c.args.text.now) (c.args.self).cursor)) ∙ sym c.skip_gap-run.ensures ∙ e in
    let ran : (r : Gap) → c.skip_gap-run.result ≡ r → cursor_behind (c.args.self).cursor c.pre_ws-pre.result r ≡ skip_ws_of (c.args.text.now) (c.args.self) = λ r e. ap (λ (n : ℕ). cursor_behind (c.args.self).cursor n r) c.pre_ws-pre.ensures
    ∙ ap (cursor_behind (c.args.self).cursor (pre_of (c.args.self))) (sym (gap_is r e))
    ∙ sym (skip_runs (c.args.text.now) (c.args.self) c.if-text-at.false) in
    ap Err c.placed_behind.ensures ∙ ran (GapRefused _) c.in-Refused.is
