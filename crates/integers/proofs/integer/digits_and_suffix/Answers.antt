use Prim.Native.Nat.{ℕ}
use native.Mathlib.Omega.{arith}
use mathlib.Core.Path.{◌∙◌, ◌≡◌, ap, sym}
use lib.ListN.{drop, length-drop, take}
use lib.Seq.{length-take-le}
use Rattle.digits.specs.Digits.{run_of}
use Rattle.integers.proofs.Readings.{judged_said}
use Rattle.integers.proofs.Suffixes.{suffix_le}
use Rattle.integers.specs.Width.{limit_at, suffix_of}
use Rattle.integers.specs.declared.ident.Found.{Found}
use Rattle.text.proofs.Lists.{tail_part}
use Rattle.text.proofs.RunLaws.{run_le}
use Rattle.text.specs.Classes.{int_char}
use Rattle.integers.proofs.integer.digits_and_suffix.Goals as goal

pub slice_bounds-suffix_of-count : goal.slice_bounds-suffix_of-count
slice_bounds-suffix_of-count c = omega (arith, c.run_len-n.ensures, run_le int_char c.args.t.now)

pub slice_bounds-suffix_of-start : goal.slice_bounds-suffix_of-start
slice_bounds-suffix_of-start c = omega (arith, c.run_len-n.ensures, run_le int_char c.args.t.now)

pub overflow_add-end : goal.overflow_add-end
overflow_add-end c = omega (arith, ap (λ (f : Found). f.end) (c.suffix_of-found.ensures ∙ ap suffix_of (tail_part c.args.t.now c.run_len-n.result)), suffix_le (drop c.run_len-n.result c.args.t.now), length-drop c.run_len-n.result c.args.t.now, c.run_len-n.ensures, run_le int_char c.args.t.now)

pub slice_bounds-parse_integer-end : goal.slice_bounds-parse_integer-end
slice_bounds-parse_integer-end c = sym (length-take-le c.run_len-n.result c.args.t.now (omega (arith, c.run_len-n.ensures, run_le int_char c.args.t.now)))

pub returns : goal.returns
returns c =
    let run : c.parse_integer-run.result ≡ _ = c.parse_integer-run.ensures ∙ ap (λ (code : ℕ). run_of (limit_at code c.args.minus) c.args.base (take c.run_len-n.result c.args.t.now)) c.chosen-code.ensures in
    c.behind_run.ensures ∙ judged_said c.args.asked c.args.minus c.args.base c.args.t.now c.run_len-n.result c.suffix_of-found.result c.run_len-n.ensures (c.suffix_of-found.ensures ∙ ap suffix_of (tail_part c.args.t.now c.run_len-n.result)) c.parse_integer-run.result run
