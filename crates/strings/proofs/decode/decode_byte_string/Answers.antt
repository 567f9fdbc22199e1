use Prim.Native.Nat.{ℕ}
use native.Mathlib.Omega.{arith}
use mathlib.Core.List.{List, ◌++◌}
use mathlib.Core.Path.{◌∙◌, ap, sym}
use lib.ListN.{drop, length, length-drop}
use Rattle.strings.proofs.Wholes.{byte_string_whole}
use Rattle.strings.specs.Strings.{into_out, byte_string_decoded}
use Rattle.text.proofs.Lists.{tail_part}
use Rattle.strings.proofs.decode.decode_byte_string.Goals as goal

pub slice_bounds-decode_part-count : goal.slice_bounds-decode_part-count
slice_bounds-decode_part-count c = let z = byte_string_whole c.args.s.now c.args.l c.requires.0 in omega (arith, z.ordered, z.inside, z.fits)

pub slice_bounds-decode_part-start : goal.slice_bounds-decode_part-start
slice_bounds-decode_part-start c = let z = byte_string_whole c.args.s.now c.args.l c.requires.0 in omega (arith, z.ordered, z.inside, z.fits)

pub overflow_sub-l : goal.overflow_sub-l
overflow_sub-l c = let z = byte_string_whole c.args.s.now c.args.l c.requires.0 in omega (arith, z.ordered, z.inside, z.fits)

pub decode_part-requires : goal.decode_part-requires
decode_part-requires c = let z = byte_string_whole c.args.s.now c.args.l c.requires.0 in
    simp tail_part (omega (arith, z.ordered, z.inside, z.fits, length-drop c.args.l.start c.args.s.now), omega (arith, ap length z.part, z.count, c.requires.1))

pub returns : goal.returns
returns c = let z = byte_string_whole c.args.s.now c.args.l c.requires.0 in (simp tail_part at c.decode_part.ensures) ∙ ap (λ (x : List ℕ). into_out x c.args.out.now) (sym z.part) ∙ ap (λ (k : ℕ). byte_string_decoded c.args.s.now ++ drop k c.args.out.now) z.count
