use Rattle.std.proofs.Common.{Ok}
use native.Mathlib.Omega.{arith}
use Rattle.structs.proofs.PassLaws.{byte_string_fits, char_fits, gap_fits, string_fits}
use Rattle.structs.specs.Scan.{past_spurious}
use Rattle.structs.proofs.steps.skip_spurious.Goals as goal

pub skip_char-char_passed-requires : goal.skip_char-char_passed-requires
skip_char-char_passed-requires c = rw c.skip_ws-begun.ensures (gap_fits c.args.s.now (Ok 0) (omega arith))

pub skip_string-string_passed-requires : goal.skip_string-string_passed-requires
skip_string-string_passed-requires c = rw c.skip_char-char_passed.ensures (char_fits c.args.s.now _ (rw c.skip_ws-begun.ensures (gap_fits c.args.s.now (Ok 0) (omega arith))))

pub skip_byte_string-bytes_passed-requires : goal.skip_byte_string-bytes_passed-requires
skip_byte_string-bytes_passed-requires c = rw c.skip_string-string_passed.ensures (string_fits c.args.s.now _ (rw c.skip_char-char_passed.ensures (char_fits c.args.s.now _ (rw c.skip_ws-begun.ensures (gap_fits c.args.s.now (Ok 0) (omega arith))))))

pub skip_ws-requires : goal.skip_ws-requires
skip_ws-requires c = rw c.skip_byte_string-bytes_passed.ensures (byte_string_fits c.args.s.now _ (rw c.skip_string-string_passed.ensures (string_fits c.args.s.now _ (rw c.skip_char-char_passed.ensures (char_fits c.args.s.now _ (rw c.skip_ws-begun.ensures (gap_fits c.args.s.now (Ok 0) (omega arith))))))))

pub returns : goal.returns
unfolding past_spurious
returns c = cc
