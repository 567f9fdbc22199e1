use Rattle.std.proofs.lemmas.Result.{err_from_is_err_and}
use Rattle.std.proofs.Common.{Ok, Err}
use Rattle.text.specs.Refusals.{Told}
use Prim.Native.Nat.{ℕ}
use native.Mathlib.Omega.{arith}
use mathlib.Core.Path.{◌≡◌, sym, ap, ◌∙◌}
use lib.ListN.{drop, length}
use Rattle.strings.specs.Chars.{char_of}
use Rattle.structs.proofs.PassLaws.{char_at, past-char, place_le}
use Rattle.structs.specs.Passes.{Fits, behind_char, past_char}
use Rattle.text.proofs.Lists.{on_part}
use Rattle.structs.proofs.passes.skip_char.Goals as goal

pub slice_bounds-char_literal-count : goal.slice_bounds-char_literal-count
slice_bounds-char_literal-count c = place_le c.args.s.now c.args.from _ c.in_ok-at.was c.requires

pub slice_bounds-char_literal-start : goal.slice_bounds-char_literal-start
slice_bounds-char_literal-start c = place_le c.args.s.now c.args.from _ c.in_ok-at.was c.requires

pub overflow_add-result : goal.overflow_add-result
overflow_add-result c =
    let char_is : (r : Told (ℕ × ℕ)) → c.char_literal-read.result ≡ r → char_of (drop (c.in_ok-at.at) (c.args.s.now)) ≡ r = λ r e. on_part char_of (c.args.s.now) (c.in_ok-at.at) _ r c.char_literal-read.ensures e in
    let within : (r : Told (ℕ × ℕ)) → c.char_literal-read.result ≡ r → Fits (length (c.args.s.now)) (behind_char (c.in_ok-at.at) r) = λ r e. char_at (c.args.s.now) (c.in_ok-at.at) (place_le (c.args.s.now) c.args.from _ c.in_ok-at.was c.requires) r (char_is r e) in
    let f = within (Ok (_, _)) c.in-Ok.is in omega arith

pub returns-in-Ok : goal.returns-in-Ok
returns-in-Ok c =
    let char_is : (r : Told (ℕ × ℕ)) → c.char_literal-read.result ≡ r → char_of (drop (c.in_ok-at.at) (c.args.s.now)) ≡ r = λ r e. on_part char_of (c.args.s.now) (c.in_ok-at.at) _ r c.char_literal-read.ensures e in
    let past : (r : Told (ℕ × ℕ)) → c.char_literal-read.result ≡ r → behind_char (c.in_ok-at.at) r ≡ past_char (c.args.s.now) c.args.from = λ r e. sym (past-char (c.args.s.now) _ (c.in_ok-at.at) c.in_ok-at.was r (char_is r e)) in
    past (Ok (_, _)) c.in-Ok.is

pub returns-in-Err : goal.returns-in-Err
returns-in-Err c =
    let char_is : (r : Told (ℕ × ℕ)) → c.char_literal-read.result ≡ r → char_of (drop (c.in_ok-at.at) (c.args.s.now)) ≡ r = λ r e. on_part char_of (c.args.s.now) (c.in_ok-at.at) _ r c.char_literal-read.ensures e in
    let past : (r : Told (ℕ × ℕ)) → c.char_literal-read.result ≡ r → behind_char (c.in_ok-at.at) r ≡ past_char (c.args.s.now) c.args.from = λ r e. sym (past-char (c.args.s.now) _ (c.in_ok-at.at) c.in_ok-at.was r (char_is r e)) in
    past (Err _) c.in-Err.is

pub returns-in_err-at : goal.returns-in_err-at
unfolding past_char
returns-in_err-at c =
    let p = err_from_is_err_and c.from_residual.result c.from_residual.ensures.1 in
    p.1 ∙ ap Err p.2 ∙ ap (past_char c.args.s.now) (sym c.in_err-at.was)
