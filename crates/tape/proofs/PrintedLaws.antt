-- A printed answer: the call's, then an LF. Assumes nothing.
use Prim.Native.Nat.{ℕ}
use mathlib.Core.List.{List}
use mathlib.Core.Path.{◌≡◌, ap, ◌∙◌}
use lib.ListN.{length}
use Rattle.lines.specs.Out.{put, put_byte}
use Rattle.lines.proofs.OutLaws.{then_byte}
use Rattle.read.specs.Read.{read_answer, read_tape}
use Rattle.text.specs.Refusals.{Told}
use Rattle.tape.specs.Printed.{printed_text, said_text}

pub printed : (text tape left : List ℕ) (told : Told ℕ) (out mid end : List ℕ × ℕ) → told ≡ read_answer text (length tape) → left ≡ read_tape text tape
    → mid ≡ put out (said_text left told) → end ≡ put_byte mid 10 → end ≡ put out (printed_text text tape)
unfolding printed_text
printed text tape left told out mid end t l m e =
    let said : said_text left told ≡ said_text (read_tape text tape) (read_answer text (length tape)) =
    ap (λ (x : Told ℕ). said_text left x) t
    ∙ ap (λ (x : List ℕ). said_text x (read_answer text (length tape))) l in
    then_byte out mid end (said_text (read_tape text tape) (read_answer text (length tape))) 10 (m ∙ ap (put out) said) e
