use Prim.Native.Nat.{ℕ, ◌-◌, ◌^◌}
use mathlib.Core.List.{List, [], ◌∷◌}
use mathlib.Core.Path.{◌≡◌, refl, ap, ◌∙◌}
use lib.ListN.{length}
use Rattle.lines.specs.Over.{over}
use Rattle.show.specs.Answers.{bad_text}
use Rattle.words.specs.Hex.{hex_in, pairs}
use Rattle.words.specs.Split.{first_word, behind_word}
use Rattle.words.proofs.DecidedLaws.{said}
use Rattle.words.proofs.SaidLaws.{part_said}
use Rattle.words.specs.Small.{small_of}
use Rattle.cases.specs.Contents.{asked, contents_line}
use Rattle.lines.proofs.LineLaws.{line3}
use Rattle.cases.proofs.EntryLaws.{entry_in, no_kind, no_start, no_bytes, entry_line, said_same}
use Rattle.cases.proofs.c.answer.Goals as goal

pub returns-in_default : goal.returns-in_default
returns-in_default c =
    let words : List ℕ = c.args.words.now in
    let text : List ℕ = c.args.text.now in
    let spare : List ℕ = c.args.spare.now in
    let out : List ℕ × ℕ = (c.args.o.now, c.args.at) in
    line3 out _ bad_text _ _ text spare (contents_line words text spare)
    (no_kind words text spare (said small_of _ (first_word words) _ _ c.small_of.ensures c.word.ensures c.in_default.is)) c.bad.ensures refl refl

pub returns-in_default-small_of : goal.returns-in_default-small_of
returns-in_default-small_of c =
    let words : List ℕ = c.args.words.now in
    let text : List ℕ = c.args.text.now in
    let spare : List ℕ = c.args.spare.now in
    let out : List ℕ × ℕ = (c.args.o.now, c.args.at) in
    line3 out _ bad_text _ _ text spare (contents_line words text spare)
    (no_start words text spare _ (said small_of _ (first_word words) _ _ c.small_of.ensures c.word.ensures c.in-Some.is) (said small_of _ (first_word (behind_word words)) _ _ c.small_of-2.ensures (c.word-2.ensures ∙ ap first_word c.behind-words.ensures) c.in_default-small_of.is)) c.bad-in_default-small_of.ensures refl refl

pub returns-in_default-bytes : goal.returns-in_default-bytes
returns-in_default-bytes c =
    let words : List ℕ = c.args.words.now in
    let text : List ℕ = c.args.text.now in
    let spare : List ℕ = c.args.spare.now in
    let out : List ℕ × ℕ = (c.args.o.now, c.args.at) in
    let last : List ℕ = behind_word (behind_word words) in
    let is_last : ◌≡◌ {A = List ℕ} _ last = c.behind.ensures ∙ ap behind_word c.behind-words.ensures in
    line3 out _ bad_text _ _ (over (pairs last) text) spare (contents_line words text spare)
    (no_bytes words text spare _ (said small_of _ (first_word words) _ _ c.small_of.ensures c.word.ensures c.in-Some.is) _ (said small_of _ (first_word (behind_word words)) _ _ c.small_of-2.ensures (c.word-2.ensures ∙ ap first_word c.behind-words.ensures) c.in-Some-small_of.is)
    (said (λ (w : List ℕ). hex_in w (length text)) _ last _ _ c.bytes.ensures.value is_last c.in_default-bytes.is)) c.bad-in_default-bytes.ensures (c.bytes.ensures.buf_after ∙ ap (λ (w : List ℕ). over (pairs w) text) is_last) refl

pub returns : goal.returns
returns c =
    let words : List ℕ = c.args.words.now in
    let text : List ℕ = c.args.text.now in
    let spare : List ℕ = c.args.spare.now in
    let out : List ℕ × ℕ = (c.args.o.now, c.args.at) in
    let last : List ℕ = behind_word (behind_word words) in
    let is_last : ◌≡◌ {A = List ℕ} _ last = c.behind.ensures ∙ ap behind_word c.behind-words.ensures in
    let h = said (λ (w : List ℕ). hex_in w (length text)) _ last _ _ c.bytes.ensures.value is_last c.in-Some-bytes.is in
    let left = c.bytes.ensures.buf_after ∙ ap (λ (w : List ℕ). over (pairs w) text) is_last in
    let part = part_said last text _ _ _ h left c.part.ensures in
    let both = said_same (asked 0 1 (2 ^ 64 - 1)) spare _ (pairs last) _ (c.in-Some.kind ∷ c.in-Some-small_of.start ∷ 0 ∷ 0 ∷ 0 ∷ []) _ out _ part refl c.answer.ensures in
    let own : List ℕ × List ℕ = entry_in words text spare c.in-Some.kind c.in-Some-small_of.start (pairs last) in
    line3 out _ own.0 _ _ (over (pairs last) text) own.1 (contents_line words text spare)
    (entry_line words text spare c.in-Some.kind (said small_of _ (first_word words) _ _ c.small_of.ensures c.word.ensures c.in-Some.is) c.in-Some-small_of.start (said small_of _ (first_word (behind_word words)) _ _ c.small_of-2.ensures (c.word-2.ensures ∙ ap first_word c.behind-words.ensures) c.in-Some-small_of.is) _ h)
    both.0 left both.1
