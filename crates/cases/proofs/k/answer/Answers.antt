use Prim.Native.Nat.{ℕ}
use mathlib.Core.List.{List}
use Rattle.words.proofs.DecidedLaws.{said}
use Rattle.lines.proofs.LineLaws.{line2}
use Rattle.cases.proofs.LineLaws.{line_bad, line_good}
use lib.ListN.{length}
use Rattle.lines.specs.Over.{over}
use Rattle.words.specs.Hex.{hex_in, pairs}
use Rattle.words.specs.Split.{behind_word}
use Rattle.show.specs.Answers.{bad_text}
use mathlib.Core.Path.{◌≡◌, refl, sym, ap, ◌∙◌}
use Rattle.sarridok.specs.StructKind.{struct_kind_of}
use Rattle.show.specs.StructKinds.{kind_text}
use Rattle.cases.specs.Kinds.{kind_line}
use Rattle.cases.proofs.KindLaws.{kind_bad, kind_at}
use Rattle.cases.proofs.k.answer.Goals as goal

pub returns-in_default : goal.returns-in_default
returns-in_default c =
    let words : List ℕ = c.args.words.now in
    let text : List ℕ = c.args.text.now in
    let out : List ℕ × ℕ = (c.args.o.now, c.args.at) in
    line2 out _ bad_text _ text (kind_line words text) (kind_bad words text (sym c.front.ensures ∙ c.in_default.is)) c.bad.ensures refl

pub returns-in_default-bytes : goal.returns-in_default-bytes
returns-in_default-bytes c =
    let words : List ℕ = c.args.words.now in
    let text : List ℕ = c.args.text.now in
    let out : List ℕ × ℕ = (c.args.o.now, c.args.at) in
    let last : List ℕ = behind_word (behind_word (behind_word words)) in
    let is_last : ◌≡◌ {A = List ℕ} _ last = c.behind-3.ensures ∙ ap behind_word (c.behind-2.ensures ∙ ap behind_word c.behind.ensures) in
    line_bad out _ (kind_line words text) _ kind_text (λ s. struct_kind_of s c.in-Some.asked.place c.in-Some.asked.newtype c.in-Some.asked.tuple) last text
    (kind_at words text c.in-Some.asked (sym c.front.ensures ∙ c.in-Some.is))
    (c.bytes.ensures.buf_after ∙ ap (λ (w : List ℕ). over (pairs w) text) is_last)
    (said (λ (w : List ℕ). hex_in w (length text)) _ last _ _ c.bytes.ensures.value is_last c.in_default-bytes.is) c.bad-in_default-bytes.ensures

pub returns : goal.returns
returns c =
    let words : List ℕ = c.args.words.now in
    let text : List ℕ = c.args.text.now in
    let out : List ℕ × ℕ = (c.args.o.now, c.args.at) in
    let last : List ℕ = behind_word (behind_word (behind_word words)) in
    let is_last : ◌≡◌ {A = List ℕ} _ last = c.behind-3.ensures ∙ ap behind_word (c.behind-2.ensures ∙ ap behind_word c.behind.ensures) in
    line_good out _ (kind_line words text) _ kind_text (λ s. struct_kind_of s c.in-Some.asked.place c.in-Some.asked.newtype c.in-Some.asked.tuple) last text
    (kind_at words text c.in-Some.asked (sym c.front.ensures ∙ c.in-Some.is))
    (c.bytes.ensures.buf_after ∙ ap (λ (w : List ℕ). over (pairs w) text) is_last)
    _ _ _ (said (λ (w : List ℕ). hex_in w (length text)) _ last _ _ c.bytes.ensures.value is_last c.in-Some-bytes.is) c.part.ensures c.struct_kind-kind.ensures c.kind.ensures
