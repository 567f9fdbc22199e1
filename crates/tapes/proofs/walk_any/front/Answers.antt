use Prim.Native.Nat.{ℕ}
use mathlib.Core.List.{List}
use mathlib.Core.Path.{sym, ap, ◌∙◌}
use Rattle.words.specs.Number.{decimal_of}
use Rattle.words.specs.Split.{first_word, behind_word}
use Rattle.tapes.proofs.WalkLaws.{front_first, front_second, front_third, front_asks}
use Rattle.tapes.proofs.walk_any.front.Goals as goal

pub returns-in_err-limit : goal.returns-in_err-limit
returns-in_err-limit c =
    c.from_residual.ensures ∙ front_first c.args.words.now (sym c.in_err-limit.was ∙ c.decimal_of.ensures ∙ ap decimal_of c.word.ensures)

pub returns-in_err-room : goal.returns-in_err-room
returns-in_err-room c =
    c.from_residual-in_err-room.ensures ∙ front_second c.args.words.now c.in_ok-limit.limit (sym c.in_ok-limit.was ∙ c.decimal_of.ensures ∙ ap decimal_of c.word.ensures)
    (sym c.in_err-room.was ∙ c.decimal_of-2.ensures ∙ ap decimal_of (c.word-2.ensures ∙ ap (λ (s : List ℕ). first_word s) c.behind-words.ensures))

pub returns-in_err-count : goal.returns-in_err-count
returns-in_err-count c =
    c.from_residual-in_err-count.ensures ∙ front_third c.args.words.now c.in_ok-limit.limit c.in_ok-room.room (sym c.in_ok-limit.was ∙ c.decimal_of.ensures ∙ ap decimal_of c.word.ensures)
    (sym c.in_ok-room.was ∙ c.decimal_of-2.ensures ∙ ap decimal_of (c.word-2.ensures ∙ ap (λ (s : List ℕ). first_word s) c.behind-words.ensures))
    (sym c.in_err-count.was ∙ c.decimal_of-3.ensures ∙ ap decimal_of (c.word-3.ensures ∙ ap (λ (s : List ℕ). first_word s) (c.behind.ensures ∙ ap (λ (s : List ℕ). behind_word s) c.behind-words.ensures)))

pub returns : goal.returns
returns c =
    front_asks c.args.words.now c.in_ok-limit.limit c.in_ok-room.room c.in_ok-count.count (sym c.in_ok-limit.was ∙ c.decimal_of.ensures ∙ ap decimal_of c.word.ensures)
    (sym c.in_ok-room.was ∙ c.decimal_of-2.ensures ∙ ap decimal_of (c.word-2.ensures ∙ ap (λ (s : List ℕ). first_word s) c.behind-words.ensures))
    (sym c.in_ok-count.was ∙ c.decimal_of-3.ensures ∙ ap decimal_of (c.word-3.ensures ∙ ap (λ (s : List ℕ). first_word s) (c.behind.ensures ∙ ap (λ (s : List ℕ). behind_word s) c.behind-words.ensures)))
