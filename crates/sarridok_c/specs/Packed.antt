-- How a host in C gets an answer: in one number of 64 bits. An accepted call's is below 2^63; a refused call's has the top bit set, and in the rest the
-- refusal's number, reason and place. Document 01: "A refused call writes nothing."
use Rattle.std.specs.Prelude.{Ok, Err, ℕ, ◌+◌, ◌-◌, ◌*◌, ◌^◌, Bool, cond, List, ltb}
use Rattle.text.specs.Refusals.{Told, unfit}
use Rattle.text.specs.declared.refusal.Refusal.{Refusal}
use Rattle.text.specs.Judged.{judged_of}

-- A number, or the largest that there is room for.
unfoldable pub at_most : ℕ → ℕ → ℕ
at_most most n = cond (ltb most n) most n

-- Two numbers in one: the first has 31 bits, the second the 32 below.
unfoldable pub pair_of : ℕ → ℕ → ℕ
pair_of high low = at_most (2 ^ 31 - 1) high * 2 ^ 32 + at_most (2 ^ 32 - 1) low

-- Whether, as a number.
abbrev pub bit_of : Bool → ℕ
bit_of set = cond set 1 0

-- A refusal with the top bit set; its number has the 8 bits above its place, and its reason those above.
unfoldable pub refusal_word : Refusal → ℕ
refusal_word r = 2 ^ 63 + pair_of (r.number + 256 * r.reason) r.place

-- An answer: what was accepted in its own way, or the refusal.
abbrev pub packed : {A : Type 0} → (A → ℕ) → Told A → ℕ
packed word (Ok a) = word a
packed word (Err r) = refusal_word r

-- A lent number afterwards: a refused call leaves it as it was.
abbrev pub lent_after : {A : Type 0} → (A → ℕ) → Told A → ℕ → ℕ
lent_after part (Ok a) before = part a
lent_after part (Err r) before = before

-- What is unfit in a text that was judged: 28, unless the judgement itself refuses.
abbrev pub unless_judged : Told Unit → Refusal
unless_judged (Ok tt) = unfit
unless_judged (Err r) = r

-- What a number that names no width or mode is refused with: 28, behind 1 and 2 of the text.
unfoldable pub unfit_in : List ℕ → Refusal
unfit_in text = unless_judged (judged_of text)
