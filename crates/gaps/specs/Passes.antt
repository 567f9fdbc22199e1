-- Where the whitespace and comments end that a piece goes on with (document 02, change request 3; document 01, module 2).
use Rattle.std.specs.Prelude.{ℕ, ◌+◌, ◌-◌, List, ◌++◌, cond, length, eqb, ltb}
use Rattle.comments.specs.Gaps.{gap_of}
use Rattle.comments.specs.declared.gap.Gap.{Gap}
use Rattle.comments.specs.declared.gap.Gap.TheVariants as gap
use Rattle.gaps.specs.declared.state.Open.{Open}
use Rattle.gaps.specs.declared.state.Open.TheVariants.{Clear}
use Rattle.gaps.specs.declared.pass.Passed.{Passed}
use Rattle.gaps.specs.declared.pass.Passed.TheVariants.{Begins, Within, Unexpected}
use Rattle.gaps.specs.Opens.{front, open_of}

-- What a gap says of the piece that stands behind so many bytes, up to the end, where `left` is open.
abbrev pub passed_by : Gap → Open → ℕ → ℕ → Passed
passed_by (gap.Clear g) left before end = cond (ltb g end) (Begins (g - before)) (Within Clear)
passed_by (gap.InLine n) left before end = Within left
passed_by (gap.Refused r) left before end = cond (eqb r.number 5) (Unexpected (r.place - before)) (Within left)

-- Where the whitespace and comments end that s goes on with, where this was open.
unfoldable pub passed_of : Open → List ℕ → Passed
passed_of o s = passed_by (gap_of (front o ++ s)) (open_of (front o ++ s)) (length (front o)) (length (front o ++ s))

-- The same answer, told of a piece with so many bytes more in front.
abbrev pub passed_behind : ℕ → Passed → Passed
passed_behind k (Begins n) = Begins (k + n)
passed_behind k (Within o) = Within o
passed_behind k (Unexpected p) = Unexpected (k + p)
