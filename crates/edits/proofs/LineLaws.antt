-- What a line of words says, word by word. Assumes nothing.
use Rattle.std.specs.Prelude.{Option}
use Prim.Native.Nat.{ℕ, zero, suc}
use mathlib.Core.List.{List, [], ◌∷◌}
use mathlib.Core.Path.{◌≡◌, refl, sym, subst}
use lib.ListN.{length, take, drop}
use Rattle.lines.specs.Out.{put}
use Rattle.words.specs.Number.{decimal_of}
use Rattle.words.proofs.DecidedLaws.{said as of-word}

-- a word's number by another name of the word
pub said : {w v : List ℕ} {d e : Option ℕ} → w ≡ v → d ≡ decimal_of w → d ≡ e → decimal_of v ≡ e
said {w} {v} {d} {e} f g h = of-word decimal_of w v d e g f h

-- behind what was taken stands what is dropped
pub drop_taken : (k : ℕ) (l : List ℕ) → drop (length (take k l)) l ≡ drop k l
drop_taken zero l = refl
drop_taken (suc k) [] = refl
drop_taken (suc k) (a ∷ l) = drop_taken k l

-- what is promised of a line by parts
abbrev pub Line : Type 0
Line = List ℕ × List ℕ × List ℕ × List ℕ

abbrev pub Answered : Line → List ℕ × ℕ → List ℕ × ℕ → List ℕ → List ℕ → List ℕ → Type 0
Answered line out end text tape aside = (end ≡ put out line.0) × (text ≡ line.1) × (tape ≡ line.2) × (aside ≡ line.3)

pub answered : (line known : Line) (out end : List ℕ × ℕ) {text tape aside : List ℕ} → line ≡ known → Answered known out end text tape aside
    → Answered line out end text tape aside
answered line known out end {text} {tape} {aside} e = subst (λ (l : Line). Answered l out end text tape aside) (sym e)

-- what is promised of a repair by parts
abbrev pub Edit : Type 0
Edit = List ℕ × List ℕ × List ℕ

abbrev pub Done : Edit → List ℕ × ℕ → List ℕ × ℕ → List ℕ → List ℕ → Type 0
Done edit out end tape aside = (end ≡ put out edit.0) × (tape ≡ edit.1) × (aside ≡ edit.2)

pub done : (edit known : Edit) (out end : List ℕ × ℕ) {tape aside : List ℕ} → edit ≡ known → Done known out end tape aside → Done edit out end tape aside
done edit known out end {tape} {aside} e = subst (λ (l : Edit). Done l out end tape aside) (sym e)
