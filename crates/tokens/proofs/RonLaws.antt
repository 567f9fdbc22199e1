-- The token reader of RON meets what the theory of readings asks of it. Assumes nothing.
use Rattle.std.proofs.Common.{Ok, Err}
use Rattle.text.specs.Refusals.{Told, placed_behind}
use Prim.Native.Nat.{ℕ, ◌-◌, ◌<◌, ◌≤◌}
use native.Mathlib.Omega.{arith}
use mathlib.Core.Bool.{true}
use mathlib.Core.List.{List, [], ◌++◌, ◌∷◌}
use mathlib.Core.Path.{◌≡◌, ap, refl, sym, subst, ◌∙◌}
use lib.Dec.{ltb}
use lib.ListN.{drop, length, take, length-drop, length-append}
use lib.Seq.{drop-append-le}
use borrow.Author.Tests.{lt-ltb, le-ltb, ltb-true}
use Rattle.text.proofs.Choices.{either, lt_or_le}
use Rattle.text.proofs.ClassLaws.{inside}
use Rattle.text.proofs.Lists.{tail_part}
use Rattle.text.specs.Classes.{within}
use Rattle.text.specs.declared.refusal.Refusal.{Refusal}
use Rattle.comments.proofs.GapLaws.{EndsBy, gap_bounded, gap_restarts}
use Rattle.comments.proofs.GapWindow.{gap_stop}
use Rattle.comments.specs.Gaps.{gap_of, gap_from}
use Rattle.comments.specs.declared.gap.Gap.{Gap}
use Rattle.comments.specs.declared.gap.Gap.TheVariants as gap
use Rattle.reading.proofs.QuietLaws.{quiet_all}
use Rattle.reading.specs.Owed.{Laws, quiet_byte}
use Rattle.reading.specs.Tokens.{Token as Answered, reach, refuse, stop, token, ungapped}
use Rattle.tokens.proofs.TokenLaws.{Fits, Lexed, token_bounded, token_window}
use Rattle.tokens.specs.Lexemes.{lexeme, lexeme_of}
use Rattle.tokens.specs.Ron.{lexeme_behind, by_gap, ron_token}
use Rattle.tokens.specs.Token.{token_of}
use Rattle.tokens.specs.declared.lexeme.Lexeme.{Lexeme}
use Rattle.tokens.specs.declared.token.Token.{Token}

-- ---- what the code found

pub behind_said : (s : List ℕ) (g : ℕ) (t : Token) (l l' : Told Lexeme) → t ≡ token_of (take (length s - g) (drop g s)) → l ≡ lexeme_of t → l ≡ l' → lexeme_of (token_of (drop g s)) ≡ l'
behind_said s g t l l' et el e = ap lexeme_of (ap token_of (sym (tail_part s g)) ∙ sym et) ∙ sym el ∙ e

pub gap_token : (s : List ℕ) (g : ℕ) → g < length s → by_gap s (gap.Clear g) ≡ lexeme_behind g (lexeme_of (token_of (drop g s)))
gap_token s g h = rw (lt-ltb g (length s) h)

pub gap_end : (s : List ℕ) (g : ℕ) → length s ≤ g → by_gap s (gap.Clear g) ≡ stop
gap_end s g h = rw (le-ltb g (length s) h)

-- ---- a token and where it stands

-- an accepted answer: the gap is clear, and the lexeme stands behind it
pub record At (s : List ℕ) (t : Answered) : Type 0 where
  pub gap_is : gap_of s ≡ gap.Clear t.gap
  pub inside : t.gap < length s
  pub lexeme_is : lexeme_of (token_of (drop t.gap s)) ≡ lexeme t.len t.kind t.detail

same_token : (g : ℕ) (l : Lexeme) (t : Answered) → token (record { gap = g; len = l.len; kind = l.kind; detail = l.detail }) ≡ token t
    → (g ≡ t.gap) × (Ok l ≡ lexeme t.len t.kind t.detail)
same_token g l t h = let e : record { gap = g; len = l.len; kind = l.kind; detail = l.detail } ≡ t = cc in (ap (λ (x : Answered). x.gap) e, ap (λ (x : Answered). lexeme x.len x.kind x.detail) e)

at_lexeme : (s : List ℕ) (g : ℕ) (t : Answered) (a : Told Lexeme) → gap_of s ≡ gap.Clear g → g < length s → lexeme_of (token_of (drop g s)) ≡ a → lexeme_behind g a ≡ token t → At s t
at_lexeme s g t (Ok l) eg i el h =
    let q = same_token g l t h in
    record {
      gap_is = eg ∙ ap gap.Clear q.0;
      inside = omega (arith, q.0);
      lexeme_is = ap (λ (n : ℕ). lexeme_of (token_of (drop n s))) (sym q.0) ∙ el ∙ q.1;
    }
at_lexeme s g t (Err r) eg i el h = let z : ◌≡◌ {A = ℕ} 0 1 = cc in absurd (omega arith)

at_gap : (s : List ℕ) (t : Answered) (a : Gap) → gap_of s ≡ a → by_gap s a ≡ token t → At s t
at_gap s t (gap.Clear g) e h =
    either (lt_or_le g (length s))
    (λ i. at_lexeme s g t (lexeme_of (token_of (drop g s))) e i refl (sym (gap_token s g i) ∙ h))
    (λ i. let z : stop ≡ token t = sym (gap_end s g i) ∙ h in let y : ◌≡◌ {A = ℕ} 0 1 = cc in absurd (omega arith))
at_gap s t (gap.InLine n) e h = let z : ◌≡◌ {A = ℕ} 0 1 = cc in absurd (omega arith)
at_gap s t (gap.Refused r) e h = let z : ◌≡◌ {A = ℕ} 0 1 = cc in absurd (omega arith)

pub token_is : (s : List ℕ) (t : Answered) → ron_token s ≡ token t → At s t
unfolding ron_token
token_is s t h = at_gap s t (gap_of s) refl h

pub is_token : (s : List ℕ) (t : Answered) → At s t → ron_token s ≡ token t
unfolding ron_token
is_token s t a = ap (by_gap s) a.gap_is ∙ gap_token s t.gap a.inside ∙ ap (lexeme_behind t.gap) a.lexeme_is

-- ---- the laws

quiet_ascii : (c : ℕ) → quiet_byte c ≡ true → c < 0x80
quiet_ascii c q = ltb-true c 0x80 (quiet_all (λ (b : ℕ). ltb b 0x80) c refl q)

nil_stop : ron_token [] ≡ stop
unfolding ron_token gap_of gap_from
nil_stop = refl

module _ (s : List ℕ) (t : Answered) (h : ron_token s ≡ token t) where
  pub lexed : Lexed (length s - t.gap) (lexeme t.len t.kind t.detail)
  lexed =
      let a = token_is s t h in
      let b = token_bounded (drop t.gap s) (omega (arith, a.inside, length-drop t.gap s)) in
      subst (λ (n : ℕ). Lexed n (lexeme t.len t.kind t.detail)) (length-drop t.gap s) (subst (Lexed (length (drop t.gap s))) a.lexeme_is b)

  pub kinds : within 1 16 t.kind ≡ true
  kinds = inside 1 16 t.kind lexed.2 lexed.3

  ron_inside : reach t ≤ length s
  ron_inside = omega (arith, lexed.1, (token_is s t h).inside)

  ron_restart : ron_token (drop t.gap s) ≡ token (ungapped t)
  ron_restart =
      let a = token_is s t h in
      is_token (drop t.gap s) (ungapped t)
      record {
        gap_is = gap_restarts s t.gap a.gap_is;
        inside = omega (arith, a.inside, length-drop t.gap s);
        lexeme_is = a.lexeme_is;
      }

-- the place of a refusal
by-lexeme : (s : List ℕ) (g : ℕ) (r : Refusal) (a : Told Lexeme) → g < length s → Lexed (length (drop g s)) a → lexeme_behind g a ≡ refuse r → r.place ≤ length s
by-lexeme s g r (Ok l) i b h = let z : ◌≡◌ {A = ℕ} 0 1 = cc in absurd (omega arith)
by-lexeme s g r (Err q) i b h =
    let e : placed_behind g q ≡ r = cc in
    subst (λ (x : Refusal). x.place ≤ length s) e (omega (arith, b, length-drop g s))

by-gap : (s : List ℕ) (r : Refusal) (a : Gap) → EndsBy (length s) a → by_gap s a ≡ refuse r → r.place ≤ length s
by-gap s r (gap.Clear g) b h =
    either (lt_or_le g (length s))
    (λ i. by-lexeme s g r (lexeme_of (token_of (drop g s))) i (token_bounded (drop g s) (omega (arith, length-drop g s))) (sym (gap_token s g i) ∙ h))
    (λ i. let z : stop ≡ refuse r = sym (gap_end s g i) ∙ h in let y : ◌≡◌ {A = ℕ} 0 1 = cc in absurd (omega arith))
by-gap s r (gap.InLine n) b h = let z : ◌≡◌ {A = ℕ} 0 1 = cc in absurd (omega arith)
by-gap s r (gap.Refused q) b h = let e : q ≡ r = cc in subst (λ (x : Refusal). x.place ≤ length s) e b

pub refused_within : (s : List ℕ) (r : Refusal) → ron_token s ≡ refuse r → r.place ≤ length s
unfolding ron_token
refused_within s r h = by-gap s r (gap_of s) (gap_bounded s) h

fits : (n : ℕ) (a : Told Lexeme) (len kind detail : ℕ) → a ≡ lexeme len kind detail → len ≤ n → Fits n a
fits n a len kind detail e h = subst (Fits n) (sym e) h

ron_window : (u v v' : List ℕ) (c : ℕ) (t : Answered) → quiet_byte c ≡ true → ron_token (u ++ c ∷ v) ≡ token t → reach t ≤ length u → ron_token (u ++ c ∷ v') ≡ token t
ron_window u v v' c t q h le =
    let a = token_is (u ++ c ∷ v) t h in
    let pos = (lexed (u ++ c ∷ v) t h).0 in
    let g : t.gap ≤ length u = omega arith in
    let w = drop t.gap u in
    let e : drop t.gap (u ++ c ∷ v) ≡ w ++ c ∷ v = drop-append-le t.gap u (c ∷ v) g in
    let e' : drop t.gap (u ++ c ∷ v') ≡ w ++ c ∷ v' = drop-append-le t.gap u (c ∷ v') g in
    let l : lexeme_of (token_of (w ++ c ∷ v)) ≡ lexeme t.len t.kind t.detail = ap (λ (x : List ℕ). lexeme_of (token_of x)) (sym e) ∙ a.lexeme_is in
    let same = token_window c q w v v' (omega (arith, length-drop t.gap u)) (fits (length w) _ t.len t.kind t.detail l (omega (arith, length-drop t.gap u))) in
    is_token (u ++ c ∷ v') t
    record {
      gap_is = gap_stop u v v' c t.gap (quiet_ascii c q) a.gap_is (omega arith);
      inside = omega (arith, length-append u (c ∷ v'));
      lexeme_is = ap (λ (x : List ℕ). lexeme_of (token_of x)) e' ∙ ap lexeme_of same ∙ l;
    }

-- document 01, "Repair": RON's token reader may be repaired
pub laws : Laws ron_token quiet_byte
unfolding ron_token
laws = record {
  nil = nil_stop;
  grows = λ s t h. (lexed s t h).0;
  inside = ron_inside;
  restart = ron_restart;
  window = ron_window;
}
