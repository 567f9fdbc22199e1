-- Stability: what was read before a quiet byte is read again in every text that agrees up to that byte. Assumes nothing.
use Prim.Native.Nat.{◌+◌, ◌-◌, ◌≤◌, ℕ}
use native.Mathlib.Nat.{sub_self}
use native.Mathlib.Omega.{arith}
use mathlib.Core.Bool.{Bool, true}
use mathlib.Core.List.{List, [], ◌++◌, ◌∷◌}
use mathlib.Core.Path.{◌∙◌, ◌≡◌, ap, ap₂, subst, sym}
use lib.ListN.{drop, length, length-drop}
use lib.Seq.{drop-append-le}
use Rattle.reading.proofs.Steps.{drop_on, first, read_token}
use Rattle.reading.specs.Owed.{Laws}
use Rattle.reading.specs.Readings.{◌▸◌, Reading, end_of, read_part}
use Rattle.reading.specs.Readings.Reading.{entry}
use Rattle.reading.specs.Tokens.{Answer, Token, reach}
use Rattle.rows.specs.declared.Entry.{Entry}

module _ (tok : List ℕ → Answer) (quiet : ℕ → Bool) (laws : Laws tok quiet) where
  -- ends do not go back
  pub ends_grow : (es : List Entry) (at : ℕ) (s : List ℕ) (r : Reading) → read_part tok at s ≡ es ▸ r → at ≤ end_of at es
  unfolding end_of
  ends_grow [] at s r h = omega arith
  ends_grow (e ∷ es) at s r h =
      let f = first tok quiet laws at s e (es ▸ r) h in
      let t : Token = f.this in
      let q = ends_grow es (at + reach t) (drop (reach t) s) r (sym f.rest_is) in
      rw (ap (λ (x : Entry). x.end) f.entry_is) (omega arith)

  pub stable : (es : List Entry) (at : ℕ) (u v v' : List ℕ) (c : ℕ) (r : Reading) → quiet c ≡ true → read_part tok at (u ++ c ∷ v) ≡ es ▸ r
      → end_of at es ≤ at + length u
      → read_part tok at (u ++ c ∷ v') ≡ es ▸ read_part tok (end_of at es) (drop (end_of at es - at) (u ++ c ∷ v'))
  unfolding end_of
  stable [] at u v v' c r q h b = rw (sub_self at)
  stable (e ∷ es) at u v v' c r q h b =
      let f = first tok quiet laws at (u ++ c ∷ v) e (es ▸ r) h in
      let t : Token = f.this in
      let n : ℕ = reach t in
      let a : ℕ = at + n in
      let p : e.end ≡ a = ap (λ (x : Entry). x.end) f.entry_is in
      let grow : a ≤ end_of a es = ends_grow es a (drop n (u ++ c ∷ v)) r (sym f.rest_is) in
      let b' : end_of a es ≤ at + length u = subst (λ (x : ℕ). end_of x es ≤ at + length u) p b in
      let nu : n ≤ length u = omega arith in
      let ld : length (drop n u) ≡ length u - n = length-drop n u in
      let ih : read_part tok a (drop n u ++ c ∷ v') ≡ es ▸ read_part tok (end_of a es) (drop (end_of a es - a) (drop n u ++ c ∷ v')) =
      stable es a (drop n u) v v' c r q (ap (read_part tok a) (sym (drop-append-le n u (c ∷ v) nu)) ∙ sym f.rest_is) (omega arith) in
      let x' : List ℕ = u ++ c ∷ v' in
      let ih' : read_part tok a (drop n x') ≡ es ▸ read_part tok (end_of a es) (drop (end_of a es - a) (drop n x')) = rw (drop-append-le n u (c ∷ v') nu) ih in
      let far : drop (end_of a es - a) (drop n x') ≡ drop (end_of a es - at) x' = drop_on n (end_of a es - a) (end_of a es - at) x' (omega arith) in
      read_token tok quiet laws at x' t (laws.window u v v' c t q f.answer nu)
      ∙ ap₂ entry (sym f.entry_is) (ih' ∙ ap (λ (z : List ℕ). es ▸ read_part tok (end_of a es) z) far)
      ∙ ap (λ (z : ℕ). entry e (es ▸ read_part tok (end_of z es) (drop (end_of z es - at) x'))) (sym p)
