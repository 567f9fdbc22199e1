-- A refused attribute, if a stop byte has come where its reading stood or behind it, stays refused so; 17 tells of the end. Assumes nothing.
use Rattle.std.proofs.Common.{Ok, Err}
use Rattle.strings.specs.declared.literal.Literal.{Literal}
use Prim.Native.Nat.{◌+◌, ◌-◌, ◌≤◌, ℕ}
use native.Mathlib.Omega.{arith}
use mathlib.Core.Bool.{Bool, cond, false, true}
use mathlib.Core.List.{List, [], ◌++◌, ◌∷◌, append_assoc}
use mathlib.Core.Path.{◌∙◌, ◌≡◌, ap, refl, subst, sym}
use lib.Dec.{eqb}
use lib.ListN.{drop, get_or, length, length-append, length-drop}
use lib.Seq.{drop-append-le}
use Rattle.attributes.specs.Attributes.{attribute_of, by_keyword, by_listed, by_opened, enable_from, keyword_from, opened_of, string_value_from}
use Rattle.attributes.specs.Close.{answer_at, by_bracket, by_string, close_list, list_end, no_end, string_end, string_from}
use Rattle.attributes.specs.List.{list_from, list_of}
use Rattle.attributes.specs.Steps.{consume_from, sign_from, skip_from}
use Rattle.attributes.specs.Words.{by_word, keyword_at, keyword_of}
use Rattle.attributes.specs.declared.words.Keyword.{Keyword}
use Rattle.attributes.specs.declared.words.Keyword.TheVariants.{Enable, NoKeyword, Text}
use Rattle.strings.proofs.Closes.{Within-string, string_closed}
use Rattle.strings.specs.Quoted.{quoted_of}
use Rattle.strings.specs.Raw.{raw_of}
use Rattle.strings.specs.Strings.{string_of}
use Rattle.escapes.specs.declared.answers.Mode.TheVariants.{Str}
use Rattle.text.proofs.Choices.{cond_cases}
use Rattle.text.specs.Refusals.{expected_attribute_end, expected_string, placed_behind, Told}
use Rattle.text.specs.Classes.{ascii_next, ascii_raw, digit, letter, within}
use Rattle.text.specs.declared.refusal.Refusal.{Refusal}
use Rattle.settled.proofs.EscapeEnds.{Plain}
use Rattle.settled.proofs.ListEnds.{keyword_stopped, list_ended, list_keeps, list_least}
use Rattle.settled.proofs.QuoteEnds.{string_stays}
use Rattle.settled.proofs.StepEnds.{at_same, consume_keeps, from_least, here_keeps, here_least, opened_keeps, sign_found, sign_keeps, sign_least, skip_keeps, skip_least, tail, tail_on}
use Rattle.settled.proofs.StringEnds.{quoted_place}
use Rattle.settled.proofs.WordEnds.{not_byte, stop_ascii}
use Rattle.settled.specs.Bytes.{stops_byte}
use Rattle.settled.specs.Stood.{all_end, attribute_stood, behind_stood, bracket_stood, enable_by, enable_stood, end_stood, keyword_stood, list_stood, listed_stood, opened_stood, sign_stood, step_end, string_stood, value_by, value_stood}

-- ---- the reading does not go back

end_least : (s : List ℕ) (all : Bool) (p : ℕ) → p ≤ end_stood s all p
unfolding end_stood
end_least s true p = cond_cases (λ (n : ℕ). p ≤ n) (eqb (get_or s p 0) 0x5d) (p + 1) p (λ e. omega arith) (λ e. omega arith)
end_least s false p = here_least 0x5d s p

bracket_least : (s : List ℕ) (x : Told (Bool × ℕ)) → all_end x ≤ bracket_stood s x
bracket_least s (Ok (all, p)) = end_least s all p
bracket_least s (Err r) = omega arith

behind_least : (s : List ℕ) (t : Told ℕ) → step_end t ≤ behind_stood s t
behind_least s (Ok p) = end_least s true p
behind_least s (Err r) = omega arith

string_least : (s : List ℕ) (p : ℕ) (x : Told Literal) → p ≤ string_stood s p x
string_least s p (Ok l) = omega (arith, skip_least s (p + l.len), behind_least s (skip_from s (p + l.len)))
string_least s p (Err r) = omega arith

listed_least : (s : List ℕ) (p : ℕ) (x : Told (ℕ × ℕ)) → list_of s p ≡ x → list_stood (drop p s) 0 p ≤ listed_stood s p x
unfolding list_of
listed_least s p (Ok (q, sum)) e = omega (arith, list_ended (drop p s) 0 p 0 q sum e, from_least 0x29 s true q, bracket_least s (consume_from 0x29 s true q))
listed_least s p (Err r) e = omega arith

enable_step : (s : List ℕ) (at : ℕ) (t : Told ℕ) → sign_from 0x28 s at ≡ t → sign_stood 0x28 s at ≤ enable_by s at t
enable_step s at (Ok p) e = omega (arith, sign_found 0x28 s at p e, list_least (drop p s) 0 p, listed_least s p (list_of s p) refl)
enable_step s at (Err r) e = omega arith

enable_least : (s : List ℕ) (at : ℕ) → at ≤ enable_stood s at
unfolding enable_stood
enable_least s at = omega (arith, sign_least 0x28 s at, enable_step s at (sign_from 0x28 s at) refl)

value_step : (s : List ℕ) (at : ℕ) (t : Told ℕ) → sign_from 0x3d s at ≡ t → sign_stood 0x3d s at ≤ value_by s at t
value_step s at (Ok p) e = omega (arith, sign_found 0x3d s at p e, string_least s p (string_of (drop p s)))
value_step s at (Err r) e = omega arith

value_least : (s : List ℕ) (at : ℕ) → at ≤ value_stood s at
unfolding value_stood
value_least s at = omega (arith, sign_least 0x3d s at, value_step s at (sign_from 0x3d s at) refl)

keyword_least : (s : List ℕ) (at : ℕ) → at ≤ keyword_stood s at (keyword_at s at)
unfolding keyword_at by_word
keyword_least s at =
    let f = keyword_of (drop at s) in
    cond_cases (λ (k : Keyword). at ≤ keyword_stood s at k) (eqb f.end 0) _ _ (λ e. omega arith)
    (λ e. cond_cases (λ (k : Keyword). at ≤ keyword_stood s at k) (eqb f.code 1) (Enable (at + f.end)) (Text (at + f.end))
    (λ g. omega (arith, enable_least s (at + f.end))) (λ g. omega (arith, value_least s (at + f.end))))

module _ (c : ℕ) (is : stops_byte c ≡ true) (plain : Plain c) (a w v : List ℕ) where
  abbrev s : List ℕ
  s = a ++ c ∷ w

  abbrev skips : (at : ℕ) → at ≤ length a → step_end (skip_from s at) ≤ length a → skip_from (s ++ v) at ≡ skip_from s at
  skips = skip_keeps c (stop_ascii c is) a w v

  -- ---- the end
  end_keeps : (all : Bool) (p sum : ℕ) → p ≤ length a → end_stood s all p ≤ length a → list_end (s ++ v) all p sum ≡ list_end s all p sum
  unfolding list_end no_end end_stood
  end_keeps true p sum l h = rw (at_same c (stop_ascii c is) a w v p l)
  end_keeps false p sum l h =
      here_keeps c (stop_ascii c is) a w v 0x5d p (λ (t : Told ℕ). answer_at t (λ q. Err (expected_attribute_end 0))) (Err (expected_attribute_end 0)) l h

  close_keeps : (q sum : ℕ) → bracket_stood s (consume_from 0x29 s true q) ≤ length a → close_list (s ++ v) q sum ≡ close_list s q sum
  unfolding close_list
  close_keeps q sum h = go (consume_from 0x29 s true q) refl h
    where
      go : (x : Told (Bool × ℕ)) → consume_from 0x29 s true q ≡ x → bracket_stood s x ≤ length a → by_bracket (s ++ v) sum (consume_from 0x29 (s ++ v) true q) ≡ by_bracket s sum (consume_from 0x29 s true q)
      go (Ok (all, p)) e h =
          let l : p ≤ length a = omega (arith, end_least s all p) in
          let k : consume_from 0x29 (s ++ v) true q ≡ Ok (all, p) = consume_keeps c (stop_ascii c is) a w v 0x29 (Ok (true, q)) (subst (λ (x : Told (Bool × ℕ)). all_end x ≤ length a) (sym e) l) ∙ e in
          ap (by_bracket (s ++ v) sum) k ∙ end_keeps all p sum l h ∙ ap (by_bracket s sum) (sym e)
      go (Err r) e h =
          let k : consume_from 0x29 (s ++ v) true q ≡ Err r = consume_keeps c (stop_ascii c is) a w v 0x29 (Ok (true, q)) (subst (λ (x : Told (Bool × ℕ)). all_end x ≤ length a) (sym e) h) ∙ e in
          ap (by_bracket (s ++ v) sum) k ∙ ap (by_bracket s sum) (sym e)

  -- ---- `enable`
  part_on : (p : ℕ) → p ≤ length a → drop p (s ++ v) ≡ drop p s ++ v
  part_on p l = drop-append-le p s v (omega (arith, length-append a (c ∷ w)))

  lists_keeps : (p : ℕ) → list_stood (drop p s) 0 p ≤ length a → list_of (s ++ v) p ≡ list_of s p
  unfolding list_of
  lists_keeps p h =
      let l : p ≤ length a = omega (arith, h, list_least (drop p s) 0 p) in
      let d : drop p s ≡ drop p a ++ c ∷ w = tail c (stop_ascii c is) a w v p l in
      let h' : list_stood (drop p a ++ c ∷ w) 0 p ≤ p + length (drop p a) = subst (λ (x : List ℕ). list_stood x 0 p ≤ p + length (drop p a)) d (omega (arith, h, length-drop p a)) in
      ap (λ (x : List ℕ). list_from x 0 p 0) (part_on p l ∙ ap (λ (x : List ℕ). x ++ v) d) ∙ list_keeps c is (drop p a) w v 0 p 0 h' ∙ ap (λ (x : List ℕ). list_from x 0 p 0) (sym d)

  enable_keeps : (at : ℕ) → at ≤ length a → enable_stood s at ≤ length a → enable_from (s ++ v) at ≡ enable_from s at
  unfolding enable_from enable_stood
  enable_keeps at l h = go (sign_from 0x28 s at) refl h
    where
      signs : (t : Told ℕ) → sign_from 0x28 s at ≡ t → enable_by s at t ≤ length a → sign_from 0x28 (s ++ v) at ≡ t
      signs t e h = sign_keeps c (stop_ascii c is) a w v 0x28 at l (omega (arith, enable_step s at t e)) ∙ e

      listed : (p : ℕ) (x : Told (ℕ × ℕ)) → list_of s p ≡ x → listed_stood s p x ≤ length a → by_listed (s ++ v) (list_of (s ++ v) p) ≡ by_listed s x
      listed p (Ok (q, sum)) e h = ap (by_listed (s ++ v)) (lists_keeps p (omega (arith, listed_least s p (Ok (q, sum)) e)) ∙ e) ∙ close_keeps q sum h
      listed p (Err r) e h = ap (by_listed (s ++ v)) (lists_keeps p h ∙ e)

      go : (t : Told ℕ) → sign_from 0x28 s at ≡ t → enable_by s at t ≤ length a → answer_at (sign_from 0x28 (s ++ v) at) (λ p. by_listed (s ++ v) (list_of (s ++ v) p)) ≡ answer_at (sign_from 0x28 s at) (λ p. by_listed s (list_of s p))
      go (Ok p) e h = rw (signs (Ok p) e h, e) (listed p (list_of s p) refl h)
      go (Err r) e h = rw (signs (Err r) e h, e)

  -- ---- `type` and `schema`

  r_out : eqb c 0x72 ≡ false
  unfolding stops_byte ascii_raw ascii_next letter digit within
  r_out = not_byte c is 0x72 refl

  -- a refused string that c begins
  first_string : (r : Refusal) → string_of (c ∷ w) ≡ Err r → (r.number ≡ 17 → ⊥) → r.place ≤ 0 → string_of ((c ∷ w) ++ v) ≡ Err r
  unfolding string_of
  first_string r h n17 le = go (eqb c 0x22) refl (rw r_out at h)
    where
      go : (x : Bool) → eqb c 0x22 ≡ x → ◌≡◌ {A = Told Literal} (cond x (quoted_of Str 1 (c ∷ w)) (Err (expected_string 0))) (Err r) → ◌≡◌ {A = Told Literal} (cond (eqb c 0x22) (quoted_of Str 1 (c ∷ w ++ v)) (cond (eqb c 0x72) (raw_of Str 1 (c ∷ w ++ v)) (Err (expected_string 0)))) (Err r)
      go true e h = absurd (omega (arith, le, quoted_place c plain Str 1 (c ∷ w) r h n17))
      go false e h = rw (e, r_out) h

  part_string : (u : List ℕ) (r : Refusal) → string_of (u ++ c ∷ w) ≡ Err r → (r.number ≡ 17 → ⊥) → r.place ≤ length u → string_of ((u ++ c ∷ w) ++ v) ≡ Err r
  part_string [] r h n17 le = first_string r h n17 le
  part_string (x ∷ u) r h n17 le = string_stays c plain (x ∷ u) w v r (omega arith) h n17 le

  string_keeps : (p : ℕ) (r : Refusal) → p ≤ length a → string_from s p ≡ Err r → (r.number ≡ 17 → ⊥) → string_stood s p (string_of (drop p s)) ≤ length a → string_from (s ++ v) p ≡ Err r
  unfolding string_from string_end
  string_keeps p r l h n17 st =
      let d : drop p s ≡ drop p a ++ c ∷ w = tail c (stop_ascii c is) a w v p l in
      go (drop p a) d (length-drop p a) (string_of (drop p s)) refl h st
    where
      go : (u : List ℕ) → drop p s ≡ u ++ c ∷ w → length u ≡ length a - p → (x : Told Literal) → string_of (drop p s) ≡ x → by_string s p x ≡ Err r → string_stood s p x ≤ length a → by_string (s ++ v) p (string_of (drop p (s ++ v))) ≡ Err r
      go u d lu (Err q) e h st =
          let is' : placed_behind p q ≡ r = cc in
          let n : r.number ≡ q.number = sym (ap (λ (y : Refusal). y.number) is') in
          let k : string_of (drop p (s ++ v)) ≡ Err q = ap string_of (part_on p l ∙ ap (λ (y : List ℕ). y ++ v) d) ∙ part_string u q (ap string_of (sym d) ∙ e) (λ m. n17 (n ∙ m)) (omega arith) in
          ap (by_string (s ++ v) p) k ∙ h
      go u d lu (Ok y) e h st =
          let q : ℕ = p + y.len in
          let lq : q ≤ length a = omega (arith, skip_least s q, behind_least s (skip_from s q)) in
          let k : string_of (drop p (s ++ v)) ≡ Ok y =
          ap string_of (part_on p l ∙ ap (λ (z : List ℕ). z ++ v) d ∙ append_assoc u (c ∷ w) v)
          ∙ string_closed u (c ∷ w) (c ∷ (w ++ v)) (subst (Within-string (length u)) (sym (ap string_of (sym d) ∙ e)) (omega arith)) ∙ ap string_of (sym d) ∙ e in
          ap (by_string (s ++ v) p) k ∙ ends q (skip_from s q) refl lq st ∙ h
        where
          ends : (q : ℕ) (t : Told ℕ) → skip_from s q ≡ t → q ≤ length a → behind_stood s t ≤ length a
              → answer_at (skip_from (s ++ v) q) (λ x. list_end (s ++ v) true x 0) ≡ answer_at (skip_from s q) (λ x. list_end s true x 0)
          ends q (Ok x) e lq h =
              let lx : x ≤ length a = omega (arith, end_least s true x) in
              let k : skip_from (s ++ v) q ≡ Ok x = skips q lq (subst (λ (t : Told ℕ). step_end t ≤ length a) (sym e) lx) ∙ e in
              rw (k, e) (end_keeps true x 0 lx h)
          ends q (Err x) e lq h =
              let k : skip_from (s ++ v) q ≡ Err x = skips q lq (subst (λ (t : Told ℕ). step_end t ≤ length a) (sym e) h) ∙ e in
              rw (k, e)

  value_keeps : (at : ℕ) (r : Refusal) → at ≤ length a → string_value_from s at ≡ Err r → (r.number ≡ 17 → ⊥) → value_stood s at ≤ length a → string_value_from (s ++ v) at ≡ Err r
  unfolding string_value_from value_stood
  value_keeps at r l h n17 st = go (sign_from 0x3d s at) refl h st
    where
      signs : (t : Told ℕ) → sign_from 0x3d s at ≡ t → value_by s at t ≤ length a → sign_from 0x3d (s ++ v) at ≡ t
      signs t e h = sign_keeps c (stop_ascii c is) a w v 0x3d at l (omega (arith, value_step s at t e)) ∙ e

      go : (t : Told ℕ) → sign_from 0x3d s at ≡ t → answer_at (sign_from 0x3d s at) (string_from s) ≡ Err r → value_by s at t ≤ length a → answer_at (sign_from 0x3d (s ++ v) at) (string_from (s ++ v)) ≡ Err r
      go (Ok p) e h st =
          let h' : string_from s p ≡ Err r = sym (ap (λ (t : Told ℕ). answer_at t (string_from s)) e) ∙ h in
          rw (signs (Ok p) e st) (string_keeps p r (omega (arith, string_least s p (string_of (drop p s)))) h' n17 st)
      go (Err q) e h st = rw (signs (Err q) e st) (sym (ap (λ (t : Told ℕ). answer_at t (string_from s)) e) ∙ h)

  -- ---- the whole
  keyword_keeps : (at : ℕ) → at ≤ length a → keyword_at (s ++ v) at ≡ keyword_at s at
  unfolding keyword_at
  keyword_keeps at l =
      ap (λ (x : List ℕ). by_word at (keyword_of x)) (tail_on c (stop_ascii c is) a w v at l)
      ∙ (keyword_stopped c is at).same (drop at a) (w ++ v) w
      ∙ ap (λ (x : List ℕ). by_word at (keyword_of x)) (sym (tail c (stop_ascii c is) a w v at l))

  by-keyword : (at : ℕ) (r : Refusal) (k : Keyword) → by_keyword s k ≡ Err r → (r.number ≡ 17 → ⊥) → keyword_stood s at k ≤ length a → by_keyword (s ++ v) k ≡ Err r
  by-keyword at r (Enable p) h n17 st = enable_keeps p (omega (arith, enable_least s p)) st ∙ h
  by-keyword at r (Text p) h n17 st = value_keeps p r (omega (arith, value_least s p)) h n17 st
  by-keyword at r NoKeyword h n17 st = h

  pub attribute_stays : (r : Refusal) → attribute_of s ≡ Err r → (r.number ≡ 17 → ⊥) → attribute_stood s ≤ length a → attribute_of (s ++ v) ≡ Err r
  unfolding attribute_of attribute_stood keyword_from
  attribute_stays r h n17 st = go (opened_of s) refl h st
    where
      opens : all_end (opened_of s) ≤ length a → opened_of (s ++ v) ≡ opened_of s
      opens = opened_keeps c (stop_ascii c is) a w v

      go : (x : Told (Bool × ℕ)) → opened_of s ≡ x → by_opened s (opened_of s) ≡ Err r → opened_stood s x ≤ length a → by_opened (s ++ v) (opened_of (s ++ v)) ≡ Err r
      go (Err q) e h st =
          let k = opens (subst (λ (x : Told (Bool × ℕ)). all_end x ≤ length a) (sym e) st) ∙ e in
          ap (by_opened (s ++ v)) k ∙ sym (ap (by_opened s) e) ∙ h
      go (Ok (false, at)) e h st =
          let k = opens (subst (λ (x : Told (Bool × ℕ)). all_end x ≤ length a) (sym e) st) ∙ e in
          ap (by_opened (s ++ v)) k ∙ sym (ap (by_opened s) e) ∙ h
      go (Ok (true, at)) e h st =
          let l : at ≤ length a = omega (arith, keyword_least s at) in
          let k = opens (subst (λ (x : Told (Bool × ℕ)). all_end x ≤ length a) (sym e) l) ∙ e in
          let h' : by_keyword s (keyword_at s at) ≡ Err r = sym (ap (by_opened s) e) ∙ h in
          ap (by_opened (s ++ v)) k ∙ ap (by_keyword (s ++ v)) (keyword_keeps at l) ∙ by-keyword at r (keyword_at s at) h' n17 st
