-- What the calls of paths do to paths of names.
use Rattle.std.proofs.Common.{◌≡◌, ◌≢◌, ℕ, ◌==◌, ◌-◌, ◌↔◌, Bool, true, false, List, [], ◌∷◌, ◌++◌, length, All, refl, sym, ◌∙◌, ap, subst, arith, inl, inr, append_assoc}
use Rattle.std.proofs.lemmas.Bool.Decides.{nat_tests}
use Rattle.std.specs.Str.{bytes_eq}
use Rattle.std.proofs.lemmas.Bool.{cases_Bool}
use Rattle.std.proofs.lemmas.Slice.Eq.{bytes_eq-Decides}
use Rattle.std.proofs.lemmas.List.{append-nil, drop_at, length_push}
use Rattle.std.proofs.lemmas.List.Elements.{All-contains, Contains-push}
use Rattle.dav_core.specs.Path.{Path, IsName, joined, path_bytes, star, with_slash, end_for, is_collection}
use Rattle.dav_core.specs.Target.{Reads}
use Rattle.dav_core.specs.UrlText.{IsTextOf, path_text, url_text}
use Rattle.dav_core.proofs.TargetLemmas.{Reads-one}
use Rattle.dav_core.proofs.BufferLemmas.{snoc_cases, joined_push}
use Rattle.dav_core.proofs.UrlLemmas.{reads_again}

-- ---- texts of paths

-- a path has one text
one_text : (a b s t : List ℕ) → IsTextOf a s → IsTextOf b t → a ≡ b → s ≡ t
one_text a b s t (inl h) (inl k) e = h.1 ∙ sym k.1
one_text a b s t (inl h) (inr k) e = absurd (k.0 (sym e ∙ h.0))
one_text a b s t (inr h) (inl k) e = absurd (h.0 (e ∙ k.0))
one_text a b s t (inr h) (inr k) e = rw (h.1, k.1, e) refl

-- and a text is that of one path
pub same_text : (src other a b s t : List ℕ) → Reads src a → Reads other b → IsTextOf a s → IsTextOf b t → (a ≡ b) ↔ (s ≡ t)
same_text src other a b s t ra rb ta tb = (
  one_text a b s t ta tb,
  λ e. Reads-one s a b (reads_again src a s ra ta) (subst (λ x. Reads x b) (sym e) (reads_again other b t rb tb)),
)

-- ---- the slash at the end

-- a text is closed if its last byte is a slash
pub closed_at : (xs : List ℕ) (c : ℕ) → c ≡ 47 → is_collection (xs ++ c ∷ []) ≡ true
closed_at xs c e =
    let at = drop_at xs (c ∷ []) (length (xs ++ c ∷ []) - 1) (omega (arith, length_push xs c)) in
    rw (at, e) refl

pub open_at : (xs : List ℕ) (c : ℕ) → c ≢ 47 → is_collection (xs ++ c ∷ []) ≡ false
open_at xs c h =
    let at = drop_at xs (c ∷ []) (length (xs ++ c ∷ []) - 1) (omega (arith, length_push xs c)) in
    let differ : (47 == c) ≡ false = grind (arith, nat_tests) in
    rw (at, differ) refl

-- a name has a last byte, which is no slash
last_byte : (n : List ℕ) → IsName n → (front : List ℕ) × (c : ℕ) × (n ≡ front ++ c ∷ []) × (c ≢ 47)
last_byte n name =
    elim (snoc_cases n) [
      | inl e ↦ absurd (name.not_blank (inl e))
      | inr (front, c, e) ↦
          let clean = All-contains (λ b. (b ≢ 0) × (b ≢ 47)) n c name.clean (rw e (Contains-push front c)) in
          (front, c, e, clean.1)
    ]

-- the names of a path end in no slash
open_names : (n : List ℕ) (ns : Path) → All IsName (n ∷ ns) → is_collection (joined (n ∷ ns)) ≡ false
open_names n ns names =
    elim (snoc_cases (n ∷ ns)) [
      | inl e ↦ cc
      | inr (init, last, e) ↦
          let name : IsName last = All-contains IsName (init ++ last ∷ []) last (subst (All IsName) e names) (Contains-push init last) in
          let (front, c, f, other) = last_byte last name in
          let is : joined (n ∷ ns) ≡ (joined init ++ 47 ∷ front) ++ c ∷ [] = ap joined e ∙ joined_push init last ∙ ap (λ xs. joined init ++ 47 ∷ xs) f ∙ sym (append_assoc (joined init) (47 ∷ front) (c ∷ [])) in
          ap is_collection is ∙ open_at (joined init ++ 47 ∷ front) c other
    ]

-- a slash is added where the path doesn't end in one
pub slash_added : (ns : Path) (closed : Bool) → All IsName ns → with_slash (path_bytes ns closed) ≡ path_bytes ns true
slash_added [] closed names = refl
slash_added (n ∷ ns) true names =
    rw (closed_at (joined (n ∷ ns)) 47 refl) (append-nil (joined (n ∷ ns) ++ 47 ∷ []))
slash_added (n ∷ ns) false names =
    ap with_slash (append-nil (joined (n ∷ ns)))
    ∙ ap (λ b. joined (n ∷ ns) ++ end_for b) (open_names n ns names)

-- a name is added at the end
pub name_added : (ns : Path) (closed : Bool) (n : List ℕ) → All IsName ns → with_slash (path_bytes ns closed) ++ n ≡ path_bytes (ns ++ n ∷ []) false
name_added [] closed n names = sym (append-nil (47 ∷ (n ++ [])) ∙ ap (λ xs. 47 ∷ xs) (append-nil n))
name_added (m ∷ ns) closed n names =
    ap (λ xs. xs ++ n) (slash_added (m ∷ ns) closed names)
    ∙ append_assoc (joined (m ∷ ns)) (47 ∷ []) n
    ∙ sym (joined_push (m ∷ ns) n)
    ∙ sym (append-nil (joined ((m ∷ ns) ++ n ∷ [])))

-- the text of a path that is not `*`
pub text_other : (bytes : List ℕ) → bytes ≢ star → path_text bytes ≡ url_text bytes
text_other bytes other =
    elim (cases_Bool (bytes_eq bytes star)) [
      | inl e ↦ absurd (other ((bytes_eq-Decides bytes star).0 e))
      | inr e ↦ rw e refl
    ]
