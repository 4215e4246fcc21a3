-- The head by which a lock is ended is that of an UNLOCK.
use Rattle.std.proofs.Common.{inl, inr, Bool, true, ◌≡◌, ◌≢◌, ◌++◌, ◌∷◌, [], List, ℕ, All, IsTrue, codes, refl, sym, subst, ap, true≢false, false, ◌==◌, ◌∙◌}
use Rattle.std.proofs.lemmas.List.{append-nil, append_assoc}
use Rattle.std.proofs.lemmas.List.Elements.{All-cons, All-head, All-nil, All-tail}
use Rattle.httparse.specs.Grammar.{AllPass, LineEnd, RequestHead, crlf, is_token_byte, lf, print_blank, print_end, print_request, print_section, print_version}
use Rattle.dav_server.specs.Head.{IsHead, Request}
use Rattle.dav_core.specs.Path.{Path}
use Rattle.dav_core.specs.declared.method.DavMethod.{DavMethod}
use Rattle.dav_core.specs.declared.method.DavMethod.TheVariants.{Copy, Move, Unlock}
use Rattle.dav_server.specs.Holder.{IsRequestTo}
use Rattle.dav_core.specs.Path.{PathText}
use Rattle.dav_server.specs.Machine.{Exchange, Settings}
use Rattle.dav_server.proofs.MeansWorld.{one_method}
use Rattle.dav_http.specs.Ending.{unlock_text}
use Rattle.dav_confined.specs.ConfinedSteps.{KeepsOff, changes_below, changes_target}

abbrev IsNoSpace : ℕ → Type 0
IsNoSpace b = b ≢ 32

space_is_no_token : IsTrue (is_token_byte 32) → ⊥
unfolding is_token_byte
space_is_no_token is = true≢false (sym is)

no_spaces : (bytes : List ℕ) → AllPass is_token_byte bytes → All IsNoSpace bytes
no_spaces bytes pass = λ k d within same. space_is_no_token (subst (λ (b : ℕ). IsTrue (is_token_byte b)) same (pass k d within))

-- what comes before the first space
before_space : (a b x y : List ℕ) → All IsNoSpace a → All IsNoSpace b → a ++ (32 ∷ x) ≡ b ++ (32 ∷ y) → a ≡ b
before_space [] [] x y one two is = refl
before_space [] (b ∷ bs) x y one two is = absurd (All-head IsNoSpace b bs two (let e : 32 ≡ b = cc in sym e))
before_space (a ∷ more) [] x y one two is = absurd (All-head IsNoSpace a more one (let e : a ≡ 32 = cc in e))
before_space (a ∷ more) (b ∷ bs) x y one two is =
    let first : a ≡ b = cc in
    let rest : more ++ (32 ∷ x) ≡ bs ++ (32 ∷ y) = cc in
    let same : more ≡ bs = before_space more bs x y (All-tail IsNoSpace a more one) (All-tail IsNoSpace b bs two) rest in
    cc

abbrev first_of : List ℕ → ℕ
first_of [] = 0
first_of (b ∷ bs) = b

-- bytes that differ, as a test tells
apart : (a b : ℕ) → (a == b) ≡ false → (b == b) ≡ true → a ≢ b
apart a b other self same = true≢false (sym self ∙ ap (λ (n : ℕ). n == b) (sym same) ∙ other)

-- a head that begins with this name and a space has that method
named_first : (method name rest : List ℕ) (blank : List LineEnd) (more : List ℕ) → AllPass is_token_byte method → All IsNoSpace name → (b : ℕ) (bs : List ℕ) → name ≡ b ∷ bs → 13 ≢ b → 10 ≢ b
    → print_blank blank ++ (method ++ (32 ∷ more)) ≡ name ++ (32 ∷ rest) → method ≡ name
named_first method name rest [] more token plain b bs begins one other is = before_space method name more rest (no_spaces method token) plain is
named_first method name rest (crlf ∷ ends) more token plain b bs begins one other is = absurd (one (ap first_of is ∙ ap (λ (n : List ℕ). first_of (n ++ (32 ∷ rest))) begins))
named_first method name rest (lf ∷ ends) more token plain b bs begins one other is = absurd (other (ap first_of is ∙ ap (λ (n : List ℕ). first_of (n ++ (32 ∷ rest))) begins))

bare : (b : ℕ) (more : List ℕ) → (b == 32) ≡ false → All IsNoSpace more → All IsNoSpace (b ∷ more)
bare b more other all = All-cons IsNoSpace b more (apart b 32 other refl) all

plain_name : All IsNoSpace (codes "UNLOCK")
plain_name =
    bare 85 (78 ∷ 76 ∷ 79 ∷ 67 ∷ 75 ∷ []) refl
    (bare 78 (76 ∷ 79 ∷ 67 ∷ 75 ∷ []) refl (bare 76 (79 ∷ 67 ∷ 75 ∷ []) refl (bare 79 (67 ∷ 75 ∷ []) refl (bare 67 (75 ∷ []) refl (bare 75 [] refl (All-nil IsNoSpace))))))

cons_on : (b : ℕ) (xs ys : List ℕ) → (b ∷ xs) ++ ys ≡ b ∷ (xs ++ ys)
cons_on b xs ys = refl

printed : (h : RequestHead) → print_request h ≡ print_blank h.blank ++ (h.method ++ (32 ∷ (h.target ++ (32 ∷ (print_version h.minor ++ (print_end h.line_end ++ print_section h.fields h.last))))))
unfolding print_request
printed h = simp (append_assoc, cons_on)

text_is : (path token : List ℕ) → unlock_text path token ≡ codes "UNLOCK" ++ (32 ∷ (path ++ (codes " HTTP/1.1\r\nLock-Token: <" ++ (token ++ codes ">\r\n\r\n"))))
text_is path token = simp (append_assoc, cons_on)

-- the head of an UNLOCK has the method UNLOCK
unlock_is_unlock : (path token : List ℕ) (r : Request) → IsHead (unlock_text path token) r → r.method ≡ codes "UNLOCK"
unlock_is_unlock path token r (small, h, (valid, text), few, says) =
    ap (λ (q : Request). q.method) says
    ∙ named_first h.method (codes "UNLOCK") _ h.blank _ valid.method.1 plain_name 85 (78 ∷ 76 ∷ 79 ∷ 67 ∷ 75 ∷ []) refl
    (apart 13 85 refl refl) (apart 10 85 refl refl) (sym (printed h) ∙ sym (append-nil (print_request h)) ∙ sym text ∙ text_is path token)

module _ (covered : Path → Bool) (s : Settings) (x : Exchange) (path token : List ℕ) (at : x.head ≡ unlock_text path token) where
  unlock_alone : (r : Request) (m : DavMethod) (p : PathText) → IsRequestTo s x r m p → m ≡ Unlock
  unlock_alone r m p to = one_method r.method m Unlock to.method (tt, unlock_is_unlock path token r (subst (λ (b : List ℕ). IsHead b r) at to.head))

  -- so the server's own UNLOCK changes no content
  pub unlock_keeps_off : KeepsOff covered s x
  unlock_keeps_off = record {
    target = λ r m p to changes. absurd (true≢false (sym changes ∙ ap changes_target (unlock_alone r m p to)));
    below = λ r m p to changes. absurd (true≢false (sym changes ∙ ap changes_below (unlock_alone r m p to)));
    destination = λ r m p d to is named. elim is [
      | inl copy ↦ absurd (let other : Copy ≡ Unlock = sym copy ∙ unlock_alone r m p to in cc)
      | inr move ↦ absurd (let other : Move ≡ Unlock = sym move ∙ unlock_alone r m p to in cc)
    ];
  }
