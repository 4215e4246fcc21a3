-- What is escaped is resolved again, and has no marks of markup.
use Rattle.std.proofs.Common.{◌≡◌, ℕ, Bool, true, false, cond, ◌&&◌, ◌||◌, ◌==◌, List, [], ◌∷◌, ◌++◌, codes, Some, None, Result, Ok, refl, sym, ap, subst, ◌∙◌, append_assoc, encode_utf8}
use Rattle.std.proofs.lemmas.Bool.{eqb-true, and_parts}
use Rattle.std.proofs.lemmas.List.Folds.{list_any-append}
use Rattle.std.specs.List.{list_any}
use Rattle.dav_xml.specs.declared.error.Fault.{Fault}
use Rattle.dav_xml.specs.References.{resolved_in, resolved, before, plain_byte}
use Rattle.dav_xml.specs.Spelling.{escaped_byte, escaped}

pub by_test : (t : Bool) (Q : Bool → Type 0) → (t ≡ true → Q true) → (t ≡ false → Q false) → Q t
by_test true Q p q = p refl
by_test false Q p q = q refl

-- a byte that stands for itself
pub record Plain (attribute : Bool) (b : ℕ) : Type 0 where
  pub n38 : (b == 38) ≡ false
  pub n60 : (b == 60) ≡ false
  pub n62 : (b == 62) ≡ false
  pub n34 : (b == 34) ≡ false
  pub n13 : (b == 13) ≡ false
  pub n10 : (attribute && b == 10) ≡ false
  pub n9 : (attribute && b == 9) ≡ false

abbrev e9 : Bool → ℕ → List ℕ
e9 attribute b = cond (attribute && b == 9) (codes "&#9;") (b ∷ [])

abbrev e10 : Bool → ℕ → List ℕ
e10 attribute b = cond (attribute && b == 10) (codes "&#10;") (e9 attribute b)

abbrev e13 : Bool → ℕ → List ℕ
e13 attribute b = cond (b == 13) (codes "&#13;") (e10 attribute b)

abbrev e34 : Bool → ℕ → List ℕ
e34 attribute b = cond (b == 34) (codes "&quot;") (e13 attribute b)

abbrev e62 : Bool → ℕ → List ℕ
e62 attribute b = cond (b == 62) (codes "&gt;") (e34 attribute b)

abbrev e60 : Bool → ℕ → List ℕ
e60 attribute b = cond (b == 60) (codes "&lt;") (e62 attribute b)

pub escape_cases : (attribute : Bool) (P : List ℕ → ℕ → Type 0) → P (codes "&amp;") 38 → P (codes "&lt;") 60 → P (codes "&gt;") 62 → P (codes "&quot;") 34 → P (codes "&#13;") 13
    → P (codes "&#10;") 10 → P (codes "&#9;") 9 → ((b : ℕ) → Plain attribute b → P (b ∷ []) b) → (b : ℕ) → P (escaped_byte attribute b) b
escape_cases attribute P p38 p60 p62 p34 p13 p10 p9 other b =
    by_test (b == 38) (λ t. P (cond t (codes "&amp;") (e60 attribute b)) b) (λ e. subst (P (codes "&amp;")) (sym (eqb-true b 38 e)) p38) (λ n38.
    by_test (b == 60) (λ t. P (cond t (codes "&lt;") (e62 attribute b)) b) (λ e. subst (P (codes "&lt;")) (sym (eqb-true b 60 e)) p60) (λ n60.
    by_test (b == 62) (λ t. P (cond t (codes "&gt;") (e34 attribute b)) b) (λ e. subst (P (codes "&gt;")) (sym (eqb-true b 62 e)) p62) (λ n62.
    by_test (b == 34) (λ t. P (cond t (codes "&quot;") (e13 attribute b)) b) (λ e. subst (P (codes "&quot;")) (sym (eqb-true b 34 e)) p34) (λ n34.
    by_test (b == 13) (λ t. P (cond t (codes "&#13;") (e10 attribute b)) b) (λ e. subst (P (codes "&#13;")) (sym (eqb-true b 13 e)) p13) (λ n13.
    by_test (attribute && b == 10) (λ t. P (cond t (codes "&#10;") (e9 attribute b)) b) (λ e. subst (P (codes "&#10;")) (sym (eqb-true b 10 (and_parts attribute (b == 10) e).1)) p10) (λ n10.
    by_test (attribute && b == 9) (λ t. P (cond t (codes "&#9;") (b ∷ [])) b) (λ e. subst (P (codes "&#9;")) (sym (eqb-true b 9 (and_parts attribute (b == 9) e).1)) p9) (λ n9.
    other b (record { n38 = n38; n60 = n60; n62 = n62; n34 = n34; n13 = n13; n10 = n10; n9 = n9 }))))))))

-- ---- resolving

plain_is : (attribute : Bool) (b : ℕ) → Plain attribute b → plain_byte attribute b ≡ b
plain_is false b p = refl
plain_is true b p =
    by_test (b == 32) (λ t. cond (((t || b == 9) || b == 10) || b == 13) 32 b ≡ b) (λ e. sym (eqb-true b 32 e)) (λ n32.
    rw (p.n9, p.n10, p.n13) refl)

abbrev ResolvesTo : Bool → List ℕ → ℕ → Type 0
ResolvesTo attribute bytes b = (rest tail : List ℕ) → resolved_in attribute None rest ≡ Ok tail → resolved_in attribute None (bytes ++ rest) ≡ Ok (b ∷ tail)

abbrev then : ℕ → Result (List ℕ) Fault → Result (List ℕ) Fault
then b read = before (b ∷ []) read

plain_resolves : (attribute : Bool) (b : ℕ) → Plain attribute b → ResolvesTo attribute (b ∷ []) b
unfolding resolved_in
plain_resolves attribute b p rest tail e =
    ap (λ (t : Bool). cond t (resolved_in attribute (Some []) rest) (then (plain_byte attribute b) (resolved_in attribute None rest))) p.n38
    ∙ ap (λ (q : ℕ). then q (resolved_in attribute None rest)) (plain_is attribute b p) ∙ ap (then b) e

byte_resolves : (attribute : Bool) (b : ℕ) → ResolvesTo attribute (escaped_byte attribute b) b
unfolding resolved_in lib.Utf8.encode
byte_resolves attribute = escape_cases attribute (ResolvesTo attribute)
    (λ rest tail e. ap (then 38) e) (λ rest tail e. ap (then 60) e) (λ rest tail e. ap (then 62) e) (λ rest tail e. ap (then 34) e)
    (λ rest tail e. ap (then 13) e) (λ rest tail e. ap (then 10) e) (λ rest tail e. ap (then 9) e) (plain_resolves attribute)

pub resolves : (attribute : Bool) (bs : List ℕ) → resolved attribute (escaped attribute bs) ≡ Ok bs
unfolding resolved_in escaped
resolves attribute [] = refl
resolves attribute (b ∷ bs) = byte_resolves attribute b (escaped attribute bs) bs (resolves attribute bs)

pub escaped_append : (attribute : Bool) (xs ys : List ℕ) → escaped attribute (xs ++ ys) ≡ escaped attribute xs ++ escaped attribute ys
unfolding escaped
escaped_append attribute [] ys = refl
escaped_append attribute (x ∷ xs) ys = ap (λ (bs : List ℕ). escaped_byte attribute x ++ bs) (escaped_append attribute xs ys) ∙ sym (append_assoc (escaped_byte attribute x) (escaped attribute xs) (escaped attribute ys))

-- ---- bytes that are missing

pub record Lacks (q : ℕ) (bytes : List ℕ) : Type 0 where
  pub none : list_any (λ b. b == q) bytes ≡ false

plain_lacks : (q : ℕ) (b : ℕ) → (b == q) ≡ false → list_any (λ x. x == q) (b ∷ []) ≡ false
plain_lacks q b e = rw e refl

abbrev lacking : ℕ → List ℕ → ℕ → Type 0
lacking q bytes b = list_any (λ x. x == q) bytes ≡ false

byte_lacks_60 : (attribute : Bool) (b : ℕ) → lacking 60 (escaped_byte attribute b) b
byte_lacks_60 attribute = escape_cases attribute (lacking 60) refl refl refl refl refl refl refl (λ b p. plain_lacks 60 b p.n60)

byte_lacks_62 : (attribute : Bool) (b : ℕ) → lacking 62 (escaped_byte attribute b) b
byte_lacks_62 attribute = escape_cases attribute (lacking 62) refl refl refl refl refl refl refl (λ b p. plain_lacks 62 b p.n62)

byte_lacks_34 : (attribute : Bool) (b : ℕ) → lacking 34 (escaped_byte attribute b) b
byte_lacks_34 attribute = escape_cases attribute (lacking 34) refl refl refl refl refl refl refl (λ b p. plain_lacks 34 b p.n34)

all_lack : (attribute : Bool) (q : ℕ) → ((b : ℕ) → lacking q (escaped_byte attribute b) b) → (bs : List ℕ) → list_any (λ x. x == q) (escaped attribute bs) ≡ false
unfolding escaped
all_lack attribute q each [] = refl
all_lack attribute q each (b ∷ bs) = list_any-append (λ x. x == q) (escaped_byte attribute b) (escaped attribute bs) ∙ rw (each b, all_lack attribute q each bs) refl

pub lacks_60 : (attribute : Bool) (bs : List ℕ) → list_any (λ x. x == 60) (escaped attribute bs) ≡ false
lacks_60 attribute bs = all_lack attribute 60 (byte_lacks_60 attribute) bs

pub lacks_62 : (attribute : Bool) (bs : List ℕ) → list_any (λ x. x == 62) (escaped attribute bs) ≡ false
lacks_62 attribute bs = all_lack attribute 62 (byte_lacks_62 attribute) bs

byte_lacks_13 : (attribute : Bool) (b : ℕ) → lacking 13 (escaped_byte attribute b) b
byte_lacks_13 attribute = escape_cases attribute (lacking 13) refl refl refl refl refl refl refl (λ b p. plain_lacks 13 b p.n13)

pub lacks_13 : (attribute : Bool) (bs : List ℕ) → list_any (λ x. x == 13) (escaped attribute bs) ≡ false
lacks_13 attribute bs = all_lack attribute 13 (byte_lacks_13 attribute) bs

pub lacks_34 : (attribute : Bool) (bs : List ℕ) → list_any (λ x. x == 34) (escaped attribute bs) ≡ false
lacks_34 attribute bs = all_lack attribute 34 (byte_lacks_34 attribute) bs
