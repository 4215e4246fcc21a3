-- Qualified names that are read.
use Rattle.std.proofs.Common.{◌≡◌, ℕ, cond, ◌==◌, List, [], ◌∷◌, ◌++◌, length, Option, Some, None, Result, Ok, Err, refl, sym, ap, subst, ◌∙◌}
use Rattle.std.proofs.lemmas.Bool.{eqb-true}
use Rattle.std.specs.Str.Lossy.{utf8_valid_len}
use Rattle.dav_xml.specs.declared.error.Fault.{Fault}
use Rattle.dav_xml.specs.declared.error.Fault.TheVariants.{Malformed}
use Rattle.dav_xml.specs.Read.{◌>>=◌}
use Rattle.dav_xml.specs.Bytes.{behind, split_byte}
use Rattle.dav_xml.specs.Names.{is_plain, plain_name}
use Rattle.dav_xml.specs.Legal.{IsLegalName}
use Rattle.dav_xml.specs.Namespaces.{name_parts, qualified}
use Rattle.dav_xml.specs.Expanded.{IsPlain}
use Rattle.dav_xml.proofs.Escapes.{by_test}
use Rattle.dav_xml.proofs.Declared.{ok_or_else, name_ok}
use Rattle.dav_xml.proofs.PlainNames.{of_plain, name_behind}

abbrev plain_or : Result (List ℕ) Fault → Result (List ℕ) Fault
plain_or read = read >>= λ found. cond (is_plain found) (Ok found) (Err Malformed)

-- a plain name is read as it is
pub plain_same : (bytes name : List ℕ) → plain_name bytes ≡ Ok name → name ≡ bytes
plain_same bytes name h = by_test (utf8_valid_len bytes == length bytes) (λ t. plain_or (cond {A = Result (List ℕ) Fault} t (Ok bytes) (Err Malformed)) ≡ Ok name → name ≡ bytes)
    (λ e k. by_test (is_plain bytes) (λ t. cond {A = Result (List ℕ) Fault} t (Ok bytes) (Err Malformed) ≡ Ok name → name ≡ bytes) (λ f j. let same : bytes ≡ name = ap (ok_or_else []) j in sym same) (λ f j. absurd cc) k)
    (λ e k. absurd cc) h

pub plain_is : (bytes name : List ℕ) → plain_name bytes ≡ Ok name → IsPlain name
plain_is bytes name h = ap plain_name (plain_same bytes name h) ∙ h

-- the text of what was split at a byte
abbrev pub whole : ℕ → Option (List ℕ × List ℕ) → List ℕ → List ℕ
whole q None bytes = bytes
whole q (Some p) bytes = p.0 ++ q ∷ p.1

whole_behind : (q x : ℕ) (o : Option (List ℕ × List ℕ)) (xs : List ℕ) → whole q (behind (x ∷ []) o) (x ∷ xs) ≡ x ∷ whole q o xs
whole_behind q x None xs = refl
whole_behind q x (Some p) xs = refl

pub split_whole : (q : ℕ) (bytes : List ℕ) → whole q (split_byte q bytes) bytes ≡ bytes
split_whole q [] = refl
split_whole q (x ∷ xs) = by_test (x == q) (λ t. whole q (cond t (Some ([], xs)) (behind (x ∷ []) (split_byte q xs))) (x ∷ xs) ≡ x ∷ xs)
    (λ is. ap (λ (y : ℕ). y ∷ xs) (sym (eqb-true x q is))) (λ other. whole_behind q x (split_byte q xs) xs ∙ ap (λ (ys : List ℕ). x ∷ ys) (split_whole q xs))

-- what is known of a qualified name
pub record OfQualified (name : List ℕ) (parts : Option (List ℕ) × List ℕ) : Type 0 where
  pub legal : IsLegalName name
  pub prefix_plain : (p : List ℕ) → parts.0 ≡ Some p → IsPlain p
  pub local_plain : IsPlain parts.1
  pub spelled : (p : List ℕ) → parts.0 ≡ Some p → name ≡ p ++ 58 ∷ parts.1

abbrev parts_of : Option (List ℕ) × List ℕ → Result (Option (List ℕ) × List ℕ) Fault → Option (List ℕ) × List ℕ
parts_of other (Ok p) = p
parts_of other (Err f) = other

without : (name : List ℕ) (parts : Option (List ℕ) × List ℕ) (r : Result (List ℕ) Fault) → plain_name name ≡ r → (r >>= λ local. name_ok None local) ≡ Ok parts → OfQualified name parts
without name parts (Err f) is h = absurd cc
without name parts (Ok local) is h =
    let same : (None, local) ≡ parts = ap (parts_of parts) h in
    subst (OfQualified name) same (record { legal = (of_plain name (ap plain_name (sym (plain_same name local is)) ∙ plain_is name local is ∙ ap (λ (x : List ℕ). Ok x) (plain_same name local is))).legal; prefix_plain = λ p e. absurd cc; local_plain = plain_is name local is; spelled = λ p e. absurd cc })

abbrev joined : List ℕ → List ℕ → List ℕ
joined prefix local = prefix ++ 58 ∷ local

with_local : (name prefix : List ℕ) (p : List ℕ × List ℕ) (parts : Option (List ℕ) × List ℕ) → joined p.0 p.1 ≡ name → plain_name p.0 ≡ Ok prefix → (r : Result (List ℕ) Fault) → plain_name p.1 ≡ r
    → (r >>= λ local. name_ok (Some prefix) local) ≡ Ok parts → OfQualified name parts
with_local name prefix p parts e is (Err f) is1 h = absurd cc
with_local name prefix p parts e is (Ok local) is1 h =
    let same : (Some prefix, local) ≡ parts = ap (parts_of parts) h in
    let text : joined prefix local ≡ name = ap (λ (x : List ℕ). joined x local) (plain_same p.0 prefix is) ∙ ap (joined p.0) (plain_same p.1 local is1) ∙ e in
    let front = plain_is p.0 prefix is in
    subst (OfQualified name) same (record {
      legal = subst IsLegalName text (name_behind prefix local front (plain_is p.1 local is1));
      prefix_plain = λ q k. let also : prefix ≡ q = cc in subst IsPlain also front;
      local_plain = plain_is p.1 local is1;
      spelled = λ q k. let also : prefix ≡ q = cc in subst (λ (x : List ℕ). name ≡ x ++ 58 ∷ local) also (sym text);
    })

with_prefix : (name : List ℕ) (p : List ℕ × List ℕ) (parts : Option (List ℕ) × List ℕ) → joined p.0 p.1 ≡ name → (r : Result (List ℕ) Fault) → plain_name p.0 ≡ r
    → (r >>= λ prefix. plain_name p.1 >>= λ local. name_ok (Some prefix) local) ≡ Ok parts → OfQualified name parts
with_prefix name p parts e (Err f) is h = absurd cc
with_prefix name p parts e (Ok prefix) is h = with_local name prefix p parts e is (plain_name p.1) refl h

by_split : (name : List ℕ) (parts : Option (List ℕ) × List ℕ) (o : Option (List ℕ × List ℕ)) → whole 58 o name ≡ name → name_parts name o ≡ Ok parts → OfQualified name parts
by_split name parts None e h = without name parts (plain_name name) refl h
by_split name parts (Some p) e h = with_prefix name p parts e (plain_name p.0) refl h

pub of_qualified : (name : List ℕ) (parts : Option (List ℕ) × List ℕ) → qualified name ≡ Ok parts → OfQualified name parts
unfolding qualified
of_qualified name parts h = by_split name parts (split_byte 58 name) (split_whole 58 name) h
