-- Names and prefixes that the server writes.
use Rattle.std.proofs.Common.{◌≡◌, ℕ, ◌<◌, Bool, true, cond, ◌&&◌, nat_le, List, [], ◌∷◌, ◌++◌, codes, chars, Some, Result, Ok, Err, refl, sym, ap, subst, ◌∙◌, arith}
use Rattle.std.proofs.lemmas.Bool.{and_parts, and_from}
use Rattle.std.proofs.lemmas.Bool.Decides.{nat_tests}
use Rattle.std.proofs.lemmas.Str.{chars-encodes, encode_ascii}
use Rattle.std.specs.List.{list_all}
use Rattle.std.specs.Str.{encode_utf8_all, all_scalars}
use lib.Utf8.{encode, scalar}
use Rattle.dav_core.specs.Element.{xmlns_name}
use Rattle.dav_xml.specs.declared.error.Fault.{Fault}
use Rattle.dav_xml.specs.declared.error.Fault.TheVariants.{Malformed}
use Rattle.dav_xml.specs.Read.{◌>>=◌}
use Rattle.dav_xml.specs.References.{utf8}
use Rattle.dav_xml.specs.Names.{are_plain, is_plain}
use Rattle.dav_xml.specs.Scopes.{may_declare, declared_by}
use Rattle.dav_xml.specs.Legal.{IsLegal, IsLegalName}
use Rattle.dav_xml.specs.Expanded.{IsPlain, IsDeclarable, IsExpandedName, IsDeclaration}
use Rattle.dav_xml.specs.Sendable.{IsKnownPrefix}
use Rattle.dav_xml.proofs.Legal.{legal_utf8}
use Rattle.dav_xml.proofs.LegalTrees.{legal_word}
use Rattle.dav_xml.proofs.Declared.{declared_if}
use Rattle.dav_xml.proofs.PlainNames.{declaring_name}

abbrev printable : ℕ → Bool
printable b = nat_le 32 b && nat_le b 126

low : (b : ℕ) → printable b ≡ true → b < 128
low b e = grind (arith, nat_tests)

one_scalar : (b : ℕ) → b < 128 → scalar b ≡ true
one_scalar b lt = grind (arith, nat_tests)

spelled : (bs : List ℕ) → list_all (λ b. nat_le 32 b && nat_le b 126) bs ≡ true → encode_utf8_all bs ≡ bs
spelled [] e = refl
spelled (b ∷ bs) e =
    let parts = and_parts (printable b) (list_all printable bs) e in
    ap (λ (xs : List ℕ). encode b ++ xs) (spelled bs parts.1) ∙ ap (λ (xs : List ℕ). xs ++ bs) (encode_ascii b (low b parts.0))

scalars : (bs : List ℕ) → list_all (λ b. nat_le 32 b && nat_le b 126) bs ≡ true → all_scalars bs ≡ true
scalars [] e = refl
scalars (b ∷ bs) e =
    let parts = and_parts (printable b) (list_all printable bs) e in
    and_from (scalar b) (all_scalars bs) (one_scalar b (low b parts.0)) (scalars bs parts.1)

word_utf8 : (bs : List ℕ) → list_all (λ b. nat_le 32 b && nat_le b 126) bs ≡ true → utf8 bs ≡ Ok bs
word_utf8 bs e = ap (λ (t : Bool). cond {A = Result (List ℕ) Fault} t (Ok bs) (Err Malformed)) (legal_utf8 bs (legal_word bs e))

word_chars : (bs : List ℕ) → list_all (λ b. nat_le 32 b && nat_le b 126) bs ≡ true → are_plain bs ≡ true → is_plain bs ≡ true
word_chars bs e plain = ap are_plain (ap chars (sym (spelled bs e)) ∙ chars-encodes bs (scalars bs e)) ∙ plain

-- a word of ASCII that is a name without a colon
pub plain_word : (bs : List ℕ) → list_all (λ b. nat_le 32 b && nat_le b 126) bs ≡ true → are_plain bs ≡ true → IsPlain bs
plain_word bs e plain =
    ap (λ (r : Result (List ℕ) Fault). r >>= λ found. cond {A = Result (List ℕ) Fault} (is_plain found) (Ok found) (Err Malformed)) (word_utf8 bs e)
    ∙ ap (λ (t : Bool). cond {A = Result (List ℕ) Fault} t (Ok bs) (Err Malformed)) (word_chars bs e plain)

-- a prefix and its namespace
pub record IsSpace (p uri : List ℕ) : Type 0 where
  pub plain : IsPlain p
  pub declarable : IsDeclarable (p, uri)
  pub legal : IsLegal uri

space_of : (p uri : List ℕ) → list_all (λ b. nat_le 32 b && nat_le b 126) p ≡ true → are_plain p ≡ true → list_all (λ b. nat_le 32 b && nat_le b 126) uri ≡ true
    → declared_by (xmlns_name p, uri) ≡ (utf8 p >>= λ q. declared_if (may_declare q uri) q uri) → may_declare p uri ≡ is_plain p → IsSpace p uri
space_of p uri e plain f shape may = record {
  plain = plain_word p e plain;
  declarable = record {
    declared = shape ∙ ap (λ (r : Result (List ℕ) Fault). r >>= λ q. declared_if (may_declare q uri) q uri) (word_utf8 p e) ∙ ap (λ (t : Bool). declared_if t p uri) (may ∙ word_chars p e plain);
  };
  legal = legal_word uri f;
}

pub dav_is_space : IsSpace (codes "D") (codes "DAV:")
dav_is_space = space_of (codes "D") (codes "DAV:") refl refl refl refl refl

pub apache_is_space : IsSpace (codes "A") (codes "http://apache.org/dav/props/")
apache_is_space = space_of (codes "A") (codes "http://apache.org/dav/props/") refl refl refl refl refl

pub microsoft_is_space : IsSpace (codes "Z") (codes "urn:schemas-microsoft-com:")
microsoft_is_space = space_of (codes "Z") (codes "urn:schemas-microsoft-com:") refl refl refl refl refl

pub nextcloud_is_space : IsSpace (codes "nc") (codes "http://nextcloud.org/ns")
nextcloud_is_space = space_of (codes "nc") (codes "http://nextcloud.org/ns") refl refl refl refl refl

pub owncloud_is_space : IsSpace (codes "oc") (codes "http://owncloud.org/ns")
owncloud_is_space = space_of (codes "oc") (codes "http://owncloud.org/ns") refl refl refl refl refl

pub dav_known : IsKnownPrefix (codes "D")
dav_known = record { plain = dav_is_space.plain; declarable = dav_is_space.declarable; legal = dav_is_space.legal }

pub microsoft_known : IsKnownPrefix (codes "Z")
microsoft_known = record { plain = microsoft_is_space.plain; declarable = microsoft_is_space.declarable; legal = microsoft_is_space.legal }

pub expanded_in : (p uri : List ℕ) → IsSpace p uri → IsExpandedName (Some p) (Some uri)
expanded_in p uri h = (h.plain, (h.declarable, h.legal))

legal_name : (p uri name : List ℕ) → IsSpace p uri → name ≡ xmlns_name p → IsLegalName name
legal_name p uri name h is = subst IsLegalName (sym is) (declaring_name (Some p) (λ q e. let same : p ≡ q = cc in subst IsPlain same h.plain))

-- the attribute that declares it
pub declares_space : (p uri name : List ℕ) → IsSpace p uri → name ≡ xmlns_name p → IsDeclaration (name, uri)
declares_space p uri name h is = record {
  prefix = p;
  named = is;
  declared = ap (λ (n : List ℕ). declared_by (n, uri)) is ∙ h.declarable.declared;
  legal = record { name = legal_name p uri name h is; value = h.legal };
}
