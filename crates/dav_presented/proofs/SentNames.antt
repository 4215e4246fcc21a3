-- Names that may be sent: words of ASCII, the prefix `D`, and the names of a request.
use Rattle.std.proofs.Common.{◌≡◌, ℕ, ◌<◌, Bool, true, cond, not, ◌&&◌, ◌==◌, nat_le, length, List, [], ◌∷◌, ◌++◌, codes, chars, bytes_eq, Option, Some, None, Result, Ok, Err, refl, sym, ap, subst, ◌∙◌, arith}
use Rattle.std.proofs.lemmas.Bool.{and_parts, and_from}
use Rattle.std.proofs.lemmas.Bool.Decides.{nat_tests}
use Rattle.std.proofs.lemmas.Str.{chars-encodes, encode_ascii}
use Rattle.std.specs.List.{list_all}
use Rattle.std.specs.Str.{encode_utf8_all, all_scalars}
use lib.Utf8.{encode, scalar}
use Rattle.dav_core.specs.Element.{ElementTree, element, text}
use Rattle.dav_xml.specs.declared.error.Fault.{Fault}
use Rattle.dav_xml.specs.declared.error.Fault.TheVariants.{Malformed}
use Rattle.dav_xml.specs.Read.{◌>>=◌}
use Rattle.dav_xml.specs.References.{utf8}
use Rattle.dav_xml.specs.Names.{are_plain, is_plain}
use Rattle.dav_xml.specs.Scopes.{xml_uri, uri_of, is_bound, may_declare}
use Rattle.dav_xml.specs.Namespaces.{namespace_of, declared_uri}
use Rattle.dav_xml.specs.Expanded.{IsPlain, IsDeclarable, IsExpandedName, AreKept}
use Rattle.dav_xml.specs.Sendable.{IsKnownPrefix, IsSendableAs, as_read, own_declared, known_prefix, IsSendable}
use Rattle.dav_xml.proofs.Escapes.{by_test}
use Rattle.dav_xml.proofs.Legal.{legal_utf8}
use Rattle.dav_xml.proofs.LegalTrees.{legal_word}
use Rattle.dav_xml.proofs.Declared.{ok_or_else, bytes_same, declared_if, nonempty, uri_here}
use Rattle.dav_presented.specs.Missing.{bare}
use Rattle.dav_presented.specs.Times.{own_space}

-- ---- words

abbrev printable : ℕ → Bool
printable b = nat_le 32 b && nat_le b 126

low : (b : ℕ) → printable b ≡ true → b < 128
low b e = grind (arith, nat_tests)

one_scalar : (b : ℕ) → b < 128 → scalar b ≡ true
one_scalar b lt = grind (arith, nat_tests)

spelled : (bs : List ℕ) → list_all (λ b. nat_le 32 b && nat_le b 126) bs ≡ true → encode_utf8_all bs ≡ bs
spelled [] e = refl
spelled (b ∷ bs) e =
    let parts = and_parts (printable b) (list_all printable bs) e in
    ap (λ (xs : List ℕ). encode b ++ xs) (spelled bs parts.1) ∙ ap (λ (xs : List ℕ). xs ++ bs) (encode_ascii b (low b parts.0))

scalars : (bs : List ℕ) → list_all (λ b. nat_le 32 b && nat_le b 126) bs ≡ true → all_scalars bs ≡ true
scalars [] e = refl
scalars (b ∷ bs) e =
    let parts = and_parts (printable b) (list_all printable bs) e in
    and_from (scalar b) (all_scalars bs) (one_scalar b (low b parts.0)) (scalars bs parts.1)

word_utf8 : (bs : List ℕ) → list_all (λ b. nat_le 32 b && nat_le b 126) bs ≡ true → utf8 bs ≡ Ok bs
word_utf8 bs e = ap (λ (t : Bool). cond {A = Result (List ℕ) Fault} t (Ok bs) (Err Malformed)) (legal_utf8 bs (legal_word bs e))

word_chars : (bs : List ℕ) → list_all (λ b. nat_le 32 b && nat_le b 126) bs ≡ true → are_plain bs ≡ true → is_plain bs ≡ true
word_chars bs e plain = ap are_plain (ap chars (sym (spelled bs e)) ∙ chars-encodes bs (scalars bs e)) ∙ plain

-- a word of ASCII that is a name without a colon
pub plain_word : (bs : List ℕ) → list_all (λ b. nat_le 32 b && nat_le b 126) bs ≡ true → are_plain bs ≡ true → IsPlain bs
plain_word bs e plain =
    ap (λ (r : Result (List ℕ) Fault). r >>= λ found. cond {A = Result (List ℕ) Fault} (is_plain found) (Ok found) (Err Malformed)) (word_utf8 bs e)
    ∙ ap (λ (t : Bool). cond {A = Result (List ℕ) Fault} t (Ok bs) (Err Malformed)) (word_chars bs e plain)

-- ---- the prefix `D`

dav_declarable : IsDeclarable (codes "D", codes "DAV:")
dav_declarable = record {
  declared = ap (λ (r : Result (List ℕ) Fault). r >>= λ q. declared_if (may_declare q (codes "DAV:")) q (codes "DAV:")) (word_utf8 (codes "D") refl)
      ∙ ap (λ (t : Bool). declared_if t (codes "D") (codes "DAV:")) (word_chars (codes "D") refl refl);
}

dav_known : IsKnownPrefix (codes "D")
dav_known = record { plain = plain_word (codes "D") refl refl; declarable = dav_declarable; legal = legal_word (codes "DAV:") refl }

pub dav_as : IsSendableAs (Some (codes "D")) None []
dav_as = known_prefix (codes "D") dav_known refl refl tt refl

-- ---- the prefix `Z`

windows_declarable : IsDeclarable (codes "Z", codes "urn:schemas-microsoft-com:")
windows_declarable = record {
  declared = ap (λ (r : Result (List ℕ) Fault). r >>= λ q. declared_if (may_declare q (codes "urn:schemas-microsoft-com:")) q (codes "urn:schemas-microsoft-com:")) (word_utf8 (codes "Z") refl)
      ∙ ap (λ (t : Bool). declared_if t (codes "Z") (codes "urn:schemas-microsoft-com:")) (word_chars (codes "Z") refl refl);
}

windows_known : IsKnownPrefix (codes "Z")
windows_known = record { plain = plain_word (codes "Z") refl refl; declarable = windows_declarable; legal = legal_word (codes "urn:schemas-microsoft-com:") refl }

pub windows_as : IsSendableAs (Some (codes "Z")) None []
windows_as = known_prefix (codes "Z") windows_known refl refl tt refl

-- ---- names of a request, without the attributes there

declared_test : (r : Result (List ℕ) Fault) (p uri : List ℕ) → (r >>= λ q. declared_if (may_declare q uri) q uri) ≡ Ok (Some (p, uri)) → may_declare p uri ≡ true
declared_test (Err f) p uri h = absurd cc
declared_test (Ok q) p uri h = by_test (may_declare q uri) (λ t. may_declare q uri ≡ t → declared_if t q uri ≡ Ok (Some (p, uri)) → may_declare p uri ≡ true)
    (λ e k j. let same : Some (q, uri) ≡ Some (p, uri) = ap (λ (r : Result (Option (List ℕ × List ℕ)) Fault). ok_or_else None r) j in ap (λ (x : List ℕ). may_declare x uri) (sym (ap (first_of q) same)) ∙ e) (λ e k j. absurd cc) refl h
  where
    first_of : List ℕ → Option (List ℕ × List ℕ) → List ℕ
    first_of other None = other
    first_of other (Some d) = d.0

-- a prefix that is declared has its namespace there
named_there : (b : ℕ) (p uri : List ℕ) → IsDeclarable (b ∷ p, uri) → namespace_of ((b ∷ p, uri) ∷ []) (Some (b ∷ p)) ≡ Ok (Some uri)
named_there b p uri h =
    let test = declared_test (utf8 (b ∷ p)) (b ∷ p) uri h.declared in
    ap (λ (r : Result (List ℕ) Fault). r >>= λ u. Ok (Some u)) (by_test (bytes_eq (b ∷ p) (codes "xml"))
    (λ t. cond t (bytes_eq uri xml_uri) ((not (bytes_eq (b ∷ p) (codes "xmlns")) && not (is_bound uri)) && (not (length uri == 0) && is_plain (b ∷ p))) ≡ true
    → cond {A = Result (List ℕ) Fault} t (Ok xml_uri) (declared_uri (uri_of (b ∷ p) ((b ∷ p, uri) ∷ []))) ≡ Ok uri)
    (λ e k. ap (λ (u : List ℕ). Ok u) (sym (bytes_same uri xml_uri k))) (λ e k. ap declared_uri (uri_here (b ∷ p) uri [])) test)

none_kept : (prefix namespace : Option (List ℕ)) (attributes : List (List ℕ × List ℕ)) → AreKept prefix namespace attributes → AreKept prefix namespace []
none_kept prefix namespace attributes k = record { scope = k.scope; given = []; names = []; declarable = k.declarable; own = k.own; kept = refl; distinct = refl; legal = tt }

declared_kept : (prefix : Option (List ℕ)) (uri : List ℕ) → IsExpandedName prefix (Some uri) → AreKept prefix (Some uri) []
declared_kept None [] h = absurd h
declared_kept None (b ∷ uri) h = record { scope = ([], b ∷ uri) ∷ []; given = []; names = []; declarable = (h.0, tt); own = refl; kept = refl; distinct = refl; legal = tt }
declared_kept (Some []) uri h = absurd (nonempty [] [] h.0 refl)
declared_kept (Some (b ∷ p)) uri h =
    record { scope = (b ∷ p, uri) ∷ []; given = []; names = []; declarable = (h.1.0, tt); own = named_there b p uri h.1.0; kept = refl; distinct = refl; legal = tt }

bare_as : (prefix namespace : Option (List ℕ)) (attributes : List (List ℕ × List ℕ)) → IsSendableAs prefix namespace attributes → IsSendableAs prefix namespace []
bare_as prefix namespace attributes (as_read h k) = as_read h (none_kept prefix namespace attributes k)
bare_as prefix namespace attributes (own_declared uri h is are) = subst (λ (space : Option (List ℕ)). IsSendableAs prefix space []) (sym is) (as_read h (declared_kept prefix uri h))
bare_as prefix namespace attributes (known_prefix own k is none all distinct) = known_prefix own k is none tt refl

pub bare_sent : (e : ElementTree) → IsSendable e → IsSendable (bare e)
bare_sent (element name prefix namespace attributes children) h = (h.0, (bare_as prefix namespace attributes h.1.0, tt))
bare_sent (text bytes) h = absurd h

-- ---- the server's own namespace

own_declarable : (b : ℕ) (p : List ℕ) → list_all (λ b. nat_le 32 b && nat_le b 126) (b ∷ p) ≡ true → are_plain (b ∷ p) ≡ true → may_declare (b ∷ p) own_space ≡ is_plain (b ∷ p) → IsDeclarable (b ∷ p, own_space)
own_declarable b p e plain may = record {
  declared = ap (λ (r : Result (List ℕ) Fault). r >>= λ q. declared_if (may_declare q own_space) q own_space) (word_utf8 (b ∷ p) e)
      ∙ ap (λ (t : Bool). declared_if t (b ∷ p) own_space) (may ∙ word_chars (b ∷ p) e plain);
}

-- a prefix of ASCII with the server's own namespace
pub own_as : (b : ℕ) (p : List ℕ) → list_all (λ b. nat_le 32 b && nat_le b 126) (b ∷ p) ≡ true → are_plain (b ∷ p) ≡ true → may_declare (b ∷ p) own_space ≡ is_plain (b ∷ p) → IsSendableAs (Some (b ∷ p)) (Some own_space) []
own_as b p e plain may =
    let own : IsExpandedName (Some (b ∷ p)) (Some own_space) = (plain_word (b ∷ p) e plain, (own_declarable b p e plain may, legal_word own_space refl)) in
    as_read own (declared_kept (Some (b ∷ p)) own_space own)

-- the prefix `D` with its namespace
pub dav_declared : IsSendableAs (Some (codes "D")) (Some (codes "DAV:")) []
dav_declared =
    let own : IsExpandedName (Some (codes "D")) (Some (codes "DAV:")) = (plain_word (codes "D") refl refl, (dav_declarable, legal_word (codes "DAV:") refl)) in
    as_read own (declared_kept (Some (codes "D")) (codes "DAV:") own)
