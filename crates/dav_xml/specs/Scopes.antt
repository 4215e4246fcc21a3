-- The prefixes that are declared at one place (Namespaces in XML 1.0, sections 3, 5 and 6).
use Rattle.std.specs.Prelude.{ℕ, Bool, not, ◌&&◌, map, ◌||◌, ◌==◌, if◌then◌else◌, List, [], ◌∷◌, length, bytes_eq, codes, Option, Some, None, Result, Ok, Err}
use denote.Ref.{Bor}
use Rattle.dav_xml.specs.declared.error.Fault.{Fault}
use Rattle.dav_xml.specs.declared.error.Fault.TheVariants.{Malformed}
use Rattle.dav_xml.specs.Read.{◌>>=◌}
use Rattle.dav_xml.specs.Bytes.{after_text}
use Rattle.dav_xml.specs.References.{utf8}
use Rattle.dav_xml.specs.Markup.{first_or}
use Rattle.dav_xml.specs.Names.{is_plain}

-- the prefixes that are declared at a place with their namespaces, the innermost last; the empty prefix is that of the default namespace
-- (Namespaces in XML 1.0, sections 3 and 6)
abbrev pub Scope : Type 0
Scope = List (List ℕ × List ℕ)

-- a prefix and its namespace, without where they lie in memory
abbrev pub pair_bytes : Bor (List ℕ) × Bor (List ℕ) → List ℕ × List ℕ
pair_bytes p = (p.0.now, p.1.now)

-- prefixes with their namespaces, without where they lie in memory
abbrev pub pairs : List (Bor (List ℕ) × Bor (List ℕ)) → Scope
pairs ds = map pair_bytes ds

-- the namespace of a prefix: the last one that is declared for it, or `found` where none is
abbrev pub uri_after : Option (List ℕ) → List ℕ → Scope → Option (List ℕ)
uri_after found prefix [] = found
uri_after found prefix (d ∷ ds) = uri_after (if bytes_eq d.0 prefix then Some d.1 else found) prefix ds

-- the namespace of a prefix, the last one that is declared for it, if there is one (Namespaces in XML 1.0, section 6)
abbrev pub uri_of : List ℕ → Scope → Option (List ℕ)
uri_of prefix scope = uri_after None prefix scope

-- the namespace of the prefix `xml` (Namespaces in XML 1.0, section 3)
abbrev pub xml_uri : List ℕ
xml_uri = codes "http://www.w3.org/XML/1998/namespace"

-- the namespace of the prefix `xmlns` (Namespaces in XML 1.0, section 3)
abbrev pub xmlns_uri : List ℕ
xmlns_uri = codes "http://www.w3.org/2000/xmlns/"

-- the namespace of `xml` or of `xmlns`
abbrev pub is_bound : List ℕ → Bool
is_bound uri = bytes_eq uri xml_uri || bytes_eq uri xmlns_uri

-- Whether a prefix may be declared with this namespace: `xml` with its own alone, and `xmlns` not at all; any other where it is a name
-- without a colon, and the namespace is neither empty nor that of `xml` or `xmlns` (Namespaces in XML 1.0, section 3).
abbrev pub may_declare : List ℕ → List ℕ → Bool
may_declare prefix uri =
    if bytes_eq prefix (codes "xml") then bytes_eq uri xml_uri
    else (not (bytes_eq prefix (codes "xmlns")) && not (is_bound uri)) && (not (length uri == 0) && is_plain prefix)

-- what `xmlns` declares: the default namespace, which can't be that of `xml` or `xmlns`
abbrev pub default_declared : List ℕ → Result (Option (List ℕ × List ℕ)) Fault
default_declared uri = if is_bound uri then Err Malformed else Ok (Some ([], uri))

-- what `xmlns:` with this prefix declares; `Malformed` where it may not be declared with this namespace
abbrev pub prefix_declared : List ℕ → List ℕ → Result (Option (List ℕ × List ℕ)) Fault
prefix_declared prefix uri = utf8 prefix >>= λ p. if may_declare p uri then Ok (Some (p, uri)) else Err Malformed

-- what an attribute declares, if it is a declaration: the default namespace, or the namespace of a prefix (Namespaces in XML 1.0, section
-- 3)
abbrev pub declared_by : List ℕ × List ℕ → Result (Option (List ℕ × List ℕ)) Fault
declared_by a = if bytes_eq a.0 (codes "xmlns") then default_declared a.1 else first_or (after_text (codes "xmlns:") a.0) (λ prefix. prefix_declared prefix a.1) (Ok None)
