-- An element under another prefix (Namespaces in XML 1.0, sections 3 to 6).
use Rattle.std.specs.Prelude.{◌≡◌, ℕ, Bool, false, ◌==◌, if◌then◌else◌, List, [], ◌∷◌, ◌++◌, Option, Some, None, Result, Ok, Err}
use Rattle.std.specs.Option.{is_some}
use Rattle.dav_core.specs.Element.{ElementTree, element, text, attributes_of, prefix_of, namespace_of}
use Rattle.dav_xml.specs.declared.error.Fault.{Fault}
use Rattle.dav_xml.specs.Read.{◌>>=◌}
use Rattle.dav_xml.specs.Bytes.{after_text}
use Rattle.dav_xml.specs.Scopes.{Scope, may_declare}
use Rattle.dav_xml.specs.Namespaces.{has_prefix, Kept, within, kept_after}
use Rattle.dav_xml.specs.Written.{declared_prefix, known}
use Rattle.dav_xml.specs.Expanded.{IsExpanded}
use Rattle.dav_xml.specs.Sendable.{IsKnownPrefix, IsSendable}

-- whether a text is there that begins with a colon
abbrev pub begins_with_colon : Option (List ℕ) → Bool
begins_with_colon None = false
begins_with_colon (Some []) = false
begins_with_colon (Some (b ∷ local)) = b == 58

-- Whether a name has that prefix: a colon and a local part follow it (Namespaces in XML 1.0, section 4).
abbrev pub is_under : List ℕ → List ℕ → Bool
is_under prefix name = begins_with_colon (after_text prefix name)

-- the attributes whose names don't have that prefix, in order
abbrev pub not_under : List ℕ → List (List ℕ × List ℕ) → List (List ℕ × List ℕ)
not_under prefix [] = []
not_under prefix (a ∷ others) = if is_under prefix a.0 then not_under prefix others else a ∷ not_under prefix others

-- What an element's own name declares for its attributes: its prefix with its namespace, where it has both.
abbrev pub own_declaration : Option (List ℕ) → Option (List ℕ) → Scope
own_declaration (Some own) (Some uri) = (own, uri) ∷ []
own_declaration own namespace = []

-- The namespace of an element that gets that prefix: its own, where the prefix may be declared with it, else the one for which the
-- prefix is known (Namespaces in XML 1.0, section 3).
abbrev pub namespace_under : List ℕ → Option (List ℕ) → List ℕ
namespace_under prefix None = known prefix
namespace_under prefix (Some uri) = if may_declare prefix uri then uri else known prefix

-- What is declared within an element that gets that prefix and namespace: what its attributes declare, its own prefix, and the new one.
abbrev pub scope_under : List ℕ → List ℕ → Option (List ℕ) → Option (List ℕ) → Scope → Scope
scope_under prefix uri own namespace scope = (scope ++ own_declaration own namespace) ++ (prefix, uri) ∷ []

-- The attributes that an element keeps where it gets that prefix and namespace: not those under the new prefix, which would have another
-- namespace then (Namespaces in XML 1.0, section 6.2). Each prefix of theirs is declared among them.
abbrev pub kept_under : List ℕ → List ℕ → Option (List ℕ) → Option (List ℕ) → List (List ℕ × List ℕ) → Result Kept Fault
kept_under prefix uri own namespace attributes =
    within [] attributes >>= λ scope. kept_after (scope_under prefix uri own namespace scope) (Some prefix) ([], []) (not_under prefix attributes)

-- the attributes that are kept; none where there is a fault, which none of an element that was read has (law `others_are_kept`)
abbrev pub attributes_or_none : Result Kept Fault → List (List ℕ × List ℕ)
attributes_or_none (Ok kept) = kept.0
attributes_or_none (Err fault) = []

-- An element with that prefix and namespace, and its attributes as they may stand on it.
abbrev pub renamed : List ℕ → List ℕ → ElementTree → ElementTree
renamed prefix uri (element name own namespace attributes children) =
    element name (Some prefix) (Some uri) (attributes_or_none (kept_under prefix uri own namespace attributes)) children
renamed prefix uri (text bytes) = text bytes

-- An element with that prefix: as it is where it has that one, else with a namespace that the prefix may have. Of a text, itself.
abbrev pub under_prefix : List ℕ → ElementTree → ElementTree
under_prefix prefix e = if has_prefix (prefix_of e) prefix then e else renamed prefix (namespace_under prefix (namespace_of e)) e

-- the attributes that declare no prefix, in order
abbrev pub undeclaring : List (List ℕ × List ℕ) → List (List ℕ × List ℕ)
undeclaring [] = []
undeclaring (a ∷ others) = if is_some (declared_prefix a.0) then undeclaring others else a ∷ undeclaring others

-- Under another prefix an element that was read keeps all attributes but declarations, in order and with their values, but for those
-- under that prefix.
abbrev pub OthersAreKept : Type 0
OthersAreKept =
    (prefix : List ℕ) (n : ℕ) (e : ElementTree) → IsKnownPrefix prefix → IsExpanded n e → has_prefix (prefix_of e) prefix ≡ false
    → undeclaring (attributes_of (under_prefix prefix e)) ≡ not_under prefix (undeclaring (attributes_of e))

-- An element that may be sent may be sent under any prefix that is known for a namespace.
abbrev pub PrefixedIsSendable : Type 0
PrefixedIsSendable = (prefix : List ℕ) (e : ElementTree) → IsKnownPrefix prefix → IsSendable e → IsSendable (under_prefix prefix e)
