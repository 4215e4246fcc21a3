-- Paths that are told, and elements that are asked for by their names.
use Rattle.std.proofs.Common.{◌≡◌, ℕ, Bool, true, false, List, [], ◌∷◌, ◌++◌, Option, Some, None, Ok, refl, subst}
use Rattle.dav_core.specs.Element.{ElementTree, element, text}
use Rattle.dav_core.specs.Path.{PathText, with_bytes, with_slash, is_nonempty}
use Rattle.dav_engine.specs.Folder.{closed, child_of}
use Rattle.dav_engine.specs.Properties.{asked_property}
use Rattle.dav_engine.specs.Proppatch.{declares, element_by_name}
use Rattle.dav_xml.specs.Namespaces.{namespace_of as uri_named}
use Rattle.dav_xml.specs.Expanded.{IsPlain, IsExpandedName, AreKept}
use Rattle.dav_xml.specs.Sendable.{IsSendableAs, as_read, own_declared, known_prefix, IsSendable}
use Rattle.dav_http.proofs.PlainWords.{IsSpace, expanded_in}

-- ---- paths

abbrev pub HasPath : PathText → Type 0
HasPath p = is_nonempty p.bytes ≡ true

slash_some : (bytes : List ℕ) → is_nonempty (with_slash bytes) ≡ true
slash_some [] = refl
slash_some (b ∷ bs) = refl

front_some : (xs ys : List ℕ) → is_nonempty xs ≡ true → is_nonempty (xs ++ ys) ≡ true
front_some [] ys e = absurd cc
front_some (x ∷ xs) ys e = refl

pub closed_path : (wanted : Bool) (p : PathText) → HasPath p → HasPath (closed wanted p)
closed_path true p some = slash_some p.bytes
closed_path false p some = some

pub child_path : (p : PathText) (name : List ℕ) (dir : Bool) → HasPath (child_of p name dir)
child_path p name dir = closed_path dir (with_bytes p (with_slash p.bytes ++ name)) (front_some (with_slash p.bytes) name (slash_some p.bytes))

-- ---- names

none_kept : (prefix namespace : Option (List ℕ)) (attributes : List (List ℕ × List ℕ)) → AreKept prefix namespace attributes → AreKept prefix namespace []
none_kept prefix namespace attributes k = record { scope = k.scope; given = []; names = []; declarable = k.declarable; own = k.own; kept = refl; distinct = refl; legal = tt }

some_same : (xs ys : List ℕ) → Some xs ≡ Some ys → xs ≡ ys
some_same xs ys e = cc

named_declared : (prefix : Option (List ℕ)) (uri : List ℕ) → IsExpandedName prefix (Some uri) → IsSendableAs prefix (Some uri) (declares prefix (Some uri))
named_declared None uri h = own_declared uri h refl refl
named_declared (Some p) uri h = own_declared uri h refl refl

named_as : (prefix namespace : Option (List ℕ)) (attributes : List (List ℕ × List ℕ)) → IsSendableAs prefix namespace attributes → IsSendableAs prefix namespace (declares prefix namespace)
named_as prefix None attributes (as_read h k) = as_read h (none_kept prefix None attributes k)
named_as prefix None attributes (own_declared uri h is are) = absurd cc
named_as prefix None attributes (known_prefix own k is none all distinct) = known_prefix own k is none tt refl
named_as prefix (Some uri) attributes (as_read h k) = named_declared prefix uri h
named_as prefix (Some uri) attributes (own_declared other h is are) = named_declared prefix uri (subst (λ (u : List ℕ). IsExpandedName prefix (Some u)) (some_same other uri (sym_of is)) h)
  where
    sym_of : Some uri ≡ Some other → Some other ≡ Some uri
    sym_of e = cc
named_as prefix (Some uri) attributes (known_prefix own k is none all distinct) = absurd cc

-- an element by its name
pub by_name_sendable : (e : ElementTree) → IsSendable e → IsSendable (element_by_name e)
by_name_sendable (text bytes) h = absurd h
by_name_sendable (element m p s a c) h = (h.0, (named_as p s a h.1.0, tt))

pub asked_sendable : (p uri name : List ℕ) → IsSpace p uri → uri_named ((p, uri) ∷ []) (Some p) ≡ Ok (Some uri) → IsPlain name → IsSendable (asked_property p uri name)
asked_sendable p uri name h own plain =
    let kept : AreKept (Some p) (Some uri) [] = record { scope = (p, uri) ∷ []; given = []; names = []; declarable = (h.declarable, tt); own = own; kept = refl; distinct = refl; legal = tt } in
    (plain, (as_read (expanded_in p uri h) kept, tt))
