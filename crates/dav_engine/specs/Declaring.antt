-- How code declares the namespaces of the properties in a multistatus.
use Rattle.std.specs.Prelude.{ℕ, ◌++◌, Bool, true, false, List, [], if◌then◌else◌}
use Rattle.std.specs.List.{list_any}
use Rattle.dav_core.specs.Element.{ElementTree, attributes_of, set_attribute, with_attributes, xmlns_name}
use Rattle.dav_engine.specs.Multistatus.{multistatus}
use Rattle.dav_engine.specs.Properties.{Telling, Outcomes, is_in, declared_for}

-- The element, with the namespace declared under this prefix where one of the properties has it.
abbrev pub declared : List ℕ → List ℕ → List ElementTree → ElementTree → ElementTree
declared prefix space properties e =
    if list_any (is_in space) properties then with_attributes e (set_attribute (xmlns_name prefix) space (attributes_of e)) else e

-- Whether the multistatus declares namespaces for its properties: not where it reports the outcomes of a PROPPATCH.
abbrev pub declares_namespaces : Telling → Bool
declares_namespaces Outcomes = false
declares_namespaces telling = true

-- The multistatus without any response, with the namespaces of these properties declared.
abbrev pub opened : Telling → List ElementTree → ElementTree
opened telling properties = with_attributes (multistatus []) (attributes_of (multistatus []) ++ declared_for telling properties)
