-- What a client reads in a multistatus whose responses are completed (RFC 4918, section 9.1).
use Rattle.std.specs.Prelude.{◌≡◌, ◌&&◌, ◌||◌, Bool, true, false, not, List, [], ◌∷◌, codes, Option, Some, None}
use Rattle.std.specs.List.{list_any, list_all}
use Rattle.dav_core.specs.Element.{ElementTree, child_elements, children_of, with_children}
use Rattle.dav_presented.specs.Names.{is_same, is_dav}
use Rattle.dav_presented.specs.Missing.{is_told, with_missing}

-- Whether no two elements have the same name (Namespaces in XML 1.0, section 2.1).
abbrev pub are_once : List ElementTree → Bool
are_once [] = true
are_once (e ∷ es) = not (list_any (λ f. is_same f e) es) && are_once es

-- A response tells each asked name: it is the old one with a `propstat` 404 after its children, or the old one where nothing is missing;
-- each asked name is told in the old one or is among the missing ones; and these are asked for, not told in the old one, and named once
-- (RFC 4918, section 9.1).
pub record Answers (asked : List ElementTree) (old new : ElementTree) : Type 0 where
  pub missing : List ElementTree
  pub made : new ≡ with_missing old missing
  pub covered : list_all (λ e. is_told e old || list_any (λ f. is_same e f) missing) asked ≡ true
  pub named : list_all (λ m. list_any (λ e. is_same m e) asked) missing ≡ true
  pub untold : list_all (λ m. not (is_told m old)) missing ≡ true
  pub once : are_once missing ≡ true

-- A child of a multistatus is completed where it is a response, and stays where it isn't (RFC 4918, section 14.16).
abbrev pub AnswersIfResponse : List ElementTree → ElementTree → ElementTree → Type 0
AnswersIfResponse asked old new = (is_dav (codes "response") old ≡ true → Answers asked old new) × (is_dav (codes "response") old ≡ false → new ≡ old)

-- The children of a multistatus, one by one, in order (RFC 4918, section 14.16).
abbrev pub EachAnswers : List ElementTree → List ElementTree → List ElementTree → Type 0
EachAnswers asked [] news = news ≡ []
EachAnswers asked (old ∷ olds) [] = ⊥
EachAnswers asked (old ∷ olds) (new ∷ news) = AnswersIfResponse asked old new × EachAnswers asked olds news

-- A multistatus to a request that asks by this element, if by any, of which the machine told the old one: each response tells each asked
-- name; name, attributes and all other children stay. A request for all properties or for names alone gets the old one (RFC 4918, section
-- 9.1).
abbrev pub TellsAll : Option ElementTree → ElementTree → ElementTree → Type 0
TellsAll None old new = new ≡ old
TellsAll (Some prop) old new = (news : List ElementTree) × (new ≡ with_children old news) × EachAnswers (child_elements prop) (children_of old) news
