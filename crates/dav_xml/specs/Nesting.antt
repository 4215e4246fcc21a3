-- From pieces of markup to a tree of names as they are written, by the elements that are open.
use Rattle.std.specs.Prelude.{ℕ, Bool, ◌&&◌, ◌==◌, nat_le, if◌then◌else◌, List, [], ◌∷◌, ◌++◌, length, bytes_eq, Option, Some, None, is_some, Result, Ok, Err}
use Rattle.dav_xml.specs.declared.error.Fault.{Fault}
use Rattle.dav_xml.specs.declared.error.Fault.TheVariants.{Malformed, TooDeep}
use Rattle.dav_xml.specs.Read.{◌>>=◌}
use Rattle.dav_xml.specs.Token.{Markup, opens, empty, closes, content, nothing}
use Rattle.dav_core.specs.Element.{ElementTree, element, text, no_trees, name_of, with_child, with_children, children_of}

-- the elements that are open, the innermost first, and the root once it is closed
abbrev pub Open : Type 0
Open = List ElementTree × Option ElementTree

-- an element with its name as it is written, with these attributes and no children
abbrev pub raw : List ℕ → List (List ℕ × List ℕ) → ElementTree
raw name attributes = element name None None attributes no_trees

-- the open elements with this one as the innermost: `Malformed` where the root is closed already, `TooDeep` where 64 are open
abbrev pub opened : ElementTree → Open → Result Open Fault
opened e (es, root) = if length es == 0 && is_some root then Err Malformed else if nat_le 64 (length es) then Err TooDeep else Ok (e ∷ es, root)

-- the open elements after this one, which was the innermost, is closed: it is the last child of the next one, or the root
abbrev pub ended : ElementTree → Open → Open
ended e ([], root) = ([], Some e)
ended e (f ∷ fs, root) = (with_child f e ∷ fs, root)

-- the open elements after an end tag of this name: `Malformed` where the innermost has another name, or none is open (XML 1.0, [39]
-- element)
abbrev pub closed : List ℕ → Open → Result Open Fault
closed name ([], root) = Err Malformed
closed name (e ∷ es, root) = if bytes_eq (name_of e) name then Ok (ended e (es, root)) else Err Malformed

-- a text after a child, in one with it where the child is a text
abbrev pub text_behind : List ℕ → ElementTree → List ElementTree
text_behind bytes (text before) = text (before ++ bytes) ∷ []
text_behind bytes (element name prefix namespace attributes children) = element name prefix namespace attributes children ∷ text bytes ∷ []

abbrev mutual
  -- children with a text at their end, in one with the last where that is a text
  pub with_text : List ℕ → List ElementTree → List ElementTree
  with_text bytes [] = text bytes ∷ []
  with_text bytes (t ∷ ts) = text_after bytes t ts

  -- one child or more with a text at their end, in one with the last where that is a text
  pub text_after : List ℕ → ElementTree → List ElementTree → List ElementTree
  text_after bytes t [] = text_behind bytes t
  text_after bytes t (u ∷ us) = t ∷ text_after bytes u us

-- an element with a text at the end of its children; with an empty text it stays
abbrev pub text_added : List ℕ → ElementTree → ElementTree
text_added [] e = e
text_added (b ∷ bs) e = with_children e (with_text (b ∷ bs) (children_of e))

-- The open elements after a text, which is added to the innermost. Outside the root a text is white space, written without references;
-- else `Malformed`.
abbrev pub text_in : Bool → List ℕ → Open → Result Open Fault
text_in is_blank bytes ([], root) = if is_blank then Ok ([], root) else Err Malformed
text_in is_blank bytes (e ∷ es, root) = Ok (text_added bytes e ∷ es, root)

-- the open elements after a piece of markup; a comment or an instruction changes nothing
abbrev pub step : Open → Markup → Result Open Fault
step s (opens name attributes) = opened (raw name attributes) s
step s (empty name attributes) = opened (raw name attributes) s >>= closed name
step s (closes name) = closed name s
step s (content is_blank bytes) = text_in is_blank bytes s
step s nothing = Ok s

-- the open elements after these pieces of markup, or the first fault
unfoldable pub steps : Open → List Markup → Result Open Fault
steps s [] = Ok s
steps s (t ∷ ts) = step s t >>= λ next. steps next ts

-- the root, where it is closed and no element is open; else `Malformed`
abbrev pub root_of : Open → Result ElementTree Fault
root_of ([], Some root) = Ok root
root_of ([], None) = Err Malformed
root_of (e ∷ es, root) = Err Malformed

-- the tree of these pieces of markup, which has one root, or the first fault (XML 1.0, [1] document)
unfoldable pub nested : List Markup → Result ElementTree Fault
nested tokens = steps ([], None) tokens >>= root_of
