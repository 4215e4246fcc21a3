-- The parts of a reply that are compared between two runs: not its change numbers and times.
use Rattle.std.specs.Prelude.{ℕ, ◌==◌, ◌++◌, List, [], ◌∷◌, map, codes, bytes_eq, if◌then◌else◌, Option, Some, None}
use Rattle.std.specs.List.{filter, flat_map, find as first}
use Rattle.std.specs.Option.{option_map}
use Rattle.dav_core.specs.Element.{ElementTree, name_of, namespace_of, children_of, is_named, text_of}
use Rattle.dav_engine.specs.declared.reply.ReplyBody.{ReplyBody}
use Rattle.dav_engine.specs.declared.reply.ReplyBody.TheVariants as body
use Rattle.dav_engine.specs.Reply.{Reply, Header}

-- The children of an element that are elements of this name.
abbrev pub children_named : List ℕ → ElementTree → List ElementTree
children_named name e = filter (is_named name) (children_of e)

-- One status of a multistatus: the texts of the hrefs of its response, its own text, and the properties that it is about, each
-- by namespace and name (RFC 4918, sections 14.22 and 14.24).
pub record StatusItem : Type 0 where
  pub path : List (Option (List ℕ))
  pub status : List (Option (List ℕ))
  pub names : List (Option (List ℕ) × List ℕ)

-- A property by its namespace and its name.
abbrev pub property_name : ElementTree → Option (List ℕ) × List ℕ
property_name e = (namespace_of e, name_of e)

-- The text of each element, if it has one.
abbrev pub texts : List ElementTree → List (Option (List ℕ))
texts es = map text_of es

-- The item of a status that is of a whole response (RFC 4918, section 14.24).
abbrev pub status_item : ElementTree → ElementTree → StatusItem
status_item response s = record { path = texts (children_named (codes "href") response); status = text_of s ∷ []; names = [] }

-- The item of a `propstat`, whose status is of some properties (RFC 4918, section 14.22).
abbrev pub property_item : ElementTree → ElementTree → StatusItem
property_item response s = record {
  path = texts (children_named (codes "href") response);
  status = texts (children_named (codes "status") s);
  names = flat_map (λ p. map property_name (children_of p)) (children_named (codes "prop") s);
}

-- each status in a response: first its own, then those of its properties
abbrev pub items_of : ElementTree → List StatusItem
items_of response =
    map (status_item response) (children_named (codes "status") response)
    ++ map (property_item response) (children_named (codes "propstat") response)

-- The statuses of all responses in a body that is an element tree; other bodies have none.
abbrev pub items_in : ReplyBody → List StatusItem
items_in (body.Tree tree) = flat_map items_of (children_named (codes "response") tree)
items_in _ = []

-- The bytes of a body that is made of bytes.
abbrev pub bytes_in : ReplyBody → Option (List ℕ)
bytes_in (body.Bytes bytes) = Some bytes
bytes_in _ = None

-- The value of the first Allow header, if there is one (RFC 9110, section 10.2.1).
abbrev pub allow_in : List Header → Option (List ℕ)
allow_in headers = option_map (λ field. field.1) (first (λ field. bytes_eq field.0 (codes "allow")) headers)

-- The parts of a reply that are compared: its status; of a multistatus each status with its path and its properties; the
-- bytes of its body, which only a GET has; and which methods it allows.
pub record AnswerParts : Type 0 where
  pub status : ℕ
  pub items : List StatusItem
  pub bytes : Option (List ℕ)
  pub allow : Option (List ℕ)

-- What of a reply is compared: its status, each status of a multistatus with its path and the names of its properties, the
-- bytes of its body, and the methods that it allows.
abbrev pub answers_of : Reply → AnswerParts
answers_of r = record {
  status = r.status;
  items = if r.status == 207 then items_in r.body else [];
  bytes = bytes_in r.body;
  allow = allow_in r.headers;
}
