-- A reply as a line of JSON (RFC 8259).
use Rattle.std.specs.Prelude.{ℕ, List, [], ◌∷◌, ◌++◌, codes}
use Rattle.std.specs.List.{flat_map}
use Rattle.std.specs.Str.Lossy.{utf8_lossy}
use Rattle.hex.specs.Hex.{encode_lower}
use Rattle.serde_json.specs.Data.{Data, null, number, string, object, unsigned, Members, no_members, member, put}
use Rattle.serde_json.specs.Written.{compact_text}
use Rattle.dav_engine.specs.Reply.{Reply, Header}
use Rattle.dav_engine.specs.declared.reply.ReplyBody.{ReplyBody}
use Rattle.dav_engine.specs.declared.reply.ReplyBody.TheVariants.{Nothing, Bytes, Tree}
use Rattle.dav_run.specs.TreeData.{tree_body}

-- a body as JSON: null for none; its bytes as the member `hex`, in lower-case digits; a tree as the member `element`
abbrev pub body_data : ReplyBody → Data
body_data Nothing = null
body_data (Bytes bytes) = object (member (codes "hex") (string (encode_lower bytes)) no_members)
body_data (Tree tree) = tree_body tree

-- headers as members of an object, each added to those of `found`: of a name with several values the last one counts
abbrev pub headers_over : List Header → Members → Members
headers_over [] found = found
headers_over (h ∷ more) found = headers_over more (put h.0 (string (utf8_lossy h.1)) found)

-- all headers of a reply as an object, in byte order of their names
abbrev pub headers_data : List Header → Data
headers_data headers = object (headers_over headers no_members)

-- the members of a reply's object besides `body`: `headers` and `status`
abbrev pub rest_members : Reply → Members
rest_members r =
    member (codes "headers") (headers_data r.headers)
    (member (codes "status") (number (unsigned r.status)) no_members)

-- a reply as an object with the members `body`, `headers` and `status`
abbrev pub reply_data : Reply → Data
reply_data r = object (member (codes "body") (body_data r.body) (rest_members r))

-- the line of a reply: its object as JSON without white space, and a newline (RFC 8259)
abbrev pub line_of : Reply → List ℕ
line_of r = compact_text (reply_data r) ++ 10 ∷ []

-- the lines of the replies, in order
abbrev pub lines_of : List Reply → List ℕ
lines_of rs = flat_map line_of rs

-- the object that comes before the replies of a run alone: the place of the request from which on it is run, as the member `alone`
abbrev pub place_data : ℕ → Data
place_data place = object (member (codes "alone") (number (unsigned place)) no_members)

-- the line that comes before the replies of a run alone: the object of its place, and a newline
abbrev pub place_line : ℕ → List ℕ
place_line place = compact_text (place_data place) ++ 10 ∷ []
