-- Scripts: which JSON texts (RFC 8259) are a server and a list of requests, and which server and requests they are.
use Rattle.std.specs.Prelude.{◌≡◌, ◌≤◌, ◌<◌, ◌^◌, ◌⊎◌, ⊤, ℕ, Bool, true, List, [], ◌∷◌, length, map, slice_get, codes, Option, Some, None, Ok, IsUtf8, All, IfSome, IsSome, IsSomeAnd, option_and_then, option_map, string_bytes}
use Rattle.hex.specs.Hex.{decode_of}
use Rattle.serde_json.specs.Data.{Data, null, Items, no_items, item, Members, no_members, member}
use Rattle.serde_json.specs.Find.{get, as_bool, as_str, as_number, as_array, as_object, as_u64}
use Rattle.serde_json.specs.Read.{read}
use Rattle.dav_core.specs.Element.{ElementTree, ElementTrees, is_element}
use Rattle.dav_core.specs.Element as tree
use Rattle.dav_core.specs.ErrorNames.{fs_error_name}
use Rattle.dav_core.specs.Method.{IsNamedSet}
use Rattle.dav_core.specs.declared.errors.FsError.{FsError}
use Rattle.dav_engine.specs.declared.request.Body.{Body}
use Rattle.dav_engine.specs.declared.request.Body.TheVariants as body
use Rattle.dav_server.specs.GrantToken.{IsGrantToken}
use Rattle.dav_run.specs.declared.request.Request as request
use Rattle.dav_run.specs.declared.script.Script as script
use Rattle.dav_run.specs.declared.script.Form.{Form}
use Rattle.dav_run.specs.declared.script.Form.TheVariants.{Script, Request, Digits, Content, Tree}

-- A request of a script: the bytes of its head, its body, who makes it, its moment in seconds since 1970, the token that it hands in for
-- a lock that it creates, and the refusals of the store's calls, that of the first call first: none lets a call through, and an error is
-- its answer.
pub record ScriptRequest : Type 0 where
  pub head : List ℕ
  pub body : Body
  pub principal : Option (List ℕ)
  pub moment : ℕ
  pub token : Option (List ℕ)
  pub refusals : List (Option FsError)

-- A script: the prefix of the server's paths, the set of the methods that it allows, whether it has locks, the change number that comes
-- next in its store, its requests, in order, and, where later requests are to be run alone too, the place, counted from 0, of the request
-- whose token they name.
pub record ScriptContent : Type 0 where
  pub prefix : List ℕ
  pub methods : ℕ
  pub locks : Bool
  pub next : ℕ
  pub requests : List ScriptRequest
  pub alone : Option ℕ

-- the names of an object's members
abbrev pub member_names : Members → List (List ℕ)
member_names no_members = []
member_names (member name value more) = name ∷ member_names more

-- the names that the members of an object of this form may have
abbrev pub IsMemberOf : Form → List ℕ → Type 0
IsMemberOf Script name =
    (name ≡ codes "alone") ⊎ ((name ≡ codes "locks") ⊎ ((name ≡ codes "methods") ⊎ ((name ≡ codes "next") ⊎ ((name ≡ codes "prefix") ⊎ (name ≡ codes "requests")))))
IsMemberOf Request name =
    (name ≡ codes "body") ⊎ ((name ≡ codes "head") ⊎ ((name ≡ codes "moment") ⊎ ((name ≡ codes "principal") ⊎ ((name ≡ codes "refuse") ⊎ (name ≡ codes "token")))))
IsMemberOf Digits name = name ≡ codes "hex"
IsMemberOf Content name = (name ≡ codes "element") ⊎ ((name ≡ codes "hex") ⊎ (name ≡ codes "text"))
IsMemberOf Tree name =
    (name ≡ codes "attributes") ⊎ ((name ≡ codes "children") ⊎ ((name ≡ codes "name") ⊎ ((name ≡ codes "namespace") ⊎ (name ≡ codes "prefix"))))

-- the value is an object, and each of its members has a name of this form
abbrev pub IsObjectOf : Form → Data → Type 0
IsObjectOf form d = IsSomeAnd (as_object d) (λ members. All (IsMemberOf form) (member_names members))

-- the items of an array are these, as many, in order, each by the relation `Is`
abbrev pub AreItems : {X : Type 0} → (Data → X → Type 0) → Items → List X → Type 0
AreItems Is no_items [] = ⊤
AreItems Is no_items (x ∷ xs) = ⊥
AreItems Is (item d ds) [] = ⊥
AreItems Is (item d ds) (x ∷ xs) = Is d x × AreItems Is ds xs

-- the value is an array with these items, in order, each by the relation `Is`
abbrev pub IsListOf : {X : Type 0} → (Data → X → Type 0) → Data → List X → Type 0
IsListOf Is d xs = IsSomeAnd (as_array d) (λ ds. AreItems Is ds xs)

-- the value is a whole number below 2^64, this one
abbrev pub IsWholeNumber : Data → ℕ → Type 0
IsWholeNumber d n = option_and_then as_u64 (as_number d) ≡ Some n

-- the value is a string with these bytes
abbrev pub IsText : Data → List ℕ → Type 0
IsText d bytes = as_str d ≡ Some bytes

-- the value is a string with the hexadecimal digits, in either case, of these bytes
abbrev pub IsDigits : Data → List ℕ → Type 0
IsDigits d bytes = IsSomeAnd (as_str d) (λ text. decode_of text ≡ Ok bytes)

-- the head of a request: a string with its bytes, or an object whose one member `hex` has their digits
abbrev pub IsHeadText : Data → List ℕ → Type 0
IsHeadText d bytes =
    IsText d bytes
    ⊎ (IsObjectOf Digits d × IsSomeAnd (get (codes "hex") d) (λ digits. IsDigits digits bytes))

-- a string where there is one; none where the member is absent, and where it is null
abbrev pub IsTextOrNone : Option Data → Option (List ℕ) → Type 0
IsTextOrNone None text = text ≡ None
IsTextOrNone (Some d) None = d ≡ null
IsTextOrNone (Some d) (Some text) = IsText d text

-- an attribute: an array of two strings, its name and its value
abbrev pub IsAttribute : Data → List ℕ × List ℕ → Type 0
IsAttribute d a = IsListOf IsText d (a.0 ∷ a.1 ∷ [])

-- the attributes of an element: an array of them, in order; none where the member is absent
abbrev pub AreAttributes : Option Data → List (List ℕ × List ℕ) → Type 0
AreAttributes None attributes = attributes ≡ []
AreAttributes (Some d) attributes = IsListOf IsAttribute d attributes

-- the items of the array of an element's children; no items where the member is absent, and `None` where it is no array
abbrev pub child_items : Option Data → Option Items
child_items None = Some no_items
child_items (Some d) = as_array d

abbrev mutual
  -- A node of an element tree: a string is a text; an object is an element, with a name, and perhaps a prefix, a namespace, attributes
  -- and children.
  pub IsNode : Data → ElementTree → Type 0
  IsNode d (tree.text bytes) = IsText d bytes
  IsNode d (tree.element name prefix namespace attributes children) =
      IsObjectOf Tree d
      × IsSomeAnd (get (codes "name") d) (λ n. IsText n name)
      × IsTextOrNone (get (codes "prefix") d) prefix
      × IsTextOrNone (get (codes "namespace") d) namespace
      × AreAttributes (get (codes "attributes") d) attributes
      × AreNodes (child_items (get (codes "children") d)) children

  -- the items are the children of an element, as many, in order
  pub AreNodes : Option Items → ElementTrees → Type 0
  AreNodes None nodes = ⊥
  AreNodes (Some no_items) tree.no_trees = ⊤
  AreNodes (Some no_items) (tree.tree_then t ts) = ⊥
  AreNodes (Some (item d ds)) tree.no_trees = ⊥
  AreNodes (Some (item d ds)) (tree.tree_then t ts) = IsNode d t × AreNodes (Some ds) ts

-- the value is a node of an element tree that is an element
abbrev pub IsElement : Data → ElementTree → Type 0
IsElement d t = IsNode d t × (is_element t ≡ true)

-- A body where the member is there: null for none; an object with one member, which is `hex` with the digits or `text` with the text of
-- its bytes, or `element` with the tree; or the string `malformed`, for bytes that were to be a tree.
abbrev pub IsBodyValue : Data → Body → Type 0
IsBodyValue d body.None = d ≡ null
IsBodyValue d (body.Bytes bytes) =
    IsObjectOf Content d × (get (codes "element") d ≡ None)
    × (((get (codes "text") d ≡ None) × IsSomeAnd (get (codes "hex") d) (λ digits. IsDigits digits bytes))
    ⊎ ((get (codes "hex") d ≡ None) × IsSomeAnd (get (codes "text") d) (λ text. IsText text bytes)))
IsBodyValue d (body.Tree t) =
    IsObjectOf Content d × (get (codes "text") d ≡ None) × (get (codes "hex") d ≡ None)
    × IsSomeAnd (get (codes "element") d) (λ e. IsElement e t)
IsBodyValue d body.Malformed = IsText d (codes "malformed")

-- the body of a request; none where the member is absent
abbrev pub IsBody : Option Data → Body → Type 0
IsBody None b = b ≡ body.None
IsBody (Some d) b = IsBodyValue d b

-- a token that a lock may be granted with; none where the member is absent or null
abbrev pub IsToken : Option Data → Option (List ℕ) → Type 0
IsToken o token = IsTextOrNone o token × IfSome token IsGrantToken

-- the moment of a request: a whole number, at most the last second of the year 9999; 0 where the member is absent
abbrev pub IsMoment : Option Data → ℕ → Type 0
IsMoment None moment = moment ≡ 0
IsMoment (Some d) moment = IsWholeNumber d moment × (moment ≤ 253402300799)

-- an item of `refuse`: null lets a call through; a string is the name of the error that the call is refused with
abbrev pub IsRefusal : Data → Option FsError → Type 0
IsRefusal d None = d ≡ null
IsRefusal d (Some e) = IsText d (fs_error_name e)

-- the refusals of a request: an array of them, in order; none where the member is absent
abbrev pub AreRefusals : Option Data → List (Option FsError) → Type 0
AreRefusals None refusals = refusals ≡ []
AreRefusals (Some d) refusals = IsListOf IsRefusal d refusals

-- A request of a script: an object with a head, and perhaps a body, a principal, a moment, a token and refusals.
pub record IsRequest (d : Data) (r : ScriptRequest) : Type 0 where
  pub members : IsObjectOf Request d
  pub head : IsSomeAnd (get (codes "head") d) (λ head. IsHeadText head r.head)
  pub body : IsBody (get (codes "body") d) r.body
  pub principal : IsTextOrNone (get (codes "principal") d) r.principal
  pub moment : IsMoment (get (codes "moment") d) r.moment
  pub token : IsToken (get (codes "token") d) r.token
  pub refusals : AreRefusals (get (codes "refuse") d) r.refusals

-- the prefix of a script: a string; empty where the member is absent
abbrev pub IsPrefix : Option Data → List ℕ → Type 0
IsPrefix None prefix = prefix ≡ []
IsPrefix (Some d) prefix = IsText d prefix

-- the items are names of methods, ASCII case ignored, and the set has these methods and no others
pub record AreMethods (ds : Items) (set : ℕ) : Type 0 where
  pub below : set < 2 ^ 16
  pub named : (names : List (List ℕ)) × AreItems IsText ds names × IsNamedSet names set

-- the methods that a script's server allows: an array of their names; all where the member is absent
abbrev pub IsMethods : Option Data → ℕ → Type 0
IsMethods None set = set ≡ 65535
IsMethods (Some d) set = IsSomeAnd (as_array d) (λ ds. AreMethods ds set)

-- whether a script's server has locks: true or false; true where the member is absent
abbrev pub IsLocks : Option Data → Bool → Type 0
IsLocks None locks = locks ≡ true
IsLocks (Some d) locks = as_bool d ≡ Some locks

-- the change number that comes next in a script's store: a whole number; 1 where the member is absent
abbrev pub IsNext : Option Data → ℕ → Type 0
IsNext None next = next ≡ 1
IsNext (Some d) next = IsWholeNumber d next

-- at this place, counted from 0, there is a request, and it hands in a token
abbrev pub HasToken : List ScriptRequest → ℕ → Type 0
HasToken requests place = IsSomeAnd (slice_get requests place) (λ r. IsSome r.token)

-- The place from which on a holder's requests are also run alone: a whole number, the place of a request that hands in a token; none
-- where the member is absent.
abbrev pub IsAlone : Option Data → List ScriptRequest → Option ℕ → Type 0
IsAlone None requests alone = alone ≡ None
IsAlone (Some d) requests None = ⊥
IsAlone (Some d) requests (Some place) = IsWholeNumber d place × HasToken requests place

-- A script as a JSON value: an object with a list of requests, and perhaps a prefix, methods, whether there are locks, a next change
-- number and a place of a request.
pub record IsScriptValue (d : Data) (s : ScriptContent) : Type 0 where
  pub members : IsObjectOf Script d
  pub prefix : IsPrefix (get (codes "prefix") d) s.prefix
  pub methods : IsMethods (get (codes "methods") d) s.methods
  pub locks : IsLocks (get (codes "locks") d) s.locks
  pub next : IsNext (get (codes "next") d) s.next
  pub requests : IsSomeAnd (get (codes "requests") d) (λ list. IsListOf IsRequest list s.requests)
  pub alone : IsAlone (get (codes "alone") d) s.requests s.alone

-- bytes are this script: UTF-8, and JSON of its value; of a member that occurs twice the last one counts (RFC 8259)
abbrev pub IsScript : List ℕ → ScriptContent → Type 0
IsScript text s = IsUtf8 text × IsSomeAnd (read text) (λ d. IsScriptValue d s)

-- the text has at most 16 MiB, as a script may have
abbrev pub IsShort : List ℕ → Type 0
IsShort text = length text ≤ 16777216

-- ---- what was read

-- what contracts see of a request of a script that was read
abbrev pub script_request : request.Request → ScriptRequest
script_request r =
    record {
      head = r.head.items;
      body = r.body;
      principal = option_map string_bytes r.principal;
      moment = r.moment;
      token = r.token;
      refusals = r.refusals.items;
    }

-- what contracts see of a script that was read
abbrev pub script_content : script.Script → ScriptContent
script_content s = record {
  prefix = string_bytes s.prefix;
  methods = s.methods;
  locks = s.locks;
  next = s.next;
  requests = map script_request s.requests.items;
  alone = s.alone;
}
