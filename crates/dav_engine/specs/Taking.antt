-- A multistatus that is handed on in parts: first without responses, and then its responses, one after another, as they are made
-- (RFC 4918, section 13).
use Rattle.std.specs.Prelude.{◌≡◌, true, List, [], ◌∷◌, Option, Some, None, option_map, Result, Ok, Err}
use Rattle.dav_core.specs.declared.errors.DavError.{DavError}
use Rattle.dav_core.specs.Asking.{StoreState}
use Rattle.dav_core.specs.Element.{ElementTree, is_element, with_child, with_children}
use Rattle.dav_engine.specs.declared.reply.ReplyBody.TheVariants as reply
use Rattle.dav_engine.specs.Follows.{as_is, FollowsWithLocks, Serves}
use Rattle.dav_engine.specs.Method.{MethodPlan}
use Rattle.dav_engine.specs.Plan.{Locks, ServerState}
use Rattle.dav_engine.specs.Reply.{Reply}

-- What takes responses, after it took these, in order.
abbrev pub taken_all : {T : Type 0} → (T → ElementTree → T) → T → List ElementTree → T
taken_all taken to [] = to
taken_all taken to (r ∷ rs) = taken_all taken (taken to r) rs

-- A whole reply is told so: as it is, where nothing was handed on; or as 207 without a body, and its multistatus was handed on to `to`,
-- which is now `after`: first without responses, and then each response, in order.
abbrev pub IsHandedOn : {T : Type 0} → (opened taken : T → ElementTree → T) → T → Reply → Reply → Option T → Type 0
IsHandedOn opened taken to whole told None = told ≡ whole
IsHandedOn opened taken to whole told (Some after) =
    (root : ElementTree) × (responses : List ElementTree) × (is_element root ≡ true) × (told.status ≡ 207)
    × (whole ≡ record told { body = reply.Tree (with_children root responses) }) × (told.body ≡ reply.Nothing) × (after ≡ taken_all taken (opened to (with_children root [])) responses)

-- The whole outcome of a request is told so; an error as it is.
abbrev pub HandsOn : {T : Type 0} → (opened taken : T → ElementTree → T) → T → Result Reply DavError → Result (Reply × Option T) DavError → Type 0
HandsOn opened taken to (Ok whole) (Ok told) = IsHandedOn opened taken to whole told.0 told.1
HandsOn opened taken to (Err e) (Err f) = f ≡ e
HandsOn opened taken to _ _ = ⊥

-- A plan was carried out by code that only reads the list of locks, and its outcome is told so.
abbrev pub FollowsHandingOn : {T : Type 0} → (opened taken : T → ElementTree → T) → T → Locks → MethodPlan Reply → StoreState → Result (Reply × Option T) DavError → StoreState → Type 0
FollowsHandingOn opened taken to locks plan old result new =
    (whole : Result Reply DavError) × FollowsWithLocks locks as_is plan old whole new × HandsOn opened taken to whole result

-- A request was answered by a plan of this kind, on the state of a server, and its outcome is told so.
abbrev pub ServesHandingOn : {T : Type 0} → (opened taken : T → ElementTree → T) → T → (MethodPlan Reply → Type 0) → ServerState → Result (Reply × Option T) DavError → ServerState → Type 0
ServesHandingOn opened taken to kind old result new = (whole : Result Reply DavError) × Serves kind old whole new × HandsOn opened taken to whole result

-- The tree of a multistatus, once it was opened: without responses.
abbrev pub opened_tree : Option ElementTree → ElementTree → Option ElementTree
opened_tree tree root = Some root

-- The tree of a multistatus with one more response; none where it wasn't opened.
abbrev pub grown_tree : Option ElementTree → ElementTree → Option ElementTree
grown_tree tree response = option_map (λ e. with_child e response) tree
