-- A listing that is shown response by response is what is shown of it as one tree.
use Rattle.std.proofs.Common.{◌≡◌, ℕ, ◌==◌, Bool, true, false, cond, List, [], ◌∷◌, ◌++◌, length, map, Option, Some, None, Result, Ok, Err, refl, sym, ap, subst, ◌∙◌, append_assoc, arith}
use Rattle.std.proofs.lemmas.Bool.{cond-false, cond-true, eq-eqb, eqb-true}
use Rattle.std.proofs.lemmas.List.{append-nil}
use Rattle.std.specs.List.{concat}
use Rattle.std.specs.Result.{result_ok}
use Rattle.http_server.specs.declared.response.Response.{Response}
use Rattle.http_server.specs.Response.{IsResponse}
use Rattle.dav_core.specs.Element.{ElementTree, child_elements, children_of, element, is_element, no_trees, text, with_children}
use Rattle.dav_core.proofs.ElementLemmas.{tree_list_trees, trees_tree_list}
use Rattle.dav_engine.specs.declared.reply.ReplyBody.TheVariants as reply
use Rattle.dav_engine.specs.Reply.{Reply}
use Rattle.dav_engine.specs.Taking.{taken_all}
use Rattle.dav_server.specs.Head.{Request}
use Rattle.dav_presented.specs.declared.quota.Room.{Room}
use Rattle.dav_presented.specs.Minimal.{answered_to, with_propstat}
use Rattle.dav_presented.specs.Missing.{completed_child, completed_tree, prop_among}
use Rattle.dav_presented.specs.Quota.{names_quota, names_quota_if_any, with_quota_for, with_quota_of}
use Rattle.dav_presented.specs.Responses.{changed_child}
use Rattle.dav_presented.specs.Typed.{typed, typed_child}
use Rattle.dav_xml.specs.declared.error.Fault.{Fault}
use Rattle.dav_xml.specs.ByChild.{child_of, closing_of, opening_of, root_place, written_name}
use Rattle.dav_xml.specs.Spelling.{spelling}
use Rattle.dav_xml.specs.Token.{opens}
use Rattle.dav_xml.specs.Namespaces.{document}
use Rattle.dav_xml.specs.Written.{declaration, document_of}
use Rattle.dav_xml.proofs.ByChild.{document_is_of_children}
use Rattle.dav_http.specs.Presented.{applied, completed_by, found, leaves_out, shown_body, shown_tree}
use Rattle.dav_http.specs.Sending.{IsSentWith, sent_fields}
use Rattle.dav_http.specs.Listing.{IsBegun, Listed, ShowsListing, asks_for_room, opened, shown_by, shown_in, taken, text_before, text_in, whole_text}
use Rattle.dav_http.specs.Steps.{sent_bytes}

by_test : (t : Bool) (Q : Bool → Type 0) → (t ≡ true → Q true) → (t ≡ false → Q false) → Q t
by_test true Q p q = p refl
by_test false Q p q = q refl

-- ---- what is shown of a multistatus is what is shown of each child

map_twice : (f g : ElementTree → ElementTree) (ts : List ElementTree) → map g (map f ts) ≡ map (λ t. g (f t)) ts
map_twice f g [] = refl
map_twice f g (t ∷ ts) = ap (λ us. g (f t) ∷ us) (map_twice f g ts)

map_same : (f : ElementTree → ElementTree) → ((t : ElementTree) → f t ≡ t) → (ts : List ElementTree) → map f ts ≡ ts
map_same f same [] = refl
map_same f same (t ∷ ts) = (λ k. same t k ∷ map_same f same ts k)

-- the children of an element, each changed so
each_of : (f : ElementTree → ElementTree) (root : ElementTree) (ts : List ElementTree) → is_element root ≡ true
    → with_children (with_children root ts) (map f (children_of (with_children root ts))) ≡ with_children root (map f ts)
each_of f (text bytes) ts is = cc
each_of f (element name prefix namespace attributes children) ts is =
    ap (λ us. with_children (element name prefix namespace attributes children) (map f us)) (tree_list_trees ts)

-- a child, with the room that is asked for
abbrev quota_child : Room → Option ElementTree → ElementTree → ElementTree
quota_child room None t = t
quota_child room (Some prop) t = cond (names_quota prop) (changed_child (with_quota_of room prop) t) t

quota_each : (room : Room) (asked : Option ElementTree) (root : ElementTree) (ts : List ElementTree) → is_element root ≡ true
    → with_quota_for room asked (with_children root ts) ≡ with_children root (map (quota_child room asked) ts)
quota_each room None root ts is = ap (with_children root) (sym (map_same (quota_child room None) (λ t. refl) ts))
quota_each room (Some prop) root ts is =
    by_test (names_quota prop)
    (λ b. cond b (with_children (with_children root ts) (map (changed_child (with_quota_of room prop)) (children_of (with_children root ts)))) (with_children root ts)
    ≡ with_children root (map (λ t. cond b (changed_child (with_quota_of room prop) t) t) ts))
    (λ e. each_of (changed_child (with_quota_of room prop)) root ts is)
    (λ e. ap (with_children root) (sym (map_same (λ t. t) (λ t. refl) ts)))

-- a child, with what is missing, where that is told
abbrev missing_child : Option ElementTree → ElementTree → ElementTree
missing_child None t = t
missing_child (Some prop) t = completed_child (child_elements prop) t

missing_each : (asked : Option ElementTree) (root : ElementTree) (ts : List ElementTree) → is_element root ≡ true
    → completed_tree asked (with_children root ts) ≡ with_children root (map (missing_child asked) ts)
missing_each None root ts is = ap (with_children root) (sym (map_same (missing_child None) (λ t. refl) ts))
missing_each (Some prop) root ts is = each_of (completed_child (child_elements prop)) root ts is

abbrev answered_child : Bool → ElementTree → ElementTree → ElementTree
answered_child true propfind t = changed_child with_propstat t
answered_child false propfind t = missing_child (prop_among (child_elements propfind)) t

answered_each : (leaves_out : Bool) (propfind root : ElementTree) (ts : List ElementTree) → is_element root ≡ true
    → answered_to leaves_out propfind (with_children root ts) ≡ with_children root (map (answered_child leaves_out propfind) ts)
answered_each true propfind root ts is = each_of (changed_child with_propstat) root ts is
answered_each false propfind root ts is = missing_each (prop_among (child_elements propfind)) root ts is

-- what is shown of a child
abbrev pub shown_child : Bool → Room → Option ElementTree → ElementTree → ElementTree
shown_child leaves_out room None t = typed_child t
shown_child leaves_out room (Some propfind) t = answered_child leaves_out propfind (quota_child room (prop_among (child_elements propfind)) (typed_child t))

pub shown_each : (leaves_out : Bool) (room : Room) (asked : Option ElementTree) (root : ElementTree) (ts : List ElementTree) → is_element root ≡ true
    → shown_by leaves_out room asked (with_children root ts) ≡ with_children root (map (shown_child leaves_out room asked) ts)
shown_each leaves_out room None root ts is = each_of typed_child root ts is
shown_each leaves_out room (Some propfind) root ts is =
    let prop : Option ElementTree = prop_among (child_elements propfind) in
    ap (λ told. answered_to leaves_out propfind (with_quota_for room prop told)) (each_of typed_child root ts is)
    ∙ ap (answered_to leaves_out propfind) (quota_each room prop root (map typed_child ts) is)
    ∙ answered_each leaves_out propfind root (map (quota_child room prop) (map typed_child ts)) is
    ∙ ap (λ us. with_children root (map (answered_child leaves_out propfind) us)) (map_twice typed_child (quota_child room prop) ts)
    ∙ ap (with_children root) (map_twice (λ t. quota_child room prop (typed_child t)) (answered_child leaves_out propfind) ts)

-- ---- what is begun

-- as much is shown with another room where none is asked for
same_quota : (room other : Room) (prop : Option ElementTree) (told : ElementTree) → (names_quota_if_any prop ≡ true → room ≡ other)
    → with_quota_for room prop told ≡ with_quota_for other prop told
same_quota room other None told same = refl
same_quota room other (Some prop) told same =
    by_test (names_quota prop)
    (λ b. (b ≡ true → room ≡ other) → cond b (with_children told (map (changed_child (with_quota_of room prop)) (children_of told))) told
    ≡ cond b (with_children told (map (changed_child (with_quota_of other prop)) (children_of told))) told)
    (λ e asked. ap (λ r. with_children told (map (changed_child (with_quota_of r prop)) (children_of told))) (asked refl))
    (λ e asked. refl) same

same_room : (leaves_out : Bool) (room other : Room) (read : Result ElementTree Fault) → (asks_for_room (result_ok read) ≡ true → room ≡ other) → (told : ElementTree)
    → shown_by leaves_out room (result_ok read) told ≡ completed_by leaves_out other read (typed told)
same_room leaves_out room other (Err fault) same told = refl
same_room leaves_out room other (Ok propfind) same told =
    ap (answered_to leaves_out propfind) (same_quota room other (prop_among (child_elements propfind)) (typed told) same)

pub begun : (leaves_out leaves_out2 : Bool) (room other : Room) (bytes words : List ℕ) (asked : Option ElementTree) → leaves_out ≡ leaves_out2 → asked ≡ result_ok (document bytes)
    → (asks_for_room asked ≡ true → room ≡ other) → words ≡ []
    → IsBegun leaves_out2 other bytes (record { leaves_out = leaves_out; room = room; asked = asked; root = None; text = words })
begun leaves_out leaves_out2 room other bytes words asked same_out is same empty = record {
  shows = λ told.
      ap (λ b. shown_by b room asked told) same_out
      ∙ ap (λ a. shown_by leaves_out2 room a told) is
      ∙ same_room leaves_out2 room other (document bytes) (λ e. same (ap asks_for_room is ∙ e)) told;
  root = refl;
  text = empty;
}

-- ---- what is taken

-- a multistatus that showed a response alone is as it was, with the children that it had
pub had_again : (leaves_out : Bool) (room : Room) (asked : Option ElementTree) (root response : ElementTree) → is_element root ≡ true
    → with_children (shown_by leaves_out room asked (with_children root (response ∷ []))) (children_of root) ≡ root
had_again leaves_out room asked (text bytes) response is = cc
had_again leaves_out room asked (element name prefix namespace attributes children) response is =
    let root : ElementTree = element name prefix namespace attributes children in
    ap (λ e. with_children e (children_of root)) (shown_each leaves_out room asked root (response ∷ []) refl)
    ∙ ap (element name prefix namespace attributes) (trees_tree_list children)

-- one more response was taken
pub added : (l inside : Listed) (again root response told sent : ElementTree) (children : List ElementTree) (words : List ℕ) → inside ≡ l → is_element root ≡ true
    → told ≡ with_children root (response ∷ []) → children ≡ children_of root → sent ≡ shown_in l told → again ≡ with_children sent children → words ≡ text_in inside.text sent
    → record inside { root = Some again; text = words } ≡ record l { root = Some root; text = text_in l.text (shown_in l (with_children root (response ∷ []))) }
added l inside again root response told sent children words same is alone had shown put wrote =
    let sent_is : sent ≡ shown_in l (with_children root (response ∷ [])) = shown ∙ ap (shown_in l) alone in
    let again_is : again ≡ root = put ∙ (λ k. with_children (sent_is k) (had k)) ∙ had_again l.leaves_out l.room l.asked root response is in
    let words_are : words ≡ text_in l.text (shown_in l (with_children root (response ∷ []))) = wrote ∙ (λ k. text_in (same k).text (sent_is k)) in
    (λ k. record (same k) { root = Some (again_is k); text = words_are k })

-- ---- the text

some_more : (x : ℕ) (xs : List ℕ) → (length (x ∷ xs) == 0) ≡ false
some_more x xs = by_test (length (x ∷ xs) == 0) (λ b. b ≡ false) (λ e. let zero = eqb-true (length (x ∷ xs)) 0 e in absurd (omega (arith, zero))) (λ e. refl)

still_some : (words more : List ℕ) → (length words == 0) ≡ false → (length (words ++ more) == 0) ≡ false
still_some [] more some = cc (eq-eqb 0 0 refl)
still_some (x ∷ xs) more some = some_more x (xs ++ more)

opening_some : (root : ElementTree) → (length (opening_of root) == 0) ≡ false
opening_some root = still_some declaration (spelling (opens (written_name root) (root_place root).0)) refl

-- a listing by its text
abbrev at_text : Bool → Room → Option ElementTree → ElementTree → List ℕ → Listed
at_text leaves_out room asked root bytes = record { leaves_out = leaves_out; room = room; asked = asked; root = Some root; text = bytes }

-- the texts of responses as they are shown
abbrev texts_of : Bool → Room → Option ElementTree → ElementTree → List ElementTree → List ℕ
texts_of leaves_out room asked root ts = concat (map (child_of root) (map (shown_child leaves_out room asked) ts))

-- one response, within a multistatus that has no other
one_text : (leaves_out : Bool) (room : Room) (asked : Option ElementTree) (root t : ElementTree) (bytes : List ℕ) → is_element root ≡ true
    → text_in bytes (shown_by leaves_out room asked (with_children root (t ∷ []))) ≡ text_before bytes root ++ child_of root (shown_child leaves_out room asked t)
one_text leaves_out room asked (text b) t bytes is = cc
one_text leaves_out room asked (element name prefix namespace attributes children) t bytes is =
    let root : ElementTree = element name prefix namespace attributes children in
    let child : List ℕ = child_of root (shown_child leaves_out room asked t) in
    ap (text_in bytes) (shown_each leaves_out room asked root (t ∷ []) refl) ∙ ap (λ bs. text_before bytes root ++ bs) (append-nil child)

-- responses after others
more_texts : (leaves_out : Bool) (room : Room) (asked : Option ElementTree) (root : ElementTree) (ts : List ElementTree) (bytes : List ℕ) → is_element root ≡ true → (length bytes == 0) ≡ false
    → taken_all taken (at_text leaves_out room asked root bytes) ts ≡ at_text leaves_out room asked root (bytes ++ texts_of leaves_out room asked root ts)
more_texts leaves_out room asked root [] bytes is some = ap (at_text leaves_out room asked root) (sym (append-nil bytes))
more_texts leaves_out room asked root (t ∷ ts) bytes is some =
    let child : List ℕ = child_of root (shown_child leaves_out room asked t) in
    ap (λ bs. taken_all taken (at_text leaves_out room asked root bs) ts) (one_text leaves_out room asked root t bytes is ∙ ap (λ bs. bs ++ child) (cond-false (length bytes == 0) (opening_of root) bytes some))
    ∙ more_texts leaves_out room asked root ts (bytes ++ child) is (still_some bytes child some)
    ∙ ap (at_text leaves_out room asked root) (append_assoc bytes child (texts_of leaves_out room asked root ts))

-- all that was taken since the multistatus came
all_texts : (leaves_out : Bool) (room : Room) (asked : Option ElementTree) (root : ElementTree) (ts : List ElementTree) → is_element root ≡ true
    → let l = taken_all taken (at_text leaves_out room asked (with_children root []) []) ts in
    whole_text l.root l.text ≡ document_of (with_children root (map (shown_child leaves_out room asked) ts))
all_texts leaves_out room asked (text bytes) ts is = cc
all_texts leaves_out room asked (element name prefix namespace attributes children) [] is = refl
all_texts leaves_out room asked (element name prefix namespace attributes children) (t ∷ ts) is =
    let root : ElementTree = element name prefix namespace attributes no_trees in
    let child : List ℕ = child_of root (shown_child leaves_out room asked t) in
    let first : List ℕ = opening_of root ++ child in
    let some : (length first == 0) ≡ false = still_some (opening_of root) child (opening_some root) in
    let rest : List ℕ = texts_of leaves_out room asked root ts in
    let all : List ElementTree = map (shown_child leaves_out room asked) ts in
    ap (λ l. whole_text l.root l.text)
    (ap (λ bs. taken_all taken (at_text leaves_out room asked root bs) ts) (one_text leaves_out room asked root t [] refl) ∙ more_texts leaves_out room asked root ts first refl some)
    ∙ cond-false (length (first ++ rest) == 0) (document_of root) ((first ++ rest) ++ closing_of root) (still_some first rest some)
    ∙ ap (λ bs. bs ++ closing_of root) (append_assoc (opening_of root) child rest)
    ∙ append_assoc (opening_of root) (child ++ rest) (closing_of root)
    ∙ sym (document_is_of_children root (shown_child leaves_out room asked t) all refl)

-- ---- what is sent

-- a listing is shown as it would be in one tree
shown_text : (l : Listed) (start : Listed) (leaves_out : Bool) (room : Room) (bytes : List ℕ) (root : ElementTree) (ts : List ElementTree) → IsBegun leaves_out room bytes start
    → is_element root ≡ true → l ≡ taken_all taken (opened start root) ts → whole_text l.root l.text ≡ document_of (shown_tree leaves_out room bytes (with_children root ts))
shown_text l start leaves_out room bytes root ts begun is took =
    ap (λ x. whole_text x.root x.text) took
    ∙ all_texts start.leaves_out start.room start.asked root ts is
    ∙ ap document_of (sym (shown_each start.leaves_out start.room start.asked root ts is) ∙ begun.shows (with_children root ts))

-- a 207 is told as it is shown
found_is : (leaves_out : Bool) (room : Room) (bytes : List ℕ) (r : Reply) → r.status ≡ 207 → found leaves_out room bytes r ≡ record r { body = shown_body leaves_out room bytes r.body }
found_is leaves_out room bytes r is =
    cond-true (r.status == 207) (record r { body = shown_body leaves_out room bytes r.body }) (cond (r.status == 501) (record r { status = 403 }) r) (eq-eqb r.status 207 is)

-- a multistatus that holds no response is the same without any
opened_again : (start : Listed) (root : ElementTree) → is_element root ≡ true → opened start (with_children root []) ≡ opened start root
opened_again start (text bytes) is = cc
opened_again start (element name prefix namespace attributes children) is = refl

pub listing_shown : (q : Request) (r : Reply) (l : Listed) (sent : Response)
    → IsResponse r.status (sent_fields false r.headers ++ applied q r) (whole_text l.root l.text) sent → ShowsListing q r l sent
listing_shown q r l sent filled room bytes start whole begun (root, ts, is, status, are, nothing, took) =
    let told : Reply = record r { body = reply.Tree (with_children root ts) } in
    let came : l ≡ taken_all taken (opened start root) ts = took ∙ ap (λ x. taken_all taken x ts) (opened_again start root is) in
    subst (λ (w : Reply). IsSentWith (applied q w) false (found (leaves_out q) room bytes w) sent) (sym are)
    (subst (λ (x : Reply). IsResponse x.status (sent_fields false x.headers ++ applied q r) (sent_bytes x.body) sent) (sym (found_is (leaves_out q) room bytes told status))
    (subst (λ (bs : List ℕ). IsResponse r.status (sent_fields false r.headers ++ applied q r) bs sent) (shown_text l start (leaves_out q) room bytes root ts begun is came) filled))
