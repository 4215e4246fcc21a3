-- The reply to a PROPPATCH may be sent, and so may what it stores.
use Rattle.std.proofs.Common.{◌≡◌, ℕ, Bool, true, false, cond, ◌==◌, nat_lt, List, [], ◌∷◌, ◌++◌, map, codes, bytes_eq, Option, Some, None, Result, Ok, Err, refl, sym, subst}
use Rattle.std.specs.List.{AllByRecursion, filter, flat_map}
use Rattle.std.specs.Option.{is_none, unwrap_or}
use Rattle.std.specs.Prelude.{IfOk}
use Rattle.std.specs.Result.{result_ok}
use Rattle.dav_core.specs.declared.errors.DavError.{DavError}
use Rattle.dav_core.specs.declared.errors.FsError.{FsError}
use Rattle.dav_core.specs.declared.errors.DavError.TheVariants as dav
use Rattle.dav_core.specs.declared.fs.DavMetaData.{DavMetaData}
use Rattle.dav_core.specs.declared.method.DavMethod.TheVariants as method
use Rattle.dav_core.specs.Asking.{Metadata, HaveProps, PatchProps}
use Rattle.dav_core.specs.Element.{ElementTree, name_of, prefix_of, namespace_of, child_elements, is_named}
use Rattle.dav_core.specs.Path.{Path, PathText, names}
use Rattle.dav_core.specs.Property.{Property, patch_of, patched_property, without_xml}
use Rattle.dav_engine.specs.declared.request.Body.{Body}
use Rattle.dav_engine.specs.declared.request.Body.TheVariants as body
use Rattle.dav_engine.specs.Caller.{Caller, requester}
use Rattle.dav_engine.specs.Conditions.{Conditions}
use Rattle.dav_engine.specs.Folder.{closed, location_found}
use Rattle.dav_engine.specs.Method.{required, refused_as}
use Rattle.dav_engine.specs.Multistatus.{multistatus}
use Rattle.dav_engine.specs.Properties.{Group, property_response}
use Rattle.dav_engine.specs.Proppatch.{Change, each_changed, changes_to, changes_by, changes_in, change_status, by_name, element_by_name, property_by_name, Told, told_under, grouped_onto, grouped, answered_by, answered_at_once, to_store, has_refused, failed_status, failed_element, all_failed, all_done, as_patch, store_changes, change_all, patch_properties, proppatch_found, proppatch}
use Rattle.dav_engine.specs.Reply.{Header}
use Rattle.dav_engine.proofs.LockPlans.{required_is}
use Rattle.dav_engine.proofs.PutWorld.{only_guarded, only_free}
use Rattle.dav_xml.specs.Sendable.{IsSendable}
use Rattle.dav_http.specs.Sent.{IsSendableIfAny, IsSendableBody}
use Rattle.dav_http.proofs.Each.{test_of, each_append, each_filter, each_map, each_flat_map}
use Rattle.dav_http.proofs.SentFinds.{IsSent}
use Rattle.dav_http.proofs.SentNames.{HasPath, closed_path, by_name_sendable}
use Rattle.dav_http.proofs.SentParts.{AllSendable, children_sendable, IsSendableGroup, property_response_sendable, multistatus_sendable}
use Rattle.dav_http.proofs.SentPlans.{Says, Sends, sends_ok, sends_ask, sends_outcome, sends_then, sends_bind, sends_looked}
use Rattle.dav_http.proofs.StoredTrees.{Sets}

-- ---- changes

abbrev Changes : Change → Type 0
Changes c = IsSendable c.property

abbrev AllChange : List Change → Type 0
AllChange cs = AllByRecursion Changes cs

changed_each : (is_set : Bool) (es : List ElementTree) → AllSendable es → AllChange (each_changed is_set es)
changed_each is_set es all = each_map IsSendable Changes (λ e. record { is_set = is_set; property = e }) (λ e h. h) es all

to_sendable : (is_set : Bool) (part : ElementTree) → IsSendable part → AllChange (changes_to is_set part)
to_sendable is_set part h =
    let props = filter (is_named (codes "prop")) (child_elements part) in
    changed_each is_set (flat_map child_elements props) (each_flat_map IsSendable IsSendable child_elements children_sendable props (each_filter IsSendable (is_named (codes "prop")) (child_elements part) (children_sendable part h)))

if_changes : (b : Bool) (x y : List Change) → AllChange x → AllChange y → AllChange (cond b x y)
if_changes true x y h k = h
if_changes false x y h k = k

by_sendable : (part : ElementTree) → IsSendable part → AllChange (changes_by part)
by_sendable part h =
    if_changes (bytes_eq (name_of part) (codes "set")) (changes_to true part) (cond (bytes_eq (name_of part) (codes "remove")) (changes_to false part) []) (to_sendable true part h)
    (if_changes (bytes_eq (name_of part) (codes "remove")) (changes_to false part) [] (to_sendable false part h) tt)

some_changes : (b : Bool) (cs ds : List Change) → AllChange cs → cond b (Some cs) None ≡ Some ds → AllChange ds
some_changes true cs ds all is = let same : cs ≡ ds = cc in subst AllChange same all
some_changes false cs ds all is = absurd cc

changes_sendable : (content : Body) → IsSendableBody content → (cs : List Change) → changes_in content ≡ Some cs → AllChange cs
changes_sendable body.None h cs is = absurd cc
changes_sendable (body.Bytes bytes) h cs is = absurd cc
changes_sendable body.Malformed h cs is = absurd cc
changes_sendable (body.Tree tree) h cs is =
    some_changes (bytes_eq (name_of tree) (codes "propertyupdate")) (flat_map changes_by (child_elements tree)) cs
    (each_flat_map IsSendable Changes changes_by by_sendable (child_elements tree) (children_sendable tree h.0)) is

-- ---- what is told

abbrev Answers : ℕ × Change → Type 0
Answers r = IsSendable r.1.property

abbrev Tells : Told → Type 0
Tells t = IsSendable t.1

answered_each : (c : Change) (o : Option ℕ) → Changes c → AllByRecursion Answers (answered_by c o)
answered_each c None h = tt
answered_each c (Some status) h = (h, tt)

at_once_sendable : (has : Bool) (cs : List Change) → AllChange cs → AllByRecursion Answers (answered_at_once has cs)
at_once_sendable has cs all = each_flat_map Changes Answers (λ c. answered_by c (change_status has c)) (λ c h. answered_each c (change_status has c) h) cs all

stored_sendable : (has : Bool) (cs : List Change) → AllChange cs → AllChange (to_store has cs)
stored_sendable has cs all = each_filter Changes (λ c. is_none (change_status has c)) cs all

failed_sendable : (c : Change) → Changes c → IsSendable (failed_element c)
failed_sendable c h = test_of c.is_set (λ t. IsSendable (cond t c.property (element_by_name c.property))) (λ e. h) (λ e. by_name_sendable c.property h)

all_failed_sendable : (answers : List (ℕ × Change)) (stored : List Change) → AllByRecursion Answers answers → AllChange stored → AllByRecursion Tells (all_failed answers stored)
all_failed_sendable answers stored h k =
    let front = map (λ r. (failed_status r.0, element_by_name r.1.property)) answers in
    let back = map (λ c. (424, failed_element c)) stored in
    each_append Tells front back (each_map Answers Tells (λ r. (failed_status r.0, element_by_name r.1.property)) (λ r one. by_name_sendable r.1.property one) answers h)
    (each_map Changes Tells (λ c. (424, failed_element c)) failed_sendable stored k)

-- what the store answers to changes, by their names
abbrev echo : Change → ℕ × Property
echo c = (200, without_xml (patched_property (as_patch c)))

named_after : (b : Bool) (p : Property) → property_by_name (without_xml (patched_property (patch_of (b, p)))) ≡ by_name p.name p.prefix p.namespace
named_after true p = refl
named_after false p = refl

abbrev TellsOf : ℕ × Property → Type 0
TellsOf a = IsSendable (property_by_name a.1)

echo_sendable : (c : Change) → Changes c → TellsOf (echo c)
echo_sendable c h = subst IsSendable (sym (named_after c.is_set (record { name = name_of c.property; prefix = prefix_of c.property; namespace = namespace_of c.property; xml = cond c.is_set (Some c.property) None }))) (by_name_sendable c.property h)

all_done_sendable : (answers : List (ℕ × Change)) (stored : List (ℕ × Property)) → AllByRecursion Answers answers → AllByRecursion TellsOf stored → AllByRecursion Tells (all_done answers stored)
all_done_sendable answers stored h k =
    let front = map (λ r. (r.0, element_by_name r.1.property)) answers in
    let back = map (λ a. (a.0, property_by_name a.1)) stored in
    each_append Tells front back (each_map Answers Tells (λ r. (r.0, element_by_name r.1.property)) (λ r one. by_name_sendable r.1.property one) answers h)
    (each_map TellsOf Tells (λ a. (a.0, property_by_name a.1)) (λ a one. one) stored k)

abbrev AllGroups : List Group → Type 0
AllGroups gs = AllByRecursion IsSendableGroup gs

if_groups : (b : Bool) (x y : List Group) → AllGroups x → AllGroups y → AllGroups (cond b x y)
if_groups true x y h k = h
if_groups false x y h k = k

under_sendable : (status : ℕ) (e : ElementTree) (gs : List Group) → IsSendable e → AllGroups gs → AllGroups (told_under status e gs)
under_sendable status e [] h all = ((h, tt), tt)
under_sendable status e (g ∷ gs) h all =
    if_groups (status == g.0) ((g.0, g.1 ++ e ∷ []) ∷ gs) (cond (nat_lt status g.0) ((status, e ∷ []) ∷ g ∷ gs) (g ∷ told_under status e gs)) (each_append IsSendable g.1 (e ∷ []) all.0 (h, tt), all.1)
    (if_groups (nat_lt status g.0) ((status, e ∷ []) ∷ g ∷ gs) (g ∷ told_under status e gs) ((h, tt), all) (all.0, under_sendable status e gs h all.1))

onto_sendable : (gs : List Group) (told : List Told) → AllGroups gs → AllByRecursion Tells told → AllGroups (grouped_onto gs told)
onto_sendable gs [] all h = all
onto_sendable gs (t ∷ more) all h = onto_sendable (told_under t.0 t.1 gs) more (under_sendable t.0 t.1 gs h.0 all) h.1

reply_sendable : (p : PathText) (told : List Told) → HasPath p → AllByRecursion Tells told → IsSendable (multistatus (property_response p (grouped told) ∷ []))
reply_sendable p told some all = multistatus_sendable (property_response p (grouped told) ∷ []) (property_response_sendable p (grouped told) some (onto_sendable [] told tt all), tt)

-- ---- the plan

patch_sets : (b : Bool) (p : Property) → (b ≡ true → IsSendableIfAny p.xml) → Sets IsSendableIfAny (patch_of (b, p))
patch_sets true p h = h refl
patch_sets false p h = tt

change_sets : (c : Change) → Changes c → Sets IsSendableIfAny (as_patch c)
change_sets c h =
    patch_sets c.is_set (record { name = name_of c.property; prefix = prefix_of c.property; namespace = namespace_of c.property; xml = cond c.is_set (Some c.property) None })
    (λ e. test_of c.is_set (λ t. IsSendableIfAny (cond t (Some c.property) None)) (λ is. h) (λ is. tt))

stored_told : (p : Path) (cs : List Change) (answer : Result (List (ℕ × Property)) FsError) → AllChange cs → Says (PatchProps p (map as_patch cs)) answer
    → (told : List (ℕ × Property)) → refused_as dav.FsError answer ≡ Ok told → AllByRecursion TellsOf told
stored_told p cs (Err e) all says told is = absurd cc
stored_told p cs (Ok answers) all says told is =
    let same : answers ≡ told = cc in
    subst (AllByRecursion TellsOf) same (subst (AllByRecursion TellsOf) (sym says) (each cs all))
  where
    each : (cs : List Change) → AllChange cs → AllByRecursion TellsOf (map (λ patch. (200, without_xml (patched_property patch))) (map as_patch cs))
    each [] h = tt
    each (c ∷ cs) h = (echo_sendable c h.0, each cs h.1)

outcome_told : (r : Result (List (ℕ × Property)) DavError) → ((told : List (ℕ × Property)) → r ≡ Ok told → AllByRecursion TellsOf told) → IfOk r (AllByRecursion TellsOf)
outcome_told (Ok told) h = h told refl
outcome_told (Err e) h = tt

store_sends : (p : PathText) (cs : List Change) → AllChange cs → Sends (AllByRecursion TellsOf) (store_changes p cs)
store_sends p [] all = sends_ok tt
store_sends p (c ∷ cs) all =
    sends_ask {c = PatchProps (names p) (map as_patch (c ∷ cs))} (each_map Changes (Sets IsSendableIfAny) as_patch change_sets (c ∷ cs) all) (λ answer says.
    sends_outcome (refused_as dav.FsError answer) (outcome_told (refused_as dav.FsError answer) (stored_told (names p) (c ∷ cs) answer all says)))

change_all_sends : (p : PathText) (refused : Bool) (answers : List (ℕ × Change)) (stored : List Change) → AllByRecursion Answers answers → AllChange stored → Sends (AllByRecursion Tells) (change_all p refused answers stored)
change_all_sends p true answers stored h k = sends_ok (all_failed_sendable answers stored h k)
change_all_sends p false answers stored h k = sends_bind _ (store_sends p stored k) (λ done told. sends_ok (all_done_sendable answers done h told))

abbrev saying : Result Bool FsError → Bool
saying answer = unwrap_or (result_ok answer) false

patch_sends : (p : PathText) (location : List Header) (cs : List Change) → HasPath p → AllChange cs → Sends IsSent (patch_properties p location cs)
patch_sends p location cs some all =
    sends_ask {c = HaveProps (names p)} tt (λ answer says.
    sends_bind _ (change_all_sends p (has_refused (answered_at_once (saying answer) cs)) (answered_at_once (saying answer) cs) (to_store (saying answer) cs) (at_once_sendable (saying answer) cs all) (stored_sendable (saying answer) cs all)) (λ told fit.
    sends_ok (reply_sendable p told some fit)))

patch_found_sends : (c : Conditions) (p : PathText) (location : List Header) (content : Body) (who : Caller) (found : DavMetaData) → HasPath p → IsSendableBody content → Sends IsSent (proppatch_found c p location content who found)
patch_found_sends c p location content who found some given =
    sends_looked _ (only_guarded dav.Status method.PropPatch c (Some found)) (λ tokens.
    sends_looked _ (only_free false (requester who tokens) (names p) (dav.Status 423)) (λ free.
    sends_then (required (changes_in content) dav.XmlParseError) _ (λ cs is.
    patch_sends p location cs some (changes_sendable content given cs (required_is (changes_in content) dav.XmlParseError cs is)))))

pub proppatch_sends : (c : Conditions) (p : PathText) (content : Body) (who : Caller) → HasPath p → IsSendableBody content → Sends IsSent (proppatch c p content who)
proppatch_sends c p content who some given =
    sends_ask {c = Metadata (names p)} tt (λ answer says.
    sends_then (refused_as dav.FsError answer) _ (λ found is. patch_found_sends c (closed found.dir p) (location_found (Some found) p) content who found (closed_path found.dir p some) given))
