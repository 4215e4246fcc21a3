-- A property that is stored is told again.
use Rattle.std.proofs.Common.{◌≡◌, ◌≢◌, ◌++◌, ◌&&◌, Bool, true, false, true≢false, not, arith, codes, List, [], ◌∷◌, All, map, Option, Some, None, Result, Ok, Err, refl, sym, ap, subst, ◌∙◌, append_assoc}
use Rattle.std.proofs.lemmas.List.{map-append}
use Rattle.std.proofs.lemmas.List.Elements.{All-head, All-tail, All-weaker, All-map}
use Rattle.std.specs.Prelude.{cond}
use Rattle.std.specs.Cmp.{IsTotalOrder, then_total, on_total, tied_itself}
use Rattle.std.specs.Cmp.Lexicographic.{nat_list_cmp_total}
use Rattle.std.specs.FinMap.{find}
use Rattle.std.specs.FinMap.Entries.{find-put, find-where_key}
use Rattle.std.specs.List.{filter, filter_map}
use Rattle.std.specs.Option.{option_map, unwrap_or}
use Rattle.std.specs.Ordering.{is_eq, ordering_reverse}
use Rattle.std.specs.Result.{result_ok}
use Rattle.std.specs.declared.cmp.Ordering.{Ordering}
use Rattle.std.specs.declared.cmp.Ordering.TheVariants.{Less, Equal, Greater}
use Rattle.http_header.specs.HeaderMap.{get_all}
use Rattle.dav_core.specs.declared.errors.FsError.{FsError}
use Rattle.dav_core.specs.declared.errors.DavError.{DavError}
use Rattle.dav_core.specs.declared.errors.DavError.TheVariants as dav
use Rattle.dav_core.specs.declared.fs.DavMetaData.{DavMetaData}
use Rattle.dav_core.specs.Asking.{Call, Answer, StoreState, Asks, meaning, answered, Metadata, HaveProps, GetProps}
use Rattle.dav_core.specs.Calls.{metadata_of, repatched}
use Rattle.dav_core.specs.Element.{ElementTree, is_named, name_of, prefix_of, namespace_of}
use Rattle.dav_core.specs.Meaning.{at_node}
use Rattle.dav_core.specs.Path.{Path, PathText, star, names}
use Rattle.dav_core.specs.Property.{PropertyKey, Properties, Property, Patch, SetTo, Remove, patch_of, key_cmp, property_key, is_same_key, patched, patched_by, patched_property, shown_property}
use Rattle.dav_core.specs.World.{World, Node, node_at, is_folder, is_folder_node}
use Rattle.dav_core.proofs.Theorems.{find-adjust, path-itself}
use Rattle.dav_headers.specs.Depth.{IsDepth}
use Rattle.dav_headers.specs.declared.depth.Depth.{Depth}
use Rattle.dav_headers.proofs.Theorems.{one_depth}
use Rattle.dav_engine.specs.declared.reply.ReplyBody.TheVariants as reply
use Rattle.dav_engine.specs.declared.request.Body.{Body}
use Rattle.dav_engine.specs.Caller.{Caller}
use Rattle.dav_engine.specs.Folder.{closed, location_found, room_at}
use Rattle.dav_engine.specs.Headers.{Headers}
use Rattle.dav_engine.specs.Method.{MethodPlan, required, refused_as}
use Rattle.dav_engine.specs.Plan.{CallStep, Locks, Ran, ran_done, ran_ask, ran_look, ran_keep}
use Rattle.dav_engine.specs.Properties.{Writer, writer, QuotaKnown, WithQuota, key_of, kept_elements, all_kept, stored_properties, properties_of, property_response, found_groups, told_by}
use Rattle.dav_engine.specs.Propfind.{Responses, query_in, tell_itself, tells_members, is_infinite, is_served_depth, FindHeaders, propfind_found, propfind_if, propfind, is_propfind}
use Rattle.dav_engine.specs.PropfindLaws.{path_in, responses_in}
use Rattle.dav_engine.specs.Proppatch.{Change, Told, to_store, as_patch}
use Rattle.dav_engine.specs.ProppatchLaws.{patched_world, AreDone, AreMade}
use Rattle.dav_engine.specs.Reply.{Header, Reply}
use Rattle.dav_engine.specs.StoredLaws.{Keeps, IsSetLast, SetIsKept, PatchedIsKept, TellsWhole, KeptIsTold}
use Rattle.dav_engine.specs.WorldLaws.{OnlyReads}
use Rattle.dav_engine.proofs.CallWorlds.{did, did_leave}
use Rattle.dav_engine.proofs.ChildLemmas.{names_closed}
use Rattle.dav_engine.proofs.HrefLemmas.{Ends, ends_ok, ends_ask, ends_then, ends_bind, ends_only, ends_ran, among, kept_first}
use Rattle.dav_engine.proofs.ListingsTold.{ends_as}
use Rattle.dav_engine.proofs.OnePlanLemmas.{decoded_one}
use Rattle.dav_engine.proofs.PlanLemmas.{ran_unset}
use Rattle.dav_engine.proofs.PropertyPlans.{only_found_all, only_below}
use Rattle.dav_engine.proofs.UnrefusedListings.{IsNone, answer_is, left_none}

-- ---- keys

key_total : IsTotalOrder key_cmp
key_total = then_total (on_total (λ (k : PropertyKey). k.0) nat_list_cmp_total) (on_total (λ (k : PropertyKey). k.1) nat_list_cmp_total)

key-itself : (k : PropertyKey) → is_eq (key_cmp k k) ≡ true
key-itself k = ap is_eq (tied_itself key_total k)

reversed : (o : Ordering) → is_eq (ordering_reverse o) ≡ is_eq o
reversed Less = refl
reversed Equal = refl
reversed Greater = refl

other_way : (j k : PropertyKey) → is_same_key k j ≡ false → is_same_key j k ≡ false
other_way j k other = ap is_eq (key_total.antisymm j k) ∙ reversed (key_cmp k j) ∙ other

ties_alike : (j q x : PropertyKey) → key_cmp q x ≡ Equal → not (is_same_key j x) ≡ not (is_same_key j q)
ties_alike j q x tie = ap (λ o. not (is_eq o)) (key_total.antisymm j x ∙ ap ordering_reverse (sym (key_total.congr q x j tie)) ∙ sym (key_total.antisymm j q))

-- ---- changes

set_found : (p : Property) (ps : Properties) → find key_cmp (property_key p) (patched_by (SetTo p) ps) ≡ Some p.xml
set_found p ps = find-put key_cmp key_total (property_key p) (property_key p) p.xml ps ∙ ap (λ b. cond b (Some p.xml) (find key_cmp (property_key p) ps)) (key-itself (property_key p))

others_stay : (key : PropertyKey) (patch : Patch) (ps : Properties) → is_same_key key (property_key (patched_property patch)) ≡ false → find key_cmp key (patched_by patch ps) ≡ find key_cmp key ps
others_stay key (SetTo p) ps other = find-put key_cmp key_total key (property_key p) p.xml ps ∙ ap (λ b. cond b (Some p.xml) (find key_cmp key ps)) other
others_stay key (Remove p) ps other =
    find-where_key key_cmp (λ k. not (is_same_key (property_key p) k)) key (λ x tie. ties_alike (property_key p) key x tie) ps
    ∙ ap (λ b. cond (not b) (find key_cmp key ps) None) (other_way (property_key p) key other)

all_stay : (key : PropertyKey) (patches : List Patch) (ps : Properties) → All (λ patch. is_same_key key (property_key (patched_property patch)) ≡ false) patches
    → find key_cmp key (patched patches ps) ≡ find key_cmp key ps
all_stay key [] ps other = refl
all_stay key (patch ∷ patches) ps other =
    all_stay key patches (patched_by patch ps) (All-tail (λ c. is_same_key key (property_key (patched_property c)) ≡ false) patch patches other)
    ∙ others_stay key patch ps (All-head (λ c. is_same_key key (property_key (patched_property c)) ≡ false) patch patches other)

patched_more : (front back : List Patch) (ps : Properties) → patched (front ++ back) ps ≡ patched back (patched front ps)
patched_more [] back ps = refl
patched_more (patch ∷ front) back ps = patched_more front back (patched_by patch ps)

-- the key of a change as the store takes it
named_property : (b : Bool) (p : Property) → patched_property (patch_of (b, p)) ≡ p
named_property true p = refl
named_property false p = refl

key_as_patch : (c : Change) → property_key (patched_property (as_patch c)) ≡ key_of c.property
key_as_patch c = ap property_key (named_property c.is_set _)

others : (e : ElementTree) (back : List Change) → All (λ c. is_same_key (key_of e) (key_of c.property) ≡ false) back
    → All (λ patch. is_same_key (key_of e) (property_key (patched_property patch)) ≡ false) (map as_patch back)
others e back all =
    All-map (λ patch. is_same_key (key_of e) (property_key (patched_property patch)) ≡ false) as_patch back
    (All-weaker (λ c. is_same_key (key_of e) (key_of c.property) ≡ false) (λ c. is_same_key (key_of e) (property_key (patched_property (as_patch c))) ≡ false)
    (λ c is. ap (is_same_key (key_of e)) (key_as_patch c) ∙ is) back all)

abbrev setting : ElementTree → Change
setting e = record { is_set = true; property = e }

abbrev stored : ElementTree → Property
stored e = record { name = name_of e; prefix = prefix_of e; namespace = namespace_of e; xml = Some e }

set_last : (changes : List Change) (e : ElementTree) (ps : Properties) → IsSetLast e changes → find key_cmp (key_of e) (patched (map as_patch changes) ps) ≡ Some (Some e)
set_last changes e ps last =
    ap (λ cs. find key_cmp (key_of e) (patched (map as_patch cs) ps)) last.are
    ∙ ap (λ patches. find key_cmp (key_of e) (patched patches ps)) (map-append as_patch last.front (setting e ∷ last.back))
    ∙ ap (find key_cmp (key_of e)) (patched_more (map as_patch last.front) (map as_patch (setting e ∷ last.back)) ps)
    ∙ all_stay (key_of e) (map as_patch last.back) (patched_by (SetTo (stored e)) (patched (map as_patch last.front) ps)) (others e last.back last.last)
    ∙ set_found (stored e) (patched (map as_patch last.front) ps)

nothing_set : (front back : List Change) (c : Change) → ¬ ([] ≡ front ++ c ∷ back)
nothing_set [] back c is = cc
nothing_set (d ∷ front) back c is = cc

pub set_is_kept : SetIsKept
set_is_kept p [] e w n there last = absurd (nothing_set last.front last.back _ last.are)
set_is_kept p (c ∷ cs) e w n there last =
    let f : Node → Node = repatched (map as_patch (c ∷ cs)) in record {
      node = f n;
      stands = find-adjust p f p w.nodes ∙ ap (λ b. cond b (option_map f (node_at w p)) (node_at w p)) (path-itself p) ∙ ap (option_map f) there;
      kept = set_last (c ∷ cs) e n.properties last;
    }

made_of : (b : Bool) (p : Path) (changes : List Change) (told : List Told) (w v : World) → AreMade b p changes told w v → AreDone told → v ≡ patched_world p changes w
made_of true p changes told w v (not_done, same) done = absurd (not_done done)
made_of false p changes told w v (all, made) done = made

pub patched_is_kept : PatchedIsKept
patched_is_kept p content r e w v n patched there done last =
    let at : Path = names (closed patched.dir p) in
    let stored_changes : List Change = to_store patched.has patched.changes in
    subst (λ (x : World). Keeps x at e) (sym (made_of _ at stored_changes patched.told w v patched.made done)) (set_is_kept at stored_changes e w n there last)

-- ---- what is kept, in a listing of properties

abbrev HasIn : ElementTree → List ElementTree → Type 0
HasIn e es = (front : List ElementTree) × (back : List ElementTree) × (es ≡ front ++ e ∷ back)

abbrev elements_in : Properties → List ElementTree
elements_in ps = filter_map (λ (p : Property). p.xml) (map (shown_property true) ps)

in_step : (key : PropertyKey) (e : ElementTree) (k : PropertyKey) (v : Option ElementTree) (ps : Properties) (b : Bool)
    → cond b (Some v) (find key_cmp key ps) ≡ Some (Some e) → (find key_cmp key ps ≡ Some (Some e) → HasIn e (elements_in ps)) → HasIn e (elements_in ((k, v) ∷ ps))
in_step key e k (Some d) ps true is more = ([], elements_in ps, (let same : d ≡ e = cc in ap (λ x. x ∷ elements_in ps) same))
in_step key e k None ps true is more = cc
in_step key e k None ps false is more = more is
in_step key e k (Some d) ps false is more = let (front, back, are) = more is in (d ∷ front, back, ap (λ es. d ∷ es) are)

in_elements : (key : PropertyKey) (e : ElementTree) (ps : Properties) → find key_cmp key ps ≡ Some (Some e) → HasIn e (elements_in ps)
in_elements key e [] is = cc
in_elements key e ((k, v) ∷ ps) is = in_step key e k v ps (is_eq (key_cmp key k)) is (in_elements key e ps)

-- ---- a store that refuses nothing

abbrev AsksFreely : CallStep
AsksFreely c old a new = Asks c old a new × All IsNone old.refusals × (new.short ≡ false)

free : {plan : MethodPlan Reply} {old new : StoreState} {ls ms : Locks} {a : Result Reply DavError} → All IsNone old.refusals → new.short ≡ false → Ran Asks plan old ls a new ms → Ran AsksFreely plan old ls a new ms
free none unset ran_done = ran_done
free none unset (ran_ask one more) = ran_ask (one, none, ran_unset more unset) (free (left_none one none) unset more)
free none unset (ran_look more) = ran_look (free none unset more)
free none unset (ran_keep more) = ran_keep (free none unset more)

abbrev of_depth : Depth → Bool → FindHeaders
of_depth depth test = record { depth = Some depth; is_test = test }

module _ (w : World) where
  -- each answer is what the call means
  abbrev Known : (c : Call) → Result (Answer c) FsError → Type 0
  Known c a = a ≡ (answered w (meaning c w)).0

  free_says : (c : Call) (old new : StoreState) (a : Result (Answer c) FsError) → AsksFreely c old a new → old.world ≡ w → OnlyReads c → Known c a × (new.world ≡ w)
  free_says c old new a one at only =
      (subst (λ (x : World). a ≡ (answered x (meaning c x)).0) at (answer_is one.1 one.2 one.0), did_leave c old.world new.world a only (did one.0) ∙ at)

  module _ (p : Path) (e : ElementTree) (n : Node) (there : node_at w p ≡ Some n) (kept : find key_cmp (key_of e) n.properties ≡ Some (Some e)) where
    keeps_some : (answer : Result Bool FsError) → Known (HaveProps p) answer → unwrap_or (result_ok answer) false ≡ true
    unfolding meaning
    keeps_some answer says = ap (λ a. unwrap_or (result_ok a) false) says

    are_shown : (answer : Result (List Property) FsError) → Known (GetProps p true) answer → kept_elements (result_ok answer) ≡ elements_in n.properties
    unfolding meaning
    are_shown answer says =
        ap (λ a. kept_elements (result_ok a)) (says ∙ ap (λ (o : Option Node). (answered w (at_node o (λ m. Ok (map (shown_property true) m.properties, w)))).0) there)

    found_there : (answer : Result DavMetaData FsError) (m : DavMetaData) → Known (Metadata p) answer → answer ≡ Ok m → m.dir ≡ is_folder w p
    unfolding meaning
    found_there answer m says is =
        let whole : Ok m ≡ Ok (metadata_of n) = sym is ∙ says ∙ ap (λ (o : Option Node). (answered w (at_node o (λ x. Ok (metadata_of x, w)))).0) there in
        (let same : m ≡ metadata_of n = cc in ap (λ (x : DavMetaData). x.dir) same ∙ sym (ap is_folder_node there))

  module _ (e : ElementTree) (q : PathText) (n : Node) (there : node_at w (names q) ≡ Some n) (kept : find key_cmp (key_of e) n.properties ≡ Some (Some e)) where
    ends_kept_if : (has : Bool) → has ≡ true → Ends Known (HasIn e) (stored_properties q has)
    ends_kept_if true is =
        ends_ask {c = GetProps (names q) true} tt (λ answer says.
        ends_ok (subst (HasIn e) (sym (are_shown (names q) e n there kept answer says)) (in_elements (key_of e) e n.properties kept)))
    ends_kept_if false is = absurd (true≢false (sym is))

    ends_kept : Ends Known (HasIn e) (all_kept q)
    ends_kept =
        ends_bind {Q = λ (has : Bool). has ≡ true} (stored_properties q)
        (ends_ask {c = HaveProps (names q)} tt (λ answer says. ends_ok (keeps_some (names q) e n there kept answer says)))
        (λ has is. ends_kept_if has is)

    whole_in : (found kept_all : List ElementTree) → HasIn e kept_all → TellsWhole q e (property_response q (found_groups (found ++ kept_all)))
    whole_in found kept_all (front, back, are) = record {
      front = found ++ front;
      back = back;
      is = ap (λ es. property_response q (found_groups es)) (ap (λ es. found ++ es) are ∙ sym (append_assoc found front (e ∷ back)));
    }

    ends_properties_of : (x : Writer) (m : DavMetaData) (known : QuotaKnown) → Ends Known (λ (y : WithQuota ElementTree). TellsWhole q e y.0) (properties_of x q m known)
    ends_properties_of x m known =
        ends_bind _ (ends_only (only_found_all x q m known x.properties)) (λ found _.
        ends_bind _ ends_kept (λ all has. ends_ok (whole_in found.0 all has)))

    -- the first response
    abbrev First : List ElementTree → Type 0
    First rs = (response : ElementTree) × (more : List ElementTree) × (rs ≡ response ∷ more) × TellsWhole q e response

    ends_first : (x : Writer) (m : DavMetaData) → Ends Known (λ (y : Responses). First y.0) (tell_itself true x q m)
    ends_first x m = ends_bind _ (ends_properties_of x m None) (λ one tells. ends_ok (one.0, [], refl, tells))

    kept_in_front : (x : Writer) (one more : Responses) → First one.0 → First (responses_in (reply.Tree (told_by x (one.0 ++ more.0))))
    kept_in_front x one more (response, rest, are, tells) =
        let named : is_named (codes "response") response ≡ true = ap (is_named (codes "response")) tells.is in (
          response,
          filter (is_named (codes "response")) (rest ++ more.0),
          among x (one.0 ++ more.0) ∙ ap (λ rs. filter (is_named (codes "response")) (rs ++ more.0)) are ∙ kept_first response (rest ++ more.0) named,
          tells,
        )

    ends_found : (depth : Depth) (test : Bool) (headers : Headers) (location : List Header) (content : Body) (who : Caller) (m : DavMetaData)
        → Ends Known (λ (r : Reply). First (responses_in r.body)) (propfind_found (of_depth depth test) headers q location content who m)
    ends_found depth test headers location content who m =
        ends_then (required (query_in content) dav.XmlParseError) _ (λ query _.
        ends_bind _ (ends_first (writer query.0 headers who.principal query.1) m) (λ one first.
        ends_bind _ (ends_only (only_below (writer query.0 headers who.principal query.1) (is_infinite (Some depth)) (room_at q) q (m.dir && tells_members (Some depth)) one.1)) (λ more _.
        ends_ok (kept_in_front (writer query.0 headers who.principal query.1) one more first))))

  -- ---- the method

  module _ (e : ElementTree) (p : PathText) (other : p.bytes ≢ star) (n : Node) (there : node_at w (names p) ≡ Some n) (kept : find key_cmp (key_of e) n.properties ≡ Some (Some e)) where
    abbrev Tells : Reply → Type 0
    Tells r = r.status ≡ 207 → (response : ElementTree) × (more : List ElementTree) × (responses_in r.body ≡ response ∷ more) × TellsWhole (path_in w p) e response

    ends_at : (depth : Depth) (test : Bool) (headers : Headers) (content : Body) (who : Caller) (m : DavMetaData) → m.dir ≡ is_folder w (names p)
        → Ends Known Tells (propfind_found (of_depth depth test) headers (closed m.dir p) (location_found (Some m) p) content who m)
    ends_at depth test headers content who m dir =
        subst (λ (d : Bool). Ends Known (λ (r : Reply). r.status ≡ 207 → (response : ElementTree) × (more : List ElementTree) × (responses_in r.body ≡ response ∷ more) × TellsWhole (closed d p) e response)
        (propfind_found (of_depth depth test) headers (closed m.dir p) (location_found (Some m) p) content who m)) dir
        (ends_as (λ r first _. first)
        (ends_found e (closed m.dir p) n (ap (node_at w) (names_closed m.dir p other) ∙ there) kept depth test headers (location_found (Some m) p) content who m))

    dir_of : (answer : Result DavMetaData FsError) (m : DavMetaData) → Known (Metadata (names p)) answer → refused_as dav.FsError answer ≡ Ok m → m.dir ≡ is_folder w (names p)
    dir_of (Ok k) m says is = (let same : k ≡ m = cc in found_there (names p) e n there kept (Ok k) m says (ap Ok same))
    dir_of (Err fault) m says is = cc

    ends_if : (b : Bool) (depth : Depth) (test : Bool) (headers : Headers) (content : Body) (who : Caller) → Ends Known Tells (propfind_if b (of_depth depth test) headers p content who)
    ends_if false depth test headers content who = ends_ok (λ status. absurd (omega (arith, status)))
    ends_if true depth test headers content who =
        ends_ask {c = Metadata (names p)} tt (λ answer says.
        ends_then (refused_as dav.FsError answer) _ (λ m is. ends_at depth test headers content who m (dir_of answer m says is)))

pub kept_is_told : KeptIsTold
kept_is_told headers depth p content who plan e old new ls ms r other read (is_propfind h are) keeps none unset ran status =
    let one : h.depth ≡ Some depth = decoded_one IsDepth (get_all headers (codes "depth")) (one_depth (get_all headers (codes "depth"))) h.depth (Some depth) are.depth read in
    let same : h ≡ of_depth depth h.is_test = λ i. record { depth = one i; is_test = h.is_test } in
    ends_ran old.world (free_says old.world)
    (ends_if old.world e p other keeps.node keeps.stands keeps.kept (is_served_depth (of_depth depth h.is_test)) depth h.is_test headers content who) refl
    (subst (λ (k : FindHeaders). Ran AsksFreely (propfind k headers p content who) old ls (Ok r) new ms) same (free none unset ran)) status
