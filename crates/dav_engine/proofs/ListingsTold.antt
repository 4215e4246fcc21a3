-- What a PROPFIND tells of, where the store refuses neither to list what is there nor to tell of it.
use Rattle.std.proofs.Common.{◌≡◌, ℕ, zero, suc, ◌+◌, ◌≤◌, ◌<◌, ◌^◌, ◌-◌, ◌&&◌, ◌++◌, arith, codes, Bool, true, false, true≢false, not, List, [], ◌∷◌, All, length, map, Option, Some, None, Result, Ok, Err, refl, sym, ap, subst, ◌∙◌}
use Rattle.std.proofs.lemmas.List.{append-nil}
use Rattle.std.proofs.lemmas.List.Elements.{All-head, All-tail, All-weaker, All-contains_itself}
use Rattle.std.specs.Prelude.{⊤, Contains, IsSomeAnd, is_none}
use Rattle.std.specs.List.{filter}
use Rattle.std.specs.Result.{is_ok}
use Rattle.std.specs.FinMap.{find}
use Rattle.http_header.specs.FieldValue.{FieldValue}
use Rattle.http_header.specs.HeaderMap.{get_all}
use Rattle.dav_core.specs.declared.errors.FsError.{FsError}
use Rattle.dav_core.specs.declared.errors.FsError.TheVariants.{NotFound, Forbidden}
use Rattle.dav_core.specs.declared.errors.DavError.TheVariants as dav
use Rattle.dav_core.specs.declared.fs.DavMetaData.{DavMetaData}
use Rattle.dav_core.specs.Asking.{Call, Answer, StoreState, meaning, Metadata, ReadDir, EntryMetadata, CreateDir, RemoveDir, RemoveFile, Rename, Copy, HaveProps, PatchProps, GetProps, GetProp, GetQuota, SetAccessed, SetModified, Open, Read, Write, Seek, Flush, FileMetadata}
use Rattle.dav_core.specs.CallLaws.{IsStorable}
use Rattle.dav_core.specs.Calls.{metadata_of}
use Rattle.dav_core.specs.Element.{ElementTree, is_named}
use Rattle.dav_core.specs.Path.{Path, PathText, names, parent_of, path_cmp}
use Rattle.dav_core.specs.World.{World, Node, node_at, is_folder, is_folder_kind, is_folder_node, is_file, is_missing, members, IsWorld}
use Rattle.dav_core.proofs.Theorems.{found, went_on, lists_what_stands, parent-append}
use Rattle.dav_headers.specs.Depth.{IsDepth}
use Rattle.dav_headers.specs.Value.{only_text}
use Rattle.dav_headers.specs.declared.depth.Depth.{Depth}
use Rattle.dav_headers.specs.declared.depth.Depth.TheVariants.{Default, Zero, One, Infinity}
use Rattle.dav_headers.proofs.Theorems.{one_depth}
use Rattle.dav_engine.specs.declared.request.Body.{Body}
use Rattle.dav_engine.specs.Caller.{Caller}
use Rattle.dav_engine.specs.Folder.{closed, child_of, location_found, room_at}
use Rattle.dav_engine.specs.Headers.{Headers, Decodes}
use Rattle.dav_engine.specs.Method.{MethodPlan, required, refused_as}
use Rattle.dav_engine.specs.Plan.{Ran}
use Rattle.dav_engine.specs.Properties.{Writer, writer, QuotaKnown}
use Rattle.dav_engine.specs.Propfind.{Responses, Below, is_infinite, is_served_depth, tells_itself, tells_members, tell_itself, propfind_if, query_in, tell_member, tell_if_found, tell_members, tell_listed, tell_below, FindHeaders, propfind_found, propfind, is_propfind}
use Rattle.dav_engine.specs.PropfindLaws.{IsServerPrefix, AreResponsesFor, none_told, one_told, responses_in, AreWithAllBelow, no_member, one_member, AreBelow, AreListed, itself, with_members, members_alone, with_all_below, HasFewNames, ListAll, AsksListing, path_in, member_paths, ListingsAreWhole}
use Rattle.dav_engine.specs.RefusedCalls.{lists_what_is_there}
use Rattle.dav_engine.specs.Reply.{Header, Reply}
use Rattle.dav_engine.specs.WorldLaws.{OnlyReads, MayTell}
use Rattle.dav_engine.proofs.CallWorlds.{Did, stays, means, did}
use Rattle.dav_engine.proofs.ChildLemmas.{names_closed}
use Rattle.dav_engine.proofs.CopyHeaderLemmas.{plain_other}
use Rattle.dav_engine.proofs.HrefLemmas.{Ends, ends_ok, ends_err, ends_ask, ends_look, ends_then, ends_bind, ends_ran, world_says, IsHome, target_home, closed_home, child_home, Told, ends_properties, among, kept_first}
use Rattle.dav_engine.proofs.CopiedLemmas.{child_names}
use Rattle.dav_engine.proofs.OnePlanLemmas.{decoded_one}
use Rattle.dav_engine.proofs.RoomLemmas.{length_more}

-- ---- what a store says of its world

-- What is said of a path is metadata of the node there, and a listing is of its members; where neither is said, there is none.
abbrev SaidIn : World → (c : Call) → Result (Answer c) FsError → Type 0
SaidIn w (Metadata p) (Ok m) = (n : Node) × (node_at w p ≡ Some n) × (m ≡ metadata_of n)
SaidIn w (EntryMetadata p) (Ok m) = (n : Node) × (node_at w p ≡ Some n) × (m ≡ metadata_of n)
SaidIn w (EntryMetadata p) (Err e) = is_missing w p ≡ true
SaidIn w (ReadDir p) (Ok entries) = entries ≡ members p w.nodes
SaidIn w (ReadDir p) (Err e) = is_folder w p ≡ false
SaidIn _ _ _ = ⊤

said_metadata : (w v : World) (p : Path) (m : DavMetaData) → Did (meaning (Metadata p) w) w (Ok m) v → (n : Node) × (node_at w p ≡ Some n) × (m ≡ metadata_of n)
unfolding meaning
said_metadata w v p m (stays e failed is) = cc
said_metadata w v p m (means r h gave is) =
    let (n, there, end) = found (node_at w p) _ r h in
    (n, there, (let same : m ≡ metadata_of n = cc in same))

said_entry : (w v : World) (p : Path) (m : DavMetaData) → Did (meaning (EntryMetadata p) w) w (Ok m) v → (n : Node) × (node_at w p ≡ Some n) × (m ≡ metadata_of n)
unfolding meaning
said_entry w v p m (stays e failed is) = cc
said_entry w v p m (means r h gave is) =
    let (n, there, end) = found (node_at w p) _ r h in
    (n, there, (let same : m ≡ metadata_of n = cc in same))

said_listing : (w v : World) (p : Path) (entries : List (List ℕ × Bool)) → Did (meaning (ReadDir p) w) w (Ok entries) v → entries ≡ members p w.nodes
unfolding meaning
said_listing w v p entries (stays e failed is) = cc
said_listing w v p entries (means r h gave is) =
    let (there, more) = went_on (is_missing w p) NotFound _ r h in
    let (folder, end) = went_on (is_file w p) Forbidden _ r more in
    cc

by_false : (b : Bool) → (b ≡ true → false ≡ true) → b ≡ false
by_false false clash = refl
by_false true clash = absurd (true≢false (sym (clash refl)))

by_true : (b : Bool) → (not b ≡ true → false ≡ true) → b ≡ true
by_true true clash = refl
by_true false clash = absurd (true≢false (sym (clash refl)))

said : (w v : World) (c : Call) (a : Result (Answer c) FsError) → Did (meaning c w) w a v → (lists_what_is_there w c ≡ true → is_ok a ≡ true) → SaidIn w c a
said w v (Metadata p) (Ok m) d listing = said_metadata w v p m d
said w v (Metadata p) (Err e) d listing = tt
said w v (EntryMetadata p) (Ok m) d listing = said_entry w v p m d
said w v (EntryMetadata p) (Err e) d listing = by_true (is_missing w p) listing
said w v (ReadDir p) (Ok entries) d listing = said_listing w v p entries d
said w v (ReadDir p) (Err e) d listing = by_false (is_folder w p) listing
said w v (CreateDir p now) a d listing = tt
said w v (RemoveDir p now) a d listing = tt
said w v (RemoveFile p now) a d listing = tt
said w v (Rename from to now) a d listing = tt
said w v (Copy from to now) a d listing = tt
said w v (HaveProps p) a d listing = tt
said w v (PatchProps p patches) a d listing = tt
said w v (GetProps p content) a d listing = tt
said w v (GetProp p key) a d listing = tt
said w v GetQuota a d listing = tt
said w v (SetAccessed p now) a d listing = tt
said w v (SetModified p now) a d listing = tt
said w v (Open p how now) a d listing = tt
said w v (Read file count) a d listing = tt
said w v (Write file bytes now) a d listing = tt
said w v (Seek file to) a d listing = tt
said w v (Flush file) a d listing = tt
said w v (FileMetadata file) a d listing = tt

-- ---- members

some_one : {A : Type 0} {a b : A} → ◌≡◌ {A = Option A} (Some a) (Some b) → a ≡ b
some_one same = cc

pub ends_as : {Known : (c : Call) → Result (Answer c) FsError → Type 0} {A : Type 0} {P Q : A → Type 0} {plan : MethodPlan A} → ((a : A) → P a → Q a) → Ends Known P plan → Ends Known Q plan
ends_as more (ends_ok {a} p) = ends_ok (more a p)
ends_as more ends_err = ends_err
ends_as more (ends_ask {c} only next) = ends_ask {c = c} only (λ answer known. ends_as more (next answer known))
ends_as more (ends_look next) = ends_look (λ ls. ends_as more (next ls))

-- a depth that a header can give
abbrev IsGiven : Option Depth → Type 0
IsGiven (Some Default) = ⊥
IsGiven depth = ⊤

module _ (w : World) (world : IsWorld w) where
  abbrev Known : (c : Call) → Result (Answer c) FsError → Type 0
  Known c a = MayTell c a × SaidIn w c a

  listing_says : (c : Call) (old new : StoreState) (a : Result (Answer c) FsError) → AsksListing c old a new → old.world ≡ w → OnlyReads c → Known c a × (new.world ≡ w)
  listing_says c old new a one at only =
      let (may, left) = world_says w world c old new a one.0 at only in
      ((may, subst (λ (x : World). SaidIn x c a) at (said old.world new.world c a (did one.0) one.1)), left)

  -- a member is there, as a folder or a file
  abbrev Stands : Path → List ℕ × Bool → Type 0
  Stands p entry = (n : Node) × (node_at w (p ++ entry.0 ∷ []) ≡ Some n) × (is_folder_kind n.kind ≡ entry.1)

  members_stand : (p : Path) → All (Stands p) (members p w.nodes)
  members_stand p =
      All-weaker (Contains (members p w.nodes)) (Stands p) (λ entry listed. (lists_what_stands p entry.0 entry.1 w world).0 listed) (members p w.nodes) (All-contains_itself (members p w.nodes))

  stands_there : (p : Path) (entry : List ℕ × Bool) → Stands p entry → is_missing w (p ++ entry.0 ∷ []) ≡ false
  stands_there p entry (n, there, kind) = ap is_none there

  stands_kind : (p : Path) (entry : List ℕ × Bool) → Stands p entry → is_folder w (p ++ entry.0 ∷ []) ≡ entry.1
  stands_kind p entry (n, there, kind) = ap is_folder_node there ∙ kind

  none_by : (p : Path) (entries : List (List ℕ × Bool)) → All (Stands p) entries → is_folder w p ≡ false → entries ≡ []
  none_by p [] stand file = refl
  none_by p (entry ∷ entries) stand file =
      let (n, there, kind) = All-head (Stands p) entry entries stand in
      let parent : is_folder_node (find path_cmp (parent_of (p ++ entry.0 ∷ [])) w.nodes) ≡ true = world.tree.parents (p ++ entry.0 ∷ []) n there in
      let same : parent_of (p ++ entry.0 ∷ []) ≡ p = parent-append p entry.0 [] ∙ append-nil p in
      absurd (true≢false (sym parent ∙ ap (λ (q : Path). is_folder_node (find path_cmp q w.nodes)) same ∙ file))

  -- a file has none
  no_members : (p : Path) → is_folder w p ≡ false → members p w.nodes ≡ []
  no_members p file = none_by p (members p w.nodes) (members_stand p) file

  folder_said : (p : Path) (m : DavMetaData) → SaidIn w (Metadata p) (Ok m) → m.dir ≡ is_folder w p
  folder_said p m (n, there, is) = ap (λ (x : DavMetaData). x.dir) is ∙ sym (ap is_folder_node there)

  found_there : (p : Path) (m : DavMetaData) → SaidIn w (Metadata p) (Ok m) → is_missing w p ≡ false
  found_there p m (n, there, is) = ap is_none there

  kind_said : (p : Path) (entry : List ℕ × Bool) (m : DavMetaData) → Stands p entry → SaidIn w (EntryMetadata (p ++ entry.0 ∷ [])) (Ok m) → m.dir ≡ entry.1
  kind_said p entry m (n, there, kind) (o, here, is) =
      let same : o ≡ n = some_one (sym here ∙ there) in
      ap (λ (x : DavMetaData). x.dir) is ∙ ap (λ (x : Node). is_folder_kind x.kind) same ∙ kind

  module _ (prefix : List ℕ) (served : IsServerPrefix prefix) where
    -- responses are told of these paths, in order
    data AreTold : List PathText → List ElementTree → Type 0 where
      nothing_told : AreTold [] []
      first_told : {q : PathText} {qs : List PathText} {r : ElementTree} {rs : List ElementTree} → Told prefix served q r → AreTold qs rs → AreTold (q ∷ qs) (r ∷ rs)

    told_more : {ps qs : List PathText} {rs ss : List ElementTree} → AreTold ps rs → AreTold qs ss → AreTold (ps ++ qs) (rs ++ ss)
    told_more nothing_told more = more
    told_more (first_told is rest) more = first_told is (told_more rest more)

    told_of : {qs : List PathText} {rs : List ElementTree} → AreTold qs rs → AreResponsesFor prefix qs (filter (is_named (codes "response")) rs)
    told_of nothing_told = none_told
    told_of (first_told {q} {qs} {r} {rs} is more) = subst (AreResponsesFor prefix (q ∷ qs)) (sym (kept_first r rs is.1)) (one_told is.0 (told_of more))

    -- responses are told of such paths
    abbrev TellsSome : (List PathText → Type 0) → Responses → Type 0
    TellsSome P y = (ps : List PathText) × P ps × AreTold ps y.0

    -- ---- a folder's members, with what is told below each

    -- each member's path, and behind it those that are told below it
    data AreEach (In : PathText → List PathText → Type 0) (p : PathText) : List (List ℕ × Bool) → List PathText → Type 0 where
      each_none : AreEach In p [] []
      each_one : {e : List ℕ × Bool} {es : List (List ℕ × Bool)} {below behind : List PathText}
          → In (child_of p e.0 e.1) below → AreEach In p es behind → AreEach In p (e ∷ es) (child_of p e.0 e.1 ∷ (below ++ behind))

    module _ (x : Writer) (below : Below) (In : PathText → List PathText → Type 0) (p : PathText) (home : IsHome prefix p)
        (inside : (q : PathText) (dir : Bool) (known : QuotaKnown) → IsHome prefix q → length (names q) ≡ suc (length (names p)) → is_missing w (names q) ≡ false → dir ≡ is_folder w (names q)
        → Ends Known (TellsSome (In q)) (below q dir known)) where
      abbrev Storable : List ℕ × Bool → Type 0
      Storable e = IsStorable (e.0 ∷ [])

      -- one member's path, and those below it
      abbrev Member : List ℕ → Bool → List PathText → Type 0
      Member name dir ps = (ins : List PathText) × In (child_of p name dir) ins × (ps ≡ child_of p name dir ∷ ins)

      ends_member : (name : List ℕ) (m : DavMetaData) (known : QuotaKnown) → IsStorable (name ∷ []) → is_missing w (names p ++ name ∷ []) ≡ false → m.dir ≡ is_folder w (names p ++ name ∷ [])
          → Ends Known (TellsSome (Member name m.dir)) (tell_member below x (child_of p name m.dir) m known)
      ends_member name m known single some kind =
          let here : names (child_of p name m.dir) ≡ names p ++ name ∷ [] = child_names p name m.dir home.place.plain single in
          let at = child_home prefix p name m.dir home single in
          ends_bind _ (ends_properties prefix served x (child_of p name m.dir) m known at) (λ one told.
          ends_bind _ (inside (child_of p name m.dir) m.dir one.1 at (ap length here ∙ length_more (names p) name) (ap (is_missing w) here ∙ some) (kind ∙ ap (is_folder w) (sym here))) (λ more within.
          let (ins, is, tells) = within in
          ends_ok (child_of p name m.dir ∷ ins, (ins, is, refl), first_told told tells)))

      ends_entry : (e : List ℕ × Bool) (known : QuotaKnown) (seen : Result DavMetaData FsError) → Storable e → Stands (names p) e → SaidIn w (EntryMetadata (names p ++ e.0 ∷ [])) seen
          → Ends Known (TellsSome (Member e.0 e.1)) (tell_if_found below x p e.0 known seen)
      ends_entry e known (Err fault) single stands says = absurd (true≢false (sym says ∙ stands_there (names p) e stands))
      ends_entry e known (Ok m) single stands says =
          let kind = kind_said (names p) e m stands says in
          subst (λ (d : Bool). Ends Known (TellsSome (Member e.0 d)) (tell_member below x (child_of p e.0 m.dir) m known)) kind
          (ends_member e.0 m known single (stands_there (names p) e stands) (kind ∙ sym (stands_kind (names p) e stands)))

      with_member : (e : List ℕ × Bool) (es : List (List ℕ × Bool)) (one more : Responses) → TellsSome (Member e.0 e.1) one → TellsSome (AreEach In p es) more → TellsSome (AreEach In p (e ∷ es)) (one.0 ++ more.0, more.1)
      with_member e es one more (ps, (ins, is, these), tells) (qs, each, others) =
          (child_of p e.0 e.1 ∷ (ins ++ qs), each_one is each, subst (λ (zs : List PathText). AreTold (zs ++ qs) (one.0 ++ more.0)) these (told_more tells others))

      ends_entries : (known : QuotaKnown) (es : List (List ℕ × Bool)) → All Storable es → All (Stands (names p)) es → Ends Known (TellsSome (AreEach In p es)) (tell_members below x p known es)
      ends_entries known [] all stand = ends_ok ([], each_none, nothing_told)
      ends_entries known (e ∷ es) all stand =
          ends_ask {c = EntryMetadata (names p ++ e.0 ∷ [])} tt (λ seen says.
          ends_bind _ (ends_entry e known seen (All-head Storable e es all) (All-head (Stands (names p)) e es stand) says.1) (λ one told.
          ends_bind _ (ends_entries one.1 es (All-tail Storable e es all) (All-tail (Stands (names p)) e es stand)) (λ more others.
          ends_ok (with_member e es one more told others))))

      ends_listed : (known : QuotaKnown) (listed : Result (List (List ℕ × Bool)) FsError) → is_folder w (names p) ≡ true → Known (ReadDir (names p)) listed
          → Ends Known (TellsSome (AreEach In p (members (names p) w.nodes))) (tell_listed below x p known listed)
      ends_listed known (Err fault) folder says = absurd (true≢false (sym folder ∙ says.1))
      ends_listed known (Ok es) folder says =
          let is : es ≡ members (names p) w.nodes = says.1 in
          subst (λ (zs : List (List ℕ × Bool)). Ends Known (TellsSome (AreEach In p zs)) (tell_members below x p known es)) is
          (ends_entries known es says.0 (subst (All (Stands (names p))) (sym is) (members_stand (names p))))

    -- ---- the members alone

    abbrev Nothing : PathText → List PathText → Type 0
    Nothing q ps = ps ≡ []

    -- what is told below a member: nothing
    silent : (x : Writer) (room : ℕ) (q : PathText) (dir : Bool) (known : QuotaKnown) → Ends Known (TellsSome (Nothing q)) (tell_below false room x q (dir && false) known)
    silent x room q true known = ends_ok ([], refl, nothing_told)
    silent x room q false known = ends_ok ([], refl, nothing_told)

    abbrev path_of : PathText → List ℕ × Bool → PathText
    path_of p member = child_of p member.0 member.1

    each_alone : {p : PathText} {es : List (List ℕ × Bool)} {ps : List PathText} → AreEach Nothing p es ps → ps ≡ map (path_of p) es
    each_alone each_none = refl
    each_alone {p} (each_one {e} none more) = λ i. path_of p e ∷ (none i ++ each_alone more i)

    ends_alone : (x : Writer) (room : ℕ) (p : PathText) (dir : Bool) (known : QuotaKnown) → IsHome prefix p → dir ≡ is_folder w (names p)
        → Ends Known (TellsSome (λ ps. ps ≡ member_paths w p)) (tell_below false (suc room) x p (dir && true) known)
    ends_alone x room p true known home is =
        ends_ask {c = ReadDir (names p)} tt (λ listed says.
        ends_as (λ y some. let (ps, each, tells) = some in (ps, each_alone each, tells))
        (ends_listed x (λ q dir then_known. tell_below false room x q (dir && false) then_known) Nothing p home (λ q dir then_known at count here kind. silent x room q dir then_known) known listed (sym is) says))
    ends_alone x room p false known home is =
        ends_ok ([], sym (ap (map (path_of p)) (no_members (names p) (sym is))), nothing_told)

    -- ---- all that is below

    each_with_all : {p : PathText} {es : List (List ℕ × Bool)} {ps : List PathText} → AreEach (AreBelow w) p es ps → AreWithAllBelow w p es ps
    each_with_all each_none = no_member
    each_with_all (each_one is more) = one_member is (each_with_all more)

    module _ (limit : ℕ) (few : (q : Path) → is_missing w q ≡ false → length q < limit) where
      ends_all : (room : ℕ) (x : Writer) (q : PathText) (dir : Bool) (known : QuotaKnown) → IsHome prefix q → limit ≤ room + length (names q) → is_missing w (names q) ≡ false → dir ≡ is_folder w (names q)
          → Ends Known (TellsSome (AreBelow w q)) (tell_below true room x q (dir && true) known)
      ends_all room x q false known home reach some is =
          ends_ok ([], subst (λ (es : List (List ℕ × Bool)). AreWithAllBelow w q es []) (sym (no_members (names q) (sym is))) no_member, nothing_told)
      ends_all zero x q true known home reach some is = let short = few (names q) some in absurd (omega (arith, short, reach))
      ends_all (suc room) x q true known home reach some is =
          ends_ask {c = ReadDir (names q)} tt (λ listed says.
          ends_as (λ y t. let (ps, each, tells) = t in (ps, each_with_all each, tells))
          (ends_listed x (λ r dir then_known. tell_below true room x r (dir && true) then_known) (AreBelow w) q home
          (λ r dir then_known at count here kind. ends_all room x r dir then_known at (omega (arith, reach, count)) here kind) known listed (sym is) says))

    -- ---- the method

    -- the paths that are told before what is below
    abbrev itself_at : Option Depth → PathText → List PathText
    itself_at None q = []
    itself_at (Some depth) q = q ∷ []

    -- with those before them, these are listed
    abbrev Behind : Option Depth → PathText → List PathText → Type 0
    Behind depth q ps = AreListed w q depth (itself_at depth q ++ ps)

    ends_itself : (depth : Option Depth) (x : Writer) (q : PathText) (m : DavMetaData) → IsHome prefix q → Ends Known (TellsSome (λ ps. ps ≡ itself_at depth q)) (tell_itself (tells_itself depth) x q m)
    ends_itself None x q m home = ends_ok ([], refl, nothing_told)
    ends_itself (Some depth) x q m home = ends_bind _ (ends_properties prefix served x q m None home) (λ one told. ends_ok (q ∷ [], refl, first_told told nothing_told))

    room_left : (q : PathText) → length (names q) < 2 ^ 64 → room_at q ≡ suc (room_at q - 1)
    unfolding room_at
    room_left q small = omega (arith, small)

    reached : (q : PathText) → 2 ^ 64 ≤ room_at q + length (names q)
    unfolding room_at
    reached q = omega arith

    ends_members : (x : Writer) (q : PathText) (dir : Bool) (known : QuotaKnown) → IsHome prefix q → length (names q) < 2 ^ 64 → dir ≡ is_folder w (names q)
        → Ends Known (TellsSome (λ ps. ps ≡ member_paths w q)) (tell_below false (room_at q) x q (dir && true) known)
    ends_members x q dir known home small is =
        subst (λ (k : ℕ). Ends Known (TellsSome (λ ps. ps ≡ member_paths w q)) (tell_below false k x q (dir && true) known)) (sym (room_left q small)) (ends_alone x (room_at q - 1) q dir known home is)

    ends_behind : (depth : Option Depth) (x : Writer) (q : PathText) (dir : Bool) (known : QuotaKnown) → IsHome prefix q → IsGiven depth → HasFewNames depth w q → is_missing w (names q) ≡ false → dir ≡ is_folder w (names q)
        → Ends Known (TellsSome (Behind depth q)) (tell_below (is_infinite depth) (room_at q) x q (dir && tells_members depth) known)
    ends_behind None x q dir known home given few some is =
        ends_as (λ y t. let (ps, these, tells) = t in (ps, subst (λ (zs : List PathText). AreListed w q None zs) (sym these) members_alone, tells)) (ends_members x q dir known home few is)
    ends_behind (Some Zero) x q dir known home given few some is =
        ends_as (λ y t. let (ps, these, tells) = t in (ps, subst (λ (zs : List PathText). AreListed w q (Some Zero) (q ∷ zs)) (sym these) itself, tells)) (silent x (room_at q) q dir known)
    ends_behind (Some One) x q dir known home given few some is =
        ends_as (λ y t. let (ps, these, tells) = t in (ps, subst (λ (zs : List PathText). AreListed w q (Some One) (q ∷ zs)) (sym these) with_members, tells)) (ends_members x q dir known home few is)
    ends_behind (Some Infinity) x q dir known home given few some is =
        ends_as (λ y t. let (ps, these, tells) = t in (ps, with_all_below these, tells)) (ends_all (2 ^ 64) few (room_at q) x q dir known home (reached q) some is)
    ends_behind (Some Default) x q dir known home given few some is = absurd given

    whole : (depth : Option Depth) (x : Writer) (q : PathText) (one more : Responses) → TellsSome (λ ps. ps ≡ itself_at depth q) one → TellsSome (Behind depth q) more
        → ListAll prefix w q depth (filter (is_named (codes "response")) (one.0 ++ more.0))
    whole depth x q one more (ps, these, tells) (qs, listed, others) =
        (itself_at depth q ++ qs, listed, told_of (subst (λ (zs : List PathText). AreTold (zs ++ qs) (one.0 ++ more.0)) these (told_more tells others)))

    abbrev of_depth : Option Depth → Bool → FindHeaders
    of_depth depth test = record { depth = depth; is_test = test }

    ends_found : (depth : Option Depth) (test : Bool) (headers : Headers) (q : PathText) (location : List Header) (content : Body) (who : Caller) (m : DavMetaData)
        → IsHome prefix q → IsGiven depth → HasFewNames depth w q → is_missing w (names q) ≡ false → m.dir ≡ is_folder w (names q)
        → Ends Known (λ (r : Reply). ListAll prefix w q depth (responses_in r.body)) (propfind_found (of_depth depth test) headers q location content who m)
    ends_found depth test headers q location content who m home given few some is =
        ends_then (required (query_in content) dav.XmlParseError) _ (λ query _.
        ends_bind _ (ends_itself depth (writer query.0 headers who.principal query.1) q m home) (λ one told.
        ends_bind _ (ends_behind depth (writer query.0 headers who.principal query.1) q m.dir one.1 home given few some is) (λ more others.
        ends_ok (subst (ListAll prefix w q depth) (sym (among (writer query.0 headers who.principal query.1) (one.0 ++ more.0)))
        (whole depth (writer query.0 headers who.principal query.1) q one more told others)))))

    few_as : (depth : Option Depth) (p q : PathText) → names q ≡ names p → HasFewNames depth w p → HasFewNames depth w q
    few_as None p q same few = subst (λ (ns : Path). length ns < 2 ^ 64) (sym same) few
    few_as (Some Zero) p q same few = subst (λ (ns : Path). length ns < 2 ^ 64) (sym same) few
    few_as (Some One) p q same few = subst (λ (ns : Path). length ns < 2 ^ 64) (sym same) few
    few_as (Some Default) p q same few = subst (λ (ns : Path). length ns < 2 ^ 64) (sym same) few
    few_as (Some Infinity) p q same few = few

    -- of a reply of 207
    abbrev Lists : Option Depth → PathText → Reply → Type 0
    Lists depth p r = r.status ≡ 207 → ListAll prefix w (path_in w p) depth (responses_in r.body)

    ends_answered : (depth : Option Depth) (test : Bool) (headers : Headers) (p : PathText) (content : Body) (who : Caller) (m : DavMetaData)
        → IsHome prefix p → IsGiven depth → HasFewNames depth w p → SaidIn w (Metadata (names p)) (Ok m)
        → Ends Known (Lists depth p) (propfind_found (of_depth depth test) headers (closed m.dir p) (location_found (Some m) p) content who m)
    ends_answered depth test headers p content who m home given few says =
        let is = folder_said (names p) m says in
        let kept : names (closed m.dir p) ≡ names p = names_closed m.dir p (plain_other p home.place.plain) in
        subst (λ (d : Bool). Ends Known (λ (r : Reply). r.status ≡ 207 → ListAll prefix w (closed d p) depth (responses_in r.body)) (propfind_found (of_depth depth test) headers (closed m.dir p) (location_found (Some m) p) content who m)) is
        (ends_as (λ r all _. all)
        (ends_found depth test headers (closed m.dir p) (location_found (Some m) p) content who m (closed_home prefix p m.dir home) given (few_as depth p (closed m.dir p) kept few)
        (ap (is_missing w) kept ∙ found_there (names p) m says) (is ∙ ap (is_folder w) (sym kept))))

    ends_if : (b : Bool) (depth : Option Depth) (test : Bool) (headers : Headers) (p : PathText) (content : Body) (who : Caller)
        → IsHome prefix p → IsGiven depth → HasFewNames depth w p → Ends Known (Lists depth p) (propfind_if b (of_depth depth test) headers p content who)
    ends_if false depth test headers p content who home given few = ends_ok (λ status. absurd (omega (arith, status)))
    ends_if true depth test headers p content who home given few =
        ends_ask {c = Metadata (names p)} tt (λ answer says.
        ends_then (refused_as dav.FsError answer) _ (λ m is. ends_answered depth test headers p content who m home given few (said_of answer m is says.1)))
      where
        said_of : (answer : Result DavMetaData FsError) (m : DavMetaData) → refused_as dav.FsError answer ≡ Ok m → SaidIn w (Metadata (names p)) answer → SaidIn w (Metadata (names p)) (Ok m)
        said_of (Ok found) m is says = (let same : found ≡ m = cc in subst (λ (y : DavMetaData). SaidIn w (Metadata (names p)) (Ok y)) same says)
        said_of (Err e) m is says = cc

no_text : (o : Option (List ℕ)) → IsSomeAnd o (λ text. ⊥) → ⊥
no_text None is = is
no_text (Some text) is = is

given_by : (values : List FieldValue) (depth : Option Depth) → Decodes IsDepth values depth → IsGiven depth
given_by values None read = tt
given_by values (Some Zero) read = tt
given_by values (Some One) read = tt
given_by values (Some Infinity) read = tt
given_by values (Some Default) read = no_text (only_text values) read

pub listings_are_whole : ListingsAreWhole
listings_are_whole prefix target headers depth p content who plan old new ls ms r served is world read few (is_propfind h are) ran status =
    let one : h.depth ≡ depth = decoded_one IsDepth (get_all headers (codes "depth")) (one_depth (get_all headers (codes "depth"))) h.depth depth are.depth read in
    let same : h ≡ record { depth = depth; is_test = h.is_test } = λ i. record { depth = one i; is_test = h.is_test } in
    ends_ran old.world (listing_says old.world world)
    (ends_if old.world world prefix served (is_served_depth (record { depth = depth; is_test = h.is_test })) depth h.is_test headers p content who (target_home prefix target p is) (given_by (get_all headers (codes "depth")) depth read) few) refl
    (subst (λ (k : FindHeaders). Ran AsksListing (propfind k headers p content who) old ls (Ok r) new ms) same ran) status
