-- What holds of worlds and of the calls of a store: the statements of the laws.
use Rattle.std.specs.Prelude.{◌≡◌, ◌≢◌, ◌++◌, ℕ, ◌<◌, ◌≤◌, ◌↔◌, ⊤, Bool, true, false, T, if◌then◌else◌, List, [], ◌∷◌, All, Contains, Option, Some, None, Result, Ok, Err}
use Rattle.std.specs.Option.{option_map, option_or, option_and_then, unwrap_or}
use Rattle.std.specs.FinMap.{find, put, is_sorted}
use Rattle.dav_core.specs.declared.errors.FsError.{FsError}
use Rattle.dav_core.specs.declared.errors.FsError.TheVariants.{Exists, Forbidden}
use Rattle.dav_core.specs.declared.fs.DavMetaData.{DavMetaData}
use Rattle.dav_core.specs.Path.{Path, name_cmp, path_cmp, is_same_path, rest_after, is_at_or_under, is_root, parent_of, IsName}
use Rattle.dav_core.specs.World.{World, Node, Nodes, node_at, is_missing, is_folder, has_members, prune, graft, union, moved, members, adjust, touched, modified_at, file_made_with, is_folder_kind, last_moment, IsWorld}
use Rattle.dav_core.specs.Handle.{Handle, Opening}
use Rattle.dav_core.specs.Asking.{Call, Metadata, EntryMetadata, CreateDir, RemoveDir, RemoveFile, Rename, Copy, PatchProps, Open, Write, FileMetadata, Answer, meaning, StoreState, Asks, ask, rest_of, next_refusal}

-- after a prune of p nothing is at p or below it, and everything else is as before
abbrev pub PruneLeaves : Type 0
PruneLeaves = (p q : Path) (ns : Nodes) → find path_cmp q (prune p ns) ≡ (if is_at_or_under q p then None else find path_cmp q ns)

-- after a change at p the node there is changed, and everything else is as before
abbrev pub AdjustChanges : Type 0
AdjustChanges =
    (p : Path) (f : Node → Node) (q : Path) (ns : Nodes)
    → find path_cmp q (adjust p f ns) ≡ (if is_same_path p q then option_map f (find path_cmp q ns) else find path_cmp q ns)

-- at each path a union has the node of the first of the two, and else that of the second
abbrev pub UnionHasBoth : Type 0
UnionHasBoth = (es ns : Nodes) (q : Path) → find path_cmp q (union es ns) ≡ option_or (find path_cmp q es) (find path_cmp q ns)

-- a graft of p to t has at t and below it what was at p and below it, and nothing else
abbrev pub GraftMoves : Type 0
GraftMoves = (p t q : Path) (ns : Nodes) → find path_cmp q (graft p t ns) ≡ option_and_then (λ rest. find path_cmp (p ++ rest) ns) (rest_after t q)

-- After a move, `to` and the paths below it have what was at `from` and below it, and nothing else; nothing is left
-- at `from` or below it; and everything else is as before.
abbrev pub MovedStands : Type 0
MovedStands =
    (from to q : Path) (ns : Nodes)
    → find path_cmp q (moved from to ns) ≡ option_or (option_and_then (λ rest. find path_cmp (from ++ rest) ns) (rest_after to q))
    (if is_at_or_under q to then None else if is_at_or_under q from then None else find path_cmp q ns)

-- a touch of p sets when the node at its parent was last changed, and leaves everything else as before
abbrev pub TouchedIsModified : Type 0
TouchedIsModified =
    (p : Path) (now : ℕ) (q : Path) (ns : Nodes)
    → find path_cmp q (touched p now ns) ≡ (if is_same_path (parent_of p) q then option_map (modified_at now) (find path_cmp q ns) else find path_cmp q ns)

-- a node that was put at p is there, and everything else is as before
abbrev pub PutStands : Type 0
PutStands = (p : Path) (n : Node) (q : Path) (ns : Nodes) → find path_cmp q (put path_cmp p n ns) ≡ (if is_same_path q p then Some n else find path_cmp q ns)

-- nodes that are in order of their paths are still in order after the change
abbrev pub KeepsOrder : (Nodes → Nodes) → Type 0
KeepsOrder change = (ns : Nodes) → T (is_sorted path_cmp ns) → T (is_sorted path_cmp (change ns))

-- `prune` keeps nodes in the order of their paths.
abbrev pub PruneKeepsOrder : Type 0
PruneKeepsOrder = (p : Path) → KeepsOrder (prune p)

-- `graft` gives nodes in the order of their paths where it is given such.
abbrev pub GraftKeepsOrder : Type 0
GraftKeepsOrder = (p t : Path) → KeepsOrder (graft p t)

-- A union is in the order of its paths where the second of the two lists is, whatever the order of the first.
abbrev pub UnionKeepsOrder : Type 0
UnionKeepsOrder = (es : Nodes) → KeepsOrder (union es)

-- `moved` keeps nodes in the order of their paths.
abbrev pub MovedKeepsOrder : Type 0
MovedKeepsOrder = (from to : Path) → KeepsOrder (moved from to)

-- `adjust` keeps nodes in the order of their paths.
abbrev pub AdjustKeepsOrder : Type 0
AdjustKeepsOrder = (p : Path) (f : Node → Node) → KeepsOrder (adjust p f)

-- a path at which a node may be: names only, whose bytes are below 256
abbrev pub IsStorable : Path → Type 0
IsStorable p = All IsName p × All (All (λ b. b < 256)) p

-- A call that a caller may make: each path at which it may put something is one where a node may be, and each moment that
-- it may store can be shown as an HTTP date (RFC 9110, section 5.6.7).
abbrev pub IsProper : Call → Type 0
IsProper (CreateDir p now) = IsStorable p × (now ≤ last_moment)
IsProper (RemoveDir p now) = now ≤ last_moment
IsProper (RemoveFile p now) = now ≤ last_moment
IsProper (Rename from to now) = IsStorable to × (now ≤ last_moment)
IsProper (Copy from to now) = IsStorable to × (now ≤ last_moment)
IsProper (Open p how now) = IsStorable p × (now ≤ last_moment)
IsProper (Write file bytes now) = now ≤ last_moment
IsProper _ = ⊤

-- a world stays a world after each call that a caller may make (RFC 4918, section 5.1)
abbrev pub CallsKeepWorlds : Type 0
CallsKeepWorlds = (call : Call) (w : World) (r : Answer call × World) → IsProper call → IsWorld w → meaning call w ≡ Ok r → IsWorld r.1

-- The next change number never falls in a call.
abbrev pub NumbersRise : Type 0
NumbersRise = (call : Call) (w : World) (r : Answer call × World) → meaning call w ≡ Ok r → w.next ≤ r.1.next

-- The time of creation and that of the last change can be shown as HTTP dates (RFC 9110, section 5.6.7).
abbrev pub TimesAreDates : DavMetaData → Type 0
TimesAreDates told = (told.created ≤ last_moment) × (told.modified ≤ last_moment)

-- where a call answers the metadata of a node, its times can be shown as HTTP dates
abbrev pub ShowsTimes : (call : Call) → Answer call → Type 0
ShowsTimes (Metadata p) told = TimesAreDates told
ShowsTimes (EntryMetadata p) told = TimesAreDates told
ShowsTimes (FileMetadata file) told = TimesAreDates told
ShowsTimes _ _ = ⊤

-- In a world, the times that a call answers can be shown as HTTP dates (RFC 9110, section 5.6.7).
abbrev pub TimesAreShown : Type 0
TimesAreShown = (call : Call) (w : World) (r : Answer call × World) → IsWorld w → meaning call w ≡ Ok r → ShowsTimes call r.0

-- Where `short` is false after a call, it was false before, and the answer and the world afterwards are those of `ask`.
abbrev pub AskingIsDetermined : Type 0
AskingIsDetermined =
    (call : Call) (old : StoreState) (answer : Result (Answer call) FsError) (new : StoreState)
    → Asks call old answer new → new.short ≡ false → (old.short ≡ false) × ((answer, new.world) ≡ ask call old.world old.refusals)

-- an error leaves the world as it was, also where memory ran out
abbrev pub ErrorsLeaveWorlds : Type 0
ErrorsLeaveWorlds = (call : Call) (old : StoreState) (e : FsError) (new : StoreState) → Asks call old (Err e) new → new.world ≡ old.world

-- Where the list of refusals doesn't refuse the call but one of its own rules does, that error is the answer, even if memory runs out.
abbrev pub RulesComeFirst : Type 0
RulesComeFirst =
    (call : Call) (old : StoreState) (answer : Result (Answer call) FsError) (new : StoreState) (e : FsError)
    → Asks call old answer new → next_refusal old.refusals ≡ None → meaning call old.world ≡ Err e → answer ≡ Err e

-- each call uses up the head of the refusals
abbrev pub RefusalsAreUsedUp : Type 0
RefusalsAreUsedUp =
    (call : Call) (old : StoreState) (answer : Result (Answer call) FsError) (new : StoreState)
    → Asks call old answer new → new.refusals ≡ rest_of old.refusals

-- an error at the head of the refusals is the answer, and the world stays
abbrev pub RefusalIsAnswered : Type 0
RefusalIsAnswered = (call : Call) (w : World) (e : FsError) (refusals : List (Option FsError)) → ask call w (Some e ∷ refusals) ≡ (Err e, w)

-- every store can answer every call in a way that leaves `short` as it was
abbrev pub CanBeAsked : Type 0
CanBeAsked =
    (call : Call) (old : StoreState)
    → (answer : Result (Answer call) FsError) × (new : StoreState) × Asks call old answer new × (new.short ≡ old.short)

-- Looking a name up among the members of p says whether the node of this name directly below p is a folder, and finds nothing
-- where there is no such node (RFC 4918, section 5.2).
abbrev pub MembersStandBelow : Type 0
MembersStandBelow =
    (p : Path) (name : List ℕ) (ns : Nodes)
    → find name_cmp name (members p ns) ≡ option_map (λ n. is_folder_kind n.kind) (find path_cmp (p ++ name ∷ []) ns)

-- in a world the names of members strictly rise in the order of their bytes, so each is listed once (RFC 4918, section 5.2)
abbrev pub MembersRise : Type 0
MembersRise = (p : Path) (w : World) → IsWorld w → T (is_sorted name_cmp (members p w.nodes))

-- in a world a name is listed, as that of a folder or of a file, exactly where there is such a node directly below p (RFC 4918, section 5.2)
abbrev pub ListsWhatStands : Type 0
ListsWhatStands =
    (p : Path) (name : List ℕ) (dir : Bool) (w : World)
    → IsWorld w → Contains (members p w.nodes) (name, dir) ↔ ((n : Node) × (node_at w (p ++ name ∷ []) ≡ Some n) × (is_folder_kind n.kind ≡ dir))

-- Where the node at p is after a rename of `from` to `to`: in the same place below `to` if p is `from` or below it, else at p.
abbrev pub path_after : Path → Path → Path → Path
path_after from to p = unwrap_or (option_map (λ rest. to ++ rest) (rest_after from p)) p

-- where the node at p is after a call, unless the call takes it away
abbrev pub brought : Call → Path → Path
brought (Rename from to now) p = path_after from to p
brought _ p = p

-- the call takes away what is at p: it removes p, or renames another path to p
abbrev pub TakesAway : Call → Path → Type 0
TakesAway (RemoveDir q now) p = q ≡ p
TakesAway (RemoveFile q now) p = q ≡ p
TakesAway (Rename from to now) p = (from ≢ to) × (to ≡ p)
TakesAway _ p = ⊥

-- the call may change the node n at p itself: it patches p, copies to it, opens it, or writes to the file n
abbrev pub MayChange : Call → Path → Node → Type 0
MayChange (PatchProps q patches) p n = q ≡ p
MayChange (Copy from to now) p n = to ≡ p
MayChange (Open q how now) p n = q ≡ p
MayChange (Write file bytes now) p n = (file.made ≡ n.made) × (is_folder_kind n.kind ≡ false)
MayChange _ p n = ⊥

-- m is n, but for the moment of its last change
abbrev pub IsUnchanged : Node → Node → Type 0
IsUnchanged n m = m ≡ record n { modified = m.modified }

-- m is n after a call: it was created under the same change number, and is still a folder, or still a file
abbrev pub IsSameNode : Node → Node → Type 0
IsSameNode n m = (m.made ≡ n.made) × (is_folder_kind m.kind ≡ is_folder_kind n.kind)

-- After a rename of `from` to `to`, each node that wasn't at `to` or below it is where the rename moved it, or where it was,
-- with its bytes, properties and change numbers (RFC 4918, section 9.9).
abbrev pub NodesFollowRenames : Type 0
NodesFollowRenames =
    (from to : Path) (now : ℕ) (w : World) (r : Unit {0} × World) (p : Path) (n : Node)
    → meaning (Rename from to now) w ≡ Ok r → node_at w p ≡ Some n → is_at_or_under p to ≡ false
    → (m : Node) × (node_at r.1 (path_after from to p) ≡ Some m) × IsUnchanged n m

-- A node that a call doesn't take away is still there: a rename may have moved it, all other calls leave it where it was.
abbrev pub NodesStay : Type 0
NodesStay =
    (call : Call) (w : World) (r : Answer call × World) (p : Path) (n : Node)
    → IsProper call → IsWorld w → meaning call w ≡ Ok r → node_at w p ≡ Some n → ¬ TakesAway call p
    → (m : Node) × (node_at r.1 (brought call p) ≡ Some m) × IsSameNode n m

-- A node that a call neither takes away nor may change is as it was, but for the moment of its last change.
abbrev pub OthersAreUnchanged : Type 0
OthersAreUnchanged =
    (call : Call) (w : World) (r : Answer call × World) (p : Path) (n : Node)
    → IsWorld w → meaning call w ≡ Ok r → node_at w p ≡ Some n → ¬ TakesAway call p → ¬ MayChange call p n
    → (m : Node) × (node_at r.1 (brought call p) ≡ Some m) × IsUnchanged n m

-- what is there after a call and was created under an older change number was there before: nothing comes back
abbrev pub NodesWereThere : Type 0
NodesWereThere =
    (call : Call) (w : World) (r : Answer call × World) (q : Path) (m : Node)
    → IsProper call → IsWorld w → meaning call w ≡ Ok r → node_at r.1 q ≡ Some m → m.made < w.next
    → (p : Path) × (n : Node) × (node_at w p ≡ Some n) × IsSameNode n m

-- A node that a call takes away is at no path after it.
abbrev pub TakenIsGone : Type 0
TakenIsGone =
    (call : Call) (w : World) (r : Answer call × World) (p q : Path) (n m : Node)
    → IsProper call → IsWorld w → meaning call w ≡ Ok r → node_at w p ≡ Some n → TakesAway call p → node_at r.1 q ≡ Some m → m.made ≢ n.made

-- A node that has the same change number as one before the call is that node, with the same bytes (RFC 9110, section 8.8.1).
abbrev pub NumbersTellBytes : Type 0
NumbersTellBytes =
    (call : Call) (w : World) (r : Answer call × World) (p q : Path) (n m : Node)
    → IsProper call → IsWorld w → meaning call w ≡ Ok r → node_at w p ≡ Some n → node_at r.1 q ≡ Some m
    → n.number ≡ m.number → (m.made ≡ n.made) × (m.kind ≡ n.kind)

-- what has an older change number after a call had it before, and is the same node with the same bytes (RFC 9110, section 8.8.1)
abbrev pub NumbersLookBack : Type 0
NumbersLookBack =
    (call : Call) (w : World) (r : Answer call × World) (q : Path) (m : Node)
    → IsProper call → IsWorld w → meaning call w ≡ Ok r → node_at r.1 q ≡ Some m → m.number < w.next
    → (p : Path) × (n : Node) × (node_at w p ≡ Some n) × (m.number ≡ n.number) × (m.made ≡ n.made) × (m.kind ≡ n.kind)

-- in a world, the file found by the change number under which it was created is the one file at any path that has it
abbrev pub MadeStands : Type 0
MadeStands =
    (w : World) (made : ℕ) (n : Node)
    → IsWorld w
    → (file_made_with made w.nodes ≡ Some n) ↔ ((p : Path) × (node_at w p ≡ Some n) × (n.made ≡ made) × (is_folder_kind n.kind ≡ false))

-- the open file refers to the file n, which is at p
abbrev pub IsOpenOn : World → Handle → Path → Node → Type 0
IsOpenOn w file p n = (file_made_with file.made w.nodes ≡ Some n) × (node_at w p ≡ Some n)

-- an open that succeeds gives an open file that refers to the file at the path
abbrev pub OpenedStands : Type 0
OpenedStands =
    (p : Path) (how : Opening) (now : ℕ) (w : World) (r : Handle × World)
    → IsProper (Open p how now) → IsWorld w → meaning (Open p how now) w ≡ Ok r → (n : Node) × IsOpenOn r.1 r.0 p n

-- An open file refers to the same file after each call that doesn't take the file away, also where a rename moved it.
abbrev pub OpenFilesStay : Type 0
OpenFilesStay =
    (call : Call) (w : World) (r : Answer call × World) (file : Handle) (p : Path) (n : Node)
    → IsProper call → IsWorld w → meaning call w ≡ Ok r → IsOpenOn w file p n → ¬ TakesAway call p
    → (m : Node) × IsOpenOn r.1 file (brought call p) m × IsSameNode n m

-- After a call that takes its file away, an open file refers to none.
abbrev pub TakenFilesAreGone : Type 0
TakenFilesAreGone =
    (call : Call) (w : World) (r : Answer call × World) (file : Handle) (p : Path) (n : Node)
    → IsProper call → IsWorld w → meaning call w ≡ Ok r → IsOpenOn w file p n → TakesAway call p → file_made_with file.made r.1.nodes ≡ None

-- the change number by which the open file refers to its file was handed out
abbrev pub IsOpenFile : World → Handle → Type 0
IsOpenFile w file = file.made < w.next

-- A handle that an open gives refers to its file by a change number that was handed out.
abbrev pub OpenedIsOpenFile : Type 0
OpenedIsOpenFile =
    (p : Path) (how : Opening) (now : ℕ) (w : World) (r : Handle × World)
    → IsProper (Open p how now) → IsWorld w → meaning (Open p how now) w ≡ Ok r → IsOpenFile r.1 r.0

-- a handle that refers to no file refers to none after each call: its file never comes back
abbrev pub TakenNeverReturn : Type 0
TakenNeverReturn =
    (call : Call) (w : World) (r : Answer call × World) (file : Handle)
    → IsProper call → IsWorld w → meaning call w ≡ Ok r → IsOpenFile w file → file_made_with file.made w.nodes ≡ None
    → IsOpenFile r.1 file × (file_made_with file.made r.1.nodes ≡ None)

-- m is a copy of source, made at this moment, with this change number: it has the bytes and dead properties of source
pub record IsCopy (source : Node) (number now : ℕ) (m : Node) : Type 0 where
  pub kind : m.kind ≡ source.kind
  pub properties : m.properties ≡ source.properties
  pub number_is : m.number ≡ number
  pub created : m.created ≡ now
  pub modified : m.modified ≡ now

-- A copy that succeeds puts a copy of what is at `from` at `to`, with the next change number (RFC 4918, section 9.8).
abbrev pub CopyBrings : Type 0
CopyBrings =
    (from to : Path) (now : ℕ) (w : World) (r : Unit {0} × World) (source : Node)
    → meaning (Copy from to now) w ≡ Ok r → node_at w from ≡ Some source → (m : Node) × (node_at r.1 to ≡ Some m) × IsCopy source w.next now m

-- The store refuses to copy over a folder: Forbidden.
abbrev pub CopySparesFolders : Type 0
CopySparesFolders =
    (from to : Path) (now : ℕ) (w : World)
    → is_missing w from ≡ false → is_folder w to ≡ true → meaning (Copy from to now) w ≡ Err Forbidden

-- The store refuses to remove a folder that has members: Exists. (The root it refuses to remove in any case.)
abbrev pub RemovalSparesMembers : Type 0
RemovalSparesMembers =
    (p : Path) (now : ℕ) (w : World)
    → is_root p ≡ false → is_folder w p ≡ true → has_members w p ≡ true → meaning (RemoveDir p now) w ≡ Err Exists
