-- What each call of a file store means (RFC 4918, sections 5 and 9): its refusals in their order, the failure where no change
-- number is left, then the answer and the world after it.
use Rattle.std.specs.Prelude.{ℕ, ◌+◌, ◌||◌, ◌&&◌, nat_lt, Bool, not, if◌then◌else◌, List, [], length, take, drop, map, Option, Some, None, Ok, Err}
use Rattle.std.specs.FinMap.{find}
use Rattle.std.specs.declared.io.traits.SeekFrom.{SeekFrom}
use Rattle.dav_core.specs.declared.errors.FsError.TheVariants.{GeneralFailure, Exists, NotFound, Forbidden, TooLarge}
use Rattle.dav_core.specs.declared.fs.DavMetaData.{DavMetaData}
use Rattle.dav_core.specs.Element.{ElementTree}
use Rattle.dav_core.specs.Path.{Path, is_same_path, is_under, is_root, is_nonempty, parent_of}
use Rattle.dav_core.specs.Property.{Property, PropertyKey, Patch, key_cmp, patched, patched_property, without_xml, shown_property}
use Rattle.dav_core.specs.World.{World, Node, Folder, File, node_at, is_folder_kind, is_folder, is_file, is_missing, bytes_of, members, has_members, prune, moved, touched, with_new, adjust, change_node, is_file_made_with, file_made_with, splice, max_file_len}
use Rattle.dav_core.specs.Handle.{Handle, Opening, opened, write_place, place_for}
use Rattle.dav_core.specs.Meaning.{Meaning, refuse_if, at_node, numbered}

-- The metadata of a node: its length, which of a folder is 0, whether it is a folder, its times and its change number.
abbrev pub metadata_of : Node → DavMetaData
metadata_of n = record { len = length (bytes_of n.kind); dir = is_folder_kind n.kind; created = n.created; modified = n.modified; number = Some n.number }

-- The metadata of what is at p; NotFound where nothing is there (RFC 4918, sections 15.1, 15.4, 15.6 and 15.7).
abbrev pub metadata : World → Path → Meaning DavMetaData
metadata w p = at_node (node_at w p) (λ n. Ok (metadata_of n, w))

-- The names in a folder, in the order of their bytes, each with whether it is a folder; NotFound where nothing is at p,
-- Forbidden for a file (RFC 4918, section 5.2).
abbrev pub read_dir : World → Path → Meaning (List (List ℕ × Bool))
read_dir w p =
    refuse_if (is_missing w p) NotFound
    (refuse_if (is_file w p) Forbidden
    (Ok (members p w.nodes, w)))

-- Creates a folder; Exists where something is at p, NotFound where no folder is above it (RFC 4918, section 9.3).
abbrev pub create_dir : World → Path → ℕ → Meaning (Unit {0})
create_dir w p now =
    refuse_if (not (is_missing w p)) Exists
    (refuse_if (not (is_folder w (parent_of p))) NotFound
    (numbered w (λ _. Ok (tt, with_new w p Folder [] now))))

-- The world without what is at p or below it; the folder above p was changed at this moment.
abbrev pub without : World → Path → ℕ → World
without w p now = record w { nodes = touched p now (prune p w.nodes) }

-- a file is removed; NotFound where nothing is there, Forbidden for a folder (RFC 4918, section 9.6)
abbrev pub remove_file : World → Path → ℕ → Meaning (Unit {0})
remove_file w p now =
    refuse_if (is_missing w p) NotFound
    (refuse_if (is_folder w p) Forbidden
    (Ok (tt, without w p now)))

-- Removes a folder that has no members; Forbidden for the root and for a file, NotFound where nothing is there, Exists where it
-- has members (RFC 4918, section 9.6).
abbrev pub remove_dir : World → Path → ℕ → Meaning (Unit {0})
remove_dir w p now =
    refuse_if (is_root p) Forbidden
    (refuse_if (is_missing w p) NotFound
    (refuse_if (is_file w p) Forbidden
    (refuse_if (has_members w p) Exists
    (Ok (tt, without w p now)))))

-- Moves what is at `from` or below it to `to`, in the place of a file or an empty folder there; all nodes keep their change
-- numbers, and a rename to the path itself changes nothing. Forbidden where either is the root or `to` is below `from`;
-- NotFound where nothing is at `from` or no folder is above `to`; Exists where `to` is a folder with members
-- (RFC 4918, section 9.9).
abbrev pub rename : World → Path → Path → ℕ → Meaning (Unit {0})
rename w from to now =
    refuse_if (is_root from || is_root to) Forbidden
    (refuse_if (is_missing w from) NotFound
    (if is_same_path from to then Ok (tt, w) else
    (refuse_if (is_under to from) Forbidden
    (refuse_if (not (is_folder w (parent_of to))) NotFound
    (refuse_if (is_folder w to && has_members w to) Exists
    (Ok (tt, record w { nodes = touched from now (touched to now (moved from to w.nodes)) })))))))

-- The node n after a copy over it: with the bytes and dead properties of `source`, this change number, and both times now; the
-- number under which it was created stays.
abbrev pub copied_over : Node → ℕ → ℕ → Node → Node
copied_over source number now n = record { made = n.made; number = number; kind = source.kind; properties = source.properties; created = now; modified = now }

-- The world with a copy of `source` at `to`: a new node where nothing is there, else what is there with the copy over it.
abbrev pub with_copy : World → Path → Node → Option Node → ℕ → World
with_copy w to source None now = with_new w to source.kind source.properties now
with_copy w to source (Some n) now = record { nodes = adjust to (copied_over source w.next now) w.nodes; next = w.next + 1 }

-- Copies the bytes and dead properties of a file to another path. NotFound where nothing is at `from` or no folder is above
-- `to`; Forbidden where `from` or `to` is a folder, or both are the same path (RFC 4918, section 9.8).
abbrev pub copy : World → Path → Path → ℕ → Meaning (Unit {0})
copy w from to now =
    at_node (node_at w from) (λ source.
    refuse_if (is_folder_kind source.kind) Forbidden
    (refuse_if (is_same_path from to) Forbidden
    (refuse_if (is_folder w to) Forbidden
    (refuse_if (not (is_folder w (parent_of to))) NotFound
    (numbered w (λ _. Ok (tt, with_copy w to source (node_at w to) now)))))))

-- The node as a file without bytes, changed at this moment under this change number.
abbrev pub emptied : ℕ → ℕ → Node → Node
emptied number now n = record n { number = number; kind = File []; modified = now }

-- Opens the file that is there, and empties it where `truncate` is set. Forbidden for a folder; Exists where `create_new` is set.
abbrev pub open_found : World → Path → Opening → ℕ → Node → Meaning Handle
open_found w p how now n =
    refuse_if (is_folder_kind n.kind) Forbidden
    (refuse_if how.create_new Exists
    (if how.truncate
    then numbered w (λ number. Ok (opened n.made how, record { nodes = adjust p (emptied number now) w.nodes; next = w.next + 1 }))
    else Ok (opened n.made how, w)))

-- Creates an empty file and opens it, where `create` or `create_new` is set. NotFound where neither is, or no folder is above.
abbrev pub open_missing : World → Path → Opening → ℕ → Meaning Handle
open_missing w p how now =
    refuse_if (not (how.create || how.create_new)) NotFound
    (refuse_if (not (is_folder w (parent_of p))) NotFound
    (numbered w (λ number. Ok (opened number how, with_new w p (File []) [] now))))

-- Opens what was found at p, or creates it where nothing was found.
abbrev pub open_at : World → Path → Opening → ℕ → Option Node → Meaning Handle
open_at w p how now None = open_missing w p how now
open_at w p how now (Some n) = open_found w p how now n

-- Opens the file at p, or creates an empty one there if the options ask for that.
abbrev pub open_file : World → Path → Opening → ℕ → Meaning Handle
open_file w p how now = open_at w p how now (node_at w p)

-- Reads at most `count` bytes from the position on, and moves the position past them. NotFound where the file is gone,
-- Forbidden where it wasn't opened to read.
abbrev pub read_bytes : World → Handle → ℕ → Meaning (List ℕ × Handle)
read_bytes w file count =
    at_node (file_made_with file.made w.nodes) (λ n.
    let chunk = take count (drop file.position (bytes_of n.kind)) in
    refuse_if (not file.reads) Forbidden
    (Ok ((chunk, record file { position = file.position + length chunk }), w)))

-- The file with the bytes c written from k on, changed at this moment under this change number.
abbrev pub written : ℕ → List ℕ → ℕ → ℕ → Node → Node
written k c number now n = record n { number = number; kind = File (splice (bytes_of n.kind) k c); modified = now }

-- Writes the bytes at the position of the open file, or at its end where it appends; a gap is filled with zeros, and the
-- position moves past the bytes. An empty write changes nothing. NotFound where the file is gone, Forbidden where it wasn't
-- opened to write, TooLarge where the file would exceed `max_file_len`.
abbrev pub write_bytes : World → Handle → List ℕ → ℕ → Meaning Handle
write_bytes w file c now =
    at_node (file_made_with file.made w.nodes) (λ n.
    let k = write_place file (bytes_of n.kind) in
    refuse_if (not file.writes) Forbidden
    (refuse_if (nat_lt max_file_len (k + length c)) TooLarge
    (if is_nonempty c
    then numbered w (λ number. Ok (record file { position = k + length c }, record { nodes = change_node (is_file_made_with file.made) (written k c number now) w.nodes; next = w.next + 1 }))
    else Ok (file, w))))

-- The open file at a new position, and this position; GeneralFailure where there is none to move to.
abbrev pub sought : Handle → Option ℕ → World → Meaning (ℕ × Handle)
sought file None w = Err GeneralFailure
sought file (Some k) w = Ok ((k, record file { position = k }), w)

-- Moves the position of an open file, perhaps past the end. NotFound where the file is gone; GeneralFailure before 0 or past 2^64 - 1.
abbrev pub seek : World → Handle → SeekFrom → Meaning (ℕ × Handle)
seek w file to =
    at_node (file_made_with file.made w.nodes) (λ n.
    sought file (place_for to file.position (length (bytes_of n.kind))) w)

-- Flushes what was written, which changes nothing; NotFound where the file is gone.
abbrev pub flush : World → Handle → Meaning (Unit {0})
flush w file = at_node (file_made_with file.made w.nodes) (λ n. Ok (tt, w))

-- The metadata of an open file; NotFound where it is gone.
abbrev pub file_metadata : World → Handle → Meaning DavMetaData
file_metadata w file = at_node (file_made_with file.made w.nodes) (λ n. Ok (metadata_of n, w))

-- The node with its dead properties changed; neither its change number nor its times change.
abbrev pub repatched : List Patch → Node → Node
repatched patches n = record n { properties = patched patches n.properties }

-- Changes the dead properties of what is at p, and answers 200 for each, in order; NotFound where nothing is at p (RFC 4918, section 9.2).
abbrev pub patch_props : World → Path → List Patch → Meaning (List (ℕ × Property))
patch_props w p patches =
    at_node (node_at w p) (λ n.
    Ok (map (λ patch. (200, without_xml (patched_property patch))) patches, record w { nodes = adjust p (repatched patches) w.nodes }))

-- The dead properties of what is at p, in the order of namespace and name, each with its element or without; NotFound where
-- nothing is at p (RFC 4918, section 9.1).
abbrev pub get_props : World → Path → Bool → Meaning (List Property)
get_props w p content = at_node (node_at w p) (λ n. Ok (map (shown_property content) n.properties, w))

-- The element of a property that was looked up; NotFound where there is no such property, or it is stored without an element.
abbrev pub stored_tree : Option (Option ElementTree) → World → Meaning ElementTree
stored_tree None w = Err NotFound
stored_tree (Some None) w = Err NotFound
stored_tree (Some (Some tree)) w = Ok (tree, w)

-- The element of one dead property; NotFound where nothing is at p, or the property is missing or stored without an element
-- (RFC 4918, section 9.1).
abbrev pub get_prop : World → Path → PropertyKey → Meaning ElementTree
get_prop w p key = at_node (node_at w p) (λ n. stored_tree (find key_cmp key n.properties) w)
