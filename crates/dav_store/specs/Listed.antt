-- What contracts see of an entry of a listing.
use Rattle.std.specs.Prelude.{ℕ, Bool, List}
use Rattle.dav_core.specs.Path.{Path}
use Rattle.dav_store.specs.declared.memfs.MemEntry.{MemEntry}

-- of an entry of a listing: the path of the folder that was listed
abbrev pub folder_listed : MemEntry → Path
folder_listed e = e.folder

-- of an entry of a listing: its name in the folder that was listed
abbrev pub name_listed : MemEntry → List ℕ
name_listed e = e.name

-- of an entry of a listing: whether it was a folder
abbrev pub was_folder : MemEntry → Bool
was_folder e = e.dir
