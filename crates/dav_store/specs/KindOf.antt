-- What a node in memory is.
use Rattle.dav_core.specs.World.{Kind, Folder as FolderKind, File as FileKind}
use Rattle.dav_store.specs.declared.node.Content.{Content}
use Rattle.dav_store.specs.declared.node.Content.TheVariants.{Folder, File}

-- what contracts see of the content of a node: a folder, or a file with its bytes
abbrev pub kind_of : Content → Kind
kind_of Folder = FolderKind
kind_of (File bytes) = FileKind bytes
