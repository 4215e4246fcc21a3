-- The entity tag of a file or folder, and how a file is opened.
use Rattle.std.specs.Prelude.{ℕ, ◌++◌, false, List, [], ◌∷◌, None, string_bytes}
use Rattle.std.specs.Option.{option_map}
use Rattle.std.specs.Fmt.{digits}
use Rattle.dav_core.specs.declared.fs.OpenOptions.{OpenOptions}
use Rattle.dav_core.specs.Handle.{Opening}

-- an entity tag: a change number in lower-case hexadecimal, in quotes (RFC 9110, section 8.8.3)
abbrev pub tag_of : ℕ → List ℕ
tag_of number = 34 ∷ (digits 16 false number ++ 34 ∷ [])

-- How the options of a call open a file.
abbrev pub opening_of : OpenOptions → Opening
opening_of o = record {
  read = o.read;
  write = o.write;
  append = o.append;
  truncate = o.truncate;
  create = o.create;
  create_new = o.create_new;
  size = o.size;
  checksum = option_map string_bytes o.checksum;
}

-- no option is set
abbrev pub no_opening : Opening
no_opening = record { read = false; write = false; append = false; truncate = false; create = false; create_new = false; size = None; checksum = None }
