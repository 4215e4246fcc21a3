-- Scripts of calls, computed.
use Rattle.std.proofs.Common.{◌≡◌, [], ◌∷◌, true, false, Some, None, Result, Ok, Err, refl}
use Rattle.dav_core.specs.declared.errors.FsError.{FsError}
use Rattle.dav_core.specs.declared.errors.FsError.TheVariants.{Exists, NotFound, Forbidden, GeneralFailure}
use Rattle.dav_core.specs.World.{World, empty_from, last_number}
use Rattle.dav_core.specs.Handle.{Opening, opened}
use Rattle.dav_core.specs.Meaning.{Meaning}
use Rattle.dav_core.specs.Calls.{metadata, read_dir, create_dir, remove_dir, remove_file, rename, copy, open_file, read_bytes, write_bytes}

abbrev after : {A : Type 0} → World → Meaning A → World
after w (Ok (a, new)) = new
after w (Err e) = w

abbrev answer : {A : Type 0} → Meaning A → Result A FsError
answer (Ok (a, w)) = Ok a
answer (Err e) = Err e

-- for writing; made where nothing is, and emptied where something is
abbrev to_write : Opening
to_write = record { read = false; write = true; append = false; truncate = true; create = true; create_new = false; size = None; checksum = None }

-- for reading and writing at the end of what is there
abbrev to_append : Opening
to_append = record { read = true; write = false; append = true; truncate = false; create = false; create_new = false; size = None; checksum = None }

-- /d and /d/a, in which `one` is written once: its number is 3
abbrev folder_made : World
folder_made = after (empty_from 1) (create_dir (empty_from 1) ((100 ∷ []) ∷ []) 1)

abbrev file_made : World
file_made = after folder_made (open_file folder_made ((100 ∷ []) ∷ (97 ∷ []) ∷ []) to_write 1)

abbrev file_written : World
file_written = after file_made (write_bytes file_made (opened 2 to_write) (111 ∷ 110 ∷ 101 ∷ []) 1)

writes_once : answer (metadata file_written ((100 ∷ []) ∷ (97 ∷ []) ∷ [])) ≡ Ok (record { len = 3; dir = false; created = 1; modified = 1; number = Some 3 })
writes_once = refl

lists_the_file : answer (read_dir file_written ((100 ∷ []) ∷ [])) ≡ Ok ((97 ∷ [], false) ∷ [])
lists_the_file = refl

lists_the_folder : answer (read_dir file_written []) ≡ Ok ((100 ∷ [], true) ∷ [])
lists_the_folder = refl

keeps_its_folder : answer (remove_dir file_written ((100 ∷ []) ∷ []) 2) ≡ Err Exists
keeps_its_folder = refl

makes_once : answer (create_dir file_written ((100 ∷ []) ∷ []) 2) ≡ Err Exists
makes_once = refl

makes_no_parent : answer (create_dir file_written ((120 ∷ []) ∷ (121 ∷ []) ∷ []) 2) ≡ Err NotFound
makes_no_parent = refl

-- after a rename from /d to /e the file keeps its number, and the open file still refers to it
abbrev renamed : World
renamed = after file_written (rename file_written ((100 ∷ []) ∷ []) ((101 ∷ []) ∷ []) 2)

moves_what_is_below : answer (metadata renamed ((101 ∷ []) ∷ (97 ∷ []) ∷ [])) ≡ Ok (record { len = 3; dir = false; created = 1; modified = 1; number = Some 3 })
moves_what_is_below = refl

leaves_nothing : answer (metadata renamed ((100 ∷ []) ∷ [])) ≡ Err NotFound
leaves_nothing = refl

refuses_a_place_below : answer (rename file_written ((100 ∷ []) ∷ []) ((100 ∷ []) ∷ (120 ∷ []) ∷ []) 2) ≡ Err Forbidden
refuses_a_place_below = refl

-- the open file follows: what is appended goes to the end, and the position moves past it
appends : answer (write_bytes renamed (opened 2 to_append) (33 ∷ []) 3) ≡ Ok (record (opened 2 to_append) { position = 4 })
appends = refl

abbrev appended : World
appended = after renamed (write_bytes renamed (opened 2 to_append) (33 ∷ []) 3)

reads_it_whole : answer (read_bytes appended (opened 2 to_append) 9) ≡ Ok (111 ∷ 110 ∷ 101 ∷ 33 ∷ [], record (opened 2 to_append) { position = 4 })
reads_it_whole = refl

reads_a_part : answer (read_bytes appended (record (opened 2 to_append) { position = 1 }) 2) ≡ Ok (110 ∷ 101 ∷ [], record (opened 2 to_append) { position = 3 })
reads_a_part = refl

-- a copy has a number of its own
abbrev copied : World
copied = after file_written (copy file_written ((100 ∷ []) ∷ (97 ∷ []) ∷ []) ((100 ∷ []) ∷ (98 ∷ []) ∷ []) 5)

copies_bytes : answer (metadata copied ((100 ∷ []) ∷ (98 ∷ []) ∷ [])) ≡ Ok (record { len = 3; dir = false; created = 5; modified = 5; number = Some 4 })
copies_bytes = refl

-- a removed file can't be written
abbrev removed : World
removed = after file_written (remove_file file_written ((100 ∷ []) ∷ (97 ∷ []) ∷ []) 2)

loses_the_open_file : answer (write_bytes removed (opened 2 to_write) (33 ∷ []) 3) ≡ Err NotFound
loses_the_open_file = refl

-- where no number is left nothing is made; with one left a file is made and stays empty
fails_without_number : answer (open_file (empty_from last_number) ((102 ∷ []) ∷ []) to_write 1) ≡ Err GeneralFailure
fails_without_number = refl

abbrev nearly_used_up : World
nearly_used_up = empty_from 18446744073709551614

abbrev used_up : World
used_up = after nearly_used_up (open_file nearly_used_up ((102 ∷ []) ∷ []) to_write 1)

fails_after_the_last : answer (write_bytes used_up (opened 18446744073709551614 to_write) (120 ∷ []) 1) ≡ Err GeneralFailure
fails_after_the_last = refl

is_left_empty : answer (metadata used_up ((102 ∷ []) ∷ [])) ≡ Ok (record { len = 0; dir = false; created = 1; modified = 1; number = Some 18446744073709551614 })
is_left_empty = refl
