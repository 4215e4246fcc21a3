-- How much a request adds to what a server holds, at most, before it is run (RFC 4331, section 6; RFC 4918, section 9).
use Rattle.std.specs.Prelude.{ℕ, ◌+◌, ◌-◌, min, List, length, Option, None, Some}
use Rattle.std.specs.Option.{option_map_or, option_or}
use Rattle.dav_core.specs.Numbers.{max_u64}
use Rattle.dav_core.specs.declared.method.DavMethod.{DavMethod}
use Rattle.dav_core.specs.declared.method.DavMethod.TheVariants.{Put, Patch, MkCol, PropPatch, Copy, Move, Lock as LockMethod}
use Rattle.dav_core.specs.Path.{PathText, names, path_cmp}
use Rattle.dav_core.specs.World.{Node, Nodes}
use Rattle.std.specs.FinMap.{find}
use Rattle.dav_store.specs.declared.memfs.used.Amount.{Amount}
use Rattle.dav_store.specs.Used.{amount_alone, amount_at, file_len}
use Rattle.dav_http.specs.Setting.{set_in}

-- nothing
abbrev pub nothing : Amount
nothing = record { files = 0; bytes = 0 }

-- where a PUT or PATCH of n bytes to a file of so many ends: that it names a first byte of the file, by Content-Range or X-Update-Range, or
-- that a PATCH names none, so that at most all are added
abbrev pub end_of : DavMethod → ℕ → ℕ → Option ℕ × Option ℕ → ℕ
end_of Patch old n firsts = option_map_or (λ first. first + n) (option_or firsts.0 firsts.1) (old + n)
end_of _ old n firsts = option_map_or (λ first. first + n) firsts.0 n

-- how much a file adds that is written up to this byte, where this is there
abbrev pub added_file : Option Node → ℕ → Amount
added_file there end = record { files = 1 - (amount_alone there).files; bytes = min end max_u64 - file_len there }

-- how much a PUT or PATCH of n bytes adds, where this is there
abbrev pub added_content : DavMethod → Option Node → ℕ → Option ℕ × Option ℕ → Amount
added_content m there n firsts = added_file there (end_of m (file_len there) n firsts)

-- how much the properties add that a body sets, at most (RFC 4918, section 9.2)
abbrev pub added_properties : List ℕ → Amount
added_properties body = record { files = 0; bytes = (set_in body).bytes }

-- How much a request with this method, path and body adds: PUT, PATCH, MKCOL and LOCK a file or folder where none is; PUT and PATCH the
-- bytes by which the file gets longer; PROPPATCH the properties that it sets; COPY and MOVE what is at their path and below it; others
-- nothing.
abbrev pub added_by : Nodes → DavMethod → PathText → List ℕ → Option ℕ × Option ℕ → Amount
added_by ns Put p body firsts = added_content Put (find path_cmp (names p) ns) (length body) firsts
added_by ns Patch p body firsts = added_content Patch (find path_cmp (names p) ns) (length body) firsts
added_by ns MkCol p body firsts = added_file (find path_cmp (names p) ns) 0
added_by ns LockMethod p body firsts = added_file (find path_cmp (names p) ns) 0
added_by ns PropPatch p body firsts = added_properties body
added_by ns Copy p body firsts = amount_at (names p) ns
added_by ns Move p body firsts = amount_at (names p) ns
added_by ns _ p body firsts = nothing

-- where a method adds that: at its target, or at its destination, if there is one
abbrev pub place_by : DavMethod → PathText → Option PathText → Option PathText
place_by Put p d = Some p
place_by Patch p d = Some p
place_by MkCol p d = Some p
place_by LockMethod p d = Some p
place_by PropPatch p d = Some p
place_by Copy p d = d
place_by Move p d = d
place_by _ p d = None
