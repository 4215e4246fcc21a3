-- Calls leave worlds, take numbers upwards, and answer times that can be shown as HTTP dates.
use Rattle.std.proofs.Common.{◌≡◌, ◌+◌, ◌≤◌, Option, Some, None, Ok, refl, sym, ap, subst, ◌∙◌, arith}
use Rattle.dav_core.specs.declared.fs.DavMetaData.{DavMetaData}
use Rattle.dav_core.specs.Path.{Path}
use Rattle.dav_core.specs.World.{World, Node, Nodes, node_at, adjust, file_made_with, IsWorld, Renumbers}
use Rattle.dav_core.specs.Meaning.{at_node}
use Rattle.dav_core.specs.Calls.{metadata, metadata_of}
use Rattle.dav_core.specs.Asking.{Call, Metadata, ReadDir, EntryMetadata, CreateDir, RemoveDir, RemoveFile, Rename, Copy, HaveProps, PatchProps, GetProps, GetProp, GetQuota, SetAccessed, SetModified, Open, Read, Write, Seek, Flush, FileMetadata, meaning}
use Rattle.dav_core.specs.CallLaws.{CallsKeepWorlds, NumbersRise, TimesAreDates, TimesAreShown, IsProper}
use Rattle.dav_core.proofs.WorldLemmas.{new_keeps_world, change_keeps_world}
use Rattle.dav_core.proofs.CarriedLemmas.{same_keeps, without_keeps, renamed_keeps}
use Rattle.dav_core.proofs.MadeLemmas.{made_stands, change_made}
use Rattle.dav_core.proofs.StepLemmas.{Step, unchanged, makes, renumbers, writes, patches, removes, renames, steps, some_number}

-- the one node at a path is changed
pub at_path : (w : World) (p : Path) (n : Node) (f : Node → Node) → node_at w p ≡ Some n → Renumbers w.next n (f n) → (m : Node) → node_at w p ≡ Some m → Renumbers w.next m (f m)
at_path w p n f there change m h =
    let both : Some n ≡ Some m = sym there ∙ h in
    let same : n ≡ m = cc in
    subst (λ (x : Node). Renumbers w.next x (f x)) same change

step_keeps : (call : Call) (w new : World) → IsProper call → IsWorld w → Step call w new → IsWorld new
step_keeps call w new proper world (unchanged brings is) = subst IsWorld (sym is) world
step_keeps call w new proper world (makes p kind properties now none folder room sound brings is) =
    let (storable, sorted, small) = sound proper world in
    subst IsWorld (sym is) (new_keeps_world w p kind properties now world (some_number w room world.next) none folder storable.0 storable.1 sorted small)
step_keeps call w new proper world (renumbers p n f there room change may brings is) =
    subst IsWorld (sym is) (change_keeps_world w p f world (some_number w room world.next) (at_path w p n f there (change proper world)))
step_keeps call w new proper world (writes made n f stood room change may brings is) =
    let (p, there, at) = change_made made f w.nodes world.tree.sorted n stood in
    let same : new ≡ record { nodes = adjust p f w.nodes; next = w.next + 1 } = is ∙ ap (λ (ns : Nodes). record { nodes = ns; next = w.next + 1 }) at in
    subst IsWorld (sym same) (change_keeps_world w p f world (some_number w room world.next) (at_path w p n f there (change proper world)))
step_keeps call w new proper world (patches p f same may brings is) = subst IsWorld (sym is) (same_keeps w p f same world)
step_keeps call w new proper world (removes p now some small takes brings is) = subst IsWorld (sym is) (without_keeps w p now (some world) (small proper) world)
step_keeps call w new proper world (renames from to now a b out folder sound takes brings is) =
    let (storable, small) = sound proper in
    subst IsWorld (sym is) (renamed_keeps w from to now small a b out folder storable.0 storable.1 world)

pub calls_keep_worlds : CallsKeepWorlds
calls_keep_worlds call w r proper world h = step_keeps call w r.1 proper world (steps call w r h)

next_by : (call : Call) (w new : World) → Step call w new → w.next ≤ new.next
next_by call w new (unchanged brings is) = subst (λ (x : World). w.next ≤ x.next) (sym is) (omega arith)
next_by call w new (makes p kind properties now none folder room sound brings is) = subst (λ (x : World). w.next ≤ x.next) (sym is) (omega arith)
next_by call w new (renumbers p n f there room change may brings is) = subst (λ (x : World). w.next ≤ x.next) (sym is) (omega arith)
next_by call w new (writes made n f stood room change may brings is) = subst (λ (x : World). w.next ≤ x.next) (sym is) (omega arith)
next_by call w new (patches p f same may brings is) = subst (λ (x : World). w.next ≤ x.next) (sym is) (omega arith)
next_by call w new (removes p now some small takes brings is) = subst (λ (x : World). w.next ≤ x.next) (sym is) (omega arith)
next_by call w new (renames from to now a b out folder sound takes brings is) = subst (λ (x : World). w.next ≤ x.next) (sym is) (omega arith)

pub numbers_rise : NumbersRise
numbers_rise call w r h = next_by call w r.1 (steps call w r h)

told_of : (w : World) (o : Option Node) (r : DavMetaData × World) → ((n : Node) → o ≡ Some n → TimesAreDates (metadata_of n)) → at_node o (λ n. Ok (metadata_of n, w)) ≡ Ok r → TimesAreDates r.0
told_of w None r shown h = cc
told_of w (Some n) r shown h =
    let same : metadata_of n ≡ r.0 = cc in
    subst TimesAreDates same (shown n refl)

told_at : (w : World) → IsWorld w → (p : Path) (r : DavMetaData × World) → metadata w p ≡ Ok r → TimesAreDates r.0
told_at w world p r h = told_of w (node_at w p) r (λ n stood. ((world.sound p n stood).created, (world.sound p n stood).modified)) h

pub times_are_shown : TimesAreShown
unfolding meaning
times_are_shown (Metadata p) w r world h = told_at w world p r h
times_are_shown (EntryMetadata p) w r world h = told_at w world p r h
times_are_shown (FileMetadata file) w r world h =
    told_of w (file_made_with file.made w.nodes) r (λ n stood.
    let (p, there, _, _) = made_stands file.made w.nodes world.tree.sorted n stood in
    ((world.sound p n there).created, (world.sound p n there).modified)) h
times_are_shown (ReadDir p) w r world h = tt
times_are_shown (CreateDir p now) w r world h = tt
times_are_shown (RemoveDir p now) w r world h = tt
times_are_shown (RemoveFile p now) w r world h = tt
times_are_shown (Rename from to now) w r world h = tt
times_are_shown (Copy from to now) w r world h = tt
times_are_shown (HaveProps p) w r world h = tt
times_are_shown (PatchProps p changes) w r world h = tt
times_are_shown (GetProps p content) w r world h = tt
times_are_shown (GetProp p key) w r world h = tt
times_are_shown GetQuota w r world h = tt
times_are_shown (SetAccessed p time) w r world h = tt
times_are_shown (SetModified p time) w r world h = tt
times_are_shown (Open p how now) w r world h = tt
times_are_shown (Read file count) w r world h = tt
times_are_shown (Write file c now) w r world h = tt
times_are_shown (Seek file to) w r world h = tt
times_are_shown (Flush file) w r world h = tt
