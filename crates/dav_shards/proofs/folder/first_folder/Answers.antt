use Rattle.std.proofs.Common.{◌≡◌, ◌∷◌, rules}
use Rattle.dav_core.specs.Path.{IsName}
use Rattle.dav_shards.proofs.FolderLemmas.{one_name}
use Rattle.dav_shards.proofs.folder.first_folder.Goals as goal

pub returns : goal.returns
returns c =
    let named : IsName c.args.name.now = search rules in
    let bytes : c.in_ok-from_parts.field-0.bytes ≡ 47 ∷ c.args.name.now = search rules in
    (named, one_name c.args.name.now c.in_ok-from_parts.field-0.bytes named bytes)
