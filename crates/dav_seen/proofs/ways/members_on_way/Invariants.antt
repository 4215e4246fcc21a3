use Rattle.std.proofs.Common.{◌≡◌, map, take, true}
use Rattle.std.specs.List.{filter}
use Rattle.std.specs.Option.{option_copied}
use Rattle.dav_engine.specs.Folder.{child_of}
use Rattle.dav_seen.specs.Ways.{is_way}
use Rattle.dav_seen.proofs.ways.members_on_way.Given as goal

abbrev pub invariant-loop-name : goal.invariant-loop-name
invariant-loop-name l =
    l.found.items
    ≡ filter (is_way l.rules (option_copied l.who) l.handler.server.state.store.world) (map (λ name. child_of l.path name true) (map (λ n. n.now) (take l.name-index l.members)))
