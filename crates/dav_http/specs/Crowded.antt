-- Requests that set more dead properties than a file or folder may have (RFC 4918, sections 4 and 9.2.1).
use Rattle.std.specs.Prelude.{◌≡◌, ◌⊎◌, ℕ, ◌-◌, ◌<◌, List, codes, Ok}
use Rattle.dav_core.specs.Path.{PathText, names}
use Rattle.dav_core.specs.World.{node_at}
use Rattle.dav_core.specs.declared.method.DavMethod.TheVariants.{PropPatch}
use Rattle.dav_server.specs.Head.{Request}
use Rattle.dav_server.specs.Server.{Server}
use Rattle.dav_server.specs.Target.{TargetNames}
use Rattle.dav_store.specs.Used.{properties_of}
use Rattle.dav_store.specs.declared.memfs.used.Stored.{Stored}
use Rattle.dav_http.specs.Setting.{set_in}

-- how many dead properties a file or folder may have
abbrev pub most_properties : ℕ
most_properties = 50000

-- how many bytes they may have together: 8 MiB
abbrev pub most_property_bytes : ℕ
most_property_bytes = 0x80_0000

-- these are more properties, or more bytes of them, than are left where those are there
abbrev pub AreTooMany : Stored → Stored → Type 0
AreTooMany there set = (most_properties - there.count < set.count) ⊎ (most_property_bytes - there.bytes < set.bytes)

-- a request is a PROPPATCH that sets more properties, or more bytes of them, than its target may have besides those that it has
abbrev pub IsCrowded : Server → Request → List ℕ → Type 0
IsCrowded s q body =
    (p : PathText) × (q.method ≡ codes "PROPPATCH") × TargetNames s.settings.prefix PropPatch q.target (Ok p)
    × AreTooMany (properties_of (node_at s.state.store.world (names p))) (set_in body)
