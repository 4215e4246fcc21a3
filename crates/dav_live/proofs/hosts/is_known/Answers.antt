use Rattle.std.proofs.Common.{◌≡◌, ◌||◌, ◌∙◌, ap, sym, Bool, false, map, string_bytes}
use Rattle.std.specs.List.{list_any}
use Rattle.std.proofs.lemmas.List.Folds.{list_any-append}
use Rattle.dav_server.specs.Head.{is_same_name}
use Rattle.dav_live.specs.Hosts.{own_names}
use Rattle.dav_live.proofs.HostLemmas.{any_mapped}
use Rattle.dav_live.proofs.hosts.is_known.Goals as goal

pub returns-else-is_own : goal.returns-else-is_own
returns-else-is_own c =
    let host = c.args.host.now in
    let others : c.is_among.result ≡ list_any (is_same_name host) (map string_bytes c.args.hosts.now) =
    c.is_among.ensures ∙ any_mapped string_bytes (is_same_name host) c.args.hosts.now in
    let own : list_any (is_same_name host) own_names ≡ false = sym c.is_own.ensures ∙ c.if-is_own.false in
    let all = list_any-append (is_same_name host) own_names (map string_bytes c.args.hosts.now) in
    others ∙ sym (all ∙ ap (λ (b : Bool). b || list_any (is_same_name host) (map string_bytes c.args.hosts.now)) own)
