use Rattle.dav_live.proofs.hosts.names_host.Goals as goal

pub returns : goal.returns
returns c = (c.host_of.result.now, c.host_of.ensures, c.is_known.ensures)
