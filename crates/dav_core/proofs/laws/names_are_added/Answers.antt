use Rattle.dav_core.proofs.PathLemmas.{slash_added, name_added}
use Rattle.dav_core.proofs.AddedLemmas.{adds_segment, slash_adds_no_name, member_is_no_star, few_names}
use Rattle.dav_core.proofs.CutLemmas.{cuts_at_names, cut_keeps_names}
use Rattle.dav_core.proofs.CutOnce.{one_cut}
use Rattle.dav_core.proofs.ParentLemmas.{names_parent, one_parent, parent_names}
use Rattle.dav_core.proofs.laws.names_are_added.Goals as goal

pub returns : goal.returns
returns c = record { slash = slash_added; name = name_added; segment = adds_segment; closed = slash_adds_no_name; member = member_is_no_star; few = few_names; parent = names_parent; cut = cuts_at_names; after = cut_keeps_names; names = parent_names; one_parent = one_parent; one_cut = one_cut }
