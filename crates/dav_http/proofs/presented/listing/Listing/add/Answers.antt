use Rattle.std.proofs.Common.{map}
use Rattle.dav_core.specs.ElementView.{node_tree}
use Rattle.dav_http.proofs.ListingLemmas.{added}
use Rattle.dav_http.proofs.presented.listing.Listing.add.Goals as goal

pub returns : goal.returns
returns c =
    let i = c.self.inside in
    added c.args.self.now (record { leaves_out = i.leaves_out; room = i.room; asked = i.asked; root = i.root; text = i.text }) c.with_nodes.result c.args.root c.args.response
    c.in_ok-told.told c.in_ok-sent.sent (map node_tree c.in_ok-told.children.items) c.add.new.self c.self.view_is c.alone.ensures.element c.in_ok-told.ensures.told c.in_ok-told.ensures.had
    c.in_ok-sent.ensures c.with_nodes.ensures c.in_ok-add.ensures
