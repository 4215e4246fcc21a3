use Rattle.std.proofs.Common.{Bor, List, map, option_map, subst, ap, ℕ, ◌∙◌}
use Rattle.std.specs.Option.{option_copied}
use Rattle.dav_core.specs.ElementView.{node_tree}
use Rattle.dav_engine.specs.Caller.{Caller}
use Rattle.dav_seen.specs.Told.{ways_told}
use Rattle.dav_seen.specs.Ways.{AreTold, ways}
use Rattle.dav_seen.proofs.ListingLemmas.{listing_of}
use Rattle.dav_seen.proofs.reply.listing.Goals as goal

pub returns-clause-reply : goal.returns-clause-reply
returns-clause-reply c =
    let rules = c.args.rules.now in
    let s = c.args.handler.now.server in
    let p = c.args.path.now in
    let user = option_copied c.caller.inside.principal in
    let read = map node_tree c.in_ok-read.read.items in
    listing_of rules s p (option_map (λ (d : Bor (List ℕ)). d.now) c.args.depth) c.args.body.now c.args.caller.now user (map (λ (n : Bor (List ℕ)). n.now) c.in_ok-members.members.items)
    c.in_ok-paths.paths.items (option_copied c.args.propfind) c.in_ok-on_way.on_way c.in_ok-tree.tree read c.in_ok-listing_reply.field-0 (ap (λ (w : Caller). w.principal) c.caller.view_is)
    c.in_ok-members.ensures
    (c.in_ok-paths.ensures ∙ ap (λ (ms : List (Bor (List ℕ))). ways rules user s.state.store.world p (map (λ (n : Bor (List ℕ)). n.now) ms)) c.deref.ensures.value)
    (c.in_ok-on_way.ensures ∙ ap (ways_told (option_copied c.args.propfind)) c.deref-2.ensures.value)
    (subst (λ (ms : List (Bor (List ℕ))). AreTold rules s c.args.body.now c.args.caller.now p (map (λ (n : Bor (List ℕ)). n.now) ms) read) c.deref-3.ensures.value c.in_ok-read.ensures.told)
    c.in_ok-tree.ensures c.in_ok-listing_reply.ensures
