use Rattle.std.proofs.Common.{◌≡◌, [], List, subst, sym, ◌∙◌}
use Rattle.std.proofs.lemmas.Option.{MatchOption-at_none, MatchOption-at_some}
use Rattle.dav_core.specs.Path.{PathText}
use Rattle.dav_shards.specs.Shards.{IsElsewhere}
use Rattle.dav_shards.specs.declared.parts.Part.{Part}
use Rattle.dav_shards.proofs.PartLemmas.{all_told, no_folders, told, unread_told}
use Rattle.dav_shards.proofs.parts.elsewhere_in.Goals as goal

pub returns-then-is_empty : goal.returns-then-is_empty
returns-then-is_empty c =
    let none : c.args.folders.now ≡ [] = no_folders c.args.folders.now (sym c.is_empty.ensures ∙ c.if-is_empty.true) in
    subst (λ (fs : List PathText). (p : Part) → ¬ IsElsewhere fs c.args.prefix.now c.args.head.now p) (sym none) (all_told c.args.prefix.now c.args.head.now)

pub returns-in-Some : goal.returns-in-Some
returns-in-Some c =
    told c.args.folders.now c.args.prefix.now c.args.head.now c.in-Some.asked
    (λ s x at is. MatchOption-at_some _ _ c.in-Some.asked c.in-Some.is (c.in_ok-asked.ensures s x at is)) c.elsewhere.result c.elsewhere.ensures

pub returns-in-None : goal.returns-in-None
returns-in-None c =
    unread_told c.args.folders.now c.args.prefix.now c.args.head.now (λ s x at is. MatchOption-at_none _ _ c.in-None.is (c.in_ok-asked.ensures s x at is))
