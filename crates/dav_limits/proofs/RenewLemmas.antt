-- An amount is renewed by what a request may have changed of it.
use Rattle.std.proofs.Common.{◌≡◌, ◌+◌, ℕ, List, length, min, not, ap, MatchOption}
use Rattle.std.specs.List.{sum_by}
use Rattle.dav_core.specs.Numbers.{max_u64}
use Rattle.dav_core.specs.Path.{names}
use Rattle.dav_core.specs.World.{IsWorld}
use Rattle.dav_engine.specs.Caller.{Caller}
use Rattle.dav_engine.specs.Reply.{Reply}
use Rattle.dav_store.specs.declared.memfs.used.Amount.{Amount}
use Rattle.dav_store.specs.Used.{amount_at, amount_of, len_of}
use Rattle.dav_http.specs.Steps.{IsStepFor}
use Rattle.dav_server.specs.Server.{Server}
use Rattle.dav_confined.specs.Asked.{AskedView}
use Rattle.std.specs.Prelude.{⊤, Option, Some}
use Rattle.dav_limits.specs.declared.watches.Part.{Part}
use Rattle.dav_limits.specs.Parts.{may_change, part_of}
use Rattle.dav_limits.specs.Watches.{IsPart}
use Rattle.dav_limits.proofs.ChangeLemmas.{now_is, rest_of, was_bytes, was_files}
use Rattle.dav_limits.proofs.StepLemmas.{alike, spared}
use Rattle.dav_limits.proofs.WatchLemmas.{at_some}

module _ (head body : List ℕ) (who : Caller) (old new : Server) (reply : Reply) (asked : Option AskedView) (p : Part) (noted : IsPart old head asked p)
    (world : IsWorld new.state.store.world) (step : IsStepFor head body who old reply new) (after now : Amount)
    (o : Option Amount) (told : MatchOption o ⊤ (λ a. a ≡ amount_of (part_of (names p.path) asked new.state.store.world.nodes))) (is : o ≡ Some after)
    (files : (rest part more : ℕ) → p.amount.files ≡ rest + part → p.part.files ≡ part → after.files ≡ more → now.files ≡ rest + more)
    (bytes : (rest part more : ℕ) → p.amount.bytes ≡ min (rest + part) max_u64 → p.part.bytes ≡ min part max_u64 → after.bytes ≡ min more max_u64 → now.bytes ≡ min (rest + more) max_u64) where
  pub renewed : now ≡ amount_at (names p.path) new.state.store.world.nodes
  renewed =
      let top = names p.path in
      let test = may_change asked in
      let before = old.state.store.world.nodes in
      let then = new.state.store.world.nodes in
      let same = alike (λ q. not (may_change asked q)) old.state.store.world new.state.store.world (spared head body who old new reply asked noted.locks noted.reading noted.locked noted.world step) in
      let sorted = noted.world.tree.sorted in
      let other = world.tree.sorted in
      let counted : after ≡ amount_of (part_of top asked then) = at_some ⊤ (λ (a : Amount). a ≡ amount_of (part_of top asked then)) o after is told in
      now_is top test before then sorted other same now
      (files (length (rest_of top test before then sorted other same before)) (length (part_of top asked before)) (length (part_of top asked then))
      (was_files top test before then sorted other same p.amount noted.amount) (ap (λ (a : Amount). a.files) noted.part) (ap (λ (a : Amount). a.files) counted))
      (bytes (sum_by len_of (rest_of top test before then sorted other same before)) (sum_by len_of (part_of top asked before)) (sum_by len_of (part_of top asked then))
      (was_bytes top test before then sorted other same p.amount noted.amount) (ap (λ (a : Amount). a.bytes) noted.part) (ap (λ (a : Amount). a.bytes) counted))
