-- What is listed, by what was read of the body.
use Rattle.std.proofs.Common.{◌≡◌, ◌++◌, ℕ, Bool, false, List, Option, None, Result, IfOk, sym, ap, subst, ◌∙◌}
use Rattle.std.specs.Result.{result_ok}
use Rattle.dav_core.specs.Element.{ElementTree, children_of, with_children}
use Rattle.dav_core.specs.Path.{PathText, names}
use Rattle.dav_engine.specs.Caller.{Caller}
use Rattle.dav_engine.specs.Reply.{Reply}
use Rattle.dav_server.specs.Server.{Server}
use Rattle.dav_access.specs.Rules.{Rules}
use Rattle.dav_xml.specs.Namespaces.{document}
use Rattle.dav_seen.specs.declared.reply.Read.{Read}
use Rattle.dav_seen.specs.declared.reply.Read.TheVariants.{Nothing}
use Rattle.dav_seen.specs.Bodies.{IsRead}
use Rattle.dav_seen.specs.Told.{listing_reply, ways_told}
use Rattle.dav_seen.specs.Ways.{AreTold, IsListed, IsListedBy, IsListedIf, IsListing, is_deep, listed, names_told, ways}
use Rattle.dav_seen.proofs.ReplyLemmas.{ok_each}

-- a listing by its parts
pub listing_of : (rules : Rules) (s : Server) (p : PathText) (depth : Option (List ℕ)) (bytes : List ℕ) (who : Caller) (user : Option (List ℕ)) (members : List (List ℕ)) (paths : List PathText)
    (propfind : Option ElementTree) (on_way tree : ElementTree) (read : List ElementTree) (r : Reply)
    → user ≡ who.principal → members ≡ names_told depth rules user (names p) → paths ≡ ways rules user s.state.store.world p members → on_way ≡ ways_told propfind paths
    → AreTold rules s bytes who p members read → tree ≡ with_children on_way (children_of on_way ++ read) → r ≡ listing_reply tree → result_ok (document bytes) ≡ propfind
    → IsListing rules s p depth bytes who r
listing_of rules s p depth bytes who user members paths propfind on_way tree read r by named walked told are_told grown replied body =
    let all : members ≡ names_told depth rules who.principal (names p) = named ∙ ap (λ u. names_told depth rules u (names p)) by in
    let places : paths ≡ ways rules who.principal s.state.store.world p (names_told depth rules who.principal (names p)) =
    walked ∙ ap (λ u. ways rules u s.state.store.world p members) by ∙ ap (ways rules who.principal s.state.store.world p) all in
    let first : on_way ≡ ways_told (result_ok (document bytes)) (ways rules who.principal s.state.store.world p (names_told depth rules who.principal (names p))) =
    told ∙ ap (λ d. ways_told d paths) (sym body) ∙ ap (ways_told (result_ok (document bytes))) places in
    record {
      read = read;
      are_told = subst (λ (ms : List (List ℕ)). AreTold rules s bytes who p ms read) all are_told;
      reply = replied ∙ ap listing_reply (grown ∙ ap (λ w. with_children w (children_of w ++ read)) first);
    }

module _ (rules : Rules) (s : Server) (p : PathText) (depth : Option (List ℕ)) (bytes : List ℕ) (who : Caller) (deep : Bool) (by : deep ≡ is_deep depth) where
  -- not all below is asked for
  listed_flat : (r : Reply) → deep ≡ false → IsListedBy rules s p depth bytes who r → IsListed rules s p depth bytes who r
  listed_flat r is reply = subst (λ (d : Bool). IsListedIf d rules s p depth bytes who r) (sym is ∙ by) reply

  -- there is no body
  pub listed_nothing : {E : Type 0} (x : Read) (r : Result Reply E) → deep ≡ false → x ≡ Nothing → IsRead bytes x
      → (result_ok (document bytes) ≡ None → IfOk r (IsListing rules s p depth bytes who)) → IfOk r (IsListed rules s p depth bytes who)
  listed_nothing x r is arm taken lists =
      let here : IsRead bytes Nothing = subst (IsRead bytes) arm taken in
      ok_each (IsListing rules s p depth bytes who) (IsListed rules s p depth bytes who) r (λ a listing. listed_flat a is (listed here.1 listing)) (lists here.0)
