-- A request keeps off what it doesn't reach.
use Rattle.std.proofs.Common.{◌≡◌, ◌⊎◌, inl, inr, ◌&&◌, ◌||◌, Bool, true, false, not, codes, List, [], Option, Some, None, Result, Ok, refl, sym, ap, subst, ◌∙◌}
use Rattle.http_header.specs.HeaderMap.{get_all}
use Rattle.dav_core.specs.declared.method.DavMethod.{DavMethod}
use Rattle.dav_core.specs.declared.method.DavMethod.TheVariants.{Copy, Move}
use Rattle.dav_core.specs.Path.{Path, PathText, is_at_or_under, is_same_path, names}
use Rattle.dav_core.proofs.NodesLemmas.{path-itself}
use Rattle.dav_engine.specs.CopyMove.{DestinationNames}
use Rattle.dav_engine.specs.Sparing.{NoneUnder}
use Rattle.dav_server.specs.Head.{Request}
use Rattle.dav_server.specs.Headers.{headers_of}
use Rattle.dav_server.specs.Machine.{Exchange, Settings}
use Rattle.dav_confined.specs.Asked.{AskedView, IsAsked, IsUnread}
use Rattle.dav_confined.specs.ConfinedSteps.{KeepsOff, changes_below, changes_target}
use Rattle.dav_confined.specs.Reached.{KeepsOffUnreached, UnreadKeepsOff, changes_destination, is_at_or_under_any, reaches}
use Rattle.dav_confined.proofs.LeaveLemmas.{by_reading, place_is}

-- one of three tests that hold in two parts
first_holds : (a b c d e f : Bool) → a ≡ true → b ≡ true → not ((a && b) || ((c && d) || (e && f))) ≡ false
first_holds true true c d e f one two = refl
first_holds true false c d e f one two = cc
first_holds false b c d e f one two = cc

second_by : (o : Bool) (c d e f : Bool) → c ≡ true → d ≡ true → not (o || ((c && d) || (e && f))) ≡ false
second_by true c d e f one two = refl
second_by false true true e f one two = refl
second_by false true false e f one two = cc
second_by false false d e f one two = cc

third_by : (o p : Bool) (e f : Bool) → e ≡ true → f ≡ true → not (o || (p || (e && f))) ≡ false
third_by true p e f one two = refl
third_by false true e f one two = refl
third_by false false true true one two = refl
third_by false false true false one two = cc
third_by false false false f one two = cc

goes : (m : DavMethod) → (m ≡ Copy) ⊎ (m ≡ Move) → changes_destination m ≡ true
goes m (inl copy) = ap changes_destination copy
goes m (inr move) = ap changes_destination move

module _ (s : Settings) (x : Exchange) (a : AskedView) (asked : IsAsked s x a) where
  abbrev Off : Path → Bool
  Off q = not (reaches a q)

  at_target : changes_target a.method ≡ true → Off (names a.path) ≡ false
  at_target changes =
      let p = names a.path in
      first_holds (changes_target a.method) (is_same_path p p) (changes_below a.method) (is_at_or_under p p) (changes_destination a.method) (is_at_or_under_any p a.destination) changes (path-itself p)

  below : changes_below a.method ≡ true → NoneUnder Off (names a.path)
  below changes q under =
      second_by (changes_target a.method && is_same_path q (names a.path)) (changes_below a.method) (is_at_or_under q (names a.path)) (changes_destination a.method) (is_at_or_under_any q a.destination) changes under

  elsewhere : (d : PathText) → (a.method ≡ Copy) ⊎ (a.method ≡ Move)
      → DestinationNames a.path.prefix (get_all (headers_of asked.request.fields) (codes "destination")) (Ok d) → NoneUnder Off (names d)
  elsewhere d one named q under =
      third_by (changes_target a.method && is_same_path q (names a.path)) (changes_below a.method && is_at_or_under q (names a.path)) (changes_destination a.method) (is_at_or_under_any q a.destination)
      (goes a.method one) (ap (is_at_or_under_any q) (place_is [] s x a asked d named) ∙ under)

  off : KeepsOff Off s x
  off = record {
    target = by_reading [] s x a asked (λ r m p. changes_target m ≡ true → Off (names p) ≡ false) at_target;
    below = by_reading [] s x a asked (λ r m p. changes_below m ≡ true → NoneUnder Off (names p)) below;
    destination = λ r m p d to is named. by_reading [] s x a asked
        (λ r m p. (m ≡ Copy) ⊎ (m ≡ Move) → DestinationNames p.prefix (get_all (headers_of r.fields) (codes "destination")) (Ok d) → NoneUnder Off (names d))
        (elsewhere d) r m p to is named;
  }

pub keeps_off_unreached : KeepsOffUnreached
keeps_off_unreached = off

pub unread_keeps_off : UnreadKeepsOff
unread_keeps_off covered s x unread = record {
  target = λ r m p to changes. absurd (unread r m p to);
  below = λ r m p to changes. absurd (unread r m p to);
  destination = λ r m p d to is named. absurd (unread r m p to);
}
