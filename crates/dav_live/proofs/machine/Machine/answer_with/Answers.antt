use Rattle.std.proofs.Common.{List, subst, sym, option_map, ℕ}
use Rattle.dav_core.specs.Path.{names}
use Rattle.dav_engine.specs.Reply.{Reply}
use Rattle.dav_kept.specs.Records.{RequestView}
use Rattle.dav_server.specs.Head.{IsHead, Request}
use Rattle.dav_http.specs.Leaves.{no_head}
use Rattle.dav_server.specs.Server.{Server}
use Rattle.dav_http.specs.Presented.{IsShown}
use Rattle.dav_http.specs.Room.{room_in, room_of}
use Rattle.dav_live.specs.Answers.{headless, presented}
use Rattle.dav_live.proofs.machine.Machine.answer_with.Goals as goal

pub returns-in_default : goal.returns-in_default
returns-in_default c =
    let none : (r : Request) → ¬ IsHead c.args.request.now.head r = λ r is. c.in_default.ensures r (subst (λ (q : RequestView). IsHead q.head r) (sym c.request.view_is) is) in
    (headless none c.in_ok-send.ensures, λ left. no_head none)

pub returns : goal.returns
returns c =
    let head = subst (λ (q : RequestView). IsHead q.head c.in-Some.head) c.request.view_is c.in-Some.ensures in
    let told : Reply = c.in_ok-told.told in
    let store = c.in_ok-store.store in
    let place = option_map (λ p. names p.now) store.place in (
      presented c.in-Some.head told head c.in_ok-told.ensures place store.available
          (subst (λ (s : Server). IsShown c.in-Some.head c.args.request.now.body c.args.request.now.moment (room_of s place store.available) told c.present.new.response) c.in_ok-store.ensures
          (subst (λ (q : RequestView). IsShown c.in-Some.head q.body q.moment (room_in store) told c.present.new.response) c.request.view_is
          (subst (λ (b : List ℕ). IsShown c.in-Some.head b c.request.inside.moment (room_in store) told c.present.new.response) c.as_slice-body.ensures
          c.in_ok-present.ensures))),
      λ left. c.effect_of-effect.ensures c.args.request.now.head head left,
    )
