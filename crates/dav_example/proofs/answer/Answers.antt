use Rattle.std.proofs.Common.{◌≡◌, List, ℕ, None, sym, subst}
use Rattle.http_server.specs.declared.response.Response.{Response}
use Rattle.dav_http.specs.Presented.{IsShown}
use Rattle.dav_http.specs.Room.{room_of}
use Rattle.dav_http.specs.Steps.{IsStepFor}
use Rattle.dav_example.specs.Example.{IsAnswered, anna, headless, shown}
use Rattle.dav_example.proofs.answer.Goals as goal
use Rattle.dav_example.proofs.answer.Goals.{in-Some+in_ok-present-in-Some, in-None+in_ok-send-in-None}

pub returns : goal.returns
returns c =
    let head = c.args.head.now in
    let old = c.args.server.now.server in
    let new = c.handle.new.self.server in
    let reply = c.in_ok-reply.reply in
    let cloned : IsStepFor head c.in_ok-clone.field-0 anna old reply new = c.in_ok-reply.ensures.step in
    let step : IsStepFor head c.args.body anna old reply new = subst (λ (body : List ℕ). IsStepFor head body anna old reply new) c.in_ok-clone.ensures.cases cloned in
    elim c.match-read.branch [
      | in-Some+in_ok-present-in-Some w ↦
          let is : IsShown w.in-Some.read c.args.body 1000000000 (room_of new None 1000000) reply w.present.new.response =
          subst (λ (body : List ℕ). IsShown w.in-Some.read body 1000000000 (room_of new None 1000000) reply w.present.new.response) w.as_slice-bytes.ensures w.in_ok-present-in-Some.ensures in
          subst (λ (sent : Response). IsAnswered old head c.args.body sent new) (sym w.response-is) (shown reply w.in-Some.read step w.in-Some.ensures is)
      | in-None+in_ok-send-in-None w ↦
          subst (λ (sent : Response). IsAnswered old head c.args.body sent new) (sym w.response-is) (headless reply step w.in-None.ensures w.in_ok-send-in-None.ensures)
    ]
