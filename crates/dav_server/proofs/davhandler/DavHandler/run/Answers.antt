use Rattle.std.proofs.Common.{◌∙◌, [], ◌+◌, map, take, drop, refl}
use Rattle.dav_server.specs.Run.{no_more}
use Rattle.dav_server.specs.Server.{turn_of}
use Rattle.dav_server.proofs.RunLemmas.{run_further, parts_of, steps_at, stops_plainly, ran_to}
use Rattle.dav_server.proofs.PromiseLemmas.{runs_promise}
use Rattle.dav_server.proofs.TurnLemmas.{ran_all, none_showable, showable_further, showable_all}
use Rattle.dav_server.proofs.davhandler.DavHandler.run.Goals as goal

pub loop-exchange-init : goal.loop-exchange-init
loop-exchange-init g c = (refl, ran_to [] _ c.new-replies.ensures.items no_more, none_showable)

pub loop-exchange-preserved : goal.loop-exchange-preserved
loop-exchange-preserved g c =
    let added = c.in-Ok.ensures.ok in (
      c.in-Ok.ensures.same ∙ c.loop-exchange.invariant.0,
      run_further turn_of c.args.exchanges.now c.loop-exchange.exchange-index c.exchange-item.result c.loop-exchange.replies.items c.answer_next.new.replies.items added.0
          c.loop-exchange-test.true c.exchange-item.is c.loop-exchange.invariant.1 added.1 (steps_at c.loop-exchange.invariant.0 added.2),
      showable_further c.args.exchanges.now c.loop-exchange.exchange-index c.exchange-item.result c.loop-exchange-test.true c.exchange-item.is c.loop-exchange.invariant.2 c.in-Ok.ensures.moment,
    )

pub returns-in-Err-clause-fault : goal.returns-in-Err-clause-fault
returns-in-Err-clause-fault g c = record {
  front = map turn_of (take c.loop-exchange.exchange-index c.args.exchanges.now);
  turn = turn_of c.exchange-item.result;
  back = map turn_of (drop (c.loop-exchange.exchange-index + 1) c.args.exchanges.now);
  was = c.loop-exchange.self.server.state;
  turns_are = parts_of turn_of c.args.exchanges.now c.loop-exchange.exchange-index c.exchange-item.result c.loop-exchange-test.true c.exchange-item.is;
  earlier = ran_to c.loop-exchange.replies.items c.answer_next.new.replies.items c.in-Err.ensures.replies c.loop-exchange.invariant.1;
  stopped = stops_plainly _ c.exchange-item.result c.loop-exchange.self.server _ c.loop-exchange.invariant.0 c.in-Err.ensures.cut;
}

pub returns-clause-promises : goal.returns-clause-promises
returns-clause-promises g c =
    runs_promise _ c.loop-exchange.self.server (map turn_of c.args.exchanges.now) _
    (showable_all c.args.exchanges.now c.loop-exchange.exchange-index c.loop-exchange-test.false c.loop-exchange.invariant.2)
    (ran_all turn_of c.args.exchanges.now c.loop-exchange.exchange-index c.loop-exchange-test.false c.loop-exchange.invariant.1)
