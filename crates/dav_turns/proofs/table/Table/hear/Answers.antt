use Rattle.std.proofs.Common.{[], ◌∷◌, refl, ◌∙◌}
use Rattle.dav_turns.specs.Turns.{hello, opened, got, sent, gone, ticked, listed, measured}
use Rattle.std.proofs.lemmas.Result.{on_ok_weaker}
use Rattle.dav_turns.proofs.TurnLemmas.{on_ok_two, no_order, one_order}
use Rattle.dav_turns.proofs.table.Table.hear.Goals as goal

pub returns-in-0-clause-heard : goal.returns-in-0-clause-heard
returns-in-0-clause-heard g c = (
  [],
  record { ready = c.hear_clocks.new.self; passes = c.in_ok-hear_clocks.ensures; does = hello c.in-0.is c.hear_hello.ensures (refl, refl) },
  no_order c.args.orders.now.items,
)

pub returns-in-1-clause-heard : goal.returns-in-1-clause-heard
returns-in-1-clause-heard g c =
    on_ok_two c.open.result (λ opens orders. (
      record { slot = c.args.report.now.slot; next = 1; bytes = [] } ∷ [],
      record { ready = c.hear_clocks.new.self; passes = c.in_ok-hear_clocks.ensures; does = opened c.in-1.is opens refl refl },
      orders ∙ one_order c.args.orders.now.items (record { slot = c.args.report.now.slot; next = 1; bytes = [] }),
    )) c.open.ensures.opens c.open.ensures.orders

pub returns-in-2-clause-heard : goal.returns-in-2-clause-heard
returns-in-2-clause-heard g c =
    on_ok_weaker c.go_on.result (λ x. (
      x.0 ∷ [],
      record { ready = c.hear_clocks.new.self; passes = c.in_ok-hear_clocks.ensures; does = got c.in-2.is x.0 x.1 refl },
      x.2 ∙ one_order c.args.orders.now.items x.0,
    )) c.go_on.ensures.goes

pub returns-in-3-clause-heard : goal.returns-in-3-clause-heard
returns-in-3-clause-heard g c =
    on_ok_weaker c.go_on-in-3.result (λ x. (
      x.0 ∷ [],
      record { ready = c.hear_clocks.new.self; passes = c.in_ok-hear_clocks.ensures; does = sent c.in-3.is x.0 x.1 refl },
      x.2 ∙ one_order c.args.orders.now.items x.0,
    )) c.go_on-in-3.ensures.goes

pub returns-in-4-clause-heard : goal.returns-in-4-clause-heard
returns-in-4-clause-heard g c =
    on_ok_weaker c.end.result (λ x. (
      [],
      record { ready = c.hear_clocks.new.self; passes = c.in_ok-hear_clocks.ensures; does = gone c.in-4.is x refl refl },
      no_order c.args.orders.now.items,
    )) c.end.ensures.ends

pub returns-in_ok-keep_mark-in-5-clause-heard : goal.returns-in_ok-keep_mark-in-5-clause-heard
returns-in_ok-keep_mark-in-5-clause-heard g c = (
  [],
  record { ready = c.hear_clocks.new.self; passes = c.in_ok-hear_clocks.ensures; does = ticked c.in-5.is c.in_ok-keep_mark-in-5.ensures (refl, refl) },
  no_order c.args.orders.now.items,
)

pub returns-in_ok-hear_users-in-6-clause-heard : goal.returns-in_ok-hear_users-in-6-clause-heard
returns-in_ok-hear_users-in-6-clause-heard g c = (
  [],
  record { ready = c.hear_clocks.new.self; passes = c.in_ok-hear_clocks.ensures; does = listed c.in-6.is c.in_ok-hear_users-in-6.ensures (refl, refl) },
  no_order c.args.orders.now.items,
)

pub returns-in-7-clause-heard : goal.returns-in-7-clause-heard
returns-in-7-clause-heard g c = (
  [],
  record { ready = c.hear_clocks.new.self; passes = c.in_ok-hear_clocks.ensures; does = measured c.in-7.is refl (refl, refl) },
  no_order c.args.orders.now.items,
)
