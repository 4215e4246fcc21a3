-- What was served of a stream of reports so far, and more of it.
use Rattle.std.proofs.Common.{◌≡◌, ℕ, List, [], ◌++◌, drop, Option, Some, None, append-nil, refl, sym, subst}
use Rattle.std.proofs.lemmas.List.Concat.{flat_map-append}
use Rattle.std.specs.List.{flat_map}
use Rattle.std.specs.Io.KnownBytes.{Appends, Consumes, IsAtEnd}
use Rattle.http_server.proofs.KnownLemmas.{Appends-then, Consumes-then}
use Rattle.dav_turns.specs.declared.config.TurnsConfig.{TurnsConfig}
use Rattle.dav_turns.specs.Connections.{TurnsView}
use Rattle.dav_turns.specs.Frames.{Order, order_bytes}
use Rattle.dav_turns.specs.Turns.{Keeping, Server, server, Turn}
use Rattle.dav_turns.proofs.StreamLemmas.{streams_are_turns}
use Rattle.dav_live.specs.LiveRun.{HasNoReport, HasServed, ServesOn, ServesTo}

reads_none : (known : Option (List ℕ)) → Consumes known known []
reads_none None = tt
reads_none (Some bytes) = refl

writes_none : (known : Option (List ℕ)) → Appends known known []
writes_none None = tt
writes_none (Some bytes) = sym (append-nil bytes)

module _ {S : Type 0} (k : Keeping S) where
  pub none_served : (config : TurnsConfig) (reports written : Option (List ℕ)) (s : Server S) → ServesTo k config reports reports written written s s []
  none_served config reports written s = record {
    came = [];
    reads = reads_none reports;
    orders = [];
    takes = (streams_are_turns k).first config s;
    writes = writes_none written;
  }

  pub turn_served : (mid : TurnsView) (was : S) (new : TurnsView) (now : S) (unread left written all : Option (List ℕ)) (rest more after : List ℕ) (used : ℕ)
      (later : List Order) → Consumes unread left more → Turn k (rest ++ more) used mid was new now later → Appends written all (flat_map order_bytes later)
      → after ≡ drop used (rest ++ more)
      → ServesOn k mid.config unread left written all (server mid.slots was) (server new.slots now) rest after
  turn_served mid was new now unread left written all rest more after used later reads x writes is reports before old so_far =
      subst (ServesTo k mid.config reports left before all old (server new.slots now)) (sym is)
      (record {
        came = so_far.came ++ more;
        reads = Consumes-then reports unread left so_far.came more so_far.reads reads;
        orders = so_far.orders ++ later;
        takes = (streams_are_turns k).next so_far.came rest more used old mid was new now so_far.orders later so_far.takes x;
        writes = subst (Appends before all) (sym (flat_map-append order_bytes so_far.orders later))
            (Appends-then before written all (flat_map order_bytes so_far.orders) (flat_map order_bytes later) so_far.writes writes);
      })

  pub all_served : (config : TurnsConfig) (reports unread left written all : Option (List ℕ)) (old new : Server S) (rest : List ℕ)
      → ServesTo k config reports unread written all old new rest → Consumes unread left [] → IsAtEnd left → HasNoReport rest
      → HasServed k config reports left written all old new
  all_served config reports unread left written all old new rest so_far reads ends none = record {
    rest = rest;
    serves = record {
      came = so_far.came;
      reads = subst (Consumes reports left) (append-nil so_far.came) (Consumes-then reports unread left so_far.came [] so_far.reads reads);
      orders = so_far.orders;
      takes = so_far.takes;
      writes = so_far.writes;
    };
    ends = ends;
    none = none;
  }
