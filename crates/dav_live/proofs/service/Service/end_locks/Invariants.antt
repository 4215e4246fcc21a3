use Rattle.std.proofs.Common.{◌≡◌}
use Rattle.dav_live.specs.Runs.{GoesOn}
use Rattle.dav_live.specs.Serving.{EndsLocks, admission_of, held_of, kept_of, logins_of}
use Rattle.dav_live.proofs.service.Service.end_locks.Given as goal

abbrev pub invariant-loop : goal.invariant-loop
invariant-loop g l =
    EndsLocks g.H.Handles.answers g.H.Ends.ends (admission_of l.fn.self).moment (held_of l.fn.self) (held_of l.self)
    × (admission_of l.self ≡ admission_of l.fn.self) × (logins_of l.self ≡ logins_of l.fn.self)
    × GoesOn g.H.Handles.answers g.J.Keeps.is_clean g.J.Keeps.kept (kept_of l.fn.self) (kept_of l.self)
