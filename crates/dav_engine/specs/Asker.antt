-- Who a request is answered for.
use Rattle.std.specs.Prelude.{ℕ, List, Option}
use Rattle.std.specs.Option.{option_copied}
use Rattle.dav_engine.specs.declared.davinner.Asker.TheInside.{Inside}
use Rattle.dav_engine.specs.Caller.{Caller}

-- Who makes a request, where that is known, and the token for a lock that it creates.
pub record Asker : Type 0 where
  pub principal : Option (List ℕ)
  pub token : Option (List ℕ)

-- Who makes a request, as contracts see it.
abbrev pub asker_of : Inside → Asker
asker_of a = record { principal = option_copied a.principal; token = option_copied a.token }

-- Who makes a request, and that it is made at this moment.
abbrev pub caller_at : ℕ → Asker → Caller
caller_at moment who = record { principal = who.principal; moment = moment; token = who.token }
