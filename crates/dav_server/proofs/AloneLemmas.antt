-- The holder's turns among others.
use Rattle.std.proofs.Common.{List, [], ◌∷◌, inl, inr, refl, ap}
use Rattle.std.proofs.lemmas.List.Elements.{All-head, All-tail}
use Rattle.dav_server.specs.Isolation.{alone_none, alone_other, alone_own, IsKnown, KnownHaveAlone, TurnsHaveAlone, OneAlone}
use Rattle.dav_server.specs.Run.{Turn}

pub known_have_alone : KnownHaveAlone
known_have_alone h [] known = ([], alone_none)
known_have_alone h (t ∷ ts) known =
    let (us, alone) = known_have_alone h ts (All-tail (IsKnown h) t ts known) in
    elim (All-head (IsKnown h) t ts known) [
      | inl named ↦ (t ∷ us, alone_own named alone)
      | inr other ↦ (us, alone_other other alone)
    ]

pub turns_have_alone : TurnsHaveAlone
turns_have_alone h [] without = without [] alone_none
turns_have_alone h (t ∷ ts) without =
    turns_have_alone h ts (λ us alone. without us (alone_other (λ named. without (t ∷ us) (alone_own named alone)) alone))

pub one_alone : OneAlone
one_alone h [] us vs alone_none alone_none = refl
one_alone h (t ∷ ts) us vs (alone_other one more) (alone_other two rest) = one_alone h ts us vs more rest
one_alone h (t ∷ ts) us vs (alone_other one more) (alone_own two rest) = absurd (one two)
one_alone h (t ∷ ts) us vs (alone_own one more) (alone_other two rest) = absurd (two one)
one_alone h (t ∷ ts) us vs (alone_own {us = some} one more) (alone_own {us = others} two rest) = ap (λ (l : List Turn). t ∷ l) (one_alone h ts some others more rest)
